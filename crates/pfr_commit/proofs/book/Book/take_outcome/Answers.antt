use Rattle.std.proofs.Common.{◌≡◌, ◌+◌, ◌∙◌, ℕ, List, ◌++◌, ap, refl}
use Rattle.pfr_ruleset.specs.declared.interface.Interface.{Interface}
use Rattle.pfr_states.specs.Answers.{purged_at}
use Rattle.pfr_states.specs.States.{due}
use Rattle.pfr_commit.specs.Books.{job_of, world_with}
use Rattle.pfr_commit.specs.Emissions.{are_kept, frame_of, listed, purges_at}
use Rattle.pfr_commit.specs.Lines.{verdict_line}
use Rattle.pfr_commit.specs.World.{apply_by, purge_by, with_outcome}
use Rattle.pfr_commit.proofs.EmittedLemmas.{more_alike}
use Rattle.pfr_commit.proofs.StandLemmas.{outcome_leads}
use Rattle.pfr_commit.proofs.WorldLemmas.{outcome_taken}
use Rattle.pfr_commit.proofs.book.Book.take_outcome.Goals as goal

pub returns-clause-world : goal.returns-clause-world
unfolding purged_at
returns-clause-world c =
    let interfaces_are : c.as_slice.result.now ≡ (job_of c.args.self.now).rules.interfaces = c.as_slice.ensures ∙ rw (c.rules.ensures, c.deref.ensures) refl in
    let line : List Interface → List ℕ = λ interfaces. verdict_line interfaces (c.args.self.now.count + 1) c.args.clock (frame_of c.args.packet.now).place c.args.outcome.now in
    outcome_taken (job_of c.args.self.now) (world_with c.args.self.now c.args.out.now) (frame_of c.args.packet.now) c.args.clock c.args.view.now c.args.outcome.now c.purge.new.table _ _ _ _
    c.requires.view c.in_ok-purge.ensures.table c.in_ok-change.ensures.table c.count.ensures
    (c.in_ok-put.ensures.verdicts ∙ ap (λ (interfaces : List Interface). c.args.out.now.verdicts.items ++ line interfaces) interfaces_are) c.in_ok-put.ensures.packets

pub returns-clause-changes : goal.returns-clause-changes
unfolding with_outcome
returns-clause-changes c =
    c.in_ok-put.ensures.changes
    ∙ more_alike c.args.out.now.changes (λ it. (are_kept it, listed it)) (purges_at c.purge_at-purge.result) (purge_by c.args.clock (due c.args.clock c.args.self.now.table.states)) (apply_by c.args.outcome.now.change) c.purge_at-purge.ensures

pub returns-clause-told : goal.returns-clause-told
unfolding purged_at
returns-clause-told c =
    outcome_leads c.args.self.now _ c.args.out.now c.put.new.self (frame_of c.args.packet.now) c.args.clock c.args.outcome.now c.begin.new.self c.purge.new.self c.change.new.self c.purge.new.table
    c.requires.later c.in_ok-purge.ensures.table c.requires.named
    (record { begin = c.in_ok-begin.ensures.told; purge = c.in_ok-purge.ensures.told; next = c.in_ok-change.ensures.told; origin_is = c.change.ensures.origin ∙ c.purge.ensures.origin ∙ c.begin.ensures.origin })
    refl refl c.in_ok-put.ensures.messages (returns-clause-world c)
