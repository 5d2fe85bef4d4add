use Rattle.std.proofs.Common.{◌≡◌, ◌+◌, ◌<◌, ◌∙◌, ℕ, [], IfSome, Option, refl, sym, ap, subst, length, map, take, rules, arith}
use Rattle.std.specs.List.{find}
use Rattle.pfr_packet.specs.Job.{RunJob}
use Rattle.pfr_record.specs.declared.speculation.Speculation.{Speculation}
use Rattle.pfr_commit.specs.Books.{bare, job_of, untold, world_in, world_with}
use Rattle.pfr_commit.specs.Emissions.{frame_of, held_changes}
use Rattle.pfr_commit.specs.ResultsByPlace.{IsOfJob, result_at}
use Rattle.pfr_commit.specs.Results.{is_of, results_of}
use Rattle.pfr_commit.proofs.BatchLemmas.{rises_by, rises_next, takes_none, takes_part, takes_whole}
use Rattle.pfr_commit.proofs.BookLemmas.{on_err, same_job}
use Rattle.pfr_commit.proofs.EmittedLemmas.{changes_next, changes_none}
use Rattle.pfr_commit.proofs.ResultLemmas.{found_of_job}
use Rattle.pfr_commit.proofs.StandLemmas.{leads_next, leads_none}
use Rattle.pfr_commit.proofs.WorldLemmas.{batch_next, world_bare, world_none}
use Rattle.pfr_commit.proofs.book.Book.take_batch.Goals as goal

pub returns-then-self-clause-refused : goal.returns-then-self-clause-refused
returns-then-self-clause-refused g c = takes_none c.args.self.now c.args.self.now c.args.out.now c.args.packets.now (results_of c.args.groups.now) refl refl c.if-self.true

pub returns-in-Err-clause-refused : goal.returns-in-Err-clause-refused
returns-in-Err-clause-refused g c = takes_none c.args.self.now _ c.args.out.now c.args.packets.now (results_of c.args.groups.now) refl refl refl

pub loop-index-init : goal.loop-index-init
loop-index-init g c = record {
  job = refl;
  counted = omega arith;
  is_open = c.if-self.false;
  own = refl;
  world = ap untold (sym (world_none (job_of c.args.self.now) (world_with c.args.self.now c.args.out.now)));
  told = leads_none c.args.self.now c.args.out.now [] refl;
  changes = changes_none (job_of c.args.self.now) (world_in c.args.self.now) (held_changes c.args.out.now) refl;
}

pub take-requires-clause-of_job : goal.take-requires-clause-of_job
take-requires-clause-of_job g c = λ lives within known.
    let i = c.loop-index.invariant in
    let test = c.loop-index-test.true in
    let below : c.loop-index.index < length c.args.packets.now = search rules in
    let found = found_of_job (job_of c.args.self.now) (is_of (c.args.self.now.count + 1 + c.loop-index.index)) (results_of c.args.groups.now) (c.requires.of_job (sym c.in-Ok.ensures.of_job ∙ known)) in
    subst (λ (job : RunJob). IfSome (result_at c.loop-index.index c.in-Ok.results) (IsOfJob job)) (sym (same_job c.loop-index.self c.args.self.now i.job))
    (subst (λ (held : Option Speculation). IfSome held (IsOfJob (job_of c.args.self.now))) (sym (c.in-Ok.ensures.places c.loop-index.index below)) found)

pub returns-in_err-take-clause-refused : goal.returns-in_err-take-clause-refused
returns-in_err-take-clause-refused g c =
    let i = c.loop-index.invariant in
    let kept = c.in_err-take.ensures.kept in
    let test = c.loop-index-test.true in
    let below : c.loop-index.index < length c.args.packets.now = search rules in
    on_err c.from_residual.result _ (
    takes_part c.args.self.now c.loop-index.self c.take.new.self c.args.out.now c.loop-index.out c.take.new.out c.args.packets.now (results_of c.args.groups.now) c.loop-index.index
    below i.counted kept i.own i.world i.told i.changes c.in_err-take.ensures.err)

pub loop-index-preserved : goal.loop-index-preserved
loop-index-preserved g c =
    let i = c.loop-index.invariant in
    let test = c.loop-index-test.true in
    let below : c.loop-index.index < length c.args.packets.now = search rules in
    let count = c.in_ok-take.ensures.counted in
    let before = i.counted in
    let job_is = same_job c.loop-index.self c.args.self.now i.job in
    record {
      job = c.take.ensures.job ∙ i.job;
      counted = omega arith;
      is_open = c.in_ok-take.ensures.ok;
      own =
          let number : c.args.self.now.count + 1 + c.loop-index.index ≡ c.loop-index.self.count + 1 = omega arith in
          let held = c.in-Ok.ensures.places c.loop-index.index below ∙ ap (λ (n : ℕ). find (is_of n) (results_of c.args.groups.now)) number in
          rises_next (job_of c.args.self.now) (world_with c.args.self.now c.args.out.now) (results_of c.args.groups.now) c.args.packets.now c.loop-index.index c.index-packets-index.result
          c.args.self.now.own c.loop-index.self.own c.take.new.self.own below i.own
          (rises_by (job_of c.args.self.now) (job_of c.loop-index.self) _ (world_with c.loop-index.self c.loop-index.out) (results_of c.args.groups.now) c.index-packets-index.result _ (result_at c.loop-index.index c.in-Ok.results)
          c.loop-index.self.own c.take.new.self.own job_is i.world c.index-packets-index.is held c.in_ok-take.ensures.used c.in_ok-take.ensures.rerun);
      world = c.in_ok-take.ensures.world
          ∙ batch_next (job_of c.args.self.now) (job_of c.loop-index.self) (world_with c.args.self.now c.args.out.now) (world_with c.loop-index.self c.loop-index.out) (λ packet. frame_of packet.0) c.args.packets.now c.loop-index.index
          c.index-packets-index.result c.index-packets-index.result job_is i.world c.index-packets-index.is below;
      told = leads_next c.args.self.now c.loop-index.self c.take.new.self c.args.out.now c.loop-index.out c.take.new.out (λ packet. frame_of packet.0) c.args.packets.now c.loop-index.index
          c.index-packets-index.result c.index-packets-index.result job_is c.index-packets-index.is below i.told c.in_ok-take.ensures.told;
      changes =
          let left = ap bare i.world ∙ world_bare (job_of c.args.self.now) (map (λ packet. frame_of packet.0) (take c.loop-index.index c.args.packets.now)) (world_with c.args.self.now c.args.out.now) (world_in c.args.self.now) refl in
          changes_next (job_of c.args.self.now) (job_of c.loop-index.self) (world_in c.args.self.now) (world_in c.loop-index.self) (λ packet. frame_of packet.0) c.args.packets.now c.loop-index.index
          c.index-packets-index.result c.index-packets-index.result (held_changes c.args.out.now) (held_changes c.loop-index.out) (held_changes c.take.new.out) job_is left c.index-packets-index.is below i.changes c.in_ok-take.ensures.changes;
    }

pub returns-then-self-clause-over : goal.returns-then-self-clause-over
returns-then-self-clause-over g c = search rules

pub returns-clause-taken : goal.returns-clause-taken
returns-clause-taken g c =
    let i = c.loop-index.invariant in
    let end : c.loop-index.index ≡ length c.args.packets.now = search rules in
    takes_whole c.args.self.now c.loop-index.self c.args.out.now c.loop-index.out c.args.packets.now (results_of c.args.groups.now) c.loop-index.index
    end i.counted i.own i.world i.told i.changes c.if-self.false i.is_open
