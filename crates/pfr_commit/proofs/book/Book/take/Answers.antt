use Rattle.std.proofs.Common.{◌+◌, ◌∙◌, ap, refl, sym, rules}
use Rattle.pfr_headers.specs.declared.change.Change.{Change}
use Rattle.pfr_states.specs.States.{StateTable}
use Rattle.pfr_packet.specs.Steps.{step_of}
use Rattle.pfr_packet.specs.declared.outcome.Outcome.{Outcome}
use Rattle.pfr_commit.specs.Books.{job_of, untold, world_in, world_with}
use Rattle.pfr_commit.specs.Emissions.{frame_of, held_changes, with_more}
use Rattle.pfr_commit.specs.World.{World, with_outcome}
use Rattle.pfr_commit.proofs.BookLemmas.{by_either, if_some}
use Rattle.pfr_commit.proofs.StandLemmas.{taken_leads}
use Rattle.pfr_commit.proofs.WorldLemmas.{after_is}
use Rattle.pfr_commit.proofs.book.Book.take.Goals as goal

pub take_outcome-requires-clause-bytes : goal.take_outcome-requires-clause-bytes
take_outcome-requires-clause-bytes g c =
    let outcome_is = by_either c.in_ok-held.field-0.held _ c.unwrap_or-outcome.result _ c.unwrap_or-outcome.ensures c.in_ok-held.ensures.held c.in_ok-held.ensures.here in
    if_some _ c.unwrap_or-outcome.result.now.bytes (λ (change : Change) is.
    sym c.requires.view ∙ c.what_is_written_is_of_the_packet.ensures _ _ _ _ c.args.view.now _ change (ap (λ (o : Outcome). o.bytes) (sym outcome_is) ∙ is))

pub returns-clause-world : goal.returns-clause-world
returns-clause-world g c =
    let before = world_with c.args.self.now c.args.out.now in
    let frame = frame_of c.args.packet.now in
    let clock = c.later-clock.result in
    let view = c.args.view.now in
    let outcome = c.unwrap_or-outcome.result.now in
    let settled = ap (λ (t : StateTable). untold (with_outcome (job_of c.args.self.now) (record before { table = t }) frame clock outcome)) c.settle.ensures in
    let outcome_is = by_either c.in_ok-held.field-0.held _ c.unwrap_or-outcome.result _ c.unwrap_or-outcome.ensures c.in_ok-held.ensures.held c.in_ok-held.ensures.here ∙ ap (λ (t : StateTable). step_of (job_of c.args.self.now) (c.args.self.now.count + 1) clock (frame_of c.args.packet.now).place view t) c.settle.ensures in
    c.in_ok-take_outcome.ensures.world ∙ settled ∙ ap untold (after_is (job_of c.args.self.now) before frame clock view outcome c.later-clock.ensures c.requires.view outcome_is)

pub returns-clause-changes : goal.returns-clause-changes
unfolding with_outcome
returns-clause-changes g c =
    let before = world_in c.args.self.now in
    let frame = frame_of c.args.packet.now in
    let clock = c.later-clock.result in
    let view = c.args.view.now in
    let outcome = c.unwrap_or-outcome.result.now in
    let held = held_changes c.args.out.now in
    let settled = ap (λ (t : StateTable). with_more held (with_outcome (job_of c.args.self.now) (record before { table = t }) frame clock outcome).changes) c.settle.ensures in
    let outcome_is = by_either c.in_ok-held.field-0.held _ c.unwrap_or-outcome.result _ c.unwrap_or-outcome.ensures c.in_ok-held.ensures.held c.in_ok-held.ensures.here ∙ ap (λ (t : StateTable). step_of (job_of c.args.self.now) (c.args.self.now.count + 1) clock (frame_of c.args.packet.now).place view t) c.settle.ensures in
    c.in_ok-take_outcome.ensures.changes ∙ settled
    ∙ ap (λ (w : World). with_more held w.changes) (after_is (job_of c.args.self.now) before frame clock view outcome c.later-clock.ensures c.requires.view outcome_is)

pub returns-clause-told : goal.returns-clause-told
returns-clause-told g c =
    let clock = c.later-clock.result in
    let view = c.args.view.now in
    let settled = ap (λ (t : StateTable). record (world_in c.args.self.now) { table = t }) c.settle.ensures in
    let outcome_is = by_either c.in_ok-held.field-0.held _ c.unwrap_or-outcome.result _ c.unwrap_or-outcome.ensures c.in_ok-held.ensures.held c.in_ok-held.ensures.here ∙ ap (λ (t : StateTable). step_of (job_of c.args.self.now) (c.args.self.now.count + 1) clock (frame_of c.args.packet.now).place view t) c.settle.ensures in
    taken_leads c.args.self.now _ c.take_outcome.new.self _ c.args.out.now c.take_outcome.new.out (frame_of c.args.packet.now) clock view c.unwrap_or-outcome.result.now
    settled refl refl refl refl refl c.later-clock.ensures c.requires.view outcome_is c.in_ok-take_outcome.ensures.told

pub returns-clause-used : goal.returns-clause-used
returns-clause-used g c = search rules

pub returns-clause-rerun : goal.returns-clause-rerun
returns-clause-rerun g c = search rules
