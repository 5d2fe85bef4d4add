-- Without translation rules it makes no difference where packets were captured.
use Rattle.std.proofs.Common.{◌≡◌, ◌∙◌, ◌+◌, ℕ, List, [], ◌∷◌, Option, Some, None, not, inl, inr, refl, sym, ap}
use Rattle.pfr_net.specs.declared.interface.InterfacePlace.{InterfacePlace}
use Rattle.pfr_headers.specs.declared.tap.Tap.{Tap}
use Rattle.pfr_headers.specs.View.{view_of}
use Rattle.pfr_track.specs.declared.state.State.{State}
use Rattle.pfr_track.specs.declared.time.Clock.{Clock}
use Rattle.pfr_states.specs.declared.change.TableChange.{TableChange}
use Rattle.pfr_states.specs.declared.change.TableChange.TheVariants.{Made, Touched, Removed}
use Rattle.pfr_states.specs.Answers.{purged_at}
use Rattle.pfr_states.specs.States.{StateTable, is_number, lives, with_change}
use Rattle.pfr_states.proofs.Membership.{from_filter, in_none}
use Rattle.pfr_packet.specs.declared.outcome.Outcome.{Outcome}
use Rattle.pfr_packet.specs.Job.{RunJob}
use Rattle.pfr_packet.specs.Laws.{IsOwnChange}
use Rattle.pfr_packet.specs.Settings.{AreUntranslated, HasNoTranslations, MadeUntranslated, TapChangesNothing}
use Rattle.pfr_telling.specs.Telling.{changed}
use Rattle.pfr_telling.proofs.ChangeLemmas.{from_touched, from_with}
use Rattle.pfr_commit.proofs.TableLemmas.{OwnChanges}
use Rattle.pfr_commit.specs.Laws.{TapChangesNoRun}
use Rattle.pfr_commit.specs.Runs.{next_taken}
use Rattle.pfr_commit.specs.World.{Frame, World, after, clock_at, opening, with_outcome, world_after, world_of}

-- ---- each state has one key on both sides

one_with : (change : TableChange) (number : ℕ) (clock : Clock) (place : InterfacePlace) (states : List State) (outcome : Outcome) → IsOwnChange number clock place states outcome change
    → ((state : State) → change ≡ Made state → state.wire ≡ state.stack) → AreUntranslated states → AreUntranslated (with_change change states)
one_with (Made state) number clock place states outcome own made all = λ s h. elim (from_with state states s h) [ inl is ↦ rw (← is) (made state refl) | inr rest ↦ all s rest ]
one_with (Touched state) number clock place states outcome own made all = λ s h. elim (from_touched state states s h) [
  | inl is ↦ rw (← is) (own.wire_is ∙ all own.before own.is_there ∙ sym own.stack_is)
  | inr rest ↦ all s rest
]
one_with (Removed old) number clock place states outcome own made all = λ s h. all s (from_filter (λ state. not (is_number old state)) states s h).0

one_changed : (change : Option TableChange) (number : ℕ) (clock : Clock) (place : InterfacePlace) (table : StateTable) (outcome : Outcome) → ((c : TableChange) → change ≡ Some c → IsOwnChange number clock place table.states outcome c)
    → ((state : State) → change ≡ Some (Made state) → state.wire ≡ state.stack) → AreUntranslated table.states → AreUntranslated (changed change table).states
one_changed None number clock place table outcome own made all = all
one_changed (Some change) number clock place table outcome own made all =
    one_with change number clock place table.states outcome (own change refl) (λ state is. made state (ap (λ (c : TableChange). Some c) is)) all

one_purged : (clock : Clock) (table : StateTable) → AreUntranslated table.states → AreUntranslated (purged_at clock table).states
unfolding purged_at
one_purged clock table all = λ s h. all s (from_filter (lives clock) table.states s h).0

one_next : OwnChanges → MadeUntranslated → (job : RunJob) (world : World) (frame : Frame) → HasNoTranslations job.rules → AreUntranslated world.table.states → AreUntranslated (after job world frame).table.states
unfolding after with_outcome purged_at
one_next own made job world frame none all =
    let p = next_taken job world frame in
    one_changed p.outcome.change p.number p.clock frame.place (purged_at p.clock world.table) p.outcome
    (λ change is. own job p.number p.clock frame.place (view_of frame.link frame.bytes) world.table change is)
    (λ state is. made job p.number p.clock frame.place (view_of frame.link frame.bytes) world.table state none is)
    (one_purged p.clock world.table all)

-- ---- a run

next_same : TapChangesNothing → (job : RunJob) (other : Tap) (world : World) (frame : Frame) → HasNoTranslations job.rules → AreUntranslated world.table.states → after (record job { tap = other }) world frame ≡ after job world frame
unfolding after with_outcome
next_same same job other world frame none all =
    let clock = clock_at world.clock frame in
    ap (λ (outcome : Outcome). with_outcome job world frame clock outcome)
    (same job other (world.count + 1) clock frame.place (view_of frame.link frame.bytes) world.table none (one_purged clock world.table all))

all_same : OwnChanges → MadeUntranslated → TapChangesNothing → (job : RunJob) (other : Tap) (world : World) (frames : List Frame) → HasNoTranslations job.rules → AreUntranslated world.table.states
    → world_after (record job { tap = other }) world frames ≡ world_after job world frames
unfolding world_after
all_same own made same job other world [] none all = refl
all_same own made same job other world (frame ∷ frames) none all =
    ap (λ (next : World). world_after (record job { tap = other }) next frames) (next_same same job other world frame none all)
    ∙ all_same own made same job other (after job world frame) frames none (one_next own made job world frame none all)

pub run_same : OwnChanges → MadeUntranslated → TapChangesNothing → TapChangesNoRun
unfolding world_of opening
run_same own made same job other frames none = all_same own made same job other (opening job) frames none (λ s h. absurd (in_none s h))
