-- The states that a standby holds after a run.
use Rattle.std.proofs.Common.{◌≡◌, ◌≤◌, ◌+◌, ℕ, true, List, [], ◌∷◌, Option, Some, None, IfSome, sym, refl, ap, ◌∙◌, subst, arith}
use Rattle.pfr_net.specs.declared.interface.InterfacePlace.{InterfacePlace}
use Rattle.pfr_headers.specs.View.{view_of}
use Rattle.pfr_track.specs.declared.state.State.{State}
use Rattle.pfr_track.specs.declared.state.StateNumber.{StateNumber}
use Rattle.pfr_track.specs.declared.time.Clock.{Clock}
use Rattle.pfr_states.specs.declared.change.TableChange.{TableChange}
use Rattle.pfr_states.specs.declared.change.TableChange.TheVariants.{Made, Touched, Removed}
use Rattle.pfr_states.specs.Answers.{purged_at}
use Rattle.pfr_states.specs.States.{lives, purged, rise}
use Rattle.pfr_states.proofs.FilterLemmas.{rise_filter}
use Rattle.pfr_states.proofs.FindLemmas.{one_number}
use Rattle.pfr_packet.specs.declared.outcome.Outcome.{Outcome}
use Rattle.pfr_packet.specs.Job.{RunJob}
use Rattle.pfr_packet.specs.Laws.{IsOwnChange}
use Rattle.pfr_standby.specs.Standby.{standby_of}
use Rattle.pfr_sync.specs.Laws.{AreOfOne}
use Rattle.pfr_telling.specs.Holding.{IsNextOfStates, LeaveStates, StaysOfOne}
use Rattle.pfr_telling.proofs.HoldingLemmas.{a_packet_leaves_the_states, a_standby_holds_the_states_of_the_table, no_states_are_left}
use Rattle.pfr_telling.proofs.ToldLemmas.{told_by_then}
use Rattle.pfr_commit.specs.Holding.{AStandbyHoldsEachState}
use Rattle.pfr_commit.specs.Runs.{next_taken}
use Rattle.pfr_commit.specs.World.{Frame, World, after, opening, origin_of, with_outcome, world_after, world_of}
use Rattle.pfr_commit.proofs.OnlineLemmas as online
use Rattle.pfr_commit.proofs.StandLemmas.{option_change_is_next}
use Rattle.pfr_commit.proofs.StandbyLemmas.{KeepsTold, own_stays, told_after, told_next, told_opening}
use Rattle.pfr_commit.proofs.TableLemmas.{NoneRefused, OwnChanges}

-- a state that is touched is of the connection that it was of
own_of_one : (count : ℕ) (clock : Clock) (place : InterfacePlace) (states : List State) (outcome : Outcome) (change : TableChange) → rise states ≡ true → IsOwnChange count clock place states outcome change → StaysOfOne states change
own_of_one count clock place states outcome (Made state) in_order own = tt
own_of_one count clock place states outcome (Touched state) in_order own = λ before is_there number.
    let same : own.before ≡ before = one_number states in_order own.before before own.is_there is_there (ap (λ (n : StateNumber). n.0) (sym own.number_is ∙ number)) in
    subst (λ (was : State). AreOfOne was state) same (record {
      wire = sym own.wire_is;
      stack = sym own.stack_is;
      direction = sym own.direction_is;
      rule = ap (λ rules. rules.filter) (sym own.rules_are);
    })
own_of_one count clock place states outcome (Removed number) in_order own = tt

next_of_states : (count : ℕ) (clock : Clock) (place : InterfacePlace) (states : List State) (outcome : Outcome) (change : Option TableChange) → rise states ≡ true → ((c : TableChange) → change ≡ Some c → IsOwnChange (count + 1) clock place states outcome c)
    → IfSome change (λ change. IsNextOfStates count states change)
next_of_states count clock place states outcome None in_order own = tt
next_of_states count clock place states outcome (Some change) in_order own = (
  option_change_is_next count clock place states outcome (Some change) (own change refl),
  own_stays (count + 1) clock place states outcome change in_order (own change refl),
  own_of_one (count + 1) clock place states outcome change in_order (own change refl),
)

-- the events of a world leave its states as they stand
abbrev Leaves : World → Type 0
Leaves world = LeaveStates world.table.states world.events

states_next : NoneRefused → OwnChanges → (job : RunJob) (world : World) (frame : Frame) → KeepsTold world → Leaves world → Leaves (after job world frame)
unfolding after with_outcome purged_at
states_next none own job world frame keeps leave =
    let p = next_taken job world frame in
    let states = world.table.states in
    let later : world.clock.0 ≤ p.clock.0 = omega arith in
    let in_order = rise_filter (lives p.clock) states keeps.table.in_order in
    let are = told_by_then world.count world.clock p.clock states world.events later keeps.told in
    let next = next_of_states world.count p.clock frame.place (purged p.clock states) p.outcome p.outcome.change in_order (λ c is. own job p.number p.clock frame.place (view_of frame.link frame.bytes) world.table c is) in
    a_packet_leaves_the_states world.count p.clock p.outcome.change world.table world.events keeps.table.in_order are leave next

states_after : NoneRefused → OwnChanges → (job : RunJob) (world : World) (frames : List Frame) → KeepsTold world → Leaves world → Leaves (world_after job world frames)
unfolding world_after
states_after none own job world [] keeps leave = leave
states_after none own job world (frame ∷ frames) keeps leave =
    states_after none own job (after job world frame) frames (told_next none own job world frame keeps) (states_next none own job world frame keeps leave)

states_opening : (job : RunJob) → Leaves (opening job)
unfolding opening
states_opening job = no_states_are_left

pub standby_holds : NoneRefused → OwnChanges → AStandbyHoldsEachState
unfolding world_of
standby_holds none own job frames =
    let world = world_of job frames in
    let keeps : KeepsTold world = told_after none own job (opening job) frames (told_opening job) in
    let leave : Leaves world = states_after none own job (opening job) frames (told_opening job) (states_opening job) in
    ap standby_of (sym (online.all_messages (origin_of job) world.clock world.events))
    ∙ a_standby_holds_the_states_of_the_table (origin_of job) world.table.states world.events keeps.table.in_order leave
