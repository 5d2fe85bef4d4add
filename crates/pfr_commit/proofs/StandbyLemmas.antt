-- A standby that is told of a run.
use Rattle.std.proofs.Common.{◌≡◌, ◌≤◌, ◌+◌, ℕ, true, List, [], ◌∷◌, ◌++◌, length, Option, Some, None, IfSome, refl, sym, ap, ◌∙◌, subst, arith}
use Rattle.std.proofs.lemmas.List.{append_assoc}
use Rattle.pfr_net.specs.declared.interface.InterfacePlace.{InterfacePlace}
use Rattle.pfr_headers.specs.View.{view_of}
use Rattle.pfr_track.specs.declared.state.State.{State}
use Rattle.pfr_track.specs.declared.state.StateNumber.{StateNumber}
use Rattle.pfr_track.specs.declared.time.Clock.{Clock}
use Rattle.pfr_states.specs.declared.change.TableChange.{TableChange}
use Rattle.pfr_states.specs.declared.change.TableChange.TheVariants.{Made, Touched, Removed}
use Rattle.pfr_states.specs.Answers.{purged_at}
use Rattle.pfr_states.specs.States.{IsTable, StateTable, due, lives, purged, rise}
use Rattle.pfr_states.proofs.FilterLemmas.{rise_filter}
use Rattle.pfr_states.proofs.FindLemmas.{one_number}
use Rattle.pfr_states.proofs.Membership.{in_none}
use Rattle.pfr_packet.specs.declared.outcome.Outcome.{Outcome}
use Rattle.pfr_packet.specs.Job.{RunJob}
use Rattle.pfr_packet.specs.Laws.{IsOwnChange}
use Rattle.pfr_sync.specs.declared.event.Event.{Event}
use Rattle.pfr_telling.specs.Standby.{Leave, StaysTold}
use Rattle.pfr_telling.specs.Telling.{AreTold, IsNextChange, changed, events_of, events_of_change, events_of_purge}
use Rattle.pfr_telling.proofs.StandbyLemmas.{a_standby_holds_the_table, change_leaves, nothing_leaves, purge_by}
use Rattle.pfr_telling.proofs.ToldLemmas.{told_by_then, told_of_change}
use Rattle.pfr_commit.specs.Laws.{AStandbyHoldsTheStates}
use Rattle.pfr_commit.specs.Runs.{next_taken}
use Rattle.pfr_commit.specs.World.{Frame, World, after, opening, origin_of, with_outcome, world_after, world_of}
use Rattle.pfr_commit.proofs.StandLemmas.{option_change_is_next}
use Rattle.pfr_commit.proofs.TableLemmas.{NoneRefused, OwnChanges, table_next}

-- a state that is touched is told of as it was
pub own_stays : (count : ℕ) (clock : Clock) (place : InterfacePlace) (states : List State) (outcome : Outcome) (change : TableChange) → rise states ≡ true → IsOwnChange count clock place states outcome change → StaysTold states change
own_stays count clock place states outcome (Made state) in_order own = tt
own_stays count clock place states outcome (Touched state) in_order own = λ before is_there number.
    let same : own.before ≡ before = one_number states in_order own.before before own.is_there is_there (ap (λ (n : StateNumber). n.0) (sym own.number_is ∙ number)) in
    ap (λ rules. rules.is_synchronised) own.rules_are ∙ ap (λ (s : State). s.rules.is_synchronised) same
own_stays count clock place states outcome (Removed number) in_order own = tt

both_next : (count : ℕ) (clock : Clock) (place : InterfacePlace) (states : List State) (outcome : Outcome) (change : Option TableChange) → rise states ≡ true → ((c : TableChange) → change ≡ Some c → IsOwnChange (count + 1) clock place states outcome c)
    → IfSome change (λ change. IsOwnChange (count + 1) clock place states outcome change) × IfSome change (λ change. StaysTold states change)
both_next count clock place states outcome None in_order own = (tt, tt)
both_next count clock place states outcome (Some change) in_order own = (own change refl, own_stays (count + 1) clock place states outcome change in_order (own change refl))

together : (count : ℕ) (states : List State) (change : Option TableChange) → IfSome change (λ change. IsNextChange count states change) → IfSome change (λ change. StaysTold states change) → IfSome change (λ change. IsNextChange count states change × StaysTold states change)
together count states None next stays = tt
together count states (Some change) next stays = (next, stays)

-- what each world of a run keeps
pub record KeepsTold (world : World) : Type 0 where
  pub table : IsTable world.table
  pub told : AreTold world.count world.clock world.table.states world.events
  pub leave : Leave world.table.states world.events

pub told_next : NoneRefused → OwnChanges → (job : RunJob) (world : World) (frame : Frame) → KeepsTold world → KeepsTold (after job world frame)
unfolding after with_outcome purged_at events_of
told_next none own job world frame keeps =
    let p = next_taken job world frame in
    let states = world.table.states in
    let left = purged p.clock states in
    let later : world.clock.0 ≤ p.clock.0 = omega arith in
    let in_order = rise_filter (lives p.clock) states keeps.table.in_order in
    let are = told_by_then world.count world.clock p.clock states world.events later keeps.told in
    let both = purge_by (length states) world.count p.clock states world.events (due p.clock states) refl refl keeps.table.in_order (are, keeps.leave) in
    let owned = both_next world.count p.clock frame.place left p.outcome p.outcome.change in_order (λ c is. own job p.number p.clock frame.place (view_of frame.link frame.bytes) world.table c is) in
    let next = option_change_is_next world.count p.clock frame.place left p.outcome p.outcome.change owned.0 in
    let purged_table : StateTable = record { states = left; limit = world.table.limit } in
    let told = told_of_change world.count p.clock purged_table (world.events ++ events_of_purge p.clock states) p.outcome.change both.0 next in
    let leave = change_leaves world.count p.clock purged_table (world.events ++ events_of_purge p.clock states) p.outcome.change both.0 both.1 (together world.count left p.outcome.change next owned.1) in
    let all = append_assoc world.events (events_of_purge p.clock states) (events_of_change p.clock p.outcome.change left) in
    record {
      table = table_next none job world frame keeps.table;
      told = subst (λ (es : List Event). AreTold (world.count + 1) p.clock (changed p.outcome.change purged_table).states es) all told;
      leave = subst (λ (es : List Event). Leave (changed p.outcome.change purged_table).states es) all leave;
    }

pub told_after : NoneRefused → OwnChanges → (job : RunJob) (world : World) (frames : List Frame) → KeepsTold world → KeepsTold (world_after job world frames)
unfolding world_after
told_after none own job world [] keeps = keeps
told_after none own job world (frame ∷ frames) keeps = told_after none own job (after job world frame) frames (told_next none own job world frame keeps)

pub told_opening : (job : RunJob) → KeepsTold (opening job)
unfolding opening
told_opening job = record {
  table = record { in_order = refl; own_keys = refl; few = omega arith };
  told = record {
    of_packets = λ k d below. absurd (omega (arith, below));
    numbers = λ k d below. absurd (omega (arith, below));
    clocks = λ k d below. absurd (omega (arith, below));
    gone = λ (event : Event) state at. absurd (in_none event at);
  };
  leave = nothing_leaves;
}

pub a_standby_holds_the_states : NoneRefused → OwnChanges → AStandbyHoldsTheStates
unfolding world_of
a_standby_holds_the_states none own job frames n =
    let keeps = told_after none own job (opening job) frames (told_opening job) in
    a_standby_holds_the_table (origin_of job) (world_of job frames).table.states (world_of job frames).events keeps.leave n
