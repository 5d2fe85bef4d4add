-- What packets leave in the table of states.
use Rattle.std.proofs.Common.{◌≡◌, ℕ, false, not, List, [], ◌∷◌, length, Option, Some, None, inl, inr, refl, sym, ap, ◌∙◌}
use Rattle.std.specs.List.{Contains}
use Rattle.std.proofs.lemmas.Bool.{cases_Bool, ltb-true, not-false}
use Rattle.pfr_net.specs.declared.interface.InterfacePlace.{InterfacePlace}
use Rattle.pfr_ruleset.specs.declared.ruleset.Ruleset.{Ruleset}
use Rattle.pfr_headers.specs.declared.packet.View.{View}
use Rattle.pfr_headers.specs.View.{view_of}
use Rattle.pfr_track.specs.declared.state.State.{State}
use Rattle.pfr_track.specs.declared.state.StateNumber.{StateNumber}
use Rattle.pfr_track.specs.declared.time.Clock.{Clock}
use Rattle.pfr_states.specs.declared.change.TableChange.{TableChange}
use Rattle.pfr_states.specs.declared.change.TableChange.TheVariants.{Made, Touched, Removed}
use Rattle.pfr_states.specs.Answers.{purged_at}
use Rattle.pfr_states.specs.States.{IsTable, StateTable, has_room, is_number, is_taken, is_too_many, lives, purged, refusal, with_change}
use Rattle.pfr_states.proofs.FilterLemmas.{table_filter}
use Rattle.pfr_states.proofs.Membership.{from_filter, here, there}
use Rattle.pfr_states.proofs.PutLemmas.{table_with}
use Rattle.pfr_states.proofs.TouchLemmas.{table_touched}
use Rattle.pfr_packet.specs.declared.outcome.Outcome.{Outcome}
use Rattle.pfr_packet.specs.Job.{RunJob}
use Rattle.pfr_packet.specs.Laws.{AreRulesOf, IsOwnChange}
use Rattle.pfr_packet.specs.Steps.{step_of}
use Rattle.pfr_telling.specs.Telling.{changed}
use Rattle.pfr_telling.proofs.ChangeLemmas.{from_touched, from_with}
use Rattle.pfr_commit.specs.Runs.{IsMadeAmong, Taken, next_taken, taken_after}
use Rattle.pfr_commit.specs.World.{Frame, World, after, with_outcome, world_after}

-- ---- one table

-- no packet's change is refused
abbrev pub NoneRefused : Type 0
NoneRefused = (job : RunJob) (number : ℕ) (clock : Clock) (place : InterfacePlace) (view : View) (table : StateTable) (change : TableChange) → IsTable table → (step_of job number clock place view table).change ≡ Some change → refusal change table.limit (purged clock table.states) ≡ None

taken_over : (change : TableChange) (limit : ℕ) (states : List State) → refusal change limit states ≡ None → (is_taken change states ≡ false) × (is_too_many change limit states ≡ false)
unfolding refusal
taken_over change limit states is = elim (cases_Bool (is_taken change states)) [
  | inl taken ↦ absurd (cc (rw taken at is))
  | inr free ↦ elim (cases_Bool (is_too_many change limit states)) [ inl many ↦ absurd (cc (rw (free, many) at is)) | inr few ↦ (free, few) ]
]

table_with_change : (change : TableChange) (limit : ℕ) (states : List State) → refusal change limit states ≡ None → IsTable (record { states = states; limit = limit }) → IsTable (record { states = with_change change states; limit = limit })
table_with_change (Made state) limit states fits table =
    let over = taken_over (Made state) limit states fits in
    table_with state states limit over.0 (ltb-true (length states) limit (not-false (has_room limit states) over.1)) table
table_with_change (Touched state) limit states fits table = table_touched state states limit (taken_over (Touched state) limit states fits).0 table
table_with_change (Removed number) limit states fits table = table_filter (λ state. not (is_number number state)) states limit table

table_changed : (change : Option TableChange) (table : StateTable) → IsTable table → ((c : TableChange) → change ≡ Some c → refusal c table.limit table.states ≡ None) → IsTable (changed change table)
table_changed None table is fits = is
table_changed (Some change) table is fits = table_with_change change table.limit table.states (fits change refl) is

pub table_next : NoneRefused → (job : RunJob) (world : World) (frame : Frame) → IsTable world.table → IsTable (after job world frame).table
unfolding after with_outcome purged_at
table_next none job world frame is =
    let p = next_taken job world frame in
    table_changed p.outcome.change (purged_at p.clock world.table) (table_filter (lives p.clock) world.table.states world.table.limit is)
    (λ change change_is. none job p.number p.clock frame.place (view_of frame.link frame.bytes) world.table change is change_is)

pub table_after : NoneRefused → (job : RunJob) (world : World) (frames : List Frame) → IsTable world.table → IsTable (world_after job world frames).table
unfolding world_after
table_after none job world [] is = is
table_after none job world (frame ∷ frames) is = table_after none job (after job world frame) frames (table_next none job world frame is)

-- ---- where states come from

abbrev pub OwnChanges : Type 0
OwnChanges = (job : RunJob) (number : ℕ) (clock : Clock) (place : InterfacePlace) (view : View) (table : StateTable) (change : TableChange) → (step_of job number clock place view table).change ≡ Some change
    → IsOwnChange number clock place (purged clock table.states) (step_of job number clock place view table) change

-- a state is made by the rules on the packet's line
abbrev pub MadeByRules : Type 0
MadeByRules = (job : RunJob) (number : ℕ) (clock : Clock) (place : InterfacePlace) (view : View) (table : StateTable) (state : State) → (step_of job number clock place view table).change ≡ Some (Made state)
    → AreRulesOf job.rules place (step_of job number clock place view table) state.rules

from_change : (rules : Ruleset) (change : TableChange) (number : ℕ) (clock : Clock) (place : InterfacePlace) (states : List State) (outcome : Outcome) (packets : List Taken) (p : Taken) (s : State)
    → p.number ≡ number → p.clock ≡ clock → p.frame.place ≡ place → p.outcome ≡ outcome → Contains packets p → IsOwnChange number clock place states outcome change → ((state : State) → change ≡ Made state → AreRulesOf rules place outcome state.rules) → ((s : State) → Contains states s → IsMadeAmong rules packets s)
    → Contains (with_change change states) s → IsMadeAmong rules packets s
from_change rules (Made state) number clock place states outcome packets p s number_is clock_is place_is outcome_is is_there own by each h = elim (from_with state states s h) [
  | inl is ↦ rw (← is) (record { packet = p; is_there = is_there; number_is = number_is ∙ sym own.number_is; clock_is = clock_is ∙ sym own.made_is; interface_is = place_is ∙ sym own.interface_is; passed = rw outcome_is own.passes; named = rw outcome_is own.named; rules_are = rw (place_is, outcome_is) (by state refl) })
  | inr rest ↦ each s rest
]
from_change rules (Touched state) number clock place states outcome packets p s number_is clock_is place_is outcome_is is_there own by each h = elim (from_touched state states s h) [
  | inl is ↦
      (let made = each own.before own.is_there in
      rw (← is) (record { packet = made.packet; is_there = made.is_there; number_is = made.number_is ∙ ap (λ (n : StateNumber). n.0) (sym own.number_is); clock_is = made.clock_is ∙ sym own.made_is; interface_is = made.interface_is ∙ sym own.interface_is; passed = made.passed; named = rw own.number_is made.named; rules_are = rw own.rules_are made.rules_are }))
  | inr rest ↦ each s rest
]
from_change rules (Removed old) number clock place states outcome packets p s number_is clock_is place_is outcome_is is_there own by each h = each s (from_filter (λ state. not (is_number old state)) states s h).0

from_changed : (rules : Ruleset) (change : Option TableChange) (number : ℕ) (clock : Clock) (place : InterfacePlace) (table : StateTable) (outcome : Outcome) (packets : List Taken) (p : Taken) (s : State)
    → p.number ≡ number → p.clock ≡ clock → p.frame.place ≡ place → p.outcome ≡ outcome → Contains packets p → ((c : TableChange) → change ≡ Some c → IsOwnChange number clock place table.states outcome c)
    → ((state : State) → change ≡ Some (Made state) → AreRulesOf rules place outcome state.rules) → ((s : State) → Contains table.states s → IsMadeAmong rules packets s) → Contains (changed change table).states s → IsMadeAmong rules packets s
from_changed rules None number clock place table outcome packets p s number_is clock_is place_is outcome_is is_there own by each h = each s h
from_changed rules (Some change) number clock place table outcome packets p s number_is clock_is place_is outcome_is is_there own by each h =
    from_change rules change number clock place table.states outcome packets p s number_is clock_is place_is outcome_is is_there (own change refl) (λ state is. by state (ap (λ (c : TableChange). Some c) is)) each h

states_next : OwnChanges → MadeByRules → (job : RunJob) (packets : List Taken) (world : World) (frame : Frame) → Contains packets (next_taken job world frame) → ((s : State) → Contains world.table.states s → IsMadeAmong job.rules packets s)
    → (s : State) → Contains (after job world frame).table.states s → IsMadeAmong job.rules packets s
unfolding after with_outcome purged_at
states_next own by job packets world frame is_there each s h =
    let p = next_taken job world frame in
    from_changed job.rules p.outcome.change p.number p.clock frame.place (purged_at p.clock world.table) p.outcome packets p s refl refl refl refl is_there
    (λ change change_is. own job p.number p.clock frame.place (view_of frame.link frame.bytes) world.table change change_is)
    (λ state change_is. by job p.number p.clock frame.place (view_of frame.link frame.bytes) world.table state change_is)
    (λ s h. each s (from_filter (lives p.clock) world.table.states s h).0) h

pub states_after : OwnChanges → MadeByRules → (job : RunJob) (packets : List Taken) (world : World) (frames : List Frame) → ((p : Taken) → Contains (taken_after job world frames) p → Contains packets p)
    → ((s : State) → Contains world.table.states s → IsMadeAmong job.rules packets s) → (s : State) → Contains (world_after job world frames).table.states s → IsMadeAmong job.rules packets s
unfolding world_after
states_after own by job packets world [] among each s h = each s h
states_after own by job packets world (frame ∷ frames) among each s h =
    let p = next_taken job world frame in
    let rest = taken_after job (after job world frame) frames in
    states_after own by job packets (after job world frame) frames (λ q at. among q (there p rest q at)) (states_next own by job packets world frame (among p (here p rest)) each) s h
