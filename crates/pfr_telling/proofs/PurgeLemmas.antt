-- States that go one after the other.
use Rattle.std.proofs.Common.{◌≡◌, ◌++◌, ◌∷◌, List, [], ℕ, Option, Some, None, refl, sym, ap, ◌∙◌, subst}
use Rattle.std.specs.List.{Contains, flat_map}
use Rattle.std.proofs.lemmas.List.{append_assoc, append-nil}
use Rattle.pfr_track.specs.declared.state.State.{State}
use Rattle.pfr_track.specs.declared.time.Clock.{Clock}
use Rattle.pfr_states.specs.declared.change.TableChange.TheVariants as table
use Rattle.pfr_states.specs.Laws.{AnswersDue}
use Rattle.pfr_states.specs.States.{all_due, due, with_change}
use Rattle.pfr_messages.specs.Messages.{Content}
use Rattle.pfr_sync.specs.declared.event.EventKind.TheVariants.{Removed}
use Rattle.pfr_sync.specs.declared.event.Event.{Event}
use Rattle.pfr_sync.specs.Events.{MayCome}
use Rattle.pfr_telling.specs.declared.telling.Telling.{Telling}
use Rattle.pfr_telling.specs.Telling.{AreTold, HasTold, events_of_purge, told}
use Rattle.pfr_telling.proofs.ToldLemmas.{may_come, told_of_removal}

-- the events of a purge, of which these were told, and one state that is due first
pub first_told : (clock : Clock) (states rest : List State) (state : State) (all done : List Event) → all_due clock states ≡ state ∷ all_due clock rest → all ≡ done ++ events_of_purge clock states
    → all ≡ (done ++ told Removed clock state) ++ events_of_purge clock rest
first_told clock states rest state all done next is =
    is ∙ ap (λ (gone : List State). done ++ flat_map (told Removed clock) gone) next ∙ sym (append_assoc done (told Removed clock state) (events_of_purge clock rest))

-- nothing more is due
pub none_told : (clock : Clock) (states : List State) (all done : List Event) → all_due clock states ≡ [] → all ≡ done ++ events_of_purge clock states → all ≡ done
none_told clock states all done none is = is ∙ ap (λ (gone : List State). done ++ flat_map (told Removed clock) gone) none ∙ append-nil done

due_there : (clock : Clock) (states : List State) (state : State) (answer : Option State) → answer ≡ Some state → AnswersDue clock states answer → Contains states state
due_there clock states state (Some first) is answers = (let same : first ≡ state = cc is in rw (← same) answers.is_there)
due_there clock states state None is answers = absurd (cc is)

-- that one is told to be removed
pub purge_told : (before : List Content) (telling telling' : Telling) (count : ℕ) (clock : Clock) (states : List State) (events done : List Event) (state : State) → due clock states ≡ Some state → AnswersDue clock states (due clock states)
    → HasTold before telling clock (events ++ done) × AreTold count clock states (events ++ done)
    → (HasTold before telling clock (events ++ done) → MayCome (events ++ done) (record { kind = Removed; state = state; clock = clock }) → HasTold before telling' clock ((events ++ done) ++ told Removed clock state))
    → HasTold before telling' clock (events ++ (done ++ told Removed clock state)) × AreTold count clock (with_change (table.Removed state.number) states) (events ++ (done ++ told Removed clock state))
purge_told before telling telling' count clock states events done state is_due first was tell =
    let is_there = due_there clock states state (due clock states) is_due first in
    subst (λ (all : List Event). HasTold before telling' clock all × AreTold count clock (with_change (table.Removed state.number) states) all)
    (append_assoc events done (told Removed clock state))
    (tell was.0 (may_come count clock states (events ++ done) (record { kind = Removed; state = state; clock = clock }) state was.1 is_there refl refl), told_of_removal count clock states (events ++ done) state was.1 is_there)
