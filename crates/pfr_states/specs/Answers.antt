-- What a table of states answers to the questions of an evaluation.
use Rattle.std.specs.Prelude.{◌≡◌, ℕ, Bool, Option}
use Rattle.pfr_net.specs.declared.interface.Binding.{Binding}
use Rattle.pfr_track.specs.declared.key.Key.{Key}
use Rattle.pfr_track.specs.declared.state.State.{State}
use Rattle.pfr_track.specs.declared.time.Clock.{Clock}
use Rattle.pfr_states.specs.declared.change.Side.{Side}
use Rattle.pfr_states.specs.declared.question.Question.{Question}
use Rattle.pfr_states.specs.declared.question.Question.TheVariants.{At, Room, RuleRoom}
use Rattle.pfr_states.specs.States.{StateTable, at, has_room, has_rule_room, purged}

-- the state with this key on a side, for a scope
unfoldable pub found_in : StateTable → Side → Key → Binding → Option State
found_in table side key scope = at side key scope table.states

-- there is room for one more
unfoldable pub has_room_in : StateTable → Bool
has_room_in table = has_room table.limit table.states

-- there is room for one more state of the filter rule with this number, whose limit is `most`
unfoldable pub has_rule_room_in : StateTable → ℕ → ℕ → Bool
has_rule_room_in table rule most = has_rule_room rule most table.states

-- a table once the states whose deadline has come are gone
unfoldable pub purged_at : Clock → StateTable → StateTable
purged_at clock table = record { states = purged clock table.states; limit = table.limit }

-- two tables give one answer to a question
abbrev pub SameAnswer : StateTable → StateTable → Question → Type 0
SameAnswer table other (At side key scope) = found_in table side key scope ≡ found_in other side key scope
SameAnswer table other Room = has_room_in table ≡ has_room_in other
SameAnswer table other (RuleRoom rule most) = has_rule_room_in table rule.0 most ≡ has_rule_room_in other rule.0 most
