-- What the evaluation of a packet asks of the table of states, and what it comes to by the answers.
use Rattle.std.specs.Prelude.{◌≡◌, ℕ, Bool, List, [], ◌∷◌, ◌++◌, Option, None}
use Rattle.std.specs.List.{All}
use Rattle.pfr_net.specs.declared.direction.Direction.{Direction}
use Rattle.pfr_net.specs.declared.interface.Binding.{Binding}
use Rattle.pfr_net.specs.declared.interface.IfName.{IfName}
use Rattle.pfr_ruleset.specs.declared.flat.FilterAction.TheVariants.{Pass}
use Rattle.pfr_ruleset.specs.declared.ruleset.Ruleset.{Ruleset}
use Rattle.pfr_headers.specs.declared.packet.Packet.{Packet}
use Rattle.pfr_rules.specs.declared.decision.Decision.{Decision}
use Rattle.pfr_rules.specs.Filter.{decision_of, rooms_asked, rooms_in, visited}
use Rattle.pfr_track.specs.declared.key.Key.{Key}
use Rattle.pfr_track.specs.declared.state.State.{State}
use Rattle.pfr_states.specs.declared.change.Side.{Side}
use Rattle.pfr_states.specs.declared.question.Question.{Question}
use Rattle.pfr_states.specs.declared.question.Question.TheVariants.{At, Room}
use Rattle.pfr_states.specs.Answers.{found_in, has_room_in}
use Rattle.pfr_states.specs.States.{StateTable}
use Rattle.pfr_packet.specs.declared.outcome.Outcome.{Outcome}

-- ---- the filter's answer

-- what the filter answers for a packet on the interface of a name: which rule decides, and which were visited
pub record FilterAnswer : Type 0 where
  pub decision : Decision
  pub visits : List ℕ

-- if no rule is asked, the packet passes
abbrev pub no_answer : FilterAnswer
no_answer = record { decision = record { rule = None; action = Pass }; visits = [] }

-- by a table that says which rules have room
abbrev pub filter_answer : Ruleset → IfName → StateTable → Packet → Direction → FilterAnswer
filter_answer rules name table packet direction = record {
  decision = decision_of rules (rooms_in table) name packet direction;
  visits = visited rules (rooms_in table) name packet direction;
}

-- ---- plans

-- An evaluation is done with an outcome, or it asks a question, or what the filter makes of a packet on the interface
-- of a name, and goes on by the answer.
pub data Plan : Type 0 where
  done : Outcome → Plan
  ask_at : Side → Key → Binding → (Option State → Plan) → Plan
  ask_room : (Bool → Plan) → Plan
  ask_filter : Ruleset → IfName → Packet → Direction → (FilterAnswer → Plan) → Plan

-- what it comes to, by a table's answers
abbrev pub outcome_of : StateTable → Plan → Outcome
outcome_of table (done outcome) = outcome
outcome_of table (ask_at side key scope next) = outcome_of table (next (found_in table side key scope))
outcome_of table (ask_room next) = outcome_of table (next (has_room_in table))
outcome_of table (ask_filter rules name packet direction next) = outcome_of table (next (filter_answer rules name table packet direction))

-- what it asks, by a table's answers
abbrev pub questions_of : StateTable → Plan → List Question
questions_of table (done outcome) = []
questions_of table (ask_at side key scope next) = At side key scope ∷ questions_of table (next (found_in table side key scope))
questions_of table (ask_room next) = Room ∷ questions_of table (next (has_room_in table))
questions_of table (ask_filter rules name packet direction next) =
    rooms_asked rules (rooms_in table) name packet direction ++ questions_of table (next (filter_answer rules name table packet direction))

-- what went as a plan says: the outcome is the plan's, and all that the plan asks was asked
pub record Goes (table : StateTable) (steps : Plan) (outcome : Outcome) (asked : Question → Type 0) : Type 0 where
  pub outcome_is : outcome ≡ outcome_of table steps
  pub asked_all : All asked (questions_of table steps)

-- a plan was gone up to a rest of it
pub record GoesUpTo (table : StateTable) (steps rest : Plan) (asked : Question → Type 0) : Type 0 where
  -- the questions on the way
  pub before : List Question
  pub outcome_is : outcome_of table steps ≡ outcome_of table rest
  pub questions_are : questions_of table steps ≡ before ++ questions_of table rest
  pub asked_before : All asked before
