-- The record of the questions that an evaluation asked, with their answers.
use Rattle.std.specs.Prelude.{◌≡◌, ℕ, Bool, List, [], ◌∷◌, ◌++◌, Option, Some, None}
use Rattle.std.specs.List.{All, Contains}
use Rattle.std.specs.Map.{keys_of}
use Rattle.pfr_net.specs.declared.interface.Binding.{Binding}
use Rattle.pfr_net.specs.declared.interface.InterfacePlace.{InterfacePlace}
use Rattle.pfr_headers.specs.declared.packet.View.{View}
use Rattle.pfr_track.specs.declared.time.Clock.{Clock}
use Rattle.pfr_track.specs.declared.key.Key.{Key}
use Rattle.pfr_states.specs.declared.change.Side.{Side}
use Rattle.pfr_states.specs.declared.question.Question.{Question}
use Rattle.pfr_states.specs.declared.question.Question.TheVariants.{At, Room, RuleRoom}
use Rattle.pfr_states.specs.Answers.{found_in, has_room_in, has_rule_room_in, purged_at}
use Rattle.pfr_states.specs.States.{StateTable}
use Rattle.pfr_packet.specs.declared.outcome.Outcome.{Outcome}
use Rattle.pfr_packet.specs.Job.{RunJob}
use Rattle.pfr_packet.specs.Steps.{asked_of, step_of}
use Rattle.pfr_record.specs.declared.answer.Answer.{Answer}
use Rattle.pfr_record.specs.declared.answer.Answer.TheVariants.{Found, HasRoom, HasRuleRoom}

-- what a table answers
abbrev pub answer_of : StateTable → Question → Answer
answer_of table (At side key scope) = Found (found_in table side key scope)
answer_of table Room = HasRoom (has_room_in table)
answer_of table (RuleRoom rule most) = HasRuleRoom (has_rule_room_in table rule.0 most)

abbrev pub Entries : Type 0
Entries = List (Question × Answer)

-- a table answers each question of a record as recorded; states are the same in all fields
abbrev pub Agrees : StateTable → Entries → Type 0
Agrees table entries = All (λ entry. answer_of table entry.0 ≡ entry.1) entries

-- a question is one of a record's
abbrev pub IsKept : Entries → Question → Type 0
IsKept entries question = Contains (keys_of entries) question

-- the entry of a look-up that finds no state, if there is one
abbrev pub missed : Option (Side × Key × Binding) → Entries
missed None = []
missed (Some at) = (At at.0 at.1 at.2, Found None) ∷ []

-- the entry for whether there is room, if there is one
abbrev pub room_of : Option Bool → Entries
room_of None = []
room_of (Some room) = (Room, HasRoom room) ∷ []

abbrev pub entries_of : (first second : Option (Side × Key × Binding)) → Option Bool → (others : Entries) → Entries
entries_of first second room others = missed first ++ missed second ++ room_of room ++ others

-- No question of a record is lost. A table that agrees with the record, and gives this answer to this question, agrees
-- with the new record.
abbrev pub Keeps : (old new : Entries) → Question → Answer → Type 0
Keeps old new question answer = ((other : Question) → IsKept old other → IsKept new other)
    × ((table : StateTable) → answer_of table question ≡ answer → Agrees table old → Agrees table new)

-- over every table that agrees with the record, the packet comes to this outcome, and all questions to the table are in
-- the record
abbrev pub IsSound : RunJob → ℕ → Clock → InterfacePlace → View → Outcome → Entries → Type 0
IsSound job number clock place view outcome entries = (table : StateTable) → Agrees (purged_at clock table) entries
    → (step_of job number clock place view table ≡ outcome) × All (λ question. ∥ IsKept entries question ∥₁) (asked_of job number clock place view table)
