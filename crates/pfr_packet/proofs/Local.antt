-- An evaluation over another table that gives the same answers.
use Rattle.std.proofs.Common.{◌≡◌, Bool, Option, ◌∷◌, ◌++◌, refl, sym, ap, subst}
use Rattle.std.specs.List.{All}
use Rattle.std.proofs.lemmas.List.Elements.{All-head, All-tail, All-weaker}
use Rattle.pfr_net.specs.declared.direction.Direction.{Direction}
use Rattle.pfr_net.specs.declared.interface.IfName.{IfName}
use Rattle.pfr_ruleset.specs.declared.ruleset.Ruleset.{Ruleset}
use Rattle.pfr_headers.specs.declared.packet.Packet.{Packet}
use Rattle.pfr_rules.specs.Filter.{rooms_asked, rooms_in}
use Rattle.pfr_rules.specs.Laws.{SameRoom}
use Rattle.pfr_rules.proofs.RoomLemmas.{all_left, all_right, same_rooms}
use Rattle.pfr_track.specs.declared.state.State.{State}
use Rattle.pfr_states.specs.States.{StateTable}
use Rattle.pfr_states.specs.declared.question.Question.{Question}
use Rattle.pfr_states.specs.declared.question.Question.TheVariants.{At, Room, RuleRoom}
use Rattle.pfr_states.specs.Answers.{SameAnswer, found_in, has_room_in}
use Rattle.pfr_packet.specs.Plan.{FilterAnswer, Plan, done, ask_at, ask_filter, ask_room, filter_answer, outcome_of, questions_of}

room_by : (table other : StateTable) (question : Question) → SameAnswer table other question → SameRoom (rooms_in table) (rooms_in other) question
room_by table other (At side key scope) same = refl
room_by table other Room same = refl
room_by table other (RuleRoom rule most) same = sym same

-- the filter's answer over another table, and what it asks there
filter_same : (table other : StateTable) (rules : Ruleset) (name : IfName) (packet : Packet) (direction : Direction) → All (SameAnswer table other) (rooms_asked rules (rooms_in table) name packet direction)
    → (filter_answer rules name table packet direction ≡ filter_answer rules name other packet direction) × (rooms_asked rules (rooms_in other) name packet direction ≡ rooms_asked rules (rooms_in table) name packet direction)
filter_same table other rules name packet direction asked =
    let both = same_rooms rules (rooms_in table) (rooms_in other) name packet direction (All-weaker (SameAnswer table other) (SameRoom (rooms_in table) (rooms_in other)) (room_by table other) (rooms_asked rules (rooms_in table) name packet direction) asked) in
    (rw (both.0, both.1) refl, rw both.1 refl)

pub local : (table other : StateTable) (steps : Plan) → All (SameAnswer table other) (questions_of table steps)
    → (outcome_of other steps ≡ outcome_of table steps) × (questions_of other steps ≡ questions_of table steps)
local table other (done outcome) h = (refl, refl)
local table other (ask_at side key scope next) h =
    let same : found_in table side key scope ≡ found_in other side key scope =
    All-head (SameAnswer table other) (At side key scope) (questions_of table (next (found_in table side key scope))) h in
    let rest = local table other (next (found_in table side key scope)) (All-tail (SameAnswer table other) (At side key scope) (questions_of table (next (found_in table side key scope))) h) in (
      subst (λ (found : Option State). outcome_of other (next found) ≡ outcome_of table (next (found_in table side key scope))) same rest.0,
      subst (λ (found : Option State). At side key scope ∷ questions_of other (next found) ≡ At side key scope ∷ questions_of table (next (found_in table side key scope))) same
          (ap (λ questions. At side key scope ∷ questions) rest.1),
    )
local table other (ask_room next) h =
    let same : has_room_in table ≡ has_room_in other = All-head (SameAnswer table other) Room (questions_of table (next (has_room_in table))) h in
    let rest = local table other (next (has_room_in table)) (All-tail (SameAnswer table other) Room (questions_of table (next (has_room_in table))) h) in (
      subst (λ (room : Bool). outcome_of other (next room) ≡ outcome_of table (next (has_room_in table))) same rest.0,
      subst (λ (room : Bool). Room ∷ questions_of other (next room) ≡ Room ∷ questions_of table (next (has_room_in table))) same
          (ap (λ questions. Room ∷ questions) rest.1),
    )
local table other (ask_filter rules name packet direction next) h =
    let asked = rooms_asked rules (rooms_in table) name packet direction in
    let here = filter_answer rules name table packet direction in
    let same = filter_same table other rules name packet direction (all_left (SameAnswer table other) asked (questions_of table (next here)) h) in
    let rest = local table other (next here) (all_right (SameAnswer table other) asked (questions_of table (next here)) h) in (
      subst (λ (answer : FilterAnswer). outcome_of other (next answer) ≡ outcome_of table (next here)) same.0 rest.0,
      subst (λ (answer : FilterAnswer). rooms_asked rules (rooms_in other) name packet direction ++ questions_of other (next answer) ≡ asked ++ questions_of table (next here)) same.0
          (rw (same.1, rest.1) refl),
    )
