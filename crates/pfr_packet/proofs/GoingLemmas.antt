-- Plans that are gone part by part.
use Rattle.std.proofs.Common.{◌≡◌, ℕ, Bool, true, false, List, Option, [], ◌∷◌, ◌++◌, cond, refl, sym, ap, ◌∙◌}
use Rattle.std.specs.List.{All}
use Rattle.std.proofs.lemmas.List.{append_assoc}
use Rattle.std.proofs.lemmas.List.Elements.{All-append, All-cons, All-nil, All-weaker}
use Rattle.pfr_net.specs.declared.direction.Direction.{Direction}
use Rattle.pfr_net.specs.declared.interface.Binding.{Binding}
use Rattle.pfr_net.specs.declared.interface.IfName.{IfName}
use Rattle.pfr_ruleset.specs.declared.ruleset.Ruleset.{Ruleset}
use Rattle.pfr_headers.specs.declared.packet.Packet.{Packet}
use Rattle.pfr_rules.specs.Filter.{rooms_asked, rooms_in}
use Rattle.pfr_track.specs.declared.key.Key.{Key}
use Rattle.pfr_track.specs.declared.state.State.{State}
use Rattle.pfr_states.specs.declared.change.Side.{Side}
use Rattle.pfr_states.specs.States.{StateTable}
use Rattle.pfr_states.specs.declared.question.Question.{Question}
use Rattle.pfr_states.specs.declared.question.Question.TheVariants.{At}
use Rattle.pfr_packet.specs.declared.outcome.Outcome.{Outcome}
use Rattle.pfr_states.specs.Answers.{found_in}
use Rattle.pfr_packet.specs.declared.evaluation.Arrival.{Arrival}
use Rattle.pfr_packet.specs.declared.passage.Passage.{Passage}
use Rattle.pfr_packet.specs.Plan.{FilterAnswer, Goes, GoesUpTo, Plan, ask_at, filter_answer, no_answer, questions_of}
use Rattle.pfr_packet.specs.Steps.{asked_for, behind_passage, going_on, going_plan, judged_for, kept_for, name_of, opened_plan, unless_passed}

-- what was asked stays asked
abbrev pub Keeps : (Question → Type 0) → (Question → Type 0) → Type 0
Keeps before after = (question : Question) → before question → after question

-- nothing is gone yet
pub none_gone : (table : StateTable) (steps : Plan) (asked : Question → Type 0) → GoesUpTo table steps steps asked
none_gone table steps asked = record { before = []; outcome_is = refl; questions_are = refl; asked_before = All-nil asked }

-- one more question is asked
pub one_further : (table : StateTable) (steps : Plan) (side : Side) (key : Key) (scope : Binding) (next : Option State → Plan) (asked after : Question → Type 0) (found : Option State)
    → GoesUpTo table steps (ask_at side key scope next) asked → Keeps asked after → after (At side key scope) → found ≡ found_in table side key scope → GoesUpTo table steps (next found) after
one_further table steps side key scope next asked after found gone kept now is = rw is (record {
  before = gone.before ++ At side key scope ∷ [];
  outcome_is = gone.outcome_is;
  questions_are = gone.questions_are ∙ sym (append_assoc gone.before (At side key scope ∷ []) (questions_of table (next (found_in table side key scope))));
  asked_before = All-append after gone.before (At side key scope ∷ []) (All-weaker asked after kept gone.before gone.asked_before) (All-cons after (At side key scope) [] now (All-nil after));
})

-- a part of the rest is gone
pub further : (table : StateTable) (steps rest last : Plan) (asked after : Question → Type 0)
    → GoesUpTo table steps rest asked → Keeps asked after → GoesUpTo table rest last after → GoesUpTo table steps last after
further table steps rest last asked after gone kept more = record {
  before = gone.before ++ more.before;
  outcome_is = gone.outcome_is ∙ more.outcome_is;
  questions_are = gone.questions_are ∙ ap (λ questions. gone.before ++ questions) more.questions_are ∙ sym (append_assoc gone.before more.before (questions_of table last));
  asked_before = All-append after gone.before more.before (All-weaker asked after kept gone.before gone.asked_before) more.asked_before;
}

-- all of the rest is gone
pub to_the_end : (table : StateTable) (steps rest : Plan) (outcome : Outcome) (asked after : Question → Type 0)
    → GoesUpTo table steps rest asked → Keeps asked after → Goes table rest outcome after → Goes table steps outcome after
to_the_end table steps rest outcome asked after gone kept goes = record {
  outcome_is = goes.outcome_is ∙ sym gone.outcome_is;
  asked_all = rw gone.questions_are (All-append after gone.before (questions_of table rest) (All-weaker asked after kept gone.before gone.asked_before) goes.asked_all);
}

-- ---- questions to the filter

-- unless the packet isn't filtered
pass_goes : (table : StateTable) (rules : Ruleset) (name : IfName) (packet : Packet) (direction : Direction) (next : FilterAnswer → Plan) (outcome : Outcome) (asked after : Question → Type 0) (passes : Bool)
    → All asked (cond passes [] (rooms_asked rules (rooms_in table) name packet direction)) → Keeps asked after
    → Goes table (next (cond passes no_answer (filter_answer rules name table packet direction))) outcome after → Goes table (unless_passed rules name packet direction passes next) outcome after
pass_goes table rules name packet direction next outcome asked after true all kept goes = goes
pass_goes table rules name packet direction next outcome asked after false all kept goes = record {
  outcome_is = goes.outcome_is;
  asked_all = All-append after (rooms_asked rules (rooms_in table) name packet direction) (questions_of table (next (filter_answer rules name table packet direction))) (All-weaker asked after kept (rooms_asked rules (rooms_in table) name packet direction) all) goes.asked_all;
}

-- a packet goes through by a passage: the filter is asked, unless it isn't filtered, and then the rest
pub going_goes : (arrival : Arrival) (table : StateTable) (visits : List ℕ) (passage : Passage) (outcome : Outcome) (asked after : Question → Type 0)
    → All asked (asked_for arrival table passage) → Keeps asked after
    → Goes table (opened_plan arrival passage (judged_for arrival table passage visits) (kept_for arrival table passage)) outcome after
    → Goes table (going_plan arrival visits passage) outcome after
going_goes arrival table visits passage outcome asked after all kept goes =
    pass_goes table arrival.job.now.rules (name_of arrival) (behind_passage arrival passage) arrival.direction (going_on arrival.job.now arrival.number arrival.clock arrival.place arrival.packet.now arrival.direction visits passage) outcome asked after passage.passes all kept goes
