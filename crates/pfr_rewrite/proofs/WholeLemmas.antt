-- Changes one mark after the other.
use Rattle.std.proofs.Common.{◌≡◌, ◌<◌, ◌≤◌, ◌+◌, ℕ, Bool, true, false, if◌then◌else◌, List, [], ◌∷◌, ◌++◌, arith, length, drop, refl}
use Rattle.std.proofs.lemmas.List.{append_assoc}
use Rattle.pfr_given.specs.declared.entry.Given.{Given}
use Rattle.pfr_marks.specs.declared.mark.Mark.{Mark}
use Rattle.pfr_phrases.specs.declared.change.Change.{Change}
use Rattle.pfr_phrases.specs.declared.context.Context.{Context}
use Rattle.pfr_phrases.specs.Contexts.{context_behind, is_nothing}
use Rattle.pfr_spelling.specs.declared.known.Known.{Known}
use Rattle.pfr_spelling.specs.Known.{known_behind}
use Rattle.pfr_rewrite.specs.Whole.{begin_at, changes_at, changes_from, passed_behind, statement_at}

-- at one mark more
pub one_mark : (found : List Change) (given : Given) (known : Known) (context : Context) (passed : ℕ) (statement marks : List Mark) → 0 < length marks
    → (found ++ changes_at given known context passed (statement_at context statement marks) marks)
    ++ changes_from given (known_behind known context marks) (context_behind context marks)
    (passed_behind given known context passed (statement_at context statement marks) marks) (statement_at context statement marks) (drop 1 marks)
    ≡ found ++ changes_from given known context passed statement marks
one_mark found given known context passed statement [] some = absurd (omega arith)
one_mark found given known context passed statement (mark ∷ marks) some = append_assoc found _ _

-- the marks from where a statement begins
chosen : (test : Bool) (before here : ℕ) (marks : List Mark)
    → drop (if test then here else before) marks ≡ (if test then drop here marks else drop before marks)
chosen true before here marks = refl
chosen false before here marks = refl

pub begins_there : (context : Context) (before here : ℕ) (marks : List Mark)
    → drop (begin_at context before here) marks ≡ statement_at context (drop before marks) (drop here marks)
begins_there context before here marks = chosen (is_nothing context.within) before here marks

chosen_within : (test : Bool) (before here : ℕ) → before ≤ here → (if test then here else before) ≤ here + 1
chosen_within true before here behind = omega arith
chosen_within false before here behind = omega (arith, behind)

pub begins_within : (context : Context) (before here : ℕ) → before ≤ here → begin_at context before here ≤ here + 1
begins_within context before here behind = chosen_within (is_nothing context.within) before here behind
