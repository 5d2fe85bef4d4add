-- Values one mark after the other.
use Rattle.std.proofs.Common.{◌≡◌, ◌<◌, ℕ, List, [], ◌∷◌, ◌++◌, arith, length, drop}
use Rattle.std.proofs.lemmas.List.{append_assoc}
use Rattle.pfr_given.specs.declared.entry.Given.{Given}
use Rattle.pfr_marks.specs.declared.mark.Mark.{Mark}
use Rattle.pfr_phrases.specs.declared.change.Change.{Change}
use Rattle.pfr_phrases.specs.declared.context.Context.{Context}
use Rattle.pfr_phrases.specs.Contexts.{context_behind}
use Rattle.pfr_spelling.specs.declared.known.Known.{Known}
use Rattle.pfr_spelling.specs.Replacing.{value_changes, value_changes_at, value_passed}

pub one_mark : (found : List Change) (given : Given) (known : Known) (context : Context) (passed : ℕ) (marks : List Mark) → 0 < length marks
    → (found ++ value_changes_at given known context passed marks)
    ++ value_changes given known (context_behind context marks) (value_passed given known context passed marks) (drop 1 marks)
    ≡ found ++ value_changes given known context passed marks
one_mark found given known context passed [] some = absurd (omega arith)
one_mark found given known context passed (mark ∷ marks) some = append_assoc found _ _
