-- What is said of interfaces one mark after the other.
use Rattle.std.proofs.Common.{◌≡◌, ◌<◌, List, [], ◌∷◌, ◌++◌, arith, length, drop}
use Rattle.std.proofs.lemmas.List.{append_assoc}
use Rattle.pfr_given.specs.declared.entry.Given.{Given}
use Rattle.pfr_marks.specs.declared.mark.Mark.{Mark}
use Rattle.pfr_phrases.specs.declared.change.Finding.{Finding}
use Rattle.pfr_phrases.specs.declared.context.Context.{Context}
use Rattle.pfr_phrases.specs.Contexts.{context_behind}
use Rattle.pfr_spelling.specs.Known.{known_behind}
use Rattle.pfr_spelling.specs.declared.known.Known.{Known}
use Rattle.pfr_rewrite.specs.Elsewhere.{said_at, said_from}

pub one_mark : (said : List Finding) (given : Given) (known : Known) (context : Context) (marks : List Mark) → 0 < length marks
    → (said ++ said_at given known context marks) ++ said_from given (known_behind known context marks) (context_behind context marks) (drop 1 marks)
    ≡ said ++ said_from given known context marks
one_mark said given known context [] some = absurd (omega arith)
one_mark said given known context (mark ∷ marks) some = append_assoc said _ _
