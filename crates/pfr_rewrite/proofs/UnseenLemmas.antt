-- A rule one mark after the other.
use Rattle.std.proofs.Common.{◌≡◌, ◌<◌, ℕ, ◌-◌, List, [], ◌∷◌, Some, None, arith, length, drop, refl}
use Rattle.pfr_marks.specs.declared.mark.Mark.{Mark}
use Rattle.pfr_phrases.specs.declared.change.Finding.{Finding}
use Rattle.pfr_spelling.specs.declared.known.Known.{Known}
use Rattle.pfr_spelling.specs.Known.{value_len}
use Rattle.pfr_rewrite.specs.Unseen.{said_from, said_here}

pub none_here : (known : Known) (left : ℕ) (marks : List Mark) → 0 < length marks → said_here known left marks ≡ None
    → said_from known (left - value_len known marks) (drop 1 marks) ≡ said_from known left marks
none_here known left [] some none = absurd (omega arith)
none_here known left (mark ∷ marks) some none = rw (none, said_from) refl

pub some_here : (known : Known) (left : ℕ) (finding : Finding) (marks : List Mark) → 0 < length marks → said_here known left marks ≡ Some finding
    → Some finding ≡ said_from known left marks
some_here known left finding [] some is = absurd (omega arith)
some_here known left finding (mark ∷ marks) some is = rw (is, said_from) refl
