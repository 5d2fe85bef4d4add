-- Targets one mark after the other.
use Rattle.std.proofs.Common.{◌≡◌, ◌<◌, ℕ, ◌+◌, List, [], ◌∷◌, arith, length, drop, refl}
use Rattle.pfr_marks.specs.declared.mark.Mark.{Mark}
use Rattle.pfr_spelling.specs.declared.targets.Seen.TheVariants.{Element, Nothing}
use Rattle.pfr_spelling.specs.Targets.{lead_from, seen_at}

pub one_mark : (before passed more : ℕ) (marks : List Mark) → 0 < length marks → seen_at passed marks ≡ Nothing more
    → lead_from (before + 1) more (drop 1 marks) ≡ lead_from before passed marks
one_mark before passed more [] some seen = absurd (omega arith)
one_mark before passed more (mark ∷ marks) some seen = rw (seen, lead_from) refl

pub ends_here : (before passed : ℕ) (marks : List Mark) → 0 < length marks → seen_at passed marks ≡ Element → lead_from before passed marks ≡ before
ends_here before passed [] some seen = absurd (omega arith)
ends_here before passed (mark ∷ marks) some seen = rw (seen, lead_from) refl
