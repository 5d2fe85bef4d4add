-- Lists one mark after the other.
use Rattle.std.proofs.Common.{◌≡◌, ℕ, List, [], ◌∷◌, drop, refl}
use Rattle.pfr_marks.specs.declared.mark.Mark.{Mark}
use Rattle.pfr_phrases.specs.declared.options.Group.{Group}
use Rattle.pfr_phrases.specs.declared.options.Seen.TheVariants.{LeftOut}
use Rattle.pfr_phrases.specs.Options.{all_left_out, seen_at}

pub one_mark : (group : Group) (passed more : ℕ) (marks : List Mark) → seen_at group passed marks ≡ LeftOut more
    → all_left_out group more (drop 1 marks) ≡ all_left_out group passed marks
one_mark group passed more [] seen = absurd (cc)
one_mark group passed more (mark ∷ marks) seen = rw (seen, all_left_out) refl
