-- Values one byte after the other.
use Rattle.std.proofs.Common.{◌≡◌, ◌<◌, ℕ, List, [], ◌∷◌, ◌++◌, arith, length, drop, refl, true}
use Rattle.std.proofs.lemmas.List.{append_assoc}
use Rattle.pfr_spelling.specs.Macros.{begins_sound, first_unfolded, is_sound, unfolded}

pub one_byte : (made text : List ℕ) → 0 < length text → (made ++ first_unfolded text ∷ []) ++ unfolded (drop 1 text) ≡ made ++ unfolded text
one_byte made [] some = absurd (omega arith)
one_byte made (b ∷ text) some = append_assoc made _ _

pub sound_here : (text : List ℕ) → begins_sound text ≡ true → is_sound (drop 1 text) ≡ is_sound text
sound_here [] sound = refl
sound_here (b ∷ text) sound = rw (sound, is_sound) refl
