-- Words that are made of two.
use Rattle.std.proofs.Common.{nat_eq, ◌≡◌, ◌∙◌, ◌&&◌, ℕ, Bool, true, false, List, [], ◌∷◌, ◌++◌, length, take, drop, refl, ap}
use Rattle.std.specs.Str.{bytes_eq}
use Rattle.pfr_given.specs.Entries.{is_both}

empty_front : (text back : List ℕ) → is_both text [] back ≡ bytes_eq text back
empty_front text back = refl

and_and : (a b c : Bool) → (a && b) && c ≡ a && (b && c)
and_and true b c = refl
and_and false b c = refl

pub both_is : (text front back : List ℕ) → is_both text front back ≡ bytes_eq text (front ++ back)
both_is text [] back = empty_front text back
both_is [] (f ∷ front) back = refl
both_is (b ∷ text) (f ∷ front) back =
    and_and (nat_eq b f) (bytes_eq (take (length front) text) front) (bytes_eq (drop (length front) text) back)
    ∙ ap (λ same. nat_eq b f && same) (both_is text front back)
