-- Pieces that are appended one behind the other.
use Rattle.std.proofs.Common.{◌≡◌, ◌∙◌, ◌++◌, ℕ, List, OnOk, Ok, Err, Result, ap, if◌then◌else◌, is_ok}
use Rattle.std.proofs.lemmas.List.{append_assoc}

both : (old middle new first second : List ℕ) → middle ≡ old ++ first → new ≡ middle ++ second → new ≡ old ++ (first ++ second)
both old middle new first second one two = two ∙ ap (λ text. text ++ second) one ∙ append_assoc old first second

pub two_on : {T E : Type 0} (result : Result T E) (old middle new first second : List ℕ) → middle ≡ old ++ first
    → OnOk result (new ≡ middle ++ second) → OnOk result (new ≡ old ++ (first ++ second))
two_on (Ok value) old middle new first second one two = both old middle new first second one two
two_on (Err fault) old middle new first second one two = tt

pub three_on : {T E : Type 0} (result : Result T E) (old before middle new first second third : List ℕ) → before ≡ old ++ first
    → middle ≡ before ++ second → OnOk result (new ≡ middle ++ third) → OnOk result (new ≡ old ++ (first ++ (second ++ third)))
three_on (Ok value) old before middle new first second third one two three =
    both old before new first (second ++ third) one (both before middle new second third two three)
three_on (Err fault) old before middle new first second third one two three = tt

-- the same if the last piece is appended by a call of std's
pub three_if : {T E : Type 0} (result : Result T E) (old before middle new first second third : List ℕ) → before ≡ old ++ first
    → middle ≡ before ++ second → new ≡ (if is_ok result then middle ++ third else middle) → OnOk result (new ≡ old ++ (first ++ (second ++ third)))
three_if (Ok value) old before middle new first second third one two three =
    both old before new first (second ++ third) one (both before middle new second third two three)
three_if (Err fault) old before middle new first second third one two three = tt
