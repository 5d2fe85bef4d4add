-- What the header of a capture says.
use Rattle.std.proofs.Common.{◌≡◌, ◌++◌, ℕ, false, List, [], ◌∷◌, length, take, nat_lt, if◌then◌else◌, Ok, refl, sym, ap, ◌∙◌, arith, length-append}
use Rattle.pfr_capture.specs.Header.{form_of, opening_of}
use Rattle.pfr_capture.specs.Reading.{Opens, Reading}

append_append : (front more back : List ℕ) → front ++ (more ++ back) ≡ (front ++ more) ++ back
append_append [] more back = refl
append_append (b ∷ front) more back = ap (λ l. b ∷ l) (append_append front more back)

front_of : (front back : List ℕ) → take (length front) (front ++ back) ≡ front
front_of [] back = grind arith
front_of (b ∷ front) back = ap (λ l. b ∷ l) (front_of front back)

-- what a capture that was opened says is what its header says
opens_with : (header back : List ℕ) → length header ≡ 24 → opening_of (header ++ back) ≡ form_of header
opens_with header back long =
    let enough : nat_lt (length (header ++ back)) 24 ≡ false = grind (arith, length-append header back, long) in
    ap (λ short. if short then opening_of [] else form_of (take 24 (header ++ back))) enough ∙ ap form_of (ap (λ n. take n (header ++ back)) (sym long) ∙ front_of header back)

pub opened : (text left : List ℕ) (reading : Reading) → Opens text left reading → opening_of text ≡ Ok reading.form
opened text left reading opens =
    let same : text ≡ reading.header ++ (reading.ahead ++ left) =
    opens.gave ∙ ap (λ came. came ++ left) opens.given.read_is ∙ sym (append_append reading.header reading.ahead left) in
    ap opening_of same ∙ opens_with reading.header (reading.ahead ++ left) opens.given.header_length ∙ opens.given.says
