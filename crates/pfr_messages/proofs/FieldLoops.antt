-- Reading byte by byte, as loops do.
use Rattle.std.proofs.Common.{◌≡◌, ◌≢◌, ℕ, zero, suc, ◌+◌, ◌-◌, ◌<◌, ◌≤◌, Bool, true, false, eqb, ltb, List, [], ◌∷◌, ◌++◌, length, get_or, drop, Result, Ok, Err, refl, sym, ap, subst, ◌∙◌, append_assoc, arith}
use Rattle.std.specs.Int.{w8}
use Rattle.std.proofs.Math.Seq.{drop-cons}
use Rattle.std.proofs.lemmas.Bool.{ne_eqb}
use Rattle.std.proofs.lemmas.List.{append-nil, length-drop, nil_from_length}
use Rattle.pfr_messages.specs.declared.fault.Fault.{Fault}
use Rattle.pfr_messages.specs.declared.fault.Fault.TheVariants.{Count, Differs}
use Rattle.pfr_messages.specs.Fields.{◌>>=◌, behind, may_stand, number_at, padded_at, zeros}

-- ---- one byte

abbrev byte : ℕ × List ℕ → Result (ℕ × List ℕ) Fault
byte x = Ok x

abbrev fails : Fault → Result (ℕ × List ℕ) Fault
fails fault = Err fault

abbrev byte_list : List ℕ × List ℕ → Result (List ℕ × List ℕ) Fault
byte_list x = Ok x

abbrev failed : Fault → Result (List ℕ × List ℕ) Fault
failed fault = Err fault

ok_pair : {x y : ℕ × List ℕ} → byte x ≡ byte y → x ≡ y
ok_pair e = cc

err_is : {x y : Fault} → fails x ≡ fails y → y ≡ x
err_is e = cc

apart : {x : ℕ × List ℕ} {fault : Fault} → byte x ≡ fails fault → ⊥
apart e = absurd cc

no_byte : number_at w8 [] ≡ fails Count
unfolding number_at
no_byte = refl

none : (b : ℕ) (rest : List ℕ) → number_at w8 [] ≡ Ok (b, rest) → ⊥
none b rest e = apart (sym e ∙ no_byte)

pub first_byte : (b : ℕ) (bytes : List ℕ) → number_at w8 (b ∷ bytes) ≡ Ok (b, bytes)
unfolding number_at
first_byte b bytes =
    let long : ltb (suc (length bytes)) 1 ≡ false = grind arith in
    rw long refl

pub byte_is : (bytes : List ℕ) (b : ℕ) (rest : List ℕ) → number_at w8 bytes ≡ Ok (b, rest) → bytes ≡ b ∷ rest
byte_is [] b rest e = absurd (none b rest e)
byte_is (c ∷ bytes) b rest e =
    let both : (c, bytes) ≡ (b, rest) = ok_pair (sym (first_byte c bytes) ∙ e) in
    ap (λ (p : ℕ × List ℕ). p.0 ∷ p.1) both

pub none_left : (bytes : List ℕ) (fault : Fault) → number_at w8 bytes ≡ Err fault → (bytes ≡ []) × (fault ≡ Count)
none_left [] fault e = (refl, err_is (sym no_byte ∙ e))
none_left (c ∷ bytes) fault e = absurd (apart (sym (first_byte c bytes) ∙ e))

-- ---- a text

-- a text from a place on
from_place : (text : List ℕ) (i : ℕ) (bytes : List ℕ) (total : Result (List ℕ) Fault) → i < length text
    → behind (drop i text) bytes ≡ total → behind (get_or text i 0 ∷ drop (suc i) text) bytes ≡ total
from_place text i bytes total lt so_far = ap (λ (t : List ℕ). behind t bytes) (sym (drop-cons text i 0 lt)) ∙ so_far

pub same_byte : (b : ℕ) (text rest : List ℕ) → behind (b ∷ text) (b ∷ rest) ≡ behind text rest
same_byte b text rest = let e : eqb b b ≡ true = grind arith in rw e refl

other_byte : (b c : ℕ) (text rest : List ℕ) → b ≢ c → behind (b ∷ text) (c ∷ rest) ≡ Err (Differs (suc (length rest)))
other_byte b c text rest ne = let e : eqb b c ≡ false = ne_eqb b c ne in rw e refl

pub text_goes_on : (text : List ℕ) (i : ℕ) (bytes : List ℕ) (b : ℕ) (rest : List ℕ) (total : Result (List ℕ) Fault)
    → i < length text
    → number_at w8 bytes ≡ Ok (b, rest) → get_or text i 0 ≡ b → behind (drop i text) bytes ≡ total
    → behind (drop (i + 1) text) rest ≡ total
text_goes_on text i bytes b rest total lt read same so_far =
    let begun = from_place text i bytes total lt so_far in
    let here : behind (get_or text i 0 ∷ drop (suc i) text) (b ∷ rest) ≡ total =
    subst (λ (bs : List ℕ). behind (get_or text i 0 ∷ drop (suc i) text) bs ≡ total) (byte_is bytes b rest read) begun in
    let here : behind (b ∷ drop (suc i) text) (b ∷ rest) ≡ total =
    subst (λ (c : ℕ). behind (c ∷ drop (suc i) text) (b ∷ rest) ≡ total) same here in
    let next : suc i ≡ i + 1 = omega arith in
    subst (λ (k : ℕ). behind (drop k text) rest ≡ total) next (sym (same_byte b (drop (suc i) text) rest) ∙ here)

pub text_differs : (text : List ℕ) (i : ℕ) (bytes : List ℕ) (b : ℕ) (rest : List ℕ) (total : Result (List ℕ) Fault)
    → i < length text
    → number_at w8 bytes ≡ Ok (b, rest) → get_or text i 0 ≢ b → behind (drop i text) bytes ≡ total
    → total ≡ Err (Differs (length bytes))
text_differs text i bytes b rest total lt read other so_far =
    let are = byte_is bytes b rest read in
    let here : behind (get_or text i 0 ∷ drop (suc i) text) (b ∷ rest) ≡ total =
    subst (λ (bs : List ℕ). behind (get_or text i 0 ∷ drop (suc i) text) bs ≡ total) are
    (from_place text i bytes total lt so_far) in
    sym here ∙ other_byte (get_or text i 0) b (drop (suc i) text) rest other
    ∙ ap (λ (bs : List ℕ). Err (Differs (length bs))) (sym are)

pub text_ends : (text : List ℕ) (i : ℕ) (bytes : List ℕ) (fault : Fault) (total : Result (List ℕ) Fault) → i < length text
    → number_at w8 bytes ≡ Err fault → behind (drop i text) bytes ≡ total → total ≡ Err fault
text_ends text i bytes fault total lt read so_far =
    let none = none_left bytes fault read in
    let here : behind (get_or text i 0 ∷ drop (suc i) text) [] ≡ total =
    subst (λ (bs : List ℕ). behind (get_or text i 0 ∷ drop (suc i) text) bs ≡ total) none.0
    (from_place text i bytes total lt so_far) in
    subst (λ (f : Fault). total ≡ Err f) (sym none.1) (sym here)

pub text_is_over : (text : List ℕ) (i : ℕ) (bytes : List ℕ) (total : Result (List ℕ) Fault) → length text ≤ i
    → behind (drop i text) bytes ≡ total → total ≡ Ok bytes
text_is_over text i bytes total le so_far =
    let none : drop i text ≡ [] = nil_from_length (drop i text) (omega (arith, length-drop i text)) in
    sym so_far ∙ ap (λ (t : List ℕ). behind t bytes) none

pub zeros_len : (n : ℕ) → length (zeros n) ≡ n
zeros_len zero = refl
zeros_len (suc n) = ap suc (zeros_len n)

pub zero_at : (n i : ℕ) → get_or (zeros n) i 0 ≡ 0
zero_at zero i = refl
zero_at (suc n) zero = refl
zero_at (suc n) (suc i) = zero_at n i

-- ---- a name

-- what was read of a name before, and what is still read
abbrev pub with_front : List ℕ → Result (List ℕ × List ℕ) Fault → Result (List ℕ × List ℕ) Fault
with_front front read = read >>= (λ r. Ok (front ++ r.0, r.1))

moved : (front : List ℕ) (b : ℕ) (read : Result (List ℕ × List ℕ) Fault)
    → with_front front (read >>= (λ r. Ok (b ∷ r.0, r.1))) ≡ with_front (front ++ b ∷ []) read
moved front b (Ok x) = ap (λ (name : List ℕ). byte_list (name, x.1)) (simp append_assoc)
moved front b (Err fault) = refl

pub padded_step : (places : ℕ) (ended : Bool) (b : ℕ) (rest : List ℕ) → may_stand ended places b ≡ true
    → padded_at (suc places) ended (b ∷ rest) ≡ (padded_at places (eqb b 0) rest >>= (λ r. Ok (b ∷ r.0, r.1)))
unfolding padded_at
padded_step places ended b rest may = rw may refl

padded_fault : (places : ℕ) (ended : Bool) (b : ℕ) (rest : List ℕ) → may_stand ended places b ≡ false
    → padded_at (suc places) ended (b ∷ rest) ≡ Err (Differs (suc (length rest)))
unfolding padded_at
padded_fault places ended b rest may = rw may refl

-- the byte at a place of a name
begun : (place : ℕ) (ended : Bool) (front bytes : List ℕ) (b : ℕ) (rest : List ℕ) (total : Result (List ℕ × List ℕ) Fault)
    → place < 16
    → number_at w8 bytes ≡ Ok (b, rest) → with_front front (padded_at (16 - place) ended bytes) ≡ total
    → with_front front (padded_at (suc (15 - place)) ended (b ∷ rest)) ≡ total
begun place ended front bytes b rest total lt read so_far =
    let here : 16 - place ≡ suc (15 - place) = omega arith in
    let there : with_front front (padded_at (suc (15 - place)) ended bytes) ≡ total =
    subst (λ (n : ℕ). with_front front (padded_at n ended bytes) ≡ total) here so_far in
    subst (λ (bs : List ℕ). with_front front (padded_at (suc (15 - place)) ended bs) ≡ total) (byte_is bytes b rest read) there

pub name_goes_on : (place : ℕ) (ended : Bool) (front bytes : List ℕ) (b : ℕ) (rest : List ℕ)
    (total : Result (List ℕ × List ℕ) Fault) → place < 16
    → number_at w8 bytes ≡ Ok (b, rest) → may_stand ended (15 - place) b ≡ true
    → with_front front (padded_at (16 - place) ended bytes) ≡ total
    → with_front (front ++ b ∷ []) (padded_at (16 - (place + 1)) (eqb b 0) rest) ≡ total
name_goes_on place ended front bytes b rest total lt read may so_far =
    let next : 15 - place ≡ 16 - (place + 1) = omega arith in
    let there = sym (ap (with_front front) (padded_step (15 - place) ended b rest may))
    ∙ begun place ended front bytes b rest total lt read so_far in
    subst (λ (n : ℕ). with_front (front ++ b ∷ []) (padded_at n (eqb b 0) rest) ≡ total) next
    (sym (moved front b (padded_at (15 - place) (eqb b 0) rest)) ∙ there)

pub name_differs : (place : ℕ) (ended : Bool) (front bytes : List ℕ) (b : ℕ) (rest : List ℕ)
    (total : Result (List ℕ × List ℕ) Fault) → place < 16
    → number_at w8 bytes ≡ Ok (b, rest) → may_stand ended (15 - place) b ≡ false
    → with_front front (padded_at (16 - place) ended bytes) ≡ total → total ≡ Err (Differs (length bytes))
name_differs place ended front bytes b rest total lt read may so_far =
    let are = byte_is bytes b rest read in
    sym (begun place ended front bytes b rest total lt read so_far)
    ∙ ap (with_front front) (padded_fault (15 - place) ended b rest may)
    ∙ ap (λ (bs : List ℕ). failed (Differs (length bs))) (sym are)

padded_none : (places : ℕ) (ended : Bool) → padded_at (suc places) ended [] ≡ Err Count
unfolding padded_at
padded_none places ended = refl

pub name_ends : (place : ℕ) (ended : Bool) (front bytes : List ℕ) (fault : Fault) (total : Result (List ℕ × List ℕ) Fault)
    → place < 16
    → number_at w8 bytes ≡ Err fault → with_front front (padded_at (16 - place) ended bytes) ≡ total → total ≡ Err fault
name_ends place ended front bytes fault total lt read so_far =
    let here : 16 - place ≡ suc (15 - place) = omega arith in
    let none = none_left bytes fault read in
    let there : with_front front (padded_at (suc (15 - place)) ended bytes) ≡ total =
    subst (λ (n : ℕ). with_front front (padded_at n ended bytes) ≡ total) here so_far in
    let begun : with_front front (padded_at (suc (15 - place)) ended []) ≡ total =
    subst (λ (bs : List ℕ). with_front front (padded_at (suc (15 - place)) ended bs) ≡ total) none.0 there in
    subst (λ (f : Fault). total ≡ failed f) (sym none.1) (sym begun ∙ ap (with_front front) (padded_none (15 - place) ended))

padded_over : (ended : Bool) (bytes : List ℕ) → padded_at 0 ended bytes ≡ Ok ([], bytes)
unfolding padded_at
padded_over ended bytes = refl

pub name_is_done : (place : ℕ) (ended : Bool) (name bytes : List ℕ) (total : Result (List ℕ × List ℕ) Fault) → 16 ≤ place
    → with_front name (padded_at (16 - place) ended bytes) ≡ total → total ≡ Ok (name, bytes)
name_is_done place ended name bytes total le so_far =
    let here : 16 - place ≡ 0 = omega arith in
    let over = ap (with_front name) (padded_over ended bytes) ∙ ap (λ (n : List ℕ). byte_list (n, bytes)) (append-nil name) in
    let begun : with_front name (padded_at 0 ended bytes) ≡ total =
    subst (λ (n : ℕ). with_front name (padded_at n ended bytes) ≡ total) here so_far in
    sym begun ∙ over
