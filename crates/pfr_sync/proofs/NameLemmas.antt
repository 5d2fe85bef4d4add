-- Names as messages have them.
use Rattle.std.proofs.Common.{◌≡◌, ℕ, zero, suc, ◌+◌, ◌-◌, ◌<◌, ◌≤◌, ◌==◌, true, false, min, List, [], ◌∷◌, ◌++◌, length, map, take, get_or, set, slice_get, Some, refl, sym, ap, ◌∙◌, inl, inr, arith}
use lib.ListN.{replicate}
use native.Mathlib.Numerals.{unary_clauses}
use Rattle.std.specs.List.{All}
use Rattle.std.proofs.lemmas.Bool.{cases_Bool, cases_lt, and_from, and_parts, eq-eqb, eqb-true}
use Rattle.std.proofs.lemmas.List.{get_or_past, length-append, length-take, length-replicate}
use Rattle.std.proofs.lemmas.List.Elements.{All-append, All-map, All-replicate, All-take}
use Rattle.pfr_net.specs.Interfaces.{if_name}
use Rattle.pfr_net.specs.declared.interface.IfName.{IfName}
use Rattle.pfr_net.specs.declared.interface.InterfacePlace.{InterfacePlace}
use Rattle.pfr_messages.specs.Fields.{are_padded, name}
use Rattle.pfr_sync.specs.Events.{name_at}
use Rattle.pfr_sync.specs.Queues.{before_zero, plain_name, plain_names}

zeros_padded : (n : ℕ) → are_padded true (replicate n 0) ≡ true
zeros_padded zero = refl
zeros_padded (suc n) = zeros_padded n

length_zeros : (n : ℕ) → length {A = ℕ} (replicate n 0) ≡ n
length_zeros n = length-replicate n 0

front_padded : (len n : ℕ) (bytes : List ℕ) → are_padded false (take len (before_zero bytes) ++ replicate (suc n) 0) ≡ true
front_padded zero n bytes = zeros_padded n
front_padded (suc len) n [] = zeros_padded n
front_padded (suc len) n (b ∷ bytes) = elim (cases_Bool (b == 0)) [
  | inl it_is ↦ rw it_is (zeros_padded n)
  | inr not_it ↦ rw (not_it, not_it) (front_padded len n bytes)
]

name_fits : (bytes : List ℕ) → name.fits (if_name (before_zero bytes)) ≡ true
unfolding if_name
name_fits bytes =
    let xs = before_zero bytes in
    let len = min (length xs) 15 in
    let behind : 16 - len ≡ suc (15 - len) = omega arith in
    let padded : are_padded false (take len xs ++ replicate (16 - len) 0) ≡ true = rw behind (front_padded len (15 - len) bytes) in
    let zeros : List ℕ = replicate (16 - len) 0 in
    let sixteen : length (take len xs ++ zeros) ≡ 16 =
    (let all = length-append (take len xs) zeros in let front = length-take len xs in let last = length_zeros (16 - len) in omega arith) in
    and_from (length (take len xs ++ replicate (16 - len) 0) == 16) (are_padded false (take len xs ++ replicate (16 - len) 0)) (eq-eqb _ 16 sixteen) padded

pub plain_fits : (n : IfName) → name.fits (plain_name n) ≡ true
plain_fits n = name_fits n.bytes

no_letters_fit : name.fits (if_name []) ≡ true
no_letters_fit = name_fits []

pub no_letters_from : (n : IfName) → n ≡ if_name [] → name.fits n ≡ true
no_letters_from n is = rw is no_letters_fit

-- ---- names by their places

-- each name is one as messages have it
abbrev pub AllFit : List IfName → Type 0
AllFit names = All (λ (n : IfName). name.fits n ≡ true) names

pub fits_sixteen : (n : IfName) → name.fits n ≡ true → length n.bytes ≡ 16
fits_sixteen n fits = eqb-true (length n.bytes) 16 (and_parts (length n.bytes == 16) (are_padded false n.bytes) fits).0

pub fits_at : (names : List IfName) (place : InterfacePlace) → AllFit names → name.fits (name_at names place) ≡ true
fits_at names place fit = elim (cases_lt place.0 (length names)) [
  | inl within ↦ fit place.0 (if_name []) within
  | inr past ↦ rw (get_or_past names place.0 (if_name []) past) no_letters_fit
]

pub plain_names_fit : (names : List IfName) → AllFit (plain_names names)
unfolding plain_names
plain_names_fit names =
    let P : IfName → Type 0 = λ n. name.fits n ≡ true in
    let front : All P (map plain_name names) = All-map P plain_name names (λ k d within. plain_fits (get_or names k d)) in
    let back : All P (replicate 8 (if_name [])) = All-replicate P 8 (if_name []) no_letters_fit in
    All-take P 8 (map plain_name names ++ replicate 8 (if_name [])) (All-append P (map plain_name names) (replicate 8 (if_name [])) front back)

pub plain_names_from : (names made : List IfName) → made ≡ plain_names names → AllFit made
plain_names_from names made is = rw is (plain_names_fit names)

-- `n` names by their places, by recursion
abbrev named : ℕ → List IfName → List IfName
named zero names = []
named (suc n) [] = if_name [] ∷ named n []
named (suc n) (x ∷ names) = plain_name x ∷ named n names

named_none : (n m : ℕ) → n ≤ m → take n (replicate m (if_name [])) ≡ named n []
named_none zero m few = refl
named_none (suc n) zero few = absurd (omega arith)
named_none (suc n) (suc m) few = ap (λ (names : List IfName). if_name [] ∷ names) (named_none n m (omega arith))

named_is : (n m : ℕ) (names : List IfName) → n ≤ m → take n (map plain_name names ++ replicate m (if_name [])) ≡ named n names
named_is zero m names few = refl
named_is (suc n) m [] few = named_none (suc n) m few
named_is (suc n) m (x ∷ names) few = ap (λ (names : List IfName). plain_name x ∷ names) (named_is n m names (omega arith))

plain_is : (names : List IfName) → plain_names names ≡ named 8 names
unfolding plain_names
plain_is names = named_is 8 8 names (omega arith)

named_at : (n : ℕ) (names : List IfName) (k : ℕ) (x d : IfName) → k < n → slice_get names k ≡ Some x → get_or (named n names) k d ≡ plain_name x
named_at zero names k x d within at = absurd (omega arith)
named_at (suc n) [] k x d within at = absurd cc
named_at (suc n) (y ∷ names) zero x d within at =
    let same : y ≡ x = cc at in
    ap plain_name same
named_at (suc n) (y ∷ names) (suc k) x d within at = named_at n names k x d (omega arith) at

pub plain_at : (names : List IfName) (place : InterfacePlace) (x : IfName) → place.0 < 8 → slice_get names place.0 ≡ Some x
    → name_at (plain_names names) place ≡ plain_name x
plain_at names place x within at =
    ap (λ (plain : List IfName). name_at plain place) (plain_is names) ∙ named_at 8 names place.0 x (if_name []) within at

named_more : (n : ℕ) (names : List IfName) (k : ℕ) (x d : IfName) → k < n → k < length names → x ≡ get_or names k d
    → set (named n (take k names)) k (plain_name x) ≡ named n (take (k + 1) names)
named_more zero names k x d below within at = absurd (omega arith)
named_more (suc n) [] k x d below within at = absurd (omega arith)
named_more (suc n) (y ∷ names) zero x d below within at = ap (λ (y : IfName). plain_name y ∷ named n []) at
named_more (suc n) (y ∷ names) (suc k) x d below within at =
    let more : suc k + 1 ≡ suc (k + 1) = omega arith in
    rw more (ap (λ (names : List IfName). plain_name y ∷ names) (named_more n names k x d (omega arith) (omega arith) at))

-- none yet
pub plain_none : (x : IfName) → x ≡ if_name [] → replicate 8 x ≡ plain_names []
plain_none x is = rw is (sym (plain_is []))

-- one name more
pub plain_more : (names plain : List IfName) (k : ℕ) (x d made : IfName) → plain ≡ plain_names (take k names) → k < min (length names) 8
    → x ≡ get_or names k d → made ≡ plain_name x → set plain k made ≡ plain_names (take (k + 1) names)
plain_more names plain k x d made are below at is =
    ap (λ (plain : List IfName). set plain k made) (are ∙ plain_is (take k names))
    ∙ ap (set (named 8 (take k names)) k) is
    ∙ named_more 8 names k x d (omega arith) (omega arith) at
    ∙ sym (plain_is (take (k + 1) names))

named_all : (n : ℕ) (names : List IfName) → named n (take (min (length names) n) names) ≡ named n names
named_all zero names = refl
named_all (suc n) [] = simp unary_clauses refl
named_all (suc n) (x ∷ names) = simp unary_clauses (ap (λ (names : List IfName). plain_name x ∷ names) (named_all n names))

-- the first eight count
pub plain_all : (names : List IfName) (k : ℕ) → k ≡ min (length names) 8 → plain_names (take k names) ≡ plain_names names
plain_all names k is =
    ap (λ (k : ℕ). plain_names (take k names)) is
    ∙ plain_is (take (min (length names) 8) names)
    ∙ named_all 8 names
    ∙ sym (plain_is names)
