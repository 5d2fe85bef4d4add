-- A word names at most one host and port, since digits hold no colon.
use Rattle.std.proofs.Common.{◌≡◌, ◌==◌, ◌&&◌, ◌++◌, ℕ, Bool, true, false, if◌then◌else◌, List, [], ◌∷◌, length, drop, get_or, None, Some, refl, sym, ap, ap₂, ◌∙◌, true≢false, subst, length-append, take-append-drop, arith}
use Rattle.std.specs.Char.{is_ascii_digit}
use Rattle.std.specs.Str.Pattern.{RFindsChar, SplitsAroundMatch}
use Rattle.std.specs.Str.{NoCharPasses}
use Rattle.std.proofs.lemmas.List.{get_or_at}
use Rattle.std.proofs.lemmas.Str.Pattern.{NoCharPasses-char, drop_at_char}
use Rattle.pfr_net.specs.Notation.{are_digits, number}
use Rattle.pfr_values.specs.Peers.{Names, NamesNone, WritesNone, WritesPort}

abbrev pub HasNoColon : List ℕ → Type 0
HasNoColon text = (front back : List ℕ) → text ≡ front ++ 58 ∷ back → ⊥

then_side : (c t : Bool) → (if c then t else false) ≡ true → t ≡ true
then_side true t h = h
then_side false t h = absurd (true≢false (sym h))

colon_is_no_digit : (front back : List ℕ) → are_digits (front ++ 58 ∷ back) ≡ true → ⊥
colon_is_no_digit [] back h = true≢false (sym h)
colon_is_no_digit (b ∷ front) back h = colon_is_no_digit front back (then_side (is_ascii_digit b) (are_digits (front ++ 58 ∷ back)) h)

second_holds : (a b : Bool) (v port : ℕ) → (if a && b then Some v else None) ≡ Some port → b ≡ true
second_holds true true v port h = refl
second_holds true false v port h = grind arith
second_holds false b v port h = grind arith

digits_have_none : (digits : List ℕ) (port : ℕ) → number digits ≡ Some port → HasNoColon digits
unfolding number
digits_have_none digits port is front back e =
    colon_is_no_digit front back (ap are_digits (sym e) ∙ second_holds _ (are_digits digits) _ port is)

only_one : (host digits front back : List ℕ) → host ++ 58 ∷ digits ≡ front ++ 58 ∷ back → HasNoColon digits → HasNoColon back → (host ≡ front) × (digits ≡ back)
only_one [] digits [] back e none_behind none_there = (refl, ap (drop 1) e)
only_one [] digits (c ∷ front) back e none_behind none_there = absurd (none_behind front back (ap (drop 1) e))
only_one (b ∷ host) digits [] back e none_behind none_there = absurd (none_there host digits (sym (ap (drop 1) e)))
only_one (b ∷ host) digits (c ∷ front) back e none_behind none_there =
    let rest = only_one host digits front back (ap (drop 1) e) none_behind none_there in
    (ap₂ (λ x l. x ∷ l) (ap (λ l. get_or l 0 0) e) rest.0, rest.1)

no_colon_in : (text : List ℕ) → NoCharPasses (λ d. d == 58) text → HasNoColon text
no_colon_in text none front back e =
    NoCharPasses-char 58 text (length front) none (omega arith) (omega (arith, ap length e, length-append front (58 ∷ back)))
    (ap (λ l. get_or l (length front) 0) e ∙ get_or_at front 58 back 0 (length front) refl)

parts_of : (word front back : List ℕ) → SplitsAroundMatch (RFindsChar 58) word front back → (word ≡ front ++ 58 ∷ back) × HasNoColon back
parts_of word front back (i, j, found, before, behind, order, front_length, back_length) = (
  sym (take-append-drop i word) ∙ ap₂ (λ s t. s ++ t) (sym before) (drop_at_char 58 word i j found.1 (omega arith) ∙ ap (λ t. 58 ∷ t) (sym behind)),
  subst HasNoColon (sym behind) (no_colon_in (drop j word) found.0),
)

-- what a word names stands there
named_there : (word front back host : List ℕ) (port : ℕ) → SplitsAroundMatch (RFindsChar 58) word front back → Names word host port → (host ≡ front) × WritesPort back port
named_there word front back host port split named =
    let parts = parts_of word front back split in
    let same = only_one host named.0 front back (sym named.1 ∙ parts.0) (digits_have_none named.0 port named.3.0) parts.1 in
    (same.0, subst (λ digits. WritesPort digits port) same.1 named.3)

pub none_without_colon : (word : List ℕ) → RFindsChar 58 word None → NamesNone word
none_without_colon word none host port named = no_colon_in word none host named.0 named.1

pub none_without_port : (word front back : List ℕ) → SplitsAroundMatch (RFindsChar 58) word front back → WritesNone back → NamesNone word
none_without_port word front back split refused host port named = refused port (named_there word front back host port split named).1

pub none_without_host : (word front back : List ℕ) → SplitsAroundMatch (RFindsChar 58) word front back → length front ≡ 0 → NamesNone word
none_without_host word front back split empty host port named =
    omega (arith, named.2, ap length (named_there word front back host port split named).0, empty)
