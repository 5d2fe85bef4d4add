-- How long a run and a piece are: never longer than the text, and no longer for a newline behind it.
use Rattle.std.proofs.Common.{◌≡◌, ◌≢◌, ◌≤◌, ◌<◌, ℕ, zero, suc, ◌+◌, ◌||◌, eqb, Bool, true, false, not, if◌then◌else◌, List, [], ◌∷◌, ◌++◌, length, drop, slice_index, refl, sym, ◌∙◌, arith}
use Rattle.std.specs.Option.{is_some}
use Rattle.std.proofs.lemmas.Bool.{ne_eqb, eqb-true, cond_both, and_parts, not-true, or_parts, and_right, true≢false}
use Rattle.std.proofs.lemmas.List.{drop-append-le, length-drop}
use Rattle.pfr_words.specs.declared.cutting.Class.{Class}
use Rattle.pfr_words.specs.declared.cutting.Class.TheVariants as class
use Rattle.pfr_words.specs.Words.{begins_plain, double_sign, goes_on, is_plain, piece_len, quote_len, run_len, suffix_len, use_len}

-- the last byte of a text, or `before` if the text is empty
abbrev pub last_of : ℕ → List ℕ → ℕ
last_of before [] = before
last_of before (b ∷ text) = last_of b text

-- ---- no longer than the text

one_more : (goes : Bool) (n m : ℕ) → n ≤ m → (if goes then 1 + n else 0) ≤ suc m
one_more true n m below = omega arith
one_more false n m below = omega arith

pub run_within : (c : Class) (before : ℕ) (text : List ℕ) → run_len c before text ≤ length text
run_within c before [] = omega arith
run_within c before (b ∷ text) = one_more (goes_on c before b (slice_index text 0)) (run_len c b text) (length text) (run_within c b text)

suffix_within : (text : List ℕ) → suffix_len text ≤ length text
suffix_within text =
    let run = run_within class.Plain 0 text in
    cond_both (eqb (slice_index text 0) 58 || eqb (slice_index text 0) 47) (run_len class.Plain 0 text) 0 (λ n. n ≤ length text) (λ e. run) (λ e. omega arith)

use_within : (text : List ℕ) → use_len text ≤ length text
use_within text =
    let name = run_within class.Name 36 text in
    let suffix = suffix_within (drop (run_len class.Name 36 text) text) in
    let left = length-drop (run_len class.Name 36 text) text in
    omega arith

there : (text : List ℕ) (n a : ℕ) → slice_index text n ≡ suc a → n < length text
there [] n a e = absurd (omega arith)
there (b ∷ text) zero a e = omega arith
there (b ∷ text) (suc n) a e = let below = there text n a e in omega arith

quote_within : (text : List ℕ) → (1 ≤ quote_len text) × (quote_len text ≤ 1 + length text)
quote_within text =
    let inner = run_len class.Quote 34 text in
    let run = run_within class.Quote 34 text in
    cond_both (eqb (slice_index text inner) 34) (inner + 2) (inner + 1) (λ n. (1 ≤ n) × (n ≤ 1 + length text))
    (λ e. let below = there text inner 33 (eqb-true (slice_index text inner) 34 e) in (omega arith, omega arith))
    (λ e. (omega arith, omega arith))

plain_goes : (b next : ℕ) → begins_plain b ≡ true → goes_on class.Plain 0 b next ≡ true
plain_goes b next e =
    let parts = and_parts (is_plain b) (not (eqb b 45 || eqb b 47 || eqb b 58)) e in
    let dash = (or_parts (eqb b 45) (eqb b 47) (or_parts (eqb b 45 || eqb b 47) (eqb b 58) (not-true _ parts.1)).0).0 in
    rw (parts.0, dash) refl

plain_some : (b : ℕ) (text : List ℕ) → begins_plain b ≡ true → 1 ≤ run_len class.Plain 0 (b ∷ text)
plain_some b text e = rw (plain_goes b (slice_index text 0) e) (omega arith)

no_sign : (a : ℕ) → is_some (double_sign a 0) ≡ false
unfolding double_sign
no_sign a = rw (and_right (eqb a 33) false refl, and_right (eqb a 60) false refl, and_right (eqb a 62) false refl, and_right (eqb a 45) false refl) refl

two_bytes : (a : ℕ) (text : List ℕ) → is_some (double_sign a (slice_index text 0)) ≡ true → 1 ≤ length text
two_bytes a [] e = absurd (true≢false (sym e ∙ no_sign a))
two_bytes a (b ∷ text) e = omega arith

pub piece_within : (a : ℕ) (text : List ℕ) → (1 ≤ piece_len (a ∷ text)) × (piece_len (a ∷ text) ≤ 1 + length text)
unfolding piece_len
piece_within a text =
    let Good = λ (n : ℕ). (1 ≤ n) × (n ≤ 1 + length text) in
    let comment = run_within class.Comment 35 text in
    let used = use_within text in
    let plain = run_within class.Plain 0 (a ∷ text) in
    cond_both (eqb a 92) _ _ Good
    (λ e. cond_both (eqb (slice_index text 0) 10) 2 1 Good (λ f. let below = there text 0 9 (eqb-true (slice_index text 0) 10 f) in (omega arith, omega arith)) (λ f. (omega arith, omega arith)))
    (λ e. cond_both (eqb a 35) _ _ Good (λ f. (omega arith, omega arith))
    (λ f. cond_both (eqb a 34) _ _ Good (λ g. quote_within text)
    (λ g. cond_both (eqb a 36) _ _ Good (λ h. (omega arith, omega arith))
    (λ h. cond_both (begins_plain a) _ _ Good (λ i. let some = plain_some a text i in (some, omega arith))
    (λ i. cond_both (is_some (double_sign a (slice_index text 0))) 2 1 Good (λ j. let two = two_bytes a text j in (omega arith, omega arith)) (λ j. (omega arith, omega arith)))))))

-- ---- no longer for a newline behind it

same_next : (c : Class) (before b next : ℕ) → goes_on c before b 10 ≡ goes_on c before b 0
same_next class.Name before b next = refl
same_next class.Plain before b next = refl
same_next class.Comment before b next = refl
same_next class.Quote before b next = refl

same_goes : (c : Class) (before b : ℕ) (text more : List ℕ) → goes_on c before b (slice_index (text ++ 10 ∷ more) 0) ≡ goes_on c before b (slice_index text 0)
same_goes c before b [] more = same_next c before b 0
same_goes c before b (x ∷ text) more = refl

-- for a class whose runs a newline ends that stands behind the text's last byte
run_joined : (c : Class) (before : ℕ) (text more : List ℕ) → ((next : ℕ) → goes_on c (last_of before text) 10 next ≡ false)
    → run_len c before (text ++ 10 ∷ more) ≡ run_len c before text
run_joined c before [] more stops = rw (stops (slice_index more 0)) refl
run_joined c before (b ∷ text) more stops = rw (same_goes c before b text more, run_joined c b text more stops) refl

comment_joined : (before : ℕ) (text more : List ℕ) → last_of before text ≢ 92 → run_len class.Comment before (text ++ 10 ∷ more) ≡ run_len class.Comment before text
comment_joined before text more other = run_joined class.Comment before text more (λ next. ne_eqb (last_of before text) 92 other)

run_in_quote_joined : (before : ℕ) (text more : List ℕ) → last_of before text ≢ 92 → run_len class.Quote before (text ++ 10 ∷ more) ≡ run_len class.Quote before text
run_in_quote_joined before text more other = run_joined class.Quote before text more (λ next. ne_eqb (last_of before text) 92 other)

-- a newline is as good as no byte, if something else is looked for
not_there : (text more : List ℕ) (n b : ℕ) → n ≤ length text → b ≢ 10 → b ≢ 0 → eqb (slice_index (text ++ 10 ∷ more) n) b ≡ eqb (slice_index text n) b
not_there [] more zero b within ten null = rw (ne_eqb 10 b (λ e. ten (sym e)), ne_eqb 0 b (λ e. null (sym e))) refl
not_there [] more (suc n) b within ten null = absurd (omega arith)
not_there (x ∷ text) more zero b within ten null = refl
not_there (x ∷ text) more (suc n) b within ten null = not_there text more n b (omega arith) ten null

quote_joined : (text more : List ℕ) → last_of 34 text ≢ 92 → quote_len (text ++ 10 ∷ more) ≡ quote_len text
quote_joined text more other =
    rw (run_in_quote_joined 34 text more other, not_there text more (run_len class.Quote 34 text) 34 (run_within class.Quote 34 text) (λ e. omega arith) (λ e. omega arith)) refl

plain_joined : (text more : List ℕ) → run_len class.Plain 0 (text ++ 10 ∷ more) ≡ run_len class.Plain 0 text
plain_joined text more = run_joined class.Plain 0 text more (λ next. refl)

suffix_joined : (text more : List ℕ) → suffix_len (text ++ 10 ∷ more) ≡ suffix_len text
suffix_joined [] more = refl
suffix_joined (b ∷ text) more = rw (plain_joined (b ∷ text) more) refl

use_joined : (text more : List ℕ) → use_len (text ++ 10 ∷ more) ≡ use_len text
use_joined text more =
    rw (run_joined class.Name 36 text more (λ next. refl), drop-append-le (run_len class.Name 36 text) text (10 ∷ more) (run_within class.Name 36 text), suffix_joined (drop (run_len class.Name 36 text) text) more) refl

pub piece_joined : (a : ℕ) (text more : List ℕ) → last_of a text ≢ 92 → piece_len (a ∷ (text ++ 10 ∷ more)) ≡ piece_len (a ∷ text)
unfolding piece_len double_sign
piece_joined a [] more other = rw (ne_eqb a 92 other, plain_joined (a ∷ []) more) refl
piece_joined a (b ∷ text) more other =
    rw (comment_joined 35 (b ∷ text) more other, quote_joined (b ∷ text) more other, use_joined (b ∷ text) more, plain_joined (a ∷ b ∷ text) more) refl
