-- The first rule that holds by its place, and runs of numbers.
use Rattle.std.proofs.Common.{◌≡◌, ◌<◌, ◌≤◌, ◌+◌, ◌-◌, ◌∙◌, ℕ, zero, suc, min, Bool, true, false, List, [], ◌∷◌, ◌++◌, length, map, take, append_assoc, inl, inr, refl, sym, ap, subst, arith}
use Rattle.std.specs.List.{slice_get, slice_index_or, find}
use Rattle.std.proofs.lemmas.Bool.{cases_lt}
use Rattle.std.proofs.lemmas.List.{append-nil, take_more, take_all, length-map, get_or-map}
use Rattle.pfr_ruleset.specs.declared.flat.FlatTranslation.{FlatTranslation}
use Rattle.pfr_ruleset.specs.TranslationAids.{number_of, IsNumberEnd}
use Rattle.pfr_rules.specs.Numbers.{numbers_from}
use Rattle.pfr_rules.specs.Stretches.{HoldsAt, NoneHolds}
use Rattle.pfr_rules.specs.Translating.{up_to_first}

-- ---- the first that holds

none_behind : {R : Type 0} → (test : R → Bool) (x : R) (xs : List R) (place : ℕ) → NoneHolds test (x ∷ xs) 0 (suc place) → NoneHolds test xs 0 place
none_behind test x xs place none q high low = none (suc q) (omega arith) (omega (arith, low))

pub found_at : {R : Type 0} → (test : R → Bool) (rules : List R) (place : ℕ) → place ≤ length rules → NoneHolds test rules 0 place → (place < length rules → HoldsAt test rules place) → slice_get rules place ≡ find test rules
found_at test [] place within none holds = refl
found_at test (x ∷ xs) zero within none holds = (let here : test x ≡ true = holds (omega arith) in rw here refl)
found_at test (x ∷ xs) (suc place) within none holds =
    let here : test x ≡ false = none 0 (omega arith) (omega arith) in
    rw here (found_at test xs place (omega (arith, within)) (none_behind test x xs place none) (λ below. holds (omega (arith, below))))

all_asked : {R A : Type 0} → (test : R → Bool) (of : R → A) (rules : List R) → NoneHolds test rules 0 (length rules) → up_to_first test of rules ≡ map of rules
all_asked test of [] none = refl
all_asked test of (x ∷ xs) none =
    let here : test x ≡ false = none 0 (omega arith) (omega arith) in
    rw here (ap (λ rest. of x ∷ rest) (all_asked test of xs (none_behind test x xs (length xs) none)))

asked_up_to : {R A : Type 0} → (test : R → Bool) (of : R → A) (rules : List R) (place : ℕ) → place < length rules → NoneHolds test rules 0 place → HoldsAt test rules place → up_to_first test of rules ≡ take (suc place) (map of rules)
asked_up_to test of [] place within none holds = absurd (omega (arith, within))
asked_up_to test of (x ∷ xs) zero within none holds = (let here : test x ≡ true = holds in rw here refl)
asked_up_to test of (x ∷ xs) (suc place) within none holds =
    let here : test x ≡ false = none 0 (omega arith) (omega arith) in
    rw here (ap (λ rest. of x ∷ rest) (asked_up_to test of xs place (omega (arith, within)) (none_behind test x xs place none) holds))

-- those up to the first that holds are asked, or all
pub asked_to : {R A : Type 0} → (test : R → Bool) (of : R → A) (rules : List R) (place upto : ℕ) → upto ≡ min (suc place) (length rules) → place ≤ length rules → NoneHolds test rules 0 place → (place < length rules → HoldsAt test rules place)
    → take upto (map of rules) ≡ up_to_first test of rules
asked_to test of rules place upto is within none holds = elim (cases_lt place (length rules)) [
  | inl below ↦ (let e : upto ≡ suc place = omega (arith, is, below) in rw e (sym (asked_up_to test of rules place below none (holds below))))
  | inr above ↦
      let e : place ≡ length rules = omega (arith, above, within) in
      let all : length (map of rules) ≤ upto = omega (arith, is, e, length-map rules of) in
      take_all upto (map of rules) all ∙ sym (all_asked test of rules (subst (λ place. NoneHolds test rules 0 place) e none))
]

-- ---- runs of numbers

run_taken : (numbers : List ℕ) (from end count : ℕ) → IsNumberEnd numbers from end → from + count ≤ end → take (from + count) numbers ≡ take from numbers ++ numbers_from (slice_index_or numbers from 0) count
run_taken numbers from end zero run within = (let e : from + 0 ≡ from = omega arith in rw e (sym (append-nil (take from numbers))))
run_taken numbers from end (suc count) run within =
    let first = slice_index_or numbers from 0 in
    let e : from + suc count ≡ (from + count) + 1 = omega arith in
    let here : slice_index_or numbers (from + count) 0 ≡ first + ((from + count) - from) = run.follow (from + count) (omega arith) (omega (arith, within)) in
    let back : (from + count) - from ≡ count = omega arith in
    let last : slice_index_or numbers (from + count) 0 ≡ first + count = here ∙ ap (λ n. first + n) back in
    let more = take_more numbers (from + count) 0 (omega (arith, within, run.within)) in
    ap (λ n. take n numbers) e ∙ more ∙ ap (λ n. take (from + count) numbers ++ n ∷ []) last
    ∙ ap (λ front. front ++ (first + count) ∷ []) (run_taken numbers from end count run (omega (arith, within)))
    ∙ append_assoc (take from numbers) (numbers_from first count) ((first + count) ∷ [])

-- a run is put behind the numbers before it
pub visited_run : (numbers old before after : List ℕ) (from end first last : ℕ) → IsNumberEnd numbers from end → first ≡ slice_index_or numbers from 0 → last ≡ slice_index_or numbers (end - 1) 0
    → before ≡ old ++ take from numbers → after ≡ before ++ numbers_from first (suc (last - first)) → after ≡ old ++ take end numbers
visited_run numbers old before after from end first last run begins ends taken pushed =
    let at : slice_index_or numbers (end - 1) 0 ≡ slice_index_or numbers from 0 + ((end - 1) - from) = run.follow (end - 1) (omega (arith, run.ahead)) (omega (arith, run.ahead)) in
    let count : suc (last - first) ≡ end - from = omega (arith, at, begins, ends, run.ahead) in
    let whole : from + (end - from) ≡ end = omega (arith, run.ahead) in
    let joined = run_taken numbers from end (end - from) run (omega (arith, run.ahead)) in
    pushed ∙ ap (λ n. before ++ numbers_from first n) count ∙ ap (λ first. before ++ numbers_from first (end - from)) begins
    ∙ ap (λ front. front ++ numbers_from (slice_index_or numbers from 0) (end - from)) taken
    ∙ append_assoc old (take from numbers) (numbers_from (slice_index_or numbers from 0) (end - from))
    ∙ ap (λ numbers. old ++ numbers) (sym joined)
    ∙ ap (λ n. old ++ take n numbers) whole

-- the number of the rule at a place
pub number_at : {T : Type 0} → (rules : List (FlatTranslation T)) (place : ℕ) (rule : FlatTranslation T) → place < length rules → rule ≡ slice_index_or rules place rule → rule.number ≡ slice_index_or (map number_of rules) place 0
number_at rules place rule within is = ap (λ rule. rule.number) is ∙ sym (get_or-map number_of rules place rule 0 within)
