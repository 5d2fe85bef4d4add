-- Rules that are counted alone, and runs of rules that are counted by their two ends.
use Rattle.std.proofs.Common.{◌≡◌, ◌∙◌, ◌+◌, ◌-◌, ◌^◌, ◌<◌, ◌≤◌, ℕ, zero, suc, min, List, [], ◌∷◌, length, fold, replicate, slice_index_or, slice_set, refl, sym, ap, subst, arith}
use Rattle.std.proofs.lemmas.List.Sums.{fold-append}
use Rattle.pfr_rules.specs.Counts.{added, raised}
use Rattle.pfr_rules.specs.Evaluating.{Balances, counts_from, runs_at}
use Rattle.pfr_rules.specs.Numbers.{numbers_from}
use Rattle.pfr_rules.specs.declared.evaluations.Tally.{Tally}

-- ---- one more at a place

raised_first : (x : ℕ) (xs : List ℕ) → raised (x ∷ xs) zero ≡ min (x + 1) (2 ^ 64 - 1) ∷ xs
unfolding added
raised_first x xs = refl

raised_later : (x : ℕ) (xs : List ℕ) (n : ℕ) → raised (x ∷ xs) (suc n) ≡ x ∷ raised xs n
unfolding added
raised_later x xs n = refl

raised_none : (n : ℕ) → raised [] n ≡ []
unfolding added
raised_none n = refl

fold_next : (counts : List ℕ) (first n : ℕ) → fold raised counts (numbers_from first (suc n)) ≡ raised (fold raised counts (numbers_from first n)) (first + n)
fold_next counts first n = fold-append raised counts (numbers_from first n) ((first + n) ∷ [])

-- a run that begins behind the first place
fold_later : (x : ℕ) (xs : List ℕ) (first n : ℕ) → fold raised (x ∷ xs) (numbers_from (suc first) n) ≡ x ∷ fold raised xs (numbers_from first n)
fold_later x xs first zero = refl
fold_later x xs first (suc n) =
    let place : suc first + n ≡ suc (first + n) = omega arith in
    fold_next (x ∷ xs) (suc first) n ∙ ap (λ (l : List ℕ). raised l (suc first + n)) (fold_later x xs first n)
    ∙ ap (λ (m : ℕ). raised (x ∷ fold raised xs (numbers_from first n)) m) place
    ∙ raised_later x (fold raised xs (numbers_from first n)) (first + n) ∙ ap (λ (l : List ℕ). x ∷ l) (sym (fold_next xs first n))

-- a run that begins with it
fold_first : (x : ℕ) (xs : List ℕ) (n : ℕ) → fold raised (x ∷ xs) (numbers_from zero (suc n)) ≡ min (x + 1) (2 ^ 64 - 1) ∷ fold raised xs (numbers_from zero n)
fold_first x xs zero = raised_first x xs
fold_first x xs (suc n) =
    let place : zero + suc n ≡ suc (zero + n) = omega arith in
    fold_next (x ∷ xs) zero (suc n) ∙ ap (λ (l : List ℕ). raised l (zero + suc n)) (fold_first x xs n)
    ∙ ap (λ (m : ℕ). raised (min (x + 1) (2 ^ 64 - 1) ∷ fold raised xs (numbers_from zero n)) m) place
    ∙ raised_later (min (x + 1) (2 ^ 64 - 1)) (fold raised xs (numbers_from zero n)) (zero + n) ∙ ap (λ (l : List ℕ). min (x + 1) (2 ^ 64 - 1) ∷ l) (sym (fold_next xs zero n))

fold_none : (first n : ℕ) → fold raised [] (numbers_from first n) ≡ []
fold_none first zero = refl
fold_none first (suc n) = fold_next [] first n ∙ ap (λ (l : List ℕ). raised l (first + n)) (fold_none first n) ∙ raised_none (first + n)

-- ---- a tally that is written at a place

abbrev one_alone : Tally → Tally
one_alone tally = record tally { alone = min (tally.alone + 1) (2 ^ 64 - 1) }

abbrev one_begun : Tally → Tally
one_begun tally = record tally { begun = tally.begun + 1 }

abbrev one_ended : Tally → Tally
one_ended tally = record tally { ended = tally.ended + 1 }

abbrev changed_at : (Tally → Tally) → List Tally → ℕ → List Tally
changed_at f [] n = []
changed_at f (tally ∷ tallies) zero = f tally ∷ tallies
changed_at f (tally ∷ tallies) (suc n) = tally ∷ changed_at f tallies n

-- ---- counted alone

alone_counts : (runs : ℕ) (tallies : List Tally) (n : ℕ) → counts_from runs (changed_at one_alone tallies n) ≡ raised (counts_from runs tallies) n
alone_counts runs [] n = sym (raised_none n)
alone_counts runs (tally ∷ tallies) zero =
    let here : min (min (tally.alone + 1) (2 ^ 64 - 1) + runs_at runs tally) (2 ^ 64 - 1) ≡ min (min (tally.alone + runs_at runs tally) (2 ^ 64 - 1) + 1) (2 ^ 64 - 1) = omega arith in
    ap (λ (x : ℕ). x ∷ counts_from (runs_at runs tally) tallies) here ∙ sym (raised_first (min (tally.alone + runs_at runs tally) (2 ^ 64 - 1)) (counts_from (runs_at runs tally) tallies))
alone_counts runs (tally ∷ tallies) (suc n) =
    ap (λ (l : List ℕ). min (tally.alone + runs_at runs tally) (2 ^ 64 - 1) ∷ l) (alone_counts (runs_at runs tally) tallies n)
    ∙ sym (raised_later (min (tally.alone + runs_at runs tally) (2 ^ 64 - 1)) (counts_from (runs_at runs tally) tallies) n)

alone_balances : (runs : ℕ) (tallies : List Tally) (n : ℕ) → Balances runs tallies → Balances runs (changed_at one_alone tallies n)
alone_balances runs [] n balances = balances
alone_balances runs (tally ∷ tallies) zero balances = balances
alone_balances runs (tally ∷ tallies) (suc n) balances = (balances.0, alone_balances (runs_at runs tally) tallies n balances.1)

-- ---- counted by two ends

-- one run more goes on, and ends before a place
ended_counts : (runs : ℕ) (tallies : List Tally) (n : ℕ) → Balances runs tallies → counts_from (suc runs) (changed_at one_ended tallies n) ≡ fold raised (counts_from runs tallies) (numbers_from zero n)
ended_counts runs [] n balances = sym (fold_none zero n)
ended_counts runs (tally ∷ tallies) zero balances =
    let same : suc runs + tally.begun - (tally.ended + 1) ≡ runs_at runs tally = omega arith in
    ap (λ (r : ℕ). min (tally.alone + r) (2 ^ 64 - 1) ∷ counts_from r tallies) same
ended_counts runs (tally ∷ tallies) (suc n) balances =
    let ends = balances.0 in
    let more : suc runs + tally.begun - tally.ended ≡ suc (runs_at runs tally) = omega (arith, ends) in
    let here : min (tally.alone + suc (runs_at runs tally)) (2 ^ 64 - 1) ≡ min (min (tally.alone + runs_at runs tally) (2 ^ 64 - 1) + 1) (2 ^ 64 - 1) = omega arith in
    ap (λ (r : ℕ). min (tally.alone + r) (2 ^ 64 - 1) ∷ counts_from r (changed_at one_ended tallies n)) more
    ∙ ap (λ (x : ℕ). x ∷ counts_from (suc (runs_at runs tally)) (changed_at one_ended tallies n)) here
    ∙ ap (λ (l : List ℕ). min (min (tally.alone + runs_at runs tally) (2 ^ 64 - 1) + 1) (2 ^ 64 - 1) ∷ l) (ended_counts (runs_at runs tally) tallies n balances.1)
    ∙ sym (fold_first (min (tally.alone + runs_at runs tally) (2 ^ 64 - 1)) (counts_from (runs_at runs tally) tallies) n)

ended_balances : (runs : ℕ) (tallies : List Tally) (n : ℕ) → Balances runs tallies → Balances (suc runs) (changed_at one_ended tallies n)
ended_balances runs [] n balances = balances
ended_balances runs (tally ∷ tallies) zero balances =
    let ends = balances.0 in
    let same : suc runs + tally.begun - (tally.ended + 1) ≡ runs_at runs tally = omega arith in
    (omega (arith, ends), subst (λ (r : ℕ). Balances r tallies) (sym same) balances.1)
ended_balances runs (tally ∷ tallies) (suc n) balances =
    let ends = balances.0 in
    let more : suc runs + tally.begun - tally.ended ≡ suc (runs_at runs tally) = omega (arith, ends) in
    (omega (arith, ends), subst (λ (r : ℕ). Balances r (changed_at one_ended tallies n)) (sym more) (ended_balances (runs_at runs tally) tallies n balances.1))

-- a run begins with the first tally
begun_counts : (runs : ℕ) (tally : Tally) (tallies : List Tally) (n : ℕ) → counts_from runs (changed_at one_ended (one_begun tally ∷ tallies) n) ≡ counts_from (suc runs) (changed_at one_ended (tally ∷ tallies) n)
begun_counts runs tally tallies zero =
    let same : runs + (tally.begun + 1) - (tally.ended + 1) ≡ suc runs + tally.begun - (tally.ended + 1) = omega arith in
    ap (λ (r : ℕ). min (tally.alone + r) (2 ^ 64 - 1) ∷ counts_from r tallies) same
begun_counts runs tally tallies (suc n) =
    let same : runs + (tally.begun + 1) - tally.ended ≡ suc runs + tally.begun - tally.ended = omega arith in
    ap (λ (r : ℕ). min (tally.alone + r) (2 ^ 64 - 1) ∷ counts_from r (changed_at one_ended tallies n)) same

begun_balances : (runs : ℕ) (tally : Tally) (tallies : List Tally) (n : ℕ) → Balances (suc runs) (changed_at one_ended (tally ∷ tallies) n) → Balances runs (changed_at one_ended (one_begun tally ∷ tallies) n)
begun_balances runs tally tallies zero balances =
    let ends = balances.0 in
    let same : runs + (tally.begun + 1) - (tally.ended + 1) ≡ suc runs + tally.begun - (tally.ended + 1) = omega arith in
    (omega (arith, ends), subst (λ (r : ℕ). Balances r tallies) (sym same) balances.1)
begun_balances runs tally tallies (suc n) balances =
    let ends = balances.0 in
    let same : runs + (tally.begun + 1) - tally.ended ≡ suc runs + tally.begun - tally.ended = omega arith in
    (omega (arith, ends), subst (λ (r : ℕ). Balances r (changed_at one_ended tallies n)) (sym same) balances.1)

-- a run with its two ends
run_counts : (runs : ℕ) (tallies : List Tally) (first n : ℕ) → Balances runs tallies → counts_from runs (changed_at one_ended (changed_at one_begun tallies first) (first + n)) ≡ fold raised (counts_from runs tallies) (numbers_from first n)
run_counts runs [] first n balances = sym (fold_none first n)
run_counts runs (tally ∷ tallies) zero n balances =
    let place : zero + n ≡ n = omega arith in
    ap (λ (m : ℕ). counts_from runs (changed_at one_ended (one_begun tally ∷ tallies) m)) place
    ∙ begun_counts runs tally tallies n ∙ ended_counts runs (tally ∷ tallies) n balances
run_counts runs (tally ∷ tallies) (suc first) n balances =
    let place : suc first + n ≡ suc (first + n) = omega arith in
    ap (λ (m : ℕ). counts_from runs (changed_at one_ended (tally ∷ changed_at one_begun tallies first) m)) place
    ∙ ap (λ (l : List ℕ). min (tally.alone + runs_at runs tally) (2 ^ 64 - 1) ∷ l) (run_counts (runs_at runs tally) tallies first n balances.1)
    ∙ sym (fold_later (min (tally.alone + runs_at runs tally) (2 ^ 64 - 1)) (counts_from (runs_at runs tally) tallies) first n)

run_balances : (runs : ℕ) (tallies : List Tally) (first n : ℕ) → Balances runs tallies → Balances runs (changed_at one_ended (changed_at one_begun tallies first) (first + n))
run_balances runs [] first n balances = balances
run_balances runs (tally ∷ tallies) zero n balances =
    let place : zero + n ≡ n = omega arith in
    subst (λ (m : ℕ). Balances runs (changed_at one_ended (one_begun tally ∷ tallies) m)) (sym place)
    (begun_balances runs tally tallies n (ended_balances runs (tally ∷ tallies) n balances))
run_balances runs (tally ∷ tallies) (suc first) n balances =
    let place : suc first + n ≡ suc (first + n) = omega arith in
    subst (λ (m : ℕ). Balances runs (changed_at one_ended (tally ∷ changed_at one_begun tallies first) m)) (sym place)
    (balances.0, run_balances (runs_at runs tally) tallies first n balances.1)

-- ---- as they are written

abbrev none : Tally
none = record { alone = 0; begun = 0; ended = 0 }

written : (f : Tally → Tally) (tallies : List Tally) (n : ℕ) → slice_set tallies n (f (slice_index_or tallies n none)) ≡ changed_at f tallies n
written f [] n = refl
written f (tally ∷ tallies) zero = refl
written f (tally ∷ tallies) (suc n) = ap (λ (l : List Tally). tally ∷ l) (written f tallies n)

both_written : (tallies : List Tally) (first n : ℕ) → 0 < n
    → slice_set (slice_set tallies first (one_begun (slice_index_or tallies first none))) (first + n) (one_ended (slice_index_or tallies (first + n) none))
    ≡ changed_at one_ended (changed_at one_begun tallies first) (first + n)
both_written [] first n some = refl
both_written (tally ∷ tallies) zero zero some = absurd (omega (arith, some))
both_written (tally ∷ tallies) zero (suc n) some =
    let place : zero + suc n ≡ suc n = omega arith in
    rw place (ap (λ (l : List Tally). one_begun tally ∷ l) (written one_ended tallies n))
both_written (tally ∷ tallies) (suc first) n some =
    let place : suc first + n ≡ suc (first + n) = omega arith in
    rw place (ap (λ (l : List Tally). tally ∷ l) (both_written tallies first n some))

unchanged_past : (f : Tally → Tally) (tallies : List Tally) (n : ℕ) → length tallies ≤ n → changed_at f tallies n ≡ tallies
unchanged_past f [] n past = refl
unchanged_past f (tally ∷ tallies) zero past = absurd (omega (arith, past))
unchanged_past f (tally ∷ tallies) (suc n) past = ap (λ (l : List Tally). tally ∷ l) (unchanged_past f tallies n (omega (arith, past)))

length_changed : (f : Tally → Tally) (tallies : List Tally) (n : ℕ) → length (changed_at f tallies n) ≡ length tallies
length_changed f [] n = refl
length_changed f (tally ∷ tallies) zero = refl
length_changed f (tally ∷ tallies) (suc n) = ap suc (length_changed f tallies n)

begun_alone : (tallies : List Tally) (first n : ℕ) → length tallies ≤ first + n
    → slice_set tallies first (one_begun (slice_index_or tallies first none)) ≡ changed_at one_ended (changed_at one_begun tallies first) (first + n)
begun_alone tallies first n past =
    let same = length_changed one_begun tallies first in
    written one_begun tallies first ∙ sym (unchanged_past one_ended (changed_at one_begun tallies first) (first + n) (omega (arith, past, same)))

pub counted_alone : (tallies : List Tally) (n alone : ℕ) → alone ≡ min ((slice_index_or tallies n none).alone + 1) (2 ^ 64 - 1) → Balances 0 tallies
    → (counts_from 0 (slice_set tallies n (record (slice_index_or tallies n none) { alone = alone })) ≡ raised (counts_from 0 tallies) n)
    × Balances 0 (slice_set tallies n (record (slice_index_or tallies n none) { alone = alone }))
counted_alone tallies n alone is balances =
    rw (is, written one_alone tallies n) (alone_counts 0 tallies n, alone_balances 0 tallies n balances)

pub counted_to_the_end : (tallies : List Tally) (first n begun : ℕ) → begun ≡ (slice_index_or tallies first none).begun + 1 → length tallies ≤ first + n → Balances 0 tallies
    → (counts_from 0 (slice_set tallies first (record (slice_index_or tallies first none) { begun = begun })) ≡ fold raised (counts_from 0 tallies) (numbers_from first n))
    × Balances 0 (slice_set tallies first (record (slice_index_or tallies first none) { begun = begun }))
counted_to_the_end tallies first n begun is past balances =
    rw (is, begun_alone tallies first n past) (run_counts 0 tallies first n balances, run_balances 0 tallies first n balances)

pub counted_between : (tallies : List Tally) (first n begun ended : ℕ) → begun ≡ (slice_index_or tallies first none).begun + 1 → ended ≡ (slice_index_or tallies (first + n) none).ended + 1 → 0 < n → Balances 0 tallies
    → (counts_from 0 (slice_set (slice_set tallies first (record (slice_index_or tallies first none) { begun = begun })) (first + n) (record (slice_index_or tallies (first + n) none) { ended = ended }))
    ≡ fold raised (counts_from 0 tallies) (numbers_from first n))
    × Balances 0 (slice_set (slice_set tallies first (record (slice_index_or tallies first none) { begun = begun })) (first + n) (record (slice_index_or tallies (first + n) none) { ended = ended }))
counted_between tallies first n begun ended is ends some balances =
    rw (is, ends, both_written tallies first n some) (run_counts 0 tallies first n balances, run_balances 0 tallies first n balances)

-- a rule that there is not
raised_past : (counts : List ℕ) (n : ℕ) → length counts ≤ n → raised counts n ≡ counts
raised_past [] n past = raised_none n
raised_past (x ∷ xs) zero past = absurd (omega (arith, past))
raised_past (x ∷ xs) (suc n) past = raised_later x xs n ∙ ap (λ (l : List ℕ). x ∷ l) (raised_past xs n (omega (arith, past)))

length_counts : (runs : ℕ) (tallies : List Tally) → length (counts_from runs tallies) ≡ length tallies
length_counts runs [] = refl
length_counts runs (tally ∷ tallies) = ap suc (length_counts (runs_at runs tally) tallies)

pub none_counted : (tallies : List Tally) (n : ℕ) → length tallies ≤ n → counts_from 0 tallies ≡ raised (counts_from 0 tallies) n
none_counted tallies n past =
    let same = length_counts 0 tallies in
    sym (raised_past (counts_from 0 tallies) n (omega (arith, same, past)))

raised_all_past : (counts : List ℕ) (first n : ℕ) → length counts ≤ first → fold raised counts (numbers_from first n) ≡ counts
raised_all_past counts first zero past = refl
raised_all_past counts first (suc n) past =
    fold_next counts first n ∙ ap (λ (l : List ℕ). raised l (first + n)) (raised_all_past counts first n past) ∙ raised_past counts (first + n) (omega (arith, past))

pub no_run_counted : (tallies : List Tally) (first n : ℕ) → length tallies ≤ first → counts_from 0 tallies ≡ fold raised (counts_from 0 tallies) (numbers_from first n)
no_run_counted tallies first n past =
    let same = length_counts 0 tallies in
    sym (raised_all_past (counts_from 0 tallies) first n (omega (arith, same, past)))

-- one rule more, by itself
pub counted_next : (tallies now next : List Tally) (first n : ℕ) → counts_from 0 now ≡ fold raised (counts_from 0 tallies) (numbers_from first n) → counts_from 0 next ≡ raised (counts_from 0 now) (first + n)
    → counts_from 0 next ≡ fold raised (counts_from 0 tallies) (numbers_from first (n + 1))
counted_next tallies now next first n is next_is =
    let one : n + 1 ≡ suc n = omega arith in
    rw (one, fold_next (counts_from 0 tallies) first n, ← is) next_is

-- ---- read

pub counts_none : (n : ℕ) → counts_from 0 (replicate n none) ≡ replicate n 0
counts_none zero = refl
counts_none (suc n) = ap (λ (l : List ℕ). 0 ∷ l) (counts_none n)

pub balances_none : (n : ℕ) → Balances 0 (replicate n none)
balances_none zero = _
balances_none (suc n) = (omega arith, balances_none n)
