-- How many records a merge has given.
use Rattle.std.proofs.Common.{◌≡◌, ◌∙◌, ℕ, zero, suc, ◌+◌, ◌*◌, ◌^◌, ◌≤◌, List, [], ◌∷◌, length, map, set, Option, Some, None, slice_get, IfNone, IfSome, Ok, inl, inr, refl, sym, ap, subst, arith}
use Rattle.std.proofs.lemmas.Bool.{cases_eq}
use Rattle.pfr_capture.specs.declared.capture.Record.{Record}
use Rattle.pfr_capture.specs.Reading.{Reading}
use Rattle.pfr_capture.specs.Records.{RecordBytes}
use Rattle.pfr_merge.specs.MergeReading.{AreFew, HasPassedOn, RefillCounts, Waiting, count_in_all, none_waits, records_in, waits_in_all, waits_of}
use Rattle.pfr_merge.specs.MergeStepping.{HaveNone, TakesNext}
use Rattle.pfr_merge.proofs.SetLemmas.{set_other, set_same}

-- ---- one capture is another one

count_set : (ws : List Waiting) (k : ℕ) (w v : Waiting) → slice_get ws k ≡ Some w → count_in_all (set ws k v) + w.reading.count ≡ count_in_all ws + v.reading.count
count_set [] k w v at = absurd (cc)
count_set (u ∷ ws) zero w v at =
    let here : u ≡ w = cc in
    let same : u.reading.count ≡ w.reading.count = ap (λ (x : Waiting). x.reading.count) here in
    omega (arith, same)
count_set (u ∷ ws) (suc k) w v at =
    let rest = count_set ws k w v at in
    omega (arith, rest)

waits_set : (ws : List Waiting) (k : ℕ) (w v : Waiting) → slice_get ws k ≡ Some w → waits_in_all (set ws k v) + waits_of w.head ≡ waits_in_all ws + waits_of v.head
waits_set [] k w v at = absurd (cc)
waits_set (u ∷ ws) zero w v at =
    let here : u ≡ w = cc in
    let same : waits_of u.head ≡ waits_of w.head = ap (λ (x : Waiting). waits_of x.head) here in
    omega (arith, same)
waits_set (u ∷ ws) (suc k) w v at =
    let rest = waits_set ws k w v at in
    omega (arith, rest)

few_set : (ws : List Waiting) (k : ℕ) (w v : Waiting) → slice_get ws k ≡ Some w → (w.reading.count ≤ 2 ^ 40 → v.reading.count ≤ 2 ^ 40) → AreFew ws → AreFew (set ws k v)
few_set ws k w v at on few j u there = elim (cases_eq j k) [
  | inl same ↦
      let is : slice_get (set ws k v) j ≡ Some v = rw same (set_same ws k w v at) in
      let this : v ≡ u = cc in
      rw (← this) (on (few k w at))
  | inr other ↦ few j u (sym (set_other ws k j v other) ∙ there)
]

-- ---- calls

-- a capture was refilled
pub passes_refilled : (ws : List Waiting) (k : ℕ) (w v : Waiting) → slice_get ws k ≡ Some w → RefillCounts w v → (count : ℕ) → HasPassedOn count ws → HasPassedOn count (set ws k v)
passes_refilled ws k w v at on count passed =
    let counts = count_set ws k w v at in
    let waits = waits_set ws k w v at in
    let before = passed.0 in
    let same = on.same in
    (omega (arith, counts, waits, before, same), few_set ws k w v at on.few passed.1)

-- a record that waited was taken
taken_counts : (w : Waiting) (r : RecordBytes) → w.head ≡ Some r → waits_of w.head ≡ 1
taken_counts w r is = rw is refl

pub passes_taken : (mid new : List Waiting) (found : Option (ℕ × Record)) → IfNone found (HaveNone mid × (new ≡ mid)) → IfSome found (λ item. TakesNext mid new item.0 item.1) → (count : ℕ) → HasPassedOn count mid → HasPassedOn (count + records_in (Ok found)) new
passes_taken mid new None none some count passed =
    let same : count + 0 ≡ count = omega arith in
    rw (same, none.1) passed
passes_taken mid new (Some found) none some count passed =
    let emptied = record some.from { head = None } in
    let counts = count_set mid found.0 some.from emptied some.stands in
    let waits = waits_set mid found.0 some.from emptied some.stands in
    let one = taken_counts some.from _ some.head in
    let before = passed.0 in
    subst (λ (ws : List Waiting). HasPassedOn (count + 1) ws) (sym some.rest)
    (omega (arith, counts, waits, one, before), few_set mid found.0 some.from emptied some.stands (λ few. few) passed.1)

-- ---- the least and the most

pub passes_none : (readings : List Reading) → ((k : ℕ) (reading : Reading) → slice_get readings k ≡ Some reading → reading.count ≡ 0) → HasPassedOn 0 (map none_waits readings)
passes_none [] none = (omega arith, λ k w at. absurd (cc))
passes_none (reading ∷ readings) none =
    let rest = passes_none readings (λ k other at. none (suc k) other at) in
    let here = none 0 reading refl in
    let counted = rest.0 in
    (omega (arith, here, counted), few_more rest.1)
  where
    few_more : AreFew (map none_waits readings) → AreFew (none_waits reading ∷ map none_waits readings)
    few_more few zero w at =
        let is : none_waits reading ≡ w = cc in
        let none_given = none 0 reading refl in
        rw (← is) (omega (arith, none_given))
    few_more few (suc k) w at = few k w at

-- fewer
pub passes_fewer : (ws : List Waiting) (count fewer : ℕ) → fewer ≤ count → HasPassedOn count ws → HasPassedOn fewer ws
passes_fewer ws count fewer less passed = let all = passed.0 in (omega (arith, all, less), passed.1)

few_in_all : (ws : List Waiting) → AreFew ws → count_in_all ws ≤ 2 ^ 40 * length ws
few_in_all [] few = omega arith
few_in_all (w ∷ ws) few =
    let rest = few_in_all ws (λ k u at. few (suc k) u at) in
    let here = few 0 w refl in
    omega (arith, rest, here)

-- eight captures have at most 2^43 records
pub passed_few : (ws : List Waiting) (count : ℕ) → HasPassedOn count ws → length ws ≤ 8 → count ≤ 2 ^ 43
passed_few ws count passed short =
    let all = few_in_all ws passed.1 in
    let counted = passed.0 in
    omega (arith, all, counted, short)
