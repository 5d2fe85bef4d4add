-- The earliest of the records that wait.
use Rattle.std.proofs.Common.{◌≡◌, ◌∙◌, ℕ, ◌+◌, ◌<◌, true, false, List, length, map, set, Option, Some, None, option_map, slice_get, inl, inr, refl, sym, ap, subst, arith}
use Rattle.std.proofs.lemmas.Bool.{cases_Bool, cases_eq, cases_lt}
use Rattle.std.proofs.lemmas.Option.{slice_get_within}
use Rattle.pfr_capture.specs.declared.capture.Record.{Record}
use Rattle.pfr_capture.specs.Reading.{bytes_of}
use Rattle.pfr_capture.specs.Records.{RecordBytes}
use Rattle.pfr_merge.specs.declared.time.Time.{Time}
use Rattle.pfr_merge.specs.Arrivals.{is_before, time_of}
use Rattle.pfr_merge.specs.MergeReading.{IsOfCapture, Waiting, time_in}
use Rattle.pfr_merge.specs.MergeStepping.{HaveNone, IsLeast, NoneWaits, TakesNext}
use Rattle.pfr_merge.proofs.OrderLemmas.{none_before, not_after, not_itself}
use Rattle.pfr_merge.proofs.SetLemmas.{map_at}

-- a time that is earlier than the least one is earlier than all
earlier_than_all : (a b c : Time) → is_before a b ≡ true → is_before c b ≡ false → is_before a c ≡ true
earlier_than_all a b c first least = elim (cases_Bool (is_before a c)) [
  | inl earlier ↦ earlier
  | inr later ↦ let none = none_before a c b later least in absurd (cc)
]

none_sooner : (times : List (Option Time)) (n place : ℕ) (time : Time) → IsLeast times n place time → (k : ℕ) (other : Time) → k < n → slice_get times k ≡ Some (Some other) → is_before other time ≡ false
none_sooner times n place time least k other below at = elim (cases_lt k place) [
  | inl before ↦ not_after time other (least.first k other before at)
  | inr from ↦ elim (cases_eq k place) [
    | inl same ↦
        let there : slice_get times k ≡ Some (Some time) = rw same least.stands in
        let is : other ≡ time = cc in
        rw is (not_itself time)
    | inr apart ↦ least.least k other (omega arith) below at
  ]
]

pub least_by_earlier : (times : List (Option Time)) (n place : ℕ) (least time : Time) → IsLeast times n place least → slice_get times n ≡ Some (Some time) → is_before time least ≡ true → IsLeast times (n + 1) n time
least_by_earlier times n place least time is at earlier = record {
  within = omega arith;
  stands = at;
  first = λ k other below there. earlier_than_all time least other earlier (none_sooner times n place least is k other below there);
  least = λ k other above below there. absurd (omega arith);
}

none_waits_by : (w : Waiting) (head : Option RecordBytes) → w.head ≡ head → ((time : Time) → time_in w ≡ Some time → ⊥) → head ≡ None
none_waits_by w None is none = refl
none_waits_by w (Some r) is none = absurd (none (time_of w.reading.form r) (ap (option_map (time_of w.reading.form)) is))

pub have_none : (ws : List Waiting) → NoneWaits (map time_in ws) (length ws) → HaveNone ws
have_none ws none =
    λ k w at.
    none_waits_by w w.head refl (λ time is. none k time (slice_get_within ws k w at) (map_at time_in ws k w at ∙ ap (λ (t : Option Time). Some t) is))

-- a record waits at the least one's place
pub least_waits : (ws : List Waiting) (n place : ℕ) (time : Time) (w : Waiting) → IsLeast (map time_in ws) n place time → slice_get ws place ≡ Some w → time_in w ≡ Some time
least_waits ws n place time w least at =
    let here = map_at time_in ws place w at in
    let stands = least.stands in
    cc

pub takes_next : (ws new : List Waiting) (place : ℕ) (time : Time) (w : Waiting) (r : Record) → IsLeast (map time_in ws) (length ws) place time → slice_get ws place ≡ Some w → Some (bytes_of r) ≡ w.head → IsOfCapture place w.reading.form r → new ≡ set ws place (record w { head = None }) → TakesNext ws new place r
takes_next ws new place time w r least at head fields rest =
    let waits = least_waits ws (length ws) place time w least at in
    let is : option_map (time_of w.reading.form) w.head ≡ Some (time_of w.reading.form (bytes_of r)) = ap (option_map (time_of w.reading.form)) (sym head) in
    let same : time ≡ time_of w.reading.form (bytes_of r) = cc in
    record {
      from = w;
      stands = at;
      head = sym head;
      fields = fields;
      rest = rest;
      first = λ k u other below there has. subst (λ (t : Time). is_before t other ≡ true) same (least.first k other below (map_at time_in ws k u there ∙ ap (λ (t : Option Time). Some t) has));
      least = λ k u other above there has. subst (λ (t : Time). is_before other t ≡ false) same (least.least k other above (slice_get_within ws k u there) (map_at time_in ws k u there ∙ ap (λ (t : Option Time). Some t) has));
    }

pub none_taken : (ws : List Waiting) (n place : ℕ) (time : Time) (w : Waiting) → IsLeast (map time_in ws) n place time → slice_get ws place ≡ Some w → None ≡ w.head → ⊥
none_taken ws n place time w least at none =
    let waits = least_waits ws n place time w least at in
    let is : option_map (time_of w.reading.form) w.head ≡ None = ap (option_map (time_of w.reading.form)) (sym none) in
    absurd (cc)
