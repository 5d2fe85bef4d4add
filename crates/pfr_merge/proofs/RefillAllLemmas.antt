-- The captures of a merge are refilled one after the other.
use Rattle.std.proofs.Common.{◌≡◌, ◌⊎◌, ◌∙◌, ℕ, zero, suc, ◌+◌, ◌<◌, ◌≤◌, Bool, IsTrue, IsOk, List, [], ◌∷◌, length, map, set, Some, None, slice_get, Result, Ok, Err, inl, inr, refl, sym, subst, arith}
use Rattle.std.proofs.lemmas.Bool.{cases_eq, false≢true}
use Rattle.std.proofs.lemmas.List.{map-set}
use Rattle.pfr_capture.specs.declared.capture.CaptureError.{CaptureError}
use Rattle.pfr_capture.specs.Reading.{LacksRecord, NextFails}
use Rattle.pfr_merge.specs.MergeReading.{AllRefilled, AllTold, AreSettled, FailsAt, HasPassedOn, IsSettled, IsStopped, LacksRecordAt, NoneRefused, RefillCounts, Refilled, StopsAt, Waiting}
use Rattle.pfr_merge.proofs.CountLemmas.{passes_refilled}
use Rattle.pfr_merge.proofs.RefillLemmas.{refilled_none, refilled_twice}
use Rattle.pfr_merge.proofs.SetLemmas.{map_at, map_kept, set_other, set_same, set_self}

pub all_refilled_none : {S : Type 0} (unread : S → List ℕ) (ws : List Waiting) (sources : List S) → length sources ≡ length ws → AllRefilled ws ws (map unread sources) (map unread sources)
all_refilled_none unread [] [] long = tt
all_refilled_none unread [] (s ∷ sources) long = absurd (omega arith)
all_refilled_none unread (w ∷ ws) [] long = absurd (omega arith)
all_refilled_none unread (w ∷ ws) (s ∷ sources) long = (refilled_none w (unread s), all_refilled_none unread ws sources (omega arith))

all_refilled_at : (olds news : List Waiting) (befores lefts : List (List ℕ)) (place : ℕ) (w v : Waiting) (mid left : List ℕ) → AllRefilled olds news befores lefts → slice_get news place ≡ Some w → slice_get lefts place ≡ Some mid → Refilled w v mid left → AllRefilled olds (set news place v) befores (set lefts place left)
all_refilled_at [] [] [] [] place w v mid left all at from reads = absurd (cc)
all_refilled_at (old ∷ olds) (new ∷ news) (before ∷ befores) (l ∷ lefts) zero w v mid left all at from reads =
    let is : new ≡ w = cc in
    let here : l ≡ mid = cc in
    (refilled_twice old w v before mid left (rw (is, here) at all.0) reads, all.1)
all_refilled_at (old ∷ olds) (new ∷ news) (before ∷ befores) (l ∷ lefts) (suc place) w v mid left all at from reads =
    (all.0, all_refilled_at olds news befores lefts place w v mid left all.1 at from reads)
all_refilled_at olds news befores lefts place w v mid left all at from reads = absurd all

pub told_at : {S : Type 0} (told : S → Bool) (sources : List S) (place : ℕ) (s : S) → AllTold (map told sources) → slice_get sources place ≡ Some s → IsTrue (told s)
told_at told [] place s all at = absurd (cc)
told_at {S = S} told (t ∷ sources) zero s all at =
    let here : t ≡ s = cc in
    subst (λ (v : S). IsTrue (told v)) here all.0
told_at told (t ∷ sources) (suc place) s all at = told_at told sources place s all.1 at

-- One capture at a place is refilled. Before the loop there were `olds` and `froms`.
module _ {S : Type 0} (olds inputs : List Waiting) (froms sources : List S) (place : ℕ) (w v : Waiting) (s t : S) (at : slice_get inputs place ≡ Some w) (from : slice_get sources place ≡ Some s) where
  pub told_on : (told : S → Bool) → told t ≡ told s → map told sources ≡ map told froms → map told (set sources place t) ≡ map told froms
  told_on told same before = map_kept told sources place s t from same ∙ before

  pub failures_on : (failures : S → ℕ) → failures t ≡ failures s → map failures sources ≡ map failures froms → map failures (set sources place t) ≡ map failures froms
  failures_on failures same before = map_kept failures sources place s t from same ∙ before

  pub same_on : {Y : Type 0} (f : Waiting → Y) → f v ≡ f w → map f inputs ≡ map f olds → map f (set inputs place v) ≡ map f olds
  same_on f same before = map_kept f inputs place w v at same ∙ before

  pub reads_on : (told : S → Bool) (unread : S → List ℕ) → map told sources ≡ map told froms → (AllTold (map told froms) → AllRefilled olds inputs (map unread froms) (map unread sources)) → (IsTrue (told s) → Refilled w v (unread s) (unread t)) → AllTold (map told froms) → AllRefilled olds (set inputs place v) (map unread froms) (map unread (set sources place t))
  reads_on told unread same before reads all =
      let here = told_at told sources place s (subst AllTold (sym same) all) from in
      rw (map-set unread sources place t)
      (all_refilled_at olds inputs (map unread froms) (map unread sources) place w v (unread s) (unread t) (before all) at (map_at unread sources place s from) (reads here))

  pub passes_on : ((count : ℕ) → HasPassedOn count olds → HasPassedOn count inputs) → RefillCounts w v → (count : ℕ) → HasPassedOn count olds → HasPassedOn count (set inputs place v)
  passes_on before on count passed = passes_refilled inputs place w v at on count (before count passed)

  pub settled_on : ((k : ℕ) (u : Waiting) → k < place → slice_get inputs k ≡ Some u → IsSettled u) → IsSettled v → (k : ℕ) (u : Waiting) → k < place + 1 → slice_get (set inputs place v) k ≡ Some u → IsSettled u
  settled_on before here k u below there = elim (cases_eq k place) [
    | inl same ↦
        let is : slice_get (set inputs place v) k ≡ Some v = rw same (set_same inputs place w v at) in
        let this : v ≡ u = cc in
        rw (← this) here
    | inr other ↦ before k u (omega arith) (sym (set_other inputs place k v other) ∙ there)
  ]

  pub kept_on : ((k : ℕ) → place ≤ k → slice_get inputs k ≡ slice_get olds k) → (k : ℕ) → place + 1 ≤ k → slice_get (set inputs place v) k ≡ slice_get olds k
  kept_on before k above = set_other inputs place k v (λ same. absurd (omega arith)) ∙ before k (omega arith)

  abbrev Stays : Type 0
  Stays = ((k : ℕ) (u : Waiting) → k < place → slice_get olds k ≡ Some u → IsSettled u) → (inputs ≡ olds) × (sources ≡ froms)

  same_here : v ≡ w → t ≡ s → (inputs ≡ olds) × (sources ≡ froms) → (set inputs place v ≡ olds) × (set sources place t ≡ froms)
  same_here same same' before =
      (rw same (set_self inputs place w at) ∙ before.0, rw same' (set_self sources place s from) ∙ before.1)

  pub stays_on : (result : Result (Unit {0}) CaptureError) → Stays → (IsSettled w → IsOk result × (v ≡ w) × (t ≡ s)) → ((k : ℕ) (u : Waiting) → k < place + 1 → slice_get olds k ≡ Some u → IsSettled u) → (set inputs place v ≡ olds) × (set sources place t ≡ froms)
  stays_on result before stays settled =
      let so = before (λ k u below there. settled k u (omega arith) there) in
      let here : IsSettled w = settled place w (omega arith) (rw so.0 at at) in
      let kept = stays here in
      same_here kept.1 kept.2 so

  pub no_error_settled : (e : CaptureError) → (IsSettled w → IsOk {T = Unit {0}} {E = CaptureError} (Err e) × (v ≡ w) × (t ≡ s)) → ((k : ℕ) → place ≤ k → slice_get inputs k ≡ slice_get olds k) → AreSettled olds → ⊥
  no_error_settled e stays kept settled = false≢true (stays (settled place w (sym (kept place (omega arith)) ∙ at))).0

  -- the capture that was refused before is refused again
  pub again_on : (e : CaptureError) → Stays → (IsSettled w → IsOk {T = Unit {0}} {E = CaptureError} (Err e) × (v ≡ w) × (t ≡ s)) → ((f : CaptureError) → IsStopped f w → (◌≡◌ {A = Result (Unit {0}) CaptureError} (Err e) (Err f)) × (v ≡ w) × (t ≡ s)) → ((k : ℕ) → place ≤ k → slice_get inputs k ≡ slice_get olds k) → ((k : ℕ) (f : CaptureError) → StopsAt olds (k, f) → place ≤ k) → (k : ℕ) (f : CaptureError) → StopsAt olds (k, f) → (◌≡◌ {A = Result (Unit {0}) (ℕ × CaptureError)} (Err (place, e)) (Err (k, f))) × (set inputs place v ≡ olds) × (set sources place t ≡ froms)
  again_on e before stays again kept stops k f stop = elim (cases_eq place k) [
    | inl same ↦
        let there : slice_get olds k ≡ Some w = rw (← same) (sym (kept place (omega arith)) ∙ at) in
        let stands = stop.stands in
        let is : stop.at ≡ w = cc in
        let answer = again f (rw is at stop.stopped) in
        let error : e ≡ f = let first = answer.0 in cc in
        let so = same_here answer.1 answer.2 (before (λ j u below there. stop.first j u (omega arith) there)) in
        (rw (same, error) refl, so.0, so.1)
    | inr other ↦
        let from' = stops k f stop in
        absurd (false≢true (stays (stop.first place w (omega arith) (sym (kept place (omega arith)) ∙ at))).0)
  ]

  pub stops_on : ((f : CaptureError) → IsStopped f w → (◌≡◌ {A = Result (Unit {0}) CaptureError} (Ok tt) (Err f)) × (v ≡ w) × (t ≡ s)) → ((k : ℕ) → place ≤ k → slice_get inputs k ≡ slice_get olds k) → ((k : ℕ) (f : CaptureError) → StopsAt olds (k, f) → place ≤ k) → (k : ℕ) (f : CaptureError) → StopsAt olds (k, f) → place + 1 ≤ k
  stops_on again kept stops k f stop = elim (cases_eq place k) [
    | inl same ↦
        let there : slice_get olds k ≡ Some w = rw (← same) (sym (kept place (omega arith)) ∙ at) in
        let stands = stop.stands in
        let is : stop.at ≡ w = cc in
        let answer = (again f (rw is at stop.stopped)).0 in
        absurd (cc)
    | inr other ↦
        let from' = stops k f stop in
        omega arith
  ]

  pub stopped_on : (e : CaptureError) → ((k : ℕ) (u : Waiting) → k < place → slice_get inputs k ≡ Some u → IsSettled u) → IsStopped e v → StopsAt (set inputs place v) (place, e)
  stopped_on e before stopped = record {
    at = v;
    stands = set_same inputs place w v at;
    stopped = stopped;
    first = λ k u below there. before k u below (sym (set_other inputs place k v (λ same. absurd (omega arith))) ∙ there);
  }

  was_open : (e : CaptureError) → ((k : ℕ) → place ≤ k → slice_get inputs k ≡ slice_get olds k) → (w.reading.over ≡ None) ⊎ IsStopped e w → NoneRefused olds → w.reading.over ≡ None
  was_open e kept (inl open') none = open'
  was_open e kept (inr stopped) none = absurd (none place w e (sym (kept place (omega arith)) ∙ at) stopped.1)

  pub lacks_on : (e : CaptureError) → ((k : ℕ) → place ≤ k → slice_get inputs k ≡ slice_get olds k) → (w.reading.over ≡ None → LacksRecord v.reading e) → (w.reading.over ≡ None) ⊎ IsStopped e w → NoneRefused olds → LacksRecordAt (set inputs place v) (place, e)
  lacks_on e kept lacks ends none u there =
      let is = set_same inputs place w v at in
      let this : v ≡ u = cc in
      rw (← this) (lacks (was_open e kept ends none))

  pub fails_on : (failures : S → ℕ) (e : CaptureError) → ((k : ℕ) → place ≤ k → slice_get inputs k ≡ slice_get olds k) → map failures sources ≡ map failures froms → (w.reading.over ≡ None → NextFails e (failures s) (failures t)) → (w.reading.over ≡ None) ⊎ IsStopped e w → NoneRefused olds → FailsAt (map failures froms) (map failures (set sources place t)) (place, e)
  fails_on failures e kept same fails ends none =
      let old_is : slice_get (map failures froms) place ≡ Some (failures s) = rw (← same) (map_at failures sources place s from) in
      let new_is : slice_get (map failures (set sources place t)) place ≡ Some (failures t) = map_at failures (set sources place t) place t (set_same sources place s t from) in
      record {
        here = λ old new there there'.
            let old_this : failures s ≡ old = cc in
            let new_this : failures t ≡ new = cc in
            rw (← old_this, ← new_this) (fails (was_open e kept ends none));
        others = λ k other. rw (map-set failures sources place t, ← same) (set_other (map failures sources) place k (failures t) other);
      }
