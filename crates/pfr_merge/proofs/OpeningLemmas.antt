-- The captures of several sources are opened one after the other.
use Rattle.std.proofs.Common.{◌≡◌, ◌∙◌, ℕ, zero, suc, List, [], ◌∷◌, ◌++◌, length, map, set, take, Some, None, slice_get, Ok, Err, refl, sym, ap, subst, arith}
use Rattle.pfr_capture.specs.declared.capture.CaptureError.{CaptureError}
use Rattle.pfr_capture.specs.declared.capture.CaptureError.TheVariants as refusal
use Rattle.pfr_capture.specs.declared.capture.Form.{Form}
use Rattle.pfr_capture.specs.Device.{Rose}
use Rattle.pfr_capture.specs.Header.{opening_of}
use Rattle.pfr_capture.specs.Reading.{OpenFails, Opens, Reading, RefusesHeader, StopsEarly}
use Rattle.pfr_merge.specs.MergeReading.{HasPassedOn, NoneRefused, Waiting, joined, none_waits}
use Rattle.pfr_merge.specs.MergedCaptures.{AreOpened, HaveBegun}
use Rattle.pfr_merge.specs.Opening.{AreFresh, HaveOpened, IsRefusedAt, MergeOpens, OneFailed, OpeningFails, OpeningStops}
use Rattle.pfr_merge.proofs.CountLemmas.{passes_none}
use Rattle.pfr_merge.proofs.MergedLemmas.{has_form}
use Rattle.pfr_merge.proofs.SetLemmas.{map_at, map_kept, set_other, set_same}
use Rattle.pfr_merge.proofs.StoppedLemmas.{merge_begins}

-- ---- one more is opened

pub opened_more : (readings : List Reading) (befores lefts : List (List ℕ)) (reading : Reading) (mid left : List ℕ) → HaveOpened readings befores lefts → slice_get lefts (length readings) ≡ Some mid → Opens mid left reading
    → HaveOpened (readings ++ reading ∷ []) befores (set lefts (length readings) left)
opened_more [] befores [] reading mid left opened at opens = absurd (cc)
opened_more [] befores (l ∷ lefts) reading mid left opened at opens =
    let here : l ≡ mid = cc in
    rw (opened, here) (opens, refl)
opened_more (r ∷ readings) (b ∷ befores) (l ∷ lefts) reading mid left opened at opens = (opened.0, opened_more readings befores lefts reading mid left opened.1 at opens)
opened_more (r ∷ readings) [] lefts reading mid left opened at opens = absurd opened
opened_more (r ∷ readings) (b ∷ befores) [] reading mid left opened at opens = absurd opened

-- the next source is as it was
untouched : (readings : List Reading) (befores lefts : List (List ℕ)) (mid : List ℕ) → HaveOpened readings befores lefts → slice_get lefts (length readings) ≡ Some mid → slice_get befores (length readings) ≡ Some mid
untouched [] befores lefts mid opened at = rw opened at
untouched (r ∷ readings) (b ∷ befores) (l ∷ lefts) mid opened at = untouched readings befores lefts mid opened.1 at
untouched (r ∷ readings) [] lefts mid opened at = absurd opened
untouched (r ∷ readings) (b ∷ befores) [] mid opened at = absurd opened

opens_so : (before left : List ℕ) (reading : Reading) → Opens before left reading → (form : Form) × (opening_of before ≡ Ok form)
opens_so before left reading opens = (reading.form, rw opens.gave (has_form reading opens.came left [] opens.given))

-- those before it have headers that are accepted
opened_before : (readings : List Reading) (befores lefts : List (List ℕ)) → HaveOpened readings befores lefts → AreOpened (take (length readings) befores)
opened_before [] befores lefts opened = tt
opened_before (r ∷ readings) (b ∷ befores) (l ∷ lefts) opened = (opens_so b l r opened.0, opened_before readings befores lefts opened.1)
opened_before (r ∷ readings) [] lefts opened = absurd opened
opened_before (r ∷ readings) (b ∷ befores) [] opened = absurd opened

pub fresh_more : (readings : List Reading) (reading : Reading) → AreFresh readings → (reading.over ≡ None) × (reading.count ≡ 0) → AreFresh (readings ++ reading ∷ [])
fresh_more [] reading fresh starts = (starts.0, starts.1, tt)
fresh_more (r ∷ readings) reading fresh starts = (fresh.0, fresh.1, fresh_more readings reading fresh.2 starts)

-- ---- one source is opened, or is not

module _ {S : Type 0} (froms sources : List S) (place : ℕ) (s t : S) (from : slice_get sources place ≡ Some s) where
  pub same_at : {Y : Type 0} (f : S → Y) → f t ≡ f s → map f sources ≡ map f froms → map f (set sources place t) ≡ map f froms
  same_at f same before = map_kept f sources place s t from same ∙ before

  module _ (unread : S → List ℕ) (readings : List Reading) (long : length readings ≡ place) (opened : HaveOpened readings (map unread froms) (map unread sources)) where
    at_length : slice_get (map unread sources) (length readings) ≡ Some (unread s)
    at_length = rw long (map_at unread sources place s from)

    lefts_are : map unread (set sources place t) ≡ set (map unread sources) (length readings) (unread t)
    lefts_are = rw long (map_set_at sources place)
      where
        map_set_at : (xs : List S) (k : ℕ) → map unread (set xs k t) ≡ set (map unread xs) k (unread t)
        map_set_at [] k = refl
        map_set_at (x ∷ xs) zero = refl
        map_set_at (x ∷ xs) (suc k) = ap (λ (ls : List (List ℕ)). unread x ∷ ls) (map_set_at xs k)

    pub opened_on : (reading : Reading) → Opens (unread s) (unread t) reading → HaveOpened (readings ++ reading ∷ []) (map unread froms) (map unread (set sources place t))
    opened_on reading opens =
        subst (λ (lefts : List (List ℕ)). HaveOpened (readings ++ reading ∷ []) (map unread froms) lefts) (sym lefts_are)
        (opened_more readings (map unread froms) (map unread sources) reading (unread s) (unread t) opened at_length opens)

    stands_there : slice_get (map unread froms) place ≡ Some (unread s)
    stands_there = rw (← long) (untouched readings (map unread froms) (map unread sources) (unread s) opened at_length)

    before_it : AreOpened (take place (map unread froms))
    before_it = rw (← long) (opened_before readings (map unread froms) (map unread sources) opened)

    refused_so : (e : CaptureError) → opening_of (unread s) ≡ Err e → IsRefusedAt (map unread froms) place e
    refused_so e says = record { text = unread s; stands = stands_there; says = says; before = before_it }

    pub opening_stops : (e : CaptureError) (old new : ℕ) → StopsEarly (unread s) (unread t) e → RefusesHeader (unread s) e → OpenFails e old new → OpeningStops (map unread froms) (map unread (set sources place t)) (place, e)
    opening_stops refusal.Read old new early refuses fails = record {
      text = unread s;
      left = unread t;
      stands = stands_there;
      stays = map_at unread (set sources place t) place t (set_same sources place s t from);
      early = early;
      before = before_it;
    }
    opening_stops refusal.Memory old new early refuses fails = tt
    opening_stops (refusal.RecordTooLong asked) old new early refuses fails = absurd fails
    opening_stops refusal.HeaderCut old new early refuses fails = refused_so refusal.HeaderCut refuses
    opening_stops refusal.BadMagic old new early refuses fails = refused_so refusal.BadMagic refuses
    opening_stops refusal.BadVersion old new early refuses fails = refused_so refusal.BadVersion refuses
    opening_stops (refusal.LinkType link) old new early refuses fails = refused_so (refusal.LinkType link) refuses

  module _ (failures : S → ℕ) (same : map failures sources ≡ map failures froms) where
    one_failed : Rose (failures s) (failures t) → OneFailed place (map failures froms) (map failures (set sources place t))
    one_failed rose = record {
      old = failures s;
      new = failures t;
      was = rw (← same) (map_at failures sources place s from);
      is = map_at failures (set sources place t) place t (set_same sources place s t from);
      rose = rose;
      others = λ k other. map_other k other;
    }
      where
        at_map : (xs : List S) (k : ℕ) → slice_get (map failures (set xs place t)) k ≡ slice_get (set (map failures xs) place (failures t)) k
        at_map xs k = ap (λ (ns : List ℕ). slice_get ns k) (map_set_fails xs place)
          where
            map_set_fails : (xs : List S) (j : ℕ) → map failures (set xs j t) ≡ set (map failures xs) j (failures t)
            map_set_fails [] j = refl
            map_set_fails (x ∷ xs) zero = refl
            map_set_fails (x ∷ xs) (suc j) = ap (λ (ns : List ℕ). failures x ∷ ns) (map_set_fails xs j)

        map_other : (k : ℕ) → (k ≡ place → ⊥) → slice_get (map failures (set sources place t)) k ≡ slice_get (map failures froms) k
        map_other k other = at_map sources k ∙ set_other (map failures sources) place k (failures t) other ∙ ap (λ (ns : List ℕ). slice_get ns k) same

    pub opening_fails : (e : CaptureError) → OpenFails e (failures s) (failures t) → OpeningFails (map failures froms) (map failures (set sources place t)) (place, e)
    opening_fails refusal.Read fails = one_failed fails
    opening_fails refusal.Memory fails = same_at failures fails same
    opening_fails (refusal.RecordTooLong asked) fails = absurd fails
    opening_fails refusal.HeaderCut fails = same_at failures fails same
    opening_fails refusal.BadMagic fails = same_at failures fails same
    opening_fails refusal.BadVersion fails = same_at failures fails same
    opening_fails (refusal.LinkType link) fails = same_at failures fails same

-- ---- all are opened

record AllOpened (readings : List Reading) (befores lefts : List (List ℕ)) : Type 0 where
  came : List (List ℕ)
  gave : befores ≡ joined came lefts
  begun : HaveBegun readings came
  long : length lefts ≡ length readings

no_more : {X : Type 0} (xs : List X) → 0 ≡ length xs → xs ≡ []
no_more [] none = refl
no_more (x ∷ xs) none = absurd (omega arith)

all_opened : (readings : List Reading) (befores lefts : List (List ℕ)) → HaveOpened readings befores lefts → length readings ≡ length befores → AreFresh readings → AllOpened readings befores lefts
all_opened [] befores lefts opened long fresh =
    let none : befores ≡ [] = no_more befores long in
    record { came = []; gave = none; begun = tt; long = ap (λ (ls : List (List ℕ)). length ls) (sym opened ∙ none) }
all_opened (r ∷ readings) (b ∷ befores) (l ∷ lefts) opened long fresh =
    let more = all_opened readings befores lefts opened.1 (omega arith) fresh.2 in
    let first = opened.0 in
    let same = more.long in
    record {
      came = first.came ∷ more.came;
      gave = ap (λ (text : List ℕ). text ∷ befores) first.gave ∙ ap (λ (texts : List (List ℕ)). (first.came ++ l) ∷ texts) more.gave;
      begun = (fresh.0, first.given, more.begun);
      long = omega (arith, same);
    }
all_opened (r ∷ readings) [] lefts opened long fresh = absurd opened
all_opened (r ∷ readings) (b ∷ befores) [] opened long fresh = absurd opened

pub merge_opens : (readings : List Reading) (befores lefts : List (List ℕ)) → HaveOpened readings befores lefts → length readings ≡ length befores → AreFresh readings → MergeOpens befores lefts (map none_waits readings)
merge_opens readings befores lefts opened long fresh =
    let all = all_opened readings befores lefts opened long fresh in
    let begins = merge_begins readings all.came lefts all.begun all.long in
    record { came = all.came; gave = all.gave; has = begins.0; follow = begins.2 }

fresh_counts : (readings : List Reading) → AreFresh readings → (k : ℕ) (reading : Reading) → slice_get readings k ≡ Some reading → reading.count ≡ 0
fresh_counts [] fresh k reading at = absurd (cc)
fresh_counts (r ∷ readings) fresh zero reading at =
    let here : r ≡ reading = cc in
    rw (← here) fresh.1
fresh_counts (r ∷ readings) fresh (suc k) reading at = fresh_counts readings fresh.2 k reading at

fresh_running : (readings : List Reading) → AreFresh readings → NoneRefused (map none_waits readings)
fresh_running [] fresh k w e at over = absurd (cc)
fresh_running (r ∷ readings) fresh zero w e at over =
    let here : none_waits r ≡ w = cc in
    let open' = fresh.0 in
    let there = ap (λ (u : Waiting). u.reading.over) here ∙ over in
    absurd (cc)
fresh_running (r ∷ readings) fresh (suc k) w e at over = fresh_running readings fresh.2 k w e at over

pub merge_starts : (readings : List Reading) → AreFresh readings → NoneRefused (map none_waits readings) × HasPassedOn 0 (map none_waits readings)
merge_starts readings fresh = (fresh_running readings fresh, passes_none readings (fresh_counts readings fresh))
