-- A merge that was refused, and one that begins.
use Rattle.std.proofs.Common.{◌≡◌, ◌∙◌, ℕ, zero, suc, ◌+◌, true, false, List, [], ◌∷◌, ◌++◌, length, map, set, Option, Some, None, slice_get, Result, Ok, Err, refl, sym, ap, subst, arith}
use Rattle.std.proofs.lemmas.List.{append-nil}
use Rattle.pfr_capture.specs.declared.capture.CaptureError.{CaptureError}
use Rattle.pfr_capture.specs.declared.capture.CaptureError.TheVariants.{Read, RecordTooLong}
use Rattle.pfr_capture.specs.declared.capture.Form.{Form}
use Rattle.pfr_capture.specs.declared.capture.Tail.{Tail}
use Rattle.pfr_capture.specs.Reading.{HasGiven, LacksRecord, Reading}
use Rattle.pfr_capture.specs.Records.{IsCapture, RecordBytes}
use Rattle.pfr_capture.proofs.CaptureLemmas.{read_is_capture}
use Rattle.pfr_capture.proofs.LawLemmas.{one_capture}
use Rattle.pfr_merge.specs.Arrivals.{Arrived, Captured, Event, came, comes_before, event_of, events_from, events_of, refused}
use Rattle.pfr_merge.specs.Merging.{IsNext, merged}
use Rattle.pfr_merge.specs.MergedCaptures.{AreCaptures, HaveBegun, StopsBehind}
use Rattle.pfr_merge.specs.MergeReading.{Continue, Continues, FollowsOver, HasMerged, HasTaken, HaveTaken, LacksRecordAt, MayFollowAll, MayGive, NoneRefused, StopsAt, Waiting, joined, none_waits, waiting_in}
use Rattle.pfr_merge.proofs.MergeLemmas.{merged_next}
use Rattle.pfr_merge.proofs.MergeReadingLemmas.{gives_at, waits_next}
use Rattle.pfr_merge.proofs.MergedLemmas.{are_ahead}
use Rattle.pfr_merge.proofs.SetLemmas.{set_same}

-- ---- a refusal is the next event

refusal_first : (place : ℕ) (e : CaptureError) (y : Event) (a : Arrived) → y ≡ came a → comes_before (refused place e) y ≡ true
unfolding comes_before
refusal_first place e y a is = rw is refl

none_before_refusal : (y : Event) (place : ℕ) (e : CaptureError) → comes_before y (refused place e) ≡ false
unfolding comes_before
none_before_refusal (came a) place e = refl
none_before_refusal (refused other f) place e = refl

stop_is_next : (ws : List Waiting) (place : ℕ) (e : CaptureError) (events : List (List Event)) → StopsAt ws (place, e) → Continue 0 ws events → slice_get events place ≡ Some (refused place e ∷ []) → IsNext events place (refused place e) []
stop_is_next ws place e events stop goes at = record {
  stands = at;
  first = λ k y ys below there.
      let gives = gives_at 0 ws events k (y ∷ ys) goes there in
      let waits = waits_next _ gives.0 y ys (stop.first k gives.0 below gives.1) gives.2 in
      refusal_first place e y waits.0 waits.1;
  least = λ k y ys above there. none_before_refusal y place e;
}

-- ---- by places

-- what the capture at a place gives
abbrev GivesSo : ℕ → Waiting → List (List Event) → ℕ → Type 0
GivesSo at w lists k = (events : List Event) × (slice_get lists k ≡ Some events) × Continues at w events

so_at : (ws : List Waiting) (lists : List (List Event)) (k place at : ℕ) (w : Waiting) → at ≡ place + k → Continue place ws lists → slice_get ws k ≡ Some w → GivesSo at w lists k
so_at [] lists k place at w is goes stands = absurd (cc)
so_at (u ∷ ws) [] k place at w is goes stands = absurd goes
so_at (u ∷ ws) (events ∷ lists) zero place at w is goes stands =
    let same : u ≡ w = cc in
    let here : at ≡ place = omega arith in
    (events, refl, rw (here, ← same) goes.0)
so_at (u ∷ ws) (events ∷ lists) (suc k) place at w is goes stands = so_at ws lists k (suc place) at w (omega arith) goes.1 stands

goes_set : (ws : List Waiting) (lists : List (List Event)) (k place at : ℕ) (w : Waiting) (events : List Event) → at ≡ place + k → Continue place ws lists → slice_get ws k ≡ Some w → Continues at w events → Continue place ws (set lists k events)
goes_set [] lists k place at w events is goes stands new = absurd (cc)
goes_set (u ∷ ws) [] k place at w events is goes stands new = absurd goes
goes_set (u ∷ ws) (old ∷ lists) zero place at w events is goes stands new =
    let same : u ≡ w = cc in
    let here : at ≡ place = omega arith in
    (rw (← here, same) new, goes.1)
goes_set (u ∷ ws) (old ∷ lists) (suc k) place at w events is goes stands new =
    (goes.0, goes_set ws lists k (suc place) at w events (omega arith) goes.1 stands new)

-- the bytes read of the capture at a place, and what was taken of it
record StandsSo (at k : ℕ) (w : Waiting) (more : List ℕ) (taken : List (List Event)) (c : Captured) : Type 0 where
  read : List ℕ
  own : List Event
  stands : slice_get taken k ≡ Some own
  has : HasTaken at w read own
  captured : IsCapture (read ++ more) c.form c.records c.ending

stands_at : (ws : List Waiting) (reads mores : List (List ℕ)) (taken : List (List Event)) (captures : List Captured) (k place at : ℕ) (w : Waiting) (more : List ℕ) (c : Captured) → at ≡ place + k → HaveTaken place ws reads taken → AreCaptures (joined reads mores) captures → slice_get ws k ≡ Some w → slice_get mores k ≡ Some more → slice_get captures k ≡ Some c → StandsSo at k w more taken c
stands_at [] reads mores taken captures k place at w more c is has are at_w at_m at_c = absurd (cc)
stands_at (u ∷ ws) [] mores [] captures k place at w more c is has are at_w at_m at_c = absurd has
stands_at (u ∷ ws) [] mores (t ∷ taken) captures k place at w more c is has are at_w at_m at_c = absurd has
stands_at (u ∷ ws) (r ∷ reads) mores [] captures k place at w more c is has are at_w at_m at_c = absurd has
stands_at (u ∷ ws) (r ∷ reads) [] (t ∷ taken) captures k place at w more c is has are at_w at_m at_c = absurd (cc)
stands_at (u ∷ ws) (r ∷ reads) (m ∷ mores) (t ∷ taken) [] k place at w more c is has are at_w at_m at_c = absurd (cc)
stands_at (u ∷ ws) (r ∷ reads) (m ∷ mores) (t ∷ taken) (d ∷ captures) zero place at w more c is has are at_w at_m at_c =
    let same : u ≡ w = cc in
    let same_more : m ≡ more = cc in
    let same_c : d ≡ c = cc in
    let here : at ≡ place = omega arith in
    record { read = r; own = t; stands = refl; has = rw (here, ← same) has.0; captured = rw (← same_more, ← same_c) are.0 }
stands_at (u ∷ ws) (r ∷ reads) (m ∷ mores) (t ∷ taken) (d ∷ captures) (suc k) place at w more c is has are at_w at_m at_c =
    let so = stands_at ws reads mores taken captures k (suc place) at w more c (omega arith) has.1 are.1 at_w at_m at_c in
    record { read = so.read; own = so.own; stands = so.stands; has = so.has; captured = so.captured }

events_set : (captures : List Captured) (k place at : ℕ) (c : Captured) → at ≡ place + k → events_from place (set captures k c) ≡ set (events_from place captures) k (events_of at c)
events_set [] k place at c is = refl
events_set (d ∷ captures) zero place at c is =
    let here : at ≡ place = omega arith in
    rw here refl
events_set (d ∷ captures) (suc k) place at c is = ap (λ (lists : List (List Event)). events_of place d ∷ lists) (events_set captures k (suc place) at c (omega arith))

joined_set : (taken events : List (List Event)) (k : ℕ) (own new old : List Event) → slice_get taken k ≡ Some own → slice_get events k ≡ Some old → joined taken (set events k new) ≡ set (joined taken events) k (own ++ new)
joined_set [] events k own new old at from = absurd (cc)
joined_set (t ∷ taken) [] k own new old at from = absurd (cc)
joined_set (t ∷ taken) (e ∷ events) zero own new old at from =
    let same : t ≡ own = cc in
    ap (λ (es : List Event). (es ++ new) ∷ joined taken events) same
joined_set (t ∷ taken) (e ∷ events) (suc k) own new old at from = ap (λ (lists : List (List Event)). (t ++ e) ∷ lists) (joined_set taken events k own new old at from)

-- ---- the laws

-- the order of a merge whose next event is a refusal
stops_behind : (ws : List Waiting) (reads : List (List ℕ)) (given : List Arrived) (captures : List Captured) (place : ℕ) (e : CaptureError) (events : List (List Event)) → (has : HasMerged ws reads given) → StopsAt ws (place, e) → Continue 0 ws events → events_from 0 captures ≡ joined has.taken events → slice_get events place ≡ Some (refused place e ∷ []) → StopsBehind captures given place e
stops_behind ws reads given captures place e events has stop goes are at =
    let next = merged_next events place (refused place e) [] (stop_is_next ws place e events stop goes at) in
    (merged (set events place []), ap merged are ∙ has.order events goes ∙ ap (λ (es : List Event). map came given ++ es) next)

-- what a capture without a record that waits gives
gives_rest : (at : ℕ) (w : Waiting) (events : List Event) → w.head ≡ None → (goes : Continues at w events) → events ≡ goes.more
gives_rest at w events none goes = goes.is ∙ ap (λ (head : Option RecordBytes). map (event_of at w.reading.form) (waiting_in head) ++ goes.more) none

pub too_long : (ws : List Waiting) (reads mores : List (List ℕ)) (given : List Arrived) (captures : List Captured) (place asked : ℕ) → HasMerged ws reads given → MayFollowAll ws mores → AreCaptures (joined reads mores) captures → StopsAt ws (place, RecordTooLong asked) → StopsBehind captures given place (RecordTooLong asked)
too_long ws reads mores given captures place asked has follow are stop =
    let ahead = are_ahead 0 ws reads mores has.taken captures has.each follow are in
    let so = so_at ws ahead.events place 0 place stop.at (omega arith) ahead.goes stop.stands in
    let may = subst (λ (o : Option (Result Tail CaptureError)). MayGive place o so.2.more) stop.stopped.1 so.2.may in
    let is : so.0 ≡ refused place (RecordTooLong asked) ∷ [] = gives_rest place stop.at so.0 stop.stopped.0 so.2 ∙ may in
    stops_behind ws reads given captures place (RecordTooLong asked) ahead.events has stop ahead.goes ahead.are (so.1 ∙ ap (λ (es : List Event). Some es) is)

-- the capture that ends with the bytes that came, and whose next read failed
failing : (at k : ℕ) (w : Waiting) (taken : List (List Event)) (c : Captured) → w.head ≡ None → LacksRecord w.reading Read → (so : StandsSo at k w [] taken c) → map (event_of at c.form) c.records ≡ so.own
failing at k w taken c none lacks so =
    let given : HasGiven w.reading so.read (so.has.records ++ []) = subst (λ (head : Option RecordBytes). HasGiven w.reading so.read (so.has.records ++ waiting_in head)) none so.has.given in
    let all = read_is_capture w.reading so.read (so.has.records ++ []) given lacks in
    let whole : IsCapture (so.read ++ []) w.reading.form (so.has.records ++ []) (Ok all.0) = subst (λ (text : List ℕ). IsCapture text w.reading.form (so.has.records ++ []) (Ok all.0)) (sym (append-nil so.read)) all.1 in
    let same = one_capture (so.read ++ []) c.form w.reading.form c.records (so.has.records ++ []) c.ending (Ok all.0) so.captured whole in
    ap (λ (form : Form). map (event_of at form) c.records) same.0
    ∙ ap (map (event_of at w.reading.form)) (same.1 ∙ append-nil so.has.records)
    ∙ sym so.has.taken_is

pub failed : (ws : List Waiting) (reads mores : List (List ℕ)) (given : List Arrived) (captures : List Captured) (place : ℕ) (c : Captured) → HasMerged ws reads given → MayFollowAll ws mores → AreCaptures (joined reads mores) captures → StopsAt ws (place, Read) → LacksRecordAt ws (place, Read) → slice_get mores place ≡ Some [] → slice_get captures place ≡ Some c → StopsBehind (set captures place (record c { ending = Err Read })) given place Read
failed ws reads mores given captures place c has follow are stop lacks no_more at =
    let ahead = are_ahead 0 ws reads mores has.taken captures has.each follow are in
    let last = refused place Read ∷ [] in
    let so = so_at ws ahead.events place 0 place stop.at (omega arith) ahead.goes stop.stands in
    let may = subst (λ (o : Option (Result Tail CaptureError)). MayGive place o last) (sym stop.stopped.1) tt in
    let ends : Continues place stop.at last = record {
      more = last;
      is = sym (ap (λ (head : Option RecordBytes). map (event_of place stop.at.reading.form) (waiting_in head) ++ last) stop.stopped.0);
      may = may;
    } in
    let goes = goes_set ws ahead.events place 0 place stop.at last (omega arith) ahead.goes stop.stands ends in
    let stands = stands_at ws reads mores has.taken captures place 0 place stop.at [] c (omega arith) has.each are stop.stands no_more at in
    let own : events_of place (record c { ending = Err Read }) ≡ stands.own ++ last = ap (λ (es : List Event). es ++ last) (failing place place stop.at has.taken c stop.stopped.0 (lacks stop.at stop.stands) stands) in
    let new = events_set captures place 0 place (record c { ending = Err Read }) (omega arith) in
    let joins = joined_set has.taken ahead.events place stands.own last so.0 stands.stands so.1 in
    let events_are = new ∙ ap (λ (lists : List (List Event)). set lists place (events_of place (record c { ending = Err Read }))) ahead.are ∙ ap (set (joined has.taken ahead.events) place) own ∙ sym joins in
    stops_behind ws reads given (set captures place (record c { ending = Err Read })) place Read (set ahead.events place last) has stop goes events_are (set_same ahead.events place so.0 last so.1)

-- ---- the beginning

abbrev none_of : List Reading → List (List Event)
none_of [] = []
none_of (reading ∷ readings) = [] ∷ none_of readings

takes_none : (place : ℕ) (readings : List Reading) (reads : List (List ℕ)) → HaveBegun readings reads → HaveTaken place (map none_waits readings) reads (none_of readings)
takes_none place [] [] none = tt
takes_none place [] (read ∷ reads) none = absurd none
takes_none place (reading ∷ readings) [] none = absurd none
takes_none place (reading ∷ readings) (read ∷ reads) none =
    (record { records = []; taken_is = refl; given = none.1 }, takes_none (suc place) readings reads none.2)

joined_none : (place : ℕ) (readings : List Reading) (events : List (List Event)) → Continue place (map none_waits readings) events → joined (none_of readings) events ≡ events
joined_none place [] [] goes = refl
joined_none place [] (e ∷ events) goes = absurd goes
joined_none place (reading ∷ readings) [] goes = absurd goes
joined_none place (reading ∷ readings) (e ∷ events) goes = ap (λ (lists : List (List Event)). e ∷ lists) (joined_none (suc place) readings events goes.1)

none_refused : (readings : List Reading) (reads : List (List ℕ)) → HaveBegun readings reads → NoneRefused (map none_waits readings)
none_refused [] reads begun k w e at over = absurd (cc)
none_refused (reading ∷ readings) [] begun k w e at over = absurd begun
none_refused (reading ∷ readings) (read ∷ reads) begun zero w e at over =
    let is : none_waits reading ≡ w = cc in
    let open' = begun.0 in
    let there : reading.over ≡ Some (Err e) = ap (λ (v : Waiting). v.reading.over) is ∙ over in
    absurd (cc)
none_refused (reading ∷ readings) (read ∷ reads) begun (suc k) w e at over = none_refused readings reads begun.2 k w e at over

all_may_follow : (readings : List Reading) (reads mores : List (List ℕ)) → HaveBegun readings reads → length mores ≡ length readings → MayFollowAll (map none_waits readings) mores
all_may_follow [] reads [] begun long = tt
all_may_follow [] reads (m ∷ mores) begun long = absurd (omega arith)
all_may_follow (reading ∷ readings) [] mores begun long = absurd begun
all_may_follow (reading ∷ readings) (read ∷ reads) [] begun long = absurd (omega arith)
all_may_follow (reading ∷ readings) (read ∷ reads) (m ∷ mores) begun long =
    (subst (FollowsOver reading m) (sym begun.0) tt, all_may_follow readings reads mores begun.2 (omega arith))

pub merge_begins : (readings : List Reading) (reads mores : List (List ℕ)) → HaveBegun readings reads → length mores ≡ length readings → HasMerged (map none_waits readings) reads [] × NoneRefused (map none_waits readings) × MayFollowAll (map none_waits readings) mores
merge_begins readings reads mores begun long = (
  record {
    taken = none_of readings;
    each = takes_none 0 readings reads begun;
    order = λ events goes. ap merged (joined_none 0 readings events goes);
  },
  none_refused readings reads begun,
  all_may_follow readings reads mores begun long,
)
