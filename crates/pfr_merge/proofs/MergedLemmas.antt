-- What a merge has given, as the merge of the captures that it reads.
use Rattle.std.proofs.Common.{◌≡◌, ◌∙◌, ℕ, suc, ◌+◌, List, [], ◌∷◌, ◌++◌, length, map, drop, Option, Some, None, Result, Ok, Err, refl, sym, ap, subst, arith, take, ltb, le-ltb, false}
use Rattle.std.proofs.lemmas.List.{append-nil, append_assoc, drop_all, length-append, map-append, take-append-drop, take_at}
use Rattle.std.specs.List.{flat_map}
use Rattle.pfr_capture.specs.declared.capture.CaptureError.{CaptureError}
use Rattle.pfr_capture.specs.declared.capture.CaptureError.TheVariants.{RecordTooLong}
use Rattle.pfr_capture.specs.declared.capture.Form.{Form}
use Rattle.pfr_capture.specs.declared.capture.Tail.{Tail}
use Rattle.pfr_capture.specs.Reading.{HasGiven, Reading, tail_of}
use Rattle.pfr_capture.specs.Header.{opening_of}
use Rattle.pfr_capture.specs.Records.{IsCapture, RecordBytes, text_of}
use Rattle.pfr_capture.proofs.CaptureLemmas.{given_first}
use Rattle.pfr_capture.proofs.LawLemmas.{every_capture, one_capture}
use Rattle.pfr_capture.proofs.ReadingLemmas.{ends_capture}
use Rattle.pfr_merge.specs.Arrivals.{Arrived, Captured, Event, came, event_of, events_from, events_of, last_event}
use Rattle.pfr_merge.specs.Merging.{AreEmpty, merged}
use Rattle.pfr_merge.specs.MergedCaptures.{AreCaptures, BeginsWith, all_events, tail_of_all}
use Rattle.pfr_merge.specs.MergeReading.{AreOver, Continue, Continues, FollowsOver, HasMerged, HasTaken, HaveTaken, MayFollow, MayFollowAll, MayGive, Waiting, joined, waiting_in, merged_tail, tail_with}
use Rattle.pfr_merge.proofs.MergeLemmas.{empty_merged}
use Rattle.pfr_merge.proofs.MergeReadingLemmas.{gives_at}

-- ---- one capture

-- what a capture gives behind the records that its reader has given
record IsAhead (place : ℕ) (w : Waiting) (taken : List Event) (c : Captured) : Type 0 where
  events : List Event
  goes : Continues place w events
  is : events_of place c ≡ taken ++ events

module _ (place : ℕ) (w : Waiting) (read more : List ℕ) (taken : List Event) (c : Captured) (has : HasTaken place w read taken) (captured : IsCapture (read ++ more) c.form c.records c.ending) where
  abbrev given_so : List RecordBytes
  given_so = has.records ++ waiting_in w.head

  abbrev behind_so : List RecordBytes
  behind_so = drop (length given_so) c.records

  abbrev pub rest_so : List Event
  rest_so = map (event_of place w.reading.form) behind_so ++ last_event place c.ending

  records_are : c.records ≡ given_so ++ behind_so
  records_are =
      let first = given_first w.reading read more given_so c.form c.records c.ending has.given captured in
      sym (take-append-drop (length given_so) c.records) ∙ ap (λ (rs : List RecordBytes). rs ++ behind_so) (sym first.first.front)

  form_is : c.form ≡ w.reading.form
  form_is = (given_first w.reading read more given_so c.form c.records c.ending has.given captured).form_is

  -- if the reading is over, that is all
  rest_over : (ending : Result Tail CaptureError) → IsCapture (read ++ more) w.reading.form given_so ending → rest_so ≡ last_event place ending
  rest_over ending ends =
      let same = one_capture (read ++ more) c.form w.reading.form c.records given_so c.ending ending captured ends in
      let none : behind_so ≡ [] = drop_all (length given_so) c.records (let long = ap (λ (rs : List RecordBytes). length rs) same.1 in omega arith) in
      ap (λ (rs : List RecordBytes). map (event_of place w.reading.form) rs ++ last_event place c.ending) none ∙ ap (last_event place) same.2

  may_give : (over : Option (Result Tail CaptureError)) → FollowsOver w.reading more over → MayGive place over rest_so
  may_give None follows = tt
  may_give (Some (Ok tail)) follows = rest_over (Ok tail) (ends_capture w.reading more (Ok tail) follows read given_so has.given)
  may_give (Some (Err (RecordTooLong asked))) follows =
      rest_over (Err (RecordTooLong asked)) (ends_capture w.reading more (Err (RecordTooLong asked)) follows read given_so has.given)
  may_give (Some (Err e)) follows = tt

  pub events_are : events_of place c ≡ taken ++ (map (event_of place w.reading.form) (waiting_in w.head) ++ rest_so)
  events_are =
      let f = event_of place w.reading.form in
      ap (λ (form : Form). map (event_of place form) c.records ++ last_event place c.ending) form_is
      ∙ ap (λ (rs : List RecordBytes). map f rs ++ last_event place c.ending) records_are
      ∙ ap (λ (es : List Event). es ++ last_event place c.ending) (map-append f given_so behind_so ∙ ap (λ (es : List Event). es ++ map f behind_so) (map-append f has.records (waiting_in w.head)))
      ∙ append_assoc (map f has.records ++ map f (waiting_in w.head)) (map f behind_so) (last_event place c.ending)
      ∙ append_assoc (map f has.records) (map f (waiting_in w.head)) rest_so
      ∙ ap (λ (es : List Event). es ++ (map f (waiting_in w.head) ++ rest_so)) (sym has.taken_is)

  ends_so : (tail : Tail) → w.reading.over ≡ Some (Ok tail) → MayFollow w more → c.ending ≡ Ok tail
  ends_so tail over follows =
      let ends = subst (FollowsOver w.reading more) over follows in
      (one_capture (read ++ more) c.form w.reading.form c.records given_so c.ending (Ok tail) captured (ends_capture w.reading more (Ok tail) ends read given_so has.given)).2

  is_ahead : MayFollow w more → IsAhead place w taken c
  is_ahead follows = record {
    events = map (event_of place w.reading.form) (waiting_in w.head) ++ rest_so;
    goes = record { more = rest_so; is = refl; may = may_give w.reading.over follows };
    is = events_are;
  }

-- ---- all captures

pub record AreAhead (place : ℕ) (ws : List Waiting) (taken : List (List Event)) (captures : List Captured) : Type 0 where
  pub events : List (List Event)
  pub goes : Continue place ws events
  pub are : events_from place captures ≡ joined taken events

pub are_ahead : (place : ℕ) (ws : List Waiting) (reads mores : List (List ℕ)) (taken : List (List Event)) (captures : List Captured) → HaveTaken place ws reads taken → MayFollowAll ws mores → AreCaptures (joined reads mores) captures → AreAhead place ws taken captures
are_ahead place [] [] [] [] [] has follow are = record { events = []; goes = tt; are = refl }
are_ahead place [] [] [] [] (c ∷ captures) has follow are = absurd are
are_ahead place [] [] [] (t ∷ taken) captures has follow are = absurd has
are_ahead place [] [] (m ∷ mores) taken captures has follow are = absurd follow
are_ahead place [] (r ∷ reads) mores taken captures has follow are = absurd has
are_ahead place (w ∷ ws) [] mores [] captures has follow are = absurd has
are_ahead place (w ∷ ws) [] mores (t ∷ taken) captures has follow are = absurd has
are_ahead place (w ∷ ws) (r ∷ reads) [] taken captures has follow are = absurd follow
are_ahead place (w ∷ ws) (r ∷ reads) (m ∷ mores) [] captures has follow are = absurd has
are_ahead place (w ∷ ws) (r ∷ reads) (m ∷ mores) (t ∷ taken) [] has follow are = absurd are
are_ahead place (w ∷ ws) (r ∷ reads) (m ∷ mores) (t ∷ taken) (c ∷ captures) has follow are =
    let first = is_ahead place w r m t c has.0 are.0 follow.0 in
    let more = are_ahead (suc place) ws reads mores taken captures has.1 follow.1 are.1 in
    record {
      events = first.events ∷ more.events;
      goes = (first.goes, more.goes);
      are = ap (λ (es : List Event). es ∷ events_from (suc place) captures) first.is ∙ ap (λ (lists : List (List Event)). (t ++ first.events) ∷ lists) more.are;
    }

tails_are : (place : ℕ) (ws : List Waiting) (reads mores : List (List ℕ)) (taken : List (List Event)) (captures : List Captured) → HaveTaken place ws reads taken → MayFollowAll ws mores → AreCaptures (joined reads mores) captures → AreOver ws → tail_of_all captures ≡ merged_tail ws
tails_are place [] [] [] [] [] has follow are over = refl
tails_are place [] [] [] [] (c ∷ captures) has follow are over = absurd are
tails_are place [] [] [] (t ∷ taken) captures has follow are over = absurd has
tails_are place [] [] (m ∷ mores) taken captures has follow are over = absurd follow
tails_are place [] (r ∷ reads) mores taken captures has follow are over = absurd has
tails_are place (w ∷ ws) [] mores [] captures has follow are over = absurd has
tails_are place (w ∷ ws) [] mores (t ∷ taken) captures has follow are over = absurd has
tails_are place (w ∷ ws) (r ∷ reads) [] taken captures has follow are over = absurd follow
tails_are place (w ∷ ws) (r ∷ reads) (m ∷ mores) [] captures has follow are over = absurd has
tails_are place (w ∷ ws) (r ∷ reads) (m ∷ mores) (t ∷ taken) [] has follow are over = absurd are
tails_are place (w ∷ ws) (r ∷ reads) (m ∷ mores) (t ∷ taken) (c ∷ captures) has follow are over =
    let so = over 0 w refl in
    let ends = ends_so place w r m t c has.0 are.0 so.1 so.2 follow.0 in
    let first : tail_of (Some c.ending) ≡ tail_of w.reading.over = ap (λ (e : Result Tail CaptureError). tail_of (Some e)) ends ∙ ap tail_of (sym so.2) in
    let more = tails_are (suc place) ws reads mores taken captures has.1 follow.1 are.1 (λ k u at. over (suc k) u at) in
    ap (λ (tail : Tail). tail_with tail (tail_of_all captures)) first ∙ ap (tail_with (tail_of w.reading.over)) more

-- ---- there are captures

pub has_header : (reading : Reading) (read more : List ℕ) (records : List RecordBytes) → HasGiven reading read records → take 24 (read ++ more) ≡ reading.header
has_header reading read more records h =
    let behind = (flat_map text_of records ++ reading.ahead) ++ more in
    let whole : read ++ more ≡ reading.header ++ behind = ap (λ (t : List ℕ). t ++ more) h.read_is ∙ append_assoc reading.header (flat_map text_of records ++ reading.ahead) more in
    rw whole (take_at reading.header behind 24 h.header_length)

pub has_form : (reading : Reading) (read more : List ℕ) (records : List RecordBytes) → HasGiven reading read records → opening_of (read ++ more) ≡ Ok reading.form
has_form reading read more records h =
    let behind = (flat_map text_of records ++ reading.ahead) ++ more in
    let whole : read ++ more ≡ reading.header ++ behind = ap (λ (t : List ℕ). t ++ more) h.read_is ∙ append_assoc reading.header (flat_map text_of records ++ reading.ahead) more in
    let header = has_header reading read more records h in
    let long = h.header_length in
    let enough : ltb (length (read ++ more)) 24 ≡ false = le-ltb _ _ (rw whole (omega (arith, length-append reading.header behind))) in
    rw (enough, header) h.says

some_captures : (place : ℕ) (ws : List Waiting) (reads mores : List (List ℕ)) (taken : List (List Event)) → HaveTaken place ws reads taken → length mores ≡ length ws → (captures : List Captured) × AreCaptures (joined reads mores) captures
some_captures place [] [] mores taken has long = ([], tt)
some_captures place [] (r ∷ reads) mores taken has long = absurd has
some_captures place (w ∷ ws) [] mores [] has long = absurd has
some_captures place (w ∷ ws) [] mores (t ∷ taken) has long = absurd has
some_captures place (w ∷ ws) (r ∷ reads) [] taken has long = absurd (omega arith)
some_captures place (w ∷ ws) (r ∷ reads) (m ∷ mores) [] has long = absurd has
some_captures place (w ∷ ws) (r ∷ reads) (m ∷ mores) (t ∷ taken) has long =
    let one = every_capture (r ++ m) w.reading.form (has_form w.reading r m (has.0.records ++ waiting_in w.head) has.0.given) in
    let more = some_captures (suc place) ws reads mores taken has.1 (omega arith) in
    (record { form = w.reading.form; records = one.0; ending = one.1 } ∷ more.0, (one.2, more.1))

-- ---- the laws

pub reads_captures : (ws : List Waiting) (reads mores : List (List ℕ)) (given : List Arrived) → HasMerged ws reads given → length mores ≡ length ws → (captures : List Captured) × AreCaptures (joined reads mores) captures
reads_captures ws reads mores given has long = some_captures 0 ws reads mores has.taken has.each long

module _ (ws : List Waiting) (reads mores : List (List ℕ)) (given : List Arrived) (captures : List Captured) (has : HasMerged ws reads given) (follow : MayFollowAll ws mores) (are : AreCaptures (joined reads mores) captures) where
  abbrev ahead : AreAhead 0 ws has.taken captures
  ahead = are_ahead 0 ws reads mores has.taken captures has.each follow are

  in_order : all_events captures ≡ map came given ++ merged ahead.events
  in_order = ap merged ahead.are ∙ has.order ahead.events ahead.goes

  pub begins : BeginsWith captures given
  begins = (merged ahead.events, in_order)

  none_left : AreOver ws → AreEmpty ahead.events
  none_left over =
      λ k events at.
      let gives = gives_at 0 ws ahead.events k events ahead.goes at in
      let so = over k gives.0 gives.1 in
      let may = subst (λ (o : Option (Result Tail CaptureError)). MayGive (0 + k) o gives.2.more) so.2 gives.2.may in
      let none : waiting_in gives.0.head ≡ [] = ap waiting_in so.0 in
      gives.2.is ∙ ap (λ (rs : List RecordBytes). map (event_of (0 + k) gives.0.reading.form) rs ++ gives.2.more) none ∙ may

  pub all_given : AreOver ws → (all_events captures ≡ map came given) × (tail_of_all captures ≡ merged_tail ws)
  all_given over = (
    in_order ∙ ap (λ (es : List Event). map came given ++ es) (empty_merged ahead.events (none_left over)) ∙ append-nil (map came given),
    tails_are 0 ws reads mores has.taken captures has.each follow are over,
  )
