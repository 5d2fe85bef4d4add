-- What several captures give to a run, as one list.
use Rattle.std.proofs.Common.{◌≡◌, ◌∙◌, ℕ, zero, suc, Bool, true, List, [], ◌∷◌, ◌++◌, length, map, set, take, Option, Some, None, slice_get, Result, Ok, Err, inl, inr, refl, sym, ap, subst, arith}
use Rattle.std.proofs.lemmas.Bool.{cases_eq}
use Rattle.std.proofs.lemmas.List.{append_cancel_right, append-nil}
use Rattle.pfr_capture.specs.declared.capture.CaptureError.{CaptureError}
use Rattle.pfr_capture.specs.declared.capture.CaptureError.TheVariants as refusal
use Rattle.pfr_capture.specs.declared.capture.Form.{Form}
use Rattle.pfr_capture.specs.declared.capture.Tail.{Tail}
use Rattle.pfr_capture.specs.Header.{opening_of}
use Rattle.pfr_capture.specs.Reading.{HasGiven, NextFails, Reading}
use Rattle.pfr_capture.specs.Records.{IsCapture, RecordBytes}
use Rattle.pfr_capture.proofs.LawLemmas.{every_capture, one_capture}
use Rattle.pfr_merge.specs.Arrivals.{Arrived, Captured, Event, came, event_of, events_of, refused}
use Rattle.pfr_merge.specs.Merging.{merged}
use Rattle.pfr_merge.specs.MergeReading.{AreOver, Continue, Continues, FailsAt, FollowsOver, HasMerged, HaveTaken, LacksRecordAt, MayFollow, MayFollowAll, MayGive, StopsAt, Waiting, header_in, joined, merged_tail, waiting_in}
use Rattle.pfr_merge.specs.MergedCaptures.{AreCaptures, AreOpened, EachFollows, FailedGive, Give, MayContinue, StopsBehind, TextsGive, all_events, arrivals_in, ending_in, has_ended, is_over, tail_of_all}
use Rattle.pfr_merge.specs.Opening.{ReadingFails}
use Rattle.pfr_merge.proofs.MergeLemmas.{merge-nil}
use Rattle.pfr_merge.proofs.MergedLemmas.{all_given, begins, events_are, has_form, has_header, reads_captures, rest_so}
use Rattle.pfr_merge.proofs.SetLemmas.{set_same}
use Rattle.pfr_merge.proofs.StoppedLemmas.{failed, too_long}

-- ---- events as records

arrivals_first : (given : List Arrived) (rest : List Event) → arrivals_in (map came given ++ rest) ≡ given ++ arrivals_in rest
arrivals_first [] rest = refl
arrivals_first (a ∷ given) rest = ap (λ (more : List Arrived). a ∷ more) (arrivals_first given rest)

ending_first : (tail : Tail) (given : List Arrived) (rest : List Event) → ending_in tail (map came given ++ rest) ≡ ending_in tail rest
ending_first tail [] rest = refl
ending_first tail (a ∷ given) rest = ending_first tail given rest

-- events that are these records and then end so
gives_so : (captures : List Captured) (given : List Arrived) (rest : List Event) → all_events captures ≡ map came given ++ rest → arrivals_in rest ≡ [] → Give captures given (ending_in (tail_of_all captures) rest)
gives_so captures given rest is none = record {
  records = sym (ap arrivals_in is ∙ arrivals_first given rest ∙ ap (λ (more : List Arrived). given ++ more) none ∙ append-nil given);
  ends = sym (ap (ending_in (tail_of_all captures)) is ∙ ending_first (tail_of_all captures) given rest);
}

stops_so : (captures : List Captured) (given : List Arrived) (place : ℕ) (e : CaptureError) → StopsBehind captures given place e → Give captures given (Err (place, e))
stops_so captures given place e stops = gives_so captures given (refused place e ∷ stops.0) stops.1 refl

-- ---- lengths

pub follow_long : (ws : List Waiting) (mores : List (List ℕ)) → MayFollowAll ws mores → length mores ≡ length ws
follow_long [] [] follow = refl
follow_long [] (m ∷ mores) follow = absurd follow
follow_long (w ∷ ws) [] follow = absurd follow
follow_long (w ∷ ws) (m ∷ mores) follow = let rest = follow_long ws mores follow.1 in omega (arith, rest)

some_at : {X Y : Type 0} (xs : List X) (ys : List Y) (k : ℕ) (x : X) → length ys ≡ length xs → slice_get xs k ≡ Some x → (y : Y) × (slice_get ys k ≡ Some y)
some_at [] ys k x long at = absurd (cc)
some_at (z ∷ xs) [] k x long at = absurd (omega (arith, long))
some_at (z ∷ xs) (y ∷ ys) zero x long at = (y, refl)
some_at (z ∷ xs) (y ∷ ys) (suc k) x long at = some_at xs ys k x (omega (arith, long)) at

captures_long : (place : ℕ) (ws : List Waiting) (reads mores : List (List ℕ)) (taken : List (List Event)) (captures : List Captured) → HaveTaken place ws reads taken → length mores ≡ length ws → AreCaptures (joined reads mores) captures → length captures ≡ length ws
captures_long place [] [] mores [] [] has long are = refl
captures_long place [] [] mores [] (c ∷ captures) has long are = absurd are
captures_long place [] [] mores (t ∷ taken) captures has long are = absurd has
captures_long place [] (r ∷ reads) mores taken captures has long are = absurd has
captures_long place (w ∷ ws) [] mores [] captures has long are = absurd has
captures_long place (w ∷ ws) [] mores (t ∷ taken) captures has long are = absurd has
captures_long place (w ∷ ws) (r ∷ reads) mores [] captures has long are = absurd has
captures_long place (w ∷ ws) (r ∷ reads) [] (t ∷ taken) captures has long are = absurd (omega (arith, long))
captures_long place (w ∷ ws) (r ∷ reads) (m ∷ mores) (t ∷ taken) [] has long are = absurd are
captures_long place (w ∷ ws) (r ∷ reads) (m ∷ mores) (t ∷ taken) (c ∷ captures) has long are =
    let rest = captures_long (suc place) ws reads mores taken captures has.1 (omega (arith, long)) are.1 in
    omega (arith, rest)

-- ---- the whole of captures

pub all_give : (ws : List Waiting) (reads mores : List (List ℕ)) (given : List Arrived) → HasMerged ws reads given → MayFollowAll ws mores → AreOver ws → TextsGive (joined reads mores) given (Ok (merged_tail ws))
all_give ws reads mores given has follow over =
    let c = reads_captures ws reads mores given has (follow_long ws mores follow) in
    let all = all_given ws reads mores given c.0 has follow c.1 over in
    let gives = gives_so c.0 given [] (all.0 ∙ sym (append-nil (map came given))) refl in
    record {
      captures = c.0;
      are = c.1;
      give = subst (λ (tail : Tail). Give c.0 given (Ok tail)) all.1 gives;
    }

pub too_long_give : (ws : List Waiting) (reads mores : List (List ℕ)) (given : List Arrived) (place asked : ℕ) → HasMerged ws reads given → MayFollowAll ws mores → StopsAt ws (place, refusal.RecordTooLong asked) → TextsGive (joined reads mores) given (Err (place, refusal.RecordTooLong asked))
too_long_give ws reads mores given place asked has follow stop =
    let c = reads_captures ws reads mores given has (follow_long ws mores follow) in
    record {
      captures = c.0;
      are = c.1;
      give = stops_so c.0 given place (refusal.RecordTooLong asked) (too_long ws reads mores given c.0 place asked has follow c.1 stop);
    }

follow_set : (ws : List Waiting) (lefts : List (List ℕ)) (k : ℕ) (w : Waiting) (more : List ℕ) → MayFollowAll ws lefts → slice_get ws k ≡ Some w → MayFollow w more → MayFollowAll ws (set lefts k more)
follow_set [] lefts k w more follow at may = absurd (cc)
follow_set (u ∷ ws) [] k w more follow at may = absurd follow
follow_set (u ∷ ws) (l ∷ lefts) zero w more follow at may =
    let here : u ≡ w = cc in
    (rw here may, follow.1)
follow_set (u ∷ ws) (l ∷ lefts) (suc k) w more follow at may = (follow.0, follow_set ws lefts k w more follow.1 at may)

pub failed_give : (ws : List Waiting) (reads lefts : List (List ℕ)) (given : List Arrived) (place : ℕ) → HasMerged ws reads given → MayFollowAll ws lefts → StopsAt ws (place, refusal.Read) → LacksRecordAt ws (place, refusal.Read) → FailedGive reads lefts place given
failed_give ws reads lefts given place has follow stop lacks =
    let open' : MayFollow stop.at [] = subst (λ (over : Option (Result Tail CaptureError)). FollowsOver stop.at.reading [] over) (sym stop.stopped.1) tt in
    let cut = set lefts place [] in
    let may = follow_set ws lefts place stop.at [] follow stop.stands open' in
    let long = follow_long ws cut may in
    let c = reads_captures ws reads cut given has long in
    let left = some_at ws lefts place stop.at (follow_long ws lefts follow) stop.stands in
    let at = some_at ws c.0 place stop.at (captures_long 0 ws reads cut has.taken c.0 has.each long c.1) stop.stands in
    record {
      captures = c.0;
      are = c.1;
      at = at.0;
      stands = at.1;
      give = stops_so (set c.0 place (record at.0 { ending = Err refusal.Read })) given place refusal.Read
          (failed ws reads cut given c.0 place at.0 has may c.1 stop lacks (set_same lefts place left.0 [] left.1) at.1);
    }

-- ---- the beginning of captures

front : (ws : List Waiting) (reads mores : List (List ℕ)) (given list : List Arrived) (ending : Result Tail (ℕ × CaptureError)) → HasMerged ws reads given → MayFollowAll ws mores → TextsGive (joined reads mores) list ending → (rest : List Arrived) × (list ≡ given ++ rest)
front ws reads mores given list ending has follow gives =
    let b = begins ws reads mores given gives.captures has follow gives.are in
    (arrivals_in b.0, gives.give.records ∙ ap arrivals_in b.1 ∙ arrivals_first given b.0)

-- a capture that has ended has what its source has left
follow_over : (w : Waiting) (left more : List ℕ) (over : Option (Result Tail CaptureError)) → FollowsOver w.reading left over → (is_over over ≡ true → more ≡ left) → FollowsOver w.reading more over
follow_over w left more None follow same = tt
follow_over w left more (Some (Ok tail)) follow same = subst (λ (text : List ℕ). FollowsOver w.reading text (Some (Ok tail))) (sym (same refl)) follow
follow_over w left more (Some (Err (refusal.RecordTooLong asked))) follow same =
    subst (λ (text : List ℕ). FollowsOver w.reading text (Some (Err (refusal.RecordTooLong asked)))) (sym (same refl)) follow
follow_over w left more (Some (Err refusal.Read)) follow same = tt
follow_over w left more (Some (Err refusal.Memory)) follow same = tt
follow_over w left more (Some (Err refusal.HeaderCut)) follow same = tt
follow_over w left more (Some (Err refusal.BadMagic)) follow same = tt
follow_over w left more (Some (Err refusal.BadVersion)) follow same = tt
follow_over w left more (Some (Err (refusal.LinkType link))) follow same = tt

follow_each : (ws : List Waiting) (lefts mores : List (List ℕ)) → MayFollowAll ws lefts → EachFollows (map has_ended ws) lefts mores → MayFollowAll ws mores
follow_each [] [] [] follow each = tt
follow_each [] [] (m ∷ mores) follow each = absurd each
follow_each [] (l ∷ lefts) mores follow each = absurd follow
follow_each (w ∷ ws) [] mores follow each = absurd follow
follow_each (w ∷ ws) (l ∷ lefts) [] follow each = absurd each
follow_each (w ∷ ws) (l ∷ lefts) (m ∷ mores) follow each = (follow_over w l m w.reading.over follow.0 each.0, follow_each ws lefts mores follow.1 each.1)

-- ---- what may follow

each_continues : (ended : List Bool) (lefts mores : List (List ℕ)) → EachFollows ended lefts mores → MayContinue ended lefts mores
each_continues [] lefts mores each = each
each_continues (e ∷ f ∷ ended) lefts mores each = each
each_continues (e ∷ []) [] mores each = each
each_continues (e ∷ []) (l ∷ k ∷ lefts) mores each = each
each_continues (e ∷ []) (l ∷ []) [] each = each
each_continues (e ∷ []) (l ∷ []) (m ∷ []) each = tt
each_continues (e ∷ []) (l ∷ []) (m ∷ n ∷ mores) each = each

each_self : (ended : List Bool) (lefts : List (List ℕ)) → length ended ≡ length lefts → EachFollows ended lefts lefts
each_self [] [] long = tt
each_self [] (l ∷ lefts) long = absurd (omega (arith, long))
each_self (e ∷ ended) [] long = absurd (omega (arith, long))
each_self (e ∷ ended) (l ∷ lefts) long = (λ is. refl, each_self ended lefts (omega (arith, long)))

-- what the sources have left
pub continue_self : (ended : List Bool) (lefts : List (List ℕ)) → length ended ≡ length lefts → MayContinue ended lefts lefts
continue_self ended lefts long = each_continues ended lefts lefts (each_self ended lefts long)

-- with more bytes before it
each_on : (ended : List Bool) (bytes lefts mores : List (List ℕ)) → length (joined bytes lefts) ≡ length ended → EachFollows ended lefts mores → EachFollows ended (joined bytes lefts) (joined bytes mores)
each_on [] [] [] [] long each = tt
each_on [] (c ∷ bytes) [] [] long each = tt
each_on [] bytes [] (m ∷ mores) long each = absurd each
each_on [] bytes (l ∷ lefts) mores long each = absurd each
each_on (e ∷ ended) bytes [] mores long each = absurd each
each_on (e ∷ ended) bytes (l ∷ lefts) [] long each = absurd each
each_on (e ∷ ended) [] (l ∷ lefts) (m ∷ mores) long each = absurd (omega (arith, long))
each_on (e ∷ ended) (c ∷ bytes) (l ∷ lefts) (m ∷ mores) long each =
    (λ is. ap (λ (text : List ℕ). c ++ text) (each.0 is), each_on ended bytes lefts mores (omega (arith, long)) each.1)

pub continue_on : (ended : List Bool) (bytes lefts mores : List (List ℕ)) → length (joined bytes lefts) ≡ length ended → MayContinue ended lefts mores → MayContinue ended (joined bytes lefts) (joined bytes mores)
continue_on [] bytes lefts mores long may = each_on [] bytes lefts mores long may
continue_on (e ∷ f ∷ ended) bytes lefts mores long may = each_on (e ∷ f ∷ ended) bytes lefts mores long may
continue_on (e ∷ []) bytes [] mores long may = absurd may
continue_on (e ∷ []) bytes (l ∷ k ∷ lefts) mores long may =
    each_continues (e ∷ []) (joined bytes (l ∷ k ∷ lefts)) (joined bytes mores) (each_on (e ∷ []) bytes (l ∷ k ∷ lefts) mores long may)
continue_on (e ∷ []) bytes (l ∷ []) [] long may = absurd may
continue_on (e ∷ []) bytes (l ∷ []) (m ∷ n ∷ mores) long may = absurd may.1
continue_on (e ∷ []) [] (l ∷ []) (m ∷ []) long may = absurd (omega (arith, long))
continue_on (e ∷ []) (c ∷ []) (l ∷ []) (m ∷ []) long may = tt
continue_on (e ∷ []) (c ∷ d ∷ bytes) (l ∷ []) (m ∷ []) long may = tt

each_long : (ended : List Bool) (lefts mores : List (List ℕ)) → EachFollows ended lefts mores → length mores ≡ length lefts
each_long [] [] [] each = refl
each_long [] [] (m ∷ mores) each = absurd each
each_long [] (l ∷ lefts) mores each = absurd each
each_long (e ∷ ended) [] mores each = absurd each
each_long (e ∷ ended) (l ∷ lefts) [] each = absurd each
each_long (e ∷ ended) (l ∷ lefts) (m ∷ mores) each = let rest = each_long ended lefts mores each.1 in omega (arith, rest)

pub continue_long : (ended : List Bool) (lefts mores : List (List ℕ)) → MayContinue ended lefts mores → length mores ≡ length lefts
continue_long [] lefts mores may = each_long [] lefts mores may
continue_long (e ∷ f ∷ ended) lefts mores may = each_long (e ∷ f ∷ ended) lefts mores may
continue_long (e ∷ []) [] mores may = absurd may
continue_long (e ∷ []) (l ∷ k ∷ lefts) mores may = each_long (e ∷ []) (l ∷ k ∷ lefts) mores may
continue_long (e ∷ []) (l ∷ []) [] may = absurd may
continue_long (e ∷ []) (l ∷ []) (m ∷ []) may = refl
continue_long (e ∷ []) (l ∷ []) (m ∷ n ∷ mores) may = absurd may.1

-- ---- a single capture

-- something that a capture may give behind what its reader has given
some_more : (over : Option (Result Tail CaptureError)) → (more : List Event) × MayGive 0 over more
some_more None = ([], tt)
some_more (Some (Ok tail)) = ([], refl)
some_more (Some (Err (refusal.RecordTooLong asked))) = (refused 0 (refusal.RecordTooLong asked) ∷ [], refl)
some_more (Some (Err refusal.Read)) = ([], tt)
some_more (Some (Err refusal.Memory)) = ([], tt)
some_more (Some (Err refusal.HeaderCut)) = ([], tt)
some_more (Some (Err refusal.BadMagic)) = ([], tt)
some_more (Some (Err refusal.BadVersion)) = ([], tt)
some_more (Some (Err (refusal.LinkType link))) = ([], tt)

-- of a single capture the records given are what was taken of it
taken_alone : (w : Waiting) (taken : List Event) (given : List Arrived) → ((events : List Event) → Continues 0 w events → merged ((taken ++ events) ∷ []) ≡ map came given ++ merged (events ∷ [])) → taken ≡ map came given
taken_alone w taken given order =
    let more = some_more w.reading.over in
    let events = map (event_of 0 w.reading.form) (waiting_in w.head) ++ more.0 in
    let goes : Continues 0 w events = record { more = more.0; is = refl; may = more.1 } in
    append_cancel_right taken (map came given) events
    (sym (merge-nil (taken ++ events)) ∙ order events goes ∙ ap (λ (es : List Event). map came given ++ es) (merge-nil events))

front_alone : (w : Waiting) (read more : List ℕ) (given list : List Arrived) (ending : Result Tail (ℕ × CaptureError)) → HasMerged (w ∷ []) (read ∷ []) given → TextsGive ((read ++ more) ∷ []) list ending → (rest : List Arrived) × (list ≡ given ++ rest)
front_alone w read more given list ending has gives = by_taken has.taken has.each (λ events goes. has.order events goes) gives.captures gives.are gives.give
  where
    by_taken : (taken : List (List Event)) → HaveTaken 0 (w ∷ []) (read ∷ []) taken → ((events : List (List Event)) → Continue 0 (w ∷ []) events → merged (joined taken events) ≡ map came given ++ merged events)
        → (captures : List Captured) → AreCaptures ((read ++ more) ∷ []) captures → Give captures list ending → (rest : List Arrived) × (list ≡ given ++ rest)
    by_taken (t ∷ []) each order (c ∷ []) are give =
        let is = taken_alone w t given (λ events goes. order (events ∷ []) (goes, tt)) in
        let rest = map (event_of 0 w.reading.form) (waiting_in w.head) ++ rest_so 0 w read more t c each.0 are.0 in
        let all = merge-nil (events_of 0 c) ∙ events_are 0 w read more t c each.0 are.0 ∙ ap (λ (es : List Event). es ++ rest) is in
        (arrivals_in rest, give.records ∙ ap arrivals_in all ∙ arrivals_first given rest)
    by_taken [] each order captures are give = absurd each
    by_taken (t ∷ u ∷ taken) each order captures are give = absurd each.1
    by_taken (t ∷ []) each order [] are give = absurd are
    by_taken (t ∷ []) each order (c ∷ d ∷ captures) are give = absurd are.1

-- all that several captures give begins with the records given, whatever may follow what was read
pub front_of : (ws : List Waiting) (reads lefts mores : List (List ℕ)) (given list : List Arrived) (ending : Result Tail (ℕ × CaptureError)) → HasMerged ws reads given → MayFollowAll ws lefts → MayContinue (map has_ended ws) lefts mores → TextsGive (joined reads mores) list ending
    → (rest : List Arrived) × (list ≡ given ++ rest)
front_of [] reads lefts mores given list ending has follow may gives = front [] reads mores given list ending has (follow_each [] lefts mores follow may) gives
front_of (w ∷ v ∷ ws) reads lefts mores given list ending has follow may gives = front (w ∷ v ∷ ws) reads mores given list ending has (follow_each (w ∷ v ∷ ws) lefts mores follow may) gives
front_of (w ∷ []) reads [] mores given list ending has follow may gives = absurd follow
front_of (w ∷ []) reads (l ∷ k ∷ lefts) mores given list ending has follow may gives = absurd follow.1
front_of (w ∷ []) reads (l ∷ []) [] given list ending has follow may gives = absurd may
front_of (w ∷ []) reads (l ∷ []) (m ∷ n ∷ mores) given list ending has follow may gives = absurd may.1
front_of (w ∷ []) [] (l ∷ []) (m ∷ []) given list ending has follow may gives = absurd (none_read has.taken has.each)
  where
    none_read : (taken : List (List Event)) → HaveTaken 0 (w ∷ []) [] taken → ⊥
    none_read [] each = each
    none_read (t ∷ taken) each = each
front_of (w ∷ []) (r ∷ q ∷ reads) (l ∷ []) (m ∷ []) given list ending has follow may gives = absurd (more_read has.taken has.each)
  where
    more_read : (taken : List (List Event)) → HaveTaken 0 (w ∷ []) (r ∷ q ∷ reads) taken → ⊥
    more_read [] each = each
    more_read (t ∷ []) each = each.1
    more_read (t ∷ u ∷ taken) each = each.1
front_of (w ∷ []) (r ∷ []) (l ∷ []) (m ∷ []) given list ending has follow may gives = front_alone w r m given list ending has gives

-- ---- texts are captures in one way

captured_is : (c d : Captured) → c.form ≡ d.form → c.records ≡ d.records → c.ending ≡ d.ending → c ≡ d
captured_is c d form records ending =
    ap (λ (f : Form). record { form = f; records = c.records; ending = c.ending }) form
    ∙ ap (λ (rs : List RecordBytes). record { form = d.form; records = rs; ending = c.ending }) records
    ∙ ap (λ (e : Result Tail CaptureError). record { form = d.form; records = d.records; ending = e }) ending

one_captures : (texts : List (List ℕ)) (cs ds : List Captured) → AreCaptures texts cs → AreCaptures texts ds → cs ≡ ds
one_captures [] [] [] are are' = refl
one_captures [] [] (d ∷ ds) are are' = absurd are'
one_captures [] (c ∷ cs) ds are are' = absurd are
one_captures (t ∷ texts) [] ds are are' = absurd are
one_captures (t ∷ texts) (c ∷ cs) [] are are' = absurd are'
one_captures (t ∷ texts) (c ∷ cs) (d ∷ ds) are are' =
    let same = one_capture t c.form d.form c.records d.records c.ending d.ending are.0 are'.0 in
    ap (λ (x : Captured). x ∷ cs) (captured_is c d same.0 same.1 same.2) ∙ ap (λ (xs : List Captured). d ∷ xs) (one_captures texts cs ds are.1 are'.1)

pub one_give : (texts : List (List ℕ)) (list other : List Arrived) (ending ending' : Result Tail (ℕ × CaptureError)) → TextsGive texts list ending → TextsGive texts other ending' → (list ≡ other) × (ending ≡ ending')
one_give texts list other ending ending' gives gives' =
    let same = one_captures texts gives.captures gives'.captures gives.are gives'.are in (
      gives.give.records ∙ ap (λ (cs : List Captured). arrivals_in (all_events cs)) same ∙ sym gives'.give.records,
      gives.give.ends ∙ ap (λ (cs : List Captured). ending_in (tail_of_all cs) (all_events cs)) same ∙ sym gives'.give.ends,
    )

-- ---- headers

captures_open : (texts : List (List ℕ)) (captures : List Captured) → AreCaptures texts captures → AreOpened texts
captures_open [] captures are = tt
captures_open (t ∷ texts) [] are = absurd are
captures_open (t ∷ texts) (c ∷ captures) are = ((c.form, capture_opens t [] c are.0), captures_open texts captures are.1)
  where
    -- a text that begins with a capture begins with its header
    capture_opens : (text more : List ℕ) (c : Captured) → IsCapture text c.form c.records c.ending → opening_of text ≡ Ok c.form
    capture_opens text more c is =
        let reading : Reading = record { form = c.form; header = is.header; count = length c.records; over = None; ahead = is.rest } in
        let given : HasGiven reading text c.records = record { read_is = is.whole; header_length = is.header_length; says = is.says; each = is.each; counted = refl; at_most = is.at_most } in
        rw (append-nil text) at (has_form reading text [] c.records given)

pub give_opened : (texts : List (List ℕ)) (list : List Arrived) (ending : Result Tail (ℕ × CaptureError)) → TextsGive texts list ending → AreOpened texts
give_opened texts list ending gives = captures_open texts gives.captures gives.are

pub reads_opened : (place : ℕ) (ws : List Waiting) (reads : List (List ℕ)) (taken : List (List Event)) → HaveTaken place ws reads taken → AreOpened reads
reads_opened place [] [] taken has = tt
reads_opened place [] (r ∷ reads) taken has = absurd has
reads_opened place (w ∷ ws) [] taken has = tt
reads_opened place (w ∷ ws) (r ∷ reads) [] has = absurd has
reads_opened place (w ∷ ws) (r ∷ reads) (t ∷ taken) has =
    ((w.reading.form, rw (append-nil r) at (has_form w.reading r [] (has.0.records ++ waiting_in w.head) has.0.given)), reads_opened (suc place) ws reads taken has.1)

-- an accepted header is accepted with more bytes after it
opened_text : (read left : List ℕ) (form : Form) → opening_of read ≡ Ok form → opening_of (read ++ left) ≡ Ok form
opened_text read left form opened =
    let c = every_capture read form opened in
    let is = c.2 in
    let reading : Reading = record { form = form; header = is.header; count = length c.0; over = None; ahead = is.rest } in
    let given : HasGiven reading read c.0 = record { read_is = is.whole; header_length = is.header_length; says = is.says; each = is.each; counted = refl; at_most = is.at_most } in
    has_form reading read left c.0 given

pub opened_longer : (reads lefts : List (List ℕ)) → AreOpened reads → AreOpened (joined reads lefts)
opened_longer [] lefts opened = tt
opened_longer (r ∷ reads) [] opened = tt
opened_longer (r ∷ reads) (l ∷ lefts) opened = ((opened.0.0, opened_text r l opened.0.0 opened.0.1), opened_longer reads lefts opened.1)

pub headers_are : (place : ℕ) (ws : List Waiting) (reads mores : List (List ℕ)) (taken : List (List Event)) → HaveTaken place ws reads taken → length mores ≡ length ws → map (take 24) (joined reads mores) ≡ map header_in ws
headers_are place [] [] mores taken has long = refl
headers_are place [] (r ∷ reads) mores taken has long = absurd has
headers_are place (w ∷ ws) [] mores [] has long = absurd has
headers_are place (w ∷ ws) [] mores (t ∷ taken) has long = absurd has
headers_are place (w ∷ ws) (r ∷ reads) mores [] has long = absurd has
headers_are place (w ∷ ws) (r ∷ reads) [] (t ∷ taken) has long = absurd (omega (arith, long))
headers_are place (w ∷ ws) (r ∷ reads) (m ∷ mores) (t ∷ taken) has long =
    ap (λ (header : List ℕ). header ∷ map (take 24) (joined reads mores)) (has_header w.reading r m (has.0.records ++ waiting_in w.head) has.0.given)
    ∙ ap (λ (headers : List (List ℕ)). w.reading.header ∷ headers) (headers_are (suc place) ws reads mores taken has.1 (omega (arith, long)))

-- ---- failures

same_lists : {X : Type 0} (xs ys : List X) → ((k : ℕ) → slice_get ys k ≡ slice_get xs k) → ys ≡ xs
same_lists [] [] same = refl
same_lists [] (y ∷ ys) same = let first = same 0 in absurd (cc)
same_lists (x ∷ xs) [] same = let first = same 0 in absurd (cc)
same_lists {X = X} (x ∷ xs) (y ∷ ys) same =
    let first : y ≡ x = let at = same 0 in cc in
    ap (λ (z : X). z ∷ ys) first ∙ ap (λ (zs : List X). x ∷ zs) (same_lists xs ys (λ k. same (suc k)))

all_same : (olds news : List ℕ) (place : ℕ) (at : ℕ) → slice_get olds place ≡ Some at → ((k : ℕ) → (k ≡ place → ⊥) → slice_get news k ≡ slice_get olds k) → ((new : ℕ) → slice_get news place ≡ Some new → new ≡ at) → length news ≡ length olds → news ≡ olds
all_same olds news place at was others here long = same_lists olds news (λ k. elim (cases_eq k place) [
  | inl same ↦
      (let now = some_at olds news place at long was in
      rw same (now.1 ∙ ap (λ (n : ℕ). Some n) (here now.0 now.1) ∙ sym was))
  | inr other ↦ others k other
])

pub reading_fails : (ws : List Waiting) (olds news : List ℕ) (place : ℕ) (e : CaptureError) → StopsAt ws (place, e) → length olds ≡ length ws → length news ≡ length olds → FailsAt olds news (place, e) → ReadingFails olds news (place, e)
reading_fails ws olds news place e stop long same fails = by_error e (λ old new was is. fails.here old new was is)
  where
    was : (old : ℕ) × (slice_get olds place ≡ Some old)
    was = some_at ws olds place stop.at long stop.stands

    now : (new : ℕ) × (slice_get news place ≡ Some new)
    now = some_at olds news place was.0 same was.1

    by_error : (e : CaptureError) → ((old new : ℕ) → slice_get olds place ≡ Some old → slice_get news place ≡ Some new → NextFails e old new) → ReadingFails olds news (place, e)
    by_error refusal.Read here = record { old = was.0; new = now.0; was = was.1; is = now.1; rose = here was.0 now.0 was.1 now.1; others = fails.others }
    by_error refusal.Memory here = all_same olds news place was.0 was.1 fails.others (λ new is. here was.0 new was.1 is) same
    by_error (refusal.RecordTooLong asked) here = all_same olds news place was.0 was.1 fails.others (λ new is. here was.0 new was.1 is) same
    by_error refusal.HeaderCut here = absurd (here was.0 now.0 was.1 now.1)
    by_error refusal.BadMagic here = absurd (here was.0 now.0 was.1 now.1)
    by_error refusal.BadVersion here = absurd (here was.0 now.0 was.1 now.1)
    by_error (refusal.LinkType link) here = absurd (here was.0 now.0 was.1 now.1)
