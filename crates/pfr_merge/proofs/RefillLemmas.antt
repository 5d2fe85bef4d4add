-- One capture of a merge reads its next record.
use Rattle.std.proofs.Common.{◌≡◌, ◌∙◌, ℕ, ◌+◌, List, [], ◌∷◌, ◌++◌, Option, Some, None, option_map, is_some, IfSome, false, Result, Ok, Err, refl, sym, ap, subst, arith}
use Rattle.std.proofs.lemmas.List.{append_assoc, append-nil}
use Rattle.std.specs.List.{flat_map}
use Rattle.pfr_capture.specs.declared.capture.CaptureError.{CaptureError}
use Rattle.pfr_capture.specs.declared.capture.CaptureError.TheVariants.{RecordTooLong}
use Rattle.pfr_capture.specs.declared.capture.Record.{Record}
use Rattle.pfr_capture.specs.declared.capture.Tail.{Tail}
use Rattle.pfr_capture.specs.Reading.{Answers, EndsCapture, EndsReading, HasGiven, Reading, ReadsOn, Refuses, answer_again, bytes_of, given_by}
use Rattle.pfr_capture.specs.Records.{EndsAs, IsCapture, RecordBytes, text_of}
use Rattle.pfr_capture.proofs.CaptureLemmas.{same_rests}
use Rattle.pfr_merge.specs.Arrivals.{Event}
use Rattle.pfr_merge.specs.MergeReading.{Continues, FollowsOver, MayGive, RefillCounts, Refilled, Waiting}

-- ---- nothing was read, and two calls

pub refilled_none : (w : Waiting) (left : List ℕ) → Refilled w w left left
refilled_none w left = record {
  came = [];
  gave = refl;
  form_same = refl;
  on = λ read records given. rw append-nil given;
  continues = λ place events goes. goes;
  follows = λ read records given follows. follows;
}

pub refilled_twice : (a b c : Waiting) (before mid left : List ℕ) → Refilled a b before mid → Refilled b c mid left → Refilled a c before left
refilled_twice a b c before mid left first second = record {
  came = first.came ++ second.came;
  gave = first.gave ∙ (rw second.gave (sym (append_assoc first.came second.came left)));
  form_same = second.form_same ∙ first.form_same;
  on = λ read records given. rw (← append_assoc read first.came second.came) (second.on (read ++ first.came) records (first.on read records given));
  continues = λ place events goes. first.continues place events (second.continues place events goes);
  follows = λ read records given follows. second.follows (read ++ first.came) records (first.on read records given) (first.follows read records given follows);
}

-- ---- a call of the reader

-- how a capture ends, if its reading is over
abbrev pub EndsOver : Reading → List ℕ → Option (Result Tail CaptureError) → Type 0
EndsOver reading before None = Unit {0}
EndsOver reading before (Some (Ok tail)) = EndsCapture reading before (Ok tail)
EndsOver reading before (Some (Err (RecordTooLong asked))) = EndsCapture reading before (Err (RecordTooLong asked))
EndsOver reading before (Some (Err e)) = Unit {0}

-- a capture ends as the bytes say that were not given
ends_as : (reading : Reading) (read more : List ℕ) (records : List RecordBytes) (ending : Result Tail CaptureError) → HasGiven reading read records → IsCapture (read ++ more) reading.form records ending → EndsAs reading.form.order reading.count (reading.ahead ++ more) ending
ends_as reading read more records ending h c =
    let text : reading.header ++ (flat_map text_of records ++ (reading.ahead ++ more)) ≡ c.header ++ (flat_map text_of records ++ c.rest) =
    ap (λ (t : List ℕ). reading.header ++ t) (sym (append_assoc (flat_map text_of records) reading.ahead more))
    ∙ sym (append_assoc reading.header (flat_map text_of records ++ reading.ahead) more)
    ∙ ap (λ (t : List ℕ). t ++ more) (sym h.read_is)
    ∙ c.whole in
    let long = h.header_length ∙ sym c.header_length in
    let bodies = same_rests reading.header c.header _ _ text long in
    let rests : reading.ahead ++ more ≡ c.rest = same_rests (flat_map text_of records) (flat_map text_of records) _ _ bodies refl in
    rw (rests, ← h.counted) c.ends

follows_over : (old new : Reading) (before left : List ℕ) (over : Option (Result Tail CaptureError)) → ((ending : Result Tail CaptureError) → EndsCapture old before ending → EndsAs new.form.order new.count (new.ahead ++ left) ending) → EndsOver old before over → FollowsOver new left over
follows_over old new before left None says ends = tt
follows_over old new before left (Some (Ok tail)) says ends = says (Ok tail) ends
follows_over old new before left (Some (Err (RecordTooLong asked))) says ends = says (Err (RecordTooLong asked)) ends
follows_over old new before left (Some (Err e)) says ends = tt

open_goes : (old new : Reading) (head : Option RecordBytes) (place : ℕ) (events : List Event) → old.over ≡ None → Continues place (record { reading = new; head = head }) events → Continues place (record { reading = old; head = None }) events
open_goes old new head place events over goes = record { more = events; is = refl; may = subst (λ (o : Option (Result Tail CaptureError)). MayGive place o events) (sym over) tt }

-- it gave a record
reads_record : (old new : Reading) (r : RecordBytes) (before left : List ℕ) → old.over ≡ None → new.over ≡ None → new.form ≡ old.form → ReadsOn old new before left (r ∷ []) → Refilled (record { reading = old; head = None }) (record { reading = new; head = Some r }) before left
reads_record old new r before left over over' form reads = record {
  came = reads.came;
  gave = reads.gave;
  form_same = form;
  on = λ read records given. rw append-nil at (reads.on read (records ++ []) given);
  continues = λ place events goes. open_goes old new (Some r) place events over goes;
  follows = λ read records given follows. subst (λ (o : Option (Result Tail CaptureError)). FollowsOver new left o) (sym over') tt;
}

-- it gave none
reads_none : (old new : Reading) (before left : List ℕ) → old.over ≡ None → EndsOver old before new.over → new.form ≡ old.form → ReadsOn old new before left [] → Refilled (record { reading = old; head = None }) (record { reading = new; head = None }) before left
reads_none old new before left over ends form reads = record {
  came = reads.came;
  gave = reads.gave;
  form_same = form;
  on = λ read records given. subst (HasGiven new (read ++ reads.came)) (append-nil (records ++ [])) (reads.on read (records ++ []) given);
  continues = λ place events goes. open_goes old new None place events over goes;
  follows = λ read records given follows.
      let given' : HasGiven old read records = rw append-nil at given in
      let on : HasGiven new (read ++ reads.came) records = rw append-nil at (reads.on read records given') in
      follows_over old new before left new.over
      (λ ending ends'.
      let whole : IsCapture (read ++ before) old.form records ending = ends' read records given' in
      let text : read ++ before ≡ (read ++ reads.came) ++ left = ap (λ (t : List ℕ). read ++ t) reads.gave ∙ sym (append_assoc read reads.came left) in
      ends_as new (read ++ reads.came) left records ending on (rw (← text, form) whole))
      ends;
}

-- ---- by the answer

-- what the reader promises of a call once its reading is over, and until then
module _ {S : Type 0} (unread : S → List ℕ) (old new : Reading) (s t : S) where
  abbrev pub Again : Result (Option Record) CaptureError → Option (Result Tail CaptureError) → Type 0
  Again result over = IfSome over (λ over. (result ≡ answer_again over) × (new ≡ old) × (t ≡ s))

  ok_open : (found : Option Record) → old.over ≡ None → new.form ≡ old.form → Answers old new (Ok found) → ReadsOn old new (unread s) (unread t) (given_by (Ok found)) → EndsReading old new (unread s) found → Refilled (record { reading = old; head = None }) (record { reading = new; head = option_map bytes_of found }) (unread s) (unread t)
  ok_open (Some r) over form answers reads ends = reads_record old new (bytes_of r) (unread s) (unread t) over answers.0 form reads
  ok_open None over form (tail, over', count) reads ends =
      reads_none old new (unread s) (unread t) over (subst (λ (o : Option (Result Tail CaptureError)). EndsOver old (unread s) o) (sym over') (rw over' at ends)) form reads

  ends_err : (e : CaptureError) → Refuses old (unread s) e → EndsOver old (unread s) (Some (Err e))
  ends_err (RecordTooLong asked) refuses = refuses
  ends_err e refuses = tt

  err_open : (e : CaptureError) → old.over ≡ None → new.form ≡ old.form → Answers old new (Err e) → ReadsOn old new (unread s) (unread t) [] → Refuses old (unread s) e → Refilled (record { reading = old; head = None }) (record { reading = new; head = None }) (unread s) (unread t)
  err_open e over form answers reads refuses =
      reads_none old new (unread s) (unread t) over (subst (λ (o : Option (Result Tail CaptureError)). EndsOver old (unread s) o) (sym answers.0) (ends_err e refuses)) form reads

  over_stays : (over : Result Tail CaptureError) → new ≡ old → t ≡ s → Refilled (record { reading = old; head = None }) (record { reading = new; head = None }) (unread s) (unread t)
  over_stays over same same' = rw (same, same') (refilled_none (record { reading = old; head = None }) (unread s))

  ok_by : (found : Option Record) (over : Option (Result Tail CaptureError)) → old.over ≡ over → Again (Ok found) over → new.form ≡ old.form → (old.over ≡ None → Answers old new (Ok found)) → (old.over ≡ None → ReadsOn old new (unread s) (unread t) (given_by (Ok found))) → (old.over ≡ None → EndsReading old new (unread s) found) → Refilled (record { reading = old; head = None }) (record { reading = new; head = option_map bytes_of found }) (unread s) (unread t)
  ok_by found None is again form answers reads ends = ok_open found is form (answers is) (reads is) (ends is)
  ok_by (Some r) (Some (Ok tail)) is again form answers reads ends = let answer = again.0 in absurd (cc)
  ok_by (Some r) (Some (Err e)) is again form answers reads ends = let answer = again.0 in absurd (cc)
  ok_by None (Some over) is again form answers reads ends = over_stays over again.1 again.2

  err_by : (e : CaptureError) (over : Option (Result Tail CaptureError)) → old.over ≡ over → Again (Err e) over → new.form ≡ old.form → (old.over ≡ None → Answers old new (Err e)) → (old.over ≡ None → ReadsOn old new (unread s) (unread t) []) → (old.over ≡ None → Refuses old (unread s) e) → Refilled (record { reading = old; head = None }) (record { reading = new; head = None }) (unread s) (unread t)
  err_by e None is again form answers reads refuses = err_open e is form (answers is) (reads is) (refuses is)
  err_by e (Some over) is again form answers reads refuses = over_stays over again.1 again.2

  pub ok_refills : (found head : Option Record) → is_some head ≡ false → Again (Ok found) old.over → new.form ≡ old.form → (old.over ≡ None → Answers old new (Ok found)) → (old.over ≡ None → ReadsOn old new (unread s) (unread t) (given_by (Ok found))) → (old.over ≡ None → EndsReading old new (unread s) found) → Refilled (record { reading = old; head = option_map bytes_of head }) (record { reading = new; head = option_map bytes_of found }) (unread s) (unread t)
  ok_refills found None none again form answers reads ends = ok_by found old.over refl again form answers reads ends
  ok_refills found (Some r) none again form answers reads ends = absurd (cc)

  pub err_refills : (e : CaptureError) (head : Option Record) → is_some head ≡ false → Again (Err e) old.over → new.form ≡ old.form → (old.over ≡ None → Answers old new (Err e)) → (old.over ≡ None → ReadsOn old new (unread s) (unread t) []) → (old.over ≡ None → Refuses old (unread s) e) → Refilled (record { reading = old; head = option_map bytes_of head }) (record { reading = new; head = option_map bytes_of head }) (unread s) (unread t)
  err_refills e None none again form answers reads refuses = err_by e old.over refl again form answers reads refuses
  err_refills e (Some r) none again form answers reads refuses = absurd (cc)

  -- ---- counts

  ok_counts_open : (found : Option Record) → Answers old new (Ok found) → RefillCounts (record { reading = old; head = None }) (record { reading = new; head = option_map bytes_of found })
  ok_counts_open (Some r) answers =
      let below = answers.1 in
      let more = answers.2 in
      record { same = omega (arith, more); few = λ few. omega (arith, below, more) }
  ok_counts_open None (tail, over, count) = record { same = ap (λ (n : ℕ). n + 0) count; few = λ few. rw count few }

  counts_stay : (head : Option Record) → new ≡ old → RefillCounts (record { reading = old; head = option_map bytes_of head }) (record { reading = new; head = option_map bytes_of head })
  counts_stay head same = rw same (record { same = refl; few = λ few. few })

  ok_counts_by : (found : Option Record) (over : Option (Result Tail CaptureError)) → old.over ≡ over → Again (Ok found) over → (old.over ≡ None → Answers old new (Ok found)) → RefillCounts (record { reading = old; head = None }) (record { reading = new; head = option_map bytes_of found })
  ok_counts_by found None is again answers = ok_counts_open found (answers is)
  ok_counts_by (Some r) (Some (Ok tail)) is again answers = let answer = again.0 in absurd (cc)
  ok_counts_by (Some r) (Some (Err e)) is again answers = let answer = again.0 in absurd (cc)
  ok_counts_by None (Some over) is again answers = counts_stay None again.1

  pub ok_counts : (found head : Option Record) → is_some head ≡ false → Again (Ok found) old.over → (old.over ≡ None → Answers old new (Ok found)) → RefillCounts (record { reading = old; head = option_map bytes_of head }) (record { reading = new; head = option_map bytes_of found })
  ok_counts found None none again answers = ok_counts_by found old.over refl again answers
  ok_counts found (Some r) none again answers = absurd (cc)

  err_counts_by : (e : CaptureError) (head : Option Record) (over : Option (Result Tail CaptureError)) → old.over ≡ over → Again (Err e) over → (old.over ≡ None → Answers old new (Err e)) → RefillCounts (record { reading = old; head = option_map bytes_of head }) (record { reading = new; head = option_map bytes_of head })
  err_counts_by e head None is again answers = let count = (answers is).1 in record { same = rw count refl; few = λ few. rw count few }
  err_counts_by e head (Some over) is again answers = counts_stay head again.1

  pub err_counts : (e : CaptureError) (head : Option Record) → Again (Err e) old.over → (old.over ≡ None → Answers old new (Err e)) → RefillCounts (record { reading = old; head = option_map bytes_of head }) (record { reading = new; head = option_map bytes_of head })
  err_counts e head again answers = err_counts_by e head old.over refl again answers
