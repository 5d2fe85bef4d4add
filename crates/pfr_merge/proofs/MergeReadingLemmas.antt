-- What a merge has given, from one call to the next.
use Rattle.std.proofs.Common.{◌≡◌, ◌∙◌, ℕ, zero, suc, ◌+◌, true, false, List, [], ◌∷◌, ◌++◌, map, set, Option, Some, None, IfNone, IfSome, option_map, slice_get, inl, inr, Result, Ok, Err, refl, sym, ap, subst, arith}
use Rattle.std.proofs.lemmas.Bool.{cases_eq}
use Rattle.std.proofs.lemmas.List.{append_assoc, append-nil, map-append, set-set}
use Rattle.pfr_capture.specs.declared.capture.CaptureError.{CaptureError}
use Rattle.pfr_capture.specs.declared.capture.Form.{Form}
use Rattle.pfr_capture.specs.declared.capture.Record.{Record}
use Rattle.pfr_capture.specs.declared.capture.Tail.{Tail}
use Rattle.pfr_capture.specs.Reading.{bytes_of}
use Rattle.pfr_capture.specs.Records.{RecordBytes}
use Rattle.pfr_merge.specs.Arrivals.{Arrived, Event, arrived, came, comes_before, event_of, is_before, time_of}
use Rattle.pfr_merge.specs.Merging.{IsNext, merged}
use Rattle.pfr_merge.specs.MergeReading.{AllRefilled, Answer, AreOver, AreSettled, Continue, Continues, HasForm, HasMerged, HasPassedOn, HasTaken, HaveTaken, IsOverWith, IsSettled, MayFollowAll, MergeReads, MergesOn, NoneRefused, Refilled, StopsAt, Waiting, form_in, header_in, joined, records_in, time_in, waiting_in}
use Rattle.pfr_merge.specs.MergeStepping.{HaveNone, TakesNext}
use Rattle.pfr_merge.proofs.CountLemmas.{passes_taken}
use Rattle.pfr_merge.proofs.MergeLemmas.{merged_next}
use Rattle.pfr_merge.proofs.SetLemmas.{map_at, map_kept, set_other, set_same, set_self}

-- ---- all captures read on

takes_on : (place : ℕ) (old new : Waiting) (before left read : List ℕ) (taken : List Event) → (r : Refilled old new before left) → HasTaken place old read taken → HasTaken place new (read ++ r.came) taken
takes_on place old new before left read taken r has = record {
  records = has.records;
  taken_is = rw r.form_same has.taken_is;
  given = r.on read has.records has.given;
}

-- what all captures read, and what that does to what was taken and may follow
record ReadOn (place : ℕ) (olds news : List Waiting) (befores lefts : List (List ℕ)) : Type 0 where
  bytes : List (List ℕ)
  gave : befores ≡ joined bytes lefts
  taken_on : (reads : List (List ℕ)) (taken : List (List Event)) → HaveTaken place olds reads taken → HaveTaken place news (joined reads bytes) taken
  goes_on : (events : List (List Event)) → Continue place news events → Continue place olds events
  follow_on : (reads : List (List ℕ)) (taken : List (List Event)) → HaveTaken place olds reads taken → MayFollowAll olds befores → MayFollowAll news lefts

module _ (place : ℕ) (old new : Waiting) (olds news : List Waiting) (before left : List ℕ) (befores lefts : List (List ℕ)) (r : Refilled old new before left) (more : ReadOn (suc place) olds news befores lefts) where
  taken_first : (reads : List (List ℕ)) (taken : List (List Event)) → HaveTaken place (old ∷ olds) reads taken → HaveTaken place (new ∷ news) (joined reads (r.came ∷ more.bytes)) taken
  taken_first [] [] has = absurd has
  taken_first [] (t ∷ taken) has = absurd has
  taken_first (read ∷ reads) [] has = absurd has
  taken_first (read ∷ reads) (t ∷ taken) has = (takes_on place old new before left read t r has.0, more.taken_on reads taken has.1)

  goes_first : (events : List (List Event)) → Continue place (new ∷ news) events → Continue place (old ∷ olds) events
  goes_first [] goes = absurd goes
  goes_first (e ∷ events) goes = (r.continues place e goes.0, more.goes_on events goes.1)

  follow_first : (reads : List (List ℕ)) (taken : List (List Event)) → HaveTaken place (old ∷ olds) reads taken → MayFollowAll (old ∷ olds) (before ∷ befores) → MayFollowAll (new ∷ news) (left ∷ lefts)
  follow_first [] [] has follow = absurd has
  follow_first [] (t ∷ taken) has follow = absurd has
  follow_first (read ∷ reads) [] has follow = absurd has
  follow_first (read ∷ reads) (t ∷ taken) has follow = (r.follows read has.0.records has.0.given follow.0, more.follow_on reads taken has.1 follow.1)

none_taken : (place : ℕ) (reads : List (List ℕ)) (taken : List (List Event)) → HaveTaken place [] reads taken → HaveTaken place [] (joined reads []) taken
none_taken place [] [] has = tt
none_taken place [] (t ∷ taken) has = absurd has
none_taken place (read ∷ reads) taken has = absurd has

read_on : (place : ℕ) (olds news : List Waiting) (befores lefts : List (List ℕ)) → AllRefilled olds news befores lefts → ReadOn place olds news befores lefts
read_on place [] [] [] [] all = record {
  bytes = [];
  gave = refl;
  taken_on = none_taken place;
  goes_on = λ events goes. goes;
  follow_on = λ reads taken has follow. tt;
}
read_on place (old ∷ olds) (new ∷ news) (before ∷ befores) (left ∷ lefts) all =
    let more = read_on (suc place) olds news befores lefts all.1 in
    let first = all.0 in
    record {
      bytes = first.came ∷ more.bytes;
      gave = ap (λ (b : List ℕ). b ∷ befores) first.gave ∙ ap (λ (bs : List (List ℕ)). (first.came ++ left) ∷ bs) more.gave;
      taken_on = taken_first place old new olds news before left befores lefts first more;
      goes_on = goes_first place old new olds news before left befores lefts first more;
      follow_on = follow_first place old new olds news before left befores lefts first more;
    }
read_on place olds news befores lefts all = absurd all

pub merges_none : (olds news : List Waiting) (befores lefts : List (List ℕ)) → AllRefilled olds news befores lefts → MergesOn olds news befores lefts []
merges_none olds news befores lefts all =
    let so = read_on 0 olds news befores lefts all in
    record {
      came = so.bytes;
      gave = so.gave;
      on = λ reads given has. record {
        taken = has.taken;
        each = so.taken_on reads has.taken has.each;
        order = λ events goes. rw append-nil (has.order events (so.goes_on events goes));
      };
      follow = λ reads given has follow. so.follow_on reads has.taken has.each follow;
    }

-- ---- two calls, one after the other

pub joined_assoc : {X : Type 0} (a b c : List (List X)) → joined (joined a b) c ≡ joined a (joined b c)
joined_assoc [] b c = refl
joined_assoc (x ∷ a) [] c = refl
joined_assoc (x ∷ a) (y ∷ b) [] = refl
joined_assoc {X = X} (x ∷ a) (y ∷ b) (z ∷ c) =
    ap (λ (first : List X). first ∷ joined (joined a b) c) (append_assoc x y z) ∙ ap (λ (rest : List (List X)). (x ++ (y ++ z)) ∷ rest) (joined_assoc a b c)

pub merges_twice : (olds mids news : List Waiting) (befores middles lefts : List (List ℕ)) (one other : List Arrived) → MergesOn olds mids befores middles one → MergesOn mids news middles lefts other → MergesOn olds news befores lefts (one ++ other)
merges_twice olds mids news befores middles lefts one other first second = record {
  came = joined first.came second.came;
  gave = first.gave ∙ ap (joined first.came) second.gave ∙ sym (joined_assoc first.came second.came lefts);
  on = λ reads given has.
      let reads_are = joined_assoc reads first.came second.came in
      let list_is = append_assoc given one other in
      let on = second.on (joined reads first.came) (given ++ one) (first.on reads given has) in
      subst (λ (rs : List (List ℕ)). HasMerged news rs (given ++ (one ++ other))) reads_are (subst (λ (list : List Arrived). HasMerged news (joined (joined reads first.came) second.came) list) list_is on);
  follow = λ reads given has follow.
      second.follow (joined reads first.came) (given ++ one) (first.on reads given has) (first.follow reads given has follow);
}

-- ---- a record is taken

-- the capture without the record that waited
abbrev emptied : Waiting → Waiting
emptied w = record w { head = None }

module _ (w : Waiting) (r : RecordBytes) (head : w.head ≡ Some r) where
  -- of the capture itself
  takes_one : (place : ℕ) (read : List ℕ) (taken : List Event) → HasTaken place w read taken → HasTaken place (emptied w) read (taken ++ event_of place w.reading.form r ∷ [])
  takes_one place read taken has = record {
    records = has.records ++ r ∷ [];
    taken_is = rw has.taken_is (sym (map-append (event_of place w.reading.form) has.records (r ∷ [])));
    given = rw append-nil (rw head at has.given);
  }

  gives_one : (place : ℕ) (events : List Event) → Continues place (emptied w) events → Continues place w (event_of place w.reading.form r ∷ events)
  gives_one place events goes = record {
    more = goes.more;
    is = rw head (ap (λ (es : List Event). event_of place w.reading.form r ∷ es) goes.is);
    may = goes.may;
  }

  -- and of all, if it stands at place `k` and the first one at `place`
  abbrev Taken : ℕ → List Waiting → ℕ → ℕ → List (List ℕ) → List (List Event) → Type 0
  Taken place ws k at reads taken =
      (t : List Event) × (slice_get taken k ≡ Some t) × HaveTaken place (set ws k (emptied w)) reads (set taken k (t ++ event_of at w.reading.form r ∷ []))

  all_take : (ws : List Waiting) (k place at : ℕ) (reads : List (List ℕ)) (taken : List (List Event)) → at ≡ place + k → slice_get ws k ≡ Some w → HaveTaken place ws reads taken → Taken place ws k at reads taken
  all_take [] k place at reads taken is stands has = absurd (cc)
  all_take (u ∷ ws) k place at [] [] is stands has = absurd has
  all_take (u ∷ ws) k place at [] (t ∷ taken) is stands has = absurd has
  all_take (u ∷ ws) k place at (read ∷ reads) [] is stands has = absurd has
  all_take (u ∷ ws) zero place at (read ∷ reads) (t ∷ taken) is stands has =
      let same : u ≡ w = cc in
      let here : at ≡ place = omega arith in
      (t, refl, rw here (takes_one place read t (rw same at has.0), has.1))
  all_take (u ∷ ws) (suc k) place at (read ∷ reads) (t ∷ taken) is stands has =
      let more = all_take ws k (suc place) at reads taken (omega arith) stands has.1 in
      (more.0, more.1, (has.0, more.2))

  abbrev Given : ℕ → List Waiting → ℕ → ℕ → List (List Event) → Type 0
  Given place ws k at events =
      (f : List Event) × (slice_get events k ≡ Some f) × Continue place ws (set events k (event_of at w.reading.form r ∷ f))

  all_give : (ws : List Waiting) (k place at : ℕ) (events : List (List Event)) → at ≡ place + k → slice_get ws k ≡ Some w → Continue place (set ws k (emptied w)) events → Given place ws k at events
  all_give [] k place at events is stands goes = absurd (cc)
  all_give (u ∷ ws) zero place at [] is stands goes = absurd goes
  all_give (u ∷ ws) (suc k) place at [] is stands goes = absurd goes
  all_give (u ∷ ws) zero place at (f ∷ events) is stands goes =
      let same : u ≡ w = cc in
      let here : at ≡ place = omega arith in
      (f, refl, rw (here, same) (gives_one place f goes.0, goes.1))
  all_give (u ∷ ws) (suc k) place at (f ∷ events) is stands goes =
      let more = all_give ws k (suc place) at events (omega arith) stands goes.1 in
      (more.0, more.1, (goes.0, more.2))

-- one event moves from what is still to come to what was taken
moved : (taken events : List (List Event)) (k : ℕ) (t f : List Event) (x : Event) → slice_get taken k ≡ Some t → slice_get events k ≡ Some f → joined (set taken k (t ++ x ∷ [])) events ≡ joined taken (set events k (x ∷ f))
moved [] events k t f x at from = absurd (cc)
moved (u ∷ taken) [] k t f x at from = absurd (cc)
moved (u ∷ taken) (g ∷ events) zero t f x at from =
    let same : u ≡ t = cc in
    let same' : g ≡ f = cc in
    ap (λ (first : List Event). first ∷ joined taken events) (rw (← same, ← same') (append_assoc u (x ∷ []) g))
moved (u ∷ taken) (g ∷ events) (suc k) t f x at from = ap (λ (rest : List (List Event)). (u ++ g) ∷ rest) (moved taken events k t f x at from)

-- ---- which event is next

-- what a settled capture gives next is its record that waits
abbrev pub IsWaiting : Waiting → Event → Type 0
IsWaiting w y = (a : Arrived) × (y ≡ came a) × (time_in w ≡ Some a.time)

waits_by : (place : ℕ) (w : Waiting) (head : Option RecordBytes) (y : Event) (ys more : List Event) → w.head ≡ head → y ∷ ys ≡ map (event_of place w.reading.form) (waiting_in head) ++ more → (head ≡ None → more ≡ []) → IsWaiting w y
waits_by place w (Some r) y ys more is goes none =
    let same : y ≡ event_of place w.reading.form r = cc in
    (arrived place w.reading.form r, same, ap (option_map (time_of w.reading.form)) is)
waits_by place w None y ys more is goes none =
    let ended = none refl in
    absurd (cc)

ended_none : (place : ℕ) (w : Waiting) (y : Event) (ys : List Event) → IsSettled w → (goes : Continues place w (y ∷ ys)) → w.head ≡ None → goes.more ≡ []
ended_none place w y ys settled goes none =
    let ended = rw none at settled in
    rw ended.1 at goes.may

pub waits_next : (place : ℕ) (w : Waiting) (y : Event) (ys : List Event) → IsSettled w → Continues place w (y ∷ ys) → IsWaiting w y
waits_next place w y ys settled goes = waits_by place w w.head y ys goes.more refl goes.is (ended_none place w y ys settled goes)

-- the capture that gives events at a place
abbrev pub Gives : ℕ → List Waiting → ℕ → List Event → Type 0
Gives place ws k events = (w : Waiting) × (slice_get ws k ≡ Some w) × Continues (place + k) w events

pub gives_at : (place : ℕ) (ws : List Waiting) (lists : List (List Event)) (k : ℕ) (events : List Event) → Continue place ws lists → slice_get lists k ≡ Some events → Gives place ws k events
gives_at place ws [] k events goes at = absurd (cc)
gives_at place [] (e ∷ lists) k events goes at = absurd goes
gives_at place (w ∷ ws) (e ∷ lists) zero events goes at =
    let same : e ≡ events = cc in
    let here : place + 0 ≡ place = omega arith in
    (w, refl, rw (here, ← same) goes.0)
gives_at place (w ∷ ws) (e ∷ lists) (suc k) events goes at =
    let more = gives_at (suc place) ws lists k events goes.1 at in
    let there : place + suc k ≡ suc place + k = omega arith in
    (more.0, more.1, rw there more.2)

came_before : (a b : Arrived) → is_before a.time b.time ≡ true → comes_before (came a) (came b) ≡ true
unfolding comes_before
came_before a b before = before

came_no_sooner : (a b : Arrived) → is_before a.time b.time ≡ false → comes_before (came a) (came b) ≡ false
unfolding comes_before
came_no_sooner a b before = before

-- the record that is taken is the next event of all that the captures may give
takes_the_next : (old new : List Waiting) (place : ℕ) (r : Record) (events : List (List Event)) (f : List Event) → (t : TakesNext old new place r) → AreSettled old → Continue 0 old (set events place (event_of place t.from.reading.form (bytes_of r) ∷ f)) → slice_get events place ≡ Some f → IsNext (set events place (event_of place t.from.reading.form (bytes_of r) ∷ f)) place (event_of place t.from.reading.form (bytes_of r)) f
takes_the_next old new place r events f t settled goes at = record {
  stands = set_same events place f (event_of place t.from.reading.form (bytes_of r) ∷ f) at;
  first = λ k y ys below there.
      let gives = gives_at 0 old _ k (y ∷ ys) goes there in
      let waits = waits_next _ gives.0 y ys (settled k gives.0 gives.1) gives.2 in
      rw waits.1 (came_before (arrived place t.from.reading.form (bytes_of r)) waits.0 (t.first k gives.0 waits.0.time below gives.1 waits.2));
  least = λ k y ys above there.
      let gives = gives_at 0 old _ k (y ∷ ys) goes there in
      let waits = waits_next _ gives.0 y ys (settled k gives.0 gives.1) gives.2 in
      rw waits.1 (came_no_sooner waits.0 (arrived place t.from.reading.form (bytes_of r)) (t.least k gives.0 waits.0.time above gives.1 waits.2));
}

-- ---- the record that a call gives

given_one : (old new : List Waiting) (place : ℕ) (r : Record) (reads : List (List ℕ)) (given : List Arrived) → (t : TakesNext old new place r) → AreSettled old → HasMerged old reads given → HasMerged new reads (given ++ arrived place t.from.reading.form (bytes_of r) ∷ [])
given_one old new place r reads given t settled has =
    let x = event_of place t.from.reading.form (bytes_of r) in
    let takes = all_take t.from (bytes_of r) t.head old place 0 place reads has.taken (omega arith) t.stands has.each in
    rw t.rest
    (record {
      taken = set has.taken place (takes.0 ++ x ∷ []);
      each = takes.2;
      order = λ events goes.
          let gives = all_give t.from (bytes_of r) t.head old place 0 place events (omega arith) t.stands goes in
          let before = set events place (x ∷ gives.0) in
          let next = merged_next before place x gives.0 (takes_the_next old new place r events gives.0 t settled gives.2 gives.1) in
          let left : set before place gives.0 ≡ events = set-set events place (x ∷ gives.0) gives.0 ∙ set_self events place gives.0 gives.1 in
          ap merged (moved has.taken events place takes.0 gives.0 x takes.1 gives.1)
          ∙ has.order before gives.2
          ∙ ap (λ (es : List Event). map came given ++ es) (next ∙ ap (λ (es : List (List Event)). x ∷ merged es) left)
          ∙ sym (append_assoc (map came given) (x ∷ []) (merged events))
          ∙ ap (λ (es : List Event). es ++ merged events) (sym (map-append came given (arrived place t.from.reading.form (bytes_of r) ∷ [])));
    })

follow_one : (ws : List Waiting) (k : ℕ) (w : Waiting) (lefts : List (List ℕ)) → slice_get ws k ≡ Some w → MayFollowAll ws lefts → MayFollowAll (set ws k (emptied w)) lefts
follow_one [] k w lefts at follow = follow
follow_one (u ∷ ws) zero w [] at follow = absurd follow
follow_one (u ∷ ws) (suc k) w [] at follow = absurd follow
follow_one (u ∷ ws) zero w (left ∷ lefts) at follow =
    let same : u ≡ w = cc in
    (rw same at follow.0, follow.1)
follow_one (u ∷ ws) (suc k) w (left ∷ lefts) at follow = (follow.0, follow_one ws k w lefts at follow.1)

pub merges_one : (olds mids news : List Waiting) (befores lefts : List (List ℕ)) (place : ℕ) (r : Record) (form : Form) → AllRefilled olds mids befores lefts → AreSettled mids → TakesNext mids news place r → map form_in mids ≡ map form_in olds → slice_get (map form_in olds) place ≡ Some form → MergesOn olds news befores lefts (arrived place form (bytes_of r) ∷ [])
merges_one olds mids news befores lefts place r form all settled t forms at =
    let none = merges_none olds mids befores lefts all in
    let there : slice_get (map form_in olds) place ≡ Some t.from.reading.form = rw (← forms) (map_at form_in mids place t.from t.stands) in
    let is : t.from.reading.form ≡ form = cc in
    rw (← is)
    (record {
      came = none.came;
      gave = none.gave;
      on = λ reads given has. given_one mids news place r (joined reads none.came) given t settled (rw append-nil at (none.on reads given has));
      follow = λ reads given has follow. rw t.rest (follow_one mids place t.from lefts t.stands (none.follow reads given has follow));
    })

-- ---- the end

over_by : (w : Waiting) → IsSettled w → w.head ≡ None → (w.head ≡ None) × (tail : Tail) × (w.reading.over ≡ Some (Ok tail))
over_by w settled none =
    let ended = rw none at settled in
    (none, ended.0, ended.1)

pub are_over : (ws : List Waiting) → AreSettled ws → HaveNone ws → AreOver ws
are_over ws settled none = λ k w at. over_by w (settled k w at) (none k w at)

pub over_settled : (ws : List Waiting) → AreOver ws → AreSettled ws
over_settled ws over =
    λ k w at.
    let so = over k w at in
    subst (λ (head : Option RecordBytes). IsSettled (record w { head = head })) (sym so.0) (so.1, so.2)

running_by : (w : Waiting) (head : Option RecordBytes) (e : CaptureError) → w.head ≡ head → IsSettled w → w.reading.over ≡ Some (Err e) → ⊥
running_by w None e is settled over =
    let ended = rw is at settled in
    let well = ended.1 in
    absurd (cc)
running_by w (Some r) e is settled over =
    let open' = rw is at settled in
    absurd (cc)

-- what is settled wasn't refused
settled_running : (ws : List Waiting) → AreSettled ws → NoneRefused ws
settled_running ws settled = λ k w e at. running_by w w.head e refl (settled k w at)

still_running : (ws : List Waiting) (k : ℕ) (w : Waiting) → slice_get ws k ≡ Some w → NoneRefused ws → NoneRefused (set ws k (emptied w))
still_running ws k w at none j u e there over = elim (cases_eq j k) [
  | inl same ↦
      let here : slice_get (set ws k (emptied w)) j ≡ Some (emptied w) = rw same (set_same ws k w (emptied w) at) in
      let is : u ≡ emptied w = cc in
      none k w e at (rw is at over)
  | inr other ↦ none j u e (sym (set_other ws k j (emptied w) other) ∙ there) over
]

-- ---- the answer of a call that refilled all: from `old` it came to `mid`, and then to `new`

module _ (old mid new : List Waiting) (settled : AreSettled mid) (forms : map form_in mid ≡ map form_in old) where
  abbrev TakenSo : Option (ℕ × Record) → Type 0
  TakenSo found = IfNone found (HaveNone mid × (new ≡ mid)) × IfSome found (λ item. TakesNext mid new item.0 item.1)

  so_reads : (befores lefts : List (List ℕ)) (found : Option (ℕ × Record)) → AllRefilled old mid befores lefts → TakenSo found → MergeReads old new befores lefts (Ok found)
  so_reads befores lefts None all taken = rw taken.0.1 (merges_none old mid befores lefts all)
  so_reads befores lefts (Some found) all taken = λ form at. merges_one old mid new befores lefts found.0 found.1 form all settled taken.1 forms at

  so_form : (found : Option (ℕ × Record)) → TakenSo found → IfSome found (HasForm old)
  so_form None taken = tt
  so_form (Some found) taken =
      let t = taken.1 in
      (t.from.reading.form, record { at = rw (← forms) (map_at form_in mid found.0 t.from t.stands); fields = t.fields })

  so_same : {Y : Type 0} (f : Waiting → Y) → ((w : Waiting) → f (emptied w) ≡ f w) → map f mid ≡ map f old → (found : Option (ℕ × Record)) → TakenSo found → map f new ≡ map f old
  so_same f kept same None taken = rw taken.0.1 same
  so_same f kept same (Some found) taken =
      let t = taken.1 in
      rw t.rest (map_kept f mid found.0 t.from (emptied t.from) t.stands (kept t.from) ∙ same)

  so_running : (found : Option (ℕ × Record)) → TakenSo found → NoneRefused new
  so_running None taken = rw taken.0.1 (settled_running mid settled)
  so_running (Some found) taken =
      let t = taken.1 in
      rw t.rest (still_running mid found.0 t.from t.stands (settled_running mid settled))

  so_ends : (found : Option (ℕ × Record)) → TakenSo found → IfNone found (AreOver new)
  so_ends None taken = rw taken.0.1 (are_over mid settled taken.0.0)
  so_ends (Some found) taken = tt

  -- once all captures are over there is no record
  so_again : (found : Option (ℕ × Record)) → AreOver old → mid ≡ old → TakenSo found → (◌≡◌ {A = Result (Option (ℕ × Record)) (ℕ × CaptureError)} (Ok found) (Ok None)) × (new ≡ old)
  so_again None over same taken = (refl, taken.0.1 ∙ same)
  so_again (Some found) over same taken =
      let t = taken.1 in
      let none = (over found.0 t.from (rw (← same) t.stands)).0 in
      let some = t.head in
      absurd (cc)

-- The same of lists that are equal to those: `value` is what the call was given, `written` what stands behind it, and `between` what
-- stands before the record is taken.
module _ (value old mid between new written : List Waiting) (old_is : old ≡ value) (between_is : between ≡ mid) (written_is : written ≡ new) (settled : AreSettled mid) (forms : map form_in mid ≡ map form_in old) (found : Option (ℕ × Record)) (none : IfNone found (HaveNone between × (new ≡ between))) (some : IfSome found (λ item. TakesNext between new item.0 item.1)) where
  taken_so : TakenSo value mid new settled (forms ∙ ap (map form_in) old_is) found
  taken_so = subst (λ (m : List Waiting). IfNone found (HaveNone m × (new ≡ m)) × IfSome found (λ item. TakesNext m new item.0 item.1)) between_is (none, some)

  ok_same : {Y : Type 0} (f : Waiting → Y) → ((w : Waiting) → f (emptied w) ≡ f w) → map f mid ≡ map f old → map f written ≡ map f value
  ok_same f kept same =
      ap (map f) written_is ∙ so_same value mid new settled (forms ∙ ap (map form_in) old_is) f kept (same ∙ ap (map f) old_is) found taken_so

  pub ok_forms : map form_in written ≡ map form_in value
  ok_forms = ok_same form_in (λ w. refl) forms

  pub ok_headers : map header_in mid ≡ map header_in old → map header_in written ≡ map header_in value
  ok_headers headers = ok_same header_in (λ w. refl) headers

  pub ok_form : IfSome found (HasForm value)
  ok_form = so_form value mid new settled (forms ∙ ap (map form_in) old_is) found taken_so

  pub ok_reads : (befores lefts : List (List ℕ)) → AllRefilled old mid befores lefts → MergeReads value written befores lefts (Ok found)
  ok_reads befores lefts all =
      let all' = subst (λ (ws : List Waiting). AllRefilled ws mid befores lefts) old_is all in
      let reads = so_reads value mid new settled (forms ∙ ap (map form_in) old_is) befores lefts found all' taken_so in
      subst (λ (ws : List Waiting). MergeReads value ws befores lefts (Ok found)) (sym written_is) reads

  pub ok_counted : ((count : ℕ) → HasPassedOn count old → HasPassedOn count mid) → (count : ℕ) → HasPassedOn count value → HasPassedOn (count + records_in (Ok found)) written
  ok_counted on count passed =
      let mid_passed = on count (subst (HasPassedOn count) (sym old_is) passed) in
      subst (HasPassedOn (count + records_in (Ok found))) (sym written_is)
      (passes_taken mid new found taken_so.0 taken_so.1 count mid_passed)

  pub ok_running : NoneRefused written
  ok_running = subst NoneRefused (sym written_is) (so_running value mid new settled (forms ∙ ap (map form_in) old_is) found taken_so)

  pub ok_ends : IfNone found (AreOver written)
  ok_ends =
      subst (λ (ws : List Waiting). IfNone found (AreOver ws)) (sym written_is) (so_ends value mid new settled (forms ∙ ap (map form_in) old_is) found taken_so)

  -- a merge that was over before answers as it did
  pub ok_again : {S : Type 0} (from to : List S) → (AreSettled old → (mid ≡ old) × (to ≡ from)) → ((stop : ℕ × CaptureError) → StopsAt old stop → ◌≡◌ {A = Result (Unit {0}) (ℕ × CaptureError)} (Ok tt) (Err stop)) → (answer : Answer) → IsOverWith value answer → (◌≡◌ {A = Answer} (Ok found) answer) × (written ≡ value) × (to ≡ from)
  ok_again from to stays again (Ok None) over =
      let same = stays (over_settled old (subst AreOver (sym old_is) over)) in
      let so = so_again value mid new settled (forms ∙ ap (map form_in) old_is) found over (same.0 ∙ old_is) taken_so in
      (so.0, written_is ∙ so.1, same.1)
  ok_again from to stays again (Ok (Some item)) over = absurd over
  ok_again from to stays again (Err stop) over =
      let refused = again stop (subst (λ (ws : List Waiting). StopsAt ws stop) (sym old_is) over) in
      absurd (cc)

-- a call that was refused
module _ (value old mid written : List Waiting) (old_is : old ≡ value) (written_is : written ≡ mid) where
  pub err_reads : (befores lefts : List (List ℕ)) → AllRefilled old mid befores lefts → MergesOn value written befores lefts []
  err_reads befores lefts all =
      rw written_is (merges_none value mid befores lefts (subst (λ (ws : List Waiting). AllRefilled ws mid befores lefts) old_is all))

  pub err_counted : ((count : ℕ) → HasPassedOn count old → HasPassedOn count mid) → (count : ℕ) → HasPassedOn count value → HasPassedOn (count + 0) written
  err_counted on count passed =
      let same : count + 0 ≡ count = omega arith in
      rw (same, written_is) (on count (subst (HasPassedOn count) (sym old_is) passed))

  pub err_again : {S : Type 0} (from to : List S) (stop : ℕ × CaptureError) → StopsAt mid stop → (AreSettled old → (mid ≡ old) × (to ≡ from)) → ((other : ℕ × CaptureError) → StopsAt old other → ◌≡◌ {A = Result (Unit {0}) (ℕ × CaptureError)} (Err stop) (Err other)) → ((other : ℕ × CaptureError) → StopsAt old other → (mid ≡ old) × (to ≡ from)) → (answer : Answer) → IsOverWith value answer → (◌≡◌ {A = Answer} (Err stop) answer) × (written ≡ value) × (to ≡ from)
  err_again from to stop refused stays again still (Ok None) over =
      let over' = subst AreOver (sym old_is) over in
      let same = (stays (over_settled old over')).0 in
      let well = (over' stop.0 refused.at (rw (← same) refused.stands)).2 in
      let bad = refused.stopped.1 in
      absurd (cc)
  err_again from to stop refused stays again still (Ok (Some item)) over = absurd over
  err_again from to stop refused stays again still (Err other) over =
      let stops = subst (λ (ws : List Waiting). StopsAt ws other) (sym old_is) over in
      let answer = again other stops in
      let same : stop ≡ other = cc in
      let kept = still other stops in
      (rw same refl, written_is ∙ kept.0 ∙ old_is, kept.1)
