-- Who applies the messages of events holds what is left.
use Rattle.std.proofs.Common.{◌≡◌, ℕ, ◌==◌, ◌&&◌, ◌||◌, Bool, true, false, not, List, [], ◌∷◌, ◌++◌, map, fold, Option, Some, None, sym, refl, ap, ◌∙◌, inl, inr}
use Rattle.std.specs.List.{cons_option, filter, flat_map, list_all, list_any}
use Rattle.std.proofs.lemmas.Bool.{cases_Bool, eqb-true, not-true}
use Rattle.std.proofs.lemmas.List.{append_assoc, append-nil}
use Rattle.std.proofs.lemmas.List.Concat.{flat_map-append}
use Rattle.std.proofs.lemmas.List.Elements.{filter-append, recursion_from_All}
use Rattle.std.proofs.lemmas.List.Folds.{list_any-append}
use Rattle.std.proofs.lemmas.List.Sums.{fold-append}
use Rattle.std.proofs.lemmas.Map.Views.{any-filter_same}
use Rattle.pfr_track.specs.declared.time.Clock.{Clock}
use Rattle.pfr_messages.specs.Messages.{Content}
use Rattle.pfr_sync.specs.declared.event.Event.{Event}
use Rattle.pfr_sync.specs.declared.origin.Origin.{Origin}
use Rattle.pfr_sync.specs.declared.queue.QueuedState.{QueuedState}
use Rattle.pfr_sync.specs.Events.{is_made, is_of, is_removed}
use Rattle.pfr_sync.specs.Laws.{AStandbyHoldsWhatIsLeft, IsHistory, has, is_left, leave_it, numbers_after}
use Rattle.pfr_sync.specs.Messages.{content_of, entries_by, entries_of, is_delete, is_insert, last_of, message_of, messages_by, messages_of, numbers_of, parts_of, told_by, told_of}
use Rattle.pfr_sync.specs.Queues.{number_of}
use Rattle.pfr_sync.proofs.EntryLemmas.{entries_step}
use Rattle.pfr_sync.proofs.NumberLemmas.{numbers_have, or_nothing}
use Rattle.pfr_sync.proofs.OnceLemmas.{map_twice}
use Rattle.pfr_sync.proofs.PartLemmas.{parts_joined}
use Rattle.pfr_sync.proofs.ToldLemmas.{IsOf, last_all, lives_by, moved_by, none_kept, told_at, told_is_of}

-- ---- what is told of a number

-- something is told, and it passes a test
abbrev passes : (QueuedState → Bool) → Option QueuedState → Bool
passes p None = false
passes p (Some entry) = p entry

pub and_nothing : (b : Bool) → (b && false) ≡ false
and_nothing true = refl
and_nothing false = refl

or_less : (b c : Bool) → (b || (c && b)) ≡ b
or_less true c = refl
or_less false c = and_nothing c

has_put : (p : QueuedState → Bool) (n m : ℕ) (told : Option QueuedState) (rest : List QueuedState) → IsOf m told
    → has n (map number_of (filter p (cons_option told rest))) ≡ ((m == n && passes p told) || has n (map number_of (filter p rest)))
has_put p n m None rest is = rw (and_nothing (m == n)) refl
has_put p n m (Some entry) rest is = elim (cases_Bool (p entry)) [
  | inl it_is ↦ rw (it_is, is) (elim (cases_Bool (m == n)) [ inl same ↦ rw same refl | inr other ↦ rw other refl ])
  | inr not_it ↦ rw (not_it, and_nothing (m == n)) refl
]

has_told : (p : QueuedState → Bool) (n : ℕ) (events : List Event) (numbers : List ℕ) → has n (map number_of (filter p (entries_by events numbers))) ≡ (has n numbers && passes p (told_at n events))
has_told p n events [] = refl
has_told p n events (m ∷ numbers) =
    ap (λ (entries : List QueuedState). has n (map number_of (filter p entries))) (entries_step events m numbers)
    ∙ has_put p n m (told_at m events) (entries_by events numbers) (told_is_of m events)
    ∙ ap (λ (rest : Bool). (m == n && passes p (told_at m events)) || rest) (has_told p n events numbers)
    ∙ elim (cases_Bool (m == n)) [
      | inl is ↦ rw is (ap (λ (k : ℕ). passes p (told_at k events) || (has n numbers && passes p (told_at n events))) (eqb-true m n is) ∙ or_less (passes p (told_at n events)) (has n numbers))
      | inr other ↦ rw other refl
    ]

-- the entries that pass a test have the number if what is told of it passes the test
has_entries : (p : QueuedState → Bool) (n : ℕ) (events : List Event) → has n (map number_of (filter p (entries_of events))) ≡ passes p (told_at n events)
has_entries p n events =
    has_told p n events (numbers_of events)
    ∙ ap (λ (some : Bool). some && passes p (told_at n events)) (numbers_have n events)
    ∙ elim (cases_Bool (list_any (is_of n) events)) [
      | inl some ↦ rw some refl
      | inr none ↦ rw none (sym (ap (λ (kept : List Event). passes p (told_of kept)) (none_kept (is_of n) events none)))
    ]

-- ---- one message

-- what is held with these that came, and without those that went
abbrev changed : Bool → Bool → Bool → Bool
changed held came went = not went && (held || came)

after_content : (n : ℕ) (numbers : List ℕ) (content : Content)
    → has n (numbers_after numbers content) ≡ changed (has n numbers) (has n (map (λ r. r.number.0) content.insertions)) (has n (map (λ r. r.number.0) content.deletions))
after_content n numbers content =
    let came = map (λ r. r.number.0) content.insertions in
    let went = map (λ r. r.number.0) content.deletions in
    any-filter_same (λ (m : ℕ). m == n) (λ (m : ℕ). not (has m went)) (not (has n went)) (λ m is. ap (λ (k : ℕ). not (has k went)) (eqb-true m n is)) (numbers ++ came)
    ∙ ap (λ (b : Bool). not (has n went) && b) (list_any-append (λ (m : ℕ). m == n) numbers came)

after_entries : (origin : Origin) (clock : Clock) (n : ℕ) (numbers : List ℕ) (entries : List QueuedState)
    → has n (fold numbers_after numbers (messages_by origin clock entries)) ≡ changed (has n numbers) (has n (map number_of (filter is_insert entries))) (has n (map number_of (filter is_delete entries)))
after_entries origin clock n numbers [] = sym (or_nothing (has n numbers))
after_entries origin clock n numbers (e ∷ entries) = after_content n numbers (content_of origin clock (e ∷ entries)) ∙ simp map_twice refl

after_part : (origin : Origin) (n : ℕ) (numbers : List ℕ) (part : List Event)
    → has n (fold numbers_after numbers (message_of origin part)) ≡ changed (has n numbers) (passes is_insert (told_at n part)) (passes is_delete (told_at n part))
after_part origin n numbers [] = sym (or_nothing (has n numbers))
after_part origin n numbers (first ∷ part) =
    after_entries origin first.clock n numbers (entries_of (first ∷ part))
    ∙ ap (λ (came : Bool). changed (has n numbers) came (has n (map number_of (filter is_delete (entries_of (first ∷ part)))))) (has_entries is_insert n (first ∷ part))
    ∙ ap (λ (went : Bool). changed (has n numbers) (passes is_insert (told_at n (first ∷ part))) went) (has_entries is_delete n (first ∷ part))

-- ---- the events of one state

pub last_append : (b : Event) (bs : List Event) (first : Event) (rest : List Event) → last_of b (bs ++ first ∷ rest) ≡ last_of first rest
last_append b [] first rest = refl
last_append b (x ∷ bs) first rest = last_append x bs first rest

left_first : (first last : Event) → is_made first ≡ true
    → changed false (passes is_insert (told_by first last)) (passes is_delete (told_by first last)) ≡ (is_made first && not (is_removed last))
left_first first last made = elim (cases_Bool (is_removed last)) [ inl gone ↦ rw (made, gone) refl | inr there ↦ rw (made, there) refl ]

left_more : (b before first last : Event) → is_made b ≡ true → is_removed before ≡ false → is_made first ≡ false
    → changed (is_made b && not (is_removed before)) (passes is_insert (told_by first last)) (passes is_delete (told_by first last)) ≡ (is_made b && not (is_removed last))
left_more b before first last began lives moved = elim (cases_Bool (is_removed last)) [ inl gone ↦ rw (moved, gone, began) refl | inr there ↦ rw (moved, there, began, lives) refl ]

-- what events of one state say with more events of it
pub record Joins (before part : List Event) : Type 0 where
  pub begins : (first : Event) (rest : List Event) → before ≡ [] → part ≡ first ∷ rest → is_made first ≡ true
  pub began : (b : Event) (bs : List Event) → before ≡ b ∷ bs → is_made b ≡ true
  pub goes_on : (b : Event) (bs : List Event) (first : Event) (rest : List Event) → before ≡ b ∷ bs → part ≡ first ∷ rest → (is_made first ≡ false) × (is_removed (last_of b bs) ≡ false)

left_step : (before part : List Event) → Joins before part
    → changed (leave_it before) (passes is_insert (told_of part)) (passes is_delete (told_of part)) ≡ leave_it (before ++ part)
left_step before [] joins = or_nothing (leave_it before) ∙ ap leave_it (sym (append-nil before))
left_step [] (first ∷ rest) joins = left_first first (last_of first rest) (joins.begins first rest refl refl)
left_step (b ∷ bs) (first ∷ rest) joins =
    let on = joins.goes_on b bs first rest refl refl in
    left_more b (last_of b bs) first (last_of first rest) (joins.began b bs refl) on.1 on.0
    ∙ ap (λ (last : Event). is_made b && not (is_removed last)) (sym (last_append b bs first rest))

-- ---- a history

-- the first event that passes a test: where it stands
pub record First (p : Event → Bool) (events : List Event) (first : Event) : Type 0 where
  pub front : List Event
  pub back : List Event
  pub are : events ≡ front ++ first ∷ back
  pub none : list_any p front ≡ false
  pub it_is : p first ≡ true

first_of : (p : Event → Bool) (events : List Event) (first : Event) (rest : List Event) → filter p events ≡ first ∷ rest → First p events first
first_of p [] first rest kept = absurd cc
first_of p (x ∷ events) first rest kept = elim (cases_Bool (p x)) [
  | inl it_is ↦
      let kept_it : x ∷ filter p events ≡ first ∷ rest = rw it_is at kept in
      let same : x ≡ first = cc kept_it in
      record { front = []; back = events; are = ap (λ (e : Event). e ∷ events) same; none = refl; it_is = rw (← same) it_is }
  | inr not_it ↦
      let more = first_of p events first rest (rw not_it at kept) in
      record { front = x ∷ more.front; back = more.back; are = ap (λ (es : List Event). x ∷ es) more.are; none = rw not_it more.none; it_is = more.it_is }
]

made_first : (events : List Event) (n : ℕ) (front more : List Event) (first : Event) (rest : List Event) → IsHistory events → events ≡ front ++ more → filter (is_of n) front ≡ first ∷ rest → is_made first ≡ true
made_first events n front more first rest history are kept =
    let place = first_of (is_of n) front first rest kept in
    let whole : events ≡ place.front ++ first ∷ (place.back ++ more) = are ∙ ap (λ (es : List Event). es ++ more) place.are ∙ append_assoc place.front (first ∷ place.back) more in
    history.begins place.front first (place.back ++ more) whole (ap (λ (k : ℕ). list_any (is_of k) place.front) (eqb-true first.state.number.0 n place.it_is) ∙ place.none)

some_there : (p : Event → Bool) (events : List Event) (first : Event) (rest : List Event) → filter p events ≡ first ∷ rest → list_any p events ≡ true
some_there p events first rest kept = elim (cases_Bool (list_any p events)) [ inl some ↦ some | inr none ↦ absurd (cc (none_kept p events none, kept)) ]

moves_on : (events : List Event) (n : ℕ) (before part more : List Event) (b : Event) (bs : List Event) (first : Event) (rest : List Event) → IsHistory events → events ≡ before ++ (part ++ more)
    → filter (is_of n) before ≡ b ∷ bs → filter (is_of n) part ≡ first ∷ rest → (is_made first ≡ false) × (is_removed (last_of b bs) ≡ false)
moves_on events n before part more b bs first rest history are kept next =
    let place = first_of (is_of n) part first rest next in
    let same : first.state.number.0 ≡ n = eqb-true first.state.number.0 n place.it_is in
    let whole : events ≡ (before ++ place.front) ++ first ∷ (place.back ++ more) =
    are
    ∙ ap (λ (es : List Event). before ++ (es ++ more)) place.are
    ∙ ap (λ (es : List Event). before ++ es) (append_assoc place.front (first ∷ place.back) more)
    ∙ sym (append_assoc before place.front (first ∷ (place.back ++ more))) in
    let may = recursion_from_All (λ (x : Event). is_of first.state.number.0 x ≡ true → (is_removed x ≡ false) × (is_made first ≡ false)) (before ++ place.front) (history.may_come (before ++ place.front) first (place.back ++ more) whole) in
    let some : list_any (is_of first.state.number.0) (before ++ place.front) ≡ true =
    list_any-append (is_of first.state.number.0) before place.front
    ∙ ap (λ (some : Bool). some || list_any (is_of first.state.number.0) place.front) (ap (λ (k : ℕ). list_any (is_of k) before) same ∙ some_there (is_of n) before b bs kept) in
    let all_kept : filter (is_of first.state.number.0) (before ++ place.front) ≡ b ∷ bs =
    ap (λ (k : ℕ). filter (is_of k) (before ++ place.front)) same
    ∙ filter-append (is_of n) before place.front
    ∙ ap (λ (es : List Event). es ++ filter (is_of n) place.front) kept
    ∙ ap (λ (es : List Event). (b ∷ bs) ++ es) (none_kept (is_of n) place.front place.none)
    ∙ append-nil (b ∷ bs) in
    let lives : list_all (λ x. not (is_removed x)) (b ∷ bs) ≡ true = ap (list_all (λ (x : Event). not (is_removed x))) (sym all_kept) ∙ lives_by first (before ++ place.front) may in
    (moved_by first (before ++ place.front) may some, not-true (is_removed (last_of b bs)) (last_all (λ x. not (is_removed x)) b bs lives))

pub joins : (events : List Event) (n : ℕ) (before part more : List Event) → IsHistory events → events ≡ before ++ (part ++ more) → Joins (filter (is_of n) before) (filter (is_of n) part)
joins events n before part more history are = record {
  begins = λ first rest none next.
      made_first events n (before ++ part) more first rest history (are ∙ sym (append_assoc before part more))
      (filter-append (is_of n) before part ∙ ap (λ (es : List Event). es ++ filter (is_of n) part) none ∙ next);
  began = λ b bs kept. made_first events n before (part ++ more) b bs history are kept;
  goes_on = λ b bs first rest kept next. moves_on events n before part more b bs first rest history are kept next;
}

-- ---- all messages

part_left : (origin : Origin) (n : ℕ) (events before part more : List Event) (numbers : List ℕ) → IsHistory events → events ≡ before ++ (part ++ more) → has n numbers ≡ is_left n before
    → has n (fold numbers_after numbers (message_of origin part)) ≡ is_left n (before ++ part)
part_left origin n events before part more numbers history are held =
    after_part origin n numbers part
    ∙ ap (λ (b : Bool). changed b (passes is_insert (told_at n part)) (passes is_delete (told_at n part))) held
    ∙ left_step (filter (is_of n) before) (filter (is_of n) part) (joins events n before part more history are)
    ∙ ap leave_it (sym (filter-append (is_of n) before part))

parts_left : (origin : Origin) (n : ℕ) (events before : List Event) (parts : List (List Event)) (numbers : List ℕ) → IsHistory events → events ≡ before ++ flat_map (λ part. part) parts → has n numbers ≡ is_left n before
    → has n (fold numbers_after numbers (flat_map (message_of origin) parts)) ≡ is_left n events
parts_left origin n events before [] numbers history are held = held ∙ ap (is_left n) (sym (are ∙ append-nil before))
parts_left origin n events before (part ∷ parts) numbers history are held =
    let more = flat_map (λ (part : List Event). part) parts in
    let after = fold numbers_after numbers (message_of origin part) in
    ap (has n) (fold-append numbers_after numbers (message_of origin part) (flat_map (message_of origin) parts))
    ∙ parts_left origin n events (before ++ part) parts after history (are ∙ sym (append_assoc before part more)) (part_left origin n events before part more numbers history are held)

pub a_standby_holds_what_is_left : AStandbyHoldsWhatIsLeft
a_standby_holds_what_is_left origin events history n =
    let parts = parts_of origin events in
    let all = parts.closed ++ parts.last ∷ [] in
    let whole : events ≡ flat_map (λ part. part) all =
    sym (parts_joined origin events)
    ∙ ap (λ (es : List Event). flat_map (λ (part : List Event). part) parts.closed ++ es) (sym (append-nil parts.last))
    ∙ sym (flat_map-append (λ (part : List Event). part) parts.closed (parts.last ∷ [])) in
    let told : messages_of origin events ≡ flat_map (message_of origin) all =
    ap (λ (contents : List Content). flat_map (message_of origin) parts.closed ++ contents) (sym (append-nil (message_of origin parts.last)))
    ∙ sym (flat_map-append (message_of origin) parts.closed (parts.last ∷ [])) in
    ap (λ (contents : List Content). has n (fold numbers_after [] contents)) told
    ∙ parts_left origin n events [] all [] history whole refl
