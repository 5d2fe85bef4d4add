-- Events cut into parts, with one event more.
use Rattle.std.proofs.Common.{◌≡◌, ℕ, ◌≤◌, ◌<◌, ◌==◌, true, false, List, [], ◌∷◌, ◌++◌, length, fold, sym, refl, ap, ◌∙◌, subst, inl, inr, arith}
use Rattle.std.specs.List.{All, flat_map, AllByRecursion}
use Rattle.std.proofs.lemmas.Bool.{cases_Bool, cases_order, eqb-true, eq-eqb, le-ltb, lt-ltb, ne_eqb}
use Rattle.std.proofs.lemmas.List.{append_assoc, append-nil}
use Rattle.std.proofs.lemmas.List.Concat.{flat_map-append}
use Rattle.std.proofs.lemmas.List.Elements.{All-from_recursion, recursion_from_All}
use Rattle.std.proofs.lemmas.List.Sums.{fold_push}
use Rattle.pfr_track.specs.declared.time.Clock.{Clock}
use Rattle.pfr_messages.specs.Messages.{Content}
use Rattle.pfr_sync.specs.declared.event.Event.{Event}
use Rattle.pfr_sync.specs.declared.origin.Origin.{Origin}
use Rattle.pfr_sync.specs.declared.queue.QueuedState.{QueuedState}
use Rattle.pfr_sync.specs.declared.sizes.Counts.{Counts}
use Rattle.pfr_sync.specs.declared.edit.Edit.{Edit}
use Rattle.pfr_sync.specs.Edits.{edited}
use Rattle.pfr_sync.specs.Events.{MayCome, is_made, is_of, is_removed}
use Rattle.pfr_sync.specs.Messages.{Parts, belongs, closed_at, entries_of, going_on, is_short, message_of, messages_by, messages_of, open_at, over, parts_of, with_event}
use Rattle.pfr_sync.specs.Queues.{ClosesLast, ClosesLater, IsQueue, Queued, Restarts, Takes, Tells, after, begun, closed_before, has_older, with_entry}
use Rattle.pfr_sync.specs.Sizes.{Exchanges, counts_of, exchanged, fits}
use Rattle.pfr_sync.proofs.CountLemmas.{Keeps, enters_full}
use Rattle.pfr_sync.proofs.EntryLemmas.{entries_push}
use Rattle.pfr_sync.proofs.QueueLemmas.{Adds, adds_later, after_by_room, by_clock, by_room, closed_by_room, queue_empty, queued, short_alone}

pub parts_push : (origin : Origin) (events : List Event) (e : Event) → parts_of origin (events ++ e ∷ []) ≡ with_event origin (parts_of origin events) e
parts_push origin events e = fold_push (with_event origin) (record { closed = []; last = [] }) events e

-- ---- the parts joined are the events

abbrev joined : Parts → List Event
joined parts = flat_map (λ part. part) parts.closed ++ parts.last

joined_step : (origin : Origin) (parts : Parts) (e : Event) → joined (with_event origin parts e) ≡ joined parts ++ e ∷ []
joined_step origin parts e = elim (cases_Bool (belongs origin parts.last e)) [
  | inl is ↦ rw is (sym (append_assoc (flat_map (λ part. part) parts.closed) parts.last (e ∷ [])))
  | inr is ↦
      rw (is, flat_map-append (λ (part : List Event). part) parts.closed (parts.last ∷ []), append-nil parts.last) refl
]

joined_from : (origin : Origin) (parts : Parts) (events : List Event) → joined (fold (with_event origin) parts events) ≡ joined parts ++ events
joined_from origin parts [] = sym (append-nil (joined parts))
joined_from origin parts (e ∷ events) =
    joined_from origin (with_event origin parts e) events
    ∙ ap (λ front. front ++ events) (joined_step origin parts e)
    ∙ append_assoc (joined parts) (e ∷ []) events

pub parts_joined : (origin : Origin) (events : List Event) → flat_map (λ part. part) (parts_of origin events).closed ++ (parts_of origin events).last ≡ events
parts_joined origin events = joined_from origin (record { closed = []; last = [] }) events

-- what holds of all elements holds of those behind the front
pub behind_front : {X : Type 0} (P : X → Type 0) (front xs : List X) → AllByRecursion P (front ++ xs) → AllByRecursion P xs
behind_front P [] xs all = all
behind_front P (x ∷ front) xs all = behind_front P front xs all.1

-- what holds of all events holds of those of the last part
all_last : (P : Event → Type 0) (origin : Origin) (events : List Event) → All P events → All P (parts_of origin events).last
all_last P origin events all =
    let parts = parts_of origin events in
    let whole : AllByRecursion P (flat_map (λ (part : List Event). part) parts.closed ++ parts.last) = subst (AllByRecursion P) (sym (parts_joined origin events)) (recursion_from_All P events all) in
    All-from_recursion P parts.last (behind_front P (flat_map (λ (part : List Event). part) parts.closed) parts.last whole)

-- ---- one event more

one_entry : (e : Event) → entries_of (e ∷ []) ≡ begun e ∷ []
one_entry e = entries_push [] e (All-from_recursion (λ before. is_of e.state.number.0 before ≡ true → (is_removed before ≡ false) × (is_made e ≡ false)) [] tt)

goes_on : (clock : Clock) (first : Event) (part : List Event) → first.clock.0 ≡ clock.0 → going_on clock (first ∷ part) ≡ first ∷ part
goes_on clock first part same = rw (eq-eqb first.clock.0 clock.0 same) refl

not_over : (origin : Origin) (clock : Clock) (first : Event) (part : List Event) → first.clock.0 ≡ clock.0 → over origin clock (first ∷ part) ≡ []
not_over origin clock first part same = rw (eq-eqb first.clock.0 clock.0 same) refl

-- what is told is of the event's clock, so nothing of it is older
none_older : (origin : Origin) (clock : Clock) (entries : List QueuedState) (e : Event) → (0 < length entries → clock ≡ e.clock) → has_older (queued origin clock entries) e.clock ≡ false
none_older origin clock [] e is_at = refl
none_older origin clock (x ∷ xs) e is_at =
    let some : 0 < length (x ∷ xs) = omega arith in
    rw (is_at some, lt-ltb 0 (length (x ∷ xs)) some, le-ltb e.clock.0 e.clock.0 (omega arith)) refl

-- the entries and the messages with one event more
pub record Step (origin : Origin) (clock : Clock) (before next : Parts) (new : List QueuedState) (closed : List Content) : Type 0 where
  pub tells : new ≡ entries_of (going_on clock next.last)
  pub closes : flat_map (message_of origin) next.closed ++ over origin clock next.last
      ≡ (flat_map (message_of origin) before.closed ++ over origin clock before.last) ++ closed

alone_tells : (e : Event) → begun e ∷ [] ≡ entries_of (going_on e.clock (e ∷ []))
alone_tells e = sym (ap entries_of (goes_on e.clock e [] refl) ∙ one_entry e)

-- nothing was told
after_none : (origin : Origin) (entries : List QueuedState) (e : Event) → IsQueue origin entries → entries ≡ [] → (after_by_room origin entries e ≡ begun e ∷ []) × (closed_by_room origin entries e ≡ [])
after_none origin entries e keeps none =
    let short : is_short origin e.clock (with_entry e entries) ≡ true = rw none (short_alone origin entries e keeps) in
    (rw (short, none) refl, rw short refl)

-- the messages if the last part is closed and another one begins
closes_part : (origin : Origin) (clock : Clock) (closed : List (List Event)) (last : List Event) (e : Event) → e.clock.0 ≡ clock.0
    → flat_map (message_of origin) (closed ++ last ∷ []) ++ over origin clock (e ∷ []) ≡ flat_map (message_of origin) closed ++ message_of origin last
closes_part origin clock closed last e same =
    rw (not_over origin clock e [] same, append-nil (flat_map (message_of origin) (closed ++ last ∷ [])), flat_map-append (message_of origin) closed (last ∷ []), append-nil (message_of origin last)) refl

step_none : (origin : Origin) (entries : List QueuedState) (e : Event) (closed : List (List Event)) → IsQueue origin entries → entries ≡ []
    → Step origin e.clock (record { closed = closed; last = [] }) (record { closed = closed; last = e ∷ [] }) (after_by_room origin entries e) (closed_by_room origin entries e)
step_none origin entries e closed keeps none =
    let is = after_none origin entries e keeps none in
    record {
      tells = is.0 ∙ alone_tells e;
      closes = rw (is.1, not_over origin e.clock e [] refl) (sym (append-nil (flat_map (message_of origin) closed ++ [])));
    }

step_other : (origin : Origin) (entries : List QueuedState) (e : Event) (closed : List (List Event)) (first : Event) (part : List Event) → IsQueue origin entries → entries ≡ [] → (first.clock.0 == e.clock.0) ≡ false
    → Step origin e.clock (record { closed = closed; last = first ∷ part }) (record { closed = closed ++ (first ∷ part) ∷ []; last = e ∷ [] }) (after_by_room origin entries e) (closed_by_room origin entries e)
step_other origin entries e closed first part keeps none other =
    let is = after_none origin entries e keeps none in
    let whole : over origin e.clock (first ∷ part) ≡ message_of origin (first ∷ part) = rw other refl in
    record {
      tells = is.0 ∙ alone_tells e;
      closes =
          closes_part origin e.clock closed (first ∷ part) e refl
          ∙ ap (λ message. flat_map (message_of origin) closed ++ message) (sym whole)
          ∙ sym (append-nil (flat_map (message_of origin) closed ++ over origin e.clock (first ∷ part)))
          ∙ ap (λ more. (flat_map (message_of origin) closed ++ over origin e.clock (first ∷ part)) ++ more) (sym is.1);
    }

step_room : (origin : Origin) (entries : List QueuedState) (e : Event) (closed : List (List Event)) (first : Event) (part : List Event) → entries ≡ entries_of (first ∷ part) → MayCome (first ∷ part) e → first.clock.0 ≡ e.clock.0
    → is_short origin e.clock (entries_of ((first ∷ part) ++ e ∷ [])) ≡ true
    → Step origin e.clock (record { closed = closed; last = first ∷ part }) (record { closed = closed; last = (first ∷ part) ++ e ∷ [] }) (after_by_room origin entries e) (closed_by_room origin entries e)
step_room origin entries e closed first part tells may same room =
    let next : entries_of ((first ∷ part) ++ e ∷ []) ≡ with_entry e entries = entries_push (first ∷ part) e may ∙ ap (with_entry e) (sym tells) in
    let short : is_short origin e.clock (with_entry e entries) ≡ true = ap (is_short origin e.clock) (sym next) ∙ room in
    let is : after_by_room origin entries e ≡ with_entry e entries = rw short refl in
    let none : closed_by_room origin entries e ≡ [] = rw short refl in
    record {
      tells = is ∙ sym next ∙ ap entries_of (sym (goes_on e.clock first (part ++ e ∷ []) same));
      closes =
          ap (λ more. flat_map (message_of origin) closed ++ more) (not_over origin e.clock first (part ++ e ∷ []) same ∙ sym (not_over origin e.clock first part same))
          ∙ sym (append-nil (flat_map (message_of origin) closed ++ over origin e.clock (first ∷ part)))
          ∙ ap (λ more. (flat_map (message_of origin) closed ++ over origin e.clock (first ∷ part)) ++ more) (sym none);
    }

step_full : (origin : Origin) (entries : List QueuedState) (e : Event) (closed : List (List Event)) (first : Event) (part : List Event) → entries ≡ entries_of (first ∷ part) → MayCome (first ∷ part) e → first.clock.0 ≡ e.clock.0
    → is_short origin e.clock (entries_of ((first ∷ part) ++ e ∷ [])) ≡ false
    → Step origin e.clock (record { closed = closed; last = first ∷ part }) (record { closed = closed ++ (first ∷ part) ∷ []; last = e ∷ [] }) (after_by_room origin entries e) (closed_by_room origin entries e)
step_full origin entries e closed first part tells may same full =
    let next : entries_of ((first ∷ part) ++ e ∷ []) ≡ with_entry e entries = entries_push (first ∷ part) e may ∙ ap (with_entry e) (sym tells) in
    let long : is_short origin e.clock (with_entry e entries) ≡ false = ap (is_short origin e.clock) (sym next) ∙ full in
    let is : after_by_room origin entries e ≡ with_entry e [] = rw long refl in
    let clock : first.clock ≡ e.clock = ap (λ (n : ℕ). let c : Clock = record { 0 = n } in c) same in
    let message : closed_by_room origin entries e ≡ message_of origin (first ∷ part) = rw (long, tells, clock) refl in
    record {
      tells = is ∙ alone_tells e;
      closes =
          closes_part origin e.clock closed (first ∷ part) e refl
          ∙ ap (λ more. flat_map (message_of origin) closed ++ more) (sym message)
          ∙ ap (λ front. front ++ closed_by_room origin entries e) (sym (ap (λ more. flat_map (message_of origin) closed ++ more) (not_over origin e.clock first part same) ∙ append-nil (flat_map (message_of origin) closed)));
    }

step_by : (origin : Origin) (entries : List QueuedState) (e : Event) (closed : List (List Event)) (last : List Event) → IsQueue origin entries → entries ≡ entries_of (going_on e.clock last) → MayCome last e
    → Step origin e.clock (record { closed = closed; last = last }) (with_event origin (record { closed = closed; last = last }) e) (after_by_room origin entries e) (closed_by_room origin entries e)
step_by origin entries e closed [] keeps tells may = step_none origin entries e closed keeps tells
step_by origin entries e closed (first ∷ part) keeps tells may = elim (cases_Bool (first.clock.0 == e.clock.0)) [
  | inl is ↦
      let same = eqb-true first.clock.0 e.clock.0 is in
      let told : entries ≡ entries_of (first ∷ part) = tells ∙ ap entries_of (goes_on e.clock first part same) in
      elim (cases_Bool (is_short origin e.clock (entries_of ((first ∷ part) ++ e ∷ [])))) [
        | inl room ↦ rw (is, room) (step_room origin entries e closed first part told may same room)
        | inr full ↦ rw (is, full) (step_full origin entries e closed first part told may same full)
      ]
  | inr other ↦
      let none : entries ≡ [] = rw other at tells in
      rw other (step_other origin entries e closed first part keeps none other)
]

-- entries of the open part become those of the longer list, and what closes is what that list closes
step_events : (origin : Origin) (entries : List QueuedState) (e : Event) (events : List Event) → IsQueue origin entries → entries ≡ entries_of (open_at origin e.clock events) → MayCome events e
    → (after_by_room origin entries e ≡ entries_of (open_at origin e.clock (events ++ e ∷ [])))
    × (closed_at origin e.clock (events ++ e ∷ []) ≡ closed_at origin e.clock events ++ closed_by_room origin entries e)
step_events origin entries e events keeps tells may =
    let parts = parts_of origin events in
    let may_last : MayCome parts.last e = all_last (λ (before : Event). is_of e.state.number.0 before ≡ true → (is_removed before ≡ false) × (is_made e ≡ false)) origin events may in
    let step = step_by origin entries e parts.closed parts.last keeps tells may_last in
    rw (parts_push origin events e) (step.tells, step.closes)

-- ---- a later clock

-- what becomes of the last part at a later clock, and at the end
pub record Ends (origin : Origin) (clock later : Clock) (last : List Event) (told : List Content) : Type 0 where
  pub none : going_on later last ≡ []
  pub over_then : over origin later last ≡ over origin clock last ++ told

ends_by : (origin : Origin) (clock later : Clock) (last : List Event) → AllByRecursion (λ (e : Event). e.clock.0 ≤ clock.0) last → clock.0 < later.0
    → Ends origin clock later last (messages_by origin clock (entries_of (going_on clock last)))
ends_by origin clock later [] all later_on = record { none = refl; over_then = refl }
ends_by origin clock later (first ∷ part) all later_on =
    let before = all.0 in
    let other : (first.clock.0 == later.0) ≡ false = ne_eqb first.clock.0 later.0 (λ same. absurd (omega arith)) in
    elim (cases_Bool (first.clock.0 == clock.0)) [
      | inl is ↦
          let same : first.clock ≡ clock = ap (λ (n : ℕ). let c : Clock = record { 0 = n } in c) (eqb-true first.clock.0 clock.0 is) in
          record { none = rw other refl; over_then = rw (other, is, same) refl }
      | inr is ↦ record { none = rw other refl; over_then = rw (other, is) (sym (append-nil (message_of origin (first ∷ part)))) }
    ]

later_events : (origin : Origin) (entries : List QueuedState) (clock later : Clock) (events : List Event) → entries ≡ entries_of (open_at origin clock events) → All (λ (e : Event). e.clock.0 ≤ clock.0) events → clock.0 < later.0
    → ([] ≡ entries_of (open_at origin later events)) × (closed_at origin later events ≡ closed_at origin clock events ++ messages_by origin clock entries)
later_events origin entries clock later events tells all later_on =
    let parts = parts_of origin events in
    let all_of = recursion_from_All (λ (e : Event). e.clock.0 ≤ clock.0) parts.last (all_last (λ (e : Event). e.clock.0 ≤ clock.0) origin events all) in
    let ends = ends_by origin clock later parts.last all_of later_on in (
      ap entries_of (sym ends.none),
      ap (λ more. flat_map (message_of origin) parts.closed ++ more) ends.over_then
          ∙ sym (append_assoc (flat_map (message_of origin) parts.closed) (over origin clock parts.last) (messages_by origin clock (entries_of (going_on clock parts.last))))
          ∙ ap (λ entries. (flat_map (message_of origin) parts.closed ++ over origin clock parts.last) ++ messages_by origin clock entries) (sym tells),
    )

-- ---- the end

last_by : (origin : Origin) (clock : Clock) (last : List Event) → message_of origin last ≡ over origin clock last ++ messages_by origin clock (entries_of (going_on clock last))
last_by origin clock [] = refl
last_by origin clock (first ∷ part) = elim (cases_Bool (first.clock.0 == clock.0)) [
  | inl is ↦
      let same : first.clock ≡ clock = ap (λ (n : ℕ). let c : Clock = record { 0 = n } in c) (eqb-true first.clock.0 clock.0 is) in
      rw (is, same) refl
  | inr is ↦ rw is (sym (append-nil (message_of origin (first ∷ part))))
]

last_events : (origin : Origin) (entries : List QueuedState) (clock : Clock) (events : List Event) → entries ≡ entries_of (open_at origin clock events)
    → messages_of origin events ≡ closed_at origin clock events ++ messages_by origin clock entries
last_events origin entries clock events tells =
    let parts = parts_of origin events in
    ap (λ more. flat_map (message_of origin) parts.closed ++ more) (last_by origin clock parts.last)
    ∙ sym (append_assoc (flat_map (message_of origin) parts.closed) (over origin clock parts.last) (messages_by origin clock (entries_of (going_on clock parts.last))))
    ∙ ap (λ entries. (flat_map (message_of origin) parts.closed ++ over origin clock parts.last) ++ messages_by origin clock entries) (sym tells)

-- ---- a queue that takes an event

takes_here : (origin : Origin) (clock : Clock) (entries : List QueuedState) (e : Event) (new : List QueuedState) (closed : List Content) → IsQueue origin entries → Adds origin clock entries e new closed
    → (events : List Event) → Tells (queued origin clock entries) e.clock events → MayCome events e
    → Tells (queued origin e.clock new) e.clock (events ++ e ∷ []) × (closed_at origin e.clock (events ++ e ∷ []) ≡ closed_at origin e.clock events ++ closed)
takes_here origin clock entries e new closed keeps adds events tells may =
    let step = step_events origin entries e events keeps tells.0 may in
    let is = by_room origin clock entries e (none_older origin clock entries e tells.1) in
    ((adds.leaves ∙ is.1 ∙ step.0, λ some. refl), step.1 ∙ ap (λ more. closed_at origin e.clock events ++ more) (sym (adds.closes ∙ is.0)))

takes_later : (origin : Origin) (clock : Clock) (entries : List QueuedState) (e : Event) (new : List QueuedState) (closed : List Content) → IsQueue origin entries → Adds origin clock entries e new closed
    → (events : List Event) (at : Clock) → Tells (queued origin clock entries) at events → at.0 < e.clock.0 → All (λ before. before.clock.0 ≤ at.0) events → MayCome events e
    → Tells (queued origin e.clock new) e.clock (events ++ e ∷ []) × (closed_at origin e.clock (events ++ e ∷ []) ≡ closed_at origin at events ++ closed)
takes_later origin clock entries e new closed keeps adds events at tells later all may =
    let ends = later_events origin entries at e.clock events tells.0 all later in
    let step = step_events origin [] e events (queue_empty origin keeps.interfaces keeps.checksum) ends.0 may in
    let short = short_alone origin entries e keeps in
    let alone : after_by_room origin [] e ≡ begun e ∷ [] = rw short refl in
    let no_more : closed_by_room origin [] e ≡ [] = rw short refl in
    let is = by_clock origin clock at entries e keeps tells.1 later in (
      (adds.leaves ∙ is.1 ∙ sym alone ∙ step.0, λ some. refl),
      step.1 ∙ ap (λ more. closed_at origin e.clock events ++ more) no_more ∙ append-nil (closed_at origin e.clock events) ∙ ends.1
          ∙ ap (λ more. closed_at origin at events ++ more) (sym (adds.closes ∙ is.0)),
    )

pub takes : (origin : Origin) (clock : Clock) (entries : List QueuedState) (e : Event) (new : List QueuedState) (closed : List Content) → IsQueue origin entries → Adds origin clock entries e new closed
    → Takes (queued origin clock entries) e (queued origin e.clock new) closed
takes origin clock entries e new closed keeps adds events at tells comes = elim (cases_order at.0 e.clock.0) [
  | inl same ↦
      let is : e.clock ≡ at = ap (λ (n : ℕ). let c : Clock = record { 0 = n } in c) (sym same) in
      subst (λ (at : Clock). Tells (queued origin clock entries) at events → Tells (queued origin e.clock new) e.clock (events ++ e ∷ []) × (closed_at origin e.clock (events ++ e ∷ []) ≡ closed_at origin at events ++ closed)) is
      (λ tells. takes_here origin clock entries e new closed keeps adds events tells comes.2) tells
  | inr (inl before) ↦ takes_later origin clock entries e new closed keeps adds events at tells before (comes.1 before) comes.2
  | inr (inr behind) ↦ absurd (let least = comes.0 in omega (arith, least, behind))
]

-- ---- a queue that restarts

-- something older was told
pub restarts_older : (old : Queued) (closing : Clock) (e : Event) (new : Queued) (closed : List Content)
    → IsQueue old.origin old.entries
    → has_older old e.clock ≡ true
    → closing ≡ old.clock
    → Restarts old closing e new closed
    → Takes old e new closed
restarts_older old closing e new closed keeps older is restarts =
    let message : closed ≡ messages_by old.origin old.clock old.entries = restarts.message ∙ ap (λ (clock : Clock). messages_by old.origin clock old.entries) is in
    let adds = adds_later old.origin old.clock old.entries e (begun e ∷ []) closed keeps older message refl in
    subst (λ (q : Queued). Takes old e q closed) (sym restarts.next) (takes old.origin old.clock old.entries e (begun e ∷ []) closed keeps adds)

-- what a queue and its message are when an event was taken
pub record Taken (old : Queued) (e : Event) (new : Queued) (closed : List Content) : Type 0 where
  pub closes : closed ≡ closed_before old e
  pub leaves : new.entries ≡ after old e
  pub takes_it : Takes old e new closed

-- the message had no room
pub restarts_full : (origin : Origin) (clock : Clock) (entries : List QueuedState) (old : Queued) (e : Event) (edit : Edit) (counts next : Counts) (new : Queued) (closed : List Content)
    → queued origin clock entries ≡ old
    → Keeps origin entries counts
    → with_entry e entries ≡ edited e.state edit entries
    → Exchanges edit.old edit.new (counts_of entries) (counts_of (edited e.state edit entries))
    → next ≡ exchanged counts edit.old edit.new
    → fits next ≡ false
    → has_older old e.clock ≡ false
    → Restarts old e.clock e new closed
    → Taken old e new closed
restarts_full origin clock entries old e edit counts next new closed view keeps is exchanges made full older restarts =
    subst (λ (q : Queued). has_older q e.clock ≡ false → Restarts q e.clock e new closed → Taken q e new closed) view
    (λ older restarts.
    let adds = enters_full origin clock entries e edit counts next (begun e ∷ []) closed keeps older is exchanges made full restarts.message refl in
    record {
      closes = adds.closes;
      leaves = ap (λ (q : Queued). q.entries) restarts.next ∙ adds.leaves;
      takes_it = subst (λ (q : Queued). Takes (queued origin clock entries) e q closed) (sym restarts.next) (takes origin clock entries e (begun e ∷ []) closed keeps.0 adds);
    })
    older restarts

-- ---- a queue that closes

pub closes_later : (origin : Origin) (at : Clock) (entries : List QueuedState) (clock : Clock) (new : List QueuedState) (closed : List Content) → new ≡ [] → closed ≡ messages_by origin clock entries
    → ClosesLater (queued origin at entries) clock (queued origin at new) closed
closes_later origin at entries clock new closed none message events later tells all later_on =
    let ends = later_events origin entries clock later events tells all later_on in
    ((none ∙ ends.0, λ some. absurd (let few : 0 < 0 = subst (λ (entries : List QueuedState). 0 < length entries) none some in omega (arith, few))), ends.1 ∙ ap (λ more. closed_at origin clock events ++ more) (sym message))

pub closes_last : (origin : Origin) (at : Clock) (entries : List QueuedState) (clock : Clock) (closed : List Content) → closed ≡ messages_by origin clock entries
    → ClosesLast (queued origin at entries) clock closed
closes_last origin at entries clock closed message events tells =
    last_events origin entries clock events tells ∙ ap (λ more. closed_at origin clock events ++ more) (sym message)
