-- What every queue keeps.
use Rattle.std.proofs.Common.{◌≡◌, ℕ, ◌+◌, ◌*◌, ◌≤◌, ◌<◌, ◌==◌, true, false, nat_lt, if◌then◌else◌, List, [], ◌∷◌, length, sym, refl, ap, ◌∙◌, subst, inl, inr, arith}
use Rattle.std.specs.List.{cons_option, filter}
use Rattle.std.proofs.lemmas.Bool.{and_parts, and_from, cases_Bool, cases_order, lt-ltb, le-ltb, ltb-true, eqb-true, eq-eqb, ne_eqb, leb-true}
use Rattle.std.proofs.Math.Nat.{mul-le-mul_right}
use Rattle.pfr_track.specs.declared.state.State.{State}
use Rattle.pfr_track.specs.declared.time.Clock.{Clock}
use Rattle.pfr_messages.specs.Messages.{Content}
use Rattle.pfr_sync.specs.declared.event.Event.{Event}
use Rattle.pfr_sync.specs.declared.event.EventKind.{EventKind}
use Rattle.pfr_sync.specs.declared.event.EventKind.TheVariants.{Made, Touched, Removed}
use Rattle.pfr_sync.specs.declared.origin.Origin.{Origin}
use Rattle.pfr_sync.specs.declared.queue.QueuedState.{QueuedState}
use Rattle.pfr_sync.specs.declared.queue.Action.{Action}
use Rattle.pfr_sync.specs.declared.queue.Action.TheVariants.{Insert, Update, Delete}
use Rattle.pfr_sync.specs.Messages.{is_short, is_insert, is_update, is_delete, messages_by}
use Rattle.pfr_sync.specs.Queues.{IsQueue, Queued, begun, followed, has_older, number_of, rise, with_entry, after, closed_before}
use Rattle.pfr_sync.specs.Sizes.{counts_of, has_room, section_size, size_of}
use Rattle.pfr_sync.proofs.NameLemmas.{AllFit}
use Rattle.pfr_sync.proofs.RiseLemmas.{are_above}
use Rattle.pfr_sync.proofs.SizeLemmas.{short_is}

-- ---- an event in its place

pub with_before : (event : Event) (x : QueuedState) (xs : List QueuedState) → event.state.number.0 < number_of x → with_entry event (x ∷ xs) ≡ begun event ∷ x ∷ xs
with_before event x xs before = rw (lt-ltb event.state.number.0 (number_of x) before) refl

pub with_over : (event : Event) (x : QueuedState) (xs : List QueuedState) → event.state.number.0 ≡ number_of x → with_entry event (x ∷ xs) ≡ cons_option (followed x.action event) xs
with_over event x xs is = rw (le-ltb event.state.number.0 (number_of x) (omega arith), eq-eqb event.state.number.0 (number_of x) is) refl

pub with_behind : (event : Event) (x : QueuedState) (xs : List QueuedState) → number_of x < event.state.number.0 → with_entry event (x ∷ xs) ≡ x ∷ with_entry event xs
with_behind event x xs behind = rw (le-ltb event.state.number.0 (number_of x) (omega arith), ne_eqb event.state.number.0 (number_of x) (λ is. absurd (omega arith))) refl

begun_by : (kind : EventKind) (state : State) (clock : Clock) → (begun (record { kind = kind; state = state; clock = clock })).state ≡ state
begun_by Made state clock = refl
begun_by Touched state clock = refl
begun_by Removed state clock = refl

pub begun_state : (event : Event) → (begun event).state ≡ event.state
begun_state event = begun_by event.kind event.state event.clock

number_begun : (event : Event) → number_of (begun event) ≡ event.state.number.0
number_begun event = ap (λ (state : State). state.number.0) (begun_state event)

above_begun : (n : ℕ) (event : Event) → nat_lt n event.state.number.0 ≡ true → nat_lt n (number_of (begun event)) ≡ true
above_begun n event it = ap (nat_lt n) (number_begun event) ∙ it

-- it begins with the state's entry, or is without
above_over_by : (n : ℕ) (action : Action) (kind : EventKind) (state : State) (clock : Clock) (xs : List QueuedState) → nat_lt n state.number.0 ≡ true → are_above n xs ≡ true
    → are_above n (cons_option (followed action (record { kind = kind; state = state; clock = clock })) xs) ≡ true
above_over_by n Insert Made state clock xs it above = rw it above
above_over_by n Insert Touched state clock xs it above = rw it above
above_over_by n Insert Removed state clock xs it above = above
above_over_by n Update Made state clock xs it above = rw it above
above_over_by n Update Touched state clock xs it above = rw it above
above_over_by n Update Removed state clock xs it above = rw it above
above_over_by n Delete Made state clock xs it above = rw it above
above_over_by n Delete Touched state clock xs it above = rw it above
above_over_by n Delete Removed state clock xs it above = rw it above

above_over : (n : ℕ) (action : Action) (event : Event) (xs : List QueuedState) → nat_lt n event.state.number.0 ≡ true → are_above n xs ≡ true → are_above n (cons_option (followed action event) xs) ≡ true
above_over n action event xs it above = above_over_by n action event.kind event.state event.clock xs it above

above_with : (n : ℕ) (event : Event) (xs : List QueuedState) → nat_lt n event.state.number.0 ≡ true → are_above n xs ≡ true → are_above n (with_entry event xs) ≡ true
above_with n event [] it above = and_from (nat_lt n (number_of (begun event))) true (above_begun n event it) refl
above_with n event (x ∷ xs) it above =
    let parts = and_parts (nat_lt n (number_of x)) (are_above n xs) above in
    elim (cases_order event.state.number.0 (number_of x)) [
      | inl same ↦ rw (with_over event x xs same) (above_over n x.action event xs it parts.1)
      | inr (inl before) ↦ rw (with_before event x xs before) (and_from (nat_lt n (number_of (begun event))) (are_above n (x ∷ xs)) (above_begun n event it) above)
      | inr (inr behind) ↦ rw (with_behind event x xs behind, parts.0) (above_with n event xs it parts.1)
    ]

above_lower : (m n : ℕ) (xs : List QueuedState) → m ≤ n → are_above n xs ≡ true → are_above m xs ≡ true
above_lower m n [] low above = refl
above_lower m n (x ∷ xs) low above =
    let parts = and_parts (nat_lt n (number_of x)) (are_above n xs) above in
    let less = ltb-true n (number_of x) parts.0 in
    rw (lt-ltb m (number_of x) (omega arith)) (above_lower m n xs low parts.1)

rise_over_by : (action : Action) (kind : EventKind) (state : State) (clock : Clock) (xs : List QueuedState) → are_above state.number.0 xs ≡ true → rise xs ≡ true
    → rise (cons_option (followed action (record { kind = kind; state = state; clock = clock })) xs) ≡ true
rise_over_by Insert Made state clock xs above in_order = rw above in_order
rise_over_by Insert Touched state clock xs above in_order = rw above in_order
rise_over_by Insert Removed state clock xs above in_order = in_order
rise_over_by Update Made state clock xs above in_order = rw above in_order
rise_over_by Update Touched state clock xs above in_order = rw above in_order
rise_over_by Update Removed state clock xs above in_order = rw above in_order
rise_over_by Delete Made state clock xs above in_order = rw above in_order
rise_over_by Delete Touched state clock xs above in_order = rw above in_order
rise_over_by Delete Removed state clock xs above in_order = rw above in_order

pub rise_with : (event : Event) (xs : List QueuedState) → rise xs ≡ true → rise (with_entry event xs) ≡ true
rise_with event [] in_order = refl
rise_with event (x ∷ xs) in_order =
    let parts = and_parts (are_above (number_of x) xs) (rise xs) in_order in
    elim (cases_order event.state.number.0 (number_of x)) [
      | inl same ↦ rw (with_over event x xs same) (rise_over_by x.action event.kind event.state event.clock xs (above_lower event.state.number.0 (number_of x) xs (omega arith) parts.0) parts.1)
      | inr (inl before) ↦
          let above : are_above event.state.number.0 (x ∷ xs) ≡ true = rw (lt-ltb event.state.number.0 (number_of x) before) (above_lower event.state.number.0 (number_of x) xs (omega arith) parts.0) in
          rw (with_before event x xs before) (and_from (are_above (number_of (begun event)) (x ∷ xs)) (rise (x ∷ xs)) (subst (λ (n : ℕ). are_above n (x ∷ xs) ≡ true) (sym (number_begun event)) above) in_order)
      | inr (inr behind) ↦
          rw (with_behind event x xs behind) (and_from (are_above (number_of x) (with_entry event xs)) (rise (with_entry event xs)) (above_with (number_of x) event xs (lt-ltb (number_of x) event.state.number.0 behind) parts.0) (rise_with event xs parts.1))
    ]

-- ---- queues

pub queue_from : (origin : Origin) (entries : List QueuedState) → AllFit origin.interfaces → length origin.checksum ≡ 16 → rise entries ≡ true → has_room entries ≡ true → IsQueue origin entries
queue_from origin entries interfaces checksum in_order room = record {
  interfaces = interfaces;
  checksum = checksum;
  in_order = in_order;
  short = λ clock. short_is origin clock entries interfaces checksum ∙ room;
}

one_by : (action : Action) (state : State) → has_room (record { action = action; state = state } ∷ []) ≡ true
one_by Insert state = refl
one_by Update state = refl
one_by Delete state = refl

pub one_short : (entry : QueuedState) → has_room (entry ∷ []) ≡ true
one_short entry = one_by entry.action entry.state

pub queue_empty : (origin : Origin) → AllFit origin.interfaces → length origin.checksum ≡ 16 → IsQueue origin []
queue_empty origin interfaces checksum = queue_from origin [] interfaces checksum refl refl

pub queue_one : (origin : Origin) (entry : QueuedState) → AllFit origin.interfaces → length origin.checksum ≡ 16 → IsQueue origin (entry ∷ [])
queue_one origin entry interfaces checksum = queue_from origin (entry ∷ []) interfaces checksum refl (one_short entry)

-- ---- few entries

kinds_by : (action : Action) (state : State) (xs : List QueuedState)
    → length (filter is_insert xs) + (length (filter is_update xs) + length (filter is_delete xs)) ≡ length xs
    → let all = record { action = action; state = state } ∷ xs in length (filter is_insert all) + (length (filter is_update all) + length (filter is_delete all)) ≡ length all
kinds_by Insert state xs rest = omega arith
kinds_by Update state xs rest = omega arith
kinds_by Delete state xs rest = omega arith

pub kinds : (xs : List QueuedState) → length (filter is_insert xs) + (length (filter is_update xs) + length (filter is_delete xs)) ≡ length xs
kinds [] = refl
kinds (x ∷ xs) = kinds_by x.action x.state xs (kinds xs)

section_least : (size n : ℕ) → 12 ≤ size → 12 * n ≤ section_size size n
section_least size n least = elim (cases_Bool (n == 0)) [
  | inl is ↦ rw is (let zero : n ≡ 0 = eqb-true n 0 is in omega arith)
  | inr not_it ↦ rw not_it (let more = mul-le-mul_right n least in omega arith)
]

pub few : (origin : Origin) (entries : List QueuedState) → IsQueue origin entries → length entries ≤ 121
few origin entries keeps =
    let clock : Clock = record { 0 = 0 } in
    let room : has_room entries ≡ true = sym (short_is origin clock entries keeps.interfaces keeps.checksum) ∙ keeps.short clock in
    let size = leb-true (size_of (counts_of entries)) 1480 room in
    let all = kinds entries in
    let i = section_least 242 (length (filter is_insert entries)) (omega arith) in
    let u = section_least 84 (length (filter is_update entries)) (omega arith) in
    let d = section_least 12 (length (filter is_delete entries)) (omega arith) in
    omega arith

pub few_entries : (origin : Origin) (entries : List QueuedState) → IsQueue origin entries → length entries ≤ 1000
few_entries origin entries keeps = omega (arith, few origin entries keeps)

-- ---- an event

abbrev pub queued : Origin → Clock → List QueuedState → Queued
queued origin clock entries = record { origin = origin; clock = clock; entries = entries }

-- what closes before an event, and what is told then, by the message's room alone
abbrev pub closed_by_room : Origin → List QueuedState → Event → List Content
closed_by_room origin entries event =
    if is_short origin event.clock (with_entry event entries) then [] else messages_by origin event.clock entries

abbrev pub after_by_room : Origin → List QueuedState → Event → List QueuedState
after_by_room origin entries event =
    if is_short origin event.clock (with_entry event entries) then with_entry event entries else with_entry event []

pub short_alone : (origin : Origin) (entries : List QueuedState) (e : Event) → IsQueue origin entries → is_short origin e.clock (begun e ∷ []) ≡ true
short_alone origin entries e keeps = short_is origin e.clock (begun e ∷ []) keeps.interfaces keeps.checksum ∙ one_short (begun e)

-- room alone counts if nothing is told that is older than the event
pub by_room : (origin : Origin) (clock : Clock) (entries : List QueuedState) (event : Event) → has_older (queued origin clock entries) event.clock ≡ false
    → (closed_before (queued origin clock entries) event ≡ closed_by_room origin entries event) × (after (queued origin clock entries) event ≡ after_by_room origin entries event)
by_room origin clock entries event none = rw none (refl, refl)

-- an event later than all that is told
pub by_clock : (origin : Origin) (clock at : Clock) (entries : List QueuedState) (event : Event) → IsQueue origin entries
    → (0 < length entries → clock ≡ at) → at.0 < event.clock.0
    → (closed_before (queued origin clock entries) event ≡ messages_by origin at entries) × (after (queued origin clock entries) event ≡ begun event ∷ [])
by_clock origin clock at [] event keeps is_at later = rw (short_alone origin [] event keeps) (refl, refl)
by_clock origin clock at (x ∷ xs) event keeps is_at later =
    let some : 0 < length (x ∷ xs) = omega arith in
    rw (is_at some, lt-ltb 0 (length (x ∷ xs)) some, lt-ltb at.0 event.clock.0 later) (refl, refl)

-- what the entries are when an event was told
pub record Adds (origin : Origin) (clock : Clock) (entries : List QueuedState) (event : Event) (new : List QueuedState) (closed : List Content) : Type 0 where
  pub keeps : IsQueue origin new
  pub closes : closed ≡ closed_before (queued origin clock entries) event
  pub leaves : new ≡ after (queued origin clock entries) event

pub adds_room : (origin : Origin) (clock : Clock) (entries : List QueuedState) (event : Event) (new : List QueuedState)
    → IsQueue origin entries
    → has_older (queued origin clock entries) event.clock ≡ false
    → has_room (with_entry event entries) ≡ true
    → new ≡ with_entry event entries
    → Adds origin clock entries event new []
adds_room origin clock entries event new queue older room leaves =
    let short : is_short origin event.clock (with_entry event entries) ≡ true = short_is origin event.clock (with_entry event entries) queue.interfaces queue.checksum ∙ room in
    let is = by_room origin clock entries event older in
    record {
      keeps = rw leaves (queue_from origin (with_entry event entries) queue.interfaces queue.checksum (rise_with event entries queue.in_order) room);
      closes = sym (is.0 ∙ rw short refl);
      leaves = leaves ∙ sym (is.1 ∙ rw short refl);
    }

pub adds_full : (origin : Origin) (clock : Clock) (entries : List QueuedState) (event : Event) (new : List QueuedState) (closed : List Content)
    → IsQueue origin entries
    → has_older (queued origin clock entries) event.clock ≡ false
    → has_room (with_entry event entries) ≡ false
    → closed ≡ messages_by origin event.clock entries
    → new ≡ begun event ∷ []
    → Adds origin clock entries event new closed
adds_full origin clock entries event new closed queue older full message made =
    let long : is_short origin event.clock (with_entry event entries) ≡ false = short_is origin event.clock (with_entry event entries) queue.interfaces queue.checksum ∙ full in
    let is = by_room origin clock entries event older in
    record {
      keeps = rw made (queue_one origin (begun event) queue.interfaces queue.checksum);
      closes = message ∙ sym (is.0 ∙ rw long refl);
      leaves = made ∙ sym (is.1 ∙ rw long refl);
    }

pub adds_later : (origin : Origin) (clock : Clock) (entries : List QueuedState) (event : Event) (new : List QueuedState) (closed : List Content)
    → IsQueue origin entries
    → has_older (queued origin clock entries) event.clock ≡ true
    → closed ≡ messages_by origin clock entries
    → new ≡ begun event ∷ []
    → Adds origin clock entries event new closed
adds_later origin clock entries event new closed queue later message made = record {
  keeps = rw made (queue_one origin (begun event) queue.interfaces queue.checksum);
  closes = rw later message;
  leaves = rw later made;
}
