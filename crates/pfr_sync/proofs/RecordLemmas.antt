-- The records of a message are of events.
use Rattle.std.proofs.Common.{◌≡◌, ℕ, ◌==◌, Bool, true, false, List, [], ◌∷◌, ◌++◌, map, fold, Option, Some, None, sym, refl, ap, ◌∙◌, subst, inl, inr}
use Rattle.std.specs.List.{All, AllByRecursion, cons_option, filter, flat_map, list_any}
use Rattle.std.specs.Option.{IfSome}
use Rattle.std.proofs.ByRecursion as by_recursion
use Rattle.std.proofs.lemmas.Bool.{and_parts, cases_Bool, eqb-true}
use Rattle.std.proofs.lemmas.List.{append_assoc, append-nil}
use Rattle.std.proofs.lemmas.List.Elements.{All-append, All-from_recursion}
use Rattle.pfr_track.specs.declared.state.State.{State}
use Rattle.pfr_track.specs.declared.time.Clock.{Clock}
use Rattle.pfr_sync.specs.declared.event.Event.{Event}
use Rattle.pfr_sync.specs.declared.origin.Origin.{Origin}
use Rattle.pfr_sync.specs.declared.queue.QueuedState.{QueuedState}
use Rattle.pfr_sync.specs.declared.queue.Action.{Action}
use Rattle.pfr_sync.specs.declared.queue.Action.TheVariants.{Insert, Update, Delete}
use Rattle.pfr_sync.specs.Events.{deletion_of, insertion_of, is_made, is_of, is_removed, update_of}
use Rattle.pfr_sync.specs.Laws.{IsLastOfItsState, IsOfAnEvent, RecordsAreOfEvents, TellsOfEvents, is_new}
use Rattle.pfr_sync.specs.Messages.{Parts, belongs, entries_by, entries_of, is_delete, is_insert, is_short, is_update, last_of, message_of, messages_by, numbers_of, parts_of, told_by, told_of, with_event}
use Rattle.pfr_sync.proofs.EntryLemmas.{entries_step}
use Rattle.pfr_sync.proofs.PartLemmas.{behind_front, parts_joined}
use Rattle.pfr_sync.proofs.ToldLemmas.{told_at}

-- ---- the events of one state

-- the first and the last of the events of a number
record AreEnds (n : ℕ) (part : List Event) (first end : Event) : Type 0 where
  pub it_is : is_of n end ≡ true
  pub last : IsLastOfItsState end part
  pub begins : is_new n part ≡ is_made first

none_of : (p : Event → Bool) (events : List Event) → filter p events ≡ [] → list_any p events ≡ false
none_of p [] none = refl
none_of p (x ∷ events) none = elim (cases_Bool (p x)) [
  | inl it_is ↦ let some : x ∷ filter p events ≡ [] = rw it_is at none in absurd cc
  | inr not_it ↦ rw not_it (none_of p events (rw not_it at none))
]

only_one : (n : ℕ) (x : Event) (part : List Event) → is_of n x ≡ true → filter (is_of n) part ≡ [] → AreEnds n (x ∷ part) x x
only_one n x part it none = record {
  it_is = it;
  last = record {
    before = [];
    after = part;
    is = refl;
    none_follows = subst (λ (m : ℕ). list_any (is_of m) part ≡ false) (sym (eqb-true x.state.number.0 n it)) (none_of (is_of n) part none);
  };
  begins = rw it refl;
}

last_behind : (x end : Event) (part : List Event) → IsLastOfItsState end part → IsLastOfItsState end (x ∷ part)
last_behind x end part last = record {
  before = x ∷ last.before;
  after = last.after;
  is = ap (λ (rest : List Event). x ∷ rest) last.is;
  none_follows = last.none_follows;
}

begins_with : (n : ℕ) (x second end : Event) (part : List Event) → is_of n x ≡ true → AreEnds n part second end → AreEnds n (x ∷ part) x end
begins_with n x second end part it ends = record {
  it_is = ends.it_is;
  last = last_behind x end part ends.last;
  begins = rw it refl;
}

behind_other : (n : ℕ) (x first end : Event) (part : List Event) → is_of n x ≡ false → AreEnds n part first end → AreEnds n (x ∷ part) first end
behind_other n x first end part other ends = record {
  it_is = ends.it_is;
  last = last_behind x end part ends.last;
  begins = rw other ends.begins;
}

ends_of : (n : ℕ) (part : List Event) (first : Event) (rest : List Event) → filter (is_of n) part ≡ first ∷ rest → AreEnds n part first (last_of first rest)
ends_of n [] first rest is = absurd cc
ends_of n (x ∷ part) first [] is = elim (cases_Bool (is_of n x)) [
  | inl it ↦
      let kept : x ∷ filter (is_of n) part ≡ first ∷ [] = rw it at is in
      let same : x ≡ first = cc in
      subst (λ (first : Event). AreEnds n (x ∷ part) first first) same (only_one n x part it cc)
  | inr other ↦ behind_other n x first first part other (ends_of n part first [] (rw other at is))
]
ends_of n (x ∷ part) first (second ∷ more) is = elim (cases_Bool (is_of n x)) [
  | inl it ↦
      let kept : x ∷ filter (is_of n) part ≡ first ∷ second ∷ more = rw it at is in
      let same : x ≡ first = cc in
      subst (λ (first : Event). AreEnds n (x ∷ part) first (last_of second more)) same (begins_with n x second (last_of second more) part it (ends_of n part second more cc))
  | inr other ↦ behind_other n x first (last_of second more) part other (ends_of n part first (second ∷ more) (rw other at is))
]

-- ---- entries

-- an entry tells of the last event of its state
record IsEntryOf (part : List Event) (entry : QueuedState) : Type 0 where
  pub event : Event
  pub last : IsLastOfItsState event part
  pub state : entry.state ≡ event.state
  pub begins : is_new event.state.number.0 part ≡ is_insert entry
  pub ends : is_removed event ≡ is_delete entry

entry_by : (n : ℕ) (part : List Event) (first end : Event) → AreEnds n part first end → IfSome (told_by first end) (IsEntryOf part)
entry_by n part first end ends =
    let begins : is_new end.state.number.0 part ≡ is_made first = ap (λ (m : ℕ). is_new m part) (eqb-true end.state.number.0 n ends.it_is) ∙ ends.begins in
    elim (cases_Bool (is_made first)) [
      | inl made ↦ elim (cases_Bool (is_removed end)) [
        | inl gone ↦ rw (made, gone) tt
        | inr gone ↦ rw (made, gone) (record { event = end; last = ends.last; state = refl; begins = begins ∙ made; ends = gone })
      ]
      | inr made ↦ elim (cases_Bool (is_removed end)) [
        | inl gone ↦ rw (made, gone) (record { event = end; last = ends.last; state = refl; begins = begins ∙ made; ends = gone })
        | inr gone ↦ rw (made, gone) (record { event = end; last = ends.last; state = refl; begins = begins ∙ made; ends = gone })
      ]
    ]

entry_from : (n : ℕ) (part kept : List Event) → filter (is_of n) part ≡ kept → IfSome (told_of kept) (IsEntryOf part)
entry_from n part [] is = tt
entry_from n part (first ∷ rest) is = entry_by n part first (last_of first rest) (ends_of n part first rest is)

put_entry : (part : List Event) (told : Option QueuedState) (rest : List QueuedState) → IfSome told (IsEntryOf part) → AllByRecursion (IsEntryOf part) rest
    → AllByRecursion (IsEntryOf part) (cons_option told rest)
put_entry part None rest is all = all
put_entry part (Some entry) rest is all = (is, all)

entries_from : (part : List Event) (numbers : List ℕ) → AllByRecursion (IsEntryOf part) (entries_by part numbers)
entries_from part [] = tt
entries_from part (n ∷ numbers) =
    rw (entries_step part n numbers) (put_entry part (told_at n part) (entries_by part numbers) (entry_from n part (filter (is_of n) part) refl) (entries_from part numbers))

-- ---- records

record IsKind (makes removes : Bool) (entry : QueuedState) : Type 0 where
  pub inserts : is_insert entry ≡ makes
  pub deletes : is_delete entry ≡ removes

insert_kind : (action : Action) (state : State) → let entry : QueuedState = record { action = action; state = state } in is_insert entry ≡ true → IsKind true false entry
insert_kind Insert state is = record { inserts = refl; deletes = refl }
insert_kind Update state is = absurd cc
insert_kind Delete state is = absurd cc

update_kind : (action : Action) (state : State) → let entry : QueuedState = record { action = action; state = state } in is_update entry ≡ true → IsKind false false entry
update_kind Insert state is = absurd cc
update_kind Update state is = record { inserts = refl; deletes = refl }
update_kind Delete state is = absurd cc

delete_kind : (action : Action) (state : State) → let entry : QueuedState = record { action = action; state = state } in is_delete entry ≡ true → IsKind false true entry
delete_kind Insert state is = absurd cc
delete_kind Update state is = absurd cc
delete_kind Delete state is = record { inserts = refl; deletes = refl }

clock_there : (clock : Clock) (e : Event) (part : List Event) → AllByRecursion (λ (e : Event). e.clock ≡ clock) part → IsLastOfItsState e part → e.clock ≡ clock
clock_there clock e part all last =
    (behind_front (λ (e : Event). e.clock ≡ clock) last.before (e ∷ last.after) (subst (AllByRecursion (λ (e : Event). e.clock ≡ clock)) last.is all)).0

record_of : {R : Type 0} (made_of : Clock → State → R) (makes removes : Bool) (part : List Event) (clock : Clock) (entry : QueuedState)
    → AllByRecursion (λ (e : Event). e.clock ≡ clock) part → IsKind makes removes entry → IsEntryOf part entry
    → IsOfAnEvent made_of makes removes part (made_of clock entry.state)
record_of made_of makes removes part clock entry all kind is = record {
  event = is.event;
  last = is.last;
  is = ap (λ (clock : Clock). made_of clock entry.state) (sym (clock_there clock is.event part all is.last)) ∙ ap (made_of is.event.clock) is.state;
  begins = is.begins ∙ kind.inserts;
  ends = is.ends ∙ kind.deletes;
}

records_of : {R : Type 0} (made_of : Clock → State → R) (makes removes : Bool) (p : QueuedState → Bool) (part : List Event) (clock : Clock) (entries : List QueuedState)
    → AllByRecursion (λ (e : Event). e.clock ≡ clock) part → ((entry : QueuedState) → p entry ≡ true → IsKind makes removes entry) → AllByRecursion (IsEntryOf part) entries
    → AllByRecursion (IsOfAnEvent made_of makes removes part) (map (λ entry. made_of clock entry.state) (filter p entries))
records_of made_of makes removes p part clock [] at kinds all = tt
records_of made_of makes removes p part clock (entry ∷ entries) at kinds all = elim (cases_Bool (p entry)) [
  | inl it_is ↦ rw it_is (record_of made_of makes removes part clock entry at (kinds entry it_is) all.0, records_of made_of makes removes p part clock entries at kinds all.1)
  | inr not_it ↦ rw not_it (records_of made_of makes removes p part clock entries at kinds all.1)
]

-- ---- parts

-- the events of a part follow one another
record IsPartOf (events part : List Event) : Type 0 where
  pub before : List Event
  pub after : List Event
  pub is : events ≡ before ++ part ++ after

parts_of_joined : (events front : List Event) (closed : List (List Event)) (rest : List Event) → events ≡ front ++ (flat_map (λ (part : List Event). part) closed ++ rest)
    → AllByRecursion (IsPartOf events) closed
parts_of_joined events front [] rest is = tt
parts_of_joined events front (part ∷ closed) rest is =
    let next : events ≡ (front ++ part) ++ (flat_map (λ (part : List Event). part) closed ++ rest) =
    is ∙ ap (λ (more : List Event). front ++ more) (append_assoc part (flat_map (λ (part : List Event). part) closed) rest)
    ∙ sym (append_assoc front part (flat_map (λ (part : List Event). part) closed ++ rest)) in
    (record { before = front; after = flat_map (λ (part : List Event). part) closed ++ rest; is = next }, parts_of_joined events (front ++ part) closed rest next)

-- the events of a part are of the clock of the first one
abbrev AtOneClock : List Event → Type 0
AtOneClock [] = Unit {0}
AtOneClock (first ∷ part) = AllByRecursion (λ (e : Event). e.clock ≡ first.clock) (first ∷ part)

record AreOfOneClock (parts : Parts) : Type 0 where
  pub closed : AllByRecursion AtOneClock parts.closed
  pub last : AtOneClock parts.last

clock_push : (origin : Origin) (part : List Event) (e : Event) → AtOneClock part → belongs origin part e ≡ true → AtOneClock (part ++ e ∷ [])
clock_push origin [] e all belongs = (refl, tt)
clock_push origin (first ∷ part) e all belongs =
    let same : e.clock ≡ first.clock = ap (λ (n : ℕ). let c : Clock = record { 0 = n } in c) (sym (eqb-true first.clock.0 e.clock.0 (and_parts (first.clock.0 == e.clock.0) (is_short origin e.clock (entries_of ((first ∷ part) ++ e ∷ []))) belongs).0)) in
    by_recursion.All-append (λ (e : Event). e.clock ≡ first.clock) (first ∷ part) (e ∷ []) all (same, tt)

clocks_step : (origin : Origin) (parts : Parts) (e : Event) → AreOfOneClock parts → AreOfOneClock (with_event origin parts e)
clocks_step origin parts e all = elim (cases_Bool (belongs origin parts.last e)) [
  | inl is ↦ rw is (record { closed = all.closed; last = clock_push origin parts.last e all.last is })
  | inr is ↦ rw is (record { closed = by_recursion.All-append AtOneClock parts.closed (parts.last ∷ []) all.closed (all.last, tt); last = (refl, tt) })
]

clocks_from : (origin : Origin) (parts : Parts) (events : List Event) → AreOfOneClock parts → AreOfOneClock (fold (with_event origin) parts events)
clocks_from origin parts [] all = all
clocks_from origin parts (e ∷ events) all = clocks_from origin (with_event origin parts e) events (clocks_step origin parts e all)

-- ---- messages

entries_tell : (origin : Origin) (events part : List Event) (clock : Clock) (entries : List QueuedState)
    → IsPartOf events part → AllByRecursion (λ (e : Event). e.clock ≡ clock) part → AllByRecursion (IsEntryOf part) entries
    → AllByRecursion (TellsOfEvents origin events) (messages_by origin clock entries)
entries_tell origin events part clock [] is at all = tt
entries_tell origin events part clock (entry ∷ entries) is at all = (
  record {
    clock = clock;
    before = is.before;
    part = part;
    after = is.after;
    is = is.is;
    at_clock = All-from_recursion (λ (e : Event). e.clock ≡ clock) part at;
    insertions = All-from_recursion (IsOfAnEvent (insertion_of origin) true false part) _
        (records_of (insertion_of origin) true false is_insert part clock (entry ∷ entries) at (λ entry is. insert_kind entry.action entry.state is) all);
    updates = All-from_recursion (IsOfAnEvent (update_of origin) false false part) _
        (records_of (update_of origin) false false is_update part clock (entry ∷ entries) at (λ entry is. update_kind entry.action entry.state is) all);
    deletions = All-from_recursion (IsOfAnEvent (λ clock. deletion_of origin) false true part) _
        (records_of (λ clock. deletion_of origin) false true is_delete part clock (entry ∷ entries) at (λ entry is. delete_kind entry.action entry.state is) all);
  },
  tt,
)

part_tells : (origin : Origin) (events part : List Event) → IsPartOf events part → AtOneClock part → All (TellsOfEvents origin events) (message_of origin part)
part_tells origin events [] is at = All-from_recursion (TellsOfEvents origin events) [] tt
part_tells origin events (first ∷ part) is at =
    All-from_recursion (TellsOfEvents origin events) (message_of origin (first ∷ part))
    (entries_tell origin events (first ∷ part) first.clock (entries_of (first ∷ part)) is at (entries_from (first ∷ part) (numbers_of (first ∷ part))))

parts_tell : (origin : Origin) (events : List Event) (parts : List (List Event)) → AllByRecursion (IsPartOf events) parts → AllByRecursion AtOneClock parts
    → All (TellsOfEvents origin events) (flat_map (message_of origin) parts)
parts_tell origin events [] are at = All-from_recursion (TellsOfEvents origin events) [] tt
parts_tell origin events (part ∷ parts) are at =
    All-append (TellsOfEvents origin events) (message_of origin part) (flat_map (message_of origin) parts)
    (part_tells origin events part are.0 at.0) (parts_tell origin events parts are.1 at.1)

pub records_are_of_events : RecordsAreOfEvents
records_are_of_events origin events =
    let parts = parts_of origin events in
    let joined = sym (parts_joined origin events) in
    let at = clocks_from origin (record { closed = []; last = [] }) events (record { closed = tt; last = tt }) in
    let last : IsPartOf events parts.last = record { before = flat_map (λ (part : List Event). part) parts.closed; after = []; is = joined ∙ sym (append-nil (flat_map (λ (part : List Event). part) parts.closed ++ parts.last)) } in
    All-append (TellsOfEvents origin events) (flat_map (message_of origin) parts.closed) (message_of origin parts.last)
    (parts_tell origin events parts.closed (parts_of_joined events [] parts.closed parts.last joined) at.closed)
    (part_tells origin events parts.last last at.last)
