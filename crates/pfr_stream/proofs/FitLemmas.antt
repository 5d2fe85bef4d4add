-- The messages of events fit.
use Rattle.std.proofs.Common.{◌≡◌, ℕ, ◌==◌, Bool, true, false, List, [], ◌∷◌, ◌++◌, length, map, fold, Option, Some, None, refl, sym, ap, subst, ◌∙◌, inl, inr}
use Rattle.std.specs.List.{All, AllByRecursion, cons_option, filter, flat_map, list_all}
use Rattle.std.proofs.lemmas.Bool.{and_from, and_parts, cases_Bool, eqb-true}
use Rattle.std.proofs.lemmas.List.Elements.{All-append, All-cons, All-filter, All-head, All-nil, All-push, All-tail, All-weaker, recursion_from_All}
use Rattle.pfr_track.specs.declared.state.State.{State}
use Rattle.pfr_track.specs.declared.time.Clock.{Clock}
use Rattle.pfr_messages.specs.Records.{deletion, insertion, update}
use Rattle.pfr_messages.specs.Messages.{Fits}
use Rattle.pfr_messages.proofs.Fitting.{all, deletion_tests, each, insertion_tests, update_tests}
use Rattle.pfr_sync.specs.declared.event.Event.{Event}
use Rattle.pfr_sync.specs.declared.origin.Origin.{Origin}
use Rattle.pfr_sync.specs.declared.queue.QueuedState.{QueuedState}
use Rattle.pfr_sync.specs.Events.{deletion_of, insertion_of, is_made, is_of, is_removed, update_of}
use Rattle.pfr_sync.specs.Messages.{Parts, belongs, content_of, entries_by, entries_of, is_delete, is_insert, is_short, is_update, last_of, message_of, messages_by, numbers_of, parts_of, told_by, told_of, with_event}
use Rattle.pfr_sync.specs.Queues.{begun, rise}
use Rattle.pfr_sync.specs.Sizes.{has_room}
use Rattle.pfr_sync.proofs.EntryLemmas.{entries_above, entries_push, entries_step}
use Rattle.pfr_sync.proofs.MessageLemmas.{AreTellable, Fit, content_fits}
use Rattle.pfr_sync.proofs.NameLemmas.{fits_sixteen}
use Rattle.pfr_sync.proofs.NumberLemmas.{all_above, ascend, numbers_ascend}
use Rattle.pfr_sync.proofs.QueueLemmas.{one_short}
use Rattle.pfr_sync.proofs.RiseLemmas.{are_above}
use Rattle.pfr_sync.proofs.SizeLemmas.{IsNamed, short_named}
use Rattle.pfr_sync.proofs.ToldLemmas.{IsOf, told_at, told_is_of}
use Rattle.pfr_stream.specs.Laws.{IsSpelled, MessagesOfEventsFit}

-- ---- what is told is of the events' states

abbrev IsToldOf : (State → Type 0) → Option QueuedState → Type 0
IsToldOf Q None = Unit {0}
IsToldOf Q (Some entry) = Q entry.state

last_holds : (Q : State → Type 0) (e : Event) (events : List Event) → Q e.state → AllByRecursion (λ (e : Event). Q e.state) events → Q (last_of e events).state
last_holds Q e [] here rest = here
last_holds Q e (next ∷ events) here rest = last_holds Q next events rest.0 rest.1

told_by_cases : (Q : State → Type 0) (last : Event) (made removed : Bool) → Q last.state → (first : Event) → is_made first ≡ made → is_removed last ≡ removed → IsToldOf Q (told_by first last)
told_by_cases Q last true true here first is gone = rw (is, gone) tt
told_by_cases Q last true false here first is gone = rw (is, gone) here
told_by_cases Q last false true here first is gone = rw (is, gone) here
told_by_cases Q last false false here first is gone = rw (is, gone) here

told_holds : (Q : State → Type 0) (events : List Event) → AllByRecursion (λ (e : Event). Q e.state) events → IsToldOf Q (told_of events)
told_holds Q [] holds = tt
told_holds Q (e ∷ events) holds = told_by_cases Q (last_of e events) (is_made e) (is_removed (last_of e events)) (last_holds Q e events holds.0 holds.1) e refl refl

put_holds : (Q : State → Type 0) (told : Option QueuedState) (entries : List QueuedState) → IsToldOf Q told → All (λ (entry : QueuedState). Q entry.state) entries
    → All (λ (entry : QueuedState). Q entry.state) (cons_option told entries)
put_holds Q None entries here rest = rest
put_holds Q (Some entry) entries here rest = All-cons (λ (entry : QueuedState). Q entry.state) entry entries here rest

entries_hold : (Q : State → Type 0) (events : List Event) (numbers : List ℕ) → All (λ (e : Event). Q e.state) events → All (λ (entry : QueuedState). Q entry.state) (entries_by events numbers)
entries_hold Q events [] holds = All-nil (λ (entry : QueuedState). Q entry.state)
entries_hold Q events (n ∷ numbers) holds =
    let P : Event → Type 0 = λ e. Q e.state in
    rw (entries_step events n numbers)
    (put_holds Q (told_at n events) (entries_by events numbers) (told_holds Q (filter (is_of n) events) (recursion_from_All P (filter (is_of n) events) (All-filter (is_of n) P events holds)))
    (entries_hold Q events numbers holds))

-- ---- records of them fit

abbrev FitsAt : Origin → Clock → State → Type 0
FitsAt origin clock state = insertion.fits (insertion_of origin clock state) ≡ true

update_fits : (origin : Origin) (clock : Clock) (state : State) → FitsAt origin clock state → update.fits (update_of origin clock state) ≡ true
update_fits origin clock state fits =
    let parts = each (insertion_tests (insertion_of origin clock state)) fits in
    all (update_tests (update_of origin clock state)) (parts.0, (parts.1.1.1.1.0, (parts.1.1.1.1.1.0, (parts.1.1.1.1.1.1.1.1.1.1.1.1.1.1.0, (parts.1.1.1.1.1.1.1.1.1.0, tt)))))

deletion_fits : (origin : Origin) (clock : Clock) (state : State) → FitsAt origin clock state → deletion.fits (deletion_of origin state) ≡ true
deletion_fits origin clock state fits =
    let parts = each (insertion_tests (insertion_of origin clock state)) fits in
    all (deletion_tests (deletion_of origin state)) (parts.0, (parts.1.1.1.1.1.1.1.1.1.1.1.1.1.1.0, tt))

named_at : (origin : Origin) (clock : Clock) (entry : QueuedState) → FitsAt origin clock entry.state → IsNamed origin entry
named_at origin clock entry fits =
    let r = insertion_of origin clock entry.state in
    fits_sixteen r.interface (each (insertion_tests r) fits).1.0

all_named_at : (origin : Origin) (clock : Clock) (entries : List QueuedState) → All (λ (entry : QueuedState). FitsAt origin clock entry.state) entries
    → All (IsNamed origin) entries
all_named_at origin clock entries fit =
    All-weaker (λ (entry : QueuedState). FitsAt origin clock entry.state) (IsNamed origin) (λ entry here. named_at origin clock entry here) entries fit

records_fit : {R : Type 0} (fits : R → Bool) (f : QueuedState → R) (entries : List QueuedState) → AllByRecursion (λ (e : QueuedState). fits (f e) ≡ true) entries
    → list_all fits (map f entries) ≡ true
records_fit fits f [] each = refl
records_fit fits f (e ∷ entries) each = and_from (fits (f e)) (list_all fits (map f entries)) each.0 (records_fit fits f entries each.1)

kept_fit : {R : Type 0} (fits : R → Bool) (f : QueuedState → R) (p : QueuedState → Bool) (entries : List QueuedState) → All (λ (e : QueuedState). fits (f e) ≡ true) entries
    → list_all fits (map f (filter p entries)) ≡ true
kept_fit fits f p entries each =
    let P : QueuedState → Type 0 = λ e. fits (f e) ≡ true in
    records_fit fits f (filter p entries) (recursion_from_All P (filter p entries) (All-filter p P entries each))

-- ---- the message of a part

rise_put : (n : ℕ) (told : Option QueuedState) (rest : List QueuedState) → IsOf n told → are_above n rest ≡ true → rise rest ≡ true → rise (cons_option told rest) ≡ true
rise_put n None rest is above in_order = in_order
rise_put n (Some entry) rest is above in_order = rw is (and_from (are_above n rest) (rise rest) above in_order)

rise_by : (events : List Event) (numbers : List ℕ) → ascend numbers ≡ true → rise (entries_by events numbers) ≡ true
rise_by events [] in_order = refl
rise_by events (n ∷ numbers) in_order =
    let parts = and_parts (all_above n numbers) (ascend numbers) in_order in
    rw (entries_step events n numbers) (rise_put n (told_at n events) (entries_by events numbers) (told_is_of n events) (entries_above events n numbers parts.0) (rise_by events numbers parts.1))

told_fit : (origin : Origin) (clock : Clock) (entries : List QueuedState) → AreTellable origin entries → All (λ (entry : QueuedState). FitsAt origin clock entry.state) entries
    → All Fits (messages_by origin clock entries)
told_fit origin clock [] are fit = All-nil Fits
told_fit origin clock (entry ∷ entries) are fit =
    let whole : List QueuedState = entry ∷ entries in
    let P : QueuedState → Type 0 = λ e. FitsAt origin clock e.state in
    let fits : Fit (content_of origin clock (entry ∷ entries)) = record {
      insertions = kept_fit insertion.fits (λ e. insertion_of origin clock e.state) is_insert whole fit;
      updates = kept_fit update.fits (λ e. update_of origin clock e.state) is_update whole (All-weaker P (λ e. update.fits (update_of origin clock e.state) ≡ true) (λ e here. update_fits origin clock e.state here) whole fit);
      deletions = kept_fit deletion.fits (λ e. deletion_of origin e.state) is_delete whole (All-weaker P (λ e. deletion.fits (deletion_of origin e.state) ≡ true) (λ e here. deletion_fits origin clock e.state here) whole fit);
    } in
    All-cons Fits (content_of origin clock (entry ∷ entries)) [] (content_fits origin clock entry entries are fits) (All-nil Fits)

-- a part whose message is short, and of states that fit at its clock
abbrev IsPart : Origin → List Event → Type 0
IsPart origin [] = Unit {0}
IsPart origin (first ∷ part) = (has_room (entries_of (first ∷ part)) ≡ true) × All (λ (e : Event). FitsAt origin first.clock e.state) (first ∷ part)

part_fits : (origin : Origin) → length origin.checksum ≡ 16 → (part : List Event) → IsPart origin part → All Fits (message_of origin part)
part_fits origin sixteen [] is = All-nil Fits
part_fits origin sixteen (first ∷ part) is =
    let events : List Event = first ∷ part in
    let entries = entries_of (first ∷ part) in
    let fit = entries_hold (FitsAt origin first.clock) events (numbers_of events) is.1 in
    told_fit origin first.clock entries (record {
      named = all_named_at origin first.clock entries fit;
      checksum = sixteen;
      in_order = rise_by events (numbers_of events) (numbers_ascend events);
      room = is.0;
    }) fit

-- ---- parts

one_entry : (e : Event) → entries_of (e ∷ []) ≡ begun e ∷ []
one_entry e = entries_push [] e (All-nil (λ before. is_of e.state.number.0 before ≡ true → (is_removed before ≡ false) × (is_made e ≡ false)))

one_part : (origin : Origin) (e : Event) → IsSpelled origin e → IsPart origin (e ∷ [])
one_part origin e fit =
    let P : Event → Type 0 = λ (x : Event). FitsAt origin e.clock x.state in
    (ap has_room (one_entry e) ∙ one_short (begun e), All-cons P e [] fit (All-nil P))

same_clock : (a b : Clock) → a.0 ≡ b.0 → a ≡ b
same_clock a b same = ap (λ (n : ℕ). record { 0 = n }) same

more_part : (origin : Origin) → length origin.checksum ≡ 16 → (part : List Event) (e : Event) → IsPart origin part → IsSpelled origin e → belongs origin part e ≡ true
    → IsPart origin (part ++ e ∷ [])
more_part origin sixteen [] e is fit belongs_there = one_part origin e fit
more_part origin sixteen (first ∷ part) e is fit belongs_there =
    let P : Event → Type 0 = λ (x : Event). FitsAt origin first.clock x.state in
    let whole : List Event = (first ∷ part) ++ e ∷ [] in
    let parts = and_parts (first.clock.0 == e.clock.0) (is_short origin e.clock (entries_of ((first ∷ part) ++ e ∷ []))) belongs_there in
    let same : first.clock ≡ e.clock = same_clock first.clock e.clock (eqb-true first.clock.0 e.clock.0 parts.0) in
    let each = All-push P (first ∷ part) e is.1 (subst (λ (clock : Clock). FitsAt origin clock e.state) (sym same) fit) in
    let named = all_named_at origin first.clock (entries_of whole) (entries_hold (FitsAt origin first.clock) whole (numbers_of whole) each) in
    let room = sym (short_named origin e.clock (entries_of whole) named sixteen) ∙ parts.1 in
    (room, each)

abbrev AreParts : Origin → Parts → Type 0
AreParts origin parts = All (IsPart origin) parts.closed × IsPart origin parts.last

parts_step : (origin : Origin) → length origin.checksum ≡ 16 → (parts : Parts) (e : Event) → AreParts origin parts → IsSpelled origin e → AreParts origin (with_event origin parts e)
parts_step origin sixteen parts e are fit = elim (cases_Bool (belongs origin parts.last e)) [
  | inl is ↦ rw is (are.0, more_part origin sixteen parts.last e are.1 fit is)
  | inr is ↦ rw is (All-push (IsPart origin) parts.closed parts.last are.0 are.1, one_part origin e fit)
]

parts_from : (origin : Origin) → length origin.checksum ≡ 16 → (parts : Parts) (events : List Event) → AreParts origin parts → All (IsSpelled origin) events
    → AreParts origin (fold (with_event origin) parts events)
parts_from origin sixteen parts [] are fit = are
parts_from origin sixteen parts (e ∷ events) are fit =
    parts_from origin sixteen (with_event origin parts e) events (parts_step origin sixteen parts e are (All-head (IsSpelled origin) e events fit)) (All-tail (IsSpelled origin) e events fit)

closed_fit : (origin : Origin) → length origin.checksum ≡ 16 → (parts : List (List Event)) → All (IsPart origin) parts → All Fits (flat_map (message_of origin) parts)
closed_fit origin sixteen [] are = All-nil Fits
closed_fit origin sixteen (part ∷ parts) are =
    All-append Fits (message_of origin part) (flat_map (message_of origin) parts) (part_fits origin sixteen part (All-head (IsPart origin) part parts are))
    (closed_fit origin sixteen parts (All-tail (IsPart origin) part parts are))

pub messages_of_events_fit : MessagesOfEventsFit
messages_of_events_fit origin events sixteen fit =
    let parts = parts_of origin events in
    let none : Parts = record { closed = []; last = [] } in
    let are = parts_from origin sixteen none events (All-nil (IsPart origin), tt) fit in
    All-append Fits (flat_map (message_of origin) parts.closed) (message_of origin parts.last) (closed_fit origin sixteen parts.closed are.0) (part_fits origin sixteen parts.last are.1)
