-- Who takes the messages of events holds the states that they leave.
use Rattle.std.proofs.Common.{◌≡◌, ℕ, ◌==◌, ◌&&◌, Bool, true, false, not, is_some, if◌then◌else◌, List, [], ◌∷◌, ◌++◌, map, fold, Option, Some, None, Ok, sym, refl, ap, ◌∙◌, subst, inl, inr}
use Rattle.std.specs.List.{AllByRecursion, cons_option, filter, flat_map, list_any}
use Rattle.std.specs.Option.{option_map}
use Rattle.std.proofs.lemmas.Bool.{cases_Bool, eqb-true, false≢true, or_from}
use Rattle.std.proofs.lemmas.List.{append_assoc, append-nil}
use Rattle.std.proofs.lemmas.List.Concat.{flat_map-append}
use Rattle.std.proofs.lemmas.List.Elements.{filter-append, recursion_from_All}
use Rattle.std.proofs.lemmas.List.Folds.{fold-map}
use Rattle.pfr_track.specs.declared.state.State.{State}
use Rattle.pfr_track.specs.declared.time.Clock.{Clock}
use Rattle.pfr_messages.specs.Messages.{Content}
use Rattle.pfr_standby.specs.declared.kept.Kept.{Kept}
use Rattle.pfr_standby.specs.Standby.{Standing, all_taken, holds, is_known, moved_by, refuses, rises, standing_after, state_of, with_insertion, with_update, without_deletion}
use Rattle.pfr_standby.proofs.HeldLemmas.{after_rises, append_taken, held_deleted, held_inserted, held_updated, one_taken, then_taken}
use Rattle.pfr_sync.specs.declared.event.Event.{Event}
use Rattle.pfr_sync.specs.declared.origin.Origin.{Origin}
use Rattle.pfr_sync.specs.declared.queue.QueuedState.{QueuedState}
use Rattle.pfr_sync.specs.declared.queue.Action.{Action}
use Rattle.pfr_sync.specs.declared.queue.Action.TheVariants.{Insert, Update, Delete}
use Rattle.pfr_sync.specs.Events.{deletion_of, insertion_of, is_made, is_of, is_removed, update_of}
use Rattle.pfr_sync.specs.Laws.{AStandbyHoldsTheStatesLeft, AreOfOne, IsHistoryOfStates, StayOfOne, has, kept_by, left, left_by}
use Rattle.pfr_sync.specs.Messages.{content_of, entries_by, entries_of, is_delete, is_insert, is_update, last_of, message_of, messages_by, messages_of, numbers_of, parts_of, told_by, told_of}
use Rattle.pfr_sync.specs.Queues.{number_of}
use Rattle.pfr_sync.proofs.EntryLemmas.{entries_step}
use Rattle.pfr_sync.proofs.NumberLemmas.{numbers_have}
use Rattle.pfr_sync.proofs.PartLemmas.{parts_joined}
use Rattle.pfr_sync.proofs.StandbyLemmas.{Joins, joins, last_append}
use Rattle.pfr_sync.proofs.ToldLemmas.{IsOf, none_kept, told_at, told_is_of}

-- ---- the records of one kind, in a message

-- what the record of an entry does to the states, and what that is to the state of a number
record Acts (step : Standing → QueuedState → Standing) (act : QueuedState → Option Kept → Option Kept) : Type 0 where
  does : (n : ℕ) (s : Standing) (e : QueuedState) → state_of n (step s e) ≡ (if number_of e == n then act e (state_of n s) else state_of n s)
  twice : (e : QueuedState) (kept : Option Kept) → act e (act e kept) ≡ act e kept

-- what is held after an entry that passes a test
abbrev stepped : (QueuedState → Bool) → (Standing → QueuedState → Standing) → Standing → Option QueuedState → Standing
stepped p step s None = s
stepped p step s (Some e) = if p e then step s e else s

-- and under its number
abbrev acted : (QueuedState → Bool) → (QueuedState → Option Kept → Option Kept) → Option QueuedState → Option Kept → Option Kept
acted p act None kept = kept
acted p act (Some e) kept = if p e then act e kept else kept

fold_put : (p : QueuedState → Bool) (step : Standing → QueuedState → Standing) (told : Option QueuedState) (rest : List QueuedState) (s : Standing)
    → fold step s (filter p (cons_option told rest)) ≡ fold step (stepped p step s told) (filter p rest)
fold_put p step None rest s = refl
fold_put p step (Some e) rest s = elim (cases_Bool (p e)) [ inl is ↦ rw is refl | inr other ↦ rw other refl ]

either_way : {X : Type 0} (b : Bool) (x : X) → x ≡ (if b then x else x)
either_way true x = refl
either_way false x = refl

held_put : (p : QueuedState → Bool) (step : Standing → QueuedState → Standing) (act : QueuedState → Option Kept → Option Kept) → Acts step act → (n m : ℕ) (told : Option QueuedState) → IsOf m told → (s : Standing)
    → state_of n (stepped p step s told) ≡ (if m == n then acted p act told (state_of n s) else state_of n s)
held_put p step act acts n m None is s = either_way (m == n) (state_of n s)
held_put p step act acts n m (Some e) is s = elim (cases_Bool (p e)) [
  | inl passes ↦ rw (passes, ← is) (acts.does n s e)
  | inr not_it ↦ rw not_it (either_way (m == n) (state_of n s))
]

acted_twice : (p : QueuedState → Bool) (step : Standing → QueuedState → Standing) (act : QueuedState → Option Kept → Option Kept) → Acts step act → (told : Option QueuedState) (kept : Option Kept) → acted p act told (acted p act told kept) ≡ acted p act told kept
acted_twice p step act acts None kept = refl
acted_twice p step act acts (Some e) kept = elim (cases_Bool (p e)) [ inl is ↦ rw is (acts.twice e kept) | inr other ↦ rw other refl ]

held_by : (p : QueuedState → Bool) (step : Standing → QueuedState → Standing) (act : QueuedState → Option Kept → Option Kept) → Acts step act → (n : ℕ) (events : List Event) (numbers : List ℕ) (s : Standing)
    → state_of n (fold step s (filter p (entries_by events numbers))) ≡ (if has n numbers then acted p act (told_at n events) (state_of n s) else state_of n s)
held_by p step act acts n events [] s = refl
held_by p step act acts n events (m ∷ numbers) s =
    let t = stepped p step s (told_at m events) in
    let put = held_put p step act acts n m (told_at m events) (told_is_of m events) s in
    ap (λ (entries : List QueuedState). state_of n (fold step s (filter p entries))) (entries_step events m numbers)
    ∙ ap (state_of n) (fold_put p step (told_at m events) (entries_by events numbers) s)
    ∙ held_by p step act acts n events numbers t
    ∙ elim (cases_Bool (m == n)) [
      | inl is ↦
          let here : state_of n t ≡ acted p act (told_at n events) (state_of n s) =
          put ∙ rw is (ap (λ (k : ℕ). acted p act (told_at k events) (state_of n s)) (eqb-true m n is)) in
          rw is (elim (cases_Bool (has n numbers)) [
            | inl more ↦ rw more (ap (acted p act (told_at n events)) here ∙ acted_twice p step act acts (told_at n events) (state_of n s))
            | inr none ↦ rw none here
          ])
      | inr other ↦
          let there : state_of n t ≡ state_of n s = put ∙ rw other refl in
          rw (other, there) refl
    ]

held_entries : (p : QueuedState → Bool) (step : Standing → QueuedState → Standing) (act : QueuedState → Option Kept → Option Kept) → Acts step act → (n : ℕ) (events : List Event) (s : Standing)
    → state_of n (fold step s (filter p (entries_of events))) ≡ acted p act (told_at n events) (state_of n s)
held_entries p step act acts n events s =
    held_by p step act acts n events (numbers_of events) s
    ∙ ap (λ (some : Bool). if some then acted p act (told_at n events) (state_of n s) else state_of n s) (numbers_have n events)
    ∙ elim (cases_Bool (list_any (is_of n) events)) [
      | inl some ↦ rw some refl
      | inr none ↦ rw none (sym (ap (λ (kept : List Event). acted p act (told_of kept) (state_of n s)) (none_kept (is_of n) events none)))
    ]

-- ---- one message

abbrev inserted : QueuedState → Option Kept → Option Kept
inserted e kept = Some (kept_by e.state)

abbrev updated : Origin → Clock → QueuedState → Option Kept → Option Kept
updated origin clock e kept = option_map (moved_by (update_of origin clock e.state)) kept

abbrev deleted : QueuedState → Option Kept → Option Kept
deleted e kept = None

updated_twice : (origin : Origin) (clock : Clock) (e : QueuedState) (kept : Option Kept) → updated origin clock e (updated origin clock e kept) ≡ updated origin clock e kept
updated_twice origin clock e None = refl
updated_twice origin clock e (Some kept) = refl

inserting : (origin : Origin) (clock : Clock) → Acts (λ s e. with_insertion s (insertion_of origin clock e.state)) inserted
inserting origin clock = record { does = λ n s e. held_inserted n s (insertion_of origin clock e.state); twice = λ e kept. refl }

updating : (origin : Origin) (clock : Clock) → Acts (λ s e. with_update s (update_of origin clock e.state)) (updated origin clock)
updating origin clock = record { does = λ n s e. held_updated n s (update_of origin clock e.state); twice = updated_twice origin clock }

deleting : (origin : Origin) → Acts (λ s e. without_deletion s (deletion_of origin e.state)) deleted
deleting origin = record { does = λ n s e. held_deleted n s (deletion_of origin e.state); twice = λ e kept. refl }

-- what is held of a state after what is told of it
abbrev told_to : Origin → Clock → Option QueuedState → Option Kept → Option Kept
told_to origin clock told kept = acted is_delete deleted told (acted is_update (updated origin clock) told (acted is_insert inserted told kept))

held_part : (origin : Origin) (clock : Clock) (n : ℕ) (events : List Event) (s : Standing)
    → state_of n (standing_after (content_of origin clock (entries_of events)) s) ≡ told_to origin clock (told_at n events) (state_of n s)
held_part origin clock n events s =
    let entries = entries_of events in
    let insertions = fold with_insertion s (map (λ (e : QueuedState). insertion_of origin clock e.state) (filter is_insert entries)) in
    let updates = fold with_update insertions (map (λ (e : QueuedState). update_of origin clock e.state) (filter is_update entries)) in
    ap (state_of n) (fold-map without_deletion (λ (e : QueuedState). deletion_of origin e.state) updates (filter is_delete entries))
    ∙ held_entries is_delete (λ t e. without_deletion t (deletion_of origin e.state)) deleted (deleting origin) n events updates
    ∙ ap (acted is_delete deleted (told_at n events)) (
    ap (state_of n) (fold-map with_update (λ (e : QueuedState). update_of origin clock e.state) insertions (filter is_update entries))
    ∙ held_entries is_update (λ t e. with_update t (update_of origin clock e.state)) (updated origin clock) (updating origin clock) n events insertions
    ∙ ap (acted is_update (updated origin clock) (told_at n events)) (
    ap (state_of n) (fold-map with_insertion (λ (e : QueuedState). insertion_of origin clock e.state) s (filter is_insert entries))
    ∙ held_entries is_insert (λ t e. with_insertion t (insertion_of origin clock e.state)) inserted (inserting origin clock) n events s
    )
    )

-- ---- the events of one state

moved_on : (origin : Origin) (clock : Clock) (a b : State) → AreOfOne a b → moved_by (update_of origin clock b) (kept_by a) ≡ kept_by b
moved_on origin clock a b one = rw (one.wire, one.stack, one.direction, one.rule) refl

of_last : (P : Event → Type 0) (first : Event) (events : List Event) → P first → AllByRecursion P events → P (last_of first events)
of_last P first [] here all = here
of_last P first (x ∷ events) here all = of_last P x events all.0 all.1

split_all : (P : Event → Type 0) (xs ys : List Event) → AllByRecursion P (xs ++ ys) → AllByRecursion P xs × AllByRecursion P ys
split_all P [] ys all = (tt, all)
split_all P (x ∷ xs) ys all = let rest = split_all P xs ys all.1 in ((all.0, rest.0), rest.1)

of_one : (a b c : State) → AreOfOne a b → AreOfOne a c → AreOfOne b c
of_one a b c one other = record {
  wire = sym one.wire ∙ other.wire;
  stack = sym one.stack ∙ other.stack;
  direction = sym one.direction ∙ other.direction;
  rule = sym one.rule ∙ other.rule;
}

last_of_one : (b : Event) (bs : List Event) (first : Event) (rest more : List Event) → StayOfOne ((b ∷ bs) ++ ((first ∷ rest) ++ more)) → AreOfOne (last_of b bs).state (last_of first rest).state
last_of_one b bs first rest more all =
    let P : Event → Type 0 = λ event. AreOfOne b.state event.state in
    let each = split_all P bs ((first ∷ rest) ++ more) (recursion_from_All P (bs ++ ((first ∷ rest) ++ more)) all) in
    let part = split_all P (first ∷ rest) more each.1 in
    of_one b.state (last_of b bs).state (last_of first rest).state
    (of_last P b bs (record { wire = refl; stack = refl; direction = refl; rule = refl }) each.0)
    (of_last P first rest part.0.0 part.0.1)

-- what the events of one state say with more events of it
record JoinsStates (before part : List Event) : Type 0 where
  events : Joins before part
  same : (b : Event) (bs : List Event) (first : Event) (rest : List Event) → before ≡ b ∷ bs → part ≡ first ∷ rest → AreOfOne (last_of b bs).state (last_of first rest).state

-- what is left of a state by its first event and its last one
abbrev left_from : Event → Event → Option State
left_from first last = if is_made first && not (is_removed last) then Some last.state else None

left_first : (origin : Origin) (clock : Clock) (first last : Event) → is_made first ≡ true
    → told_to origin clock (told_by first last) None ≡ option_map kept_by (left_from first last)
left_first origin clock first last made = elim (cases_Bool (is_removed last)) [ inl gone ↦ rw (made, gone) refl | inr there ↦ rw (made, there) refl ]

left_more : (origin : Origin) (clock : Clock) (b before first last : Event) → is_made b ≡ true → is_removed before ≡ false → is_made first ≡ false → AreOfOne before.state last.state
    → told_to origin clock (told_by first last) (option_map kept_by (left_from b before)) ≡ option_map kept_by (left_from b last)
left_more origin clock b before first last began lives moved one = elim (cases_Bool (is_removed last)) [
  | inl gone ↦ rw (moved, gone, began) refl
  | inr there ↦ rw (moved, there, began, lives) (ap (λ (kept : Kept). Some kept) (moved_on origin clock before.state last.state one))
]

left_step : (origin : Origin) (clock : Clock) (before part : List Event) → JoinsStates before part
    → told_to origin clock (told_of part) (option_map kept_by (left_by before)) ≡ option_map kept_by (left_by (before ++ part))
left_step origin clock before [] joined = ap (λ (events : List Event). option_map kept_by (left_by events)) (sym (append-nil before))
left_step origin clock [] (first ∷ rest) joined = left_first origin clock first (last_of first rest) (joined.events.begins first rest refl refl)
left_step origin clock (b ∷ bs) (first ∷ rest) joined =
    let on = joined.events.goes_on b bs first rest refl refl in
    left_more origin clock b (last_of b bs) first (last_of first rest) (joined.events.began b bs refl) on.1 on.0 (joined.same b bs first rest refl refl)
    ∙ ap (λ (last : Event). option_map kept_by (left_from b last)) (sym (last_append b bs first rest))

-- ---- no message is refused

-- what is inserted isn't held
new_unheld : (before part : List Event) (e : QueuedState) → Joins before part → told_of part ≡ Some e → is_insert e ≡ true → is_some (option_map kept_by (left_by before)) ≡ false
new_unheld [] part e joined told is = refl
new_unheld (b ∷ bs) [] e joined told is = absurd cc
new_unheld (b ∷ bs) (first ∷ rest) e joined told is =
    let moved = (joined.goes_on b bs first rest refl refl).0 in
    let last = last_of first rest in
    elim (cases_Bool (is_removed last)) [
      | inl gone ↦
          let told_it : Some (record { action = Delete; state = last.state }) ≡ Some e = rw (moved, gone) at told in
          let same : record { action = Delete; state = last.state } ≡ e = cc in
          absurd (false≢true (ap is_insert same ∙ is))
      | inr there ↦
          let told_it : Some (record { action = Update; state = last.state }) ≡ Some e = rw (moved, there) at told in
          let same : record { action = Update; state = last.state } ≡ e = cc in
          absurd (false≢true (ap is_insert same ∙ is))
    ]

-- what is updated or deleted is held
moved_held : (before part : List Event) (e : QueuedState) → Joins before part → told_of part ≡ Some e → is_insert e ≡ false → is_some (option_map kept_by (left_by before)) ≡ true
moved_held before [] e joined told other = absurd cc
moved_held [] (first ∷ rest) e joined told other =
    let made = joined.begins first rest refl refl in
    let last = last_of first rest in
    elim (cases_Bool (is_removed last)) [
      | inl gone ↦
          let told_it : None ≡ Some e = rw (made, gone) at told in
          absurd cc
      | inr there ↦
          let told_it : Some (record { action = Insert; state = last.state }) ≡ Some e = rw (made, there) at told in
          let same : record { action = Insert; state = last.state } ≡ e = cc in
          absurd (false≢true (sym other ∙ ap is_insert (sym same)))
    ]
moved_held (b ∷ bs) (first ∷ rest) e joined told other =
    let on = joined.goes_on b bs first rest refl refl in
    rw (joined.began b bs refl, on.1) refl

update_inserts_not : (action : Action) (state : State) → let e : QueuedState = record { action = action; state = state } in is_update e ≡ true → is_insert e ≡ false
update_inserts_not Insert state is = absurd cc
update_inserts_not Update state is = refl
update_inserts_not Delete state is = refl

delete_inserts_not : (action : Action) (state : State) → let e : QueuedState = record { action = action; state = state } in is_delete e ≡ true → is_insert e ≡ false
delete_inserts_not Insert state is = absurd cc
delete_inserts_not Update state is = refl
delete_inserts_not Delete state is = refl

-- what holds of all that is told holds of the entries
all_put : (P : QueuedState → Type 0) (told : Option QueuedState) (rest : List QueuedState) → ((e : QueuedState) → told ≡ Some e → P e) → AllByRecursion P rest → AllByRecursion P (cons_option told rest)
all_put P None rest each all = all
all_put P (Some e) rest each all = (each e refl, all)

all_told : (P : QueuedState → Type 0) (events : List Event) (numbers : List ℕ) → ((n : ℕ) (e : QueuedState) → told_at n events ≡ Some e → P e) → AllByRecursion P (entries_by events numbers)
all_told P events [] each = tt
all_told P events (n ∷ numbers) each =
    subst (AllByRecursion P) (sym (entries_step events n numbers)) (all_put P (told_at n events) (entries_by events numbers) (each n) (all_told P events numbers each))

none_passes : {R : Type 0} (p : QueuedState → Bool) (make : QueuedState → R) (test : R → Bool) (entries : List QueuedState) → AllByRecursion (λ e. p e ≡ true → test (make e) ≡ false) entries
    → list_any test (map make (filter p entries)) ≡ false
none_passes p make test [] all = refl
none_passes p make test (e ∷ entries) all = elim (cases_Bool (p e)) [
  | inl is ↦ rw is (or_from (test (make e)) (list_any test (map make (filter p entries))) (all.0 is) (none_passes p make test entries all.1))
  | inr other ↦ rw other (none_passes p make test entries all.1)
]

-- the states that events leave are held, by rising number
record Held (events : List Event) (s : Standing) : Type 0 where
  states : (n : ℕ) → state_of n s ≡ option_map kept_by (left n events)
  in_order : rises s ≡ true

number_told : (n : ℕ) (events : List Event) (e : QueuedState) → told_at n events ≡ Some e → number_of e ≡ n
number_told n events e told = subst (IsOf n) told (told_is_of n events)

held_as : (n : ℕ) (before part : List Event) (s : Standing) (e : QueuedState) → Held before s → told_at n part ≡ Some e → holds (number_of e) s ≡ is_some (option_map kept_by (left n before))
held_as n before part s e held told = ap (λ (k : ℕ). holds k s) (number_told n part e told) ∙ ap is_some (held.states n)

known_held : (content : Content) (s : Standing) (n : ℕ) → holds n s ≡ true → not (is_known content s n) ≡ false
known_held content s n is = rw is refl

unrefused : (origin : Origin) (clock : Clock) (before part : List Event) (s : Standing) → ((n : ℕ) → Joins (filter (is_of n) before) (filter (is_of n) part)) → Held before s
    → refuses (content_of origin clock (entries_of part)) s ≡ false
unrefused origin clock before part s joined held =
    let content = content_of origin clock (entries_of part) in
    let known : (n : ℕ) (e : QueuedState) → told_at n part ≡ Some e → is_insert e ≡ false → not (is_known content s (number_of e)) ≡ false =
    λ n e told other. known_held content s (number_of e) (held_as n before part s e held told ∙ moved_held (filter (is_of n) before) (filter (is_of n) part) e (joined n) told other) in
    or_from _ _
    (none_passes is_insert (λ (e : QueuedState). insertion_of origin clock e.state) (λ r. holds r.number.0 s) (entries_of part)
    (all_told (λ e. is_insert e ≡ true → holds (number_of e) s ≡ false) part (numbers_of part)
    (λ n e told is. held_as n before part s e held told ∙ new_unheld (filter (is_of n) before) (filter (is_of n) part) e (joined n) told is)))
    (or_from _ _
    (none_passes is_update (λ (e : QueuedState). update_of origin clock e.state) (λ r. not (is_known content s r.number.0)) (entries_of part)
    (all_told (λ e. is_update e ≡ true → not (is_known content s (number_of e)) ≡ false) part (numbers_of part)
    (λ n e told is. known n e told (update_inserts_not e.action e.state is))))
    (none_passes is_delete (λ (e : QueuedState). deletion_of origin e.state) (λ r. not (is_known content s r.number.0)) (entries_of part)
    (all_told (λ e. is_delete e ≡ true → not (is_known content s (number_of e)) ≡ false) part (numbers_of part)
    (λ n e told is. known n e told (delete_inserts_not e.action e.state is)))))

-- ---- all messages

messages_taken : (origin : Origin) (clock : Clock) (entries : List QueuedState) (s : Standing) → refuses (content_of origin clock entries) s ≡ false
    → all_taken s (messages_by origin clock entries) ≡ Ok (standing_after (content_of origin clock entries) s)
messages_taken origin clock [] s takes = refl
messages_taken origin clock (e ∷ entries) s takes =
    let content = content_of origin clock (e ∷ entries) in
    then_taken content [] s (standing_after content s) (one_taken content s takes)

joins_states : (events : List Event) (n : ℕ) (before part more : List Event) → IsHistoryOfStates events → events ≡ before ++ (part ++ more) → JoinsStates (filter (is_of n) before) (filter (is_of n) part)
joins_states events n before part more history are =
    let p = is_of n in
    let all : filter p events ≡ filter p before ++ (filter p part ++ filter p more) =
    ap (filter p) are ∙ filter-append p before (part ++ more) ∙ ap (λ (es : List Event). filter p before ++ es) (filter-append p part more) in
    record {
      events = joins events n before part more history.history are;
      same = λ b bs first rest kept next.
          let whole : filter p events ≡ (b ∷ bs) ++ ((first ∷ rest) ++ filter p more) =
          all ∙ ap (λ (es : List Event). es ++ (filter p part ++ filter p more)) kept ∙ ap (λ (es : List Event). (b ∷ bs) ++ (es ++ filter p more)) next in
          last_of_one b bs first rest (filter p more) (subst StayOfOne whole (history.of_one n));
    }

-- what comes of messages: they are taken, and what events leave is held
abbrev Come : Standing → List Content → List Event → Type 0
Come s contents events = (t : Standing) × (all_taken s contents ≡ Ok t) × Held events t

part_comes : (origin : Origin) (events before part more : List Event) (s : Standing) → IsHistoryOfStates events → events ≡ before ++ (part ++ more) → Held before s
    → Come s (message_of origin part) (before ++ part)
part_comes origin events before [] more s history are held = (s, refl, subst (λ (es : List Event). Held es s) (sym (append-nil before)) held)
part_comes origin events before (first ∷ rest) more s history are held =
    let part = first ∷ rest in
    let content = content_of origin first.clock (entries_of part) in
    let joined : (n : ℕ) → JoinsStates (filter (is_of n) before) (filter (is_of n) part) = λ n. joins_states events n before part more history are in
    let takes = unrefused origin first.clock before part s (λ n. (joined n).events) held in (
      standing_after content s,
      messages_taken origin first.clock (entries_of part) s takes,
      record {
        states = λ n.
            held_part origin first.clock n part s
            ∙ ap (told_to origin first.clock (told_at n part)) (held.states n)
            ∙ left_step origin first.clock (filter (is_of n) before) (filter (is_of n) part) (joined n)
            ∙ ap (λ (es : List Event). option_map kept_by (left_by es)) (sym (filter-append (is_of n) before part));
        in_order = after_rises content s held.in_order;
      },
    )

parts_come : (origin : Origin) (events before : List Event) (parts : List (List Event)) (s : Standing) → IsHistoryOfStates events → events ≡ before ++ flat_map (λ part. part) parts → Held before s
    → Come s (flat_map (message_of origin) parts) events
parts_come origin events before [] s history are held = (s, refl, subst (λ (es : List Event). Held es s) (sym (are ∙ append-nil before)) held)
parts_come origin events before (part ∷ parts) s history are held =
    let more = flat_map (λ (part : List Event). part) parts in
    let first = part_comes origin events before part more s history are held in
    let rest = parts_come origin events (before ++ part) parts first.0 history (are ∙ sym (append_assoc before part more)) first.2 in
    (rest.0, append_taken (message_of origin part) (flat_map (message_of origin) parts) s first.0 first.1 ∙ rest.1, rest.2)

pub standby_holds : AStandbyHoldsTheStatesLeft
standby_holds origin events history =
    let parts = parts_of origin events in
    let all = parts.closed ++ parts.last ∷ [] in
    let whole : events ≡ flat_map (λ part. part) all =
    sym (parts_joined origin events)
    ∙ ap (λ (es : List Event). flat_map (λ (part : List Event). part) parts.closed ++ es) (sym (append-nil parts.last))
    ∙ sym (flat_map-append (λ (part : List Event). part) parts.closed (parts.last ∷ [])) in
    let told : messages_of origin events ≡ flat_map (message_of origin) all =
    ap (λ (contents : List Content). flat_map (message_of origin) parts.closed ++ contents) (sym (append-nil (message_of origin parts.last)))
    ∙ sym (flat_map-append (message_of origin) parts.closed (parts.last ∷ [])) in
    let come = parts_come origin events [] all [] history whole (record { states = λ n. refl; in_order = refl }) in
    (come.0, ap (all_taken []) told ∙ come.1, come.2.in_order, come.2.states)
