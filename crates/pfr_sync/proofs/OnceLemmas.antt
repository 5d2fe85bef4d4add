-- A message tells of a state once.
use Rattle.std.proofs.Common.{◌≡◌, ℕ, ◌==◌, true, false, nat_lt, List, [], ◌∷◌, ◌++◌, map, IsPermutation, Option, Some, None, sym, refl, ap, ◌∙◌, subst, inl, inr, arith}
use Rattle.std.specs.List.{All, AllByRecursion, IsDistinct, cons_option, filter, flat_map}
use Rattle.std.proofs.lemmas.Bool.{and_parts, and_from, cases_Bool, eq-eqb, eqb-true, false≢true, ltb-true, ne_eqb}
use Rattle.std.proofs.lemmas.List.{append_assoc}
use Rattle.std.proofs.lemmas.List.Elements.{All-append, All-cons, All-nil}
use Rattle.std.proofs.lemmas.List.Sorted.{IsPermutation-cons, IsPermutation-middle, IsPermutation-refl, IsPermutation-sym, IsPermutation-trans}
use Rattle.std.proofs.lemmas.Map.Keys.{IsDistinct-IsPermutation}
use Rattle.pfr_track.specs.declared.state.State.{State}
use Rattle.pfr_track.specs.declared.time.Clock.{Clock}
use Rattle.pfr_messages.specs.Messages.{Content}
use Rattle.pfr_sync.specs.declared.event.Event.{Event}
use Rattle.pfr_sync.specs.declared.origin.Origin.{Origin}
use Rattle.pfr_sync.specs.declared.queue.QueuedState.{QueuedState}
use Rattle.pfr_sync.specs.declared.queue.Action.{Action}
use Rattle.pfr_sync.specs.declared.queue.Action.TheVariants.{Insert, Update, Delete}
use Rattle.pfr_sync.specs.Laws.{AStateIsToldOfOnce, numbers_in}
use Rattle.pfr_sync.specs.Messages.{content_of, entries_by, entries_of, is_delete, is_insert, is_update, message_of, messages_by, numbers_of, parts_of}
use Rattle.pfr_sync.specs.Queues.{number_of, rise}
use Rattle.pfr_sync.proofs.EntryLemmas.{entries_above, entries_step}
use Rattle.pfr_sync.proofs.NumberLemmas.{all_above, ascend, numbers_ascend}
use Rattle.pfr_sync.proofs.RiseLemmas.{are_above}
use Rattle.pfr_sync.proofs.ToldLemmas.{IsOf, told_at, told_is_of}

-- ---- entries rise

rise_put : (n : ℕ) (told : Option QueuedState) (rest : List QueuedState) → IsOf n told → are_above n rest ≡ true → rise rest ≡ true → rise (cons_option told rest) ≡ true
rise_put n None rest is above in_order = in_order
rise_put n (Some entry) rest is above in_order = rw is (and_from (are_above n rest) (rise rest) above in_order)

rise_by : (events : List Event) (numbers : List ℕ) → ascend numbers ≡ true → rise (entries_by events numbers) ≡ true
rise_by events [] in_order = refl
rise_by events (n ∷ numbers) in_order =
    let parts = and_parts (all_above n numbers) (ascend numbers) in_order in
    rw (entries_step events n numbers) (rise_put n (told_at n events) (entries_by events numbers) (told_is_of n events) (entries_above events n numbers parts.0) (rise_by events numbers parts.1))

entries_rise : (events : List Event) → rise (entries_of events) ≡ true
entries_rise events = rise_by events (numbers_of events) (numbers_ascend events)

-- ---- so their numbers differ

above_apart : (n : ℕ) (entries : List QueuedState) → are_above n entries ≡ true → AllByRecursion (λ m. (n == m) ≡ false) (map number_of entries)
above_apart n [] above = tt
above_apart n (e ∷ entries) above =
    let parts = and_parts (nat_lt n (number_of e)) (are_above n entries) above in
    let less = ltb-true n (number_of e) parts.0 in
    (ne_eqb n (number_of e) (λ same. absurd (omega arith)), above_apart n entries parts.1)

rise_apart : (entries : List QueuedState) → rise entries ≡ true → IsDistinct (λ n m. n == m) (map number_of entries)
unfolding IsDistinct
rise_apart [] in_order = tt
rise_apart (e ∷ entries) in_order =
    let parts = and_parts (are_above (number_of e) entries) (rise entries) in_order in
    (above_apart (number_of e) entries parts.0, rise_apart entries parts.1)

-- ---- each is told in one place

abbrev told_numbers : List QueuedState → List ℕ
told_numbers entries = map number_of (filter is_insert entries) ++ map number_of (filter is_update entries) ++ map number_of (filter is_delete entries)

put_middle : (n : ℕ) (xs ys zs all : List ℕ) → IsPermutation (xs ++ ys ++ zs) all → IsPermutation (xs ++ n ∷ ys ++ zs) (n ∷ all)
put_middle n xs ys zs all same =
    subst (λ (front : List ℕ). IsPermutation front (n ∷ all)) (sym (append_assoc xs (n ∷ ys) zs))
    (IsPermutation-trans (xs ++ n ∷ (ys ++ zs)) (n ∷ (xs ++ (ys ++ zs))) (n ∷ all) (IsPermutation-middle xs n (ys ++ zs))
    (IsPermutation-cons n (xs ++ (ys ++ zs)) all (subst (λ (front : List ℕ). IsPermutation front all) (append_assoc xs ys zs) same)))

put_last : (n : ℕ) (front zs all : List ℕ) → IsPermutation (front ++ zs) all → IsPermutation (front ++ n ∷ zs) (n ∷ all)
put_last n front zs all same = IsPermutation-trans (front ++ n ∷ zs) (n ∷ (front ++ zs)) (n ∷ all) (IsPermutation-middle front n zs) (IsPermutation-cons n (front ++ zs) all same)

put_told : (action : Action) (state : State) (entries : List QueuedState) (all : List ℕ) → IsPermutation (told_numbers entries) all
    → IsPermutation (told_numbers (record { action = action; state = state } ∷ entries)) (state.number.0 ∷ all)
put_told Insert state entries all same = IsPermutation-cons state.number.0 (told_numbers entries) all same
put_told Update state entries all same = put_middle state.number.0 (map number_of (filter is_insert entries)) (map number_of (filter is_update entries)) (map number_of (filter is_delete entries)) all same
put_told Delete state entries all same = put_last state.number.0 (map number_of (filter is_insert entries) ++ map number_of (filter is_update entries)) (map number_of (filter is_delete entries)) all same

told_same : (entries : List QueuedState) → IsPermutation (told_numbers entries) (map number_of entries)
told_same [] = IsPermutation-refl []
told_same (e ∷ entries) = put_told e.action e.state entries (map number_of entries) (told_same entries)

flips : (n m : ℕ) → (n == m) ≡ (m == n)
flips n m = elim (cases_Bool (n == m)) [
  | inl is ↦ is ∙ sym (eq-eqb m n (sym (eqb-true n m is)))
  | inr is ↦ is ∙ sym (ne_eqb m n (λ (same : m ≡ n). absurd (false≢true (sym is ∙ eq-eqb n m (sym same)))))
]

-- ---- messages

pub map_twice : {X Y : Type 0} (f : Y → ℕ) (g : X → Y) (xs : List X) → map f (map g xs) ≡ map (λ x. f (g x)) xs
map_twice f g [] = refl
map_twice f g (x ∷ xs) = ap (λ (rest : List ℕ). f (g x) ∷ rest) (map_twice f g xs)

numbers_told : (origin : Origin) (clock : Clock) (entries : List QueuedState) → numbers_in (content_of origin clock entries) ≡ told_numbers entries
numbers_told origin clock entries = simp map_twice refl

-- a message of entries of which no two have one number
abbrev Once : Content → Type 0
Once content = IsDistinct (λ n m. n == m) (numbers_in content)

content_once : (origin : Origin) (clock : Clock) (entries : List QueuedState) → rise entries ≡ true → Once (content_of origin clock entries)
content_once origin clock entries in_order =
    subst (IsDistinct (λ n m. n == m)) (sym (numbers_told origin clock entries))
    (IsDistinct-IsPermutation (λ n m. n == m) flips (map number_of entries) (told_numbers entries)
    (IsPermutation-sym (told_numbers entries) (map number_of entries) (told_same entries)) (rise_apart entries in_order))

messages_once : (origin : Origin) (clock : Clock) (entries : List QueuedState) → rise entries ≡ true → All Once (messages_by origin clock entries)
messages_once origin clock [] in_order = All-nil Once
messages_once origin clock (e ∷ entries) in_order = All-cons Once (content_of origin clock (e ∷ entries)) [] (content_once origin clock (e ∷ entries) in_order) (All-nil Once)

message_once : (origin : Origin) (part : List Event) → All Once (message_of origin part)
message_once origin [] = All-nil Once
message_once origin (first ∷ part) = messages_once origin first.clock (entries_of (first ∷ part)) (entries_rise (first ∷ part))

parts_once : (origin : Origin) (parts : List (List Event)) → All Once (flat_map (message_of origin) parts)
parts_once origin [] = All-nil Once
parts_once origin (part ∷ parts) = All-append Once (message_of origin part) (flat_map (message_of origin) parts) (message_once origin part) (parts_once origin parts)

pub a_state_is_told_of_once : AStateIsToldOfOnce
a_state_is_told_of_once origin events =
    let parts = parts_of origin events in
    All-append Once (flat_map (message_of origin) parts.closed) (message_of origin parts.last) (parts_once origin parts.closed) (message_once origin parts.last)
