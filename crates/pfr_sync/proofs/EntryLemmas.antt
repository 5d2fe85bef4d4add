-- What events tell, with one event more.
use Rattle.std.proofs.Common.{◌≡◌, ℕ, ◌<◌, ◌==◌, true, false, nat_lt, List, [], ◌∷◌, ◌++◌, Option, Some, None, sym, refl, ap, ◌∙◌, inl, inr, arith}
use Rattle.std.specs.List.{cons_option, list_any}
use Rattle.std.proofs.lemmas.Bool.{and_parts, or_parts, cases_order, cases_Bool, lt-ltb, ltb-true, eq-eqb, ne_eqb, eqb-false, false≢true}
use Rattle.pfr_sync.specs.declared.event.Event.{Event}
use Rattle.pfr_sync.specs.declared.queue.QueuedState.{QueuedState}
use Rattle.pfr_sync.specs.Events.{MayCome, is_of}
use Rattle.pfr_sync.specs.Laws.{has}
use Rattle.pfr_sync.specs.Messages.{entries_by, entries_of, numbers_of, with_number}
use Rattle.pfr_sync.specs.Queues.{begun, number_of, with_entry}
use Rattle.pfr_sync.proofs.NumberLemmas.{all_above, ascend, above_lower, none_above, number_before, number_behind, number_over, numbers_ascend, numbers_have, numbers_push}
use Rattle.pfr_sync.proofs.QueueLemmas.{with_before, with_behind, with_over}
use Rattle.pfr_sync.proofs.RiseLemmas.{are_above}
use Rattle.pfr_sync.proofs.ToldLemmas.{Follows, IsOf, told_at, told_begins, told_follows, told_is_of, told_other}

-- ---- entries of numbers

put_is : (told : Option QueuedState) (rest : List QueuedState) → (elim told [ None ↦ rest | Some entry ↦ entry ∷ rest ]) ≡ cons_option told rest
put_is None rest = refl
put_is (Some entry) rest = refl

pub entries_step : (events : List Event) (n : ℕ) (numbers : List ℕ) → entries_by events (n ∷ numbers) ≡ cons_option (told_at n events) (entries_by events numbers)
entries_step events n numbers = put_is (told_at n events) (entries_by events numbers)

above_put : (k n : ℕ) (told : Option QueuedState) (rest : List QueuedState) → IsOf n told → nat_lt k n ≡ true → are_above k rest ≡ true → are_above k (cons_option told rest) ≡ true
above_put k n None rest is it above = above
above_put k n (Some entry) rest is it above = rw (is, it) above

pub entries_above : (events : List Event) (k : ℕ) (numbers : List ℕ) → all_above k numbers ≡ true → are_above k (entries_by events numbers) ≡ true
entries_above events k [] above = refl
entries_above events k (n ∷ numbers) above =
    let parts = and_parts (nat_lt k n) (all_above k numbers) above in
    rw (entries_step events n numbers) (above_put k n (told_at n events) (entries_by events numbers) (told_is_of n events) parts.0 (entries_above events k numbers parts.1))

-- an entry goes before those of higher numbers
begun_before : (e : Event) (entries : List QueuedState) → are_above e.state.number.0 entries ≡ true → with_entry e entries ≡ begun e ∷ entries
begun_before e [] above = refl
begun_before e (x ∷ entries) above =
    with_before e x entries (ltb-true e.state.number.0 (number_of x) (and_parts (nat_lt e.state.number.0 (number_of x)) (are_above e.state.number.0 entries) above).0)

-- and behind one of a lower number
with_put : (e : Event) (n : ℕ) (told : Option QueuedState) (rest : List QueuedState) → IsOf n told → n < e.state.number.0 → with_entry e (cons_option told rest) ≡ cons_option told (with_entry e rest)
with_put e n None rest is low = refl
with_put e n (Some entry) rest is low = with_behind e entry rest (rw is low)

-- ---- entries of others stay

others_same : (events : List Event) (e : Event) (numbers : List ℕ) → has e.state.number.0 numbers ≡ false → entries_by (events ++ e ∷ []) numbers ≡ entries_by events numbers
others_same events e [] none = refl
others_same events e (n ∷ numbers) none =
    let parts = or_parts (n == e.state.number.0) (has e.state.number.0 numbers) none in
    let other : is_of n e ≡ false = ne_eqb e.state.number.0 n (λ same. absurd (eqb-false n e.state.number.0 parts.0 (sym same))) in
    entries_step (events ++ e ∷ []) n numbers
    ∙ ap (λ told. cons_option told (entries_by (events ++ e ∷ []) numbers)) (told_other n events e other)
    ∙ ap (cons_option (told_at n events)) (others_same events e numbers parts.1)
    ∙ sym (entries_step events n numbers)

own : (e : Event) → is_of e.state.number.0 e ≡ true
own e = eq-eqb e.state.number.0 e.state.number.0 refl

behind_step : (events : List Event) (e : Event) (m : ℕ) (numbers : List ℕ) → m < e.state.number.0
    → entries_by (events ++ e ∷ []) (with_number e.state.number.0 numbers) ≡ with_entry e (entries_by events numbers)
    → entries_by (events ++ e ∷ []) (with_number e.state.number.0 (m ∷ numbers)) ≡ with_entry e (entries_by events (m ∷ numbers))
behind_step events e m numbers low rest =
    let n = e.state.number.0 in
    let other : is_of m e ≡ false = ne_eqb n m (λ same. absurd (omega arith)) in
    ap (entries_by (events ++ e ∷ [])) (number_behind n m numbers low)
    ∙ entries_step (events ++ e ∷ []) m (with_number n numbers)
    ∙ ap (λ told. cons_option told (entries_by (events ++ e ∷ []) (with_number n numbers))) (told_other m events e other)
    ∙ ap (cons_option (told_at m events)) rest
    ∙ sym (with_put e m (told_at m events) (entries_by events numbers) (told_is_of m events) low)
    ∙ ap (with_entry e) (sym (entries_step events m numbers))

-- ---- a state of which nothing was told

begins : (events : List Event) (e : Event) (numbers : List ℕ) → ascend numbers ≡ true → has e.state.number.0 numbers ≡ false → list_any (is_of e.state.number.0) events ≡ false
    → entries_by (events ++ e ∷ []) (with_number e.state.number.0 numbers) ≡ with_entry e (entries_by events numbers)
begins events e [] in_order none none_of =
    entries_step (events ++ e ∷ []) e.state.number.0 [] ∙ ap (λ told. cons_option told []) (told_begins e.state.number.0 events e (own e) none_of)
begins events e (m ∷ numbers) in_order none none_of =
    let n = e.state.number.0 in
    let nones = or_parts (m == n) (has n numbers) none in
    let parts = and_parts (all_above m numbers) (ascend numbers) in_order in
    elim (cases_order n m) [
      | inl same ↦ absurd (eqb-false m n nones.0 (sym same))
      | inr (inl before) ↦
          let above : all_above n (m ∷ numbers) ≡ true = rw (lt-ltb n m before) (above_lower n m numbers (omega arith) parts.0) in
          ap (entries_by (events ++ e ∷ [])) (number_before n m numbers before)
          ∙ entries_step (events ++ e ∷ []) n (m ∷ numbers)
          ∙ ap (λ told. cons_option told (entries_by (events ++ e ∷ []) (m ∷ numbers))) (told_begins n events e (own e) none_of)
          ∙ ap (λ rest. begun e ∷ rest) (others_same events e (m ∷ numbers) none)
          ∙ sym (begun_before e (entries_by events (m ∷ numbers)) (entries_above events n (m ∷ numbers) above))
      | inr (inr behind) ↦ behind_step events e m numbers behind (begins events e numbers parts.1 nones.1 none_of)
    ]

-- ---- a state of which something was told

with_told : (e : Event) (told next : Option QueuedState) (rest : List QueuedState) → IsOf e.state.number.0 told → Follows told e next → cons_option next rest ≡ with_entry e (cons_option told rest)
with_told e told next rest is_of follows =
    let entry = follows.entry in
    let of_entry : IsOf e.state.number.0 (Some entry) = rw follows.is at is_of in
    rw (follows.is, follows.next_is) (sym (with_over e entry rest (sym of_entry)))

continues : (events : List Event) (e : Event) (numbers : List ℕ) → MayCome events e → ascend numbers ≡ true → has e.state.number.0 numbers ≡ true → list_any (is_of e.state.number.0) events ≡ true
    → entries_by (events ++ e ∷ []) (with_number e.state.number.0 numbers) ≡ with_entry e (entries_by events numbers)
continues events e [] may in_order there some = absurd cc
continues events e (m ∷ numbers) may in_order there some =
    let n = e.state.number.0 in
    let parts = and_parts (all_above m numbers) (ascend numbers) in_order in
    elim (cases_order n m) [
      | inl same ↦
          let none : has n numbers ≡ false = none_above n m numbers (omega arith) parts.0 in
          let follows = told_follows events e may some (own e) in
          ap (entries_by (events ++ e ∷ [])) (number_over n m numbers same ∙ ap (λ k. k ∷ numbers) (sym same))
          ∙ entries_step (events ++ e ∷ []) n numbers
          ∙ ap (cons_option (told_at n (events ++ e ∷ []))) (others_same events e numbers none)
          ∙ with_told e (told_at n events) (told_at n (events ++ e ∷ [])) (entries_by events numbers) (told_is_of n events) follows
          ∙ ap (with_entry e) (sym (entries_step events n numbers))
          ∙ ap (λ k. with_entry e (entries_by events (k ∷ numbers))) same
      | inr (inl before) ↦
          let above : all_above n (m ∷ numbers) ≡ true = rw (lt-ltb n m before) (above_lower n m numbers (omega arith) parts.0) in
          absurd (false≢true (sym (none_above n n (m ∷ numbers) (omega arith) above) ∙ there))
      | inr (inr behind) ↦
          let rest : has n numbers ≡ true = rw (ne_eqb m n (λ same. absurd (omega arith))) at there in
          behind_step events e m numbers behind (continues events e numbers may parts.1 rest some)
    ]

-- one event more is one told more
pub entries_push : (events : List Event) (e : Event) → MayCome events e → entries_of (events ++ e ∷ []) ≡ with_entry e (entries_of events)
entries_push events e may =
    let n = e.state.number.0 in
    let in_order = numbers_ascend events in
    ap (entries_by (events ++ e ∷ [])) (numbers_push events e)
    ∙ elim (cases_Bool (list_any (is_of n) events)) [
      | inl some ↦ continues events e (numbers_of events) may in_order (numbers_have n events ∙ some) some
      | inr none ↦ begins events e (numbers_of events) in_order (numbers_have n events ∙ none) none
    ]
