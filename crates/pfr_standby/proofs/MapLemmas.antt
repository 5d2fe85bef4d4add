-- What the map says of its entries, in the words of the states that are held.
use Rattle.std.proofs.Common.{◌≡◌, ℕ, ◌<◌, ◌==◌, Bool, false, is_some, if◌then◌else◌, List, [], ◌∷◌, map, fold, take, zero, suc, Option, Some, None, sym, refl, ap, ◌∙◌, inl, inr, arith}
use Rattle.std.specs.BTreeMap.{insert_entry, is_at}
use Rattle.std.specs.List.{AllByRecursion}
use Rattle.std.specs.List.Sorted.{IsStrictlySortedBy}
use Rattle.std.specs.Map.{keys_of, lookup, remove_entry, set_value}
use Rattle.std.specs.Ordering.{is_eq, nat_cmp}
use Rattle.std.specs.declared.cmp.Ordering.TheVariants.{Less}
use Rattle.std.proofs.lemmas.Bool.{cases_Bool, cases_order, eq-eqb, eqb-true, le-ltb, lt-ltb, ne_eqb, or_from, or_parts}
use Rattle.std.proofs.lemmas.Cmp.{ranked}
use Rattle.std.proofs.lemmas.Map.{NonePasses, none_passes_from_lookup}
use Rattle.std.proofs.lemmas.Map.Keys.{sorted_head, sorted_tail}
use Rattle.pfr_messages.specs.declared.records.Insertion.{Insertion}
use Rattle.pfr_messages.specs.declared.records.Update.{Update}
use Rattle.pfr_standby.specs.declared.kept.Kept.{Kept}
use Rattle.pfr_standby.specs.Standby.{Standing, holds, kept_of, moved_by, some_is_held, state_of, with_insertion, with_update, without}

-- ---- a number among the keys

at_number : (n m : ℕ) → is_eq (nat_cmp n m) ≡ (m == n)
at_number n m = elim (cases_order n m) [
  | inl same ↦ rw (le-ltb n m (omega arith), eq-eqb n m same, eq-eqb m n (sym same)) refl
  | inr (inl before) ↦ rw (lt-ltb n m before, ne_eqb m n (λ same. absurd (omega arith))) refl
  | inr (inr behind) ↦ rw (le-ltb n m (omega arith), ne_eqb n m (λ same. absurd (omega arith)), ne_eqb m n (λ same. absurd (omega arith))) refl
]

-- the map looks for a number by the test that the definitions name
pub at_is : (n : ℕ) → is_at (nat_cmp n) ≡ (λ m. m == n)
at_is n = λ i m. at_number n m i

-- the numbers behind that of an entry are others
none_behind : (n m : ℕ) (es : Standing) → AllByRecursion (λ k. nat_cmp m k ≡ Less) (keys_of es) → m ≡ n → NonePasses (λ k. k == n) es
none_behind n m [] above same = tt
none_behind n m (e ∷ es) above same =
    let less : m < e.0 = ranked m e.0 Less (sym above.0) in
    (ne_eqb e.0 n (λ is. absurd (omega arith)), none_behind n m es above.1 same)

-- ---- a state is removed

pub stays_without : (n : ℕ) (es : Standing) → NonePasses (λ k. k == n) es → without es n ≡ es
stays_without n [] none = refl
stays_without n (e ∷ es) none = rw none.0 (ap (λ (rest : Standing). e ∷ rest) (stays_without n es none.1))

pub removes : (n : ℕ) (es : Standing) → state_of n (remove_entry (λ k. k == n) es) ≡ None → remove_entry (λ k. k == n) es ≡ without es n
removes n [] none = refl
removes n (e ∷ es) none = elim (cases_Bool (e.0 == n)) [
  | inl is ↦ rw is (sym (stays_without n es (none_passes_from_lookup (λ k. k == n) es (rw is at none))))
  | inr other ↦ rw other (ap (λ (rest : Standing). e ∷ rest) (removes n es (simp other at none)))
]

-- the map after a removal
pub removes_through : (n : ℕ) (es fs : Standing) → fs ≡ remove_entry (is_at (nat_cmp n)) es → lookup (is_at (nat_cmp n)) fs ≡ None → fs ≡ without es n
removes_through n es fs is none =
    let plain : fs ≡ remove_entry (λ k. k == n) es = is ∙ ap (λ (test : ℕ → Bool). remove_entry test es) (at_is n) in
    plain ∙ removes n es (ap (state_of n) (sym plain) ∙ ap (λ (test : ℕ → Bool). lookup test fs) (sym (at_is n)) ∙ none)

-- ---- a state is moved on

abbrev moved : ℕ → (Kept → Kept) → Standing → Standing
moved n f es = map (λ held. if held.0 == n then (held.0, f held.1) else held) es

pub stays_moved : (n : ℕ) (f : Kept → Kept) (es : Standing) → NonePasses (λ k. k == n) es → moved n f es ≡ es
stays_moved n f [] none = refl
stays_moved n f (e ∷ es) none = rw none.0 (ap (λ (rest : Standing). e ∷ rest) (stays_moved n f es none.1))

pub moves : (n : ℕ) (f : Kept → Kept) (es : Standing) (kept : Kept) → IsStrictlySortedBy nat_cmp (keys_of es) → state_of n es ≡ Some kept → set_value (λ k. k == n) es (f kept) ≡ moved n f es
moves n f [] kept sorted found = absurd cc
moves n f (e ∷ es) kept sorted found = elim (cases_Bool (e.0 == n)) [
  | inl is ↦
      let here : Some e.1 ≡ Some kept = rw is at found in
      let same : e.1 ≡ kept = cc in
      let none = none_behind n e.0 es (sorted_head nat_cmp e.0 (keys_of es) sorted) (eqb-true e.0 n is) in
      rw is (ap (λ (k : Kept). (e.0, f k) ∷ es) (sym same) ∙ ap (λ (rest : Standing). (e.0, f e.1) ∷ rest) (sym (stays_moved n f es none)))
  | inr other ↦ rw other (ap (λ (rest : Standing). e ∷ rest) (moves n f es kept (sorted_tail nat_cmp e.0 (keys_of es) sorted) (rw other at found)))
]

-- the map after a state is written that an update moved on
pub moves_through : (r : Update) (es fs : Standing) (kept next : Kept) → IsStrictlySortedBy nat_cmp (keys_of es) → Some kept ≡ lookup (is_at (nat_cmp r.number.0)) es
    → fs ≡ set_value (is_at (nat_cmp r.number.0)) es next → next ≡ moved_by r kept → fs ≡ with_update es r
moves_through r es fs kept next sorted found is moved =
    let n = r.number.0 in
    is
    ∙ ap (λ (test : ℕ → Bool). set_value test es next) (at_is n)
    ∙ ap (set_value (λ k. k == n) es) moved
    ∙ moves n (moved_by r) es kept sorted (ap (λ (test : ℕ → Bool). lookup test es) (sym (at_is n)) ∙ sym found)

-- the map if there is no such state
pub stays_through : (r : Update) (es : Standing) → None ≡ lookup (is_at (nat_cmp r.number.0)) es → es ≡ with_update es r
stays_through r es none =
    let n = r.number.0 in
    sym (stays_moved n (moved_by r) es (none_passes_from_lookup (λ k. k == n) es (ap (λ (test : ℕ → Bool). lookup test es) (sym (at_is n)) ∙ sym none)))

-- ---- a state is put in

pub put_before : (n : ℕ) (k : Kept) (e : ℕ × Kept) (es : Standing) → n < e.0 → insert_entry nat_cmp (e ∷ es) n k ≡ (n, k) ∷ e ∷ es
put_before n k e es before = rw (lt-ltb n e.0 before) refl

pub put_over : (n : ℕ) (k : Kept) (e : ℕ × Kept) (es : Standing) → n ≡ e.0 → insert_entry nat_cmp (e ∷ es) n k ≡ (e.0, k) ∷ es
put_over n k e es same = rw (le-ltb n e.0 (omega arith), eq-eqb n e.0 same) refl

pub put_behind : (n : ℕ) (k : Kept) (e : ℕ × Kept) (es : Standing) → e.0 < n → insert_entry nat_cmp (e ∷ es) n k ≡ e ∷ insert_entry nat_cmp es n k
put_behind n k e es behind = rw (le-ltb n e.0 (omega arith), ne_eqb n e.0 (λ same. absurd (omega arith))) refl

-- ---- states that were put in are taken out again

without_put : (n : ℕ) (k : Kept) (s : Standing) → without (insert_entry nat_cmp s n k) n ≡ without s n
without_put n k [] = rw (eq-eqb n n refl) refl
without_put n k (e ∷ es) = elim (cases_order n e.0) [
  | inl same ↦ rw (put_over n k e es same, eq-eqb e.0 n (sym same)) refl
  | inr (inl before) ↦ rw (put_before n k e es before, eq-eqb n n refl) refl
  | inr (inr behind) ↦ rw (put_behind n k e es behind, ne_eqb e.0 n (λ same. absurd (omega arith))) (ap (λ (rest : Standing). e ∷ rest) (without_put n k es))
]

without_turned : (n m : ℕ) (s : Standing) → without (without s n) m ≡ without (without s m) n
without_turned n m [] = refl
without_turned n m (e ∷ es) = elim (cases_Bool (e.0 == n)) [
  | inl is ↦ elim (cases_Bool (e.0 == m)) [ inl also ↦ rw (is, also) (without_turned n m es) | inr other ↦ simp (is, other) (without_turned n m es) ]
  | inr not_n ↦ elim (cases_Bool (e.0 == m)) [
    | inl is ↦ simp (not_n, is) (without_turned n m es)
    | inr not_m ↦ simp (not_n, not_m) (ap (λ (rest : Standing). e ∷ rest) (without_turned n m es))
  ]
]

-- without the states of insertions
abbrev pub without_all : Standing → List Insertion → Standing
without_all s rs = fold (λ standing r. without standing r.number.0) s rs

without_before : (n : ℕ) (rs : List Insertion) (s : Standing) → without_all (without s n) rs ≡ without (without_all s rs) n
without_before n [] s = refl
without_before n (r ∷ rs) s = ap (λ (t : Standing). without_all t rs) (without_turned n r.number.0 s) ∙ without_before n rs (without s r.number.0)

all_put : (rs : List Insertion) (s : Standing) → without_all (fold with_insertion s rs) rs ≡ without_all s rs
all_put [] s = refl
all_put (r ∷ rs) s =
    let n = r.number.0 in
    without_before n rs (fold with_insertion (with_insertion s r) rs)
    ∙ ap (λ (t : Standing). without t n) (all_put rs (with_insertion s r))
    ∙ sym (without_before n rs (with_insertion s r))
    ∙ ap (λ (t : Standing). without_all t rs) (without_put n (kept_of r) s)

pub none_from : (found : Option Kept) → is_some found ≡ false → found ≡ None
none_from None missing = refl
none_from (Some kept) missing = absurd cc

not_held : (n : ℕ) (s : Standing) → holds n s ≡ false → NonePasses (λ k. k == n) s
not_held n s none = none_passes_from_lookup (λ k. k == n) s (none_from (state_of n s) none)

none_out : (rs : List Insertion) (s : Standing) → some_is_held rs s ≡ false → without_all s rs ≡ s
none_out [] s none = refl
none_out (r ∷ rs) s none =
    let parts = or_parts (holds r.number.0 s) (some_is_held rs s) none in
    ap (λ (t : Standing). without_all t rs) (stays_without r.number.0 s (not_held r.number.0 s parts.0)) ∙ none_out rs s parts.1

none_taken : (count : ℕ) (rs : List Insertion) (s : Standing) → some_is_held rs s ≡ false → some_is_held (take count rs) s ≡ false
none_taken zero rs s none = refl
none_taken (suc count) [] s none = refl
none_taken (suc count) (r ∷ rs) s none =
    let parts = or_parts (holds r.number.0 s) (some_is_held rs s) none in
    or_from (holds r.number.0 s) (some_is_held (take count rs) s) parts.0 (none_taken count rs s parts.1)

-- the first insertions, put in and taken out again
pub taken_out : (count : ℕ) (rs : List Insertion) (s : Standing) → some_is_held rs s ≡ false → without_all (fold with_insertion s (take count rs)) (take count rs) ≡ s
taken_out count rs s none = all_put (take count rs) s ∙ none_out (take count rs) s (none_taken count rs s none)
