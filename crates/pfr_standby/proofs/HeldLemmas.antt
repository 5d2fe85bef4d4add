-- What is held under a number after each record of a message, and that the numbers still rise.
use Rattle.std.proofs.Common.{◌≡◌, ℕ, ◌<◌, ◌==◌, ◌&&◌, Bool, true, false, nat_lt, if◌then◌else◌, List, [], ◌∷◌, ◌++◌, fold, Some, None, Result, Ok, Err, sym, refl, ap, ◌∙◌, inl, inr, arith}
use Rattle.std.specs.BTreeMap.{insert_entry}
use Rattle.std.specs.List.{AllByRecursion, list_all}
use Rattle.std.specs.List.Sorted.{IsStrictlySortedBy}
use Rattle.std.specs.Map.{keys_of}
use Rattle.std.specs.Option.{option_map}
use Rattle.std.specs.Ordering.{nat_cmp}
use Rattle.std.specs.declared.cmp.Ordering.TheVariants.{Less}
use Rattle.std.proofs.lemmas.Bool.{and_from, and_parts, cases_Bool, cases_order, eq-eqb, eqb-true, false≢true, lt-ltb, ltb-true, ne_eqb}
use Rattle.std.proofs.lemmas.Cmp.{ranked}
use Rattle.std.proofs.lemmas.Map.Keys.{sorted_head, sorted_tail}
use Rattle.pfr_messages.specs.Messages.{Content}
use Rattle.pfr_messages.specs.declared.error.SyncError.{SyncError}
use Rattle.pfr_messages.specs.declared.records.Insertion.{Insertion}
use Rattle.pfr_messages.specs.declared.records.Update.{Update}
use Rattle.pfr_messages.specs.declared.records.Deletion.{Deletion}
use Rattle.pfr_standby.specs.declared.kept.Kept.{Kept}
use Rattle.pfr_standby.specs.Standby.{Standing, all_taken, kept_of, moved_by, refuses, rises, standing_after, state_of, taken, with_insertion, with_update, without, without_deletion}
use Rattle.pfr_standby.proofs.MapLemmas.{put_before, put_behind, put_over}

-- ---- what is held under a number

held_put : (q n : ℕ) (k : Kept) (s : Standing) → state_of q (insert_entry nat_cmp s n k) ≡ (if n == q then Some k else state_of q s)
held_put q n k [] = refl
held_put q n k (e ∷ es) = elim (cases_order n e.0) [
  | inl same ↦ rw (put_over n k e es same, same) (elim (cases_Bool (e.0 == q)) [ inl is ↦ rw is refl | inr other ↦ rw other refl ])
  | inr (inl before) ↦ rw (put_before n k e es before) refl
  | inr (inr behind) ↦ rw (put_behind n k e es behind, held_put q n k es) (elim (cases_Bool (e.0 == q)) [
    | inl is ↦
        let here : e.0 ≡ q = eqb-true e.0 q is in
        rw (is, ne_eqb n q (λ same. absurd (omega arith))) refl
    | inr other ↦ rw other refl
  ])
]

pub held_inserted : (q : ℕ) (s : Standing) (r : Insertion) → state_of q (with_insertion s r) ≡ (if r.number.0 == q then Some (kept_of r) else state_of q s)
held_inserted q s r = held_put q r.number.0 (kept_of r) s

pub held_updated : (q : ℕ) (s : Standing) (r : Update) → state_of q (with_update s r) ≡ (if r.number.0 == q then option_map (moved_by r) (state_of q s) else state_of q s)
held_updated q [] r = elim (cases_Bool (r.number.0 == q)) [ inl is ↦ rw is refl | inr other ↦ rw other refl ]
held_updated q (e ∷ es) r =
    let n = r.number.0 in
    elim (cases_Bool (e.0 == n)) [
      | inl its ↦
          let named : e.0 ≡ n = eqb-true e.0 n its in
          elim (cases_Bool (e.0 == q)) [
            | inl is ↦ rw (its, is, eq-eqb n q (sym named ∙ eqb-true e.0 q is)) refl
            | inr other ↦
                let apart : (n == q) ≡ false = ap (λ k. k == q) (sym named) ∙ other in
                rw (its, other, held_updated q es r, apart) refl
          ]
      | inr not_its ↦ elim (cases_Bool (e.0 == q)) [
        | inl is ↦
            let here : e.0 ≡ q = eqb-true e.0 q is in
            let apart : (n == q) ≡ false = ne_eqb n q (λ same. absurd (false≢true (sym not_its ∙ eq-eqb e.0 n (here ∙ sym same)))) in
            rw (not_its, is, apart) refl
        | inr other ↦ rw (not_its, other) (held_updated q es r)
      ]
    ]

held_without : (q n : ℕ) (s : Standing) → state_of q (without s n) ≡ (if n == q then None else state_of q s)
held_without q n [] = elim (cases_Bool (n == q)) [ inl is ↦ rw is refl | inr other ↦ rw other refl ]
held_without q n (e ∷ es) = elim (cases_Bool (e.0 == n)) [
  | inl its ↦
      let named : e.0 ≡ n = eqb-true e.0 n its in
      rw (its, held_without q n es) (elim (cases_Bool (n == q)) [
        | inl is ↦ rw is refl
        | inr other ↦
            let apart : (e.0 == q) ≡ false = ap (λ k. k == q) named ∙ other in
            rw (other, apart) refl
      ])
  | inr not_its ↦ rw not_its (elim (cases_Bool (e.0 == q)) [
    | inl is ↦
        let here : e.0 ≡ q = eqb-true e.0 q is in
        let apart : (n == q) ≡ false = ne_eqb n q (λ same. absurd (false≢true (sym not_its ∙ eq-eqb e.0 n (here ∙ sym same)))) in
        rw (is, apart) refl
    | inr other ↦ rw other (held_without q n es)
  ])
]

pub held_deleted : (q : ℕ) (s : Standing) (r : Deletion) → state_of q (without_deletion s r) ≡ (if r.number.0 == q then None else state_of q s)
held_deleted q s r = held_without q r.number.0 s

-- ---- the numbers rise

abbrev all_above : ℕ → Standing → Bool
all_above n s = list_all (λ other. nat_lt n other.0) s

above_put : (m n : ℕ) (k : Kept) (s : Standing) → nat_lt m n ≡ true → all_above m s ≡ true → all_above m (insert_entry nat_cmp s n k) ≡ true
above_put m n k [] less above = rw less refl
above_put m n k (e ∷ es) less above =
    let parts = and_parts (nat_lt m e.0) (all_above m es) above in
    elim (cases_order n e.0) [
      | inl same ↦ rw (put_over n k e es same) above
      | inr (inl before) ↦ rw (put_before n k e es before, less) above
      | inr (inr behind) ↦ rw (put_behind n k e es behind, parts.0) (above_put m n k es less parts.1)
    ]

above_lower : (m n : ℕ) (s : Standing) → m < n → all_above n s ≡ true → all_above m s ≡ true
above_lower m n [] less above = refl
above_lower m n (e ∷ es) less above =
    let parts = and_parts (nat_lt n e.0) (all_above n es) above in
    let below = ltb-true n e.0 parts.0 in
    rw (lt-ltb m e.0 (omega arith)) (above_lower m n es less parts.1)

rises_put : (n : ℕ) (k : Kept) (s : Standing) → rises s ≡ true → rises (insert_entry nat_cmp s n k) ≡ true
rises_put n k [] in_order = refl
rises_put n k (e ∷ es) in_order =
    let parts = and_parts (all_above e.0 es) (rises es) in_order in
    elim (cases_order n e.0) [
      | inl same ↦ rw (put_over n k e es same) in_order
      | inr (inl before) ↦
          rw (put_before n k e es before, lt-ltb n e.0 before) (and_from (all_above n es) (rises (e ∷ es)) (above_lower n e.0 es before parts.0) in_order)
      | inr (inr behind) ↦
          rw (put_behind n k e es behind)
          (and_from (all_above e.0 (insert_entry nat_cmp es n k)) (rises (insert_entry nat_cmp es n k)) (above_put e.0 n k es (lt-ltb e.0 n behind) parts.0) (rises_put n k es parts.1))
    ]

above_updated : (m : ℕ) (r : Update) (s : Standing) → all_above m (with_update s r) ≡ all_above m s
above_updated m r [] = refl
above_updated m r (e ∷ es) = elim (cases_Bool (e.0 == r.number.0)) [
  | inl is ↦ rw is (ap (λ (rest : Bool). nat_lt m e.0 && rest) (above_updated m r es))
  | inr other ↦ rw other (ap (λ (rest : Bool). nat_lt m e.0 && rest) (above_updated m r es))
]

rises_updated : (r : Update) (s : Standing) → rises (with_update s r) ≡ rises s
rises_updated r [] = refl
rises_updated r (e ∷ es) = elim (cases_Bool (e.0 == r.number.0)) [
  | inl is ↦ rw (is, above_updated e.0 r es, rises_updated r es) refl
  | inr other ↦ rw (other, above_updated e.0 r es, rises_updated r es) refl
]

above_without : (m n : ℕ) (s : Standing) → all_above m s ≡ true → all_above m (without s n) ≡ true
above_without m n [] above = refl
above_without m n (e ∷ es) above =
    let parts = and_parts (nat_lt m e.0) (all_above m es) above in
    elim (cases_Bool (e.0 == n)) [
      | inl is ↦ rw is (above_without m n es parts.1)
      | inr other ↦ rw (other, parts.0) (above_without m n es parts.1)
    ]

rises_without : (n : ℕ) (s : Standing) → rises s ≡ true → rises (without s n) ≡ true
rises_without n [] in_order = refl
rises_without n (e ∷ es) in_order =
    let parts = and_parts (all_above e.0 es) (rises es) in_order in
    elim (cases_Bool (e.0 == n)) [
      | inl is ↦ rw is (rises_without n es parts.1)
      | inr other ↦ rw (other, above_without e.0 n es parts.0) (rises_without n es parts.1)
    ]

fold_rises : {R : Type 0} (step : Standing → R → Standing) → ((s : Standing) (r : R) → rises s ≡ true → rises (step s r) ≡ true) → (rs : List R) (s : Standing) → rises s ≡ true → rises (fold step s rs) ≡ true
fold_rises step keeps [] s in_order = in_order
fold_rises step keeps (r ∷ rs) s in_order = fold_rises step keeps rs (step s r) (keeps s r in_order)

-- the numbers rise after a message if they do before it
pub after_rises : (content : Content) (s : Standing) → rises s ≡ true → rises (standing_after content s) ≡ true
after_rises content s in_order =
    fold_rises without_deletion (λ t r rise. rises_without r.number.0 t rise) content.deletions (fold with_update (fold with_insertion s content.insertions) content.updates)
    (fold_rises with_update (λ t r rise. rises_updated r t ∙ rise) content.updates (fold with_insertion s content.insertions)
    (fold_rises with_insertion (λ t r rise. rises_put r.number.0 (kept_of r) t rise) content.insertions s in_order))

above_sorted : (m : ℕ) (s : Standing) → AllByRecursion (λ k. nat_cmp m k ≡ Less) (keys_of s) → all_above m s ≡ true
above_sorted m [] above = refl
above_sorted m (e ∷ es) above =
    let less : m < e.0 = ranked m e.0 Less (sym above.0) in
    rw (lt-ltb m e.0 less) (above_sorted m es above.1)

-- the numbers of a map rise
pub rises_sorted : (s : Standing) → IsStrictlySortedBy nat_cmp (keys_of s) → rises s ≡ true
rises_sorted [] sorted = refl
rises_sorted (e ∷ es) sorted =
    and_from (all_above e.0 es) (rises es) (above_sorted e.0 es (sorted_head nat_cmp e.0 (keys_of es) sorted)) (rises_sorted es (sorted_tail nat_cmp e.0 (keys_of es) sorted))

-- ---- messages

pub one_taken : (content : Content) (s : Standing) → refuses content s ≡ false → taken s content ≡ Ok (standing_after content s)
one_taken content s unrefused = rw unrefused refl

taken_by : (first : Result Standing SyncError) (t : Standing) (more : List Content) → first ≡ Ok t → (elim first [ Ok after ↦ all_taken after more | Err refusal ↦ Err refusal ]) ≡ all_taken t more
taken_by first t more is = rw is refl

-- a message that is taken, and more messages
pub then_taken : (content : Content) (more : List Content) (s t : Standing) → taken s content ≡ Ok t → all_taken s (content ∷ more) ≡ all_taken t more
then_taken content more s t is = taken_by (taken s content) t more is

append_by : (first : Result Standing SyncError) (xs ys : List Content) (t : Standing) → ((u : Standing) → all_taken u xs ≡ Ok t → all_taken u (xs ++ ys) ≡ all_taken t ys)
    → ◌≡◌ {A = Result Standing SyncError} (elim first [ Ok after ↦ all_taken after xs | Err refusal ↦ Err refusal ]) (Ok t)
    → ◌≡◌ {A = Result Standing SyncError} (elim first [ Ok after ↦ all_taken after (xs ++ ys) | Err refusal ↦ Err refusal ]) (all_taken t ys)
append_by (Ok u) xs ys t on is = on u is
append_by (Err refusal) xs ys t on is = absurd cc

-- messages that are taken, and more messages
pub append_taken : (xs ys : List Content) (s t : Standing) → all_taken s xs ≡ Ok t → all_taken s (xs ++ ys) ≡ all_taken t ys
append_taken [] ys s t is = ap (λ (first : Result Standing SyncError). elim first [ Ok after ↦ all_taken after ys | Err refusal ↦ Err refusal ]) is
append_taken (x ∷ xs) ys s t is = append_by (taken s x) xs ys t (λ u h. append_taken xs ys u t h) is

-- ---- a standby by what it holds under each number

unheld_below : (n : ℕ) (s : Standing) → all_above n s ≡ true → state_of n s ≡ None
unheld_below n [] above = refl
unheld_below n (e ∷ es) above =
    let parts = and_parts (nat_lt n e.0) (all_above n es) above in
    let less = ltb-true n e.0 parts.0 in
    rw (ne_eqb e.0 n (λ same. absurd (omega arith))) (unheld_below n es parts.1)

first_held : (e : ℕ × Kept) (es : Standing) → state_of e.0 (e ∷ es) ≡ Some e.1
first_held e es = rw (eq-eqb e.0 e.0 refl) refl

-- states that rise and have the same one under each number are the same
pub same_states : (s t : Standing) → rises s ≡ true → rises t ≡ true → ((n : ℕ) → state_of n s ≡ state_of n t) → s ≡ t
same_states [] [] rise also same = refl
same_states [] (f ∷ fs) rise also same = let found : None ≡ Some f.1 = same f.0 ∙ first_held f fs in absurd cc
same_states (e ∷ es) [] rise also same = let found : Some e.1 ≡ None = sym (first_held e es) ∙ same e.0 in absurd cc
same_states (e ∷ es) (f ∷ fs) rise also same =
    let parts = and_parts (all_above e.0 es) (rises es) rise in
    let others = and_parts (all_above f.0 fs) (rises fs) also in
    elim (cases_order e.0 f.0) [
      | inl is ↦
          let found : Some e.1 ≡ Some f.1 = sym (first_held e es) ∙ same e.0 ∙ ap (λ (n : ℕ). state_of n (f ∷ fs)) is ∙ first_held f fs in
          let state : e.1 ≡ f.1 = cc in
          let more = same_states es fs parts.1 others.1 (λ n. elim (cases_Bool (e.0 == n)) [
            | inl here ↦
                let own : e.0 ≡ n = eqb-true e.0 n here in
                ap (λ (k : ℕ). state_of k es) (sym own) ∙ unheld_below e.0 es parts.0
                ∙ sym (ap (λ (k : ℕ). state_of k fs) (sym own ∙ is) ∙ unheld_below f.0 fs others.0)
            | inr other ↦
                let apart : (f.0 == n) ≡ false = ap (λ (k : ℕ). k == n) (sym is) ∙ other in
                rw apart at (rw other at (same n))
          ]) in
          ap (λ (n : ℕ). (n, e.1) ∷ es) is ∙ ap (λ (kept : Kept). (f.0, kept) ∷ es) state ∙ ap (λ (rest : Standing). f ∷ rest) more
      | inr (inl before) ↦
          let above : all_above e.0 (f ∷ fs) ≡ true = rw (lt-ltb e.0 f.0 before) (above_lower e.0 f.0 fs before others.0) in
          let found : Some e.1 ≡ None = sym (first_held e es) ∙ same e.0 ∙ unheld_below e.0 (f ∷ fs) above in
          absurd cc
      | inr (inr behind) ↦
          let above : all_above f.0 (e ∷ es) ≡ true = rw (lt-ltb f.0 e.0 behind) (above_lower f.0 e.0 es behind parts.0) in
          let found : None ≡ Some f.1 = sym (unheld_below f.0 (e ∷ es) above) ∙ same f.0 ∙ first_held f fs in
          absurd cc
    ]
