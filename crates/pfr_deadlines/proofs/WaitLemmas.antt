-- The first of the deadlines by which states wait.
use Rattle.std.proofs.Common.{◌≡◌, false, List, [], ◌∷◌, map, Bool, true, false, cond, length, ◌∙◌, arith, ap, inl, inr, refl}
use Rattle.std.specs.BinaryHeap.{lt_by_cmp}
use Rattle.std.specs.List.{AllByRecursion, filter, items_where_true}
use Rattle.std.specs.List.Retain.{IsFiltered, ReturnsInTurn}
use Rattle.std.proofs.lemmas.Bool.{cases_Bool}
use Rattle.std.specs.declared.cmp.Reverse.{Reverse}
use Rattle.pfr_deadlines.specs.Waits.{IsBefore, Wait, reversed_cmp, waits_of}

pub all_before : (first : Reverse Wait) (waits : List (Reverse Wait)) → AllByRecursion (λ other. lt_by_cmp reversed_cmp first other ≡ false) waits → AllByRecursion (IsBefore first.0) (map (λ (wait : Reverse Wait). wait.0) waits)
all_before first [] all = all
all_before first (wait ∷ waits) all = (all.0, all_before first waits all.1)

pub filtered : (p : Wait → Bool) (items : List (Reverse Wait)) → waits_of (filter (λ (it : Reverse Wait). p it.0) items) ≡ filter p (waits_of items)
filtered p [] = refl
filtered p (item ∷ items) = elim (cases_Bool (p item.0)) [
  | inl it_is ↦ rw it_is (ap (λ (rest : List Wait). item.0 ∷ rest) (filtered p items))
  | inr other ↦ rw other (filtered p items)
]

-- what a test leaves that answers the same all along
module _ {X P : Type 0} (R : P → X → Bool → P → Type 0) (Stays : P → Type 0) (test : X → Bool) (says : (p : P) (x : X) (b : Bool) (q : P) → Stays p → R p x b q → (b ≡ test x) × Stays q) where
  chosen : (x : X) (bs : List Bool) (xs all : List X) (b c : Bool) → b ≡ c → items_where_true bs xs ≡ all → items_where_true (b ∷ bs) (x ∷ xs) ≡ cond c (x ∷ all) all
  chosen x bs xs all true c is same = rw (← is) (ap (λ (rest : List X). x ∷ rest) same)
  chosen x bs xs all false c is same = rw (← is) same

  told : (p q : P) (bs : List Bool) (xs : List X) → length bs ≡ length xs → Stays p → ReturnsInTurn R p bs xs q → items_where_true bs xs ≡ filter test xs
  told p q [] [] even stays turns = refl
  told p q [] (x ∷ xs) even stays turns = absurd cc
  told p q (b ∷ bs) [] even stays turns = absurd turns
  told p q (b ∷ bs) (x ∷ xs) even stays turns =
      let first = says p x b turns.0 stays turns.1 in
      chosen x bs xs (filter test xs) b (test x) first.0 (told turns.0 q bs xs (omega (arith, even)) first.1 turns.2)

  pub left : (p : P) (xs ys : List X) → Stays p → IsFiltered R p xs ys → ys ≡ filter test xs
  left p xs ys stays f = f.4 ∙ told p f.1 f.0 xs f.2 stays f.3
