-- Where a number belongs among entries by rising number.
use Rattle.std.proofs.Common.{◌≡◌, ◌≢◌, ◌+◌, ◌-◌, ◌<◌, ◌≤◌, ℕ, zero, suc, Bool, true, false, List, [], ◌∷◌, length, take, drop, slice_index_or, refl, ap, ◌∙◌, inl, inr, arith}
use Rattle.std.specs.List.{list_all}
use Rattle.std.proofs.lemmas.Bool.{and_parts, and_from, cases_eq, lt-ltb, ltb-true, ltb-false}
use Rattle.std.proofs.lemmas.List.{get_or-take, get_or-drop, length-take, length-drop}
use Rattle.std.specs.List.Sorted.{IsPartitionedBy, IsPartitionPoint}
use Rattle.pfr_places.specs.declared.order.Ordered.{Ordered}
use Rattle.pfr_places.specs.Standing.{is_above, is_below, numbers_rise, IsRankOf, IsRankFor}

pub all_from : {X : Type 0} (p : X → Bool) (xs : List X) → ((k : ℕ) (d : X) → k < length xs → p (slice_index_or xs k d) ≡ true) → list_all p xs ≡ true
all_from p [] each = refl
all_from p (x ∷ xs) each = and_from (p x) (list_all p xs) (each 0 x (omega arith)) (all_from p xs (λ k d inside. each (suc k) d (omega arith)))

pub at_all : {X : Type 0} (p : X → Bool) (xs : List X) (k : ℕ) (d : X) → list_all p xs ≡ true → k < length xs → p (slice_index_or xs k d) ≡ true
at_all p [] k d all inside = absurd (omega arith)
at_all p (x ∷ xs) zero d all inside = (and_parts (p x) (list_all p xs) all).0
at_all p (x ∷ xs) (suc k) d all inside = at_all p xs k d (and_parts (p x) (list_all p xs) all).1 (omega arith)

-- the numbers rise from index to index
pub rises : (order : List Ordered) (i j : ℕ) (d : Ordered) → numbers_rise order ≡ true → i < j → j < length order → (slice_index_or order i d).number < (slice_index_or order j d).number
rises [] i j d in_order less inside = absurd (omega arith)
rises (x ∷ xs) i zero d in_order less inside = absurd (omega arith)
rises (x ∷ xs) zero (suc j) d in_order less inside =
    let parts = and_parts (list_all (is_above x.number) xs) (numbers_rise xs) in_order in
    ltb-true x.number (slice_index_or xs j d).number (at_all (is_above x.number) xs j d parts.0 (omega arith))
rises (x ∷ xs) (suc i) (suc j) d in_order less inside =
    let parts = and_parts (list_all (is_above x.number) xs) (numbers_rise xs) in_order in
    rises xs i j d parts.1 (omega arith) (omega arith)

pub parted : (order : List Ordered) (number : ℕ) → numbers_rise order ≡ true → IsPartitionedBy (is_below number) order
parted order number in_order i j d le inside it = elim (cases_eq i j) [
  | inl same ↦ ap (λ (k : ℕ). is_below number (slice_index_or order k d)) same ∙ it
  | inr other ↦
      let less = rises order i j d in_order (omega arith) inside in
      let below = ltb-true (slice_index_or order j d).number number it in
      lt-ltb (slice_index_or order i d).number number (omega arith)
]

-- what a search for the first entry whose number isn't below this one tells
abbrev pub Parts : ℕ → List Ordered → ℕ → Type 0
Parts number order at = IsPartitionPoint (λ entry. is_below number entry ≡ true) (λ entry. is_below number entry ≡ false) order at

before : (order : List Ordered) (number at : ℕ) → at ≤ length order → Parts number order at → list_all (is_below number) (take at order) ≡ true
before order number at within point = all_from (is_below number) (take at order) (λ k d inside.
    let short = length-take at order in
    ap (is_below number) (get_or-take at order k d (omega arith)) ∙ point.0 k d (omega arith) (omega arith))

behind : (order : List Ordered) (number from : ℕ) → from ≤ length order → ((k : ℕ) (d : Ordered) → from ≤ k → k < length order → number < (slice_index_or order k d).number) → list_all (is_above number) (drop from order) ≡ true
behind order number from within above = all_from (is_above number) (drop from order) (λ k d inside.
    let short = length-drop from order in
    ap (is_above number) (get_or-drop from order k d) ∙ lt-ltb number (slice_index_or order (from + k) d).number (above (from + k) d (omega arith) (omega arith)))

pub rank_of : (order : List Ordered) (number at : ℕ) → numbers_rise order ≡ true → at < length order → Parts number order at → ((d : Ordered) → (slice_index_or order at d).number ≡ number) → IsRankOf number at order
rank_of order number at in_order within point is = record {
  within = within;
  is = is;
  between = record {
    below = before order number at (omega arith) point;
    above = behind order number (at + 1) (omega arith) (λ k d from inside. let less = rises order at k d in_order (omega arith) inside in let same = is d in omega arith);
  };
}

pub rank_for : (order : List Ordered) (number at : ℕ) → numbers_rise order ≡ true → at ≤ length order → Parts number order at → ((d : Ordered) → at < length order → (slice_index_or order at d).number ≢ number) → IsRankFor number at order
rank_for order number at in_order within point other = record {
  within = within;
  between = record {
    below = before order number at within point;
    above = behind order number at within (λ k d from inside.
        let differs = other d (omega arith) in
        let not_below = ltb-false (slice_index_or order at d).number number (point.1 at d (omega arith) (omega arith)) in
        elim (cases_eq at k) [
          | inl same ↦ (let same_number = ap (λ (i : ℕ). (slice_index_or order i d).number) same in omega arith)
          | inr further ↦ (let less = rises order at k d in_order (omega arith) inside in omega arith)
        ]);
  };
}

pub below_last : (order : List Ordered) (number : ℕ) → numbers_rise order ≡ true → ((d : Ordered) → (slice_index_or order (length order - 1) d).number < number) → list_all (is_below number) order ≡ true
below_last order number in_order last = all_from (is_below number) order (λ k d inside. elim (cases_eq k (length order - 1)) [
  | inl same ↦ (let below = last d in let is = ap (λ (i : ℕ). (slice_index_or order i d).number) same in lt-ltb (slice_index_or order k d).number number (omega arith))
  | inr other ↦ (let less = rises order k (length order - 1) d in_order (omega arith) (omega arith) in let below = last d in lt-ltb (slice_index_or order k d).number number (omega arith))
])
