-- What a change at the index of a number does to entries.
use Rattle.std.proofs.Common.{◌≡◌, ◌+◌, ◌<◌, ℕ, true, not, List, [], ◌∷◌, ◌++◌, length, take, drop, slice_index_or, slice_set, Option, Some, None, sym, refl, ap, ◌∙◌, arith, add-one}
use Rattle.std.specs.List.{insert, list_all}
use Rattle.std.proofs.lemmas.Bool.{and_from, and_parts, eq-eqb, le-ltb, ltb-true}
use Rattle.std.proofs.lemmas.List.{drop_more, set_split, take-append-drop, take_more}
use Rattle.std.proofs.lemmas.List.Folds.{list_all-append}
use Rattle.pfr_places.specs.declared.order.Ordered.{Ordered}
use Rattle.pfr_places.specs.declared.place.Place.{Place}
use Rattle.pfr_places.specs.Standing.{is_above, is_below, is_of, IsFrom, IsGone, IsPut, IsRankFor, IsRankOf, IsTaken}

abbrev pub entry : ℕ → Option Place → Ordered
entry number place = record { number = number; place = place }

entry_is : (e : Ordered) (number : ℕ) (place : Option Place) → e.number ≡ number → e.place ≡ place → e ≡ entry number place
entry_is e number place of_number at_place = ap (λ (n : ℕ). entry n e.place) of_number ∙ ap (λ (p : Option Place). entry number p) at_place

split : (order : List Ordered) (at : ℕ) (d : Ordered) → at < length order → order ≡ take at order ++ slice_index_or order at d ∷ drop (at + 1) order
split order at d inside = sym (take-append-drop at order) ∙ ap (λ (rest : List Ordered). take at order ++ rest) (drop_more order at d inside)

set_is : (order : List Ordered) (at : ℕ) (e : Ordered) → at < length order → slice_set order at e ≡ take at order ++ e ∷ drop (at + 1) order
set_is order at e inside = set_split order at e inside ∙ ap (λ (n : ℕ). take at order ++ e ∷ drop n order) (sym (add-one at))

pub there : (order : List Ordered) (number at : ℕ) (place : Option Place) (d : Ordered) → IsRankOf number at order → (slice_index_or order at d).place ≡ place → order ≡ take at order ++ entry number place ∷ drop (at + 1) order
there order number at place d rank is =
    split order at d rank.within ∙ ap (λ (e : Ordered). take at order ++ e ∷ drop (at + 1) order) (entry_is (slice_index_or order at d) number place (rank.is d) is)

pub put_over : (order : List Ordered) (number at : ℕ) (place : Place) → IsRankOf number at order → IsPut number place order (slice_set order at (entry number (Some place)))
put_over order number at place rank =
    let d = entry number (Some place) in
    record {
      before = take at order;
      same = slice_index_or order at d ∷ [];
      behind = drop (at + 1) order;
      was = split order at d rank.within;
      is_now = set_is order at d rank.within;
      of_number = and_from (is_of number (slice_index_or order at d)) true (eq-eqb (slice_index_or order at d).number number (rank.is d)) refl;
      between = rank.between;
    }

pub put_new : (order : List Ordered) (number at : ℕ) (place : Place) → IsRankFor number at order → IsPut number place order (insert order at (entry number (Some place)))
put_new order number at place rank = record {
  before = take at order;
  same = [];
  behind = drop at order;
  was = sym (take-append-drop at order);
  is_now = refl;
  of_number = refl;
  between = rank.between;
}

pub taken : (order : List Ordered) (number at : ℕ) (place : Place) (d : Ordered) → IsRankOf number at order → (slice_index_or order at d).place ≡ Some place
    → IsTaken number place order (slice_set order at (entry number None))
taken order number at place d rank is = record {
  before = take at order;
  behind = drop (at + 1) order;
  was = there order number at (Some place) d rank is;
  is_now = set_is order at (entry number None) rank.within;
  between = rank.between;
}

pub gone_there : (order : List Ordered) (number at : ℕ) (d : Ordered) → IsRankOf number at order → (slice_index_or order at d).place ≡ None → IsGone number order
gone_there order number at d rank is = record {
  before = take at order;
  same = entry number None ∷ [];
  behind = drop (at + 1) order;
  is = there order number at None d rank is;
  gone = refl;
  between = rank.between;
}

pub gone : (order : List Ordered) (number at : ℕ) → IsRankFor number at order → IsGone number order
gone order number at rank = record {
  before = take at order;
  same = [];
  behind = drop at order;
  is = sym (take-append-drop at order);
  gone = refl;
  between = rank.between;
}

-- ---- the entries above a number

not_above : (number : ℕ) (xs : List Ordered) → list_all (is_below number) xs ≡ true → list_all (λ e. not (is_above number e)) xs ≡ true
not_above number [] all = refl
not_above number (x ∷ xs) all =
    let parts = and_parts (is_below number x) (list_all (is_below number) xs) all in
    let below = ltb-true x.number number parts.0 in
    and_from (not (is_above number x)) (list_all (λ e. not (is_above number e)) xs) (ap not (le-ltb number x.number (omega arith))) (not_above number xs parts.1)

pub from_there : (order : List Ordered) (number at : ℕ) → IsRankOf number at order → IsFrom number (at + 1) order
from_there order number at rank =
    let d = entry number None in
    let e = slice_index_or order at d in
    let same = rank.is d in
    let it : not (is_above number e) ≡ true = ap not (le-ltb number e.number (omega (arith, same))) in
    record {
      within = (let inside = rank.within in omega arith);
      before = rw (take_more order at d rank.within)
          (list_all-append (λ e. not (is_above number e)) (take at order) (e ∷ []) ∙ and_from (list_all (λ e. not (is_above number e)) (take at order)) (list_all (λ e. not (is_above number e)) (e ∷ []))
          (not_above number (take at order) rank.between.below) (and_from (not (is_above number e)) true it refl));
      behind = rank.between.above;
    }

pub from_here : (order : List Ordered) (number at : ℕ) → IsRankFor number at order → IsFrom number at order
from_here order number at rank = record {
  within = rank.within;
  before = not_above number (take at order) rank.between.below;
  behind = rank.between.above;
}
