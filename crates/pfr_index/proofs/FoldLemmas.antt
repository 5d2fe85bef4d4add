-- The places under a hash, gone through slot by slot.
use Rattle.std.proofs.Common.{◌≡◌, ℕ, ◌+◌, ◌<◌, ◌≤◌, Bool, true, false, List, [], ◌∷◌, ◌++◌, length, take, drop, get_or, arith, refl, sym, subst, inl, inr}
use Rattle.std.specs.List.{All, AllWithin, Contains, FoldsTo}
use Rattle.std.proofs.lemmas.Bool.{cases_lt}
use Rattle.std.proofs.lemmas.Bool.Decides.{nat_tests}
use Rattle.std.proofs.lemmas.Fn.{FoldsTo-push, chained_keeps}
use Rattle.std.proofs.lemmas.List.{append-nil, append_assoc, get_or_default}
use Rattle.std.proofs.lemmas.List.Elements.{Contains-append_cases, Contains-append_left, Contains-append_right}
use Rattle.pfr_places.specs.declared.place.Place.{Place}
use Rattle.pfr_index.specs.declared.hash.Hash.{Hash}
use Rattle.pfr_index.specs.declared.slot.Slot.{Slot}
use Rattle.pfr_index.specs.Index.{times_in}
use Rattle.pfr_index.specs.Slots.{AreReached, entries_of, holds, home_of, is_free, is_under}
use Rattle.pfr_index.specs.Searches.{IsFound, IsNone}
use Rattle.pfr_index.specs.Folds.{Among, FoldsUnder, GoesThrough, Covers, IsCovered}
use Rattle.pfr_index.proofs.FindLemmas.{end_at, found_counts, found_early, found_late, none_all, none_counts, none_early, none_late}

-- a slot under a hash holds its place under it
under_holds : (hash : Hash) (slot : Slot) → is_under hash slot ≡ true → holds (record { hash = hash; place = slot.place }) slot ≡ true
under_holds hash slot under = grind (arith, nat_tests)

-- the one place of a list of one
one_alone : (place other : Place) → Contains (place ∷ []) other → place ≡ other
one_alone place other inside = let first : inside.0 ≡ 0 = omega (arith, inside.1) in rw first at inside.2

-- places are found among more of them
found_more : (hash : Hash) (slots : List Slot) (places more : List Place) (place : Place) → IsFound (Among places) hash slots place → IsFound (Among (places ++ more)) hash slots place
found_more hash slots places more place found = record {
  index = found.index;
  within = found.within;
  there = found.there;
  answer = Contains-append_left places more place found.answer;
}

found_later : (hash : Hash) (slots : List Slot) (places more : List Place) (place : Place) → IsFound (Among more) hash slots place → IsFound (Among (places ++ more)) hash slots place
found_later hash slots places more place found = record {
  index = found.index;
  within = found.within;
  there = found.there;
  answer = Contains-append_right places more place found.answer;
}

found_either : (hash : Hash) (slots : List Slot) (places more : List Place)
    → ((place : Place) → Contains places place → IsFound (Among places) hash slots place)
    → ((place : Place) → Contains more place → IsFound (Among more) hash slots place)
    → (place : Place) → Contains (places ++ more) place → IsFound (Among (places ++ more)) hash slots place
found_either hash slots places more first rest place inside =
    elim (Contains-append_cases places more place inside) [
      | inl early ↦ found_more hash slots places more place (first place early)
      | inr late ↦ found_later hash slots places more place (rest place late)
    ]

module _ {B : Type 0} (Step : B → Place → B → Type 0) (start : B) (hash : Hash) (slots : List Slot) where
  -- steps over the places under the hash in the first slots
  pub record HasPassed (count : ℕ) (last : B) : Type 0 where
    pub places : List Place
    pub folds : FoldsTo Step start places last
    pub stand : (place : Place) → Contains places place → IsFound (Among places) hash slots place
    pub covered : AllWithin (IsCovered hash places) slots 0 count

  -- one slot more is covered, if more places cover it
  covered_more : (places more : List Place) (count : ℕ) (any : Slot) → count < length slots
      → AllWithin (IsCovered hash places) slots 0 count → IsCovered hash (places ++ more) (get_or slots count any)
      → AllWithin (IsCovered hash (places ++ more)) slots 0 (count + 1)
  covered_more places more count any within covered here k other from to under =
      elim (cases_lt k count) [
        | inl sooner ↦ Contains-append_left places more (get_or slots k other).place (covered k other from sooner under)
        | inr late ↦
            let same : k ≡ count = omega arith in
            let is : get_or slots k other ≡ get_or slots count any = rw same (get_or_default slots count other any within) in
            rw is (here (rw is at under))
      ]

  -- one slot more, under another hash or none
  pub passed_over : (count : ℕ) (last : B) (any : Slot) → count < length slots → is_under hash (get_or slots count any) ≡ false → HasPassed count last → HasPassed (count + 1) last
  passed_over count last any within other_hash so_far = record {
    places = so_far.places;
    folds = so_far.folds;
    stand = so_far.stand;
    covered =
        subst
        (λ places. AllWithin (IsCovered hash places) slots 0 (count + 1))
        (append-nil so_far.places)
        (covered_more so_far.places [] count any within so_far.covered (λ under. absurd cc));
  }

  -- one slot more, under the hash
  pub passed_step : (count : ℕ) (last after : B) (any : Slot) → count < length slots → is_under hash (get_or slots count any) ≡ true
      → Step last (get_or slots count any).place after → HasPassed count last → HasPassed (count + 1) after
  passed_step count last after any within under step so_far =
      let place : Place = (get_or slots count any).place in
      let places : List Place = so_far.places ++ (place ∷ []) in
      let there : (other : Slot) → holds (record { hash = hash; place = place }) (get_or slots count other) ≡ true =
      λ other. rw (get_or_default slots count other any within) (under_holds hash (get_or slots count any) under) in
      record {
        places = places;
        folds = FoldsTo-push Step start so_far.places last place after so_far.folds step;
        stand =
            found_either hash slots so_far.places (place ∷ []) so_far.stand
            (λ other inside.
            let is : place ≡ other = one_alone place other inside in
            subst (λ p. IsFound (Among (place ∷ [])) hash slots p) is (record { index = count; within = within; there = there; answer = (0, omega arith, refl) }));
        covered =
            covered_more so_far.places (place ∷ []) count any within so_far.covered
            (λ _. Contains-append_right so_far.places (place ∷ []) place (0, omega arith, refl));
      }

  -- the next slot is free
  pub through_free : (count : ℕ) (last : B) (any : Slot) → count < length slots → is_free (get_or slots count any) ≡ true → HasPassed count last → GoesThrough Step start hash slots last true
  through_free count last any within free so_far = record {
    places = so_far.places;
    folds = so_far.folds;
    stand = so_far.stand;
    covers = end_at (Among so_far.places) hash slots count any within free so_far.covered;
  }

  -- there is no next slot
  pub through_all : (count : ℕ) (last : B) → length slots ≤ count → HasPassed count last → GoesThrough Step start hash slots last false
  through_all count last past so_far = record {
    places = so_far.places;
    folds = so_far.folds;
    stand = so_far.stand;
    covers = λ k other below. so_far.covered k other (omega arith) (omega arith);
  }

-- ---- both parts of the slots

-- steps behind others
behind : {B X : Type 0} (R : B → X → B → Type 0) (start middle last : B) (xs ys : List X) → FoldsTo R start xs middle → FoldsTo R middle ys last → FoldsTo R start (xs ++ ys) last
behind R start middle last xs ys first rest =
    chained_keeps
    R
    (λ zs q. FoldsTo R start (xs ++ zs) q)
    (λ zs q y v so step. subst (λ all. FoldsTo R start all v) (append_assoc xs zs (y ∷ [])) (FoldsTo-push R start (xs ++ zs) q y v so step))
    ys
    middle
    last
    (subst (λ all. FoldsTo R start all middle) (sym (append-nil xs)) first)
    rest

module _ {B : Type 0} (Step : B → Place → B → Type 0) (start : B) (hash : Hash) (slots : List Slot) (home : ℕ) (within : home ≤ length slots) (reached : AreReached slots) (is_home : home ≡ home_of hash (length slots)) where
  -- all of the slots, by how often each place stands there
  by_counts : (places : List Place) (last : B) → FoldsTo Step start places last
      → ((place : Place) → Contains places place → IsFound (Among places) hash slots place)
      → IsNone (Among places) hash slots
      → FoldsUnder Step start hash (times_in (entries_of slots)) last
  by_counts places last folds stand none = record {
    places = places;
    folds = folds;
    stand = λ place inside. found_counts (Among places) hash slots place (stand place inside);
    all = none_counts (Among places) hash slots none;
  }

  -- a free slot behind the home ends it
  pub whole_late : (last : B) → GoesThrough Step start hash (drop home slots) last true → FoldsUnder Step start hash (times_in (entries_of slots)) last
  whole_late last late =
      by_counts late.places last late.folds
      (λ place inside. found_late (Among late.places) hash slots home within place (late.stand place inside))
      (none_late (Among late.places) hash slots home within reached is_home late.covers)

  none_round : (late early : List Place) (was_free : Bool) → All (IsCovered hash late) (drop home slots) → Covers hash early (take home slots) was_free → IsNone (Among (late ++ early)) hash slots
  none_round late early true first rest =
      none_early (Among (late ++ early)) hash slots home within reached is_home
      (λ k other below under. Contains-append_left late early (get_or (drop home slots) k other).place (first k other below under))
      (record {
        index = rest.index;
        within = rest.within;
        free = rest.free;
        before = λ k other from to under. Contains-append_right late early (get_or (take home slots) k other).place (rest.before k other from to under);
      })
  none_round late early false first rest =
      none_all (Among (late ++ early)) hash slots home within
      (λ k other below under. Contains-append_left late early (get_or (drop home slots) k other).place (first k other below under))
      (λ k other below under. Contains-append_right late early (get_or (take home slots) k other).place (rest k other below under))

  -- no slot behind the home is free
  pub whole_round : (middle last : B) (was_free : Bool) → GoesThrough Step start hash (drop home slots) middle false → GoesThrough Step middle hash (take home slots) last was_free
      → FoldsUnder Step start hash (times_in (entries_of slots)) last
  whole_round middle last was_free late early =
      by_counts (late.places ++ early.places) last (behind Step start middle last late.places early.places late.folds early.folds)
      (found_either hash slots late.places early.places
      (λ place inside. found_late (Among late.places) hash slots home within place (late.stand place inside))
      (λ place inside. found_early (Among early.places) hash slots home within place (early.stand place inside)))
      (none_round late.places early.places was_free late.covers early.covers)
