-- What a change of a slab and of its entries does to what stands there.
use Rattle.std.proofs.Common.{◌≡◌, ◌==◌, ◌||◌, ◌+◌, ◌-◌, ◌<◌, ◌≤◌, ℕ, Bool, true, false, cond, not, nat_lt, is_some, if◌then◌else◌, List, [], ◌∷◌, ◌++◌, length, take, drop, slice_index_or, slice_set, Option, Some, None, sym, refl, ap, ◌∙◌, subst, inl, inr, arith}
use Rattle.std.specs.List.{filter, find, list_all, list_any}
use Rattle.std.proofs.lemmas.Bool.{and_parts, both_ways, cases_Bool, cases_eq, eq-eqb, eqb-true, ltb-false, ltb-true, ne_eqb, or_left, or_right, true≢false}
use Rattle.std.proofs.lemmas.List.{get_or-set_other, get_or-set_same, get_or_past, length-append, length-map, length-set, take-append-drop}
use Rattle.std.proofs.lemmas.List.Elements.{filter-append}
use Rattle.std.proofs.lemmas.List.Folds.{list_any-append}
use Rattle.pfr_places.specs.declared.order.Ordered.{Ordered}
use Rattle.pfr_places.specs.declared.place.Place.{Place}
use Rattle.pfr_places.specs.Places.{after, at, first, have_own_places, is_at, is_number, of_number, place_of, rise, value_of, with_placed, with_value, without, Placed}
use Rattle.pfr_places.specs.Standing.{held, is_above, is_below, is_entry_at, is_index, numbers_rise, placed_at, placed_with, standing, with_first, AreStanding, HaveOwnIndexes, IsFrom, IsGone, IsPut, IsRankFor, IsRankOf, IsTaken}
use Rattle.pfr_places.proofs.ChangeLemmas.{entry, gone, there}
use Rattle.pfr_places.proofs.OwnLemmas.{at_filter, has_place, none_from, none_parts, own_apart, own_filter, own_with, own_without, rise_around, rise_back, rise_filter, rise_front, some_back, some_front}
use Rattle.pfr_places.proofs.StandingLemmas.{all_kept, all_standing, all_weaker, at_standing, few_standing, find_behind, find_nothing, nothing_at, own_standing, rise_standing, standing_append, standing_apart, standing_same, valued_standing, with_before, with_behind, with_none, Changes}

-- ---- numbers apart

abbrev is_apart : ℕ → ℕ → Bool
is_apart number other = not (other == number)

apart_below : (number : ℕ) (es : List Ordered) → list_all (is_below number) es ≡ true → list_all (λ e. is_apart number e.number) es ≡ true
apart_below number es all = all_weaker (is_below number) (λ e. is_apart number e.number) es (λ e it. let below = ltb-true e.number number it in ap not (ne_eqb e.number number (λ same. absurd (omega arith)))) all

apart_above : (number : ℕ) (es : List Ordered) → list_all (is_above number) es ≡ true → list_all (λ e. is_apart number e.number) es ≡ true
apart_above number es all = all_weaker (is_above number) (λ e. is_apart number e.number) es (λ e it. let above = ltb-true number e.number it in ap not (ne_eqb e.number number (λ same. absurd (omega arith)))) all

module _ {T : Type 0} where
  some_of : (o : Option T) → is_some o ≡ true → (v : T) × (o ≡ Some v)
  some_of None some = absurd (true≢false (sym some))
  some_of (Some v) some = (v, refl)

  only_some : (o : Option T) → cond (is_some o) o None ≡ o
  only_some None = refl
  only_some (Some v) = refl

  -- ---- slabs

  pub changes : (values : List (Option T)) (at : ℕ) (value : Option T) → at < length values → Changes at value (held values) (held (slice_set values at value))
  changes values at value inside index = elim (cases_eq index at) [
    | inl same ↦ ap (λ (i : ℕ). held (slice_set values at value) i) same ∙ get_or-set_same values at value None inside ∙ sym (ap (λ (b : Bool). cond b value (held values index)) (eq-eqb index at same))
    | inr other ↦ get_or-set_other values at index value None other ∙ sym (ap (λ (b : Bool). cond b value (held values index)) (ne_eqb index at other))
  ]

  changed_there : (at : ℕ) (value : Option T) (old new : ℕ → Option T) → Changes at value old new → new at ≡ value
  changed_there at value old new change = change at ∙ ap (λ (b : Bool). cond b value (old at)) (eq-eqb at at refl)

  -- whether something is there
  changed_some : (at : ℕ) (value : Option T) (old new : ℕ → Option T) (index : ℕ) → Changes at value old new → is_some (new index) ≡ cond (index == at) (is_some value) (is_some (old index))
  changed_some at value old new index change = elim (cases_eq index at) [
    | inl same ↦ rw (change index, eq-eqb index at same) refl
    | inr other ↦ rw (change index, ne_eqb index at other) refl
  ]

  pub inside : (values : List (Option T)) (index : ℕ) → is_some (held values index) ≡ true → index < length values
  inside values index some = elim (cases_Bool (nat_lt index (length values))) [
    | inl it_is ↦ ltb-true index (length values) it_is
    | inr beyond ↦ absurd (both_ways (is_some (held values index)) (ap is_some (get_or_past values index None (ltb-false index (length values) beyond))) some)
  ]

  -- ---- entries with nothing there

  gone_nothing : (holds : ℕ → Option T) (es : List Ordered) → list_all (λ e. not (is_some e.place)) es ≡ true → standing holds es ≡ []
  gone_nothing holds [] all = refl
  gone_nothing holds (e ∷ es) all =
      let parts = and_parts (not (is_some e.place)) (list_all (λ e. not (is_some e.place)) es) all in
      none_there e.place parts.0 (gone_nothing holds es parts.1) where
        none_there : (place : Option Place) → not (is_some place) ≡ true → standing holds es ≡ [] → with_first (placed_at holds e.number place) (standing holds es) ≡ []
        none_there None it others = others
        none_there (Some p) it others = absurd (true≢false (sym it))

  empty_with : (number : ℕ) (p : Place) (o : Option T) (others : List (Placed T)) → is_some o ≡ true → with_first (placed_with number p o) others ≡ [] → ⊥
  empty_with number p None others some empty = true≢false (sym some)
  empty_with number p (Some v) others some empty = cc

  -- entries where nothing stands say no index, if there is something at each one that they say
  none_said : (holds : ℕ → Option T) (es : List Ordered) → ((index : ℕ) → list_any (is_entry_at index) es ≡ true → is_some (holds index) ≡ true) → standing holds es ≡ [] → (index : ℕ) → list_any (is_entry_at index) es ≡ false
  none_said holds [] full empty index = refl
  none_said holds (e ∷ es) full empty index = said e.place refl (λ nothing. none_said holds es (λ i it. full i (or_right (is_entry_at i e) (list_any (is_entry_at i) es) it)) nothing index) where
    said : (place : Option Place) → e.place ≡ place → (standing holds es ≡ [] → list_any (is_entry_at index) es ≡ false) → list_any (is_entry_at index) (e ∷ es) ≡ false
    said None is rest = rw is (rest (rw is at empty))
    said (Some p) is rest = absurd (empty_with e.number p (holds p.0) (standing holds es)
        (full p.0 (or_left (is_entry_at p.0 e) (list_any (is_entry_at p.0) es) (ap (is_index p.0) is ∙ eq-eqb p.0 p.0 refl))) (rw is at empty))

  none_first : (number : ℕ) (xs ys : List (Placed T)) → list_all (λ x. x.number == number) xs ≡ true → of_number number (xs ++ ys) ≡ None → xs ≡ []
  none_first number [] ys all none = refl
  none_first number (x ∷ xs) ys all none = (let it = (and_parts (x.number == number) (list_all (λ x. x.number == number) xs) all).0 in absurd (some_none (rw it at none))) where
    some_none : Some x ≡ None → ⊥
    some_none is = cc

  first_found : (p : Placed T → Bool) (xs : List (Placed T)) → list_all p xs ≡ true → first xs ≡ find p xs
  first_found p [] all = refl
  first_found p (x ∷ xs) all = rw (and_parts (p x) (list_all p xs) all).0 refl

  swept_standing : (holds : ℕ → Option T) (es : List Ordered) → standing holds (filter has_place es) ≡ standing holds es
  swept_standing holds [] = refl
  swept_standing holds (e ∷ es) = kept e.place refl (swept_standing holds es) where
    kept : (o : Option Place) → e.place ≡ o → standing holds (filter has_place es) ≡ standing holds es → standing holds (filter has_place (e ∷ es)) ≡ standing holds (e ∷ es)
    kept None is rest = rw is rest
    kept (Some p) is rest = rw is (ap (λ (others : List (Placed T)). with_first (placed_with e.number p (holds p.0)) others) rest)

  -- ---- a slab with its entries

  module _ {values : List (Option T)} {order : List Ordered} {count : ℕ} (is : AreStanding values order count) where
    pub in_order : rise (standing (held values) order) ≡ true
    in_order = rise_standing (held values) order is.in_order

    pub own_places : have_own_places (standing (held values) order) ≡ true
    own_places = own_standing (held values) order is.own_indexes

    pub at_is : (place : Place) → held values place.0 ≡ value_of (at place (standing (held values) order))
    at_is place = sym (at_standing (held values) place order ∙ ap (λ (b : Bool). cond b (held values place.0) None) (sym (is.full place.0)) ∙ only_some (held values place.0))

    pub vacant_at : (place : Place) → held values place.0 ≡ None → at place (standing (held values) order) ≡ None
    vacant_at place none = nothing_at (held values) place order (sym (is.full place.0) ∙ ap is_some none)

    pub after_is : (number from : ℕ) → IsFrom number from order → first (standing (held values) (drop from order)) ≡ after number (standing (held values) order)
    after_is number from split =
        let h = held values in
        let not_before = all_standing (λ n. not (nat_lt number n)) h (take from order) split.before in
        let above = all_standing (nat_lt number) h (drop from order) split.behind in
        first_found (λ x. nat_lt number x.number) (standing h (drop from order)) above
        ∙ sym (find_behind (λ x. nat_lt number x.number) (standing h (take from order)) (standing h (drop from order)) not_before)
        ∙ ap (find (λ x. nat_lt number x.number)) (sym (standing_append h (take from order) (drop from order)) ∙ ap (standing h) (take-append-drop from order))

    -- as many as there are entries, at most
    pub fits : length order < 18446744073709551616 → count < 18446744073709551616
    fits few = (let counted = is.counted in let less = few_standing (held values) order in omega arith)

    -- the same in another slab
    pub slab_keeps : (new : List (Option T)) → ((index : ℕ) → held new index ≡ held values index) → length new ≤ 4294967294 → AreStanding new order count
    slab_keeps new same few = record {
      in_order = is.in_order;
      own_indexes = is.own_indexes;
      full = λ index. ap is_some (same index) ∙ is.full index;
      counted = is.counted ∙ sym (ap length (standing_same (held values) (held new) order (λ index _. same index)));
      few = few;
    }

    pub slab_same : (new : List (Option T)) → ((index : ℕ) → held new index ≡ held values index) → standing (held new) order ≡ standing (held values) order
    slab_same new same = standing_same (held values) (held new) order (λ index _. same index)

    -- ---- another value

    pub set_keeps : (place : Place) (value : T) → is_some (held values place.0) ≡ true → AreStanding (slice_set values place.0 (Some value)) order count
    set_keeps place value some =
        let within = inside values place.0 some in
        let change = changes values place.0 (Some value) within in
        let h = held (slice_set values place.0 (Some value)) in
        record {
          in_order = is.in_order;
          own_indexes = is.own_indexes;
          full = λ index. elim (cases_eq index place.0) [
            | inl same ↦ changed_some place.0 (Some value) (held values) h index change ∙ ap (λ (b : Bool). cond b true (is_some (held values index))) (eq-eqb index place.0 same) ∙ sym some ∙ ap (λ (i : ℕ). is_some (held values i)) (sym same) ∙ is.full index
            | inr other ↦ changed_some place.0 (Some value) (held values) h index change ∙ ap (λ (b : Bool). cond b true (is_some (held values index))) (ne_eqb index place.0 other) ∙ is.full index
          ];
          counted = is.counted ∙ sym (ap length (valued_standing place value (held values) h order change some) ∙ length-map (standing (held values) order) (λ placed. if is_at place placed then record placed { value = value } else placed));
          few = (let length_is = length-set values place.0 (Some value) in let few = is.few in omega arith);
        }

    pub set_is : (place : Place) (value : T) → is_some (held values place.0) ≡ true → standing (held (slice_set values place.0 (Some value))) order ≡ with_value place value (standing (held values) order)
    set_is place value some = valued_standing place value (held values) (held (slice_set values place.0 (Some value))) order (changes values place.0 (Some value) (inside values place.0 some)) some

    pub set_nothing : (place : Place) (value : T) → held values place.0 ≡ None → with_value place value (standing (held values) order) ≡ standing (held values) order
    set_nothing place value none = with_none place value (standing (held values) order) (vacant_at place none)

    -- where another value is put only if one stands there
    module _ {new : List (Option T)} (place : Place) (value : T) (there : is_some (held values place.0) ≡ true → new ≡ slice_set values place.0 (Some value)) (nothing : held values place.0 ≡ None → new ≡ values) where
      replaced : (o : Option T) → held values place.0 ≡ o → AreStanding new order count × (standing (held new) order ≡ with_value place value (standing (held values) order))
      replaced None none = (
        subst (λ (xs : List (Option T)). AreStanding xs order count) (sym (nothing none)) is,
        ap (λ (xs : List (Option T)). standing (held xs) order) (nothing none) ∙ sym (set_nothing place value none),
      )
      replaced (Some v) some = (let is_there = ap is_some some in (
        subst (λ (xs : List (Option T)). AreStanding xs order count) (sym (there is_there)) (set_keeps place value is_there),
        ap (λ (xs : List (Option T)). standing (held xs) order) (there is_there) ∙ set_is place value is_there,
      ))

      pub replaced_keeps : AreStanding new order count
      replaced_keeps = (replaced (held values place.0) refl).0

      pub replaced_is : standing (held new) order ≡ with_value place value (standing (held values) order)
      replaced_is = (replaced (held values place.0) refl).1

    -- ---- a place for a number

    module _ {number : ℕ} {place : Place} {new : List Ordered} (put : IsPut number place order new) (value : T) (fresh : of_number number (standing (held values) order) ≡ None)
        (vacant : held values place.0 ≡ None) (within : place.0 < length values) where
      abbrev put_slab : List (Option T)
      put_slab = slice_set values place.0 (Some value)

      put_change : Changes place.0 (Some value) (held values) (held put_slab)
      put_change = changes values place.0 (Some value) within

      -- the entry of the number, if it has one, has no place
      nothing_same : standing (held values) put.same ≡ []
      nothing_same =
          let h = held values in
          none_first number (standing h put.same) (standing h put.behind) (all_standing (λ n. n == number) h put.same put.of_number)
          (sym (find_behind (is_number number) (standing h put.before) (standing h put.same ++ standing h put.behind) (all_standing (is_apart number) h put.before (apart_below number put.before put.between.below)))
          ∙ ap (of_number number) (ap (λ (rest : List (Placed T)). standing h put.before ++ rest) (sym (standing_append h put.same put.behind)) ∙ sym (standing_append h put.before (put.same ++ put.behind)) ∙ ap (standing h) (sym put.was))
          ∙ fresh)

      put_old : standing (held values) order ≡ standing (held values) put.before ++ standing (held values) put.behind
      put_old =
          let h = held values in
          ap (standing h) put.was ∙ standing_append h put.before (put.same ++ put.behind)
          ∙ ap (λ (rest : List (Placed T)). standing h put.before ++ rest) (standing_append h put.same put.behind ∙ ap (λ (rest : List (Placed T)). rest ++ standing h put.behind) nothing_same)

      none_there : list_any (is_entry_at place.0) (put.before ++ (put.same ++ put.behind)) ≡ false
      none_there = ap (list_any (is_entry_at place.0)) (sym put.was) ∙ sym (is.full place.0) ∙ ap is_some vacant

      put_new_is : standing (held put_slab) new ≡ standing (held values) put.before ++ record { number = number; place = place; value = value } ∷ standing (held values) put.behind
      put_new_is =
          let h = held values in
          let g = held put_slab in
          let parts = none_parts (is_entry_at place.0) put.before (put.same ++ put.behind) none_there in
          ap (standing g) put.is_now ∙ standing_append g put.before (entry number (Some place) ∷ put.behind)
          ∙ ap (λ (front : List (Placed T)). front ++ standing g (entry number (Some place) ∷ put.behind)) (standing_apart place.0 (Some value) h g put.before put_change parts.0)
          ∙ ap (λ (rest : List (Placed T)). standing h put.before ++ rest)
          (ap (λ (o : Option T). with_first (placed_with number place o) (standing g put.behind)) (changed_there place.0 (Some value) h g put_change)
          ∙ ap (λ (rest : List (Placed T)). record { number = number; place = place; value = value } ∷ rest) (standing_apart place.0 (Some value) h g put.behind put_change (none_parts (is_entry_at place.0) put.same put.behind parts.1).1))

      pub put_is : standing (held put_slab) new ≡ with_placed (record { number = number; place = place; value = value }) (standing (held values) order)
      put_is =
          let h = held values in
          let x : Placed T = record { number = number; place = place; value = value } in
          put_new_is
          ∙ sym (ap (with_placed x) put_old
          ∙ with_behind x (standing h put.before) (standing h put.behind) (all_standing (λ n. nat_lt n number) h put.before put.between.below)
          ∙ ap (λ (rest : List (Placed T)). standing h put.before ++ rest) (with_before x (standing h put.behind) (all_standing (nat_lt number) h put.behind put.between.above)))

      -- no entry of the number said an index
      none_same : (index : ℕ) → list_any (is_entry_at index) put.same ≡ false
      none_same = none_said (held values) put.same (λ index it. is.full index ∙ ap (list_any (is_entry_at index)) put.was
          ∙ some_back (is_entry_at index) put.before (put.same ++ put.behind) (some_front (is_entry_at index) put.same put.behind it)) nothing_same

      put_full : (index : ℕ) → is_some (held put_slab index) ≡ list_any (is_entry_at index) new
      put_full index = elim (cases_eq index place.0) [
        | inl same ↦
            let it : is_entry_at index (entry number (Some place)) ≡ true = eq-eqb place.0 index (sym same) in
            changed_some place.0 (Some value) (held values) (held put_slab) index put_change ∙ ap (λ (b : Bool). cond b true (is_some (held values index))) (eq-eqb index place.0 same)
            ∙ sym (ap (list_any (is_entry_at index)) put.is_now ∙ some_back (is_entry_at index) put.before (entry number (Some place) ∷ put.behind) (or_left (is_entry_at index (entry number (Some place))) (list_any (is_entry_at index) put.behind) it))
        | inr other ↦
            let p = is_entry_at index in
            let not_it : p (entry number (Some place)) ≡ false = ne_eqb place.0 index (λ same. other (sym same)) in
            changed_some place.0 (Some value) (held values) (held put_slab) index put_change ∙ ap (λ (b : Bool). cond b true (is_some (held values index))) (ne_eqb index place.0 other)
            ∙ is.full index ∙ ap (list_any p) put.was ∙ list_any-append p put.before (put.same ++ put.behind)
            ∙ ap (λ (b : Bool). list_any p put.before || b) (list_any-append p put.same put.behind ∙ ap (λ (b : Bool). b || list_any p put.behind) (none_same index) ∙ sym (ap (λ (b : Bool). b || list_any p put.behind) not_it))
            ∙ sym (ap (list_any p) put.is_now ∙ list_any-append p put.before (entry number (Some place) ∷ put.behind))
      ]

      put_own : HaveOwnIndexes new
      put_own =
          let own = own_without put.before put.same put.behind (subst HaveOwnIndexes put.was is.own_indexes) in
          let parts = none_parts (is_entry_at place.0) put.before (put.same ++ put.behind) none_there in
          let none = none_from (is_entry_at place.0) put.before put.behind parts.0 (none_parts (is_entry_at place.0) put.same put.behind parts.1).1 in
          subst HaveOwnIndexes (sym put.is_now) (own_with (entry number (Some place)) put.before put.behind own
          (λ index it. subst (λ (i : ℕ). list_any (is_entry_at i) (put.before ++ put.behind) ≡ false) (eqb-true place.0 index it) none))

      put_order : numbers_rise new ≡ true
      put_order =
          let rises : numbers_rise (put.before ++ (put.same ++ put.behind)) ≡ true = subst (λ (es : List Ordered). numbers_rise es ≡ true) put.was is.in_order in
          ap numbers_rise put.is_now ∙ rise_around number (Some place) put.before put.behind (rise_front put.before (put.same ++ put.behind) rises)
          (rise_back put.same put.behind (rise_back put.before (put.same ++ put.behind) rises)) put.between.below put.between.above

      pub put_keeps : AreStanding put_slab new (count + 1)
      put_keeps = record {
        in_order = put_order;
        own_indexes = put_own;
        full = put_full;
        counted = (
            let h = held values in
            let x : Placed T = record { number = number; place = place; value = value } in
            let old = is.counted ∙ ap length put_old ∙ length-append (standing h put.before) (standing h put.behind) in
            let now = ap length put_new_is ∙ length-append (standing h put.before) (x ∷ standing h put.behind) in
            omega (arith, old, now));
        few = (let length_is = length-set values place.0 (Some value) in let few = is.few in omega arith);
      }

    -- ---- a number's place taken away

    module _ {number : ℕ} {place : Place} {new : List Ordered} (taken : IsTaken number place order new) where
      abbrev taken_slab : List (Option T)
      taken_slab = slice_set values place.0 None

      it_says : is_entry_at place.0 (entry number (Some place)) ≡ true
      it_says = eq-eqb place.0 place.0 refl

      pub taken_some : is_some (held values place.0) ≡ true
      taken_some = is.full place.0 ∙ ap (list_any (is_entry_at place.0)) taken.was
          ∙ some_back (is_entry_at place.0) taken.before (entry number (Some place) ∷ taken.behind) (or_left (is_entry_at place.0 (entry number (Some place))) (list_any (is_entry_at place.0) taken.behind) it_says)

      pub taken_within : place.0 < length values
      taken_within = inside values place.0 taken_some

      taken_change : Changes place.0 None (held values) (held taken_slab)
      taken_change = changes values place.0 None taken_within

      there_was : (v : T) × (held values place.0 ≡ Some v)
      there_was = some_of (held values place.0) taken_some

      abbrev was : Placed T
      was = record { number = number; place = place; value = there_was.0 }

      taken_old : standing (held values) order ≡ standing (held values) taken.before ++ was ∷ standing (held values) taken.behind
      taken_old =
          let h = held values in
          ap (standing h) taken.was ∙ standing_append h taken.before (entry number (Some place) ∷ taken.behind)
          ∙ ap (λ (rest : List (Placed T)). standing h taken.before ++ rest) (ap (λ (o : Option T). with_first (placed_with number place o) (standing h taken.behind)) there_was.1)

      none_else : list_any (is_entry_at place.0) (taken.before ++ taken.behind) ≡ false
      none_else = own_apart (entry number (Some place)) taken.before taken.behind place.0 (subst HaveOwnIndexes taken.was is.own_indexes) it_says

      taken_new : standing (held taken_slab) new ≡ standing (held values) taken.before ++ standing (held values) taken.behind
      taken_new =
          let h = held values in
          let g = held taken_slab in
          let parts = none_parts (is_entry_at place.0) taken.before taken.behind none_else in
          ap (standing g) taken.is_now ∙ standing_append g taken.before (entry number None ∷ taken.behind)
          ∙ ap (λ (front : List (Placed T)). front ++ standing g taken.behind) (standing_apart place.0 None h g taken.before taken_change parts.0)
          ∙ ap (λ (rest : List (Placed T)). standing h taken.before ++ rest) (standing_apart place.0 None h g taken.behind taken_change parts.1)

      pub taken_is : standing (held taken_slab) new ≡ without number (standing (held values) order)
      taken_is =
          let h = held values in
          let q : Placed T → Bool = λ placed. not (is_number number placed) in
          taken_new
          ∙ sym (ap (filter q) taken_old ∙ filter-append q (standing h taken.before) (was ∷ standing h taken.behind)
          ∙ ap (λ (front : List (Placed T)). front ++ filter q (was ∷ standing h taken.behind)) (all_kept q (standing h taken.before) (all_standing (is_apart number) h taken.before (apart_below number taken.before taken.between.below)))
          ∙ ap (λ (rest : List (Placed T)). standing h taken.before ++ rest)
          (rw (eq-eqb number number refl) (all_kept q (standing h taken.behind) (all_standing (is_apart number) h taken.behind (apart_above number taken.behind taken.between.above)))))

      taken_full : (index : ℕ) → is_some (held taken_slab index) ≡ list_any (is_entry_at index) new
      taken_full index = elim (cases_eq index place.0) [
        | inl same ↦
            let parts = none_parts (is_entry_at place.0) taken.before taken.behind none_else in
            changed_some place.0 None (held values) (held taken_slab) index taken_change ∙ ap (λ (b : Bool). cond b false (is_some (held values index))) (eq-eqb index place.0 same)
            ∙ sym (ap (list_any (is_entry_at index)) taken.is_now ∙ ap (λ (i : ℕ). list_any (is_entry_at i) (taken.before ++ entry number None ∷ taken.behind)) same
            ∙ none_from (is_entry_at place.0) taken.before (entry number None ∷ taken.behind) parts.0 parts.1)
        | inr other ↦
            let p = is_entry_at index in
            let not_it : p (entry number (Some place)) ≡ false = ne_eqb place.0 index (λ same. other (sym same)) in
            changed_some place.0 None (held values) (held taken_slab) index taken_change ∙ ap (λ (b : Bool). cond b false (is_some (held values index))) (ne_eqb index place.0 other)
            ∙ is.full index ∙ ap (list_any p) taken.was ∙ list_any-append p taken.before (entry number (Some place) ∷ taken.behind)
            ∙ ap (λ (b : Bool). list_any p taken.before || (b || list_any p taken.behind)) not_it
            ∙ sym (ap (list_any p) taken.is_now ∙ list_any-append p taken.before (entry number None ∷ taken.behind))
      ]

      taken_counted : count ≡ length (standing (held taken_slab) new) + 1
      taken_counted =
          let h = held values in
          let old = is.counted ∙ ap length taken_old ∙ length-append (standing h taken.before) (was ∷ standing h taken.behind) in
          let now = ap length taken_new ∙ length-append (standing h taken.before) (standing h taken.behind) in
          omega (arith, old, now)

      pub taken_some_left : 0 < count
      taken_some_left = let counted = taken_counted in omega arith

      pub taken_keeps : AreStanding taken_slab new (count - 1)
      taken_keeps =
          let rises : numbers_rise (taken.before ++ entry number (Some place) ∷ taken.behind) ≡ true = subst (λ (es : List Ordered). numbers_rise es ≡ true) taken.was is.in_order in
          let own = own_without taken.before (entry number (Some place) ∷ []) taken.behind (subst HaveOwnIndexes taken.was is.own_indexes) in
          record {
            in_order = ap numbers_rise taken.is_now ∙ rise_around number None taken.before taken.behind (rise_front taken.before (entry number (Some place) ∷ taken.behind) rises)
                (rise_back (entry number (Some place) ∷ []) taken.behind (rise_back taken.before (entry number (Some place) ∷ taken.behind) rises)) taken.between.below taken.between.above;
            own_indexes = subst HaveOwnIndexes (sym taken.is_now) (own_with (entry number None) taken.before taken.behind own (λ index it. absurd (true≢false (sym it))));
            full = taken_full;
            counted = (let counted = taken_counted in omega arith);
            few = (let length_is = length-set values place.0 None in let few = is.few in omega arith);
          }

    -- ---- a number with no place

    pub gone_is : {number : ℕ} → IsGone number order → without number (standing (held values) order) ≡ standing (held values) order
    gone_is {number} gone =
        let h = held values in
        let q : Placed T → Bool = λ placed. not (is_number number placed) in
        let old : standing h order ≡ standing h gone.before ++ standing h gone.behind
        = ap (standing h) gone.is ∙ standing_append h gone.before (gone.same ++ gone.behind)
        ∙ ap (λ (rest : List (Placed T)). standing h gone.before ++ rest) (standing_append h gone.same gone.behind ∙ ap (λ (rest : List (Placed T)). rest ++ standing h gone.behind) (gone_nothing h gone.same gone.gone)) in
        ap (filter q) old ∙ filter-append q (standing h gone.before) (standing h gone.behind)
        ∙ ap (λ (front : List (Placed T)). front ++ filter q (standing h gone.behind)) (all_kept q (standing h gone.before) (all_standing (is_apart number) h gone.before (apart_below number gone.before gone.between.below)))
        ∙ ap (λ (rest : List (Placed T)). standing h gone.before ++ rest) (all_kept q (standing h gone.behind) (all_standing (is_apart number) h gone.behind (apart_above number gone.behind gone.between.above)))
        ∙ sym old

    -- ---- the place of a number

    pub place_there : (number at : ℕ) (d : Ordered) → IsRankOf number at order → (slice_index_or order at d).place ≡ place_of (of_number number (standing (held values) order))
    place_there number at d rank =
        let h = held values in
        let before = take at order in
        let behind = drop (at + 1) order in
        let where_it_is = (slice_index_or order at d).place in
        let was : order ≡ before ++ entry number where_it_is ∷ behind = there order number at where_it_is d rank refl in
        let none = find_nothing (is_number number) (standing h behind) (all_standing (is_apart number) h behind (apart_above number behind rank.between.above)) in
        sym (ap (λ (xs : List (Placed T)). place_of (of_number number xs)) (ap (standing h) was ∙ standing_append h before (entry number where_it_is ∷ behind))
        ∙ ap place_of (find_behind (is_number number) (standing h before) (standing h (entry number where_it_is ∷ behind)) (all_standing (is_apart number) h before (apart_below number before rank.between.below)))
        ∙ here where_it_is was none) where
          here_with : (place : Place) (o : Option T) (others : List (Placed T)) → is_some o ≡ true → place_of (of_number number (with_first (placed_with number place o) others)) ≡ Some place
          here_with place None others some = absurd (true≢false (sym some))
          here_with place (Some v) others some = rw (eq-eqb number number refl) refl

          here : (place : Option Place) → order ≡ take at order ++ entry number place ∷ drop (at + 1) order → of_number number (standing (held values) (drop (at + 1) order)) ≡ None
              → place_of (of_number number (with_first (placed_at (held values) number place) (standing (held values) (drop (at + 1) order)))) ≡ place
          here None was none = ap place_of none
          here (Some p) was none =
              here_with p (held values p.0) (standing (held values) (drop (at + 1) order)) (is.full p.0 ∙ ap (list_any (is_entry_at p.0)) was
              ∙ some_back (is_entry_at p.0) (take at order) (entry number (Some p) ∷ drop (at + 1) order)
              (or_left (is_entry_at p.0 (entry number (Some p))) (list_any (is_entry_at p.0) (drop (at + 1) order)) (eq-eqb p.0 p.0 refl)))

    pub place_absent : (number at : ℕ) → IsRankFor number at order → place_of (of_number number (standing (held values) order)) ≡ None
    place_absent number at rank =
        let h = held values in
        let before = take at order in
        let behind = drop at order in
        ap (λ (xs : List (Placed T)). place_of (of_number number xs)) (ap (standing h) (sym (take-append-drop at order)) ∙ standing_append h before behind)
        ∙ ap place_of (find_behind (is_number number) (standing h before) (standing h behind) (all_standing (is_apart number) h before (apart_below number before rank.between.below))
        ∙ find_nothing (is_number number) (standing h behind) (all_standing (is_apart number) h behind (apart_above number behind rank.between.above)))

    -- ---- only the entries that have a place

    pub swept_is : standing (held values) (filter has_place order) ≡ standing (held values) order
    swept_is = swept_standing (held values) order

    pub swept_keeps : AreStanding values (filter has_place order) count
    swept_keeps = record {
      in_order = rise_filter has_place order is.in_order;
      own_indexes = own_filter order is.own_indexes;
      full = λ index. is.full index ∙ sym (at_filter index order);
      counted = is.counted ∙ ap length (sym (swept_standing (held values) order));
      few = is.few;
    }
