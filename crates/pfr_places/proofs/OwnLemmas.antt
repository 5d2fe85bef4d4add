-- Parts of entries: the order of their numbers, and the indexes that they say.
use Rattle.std.proofs.Common.{◌≡◌, ◌||◌, ℕ, Bool, true, false, is_some, List, [], ◌∷◌, ◌++◌, Option, Some, None, sym, refl, ap, ◌∙◌, inl, inr, arith}
use Rattle.std.specs.List.{filter, list_all, list_any}
use Rattle.std.proofs.lemmas.Bool.{and_from, and_parts, both_ways, cases_Bool, lt-ltb, ltb-true, or_from, or_left, or_parts, or_right, false_from_ne_true}
use Rattle.std.proofs.lemmas.List.Folds.{list_all-append, list_any-append}
use Rattle.pfr_places.specs.declared.order.Ordered.{Ordered}
use Rattle.pfr_places.specs.declared.place.Place.{Place}
use Rattle.pfr_places.specs.Standing.{is_above, is_below, is_entry_at, is_index, numbers_rise, HaveOwnIndexes}
use Rattle.pfr_places.proofs.ChangeLemmas.{entry}
use Rattle.pfr_places.proofs.StandingLemmas.{all_weaker}

-- ---- tests

pub none_parts : {X : Type 0} (p : X → Bool) (xs ys : List X) → list_any p (xs ++ ys) ≡ false → (list_any p xs ≡ false) × (list_any p ys ≡ false)
none_parts p xs ys none = or_parts (list_any p xs) (list_any p ys) (sym (list_any-append p xs ys) ∙ none)

pub none_from : {X : Type 0} (p : X → Bool) (xs ys : List X) → list_any p xs ≡ false → list_any p ys ≡ false → list_any p (xs ++ ys) ≡ false
none_from p xs ys front back = list_any-append p xs ys ∙ or_from (list_any p xs) (list_any p ys) front back

pub some_front : {X : Type 0} (p : X → Bool) (xs ys : List X) → list_any p xs ≡ true → list_any p (xs ++ ys) ≡ true
some_front p xs ys some = list_any-append p xs ys ∙ or_left (list_any p xs) (list_any p ys) some

pub some_back : {X : Type 0} (p : X → Bool) (xs ys : List X) → list_any p ys ≡ true → list_any p (xs ++ ys) ≡ true
some_back p xs ys some = list_any-append p xs ys ∙ or_right (list_any p xs) (list_any p ys) some

pub none_without : {X : Type 0} (p : X → Bool) (xs ys zs : List X) → list_any p (xs ++ (ys ++ zs)) ≡ false → list_any p (xs ++ zs) ≡ false
none_without p xs ys zs none =
    let parts = none_parts p xs (ys ++ zs) none in
    none_from p xs zs parts.0 (none_parts p ys zs parts.1).1

-- ---- numbers

pub rise_front : (es fs : List Ordered) → numbers_rise (es ++ fs) ≡ true → numbers_rise es ≡ true
rise_front [] fs in_order = refl
rise_front (e ∷ es) fs in_order =
    let parts = and_parts (list_all (is_above e.number) (es ++ fs)) (numbers_rise (es ++ fs)) in_order in
    let above = and_parts (list_all (is_above e.number) es) (list_all (is_above e.number) fs) (sym (list_all-append (is_above e.number) es fs) ∙ parts.0) in
    and_from (list_all (is_above e.number) es) (numbers_rise es) above.0 (rise_front es fs parts.1)

pub rise_back : (es fs : List Ordered) → numbers_rise (es ++ fs) ≡ true → numbers_rise fs ≡ true
rise_back [] fs in_order = in_order
rise_back (e ∷ es) fs in_order = rise_back es fs (and_parts (list_all (is_above e.number) (es ++ fs)) (numbers_rise (es ++ fs)) in_order).1

pub rise_around : (number : ℕ) (place : Option Place) (es fs : List Ordered) → numbers_rise es ≡ true → numbers_rise fs ≡ true → list_all (is_below number) es ≡ true → list_all (is_above number) fs ≡ true
    → numbers_rise (es ++ entry number place ∷ fs) ≡ true
rise_around number place [] fs front back below above = and_from (list_all (is_above number) fs) (numbers_rise fs) above back
rise_around number place (e ∷ es) fs front back below above =
    let parts = and_parts (list_all (is_above e.number) es) (numbers_rise es) front in
    let belows = and_parts (is_below number e) (list_all (is_below number) es) below in
    let less = ltb-true e.number number belows.0 in
    let rest : list_all (is_above e.number) (entry number place ∷ fs) ≡ true = and_from (is_above e.number (entry number place)) (list_all (is_above e.number) fs) belows.0
    (all_weaker (is_above number) (is_above e.number) fs (λ f it. let more = ltb-true number f.number it in lt-ltb e.number f.number (omega arith)) above) in
    and_from (list_all (is_above e.number) (es ++ entry number place ∷ fs)) (numbers_rise (es ++ entry number place ∷ fs))
    (list_all-append (is_above e.number) es (entry number place ∷ fs) ∙ and_from (list_all (is_above e.number) es) (list_all (is_above e.number) (entry number place ∷ fs)) parts.0 rest)
    (rise_around number place es fs parts.1 back belows.1 above)

all_filter : {X : Type 0} (p q : X → Bool) (xs : List X) → list_all p xs ≡ true → list_all p (filter q xs) ≡ true
all_filter p q [] all = refl
all_filter p q (x ∷ xs) all =
    let parts = and_parts (p x) (list_all p xs) all in
    let rest = all_filter p q xs parts.1 in
    elim (cases_Bool (q x)) [
      | inl it_is ↦ rw it_is (and_from (p x) (list_all p (filter q xs)) parts.0 rest)
      | inr not_it ↦ rw not_it rest
    ]

pub rise_filter : (q : Ordered → Bool) (es : List Ordered) → numbers_rise es ≡ true → numbers_rise (filter q es) ≡ true
rise_filter q [] in_order = refl
rise_filter q (e ∷ es) in_order =
    let parts = and_parts (list_all (is_above e.number) es) (numbers_rise es) in_order in
    let rest = rise_filter q es parts.1 in
    elim (cases_Bool (q e)) [
      | inl it_is ↦ rw it_is (and_from (list_all (is_above e.number) (filter q es)) (numbers_rise (filter q es)) (all_filter (is_above e.number) q es parts.0) rest)
      | inr not_it ↦ rw not_it rest
    ]

-- ---- indexes

own_back : (es fs : List Ordered) → HaveOwnIndexes (es ++ fs) → HaveOwnIndexes fs
own_back [] fs own = own
own_back (e ∷ es) fs own = own_back es fs own.1

-- without some of the entries
pub own_without : (es fs gs : List Ordered) → HaveOwnIndexes (es ++ (fs ++ gs)) → HaveOwnIndexes (es ++ gs)
own_without [] fs gs own = own_back fs gs own
own_without (e ∷ es) fs gs own = (λ index it. none_without (is_entry_at index) es fs gs (own.0 index it), own_without es fs gs own.1)

-- with a further entry
pub own_with : (e : Ordered) (es fs : List Ordered) → HaveOwnIndexes (es ++ fs) → ((index : ℕ) → is_entry_at index e ≡ true → list_any (is_entry_at index) (es ++ fs) ≡ false) → HaveOwnIndexes (es ++ e ∷ fs)
own_with e [] fs own apart = (apart, own)
own_with e (d ∷ es) fs own apart = (
  λ index it.
      let parts = none_parts (is_entry_at index) es fs (own.0 index it) in
      let other : is_entry_at index e ≡ false = false_from_ne_true (is_entry_at index e) (λ too. both_ways (is_entry_at index d) (or_parts (is_entry_at index d) (list_any (is_entry_at index) (es ++ fs)) (apart index too)).0 it) in
      none_from (is_entry_at index) es (e ∷ fs) parts.0 (or_from (is_entry_at index e) (list_any (is_entry_at index) fs) other parts.1),
  own_with e es fs own.1 (λ index it. (or_parts (is_entry_at index d) (list_any (is_entry_at index) (es ++ fs)) (apart index it)).1),
)

-- no other entry says what one says
pub own_apart : (e : Ordered) (es fs : List Ordered) (index : ℕ) → HaveOwnIndexes (es ++ e ∷ fs) → is_entry_at index e ≡ true → list_any (is_entry_at index) (es ++ fs) ≡ false
own_apart e [] fs index own it = own.0 index it
own_apart e (d ∷ es) fs index own it = or_from (is_entry_at index d) (list_any (is_entry_at index) (es ++ fs))
    (false_from_ne_true (is_entry_at index d) (λ too. both_ways (is_entry_at index e) (or_parts (is_entry_at index e) (list_any (is_entry_at index) fs) (none_parts (is_entry_at index) es (e ∷ fs) (own.0 index too)).1).0 it))
    (own_apart e es fs index own.1 it)

abbrev pub has_place : Ordered → Bool
has_place e = is_some e.place

pub at_filter : (index : ℕ) (es : List Ordered) → list_any (is_entry_at index) (filter has_place es) ≡ list_any (is_entry_at index) es
at_filter index [] = refl
at_filter index (e ∷ es) = kept e.place refl (at_filter index es) where
  kept : (o : Option Place) → e.place ≡ o → list_any (is_entry_at index) (filter has_place es) ≡ list_any (is_entry_at index) es → list_any (is_entry_at index) (filter has_place (e ∷ es)) ≡ list_any (is_entry_at index) (e ∷ es)
  kept None is rest = rw is rest
  kept (Some p) is rest = rw is (ap (λ (b : Bool). is_index index (Some p) || b) rest)

pub own_filter : (es : List Ordered) → HaveOwnIndexes es → HaveOwnIndexes (filter has_place es)
own_filter [] own = own
own_filter (e ∷ es) own = elim (cases_Bool (has_place e)) [
  | inl it_is ↦ rw it_is (λ index it. at_filter index es ∙ own.0 index it, own_filter es own.1)
  | inr not_it ↦ rw not_it (own_filter es own.1)
]
