-- What stands in slots, in the order of a list of their numbers.
use Rattle.std.proofs.Common.{◌≡◌, ℕ, zero, suc, ◌+◌, ◌-◌, ◌≤◌, ◌<◌, cond, nat_eq, List, [], ◌∷◌, ◌++◌, Some, slice_get, length, take, drop, set, get_or, refl, ap, sym, ◌∙◌, inl, inr, arith, take-append-drop}
use Rattle.std.specs.List.{copy_within, cons_option, count_by}
use Rattle.std.proofs.lemmas.Bool.{cases_eq, cases_lt, eq-eqb, ne_eqb}
use Rattle.std.proofs.lemmas.List.{append_assoc, drop-take, drop_at, drop_more, get_or-take, get_or_read, length-append, length-drop, length-set, length-take-le, length_push, set_at, set_split, take-append-le, take-take, take_at}
use Rattle.std.proofs.lemmas.List.Elements.{filter_map-append}
use Rattle.std.proofs.lemmas.List.Sums.{get_or-le-sum_by, sum_by-append, sum_by-cons}
use Rattle.std.proofs.lemmas.Option.{get_or_from_slice_get}
use Rattle.pfr_sync.specs.Entries.{AreSlots, in_order}

-- ---- how often a number is among others

abbrev times : ℕ → List ℕ → ℕ
times slot order = count_by (nat_eq slot) order

abbrev one : ℕ → ℕ → ℕ
one slot other = cond (nat_eq slot other) 1 0

times_cons : (q p : ℕ) (ps : List ℕ) → times q (p ∷ ps) ≡ one q p + times q ps
times_cons q p ps = sum_by-cons (λ x. cond (nat_eq q x) 1 0) p ps

times_append : (q : ℕ) (ps qs : List ℕ) → times q (ps ++ qs) ≡ times q ps + times q qs
times_append q ps qs = sum_by-append (λ x. cond (nat_eq q x) 1 0) ps qs

one_same : (q p : ℕ) → q ≡ p → one q p ≡ 1
one_same q p same = rw (eq-eqb q p same) refl

one_other : (q p : ℕ) → (q ≡ p → ⊥) → one q p ≡ 0
one_other q p other = rw (ne_eqb q p other) refl

fewer_slots : (n : ℕ) (ps qs : List ℕ) → ((q : ℕ) → times q qs ≤ times q ps) → AreSlots n ps → AreSlots n qs
fewer_slots n ps qs fewer are = record {
  within = λ q past. omega (arith, are.within q past, fewer q);
  once = λ q. omega (arith, are.once q, fewer q);
}

head_within : (n p : ℕ) (ps : List ℕ) → AreSlots n (p ∷ ps) → p < n
head_within n p ps are =
    elim (cases_lt p n) [
      | inl low ↦ low
      | inr past ↦ absurd (omega (arith, are.within p past, times_cons p p ps, one_same p p refl))
    ]

behind_head : (n p : ℕ) (ps : List ℕ) → AreSlots n (p ∷ ps) → AreSlots n ps
behind_head n p ps are = fewer_slots n (p ∷ ps) ps (λ q. omega (arith, times_cons q p ps)) are

first_slots : (n : ℕ) (ps qs : List ℕ) → AreSlots n (ps ++ qs) → AreSlots n ps
first_slots n ps qs are = fewer_slots n (ps ++ qs) ps (λ q. omega (arith, times_append q ps qs)) are

last_slots : (n : ℕ) (ps qs : List ℕ) → AreSlots n (ps ++ qs) → AreSlots n qs
last_slots n ps qs are = fewer_slots n (ps ++ qs) qs (λ q. omega (arith, times_append q ps qs)) are

taken_slots : (n : ℕ) (ps : List ℕ) (c : ℕ) → AreSlots n ps → AreSlots n (take c ps)
taken_slots n ps c are = first_slots n (take c ps) (drop c ps) (rw (take-append-drop c ps) are)

slot_within : (n : ℕ) (ps : List ℕ) (i : ℕ) → AreSlots n ps → i < length ps → get_or ps i 0 < n
slot_within n ps i are low =
    let p = get_or ps i 0 in
    elim (cases_lt p n) [
      | inl it ↦ it
      | inr past ↦ absurd (omega (arith, are.within p past, get_or-le-sum_by (λ x. cond (nat_eq p x) 1 0) ps i 0 low, one_same p p refl))
    ]

-- one slot more
more_slots : (n : ℕ) (ps : List ℕ) → AreSlots n ps → AreSlots (n + 1) ps
more_slots n ps are = record { within = λ q past. are.within q (omega arith); once = are.once }

pushed_slots : (n : ℕ) (ps : List ℕ) → AreSlots n ps → AreSlots (n + 1) (ps ++ n ∷ [])
pushed_slots n ps are = record {
  within = λ q past. omega (arith, are.within q (omega arith), times_append q ps (n ∷ []), times_cons q n [], one_other q n (λ same. absurd (omega arith)));
  once = λ q. elim (cases_eq q n) [
    | inl same ↦ omega (arith, are.within q (omega arith), times_append q ps (n ∷ []), times_cons q n [], one_same q n same)
    | inr other ↦ omega (arith, are.once q, times_append q ps (n ∷ []), times_cons q n [], one_other q n other)
  ];
}

-- ---- what stands there

there : {X : Type 0} (slots : List X) (p : ℕ) → p < length slots → (x : X) × (slice_get slots p ≡ Some x)
there [] p low = absurd (omega arith)
there (x ∷ slots) zero low = (x, refl)
there (x ∷ slots) (suc p) low = there slots p (omega arith)

get_same : {X : Type 0} (slots : List X) (p : ℕ) (x : X) → p < length slots → slice_get (set slots p x) p ≡ Some x
get_same [] p x low = absurd (omega arith)
get_same (y ∷ slots) zero x low = refl
get_same (y ∷ slots) (suc p) x low = get_same slots p x (omega arith)

get_other : {X : Type 0} (slots : List X) (p q : ℕ) (x : X) → (q ≡ p → ⊥) → slice_get (set slots p x) q ≡ slice_get slots q
get_other [] p q x other = refl
get_other (y ∷ slots) zero zero x other = absurd (other refl)
get_other (y ∷ slots) zero (suc q) x other = refl
get_other (y ∷ slots) (suc p) zero x other = refl
get_other (y ∷ slots) (suc p) (suc q) x other = get_other slots p q x (λ same. other (ap suc same))

get_before : {X : Type 0} (slots more : List X) (p : ℕ) → p < length slots → slice_get (slots ++ more) p ≡ slice_get slots p
get_before [] more p low = absurd (omega arith)
get_before (x ∷ slots) more zero low = refl
get_before (x ∷ slots) more (suc p) low = get_before slots more p (omega arith)

at_append : {X : Type 0} (slots : List X) (ps qs : List ℕ) → in_order (ps ++ qs) slots ≡ in_order ps slots ++ in_order qs slots
at_append slots ps qs = filter_map-append (slice_get slots) ps qs

length_at : {X : Type 0} (slots : List X) (ps : List ℕ) → AreSlots (length slots) ps → length (in_order ps slots) ≡ length ps
length_at slots [] are = refl
length_at slots (p ∷ ps) are =
    let x = there slots p (head_within (length slots) p ps are) in
    rw x.1 (ap suc (length_at slots ps (behind_head (length slots) p ps are)))

get_at : {X : Type 0} (slots : List X) (ps : List ℕ) (i : ℕ) (d : X) → AreSlots (length slots) ps → i < length ps
    → get_or (in_order ps slots) i d ≡ get_or slots (get_or ps i 0) d
get_at slots [] i d are low = absurd (omega arith)
get_at slots (p ∷ ps) zero d are low =
    let x = there slots p (head_within (length slots) p ps are) in
    rw x.1 (sym (get_or_from_slice_get slots p x.0 d x.1))
get_at slots (p ∷ ps) (suc i) d are low =
    let x = there slots p (head_within (length slots) p ps are) in
    rw x.1 (get_at slots ps i d (behind_head (length slots) p ps are) (omega arith))

-- one slot more
at_more : {X : Type 0} (slots : List X) (y : X) (ps : List ℕ) → AreSlots (length slots) ps → in_order ps (slots ++ y ∷ []) ≡ in_order ps slots
at_more slots y [] are = refl
at_more slots y (p ∷ ps) are =
    let low = head_within (length slots) p ps are in
    let rest = at_more slots y ps (behind_head (length slots) p ps are) in
    λ i. cons_option (get_before slots (y ∷ []) p low i) (rest i)

pub record Added {X : Type 0} (slots : List X) (ps : List ℕ) (new_slots : List X) (new : List ℕ) : Type 0 where
  pub are_slots : AreSlots (length new_slots) new
  pub is : in_order (take (length ps) new) new_slots ≡ in_order ps slots

pub added : {X : Type 0} (slots : List X) (ps : List ℕ) (x : X) (slot : ℕ) (new_slots : List X) (new : List ℕ) → AreSlots (length slots) ps
    → new_slots ≡ slots ++ x ∷ [] → new ≡ ps ++ slot ∷ [] → slot ≡ length slots → Added slots ps new_slots new
added slots ps x slot new_slots new are slots_are new_is last =
    let more : length new_slots ≡ length slots + 1 = ap length slots_are ∙ length_push slots x in
    let pushed : new ≡ ps ++ length slots ∷ [] = new_is ∙ ap (λ p. ps ++ p ∷ []) last in
    record {
      are_slots = rw (more, pushed) (pushed_slots (length slots) ps are);
      is = (λ i. in_order (take (length ps) (pushed i)) (slots_are i))
          ∙ ap (λ qs. in_order qs (slots ++ x ∷ [])) (take_at ps (length slots ∷ []) (length ps) refl)
          ∙ at_more slots x ps are;
    }

-- a slot that isn't in the list
others_stay : {X : Type 0} (slots : List X) (p : ℕ) (x : X) (ps : List ℕ) → times p ps ≡ 0 → in_order ps (set slots p x) ≡ in_order ps slots
others_stay slots p x [] none = refl
others_stay slots p x (q ∷ ps) none =
    let other : q ≡ p → ⊥ = λ same. absurd (omega (arith, none, times_cons p q ps, one_same p q (sym same))) in
    let rest = others_stay slots p x ps (omega (arith, none, times_cons p q ps)) in
    λ i. cons_option (get_other slots p q x other i) (rest i)

-- and one that is
at_written : {X : Type 0} (slots : List X) (x : X) (before : List ℕ) (p : ℕ) (behind : List ℕ) → AreSlots (length slots) (before ++ p ∷ behind)
    → in_order (before ++ p ∷ behind) (set slots p x) ≡ in_order before slots ++ x ∷ in_order behind slots
at_written slots x before p behind are =
    let low = head_within (length slots) p behind (last_slots (length slots) before (p ∷ behind) are) in
    let all = times_append p before (p ∷ behind) in
    let own = times_cons p p behind in
    let is_one = one_same p p refl in
    let first = others_stay slots p x before (omega (arith, are.once p, all, own, is_one)) in
    let last = others_stay slots p x behind (omega (arith, are.once p, all, own, is_one)) in
    at_append (set slots p x) before (p ∷ behind) ∙ (λ i. first i ++ cons_option (get_same slots p x low i) (last i))

-- ---- the first slots of a list

take_cut : (ps : List ℕ) (r c : ℕ) → r ≤ c → take c ps ≡ take r ps ++ take (c - r) (drop r ps)
take_cut ps r c low =
    let far : c ≡ r + (c - r) = omega arith in
    sym (take-append-drop r (take c ps)) ∙ (λ i. take-take r c ps low i ++ (ap (λ n. drop r (take n ps)) far ∙ drop-take r (c - r) ps) i)

take_cut_at : (ps : List ℕ) (r c : ℕ) → r < c → c ≤ length ps → take c ps ≡ take r ps ++ get_or ps r 0 ∷ take (c - (r + 1)) (drop (r + 1) ps)
take_cut_at ps r c low within =
    let next : c - r ≡ suc (c - (r + 1)) = omega arith in
    take_cut ps r c (omega arith)
    ∙ ap (λ n. take r ps ++ take n (drop r ps)) next
    ∙ ap (λ rest. take r ps ++ take (suc (c - (r + 1))) rest) (drop_more ps r 0 (omega arith))

length_first : {X : Type 0} (slots : List X) (ps : List ℕ) (c : ℕ) → AreSlots (length slots) ps → c ≤ length ps → length (in_order (take c ps) slots) ≡ c
length_first slots ps c are within = length_at slots (take c ps) (taken_slots (length slots) ps c are) ∙ length-take-le c ps within

pub count_is : {X : Type 0} (slots : List X) (ps : List ℕ) (c : ℕ) (all : List X) → AreSlots (length slots) ps × (c ≤ length ps) → in_order (take c ps) slots ≡ all → c ≡ length all
count_is slots ps c all is view = sym (length_first slots ps c is.0 is.1) ∙ ap length view

get_first : {X : Type 0} (slots : List X) (ps : List ℕ) (c r : ℕ) (d : X) → AreSlots (length slots) ps → c ≤ length ps → r < c
    → get_or (in_order (take c ps) slots) r d ≡ get_or slots (get_or ps r 0) d
get_first slots ps c r d are within low =
    let long = length-take-le c ps within in
    get_at slots (take c ps) r d (taken_slots (length slots) ps c are) (omega arith) ∙ ap (λ p. get_or slots p d) (get_or-take c ps r 0 low)

-- the slot that was read at a place
pub slot_at : (n : ℕ) (ps : List ℕ) (r slot : ℕ) → AreSlots n ps → r < length ps → slot ≡ get_or ps r slot → slot < n
slot_at n ps r slot are low read = rw (get_or_read ps r slot low read 0) (slot_within n ps r are low)

-- and what stands there
pub read_first : {X : Type 0} (slots : List X) (ps : List ℕ) (c r slot : ℕ) (x : X) (all : List X) → AreSlots (length slots) ps × (c ≤ length ps) → in_order (take c ps) slots ≡ all → r < length all
    → slot ≡ get_or ps r slot → x ≡ get_or slots slot x → x ≡ get_or all r x
read_first slots ps c r slot x all is view low at_r there =
    let low_rank : r < c = omega (arith, low, count_is slots ps c all is view) in
    get_or_read slots slot x (slot_at (length slots) ps r slot is.0 (omega (arith, is.1)) at_r) there x
    ∙ ap (λ p. get_or slots p x) (get_or_read ps r slot (omega (arith, is.1)) at_r 0)
    ∙ sym (get_first slots ps c r x is.0 is.1 low_rank)
    ∙ ap (λ xs. get_or xs r x) view

pub cut_first : {X : Type 0} (slots : List X) (ps : List ℕ) (c r : ℕ) (all : List X) → AreSlots (length slots) ps × (c ≤ length ps) → in_order (take c ps) slots ≡ all → r ≤ length all
    → in_order (take r ps) slots ≡ take r all
cut_first slots ps c r all is view low =
    let low_rank : r ≤ c = omega (arith, low, count_is slots ps c all is view) in
    let long = length_first slots ps r is.0 (omega (arith, is.1)) in
    let rest = take (c - r) (drop r ps) in
    let cut : all ≡ in_order (take r ps) slots ++ in_order rest slots =
    sym view ∙ ap (λ qs. in_order qs slots) (take_cut ps r c low_rank) ∙ at_append slots (take r ps) rest in
    sym (ap (take r) cut ∙ take_at (in_order (take r ps) slots) (in_order rest slots) r long)

write_first : {X : Type 0} (slots : List X) (ps : List ℕ) (c r : ℕ) (x : X) → AreSlots (length slots) ps → c ≤ length ps → r < c
    → in_order (take c ps) (set slots (get_or ps r 0) x) ≡ set (in_order (take c ps) slots) r x
write_first slots ps c r x are within low =
    let n = length slots in
    let p = get_or ps r 0 in
    let before = take r ps in
    let behind = take (c - (r + 1)) (drop (r + 1) ps) in
    let is : take c ps ≡ before ++ p ∷ behind = take_cut_at ps r c low within in
    let cut : AreSlots n (before ++ p ∷ behind) = rw (← is) (taken_slots n ps c are) in
    let long = length_first slots ps r are (omega arith) in
    let y = there slots p (slot_within n ps r are (omega arith)) in
    let old : in_order (before ++ p ∷ behind) slots ≡ in_order before slots ++ y.0 ∷ in_order behind slots =
    at_append slots before (p ∷ behind) ∙ ap (λ o. in_order before slots ++ cons_option o (in_order behind slots)) y.1 in
    ap (λ qs. in_order qs (set slots p x)) is
    ∙ at_written slots x before p behind cut
    ∙ sym (set_at (in_order before slots) y.0 (in_order behind slots) x r long)
    ∙ ap (λ all. set all r x) (sym (ap (λ qs. in_order qs slots) is ∙ old))

pub write_at : {X : Type 0} (slots : List X) (ps : List ℕ) (c r slot : ℕ) (x : X) (all : List X) → AreSlots (length slots) ps × (c ≤ length ps) → in_order (take c ps) slots ≡ all → r < length all
    → slot ≡ get_or ps r slot → in_order (take c ps) (set slots slot x) ≡ set all r x
write_at slots ps c r slot x all is view low at_r =
    let low_rank : r < c = omega (arith, low, count_is slots ps c all is view) in
    ap (λ p. in_order (take c ps) (set slots p x)) (get_or_read ps r slot (omega (arith, is.1)) at_r 0)
    ∙ write_first slots ps c r x is.0 is.1 low_rank
    ∙ ap (λ xs. set xs r x) view

-- ---- a slot comes up from behind the first ones

-- those from r on move up by one, and the one behind them goes before them
moved_up : (ps : List ℕ) (r c p : ℕ) → r ≤ c → c < length ps
    → set (copy_within ps r c (r + 1)) r p ≡ take r ps ++ p ∷ (take (c - r) (drop r ps) ++ drop (c + 1) ps)
moved_up ps r c p low within =
    let head = take (r + 1) ps in
    let middle = take (c - r) (drop r ps) in
    let tail = drop (r + 1 + (c - r)) ps in
    let moved : List ℕ = head ++ middle ++ tail in
    let head_long : length head ≡ r + 1 = length-take-le (r + 1) ps (omega arith) in
    let apart : moved ≡ head ++ (middle ++ tail) = append_assoc head middle tail in
    let before : take r moved ≡ take r ps =
    ap (take r) apart ∙ take-append-le r head (middle ++ tail) (omega arith) ∙ take-take r (r + 1) ps (omega arith) in
    let behind : drop (suc r) moved ≡ middle ++ tail = ap (drop (suc r)) apart ∙ drop_at head (middle ++ tail) (suc r) (omega arith) in
    let moved_long = length-append head (middle ++ tail) in
    let has : suc r ≤ length moved = omega (arith, ap length apart) in
    let far : r + 1 + (c - r) ≡ c + 1 = omega arith in
    set_split moved r p has ∙ (λ i. before i ++ p ∷ behind i) ∙ ap (λ n. take r ps ++ p ∷ (middle ++ drop n ps)) far

pub record Inserted {X : Type 0} (slots : List X) (c r p : ℕ) (x : X) (all : List X) (new : List ℕ) : Type 0 where
  pub are_slots : AreSlots (length (set slots p x)) new
  pub count : c + 1 ≤ length new
  pub is : in_order (take (c + 1) new) (set slots p x) ≡ take r all ++ x ∷ drop r all

insert_first : {X : Type 0} (slots : List X) (ps : List ℕ) (c r p : ℕ) (x : X) → AreSlots (length slots) ps → c < length ps → r ≤ c → p ≡ get_or ps c 0
    → Inserted slots c r p x (in_order (take c ps) slots) (set (copy_within ps r c (r + 1)) r p)
insert_first slots ps c r p x are within low last =
    let n = length slots in
    let new : List ℕ = set (copy_within ps r c (r + 1)) r p in
    let before = take r ps in
    let middle = take (c - r) (drop r ps) in
    let rest = drop (c + 1) ps in
    let cut : take c ps ≡ before ++ middle = take_cut ps r c low in
    let old_is : ps ≡ before ++ middle ++ p ∷ rest =
    sym (take-append-drop c ps) ∙ (λ i. cut i ++ (drop_more ps c 0 within ∙ ap (λ q. q ∷ rest) (sym last)) i) in
    let new_is : new ≡ before ++ p ∷ (middle ++ rest) = moved_up ps r c p low within in
    let new_cut : new ≡ (before ++ p ∷ middle) ++ rest = new_is ∙ sym (append_assoc before (p ∷ middle) rest) in
    let old_times : (q : ℕ) → times q ps ≡ times q before + times q middle + (one q p + times q rest) = λ q.
    ap (times q) old_is ∙ times_append q (before ++ middle) (p ∷ rest) ∙ (λ i. times_append q before middle i + times_cons q p rest i) in
    let new_times : (q : ℕ) → times q new ≡ times q before + (one q p + (times q middle + times q rest)) = λ q.
    ap (times q) new_is ∙ times_append q before (p ∷ (middle ++ rest))
    ∙ ap (λ k. times q before + k) (times_cons q p (middle ++ rest) ∙ ap (λ k. one q p + k) (times_append q middle rest)) in
    let are_new : AreSlots n new = fewer_slots n ps new (λ q. omega (arith, old_times q, new_times q)) are in
    let first : AreSlots n (before ++ p ∷ middle) = first_slots n (before ++ p ∷ middle) rest (rw (← new_cut) are_new) in
    let before_long : length before ≡ r = length-take-le r ps (omega arith) in
    let middle_long : length middle ≡ c - r = length-take-le (c - r) (drop r ps) (omega (arith, length-drop r ps)) in
    let first_long : length (before ++ p ∷ middle) ≡ c + 1 = omega (arith, length-append before (p ∷ middle), before_long, middle_long) in
    let long = length_first slots ps r are (omega arith) in
    let old : in_order (take c ps) slots ≡ in_order before slots ++ in_order middle slots =
    ap (λ qs. in_order qs slots) cut ∙ at_append slots before middle in
    let front : take r (in_order (take c ps) slots) ≡ in_order before slots =
    ap (take r) old ∙ take_at (in_order before slots) (in_order middle slots) r long in
    let back : drop r (in_order (take c ps) slots) ≡ in_order middle slots =
    ap (drop r) old ∙ drop_at (in_order before slots) (in_order middle slots) r long in
    record {
      are_slots = rw (length-set slots p x) are_new;
      count = omega (arith, ap length new_is, ap length old_is, length-append before (p ∷ (middle ++ rest)), length-append middle rest, length-append (before ++ middle) (p ∷ rest), length-append before middle);
      is = ap (λ qs. in_order qs (set slots p x)) (ap (take (c + 1)) new_cut ∙ take_at (before ++ p ∷ middle) rest (c + 1) first_long)
          ∙ at_written slots x before p middle first
          ∙ sym (λ i. front i ++ x ∷ back i);
    }

pub insert_at : {X : Type 0} (slots : List X) (ps : List ℕ) (c r p : ℕ) (x : X) (all : List X) (moved : List ℕ) → AreSlots (length slots) ps → c < length ps
    → in_order (take c ps) slots ≡ all → r ≤ length all → p ≡ get_or ps c p → moved ≡ copy_within ps r c (r + 1) → Inserted slots c r p x all (set moved r p)
insert_at slots ps c r p x all moved are within view low last moved_is =
    let low_rank : r ≤ c = omega (arith, low, length_first slots ps c are (omega arith), ap length view) in
    let inserted = insert_first slots ps c r p x are within low_rank (get_or_read ps c p within last 0) in
    rw (← view, moved_is) inserted

-- ---- a slot of the first ones goes behind them

drop_behind : {X : Type 0} (xs : List X) (y : X) (ys : List X) (n : ℕ) → length xs ≡ n → drop (suc n) (xs ++ y ∷ ys) ≡ ys
drop_behind xs y ys n long =
    let pushed : length (xs ++ y ∷ []) ≡ suc n = omega (arith, length-append xs (y ∷ [])) in
    ap (drop (suc n)) (sym (append_assoc xs (y ∷ []) ys)) ∙ drop_at (xs ++ y ∷ []) ys (suc n) pushed

moved_down : (ps : List ℕ) (r c p : ℕ) → r < c → c ≤ length ps
    → set (copy_within ps (r + 1) c r) (c - 1) p ≡ take r ps ++ take (c - (r + 1)) (drop (r + 1) ps) ++ p ∷ drop c ps
moved_down ps r c p low within =
    let before = take r ps in
    let middle = take (c - (r + 1)) (drop (r + 1) ps) in
    let far : r + (c - (r + 1)) ≡ c - 1 = omega arith in
    let next : c - 1 + 1 ≡ c = omega arith in
    let y = get_or ps (c - 1) 0 in
    let tail : drop (r + (c - (r + 1))) ps ≡ y ∷ drop c ps =
    ap (λ n. drop n ps) far ∙ drop_more ps (c - 1) 0 (omega arith) ∙ ap (λ n. y ∷ drop n ps) next in
    let before_long : length before ≡ r = length-take-le r ps (omega arith) in
    let middle_long : length middle ≡ c - (r + 1) = length-take-le (c - (r + 1)) (drop (r + 1) ps) (omega (arith, length-drop (r + 1) ps)) in
    let long : length (before ++ middle) ≡ c - 1 = omega (arith, length-append before middle, before_long, middle_long) in
    ap (λ rest. set (before ++ middle ++ rest) (c - 1) p) tail ∙ set_at (before ++ middle) y (drop c ps) p (c - 1) long

pub record Removed {X : Type 0} (slots : List X) (c r : ℕ) (all : List X) (new : List ℕ) : Type 0 where
  pub are_slots : AreSlots (length slots) new
  pub count : c - 1 ≤ length new
  pub is : in_order (take (c - 1) new) slots ≡ take r all ++ drop (r + 1) all

remove_first : {X : Type 0} (slots : List X) (ps : List ℕ) (c r p : ℕ) → AreSlots (length slots) ps → c ≤ length ps → r < c → p ≡ get_or ps r 0
    → Removed slots c r (in_order (take c ps) slots) (set (copy_within ps (r + 1) c r) (c - 1) p)
remove_first slots ps c r p are within low at_r =
    let n = length slots in
    let new : List ℕ = set (copy_within ps (r + 1) c r) (c - 1) p in
    let before = take r ps in
    let middle = take (c - (r + 1)) (drop (r + 1) ps) in
    let rest = drop c ps in
    let cut : take c ps ≡ before ++ p ∷ middle = take_cut_at ps r c low within ∙ ap (λ q. before ++ q ∷ middle) (sym at_r) in
    let old_is : ps ≡ (before ++ p ∷ middle) ++ rest = sym (take-append-drop c ps) ∙ ap (λ qs. qs ++ rest) cut in
    let new_is : new ≡ (before ++ middle) ++ p ∷ rest = moved_down ps r c p low within in
    let old_times : (q : ℕ) → times q ps ≡ times q before + (one q p + times q middle) + times q rest = λ q.
    ap (times q) old_is ∙ times_append q (before ++ p ∷ middle) rest
    ∙ ap (λ k. k + times q rest) (times_append q before (p ∷ middle) ∙ ap (λ k. times q before + k) (times_cons q p middle)) in
    let new_times : (q : ℕ) → times q new ≡ times q before + times q middle + (one q p + times q rest) = λ q.
    ap (times q) new_is ∙ times_append q (before ++ middle) (p ∷ rest) ∙ (λ i. times_append q before middle i + times_cons q p rest i) in
    let before_long : length before ≡ r = length-take-le r ps (omega arith) in
    let middle_long : length middle ≡ c - (r + 1) = length-take-le (c - (r + 1)) (drop (r + 1) ps) (omega (arith, length-drop (r + 1) ps)) in
    let first_long : length (before ++ middle) ≡ c - 1 = omega (arith, length-append before middle, before_long, middle_long) in
    let long = length_first slots ps r are (omega arith) in
    let y = there slots p (rw at_r (slot_within n ps r are (omega arith))) in
    let old : in_order (take c ps) slots ≡ in_order before slots ++ y.0 ∷ in_order middle slots =
    ap (λ qs. in_order qs slots) cut ∙ at_append slots before (p ∷ middle)
    ∙ ap (λ o. in_order before slots ++ cons_option o (in_order middle slots)) y.1 in
    let front : take r (in_order (take c ps) slots) ≡ in_order before slots =
    ap (take r) old ∙ take_at (in_order before slots) (y.0 ∷ in_order middle slots) r long in
    let next : r + 1 ≡ suc r = omega arith in
    let back : drop (r + 1) (in_order (take c ps) slots) ≡ in_order middle slots =
    (λ i. drop (next i) (old i)) ∙ drop_behind (in_order before slots) y.0 (in_order middle slots) r long in
    record {
      are_slots = fewer_slots n ps new (λ q. omega (arith, old_times q, new_times q)) are;
      count = omega (arith, ap length new_is, ap length old_is, length-append (before ++ middle) (p ∷ rest), length-append before middle, length-append (before ++ p ∷ middle) rest, length-append before (p ∷ middle));
      is = ap (λ qs. in_order qs slots) (ap (take (c - 1)) new_is ∙ take_at (before ++ middle) (p ∷ rest) (c - 1) first_long)
          ∙ at_append slots before middle
          ∙ sym (λ i. front i ++ back i);
    }

pub remove_at : {X : Type 0} (slots : List X) (ps : List ℕ) (c r p : ℕ) (all : List X) (moved : List ℕ) → AreSlots (length slots) ps × (c ≤ length ps)
    → in_order (take c ps) slots ≡ all → r < length all → p ≡ get_or ps r p → moved ≡ copy_within ps (r + 1) c r → Removed slots c r all (set moved (c - 1) p)
remove_at slots ps c r p all moved is view low at_r moved_is =
    let low_rank : r < c = omega (arith, low, count_is slots ps c all is view) in
    let removed = remove_first slots ps c r p is.0 is.1 low_rank (get_or_read ps r p (omega (arith, is.1)) at_r 0) in
    rw (← view, moved_is) removed
