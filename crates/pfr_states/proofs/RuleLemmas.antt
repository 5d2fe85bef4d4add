-- How many states a filter rule made, and whether it has room.
use Rattle.std.proofs.Common.{◌≡◌, ◌≤◌, ◌<◌, ◌+◌, ◌-◌, ◌==◌, ◌++◌, ◌∙◌, ℕ, Bool, true, false, if◌then◌else◌, not, nat_lt, get_or, List, [], ◌∷◌, length, Option, Some, None, sym, refl, ap, subst, inl, inr, arith}
use Rattle.std.specs.List.{filter, list_any, slice_set}
use Rattle.std.proofs.lemmas.Bool.{cases_Bool, eq-eqb, eqb-true, false≢true, le-ltb, ltb-true, or_parts}
use Rattle.std.proofs.lemmas.List.{append-nil, get_or-set_other, get_or-set_same, length-map}
use Rattle.std.proofs.lemmas.List.Elements.{filter-append}
use Rattle.pfr_net.specs.declared.rule_number.RuleNumber.{RuleNumber}
use Rattle.pfr_places.specs.Places.{at, have_own_places, of_number, rise as rise_placed, with_placed, with_value, without as without_placed}
use Rattle.pfr_places.specs.declared.place.Place.{Place}
use Rattle.pfr_track.specs.declared.state.State.{State}
use Rattle.pfr_track.specs.declared.time.Clock.{Clock}
use Rattle.pfr_states.specs.declared.stored.Stored.{Stored}
use Rattle.pfr_states.specs.Indexed.{is_same_rule}
use Rattle.pfr_states.specs.Keyed.{AreCounted, states_of, total}
use Rattle.pfr_states.specs.Laws.{OtherRulesSayNothing, PurgeLeavesRoom}
use Rattle.pfr_states.specs.RuleCounts.{counts_for, left_of_rule}
use Rattle.pfr_states.specs.States.{count_of_rule, has_rule_room, is_of_rule, lives, purged}
use Rattle.pfr_states.proofs.FilterLemmas.{all_kept, length_filter, room_full, room_left}
use Rattle.pfr_states.proofs.KeyedChanges.{total_value, with}
use Rattle.pfr_states.proofs.KeyedLemmas.{Held, total_with, total_without}

-- ---- rules

pub same_rule : (a b : Option RuleNumber) → is_same_rule a b ≡ true → a ≡ b
same_rule None None same = refl
same_rule None (Some b) same = absurd (false≢true same)
same_rule (Some a) None same = absurd (false≢true same)
same_rule (Some a) (Some b) same = ap (λ (n : ℕ). Some (rule_by n)) (sym (eqb-true b.0 a.0 same)) where
  rule_by : ℕ → RuleNumber
  rule_by n = record { 0 = n }

-- a count is written
pub count_set : (counts : List ℕ) (rule number value : ℕ) → rule < length counts → get_or (slice_set counts rule value) number 0 ≡ (if rule == number then value else get_or counts number 0)
count_set counts rule number value within = elim (cases_Bool (rule == number)) [
  | inl is ↦ (let same = eqb-true rule number is in rw (is, ← same) (get_or-set_same counts rule value 0 within))
  | inr other ↦ rw other (get_or-set_other counts rule number value 0 (λ same. absurd (false≢true (sym other ∙ eq-eqb rule number (sym same)))))
]

-- ---- states at their places

-- what one of them counts for a rule
abbrev pub made_by : ℕ → Held → ℕ
made_by rule p = counts_for rule p.value.state.rules.filter

count_is : (rule : ℕ) (all : List Held) → count_of_rule rule (states_of all) ≡ total (made_by rule) all
count_is rule [] = refl
count_is rule (x ∷ xs) =
    let rest = count_is rule xs in
    elim (cases_Bool (is_of_rule rule x.value.state)) [ inl it_is ↦ rw it_is (omega arith) | inr other ↦ rw other (omega arith) ]

pub count_with : (rule : ℕ) (p : Held) (all : List Held) → count_of_rule rule (states_of (with_placed p all)) ≡ made_by rule p + count_of_rule rule (states_of all)
count_with rule p all = count_is rule (with_placed p all) ∙ total_with (made_by rule) p all ∙ ap (λ (n : ℕ). made_by rule p + n) (sym (count_is rule all))

pub count_without : (rule n : ℕ) (all : List Held) (p : Held) → rise_placed all ≡ true → of_number n all ≡ Some p → count_of_rule rule (states_of all) ≡ made_by rule p + count_of_rule rule (states_of (without_placed n all))
count_without rule n all p in_order is = count_is rule all ∙ total_without (made_by rule) n all p in_order is ∙ ap (λ (m : ℕ). made_by rule p + m) (sym (count_is rule (without_placed n all)))

pub count_value : (rule : ℕ) (place : Place) (stored : Stored) (all : List Held) (p : Held) → have_own_places all ≡ true → at place all ≡ Some p
    → count_of_rule rule (states_of (with_value place stored all)) + made_by rule p ≡ made_by rule (with p stored) + count_of_rule rule (states_of all)
count_value rule place stored all p own is =
    let level = total_value (made_by rule) place stored all p own is in
    let before = count_is rule all in
    let after = count_is rule (with_value place stored all) in
    omega (arith, level, before, after)

-- a rule made no more states than there are
count_most : (rule : ℕ) (all : List Held) → count_of_rule rule (states_of all) ≤ length all
count_most rule all = (let most = length_filter (is_of_rule rule) (states_of all) in let same = length-map all (λ (p : Held). p.value.state) in omega (arith, most, same))

-- ---- counts after a change

module _ (counts : List ℕ) (all : List Held) (counted : AreCounted counts all) where
  pub rules_with : (p : Held) (after : List ℕ) → ((n : ℕ) → get_or after n 0 ≡ made_by n p + get_or counts n 0) → AreCounted after (with_placed p all)
  rules_with p after now n = now n ∙ ap (λ (m : ℕ). made_by n p + m) (counted n) ∙ sym (count_with n p all)

  pub few_with : (p : Held) → length (with_placed p all) < 18446744073709551616 → (n : ℕ) → made_by n p + get_or counts n 0 < 18446744073709551616
  few_with p few n =
      let more = count_with n p all in
      let most = count_most n (with_placed p all) in
      let now = counted n in
      omega (arith, few, more, most, now)

  pub rules_without : (number : ℕ) (p : Held) (after : List ℕ) → rise_placed all ≡ true → of_number number all ≡ Some p → ((n : ℕ) → get_or after n 0 ≡ get_or counts n 0 - made_by n p) → AreCounted after (without_placed number all)
  rules_without number p after in_order is now n =
      let less = count_without n number all p in_order is in
      let before = counted n in
      now n ∙ (omega (arith, less, before))

  module _ (place : Place) (stored : Stored) (p : Held) (own : have_own_places all ≡ true) (is : at place all ≡ Some p) where
    moved : (n : ℕ) → made_by n (with p stored) + (get_or counts n 0 - made_by n p) ≡ count_of_rule n (states_of (with_value place stored all))
    moved n =
        let level = count_value n place stored all p own is in
        let before = counted n in
        let held = least n all p is in
        omega (arith, level, before, held) where
          least : (n : ℕ) (xs : List Held) (q : Held) → at place xs ≡ Some q → made_by n q ≤ count_of_rule n (states_of xs)
          least n [] q found = absurd cc
          least n (x ∷ xs) q found = elim (cases_Bool (x.place.0 == place.0)) [
            | inl it_is ↦ (let same : x ≡ q = ap (λ (r : Option Held). or_self r x) (rw it_is at found) in let head = count_is n (x ∷ xs) in subst (λ (r : Held). made_by n r ≤ count_of_rule n (states_of (x ∷ xs))) same (omega (arith, head)))
            | inr other ↦ (let rest = least n xs q (rw other at found) in let head = count_is n (x ∷ xs) in let tail = count_is n xs in omega (arith, rest, head, tail))
          ] where
            or_self : Option Held → Held → Held
            or_self None y = y
            or_self (Some z) y = z

    pub rules_value : (after : List ℕ) → ((n : ℕ) → get_or after n 0 ≡ made_by n (with p stored) + (get_or counts n 0 - made_by n p)) → AreCounted after (with_value place stored all)
    rules_value after now n = now n ∙ moved n

    pub few_value : length (with_value place stored all) < 18446744073709551616 → (n : ℕ) → made_by n (with p stored) + (get_or counts n 0 - made_by n p) < 18446744073709551616
    few_value few n =
        let most = count_most n (with_value place stored all) in
        let level = moved n in
        omega (arith, few, most, level)

    -- if the rule stays, the counts stay
    pub rules_same : p.value.state.rules.filter ≡ stored.state.rules.filter → AreCounted counts (with_value place stored all)
    rules_same rule n =
        let level = count_value n place stored all p own is in
        let before = counted n in
        let same : made_by n p ≡ made_by n (with p stored) = ap (counts_for n) rule in
        omega (arith, level, before, same)

-- ---- room

filter_turned : {X : Type 0} (p q : X → Bool) (xs : List X) → filter p (filter q xs) ≡ filter q (filter p xs)
filter_turned p q [] = refl
filter_turned p q (x ∷ xs) =
    let rest = filter_turned p q xs in
    elim (cases_Bool (p x)) [
      | inl it_is ↦ elim (cases_Bool (q x)) [ inl kept ↦ rw (it_is, kept, it_is) (ap (λ xs. x ∷ xs) rest) | inr gone ↦ rw (it_is, gone) rest ]
      | inr other ↦ elim (cases_Bool (q x)) [ inl kept ↦ rw (other, kept, other) rest | inr gone ↦ rw (other, gone) rest ]
    ]

module _ (rule : ℕ) (clock : Clock) (states : List State) where
  left : count_of_rule rule (purged clock states) ≡ length (filter (lives clock) (filter (is_of_rule rule) states))
  left = ap (λ (xs : List State). length xs) (filter_turned (is_of_rule rule) (lives clock) states)

  -- a purge only takes states out
  pub few_have_room : (most : ℕ) → count_of_rule rule states < most → true ≡ nat_lt (count_of_rule rule (purged clock states)) most
  few_have_room most few = room_left (lives clock) (filter (is_of_rule rule) states) most few ∙ ap (λ (n : ℕ). nat_lt n most) (sym left)

  -- none of the rule goes
  pub none_leaves_room : (most : ℕ) → most ≤ count_of_rule rule states → list_any (λ state. not (lives clock state)) (filter (is_of_rule rule) states) ≡ false → false ≡ nat_lt (count_of_rule rule (purged clock states)) most
  none_leaves_room most full none =
      let same = left ∙ all_kept (lives clock) (filter (is_of_rule rule) states) none in
      sym (le-ltb (count_of_rule rule (purged clock states)) most (omega (arith, same, full)))

  -- one of the rule goes at least, of just as many
  pub one_leaves_room : (most : ℕ) → count_of_rule rule states ≡ most → list_any (λ state. not (lives clock state)) (filter (is_of_rule rule) states) ≡ true → true ≡ nat_lt (count_of_rule rule (purged clock states)) most
  one_leaves_room most level some =
      sym some ∙ room_full (lives clock) (filter (is_of_rule rule) states) most (omega (arith, level)) (omega (arith, level)) ∙ ap (λ (n : ℕ). nat_lt n most) (sym left)

-- ---- counting

pub count_step : (rule : ℕ) (clock : Clock) (state : State) (rest : List State) → count_of_rule rule (purged clock (state ∷ rest)) ≡ left_of_rule rule clock state + count_of_rule rule (purged clock rest)
count_step rule clock state rest = elim (cases_Bool (lives clock state)) [
  | inl alive ↦ elim (cases_Bool (is_of_rule rule state)) [ inl it_is ↦ rw (alive, it_is) (omega arith) | inr other ↦ rw (alive, other) (omega arith) ]
  | inr gone ↦ rw gone (omega arith)
]

pub count_left_most : (rule : ℕ) (clock : Clock) (states : List State) → count_of_rule rule (purged clock states) ≤ length states
count_left_most rule clock states =
    let some = length_filter (is_of_rule rule) (purged clock states) in
    let most = length_filter (lives clock) states in
    omega (arith, some, most)

-- ---- laws

none_of_rule : (rule : ℕ) (more : List State) → list_any (is_of_rule rule) more ≡ false → filter (is_of_rule rule) more ≡ []
none_of_rule rule [] none = refl
none_of_rule rule (x ∷ xs) none = (let parts = or_parts (is_of_rule rule x) (list_any (is_of_rule rule) xs) none in rw parts.0 (none_of_rule rule xs parts.1))

pub others_say_nothing : OtherRulesSayNothing
unfolding has_rule_room
others_say_nothing rule most states more none =
    ap (λ (xs : List State). nat_lt (length xs) most) (filter-append (is_of_rule rule) states more ∙ ap (λ (xs : List State). filter (is_of_rule rule) states ++ xs) (none_of_rule rule more none) ∙ append-nil (filter (is_of_rule rule) states))

pub purge_leaves_room : PurgeLeavesRoom
unfolding has_rule_room
purge_leaves_room rule most states clock room = sym (few_have_room rule clock states most (ltb-true (count_of_rule rule states) most room))
