-- States at their places with the indexes of their keys and the counts of their rules, after a change.
use Rattle.std.proofs.Common.{◌≡◌, ◌<◌, ◌≤◌, ◌+◌, ◌-◌, ◌∙◌, ◌==◌, ◌&&◌, ◌||◌, ℕ, true, false, not, nat_lt, List, [], ◌∷◌, Option, Some, None, IfSome, sym, refl, ap, subst, inl, inr, arith}
use Rattle.std.specs.List.{Contains, list_all, list_any}
use Rattle.std.proofs.lemmas.Bool.{and_from, and_left, and_parts, and_right, cases_Bool, eq-eqb, eqb-true, false≢true}
use Rattle.pfr_net.specs.declared.interface.Binding.{Binding}
use Rattle.pfr_net.specs.declared.interface.Binding.TheVariants.{All, To}
use Rattle.pfr_net.specs.Interfaces.{meets}
use Rattle.pfr_index.specs.Index.{Entry, once, places as limit, with_entry, without_entry}
use Rattle.pfr_index.specs.declared.hash.Hash.{Hash}
use Rattle.pfr_places.specs.Places.{at, have_own_places, is_at, of_number, rise as rise_placed, value_of, with_placed, with_value, without as without_placed}
use Rattle.pfr_places.specs.declared.place.Place.{Place}
use Rattle.pfr_track.specs.declared.key.Key.{Key}
use Rattle.pfr_track.specs.declared.state.State.{State}
use Rattle.pfr_track.specs.declared.state.StateNumber.{StateNumber}
use Rattle.pfr_states.specs.declared.change.Side.{Side}
use Rattle.pfr_states.specs.declared.change.Side.TheVariants.{Wire, Stack}
use Rattle.pfr_states.specs.declared.stored.Stored.{Stored}
use Rattle.pfr_states.specs.Indexed.{have_same_keys, have_same_rules, is_like, is_same_binding, is_same_rule}
use Rattle.pfr_states.specs.KeyHash.{hash_of}
use Rattle.pfr_states.specs.Keyed.{AreCounted, AreNumbered, AreKeyed, AreStates, IsLike, entry_of, held, states_of, times_on}
use Rattle.pfr_states.specs.States.{another_shares, is_number, is_same_key, key_on, rise, shares_key}
use Rattle.pfr_states.proofs.FilterLemmas.{own_filter}
use Rattle.pfr_states.proofs.FindLemmas.{found_there, none_any}
use Rattle.pfr_states.proofs.KeyedChanges.{in_value, in_without, states_value, states_with, states_without, total_value, vacant_value, with}
use Rattle.pfr_states.proofs.KeyedLemmas.{Held, holder, in_states, in_with, total_with, total_without}
use Rattle.pfr_states.proofs.LawLemmas.{one_of}
use Rattle.pfr_states.proofs.Membership.{here, in_cons, in_none, there}
use Rattle.pfr_states.proofs.OwnKeys.{key_is}
use Rattle.pfr_states.proofs.PutLemmas.{own_with}
use Rattle.pfr_states.proofs.RuleLemmas.{rules_same, same_rule}
use Rattle.pfr_states.proofs.TouchLemmas.{own_touched}

-- how often an entry stands in an index for one of them
abbrev pub times_of : Side → Entry → Held → ℕ
times_of side e p = once (entry_of side p) e

abbrev pub entry_by : Hash → Place → Entry
entry_by hash place = record { hash = hash; place = place }

-- ---- one more

pub states_more : {all : List Held} → AreStates all → (stored : Stored) (place : Place) → of_number stored.state.number.0 all ≡ None → list_any (shares_key stored.state) (states_of all) ≡ false
    → place.0 < limit → rise_placed (with_placed (held stored place) all) ≡ true → have_own_places (with_placed (held stored place) all) ≡ true → AreStates (with_placed (held stored place) all)
states_more {all} are stored place fresh free within in_order places = record {
  within = λ q h. elim (in_with (held stored place) all q h) [ inl is ↦ subst (λ (r : Held). r.place.0 < limit) is within | inr old ↦ are.within q old ];
  by_number = λ q h. elim (in_with (held stored place) all q h) [ inl is ↦ subst (λ (r : Held). r.number ≡ r.value.state.number.0) is refl | inr old ↦ are.by_number q old ];
  in_order = in_order;
  own_places = places;
  own_keys = rw (states_with (held stored place) all are.by_number refl fresh) (own_with stored.state (states_of all) are.own_keys free);
}

pub index_more : (side : Side) (all : List Held) (p : Held) (hash : Hash) (before after : Entry → ℕ) → ((e : Entry) → before e ≡ times_on side all e) → hash ≡ hash_of (key_on side p.value.state) → ((e : Entry) → after e ≡ with_entry (entry_by hash p.place) before e) → (e : Entry) → after e ≡ times_on side (with_placed p all) e
index_more side all p hash before after by is now e = now e ∙ ap (λ (h : Hash). with_entry (entry_by h p.place) before e) is ∙ ap (λ (n : ℕ). once (entry_of side p) e + n) (by e) ∙ sym (total_with (times_of side e) p all)

-- ---- one less

pub states_less : {all : List Held} → AreStates all → (n : StateNumber) → rise_placed (without_placed n.0 all) ≡ true → have_own_places (without_placed n.0 all) ≡ true → AreStates (without_placed n.0 all)
states_less {all} are n in_order places = record {
  within = λ q h. are.within q (in_without n.0 all q h);
  by_number = λ q h. are.by_number q (in_without n.0 all q h);
  in_order = in_order;
  own_places = places;
  own_keys = rw (states_without n all are.by_number) (own_filter (λ (s : State). not (is_number n s)) (states_of all) are.own_keys);
}

pub index_less : (side : Side) (all : List Held) (n : ℕ) (p : Held) (hash : Hash) (place : Place) (before after : Entry → ℕ) → rise_placed all ≡ true → of_number n all ≡ Some p → ((e : Entry) → before e ≡ times_on side all e) → hash ≡ hash_of (key_on side p.value.state) → place ≡ p.place
    → ((e : Entry) → after e ≡ without_entry (entry_by hash place) before e) → (e : Entry) → after e ≡ times_on side (without_placed n all) e
index_less side all n p hash place before after in_order is by same there now e =
    now e ∙ ap (λ (h : Hash). without_entry (entry_by h place) before e) same ∙ ap (λ (q : Place). without_entry (entry_by (hash_of (key_on side p.value.state)) q) before e) there ∙ ap (λ (m : ℕ). m - once (entry_of side p) e) (by e ∙ total_without (times_of side e) n all p in_order is) ∙ less (once (entry_of side p) e) (times_on side (without_placed n all) e) where
      less : (a b : ℕ) → (a + b) - a ≡ b
      less a b = omega arith

-- ---- another one at a place

pub states_other : {all : List Held} → AreStates all → (place : Place) (stored : Stored) (p : Held) → at place all ≡ Some p → p.value.state.number.0 ≡ stored.state.number.0 → another_shares stored.state (states_of all) ≡ false
    → rise (states_of all) ≡ true → rise_placed (with_value place stored all) ≡ true → have_own_places (with_value place stored all) ≡ true → AreStates (with_value place stored all)
states_other {all} are place stored p is number free in_order_states in_order places =
    let there = found_there (is_at place) all p is in
    let level : p.number ≡ stored.state.number.0 = are.by_number p there.0 ∙ number in
    record {
      within = λ q h. elim (in_value place stored all p are.own_places is q h) [ inl same ↦ subst (λ (r : Held). r.place.0 < limit) same (are.within p there.0) | inr old ↦ are.within q old.0 ];
      by_number = λ q h. elim (in_value place stored all p are.own_places is q h) [ inl same ↦ subst (λ (r : Held). r.number ≡ r.value.state.number.0) same level | inr old ↦ are.by_number q old.0 ];
      in_order = in_order;
      own_places = places;
      own_keys = rw (states_value place stored all p are.by_number are.in_order are.own_places is level) (own_touched stored.state (states_of all) in_order_states are.own_keys free);
    }

pub index_other : (side : Side) (all : List Held) (place : Place) (stored : Stored) (p : Held) (before after : Entry → ℕ) → have_own_places all ≡ true → at place all ≡ Some p → ((e : Entry) → before e ≡ times_on side all e)
    → ((e : Entry) → after e ≡ with_entry (entry_of side (with p stored)) (without_entry (entry_of side p) before) e) → (e : Entry) → after e ≡ times_on side (with_value place stored all) e
index_other side all place stored p before after places is by now e =
    let level = total_value (times_of side e) place stored all p places is in
    let count = by e in
    let there = times_least side all p e (found_there (is_at place) all p is).0 in
    now e ∙ (omega (arith, level, count, there)) where
      times_least : (side : Side) (all : List Held) (p : Held) (e : Entry) → Contains all p → once (entry_of side p) e ≤ times_on side all e
      times_least side [] p e h = absurd (in_none p h)
      times_least side (x ∷ xs) p e h = elim (in_cons x xs p h) [
        | inl same ↦ subst (λ (q : Held). once (entry_of side q) e ≤ times_on side (x ∷ xs) e) same (omega arith)
        | inr rest ↦ (let more = times_least side xs p e rest in omega arith)
      ]

-- where number and keys stay, an index stays as it is
pub index_same : (side : Side) (all : List Held) (place : Place) (stored : Stored) (p : Held) (times : Entry → ℕ) → have_own_places all ≡ true → at place all ≡ Some p → key_on side p.value.state ≡ key_on side stored.state
    → ((e : Entry) → times e ≡ times_on side all e) → (e : Entry) → times e ≡ times_on side (with_value place stored all) e
index_same side all place stored p times places is keys by e =
    let level = total_value (times_of side e) place stored all p places is in
    let same : once (entry_of side p) e ≡ once (entry_of side (with p stored)) e = ap (λ (k : Key). once (entry_by (hash_of k) p.place) e) keys in
    by e ∙ (omega (arith, level, same))

pub likes : (a b : State) → is_like a b ≡ true → IsLike a b
likes a b like = record {
  number = eqb-true a.number.0 b.number.0 (and_parts _ _ like).0;
  keys = λ side. same side;
  rule = same_rule a.rules.filter b.rules.filter of_rules.0;
  binding = same_binding a.rules.binding b.rules.binding of_rules.1;
} where
  parts : (have_same_keys a b ≡ true) × (have_same_rules a b ≡ true)
  parts = and_parts (have_same_keys a b) (have_same_rules a b) (and_parts (a.number.0 == b.number.0) (have_same_keys a b && have_same_rules a b) like).1

  of_rules : (is_same_rule a.rules.filter b.rules.filter ≡ true) × (is_same_binding a.rules.binding b.rules.binding ≡ true)
  of_rules = and_parts (is_same_rule a.rules.filter b.rules.filter) (is_same_binding a.rules.binding b.rules.binding) parts.1

  both : (is_same_key a.wire b.wire ≡ true) × (is_same_key a.stack b.stack ≡ true)
  both = and_parts (is_same_key a.wire b.wire) (is_same_key a.stack b.stack) parts.0

  same : (side : Side) → key_on side a ≡ key_on side b
  same Wire = key_is a.wire b.wire both.0
  same Stack = key_is a.stack b.stack both.1

  bound_to : ℕ → Binding
  bound_to place = To (record { 0 = place })

  same_binding : (first second : Binding) → is_same_binding first second ≡ true → first ≡ second
  same_binding All All is = refl
  same_binding (To place) (To other) is = ap bound_to (eqb-true place.0 other.0 is)
  same_binding All (To other) is = absurd (false≢true is)
  same_binding (To place) All is = absurd (false≢true is)

-- a state is like another one: none of another number has its keys
pub like_free : {all : List Held} → AreStates all → (old s : State) → Contains (states_of all) old → IsLike old s → rise (states_of all) ≡ true → another_shares s (states_of all) ≡ false
like_free {all} are old s h like in_order = none_any (λ (other : State). not (is_number s.number other) && shares_key s other) (states_of all) (λ a ha. elim (cases_Bool (shares_key s a)) [
  | inl shares ↦
      let same : old ≡ a = one_of (states_of all) old a are.own_keys h ha (sym (shares_like s a like) ∙ shares) in
      and_left (not (is_number s.number a)) (shares_key s a) (ap not (eq-eqb a.number.0 s.number.0 (ap (λ (t : State). t.number.0) (sym same) ∙ like.number)))
  | inr apart ↦ and_right (not (is_number s.number a)) (shares_key s a) apart
]) where
  shares_like : (s a : State) → IsLike old s → shares_key s a ≡ shares_key old a
  shares_like s a like =
      ap (λ (b : Binding). meets b a.rules.binding && (is_same_key s.wire a.wire || is_same_key s.stack a.stack)) (sym like.binding)
      ∙ ap (λ (k : Key). meets old.rules.binding a.rules.binding && (is_same_key k a.wire || is_same_key s.stack a.stack)) (sym (like.keys Wire))
      ∙ ap (λ (k : Key). meets old.rules.binding a.rules.binding && (is_same_key old.wire a.wire || is_same_key k a.stack)) (sym (like.keys Stack))

pub rise_states : (all : List Held) → AreNumbered all → rise_placed all ≡ true → rise (states_of all) ≡ true
rise_states [] numbers in_order = refl
rise_states (x ∷ xs) numbers in_order =
    let parts = and_parts (list_all (λ (other : Held). nat_lt x.number other.number) xs) (rise_placed xs) in_order in
    let rest : AreNumbered xs = λ p h. numbers p (there x xs p h) in
    and_from (list_all (λ (s : State). nat_lt x.value.state.number.0 s.number.0) (states_of xs)) (rise (states_of xs))
    (subst (λ (n : ℕ). list_all (λ (s : State). nat_lt n s.number.0) (states_of xs) ≡ true) (numbers x (here x xs)) (above xs x.number rest parts.0)) (rise_states xs rest parts.1) where
      above : (xs : List Held) (n : ℕ) → AreNumbered xs → list_all (λ (other : Held). nat_lt n other.number) xs ≡ true → list_all (λ (s : State). nat_lt n s.number.0) (states_of xs) ≡ true
      above [] n numbers all = refl
      above (y ∷ ys) n numbers all =
          let parts = and_parts (nat_lt n y.number) (list_all (λ (other : Held). nat_lt n other.number) ys) all in
          and_from (nat_lt n y.value.state.number.0) (list_all (λ (s : State). nat_lt n s.number.0) (states_of ys)) (ap (nat_lt n) (sym (numbers y (here y ys))) ∙ parts.0) (above ys n (λ p h. numbers p (there y ys p h)) parts.1)

-- a state of the same number, the same keys, the same rule and the same binding at a place
pub keyed_written : {all : List Held} {wire stack : Entry → ℕ} {counts : List ℕ} → AreKeyed all wire stack counts → (place : Place) (stored : Stored) → IfSome (at place all) (λ p. IsLike p.value.state stored.state)
    → rise_placed (with_value place stored all) ≡ true → have_own_places (with_value place stored all) ≡ true → AreKeyed (with_value place stored all) wire stack counts
keyed_written {all} {wire} {stack} {counts} are place stored like in_order places = by (at place all) refl like where
  by : (r : Option Held) → at place all ≡ r → IfSome r (λ p. IsLike p.value.state stored.state) → AreKeyed (with_value place stored all) wire stack counts
  by None none like = subst (λ (xs : List Held). AreKeyed xs wire stack counts) (sym (vacant_value place stored all none)) are
  by (Some p) is like =
      let states = are.states in
      let there = found_there (is_at place) all p is in
      let order = rise_states all states.by_number states.in_order in
      record {
        states = states_other states place stored p is like.number (like_free states p.value.state stored.state (in_states all p there.0) like order) order in_order places;
        by_wire = index_same Wire all place stored p wire states.own_places is (like.keys Wire) are.by_wire;
        by_stack = index_same Stack all place stored p stack states.own_places is (like.keys Stack) are.by_stack;
        by_rule = rules_same counts all are.by_rule place stored p states.own_places is like.rule;
      }

-- a state of the same number at a place, with other keys that are free
pub keyed_replaced : {all : List Held} {wire stack : Entry → ℕ} {counts : List ℕ} → AreKeyed all wire stack counts → (place : Place) (before stored : Stored) → value_of (at place all) ≡ Some before → before.state.number.0 ≡ stored.state.number.0 → another_shares stored.state (states_of all) ≡ false
    → rise_placed (with_value place stored all) ≡ true → have_own_places (with_value place stored all) ≡ true → {wire_more stack_more wire_after stack_after : Entry → ℕ} {counts_after : List ℕ}
    → ((e : Entry) → wire_more e ≡ wire e) → ((e : Entry) → stack_more e ≡ stack e)
    → ((e : Entry) → wire_after e ≡ with_entry (entry_by (hash_of stored.state.wire) place) (without_entry (entry_by (hash_of before.state.wire) place) wire_more) e)
    → ((e : Entry) → stack_after e ≡ with_entry (entry_by (hash_of stored.state.stack) place) (without_entry (entry_by (hash_of before.state.stack) place) stack_more) e)
    → AreCounted counts_after (with_value place stored all)
    → AreKeyed (with_value place stored all) wire_after stack_after counts_after
keyed_replaced {all} {wire} {stack} {counts} are place before stored has number free in_order places {wire_more} {stack_more} {wire_after} {stack_after} {counts_after} more_wire more_stack now_wire now_stack counted =
    let it = holder all place before has in
    let p = it.0 in
    let states = are.states in
    let at_place : p.place ≡ place = ap (λ (n : ℕ). place_by n) it.4 in
    let same_number : p.value.state.number.0 ≡ stored.state.number.0 = ap (λ (v : Stored). v.state.number.0) it.2 ∙ number in
    record {
      states = states_other states place stored p it.1 same_number free (rise_states all states.by_number states.in_order) in_order places;
      by_rule = counted;
      by_wire = index_other Wire all place stored p wire_more wire_after states.own_places it.1 (λ e. more_wire e ∙ are.by_wire e)
          (subst (λ (q : Place). (e : Entry) → wire_after e ≡ with_entry (entry_by (hash_of stored.state.wire) q) (without_entry (entry_by (hash_of p.value.state.wire) q) wire_more) e) (sym at_place)
          (subst (λ (v : Stored). (e : Entry) → wire_after e ≡ with_entry (entry_by (hash_of stored.state.wire) place) (without_entry (entry_by (hash_of v.state.wire) place) wire_more) e) (sym it.2) now_wire));
      by_stack = index_other Stack all place stored p stack_more stack_after states.own_places it.1 (λ e. more_stack e ∙ are.by_stack e)
          (subst (λ (q : Place). (e : Entry) → stack_after e ≡ with_entry (entry_by (hash_of stored.state.stack) q) (without_entry (entry_by (hash_of p.value.state.stack) q) stack_more) e) (sym at_place)
          (subst (λ (v : Stored). (e : Entry) → stack_after e ≡ with_entry (entry_by (hash_of stored.state.stack) place) (without_entry (entry_by (hash_of v.state.stack) place) stack_more) e) (sym it.2) now_stack));
    } where
      place_by : ℕ → Place
      place_by n = record { 0 = n }
