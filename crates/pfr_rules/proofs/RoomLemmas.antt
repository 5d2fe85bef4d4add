-- What a walk asks of the rooms of the rules that it visits.
use Rattle.std.proofs.Common.{◌≡◌, ◌∙◌, ◌<◌, ◌≤◌, ◌+◌, ◌-◌, ◌&&◌, ℕ, zero, suc, Bool, true, false, if◌then◌else◌, List, [], ◌∷◌, ◌++◌, length, Option, Some, None, ap, sym, subst, refl, arith}
use Rattle.std.specs.List.{All, Contains, slice_get, filter, flat_map}
use Rattle.std.proofs.lemmas.Grind.{flat_map-append}
use Rattle.std.proofs.lemmas.List.{append-nil}
use Rattle.std.proofs.lemmas.List.Elements.{All-append, All-cons, All-head, All-nil, All-tail}
use Rattle.pfr_net.specs.declared.direction.Direction.{Direction}
use Rattle.pfr_net.specs.declared.interface.IfName.{IfName}
use Rattle.pfr_ruleset.specs.declared.flat.FlatRule.{FlatRule}
use Rattle.pfr_ruleset.specs.declared.ruleset.Ruleset.{Ruleset}
use Rattle.pfr_headers.specs.declared.packet.Packet.{Packet}
use Rattle.pfr_states.specs.declared.question.Question.{Question}
use Rattle.pfr_states.specs.States.{StateTable}
use Rattle.pfr_states.specs.declared.question.Question.TheVariants.{RuleRoom}
use Rattle.pfr_rules.specs.Filter.{Rooms, anchored, asked_at, asked_of, deciding, has_room_by, hit, is_inside, is_stop, limit_for, matched, passes, reach, reach_by, room_question, rooms_asked, rooms_in, ruled, visited}
use Rattle.pfr_rules.specs.Laws.{SameRoom}
use Rattle.pfr_rules.specs.Numbers.{numbers_below, numbers_from}
use Rattle.pfr_rules.specs.Stretches.{NoneHolds}
use Rattle.pfr_rules.proofs.Agreeing.{AgreeBelow, AreSameWalks, and_left, first_kept, own_same, same_walks, stop_same}
use Rattle.pfr_rules.proofs.Numbers.{one_behind}
use Rattle.pfr_rules.proofs.Places.{last_within}
use Rattle.pfr_rules.proofs.Stretches.{IsStricter}
use Rattle.pfr_rules.proofs.UnvisitedLemmas.{number_there}

-- no rule matches of which not all holds that it writes
pub stricter : (flat : Ruleset) (rooms : Rooms) (name : IfName) (packet : Packet) (direction : Direction) (place : ℕ) → IsStricter (ruled flat name packet direction) (matched flat rooms name packet direction place)
stricter flat rooms name packet direction place rule fails = and_left (ruled flat name packet direction rule) (has_room_by rooms place (limit_for rule packet)) fails

-- and it is asked nothing
none_asked : (flat : Ruleset) (name : IfName) (packet : Packet) (direction : Direction) (place : ℕ) (found : Option FlatRule) → passes (ruled flat name packet direction) found ≡ false → asked_of flat name packet direction place found ≡ []
none_asked flat name packet direction place None fails = refl
none_asked flat name packet direction place (Some rule) fails = rw fails refl

-- so no rule of such a run is asked
run_asks : (ask : ℕ → List Question) (first n : ℕ) → ((q : ℕ) → first ≤ q → q < first + n → ask q ≡ []) → flat_map ask (numbers_from first n) ≡ []
run_asks ask first zero none = refl
run_asks ask first (suc n) none =
    let rest = run_asks ask first n (λ q above below. none q above (omega (arith, below))) in
    let last = none (first + n) (omega arith) (omega arith) in
    flat_map-append ask (numbers_from first n) ((first + n) ∷ []) ∙ rw (rest, last) refl

module _ (flat : Ruleset) (name : IfName) (packet : Packet) (direction : Direction) (place to : ℕ) (visits : List ℕ) (P : Question → Type 0) (from : place ≤ to) (fails : NoneHolds (ruled flat name packet direction) flat.filter.rules place to) (asked : All P (flat_map (asked_at flat name packet direction) visits)) where
  abbrev run : List ℕ
  run = numbers_from place (to - place)

  none : flat_map (asked_at flat name packet direction) run ≡ []
  none = run_asks (asked_at flat name packet direction) place (to - place) (λ q above below. none_asked flat name packet direction q (slice_get flat.filter.rules q) (fails q above (omega (arith, below, from))))

  -- all was asked, behind a run of rules that don't hold
  pub asked_on : All P (flat_map (asked_at flat name packet direction) (visits ++ run))
  asked_on = subst (λ questions. All P questions) (sym (flat_map-append (asked_at flat name packet direction) visits run ∙ ap (λ (more : List Question). flat_map (asked_at flat name packet direction) visits ++ more) none ∙ append-nil (flat_map (asked_at flat name packet direction) visits))) asked

  -- and behind the rule that follows it
  pub asked_behind : (more : List ℕ) (rule : FlatRule) → slice_get flat.filter.rules to ≡ Some rule → All P (asked_of flat name packet direction to (Some rule)) → more ≡ visits ++ numbers_from place (to + 1 - place) → All P (flat_map (asked_at flat name packet direction) more)
  asked_behind more rule at asks more_is =
      let ask = asked_at flat name packet direction in
      let own : flat_map ask (to ∷ []) ≡ asked_of flat name packet direction to (Some rule) = append-nil (ask to) ∙ ap (λ found. asked_of flat name packet direction to found) at in
      let last : flat_map ask (numbers_from place (to + 1 - place)) ≡ asked_of flat name packet direction to (Some rule) = ap (λ (numbers : List ℕ). flat_map ask numbers) (one_behind place to from) ∙ flat_map-append ask run (to ∷ []) ∙ rw (none, own) refl in
      subst (λ questions. All P questions) (sym (ap (λ (numbers : List ℕ). flat_map ask numbers) more_is ∙ flat_map-append ask visits (numbers_from place (to + 1 - place)) ∙ ap (λ (those : List Question). flat_map ask visits ++ those) last))
      (All-append P (flat_map ask visits) (asked_of flat name packet direction to (Some rule)) asked asks)

-- what was asked of all visits, if these are the visits of a packet
pub asked_for : (flat : Ruleset) (rooms : Rooms) (name : IfName) (packet : Packet) (direction : Direction) (visits : List ℕ) (P : Question → Type 0) → visits ≡ visited flat rooms name packet direction → All P (flat_map (asked_at flat name packet direction) visits) → All P (rooms_asked flat rooms name packet direction)
asked_for flat rooms name packet direction visits P are asked = subst (λ (numbers : List ℕ). All P (flat_map (asked_at flat name packet direction) numbers)) are asked

-- ---- what isn't asked

room_same : (rooms other : Rooms) (holds : Bool) (limit : Option ℕ) (number : ℕ) → All (SameRoom rooms other) (if holds then room_question number limit else []) → (holds && has_room_by other number limit) ≡ (holds && has_room_by rooms number limit)
room_same rooms other false limit number asked = refl
room_same rooms other true None number asked = refl
room_same rooms other true (Some most) number asked = All-head (SameRoom rooms other) (RuleRoom (record { 0 = number }) most) [] asked

-- a rule matches by two rooms that answer alike what it asks
match_same : (flat : Ruleset) (rooms other : Rooms) (name : IfName) (packet : Packet) (direction : Direction) (number : ℕ) (found : Option FlatRule) → All (SameRoom rooms other) (asked_of flat name packet direction number found) → passes (matched flat other name packet direction number) found ≡ passes (matched flat rooms name packet direction number) found
match_same flat rooms other name packet direction number None asked = refl
match_same flat rooms other name packet direction number (Some rule) asked = room_same rooms other (ruled flat name packet direction rule) (limit_for rule packet) number asked

-- what holds of all elements of two lists behind one another holds of those of each
pub all_left : {X : Type 0} (P : X → Type 0) (xs ys : List X) → All P (xs ++ ys) → All P xs
all_left P [] ys all = All-nil P
all_left P (x ∷ xs) ys all = All-cons P x xs (All-head P x (xs ++ ys) all) (all_left P xs ys (All-tail P x (xs ++ ys) all))

pub all_right : {X : Type 0} (P : X → Type 0) (xs ys : List X) → All P (xs ++ ys) → All P ys
all_right P [] ys all = all
all_right P (x ∷ xs) ys all = all_right P xs ys (All-tail P x (xs ++ ys) all)

-- what holds of all that is asked of a list holds of what is asked of each
asked_each : (P : Question → Type 0) (ask : ℕ → List Question) (numbers : List ℕ) (n : ℕ) → Contains numbers n → All P (flat_map ask numbers) → All P (ask n)
asked_each P ask [] n (k, within, is) all = absurd (omega (arith, within))
asked_each P ask (m ∷ numbers) n (zero, within, is) all = (let same : m ≡ n = is in rw (← same) (all_left P (ask m) (flat_map ask numbers) all))
asked_each P ask (m ∷ numbers) n (suc k, within, is) all = asked_each P ask numbers n (k, omega (arith, within), is) (all_right P (ask m) (flat_map ask numbers) all)

module _ (flat : Ruleset) (rooms other : Rooms) (name : IfName) (packet : Packet) (direction : Direction) (asked : All (SameRoom rooms other) (rooms_asked flat rooms name packet direction)) where
  abbrev here : ℕ → Bool
  here = hit flat rooms name packet direction

  abbrev there : ℕ → Bool
  there = hit flat other name packet direction

  abbrev inside : ℕ → Bool
  inside = is_inside (anchored flat name packet direction) flat.filter.anchors

  abbrev reached : ℕ
  reached = reach_by here flat.filter

  hit_by : (k : ℕ) (is_in : Bool) → inside k ≡ is_in → k < reached → there k ≡ here k
  unfolding visited reach
  hit_by k false shut below = and_left (inside k) (passes (matched flat other name packet direction k) (slice_get flat.filter.rules k)) shut ∙ sym (and_left (inside k) (passes (matched flat rooms name packet direction k) (slice_get flat.filter.rules k)) shut)
  hit_by k true lets below =
      let same = match_same flat rooms other name packet direction k (slice_get flat.filter.rules k) (asked_each (SameRoom rooms other) (asked_at flat name packet direction) (filter inside (numbers_below reached)) k (number_there inside reached k below lets) asked) in
      ap (λ (b : Bool). inside k && b) same

  hits_same : AgreeBelow reached here there
  hits_same k below = hit_by k (inside k) refl below

  stops_same : AgreeBelow reached (is_stop here flat.filter) (is_stop there flat.filter)
  stops_same k below = stop_same here there flat.filter.rules flat.filter.rules flat.filter.anchors flat.filter.anchors k (λ j within. hits_same j (omega (arith, within, below)))
      (own_same (slice_get flat.filter.rules k) (slice_get flat.filter.rules k) (here k) (there k) refl (hits_same k below)) refl

  reached_same : reach_by there flat.filter ≡ reached
  reached_same = (let first = first_kept (is_stop here flat.filter) (is_stop there flat.filter) (length flat.filter.rules) stops_same in rw first refl)

  walks : AreSameWalks here there inside inside reached (reach_by there flat.filter)
  walks = same_walks here there inside inside reached (reach_by there flat.filter) reached_same hits_same (λ k below. refl)

pub same_rooms : (flat : Ruleset) (rooms other : Rooms) (name : IfName) (packet : Packet) (direction : Direction) → All (SameRoom rooms other) (rooms_asked flat rooms name packet direction)
    → (deciding flat other name packet direction ≡ deciding flat rooms name packet direction) × (visited flat other name packet direction ≡ visited flat rooms name packet direction)
unfolding deciding reach visited
same_rooms flat rooms other name packet direction asked = walks flat rooms other name packet direction asked

-- ---- over one table

-- a hit is one over the same table
pub hit_over : (flat : Ruleset) (before after : StateTable) (name : IfName) (packet : Packet) (direction : Direction) (place : ℕ) (rule : FlatRule) (is_hit : Bool) → before ≡ after
    → is_hit ≡ matched flat (rooms_in before) name packet direction place rule → is_hit ≡ matched flat (rooms_in after) name packet direction place rule
hit_over flat before after name packet direction place rule is_hit same is = subst (λ (table : StateTable). is_hit ≡ matched flat (rooms_in table) name packet direction place rule) same is

-- ---- the rule that decides

both_true : (b c : Bool) → (b && c) ≡ true → c ≡ true
both_true true c is = is
both_true false c is = absurd cc

has_room_at : (flat : Ruleset) (rooms : Rooms) (name : IfName) (packet : Packet) (direction : Direction) (place most : ℕ) (rule : FlatRule) (found : Option FlatRule) → found ≡ Some rule → limit_for rule packet ≡ Some most
    → passes (matched flat rooms name packet direction place) found ≡ true → rooms place most ≡ true
has_room_at flat rooms name packet direction place most rule None at limit is = absurd cc
has_room_at flat rooms name packet direction place most rule (Some other) at limit is =
    let same : other ≡ rule = cc at in
    let room : has_room_by rooms place (limit_for other packet) ≡ true = both_true (ruled flat name packet direction other) (has_room_by rooms place (limit_for other packet)) is in
    subst (λ (bound : Option ℕ). has_room_by rooms place bound ≡ true) (ap (λ (r : FlatRule). limit_for r packet) same ∙ limit) room

-- a rule that decides has room
pub decides_with_room : (flat : Ruleset) (rooms : Rooms) (name : IfName) (packet : Packet) (direction : Direction) (place most : ℕ) (rule : FlatRule) → deciding flat rooms name packet direction ≡ Some place → slice_get flat.filter.rules place ≡ Some rule → limit_for rule packet ≡ Some most → rooms place most ≡ true
unfolding deciding reach
decides_with_room flat rooms name packet direction place most rule decides at limit =
    let last = last_within (hit flat rooms name packet direction) (reach_by (hit flat rooms name packet direction) flat.filter) place decides in
    has_room_at flat rooms name packet direction place most rule (slice_get flat.filter.rules place) at limit (both_true (is_inside (anchored flat name packet direction) flat.filter.anchors place) (passes (matched flat rooms name packet direction place) (slice_get flat.filter.rules place)) last.1)
