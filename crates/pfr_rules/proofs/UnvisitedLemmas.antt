-- A rule that a packet doesn't visit may be any other, and one that doesn't match may be any other that doesn't.
use Rattle.std.proofs.Common.{◌≡◌, ◌≢◌, ◌∙◌, ◌⊎◌, ◌<◌, ◌&&◌, inl, inr, ℕ, zero, suc, Bool, true, false, [], ◌∷◌, length, Option, Some, None, sym, refl, arith}
use Rattle.std.specs.List.{Contains, slice_get, filter}
use Rattle.std.proofs.lemmas.Bool.{cases_eq, cases_lt}
use Rattle.std.proofs.lemmas.List.Elements.{Contains-append_left, Contains-push, filter-append}
use Rattle.pfr_net.specs.declared.direction.Direction.{Direction}
use Rattle.pfr_net.specs.declared.interface.IfName.{IfName}
use Rattle.pfr_ruleset.specs.declared.flat.FlatRule.{FlatRule}
use Rattle.pfr_ruleset.specs.declared.ruleset.Ruleset.{Ruleset}
use Rattle.pfr_headers.specs.declared.packet.Packet.{Packet}
use Rattle.pfr_rules.specs.Filter.{Rooms, has_room_by, is_inside, is_quick, is_stop, anchored, limit_for, matched, hit, passes, deciding, reach, reach_by, ruled, visited}
use Rattle.pfr_rules.specs.Laws.{GoesTheSameWay, IsSameBut}
use Rattle.pfr_rules.specs.Numbers.{numbers_below}
use Rattle.pfr_rules.proofs.Agreeing.{AgreeBelow, AreSameWalks, and_left, and_right, first_kept, inside_same, own_same, same_walks, stop_same}

-- a number below a bound is among those at which a test holds, if it does
pub number_there : (p : ℕ → Bool) (n k : ℕ) → k < n → p k ≡ true → Contains (filter p (numbers_below n)) k
number_there p zero k below held = absurd (omega (arith, below))
number_there p (suc n) k below held = elim (cases_lt k n) [
  | inl before ↦ rw (filter-append p (numbers_below n) (n ∷ [])) (Contains-append_left (filter p (numbers_below n)) (filter p (n ∷ [])) k (number_there p n k before held))
  | inr after ↦
      let e : n ≡ k = omega (arith, below, after) in
      let last : filter p (n ∷ []) ≡ k ∷ [] = rw (e, held) refl in
      rw (filter-append p (numbers_below n) (n ∷ []), last) (Contains-push (filter p (numbers_below n)) k)
]

neither : (a b c d : Bool) → b ≡ false → d ≡ false → (a && b) ≡ (c && d)
neither a b c d first second = and_right a b first ∙ sym (and_right c d second)

-- a test of two parts fails if the second one does
no_room : (found : Option FlatRule) (rule : FlatRule) (holds : FlatRule → Bool) (rooms : Rooms) (place most : ℕ) (packet : Packet) → found ≡ Some rule → limit_for rule packet ≡ Some most → rooms place most ≡ false
    → passes (λ r. holds r && has_room_by rooms place (limit_for r packet)) found ≡ false
no_room found rule holds rooms place most packet at limit none = rw (at, limit, none) (and_right (holds rule) false refl)

no_match : (found : Option FlatRule) (holds : FlatRule → Bool) (rooms : Rooms) (place : ℕ) (packet : Packet) → passes holds found ≡ false → passes (λ r. holds r && has_room_by rooms place (limit_for r packet)) found ≡ false
no_match None holds rooms place packet fails = refl
no_match (Some rule) holds rooms place packet fails = and_left (holds rule) (has_room_by rooms place (limit_for rule packet)) fails

module _ (flat other : Ruleset) (rooms : Rooms) (name : IfName) (packet : Packet) (direction : Direction) (place : ℕ) (s : IsSameBut place flat other) where
  abbrev here : ℕ → Bool
  here = hit flat rooms name packet direction

  abbrev there : ℕ → Bool
  there = hit other rooms name packet direction

  abbrev inside_here : ℕ → Bool
  inside_here = is_inside (anchored flat name packet direction) flat.filter.anchors

  abbrev inside_there : ℕ → Bool
  inside_there = is_inside (anchored other name packet direction) other.filter.anchors

  abbrev reached : ℕ
  reached = reach_by here flat.filter

  inside_kept : (k : ℕ) → inside_there k ≡ inside_here k
  inside_kept k =
      inside_same (anchored flat name packet direction) (anchored other name packet direction) other.filter.anchors k (λ a. rw s.tables_are refl)
      ∙ rw s.anchors_are refl

  -- another place, or one at which neither rule hits
  abbrev Apart : ℕ → Type 0
  Apart k = (k ≢ place) ⊎ ((here k ≡ false) × (there k ≡ false))

  hit_kept : (k : ℕ) → Apart k → there k ≡ here k
  hit_kept k (inl differs) =
      let inside = inside_kept k in
      let rules = s.rules_are k differs in
      rw (inside, rules, s.tables_are) refl
  hit_kept k (inr misses) = misses.1 ∙ sym misses.0

  own_kept : (k : ℕ) → Apart k → (passes is_quick (slice_get other.filter.rules k) && there k) ≡ (passes is_quick (slice_get flat.filter.rules k) && here k)
  own_kept k (inl differs) = own_same (slice_get flat.filter.rules k) (slice_get other.filter.rules k) (here k) (there k) (s.rules_are k differs) (hit_kept k (inl differs))
  own_kept k (inr misses) = neither (passes is_quick (slice_get other.filter.rules k)) (there k) (passes is_quick (slice_get flat.filter.rules k)) (here k) misses.1 misses.0

  module _ (apart : (k : ℕ) → k < reached → Apart k) where
    stops_kept : AgreeBelow reached (is_stop here flat.filter) (is_stop there other.filter)
    stops_kept k below = stop_same here there flat.filter.rules other.filter.rules flat.filter.anchors other.filter.anchors k
        (λ j within. hit_kept j (apart j (omega (arith, within, below)))) (own_kept k (apart k below)) (rw s.anchors_are refl)

    reached_kept : reach_by there other.filter ≡ reached
    reached_kept =
        let first = first_kept (is_stop here flat.filter) (is_stop there other.filter) (length flat.filter.rules) stops_kept in
        rw (s.number_is, first) refl

    walks : AreSameWalks here there inside_here inside_there reached (reach_by there other.filter)
    walks = same_walks here there inside_here inside_there reached (reach_by there other.filter) reached_kept (λ k below. hit_kept k (apart k below)) (λ k below. inside_kept k)

    goes : GoesTheSameWay flat other rooms name packet direction
    unfolding deciding reach visited
    goes = record { decides = walks.0; visits = walks.1 }

  -- ---- a rule that isn't visited

  shut_out : (Contains (visited flat rooms name packet direction) place → ⊥) → (inside : Bool) → inside_here place ≡ inside → place < reached → inside_here place ≡ false
  unfolding visited reach
  shut_out unvisited true is below = absurd (unvisited (number_there inside_here reached place below is))
  shut_out unvisited false is below = is

  no_hits : (k : ℕ) → inside_here k ≡ false → (here k ≡ false) × (there k ≡ false)
  no_hits k shut = (
    and_left (inside_here k) (passes (matched flat rooms name packet direction k) (slice_get flat.filter.rules k)) shut,
    and_left (inside_there k) (passes (matched other rooms name packet direction k) (slice_get other.filter.rules k)) (inside_kept k ∙ shut),
  )

  unvisited_apart : (Contains (visited flat rooms name packet direction) place → ⊥) → (k : ℕ) → k < reached → Apart k
  unvisited_apart unvisited k below = elim (cases_eq k place) [
    | inl same ↦ inr (no_hits k (rw same (shut_out unvisited (inside_here place) refl (rw same at below))))
    | inr differs ↦ inl differs
  ]

  -- ---- a rule without room

  full_apart : (here place ≡ false) × (there place ≡ false) → (k : ℕ) → k < reached → Apart k
  full_apart misses k below = elim (cases_eq k place) [
    | inl same ↦ inr (rw same misses)
    | inr differs ↦ inl differs
  ]

pub same_way : (flat other : Ruleset) (rooms : Rooms) (name : IfName) (packet : Packet) (direction : Direction) (place : ℕ) → (Contains (visited flat rooms name packet direction) place → ⊥) → IsSameBut place flat other → GoesTheSameWay flat other rooms name packet direction
same_way flat other rooms name packet direction place unvisited s = goes flat other rooms name packet direction place s (unvisited_apart flat other rooms name packet direction place s unvisited)

pub lets_by : (flat other : Ruleset) (rooms : Rooms) (name : IfName) (packet : Packet) (direction : Direction) (place most : ℕ) (rule : FlatRule) → slice_get flat.filter.rules place ≡ Some rule → limit_for rule packet ≡ Some most → rooms place most ≡ false → IsSameBut place flat other
    → passes (ruled other name packet direction) (slice_get other.filter.rules place) ≡ false → GoesTheSameWay flat other rooms name packet direction
lets_by flat other rooms name packet direction place most rule at limit none s fails =
    let here : hit flat rooms name packet direction place ≡ false = and_right (is_inside (anchored flat name packet direction) flat.filter.anchors place) (passes (matched flat rooms name packet direction place) (slice_get flat.filter.rules place)) (no_room (slice_get flat.filter.rules place) rule (ruled flat name packet direction) rooms place most packet at limit none) in
    let there : hit other rooms name packet direction place ≡ false = and_right (is_inside (anchored other name packet direction) other.filter.anchors place) (passes (matched other rooms name packet direction place) (slice_get other.filter.rules place)) (no_match (slice_get other.filter.rules place) (ruled other name packet direction) rooms place packet fails) in
    goes flat other rooms name packet direction place s (full_apart flat other rooms name packet direction place s (here, there))
