-- What stands behind a quick rule that hits changes nothing.
use Rattle.std.proofs.Common.{◌≡◌, ◌∙◌, ◌<◌, ◌≤◌, ◌+◌, ◌&&◌, ◌||◌, ◌==◌, inl, inr, ℕ, min, nat_le, Bool, true, false, not, List, [], ◌∷◌, length, Option, Some, sym, refl, arith}
use Rattle.std.specs.List.{slice_get, list_any, list_all}
use Rattle.std.proofs.lemmas.Bool.{cases_lt, eqb-true, ne_eqb, le-leb, lt-leb, leb-false}
use Rattle.std.proofs.lemmas.Option.{slice_get_within}
use Rattle.pfr_net.specs.declared.direction.Direction.{Direction}
use Rattle.pfr_net.specs.declared.interface.IfName.{IfName}
use Rattle.pfr_ruleset.specs.declared.flat.FlatRule.{FlatRule}
use Rattle.pfr_ruleset.specs.declared.flat.FlatAnchor.{FlatAnchor}
use Rattle.pfr_ruleset.specs.declared.ruleset.Ruleset.{Ruleset}
use Rattle.pfr_headers.specs.declared.packet.Packet.{Packet}
use Rattle.pfr_criteria.specs.Packets.{anchor_holds}
use Rattle.pfr_rules.specs.Filter.{Rooms, some_in, ends, is_inside, is_quick, is_round, is_stop, anchored, hit, passes, deciding, reach, reach_by, visited}
use Rattle.pfr_rules.specs.Laws.{GoesTheSameWay, IsSameUpTo, anchors_up_to, begins_by, cut_at}
use Rattle.pfr_rules.proofs.Agreeing.{AgreeBelow, AreSameWalks, and_left, and_right, by_place, first_moves, inside_same, none_below, own_same, same_walks, stop_same}

-- ---- tests of the anchors up to a place

-- a test of anchors says nothing of those that begin behind a place, and nothing of the rules there
module _ (p : FlatAnchor → Bool) (place : ℕ) (cut : (a : FlatAnchor) → begins_by place a ≡ true → p (cut_at place a) ≡ p a) where
  any_one : (a : FlatAnchor) (xs : List FlatAnchor) → (begins_by place a ≡ false → p a ≡ false) → list_any p (anchors_up_to place xs) ≡ list_any p xs → (b : Bool) → begins_by place a ≡ b → list_any p (anchors_up_to place (a ∷ xs)) ≡ list_any p (a ∷ xs)
  any_one a xs none rest true is = rw (is, cut a is, rest) refl
  any_one a xs none rest false is = rw (is, none is, rest) refl

  any_up_to : ((a : FlatAnchor) → begins_by place a ≡ false → p a ≡ false) → (xs : List FlatAnchor) → list_any p (anchors_up_to place xs) ≡ list_any p xs
  any_up_to none [] = refl
  any_up_to none (a ∷ xs) = any_one a xs (none a) (any_up_to none xs) (begins_by place a) refl

  all_one : (a : FlatAnchor) (xs : List FlatAnchor) → (begins_by place a ≡ false → p a ≡ true) → list_all p (anchors_up_to place xs) ≡ list_all p xs → (b : Bool) → begins_by place a ≡ b → list_all p (anchors_up_to place (a ∷ xs)) ≡ list_all p (a ∷ xs)
  all_one a xs none rest true is = rw (is, cut a is, rest) refl
  all_one a xs none rest false is = rw (is, none is, rest) refl

  all_up_to : ((a : FlatAnchor) → begins_by place a ≡ false → p a ≡ true) → (xs : List FlatAnchor) → list_all p (anchors_up_to place xs) ≡ list_all p xs
  all_up_to none [] = refl
  all_up_to none (a ∷ xs) = all_one a xs (none a) (all_up_to none xs) (begins_by place a) refl

-- ---- which anchors stand round a place

round_cut : (a : FlatAnchor) (place k : ℕ) → k ≤ place → is_round (cut_at place a) k ≡ is_round a k
round_cut a place k le = elim (cases_lt a.last k) [
  | inl before ↦
      let short : nat_le k (min a.last place) ≡ false = lt-leb k (min a.last place) (omega (arith, before)) in
      let long : nat_le k a.last ≡ false = lt-leb k a.last before in
      rw (short, long) refl
  | inr after ↦
      let short : nat_le k (min a.last place) ≡ true = le-leb k (min a.last place) (omega (arith, after, le)) in
      let long : nat_le k a.last ≡ true = le-leb k a.last after in
      rw (short, long) refl
]

round_behind : (a : FlatAnchor) (place k : ℕ) → k ≤ place → begins_by place a ≡ false → is_round a k ≡ false
round_behind a place k le is =
    let behind = leb-false a.first place is in
    and_left (nat_le a.first k) (nat_le k a.last) (lt-leb a.first k (omega (arith, behind, le)))

inside_up_to : (anchored : FlatAnchor → Bool) (place k : ℕ) (xs : List FlatAnchor) → ((a : FlatAnchor) → anchored (cut_at place a) ≡ anchored a) → k ≤ place → is_inside anchored (anchors_up_to place xs) k ≡ is_inside anchored xs k
inside_up_to anchored place k xs cut le = all_up_to (λ a. not (is_round a k) || anchored a) place
    (λ a is. (let round = round_cut a place k le in rw (round, cut a) refl))
    (λ a is. (let round = round_behind a place k le is in rw round refl)) xs

-- ---- which anchors end a walk before a place

-- one that ends before the place is left as it is, and no other ends a walk there
ends_cut : (p : ℕ → Bool) (place k : ℕ) (a : FlatAnchor) → k < place → ends p k (cut_at place a) ≡ ends p k a
ends_cut p place k a before = elim (cases_lt a.last place) [
  | inl within ↦ let whole : min a.last place ≡ a.last = omega (arith, within) in rw whole refl
  | inr beyond ↦
      let short : (min a.last place == k) ≡ false = ne_eqb (min a.last place) k (λ e. omega (arith, e, beyond, before)) in
      let long : (a.last == k) ≡ false = ne_eqb a.last k (λ e. omega (arith, e, beyond, before)) in
      rw (short, long) refl
]

ends_none_one : (p : ℕ → Bool) (k : ℕ) (a : FlatAnchor) → k < a.first → (at : Bool) → (a.last == k) ≡ at → (at && some_in p a) ≡ false
ends_none_one p k a before true is =
    let last = eqb-true a.last k is in
    none_below (λ j. nat_le a.first j && p j) (a.last + 1) (λ j below. and_left (nat_le a.first j) (p j) (lt-leb a.first j (omega (arith, below, last, before))))
ends_none_one p k a before false is = refl

ends_none : (p : ℕ → Bool) (place k : ℕ) (a : FlatAnchor) → k < place → begins_by place a ≡ false → ends p k a ≡ false
ends_none p place k a before is =
    let behind = leb-false a.first place is in
    and_right a.is_quick ((a.last == k) && some_in p a) (ends_none_one p k a (omega (arith, behind, before)) (a.last == k) refl)

ends_up_to : (p : ℕ → Bool) (place k : ℕ) (xs : List FlatAnchor) → k < place → list_any (ends p k) (anchors_up_to place xs) ≡ list_any (ends p k) xs
ends_up_to p place k xs before = any_up_to (ends p k) place (λ a is. ends_cut p place k a before) (λ a is. ends_none p place k a before is) xs

-- ---- a packet

own_stop : (found : Option FlatRule) (rule : FlatRule) (held rest : Bool) → found ≡ Some rule → rule.is_quick ≡ true → held ≡ true → ((passes is_quick found && held) || rest) ≡ true
own_stop found rule held rest at quick is = rw (at, quick, is) refl

module _ (flat other : Ruleset) (rooms : Rooms) (name : IfName) (packet : Packet) (direction : Direction) (place : ℕ) (rule : FlatRule) (at : slice_get flat.filter.rules place ≡ Some rule) (quick : rule.is_quick ≡ true) (held : hit flat rooms name packet direction place ≡ true) (s : IsSameUpTo place flat other) where
  abbrev here : ℕ → Bool
  here = hit flat rooms name packet direction

  abbrev there : ℕ → Bool
  there = hit other rooms name packet direction

  abbrev inside_here : ℕ → Bool
  inside_here = is_inside (anchored flat name packet direction) flat.filter.anchors

  abbrev inside_there : ℕ → Bool
  inside_there = is_inside (anchored other name packet direction) other.filter.anchors

  abbrev stops_here : ℕ → Bool
  stops_here = is_stop here flat.filter

  abbrev stops_there : ℕ → Bool
  stops_there = is_stop there other.filter

  anchor_cut : (a : FlatAnchor) → anchored flat name packet direction (cut_at place a) ≡ anchored flat name packet direction a
  unfolding anchor_holds
  anchor_cut a = refl

  inside_kept : AgreeBelow (place + 1) inside_here inside_there
  inside_kept k below =
      let le : k ≤ place = omega (arith, below) in
      inside_same (anchored flat name packet direction) (anchored other name packet direction) other.filter.anchors k (λ a. rw s.tables_are refl)
      ∙ sym (inside_up_to (anchored flat name packet direction) place k other.filter.anchors anchor_cut le)
      ∙ rw s.anchors_are (inside_up_to (anchored flat name packet direction) place k flat.filter.anchors anchor_cut le)

  hits_kept : AgreeBelow (place + 1) here there
  hits_kept k below =
      let inside = inside_kept k below in
      let rules = s.rules_are k (omega (arith, below)) in
      rw (inside, rules, s.tables_are) refl

  stops_before : AgreeBelow place stops_here stops_there
  stops_before k below =
      let own = own_same (slice_get flat.filter.rules k) (slice_get other.filter.rules k) (here k) (there k) (s.rules_are k (omega (arith, below))) (hits_kept k (omega (arith, below))) in
      let anchors : list_any (ends here k) other.filter.anchors ≡ list_any (ends here k) flat.filter.anchors =
      sym (ends_up_to here place k other.filter.anchors below) ∙ rw s.anchors_are (ends_up_to here place k flat.filter.anchors below) in
      stop_same here there flat.filter.rules other.filter.rules flat.filter.anchors other.filter.anchors k (λ j within. hits_kept j (omega (arith, within, below))) own anchors

  there_at : slice_get other.filter.rules place ≡ Some rule
  there_at = s.rules_are place (omega arith) ∙ at

  stop_here : stops_here place ≡ true
  stop_here = own_stop (slice_get flat.filter.rules place) rule (here place) (list_any (ends here place) flat.filter.anchors) at quick held

  stop_there : stops_there place ≡ true
  stop_there = own_stop (slice_get other.filter.rules place) rule (there place) (list_any (ends there place) other.filter.anchors) there_at quick (hits_kept place (omega arith) ∙ held)

  stops_kept : AgreeBelow (place + 1) stops_here stops_there
  stops_kept k below = elim (cases_lt k place) [
    | inl before ↦ stops_before k before
    | inr after ↦ let e : k ≡ place = omega (arith, below, after) in rw e (stop_there ∙ sym stop_here)
  ]

  walks : AreSameWalks here there inside_here inside_there (reach_by here flat.filter) (reach_by there other.filter)
  walks =
      let first = by_place stops_here (length flat.filter.rules) place (slice_get_within flat.filter.rules place rule at) stop_here in
      let stop = first.1 in
      let upto = first.2 in
      let within = slice_get_within other.filter.rules place rule there_at in
      let moved = first_moves stops_here stops_there (length flat.filter.rules) (length other.filter.rules) first.0 stop (omega (arith, upto, within)) (λ k below. stops_kept k (omega (arith, below, upto))) in
      same_walks here there inside_here inside_there (reach_by here flat.filter) (reach_by there other.filter) (rw (moved, stop) refl)
      (rw stop (λ k below. hits_kept k (omega (arith, below, upto)))) (rw stop (λ k below. inside_kept k (omega (arith, below, upto))))

pub same_way : (flat other : Ruleset) (rooms : Rooms) (name : IfName) (packet : Packet) (direction : Direction) (place : ℕ) (rule : FlatRule) → slice_get flat.filter.rules place ≡ Some rule → rule.is_quick ≡ true → hit flat rooms name packet direction place ≡ true → IsSameUpTo place flat other
    → GoesTheSameWay flat other rooms name packet direction
unfolding deciding reach visited
same_way flat other rooms name packet direction place rule at quick held s = (let both = walks flat other rooms name packet direction place rule at quick held s in record { decides = both.0; visits = both.1 })
