-- One anchor for another if no rule in it hits, and what an anchor shuts out.
use Rattle.std.proofs.Common.{◌≡◌, ◌∙◌, ◌≤◌, ◌+◌, ◌&&◌, ◌||◌, ◌==◌, inl, inr, ℕ, zero, suc, nat_le, Bool, true, false, not, List, [], ◌∷◌, ◌++◌, length, ap, sym, refl, arith}
use Rattle.std.specs.List.{Contains, slice_get, list_any, list_all, filter}
use Rattle.std.proofs.lemmas.Bool.{cases_lt, leb-true, le-leb, lt-leb}
use Rattle.std.proofs.lemmas.List.Elements.{All-contains, filter_passes}
use Rattle.pfr_net.specs.declared.direction.Direction.{Direction}
use Rattle.pfr_net.specs.declared.interface.IfName.{IfName}
use Rattle.pfr_ruleset.specs.declared.flat.FlatAnchor.{FlatAnchor}
use Rattle.pfr_ruleset.specs.declared.ruleset.Ruleset.{Ruleset}
use Rattle.pfr_headers.specs.declared.packet.Packet.{Packet}
use Rattle.pfr_criteria.specs.Packets.{anchor_holds}
use Rattle.pfr_rules.specs.Filter.{Rooms, last_below, some_in, ends, is_inside, is_round, is_stop, anchored, matched, hit, passes, deciding, reach, reach_by, visited}
use Rattle.pfr_rules.specs.Laws.{GoesTheSameWay, IsSameButAnchor, NoneHits, PassesBy, asking_like, quick_or_not}
use Rattle.pfr_rules.specs.Numbers.{numbers_below}
use Rattle.pfr_rules.proofs.Agreeing.{AreSameWalks, and_left, and_right, first_kept, inside_same, last_same, none_below, own_same, same_walks, stop_same}
use Rattle.pfr_rules.proofs.Places.{last_within}

-- ---- lists with one element for another

any_for : (p : FlatAnchor → Bool) (a b : FlatAnchor) (before behind : List FlatAnchor) → p b ≡ p a → list_any p (before ++ b ∷ behind) ≡ list_any p (before ++ a ∷ behind)
any_for p a b [] behind same = rw same refl
any_for p a b (x ∷ before) behind same = (let rest = any_for p a b before behind same in rw rest refl)

all_for : (p : FlatAnchor → Bool) (a b : FlatAnchor) (before behind : List FlatAnchor) → p b ≡ p a → list_all p (before ++ b ∷ behind) ≡ list_all p (before ++ a ∷ behind)
all_for p a b [] behind same = rw same refl
all_for p a b (x ∷ before) behind same = (let rest = all_for p a b before behind same in rw rest refl)

-- ---- one anchor for another

-- an anchor says nothing of a place that it doesn't stand round
not_round : (round x y : Bool) → round ≡ false → (not round || x) ≡ (not round || y)
not_round round x y is = rw is refl

module _ (flat other : Ruleset) (rooms : Rooms) (name : IfName) (packet : Packet) (direction : Direction) (a b : FlatAnchor) (s : IsSameButAnchor a b flat other) where
  abbrev here : ℕ → Bool
  here = hit flat rooms name packet direction

  abbrev there : ℕ → Bool
  there = hit other rooms name packet direction

  abbrev inside_here : ℕ → Bool
  inside_here = is_inside (anchored flat name packet direction) flat.filter.anchors

  abbrev inside_there : ℕ → Bool
  inside_there = is_inside (anchored other name packet direction) other.filter.anchors

  -- whether an anchor lets in a place
  abbrev lets_in : ℕ → FlatAnchor → Bool
  lets_in k x = not (is_round x k) || anchored flat name packet direction x

  inside_kept : (k : ℕ) → lets_in k b ≡ lets_in k a → inside_there k ≡ inside_here k
  inside_kept k same =
      inside_same (anchored flat name packet direction) (anchored other name packet direction) other.filter.anchors k (λ x. rw s.tables_are refl)
      ∙ ap (list_all (lets_in k)) s.others_are ∙ all_for (lets_in k) a b s.before s.behind same ∙ sym (ap (list_all (lets_in k)) s.anchors_are)

  hit_kept : (k : ℕ) → inside_there k ≡ inside_here k → there k ≡ here k
  hit_kept k inside = rw (inside, s.rules_are, s.tables_are) refl

  -- all hits are the same, and which places the anchor ends
  module _ (hits : (k : ℕ) → there k ≡ here k) (alike : (k : ℕ) → ends here k b ≡ ends here k a) where
    stops_kept : (k : ℕ) → is_stop there other.filter k ≡ is_stop here flat.filter k
    stops_kept k =
        let own = own_same (slice_get flat.filter.rules k) (slice_get other.filter.rules k) (here k) (there k) (ap (λ rules. slice_get rules k) s.rules_are) (hits k) in
        let anchors : list_any (ends here k) other.filter.anchors ≡ list_any (ends here k) flat.filter.anchors =
        ap (list_any (ends here k)) s.others_are ∙ any_for (ends here k) a b s.before s.behind (alike k) ∙ sym (ap (list_any (ends here k)) s.anchors_are) in
        stop_same here there flat.filter.rules other.filter.rules flat.filter.anchors other.filter.anchors k (λ j within. hits j) own anchors

    reached_kept : reach_by there other.filter ≡ reach_by here flat.filter
    reached_kept =
        let number : length other.filter.rules ≡ length flat.filter.rules = ap length s.rules_are in
        let first = first_kept (is_stop here flat.filter) (is_stop there other.filter) (length flat.filter.rules) (λ k below. stops_kept k) in
        rw (number, first) refl

-- ---- an anchor that is quick or not

and_none : (b c : Bool) → (b ≡ true → c ≡ false) → (b && c) ≡ false
and_none true c none = none refl
and_none false c none = refl

none_in : (p : ℕ → Bool) (a : FlatAnchor) → ((k : ℕ) → a.first ≤ k → k ≤ a.last → p k ≡ false) → some_in p a ≡ false
none_in p a none = none_below (λ k. nat_le a.first k && p k) (a.last + 1) (λ k below. and_none (nat_le a.first k) (p k) (λ from. none k (leb-true a.first k from) (omega (arith, below))))

-- an anchor in which no rule hits ends nowhere
ends_nowhere : (p : ℕ → Bool) (k : ℕ) (a : FlatAnchor) → some_in p a ≡ false → ends p k a ≡ false
ends_nowhere p k a none = and_right a.is_quick (a.last == k && some_in p a) (and_right (a.last == k) (some_in p a) none)

module _ (flat other : Ruleset) (rooms : Rooms) (name : IfName) (packet : Packet) (direction : Direction) (anchor : FlatAnchor) (quick : Bool) (none : NoneHits anchor flat rooms name packet direction) (s : IsSameButAnchor anchor (quick_or_not quick anchor) flat other) where
  insides_quick : (k : ℕ) → is_inside (anchored other name packet direction) other.filter.anchors k ≡ is_inside (anchored flat name packet direction) flat.filter.anchors k
  unfolding anchor_holds
  insides_quick k = inside_kept flat other rooms name packet direction anchor (quick_or_not quick anchor) s k refl

  hits_quick : (k : ℕ) → hit other rooms name packet direction k ≡ hit flat rooms name packet direction k
  hits_quick k = hit_kept flat other rooms name packet direction anchor (quick_or_not quick anchor) s k (insides_quick k)

  nowhere : some_in (hit flat rooms name packet direction) anchor ≡ false
  nowhere = none_in (hit flat rooms name packet direction) anchor none

  ends_quick : (k : ℕ) → ends (hit flat rooms name packet direction) k (quick_or_not quick anchor) ≡ ends (hit flat rooms name packet direction) k anchor
  ends_quick k = ends_nowhere (hit flat rooms name packet direction) k (quick_or_not quick anchor) nowhere ∙ sym (ends_nowhere (hit flat rooms name packet direction) k anchor nowhere)

  reached_quick : reach_by (hit other rooms name packet direction) other.filter ≡ reach_by (hit flat rooms name packet direction) flat.filter
  reached_quick = reached_kept flat other rooms name packet direction anchor (quick_or_not quick anchor) s hits_quick ends_quick

  walks_quick : AreSameWalks (hit flat rooms name packet direction) (hit other rooms name packet direction) (is_inside (anchored flat name packet direction) flat.filter.anchors) (is_inside (anchored other name packet direction) other.filter.anchors) (reach_by (hit flat rooms name packet direction) flat.filter) (reach_by (hit other rooms name packet direction) other.filter)
  walks_quick = same_walks (hit flat rooms name packet direction) (hit other rooms name packet direction) (is_inside (anchored flat name packet direction) flat.filter.anchors) (is_inside (anchored other name packet direction) other.filter.anchors)
      (reach_by (hit flat rooms name packet direction) flat.filter) (reach_by (hit other rooms name packet direction) other.filter) reached_quick (λ k below. hits_quick k) (λ k below. insides_quick k)

pub quick_says_nothing : (flat other : Ruleset) (rooms : Rooms) (name : IfName) (packet : Packet) (direction : Direction) (anchor : FlatAnchor) (quick : Bool) → NoneHits anchor flat rooms name packet direction → IsSameButAnchor anchor (quick_or_not quick anchor) flat other
    → GoesTheSameWay flat other rooms name packet direction
unfolding deciding reach visited
quick_says_nothing flat other rooms name packet direction anchor quick none s = (let both = walks_quick flat other rooms name packet direction anchor quick none s in record { decides = both.0; visits = both.1 })

-- ---- an anchor that asks for something else

module _ (flat other : Ruleset) (rooms : Rooms) (name : IfName) (packet : Packet) (direction : Direction) (anchor asked : FlatAnchor) (none_here : NoneHits anchor flat rooms name packet direction) (none_there : NoneHits anchor other rooms name packet direction) (s : IsSameButAnchor anchor (asking_like asked anchor) flat other) where
  -- a place that the anchor doesn't stand round
  kept_outside : (k : ℕ) → is_round anchor k ≡ false → hit other rooms name packet direction k ≡ hit flat rooms name packet direction k
  kept_outside k outside = hit_kept flat other rooms name packet direction anchor (asking_like asked anchor) s k
      (inside_kept flat other rooms name packet direction anchor (asking_like asked anchor) s k
      (not_round (is_round anchor k) (anchored flat name packet direction (asking_like asked anchor)) (anchored flat name packet direction anchor) outside))

  hits_asked : (k : ℕ) → hit other rooms name packet direction k ≡ hit flat rooms name packet direction k
  hits_asked k = elim (cases_lt k anchor.first) [
    | inl before ↦ kept_outside k (and_left (nat_le anchor.first k) (nat_le k anchor.last) (lt-leb anchor.first k before))
    | inr from ↦ elim (cases_lt anchor.last k) [
      | inl behind ↦ kept_outside k (and_right (nat_le anchor.first k) (nat_le k anchor.last) (lt-leb k anchor.last behind))
      | inr within ↦ none_there k from within ∙ sym (none_here k from within)
    ]
  ]

  reached_asked : reach_by (hit other rooms name packet direction) other.filter ≡ reach_by (hit flat rooms name packet direction) flat.filter
  reached_asked = reached_kept flat other rooms name packet direction anchor (asking_like asked anchor) s hits_asked (λ k. refl)

  decides_asked : last_below (hit other rooms name packet direction) (reach_by (hit other rooms name packet direction) other.filter) ≡ last_below (hit flat rooms name packet direction) (reach_by (hit flat rooms name packet direction) flat.filter)
  decides_asked = ap (last_below (hit other rooms name packet direction)) reached_asked ∙ last_same (reach_by (hit flat rooms name packet direction) flat.filter) (hit flat rooms name packet direction) (hit other rooms name packet direction) (λ k below. hits_asked k)

pub same_decides : (flat other : Ruleset) (rooms : Rooms) (name : IfName) (packet : Packet) (direction : Direction) (anchor asked : FlatAnchor) → NoneHits anchor flat rooms name packet direction → NoneHits anchor other rooms name packet direction → IsSameButAnchor anchor (asking_like asked anchor) flat other
    → deciding other rooms name packet direction ≡ deciding flat rooms name packet direction
unfolding deciding reach
same_decides flat other rooms name packet direction anchor asked none_here none_there s = decides_asked flat other rooms name packet direction anchor asked none_here none_there s

-- ---- an anchor that doesn't hold

all_fails : {X : Type 0} (p : X → Bool) (xs : List X) (x : X) → Contains xs x → p x ≡ false → list_all p xs ≡ false
all_fails p [] x (k, within, is) fails = absurd (omega (arith, within))
all_fails p (y ∷ xs) x (zero, within, is) fails = (let first : p y ≡ false = rw is fails in and_left (p y) (list_all p xs) first)
all_fails p (y ∷ xs) x (suc k, within, is) fails = and_right (p y) (list_all p xs) (all_fails p xs x (k, omega (arith, within), is) fails)

not_in : (round holds : Bool) → round ≡ true → holds ≡ false → (not round || holds) ≡ false
not_in round holds is fails = rw (is, fails) refl

shut_out : (flat : Ruleset) (name : IfName) (packet : Packet) (direction : Direction) (anchor : FlatAnchor) (place : ℕ) → Contains flat.filter.anchors anchor → anchor_holds anchor name flat.tables packet direction ≡ false → anchor.first ≤ place → place ≤ anchor.last
    → is_inside (anchored flat name packet direction) flat.filter.anchors place ≡ false
shut_out flat name packet direction anchor place among fails from to =
    let above : nat_le anchor.first place ≡ true = le-leb anchor.first place from in
    let below : nat_le place anchor.last ≡ true = le-leb place anchor.last to in
    let round : is_round anchor place ≡ true = rw (above, below) refl in
    all_fails (λ x. not (is_round x place) || anchored flat name packet direction x) flat.filter.anchors anchor among (not_in (is_round anchor place) (anchored flat name packet direction anchor) round fails)

pub passes_by : (flat : Ruleset) (rooms : Rooms) (name : IfName) (packet : Packet) (direction : Direction) (anchor : FlatAnchor) (place : ℕ) → Contains flat.filter.anchors anchor → anchor_holds anchor name flat.tables packet direction ≡ false → anchor.first ≤ place → place ≤ anchor.last
    → PassesBy flat rooms name packet direction place
unfolding deciding reach visited
passes_by flat rooms name packet direction anchor place among fails from to =
    let inside = is_inside (anchored flat name packet direction) flat.filter.anchors in
    let reached = reach_by (hit flat rooms name packet direction) flat.filter in
    let out : inside place ≡ false = shut_out flat name packet direction anchor place among fails from to in
    let missed : hit flat rooms name packet direction place ≡ false = and_left (inside place) (passes (matched flat rooms name packet direction place) (slice_get flat.filter.rules place)) out in
    record {
      decides = λ is. (let last = last_within (hit flat rooms name packet direction) reached place is in let held = last.1 in absurd (cc (held, missed)));
      visits = λ there. (let held : inside place ≡ true = All-contains (λ k. inside k ≡ true) (filter inside (numbers_below reached)) place (filter_passes inside (numbers_below reached)) there in absurd (cc (held, out)));
    }
