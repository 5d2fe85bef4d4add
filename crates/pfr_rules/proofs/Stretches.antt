-- The jump of a walk over a stretch of rules that don't hold.
use Rattle.std.proofs.Common.{◌≡◌, ◌∙◌, ◌<◌, ◌≤◌, ◌+◌, ◌-◌, inl, inr, ℕ, Bool, true, false, if◌then◌else◌, List, [], ◌∷◌, ◌++◌, length, drop, Option, Some, None, append_assoc, sym, subst, refl, arith}
use Rattle.std.specs.List.{All, slice_get, slice_index_or, filter}
use Rattle.std.proofs.lemmas.Bool.{lt-leb, cases_lt}
use Rattle.std.proofs.lemmas.List.Elements.{All-nil, All-cons, All-weaker}
use Rattle.pfr_ruleset.specs.declared.flat.FlatRule.{FlatRule}
use Rattle.pfr_ruleset.specs.declared.flat.FlatAnchor.{FlatAnchor}
use Rattle.pfr_ruleset.specs.declared.filter_rules.RuleLists.{RuleLists}
use Rattle.pfr_ruleset.specs.Places.{Follows, AreNested, ArePlaced, HasOpenings}
use Rattle.pfr_rules.specs.Filter.{last_below, is_inside, hits, passes, is_stop, stops_by}
use Rattle.pfr_rules.specs.Numbers.{numbers_from, numbers_below}
use Rattle.pfr_rules.specs.Stretches.{NoneHolds, NoneStops, next_first}
use Rattle.pfr_rules.proofs.Numbers.{passed_on, one_behind}
use Rattle.pfr_rules.proofs.Places.{last_within, last_skips, first_none, none_first}
use Rattle.pfr_rules.proofs.Stops.{stop_is}
use Rattle.pfr_rules.proofs.Walking.{So, Visited, IsAhead, IsNext, drop_head, nested_drop, drop_past, and_false, none_round, nested_of, visited_rule}

-- ---- the next anchor

abbrev IsFrom : ℕ → Option FlatAnchor → Type 0
IsFrom to None = to ≡ to
IsFrom to (Some a) = to ≤ a.first

from_first : (found : Option FlatAnchor) (end to : ℕ) → to ≤ next_first found end → IsFrom to found
from_first None end to le = refl
from_first (Some a) end to le = omega (arith, le)

before_first : (found : Option FlatAnchor) (end to : ℕ) → to < next_first found end → IsNext to found
before_first None end to less = refl
before_first (Some a) end to less = omega (arith, less)

pub first_within : (found : Option FlatAnchor) (end : ℕ) → next_first found end ≤ end
first_within None end = omega arith
first_within (Some a) end = omega arith

all_from : (to : ℕ) (xs : List FlatAnchor) (next : ℕ) (found : Option FlatAnchor) → slice_get xs next ≡ found → IsFrom to found → AreNested xs → All (λ b. to ≤ b.first) (drop next xs)
all_from to xs next None is from nested = rw (drop_past xs next is) (All-nil (λ b. to ≤ b.first))
all_from to xs next (Some a) is from nested =
    let head = drop_head xs next a is in
    let after : AreNested (a ∷ drop (next + 1) xs) = subst (λ ys. AreNested ys) head (nested_drop xs next nested) in
    rw head (All-cons (λ b. to ≤ b.first) a (drop (next + 1) xs) from (All-weaker (Follows a) (λ b. to ≤ b.first) (λ b p. omega (arith, from, p.0)) (drop (next + 1) xs) after.0))

-- ---- the jump

-- an earlier hit ends no walk at a place whose opening isn't before it
no_stop_by : (p : ℕ → Bool) (place q opening : ℕ) (decided : Option ℕ) → last_below p place ≡ decided → place ≤ q → q ≤ opening → stops_by opening decided ≡ false
no_stop_by p place q opening None is from opens = refl
no_stop_by p place q opening (Some d) is from opens = (let below = last_within p place d is in lt-leb opening d (omega (arith, below.0, from, opens)))

-- a test that holds of no rule of which another one fails
abbrev pub IsStricter : (FlatRule → Bool) → (FlatRule → Bool) → Type 0
IsStricter ruled matched = (rule : FlatRule) → ruled rule ≡ false → matched rule ≡ false

fails_too : (ruled matched : FlatRule → Bool) (found : Option FlatRule) → IsStricter ruled matched → passes ruled found ≡ false → passes matched found ≡ false
fails_too ruled matched None holds fails = refl
fails_too ruled matched (Some rule) holds fails = holds rule fails

module _ (anchored : FlatAnchor → Bool) (ruled : FlatRule → Bool) (matched : ℕ → FlatRule → Bool) (holds : (q : ℕ) → IsStricter ruled (matched q)) (lists : RuleLists) (openings : List ℕ) (place next to : ℕ) (decided : Option ℕ) (visits : List ℕ) (found : Option FlatAnchor) (s : So anchored matched lists place next decided visits) (placed : ArePlaced lists.rules lists.anchors) (has : HasOpenings lists.rules lists.anchors openings) (is : slice_get lists.anchors next ≡ found) (from : place ≤ to) (upto : to ≤ next_first found (length lists.rules)) (small : to ≤ 18446744073709551615) (fails : NoneHolds ruled lists.rules place to) (stops : NoneStops lists place to) where
  abbrev hit : ℕ → Bool
  hit = hits anchored matched lists

  within : to ≤ length lists.rules
  within = (let first = first_within found (length lists.rules) in omega (arith, upto, first))

  behind : All (λ b. to ≤ b.first) (drop next lists.anchors)
  behind = all_from to lists.anchors next found is (from_first found (length lists.rules) to upto) (nested_of lists.rules lists.anchors placed)

  opens : (q : ℕ) → place ≤ q → q < to → q ≤ slice_index_or openings q 0
  opens q above below = (let all = within in subst (λ opening. q ≤ opening) (sym (has.each q (omega (arith, below, all)))) (stops q above below))

  inside : (q : ℕ) → place ≤ q → q < to → is_inside anchored lists.anchors q ≡ true
  inside q above below = s.inside q above ∙ none_round anchored q (drop next lists.anchors) (All-weaker (λ b. to ≤ b.first) (λ b. q < b.first) (λ b p. omega (arith, p, below)) (drop next lists.anchors) behind)

  misses : (q : ℕ) → place ≤ q → q < to → hit q ≡ false
  misses q above below = and_false (is_inside anchored lists.anchors q) (passes (matched q) (slice_get lists.rules q)) (fails_too ruled (matched q) (slice_get lists.rules q) (holds q) (fails q above below))

  stop_free : (q : ℕ) → place ≤ q → q < to → is_stop hit lists q ≡ false
  stop_free q above below =
      let last : last_below hit (q + 1) ≡ last_below hit place = last_skips hit place (q + 1) (omega (arith, above)) (λ k over under. misses k over (omega (arith, below, under))) in
      let all = within in
      let stop = stop_is hit lists openings q decided has (omega (arith, below, all)) (omega (arith, below, small)) (s.decides ∙ sym last) in
      sym stop ∙ no_stop_by hit place q _ decided (sym s.decides) above (opens q above below)

  no_stop_below : (k : ℕ) → k < to → is_stop hit lists k ≡ false
  no_stop_below k below = elim (cases_lt k place) [
    | inl before ↦ none_first (is_stop hit lists) place k s.no_stop before
    | inr above ↦ stop_free k (omega (arith, above)) below
  ]

  pub jump_open : So anchored matched lists to next decided (visits ++ numbers_from place (to - place))
  jump_open =
      let e : place + (to - place) ≡ to = omega (arith, from) in
      let on : filter (is_inside anchored lists.anchors) (numbers_below place) ++ numbers_from place (to - place) ≡ filter (is_inside anchored lists.anchors) (numbers_below (place + (to - place))) = passed_on (is_inside anchored lists.anchors) place (to - place) (λ q above below. inside q above (omega (arith, below, e))) in
      record {
        within = within;
        few = s.few;
        no_stop = first_none (is_stop hit lists) to no_stop_below;
        decides = s.decides ∙ sym (last_skips hit place to from misses);
        visited = rw s.visited (on ∙ rw e refl);
        inside = λ q le. s.inside q (omega (arith, from, le));
        ahead = All-weaker (λ b. to ≤ b.first) (IsAhead to) (λ b p. inl p) (drop next lists.anchors) behind;
      }

  -- the rule behind the stretch is visited too
  pub visit_behind : (new : Option ℕ) (more : List ℕ) (rule : FlatRule) (is_hit : Bool) → to < next_first found (length lists.rules) → slice_get lists.rules to ≡ Some rule → is_hit ≡ matched to rule → new ≡ (if is_hit then Some to else decided) → more ≡ visits ++ numbers_from place (to + 1 - place) → Visited anchored matched lists to next new more
  visit_behind new more rule is_hit less at holds new_is more_is =
      let more_on : more ≡ (visits ++ numbers_from place (to - place)) ++ to ∷ [] = more_is ∙ rw (one_behind place to from) (sym (append_assoc visits (numbers_from place (to - place)) (to ∷ []))) in
      visited_rule anchored matched lists to next decided new (visits ++ numbers_from place (to - place)) more found rule is_hit jump_open placed is (before_first found (length lists.rules) to less) at holds new_is more_on
