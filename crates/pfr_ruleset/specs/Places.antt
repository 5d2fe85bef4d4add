-- The places of anchors among the filter rules that they stand round.
use Rattle.std.specs.Prelude.{◌≡◌, ◌<◌, ◌≤◌, ◌&&◌, ◌==◌, ◌⊎◌, ⊤, ℕ, suc, ◌+◌, if◌then◌else◌, List, [], ◌∷◌, ◌++◌, length, map, min, fold, Option, Some, None}
use Rattle.std.specs.List.{All, slice_get, slice_index_or}
use Rattle.pfr_ruleset.specs.declared.flat.FlatRule.{FlatRule}
use Rattle.pfr_ruleset.specs.declared.flat.FlatAnchor.{FlatAnchor}
use Rattle.pfr_ruleset.specs.declared.filter_rules.RuleLists.{RuleLists}

-- each anchor's places are places of the rules
abbrev pub IsPlaced : ℕ → FlatAnchor → Type 0
IsPlaced size anchor = (anchor.first ≤ anchor.last) × (anchor.last < size)

-- of two anchors the later one stands in the other, or behind its last rule
abbrev pub Follows : FlatAnchor → FlatAnchor → Type 0
Follows a b = (a.first ≤ b.first) × ((b.last ≤ a.last) ⊎ (a.last < b.first))

-- anchors in the order of the text
abbrev pub AreNested : List FlatAnchor → Type 0
AreNested [] = ⊤
AreNested (a ∷ anchors) = All (Follows a) anchors × AreNested anchors

unfoldable pub AreWithin : ℕ → List FlatAnchor → Type 0
AreWithin size anchors = All (IsPlaced size) anchors × AreNested anchors

abbrev pub ArePlaced : List FlatRule → List FlatAnchor → Type 0
ArePlaced rules anchors = AreWithin (length rules) anchors

-- an anchor `places` rules further on
abbrev pub moved : ℕ → FlatAnchor → FlatAnchor
moved places anchor = record anchor { first = places + anchor.first; last = places + anchor.last }

-- rules, and the anchors round them, behind those that are there
abbrev pub joined : RuleLists → List FlatRule → List FlatAnchor → RuleLists
joined lists rules anchors = record { rules = lists.rules ++ rules; anchors = lists.anchors ++ map (moved (length lists.rules)) anchors }

-- ---- where a walk ends

-- the least place from which on a hit ends the walk at a place: a quick rule's own place, or the first place of a quick
-- anchor whose last rule stands there; else the greatest number of 64 bits
abbrev pub own_opening : FlatRule → ℕ → ℕ
own_opening rule place = if rule.is_quick then place else 18446744073709551615

abbrev pub opening_of : Option FlatRule → ℕ → ℕ
opening_of None place = 18446744073709551615
opening_of (Some rule) place = own_opening rule place

abbrev pub with_opening : ℕ → ℕ → FlatAnchor → ℕ
with_opening place opening anchor = if anchor.is_quick && anchor.last == place then min opening anchor.first else opening

abbrev pub opening_at : List FlatRule → List FlatAnchor → ℕ → ℕ
opening_at rules anchors place = fold (with_opening place) (opening_of (slice_get rules place) place) anchors

-- the opening of each place
pub record HasOpenings (rules : List FlatRule) (anchors : List FlatAnchor) (openings : List ℕ) : Type 0 where
  pub size : length openings ≡ length rules
  pub each : (place : ℕ) → place < length rules → slice_index_or openings place 0 ≡ opening_at rules anchors place

abbrev pub own_openings : ℕ → List FlatRule → List ℕ
own_openings place [] = []
own_openings place (rule ∷ rules) = own_opening rule place ∷ own_openings (suc place) rules

-- the openings of some places, lowered by anchors
abbrev pub AreOpened : List ℕ → List FlatAnchor → List ℕ → Type 0
AreOpened old anchors new = (place : ℕ) → place < length old → slice_index_or new place 0 ≡ fold (with_opening place) (slice_index_or old place 0) anchors
