-- The loop of a walk.
use Rattle.std.proofs.Common.{◌≡◌, ◌∙◌, ◌<◌, ◌≤◌, ◌+◌, ◌&&◌, ◌||◌, ◌==◌, ◌⊎◌, inl, inr, ℕ, zero, suc, Bool, true, false, not, nat_le, if◌then◌else◌, List, [], ◌∷◌, ◌++◌, length, drop, Option, Some, None, ap, sym, subst, refl, arith}
use Rattle.std.specs.List.{All, Contains, slice_get, list_any, filter}
use Rattle.std.proofs.Math.Numerals.{add-one}
use Rattle.std.proofs.lemmas.Bool.{lt-leb, le-leb, leb-true, eqb-true, cases_lt}
use Rattle.std.proofs.lemmas.List.{append-nil}
use Rattle.std.proofs.lemmas.List.Elements.{All-nil, All-cons, All-head, All-tail, All-weaker, All-contains, Contains-append_left, Contains-append_right, Contains-push, filter-append}
use Rattle.std.proofs.lemmas.Option.{slice_get_within}
use Rattle.pfr_net.specs.declared.direction.Direction.{Direction}
use Rattle.pfr_net.specs.declared.interface.IfName.{IfName}
use Rattle.pfr_ruleset.specs.declared.flat.FlatRule.{FlatRule}
use Rattle.pfr_ruleset.specs.declared.flat.FlatAnchor.{FlatAnchor}
use Rattle.pfr_ruleset.specs.declared.filter_rules.RuleLists.{RuleLists}
use Rattle.pfr_ruleset.specs.Places.{IsPlaced, Follows, AreNested, AreWithin, ArePlaced}
use Rattle.pfr_ruleset.specs.declared.ruleset.Ruleset.{Ruleset}
use Rattle.pfr_headers.specs.declared.packet.Packet.{Packet}
use Rattle.pfr_rules.specs.Filter.{last_below, first_below, some_in, ends, is_inside, is_round, hits, is_quick, passes, is_stop, reach_by, begun, anchored as anchored_of, Rooms, matched as matched_of, reach, deciding, visited as visited_of}
use Rattle.pfr_rules.specs.Numbers.{numbers_below}
use Rattle.pfr_rules.proofs.Places.{and_both, last_within, last_skips, first_none, none_first, first_found, some_found}

-- an anchor isn't begun, or all behind it
abbrev pub IsAhead : ℕ → FlatAnchor → Type 0
IsAhead place a = (place ≤ a.first) ⊎ (a.last < place)

-- a walk that has come to a place, with the anchors from `next` on before it
pub record So (anchored : FlatAnchor → Bool) (matched : ℕ → FlatRule → Bool) (lists : RuleLists) (place next : ℕ) (decided : Option ℕ) (visits : List ℕ) : Type 0 where
  pub within : place ≤ length lists.rules
  pub few : next ≤ length lists.anchors
  pub no_stop : first_below (is_stop (hits anchored matched lists) lists) place ≡ None
  pub decides : decided ≡ last_below (hits anchored matched lists) place
  pub visited : visits ≡ filter (is_inside anchored lists.anchors) (numbers_below place)
  pub inside : (q : ℕ) → place ≤ q → is_inside anchored lists.anchors q ≡ is_inside anchored (drop next lists.anchors) q
  pub ahead : All (IsAhead place) (drop next lists.anchors)

-- a walk that ended: all is said of the rules that are reached
pub record Ended (anchored : FlatAnchor → Bool) (matched : ℕ → FlatRule → Bool) (lists : RuleLists) (decided : Option ℕ) (visits : List ℕ) : Type 0 where
  pub decides : decided ≡ last_below (hits anchored matched lists) (reach_by (hits anchored matched lists) lists)
  pub visited : visits ≡ filter (is_inside anchored lists.anchors) (numbers_below (reach_by (hits anchored matched lists) lists))
  pub within : (place : ℕ) → decided ≡ Some place → place < length lists.rules

-- ---- lists

-- the elements from a place on begin with the one there
pub drop_head : {X : Type 0} (xs : List X) (k : ℕ) (x : X) → slice_get xs k ≡ Some x → drop k xs ≡ x ∷ drop (k + 1) xs
drop_head [] k x is = absurd cc
drop_head (y ∷ xs) zero x is = (let same : y ≡ x = cc in rw same refl)
drop_head (y ∷ xs) (suc k) x is = (let e : suc k + 1 ≡ suc (k + 1) = omega arith in rw e (drop_head xs k x is))

pub nested_drop : (xs : List FlatAnchor) (k : ℕ) → AreNested xs → AreNested (drop k xs)
nested_drop xs zero nested = nested
nested_drop [] (suc k) nested = nested
nested_drop (x ∷ xs) (suc k) nested = nested_drop xs k nested.1

pub drop_past : {X : Type 0} (xs : List X) (k : ℕ) → slice_get xs k ≡ None → drop k xs ≡ []
drop_past [] zero is = refl
drop_past [] (suc k) is = refl
drop_past (x ∷ xs) zero is = absurd cc
drop_past (x ∷ xs) (suc k) is = drop_past xs k is

pub and_false : (b c : Bool) → c ≡ false → (b && c) ≡ false
and_false true c is = is
and_false false c is = refl

or_true : (b c : Bool) → c ≡ true → (b || c) ≡ true
or_true true c is = refl
or_true false c is = is

-- ---- anchors round a place

abbrev lets : (FlatAnchor → Bool) → ℕ → FlatAnchor → Bool
lets anchored q a = not (is_round a q) || anchored a

-- an anchor that ended before a place, or that holds, lets all in
lets_all : (anchored : FlatAnchor → Bool) (a : FlatAnchor) (place q : ℕ) → (a.last < place) ⊎ (anchored a ≡ true) → place ≤ q → lets anchored q a ≡ true
lets_all anchored a place q (inl behind) le =
    let past : nat_le q a.last ≡ false = lt-leb q a.last (omega (arith, behind, le)) in
    let outside : is_round a q ≡ false = and_false (nat_le a.first q) (nat_le q a.last) past in
    rw outside refl
lets_all anchored a place q (inr holds) le = or_true (not (is_round a q)) (anchored a) holds

-- anchors that begin behind a place say nothing of it
pub none_round : (anchored : FlatAnchor → Bool) (place : ℕ) (xs : List FlatAnchor) → All (λ b. place < b.first) xs → is_inside anchored xs place ≡ true
none_round anchored place [] behind = refl
none_round anchored place (b ∷ xs) behind =
    let first : nat_le b.first place ≡ false = lt-leb b.first place (All-head (λ b. place < b.first) b xs behind) in
    let rest = none_round anchored place xs (All-tail (λ b. place < b.first) b xs behind) in
    rw (first, rest) refl

-- no place of an anchor that doesn't hold is inside
shut : (anchored : FlatAnchor → Bool) (xs : List FlatAnchor) (a : FlatAnchor) (q : ℕ) → anchored a ≡ false → a.first ≤ q → q ≤ a.last → is_inside anchored (a ∷ xs) q ≡ false
shut anchored xs a q fails first last =
    let from : nat_le a.first q ≡ true = le-leb a.first q first in
    let upto : nat_le q a.last ≡ true = le-leb q a.last last in
    rw (from, upto, fails) refl

-- what comes next isn't begun
abbrev pub IsNext : ℕ → Option FlatAnchor → Type 0
IsNext place None = place ≡ place
IsNext place (Some a) = place < a.first

all_behind : (place : ℕ) (xs : List FlatAnchor) (next : ℕ) (found : Option FlatAnchor) → slice_get xs next ≡ found → IsNext place found → AreNested xs → All (λ b. place < b.first) (drop next xs)
all_behind place xs next None is ahead nested = rw (drop_past xs next is) (All-nil (λ b. place < b.first))
all_behind place xs next (Some a) is ahead nested =
    let head = drop_head xs next a is in
    let after : AreNested (a ∷ drop (next + 1) xs) = subst (λ ys. AreNested ys) head (nested_drop xs next nested) in
    rw head (All-cons (λ b. place < b.first) a (drop (next + 1) xs) ahead (All-weaker (Follows a) (λ b. place < b.first) (λ b p. omega (arith, ahead, p.0)) (drop (next + 1) xs) after.0))

-- ---- steps

none_begun : (xs : List FlatAnchor) → All (IsAhead 0) xs
none_begun [] = All-nil (IsAhead 0)
none_begun (a ∷ xs) = All-cons (IsAhead 0) a xs (inl (omega arith)) (none_begun xs)

pub so_start : (anchored : FlatAnchor → Bool) (matched : ℕ → FlatRule → Bool) (lists : RuleLists) → So anchored matched lists 0 0 None []
so_start anchored matched lists = record {
  within = omega arith;
  few = omega arith;
  no_stop = refl;
  decides = refl;
  visited = refl;
  inside = λ q le. refl;
  ahead = none_begun lists.anchors;
}

pub so_past : (anchored : FlatAnchor → Bool) (matched : ℕ → FlatRule → Bool) (lists : RuleLists) (place next : ℕ) (decided : Option ℕ) (visits : List ℕ) (a : FlatAnchor) → So anchored matched lists place next decided visits → slice_get lists.anchors next ≡ Some a → (a.last < place) ⊎ (anchored a ≡ true) → So anchored matched lists place (next + 1) decided visits
so_past anchored matched lists place next decided visits a s is holds =
    let head = drop_head lists.anchors next a is in
    let ahead : All (IsAhead place) (a ∷ drop (next + 1) lists.anchors) = subst (λ ys. All (IsAhead place) ys) head s.ahead in
    let below = slice_get_within lists.anchors next a is in
    record {
      within = s.within;
      few = omega (arith, below);
      no_stop = s.no_stop;
      decides = s.decides;
      visited = s.visited;
      inside = λ q le. (let lets_in = lets_all anchored a place q holds le in s.inside q le ∙ rw (head, lets_in) refl);
      ahead = All-tail (IsAhead place) a (drop (next + 1) lists.anchors) ahead;
    }

-- one place further, behind a rule that was visited
one_more : (p : ℕ → Bool) (place : ℕ) → p place ≡ true → filter p (numbers_below (place + 1)) ≡ filter p (numbers_below place) ++ place ∷ []
one_more p place is = (let e = add-one place in rw (e, filter-append p (numbers_below place) (place ∷ []), is) refl)

next_hit : (p : ℕ → Bool) (place : ℕ) → last_below p (place + 1) ≡ (if p place then Some place else last_below p place)
next_hit p place = (let e = add-one place in rw e refl)

hit_is : (anchored : FlatAnchor → Bool) (matched : ℕ → FlatRule → Bool) (lists : RuleLists) (place : ℕ) (rule : FlatRule) → slice_get lists.rules place ≡ Some rule → is_inside anchored lists.anchors place ≡ true → hits anchored matched lists place ≡ matched place rule
hit_is anchored matched lists place rule is inside = rw (is, inside) refl

no_stop_at : (p : ℕ → Bool) (place : ℕ) → first_below p place ≡ None → p place ≡ false → first_below p (place + 1) ≡ None
no_stop_at p place none fails = (let e = add-one place in rw (e, none, fails) refl)

-- what is known behind a visited rule, before it is asked whether the walk ends
pub record Visited (anchored : FlatAnchor → Bool) (matched : ℕ → FlatRule → Bool) (lists : RuleLists) (place next : ℕ) (decided : Option ℕ) (visits : List ℕ) : Type 0 where
  pub within : place < length lists.rules
  pub few : next ≤ length lists.anchors
  pub no_stop : first_below (is_stop (hits anchored matched lists) lists) place ≡ None
  pub decides : decided ≡ last_below (hits anchored matched lists) (place + 1)
  pub visited : visits ≡ filter (is_inside anchored lists.anchors) (numbers_below (place + 1))
  pub inside : (q : ℕ) → place + 1 ≤ q → is_inside anchored lists.anchors q ≡ is_inside anchored (drop next lists.anchors) q
  pub ahead : All (IsAhead (place + 1)) (drop next lists.anchors)

pub visit : (anchored : FlatAnchor → Bool) (matched : ℕ → FlatRule → Bool) (lists : RuleLists) (place next : ℕ) (decided : Option ℕ) (visits : List ℕ) (found : Option FlatAnchor) (rule : FlatRule) → So anchored matched lists place next decided visits → ArePlaced lists.rules lists.anchors → slice_get lists.anchors next ≡ found → IsNext place found → slice_get lists.rules place ≡ Some rule
    → Visited anchored matched lists place next (if matched place rule then Some place else decided) (visits ++ place ∷ [])
unfolding AreWithin
visit anchored matched lists place next decided visits found rule s placed is ahead at =
    let behind = all_behind place lists.anchors next found is ahead placed.1 in
    let inside : is_inside anchored lists.anchors place ≡ true = s.inside place (omega arith) ∙ none_round anchored place (drop next lists.anchors) behind in
    let hit = hit_is anchored matched lists place rule at inside in
    record {
      within = slice_get_within lists.rules place rule at;
      few = s.few;
      no_stop = s.no_stop;
      decides = rw s.decides (sym (next_hit (hits anchored matched lists) place ∙ rw hit refl));
      visited = rw s.visited (sym (one_more (is_inside anchored lists.anchors) place inside));
      inside = λ q le. s.inside q (omega (arith, le));
      ahead = All-weaker (λ b. place < b.first) (IsAhead (place + 1)) (λ b p. inl (omega (arith, p))) (drop next lists.anchors) behind;
    }

pub so_next : (anchored : FlatAnchor → Bool) (matched : ℕ → FlatRule → Bool) (lists : RuleLists) (place next : ℕ) (decided : Option ℕ) (visits : List ℕ) → Visited anchored matched lists place next decided visits → is_stop (hits anchored matched lists) lists place ≡ false → So anchored matched lists (place + 1) next decided visits
so_next anchored matched lists place next decided visits v on =
    let within = v.within in
    record {
      within = omega (arith, within);
      few = v.few;
      no_stop = no_stop_at (is_stop (hits anchored matched lists) lists) place v.no_stop on;
      decides = v.decides;
      visited = v.visited;
      inside = v.inside;
      ahead = v.ahead;
    }

pub ended_at : (anchored : FlatAnchor → Bool) (matched : ℕ → FlatRule → Bool) (lists : RuleLists) (place next : ℕ) (decided : Option ℕ) (visits : List ℕ) → Visited anchored matched lists place next decided visits → is_stop (hits anchored matched lists) lists place ≡ true → Ended anchored matched lists decided visits
ended_at anchored matched lists place next decided visits v stop =
    let first : first_below (is_stop (hits anchored matched lists) lists) (length lists.rules) ≡ Some place = first_found (is_stop (hits anchored matched lists) lists) place (length lists.rules) v.no_stop stop v.within in
    record {
      decides = rw first v.decides;
      visited = rw first v.visited;
      within = λ hit is. (let below = last_within (hits anchored matched lists) (place + 1) hit (sym v.decides ∙ is) in let within = v.within in omega (arith, below.0, within));
    }

pub ended_all : (anchored : FlatAnchor → Bool) (matched : ℕ → FlatRule → Bool) (lists : RuleLists) (place next : ℕ) (decided : Option ℕ) (visits : List ℕ) → So anchored matched lists place next decided visits → length lists.rules ≤ place → Ended anchored matched lists decided visits
ended_all anchored matched lists place next decided visits s all =
    let within = s.within in
    let same : place ≡ length lists.rules = omega (arith, all, within) in
    let none : first_below (is_stop (hits anchored matched lists) lists) (length lists.rules) ≡ None = rw (← same) s.no_stop in
    record {
      decides = rw (none, ← same) s.decides;
      visited = rw (none, ← same) s.visited;
      within = λ hit is. (let below = last_within (hits anchored matched lists) place hit (sym s.decides ∙ is) in omega (arith, below.0, within));
    }

-- ---- an anchor that doesn't hold

-- no rule of it hits
none_hit : (anchored : FlatAnchor → Bool) (matched : ℕ → FlatRule → Bool) (lists : RuleLists) (place next : ℕ) (decided : Option ℕ) (visits : List ℕ) (a : FlatAnchor) → So anchored matched lists place next decided visits → slice_get lists.anchors next ≡ Some a → a.first ≤ place → anchored a ≡ false
    → (q : ℕ) → place ≤ q → q ≤ a.last → is_inside anchored lists.anchors q ≡ false
none_hit anchored matched lists place next decided visits a s is first fails q from upto =
    let head = drop_head lists.anchors next a is in
    let shuts = shut anchored (drop (next + 1) lists.anchors) a q fails (omega (arith, first, from)) upto in
    s.inside q from ∙ rw head shuts

hit_inside : (anchored : FlatAnchor → Bool) (matched : ℕ → FlatRule → Bool) (lists : RuleLists) (q : ℕ) → is_inside anchored lists.anchors q ≡ false → hits anchored matched lists q ≡ false
hit_inside anchored matched lists q outside = rw outside refl

-- numbers at which the test fails add nothing
visits_skip : (p : ℕ → Bool) (n m : ℕ) → n ≤ m → ((k : ℕ) → n ≤ k → k < m → p k ≡ false) → filter p (numbers_below m) ≡ filter p (numbers_below n)
visits_skip p n zero le fails = let e : n ≡ zero = omega (arith, le) in rw e refl
visits_skip p n (suc m) le fails = elim (cases_lt n (suc m)) [
  | inl less ↦
      let here : p m ≡ false = fails m (omega (arith, less)) (omega arith) in
      let before = visits_skip p n m (omega (arith, less)) (λ k from upto. fails k from (omega (arith, upto))) in
      rw (filter-append p (numbers_below m) (m ∷ []), here, append-nil (filter p (numbers_below m))) before
  | inr same ↦ let e : n ≡ suc m = omega (arith, le, same) in rw e refl
]

-- where each place fails a test, so does the list
none_ends : (p : ℕ → FlatAnchor → Bool) (place : ℕ) (xs : List FlatAnchor) → ((b : FlatAnchor) → Contains xs b → p place b ≡ false) → list_any (p place) xs ≡ false
none_ends p place [] fails = refl
none_ends p place (b ∷ xs) fails =
    let first = fails b (Contains-append_left (b ∷ []) xs b (Contains-push [] b)) in
    let rest = none_ends p place xs (λ c there. fails c (Contains-append_right (b ∷ []) xs c there)) in
    rw (first, rest) refl

contains_at : {X : Type 0} (xs : List X) (i : ℕ) (x : X) → slice_get xs i ≡ Some x → Contains xs x
contains_at [] i x is = absurd cc
contains_at (y ∷ xs) zero x is = (let same : y ≡ x = cc in rw same (Contains-append_left (x ∷ []) xs x (Contains-push [] x)))
contains_at (y ∷ xs) (suc i) x is = Contains-append_right (y ∷ []) xs x (contains_at xs i x is)

-- an anchor that begins before another one ends behind it or before it
nested_pair : (xs : List FlatAnchor) (i : ℕ) (a b : FlatAnchor) → AreNested xs → slice_get xs i ≡ Some a → Contains xs b → b.first < a.first → (a.last ≤ b.last) ⊎ (b.last < a.first)
nested_pair [] i a b nested at there before = absurd cc
nested_pair (x ∷ xs) zero a b nested at (zero, within, is) before =
    let first : x ≡ a = cc in
    let same : x ≡ b = is in
    let e : a ≡ b = sym first ∙ same in
    let f : a.first ≡ b.first = ap (λ c. c.first) e in
    absurd (omega (arith, f, before))
nested_pair (x ∷ xs) zero a b nested at (suc k, within, is) before =
    let first : x ≡ a = cc in
    let follows : Follows x b = All-contains (Follows x) xs b nested.0 (k, omega (arith, within), is) in
    let f : x.first ≡ a.first = ap (λ c. c.first) first in
    let later = follows.0 in
    absurd (omega (arith, f, later, before))
nested_pair (x ∷ xs) (suc i) a b nested at (zero, within, is) before =
    let same : x ≡ b = is in
    let follows : Follows x a = All-contains (Follows x) xs a nested.0 (contains_at xs i a at) in
    rw (← same) follows.1
nested_pair (x ∷ xs) (suc i) a b nested at (suc k, within, is) before = nested_pair xs i a b nested.1 at (k, omega (arith, within), is) before

quick_fails : (quick at some : Bool) → (at ≡ true → some ≡ false) → (quick && (at && some)) ≡ false
quick_fails false at some fails = refl
quick_fails true false some fails = refl
quick_fails true true some fails = fails refl

not_true : (b : Bool) → (b ≡ true → ⊥) → b ≡ false
not_true true fails = absurd (fails refl)
not_true false fails = refl

or_fails : (b c : Bool) → b ≡ false → c ≡ false → (b || c) ≡ false
or_fails b c first second = rw (first, second) refl

-- no walk ends among the rules of an anchor that doesn't hold, but for the last one
module _ (anchored : FlatAnchor → Bool) (matched : ℕ → FlatRule → Bool) (lists : RuleLists) (place next : ℕ) (decided : Option ℕ) (visits : List ℕ) (a : FlatAnchor) (s : So anchored matched lists place next decided visits) (nested : AreNested lists.anchors) (at : slice_get lists.anchors next ≡ Some a) (first : a.first ≤ place) (last : place ≤ a.last) (fails : anchored a ≡ false) where
  abbrev hit : ℕ → Bool
  hit = hits anchored matched lists

  none : (q : ℕ) → place ≤ q → q ≤ a.last → hit q ≡ false
  none q from upto = hit_inside anchored matched lists q (none_hit anchored matched lists place next decided visits a s at first fails q from upto)

  head : drop next lists.anchors ≡ a ∷ drop (next + 1) lists.anchors
  head = drop_head lists.anchors next a at

  begins : IsAhead place a → place ≤ a.first
  begins (inl here) = here
  begins (inr past) = absurd (omega (arith, past, last))

  here : place ≤ a.first
  here = begins (All-head (IsAhead place) a (drop (next + 1) lists.anchors) (subst (λ ys. All (IsAhead place) ys) head s.ahead))

  no_quick : (q : ℕ) → place ≤ q → q < a.last → (b : FlatAnchor) → Contains lists.anchors b → b.last ≡ q → some_in hit b ≡ true → ⊥
  no_quick q from upto b there ends_at some =
      let found = some_found (λ k. nat_le b.first k && hit k) (b.last + 1) some in
      let both = and_both (nat_le b.first found.0) (hit found.0) found.2 in
      let begun = leb-true b.first found.0 both.0 in
      let below = found.1 in
      elim (cases_lt found.0 place) [
        | inl before ↦ elim (nested_pair lists.anchors next a b nested at there (let start = here in omega (arith, start, begun, before))) [
          | inl round ↦ omega (arith, round, ends_at, upto)
          | inr apart ↦ omega (arith, apart, first, from, ends_at)
        ]
        | inr inside ↦ (let misses = none found.0 (omega (arith, inside)) (omega (arith, below, ends_at, upto)) in let held = both.1 in absurd (cc (misses, held)))
      ]

  no_end : (q : ℕ) → place ≤ q → q < a.last → (b : FlatAnchor) → Contains lists.anchors b → ends hit q b ≡ false
  no_end q from upto b there = quick_fails b.is_quick (b.last == q) (some_in hit b) (λ same. not_true (some_in hit b) (λ some. no_quick q from upto b there (eqb-true b.last q same) some))

  stop_free : (q : ℕ) → place ≤ q → q < a.last → is_stop hit lists q ≡ false
  stop_free q from upto = or_fails (passes is_quick (slice_get lists.rules q) && hit q) (list_any (ends hit q) lists.anchors) (and_false (passes is_quick (slice_get lists.rules q)) (hit q) (none q from (omega (arith, upto)))) (none_ends (ends hit) q lists.anchors (no_end q from upto))

  no_stop_below : (k : ℕ) → k < a.last → is_stop hit lists k ≡ false
  no_stop_below k below = elim (cases_lt k place) [
    | inl before ↦ none_first (is_stop hit lists) place k s.no_stop before
    | inr behind ↦ stop_free k (omega (arith, behind)) below
  ]

  following : All (Follows a) (drop (next + 1) lists.anchors)
  following = (let after : AreNested (a ∷ drop (next + 1) lists.anchors) = subst (λ ys. AreNested ys) head (nested_drop lists.anchors next nested) in after.0)

  ahead_of : (b : FlatAnchor) → Follows a b → IsAhead (a.last + 1) b
  ahead_of b (begun, inl within) = inr (omega (arith, within))
  ahead_of b (begun, inr behind) = inl (omega (arith, behind))

  pub jump : a.last < length lists.rules → Visited anchored matched lists a.last (next + 1) decided visits
  jump within = record {
    within = within;
    few = (let below = slice_get_within lists.anchors next a at in omega (arith, below));
    no_stop = first_none (is_stop hit lists) a.last no_stop_below;
    decides = s.decides ∙ sym (last_skips hit place (a.last + 1) (omega (arith, last)) (λ k from upto. none k from (omega (arith, upto))));
    visited = s.visited ∙ sym (visits_skip (is_inside anchored lists.anchors) place (a.last + 1) (omega (arith, last)) (λ k from upto. none_hit anchored matched lists place next decided visits a s at first fails k from (omega (arith, upto))));
    inside = λ q le. (let lets_in = lets_all anchored a (a.last + 1) q (inl (omega arith)) le in s.inside q (omega (arith, le, last)) ∙ rw (head, lets_in) refl);
    ahead = All-weaker (Follows a) (IsAhead (a.last + 1)) ahead_of (drop (next + 1) lists.anchors) following;
  }

-- ---- what the loop's steps tell

begun_by : (a b : FlatAnchor) (place : ℕ) (test : Bool) → nat_le a.first place ≡ test → (if test then Some a else None) ≡ Some b → (Some a ≡ Some b) × (b.first ≤ place)
begun_by a b place true is found = (let same : a ≡ b = cc in (found, rw (← same) (leb-true a.first place is)))
begun_by a b place false is found = absurd cc

pub begun_some : (x : Option FlatAnchor) (a : FlatAnchor) (place : ℕ) → begun x place ≡ Some a → (x ≡ Some a) × (a.first ≤ place)
begun_some None a place is = absurd cc
begun_some (Some b) a place is = begun_by b a place (nat_le b.first place) refl is

pub placed_at : (rules : List FlatRule) (anchors : List FlatAnchor) (i : ℕ) (a : FlatAnchor) → ArePlaced rules anchors → slice_get anchors i ≡ Some a → IsPlaced (length rules) a
unfolding AreWithin
placed_at rules anchors i a placed at = All-contains (IsPlaced (length rules)) anchors a placed.0 (contains_at anchors i a at)

pub nested_of : (rules : List FlatRule) (anchors : List FlatAnchor) → ArePlaced rules anchors → AreNested anchors
unfolding AreWithin
nested_of rules anchors placed = placed.1

-- ---- what a walk says of a packet

pub ended_decides : (flat : Ruleset) (rooms : Rooms) (name : IfName) (packet : Packet) (direction : Direction) (decided : Option ℕ) (visits : List ℕ) → Ended (anchored_of flat name packet direction) (matched_of flat rooms name packet direction) flat.filter decided visits → decided ≡ deciding flat rooms name packet direction
unfolding deciding reach
ended_decides flat rooms name packet direction decided visits e = e.decides

pub ended_visits : (flat : Ruleset) (rooms : Rooms) (name : IfName) (packet : Packet) (direction : Direction) (decided : Option ℕ) (visits : List ℕ) → Ended (anchored_of flat name packet direction) (matched_of flat rooms name packet direction) flat.filter decided visits → visits ≡ visited_of flat rooms name packet direction
unfolding visited_of reach
ended_visits flat rooms name packet direction decided visits e = e.visited

-- a rule that was visited, by what the loop knows of it
pub visited_rule : (anchored : FlatAnchor → Bool) (matched : ℕ → FlatRule → Bool) (lists : RuleLists) (place next : ℕ) (decided new : Option ℕ) (visits more : List ℕ) (found : Option FlatAnchor) (rule : FlatRule) (is_hit : Bool) → So anchored matched lists place next decided visits → ArePlaced lists.rules lists.anchors → slice_get lists.anchors next ≡ found → IsNext place found → slice_get lists.rules place ≡ Some rule → is_hit ≡ matched place rule → new ≡ (if is_hit then Some place else decided) → more ≡ visits ++ place ∷ []
    → Visited anchored matched lists place next new more
visited_rule anchored matched lists place next decided new visits more found rule is_hit s placed is ahead at hit new_is more_is =
    rw (new_is, hit, more_is) (visit anchored matched lists place next decided visits found rule s placed is ahead at)
