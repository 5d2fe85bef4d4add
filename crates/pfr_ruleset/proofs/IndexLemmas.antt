-- Skips and open ends, from the ends of runs.
use Rattle.std.proofs.Common.{◌≡◌, ◌<◌, ◌≤◌, ◌+◌, ◌∙◌, ℕ, suc, Bool, false, List, length, Option, Some, None, ap, sym, subst, refl, inl, inr, arith}
use Rattle.std.specs.List.{slice_get, slice_index_or, slice_set}
use Rattle.std.proofs.lemmas.Bool.{cases_lt}
use Rattle.std.proofs.Math.ListN.{get_or}
use Rattle.std.proofs.lemmas.List.{length-set, get_or-set_same, get_or-set_other}
use Rattle.std.proofs.lemmas.Option.{slice_get_within, slice_get_past, slice_get-get_or, get_or_from_slice_get}
use Rattle.pfr_chains.specs.Runs.{AreRunEnds}
use Rattle.pfr_ruleset.specs.declared.criterion.Asked.{Asked}
use Rattle.pfr_ruleset.specs.declared.criterion.Criterion.{Criterion}
use Rattle.pfr_ruleset.specs.declared.criterion.Criterion.TheVariants as criterion
use Rattle.pfr_ruleset.specs.Criteria.{SameAt, IsSkip}
use Rattle.pfr_ruleset.specs.declared.skips.RuleSkips.{RuleSkips}
use Rattle.pfr_ruleset.specs.Skipping.{GoesOn, HasSkips, HaveSkipsFrom, skip_at}
use Rattle.pfr_ruleset.specs.Indexes.{AreClosings, AreOpenEnds}

-- the closings below a place are right
pub record AreClosedBelow (bound : ℕ) (openings : List ℕ) (closings : List Bool) : Type 0 where
  pub size : length closings ≡ bound
  pub each : (k : ℕ) → k < bound → slice_index_or closings k false ≡ false → k ≤ slice_index_or openings k 0

-- ---- skips

same_self : (c : Criterion) (a : Asked) → SameAt c a a
same_self criterion.Interface a = refl
same_self criterion.Direction a = refl
same_self criterion.Protocol a = refl
same_self criterion.Source a = refl
same_self criterion.SourcePort a = refl
same_self criterion.Destination a = refl
same_self criterion.DestinationPort a = refl

same_on : (c : Criterion) (a b d : Asked) → SameAt c a b → SameAt c b d → SameAt c a d
same_on criterion.Interface a b d first second = first ∙ second
same_on criterion.Direction a b d first second = first ∙ second
same_on criterion.Protocol a b d first second = first ∙ second
same_on criterion.Source a b d first second = first ∙ second
same_on criterion.SourcePort a b d first second = first ∙ second
same_on criterion.Destination a b d first second = first ∙ second
same_on criterion.DestinationPort a b d first second = first ∙ second

same_back : (c : Criterion) (a b : Asked) → SameAt c a b → SameAt c b a
same_back criterion.Interface a b same = sym same
same_back criterion.Direction a b same = sym same
same_back criterion.Protocol a b same = sym same
same_back criterion.Source a b same = sym same
same_back criterion.SourcePort a b same = sym same
same_back criterion.Destination a b same = sym same
same_back criterion.DestinationPort a b same = sym same

same_twice : (c : Criterion) (a b : Asked) (found : Option Asked) → found ≡ Some a → found ≡ Some b → SameAt c a b
same_twice c a b found first second = let e : Some a ≡ Some b = sym first ∙ second in subst (λ d. SameAt c a d) (is_same e) (same_self c a)
  where
    is_same : {a b : Asked} → Some a ≡ Some b → a ≡ b
    is_same e = cc

goes_some : (c : Criterion) (a : Asked) (next : Option Asked) → GoesOn c a next → (b : Asked) × (next ≡ Some b) × SameAt c a b
goes_some c a None goes = absurd goes
goes_some c a (Some b) goes = (b, refl, goes)

-- the next rule writes something else, or there is none
pub skip_to_next : (c : Criterion) (asked : List Asked) (place : ℕ) (a : Asked) → place < length asked → slice_get asked place ≡ Some a → (GoesOn c a (slice_get asked (place + 1)) → ⊥) → IsSkip c asked place (place + 1)
skip_to_next c asked place a within here ends = record {
  ahead = omega arith;
  within = omega (arith, within);
  same = λ k d b from below first found.
      let e : k ≡ place = omega (arith, from, below) in
      same_twice c d b (slice_get asked place) first (subst (λ p. slice_get asked p ≡ Some b) e found);
  other = λ d b first found same. ends (subst (GoesOn c a) (sym found) (same_on c a d b (same_twice c a d (slice_get asked place) here first) same));
}

skip_behind : (c : Criterion) (asked : List Asked) (place next : ℕ) (a b : Asked) → slice_get asked place ≡ Some a → slice_get asked (place + 1) ≡ Some b → SameAt c a b → IsSkip c asked (place + 1) next → IsSkip c asked place next
skip_behind c asked place next a b first second same behind = record {
  ahead = omega (arith, behind.ahead);
  within = behind.within;
  same = λ k d e from below here found. elim (cases_lt place k) [
    | inl ahead ↦ same_on c d b e (same_by d here) (behind.same k b e (omega (arith, ahead)) below second found)
    | inr not_ahead ↦
        let level : k ≡ place = omega (arith, from, not_ahead) in
        same_twice c d e (slice_get asked place) here (subst (λ p. slice_get asked p ≡ Some e) level found)
  ];
  other = λ d e here found also. behind.other b e second found (same_on c b d e (same_back c d b (same_by d here)) also);
}
  where
    same_by : (d : Asked) → slice_get asked place ≡ Some d → SameAt c d b
    same_by d here = same_on c d a b (same_twice c d a (slice_get asked place) here first) same

-- the next rule writes the same, so its skip is this one's
pub skip_on : (c : Criterion) (asked : List Asked) (place : ℕ) (a : Asked) (behind : RuleSkips) → slice_get asked place ≡ Some a → GoesOn c a (slice_get asked (place + 1)) → (place + 1 < length asked → HasSkips asked (place + 1) behind) → IsSkip c asked place (skip_at c behind)
skip_on c asked place a behind here goes has =
    let there = goes_some c a (slice_get asked (place + 1)) goes in
    skip_behind c asked place (skip_at c behind) a there.0 here there.1 there.2 (has (slice_get_within asked (place + 1) there.0 there.1) c)

-- the skips of one rule more, before those that are written
pub skips_written : (asked : List Asked) (skips : List RuleSkips) (place : ℕ) (found : RuleSkips) → place < length asked → HasSkips asked place found → HaveSkipsFrom (suc place) asked skips → HaveSkipsFrom place asked (slice_set skips place found)
skips_written asked skips place found within has behind = record {
  size = length-set skips place found ∙ behind.size;
  each = λ k d from there. elim (cases_lt place k) [
    | inl ahead ↦ behind.each k d ahead (sym (same_get k d ahead) ∙ there)
    | inr not_ahead ↦
        let level : k ≡ place = omega (arith, from, not_ahead) in
        let is : d ≡ found = sym (get_or_from_slice_get (slice_set skips place found) k d found there) ∙ ap (λ k. get_or (slice_set skips place found) k found) level ∙ get_or-set_same skips place found found (omega (arith, within, behind.size)) in
        rw (is, level) has
  ];
}
  where
    same_get : (k : ℕ) (d : RuleSkips) → place < k → slice_get (slice_set skips place found) k ≡ slice_get skips k
    same_get k d ahead = elim (cases_lt k (length skips)) [
      | inl inside ↦
          slice_get-get_or (slice_set skips place found) k found (omega (arith, inside, length-set skips place found))
          ∙ ap (λ (d : RuleSkips). Some d) (get_or-set_other skips place k found found (λ is. absurd (omega (arith, is, ahead))))
          ∙ sym (slice_get-get_or skips k found inside)
      | inr past ↦ slice_get_past (slice_set skips place found) k (omega (arith, past, length-set skips place found)) ∙ sym (slice_get_past skips k past)
    ]

-- ---- open ends

pub open_ends_of_runs : (openings : List ℕ) (closings : List Bool) (ends : List ℕ) → AreClosings openings closings → AreRunEnds closings ends → AreOpenEnds openings ends
open_ends_of_runs openings closings ends are runs = record {
  size = runs.size ∙ are.size;
  each = λ place within.
      let run = runs.each place (omega (arith, within, are.size)) in
      record {
        ahead = run.ahead;
        within = omega (arith, run.within, are.size);
        stays = λ k behind below. are.each k (omega (arith, below, run.within, are.size)) (run.none k behind below);
      };
}
