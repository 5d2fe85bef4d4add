-- Numbers that follow on one another, from the ends of runs.
use Rattle.std.proofs.Common.{◌≡◌, ◌<◌, ◌-◌, ◌+◌, ◌∙◌, ℕ, zero, suc, Bool, false, List, length, ap, refl, arith}
use Rattle.std.specs.List.{slice_index_or}
use Rattle.pfr_chains.specs.Runs.{IsRunEnd, AreRunEnds}
use Rattle.pfr_ruleset.specs.TranslationAids.{AreNumberBreaks, AreNumberEnds}

-- the breaks below a place are right
pub record AreFollowedBelow (bound : ℕ) (numbers : List ℕ) (breaks : List Bool) : Type 0 where
  pub size : length breaks ≡ length numbers
  pub follows : (place : ℕ) → suc place < bound → slice_index_or breaks (suc place) false ≡ false → slice_index_or numbers (suc place) 0 ≡ suc (slice_index_or numbers place 0)

follow_steps : (numbers : List ℕ) (breaks : List Bool) (place end : ℕ) → AreNumberBreaks numbers breaks → IsRunEnd breaks place end → (n k : ℕ) → k ≡ place + n → k < end → slice_index_or numbers k 0 ≡ slice_index_or numbers place 0 + n
follow_steps numbers breaks place end are run zero k is below =
    let e : k ≡ place = omega (arith, is) in
    let same : slice_index_or numbers k 0 ≡ slice_index_or numbers place 0 = ap (λ k. slice_index_or numbers k 0) e in
    omega (arith, same)
follow_steps numbers breaks place end are run (suc n) k is below =
    let before = place + n in
    let e : k ≡ suc before = omega (arith, is) in
    let same : slice_index_or numbers k 0 ≡ slice_index_or numbers (suc before) 0 = ap (λ k. slice_index_or numbers k 0) e in
    let none : slice_index_or breaks (suc before) false ≡ false = run.none (suc before) (omega arith) (omega arith) in
    let one = are.follows before (omega (arith, below, run.within, are.size)) none in
    let all = follow_steps numbers breaks place end are run n before refl (omega arith) in
    omega (arith, same, one, all)

pub ends_of_runs : (numbers : List ℕ) (breaks : List Bool) (ends : List ℕ) → AreNumberBreaks numbers breaks → AreRunEnds breaks ends → AreNumberEnds numbers ends
ends_of_runs numbers breaks ends are runs = record {
  size = runs.size ∙ are.size;
  each = λ place within.
      let run = runs.each place (omega (arith, within, are.size)) in
      record {
        ahead = run.ahead;
        within = omega (arith, run.within, are.size);
        follow = λ k from below. follow_steps numbers breaks place (slice_index_or ends place 0) are run (k - place) k (omega arith) below;
      };
}
