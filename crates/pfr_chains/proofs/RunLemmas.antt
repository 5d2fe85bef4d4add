-- A place at which a run begins.
use Rattle.std.proofs.Common.{◌≡◌, ◌<◌, ℕ, Bool, true, false, List, length, get_or, arith}
use Rattle.pfr_chains.specs.Runs.{IsBeginFrom}

pub begin_here : (begins : List Bool) (place : ℕ) → place < length begins → get_or begins place false ≡ true → IsBeginFrom begins place place
begin_here begins place within begun = record {
  ahead = omega arith;
  within = omega arith;
  none = λ k low high. absurd (omega arith);
  at = λ _. begun;
}
