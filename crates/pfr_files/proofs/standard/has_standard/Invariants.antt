use Rattle.std.proofs.Common.{◌≡◌, ℕ, List, drop}
use Rattle.std.specs.Borrow.{Bor}
use Rattle.std.specs.List.{list_any}
use Rattle.pfr_files.specs.Standard.{is_standard}
use Rattle.pfr_files.proofs.standard.has_standard.Given as goal

abbrev pub invariant-loop-name : goal.invariant-loop-name
invariant-loop-name l =
    list_any (λ (name : Bor (List ℕ)). is_standard name.now) (drop l.name-index l.names)
    ≡ list_any (λ (name : Bor (List ℕ)). is_standard name.now) l.names
