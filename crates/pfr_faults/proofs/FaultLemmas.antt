-- Faults one after the other.
use Rattle.std.proofs.Common.{◌≡◌, ◌∙◌, ◌<◌, ℕ, zero, suc, ◌-◌, true, false, List, ◌++◌, arith, refl, sym}
use Rattle.std.proofs.lemmas.List.{append-nil, append_assoc}
use Rattle.pfr_ruleset.specs.declared.interface.Interface.{Interface}
use Rattle.pfr_faults.specs.declared.leaving.Left.{Left}
use Rattle.pfr_faults.specs.Faults.{fault_list, faults_from, first_hit, goes_on, left_behind}
use Rattle.pfr_faults.specs.declared.faults.Fault.{Fault}

-- there are more
pub one_fault : (found : List Fault) (left : ℕ) (words : Left) (interfaces : List Interface) → 0 < left
    → goes_on (first_hit words.marks interfaces) ≡ true
    → (found ++ fault_list (first_hit words.marks interfaces) words) ++ faults_from (left - 1) (left_behind (first_hit words.marks interfaces) words) interfaces
    ≡ found ++ faults_from left words interfaces
unfolding faults_from
one_fault found zero words interfaces some more = absurd (omega arith)
one_fault found (suc left) words interfaces some more =
    let less : suc left - 1 ≡ left = omega arith in
    rw (more, less) (append_assoc found _ _)

-- there are none behind
pub last_fault : (found : List Fault) (left : ℕ) (words : Left) (interfaces : List Interface) → 0 < left
    → goes_on (first_hit words.marks interfaces) ≡ false
    → found ++ fault_list (first_hit words.marks interfaces) words ≡ found ++ faults_from left words interfaces
unfolding faults_from
last_fault found zero words interfaces some more = absurd (omega arith)
last_fault found (suc left) words interfaces some more = rw (more, append-nil) refl

-- no more are wanted
pub none_left : (found : List Fault) (left : ℕ) (words : Left) (interfaces : List Interface) (all : List Fault) → left ≡ 0
    → found ++ faults_from left words interfaces ≡ all → found ≡ all
unfolding faults_from
none_left found zero words interfaces all none is = sym (append-nil found) ∙ is
none_left found (suc left) words interfaces all none is = absurd (omega (arith, none))
