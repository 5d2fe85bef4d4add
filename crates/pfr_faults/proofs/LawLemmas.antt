-- Whether a text has faults.
use Rattle.std.proofs.Common.{◌≡◌, ◌<◌, ℕ, Bool, true, false, if◌then◌else◌, List, [], ◌∷◌, length, arith, refl, Some, None}
use Rattle.pfr_ruleset.specs.declared.interface.Interface.{Interface}
use Rattle.pfr_terms.specs.declared.error.ConfError.{ConfError}
use Rattle.pfr_marks.specs.Marks.{marks}
use Rattle.pfr_marks.specs.declared.mark.Mark.{Mark}
use Rattle.pfr_faults.specs.Faults.{all_faults, alone, faults_behind, faults_of, first_fault, is_nothing}
use Rattle.pfr_faults.specs.Spread.{is_too_long}
use Rattle.pfr_faults.specs.declared.faults.Fault.{Fault}

pub accepted_has_none : (text : List ℕ) (interfaces : List Interface) → first_fault text interfaces ≡ None → all_faults text interfaces ≡ []
unfolding all_faults
accepted_has_none text interfaces none = rw none refl

-- one at least of these: all, if they aren't nothing, else another one
either : (all : List Fault) (fault : ConfError) (words : List Mark)
    → 0 < length (if is_nothing all then alone fault words else all)
either [] fault words = omega arith
either (first ∷ all) fault words = omega arith

behind_has_one : (fault : ConfError) (words : List Mark) (interfaces : List Interface) → 0 < length (faults_behind fault words interfaces)
unfolding faults_behind
behind_has_one fault words interfaces = either (faults_of words interfaces) fault words

by_length : (long : Bool) (fault : ConfError) (words : List Mark) (interfaces : List Interface)
    → 0 < length (if long then alone fault words else faults_behind fault words interfaces)
by_length true fault words interfaces = omega arith
by_length false fault words interfaces = behind_has_one fault words interfaces

pub refused_has_one : (text : List ℕ) (interfaces : List Interface) (fault : ConfError) → first_fault text interfaces ≡ Some fault
    → 0 < length (all_faults text interfaces)
unfolding all_faults
refused_has_one text interfaces fault is = rw is (by_length (is_too_long text) fault (marks text) interfaces)
