-- Whether a text has faults.
use Rattle.std.specs.Prelude.{◌≡◌, ◌<◌, ℕ, List, [], length, Some, None}
use Rattle.pfr_ruleset.specs.declared.interface.Interface.{Interface}
use Rattle.pfr_terms.specs.declared.error.ConfError.{ConfError}
use Rattle.pfr_faults.specs.Faults.{all_faults, first_fault}

-- a text that the strict reader accepts has none
abbrev pub AnAcceptedTextHasNone : Type 0
AnAcceptedTextHasNone = (text : List ℕ) (interfaces : List Interface) → first_fault text interfaces ≡ None → all_faults text interfaces ≡ []

-- one that it refuses has at least one
abbrev pub ARefusedTextHasOne : Type 0
ARefusedTextHasOne = (text : List ℕ) (interfaces : List Interface) (fault : ConfError)
    → first_fault text interfaces ≡ Some fault → 0 < length (all_faults text interfaces)
