-- Whether a text that was prepared is refused.
use Rattle.std.specs.Prelude.{Bool, nat_lt, List, length}
use Rattle.pfr_ruleset.specs.declared.interface.Interface.{Interface}
use Rattle.pfr_faults.specs.Faults.{all_faults}
use Rattle.pfr_prepare.specs.declared.prepared.Prepared.{Prepared}

-- the strict reader refuses something
unfoldable pub is_refused : List Interface → Prepared → Bool
is_refused interfaces prepared = nat_lt 0 (length (all_faults prepared.text interfaces))
