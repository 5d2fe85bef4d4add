-- Flat translation rules.
use Rattle.std.specs.Prelude.{ℕ, suc, ◌+◌, ◌-◌, ◌&&◌, Bool, true, false, nat_le, List, [], ◌∷◌, Option, Some, None}
use Rattle.pfr_net.specs.declared.port_match.Comparison.TheVariants as c
use Rattle.pfr_net.specs.declared.port_match.RangeOperator.TheVariants as r
use Rattle.pfr_net.specs.declared.port_match.PortMatch.{PortMatch}
use Rattle.pfr_net.specs.declared.port_match.PortMatch.TheVariants as p
use Rattle.pfr_ruleset.specs.declared.flat.PacketMatch.{PacketMatch}
use Rattle.pfr_ruleset.specs.declared.flat.FlatTranslation.{FlatTranslation}

-- one rule for each match, numbered on from this number, all with the line of the rule
abbrev pub numbered : {A : Type 0} → ℕ → ℕ → Bool → Option A → List PacketMatch → List (FlatTranslation A)
numbered number line passes target [] = []
numbered number line passes target (m ∷ matches) = record { number = number; line = line; passes = passes; packet = m; target = target } ∷ numbered (suc number) line passes target matches

-- whether ports can be moved so that the first goes to this one: a number, or a range that stays within the ports
abbrev pub fits : ℕ → Option PortMatch → Bool
fits first None = false
fits first (Some (p.Compare c.Equal port)) = true
fits first (Some (p.Compare other port)) = false
fits first (Some (p.Range r.Inclusive low high)) = nat_le (first + (high - low)) 65535
fits first (Some (p.Range other low high)) = false

abbrev pub all_fit : ℕ → List (Option PortMatch) → Bool
all_fit first [] = true
all_fit first (x ∷ xs) = fits first x && all_fit first xs
