-- The search for the first translation rule of a kind that holds for a packet.
use Rattle.std.specs.Prelude.{Bool}
use Rattle.pfr_net.specs.declared.interface.IfName.{IfName}
use Rattle.pfr_headers.specs.declared.packet.Packet.{Packet}
use Rattle.pfr_ruleset.specs.declared.flat.FlatTranslation.{FlatTranslation}
use Rattle.pfr_ruleset.specs.declared.ruleset.Ruleset.{Ruleset}
use Rattle.pfr_criteria.specs.Translations.{translation_holds}

-- whether a rule of kind `nat` or `rdr` holds for a packet on the interface of a name, whatever its direction
abbrev pub held : {T : Type 0} → Ruleset → IfName → Packet → FlatTranslation T → Bool
held flat name packet rule = translation_holds rule name flat.tables packet
