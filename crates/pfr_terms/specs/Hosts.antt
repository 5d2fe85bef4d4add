-- Where a packet comes from and goes to, as pf.conf(5) writes it.
use Rattle.std.specs.Prelude.{ℕ, if◌then◌else◌, List, Option, Some, None, codes}
use Rattle.pfr_net.specs.declared.protocol.Protocol.{Protocol}
use Rattle.pfr_net.specs.declared.port_match.PortMatch.{PortMatch}
use Rattle.pfr_terms.specs.declared.interface.InterfaceMatch.{InterfaceMatch}
use Rattle.pfr_terms.specs.declared.name.Written.{Written}
use Rattle.pfr_terms.specs.declared.hosts.Part.{Part}
use Rattle.pfr_terms.specs.declared.hosts.Hosts as H
use Rattle.pfr_terms.specs.declared.hosts.Criteria as C
use Rattle.pfr_terms.specs.Input.{Parser, ◌>>=◌, pure, eat_word}
use Rattle.pfr_terms.specs.Lists.{written, list}
use Rattle.pfr_terms.specs.Terms.{interface_match, protocol}
use Rattle.pfr_terms.specs.Ports.{port_match}
use Rattle.pfr_terms.specs.Addresses.{address_match}

-- what a word introduces, if it comes next
abbrev pub behind : {A : Type 0} → List ℕ → Parser A → Parser (Option A)
behind word p = do
  found ← eat_word word
  if found then (do x ← p; pure (Some x)) else pure None

unfoldable pub ports : Parser (Option (List (Written PortMatch)))
ports = behind (codes "port") (list (written port_match))

abbrev pub part_from : Option (List (Written PortMatch)) → Parser Part
part_from (Some found) = pure (record { addresses = None; ports = Some found })
part_from None = do
  addresses ← list address_match
  found ← ports
  pure (record { addresses = Some addresses; ports = found })

-- addresses, ports or both
unfoldable pub one_end : Parser Part
one_end = ports >>= part_from

unfoldable pub part_behind : List ℕ → Parser (Option Part)
part_behind word = behind word one_end

unfoldable pub hosts : Parser H.Hosts
hosts = do
  is_all ← eat_word (codes "all")
  if is_all then pure (record { source = None; destination = None }) else (do
    source ← part_behind (codes "from")
    destination ← part_behind (codes "to")
    pure (record { source = source; destination = destination }))

unfoldable pub interfaces : Parser (Option (List InterfaceMatch))
interfaces = behind (codes "on") (list interface_match)

unfoldable pub protocols : Parser (Option (List (Written Protocol)))
protocols = behind (codes "proto") (list (written protocol))

-- `inet` asks for what this profile has alone
unfoldable pub criteria : Parser C.Criteria
criteria = do
  on ← interfaces
  _ ← eat_word (codes "inet")
  proto ← protocols
  ends ← hosts
  pure (record { interfaces = on; protocols = proto; hosts = ends })
