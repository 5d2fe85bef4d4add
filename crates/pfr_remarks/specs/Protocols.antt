-- The protocols of a rule, and what pfctl(8) refuses behind them: a port asks for tcp or udp, a type of ICMP for icmp.
use Rattle.std.specs.Prelude.{ℕ, ◌==◌, ◌&&◌, Bool, true, false, not, if◌then◌else◌, List, [], ◌∷◌, codes, Option, Some, None}
use Rattle.pfr_words.specs.Names.{entry_of}
use Rattle.pfr_remarks.specs.declared.protocols.Has.{Has}
use Rattle.pfr_remarks.specs.declared.protocols.Has.TheVariants as has
use Rattle.pfr_remarks.specs.declared.protocols.Protocols.{Protocols}
use Rattle.pfr_remarks.specs.declared.why.Why.{Why}
use Rattle.pfr_remarks.specs.declared.why.Why.TheVariants as why

-- the protocols whose packets have ports or types of ICMP, by pf.conf(5)'s names and the numbers of IANA's "Protocol
-- Numbers"
abbrev pub known_protocols : List (List ℕ × Has)
known_protocols =
    (codes "tcp", has.Ports) ∷ (codes "6", has.Ports) ∷ (codes "udp", has.Ports) ∷ (codes "17", has.Ports)
    ∷ (codes "icmp", has.Types) ∷ (codes "1", has.Types) ∷ []

-- a use of a macro begins with a `$`
abbrev pub is_macro_use : List ℕ → Bool
is_macro_use [] = false
is_macro_use (b ∷ word) = b == 36

abbrev pub had_by_entry : Option Has → List ℕ → Has
had_by_entry (Some found) word = found
had_by_entry None word = if is_macro_use word then has.Unknown else has.Neither

-- what packets of the protocol that `word` names have
unfoldable pub had_by : List ℕ → Has
had_by word = had_by_entry (entry_of known_protocols word) word

-- before the word `proto`
abbrev pub none : Protocols
none = record { named = false; unknown = false; without_ports = false; without_types = false }

-- behind the word `proto`
abbrev pub announced : Protocols → Protocols
announced protocols = record protocols { named = true }

abbrev pub with_had : Protocols → Has → Protocols
with_had protocols has.Ports = record protocols { without_types = true }
with_had protocols has.Types = record protocols { without_ports = true }
with_had protocols has.Neither = record protocols { without_ports = true; without_types = true }
with_had protocols has.Unknown = record protocols { unknown = true }

-- with the protocol that a word stands for
unfoldable pub with_word : Protocols → List ℕ → Protocols
with_word protocols word = with_had protocols (had_by word)

-- why `port` is refused behind them
unfoldable pub port_refused : Protocols → Option Why
port_refused protocols =
    if not protocols.named then Some why.PortWithoutProtocol
    else if protocols.without_ports && not protocols.unknown then Some why.PortOfOtherProtocol
    else None

-- why `icmp-type` is refused behind them
unfoldable pub type_refused : Protocols → Option Why
type_refused protocols =
    if not protocols.named then Some why.TypeWithoutProtocol
    else if protocols.without_types && not protocols.unknown then Some why.TypeOfOtherProtocol
    else None
