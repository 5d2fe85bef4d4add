-- What translation rules translate to.
use Rattle.std.specs.Prelude.{ℕ, ◌&&◌, ◌||◌, Bool, true, nat_lt, if◌then◌else◌, List, Option, Some, None, Result, Ok, Err, codes}
use Rattle.std.specs.Str.{bytes_eq}
use Rattle.pfr_net.specs.Notation.{cut_at}
use Rattle.pfr_net.specs.declared.port_match.PortMatch.{PortMatch}
use Rattle.pfr_words.specs.declared.sign.Sign.TheVariants as s
use Rattle.pfr_terms.specs.declared.error.ConfError.{ConfError}
use Rattle.pfr_terms.specs.declared.error.ConfErrorKind.TheVariants.{BadNumber, BadAddress}
use Rattle.pfr_terms.specs.declared.name.Written.{Written}
use Rattle.pfr_terms.specs.declared.name.Written.TheVariants as w
use Rattle.pfr_terms.specs.declared.address.Host.{Host}
use Rattle.pfr_terms.specs.declared.address.Host.TheVariants as h
use Rattle.pfr_terms.specs.declared.port.PortWord.{PortWord}
use Rattle.pfr_terms.specs.declared.port.PortWord.TheVariants.{Port, OutOfRange, Unknown}
use Rattle.pfr_terms.specs.Input.{Input, Parser, ◌>>=◌, pure, refuse, leave_out, left_out, left_out_at, faulty, fault, taken, is_free, line_ahead, plain_ahead, sees_sign, sees_word, eat_word}
use Rattle.pfr_terms.specs.Lists.{written}
use Rattle.pfr_terms.specs.Ports.{port_word, port_or_range}
use Rattle.pfr_terms.specs.Addresses.{host}
use Rattle.pfr_conf.specs.declared.targets.RedirectedPort.{RedirectedPort}
use Rattle.pfr_conf.specs.declared.targets.RedirectedPort.TheVariants.{Fixed, From}
use Rattle.pfr_conf.specs.declared.targets.PortFault.{PortFault}
use Rattle.pfr_conf.specs.declared.targets.PortFault.TheVariants.{Service, Number, Pool}
use Rattle.pfr_conf.specs.declared.targets.Target as T
use Rattle.pfr_conf.specs.declared.targets.Target.TheVariants as t
use Rattle.pfr_conf.specs.declared.translation.TranslationKind.{TranslationKind}
use Rattle.pfr_conf.specs.declared.translation.TranslationKind.TheVariants as kind

-- ---- one address

-- one address; a network of fewer than 32 bits, or the first address of a range, is a fault on this line
unfoldable pub one_address : ℕ → Written Host → Parser (Written Host)
one_address line (w.Item (h.Network network)) = λ i. if nat_lt network.bits 32 then Err (left_out_at line (codes "pool")) else pure (w.Item (h.Network network)) i
one_address line (w.Item (h.Address address)) = λ i. if sees_sign s.Minus i then Err (record { line = line; kind = BadAddress }) else pure (w.Item (h.Address address)) i
one_address line (w.Item other) = pure (w.Item other)
one_address line (w.Macro found) = pure (w.Macro found)

-- more than one address is left out; with `has_tables` a table counts as more than one
unfoldable pub single_host : Bool → Parser (Written Host)
single_host has_tables = λ i.
    if sees_sign s.OpenBrace i || (has_tables && sees_sign s.Less i) then leave_out (codes "pool") i
    else if sees_sign s.Less i || sees_sign s.Not i || sees_word (codes "any") i then faulty BadAddress i
    else (written host >>= one_address (line_ahead i)) i

-- ---- ports

abbrev pub fault_of : PortWord → PortWord → PortFault
fault_of Unknown y = Service
fault_of OutOfRange Unknown = Service
fault_of OutOfRange OutOfRange = Number
fault_of OutOfRange (Port y) = Number
fault_of (Port x) Unknown = Service
fault_of (Port x) OutOfRange = Number
fault_of (Port x) (Port y) = Pool

abbrev pub fixed_port : PortWord → Result RedirectedPort PortFault
fixed_port (Port port) = Ok (Fixed port)
fixed_port OutOfRange = Err Number
fixed_port Unknown = Err Service

abbrev pub first_port : ℕ → PortWord → Result RedirectedPort PortFault
first_port line (Port port) = Ok (From line port)
first_port line OutOfRange = Err Number
first_port line Unknown = Err Service

abbrev pub redirected_by : ℕ → List ℕ → Option (List ℕ × List ℕ) → Result RedirectedPort PortFault
redirected_by line word None = fixed_port (port_word word)
redirected_by line word (Some parts) = if bytes_eq parts.1 (codes "*") then first_port line (port_word parts.0) else Err (fault_of (port_word parts.0) (port_word parts.1))

-- `z` or `z:*` on this line
unfoldable pub redirected_word : ℕ → List ℕ → Result RedirectedPort PortFault
redirected_word line word = redirected_by line word (cut_at 58 word)

abbrev pub redirected_fault : PortFault → Input → ConfError
redirected_fault Service i = left_out (codes "service") i
redirected_fault Number i = fault BadNumber i
redirected_fault Pool i = left_out (codes "pool") i

abbrev pub redirected_of : Result RedirectedPort PortFault → Parser RedirectedPort
redirected_of (Ok port) = do
  _ ← taken
  pure port
redirected_of (Err word) = λ i. Err (redirected_fault word i)

abbrev pub redirected_in : Option (List ℕ) → Parser RedirectedPort
redirected_in None = refuse
redirected_in (Some word) = λ i. if is_free word then redirected_of (redirected_word (line_ahead i) word) i else refuse i

unfoldable pub redirected_port : Parser RedirectedPort
redirected_port = λ i. if sees_sign s.OpenBrace i then leave_out (codes "pool") i else redirected_in (plain_ahead i) i

abbrev pub ports_or_pool : Parser PortMatch
ports_or_pool = λ i. if sees_sign s.OpenBrace i then leave_out (codes "pool") i else port_or_range i

-- `port z` or `port x:y`, if it comes next
unfoldable pub nat_ports : Parser (Option PortMatch)
nat_ports = do
  has_ports ← eat_word (codes "port")
  if has_ports then (do ports ← ports_or_pool; pure (Some ports)) else pure None

-- ---- targets

unfoldable pub nat_target : Parser T.Target
nat_target = do
  address ← single_host true
  ports ← nat_ports
  static_port ← eat_word (codes "static-port")
  pure (t.Nat (record { address = address; ports = ports; static_port = static_port }))

unfoldable pub rdr_target : Parser T.Target
rdr_target = do
  address ← single_host true
  has_port ← eat_word (codes "port")
  port ← (if has_port then (do found ← redirected_port; pure (Some found)) else pure None)
  pure (t.Rdr (record { address = address; port = port }))

-- what comes behind the arrow
unfoldable pub target : TranslationKind → Parser T.Target
target kind.Nat = nat_target
target kind.Rdr = rdr_target
target kind.Binat = single_host true >>= (λ address. pure (t.Binat address))
