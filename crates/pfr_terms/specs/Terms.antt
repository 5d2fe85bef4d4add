-- Interfaces, protocols, ICMP types and TCP flags, as pf.conf(5) writes them.
use Rattle.std.specs.Prelude.{ℕ, ◌==◌, ◌&&◌, Bool, nat_le, if◌then◌else◌, List, [], ◌∷◌, length, bit_or, Option, Some, None, codes}
use Rattle.std.specs.Str.{bytes_eq}
use Rattle.std.specs.Option.{option_and_then}
use Rattle.pfr_net.specs.declared.protocol.Protocol.{Protocol}
use Rattle.pfr_net.specs.Notation.{cut_at}
use Rattle.pfr_net.specs.declared.flag_set.FlagSet.{FlagSet}
use Rattle.pfr_net.specs.declared.icmp_match.IcmpMatch.{IcmpMatch}
use Rattle.pfr_words.specs.declared.sign.Sign.TheVariants as s
use Rattle.pfr_words.specs.Names.{protocol_named, icmp_type_named}
use Rattle.pfr_terms.specs.declared.flags.FlagsMatch.{FlagsMatch}
use Rattle.pfr_terms.specs.declared.flags.FlagsMatch.TheVariants as flags
use Rattle.pfr_terms.specs.declared.interface.InterfaceName.{InterfaceName}
use Rattle.pfr_terms.specs.declared.interface.InterfaceMatch.{InterfaceMatch}
use Rattle.pfr_terms.specs.Input.{Parser, ◌>>=◌, pure, refuse, taken, named, passed, is_free, number_in, plain_ahead, eat_sign, eat_word}
use Rattle.pfr_terms.specs.Lists.{written}

-- ---- interfaces

abbrev pub is_interface_name : List ℕ → Bool
is_interface_name word = is_free word && nat_le (length word) 15

abbrev pub interface_name_by : Option (List ℕ) → Parser InterfaceName
interface_name_by None = refuse
interface_name_by (Some word) = if is_interface_name word then (do name ← named word; pure (record { name = name })) else (do name ← passed word; pure (record { name = name }))

unfoldable pub interface_name : Parser InterfaceName
interface_name = λ i. interface_name_by (plain_ahead i) i

unfoldable pub interface_match : Parser InterfaceMatch
interface_match = do
  is_negated ← eat_sign s.Not
  interface ← written interface_name
  pure (record { is_negated = is_negated; interface = interface })

-- ---- protocols and ICMP types

unfoldable pub octet : Parser ℕ
octet = number_in 0 255

abbrev pub octet_or_named : Option ℕ → Parser ℕ
octet_or_named (Some number) = do
  _ ← taken
  pure number
octet_or_named None = octet

abbrev pub protocol_in : Option (List ℕ) → Option ℕ
protocol_in None = None
protocol_in (Some word) = protocol_named word

abbrev pub icmp_type_in : Option (List ℕ) → Option ℕ
icmp_type_in None = None
icmp_type_in (Some word) = icmp_type_named word

-- a protocol by its name or number
unfoldable pub protocol : Parser Protocol
protocol = λ i. (do number ← octet_or_named (protocol_in (plain_ahead i)); pure (record { 0 = number })) i

-- an ICMP type by its name or number, and maybe a code
unfoldable pub icmp_match : Parser IcmpMatch
icmp_match = λ i. (do
  kind ← octet_or_named (icmp_type_in (plain_ahead i))
  has_code ← eat_word (codes "code")
  code ← (if has_code then (do found ← octet; pure (Some found)) else pure None)
  pure (record { kind = kind; code = code })) i

-- ---- flags

unfoldable pub flag_of : ℕ → Option ℕ
flag_of b =
    if b == 70 then Some 1
    else if b == 83 then Some 2
    else if b == 82 then Some 4
    else if b == 80 then Some 8
    else if b == 65 then Some 16
    else if b == 85 then Some 32
    else if b == 69 then Some 64
    else if b == 87 then Some 128
    else None

abbrev pub with_flag : (ℕ → Option ℕ) → ℕ → Option ℕ → Option ℕ
with_flag more flags None = None
with_flag more flags (Some flag) = more (bit_or flags flag)

abbrev pub flags_behind : ℕ → List ℕ → Option ℕ
flags_behind flags [] = Some flags
flags_behind flags (b ∷ letters) = with_flag (λ f. flags_behind f letters) flags (flag_of b)

abbrev pub flag_set_by : Option ℕ → Option FlagSet
flag_set_by None = None
flag_set_by (Some flags) = Some (record { 0 = flags })

unfoldable pub flag_set : List ℕ → Option FlagSet
flag_set letters = if length letters == 0 then None else flag_set_by (flags_behind 0 letters)

abbrev pub flags_by : Option (List ℕ × List ℕ) → Option FlagsMatch
flags_by None = None
flags_by (Some parts) = option_and_then (λ set. option_and_then (λ mask. Some (flags.Of set mask)) (flag_set parts.1)) (flag_set parts.0)

-- `any`, or SET/MASK
unfoldable pub flags_in : List ℕ → Option FlagsMatch
flags_in word = if bytes_eq word (codes "any") then Some flags.Any else flags_by (cut_at 47 word)

abbrev pub flags_of : Option (List ℕ) → Option FlagsMatch
flags_of None = None
flags_of (Some word) = flags_in word

abbrev pub flags_match_by : Option FlagsMatch → Parser FlagsMatch
flags_match_by None = refuse
flags_match_by (Some flags) = do
  _ ← taken
  pure flags

unfoldable pub flags_match : Parser FlagsMatch
flags_match = λ i. flags_match_by (flags_of (plain_ahead i)) i
