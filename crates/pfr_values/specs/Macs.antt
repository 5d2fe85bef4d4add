-- The link-level addresses of a run's interfaces, as the words of the command line give them.
use Rattle.std.specs.Prelude.{◌≡◌, ℕ, ◌+◌, ◌*◌, ◌==◌, Bool, true, false, nat_lt, if◌then◌else◌, List, [], ◌∷◌, ◌++◌, length, map, codes, slice_index, Option, Some, None}
use Rattle.std.specs.Char.{digit_value}
use Rattle.std.specs.List.{AllByRecursion, IsDistinct, list_any}
use Rattle.std.specs.Str.{bytes_eq}
use Rattle.pfr_net.specs.Notation.{◌>>=◌, cut_at}
use Rattle.clap.specs.declared.parser.matches.ArgMatches.{ArgMatches}
use Rattle.pfr_headers.specs.declared.ethernet.EthernetAddress.{EthernetAddress}
use Rattle.pfr_values.specs.Places as places
use Rattle.pfr_values.specs.declared.also.CaptureWords.{CaptureWords}
use Rattle.pfr_values.specs.declared.mac.MacWords.{MacWords}

-- the value of a hexadecimal digit of either case
abbrev pub digit_of : ℕ → Option ℕ
digit_of byte = if nat_lt (digit_value byte) 16 then Some (digit_value byte) else None

-- two hexadecimal digits, of which the first counts sixteen times its value
unfoldable pub pair_of : List ℕ → Option ℕ
pair_of text =
    if length text == 2 then
    digit_of (slice_index text 0) >>= (λ high. digit_of (slice_index text 1) >>= (λ low. Some (16 * high + low)))
    else None

-- `AA:BB:CC:DD:EE:FF`: the address of which the first pair of digits is the byte that is sent first (IEEE 802, section 8.1)
unfoldable pub address_of : List ℕ → Option EthernetAddress
address_of text = do
  a ← cut_at 58 text
  b ← cut_at 58 a.1
  c ← cut_at 58 b.1
  d ← cut_at 58 c.1
  e ← cut_at 58 d.1
  first ← pair_of a.0
  second ← pair_of b.0
  third ← pair_of c.0
  fourth ← pair_of d.0
  fifth ← pair_of e.0
  sixth ← pair_of e.1
  Some (record { 0 = first ∷ second ∷ third ∷ fourth ∷ fifth ∷ sixth ∷ [] })

-- the name of an interface, and its address
abbrev pub Mac : Type 0
Mac = List ℕ × EthernetAddress

abbrev pub shape : MacWords → Mac
shape mac = (mac.interface.now, mac.address)

-- `NAME=AA:BB:CC:DD:EE:FF`: the name stands before the first `=`
abbrev pub mac_of : List ℕ → Option Mac
mac_of word = do
  parts ← cut_at 61 word
  name ← places.name_of parts.0
  address ← address_of parts.1
  Some (parts.0, address)

abbrev pub names_of : List MacWords → List (List ℕ)
names_of macs = map (λ mac. mac.interface.now) macs

-- each is of an interface of the run, and of another one
abbrev pub AreMacs : List CaptureWords → List MacWords → Type 0
AreMacs captures macs =
    IsDistinct bytes_eq (names_of macs)
    × AllByRecursion (λ name. list_any (λ other. bytes_eq other name) (places.names_of captures) ≡ true) (names_of macs)

-- behind others come the addresses that words give
abbrev pub Adds : (words : List (List ℕ)) → (before after : List MacWords) → Type 0
Adds words before after =
    map (λ mac. Some (shape mac)) after ≡ map (λ mac. Some (shape mac)) before ++ map (λ word. mac_of word) words

-- the address of the interface of this name
abbrev pub address_in : List MacWords → List ℕ → Option EthernetAddress
address_in [] name = None
address_in (mac ∷ macs) name = if bytes_eq mac.interface.now name then Some mac.address else address_in macs name

-- the addresses of the interfaces of a run, by their places
abbrev pub addresses_of : List MacWords → List CaptureWords → List (Option EthernetAddress)
addresses_of macs captures = map (λ words. address_in macs words.interface.now) captures

-- the words behind `--mac`
abbrev pub words_behind : ArgMatches → List (List ℕ)
words_behind matches = places.words_of (codes "mac") matches

-- the addresses of the interfaces of a run, by their places, where words give them: each word is of an interface of the run, and of another one
abbrev pub AreLinkAddresses : (words : List (List ℕ)) → List CaptureWords → List (Option EthernetAddress) → Type 0
AreLinkAddresses words captures addresses =
    (macs : List MacWords) × Adds words [] macs × AreMacs captures macs × (addresses ≡ addresses_of macs captures)

-- every interface has an address
abbrev pub all_known : List (Option EthernetAddress) → Bool
all_known [] = true
all_known (None ∷ addresses) = false
all_known (Some address ∷ addresses) = all_known addresses
