-- Flags that say what the text of a ruleset can't.
use Rattle.std.specs.Prelude.{ℕ, ◌==◌, ◌||◌, if◌then◌else◌, List, [], length, Option, Some, None}
use Rattle.pfr_net.specs.Networks.{net_of}
use Rattle.pfr_net.specs.Notation.{cut_at}
use Rattle.pfr_net.specs.declared.network.Net.{Net}
use Rattle.pfr_prepare.specs.declared.flag.Flag.{Flag}
use Rattle.pfr_prepare.specs.declared.flag.Flag.TheVariants as flag
use Rattle.pfr_prepare.specs.declared.flag.FlagKind.{FlagKind}
use Rattle.pfr_prepare.specs.declared.flag.FlagKind.TheVariants as kinds

-- what stands before the first `=` and behind it
abbrev pub cut_of : List ℕ → Option (List ℕ × List ℕ)
cut_of word = cut_at 61 word

abbrev pub full : Option (List ℕ × List ℕ) → Option (List ℕ × List ℕ)
full None = None
full (Some parts) = if length parts.0 == 0 || length parts.1 == 0 then None else Some parts

-- the same, if neither is empty
abbrev pub parts_of : List ℕ → Option (List ℕ × List ℕ)
parts_of word = full (cut_of word)

abbrev pub network_behind : Option (List ℕ × List ℕ) → List ℕ → Option Net
network_behind None text = None
network_behind (Some parts) text = net_of text

-- the network that is written `A.B.C.D/BITS`
abbrev pub network_of : List ℕ → Option Net
network_of text = network_behind (cut_at 47 text) text

-- what a flag says: its kind, its name, its file or member, and its network
abbrev pub Shape : Type 0
Shape = FlagKind × List ℕ × List ℕ × Option Net

abbrev pub shape : Flag → Shape
shape (flag.InterfaceAddress name network) = (kinds.InterfaceAddress, name.now, [], Some network)
shape (flag.Group group member) = (kinds.Group, group.now, member.now, None)
shape (flag.Hosts file) = (kinds.Hosts, [], file.now, None)
shape (flag.Services file) = (kinds.Services, [], file.now, None)
shape (flag.Table name file) = (kinds.Table, name.now, file.now, None)
shape (flag.Include name file) = (kinds.Include, name.now, file.now, None)

abbrev pub named_flag : FlagKind → Option (List ℕ × List ℕ) → Option Shape
named_flag kind None = None
named_flag kind (Some parts) = Some (kind, parts.0, parts.1, None)

abbrev pub with_network : List ℕ → Option Net → Option Shape
with_network name None = None
with_network name (Some network) = Some (kinds.InterfaceAddress, name, [], Some network)

abbrev pub address_flag : Option (List ℕ × List ℕ) → Option Shape
address_flag None = None
address_flag (Some parts) = with_network parts.0 (network_of parts.1)

-- the flag of a kind that a word gives: a file, or `NAME=VALUE`
abbrev pub flag_of : FlagKind → List ℕ → Option Shape
flag_of kinds.InterfaceAddress word = address_flag (parts_of word)
flag_of kinds.Group word = named_flag kinds.Group (parts_of word)
flag_of kinds.Hosts word = Some (kinds.Hosts, [], word, None)
flag_of kinds.Services word = Some (kinds.Services, [], word, None)
flag_of kinds.Table word = named_flag kinds.Table (parts_of word)
flag_of kinds.Include word = named_flag kinds.Include (parts_of word)

-- the file that a flag names
abbrev pub file_of : Flag → Option (List ℕ)
file_of (flag.InterfaceAddress name network) = None
file_of (flag.Group group member) = None
file_of (flag.Hosts file) = Some file.now
file_of (flag.Services file) = Some file.now
file_of (flag.Table name file) = Some file.now
file_of (flag.Include name file) = Some file.now
