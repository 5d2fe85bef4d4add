-- What flags give for the words of a ruleset.
use Rattle.std.specs.Prelude.{ℕ, ◌&&◌, Bool, nat_le, if◌then◌else◌, List, [], ◌∷◌, ◌++◌, length, Option, Some, None}
use Rattle.std.specs.Str.{bytes_eq}
use Rattle.pfr_net.specs.Interfaces.{if_name}
use Rattle.pfr_net.specs.declared.network.Net.{Net}
use Rattle.pfr_ruleset.specs.declared.interface.Interface.{Interface}
use Rattle.pfr_given.specs.Entries.{entry}
use Rattle.pfr_given.specs.Files.{forms, hosts, table}
use Rattle.pfr_given.specs.Services.{services}
use Rattle.pfr_given.specs.declared.entry.Entry.{Entry}
use Rattle.pfr_given.specs.declared.entry.Subject.TheVariants as subject
use Rattle.pfr_rewrite.specs.declared.adapting.Surroundings.{Surroundings}
use Rattle.pfr_prepare.specs.declared.flag.Flag.{Flag}
use Rattle.pfr_prepare.specs.declared.flag.Flag.TheVariants as flag
use Rattle.pfr_prepare.specs.declared.source.Source.{Source}

abbrev pub network_of : Interface → Net
network_of interface = record { address = interface.address; bits = interface.bits }

-- an interface has this name, of 15 bytes at most
abbrev pub has_name : Interface → List ℕ → Bool
has_name interface name = nat_le (length name) 15 && bytes_eq (if_name name).bytes interface.name.bytes

-- the first of these interfaces that has this name
abbrev pub named : List Interface → List ℕ → Option Interface
named [] name = None
named (interface ∷ interfaces) name = if has_name interface name then Some interface else named interfaces name

-- the forms of an interface for the group of which it is a member, if a flag says its address
abbrev pub forms_in : (group member : List ℕ) → Flag → List Entry
forms_in group member (flag.InterfaceAddress name network) = if bytes_eq name.now member then forms group network else []
forms_in group member _ = []

abbrev pub all_forms : (group member : List ℕ) → List Source → List Entry
all_forms group member [] = []
all_forms group member (source ∷ sources) = forms_in group member source.flag ++ all_forms group member sources

abbrev pub forms_by : Option Interface → List Source → (group member : List ℕ) → List Entry
forms_by None sources group member = all_forms group member sources
forms_by (Some interface) sources group member = forms group (network_of interface)

-- the forms of a member for its group: those of the run's interface of its name, or else as flags say its address
abbrev pub group_forms : List Interface → List Source → (group member : List ℕ) → List Entry
group_forms interfaces sources group member = forms_by (named interfaces member) sources group member

abbrev pub group_entries : List Interface → List Source → (group member : List ℕ) → List Entry
group_entries interfaces sources group member =
    entry subject.Interface group member ∷ group_forms interfaces sources group member

-- what a flag gives, of which the file has this text
abbrev pub flag_entries : List Interface → List Source → Flag → List ℕ → List Entry
flag_entries interfaces sources (flag.InterfaceAddress name network) text = forms name.now network
flag_entries interfaces sources (flag.Group name member) text = group_entries interfaces sources name.now member.now
flag_entries interfaces sources (flag.Hosts file) text = hosts text
flag_entries interfaces sources (flag.Services file) text = services text
flag_entries interfaces sources (flag.Table name file) text = entry subject.Table name.now (table text) ∷ []
flag_entries interfaces sources (flag.Include name file) text = []

abbrev pub entries_of : List Interface → List Source → Source → List Entry
entries_of interfaces sources source = flag_entries interfaces sources source.flag source.text

-- what some of the flags give
abbrev pub all_entries : List Interface → List Source → List Source → List Entry
all_entries interfaces all [] = []
all_entries interfaces all (source ∷ sources) = entries_of interfaces all source ++ all_entries interfaces all sources

-- what a ruleset can't say: its interfaces, and what flags give for its words
unfoldable pub around_of : List Interface → List Source → Surroundings
around_of interfaces sources = record {
  interfaces = interfaces;
  given = record { entries = all_entries interfaces sources sources };
}
