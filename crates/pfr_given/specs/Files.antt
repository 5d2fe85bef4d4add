-- What is added for an interface, and for files.
use Rattle.std.specs.Prelude.{ℕ, List, [], ◌∷◌, ◌++◌, flat_map, codes, Option, Some, None}
use Rattle.pfr_net.specs.declared.address.Ipv4Address.{Ipv4Address}
use Rattle.pfr_net.specs.declared.network.Net.{Net}
use Rattle.pfr_net.specs.Notation.{dotted}
use Rattle.pfr_given.specs.declared.entry.Entry.{Entry}
use Rattle.pfr_given.specs.declared.entry.Subject.TheVariants as subject
use Rattle.pfr_given.specs.declared.parts.Part.TheVariants as part
use Rattle.pfr_given.specs.Entries.{entry, entries_for}
use Rattle.pfr_given.specs.Texts.{joined_by, lines, plain_words}
use Rattle.pfr_given.specs.Written.{address_text, last_address, network_text}

-- ---- interfaces

abbrev pub form : (word suffix text : List ℕ) → Entry
form word suffix text = entry subject.Address (word ++ suffix) text

-- what stands for an interface or a group of interfaces as an address (pf.conf(5), "PARAMETERS")
unfoldable pub forms : List ℕ → Net → List Entry
forms word net =
    entry subject.Address word (address_text net.address.0)
    ∷ form word (codes ":0") (address_text net.address.0)
    ∷ form word (codes ":network") (network_text net)
    ∷ form word (codes ":broadcast") (address_text (last_address net))
    ∷ []

-- ---- hosts(5)

abbrev pub names_of : List (List ℕ) → Ipv4Address → List Entry
names_of names address = entries_for subject.Address names (address_text address.0)

-- what is not an IPv4 address gives nothing
abbrev pub names_at : List (List ℕ) → Option Ipv4Address → List Entry
names_at names None = []
names_at names (Some address) = names_of names address

-- an address and its names
abbrev pub host : List (List ℕ) → List Entry
host [] = []
host (address ∷ names) = names_at names (dotted address)

abbrev pub host_line : List ℕ → List Entry
host_line line = host (plain_words part.Plain line)

unfoldable pub hosts : List ℕ → List Entry
hosts text = flat_map host_line (lines text)

-- ---- files of tables

unfoldable pub table_words : List ℕ → List (List ℕ)
table_words text = flat_map (plain_words part.PlainOfTable) (lines text)

abbrev pub table : List ℕ → List ℕ
table text = joined_by (codes ", ") (table_words text)
