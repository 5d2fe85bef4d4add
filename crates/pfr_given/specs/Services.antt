-- What is added for a file of services (services(5)).
use Rattle.std.specs.Prelude.{ℕ, ◌==◌, ◌||◌, Bool, true, false, nat_lt, if◌then◌else◌, List, [], ◌∷◌, ◌++◌, length, drop, flat_map, map, option_to_list, codes, Option, Some, None}
use Rattle.std.specs.Fmt.{decimal}
use Rattle.std.specs.Str.{bytes_eq}
use Rattle.pfr_net.specs.Notation.{◌>>=◌, cut_at, number}
use Rattle.pfr_given.specs.declared.entry.Entry.{Entry}
use Rattle.pfr_given.specs.declared.entry.Subject.TheVariants as subject
use Rattle.pfr_given.specs.declared.parts.Part.TheVariants as part
use Rattle.pfr_given.specs.declared.services.Group.{Group}
use Rattle.pfr_given.specs.Entries.{entries_for}
use Rattle.pfr_given.specs.Texts.{lines, plain_words}

abbrev pub has_ports : List ℕ → Bool
has_ports protocol = bytes_eq protocol (codes "tcp") || bytes_eq protocol (codes "udp")

unfoldable pub port_number : List ℕ → Option ℕ
port_number digits = number digits >>= (λ port. if nat_lt port 65536 then Some port else None)

-- the port of TCP or UDP that is written: port/protocol
unfoldable pub port_of : List ℕ → Option ℕ
port_of value = cut_at 47 value >>= (λ parts. if has_ports parts.1 then port_number parts.0 else None)

abbrev pub with_names : List (List ℕ) → Option ℕ → Option (ℕ × List (List ℕ))
with_names names None = None
with_names names (Some port) = Some (port, names)

-- a name, its port, and its aliases: the port and the names of it
abbrev pub service : List (List ℕ) → Option (ℕ × List (List ℕ))
service [] = None
service (name ∷ []) = None
service (name ∷ (value ∷ aliases)) = with_names (name ∷ aliases) (port_of value)

abbrev pub service_line : List ℕ → Option (ℕ × List (List ℕ))
service_line line = service (plain_words part.Plain line)

-- the services of a text, line by line
unfoldable pub services_in : List ℕ → List (ℕ × List (List ℕ))
services_in text = flat_map (λ line. option_to_list (service_line line)) (lines text)

abbrev pub is_among : List ℕ → List (List ℕ) → Bool
is_among name [] = false
is_among name (word ∷ words) = if bytes_eq word name then true else is_among name words

-- each of these names once, without those that are known
abbrev pub new_names : List (List ℕ) → List (List ℕ) → List (List ℕ)
new_names known [] = []
new_names known (name ∷ names) =
    if is_among name known then new_names known names else name ∷ new_names (known ++ name ∷ []) names

-- What services give, behind lines with this port that gave these names: lines with one port that stand one behind the
-- other give each name once.
abbrev pub services_behind : ℕ → List (List ℕ) → List (ℕ × List (List ℕ)) → List Entry
services_behind port known [] = []
services_behind port known (s ∷ services) =
    let before = if port == s.0 then known else [] in
    let names = new_names before s.1 in
    entries_for subject.Service names (decimal s.0) ++ services_behind s.0 (before ++ names) services

unfoldable pub services : List ℕ → List Entry
services text = services_behind 65536 [] (services_in text)

-- ---- line by line

abbrev pub words_of : List Entry → List (List ℕ)
words_of entries = map (λ e. e.word) entries

-- entries for the names that no entry from `start` on has
abbrev pub new_entries : ℕ → List Entry → (names : List (List ℕ)) → (text : List ℕ) → List Entry
new_entries start entries names text = entries_for subject.Service (new_names (words_of (drop start entries)) names) text

abbrev pub group_at : Group → (port len : ℕ) → Group
group_at group port len = if group.port == port then group else record { port = port; start = len }

abbrev pub port_entries : Group → List Entry → List (List ℕ) → List Entry
port_entries group entries names = new_entries group.start entries names (decimal group.port)

-- the lines to which a line belongs, behind the lines of `group` and `len` entries
abbrev pub group_behind : Group → ℕ → Option (ℕ × List (List ℕ)) → Group
group_behind group len None = group
group_behind group len (Some s) = group_at group s.0 len

-- what a line adds
abbrev pub added : Group → List Entry → Option (ℕ × List (List ℕ)) → List Entry
added group entries None = []
added group entries (Some s) = new_entries (group_at group s.0 (length entries)).start entries s.1 (decimal s.0)
