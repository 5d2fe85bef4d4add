-- The interfaces of a run, as the words of the command line name them.
use Rattle.std.specs.Prelude.{◌≡◌, ◌≤◌, ℕ, ◌==◌, ◌||◌, nat_lt, if◌then◌else◌, List, [], ◌∷◌, ◌++◌, length, map, codes, Option, Some, None, is_some, option_map}
use Rattle.std.specs.List.{IsDistinct}
use Rattle.std.specs.Str.{bytes_eq}
use Rattle.pfr_net.specs.Interfaces.{if_name}
use Rattle.pfr_net.specs.Notation.{◌>>=◌, cut_at}
use Rattle.pfr_net.specs.declared.interface.IfName.{IfName}
use Rattle.pfr_prepare.specs.Flags.{network_of}
use Rattle.clap.specs.Matches.{found_of, matched_of, raw_values}
use Rattle.clap.specs.declared.parser.matches.ArgMatches.{ArgMatches}
use Rattle.pfr_values.specs.declared.also.Places.{Places}
use Rattle.pfr_ruleset.specs.declared.interface.Interface.{Interface}
use Rattle.pfr_values.specs.declared.also.CaptureWords.{CaptureWords}
use Rattle.pfr_values.specs.declared.also.AlsoForm.{AlsoForm}
use Rattle.pfr_values.specs.declared.also.AlsoForm.TheVariants.{Replayed, Compared, Named}
use Rattle.pfr_values.specs.declared.also.AlsoWords.{AlsoWords}

-- an interface by its name and its address, and the files of its capture and its packets
abbrev pub Shape : Type 0
Shape = List ℕ × List ℕ × List ℕ × List ℕ

abbrev pub shape : AlsoWords → Shape
shape parts = (parts.words.interface.now, parts.address.now, parts.words.capture.now, parts.words.packets.now)

-- one part, which has no comma
abbrev pub last_part : List ℕ → Option (List ℕ)
last_part word = if is_some (cut_at 44 word) then None else Some word

-- `NAME,A.B.C.D/BITS,CAPTURE,PACKETS`, and in other commands `NAME,A.B.C.D/BITS,CAPTURE` or `NAME,A.B.C.D/BITS`: none of the parts has a comma
abbrev pub parts_of : AlsoForm → List ℕ → Option Shape
parts_of Replayed word = do
  a ← cut_at 44 word
  b ← cut_at 44 a.1
  c ← cut_at 44 b.1
  last ← last_part c.1
  Some (a.0, b.0, c.0, last)
parts_of Compared word = do
  a ← cut_at 44 word
  b ← cut_at 44 a.1
  last ← last_part b.1
  Some (a.0, b.0, last, [])
parts_of Named word = do
  a ← cut_at 44 word
  last ← last_part a.1
  Some (a.0, last, [], [])

-- the name of an interface has 1 to 15 bytes
abbrev pub name_of : List ℕ → Option IfName
name_of name = if length name == 0 || nat_lt 15 (length name) then None else Some (if_name name)

-- the interface of this name and this address, which is written `A.B.C.D/BITS`
abbrev pub interface_of : (name address : List ℕ) → Option Interface
interface_of name address = do
  known ← name_of name
  network ← network_of address
  Some (record { name = known; address = network.address; bits = network.bits })

-- the interface that a word names
abbrev pub interface_in : AlsoForm → List ℕ → Option Interface
interface_in form word = do
  parts ← parts_of form word
  interface_of parts.0 parts.1

-- the name of an interface, and its files
abbrev pub Files : Type 0
Files = List ℕ × List ℕ × List ℕ

abbrev pub files_of : CaptureWords → Files
files_of words = (words.interface.now, words.capture.now, words.packets.now)

-- the files that a word names
abbrev pub files_in : AlsoForm → List ℕ → Option Files
files_in form word = option_map (λ parts. (parts.0, parts.2, parts.3)) (parts_of form word)

abbrev pub one_place : Interface → CaptureWords → Places
one_place interface words = record { interfaces = interface ∷ []; captures = words ∷ [] }

-- behind others come the interfaces that words name, and their files
abbrev pub Adds : AlsoForm → (words : List (List ℕ)) → (before after : Places) → Type 0
Adds form words before after =
    (map (λ i. Some i) after.interfaces ≡ map (λ i. Some i) before.interfaces ++ map (λ word. interface_in form word) words)
    × (map (λ c. Some (files_of c)) after.captures ≡ map (λ c. Some (files_of c)) before.captures ++ map (λ word. files_in form word) words)

abbrev pub given_words : Option (List (List ℕ)) → List (List ℕ)
given_words None = []
given_words (Some words) = words

-- the words behind a flag that may come more than once
abbrev pub words_of : (flag : List ℕ) → ArgMatches → List (List ℕ)
words_of flag matches = given_words (option_map raw_values (matched_of (found_of matches) flag))

-- the words behind `--also`
abbrev pub words_behind : ArgMatches → List (List ℕ)
words_behind matches = words_of (codes "also") matches

-- the names of interfaces, by their places
abbrev pub names_of : List CaptureWords → List (List ℕ)
names_of captures = map (λ words. words.interface.now) captures

-- the interfaces of a run have the names of the words, at the same places
abbrev pub HaveNames : List Interface → List CaptureWords → Type 0
HaveNames interfaces captures = map (λ interface. interface.name) interfaces ≡ map (λ name. if_name name) (names_of captures)

-- one interface to eight of different names, each with its files
abbrev pub ArePlaces : List Interface → List CaptureWords → Type 0
ArePlaces interfaces captures =
    (length captures ≡ length interfaces) × (1 ≤ length captures) × (length captures ≤ 8)
    × HaveNames interfaces captures × IsDistinct bytes_eq (names_of captures)
