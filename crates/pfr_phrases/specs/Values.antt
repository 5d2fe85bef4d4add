-- The words of lists that are rewritten.
use Rattle.std.specs.Prelude.{ℕ, suc, ◌-◌, ◌==◌, ◌&&◌, ◌||◌, Bool, true, false, not, nat_eq, nat_le, nat_lt, if◌then◌else◌, List, [], ◌∷◌, codes, Option, Some, None}
use Rattle.std.specs.List.{ends_with}
use Rattle.pfr_words.specs.Names.{entry_of}
use Rattle.pfr_phrases.specs.declared.change.Becomes.TheVariants as becomes
use Rattle.pfr_phrases.specs.declared.context.Says.{Says}
use Rattle.pfr_phrases.specs.declared.context.Says.TheVariants as says
use Rattle.pfr_phrases.specs.declared.phrases.Phrase.{Phrase}
use Rattle.pfr_phrases.specs.declared.lengths.Takes.TheVariants as takes
use Rattle.pfr_phrases.specs.declared.reason.Reason.TheVariants as reason
use Rattle.pfr_phrases.specs.Numbers.{icmp_numbers, protocol_numbers, service_ports}

unfoldable pub protocol_number : List ℕ → Option ℕ
protocol_number word = entry_of protocol_numbers word

unfoldable pub service_port : List ℕ → Option ℕ
service_port word = entry_of service_ports word

unfoldable pub icmp_number : List ℕ → Option ℕ
icmp_number word = entry_of icmp_numbers word

-- the number of a name by what words say
abbrev pub number_of : Says → List ℕ → Option ℕ
number_of says.Protocol word = protocol_number word
number_of says.Port word = service_port word
number_of says.IcmpType word = icmp_number word
number_of _ word = None

abbrev pub is_digit : ℕ → Bool
is_digit b = nat_le 48 b && nat_le b 57

abbrev pub count_of : ℕ → List ℕ → ℕ
count_of byte [] = 0
count_of byte (b ∷ text) = if b == byte then suc (count_of byte text) else count_of byte text

-- digits, dots and slashes, each dot and slash between two digits; by whether a digit stands before
abbrev pub are_parts : Bool → List ℕ → Bool
are_parts digit [] = digit
are_parts digit (b ∷ text) =
    if not (is_digit b) && not (digit && (b == 46 || b == 47)) then false else are_parts (is_digit b) text

-- a network of which not all four parts are written
abbrev pub is_short_network : List ℕ → Bool
is_short_network word = are_parts false word && nat_lt (count_of 46 word) 3 && (count_of 47 word == 1)

abbrev pub says_address : Says → Bool
says_address says.Address = true
says_address says.Target = true
says_address _ = false

abbrev pub is_address : Says → Bool
is_address says.Address = true
is_address _ = false

abbrev pub short_network : Says → List ℕ → Option Phrase
short_network asked word =
    if is_address asked && is_short_network word
    then Some (record { 0 = takes.Nothing; 1 = becomes.WithZeros (3 - count_of 46 word); 2 = reason.ShortAddress })
    else None

abbrev pub value_for : Option ℕ → Says → List ℕ → Option Phrase
value_for (Some number) asked word = Some (record { 0 = takes.Nothing; 1 = becomes.Number number; 2 = reason.Name })
value_for None asked word = short_network asked word

-- what a word is written as by what words say
unfoldable pub value_phrase : Says → List ℕ → Option Phrase
value_phrase asked word = value_for (number_of asked word) asked word

-- a network of four parts and of several addresses
abbrev pub is_network : List ℕ → Bool
is_network word = are_parts false word && (count_of 46 word == 3) && (count_of 47 word == 1) && not (ends_with nat_eq word (codes "/32"))
