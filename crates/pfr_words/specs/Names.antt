-- The words that a ruleset text gives a meaning, and what may be a name of one's own.
use Rattle.std.specs.Prelude.{ℕ, ◌==◌, ◌&&◌, ◌||◌, Bool, true, false, not, nat_le, if◌then◌else◌, List, [], ◌∷◌, length, Option, Some, None}
use Rattle.std.specs.Option.{is_some}
use Rattle.std.specs.Char.{is_ascii_alphanumeric}
use Rattle.std.specs.Str.{bytes_eq}
use Rattle.pfr_words.specs.Tables.{words_of_grammar, words_left_out, protocol_numbers, service_ports, icmp_type_numbers}

abbrev pub is_among : List (List ℕ) → List ℕ → Bool
is_among [] word = false
is_among (known ∷ words) word = if bytes_eq known word then true else is_among words word

abbrev pub entry_of : {A : Type 0} → List (List ℕ × A) → List ℕ → Option A
entry_of [] word = None
entry_of (e ∷ entries) word = if bytes_eq e.0 word then Some e.1 else entry_of entries word

-- a word of pf.conf(5)'s grammar
unfoldable pub is_grammar_word : List ℕ → Bool
is_grammar_word word = is_among words_of_grammar word

-- a word of pf.conf(5) for what this profile leaves out
unfoldable pub is_left_out : List ℕ → Bool
is_left_out word = is_among words_left_out word

unfoldable pub protocol_named : List ℕ → Option ℕ
protocol_named word = entry_of protocol_numbers word

unfoldable pub service_named : List ℕ → Option ℕ
service_named word = entry_of service_ports word

unfoldable pub icmp_type_named : List ℕ → Option ℕ
icmp_type_named word = entry_of icmp_type_numbers word

unfoldable pub is_reserved : List ℕ → Bool
is_reserved word =
    is_grammar_word word || is_left_out word || is_some (protocol_named word) || is_some (service_named word) || is_some (icmp_type_named word)

abbrev pub is_name_byte : ℕ → Bool
is_name_byte b = is_ascii_alphanumeric b || b == 95

abbrev pub are_name_bytes : List ℕ → Bool
are_name_bytes [] = true
are_name_bytes (b ∷ bytes) = if is_name_byte b then are_name_bytes bytes else false

-- a name of a macro or a table
unfoldable pub is_name : List ℕ → Bool
is_name text = not (length text == 0) && nat_le (length text) 31 && are_name_bytes text && not (is_reserved text)
