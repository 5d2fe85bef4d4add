-- Addresses, as pf.conf(5) writes them.
use Rattle.std.specs.Prelude.{ℕ, suc, ◌==◌, ◌||◌, Bool, true, false, not, nat_le, nat_lt, if◌then◌else◌, List, [], ◌∷◌, Option, Some, None, Result, Ok, Err, codes}
use Rattle.std.specs.Char.{is_ascii_digit}
use Rattle.pfr_net.specs.declared.address.Ipv4Address.{Ipv4Address}
use Rattle.pfr_net.specs.Notation.{number, cut_at, dotted}
use Rattle.pfr_words.specs.declared.sign.Sign.TheVariants as s
use Rattle.pfr_words.specs.Names.{is_name}
use Rattle.pfr_terms.specs.declared.error.ConfError.{ConfError}
use Rattle.pfr_terms.specs.declared.error.ConfErrorKind.TheVariants.{BadNumber, BadAddress}
use Rattle.pfr_terms.specs.declared.name.Name.{Name}
use Rattle.pfr_terms.specs.declared.name.MacroUse.{MacroUse}
use Rattle.pfr_terms.specs.declared.name.Written.{Written}
use Rattle.pfr_terms.specs.declared.name.Written.TheVariants as w
use Rattle.pfr_terms.specs.declared.address.Host.{Host}
use Rattle.pfr_terms.specs.declared.address.Host.TheVariants as h
use Rattle.pfr_terms.specs.declared.address.Address.{Address}
use Rattle.pfr_terms.specs.declared.address.Address.TheVariants as a
use Rattle.pfr_terms.specs.declared.address.AddressMatch.{AddressMatch}
use Rattle.pfr_terms.specs.declared.address.AddressWord.{AddressWord}
use Rattle.pfr_terms.specs.declared.address.AddressWord.TheVariants as word
use Rattle.pfr_terms.specs.declared.address.TableEntry.{TableEntry}
use Rattle.pfr_terms.specs.Input.{Input, Parser, ◌>>=◌, pure, refuse, taken, named, passed, passing, blamed, free_word, fault, left_out, is_free, plain_ahead, macro_ahead, line_ahead, eat_sign, eat_word, expect_sign}
use Rattle.pfr_terms.specs.Lists.{written}

-- ---- one word

-- a word of digits, dots and slashes
abbrev pub is_numeric : List ℕ → Bool
is_numeric [] = true
is_numeric (b ∷ text) = if is_ascii_digit b || b == 46 || b == 47 then is_numeric text else false

abbrev pub dots : List ℕ → ℕ
dots [] = 0
dots (b ∷ text) = if b == 46 then suc (dots text) else dots text

abbrev pub network_of : Option Ipv4Address → Option ℕ → AddressWord
network_of (Some address) (Some bits) = if nat_le bits 32 then word.Network (record { address = address; bits = bits }) else word.TooManyBits
network_of (Some address) None = word.Malformed
network_of None bits = word.Malformed

abbrev pub address_of : Option Ipv4Address → AddressWord
address_of (Some address) = word.Address address
address_of None = word.Malformed

abbrev pub dotted_by : List ℕ → Option (List ℕ × List ℕ) → AddressWord
dotted_by text None = address_of (dotted text)
dotted_by text (Some parts) = network_of (dotted parts.0) (number parts.1)

-- what a plain word says where an address has to stand
unfoldable pub address_word : List ℕ → AddressWord
address_word text = if not (is_numeric text) then word.Name else if nat_lt (dots text) 3 then word.Short else dotted_by text (cut_at 47 text)

abbrev pub address_fault : AddressWord → Input → ConfError
address_fault word.TooManyBits i = fault BadNumber i
address_fault word.Short i = left_out (codes "short address") i
address_fault word.Name i = left_out (codes "host name") i
address_fault _ i = fault BadAddress i

-- ---- hosts

abbrev pub stand_in_by : Option (List ℕ × List ℕ) → Host
stand_in_by None = h.Address (record { 0 = 0 })
stand_in_by (Some parts) = h.Network (record { address = record { 0 = 0 }; bits = 32 })

-- what stands for a word that is no address and whose fault is gathered: a word with a slash counts as a network,
-- behind which no range goes on
abbrev pub stand_in : List ℕ → Host
stand_in text = stand_in_by (cut_at 47 text)

abbrev pub host_by : List ℕ → AddressWord → Parser Host
host_by text (word.Address address) = do
  _ ← taken
  pure (h.Address address)
host_by text (word.Network network) = do
  _ ← taken
  pure (h.Network network)
host_by text word.Name = do
  name ← named text
  pure (h.Interface name)
host_by text bad = do
  _ ← blamed (address_fault bad)
  pure (stand_in text)

unfoldable pub host_word : List ℕ → Parser Host
host_word text = host_by text (address_word text)

abbrev pub bracketed_by : Option MacroUse → Parser Host
bracketed_by (Some found) = do
  _ ← taken
  pure (h.InterfaceMacro found)
bracketed_by None = do
  name ← free_word
  pure (h.Interface name)

-- what stands in round brackets, and the closing one
unfoldable pub bracketed : Parser Host
bracketed = λ i. (do
  host ← bracketed_by (macro_ahead i)
  _ ← expect_sign s.CloseParenthesis
  pure host) i

abbrev pub bare_host_by : Option (List ℕ) → Parser Host
bare_host_by None = refuse
bare_host_by (Some text) = if is_free text then host_word text else (do name ← passed text; pure (h.Interface name))

unfoldable pub bare_host : Parser Host
bare_host = λ i. bare_host_by (plain_ahead i) i

-- an address, a network or an interface form
unfoldable pub host : Parser Host
host = do
  is_own ← eat_word (codes "self")
  if is_own then pure h.Own else (do
    is_bracketed ← eat_sign s.OpenParenthesis
    if is_bracketed then bracketed else bare_host)

-- ---- addresses of rules

abbrev pub range_word : Ipv4Address → AddressWord → Result Ipv4Address AddressWord
range_word first (word.Address last) = if nat_le first.0 last.0 then Ok last else Err word.Malformed
range_word first (word.Network network) = Err word.Malformed
range_word first bad = Err bad

abbrev pub range_end_of : Ipv4Address → Result Ipv4Address AddressWord → Parser Ipv4Address
range_end_of first (Ok last) = do
  _ ← taken
  pure last
range_end_of first (Err bad) = do
  _ ← blamed (address_fault bad)
  pure first

abbrev pub range_end_by : Ipv4Address → Option (List ℕ) → Parser Ipv4Address
range_end_by first None = passing first
range_end_by first (Some text) = if is_free text then range_end_of first (range_word first (address_word text)) else passing first

-- the second address of a range, which isn't below the first
unfoldable pub range_end : Ipv4Address → Parser Ipv4Address
range_end first = λ i. range_end_by first (plain_ahead i) i

-- only a plain address may begin a range
unfoldable pub range_from : Host → Parser Address
range_from (h.Address first) = do
  is_range ← eat_sign s.Minus
  if is_range then (do last ← range_end first; pure (a.Range first last)) else pure (a.Host (h.Address first))
range_from found = pure (a.Host found)

abbrev pub table_name_by : Option (List ℕ) → Parser Name
table_name_by None = refuse
table_name_by (Some text) = if is_name text then named text else passed text

-- NAME, and the `>` behind it
unfoldable pub table_name : Parser Name
table_name = λ i. (do
  name ← table_name_by (plain_ahead i)
  _ ← expect_sign s.Greater
  pure name) i

abbrev pub address_from : Written Host → Parser Address
address_from (w.Macro found) = pure (a.Macro found)
address_from (w.Item found) = range_from found

unfoldable pub rule_address : Parser Address
rule_address = do
  is_any ← eat_word (codes "any")
  if is_any then pure a.Any else (do
    is_table ← eat_sign s.Less
    if is_table then (do name ← table_name; pure (a.Table name)) else written host >>= address_from)

unfoldable pub address_match : Parser AddressMatch
address_match = do
  is_negated ← eat_sign s.Not
  found ← rule_address
  pure (record { is_negated = is_negated; address = found })

-- ---- entries of tables

unfoldable pub table_entry : Parser TableEntry
table_entry = λ i. (do
  is_negated ← eat_sign s.Not
  found ← written host
  pure (record { line = line_ahead i; is_negated = is_negated; host = found })) i
