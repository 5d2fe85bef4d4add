-- Ports, as pf.conf(5) writes them.
use Rattle.std.specs.Prelude.{ℕ, nat_le, if◌then◌else◌, List, Option, Some, None, Result, Ok, Err, codes}
use Rattle.pfr_net.specs.Notation.{number, cut_at}
use Rattle.pfr_net.specs.declared.port_match.Comparison.{Comparison}
use Rattle.pfr_net.specs.declared.port_match.Comparison.TheVariants as c
use Rattle.pfr_net.specs.declared.port_match.RangeOperator.{RangeOperator}
use Rattle.pfr_net.specs.declared.port_match.RangeOperator.TheVariants as r
use Rattle.pfr_net.specs.declared.port_match.PortMatch.{PortMatch}
use Rattle.pfr_net.specs.declared.port_match.PortMatch.TheVariants.{Compare, Range}
use Rattle.pfr_words.specs.declared.sign.Sign.{Sign}
use Rattle.pfr_words.specs.declared.sign.Sign.TheVariants as s
use Rattle.pfr_words.specs.Names.{service_named}
use Rattle.pfr_terms.specs.declared.error.ConfError.{ConfError}
use Rattle.pfr_terms.specs.declared.error.ConfErrorKind.TheVariants.{BadNumber}
use Rattle.pfr_terms.specs.declared.port.PortWord.{PortWord}
use Rattle.pfr_terms.specs.declared.port.PortWord.TheVariants.{Port, OutOfRange, Unknown}
use Rattle.pfr_terms.specs.Input.{Input, Parser, ◌>>=◌, pure, taken, fault, left_out, blamed, passing, is_free, plain_ahead, sign_ahead}

abbrev pub service_word : Option ℕ → PortWord
service_word None = Unknown
service_word (Some port) = Port port

abbrev pub port_word_by : List ℕ → Option ℕ → PortWord
port_word_by word None = service_word (service_named word)
port_word_by word (Some n) = if nat_le n 65535 then Port n else OutOfRange

-- a number from 0 to 65535, or the name of a service
unfoldable pub port_word : List ℕ → PortWord
port_word word = port_word_by word (number word)

abbrev pub range_of : PortWord → PortWord → Result PortMatch PortWord
range_of Unknown y = Err Unknown
range_of OutOfRange Unknown = Err Unknown
range_of OutOfRange OutOfRange = Err OutOfRange
range_of OutOfRange (Port high) = Err OutOfRange
range_of (Port low) Unknown = Err Unknown
range_of (Port low) OutOfRange = Err OutOfRange
range_of (Port low) (Port high) = if nat_le low high then Ok (Range r.Inclusive low high) else Err OutOfRange

abbrev pub single_of : PortWord → Result PortMatch PortWord
single_of (Port port) = Ok (Compare c.Equal port)
single_of OutOfRange = Err OutOfRange
single_of Unknown = Err Unknown

abbrev pub ports_by : List ℕ → Option (List ℕ × List ℕ) → Result PortMatch PortWord
ports_by word None = single_of (port_word word)
ports_by word (Some parts) = range_of (port_word parts.0) (port_word parts.1)

-- `p`, or `x:y` with x not above y
unfoldable pub ports_in : List ℕ → Result PortMatch PortWord
ports_in word = ports_by word (cut_at 58 word)

-- a word that is neither a number nor a service is left out, before a number out of its range is a fault
abbrev pub port_fault : PortWord → Input → ConfError
port_fault Unknown i = left_out (codes "service") i
port_fault _ i = fault BadNumber i

abbrev pub port_of : PortWord → Parser ℕ
port_of (Port port) = do
  _ ← taken
  pure port
port_of word = do
  _ ← blamed (port_fault word)
  pure 0

abbrev pub port_by : Option (List ℕ) → Parser ℕ
port_by None = passing 0
port_by (Some word) = if is_free word then port_of (port_word word) else passing 0

unfoldable pub port : Parser ℕ
port = λ i. port_by (plain_ahead i) i

-- what stands for a port or a range that is gathered as a fault
abbrev pub port_zero : PortMatch
port_zero = Compare c.Equal 0

abbrev pub stand_in_by : Option (List ℕ × List ℕ) → PortMatch
stand_in_by None = port_zero
stand_in_by (Some parts) = Range r.Inclusive 0 0

-- what stands for a word that is no port and whose fault is gathered: for `x:y` a range, behind which no operator comes
abbrev pub stand_in : List ℕ → PortMatch
stand_in word = stand_in_by (cut_at 58 word)

abbrev pub ports_of : List ℕ → Result PortMatch PortWord → Parser PortMatch
ports_of word (Ok ports) = do
  _ ← taken
  pure ports
ports_of word (Err bad) = do
  _ ← blamed (port_fault bad)
  pure (stand_in word)

abbrev pub port_or_range_by : Option (List ℕ) → Parser PortMatch
port_or_range_by None = passing port_zero
port_or_range_by (Some word) = if is_free word then ports_of word (ports_in word) else passing port_zero

unfoldable pub port_or_range : Parser PortMatch
port_or_range = λ i. port_or_range_by (plain_ahead i) i

abbrev pub comparison_of : Sign → Option Comparison
comparison_of s.Equal = Some c.Equal
comparison_of s.NotEqual = Some c.NotEqual
comparison_of s.Less = Some c.Less
comparison_of s.LessOrEqual = Some c.LessOrEqual
comparison_of s.Greater = Some c.Greater
comparison_of s.GreaterOrEqual = Some c.GreaterOrEqual
comparison_of _ = None

abbrev pub operator_of : Sign → Option RangeOperator
operator_of s.Between = Some r.Between
operator_of s.Outside = Some r.Outside
operator_of _ = None

abbrev pub eaten : {A : Type 0} → Option A → Parser (Option A)
eaten None = pure None
eaten (Some found) = do
  _ ← taken
  pure (Some found)

abbrev pub by_sign : {A : Type 0} → (Sign → Option A) → Option Sign → Option A
by_sign f None = None
by_sign f (Some sign) = f sign

unfoldable pub eat_comparison : Parser (Option Comparison)
eat_comparison = λ i. eaten (by_sign comparison_of (sign_ahead i)) i

unfoldable pub eat_operator : Parser (Option RangeOperator)
eat_operator = λ i. eaten (by_sign operator_of (sign_ahead i)) i

abbrev pub range_by : PortMatch → ℕ → Option RangeOperator → Parser PortMatch
range_by first low None = pure first
range_by first low (Some operator) = do
  high ← port
  pure (Range operator low high)

-- what comes behind `p` or `x:y`
unfoldable pub ports_from : PortMatch → Parser PortMatch
ports_from (Compare comparison low) = eat_operator >>= range_by (Compare comparison low) low
ports_from (Range operator low high) = pure (Range operator low high)

abbrev pub ports_behind : Option Comparison → Parser PortMatch
ports_behind (Some comparison) = do
  found ← port
  pure (Compare comparison found)
ports_behind None = port_or_range >>= ports_from

unfoldable pub port_match : Parser PortMatch
port_match = eat_comparison >>= ports_behind
