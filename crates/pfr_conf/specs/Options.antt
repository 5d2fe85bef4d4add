-- Options: what may stand behind `set`.
use Rattle.std.specs.Prelude.{ℕ, ◌+◌, ◌-◌, ◌*◌, ◌==◌, ◌&&◌, not, min, nat_le, if◌then◌else◌, List, [], ◌∷◌, ◌++◌, length, drop, slice_index, Option, Some, None, Err, codes}
use Rattle.pfr_net.specs.Notation.{number}
use Rattle.pfr_net.specs.declared.policy.BlockPolicy.{BlockPolicy}
use Rattle.pfr_net.specs.declared.policy.StatePolicy.{StatePolicy}
use Rattle.pfr_words.specs.Names.{entry_of}
use Rattle.pfr_terms.specs.declared.error.ConfError.{ConfError}
use Rattle.pfr_terms.specs.declared.error.ConfErrorKind.TheVariants.{LeftOut, BadNumber}
use Rattle.pfr_terms.specs.declared.name.Name.{Name}
use Rattle.pfr_terms.specs.declared.name.MacroUse.{MacroUse}
use Rattle.pfr_terms.specs.declared.name.Written.{Written}
use Rattle.pfr_terms.specs.declared.name.Written.TheVariants as w
use Rattle.pfr_terms.specs.Input.{Input, Parser, ◌>>=◌, pure, refuse, faulty, fault, taken, named, plain_ahead, quoted_ahead, macro_ahead, eat_word, expect_word}
use Rattle.pfr_terms.specs.Lists.{written, list}
use Rattle.pfr_terms.specs.Terms.{interface_name}
use Rattle.pfr_conf.specs.declared.options.SetOption.{SetOption}
use Rattle.pfr_conf.specs.declared.options.SetOption.TheVariants as o
use Rattle.pfr_conf.specs.declared.options.OptionWord.{OptionWord}
use Rattle.pfr_conf.specs.declared.options.OptionWord.TheVariants as word
use Rattle.pfr_conf.specs.Policies.{block_policy, state_policy}
use Rattle.pfr_conf.specs.Settings.{timeout_setting, limit_setting}

-- the words that name an option (pf.conf(5), "Options")
abbrev pub words_of_options : List (List ℕ × OptionWord)
words_of_options =
    (codes "skip", word.Skip) ∷ (codes "timeout", word.Timeout) ∷ (codes "limit", word.Limit)
    ∷ (codes "block-policy", word.BlockPolicy) ∷ (codes "state-policy", word.StatePolicy)
    ∷ (codes "hostid", word.HostId) ∷ (codes "optimization", word.Optimization)
    ∷ (codes "require-order", word.WithoutEffect) ∷ (codes "loginterface", word.WithoutEffect)
    ∷ (codes "debug", word.WithoutEffect) ∷ (codes "ruleset-optimization", word.WithoutEffect) ∷ []

unfoldable pub option_named : List ℕ → Option OptionWord
option_named text = entry_of words_of_options text

-- an option that is left out, as `set WORD`
unfoldable pub set_left_out : List ℕ → Input → ConfError
set_left_out word i = fault (LeftOut (record { name = codes "set " ++ word })) i

unfoldable pub skip : Parser SetOption
skip = do
  _ ← expect_word (codes "on")
  interfaces ← list (written interface_name)
  pure (o.SkipOn interfaces)

abbrev pub block_policy_by : Option BlockPolicy → Parser SetOption
block_policy_by (Some found) = pure (o.BlockPolicy found)
block_policy_by None = refuse

unfoldable pub block_policy_option : Parser SetOption
block_policy_option = block_policy >>= block_policy_by

abbrev pub state_policy_by : Option StatePolicy → Parser SetOption
state_policy_by (Some found) = pure (o.StatePolicy found)
state_policy_by None = refuse

unfoldable pub state_policy_option : Parser SetOption
state_policy_option = state_policy >>= state_policy_by

-- ---- the host's number

unfoldable pub hex_digit : ℕ → Option ℕ
hex_digit b =
    if nat_le 48 b && nat_le b 57 then Some (b - 48)
    else if nat_le 97 b && nat_le b 102 then Some (b - 97 + 10)
    else if nat_le 65 b && nat_le b 70 then Some (b - 65 + 10)
    else None

abbrev pub with_digit : (ℕ → Option ℕ) → ℕ → Option ℕ → Option ℕ
with_digit more value None = None
with_digit more value (Some digit) = more (min (16 * value + digit) 4294967296)

-- the number that digits write behind others of this value; one number stands for all that are above every limit
abbrev pub hexadecimal : ℕ → List ℕ → Option ℕ
hexadecimal value [] = Some value
hexadecimal value (b ∷ digits) = with_digit (λ v. hexadecimal v digits) value (hex_digit b)

-- decimal, or `0x` and at least one hexadecimal digit
unfoldable pub host_id_in : List ℕ → Option ℕ
host_id_in word =
    if slice_index word 0 == 48 && slice_index word 1 == 120 && not (length (drop 2 word) == 0) then hexadecimal 0 (drop 2 word) else number word

abbrev pub host_id_ahead : Option (List ℕ) → Option ℕ
host_id_ahead None = None
host_id_ahead (Some word) = host_id_in word

abbrev pub host_id_by : Option ℕ → Parser SetOption
host_id_by None = refuse
host_id_by (Some n) = if nat_le 1 n && nat_le n 4294967295 then (do _ ← taken; pure (o.HostId n)) else faulty BadNumber

unfoldable pub host_id : Parser SetOption
host_id = λ i. host_id_by (host_id_ahead (plain_ahead i)) i

-- ---- all options

abbrev pub optimization_by : Option (List ℕ) → Parser SetOption
optimization_by (Some other) = λ i. Err (set_left_out (codes "optimization") i)
optimization_by None = refuse

unfoldable pub optimization : Parser SetOption
optimization = do
  is_normal ← eat_word (codes "normal")
  if is_normal then pure o.NormalOptimization else (λ i. optimization_by (plain_ahead i) i)

abbrev pub any_word_by : Option MacroUse → Option (List ℕ) → Option (List ℕ) → Parser (Written Name)
any_word_by (Some found) quoted plain = do
  _ ← taken
  pure (w.Macro found)
any_word_by None (Some text) plain = do
  name ← named text
  pure (w.Item name)
any_word_by None None (Some text) = do
  name ← named text
  pure (w.Item name)
any_word_by None None None = refuse

-- a plain word, a quoted text or a macro
unfoldable pub any_word : Parser (Written Name)
any_word = λ i. any_word_by (macro_ahead i) (quoted_ahead i) (plain_ahead i) i

unfoldable pub option_by : OptionWord → Parser SetOption
option_by word.Skip = skip
option_by word.Timeout = list timeout_setting >>= (λ found. pure (o.Timeouts found))
option_by word.Limit = list limit_setting >>= (λ found. pure (o.Limits found))
option_by word.BlockPolicy = block_policy_option
option_by word.StatePolicy = state_policy_option
option_by word.HostId = host_id
option_by word.Optimization = optimization
option_by word.WithoutEffect = any_word >>= (λ found. pure (o.WithoutEffect found))

abbrev pub option_or_left_out : List ℕ → Option OptionWord → Parser SetOption
option_or_left_out text (Some name) = do
  _ ← taken
  option_by name
option_or_left_out text None = λ i. Err (set_left_out text i)

abbrev pub option_in : Option (List ℕ) → Parser SetOption
option_in None = refuse
option_in (Some text) = option_or_left_out text (option_named text)

-- what comes behind `set`
unfoldable pub set_option : Parser SetOption
set_option = λ i. option_in (plain_ahead i) i
