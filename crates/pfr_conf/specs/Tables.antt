-- Definitions of tables.
use Rattle.std.specs.Prelude.{ℕ, Bool, true, not, if◌then◌else◌, List, [], codes}
use Rattle.pfr_words.specs.declared.sign.Sign.TheVariants as s
use Rattle.pfr_terms.specs.declared.address.TableEntry.{TableEntry}
use Rattle.pfr_terms.specs.Input.{Parser, ◌>>=◌, pure, loop, eat_word, open_list, close_list, expect_sign}
use Rattle.pfr_terms.specs.Lists.{members}
use Rattle.pfr_terms.specs.Addresses.{table_name, table_entry}
use Rattle.pfr_conf.specs.declared.table.TableDefinition.{TableDefinition}

unfoldable pub flag : Parser Bool
flag = do
  is_persist ← eat_word (codes "persist")
  if is_persist then pure true else (do
    is_const ← eat_word (codes "const")
    if is_const then pure true else eat_word (codes "counters"))

abbrev pub flag_more : (Unit {0} → Parser (Unit {0})) → Unit {0} → Parser (Unit {0})
flag_more more done = do
  is_flag ← flag
  if is_flag then more tt else pure tt

-- none or more of them, which say nothing about packets
abbrev pub flags : Parser (Unit {0})
flags = loop flag_more tt

-- in braces, maybe none; a table without braces has none
unfoldable pub entries : Parser (List TableEntry)
entries = do
  is_open ← open_list
  if not is_open then pure [] else (do
    is_empty ← close_list
    if is_empty then pure [] else members table_entry)

-- what comes behind `table` on this line
unfoldable pub table_definition : ℕ → Parser TableDefinition
table_definition line = do
  _ ← expect_sign s.Less
  name ← table_name
  _ ← flags
  found ← entries
  pure (record { line = line; name = name; entries = found })
