-- Where a word stands in its statement.
use Rattle.std.specs.Prelude.{ℕ, ◌&&◌, ◌||◌, Bool, true, false, not, if◌then◌else◌, List, [], ◌∷◌, codes, Option, Some, None}
use Rattle.std.specs.Str.{bytes_eq}
use Rattle.pfr_words.specs.Names.{entry_of, is_among, is_grammar_word}
use Rattle.pfr_marks.specs.declared.mark.Mark.{Mark}
use Rattle.pfr_marks.specs.declared.mark.Place.{Place}
use Rattle.pfr_marks.specs.Marks.{begins_with, is}
use Rattle.pfr_phrases.specs.declared.context.Context.{Context}
use Rattle.pfr_phrases.specs.declared.context.Says.{Says}
use Rattle.pfr_phrases.specs.declared.context.Says.TheVariants as says
use Rattle.pfr_phrases.specs.declared.context.Within.{Within}
use Rattle.pfr_phrases.specs.declared.context.Within.TheVariants as within
use Rattle.pfr_phrases.specs.declared.options.Group.TheVariants as group
use Rattle.pfr_phrases.specs.Options.{are_all_left_out}

-- ---- words and signs

-- the words that begin a rule (pf.conf(5), "Grammar")
abbrev pub words_of_rules : List (List ℕ)
words_of_rules =
    codes "pass" ∷ codes "block" ∷ codes "match" ∷ codes "nat" ∷ codes "rdr" ∷ codes "binat" ∷ codes "no" ∷ []

-- the words that begin an anchor (pf.conf(5), "Grammar")
abbrev pub words_of_anchors : List (List ℕ)
words_of_anchors = codes "anchor" ∷ codes "nat-anchor" ∷ codes "rdr-anchor" ∷ codes "binat-anchor" ∷ []

-- the words behind which words say something
abbrev pub sayings : List (List ℕ × Says)
sayings =
    (codes "on", says.Interface) ∷ (codes "proto", says.Protocol) ∷ (codes "from", says.Address) ∷ (codes "to", says.Address)
    ∷ (codes "->", says.Target) ∷ (codes "table", says.Address) ∷ (codes "port", says.Port) ∷ (codes "icmp-type", says.IcmpType)
    ∷ (codes "timeout", says.Timeout) ∷ (codes "limit", says.Limit) ∷ []

-- the words of the grammar that may stand among what is said: hosts, flags of tables, `code`, names of limits and of timeouts
abbrev pub words_among : List (List ℕ)
words_among =
    codes "any" ∷ codes "self" ∷ codes "code" ∷ codes "const" ∷ codes "persist" ∷ codes "counters"
    ∷ codes "states" ∷ codes "frags" ∷ codes "src-nodes" ∷ codes "table-entries" ∷ codes "tables"
    ∷ codes "interval" ∷ codes "frag" ∷ codes "src.track" ∷ []

-- the signs that ask for one value behind them
abbrev pub operators : List (List ℕ)
operators =
    codes "!" ∷ codes "=" ∷ codes "!=" ∷ codes "<" ∷ codes "<=" ∷ codes ">" ∷ codes ">=" ∷ codes "><" ∷ codes "<>"
    ∷ codes "-" ∷ codes "/" ∷ []

-- the signs behind which a value stands
abbrev pub openers : List (List ℕ)
openers =
    codes "!" ∷ codes "=" ∷ codes "!=" ∷ codes "<" ∷ codes "<=" ∷ codes ">=" ∷ codes "><" ∷ codes "<>" ∷ codes "-" ∷ codes "/"
    ∷ codes "," ∷ codes "(" ∷ codes "{" ∷ codes "->" ∷ codes "\n" ∷ []

-- the words behind which targets stand (pf.conf(5), "Translation", "Routing")
abbrev pub words_of_targets : List (List ℕ)
words_of_targets = codes "->" ∷ codes "route-to" ∷ codes "reply-to" ∷ codes "dup-to" ∷ []

-- ---- statements

-- the statement that a word begins
unfoldable pub within_of : List ℕ → Within
within_of word =
    if is_among words_of_rules word then within.Rule
    else if is_among words_of_anchors word then within.Anchor
    else if bytes_eq word (codes "table") then within.Table
    else if bytes_eq word (codes "set") then within.Setting
    else within.Other

abbrev pub within_with : Within → List ℕ → Within
within_with within.Nothing word = within_of word
within_with within.Rule word = within.Rule
within_with within.Anchor word = within.Anchor
within_with within.Table word = within.Table
within_with within.Setting word = within.Setting
within_with within.Other word = within.Other

-- what a word says behind another one: what that asks for, nothing if it is another word of the grammar
abbrev pub says_for : Option Says → Says → List ℕ → Says
says_for (Some says) before word = says
says_for None before word = if is_grammar_word word && not (is_among words_among word) then says.Nothing else before

unfoldable pub says_behind : Says → List ℕ → Says
says_behind before word = says_for (entry_of sayings word) before word

unfoldable pub is_operator : List ℕ → Bool
is_operator word = is_among operators word

unfoldable pub stands_before_targets : List ℕ → Bool
stands_before_targets word = is_among words_of_targets word

abbrev pub is_anchor : Within → Bool
is_anchor within.Anchor = true
is_anchor _ = false

abbrev pub is_table_statement : Within → Bool
is_table_statement within.Table = true
is_table_statement _ = false

abbrev pub is_nothing : Within → Bool
is_nothing within.Nothing = true
is_nothing _ = false

-- ---- one mark after the other

-- before the first word of a statement
abbrev pub beginning_at : Place → Context
beginning_at place = record {
  behind = place;
  within = within.Nothing;
  says = says.Nothing;
  in_braces = false;
  in_brackets = false;
  emptied = false;
  behind_operator = false;
  has_label = false;
  has_target = false;
  has_file = false;
  has_value = false;
  in_angles = false;
}

abbrev pub with_line_end : Context → Context
with_line_end context = if context.in_braces then context else beginning_at context.behind

-- the brace of an anchor's body ends its line, and its statement
abbrev pub with_brace : Context → Bool → Context
with_brace context ends_line =
    if ends_line && is_anchor context.within then beginning_at context.behind else record context { in_braces = true }

-- with one mark more, before others
abbrev pub with_mark : Context → Mark → List Mark → Context
with_mark context mark more =
    if is (codes "\n") mark then with_line_end context
    else if is (codes "{") mark then with_brace context (begins_with more (codes "\n"))
    else if is (codes "}") mark then record context { in_braces = false }
    else if is (codes "(") mark then record context { in_brackets = true; emptied = not (begins_with more (codes ",")) && are_all_left_out group.Options more }
    else if is (codes ")") mark then record context { in_brackets = false; emptied = false }
    else record context {
      within = within_with context.within mark.piece;
      says = says_behind context.says mark.piece;
      has_label = context.has_label || is (codes "label") mark;
      has_target = context.has_target || stands_before_targets mark.piece;
      has_file = context.has_file || is (codes "file") mark;
    }

abbrev pub is_port : Says → Bool
is_port says.Port = true
is_port _ = false

-- a word is a value, or ends one, and is no sign that another value is to follow
unfoldable pub is_value : Context → List ℕ → Bool
is_value context word =
    if bytes_eq word (codes ">") then not (is_port context.says)
    else not (is_among openers word) && (not (is_grammar_word word) || is_among words_among word)

abbrev pub is_second : List ℕ → List Mark → Bool
is_second word (first ∷ second ∷ marks) = is word second
is_second word _ = false

-- a name in `< >` stands behind a mark
abbrev pub opens_angles : Context → Mark → List Mark → Bool
opens_angles context mark more = not (is_port context.says) && is (codes "<") mark && is_second (codes ">") more

-- what the sign or the word right before says by itself
abbrev pub ended_at : Context → Mark → List Mark → Context
ended_at context mark more = record context {
  behind = mark.end;
  behind_operator = is_operator mark.piece;
  has_value = is_value context mark.piece;
  in_angles = opens_angles context mark more;
}

-- behind the first of these marks
unfoldable pub context_behind : Context → List Mark → Context
context_behind context [] = context
context_behind context (mark ∷ more) =
    if context.in_angles then ended_at context mark more else with_mark (ended_at context mark more) mark more
