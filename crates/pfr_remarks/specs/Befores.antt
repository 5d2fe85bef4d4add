-- What stands before a word in its statement.
use Rattle.std.specs.Prelude.{ℕ, ◌+◌, ◌-◌, ◌^◌, ◌==◌, ◌&&◌, ◌||◌, Bool, true, false, nat_lt, if◌then◌else◌, min, List, [], ◌∷◌, codes, Option, Some, None}
use Rattle.std.specs.Str.{bytes_eq}
use Rattle.pfr_words.specs.Names.{entry_of}
use Rattle.pfr_marks.specs.declared.mark.Mark.{Mark}
use Rattle.pfr_marks.specs.Marks.{begins_with, is}
use Rattle.pfr_remarks.specs.declared.before.Asks.{Asks}
use Rattle.pfr_remarks.specs.declared.before.Asks.TheVariants as asks
use Rattle.pfr_remarks.specs.declared.before.Before.{Before}
use Rattle.pfr_remarks.specs.declared.before.Keyword.{Keyword}
use Rattle.pfr_remarks.specs.declared.before.Keyword.TheVariants as keyword
use Rattle.pfr_remarks.specs.declared.before.Statement.{Statement}
use Rattle.pfr_remarks.specs.declared.before.Statement.TheVariants as statement
use Rattle.pfr_remarks.specs.declared.why.Why.{Why}
use Rattle.pfr_remarks.specs.Protocols.{announced, none}
use Rattle.pfr_remarks.specs.Protocols as protocols
use Rattle.pfr_remarks.specs.Told.{nothing, with_why}

-- ---- words

-- the first words of statements (pf.conf(5), "Grammar")
abbrev pub statements : List (List ℕ × Statement)
statements =
    (codes "pass", statement.Pass) ∷ (codes "match", statement.Pass) ∷ (codes "block", statement.Block)
    ∷ (codes "rdr", statement.Redirection) ∷ (codes "anchor", statement.Anchor) ∷ []

-- the words that mean something outside of braces and brackets (pf.conf(5), "Parameters")
abbrev pub keywords : List (List ℕ × Keyword)
keywords =
    (codes "proto", keyword.Protocol) ∷ (codes "port", keyword.Port) ∷ (codes "icmp-type", keyword.Type)
    ∷ (codes "keep", keyword.Keep) ∷ (codes "modulate", keyword.Keep) ∷ (codes "synproxy", keyword.Keep)
    ∷ (codes "label", keyword.Label) ∷ (codes "->", keyword.Target) ∷ []

-- ---- statements

-- what a word means outside of braces and brackets
unfoldable pub keyword_of : List ℕ → Option Keyword
keyword_of word = entry_of keywords word

abbrev pub or_other : Option Statement → Statement
or_other (Some known) = known
or_other None = statement.Other

-- the statement that a word begins
unfoldable pub statement_of : List ℕ → Statement
statement_of word = or_other (entry_of statements word)

-- the first word of a statement says what it is
abbrev pub statement_with : Statement → List ℕ → Statement
statement_with statement.Nothing word = statement_of word
statement_with statement.Pass word = statement.Pass
statement_with statement.Block word = statement.Block
statement_with statement.Redirection word = statement.Redirection
statement_with statement.Anchor word = statement.Anchor
statement_with statement.Other word = statement.Other

abbrev pub is_anchor : Statement → Bool
is_anchor statement.Anchor = true
is_anchor _ = false

abbrev pub is_filter : Statement → Bool
is_filter statement.Pass = true
is_filter statement.Block = true
is_filter _ = false

abbrev pub is_block : Statement → Bool
is_block statement.Block = true
is_block _ = false

abbrev pub is_rule : Statement → Bool
is_rule statement.Pass = true
is_rule statement.Block = true
is_rule statement.Redirection = true
is_rule _ = false

-- ---- one mark after the other

-- before the first word of a statement
abbrev pub beginning : Before
beginning = record {
  statement = statement.Nothing;
  asks = asks.Nothing;
  braces = 0;
  brackets = 0;
  protocols = none;
  target = false;
  told = nothing;
}

-- a brace or a bracket is open
abbrev pub is_enclosed : Before → Bool
is_enclosed before = nat_lt 0 before.braces || nat_lt 0 before.brackets

-- a statement ends with its line, unless a list is open
abbrev pub with_line_end : Before → Before
with_line_end before = if before.braces == 0 then beginning else before

abbrev pub with_first : Before → List ℕ → Before
with_first before word = record before { statement = statement_with before.statement word }

abbrev pub with_told : Before → Option Why → Before
with_told before (Some why) = record before { told = with_why before.told why }
with_told before None = before

-- the brace of an anchor's body ends its line, and its statement
abbrev pub with_brace : Before → Bool → Before
with_brace before ends_line =
    if ends_line && is_anchor before.statement then beginning else record before { braces = min (before.braces + 1) (2 ^ 64 - 1) }

abbrev pub with_keyword : Before → Keyword → Before
with_keyword before keyword.Protocol = record before { asks = asks.Protocol; protocols = announced before.protocols }
with_keyword before keyword.Label = record before { asks = asks.Label }
with_keyword before keyword.Target = record before { target = true }
with_keyword before keyword.Port = before
with_keyword before keyword.Type = before
with_keyword before keyword.Keep = before

abbrev pub with_meaning : Before → Option Keyword → Before
with_meaning before (Some known) = with_keyword before known
with_meaning before None = before

-- a word that nothing asks for
abbrev pub with_free : Before → List ℕ → Before
with_free before word = if nat_lt 0 before.braces then before else with_meaning before (keyword_of word)

-- a protocol, or the comma between two
abbrev pub with_protocol : Before → List ℕ → Before
with_protocol before word =
    if bytes_eq word (codes ",") then before
    else record before { asks = if before.braces == 0 then asks.Nothing else asks.Protocol; protocols = protocols.with_word before.protocols word }

abbrev pub with_asked : Asks → Before → List ℕ → Before
with_asked asks.Nothing before word = with_free before word
with_asked asks.Protocol before word = with_protocol before word
with_asked asks.Label before word = record before { asks = asks.Nothing }

unfoldable pub with_word : Before → List ℕ → Before
with_word before word = if nat_lt 0 before.brackets then before else with_asked before.asks before word

abbrev pub with_mark : Before → Mark → List Mark → Before
with_mark before mark more =
    if is (codes "{") mark then with_brace before (begins_with more (codes "\n"))
    else if is (codes "}") mark then record before { braces = before.braces - 1; asks = asks.Nothing }
    else if is (codes "(") mark then record before { brackets = min (before.brackets + 1) (2 ^ 64 - 1); asks = asks.Nothing }
    else if is (codes ")") mark then record before { brackets = before.brackets - 1; asks = asks.Nothing }
    else with_word before mark.piece

-- what stands before the marks `more`, behind `mark`; `why` is what was said at `mark`
unfoldable pub behind : Before → Mark → List Mark → Option Why → Before
behind before mark more why =
    if is (codes "\n") mark then with_line_end before
    else with_mark (with_told (with_first before mark.piece) why) mark more
