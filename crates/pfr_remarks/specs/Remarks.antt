-- What pfctl(8) refuses at a word.
use Rattle.std.specs.Prelude.{ℕ, ◌-◌, ◌==◌, ◌&&◌, Bool, false, not, nat_lt, if◌then◌else◌, List, [], ◌∷◌, length, codes, Option, Some, None}
use Rattle.pfr_marks.specs.declared.mark.Mark.{Mark}
use Rattle.pfr_marks.specs.Marks.{begins_with}
use Rattle.pfr_remarks.specs.declared.before.Asks.{Asks}
use Rattle.pfr_remarks.specs.declared.before.Asks.TheVariants as asks
use Rattle.pfr_remarks.specs.declared.before.Before.{Before}
use Rattle.pfr_remarks.specs.declared.before.Keyword.{Keyword}
use Rattle.pfr_remarks.specs.declared.before.Keyword.TheVariants as keyword
use Rattle.pfr_remarks.specs.declared.remark.Remark.{Remark}
use Rattle.pfr_remarks.specs.declared.why.Why.{Why}
use Rattle.pfr_remarks.specs.declared.why.Why.TheVariants as why
use Rattle.pfr_remarks.specs.Befores.{is_block, is_enclosed, is_filter, is_rule, keyword_of}
use Rattle.pfr_remarks.specs.Protocols as protocols
use Rattle.pfr_remarks.specs.Told.{has_why}

abbrev pub is_quoted : List ℕ → Bool
is_quoted [] = false
is_quoted (b ∷ word) = b == 34

-- how many bytes a label has: those within its quotes, or all of a word
abbrev pub label_len : List ℕ → ℕ
label_len word = if is_quoted word then length word - 2 else length word

-- a port of a rule's source or destination; what is behind `->` is the target's
abbrev pub port_refused : Before → Option Why
port_refused before = if is_rule before.statement && not before.target then protocols.port_refused before.protocols else None

abbrev pub type_refused : Before → Option Why
type_refused before = if is_rule before.statement then protocols.type_refused before.protocols else None

abbrev pub keep_refused : Before → List Mark → Option Why
keep_refused before more = if is_block before.statement && begins_with more (codes "state") then Some why.BlockKeepsState else None

-- a label has at most 63 bytes, which is PF_RULE_LABEL_SIZE of FreeBSD less the zero at its end
abbrev pub label_refused : Before → List ℕ → Option Why
label_refused before word = if is_filter before.statement && nat_lt 63 (label_len word) then Some why.LongLabel else None

abbrev pub keyword_refused : Before → Keyword → List Mark → Option Why
keyword_refused before keyword.Port more = port_refused before
keyword_refused before keyword.Type more = type_refused before
keyword_refused before keyword.Keep more = keep_refused before more
keyword_refused before keyword.Protocol more = None
keyword_refused before keyword.Label more = None
keyword_refused before keyword.Target more = None

abbrev pub meaning_refused : Before → Option Keyword → List Mark → Option Why
meaning_refused before (Some known) more = keyword_refused before known more
meaning_refused before None more = None

-- a word that nothing asks for
abbrev pub free_refused : Before → List ℕ → List Mark → Option Why
free_refused before word more = meaning_refused before (keyword_of word) more

abbrev pub asked_refused : Asks → Before → List ℕ → List Mark → Option Why
asked_refused asks.Nothing before word more = free_refused before word more
asked_refused asks.Protocol before word more = None
asked_refused asks.Label before word more = label_refused before word

-- a word outside of braces and brackets
abbrev pub word_refused : Before → List ℕ → List Mark → Option Why
word_refused before word more = asked_refused before.asks before word more

-- why a word is refused, before other marks
unfoldable pub refused : Before → List ℕ → List Mark → Option Why
refused before word more = if is_enclosed before then None else word_refused before word more

abbrev pub said_once : Before → Option Why → Option Why
said_once before None = None
said_once before (Some why) = if has_why before.told why then None else Some why

-- what is said at a mark: why its word is refused, unless that was said of the rule
unfoldable pub said_at : Before → Mark → List Mark → Option Why
said_at before mark more = said_once before (refused before mark.piece more)

abbrev pub remark_at : Mark → Why → Remark
remark_at mark why = record { place = mark.start; word = mark.piece; why = why }
