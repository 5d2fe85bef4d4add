-- A text in which no word may be refused has no remarks.
use Rattle.std.proofs.Common.{◌≡◌, ℕ, ◌+◌, ◌-◌, ◌^◌, ◌==◌, ◌&&◌, Bool, true, false, nat_lt, if◌then◌else◌, min, List, [], ◌∷◌, ◌++◌, codes, Option, Some, None, refl, subst, sym}
use Rattle.std.specs.Str.{bytes_eq}
use Rattle.pfr_marks.specs.declared.mark.Mark.{Mark}
use Rattle.pfr_marks.specs.Marks.{begins_with, is, marks}
use Rattle.pfr_marks.specs.Braces.{are_closed}
use Rattle.pfr_remarks.specs.declared.before.Asks.{Asks}
use Rattle.pfr_remarks.specs.declared.before.Asks.TheVariants as asks
use Rattle.pfr_remarks.specs.declared.before.Before.{Before}
use Rattle.pfr_remarks.specs.declared.before.Keyword.{Keyword}
use Rattle.pfr_remarks.specs.declared.before.Keyword.TheVariants as keyword
use Rattle.pfr_remarks.specs.declared.remark.Remark.{Remark}
use Rattle.pfr_remarks.specs.declared.why.Why.{Why}
use Rattle.pfr_remarks.specs.Befores.{beginning, behind, is_anchor, is_enclosed, keyword_of, with_asked, with_brace, with_first, with_free, with_line_end, with_mark, with_meaning, with_protocol, with_word}
use Rattle.pfr_remarks.specs.Finding.{at_first, remark_in, remarks, remarks_from}
use Rattle.pfr_remarks.specs.Laws.{AreOtherWords, may_be_refused}
use Rattle.pfr_remarks.specs.Protocols as protocols
use Rattle.pfr_remarks.specs.Remarks.{asked_refused, meaning_refused, refused, said_at, word_refused}

-- the next word is a label
abbrev pub is_label : Asks → Bool
is_label asks.Label = true
is_label _ = false

-- ---- at a word nothing is said

meaning_none : (before : Before) (known : Option Keyword) (more : List Mark) → may_be_refused known ≡ false → meaning_refused before known more ≡ None
meaning_none before None more is = refl
meaning_none before (Some keyword.Protocol) more is = refl
meaning_none before (Some keyword.Target) more is = refl
meaning_none before (Some keyword.Label) more is = refl
meaning_none before (Some keyword.Port) more is = absurd (cc)
meaning_none before (Some keyword.Type) more is = absurd (cc)
meaning_none before (Some keyword.Keep) more is = absurd (cc)

asked_none : (asked : Asks) (before : Before) (word : List ℕ) (more : List Mark) → is_label asked ≡ false → may_be_refused (keyword_of word) ≡ false
    → asked_refused asked before word more ≡ None
asked_none asks.Nothing before word more free is = meaning_none before (keyword_of word) more is
asked_none asks.Protocol before word more free is = refl
asked_none asks.Label before word more free is = absurd (cc)

unless_enclosed : (enclosed : Bool) (why : Option Why) → why ≡ None → (if enclosed then None else why) ≡ None
unless_enclosed true why is = refl
unless_enclosed false why is = is

refused_none : (before : Before) (word : List ℕ) (more : List Mark) → is_label before.asks ≡ false → may_be_refused (keyword_of word) ≡ false
    → refused before word more ≡ None
unfolding refused
refused_none before word more free is =
    unless_enclosed (is_enclosed before) (word_refused before word more) (asked_none before.asks before word more free is)

said_none : (before : Before) (mark : Mark) (more : List Mark) → is_label before.asks ≡ false → may_be_refused (keyword_of mark.piece) ≡ false
    → said_at before mark more ≡ None
unfolding said_at
said_none before mark more free is = rw (refused_none before mark.piece more free is) refl

-- ---- and the next word is no label

-- one of two
either : (test : Bool) (one other : Before) → is_label one.asks ≡ false → is_label other.asks ≡ false → is_label (if test then one else other).asks ≡ false
either true one other a b = a
either false one other a b = b

behind_line : (before : Before) → is_label before.asks ≡ false → is_label (with_line_end before).asks ≡ false
behind_line before free = either (before.braces == 0) beginning before refl free

behind_brace : (before : Before) (ends_line : Bool) → is_label before.asks ≡ false → is_label (with_brace before ends_line).asks ≡ false
behind_brace before ends_line free =
    either (ends_line && is_anchor before.statement) beginning (record before { braces = min (before.braces + 1) (2 ^ 64 - 1) }) refl free

behind_meaning : (before : Before) (known : Option Keyword) → is_label before.asks ≡ false → may_be_refused known ≡ false
    → is_label (with_meaning before known).asks ≡ false
behind_meaning before None free is = free
behind_meaning before (Some keyword.Protocol) free is = refl
behind_meaning before (Some keyword.Target) free is = free
behind_meaning before (Some keyword.Port) free is = free
behind_meaning before (Some keyword.Type) free is = free
behind_meaning before (Some keyword.Keep) free is = free
behind_meaning before (Some keyword.Label) free is = absurd (cc)

behind_free : (before : Before) (word : List ℕ) → is_label before.asks ≡ false → may_be_refused (keyword_of word) ≡ false
    → is_label (with_free before word).asks ≡ false
behind_free before word free is =
    either (nat_lt 0 before.braces) before (with_meaning before (keyword_of word)) free (behind_meaning before (keyword_of word) free is)

nothing_or_protocol : (test : Bool) → is_label (if test then asks.Nothing else asks.Protocol) ≡ false
nothing_or_protocol true = refl
nothing_or_protocol false = refl

behind_protocol : (before : Before) (word : List ℕ) → is_label before.asks ≡ false → is_label (with_protocol before word).asks ≡ false
behind_protocol before word free =
    either (bytes_eq word (codes ",")) before
    (record before { asks = if before.braces == 0 then asks.Nothing else asks.Protocol; protocols = protocols.with_word before.protocols word })
    free (nothing_or_protocol (before.braces == 0))

behind_asked : (asked : Asks) (before : Before) (word : List ℕ) → is_label before.asks ≡ false → may_be_refused (keyword_of word) ≡ false
    → is_label (with_asked asked before word).asks ≡ false
behind_asked asks.Nothing before word free is = behind_free before word free is
behind_asked asks.Protocol before word free is = behind_protocol before word free
behind_asked asks.Label before word free is = refl

behind_word : (before : Before) (word : List ℕ) → is_label before.asks ≡ false → may_be_refused (keyword_of word) ≡ false
    → is_label (with_word before word).asks ≡ false
unfolding with_word
behind_word before word free is =
    either (nat_lt 0 before.brackets) before (with_asked before.asks before word) free (behind_asked before.asks before word free is)

behind_mark : (before : Before) (mark : Mark) (more : List Mark) → is_label before.asks ≡ false → may_be_refused (keyword_of mark.piece) ≡ false
    → is_label (with_mark before mark more).asks ≡ false
behind_mark before mark more free other =
    either (is (codes "{") mark) _ _ (behind_brace before (begins_with more (codes "\n")) free)
    (either (is (codes "}") mark) _ _ refl (either (is (codes "(") mark) _ _ refl (either (is (codes ")") mark) _ _ refl (behind_word before mark.piece free other))))

behind_first : (before : Before) (mark : Mark) (more : List Mark) → is_label before.asks ≡ false → may_be_refused (keyword_of mark.piece) ≡ false
    → is_label (behind before mark more None).asks ≡ false
unfolding behind
behind_first before mark more free other =
    either (is (codes "\n") mark) (with_line_end before) (with_mark (with_first before mark.piece) mark more)
    (behind_line before free) (behind_mark (with_first before mark.piece) mark more free other)

-- ---- so of none is

none_from : (before : Before) (marks : List Mark) → is_label before.asks ≡ false → AreOtherWords marks → remarks_from before marks ≡ []
none_from before [] free are = refl
none_from before (mark ∷ marks) free are =
    subst (λ why. remark_in mark why ++ remarks_from (behind before mark marks why) marks ≡ []) (sym (said_none before mark marks free are.0))
    (none_from (behind before mark marks None) marks (behind_first before mark marks free are.0) are.1)

if_closed : (closed : Bool) (found : List Remark) → found ≡ [] → (if closed then found else []) ≡ []
if_closed true found none = none
if_closed false found none = refl

pub nothing_said : (text : List ℕ) → AreOtherWords (marks text) → remarks text ≡ []
unfolding remarks
nothing_said text are = if_closed (are_closed (marks text)) (remarks_from at_first (marks text)) (none_from at_first (marks text) refl are)
