-- How words are read: what a reader has before it, what a function that reads does with it, and the fault of a word
-- that doesn't belong where it stands.
use Rattle.std.specs.Prelude.{◌≡◌, ◌≢◌, ℕ, zero, suc, ◌+◌, ◌==◌, ◌&&◌, Bool, true, false, not, nat_le, if◌then◌else◌, List, [], ◌∷◌, length, Option, Some, None, Result, Ok, Err}
use Rattle.std.specs.Str.{bytes_eq}
use Rattle.pfr_net.specs.Notation.{number}
use Rattle.pfr_words.specs.declared.sign.Sign.{Sign}
use Rattle.pfr_words.specs.declared.sign.Sign.TheVariants as s
use Rattle.pfr_words.specs.declared.word.Token.{Token}
use Rattle.pfr_words.specs.declared.word.Token.TheVariants as t
use Rattle.pfr_words.specs.declared.word.Word.{Word}
use Rattle.pfr_words.specs.declared.word.WordFault.{WordFault}
use Rattle.pfr_words.specs.declared.word.WordFault.TheVariants as w
use Rattle.pfr_words.specs.Words.{is_sign}
use Rattle.pfr_words.specs.Names.{is_grammar_word, is_left_out as is_left_out_word}
use Rattle.pfr_terms.specs.declared.error.ConfError.{ConfError}
use Rattle.pfr_terms.specs.declared.error.ConfErrorKind.{ConfErrorKind}
use Rattle.pfr_terms.specs.declared.error.ConfErrorKind.TheVariants.{BadByte, Unterminated, UnknownWord, LeftOut, BadNumber, Memory}
use Rattle.pfr_terms.specs.declared.name.Name.{Name}
use Rattle.pfr_terms.specs.declared.name.MacroUse.{MacroUse}
use Rattle.pfr_terms.specs.Faults.{lower}

pub record Input : Type 0 where
  -- the words that are left
  pub words : List Word
  -- the line of the last word that was read
  pub line : ℕ
  -- within the braces of a list, where a newline is a blank
  pub in_list : Bool
  -- whether reading goes on behind a word that is at fault
  pub gathers : Bool
  -- the lowest of the faults that reading went on behind
  pub gathered : Option ConfError

-- a text, whose first fault ends the reading
abbrev pub start : List Word → Input
start words = record { words = words; line = 1; in_list = false; gathers = false; gathered = None }

-- a macro's value, of whose faults the lowest is reported
abbrev pub of_value : List Word → Input
of_value words = record { words = words; line = 1; in_list = false; gathers = true; gathered = None }

-- ---- functions that read

abbrev pub Outcome : Type 0 → Type 0
Outcome A = Result (A × Input) ConfError

abbrev pub Parser : Type 0 → Type 0
Parser A = Input → Outcome A

abbrev pub and_then : {A B : Type 0} → Outcome A → (A → Parser B) → Outcome B
and_then (Ok p) f = f p.0 p.1
and_then (Err e) f = Err e

infixl 10 ◌>>=◌
abbrev pub ◌>>=◌ : {A B : Type 0} → Parser A → (A → Parser B) → Parser B
p >>= f = λ i. and_then (p i) f

abbrev pub pure : {A : Type 0} → A → Parser A
pure a = λ i. Ok (a, i)

-- what a function that reads promises: the outcome, unless memory is refused
abbrev pub Reads : {A : Type 0} → Outcome A → Result A ConfError → Input → Type 0
Reads outcome (Ok a) new = outcome ≡ Ok (a, new)
Reads outcome (Err e) new = e.kind ≢ Memory → outcome ≡ Err e

-- the same for a function that leaves no input
abbrev pub Gives : {A : Type 0} → Result A ConfError → Result A ConfError → Type 0
Gives outcome (Ok a) = outcome ≡ Ok a
Gives outcome (Err e) = e.kind ≢ Memory → outcome ≡ Err e

-- and for a fault
abbrev pub Refuses : ConfError → ConfError → Type 0
Refuses fault e = e.kind ≢ Memory → e ≡ fault

-- ---- the next word

abbrev pub is_line_end : Token → Bool
is_line_end t.LineEnd = true
is_line_end _ = false

abbrev pub is_done : Input → Bool
is_done i = length i.words == 0

abbrev pub turns : Input → ℕ
turns i = length i.words + 1

abbrev pub ends_line : List Word → Bool
ends_line [] = true
ends_line (first ∷ words) = is_line_end first.token

unfoldable pub at_line_end : Input → Bool
at_line_end i = ends_line i.words

abbrev pub words_behind_line_ends : List Word → List Word
words_behind_line_ends [] = []
words_behind_line_ends (first ∷ words) = if is_line_end first.token then words_behind_line_ends words else first ∷ words

abbrev pub skip_line_ends : Input → Input
skip_line_ends i = record i { words = words_behind_line_ends i.words }

abbrev pub stepped : List Word → Input → Input
stepped [] i = i
stepped (first ∷ words) i = record i { words = words; line = first.line }

abbrev pub step : Input → Input
step i = stepped i.words i

-- past the next word
unfoldable pub next : Input → Input
next i = if i.in_list then skip_line_ends (step i) else step i

-- past a brace that opens or closes a list
unfoldable pub enter_list : Input → Input
enter_list i = next (record i { in_list = true })

unfoldable pub leave_list : Input → Input
leave_list i = next (record i { in_list = false })

abbrev pub line_of : List Word → ℕ → ℕ
line_of [] line = line
line_of (first ∷ words) line = if is_line_end first.token then line else first.line

-- the line of a fault at the next word, or of the word before if a word is missing
unfoldable pub line_ahead : Input → ℕ
line_ahead i = line_of i.words i.line

abbrev pub first_is : Sign → List Word → Bool
first_is sign [] = false
first_is sign (first ∷ words) = is_sign sign first.token

unfoldable pub sees_sign : Sign → Input → Bool
sees_sign sign i = first_is sign i.words

abbrev pub sign_in : Token → Option Sign
sign_in (t.Sign sign) = Some sign
sign_in _ = None

abbrev pub plain_in : Token → Option (List ℕ)
plain_in (t.Plain word) = Some word
plain_in _ = None

abbrev pub quoted_in : Token → Option (List ℕ)
quoted_in (t.Quoted text) = Some text
quoted_in _ = None

abbrev pub macro_in : ℕ → Token → Option MacroUse
macro_in line (t.MacroUse name suffix) = Some (record { line = line; name = name; suffix = suffix })
macro_in line _ = None

abbrev pub of_first : {A : Type 0} → (Word → Option A) → List Word → Option A
of_first f [] = None
of_first f (first ∷ words) = f first

unfoldable pub sign_ahead : Input → Option Sign
sign_ahead i = of_first (λ w. sign_in w.token) i.words

unfoldable pub plain_ahead : Input → Option (List ℕ)
plain_ahead i = of_first (λ w. plain_in w.token) i.words

unfoldable pub quoted_ahead : Input → Option (List ℕ)
quoted_ahead i = of_first (λ w. quoted_in w.token) i.words

unfoldable pub macro_ahead : Input → Option MacroUse
macro_ahead i = of_first (λ w. macro_in w.line w.token) i.words

abbrev pub is_word : List ℕ → Option (List ℕ) → Bool
is_word word None = false
is_word word (Some found) = bytes_eq found word

unfoldable pub sees_word : List ℕ → Input → Bool
sees_word word i = is_word word (plain_ahead i)

-- ---- faults

unfoldable pub kind_of : WordFault → ConfErrorKind
kind_of w.BadByte = BadByte
kind_of w.Unterminated = Unterminated
kind_of w.UnknownWord = UnknownWord

abbrev pub unknown_word : ℕ → ConfError
unknown_word line = record { line = line; kind = UnknownWord }

abbrev pub left_out_at : ℕ → List ℕ → ConfError
left_out_at line name = record { line = line; kind = LeftOut (record { name = name }) }

-- a plain word that doesn't belong where it stands
abbrev pub plain_refusal : ℕ → List ℕ → ConfError
plain_refusal line word = if is_left_out_word word then left_out_at line word else unknown_word line

abbrev pub token_refusal : ℕ → ℕ → Token → ConfError
token_refusal before line t.LineEnd = unknown_word before
token_refusal before line (t.Bad fault) = record { line = line; kind = kind_of fault }
token_refusal before line (t.Plain word) = plain_refusal line word
token_refusal before line _ = unknown_word line

-- a word that doesn't belong where it stands, behind one on the line `before`; at the end of a line a word is missing
abbrev pub refusal_of : ℕ → Word → ConfError
refusal_of before w = token_refusal before w.line w.token

abbrev pub refusal_at : ℕ → List Word → ConfError
refusal_at before [] = unknown_word before
refusal_at before (first ∷ words) = refusal_of before first

-- the one fault if no rule reads the next word
unfoldable pub refusal : Input → ConfError
refusal i = refusal_at i.line i.words

unfoldable pub fault : ConfErrorKind → Input → ConfError
fault kind i = record { line = line_ahead i; kind = kind }

unfoldable pub left_out : List ℕ → Input → ConfError
left_out name i = left_out_at (line_ahead i) name

abbrev pub refuse : {A : Type 0} → Parser A
refuse = λ i. Err (refusal i)

abbrev pub faulty : {A : Type 0} → ConfErrorKind → Parser A
faulty kind = λ i. Err (fault kind i)

abbrev pub leave_out : {A : Type 0} → List ℕ → Parser A
leave_out name = λ i. Err (left_out name i)

-- ---- faults behind which reading goes on

-- behind the next word, whose fault is gathered; a text is refused for it
unfoldable pub blame : ConfError → Parser (Unit {0})
blame e = λ i. if i.gathers then Ok (tt, next (record i { gathered = Some (lower i.gathered e) })) else Err e

-- a fault of what was read that isn't the fault of a single word is gathered
unfoldable pub note : ConfError → Parser (Unit {0})
note e = λ i. Ok (tt, record i { gathered = Some (lower i.gathered e) })

abbrev pub blamed : (Input → ConfError) → Parser (Unit {0})
blamed f = λ i. blame (f i) i

abbrev pub pass_over_by : Option (List ℕ) → Parser (Unit {0})
pass_over_by None = refuse
pass_over_by (Some word) = λ i. if i.gathers && is_left_out_word word then blame (left_out word i) i else Err (refusal i)

-- behind a word that doesn't belong where it stands, if it is left out and its fault is gathered
unfoldable pub pass_over : Parser (Unit {0})
pass_over = λ i. pass_over_by (plain_ahead i) i

-- with what stands for the item that is missing
abbrev pub passing : {A : Type 0} → A → Parser A
passing x = do
  _ ← pass_over
  pure x

-- ---- what is read in turns
-- A turn goes on with what was read so far, or ends. Each reads a word, so that one turn more than there are words is
-- enough.
unfoldable pub loop_from : {S A : Type 0} → ((S → Parser A) → S → Parser A) → ℕ → S → Parser A
loop_from turn zero so_far = refuse
loop_from turn (suc n) so_far = turn (loop_from turn n) so_far

abbrev pub loop : {S A : Type 0} → ((S → Parser A) → S → Parser A) → S → Parser A
loop turn so_far = λ i. loop_from turn (turns i) so_far i

-- ---- single words

unfoldable pub eat_sign : Sign → Parser Bool
eat_sign sign = λ i. Ok (sees_sign sign i, if sees_sign sign i then next i else i)

unfoldable pub eat_word : List ℕ → Parser Bool
eat_word word = λ i. Ok (sees_word word i, if sees_word word i then next i else i)

unfoldable pub open_list : Parser Bool
open_list = λ i. Ok (sees_sign s.OpenBrace i, if sees_sign s.OpenBrace i then enter_list i else i)

unfoldable pub close_list : Parser Bool
close_list = λ i. Ok (sees_sign s.CloseBrace i, if sees_sign s.CloseBrace i then leave_list i else i)

abbrev pub sign_or_more : Sign → (Unit {0} → Parser (Unit {0})) → Unit {0} → Parser (Unit {0})
sign_or_more sign more done = do
  found ← eat_sign sign
  if found then pure tt else (do
    _ ← pass_over
    more tt)

-- past this sign, and past words that are gathered as faults
unfoldable pub expect_sign : Sign → Parser (Unit {0})
expect_sign sign = loop (sign_or_more sign) tt

abbrev pub end_or_more : (Unit {0} → Parser (Unit {0})) → Unit {0} → Parser (Unit {0})
end_or_more more done = λ i. if is_done i then pure tt i else (do
  _ ← pass_over
  more tt) i

-- at the end of a macro's value, where no word is left
unfoldable pub finish : Parser (Unit {0})
finish = loop end_or_more tt

unfoldable pub expect_word : List ℕ → Parser (Unit {0})
expect_word word = do
  found ← eat_word word
  if found then pure tt else refuse

-- past the next word, whatever it is
abbrev pub taken : Parser (Unit {0})
taken = λ i. Ok (tt, next i)

-- the next word, with its line
unfoldable pub named : List ℕ → Parser Name
named text = λ i. Ok (record { line = line_ahead i; text = text }, next i)

-- no word of pf.conf(5)
unfoldable pub is_free : List ℕ → Bool
is_free word = not (is_grammar_word word) && not (is_left_out_word word)

-- the next word, which doesn't belong where it stands, with its line
unfoldable pub passed : List ℕ → Parser Name
passed text = λ i. passing (record { line = line_ahead i; text = text }) i

abbrev pub free_word_by : Option (List ℕ) → Parser Name
free_word_by None = refuse
free_word_by (Some word) = if is_free word then named word else passed word

unfoldable pub free_word : Parser Name
free_word = λ i. free_word_by (plain_ahead i) i

abbrev pub number_of : Option (List ℕ) → Option ℕ
number_of None = None
number_of (Some word) = number word

unfoldable pub number_ahead : Input → Option ℕ
number_ahead i = number_of (plain_ahead i)

abbrev pub number_by : ℕ → ℕ → Option ℕ → Parser ℕ
number_by low high None = passing high
number_by low high (Some n) = if nat_le low n && nat_le n high then (do _ ← taken; pure n) else (do _ ← blamed (fault BadNumber); pure high)

-- a decimal number from low to high
unfoldable pub number_in : ℕ → ℕ → Parser ℕ
number_in low high = λ i. number_by low high (number_ahead i) i
