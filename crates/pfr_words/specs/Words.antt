-- The words of a ruleset text, as pf.conf(5) is written: the text is cut into pieces, and each piece that doesn't
-- only separate words is one.
use Rattle.std.specs.Prelude.{◌≡◌, ◌≢◌, ℕ, zero, suc, ◌+◌, ◌-◌, ◌==◌, ◌&&◌, ◌||◌, Bool, true, false, not, nat_le, if◌then◌else◌, List, [], ◌∷◌, ◌++◌, length, map, take, drop, slice_index, Option, Some, None}
use Rattle.std.specs.Option.{is_some}
use denote.Enum.Bare.{sameb}
use Rattle.pfr_words.specs.contracts.sign.Sign.{the_type}
use Rattle.pfr_words.specs.declared.sign.Sign.{Sign}
use Rattle.pfr_words.specs.declared.sign.Sign.TheVariants as s
use Rattle.pfr_words.specs.declared.cutting.Class.{Class}
use Rattle.pfr_words.specs.declared.cutting.Class.TheVariants as class
use Rattle.pfr_words.specs.declared.word.Token.{Token}
use Rattle.pfr_words.specs.declared.word.Token.TheVariants as t
use Rattle.pfr_words.specs.declared.word.Word.{Word}
use Rattle.pfr_words.specs.declared.word.WordFault.TheVariants.{BadByte, Unterminated, UnknownWord}
use Rattle.pfr_words.specs.Names.{is_name, is_name_byte}

-- ---- signs

unfoldable pub double_sign : ℕ → ℕ → Option Sign
double_sign a b =
    if a == 33 && b == 61 then Some s.NotEqual
    else if a == 60 && b == 61 then Some s.LessOrEqual
    else if a == 60 && b == 62 then Some s.Outside
    else if a == 62 && b == 61 then Some s.GreaterOrEqual
    else if a == 62 && b == 60 then Some s.Between
    else if a == 45 && b == 62 then Some s.Arrow
    else None

unfoldable pub single_sign : ℕ → Option Sign
single_sign a =
    if a == 123 then Some s.OpenBrace
    else if a == 125 then Some s.CloseBrace
    else if a == 40 then Some s.OpenParenthesis
    else if a == 41 then Some s.CloseParenthesis
    else if a == 44 then Some s.Comma
    else if a == 61 then Some s.Equal
    else if a == 60 then Some s.Less
    else if a == 62 then Some s.Greater
    else if a == 33 then Some s.Not
    else if a == 45 then Some s.Minus
    else None

unfoldable pub same_sign : Sign → Sign → Bool
same_sign = sameb the_type

-- ---- where a piece ends

-- a blank, a tab or a carriage return
abbrev pub is_blank : ℕ → Bool
is_blank b = b == 32 || b == 9 || b == 13

-- a letter, a digit or one of `_ . - / : *`
abbrev pub is_plain : ℕ → Bool
is_plain b = is_name_byte b || b == 46 || b == 45 || b == 47 || b == 58 || b == 42

-- a plain word doesn't begin with one of `- / :`
abbrev pub begins_plain : ℕ → Bool
begins_plain b = is_plain b && not (b == 45 || b == 47 || b == 58)

-- Whether a run goes on at this byte, by the byte before and the byte behind. The `-` of an arrow belongs to no
-- plain word. A newline ends a comment and a quote, but behind a backslash it is a blank of it.
abbrev pub goes_on : Class → ℕ → ℕ → ℕ → Bool
goes_on class.Name before b next = is_name_byte b
goes_on class.Plain before b next = is_plain b && not (b == 45 && next == 62)
goes_on class.Comment before b next = not (b == 10) || before == 92
goes_on class.Quote before b next = not (b == 34) && (not (b == 10) || before == 92)

-- how long the run at the front is, if the byte `before` stands before it
abbrev pub run_len : Class → ℕ → List ℕ → ℕ
run_len class before [] = 0
run_len class before (b ∷ text) = if goes_on class before b (slice_index text 0) then 1 + run_len class b text else 0

-- a quoted text with its quotes, of which the second may be missing, by what stands behind the first
abbrev pub quote_len : List ℕ → ℕ
quote_len text = let inner = run_len class.Quote 34 text in if slice_index text inner == 34 then inner + 2 else inner + 1

-- a macro's name with its suffix, which begins with `:` or `/`, by what stands behind the `$`
abbrev pub suffix_len : List ℕ → ℕ
suffix_len text = if slice_index text 0 == 58 || slice_index text 0 == 47 then run_len class.Plain 0 text else 0

abbrev pub use_len : List ℕ → ℕ
use_len text = let name = run_len class.Name 36 text in name + suffix_len (drop name text)

-- the length of the piece at the front of a text that isn't empty
unfoldable pub piece_len : List ℕ → ℕ
piece_len text =
    let a = slice_index text 0 in
    let b = slice_index text 1 in
    if a == 92 then (if b == 10 then 2 else 1)
    else if a == 35 then 1 + run_len class.Comment 35 (drop 1 text)
    else if a == 34 then quote_len (drop 1 text)
    else if a == 36 then 1 + use_len (drop 1 text)
    else if begins_plain a then run_len class.Plain 0 text
    else if is_some (double_sign a b) then 2
    else 1

-- the pieces of a text; its first `skipped` bytes belong to the piece before
abbrev pub pieces_from : ℕ → List ℕ → List (List ℕ)
pieces_from skipped [] = []
pieces_from (suc skipped) (b ∷ text) = pieces_from skipped text
pieces_from zero (b ∷ text) = take (piece_len (b ∷ text)) (b ∷ text) ∷ pieces_from (piece_len (b ∷ text) - 1) text

unfoldable pub pieces : List ℕ → List (List ℕ)
pieces text = pieces_from 0 text

-- ---- what a piece says

-- printable ASCII
abbrev pub is_printable : ℕ → Bool
is_printable b = nat_le 32 b && nat_le b 126

abbrev pub are_quotable : List ℕ → Bool
are_quotable [] = true
are_quotable (b ∷ text) = if is_printable b || is_blank b || b == 10 then are_quotable text else false

-- a quoted text, by what stands behind its first quote
unfoldable pub quoted : List ℕ → Token
quoted text =
    if not (are_quotable text) then t.Bad BadByte
    else if slice_index text (length text - 1) == 34 then t.Quoted (take (length text - 1) text)
    else t.Bad Unterminated

-- a macro use, by what stands behind its `$`
unfoldable pub macro_use : List ℕ → Token
macro_use text =
    let name = run_len class.Name 36 text in
    if is_name (take name text) then t.MacroUse (take name text) (drop name text) else t.Bad UnknownWord

abbrev pub sign_or_bad : ℕ → Option Sign → Option Sign → Token
sign_or_bad a (Some double) single = t.Sign double
sign_or_bad a None (Some single) = t.Sign single
sign_or_bad a None None = if is_printable a then t.Bad UnknownWord else t.Bad BadByte

-- a sign, or what is no word, by its bytes
unfoldable pub sign_of : ℕ → ℕ → Token
sign_of a b = sign_or_bad a (double_sign a b) (single_sign a)

-- the word that a piece is, if it doesn't only separate words
unfoldable pub token_of : List ℕ → Option Token
token_of piece =
    let a = slice_index piece 0 in
    let b = slice_index piece 1 in
    if is_blank a || a == 35 || (a == 92 && b == 10) then None
    else if a == 10 then Some t.LineEnd
    else if a == 34 then Some (quoted (drop 1 piece))
    else if a == 36 then Some (macro_use (drop 1 piece))
    else if begins_plain a then Some (t.Plain piece)
    else Some (sign_of a b)

-- ---- words and their lines

abbrev pub newlines : List ℕ → ℕ
newlines [] = 0
newlines (b ∷ text) = if b == 10 then suc (newlines text) else newlines text

abbrev pub on_line : ℕ → Option Token → List Word
on_line line None = []
on_line line (Some token) = record { line = line; token = token } ∷ []

-- the words of pieces, of which the first begins on this line
abbrev pub words_on : ℕ → List (List ℕ) → List Word
words_on line [] = []
words_on line (piece ∷ more) = on_line line (token_of piece) ++ words_on (line + newlines piece) more

-- ---- braces

abbrev pub is_sign : Sign → Token → Bool
is_sign sign (t.Sign found) = same_sign found sign
is_sign sign _ = false

-- how many braces these words close that they don't open
abbrev pub closers_before : Token → ℕ → ℕ
closers_before token behind = if is_sign s.OpenBrace token then behind - 1 else if is_sign s.CloseBrace token then behind + 1 else behind

abbrev pub closers : List Word → ℕ
closers [] = 0
closers (w ∷ ws) = closers_before w.token (closers ws)

-- a brace that none of the words behind it closes is a fault
abbrev pub closed_by : ℕ → Word → Word
closed_by behind w = if is_sign s.OpenBrace w.token && behind == 0 then record w { token = t.Bad Unterminated } else w

abbrev pub with_braces : List Word → List Word
with_braces [] = []
with_braces (w ∷ ws) = closed_by (closers ws) w ∷ with_braces ws

-- the words of a text
unfoldable pub words : List ℕ → List Word
words text = with_braces (words_on 1 (pieces text))

-- ---- words further down

-- the words, `lines` lines further down
abbrev pub moved : ℕ → List Word → List Word
moved lines ws = map (λ (w : Word). record w { line = lines + w.line }) ws

-- ---- a text behind another

-- a text that ends its last line: its last byte is no backslash, which would put the next line behind it
abbrev pub EndsItsLine : List ℕ → Type 0
EndsItsLine text = slice_index text (length text - 1) ≢ 92

-- a text that is whole: it ends its last line, and each brace that it opens is closed in it
abbrev pub IsWhole : List ℕ → Type 0
IsWhole text = EndsItsLine text × (words text ≡ words_on 1 (pieces text))

-- a text and, on the line below it, another
abbrev pub joined : List ℕ → List ℕ → List ℕ
joined first second = first ++ 10 ∷ second

-- the words of two texts and of the end of the line between them
abbrev pub words_in_turn : List ℕ → List ℕ → List Word
words_in_turn first second = words first ++ record { line = 1 + newlines first; token = t.LineEnd } ∷ moved (1 + newlines first) (words second)
