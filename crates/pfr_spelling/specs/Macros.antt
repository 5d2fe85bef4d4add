-- The macros that a text defines.
use Rattle.std.specs.Prelude.{ℕ, ◌==◌, ◌&&◌, ◌||◌, Bool, true, false, nat_le, if◌then◌else◌, List, [], ◌∷◌, ◌++◌, length, codes, Option, Some, None}
use Rattle.std.specs.Str.{bytes_eq}
use Rattle.pfr_words.specs.declared.word.Token.{Token}
use Rattle.pfr_words.specs.declared.word.Token.TheVariants as token
use Rattle.pfr_words.specs.Words.{token_of}
use Rattle.pfr_marks.specs.declared.mark.Mark.{Mark}
use Rattle.pfr_marks.specs.Marks.{begins_with, is}
use Rattle.pfr_phrases.specs.declared.context.Context.{Context}
use Rattle.pfr_phrases.specs.Contexts.{is_nothing}
use Rattle.pfr_spelling.specs.declared.macros.Macro.{Macro}
use Rattle.pfr_spelling.specs.declared.macros.Spelled.{Spelled}

-- the word that a mark's bytes are
abbrev pub token_in : List ℕ → Option Token
token_in piece = if length piece == 0 then None else token_of piece

abbrev pub is_plain_word : Option Token → Bool
is_plain_word (Some (token.Plain word)) = true
is_plain_word _ = false

abbrev pub is_plain : List ℕ → Bool
is_plain piece = is_plain_word (token_in piece)

-- the value of the last macro of a name, or what was found before
abbrev pub last_value : Option (List ℕ) → List Macro → List ℕ → Option (List ℕ)
last_value found [] name = found
last_value found (here ∷ macros) name = last_value (if bytes_eq here.name name then here.value else found) macros name

-- none is known if 1000 are defined
abbrev pub value_of : List Macro → List ℕ → Option (List ℕ)
value_of macros name = if nat_le 1000 (length macros) then None else last_value None macros name

abbrev pub spelled_with : Option (List ℕ) → List ℕ → Option Spelled
spelled_with None suffix = None
spelled_with (Some word) suffix = Some (record { word = word; suffix = suffix })

abbrev pub spelled_by : List Macro → Option Token → Option Spelled
spelled_by macros (Some (token.Plain word)) = Some (record { word = word; suffix = [] })
spelled_by macros (Some (token.MacroUse name suffix)) = spelled_with (value_of macros name) suffix
spelled_by macros _ = None

-- the word that a piece stands for: itself, or the value of the macro that it uses, with its suffix
abbrev pub spelled_out : List Macro → List ℕ → Option Spelled
spelled_out macros piece = spelled_by macros (token_in piece)

abbrev pub used_by : List Macro → Option Token → Option (List ℕ)
used_by macros (Some (token.MacroUse name suffix)) = if length suffix == 0 then value_of macros name else None
used_by macros _ = None

-- the value of the macro that a piece uses without a suffix
abbrev pub used_value : List Macro → List ℕ → Option (List ℕ)
used_value macros piece = used_by macros (token_in piece)

-- ---- what a value is

-- the end of a continued line is a blank
abbrev pub unfolded_byte : (byte next : ℕ) → ℕ
unfolded_byte byte next = if byte == 10 || byte == 92 && next == 10 then 32 else byte

abbrev pub first_byte : List ℕ → ℕ
first_byte [] = 0
first_byte (b ∷ text) = b

abbrev pub first_unfolded : List ℕ → ℕ
first_unfolded [] = 0
first_unfolded (b ∷ text) = unfolded_byte b (first_byte text)

-- a quoted text on one line
abbrev pub unfolded : List ℕ → List ℕ
unfolded [] = []
unfolded (b ∷ text) = first_unfolded (b ∷ text) ∷ unfolded text

-- a byte that may stand in the value of a macro, before another one
abbrev pub is_sound_byte : (byte next : ℕ) → Bool
is_sound_byte byte next =
    if byte == 35 || byte == 36 then false
    else if byte == 92 then next == 10
    else if byte == 9 || byte == 10 || byte == 13 then true
    else nat_le 32 byte && nat_le byte 126

abbrev pub begins_sound : List ℕ → Bool
begins_sound [] = true
begins_sound (b ∷ text) = is_sound_byte b (first_byte text)

abbrev pub is_sound : List ℕ → Bool
is_sound [] = true
is_sound (b ∷ text) = if begins_sound (b ∷ text) then is_sound text else false

abbrev pub quoted_value : List ℕ → Option (List ℕ)
quoted_value text = if is_sound text then Some (unfolded text) else None

abbrev pub suffixed : Option (List ℕ) → List ℕ → Option (List ℕ)
suffixed None suffix = None
suffixed (Some word) suffix = Some (word ++ suffix)

abbrev pub use_value : List Macro → List ℕ → List ℕ → Option (List ℕ)
use_value macros name suffix = suffixed (value_of macros name) suffix

abbrev pub value_by : List Macro → Option Token → Option (List ℕ)
value_by macros (Some (token.Plain word)) = Some word
value_by macros (Some (token.Quoted text)) = quoted_value text
value_by macros (Some (token.MacroUse name suffix)) = use_value macros name suffix
value_by macros _ = None

-- what a piece gives to the value of a macro
abbrev pub piece_value : List Macro → List ℕ → Option (List ℕ)
piece_value macros piece = value_by macros (token_in piece)

abbrev pub with_blank : List ℕ → List ℕ
with_blank [] = []
with_blank (b ∷ value) = (b ∷ value) ++ 32 ∷ []

-- a value with what one piece more gives
abbrev pub with_piece : List ℕ → Option (List ℕ) → List ℕ
with_piece value None = value
with_piece value (Some piece) = with_blank value ++ piece

-- the value is still known: 4096 bytes at most
abbrev pub is_known : List ℕ → Option (List ℕ) → Bool
is_known value None = false
is_known value (Some piece) = nat_le (length (with_blank value ++ piece)) 4096

-- the value of the pieces up to the line's end, behind a part of it
abbrev pub value_from : List Macro → List ℕ → List Mark → Option (List ℕ)
value_from macros value [] = Some value
value_from macros value (mark ∷ marks) =
    if is (codes "\n") mark then Some value
    else if is_known value (piece_value macros mark.piece) then value_from macros (with_piece value (piece_value macros mark.piece)) marks
    else None

-- a macro is defined at the front of marks
abbrev pub defines : Context → List Mark → Bool
defines context [] = false
defines context (name ∷ marks) = is_nothing context.within && begins_with marks (codes "=")

abbrev pub defined_by : List Macro → List Mark → List Macro
defined_by macros (name ∷ equals ∷ marks) = record { name = name.piece; value = value_from macros [] marks } ∷ []
defined_by macros _ = []

-- the macro that is defined at the front of marks
unfoldable pub definition_in : List Macro → Context → List Mark → List Macro
definition_in macros context marks = if defines context marks then defined_by macros marks else []
