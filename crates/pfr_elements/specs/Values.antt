-- The values of macros, as pf.conf(5) has them: text, whose words stand where the macro is used.
use Rattle.std.specs.Prelude.{◌≡◌, ◌≢◌, ℕ, ◌+◌, ◌-◌, ◌==◌, ◌&&◌, ◌||◌, Bool, true, false, not, nat_lt, nat_le, if◌then◌else◌, List, [], ◌∷◌, ◌++◌, length, Option, Some, None, Result, Ok, Err}
use Rattle.std.specs.List.{slice_get}
use Rattle.pfr_words.specs.declared.sign.Sign.TheVariants as s
use Rattle.pfr_words.specs.declared.word.Token.{Token}
use Rattle.pfr_words.specs.declared.word.Token.TheVariants as t
use Rattle.pfr_words.specs.declared.word.Word.{Word}
use Rattle.pfr_words.specs.Words.{words, is_sign, is_blank}
use Rattle.pfr_terms.specs.declared.error.ConfError.{ConfError}
use Rattle.pfr_terms.specs.declared.error.ConfErrorKind.TheVariants.{UndefinedMacro, Memory}
use Rattle.pfr_terms.specs.declared.name.MacroUse.{MacroUse}
use Rattle.pfr_terms.specs.Input.{unknown_word, plain_in}
use Rattle.pfr_elements.specs.declared.value.Value.{Value}
use Rattle.pfr_elements.specs.declared.value.Value.TheVariants.{Text, TooLong}
use Rattle.pfr_elements.specs.declared.value.Draft.{Draft}
use Rattle.pfr_elements.specs.declared.definition.Text as definition
use Rattle.pfr_elements.specs.declared.definition.Definition.{Definition}
use Rattle.pfr_elements.specs.declared.definition.Definition.TheVariants as d
use Rattle.pfr_elements.specs.declared.definition.Taken.{Taken}
use Rattle.pfr_elements.specs.declared.definition.Taken.TheVariants as taken
use Rattle.pfr_elements.specs.declared.macros.Macros.{Macros}
use Rattle.pfr_elements.specs.Names.{last_place}

-- what is made, unless memory is refused
abbrev pub Makes : {A : Type 0} → A → Result A ConfError → Type 0
Makes made (Ok a) = a ≡ made
Makes made (Err e) = e.kind ≡ Memory

-- the same for what a fault comes to; the fault isn't that memory was refused
abbrev pub MakesUnless : {A : Type 0} → ConfError → A → Result A ConfError → Type 0
MakesUnless fault made (Ok a) = (fault.kind ≢ Memory) × (a ≡ made)
MakesUnless fault made (Err e) = e.kind ≡ Memory

-- ---- words of a value

-- a value has no comments
abbrev pub has_comment : List ℕ → Bool
has_comment [] = false
has_comment (b ∷ text) = if b == 35 then true else has_comment text

abbrev pub depth_behind_sign : ℕ → Token → Option ℕ
depth_behind_sign depth token =
    if is_sign s.OpenBrace token then Some (depth + 1)
    else if is_sign s.CloseBrace token then (if depth == 0 then None else Some (depth - 1))
    else Some depth

-- how many braces are open behind a word, if it may stand in a value
abbrev pub depth_behind : ℕ → Token → Option ℕ
depth_behind depth (t.Plain word) = Some depth
depth_behind depth (t.Sign sign) = depth_behind_sign depth (t.Sign sign)
depth_behind depth _ = None

abbrev pub sound_by : (ℕ → Bool) → Option ℕ → Bool
sound_by more None = false
sound_by more (Some depth) = more depth

-- whether all words may stand in a value, if `depth` braces are open before them
abbrev pub are_sound : ℕ → List Word → Bool
are_sound depth [] = true
are_sound depth (w ∷ ws) = sound_by (λ d. are_sound d ws) (depth_behind depth w.token)

-- plain words and signs, in which each brace has its partner
unfoldable pub is_sound : List ℕ → Bool
is_sound text = not (has_comment text) && are_sound 0 (words text)

-- the word of a value of one plain word
abbrev pub only_plain : List Word → Option (List ℕ)
only_plain [] = None
only_plain (w ∷ []) = plain_in w.token
only_plain (w ∷ v ∷ ws) = None

-- ---- definitions

abbrev pub latest_at : List Definition → Option ℕ → Option Definition
latest_at definitions None = None
latest_at definitions (Some place) = slice_get definitions place

-- what the last definition of this name says
abbrev pub latest : List ℕ → Macros → Option Definition
latest name macros = latest_at macros.definitions (last_place name macros.names)

-- the first byte that is no blank
abbrev pub first_byte : List ℕ → ℕ
first_byte [] = 0
first_byte (b ∷ text) = if is_blank b then first_byte text else b

abbrev pub begins_list : List ℕ → Bool
begins_list text = first_byte text == 123

abbrev pub is_long_list : List ℕ → Bool → Bool
is_long_list before is_list = if first_byte before == 0 then is_list else begins_list before

abbrev pub with_text_behind : List ℕ → Value → Value
with_text_behind text (Text before) = Text (before ++ 32 ∷ text)
with_text_behind text (TooLong is_list) = TooLong is_list

-- a quoted text or a plain word behind what is there
unfoldable pub with_text : List ℕ → Draft → Draft
with_text text draft = record draft { value = with_text_behind text draft.value }

-- whether the text of a macro may still be put behind another: a value that holds those of others has at most 2^20
-- bytes, and all values together hold at most 2^22 bytes of others
abbrev pub fits : List ℕ → List ℕ → ℕ → Bool
fits before text spliced = nat_le (length before + length text) 1048576 && nat_le (spliced + length text) 4194304

abbrev pub with_macro_text : List ℕ → ℕ → List ℕ → Draft
with_macro_text before spliced text =
    if fits before text spliced then record { value = Text (before ++ 32 ∷ text); spliced = spliced + length text }
    else record { value = TooLong (is_long_list before (begins_list text)); spliced = spliced }

abbrev pub with_macro_behind : List ℕ → ℕ → Value → Draft
with_macro_behind before spliced (Text text) = with_macro_text before spliced text
with_macro_behind before spliced (TooLong is_list) =
    record { value = TooLong (is_long_list before is_list); spliced = spliced }

abbrev pub with_macro_by : Value → ℕ → Value → Draft
with_macro_by (TooLong is_list) spliced value = record { value = TooLong is_list; spliced = spliced }
with_macro_by (Text before) spliced value = with_macro_behind before spliced value

-- the value of a macro behind what is there
unfoldable pub with_macro : Value → Draft → Draft
with_macro value draft = with_macro_by draft.value draft.spliced value

abbrev pub with_taken : Taken → Draft → Draft
with_taken (taken.Whole text) draft = with_macro (Text text.bytes) draft
with_taken (taken.Word word) draft = with_macro (Text word) draft
with_taken (taken.TooLong is_list) draft = with_macro (TooLong is_list) draft

abbrev pub no_macros : Macros
no_macros = record { names = []; definitions = []; spliced = 0 }

abbrev pub begun : Macros → Draft
begun macros = record { value = Text []; spliced = macros.spliced }

-- ---- uses

-- the word of a value with the suffix of a use; a word that is too long may have none
abbrev pub with_suffix : MacroUse → Option (List ℕ) → Result Taken ConfError
with_suffix found None = Err (unknown_word found.line)
with_suffix found (Some word) = if nat_lt 255 (length word) then Err (unknown_word found.line) else Ok (taken.Word (word ++ found.suffix))

-- a suffix, or a `!` before the use, asks for a value of one word
abbrev pub text_taken : MacroUse → Bool → definition.Text → Result Taken ConfError
text_taken found is_negated text =
    if not (length found.suffix == 0) then with_suffix found text.meanings.word
    else if is_negated && not text.meanings.is_one_word then Err (unknown_word found.line)
    else Ok (taken.Whole text)

abbrev pub taken_by : MacroUse → Bool → Option Definition → Result Taken ConfError
taken_by found is_negated None = Err (record { line = found.line; kind = UndefinedMacro })
taken_by found is_negated (Some d.Unsound) = Err (unknown_word found.line)
taken_by found is_negated (Some (d.TooLong is_list)) = if is_negated || not (length found.suffix == 0) then Err (unknown_word found.line) else Ok (taken.TooLong is_list)
taken_by found is_negated (Some (d.Text text)) = text_taken found is_negated text

-- what a use stands for, with its suffix
unfoldable pub taken_at : Macros → Bool → MacroUse → Result Taken ConfError
taken_at macros is_negated found = taken_by found is_negated (latest found.name macros)

abbrev pub plain_word_in : ℕ → Option (List ℕ) → Result (Unit {0}) ConfError
plain_word_in line None = Err (unknown_word line)
plain_word_in line (Some word) = Ok tt

abbrev pub plain_word_by : ℕ → Result Taken ConfError → Result (Unit {0}) ConfError
plain_word_by line (Err e) = Err e
plain_word_by line (Ok (taken.TooLong is_list)) = Err (unknown_word line)
plain_word_by line (Ok (taken.Word word)) = plain_word_in line (only_plain (words word))
plain_word_by line (Ok (taken.Whole text)) = plain_word_in line text.meanings.word

-- a use that has to stand for one plain word
unfoldable pub plain_word_at : Macros → MacroUse → Result (Unit {0}) ConfError
plain_word_at macros found = plain_word_by found.line (taken_at macros false found)
