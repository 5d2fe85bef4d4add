-- `antispoof` as the rules that it stands for (pf.conf(5), "BLOCKING SPOOFED TRAFFIC").
use Rattle.std.specs.Prelude.{ℕ, ◌+◌, ◌==◌, ◌||◌, Bool, true, false, not, nat_lt, if◌then◌else◌, List, [], ◌∷◌, ◌++◌, length, take, drop, codes, Option, Some, None}
use Rattle.std.specs.Str.{bytes_eq}
use Rattle.pfr_given.specs.Entries.{texts_of}
use Rattle.pfr_given.specs.Texts.{joined_by}
use Rattle.pfr_given.specs.declared.entry.Given.{Given}
use Rattle.pfr_given.specs.declared.entry.Subject.TheVariants as subject
use Rattle.pfr_words.specs.Names.{is_among}
use Rattle.pfr_words.specs.declared.word.Token.{Token}
use Rattle.pfr_words.specs.declared.word.Token.TheVariants as token
use Rattle.pfr_marks.specs.Marks.{begins_with, is}
use Rattle.pfr_marks.specs.declared.mark.Mark.{Mark}
use Rattle.pfr_phrases.specs.Changing.{sign_len}
use Rattle.pfr_phrases.specs.Lengths.{brackets_len}
use Rattle.pfr_phrases.specs.Statements.{statement_len}
use Rattle.pfr_phrases.specs.declared.change.Found.{Found}
use Rattle.pfr_phrases.specs.declared.context.Context.{Context}
use Rattle.pfr_phrases.specs.declared.reason.Reason.TheVariants as reason
use Rattle.pfr_spelling.specs.Known.{replaced_by, text_change}
use Rattle.pfr_spelling.specs.Macros.{token_in}
use Rattle.pfr_spelling.specs.declared.known.Known.{Known}
use Rattle.pfr_rewrite.specs.Interfaces.{interfaces_len, names_in}
use Rattle.pfr_rewrite.specs.declared.antispoof.Awaits.{Awaits}
use Rattle.pfr_rewrite.specs.declared.antispoof.Awaits.TheVariants as awaits
use Rattle.pfr_rewrite.specs.declared.antispoof.Forms.{Forms}
use Rattle.pfr_rewrite.specs.declared.antispoof.Frame.{Frame}

-- ---- its parts

-- `log` with its options
unfoldable pub log_len : List Mark → ℕ
log_len [] = 0
log_len (first ∷ marks) = if is (codes "log") first then 1 + brackets_len marks else 0

abbrev pub for_at : List Mark → ℕ
for_at marks = log_len marks + sign_len (codes "quick") (drop (log_len marks) marks)

abbrev pub interfaces_at : List Mark → ℕ
interfaces_at marks =
    if sign_len (codes "for") (drop (for_at marks) marks) == 0 then 0 else for_at marks + sign_len (codes "for") (drop (for_at marks) marks)

-- ---- the network and the address of an interface

abbrev pub own_forms : List ℕ → Forms
own_forms own = record { network = own ++ codes ":network"; address = Some own }

abbrev pub loopback_forms : Forms
loopback_forms = record { network = codes "127.0.0.0/8"; address = None }

abbrev pub forms_in : (networks addresses : List (List ℕ)) → Option Forms
forms_in networks addresses =
    if not (length networks == 1) || not (length addresses == 1) then None
    else Some (record { network = joined_by (codes ", ") networks; address = Some (joined_by (codes ", ") addresses) })

-- the forms that are given, if there is one of each
unfoldable pub given_forms : Given → List ℕ → Option Forms
given_forms given name = forms_in (texts_of given subject.Address (name ++ codes ":network")) (texts_of given subject.Address (name ++ []))

-- the forms of an interface; those of the text's own interfaces are their names
unfoldable pub forms_of : Given → (own : List (List ℕ)) → (name : List ℕ) → Option Forms
forms_of given own name =
    if is_among own name then Some (own_forms name)
    else if bytes_eq name (codes "lo0") then Some loopback_forms
    else given_forms given name

-- ---- its rules

-- how they begin, by the marks before the interfaces
unfoldable pub head_of : List Mark → List ℕ
head_of front =
    let logged = if nat_lt 0 (log_len front) then codes "block drop in" ++ codes " log" else codes "block drop in" in
    if begins_with (drop (log_len front) front) (codes "quick") then logged ++ codes " quick" else logged

-- the options that go with the word behind them
abbrev pub options_that_go : List (List ℕ)
options_that_go = codes "ridentifier" ∷ codes "tracker" ∷ codes "rtable" ∷ []

unfoldable pub goes_with_value : List ℕ → Bool
goes_with_value word = is_among options_that_go word

-- what stays of a word among the options
abbrev pub option_text : Awaits → List ℕ → List ℕ
option_text awaits.Value word = []
option_text awaits.Label word = 32 ∷ word
option_text awaits.Option word =
    if goes_with_value word then [] else if not (bytes_eq word (codes "label")) then [] else codes " label"

abbrev pub behind_token : Option Token → Option Awaits
behind_token (Some (token.MacroUse name suffix)) = None
behind_token _ = Some awaits.Option

abbrev pub behind_label : List ℕ → Option Awaits
behind_label word = behind_token (token_in word)

-- what is awaited behind it
abbrev pub behind_option : Awaits → List ℕ → Option Awaits
behind_option awaits.Value word = Some awaits.Option
behind_option awaits.Label word = behind_label word
behind_option awaits.Option word =
    if goes_with_value word then Some awaits.Value
    else if not (bytes_eq word (codes "label")) then None
    else Some awaits.Label

abbrev pub is_whole : Awaits → Bool
is_whole awaits.Option = true
is_whole awaits.Label = false
is_whole awaits.Value = false

abbrev pub tail_from : List ℕ → Awaits → List Mark → Option (List ℕ)
tail_from tail awaited [] = if is_whole awaited then Some tail else None
tail_from tail awaited (mark ∷ marks) = elim (behind_option awaited mark.piece) [
  | Some behind ↦ tail_from (tail ++ option_text awaited mark.piece) behind marks
  | None ↦ None
]

-- how the rules end: a label stays, and numbers for other programs don't
unfoldable pub tail_of : List Mark → Option (List ℕ)
tail_of options = tail_from (codes " to any") awaits.Option options

abbrev pub with_line_end : List ℕ → List ℕ
with_line_end [] = []
with_line_end (b ∷ made) = (b ∷ made) ++ 10 ∷ []

abbrev pub with_rule : List ℕ → Frame → (criterion name address : List ℕ) → List ℕ
with_rule made frame criterion name address =
    (((((with_line_end made ++ frame.head) ++ criterion) ++ name) ++ codes " inet from ") ++ address) ++ frame.tail

abbrev pub with_address : Option (List ℕ) → List ℕ → Frame → List ℕ
with_address None made frame = made
with_address (Some address) made frame = with_rule made frame [] [] address

-- the rule for packets from its network on other interfaces, and the rule for packets from its address
abbrev pub with_rules : List ℕ → Frame → List ℕ → Forms → List ℕ
with_rules made frame name forms = with_address forms.address (with_rule made frame (codes " on ! ") name forms.network) frame

abbrev pub rules_from : Given → List (List ℕ) → Frame → List ℕ → List (List ℕ) → Option (List ℕ)
rules_from given own frame made [] = Some made
rules_from given own frame made (name ∷ names) = elim (forms_of given own name) [
  | Some forms ↦ rules_from given own frame (with_rules made frame name forms) names
  | None ↦ None
]

abbrev pub rules_with : Given → List (List ℕ) → List Mark → List (List ℕ) → Option (List ℕ) → Option (List ℕ)
rules_with given own front names None = None
rules_with given own front names (Some tail) = rules_from given own (record { head = head_of front; tail = tail }) [] names

abbrev pub rules_by : Given → Known → (front interfaces options : List Mark) → Option (List ℕ)
rules_by given known front interfaces options =
    if length (names_in given known interfaces) == 0 then None
    else rules_with given known.own front (names_in given known interfaces) (tail_of options)

-- what is behind `inet`
abbrev pub options_in : List Mark → List Mark
options_in rest = drop (sign_len (codes "inet") rest) rest

abbrev pub rules_behind : Given → Known → (front more : List Mark) → Option (List ℕ)
rules_behind given known front more =
    rules_by given known front (take (interfaces_len more) more) (options_in (drop (interfaces_len more) more))

-- the rules that a statement stands for, by what is behind its first word
unfoldable pub rules_of : Given → Known → List Mark → Option (List ℕ)
rules_of given known behind =
    if interfaces_at behind == 0 then None
    else rules_behind given known (take (interfaces_at behind) behind) (drop (interfaces_at behind) behind)

abbrev pub antispoof_by : Given → Known → Context → List Mark → List Mark → Option Found
antispoof_by given known context marks [] = None
antispoof_by given known context marks (word ∷ behind) =
    text_change context word marks (replaced_by (rules_of given known behind) (length (word ∷ behind)) reason.Antispoof)

-- `antispoof` at the front of marks, if the interfaces are known
unfoldable pub antispoof_here : Given → Known → Context → List Mark → Option Found
antispoof_here given known context marks =
    if not (begins_with marks (codes "antispoof")) then None else antispoof_by given known context marks (take (statement_len marks) marks)
