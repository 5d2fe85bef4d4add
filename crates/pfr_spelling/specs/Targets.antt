-- Targets of several addresses.
use Rattle.std.specs.Prelude.{ℕ, zero, suc, ◌+◌, ◌-◌, ◌==◌, ◌||◌, Bool, true, false, not, nat_le, if◌then◌else◌, List, [], ◌∷◌, ◌++◌, length, take, drop, codes, Option, Some, None}
use Rattle.pfr_given.specs.declared.entry.Given.{Given}
use Rattle.pfr_marks.specs.Marks.{begins_with, is, marks}
use Rattle.pfr_marks.specs.declared.mark.Mark.{Mark}
use Rattle.pfr_phrases.specs.Applying.{slash_from}
use Rattle.pfr_phrases.specs.Inet6.{inet6_len}
use Rattle.pfr_phrases.specs.Values.{is_network}
use Rattle.pfr_phrases.specs.declared.change.Found.{Found}
use Rattle.pfr_phrases.specs.declared.context.Context.{Context}
use Rattle.pfr_phrases.specs.declared.context.Within.{Within}
use Rattle.pfr_phrases.specs.declared.context.Within.TheVariants as within
use Rattle.pfr_phrases.specs.declared.reason.Reason.TheVariants as reason
use Rattle.pfr_spelling.specs.Known.{says_target, text_change, value_within}
use Rattle.pfr_spelling.specs.Macros.{used_value}
use Rattle.pfr_spelling.specs.Replacing.{value_text}
use Rattle.pfr_spelling.specs.declared.known.Known.{Known}
use Rattle.pfr_spelling.specs.declared.targets.First.{First}
use Rattle.pfr_spelling.specs.declared.targets.Seen.{Seen}
use Rattle.pfr_spelling.specs.declared.targets.Seen.TheVariants.{Element, Nothing}

-- a word, or the address of a network
abbrev pub one_address : List ℕ → List ℕ
one_address word = if is_network word then take (slash_from 0 word) word else word

-- ---- the first element of a list

abbrev pub seen_here : List Mark → Seen
seen_here marks =
    if begins_with marks (codes ",") || begins_with marks (codes "\n") then Nothing 0
    else if inet6_len marks == 0 then Element
    else Nothing (inet6_len marks - 1)

abbrev pub seen_at : ℕ → List Mark → Seen
seen_at zero marks = seen_here marks
seen_at (suc passed) marks = Nothing passed

-- how many marks stand before the first element that is no IPv6 address, with those before
abbrev pub lead_from : (before passed : ℕ) → List Mark → ℕ
lead_from before passed [] = before
lead_from before passed (mark ∷ marks) = elim (seen_at passed (mark ∷ marks)) [
  | Nothing more ↦ lead_from (before + 1) more marks
  | Element ↦ before
]

-- a word, a word in round brackets or a table
abbrev pub element_len : List Mark → ℕ
element_len [] = 0
element_len (first ∷ marks) =
    if is (codes "}") first then 0
    else if not (is (codes "(") first || is (codes "<") first) then 1
    else if nat_le 3 (length (first ∷ marks)) then 3
    else 0

-- the bytes of marks, one behind the other
abbrev pub joined : List Mark → List ℕ
joined [] = []
joined (mark ∷ marks) = mark.piece ++ joined marks

abbrev pub address_by : Option (List ℕ) → List ℕ → List ℕ
address_by (Some value) element = one_address value
address_by None element = one_address element

-- the address that an element stands for, which may be a macro
abbrev pub address_of : Known → List ℕ → List ℕ
address_of known element = address_by (used_value known.macros element) element

unfoldable pub first_element : Known → List Mark → List ℕ
first_element known behind =
    let element = drop (lead_from 0 0 behind) behind in address_of known (joined (take (element_len element) element))

-- from a brace to the one that closes it, with those before
abbrev pub list_from : ℕ → List Mark → ℕ
list_from before [] = 0
list_from before (mark ∷ marks) = if is (codes "}") mark then before + 1 else list_from (before + 1) marks

-- ---- the one address that is written for a target

abbrev pub first_of_network : List ℕ → Option First
first_of_network word = if is_network word then Some (record { count = 1; address = one_address word }) else None

unfoldable pub first_address : Known → List Mark → Option First
first_address known [] = None
first_address known (word ∷ marks) =
    if not (is (codes "{") word) then first_of_network word.piece
    else if list_from 0 (word ∷ marks) == 0 then None
    else Some (record { count = list_from 0 (word ∷ marks); address = first_element known marks })

-- the address of a value with `count` marks, if its target is the whole value
abbrev pub as_one : ℕ → Option First → Option First
as_one count None = None
as_one count (Some found) = if not (found.count == count) then None else Some (record { count = 1; address = found.address })

unfoldable pub first_of_value : Known → List ℕ → Option First
first_of_value known value = as_one (length (marks value)) (first_address known (marks value))

abbrev pub first_by : Option (List ℕ) → Known → List Mark → Option First
first_by (Some value) known marks = first_of_value known value
first_by None known marks = first_address known marks

unfoldable pub first_target : Known → List Mark → Option First
first_target known [] = None
first_target known (word ∷ marks) = first_by (value_within known known.left (word ∷ marks)) known (word ∷ marks)

abbrev pub is_rule : Within → Bool
is_rule within.Rule = true
is_rule _ = false

abbrev pub target_by : Option First → Given → Known → Context → List Mark → Option Found
target_by None given known context marks = None
target_by (Some first) given known context [] = None
target_by (Some first) given known context (word ∷ marks) =
    text_change context word (word ∷ marks) (Some (record { count = first.count; text = value_text given known context first.address; reason = reason.Pool }))

-- the target at the front of marks, if it has several addresses
unfoldable pub target_here : Given → Known → Context → List Mark → Option Found
target_here given known context marks =
    if not (is_rule context.within) || not (says_target context.says) || context.in_braces then None
    else target_by (first_target known marks) given known context marks
