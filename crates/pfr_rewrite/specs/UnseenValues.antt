-- Addresses that are left out for what a macro stands for.
use Rattle.std.specs.Prelude.{ℕ, ◌==◌, Bool, if◌then◌else◌, List, length, drop, codes, Option, Some, None}
use Rattle.pfr_marks.specs.Marks.{begins_with, marks}
use Rattle.pfr_marks.specs.declared.mark.Mark.{Mark}
use Rattle.pfr_phrases.specs.Changing.{sign_len}
use Rattle.pfr_phrases.specs.Options.{element_len}
use Rattle.pfr_phrases.specs.Statements.{unseen_at}
use Rattle.pfr_phrases.specs.declared.options.Group.TheVariants as group
use Rattle.pfr_phrases.specs.declared.reason.Reason.{Reason}
use Rattle.pfr_spelling.specs.Known.{value_within}
use Rattle.pfr_spelling.specs.Targets.{list_from}
use Rattle.pfr_spelling.specs.declared.known.Known.{Known}

-- one element of a list and no more, or one list
abbrev pub are_one : List Mark → Bool
are_one words =
    if begins_with words (codes "{") then list_from 0 words == length words
    else element_len group.Unseen (drop (sign_len (codes "!") words) words) == length (drop (sign_len (codes "!") words) words)

-- why addresses are left out that are these marks and nothing else
abbrev pub unseen_of : List Mark → Option Reason
unseen_of words = if are_one words then unseen_at words else None

-- why a rule with a value as addresses is left out
abbrev pub unseen_in : List ℕ → Option Reason
unseen_in value = unseen_of (marks value)

abbrev pub unseen_by : Option (List ℕ) → Option Reason
unseen_by None = None
unseen_by (Some value) = unseen_in value

-- why addresses are left out that are the macro at the front of marks, if its value has at most `left` bytes
abbrev pub unseen_value : Known → ℕ → List Mark → Option Reason
unseen_value known left marks = unseen_by (value_within known left marks)
