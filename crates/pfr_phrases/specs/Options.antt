-- What is left out of brackets and braces.
use Rattle.std.specs.Prelude.{ℕ, zero, suc, ◌-◌, ◌==◌, ◌&&◌, ◌||◌, Bool, true, false, not, if◌then◌else◌, List, [], ◌∷◌, codes, Option, Some, None}
use Rattle.pfr_marks.specs.declared.mark.Mark.{Mark}
use Rattle.pfr_marks.specs.Marks.{begins_with, is}
use Rattle.pfr_phrases.specs.declared.options.Group.{Group}
use Rattle.pfr_phrases.specs.declared.options.Group.TheVariants as group
use Rattle.pfr_phrases.specs.declared.options.Seen.{Seen}
use Rattle.pfr_phrases.specs.declared.options.Seen.TheVariants.{Known, LeftOut}
use Rattle.pfr_phrases.specs.declared.phrases.Phrase.{Phrase}
use Rattle.pfr_phrases.specs.Inet6.{inet6_len}
use Rattle.pfr_phrases.specs.Phrases.{phrase_at}
use Rattle.pfr_phrases.specs.Tables.{adaptive_timeouts, limits_of_anchors, options_of_states}
use Rattle.pfr_words.specs.Names.{is_among}

-- the option at the front of marks that is left out, and how many marks it has
unfoldable pub option_at : List Mark → Option (ℕ × Phrase)
option_at marks = phrase_at options_of_states marks

abbrev pub len_of : Option (ℕ × Phrase) → ℕ
len_of None = 0
len_of (Some found) = found.0

unfoldable pub option_len : List Mark → ℕ
option_len marks = len_of (option_at marks)

-- the timeout at the front of marks that depends on the number of states, and how many marks it has
unfoldable pub timeout_at : List Mark → Option (ℕ × Phrase)
timeout_at marks = phrase_at adaptive_timeouts marks

-- the limit at the front of marks on which no verdict depends, and how many marks it has
unfoldable pub limit_at : List Mark → Option (ℕ × Phrase)
limit_at marks = phrase_at limits_of_anchors marks

-- the hosts that ask for the routes of a packet (pf.conf(5), "Parameters")
abbrev pub words_of_routes : List (List ℕ)
words_of_routes = codes "no-route" ∷ codes "urpf-failed" ∷ []

-- a word that asks for what packets don't show of an address
unfoldable pub is_no_address : List Mark → Bool
is_no_address [] = false
is_no_address (first ∷ behind) = is_among words_of_routes first.piece

abbrev pub unseen_len : List Mark → ℕ
unseen_len marks = if is_no_address marks then 1 else inet6_len marks

-- how many marks the element at the front of a list has that is left out
abbrev pub element_len : Group → List Mark → ℕ
element_len group.Options marks = option_len marks
element_len group.Inet6 marks = inet6_len marks
element_len group.Unseen marks = unseen_len marks
element_len group.Timeouts marks = len_of (timeout_at marks)
element_len group.Limits marks = len_of (limit_at marks)

-- a mark ends a list
abbrev pub ends : Group → Mark → Bool
ends group.Options mark = is (codes ")") mark
ends group.Inet6 mark = is (codes "}") mark
ends group.Unseen mark = is (codes "}") mark
ends group.Timeouts mark = is (codes "}") mark
ends group.Limits mark = is (codes "}") mark

-- a comma that isn't the last of brackets, nor before another one
abbrev pub is_comma : Mark → List Mark → Bool
is_comma mark behind = is (codes ",") mark && not (begins_with behind (codes ")")) && not (begins_with behind (codes ","))

-- a mark stands between elements of a list or before one, and belongs to none
abbrev pub is_between : Group → Mark → List Mark → Bool
is_between group.Options mark behind = is_comma mark behind
is_between group.Timeouts mark behind = is (codes ",") mark || is (codes "\n") mark
is_between group.Limits mark behind = is (codes ",") mark || is (codes "\n") mark
is_between group.Inet6 mark behind = is (codes ",") mark || is (codes "\n") mark || is (codes "!") mark
is_between group.Unseen mark behind = is (codes ",") mark || is (codes "\n") mark || is (codes "!") mark

-- what is known behind the first of these marks, which belongs to no element that was seen
abbrev pub seen_here : Group → Mark → List Mark → Seen
seen_here group mark marks =
    if ends group mark then Known true
    else if is_between group mark marks then LeftOut 0
    else if element_len group (mark ∷ marks) == 0 then Known false
    else LeftOut (element_len group (mark ∷ marks) - 1)

-- the same, if the first `passed` of the marks belong to an element that was seen
abbrev pub seen_at : Group → ℕ → List Mark → Seen
seen_at group passed [] = Known false
seen_at group zero (mark ∷ marks) = seen_here group mark marks
seen_at group (suc passed) (mark ∷ marks) = LeftOut passed

-- whether a list holds nothing else up to its end
abbrev pub all_left_out : Group → ℕ → List Mark → Bool
all_left_out group passed [] = false
all_left_out group passed (mark ∷ marks) = elim (seen_at group passed (mark ∷ marks)) [
  | LeftOut more ↦ all_left_out group more marks
  | Known all ↦ all
]

unfoldable pub are_all_left_out : Group → List Mark → Bool
are_all_left_out group marks = all_left_out group 0 marks
