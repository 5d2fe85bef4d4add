-- Lists of addresses of which nothing is left, since macros stand for what no packet has.
use Rattle.std.specs.Prelude.{ℕ, ◌-◌, ◌||◌, Bool, nat_lt, if◌then◌else◌, List, [], ◌∷◌, codes, Option, Some, None}
use Rattle.pfr_marks.specs.Marks.{is}
use Rattle.pfr_marks.specs.declared.mark.Mark.{Mark}
use Rattle.pfr_phrases.specs.Options.{element_len}
use Rattle.pfr_phrases.specs.declared.options.Group.TheVariants as group
use Rattle.pfr_phrases.specs.declared.reason.Reason.{Reason}
use Rattle.pfr_phrases.specs.declared.reason.Reason.TheVariants as reason
use Rattle.pfr_spelling.specs.Known.{value_len}
use Rattle.pfr_spelling.specs.declared.known.Known.{Known}
use Rattle.pfr_rewrite.specs.UnseenValues.{unseen_value}
use Rattle.pfr_rewrite.specs.declared.unseen_list.Seen.{Seen}
use Rattle.pfr_rewrite.specs.declared.unseen_list.Step.{Step}
use Rattle.pfr_rewrite.specs.declared.unseen_list.Step.TheVariants as step
use Rattle.pfr_rewrite.specs.declared.unseen_list.Why.{Why}

abbrev pub why : Reason → ℕ → Why
why reason count = record { reason = reason; count = count }

-- why the element at the front is left out for its own words
unfoldable pub own_why : List Mark → Option Why
own_why marks =
    if nat_lt 0 (element_len group.Inet6 marks) then Some (why reason.Inet6 (element_len group.Inet6 marks))
    else if nat_lt 0 (element_len group.Unseen marks) then Some (why reason.Criterion (element_len group.Unseen marks))
    else None

abbrev pub value_why : Option Reason → Option Why
value_why None = None
value_why (Some found) = Some (why found 1)

abbrev pub why_or : Option Why → Option Why → Option Why
why_or (Some own) value = Some own
why_or None value = value

-- for its own words, or for what it stands for as a macro
unfoldable pub element_why : Known → ℕ → List Mark → Option Why
element_why known left marks = why_or (own_why marks) (value_why (unseen_value known left marks))

-- why two parts of a list are left out: IPv6 alone is the reason only if neither part has another one
abbrev pub reason_of_both : Option Reason → Reason → Option Reason
reason_of_both None here = Some here
reason_of_both (Some reason.Inet6) here = Some here
reason_of_both (Some other) here = Some other

abbrev pub is_between : Mark → Bool
is_between mark = is (codes ",") mark || is (codes "\n") mark || is (codes "!") mark

abbrev pub behind_part : Seen → Seen
behind_part seen = record { passed = seen.passed - 1; left = seen.left; reason = seen.reason }

abbrev pub behind_element : Seen → Why → ℕ → Seen
behind_element seen why length = record {
  passed = why.count - 1;
  left = seen.left - length;
  reason = reason_of_both seen.reason why.reason;
}

abbrev pub step_for : Option Why → Seen → ℕ → Step
step_for None seen length = step.Ends None
step_for (Some why) seen length = step.Goes (behind_element seen why length)

-- how a list goes on behind the element at the front: it ends if the element isn't left out
unfoldable pub element_step : Known → Seen → List Mark → Step
element_step known seen marks = step_for (element_why known seen.left marks) seen (value_len known marks)

-- how a list goes on behind the mark at the front
unfoldable pub list_step : Known → Seen → List Mark → Step
list_step known seen [] = step.Ends None
list_step known seen (first ∷ marks) =
    if nat_lt 0 seen.passed then step.Goes (behind_part seen)
    else if is (codes "}") first then step.Ends seen.reason
    else if is_between first then step.Goes seen
    else element_step known seen (first ∷ marks)

abbrev pub list_from : Known → Seen → List Mark → Option Reason
list_from known seen [] = None
list_from known seen (mark ∷ marks) = elim (list_step known seen (mark ∷ marks)) [
  | step.Goes next ↦ list_from known next marks
  | step.Ends found ↦ found
]

-- why all elements of a list are left out, if they are and there is one
abbrev pub unseen_list : Known → ℕ → List Mark → Option Reason
unseen_list known left marks = list_from known (record { passed = 0; left = left; reason = None }) marks
