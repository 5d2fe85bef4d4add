-- Rules and elements of lists that are left out for what macros stand for.
use Rattle.std.specs.Prelude.{ℕ, ◌+◌, ◌-◌, ◌||◌, Bool, false, not, if◌then◌else◌, List, [], ◌∷◌, length, take, drop, codes, Option, Some, None}
use Rattle.std.specs.Option.{is_some}
use Rattle.pfr_marks.specs.Marks.{is, marks}
use Rattle.pfr_marks.specs.declared.mark.Mark.{Mark}
use Rattle.pfr_phrases.specs.Changes.{finding_at}
use Rattle.pfr_phrases.specs.Changing.{comma_before, element_of, sign_len}
use Rattle.pfr_phrases.specs.Statements.{criterion_in, end_of, statement_left_out, statement_len, whole, may_ask}
use Rattle.pfr_phrases.specs.declared.change.Finding.{Finding}
use Rattle.pfr_phrases.specs.declared.change.Found.{Found}
use Rattle.pfr_phrases.specs.declared.context.Context.{Context}
use Rattle.pfr_phrases.specs.declared.context.Says.{Says}
use Rattle.pfr_phrases.specs.declared.context.Says.TheVariants as says
use Rattle.pfr_phrases.specs.declared.reason.Reason.{Reason}
use Rattle.pfr_phrases.specs.declared.reason.Reason.TheVariants as reason
use Rattle.pfr_spelling.specs.Known.{value_len, value_within}
use Rattle.pfr_spelling.specs.declared.known.Known.{Known}
use Rattle.pfr_rewrite.specs.UnseenLists.{unseen_list}
use Rattle.pfr_rewrite.specs.UnseenValues.{unseen_value}

abbrev pub reason_of : Option Finding → Option Reason
reason_of None = None
reason_of (Some finding) = Some finding.reason

-- why a rule with a value is left out: for a word of the value
abbrev pub reason_in : List ℕ → Option Reason
reason_in value = reason_of (criterion_in (marks value))

abbrev pub reason_by : Option (List ℕ) → Option Reason
reason_by None = None
reason_by (Some value) = reason_in value

-- why a rule is left out: for a word of the value of the macro at the front of marks, if it has at most `left` bytes
abbrev pub reason_at : Known → ℕ → List Mark → Option Reason
reason_at known left marks = reason_by (value_within known left marks)

-- why addresses are left out: the list at the front of marks, or the macro there
abbrev pub unseen_here : Known → ℕ → List Mark → Option Reason
unseen_here known left [] = None
unseen_here known left (first ∷ marks) =
    if is (codes "{") first then unseen_list known left marks else unseen_value known left (first ∷ marks)

abbrev pub reason_here : Known → ℕ → Mark → (behind marks : List Mark) → Option Reason
reason_here known left first behind marks =
    if is (codes "from") first || is (codes "to") first then unseen_here known left behind else reason_at known left marks

abbrev pub said_for : Mark → Option Reason → Option Finding
said_for first None = None
said_for first (Some why) = Some (finding_at first why)

-- why a rule is left out for the word at the front of marks
unfoldable pub said_here : Known → ℕ → List Mark → Option Finding
said_here known left [] = None
said_here known left (first ∷ marks) = said_for first (reason_here known left first marks (first ∷ marks))

-- why a rule is left out for what its macros stand for, at the first of them
abbrev pub said_from : Known → ℕ → List Mark → Option Finding
said_from known left [] = None
said_from known left (mark ∷ marks) = elim (said_here known left (mark ∷ marks)) [
  | Some finding ↦ Some finding
  | None ↦ said_from known (left - value_len known (mark ∷ marks)) marks
]

abbrev pub rule_for : Option Finding → List Mark → Option Found
rule_for None statement = None
rule_for (Some finding) [] = None
rule_for (Some finding) (first ∷ behind) = Some (whole first.start (end_of first.end (first ∷ behind)) (length (first ∷ behind)) finding)

-- a statement begins that may be left out for its criteria
abbrev pub begins_asking : List Mark → Bool
begins_asking [] = false
begins_asking (first ∷ behind) = may_ask first.piece

abbrev pub rule_in : Known → (statement marks : List Mark) → Option Found
rule_in known statement marks =
    if not (begins_asking marks) || is_some (statement_left_out marks) then None
    else rule_for (said_from known known.left statement) statement

-- the rule at the front of marks, if it is left out for what its macros stand for, and not for its own words
unfoldable pub rule_here : Known → List Mark → Option Found
rule_here known marks = rule_in known (take (statement_len marks) marks) marks

abbrev pub element_reason : Reason → Reason
element_reason reason.Inet6 = reason.Inet6Address
element_reason _ = reason.NoRoute

abbrev pub lists_where : Says → Bool → Bool
lists_where says.Address in_braces = in_braces
lists_where says.Target in_braces = in_braces
lists_where _ in_braces = false

abbrev pub lists_addresses : Context → Bool
lists_addresses context = lists_where context.says context.in_braces

abbrev pub element_by : Option Reason → Context → List Mark → ℕ → Option Found
element_by None context marks lead = None
element_by (Some why) context marks lead = element_of context (element_reason why) marks lead (drop lead marks) 1

abbrev pub element_behind : Known → Context → List Mark → ℕ → Option Found
element_behind known context marks lead = element_by (unseen_value known known.left (drop lead marks)) context marks lead

-- a macro in a list of addresses that is left out for what it stands for, with the comma that goes with it
unfoldable pub element_here : Known → Context → List Mark → Option Found
element_here known context marks =
    if not (lists_addresses context) then None
    else element_behind known context marks (comma_before marks + sign_len (codes "!") (drop (comma_before marks) marks))
