-- The statements that are left out whole.
use Rattle.std.specs.Prelude.{ℕ, ◌+◌, ◌-◌, ◌&&◌, ◌||◌, Bool, true, false, not, nat_lt, if◌then◌else◌, List, [], ◌∷◌, length, take, codes, Option, Some, None}
use Rattle.std.specs.Option.{is_some}
use Rattle.pfr_words.specs.Names.{entry_of, is_among}
use Rattle.pfr_marks.specs.declared.mark.Mark.{Mark}
use Rattle.pfr_marks.specs.declared.mark.Place.{Place}
use Rattle.pfr_marks.specs.Marks.{begins_with, is}
use Rattle.pfr_phrases.specs.Changes.{finding_at}
use Rattle.pfr_phrases.specs.declared.change.Becomes.TheVariants as becomes
use Rattle.pfr_phrases.specs.declared.change.Finding.{Finding}
use Rattle.pfr_phrases.specs.declared.change.Found.{Found}
use Rattle.pfr_phrases.specs.declared.options.Group.{Group}
use Rattle.pfr_phrases.specs.declared.options.Group.TheVariants as group
use Rattle.pfr_phrases.specs.declared.reason.Reason.{Reason}
use Rattle.pfr_phrases.specs.declared.reason.Reason.TheVariants as reason
use Rattle.pfr_phrases.specs.Options.{are_all_left_out, element_len}

-- ---- words

-- the first words of statements that are left out (pf.conf(5), "Traffic normalization", "Queueing", "Packet filtering")
abbrev pub words_of_statements : List (List ℕ × Reason)
words_of_statements =
    (codes "scrub", reason.Scrub) ∷ (codes "altq", reason.Queue) ∷ (codes "queue", reason.Queue) ∷ (codes "match", reason.Match) ∷ []

-- the settings that are left out, by the word behind `set` (pf.conf(5), "Options")
abbrev pub words_of_settings : List (List ℕ × Reason)
words_of_settings =
    (codes "fingerprints", reason.Setting) ∷ (codes "syncookies", reason.Setting) ∷ (codes "keepcounters", reason.Setting)
    ∷ (codes "fail-policy", reason.Setting) ∷ (codes "reassemble", reason.Reassemble) ∷ (codes "state-defaults", reason.StateDefaults) ∷ []

-- the words by which a rule asks for what packets don't show here (pf.conf(5), "Parameters")
abbrev pub words_of_criteria : List (List ℕ × Reason)
words_of_criteria =
    (codes "inet6", reason.Inet6) ∷ (codes "icmp6-type", reason.Inet6)
    ∷ (codes "tagged", reason.Criterion) ∷ (codes "user", reason.Criterion) ∷ (codes "group", reason.Criterion)
    ∷ (codes "os", reason.Criterion) ∷ (codes "probability", reason.Criterion) ∷ (codes "fragment", reason.Criterion)
    ∷ (codes "tos", reason.Criterion) ∷ (codes "received-on", reason.Criterion) ∷ []

-- the words of statements that are left out for what they ask for (pf.conf(5), "Grammar")
abbrev pub words_that_ask : List (List ℕ)
words_that_ask =
    codes "pass" ∷ codes "block" ∷ codes "match" ∷ codes "nat" ∷ codes "rdr" ∷ codes "binat" ∷ codes "no" ∷ codes "antispoof" ∷ []

unfoldable pub statement_reason : List ℕ → Option Reason
statement_reason word = entry_of words_of_statements word

unfoldable pub setting_reason : List ℕ → Option Reason
setting_reason word = entry_of words_of_settings word

unfoldable pub criterion_reason : List ℕ → Option Reason
criterion_reason word = entry_of words_of_criteria word

unfoldable pub may_ask : List ℕ → Bool
may_ask word = is_among words_that_ask word

-- ---- statements

abbrev pub in_braces_behind : Bool → Mark → Bool
in_braces_behind in_braces mark = if is (codes "{") mark then true else if is (codes "}") mark then false else in_braces

-- how many marks stand before the end of the line; an end of line in braces is a mark like others
abbrev pub statement_from : ℕ → Bool → List Mark → ℕ
statement_from before in_braces [] = before
statement_from before in_braces (mark ∷ marks) =
    if not in_braces && is (codes "\n") mark then before
    else statement_from (before + 1) (in_braces_behind in_braces mark) marks

unfoldable pub statement_len : List Mark → ℕ
statement_len marks = statement_from 0 false marks

-- elements alone that are left out, at the front: one, maybe behind a `!`, or a list of them
unfoldable pub are_only : Group → List Mark → Bool
are_only group [] = false
are_only group (first ∷ behind) =
    if is (codes "{") first then not (begins_with behind (codes "}")) && are_all_left_out group behind
    else if is (codes "!") first then nat_lt 0 (element_len group behind)
    else nat_lt 0 (element_len group (first ∷ behind))

-- why a rule is left out for what marks say of addresses
abbrev pub unseen_at : List Mark → Option Reason
unseen_at marks =
    if are_only group.Inet6 marks then Some reason.Inet6
    else if are_only group.Unseen marks then Some reason.Criterion
    else None

abbrev pub found_for : Mark → Option Reason → Option Finding
found_for first None = None
found_for first (Some why) = Some (finding_at first why)

abbrev pub criterion_by : Option Reason → Mark → List Mark → Option Finding
criterion_by (Some why) first behind = Some (finding_at first why)
criterion_by None first behind =
    if is (codes "from") first || is (codes "to") first then found_for first (unseen_at behind) else None

-- why a rule is left out for the word at the front
unfoldable pub criterion_at : List Mark → Option Finding
criterion_at [] = None
criterion_at (first ∷ behind) = criterion_by (criterion_reason first.piece) first behind

-- why a rule is left out, at the first word by which it asks for what packets don't show
abbrev pub criterion_in : List Mark → Option Finding
criterion_in [] = None
criterion_in (mark ∷ marks) = elim (criterion_at (mark ∷ marks)) [
  | Some finding ↦ Some finding
  | None ↦ criterion_in marks
]

-- why a setting is left out, by its word and what is behind
abbrev pub setting_left_out : Mark → List Mark → Option Reason
setting_left_out second behind =
    if is (codes "timeout") second && are_only group.Timeouts behind then Some reason.Adaptive
    else if is (codes "limit") second && are_only group.Limits behind then Some reason.Setting
    else setting_reason second.piece

-- the second word of a statement, if the statement is left out for it
abbrev pub second_left_out : Mark → List Mark → Option Finding
second_left_out first [] = None
second_left_out first (second ∷ marks) =
    if is (codes "no") first && is (codes "scrub") second then Some (finding_at second reason.Scrub)
    else if is (codes "set") first then found_for second (setting_left_out second marks)
    else None

abbrev pub left_out_by : Option Reason → Option Finding → Mark → List Mark → Option Finding
left_out_by (Some why) second first behind = Some (finding_at first why)
left_out_by None (Some finding) first behind = Some finding
left_out_by None None first behind = if may_ask first.piece then criterion_in (first ∷ behind) else None

-- why a statement is left out, at the word for which it is
unfoldable pub left_out_in : List Mark → Option Finding
left_out_in [] = None
left_out_in (first ∷ behind) =
    left_out_by (statement_reason first.piece) (second_left_out first behind) first behind

-- a statement that begins so may be left out
abbrev pub may_be_left_out : List Mark → Bool
may_be_left_out [] = false
may_be_left_out (first ∷ behind) = is_some (statement_reason first.piece) || is (codes "no") first || is (codes "set") first || may_ask first.piece

-- the end of the last of some marks
abbrev pub end_of : Place → List Mark → Place
end_of place [] = place
end_of place (mark ∷ marks) = end_of mark.end marks

-- what stands between two places, of which only the ends of lines are left
abbrev pub whole : (start end : Place) → ℕ → Finding → Found
whole start end count finding = record {
  count = count;
  change = record { from = start.offset; parted = false; to = end; becomes = becomes.Lines (end.line - start.line); blank = false; finding = finding; text = None };
}

abbrev pub left_out_for : Option Finding → List Mark → Option Found
left_out_for None statement = None
left_out_for (Some finding) [] = None
left_out_for (Some finding) (first ∷ behind) = Some (whole first.start (end_of first.end (first ∷ behind)) (length (first ∷ behind)) finding)

-- the statement at the front of marks as a change, if it is left out
unfoldable pub statement_left_out : List Mark → Option Found
statement_left_out marks = let statement = take (statement_len marks) marks in left_out_for (left_out_in statement) statement
