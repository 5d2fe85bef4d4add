-- Rules of interfaces that a run isn't about.
use Rattle.std.specs.Prelude.{ℕ, ◌&&◌, ◌||◌, Bool, true, false, not, nat_lt, if◌then◌else◌, List, [], ◌∷◌, ◌++◌, length, take, codes, Option, Some, None}
use Rattle.std.specs.Str.{bytes_eq}
use Rattle.pfr_given.specs.declared.entry.Given.{Given}
use Rattle.pfr_words.specs.Names.{is_among}
use Rattle.pfr_marks.specs.Braces.{are_closed}
use Rattle.pfr_marks.specs.Marks.{beginning, begins_with, is, marks}
use Rattle.pfr_marks.specs.declared.mark.Mark.{Mark}
use Rattle.pfr_phrases.specs.Changes.{finding_at}
use Rattle.pfr_phrases.specs.Contexts.{beginning_at, context_behind}
use Rattle.pfr_phrases.specs.declared.change.Finding.{Finding}
use Rattle.pfr_phrases.specs.declared.context.Context.{Context}
use Rattle.pfr_phrases.specs.declared.context.Within.{Within}
use Rattle.pfr_phrases.specs.declared.context.Within.TheVariants as within
use Rattle.pfr_phrases.specs.declared.reason.Reason.TheVariants as reason
use Rattle.pfr_spelling.specs.Known.{known_behind}
use Rattle.pfr_spelling.specs.declared.known.Known.{Known}
use Rattle.pfr_rewrite.specs.Interfaces.{interfaces_len, names_in, unknown_name}
use Rattle.pfr_rewrite.specs.Whole.{known_before}

-- one of the run's own interfaces, or one that isn't known
abbrev pub may_hold : (own : List (List ℕ)) → (name : List ℕ) → Bool
may_hold own name = is_among own name || bytes_eq name unknown_name

abbrev pub one_may_hold : (own names : List (List ℕ)) → Bool
one_may_hold own [] = false
one_may_hold own (name ∷ names) = if may_hold own name then true else one_may_hold own names

abbrev pub has_not : List Mark → Bool
has_not [] = false
has_not (mark ∷ marks) = if is (codes "!") mark then true else has_not marks

-- there are interfaces, none with a `!`, and no packet is on any of them
abbrev pub are_elsewhere : Given → Known → List Mark → Bool
are_elsewhere given known interfaces =
    if has_not interfaces then false
    else nat_lt 0 (length (names_in given known interfaces)) && not (one_may_hold known.own (names_in given known interfaces))

abbrev pub first_name : List Mark → List Mark
first_name [] = []
first_name (mark ∷ marks) = if is (codes "{") mark then marks else mark ∷ marks

abbrev pub said_word : List Mark → Option Finding
said_word [] = None
said_word (word ∷ marks) = Some (finding_at word reason.Elsewhere)

-- what is said of the interfaces behind `on`, at the first of them
unfoldable pub said_behind : Given → Known → List Mark → Option Finding
said_behind given known behind =
    if not (are_elsewhere given known (take (interfaces_len behind) behind)) then None else said_word (first_name behind)

abbrev pub may_name : Within → Bool
may_name within.Rule = true
may_name within.Anchor = true
may_name _ = false

-- the `on` of a rule or an anchor
abbrev pub begins_interfaces : Context → List Mark → Bool
begins_interfaces context marks = may_name context.within && not context.in_braces && begins_with marks (codes "on")

abbrev pub said_in : Option Finding → List Finding
said_in None = []
said_in (Some finding) = finding ∷ []

abbrev pub behind_first : List Mark → List Mark
behind_first [] = []
behind_first (mark ∷ marks) = marks

abbrev pub said_at : Given → Known → Context → List Mark → List Finding
said_at given known context marks =
    if not (begins_interfaces context marks) then [] else said_in (said_behind given known (behind_first marks))

abbrev pub said_from : Given → Known → Context → List Mark → List Finding
said_from given known context [] = []
said_from given known context (mark ∷ marks) =
    said_at given known context (mark ∷ marks)
    ++ said_from given (known_behind known context (mark ∷ marks)) (context_behind context (mark ∷ marks)) marks

abbrev pub before : Context
before = beginning_at beginning

-- the rules and anchors of a text that hold for no packet of a run, since they name other interfaces than the run's own
unfoldable pub other_interfaces : (text : List ℕ) → (own : List (List ℕ)) → Given → List Finding
other_interfaces text own given = if are_closed (marks text) then said_from given (known_before own (marks text)) before (marks text) else []
