-- All that the strict reader refuses of a text.
use Rattle.std.specs.Prelude.{ℕ, zero, suc, ◌&&◌, Bool, true, false, not, nat_le, if◌then◌else◌, List, [], ◌∷◌, ◌++◌, Option, Some, None, Result, Ok, Err}
use Rattle.std.specs.List.{slice_get}
use Rattle.pfr_expand.specs.Texts.{ruleset_of}
use Rattle.pfr_ruleset.specs.declared.interface.Interface.{Interface}
use Rattle.pfr_ruleset.specs.declared.ruleset.Ruleset.{Ruleset}
use Rattle.pfr_terms.specs.declared.error.ConfError.{ConfError}
use Rattle.pfr_terms.specs.declared.error.ConfErrorKind.{ConfErrorKind}
use Rattle.pfr_terms.specs.declared.error.ConfErrorKind.TheVariants as kinds
use Rattle.pfr_marks.specs.Marks.{beginning, marks}
use Rattle.pfr_marks.specs.declared.mark.Mark.{Mark}
use Rattle.pfr_faults.specs.Leaving.{all_left, is_cut, left_without, uses_any}
use Rattle.pfr_faults.specs.Spread.{is_too_long, spread_out, word_from}
use Rattle.pfr_faults.specs.declared.faults.Fault.{Fault}
use Rattle.pfr_faults.specs.declared.faults.Hit.{Hit}
use Rattle.pfr_faults.specs.declared.leaving.Left.{Left}
use Rattle.pfr_faults.specs.declared.spread.Separator.{Separator}
use Rattle.pfr_faults.specs.declared.spread.Spread.{Spread}

-- ---- the first fault

abbrev pub fault_in : Result Ruleset ConfError → Option ConfError
fault_in (Ok rules) = None
fault_in (Err fault) = Some fault

abbrev pub first_fault : List ℕ → List Interface → Option ConfError
first_fault text interfaces = fault_in (ruleset_of text interfaces)

abbrev pub hit_at : Option ℕ → ConfErrorKind → Option Hit
hit_at None kind = None
hit_at (Some at) kind = Some (record { at = at; kind = kind })

abbrev pub hit_in : Separator → List Mark → Option ConfError → Option Hit
hit_in separator marks None = None
hit_in separator marks (Some fault) = hit_at (word_from separator fault.line 1 0 marks) fault.kind

abbrev pub hit_of : Spread → List Mark → List Interface → Option Hit
hit_of made marks interfaces = hit_in made.separator marks (first_fault made.text interfaces)

-- of some words, each on a line of its own
unfoldable pub first_hit : List Mark → List Interface → Option Hit
first_hit marks interfaces = hit_of (spread_out marks) marks interfaces

-- ---- one after the other

-- at a word, or at the beginning of the text
abbrev pub fault_at : Option Mark → ConfErrorKind → Fault
fault_at (Some mark) kind = record { place = mark.start; word = mark.piece; kind = kind }
fault_at None kind = record { place = beginning; word = []; kind = kind }

-- a brace or a quote that nothing closes
abbrev pub is_open : ConfErrorKind → Bool
is_open kinds.Unterminated = true
is_open _ = false

-- a fault is said, unless it is the use of a macro whose definition is at fault itself
abbrev pub is_said_of : ConfErrorKind → List ℕ → List Mark → Bool
is_said_of kinds.UndefinedMacro word undefined = not (uses_any word undefined)
is_said_of kinds.UnknownWord word undefined = not (uses_any word undefined)
is_said_of _ word undefined = true

unfoldable pub is_said : Fault → List Mark → Bool
is_said fault undefined = is_said_of fault.kind fault.word undefined

-- nor is one of a statement that was cut down before
abbrev pub if_said : Fault → Bool → List Mark → List Fault
if_said fault cut undefined = if not cut && is_said fault undefined then fault ∷ [] else []

abbrev pub fault_list : Option Hit → Left → List Fault
fault_list None left = []
fault_list (Some hit) left =
    if_said (fault_at (slice_get left.marks hit.at) hit.kind) (is_cut hit.at (is_open hit.kind) left) left.undefined

-- the words without the statement that is at fault
abbrev pub left_behind : Option Hit → Left → Left
left_behind None left = left
left_behind (Some hit) left = left_without hit.at (is_open hit.kind) left

abbrev pub goes_on : Option Hit → Bool
goes_on None = false
goes_on (Some hit) = true

-- at most `left` faults: the first one, and then those of the words without its statement
unfoldable pub faults_from : (left : ℕ) → Left → List Interface → List Fault
faults_from zero words interfaces = []
faults_from (suc left) words interfaces =
    let hit = first_hit words.marks interfaces in
    fault_list hit words ++ (if goes_on hit then faults_from left (left_behind hit words) interfaces else [])

unfoldable pub faults_of : List Mark → List Interface → List Fault
faults_of marks interfaces = faults_from 100 (all_left marks) interfaces

-- ---- the faults of a text

abbrev pub is_behind : ℕ → Mark → Bool
is_behind line mark = nat_le line mark.start.line

-- the first of these words that begins on a line, or behind it
abbrev pub first_on : ℕ → List Mark → Option Mark
first_on line [] = None
first_on line (mark ∷ marks) = if is_behind line mark then Some mark else first_on line marks

abbrev pub alone : ConfError → List Mark → List Fault
alone fault marks = fault_at (first_on fault.line marks) fault.kind ∷ []

abbrev pub is_nothing : List Fault → Bool
is_nothing [] = true
is_nothing (fault ∷ faults) = false

-- of a text that has this fault first
unfoldable pub faults_behind : ConfError → List Mark → List Interface → List Fault
faults_behind fault marks interfaces =
    if is_nothing (faults_of marks interfaces) then alone fault marks else faults_of marks interfaces

abbrev pub faults_in : Option ConfError → List ℕ → List Interface → List Fault
faults_in None text interfaces = []
faults_in (Some fault) text interfaces =
    if is_too_long text then alone fault (marks text) else faults_behind fault (marks text) interfaces

unfoldable pub all_faults : List ℕ → List Interface → List Fault
all_faults text interfaces = faults_in (first_fault text interfaces) text interfaces
