-- A text in the words of the strict reader.
use Rattle.std.specs.Prelude.{ℕ, ◌+◌, ◌==◌, Bool, nat_le, if◌then◌else◌, List, [], ◌∷◌, ◌++◌, map, take, Option, Some, None}
use Rattle.std.specs.Result.{is_ok}
use Rattle.pfr_rewrite.specs.declared.adapting.Adapted.{Adapted}
use Rattle.pfr_rewrite.specs.declared.adapting.Surroundings.{Surroundings}
use Rattle.pfr_expand.specs.Texts.{ruleset_of}
use Rattle.pfr_marks.specs.Marks.{marks}
use Rattle.pfr_marks.specs.declared.mark.Mark.{Mark}
use Rattle.pfr_marks.specs.declared.mark.Place.{Place}
use Rattle.pfr_phrases.specs.Changes.{finding_at}
use Rattle.pfr_phrases.specs.Tracing.{old_place, traced}
use Rattle.pfr_rewrite.specs.Elsewhere.{other_interfaces}
use Rattle.pfr_rewrite.specs.Whole.{changes}
use Rattle.pfr_net.specs.declared.interface.IfName.{IfName}
use Rattle.pfr_ruleset.specs.declared.interface.Interface.{Interface}
use Rattle.pfr_phrases.specs.declared.change.Change.{Change}
use Rattle.pfr_phrases.specs.declared.change.Finding.{Finding}
use Rattle.pfr_phrases.specs.declared.change.Text.{Text}
use Rattle.pfr_phrases.specs.declared.reason.Reason.{Reason}
use Rattle.pfr_phrases.specs.declared.reason.Reason.TheVariants as reason
use Rattle.pfr_phrases.specs.declared.tracing.Piece.{Piece}

-- the strict reader accepts a text
abbrev pub is_accepted : List ℕ → Surroundings → Bool
is_accepted text around = is_ok (ruleset_of text around.interfaces)

-- how many bytes stand before the first zero, with those before
abbrev pub zero_from : ℕ → List ℕ → ℕ
zero_from before [] = before
zero_from before (b ∷ bytes) = if b == 0 then before else zero_from (before + 1) bytes

-- the name of an interface
abbrev pub name_of : IfName → List ℕ
name_of name = take (zero_from 0 name.bytes) name.bytes

-- the names of interfaces, by their places
abbrev pub names_of : List Interface → List (List ℕ)
names_of interfaces = map (λ interface. name_of interface.name) interfaces

-- what is rewritten of a text
abbrev pub changes_for : List ℕ → Surroundings → List Change
changes_for text around = changes text (names_of around.interfaces) around.given

-- what is said at the place of a finding, for another reason
abbrev pub finding_for : Finding → Reason → Finding
finding_for finding reason = record finding { reason = reason }

abbrev pub findings_for : Finding → List Reason → List Finding
findings_for finding reasons = map (λ reason. finding_for finding reason) reasons

abbrev pub text_findings : Finding → Option Text → List Finding
text_findings finding None = []
text_findings finding (Some text) = findings_for finding text.reasons

-- what changes say: each at its word, and then why words of its text were rewritten
abbrev pub findings_of : List Change → List Finding
findings_of [] = []
findings_of (change ∷ changes) = change.finding ∷ (text_findings change.finding change.text ++ findings_of changes)

-- what changes make of a text, and what they say
unfoldable pub adapted_by : List ℕ → List Change → Adapted
adapted_by text changes = let all = traced text changes in record {
  text = all.made.text;
  lines = all.made.lines;
  pieces = all.pieces;
  findings = findings_of changes;
}

-- as it is
abbrev pub unchanged : List ℕ → Adapted
unchanged text = adapted_by text []

-- ---- a text that would have to be rewritten again

-- a word begins at an offset, or behind it
abbrev pub is_from : ℕ → Mark → Bool
is_from offset mark = nat_le offset mark.start.offset

-- what is said: at the first of these words that begins at an offset, or behind it
abbrev pub unsettled_from : ℕ → List Mark → Option Finding
unsettled_from offset [] = None
unsettled_from offset (mark ∷ marks) =
    if is_from offset mark then Some (finding_at mark reason.Unsettled) else unsettled_from offset marks

-- the place in the text at which the first of these changes of its new text is said
abbrev pub first_place : List Piece → List Change → Option Place
first_place pieces [] = None
first_place pieces (change ∷ changes) = Some (old_place pieces change.finding.place 0)

-- the place in the text at which its new text would be rewritten again
abbrev pub again_at : Adapted → Surroundings → Option Place
again_at all around = first_place all.pieces (changes_for all.text around)

abbrev pub finding_list : Option Finding → List Finding
finding_list None = []
finding_list (Some finding) = finding ∷ []

unfoldable pub unsettled_findings : List ℕ → Place → List Finding
unsettled_findings text place = finding_list (unsettled_from place.offset (marks text))

-- as it is; the place at which it would be rewritten again is said
unfoldable pub unsettled : List ℕ → Place → Adapted
unsettled text place = record (unchanged text) { findings = unsettled_findings text place }

abbrev pub settled_by : List ℕ → Adapted → Option Place → Adapted
settled_by text all None = all
settled_by text all (Some place) = unsettled text place

-- with all that is to be rewritten, unless the new text would be rewritten again
unfoldable pub settled : List ℕ → Surroundings → Adapted
settled text around = let all = adapted_by text (changes_for text around) in
    if is_accepted all.text around then all else settled_by text all (again_at all around)

unfoldable pub adapted : List ℕ → Surroundings → Adapted
adapted text around = if is_accepted text around then unchanged text else settled text around

-- the rules and anchors that hold for no packet, since they name other interfaces
abbrev pub rules_of_others : List ℕ → Surroundings → Bool → List Finding
rules_of_others text around was_adapted =
    other_interfaces text (names_of around.interfaces) (if was_adapted then around.given else record { entries = [] })
