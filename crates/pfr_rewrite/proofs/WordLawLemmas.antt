-- Each change is said of a word of the text.
use Rattle.std.proofs.Common.{ℕ, zero, suc, Bool, true, false, if◌then◌else◌, List, [], ◌∷◌, ◌++◌, Option, Some, None, inr}
use Rattle.pfr_given.specs.declared.entry.Given.{Given}
use Rattle.pfr_marks.specs.Braces.{are_closed}
use Rattle.pfr_marks.specs.Marks.{marks}
use Rattle.pfr_marks.specs.declared.mark.Mark.{Mark}
use Rattle.pfr_phrases.specs.Changing.{change_in}
use Rattle.pfr_phrases.specs.Contexts.{context_behind}
use Rattle.pfr_phrases.specs.declared.change.Change.{Change}
use Rattle.pfr_phrases.specs.declared.change.Found.{Found}
use Rattle.pfr_phrases.specs.declared.context.Context.{Context}
use Rattle.pfr_phrases.proofs.CoverLawLemmas.{CoversIf}
use Rattle.pfr_spelling.specs.Known.{known_behind}
use Rattle.pfr_spelling.specs.declared.known.Known.{Known}
use Rattle.pfr_rewrite.specs.Laws.{AreAtWords}
use Rattle.pfr_rewrite.specs.Whole.{before, changes, changes_at, changes_from, found_here, known_before, passed_behind, statement_at}
use Rattle.pfr_rewrite.proofs.FoundLawLemmas.{found_covers}

-- among one mark more
among_more : (mark : Mark) (marks : List Mark) (changes : List Change) → AreAtWords changes marks → AreAtWords changes (mark ∷ marks)
among_more mark marks [] at = tt
among_more mark marks (change ∷ changes) at = (inr at.0, among_more mark marks changes at.1)

with_found : (found : Option Found) (context : Context) (mark : Mark) (marks : List Mark) (changes : List Change)
    → CoversIf context (mark ∷ marks) found
    → AreAtWords changes marks → AreAtWords (change_in found ++ changes) (mark ∷ marks)
with_found None context mark marks changes covers at = among_more mark marks changes at
with_found (Some found) context mark marks changes covers at = (covers.0, among_more mark marks changes at)

with_one : (passed : ℕ) (given : Given) (known : Known) (context : Context) (statement : List Mark) (mark : Mark) (marks : List Mark)
    (changes : List Change)
    → AreAtWords changes marks → AreAtWords (changes_at given known context passed statement (mark ∷ marks) ++ changes) (mark ∷ marks)
with_one zero given known context statement mark marks changes at =
    with_found (found_here given known context statement (mark ∷ marks)) context mark marks changes
    (found_covers given known context statement (mark ∷ marks)) at
with_one (suc passed) given known context statement mark marks changes at = among_more mark marks changes at

at_words : (given : Given) (known : Known) (context : Context) (passed : ℕ) (statement marks : List Mark)
    → AreAtWords (changes_from given known context passed statement marks) marks
at_words given known context passed statement [] = tt
at_words given known context passed statement (mark ∷ marks) =
    let here = statement_at context statement (mark ∷ marks) in
    with_one passed given known context here mark marks _
    (at_words given (known_behind known context (mark ∷ marks)) (context_behind context (mark ∷ marks))
    (passed_behind given known context passed here (mark ∷ marks)) here marks)

if_closed : (closed : Bool) (changes : List Change) (marks : List Mark) → AreAtWords changes marks → AreAtWords (if closed then changes else []) marks
if_closed true changes marks at = at
if_closed false changes marks at = tt

pub are_at_words : (text : List ℕ) (own : List (List ℕ)) (given : Given) → AreAtWords (changes text own given) (marks text)
unfolding changes
are_at_words text own given =
    if_closed (are_closed (marks text)) _ (marks text)
    (at_words given (known_before own (marks text)) before 0 (marks text) (marks text))
