-- Changes lie one behind the other, since the words of a text do.
use Rattle.std.proofs.Common.{◌≡◌, ◌∙◌, ◌≤◌, ℕ, zero, suc, ◌+◌, ◌-◌, ◌&&◌, Bool, true, false, if◌then◌else◌, List, [], ◌∷◌, ◌++◌, arith, codes, length, take, Option, Some, None, refl, ap, subst, sym}
use Rattle.std.proofs.lemmas.List.{length-take}
use Rattle.std.specs.Option.{is_some}
use Rattle.pfr_given.specs.declared.entry.Given.{Given}
use Rattle.pfr_words.specs.Words.{piece_len, pieces, pieces_from, token_of}
use Rattle.pfr_marks.specs.Braces.{are_closed}
use Rattle.pfr_marks.specs.Marks.{beginning, begins_with, behind, is, marks, marks_from}
use Rattle.pfr_marks.specs.declared.mark.Mark.{Mark}
use Rattle.pfr_marks.specs.declared.mark.Place.{Place}
use Rattle.pfr_phrases.specs.Changing.{change_in, passed_by}
use Rattle.pfr_phrases.specs.Contexts.{context_behind, ended_at, is_anchor, with_brace, with_line_end, with_mark}
use Rattle.pfr_phrases.specs.Statements.{end_of}
use Rattle.pfr_phrases.specs.declared.change.Change.{Change}
use Rattle.pfr_phrases.specs.declared.change.Found.{Found}
use Rattle.pfr_phrases.specs.declared.context.Context.{Context}
use Rattle.pfr_phrases.proofs.CoverLawLemmas.{CoversIf, either}
use Rattle.pfr_spelling.specs.Known.{known_behind}
use Rattle.pfr_spelling.specs.declared.known.Known.{Known}
use Rattle.pfr_rewrite.specs.Laws.{LieBetween}
use Rattle.pfr_rewrite.specs.Whole.{before, changes, changes_at, changes_from, found_here, known_before, passed_behind, statement_at}
use Rattle.pfr_rewrite.proofs.FoundLawLemmas.{found_covers}

-- ---- marks lie one behind the other

-- marks between two offsets: each begins where the one before it ends, or behind it, and ends behind its beginning
abbrev pub MarksLie : (from end : ℕ) → List Mark → Type 0
MarksLie from end [] = from ≤ end
MarksLie from end (mark ∷ marks) = (from ≤ mark.start.offset) × (mark.start.offset ≤ mark.end.offset) × MarksLie mark.end.offset end marks

-- how long pieces are together
abbrev pub total : List (List ℕ) → ℕ
total [] = 0
total (piece ∷ pieces) = length piece + total pieces

further : (from to end : ℕ) (marks : List Mark) → from ≤ to → MarksLie to end marks → MarksLie from end marks
further from to end [] less lie = omega (arith, less, lie)
further from to end (mark ∷ marks) less lie = (omega (arith, less, lie.0), lie.1, lie.2)

with_piece : (test : Bool) (mark : Mark) (end : ℕ) (marks : List Mark) → mark.start.offset ≤ mark.end.offset → MarksLie mark.end.offset end marks
    → MarksLie mark.start.offset end ((if test then mark ∷ [] else []) ++ marks)
with_piece true mark end marks behind lie = (omega arith, behind, lie)
with_piece false mark end marks behind lie = further mark.start.offset mark.end.offset end marks behind lie

pieces_lie : (place : Place) (end : ℕ) (pieces : List (List ℕ)) → place.offset + total pieces ≤ end
    → MarksLie place.offset end (marks_from place pieces)
pieces_lie place end [] within = omega (arith, within)
pieces_lie place end (piece ∷ pieces) within =
    with_piece (is_some (token_of piece)) (record { start = place; end = behind place piece; piece = piece }) end
    (marks_from (behind place piece) pieces)
    (omega arith) (pieces_lie (behind place piece) end pieces (omega (arith, within)))

-- pieces are no longer than their text
pieces_within : (skipped : ℕ) (text : List ℕ) → total (pieces_from skipped text) ≤ length text - skipped
pieces_within skipped [] = omega arith
pieces_within (suc skipped) (b ∷ text) = omega (arith, pieces_within skipped text)
pieces_within zero (b ∷ text) =
    let len = piece_len (b ∷ text) in
    omega (arith, length-take len (b ∷ text), pieces_within (len - 1) text)

marks_lie : (text : List ℕ) → MarksLie 0 (length text) (marks text)
unfolding marks pieces
marks_lie text = pieces_lie beginning (length text) (pieces_from 0 text) (omega (arith, pieces_within 0 text))

-- ---- where changes end

further_end : (place : Place) (from end : ℕ) (marks : List Mark) (n : ℕ) → from ≤ place.offset → MarksLie place.offset end marks
    → from ≤ (end_of place (take n marks)).offset
further_end place from end marks zero before lie = before
further_end place from end [] (suc n) before lie = before
further_end place from end (mark ∷ marks) (suc n) before lie = further_end mark.end from end marks n (omega (arith, before, lie.0, lie.1)) lie.2

-- the first `count` marks end where the `count - 1` marks behind the first one end
end_behind : (count : ℕ) (mark : Mark) (marks : List Mark) → 1 ≤ count
    → end_of mark.start (take count (mark ∷ marks)) ≡ end_of mark.end (take (count - 1) marks)
end_behind zero mark marks some = absurd (omega arith)
end_behind (suc count) mark marks some = let less : suc count - 1 ≡ count = omega arith in ap (λ n. end_of mark.end (take n marks)) (sym less)

-- a context knows where the mark before ends
abbrev pub Ends : Place → Context → Type 0
Ends place context = context.behind ≡ place

brace_ends : (context : Context) (ends_line : Bool) → (with_brace context ends_line).behind ≡ context.behind
brace_ends context ends_line = either (Ends context.behind) (ends_line && is_anchor context.within) _ _ refl refl

line_ends : (context : Context) → (with_line_end context).behind ≡ context.behind
line_ends context = either (Ends context.behind) context.in_braces _ _ refl refl

mark_ends : (context : Context) (mark : Mark) (more : List Mark) → (with_mark context mark more).behind ≡ context.behind
mark_ends context mark more =
    either (Ends context.behind) (is (codes "\n") mark) _ _ (line_ends context)
    (either (Ends context.behind) (is (codes "{") mark) _ _ (brace_ends context (begins_with more (codes "\n")))
    (either (Ends context.behind) (is (codes "}") mark) _ _ refl
    (either (Ends context.behind) (is (codes "(") mark) _ _ refl
    (either (Ends context.behind) (is (codes ")") mark) _ _ refl refl))))

ends_behind : (context : Context) (mark : Mark) (more : List Mark) → (context_behind context (mark ∷ more)).behind ≡ mark.end
unfolding context_behind
ends_behind context mark more =
    either (Ends mark.end) context.in_angles (ended_at context mark more) (with_mark (ended_at context mark more) mark more) refl
    (mark_ends (ended_at context mark more) mark more)

-- ---- changes

-- what is behind a change may begin at the end of the marks that it has
with_found : (found : Option Found) (context : Context) (from end : ℕ) (mark : Mark) (marks : List Mark) (changes : List Change)
    → CoversIf context (mark ∷ marks) found → from ≤ context.behind.offset → MarksLie context.behind.offset end (mark ∷ marks)
    → ((next : ℕ) → next ≤ (end_of mark.end (take (passed_by found) marks)).offset → LieBetween next end changes)
    → LieBetween from end (change_in found ++ changes)
with_found None context from end mark marks changes covers under lie more = more from (omega (arith, under, lie.0, lie.1))
with_found (Some found) context from end mark marks changes covers under lie more =
    let to : found.change.to.offset ≡ (end_of mark.end (take (found.count - 1) marks)).offset =
    ap (λ place. place.offset) (covers.3 ∙ end_behind found.count mark marks covers.1) in
    let begins = covers.2 lie.0 in
    let ends = further_end mark.end mark.start.offset end marks (found.count - 1) lie.1 lie.2 in (
      omega (arith, under, begins.0),
      omega (arith, begins.1, ends, to),
      more found.change.to.offset (omega (arith, to)),
    )

with_one : (passed : ℕ) (given : Given) (known : Known) (context : Context) (statement : List Mark) (from end : ℕ) (mark : Mark) (marks : List Mark)
    (changes : List Change) → from ≤ (end_of context.behind (take passed (mark ∷ marks))).offset → MarksLie context.behind.offset end (mark ∷ marks)
    → ((next : ℕ) → next ≤ (end_of mark.end (take (passed_behind given known context passed statement (mark ∷ marks)) marks)).offset
    → LieBetween next end changes)
    → LieBetween from end (changes_at given known context passed statement (mark ∷ marks) ++ changes)
with_one zero given known context statement from end mark marks changes under lie more =
    with_found (found_here given known context statement (mark ∷ marks)) context from end mark marks changes
    (found_covers given known context statement (mark ∷ marks)) under lie more
with_one (suc passed) given known context statement from end mark marks changes under lie more = more from under

none_taken : (n : ℕ) (place : Place) → end_of place (take n []) ≡ place
none_taken zero place = refl
none_taken (suc n) place = refl

lie_from : (given : Given) (known : Known) (context : Context) (passed : ℕ) (statement : List Mark) (from end : ℕ) (marks : List Mark)
    → from ≤ (end_of context.behind (take passed marks)).offset → MarksLie context.behind.offset end marks
    → LieBetween from end (changes_from given known context passed statement marks)
lie_from given known context passed statement from end [] under lie =
    let same : (end_of context.behind (take passed [])).offset ≡ context.behind.offset =
    ap (λ place. place.offset) (none_taken passed context.behind) in
    omega (arith, under, lie, same)
lie_from given known context passed statement from end (mark ∷ marks) under lie =
    let here = statement_at context statement (mark ∷ marks) in
    let next_context = context_behind context (mark ∷ marks) in
    let passed_next = passed_behind given known context passed here (mark ∷ marks) in
    let at_end : mark.end ≡ next_context.behind = sym (ends_behind context mark marks) in
    with_one passed given known context here from end mark marks _ under lie
    (λ next within. lie_from given (known_behind known context (mark ∷ marks)) next_context passed_next here next end marks
    (subst (λ place. next ≤ (end_of place (take passed_next marks)).offset) at_end within)
    (subst (λ place. MarksLie place.offset end marks) at_end lie.2))

if_closed : (closed : Bool) (end : ℕ) (changes : List Change) → LieBetween 0 end changes → LieBetween 0 end (if closed then changes else [])
if_closed true end changes lie = lie
if_closed false end changes lie = omega arith

pub lie_in_order : (text : List ℕ) (own : List (List ℕ)) (given : Given) → LieBetween 0 (length text) (changes text own given)
unfolding changes
lie_in_order text own given =
    if_closed (are_closed (marks text)) (length text) _
    (lie_from given (known_before own (marks text)) before 0 (marks text) 0 (length text) (marks text) (omega arith) (marks_lie text))
