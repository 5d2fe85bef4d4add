-- What is found at the front of marks covers some of them: by what macros stand for.
use Rattle.std.proofs.Common.{◌≡◌, ℕ, zero, suc, ◌+◌, ◌-◌, ◌||◌, not, List, [], ◌∷◌, arith, take, drop, codes, Option, Some, None, inl, refl, subst}
use Rattle.std.specs.Option.{is_some}
use Rattle.pfr_marks.specs.declared.mark.Mark.{Mark}
use Rattle.pfr_phrases.specs.Changing.{comma_before, sign_len}
use Rattle.pfr_phrases.specs.Statements.{statement_left_out, statement_len, may_ask}
use Rattle.pfr_phrases.specs.declared.change.Finding.{Finding}
use Rattle.pfr_phrases.specs.declared.context.Context.{Context}
use Rattle.pfr_phrases.specs.declared.reason.Reason.{Reason}
use Rattle.pfr_phrases.proofs.CoverLawLemmas.{CoversIf, IsAtIf, at_behind, at_later, of_element, of_whole, unless}
use Rattle.pfr_spelling.specs.Known.{value_len}
use Rattle.pfr_spelling.specs.declared.known.Known.{Known}
use Rattle.pfr_rewrite.specs.Unseen.{begins_asking, element_behind, element_by, element_here, element_reason, lists_addresses, reason_here, rule_for, rule_here, rule_in, said_for, said_from, said_here}
use Rattle.pfr_rewrite.specs.UnseenValues.{unseen_value}
use Rattle.pfr_rewrite.proofs.UnseenLemmas.{none_here, some_here}

-- ---- rules

for_first : (mark : Mark) (marks : List Mark) (why : Option Reason) → IsAtIf (said_for mark why) (mark ∷ marks)
for_first mark marks None = tt
for_first mark marks (Some why) = inl (refl, refl)

said_at_front : (known : Known) (left : ℕ) (marks : List Mark) → IsAtIf (said_here known left marks) marks
unfolding said_here
said_at_front known left [] = tt
said_at_front known left (first ∷ marks) = for_first first marks (reason_here known left first marks (first ∷ marks))

first_said : (found : Option Finding) (known : Known) (left : ℕ) (mark : Mark) (marks : List Mark) → said_here known left (mark ∷ marks) ≡ found
    → IsAtIf found (mark ∷ marks) → IsAtIf (said_from known (left - value_len known (mark ∷ marks)) marks) marks
    → IsAtIf (said_from known left (mark ∷ marks)) (mark ∷ marks)
first_said (Some finding) known left mark marks is here later =
    subst (λ found. IsAtIf found (mark ∷ marks)) (some_here known left finding (mark ∷ marks) (omega arith) is) here
first_said None known left mark marks is here later =
    subst (λ found. IsAtIf found (mark ∷ marks)) (none_here known left (mark ∷ marks) (omega arith) is)
    (at_behind (said_from known (left - value_len known (mark ∷ marks)) marks) mark marks later)

said_among : (known : Known) (left : ℕ) (marks : List Mark) → IsAtIf (said_from known left marks) marks
said_among known left [] = tt
said_among known left (mark ∷ marks) =
    first_said (said_here known left (mark ∷ marks)) known left mark marks refl (said_at_front known left (mark ∷ marks))
    (said_among known (left - value_len known (mark ∷ marks)) marks)

of_said : (n : ℕ) (said : Option Finding) (context : Context) (first : Mark) (marks : List Mark) → IsAtIf said (first ∷ take n marks)
    → CoversIf context (first ∷ marks) (rule_for said (first ∷ take n marks))
of_said n None context first marks at = tt
of_said n (Some finding) context first marks at = of_whole n finding context first marks at

of_rule : (n : ℕ) (known : Known) (context : Context) (marks : List Mark) → CoversIf context marks (rule_in known (take n marks) marks)
of_rule zero known context marks = unless (not (begins_asking marks) || is_some (statement_left_out marks)) context marks None tt
of_rule (suc n) known context [] = tt
of_rule (suc n) known context (first ∷ marks) =
    let said = said_from known known.left (first ∷ take n marks) in
    unless (not (may_ask first.piece) || is_some (statement_left_out (first ∷ marks))) context (first ∷ marks)
    (rule_for said (first ∷ take n marks)) (of_said n said context first marks (said_among known known.left (first ∷ take n marks)))

pub rule_covers : (known : Known) (context : Context) (marks : List Mark) → CoversIf context marks (rule_here known marks)
unfolding rule_here
rule_covers known context marks = of_rule (statement_len marks) known context marks

-- ---- elements of lists

of_reason : (why : Option Reason) (context : Context) (marks : List Mark) (lead : ℕ) → CoversIf context marks (element_by why context marks lead)
of_reason None context marks lead = tt
of_reason (Some why) context marks lead =
    of_element context (element_reason why) marks lead (drop lead marks) 1 (λ finding. at_later lead finding marks) (omega arith)

pub element_covers : (known : Known) (context : Context) (marks : List Mark) → CoversIf context marks (element_here known context marks)
unfolding element_here
element_covers known context marks =
    let lead = comma_before marks + sign_len (codes "!") (drop (comma_before marks) marks) in
    unless (not (lists_addresses context)) context marks (element_behind known context marks lead)
    (of_reason (unseen_value known known.left (drop lead marks)) context marks lead)
