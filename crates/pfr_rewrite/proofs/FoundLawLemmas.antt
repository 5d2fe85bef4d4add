-- What is found at the front of marks covers some of them.
use Rattle.std.proofs.Common.{ℕ, zero, suc, not, List, [], ◌∷◌, arith, length, take, codes}
use Rattle.pfr_given.specs.declared.entry.Given.{Given}
use Rattle.pfr_marks.specs.Marks.{begins_with}
use Rattle.pfr_marks.specs.declared.mark.Mark.{Mark}
use Rattle.pfr_phrases.specs.Changing.{change_at}
use Rattle.pfr_phrases.specs.Statements.{statement_len}
use Rattle.pfr_phrases.specs.declared.context.Context.{Context}
use Rattle.pfr_phrases.specs.declared.context.Within.{Within}
use Rattle.pfr_phrases.specs.declared.context.Within.TheVariants as within
use Rattle.pfr_phrases.specs.declared.reason.Reason.TheVariants as reason
use Rattle.pfr_phrases.proofs.CoverLawLemmas.{CoversIf, change_covers, first_covers, is_first, unless}
use Rattle.pfr_spelling.specs.Known.{replaced_by}
use Rattle.pfr_spelling.specs.Replacing.{file_here, macro_here, value_here}
use Rattle.pfr_spelling.specs.Targets.{target_here}
use Rattle.pfr_spelling.specs.declared.known.Known.{Known}
use Rattle.pfr_spelling.proofs.KnownLawLemmas.{file_covers, macro_covers, of_text, stands_for, target_covers, value_covers}
use Rattle.pfr_rewrite.specs.Antispoof.{antispoof_by, antispoof_here, rules_of}
use Rattle.pfr_rewrite.specs.Unseen.{element_here, rule_here}
use Rattle.pfr_rewrite.specs.Whole.{found_here, known_here, known_within, known_word, statement_here}
use Rattle.pfr_rewrite.proofs.UnseenLawLemmas.{element_covers, rule_covers}

-- ---- `antispoof`

of_antispoof : (n : ℕ) (given : Given) (known : Known) (context : Context) (marks : List Mark)
    → CoversIf context marks (antispoof_by given known context marks (take n marks))
of_antispoof zero given known context marks = tt
of_antispoof (suc n) given known context [] = tt
of_antispoof (suc n) given known context (word ∷ marks) =
    of_text context word (word ∷ marks) (replaced_by (rules_of given known (take n marks)) (length (word ∷ take n marks)) reason.Antispoof)
    (is_first word marks) (stands_for (rules_of given known (take n marks)) (length (word ∷ take n marks)) reason.Antispoof (omega arith))

antispoof_covers : (given : Given) (known : Known) (context : Context) (marks : List Mark)
    → CoversIf context marks (antispoof_here given known context marks)
unfolding antispoof_here
antispoof_covers given known context marks =
    unless (not (begins_with marks (codes "antispoof"))) context marks (antispoof_by given known context marks (take (statement_len marks) marks))
    (of_antispoof (statement_len marks) given known context marks)

-- ---- all

word_covers : (given : Given) (known : Known) (context : Context) (statement marks : List Mark)
    → CoversIf context marks (known_word given known context statement marks)
unfolding known_word
word_covers given known context statement marks =
    first_covers context marks (target_here given known context marks) _ (target_covers given known context marks)
    (first_covers context marks (file_here given known context statement marks) _ (file_covers given known context statement marks)
    (first_covers context marks (value_here given known context marks) _ (value_covers given known context marks)
    (first_covers context marks (element_here known context marks) (macro_here given known context marks)
    (element_covers known context marks) (macro_covers given known context marks))))

statement_covers : (given : Given) (known : Known) (context : Context) (marks : List Mark)
    → CoversIf context marks (statement_here given known context marks)
unfolding statement_here
statement_covers given known context marks =
    first_covers context marks (antispoof_here given known context marks) (rule_here known marks)
    (antispoof_covers given known context marks) (rule_covers known context marks)

of_within : (inside : Within) (given : Given) (known : Known) (context : Context) (statement marks : List Mark)
    → CoversIf context marks (known_within inside given known context statement marks)
of_within within.Nothing given known context statement marks = statement_covers given known context marks
of_within within.Other given known context statement marks = tt
of_within within.Rule given known context statement marks = word_covers given known context statement marks
of_within within.Anchor given known context statement marks = word_covers given known context statement marks
of_within within.Table given known context statement marks = word_covers given known context statement marks
of_within within.Setting given known context statement marks = word_covers given known context statement marks

known_covers : (given : Given) (known : Known) (context : Context) (statement marks : List Mark)
    → CoversIf context marks (known_here given known context statement marks)
unfolding known_here
known_covers given known context statement marks = of_within context.within given known context statement marks

pub found_covers : (given : Given) (known : Known) (context : Context) (statement marks : List Mark)
    → CoversIf context marks (found_here given known context statement marks)
unfolding found_here
found_covers given known context statement marks =
    first_covers context marks (known_here given known context statement marks) (change_at context marks)
    (known_covers given known context statement marks) (change_covers context marks)
