-- States one line after the other.
use Rattle.std.proofs.Common.{◌≡◌, ◌++◌, ℕ, List, [], ◌∷◌, subst, sym}
use Rattle.std.proofs.lemmas.List.{append_assoc, append-nil}
use Rattle.pfr_listing.specs.Lines.{AreLinesOf, IsLineOf}
use Rattle.pfr_listing.specs.declared.line.Listed.{Listed}

-- with one state more
pub one_more : (states after : List Listed) (listed : Listed) (text rest line behind : List ℕ)
    → ((more : List Listed) → AreLinesOf more rest → AreLinesOf (states ++ more) text)
    → IsLineOf listed line → rest ≡ line ++ 10 ∷ behind → after ≡ states ++ listed ∷ []
    → (more : List Listed) → AreLinesOf more behind → AreLinesOf (after ++ more) text
one_more states after listed text rest line behind so_far lists parts is more later =
    let all : AreLinesOf (states ++ listed ∷ more) text = so_far (listed ∷ more) (line, behind, (lists, (parts, later))) in
    subst (λ after. AreLinesOf (after ++ more) text) (sym is)
    (subst (λ all. AreLinesOf all text) (sym (append_assoc states (listed ∷ []) more)) all)

-- with none more
pub no_more : (states : List Listed) (text rest : List ℕ) → ((more : List Listed) → AreLinesOf more rest → AreLinesOf (states ++ more) text)
    → rest ≡ [] → AreLinesOf states text
no_more states text rest so_far none = subst (λ all. AreLinesOf all text) (append-nil states) (so_far [] none)
