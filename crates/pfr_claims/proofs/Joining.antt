-- The lists of passes that are joined one after another.
use Rattle.std.proofs.Common.{◌≡◌, ℕ, ◌+◌, List, [], ◌∷◌, ◌++◌, length, sym, ap, ◌∙◌, arith}
use Rattle.std.proofs.lemmas.List.{append-nil, nil_from_length}
use Rattle.std.proofs.lemmas.List.Elements.{All-map}
use Rattle.std.specs.List.{All, concat}
use Rattle.std.specs.List.Sorted.{IsStrictlyIncreasing}
use Rattle.pfr_claims.specs.Batches.{Held, lists_of}
use Rattle.pfr_claims.specs.Counting.{times}
use Rattle.pfr_claims.proofs.Sums.{times_append}

-- how often a number stands in the lists of some passes and one more
pub times_joined : (number : ℕ) (passes : List Held) (last : Held) → times number (concat (lists_of (passes ++ last ∷ []))) ≡ times number last.drawn + times number (concat (lists_of passes))
times_joined number [] last = omega (arith, times_append number last.drawn [])
times_joined number (pass ∷ passes) last =
    let rest = times_joined number passes last in
    omega (arith, times_append number pass.drawn (concat (lists_of (passes ++ last ∷ []))), times_append number pass.drawn (concat (lists_of passes)))

abbrev pub Rises : Held → Type 0
Rises pass = IsStrictlyIncreasing pass.drawn

pub lists_rise : (passes : List Held) → All Rises passes → All IsStrictlyIncreasing (lists_of passes)
lists_rise passes rise = All-map IsStrictlyIncreasing (λ pass. pass.drawn) passes rise

-- once a loop has gone over all passes but the one that was popped first, those and that one are all passes
pub all_joined : (passes others iterated yielded left : List Held) (last : Held) → passes ≡ others ++ last ∷ [] → iterated ≡ others → yielded ++ left ≡ iterated → length left ≡ 0 → passes ≡ yielded ++ last ∷ []
all_joined passes others iterated yielded left last popped same split done =
    let none : left ≡ [] = nil_from_length left done in
    let joined : others ≡ yielded = sym (sym (append-nil yielded) ∙ (ap (λ items. yielded ++ items) (sym none) ∙ (split ∙ same))) in
    popped ∙ ap (λ items. items ++ last ∷ []) joined
