-- Batches of a history by their numbers.
use Rattle.std.proofs.Common.{◌≡◌, ◌∙◌, ℕ, zero, suc, Some, None, Option, List, [], ◌∷◌, ◌++◌, sym, ap, subst}
use mathlib.Core.List.{IsPrefix}
use Rattle.pfr_claims.specs.Batches.{Batch}
use Rattle.pfr_workers.specs.declared.opening.OpenedClaims.{OpenedClaims}
use Rattle.pfr_workers.specs.Opening.{IsNumbered}

-- a longer history has the batch at the same number
numbered_append : (opened more : List OpenedClaims) (number : ℕ) (batch : Batch) → IsNumbered opened number batch → IsNumbered (opened ++ more) number batch
numbered_append [] more number batch is = absurd (cc is)
numbered_append (first ∷ opened) more zero batch is = is
numbered_append (first ∷ opened) more (suc number) batch is = numbered_append opened more number batch is

pub numbered_later : (opened longer : List OpenedClaims) (number : ℕ) (batch : Batch) → IsNumbered opened number batch → IsPrefix opened longer → IsNumbered longer number batch
numbered_later opened longer number batch is begins = subst (λ (entries : List OpenedClaims). IsNumbered entries number batch) begins.1 (numbered_append opened begins.0 number batch is)

-- two histories that begin one have the same batch at a number
pub same_batch : (mine its longer : List OpenedClaims) (number its_number : ℕ) (batch its_batch : Batch) → IsNumbered mine number batch → IsNumbered its its_number its_batch → its_number ≡ number → IsPrefix mine longer → IsPrefix its longer → its_batch ≡ batch
same_batch mine its longer number its_number batch its_batch is its_is same begins its_begins =
    let here = numbered_later mine longer number batch is begins in
    let there = subst (λ (n : ℕ). IsNumbered longer n its_batch) same (numbered_later its longer its_number its_batch its_is its_begins) in
    let both : Some its_batch ≡ Some batch = sym there ∙ here in
    ap (λ (o : Option Batch). elim o [ Some b ↦ b | None ↦ batch ]) both
