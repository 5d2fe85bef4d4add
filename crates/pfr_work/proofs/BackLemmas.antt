-- What comes back of one batch.
use Rattle.std.proofs.Common.{◌≡◌, ◌∙◌, List, [], ◌∷◌, ◌++◌, length, append_assoc, drop, Result, Ok, Err, IsOk, MatchResult, inl, inr, refl, ap, subst, arith}
use Rattle.pfr_claims.specs.declared.gathered.Gathered.{Gathered}
use Rattle.pfr_claims.specs.Batches.{Batch}
use Rattle.pfr_workers.specs.declared.incomplete.Incomplete.{Incomplete}
use Rattle.pfr_work.specs.Traces.{CameBack}
use Rattle.pfr_work.specs.Turns.{ComesBack, ComesWhole, Extends}
use Rattle.pfr_work.proofs.ReturnLemmas.{one_back, one_lost}

-- it is put to the others of its kind
pub one_came : (it : Result Gathered Incomplete) (batch : Batch) (entries entries' : List Gathered) (lost lost' : List Incomplete)
    → MatchResult it (λ entry. entry.claims.value ≡ batch) (λ incomplete. incomplete.claims.value ≡ batch)
    → MatchResult it (λ entry. entries' ≡ entries ++ entry ∷ []) (λ incomplete. entries' ≡ entries)
    → MatchResult it (λ entry. lost' ≡ lost) (λ incomplete. lost' ≡ lost ++ incomplete ∷ [])
    → ComesBack batch entries entries' lost lost'
one_came (Ok entry) batch entries entries' lost lost' own more others = inl (entry, own, more, others)
one_came (Err incomplete) batch entries entries' lost lost' own others more = inr (incomplete, own, others, more)

pub whole_came : (it : Result Gathered Incomplete) (batch : Batch) (entries entries' : List Gathered) (lost lost' : List Incomplete)
    → IsOk it
    → MatchResult it (λ entry. entry.claims.value ≡ batch) (λ incomplete. incomplete.claims.value ≡ batch)
    → MatchResult it (λ entry. entries' ≡ entries ++ entry ∷ []) (λ incomplete. entries' ≡ entries)
    → MatchResult it (λ entry. lost' ≡ lost) (λ incomplete. lost' ≡ lost ++ incomplete ∷ [])
    → ComesWhole batch entries entries' lost lost'
whole_came (Ok entry) batch entries entries' lost lost' whole own more others = (entry, own, more, others)
whole_came (Err incomplete) batch entries entries' lost lost' whole own others more = absurd (cc whole)

came_on : (batches : List Batch) (batch : Batch) (entries entries' : List Gathered) (lost lost' : List Incomplete) → CameBack batches entries lost → ComesBack batch entries entries' lost lost' → CameBack (batches ++ batch ∷ []) entries' lost'
came_on batches batch entries entries' lost lost' came (inl it) = one_back batches entries entries' lost lost' batch it.0 came it.1 it.2 it.3
came_on batches batch entries entries' lost lost' came (inr it) = one_lost batches entries entries' lost lost' batch it.0 came it.1 it.2 it.3

-- of one batch after others
pub came_more : (gone : List Batch) (batch : Batch) (first entries entries' : List Gathered) (none lost lost' : List Incomplete)
    → ((back : List Batch) → CameBack back first none → CameBack (back ++ gone) entries lost) → ComesBack batch entries entries' lost lost'
    → (back : List Batch) → CameBack back first none → CameBack (back ++ (gone ++ batch ∷ [])) entries' lost'
came_more gone batch first entries entries' none lost lost' before one = λ back came.
    subst (λ (batches : List Batch). CameBack batches entries' lost') (append_assoc back gone (batch ∷ [])) (came_on (back ++ gone) batch entries entries' lost lost' (before back came) one)

-- entries stay
pub extends_on : (first entries entries' : List Gathered) (batch : Batch) (lost lost' : List Incomplete) → Extends first entries → ComesBack batch entries entries' lost lost' → Extends first entries'
extends_on first entries entries' batch lost lost' before (inl it) = (before.0 ++ it.0 ∷ [], it.2 ∙ ap (λ (es : List Gathered). es ++ it.0 ∷ []) before.1 ∙ append_assoc first before.0 (it.0 ∷ []))
extends_on first entries entries' batch lost lost' before (inr it) = (before.0, it.2 ∙ before.1)

-- a list with something in its middle isn't empty
pub not_empty : {A : Type 0} → (xs : List A) (x : A) (ys : List A) → xs ++ x ∷ ys ≡ [] → ⊥
not_empty [] x ys is = absurd (cc is)
not_empty (y ∷ xs) x ys is = absurd (cc is)

-- who takes nothing from the front takes it from an empty list
pub emptied : {A : Type 0} → (old new : List A) → old ≡ new → new ≡ drop 1 old → old ≡ []
emptied [] new same rest = refl
emptied (x ∷ xs) new same rest = (let less = ap (λ (ys : List _). length ys) (same ∙ rest) in absurd (omega (arith, less)))
