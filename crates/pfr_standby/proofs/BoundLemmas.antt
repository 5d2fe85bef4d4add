-- No state is held above the greatest number that was ever inserted.
use Rattle.std.proofs.Common.{ℕ, List, [], ◌∷◌, fold, max, ◌==◌, refl, inl, inr, arith}
use Rattle.std.proofs.lemmas.Bool.{cases_Bool, ne_eqb}
use Rattle.std.proofs.Math.Nat.{le-max_left, le-max_right}
use Rattle.pfr_messages.specs.Messages.{Content}
use Rattle.pfr_messages.specs.declared.records.Insertion.{Insertion}
use Rattle.pfr_messages.specs.declared.records.Update.{Update}
use Rattle.pfr_messages.specs.declared.records.Deletion.{Deletion}
use Rattle.pfr_standby.specs.Bound.{NoneAbove, greatest_of}
use Rattle.pfr_standby.specs.Standby.{Standing, standing_after, with_insertion, with_update, without_deletion}
use Rattle.pfr_standby.proofs.HeldLemmas.{held_deleted, held_inserted, held_updated}

above_inserted : (n : ℕ) (r : Insertion) (s : Standing) → NoneAbove n s → NoneAbove (max n r.number.0) (with_insertion s r)
above_inserted n r s none m above =
    let before = le-max_left n r.number.0 in
    let own = le-max_right n r.number.0 in
    rw (held_inserted m s r, ne_eqb r.number.0 m (λ same. absurd (omega arith))) (none m (omega arith))

above_updated : (n : ℕ) (r : Update) (s : Standing) → NoneAbove n s → NoneAbove n (with_update s r)
above_updated n r s none m above =
    rw (held_updated m s r, none m above) (elim (cases_Bool (r.number.0 == m)) [ inl is ↦ rw is refl | inr other ↦ rw other refl ])

above_deleted : (n : ℕ) (r : Deletion) (s : Standing) → NoneAbove n s → NoneAbove n (without_deletion s r)
above_deleted n r s none m above =
    rw (held_deleted m s r, none m above) (elim (cases_Bool (r.number.0 == m)) [ inl is ↦ rw is refl | inr other ↦ rw other refl ])

all_inserted : (n : ℕ) (rs : List Insertion) (s : Standing) → NoneAbove n s → NoneAbove (greatest_of n rs) (fold with_insertion s rs)
all_inserted n [] s none = none
all_inserted n (r ∷ rs) s none = all_inserted (max n r.number.0) rs (with_insertion s r) (above_inserted n r s none)

all_updated : (n : ℕ) (rs : List Update) (s : Standing) → NoneAbove n s → NoneAbove n (fold with_update s rs)
all_updated n [] s none = none
all_updated n (r ∷ rs) s none = all_updated n rs (with_update s r) (above_updated n r s none)

all_deleted : (n : ℕ) (rs : List Deletion) (s : Standing) → NoneAbove n s → NoneAbove n (fold without_deletion s rs)
all_deleted n [] s none = none
all_deleted n (r ∷ rs) s none = all_deleted n rs (without_deletion s r) (above_deleted n r s none)

-- nor after a message
pub none_after : (n : ℕ) (content : Content) (s : Standing) → NoneAbove n s → NoneAbove (greatest_of n content.insertions) (standing_after content s)
none_after n content s none =
    let greatest = greatest_of n content.insertions in
    let inserted = fold with_insertion s content.insertions in
    all_deleted greatest content.deletions (fold with_update inserted content.updates)
    (all_updated greatest content.updates inserted (all_inserted n content.insertions s none))
