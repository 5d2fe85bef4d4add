-- Reading and writing record by record, as loops do.
use Rattle.std.proofs.Common.{◌≡◌, ℕ, suc, ◌+◌, ◌-◌, ◌<◌, ◌≤◌, List, [], ◌∷◌, ◌++◌, Option, Some, Result, Ok, Err, refl, sym, ap, ◌∙◌, append_assoc, arith}
use Rattle.std.proofs.lemmas.List.{append-nil}
use Rattle.pfr_messages.specs.declared.fault.Fault.{Fault}
use Rattle.pfr_messages.specs.Fields.{◌>>=◌}
use Rattle.pfr_messages.specs.Messages.{Kind, record_at, records_at}

-- what was read before, and what is still read
abbrev pub with_records : {R : Type 0} → List R → Result (List R × List ℕ) Fault → Result (List R × List ℕ) Fault
with_records front read = read >>= (λ x. Ok (front ++ x.0, x.1))

regroup : {R : Type 0} (front : List R) (r : R) (read : Result (List R × List ℕ) Fault)
    → with_records front (read >>= (λ x. Ok (r ∷ x.0, x.1))) ≡ with_records (front ++ r ∷ []) read
regroup {R = R} front r (Ok x) = ap (λ (rs : List R). Ok (rs, x.1)) (simp append_assoc)
regroup front r (Err f) = refl

pub goes_on : {R : Type 0} (kind : Kind R) (front : List R) (last : Option ℕ) (count i : ℕ) (bytes : List ℕ) (n : ℕ) (r : R)
    (after : List ℕ) (total : Result (List R × List ℕ) Fault) → i < count
    → record_at kind last bytes ≡ Ok (n, r, after) → with_records front (records_at kind last (count - i) bytes) ≡ total
    → with_records (front ++ r ∷ []) (records_at kind (Some n) (count - (i + 1)) after) ≡ total
unfolding records_at
goes_on kind front last count i bytes n r after total lt h so_far =
    let k : count - i ≡ suc (count - (i + 1)) = omega arith in
    let one : with_records front (records_at kind last (count - i) bytes) ≡ with_records (front ++ r ∷ [])
    (records_at kind (Some n) (count - (i + 1)) after) =
    rw (k, h) (regroup front r (records_at kind (Some n) (count - (i + 1)) after)) in
    sym one ∙ so_far

pub ends : {R : Type 0} (kind : Kind R) (front : List R) (last : Option ℕ) (count i : ℕ) (bytes : List ℕ) (fault : Fault)
    (total : Result (List R × List ℕ) Fault) → i < count
    → record_at kind last bytes ≡ Err fault → with_records front (records_at kind last (count - i) bytes) ≡ total
    → total ≡ Err fault
unfolding records_at
ends kind front last count i bytes fault total lt h so_far =
    let k : count - i ≡ suc (count - (i + 1)) = omega arith in
    let one : with_records front (records_at kind last (count - i) bytes) ≡ Err fault = rw (k, h) refl in
    sym so_far ∙ one

pub is_done : {R : Type 0} (kind : Kind R) (front : List R) (last : Option ℕ) (count i : ℕ) (bytes : List ℕ)
    (total : Result (List R × List ℕ) Fault) → count ≤ i
    → with_records front (records_at kind last (count - i) bytes) ≡ total → total ≡ Ok (front, bytes)
unfolding records_at
is_done {R = R} kind front last count i bytes total le so_far =
    let k : count - i ≡ 0 = omega arith in
    let one : with_records front (records_at kind last (count - i) bytes) ≡ Ok (front, bytes) =
    rw k (ap (λ (rs : List R). Ok (rs, bytes)) (append-nil front)) in
    sym so_far ∙ one
