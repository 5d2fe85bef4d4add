-- Bytes that are put one field after the other.
use Rattle.std.proofs.Common.{◌≡◌, ℕ, zero, suc, ◌≤◌, List, ◌∷◌, ◌++◌, take, refl, ap, ◌∙◌, append_assoc, arith}
use Rattle.pfr_messages.specs.Fields.{Puts, zeros}

-- a field, and what is put behind it
pub first : {o a p b q : List ℕ} → Puts o a p → Puts p b q → Puts o (a ++ b) q
first {o = o} {a = a} {b = b} e f = record { are = f.are ∙ ap (λ (x : List ℕ). x ++ b) e.are ∙ append_assoc o a b }

pub zeros_front : (n m : ℕ) → n ≤ m → take n (zeros m) ≡ zeros n
zeros_front zero m le = refl
zeros_front (suc n) zero le = absurd (omega arith)
zeros_front (suc n) (suc m) le = ap (λ (bytes : List ℕ). 0 ∷ bytes) (zeros_front n m (omega arith))
