-- The place of an event among entries by rising number.
use Rattle.std.proofs.Common.{◌≡◌, ℕ, zero, suc, ◌+◌, ◌≤◌, ◌<◌, true, nat_lt, List, [], ◌∷◌, ◌++◌, length, take, drop, get_or, refl, ap, ◌∙◌, arith}
use Rattle.std.specs.List.Sorted.{IsNonDecreasingBy}
use Rattle.std.proofs.lemmas.Bool.{and_parts, ltb-true}
use Rattle.std.proofs.lemmas.List.{get_or_read}
use Rattle.pfr_sync.specs.declared.event.Event.{Event}
use Rattle.pfr_sync.specs.declared.queue.QueuedState.{QueuedState}
use Rattle.pfr_sync.specs.Queues.{number_of, rise, with_entry}
use Rattle.pfr_sync.proofs.QueueLemmas.{with_behind}
use Rattle.pfr_sync.proofs.RiseLemmas.{are_above}

above_at : (n : ℕ) (entries : List QueuedState) (i : ℕ) (d : QueuedState) → are_above n entries ≡ true → i < length entries → n < number_of (get_or entries i d)
above_at n [] i d above within = absurd (omega arith)
above_at n (x ∷ entries) zero d above within = ltb-true n (number_of x) (and_parts (nat_lt n (number_of x)) (are_above n entries) above).0
above_at n (x ∷ entries) (suc i) d above within = above_at n entries i d (and_parts (nat_lt n (number_of x)) (are_above n entries) above).1 (omega arith)

pub numbers_rise : (entries : List QueuedState) → rise entries ≡ true → IsNonDecreasingBy number_of entries
numbers_rise [] in_order i j d low within = absurd (omega arith)
numbers_rise (x ∷ entries) in_order zero zero d low within = omega arith
numbers_rise (x ∷ entries) in_order zero (suc j) d low within =
    let above = above_at (number_of x) entries j d (and_parts (are_above (number_of x) entries) (rise entries) in_order).0 (omega arith) in
    omega arith
numbers_rise (x ∷ entries) in_order (suc i) zero d low within = absurd (omega arith)
numbers_rise (x ∷ entries) in_order (suc i) (suc j) d low within =
    numbers_rise entries (and_parts (are_above (number_of x) entries) (rise entries) in_order).1 i j d (omega arith) (omega arith)

-- entries of lower numbers stay as they are
pub behind_lower : (event : Event) (entries : List QueuedState) (place : ℕ) → place ≤ length entries
    → ((i : ℕ) (d : QueuedState) → i < place → number_of (get_or entries i d) < event.state.number.0)
    → with_entry event entries ≡ take place entries ++ with_entry event (drop place entries)
behind_lower event entries zero within lower = refl
behind_lower event [] (suc place) within lower = absurd (omega arith)
behind_lower event (x ∷ entries) (suc place) within lower =
    with_behind event x entries (lower 0 x (omega arith))
    ∙ ap (λ rest. x ∷ rest) (behind_lower event entries place (omega arith) (λ i d before. lower (suc i) d (omega arith)))

-- ---- a search by halves

-- entries before a place are of lower numbers, and those from another on are not
pub record Halves (entries : List QueuedState) (n low high : ℕ) : Type 0 where
  pub order : low ≤ high
  pub within : high ≤ length entries
  pub lower : (i : ℕ) (d : QueuedState) → i < low → number_of (get_or entries i d) < n
  pub above : (d : QueuedState) → high < length entries → n ≤ number_of (get_or entries high d)

pub halves_lower : (entries : List QueuedState) (n low high m : ℕ) (x : QueuedState) → rise entries ≡ true → Halves entries n low high → m < high
    → x ≡ get_or entries m x → number_of x < n → Halves entries n (m + 1) high
halves_lower entries n low high m x in_order halves before read is_lower = record {
  order = omega arith;
  within = halves.within;
  lower = λ i d behind.
      let rises = numbers_rise entries in_order i m d (omega arith) (omega (arith, halves.within)) in
      omega (arith, rises, ap number_of (get_or_read entries m x (omega (arith, halves.within)) read d));
  above = halves.above;
}
