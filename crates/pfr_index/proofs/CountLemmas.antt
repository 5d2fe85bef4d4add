-- How many slots are held or free, and how often an entry stands in them, when a slot takes the place of another one.
use Rattle.std.proofs.Common.{◌≡◌, ℕ, ◌+◌, ◌-◌, ◌<◌, ◌≤◌, Bool, true, false, cond, List, [], ◌∷◌, ◌++◌, take, drop, zero, suc, length, replicate, get_or, arith, refl, ap, ◌∙◌}
use mir.Val.{bool_byte}
use Rattle.std.specs.List.{count_by, sum_by}
use Rattle.std.proofs.lemmas.List.{length-set, take_at}
use Rattle.std.proofs.lemmas.List.Sums.{sum_by-cons, sum_by-set}
use Rattle.std.proofs.lemmas.Bool.Decides.{nat_tests}
use Rattle.pfr_index.specs.declared.slot.Slot.{Slot}
use Rattle.pfr_index.specs.Index.{Entry, once, times_in}
use Rattle.pfr_index.specs.Slots.{IsIndex, IsPut, entries_of, entry_of, is_free, is_held, room_of}
use Rattle.pfr_index.proofs.PutLemmas.{held_is_busy}

-- how often an entry stands in a slot
abbrev pub counted : Entry → Slot → ℕ
counted entry slot = cond (is_held slot) (once (entry_of slot) entry) 0

times_cons : (entry : Entry) (slot : Slot) (slots : List Slot) → times_in (entries_of slots) entry ≡ sum_by (counted entry) slots
    → (held : Bool) → is_held slot ≡ held → times_in (entries_of (slot ∷ slots)) entry ≡ sum_by (counted entry) (slot ∷ slots)
times_cons entry slot slots same true held =
    let entries : entries_of (slot ∷ slots) ≡ entry_of slot ∷ entries_of slots = rw held refl in
    let counts : counted entry slot ≡ once (entry_of slot) entry = rw held refl in
    let here : times_in (entries_of (slot ∷ slots)) entry ≡ once (entry_of slot) entry + times_in (entries_of slots) entry =
    ap (λ all. times_in all entry) entries ∙ sum_by-cons (λ other. once other entry) (entry_of slot) (entries_of slots) in
    omega (arith, here, counts, same, sum_by-cons (counted entry) slot slots)
times_cons entry slot slots same false held =
    let entries : entries_of (slot ∷ slots) ≡ entries_of slots = rw held refl in
    let counts : counted entry slot ≡ 0 = rw held refl in
    let here : times_in (entries_of (slot ∷ slots)) entry ≡ times_in (entries_of slots) entry = ap (λ all. times_in all entry) entries in
    omega (arith, here, counts, same, sum_by-cons (counted entry) slot slots)

pub times_is : (entry : Entry) (slots : List Slot) → times_in (entries_of slots) entry ≡ sum_by (counted entry) slots
times_is entry [] = refl
times_is entry (slot ∷ slots) = times_cons entry slot slots (times_is entry slots) (is_held slot) refl

-- what a sum over slots becomes
sum_put : (f : Slot → ℕ) (old : List Slot) (slot : Slot) (was_free : Bool) (new : List Slot) (put : IsPut old slot was_free new)
    → sum_by f new + f (get_or old put.index slot) ≡ sum_by f old + f slot
sum_put f old slot was_free new put = rw put.is (sum_by-set f old put.index slot slot put.within)

pub times_put : (old : List Slot) (slot : Slot) (was_free : Bool) (new : List Slot) → IsPut old slot was_free new → is_held slot ≡ true
    → (entry : Entry) → times_in (entries_of new) entry ≡ once (entry_of slot) entry + times_in (entries_of old) entry
times_put old slot was_free new put held entry =
    let before : counted entry (get_or old put.index slot) ≡ 0 = rw (put.unheld slot) refl in
    let after : counted entry slot ≡ once (entry_of slot) entry = rw held refl in
    let sums = sum_put (counted entry) old slot was_free new put in
    omega (arith, before, after, sums, times_is entry old, times_is entry new)

pub held_put : (old : List Slot) (slot : Slot) (was_free : Bool) (new : List Slot) → IsPut old slot was_free new → is_held slot ≡ true
    → count_by is_held new ≡ count_by is_held old + 1
held_put old slot was_free new put held =
    let before : cond {A = ℕ} (is_held (get_or old put.index slot)) 1 0 ≡ 0 = rw (put.unheld slot) refl in
    let after : cond {A = ℕ} (is_held slot) 1 0 ≡ 1 = rw held refl in
    let sums = sum_put (λ slot. cond (is_held slot) 1 0) old slot was_free new put in
    omega (arith, before, after, sums)

pub free_put : (old : List Slot) (slot : Slot) (was_free : Bool) (new : List Slot) → IsPut old slot was_free new → is_held slot ≡ true
    → count_by is_free new + cond was_free 1 0 ≡ count_by is_free old
free_put old slot was_free new put held =
    let before : cond {A = ℕ} (is_free (get_or old put.index slot)) 1 0 ≡ cond was_free 1 0 = rw (put.free slot) refl in
    let after : cond {A = ℕ} (is_free slot) 1 0 ≡ 0 = rw (held_is_busy slot held) refl in
    let sums = sum_put (λ slot. cond (is_free slot) 1 0) old slot was_free new put in
    omega (arith, before, after, sums)

pub room_put : (old : List Slot) (slot : Slot) (was_free : Bool) (new : List Slot) → IsPut old slot was_free new → is_held slot ≡ true
    → 0 < room_of old → room_of new + 1 ≡ room_of old
room_put old slot was_free new put held room =
    let same : length new ≡ length old = rw put.is (length-set old put.index slot) in
    omega (arith, same, room, held_put old slot was_free new put held)

-- a truth value as a number
pub byte_is : (b : Bool) → bool_byte b ≡ cond b 1 0
byte_is true = refl
byte_is false = refl

pub index_put : (old : List Slot) (slot : Slot) (was_free : Bool) (new : List Slot) → IsPut old slot was_free new → is_held slot ≡ true
    → (held free : ℕ) → IsIndex old held free → IsIndex new (held + 1) (free - cond was_free 1 0)
index_put old slot was_free new put is_held_slot held free index = record {
  reached = put.reached;
  held_is = omega (arith, index.held_is, held_put old slot was_free new put is_held_slot);
  free_is = omega (arith, index.free_is, free_put old slot was_free new put is_held_slot);
}

-- ---- free slots alone

pub times_of_free : (count : ℕ) (slot : Slot) → is_held slot ≡ false → (entry : Entry) → times_in (entries_of (replicate count slot)) entry ≡ 0
times_of_free zero slot unheld entry = refl
times_of_free (suc count) slot unheld entry = rw unheld (times_of_free count slot unheld entry)

-- ---- slots that were written back into their vector

pub written_back : (old new : List Slot) (n : ℕ) → length new ≡ length old → n ≡ length old → take n (new ++ drop (length new) old) ≡ new
written_back old new n same count = take_at new (drop (length new) old) n (omega arith)

-- ---- room

-- a slot counts once at most
held_or_free : (slot : Slot) → cond {A = ℕ} (is_held slot) 1 0 + cond (is_free slot) 1 0 ≤ 1
held_or_free slot = grind (arith, nat_tests)

pub held_and_free : (slots : List Slot) → count_by is_held slots + count_by is_free slots ≤ length slots
held_and_free [] = omega arith
held_and_free (slot ∷ slots) =
    omega (
      arith,
      held_or_free slot,
      held_and_free slots,
      sum_by-cons (λ slot. cond (is_held slot) 1 0) slot slots,
      sum_by-cons (λ slot. cond (is_free slot) 1 0) slot slots,
    )
