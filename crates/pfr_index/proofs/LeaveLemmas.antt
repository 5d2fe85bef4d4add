-- What a slot that is left changes.
use Rattle.std.proofs.Common.{◌≡◌, ℕ, ◌+◌, ◌-◌, ◌≤◌, Bool, true, false, cond, List, length, set, get_or, arith, refl, ap, ◌∙◌}
use Rattle.std.specs.List.{All, count_by, sum_by}
use Rattle.std.proofs.lemmas.List.{get_or_default, length-set}
use Rattle.std.proofs.lemmas.List.Sums.{sum_by-le, sum_by-set}
use Rattle.std.proofs.lemmas.Bool.Decides.{nat_tests}
use Rattle.pfr_index.specs.declared.slot.Slot.{Slot}
use Rattle.pfr_index.specs.Index.{Entry, is_same, once, times_in}
use Rattle.pfr_index.specs.Slots.{AreReached, IsIndex, IsLeft, Leaves, ends, entries_of, holds, home_of, is_free, is_held, room_of}
use Rattle.pfr_index.proofs.SearchLemmas.{IsFirst}
use Rattle.pfr_index.proofs.PutLemmas.{all_reached, held_is_busy}
use Rattle.pfr_index.proofs.CountLemmas.{counted, times_is}
use Rattle.pfr_index.proofs.OrderLemmas.{end_before, ends_free, ends_holds, ends_other, holds_under, under_held}

-- ---- whether a slot holds an entry

not_true : (b : Bool) → (b ≡ true → b ≡ false) → b ≡ false
not_true true otherwise = otherwise refl
not_true false otherwise = refl

-- if the search ends at a slot that isn't held, no slot holds the entry
pub none_holds : (slots : List Slot) (entry : Entry) (i : ℕ) → AreReached slots → IsFirst (ends entry) slots (home_of entry.hash (length slots)) i
    → (any : Slot) → is_held (get_or slots i any) ≡ false → All (λ slot. holds entry slot ≡ false) slots
none_holds slots entry i reached first any unheld k other below =
    let free : (another : Slot) → is_free (get_or slots i another) ≡ true =
    λ another. ends_free entry (get_or slots i another) (first.passes another) (rw (get_or_default slots i another any first.within) unheld) in
    not_true
    (holds entry (get_or slots k other))
    (λ there.
    ends_other
    entry
    (get_or slots k other)
    (end_before (λ slot. ends entry slot ≡ false) slots entry.hash i reached first.before first.within free k other below (holds_under entry (get_or slots k other) there)))

pub leaves_first : (slots : List Slot) (entry : Entry) (i : ℕ) (left any : Slot) → IsFirst (ends entry) slots (home_of entry.hash (length slots)) i
    → is_held (get_or slots i any) ≡ true → is_free left ≡ false → is_held left ≡ false → IsLeft slots entry (set slots i left)
leaves_first slots entry i left any first held busy unheld = record {
  index = i;
  left = left;
  within = first.within;
  there = λ other. ends_holds entry (get_or slots i other) (first.passes other) (rw (get_or_default slots i other any first.within) held);
  busy = busy;
  unheld = unheld;
  is = refl;
}

-- ---- counts

sum_left : (f : Slot → ℕ) (old : List Slot) (entry : Entry) (new : List Slot) (left : IsLeft old entry new)
    → sum_by f new + f (get_or old left.index left.left) ≡ sum_by f old + f left.left
sum_left f old entry new left = rw left.is (sum_by-set f old left.index left.left left.left left.within)

-- an entry that a slot holds counts as often as that slot
same_once : (entry other : Entry) (slot : Slot) → holds entry slot ≡ true → counted other slot ≡ once entry other
same_once entry other slot there = grind (arith, nat_tests)

other_none : (entry other : Entry) (slot : Slot) → holds entry slot ≡ false → is_same entry other ≡ true → counted other slot ≡ 0
other_none entry other slot apart equal = grind (arith, nat_tests)

left_times : (old : List Slot) (entry : Entry) (new : List Slot) → IsLeft old entry new
    → (other : Entry) → times_in (entries_of new) other ≡ times_in (entries_of old) other - once entry other
left_times old entry new left other =
    let after : counted other left.left ≡ 0 = rw left.unheld refl in
    omega (
      arith,
      after,
      same_once entry other (get_or old left.index left.left) (left.there left.left),
      sum_left (counted other) old entry new left,
      times_is other old,
      times_is other new,
    )

none_times : (slots : List Slot) (entry other : Entry) → All (λ slot. holds entry slot ≡ false) slots
    → (equal : Bool) → is_same entry other ≡ equal → times_in (entries_of slots) other ≡ times_in (entries_of slots) other - once entry other
none_times slots entry other none true equal =
    let all : All (λ slot. counted other slot ≤ 0) slots = λ k any below. omega (arith, other_none entry other (get_or slots k any) (none k any below) equal) in
    omega (arith, times_is other slots, sum_by-le (counted other) 0 slots all)
none_times slots entry other none false equal =
    let nothing : once entry other ≡ 0 = rw equal refl in
    omega (arith, nothing)

pub leaves_times : (old : List Slot) (entry : Entry) (found : Bool) (new : List Slot) → Leaves old entry found new
    → (other : Entry) → times_in (entries_of new) other ≡ times_in (entries_of old) other - once entry other
leaves_times old entry true new left other = left_times old entry new left other
leaves_times old entry false new kept other = rw kept.0 (none_times old entry other kept.1 (is_same entry other) refl)

-- ---- the invariant

was_held : (old : List Slot) (entry : Entry) (new : List Slot) (left : IsLeft old entry new) (other : Slot) → is_held (get_or old left.index other) ≡ true
was_held old entry new left other = under_held entry.hash (get_or old left.index other) (holds_under entry (get_or old left.index other) (left.there other))

pub leaves_held : (old : List Slot) (entry : Entry) (found : Bool) (new : List Slot) → Leaves old entry found new
    → count_by is_held new + cond found 1 0 ≡ count_by is_held old
leaves_held old entry true new left =
    let before : cond {A = ℕ} (is_held (get_or old left.index left.left)) 1 0 ≡ 1 = rw (was_held old entry new left left.left) refl in
    let after : cond {A = ℕ} (is_held left.left) 1 0 ≡ 0 = rw left.unheld refl in
    omega (arith, before, after, sum_left (λ slot. cond (is_held slot) 1 0) old entry new left)
leaves_held old entry false new kept = rw kept.0 (omega arith)

pub leaves_index : (old : List Slot) (entry : Entry) (found : Bool) (new : List Slot) → Leaves old entry found new
    → (held free : ℕ) → IsIndex old held free → IsIndex new (held - cond found 1 0) free
leaves_index old entry true new left held free index =
    let before : cond {A = ℕ} (is_free (get_or old left.index left.left)) 1 0 ≡ 0 =
    rw (held_is_busy (get_or old left.index left.left) (was_held old entry new left left.left)) refl in
    let after : cond {A = ℕ} (is_free left.left) 1 0 ≡ 0 = rw left.busy refl in
    record {
      reached =
          rw
          left.is
          (all_reached old left.index left.left left.within left.busy (λ held_now. absurd (let unheld = left.unheld in cc)) index.reached);
      held_is = omega (arith, index.held_is, leaves_held old entry true new left);
      free_is = omega (arith, index.free_is, before, after, sum_left (λ slot. cond (is_free slot) 1 0) old entry new left);
    }
leaves_index old entry false new kept held free index = record {
  reached = rw kept.0 index.reached;
  held_is = omega (arith, index.held_is, ap (count_by is_held) kept.0);
  free_is = omega (arith, index.free_is, ap (count_by is_free) kept.0);
}

pub leaves_room : (old : List Slot) (entry : Entry) (found : Bool) (new : List Slot) → Leaves old entry found new → room_of old ≤ room_of new
leaves_room old entry true new left =
    omega (arith, leaves_held old entry true new left, ap length left.is ∙ length-set old left.index left.left)
leaves_room old entry false new kept = omega (arith, leaves_held old entry false new kept, ap length kept.0)
