-- What goes along a chain: one step, and the end.
use Rattle.std.proofs.Common.{◌≡◌, ◌+◌, ◌<◌, ◌≤◌, ℕ, List, length, get_or, refl, arith}
use Rattle.std.proofs.lemmas.Option.{slice_get-get_or, slice_get_read, get_or_from_slice_get}
use Rattle.pfr_chains.specs.Chains.{IsNext, AreChainsFrom, IsOn}

-- the number read at a place, whatever stands for one past the end
read_at : (nexts : List ℕ) (now to : ℕ) → now < length nexts → to ≡ get_or nexts now to → get_or nexts now 0 ≡ to
read_at nexts now to within at = get_or_from_slice_get nexts now to 0 (slice_get_read nexts (length nexts) now to refl within at)

-- a chain rises at each place
pub rises : (keys firsts nexts : List ℕ) (now to : ℕ) → AreChainsFrom 0 keys firsts nexts → now < length keys → to ≡ get_or nexts now to → now < to
rises keys firsts nexts now to s within at =
    let next : IsNext keys (get_or keys now 0) (now + 1) (get_or nexts now 0) = s.next now (get_or keys now 0) (omega arith) (slice_get-get_or keys now 0 within) in
    omega (arith, next.ahead, read_at nexts now to (omega (arith, s.size)) at)

-- the next place on a chain
pub on_along : (keys firsts nexts : List ℕ) (key from now to : ℕ) → AreChainsFrom 0 keys firsts nexts → from ≤ length keys → now < from → to ≡ get_or nexts now to → IsOn keys key from now → IsOn keys key from to
on_along keys firsts nexts key from now to s within short at on = record {
  low = now + 1;
  before = omega arith;
  next = rw (← read_at nexts now to (omega (arith, s.size)) at) (s.next now key (omega arith) (on.next.has (omega arith)));
}

-- whoever has gone at or past `from` stands at the first place from there
pub on_behind : (keys : List ℕ) (key from now : ℕ) → from ≤ now → IsOn keys key from now → IsNext keys key from now
on_behind keys key from now past on = record {
  ahead = past;
  within = on.next.within;
  none = λ k low high. on.next.none k (omega (arith, on.before)) high;
  has = on.next.has;
}
