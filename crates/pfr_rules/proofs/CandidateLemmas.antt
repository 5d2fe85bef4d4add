-- What goes along the chains that a packet follows.
use Rattle.std.proofs.Common.{◌≢◌, ◌<◌, ◌≤◌, ◌+◌, ℕ, min, List, Some, length, set, inl, inr, sym, subst, arith}
use Rattle.std.specs.List.{slice_get, slice_index_or}
use Rattle.std.proofs.lemmas.Bool.{cases_eq}
use Rattle.std.proofs.lemmas.Grind.{get_or-set_at}
use Rattle.std.proofs.lemmas.List.{get_or-set_other}
use Rattle.pfr_chains.specs.Chains.{IsNext}
use Rattle.pfr_ruleset.specs.declared.index.Index.{Index}
use Rattle.pfr_headers.specs.declared.packet.Packet.{Packet}
use Rattle.pfr_rules.specs.declared.candidates.Trail.{Trail}
use Rattle.pfr_rules.specs.Candidates.{key_in, IsFollowed, AreFollowed, IsFollowing, NoneHasKey, IsBegun, IsPassed, IsCandidate}

none_below : (index : Index) (packet : Packet) (from least shape new : ℕ) → NoneHasKey index packet from least shape → NoneHasKey index packet from (min least new) shape
none_below index packet from least shape new none k high low = none k high (omega arith)

none_at : (index : Index) (packet : Packet) (from least shape new : ℕ) → IsNext index.chains (key_in index packet shape) from new → NoneHasKey index packet from (min least new) shape
none_at index packet from least shape new next k high low = next.none k high (omega arith)

-- one chain more
pub passed_on : (bound : ℕ) (index : Index) (packet : Packet) (from least new : ℕ) (places : List ℕ) → bound ≤ length index.shapes → bound < length places
    → ((key low : ℕ) → low ≤ from → IsNext index.chains key low (slice_index_or places bound 0) → IsNext index.chains key from new)
    → IsPassed bound index packet from least places → IsPassed (bound + 1) index packet from (min least new) (set places bound new)
passed_on bound index packet from least new places one within moves passed =
    let stood = passed.followed bound one in
    let next = moves (key_in index packet bound) stood.low stood.before stood.next in
    record {
      ahead = omega (arith, passed.ahead, next.ahead);
      within = omega (arith, passed.within);
      none = λ shape below. elim (cases_eq shape bound) [
        | inl same ↦ subst (λ shape. NoneHasKey index packet from (min least new) shape) (sym same) (none_at index packet from least bound new next)
        | inr other ↦ none_below index packet from least shape new (passed.none shape (omega (arith, below, other)))
      ];
      followed = λ shape most. elim (cases_eq shape bound) [
        | inl same ↦ subst (λ place. IsFollowed index packet from shape place) (sym (get_or-set_at places bound shape new 0 same within))
            (subst (λ shape. IsFollowed index packet from shape new) (sym same) (record { low = from; before = omega arith; next = next }))
        | inr other ↦ subst (λ place. IsFollowed index packet from shape place) (sym (get_or-set_other places bound shape new 0 other)) (passed.followed shape most)
      ];
    }

-- one chain more is begun
pub begun_on : (bound : ℕ) (index : Index) (packet : Packet) (least new : ℕ) (places : List ℕ) → bound < length places
    → IsNext index.chains (key_in index packet bound) 0 new → IsBegun bound index packet least places → IsBegun (bound + 1) index packet (min least new) (set places bound new)
begun_on bound index packet least new places within next begun = record {
  within = omega (arith, begun.within);
  none = λ shape below. elim (cases_eq shape bound) [
    | inl same ↦ subst (λ shape. NoneHasKey index packet 0 (min least new) shape) (sym same) (none_at index packet 0 least bound new next)
    | inr other ↦ none_below index packet 0 least shape new (begun.none shape (omega (arith, below, other)))
  ];
  followed = λ shape most. elim (cases_eq shape bound) [
    | inl same ↦ subst (λ place. IsFollowed index packet 0 shape place) (sym (get_or-set_at places bound shape new 0 same within))
        (subst (λ shape. IsFollowed index packet 0 shape new) (sym same) (record { low = 0; before = omega arith; next = next }))
    | inr other ↦ subst (λ place. IsFollowed index packet 0 shape place) (sym (get_or-set_other places bound shape new 0 other)) (begun.followed shape (omega (arith, most, other)))
  ];
}

-- the chain of the rules that pin nothing is begun behind those of the shapes
pub begun_all : (index : Index) (packet : Packet) (least new : ℕ) (places : List ℕ) → length index.shapes < length places
    → IsNext index.chains (key_in index packet (length index.shapes)) 0 new → IsBegun (length index.shapes) index packet least places
    → IsFollowing index packet 0 (record { places = set places (length index.shapes) new; pinned = least })
begun_all index packet least new places within next begun =
    let all = begun_on (length index.shapes) index packet least new places within next begun in
    record {
      chains = λ shape most. all.followed shape (omega (arith, most));
      low = 0;
      before = omega arith;
      within = begun.within;
      pinned = begun.none;
    }

-- the chains of shapes have been gone along
pub passed_follows : (index : Index) (packet : Packet) (from least : ℕ) (places : List ℕ) → IsPassed (length index.shapes) index packet from least places → IsFollowing index packet from (record { places = places; pinned = least })
passed_follows index packet from least places passed = record {
  chains = passed.followed;
  low = from;
  before = omega arith;
  within = passed.within;
  pinned = passed.none;
}

-- the place on the chain of the rules that pin nothing is brought up
pub unpinned_on : (index : Index) (packet : Packet) (from low pinned new : ℕ) (places : List ℕ) → length index.shapes < length places → low ≤ from → from ≤ pinned → pinned ≤ length index.chains
    → ((key low : ℕ) → low ≤ from → IsNext index.chains key low (slice_index_or places (length index.shapes) 0) → IsNext index.chains key from new)
    → ((shape : ℕ) → shape < length index.shapes → NoneHasKey index packet low pinned shape) → AreFollowed index packet from places
    → IsCandidate index packet from (min new pinned) (record { places = set places (length index.shapes) new; pinned = pinned })
unpinned_on index packet from low pinned new places within before ahead most moves none followed =
    let last = length index.shapes in
    let stood = followed last (omega arith) in
    let next = moves (key_in index packet last) stood.low stood.before stood.next in
    record {
      ahead = omega (arith, ahead, next.ahead);
      within = omega (arith, most);
      none = λ shape upto k high below. elim (cases_eq shape last) [
        | inl same ↦ subst (λ shape. slice_get index.chains k ≢ Some (key_in index packet shape)) (sym same) (next.none k high (omega (arith, below)))
        | inr other ↦ none shape (omega (arith, upto, other)) k (omega (arith, high, before)) (omega (arith, below))
      ];
      followed = record {
        chains = λ shape upto. elim (cases_eq shape last) [
          | inl same ↦ subst (λ place. IsFollowed index packet from shape place) (sym (get_or-set_at places last shape new 0 same within))
              (subst (λ shape. IsFollowed index packet from shape new) (sym same) (record { low = from; before = omega arith; next = next }))
          | inr other ↦ subst (λ place. IsFollowed index packet from shape place) (sym (get_or-set_other places last shape new 0 other)) (followed shape upto)
        ];
        low = low;
        before = before;
        within = most;
        pinned = none;
      };
    }

-- a packet that follows chains from a place on follows them from a later one on
pub followed_on : (index : Index) (packet : Packet) (from to : ℕ) (trail : Trail) → from ≤ to → IsFollowing index packet from trail → IsFollowing index packet to trail
followed_on index packet from to trail later followed = record {
  chains = λ shape most.
      let stood = followed.chains shape most in
      record { low = stood.low; before = omega (arith, stood.before, later); next = stood.next };
  low = followed.low;
  before = omega (arith, followed.before, later);
  within = followed.within;
  pinned = followed.pinned;
}
