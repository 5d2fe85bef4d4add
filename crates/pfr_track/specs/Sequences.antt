-- Sequence numbers (RFC 9293, section 3.4): whole numbers below 2^32, behind the last of which comes 0.
use Rattle.std.specs.Prelude.{ℕ, ◌+◌, ◌-◌, ◌%◌, ◌^◌, Bool, nat_lt}
use Rattle.pfr_track.specs.declared.sequence.Sequence.{Sequence}

-- the number `count` places on
abbrev pub plus : Sequence → ℕ → Sequence
plus a count = record { 0 = (a.0 + count) % 2 ^ 32 }

-- the number `count` places back
abbrev pub minus : Sequence → ℕ → Sequence
minus a count = record { 0 = (a.0 + (2 ^ 32 - count)) % 2 ^ 32 }

-- the number of places from b on to a
abbrev pub since : Sequence → Sequence → ℕ
since a b = (a.0 + (2 ^ 32 - b.0)) % 2 ^ 32

-- a is b or comes after it
abbrev pub is_at_least : Sequence → Sequence → Bool
is_at_least a b = nat_lt (since a b) 2147483648
