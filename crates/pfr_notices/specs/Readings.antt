-- The numbers that are said of how far a command has come.
use Rattle.std.specs.Prelude.{ℕ, ◌*◌, ◌/◌, ◌^◌, ◌-◌, min, max, nat_le, if◌then◌else◌}

-- the greatest number of 64 bits
abbrev pub greatest : ℕ
greatest = 2 ^ 64 - 1

-- `packets` packets in `milliseconds` milliseconds, as packets a second
abbrev pub per_second : (packets milliseconds : ℕ) → ℕ
per_second packets milliseconds = min greatest (packets * 1000) / max milliseconds 1

-- `read` bytes as a part of `size` bytes, in per cent
abbrev pub share_of : (read size : ℕ) → ℕ
share_of read size = if nat_le size read then 100 else min greatest (read * 100) / size
