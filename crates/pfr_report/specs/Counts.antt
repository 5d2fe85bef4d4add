-- Packets and bytes, counted one after the other. Neither passes the greatest number of 64 bits.
use Rattle.std.specs.Prelude.{ℕ, ◌+◌, ◌-◌, ◌^◌, min}
use Rattle.pfr_report.specs.declared.count.Count.{Count}

abbrev pub within : ℕ → ℕ
within number = min number (2 ^ 64 - 1)

-- with one packet more, of `bytes` bytes
abbrev pub with_one : (bytes : ℕ) → Count → Count
with_one bytes count = record { packets = within (count.packets + 1); bytes = within (count.bytes + bytes) }

-- with all packets of another count
abbrev pub with_all : (more count : Count) → Count
with_all more count = record { packets = within (count.packets + more.packets); bytes = within (count.bytes + more.bytes) }
