-- The seed of a run, as hexadecimal digits write it.
use Rattle.std.specs.Prelude.{ℕ, List, ◌+◌, ◌*◌, slice_index}
use Rattle.std.specs.Char.{digit_value}

-- the byte at a place, by its two digits, of which the first counts sixteen times its value
abbrev pub byte_at : List ℕ → ℕ → ℕ
byte_at digits place = 16 * digit_value (slice_index digits (2 * place)) + digit_value (slice_index digits (2 * place + 1))
