-- The hash of a key.
use Rattle.std.specs.Prelude.{ℕ, ◌+◌, ◌*◌, ◌/◌, ◌%◌}
use Rattle.pfr_index.specs.declared.hash.Hash.{Hash}
use Rattle.pfr_track.specs.declared.key.Key.{Key}

-- a number's lowest 64 bits
abbrev pub low : ℕ → ℕ
low number = number % 18446744073709551616

-- two numbers of 32 bits side by side
abbrev pub beside : ℕ → ℕ → ℕ
beside high below = high * 4294967296 + below

abbrev pub ports : ℕ → ℕ → ℕ
ports first second = first * 65536 + second

abbrev pub addresses_of : Key → ℕ
addresses_of key = beside key.outside.address.0 key.inside.address.0

abbrev pub rest_of : Key → ℕ
rest_of key = beside key.protocol.0 (ports key.outside.port.0 key.inside.port.0)

-- the higher bits added to the lower ones
abbrev pub folded : ℕ → ℕ
folded spread = low (spread + spread / 4294967296)

-- the highest 32 bits of the second of two products; the first one is a part of it
unfoldable pub hash_of : Key → Hash
hash_of key = record { 0 = low (low (folded (low (addresses_of key * 11400714819323198485)) + rest_of key) * 15111065706836454659) / 4294967296 }
