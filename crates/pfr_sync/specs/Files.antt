-- The IP header (RFC 791) before a message in a file.
use Rattle.std.specs.Prelude.{ℕ, ◌+◌, List, [], ◌∷◌, ◌++◌}
use Rattle.std.specs.Int.{to_be_bytes, w16, w32}
use Rattle.pfr_net.specs.declared.address.Ipv4Address.{Ipv4Address}
use Rattle.pfr_headers.specs.Checksum.{complement, end_around, sum_of_words}

-- The header with any checksum: not a fragment, a time to live of 255, protocol 240, destination 224.0.0.240. The total length is the
-- message's plus 20.
unfoldable pub header_with : ℕ → Ipv4Address → ℕ → List ℕ
header_with checksum source length =
    0x45 ∷ 0x10 ∷ to_be_bytes w16 (length + 20)
    ++ 0 ∷ 0 ∷ 0x40 ∷ 0 ∷ 0xff ∷ 0xf0 ∷ to_be_bytes w16 checksum
    ++ to_be_bytes w32 source.0
    ++ 224 ∷ 0 ∷ 0 ∷ 240 ∷ []

-- the header's checksum (RFC 1071): the complement of the sum of its other words
unfoldable pub checksum_of : Ipv4Address → ℕ → ℕ
checksum_of source length = complement (end_around (sum_of_words 10 (header_with 0 source length)))

-- the header before a message of `length` bytes
abbrev pub ip_header : Ipv4Address → ℕ → List ℕ
ip_header source length = header_with (checksum_of source length) source length
