-- IPv4 networks: the addresses that agree in their first bits (RFC 4632, section 3.1).
use Rattle.std.specs.Prelude.{ℕ, ◌-◌, ◌*◌, ◌/◌, ◌^◌, ◌==◌, Bool, List, Option, Some, None}
use Rattle.pfr_net.specs.declared.address.Ipv4Address.{Ipv4Address}
use Rattle.pfr_net.specs.declared.network.Net.{Net}
use Rattle.pfr_net.specs.Notation.{◌>>=◌, cut_at, dotted, number_within}

-- an address without the bits below a prefix of `bits` bits; more than 32 bits count as 32
unfoldable pub prefix : ℕ → ℕ → ℕ
prefix bits address = address / 2 ^ (32 - bits) * 2 ^ (32 - bits)

-- a network holds an address if they agree in the bits of its prefix
abbrev pub holds : Net → Ipv4Address → Bool
holds net a = prefix net.bits a.0 == prefix net.bits net.address.0

-- ---- as text

-- the bits of a prefix, at most 32
abbrev pub bits_of : List ℕ → Option ℕ
bits_of text = number_within 32 text

-- a network `a.b.c.d/bits`; an address alone is the network of its 32 bits
unfoldable pub net_of : List ℕ → Option Net
net_of text = elim (cut_at 47 text) [
  | None ↦ dotted text >>= (λ address. Some (record { address = address; bits = 32 }))
  | Some parts ↦ dotted parts.0 >>= (λ address. bits_of parts.1 >>= (λ bits. Some (record { address = address; bits = bits })))
]
