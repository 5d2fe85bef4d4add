-- Addresses and networks as they are written (pf.conf(5), "GRAMMAR"; RFC 4632, section 3.1).
use Rattle.std.specs.Prelude.{ℕ, ◌+◌, ◌-◌, ◌/◌, ◌%◌, ◌^◌, List, ◌++◌, min, codes}
use Rattle.std.specs.Fmt.{decimal}
use Rattle.pfr_net.specs.declared.network.Net.{Net}
use Rattle.pfr_net.specs.Networks.{prefix}

-- a.b.c.d
unfoldable pub address_text : ℕ → List ℕ
address_text address =
    decimal (address / 16777216) ++ (codes "." ++ (decimal (address / 65536 % 256) ++ (codes "." ++ (decimal (address / 256 % 256) ++ (codes "." ++ decimal (address % 256))))))

abbrev pub first_address : Net → ℕ
first_address net = prefix net.bits net.address.0

-- the last address of a network: ones in all bits behind its prefix
abbrev pub last_address : Net → ℕ
last_address net = first_address net + (2 ^ (32 - net.bits) - 1)

-- a.b.c.d/bits, without bits behind the prefix
unfoldable pub network_text : Net → List ℕ
network_text net = address_text (first_address net) ++ (codes "/" ++ decimal (min net.bits 32))
