-- What a change writes lies within what was captured.
use Rattle.std.specs.Prelude.{ℕ, ◌+◌, ◌≤◌, ⊤}
use Rattle.pfr_headers.specs.declared.icmp.Inner.{Inner}
use Rattle.pfr_headers.specs.declared.transport.Transport.{Transport}
use Rattle.pfr_headers.specs.declared.transport.Transport.TheVariants.{Tcp, Udp, Icmp}

-- the packet that an error embeds, whose header begins at `at`
pub record InnerFits (size at : ℕ) (inner : Inner) : Type 0 where
  pub header : 20 ≤ inner.header_length
  pub behind : at + inner.header_length + 8 ≤ size

-- what stands behind the header, which ends at `at`
abbrev pub BehindFits : ℕ → ℕ → Transport → Type 0
BehindFits size at (Tcp t) = at + 20 ≤ size
BehindFits size at (Udp u) = at + 8 ≤ size
BehindFits size at (Icmp i) = at + 8 ≤ size
BehindFits size at _ = ⊤
