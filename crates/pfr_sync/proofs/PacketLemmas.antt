-- The packet of a message in a file.
use Rattle.std.proofs.Common.{◌≡◌, ◌≤◌, ◌<◌, ℕ, List, ◌++◌, length, None, refl, sym, inl, arith}
use Rattle.pfr_net.specs.declared.address.Ipv4Address.{Ipv4Address}
use Rattle.pfr_headers.specs.declared.packet.View.TheVariants.{Ipv4}
use Rattle.pfr_headers.specs.View.{IsHeader, IsPacket, IsRaw, sender_of}
use Rattle.pfr_headers.proofs.ViewLemmas.{view_is}
use Rattle.pfr_sync.specs.Files.{checksum_of, header_with}
use Rattle.pfr_sync.specs.Laws.{FileMessageIsAPacket, packet_of_message}

header_is : (checksum : ℕ) (source : Ipv4Address) (text : List ℕ) → source.0 < 4294967296 → length text ≤ 1480
    → IsHeader (header_with checksum source (length text) ++ text) (packet_of_message source (length text))
unfolding header_with
header_is checksum source text address short = record {
  version = refl;
  header_length = refl;
  at_least = omega arith;
  captured = omega arith;
  total_length = omega arith;
  within_total = omega arith;
  protocol = refl;
  source = omega arith;
  destination = refl;
}

is_packet : (checksum : ℕ) (source : Ipv4Address) (text : List ℕ) → source.0 < 4294967296 → length text ≤ 1480
    → IsPacket (header_with checksum source (length text) ++ text) (packet_of_message source (length text))
unfolding header_with
is_packet checksum source text address short = record {
  header = header_is checksum source text address short;
  transport = (refl, λ e. absurd (omega (arith, e)), λ e. absurd (omega (arith, e)), λ e. absurd (omega (arith, e)));
}

is_raw : (checksum : ℕ) (source : Ipv4Address) (text : List ℕ) → IsRaw 101 (header_with checksum source (length text) ++ text) 0
unfolding header_with
is_raw checksum source text = record { link_is = refl; some = omega arith; version = refl; place_is = refl }

-- raw IP has no frame, and no sender of one
no_sender : (text : List ℕ) → None ≡ sender_of 101 text
unfolding sender_of
no_sender text = refl

pub file_message_is_a_packet : FileMessageIsAPacket
file_message_is_a_packet source text address short =
    let checksum = checksum_of source (length text) in
    sym (view_is 101 (header_with checksum source (length text) ++ text) (Ipv4 (packet_of_message source (length text)))
    (0, inl (is_raw checksum source text), is_packet checksum source text address short, no_sender (header_with checksum source (length text) ++ text)))
