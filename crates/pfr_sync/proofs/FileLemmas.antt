-- The IP header before a message: its words, and their sum.
use Rattle.std.proofs.Common.{◌≡◌, ◌≤◌, ◌<◌, ◌-◌, ◌+◌, ◌/◌, ◌%◌, ℕ, length, refl, arith}
use Rattle.std.proofs.lemmas.Bool.{ne_eqb}
use Rattle.pfr_net.specs.declared.address.Ipv4Address.{Ipv4Address}
use Rattle.pfr_headers.specs.Checksum.{Verifies, end_around, sum_of_words}
use Rattle.pfr_sync.specs.Files.{checksum_of, header_with, ip_header}

pub header_length : (checksum : ℕ) (source : Ipv4Address) (len : ℕ) → length (header_with checksum source len) ≡ 20
unfolding header_with
header_length checksum source len = refl

-- the words of the header, added
words_added : (checksum : ℕ) (source : Ipv4Address) (len : ℕ) → checksum < 65536 → source.0 < 4294967296 → len ≤ 1480
    → sum_of_words 10 (header_with checksum source len) ≡ 157188 + len + source.0 / 65536 + source.0 % 65536 + checksum
unfolding header_with
words_added checksum source len small address short = omega arith

-- a sum that isn't 0 with its carries added in
around : (n : ℕ) → 0 < n → end_around n ≡ (n - 1) % 65535 + 1
around n some = rw (ne_eqb n 0 (λ e. absurd (omega arith))) refl

pub checksum_is : (source : Ipv4Address) (len : ℕ) → source.0 < 4294967296 → len ≤ 1480
    → checksum_of source len ≡ 65535 - ((157188 + len + source.0 / 65536 + source.0 % 65536 - 1) % 65535 + 1)
unfolding checksum_of
checksum_is source len address short =
    let added = words_added 0 source len (omega arith) address short in
    rw (around (sum_of_words 10 (header_with 0 source len)) (omega arith)) (omega arith)

pub header_verifies : (source : Ipv4Address) (len : ℕ) → source.0 < 4294967296 → len ≤ 1480 → Verifies (sum_of_words 10 (ip_header source len))
header_verifies source len address short =
    let is = checksum_is source len address short in
    let added = words_added (checksum_of source len) source len (omega arith) address short in
    rw added (omega arith, omega arith)
