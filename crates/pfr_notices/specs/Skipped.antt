-- What records hold that are skipped, since they hold no IPv4 packet.
use Rattle.std.specs.Prelude.{ℕ, Bool, ◌==◌, ◌&&◌, ◌||◌, nat_lt, if◌then◌else◌, List, length, drop}
use Rattle.byteorder.specs.Endian.{big_number, little_number}
use Rattle.pfr_headers.specs.View.{version_of}
use Rattle.pfr_notices.specs.declared.skipped.SkippedAs.{SkippedAs}
use Rattle.pfr_notices.specs.declared.skipped.SkippedAs.TheVariants.{Arp, Ipv6, Pppoe, TwoTags, Other}

-- By the type of an Ethernet frame: 0x0806 is ARP (RFC 826), 0x86dd IPv6 (RFC 2464), 0x8863 and 0x8864 PPPoE (RFC 2516, section 4).
abbrev pub of_type : ℕ → SkippedAs
of_type kind =
    if kind == 2054 then Arp else
    if kind == 34525 then Ipv6 else
    if kind == 34915 || kind == 34916 then Pppoe else
    Other

-- The types that say that a tag follows: 0x8100 (IEEE 802.1Q), 0x88a8 (IEEE 802.1ad), and 0x9100, which older switches write.
abbrev pub is_tag : ℕ → Bool
is_tag kind = kind == 33024 || (kind == 34984 || kind == 37120)

-- the type behind a tag stands at byte 16
abbrev pub behind_tag : List ℕ → SkippedAs
behind_tag bytes =
    if nat_lt (length bytes) 18 then Other else
    if is_tag (big_number 2 (drop 16 bytes)) then TwoTags else
    of_type (big_number 2 (drop 16 bytes))

-- the type of a frame stands at byte 12
abbrev pub in_ethernet : List ℕ → SkippedAs
in_ethernet bytes =
    if nat_lt (length bytes) 14 then Other else
    if is_tag (big_number 2 (drop 12 bytes)) then behind_tag bytes else
    of_type (big_number 2 (drop 12 bytes))

-- raw IP begins with the version (RFC 8200, section 3)
abbrev pub in_raw : List ℕ → SkippedAs
in_raw bytes = if nat_lt 0 (length bytes) && version_of bytes == 6 then Ipv6 else Other

-- The address family of IPv6 is 24 (NetBSD, OpenBSD), 28 (FreeBSD) or 30 (Darwin).
abbrev pub is_ipv6_family : ℕ → Bool
is_ipv6_family family = family == 24 || (family == 28 || family == 30)

-- BSD loopback begins with the address family, in the byte order of the machine that captured
abbrev pub in_loopback : List ℕ → SkippedAs
in_loopback bytes =
    if nat_lt (length bytes) 4 then Other else
    if is_ipv6_family (big_number 4 bytes) || is_ipv6_family (little_number 4 bytes) then Ipv6 else
    Other

-- what a record of this link type holds
unfoldable pub skipped_as : (link : ℕ) → List ℕ → SkippedAs
skipped_as link bytes =
    if link == 1 then in_ethernet bytes else
    if link == 101 then in_raw bytes else
    if link == 0 then in_loopback bytes else
    Other
