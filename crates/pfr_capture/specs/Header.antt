-- The header of a capture: the classic pcap format (pcap-savefile(5)).
--
-- A file begins with 24 bytes: magic number 4, major version 2, minor version 2, two unused fields of 4,
-- snapshot length 4, link type 4. The magic number is 0xa1b2c3d4 if the fractions of the records are
-- microseconds, and 0xa1b23c4d if they are nanoseconds; the order of its bytes is the order of all
-- numbers in the file's headers.
use Rattle.std.specs.Prelude.{ℕ, ◌%◌, Bool, not, ◌==◌, ◌||◌, nat_lt, if◌then◌else◌, List, length, take, drop, Option, Some, None, Result, Ok, Err}
use Rattle.std.specs.Int.{from_be_bytes, from_le_bytes, w16, w32}
use Rattle.pfr_capture.specs.declared.order.ByteOrder.{ByteOrder}
use Rattle.pfr_capture.specs.declared.order.ByteOrder.TheVariants.{Big, Little}
use Rattle.pfr_capture.specs.declared.capture.Resolution.{Resolution}
use Rattle.pfr_capture.specs.declared.capture.Resolution.TheVariants.{Microseconds, Nanoseconds}
use Rattle.pfr_capture.specs.declared.capture.Form.{Form}
use Rattle.pfr_capture.specs.declared.capture.CaptureError.{CaptureError}
use Rattle.pfr_capture.specs.declared.capture.CaptureError.TheVariants.{HeaderCut, BadMagic, BadVersion, LinkType}

-- the number in the first four bytes
abbrev pub number : ByteOrder → List ℕ → ℕ
number Big bytes = from_be_bytes w32 bytes
number Little bytes = from_le_bytes w32 bytes

-- the number in the first two bytes
abbrev pub short_number : ByteOrder → List ℕ → ℕ
short_number Big bytes = from_be_bytes w16 bytes
short_number Little bytes = from_le_bytes w16 bytes

abbrev pub match_resolution : {X : Type 0} → Option Resolution → X → (Resolution → X) → X
match_resolution None none some = none
match_resolution (Some resolution) none some = some resolution

abbrev pub resolution_of : ℕ → Option Resolution
resolution_of magic =
    if magic == 0xa1b2c3d4 then Some Microseconds else
    if magic == 0xa1b23c4d then Some Nanoseconds else
    None

-- the byte order in which the magic number reads as one of the two, and which of them it is
unfoldable pub magic_of : List ℕ → Option (ByteOrder × Resolution)
magic_of header =
    match_resolution (resolution_of (number Big header))
    (match_resolution (resolution_of (number Little header)) None (λ resolution. Some (Little, resolution)))
    (λ resolution. Some (Big, resolution))

-- the major version, and the link type: the low 16 bits of the last field
unfoldable pub version_of : ByteOrder → List ℕ → ℕ
version_of order header = short_number order (drop 4 header)

unfoldable pub link_of : ByteOrder → List ℕ → ℕ
link_of order header = number order (drop 20 header) % 65536

-- the link types that are read: BSD loopback, Ethernet and raw IP
unfoldable pub is_known_link : ℕ → Bool
is_known_link link = link == 0 || link == 1 || link == 101

-- what the rest of a header says: the major version is 2, and the link type is known
abbrev pub form_in : ByteOrder → Resolution → List ℕ → Result Form CaptureError
form_in order resolution header =
    if not (version_of order header == 2) then Err BadVersion else
    if not (is_known_link (link_of order header)) then Err (LinkType (link_of order header)) else
    Ok (record { order = order; resolution = resolution; link = link_of order header })

-- what the 24 bytes of a header say, or the first thing that is wrong with them
unfoldable pub form_of : List ℕ → Result Form CaptureError
form_of header = elim (magic_of header) [
  | None ↦ Err BadMagic
  | Some magic ↦ form_in magic.0 magic.1 header
]

-- what the beginning of a text says
abbrev pub opening_of : List ℕ → Result Form CaptureError
opening_of text = if nat_lt (length text) 24 then Err HeaderCut else form_of (take 24 text)
