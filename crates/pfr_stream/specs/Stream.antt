-- Messages that stand one after the other, in a file or in what a connection gives.
use Rattle.std.specs.Prelude.{◌≡◌, ℕ, ◌+◌, ◌*◌, ◌==◌, ◌&&◌, not, nat_lt, if◌then◌else◌, List, [], ◌∷◌, length, drop, slice_index, Option, Some, None, Result, Ok, Err}
use Rattle.pfr_messages.specs.declared.error.SyncError.{SyncError}
use Rattle.pfr_messages.specs.declared.error.SyncError.TheVariants as refusals
use Rattle.pfr_messages.specs.Messages.{Content, message_at}
use Rattle.pfr_standby.specs.Standby.{Standing, taken}
use Rattle.pfr_stream.specs.declared.framing.Framing.{Framing}
use Rattle.pfr_stream.specs.declared.framing.Framing.TheVariants.{File, Bare}

-- the big-endian number in two bytes
abbrev pub number_at : ℕ → List ℕ → ℕ
number_at place bytes = 256 * slice_index bytes place + slice_index bytes (place + 1)

-- What is wrong first with the IPv4 header (RFC 791 section 3.1) before a message. It has 20 bytes, its protocol is 240, and its total
-- length counts it and the bytes that the message says it has. Its other bytes aren't checked.
unfoldable pub header_refusal : List ℕ → Option SyncError
header_refusal bytes =
    if nat_lt (length bytes) 24 then Some refusals.Short else
    if not (slice_index bytes 0 == 0x45 && slice_index bytes 9 == 240) then Some refusals.Version else
    if not (number_at 2 bytes == 20 + number_at 22 bytes) then Some refusals.Length else None

-- a message, counted with the 20 bytes before it
abbrev pub with_header : Result (Content × ℕ) SyncError → Result (Content × ℕ) SyncError
with_header (Ok found) = Ok (found.0, 20 + found.1)
with_header (Err refusal) = Err refusal

-- the message behind a header, or the header's refusal, if it is refused
abbrev pub behind_header : Option SyncError → Result (Content × ℕ) SyncError → Result (Content × ℕ) SyncError
behind_header (Some refusal) message = Err refusal
behind_header None message = with_header message

-- the message at the front of bytes, and how many bytes it has with its header; or what is wrong first, from the left
unfoldable pub framed_at : Framing → List ℕ → Result (Content × ℕ) SyncError
framed_at Bare bytes = message_at bytes
framed_at File bytes = behind_header (header_refusal bytes) (message_at (drop 20 bytes))

-- bytes are these messages, one after the other, and a rest
abbrev pub AreWhole : Framing → List ℕ → List Content → List ℕ → Type 0
AreWhole framing bytes [] rest = bytes ≡ rest
AreWhole framing bytes (content ∷ contents) rest =
    (n : ℕ) × (framed_at framing bytes ≡ Ok (content, n)) × AreWhole framing (drop n bytes) contents rest

-- the states after the message at the front of bytes, unless it is no message or the states that are held refuse it
abbrev pub taken_by : Standing → Result (Content × ℕ) SyncError → Result Standing SyncError
taken_by standing (Ok found) = taken standing found.0
taken_by standing (Err refusal) = Err refusal

unfoldable pub taken_at : Framing → Standing → List ℕ → Result Standing SyncError
taken_at framing standing bytes = taken_by standing (framed_at framing bytes)
