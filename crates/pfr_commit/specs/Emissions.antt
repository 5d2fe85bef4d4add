-- What was emitted, and what of a record comes into it.
use Rattle.std.specs.Prelude.{◌≡◌, ℕ, ◌==◌, Bool, true, false, if◌then◌else◌, List, [], ◌∷◌, ◌++◌, map, take, get_or, Option, None, Some, Vec}
use Rattle.std.specs.declared.alloc.Global.{Global}
use Rattle.std.specs.Option.{option_map}
use Rattle.pfr_headers.specs.declared.change.Change as headers
use Rattle.pfr_capture.specs.declared.capture.Record.{Record}
use Rattle.pfr_packet.specs.declared.outcome.Outcome.{Outcome}
use Rattle.pfr_track.specs.declared.time.Clock.{Clock}
use Rattle.pfr_states.specs.declared.change.Change.{Change}
use Rattle.pfr_states.specs.declared.change.Change.TheVariants.{Purge}
use Rattle.pfr_commit.specs.declared.changes.Changes.{Changes}
use Rattle.pfr_commit.specs.declared.changes.Changes.TheVariants.{Kept, Known}
use Rattle.pfr_states.specs.declared.change.TableChange.{TableChange}
use Rattle.pfr_commit.specs.declared.emitted.Emitted.{Emitted}
use Rattle.pfr_commit.specs.declared.packet_texts.PacketTexts.{PacketTexts}
use Rattle.pfr_commit.specs.declared.verdict_line.VerdictLine.{VerdictLine}
use Rattle.pfr_commit.specs.Lines.{verdict_line}
use Rattle.pfr_commit.specs.World.{ByPlace, Frame, Texts, apply_by, with_bytes, with_packet}

abbrev pub frame_of : Record → Frame
frame_of r = record { place = record { 0 = r.place }; link = r.link; seconds = r.seconds; header = r.header; bytes = r.bytes.items }

-- texts by place; there are none behind the last one of a list
abbrev pub by_place : List (List ℕ) → ByPlace
by_place texts = λ place. get_or texts place []

-- the same of texts as a program holds them
abbrev pub held_texts : List (Vec ℕ Global) → ByPlace
held_texts texts = by_place (map (λ text. text.items) texts)

abbrev pub packets_of : PacketTexts → ByPlace
packets_of packets = held_texts packets.texts.items

-- the record of a packet was added at the place of its interface, unless the packet is blocked
abbrev pub AddsRecord : (old new : PacketTexts) → Record → Outcome → Type 0
AddsRecord old new packet outcome = packets_of new ≡ with_packet (frame_of packet) outcome (packets_of old)

-- the first `count` bytes of the text at a place, and the others whole
abbrev pub cut_at : ℕ → ℕ → ByPlace → ByPlace
cut_at place count texts = λ other. if other == place then take count (texts other) else texts other

abbrev pub texts_of : Emitted → Texts
texts_of emitted = record { verdicts = emitted.verdicts.items; packets = packets_of emitted.packets; messages = emitted.messages.items }

-- the line of a packet's verdict
abbrev pub line_text : VerdictLine → List ℕ
line_text line = verdict_line line.interfaces.now line.number line.clock line.place line.outcome.now

-- a record, with what is written into its packet
abbrev pub record_text : Record → Option headers.Change → List ℕ
record_text r change = r.header ++ with_bytes r.link change r.bytes.items

-- ---- what packets did to the table

abbrev pub listed : Changes → List Change
listed (Kept list) = list.items
listed (Known list) = list.items

-- whether a program can read them
abbrev pub are_kept : Changes → Bool
are_kept (Kept list) = true
are_kept (Known list) = false

-- both, if changes are requested
abbrev pub items_of : Option Changes → Option (Bool × List Change)
items_of changes = option_map (λ it. (are_kept it, listed it)) changes

-- what packets did to the table, if that is requested, and whether a program can read it
abbrev pub held_changes : Emitted → Option (Bool × List Change)
held_changes emitted = items_of emitted.changes

-- the purge at a clock, if there is one
abbrev pub purges_at : Option Clock → List Change
purges_at None = []
purges_at (Some clock) = Purge clock ∷ []

-- a purge, and a packet's change
abbrev pub changes_by : Option Clock → Option TableChange → List Change
changes_by purge change = purges_at purge ++ apply_by change

-- changes appended to others, if they are requested
abbrev pub with_more : Option (Bool × List Change) → List Change → Option (Bool × List Change)
with_more held more = option_map (λ it. (it.0, it.1 ++ more)) held
