-- A book, and what it has emitted, as a world.
use Rattle.std.specs.Prelude.{◌≡◌, ◌≤◌, ◌+◌, ◌-◌, ℕ, false, true, List, [], ◌∷◌, Option, Some, None, length, map, take}
use Rattle.std.specs.List.{find}
use Rattle.std.specs.Arc.{arc_value}
use Rattle.std.specs.Option.{option_to_list}
use Rattle.pfr_net.specs.declared.interface.InterfacePlace.{InterfacePlace}
use Rattle.pfr_headers.specs.declared.packet.View.{View}
use Rattle.pfr_track.specs.declared.time.Clock.{Clock}
use Rattle.pfr_states.specs.declared.change.TableChange.{TableChange}
use Rattle.pfr_states.specs.States.{StateTable, purged}
use Rattle.pfr_packet.specs.declared.outcome.Outcome.{Outcome}
use Rattle.pfr_packet.specs.Job.{RunJob}
use Rattle.pfr_packet.specs.Laws.{IsOwnChange}
use Rattle.pfr_packet.specs.Steps.{step_of}
use Rattle.pfr_record.specs.declared.speculation.Speculation.{Speculation}
use Rattle.pfr_record.specs.Speculations.{Fits}
use Rattle.pfr_messages.specs.Messages.{Content}
use Rattle.pfr_sync.specs.Queues.{Tells}
use Rattle.pfr_capture.specs.declared.capture.Record.{Record}
use Rattle.pfr_commit.specs.declared.book.Book.{Book}
use Rattle.pfr_commit.specs.declared.emitted.Emitted.{Emitted}
use Rattle.pfr_commit.specs.declared.results.ResultsByPlace.{ResultsByPlace}
use Rattle.pfr_commit.specs.Emissions.{frame_of, held_changes, packets_of, texts_of, with_more}
use Rattle.pfr_commit.specs.Results.{is_of}
use Rattle.pfr_commit.specs.ResultsByPlace.{result_at}
use Rattle.pfr_telling.specs.Telling.{AreTold}
use Rattle.pfr_commit.specs.World.{ByPlace, Frame, Texts, World, after, clock_at, joined, last_message, nowhere, online, origin_of, with_outcome, world_after}

abbrev pub job_of : Book → RunJob
job_of book = arc_value book.job

-- what a book holds of a world: nothing of what was written or told, or done to the table
abbrev pub world_in : Book → World
world_in book = record { count = book.count; clock = book.clock; table = book.table; counters = book.counters; verdicts = []; packets = nowhere; changes = []; events = [] }

-- the same, with the lines and packets that were emitted
abbrev pub world_with : Book → Emitted → World
world_with book out = record (world_in book) { verdicts = out.verdicts.items; packets = packets_of out.packets }

-- a world, and nothing of what was told, or done to the table
abbrev pub untold : World → World
untold world = record world { changes = []; events = [] }

-- a world, and nothing of what was written or told, or done to the table
abbrev pub bare : World → World
bare world = record world { verdicts = []; packets = nowhere; changes = []; events = [] }

-- ---- the worlds of a book

-- A book stands at a world: it holds what packets have left, and of the world's events what is told of the open part.
pub record StandsAt (book : Book) (world : World) : Type 0 where
  pub left : world_in book ≡ bare world
  pub origin_is : book.telling.queue.origin ≡ origin_of (job_of book)
  pub tells : Tells book.telling.queue world.clock world.events
  pub told : AreTold world.count world.clock world.table.states world.events

-- From whatever world a book stood at, it comes to the next one. If some texts and what was emitted behind them were
-- what is written of the world, they are so of the next world too.
abbrev pub LeadsTo : (old new : Book) → (out out' : Emitted) → (World → World) → Type 0
LeadsTo old new out out' next =
    (world : World) (before : Texts) → StandsAt old world → online (job_of old) world ≡ joined before (texts_of out)
    → StandsAt new (next world) × (online (job_of old) (next world) ≡ joined before (texts_of out'))

-- the same of what is emitted by itself: it follows what was written before
abbrev pub LeadsOn : (old new : Book) → Emitted → (World → World) → Type 0
LeadsOn old new emitted next =
    (world : World) → StandsAt old world
    → StandsAt new (next world) × (online (job_of old) (next world) ≡ joined (online (job_of old) world) (texts_of emitted))

-- the states and counters are those of the next world, and the lines and packets that were emitted become its
abbrev pub AddsLines : (old new : Book) → (out out' : Emitted) → (World → World) → Type 0
AddsLines old new out out' next = world_with new out' ≡ untold (next (world_with old out))

-- what is done to the table on the way follows what was done before
abbrev pub AddsChanges : Book → (out out' : Emitted) → (World → World) → Type 0
AddsChanges old out out' next = held_changes out' ≡ with_more (held_changes out) (next (world_in old)).changes

-- nothing was counted or emitted
abbrev pub Keeps : (old new : Book) → (out out' : Emitted) → Type 0
Keeps old new out out' =
    (new.count ≡ old.count) × (new.own ≡ old.own) × (texts_of out' ≡ texts_of out) × (held_changes out' ≡ held_changes out)

-- a message is the last one of the world at which a book stands
abbrev pub IsLastMessage : Book → Option Content → Type 0
IsLastMessage book message = (world : World) → StandsAt book world → option_to_list message ≡ last_message (job_of book) world

-- ---- one packet

-- a world after one packet more of a book's job, with its record
abbrev pub after_packet : Book → Record → World → World
after_packet book packet = λ world. after (job_of book) world (frame_of packet)

-- the same, if the packet comes to an outcome at a clock
abbrev pub after_outcome : Book → Record → Clock → Outcome → World → World
after_outcome book packet clock outcome = λ world. with_outcome (job_of book) world (frame_of packet) clock outcome

-- what a packet comes to over a book's states
abbrev pub outcome_in : Book → ℕ → Clock → InterfacePlace → View → Outcome
outcome_in book number clock place view = step_of (job_of book) number clock place view book.table

-- a change of the table is one that the next packet of a book makes, with this record, if it comes to an outcome at a
-- clock
abbrev pub IsNextChangeOf : Book → Record → Clock → Outcome → TableChange → Type 0
IsNextChangeOf book packet clock outcome = IsOwnChange (book.count + 1) clock (frame_of packet).place (purged clock book.table.states) outcome

-- ---- speculations

-- a speculation was given, it is of this packet of this job, and its record holds in the table
abbrev pub MayUse : Option Speculation → RunJob → ℕ → Clock → InterfacePlace → View → StateTable → Type 0
MayUse None job number clock place view table = ⊥
MayUse (Some speculation) job number clock place view table = Fits speculation job number clock place view table

-- the same of a packet of a book's job, and over its states
abbrev pub MayUseIn : Option Speculation → Book → ℕ → Clock → InterfacePlace → View → Type 0
MayUseIn speculation book number clock place view = MayUse speculation (job_of book) number clock place view book.table

-- the same of the result at a place, if there is one
abbrev pub MayUseAt : ℕ → ResultsByPlace → Book → ℕ → Clock → InterfacePlace → View → Type 0
MayUseAt place results book number clock interface view = MayUseIn (result_at place results) book number clock interface view

-- the same of a book's next packet, with its view
abbrev pub MayUseNext : Option Speculation → Book → Record → View → Type 0
MayUseNext speculation book packet view = MayUseIn speculation book (book.count + 1) (clock_at book.clock (frame_of packet)) (frame_of packet).place view

-- ---- a batch

-- the first result of the world's next packet, which has this record and this view, holds
abbrev pub IsUsed : RunJob → World → List Speculation → Record × View → Type 0
IsUsed job world results packet = MayUse (find (is_of (world.count + 1)) results) job (world.count + 1) (clock_at world.clock (frame_of packet.0)) (frame_of packet.0).place packet.1 world.table

-- a number rises by one, unless a result is used
abbrev pub RisesUnless : Type 0 → ℕ → ℕ → Type 0
RisesUnless Used before next = (Used → next ≡ before) × ((Used → ⊥) → next ≡ before + 1)

-- a number rises by one at each packet whose first result isn't used; the packets follow a world
abbrev pub RisesOver : RunJob → World → List Speculation → List (Record × View) → ℕ → ℕ → Type 0
RisesOver job world results [] before last = last ≡ before
RisesOver job world results (packet ∷ packets) before last =
    (next : ℕ) × RisesUnless (IsUsed job world results packet) before next × RisesOver job (after job world (frame_of packet.0)) results packets next last

-- the packets of a batch, each with its view, as packets of a run
abbrev pub frames_of : List (Record × View) → List Frame
frames_of packets = map (λ packet. frame_of packet.0) packets

-- a world after these packets of a book's job
abbrev pub after_packets : Book → List (Record × View) → World → World
after_packets book packets = λ world. world_after (job_of book) world (frames_of packets)

-- a world after as many of these packets as bring it to a count
abbrev pub world_up_to : RunJob → World → ℕ → List Frame → World
world_up_to job world count frames = world_after job world (take (count - world.count) frames)

-- the lines and packets of a world, and those that were emitted
abbrev pub written : World → List ℕ × ByPlace
written world = (world.verdicts, world.packets)

abbrev pub lines_of : Emitted → List ℕ × ByPlace
lines_of out = (out.verdicts.items, packets_of out.packets)

-- what was emitted is what is written of the first packets, up to a count
abbrev pub LeavesTexts : (old : Book) → (count : ℕ) → (out out' : Emitted) → List Frame → Type 0
LeavesTexts old count out out' frames =
    (world : World) (before : Texts) → StandsAt old world → online (job_of old) world ≡ joined before (texts_of out)
    → online (job_of old) (world_up_to (job_of old) world count frames) ≡ joined before (texts_of out')

-- A book took all packets of a batch, whatever results it was given. It comes from whatever world it stood at to the
-- one after them, and what they add follows what was emitted. It evaluated itself the packets whose first result didn't
-- hold.
pub record TakesAll (old new : Book) (out out' : Emitted) (packets : List (Record × View)) (results : List Speculation) : Type 0 where
  pub world : AddsLines old new out out' (after_packets old packets)
  pub told : LeadsTo old new out out' (after_packets old packets)
  pub changes : AddsChanges old out out' (after_packets old packets)
  pub counted : new.count ≡ old.count + length packets
  pub own : RisesOver (job_of old) (world_with old out) results packets old.own new.own
  pub is_open : (old.is_over ≡ false) × (new.is_over ≡ false)

-- memory was refused after some packets: what was emitted grew by what these packets add, and the counts rose as over
-- these
pub record TakesSome (old new : Book) (out out' : Emitted) (packets : List (Record × View)) (results : List Speculation) : Type 0 where
  pub lines : lines_of out' ≡ written (world_up_to (job_of old) (world_with old out) new.count (frames_of packets))
  pub told : LeavesTexts old new.count out out' (frames_of packets)
  pub changes : AddsChanges old out out' (λ world. world_up_to (job_of old) world new.count (frames_of packets))
  pub own : RisesOver (job_of old) (world_with old out) results (take (new.count - old.count) packets) old.own new.own
  pub within : (old.count ≤ new.count) × (new.count ≤ old.count + length packets)
  pub over : new.is_over ≡ true
