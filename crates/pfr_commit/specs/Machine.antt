-- The speculative machine. Packets are opened in batches. Workers claim packets of a batch by its word and evaluate
-- them ahead, each on the states after those commits that it sees. One committer takes the packets in their order, each
-- with a speculation or without.
use Rattle.std.specs.Prelude.{◌≡◌, ◌⊎◌, ◌≤◌, ◌<◌, ◌+◌, ◌==◌, ℕ, if◌then◌else◌, List, [], ◌∷◌, ◌++◌, length, slice_set, take, Option, Some, None}
use Rattle.std.specs.List.{All, Contains, slice_get}
use Rattle.pfr_net.specs.declared.interface.InterfacePlace.{InterfacePlace}
use Rattle.pfr_headers.specs.declared.packet.View.{View}
use Rattle.pfr_headers.specs.View.{view_of}
use Rattle.pfr_track.specs.declared.time.Clock.{Clock}
use Rattle.pfr_states.specs.Answers.{purged_at}
use Rattle.pfr_states.specs.States.{StateTable}
use Rattle.pfr_packet.specs.declared.outcome.Outcome.{Outcome}
use Rattle.pfr_packet.specs.Job.{RunJob}
use Rattle.pfr_packet.specs.Steps.{asked_of, step_of}
use Rattle.pfr_record.specs.Record.{Agrees, Entries, IsKept, IsSound}
use Rattle.pfr_sync.specs.Messages.{closed_at}
use Rattle.pfr_commit.specs.Lines.{verdict_line}
use Rattle.pfr_commit.specs.World.{Frame, Texts, World, clock_at, joined, no_texts, online, only_at, opening, origin_of, packet_text, with_outcome, world_of}

-- ---- speculations

-- what was found out ahead about a packet, with the answers that it depends on
pub record Guess : Type 0 where
  pub job : RunJob
  pub number : ℕ
  pub clock : Clock
  pub place : InterfacePlace
  pub view : View
  pub outcome : Outcome
  pub answers : Entries

-- over every table that gives these answers the packet comes to this outcome
abbrev pub IsSoundGuess : Guess → Type 0
IsSoundGuess guess = IsSound guess.job guess.number guess.clock guess.place guess.view guess.outcome guess.answers

-- it is of this packet of this job, and the table gives its answers
pub record Applies (guess : Guess) (job : RunJob) (number : ℕ) (clock : Clock) (place : InterfacePlace) (view : View) (table : StateTable) : Type 0 where
  pub job_is : guess.job ≡ job
  pub number_is : guess.number ≡ number
  pub clock_is : guess.clock ≡ clock
  pub place_is : guess.place ≡ place
  pub view_is : guess.view ≡ view
  pub agrees : Agrees (purged_at clock table) guess.answers

-- it is what an evaluation of this packet over a table gives: its outcome, and the table's answers to all that was
-- asked
pub record IsEvaluation (guess : Guess) (job : RunJob) (number : ℕ) (clock : Clock) (place : InterfacePlace) (view : View) (table : StateTable) : Type 0 where
  pub applies : Applies guess job number clock place view table
  pub outcome_is : guess.outcome ≡ step_of job number clock place view table
  pub asked : All (IsKept guess.answers) (asked_of job number clock place view table)

-- ---- states

-- packets that were opened together
pub record Batch : Type 0 where
  -- the number of packets before them, and their own number
  pub first : ℕ
  pub count : ℕ
  -- the claim word, and what was drawn of it: a worker, and the number that it got
  pub word : ℕ
  pub claims : List (ℕ × ℕ)

pub record Machine : Type 0 where
  pub batches : List Batch
  -- the number of their packets
  pub opened : ℕ
  -- the number of commits that a worker sees
  pub sees : ℕ → ℕ
  -- the speculations on the way
  pub way : List Guess
  -- the number of packets that are committed, and the tables after none, one and so on up to all of them
  pub committed : ℕ
  pub tables : List StateTable
  -- what they have left, and what was emitted
  pub world : World
  pub emitted : Texts
  -- the number of commits that are published
  pub published : ℕ

-- before all
abbrev pub start : RunJob → Machine
start job = record {
  batches = [];
  opened = 0;
  sees = λ worker. 0;
  way = [];
  committed = 0;
  tables = (opening job).table ∷ [];
  world = opening job;
  emitted = no_texts;
  published = 0;
}

-- ---- events

pub data Event : Type 0 where
  -- the next packets, of this number, are a batch
  open_batch : ℕ → Event
  -- a worker draws the word of the batch at a place
  claim : ℕ → ℕ → Event
  -- a worker sees this number of commits
  enter : ℕ → ℕ → Event
  -- the batch at a place, a worker, the place of a packet in the batch, and what the worker has found out about the
  -- packet
  answer : ℕ → ℕ → ℕ → Guess → Event
  -- any sound speculation
  stranger : Guess → Event
  lose : Guess → Event
  repeat : Guess → Event
  -- the next packet, with a speculation or without
  commit : Option Guess → Event
  publish : Event

-- a worker draws the word, which rises by one
abbrev pub drawn : ℕ → Batch → Batch
drawn worker batch = record batch { word = batch.word + 1; claims = batch.claims ++ (worker, batch.word) ∷ [] }

-- one of the speculations on the way is lost
pub record Loses (guess : Guess) (old new : List Guess) : Type 0 where
  pub front : List Guess
  pub behind : List Guess
  pub old_is : old ≡ front ++ guess ∷ behind
  pub new_is : new ≡ front ++ behind

-- a worker has found this out about a packet that it drew, over the states after the commits that it sees
pub record Answers (job : RunJob) (packets : List Frame) (old : Machine) (place worker index : ℕ) (guess : Guess) : Type 0 where
  pub batch : Batch
  pub batch_is : slice_get old.batches place ≡ Some batch
  pub within : index < batch.count
  pub own : Contains batch.claims (worker, index)
  pub frame : Frame
  pub frame_is : slice_get packets (batch.first + index) ≡ Some frame
  pub table : StateTable
  pub table_is : slice_get old.tables (old.sees worker) ≡ Some table
  pub evaluated : IsEvaluation guess job (batch.first + index + 1) (clock_at (world_of job (take (batch.first + index) packets)).clock frame) frame.place (view_of frame.link frame.bytes) table

-- a packet's outcome is that of a speculation on the way, if it applies, and otherwise that of its evaluation here
abbrev pub Takes : RunJob → List Guess → Option Guess → ℕ → Clock → InterfacePlace → View → StateTable → Outcome → Type 0
Takes job way None number clock place view table outcome = outcome ≡ step_of job number clock place view table
Takes job way (Some guess) number clock place view table outcome =
    Contains way guess
    × ((Applies guess job number clock place view table × (outcome ≡ guess.outcome))
    ⊎ ((Applies guess job number clock place view table → ⊥) × (outcome ≡ step_of job number clock place view table)))

-- what a packet that comes to an outcome at a clock adds to what is written of a world: its line, its record if it
-- isn't blocked, and the messages that can't go on any more
pub record Emits (job : RunJob) (world : World) (frame : Frame) (clock : Clock) (outcome : Outcome) (added : Texts) : Type 0 where
  pub verdicts_are : added.verdicts ≡ verdict_line job.rules.interfaces (world.count + 1) clock frame.place outcome
  pub packets_are : added.packets ≡ only_at frame.place.0 (packet_text frame outcome)
  pub messages_are : closed_at (origin_of job) clock (with_outcome job world frame clock outcome).events ≡ closed_at (origin_of job) world.clock world.events ++ added.messages

-- the next packet of an open batch is committed
pub record Commits (job : RunJob) (packets : List Frame) (old : Machine) (given : Option Guess) (new : Machine) : Type 0 where
  pub is_open : old.committed < old.opened
  pub frame : Frame
  pub frame_is : slice_get packets old.committed ≡ Some frame
  pub clock : Clock
  pub clock_is : clock ≡ clock_at old.world.clock frame
  pub outcome : Outcome
  pub takes : Takes job old.way given (old.world.count + 1) clock frame.place (view_of frame.link frame.bytes) old.world.table outcome
  pub added : Texts
  pub emits : Emits job old.world frame clock outcome added
  pub new_is : new ≡ record old {
    committed = old.committed + 1;
    tables = old.tables ++ (with_outcome job old.world frame clock outcome).table ∷ [];
    world = with_outcome job old.world frame clock outcome;
    emitted = joined old.emitted added;
  }

-- an event leads from one state to another
abbrev pub Moves : RunJob → List Frame → Machine → Event → Machine → Type 0
Moves job packets old (open_batch count) new =
    (old.opened + count ≤ length packets)
    × (new ≡ record old { batches = old.batches ++ record { first = old.opened; count = count; word = 0; claims = [] } ∷ []; opened = old.opened + count })
Moves job packets old (claim place worker) new =
    (batch : Batch) × (slice_get old.batches place ≡ Some batch) × (new ≡ record old { batches = slice_set old.batches place (drawn worker batch) })
Moves job packets old (enter worker commits) new =
    (old.sees worker ≤ commits) × (commits ≤ old.published) × (new ≡ record old { sees = λ other. if other == worker then commits else old.sees other })
Moves job packets old (answer place worker index guess) new = Answers job packets old place worker index guess × (new ≡ record old { way = guess ∷ old.way })
Moves job packets old (stranger guess) new = IsSoundGuess guess × (new ≡ record old { way = guess ∷ old.way })
Moves job packets old (lose guess) new = (way : List Guess) × Loses guess old.way way × (new ≡ record old { way = way })
Moves job packets old (repeat guess) new = Contains old.way guess × (new ≡ record old { way = guess ∷ old.way })
Moves job packets old (commit given) new = Commits job packets old given new
Moves job packets old publish new = new ≡ record old { published = old.committed }

-- a list of events leads there
abbrev pub RunsTo : RunJob → List Frame → Machine → List Event → Machine → Type 0
RunsTo job packets old [] new = new ≡ old
RunsTo job packets old (event ∷ events) new = (between : Machine) × Moves job packets old event between × RunsTo job packets between events new

-- ---- every run

-- After every list of events the world is that of the committed packets, taken one by one, and what was emitted is what
-- is written of that world.
abbrev pub EveryRun : Type 0
EveryRun =
    (job : RunJob) (packets : List Frame) (events : List Event) (machine : Machine)
    → RunsTo job packets (start job) events machine
    → (machine.world ≡ world_of job (take machine.committed packets))
    × (machine.emitted ≡ online job (world_of job (take machine.committed packets)))
