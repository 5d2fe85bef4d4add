-- The states of the speculative machine that are the end of a run.
use Rattle.std.specs.Prelude.{◌≡◌, ◌≤◌, ◌+◌, ℕ, List, [], ◌∷◌, length, map, take}
use Rattle.std.specs.List.{All, range_with_len}
use Rattle.pfr_states.specs.States.{StateTable}
use Rattle.pfr_packet.specs.Job.{RunJob}
use Rattle.pfr_commit.specs.Machine.{Batch, Event, IsSoundGuess, Machine, RunsTo, start}
use Rattle.pfr_commit.specs.World.{Frame, online, world_of}

-- batches follow one another from a count of packets up to another one
abbrev pub Follow : ℕ → List Batch → ℕ → Type 0
Follow first [] last = first ≡ last
Follow first (batch ∷ batches) last = (batch.first ≡ first) × Follow (first + batch.count) batches last

-- the numbers below the word were drawn, each once, in their order (by whichever workers)
abbrev pub IsDrawn : Batch → Type 0
IsDrawn batch = map (λ claim. claim.1) batch.claims ≡ range_with_len 0 batch.word

-- the tables after none, one and so on up to `count` of the packets
abbrev pub tables_of : RunJob → List Frame → ℕ → List StateTable
tables_of job packets count = map (λ k. (world_of job (take k packets)).table) (range_with_len 0 (count + 1))

-- a state that is the end of a run with `workers` workers
pub record IsEnd (job : RunJob) (packets : List Frame) (workers : ℕ) (machine : Machine) : Type 0 where
  -- its batches follow one another from the first packet on, and hold no packet past the last
  pub follow : Follow 0 machine.batches machine.opened
  pub within : machine.opened ≤ length packets
  pub drawn : All IsDrawn machine.batches
  -- what is published was committed, and what was committed was opened
  pub published_few : machine.published ≤ machine.committed
  pub committed_few : machine.committed ≤ machine.opened
  -- world, tables and outputs are those of the packets committed
  pub world_is : machine.world ≡ world_of job (take machine.committed packets)
  pub tables_are : machine.tables ≡ tables_of job packets machine.committed
  pub emitted_is : machine.emitted ≡ online job (world_of job (take machine.committed packets))
  -- each worker sees at most what is published, and there are no other workers
  pub seen : (worker : ℕ) → machine.sees worker ≤ machine.published
  pub few : (worker : ℕ) → workers ≤ worker → machine.sees worker ≡ 0
  -- each speculation on the way is sound
  pub sound : All IsSoundGuess machine.way

-- each such state is reached by a list of events
abbrev pub Reached : Type 0
Reached =
    (job : RunJob) (packets : List Frame) (workers : ℕ) (machine : Machine)
    → IsEnd job packets workers machine
    → (events : List Event) × RunsTo job packets (start job) events machine
