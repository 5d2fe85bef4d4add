-- What the trace of a run of workers shows of the speculative machine.
use Rattle.std.specs.Prelude.{◌≡◌, ◌==◌, ℕ, List, [], ◌∷◌, length, map, take, get_or, Option, Some, None, IfSome}
use Rattle.std.specs.List.{filter}
use Rattle.pfr_packet.specs.Job.{RunJob}
use Rattle.pfr_claims.specs.declared.gathered.Gathered.{Gathered}
use Rattle.pfr_claims.specs.Batches.{lists_of}
use Rattle.pfr_capture.specs.declared.capture.Record.{Record}
use Rattle.pfr_commit.specs.declared.book.Book.{Book}
use Rattle.pfr_commit.specs.Machine.{Batch, Machine}
use Rattle.pfr_commit.specs.World.{world_of}
use Rattle.pfr_feed.specs.Runs.{Call, given_in}
use Rattle.pfr_feed.specs.Transitions.{Transitions}
use Rattle.pfr_work.specs.Ends.{IsEnd}
use Rattle.pfr_work.specs.Traces.{CameBack, RunsRefused, RunsWell, Seen, packets_of}

-- the numbers that a worker drew, in the order of the claims
abbrev pub numbers_of : ℕ → List (ℕ × ℕ) → List ℕ
numbers_of worker claims = map (λ claim. claim.1) (filter (λ claim. claim.0 == worker) claims)

-- what a trace's entry shows of a batch of the machine
pub record IsEntry (gathered : Gathered) (batch : Batch) : Type 0 where
  pub count_is : batch.count ≡ gathered.sizes.count
  pub word_is : batch.word ≡ gathered.word
  -- there are as many passes as there were workers
  pub passes : length gathered.passes.value.items ≡ gathered.sizes.workers
  -- each worker drew what its pass has, in that order; who has no pass drew nothing
  pub drawn_is : (worker : ℕ) → numbers_of worker batch.claims ≡ get_or (lists_of gathered.passes.value.items) worker []

-- a batch that was given: its entry shows it, if all its passes came back
pub record IsShownBy (it : Option Gathered) (records : List Record) (batch : Batch) : Type 0 where
  pub count_is : batch.count ≡ length records
  pub entry : (entry : Gathered) → it ≡ Some entry → IsEntry entry batch

-- batches one by one, with what came back of each; nothing came back of those that weren't opened
abbrev pub AreShownBy : List (Option Gathered) → List (List Record) → List Batch → Type 0
AreShownBy returns [] [] = Unit {0}
AreShownBy [] (records ∷ given) (batch ∷ batches) = IsShownBy None records batch × AreShownBy [] given batches
AreShownBy (it ∷ returns) (records ∷ given) (batch ∷ batches) = IsShownBy it records batch × AreShownBy returns given batches
AreShownBy returns given batches = ⊥

-- a state of the machine that is the end of a run with this trace, after `committed` packets, of which `published` are
-- published
pub record IsEndWith (job : RunJob) (workers : ℕ) (calls : List Call) (seen : Seen) (committed published : ℕ) (machine : Machine) : Type 0 where
  pub is_end : IsEnd job (packets_of (given_in calls)) workers machine
  pub committed_is : machine.committed ≡ committed
  pub published_is : machine.published ≡ published
  pub shows : IfSome seen.shown (λ changes. changes ≡ (world_of job (take published (packets_of (given_in calls)))).changes)
  -- all batches that were given are its batches, and what came back of those that were opened shows them
  pub came : CameBack seen.opened seen.entries seen.lost
  pub shown : AreShownBy came.returns (given_in calls) machine.batches

-- some state of the machine is the end of a run with these calls, this book and this trace
pub record EndsIn (job : RunJob) (workers : ℕ) (book : Book) (seen : Seen) (calls : List Call) : Type 0 where
  pub published : ℕ
  pub machine : Machine
  pub is : IsEndWith job workers calls seen book.count published machine

-- each run that ended without an error ends in a state of the machine
abbrev pub WellEndsTie : {F : Type 0} → Transitions F → Type 0
WellEndsTie {F} feeds =
    (job : RunJob) (workers : ℕ) (start : F) (book : Book) (feed : F) (seen : Seen)
    → (run : RunsWell feeds job workers start book feed seen)
    → EndsIn job workers book seen run.calls

-- and so does each that ended since memory was refused
abbrev pub RefusedEndsTie : {F : Type 0} → Transitions F → Type 0
RefusedEndsTie {F} feeds =
    (job : RunJob) (workers : ℕ) (start : F) (book : Book) (feed : F) (seen : Seen)
    → (run : RunsRefused feeds job workers start book feed seen)
    → EndsIn job workers book seen run.calls
