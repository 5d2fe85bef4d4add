-- A run with workers between two turns: the batches that wait, and the room for what comes back of them.
use Rattle.std.specs.Prelude.{◌≡◌, ◌+◌, ◌-◌, ◌*◌, ◌^◌, ℕ, [], ◌∷◌, ◌++◌, cond, length, map, List, MatchResult, Result, Vec}
use Rattle.std.specs.Arc.{arc_value}
use Rattle.std.specs.declared.alloc.Global.{Global}
use Rattle.pfr_capture.specs.declared.capture.Record.{Record}
use Rattle.pfr_claims.specs.declared.gathered.Gathered.{Gathered}
use Rattle.pfr_claims.specs.Batches as claims
use Rattle.pfr_history.specs.declared.history.Naming as naming
use Rattle.pfr_packet.specs.Job.{RunJob}
use Rattle.pfr_published.specs.declared.copy.TableNaming as tables
use Rattle.pfr_states.specs.declared.change.Change.{Change}
use Rattle.pfr_workers.specs.declared.incomplete.Incomplete.{Incomplete}
use Rattle.pfr_workers.specs.declared.open_batch.OpenBatch.{OpenBatch}
use Rattle.pfr_commit.specs.Books.{job_of}
use Rattle.pfr_feed.specs.declared.turn.Turn.{Turn}
use Rattle.pfr_feed.specs.Batches.{records_of}
use Rattle.pfr_feed.specs.Transitions.{Transitions}
use Rattle.pfr_work.specs.declared.batch.Batch.{Batch}
use Rattle.pfr_work.specs.declared.found.FoundOut.{FoundOut}
use Rattle.pfr_work.specs.declared.found.OfRun as runs
use Rattle.pfr_work.specs.declared.running.Run.{Run}
use Rattle.pfr_work.specs.Turns.{Comes, Fits, HasRoomFor, SoFar}

-- there is room for what comes back of `count` batches, whatever it is
abbrev pub AllRoom : (count : ℕ) → Vec Gathered Global → Vec Incomplete Global → Type 0
AllRoom count entries lost = HasRoomFor count entries × HasRoomFor count lost

module _ {J K : Type 0} {o : runs.Ghosts J} {t : tables.Ghosts J} {n : naming.Ghosts J} {k : naming.Ghosts K} where
  abbrev pub records_in : OpenBatch K (Batch J o t n) (FoundOut J o t n) k → List Record
  records_in it = records_of (arc_value it.batch).packets.items

  -- its claims, by which it stands in the history
  abbrev pub claims_in : OpenBatch K (Batch J o t n) (FoundOut J o t n) k → claims.Batch
  claims_in it = arc_value it.claims

  abbrev pub count_in : OpenBatch K (Batch J o t n) (FoundOut J o t n) k → ℕ
  count_in it = it.count

  abbrev pub workers_in : OpenBatch K (Batch J o t n) (FoundOut J o t n) k → ℕ
  workers_in it = it.workers

  -- the opened batch stands behind the earlier ones; if memory was refused, none is added
  abbrev pub OpensOne : {E : Type 0} → (old new : List claims.Batch) → Result (OpenBatch K (Batch J o t n) (FoundOut J o t n) k) E → Type 0
  OpensOne old new opened = MatchResult opened (λ it. new ≡ old ++ claims_in it ∷ []) (λ _. new ≡ old)

module _ {J K F : Type 0} {o : runs.Ghosts J} {t : tables.Ghosts J} {n : naming.Ghosts J} {k : naming.Ghosts K} where
  -- the packets that were taken and those of the waiting batches are at most `given`
  abbrev pub FitsIn : (given workers : ℕ) → Run J K F o t n k → Type 0
  FitsIn given workers run = Fits run.waiting.items records_in count_in workers_in run.book.count given workers

  -- `new` fits for each number of workers for which `old` did
  abbrev pub StillFit : (given given' : ℕ) → (old new : Run J K F o t n k) → Type 0
  StillFit given given' old new = (workers : ℕ) → FitsIn given workers old → FitsIn given' workers new

  abbrev pub HasRoom : Run J K F o t n k → Type 0
  HasRoom run = AllRoom (length run.waiting.items) run.course.entries run.course.lost

  -- what is still to come at most, if a feed has given `given` packets: each turn but the last makes it less
  abbrev pub left_of : (given : ℕ) → Run J K F o t n k → ℕ
  left_of given run = 3 * (2 ^ 43 - given) + length run.waiting.items + cond run.is_over 0 1

  -- how far a run has come, whose table shows these changes
  abbrev pub IsSoFar : Transitions F → RunJob → (workers : ℕ) → (start : F) → Run J K F o t n k → (shown : List Change) → Type 0
  IsSoFar feeds job workers start run shown =
      SoFar feeds job workers start run.book run.feed (map records_in run.waiting.items) run.is_over run.course.openings run.course.entries.items run.course.lost.items (map claims_in run.waiting.items) shown

  -- what a turn of it has come to
  abbrev pub HasTurned : Transitions F → RunJob → (workers : ℕ) → (start : F) → Turn → Run J K F o t n k → (shown : List Change) → Type 0
  HasTurned feeds job workers start turn run shown =
      Comes feeds job workers start turn run.book run.feed (map records_in run.waiting.items) run.is_over run.course.openings run.course.entries.items run.course.lost.items (map claims_in run.waiting.items) shown

  -- a turn of a run, from however far it has come
  abbrev pub IsTurn : Transitions F → (workers : ℕ) → Turn → (old new : Run J K F o t n k) → (shown shown' : List Change) → Type 0
  IsTurn feeds workers turn old new shown shown' =
      (job : RunJob) (start : F) → job_of old.book ≡ job → IsSoFar feeds job workers start old shown → HasTurned feeds job workers start turn new shown'
