-- What a run with workers leaves beside its outputs: which batches were opened, what came back of them, and how far the
-- table was published.
use Rattle.std.specs.Prelude.{◌≡◌, ◌⊎◌, ◌≤◌, ◌<◌, ◌+◌, ℕ, Bool, true, false, List, [], ◌∷◌, ◌++◌, length, map, take, Option, Some, None, IfSome, IsSome}
use Rattle.std.specs.List.{AllZip, flat_map}
use Rattle.pfr_claims.specs.declared.gathered.Gathered.{Gathered}
use Rattle.pfr_claims.specs.Batches.{Batch}
use Rattle.pfr_workers.specs.declared.incomplete.Incomplete.{Incomplete}
use Rattle.pfr_states.specs.declared.change.Change.{Change}
use Rattle.pfr_packet.specs.Job.{RunJob}
use Rattle.pfr_capture.specs.declared.capture.Record.{Record}
use Rattle.pfr_commit.specs.declared.book.Book.{Book}
use Rattle.pfr_commit.specs.Emissions.{frame_of}
use Rattle.pfr_commit.specs.World.{Frame, world_of}
use Rattle.pfr_feed.specs.Runs.{Call, Cut, Over, Point, Refused, Went, given_in, taken_in}
use Rattle.pfr_feed.specs.Transitions.{Transitions}

-- ---- the passes of batches

-- a batch was opened for these records, to `workers` workers
abbrev pub IsOpenedFor : ℕ → Batch → List Record → Type 0
IsOpenedFor workers batch records = (batch.sizes.count ≡ length records) × (batch.sizes.workers ≡ workers)

-- the batches of entries
abbrev pub batches_of : List Gathered → List Batch
batches_of entries = map (λ entry. entry.claims.value) entries

-- the entries of those that came back
abbrev pub found : List (Option Gathered) → List Gathered
found [] = []
found (None ∷ returns) = found returns
found (Some entry ∷ returns) = entry ∷ found returns

-- the batches whose passes didn't all come back
abbrev pub missing : List Batch → List (Option Gathered) → List Batch
missing [] returns = []
missing (batch ∷ batches) [] = []
missing (batch ∷ batches) (None ∷ returns) = batch ∷ missing batches returns
missing (batch ∷ batches) (Some entry ∷ returns) = missing batches returns

-- all passes of a batch came back in this entry, if there is one
abbrev pub IsReturn : Batch → Option Gathered → Type 0
IsReturn batch it = IfSome it (λ entry. entry.claims.value ≡ batch)

-- what came back of each of some batches
abbrev pub AreReturns : List Batch → List (Option Gathered) → Type 0
AreReturns batches returns = AllZip IsReturn batches returns

-- of each batch all passes came back, and its entry stands among the others in order, or passes of it are lost
pub record CameBack (batches : List Batch) (entries : List Gathered) (lost : List Incomplete) : Type 0 where
  pub returns : List (Option Gathered)
  pub of_batches : AreReturns batches returns
  pub entries_are : entries ≡ found returns
  pub lost_are : map (λ it. it.claims.value) lost ≡ missing batches returns

-- ---- a trace

-- the packets of batches
abbrev pub packets_of : List (List Record) → List Frame
packets_of batches = flat_map (λ records. map frame_of records) batches

-- what a trace shows of a run by these calls: of the batches that were opened some may still be open, and the table
-- shows what the first `published` packets did to it
pub record IsTrace (job : RunJob) (workers : ℕ) (calls : List Call) (opened : List Batch) (entries : List Gathered) (lost : List Incomplete) (still_open : List Batch) (handed published : ℕ) (shown : Option (List Change)) : Type 0 where
  -- the batches that were opened are the first of those that were given
  pub opens : AllZip (IsOpenedFor workers) opened (take (length opened) (given_in calls))
  pub back : List Batch
  pub opened_are : opened ≡ back ++ still_open
  pub came : CameBack back entries lost
  -- all batches whose pieces were handed to the feed came back
  pub whole : take handed (batches_of entries) ≡ take handed opened
  pub shows : IfSome shown (λ changes. changes ≡ (world_of job (take published (packets_of (given_in calls)))).changes)

-- what contracts see of a trace
pub record Seen : Type 0 where
  pub opened : List Batch
  pub entries : List Gathered
  pub lost : List Incomplete
  -- the list of changes that was published last, and whether the table is shown
  pub shown : Option (List Change)
  pub is_shown : Bool
  -- whether workers were given up
  pub gave_up : Bool

abbrev pub Traces : RunJob → ℕ → List Call → Seen → ℕ → ℕ → Type 0
Traces job workers calls seen handed published = IsTrace job workers calls seen.opened seen.entries seen.lost [] handed published seen.shown

-- with workers there is a table, and it is hidden only if they were given up
pub record IsShown (workers : ℕ) (seen : Seen) : Type 0 where
  pub someone : 0 < workers → IsSome seen.shown
  pub hidden : 0 < workers → seen.gave_up ≡ false → seen.is_shown ≡ true

-- ---- how a run ends, with its trace

-- the reading ended: all batches were handed on, and all that packets did to the table was published
pub record OverWith {F : Type 0} (job : RunJob) (workers : ℕ) (book : Book) (feed : F) (seen : Seen) (calls : List Call) (at : Point F) : Type 0 where
  pub over : Over book feed at
  pub trace : Traces job workers calls seen (length (taken_in calls)) book.count
  pub none_lost : seen.lost ≡ []
  pub is_shown : IsShown workers seen

-- the piece of the next batch was taken in part: what was done by the packets before it was published
pub record CutWith {F : Type 0} (feeds : Transitions F) (job : RunJob) (workers : ℕ) (book : Book) (feed : F) (seen : Seen) (calls : List Call) (at : Point F) : Type 0 where
  pub cut : Cut feeds job book feed at
  pub trace : Traces job workers calls seen (length (taken_in calls) + 1) at.world.count
  pub is_shown : IsShown workers seen

-- memory was refused: at most what was done by the packets before was published; there is no table only if that was
-- refused
pub record RefusedWith {F : Type 0} (job : RunJob) (workers : ℕ) (book : Book) (feed : F) (seen : Seen) (calls : List Call) (at : Point F) : Type 0 where
  pub refused : Refused book feed at
  pub published : ℕ
  pub few : published ≤ at.world.count
  pub trace : Traces job workers calls seen (length (taken_in calls)) published
  pub is_shown : IsShown workers seen ⊎ ((calls ≡ []) × (seen.shown ≡ None))

-- a run that ended without an error, with its trace
abbrev pub RunsWell : {F : Type 0} → Transitions F → RunJob → ℕ → (start : F) → Book → F → Seen → Type 0
RunsWell feeds job workers start book feed seen =
    Went feeds job start (λ calls at. OverWith job workers book feed seen calls at ⊎ CutWith feeds job workers book feed seen calls at)

-- a run that ended since memory was refused, with its trace
abbrev pub RunsRefused : {F : Type 0} → Transitions F → RunJob → ℕ → (start : F) → Book → F → Seen → Type 0
RunsRefused feeds job workers start book feed seen = Went feeds job start (λ calls at. RefusedWith job workers book feed seen calls at)
