-- How a run with workers goes on from one turn to the next.
use Rattle.std.specs.Prelude.{◌≡◌, ◌⊎◌, ◌≤◌, ◌+◌, ◌^◌, ℕ, Bool, List, [], ◌∷◌, ◌++◌, length, MatchResult, Result, Some, Vec, vec_len, vec_capacity}
use Rattle.std.specs.List.{All, AllZip, sum_by}
use Rattle.std.specs.declared.alloc.Global.{Global}
use Rattle.pfr_claims.specs.declared.gathered.Gathered.{Gathered}
use Rattle.pfr_claims.specs.Batches.{Batch}
use Rattle.pfr_workers.specs.declared.incomplete.Incomplete.{Incomplete}
use Rattle.pfr_states.specs.declared.change.Change.{Change}
use Rattle.pfr_packet.specs.Job.{RunJob}
use Rattle.pfr_capture.specs.declared.capture.Record.{Record}
use Rattle.pfr_commit.specs.declared.book.Book.{Book}
use Rattle.pfr_commit.specs.World.{Texts, World}
use Rattle.pfr_feed.specs.declared.turn.Turn.{Turn}
use Rattle.pfr_feed.specs.declared.turn.Turn.TheVariants.{GoesOn, IsOver, IsRefused}
use Rattle.pfr_feed.specs.Runs.{Call, Cut, Over, Point, Refused, Went, given_in, taken_in}
use Rattle.pfr_feed.specs.Transitions.{Transitions}
use Rattle.pfr_feed.specs.Turns.{HasCome}
use Rattle.pfr_work.specs.Traces.{CameBack, IsOpenedFor, IsTrace, batches_of}

-- ---- batches that wait

-- Batches that wait, with their records, their counts and their numbers of workers. Together with the packets that were
-- taken they have at most `given` packets.
pub record Fits {X : Type 0} (waiting : List X) (records_of : X → List Record) (count_of workers_of : X → ℕ) (count given workers : ℕ) : Type 0 where
  pub few : count + sum_by count_of waiting ≤ given
  pub most : (waiting ≡ []) ⊎ (given ≤ 2 ^ 43)
  pub sizes : All (λ x. (count_of x ≡ length (records_of x)) × (workers_of x ≡ workers)) waiting

-- `count` more elements have room
abbrev pub HasRoomFor : {A : Type 0} → ℕ → Vec A Global → Type 0
HasRoomFor count list = vec_len list + count ≤ vec_capacity list

-- what came back of a batch is behind the entries if it is one, and else behind the incomplete ones
abbrev pub WithEntry : (old new : List Gathered) → Result Gathered Incomplete → Type 0
WithEntry old new gathered = MatchResult gathered (λ it. new ≡ old ++ it ∷ []) (λ it. new ≡ old)

abbrev pub WithLost : (old new : List Incomplete) → Result Gathered Incomplete → Type 0
WithLost old new gathered = MatchResult gathered (λ it. new ≡ old) (λ it. new ≡ old ++ it ∷ [])

-- the same list with others behind it
abbrev pub Extends : {A : Type 0} → (old new : List A) → Type 0
Extends {A} old new = (more : List A) × (new ≡ old ++ more)

-- ---- turns

-- How far a run has come between two turns: each batch that was given was opened, and those that were taken came back
-- whole. The table shows what all packets that were taken did to it.
pub record SoFar {F : Type 0} (feeds : Transitions F) (job : RunJob) (workers : ℕ) (start : F) (book : Book) (feed : F) (waiting : List (List Record)) (is_over : Bool) (opened : List Batch) (entries : List Gathered) (lost : List Incomplete) (still_open : List Batch) (shown : List Change) : Type 0 where
  pub calls : List Call
  pub world : World
  pub come : HasCome feeds job start calls world book feed waiting is_over
  pub opens : AllZip (IsOpenedFor workers) opened (given_in calls)
  pub own : opened ≡ batches_of entries ++ still_open
  pub took : length entries ≡ length (taken_in calls)
  pub none_lost : lost ≡ []
  pub shows : shown ≡ world.changes

-- ---- the oldest batch

-- all its passes came back
abbrev pub ComesWhole : Batch → (entries entries' : List Gathered) → (lost lost' : List Incomplete) → Type 0
ComesWhole batch entries entries' lost lost' = (entry : Gathered) × (entry.claims.value ≡ batch) × (entries' ≡ entries ++ entry ∷ []) × (lost' ≡ lost)

-- or not all
abbrev pub ComesShort : Batch → (entries entries' : List Gathered) → (lost lost' : List Incomplete) → Type 0
ComesShort batch entries entries' lost lost' = (it : Incomplete) × (it.claims.value ≡ batch) × (entries' ≡ entries) × (lost' ≡ lost ++ it ∷ [])

abbrev pub ComesBack : Batch → (entries entries' : List Gathered) → (lost lost' : List Incomplete) → Type 0
ComesBack batch entries entries' lost lost' = ComesWhole batch entries entries' lost lost' ⊎ ComesShort batch entries entries' lost lost'

-- what comes back of batches behind that of any others
abbrev pub ComesAfter : (entries entries' : List Gathered) → (lost lost' : List Incomplete) → List Batch → Type 0
ComesAfter entries entries' lost lost' batches = (back : List Batch) → CameBack back entries lost → CameBack (back ++ batches) entries' lost'

-- a feed took a piece, and then the packets back, unless somebody still shares them
abbrev pub TakesPiece : {F : Type 0} → Transitions F → F → Texts → F → Type 0
TakesPiece feeds old piece new = (mid : _) × feeds.takes old piece mid × ((feeds.rests mid new) ⊎ (new ≡ mid))

-- ---- ends, before the batches that are still open are drawn to their ends

abbrev pub StillTraces : RunJob → ℕ → List Call → List Batch → List Gathered → List Incomplete → List Batch → List Change → ℕ → ℕ → Type 0
StillTraces job workers calls opened entries lost still_open shown handed published =
    IsTrace job workers calls opened entries lost still_open handed published (Some shown)

-- the reading ended, or the piece of the next batch was taken in part
pub record OverSoFar {F : Type 0} (job : RunJob) (workers : ℕ) (book : Book) (feed : F) (opened : List Batch) (entries : List Gathered) (lost : List Incomplete) (still_open : List Batch) (shown : List Change) (calls : List Call) (at : Point F) : Type 0 where
  pub over : Over book feed at
  pub trace : StillTraces job workers calls opened entries lost still_open shown (length (taken_in calls)) book.count
  pub none_lost : lost ≡ []
  pub none_open : still_open ≡ []
  pub handed : length (taken_in calls) ≤ length entries

pub record CutSoFar {F : Type 0} (feeds : Transitions F) (job : RunJob) (workers : ℕ) (book : Book) (feed : F) (opened : List Batch) (entries : List Gathered) (lost : List Incomplete) (still_open : List Batch) (shown : List Change) (calls : List Call) (at : Point F) : Type 0 where
  pub cut : Cut feeds job book feed at
  pub trace : StillTraces job workers calls opened entries lost still_open shown (length (taken_in calls) + 1) at.world.count
  pub handed : length (taken_in calls) + 1 ≤ length entries

pub record RefusedSoFar {F : Type 0} (job : RunJob) (workers : ℕ) (book : Book) (feed : F) (opened : List Batch) (entries : List Gathered) (lost : List Incomplete) (still_open : List Batch) (shown : List Change) (calls : List Call) (at : Point F) : Type 0 where
  pub refused : Refused book feed at
  pub published : ℕ
  pub few : published ≤ at.world.count
  pub trace : StillTraces job workers calls opened entries lost still_open shown (length (taken_in calls)) published
  pub handed : length (taken_in calls) ≤ length entries

-- what a turn has come to
abbrev pub Comes : {F : Type 0} → Transitions F → RunJob → (workers : ℕ) → (start : F) → Turn → Book → F → List (List Record) → Bool → List Batch → List Gathered → List Incomplete → List Batch → List Change → Type 0
Comes feeds job workers start GoesOn book feed waiting is_over opened entries lost still_open shown =
    SoFar feeds job workers start book feed waiting is_over opened entries lost still_open shown
Comes feeds job workers start IsOver book feed waiting is_over opened entries lost still_open shown =
    Went feeds job start (λ calls at. OverSoFar job workers book feed opened entries lost still_open shown calls at ⊎ CutSoFar feeds job workers book feed opened entries lost still_open shown calls at)
Comes feeds job workers start IsRefused book feed waiting is_over opened entries lost still_open shown =
    Went feeds job start (λ calls at. RefusedSoFar job workers book feed opened entries lost still_open shown calls at)
