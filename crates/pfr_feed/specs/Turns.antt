-- How a run goes on from one turn to the next.
use Rattle.std.specs.Prelude.{◌≡◌, ◌⊎◌, ◌≤◌, ◌+◌, Bool, true, false, List, [], ◌++◌, length}
use Rattle.pfr_states.specs.declared.change.Change.{Change}
use Rattle.pfr_packet.specs.Job.{RunJob}
use Rattle.pfr_capture.specs.declared.capture.Record.{Record}
use Rattle.pfr_commit.specs.declared.book.Book.{Book}
use Rattle.pfr_commit.specs.Books.{StandsAt, job_of}
use Rattle.pfr_commit.specs.World.{Texts, World}
use Rattle.pfr_feed.specs.declared.turn.Turn.{Turn}
use Rattle.pfr_feed.specs.declared.turn.Turn.TheVariants.{GoesOn, IsOver, IsRefused}
use Rattle.pfr_feed.specs.Runs.{Call, Calls, EndsRefused, EndsWell, IsPiece, behind, first_point}
use Rattle.pfr_feed.specs.Transitions.{Transitions}

-- ---- one batch

-- a book took a batch, from whatever world it stood at; this is what the batch adds, and what it does to the table
abbrev pub TakesBatch : (old new : Book) → List Record → Texts → List Change → Type 0
TakesBatch old new records piece changes =
    (world : World) → StandsAt old world
    → StandsAt new (behind (job_of old) world records) × IsPiece (job_of old) world records piece
    × ((behind (job_of old) world records).changes ≡ world.changes ++ changes)

-- it took a batch, a feed took what that adds, and then its packets back, unless somebody still shares them
pub record TakesWhole {F : Type 0} (feeds : Transitions F) (old new : Book) (feed feed' : F) (records : List Record) (changes : List Change) : Type 0 where
  pub piece : Texts
  pub mid : F
  pub taken : TakesBatch old new records piece changes
  pub took : feeds.takes feed piece mid
  pub back : (feeds.rests mid feed') ⊎ (feed' ≡ mid)

-- it took a batch, and a feed took what that adds in part
pub record CutsShort {F : Type 0} (feeds : Transitions F) (old new : Book) (feed feed' : F) (records : List Record) : Type 0 where
  pub piece : Texts
  pub changes : List Change
  pub taken : TakesBatch old new records piece changes
  pub cut : feeds.cuts feed piece feed'

-- a book is as it was, or it was refused memory while it took a batch
pub record StopsWithin (old new : Book) (records : List Record) : Type 0 where
  pub is_over : new.is_over ≡ true
  pub from : old.count ≤ new.count
  pub to : new.count ≤ old.count + length records

abbrev pub IsRefusedAt : (old new : Book) → List Record → Type 0
IsRefusedAt old new records = (new ≡ old) ⊎ StopsWithin old new records

-- ---- turns

-- how far a run has come by these calls
pub record HasCome {F : Type 0} (feeds : Transitions F) (job : RunJob) (start : F) (calls : List Call) (world : World) (book : Book) (feed : F) (waiting : List (List Record)) (is_over : Bool) : Type 0 where
  pub went : Calls feeds job (first_point job start) calls (record { world = world; feed = feed; waiting = waiting; is_over = is_over })
  pub stands : StandsAt book world

-- how far a run by one thread has come between two turns
pub record SoFar {F : Type 0} (feeds : Transitions F) (job : RunJob) (start : F) (book : Book) (feed : F) : Type 0 where
  pub calls : List Call
  pub world : World
  pub come : HasCome feeds job start calls world book feed [] false

-- what a turn of it has come to
abbrev pub Comes : {F : Type 0} → Transitions F → RunJob → (start : F) → Turn → Book → F → Type 0
Comes feeds job start GoesOn book feed = SoFar feeds job start book feed
Comes feeds job start IsOver book feed = EndsWell feeds job start book feed
Comes feeds job start IsRefused book feed = EndsRefused feeds job start book feed

-- a turn of a run by one thread, from however far it has come
abbrev pub IsTurn : {F : Type 0} → Transitions F → Turn → (old new : Book) → (feed feed' : F) → Type 0
IsTurn {F} feeds turn old new feed feed' = (job : RunJob) (start : F) → job_of old ≡ job → SoFar feeds job start old feed → Comes feeds job start turn new feed'
