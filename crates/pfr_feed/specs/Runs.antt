-- What becomes of a feed's batches in a run.
use Rattle.std.specs.Prelude.{◌≡◌, ◌⊎◌, ◌<◌, ◌≤◌, ◌+◌, Bool, true, false, List, [], ◌∷◌, ◌++◌, length, map}
use Rattle.std.specs.List.{All}
use Rattle.pfr_headers.specs.declared.packet.View.{View}
use Rattle.pfr_headers.specs.View.{view_of}
use Rattle.pfr_packet.specs.Job.{RunJob}
use Rattle.pfr_capture.specs.declared.capture.Record.{Record}
use Rattle.pfr_commit.specs.declared.book.Book.{Book}
use Rattle.pfr_commit.specs.Books.{StandsAt}
use Rattle.pfr_commit.specs.Emissions.{frame_of}
use Rattle.pfr_commit.specs.World.{Texts, World, joined, online, opening, world_after}
use Rattle.pfr_feed.specs.Batches.{records_of}
use Rattle.pfr_feed.specs.Transitions.{Transitions}

-- ---- one batch

-- the world after a batch
abbrev pub behind : RunJob → World → List Record → World
behind job world records = world_after job world (map frame_of records)

-- what the batch adds to the outputs
abbrev pub IsPiece : RunJob → World → List Record → Texts → Type 0
IsPiece job world records piece = online job (behind job world records) ≡ joined (online job world) piece

-- the records of a batch, each with its view
pub record AreViewed (records : List Record) (packets : List (Record × View)) : Type 0 where
  pub records_are : records_of packets ≡ records
  pub viewed : All (λ packet. packet.1 ≡ view_of packet.0.link packet.0.bytes.items) packets

-- ---- the calls of a feed

-- one call, and what came of it
pub data Call : Type 0 where
  -- it gave a batch
  gave : List Record → Call
  -- it gave none: the reading ended
  ended : Call
  -- it took the piece of a batch
  took : List Record → Texts → Call
  -- it took the packets of a batch back
  rested : Call

-- between two calls: the world of the batches that were taken, the feed, the batches that were given and wait, and
-- whether the reading has ended
pub record Point (F : Type 0) : Type 0 where
  pub world : World
  pub feed : F
  pub waiting : List (List Record)
  pub is_over : Bool

-- before the first call
abbrev pub first_point : {F : Type 0} → RunJob → F → Point F
first_point job feed = record { world = opening job; feed = feed; waiting = []; is_over = false }

-- Calls one after the other. A batch is given only if fewer than three wait and the reading hasn't ended; batches are
-- taken in the order in which they were given.
abbrev pub Calls : {F : Type 0} → Transitions F → RunJob → Point F → List Call → Point F → Type 0
Calls feeds job old [] new = new ≡ old
Calls feeds job old (gave records ∷ calls) new =
    (next : _) × (old.is_over ≡ false) × (length old.waiting < 3) × feeds.gives old.feed records next
    × Calls feeds job (record { world = old.world; feed = next; waiting = old.waiting ++ records ∷ []; is_over = false }) calls new
Calls feeds job old (ended ∷ calls) new =
    (next : _) × (old.is_over ≡ false) × feeds.ends old.feed next
    × Calls feeds job (record { world = old.world; feed = next; waiting = old.waiting; is_over = true }) calls new
Calls feeds job old (took records piece ∷ calls) new =
    (next : _) × (later : List (List Record)) × (old.waiting ≡ records ∷ later) × feeds.takes old.feed piece next × IsPiece job old.world records piece
    × Calls feeds job (record { world = behind job old.world records; feed = next; waiting = later; is_over = old.is_over }) calls new
Calls feeds job old (rested ∷ calls) new =
    (next : _) × feeds.rests old.feed next
    × Calls feeds job (record { world = old.world; feed = next; waiting = old.waiting; is_over = old.is_over }) calls new

-- the batches that were given
abbrev pub given_in : List Call → List (List Record)
given_in [] = []
given_in (gave records ∷ calls) = records ∷ given_in calls
given_in (call ∷ calls) = given_in calls

-- the batches that were taken
abbrev pub taken_in : List Call → List (List Record)
taken_in [] = []
taken_in (took records piece ∷ calls) = records ∷ taken_in calls
taken_in (call ∷ calls) = taken_in calls

-- ---- how a run ends

-- from the first packet on a run went by some calls to a point, and `P` holds of both
pub record Went {F : Type 0} (feeds : Transitions F) (job : RunJob) (feed : F) (P : List Call → Point F → Type 0) : Type 0 where
  pub calls : List Call
  pub at : Point F
  pub went : Calls feeds job (first_point job feed) calls at
  pub then : P calls at

-- the reading ended, and the piece of every batch was taken
pub record Over {F : Type 0} (book : Book) (feed : F) (at : Point F) : Type 0 where
  pub feed_is : feed ≡ at.feed
  pub is_over : at.is_over ≡ true
  pub none_waits : at.waiting ≡ []
  pub stands : StandsAt book at.world

-- the piece of the next batch was taken in part
pub record Cut {F : Type 0} (feeds : Transitions F) (job : RunJob) (book : Book) (feed : F) (at : Point F) : Type 0 where
  pub records : List Record
  pub later : List (List Record)
  pub waits : at.waiting ≡ records ∷ later
  pub piece : Texts
  pub piece_is : IsPiece job at.world records piece
  pub cut : feeds.cuts at.feed piece feed
  pub stands : StandsAt book (behind job at.world records)

-- a book was refused memory while it took the next batch, of which it has counted some packets
pub record StoppedIn {F : Type 0} (book : Book) (at : Point F) : Type 0 where
  pub records : List Record
  pub later : List (List Record)
  pub waits : at.waiting ≡ records ∷ later
  pub is_over : book.is_over ≡ true
  pub from : at.world.count ≤ book.count
  pub to : book.count ≤ at.world.count + length records

-- memory was refused: before the book took the next batch or after it, or while it did
pub record Refused {F : Type 0} (book : Book) (feed : F) (at : Point F) : Type 0 where
  pub feed_is : feed ≡ at.feed
  pub stands : StandsAt book at.world ⊎ StoppedIn book at

-- a run that ended without an error: at the reading's end, or since a piece wasn't taken whole
abbrev pub EndsWell : {F : Type 0} → Transitions F → RunJob → (start : F) → Book → F → Type 0
EndsWell feeds job start book feed = Went feeds job start (λ calls at. Over book feed at ⊎ Cut feeds job book feed at)

-- a run that ended since memory was refused
abbrev pub EndsRefused : {F : Type 0} → Transitions F → RunJob → (start : F) → Book → F → Type 0
EndsRefused feeds job start book feed = Went feeds job start (λ calls at. Refused book feed at)
