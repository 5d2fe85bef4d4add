-- The end of a run.
use Rattle.std.specs.Prelude.{◌≡◌, ℕ, Bool, List, [], map, Ok, Err, ⊤}
use Rattle.pfr_packet.specs.Job.{RunJob}
use Rattle.pfr_capture.specs.declared.capture.CaptureError.TheVariants as capture
use Rattle.pfr_capture.specs.declared.capture.Tail.{Tail}
use Rattle.pfr_commit.specs.declared.book.Book.{Book}
use Rattle.pfr_commit.specs.Books.{StandsAt, job_of}
use Rattle.pfr_commit.specs.World.{Frame, Texts, World, online, world_after, world_of}
use Rattle.pfr_commit.specs.World.{joined as both}
use Rattle.pfr_merge.specs.MergeReading.{AllTold, HasMerged, MayFollowAll, Waiting, joined}
use Rattle.pfr_feed.specs.declared.report.Report.{Report}
use Rattle.pfr_feed.specs.declared.report.Stop.{Stop}
use Rattle.pfr_feed.specs.declared.report.Stop.TheVariants as stop
use Rattle.pfr_out.specs.declared.sinks.Sinks.{Sinks}
use Rattle.pfr_out.specs.declared.settings.Form.{Form}
use Rattle.pfr_out.specs.declared.settings.RunSettings.{RunSettings}
use Rattle.pfr_feed.specs.Captures.{End}
use Rattle.pfr_out.specs.Spelling.{Run}
use Rattle.pfr_out.specs.Outputs.{GrewBy, Outputs, PartWritten, RoseAt, each_of}
use Rattle.pfr_feed.specs.Stops.{stop_for}
use Rattle.pfr_out.specs.Replay.{HoldsAll, Replayed, Stopped, closing}

-- a run by a book's job
abbrev pub run_in : Book → Form → Run
run_in book form = record { job = job_of book; form = form }

-- a fact of whatever world a book stands at
abbrev pub Standing : Book → (World → Type 0) → Type 0
Standing book P = (world : World) → StandsAt book world → P world

-- packets add texts to what is written of a world, and this is a fact of the texts
pub record Add (job : RunJob) (world : World) (frames : List Frame) (P : Texts → Type 0) : Type 0 where
  pub added : Texts
  pub is : online job (world_after job world frames) ≡ both (online job world) added
  pub hold : P added

-- A fact of the outputs holds of each output that tells its bytes.

-- the end of a run was written
abbrev pub ClosesIn : {S : Type 0} → (told : S → Bool) → (written : S → List ℕ) → Book → Form → (old new : Sinks S) → Type 0
ClosesIn told written book form old new = Standing book (λ world. GrewBy told written old new (closing (run_in book form) world))

-- an end that was not written whole
abbrev pub EndStops : Book → Form → (told : Sinks Bool) → Outputs → Outputs → Stop → Type 0
EndStops book form told old new (stop.Memory committed) = (committed ≡ book.count) × (new ≡ old)
EndStops book form told old new (stop.Write output committed) =
    (committed ≡ book.count) × Standing book (λ world. PartWritten told old new (closing (run_in book form) world) output)
EndStops book form told old new _ = ⊥

-- the same, by what the sinks show
abbrev pub EndStopsIn : {S : Type 0} → (told : S → Bool) → (written : S → List ℕ) → Book → Form → (old new : Sinks S) → Stop → Type 0
EndStopsIn told written book form old new s = EndStops book form (each_of told old) (each_of written old) (each_of written new) s

-- what such a stop says of the sinks' counts of failures
abbrev pub SinksFail : Stop → Sinks ℕ → Sinks ℕ → Type 0
SinksFail (stop.Write output committed) old new = RoseAt output old new
SinksFail (stop.Memory committed) old new = new ≡ old
SinksFail _ old new = ⊥

-- the end of the reading: if that is the end of the captures, an end that was not written whole; else a stop for the refusal
abbrev pub Concludes : End → Book → Form → (told : Sinks Bool) → Outputs → Outputs → Stop → Type 0
Concludes (Ok tail) book form told old new s = EndStops book form told old new s
Concludes (Err refusal) book form told old new s = (s ≡ stop_for refusal book.count) × (new ≡ old)

-- the same, by what the sinks show
abbrev pub ConcludesIn : {S : Type 0} → (told : S → Bool) → (written : S → List ℕ) → End → Book → Form → (old new : Sinks S) → Stop → Type 0
ConcludesIn told written end book form old new s = Concludes end book form (each_of told old) (each_of written old) (each_of written new) s

-- what it says of the sinks' counts of failures
abbrev pub ConcludeFails : End → ℕ → Sinks ℕ → Sinks ℕ → Stop → Type 0
ConcludeFails (Ok tail) count old new s = SinksFail s old new
ConcludeFails (Err refusal) count old new s = (s ≡ stop_for refusal count) × (new ≡ old)

-- ---- all packets of captures

-- the sources are captures of just the packets that a book has taken, and the outputs hold just what these write
pub record TakenAll (run : Run) (texts : List (List ℕ)) (told : Sinks Bool) (old new : Outputs) (book : Book) (tail : Tail) : Type 0 where
  pub all : HoldsAll run texts told old new (Ok tail) book.count
  pub stands : StandsAt book (world_of run.job all.frames)

-- the reading ended so, and all packets before that are taken and written
abbrev pub Reaches : Run → ℕ → (texts lefts : List (List ℕ)) → (told : Sinks Bool) → (old new : Outputs) → Book → End → Type 0
Reaches run batch texts lefts told old new book (Ok tail) = TakenAll run texts told old new book tail
Reaches run batch texts lefts told old new book (Err refusal) = Stopped run batch texts lefts told old new (stop_for refusal book.count)

-- a stop after the ruleset was read
abbrev pub IsLate : Stop → Type 0
IsLate (stop.Ruleset fault) = ⊥
IsLate s = ⊤

-- a stop after the headers of the captures were accepted
abbrev pub IsPastHeader : Stop → Type 0
IsPastHeader (stop.Ruleset fault) = ⊥
IsPastHeader (stop.Capture place (capture.RecordTooLong asked) committed) = ⊤
IsPastHeader (stop.Capture place e committed) = ⊥
IsPastHeader s = ⊤

-- ---- by what the devices show

-- After a merge has given no record, if the sources tell their bytes: the packets are taken and written to the end, or a stop came before.
abbrev pub ReplaysOn : {R S : Type 0} → (tells : R → Bool) → (unread : R → List ℕ) → (told : S → Bool) → (written : S → List ℕ)
    → Book → RunSettings → List Waiting → List R → (sinks sinks' : Sinks S) → Report → Type 0
ReplaysOn tells unread told written book settings merge sources sinks sinks' report =
    AllTold (map tells sources) → (reads : List (List ℕ)) → HasMerged merge reads [] → MayFollowAll merge (map unread sources)
    → Replayed (run_in book settings.form) (joined reads (map unread sources)) (each_of told sinks) (each_of written sinks) (each_of written sinks') report

abbrev pub StopsOn : {R S : Type 0} → (tells : R → Bool) → (unread : R → List ℕ) → (told : S → Bool) → (written : S → List ℕ)
    → Book → RunSettings → List Waiting → (sources sources' : List R) → (sinks sinks' : Sinks S) → Stop → Type 0
StopsOn tells unread told written book settings merge sources sources' sinks sinks' s =
    AllTold (map tells sources) → (reads : List (List ℕ)) → HasMerged merge reads [] → MayFollowAll merge (map unread sources)
    → Stopped (run_in book settings.form) settings.batch (joined reads (map unread sources)) (map unread sources') (each_of told sinks) (each_of written sinks) (each_of written sinks') s
