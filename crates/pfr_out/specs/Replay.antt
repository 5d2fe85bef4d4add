-- The replay of captures through a ruleset, by one thread, a batch of packets at a time.
use Rattle.std.specs.Prelude.{◌≡◌, ◌⊎◌, ◌≤◌, ◌+◌, ◌*◌, ℕ, Bool, IsTrue, false, List, [], length, map, take, Ok, Err, ⊤}
use Rattle.pfr_terms.specs.declared.error.ConfError.{ConfError}
use Rattle.pfr_terms.specs.declared.error.ConfErrorKind.TheVariants.{Memory as NoMemory}
use Rattle.pfr_terms.specs.Input.{Gives}
use Rattle.pfr_expand.specs.Texts.{ruleset_of}
use Rattle.pfr_packet.specs.Job.{HasDefaults, RunJob}
use Rattle.pfr_capture.specs.declared.capture.CaptureError.{CaptureError}
use Rattle.pfr_capture.specs.declared.capture.CaptureError.TheVariants as capture
use Rattle.pfr_capture.specs.declared.capture.Tail.{Tail}
use Rattle.pfr_capture.specs.Device.{GrewByBeginning}
use Rattle.pfr_commit.specs.Emissions.{by_place}
use Rattle.pfr_commit.specs.Endings.{counters_text, states_text}
use Rattle.pfr_sync.specs.Messages.{messages_of}
use Rattle.pfr_commit.specs.World.{ByPlace, Frame, Texts, World, each_joined, last_message, origin_of, world_of}
use Rattle.pfr_commit.specs.World.{online as written}
use Rattle.pfr_merge.specs.MergeReading.{AllTold, joined}
use Rattle.pfr_merge.specs.MergedCaptures.{AreOpened, MayContinue}
use Rattle.pfr_merge.specs.Opening.{IsRefusedAt, IsShortAt, OneFailed}
use Rattle.pfr_feed.specs.declared.report.Output.{Output}
use Rattle.pfr_feed.specs.declared.report.Report.{Report}
use Rattle.pfr_feed.specs.declared.report.Stop.{Stop}
use Rattle.pfr_feed.specs.declared.report.Stop.TheVariants as stop
use Rattle.pfr_out.specs.declared.settings.RunSettings.{RunSettings}
use Rattle.pfr_out.specs.declared.settings.Settings.{Settings}
use Rattle.pfr_out.specs.declared.sinks.Sinks.{Sinks}
use Rattle.pfr_feed.specs.Captures.{CapturesGive, CapturesFail, BeginWith, End, headers_of}
use Rattle.pfr_out.specs.Outputs.{Extends, Grew, OutputTexts, Outputs, PartWritten, RoseAt, Stay, Untouched, batch_alone, each_of, ending_alone, headers_alone, of_output, output_text, texts_alone}
use Rattle.pfr_out.specs.Spelling.{Run, messages_text}

-- ---- what a replay writes

-- the packets of captures after their headers
abbrev pub behind_headers : List (List ℕ) → ByPlace → ByPlace
behind_headers headers packets = each_joined (by_place headers) packets

-- the outputs after packets of captures with these headers; a message that may still grow isn't written
abbrev pub online : List (List ℕ) → Run → World → OutputTexts
online headers run world = batch_alone world.verdicts (behind_headers headers world.packets) (messages_text run (written run.job world).messages)

-- what a run writes at the end of its captures: the message that was open, counters and states
abbrev pub closing : Run → World → OutputTexts
closing run world = ending_alone (counters_text world.count world.counters) (states_text run.job.rules.interfaces world.table.states) (messages_text run (last_message run.job world))

-- the outputs after all packets of captures and their end, with all messages of what became of states
abbrev pub whole : List (List ℕ) → Run → World → OutputTexts
whole headers run world = record {
  verdicts = world.verdicts;
  packets = behind_headers headers world.packets;
  counters = counters_text world.count world.counters;
  states = states_text run.job.rules.interfaces world.table.states;
  messages = messages_text run (messages_of (origin_of run.job) world.events);
}

-- what the replay of captures with these headers writes, by how they end
abbrev pub replay_of : List (List ℕ) → Run → World → End → OutputTexts
replay_of headers run world (Ok tail) = whole headers run world
replay_of headers run world (Err stop) = online headers run world

-- each output that tells its bytes grew by a beginning of what it would grow by
abbrev pub Begins : (told : Sinks Bool) → (old new : Outputs) → OutputTexts → Type 0
Begins told old new all = (o : Output) → IsTrue (of_output false o told) → GrewByBeginning (of_output [] o old) (of_output [] o new) (output_text o all)

-- ---- a run to the end

-- A fact of the outputs holds of each output that tells its bytes.

-- the sources are captures of these packets, and the outputs hold what their replay writes
pub record Replayed (run : Run) (texts : List (List ℕ)) (told : Sinks Bool) (old new : Outputs) (report : Report) : Type 0 where
  pub frames : List Frame
  pub captures : CapturesGive texts frames (Ok report.tail)
  pub counted : length frames ≡ report.committed
  pub grew : Grew told old new (whole (headers_of texts) run (world_of run.job frames))

-- ---- stops

-- The headers of the captures were read and are accepted. `P` holds of the headers, the packets and the end of all
-- captures that begin with the bytes that were read of the sources. If there are several captures, one whose end was
-- read, or a record that is too long, has no more than its source has.
pub record OfEvery (texts lefts : List (List ℕ)) (P : List (List ℕ) → List Frame → End → Type 0) : Type 0 where
  pub reads : List (List ℕ)
  pub are : texts ≡ joined reads lefts
  pub opened : AreOpened reads
  pub ended : List Bool
  pub long : length ended ≡ length lefts
  pub every : (mores : List (List ℕ)) (frames : List Frame) (ending : End) → MayContinue ended lefts mores → CapturesGive (joined reads mores) frames ending → P (headers_of (joined reads mores)) frames ending

-- between two batches
abbrev pub IsBoundary : ℕ → ℕ → Type 0
IsBoundary batch count = (batches : ℕ) × (count ≡ batches * batch)

-- the outputs hold just what the first `committed` packets write, a number of whole batches
pub record Holds (run : Run) (batch : ℕ) (told : Sinks Bool) (old new : Outputs) (committed : ℕ) (headers : List (List ℕ)) (frames : List Frame) : Type 0 where
  pub within : committed ≤ length frames
  pub boundary : IsBoundary batch committed
  pub grew : Grew told old new (online headers run (world_of run.job (take committed frames)))

-- the headers were written in part, and nothing else was
pub record HoldsPartOfHeaders (told : Sinks Bool) (old new : Outputs) (output : Output) (committed : ℕ) (headers : List (List ℕ)) : Type 0 where
  pub none : committed ≡ 0
  pub part : PartWritten told old new (headers_alone headers) output

-- The outputs hold what the first `committed` packets write, a number of whole batches, and a part of what the next
-- ones write, at most a batch of them. One output took a part without at least the last byte, and those after it took
-- nothing.
pub record HoldsPartOfBatch (run : Run) (batch : ℕ) (told : Sinks Bool) (old new : Outputs) (output : Output) (committed : ℕ) (headers : List (List ℕ)) (frames : List Frame) : Type 0 where
  pub next : ℕ
  pub at_most : next ≤ committed + batch
  pub within : next ≤ length frames
  pub boundary : IsBoundary batch committed
  pub mid : Outputs
  pub before : Grew told old mid (online headers run (world_of run.job (take committed frames)))
  pub piece : Texts
  pub piece_is : Extends (online headers run (world_of run.job (take committed frames))) (online headers run (world_of run.job (take next frames))) (texts_alone run piece)
  pub part : PartWritten told mid new (texts_alone run piece) output

-- nothing was written, since a read of the source at a place failed before its capture's header had come whole
pub record Unopened (texts lefts : List (List ℕ)) (told : Sinks Bool) (old new : Outputs) (place committed : ℕ) : Type 0 where
  pub none : committed ≡ 0
  pub early : IsShortAt texts lefts place
  pub same : Untouched told old new

-- nothing was written
pub record Unwritten (told : Sinks Bool) (old new : Outputs) (committed : ℕ) : Type 0 where
  pub none : committed ≡ 0
  pub same : Untouched told old new

-- A read of the source at a place failed. The packets committed are just those that come before the failure, all
-- captures that begin with the bytes read begin with them, and the outputs hold just what they write.
pub record HoldsAllRead (run : Run) (texts lefts : List (List ℕ)) (told : Sinks Bool) (old new : Outputs) (place committed : ℕ) : Type 0 where
  pub frames : List Frame
  pub reads : List (List ℕ)
  pub are : texts ≡ joined reads lefts
  pub captures : CapturesFail reads lefts place frames
  pub first : OfEvery texts lefts (λ headers all ending. BeginWith frames all)
  pub counted : length frames ≡ committed
  pub grew : Grew told old new (online (headers_of texts) run (world_of run.job frames))

-- the sources are captures of just the packets committed with this ending, and the outputs hold just what these write
pub record HoldsAll (run : Run) (texts : List (List ℕ)) (told : Sinks Bool) (old new : Outputs) (ending : End) (committed : ℕ) : Type 0 where
  pub frames : List Frame
  pub captures : CapturesGive texts frames ending
  pub counted : length frames ≡ committed
  pub grew : Grew told old new (online (headers_of texts) run (world_of run.job frames))

-- the sources are captures that were read to their end, and what a run writes there was written in part
pub record HoldsPartOfEnding (run : Run) (texts : List (List ℕ)) (told : Sinks Bool) (old new : Outputs) (output : Output) (committed : ℕ) : Type 0 where
  pub frames : List Frame
  pub tail : Tail
  pub captures : CapturesGive texts frames (Ok tail)
  pub counted : length frames ≡ committed
  pub mid : Outputs
  pub before : Grew told old mid (online (headers_of texts) run (world_of run.job frames))
  pub part : PartWritten told mid new (closing run (world_of run.job frames)) output

-- what a refusal of the capture at a place says of the sources' bytes and of the outputs
abbrev pub Refused : Run → (texts : List (List ℕ)) → (told : Sinks Bool) → (old new : Outputs) → (place : ℕ) → CaptureError → ℕ → Type 0
Refused run texts told old new place capture.Read committed = ⊥
Refused run texts told old new place capture.Memory committed = ⊥
Refused run texts told old new place (capture.RecordTooLong asked) committed = HoldsAll run texts told old new (Err (place, capture.RecordTooLong asked)) committed
Refused run texts told old new place e committed = IsRefusedAt texts place e × (committed ≡ 0) × Untouched told old new

-- what a refusal of memory says: nothing was written, or whole batches were, or all packets that came before a failed
-- read or before the end of the captures
abbrev pub Wanting : Run → ℕ → (texts lefts : List (List ℕ)) → (told : Sinks Bool) → (old new : Outputs) → ℕ → Type 0
Wanting run batch texts lefts told old new committed =
    Unwritten told old new committed
    ⊎ (OfEvery texts lefts (λ headers frames ending. Holds run batch told old new committed headers frames)
    ⊎ (((place : ℕ) × HoldsAllRead run texts lefts told old new place committed) ⊎ ((ending : End) × HoldsAll run texts told old new ending committed)))

-- what a failed write says
abbrev pub Failing : Run → ℕ → (texts lefts : List (List ℕ)) → (told : Sinks Bool) → (old new : Outputs) → Output → ℕ → Type 0
Failing run batch texts lefts told old new output committed =
    OfEvery texts lefts (λ headers frames ending.
    HoldsPartOfHeaders told old new output committed headers ⊎ HoldsPartOfBatch run batch told old new output committed headers frames)
    ⊎ HoldsPartOfEnding run texts told old new output committed

-- what each stop after the ruleset was read says
abbrev pub Stopped : Run → ℕ → (texts lefts : List (List ℕ)) → (told : Sinks Bool) → (old new : Outputs) → Stop → Type 0
Stopped run batch texts lefts told old new (stop.Ruleset fault) = ⊥
Stopped run batch texts lefts told old new (stop.Capture place e committed) = Refused run texts told old new place e committed
Stopped run batch texts lefts told old new (stop.Read place committed) = Unopened texts lefts told old new place committed ⊎ HoldsAllRead run texts lefts told old new place committed
Stopped run batch texts lefts told old new (stop.Memory committed) = Wanting run batch texts lefts told old new committed
Stopped run batch texts lefts told old new (stop.Write output committed) = Failing run batch texts lefts told old new output committed

-- how many packets a stop reports as committed
abbrev pub committed_of : Stop → ℕ
committed_of (stop.Ruleset fault) = 0
committed_of (stop.Capture place e committed) = committed
committed_of (stop.Read place committed) = committed
committed_of (stop.Write output committed) = committed
committed_of (stop.Memory committed) = committed

-- ---- failures of devices

-- A device stops a run only if its count of failures rose, and no other sink's rose then. If packets can't be written
-- or taken, a source may have failed just before, after those packets.
abbrev pub StopFails : Stop → (sources sources' : List ℕ) → (sinks sinks' : Sinks ℕ) → Type 0
StopFails (stop.Read place committed) sources sources' sinks sinks' = OneFailed place sources sources' × (sinks' ≡ sinks)
StopFails (stop.Write output committed) sources sources' sinks sinks' = RoseAt output sinks sinks'
StopFails (stop.Memory committed) sources sources' sinks sinks' = sinks' ≡ sinks
StopFails _ sources sources' sinks sinks' = (sources' ≡ sources) × (sinks' ≡ sinks)

-- the same, by what the devices show
abbrev pub StopFailsIn : {R S : Type 0} → (failures : R → ℕ) → (sink_failures : S → ℕ) → (sources sources' : List R) → (sinks sinks' : Sinks S) → Stop → Type 0
StopFailsIn failures sink_failures sources sources' sinks sinks' s =
    StopFails s (map failures sources) (map failures sources') (each_of sink_failures sinks) (each_of sink_failures sinks')

-- no device failed
abbrev pub NoneFails : {R S : Type 0} → (failures : R → ℕ) → (sink_failures : S → ℕ) → (sources sources' : List R) → (sinks sinks' : Sinks S) → Type 0
NoneFails failures sink_failures sources sources' sinks sinks' = (map failures sources' ≡ map failures sources) × Stay sink_failures sinks sinks'

-- ---- a capture that was refused, whatever the sources tell

-- A failed read and want of memory stop a run by their own names. A refusal of the header comes before anything is
-- written. Of a record that is too long nothing more is said: packets before it may be written.
abbrev pub RefusedUntold : CaptureError → ℕ → (told : Sinks Bool) → (old new : Outputs) → Type 0
RefusedUntold capture.Read committed told old new = ⊥
RefusedUntold capture.Memory committed told old new = ⊥
RefusedUntold (capture.RecordTooLong asked) committed told old new = ⊤
RefusedUntold e committed told old new = (committed ≡ 0) × Untouched told old new

-- what a stop says of such a refusal
abbrev pub StopsUntold : Stop → (told : Sinks Bool) → (old new : Outputs) → Type 0
StopsUntold (stop.Capture place e committed) told old new = RefusedUntold e committed told old new
StopsUntold s told old new = ⊤

-- the same, by what the sinks show
abbrev pub StopsUntoldIn : {S : Type 0} → (told : S → Bool) → (written : S → List ℕ) → (old new : Sinks S) → Stop → Type 0
StopsUntoldIn told written old new s = StopsUntold s (each_of told old) (each_of written old) (each_of written new)

-- ---- the job of a run

pub record IsJob (text seed : List ℕ) (settings : Settings) (job : RunJob) : Type 0 where
  pub text_is : job.text ≡ text
  pub interfaces_are : job.interfaces ≡ settings.interfaces.now
  pub inside_is : job.inside ≡ settings.inside.now
  pub seed_is : job.seed ≡ seed
  pub nothing_more : HasDefaults job
  -- the ruleset that the text means
  pub rules_are : ruleset_of text settings.interfaces.now ≡ Ok job.rules

-- a fact of the run's job, and that the text means a ruleset
pub record UnderJob (text seed : List ℕ) (settings : Settings) (P : RunJob → Type 0) : Type 0 where
  pub job : RunJob
  pub is : IsJob text seed settings job
  pub hold : P job

-- the fault is the first one of the text, or want of memory, which has line 0
pub record IsFaultOf (text : List ℕ) (settings : Settings) (fault : ConfError) : Type 0 where
  pub is : Gives (ruleset_of text settings.interfaces.now) (Err fault)
  pub line : fault.kind ≡ NoMemory → fault.line ≡ 0

-- how the captures of a run are taken, by the settings of the run
abbrev pub run_settings : Settings → RunSettings
run_settings settings = record { batch = settings.batch; workers = settings.workers; form = settings.form }

abbrev pub run_with : RunJob → RunSettings → Run
run_with job settings = record { job = job; form = settings.form }

-- What each stop says if the sources tell their bytes, and if they don't. A fault of the ruleset leaves the sources
-- unread and the outputs as they were.
abbrev pub StopOf : (text seed : List ℕ) → Settings → (tells : List Bool) → (befores lefts : List (List ℕ)) → (told : Sinks Bool) → (old new : Outputs) → Stop → Type 0
StopOf text seed settings tells befores lefts told old new (stop.Ruleset fault) = IsFaultOf text settings fault × (AllTold tells → lefts ≡ befores) × Untouched told old new
StopOf text seed settings tells befores lefts told old new s =
    UnderJob text seed settings (λ job. AllTold tells → Stopped (run_with job (run_settings settings)) settings.batch befores lefts told old new s)

-- ---- by what the devices show

-- if the sources tell their bytes, a run came to the end of its captures
abbrev pub Replays : {R S : Type 0} → (tells : R → Bool) → (unread : R → List ℕ) → (told : S → Bool) → (written : S → List ℕ)
    → RunJob → RunSettings → List R → (sinks sinks' : Sinks S) → Report → Type 0
Replays tells unread told written job settings sources sinks sinks' report =
    AllTold (map tells sources) → Replayed (run_with job settings) (map unread sources) (each_of told sinks) (each_of written sinks) (each_of written sinks') report

-- it stopped after its ruleset was read
abbrev pub Stops : {R S : Type 0} → (tells : R → Bool) → (unread : R → List ℕ) → (told : S → Bool) → (written : S → List ℕ)
    → RunJob → RunSettings → (sources sources' : List R) → (sinks sinks' : Sinks S) → Stop → Type 0
Stops tells unread told written job settings sources sources' sinks sinks' s =
    AllTold (map tells sources)
    → Stopped (run_with job settings) settings.batch (map unread sources) (map unread sources') (each_of told sinks) (each_of written sinks) (each_of written sinks') s

-- the same by the text of a ruleset, which means a ruleset then
abbrev pub ReplaysRun : {R S : Type 0} → (tells : R → Bool) → (unread : R → List ℕ) → (told : S → Bool) → (written : S → List ℕ)
    → (text seed : List ℕ) → Settings → List R → (sinks sinks' : Sinks S) → Report → Type 0
ReplaysRun tells unread told written text seed settings sources sinks sinks' report =
    UnderJob text seed settings (λ job. Replays tells unread told written job (run_settings settings) sources sinks sinks' report)

-- and a run by a text stopped
abbrev pub StopsRun : {R S : Type 0} → (tells : R → Bool) → (unread : R → List ℕ) → (told : S → Bool) → (written : S → List ℕ)
    → (text seed : List ℕ) → Settings → (sources sources' : List R) → (sinks sinks' : Sinks S) → Stop → Type 0
StopsRun tells unread told written text seed settings sources sources' sinks sinks' s =
    StopOf text seed settings (map tells sources) (map unread sources) (map unread sources') (each_of told sinks) (each_of written sinks) (each_of written sinks') s
