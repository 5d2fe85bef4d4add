-- How far a run has come, and how it stops.
use Rattle.std.proofs.Common.{◌≡◌, ℕ, ◌+◌, ◌≤◌, Bool, true, false, List, [], ◌++◌, length, map, take, Option, Some, None, Result, Ok, Err, IfErr, IfOk, OnOk, inl, inr, refl, sym, ◌∙◌, ap, subst, arith}
use Rattle.std.proofs.lemmas.List.{append_assoc, append-nil, length-append, map-append, take_at}
use Rattle.pfr_packet.specs.Job.{RunJob}
use Rattle.pfr_capture.specs.declared.capture.CaptureError.{CaptureError}
use Rattle.pfr_capture.specs.declared.capture.CaptureError.TheVariants as refusal
use Rattle.pfr_capture.specs.declared.capture.Record.{Record}
use Rattle.pfr_capture.specs.declared.capture.Tail.{Tail}
use Rattle.pfr_commit.specs.declared.book.Book.{Book}
use Rattle.pfr_commit.specs.Books.{StandsAt, job_of}
use Rattle.pfr_commit.specs.Emissions.{frame_of}
use Rattle.pfr_commit.specs.World.{Frame, Texts, World, no_texts, opening, world_after, world_of}
use Rattle.pfr_commit.specs.World.{joined as both}
use Rattle.pfr_commit.specs.World.{online as written}
use Rattle.pfr_commit.proofs.BookLemmas.{same_job}
use Rattle.pfr_commit.proofs.WorldLemmas.{world_append, world_count, world_none}
use Rattle.pfr_merge.specs.Arrivals.{Arrived}
use Rattle.pfr_merge.specs.MergeReading.{AllTold, AreOver, HasMerged, LacksRecordAt, MayFollowAll, StopsAt, Waiting, header_in, joined, merged_tail}
use Rattle.pfr_merge.specs.MergedCaptures.{TextsGive}
use Rattle.pfr_merge.specs.Opening.{OpeningFails, OpeningStops, ReadingFails}
use Rattle.pfr_merge.proofs.ListLemmas.{all_give, failed_give, follow_long, headers_are, too_long_give}
use Rattle.pfr_merge.proofs.MergeReadingLemmas.{joined_assoc}
use Rattle.pfr_feed.specs.declared.report.Output.{Output}
use Rattle.pfr_feed.specs.declared.report.Report.{Report}
use Rattle.pfr_feed.specs.declared.report.Stop.{Stop}
use Rattle.pfr_feed.specs.declared.report.Stop.TheVariants as stop
use Rattle.pfr_out.specs.declared.settings.Form.{Form as MessageForm}
use Rattle.pfr_out.specs.declared.settings.Settings.{Settings}
use Rattle.pfr_out.specs.declared.sinks.Sinks.{Sinks}
use Rattle.pfr_feed.specs.Captures.{BeginWith, CapturesGive, End, frame_in, headers_of}
use Rattle.pfr_out.specs.Outputs.{Extends, Grew, Outputs, PartWritten, headers_alone, texts_alone}
use Rattle.pfr_feed.specs.Reading.{AllGave, BatchFails, BatchSays, GaveRecords, wants_memory}
use Rattle.pfr_feed.specs.Stops.{stop_for}
use Rattle.pfr_out.specs.Replay.{Failing, Holds, HoldsAllRead, HoldsAll, IsBoundary, IsJob, OfEvery, Replayed, StopFails, StopOf, Stopped, StopsUntold, closing, online, run_settings, run_with, whole}
use Rattle.pfr_out.specs.Spelling.{Run}
use Rattle.pfr_out.specs.Taking.{Add, ConcludeFails, Concludes, EndStops, IsLate, IsPastHeader, Reaches, SinksFail, Standing, TakenAll, run_in}
use Rattle.pfr_feed.proofs.ReadingLemmas.{gave_nothing}
use Rattle.pfr_out.proofs.ReadingLemmas.{of_every}
use Rattle.pfr_out.proofs.WritingLemmas.{grew_twice, headers_are_online, online_behind, whole_is}

-- ---- worlds

run_append : (job : RunJob) (xs ys : List Frame) → world_of job (xs ++ ys) ≡ world_after job (world_of job xs) ys
unfolding world_of
run_append job xs ys = world_append job (opening job) xs ys

run_none : (job : RunJob) → world_of job [] ≡ opening job
unfolding world_of
run_none job = world_none job (opening job)

opening_written : (job : RunJob) → written job (opening job) ≡ no_texts
unfolding opening
opening_written job = refl

-- ---- a book's run

run_by : RunJob → MessageForm → Run
run_by job form = record { job = job; form = form }

-- a book of the same job, and messages of the same form
pub same_run : (book other : Book) (form other_form : MessageForm) → book.job ≡ other.job → form ≡ other_form → run_in book form ≡ run_in other other_form
unfolding run_by
same_run book other form other_form job_is form_is =
    ap (λ (j : RunJob). run_by j form) (same_job book other job_is) ∙ ap (λ (f : MessageForm). run_by (job_of other) f) form_is

-- ---- how far a run has come

-- The merge has given these packets, and others that wait after them. The first ones leave this world, and all that they write is written.
pub record SoFar (run : Run) (ws : List Waiting) (texts lefts : List (List ℕ)) (told : Sinks Bool) (old new : Outputs) (world : World) (frames ahead : List Frame) : Type 0 where
  pub reads : List (List ℕ)
  pub texts_are : texts ≡ joined reads lefts
  pub list : List Arrived
  pub has : HasMerged ws reads list
  pub list_is : map frame_in list ≡ frames ++ ahead
  pub follow : MayFollowAll ws lefts
  pub grew : Grew told old new (online (map header_in ws) run (world_of run.job frames))
  pub world_is : world ≡ world_of run.job frames

-- nothing was given yet, and the headers were written
pub at_start : (run : Run) (ws : List Waiting) (reads lefts : List (List ℕ)) (told : Sinks Bool) (old new : Outputs) → HasMerged ws reads [] → MayFollowAll ws lefts → Grew told old new (headers_alone (map header_in ws))
    → SoFar run ws (joined reads lefts) lefts told old new (opening run.job) [] []
at_start run ws reads lefts told old new has follow grew = record {
  reads = reads;
  texts_are = refl;
  list = [];
  has = has;
  list_is = refl;
  follow = follow;
  grew = headers_are_online told old new (map header_in ws) run (world_of run.job []) (ap (λ (w : World). written run.job w) (run_none run.job) ∙ opening_written run.job) grew;
  world_is = sym (run_none run.job);
}

-- ---- a batch

-- the packets that records are
abbrev pub frames_of : List Record → List Frame
frames_of records = map frame_of records

-- more records were given
pub batch_given : (run : Run) (ws ws' : List Waiting) (texts lefts lefts' : List (List ℕ)) (told : Sinks Bool) (old new : Outputs) (world : World) (frames ahead : List Frame) (records : List Record)
    → SoFar run ws texts lefts told old new world frames ahead → GaveRecords ws ws' lefts lefts' records → map header_in ws' ≡ map header_in ws
    → SoFar run ws' texts lefts' told old new world frames (ahead ++ frames_of records)
batch_given run ws ws' texts lefts lefts' told old new world frames ahead records s gave same = record {
  reads = joined s.reads gave.on.came;
  texts_are = s.texts_are ∙ ap (joined s.reads) gave.on.gave ∙ sym (joined_assoc s.reads gave.on.came lefts');
  list = s.list ++ gave.list;
  has = gave.on.on s.reads s.list s.has;
  list_is = map-append frame_in s.list gave.list ∙ ap (λ (fs : List Frame). fs ++ map frame_in gave.list) s.list_is ∙ ap (λ (fs : List Frame). (frames ++ ahead) ++ fs) (sym gave.records_are)
      ∙ append_assoc frames ahead (frames_of records);
  follow = gave.on.follow s.reads s.list s.has s.follow;
  grew = rw same s.grew;
  world_is = s.world_is;
}

-- what the next ones add is written
abbrev pub Took : Run → (told : Sinks Bool) → (mid new : Outputs) → World → List Record → Type 0
Took run told mid new world packets = Add run.job world (frames_of packets) (λ added. Grew told mid new (texts_alone run added))

-- what it writes
piece_is : (run : Run) (headers : List (List ℕ)) (frames : List Frame) (packets : List Record) (added : Texts)
    → written run.job (world_after run.job (world_of run.job frames) (frames_of packets)) ≡ both (written run.job (world_of run.job frames)) added
    → Extends (online headers run (world_of run.job frames)) (online headers run (world_of run.job (frames ++ frames_of packets))) (texts_alone run added)
piece_is run headers frames packets added is =
    online_behind headers run (world_of run.job frames) (world_of run.job (frames ++ frames_of packets)) added
    (ap (λ (w : World). written run.job w) (run_append run.job frames (frames_of packets)) ∙ is)

-- the batch was taken and written
pub batch_taken : (run : Run) (ws : List Waiting) (texts lefts : List (List ℕ)) (told : Sinks Bool) (old mid new : Outputs) (world : World) (frames ahead : List Frame) (packets : List Record)
    → SoFar run ws texts lefts told old mid world frames (frames_of packets ++ ahead) → Took run told mid new world packets
    → SoFar run ws texts lefts told old new (world_after run.job world (frames_of packets)) (frames ++ frames_of packets) ahead
batch_taken run ws texts lefts told old mid new world frames ahead packets s took =
    let add : Took run told mid new (world_of run.job frames) packets = subst (λ (w : World). Took run told mid new w packets) s.world_is took in
    record {
      reads = s.reads;
      texts_are = s.texts_are;
      list = s.list;
      has = s.has;
      list_is = s.list_is ∙ sym (append_assoc frames (frames_of packets) ahead);
      follow = s.follow;
      grew = grew_twice told old mid new (online (map header_in ws) run (world_of run.job frames)) (texts_alone run add.added)
          (online (map header_in ws) run (world_of run.job (frames ++ frames_of packets))) s.grew add.hold (piece_is run (map header_in ws) frames packets add.added add.is);
      world_is = ap (λ (w : World). world_after run.job w (frames_of packets)) s.world_is ∙ sym (run_append run.job frames (frames_of packets));
    }

-- ---- stops

front_is : (frames all : List Frame) (count : ℕ) → BeginWith frames all → length frames ≡ count → take count all ≡ frames
front_is frames all count begins counted = rw (← counted, begins.1) (take_at frames begins.0 (length frames) refl)

front_within : (frames all : List Frame) → BeginWith frames all → length frames ≤ length all
front_within frames all begins =
    let long = length-append frames begins.0 in
    rw begins.1 (omega (arith, long))

front_of_part : (xs ys all : List Frame) → BeginWith (xs ++ ys) all → BeginWith xs all
front_of_part xs ys all begins = (ys ++ begins.0, begins.1 ∙ append_assoc xs ys begins.0)

-- memory was refused, with whole batches written; more may have been read since
pub holds_so_far : (run : Run) (batch : ℕ) (ws : List Waiting) (texts lefts lefts' : List (List ℕ)) (told : Sinks Bool) (old new : Outputs) (world : World) (frames ahead : List Frame) (committed : ℕ) → SoFar run ws texts lefts told old new world frames ahead → AllGave lefts lefts'
    → IsBoundary batch (length frames) → length frames ≡ committed → OfEvery texts lefts' (λ headers all ending. Holds run batch told old new committed headers all)
holds_so_far run batch ws texts lefts lefts' told old new world frames ahead committed s gave boundary counted =
    of_every ws texts s.reads lefts lefts' s.list (λ headers all ending. Holds run batch told old new committed headers all) s.texts_are gave s.has s.follow (λ all ending begins.
    let first = front_of_part frames ahead all (rw s.list_is at begins) in
    let within = front_within frames all first in
    record {
      within = omega (arith, counted, within);
      boundary = rw (← counted) boundary;
      grew = rw (front_is frames all committed first counted) s.grew;
    })

-- the next batch was written in part
pub holds_part_of_batch : (run : Run) (batch : ℕ) (ws : List Waiting) (texts lefts lefts' : List (List ℕ)) (told : Sinks Bool) (old mid new : Outputs) (world : World) (frames ahead : List Frame) (packets : List Record) (output : Output) (committed : ℕ)
    → SoFar run ws texts lefts told old mid world frames (frames_of packets ++ ahead) → AllGave lefts lefts' → length (frames_of packets) ≤ batch → IsBoundary batch (length frames) → length frames ≡ committed
    → Add run.job world (frames_of packets) (λ added. PartWritten told mid new (texts_alone run added) output) → Failing run batch texts lefts' told old new output committed
holds_part_of_batch run batch ws texts lefts lefts' told old mid new world frames ahead packets output committed s gave few boundary counted part =
    let all_long = length-append frames (frames_of packets) in
    let add = subst (λ (w : World). Add run.job w (frames_of packets) (λ added. PartWritten told mid new (texts_alone run added) output)) s.world_is part in
    inl (of_every ws texts s.reads lefts lefts' s.list _ s.texts_are gave s.has s.follow (λ all ending begins.
    let first : BeginWith (frames ++ frames_of packets) all = front_of_part (frames ++ frames_of packets) ahead all (rw (s.list_is, ← append_assoc frames (frames_of packets) ahead) at begins) in
    let within = front_within (frames ++ frames_of packets) all first in
    inr (record {
      next = length (frames ++ frames_of packets);
      at_most = omega (arith, counted, all_long, few);
      within = within;
      boundary = rw (← counted) boundary;
      mid = mid;
      before = rw (front_is frames all committed (front_of_part frames (frames_of packets) all first) counted) s.grew;
      piece = add.added;
      piece_is = rw (front_is frames all committed (front_of_part frames (frames_of packets) all first) counted, front_is (frames ++ frames_of packets) all (length (frames ++ frames_of packets)) first refl)
          (piece_is run (map header_in ws) frames packets add.added add.is);
      part = add.hold;
    })))

-- as many packets as the world has taken
pub counted_by : (run : Run) (ws : List Waiting) (texts lefts : List (List ℕ)) (told : Sinks Bool) (old new : Outputs) (world : World) (frames ahead : List Frame) → SoFar run ws texts lefts told old new world frames ahead → length frames ≡ world.count
unfolding world_of opening
counted_by run ws texts lefts told old new world frames ahead s =
    let count : (world_of run.job frames).count ≡ 0 + length frames = world_count run.job (opening run.job) frames in
    let ours : world.count ≡ (world_of run.job frames).count = ap (λ (w : World). w.count) s.world_is in
    omega (arith, count, ours)

-- ---- the captures, once the reading has ended

module _ (run : Run) (ws : List Waiting) (texts lefts : List (List ℕ)) (told : Sinks Bool) (old new : Outputs) (world : World) (frames ahead : List Frame) (s : SoFar run ws texts lefts told old new world frames ahead) where
  gives_so : (ending : End) → TextsGive (joined s.reads lefts) s.list ending → CapturesGive texts (frames ++ ahead) ending
  gives_so ending give = record { list = s.list; give = rw s.texts_are give; frames_are = sym s.list_is }

  pub give_all : (tail : Tail) → AreOver ws → tail ≡ merged_tail ws → CapturesGive texts (frames ++ ahead) (Ok tail)
  give_all tail over is = gives_so (Ok tail) (rw is (all_give ws s.reads lefts s.list s.has s.follow over))

  pub give_too_long : (place asked : ℕ) → StopsAt ws (place, refusal.RecordTooLong asked) → CapturesGive texts (frames ++ ahead) (Err (place, refusal.RecordTooLong asked))
  give_too_long place asked stop = gives_so (Err (place, refusal.RecordTooLong asked)) (too_long_give ws s.reads lefts s.list place asked s.has s.follow stop)

  pub texts_headers : headers_of texts ≡ map header_in ws
  texts_headers = rw s.texts_are (headers_are 0 ws s.reads lefts s.has.taken s.has.each (follow_long ws lefts s.follow))

holds_all : (run : Run) (ws : List Waiting) (texts lefts : List (List ℕ)) (told : Sinks Bool) (old new : Outputs) (world : World) (frames : List Frame) (end : End) → SoFar run ws texts lefts told old new world frames [] → CapturesGive texts frames end
    → HoldsAll run texts told old new end world.count
holds_all run ws texts lefts told old new world frames end s is = record {
  frames = frames;
  captures = is;
  counted = counted_by run ws texts lefts told old new world frames [] s;
  grew = rw (texts_headers run ws texts lefts told old new world frames [] s) s.grew;
}

-- and they leave the world
pub all_leave : (run : Run) (ws : List Waiting) (texts lefts : List (List ℕ)) (told : Sinks Bool) (old new : Outputs) (world : World) (frames : List Frame) (end : End) → SoFar run ws texts lefts told old new world frames [] → CapturesGive texts frames end
    → (all : HoldsAll run texts told old new end world.count) × (world ≡ world_of run.job all.frames)
unfolding holds_all
all_leave run ws texts lefts told old new world frames end s is = (holds_all run ws texts lefts told old new world frames end s is, s.world_is)

-- all packets before a failed read were taken
pub holds_all_read : (run : Run) (ws : List Waiting) (texts lefts : List (List ℕ)) (told : Sinks Bool) (old new : Outputs) (world : World) (frames : List Frame) (place : ℕ) → SoFar run ws texts lefts told old new world frames []
    → StopsAt ws (place, refusal.Read) → LacksRecordAt ws (place, refusal.Read) → HoldsAllRead run texts lefts told old new place world.count
holds_all_read run ws texts lefts told old new world frames place s stop lacks =
    let list_is : map frame_in s.list ≡ frames = s.list_is ∙ append-nil frames in
    record {
      frames = frames;
      reads = s.reads;
      are = s.texts_are;
      captures = record { list = s.list; give = failed_give ws s.reads lefts s.list place s.has s.follow stop lacks; frames_are = sym list_is };
      first = of_every ws texts s.reads lefts lefts s.list (λ headers all ending. BeginWith frames all) s.texts_are (gave_nothing lefts) s.has s.follow (λ all ending begins. rw list_is at begins);
      counted = counted_by run ws texts lefts told old new world frames [] s;
      grew = rw (texts_headers run ws texts lefts told old new world frames [] s) s.grew;
    }

-- ---- the end of captures

-- the reading has ended so, and all packets before that are written
abbrev pub Ended : Run → ℕ → (texts lefts : List (List ℕ)) → (told : Sinks Bool) → (old new : Outputs) → World → End → Type 0
Ended run batch texts lefts told old new world (Ok tail) = (all : HoldsAll run texts told old new (Ok tail) world.count) × (world ≡ world_of run.job all.frames)
Ended run batch texts lefts told old new world (Err refused) = Stopped run batch texts lefts told old new (stop_for refused world.count)

-- and a book stands there
pub reaches : (run : Run) (batch : ℕ) (texts lefts : List (List ℕ)) (told : Sinks Bool) (old new : Outputs) (world : World) (book : Book) (end : End) → Ended run batch texts lefts told old new world end → StandsAt book world
    → Reaches run batch texts lefts told old new book end
reaches run batch texts lefts told old new world book (Ok tail) ended stands =
    let count : book.count ≡ world.count = ap (λ (w : World). w.count) stands.left in
    record {
      all = record { frames = ended.0.frames; captures = ended.0.captures; counted = ended.0.counted ∙ sym count; grew = ended.0.grew };
      stands = subst (λ (w : World). StandsAt book w) ended.1 stands;
    }
reaches run batch texts lefts told old new world book (Err refused) ended stands =
    let count : book.count ≡ world.count = ap (λ (w : World). w.count) stands.left in
    rw count ended

replayed : (run : Run) (texts : List (List ℕ)) (told : Sinks Bool) (old mid new : Outputs) (book : Book) (form : MessageForm) (tail : Tail) (report : Report) → run_in book form ≡ run → TakenAll run texts told old mid book tail
    → Standing book (λ world. Grew told mid new (closing (run_in book form) world)) → report.committed ≡ book.count → report.tail ≡ tail → Replayed run texts told old new report
replayed run texts told old mid new book form tail report run_is t grew committed ends =
    let all = t.all in
    let world = world_of run.job all.frames in
    record {
      frames = all.frames;
      captures = rw ends all.captures;
      counted = all.counted ∙ sym committed;
      grew = grew_twice told old mid new (online (headers_of texts) run world) (closing run world) (whole (headers_of texts) run world) all.grew
          (subst (λ (r : Run). Grew told mid new (closing r world)) run_is (grew world t.stands)) (whole_is (headers_of texts) run world);
    }

end_stopped : (run : Run) (batch : ℕ) (texts lefts : List (List ℕ)) (told : Sinks Bool) (old mid new : Outputs) (book : Book) (form : MessageForm) (tail : Tail) (s : Stop) → run_in book form ≡ run → TakenAll run texts told old mid book tail → EndStops book form told mid new s
    → Stopped run batch texts lefts told old new s
end_stopped run batch texts lefts told old mid new book form tail (stop.Memory committed) run_is t stops = rw (stops.0, stops.1) (inr (inr (inr (Ok tail, t.all))))
end_stopped run batch texts lefts told old mid new book form tail (stop.Write output committed) run_is t stops =
    rw stops.0 (inr (record {
      frames = t.all.frames;
      tail = tail;
      captures = t.all.captures;
      counted = t.all.counted;
      mid = mid;
      before = t.all.grew;
      part = subst (λ (r : Run). PartWritten told mid new (closing r (world_of run.job t.all.frames)) output) run_is (stops.1 (world_of run.job t.all.frames) t.stands);
    }))
end_stopped run batch texts lefts told old mid new book form tail (stop.Ruleset fault) run_is t stops = absurd stops
end_stopped run batch texts lefts told old mid new book form tail (stop.Capture place e committed) run_is t stops = absurd stops
end_stopped run batch texts lefts told old mid new book form tail (stop.Read place committed) run_is t stops = absurd stops

-- ---- the end of a run

pub concludes_for : (end : End) (book : Book) (form : MessageForm) (told told' : Sinks Bool) (old new : Outputs) (s : Stop) → told ≡ told' → Concludes end book form told old new s → Concludes end book form told' old new s
concludes_for end book form told told' old new s is concludes = subst (λ (t : Sinks Bool). Concludes end book form t old new s) is concludes

-- ---- before the loop

-- a capture was not opened
pub refused_opening : (run : Run) (batch : ℕ) (texts lefts : List (List ℕ)) (told : Sinks Bool) (old : Outputs) (place : ℕ) (e : CaptureError) → OpeningStops texts lefts (place, e) → Stopped run batch texts lefts told old old (stop_for (place, e) 0)
refused_opening run batch texts lefts told old place refusal.Read stops = inl (record { none = refl; early = stops; same = λ o t. refl })
refused_opening run batch texts lefts told old place refusal.Memory stops = inl (record { none = refl; same = λ o t. refl })
refused_opening run batch texts lefts told old place (refusal.RecordTooLong asked) stops = absurd stops
refused_opening run batch texts lefts told old place refusal.HeaderCut stops = (stops, refl, λ o t. refl)
refused_opening run batch texts lefts told old place refusal.BadMagic stops = (stops, refl, λ o t. refl)
refused_opening run batch texts lefts told old place refusal.BadVersion stops = (stops, refl, λ o t. refl)
refused_opening run batch texts lefts told old place (refusal.LinkType link) stops = (stops, refl, λ o t. refl)

-- the headers were not written whole
pub headers_stopped : (run : Run) (batch : ℕ) (ws : List Waiting) (reads lefts : List (List ℕ)) (told : Sinks Bool) (old new : Outputs) (output : Output) → HasMerged ws reads [] → MayFollowAll ws lefts → PartWritten told old new (headers_alone (map header_in ws)) output
    → Stopped run batch (joined reads lefts) lefts told old new (stop.Write output 0)
headers_stopped run batch ws reads lefts told old new output has follow part =
    inl (of_every ws (joined reads lefts) reads lefts lefts [] _ refl (gave_nothing lefts) has follow (λ all ending begins. inl (record { none = refl; part = part })))

-- ---- how a batch of records ends

pub says_on : (old new : List Waiting) (befores lefts : List (List ℕ)) (records : List Record) (end : Option End) → wants_memory end ≡ false → BatchSays old new befores lefts records end → GaveRecords old new befores lefts records
says_on old new befores lefts records None other says = says
says_on old new befores lefts records (Some (Ok tail)) other says = says.0
says_on old new befores lefts records (Some (Err (place, refusal.Read))) other says = says.0
says_on old new befores lefts records (Some (Err (place, refusal.Memory))) other says = absurd (cc other)
says_on old new befores lefts records (Some (Err (place, refusal.RecordTooLong asked))) other says = says.0
says_on old new befores lefts records (Some (Err (place, refusal.HeaderCut))) other says = absurd says
says_on old new befores lefts records (Some (Err (place, refusal.BadMagic))) other says = absurd says
says_on old new befores lefts records (Some (Err (place, refusal.BadVersion))) other says = absurd says
says_on old new befores lefts records (Some (Err (place, refusal.LinkType link))) other says = absurd says

pub wanted_gave : (old new : List Waiting) (befores lefts : List (List ℕ)) (records : List Record) (end : Option End) → wants_memory end ≡ true → BatchSays old new befores lefts records end → AllGave befores lefts
wanted_gave old new befores lefts records None wants says = absurd (cc wants)
wanted_gave old new befores lefts records (Some (Ok tail)) wants says = absurd (cc wants)
wanted_gave old new befores lefts records (Some (Err (place, refusal.Read))) wants says = absurd (cc wants)
wanted_gave old new befores lefts records (Some (Err (place, refusal.Memory))) wants says = says
wanted_gave old new befores lefts records (Some (Err (place, refusal.RecordTooLong asked))) wants says = absurd (cc wants)
wanted_gave old new befores lefts records (Some (Err (place, refusal.HeaderCut))) wants says = absurd says
wanted_gave old new befores lefts records (Some (Err (place, refusal.BadMagic))) wants says = absurd says
wanted_gave old new befores lefts records (Some (Err (place, refusal.BadVersion))) wants says = absurd says
wanted_gave old new befores lefts records (Some (Err (place, refusal.LinkType link))) wants says = absurd says

-- ---- failures

pub refusal_fails : (place : ℕ) (e : CaptureError) (committed : ℕ) (sources sources' : List ℕ) (sinks sinks' : Sinks ℕ) → ReadingFails sources sources' (place, e) → sinks' ≡ sinks → StopFails (stop_for (place, e) committed) sources sources' sinks sinks'
refusal_fails place refusal.Read committed sources sources' sinks sinks' fails same = (fails, same)
refusal_fails place refusal.Memory committed sources sources' sinks sinks' fails same = same
refusal_fails place (refusal.RecordTooLong asked) committed sources sources' sinks sinks' fails same = (fails, same)
refusal_fails place refusal.HeaderCut committed sources sources' sinks sinks' fails same = absurd fails
refusal_fails place refusal.BadMagic committed sources sources' sinks sinks' fails same = absurd fails
refusal_fails place refusal.BadVersion committed sources sources' sinks sinks' fails same = absurd fails
refusal_fails place (refusal.LinkType link) committed sources sources' sinks sinks' fails same = absurd fails

pub sinks_fail : (s : Stop) (sources sources' : List ℕ) (sinks sinks' : Sinks ℕ) → SinksFail s sinks sinks' → StopFails s sources sources' sinks sinks'
sinks_fail (stop.Write output committed) sources sources' sinks sinks' fails = fails
sinks_fail (stop.Memory committed) sources sources' sinks sinks' fails = fails
sinks_fail (stop.Ruleset fault) sources sources' sinks sinks' fails = absurd fails
sinks_fail (stop.Capture place e committed) sources sources' sinks sinks' fails = absurd fails
sinks_fail (stop.Read place committed) sources sources' sinks sinks' fails = absurd fails

-- the opening of captures
pub opening_fails : (place : ℕ) (e : CaptureError) (sources sources' : List ℕ) (sinks : Sinks ℕ) → OpeningFails sources sources' (place, e) → StopFails (stop_for (place, e) 0) sources sources' sinks sinks
opening_fails place refusal.Read sources sources' sinks fails = (fails, refl)
opening_fails place refusal.Memory sources sources' sinks fails = refl
opening_fails place (refusal.RecordTooLong asked) sources sources' sinks fails = absurd fails
opening_fails place refusal.HeaderCut sources sources' sinks fails = (fails, refl)
opening_fails place refusal.BadMagic sources sources' sinks fails = (fails, refl)
opening_fails place refusal.BadVersion sources sources' sinks fails = (fails, refl)
opening_fails place (refusal.LinkType link) sources sources' sinks fails = (fails, refl)

-- ---- under the text's rules

pub ok_and : {T E : Type 0} → (r : Result T E) (P Q : T → Type 0) (W : Type 0) → ((x : T) → P x → W → Q x) → IfOk r P → OnOk r W → IfOk r Q
ok_and (Ok x) P Q W f p w = f x p w
ok_and (Err e) P Q W f p w = tt

pub both_err : {T E : Type 0} → (r : Result T E) (P Q R : E → Type 0) → ((e : E) → P e → Q e → R e) → IfErr r P → IfErr r Q → IfErr r R
both_err (Ok x) P Q R f p q = tt
both_err (Err e) P Q R f p q = f e p q

pub under_job : (text seed : List ℕ) (settings : Settings) (job : RunJob) (tells : List Bool) (befores lefts : List (List ℕ)) (told : Sinks Bool) (old new : Outputs) (s : Stop) → IsJob text seed settings job → IsLate s
    → (AllTold tells → Stopped (run_with job (run_settings settings)) settings.batch befores lefts told old new s) → StopOf text seed settings tells befores lefts told old new s
under_job text seed settings job tells befores lefts told old new (stop.Ruleset fault) is late stopped = absurd late
under_job text seed settings job tells befores lefts told old new (stop.Capture place e committed) is late stopped = record { job = job; is = is; hold = stopped }
under_job text seed settings job tells befores lefts told old new (stop.Read place committed) is late stopped = record { job = job; is = is; hold = stopped }
under_job text seed settings job tells befores lefts told old new (stop.Write output committed) is late stopped = record { job = job; is = is; hold = stopped }
under_job text seed settings job tells befores lefts told old new (stop.Memory committed) is late stopped = record { job = job; is = is; hold = stopped }

pub stop_is_late : (place : ℕ) (e : CaptureError) (committed : ℕ) → IsLate (stop_for (place, e) committed)
stop_is_late place refusal.Read committed = tt
stop_is_late place refusal.Memory committed = tt
stop_is_late place (refusal.RecordTooLong asked) committed = tt
stop_is_late place refusal.HeaderCut committed = tt
stop_is_late place refusal.BadMagic committed = tt
stop_is_late place refusal.BadVersion committed = tt
stop_is_late place (refusal.LinkType link) committed = tt

pub sinks_stop_past : (s : Stop) (sinks sinks' : Sinks ℕ) → SinksFail s sinks sinks' → IsPastHeader s
sinks_stop_past (stop.Write output committed) sinks sinks' fails = tt
sinks_stop_past (stop.Memory committed) sinks sinks' fails = tt
sinks_stop_past (stop.Ruleset fault) sinks sinks' fails = absurd fails
sinks_stop_past (stop.Capture place e committed) sinks sinks' fails = absurd fails
sinks_stop_past (stop.Read place committed) sinks sinks' fails = tt

-- a refusal that comes with a batch isn't one of a header
refusal_is_past : (place : ℕ) (e : CaptureError) (committed : ℕ) (sources sources' : List ℕ) → ReadingFails sources sources' (place, e) → IsPastHeader (stop_for (place, e) committed)
refusal_is_past place refusal.Read committed sources sources' fails = tt
refusal_is_past place refusal.Memory committed sources sources' fails = tt
refusal_is_past place (refusal.RecordTooLong asked) committed sources sources' fails = tt
refusal_is_past place refusal.HeaderCut committed sources sources' fails = absurd fails
refusal_is_past place refusal.BadMagic committed sources sources' fails = absurd fails
refusal_is_past place refusal.BadVersion committed sources sources' fails = absurd fails
refusal_is_past place (refusal.LinkType link) committed sources sources' fails = absurd fails

-- a stop after the headers comes after the ruleset, and refuses no header
pub past_is_late : (s : Stop) → IsPastHeader s → IsLate s
past_is_late (stop.Ruleset fault) past = absurd past
past_is_late (stop.Capture place e committed) past = tt
past_is_late (stop.Read place committed) past = tt
past_is_late (stop.Write output committed) past = tt
past_is_late (stop.Memory committed) past = tt

pub past_untold : (s : Stop) (told : Sinks Bool) (old new : Outputs) → IsPastHeader s → StopsUntold s told old new
past_untold (stop.Ruleset fault) told old new past = tt
past_untold (stop.Capture place refusal.Read committed) told old new past = absurd past
past_untold (stop.Capture place refusal.Memory committed) told old new past = absurd past
past_untold (stop.Capture place (refusal.RecordTooLong asked) committed) told old new past = tt
past_untold (stop.Capture place refusal.HeaderCut committed) told old new past = absurd past
past_untold (stop.Capture place refusal.BadMagic committed) told old new past = absurd past
past_untold (stop.Capture place refusal.BadVersion committed) told old new past = absurd past
past_untold (stop.Capture place (refusal.LinkType link) committed) told old new past = absurd past
past_untold (stop.Read place committed) told old new past = tt
past_untold (stop.Write output committed) told old new past = tt
past_untold (stop.Memory committed) told old new past = tt

-- a refusal of a header comes before anything is written
pub opening_untold : (place : ℕ) (e : CaptureError) (told : Sinks Bool) (old : Outputs) → StopsUntold (stop_for (place, e) 0) told old old
opening_untold place refusal.Read told old = tt
opening_untold place refusal.Memory told old = tt
opening_untold place (refusal.RecordTooLong asked) told old = tt
opening_untold place refusal.HeaderCut told old = (refl, λ o t. refl)
opening_untold place refusal.BadMagic told old = (refl, λ o t. refl)
opening_untold place refusal.BadVersion told old = (refl, λ o t. refl)
opening_untold place (refusal.LinkType link) told old = (refl, λ o t. refl)

-- ---- the end of the reading

pub concluded : (run : Run) (batch : ℕ) (texts lefts : List (List ℕ)) (told : Sinks Bool) (old mid new : Outputs) (book : Book) (form : MessageForm) (end : End) (report : Report) → run_in book form ≡ run → Reaches run batch texts lefts told old mid book end
    → report.committed ≡ book.count → end ≡ Ok report.tail → Standing book (λ world. Grew told mid new (closing (run_in book form) world)) → Replayed run texts told old new report
concluded run batch texts lefts told old mid new book form (Ok tail) report run_is reaches committed ends closes =
    let is : tail ≡ report.tail = cc ends in
    replayed run texts told old mid new book form tail report run_is reaches closes committed (sym is)
concluded run batch texts lefts told old mid new book form (Err refused) report run_is reaches committed ends closes = absurd (cc ends)

pub concluded_stop : (run : Run) (batch : ℕ) (texts lefts : List (List ℕ)) (told : Sinks Bool) (old mid new : Outputs) (book : Book) (form : MessageForm) (end : End) (s : Stop) → run_in book form ≡ run → Reaches run batch texts lefts told old mid book end
    → Concludes end book form told mid new s → Stopped run batch texts lefts told old new s
concluded_stop run batch texts lefts told old mid new book form (Ok tail) s run_is reaches concludes = end_stopped run batch texts lefts told old mid new book form tail s run_is reaches concludes
concluded_stop run batch texts lefts told old mid new book form (Err refused) s run_is reaches concludes = rw (concludes.0, concludes.1) reaches

pub conclude_is_past : (end : End) (count : ℕ) (sources sources' : List ℕ) (sinks sinks' : Sinks ℕ) (s : Stop) → BatchFails (Some end) sources sources' → ConcludeFails end count sinks sinks' s → IsPastHeader s
conclude_is_past (Ok tail) count sources sources' sinks sinks' s batch fails = sinks_stop_past s sinks sinks' fails
conclude_is_past (Err (place, e)) count sources sources' sinks sinks' s batch fails = rw fails.0 (refusal_is_past place e count sources sources' batch)

pub conclude_fails : (end : End) (count : ℕ) (sources sources' : List ℕ) (sinks mid sinks' : Sinks ℕ) (s : Stop) → BatchFails (Some end) sources sources' → mid ≡ sinks → ConcludeFails end count mid sinks' s → StopFails s sources sources' sinks sinks'
conclude_fails (Ok tail) count sources sources' sinks mid sinks' s batch same fails = sinks_fail s sources sources' sinks sinks' (rw same at fails)
conclude_fails (Err (place, e)) count sources sources' sinks mid sinks' s batch same fails = rw fails.0 (refusal_fails place e count sources sources' sinks sinks' batch (fails.1 ∙ same))
