-- How far a run has come that reads and writes a batch at a time.
use Rattle.std.proofs.Common.{◌≡◌, ◌∙◌, ◌+◌, min, ℕ, Bool, false, true, List, [], ◌∷◌, ◌++◌, length, map, Option, Some, None, is_some, IfSome, ◌⊎◌, Ok, Err, inl, inr, refl, sym, ap, subst, arith}
use Rattle.std.specs.Option.{option_map}
use Rattle.std.proofs.Math.Nat.{min-eq_left, min-eq_right}
use Rattle.std.proofs.lemmas.List.{length-map}
use Rattle.pfr_net.specs.declared.address.Ipv4Address.{Ipv4Address}
use Rattle.pfr_packet.specs.Job.{RunJob}
use Rattle.pfr_capture.specs.declared.capture.CaptureError.TheVariants as refusal
use Rattle.pfr_capture.specs.declared.capture.Record.{Record}
use Rattle.pfr_merge.specs.MergeReading.{Waiting, joined}
use Rattle.pfr_commit.specs.declared.book.Book.{Book}
use Rattle.pfr_commit.specs.Books.{StandsAt}
use Rattle.pfr_commit.specs.Emissions.{frame_of}
use Rattle.pfr_commit.specs.World.{Texts, World, opening}
use Rattle.pfr_commit.proofs.WorldLemmas.{world_count}
use Rattle.pfr_feed.specs.Runs.{Call, Calls, Cut, IsPiece, Over, Point, Refused, Went, behind, first_point}
use Rattle.pfr_feed.specs.Runs.Call.{ended, gave, rested, took}
use Rattle.pfr_out.specs.declared.feeding.Cut.{Cut as Why}
use Rattle.pfr_out.specs.declared.feeding.Feeding.{Feeding}
use Rattle.pfr_feed.specs.declared.report.Stop.{Stop}
use Rattle.pfr_feed.specs.declared.report.Stop.TheVariants as stop
use Rattle.pfr_out.specs.declared.settings.Form.{Form}
use Rattle.pfr_out.specs.declared.sinks.Sinks.{Sinks}
use Rattle.pfr_out.specs.Feedings.{Behind, CutsOff, Ends, Fresh, Gives, Reads, Rests, Same, Takes, Writes, piece_alone, stop_by, stop_of, transitions_of}
use Rattle.pfr_out.specs.Outputs.{Grew, KeepsMessages, OutputTexts, PartWritten, RoseAt, Stay, each_of, texts_alone}
use Rattle.pfr_feed.specs.Captures.{End}
use Rattle.pfr_feed.specs.Reading.{AllGave, BatchFails, BatchSays, wants_memory}
use Rattle.pfr_out.specs.Replay.{StopFails, Stopped}
use Rattle.pfr_out.specs.Spelling.{Run, source_of}
use Rattle.pfr_out.specs.Taking.{Add, IsPastHeader, Reaches, SinksFail}
use Rattle.pfr_out.proofs.AheadLemmas.{Ahead, AreFull, IsHead, ahead_ended, ahead_first, ahead_gave, ahead_over, ahead_took, batch_cut, first_head, full_more, full_over, head_gave, head_took, memory_stopped, waits, waits_first, waits_more}
use Rattle.pfr_out.proofs.RunLemmas.{reaches}

-- ---- a feed

-- How far a feed has come since its start: the world after the batches that were taken, the batches that wait, and whether the reading
-- has ended.
pub record Progress {R S : Type 0} (tells : R → Bool) (unread : R → List ℕ) (failures : R → ℕ) (told : S → Bool) (written : S → List ℕ) (sink_failures : S → ℕ) (run : Run) (start feed : Feeding R S) (world : World) (waiting : List (List Record)) (is_over : Bool) : Type 0 where
  pub same : Same start feed
  pub source_told : map tells feed.sources.now ≡ map tells start.sources.now
  pub sinks_told : each_of told feed.sinks.now ≡ each_of told start.sinks.now
  pub stop : feed.cut ≡ start.cut
  pub committed : feed.committed ≡ world.count
  pub given : feed.given ≡ world.count + waits waiting
  pub full : AreFull start.most feed.end waiting
  pub head : IsHead start.most world.count waiting feed.end
  pub over : is_over ≡ true → feed.end ≡ None → ⊥
  pub failed : BatchFails feed.end (map failures start.sources.now) (map failures feed.sources.now)
  pub sinks_failed : Stay sink_failures start.sinks.now feed.sinks.now
  pub messages : KeepsMessages start.channel.now.form start.sinks.now feed.sinks.now
  pub far : Behind tells unread told written start feed (λ texts lefts told before behind. Ahead run feed.merge.now texts lefts told before behind world waiting feed.end)

same_twice : {R S : Type 0} (old mid new : Feeding R S) → Same old mid → Same mid new → Same old new
same_twice old mid new first second = record { form = second.form ∙ first.form; address = second.address ∙ first.address; most = second.most ∙ first.most }

-- what the sinks are told of a piece
piece_is : (run : Run) (form : Form) (address : Ipv4Address) (piece : Texts) → run.form ≡ form → source_of run.job ≡ address → texts_alone run piece ≡ piece_alone form address piece
piece_is run form address piece form_is address_is =
    ap (λ (f : Form). piece_alone f (source_of run.job) piece) form_is ∙ ap (λ (a : Ipv4Address). piece_alone form a piece) address_is

-- a batch adds as many packets as it has records
counted : (job : RunJob) (world : World) (records : List Record) → (behind job world records).count ≡ world.count + length records
counted job world records = world_count job world (map frame_of records) ∙ ap (λ (n : ℕ). world.count + n) (length-map records frame_of)

opening_count : (job : RunJob) → (opening job).count ≡ 0
unfolding opening
opening_count job = refl

none_failed : (end : Option End) (old new : List ℕ) → end ≡ None → BatchFails end old new → new ≡ old
none_failed end old new is fails = subst (λ (e : Option End). BatchFails e old new) is fails

-- nothing stands in an option
pub none_of : {X : Type 0} (o : Option X) → is_some o ≡ false → o ≡ None
none_of None is = refl
none_of (Some x) is = absurd (cc is)

pub some_weaker : {X : Type 0} (o : Option X) (P Q : X → Type 0) → ((x : X) → P x → Q x) → IfSome o P → IfSome o Q
some_weaker None P Q f h = tt
some_weaker (Some x) P Q f h = f x h

-- the reading ends
pub ended_empty : {R S : Type 0} (tells : R → Bool) (unread : R → List ℕ) (failures : R → ℕ) (old new : Feeding R S) → (new.end ≡ None → ⊥) → Reads tells unread failures old new [] → Ends tells unread failures old new
ended_empty tells unread failures old new some reads = by_end new.end refl
  where
    by_end : (o : Option End) → new.end ≡ o → Ends tells unread failures old new
    by_end None is = absurd (some is)
    by_end (Some end) is = inr (end, is, reads)

-- memory is wanted
pub not_none : (end : Option End) → wants_memory end ≡ true → end ≡ None → ⊥
not_none None wants is = cc wants
not_none (Some end) wants is = cc is

pub wanted_nothing : (old new : List Waiting) (befores lefts : List (List ℕ)) (end : Option End) → wants_memory end ≡ true → AllGave befores lefts → BatchSays old new befores lefts [] end
wanted_nothing old new befores lefts None wants came = absurd (cc wants)
wanted_nothing old new befores lefts (Some (Ok tail)) wants came = absurd (cc wants)
wanted_nothing old new befores lefts (Some (Err (place, refusal.Read))) wants came = absurd (cc wants)
wanted_nothing old new befores lefts (Some (Err (place, refusal.Memory))) wants came = came
wanted_nothing old new befores lefts (Some (Err (place, refusal.RecordTooLong asked))) wants came = absurd (cc wants)
wanted_nothing old new befores lefts (Some (Err (place, refusal.HeaderCut))) wants came = absurd (cc wants)
wanted_nothing old new befores lefts (Some (Err (place, refusal.BadMagic))) wants came = absurd (cc wants)
wanted_nothing old new befores lefts (Some (Err (place, refusal.BadVersion))) wants came = absurd (cc wants)
wanted_nothing old new befores lefts (Some (Err (place, refusal.LinkType link))) wants came = absurd (cc wants)

module _ {R S : Type 0} (tells : R → Bool) (unread : R → List ℕ) (failures : R → ℕ) (told : S → Bool) (written : S → List ℕ) (sink_failures : S → ℕ) (run : Run) (start : Feeding R S)
    (form_is : run.form ≡ start.channel.now.form) (address_is : source_of run.job ≡ start.address) where
  abbrev At : Feeding R S → World → List (List Record) → Bool → Type 0
  At feed world waiting is_over = Progress tells unread failures told written sink_failures run start feed world waiting is_over

  at_first : Fresh start → At start (opening run.job) [] false
  at_first fresh = record {
    same = record { form = refl; address = refl; most = refl };
    source_told = refl;
    sinks_told = refl;
    stop = refl;
    committed = fresh.committed ∙ sym (opening_count run.job);
    given = fresh.given ∙ (let none = opening_count run.job in omega arith);
    full = tt;
    head = rw (opening_count run.job) (first_head start.most start.end);
    over = λ is. absurd (cc is);
    failed = rw fresh.end refl;
    sinks_failed = refl;
    messages = λ none. refl;
    far = λ t reads before h may grew.
        rw fresh.end (ahead_first run start.merge.now reads (map unread start.sources.now) (each_of told start.sinks.now) before (each_of written start.sinks.now) h may grew);
  }

  -- what is known as long as the reading goes on
  going_far : (feed : Feeding R S) (world : World) (waiting : List (List Record)) (is_over : Bool) → At feed world waiting is_over → feed.end ≡ None
      → Behind tells unread told written start feed (λ texts lefts told before behind. Ahead run feed.merge.now texts lefts told before behind world waiting None)
  going_far feed world waiting is_over p going = λ tells_is reads old h may grew.
      subst (λ (e : Option End). Ahead run feed.merge.now (joined reads (map unread start.sources.now)) (map unread feed.sources.now) (each_of told start.sinks.now) old (each_of written feed.sinks.now) world waiting e) going (p.far tells_is reads old h may grew)

  -- a batch was given
  at_gave : (feed given : Feeding R S) (world : World) (waiting : List (List Record)) (is_over : Bool) (records : List Record) → At feed world waiting is_over → Gives tells unread failures feed records given → At given world (waiting ++ records ∷ []) false
  at_gave feed given world waiting is_over records p g =
      let r = g.reads in
      record {
        same = same_twice start feed given p.same r.same;
        source_told = r.told ∙ p.source_told;
        sinks_told = ap (each_of told) r.sinks ∙ p.sinks_told;
        stop = r.cut ∙ p.stop;
        committed = r.committed ∙ p.committed;
        given = r.given ∙ (let before = p.given in let more = waits_more waiting records in omega arith);
        full = full_more start.most given.end waiting records (rw r.going at p.full) (rw (← p.same.most) r.at_most) (λ e. r.full e ∙ p.same.most) g.wants;
        head = head_gave start.most world.count waiting (waiting ++ records ∷ []) given.end (rw r.going at p.head);
        over = λ is. absurd (cc is);
        failed = subst (λ (n : List ℕ). BatchFails given.end n (map failures given.sources.now)) (none_failed feed.end _ _ r.going p.failed) r.failed;
        sinks_failed = ap (each_of sink_failures) r.sinks ∙ p.sinks_failed;
        messages = λ none. ap (λ (s : Sinks S). s.messages) r.sinks ∙ p.messages none;
        far = λ tells_is reads old h may grew.
            rw r.sinks
            (ahead_gave run feed.merge.now given.merge.now (joined reads (map unread start.sources.now)) (map unread feed.sources.now) (map unread given.sources.now) (each_of told start.sinks.now) old (each_of written feed.sinks.now)
            world waiting records given.end (going_far feed world waiting is_over p r.going tells_is reads old h may grew) g.wants (r.says (rw p.source_told tells_is)) r.headers);
      }

  -- the reading ended
  at_ended : (feed new : Feeding R S) (world : World) (waiting : List (List Record)) (is_over : Bool) → At feed world waiting is_over → Ends tells unread failures feed new → At new world waiting true
  at_ended feed new world waiting is_over p (inl was) = rw was.2 (record {
    same = p.same;
    source_told = p.source_told;
    sinks_told = p.sinks_told;
    stop = p.stop;
    committed = p.committed;
    given = p.given;
    full = p.full;
    head = p.head;
    over = λ is none. cc (was.1, none);
    failed = p.failed;
    sinks_failed = p.sinks_failed;
    messages = p.messages;
    far = p.far;
  })
  at_ended feed new world waiting is_over p (inr ending) =
      let end = ending.0 in
      let r = ending.2 in
      record {
        same = same_twice start feed new p.same r.same;
        source_told = r.told ∙ p.source_told;
        sinks_told = ap (each_of told) r.sinks ∙ p.sinks_told;
        stop = r.cut ∙ p.stop;
        committed = r.committed ∙ p.committed;
        given = r.given ∙ (let before = p.given in omega arith);
        full = full_over start.most new.end waiting (rw r.going at p.full);
        head = head_gave start.most world.count waiting waiting new.end (rw r.going at p.head);
        over = λ is none. cc (ending.1, none);
        failed = subst (λ (n : List ℕ). BatchFails new.end n (map failures new.sources.now)) (none_failed feed.end _ _ r.going p.failed) r.failed;
        sinks_failed = ap (each_of sink_failures) r.sinks ∙ p.sinks_failed;
        messages = λ none. ap (λ (s : Sinks S). s.messages) r.sinks ∙ p.messages none;
        far = λ tells_is reads old h may grew.
            rw (ending.1, r.sinks)
            (ahead_ended run feed.merge.now new.merge.now (joined reads (map unread start.sources.now)) (map unread feed.sources.now) (map unread new.sources.now) (each_of told start.sinks.now) old (each_of written feed.sinks.now) world waiting end
            (going_far feed world waiting is_over p r.going tells_is reads old h may grew) (rw ending.1 at (r.says (rw p.source_told tells_is))) r.headers);
      }

  -- what a batch adds, of outputs that took its piece
  hold : (feed : Feeding R S) (world : World) (waiting : List (List Record)) (is_over : Bool) (records : List Record) (piece : Texts) → At feed world waiting is_over → IsPiece run.job world records piece
      → (P : (told : Sinks Bool) → (piece : OutputTexts) → Type 0) → P (each_of told feed.sinks.now) (piece_alone feed.channel.now.form feed.address piece)
      → Add run.job world (map frame_of records) (λ added. P (each_of told start.sinks.now) (texts_alone run added))
  hold feed world waiting is_over records piece p is P grew = record {
    added = piece;
    is = is;
    hold = subst (λ (tl : Sinks Bool). P tl (texts_alone run piece)) p.sinks_told
        (subst (λ (added : OutputTexts). P (each_of told feed.sinks.now) added)
        (sym (piece_is run feed.channel.now.form feed.address piece (form_is ∙ sym p.same.form) (address_is ∙ sym p.same.address))) grew);
  }

  -- how many records are committed then
  committed_next : (feed : Feeding R S) (world : World) (records : List Record) (later : List (List Record)) (is_over : Bool) → At feed world (records ∷ later) is_over → min (feed.committed + feed.most) feed.given ≡ world.count + length records
  committed_next feed world records later is_over p =
      let most = p.same.most in
      let committed = p.committed in
      let given = p.given in
      let first = waits_first records later in
      elim p.full.0 [
        | inl whole ↦ min-eq_left (omega (arith, whole)) ∙ omega (arith, whole)
        | inr short ↦
            (let none : waits later ≡ 0 = ap (λ (w : List (List Record)). waits w) short.0 in
            let few = short.1 in
            min-eq_right (omega arith) ∙ omega arith)
      ]

  -- the first batch that waits was taken
  at_took : (feed taken : Feeding R S) (world : World) (waiting later : List (List Record)) (is_over : Bool) (records : List Record) (piece : Texts) → At feed world waiting is_over → waiting ≡ records ∷ later → Takes told written sink_failures feed piece taken
      → IsPiece run.job world records piece → At taken (behind run.job world records) later is_over
  at_took feed taken world waiting later is_over records piece any waits_is t is =
      let p = subst (λ (w : List (List Record)). At feed world w is_over) waits_is any in
      let count = counted run.job world records in
      record {
        same = same_twice start feed taken p.same t.writes.same;
        source_told = ap (map tells) t.writes.sources ∙ p.source_told;
        sinks_told = t.writes.told ∙ p.sinks_told;
        stop = t.cut ∙ p.stop;
        committed = t.committed ∙ committed_next feed world records later is_over p ∙ sym count;
        given = t.writes.given ∙ (let before = p.given in let one = waits_first records later in omega arith);
        full = rw t.writes.end p.full.1;
        head = rw t.writes.end (head_took start.most world.count (behind run.job world records).count records later feed.end p.full p.head count);
        over = λ is none. p.over is (sym t.writes.end ∙ none);
        failed = rw (t.writes.end, t.writes.sources) p.failed;
        sinks_failed = t.failed ∙ p.sinks_failed;
        messages = λ none. t.writes.messages (p.same.form ∙ none) ∙ p.messages none;
        far = λ tells_is reads old h may grew.
            rw (t.writes.merge, t.writes.sources, t.writes.end)
            (ahead_took run feed.merge.now (joined reads (map unread start.sources.now)) (map unread feed.sources.now) (each_of told start.sinks.now) old (each_of written feed.sinks.now) (each_of written taken.sinks.now)
            world records later feed.end (p.far tells_is reads old h may grew) (hold feed world (records ∷ later) is_over records piece p is (λ tl added. Grew tl (each_of written feed.sinks.now) (each_of written taken.sinks.now) added) t.grew));
      }

  -- the packets were taken back
  at_rested : (feed new : Feeding R S) (world : World) (waiting : List (List Record)) (is_over : Bool) → At feed world waiting is_over → Rests feed new → At new world waiting is_over
  at_rested feed new world waiting is_over p r = record {
    same = same_twice start feed new p.same r.same;
    source_told = ap (map tells) r.sources ∙ p.source_told;
    sinks_told = ap (each_of told) r.sinks ∙ p.sinks_told;
    stop = r.cut ∙ p.stop;
    committed = r.committed ∙ p.committed;
    given = r.given ∙ p.given;
    full = rw r.end p.full;
    head = rw r.end p.head;
    over = λ is none. p.over is (sym r.end ∙ none);
    failed = rw (r.end, r.sources) p.failed;
    sinks_failed = ap (each_of sink_failures) r.sinks ∙ p.sinks_failed;
    messages = λ none. ap (λ (s : Sinks S). s.messages) r.sinks ∙ p.messages none;
    far = λ tells_is reads old h may grew. rw (r.merge, r.sources, r.sinks, r.end) (p.far tells_is reads old h may grew);
  }

  calls_on : (calls : List Call) (old new : Point (Feeding R S)) → Calls (transitions_of tells unread failures told written sink_failures) run.job old calls new
      → At old.feed old.world old.waiting old.is_over → At new.feed new.world new.waiting new.is_over
  calls_on [] old new went p = rw went p
  calls_on (gave records ∷ calls) old new went p =
      calls_on calls (record { world = old.world; feed = went.0; waiting = old.waiting ++ records ∷ []; is_over = false }) new went.4 (at_gave old.feed went.0 old.world old.waiting old.is_over records p went.3)
  calls_on (ended ∷ calls) old new went p =
      calls_on calls (record { world = old.world; feed = went.0; waiting = old.waiting; is_over = true }) new went.3 (at_ended old.feed went.0 old.world old.waiting old.is_over p went.2)
  calls_on (took records piece ∷ calls) old new went p =
      calls_on calls (record { world = behind run.job old.world records; feed = went.0; waiting = went.1; is_over = old.is_over }) new went.5
      (at_took old.feed went.0 old.world old.waiting went.1 old.is_over records piece p went.2 went.3 went.4)
  calls_on (rested ∷ calls) old new went p =
      calls_on calls (record { world = old.world; feed = went.0; waiting = old.waiting; is_over = old.is_over }) new went.2 (at_rested old.feed went.0 old.world old.waiting old.is_over p went.1)

  -- a stop, and what it says of the outputs and the devices
  pub record StopsAt (new : Feeding R S) (why : Stop) : Type 0 where
    pub stopped : Behind tells unread told written start new (λ texts lefts told before behind. Stopped run start.most texts lefts told before behind why)
    pub late : IsPastHeader why
    pub failed : StopFails why (map failures start.sources.now) (map failures new.sources.now) (each_of sink_failures start.sinks.now) (each_of sink_failures new.sinks.now)

  -- memory was refused
  wanted : (feed new : Feeding R S) (world : World) (waiting : List (List Record)) (is_over : Bool) (count : ℕ) → At feed world waiting is_over → count ≡ feed.committed → new.sources.now ≡ feed.sources.now → new.sinks.now ≡ feed.sinks.now → StopsAt new (stop.Memory count)
  wanted feed new world waiting is_over count p count_is source_is sinks_are = record {
    stopped = λ tells_is reads old h may grew.
        rw (count_is, source_is, sinks_are, p.committed)
        (memory_stopped run start.most feed.merge.now (joined reads (map unread start.sources.now)) (map unread feed.sources.now) (each_of told start.sinks.now) old (each_of written feed.sinks.now) world waiting feed.end (p.far tells_is reads old h may grew) p.head);
    late = tt;
    failed = ap (each_of sink_failures) sinks_are ∙ p.sinks_failed;
  }

  cut_by : (feed new : Feeding R S) (world : World) (records : List Record) (later : List (List Record)) (is_over : Bool) (piece : Texts) (why : Stop) → At feed world (records ∷ later) is_over → IsPiece run.job world records piece
      → Writes told feed new → CutsOff told written feed.committed feed.sinks.now new.sinks.now (piece_alone feed.channel.now.form feed.address piece) why
      → SinksFail why (each_of sink_failures feed.sinks.now) (each_of sink_failures new.sinks.now) → StopsAt new why
  cut_by feed new world records later is_over piece (stop.Memory count) p is writes off fails = wanted feed new world (records ∷ later) is_over count p off.0 writes.sources off.1
  cut_by feed new world records later is_over piece (stop.Write output count) p is writes off fails = record {
    stopped = λ tells_is reads old h may grew.
        rw (off.0, writes.sources, p.committed)
        (batch_cut run start.most feed.merge.now (joined reads (map unread start.sources.now)) (map unread feed.sources.now) (each_of told start.sinks.now) old (each_of written feed.sinks.now) (each_of written new.sinks.now)
        world records later feed.end output (p.far tells_is reads old h may grew) p.head p.full
        (hold feed world (records ∷ later) is_over records piece p is (λ tl added. PartWritten tl (each_of written feed.sinks.now) (each_of written new.sinks.now) added output) off.1));
    late = tt;
    failed = subst (λ (n : Sinks ℕ). RoseAt output n (each_of sink_failures new.sinks.now)) p.sinks_failed fails;
  }
  cut_by feed new world records later is_over piece (stop.Ruleset fault) p is writes off fails = absurd off
  cut_by feed new world records later is_over piece (stop.Capture place e count) p is writes off fails = absurd off
  cut_by feed new world records later is_over piece (stop.Read place count) p is writes off fails = absurd off

  -- ---- a run that began fresh

  abbrev pub WentOn : (List Call → Point (Feeding R S) → Type 0) → Type 0
  WentOn P = Went (transitions_of tells unread failures told written sink_failures) run.job start P

  went_on : (P : List Call → Point (Feeding R S) → Type 0) → Fresh start → (w : WentOn P) → At w.at.feed w.at.world w.at.waiting w.at.is_over
  went_on P fresh w = calls_on w.calls (first_point run.job start) w.at w.went (at_first fresh)

  -- the piece that was taken in part
  cut_at : (last : Book) (new : Feeding R S) (at : Point (Feeding R S)) → At at.feed at.world at.waiting at.is_over
      → (k : Cut (transitions_of tells unread failures told written sink_failures) run.job last new at) → StopsAt new k.cut.why
  cut_at last new at p k =
      cut_by at.feed new at.world k.records k.later at.is_over k.piece k.cut.why (subst (λ (w : List (List Record)). At at.feed at.world w at.is_over) k.waits p) k.piece_is k.cut.writes k.cut.off k.cut.failed

  -- the reading has ended, and all is taken
  pub record AtEnd (last : Book) (new : Feeding R S) : Type 0 where
    pub end : End
    pub end_is : new.end ≡ Some end
    pub reaches : Behind tells unread told written start new (λ texts lefts told before behind. Reaches run start.most texts lefts told before behind last end)
    pub failed : BatchFails (Some end) (map failures start.sources.now) (map failures new.sources.now)
    pub sinks_failed : Stay sink_failures start.sinks.now new.sinks.now

  at_end : (last : Book) (new : Feeding R S) (world : World) → StandsAt last world → At new world [] true → AtEnd last new
  at_end last new world stands p = by_end new.end refl
    where
      by_end : (o : Option End) → new.end ≡ o → AtEnd last new
      by_end None is = absurd (p.over refl is)
      by_end (Some end) is = record {
        end = end;
        end_is = is;
        reaches = λ tells_is reads old h may grew.
            reaches run start.most (joined reads (map unread start.sources.now)) (map unread new.sources.now) (each_of told start.sinks.now) old (each_of written new.sinks.now) world last end
            (ahead_over run start.most new.merge.now (joined reads (map unread start.sources.now)) (map unread new.sources.now) (each_of told start.sinks.now) old (each_of written new.sinks.now) world end
            (subst (λ (x : Option End). Ahead run new.merge.now (joined reads (map unread start.sources.now)) (map unread new.sources.now) (each_of told start.sinks.now) old (each_of written new.sinks.now) world [] x) is (p.far tells_is reads old h may grew))
            (subst (λ (x : Option End). IsHead start.most world.count [] x) is p.head))
            stands;
        failed = subst (λ (x : Option End). BatchFails x (map failures start.sources.now) (map failures new.sources.now)) is p.failed;
        sinks_failed = p.sinks_failed;
      }

  over_at : (last : Book) (new : Feeding R S) (at : Point (Feeding R S)) → At at.feed at.world at.waiting at.is_over → Over last new at → At new at.world [] true
  over_at last new at p o =
      rw o.feed_is (subst (λ (b : Bool). At at.feed at.world [] b) o.is_over (subst (λ (w : List (List Record)). At at.feed at.world w at.is_over) o.none_waits p))

  pub ends_well : (last : Book) (new : Feeding R S) → Fresh start → WentOn (λ calls at. Over last new at ⊎ Cut (transitions_of tells unread failures told written sink_failures) run.job last new at) → new.cut ≡ None → AtEnd last new
  ends_well last new fresh w none =
      let p = went_on _ fresh w in
      elim w.then [
        | inl o ↦ at_end last new w.at.world o.stands (over_at last new w.at p o)
        | inr k ↦ absurd (cc (sym (ap (λ (o : Option Why). option_map (stop_by new.committed) o) none) ∙ k.cut.stop))
      ]

  -- a piece was cut
  pub stops : (last : Book) (new : Feeding R S) → Fresh start → WentOn (λ calls at. Over last new at ⊎ Cut (transitions_of tells unread failures told written sink_failures) run.job last new at) → IfSome (stop_of new) (λ why. StopsAt new why)
  stops last new fresh w =
      let p = went_on _ fresh w in
      elim w.then [
        | inl o ↦ subst (λ (c : Option Why). IfSome (option_map (stop_by new.committed) c) (λ why. StopsAt new why)) (sym ((over_at last new w.at p o).stop ∙ fresh.cut)) tt
        | inr k ↦ subst (λ (o : Option Stop). IfSome o (λ why. StopsAt new why)) (sym k.cut.stop) (cut_at last new w.at p k)
      ]

  -- memory was refused
  pub stops_refused : (last : Book) (new : Feeding R S) → Fresh start → WentOn (λ calls at. Refused last new at) → StopsAt new (stop.Memory new.committed)
  stops_refused last new fresh w =
      let p = went_on _ fresh w in
      wanted w.at.feed new w.at.world w.at.waiting w.at.is_over new.committed p (ap (λ (f : Feeding R S). f.committed) w.then.feed_is) (ap (λ (f : Feeding R S). f.sources.now) w.then.feed_is) (ap (λ (f : Feeding R S). f.sinks.now) w.then.feed_is)

  -- a stop, of the same devices
  pub at_moved : (old new : Feeding R S) (why : Stop) → new.sources.now ≡ old.sources.now → new.sinks.now ≡ old.sinks.now → StopsAt old why → StopsAt new why
  at_moved old new why source_is sinks_are at_old = record {
    stopped = λ tells_is reads before h may grew. rw (source_is, sinks_are) (at_old.stopped tells_is reads before h may grew);
    late = at_old.late;
    failed = rw (source_is, sinks_are) at_old.failed;
  }

  -- what no call changes
  pub record Kept (new : Feeding R S) : Type 0 where
    pub form : new.channel.now.form ≡ start.channel.now.form
    pub source_told : map tells new.sources.now ≡ map tells start.sources.now
    pub sinks_told : each_of told new.sinks.now ≡ each_of told start.sinks.now
    pub messages : KeepsMessages start.channel.now.form start.sinks.now new.sinks.now

  kept_at : (new : Feeding R S) (world : World) (waiting : List (List Record)) (is_over : Bool) → At new world waiting is_over → Kept new
  kept_at new world waiting is_over p = record { form = p.same.form; source_told = p.source_told; sinks_told = p.sinks_told; messages = p.messages }

  kept_written : (feed new : Feeding R S) → Writes told feed new → Kept feed → Kept new
  kept_written feed new writes k = record {
    form = writes.same.form ∙ k.form;
    source_told = ap (map tells) writes.sources ∙ k.source_told;
    sinks_told = writes.told ∙ k.sinks_told;
    messages = λ none. writes.messages (k.form ∙ none) ∙ k.messages none;
  }

  pub kept_ok : (last : Book) (new : Feeding R S) → Fresh start → WentOn (λ calls at. Over last new at ⊎ Cut (transitions_of tells unread failures told written sink_failures) run.job last new at) → Kept new
  kept_ok last new fresh w =
      let p = went_on _ fresh w in
      elim w.then [
        | inl o ↦ kept_at new w.at.world [] true (over_at last new w.at p o)
        | inr k ↦ kept_written w.at.feed new k.cut.writes (kept_at w.at.feed w.at.world w.at.waiting w.at.is_over p)
      ]

  pub kept_err : (last : Book) (new : Feeding R S) → Fresh start → WentOn (λ calls at. Refused last new at) → Kept new
  kept_err last new fresh w =
      let p = went_on _ fresh w in
      subst (λ (f : Feeding R S). Kept f) (sym w.then.feed_is) (kept_at w.at.feed w.at.world w.at.waiting w.at.is_over p)
