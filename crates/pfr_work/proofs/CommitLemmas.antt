-- Packets of open batches are committed, each with its evaluation here.
use Rattle.std.proofs.Common.{◌≡◌, ◌≤◌, ◌<◌, ◌+◌, ℕ, suc, zero, List, [], ◌∷◌, ◌++◌, length, map, take, Some, None, refl, sym, ap, ◌∙◌, arith, add-one}
use Rattle.std.specs.List.{range_with_len, slice_get}
use Rattle.std.proofs.Math.Nat.{add-zero}
use Rattle.std.proofs.Math.Seq.{take-suc}
use Rattle.std.proofs.lemmas.Option.{get_or_from_slice_get, slice_get_within}
use Rattle.pfr_headers.specs.View.{view_of}
use Rattle.pfr_states.specs.States.{StateTable}
use Rattle.pfr_packet.specs.Job.{RunJob}
use Rattle.pfr_packet.specs.Steps.{step_of}
use Rattle.pfr_messages.specs.Messages.{Content}
use Rattle.pfr_sync.specs.Messages.{closed_at}
use Rattle.pfr_commit.specs.Lines.{verdict_line}
use Rattle.pfr_commit.specs.Machine.{Commits, Machine}
use Rattle.pfr_commit.specs.Machine.Event.{commit}
use Rattle.pfr_commit.specs.World.{Frame, Texts, World, after, clock_at, joined, online, only_at, opening, origin_of, packet_text, with_outcome, world_of}
use Rattle.pfr_commit.proofs.OnlineLemmas.{online_grows}
use Rattle.pfr_commit.proofs.StandLemmas.{texts_are}
use Rattle.pfr_commit.proofs.WorldLemmas.{world_append, world_one}
use Rattle.pfr_work.specs.Ends.{tables_of}
use Rattle.pfr_work.proofs.LeadLemmas.{Leads, leads_on, leads_to, one_event, stays}

-- ---- lists

-- there is an element at each place
element_at : {X : Type 0} (xs : List X) (place : ℕ) → place < length xs → (x : X) × (slice_get xs place ≡ Some x)
element_at [] place below = absurd (omega (arith, below))
element_at (x ∷ xs) zero below = (x, refl)
element_at (x ∷ xs) (suc place) below = element_at xs place (omega (arith, below))

-- one number more
one_number_more : {X : Type 0} (f : ℕ → X) (first count : ℕ) → map f (range_with_len first (suc count)) ≡ map f (range_with_len first count) ++ f (first + count) ∷ []
one_number_more {X = X} f first zero = ap (λ (n : ℕ). f n ∷ []) (sym (add-zero first))
one_number_more {X = X} f first (suc count) =
    let same : first + 1 + count ≡ first + suc count = omega arith in
    ap (λ (xs : List X). f first ∷ xs) (one_number_more f (first + 1) count ∙ ap (λ (n : ℕ). map f (range_with_len (first + 1) count) ++ f n ∷ []) same)

-- ---- one packet more

taken_next : (packets : List Frame) (count : ℕ) (frame : Frame) → slice_get packets count ≡ Some frame → take (count + 1) packets ≡ take count packets ++ frame ∷ []
taken_next packets count frame is =
    rw add-one
    (take-suc packets count frame (slice_get_within packets count frame is) ∙ ap (λ (f : Frame). take count packets ++ f ∷ []) (get_or_from_slice_get packets count frame frame is))

world_on : (job : RunJob) (frames : List Frame) (frame : Frame) → world_of job (frames ++ frame ∷ []) ≡ after job (world_of job frames) frame
unfolding world_of
world_on job frames frame = world_append job (opening job) frames (frame ∷ []) ∙ world_one job (world_of job frames) frame

world_next : (job : RunJob) (packets : List Frame) (count : ℕ) (frame : Frame) → slice_get packets count ≡ Some frame → world_of job (take (count + 1) packets) ≡ after job (world_of job (take count packets)) frame
world_next job packets count frame is = ap (λ (frames : List Frame). world_of job frames) (taken_next packets count frame is) ∙ world_on job (take count packets) frame

tables_next : (job : RunJob) (packets : List Frame) (count : ℕ) → tables_of job packets (count + 1) ≡ tables_of job packets count ++ (world_of job (take (count + 1) packets)).table ∷ []
tables_next job packets count =
    let table : ℕ → StateTable = λ k. (world_of job (take k packets)).table in
    let more : count + 1 + 1 ≡ suc (count + 1) = omega arith in
    let number : 0 + (count + 1) ≡ count + 1 = omega arith in
    ap (λ (n : ℕ). map table (range_with_len 0 n)) more
    ∙ one_number_more table 0 (count + 1)
    ∙ ap (λ (n : ℕ). tables_of job packets count ++ table n ∷ []) number

-- what a packet adds to what is written: its line, its record, and these messages
abbrev added_by : RunJob → World → Frame → List Content → Texts
added_by job world frame messages =
    let clock = clock_at world.clock frame in
    let outcome = step_of job (world.count + 1) clock frame.place (view_of frame.link frame.bytes) world.table in
    record {
      verdicts = verdict_line job.rules.interfaces (world.count + 1) clock frame.place outcome;
      packets = only_at frame.place.0 (packet_text frame outcome);
      messages = messages;
    }

-- that is what a packet adds
abbrev Adds : RunJob → World → Frame → List Content → Type 0
Adds job world frame messages = online job (after job world frame) ≡ joined (online job world) (added_by job world frame messages)

-- there are such messages
messages_next : (job : RunJob) (frames : List Frame) (frame : Frame) → (messages : List Content) × Adds job (world_of job frames) frame messages
unfolding after with_outcome
messages_next job frames frame =
    let world = world_of job frames in
    let grows = online_grows job frames (frame ∷ []) in (
      grows.0.messages,
      texts_are (online job (after job world frame)) (joined (online job world) (added_by job world frame grows.0.messages)) refl refl
          (ap (λ (t : Texts). t.messages) (ap (online job) (sym (world_on job frames frame)) ∙ grows.1)),
    )

-- ---- commits

-- the first packets are committed
abbrev pub committed_at : RunJob → List Frame → Machine → ℕ → Machine
committed_at job packets machine count =
    let world = world_of job (take count packets) in
    record machine { committed = count; tables = tables_of job packets count; world = world; emitted = online job world }

messages_are : (job : RunJob) (world : World) (frame : Frame) (messages : List Content) → Adds job world frame messages
    → closed_at (origin_of job) (clock_at world.clock frame) (after job world frame).events ≡ closed_at (origin_of job) world.clock world.events ++ messages
unfolding after with_outcome
messages_are job world frame messages is = ap (λ (t : Texts). t.messages) is

-- the state after the next commit
next_is : (job : RunJob) (packets : List Frame) (machine : Machine) (count : ℕ) (frame : Frame) → slice_get packets count ≡ Some frame → (messages : List Content)
    → Adds job (world_of job (take count packets)) frame messages
    → committed_at job packets machine (count + 1) ≡ record machine {
      committed = count + 1;
      tables = tables_of job packets count ++ (after job (world_of job (take count packets)) frame).table ∷ [];
      world = after job (world_of job (take count packets)) frame;
      emitted = joined (online job (world_of job (take count packets))) (added_by job (world_of job (take count packets)) frame messages);
    }
next_is job packets machine count frame is messages adds =
    let by : List StateTable → World → Texts → Machine = λ tables world emitted. record machine { committed = count + 1; tables = tables; world = world; emitted = emitted } in
    let old = world_of job (take count packets) in
    let new = world_of job (take (count + 1) packets) in
    ap (λ (tables : List StateTable). by tables new (online job new)) (tables_next job packets count)
    ∙ ap (λ (world : World). by (tables_of job packets count ++ world.table ∷ []) world (online job world)) (world_next job packets count frame is)
    ∙ ap (by (tables_of job packets count ++ (after job old frame).table ∷ []) (after job old frame)) adds

commits : (job : RunJob) (packets : List Frame) (machine : Machine) (count : ℕ) → count < machine.opened → machine.opened ≤ length packets → Commits job packets (committed_at job packets machine count) None (committed_at job packets machine (count + 1))
unfolding after
commits job packets machine count below within =
    let found = element_at packets count (omega (arith, below, within)) in
    let frame = found.0 in
    let world = world_of job (take count packets) in
    let clock = clock_at world.clock frame in
    let adds = messages_next job (take count packets) frame in
    record {
      is_open = below;
      frame = frame;
      frame_is = found.1;
      clock = clock;
      clock_is = refl;
      outcome = step_of job (world.count + 1) clock frame.place (view_of frame.link frame.bytes) world.table;
      takes = refl;
      added = added_by job world frame adds.0;
      emits = record { verdicts_are = refl; packets_are = refl; messages_are = messages_are job world frame adds.0 adds.1 };
      new_is = next_is job packets machine count frame found.1 adds.0 adds.1;
    }

-- packets are committed up to a later count
pub commits_lead : (job : RunJob) (packets : List Frame) (machine : Machine) (count more : ℕ) → count + more ≤ machine.opened → machine.opened ≤ length packets
    → Leads job packets (committed_at job packets machine count) (committed_at job packets machine (count + more))
commits_lead job packets machine count zero below within =
    stays job packets (committed_at job packets machine count) (committed_at job packets machine (count + 0)) (ap (committed_at job packets machine) (add-zero count))
commits_lead job packets machine count (suc more) below within =
    let at : ℕ → Machine = committed_at job packets machine in
    let next : count + more + 1 ≡ count + suc more = omega arith in
    leads_to job packets (at count) (at (count + more + 1)) (at (count + suc more)) (ap at next)
    (leads_on job packets (at count) (at (count + more)) (at (count + more + 1))
    (commits_lead job packets machine count more (omega (arith, below)) within)
    (one_event job packets (at (count + more)) (commit None) (at (count + more + 1)) (commits job packets machine (count + more) (omega (arith, below)) within)))
