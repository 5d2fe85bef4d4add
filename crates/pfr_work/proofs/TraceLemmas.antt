-- What the calls of a run leave, and how far the table was published.
use Rattle.std.proofs.Common.{◌≡◌, ◌∙◌, ◌+◌, ℕ, true, false, List, [], ◌∷◌, ◌++◌, length, map, take, append_assoc, refl, sym, ap, arith}
use Rattle.std.proofs.lemmas.List.{append-nil, length-append, take-append-le, take_all}
use Rattle.std.proofs.lemmas.List.Concat.{flat_map-append}
use Rattle.pfr_capture.specs.declared.capture.Record.{Record}
use Rattle.pfr_packet.specs.Job.{RunJob}
use Rattle.pfr_commit.specs.Emissions.{frame_of}
use Rattle.pfr_commit.specs.World.{Frame, World, opening, world_after, world_of}
use Rattle.pfr_commit.proofs.WorldLemmas.{world_append, world_count, world_none}
use Rattle.pfr_feed.specs.Runs.{Call, Calls, Point, behind, first_point, given_in, taken_in}
use Rattle.pfr_feed.specs.Runs.Call.{ended, gave, rested, took}
use Rattle.pfr_feed.specs.Transitions.{Transitions}
use Rattle.pfr_work.specs.Traces.{packets_of}

opening_is : (job : RunJob) (count : ℕ) → (opening job).count + count ≡ count
unfolding opening
opening_is job count = omega arith

world_of_is : (job : RunJob) (frames : List Frame) → world_of job frames ≡ world_after job (opening job) frames
unfolding world_of
world_of_is job frames = refl

module _ {F : Type 0} (feeds : Transitions F) (job : RunJob) where
  -- the world is that of the batches that were taken, and those that were given are these and those that wait
  pub left : (calls : List Call) (old new : Point F) → Calls feeds job old calls new → (new.world ≡ world_after job old.world (packets_of (taken_in calls))) × (old.waiting ++ given_in calls ≡ taken_in calls ++ new.waiting)
  left [] old new is = (ap (λ (p : Point F). p.world) is ∙ sym (world_none job old.world), append-nil old.waiting ∙ sym (ap (λ (p : Point F). p.waiting) is))
  left (gave records ∷ calls) old new is =
      let rest = left calls (record { world = old.world; feed = is.0; waiting = old.waiting ++ records ∷ []; is_over = false }) new is.4 in
      (rest.0, sym (append_assoc old.waiting (records ∷ []) (given_in calls)) ∙ rest.1)
  left (ended ∷ calls) old new is = left calls (record { world = old.world; feed = is.0; waiting = old.waiting; is_over = true }) new is.3
  left (took records piece ∷ calls) old new is =
      let rest = left calls (record { world = behind job old.world records; feed = is.0; waiting = is.1; is_over = old.is_over }) new is.5 in (
        rest.0 ∙ sym (world_append job old.world (map frame_of records) (packets_of (taken_in calls))),
        ap (λ (waiting : List (List Record)). waiting ++ given_in calls) is.2 ∙ ap (λ (batches : List (List Record)). records ∷ batches) rest.1,
      )
  left (rested ∷ calls) old new is = left calls (record { world = old.world; feed = is.0; waiting = old.waiting; is_over = old.is_over }) new is.2

  -- it is that of the first packets, as many as it has counted
  pub world_is : (start : F) (calls : List Call) (at : Point F) → Calls feeds job (first_point job start) calls at → at.world ≡ world_of job (take at.world.count (packets_of (given_in calls)))
  world_is start calls at is =
      let it = left calls (first_point job start) at is in
      let frames = packets_of (taken_in calls) in
      let more = packets_of at.waiting in
      let all : packets_of (given_in calls) ≡ frames ++ more = ap packets_of it.1 ∙ flat_map-append (λ (records : List Record). map frame_of records) (taken_in calls) at.waiting in
      let count : at.world.count ≡ length frames = ap (λ (w : World). w.count) it.0 ∙ world_count job (opening job) frames ∙ opening_is job (length frames) in
      let first : take (length frames) (frames ++ more) ≡ frames = take-append-le (length frames) frames more (omega arith) ∙ take_all (length frames) frames (omega arith) in
      it.0 ∙ sym (world_of_is job frames) ∙ sym (ap (world_of job) first) ∙ sym (ap (λ (n : ℕ). world_of job (take n (frames ++ more))) count) ∙ sym (ap (λ (fs : List Frame). world_of job (take at.world.count fs)) all)

  -- no packet past those that were given is counted
  pub few_counted : (start : F) (calls : List Call) (at : Point F) → Calls feeds job (first_point job start) calls at → at.world.count + length (packets_of at.waiting) ≡ length (packets_of (given_in calls))
  few_counted start calls at is =
      let it = left calls (first_point job start) at is in
      let frames = packets_of (taken_in calls) in
      let more = packets_of at.waiting in
      let all : packets_of (given_in calls) ≡ frames ++ more = ap packets_of it.1 ∙ flat_map-append (λ (records : List Record). map frame_of records) (taken_in calls) at.waiting in
      let count : at.world.count ≡ length frames = ap (λ (w : World). w.count) it.0 ∙ world_count job (opening job) frames ∙ opening_is job (length frames) in
      let long : length (frames ++ more) ≡ length frames + length more = length-append frames more in
      let same = ap (λ (fs : List Frame). length fs) all in
      omega (arith, count, long, same)
