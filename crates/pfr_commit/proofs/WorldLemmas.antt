-- Worlds, and what comes before them.
use Rattle.std.proofs.Common.{◌≡◌, ◌<◌, max, ◌+◌, ◌-◌, ℕ, suc, List, [], ◌∷◌, ◌++◌, length, map, take, fold, get_or, refl, sym, ap, ◌∙◌, arith}
use Rattle.std.proofs.lemmas.Grind.{fold-append}
use Rattle.std.proofs.lemmas.List.{append_assoc, map-append, take-map}
use Rattle.std.proofs.Math.Seq.{take-suc}
use Rattle.pfr_headers.specs.declared.packet.View.{View}
use Rattle.pfr_headers.specs.View.{view_of}
use Rattle.pfr_track.specs.declared.time.Clock.{Clock}
use Rattle.pfr_states.specs.Answers.{purged_at}
use Rattle.pfr_states.specs.States.{StateTable}
use Rattle.pfr_packet.specs.declared.outcome.Outcome.{Outcome}
use Rattle.pfr_packet.specs.Job.{RunJob}
use Rattle.pfr_packet.specs.Steps.{step_of}
use Rattle.pfr_commit.specs.declared.counters.Counters.{Counters}
use Rattle.pfr_commit.specs.Counters.{counted}
use Rattle.pfr_commit.specs.Lines.{verdict_line}
use Rattle.pfr_telling.specs.Telling.{changed, events_of}
use Rattle.pfr_commit.specs.Books.{bare, untold}
use Rattle.pfr_commit.specs.Runs.{next_taken}
use Rattle.pfr_commit.specs.World.{ByPlace, Frame, World, after, changes_of, clock_at, each_joined, only_at, packet_text, with_outcome, with_packet, world_after}
use Rattle.pfr_commit.proofs.PlaceLemmas.{each_assoc}

-- an outcome taken over, from what its parts came to
pub outcome_taken : (job : RunJob) (world : World) (frame : Frame) (clock : Clock) (view : View) (outcome : Outcome) (purged table : StateTable) (counters : Counters) (verdicts : List ℕ) (packets : ByPlace)
    → view ≡ view_of frame.link frame.bytes → purged ≡ purged_at clock world.table → table ≡ changed outcome.change purged → counters ≡ counted view outcome world.counters
    → verdicts ≡ world.verdicts ++ verdict_line job.rules.interfaces (world.count + 1) clock frame.place outcome → packets ≡ with_packet frame outcome world.packets
    → record { count = world.count + 1; clock = clock; table = table; counters = counters; verdicts = verdicts; packets = packets; changes = []; events = [] } ≡ untold (with_outcome job world frame clock outcome)
unfolding with_outcome
outcome_taken job world frame clock view outcome purged table counters verdicts packets view_is purged_is table_is counters_is verdicts_is packets_is =
    rw (table_is, purged_is, counters_is, verdicts_is, packets_is, view_is) refl

-- the next packet, from its outcome
pub after_is : (job : RunJob) (world : World) (frame : Frame) (clock : Clock) (view : View) (outcome : Outcome)
    → clock.0 ≡ max world.clock.0 frame.seconds → view ≡ view_of frame.link frame.bytes → outcome ≡ step_of job (world.count + 1) clock frame.place view world.table
    → with_outcome job world frame clock outcome ≡ after job world frame
unfolding after
after_is job world frame clock view outcome clock_is view_is outcome_is =
    let now : clock ≡ clock_at world.clock frame = ap (λ (n : ℕ). record { 0 = n }) clock_is in
    rw (outcome_is, view_is, now) refl

-- a world, with what was written and told before it
abbrev pub behind : World → World → World
behind before world = record world { verdicts = before.verdicts ++ world.verdicts; packets = each_joined before.packets world.packets; changes = before.changes ++ world.changes; events = before.events ++ world.events }

after_behind : (job : RunJob) (before world : World) (frame : Frame) → after job (behind before world) frame ≡ behind before (after job world frame)
unfolding after with_outcome
after_behind job before world frame =
    let p = next_taken job world frame in
    rw (append_assoc before.verdicts world.verdicts (verdict_line job.rules.interfaces p.number p.clock frame.place p.outcome), each_assoc before.packets world.packets (only_at frame.place.0 (packet_text frame p.outcome)), append_assoc before.changes world.changes (changes_of p.clock p.outcome.change world.table.states), append_assoc before.events world.events (events_of p.clock p.outcome.change world.table.states)) refl

-- what packets add doesn't depend on what was written and told before
pub world_behind : (job : RunJob) (before : World) (frames : List Frame) (world : World) → world_after job (behind before world) frames ≡ behind before (world_after job world frames)
unfolding world_after
world_behind job before [] world = refl
world_behind job before (frame ∷ frames) world =
    ap (λ (w : World). fold (after job) w frames) (after_behind job before world frame) ∙ world_behind job before frames (after job world frame)

pub world_append : (job : RunJob) (world : World) (xs ys : List Frame) → world_after job world (xs ++ ys) ≡ world_after job (world_after job world xs) ys
unfolding world_after
world_append job world xs ys = fold-append (after job) world xs ys

pub world_one : (job : RunJob) (world : World) (frame : Frame) → world_after job world (frame ∷ []) ≡ after job world frame
unfolding world_after
world_one job world frame = refl

pub world_none : (job : RunJob) (world : World) → world_after job world [] ≡ world
unfolding world_after
world_none job world = refl

-- one packet more of a list
pub world_next : {X : Type 0} (job : RunJob) (world : World) (g : X → Frame) (xs : List X) (i : ℕ) (d : X) → i < length xs
    → world_after job world (map g (take (i + 1) xs)) ≡ after job (world_after job world (map g (take i xs))) (g (get_or xs i d))
world_next job world g xs i d below =
    let next : i + 1 ≡ suc i = omega arith in
    rw (next, take-suc xs i d below, map-append g (take i xs) (get_or xs i d ∷ []), world_append job world (map g (take i xs)) (g (get_or xs i d) ∷ [])) (world_one job (world_after job world (map g (take i xs))) (g (get_or xs i d)))

-- what a packet adds doesn't depend on what was told, or done to the table
after_untold : (job : RunJob) (world : World) (frame : Frame) → untold (after job (untold world) frame) ≡ untold (after job world frame)
unfolding after with_outcome
after_untold job world frame = refl

-- one packet more of a batch
pub batch_next : {X : Type 0} (job book_job : RunJob) (start now : World) (g : X → Frame) (xs : List X) (i : ℕ) (d p : X) → book_job ≡ job → now ≡ untold (world_after job start (map g (take i xs))) → p ≡ get_or xs i d → i < length xs
    → untold (after book_job now (g p)) ≡ untold (world_after job start (map g (take (i + 1) xs)))
batch_next {X = X} job book_job start now g xs i d p job_is now_is p_is below =
    ap (λ (w : World). untold (after book_job w (g p))) now_is
    ∙ after_untold book_job (world_after job start (map g (take i xs))) (g p)
    ∙ ap (λ (j : RunJob). untold (after j (world_after job start (map g (take i xs))) (g p))) job_is
    ∙ ap (λ (x : X). untold (after job (world_after job start (map g (take i xs))) (g x))) p_is
    ∙ ap untold (sym (world_next job start g xs i d below))

-- what packets leave doesn't depend on what was written or told, or done to the table
pub world_bare : (job : RunJob) (frames : List Frame) (world other : World) → bare world ≡ bare other → bare (world_after job world frames) ≡ bare (world_after job other frames)
unfolding world_after after with_outcome
world_bare job [] world other same = same
world_bare job (frame ∷ frames) world other same =
    world_bare job frames (after job world frame) (after job other frame) (ap (λ (w : World). bare (after job w frame)) same)

-- what a packet does to the table follows what was done to it, and doesn't depend on that
pub changes_behind : (job : RunJob) (world : World) (frame : Frame) → (after job world frame).changes ≡ world.changes ++ (after job (bare world) frame).changes
unfolding after with_outcome
changes_behind job world frame = refl

pub world_count : (job : RunJob) (world : World) (frames : List Frame) → (world_after job world frames).count ≡ world.count + length frames
unfolding world_after after with_outcome
world_count job world [] = (let same : world.count ≡ world.count + 0 = omega arith in same)
world_count job world (frame ∷ frames) =
    let step : world.count + 1 + length frames ≡ world.count + suc (length frames) = omega arith in
    world_count job (after job world frame) frames ∙ step

-- none of the packets was taken
pub nothing_taken : (job : RunJob) (world : World) (count : ℕ) (frames : List Frame) → world ≡ world_after job world (take (count - count) frames)
nothing_taken job world count frames =
    let none : count - count ≡ 0 = omega arith in
    rw none (sym (world_none job world))

-- the first `index` of them were taken
pub part_taken : {X : Type 0} (job : RunJob) (world : World) (g : X → Frame) (xs : List X) (start count index : ℕ) → count ≡ start + index
    → world_after job world (map g (take index xs)) ≡ world_after job world (take (count - start) (map g xs))
part_taken job world g xs start count index is =
    let taken : count - start ≡ index = omega arith in
    rw taken (ap (λ (frames : List Frame). world_after job world frames) (sym (take-map g index xs)))
