-- What packets do to the table makes the table that they leave.
use Rattle.std.proofs.Common.{◌≡◌, ◌∙◌, ℕ, List, [], ◌∷◌, Option, Some, None, fold, refl, sym, ap}
use Rattle.std.proofs.lemmas.Grind.{fold-append}
use Rattle.pfr_track.specs.declared.state.State.{State}
use Rattle.pfr_track.specs.declared.time.Clock.{Clock}
use Rattle.pfr_states.specs.declared.change.TableChange.{TableChange}
use Rattle.pfr_states.specs.Answers.{purged_at}
use Rattle.pfr_states.specs.States.{StateTable, all_due, due, empty, purged, stepped, table_of}
use Rattle.pfr_packet.specs.Job.{RunJob}
use Rattle.pfr_telling.specs.Telling.{changed}
use Rattle.pfr_commit.specs.Runs.{next_taken}
use Rattle.pfr_commit.specs.World.{Frame, World, after, changes_of, opening, apply_by, purge_by, with_outcome, world_after, world_of}

-- if nothing is due a purge leaves the states
abbrev pub NothingToPurge : Type 0
NothingToPurge = (states : List State) (clock : Clock) → due clock states ≡ None → (all_due clock states ≡ []) × (purged clock states ≡ states)

purge_made : NothingToPurge → (clock : Clock) (table : StateTable) (first : Option State) → due clock table.states ≡ first → fold stepped table (purge_by clock first) ≡ purged_at clock table
unfolding purged_at
purge_made nothing clock table None is = ap (λ (states : List State). record { states = states; limit = table.limit }) (sym (nothing table.states clock is).1)
purge_made nothing clock table (Some state) is = refl

apply_made : (table : StateTable) (change : Option TableChange) → fold stepped table (apply_by change) ≡ changed change table
apply_made table None = refl
apply_made table (Some change) = refl

packet_made : NothingToPurge → (clock : Clock) (change : Option TableChange) (table : StateTable) → fold stepped table (changes_of clock change table.states) ≡ changed change (purged_at clock table)
packet_made nothing clock change table =
    fold-append stepped table (purge_by clock (due clock table.states)) (apply_by change)
    ∙ ap (λ (t : StateTable). fold stepped t (apply_by change)) (purge_made nothing clock table (due clock table.states) refl)
    ∙ apply_made (purged_at clock table) change

next_made : NothingToPurge → (job : RunJob) (limit : ℕ) (world : World) (frame : Frame) → table_of limit world.changes ≡ world.table → table_of limit (after job world frame).changes ≡ (after job world frame).table
unfolding after with_outcome
next_made nothing job limit world frame is =
    let p = next_taken job world frame in
    fold-append stepped (empty limit) world.changes (changes_of p.clock p.outcome.change world.table.states)
    ∙ ap (λ (t : StateTable). fold stepped t (changes_of p.clock p.outcome.change world.table.states)) is
    ∙ packet_made nothing p.clock p.outcome.change world.table

all_made : NothingToPurge → (job : RunJob) (limit : ℕ) (frames : List Frame) (world : World) → table_of limit world.changes ≡ world.table → table_of limit (world_after job world frames).changes ≡ (world_after job world frames).table
unfolding world_after
all_made nothing job limit [] world is = is
all_made nothing job limit (frame ∷ frames) world is = all_made nothing job limit frames (after job world frame) (next_made nothing job limit world frame is)

pub run_made : NothingToPurge → (job : RunJob) (frames : List Frame) → table_of job.rules.options.state_limit (world_of job frames).changes ≡ (world_of job frames).table
unfolding world_of opening
run_made nothing job frames = all_made nothing job job.rules.options.state_limit frames (opening job) refl
