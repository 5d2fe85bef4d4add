-- Words of the laws: what a rule that no packet could have asked is to a run.
use Rattle.std.specs.Prelude.{◌≡◌, ◌↔◌, ℕ, true, false, List, Some}
use Rattle.pfr_net.specs.declared.interface.InterfacePlace.{InterfacePlace}
use Rattle.pfr_ruleset.specs.declared.filter_rules.RuleLists.{RuleLists}
use Rattle.pfr_headers.specs.declared.packet.View.{View}
use Rattle.pfr_track.specs.declared.time.Clock.{Clock}
use Rattle.pfr_states.specs.States.{StateTable}
use Rattle.pfr_packet.specs.Job.{RunJob, name_in}
use Rattle.pfr_packet.specs.Steps.{step_of}
use Rattle.pfr_commit.specs.World.{Frame, opening, world_of}
use Rattle.pfr_asked.specs.Asking.{came, could_ask}
use Rattle.pfr_asked.specs.Runs.{AreOf, DifferAt, NoneAsks, seen_after}
use Rattle.pfr_asked.specs.Seen.{asks_in, none_seen}

-- if neither of two rules could have been asked, the run is the same with the one and with the other: each packet comes
-- to the same, and so do the counters and the states
abbrev pub UnaskedChangesNothing : Type 0
UnaskedChangesNothing =
    (place : ℕ) (job other : RunJob) (frames : List Frame)
    → DifferAt place job other
    → NoneAsks job job.rules.filter place (opening job) frames
    → NoneAsks job other.rules.filter place (opening job) frames
    → world_of other frames ≡ world_of job frames

-- a packet could have asked the rule that the filter decided by
abbrev pub DecidersAreAsked : Type 0
DecidersAreAsked =
    (job : RunJob) (number : ℕ) (clock : Clock) (interface : InterfacePlace) (view : View) (table : StateTable) (place : ℕ)
    → came (step_of job number clock interface view table) ≡ true
    → (step_of job number clock interface view table).rule ≡ Some (record { 0 = place })
    → could_ask job.rules.filter place (name_in job interface) (step_of job number clock interface view table) ≡ true

-- where packets came to the filter says exactly whether one of them could have asked a rule
abbrev pub SeenIsAsked : Type 0
SeenIsAsked =
    (job : RunJob) (lists : RuleLists) (place : ℕ) (frames : List Frame)
    → AreOf job.rules.interfaces frames
    → (asks_in lists place (seen_after job (opening job) (none_seen job.rules.interfaces) frames) ≡ false) ↔ NoneAsks job lists place (opening job) frames
