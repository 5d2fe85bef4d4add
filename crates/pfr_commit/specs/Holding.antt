-- What a standby holds after a run.
use Rattle.std.specs.Prelude.{◌≡◌, List, ◌++◌, Ok}
use Rattle.pfr_messages.specs.Messages.{Content}
use Rattle.pfr_packet.specs.Job.{RunJob}
use Rattle.pfr_standby.specs.Standby.{standby_of}
use Rattle.pfr_telling.specs.Holding.{standing_of}
use Rattle.pfr_commit.specs.World.{Frame, World, last_message, online, world_of}

-- the messages of a run that ends here: those that were written, and the last one
abbrev pub all_messages : RunJob → World → List Content
all_messages job world = (online job world).messages ++ last_message job world

-- A standby that takes the messages of a run refuses none. It holds just the states that are left, except those of rules with `no-sync`.
abbrev pub AStandbyHoldsEachState : Type 0
AStandbyHoldsEachState =
    (job : RunJob) (frames : List Frame)
    → standby_of (all_messages job (world_of job frames)) ≡ Ok (standing_of (world_of job frames).table.states)
