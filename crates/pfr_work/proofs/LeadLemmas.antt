-- Events that lead from one state of the speculative machine to another.
use Rattle.std.proofs.Common.{◌≡◌, List, [], ◌∷◌, ◌++◌, refl, subst}
use Rattle.pfr_packet.specs.Job.{RunJob}
use Rattle.pfr_commit.specs.Machine.{Event, Machine, Moves, RunsTo}
use Rattle.pfr_commit.specs.World.{Frame}

-- some list of events leads there
abbrev pub Leads : RunJob → List Frame → Machine → Machine → Type 0
Leads job packets old new = (events : List Event) × RunsTo job packets old events new

appended : (job : RunJob) (packets : List Frame) (old between new : Machine) (first second : List Event) → RunsTo job packets old first between → RunsTo job packets between second new → RunsTo job packets old (first ++ second) new
appended job packets old between new [] second one two = subst (λ (m : Machine). RunsTo job packets m second new) one two
appended job packets old between new (event ∷ first) second one two = (one.0, one.1, appended job packets one.0 between new first second one.2 two)

-- one list of events behind another
pub leads_on : (job : RunJob) (packets : List Frame) (old between new : Machine) → Leads job packets old between → Leads job packets between new → Leads job packets old new
leads_on job packets old between new one two = (one.0 ++ two.0, appended job packets old between new one.0 two.0 one.1 two.1)

-- one event
pub one_event : (job : RunJob) (packets : List Frame) (old : Machine) (event : Event) (new : Machine) → Moves job packets old event new → Leads job packets old new
one_event job packets old event new moves = (event ∷ [], (new, moves, refl))

-- to the same state by another name
pub leads_to : (job : RunJob) (packets : List Frame) (old new same : Machine) → new ≡ same → Leads job packets old new → Leads job packets old same
leads_to job packets old new same is leads = subst (λ (m : Machine). Leads job packets old m) is leads

-- none leads nowhere else
pub stays : (job : RunJob) (packets : List Frame) (old new : Machine) → new ≡ old → Leads job packets old new
stays job packets old new is = ([], is)
