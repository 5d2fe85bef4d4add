-- A speculation and a packet.
use Rattle.std.specs.Prelude.{◌≡◌, ℕ}
use Rattle.std.specs.Arc.{arc_value}
use Rattle.pfr_net.specs.declared.interface.InterfacePlace.{InterfacePlace}
use Rattle.pfr_headers.specs.declared.packet.View.{View}
use Rattle.pfr_track.specs.declared.time.Clock.{Clock}
use Rattle.pfr_states.specs.Answers.{purged_at}
use Rattle.pfr_states.specs.States.{StateTable}
use Rattle.pfr_packet.specs.Job.{RunJob}
use Rattle.pfr_record.specs.declared.speculation.Speculation.{Speculation}
use Rattle.pfr_record.specs.Record.{Agrees}

-- the speculation is of this packet of this job, and its record holds in the table
pub record Fits (speculation : Speculation) (job : RunJob) (number : ℕ) (clock : Clock) (place : InterfacePlace) (view : View) (table : StateTable) : Type 0 where
  pub job_is : arc_value speculation.job ≡ job
  pub number_is : speculation.number ≡ number
  pub clock_is : speculation.clock ≡ clock
  pub place_is : speculation.place ≡ place
  pub view_is : speculation.view ≡ view
  pub agrees : Agrees (purged_at clock table) speculation.answers
