-- The job of a run, as the words of the command line ask for it.
use Rattle.std.specs.Prelude.{◌≡◌, ℕ, List}
use Rattle.pfr_packet.specs.Job.{RunJob}
use Rattle.pfr_values.specs.declared.ways.Ways.{Ways}
use Rattle.pfr_prepare.specs.declared.preparing.Request.{Request}

-- a job with what the words say of the ways that packets go, and of where they were captured
abbrev pub with_ways : Ways → RunJob → RunJob
with_ways ways job = record job { tap = ways.tap; excepted = ways.inside.excepted; link_addresses = ways.link_addresses }

-- all that a job says is what the words ask for, but for the text of the ruleset
pub record IsAsked (rules : Request) (ways : Ways) (seed : List ℕ) (job : RunJob) : Type 0 where
  pub interfaces_are : job.interfaces ≡ rules.interfaces
  pub inside_is : job.inside ≡ ways.inside.networks
  pub excepted_is : job.excepted ≡ ways.inside.excepted
  pub link_addresses_are : job.link_addresses ≡ ways.link_addresses
  pub tap_is : job.tap ≡ ways.tap
  pub seed_is : job.seed ≡ seed
