-- Which rules the packets of a run could have asked.
use Rattle.std.specs.Prelude.{◌≡◌, ◌+◌, ◌<◌, ⊤, ℕ, false, List, [], ◌∷◌, length}
use Rattle.std.specs.List.{All}
use Rattle.pfr_ruleset.specs.declared.interface.Interface.{Interface}
use Rattle.pfr_ruleset.specs.declared.filter_rules.RuleLists.{RuleLists}
use Rattle.pfr_headers.specs.View.{view_of}
use Rattle.pfr_rules.specs.Laws.{IsSameBut}
use Rattle.pfr_packet.specs.declared.outcome.Outcome.{Outcome}
use Rattle.pfr_packet.specs.Job.{HaveSameSettings, RunJob, name_in}
use Rattle.pfr_packet.specs.Steps.{step_of}
use Rattle.pfr_commit.specs.World.{Frame, World, after, clock_at}
use Rattle.pfr_asked.specs.declared.seen.Seen.{Seen}
use Rattle.pfr_asked.specs.Asking.{could_ask}
use Rattle.pfr_asked.specs.Seen.{seen_with}

-- what the next packet of a world comes to
abbrev pub next_outcome : RunJob → World → Frame → Outcome
next_outcome job world frame =
    step_of job (world.count + 1) (clock_at world.clock frame) frame.place (view_of frame.link frame.bytes) world.table

-- none of these packets behind a world could have asked the filter rule at a place of these lists
abbrev pub NoneAsks : RunJob → RuleLists → ℕ → World → List Frame → Type 0
NoneAsks job lists place world [] = ⊤
NoneAsks job lists place world (frame ∷ frames) =
    (could_ask lists place (name_in job frame.place) (next_outcome job world frame) ≡ false)
    × NoneAsks job lists place (after job world frame) frames

-- where packets came to the filter, with these packets behind a world
abbrev pub seen_after : RunJob → World → List Seen → List Frame → List Seen
seen_after job world seen [] = seen
seen_after job world seen (frame ∷ frames) =
    seen_after job (after job world frame) (seen_with seen frame.place.0 (next_outcome job world frame)) frames

-- each packet is of one of the interfaces
abbrev pub AreOf : List Interface → List Frame → Type 0
AreOf interfaces frames = All (λ frame. frame.place.0 < length interfaces) frames

-- Two jobs differ in the filter rule at a place, and in nothing else that packets come to. Their texts may be others,
-- and labels.
pub record DifferAt (place : ℕ) (job other : RunJob) : Type 0 where
  pub settings_are : HaveSameSettings job other
  pub seed_is : other.seed ≡ job.seed
  pub interfaces_are : other.rules.interfaces ≡ job.rules.interfaces
  pub options_are : other.rules.options ≡ job.rules.options
  pub translations_are : other.rules.translations ≡ job.rules.translations
  pub filter_is : IsSameBut place job.rules other.rules
