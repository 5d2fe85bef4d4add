-- A run with one rule in the place of another, if no packet could have asked either of them.
use Rattle.std.proofs.Common.{◌≡◌, ◌+◌, ◌∙◌, ℕ, List, [], ◌∷◌, fold, refl, sym, ap, subst}
use Rattle.pfr_ruleset.specs.declared.filter_rules.RuleLists.{RuleLists}
use Rattle.pfr_ruleset.specs.declared.interface.Interface.{Interface}
use Rattle.pfr_ruleset.specs.declared.label.Label.{Label}
use Rattle.pfr_ruleset.specs.declared.ruleset.Ruleset.{Ruleset}
use Rattle.pfr_headers.specs.View.{view_of}
use Rattle.pfr_rules.specs.Laws.{IsSameBut}
use Rattle.pfr_states.specs.Answers.{purged_at}
use Rattle.pfr_packet.specs.Job.{RunJob, name_in}
use Rattle.pfr_packet.specs.Steps.{step_of}
use Rattle.pfr_commit.specs.World.{Frame, World, after, clock_at, opening, with_outcome, world_after, world_of}
use Rattle.pfr_asked.specs.Laws.{UnaskedChangesNothing}
use Rattle.pfr_asked.specs.Runs.{DifferAt, NoneAsks, next_outcome}
use Rattle.pfr_asked.proofs.StepLemmas.{AsksNeither, plan_same, with_other, with_rules}

module _ (job : RunJob) (text : List ℕ) (interfaces : List Interface) (labels : List Label) (lists : RuleLists) (rule : ℕ) (s : IsSameBut rule job.rules (with_rules job.rules labels lists)) where
  abbrev other : RunJob
  other = with_other job text interfaces labels lists

  step_same : (world : World) (frame : Frame) → AsksNeither job.rules.filter lists rule (name_in job frame.place) (next_outcome job world frame) → next_outcome other world frame ≡ next_outcome job world frame
  unfolding step_of
  step_same world frame neither =
      plan_same job text interfaces labels lists rule s (world.count + 1) (clock_at world.clock frame) frame.place (purged_at (clock_at world.clock frame) world.table) (view_of frame.link frame.bytes) neither

  after_same : (world : World) (frame : Frame) → AsksNeither job.rules.filter lists rule (name_in job frame.place) (next_outcome job world frame) → after other world frame ≡ after job world frame
  unfolding after with_outcome
  after_same world frame neither = ap (λ o. with_outcome job world frame (clock_at world.clock frame) o) (step_same world frame neither)

  run_same : (world : World) (frames : List Frame) → NoneAsks job job.rules.filter rule world frames → NoneAsks job lists rule world frames → fold (after other) world frames ≡ fold (after job) world frames
  run_same world [] here there = refl
  run_same world (frame ∷ frames) here there =
      ap (λ w. fold (after other) w frames) (after_same world frame (record { here = here.0; there = there.0 }))
      ∙ run_same (after job world frame) frames here.1 there.1

  opening_same : opening other ≡ opening job
  unfolding opening
  opening_same = rw s.number_is refl

  world_same : (frames : List Frame) → NoneAsks job job.rules.filter rule (opening job) frames → NoneAsks job lists rule (opening job) frames → world_of other frames ≡ world_of job frames
  unfolding world_of world_after
  world_same frames here there = ap (λ w. fold (after other) w frames) opening_same ∙ run_same (opening job) frames here there

-- ---- any other job

rules_are : (rules other : Ruleset) → other.interfaces ≡ rules.interfaces → other.options ≡ rules.options → other.tables ≡ rules.tables → other.translations ≡ rules.translations → other ≡ with_rules rules other.labels other.filter
rules_are rules other interfaces options tables translations = rw (sym interfaces, sym options, sym tables, sym translations) refl

job_is : (rule : ℕ) (job other : RunJob) → DifferAt rule job other → other ≡ with_other job other.text other.interfaces other.rules.labels other.rules.filter
job_is rule job other d =
    let rules = rules_are job.rules other.rules d.interfaces_are d.options_are d.filter_is.tables_are d.translations_are in
    rw (d.settings_are.0, d.settings_are.1, d.settings_are.2, d.settings_are.3, sym d.seed_is, sym rules) refl

pub unasked : UnaskedChangesNothing
unasked rule job other frames d here there =
    let rules = rules_are job.rules other.rules d.interfaces_are d.options_are d.filter_is.tables_are d.translations_are in
    let s = subst (λ (r : Ruleset). IsSameBut rule job.rules r) rules d.filter_is in
    ap (λ (j : RunJob). world_of j frames) (job_is rule job other d)
    ∙ world_same job other.text other.interfaces other.rules.labels other.rules.filter rule s frames here there
