-- Walks that visit no rule twice: their visits are the packets that visited.
use Rattle.std.proofs.Common.{◌≡◌, ◌≤◌, ◌<◌, ◌==◌, ◌∙◌, ℕ, Bool, true, cond, List, [], ◌∷◌, refl, sym, ap, arith, inl, inr, get_or}
use Rattle.std.specs.List.{count_by, list_any, sum_by}
use Rattle.std.proofs.lemmas.Bool.{cases_Bool}
use Rattle.std.proofs.lemmas.List.Sums.{sum_by-cons}
use Rattle.pfr_ruleset.specs.Translations.{HaveOwnNumbers}
use Rattle.pfr_headers.specs.View.{view_of}
use Rattle.pfr_packet.specs.Job.{RunJob}
use Rattle.pfr_packet.specs.Laws.{VisitsRulesOnce}
use Rattle.pfr_commit.specs.Runs.{RuleKind, Taken, capped, counters_of, filter_rule, is_visited, next_taken, number_of, taken_after, taken_in, translation_rule, visited_of, visits_to}
use Rattle.pfr_commit.specs.World.{Frame, World, after, opening, world_of}
use Rattle.pfr_commit.proofs.CountLemmas.{evaluations_of_run}

-- if a number is in a list at most once, it is there once or not at all
once : (rule : ℕ) (visits : List ℕ) → count_by (λ visited. visited == rule) visits ≤ 1 → count_by (λ visited. visited == rule) visits ≡ cond (list_any (λ visited. visited == rule) visits) 1 0
once rule [] few = refl
once rule (visit ∷ visits) few =
    let more = sum_by-cons (λ (visited : ℕ). cond (visited == rule) 1 0) visit visits in
    elim (cases_Bool (visit == rule)) [
      | inl it_is ↦
          let one : cond {A = ℕ} (visit == rule) 1 0 ≡ 1 = rw it_is refl in
          let any : list_any (λ visited. visited == rule) (visit ∷ visits) ≡ true = rw it_is refl in
          let counted : count_by (λ visited. visited == rule) (visit ∷ visits) ≡ 1 = omega (arith, more, one, few) in
          counted ∙ sym (ap (λ (b : Bool). cond {A = ℕ} b 1 0) any)
      | inr other ↦
          let none : cond {A = ℕ} (visit == rule) 1 0 ≡ 0 = rw other refl in
          let any : list_any (λ visited. visited == rule) (visit ∷ visits) ≡ list_any (λ visited. visited == rule) visits = rw other refl in
          let counted : count_by (λ visited. visited == rule) (visit ∷ visits) ≡ count_by (λ visited. visited == rule) visits = omega (arith, more, none) in
          counted ∙ once rule visits (omega (arith, counted, few)) ∙ sym (ap (λ (b : Bool). cond {A = ℕ} b 1 0) any)
    ]

module _ (visits_once : VisitsRulesOnce) (job : RunJob) (own : HaveOwnNumbers job.rules.translations) (rule : ℕ) where
  packet_once : (kind : RuleKind) (world : World) (frame : Frame) → visits_to kind rule (next_taken job world frame) ≤ 1
  packet_once filter_rule world frame = (let p = next_taken job world frame in (visits_once job p.number p.clock frame.place (view_of frame.link frame.bytes) world.table own).0 rule)
  packet_once translation_rule world frame = (let p = next_taken job world frame in (visits_once job p.number p.clock frame.place (view_of frame.link frame.bytes) world.table own).1 rule)

  visits_are_packets : (kind : RuleKind) (world : World) (frames : List Frame) → sum_by (visits_to kind rule) (taken_after job world frames) ≡ count_by (is_visited kind rule) (taken_after job world frames)
  visits_are_packets kind world [] = refl
  visits_are_packets kind world (frame ∷ frames) =
      let p = next_taken job world frame in
      let later = taken_after job (after job world frame) frames in
      let visits = sum_by-cons (visits_to kind rule) p later in
      let packets = sum_by-cons (λ (packet : Taken). cond (is_visited kind rule packet) 1 0) p later in
      let one = once rule (visited_of kind p.outcome) (packet_once kind world frame) in
      let rest = visits_are_packets kind (after job world frame) frames in
      omega (arith, visits, packets, one, rest)

  pub packets_of_visits : (kind : RuleKind) (frames : List Frame) → rule < number_of kind job → get_or (counters_of kind (world_of job frames).counters).evaluations rule 0 ≡ capped (count_by (is_visited kind rule) (taken_in job frames))
  packets_of_visits kind frames below = evaluations_of_run job frames kind rule below ∙ ap capped (visits_are_packets kind (opening job) frames)
