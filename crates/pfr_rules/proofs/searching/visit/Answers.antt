use Rattle.std.proofs.Common.{◌≡◌, length, map, arith}
use Rattle.std.proofs.lemmas.List.{length-map}
use Rattle.pfr_ruleset.specs.TranslationAids.{number_of}
use Rattle.pfr_rules.proofs.SearchLemmas.{visited_run}
use Rattle.pfr_rules.proofs.searching.visit.Goals as goal

pub loop-from-preserved : goal.loop-from-preserved
loop-from-preserved g c = record {
  within = c.run_end-end.ensures.within;
  visits =
      let numbers = map number_of c.args.rules.now in
      let size : length numbers ≡ length c.args.rules.now = length-map c.args.rules.now number_of in
      let run = c.run_end-end.ensures.run numbers (λ aids is. (c.requires.aids aids is).numbers) (omega (arith, size, c.requires.within)) in
      visited_run (map number_of c.args.rules.now) c.args.visits.now c.loop-from.visits c.push_up_to.new.self c.loop-from.from c.run_end-end.result c.number_at-first.result c.number_at-last.result run c.number_at-first.ensures c.number_at-last.ensures c.loop-from.invariant.visits c.in_ok-push_up_to.ensures;
}

pub loop-from-smaller : goal.loop-from-smaller
loop-from-smaller g c =
    let numbers = map number_of c.args.rules.now in
    let size : length numbers ≡ length c.args.rules.now = length-map c.args.rules.now number_of in
    let run = c.run_end-end.ensures.run numbers (λ aids is. (c.requires.aids aids is).numbers) (omega (arith, size, c.requires.within)) in
    omega (arith, run.ahead, c.run_end-end.ensures.within)
