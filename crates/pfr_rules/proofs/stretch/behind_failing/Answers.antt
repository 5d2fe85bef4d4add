use Rattle.std.proofs.Common.{◌≡◌, length, map, arith}
use Rattle.std.proofs.lemmas.List.{length-map}
use Rattle.pfr_ruleset.specs.Criteria.{asked_by}
use Rattle.pfr_rules.proofs.AskedLemmas.{behind_by_skip}
use Rattle.pfr_rules.proofs.stretch.behind_failing.Goals as goal

pub returns-in-FailsAt-clause-fails : goal.returns-in-FailsAt-clause-fails
returns-in-FailsAt-clause-fails c =
    let size : length (map asked_by c.args.flat.now.filter.rules) ≡ length c.args.flat.now.filter.rules = length-map c.args.flat.now.filter.rules asked_by in
    let skip = c.next.ensures (map asked_by c.args.flat.now.filter.rules) c.requires.aids.skips (omega (arith, size, c.requires.within)) in
    behind_by_skip c.args.flat.now c.args.name.now c.args.packet.now c.args.direction c.in-FailsAt.criterion c.args.place c.next.result c.args.rule.now skip size c.requires.rule (rw (← c.as_slice.ensures) c.in-FailsAt.ensures.fails)
