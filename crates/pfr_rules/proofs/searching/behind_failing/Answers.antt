use Rattle.std.proofs.Common.{◌≡◌, length, map, refl, arith}
use Rattle.std.proofs.lemmas.List.{length-map}
use Rattle.std.proofs.lemmas.Option.{slice_get_read}
use Rattle.pfr_net.specs.declared.direction.Direction.TheVariants.{In}
use Rattle.pfr_ruleset.specs.Criteria.{asked_by_translation}
use Rattle.pfr_rules.proofs.AskedLemmas.{translation_behind_by_skip}
use Rattle.pfr_rules.proofs.searching.behind_failing.Goals as goal

pub returns-in-FailsAt-clause-fails : goal.returns-in-FailsAt-clause-fails
returns-in-FailsAt-clause-fails g c =
    let rules = c.args.rules.now in
    let size : length (map asked_by_translation rules) ≡ length rules = length-map rules asked_by_translation in
    let skip = c.next.ensures (map asked_by_translation rules) c.requires.aids.skips (omega (arith, size, c.requires.within)) in
    let at = slice_get_read rules (length rules) c.args.place c.index-rules-place.result refl c.requires.within c.index-rules-place.is in
    translation_behind_by_skip c.args.flat.now c.args.name.now c.args.packet.now In c.in-FailsAt.criterion rules c.args.place c.next.result c.index-rules-place.result skip size at (rw (← c.as_slice.ensures) (c.in-FailsAt.ensures.fails In))
