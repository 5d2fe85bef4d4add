use Rattle.std.proofs.Common.{◌<◌, length, arith, rules}
use Rattle.pfr_values.proofs.PlaceLemmas.{adds_one, place_behind}
use Rattle.pfr_values.proofs.also.Places.add.Goals as goal

pub returns-clause-places : goal.returns-clause-places
returns-clause-places c =
    let places = c.args.self.now in
    let words = c.in_ok-parts.parts.words in
    let few : length places.interfaces < 8 = omega (arith, c.if-len-ge-MOST_INTERFACES.false, c.len.ensures) in
    rw (c.in_ok-push.ensures.pushed, c.in_ok-push-2.ensures.pushed)
    (place_behind places.interfaces places.captures c.in_ok-interface.interface words c.requires few (search rules) (search rules))

pub returns-clause-added : goal.returns-clause-added
returns-clause-added c =
    rw (c.in_ok-push.ensures.pushed, c.in_ok-push-2.ensures.pushed)
    (adds_one c.args.form c.args.word.now c.args.self.now c.in_ok-parts.parts c.in_ok-interface.interface (search rules) (search rules))
