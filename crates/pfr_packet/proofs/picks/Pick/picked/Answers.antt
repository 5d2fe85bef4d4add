use Rattle.std.proofs.Common.{Option}
use Rattle.pfr_track.specs.declared.key.Key.{Key}
use Rattle.pfr_packet.specs.Picks.{key_with, word_of}
use Rattle.pfr_packet.proofs.PickLemmas.{chosen_falling, chosen_one, chosen_rising, ok_then}
use Rattle.pfr_packet.proofs.picks.Pick.picked.Goals as goal

pub returns-in-One-clause-goes : goal.returns-in-One-clause-goes
returns-in-One-clause-goes g c =
    ok_then (λ (found : Option Key) tried. chosen_one (g.A.RuleRoom.seen c.args.answers.now) (key_with c.args.self.now) c.in-One.port c.from-port.result (word_of c.args.seed.now c.args.number) c.args.ports (g.A.RuleRoom.asked c.rising.new.answers) found c.in-One.is c.from-port.ensures tried) c.rising.result c.rising.ensures.goes

pub returns-in-Some-clause-goes : goal.returns-in-Some-clause-goes
returns-in-Some-clause-goes g c =
    chosen_rising (g.A.RuleRoom.seen c.args.answers.now) (key_with c.args.self.now) c.in-Among.range c.cut_of-cut.result c.from.result c.word_of.result (word_of c.args.seed.now c.args.number) c.args.ports (g.A.RuleRoom.asked c.rising-in-Among.new.answers) c.in-Some.key c.in_ok-key-in-Among.field-0
    c.in-Among.is c.word_of.ensures c.cut_of-cut.ensures.cut c.from.ensures c.in-Some.is c.in_ok-key-in-Among.ensures.goes

-- the ports behind the cut were all taken
pub returns-in-None-clause-goes : goal.returns-in-None-clause-goes
returns-in-None-clause-goes g c =
    ok_then (λ (picked : Option Key) more. chosen_falling (g.A.RuleRoom.seen c.args.answers.now) (g.A.RuleRoom.seen c.rising-in-Among.new.answers) (key_with c.args.self.now) c.in-Among.range c.cut_of-cut.result c.from.result c.from-in-None.result c.word_of.result (word_of c.args.seed.now c.args.number) c.args.ports (g.A.RuleRoom.asked c.rising-in-Among.new.answers) (g.A.RuleRoom.asked c.falling.new.answers) c.in_ok-key-in-Among.field-0 picked
    c.in-Among.is c.word_of.ensures c.cut_of-cut.ensures.cut c.from.ensures c.from-in-None.ensures c.in-None.is c.in_ok-key-in-Among.ensures.seen c.in_ok-key-in-Among.ensures.goes c.falling.ensures.kept more) c.falling.result c.falling.ensures.goes
