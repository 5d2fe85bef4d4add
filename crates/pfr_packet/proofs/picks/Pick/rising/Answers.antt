use Rattle.std.proofs.Common.{◌∙◌, ap, not}
use Rattle.pfr_packet.specs.Picks.{key_with}
use Rattle.pfr_packet.proofs.PickLemmas.{rising_free, rising_taken}
use Rattle.pfr_packet.proofs.picks.Pick.rising.Goals as goal

-- the first port that no state has
pub returns-then-is_none-clause-goes : goal.returns-then-is_none-clause-goes
returns-then-is_none-clause-goes g c = λ next rest.
    rising_free (g.A.RuleRoom.seen c.args.answers.now) _ (key_with c.args.self.now) next rest c.loop-port.port c.args.end (g.A.RuleRoom.asked c.loop-port.answers) (g.A.RuleRoom.asked c.at.new.self) c.key-key.result c.in_ok-at.field-0
    c.loop-port-test.true (c.loop-port.invariant.goes next rest) c.at.ensures.kept c.in_ok-at.ensures.asked c.key-key.ensures (rw c.loop-port.invariant.seen at c.in_ok-at.ensures.answer) (c.is_none.ensures ∙ ap not c.if-is_none.true)

pub loop-port-preserved : goal.loop-port-preserved
loop-port-preserved g c = record {
  seen = c.at.ensures.seen ∙ c.loop-port.invariant.seen;
  goes = λ next rest.
      rising_taken (g.A.RuleRoom.seen c.args.answers.now) _ (key_with c.args.self.now) next rest c.loop-port.port c.args.end (g.A.RuleRoom.asked c.loop-port.answers) (g.A.RuleRoom.asked c.at.new.self) c.key-key.result c.in_ok-at.field-0
      c.loop-port-test.true (c.loop-port.invariant.goes next rest) c.at.ensures.kept c.in_ok-at.ensures.asked c.key-key.ensures (rw c.loop-port.invariant.seen at c.in_ok-at.ensures.answer) (c.is_none.ensures ∙ ap not c.if-is_none.false);
  kept = λ question was. c.at.ensures.kept question (c.loop-port.invariant.kept question was);
}
