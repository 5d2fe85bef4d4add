use Rattle.std.proofs.Common.{◌∙◌, ap, not, arith}
use Rattle.pfr_packet.specs.Picks.{key_with}
use Rattle.pfr_packet.proofs.PickLemmas.{falling_free, falling_taken}
use Rattle.pfr_packet.proofs.picks.Pick.falling.Goals as goal

-- the first port that no state has
pub returns-then-is_none-clause-goes : goal.returns-then-is_none-clause-goes
returns-then-is_none-clause-goes g c = λ next rest.
    falling_free (g.A.RuleRoom.seen c.args.answers.now) _ (key_with c.args.self.now) next rest c.args.low c.loop-above.above (g.A.RuleRoom.asked c.loop-above.answers) (g.A.RuleRoom.asked c.at.new.self) c.key-key.result c.in_ok-at.field-0
    c.loop-above-test.true (c.loop-above.invariant.goes next rest) c.at.ensures.kept c.in_ok-at.ensures.asked c.key-key.ensures (rw c.loop-above.invariant.seen at c.in_ok-at.ensures.answer) (c.is_none.ensures ∙ ap not c.if-is_none.true)

pub loop-above-preserved : goal.loop-above-preserved
loop-above-preserved g c =
    let within = c.loop-above.invariant.within in record {
      within = omega (arith, within);
      seen = c.at.ensures.seen ∙ c.loop-above.invariant.seen;
      goes = λ next rest.
          falling_taken (g.A.RuleRoom.seen c.args.answers.now) _ (key_with c.args.self.now) next rest c.args.low c.loop-above.above (g.A.RuleRoom.asked c.loop-above.answers) (g.A.RuleRoom.asked c.at.new.self) c.key-key.result c.in_ok-at.field-0
          c.loop-above-test.true (c.loop-above.invariant.goes next rest) c.at.ensures.kept c.in_ok-at.ensures.asked c.key-key.ensures (rw c.loop-above.invariant.seen at c.in_ok-at.ensures.answer) (c.is_none.ensures ∙ ap not c.if-is_none.false);
      kept = λ question was. c.at.ensures.kept question (c.loop-above.invariant.kept question was);
    }
