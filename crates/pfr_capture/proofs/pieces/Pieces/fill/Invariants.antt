use Rattle.std.proofs.Common.{◌≡◌, ◌-◌, IsTrue, length}
use Rattle.pfr_capture.specs.Ahead.{CameBehind, Extends}
use Rattle.pfr_capture.proofs.pieces.Pieces.fill.Given as goal

abbrev pub invariant-loop-self : goal.invariant-loop-self
invariant-loop-self g l = record {
  told : g.S.Source.told l.source ≡ g.S.Source.told l.fn.source;
  extends : Extends l.fn.self l.self;
  came : IsTrue (g.S.Source.told l.fn.source) → CameBehind l.fn.self l.self (g.S.Source.unread l.fn.source) (g.S.Source.unread l.source);
  failures : g.S.Source.failures l.source ≡ g.S.Source.failures l.fn.source;
}

abbrev pub decreases-loop-self : goal.decreases-loop-self
decreases-loop-self g l = l.wanted - length l.self
