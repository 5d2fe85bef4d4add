use Rattle.std.proofs.Common.{◌≡◌, Some}
use Rattle.std.specs.Arc.{arc_value}
use Rattle.pfr_record.specs.declared.speculation.Speculation.{Speculation}
use Rattle.pfr_work.proofs.FoundLemmas.{all_pushed}
use Rattle.pfr_work.proofs.found.FoundOut.put.Goals as goal

pub invariant_of-self : goal.invariant_of-self
invariant_of-self g c = record {
  own = all_pushed (λ (speculation : Speculation). g.J.OfRun.job ≡ Some (arc_value speculation.job)) c.args.self.now.speculations.items c.push.new.self.items c.args.speculation _
      c.push.ensures.items c.args.self.now.own c.requires;
}
