use Rattle.std.proofs.Common.{◌≡◌, refl, rules}
use Rattle.std.specs.declared.cmp.Reverse.{Reverse}
use Rattle.pfr_deadlines.specs.Waits.{Wait}
use Rattle.pfr_deadlines.proofs.WaitLemmas.{left}
use Rattle.pfr_deadlines.proofs.wheel.sweep_bucket.Goals as goal

pub returns-clause-items : goal.returns-clause-items
returns-clause-items g c = λ test decides. left _ (λ p. p.0.now ≡ c.args.is_kept.now) (λ (wait : Reverse Wait). test wait.0) (λ p x b q i k. (search (rules, decides) parts 8, search rules)) _ c.args.bucket.now.items c.retain.new.self.items refl c.retain.ensures.filtered
