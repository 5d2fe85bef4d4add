use Rattle.std.proofs.Common.{◌≡◌, refl, rules}
use Rattle.std.specs.BinaryHeap.{heap_items}
use Rattle.std.specs.declared.cmp.Reverse.{Reverse}
use Rattle.pfr_deadlines.specs.Waits.{Wait}
use Rattle.pfr_deadlines.proofs.FirstLemmas.{kept_both}
use Rattle.pfr_deadlines.proofs.WaitLemmas.{left}
use Rattle.pfr_deadlines.proofs.deadlines.Deadlines.sweep.Goals as goal

pub returns : goal.returns
returns g c = λ test decides.
    let f = c.retain.ensures.filtered in
    let is = left _ (λ p. p.0.now ≡ c.args.is_kept) (λ (wait : Reverse Wait). test wait.0) (λ p x b q i k. (search (rules, decides) parts 8, search rules)) _ (heap_items c.self.inside.near) f.0 refl f.1 in
    rw (← c.self.view_is) (kept_both test (heap_items c.self.inside.near) c.self.inside.wheel.items f.0 (heap_items c.retain.new.self) c.sweep.new.self.items is f.2 (c.sweep.ensures test decides))
