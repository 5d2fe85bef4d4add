use Rattle.std.proofs.Common.{◌++◌, List, subst}
use Rattle.std.specs.BinaryHeap.{heap_items}
use Rattle.std.specs.List.{FoldsTo}
use Rattle.std.specs.declared.cmp.Reverse.{Reverse}
use Rattle.pfr_deadlines.specs.Waits.{Wait}
use Rattle.pfr_deadlines.specs.Wheel.{come_of}
use Rattle.pfr_deadlines.proofs.FoldLemmas.{by_waits, of_items}
use Rattle.pfr_deadlines.proofs.deadlines.Deadlines.fold_come.Goals as goal

pub returns : goal.returns
returns g c =
    let near = heap_items c.self.inside.near in
    let far = c.self.inside.wheel.items in
    let first = subst (λ (items : List (Reverse Wait)). FoldsTo (λ before wait after. goal.F-post g c.args.step before wait.0 after) c.args.start (come_of c.args.clock items) c.fold_bucket-first.result) c.as_slice.ensures.value c.fold_bucket-first.ensures in
    rw (← c.self.view_is) (by_waits (λ before wait after. goal.F-post g c.args.step before wait after) c.args.clock c.args.start c.fold_come.result (near ++ far)
    (of_items (λ before wait after. goal.F-post g c.args.step before wait.0 after) c.args.clock c.args.start c.fold_come.result near far c.fold_bucket-first.result first c.fold_come.ensures))
