use Rattle.std.proofs.Common.{◌≤◌, ap, subst, arith, length, List}
use Rattle.std.proofs.lemmas.Bool.Decides.{nat_tests}
use mathlib.Core.List.{IsPrefix}
use Rattle.pfr_history.proofs.Beginnings.{prefix_shorter, prefix_length}
use Rattle.pfr_history.proofs.history.Front.begins.Goals as goal

pub returns : goal.returns
returns g c =
    let both = c.learn.new.self.log in
    let this : IsPrefix c.self.inside.seen.log both = subst (λ (l : List _). IsPrefix l both) (ap (λ s. s.log) c.again-both.ensures) c.learn.ensures.2 in (
      λ is.
          let less : length c.self.inside.seen.log ≤ length c.other.inside.seen.log = grind (arith, nat_tests, is, c.self.invariant.0, c.other.invariant.0) in
          rw (← c.self.view_is, ← c.other.view_is) (prefix_shorter c.self.inside.seen.log c.other.inside.seen.log both this c.learn.ensures.3 less),
      λ begins.
          let less : length c.args.self.now ≤ length c.args.other.now = prefix_length c.args.self.now c.args.other.now begins in
          grind (arith, nat_tests, less, c.self.view_is, c.other.view_is, c.self.invariant.0, c.other.invariant.0),
    )
