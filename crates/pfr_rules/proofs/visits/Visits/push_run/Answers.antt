use Rattle.std.proofs.Common.{◌≡◌, ◌∙◌, ◌+◌, ◌++◌, append_assoc, ap, sym}
use Rattle.std.specs.List.{flat_map}
use Rattle.pfr_rules.specs.Numbers.{numbers_from}
use Rattle.pfr_rules.proofs.Numbers.{numbers_join, followed}
use Rattle.pfr_rules.proofs.visits.Visits.push_run.Goals as goal

pub returns-then-is_followed_by-clause-pushed : goal.returns-then-is_followed_by-clause-pushed
returns-then-is_followed_by-clause-pushed c =
    let run = c.self.inside.last in
    let first : c.args.first ≡ run.first + run.count = followed run.first run.count c.args.first (sym c.is_followed_by.ensures ∙ c.if-is_followed_by.true) in
    let before = flat_map (λ run. numbers_from run.first run.count) c.self.inside.before.items in
    let longer : numbers_from c.longer-self-inside.result.first c.longer-self-inside.result.count ≡ numbers_from run.first run.count ++ numbers_from c.args.first c.args.count =
    rw (c.longer-self-inside.ensures.first, c.longer-self-inside.ensures.count, first) (numbers_join run.first run.count c.args.count) in
    ap (λ numbers. before ++ numbers) longer ∙ sym (append_assoc before (numbers_from run.first run.count) (numbers_from c.args.first c.args.count)) ∙ ap (λ numbers. numbers ++ numbers_from c.args.first c.args.count) c.self.view_is
