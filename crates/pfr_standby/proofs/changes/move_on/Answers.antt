use Rattle.std.proofs.Common.{sym, ap, ◌∙◌}
use Rattle.std.specs.Option.{option_copied_mut}
use Rattle.pfr_standby.proofs.MapLemmas.{moves_through, stays_through}
use Rattle.pfr_standby.proofs.changes.move_on.Goals as goal

pub returns-in-Some : goal.returns-in-Some
returns-in-Some c =
    moves_through c.args.update.now c.args.states.now.entries _ c.in-Some.kept.now c.moved_by.result c.get_mut.ensures.ordered c.in-Some.ensures.value
    (c.get_mut.follows.holds c.moved_by.result).0 c.moved_by.ensures

pub returns-in_default : goal.returns-in_default
returns-in_default c =
    rw c.get_mut.follows.holds-at-none
    (stays_through c.args.update.now c.args.states.now.entries (sym (ap option_copied_mut c.in_default.is) ∙ c.get_mut.ensures.value))
