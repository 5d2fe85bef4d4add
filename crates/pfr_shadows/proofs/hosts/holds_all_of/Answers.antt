use Rattle.std.proofs.Common.{sym, ◌∙◌}
use Rattle.pfr_shadows.proofs.CoverLemmas.{all_of_network, one_address}
use Rattle.pfr_shadows.proofs.hosts.holds_all_of.Goals as goal

pub returns-in-Some : goal.returns-in-Some
returns-in-Some c = λ is. all_of_network c.args.tables.now c.args.wide c.in-Some.network c.args.narrow c.in-Some.ensures (c.net_covers.ensures is)

pub returns-then-narrow-ge32 : goal.returns-then-narrow-ge32
returns-then-narrow-ge32 c = λ is. one_address c.args.tables.now c.args.wide c.args.narrow c.if-narrow-ge32.true (sym c.host_holds.ensures ∙ is)
