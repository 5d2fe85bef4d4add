use Rattle.pfr_shadows.proofs.CoverLemmas.{any_holds, as_hosts}
use Rattle.pfr_shadows.proofs.hosts.host_covers.Goals as goal

pub returns-then-is_any : goal.returns-then-is_any
returns-then-is_any c = λ _ address holds. any_holds c.args.tables.now c.args.wide address (c.is_any.ensures c.if-is_any.true)

pub returns-in-Some : goal.returns-in-Some
returns-in-Some c = λ is. as_hosts c.args.tables.now c.args.wide c.args.narrow c.in-Some.network c.in-Some.ensures (c.holds_all_of.ensures is)
