use Rattle.std.proofs.Common.{ap}
use Rattle.std.specs.Option.{option_copied}
use Rattle.pfr_rules.proofs.AskedLemmas.{ends_for}
use Rattle.pfr_rules.proofs.stretch.stretch.Goals as goal

pub open_end-end-requires-clause-ends : goal.open_end-end-requires-clause-ends
open_end-end-requires-clause-ends c =
    let own = c.requires.aids in
    ends_for c.args.flat.now.filter own.0 c.openings.result.now c.in-Some.aids.now own.1 c.openings.ensures (own.2 c.in-Some.aids.now (ap option_copied c.in-Some.is)).ends
