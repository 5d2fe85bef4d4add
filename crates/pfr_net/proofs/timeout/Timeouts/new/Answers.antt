use Rattle.std.proofs.Common.{rules}
use Rattle.pfr_net.proofs.timeout.Timeouts.new.Goals as goal

pub returns : goal.returns
returns c = search rules
