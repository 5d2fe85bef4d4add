use Rattle.std.proofs.Common.{refl}
use Rattle.pfr_stream.proofs.Takings.{took_none}
use Rattle.pfr_stream.proofs.run.standby.Goals as goal

pub returns-in_default-clause-stops : goal.returns-in_default-clause-stops
returns-in_default-clause-stops g c = λ told. record { standing = _; rest = _; taken = took_none c.args.framing (g.R.Source.unread c.args.source.now); holds = refl }
