use Rattle.std.proofs.Common.{ap, ◌∙◌}
use Rattle.pfr_values.specs.Macs.{addresses_of}
use Rattle.pfr_values.proofs.mac.link_addresses.Goals as goal

pub returns-clause-given : goal.returns-clause-given
returns-clause-given c = (
  c.in_ok-macs.macs,
  c.in_ok-macs.ensures.given,
  c.in_ok-macs.ensures.macs,
  c.in_ok-addresses.ensures ∙ ap (λ macs. addresses_of macs c.args.captures.now) c.as_slice.ensures,
)
