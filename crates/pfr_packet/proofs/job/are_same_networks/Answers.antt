use Rattle.std.proofs.Common.{◌≡◌, ◌∙◌, sym, subst, true, List}
use lib.Pointwise.{pointwise}
use Rattle.pfr_net.specs.declared.network.Net.{Net}
use Rattle.pfr_net.specs.contracts.network.NetPartialEq.TheImpl.{ghosts}
use Rattle.pfr_packet.proofs.SameLemmas.{networks_same, same_networks}
use Rattle.pfr_packet.proofs.job.are_same_networks.Goals as goal

pub returns : goal.returns
returns c = (
  λ h. same_networks _ _ (sym c.eq.ensures ∙ h),
  λ h. c.eq.ensures ∙ subst (λ (xs : List Net). pointwise ghosts.eq c.args.first.now xs ≡ true) h (networks_same c.args.first.now),
)
