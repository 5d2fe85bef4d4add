use Rattle.std.proofs.Common.{◌≡◌, ◌∙◌, sym, subst, true, List}
use lib.Pointwise.{pointwise}
use Rattle.pfr_ruleset.specs.declared.interface.Interface.{Interface}
use Rattle.pfr_ruleset.specs.contracts.interface.InterfacePartialEq.TheImpl.{ghosts}
use Rattle.pfr_packet.proofs.SameLemmas.{interfaces_same, same_interfaces}
use Rattle.pfr_packet.proofs.job.are_same_interfaces.Goals as goal

pub returns : goal.returns
returns c = (
  λ h. same_interfaces _ _ (sym c.eq.ensures ∙ h),
  λ h. c.eq.ensures ∙ subst (λ (xs : List Interface). pointwise ghosts.eq c.args.first.now xs ≡ true) h (interfaces_same c.args.first.now),
)
