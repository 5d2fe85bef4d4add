use Rattle.std.proofs.Common.{◌≡◌, ◌∙◌, sym, subst, true, List, Option}
use Rattle.std.specs.Option.{option_eq}
use lib.Pointwise.{pointwise}
use Rattle.pfr_headers.specs.declared.ethernet.EthernetAddress.{EthernetAddress}
use Rattle.pfr_headers.specs.contracts.ethernet.EthernetAddressPartialEq.TheImpl.{ghosts}
use Rattle.pfr_packet.proofs.SameLemmas.{addresses_same, same_addresses}
use Rattle.pfr_packet.proofs.job.are_same_addresses.Goals as goal

pub returns : goal.returns
returns c = (
  λ h. same_addresses _ _ (sym c.eq.ensures ∙ h),
  λ h. c.eq.ensures ∙ subst (λ (xs : List (Option EthernetAddress)). pointwise (option_eq ghosts.eq) c.args.first.now xs ≡ true) h (addresses_same c.args.first.now),
)
