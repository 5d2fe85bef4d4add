use Rattle.std.proofs.Common.{◌≡◌, ◌∙◌, sym, subst, true, Option}
use Rattle.std.specs.Option.{option_eq}
use Rattle.pfr_headers.specs.declared.ethernet.EthernetAddress.{EthernetAddress}
use Rattle.pfr_headers.specs.contracts.ethernet.EthernetAddressPartialEq.TheImpl.{ghosts}
use Rattle.pfr_packet.proofs.SameLemmas.{address_same, same_address}
use Rattle.pfr_record.proofs.views.is_same_sender.Goals as goal

pub returns : goal.returns
returns c = (
  λ h. same_address _ _ (sym c.eq.ensures ∙ h),
  λ h. c.eq.ensures ∙ subst (λ (x : Option EthernetAddress). option_eq ghosts.eq c.args.first x ≡ true) h (address_same c.args.first),
)
