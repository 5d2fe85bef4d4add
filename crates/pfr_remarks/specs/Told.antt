-- What was said of a rule, which is said once.
use Rattle.std.specs.Prelude.{Bool, true, false}
use Rattle.pfr_remarks.specs.declared.told.Told.{Told}
use Rattle.pfr_remarks.specs.declared.why.Why.{Why}
use Rattle.pfr_remarks.specs.declared.why.Why.TheVariants as why

abbrev pub nothing : Told
nothing = record {
  port_without_protocol = false;
  port_of_other_protocol = false;
  type_without_protocol = false;
  type_of_other_protocol = false;
  block_keeps_state = false;
  long_label = false;
}

abbrev pub has_why : Told → Why → Bool
has_why told why.PortWithoutProtocol = told.port_without_protocol
has_why told why.PortOfOtherProtocol = told.port_of_other_protocol
has_why told why.TypeWithoutProtocol = told.type_without_protocol
has_why told why.TypeOfOtherProtocol = told.type_of_other_protocol
has_why told why.BlockKeepsState = told.block_keeps_state
has_why told why.LongLabel = told.long_label

abbrev pub with_why : Told → Why → Told
with_why told why.PortWithoutProtocol = record told { port_without_protocol = true }
with_why told why.PortOfOtherProtocol = record told { port_of_other_protocol = true }
with_why told why.TypeWithoutProtocol = record told { type_without_protocol = true }
with_why told why.TypeOfOtherProtocol = record told { type_of_other_protocol = true }
with_why told why.BlockKeepsState = record told { block_keeps_state = true }
with_why told why.LongLabel = record told { long_label = true }
