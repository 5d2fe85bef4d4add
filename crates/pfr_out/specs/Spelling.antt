-- Messages to a standby as they are written.
use Rattle.std.specs.Prelude.{ℕ, List, [], ◌++◌, length, Option, Some, None}
use Rattle.std.specs.List.{flat_map, slice_get}
use Rattle.pfr_net.specs.declared.address.Ipv4Address.{Ipv4Address}
use Rattle.pfr_ruleset.specs.declared.interface.Interface.{Interface}
use Rattle.pfr_packet.specs.Job.{RunJob}
use Rattle.pfr_messages.specs.Messages.{Content, spelling}
use Rattle.pfr_sync.specs.Files.{ip_header}
use Rattle.pfr_out.specs.declared.settings.Form.{Form}
use Rattle.pfr_out.specs.declared.settings.Form.TheVariants as form

-- what the outputs of a run depend on, apart from its capture
pub record Run : Type 0 where
  pub job : RunJob
  -- of the messages to a standby
  pub form : Form

-- a message after an IP header from the address of an interface
abbrev pub packet_of : Ipv4Address → Content → List ℕ
packet_of source message = ip_header source (length (spelling message)) ++ spelling message

abbrev pub in_form : Form → Ipv4Address → Content → List ℕ
in_form form.File source message = packet_of source message
in_form form.Peer source message = spelling message
in_form form.None source message = []

-- messages, one after the other
unfoldable pub spelled : Form → Ipv4Address → List Content → List ℕ
spelled form source messages = flat_map (in_form form source) messages

abbrev pub address_or_none : Option Interface → Ipv4Address
address_or_none None = record { 0 = 0 }
address_or_none (Some interface) = interface.address

-- a standby is told from the address of the run's first interface
abbrev pub source_of : RunJob → Ipv4Address
source_of job = address_or_none (slice_get job.interfaces 0)

-- as a run writes them
abbrev pub messages_text : Run → List Content → List ℕ
messages_text run messages = spelled run.form (source_of run.job) messages
