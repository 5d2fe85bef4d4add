-- The job of a run: what its packets are evaluated by.
use Rattle.std.specs.Prelude.{◌≡◌, ℕ, Bool, not, ◌&&◌, if◌then◌else◌, nat_lt, List, [], Option, Some, None}
use Rattle.std.specs.List.{list_any, slice_get}
use Rattle.pfr_net.specs.declared.address.Ipv4Address.{Ipv4Address}
use Rattle.pfr_net.specs.declared.direction.Direction.{Direction}
use Rattle.pfr_net.specs.declared.direction.Direction.TheVariants.{In, Out}
use Rattle.pfr_net.specs.declared.interface.IfName.{IfName}
use Rattle.pfr_net.specs.declared.interface.InterfacePlace.{InterfacePlace}
use Rattle.pfr_net.specs.declared.network.Net.{Net}
use Rattle.pfr_net.specs.declared.timeout.Timeouts.{Timeouts}
use Rattle.pfr_net.specs.Networks.{holds}
use Rattle.pfr_ruleset.specs.declared.interface.Interface.{Interface}
use Rattle.pfr_ruleset.specs.declared.ruleset.Ruleset.{Ruleset}
use Rattle.pfr_ruleset.specs.Interfaces.{name_at}
use Rattle.pfr_headers.specs.declared.ethernet.EthernetAddress.{EthernetAddress}
use Rattle.pfr_headers.specs.declared.packet.Packet.{Packet}
use Rattle.pfr_headers.specs.declared.tap.Tap.{Tap}
use Rattle.pfr_headers.specs.declared.tap.Tap.TheVariants as tap
use Rattle.pfr_headers.specs.Ways.{direction_from}
use Rattle.pfr_headers.specs.Ways.{direction_of as direction_by_source}
use Rattle.pfr_criteria.specs.Packets.{is_named}

-- the inputs, and the ruleset that the text means for the interfaces
pub record RunJob : Type 0 where
  pub text : List ℕ
  pub interfaces : List Interface
  -- the networks whose packets go out, and those among them whose packets come in all the same
  pub inside : List Net
  pub excepted : List Net
  -- the link-level addresses of the interfaces by their places, if they are known
  pub link_addresses : List (Option EthernetAddress)
  pub tap : Tap
  pub seed : List ℕ
  pub rules : Ruleset

-- a job of a ruleset's text, the interfaces, the networks whose packets go out, and a seed
abbrev pub HasInputs : List ℕ → List Interface → List Net → List ℕ → RunJob → Type 0
HasInputs text interfaces inside seed job =
    (job.text ≡ text) × (job.interfaces ≡ interfaces) × (job.inside ≡ inside) × (job.seed ≡ seed)

-- a job with defaults: no network is excepted, no link-level address is known, and packets are captured on the side of
-- the stack
pub record HasDefaults (job : RunJob) : Type 0 where
  pub excepted_is : job.excepted ≡ []
  pub link_addresses_is : job.link_addresses ≡ []
  pub tap_is : job.tap ≡ tap.Stack

-- two jobs say the same of which way packets go, and of where they were captured
abbrev pub HaveSameSettings : RunJob → RunJob → Type 0
HaveSameSettings job other =
    (job.inside ≡ other.inside) × (job.excepted ≡ other.excepted) × (job.link_addresses ≡ other.link_addresses) × (job.tap ≡ other.tap)

abbrev pub timeouts_of : RunJob → Timeouts
timeouts_of job = job.rules.options.timeouts

-- the name of the interface at a place
abbrev pub name_in : RunJob → InterfacePlace → IfName
name_in job place = name_at job.rules.interfaces place

-- packets of the interface at a place aren't filtered (pf.conf(5), "set skip on")
abbrev pub is_skipped : RunJob → InterfacePlace → Bool
is_skipped job place = list_any (λ name. is_named name (name_in job place)) job.rules.options.skipped

-- ---- which way a packet goes

-- The longest prefix decides: an excepted network holds the address, and no inside network with a longer prefix does.
abbrev pub is_excepted : RunJob → Ipv4Address → Bool
is_excepted job address =
    list_any (λ other. holds other address && not (list_any (λ net. nat_lt other.bits net.bits && holds net address) job.inside)) job.excepted

-- by the source of the packet
abbrev pub direction_in : RunJob → Packet → Direction
direction_in job packet = if is_excepted job packet.source then In else direction_by_source job.inside packet

abbrev pub known_address : Option (Option EthernetAddress) → Option EthernetAddress
known_address None = None
known_address (Some address) = address

-- the link-level address of the interface at a place, if it is known
abbrev pub link_address_at : RunJob → InterfacePlace → Option EthernetAddress
link_address_at job place = known_address (slice_get job.link_addresses place.0)

-- by the sender of its frame if the interface's own address is known, else by its source
abbrev pub direction_by : RunJob → Packet → Option EthernetAddress → Direction
direction_by job packet (Some address) = direction_from address packet
direction_by job packet None = direction_in job packet

abbrev pub direction_of : RunJob → InterfacePlace → Packet → Direction
direction_of job place packet = direction_by job packet (link_address_at job place)
