-- What the laws say of the settings: which way packets go, and where they were captured.
use Rattle.std.specs.Prelude.{◌≡◌, ◌↔◌, ℕ, true, false, List, [], Option, Some, None}
use Rattle.std.specs.List.{Contains}
use Rattle.pfr_net.specs.declared.direction.Direction.{Direction}
use Rattle.pfr_net.specs.declared.direction.Direction.TheVariants.{In, Out}
use Rattle.pfr_net.specs.declared.interface.Binding.TheVariants.{To}
use Rattle.pfr_net.specs.declared.interface.InterfacePlace.{InterfacePlace}
use Rattle.pfr_net.specs.Interfaces.{meets}
use Rattle.pfr_ruleset.specs.declared.ruleset.Ruleset.{Ruleset}
use Rattle.pfr_ruleset.specs.Translations.{no_translations}
use Rattle.pfr_headers.specs.declared.ethernet.EthernetAddress.{EthernetAddress}
use Rattle.pfr_headers.specs.declared.packet.Packet.{Packet}
use Rattle.pfr_headers.specs.declared.packet.View.{View}
use Rattle.pfr_headers.specs.declared.packet.View.TheVariants.{Ipv4}
use Rattle.pfr_headers.specs.declared.tap.Tap.{Tap}
use Rattle.pfr_headers.specs.declared.tap.Tap.TheVariants as tap
use Rattle.pfr_headers.specs.Ways.{direction_of as direction_by_source}
use Rattle.pfr_track.specs.declared.state.State.{State}
use Rattle.pfr_track.specs.declared.time.Clock.{Clock}
use Rattle.pfr_states.specs.declared.change.TableChange.TheVariants.{Made}
use Rattle.pfr_states.specs.Answers.{purged_at}
use Rattle.pfr_states.specs.States.{IsTable, StateTable, lives}
use Rattle.pfr_packet.specs.declared.outcome.Outcome.{Outcome}
use Rattle.pfr_packet.specs.Connections.{GoesBy, IsAnswerTo, IsLater, sent_on}
use Rattle.pfr_packet.specs.Job.{HasDefaults, RunJob, direction_of, is_skipped, link_address_at}
use Rattle.pfr_packet.specs.Keys.{written_by}
use Rattle.pfr_packet.specs.Steps.{step_of}
use Rattle.pfr_packet.specs.Taps.{is_translated}

-- ---- which way packets go

-- on an interface whose address is known a packet goes out if and only if its frame was sent from there, whatever else
-- it says
abbrev pub GoesOutByItsSender : Type 0
GoesOutByItsSender =
    (job : RunJob) (place : InterfacePlace) (packet : Packet) (address : EthernetAddress)
    → link_address_at job place ≡ Some address
    → (direction_of job place packet ≡ Out) ↔ (packet.sender ≡ Some address)

-- by default a packet goes by its source, and none is shown behind its translation
abbrev pub GoesBySourceByDefault : Type 0
GoesBySourceByDefault =
    (job : RunJob) (place : InterfacePlace) (packet : Packet) (direction : Direction)
    → HasDefaults job
    → (direction_of job place packet ≡ direction_by_source job.inside packet) × (is_translated job.tap direction ≡ false)

-- ---- where packets were captured

abbrev pub HasNoTranslations : Ruleset → Type 0
HasNoTranslations rules = rules.translations ≡ no_translations

-- both keys of each state are the same
abbrev pub AreUntranslated : List State → Type 0
AreUntranslated states = (state : State) → Contains states state → state.wire ≡ state.stack

-- without translation rules it makes no difference where packets were captured, over the states that such rules make
abbrev pub TapChangesNothing : Type 0
TapChangesNothing =
    (job : RunJob) (other : Tap) (number : ℕ) (clock : Clock) (place : InterfacePlace) (view : View) (table : StateTable)
    → HasNoTranslations job.rules
    → AreUntranslated (purged_at clock table).states
    → step_of (record job { tap = other }) number clock place view table ≡ step_of job number clock place view table

abbrev pub MadeUntranslated : Type 0
MadeUntranslated =
    (job : RunJob) (number : ℕ) (clock : Clock) (place : InterfacePlace) (view : View) (table : StateTable) (state : State)
    → HasNoTranslations job.rules
    → (step_of job number clock place view table).change ≡ Some (Made state)
    → state.wire ≡ state.stack

-- it names the state, and nothing is written into it
pub record IsFollowed (state : State) (outcome : Outcome) : Type 0 where
  pub named : outcome.state ≡ Some state.number
  pub unwritten : outcome.bytes ≡ None

-- An answer to a packet that came in is shown as it leaves, to the sender of that packet. It is found by the state of
-- the packet, also if that was translated, on each interface to which the state is bound and which is filtered as the
-- packet's own is, over each later table in which the state still lives.
abbrev pub AnswersOnTheWireAreFollowed : Type 0
AnswersOnTheWireAreFollowed =
    (job : RunJob) (number next : ℕ) (clock now : Clock) (place back : InterfacePlace) (packet answer : Packet) (table after : StateTable) (state later : State)
    → job.tap ≡ tap.Wire
    → (step_of job number clock place (Ipv4 packet) table).change ≡ Some (Made state)
    → direction_of job place packet ≡ In
    → IsAnswerTo packet answer
    → direction_of job back answer ≡ Out
    → IsTable after
    → Contains after.states later
    → lives now later ≡ true
    → IsLater state later
    → meets later.rules.binding (To back) ≡ true
    → is_skipped job back ≡ is_skipped job place
    → IsFollowed later (step_of job next now back (Ipv4 answer) after)

-- A packet goes out by a state: as it reaches the firewall's filter it has the state's key on the side of the stack,
-- and as the state sends it on the key on the wire.
pub record GoesOutBy (packet sent : Packet) (state : State) : Type 0 where
  pub sent_is : sent ≡ sent_on packet (written_by Out packet state.wire state.stack)
  pub stack_protocol : state.stack.protocol ≡ packet.protocol
  pub wire_protocol : state.wire.protocol ≡ packet.protocol
  pub captured : GoesBy Out packet state.stack
  pub is_sent : GoesBy Out sent state.wire

-- Such a packet comes to the same as the wire shows it, over the same table, and nothing is written into it. So it has
-- the same line, and the state goes on alike.
abbrev pub SameOnTheWire : Type 0
SameOnTheWire =
    (job : RunJob) (number : ℕ) (clock : Clock) (place : InterfacePlace) (packet sent : Packet) (table : StateTable) (state : State)
    → IsTable table
    → Contains table.states state
    → lives clock state ≡ true
    → meets state.rules.binding (To place) ≡ true
    → GoesOutBy packet sent state
    → direction_of job place packet ≡ Out
    → direction_of job place sent ≡ Out
    → step_of (record job { tap = tap.Wire }) number clock place (Ipv4 sent) table
    ≡ record (step_of (record job { tap = tap.Stack }) number clock place (Ipv4 packet) table) { bytes = None }
