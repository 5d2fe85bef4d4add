-- What a run has come to: the fold of its packets in the order of the capture, one after the other.
use Rattle.std.specs.Prelude.{ℕ, ◌+◌, ◌==◌, max, if◌then◌else◌, List, [], ◌∷◌, ◌++◌, Option, Some, None, fold, map}
use Rattle.pfr_net.specs.declared.interface.IfName.{IfName}
use Rattle.pfr_net.specs.declared.interface.InterfacePlace.{InterfacePlace}
use Rattle.pfr_ruleset.specs.declared.interface.Interface.{Interface}
use Rattle.pfr_ruleset.specs.Rulesets.{counts}
use Rattle.pfr_headers.specs.declared.change.Change.{Change}
use Rattle.pfr_headers.specs.Rewriting.{rewritten}
use Rattle.pfr_headers.specs.View.{view_of}
use Rattle.pfr_track.specs.declared.time.Clock.{Clock}
use Rattle.pfr_track.specs.declared.state.State.{State}
use Rattle.pfr_states.specs.declared.change.Change as tables
use Rattle.pfr_states.specs.declared.change.Change.TheVariants.{Purge, Apply}
use Rattle.pfr_states.specs.declared.change.TableChange.{TableChange}
use Rattle.pfr_states.specs.Answers.{purged_at}
use Rattle.pfr_states.specs.States.{StateTable, due, empty}
use Rattle.pfr_packet.specs.declared.outcome.Outcome.{Outcome}
use Rattle.pfr_packet.specs.Job.{RunJob}
use Rattle.pfr_packet.specs.Steps.{step_of}
use Rattle.pfr_packet.specs.Verdicts.{is_written}
use Rattle.pfr_messages.specs.Messages.{Content}
use Rattle.pfr_sync.specs.declared.event.Event.{Event}
use Rattle.pfr_sync.specs.declared.origin.Origin.{Origin}
use Rattle.pfr_sync.specs.Messages.{closed_at, message_of, open_at}
use Rattle.pfr_sync.specs.Origins.{checksum_of}
use Rattle.pfr_sync.specs.Queues.{plain_names}
use Rattle.pfr_telling.specs.Telling.{changed, events_of}
use Rattle.pfr_commit.specs.declared.counters.Counters.{Counters}
use Rattle.pfr_commit.specs.Counters.{counted, nothing_counted}
use Rattle.pfr_commit.specs.Lines.{verdict_line}

-- a packet as its capture has it: the interface on which it was captured, the link type, the seconds, the 16 bytes of
-- the record's header, the captured bytes
pub record Frame : Type 0 where
  pub place : InterfacePlace
  pub link : ℕ
  pub seconds : ℕ
  pub header : List ℕ
  pub bytes : List ℕ

-- texts by the places of interfaces
abbrev pub ByPlace : Type 0
ByPlace = ℕ → List ℕ

-- no text at any place
abbrev pub nowhere : ByPlace
nowhere = λ place. []

-- a text at one place
abbrev pub only_at : ℕ → List ℕ → ByPlace
only_at place text = λ other. if other == place then text else []

-- texts, each with another one behind it
abbrev pub each_joined : ByPlace → ByPlace → ByPlace
each_joined texts more = λ place. texts place ++ more place

pub record World : Type 0 where
  -- the number of packets
  pub count : ℕ
  -- the greatest second of their records
  pub clock : Clock
  -- the states that they left
  pub table : StateTable
  pub counters : Counters
  -- the verdict lines, and the passed packets of each interface, which stand in its output after the header of its
  -- capture
  pub verdicts : List ℕ
  pub packets : ByPlace
  -- what they did to the table
  pub changes : List tables.Change
  -- what became of states, as far as a standby is told of it
  pub events : List Event

-- ---- one packet

abbrev pub clock_at : Clock → Frame → Clock
clock_at clock frame = record { 0 = max clock.0 frame.seconds }

-- the bytes of a frame with what is written into them
abbrev pub with_bytes : ℕ → Option Change → List ℕ → List ℕ
with_bytes link None bytes = bytes
with_bytes link (Some change) bytes = rewritten link change bytes

-- what a packet adds to the packets: its record, unless it is blocked
unfoldable pub packet_text : Frame → Outcome → List ℕ
packet_text frame outcome = if is_written outcome.verdict then frame.header ++ with_bytes frame.link outcome.bytes frame.bytes else []

-- the packets of each interface, with this packet behind those of its own interface
abbrev pub with_packet : Frame → Outcome → ByPlace → ByPlace
with_packet frame outcome texts = each_joined texts (only_at frame.place.0 (packet_text frame outcome))

-- a purge, if it removes a state
abbrev pub purge_by : Clock → Option State → List tables.Change
purge_by clock None = []
purge_by clock (Some state) = Purge clock ∷ []

-- what the packet itself does to the table
abbrev pub apply_by : Option TableChange → List tables.Change
apply_by None = []
apply_by (Some change) = Apply change ∷ []

-- what a packet does to the table at its clock
abbrev pub changes_of : Clock → Option TableChange → List State → List tables.Change
changes_of clock change states = purge_by clock (due clock states) ++ apply_by change

-- a world after its next packet came to an outcome at a clock
unfoldable pub with_outcome : RunJob → World → Frame → Clock → Outcome → World
with_outcome job world frame clock outcome = record {
  count = world.count + 1;
  clock = clock;
  table = changed outcome.change (purged_at clock world.table);
  counters = counted (view_of frame.link frame.bytes) outcome world.counters;
  verdicts = world.verdicts ++ verdict_line job.rules.interfaces (world.count + 1) clock frame.place outcome;
  packets = with_packet frame outcome world.packets;
  changes = world.changes ++ changes_of clock outcome.change world.table.states;
  events = world.events ++ events_of clock outcome.change world.table.states;
}

-- a world after one packet more
unfoldable pub after : RunJob → World → Frame → World
after job world frame =
    with_outcome job world frame (clock_at world.clock frame)
    (step_of job (world.count + 1) (clock_at world.clock frame) frame.place (view_of frame.link frame.bytes) world.table)

-- ---- a run

-- the world before the first packet
unfoldable pub opening : RunJob → World
opening job = record {
  count = 0;
  clock = record { 0 = 0 };
  table = empty job.rules.options.state_limit;
  counters = nothing_counted (counts job.rules).0 (counts job.rules).1;
  verdicts = [];
  packets = nowhere;
  changes = [];
  events = [];
}

-- a world after these packets more
unfoldable pub world_after : RunJob → World → List Frame → World
world_after job world frames = fold (after job) world frames

unfoldable pub world_of : RunJob → List Frame → World
world_of job frames = world_after job (opening job) frames

-- ---- what is written of it

abbrev pub names_of : List Interface → List IfName
names_of interfaces = map (λ interface. interface.name) interfaces

-- who tells a standby: the interfaces, the checksum of the ruleset's text, and the number of the firewall (pf.conf(5),
-- "set hostid")
abbrev pub origin_of : RunJob → Origin
origin_of job = record { interfaces = plain_names (names_of job.interfaces); checksum = checksum_of job.text; creator = job.rules.options.host_id }

-- verdict lines, the passed packets of each interface, and what a standby is told
pub record Texts : Type 0 where
  pub verdicts : List ℕ
  pub packets : ByPlace
  pub messages : List Content

-- what is written by then: of the events all messages but the one of the part that may go on at the clock
abbrev pub online : RunJob → World → Texts
online job world = record { verdicts = world.verdicts; packets = world.packets; messages = closed_at (origin_of job) world.clock world.events }

-- the message of that part, if one is told
abbrev pub last_message : RunJob → World → List Content
last_message job world = message_of (origin_of job) (open_at (origin_of job) world.clock world.events)

-- ---- texts

abbrev pub no_texts : Texts
no_texts = record { verdicts = []; packets = nowhere; messages = [] }

-- texts appended to others
abbrev pub joined : Texts → Texts → Texts
joined texts more = record {
  verdicts = texts.verdicts ++ more.verdicts;
  packets = each_joined texts.packets more.packets;
  messages = texts.messages ++ more.messages;
}
