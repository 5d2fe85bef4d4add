-- The statements of the laws: what is written is read back.
use Rattle.std.specs.Prelude.{◌≡◌, ◌<◌, ℕ, true, List, [], ◌++◌, length, option_map, Ok}
use Rattle.std.specs.List.{All, flat_map}
use Rattle.pfr_net.specs.declared.address.Ipv4Address.{Ipv4Address}
use Rattle.pfr_messages.specs.Messages.{Content, Fits, spelling}
use Rattle.pfr_messages.specs.Records.{insertion}
use Rattle.pfr_standby.specs.Standby.{Standing, state_of}
use Rattle.pfr_sync.specs.declared.event.Event.{Event}
use Rattle.pfr_sync.specs.declared.origin.Origin.{Origin}
use Rattle.pfr_sync.specs.Events.{insertion_of}
use Rattle.pfr_sync.specs.Files.{ip_header}
use Rattle.pfr_sync.specs.Laws.{IsHistoryOfStates, kept_by, left}
use Rattle.pfr_sync.specs.Messages.{messages_of}
use Rattle.pfr_stream.specs.declared.framing.Framing.{Framing}
use Rattle.pfr_stream.specs.declared.framing.Framing.TheVariants.{File, Bare}
use Rattle.pfr_stream.specs.Outcomes.{AreTaken}
use Rattle.pfr_stream.specs.Stream.{AreWhole, taken_at}

-- a message after an IP header from an address
abbrev pub packet_of : Ipv4Address → Content → List ℕ
packet_of source content = ip_header source (length (spelling content)) ++ spelling content

-- the packets of messages that fit, one after the other, are these messages, with nothing behind them, from every address
abbrev pub FilesAreRead : Type 0
FilesAreRead =
    (source : Ipv4Address) (contents : List Content) → All Fits contents → AreWhole File (flat_map (packet_of source) contents) contents []

-- the spellings of messages that fit, one after the other, are these messages, with nothing behind them
abbrev pub SpellingsAreRead : Type 0
SpellingsAreRead = (contents : List Content) → All Fits contents → AreWhole Bare (flat_map spelling contents) contents []

-- What an insertion says of an event's state fits its fields. It does for each state that the code has, if the names of
-- the interfaces fit (pfr_sync, `insertion_of`).
abbrev pub IsSpelled : Origin → Event → Type 0
IsSpelled origin event = insertion.fits (insertion_of origin event.clock event.state) ≡ true

-- the messages of such events fit, from every origin whose checksum has 16 bytes
abbrev pub MessagesOfEventsFit : Type 0
MessagesOfEventsFit =
    (origin : Origin) (events : List Event) → length origin.checksum ≡ 16 → All (IsSpelled origin) events → All Fits (messages_of origin events)

-- messages as they are written, in packets or bare
abbrev pub text_of : Framing → Ipv4Address → List Content → List ℕ
text_of File source contents = flat_map (packet_of source) contents
text_of Bare source contents = flat_map spelling contents

-- a standby takes a text, and holds the states that events leave
pub record ReadsStatesLeft (framing : Framing) (text : List ℕ) (events : List Event) : Type 0 where
  -- once some messages are taken, the next one isn't refused
  pub goes_on :
      (rest : List ℕ) (count : ℕ) (standing : Standing) → AreTaken framing text rest count standing → 0 < length rest
      → (next : Standing) × (taken_at framing standing rest ≡ Ok next)
  -- once all are taken, each state is held as the events leave it, and no other state
  pub holds :
      (count : ℕ) (standing : Standing) → AreTaken framing text [] count standing → (n : ℕ) → state_of n standing ≡ option_map kept_by (left n events)

-- what is written of the events of states is such a text
abbrev pub AStandbyReadsTheStatesLeft : Type 0
AStandbyReadsTheStatesLeft =
    (framing : Framing) (source : Ipv4Address) (origin : Origin) (events : List Event)
    → length origin.checksum ≡ 16 → All (IsSpelled origin) events → IsHistoryOfStates events
    → ReadsStatesLeft framing (text_of framing source (messages_of origin events)) events
