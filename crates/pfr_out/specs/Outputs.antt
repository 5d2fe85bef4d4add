-- The outputs of a run, and how they grow.
use Rattle.std.specs.Prelude.{◌≡◌, ◌≢◌, ◌<◌, ◌+◌, ℕ, Bool, false, ◌&&◌, List, [], ◌++◌, map, IsTrue, slice_index_or}
use Rattle.std.specs.List.{list_all}
use Rattle.pfr_capture.specs.Device.{GrewByPart, Rose}
use Rattle.pfr_commit.specs.declared.emitted.Emitted.{Emitted}
use Rattle.pfr_commit.specs.declared.ending.Ending.{Ending}
use Rattle.pfr_commit.specs.Emissions.{by_place, packets_of}
use Rattle.pfr_commit.specs.World.{ByPlace, Texts, nowhere}
use Rattle.pfr_feed.specs.declared.report.Output.{Output}
use Rattle.pfr_feed.specs.declared.report.Output.TheVariants as output
use Rattle.pfr_out.specs.declared.settings.Form.{Form}
use Rattle.pfr_out.specs.declared.settings.Form.TheVariants as form
use Rattle.pfr_out.specs.declared.sinks.Sinks.{Sinks}
use Rattle.pfr_out.specs.Spelling.{Run, messages_text}

-- something of each sink
abbrev pub each_of : {S A : Type 0} → (S → A) → Sinks S → Sinks A
each_of f sinks = record { verdicts = f sinks.verdicts; packets = map f sinks.packets; counters = f sinks.counters; states = f sinks.states; messages = f sinks.messages }

-- what stands at an output; `none` if its sink isn't there
abbrev pub of_output : {A : Type 0} → A → Output → Sinks A → A
of_output none output.Verdicts sinks = sinks.verdicts
of_output none (output.Packets place) sinks = slice_index_or sinks.packets place none
of_output none output.Counters sinks = sinks.counters
of_output none output.States sinks = sinks.states
of_output none output.Messages sinks = sinks.messages

-- The order in which the outputs of a piece are written. A batch adds nothing to counters and states, the end of a run
-- nothing to verdicts and packets.
abbrev pub turn : Output → ℕ
turn output.Messages = 0
turn output.Counters = 1
turn output.States = 2
turn output.Verdicts = 3
turn (output.Packets place) = 4 + place

-- what the outputs hold
abbrev pub Outputs : Type 0
Outputs = Sinks (List ℕ)

-- whether all sinks tell their bytes
abbrev pub all_told : {S : Type 0} → (S → Bool) → Sinks S → Bool
all_told told sinks = (((told sinks.verdicts && list_all told sinks.packets) && told sinks.counters) && told sinks.states) && told sinks.messages

-- ---- pieces of text

-- a text for each output: the packets' by the place of their capture
pub record OutputTexts : Type 0 where
  pub verdicts : List ℕ
  pub packets : ByPlace
  pub counters : List ℕ
  pub states : List ℕ
  pub messages : List ℕ

abbrev pub output_text : Output → OutputTexts → List ℕ
output_text output.Verdicts texts = texts.verdicts
output_text (output.Packets place) texts = texts.packets place
output_text output.Counters texts = texts.counters
output_text output.States texts = texts.states
output_text output.Messages texts = texts.messages

abbrev pub nothing : OutputTexts
nothing = record { verdicts = []; packets = nowhere; counters = []; states = []; messages = [] }

abbrev pub headers_alone : List (List ℕ) → OutputTexts
headers_alone headers = record nothing { packets = by_place headers }

abbrev pub batch_alone : List ℕ → ByPlace → List ℕ → OutputTexts
batch_alone verdicts packets messages = record nothing { verdicts = verdicts; packets = packets; messages = messages }

-- texts as a run writes them
abbrev pub texts_alone : Run → Texts → OutputTexts
texts_alone run texts = batch_alone texts.verdicts texts.packets (messages_text run texts.messages)

abbrev pub ending_alone : List ℕ → List ℕ → List ℕ → OutputTexts
ending_alone counters states message = record nothing { counters = counters; states = states; messages = message }

-- what a batch emits, with its messages as they are spelled
abbrev pub emitted_alone : Emitted → List ℕ → OutputTexts
emitted_alone emitted messages = batch_alone emitted.verdicts.items (packets_of emitted.packets) messages

-- what stands at the end of a run, with its last message as it is spelled
abbrev pub last_alone : Ending → List ℕ → OutputTexts
last_alone ending message = ending_alone ending.counters.items ending.states.items message

-- each of the longer texts is the shorter one with its text of a piece behind it
abbrev pub Extends : (shorter longer piece : OutputTexts) → Type 0
Extends shorter longer piece = (o : Output) → output_text o longer ≡ output_text o shorter ++ output_text o piece

-- ---- how the outputs grow

-- Nothing is said of a sink that isn't there: it tells no bytes.

-- an output grew by its text of a piece
abbrev pub GrewAt : Output → (old new : Outputs) → OutputTexts → Type 0
GrewAt o old new piece = of_output [] o new ≡ of_output [] o old ++ output_text o piece

-- each output that tells its bytes grew by its text of a piece
abbrev pub Grew : (told : Sinks Bool) → (old new : Outputs) → OutputTexts → Type 0
Grew told old new piece = (o : Output) → IsTrue (of_output false o told) → GrewAt o old new piece

-- each output that tells its bytes is as it was
abbrev pub Untouched : (told : Sinks Bool) → (old new : Outputs) → Type 0
Untouched told old new = (o : Output) → IsTrue (of_output false o told) → of_output [] o new ≡ of_output [] o old

-- An output took a part of its text of a piece, without at least the last byte. The outputs before it took their texts,
-- and those after it nothing. Each of these facts holds if the output that it speaks of tells its bytes.
pub record PartWritten (told : Sinks Bool) (old new : Outputs) (piece : OutputTexts) (output : Output) : Type 0 where
  pub part : IsTrue (of_output false output told) → GrewByPart (of_output [] output old) (of_output [] output new) (output_text output piece)
  pub before : (o : Output) → IsTrue (of_output false o told) → turn o < turn output → GrewAt o old new piece
  pub behind : (o : Output) → IsTrue (of_output false o told) → turn output < turn o → of_output [] o new ≡ of_output [] o old

-- ---- by what the sinks show

-- something of each sink stays
abbrev pub Stay : {S A : Type 0} → (S → A) → (old new : Sinks S) → Type 0
Stay of old new = each_of of new ≡ each_of of old

-- the outputs grew by a piece
abbrev pub GrewBy : {S : Type 0} → (told : S → Bool) → (written : S → List ℕ) → (old new : Sinks S) → OutputTexts → Type 0
GrewBy told written old new piece = Grew (each_of told old) (each_of written old) (each_of written new) piece

-- an output took a part of its text of a piece
abbrev pub TookPart : {S : Type 0} → (told : S → Bool) → (written : S → List ℕ) → (old new : Sinks S) → OutputTexts → Output → Type 0
TookPart told written old new piece output = PartWritten (each_of told old) (each_of written old) (each_of written new) piece output

-- if no messages are written, their sink stays the same value, whatever it tells
abbrev pub KeepsMessages : {S : Type 0} → Form → (old new : Sinks S) → Type 0
KeepsMessages messages old new = messages ≡ form.None → new.messages ≡ old.messages

-- ---- failures

-- the count of failures of one sink rose, and those of the others stayed
pub record RoseAt (output : Output) (old new : Sinks ℕ) : Type 0 where
  pub rose : Rose (of_output 0 output old) (of_output 0 output new)
  pub others : (o : Output) → o ≢ output → of_output 0 o new ≡ of_output 0 o old
