-- A standby that takes messages from a source, between two of its steps.
use Rattle.std.specs.Prelude.{◌≡◌, ◌≢◌, ◌<◌, ◌+◌, ◌-◌, ◌*◌, ◌^◌, ℕ, Bool, IsTrue, List, [], ◌++◌, length, drop, Result, Ok, Err}
use Rattle.pfr_capture.specs.Device.{Rose}
use Rattle.pfr_messages.specs.declared.error.SyncError.{SyncError}
use Rattle.pfr_messages.specs.declared.error.SyncError.TheVariants as refusals
use Rattle.pfr_messages.specs.Messages.{Content}
use Rattle.pfr_standby.specs.Standby.{Standing, taken}
use Rattle.pfr_stream.specs.declared.framing.Framing.{Framing}
use Rattle.pfr_stream.specs.declared.stop.StandbyStop.{StandbyStop}
use Rattle.pfr_stream.specs.declared.stop.StandbyStop.TheVariants as stop
use Rattle.pfr_stream.specs.declared.stop.Ending.{Ending}
use Rattle.pfr_stream.specs.declared.stop.Ending.TheVariants as ending
use Rattle.pfr_stream.specs.Outcomes.{CanNotGoOn, HasTaken, RefusedAt, WrotePart}
use Rattle.pfr_stream.specs.Stream.{framed_at}

pub record Reading : Type 0 where
  pub framing : Framing
  -- the bytes that came from the source and were not taken yet
  pub held : List ℕ
  -- the states that the standby holds
  pub standing : Standing
  -- how many messages were taken
  pub count : ℕ

-- nothing was read yet
abbrev pub start : Framing → Reading
start framing = record { framing = framing; held = []; standing = []; count = 0 }

-- of a text that begins with the bytes that came, these messages were taken
abbrev pub Took : Reading → (text left : List ℕ) → Type 0
Took reading text left = HasTaken reading.framing text left reading.held reading.count reading.standing

-- if `old` says what was taken of a text, then `new` says what is taken of it now
abbrev pub TakesOn : Reading → Reading → (before left : List ℕ) → Type 0
TakesOn old new before left = (text : List ℕ) → Took old text before → Took new text left

-- the message at the front of the bytes held was taken
pub record TakesFront (old new : Reading) : Type 0 where
  pub content : Content
  pub size : ℕ
  pub framed : framed_at old.framing old.held ≡ Ok (content, size)
  pub taken : taken old.standing content ≡ Ok new.standing
  pub held : new.held ≡ drop size old.held
  pub framing : new.framing ≡ old.framing
  pub count : new.count ≡ old.count + 1

-- what stands behind the messages taken is refused, and not for want of memory
pub record Refusal (tells : Bool) (reading : Reading) (left : List ℕ) (refusal : SyncError) : Type 0 where
  pub reason : refusal ≢ refusals.Memory
  pub may_follow : reading.count < 2 ^ 40
  pub refused : IsTrue tells → RefusedAt reading.framing reading.standing (reading.held ++ left) refusal

-- how reading ends, and how the source's count of failures changed
abbrev pub EndsAs : Bool → Reading → (left : List ℕ) → (failures failures' : ℕ) → Ending → Type 0
EndsAs tells reading left failures failures' ending.Clean = (reading.held ≡ []) × (IsTrue tells → left ≡ []) × (failures' ≡ failures)
EndsAs tells reading left failures failures' (ending.Refused refusal) = Refusal tells reading left refusal × (failures' ≡ failures)
EndsAs tells reading left failures failures' ending.Failed = CanNotGoOn reading.framing failures failures' reading.count reading.held

-- the same, by what the source shows
abbrev pub EndsIn : {R : Type 0} → (tells : R → Bool) → (unread : R → List ℕ) → (failures : R → ℕ) → (old new : R) → Reading → Ending → Type 0
EndsIn tells unread failures old new reading end = EndsAs (tells old) reading (unread new) (failures old) (failures new) end

-- how much may still come, for the end of the loop: each step takes a message, or reads bytes into the room that is left
abbrev pub ahead_of : Reading → ℕ
ahead_of reading = (2 ^ 40 - reading.count) * 4097 + (4096 - length reading.held)

-- ---- the end of a run

-- why the lines of states weren't written: the sink failed, or memory was refused and the sink is as it was
abbrev pub StopsWriting : {S : Type 0} → (told : S → Bool) → (written : S → List ℕ) → (failures : S → ℕ) → (old new : S) → Reading
    → StandbyStop → Type 0
StopsWriting told written failures old new reading (stop.Write count) =
    (count ≡ reading.count) × WrotePart told written old new reading.standing × Rose (failures old) (failures new)
StopsWriting told written failures old new reading (stop.Memory count) = (count ≡ reading.count) × (new ≡ old)
StopsWriting told written failures old new reading _ = ⊥

-- how a run ends, by how reading ended
abbrev pub outcome : ℕ → Ending → Result ℕ StandbyStop
outcome count ending.Clean = Ok count
outcome count (ending.Refused refusal) = Err (stop.Message (count + 1) refusal)
outcome count ending.Failed = Err (stop.Read count)
