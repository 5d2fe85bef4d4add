-- How a stream of messages ends.
use Rattle.std.specs.Prelude.{◌≡◌, ◌≢◌, ◌⊎◌, ◌<◌, ◌≤◌, ◌+◌, ◌^◌, ℕ, Bool, IsTrue, List, [], ◌++◌, length, Result, Ok, Err, ⊤}
use Rattle.pfr_capture.specs.Device.{GrewByPart, Rose}
use Rattle.pfr_messages.specs.declared.error.SyncError.{SyncError}
use Rattle.pfr_messages.specs.declared.error.SyncError.TheVariants as refusals
use Rattle.pfr_messages.specs.Messages.{Content}
use Rattle.pfr_standby.specs.Standby.{Standing, all_taken}
use Rattle.pfr_stream.specs.declared.framing.Framing.{Framing}
use Rattle.pfr_stream.specs.declared.stop.StandbyStop.{StandbyStop}
use Rattle.pfr_stream.specs.declared.stop.StandbyStop.TheVariants as stop
use Rattle.pfr_stream.specs.Lines.{lines}
use Rattle.pfr_stream.specs.Stream.{AreWhole, framed_at, taken_at}

-- ---- messages that were taken

-- bytes are `count` messages, one after the other, and a rest; a standby that takes them all holds these states
pub record AreTaken (framing : Framing) (bytes rest : List ℕ) (count : ℕ) (standing : Standing) : Type 0 where
  pub contents : List Content
  pub whole : AreWhole framing bytes contents rest
  pub stands : all_taken [] contents ≡ Ok standing
  pub counted : length contents ≡ count
  pub at_most : count ≤ 2 ^ 40

-- the same of the bytes that came from a source
pub record HasTaken (framing : Framing) (text left rest : List ℕ) (count : ℕ) (standing : Standing) : Type 0 where
  pub came : List ℕ
  pub gave : text ≡ came ++ left
  pub taken : AreTaken framing came rest count standing

-- ---- why no further message is taken

-- what stands at the front of these bytes is refused: it is no message, or the states that are held refuse it
abbrev pub RefusedAt : Framing → Standing → List ℕ → SyncError → Type 0
RefusedAt framing standing bytes refusal = (0 < length bytes) × (taken_at framing standing bytes ≡ Err refusal)

-- there is no whole message, and the source failed; or bytes stand behind 2^40 messages
abbrev pub CanNotGoOn : Framing → (failures failures' count : ℕ) → List ℕ → Type 0
CanNotGoOn framing failures failures' count rest =
    (Rose failures failures' × (framed_at framing rest ≡ Err refusals.Short))
    ⊎ ((count ≡ 2 ^ 40) × (0 < length rest) × (failures' ≡ failures))

-- one of these, or no bytes are left
abbrev pub IsOver : Framing → (failures failures' count : ℕ) → Standing → (rest left : List ℕ) → Type 0
IsOver framing failures failures' count standing rest left =
    (rest ++ left ≡ []) ⊎ (((refusal : SyncError) × RefusedAt framing standing (rest ++ left) refusal)
    ⊎ CanNotGoOn framing failures failures' count rest)

-- ---- outcomes; W says what was written for the states that are held

-- all bytes are messages, and all were taken
pub record AllTaken (framing : Framing) (text : List ℕ) (W : Standing → Type 0) (count : ℕ) : Type 0 where
  pub standing : Standing
  pub taken : AreTaken framing text [] count standing
  pub wrote : W standing

-- the messages before one were taken, and that one is refused
pub record Refuses (framing : Framing) (text : List ℕ) (W : Standing → Type 0) (number : ℕ) (refusal : SyncError) : Type 0 where
  pub before : ℕ
  pub is_next : number ≡ before + 1
  pub at_most : number ≤ 2 ^ 40
  pub standing : Standing
  pub rest : List ℕ
  pub taken : AreTaken framing text rest before standing
  pub refused : RefusedAt framing standing rest refusal
  pub wrote : W standing

-- Messages were taken of the bytes that came, and P holds of the states that are held and of the bytes behind those messages.
pub record StopsAfter (framing : Framing) (text left : List ℕ) (P : Standing → List ℕ → Type 0) (count : ℕ) : Type 0 where
  pub standing : Standing
  pub rest : List ℕ
  pub taken : HasTaken framing text left rest count standing
  pub holds : P standing rest

-- ---- by what the devices show

-- a sink that tells its bytes grew by the lines of states
abbrev pub Wrote : {S : Type 0} → (told : S → Bool) → (written : S → List ℕ) → (old new : S) → Standing → Type 0
Wrote told written old new standing = IsTrue (told old) → written new ≡ written old ++ lines standing

-- the sink grew by a beginning of these lines, which lacks at least the last byte
abbrev pub WrotePart : {S : Type 0} → (told : S → Bool) → (written : S → List ℕ) → (old new : S) → Standing → Type 0
WrotePart told written old new standing = IsTrue (told old) → GrewByPart (written old) (written new) (lines standing)

-- if the source tells its bytes, they are `count` messages, all were taken, and the lines of the states held were
-- written
abbrev pub Ends : {R S : Type 0} → (tells : R → Bool) → (unread : R → List ℕ) → (told : S → Bool) → (written : S → List ℕ)
    → Framing → R → (sink sink' : S) → ℕ → Type 0
Ends tells unread told written framing source sink sink' count =
    IsTrue (tells source) → AllTaken framing (unread source) (Wrote told written sink sink') count

-- what each stop says if the source tells its bytes
abbrev pub Stops : {R S : Type 0} → (tells : R → Bool) → (unread : R → List ℕ) → (failures : R → ℕ) → (told : S → Bool)
    → (written : S → List ℕ) → Framing → (source source' : R) → (sink sink' : S) → StandbyStop → Type 0
Stops tells unread failures told written framing source source' sink sink' (stop.Message number refusal) =
    IsTrue (tells source) → Refuses framing (unread source) (Wrote told written sink sink') number refusal
Stops tells unread failures told written framing source source' sink sink' (stop.Read count) =
    IsTrue (tells source)
    → StopsAfter framing (unread source) (unread source')
    (λ standing rest. CanNotGoOn framing (failures source) (failures source') count rest × Wrote told written sink sink' standing) count
Stops tells unread failures told written framing source source' sink sink' (stop.Write count) =
    IsTrue (tells source)
    → StopsAfter framing (unread source) (unread source')
    (λ standing rest. IsOver framing (failures source) (failures source') count standing rest (unread source') × WrotePart told written sink sink' standing)
    count
Stops tells unread failures told written framing source source' sink sink' (stop.Memory count) =
    IsTrue (tells source) → StopsAfter framing (unread source) (unread source') (λ standing rest. written sink' ≡ written sink) count

-- ---- whatever the devices tell

-- A device stops a run only if its count of failures rose, but for a source with bytes behind 2^40 messages. A message isn't refused for
-- want of memory.
abbrev pub StopFails : StandbyStop → (source source' sink sink' : ℕ) → Type 0
StopFails (stop.Message number refusal) source source' sink sink' = (refusal ≢ refusals.Memory) × (source' ≡ source) × (sink' ≡ sink)
StopFails (stop.Read count) source source' sink sink' = (Rose source source' ⊎ ((count ≡ 2 ^ 40) × (source' ≡ source))) × (sink' ≡ sink)
StopFails (stop.Write count) source source' sink sink' = Rose sink sink'
StopFails (stop.Memory count) source source' sink sink' = sink' ≡ sink

-- no device failed
abbrev pub NoneFails : (source source' sink sink' : ℕ) → Type 0
NoneFails source source' sink sink' = (source' ≡ source) × (sink' ≡ sink)

-- how the counts of failures changed
abbrev pub Fails : {R S : Type 0} → (failures : R → ℕ) → (failures' : S → ℕ) → (source source' : R) → (sink sink' : S)
    → Result ℕ StandbyStop → Type 0
Fails failures failures' source source' sink sink' (Ok count) = NoneFails (failures source) (failures source') (failures' sink) (failures' sink')
Fails failures failures' source source' sink sink' (Err s) = StopFails s (failures source) (failures source') (failures' sink) (failures' sink')

-- the lines of some states were written, or a beginning of them if the sink failed
abbrev pub WritesLines : {S : Type 0} → (told : S → Bool) → (written : S → List ℕ) → (old new : S) → Result ℕ StandbyStop → Type 0
WritesLines told written old new (Ok count) = (standing : Standing) × Wrote told written old new standing
WritesLines told written old new (Err (stop.Message number refusal)) = (standing : Standing) × Wrote told written old new standing
WritesLines told written old new (Err (stop.Read count)) = (standing : Standing) × Wrote told written old new standing
WritesLines told written old new (Err (stop.Write count)) = (standing : Standing) × WrotePart told written old new standing
WritesLines told written old new (Err (stop.Memory count)) = new ≡ old

-- want of memory leaves the sink as it was
abbrev pub LeavesSink : {S : Type 0} → (old new : S) → StandbyStop → Type 0
LeavesSink old new (stop.Memory count) = new ≡ old
LeavesSink old new s = ⊤
