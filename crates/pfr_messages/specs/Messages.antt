-- Messages: what they say, the one spelling of each, and what the bytes at the front of a text spell.
use Rattle.std.specs.Prelude.{◌≡◌, ℕ, zero, suc, ◌+◌, ◌-◌, ◌*◌, ◌≤◌, ◌==◌, ◌&&◌, ◌||◌, Bool, true, false, not, nat_lt, nat_le, if◌then◌else◌, List, [], ◌∷◌, ◌++◌, length, take, drop, slice_index, Option, Some, None, Result, Ok, Err}
use Rattle.std.specs.Int.{from_be_bytes, to_be_bytes, w16, w64}
use Rattle.std.specs.List.{flat_map, list_all}
use Rattle.pfr_track.specs.declared.state.StateNumber.{StateNumber}
use Rattle.pfr_messages.specs.declared.error.SyncError.{SyncError}
use Rattle.pfr_messages.specs.declared.error.SyncError.TheVariants as refusals
use Rattle.pfr_messages.specs.declared.fault.Fault.{Fault}
use Rattle.pfr_messages.specs.declared.fault.Fault.TheVariants as faults
use Rattle.pfr_messages.specs.declared.fault.ReadError.{ReadError}
use Rattle.pfr_messages.specs.declared.fault.ReadError.TheVariants as errors
use Rattle.pfr_messages.specs.declared.sections.Head as H
use Rattle.pfr_messages.specs.declared.sections.Parts.{Parts}
use Rattle.pfr_messages.specs.declared.records.Insertion.{Insertion}
use Rattle.pfr_messages.specs.declared.records.Update.{Update}
use Rattle.pfr_messages.specs.declared.records.Deletion.{Deletion}
use Rattle.pfr_messages.specs.Fields.{◌>>=◌, Format, number_at}
use Rattle.pfr_messages.specs.Records.{insertion, update, deletion}

-- what a message says
pub record Content : Type 0 where
  -- the checksum of the ruleset's text
  pub checksum : List ℕ
  pub insertions : List Insertion
  pub updates : List Update
  pub deletions : List Deletion

-- ---- records of one kind

-- A kind of records: its action, how long a record is, its format, and the number of the state that a record is about.
pub record Kind (R : Type 0) : Type 0 where
  pub action : ℕ
  pub size : ℕ
  pub format : Format R
  pub number : R → StateNumber

abbrev pub inserts : Kind Insertion
inserts = record { action = 1; size = 242; format = insertion; number = λ r. r.number }

abbrev pub updating : Kind Update
updating = record { action = 4; size = 84; format = update; number = λ r. r.number }

abbrev pub deletes : Kind Deletion
deletes = record { action = 7; size = 12; format = deletion; number = λ r. r.number }

-- a number is above the last one, if there is one
abbrev pub rises : Option ℕ → ℕ → Bool
rises None n = true
rises (Some last) n = nat_lt last n

-- the numbers of records rise from above the last one
abbrev pub rise : {R : Type 0} → Kind R → Option ℕ → List R → Bool
rise kind last [] = true
rise kind last (r ∷ records) = rises last (kind.number r).0 && rise kind (Some (kind.number r).0) records

-- a header: action, zero and count
abbrev pub header : ℕ → ℕ → List ℕ
header action count = action ∷ 0 ∷ to_be_bytes w16 count

-- a header and the records behind it; nothing if there are no records
abbrev pub section : {R : Type 0} → Kind R → List R → List ℕ
section kind [] = []
section kind (r ∷ records) = header kind.action (length (r ∷ records)) ++ flat_map kind.format.spelling (r ∷ records)

-- ---- a message

-- the sections in the order of their actions, and the end: EOF, whose count is 1
abbrev pub sections : Content → List ℕ
sections c = section inserts c.insertions ++ (section updating c.updates ++ (section deletes c.deletions ++ header 12 1))

-- version 5, zero, how many bytes the message has, the checksum and the sections
abbrev pub spelling : Content → List ℕ
spelling c = 5 ∷ 0 ∷ (to_be_bytes w16 (20 + length (sections c)) ++ (c.checksum ++ sections c))

-- how many bytes a section has, by the size of a record and the count
abbrev pub section_len : ℕ → ℕ → ℕ
section_len size zero = 0
section_len size (suc count) = 4 + size * suc count

abbrev pub is_empty : {R : Type 0} → List R → Bool
is_empty [] = true
is_empty (r ∷ records) = false

-- what has a spelling: a message is about some state, and has at most 1480 bytes, so that with an IP header it has 1500
pub record Fits (c : Content) : Type 0 where
  pub checksum : length c.checksum ≡ 16
  pub insertions : list_all insertion.fits c.insertions ≡ true
  pub updates : list_all update.fits c.updates ≡ true
  pub deletions : list_all deletion.fits c.deletions ≡ true
  pub insertions_rise : rise inserts None c.insertions ≡ true
  pub updates_rise : rise updating None c.updates ≡ true
  pub deletions_rise : rise deletes None c.deletions ≡ true
  pub some : (is_empty c.insertions && (is_empty c.updates && is_empty c.deletions)) ≡ false
  pub short : 20 + length (sections c) ≤ 1480

-- the bytes spell what a message says
pub record Spells (text : List ℕ) (c : Content) : Type 0 where
  pub fits : Fits c
  pub bytes : text ≡ spelling c

-- ---- reading

-- a header that was read: its action and count, and what stands behind it
pub record Head : Type 0 where
  pub action : ℕ
  pub count : ℕ
  pub rest : List ℕ

-- an action of a message, above the one before; the end isn't the first
abbrev pub may_follow : ℕ → ℕ → Bool
may_follow before action =
    nat_lt before action && (action == 1 || (action == 4 || (action == 7 || (action == 12 && not (before == 0)))))

-- how long a record of an action is
abbrev pub size_of : ℕ → ℕ
size_of action =
    if action == inserts.action then inserts.size else
    if action == updating.action then updating.size else
    if action == deletes.action then deletes.size else 0

abbrev pub is_count : ℕ → ℕ → ℕ → Bool
is_count action count left =
    not (count == 0) && ((not (action == 12) || count == 1) && nat_le (count * size_of action) left)

-- the header behind a section of the action `before`, 0 for none
unfoldable pub head_at : ℕ → List ℕ → Result Head Fault
head_at before (action ∷ pad ∷ high ∷ low ∷ rest) =
    if not (may_follow before action) then Err (faults.Action action) else
    if not (pad == 0) then Err (faults.Differs (3 + length rest)) else
    if not (is_count action (256 * high + low) (length rest)) then Err faults.Count else
    Ok (record { action = action; count = 256 * high + low; rest = rest })
head_at before _ = Err faults.NoEnd

-- a record whose number is above the last one: its number, and the record
abbrev pub record_at : {R : Type 0} → Kind R → Option ℕ → List ℕ → Result (ℕ × R × List ℕ) Fault
record_at kind last bytes = do
  n ← number_at w64 bytes
  if rises last n.0
      then kind.format.reading bytes >>= (λ r. Ok (n.0, r.0, r.1))
      else Err (faults.Differs (length bytes))

-- `count` records whose numbers rise from above the last one
unfoldable pub records_at : {R : Type 0} → Kind R → Option ℕ → ℕ → List ℕ → Result (List R × List ℕ) Fault
records_at kind last zero bytes = Ok ([], bytes)
records_at kind last (suc count) bytes = do
  first ← record_at kind last bytes
  records ← records_at kind (Some first.0) count first.2
  Ok (first.1 ∷ records.0, records.1)

-- the records of a kind and the header behind them; no records if the header is of another kind
unfoldable pub section_at : {R : Type 0} → Kind R → Head → Result (List R × Head) Fault
section_at kind head =
    if not (head.action == kind.action) then Ok ([], head) else
    records_at kind None head.count head.rest >>= (λ records.
    head_at kind.action records.1 >>= (λ next. Ok (records.0, next)))

-- what the sections of a message say, which are all of the bytes
unfoldable pub sections_at : List ℕ → List ℕ → Result Content Fault
sections_at checksum bytes = do
  head ← head_at 0 bytes
  insertions ← section_at inserts head
  updates ← section_at updating insertions.1
  deletions ← section_at deletes updates.1
  if is_empty deletions.1.rest
      then Ok (record { checksum = checksum; insertions = insertions.0; updates = updates.0; deletions = deletions.0 })
      else Err faults.Trailing

-- the refusal of a fault in a message of `len` bytes
abbrev pub refusal : ℕ → Fault → SyncError
refusal len (faults.Action action) = refusals.Action action
refusal len faults.Count = refusals.Count
refusal len faults.NoEnd = refusals.NoEnd
refusal len faults.Trailing = refusals.Trailing
refusal len (faults.Differs left) = refusals.Fixed (len - left)

abbrev pub answer : ℕ → Result Content Fault → Result (Content × ℕ) SyncError
answer len (Ok c) = Ok (c, len)
answer len (Err fault) = Err (refusal len fault)

-- what the message at the front of bytes says, and how many bytes it has; or the first refusal from the left
unfoldable pub message_at : List ℕ → Result (Content × ℕ) SyncError
message_at bytes =
    if nat_lt (length bytes) 20 then Err refusals.Short else
    if not (slice_index bytes 0 == 5) then Err refusals.Version else
    if not (slice_index bytes 1 == 0) then Err (refusals.Fixed 1) else
    let len = from_be_bytes w16 (take 2 (drop 2 bytes)) in
    if nat_lt len 40 || nat_lt 1480 len then Err refusals.Length else
    if nat_lt (length bytes) len then Err refusals.Short else
    answer len (sections_at (take 16 (drop 4 bytes)) (drop 20 (take len bytes)))

-- ---- what the code answers

-- a header, without its place in memory
abbrev pub head : H.Head → Head
head h = record { action = h.action; count = h.count; rest = h.rest.now }

-- what records say, without their place in memory
abbrev pub content : Parts → Content
content p =
    record { checksum = p.checksum; insertions = p.insertions.items; updates = p.updates.items; deletions = p.deletions.items }

-- what a function returned, seen by view, is what reading gives, unless memory ran out
abbrev pub IsFault : {Y : Type 0} → ReadError → Result Y Fault → Type 0
IsFault errors.Memory read = Unit {0}
IsFault (errors.Fault fault) read = read ≡ Err fault

abbrev pub GivesRead : {X Y : Type 0} → (X → Y) → Result X ReadError → Result Y Fault → Type 0
GivesRead view (Ok x) read = read ≡ Ok (view x)
GivesRead view (Err e) read = IsFault e read

-- the refusal of an error in a message of `len` bytes
abbrev pub refusal_of : ℕ → ReadError → SyncError
refusal_of len errors.Memory = refusals.Memory
refusal_of len (errors.Fault fault) = refusal len fault

abbrev pub IsRefused : {Y : Type 0} → SyncError → Result Y SyncError → Type 0
IsRefused refusals.Memory read = Unit {0}
IsRefused refusal read = read ≡ Err refusal

abbrev pub GivesMessage : {X Y : Type 0} → (X → Y) → Result X SyncError → Result Y SyncError → Type 0
GivesMessage view (Ok x) read = read ≡ Ok (view x)
GivesMessage view (Err refusal) read = IsRefused refusal read
