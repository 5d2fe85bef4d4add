-- What a standby holds of states. It takes messages one by one, each whole or not at all.
use Rattle.std.specs.Prelude.{ℕ, ◌==◌, ◌&&◌, ◌||◌, Bool, true, not, nat_lt, is_some, if◌then◌else◌, List, [], ◌∷◌, map, fold, Option, Result, Ok, Err}
use Rattle.std.specs.BTreeMap.{insert_entry}
use Rattle.std.specs.List.{filter, list_all, list_any}
use Rattle.std.specs.Map.{lookup}
use Rattle.std.specs.Ordering.{nat_cmp}
use Rattle.pfr_messages.specs.Messages.{Content}
use Rattle.pfr_messages.specs.declared.error.SyncError.{SyncError}
use Rattle.pfr_messages.specs.declared.error.SyncError.TheVariants.{UnknownState}
use Rattle.pfr_messages.specs.declared.records.Insertion.{Insertion}
use Rattle.pfr_messages.specs.declared.records.Update.{Update}
use Rattle.pfr_messages.specs.declared.records.Deletion.{Deletion}
use Rattle.pfr_standby.specs.declared.kept.Kept.{Kept}

-- the states that a standby holds, each with its number, by rising number
abbrev pub Standing : Type 0
Standing = List (ℕ × Kept)

-- the numbers rise
abbrev pub rises : Standing → Bool
rises [] = true
rises (held ∷ standing) = list_all (λ other. nat_lt held.0 other.0) standing && rises standing

-- the state of a number, if it is held
abbrev pub state_of : ℕ → Standing → Option Kept
state_of n standing = lookup (λ m. m == n) standing

-- a state of the number is held
abbrev pub holds : ℕ → Standing → Bool
holds n standing = is_some (state_of n standing)

-- ---- one record

-- what is kept of an insertion
abbrev pub kept_of : Insertion → Kept
kept_of r = record {
  wire = r.wire;
  stack = r.stack;
  protocol = r.protocol;
  direction = r.direction;
  rule = r.rule;
  maker = r.maker;
  other = r.other;
  timeout = r.timeout;
}

-- a state after an update, which replaces both ends and the timeout
abbrev pub moved_by : Update → Kept → Kept
moved_by r kept = record kept { maker = r.maker; other = r.other; timeout = r.timeout }

-- the states after an insertion, whose state goes to the place of its number
abbrev pub with_insertion : Standing → Insertion → Standing
with_insertion standing r = insert_entry nat_cmp standing r.number.0 (kept_of r)

-- the states after an update: the state of its number, if it is held, gets the update's ends and timeout
abbrev pub with_update : Standing → Update → Standing
with_update standing r = map (λ held. if held.0 == r.number.0 then (held.0, moved_by r held.1) else held) standing

-- the states without the state of a number
abbrev pub without : Standing → ℕ → Standing
without standing n = filter (λ held. not (held.0 == n)) standing

-- the states without the state of a deletion
abbrev pub without_deletion : Standing → Deletion → Standing
without_deletion standing r = without standing r.number.0

-- ---- a message

-- a message inserts a state of the number
abbrev pub inserts : Content → ℕ → Bool
inserts content n = list_any (λ r. r.number.0 == n) content.insertions

-- the state of a number is held, or a message inserts it
abbrev pub is_known : Content → Standing → ℕ → Bool
is_known content standing n = holds n standing || inserts content n

-- one of the inserted states is held
abbrev pub some_is_held : List Insertion → Standing → Bool
some_is_held insertions standing = list_any (λ r. holds r.number.0 standing) insertions

-- a message updates a state that isn't known
abbrev pub updates_unknown : Content → Standing → Bool
updates_unknown content standing = list_any (λ r. not (is_known content standing r.number.0)) content.updates

-- a message deletes a state that isn't known
abbrev pub deletes_unknown : Content → Standing → Bool
deletes_unknown content standing = list_any (λ r. not (is_known content standing r.number.0)) content.deletions

-- A message is refused if it inserts a state that is held, or if it updates or deletes one that is neither held nor inserted by it.
abbrev pub refuses : Content → Standing → Bool
refuses content standing =
    some_is_held content.insertions standing || (updates_unknown content standing || deletes_unknown content standing)

-- the states after a message: its insertions come first, then its updates, then its deletions
abbrev pub standing_after : Content → Standing → Standing
standing_after content standing =
    fold without_deletion (fold with_update (fold with_insertion standing content.insertions) content.updates) content.deletions

-- the states after a message, unless it is refused
abbrev pub taken : Standing → Content → Result Standing SyncError
taken standing content = if refuses content standing then Err UnknownState else Ok (standing_after content standing)

-- the states after messages that are taken one by one, or the first refusal
abbrev pub all_taken : Standing → List Content → Result Standing SyncError
all_taken standing [] = Ok standing
all_taken standing (content ∷ contents) = elim (taken standing content) [
  | Ok after ↦ all_taken after contents
  | Err refusal ↦ Err refusal
]

-- what a new standby holds after messages
abbrev pub standby_of : List Content → Result Standing SyncError
standby_of contents = all_taken [] contents
