-- The size of a message in bytes.
use Rattle.std.specs.Prelude.{◌≡◌, ℕ, ◌+◌, ◌-◌, ◌*◌, ◌==◌, Bool, nat_le, if◌then◌else◌, List, length, Option, Some, None}
use Rattle.std.specs.List.{filter}
use Rattle.pfr_sync.specs.declared.queue.QueuedState.{QueuedState}
use Rattle.pfr_sync.specs.declared.queue.Action.{Action}
use Rattle.pfr_sync.specs.declared.queue.Action.TheVariants.{Insert, Update, Delete}
use Rattle.pfr_sync.specs.declared.sizes.Counts.{Counts}
use Rattle.pfr_sync.specs.Messages.{is_delete, is_insert, is_update}

abbrev pub counts_of : List QueuedState → Counts
counts_of entries = record {
  insertions = length (filter is_insert entries);
  updates = length (filter is_update entries);
  deletions = length (filter is_delete entries);
}

-- the counts of one action, or of none
abbrev pub one_of : Option Action → Counts
one_of None = record { insertions = 0; updates = 0; deletions = 0 }
one_of (Some Insert) = record { insertions = 1; updates = 0; deletions = 0 }
one_of (Some Update) = record { insertions = 0; updates = 1; deletions = 0 }
one_of (Some Delete) = record { insertions = 0; updates = 0; deletions = 1 }

-- counts before and after the action told of a state is replaced by another
pub record Exchanges (old new : Option Action) (before after : Counts) : Type 0 where
  pub insertions : after.insertions + (one_of old).insertions ≡ before.insertions + (one_of new).insertions
  pub updates : after.updates + (one_of old).updates ≡ before.updates + (one_of new).updates
  pub deletions : after.deletions + (one_of old).deletions ≡ before.deletions + (one_of new).deletions

-- the counts after, computed from those before
abbrev pub exchanged : Counts → Option Action → Option Action → Counts
exchanged before old new = record {
  insertions = (before.insertions + (one_of new).insertions) - (one_of old).insertions;
  updates = (before.updates + (one_of new).updates) - (one_of old).updates;
  deletions = (before.deletions + (one_of new).deletions) - (one_of old).deletions;
}

-- a section has a header of four bytes and its records; there is none without records
abbrev pub section_size : ℕ → ℕ → ℕ
section_size size count = if count == 0 then 0 else 4 + size * count

-- a header of twenty bytes, the sections and an end of four bytes
abbrev pub size_of : Counts → ℕ
size_of counts = 24 + (section_size 242 counts.insertions + (section_size 84 counts.updates + section_size 12 counts.deletions))

abbrev pub fits : Counts → Bool
fits counts = nat_le (size_of counts) 1480

abbrev pub has_room : List QueuedState → Bool
has_room entries = fits (counts_of entries)
