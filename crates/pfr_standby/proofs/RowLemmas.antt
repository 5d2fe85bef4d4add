-- What a standby holds after some small messages, worked out.
use Rattle.std.proofs.Common.{◌≡◌, ℕ, List, [], ◌∷◌, replicate, None, Ok, Err, refl}
use Rattle.pfr_net.specs.declared.direction.Direction.TheVariants.{Out}
use Rattle.pfr_net.specs.declared.timeout.Timeout.{Timeout}
use Rattle.pfr_net.specs.declared.timeout.Timeout.TheVariants.{UdpFirst, UdpMultiple}
use Rattle.pfr_messages.specs.Messages.{Content}
use Rattle.pfr_messages.specs.declared.error.SyncError.TheVariants.{UnknownState}
use Rattle.pfr_messages.specs.declared.records.Insertion.{Insertion}
use Rattle.pfr_messages.specs.declared.records.Parties.{Parties}
use Rattle.pfr_messages.specs.declared.records.Peer.{Peer}
use Rattle.pfr_messages.specs.declared.records.Update.{Update}
use Rattle.pfr_messages.specs.declared.records.Deletion.{Deletion}
use Rattle.pfr_standby.specs.declared.kept.Kept.{Kept}
use Rattle.pfr_standby.specs.Standby.{standby_of}

-- ---- a query for a name from 10.0.0.5, port 1000, to 198.51.100.7

abbrev parties : Parties
parties = record {
  outside = record { address = record { 0 = 0xc6336407 }; port = record { 0 = 53 } };
  inside = record { address = record { 0 = 0x0a000005 }; port = record { 0 = 1000 } };
}

abbrev end : ℕ → Peer
end code = record { low = record { 0 = 0 }; high = record { 0 = 0 }; greatest_window = 0; code = code; scale = None }

abbrev insertion : ℕ → Insertion
insertion n = record {
  number = record { 0 = n };
  interface = record { bytes = replicate 16 0 };
  wire = parties;
  stack = parties;
  maker = end 1;
  other = end 0;
  rule = None;
  translation = None;
  age = 0;
  remaining = 60;
  forth = record { packets = 1; bytes = 60 };
  back = record { packets = 0; bytes = 0 };
  creator = 1;
  protocol = record { 0 = 17 };
  direction = Out;
  timeout = UdpFirst;
}

abbrev update : ℕ → Update
update n = record { number = record { 0 = n }; maker = end 2; other = end 1; creator = 1; remaining = 60; timeout = UdpMultiple }

abbrev deletion_by : ℕ → ℕ → Deletion
deletion_by creator n = record { number = record { 0 = n }; creator = creator }

abbrev deletion : ℕ → Deletion
deletion n = deletion_by 1 n

abbrev message : List Insertion → List Update → List Deletion → Content
message insertions updates deletions = record { checksum = replicate 16 0; insertions = insertions; updates = updates; deletions = deletions }

abbrev kept : ℕ → ℕ → Timeout → Kept
kept maker other timeout = record {
  wire = parties;
  stack = parties;
  protocol = record { 0 = 17 };
  direction = Out;
  rule = None;
  maker = end maker;
  other = end other;
  timeout = timeout;
}

-- ---- one message

inserted : standby_of (message (insertion 3 ∷ insertion 5 ∷ []) [] [] ∷ []) ≡ Ok ((3, kept 1 0 UdpFirst) ∷ (5, kept 1 0 UdpFirst) ∷ [])
inserted = refl

-- an update of a state that the same message inserts
inserted_updated : standby_of (message (insertion 1 ∷ []) (update 1 ∷ []) [] ∷ []) ≡ Ok ((1, kept 2 1 UdpMultiple) ∷ [])
inserted_updated = refl

-- and its deletion
inserted_updated_deleted : standby_of (message (insertion 1 ∷ []) (update 1 ∷ []) (deletion 1 ∷ []) ∷ []) ≡ Ok []
inserted_updated_deleted = refl

update_alone : standby_of (message [] (update 1 ∷ []) [] ∷ []) ≡ Err UnknownState
update_alone = refl

deletion_alone : standby_of (message [] [] (deletion 1 ∷ []) ∷ []) ≡ Err UnknownState
deletion_alone = refl

-- ---- behind a message that inserts state 4

abbrev first : Content
first = message (insertion 4 ∷ []) [] []

put_in_order : standby_of (first ∷ message (insertion 2 ∷ []) [] [] ∷ []) ≡ Ok ((2, kept 1 0 UdpFirst) ∷ (4, kept 1 0 UdpFirst) ∷ [])
put_in_order = refl

moved_on : standby_of (first ∷ message [] (update 4 ∷ []) [] ∷ []) ≡ Ok ((4, kept 2 1 UdpMultiple) ∷ [])
moved_on = refl

updated_deleted : standby_of (first ∷ message [] (update 4 ∷ []) (deletion 4 ∷ []) ∷ []) ≡ Ok []
updated_deleted = refl

-- a firewall may delete what another one made
deleted_by_another : standby_of (first ∷ message [] [] (deletion_by 2 4 ∷ []) ∷ []) ≡ Ok []
deleted_by_another = refl

twice : standby_of (first ∷ first ∷ []) ≡ Err UnknownState
twice = refl

-- an insertion of a held state is refused, though its deletion is in the same message
replaced : standby_of (first ∷ message (insertion 4 ∷ []) [] (deletion 4 ∷ []) ∷ []) ≡ Err UnknownState
replaced = refl

-- a message with a deletion of an unknown state is refused whole
deletes_unknown : standby_of (first ∷ message (insertion 2 ∷ []) [] (deletion 9 ∷ []) ∷ []) ≡ Err UnknownState
deletes_unknown = refl
