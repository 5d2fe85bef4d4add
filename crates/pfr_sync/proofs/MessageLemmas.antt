-- The message of entries.
use Rattle.std.proofs.Common.{◌≡◌, true, false, List, [], ◌∷◌, length, map, nat_eq, refl, sym, subst, ◌∙◌, arith}
use Rattle.std.specs.List.{All, filter, list_all}
use Rattle.std.proofs.lemmas.Bool.{leb-true}
use Rattle.pfr_track.specs.declared.time.Clock.{Clock}
use Rattle.pfr_messages.specs.declared.records.Insertion.{Insertion}
use Rattle.pfr_messages.specs.declared.records.Update.{Update}
use Rattle.pfr_messages.specs.declared.records.Deletion.{Deletion}
use Rattle.pfr_messages.specs.Records.{insertion, update, deletion}
use Rattle.pfr_messages.specs.Messages.{Content, Fits, inserts, updating, deletes}
use Rattle.pfr_sync.specs.declared.origin.Origin.{Origin}
use Rattle.pfr_sync.specs.declared.queue.QueuedState.{QueuedState}
use Rattle.pfr_sync.specs.Events.{insertion_of, update_of, deletion_of}
use Rattle.pfr_sync.specs.Messages.{content_of, is_insert, is_update, is_delete, messages_by}
use Rattle.pfr_sync.specs.Queues.{IsQueue, rise}
use Rattle.pfr_sync.specs.Sizes.{counts_of, has_room, size_of}
use Rattle.pfr_sync.proofs.RiseLemmas.{rise_records, some_kind}
use Rattle.pfr_sync.proofs.SizeLemmas.{IsNamed, all_named, length_sections, short_is}

-- the records of a message fit
pub record Fit (c : Content) : Type 0 where
  pub insertions : list_all insertion.fits c.insertions ≡ true
  pub updates : list_all update.fits c.updates ≡ true
  pub deletions : list_all deletion.fits c.deletions ≡ true

-- what a message that tells entries needs of them
pub record AreTellable (origin : Origin) (entries : List QueuedState) : Type 0 where
  pub named : All (IsNamed origin) entries
  pub checksum : length origin.checksum ≡ 16
  pub in_order : rise entries ≡ true
  pub room : has_room entries ≡ true

tellable : (origin : Origin) (entries : List QueuedState) → Clock → IsQueue origin entries → AreTellable origin entries
tellable origin entries clock queue = record {
  named = all_named origin entries queue.interfaces;
  checksum = queue.checksum;
  in_order = queue.in_order;
  room = sym (short_is origin clock entries queue.interfaces queue.checksum) ∙ queue.short clock;
}

pub content_fits : (origin : Origin) (clock : Clock) (entry : QueuedState) (entries : List QueuedState)
    → AreTellable origin (entry ∷ entries)
    → Fit (content_of origin clock (entry ∷ entries))
    → Fits (content_of origin clock (entry ∷ entries))
content_fits origin clock entry entries are fit =
    let all : List QueuedState = entry ∷ entries in
    let few = leb-true (size_of (counts_of all)) 1480 are.room in
    let part = length_sections origin clock all are.named in
    record {
      checksum = are.checksum;
      insertions = fit.insertions;
      updates = fit.updates;
      deletions = fit.deletions;
      insertions_rise = rise_records inserts (λ (e : QueuedState). insertion_of origin clock e.state) is_insert (λ _. refl) all are.in_order;
      updates_rise = rise_records updating (λ (e : QueuedState). update_of origin clock e.state) is_update (λ _. refl) all are.in_order;
      deletions_rise = rise_records deletes (λ (e : QueuedState). deletion_of origin e.state) is_delete (λ _. refl) all are.in_order;
      some = some_kind (λ (e : QueuedState). insertion_of origin clock e.state) (λ (e : QueuedState). update_of origin clock e.state) (λ (e : QueuedState). deletion_of origin e.state) entry.action entry.state entries;
      short = omega arith;
    }

-- the message of entries from its records
pub record IsTold (origin : Origin) (clock : Clock) (entries : List QueuedState) (content : Content) : Type 0 where
  pub fits : Fits content
  pub is : content ∷ [] ≡ messages_by origin clock entries

pub told_from : (origin : Origin) (clock : Clock) (entries : List QueuedState) (insertions : List Insertion) (updates : List Update) (deletions : List Deletion)
    → IsQueue origin entries
    → nat_eq (length entries) 0 ≡ false
    → insertions ≡ map (λ e. insertion_of origin clock e.state) (filter is_insert entries)
    → updates ≡ map (λ e. update_of origin clock e.state) (filter is_update entries)
    → deletions ≡ map (λ e. deletion_of origin e.state) (filter is_delete entries)
    → list_all insertion.fits insertions ≡ true
    → list_all update.fits updates ≡ true
    → list_all deletion.fits deletions ≡ true
    → IsTold origin clock entries (record { checksum = origin.checksum; insertions = insertions; updates = updates; deletions = deletions })
told_from origin clock [] is us ds queue some insertions updates deletions i_fit u_fit d_fit = absurd cc
told_from origin clock (e ∷ entries) is us ds queue some insertions updates deletions i_fit u_fit d_fit =
    let fit : Fit (content_of origin clock (e ∷ entries)) = record {
      insertions = subst (λ (records : List Insertion). list_all insertion.fits records ≡ true) insertions i_fit;
      updates = subst (λ (records : List Update). list_all update.fits records ≡ true) updates u_fit;
      deletions = subst (λ (records : List Deletion). list_all deletion.fits records ≡ true) deletions d_fit;
    } in
    rw (insertions, updates, deletions) (record {
      fits = content_fits origin clock e entries (tellable origin (e ∷ entries) clock queue) fit;
      is = refl;
    })
