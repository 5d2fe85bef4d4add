-- How many entries of each kind there are after an event.
use Rattle.std.proofs.Common.{◌≡◌, ℕ, ◌+◌, ◌-◌, ◌<◌, ◌≤◌, Bool, true, false, List, [], ◌∷◌, ◌++◌, length, take, drop, get_or, Option, Some, None, sym, refl, ap, ◌∙◌, subst, arith, length-append, take-append-drop}
use Rattle.std.specs.List.{cons_option, filter}
use Rattle.std.proofs.lemmas.List.{drop_more}
use Rattle.std.proofs.lemmas.List.Elements.{filter-append}
use Rattle.pfr_track.specs.declared.state.State.{State}
use Rattle.pfr_track.specs.declared.time.Clock.{Clock}
use Rattle.pfr_messages.specs.Messages.{Content}
use Rattle.pfr_sync.specs.declared.edit.Edit.{Edit}
use Rattle.pfr_sync.specs.declared.event.Event.{Event}
use Rattle.pfr_sync.specs.declared.origin.Origin.{Origin}
use Rattle.pfr_sync.specs.declared.queue.QueuedState.{QueuedState}
use Rattle.pfr_sync.specs.declared.queue.Action.{Action}
use Rattle.pfr_sync.specs.declared.queue.Action.TheVariants.{Insert, Update, Delete}
use Rattle.pfr_sync.specs.declared.sizes.Counts.{Counts}
use Rattle.pfr_sync.specs.Edits.{edited, entry_of}
use Rattle.pfr_sync.specs.Messages.{is_insert, is_update, is_delete, messages_by}
use Rattle.pfr_sync.specs.Queues.{IsQueue, begun, has_older, with_entry}
use Rattle.pfr_sync.specs.Sizes.{Exchanges, counts_of, exchanged, fits, one_of}
use Rattle.pfr_sync.proofs.QueueLemmas.{Adds, adds_full, adds_room, few_entries, kinds, queue_one, queued}

-- ---- one entry more

insertions_put : (state : State) (action : Option Action) (rest : List QueuedState) → length (filter is_insert (cons_option (entry_of state action) rest)) ≡ length (filter is_insert rest) + (one_of action).insertions
insertions_put state None rest = omega arith
insertions_put state (Some Insert) rest = omega arith
insertions_put state (Some Update) rest = omega arith
insertions_put state (Some Delete) rest = omega arith

updates_put : (state : State) (action : Option Action) (rest : List QueuedState) → length (filter is_update (cons_option (entry_of state action) rest)) ≡ length (filter is_update rest) + (one_of action).updates
updates_put state None rest = omega arith
updates_put state (Some Insert) rest = omega arith
updates_put state (Some Update) rest = omega arith
updates_put state (Some Delete) rest = omega arith

deletions_put : (state : State) (action : Option Action) (rest : List QueuedState) → length (filter is_delete (cons_option (entry_of state action) rest)) ≡ length (filter is_delete rest) + (one_of action).deletions
deletions_put state None rest = omega arith
deletions_put state (Some Insert) rest = omega arith
deletions_put state (Some Update) rest = omega arith
deletions_put state (Some Delete) rest = omega arith

-- ---- one in the place of another

count_append : (p : QueuedState → Bool) (front rest : List QueuedState) → length (filter p (front ++ rest)) ≡ length (filter p front) + length (filter p rest)
count_append p front rest = ap length (filter-append p front rest) ∙ length-append (filter p front) (filter p rest)

between : (front rest : List QueuedState) (before after : State) (old new : Option Action)
    → Exchanges old new (counts_of (front ++ cons_option (entry_of before old) rest)) (counts_of (front ++ cons_option (entry_of after new) rest))
between front rest before after old new =
    let was = cons_option (entry_of before old) rest in
    let is = cons_option (entry_of after new) rest in
    record {
      insertions = omega (arith, count_append is_insert front was, count_append is_insert front is, insertions_put before old rest, insertions_put after new rest);
      updates = omega (arith, count_append is_update front was, count_append is_update front is, updates_put before old rest, updates_put after new rest);
      deletions = omega (arith, count_append is_delete front was, count_append is_delete front is, deletions_put before old rest, deletions_put after new rest);
    }

-- an entry comes in
pub exchanges_new : (entries : List QueuedState) (place : ℕ) (state : State) (new : Option Action)
    → Exchanges None new (counts_of entries) (counts_of (edited state (record { place = place; old = None; new = new }) entries))
exchanges_new entries place state new =
    subst (λ (all : List QueuedState). Exchanges None new (counts_of all) (counts_of (edited state (record { place = place; old = None; new = new }) entries))) (take-append-drop place entries)
    (between (take place entries) (drop place entries) state state None new)

-- an entry gives way
pub exchanges_over : (entries : List QueuedState) (place : ℕ) (state : State) (entry : QueuedState) (new : Option Action) → place < length entries → entry ≡ get_or entries place entry
    → let old = Some entry.action in Exchanges old new (counts_of entries) (counts_of (edited state (record { place = place; old = old; new = new }) entries))
exchanges_over entries place state entry new within read =
    let at_place : drop place entries ≡ entry ∷ drop (place + 1) entries =
    drop_more entries place entry within ∙ ap (λ x. x ∷ drop (place + 1) entries) (sym read) in
    let all : take place entries ++ cons_option (Some entry) (drop (place + 1) entries) ≡ entries =
    ap (λ rest. take place entries ++ rest) (sym at_place) ∙ take-append-drop place entries in
    subst (λ (all : List QueuedState). Exchanges (Some entry.action) new (counts_of all) (counts_of (edited state (record { place = place; old = Some entry.action; new = new }) entries))) all
    (between (take place entries) (drop (place + 1) entries) entry.state state (Some entry.action) new)

-- ---- by the counts before

pub exchanged_is : (old new : Option Action) (before after : Counts) → Exchanges old new before after → exchanged before old new ≡ after
exchanged_is old new before after exchanges =
    let insertions : (before.insertions + (one_of new).insertions) - (one_of old).insertions ≡ after.insertions = omega (arith, exchanges.insertions) in
    let updates : (before.updates + (one_of new).updates) - (one_of old).updates ≡ after.updates = omega (arith, exchanges.updates) in
    let deletions : (before.deletions + (one_of new).deletions) - (one_of old).deletions ≡ after.deletions = omega (arith, exchanges.deletions) in
    rw (insertions, updates, deletions) refl

counts_one : (action : Action) (state : State) → one_of (Some action) ≡ counts_of (record { action = action; state = state } ∷ [])
counts_one Insert state = refl
counts_one Update state = refl
counts_one Delete state = refl

-- ---- a queue

-- the entries and their counts before
abbrev pub Keeps : Origin → List QueuedState → Counts → Type 0
Keeps origin entries counts = IsQueue origin entries × (counts ≡ counts_of entries)

-- one entry alone
pub keeps_one : (origin : Origin) (entries : List QueuedState) (action : Action) (state : State) (new : List QueuedState) (counts : Counts)
    → IsQueue origin entries → new ≡ record { action = action; state = state } ∷ [] → counts ≡ one_of (Some action) → Keeps origin new counts
keeps_one origin entries action state new counts queue is counted =
    rw (is, counted) (queue_one origin (record { action = action; state = state }) queue.interfaces queue.checksum, counts_one action state)

pub few_counted : (origin : Origin) (entries : List QueuedState) (counts : Counts) → Keeps origin entries counts → counts.insertions + (counts.updates + counts.deletions) ≤ 1000
few_counted origin entries counts keeps = rw keeps.1 (let few = few_entries origin entries keeps.0 in let all = kinds entries in omega (arith, few, all))

-- the counts after an edit
counts_edit : (origin : Origin) (entries : List QueuedState) (event : Event) (edit : Edit) (counts after : Counts)
    → Keeps origin entries counts
    → with_entry event entries ≡ edited event.state edit entries
    → Exchanges edit.old edit.new (counts_of entries) (counts_of (edited event.state edit entries))
    → after ≡ exchanged counts edit.old edit.new
    → after ≡ counts_of (with_entry event entries)
counts_edit origin entries event edit counts after keeps is exchanges made =
    made ∙ ap (λ c. exchanged c edit.old edit.new) keeps.1
    ∙ exchanged_is edit.old edit.new (counts_of entries) (counts_of (edited event.state edit entries)) exchanges
    ∙ ap counts_of (sym is)

pub enters_room : (origin : Origin) (clock : Clock) (entries : List QueuedState) (event : Event) (edit : Edit) (counts after : Counts) (new : List QueuedState)
    → Keeps origin entries counts
    → has_older (queued origin clock entries) event.clock ≡ false
    → with_entry event entries ≡ edited event.state edit entries
    → Exchanges edit.old edit.new (counts_of entries) (counts_of (edited event.state edit entries))
    → after ≡ exchanged counts edit.old edit.new
    → fits after ≡ true
    → new ≡ edited event.state edit entries
    → Adds origin clock entries event new [] × (after ≡ counts_of new)
enters_room origin clock entries event edit counts after new keeps older is exchanges made room written =
    let counted = counts_edit origin entries event edit counts after keeps is exchanges made in
    let leaves : new ≡ with_entry event entries = written ∙ sym is in
    (adds_room origin clock entries event new keeps.0 older (ap fits (sym counted) ∙ room) leaves, counted ∙ ap counts_of (sym leaves))

pub enters_full : (origin : Origin) (clock : Clock) (entries : List QueuedState) (event : Event) (edit : Edit) (counts after : Counts) (new : List QueuedState) (closed : List Content)
    → Keeps origin entries counts
    → has_older (queued origin clock entries) event.clock ≡ false
    → with_entry event entries ≡ edited event.state edit entries
    → Exchanges edit.old edit.new (counts_of entries) (counts_of (edited event.state edit entries))
    → after ≡ exchanged counts edit.old edit.new
    → fits after ≡ false
    → closed ≡ messages_by origin event.clock entries
    → new ≡ begun event ∷ []
    → Adds origin clock entries event new closed
enters_full origin clock entries event edit counts after new closed keeps older is exchanges made full message written =
    let counted = counts_edit origin entries event edit counts after keeps is exchanges made in
    adds_full origin clock entries event new closed keeps.0 older (ap fits (sym counted) ∙ full) message written
