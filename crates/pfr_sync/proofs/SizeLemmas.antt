-- How many bytes a message of entries has.
use Rattle.std.proofs.Common.{◌≡◌, ℕ, suc, ◌+◌, ◌*◌, nat_le, List, [], ◌∷◌, ◌++◌, length, map, get_or, refl, ap, arith}
use Rattle.std.specs.List.{All, AllByRecursion, filter, flat_map}
use Rattle.std.proofs.lemmas.Bool.{ne_eqb}
use Rattle.std.proofs.lemmas.List.{length-append}
use Rattle.std.proofs.lemmas.List.Elements.{All-filter, All-weaker, recursion_from_All}
use Rattle.pfr_track.specs.declared.time.Clock.{Clock}
use Rattle.pfr_messages.specs.declared.records.Insertion.{Insertion}
use Rattle.pfr_messages.specs.Records.{insertion_spelling}
use Rattle.pfr_messages.specs.Messages.{Kind, inserts, updating, deletes, header, section, sections, spelling}
use Rattle.pfr_sync.specs.declared.origin.Origin.{Origin}
use Rattle.pfr_sync.specs.declared.queue.QueuedState.{QueuedState}
use Rattle.pfr_sync.specs.Events.{insertion_of, update_of, deletion_of, name_at}
use Rattle.pfr_sync.specs.Messages.{content_of, is_insert, is_update, is_delete, is_short}
use Rattle.pfr_sync.specs.Sizes.{counts_of, has_room, section_size, size_of}
use Rattle.pfr_sync.proofs.NameLemmas.{AllFit, fits_at, fits_sixteen}

length_insertion : (r : Insertion) → length r.interface.bytes ≡ 16 → length (insertion_spelling r) ≡ 242
length_insertion r is = simp (length-append, is)

length_flat : {R : Type 0} (g : R → List ℕ) (f : QueuedState → R) (size : ℕ) (entries : List QueuedState)
    → AllByRecursion (λ (e : QueuedState). length (g (f e)) ≡ size) entries → length (flat_map g (map f entries)) ≡ size * length entries
length_flat g f size [] each = omega arith
length_flat g f size (e ∷ entries) each =
    let rest = length_flat g f size entries each.1 in
    let here = each.0 in
    let all = length-append (g (f e)) (flat_map g (map f entries)) in
    omega arith

length_section : {R : Type 0} (kind : Kind R) (f : QueuedState → R) (size : ℕ) (entries : List QueuedState)
    → All (λ (e : QueuedState). length (kind.format.spelling (f e)) ≡ size) entries
    → length (section kind (map f entries)) ≡ section_size size (length entries)
length_section kind f size [] each = refl
length_section kind f size (e ∷ entries) each =
    let all = recursion_from_All (λ (e : QueuedState). length (kind.format.spelling (f e)) ≡ size) (e ∷ entries) each in
    let rest : length (flat_map kind.format.spelling (map f (e ∷ entries))) ≡ size * length (e ∷ entries) = length_flat kind.format.spelling f size (e ∷ entries) all in
    let more : suc (suc (suc (suc (length (flat_map kind.format.spelling (map f (e ∷ entries))))))) ≡ 4 + size * length (e ∷ entries) = omega (arith, rest) in
    rw (ne_eqb (suc (length entries)) 0 (λ is. absurd (omega arith))) more

-- the name of each state's interface has 16 bytes with its zeros
abbrev pub IsNamed : Origin → QueuedState → Type 0
IsNamed origin entry = length (name_at origin.interfaces entry.state.interface).bytes ≡ 16

-- so it is if each name is one as messages have it
pub all_named : (origin : Origin) (entries : List QueuedState) → AllFit origin.interfaces → All (IsNamed origin) entries
all_named origin entries fit k d within =
    let place = (get_or entries k d).state.interface in
    fits_sixteen (name_at origin.interfaces place) (fits_at origin.interfaces place fit)

pub length_sections : (origin : Origin) (clock : Clock) (entries : List QueuedState) → All (IsNamed origin) entries
    → 20 + length (sections (content_of origin clock entries)) ≡ size_of (counts_of entries)
length_sections origin clock entries named =
    let c = content_of origin clock entries in
    let added = filter is_insert entries in
    let long : All (λ (e : QueuedState). length (insertion_spelling (insertion_of origin clock e.state)) ≡ 242) added =
    All-weaker (IsNamed origin) (λ (e : QueuedState). length (insertion_spelling (insertion_of origin clock e.state)) ≡ 242)
    (λ e is. length_insertion (insertion_of origin clock e.state) is) added (All-filter is_insert (IsNamed origin) entries named) in
    let first = length_section inserts (λ e. insertion_of origin clock e.state) 242 added long in
    let second = length_section updating (λ e. update_of origin clock e.state) 84 (filter is_update entries) (λ k d within. refl) in
    let third = length_section deletes (λ e. deletion_of origin e.state) 12 (filter is_delete entries) (λ k d within. refl) in
    let all = length-append (section inserts c.insertions) (section updating c.updates ++ (section deletes c.deletions ++ header 12 1)) in
    let behind = length-append (section updating c.updates) (section deletes c.deletions ++ header 12 1) in
    let last = length-append (section deletes c.deletions) (header 12 1) in
    omega arith

length_message : (origin : Origin) (clock : Clock) (entries : List QueuedState) → All (IsNamed origin) entries → length origin.checksum ≡ 16
    → length (spelling (content_of origin clock entries)) ≡ size_of (counts_of entries)
length_message origin clock entries named sixteen =
    let all = length_sections origin clock entries named in
    let text = length-append origin.checksum (sections (content_of origin clock entries)) in
    omega arith

pub short_named : (origin : Origin) (clock : Clock) (entries : List QueuedState) → All (IsNamed origin) entries → length origin.checksum ≡ 16
    → is_short origin clock entries ≡ has_room entries
short_named origin clock entries named sixteen = ap (λ n. nat_le n 1480) (length_message origin clock entries named sixteen)

pub short_is : (origin : Origin) (clock : Clock) (entries : List QueuedState) → AllFit origin.interfaces → length origin.checksum ≡ 16
    → is_short origin clock entries ≡ has_room entries
short_is origin clock entries fit sixteen = short_named origin clock entries (all_named origin entries fit) sixteen
