-- An index: how often each place stands under each hash, and how many more there is room for.
use Rattle.std.specs.Prelude.{◌≡◌, refl, ℕ, ◌+◌, ◌-◌, ◌==◌, ◌&&◌, Bool, if◌then◌else◌, List}
use Rattle.std.specs.List.{sum_by}
use Rattle.std.specs.Coded.{Coded, code_by, coded×, coded_ℕ, coded_list}
use Rattle.std.proofs.Math.Path.{path_j}
use Rattle.pfr_places.specs.declared.place.Place.{Place}
use Rattle.pfr_index.specs.declared.hash.Hash.{Hash}

-- a place under a hash
pub record Entry : Type 0 where
  pub hash : Hash
  pub place : Place

abbrev pub is_same : Entry → Entry → Bool
is_same a b = a.hash.0 == b.hash.0 && a.place.0 == b.place.0

-- one for the entry itself, nothing for any other one
abbrev pub once : Entry → Entry → ℕ
once entry other = if is_same entry other then 1 else 0

-- how often an entry stands in a list
abbrev pub times_in : List Entry → Entry → ℕ
times_in entries other = sum_by (λ entry. once entry other) entries

-- what an index is; the entries in some order are there for the value's code alone, since a function has none
pub record Indexed : Type 0 where
  pub entries : List Entry
  pub times : Entry → ℕ
  pub counts : times_in entries ≡ times
  pub room : ℕ

-- the index of a list of entries
abbrev pub index_of : List Entry × ℕ → Indexed
index_of held = record { entries = held.0; times = times_in held.0; counts = refl; room = held.1 }

pub index_of_parts : (index : Indexed) → index_of (index.entries, index.room) ≡ index
index_of_parts index =
    path_j
    (λ times counts. index_of (index.entries, index.room) ≡ record { entries = index.entries; times = times; counts = counts; room = index.room })
    refl
    index.counts

abbrev entry_code : Coded Entry
entry_code = code_by (ℕ × ℕ) (coded× coded_ℕ coded_ℕ) (λ entry. (entry.hash.0, entry.place.0)) (λ pair. record { hash = record { 0 = pair.0 }; place = record { 0 = pair.1 } }) (λ _. refl)

-- an index is stored as the list of its entries and its room
abbrev pub indexed_code : Coded Indexed
indexed_code = code_by (List Entry × ℕ) (coded× (coded_list entry_code) coded_ℕ) (λ index. (index.entries, index.room)) index_of index_of_parts

-- how often an entry stands there after one is put in
abbrev pub with_entry : Entry → (Entry → ℕ) → Entry → ℕ
with_entry entry times other = once entry other + times other

-- how often after one is taken out; an entry that isn't there leaves all as it was
abbrev pub without_entry : Entry → (Entry → ℕ) → Entry → ℕ
without_entry entry times other = times other - once entry other

-- the number of places that an entry can name
abbrev pub places : ℕ
places = 4294967294
