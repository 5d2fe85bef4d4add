-- What came back of batches.
use Rattle.std.proofs.Common.{◌≡◌, ◌∙◌, ◌≤◌, ℕ, List, [], ◌∷◌, ◌++◌, length, map, take, Option, Some, None, refl, sym, ap, arith}
use Rattle.std.specs.List.{AllZip}
use Rattle.std.proofs.lemmas.List.{append-nil, length-map, map-append, take-append-le}
use Rattle.pfr_claims.specs.declared.gathered.Gathered.{Gathered}
use Rattle.pfr_claims.specs.Batches.{Batch}
use Rattle.pfr_workers.specs.declared.incomplete.Incomplete.{Incomplete}
use Rattle.pfr_feed.proofs.ViewLemmas.{one_more}
use Rattle.pfr_work.specs.Traces.{CameBack, IsReturn, batches_of, found, missing}

-- ---- all came back

all_of : (entries : List Gathered) → AllZip IsReturn (batches_of entries) (map (λ entry. Some entry) entries)
all_of [] = tt
all_of (entry ∷ entries) = (refl, all_of entries)

all_found : (entries : List Gathered) → entries ≡ found (map (λ entry. Some entry) entries)
all_found [] = refl
all_found (entry ∷ entries) = ap (λ (more : List Gathered). entry ∷ more) (all_found entries)

none_missing : (entries : List Gathered) → [] ≡ missing (batches_of entries) (map (λ entry. Some entry) entries)
none_missing [] = refl
none_missing (entry ∷ entries) = none_missing entries

pub all_back : (entries : List Gathered) (lost : List Incomplete) → lost ≡ [] → CameBack (batches_of entries) entries lost
all_back entries lost none = record {
  returns = map (λ entry. Some entry) entries;
  of_batches = all_of entries;
  entries_are = all_found entries;
  lost_are = rw none (none_missing entries);
}

-- ---- one batch more

found_append : (returns more : List (Option Gathered)) → found (returns ++ more) ≡ found returns ++ found more
found_append [] more = refl
found_append (None ∷ returns) more = found_append returns more
found_append (Some entry ∷ returns) more = ap (λ (entries : List Gathered). entry ∷ entries) (found_append returns more)

missing_append : (batches : List Batch) (returns : List (Option Gathered)) (batch : Batch) (it : Option Gathered) → AllZip IsReturn batches returns → missing (batches ++ batch ∷ []) (returns ++ it ∷ []) ≡ missing batches returns ++ missing (batch ∷ []) (it ∷ [])
missing_append [] [] batch it all = refl
missing_append [] (r ∷ returns) batch it all = absurd all
missing_append (b ∷ batches) [] batch it all = absurd all
missing_append (b ∷ batches) (None ∷ returns) batch it all = ap (λ (more : List Batch). b ∷ more) (missing_append batches returns batch it all.1)
missing_append (b ∷ batches) (Some entry ∷ returns) batch it all = missing_append batches returns batch it all.1

-- it came back
pub one_back : (batches : List Batch) (entries entries' : List Gathered) (lost lost' : List Incomplete) (batch : Batch) (entry : Gathered) → CameBack batches entries lost → entry.claims.value ≡ batch → entries' ≡ entries ++ entry ∷ [] → lost' ≡ lost → CameBack (batches ++ batch ∷ []) entries' lost'
one_back batches entries entries' lost lost' batch entry came is grown same = record {
  returns = came.returns ++ Some entry ∷ [];
  of_batches = one_more IsReturn batches came.returns batch (Some entry) came.of_batches is;
  entries_are = grown ∙ ap (λ (es : List Gathered). es ++ entry ∷ []) came.entries_are ∙ sym (found_append came.returns (Some entry ∷ []));
  lost_are = ap (λ (ls : List Incomplete). map (λ it. it.claims.value) ls) same ∙ came.lost_are ∙ sym (append-nil (missing batches came.returns)) ∙ sym (missing_append batches came.returns batch (Some entry) came.of_batches);
}

-- passes of it are lost
pub one_lost : (batches : List Batch) (entries entries' : List Gathered) (lost lost' : List Incomplete) (batch : Batch) (it : Incomplete) → CameBack batches entries lost → it.claims.value ≡ batch → entries' ≡ entries → lost' ≡ lost ++ it ∷ [] → CameBack (batches ++ batch ∷ []) entries' lost'
one_lost batches entries entries' lost lost' batch it came is same grown = record {
  returns = came.returns ++ None ∷ [];
  of_batches = one_more IsReturn batches came.returns batch None came.of_batches tt;
  entries_are = same ∙ came.entries_are ∙ sym (append-nil (found came.returns)) ∙ sym (found_append came.returns (None ∷ []));
  lost_are =
      ap (λ (ls : List Incomplete). map (λ it. it.claims.value) ls) grown ∙ map-append (λ (it : Incomplete). it.claims.value) lost (it ∷ [])
      ∙ ap (λ (bs : List Batch). bs ++ it.claims.value ∷ []) came.lost_are ∙ ap (λ (b : Batch). missing batches came.returns ++ b ∷ []) is
      ∙ sym (missing_append batches came.returns batch None came.of_batches);
}

-- ---- lists that go together

-- the second list may go on
pub zip_take : {X Y : Type 0} (R : X → Y → Type 0) (xs : List X) (ys more : List Y) → AllZip R xs ys → AllZip R xs (take (length xs) (ys ++ more))
zip_take R [] [] more all = tt
zip_take R [] (y ∷ ys) more all = absurd all
zip_take R (x ∷ xs) [] more all = absurd all
zip_take R (x ∷ xs) (y ∷ ys) more all = (all.0, zip_take R xs ys more all.1)

-- the first ones of entries stay, where others come behind them
pub first_stay : (count : ℕ) (entries more : List Gathered) → count ≤ length entries → take count (batches_of (entries ++ more)) ≡ take count (batches_of entries)
first_stay count entries more within =
    let same = length-map entries (λ (entry : Gathered). entry.claims.value) in
    ap (take count) (map-append (λ (entry : Gathered). entry.claims.value) entries more) ∙ take-append-le count (batches_of entries) (batches_of more) (omega (arith, within, same))
