-- Records of the entries that pass a test.
use Rattle.std.proofs.Common.{◌≡◌, ℕ, ◌+◌, ◌<◌, ◌≤◌, Bool, true, false, List, [], ◌∷◌, ◌++◌, length, map, take, get_or, sym, refl, ap, ◌∙◌}
use Rattle.std.specs.List.{filter, list_all}
use Rattle.std.proofs.lemmas.List.{take_more, take_all, map-append, append-nil}
use Rattle.std.proofs.lemmas.List.Elements.{filter-append}
use Rattle.std.proofs.lemmas.List.Folds.{list_all-append}
use Rattle.pfr_sync.specs.declared.queue.QueuedState.{QueuedState}

pub record Gathers {R : Type 0} (p : QueuedState → Bool) (f : QueuedState → R) (fits : R → Bool) (items : List R) (entries : List QueuedState) : Type 0 where
  pub is : items ≡ map f (filter p entries)
  pub all : list_all fits items ≡ true

pub gathers_none : {R : Type 0} (p : QueuedState → Bool) (f : QueuedState → R) (fits : R → Bool) (entries : List QueuedState) → Gathers p f fits [] (take 0 entries)
gathers_none p f fits entries = record { is = refl; all = refl }

pub gathers_more : {R : Type 0} (p : QueuedState → Bool) (f : QueuedState → R) (fits : R → Bool) (items : List R) (entries : List QueuedState) (i : ℕ) (x : QueuedState) (r : R)
    → Gathers p f fits items (take i entries) → i < length entries → x ≡ get_or entries i x → p x ≡ true → r ≡ f x → fits r ≡ true
    → Gathers p f fits (items ++ r ∷ []) (take (i + 1) entries)
gathers_more p f fits items entries i x r so_far within read passes is it_fits =
    let more : take (i + 1) entries ≡ take i entries ++ x ∷ [] = take_more entries i x within ∙ ap (λ y. take i entries ++ y ∷ []) (sym read) in
    let kept : filter p (x ∷ []) ≡ x ∷ [] = rw passes refl in
    record {
      is = rw (more, filter-append p (take i entries) (x ∷ []), kept, map-append f (filter p (take i entries)) (x ∷ []), ← so_far.is, is) refl;
      all = rw (list_all-append fits items (r ∷ []), so_far.all, it_fits) refl;
    }

pub gathers_over : {R : Type 0} (p : QueuedState → Bool) (f : QueuedState → R) (fits : R → Bool) (items : List R) (entries : List QueuedState) (i : ℕ) (x : QueuedState)
    → Gathers p f fits items (take i entries) → i < length entries → x ≡ get_or entries i x → p x ≡ false
    → Gathers p f fits items (take (i + 1) entries)
gathers_over p f fits items entries i x so_far within read fails =
    let more : take (i + 1) entries ≡ take i entries ++ x ∷ [] = take_more entries i x within ∙ ap (λ y. take i entries ++ y ∷ []) (sym read) in
    let kept : filter p (x ∷ []) ≡ [] = rw fails refl in
    record {
      is = rw (more, filter-append p (take i entries) (x ∷ []), kept, append-nil (filter p (take i entries))) so_far.is;
      all = so_far.all;
    }

pub gathered_all : {R : Type 0} (p : QueuedState → Bool) (f : QueuedState → R) (fits : R → Bool) (items : List R) (entries : List QueuedState) (i : ℕ)
    → Gathers p f fits items (take i entries) → length entries ≤ i → Gathers p f fits items entries
gathered_all p f fits items entries i so_far all = rw (take_all i entries all) at so_far
