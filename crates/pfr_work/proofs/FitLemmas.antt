-- How many packets batches have that wait.
use Rattle.std.proofs.Common.{◌≡◌, ◌≤◌, ◌+◌, ◌^◌, ℕ, inl, inr, List, [], ◌∷◌, ◌++◌, length, Vec, refl, sym, ap, subst, arith}
use Rattle.std.proofs.lemmas.List.Elements.{All-head, All-nil, All-push, All-tail}
use Rattle.std.proofs.lemmas.List.Sums.{sum_by-append, sum_by-cons}
use Rattle.std.specs.declared.alloc.Global.{Global}
use Rattle.pfr_capture.specs.declared.capture.Record.{Record}
use Rattle.pfr_claims.specs.declared.gathered.Gathered.{Gathered}
use Rattle.pfr_workers.specs.declared.incomplete.Incomplete.{Incomplete}
use Rattle.pfr_work.specs.Running.{AllRoom}
use Rattle.pfr_work.specs.Turns.{Fits}

-- ---- batches that wait

module _ {X : Type 0} (records_of : X → List Record) (count_of workers_of : X → ℕ) where
  pub fits_push : (waiting : List X) (x : X) (count given given' workers : ℕ) → Fits waiting records_of count_of workers_of count given workers → (count_of x ≡ length (records_of x)) × (workers_of x ≡ workers)
      → given' ≡ given + count_of x → given' ≤ 2 ^ 43 → Fits (waiting ++ x ∷ []) records_of count_of workers_of count given' workers
  fits_push waiting x count given given' workers fits sizes more most =
      let sum = sum_by-append count_of waiting (x ∷ []) in
      let few = fits.few in
      record {
        few = omega (arith, sum, few, more);
        most = inr most;
        sizes = All-push (λ (y : X). (count_of y ≡ length (records_of y)) × (workers_of y ≡ workers)) waiting x fits.sizes sizes;
      }

  pub fits_same : (waiting : List X) (count given given' workers : ℕ) → Fits waiting records_of count_of workers_of count given workers → given' ≡ given → Fits waiting records_of count_of workers_of count given' workers
  fits_same waiting count given given' workers fits same = rw same fits

  -- the first one is taken
  pub fits_pop : (waiting later : List X) (x : X) (count count' given workers : ℕ) → Fits waiting records_of count_of workers_of count given workers → waiting ≡ x ∷ later → count' ≡ count + length (records_of x) → Fits later records_of count_of workers_of count' given workers
  fits_pop waiting later x count count' given workers fits is more =
      let both = subst (λ (xs : List X). Fits xs records_of count_of workers_of count given workers) is fits in
      let few = both.few in
      let sum = sum_by-cons count_of x later in
      let sized : X → Type 0 = λ y. (count_of y ≡ length (records_of y)) × (workers_of y ≡ workers) in
      let size = (All-head sized x later both.sizes).0 in
      record {
        few = omega (arith, few, sum, size, more);
        most = elim both.most [ inl none ↦ absurd (cc none) | inr most ↦ inr most ];
        sizes = All-tail sized x later both.sizes;
      }

  -- and may be
  pub fits_first : (waiting later : List X) (x : X) (count given workers : ℕ) → Fits waiting records_of count_of workers_of count given workers → waiting ≡ x ∷ later
      → (count + length (records_of x) ≤ 2 ^ 43) × (count_of x ≡ length (records_of x)) × (workers_of x ≡ workers)
  fits_first waiting later x count given workers fits is =
      let both = subst (λ (xs : List X). Fits xs records_of count_of workers_of count given workers) is fits in
      let few = both.few in
      let sum = sum_by-cons count_of x later in
      let sizes = All-head (λ (y : X). (count_of y ≡ length (records_of y)) × (workers_of y ≡ workers)) x later both.sizes in
      let size = sizes.0 in
      let most : given ≤ 2 ^ 43 = elim both.most [ inl none ↦ absurd (cc none) | inr most ↦ most ] in
      (omega (arith, few, sum, size, most), sizes.0, sizes.1)

  pub fits_pushed : (waiting waiting' : List X) (x : X) (count given given' workers : ℕ) → waiting' ≡ waiting ++ x ∷ [] → (count_of x ≡ length (records_of x)) × (workers_of x ≡ workers)
      → given' ≡ given + count_of x → given' ≤ 2 ^ 43 → Fits waiting records_of count_of workers_of count given workers → Fits waiting' records_of count_of workers_of count given' workers
  fits_pushed waiting waiting' x count given given' workers is sizes more most fits = rw is (fits_push waiting x count given given' workers fits sizes more most)

-- before the first turn
pub fits_none : {X : Type 0} (records_of : X → List Record) (count_of workers_of : X → ℕ) (waiting : List X) (count given workers : ℕ) → waiting ≡ [] → count ≡ 0 → Fits waiting records_of count_of workers_of count given workers
fits_none {X = X} records_of count_of workers_of waiting count given workers none first =
    subst (λ (w : List X). Fits w records_of count_of workers_of count given workers) (sym none)
    (record { few = omega (arith, first); most = inl refl; sizes = All-nil (λ (x : X). (count_of x ≡ length (records_of x)) × (workers_of x ≡ workers)) })

-- ---- room for what comes back

-- the first one is taken, and uses room for one at most
pub room_popped : {X : Type 0} (waiting later : List X) (x : X) (entries entries' : Vec Gathered Global) (lost lost' : Vec Incomplete Global) → waiting ≡ x ∷ later → AllRoom (length waiting) entries lost
    → ((n : ℕ) → AllRoom (n + 1) entries lost → AllRoom n entries' lost') → AllRoom (length later) entries' lost'
room_popped {X = X} waiting later x entries entries' lost lost' is room stays =
    let long = ap (λ (w : List X). length w) is in
    let of_entries = room.0 in
    let of_lost = room.1 in
    stays (length later) (omega (arith, long, of_entries), omega (arith, long, of_lost))
