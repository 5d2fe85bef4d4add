-- What has come, gone through one by one.
use Rattle.std.proofs.Common.{◌≡◌, ◌<◌, ◌≤◌, ◌+◌, ◌++◌, ◌∙◌, ℕ, Bool, true, false, List, [], ◌∷◌, length, get_or, nat_le, take, refl, sym, ap, subst, arith}
use Rattle.std.specs.List.{Contains, FoldsTo, filter}
use Rattle.std.proofs.lemmas.List.{append-nil, take_all, take_more}
use Rattle.std.proofs.lemmas.List.Concat.{flat_map-append}
use Rattle.std.proofs.lemmas.List.Elements.{All-contains, Contains-append_right, filter-append, filter_more}
use Rattle.pfr_track.specs.declared.time.Clock.{Clock}
use Rattle.std.specs.declared.cmp.Reverse.{Reverse}
use Rattle.pfr_deadlines.specs.Waits.{Wait, come_at, waits_of}
use Rattle.pfr_deadlines.proofs.WaitLemmas.{filtered}
use Rattle.pfr_deadlines.specs.Wheel.{Bucket, StandRight, StandsIn, come_of, has_come, items_of}

module _ {B X : Type 0} (R : B → X → B → Type 0) where
  -- a part behind another one
  pub behind : (p q r : B) (xs ys : List X) → FoldsTo R p xs q → FoldsTo R q ys r → FoldsTo R p (xs ++ ys) r
  behind p q r [] ys first rest = subst (λ (s : B). FoldsTo R s ys r) (sym first) rest
  behind p q r (x ∷ xs) ys first rest = (first.0, first.1, behind first.0 q r xs ys first.2 rest)

  -- one more that passes a test
  pub one_more : (test : X → Bool) (start last after : B) (xs : List X) (i : ℕ) (d : X) → i < length xs → test (get_or xs i d) ≡ true → FoldsTo R start (filter test (take i xs)) last → R last (get_or xs i d) after → FoldsTo R start (filter test (take (i + 1) xs)) after
  one_more test start last after xs i d within passes so_far step =
      rw (filter_more test xs i d within, passes) (behind start last after (filter test (take i xs)) (get_or xs i d ∷ []) so_far (after, step, refl))

  pub all_of : (test : X → Bool) (start last : B) (xs : List X) (i : ℕ) → length xs ≤ i → FoldsTo R start (filter test (take i xs)) last → FoldsTo R start (filter test xs) last
  all_of test start last xs i past so_far = subst (λ (ys : List X). FoldsTo R start (filter test ys) last) (take_all i xs past) so_far

-- nothing passes a test that fails of each
none_passes : {X : Type 0} (test : X → Bool) (xs : List X) → ((x : X) → Contains xs x → test x ≡ false) → filter test xs ≡ []
none_passes test [] none = refl
none_passes test (x ∷ xs) none = rw (none x (0, omega arith, refl)) (none_passes test xs (λ y inside. none y (Contains-append_right (x ∷ []) xs y inside)))

module _ {B : Type 0} (R : B → Reverse Wait → B → Type 0) (clock : Clock) where
  -- one bucket more
  pub bucket_more : (start last after : B) (buckets : List Bucket) (i : ℕ) (d : Bucket) → i < length buckets → FoldsTo R start (come_of clock (items_of (take i buckets))) last → FoldsTo R last (come_of clock (get_or buckets i d).items) after
      → FoldsTo R start (come_of clock (items_of (take (i + 1) buckets))) after
  bucket_more start last after buckets i d within so_far own =
      let before = items_of (take i buckets) in
      let bucket = (get_or buckets i d).items in
      let more : items_of (take (i + 1) buckets) ≡ before ++ bucket = ap (λ (bs : List Bucket). items_of bs) (take_more buckets i d within) ∙ flat_map-append (λ (b : Bucket). b.items) (take i buckets) (get_or buckets i d ∷ []) ∙ ap (λ (items : List (Reverse Wait)). before ++ items) (append-nil bucket) in
      subst (λ (items : List (Reverse Wait)). FoldsTo R start items after) (sym (ap (λ (items : List (Reverse Wait)). come_of clock items) more ∙ filter-append (has_come clock) before bucket)) (behind R start last after (come_of clock before) (come_of clock bucket) so_far own)

  -- one of which nothing has come
  pub bucket_skipped : (start last : B) (buckets : List Bucket) (bound i : ℕ) → i < length buckets → StandRight bound buckets → ((wait : Reverse Wait) → StandsIn bound i wait → has_come clock wait ≡ false) → FoldsTo R start (come_of clock (items_of (take i buckets))) last
      → FoldsTo R start (come_of clock (items_of (take (i + 1) buckets))) last
  bucket_skipped start last (b ∷ buckets) bound i within right none so_far =
      bucket_more start last last (b ∷ buckets) i b within so_far
      (rw (none_passes (has_come clock) (get_or (b ∷ buckets) i b).items (λ wait inside. none wait (All-contains (StandsIn bound i) (get_or (b ∷ buckets) i b).items wait (right i b within) inside))) refl)
  bucket_skipped start last [] bound i within right none so_far = absurd (omega arith)

  pub all_buckets : (start last : B) (buckets : List Bucket) (i : ℕ) → length buckets ≤ i → FoldsTo R start (come_of clock (items_of (take i buckets))) last → FoldsTo R start (come_of clock (items_of buckets)) last
  all_buckets start last buckets i past so_far = subst (λ (bs : List Bucket). FoldsTo R start (come_of clock (items_of bs)) last) (take_all i buckets past) so_far

  -- the waits of those that come up
  pub of_items : (start last : B) (near far : List (Reverse Wait)) (between : B) → FoldsTo R start (come_of clock near) between → FoldsTo R between (come_of clock far) last → FoldsTo R start (come_of clock (near ++ far)) last
  of_items start last near far between first rest =
      subst (λ (items : List (Reverse Wait)). FoldsTo R start items last) (sym (filter-append (has_come clock) near far)) (behind R start between last (come_of clock near) (come_of clock far) first rest)

-- steps by what is waited for
pub by_waits : {B : Type 0} (S : B → Wait → B → Type 0) (clock : Clock) (start last : B) (items : List (Reverse Wait)) → FoldsTo (λ before item after. S before item.0 after) start (come_of clock items) last → FoldsTo S start (come_at clock (waits_of items)) last
by_waits {B} S clock start last items so = subst (λ (ws : List Wait). FoldsTo S start ws last) (filtered (λ (w : Wait). nat_le w.0.0 clock.0) items) (each start last (come_of clock items) so) where
  each : (p q : B) (xs : List (Reverse Wait)) → FoldsTo (λ before item after. S before item.0 after) p xs q → FoldsTo S p (waits_of xs) q
  each p q [] so = so
  each p q (x ∷ xs) so = (so.0, so.1, each so.0 q xs so.2)
