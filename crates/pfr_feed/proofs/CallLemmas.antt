-- How the calls of a run go on.
use Rattle.std.proofs.Common.{◌≡◌, ◌∙◌, ◌<◌, Bool, true, false, ◌⊎◌, inl, inr, List, [], ◌∷◌, ◌++◌, length, refl, sym, ap, subst}
use Rattle.std.proofs.lemmas.List.{append-nil}
use Rattle.pfr_states.specs.declared.change.Change.{Change}
use Rattle.pfr_capture.specs.declared.capture.Record.{Record}
use Rattle.pfr_packet.specs.Job.{RunJob}
use Rattle.pfr_commit.specs.declared.book.Book.{Book}
use Rattle.pfr_commit.specs.Books.{StandsAt, job_of}
use Rattle.pfr_commit.specs.World.{Texts, World, opening}
use Rattle.pfr_feed.specs.Runs.{Call, Calls, Cut, IsPiece, Over, Point, Refused, behind, first_point, given_in, taken_in}
use Rattle.pfr_feed.specs.Runs.Call.{ended, gave, rested, took}
use Rattle.pfr_feed.specs.Transitions.{Transitions}
use Rattle.pfr_feed.specs.Turns.{CutsShort, HasCome, IsRefusedAt, TakesBatch, TakesWhole}

-- ---- what was given and taken

pub given_append : (xs ys : List Call) → given_in (xs ++ ys) ≡ given_in xs ++ given_in ys
given_append [] ys = refl
given_append (gave batch ∷ xs) ys = ap (λ (batches : List (List Record)). batch ∷ batches) (given_append xs ys)
given_append (ended ∷ xs) ys = given_append xs ys
given_append (took batch piece ∷ xs) ys = given_append xs ys
given_append (rested ∷ xs) ys = given_append xs ys

pub taken_append : (xs ys : List Call) → taken_in (xs ++ ys) ≡ taken_in xs ++ taken_in ys
taken_append [] ys = refl
taken_append (gave batch ∷ xs) ys = taken_append xs ys
taken_append (ended ∷ xs) ys = taken_append xs ys
taken_append (took batch piece ∷ xs) ys = ap (λ (batches : List (List Record)). batch ∷ batches) (taken_append xs ys)
taken_append (rested ∷ xs) ys = taken_append xs ys

-- ---- calls

module _ {F : Type 0} (feeds : Transitions F) (job : RunJob) where
  -- calls behind calls
  abbrev Goes : Point F → List Call → Point F → Type 0
  Goes old calls new = Calls feeds job old calls new

  goes_on : (xs : List Call) (old mid : Point F) (ys : List Call) (new : Point F) → Goes old xs mid → Goes mid ys new → Goes old (xs ++ ys) new
  goes_on [] old mid ys new first second = subst (λ (p : Point F). Goes p ys new) first second
  goes_on (gave batch ∷ xs) old mid ys new first second = (first.0, first.1, first.2, first.3, goes_on xs (record { world = old.world; feed = first.0; waiting = old.waiting ++ batch ∷ []; is_over = false }) mid ys new first.4 second)
  goes_on (ended ∷ xs) old mid ys new first second = (first.0, first.1, first.2, goes_on xs (record { world = old.world; feed = first.0; waiting = old.waiting; is_over = true }) mid ys new first.3 second)
  goes_on (took batch piece ∷ xs) old mid ys new first second = (first.0, first.1, first.2, first.3, first.4, goes_on xs (record { world = behind job old.world batch; feed = first.0; waiting = first.1; is_over = old.is_over }) mid ys new first.5 second)
  goes_on (rested ∷ xs) old mid ys new first second = (first.0, first.1, goes_on xs (record { world = old.world; feed = first.0; waiting = old.waiting; is_over = old.is_over }) mid ys new first.2 second)

  abbrev Come : (start : F) → List Call → World → Book → F → List (List Record) → Bool → Type 0
  Come start calls world book feed waiting is_over = HasCome feeds job start calls world book feed waiting is_over

  abbrev point : World → F → List (List Record) → Bool → Point F
  point world feed waiting is_over = record { world = world; feed = feed; waiting = waiting; is_over = is_over }

  -- before the first call
  pub come_first : (book : Book) (feed : F) → StandsAt book (opening job) → Come feed [] (opening job) book feed [] false
  come_first book feed stands = record { went = refl; stands = stands }

  -- a batch was given
  pub come_gave : (start : F) (calls : List Call) (world : World) (book : Book) (feed next : F) (waiting : List (List Record)) (is_over : Bool) (batch : List Record) → Come start calls world book feed waiting is_over → is_over ≡ false → length waiting < 3 → feeds.gives feed batch next
      → Come start (calls ++ gave batch ∷ []) world book next (waiting ++ batch ∷ []) is_over
  come_gave start calls world book feed next waiting is_over batch come open_is few gave_it = record {
    went = rw open_is (goes_on calls (first_point job start) (point world feed waiting is_over) (gave batch ∷ []) _ come.went (next, open_is, few, gave_it, refl));
    stands = come.stands;
  }

  -- the reading ended
  pub come_ended : (start : F) (calls : List Call) (world : World) (book : Book) (feed next : F) (waiting : List (List Record)) (is_over : Bool) → Come start calls world book feed waiting is_over → is_over ≡ false → feeds.ends feed next
      → Come start (calls ++ ended ∷ []) world book next waiting true
  come_ended start calls world book feed next waiting is_over come open_is ends_it = record {
    went = goes_on calls (first_point job start) (point world feed waiting is_over) (ended ∷ []) _ come.went (next, open_is, ends_it, refl);
    stands = come.stands;
  }

  -- the batch that a book takes, by what the run's job is
  taken_of : (book book' : Book) (batch : List Record) (piece : Texts) (changes : List Change) → job_of book ≡ job → TakesBatch book book' batch piece changes → (world : World) → StandsAt book world
      → StandsAt book' (behind job world batch) × IsPiece job world batch piece × ((behind job world batch).changes ≡ world.changes ++ changes)
  taken_of book book' batch piece changes same takes_it world stands =
      subst (λ (j : RunJob). StandsAt book' (behind j world batch) × IsPiece j world batch piece × ((behind j world batch).changes ≡ world.changes ++ changes)) same (takes_it world stands)

  -- the calls of a batch that is taken: its packets are taken back or not
  abbrev back_calls : (mid feed' : F) → (feeds.rests mid feed') ⊎ (feed' ≡ mid) → List Call
  back_calls mid feed' (inl back) = rested ∷ []
  back_calls mid feed' (inr same) = []

  back_goes : (world : World) (mid feed' : F) (later : List (List Record)) (is_over : Bool) (back : (feeds.rests mid feed') ⊎ (feed' ≡ mid)) → Goes (point world mid later is_over) (back_calls mid feed' back) (point world feed' later is_over)
  back_goes world mid feed' later is_over (inl back) = (feed', back, refl)
  back_goes world mid feed' later is_over (inr same) = ap (λ (f : F). point world f later is_over) same

  back_given : (mid feed' : F) (back : (feeds.rests mid feed') ⊎ (feed' ≡ mid)) → given_in (back_calls mid feed' back) ≡ []
  back_given mid feed' (inl back) = refl
  back_given mid feed' (inr same) = refl

  back_taken : (mid feed' : F) (back : (feeds.rests mid feed') ⊎ (feed' ≡ mid)) → taken_in (back_calls mid feed' back) ≡ []
  back_taken mid feed' (inl back) = refl
  back_taken mid feed' (inr same) = refl

  -- how far a run has come once the oldest batch was taken whole
  pub record TookOn (start : F) (old : List Call) (world : World) (book : Book) (feed : F) (later : List (List Record)) (is_over : Bool) (batch : List Record) : Type 0 where
    pub calls : List Call
    pub come : HasCome feeds job start calls (behind job world batch) book feed later is_over
    pub given : given_in calls ≡ given_in old
    pub taken : taken_in calls ≡ taken_in old ++ batch ∷ []

  pub come_took : (start : F) (calls : List Call) (world : World) (book book' : Book) (feed feed' : F) (waiting later : List (List Record)) (is_over : Bool) (batch : List Record) (changes : List Change)
      → Come start calls world book feed waiting is_over → waiting ≡ batch ∷ later → job_of book ≡ job → TakesWhole feeds book book' feed feed' batch changes → TookOn start calls world book' feed' later is_over batch
  come_took start calls world book book' feed feed' waiting later is_over batch changes come waits same whole =
      let it = taken_of book book' batch whole.piece changes same whole.taken world come.stands in
      let back = back_calls whole.mid feed' whole.back in
      record {
        calls = calls ++ took batch whole.piece ∷ back;
        come = record {
          went = goes_on calls (first_point job start) (point world feed waiting is_over) (took batch whole.piece ∷ back) _ come.went
              (whole.mid, later, waits, whole.took, it.1, back_goes (behind job world batch) whole.mid feed' later is_over whole.back);
          stands = it.0;
        };
        given = given_append calls (took batch whole.piece ∷ back) ∙ ap (λ (batches : List (List Record)). given_in calls ++ batches) (back_given whole.mid feed' whole.back) ∙ append-nil (given_in calls);
        taken = taken_append calls (took batch whole.piece ∷ back) ∙ ap (λ (batches : List (List Record)). taken_in calls ++ batch ∷ batches) (back_taken whole.mid feed' whole.back);
      }

  -- what such a batch does to the table
  pub took_changes : (world : World) (book book' : Book) (feed feed' : F) (batch : List Record) (changes : List Change) → StandsAt book world → job_of book ≡ job → TakesWhole feeds book book' feed feed' batch changes
      → (behind job world batch).changes ≡ world.changes ++ changes
  took_changes world book book' feed feed' batch changes stands same whole = (taken_of book book' batch whole.piece changes same whole.taken world stands).2

  -- ---- how it ends

  pub over_at : (start : F) (calls : List Call) (world : World) (book : Book) (feed : F) (waiting : List (List Record)) (is_over : Bool) → Come start calls world book feed waiting is_over → waiting ≡ [] → is_over ≡ true → Over book feed (point world feed waiting is_over)
  over_at start calls world book feed waiting is_over come none over = record { feed_is = refl; is_over = over; none_waits = none; stands = come.stands }

  pub cut_at : (start : F) (calls : List Call) (world : World) (book book' : Book) (feed feed' : F) (waiting later : List (List Record)) (is_over : Bool) (batch : List Record) → Come start calls world book feed waiting is_over → waiting ≡ batch ∷ later → job_of book ≡ job → CutsShort feeds book book' feed feed' batch
      → Cut feeds job book' feed' (point world feed waiting is_over)
  cut_at start calls world book book' feed feed' waiting later is_over batch come waits same short =
      let it = taken_of book book' batch short.piece short.changes same short.taken world come.stands in
      record { records = batch; later = later; waits = waits; piece = short.piece; piece_is = it.1; cut = short.cut; stands = it.0 }

  count_at : (world : World) (book : Book) → StandsAt book world → book.count ≡ world.count
  count_at world book stands = ap (λ (w : World). w.count) stands.left

  -- memory was refused before the next batch is taken
  pub refused_at : (start : F) (calls : List Call) (world : World) (book : Book) (feed : F) (waiting : List (List Record)) (is_over : Bool) → Come start calls world book feed waiting is_over → Refused book feed (point world feed waiting is_over)
  refused_at start calls world book feed waiting is_over come = record { feed_is = refl; stands = inl come.stands }

  -- or while it is
  pub refused_within : (start : F) (calls : List Call) (world : World) (book book' : Book) (feed feed' : F) (waiting later : List (List Record)) (is_over : Bool) (batch : List Record) → Come start calls world book feed waiting is_over → waiting ≡ batch ∷ later → feed' ≡ feed → IsRefusedAt book book' batch
      → Refused book' feed' (point world feed waiting is_over)
  refused_within start calls world book book' feed feed' waiting later is_over batch come waits same left =
      let count = count_at world book come.stands in
      record {
        feed_is = same;
        stands = elim left [
          | inl is ↦ inl (rw is come.stands)
          | inr stops ↦ inr (record { records = batch; later = later; waits = waits; is_over = stops.is_over; from = rw (sym count) stops.from; to = rw (sym count) stops.to })
        ];
      }
