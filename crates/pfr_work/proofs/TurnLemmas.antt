-- How turns go on, with batches that wait.
use Rattle.std.proofs.Common.{◌≡◌, ◌∙◌, ◌<◌, ◌≤◌, ◌+◌, ℕ, Bool, true, false, ◌⊎◌, inl, inr, List, [], ◌∷◌, ◌++◌, length, map, take, append_assoc, refl, sym, ap, subst, arith}
use Rattle.std.specs.List.{AllZip}
use Rattle.std.proofs.lemmas.List.{append-nil, length-append, length-map, map-append, take-append-le}
use Rattle.pfr_claims.specs.declared.gathered.Gathered.{Gathered}
use Rattle.pfr_claims.specs.Batches.{Batch}
use Rattle.pfr_workers.specs.declared.incomplete.Incomplete.{Incomplete}
use Rattle.pfr_states.specs.declared.change.Change.{Change}
use Rattle.pfr_capture.specs.declared.capture.Record.{Record}
use Rattle.pfr_packet.specs.Job.{RunJob}
use Rattle.pfr_commit.specs.declared.book.Book.{Book}
use Rattle.pfr_commit.specs.Books.{StandsAt, job_of}
use Rattle.pfr_commit.specs.Emissions.{frame_of}
use Rattle.pfr_commit.specs.World.{World, opening, world_of}
use Rattle.pfr_commit.proofs.WorldLemmas.{world_count}
use Rattle.pfr_feed.specs.Runs.{Call, Calls, Point, Went, behind, first_point, given_in, taken_in}
use Rattle.pfr_feed.specs.Runs.Call.{ended, gave}
use Rattle.pfr_feed.specs.Transitions.{Transitions}
use Rattle.pfr_feed.specs.Turns.{CutsShort, IsRefusedAt, TakesWhole}
use Rattle.pfr_feed.proofs.CallLemmas as goes
use Rattle.pfr_feed.proofs.ViewLemmas.{one_more}
use Rattle.pfr_work.specs.Traces.{IsOpenedFor, batches_of, packets_of}
use Rattle.pfr_work.specs.Turns.{OverSoFar, CutSoFar, RefusedSoFar, SoFar, StillTraces}
use Rattle.pfr_work.proofs.ReturnLemmas.{all_back, first_stay, one_back, one_lost, zip_take}
use Rattle.pfr_work.proofs.TraceLemmas.{world_is}

nothing_done : (job : RunJob) → [] ≡ (opening job).changes
unfolding opening
nothing_done job = refl

module _ {F : Type 0} (feeds : Transitions F) (job : RunJob) (workers : ℕ) where
  abbrev Far : (start : F) → Book → F → List (List Record) → Bool → List Batch → List Gathered → List Incomplete → List Batch → List Change → Type 0
  Far start book feed waiting is_over opened entries lost still_open shown = SoFar feeds job workers start book feed waiting is_over opened entries lost still_open shown

  abbrev point : World → F → List (List Record) → Bool → Point F
  point world feed waiting is_over = record { world = world; feed = feed; waiting = waiting; is_over = is_over }

  pub far_first : (book : Book) (feed : F) (opened : List Batch) (entries : List Gathered) (lost : List Incomplete) (shown : List Change) → StandsAt book (opening job) → opened ≡ [] → entries ≡ [] → lost ≡ [] → shown ≡ []
      → Far feed book feed [] false opened entries lost [] shown
  far_first book feed opened entries lost shown stands none no_entries none_lost nothing = record {
    calls = [];
    world = opening job;
    come = goes.come_first feeds job book feed stands;
    opens = rw none tt;
    own = rw (none, no_entries) refl;
    took = rw no_entries refl;
    none_lost = none_lost;
    shows = nothing ∙ nothing_done job;
  }

  -- a batch was given, and opened
  pub far_gave : (start : F) (book : Book) (feed next : F) (waiting : List (List Record)) (is_over : Bool) (opened opened' : List Batch) (entries : List Gathered) (lost : List Incomplete) (still_open : List Batch) (shown : List Change) (records : List Record) (batch : Batch)
      → Far start book feed waiting is_over opened entries lost still_open shown → is_over ≡ false → length waiting < 3 → feeds.gives feed records next → opened' ≡ opened ++ batch ∷ [] → IsOpenedFor workers batch records
      → Far start book next (waiting ++ records ∷ []) is_over opened' entries lost (still_open ++ batch ∷ []) shown
  far_gave start book feed next waiting is_over opened opened' entries lost still_open shown records batch far open_is few gave_it grown sizes = record {
    calls = far.calls ++ gave records ∷ [];
    world = far.world;
    come = goes.come_gave feeds job start far.calls far.world book feed next waiting is_over records far.come open_is few gave_it;
    opens = rw (grown, goes.given_append far.calls (gave records ∷ [])) (one_more (IsOpenedFor workers) opened (given_in far.calls) batch records far.opens sizes);
    own = grown ∙ ap (λ (bs : List Batch). bs ++ batch ∷ []) far.own ∙ append_assoc (batches_of entries) still_open (batch ∷ []);
    took = far.took ∙ ap (λ (bs : List (List Record)). length bs) (sym (goes.taken_append far.calls (gave records ∷ []) ∙ append-nil (taken_in far.calls)));
    none_lost = far.none_lost;
    shows = far.shows;
  }

  -- the reading ended
  pub far_ended : (start : F) (book : Book) (feed next : F) (waiting : List (List Record)) (is_over : Bool) (opened : List Batch) (entries : List Gathered) (lost : List Incomplete) (still_open : List Batch) (shown : List Change)
      → Far start book feed waiting is_over opened entries lost still_open shown → is_over ≡ false → feeds.ends feed next → Far start book next waiting true opened entries lost still_open shown
  far_ended start book feed next waiting is_over opened entries lost still_open shown far open_is ends_it = record {
    calls = far.calls ++ ended ∷ [];
    world = far.world;
    come = goes.come_ended feeds job start far.calls far.world book feed next waiting is_over far.come open_is ends_it;
    opens = subst (λ (bs : List (List Record)). AllZip (IsOpenedFor workers) opened bs) (sym (goes.given_append far.calls (ended ∷ []) ∙ append-nil (given_in far.calls))) far.opens;
    own = far.own;
    took = far.took ∙ ap (λ (bs : List (List Record)). length bs) (sym (goes.taken_append far.calls (ended ∷ []) ∙ append-nil (taken_in far.calls)));
    none_lost = far.none_lost;
    shows = far.shows;
  }

  -- the oldest batch came back, and goes from those that are open to the entries
  moved : (opened : List Batch) (entries entries' : List Gathered) (still_open later : List Batch) (batch : Batch) (entry : Gathered) → opened ≡ batches_of entries ++ still_open → still_open ≡ batch ∷ later → entry.claims.value ≡ batch → entries' ≡ entries ++ entry ∷ [] → opened ≡ batches_of entries' ++ later
  moved opened entries entries' still_open later batch entry own is entry_is grown =
      own ∙ ap (λ (bs : List Batch). batches_of entries ++ bs) is ∙ sym (append_assoc (batches_of entries) (batch ∷ []) later)
      ∙ ap (λ (b : Batch). (batches_of entries ++ b ∷ []) ++ later) (sym entry_is)
      ∙ ap (λ (bs : List Batch). bs ++ later) (sym (map-append (λ (e : Gathered). e.claims.value) entries (entry ∷ [])))
      ∙ ap (λ (es : List Gathered). batches_of es ++ later) (sym grown)

  one_longer : (entries entries' : List Gathered) (entry : Gathered) → entries' ≡ entries ++ entry ∷ [] → length entries' ≡ length entries + 1
  one_longer entries entries' entry grown = ap (λ (es : List Gathered). length es) grown ∙ length-append entries (entry ∷ [])

  -- the oldest batch was taken whole, and shown
  pub far_took : (start : F) (book book' : Book) (feed feed' : F) (waiting later : List (List Record)) (is_over : Bool) (opened : List Batch) (entries entries' : List Gathered) (lost lost' : List Incomplete) (still_open later_open : List Batch) (shown shown' : List Change) (records : List Record) (changes : List Change) (batch : Batch) (entry : Gathered)
      → Far start book feed waiting is_over opened entries lost still_open shown → waiting ≡ records ∷ later → still_open ≡ batch ∷ later_open → job_of book ≡ job → TakesWhole feeds book book' feed feed' records changes
      → entry.claims.value ≡ batch → entries' ≡ entries ++ entry ∷ [] → lost' ≡ lost → shown' ≡ shown ++ changes → Far start book' feed' later is_over opened entries' lost' later_open shown'
  far_took start book book' feed feed' waiting later is_over opened entries entries' lost lost' still_open later_open shown shown' records changes batch entry far waits open_is same whole entry_is grown none shows =
      let on = goes.come_took feeds job start far.calls far.world book book' feed feed' waiting later is_over records changes far.come waits same whole in
      let done = goes.took_changes feeds job far.world book book' feed feed' records changes far.come.stands same whole in
      let taken : length (taken_in on.calls) ≡ length (taken_in far.calls) + 1 = ap (λ (bs : List (List Record)). length bs) on.taken ∙ length-append (taken_in far.calls) (records ∷ []) in
      let entries_are = one_longer entries entries' entry grown in
      let took = far.took in
      record {
        calls = on.calls;
        world = behind job far.world records;
        come = on.come;
        opens = subst (λ (bs : List (List Record)). AllZip (IsOpenedFor workers) opened bs) (sym on.given) far.opens;
        own = moved opened entries entries' still_open later_open batch entry far.own open_is entry_is grown;
        took = omega (arith, taken, entries_are, took);
        none_lost = none ∙ far.none_lost;
        shows = shows ∙ ap (λ (cs : List Change). cs ++ changes) far.shows ∙ sym done;
      }

  -- ---- traces

  -- the entries are of the first batches that were opened
  first_opened : (count : ℕ) (opened : List Batch) (entries : List Gathered) (still_open : List Batch) → opened ≡ batches_of entries ++ still_open → count ≤ length entries → take count (batches_of entries) ≡ take count opened
  first_opened count opened entries still_open own within =
      let same = length-map entries (λ (entry : Gathered). entry.claims.value) in
      sym (ap (λ (bs : List Batch). take count bs) own ∙ take-append-le count (batches_of entries) still_open (omega (arith, within, same)))

  -- what was published by then is what the first packets did
  published_is : (start : F) (calls : List Call) (at : Point F) (shown : List Change) → Calls feeds job (first_point job start) calls at → shown ≡ at.world.changes → shown ≡ (world_of job (take at.world.count (packets_of (given_in calls)))).changes
  published_is start calls at shown went shows = shows ∙ ap (λ (w : World). w.changes) (world_is feeds job start calls at went)

  -- the trace of a run so far
  trace_so_far : (start : F) (calls : List Call) (at : Point F) (opened : List Batch) (entries : List Gathered) (lost : List Incomplete) (still_open : List Batch) (shown : List Change) (handed : ℕ) → Calls feeds job (first_point job start) calls at
      → AllZip (IsOpenedFor workers) opened (take (length opened) (given_in calls)) → opened ≡ batches_of entries ++ still_open → lost ≡ [] → shown ≡ at.world.changes → handed ≤ length entries → StillTraces job workers calls opened entries lost still_open shown handed at.world.count
  trace_so_far start calls at opened entries lost still_open shown handed went opens own none shows within = record {
    opens = opens;
    back = batches_of entries;
    opened_are = own;
    came = all_back entries lost none;
    whole = first_opened handed opened entries still_open own within;
    shows = published_is start calls at shown went shows;
  }

  all_opened : (opened : List Batch) (given : List (List Record)) → AllZip (IsOpenedFor workers) opened given → AllZip (IsOpenedFor workers) opened (take (length opened) given)
  all_opened opened given opens = subst (λ (bs : List (List Record)). AllZip (IsOpenedFor workers) opened (take (length opened) bs)) (append-nil given) (zip_take (IsOpenedFor workers) opened given [] opens)

  count_is : (book : Book) (world : World) → StandsAt book world → book.count ≡ world.count
  count_is book world stands = ap (λ (w : World). w.count) stands.left

  -- ---- how it ends

  pub ends_over : (start : F) (book : Book) (feed : F) (waiting : List (List Record)) (is_over : Bool) (opened : List Batch) (entries : List Gathered) (lost : List Incomplete) (still_open : List Batch) (shown : List Change) → Far start book feed waiting is_over opened entries lost still_open shown → waiting ≡ [] → still_open ≡ [] → is_over ≡ true
      → Went feeds job start (λ calls at. OverSoFar job workers book feed opened entries lost still_open shown calls at ⊎ CutSoFar feeds job workers book feed opened entries lost still_open shown calls at)
  ends_over start book feed waiting is_over opened entries lost still_open shown far none none_open over =
      let at = point far.world feed waiting is_over in
      let took = far.took in
      record {
        calls = far.calls;
        at = at;
        went = far.come.went;
        then = inl (record {
          over = goes.over_at feeds job start far.calls far.world book feed waiting is_over far.come none over;
          trace = rw (count_is book far.world far.come.stands)
              (trace_so_far start far.calls at opened entries lost still_open shown (length (taken_in far.calls)) far.come.went (all_opened opened (given_in far.calls) far.opens) far.own far.none_lost far.shows (omega (arith, took)));
          none_lost = far.none_lost;
          none_open = none_open;
          handed = omega (arith, took);
        });
      }

  pub ends_cut : (start : F) (book book' : Book) (feed feed' : F) (waiting later : List (List Record)) (is_over : Bool) (opened : List Batch) (entries entries' : List Gathered) (lost lost' : List Incomplete) (still_open later_open : List Batch) (shown : List Change) (records : List Record) (batch : Batch) (entry : Gathered)
      → Far start book feed waiting is_over opened entries lost still_open shown → waiting ≡ records ∷ later → still_open ≡ batch ∷ later_open → job_of book ≡ job → CutsShort feeds book book' feed feed' records
      → entry.claims.value ≡ batch → entries' ≡ entries ++ entry ∷ [] → lost' ≡ lost
      → Went feeds job start (λ calls at. OverSoFar job workers book' feed' opened entries' lost' later_open shown calls at ⊎ CutSoFar feeds job workers book' feed' opened entries' lost' later_open shown calls at)
  ends_cut start book book' feed feed' waiting later is_over opened entries entries' lost lost' still_open later_open shown records batch entry far waits open_is same short entry_is grown none =
      let at = point far.world feed waiting is_over in
      let entries_are = one_longer entries entries' entry grown in
      let took = far.took in
      let within : length (taken_in far.calls) + 1 ≤ length entries' = omega (arith, entries_are, took) in
      record {
        calls = far.calls;
        at = at;
        went = far.come.went;
        then = inr (record {
          cut = goes.cut_at feeds job start far.calls far.world book book' feed feed' waiting later is_over records far.come waits same short;
          trace = trace_so_far start far.calls at opened entries' lost' later_open shown (length (taken_in far.calls) + 1) far.come.went (all_opened opened (given_in far.calls) far.opens)
              (moved opened entries entries' still_open later_open batch entry far.own open_is entry_is grown) (none ∙ far.none_lost) far.shows within;
          handed = within;
        });
      }

  abbrev Refuses : (start : F) → Book → F → List Batch → List Gathered → List Incomplete → List Batch → List Change → Type 0
  Refuses start book feed opened entries lost still_open shown = Went feeds job start (λ calls at. RefusedSoFar job workers book feed opened entries lost still_open shown calls at)

  -- memory was refused for a batch that was given: it isn't open
  pub refused_given : (start : F) (book : Book) (feed next : F) (waiting : List (List Record)) (is_over : Bool) (opened opened' : List Batch) (entries entries' : List Gathered) (lost lost' : List Incomplete) (still_open : List Batch) (shown : List Change) (records : List Record)
      → Far start book feed waiting is_over opened entries lost still_open shown → is_over ≡ false → length waiting < 3 → feeds.gives feed records next → opened' ≡ opened → entries' ≡ entries → lost' ≡ lost → Refuses start book next opened' entries' lost' still_open shown
  refused_given start book feed next waiting is_over opened opened' entries entries' lost lost' still_open shown records far open_is few gave_it same same_entries same_lost =
      let after = far.calls ++ gave records ∷ [] in
      let come = goes.come_gave feeds job start far.calls far.world book feed next waiting is_over records far.come open_is few gave_it in
      let at = point far.world next (waiting ++ records ∷ []) is_over in
      let took = far.took in
      let taken : length (taken_in after) ≡ length (taken_in far.calls) = ap (λ (bs : List (List Record)). length bs) (goes.taken_append far.calls (gave records ∷ []) ∙ append-nil (taken_in far.calls)) in
      let within : length (taken_in after) ≤ length entries = omega (arith, taken, took) in
      rw (same, same_entries, same_lost)
      record {
        calls = after;
        at = at;
        went = come.went;
        then = record {
          refused = goes.refused_at feeds job start after far.world book next (waiting ++ records ∷ []) is_over come;
          published = far.world.count;
          few = omega arith;
          trace = trace_so_far start after at opened entries lost still_open shown (length (taken_in after)) come.went
              (subst (λ (bs : List (List Record)). AllZip (IsOpenedFor workers) opened (take (length opened) bs)) (sym (goes.given_append far.calls (gave records ∷ []))) (zip_take (IsOpenedFor workers) opened (given_in far.calls) (records ∷ []) far.opens))
              far.own far.none_lost far.shows within;
          handed = within;
        };
      }

  -- or for room to hold the batch that was opened
  pub refused_held : (start : F) (book : Book) (feed : F) (waiting : List (List Record)) (is_over : Bool) (opened : List Batch) (entries : List Gathered) (lost : List Incomplete) (still_open : List Batch) (shown : List Change)
      → Far start book feed waiting is_over opened entries lost still_open shown → Refuses start book feed opened entries lost still_open shown
  refused_held start book feed waiting is_over opened entries lost still_open shown far =
      let at = point far.world feed waiting is_over in
      let took = far.took in
      let within : length (taken_in far.calls) ≤ length entries = omega (arith, took) in
      record {
        calls = far.calls;
        at = at;
        went = far.come.went;
        then = record {
          refused = goes.refused_at feeds job start far.calls far.world book feed waiting is_over far.come;
          published = far.world.count;
          few = omega arith;
          trace = trace_so_far start far.calls at opened entries lost still_open shown (length (taken_in far.calls)) far.come.went (all_opened opened (given_in far.calls) far.opens) far.own far.none_lost far.shows within;
          handed = within;
        };
      }

  -- or while a book takes it
  pub refused_within : (start : F) (book book' : Book) (feed feed' : F) (waiting later : List (List Record)) (is_over : Bool) (opened : List Batch) (entries entries' : List Gathered) (lost lost' : List Incomplete) (still_open later_open : List Batch) (shown : List Change) (records : List Record) (batch : Batch)
      → Far start book feed waiting is_over opened entries lost still_open shown → waiting ≡ records ∷ later → still_open ≡ batch ∷ later_open → feed' ≡ feed → IsRefusedAt book book' records
      → ((entry : Gathered) × (entry.claims.value ≡ batch) × (entries' ≡ entries ++ entry ∷ []) × (lost' ≡ lost)) ⊎ ((it : Incomplete) × (it.claims.value ≡ batch) × (entries' ≡ entries) × (lost' ≡ lost ++ it ∷ []))
      → Refuses start book' feed' opened entries' lost' later_open shown
  refused_within start book book' feed feed' waiting later is_over opened entries entries' lost lost' still_open later_open shown records batch far waits open_is same left back =
      let at = point far.world feed waiting is_over in
      let own : opened ≡ (batches_of entries ++ batch ∷ []) ++ later_open = far.own ∙ ap (λ (bs : List Batch). batches_of entries ++ bs) open_is ∙ sym (append_assoc (batches_of entries) (batch ∷ []) later_open) in
      let took = far.took in
      let first : take (length (taken_in far.calls)) (batches_of entries) ≡ take (length (taken_in far.calls)) opened = first_opened (length (taken_in far.calls)) opened entries still_open far.own (omega (arith, took)) in
      let refused = goes.refused_within feeds job start far.calls far.world book book' feed feed' waiting later is_over records far.come waits same left in
      let all = all_opened opened (given_in far.calls) far.opens in
      let shows = published_is start far.calls at shown far.come.went far.shows in
      record {
        calls = far.calls;
        at = at;
        went = far.come.went;
        then = elim back [
          | inl it ↦
              let longer = one_longer entries entries' it.0 it.2 in
              record {
                refused = refused;
                published = far.world.count;
                few = omega arith;
                trace = record {
                  opens = all;
                  back = batches_of entries ++ batch ∷ [];
                  opened_are = own;
                  came = one_back (batches_of entries) entries entries' lost lost' batch it.0 (all_back entries lost far.none_lost) it.1 it.2 it.3;
                  whole = ap (λ (es : List Gathered). take (length (taken_in far.calls)) (batches_of es)) it.2 ∙ first_stay (length (taken_in far.calls)) entries (it.0 ∷ []) (omega (arith, took)) ∙ first;
                  shows = shows;
                };
                handed = omega (arith, took, longer);
              }
          | inr it ↦
              let same_long : length entries' ≡ length entries = ap (λ (es : List Gathered). length es) it.2 in
              record {
                refused = refused;
                published = far.world.count;
                few = omega arith;
                trace = record {
                  opens = all;
                  back = batches_of entries ++ batch ∷ [];
                  opened_are = own;
                  came = one_lost (batches_of entries) entries entries' lost lost' batch it.0 (all_back entries lost far.none_lost) it.1 it.2 it.3;
                  whole = ap (λ (es : List Gathered). take (length (taken_in far.calls)) (batches_of es)) it.2 ∙ first;
                  shows = shows;
                };
                handed = omega (arith, took, same_long);
              }
        ];
      }

  -- or after that, as it is published
  pub refused_published : (start : F) (book book' : Book) (feed feed' : F) (waiting later : List (List Record)) (is_over : Bool) (opened : List Batch) (entries entries' : List Gathered) (lost lost' : List Incomplete) (still_open later_open : List Batch) (shown shown' : List Change) (records : List Record) (changes : List Change) (batch : Batch) (entry : Gathered)
      → Far start book feed waiting is_over opened entries lost still_open shown → waiting ≡ records ∷ later → still_open ≡ batch ∷ later_open → job_of book ≡ job → TakesWhole feeds book book' feed feed' records changes
      → entry.claims.value ≡ batch → entries' ≡ entries ++ entry ∷ [] → lost' ≡ lost → shown' ≡ shown → Refuses start book' feed' opened entries' lost' later_open shown'
  refused_published start book book' feed feed' waiting later is_over opened entries entries' lost lost' still_open later_open shown shown' records changes batch entry far waits open_is same whole entry_is grown none stays =
      let on = goes.come_took feeds job start far.calls far.world book book' feed feed' waiting later is_over records changes far.come waits same whole in
      let at = point (behind job far.world records) feed' later is_over in
      let taken : length (taken_in on.calls) ≡ length (taken_in far.calls) + 1 = ap (λ (bs : List (List Record)). length bs) on.taken ∙ length-append (taken_in far.calls) (records ∷ []) in
      let entries_are = one_longer entries entries' entry grown in
      let took = far.took in
      let within : length (taken_in on.calls) ≤ length entries' = omega (arith, taken, entries_are, took) in
      let own = moved opened entries entries' still_open later_open batch entry far.own open_is entry_is grown in
      let before = published_is start far.calls (point far.world feed waiting is_over) shown far.come.went far.shows in
      record {
        calls = on.calls;
        at = at;
        went = on.come.went;
        then = record {
          refused = goes.refused_at feeds job start on.calls (behind job far.world records) book' feed' later is_over on.come;
          published = far.world.count;
          few = (let more = world_count job far.world (map frame_of records) in omega (arith, more));
          trace = record {
            opens = subst (λ (bs : List (List Record)). AllZip (IsOpenedFor workers) opened (take (length opened) bs)) (sym on.given) (all_opened opened (given_in far.calls) far.opens);
            back = batches_of entries';
            opened_are = own;
            came = all_back entries' lost' (none ∙ far.none_lost);
            whole = first_opened (length (taken_in on.calls)) opened entries' later_open own within;
            shows = stays ∙ before ∙ ap (λ (bs : List (List Record)). (world_of job (take far.world.count (packets_of bs))).changes) (sym on.given);
          };
          handed = within;
        };
      }

  -- ---- with batches that wait

  -- the same by other names
  pub far_same : (start : F) (book : Book) (feed : F) (waiting : List (List Record)) (is_over : Bool) (opened opened' : List Batch) (entries entries' : List Gathered) (lost lost' : List Incomplete) (still_open : List Batch) (shown : List Change)
      → Far start book feed waiting is_over opened entries lost still_open shown → opened' ≡ opened → entries' ≡ entries → lost' ≡ lost → Far start book feed waiting is_over opened' entries' lost' still_open shown
  far_same start book feed waiting is_over opened opened' entries entries' lost lost' still_open shown far same same_entries same_lost = rw (same, same_entries, same_lost) far

module _ {X F : Type 0} (records_of : X → List Record) (claims_of : X → Batch) (feeds : Transitions F) (job : RunJob) (workers : ℕ) where
  abbrev At : (start : F) → Book → F → List X → Bool → List Batch → List Gathered → List Incomplete → List Change → Type 0
  At start book feed waiting is_over opened entries lost shown = SoFar feeds job workers start book feed (map records_of waiting) is_over opened entries lost (map claims_of waiting) shown

  few_mapped : (waiting : List X) → length waiting < 3 → length (map records_of waiting) < 3
  few_mapped waiting few = let same = length-map waiting records_of in omega (arith, few, same)

  -- a batch was given and opened, and waits after the others
  pub at_gave : (start : F) (book : Book) (feed next : F) (waiting waiting' : List X) (x : X) (is_over : Bool) (opened opened' : List Batch) (entries entries' : List Gathered) (lost lost' : List Incomplete) (shown : List Change)
      → At start book feed waiting is_over opened entries lost shown → is_over ≡ false → length waiting < 3 → feeds.gives feed (records_of x) next → opened' ≡ opened ++ claims_of x ∷ [] → IsOpenedFor workers (claims_of x) (records_of x)
      → waiting' ≡ waiting ++ x ∷ [] → entries' ≡ entries → lost' ≡ lost → At start book next waiting' is_over opened' entries' lost' shown
  at_gave start book feed next waiting waiting' x is_over opened opened' entries entries' lost lost' shown far open_is few gave_it grown sizes longer same_entries same_lost =
      rw (longer, map-append records_of waiting (x ∷ []), map-append claims_of waiting (x ∷ []), same_entries, same_lost)
      (far_gave feeds job workers start book feed next (map records_of waiting) is_over opened opened' entries lost (map claims_of waiting) shown (records_of x) (claims_of x) far open_is (few_mapped waiting few) gave_it grown sizes)

  pub at_ended : (start : F) (book : Book) (feed next : F) (waiting waiting' : List X) (is_over : Bool) (opened opened' : List Batch) (entries entries' : List Gathered) (lost lost' : List Incomplete) (shown : List Change)
      → At start book feed waiting is_over opened entries lost shown → is_over ≡ false → feeds.ends feed next → waiting' ≡ waiting → opened' ≡ opened → entries' ≡ entries → lost' ≡ lost → At start book next waiting' true opened' entries' lost' shown
  at_ended start book feed next waiting waiting' is_over opened opened' entries entries' lost lost' shown far open_is ends_it same_waiting same same_entries same_lost =
      rw (same_waiting, same, same_entries, same_lost) (far_ended feeds job workers start book feed next (map records_of waiting) is_over opened entries lost (map claims_of waiting) shown far open_is ends_it)

  abbrev RefusesAt : (start : F) → Book → F → List Batch → List Gathered → List Incomplete → List X → List Change → Type 0
  RefusesAt start book feed opened entries lost waiting shown = Went feeds job start (λ calls at. RefusedSoFar job workers book feed opened entries lost (map claims_of waiting) shown calls at)

  -- memory was refused before the feed was asked
  pub at_held : (start : F) (book : Book) (feed : F) (waiting waiting' : List X) (is_over : Bool) (opened opened' : List Batch) (entries entries' : List Gathered) (lost lost' : List Incomplete) (shown : List Change)
      → At start book feed waiting is_over opened entries lost shown → waiting' ≡ waiting → opened' ≡ opened → entries' ≡ entries → lost' ≡ lost → RefusesAt start book feed opened' entries' lost' waiting' shown
  at_held start book feed waiting waiting' is_over opened opened' entries entries' lost lost' shown far same_waiting same same_entries same_lost =
      rw (same_waiting, same, same_entries, same_lost) (refused_held feeds job workers start book feed (map records_of waiting) is_over opened entries lost (map claims_of waiting) shown far)

  -- or for the batch that it gave
  pub at_refused : (start : F) (book : Book) (feed next : F) (waiting waiting' : List X) (is_over : Bool) (opened opened' : List Batch) (entries entries' : List Gathered) (lost lost' : List Incomplete) (shown : List Change) (records : List Record)
      → At start book feed waiting is_over opened entries lost shown → is_over ≡ false → length waiting < 3 → feeds.gives feed records next → waiting' ≡ waiting → opened' ≡ opened → entries' ≡ entries → lost' ≡ lost → RefusesAt start book next opened' entries' lost' waiting' shown
  at_refused start book feed next waiting waiting' is_over opened opened' entries entries' lost lost' shown records far open_is few gave_it same_waiting same same_entries same_lost =
      rw same_waiting (refused_given feeds job workers start book feed next (map records_of waiting) is_over opened opened' entries entries' lost lost' (map claims_of waiting) shown records far open_is (few_mapped waiting few) gave_it same same_entries same_lost)

  -- nothing waits, and the reading has ended
  pub at_over : (start : F) (book : Book) (feed : F) (waiting waiting' : List X) (is_over : Bool) (opened : List Batch) (entries : List Gathered) (lost : List Incomplete) (shown : List Change) → At start book feed waiting is_over opened entries lost shown → waiting ≡ [] → waiting' ≡ [] → is_over ≡ true
      → Went feeds job start (λ calls at. OverSoFar job workers book feed opened entries lost (map claims_of waiting') shown calls at ⊎ CutSoFar feeds job workers book feed opened entries lost (map claims_of waiting') shown calls at)
  at_over start book feed waiting waiting' is_over opened entries lost shown far none none' over =
      rw (none' ∙ sym none)
      (ends_over feeds job workers start book feed (map records_of waiting) is_over opened entries lost (map claims_of waiting) shown far (ap (λ (w : List X). map records_of w) none) (ap (λ (w : List X). map claims_of w) none) over)

  -- the first one that waits
  pub at_first : (start : F) (book : Book) (feed : F) (waiting later : List X) (x : X) (is_over : Bool) (opened : List Batch) (entries : List Gathered) (lost : List Incomplete) (shown : List Change) → waiting ≡ x ∷ later → At start book feed waiting is_over opened entries lost shown
      → SoFar feeds job workers start book feed (records_of x ∷ map records_of later) is_over opened entries lost (claims_of x ∷ map claims_of later) shown
  at_first start book feed waiting later x is_over opened entries lost shown is far = subst (λ (w : List X). At start book feed w is_over opened entries lost shown) is far
