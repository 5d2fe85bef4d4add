-- The end of a run: the batches that are still open are drawn to their ends.
use Rattle.std.proofs.Common.{◌≡◌, ◌∙◌, ◌≤◌, ◌+◌, ℕ, true, false, ◌⊎◌, inl, inr, Option, Some, None, IfSome, IsSome, List, [], ◌++◌, length, take, refl, sym, ap, arith}
use Rattle.std.proofs.lemmas.List.{append-nil}
use Rattle.pfr_claims.specs.declared.gathered.Gathered.{Gathered}
use Rattle.pfr_claims.specs.Batches.{Batch}
use Rattle.pfr_workers.specs.declared.incomplete.Incomplete.{Incomplete}
use Rattle.pfr_states.specs.declared.change.Change.{Change}
use Rattle.pfr_packet.specs.Job.{RunJob}
use Rattle.pfr_commit.specs.declared.book.Book.{Book}
use Rattle.pfr_commit.specs.Books.{StandsAt}
use Rattle.pfr_commit.specs.World.{opening, world_after, world_of}
use Rattle.pfr_feed.specs.Runs.{Call, EndsRefused, EndsWell, Went, first_point, given_in, taken_in}
use Rattle.pfr_feed.specs.Transitions.{Transitions}
use Rattle.pfr_work.specs.Traces.{CameBack, IsShown, IsTrace, RunsRefused, RunsWell, Seen, Traces, batches_of, packets_of}
use Rattle.pfr_work.specs.Turns.{CutSoFar, Extends, OverSoFar, RefusedSoFar, StillTraces}
use Rattle.pfr_work.proofs.ReturnLemmas.{all_back, first_stay}

-- ---- traces

-- what came of the batches that were still open
pub record Closes (entries entries' : List Gathered) (lost lost' : List Incomplete) (still_open : List Batch) : Type 0 where
  pub came : (back : List Batch) → CameBack back entries lost → CameBack (back ++ still_open) entries' lost'
  pub more : Extends entries entries'
  pub none : still_open ≡ [] → lost' ≡ lost

closed : (job : RunJob) (workers : ℕ) (calls : List Call) (opened : List Batch) (entries entries' : List Gathered) (lost lost' : List Incomplete) (still_open : List Batch) (shown : List Change) (handed published : ℕ)
    → StillTraces job workers calls opened entries lost still_open shown handed published → Closes entries entries' lost lost' still_open → handed ≤ length entries → IsTrace job workers calls opened entries' lost' [] handed published (Some shown)
closed job workers calls opened entries entries' lost lost' still_open shown handed published trace closes within = record {
  opens = trace.opens;
  back = trace.back ++ still_open;
  opened_are = trace.opened_are ∙ sym (append-nil (trace.back ++ still_open));
  came = closes.came trace.back trace.came;
  whole = ap (λ (es : List Gathered). take handed (batches_of es)) closes.more.1 ∙ first_stay handed entries closes.more.0 within ∙ trace.whole;
  shows = trace.shows;
}

-- with workers there is a table, and it is hidden only if they were given up
pub is_shown : (workers : ℕ) (seen : Seen) → IsSome seen.shown → (seen.gave_up ≡ false → seen.is_shown ≡ true) → IsShown workers seen
is_shown workers seen is hidden = record { someone = λ some. is; hidden = λ some. hidden }

module _ {F : Type 0} (feeds : Transitions F) (job : RunJob) (workers : ℕ) (start : F) where
  pub runs_well : (book : Book) (feed : F) (seen : Seen) (opened : List Batch) (entries : List Gathered) (lost : List Incomplete) (still_open : List Batch) (shown : List Change)
      → Went feeds job start (λ calls at. OverSoFar job workers book feed opened entries lost still_open shown calls at ⊎ CutSoFar feeds job workers book feed opened entries lost still_open shown calls at)
      → Closes entries seen.entries lost seen.lost still_open → seen.opened ≡ opened → seen.shown ≡ Some shown → IsShown workers seen → RunsWell feeds job workers start book feed seen
  runs_well book feed seen opened entries lost still_open shown ends closes same is shows = record {
    calls = ends.calls;
    at = ends.at;
    went = ends.went;
    then = elim ends.then [
      | inl over ↦ inl (record {
        over = over.over;
        trace = rw (same, is) (closed job workers ends.calls opened entries seen.entries lost seen.lost still_open shown (length (taken_in ends.calls)) book.count over.trace closes over.handed);
        none_lost = closes.none over.none_open ∙ over.none_lost;
        is_shown = shows;
      })
      | inr cut ↦ inr (record {
        cut = cut.cut;
        trace = rw (same, is) (closed job workers ends.calls opened entries seen.entries lost seen.lost still_open shown (length (taken_in ends.calls) + 1) ends.at.world.count cut.trace closes cut.handed);
        is_shown = shows;
      })
    ];
  }

  pub runs_refused : (book : Book) (feed : F) (seen : Seen) (opened : List Batch) (entries : List Gathered) (lost : List Incomplete) (still_open : List Batch) (shown : List Change)
      → Went feeds job start (λ calls at. RefusedSoFar job workers book feed opened entries lost still_open shown calls at)
      → Closes entries seen.entries lost seen.lost still_open → seen.opened ≡ opened → seen.shown ≡ Some shown → IsShown workers seen → RunsRefused feeds job workers start book feed seen
  runs_refused book feed seen opened entries lost still_open shown ends closes same is shows = record {
    calls = ends.calls;
    at = ends.at;
    went = ends.went;
    then = record {
      refused = ends.then.refused;
      published = ends.then.published;
      few = ends.then.few;
      trace = rw (same, is) (closed job workers ends.calls opened entries seen.entries lost seen.lost still_open shown (length (taken_in ends.calls)) ends.then.published ends.then.trace closes ends.then.handed);
      is_shown = inl shows;
    };
  }

  -- ---- no batch was opened

  nothing_done : [] ≡ (world_of job []).changes
  unfolding world_of world_after opening
  nothing_done = refl

  shows_none : (shown : Option (List Change)) → IfSome shown (λ changes. changes ≡ []) → IfSome shown (λ changes. changes ≡ (world_of job (take 0 (packets_of (given_in [])))).changes)
  shows_none None nothing = tt
  shows_none (Some changes) nothing = nothing ∙ nothing_done

  -- memory was refused before the first call: for the table, or behind it
  pub refused_first : (book : Book) (feed : F) (seen : Seen) → StandsAt book (opening job) → feed ≡ start → seen.opened ≡ [] → seen.entries ≡ [] → seen.lost ≡ [] → IfSome seen.shown (λ changes. changes ≡ []) → (IsShown workers seen) ⊎ (seen.shown ≡ None) → RunsRefused feeds job workers start book feed seen
  refused_first book feed seen stands same none no_entries no_lost nothing shows = record {
    calls = [];
    at = first_point job start;
    went = refl;
    then = record {
      refused = record { feed_is = same; stands = inl stands };
      published = 0;
      few = omega arith;
      trace = record {
        opens = rw none tt;
        back = [];
        opened_are = none;
        came = rw no_entries (all_back [] seen.lost no_lost);
        whole = refl;
        shows = shows_none seen.shown nothing;
      };
      is_shown = elim shows [ inl is ↦ inl is | inr gone ↦ inr (refl, gone) ];
    };
  }

  -- a run by one thread
  no_trace : (calls : List Call) (seen : Seen) (handed published : ℕ) → seen.opened ≡ [] → seen.entries ≡ [] → seen.lost ≡ [] → seen.shown ≡ None → Traces job workers calls seen handed published
  no_trace calls seen handed published none no_entries no_lost no_table = record {
    opens = rw none tt;
    back = [];
    opened_are = none;
    came = rw no_entries (all_back [] seen.lost no_lost);
    whole = rw (none, no_entries) refl;
    shows = rw no_table tt;
  }

  alone_shown : (seen : Seen) → workers ≡ 0 → IsShown workers seen
  alone_shown seen alone = record { someone = λ some. absurd (omega (arith, alone, some)); hidden = λ some. absurd (omega (arith, alone, some)) }

  pub alone_well : (book : Book) (feed : F) (seen : Seen) → workers ≡ 0 → seen.opened ≡ [] → seen.entries ≡ [] → seen.lost ≡ [] → seen.shown ≡ None → EndsWell feeds job start book feed → RunsWell feeds job workers start book feed seen
  alone_well book feed seen alone none no_entries no_lost no_table ends = record {
    calls = ends.calls;
    at = ends.at;
    went = ends.went;
    then = elim ends.then [
      | inl over ↦ inl (record { over = over; trace = no_trace ends.calls seen (length (taken_in ends.calls)) book.count none no_entries no_lost no_table; none_lost = no_lost; is_shown = alone_shown seen alone })
      | inr cut ↦ inr (record { cut = cut; trace = no_trace ends.calls seen (length (taken_in ends.calls) + 1) ends.at.world.count none no_entries no_lost no_table; is_shown = alone_shown seen alone })
    ];
  }

  pub alone_refused : (book : Book) (feed : F) (seen : Seen) → workers ≡ 0 → seen.opened ≡ [] → seen.entries ≡ [] → seen.lost ≡ [] → seen.shown ≡ None → EndsRefused feeds job start book feed → RunsRefused feeds job workers start book feed seen
  alone_refused book feed seen alone none no_entries no_lost no_table ends = record {
    calls = ends.calls;
    at = ends.at;
    went = ends.went;
    then = record {
      refused = ends.then;
      published = 0;
      few = omega arith;
      trace = no_trace ends.calls seen (length (taken_in ends.calls)) 0 none no_entries no_lost no_table;
      is_shown = inl (alone_shown seen alone);
    };
  }

  -- ---- without its trace

  pub ends_well : (book : Book) (feed : F) (seen : Seen) → RunsWell feeds job workers start book feed seen → EndsWell feeds job start book feed
  ends_well book feed seen run = record { calls = run.calls; at = run.at; went = run.went; then = elim run.then [ inl over ↦ inl over.over | inr cut ↦ inr cut.cut ] }

  pub ends_refused : (book : Book) (feed : F) (seen : Seen) → RunsRefused feeds job workers start book feed seen → EndsRefused feeds job start book feed
  ends_refused book feed seen run = record { calls = run.calls; at = run.at; went = run.went; then = run.then.refused }
