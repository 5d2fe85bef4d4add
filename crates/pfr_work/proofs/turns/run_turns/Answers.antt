use Rattle.std.proofs.Common.{◌∙◌, refl, sym, map}
use Rattle.pfr_commit.specs.Books.{job_of}
use Rattle.pfr_commit.proofs.BookLemmas.{same_job}
use Rattle.pfr_published.specs.Ends.{is_shown as shows, list_of}
use Rattle.pfr_feed.proofs.TakeLemmas.{opening_count}
use Rattle.pfr_work.specs.Seen.{seen_of}
use Rattle.pfr_work.specs.Running.{claims_in}
use Rattle.pfr_work.proofs.EndLemmas.{is_shown, runs_refused, runs_well}
use Rattle.pfr_work.proofs.FitLemmas.{fits_none}
use Rattle.pfr_work.proofs.TurnLemmas.{far_first}
use Rattle.pfr_work.proofs.turns.run_turns.Goals as goal

pub turns-init : goal.turns-init
turns-init g c = record {
  job = refl;
  told = refl;
  names = refl;
  fits = fits_none _ _ _ c.new.result.items _ _ _ c.new.ensures.items (opening_count (job_of c.args.book) c.args.book c.requires.start);
  room = rw c.new.ensures.items c.requires.room;
  hidden = λ gave_up. c.requires.published.1;
  so_far = rw c.new.ensures.items
      (far_first g.F.Feed.transitions (job_of c.args.book) _ c.args.book c.args.feed _ _ _ _ c.requires.start c.requires.openings c.requires.entries.0 c.requires.entries.1 c.requires.published.0);
}

pub turns-preserved : goal.turns-preserved
turns-preserved g c =
    let i = c.turns.invariant in
    let turn = c.take_turn-shown.ensures in
    record {
      job = turn.job ∙ i.job;
      told = turn.told ∙ i.told;
      names = turn.names ∙ i.names;
      fits = turn.fits c.in-GoesOn.is;
      room = turn.room;
      hidden = λ gave_up. turn.shown gave_up ∙ i.hidden (turn.gave_up gave_up);
      so_far = rw c.in-GoesOn.is at (turn.comes (job_of c.args.book) c.args.feed (same_job c.turns.run.book c.args.book i.job) i.so_far);
    }

pub returns-in-IsOver-clause-ok : goal.returns-in-IsOver-clause-ok
returns-in-IsOver-clause-ok g c =
    let i = c.turns.invariant in
    let turn = c.take_turn-shown.ensures in
    let end = c.end-book.ensures in
    let now = c.take_turn-shown.new.self in
    rw (end.book, end.feed)
    (runs_well g.F.Feed.transitions (job_of c.args.book) _ c.args.feed now.book now.feed (seen_of list_of shows c.end-book.result.2) now.course.openings now.course.entries.items now.course.lost.items (map claims_in now.waiting.items) (list_of c.take_turn-shown.result.0)
    (rw c.in-IsOver.is at (turn.comes (job_of c.args.book) c.args.feed (same_job c.turns.run.book c.args.book i.job) i.so_far))
    (record { came = end.came; more = end.more; none = end.none }) end.others.0 (rw end.published refl)
    (is_shown _ (seen_of list_of shows c.end-book.result.2) (rw end.published refl) (λ gave_up. rw end.published (turn.shown (sym end.others.1 ∙ gave_up) ∙ i.hidden (turn.gave_up (sym end.others.1 ∙ gave_up))))))

pub returns-in-IsRefused-clause-err : goal.returns-in-IsRefused-clause-err
returns-in-IsRefused-clause-err g c =
    let i = c.turns.invariant in
    let turn = c.take_turn-shown.ensures in
    let end = c.end-book-in-IsRefused.ensures in
    let now = c.take_turn-shown.new.self in
    rw (end.book, end.feed)
    (runs_refused g.F.Feed.transitions (job_of c.args.book) _ c.args.feed now.book now.feed (seen_of list_of shows c.end-book-in-IsRefused.result.2) now.course.openings now.course.entries.items now.course.lost.items (map claims_in now.waiting.items) (list_of c.take_turn-shown.result.0)
    (rw c.in-IsRefused.is at (turn.comes (job_of c.args.book) c.args.feed (same_job c.turns.run.book c.args.book i.job) i.so_far))
    (record { came = end.came; more = end.more; none = end.none }) end.others.0 (rw end.published refl)
    (is_shown _ (seen_of list_of shows c.end-book-in-IsRefused.result.2) (rw end.published refl) (λ gave_up. rw end.published (turn.shown (sym end.others.1 ∙ gave_up) ∙ i.hidden (turn.gave_up (sym end.others.1 ∙ gave_up))))))
