use Rattle.std.proofs.Common.{rules, ◌≡◌, ◌<◌, ◌∙◌, ℕ, zero, suc, Result, Ok, Err, OnOk, OnErr, refl, arith}
use Rattle.pfr_commit.specs.Books.{job_of}
use Rattle.pfr_work.proofs.EndLemmas.{alone_refused, alone_well}
use Rattle.pfr_work.proofs.run.run_workers.Goals as goal

on_ok : {A E : Type 0} (P Q : Type 0) (r : Result A E) → (P → Q) → OnOk r P → OnOk r Q
on_ok P Q (Ok a) f p = f p
on_ok P Q (Err e) f p = p

on_err : {A E : Type 0} (P Q : Type 0) (r : Result A E) → (P → Q) → OnErr r P → OnErr r Q
on_err P Q (Ok a) f p = p
on_err P Q (Err e) f p = f p

pub returns-then-workers-eq0-clause-ok : goal.returns-then-workers-eq0-clause-ok
returns-then-workers-eq0-clause-ok g c =
    let none = c.no_trace.ensures in
    on_ok _ _ c.run_alone-book.result.2
    (alone_well g.F.Feed.transitions (job_of c.args.book) c.args.workers c.args.feed c.run_alone-book.result.0 c.run_alone-book.result.1 _ c.if-workers-eq0.true (none.openings ∙ c.new-openings.ensures) none.batches.0 none.batches.1 (rw none.published refl))
    c.run_alone-book.ensures.ok

pub returns-then-workers-eq0-clause-err : goal.returns-then-workers-eq0-clause-err
returns-then-workers-eq0-clause-err g c =
    let none = c.no_trace.ensures in
    on_err _ _ c.run_alone-book.result.2
    (alone_refused g.F.Feed.transitions (job_of c.args.book) c.args.workers c.args.feed c.run_alone-book.result.0 c.run_alone-book.result.1 _ c.if-workers-eq0.true (none.openings ∙ c.new-openings.ensures) none.batches.0 none.batches.1 (rw none.published refl))
    c.run_alone-book.ensures.err

positive : (n : ℕ) → (n ≡ 0 → ⊥) → 0 < n
positive zero some = absurd (some refl)
positive (suc n) some = omega arith

pub scoped-requires : goal.scoped-requires
scoped-requires g c =
    let some : 0 < c.args.workers = positive c.args.workers c.if-workers-eq0.false in
    record { at = λ a. search (rules, some) }
