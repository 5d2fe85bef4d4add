use Rattle.std.proofs.Common.{◌∙◌, ◌+◌, ◌++◌, ◌∷◌, [], List, ℕ, length, vec_len, Vec, sym, ap, subst}
use Rattle.std.specs.declared.alloc.Global.{Global}
use Rattle.pfr_claims.specs.declared.gathered.Gathered.{Gathered}
use Rattle.pfr_claims.specs.Batches.{Batch}
use Rattle.pfr_workers.specs.declared.incomplete.Incomplete.{Incomplete}
use Rattle.pfr_capture.specs.declared.capture.Record.{Record}
use Rattle.pfr_work.specs.Traces.{IsOpenedFor}
use Rattle.pfr_work.specs.Running.{claims_in}
use Rattle.pfr_work.proofs.FitLemmas.{fits_pushed}
use Rattle.pfr_work.proofs.TurnLemmas.{at_ended, at_gave, at_held, at_refused}
use Rattle.pfr_work.proofs.running.Run.read_ahead.Goals as goal

-- memory was refused before the feed was asked
pub returns-in_default-clause-room : goal.returns-in_default-clause-room
returns-in_default-clause-room g c =
    let self = c.args.self.now in
    let room = c.make_room.ensures in
    rw room.waiting (room.stays (length self.waiting.items) c.requires.room)

pub returns-in_default-clause-comes : goal.returns-in_default-clause-comes
returns-in_default-clause-comes g c = λ shown job start same far.
    let self = c.args.self.now in
    let room = c.make_room.ensures in
    at_held _ _ g.F.Feed.transitions job _ start self.book self.feed self.waiting.items _ self.is_over _ _ _ _ _ _ shown far room.waiting room.others.0 room.items.0 room.items.1

-- the reading ended
pub returns-in_default-batch-clause-comes : goal.returns-in_default-batch-clause-comes
returns-in_default-batch-clause-comes g c = λ shown job start same far.
    let self = c.args.self.now in
    let room = c.make_room.ensures in
    at_ended _ _ g.F.Feed.transitions job _ start self.book self.feed c.batch.new.self self.waiting.items _ self.is_over _ _ _ _ _ _ shown far c.requires.open c.in_default-batch.ensures.none room.waiting room.others.0 room.items.0 room.items.1

-- the batch was opened
pub returns-in-Ok-open_batch-clause-fits : goal.returns-in-Ok-open_batch-clause-fits
returns-in-Ok-open_batch-clause-fits g c = λ goes.
    let self = c.args.self.now in
    let room = c.make_room.ensures in
    let given = c.in-Some.ensures in
    let it = c.in-Ok-open_batch.ensures in
    fits_pushed _ _ _ self.waiting.items _ c.in-Ok-open_batch.open_batch self.book.count _ _ _ (c.push_back_reserved.ensures.items ∙ ap (λ (w : List _). w ++ c.in-Ok-open_batch.open_batch ∷ []) room.waiting)
    (it.sizes.0 ∙ ap (λ (rs : List Record). length rs) (sym it.records), it.sizes.1)
    (given.counted ∙ ap (λ (n : ℕ). g.F.Feed.given self.feed + n) (sym it.sizes.0)) given.few c.requires.fits

pub returns-in-Ok-open_batch-clause-comes : goal.returns-in-Ok-open_batch-clause-comes
returns-in-Ok-open_batch-clause-comes g c = λ shown job start same far.
    let self = c.args.self.now in
    let room = c.make_room.ensures in
    let given = c.in-Some.ensures in
    let it = c.in-Ok-open_batch.ensures in
    let x = c.in-Ok-open_batch.open_batch in
    at_gave _ _ g.F.Feed.transitions job _ start self.book self.feed c.batch.new.self self.waiting.items _ x self.is_over _ _ _ _ _ _ shown far c.requires.open c.requires.few
    (subst (λ (rs : List Record). g.F.Feed.transitions.gives self.feed rs c.batch.new.self) (sym it.records) given.some)
    (it.opened ∙ ap (λ (bs : List Batch). bs ++ claims_in x ∷ []) room.others.0)
    (subst (λ (rs : List Record). IsOpenedFor (vec_len c.args.crew.now.desks) (claims_in x) rs) (sym it.records) it.opened_for)
    (c.push_back_reserved.ensures.items ∙ ap (λ (w : List _). w ++ x ∷ []) room.waiting)
    (ap (λ (v : Vec Gathered Global). v.items) it.entries.0 ∙ room.items.0)
    (ap (λ (v : Vec Incomplete Global). v.items) it.entries.1 ∙ room.items.1)

-- or memory was refused for it
pub returns-in-Err-clause-comes : goal.returns-in-Err-clause-comes
returns-in-Err-clause-comes g c = λ shown job start same far.
    let self = c.args.self.now in
    let room = c.make_room.ensures in
    let given = c.in-Some.ensures in
    let it = c.in-Err.ensures in
    at_refused _ _ g.F.Feed.transitions job _ start self.book self.feed c.batch.new.self self.waiting.items _ self.is_over _ _ _ _ _ _ shown c.in-Some.records.items far c.requires.open c.requires.few given.some room.waiting
    (it.opened ∙ room.others.0)
    (ap (λ (v : Vec Gathered Global). v.items) it.entries.0 ∙ room.items.0)
    (ap (λ (v : Vec Incomplete Global). v.items) it.entries.1 ∙ room.items.1)
