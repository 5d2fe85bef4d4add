use Rattle.std.proofs.Common.{◌∙◌, map, refl, sym}
use Rattle.pfr_commit.specs.Emissions.{listed, texts_of}
use Rattle.pfr_published.specs.Ends.{list_of}
use Rattle.pfr_work.specs.Running.{claims_in, records_in}
use Rattle.pfr_work.proofs.BackLemmas.{emptied}
use Rattle.pfr_work.proofs.FitLemmas.{fits_first, fits_pop, fits_same, room_popped}
use Rattle.pfr_work.proofs.TurnLemmas.{at_first, at_over, ends_cut, far_took, refused_published, refused_within}
use Rattle.pfr_work.proofs.running.Run.take_oldest.Goals as goal

-- nothing waits any more
pub returns-in_default-clause-comes : goal.returns-in_default-clause-comes
returns-in_default-clause-comes g c = λ workers job start same far.
    let self = c.args.self.now in
    let kept = rw c.in_default.is at c.pop_front.ensures.items in
    let none = emptied self.waiting.items c.pop_front.new.self.items kept c.pop_front.ensures.rest in
    at_over _ _ g.F.Feed.transitions job workers start self.book self.feed self.waiting.items _ self.is_over _ _ _ _ far none (sym kept ∙ none) (c.requires.over none)

-- the oldest one is taken
pub commit_oldest-requires-clause-few : goal.commit_oldest-requires-clause-few
commit_oldest-requires-clause-few g c = λ lives within. (fits_first _ _ _ c.args.self.now.waiting.items c.pop_front.new.self.items c.in-Some.oldest _ _ _ c.requires.fits.1 c.in-Some.ensures.items).0

-- memory was refused while the book took the batch
pub returns-in_default-commit_oldest-clause-comes : goal.returns-in_default-commit_oldest-clause-comes
returns-in_default-commit_oldest-clause-comes g c = λ workers job start same far.
    let self = c.args.self.now in
    let later = c.pop_front.new.self.items in
    rw c.commit_oldest.ensures.openings
    (refused_within g.F.Feed.transitions job workers start self.book c.commit_oldest.new.book self.feed self.feed _ (map records_in later) self.is_over _ _ _ _ _ _ (map claims_in later) _ _ _
    (at_first _ _ g.F.Feed.transitions job workers start self.book self.feed self.waiting.items later c.in-Some.oldest self.is_over _ _ _ _ c.in-Some.ensures.items far)
    refl refl refl c.in_default-commit_oldest.ensures.refused c.commit_oldest.ensures.back)

-- the feed took the piece in part
pub returns-then-not-hand_on-clause-comes : goal.returns-then-not-hand_on-clause-comes
returns-then-not-hand_on-clause-comes g c = λ workers job start same far.
    let self = c.args.self.now in
    let later = c.pop_front.new.self.items in
    let whole = c.in-Ok.ensures.whole in
    rw c.commit_oldest.ensures.openings
    (ends_cut g.F.Feed.transitions job workers start self.book c.commit_oldest.new.book self.feed c.hand_on.new.feed _ (map records_in later) self.is_over _ _ _ _ _ _ (map claims_in later) _ _ _ whole.0
    (at_first _ _ g.F.Feed.transitions job workers start self.book self.feed self.waiting.items later c.in-Some.oldest self.is_over _ _ _ _ c.in-Some.ensures.items far)
    refl refl same (record { piece = texts_of c.in-Ok.field-0.piece; changes = listed c.in-Ok.field-0.changes; taken = c.in-Ok.ensures.taken; cut = c.hand_on.ensures.cut c.if-not-hand_on.true }) whole.1 whole.2 whole.3)

-- it took all, and what the batch did is shown
pub returns-in-Ok-outcome-clause-comes : goal.returns-in-Ok-outcome-clause-comes
returns-in-Ok-outcome-clause-comes g c = λ workers job start same far.
    let self = c.args.self.now in
    let later = c.pop_front.new.self.items in
    let whole = c.in-Ok.ensures.whole in
    let piece = c.hand_on.ensures.taken c.if-not-hand_on.false in
    rw c.commit_oldest.ensures.openings
    (far_took g.F.Feed.transitions job workers start self.book c.commit_oldest.new.book self.feed c.hand_on.new.feed _ (map records_in later) self.is_over _ _ _ _ _ _ (map claims_in later) _ (list_of c.show-published.result.0) _ (listed c.in-Ok.field-0.changes) _ whole.0
    (at_first _ _ g.F.Feed.transitions job workers start self.book self.feed self.waiting.items later c.in-Some.oldest self.is_over _ _ _ _ c.in-Some.ensures.items far)
    refl refl same (record { piece = texts_of c.in-Ok.field-0.piece; mid = piece.0; taken = c.in-Ok.ensures.taken; took = piece.1; back = piece.2 }) whole.1 whole.2 whole.3
    (rw c.in-Ok-outcome.is at c.show-published.ensures.list))

-- or that is refused
pub returns-in-Err-clause-comes : goal.returns-in-Err-clause-comes
returns-in-Err-clause-comes g c = λ workers job start same far.
    let self = c.args.self.now in
    let later = c.pop_front.new.self.items in
    let whole = c.in-Ok.ensures.whole in
    let piece = c.hand_on.ensures.taken c.if-not-hand_on.false in
    rw c.commit_oldest.ensures.openings
    (refused_published g.F.Feed.transitions job workers start self.book c.commit_oldest.new.book self.feed c.hand_on.new.feed _ (map records_in later) self.is_over _ _ _ _ _ _ (map claims_in later) _ (list_of c.show-published.result.0) _ (listed c.in-Ok.field-0.changes) _ whole.0
    (at_first _ _ g.F.Feed.transitions job workers start self.book self.feed self.waiting.items later c.in-Some.oldest self.is_over _ _ _ _ c.in-Some.ensures.items far)
    refl refl same (record { piece = texts_of c.in-Ok.field-0.piece; mid = piece.0; taken = c.in-Ok.ensures.taken; took = piece.1; back = piece.2 }) whole.1 whole.2 whole.3
    (rw c.in-Err.is at c.show-published.ensures.list))

-- what still waits fits and has room, after each of these
pub returns-in-Ok-outcome-clause-fits : goal.returns-in-Ok-outcome-clause-fits
returns-in-Ok-outcome-clause-fits g c = λ goes workers fits.
    let self = c.args.self.now in
    fits_same _ _ _ c.pop_front.new.self.items _ _ _ _ (fits_pop _ _ _ self.waiting.items c.pop_front.new.self.items c.in-Some.oldest _ _ _ _ fits c.in-Some.ensures.items c.in-Ok.ensures.counted) c.hand_on.ensures.given

pub returns-in_default-commit_oldest-clause-room : goal.returns-in_default-commit_oldest-clause-room
returns-in_default-commit_oldest-clause-room g c = room_popped c.args.self.now.waiting.items c.pop_front.new.self.items c.in-Some.oldest c.args.self.now.course.entries c.commit_oldest.new.course.entries c.args.self.now.course.lost c.commit_oldest.new.course.lost c.in-Some.ensures.items c.requires.room c.commit_oldest.ensures.stays

pub returns-then-not-hand_on-clause-room : goal.returns-then-not-hand_on-clause-room
returns-then-not-hand_on-clause-room g c = room_popped c.args.self.now.waiting.items c.pop_front.new.self.items c.in-Some.oldest c.args.self.now.course.entries c.commit_oldest.new.course.entries c.args.self.now.course.lost c.commit_oldest.new.course.lost c.in-Some.ensures.items c.requires.room c.commit_oldest.ensures.stays

pub returns-in-Ok-outcome-clause-room : goal.returns-in-Ok-outcome-clause-room
returns-in-Ok-outcome-clause-room g c = room_popped c.args.self.now.waiting.items c.pop_front.new.self.items c.in-Some.oldest c.args.self.now.course.entries c.commit_oldest.new.course.entries c.args.self.now.course.lost c.commit_oldest.new.course.lost c.in-Some.ensures.items c.requires.room c.commit_oldest.ensures.stays

pub returns-in-Err-clause-room : goal.returns-in-Err-clause-room
returns-in-Err-clause-room g c = room_popped c.args.self.now.waiting.items c.pop_front.new.self.items c.in-Some.oldest c.args.self.now.course.entries c.commit_oldest.new.course.entries c.args.self.now.course.lost c.commit_oldest.new.course.lost c.in-Some.ensures.items c.requires.room c.commit_oldest.ensures.stays
