use Rattle.std.proofs.Common.{◌∷◌, ◌++◌, [], List, false, true, inl, inr, length, ap, refl, arith}
use Rattle.pfr_headers.specs.declared.packet.View.{View}
use Rattle.pfr_capture.specs.declared.capture.Record.{Record}
use Rattle.pfr_commit.specs.Emissions.{texts_of}
use Rattle.pfr_feed.specs.Runs.Call.{ended, gave}
use Rattle.pfr_feed.specs.Turns.{StopsWithin}
use Rattle.pfr_feed.proofs.ViewLemmas.{as_many}
use Rattle.pfr_feed.proofs.CallLemmas.{come_ended, come_gave, come_took, cut_at, over_at, refused_at, refused_within}
use Rattle.pfr_feed.proofs.TakeLemmas.{takes_viewed}
use Rattle.pfr_feed.proofs.alone.take_turn.Goals as goal

-- the reading ends
pub returns-in_default-clause-comes : goal.returns-in_default-clause-comes
returns-in_default-clause-comes g c = λ job start same far.
    let feeds = g.F.Feed.transitions in
    let come = come_ended feeds job start far.calls far.world c.args.book.now c.args.feed.now c.batch.new.self [] false far.come refl c.in_default.ensures.none in
    record { calls = far.calls ++ ended ∷ []; at = _; went = come.went; then = inl (over_at feeds job start (far.calls ++ ended ∷ []) far.world c.args.book.now c.batch.new.self [] true come refl refl) }

-- memory is refused for the views
pub returns-in_default-viewed-clause-comes : goal.returns-in_default-viewed-clause-comes
returns-in_default-viewed-clause-comes g c = λ job start same far.
    let feeds = g.F.Feed.transitions in
    let batch = c.in-Some.records.items in
    let come = come_gave feeds job start far.calls far.world c.args.book.now c.args.feed.now c.batch.new.self [] false batch far.come refl (omega arith) c.in-Some.ensures.some in
    record { calls = far.calls ++ gave batch ∷ []; at = _; went = come.went; then = refused_at feeds job start (far.calls ++ gave batch ∷ []) far.world c.args.book.now c.batch.new.self (batch ∷ []) false come }

-- or while the book takes the batch
pub returns-in_default-commit_batch_alone-clause-comes : goal.returns-in_default-commit_batch_alone-clause-comes
returns-in_default-commit_batch_alone-clause-comes g c = λ job start same far.
    let feeds = g.F.Feed.transitions in
    let batch = c.in-Some.records.items in
    let come = come_gave feeds job start far.calls far.world c.args.book.now c.args.feed.now c.batch.new.self [] false batch far.come refl (omega arith) c.in-Some.ensures.some in
    let some = c.in_default-commit_batch_alone.ensures.refused in
    let to = some.within.1 in
    let slice = ap (λ (ps : List (Record × View)). length ps) c.as_slice.ensures.value in
    let many = as_many batch c.in-Ok.packets.items c.in-Ok.ensures in
    let left : StopsWithin c.args.book.now c.commit_batch_alone.new.self batch = record { is_over = some.over; from = some.within.0; to = omega (arith, to, slice, many) } in
    record { calls = far.calls ++ gave batch ∷ []; at = _; went = come.went; then = refused_within feeds job start (far.calls ++ gave batch ∷ []) far.world c.args.book.now c.commit_batch_alone.new.self c.batch.new.self c.batch.new.self (batch ∷ []) [] false batch come refl refl (inr left) }

-- the feed takes a piece in part
pub returns-then-not-take-clause-comes : goal.returns-then-not-take-clause-comes
returns-then-not-take-clause-comes g c = λ job start same far.
    let feeds = g.F.Feed.transitions in
    let batch = c.in-Some.records.items in
    let come = come_gave feeds job start far.calls far.world c.args.book.now c.args.feed.now c.batch.new.self [] false batch far.come refl (omega arith) c.in-Some.ensures.some in
    let taken = takes_viewed c.args.book.now c.commit_batch_alone.new.self c.piece-piece.result c.commit_batch_alone.new.out batch c.in-Ok.packets.items c.piece-piece.ensures.texts c.in-Ok.ensures (rw c.as_slice.ensures.value at c.in-Ok-commit_batch_alone.ensures.taken.told) in
    record {
      calls = far.calls ++ gave batch ∷ [];
      at = _;
      went = come.went;
      then = inr (cut_at feeds job start (far.calls ++ gave batch ∷ []) far.world c.args.book.now c.commit_batch_alone.new.self c.batch.new.self c.take.new.self (batch ∷ []) [] false batch come refl same
          (record { piece = texts_of c.commit_batch_alone.new.out; changes = _; taken = taken; cut = c.take.ensures.cut c.if-not-take.true }));
    }

-- or whole, and its packets back
pub returns-clause-comes : goal.returns-clause-comes
returns-clause-comes g c = λ job start same far.
    let feeds = g.F.Feed.transitions in
    let batch = c.in-Some.records.items in
    let come = come_gave feeds job start far.calls far.world c.args.book.now c.args.feed.now c.batch.new.self [] false batch far.come refl (omega arith) c.in-Some.ensures.some in
    let taken = takes_viewed c.args.book.now c.commit_batch_alone.new.self c.piece-piece.result c.commit_batch_alone.new.out batch c.in-Ok.packets.items c.piece-piece.ensures.texts c.in-Ok.ensures (rw c.as_slice.ensures.value at c.in-Ok-commit_batch_alone.ensures.taken.told) in
    let on = come_took feeds job start (far.calls ++ gave batch ∷ []) far.world c.args.book.now c.commit_batch_alone.new.self c.batch.new.self c.give_back.new.self (batch ∷ []) [] false batch _ come refl same
    (record { piece = texts_of c.commit_batch_alone.new.out; mid = c.take.new.self; taken = taken; took = c.take.ensures.taken c.if-not-take.false; back = inl c.give_back.ensures.rests }) in
    record { calls = on.calls; world = _; come = on.come }
