use Rattle.std.proofs.Common.{◌≡◌, ◌+◌, ◌≤◌, length, take, ap, arith}
use Rattle.std.proofs.lemmas.List.{length-take-le}
use Rattle.pfr_capture.proofs.ListLemmas.{read_behind}
use Rattle.pfr_capture.proofs.pieces.read_behind.Goals as goal

pub returns-in-Ok-clause-extends : goal.returns-in-Ok-clause-extends
returns-in-Ok-clause-extends g c =
    let held = c.args.held in
    let old = c.args.buffer.now.items in
    let long : length (take held old) ≡ held = length-take-le held old (omega arith) in
    let within : c.in-Ok.came ≤ length c.read.new.buffer = omega (arith, c.in-Ok.ensures.within, c.read.auto.buffer) in
    let below : held + c.in-Ok.came ≤ c.args.buffer.now.len = omega (arith, c.in-Ok.ensures.within) in
    record {
      more = take c.in-Ok.came c.read.new.buffer;
      is = read_behind c.deref_mut.result.now (take held old) c.read.new.buffer _ _ held c.in-Ok.came c.args.buffer.now.len (ap (take held) c.deref_mut.ensures.value) long within below;
    }

pub returns-in-Ok-clause-came : goal.returns-in-Ok-clause-came
unfolding returns-in-Ok-clause-extends
returns-in-Ok-clause-came g c =
    λ told.
    record { came = take c.in-Ok.came c.read.new.buffer; gave = c.in-Ok.ensures.unread told; behind = (returns-in-Ok-clause-extends g c).is }
