use Rattle.std.proofs.Common.{◌≡◌, ◌∙◌, ◌≤◌, ◌<◌, ◌^◌, List, ℕ, ap, length, rules, arith}
use Rattle.std.proofs.lemmas.List.{take_rest}
use Rattle.pfr_capture.specs.Header.{number}
use Rattle.pfr_capture.proofs.RecordLemmas.{too_long_from}
use Rattle.pfr_capture.specs.Records.{captured_of}
use Rattle.pfr_capture.proofs.reader.look_for_header.Goals as goal

pub returns-then-captured-gt-MOST_CAPTURED-clause-refused : goal.returns-then-captured-gt-MOST_CAPTURED-clause-refused
returns-then-captured-gt-MOST_CAPTURED-clause-refused g c =
    λ told.
    let may : c.args.count < 2 ^ 40 = omega arith in
    let header : 16 ≤ length c.fill.new.self = search rules in
    let asks : c.read_u32-captured.result ≡ captured_of c.args.order c.fill.new.self =
    c.read_u32-captured.ensures ∙ ap (λ (xs : List ℕ). number c.args.order xs) (take_rest c.bytes-2.result.now 8)
    ∙ ap (λ (xs : List ℕ). captured_of c.args.order xs) c.bytes-2.ensures in
    let above : 262144 < c.read_u32-captured.result = omega arith in
    too_long_from c.args.order c.args.count c.args.ahead.now c.fill.new.self _ _ c.read_u32-captured.result (c.in_ok-fill.ensures.came told) may header asks above
