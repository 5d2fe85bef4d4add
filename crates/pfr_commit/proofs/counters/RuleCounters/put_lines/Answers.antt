use Rattle.std.proofs.Common.{◌++◌, ◌∙◌, List, ℕ, ap, sym}
use Rattle.std.proofs.lemmas.List.{append_assoc}
use Rattle.std.specs.List.{flat_map, range_with_len}
use Rattle.std.specs.String.{string_bytes}
use Rattle.pfr_commit.specs.Endings.{line_at}
use Rattle.pfr_commit.proofs.EndingLemmas.{lines_more}
use Rattle.pfr_commit.proofs.counters.RuleCounters.put_lines.Goals as goal

pub loop-number-preserved : goal.loop-number-preserved
loop-number-preserved c =
    let lines = flat_map (line_at c.args.kind.now c.args.self.now) (range_with_len 0 c.loop-number.number) in
    c.in_ok-write.ensures.bytes
    ∙ (rw (c.line_at-line.ensures, c.loop-number.invariant) (append_assoc (string_bytes c.args.text.now) lines (line_at c.args.kind.now c.args.self.now c.loop-number.number)))
    ∙ ap (λ (t : List ℕ). string_bytes c.args.text.now ++ t) (sym (lines_more c.args.kind.now c.args.self.now c.loop-number.number))
