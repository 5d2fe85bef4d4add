use Rattle.std.proofs.Common.{◌≡◌, drop, map}
use Rattle.std.specs.List.{list_all}
use Rattle.pfr_command.specs.Shows.{is_verdict}
use Rattle.pfr_command.proofs.show.are_verdicts.Given as goal

abbrev pub invariant-loop-word : goal.invariant-loop-word
invariant-loop-word l = list_all is_verdict (map (λ w. w.now) (drop l.word-index l.words)) ≡ list_all is_verdict (map (λ w. w.now) l.words)
