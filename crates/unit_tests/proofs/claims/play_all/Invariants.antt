use Rattle.std.proofs.Common.{◌≡◌, ◌+◌, vec_len, deque_len}
use Rattle.std.specs.List.{All}
use Rattle.unit_tests.proofs.claims.play_all.Given as goal

abbrev pub invariant-loop-turn : goal.invariant-loop-turn
invariant-loop-turn l = record {
  waiting : All (λ pass. pass.batch ≡ l.claims) l.waiting.items;
  ended : All (λ pass. pass.batch ≡ l.claims) l.ended.items;
  whole : deque_len l.waiting + vec_len l.ended ≡ vec_len l.fn.passes;
}

abbrev pub invariant-loop-pass : goal.invariant-loop-pass
invariant-loop-pass l = record {
  waiting : All (λ pass. pass.batch ≡ l.claims) l.waiting.items;
  ended : All (λ pass. pass.batch ≡ l.claims) l.ended.items;
  whole : deque_len l.waiting + vec_len l.ended ≡ vec_len l.fn.passes;
}

abbrev pub decreases-loop-pass : goal.decreases-loop-pass
decreases-loop-pass l = deque_len l.waiting
