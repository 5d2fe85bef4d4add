-- The turns of a loop.
use Rattle.std.proofs.Common.{◌≡◌, ◌<◌, ◌≤◌, ℕ, suc, ◌+◌, ◌-◌, refl, arith}
use Rattle.pfr_terms.specs.Input.{Input, Parser, refuse, loop_from}

pub one_turn : {S A : Type 0} (turn : (S → Parser A) → S → Parser A) (n at : ℕ) (so_far : S) (i : Input) → at < n
    → loop_from turn (n - at) so_far i ≡ turn (loop_from turn (n - (at + 1))) so_far i
unfolding loop_from
one_turn turn n at so_far i below = let e : n - at ≡ suc (n - (at + 1)) = omega arith in rw e refl

pub no_turn : {S A : Type 0} (turn : (S → Parser A) → S → Parser A) (n at : ℕ) (so_far : S) (i : Input) → n ≤ at
    → loop_from turn (n - at) so_far i ≡ refuse i
unfolding loop_from
no_turn turn n at so_far i done = let e : n - at ≡ 0 = omega arith in rw e refl
