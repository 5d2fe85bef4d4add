use Rattle.std.proofs.Common.{◌≡◌, ◌+◌, [], ◌∷◌, ◌++◌, length, sym, ap, ◌∙◌, arith, append_assoc, length-append}
use Rattle.std.proofs.lemmas.List.Elements.{All-push, All-rest, All-same}
use Rattle.std.specs.List.{concat}
use Rattle.std.specs.Vec.Iter.{into_iter_items}
use Rattle.pfr_claims.specs.Batches.{Held, lists_of}
use Rattle.pfr_claims.specs.Counting.{times}
use Rattle.pfr_claims.specs.Drawing.{knows}
use Rattle.pfr_claims.proofs.Sums.{times_append}
use Rattle.pfr_claims.proofs.Joining.{Rises, all_joined, lists_rise, times_joined}
use Rattle.pfr_claims.proofs.claims.Claims.collect_all.Goals as goal

pub loop-pass-preserved : goal.loop-pass-preserved
loop-pass-preserved c =
    let before = c.loop-pass.invariant in
    let step = c.in-Some-pass.ensures.steps.0 in
    let pass = c.in-Some-pass.pass in
    let joined = c.collect.ensures.knows in
    let drawn : c.loop-pass.all.me.0.drawn ++ pass.drawn ≡ c.collect.new.all.me.0.drawn = sym (ap (λ me. me.0.drawn) joined) in
    let ended : c.loop-pass.all.me.0.ended ≡ length c.loop-pass.yielded + 1 = ap (λ me. me.0.ended) before.knows in
    let more : c.loop-pass.all.me.0.ended + 1 ≡ length (c.loop-pass.yielded ++ pass ∷ []) + 1 = omega (arith, length-append c.loop-pass.yielded (pass ∷ [])) in
    record {
      next = tt;
      finite = tt;
      split = append_assoc c.loop-pass.yielded (pass ∷ []) (into_iter_items c.next.new.self) ∙ (ap (λ items. c.loop-pass.yielded ++ items) (sym step) ∙ before.split);
      own = All-rest (λ (other : Held). other.batch ≡ c.args.self.now) pass _ _ step before.own;
      table = c.collect.ensures.table ∙ before.table;
      knows = joined ∙ (λ i. (knows c.args.self.now.sizes (drawn i) 0 (more i), []));
      rising = All-push Rises c.loop-pass.yielded pass before.rising c.collect.ensures.rises;
      drawn = λ number.
          let earlier = before.drawn number in
          let sum = times_append number c.loop-pass.all.me.0.drawn pass.drawn in
          let same = ap (times number) drawn in
          omega (arith, times_joined number c.loop-pass.yielded pass);
    }

-- all passes are those that were joined, and the one that was popped first
pub returns-clause-rising : goal.returns-clause-rising
returns-clause-rising c =
    let before = c.loop-pass.invariant in
    let none : length (into_iter_items c.loop-pass.pass-iterator) ≡ 0 = omega (arith, c.loop-pass.pass-iterator.rest.ok.0, c.in-None.ensures.steps.0) in
    let all : c.args.passes.items ≡ c.loop-pass.yielded ++ c.in-Some.last ∷ [] = all_joined _ _ _ _ _ c.in-Some.last c.in-Some.ensures.items c.into_iter-pass-iterator.ensures.into_iter_gives.0 before.split none in
    lists_rise c.args.passes.items (All-same Rises _ _ all (All-push Rises c.loop-pass.yielded c.in-Some.last before.rising c.into_seat-all.ensures.rises))

pub returns-clause-drawn : goal.returns-clause-drawn
returns-clause-drawn c =
    let before = c.loop-pass.invariant in
    let none : length (into_iter_items c.loop-pass.pass-iterator) ≡ 0 = omega (arith, c.loop-pass.pass-iterator.rest.ok.0, c.in-None.ensures.steps.0) in
    let all : c.args.passes.items ≡ c.loop-pass.yielded ++ c.in-Some.last ∷ [] = all_joined _ _ _ _ _ c.in-Some.last c.in-Some.ensures.items c.into_iter-pass-iterator.ensures.into_iter_gives.0 before.split none in
    λ number.
    let earlier = before.drawn number in
    let first = ap (λ me. times number me.0.drawn) c.into_seat-all.ensures.knows in
    let same = ap (λ passes. times number (concat (lists_of passes))) all in
    omega (arith, times_joined number c.loop-pass.yielded c.in-Some.last)
