use Rattle.std.proofs.Common.{◌+◌, sym, ap, ◌∙◌, arith}
use Rattle.pfr_claims.specs.declared.rule.Sizes.{Sizes}
use Rattle.pfr_claims.proofs.Moves.{closes_at}
use Rattle.pfr_claims.proofs.claims.Claims.gather.Goals as goal

pub load-word-requires : goal.load-word-requires
load-word-requires c =
    let all = c.collect_all-all.ensures in (
      all.table ∙ sym (ap (λ batch. batch.table) c.self.view_is),
      omega arith,
      closes_at _ _ _ _ _ _ _ c.requires.whole.1 (c.self.invariant.0 ∙ ap (λ batch. batch.sizes) c.self.view_is) c.requires.whole.0 all.knows,
    )

pub invariant_of-result : goal.invariant_of-result
invariant_of-result c =
    let all = c.collect_all-all.ensures in
    let sizes = ap (λ me. me.0.sizes) all.knows ∙ sym (ap (λ batch. batch.sizes) c.self.view_is) in
    record {
      sized = ap (λ batch. batch.sizes) (c.self.view_is ∙ sym c.of-claims.ensures);
      own = rw (c.of-seen.ensures, c.of-claims.ensures) c.requires.own;
      whole = rw c.of-seen.ensures (c.requires.whole.0 ∙ sym (ap (λ batch. batch.sizes.workers) c.self.view_is));
      past = c.load-word.ensures.2.1 ∙ ap (λ (sizes : Sizes). sizes.count + sizes.workers) sizes;
      rising = rw c.of-seen.ensures all.rising;
      once = λ number. rw c.of-seen.ensures (sym (all.drawn number) ∙ c.load-word.ensures.2.2 number);
    }
