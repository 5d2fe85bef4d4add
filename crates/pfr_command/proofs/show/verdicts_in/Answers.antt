use Rattle.std.proofs.Common.{Bor, List, ap, map, sym, ◌∙◌, ℕ}
use Rattle.std.specs.Prelude.{codes}
use Rattle.std.specs.List.{list_all}
use Rattle.pfr_command.specs.Shows.{has, is_verdict}
use Rattle.pfr_command.proofs.show.verdicts_in.Goals as goal

pub returns : goal.returns
returns c =
    let same = ap (map (λ (w : Bor (List ℕ)). w.now)) c.as_slice-parts.ensures.value ∙ c.in_ok-parts.ensures in
    record {
      verdicts = sym (c.if-not-are_verdicts.ensures ∙ ap (list_all is_verdict) same);
      pass_is = c.has.ensures ∙ ap (λ words. has words (codes "pass")) same;
      block_is = c.has-2.ensures ∙ ap (λ words. has words (codes "block")) same;
      return_is = c.has-3.ensures ∙ ap (λ words. has words (codes "return")) same;
      skip_is = c.has-4.ensures ∙ ap (λ words. has words (codes "skip")) same;
    }
