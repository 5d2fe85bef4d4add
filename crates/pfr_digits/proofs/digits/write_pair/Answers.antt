use Rattle.std.proofs.Common.{◌≡◌, ◌+◌, ◌%◌, set, arith, length-set}
use Rattle.std.proofs.lemmas.List.{set_comm, drop-set}
use Rattle.pfr_digits.proofs.DigitLemmas.{pair_at}
use Rattle.pfr_digits.proofs.digits.write_pair.Goals as goal

pub returns : goal.returns
returns c =
    let p = pair_at c.args.pair c.requires.0 in
    let start = c.args.start in
    let text = c.args.text.now in
    let e : start + 1 + 1 ≡ start + 2 = omega arith in
    rw (p.0, p.1, set_comm text start (start + 1) _ _ (λ x. omega arith), drop-set (set text (start + 1) (48 + c.args.pair % 10)) start _ (omega (arith, length-set text (start + 1) (48 + c.args.pair % 10))), drop-set text (start + 1) _ (omega arith), e)
