use Rattle.std.proofs.Common.{rules, ◌≡◌, IfSome, sym, subst}
use Rattle.std.specs.Prelude.{Option}
use Rattle.pfr_net.specs.declared.timeout.Timeout.{Timeout}
use Rattle.pfr_net.specs.Timeouts.{code_of, timeout_of}
use Rattle.pfr_net.proofs.TimeoutLemmas.{code_of_timeout}
use Rattle.pfr_net.proofs.timeout.Timeout.of_code.Goals as goal

pub returns-clause-code : goal.returns-clause-code
returns-clause-code c =
    let answer : c.copied.result ≡ timeout_of c.args.code = search rules in
    subst (λ (timeout : Option Timeout). IfSome timeout (λ t. code_of t ≡ c.args.code)) (sym answer) (code_of_timeout c.args.code)
