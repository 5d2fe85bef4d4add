use Rattle.std.proofs.Common.{◌≡◌, length, subst, arith}
use Rattle.pfr_values.specs.Peers.{NamesNone, WritesNone}
use Rattle.pfr_values.proofs.PeerLemmas.{none_without_colon, none_without_host, none_without_port}
use Rattle.pfr_values.proofs.values.peer_of.Goals as goal

pub returns-in_err-host : goal.returns-in_err-host
returns-in_err-host c =
    let none : NamesNone c.args.word.now = none_without_colon c.args.word.now c.in_err-host.ensures.cases in
    rw c.from_residual.ensures none

pub returns-in_err-port : goal.returns-in_err-port
returns-in_err-port c =
    let refused : WritesNone c.in_ok-host.digits.now = subst WritesNone c.as_bytes.ensures.value c.in_err-port.ensures in
    let none : NamesNone c.args.word.now = none_without_port c.args.word.now c.in_ok-host.host.now c.in_ok-host.digits.now c.in_ok-host.ensures.cases refused in
    rw c.from_residual-in_err-port.ensures none

pub returns-then-is_empty : goal.returns-then-is_empty
returns-then-is_empty c =
    let empty : length c.in_ok-host.host.now ≡ 0 = grind (arith, c.if-is_empty.ensures) in
    none_without_host c.args.word.now c.in_ok-host.host.now c.in_ok-host.digits.now c.in_ok-host.ensures.cases empty
