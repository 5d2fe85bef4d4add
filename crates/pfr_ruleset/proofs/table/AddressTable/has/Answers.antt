use Rattle.std.proofs.Common.{◌≤◌, ◌-◌, ◌+◌, ap, arith}
use Rattle.std.specs.Option.{option_copied}
use Rattle.pfr_ruleset.proofs.MemberLemmas.{member_found, none_found, NoneFrom}
use Rattle.pfr_ruleset.proofs.table.AddressTable.has.Goals as goal

pub returns-in-Some : goal.returns-in-Some
returns-in-Some c =
    let bits = c.loop-bits.bits - 1 in
    let fits : bits ≤ 32 = omega arith in
    let none : NoneFrom c.self.inside.signs c.args.address.0 (bits + 1) = λ b low below. c.loop-bits.invariant.1 b (omega arith) below in
    member_found c.self.inside.signs c.args.self.now c.args.address.0 bits _ _ c.in-Some.is_negated.now c.self.invariant.0 c.self.view_is fits none c.prefix.ensures c.get.ensures.value (ap option_copied c.in-Some.is)

pub returns : goal.returns
returns c = none_found c.self.inside.signs c.args.self.now c.args.address.0 c.loop-bits.bits c.self.invariant.0 c.self.view_is c.loop-bits-test.false c.loop-bits.invariant.1
