use Rattle.std.proofs.Common.{◌+◌, ◌<◌, ◌≤◌, arith, length}
use Rattle.pfr_rules.proofs.Tallies.{counted_between, counted_to_the_end, no_run_counted}
use Rattle.pfr_rules.proofs.evaluations.count_run.Goals as goal

pub returns-then-first-tallies-clause-counts : goal.returns-then-first-tallies-clause-counts
returns-then-first-tallies-clause-counts c = no_run_counted c.args.tallies.now c.args.first c.args.count c.if-first-tallies.true

pub returns-then-count-tallies-clause-counts : goal.returns-then-count-tallies-clause-counts
returns-then-count-tallies-clause-counts c =
    let there = c.if-first-tallies.false in
    let far = c.if-count-tallies.true in
    let past : length c.args.tallies.now ≤ c.args.first + c.args.count = omega (arith, there, far) in
    (counted_to_the_end c.args.tallies.now c.args.first c.args.count c.in-Some.begun c.in-Some.ensures.1 past c.requires.balances).0

pub returns-then-count-tallies-clause-balances : goal.returns-then-count-tallies-clause-balances
returns-then-count-tallies-clause-balances c =
    let there = c.if-first-tallies.false in
    let far = c.if-count-tallies.true in
    let past : length c.args.tallies.now ≤ c.args.first + c.args.count = omega (arith, there, far) in
    (counted_to_the_end c.args.tallies.now c.args.first c.args.count c.in-Some.begun c.in-Some.ensures.1 past c.requires.balances).1

pub returns-clause-counts : goal.returns-clause-counts
returns-clause-counts c =
    let not_none = c.if-count-eq0.false in
    let some : 0 < c.args.count = omega (arith, not_none) in
    (counted_between c.args.tallies.now c.args.first c.args.count c.in-Some.begun c.in-Some-checked_add.ended c.in-Some.ensures.1 c.in-Some-checked_add.ensures.1 some c.requires.balances).0

pub returns-clause-balances : goal.returns-clause-balances
returns-clause-balances c =
    let not_none = c.if-count-eq0.false in
    let some : 0 < c.args.count = omega (arith, not_none) in
    (counted_between c.args.tallies.now c.args.first c.args.count c.in-Some.begun c.in-Some-checked_add.ended c.in-Some.ensures.1 c.in-Some-checked_add.ensures.1 some c.requires.balances).1
