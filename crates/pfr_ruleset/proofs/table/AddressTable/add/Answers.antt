use Rattle.std.proofs.Common.{rules, ◌<◌, true, not, ap, length, set, sym, ◌∙◌}
use Rattle.pfr_ruleset.specs.Keys.{AreInOrder, AreKnown}
use Rattle.pfr_ruleset.proofs.KeyLemmas.{clashes_found, known_on, puts, puts_in_order}
use Rattle.pfr_ruleset.proofs.table.AddressTable.add.Goals as goal

pub returns-then-is_other-clause-fits : goal.returns-then-is_other-clause-fits
returns-then-is_other-clause-fits c =
    ap not (sym c.if-is_other.true ∙ clashes_found _ _ c.args.entry _ _ _ c.self.invariant.0 c.self.view_is c.key-network.ensures c.get.ensures.value c.is_other.ensures)

pub invariant_of-self-2 : goal.invariant_of-self-2
invariant_of-self-2 c =
    let entries = c.in_ok-insert.ensures.entries in
    let in_order : AreInOrder c.insert.new.self.entries = rw entries (rw c.key-network.ensures (puts_in_order c.self.inside.signs.entries c.args.entry.network c.args.entry.is_negated c.self.invariant.0 (rw (← c.key-network.ensures, ← entries) c.insert.ensures.ordered))) in
    let within : c.key-network.result.0 < length c.self.inside.lengths = search rules in
    let known : AreKnown c.insert.new.self (set c.self.inside.lengths c.key-network.result.0 true) = known_on c.self.inside.signs c.insert.new.self c.self.inside.lengths c.key-network.result c.args.entry.is_negated c.self.invariant.1 within c.in_ok-insert.ensures.updates.0 in
    (in_order, rw c.from.ensures known)

pub returns-clause-fits : goal.returns-clause-fits
returns-clause-fits c =
    ap not (sym c.if-is_other.false ∙ clashes_found _ _ c.args.entry _ _ _ c.self.invariant.0 c.self.view_is c.key-network.ensures c.get.ensures.value c.is_other.ensures)

pub returns-clause-added : goal.returns-clause-added
returns-clause-added c =
    rw (c.in_ok-insert.ensures.entries, c.key-network.ensures, ← c.self.view_is) (puts c.self.inside.signs.entries c.args.entry)
