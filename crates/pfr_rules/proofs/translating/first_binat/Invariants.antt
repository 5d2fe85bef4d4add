use Rattle.std.proofs.Common.{◌≡◌, ◌++◌, drop}
use Rattle.std.specs.List.{find}
use Rattle.pfr_rules.specs.Translating as spec
use Rattle.pfr_rules.proofs.translating.first_binat.Given as goal

abbrev pub invariant-loop-rule : goal.invariant-loop-rule
invariant-loop-rule l = record {
  found : find (spec.binat_holds l.flat l.name l.packet l.direction) (drop l.rule-index l.rules) ≡ find (spec.binat_holds l.flat l.name l.packet l.direction) l.rules;
  visits : l.visits ++ spec.asked_in spec.binats l.flat l.name l.packet l.direction (drop l.rule-index l.rules) ≡ l.fn.visits ++ spec.asked_in spec.binats l.flat l.name l.packet l.direction l.rules;
}
