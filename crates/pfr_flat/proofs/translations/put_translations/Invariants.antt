use Rattle.std.proofs.Common.{◌≡◌, ◌+◌, ◌++◌, drop}
use Rattle.pfr_flat.specs.Translations as spec
use Rattle.pfr_flat.proofs.translations.put_translations.Given as goal

abbrev pub invariant-loop-packet : goal.invariant-loop-packet
invariant-loop-packet g l =
    (l.out ++ spec.numbered l.next l.line l.passes l.target (drop l.packet-index l.matches) ≡ l.fn.out ++ spec.numbered l.number l.line l.passes l.target l.matches)
    × (l.next ≡ l.number + l.packet-index)
