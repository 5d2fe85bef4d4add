use Rattle.std.proofs.Common.{◌≡◌, drop}
use Rattle.pfr_words.specs.Names.{is_among}
use Rattle.pfr_rewrite.proofs.interfaces.is_named.Given as goal

abbrev pub invariant-loop-interface : goal.invariant-loop-interface
invariant-loop-interface l = is_among (drop l.interface-index l.interfaces) l.name ≡ is_among l.interfaces l.name
