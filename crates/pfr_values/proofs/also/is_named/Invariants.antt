use Rattle.std.proofs.Common.{◌≡◌, drop}
use Rattle.std.specs.List.{list_any}
use Rattle.std.specs.Str.{bytes_eq}
use Rattle.pfr_values.specs.Places.{names_of}
use Rattle.pfr_values.proofs.also.is_named.Given as goal

abbrev pub invariant-loop-words : goal.invariant-loop-words
invariant-loop-words l =
    list_any (λ other. bytes_eq other l.name) (names_of (drop l.words-index l.captures))
    ≡ list_any (λ other. bytes_eq other l.name) (names_of l.captures)
