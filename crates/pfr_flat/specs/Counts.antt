-- How many rules the lists of a statement make.
use Rattle.std.specs.Prelude.{ℕ, ◌+◌, ◌*◌, ◌||◌, Bool, nat_lt, if◌then◌else◌, Result, Ok, Err}
use Rattle.pfr_terms.specs.declared.error.ConfError.{ConfError}
use Rattle.pfr_terms.specs.declared.error.ConfErrorKind.TheVariants.{TooMany}
use Rattle.pfr_flat.specs.declared.lists.Lists as L
use Rattle.pfr_flat.specs.Lists.{product, has_long_list}

abbrev pub too_many : ℕ → ConfError
too_many line = record { line = line; kind = TooMany }

-- `count` more rules than `used` are more than a ruleset may have, or a list has more elements than it may have
abbrev pub exceeds : ℕ → L.Lists → ℕ → Bool
exceeds used lists count = has_long_list lists || nat_lt 65536 (used + count)

-- how many rules a statement has: `before`, and `copies` for each combination of the lists, unless they are too many
unfoldable pub counted : ℕ → ℕ → L.Lists → ℕ → ℕ → Result ℕ ConfError
counted used line lists before copies =
    let count : ℕ = before + product lists * copies in
    if exceeds used lists count then Err (too_many line) else Ok count
