-- Where captures were taken, as a word of the command line says.
use Rattle.std.specs.Prelude.{◌≡◌, ℕ, if◌then◌else◌, List, codes, Option, Some, None}
use Rattle.std.specs.Str.{bytes_eq}
use Rattle.pfr_headers.specs.declared.tap.Tap.{Tap}
use Rattle.pfr_headers.specs.declared.tap.Tap.TheVariants.{Stack, Wire}

-- `stack` or `wire`
abbrev pub tap_of : List ℕ → Option Tap
tap_of word =
    if bytes_eq word (codes "stack") then Some Stack else
    if bytes_eq word (codes "wire") then Some Wire else
    None

-- the side that a word says; without one it is that of the network stack
abbrev pub IsTap : Option (List ℕ) → Tap → Type 0
IsTap None tap = tap ≡ Stack
IsTap (Some word) tap = tap_of word ≡ Some tap
