-- The peer of a run, as a word of the command line names it.
use Rattle.std.specs.Prelude.{◌≡◌, ◌≤◌, ℕ, List, ◌∷◌, ◌++◌, length, Some}
use Rattle.pfr_net.specs.Notation.{number}

-- a port from 1 to 65535 in decimal digits, which may have leading zeros
abbrev pub WritesPort : List ℕ → ℕ → Type 0
WritesPort digits port = (number digits ≡ Some port) × (1 ≤ port) × (port ≤ 65535)

-- `HOST:PORT`, of which the host isn't empty. Digits hold no colon, so the one before them is the word's last
abbrev pub Names : List ℕ → List ℕ → ℕ → Type 0
Names word host port = (digits : List ℕ) × (word ≡ host ++ 58 ∷ digits) × (1 ≤ length host) × WritesPort digits port

abbrev pub WritesNone : List ℕ → Type 0
WritesNone digits = (port : ℕ) → WritesPort digits port → ⊥

abbrev pub NamesNone : List ℕ → Type 0
NamesNone word = (host : List ℕ) (port : ℕ) → Names word host port → ⊥
