-- A number that is capped far above a limit is within the limit exactly if the number itself is.
use Rattle.std.proofs.Common.{◌≡◌, ℕ, ◌<◌, ◌≤◌, Bool, true, false, ◌&&◌, if◌then◌else◌, min, leb, List, Option, Some, None, refl, sym, arith}
use Rattle.std.proofs.lemmas.Bool.{lt-leb, le-leb}
use Rattle.pfr_net.specs.Notation.{is_number, value, number, number_within}

abbrev within : ℕ → Option ℕ → Option ℕ
within limit None = None
within limit (Some n) = if leb n limit then Some n else None

small : (v limit : ℕ) → limit < 4294967296 → (if leb (min v 4294967296) limit then Some (min v 4294967296) else None) ≡ (if leb v limit then Some v else None)
small v limit low = grind arith

by_value : (there : Bool) (v limit : ℕ) → limit < 4294967296 → within limit (if there then Some (min v 4294967296) else None) ≡ (if there && leb v limit then Some v else None)
by_value true v limit low = small v limit low
by_value false v limit low = refl

uncapped : (limit : ℕ) (text : List ℕ) → limit < 4294967296 → within limit (number text) ≡ number_within limit text
unfolding number number_within
uncapped limit text low = by_value (is_number text) (value text) limit low

-- by what the number is: at most the limit, above it, or none
pub kept : (limit n : ℕ) (text : List ℕ) → limit < 4294967296 → Some n ≡ number text → n ≤ limit → Some n ≡ number_within limit text
kept limit n text low is within = rw (sym (uncapped limit text low), sym is, le-leb n limit within) refl

pub above : (limit n : ℕ) (text : List ℕ) → limit < 4294967296 → Some n ≡ number text → limit < n → None ≡ number_within limit text
above limit n text low is large = rw (sym (uncapped limit text low), sym is, lt-leb n limit large) refl

pub absent : (limit : ℕ) (text : List ℕ) → limit < 4294967296 → None ≡ number text → None ≡ number_within limit text
absent limit text low is = rw (sym (uncapped limit text low), sym is) refl
