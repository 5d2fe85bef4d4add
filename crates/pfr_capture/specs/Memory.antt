-- A device over bytes in memory, as contracts see it.
use Rattle.std.specs.Prelude.{ℕ, zero, suc, Bool, true, false, List, Option, Some, None}

pub record Memory : Type 0 where
  -- all its bytes: those to be read, and those that were written
  pub bytes : List ℕ
  -- how many of them were read
  pub place : ℕ
  -- the most bytes that one call moves
  pub most : ℕ
  -- how many calls go well before the one that fails, if one is to fail
  pub until_failure : Option ℕ
  pub failures : ℕ

-- the next call is the one that fails
abbrev pub fails_first : Option ℕ → Bool
fails_first (Some zero) = true
fails_first (Some (suc calls)) = false
fails_first None = false

-- how many calls go well after the next one, if one is still to fail
abbrev pub after_call : Option ℕ → Option ℕ
after_call (Some zero) = None
after_call (Some (suc calls)) = Some calls
after_call None = None
