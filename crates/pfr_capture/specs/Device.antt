-- What the calls of a device move, and how they count its failures.
use Rattle.std.specs.Prelude.{◌≡◌, ◌+◌, ◌-◌, ◌^◌, ◌≤◌, ℕ, zero, suc, min, List, [], ◌∷◌, ◌++◌, take, Result, Ok, Err}

-- the bytes of a piece that a call moved: `count` from its front, and none if the device failed
abbrev pub moved : {E : Type 0} → Result ℕ E → List ℕ → List ℕ
moved (Ok count) piece = take count piece
moved (Err fault) piece = []

-- one failure more; the count stays at the last value that 64 bits hold
abbrev pub one_more : ℕ → ℕ
one_more failures = min (failures + 1) (2 ^ 64 - 1)

-- the failures after a write: a fault is one, and so is a write of nothing out of a piece that isn't empty
abbrev pub after_write : {E : Type 0} → Result ℕ E → List ℕ → ℕ → ℕ
after_write (Ok zero) [] failures = failures
after_write (Ok zero) (byte ∷ piece) failures = one_more failures
after_write (Ok (suc count)) piece failures = failures
after_write (Err fault) piece failures = one_more failures

-- the failures after a read: only a fault is one
abbrev pub after_read : {E : Type 0} → Result ℕ E → ℕ → ℕ
after_read (Ok count) failures = failures
after_read (Err fault) failures = one_more failures

-- the device failed between two counts; a count at its last value stands for one that rose
abbrev pub Rose : ℕ → ℕ → Type 0
Rose old new = one_more old ≤ new

-- `new` is `old` with a beginning of the text behind it; `rest` of the text is still to come
pub record Added (old new text rest : List ℕ) : Type 0 where
  pub added : List ℕ
  pub text_is : text ≡ added ++ rest
  pub new_is : new ≡ old ++ added

-- old grew by a beginning of the text, maybe by nothing or by all of it
abbrev pub GrewByBeginning : List ℕ → List ℕ → List ℕ → Type 0
GrewByBeginning old new text = (rest : List ℕ) × Added old new text rest

-- old grew by a beginning of the text that lacks at least its last byte
pub record GrewByPart (old new text : List ℕ) : Type 0 where
  pub last : ℕ
  pub missing : List ℕ
  pub grew : Added old new text (last ∷ missing)
