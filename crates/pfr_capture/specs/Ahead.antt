-- Bytes that are read ahead of a source.
use Rattle.std.specs.Prelude.{◌≡◌, ℕ, List, ◌++◌}
use Rattle.pfr_capture.specs.declared.capture.CaptureError.{CaptureError}
use Rattle.pfr_capture.specs.declared.capture.CaptureError.TheVariants.{Read, Memory}
use Rattle.pfr_capture.specs.Device.{Rose}

-- the source gave bytes, which stand behind those that were there
pub record CameBehind (old new before left : List ℕ) : Type 0 where
  pub came : List ℕ
  pub gave : before ≡ came ++ left
  pub behind : new ≡ old ++ came

-- the device failed, or memory was refused and it did not; no other error comes
abbrev pub FailsBy : CaptureError → ℕ → ℕ → Type 0
FailsBy Read old new = Rose old new
FailsBy Memory old new = new ≡ old
FailsBy _ old new = ⊥

-- whatever the source tells, what was there stays at the front
pub record Extends (old new : List ℕ) : Type 0 where
  pub more : List ℕ
  pub is : new ≡ old ++ more
