-- The word that stands for a standard stream.
use Rattle.std.specs.Prelude.{ℕ, suc, Bool, if◌then◌else◌, List, [], ◌∷◌}
use Rattle.std.specs.Str.{bytes_eq}
use Rattle.pfr_values.specs.declared.also.CaptureWords.{CaptureWords}

-- it is -
abbrev pub is_standard : List ℕ → Bool
is_standard name = bytes_eq name (45 ∷ [])

-- how many captures come from standard input
abbrev pub standard_inputs : List CaptureWords → ℕ
standard_inputs [] = 0
standard_inputs (words ∷ captures) = if is_standard words.capture.now then suc (standard_inputs captures) else standard_inputs captures
