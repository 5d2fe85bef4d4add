-- What is said of a change.
use Rattle.std.specs.Prelude.{◌≡◌, ◌⊎◌, List, [], ◌∷◌}
use Rattle.pfr_marks.specs.declared.mark.Mark.{Mark}
use Rattle.pfr_phrases.specs.declared.change.Finding.{Finding}
use Rattle.pfr_phrases.specs.declared.reason.Reason.{Reason}

-- at the word for which it is made
abbrev pub finding_at : Mark → Reason → Finding
finding_at mark reason = record { place = mark.start; word = mark.piece; reason = reason }

-- a finding has the place and the bytes of one of these marks
abbrev pub IsAtWord : Finding → List Mark → Type 0
IsAtWord finding [] = ⊥
IsAtWord finding (mark ∷ marks) = ((finding.place ≡ mark.start) × (finding.word ≡ mark.piece)) ⊎ IsAtWord finding marks
