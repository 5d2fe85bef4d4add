-- What is behind a place in a list.
use Rattle.std.proofs.Common.{◌≡◌, ◌∙◌, ℕ, ◌-◌, List, length, take, drop, ap, sym}
use Rattle.std.proofs.lemmas.List.{length-drop}
use Rattle.std.proofs.Math.Seq.{take-length}

pub rest_is : {A : Type 0} (n : ℕ) (list : List A) → take (length list - n) (drop n list) ≡ drop n list
rest_is n list = ap (λ k. take k (drop n list)) (sym (length-drop n list)) ∙ take-length (drop n list)
