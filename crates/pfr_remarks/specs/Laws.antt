-- What remarks are about.
use Rattle.std.specs.Prelude.{◌≡◌, ◌⊎◌, ⊤, ℕ, Bool, true, false, List, [], ◌∷◌, Option, Some, None}
use Rattle.pfr_marks.specs.declared.mark.Mark.{Mark}
use Rattle.pfr_marks.specs.Marks.{marks}
use Rattle.pfr_remarks.specs.declared.before.Keyword.{Keyword}
use Rattle.pfr_remarks.specs.declared.before.Keyword.TheVariants as keyword
use Rattle.pfr_remarks.specs.declared.remark.Remark.{Remark}
use Rattle.pfr_remarks.specs.Befores.{keyword_of}
use Rattle.pfr_remarks.specs.Finding.{remarks}

-- the remarks stand at words of these marks, in their order, at most one at a word
abbrev pub AreAtWords : List Remark → List Mark → Type 0
AreAtWords [] marks = ⊤
AreAtWords (remark ∷ remarks) [] = ⊥
AreAtWords (remark ∷ remarks) (mark ∷ marks) =
    ((remark.place ≡ mark.start) × (remark.word ≡ mark.piece) × AreAtWords remarks marks) ⊎ AreAtWords (remark ∷ remarks) marks

abbrev pub EachRemarkIsAtAWord : Type 0
EachRemarkIsAtAWord = (text : List ℕ) → AreAtWords (remarks text) (marks text)

-- a word with this meaning may be refused, or the word behind it
abbrev pub may_be_refused : Option Keyword → Bool
may_be_refused None = false
may_be_refused (Some keyword.Protocol) = false
may_be_refused (Some keyword.Target) = false
may_be_refused (Some keyword.Port) = true
may_be_refused (Some keyword.Type) = true
may_be_refused (Some keyword.Keep) = true
may_be_refused (Some keyword.Label) = true

-- none of these marks is `port`, `icmp-type`, `keep`, `modulate`, `synproxy` or `label`
abbrev pub AreOtherWords : List Mark → Type 0
AreOtherWords [] = ⊤
AreOtherWords (mark ∷ marks) = (may_be_refused (keyword_of mark.piece) ≡ false) × AreOtherWords marks

abbrev pub NothingIsSaidOfOtherWords : Type 0
NothingIsSaidOfOtherWords = (text : List ℕ) → AreOtherWords (marks text) → remarks text ≡ []
