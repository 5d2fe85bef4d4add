-- What adapting leaves as it is.
use Rattle.std.specs.Prelude.{◌≡◌, ◌⊎◌, ℕ, List, [], true}
use Rattle.pfr_rewrite.specs.declared.adapting.Adapted.{Adapted}
use Rattle.pfr_rewrite.specs.declared.adapting.Surroundings.{Surroundings}
use Rattle.pfr_rewrite.specs.Adapting.{adapted, is_accepted, unchanged}

-- a text that the strict reader accepts
abbrev pub AnAcceptedTextStays : Type 0
AnAcceptedTextStays = (text : List ℕ) (around : Surroundings) → is_accepted text around ≡ true → adapted text around ≡ unchanged text

-- what is answered to an answer's text: the same text, of which nothing is said, or what was said of it before
abbrev pub Stays : Adapted → Surroundings → Type 0
Stays answer around = (adapted answer.text around ≡ unchanged answer.text) ⊎ (adapted answer.text around ≡ answer)

-- what was adapted before
abbrev pub AnAdaptedTextStays : Type 0
AnAdaptedTextStays = (text : List ℕ) (around : Surroundings) → Stays (adapted text around) around

-- what is unchanged has the same bytes, and nothing is said of it
abbrev pub UnchangedIsTheText : Type 0
UnchangedIsTheText = (text : List ℕ) → ((unchanged text).text ≡ text) × ((unchanged text).findings ≡ [])
