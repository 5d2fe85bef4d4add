-- Lists of texts, written one text after the other.
use Rattle.std.specs.Prelude.{ℕ, false, true, if◌then◌else◌, List, [], ◌∷◌, ◌++◌, codes}
use Rattle.pfr_given.specs.declared.listing.Listing.{Listing}

abbrev pub nothing : Listing
nothing = record { text = []; is_begun = false }

-- one text more
abbrev pub with_text : Listing → List ℕ → Listing
with_text listing text = record { text = (if listing.is_begun then listing.text ++ codes ", " else listing.text) ++ text; is_begun = true }

abbrev pub with_texts : Listing → List (List ℕ) → Listing
with_texts listing [] = listing
with_texts listing (text ∷ texts) = with_texts (with_text listing text) texts
