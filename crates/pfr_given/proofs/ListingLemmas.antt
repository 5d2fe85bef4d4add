-- Lists of texts, one text after the other.
use Rattle.std.proofs.Common.{◌≡◌, ◌∙◌, ℕ, true, List, [], ◌∷◌, ◌++◌, refl, ap, sym, codes}
use Rattle.std.specs.List.{flat_map}
use Rattle.std.proofs.lemmas.List.{append_assoc, append-nil}
use Rattle.pfr_given.specs.declared.listing.Listing.{Listing}
use Rattle.pfr_given.specs.Listings.{nothing, with_text, with_texts}
use Rattle.pfr_given.specs.Texts.{joined_by}

-- texts behind others
pub more_texts : (listing : Listing) (texts others : List (List ℕ)) → with_texts (with_texts listing texts) others ≡ with_texts listing (texts ++ others)
more_texts listing [] others = refl
more_texts listing (text ∷ texts) others = more_texts (with_text listing text) texts others

behind : (text : List ℕ) (texts : List (List ℕ)) → (with_texts (record { text = text; is_begun = true }) texts).text ≡ text ++ flat_map (λ t. codes ", " ++ t) texts
behind text [] = sym (append-nil text)
behind text (t ∷ texts) = behind ((text ++ codes ", ") ++ t) texts ∙ (ap (λ front. front ++ flat_map (λ t. codes ", " ++ t) texts) (append_assoc text (codes ", ") t) ∙ append_assoc text _ _)

-- texts from none on
pub all_texts : (texts : List (List ℕ)) → (with_texts nothing texts).text ≡ joined_by (codes ", ") texts
all_texts [] = refl
all_texts (text ∷ texts) = behind text texts
