-- The places of names, with one more name.
use Rattle.std.proofs.Common.{◌≡◌, ℕ, suc, ◌+◌, if◌then◌else◌, List, [], ◌∷◌, ◌++◌, length, Option, Some, None, Bor, sym, ap, ◌∙◌, arith}
use Rattle.std.specs.BTreeMap.{BTreeMap, UpdatesBy}
use Rattle.std.specs.Cmp.Lexicographic.{slice_cmp}
use Rattle.std.specs.Ordering.{nat_cmp}
use Rattle.std.specs.Str.{bytes_eq}
use Rattle.std.proofs.lemmas.Map.Text.{btree_map_updates_str}
use Rattle.pfr_elements.specs.Names.{last_from, last_place, HasPlaces}

at_end : (name n : List ℕ) (found : Option ℕ) (p q : ℕ) → p ≡ q → (if bytes_eq n name then Some p else found) ≡ (if bytes_eq n name then Some q else found)
at_end name n found p q same = ap (λ p. if bytes_eq n name then Some p else found) same

last_push : (names : List (List ℕ)) (found : Option ℕ) (place : ℕ) (name n : List ℕ) → last_from found place name (names ++ n ∷ []) ≡ (if bytes_eq n name then Some (place + length names) else last_from found place name names)
last_push [] found place name n = at_end name n found place (place + 0) (omega arith)
last_push (m ∷ names) found place name n =
    last_push names (if bytes_eq m name then Some place else found) (suc place) name n
    ∙ at_end name n (last_from (if bytes_eq m name then Some place else found) (suc place) name names) (suc place + length names) (place + suc (length names)) (omega arith)

pub places_push : (names : List (List ℕ)) (old new : BTreeMap (Bor (List ℕ)) ℕ) (n : List ℕ) (place : ℕ) → HasPlaces old names → place ≡ length names
    → UpdatesBy (λ x y. slice_cmp nat_cmp x.now y.now) (λ k. slice_cmp nat_cmp n k.now) old new (Some place) → HasPlaces new (names ++ n ∷ [])
places_push names old new n place has is updates name =
    btree_map_updates_str n old new (Some place) updates name
    ∙ ap (λ found. if bytes_eq n name then Some place else found) (has name)
    ∙ at_end name n (last_place name names) place (0 + length names) (omega (arith, is))
    ∙ sym (last_push names None 0 name n)
