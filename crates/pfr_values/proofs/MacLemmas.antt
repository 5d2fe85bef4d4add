-- The link-level addresses of interfaces, one behind the other.
use Rattle.std.proofs.Common.{◌≡◌, ◌++◌, ℕ, true, false, List, [], ◌∷◌, map, Some, sym, ap, ◌∙◌, subst}
use Rattle.std.proofs.lemmas.List.{map-append}
use Rattle.std.specs.List.{AllByRecursion, IsDistinct, list_any}
use Rattle.std.specs.Str.{bytes_eq}
use Rattle.pfr_values.proofs.PlaceLemmas.{distinct_behind}
use Rattle.pfr_values.specs.Macs.{Adds, AreMacs, mac_of, names_of, shape}
use Rattle.pfr_values.specs.Places as places
use Rattle.pfr_values.specs.declared.also.CaptureWords.{CaptureWords}
use Rattle.pfr_values.specs.declared.mac.MacWords.{MacWords}

one_behind : (P : List ℕ → Type 0) (names : List (List ℕ)) (name : List ℕ) → AllByRecursion P names → P name → AllByRecursion P (names ++ name ∷ [])
one_behind P [] name all last = (last, tt)
one_behind P (first ∷ names) name all last = (all.0, one_behind P names name all.1 last)

pub no_macs : (captures : List CaptureWords) → AreMacs captures []
unfolding IsDistinct
no_macs captures = (tt, tt)

-- the address of another interface of the run
pub macs_behind : (captures : List CaptureWords) (macs : List MacWords) (mac : MacWords) → AreMacs captures macs
    → list_any (λ other. bytes_eq other mac.interface.now) (places.names_of captures) ≡ true
    → list_any (λ other. bytes_eq other mac.interface.now) (names_of macs) ≡ false
    → AreMacs captures (macs ++ mac ∷ [])
macs_behind captures macs mac are_macs is_named is_new =
    subst (λ names. IsDistinct bytes_eq names × AllByRecursion (λ name. list_any (λ other. bytes_eq other name) (places.names_of captures) ≡ true) names)
    (sym (map-append (λ m. m.interface.now) macs (mac ∷ []))) (
      distinct_behind (names_of macs) mac.interface.now are_macs.0 is_new,
      one_behind (λ name. list_any (λ other. bytes_eq other name) (places.names_of captures) ≡ true) (names_of macs) mac.interface.now are_macs.1 is_named,
    )

pub adds_one : (word : List ℕ) (before : List MacWords) (mac : MacWords) → Some (shape mac) ≡ mac_of word → Adds (word ∷ []) before (before ++ mac ∷ [])
adds_one word before mac is =
    map-append (λ m. Some (shape m)) before (mac ∷ []) ∙ ap (λ o. map (λ m. Some (shape m)) before ++ o ∷ []) is
