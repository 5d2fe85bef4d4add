-- The interfaces of a run, one behind the other.
use Rattle.std.proofs.Common.{◌≡◌, ◌<◌, ◌||◌, ◌++◌, ℕ, Bool, true, false, List, [], ◌∷◌, length, map, Some, option_map, refl, sym, ap, ap₂, ◌∙◌, subst, true≢false, arith, length-append}
use Rattle.std.proofs.lemmas.List.{map-append}
use Rattle.std.specs.List.{AllByRecursion, IsDistinct, list_any}
use Rattle.std.specs.Str.{bytes_eq}
use Rattle.pfr_net.specs.Interfaces.{if_name}
use Rattle.pfr_ruleset.specs.declared.interface.Interface.{Interface}
use Rattle.pfr_values.specs.declared.also.AlsoForm.{AlsoForm}
use Rattle.pfr_values.specs.Places.{Adds, ArePlaces, HaveNames, files_of, interface_of, names_of, parts_of, shape}
use Rattle.pfr_values.specs.declared.also.AlsoWords.{AlsoWords}
use Rattle.pfr_values.specs.declared.also.Places.{Places}
use Rattle.pfr_values.specs.declared.also.CaptureWords.{CaptureWords}

neither : (first others : Bool) → (first || others) ≡ false → (first ≡ false) × (others ≡ false)
neither true others either = absurd (true≢false either)
neither false others either = (refl, either)

all_behind : (name other : List ℕ) (names : List (List ℕ)) → AllByRecursion (λ y. bytes_eq name y ≡ false) names → bytes_eq name other ≡ false
    → AllByRecursion (λ y. bytes_eq name y ≡ false) (names ++ other ∷ [])
all_behind name other [] all differs = (differs, tt)
all_behind name other (first ∷ names) all differs = (all.0, all_behind name other names all.1 differs)

-- a name behind others from which it differs
pub distinct_behind : (names : List (List ℕ)) (name : List ℕ) → IsDistinct bytes_eq names → list_any (λ other. bytes_eq other name) names ≡ false
    → IsDistinct bytes_eq (names ++ name ∷ [])
unfolding IsDistinct
distinct_behind [] name distinct none = (tt, tt)
distinct_behind (first ∷ names) name distinct none =
    let each = neither (bytes_eq first name) (list_any (λ other. bytes_eq other name) names) none in
    (all_behind first name names distinct.0 each.0, distinct_behind names name distinct.1 each.1)

names_behind : (interfaces : List Interface) (captures : List CaptureWords) (interface : Interface) (words : CaptureWords) → HaveNames interfaces captures
    → interface.name ≡ if_name words.interface.now → HaveNames (interfaces ++ interface ∷ []) (captures ++ words ∷ [])
names_behind interfaces captures interface words names name =
    map-append (λ i. i.name) interfaces (interface ∷ [])
    ∙ ap₂ (λ front last. front ++ last ∷ []) names name
    ∙ sym (map-append (λ n. if_name n) (names_of captures) (words.interface.now ∷ []))
    ∙ ap (λ all. map (λ n. if_name n) all) (sym (map-append (λ w. w.interface.now) captures (words ∷ [])))

pub is_one_place : (interface : Interface) (words : CaptureWords) → interface.name ≡ if_name words.interface.now
    → ArePlaces (interface ∷ []) (words ∷ [])
unfolding IsDistinct
is_one_place interface words name = (refl, omega arith, omega arith, ap (λ n. n ∷ []) name, (tt, tt))

-- an interface of a new name behind fewer than eight
pub place_behind : (interfaces : List Interface) (captures : List CaptureWords) (interface : Interface) (words : CaptureWords) → ArePlaces interfaces captures
    → length interfaces < 8 → interface.name ≡ if_name words.interface.now
    → list_any (λ other. bytes_eq other words.interface.now) (names_of captures) ≡ false
    → ArePlaces (interfaces ++ interface ∷ []) (captures ++ words ∷ [])
place_behind interfaces captures interface words places few name is_new =
    let more = length-append captures (words ∷ []) in
    let more_interfaces = length-append interfaces (interface ∷ []) in (
      omega (arith, more, more_interfaces, places.0),
      omega (arith, more),
      omega (arith, more, places.0, few),
      names_behind interfaces captures interface words places.3 name,
      subst (λ names. IsDistinct bytes_eq names) (sym (map-append (λ w. w.interface.now) captures (words ∷ [])))
          (distinct_behind (names_of captures) words.interface.now places.4 is_new),
    )

-- the interface of a word behind others, with its files
pub adds_one : (form : AlsoForm) (word : List ℕ) (before : Places) (parts : AlsoWords) (interface : Interface) → Some (shape parts) ≡ parts_of form word
    → Some interface ≡ interface_of parts.words.interface.now parts.address.now
    → Adds form (word ∷ []) before (record { interfaces = before.interfaces ++ interface ∷ []; captures = before.captures ++ parts.words ∷ [] })
adds_one form word before parts interface is named = (
  map-append (λ i. Some i) before.interfaces (interface ∷ []) ∙ ap (λ o. map (λ i. Some i) before.interfaces ++ o ∷ []) (rw (← is) named),
  map-append (λ c. Some (files_of c)) before.captures (parts.words ∷ [])
      ∙ ap (λ o. map (λ c. Some (files_of c)) before.captures ++ option_map (λ p. (p.0, p.2, p.3)) o ∷ []) is,
)
