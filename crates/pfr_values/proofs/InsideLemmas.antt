-- Networks of which none is listed with `!` and without.
use Rattle.std.proofs.Common.{◌≡◌, ◌==◌, ◌&&◌, ◌||◌, ◌++◌, ℕ, Bool, true, false, List, [], ◌∷◌, ap₂, ◌∙◌, refl, true≢false, arith}
use Rattle.std.specs.List.{AllByRecursion, list_any}
use Rattle.pfr_net.specs.Networks.{prefix}
use Rattle.pfr_net.specs.declared.network.Net.{Net}
use Rattle.pfr_values.specs.Insides.{is_same}

number_eq : (a b : ℕ) → (a == b) ≡ (b == a)
number_eq a b = grind arith

same_back : (network other : Net) → is_same network other ≡ is_same other network
same_back network other =
    ap₂ (λ x y. x && y) (number_eq network.bits other.bits) (number_eq (prefix network.bits network.address.0) (prefix other.bits other.address.0))

neither : (first others : Bool) → (first || others) ≡ false → (first ≡ false) × (others ≡ false)
neither true others either = absurd (true≢false either)
neither false others either = (refl, either)

any_behind : (test : Net → Bool) (networks : List Net) (last : Net) → list_any test networks ≡ false → test last ≡ false → list_any test (networks ++ last ∷ []) ≡ false
any_behind test [] last none differs = rw differs refl
any_behind test (first ∷ networks) last none differs =
    let each = neither (test first) (list_any test networks) none in
    rw each.0 (any_behind test networks last each.1 differs)

-- a network behind those that aren't excepted
pub included : (networks excepted : List Net) (network : Net) → AllByRecursion (λ n. list_any (is_same n) excepted ≡ false) networks
    → list_any (is_same network) excepted ≡ false → AllByRecursion (λ n. list_any (is_same n) excepted ≡ false) (networks ++ network ∷ [])
included [] excepted network all none = (none, tt)
included (first ∷ networks) excepted network all none = (all.0, included networks excepted network all.1 none)

-- a network behind those that are excepted
pub excepted_behind : (networks excepted : List Net) (network : Net) → AllByRecursion (λ n. list_any (is_same n) excepted ≡ false) networks
    → list_any (is_same network) networks ≡ false → AllByRecursion (λ n. list_any (is_same n) (excepted ++ network ∷ []) ≡ false) networks
excepted_behind [] excepted network all none = tt
excepted_behind (first ∷ networks) excepted network all none =
    let each = neither (is_same network first) (list_any (is_same network) networks) none in
    (any_behind (is_same first) excepted network all.0 (same_back first network ∙ each.0), excepted_behind networks excepted network all.1 each.1)
