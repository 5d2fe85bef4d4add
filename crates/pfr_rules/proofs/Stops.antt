-- Where a walk ends: a stop, by the opening of its place and the last hit.
use Rattle.std.proofs.Common.{◌≡◌, ◌<◌, ◌≤◌, ◌+◌, ◌&&◌, ◌||◌, ◌==◌, ◌⊎◌, ℕ, zero, suc, Bool, true, false, if◌then◌else◌, nat_le, min, fold, inl, inr, List, [], ◌∷◌, length, Option, Some, None, get_or, sym, eq-eqb, refl, arith}
use Rattle.std.specs.List.{Contains, slice_get, list_any}
use Rattle.std.proofs.lemmas.Bool.{leb-true, le-leb, eqb-true, cases_lt}
use Rattle.std.proofs.lemmas.List.Elements.{Contains-append_left, Contains-append_right, Contains-push}
use Rattle.pfr_ruleset.specs.declared.flat.FlatRule.{FlatRule}
use Rattle.pfr_ruleset.specs.declared.flat.FlatAnchor.{FlatAnchor}
use Rattle.pfr_ruleset.specs.declared.filter_rules.RuleLists.{RuleLists}
use Rattle.pfr_ruleset.specs.Places.{HasOpenings, opening_at, with_opening, opening_of}
use Rattle.pfr_rules.specs.Filter.{last_below, is_stop, ends, some_in, passes, is_quick, stops_by}
use Rattle.pfr_rules.proofs.Places.{or_left, or_right, last_within, none_after, none_at_all, some_at, some_found}

-- ---- tests

same : (b c : Bool) → (b ≡ true → c ≡ true) → (c ≡ true → b ≡ true) → b ≡ c
same true c forth back = sym (forth refl)
same false true forth back = back refl
same false false forth back = refl

either : (b c : Bool) → (b || c) ≡ true → (b ≡ true) ⊎ (c ≡ true)
either true c is = inl refl
either false c is = inr is

both : (b c : Bool) → (b && c) ≡ true → (b ≡ true) × (c ≡ true)
both true c is = (refl, is)
both false c is = absurd cc

abbrev One : {X : Type 0} → (X → Bool) → List X → Type 0
One {X} p xs = (x : X) × Contains xs x × (p x ≡ true)

one_more : {X : Type 0} (p : X → Bool) (x : X) (xs : List X) (b : Bool) → p x ≡ b → (b || list_any p xs) ≡ true → (list_any p xs ≡ true → One p xs) → One p (x ∷ xs)
one_more p x xs true is any rest = (x, Contains-append_left (x ∷ []) xs x (Contains-push [] x), is)
one_more p x xs false is any rest = (let one = rest any in (one.0, Contains-append_right (x ∷ []) xs one.0 one.1, one.2))

one_of : {X : Type 0} (p : X → Bool) (xs : List X) → list_any p xs ≡ true → One p xs
one_of p [] any = absurd cc
one_of p (x ∷ xs) any = one_more p x xs (p x) refl any (one_of p xs)

any_by : {X : Type 0} (p : X → Bool) (xs : List X) (y : X) → Contains xs y → p y ≡ true → list_any p xs ≡ true
any_by p [] y (k, within, is) held = absurd (omega (arith, within))
any_by p (x ∷ xs) y (zero, within, is) held = (let first : p x ≡ true = rw is held in rw first refl)
any_by p (x ∷ xs) y (suc k, within, is) held = or_right (p x) (list_any p xs) (any_by p xs y (k, omega (arith, within), is) held)

-- ---- openings

-- an anchor leaves an opening as it is, or it is quick, ends there and lowers it to its first place
abbrev Lowers : ℕ → ℕ → FlatAnchor → Type 0
Lowers place opening a = (with_opening place opening a ≡ opening) ⊎ ((a.is_quick ≡ true) × (a.last ≡ place) × (with_opening place opening a ≡ min opening a.first))

lowers_by : (place opening : ℕ) (a : FlatAnchor) (quick at : Bool) → a.is_quick ≡ quick → (a.last == place) ≡ at → Lowers place opening a
lowers_by place opening a true true is ends = inr (is, eqb-true a.last place ends, rw (is, ends) refl)
lowers_by place opening a true false is ends = inl (rw (is, ends) refl)
lowers_by place opening a false at is ends = inl (rw is refl)

lowers : (place opening : ℕ) (a : FlatAnchor) → Lowers place opening a
lowers place opening a = lowers_by place opening a a.is_quick (a.last == place) refl refl

with_low : (place opening : ℕ) (a : FlatAnchor) → with_opening place opening a ≤ opening
with_low place opening a = elim (lowers place opening a) [
  | inl is ↦ rw is (omega arith)
  | inr low ↦ rw low.2 (omega arith)
]

opening_low : (place opening : ℕ) (anchors : List FlatAnchor) → fold (with_opening place) opening anchors ≤ opening
opening_low place opening [] = omega arith
opening_low place opening (a ∷ anchors) = omega (arith, with_low place opening a, opening_low place (with_opening place opening a) anchors)

with_first : (place opening : ℕ) (a : FlatAnchor) → a.is_quick ≡ true → a.last ≡ place → with_opening place opening a ≤ a.first
with_first place opening a quick last =
    let at : (a.last == place) ≡ true = eq-eqb a.last place last in
    rw (quick, at) (omega arith)

opening_first : (place opening : ℕ) (anchors : List FlatAnchor) (b : FlatAnchor) → Contains anchors b → b.is_quick ≡ true → b.last ≡ place → fold (with_opening place) opening anchors ≤ b.first
opening_first place opening [] b (k, within, is) quick last = absurd (omega (arith, within))
opening_first place opening (a ∷ anchors) b (zero, within, is) quick last =
    let is_a : a ≡ b = is in
    let low : with_opening place opening b ≤ b.first = with_first place opening b quick last in
    let rest : fold (with_opening place) (with_opening place opening b) anchors ≤ with_opening place opening b = opening_low place (with_opening place opening b) anchors in
    let all : fold (with_opening place) (with_opening place opening b) anchors ≤ b.first = omega (arith, low, rest) in
    rw is_a all
opening_first place opening (a ∷ anchors) b (suc k, within, is) quick last =
    opening_first place (with_opening place opening a) anchors b (k, omega (arith, within), is) quick last

-- a quick anchor that ends at a place and begins at or before another
abbrev Ending : ℕ → ℕ → List FlatAnchor → Type 0
Ending place d anchors = (a : FlatAnchor) × Contains anchors a × (a.is_quick ≡ true) × (a.last ≡ place) × (a.first ≤ d)

-- what an opening is due to
due : (place d opening : ℕ) (anchors : List FlatAnchor) → fold (with_opening place) opening anchors ≤ d → (opening ≤ d) ⊎ Ending place d anchors
due place d opening [] le = inl le
due place d opening (a ∷ anchors) le = elim (due place d (with_opening place opening a) anchors le) [
  | inl here ↦ elim (lowers place opening a) [
    | inl is ↦ inl (rw is at here)
    | inr low ↦
        let least : min opening a.first ≤ d = rw low.2 at here in
        elim (cases_lt d opening) [
          | inl above ↦ inr (a, Contains-append_left (a ∷ []) anchors a (Contains-push [] a), low.0, low.1, omega (arith, least, above))
          | inr below ↦ inl below
        ]
  ]
  | inr found ↦ inr (found.0, Contains-append_right (a ∷ []) anchors found.0 found.1, found.2, found.3, found.4)
]

-- ---- a hit at or above the opening makes a stop

own_rule : (hit : ℕ → Bool) (place d : ℕ) (quick : Bool) → (if quick then place else 18446744073709551615) ≤ d → d < place + 1 → hit d ≡ true → place < 18446744073709551615 → (quick && hit place) ≡ true
own_rule hit place d true le below held small = let e : place ≡ d = omega (arith, le, below) in rw e held
own_rule hit place d false le below held small = absurd (omega (arith, le, below, small))

own_stop : (hit : ℕ → Bool) (place d : ℕ) (rule : Option FlatRule) → opening_of rule place ≤ d → d < place + 1 → hit d ≡ true → place < 18446744073709551615 → (passes is_quick rule && hit place) ≡ true
own_stop hit place d None le below held small = absurd (omega (arith, le, below, small))
own_stop hit place d (Some rule) le below held small = own_rule hit place d rule.is_quick le below held small

ends_by : (hit : ℕ → Bool) (place d : ℕ) (a : FlatAnchor) → a.is_quick ≡ true → a.last ≡ place → a.first ≤ d → d < place + 1 → hit d ≡ true → ends hit place a ≡ true
ends_by hit place d a quick last le below held =
    let at : (a.last == place) ≡ true = eq-eqb a.last place last in
    let above : nat_le a.first d ≡ true = le-leb a.first d le in
    let some : some_in hit a ≡ true = some_at (λ k. nat_le a.first k && hit k) (a.last + 1) d (omega (arith, last, below)) (rw (above, held) refl) in
    rw (quick, at, some) refl

forth : (hit : ℕ → Bool) (lists : RuleLists) (place : ℕ) (decided : Option ℕ) → place < 18446744073709551615 → decided ≡ last_below hit (place + 1) → stops_by (opening_at lists.rules lists.anchors place) decided ≡ true → is_stop hit lists place ≡ true
forth hit lists place None small is stops = absurd cc
forth hit lists place (Some d) small is stops =
    let le : opening_at lists.rules lists.anchors place ≤ d = leb-true (opening_at lists.rules lists.anchors place) d stops in
    let last = last_within hit (place + 1) d (sym is) in
    elim (due place d (opening_of (slice_get lists.rules place) place) lists.anchors le) [
      | inl own ↦ or_left (passes is_quick (slice_get lists.rules place) && hit place) (list_any (ends hit place) lists.anchors) (own_stop hit place d (slice_get lists.rules place) own last.0 last.1 small)
      | inr found ↦ or_right (passes is_quick (slice_get lists.rules place) && hit place) (list_any (ends hit place) lists.anchors) (any_by (ends hit place) lists.anchors found.0 found.1 (ends_by hit place d found.0 found.2 found.3 found.4 last.0 last.1))
    ]

-- ---- at a stop there is such a hit

stops_from : (hit : ℕ → Bool) (n opening k : ℕ) (decided : Option ℕ) → decided ≡ last_below hit n → k < n → hit k ≡ true → opening ≤ k → stops_by opening decided ≡ true
stops_from hit n opening k None is within held le = let fails : hit k ≡ false = none_at_all hit n k (sym is) within in absurd cc
stops_from hit n opening k (Some d) is within held le = elim (cases_lt d k) [
  | inl before ↦ let fails : hit k ≡ false = none_after hit n d k (sym is) before within in absurd cc
  | inr after ↦ le-leb opening d (omega (arith, le, after))
]

own_low : (place : ℕ) (rule : Option FlatRule) → passes is_quick rule ≡ true → opening_of rule place ≤ place
own_low place None quick = absurd cc
own_low place (Some rule) quick = let is : rule.is_quick ≡ true = quick in rw is (omega arith)

back : (hit : ℕ → Bool) (lists : RuleLists) (place : ℕ) (decided : Option ℕ) → decided ≡ last_below hit (place + 1) → is_stop hit lists place ≡ true → stops_by (opening_at lists.rules lists.anchors place) decided ≡ true
back hit lists place decided is stop = elim (either (passes is_quick (slice_get lists.rules place) && hit place) (list_any (ends hit place) lists.anchors) stop) [
  | inl own ↦
      let parts = both (passes is_quick (slice_get lists.rules place)) (hit place) own in
      let low = own_low place (slice_get lists.rules place) parts.0 in
      let lower = opening_low place (opening_of (slice_get lists.rules place) place) lists.anchors in
      stops_from hit (place + 1) (opening_at lists.rules lists.anchors place) place decided is (omega arith) parts.1 (omega (arith, low, lower))
  | inr any ↦
      let one = one_of (ends hit place) lists.anchors any in
      let quick = both one.0.is_quick (one.0.last == place && some_in hit one.0) one.2 in
      let at = both (one.0.last == place) (some_in hit one.0) quick.1 in
      let last : one.0.last ≡ place = eqb-true one.0.last place at.0 in
      let some = some_found (λ k. nat_le one.0.first k && hit k) (one.0.last + 1) at.1 in
      let parts = both (nat_le one.0.first some.0) (hit some.0) some.2 in
      let above : one.0.first ≤ some.0 = leb-true one.0.first some.0 parts.0 in
      let low = opening_first place (opening_of (slice_get lists.rules place) place) lists.anchors one.0 one.1 quick.0 last in
      let below : some.0 < place + 1 = omega (arith, last, some.1) in
      stops_from hit (place + 1) (opening_at lists.rules lists.anchors place) some.0 decided is below parts.1 (omega (arith, low, above))
]

pub stop_is : (hit : ℕ → Bool) (lists : RuleLists) (openings : List ℕ) (place : ℕ) (decided : Option ℕ) → HasOpenings lists.rules lists.anchors openings → place < length lists.rules → place < 18446744073709551615 → decided ≡ last_below hit (place + 1) → stops_by (get_or openings place 0) decided ≡ is_stop hit lists place
stop_is hit lists openings place decided has within small is =
    let opens : get_or openings place 0 ≡ opening_at lists.rules lists.anchors place = has.each place within in
    rw opens (same (stops_by (opening_at lists.rules lists.anchors place) decided) (is_stop hit lists place) (forth hit lists place decided small is) (back hit lists place decided is))
