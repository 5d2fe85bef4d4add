-- Rules and anchors behind others, and where walks end among them.
use Rattle.std.proofs.Common.{◌≡◌, ◌∙◌, ◌<◌, ◌≤◌, ◌+◌, ◌-◌, ◌&&◌, ◌==◌, ℕ, zero, suc, Bool, true, false, if◌then◌else◌, inl, inr, List, [], ◌∷◌, ◌++◌, length, map, fold, min, get_or, ap, sym, refl, arith}
use Rattle.std.specs.List.{All, slice_get}
use Rattle.std.proofs.lemmas.Bool.{cases_lt, eqb-true}
use Rattle.std.proofs.lemmas.List.{length-append, get_or_append_left, get_or-append_right}
use Rattle.std.proofs.lemmas.List.Sums.{fold-append}
use Rattle.std.proofs.lemmas.List.Elements.{All-nil, All-weaker, All-append, All-cons, All-head, All-tail, All-map}
use Rattle.pfr_ruleset.specs.declared.flat.FlatRule.{FlatRule}
use Rattle.pfr_ruleset.specs.declared.flat.FlatAnchor.{FlatAnchor}
use Rattle.pfr_ruleset.specs.Places.{IsPlaced, Follows, AreNested, AreWithin, ArePlaced, moved, opening_of, with_opening, opening_at, own_openings, HasOpenings, AreOpened}

-- ---- anchors

larger : (n m : ℕ) (a : FlatAnchor) → n ≤ m → IsPlaced n a → IsPlaced m a
larger n m a le p = (p.0, omega (arith, le, p.1))

further : (place n : ℕ) (a : FlatAnchor) → IsPlaced n a → IsPlaced (place + n) (moved place a)
further place n a p = (omega (arith, p.0), omega (arith, p.1))

moved_placed : (place size : ℕ) (anchors : List FlatAnchor) → All (IsPlaced size) anchors → All (IsPlaced (place + size)) (map (moved place) anchors)
moved_placed place size anchors placed = All-map (IsPlaced (place + size)) (moved place) anchors (All-weaker (IsPlaced size) (λ a. IsPlaced (place + size) (moved place a)) (λ a p. further place size a p) anchors placed)

moved_follows : (place : ℕ) (a b : FlatAnchor) → Follows a b → Follows (moved place a) (moved place b)
moved_follows place a b (first, inl within) = (omega (arith, first), inl (omega (arith, within)))
moved_follows place a b (first, inr behind) = (omega (arith, first), inr (omega (arith, behind)))

moved_nested : (place : ℕ) (anchors : List FlatAnchor) → AreNested anchors → AreNested (map (moved place) anchors)
moved_nested place [] nested = tt
moved_nested place (a ∷ anchors) nested =
    (All-map (Follows (moved place a)) (moved place) anchors (All-weaker (Follows a) (λ b. Follows (moved place a) (moved place b)) (λ b p. moved_follows place a b p) anchors nested.0), moved_nested place anchors nested.1)

all_behind : (place : ℕ) (anchors : List FlatAnchor) → All (λ b. place ≤ b.first) (map (moved place) anchors)
all_behind place [] = All-nil (λ b. place ≤ b.first)
all_behind place (a ∷ anchors) = All-cons (λ b. place ≤ b.first) (moved place a) (map (moved place) anchors) (omega arith) (all_behind place anchors)

behind_follows : (a b : FlatAnchor) (place : ℕ) → IsPlaced place a → place ≤ b.first → Follows a b
behind_follows a b place placed behind = (omega (arith, placed.0, placed.1, behind), inr (omega (arith, placed.1, behind)))

nested_append : (place : ℕ) (anchors more : List FlatAnchor) → All (IsPlaced place) anchors → All (λ b. place ≤ b.first) more → AreNested anchors → AreNested more → AreNested (anchors ++ more)
nested_append place [] more placed behind nested after = after
nested_append place (a ∷ anchors) more placed behind nested after =
    let first = All-head (IsPlaced place) a anchors placed in (
      All-append (Follows a) anchors more nested.0 (All-weaker (λ b. place ≤ b.first) (Follows a) (λ b p. behind_follows a b place first p) more behind),
      nested_append place anchors more (All-tail (IsPlaced place) a anchors placed) behind nested.1 after,
    )

pub joined_within : (place size : ℕ) (anchors more : List FlatAnchor) → AreWithin place anchors → AreWithin size more → AreWithin (place + size) (anchors ++ map (moved place) more)
unfolding AreWithin
joined_within place size anchors more before inner = (
  All-append (IsPlaced (place + size)) anchors (map (moved place) more)
      (All-weaker (IsPlaced place) (IsPlaced (place + size)) (λ a p. larger place (place + size) a (omega arith) p) anchors before.0)
      (moved_placed place size more inner.0),
  nested_append place anchors (map (moved place) more) before.0 (all_behind place more) before.1 (moved_nested place more inner.1),
)

pub joined_placed : (rules more : List FlatRule) (anchors others : List FlatAnchor) → ArePlaced rules anchors → ArePlaced more others → ArePlaced (rules ++ more) (anchors ++ map (moved (length rules)) others)
joined_placed rules more anchors others before inner =
    rw (length-append rules more) (joined_within (length rules) (length more) anchors others before inner)

pub none_placed : (rules : List FlatRule) → ArePlaced rules []
unfolding AreWithin
none_placed rules = (All-nil (IsPlaced (length rules)), tt)

-- ---- openings

pub none_open : HasOpenings [] [] []
none_open = record { size = refl; each = λ place below. absurd (omega (arith, below)) }

front_rule : (rules more : List FlatRule) (place : ℕ) → place < length rules → slice_get (rules ++ more) place ≡ slice_get rules place
front_rule [] more place below = absurd (omega (arith, below))
front_rule (rule ∷ rules) more zero below = refl
front_rule (rule ∷ rules) more (suc place) below = front_rule rules more place (omega (arith, below))

back_rule : (rules more : List FlatRule) (place : ℕ) → length rules ≤ place → place < length rules + length more → slice_get (rules ++ more) place ≡ slice_get more (place - length rules)
back_rule [] more place above below = let e : place - 0 ≡ place = omega arith in rw e refl
back_rule (rule ∷ rules) more zero above below = absurd (omega (arith, above))
back_rule (rule ∷ rules) more (suc place) above below =
    let e : suc place - suc (length rules) ≡ place - length rules = omega arith in
    rw e (back_rule rules more place (omega (arith, above)) (omega (arith, below)))

own_length : (place : ℕ) (rules : List FlatRule) → length (own_openings place rules) ≡ length rules
own_length place [] = refl
own_length place (rule ∷ rules) = ap suc (own_length (suc place) rules)

own_at : (first : ℕ) (rules : List FlatRule) (k : ℕ) → k < length rules → get_or (own_openings first rules) k 0 ≡ opening_of (slice_get rules k) (first + k)
own_at first [] k below = absurd (omega (arith, below))
own_at first (rule ∷ rules) zero below = let e : first + 0 ≡ first = omega arith in rw e refl
own_at first (rule ∷ rules) (suc k) below = let e : first + suc k ≡ suc first + k = omega arith in rw e (own_at (suc first) rules k (omega (arith, below)))

with_other : (place opening : ℕ) (a : FlatAnchor) → a.last < place → with_opening place opening a ≡ opening
with_other place opening a before = let other : (a.last == place) ≡ false = differs (a.last == place) refl in rw other (either a.is_quick) where
  differs : (b : Bool) → (a.last == place) ≡ b → b ≡ false
  differs true same = let e : a.last ≡ place = eqb-true a.last place same in absurd (omega (arith, e, before))
  differs false same = refl

  either : (b : Bool) → (if b && false then min opening a.first else opening) ≡ opening
  either true = refl
  either false = refl

-- anchors that end before a place say nothing of it
past : (place opening : ℕ) (anchors : List FlatAnchor) → All (λ a. a.last < place) anchors → fold (with_opening place) opening anchors ≡ opening
past place opening [] before = refl
past place opening (a ∷ anchors) before =
    let same = with_other place opening a (All-head (λ a. a.last < place) a anchors before) in
    rw same (past place opening anchors (All-tail (λ a. a.last < place) a anchors before))

opened_before : (rules more : List FlatRule) (anchors others : List FlatAnchor) (old new : List ℕ) (place : ℕ) → HasOpenings rules anchors old → AreOpened (old ++ own_openings (length rules) more) others new → place < length rules
    → get_or new place 0 ≡ opening_at (rules ++ more) (anchors ++ others) place
opened_before rules more anchors others old new place has opened below =
    let long : length (old ++ own_openings (length rules) more) ≡ length old + length more = length-append old (own_openings (length rules) more) ∙ ap (λ n. length old + n) (own_length (length rules) more) in
    let size = has.size in
    let is : get_or (old ++ own_openings (length rules) more) place 0 ≡ opening_at rules anchors place = get_or_append_left old (own_openings (length rules) more) 0 place (omega (arith, size, below)) ∙ has.each place below in
    let rule : slice_get (rules ++ more) place ≡ slice_get rules place = front_rule rules more place below in
    opened place (omega (arith, long, size, below)) ∙ rw (is, rule) (sym (fold-append (with_opening place) (opening_of (slice_get rules place) place) anchors others))

opened_behind : (rules more : List FlatRule) (anchors others : List FlatAnchor) (old new : List ℕ) (place : ℕ) → All (λ a. a.last < length rules) anchors → HasOpenings rules anchors old → AreOpened (old ++ own_openings (length rules) more) others new → length rules ≤ place → place < length rules + length more
    → get_or new place 0 ≡ opening_at (rules ++ more) (anchors ++ others) place
opened_behind rules more anchors others old new place within has opened above below =
    let long : length (old ++ own_openings (length rules) more) ≡ length old + length more = length-append old (own_openings (length rules) more) ∙ ap (λ n. length old + n) (own_length (length rules) more) in
    let size = has.size in
    let at : length rules + (place - length rules) ≡ place = omega (arith, above) in
    let own = own_at (length rules) more (place - length rules) (omega (arith, above, below)) in
    let is : get_or (old ++ own_openings (length rules) more) place 0 ≡ opening_of (slice_get more (place - length rules)) place = get_or-append_right old (own_openings (length rules) more) (length rules) place 0 size above ∙ own ∙ rw at refl in
    let rule : slice_get (rules ++ more) place ≡ slice_get more (place - length rules) = back_rule rules more place above below in
    let earlier : All (λ a. a.last < place) anchors = All-weaker (λ a. a.last < length rules) (λ a. a.last < place) (λ a p. omega (arith, p, above)) anchors within in
    opened place (omega (arith, long, size, below)) ∙ rw (is, rule) (sym (fold-append (with_opening place) (opening_of (slice_get more (place - length rules)) place) anchors others ∙ rw (past place (opening_of (slice_get more (place - length rules)) place) anchors earlier) refl))

pub openings_join : (rules more : List FlatRule) (anchors others : List FlatAnchor) (old new : List ℕ) → ArePlaced rules anchors → HasOpenings rules anchors old → length new ≡ length rules + length more → AreOpened (old ++ own_openings (length rules) more) others new → HasOpenings (rules ++ more) (anchors ++ others) new
unfolding AreWithin
openings_join rules more anchors others old new placed has size opened = record {
  size = size ∙ sym (length-append rules more);
  each = λ place below. (
      let long : length (rules ++ more) ≡ length rules + length more = length-append rules more in
      elim (cases_lt place (length rules)) [
        | inl before ↦ opened_before rules more anchors others old new place has opened before
        | inr behind ↦ opened_behind rules more anchors others old new place (All-weaker (IsPlaced (length rules)) (λ a. a.last < length rules) (λ a p. p.1) anchors placed.0) has opened (omega (arith, behind)) (omega (arith, long, below))
      ]);
}
