-- The places of a body's anchors.
use Rattle.std.proofs.Common.{◌≡◌, ◌<◌, ◌≤◌, ◌+◌, ◌-◌, ℕ, List, [], ◌∷◌, ◌++◌, length, map, inl, refl, subst, arith}
use Rattle.std.proofs.lemmas.List.{length-append}
use Rattle.std.proofs.lemmas.List.Elements.{All-weaker, All-cons}
use Rattle.pfr_ruleset.specs.declared.flat.PacketMatch.{PacketMatch}
use Rattle.pfr_ruleset.specs.declared.flat.FlatRule.{FlatRule}
use Rattle.pfr_ruleset.specs.declared.flat.FlatAnchor.{FlatAnchor}
use Rattle.pfr_ruleset.specs.Places.{IsPlaced, Follows, AreWithin, ArePlaced, moved}
use Rattle.pfr_ruleset.proofs.Joining.{none_placed, joined_within}
use Rattle.pfr_expand.specs.declared.body.Body.{Body}
use Rattle.pfr_expand.specs.Bodies.{with_copy}

pub none_are_placed : (rules : List FlatRule) → ArePlaced rules []
none_are_placed rules = none_placed rules

larger : (n m : ℕ) (a : FlatAnchor) → n ≤ m → IsPlaced n a → IsPlaced m a
larger n m a le p = (p.0, omega (arith, le, p.1))

more_placed : (rules more : List FlatRule) (anchors : List FlatAnchor) → ArePlaced rules anchors → ArePlaced (rules ++ more) anchors
unfolding AreWithin
more_placed rules more anchors placed =
    let e : length (rules ++ more) ≡ length rules + length more = length-append rules more in
    (All-weaker (IsPlaced (length rules)) (IsPlaced (length (rules ++ more))) (λ a p. larger (length rules) (length (rules ++ more)) a (omega (arith, e)) p) anchors placed.0, placed.1)

pub more_are_placed : (new rules more : List FlatRule) (anchors : List FlatAnchor) → new ≡ rules ++ more → ArePlaced rules anchors → ArePlaced new anchors
more_are_placed new rules more anchors is placed = rw is (more_placed rules more anchors placed)

-- an anchor round all rules
abbrev round_all : FlatAnchor → PacketMatch → ℕ → FlatAnchor
round_all anchor m size = record anchor { packet = m; first = 0; last = size - 1 }

round_within : (anchor : FlatAnchor) (m : PacketMatch) (size : ℕ) (anchors : List FlatAnchor) → 0 < size → AreWithin size anchors → AreWithin size (round_all anchor m size ∷ anchors)
unfolding AreWithin
round_within anchor m size anchors some within = (
  All-cons (IsPlaced size) (round_all anchor m size) anchors (omega arith, omega (arith, some)) within.0,
  (All-weaker (IsPlaced size) (Follows (round_all anchor m size)) (λ b p. (omega arith, inl (omega (arith, p.1)))) anchors within.0, within.1),
)

copy_placed : (anchor : FlatAnchor) (inner out : Body) (m : PacketMatch) → 0 < length inner.rules → ArePlaced inner.rules inner.anchors → ArePlaced out.rules out.anchors → ArePlaced (with_copy anchor inner out m).rules (with_copy anchor inner out m).anchors
copy_placed anchor inner out m some placed before =
    let long : length (out.rules ++ inner.rules) ≡ length out.rules + length inner.rules = length-append out.rules inner.rules in
    let first : length out.rules + 0 ≡ length out.rules = omega arith in
    let last : length out.rules + (length inner.rules - 1) ≡ length out.rules + length inner.rules - 1 = omega (arith, some) in
    let copy : moved (length out.rules) (round_all anchor m (length inner.rules)) ≡ record anchor { packet = m; first = length out.rules; last = length out.rules + length inner.rules - 1 } = rw (last, first) refl in
    let all = joined_within (length out.rules) (length inner.rules) out.anchors (round_all anchor m (length inner.rules) ∷ inner.anchors) before (round_within anchor m (length inner.rules) inner.anchors some placed) in
    rw long (subst (λ a. AreWithin (length out.rules + length inner.rules) (out.anchors ++ a ∷ map (moved (length out.rules)) inner.anchors)) copy all)

pub copy_is_placed : (anchor : FlatAnchor) (new inner out : Body) (m : PacketMatch) → new ≡ with_copy anchor inner out m → 0 < length inner.rules → ArePlaced inner.rules inner.anchors → ArePlaced out.rules out.anchors → ArePlaced new.rules new.anchors
copy_is_placed anchor new inner out m is some placed before = rw is (copy_placed anchor inner out m some placed before)
