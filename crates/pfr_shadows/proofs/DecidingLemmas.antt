-- A shadowed rule decides on no packet.
use Rattle.std.proofs.Common.{◌≡◌, ◌≢◌, ◌∙◌, ◌<◌, ◌≤◌, ◌+◌, ◌&&◌, ◌||◌, ◌==◌, ◌⊎◌, inl, inr, ℕ, zero, suc, nat_le, nat_lt, Bool, true, false, not, if◌then◌else◌, List, [], ◌∷◌, length, Option, Some, None, refl, sym, ap, subst, arith}
use Rattle.std.specs.List.{list_any, slice_get}
use Rattle.std.proofs.lemmas.Bool.{and_from, and_parts, cases_eq, cases_lt, eqb-true, le-leb, leb-true, ltb-true}
use Rattle.pfr_net.specs.declared.direction.Direction.{Direction}
use Rattle.pfr_net.specs.declared.interface.IfName.{IfName}
use Rattle.pfr_ruleset.specs.declared.flat.FlatAnchor.{FlatAnchor}
use Rattle.pfr_ruleset.specs.declared.flat.FlatRule.{FlatRule}
use Rattle.pfr_ruleset.specs.declared.flat.StateRule.{StateRule}
use Rattle.pfr_ruleset.specs.declared.ruleset.Ruleset.{Ruleset}
use Rattle.pfr_headers.specs.declared.packet.Packet.{Packet}
use Rattle.pfr_criteria.specs.Transports.{opens_connection}
use Rattle.pfr_rules.specs.Filter.{Rooms, anchored, deciding, ends, first_below, has_room_by, hit, is_inside, is_quick, is_stop, last_below, limit_for, most_of, or_place, passes, reach, ruled, some_in, up_to}
use Rattle.pfr_rules.proofs.Places.{last_within, none_after, none_first, some_found}
use Rattle.pfr_shadows.specs.Shadows.{IsShadow, ShadowedDecideNone, goes_on_to, has_room, is_open_to, is_round, state_has_room}

-- ---- the first place at which a test holds

first_one : (p : ℕ → Bool) (n s : ℕ) (o : Option ℕ) (b : Bool) → first_below p n ≡ o → p n ≡ b → or_place o (if b then Some n else None) ≡ Some s
    → (first_below p n ≡ Some s → (first_below p s ≡ None) × (p s ≡ true)) → (first_below p s ≡ None) × (p s ≡ true)
first_one p n s (Some d) b is here found rest = rest (is ∙ found)
first_one p n s None true is here found rest = (let e : n ≡ s = cc found in (rw (← e) is, rw (← e) here))
first_one p n s None false is here found rest = absurd (cc found)

-- it holds nowhere before, and there
first_is : (p : ℕ → Bool) (n s : ℕ) → first_below p n ≡ Some s → (first_below p s ≡ None) × (p s ≡ true)
first_is p zero s found = absurd (cc found)
first_is p (suc n) s found = first_one p n s (first_below p n) (p n) refl refl found (first_is p n s)

none_reached_by : (p : ℕ → Bool) (n k d : ℕ) (o : Option ℕ) → first_below p n ≡ o → k < d → d < up_to o n → p k ≡ false
none_reached_by p n k d None is before within = none_first p n k is (omega (arith, before, within))
none_reached_by p n k d (Some s) is before within = none_first p s k (first_is p n s is).0 (omega (arith, before, within))

-- before a place that is reached there is no stop
none_reached : (p : ℕ → Bool) (n k d : ℕ) → k < d → d < up_to (first_below p n) n → p k ≡ false
none_reached p n k d before within = none_reached_by p n k d (first_below p n) refl before within

-- ---- the one rule hits wherever the other does

let_through : (b c d : Bool) → (not b || c) ≡ true → (not c || d) ≡ true → (not b || d) ≡ true
let_through false c d first second = refl
let_through true true d first second = second
let_through true false d first second = absurd (cc first)

inside_too : (holds : FlatAnchor → Bool) (anchors : List FlatAnchor) (first second : ℕ) → is_open_to anchors first second ≡ true → is_inside holds anchors second ≡ true → is_inside holds anchors first ≡ true
inside_too holds [] first second opens inside = refl
inside_too holds (a ∷ anchors) first second opens inside =
    let open_parts = and_parts (not (is_round a first) || is_round a second) (is_open_to anchors first second) opens in
    let inside_parts = and_parts (not (is_round a second) || holds a) (is_inside holds anchors second) inside in
    and_from (not (is_round a first) || holds a) (is_inside holds anchors first)
    (let_through (is_round a first) (is_round a second) (holds a) open_parts.0 inside_parts.0) (inside_too holds anchors first second open_parts.1 inside_parts.1)

no_limit : (rooms : Rooms) (place : ℕ) (most : Option ℕ) (opens : Bool) → most ≡ None → has_room_by rooms place (if opens then most else None) ≡ true
no_limit rooms place None true is = refl
no_limit rooms place None false is = refl
no_limit rooms place (Some most) opens is = absurd (cc is)

most_is : (most : Option ℕ) (keeps : StateRule) → keeps.most ≡ most → state_has_room (Some keeps) ≡ true → most ≡ None
most_is None keeps is room = refl
most_is (Some most) keeps is room = (let other : state_has_room (Some keeps) ≡ false = rw is refl in absurd (cc (room, other)))

most_none : (state : Option StateRule) → state_has_room state ≡ true → most_of state ≡ None
most_none None room = refl
most_none (Some keeps) room = most_is keeps.most keeps refl room

found_passes : (test : FlatRule → Bool) (found : Option FlatRule) (rule : FlatRule) → found ≡ Some rule → passes test found ≡ true → test rule ≡ true
found_passes test found rule at held = subst (λ (o : Option FlatRule). passes test o ≡ true) at held

passes_found : (test : FlatRule → Bool) (found : Option FlatRule) (rule : FlatRule) → found ≡ Some rule → test rule ≡ true → passes test found ≡ true
passes_found test found rule at held = subst (λ (o : Option FlatRule). passes test o ≡ true) (sym at) held

-- ---- anchors

bool_clash : {P : Type 0} (b : Bool) → b ≡ true → b ≡ false → P
bool_clash true is isnt = absurd (cc isnt)
bool_clash false is isnt = absurd (cc is)

one_of : (b c : Bool) → (b || c) ≡ true → (b ≡ true) ⊎ (c ≡ true)
one_of true c is = inl refl
one_of false c is = inr is

-- no quick anchor ends before the second place in which the last hit is at the first place
module _ (test : ℕ → Bool) (rule by place : ℕ) (last : last_below test (place + 1) ≡ Some rule) (from : rule ≤ place) (before : place < by) where
  not_ending : (anchor : FlatAnchor) → (not (anchor.is_quick && is_round anchor rule) || is_round anchor by) ≡ true → ends test place anchor ≡ true → ⊥
  not_ending anchor on ends =
      let quick = and_parts anchor.is_quick _ ends in
      let at = and_parts (anchor.last == place) (some_in test anchor) quick.1 in
      let last_is = eqb-true anchor.last place at.0 in
      let hits = some_found (λ k. nat_le anchor.first k && test k) (anchor.last + 1) at.1 in
      let k = hits.0 in
      let both = and_parts (nat_le anchor.first k) (test k) hits.2 in
      let first = leb-true anchor.first k both.0 in
      elim (cases_lt rule k) [
        | inl behind ↦ bool_clash (test k) both.1 (none_after test (place + 1) rule k last behind (omega (arith, hits.1, last_is)))
        | inr there ↦
            let round : is_round anchor rule ≡ true = and_from (nat_le anchor.first rule) (nat_le rule anchor.last) (le-leb anchor.first rule (omega (arith, first, there))) (le-leb rule anchor.last (omega (arith, from, last_is))) in
            let is_quick = and_from anchor.is_quick (is_round anchor rule) quick.0 round in
            let goes_on = subst (λ (b : Bool). (not b || is_round anchor by) ≡ true) is_quick on in
            let within = leb-true by anchor.last (and_parts (nat_le anchor.first by) (nat_le by anchor.last) goes_on).1 in
            omega (arith, within, last_is, before)
      ]

  none_ending : (anchors : List FlatAnchor) → goes_on_to anchors rule by ≡ true → list_any (ends test place) anchors ≡ true → ⊥
  none_ending [] on any = cc any
  none_ending (anchor ∷ anchors) on any =
      let parts = and_parts (not (anchor.is_quick && is_round anchor rule) || is_round anchor by) (goes_on_to anchors rule by) on in
      elim (one_of (ends test place anchor) (list_any (ends test place) anchors) any) [
        | inl here ↦ not_ending anchor parts.0 here
        | inr later ↦ none_ending anchors parts.1 later
      ]

-- ---- the rule doesn't decide

module _ (r : Ruleset) (rule by : ℕ) (rooms : Rooms) (name : IfName) (packet : Packet) (direction : Direction) (s : IsShadow r rule by) where
  abbrev test : ℕ → Bool
  test = hit r rooms name packet direction

  abbrev stops : ℕ → Bool
  stops = is_stop test r.filter

  abbrev count : ℕ
  count = length r.filter.rules

  hits_too : test rule ≡ true → test by ≡ true
  hits_too held =
      let matches : ℕ → FlatRule → Bool = λ number other. ruled r name packet direction other && has_room_by rooms number (limit_for other packet) in
      let parts = and_parts (is_inside (anchored r name packet direction) r.filter.anchors rule) (passes (matches rule) (slice_get r.filter.rules rule)) held in
      let inside = inside_too (anchored r name packet direction) r.filter.anchors by rule s.is_asked parts.0 in
      let narrow = and_parts (ruled r name packet direction s.narrow) (has_room_by rooms rule (limit_for s.narrow packet)) (found_passes (matches rule) (slice_get r.filter.rules rule) s.narrow s.rule_is parts.1) in
      let wide = s.holds name packet direction narrow.0 in
      let room = no_limit rooms by (most_of s.wide.state) (opens_connection packet.transport) (most_none s.wide.state s.room) in
      and_from (is_inside (anchored r name packet direction) r.filter.anchors by) (passes (matches by) (slice_get r.filter.rules by)) inside
      (passes_found (matches by) (slice_get r.filter.rules by) s.wide s.by_is (and_from (ruled r name packet direction s.wide) (has_room_by rooms by (limit_for s.wide packet)) wide room))

  -- the other rule comes before it and is quick
  not_before : by < rule → s.wide.is_quick ≡ true → rule < up_to (first_below stops count) count → test by ≡ true → ⊥
  not_before before quick reached held =
      let none = none_reached stops count by rule before reached in
      let own = and_from (passes is_quick (slice_get r.filter.rules by)) (test by) (passes_found is_quick (slice_get r.filter.rules by) s.wide s.by_is quick) held in
      let stop : stops by ≡ true = subst (λ (b : Bool). (b || list_any (ends test by) r.filter.anchors) ≡ true) (sym own) refl in
      bool_clash (stops by) stop none

  -- the other rule comes behind it, and the walk goes on to it
  within_rules : (rules : List FlatRule) (place : ℕ) (found : FlatRule) → slice_get rules place ≡ Some found → place < length rules
  within_rules [] place found at = absurd (cc at)
  within_rules (x ∷ rules) zero found at = omega arith
  within_rules (x ∷ rules) (suc place) found at = (let rest = within_rules rules place found at in omega (arith, rest))

  not_behind_at : (o : Option ℕ) → first_below stops count ≡ o → rule < by → s.narrow.is_quick ≡ false → goes_on_to r.filter.anchors rule by ≡ true
      → last_below test (up_to o count) ≡ Some rule → test by ≡ true → ⊥
  not_behind_at None is behind quick on last held = bool_clash (test by) held (none_after test count rule by last behind (within_rules r.filter.rules by s.wide s.by_is))
  not_behind_at (Some place) is behind quick on last held =
      let from = (last_within test (place + 1) rule last).0 in
      elim (cases_lt place by) [
        | inr reached ↦ bool_clash (test by) held (none_after test (place + 1) rule by last behind (omega (arith, reached)))
        | inl before ↦ elim (one_of (passes is_quick (slice_get r.filter.rules place) && test place) (list_any (ends test place) r.filter.anchors) (first_is stops count place is).1) [
          | inr ending ↦ none_ending test rule by place last (omega (arith, from)) before r.filter.anchors on ending
          | inl own ↦
              let parts = and_parts (passes is_quick (slice_get r.filter.rules place)) (test place) own in
              elim (cases_eq place rule) [
                | inl same ↦ bool_clash s.narrow.is_quick (found_passes is_quick (slice_get r.filter.rules rule) s.narrow s.rule_is (subst (λ (k : ℕ). passes is_quick (slice_get r.filter.rules k) ≡ true) same parts.0)) quick
                | inr other ↦ bool_clash (test place) parts.1 (none_after test (place + 1) rule place last (omega (arith, from, other)) (omega arith))
              ]
        ]
      ]

  not_is : (b : Bool) → not b ≡ true → b ≡ false
  not_is true is = absurd (cc is)
  not_is false is = refl

  decides_none : deciding r rooms name packet direction ≢ Some rule
  unfolding deciding reach
  decides_none is =
      let last = last_within test (up_to (first_below stops count) count) rule is in
      let held = hits_too last.1 in
      elim (one_of (nat_lt by rule && s.wide.is_quick) (nat_lt rule by && (not s.narrow.is_quick && goes_on_to r.filter.anchors rule by)) s.decides) [
        | inl first ↦
            let parts = and_parts (nat_lt by rule) s.wide.is_quick first in
            not_before (ltb-true by rule parts.0) parts.1 last.0 held
        | inr second ↦
            let parts = and_parts (nat_lt rule by) (not s.narrow.is_quick && goes_on_to r.filter.anchors rule by) second in
            let rest = and_parts (not s.narrow.is_quick) (goes_on_to r.filter.anchors rule by) parts.1 in
            not_behind_at (first_below stops count) refl (ltb-true rule by parts.0) (not_is s.narrow.is_quick rest.0) rest.1 is held
      ]

pub none_decided : ShadowedDecideNone
none_decided r rule by rooms name packet direction s = decides_none r rule by rooms name packet direction s
