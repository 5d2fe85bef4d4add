-- Rules that a walk needn't ask: those that a skip passes over, and those that are on no chain that a packet follows.
use Rattle.std.proofs.Common.{◌≡◌, ◌<◌, ◌≤◌, ◌∙◌, ℕ, suc, Bool, true, false, List, [], ◌∷◌, length, map, if◌then◌else◌, Option, Some, None, inl, inr, refl, sym, ap, subst, arith}
use Rattle.std.specs.List.{slice_get, slice_index_or}
use Rattle.std.specs.Option.{option_map}
use Rattle.std.proofs.lemmas.Bool.{cases_Bool, cases_lt}
use Rattle.std.proofs.lemmas.List.{length-map}
use Rattle.std.proofs.lemmas.Option.{slice_get-map}
use Rattle.pfr_net.specs.declared.direction.Direction.{Direction}
use Rattle.pfr_net.specs.declared.interface.IfName.{IfName}
use Rattle.pfr_ruleset.specs.Criteria.{asked_by, asked_by_translation, IsSkip}
use Rattle.pfr_ruleset.specs.Indexes.{IsIndex, MayBeIndex, AreOpenEnds}
use Rattle.pfr_ruleset.specs.Places.{HasOpenings}
use Rattle.pfr_ruleset.specs.declared.aids.FilterAids.{FilterAids}
use Rattle.pfr_ruleset.specs.declared.filter_rules.RuleLists.{RuleLists}
use Rattle.pfr_ruleset.specs.Shapes.{covers, key_of_rule, shape_place}
use Rattle.pfr_ruleset.specs.declared.criterion.Asked.{Asked}
use Rattle.pfr_ruleset.specs.declared.criterion.Criterion.{Criterion}
use Rattle.pfr_ruleset.specs.declared.flat.FlatRule.{FlatRule}
use Rattle.pfr_ruleset.specs.declared.flat.FlatTranslation.{FlatTranslation}
use Rattle.pfr_ruleset.specs.declared.flat.PacketMatch.{PacketMatch}
use Rattle.pfr_ruleset.specs.declared.index.Index.{Index}
use Rattle.pfr_ruleset.specs.declared.ruleset.Ruleset.{Ruleset}
use Rattle.pfr_ruleset.specs.declared.shape.Shape.{Shape}
use Rattle.pfr_ruleset.specs.declared.table.Entry.{Entry}
use Rattle.pfr_headers.specs.declared.packet.Packet.{Packet}
use Rattle.pfr_criteria.specs.Asking.{part_holds}
use Rattle.pfr_criteria.specs.Packets.{match_holds}
use Rattle.pfr_criteria.proofs.SkipLemmas.{rule_matches, skip_fails, translation_skip_fails}
use Rattle.pfr_criteria.proofs.PinLemmas.{keys_agree}
use Rattle.pfr_rules.specs.declared.candidates.Trail.{Trail}
use Rattle.pfr_rules.specs.Candidates.{key_in, IsFollowingBy, IsFollowingIn, FindsAsked, NoneIsCandidate}
use Rattle.pfr_rules.specs.Filter.{passes, ruled}
use Rattle.pfr_rules.specs.Searching.{held}
use Rattle.pfr_rules.specs.Stretches.{NoneHolds, IsBehind, AreEndsFor}
use Rattle.pfr_rules.proofs.CandidateLemmas.{followed_on}

-- a rule that isn't there holds for nothing
passes_not : {R : Type 0} → (test : R → Bool) (found : Option R) → ((rule : R) → found ≡ Some rule → test rule ≡ false) → passes test found ≡ false
passes_not test None fails = refl
passes_not test (Some rule) fails = fails rule refl

-- a rule that holds is what it asks of a packet
abbrev pub Matches : {R : Type 0} → (R → Asked) → (R → Bool) → IfName → List (List Entry) → Packet → Type 0
Matches asked test name tables packet = (rule : _) → test rule ≡ true → match_holds (asked rule).packet name tables packet ≡ true

-- ---- skips

-- none of the rules before a skip holds, whatever kind they are of
pub behind_by : {R : Type 0} → (test : R → Bool) (rules : List R) (place next : ℕ) → place < next → next ≤ length rules
    → ((q : ℕ) (other : R) → place ≤ q → q < next → slice_get rules q ≡ Some other → test other ≡ false) → IsBehind test rules place next
behind_by test rules place next ahead within fails = record {
  ahead = ahead;
  within = within;
  fails = λ q from below. passes_not test (slice_get rules q) (λ other there. fails q other from below there);
}

pub behind_by_skip : (flat : Ruleset) (name : IfName) (packet : Packet) (direction : Direction) (c : Criterion) (place next : ℕ) (rule : FlatRule) → IsSkip c (map asked_by flat.filter.rules) place next → length (map asked_by flat.filter.rules) ≡ length flat.filter.rules
    → slice_get flat.filter.rules place ≡ Some rule → part_holds c (asked_by rule) name flat.tables packet direction ≡ false → IsBehind (ruled flat name packet direction) flat.filter.rules place next
behind_by_skip flat name packet direction c place next rule skip size at fails =
    behind_by (ruled flat name packet direction) flat.filter.rules place next skip.ahead (omega (arith, skip.within, size))
    (skip_fails c flat.filter.rules place next rule name flat.tables packet direction skip at fails)

pub translation_behind_by_skip : {T : Type 0} → (flat : Ruleset) (name : IfName) (packet : Packet) (direction : Direction) (c : Criterion) (rules : List (FlatTranslation T)) (place next : ℕ) (rule : FlatTranslation T)
    → IsSkip c (map asked_by_translation rules) place next → length (map asked_by_translation rules) ≡ length rules
    → slice_get rules place ≡ Some rule → part_holds c (asked_by_translation rule) name flat.tables packet direction ≡ false → IsBehind (held flat name packet) rules place next
translation_behind_by_skip flat name packet direction c rules place next rule skip size at fails =
    behind_by (held flat name packet) rules place next skip.ahead (omega (arith, skip.within, size))
    (translation_skip_fails c rules place next rule name flat.tables packet direction skip at fails)

-- ---- candidates

place_next : (covered : Bool) (rest size : ℕ) → rest ≤ size → (if covered then 0 else suc rest) ≤ suc size
place_next true rest size within = omega arith
place_next false rest size within = omega arith

place_within : (shapes : List Shape) (asked : PacketMatch) → shape_place shapes asked ≤ length shapes
unfolding shape_place
place_within [] asked = omega arith
place_within (shape ∷ shapes) asked = place_next (covers shape asked) (shape_place shapes asked) (length shapes) (place_within shapes asked)

key_at : {R : Type 0} → (asked : R → Asked) (shapes : List Shape) (size : ℕ) (rules : List R) (k : ℕ) (rule : R) → slice_get rules k ≡ Some rule → slice_get (map (key_of_rule shapes size) (map asked rules)) k ≡ Some (key_of_rule shapes size (asked rule))
key_at asked shapes size rules k rule at =
    slice_get-map (key_of_rule shapes size) (map asked rules) k
    ∙ ap (option_map (key_of_rule shapes size)) (slice_get-map asked rules k ∙ ap (option_map asked) at)

-- the next rule that is asked, and what is known of those before it
pub record IsAsked {R : Type 0} (test : R → Bool) (rules : List R) (packet : Packet) (index : Option Index) (from to : ℕ) (trail : Trail) : Type 0 where
  pub ahead : from ≤ to
  pub within : to ≤ length rules
  pub fails : NoneHolds test rules from to
  pub followed : IsFollowingIn index packet from trail

-- rules of some kind, by what they ask and whether they hold
module _ {R : Type 0} (asked : R → Asked) (test : R → Bool) (rules : List R) (name : IfName) (tables : List (List Entry)) (packet : Packet) (matches : Matches asked test name tables packet) where
  -- a rule that holds has the packet's key of some shape
  key_holds : (index : Index) (k : ℕ) (rule : R) → IsIndex (map asked rules) index → slice_get rules k ≡ Some rule → test rule ≡ true → slice_get index.chains k ≡ Some (key_in index packet (shape_place index.shapes (asked rule).packet))
  key_holds index k rule is at holds =
      let same = keys_agree index.shapes index.size (asked rule) name tables packet (matches rule holds) in
      ap (λ keys. slice_get keys k) is.keys ∙ key_at asked index.shapes index.size rules k rule at ∙ ap (λ key. Some key) same

  not_candidate : (index : Index) (from to k : ℕ) (rule : R) → IsIndex (map asked rules) index → NoneIsCandidate index packet from to → from ≤ k → k < to → slice_get rules k ≡ Some rule → test rule ≡ false
  not_candidate index from to k rule is none high low at = elim (cases_Bool (test rule)) [
    | inl holds ↦ absurd (none (shape_place index.shapes (asked rule).packet) (place_within index.shapes (asked rule).packet) k high low (key_holds index k rule is at holds))
    | inr fails ↦ fails
  ]

  pub is_asked_of : (index : Option Index) (from to : ℕ) (before after : Trail) → length (map asked rules) ≡ length rules → from ≤ length rules → MayBeIndex (map asked rules) index → IsFollowingIn index packet from before
      → FindsAsked index from before to after → IsAsked test rules packet index from to after
  is_asked_of None from to before after size within may followed found = record {
    ahead = omega (arith, found);
    within = omega (arith, found, within);
    fails = λ q high low. absurd (omega (arith, high, low, found));
    followed = tt;
  }
  is_asked_of (Some index) from to before after size within may followed found =
      let is = may index refl in
      let candidate = found packet followed in
      record {
        ahead = candidate.ahead;
        within = omega (arith, candidate.within, ap length is.keys, length-map (map asked rules) (key_of_rule index.shapes index.size), size);
        fails = λ q high low. passes_not test (slice_get rules q) (λ rule at. not_candidate index from to q rule is candidate.none high low at);
        followed = candidate.followed;
      }

pub is_asked : (flat : Ruleset) (name : IfName) (packet : Packet) (direction : Direction) (index : Option Index) (from to : ℕ) (before after : Trail) → length (map asked_by flat.filter.rules) ≡ length flat.filter.rules → from ≤ length flat.filter.rules
    → MayBeIndex (map asked_by flat.filter.rules) index → IsFollowingIn index packet from before → FindsAsked index from before to after → IsAsked (ruled flat name packet direction) flat.filter.rules packet index from to after
is_asked flat name packet direction =
    is_asked_of asked_by (ruled flat name packet direction) flat.filter.rules name flat.tables packet (λ rule holds. rule_matches rule name flat.tables packet direction holds)

pub translation_is_asked : {T : Type 0} → (flat : Ruleset) (name : IfName) (packet : Packet) (rules : List (FlatTranslation T)) (index : Option Index) (from to : ℕ) (before after : Trail) → length (map asked_by_translation rules) ≡ length rules → from ≤ length rules
    → MayBeIndex (map asked_by_translation rules) index → IsFollowingIn index packet from before → FindsAsked index from before to after → IsAsked (held flat name packet) rules packet index from to after
translation_is_asked flat name packet rules =
    is_asked_of asked_by_translation (held flat name packet) rules name flat.tables packet (λ rule holds. holds)

-- ---- stretches

pub followed_in_on : (index : Option Index) (packet : Packet) (from to : ℕ) (trail : Trail) → from ≤ to → IsFollowingIn index packet from trail → IsFollowingIn index packet to trail
followed_in_on None packet from to trail later followed = tt
followed_in_on (Some index) packet from to trail later followed = followed_on index packet from to trail later followed

pub followed_by_on : (aids : Option FilterAids) (packet : Packet) (from to : ℕ) (trail : Trail) → from ≤ to → IsFollowingBy aids packet from trail → IsFollowingBy aids packet to trail
followed_by_on None packet from to trail later followed = tt
followed_by_on (Some aids) packet from to trail later followed = followed_in_on aids.rules.index packet from to trail later followed

-- how far walks may go is known by the openings of the same rules, whatever list has them
pub ends_for : (lists : RuleLists) (own openings : List ℕ) (aids : FilterAids) → HasOpenings lists.rules lists.anchors own → HasOpenings lists.rules lists.anchors openings → AreOpenEnds own aids.open_ends.items → AreEndsFor openings aids
ends_for lists own openings aids had has ends = record {
  size = ends.size ∙ had.size ∙ sym has.size;
  each = λ place within.
      let end = ends.each place (omega (arith, within, had.size, has.size)) in
      record {
        ahead = end.ahead;
        within = omega (arith, end.within, had.size, has.size);
        stays = λ k behind below.
            let all : k < length lists.rules = omega (arith, below, end.within, had.size) in
            let same : slice_index_or own k 0 ≡ slice_index_or openings k 0 = had.each k all ∙ sym (has.each k all) in
            subst (λ opening. k ≤ opening) same (end.stays k behind below);
      };
}

-- two stretches, the second of which begins where the first ends
pub none_joined : {R : Type 0} → (test : R → Bool) (rules : List R) (from between to : ℕ) → NoneHolds test rules from between → NoneHolds test rules between to → NoneHolds test rules from to
none_joined test rules from between to first second q high low = elim (cases_lt q between) [
  | inl below ↦ first q high below
  | inr above ↦ second q above low
]
