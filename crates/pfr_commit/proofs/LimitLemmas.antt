-- Rules keep to their max.
use Rattle.std.proofs.Common.{◌≡◌, ◌≤◌, ◌<◌, ◌+◌, ◌∙◌, ℕ, Bool, true, not, if◌then◌else◌, List, [], ◌∷◌, length, nat_lt, Option, Some, None, slice_get, inl, inr, refl, sym, ap, arith}
use Rattle.std.specs.List.{Contains, filter}
use Rattle.std.proofs.lemmas.Bool.{cases_Bool, eqb-true}
use Rattle.pfr_net.specs.declared.rule_number.RuleNumber.{RuleNumber}
use Rattle.pfr_net.specs.declared.interface.InterfacePlace.{InterfacePlace}
use Rattle.pfr_ruleset.specs.declared.flat.FlatRule.{FlatRule}
use Rattle.pfr_headers.specs.View.{view_of}
use Rattle.pfr_rules.specs.Filter.{most_of}
use Rattle.pfr_track.specs.declared.state.State.{State}
use Rattle.pfr_track.specs.declared.state.StateNumber.{StateNumber}
use Rattle.pfr_track.specs.declared.state.StateRules.{StateRules}
use Rattle.pfr_track.specs.declared.time.Clock.{Clock}
use Rattle.pfr_states.specs.declared.change.TableChange.{TableChange}
use Rattle.pfr_states.specs.declared.change.TableChange.TheVariants.{Made, Touched, Removed}
use Rattle.pfr_states.specs.Answers.{purged_at}
use Rattle.pfr_states.specs.States.{IsTable, StateTable, count_of_rule, is_number, is_of_rule, lives, names_rule, rise, with_change, with_state, with_touched}
use Rattle.pfr_states.proofs.FilterLemmas.{rise_filter}
use Rattle.pfr_states.proofs.FindLemmas.{one_number}
use Rattle.pfr_states.proofs.Membership.{here, there}
use Rattle.pfr_packet.specs.declared.outcome.Outcome.{Outcome}
use Rattle.pfr_packet.specs.Job.{RunJob}
use Rattle.pfr_packet.specs.Laws.{IsOwnChange, MadeWhereItsRuleHasRoom}
use Rattle.pfr_telling.specs.Telling.{changed}
use Rattle.pfr_commit.specs.Runs.{next_taken}
use Rattle.pfr_commit.specs.World.{Frame, World, after, with_outcome, world_after}
use Rattle.pfr_commit.proofs.TableLemmas.{NoneRefused, OwnChanges, table_next}

-- ---- how many pass a test

abbrev one : (State → Bool) → State → ℕ
one p state = if p state then 1 else 0

count_first : (p : State → Bool) (state : State) (states : List State) → length (filter p (state ∷ states)) ≡ one p state + length (filter p states)
count_first p state states = elim (cases_Bool (p state)) [ inl it_is ↦ rw it_is (omega arith) | inr other ↦ rw other (omega arith) ]

count_fewer : (p q : State → Bool) (states : List State) → length (filter p (filter q states)) ≤ length (filter p states)
count_fewer p q [] = omega arith
count_fewer p q (x ∷ xs) =
    let rest = count_fewer p q xs in
    let all = count_first p x xs in
    elim (cases_Bool (q x)) [
      | inl kept ↦ (let some = count_first p x (filter q xs) in rw kept (omega (arith, rest, all, some)))
      | inr gone ↦ rw gone (omega (arith, rest, all))
    ]

-- a state in its place counts at most for itself
count_with : (p : State → Bool) (state : State) (states : List State) → length (filter p (with_state state states)) ≤ one p state + length (filter p states)
count_with p state [] = (let all = count_first p state [] in omega (arith, all))
count_with p state (x ∷ xs) =
    let rest = count_with p state xs in
    let all = count_first p x xs in
    elim (cases_Bool (nat_lt state.number.0 x.number.0)) [
      | inl before ↦ (let some = count_first p state (x ∷ xs) in rw before (omega (arith, some)))
      | inr behind ↦ elim (cases_Bool (is_number state.number x)) [
        | inl same ↦ (let some = count_first p state xs in rw (behind, same) (omega (arith, some, all)))
        | inr other ↦ (let some = count_first p x (with_state state xs) in rw (behind, other) (omega (arith, some, rest, all)))
      ]
    ]

-- a touched state counts as it did
count_touched : (p : State → Bool) (state : State) (states : List State) → ((x : State) → Contains states x → is_number state.number x ≡ true → p x ≡ p state) → length (filter p (with_touched state states)) ≡ length (filter p states)
count_touched p state [] alike = refl
count_touched p state (x ∷ xs) alike =
    let rest = count_touched p state xs (λ y at. alike y (there x xs y at)) in
    let all = count_first p x xs in
    elim (cases_Bool (is_number state.number x)) [
      | inl it_is ↦ (
          let some = count_first p state (with_touched state xs) in
          let same : one p x ≡ one p state = ap (λ (b : Bool). if b then 1 else 0) (alike x (here x xs) it_is) in
          rw it_is (omega (arith, some, all, rest, same)))
      | inr other ↦ (let some = count_first p x (with_touched state xs) in rw other (omega (arith, some, all, rest)))
    ]

-- ---- one packet

module _ (by : RuleNumber) (most : ℕ) where
  names : (named : Option RuleNumber) → names_rule by.0 named ≡ true → named ≡ Some by
  names None is = absurd (cc is)
  names (Some named) is = ap (λ (n : ℕ). Some (rule_by n)) (eqb-true named.0 by.0 is)
    where
      rule_by : ℕ → RuleNumber
      rule_by n = record { 0 = n }

  -- a state that is touched is of the rule that it was of
  touched_alike : (number : ℕ) (clock : Clock) (place : InterfacePlace) (states : List State) (outcome : Outcome) (state : State) → rise states ≡ true → IsOwnChange number clock place states outcome (Touched state)
      → (x : State) → Contains states x → is_number state.number x ≡ true → is_of_rule by.0 x ≡ is_of_rule by.0 state
  touched_alike number clock place states outcome state in_order own x at it_is =
      let number_is : x.number.0 ≡ own.before.number.0 = eqb-true x.number.0 state.number.0 it_is ∙ ap (λ (n : StateNumber). n.0) own.number_is in
      let same : x ≡ own.before = one_number states in_order x own.before at own.is_there number_is in
      ap (λ (s : State). is_of_rule by.0 s) same ∙ ap (λ (rules : StateRules). names_rule by.0 rules.filter) (sym own.rules_are)

  change_keeps : (number : ℕ) (clock : Clock) (place : InterfacePlace) (states : List State) (outcome : Outcome) (change : TableChange) → rise states ≡ true → IsOwnChange number clock place states outcome change
      → ((state : State) → change ≡ Made state → state.rules.filter ≡ Some by → count_of_rule by.0 states < most) → count_of_rule by.0 states ≤ most → count_of_rule by.0 (with_change change states) ≤ most
  change_keeps number clock place states outcome (Made state) in_order own room few =
      let more = count_with (is_of_rule by.0) state states in
      elim (cases_Bool (is_of_rule by.0 state)) [
        | inl it_is ↦ (let less = room state refl (names state.rules.filter it_is) in let counted : one (is_of_rule by.0) state ≡ 1 = rw it_is refl in omega (arith, more, less, counted))
        | inr other ↦ (let counted : one (is_of_rule by.0) state ≡ 0 = rw other refl in omega (arith, more, few, counted))
      ]
  change_keeps number clock place states outcome (Touched state) in_order own room few =
      let same = count_touched (is_of_rule by.0) state states (touched_alike number clock place states outcome state in_order own) in
      omega (arith, same, few)
  change_keeps number clock place states outcome (Removed old) in_order own room few =
      let less = count_fewer (is_of_rule by.0) (λ state. not (is_number old state)) states in
      omega (arith, less, few)

  changed_keeps : (number : ℕ) (clock : Clock) (place : InterfacePlace) (table : StateTable) (outcome : Outcome) (change : Option TableChange) → rise table.states ≡ true
      → ((c : TableChange) → change ≡ Some c → IsOwnChange number clock place table.states outcome c)
      → ((state : State) → change ≡ Some (Made state) → state.rules.filter ≡ Some by → count_of_rule by.0 table.states < most) → count_of_rule by.0 table.states ≤ most → count_of_rule by.0 (changed change table).states ≤ most
  changed_keeps number clock place table outcome None in_order own room few = few
  changed_keeps number clock place table outcome (Some change) in_order own room few =
      change_keeps number clock place table.states outcome change in_order (own change refl) (λ state is. room state (ap (λ (c : TableChange). Some c) is)) few

-- ---- a run

module _ (has_room : MadeWhereItsRuleHasRoom) (own : OwnChanges) (none : NoneRefused) (job : RunJob) (by : RuleNumber) (rule : FlatRule) (most : ℕ) (at : slice_get job.rules.filter.rules by.0 ≡ Some rule) (limit : most_of rule.state ≡ Some most) where
  next_keeps : (world : World) (frame : Frame) → IsTable world.table → count_of_rule by.0 world.table.states ≤ most → count_of_rule by.0 (after job world frame).table.states ≤ most
  unfolding after with_outcome purged_at
  next_keeps world frame table few =
      let p = next_taken job world frame in
      let view = view_of frame.link frame.bytes in
      let less = count_fewer (is_of_rule by.0) (lives p.clock) world.table.states in
      changed_keeps by most p.number p.clock frame.place (purged_at p.clock world.table) p.outcome p.outcome.change (rise_filter (lives p.clock) world.table.states table.in_order)
      (λ change is. own job p.number p.clock frame.place view world.table change is)
      (λ state is filter_is. has_room job p.number p.clock frame.place view world.table state by rule most is filter_is at limit)
      (omega (arith, less, few))

  pub rules_keep : (world : World) (frames : List Frame) → IsTable world.table → count_of_rule by.0 world.table.states ≤ most → count_of_rule by.0 (world_after job world frames).table.states ≤ most
  unfolding world_after
  rules_keep world [] table few = few
  rules_keep world (frame ∷ frames) table few = rules_keep (after job world frame) frames (table_next none job world frame table) (next_keeps world frame table few)
