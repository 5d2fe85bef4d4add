use Rattle.std.proofs.Common.{◌≡◌, ◌∙◌, ◌∷◌, IfSome, List, None, Option, Some, ap, subst, sym}
use Rattle.std.specs.Option.{option_copied}
use Rattle.std.specs.List.Sorted.{IsPermutation}
use Rattle.pfr_places.specs.Places.{at, value_of}
use Rattle.pfr_states.specs.Awaited.{AreAwaited, kept_by}
use Rattle.pfr_states.specs.Keyed.{states_of}
use Rattle.pfr_deadlines.specs.Waits.{IsPutOff, Wait}
use Rattle.pfr_states.specs.declared.stored.Stored.{Stored}
use Rattle.pfr_states.proofs.AwaitedLemmas.{awaited_dropped, awaited_put_off}
use Rattle.pfr_states.proofs.IndexedLemmas.{kept, not_kept}
use Rattle.pfr_states.proofs.KeyedChanges.{same_states}
use Rattle.pfr_states.proofs.KeyedLemmas.{Held}
use Rattle.pfr_states.proofs.indexed.IndexedStates.settle_first.Goals as goal

pub invariant_of-self : goal.invariant_of-self
invariant_of-self c =
    let all = c.self.inside.keyed in
    let waits = c.self.inside.deadlines.waits in
    let first = c.in-Some.first in
    let none : kept_by first (value_of (at first.2 all)) ≡ None = sym c.kept_by.ensures.stored ∙ ap (λ r. option_copied r) c.in_default-kept_by.is in
    let gone = subst (λ (r : Option Wait). IfSome r (λ first. IsPermutation waits (first ∷ c.drop_first.new.self.waits))) (sym c.first.ensures.below ∙ c.in-Some.is) c.drop_first.ensures in
    awaited_dropped all first waits c.drop_first.new.self.waits c.self.invariant c.kept_by.ensures.states.own_places (not_kept first (value_of (at first.2 all)) none) gone

pub invariant_of-self-2 : goal.invariant_of-self-2
invariant_of-self-2 c =
    let all = c.self.inside.keyed in
    let waits = c.self.inside.deadlines.waits in
    let first = c.in-Some.first in
    let stored = c.in-Some-kept_by.field-0.now in
    let is : kept_by first (value_of (at first.2 all)) ≡ Some stored = sym c.kept_by.ensures.stored ∙ ap (λ r. option_copied r) c.in-Some-kept_by.is in
    let moved = subst (λ (r : Option Wait). IfSome r (λ first. IsPutOff first stored.state.deadline waits c.put_off.new.self.waits)) (sym c.first.ensures.below ∙ c.in-Some.is) c.put_off.ensures in
    subst (λ (xs : List Held). AreAwaited c.put_off.new.self.waits xs) (sym c.write.ensures) (awaited_put_off all first waits c.put_off.new.self.waits stored c.kept_by.ensures.states.own_places c.self.invariant is moved)

pub returns : goal.returns
returns c =
    let all = c.self.inside.keyed in
    let first = c.in-Some.first in
    let stored = c.in-Some-kept_by.field-0.now in
    let it = kept all first stored (sym c.kept_by.ensures.stored ∙ ap (λ r. option_copied r) c.in-Some-kept_by.is) in
    ap (λ (xs : List Held). states_of xs) c.write.ensures
    ∙ same_states first.2 (record { state = stored.state; waits = stored.state.deadline }) all it.placed c.kept_by.ensures.states.own_places it.there (ap (λ (v : Stored). v.state) (sym it.has_value))
    ∙ c.self.view_is
