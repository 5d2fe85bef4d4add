use Rattle.std.proofs.Common.{◌≡◌, ◌∙◌, List, ap, refl, subst, sym}
use Rattle.std.specs.Option.{option_copied}
use Rattle.pfr_states.specs.Awaited.{AreAwaited}
use Rattle.pfr_states.specs.Keyed.{IsLike, states_of}
use Rattle.pfr_states.specs.declared.stored.Stored.{Stored}
use Rattle.pfr_states.proofs.AwaitedLemmas.{awaited_kept, awaited_renewed, awaited_written}
use Rattle.pfr_states.proofs.IndexedLemmas.{not_later}
use Rattle.pfr_states.proofs.KeyedChanges.{states_value}
use Rattle.pfr_states.proofs.KeyedInvariants.{like_free, likes, rise_states}
use Rattle.pfr_states.proofs.KeyedLemmas.{Held, holder, in_states}
use Rattle.pfr_states.proofs.indexed.IndexedStates.renew.Goals as goal

pub invariant_of-self : goal.invariant_of-self
invariant_of-self c =
    let all = c.self.inside.keyed in
    let states = c.get.ensures.states in
    let it = holder all c.args.place c.in-Some.stored.now (sym c.get.ensures.stored ∙ ap (λ r. option_copied r) c.in-Some.is) in
    let like = likes c.in-Some.stored.now.state c.args.state.now (sym c.is_like.ensures ∙ c.if-not-is_like.false) in
    let p = it.0 in
    let number : p.number ≡ c.args.state.now.number.0 = states.by_number p it.3 ∙ ap (λ (v : Stored). v.state.number.0) it.2 ∙ like.number in
    let new : Stored = record { state = c.args.state.now; waits = c.in-Some.stored.now.waits } in
    let early = not_later c.in-Some.stored.now.waits.0 c.args.state.now.deadline.0 (sym c.le.ensures ∙ c.if-le.true) in
    subst (λ (xs : List Held). AreAwaited c.self.inside.deadlines.waits xs) (sym c.write.ensures)
    (awaited_renewed all c.self.inside.deadlines.waits c.args.place new p states.own_places it.1 c.self.invariant (ap (λ (v : Stored). v.waits) (sym it.2)) (sym (ap (λ (v : Stored). v.state.number.0) it.2 ∙ like.number)) early)

pub returns-then-le-clause-done : goal.returns-then-le-clause-done
returns-then-le-clause-done c = λ _.
    let all = c.self.inside.keyed in
    let states = c.get.ensures.states in
    let it = holder all c.args.place c.in-Some.stored.now (sym c.get.ensures.stored ∙ ap (λ r. option_copied r) c.in-Some.is) in
    let like = likes c.in-Some.stored.now.state c.args.state.now (sym c.is_like.ensures ∙ c.if-not-is_like.false) in
    let p = it.0 in
    let number : p.number ≡ c.args.state.now.number.0 = states.by_number p it.3 ∙ ap (λ (v : Stored). v.state.number.0) it.2 ∙ like.number in
    let new : Stored = record { state = c.args.state.now; waits = c.in-Some.stored.now.waits } in
    rw (← c.self.view_is) (ap (λ (xs : List Held). states_of xs) c.write.ensures ∙ states_value c.args.place new all p states.by_number states.in_order states.own_places it.1 number)

pub returns-then-le-clause-free : goal.returns-then-le-clause-free
returns-then-le-clause-free c = λ _.
    let all = c.self.inside.keyed in
    let states = c.get.ensures.states in
    let it = holder all c.args.place c.in-Some.stored.now (sym c.get.ensures.stored ∙ ap (λ r. option_copied r) c.in-Some.is) in
    let like = likes c.in-Some.stored.now.state c.args.state.now (sym c.is_like.ensures ∙ c.if-not-is_like.false) in
    let p = it.0 in
    let number : p.number ≡ c.args.state.now.number.0 = states.by_number p it.3 ∙ ap (λ (v : Stored). v.state.number.0) it.2 ∙ like.number in
    let as_it : IsLike p.value.state c.args.state.now = subst (λ (v : Stored). IsLike v.state c.args.state.now) (sym it.2) like in
    rw (← c.self.view_is) (like_free states p.value.state c.args.state.now (in_states all p it.3) as_it (rise_states all states.by_number states.in_order))

pub invariant_of-self-in_err-make_room : goal.invariant_of-self-in_err-make_room
invariant_of-self-in_err-make_room c = awaited_kept c.self.inside.keyed c.self.inside.deadlines.waits c.make_room.new.deadlines.waits c.make_room.ensures.states.own_places c.self.invariant c.make_room.ensures.kept

pub invariant_of-self-2 : goal.invariant_of-self-2
invariant_of-self-2 c =
    let all = c.self.inside.keyed in
    let states = c.get.ensures.states in
    let it = holder all c.args.place c.in-Some.stored.now (sym c.get.ensures.stored ∙ ap (λ r. option_copied r) c.in-Some.is) in
    let like = likes c.in-Some.stored.now.state c.args.state.now (sym c.is_like.ensures ∙ c.if-not-is_like.false) in
    let p = it.0 in
    let number : p.number ≡ c.args.state.now.number.0 = states.by_number p it.3 ∙ ap (λ (v : Stored). v.state.number.0) it.2 ∙ like.number in
    let new : Stored = record { state = c.args.state.now; waits = c.args.state.now.deadline } in
    let awaited = awaited_kept all c.self.inside.deadlines.waits c.make_room.new.deadlines.waits states.own_places c.self.invariant c.make_room.ensures.kept in
    subst (λ (xs : List Held). AreAwaited c.add.new.self.waits xs) (sym c.write-2.ensures)
    (awaited_written all c.make_room.new.deadlines.waits c.add.new.self.waits c.args.place new p states.own_places it.1 awaited refl c.add.ensures)

pub returns-clause-done : goal.returns-clause-done
returns-clause-done c = λ _.
    let all = c.self.inside.keyed in
    let states = c.get.ensures.states in
    let it = holder all c.args.place c.in-Some.stored.now (sym c.get.ensures.stored ∙ ap (λ r. option_copied r) c.in-Some.is) in
    let like = likes c.in-Some.stored.now.state c.args.state.now (sym c.is_like.ensures ∙ c.if-not-is_like.false) in
    let p = it.0 in
    let number : p.number ≡ c.args.state.now.number.0 = states.by_number p it.3 ∙ ap (λ (v : Stored). v.state.number.0) it.2 ∙ like.number in
    let new : Stored = record { state = c.args.state.now; waits = c.args.state.now.deadline } in
    rw (← c.self.view_is) (ap (λ (xs : List Held). states_of xs) c.write-2.ensures ∙ states_value c.args.place new all p states.by_number states.in_order states.own_places it.1 number)

pub returns-clause-free : goal.returns-clause-free
returns-clause-free c = λ _.
    let all = c.self.inside.keyed in
    let states = c.get.ensures.states in
    let it = holder all c.args.place c.in-Some.stored.now (sym c.get.ensures.stored ∙ ap (λ r. option_copied r) c.in-Some.is) in
    let like = likes c.in-Some.stored.now.state c.args.state.now (sym c.is_like.ensures ∙ c.if-not-is_like.false) in
    let p = it.0 in
    let number : p.number ≡ c.args.state.now.number.0 = states.by_number p it.3 ∙ ap (λ (v : Stored). v.state.number.0) it.2 ∙ like.number in
    let as_it : IsLike p.value.state c.args.state.now = subst (λ (v : Stored). IsLike v.state c.args.state.now) (sym it.2) like in
    rw (← c.self.view_is) (like_free states p.value.state c.args.state.now (in_states all p it.3) as_it (rise_states all states.by_number states.in_order))
