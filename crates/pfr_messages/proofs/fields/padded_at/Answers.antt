use Rattle.std.proofs.Common.{◌≡◌, ◌-◌, ◌+◌, eqb, true, false, take, sym, subst, ◌∙◌, arith}
use Rattle.std.proofs.lemmas.List.{length-set, take_all, take_more_set}
use Rattle.std.proofs.lemmas.Result.{err_from_is_err_and}
use Rattle.std.specs.Prelude.{List, ℕ}
use Rattle.pfr_messages.specs.Fields.{may_stand, padded_at}
use Rattle.pfr_messages.proofs.FieldLoops.{name_differs, name_ends, name_goes_on, name_is_done, with_front}
use Rattle.pfr_messages.proofs.fields.padded_at.Goals as goal

pub returns-in_err-byte : goal.returns-in_err-byte
returns-in_err-byte c =
    let p = err_from_is_err_and c.from_residual.result c.from_residual.ensures.1 in
    rw (p.1, p.2) (name_ends c.loop-place.place c.loop-place.ended (take c.loop-place.place c.loop-place.name)
    c.loop-place.rest.now c.in_err-byte.field-0.0 (padded_at 16 false c.args.bytes.now) c.loop-place-test.true
    c.in_err-byte.ensures c.loop-place.invariant.1)

pub returns-then-not-may_stand : goal.returns-then-not-may_stand
returns-then-not-may_stand c =
    let may : may_stand c.loop-place.ended (15 - c.loop-place.place) c.in_ok-byte.byte ≡ false =
    sym c.may_stand.ensures ∙ c.if-not-may_stand.true in
    name_differs c.loop-place.place c.loop-place.ended (take c.loop-place.place c.loop-place.name) c.loop-place.rest.now
    c.in_ok-byte.byte c.in_ok-byte.after.now (padded_at 16 false c.args.bytes.now) c.loop-place-test.true c.in_ok-byte.ensures
    may c.loop-place.invariant.1

pub loop-place-preserved : goal.loop-place-preserved
loop-place-preserved c =
    let may : may_stand c.loop-place.ended (15 - c.loop-place.place) c.in_ok-byte.byte ≡ true =
    sym c.may_stand.ensures ∙ c.if-not-may_stand.false in
    let longer = take_more_set c.loop-place.name c.loop-place.place c.in_ok-byte.byte
    (omega (arith, c.loop-place.invariant.0, c.loop-place-test.true)) in (
      rw length-set c.loop-place.invariant.0,
      subst (λ (front : List ℕ). with_front front
          (padded_at (16 - (c.loop-place.place + 1)) (eqb c.in_ok-byte.byte 0) c.in_ok-byte.after.now) ≡ padded_at 16 false
          c.args.bytes.now) (sym longer)
          (name_goes_on c.loop-place.place c.loop-place.ended (take c.loop-place.place c.loop-place.name) c.loop-place.rest.now
          c.in_ok-byte.byte c.in_ok-byte.after.now (padded_at 16 false c.args.bytes.now) c.loop-place-test.true
          c.in_ok-byte.ensures may c.loop-place.invariant.1),
    )

pub returns : goal.returns
returns c =
    let whole : take c.loop-place.place c.loop-place.name ≡ c.loop-place.name =
    take_all c.loop-place.place c.loop-place.name (omega (arith, c.loop-place.invariant.0, c.loop-place-test.false)) in
    name_is_done c.loop-place.place c.loop-place.ended c.loop-place.name c.loop-place.rest.now
    (padded_at 16 false c.args.bytes.now) c.loop-place-test.false
    (subst (λ (front : List ℕ). with_front front
    (padded_at (16 - c.loop-place.place) c.loop-place.ended c.loop-place.rest.now) ≡ padded_at 16 false c.args.bytes.now)
    whole c.loop-place.invariant.1)
