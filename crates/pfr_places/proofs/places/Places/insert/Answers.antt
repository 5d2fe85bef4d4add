use Rattle.std.proofs.Common.{◌∙◌, ap, rules}
use Rattle.pfr_places.specs.Places.{of_number, with_placed}
use Rattle.pfr_places.proofs.KeepLemmas.{fits, put_is, put_keeps, slab_keeps, slab_same, vacant_at}
use Rattle.pfr_places.proofs.places.Places.insert.Goals as goal

pub overflow_add-self : goal.overflow_add-self
overflow_add-self g c =
    let same = c.in_ok-place.ensures.same in
    let before = c.self.view_is ∙ c.in_ok-reserve.ensures ∙ c.sweep.ensures in
    let kept = slab_keeps c.self.invariant c.make_vacant.new.values.items same c.in_ok-place.ensures.few in
    let slab = slab_same c.self.invariant c.make_vacant.new.values.items same in
    let put = put_keeps kept c.in_ok-put.ensures.done c.args.value (ap (of_number c.args.number) (slab ∙ before) ∙ c.requires) (same c.in_ok-place.place.0 ∙ c.in_ok-place.ensures.vacant) c.in_ok-place.ensures.there in
    let within = fits put c.in_ok-put.ensures.few in
    search rules

pub invariant_of-self-2 : goal.invariant_of-self-2
invariant_of-self-2 g c =
    let same = c.in_ok-place.ensures.same in
    let before = c.self.view_is ∙ c.in_ok-reserve.ensures ∙ c.sweep.ensures in
    let kept = slab_keeps c.self.invariant c.make_vacant.new.values.items same c.in_ok-place.ensures.few in
    let slab = slab_same c.self.invariant c.make_vacant.new.values.items same in
    put_keeps kept c.in_ok-put.ensures.done c.args.value (ap (of_number c.args.number) (slab ∙ before) ∙ c.requires) (same c.in_ok-place.place.0 ∙ c.in_ok-place.ensures.vacant) c.in_ok-place.ensures.there

pub returns-clause-done : goal.returns-clause-done
returns-clause-done g c =
    let same = c.in_ok-place.ensures.same in
    let before = c.self.view_is ∙ c.in_ok-reserve.ensures ∙ c.sweep.ensures in
    let kept = slab_keeps c.self.invariant c.make_vacant.new.values.items same c.in_ok-place.ensures.few in
    let slab = slab_same c.self.invariant c.make_vacant.new.values.items same in
    put_is kept c.in_ok-put.ensures.done c.args.value (ap (of_number c.args.number) (slab ∙ before) ∙ c.requires) (same c.in_ok-place.place.0 ∙ c.in_ok-place.ensures.vacant) c.in_ok-place.ensures.there
    ∙ ap (with_placed (record { number = c.args.number; place = c.in_ok-place.place; value = c.args.value })) (slab ∙ before)

pub returns-clause-fresh : goal.returns-clause-fresh
returns-clause-fresh g c =
    let before = c.self.view_is ∙ c.in_ok-reserve.ensures ∙ c.sweep.ensures in
    rw (← before) (vacant_at c.self.invariant c.in_ok-place.place c.in_ok-place.ensures.vacant)
