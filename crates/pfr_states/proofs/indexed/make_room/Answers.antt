use Rattle.std.proofs.Common.{List, subst, sym}
use Rattle.std.specs.List.{Contains, filter}
use Rattle.std.proofs.lemmas.List.Sorted.{Contains-permutation}
use Rattle.pfr_states.specs.Awaited.{is_kept_at}
use Rattle.pfr_deadlines.specs.Waits.{Wait}
use Rattle.pfr_states.proofs.Membership.{to_filter}
use Rattle.pfr_states.proofs.indexed.make_room.Goals as goal

pub returns-then-are_many-clause-kept : goal.returns-then-are_many-clause-kept
returns-then-are_many-clause-kept c = λ wait inside keeps.
    let keep : Wait → _ = λ (w : Wait). is_kept_at w c.args.keyed.now in
    subst (λ (waits : List Wait). Contains waits wait) (sym c.reserve.ensures.same) (Contains-permutation (filter keep c.args.deadlines.now.waits) c.sweep.new.self.waits wait (c.sweep.ensures keep (λ w answer is. is.1)) (to_filter keep c.args.deadlines.now.waits wait inside keeps))

pub returns-clause-kept : goal.returns-clause-kept
returns-clause-kept c = λ wait inside keeps. subst (λ (waits : List Wait). Contains waits wait) (sym c.reserve-2.ensures.same) inside
