use Rattle.std.proofs.Common.{◌≡◌, ◌<◌, ◌^◌, length, refl, subst, rules, arith}
use Rattle.pfr_stream.specs.Reading.{Reading}
use Rattle.pfr_stream.proofs.Framed.{none_framed, none_held, taken_short}
use Rattle.pfr_stream.proofs.Takings.{refused_at, took_front}
use Rattle.pfr_stream.proofs.reading.Stream.step.Goals as goal

pub read_on-requires-clause-short : goal.read_on-requires-clause-short
read_on-requires-clause-short g c =
    let nothing : length c.self.inside.held ≡ 0 = search rules in
    rw (← c.self.view_is, none_held c.self.inside.held nothing) (none_framed c.self.inside.framing)

pub returns-in_default-clause-takes_on : goal.returns-in_default-clause-takes_on
returns-in_default-clause-takes_on g c =
    let may : c.self.inside.count < 2 ^ 40 = omega arith in
    λ told. took_front c.args.self.now c.take_front.new.self _ (subst (λ (r : Reading). r.count < 2 ^ 40) c.self.view_is may) c.in_default.ensures.taken

pub read_on-requires-in-Short-clause-short : goal.read_on-requires-in-Short-clause-short
read_on-requires-in-Short-clause-short g c =
    rw c.in-Err.ensures.same (taken_short c.args.self.now.framing c.args.self.now.standing c.args.self.now.held (rw c.in-Short.is at c.in-Err.ensures.which))

pub returns-in_default-refusal-clause-takes_on : goal.returns-in_default-refusal-clause-takes_on
returns-in_default-refusal-clause-takes_on g c = λ told text took. rw c.in-Err.ensures.same took

pub returns-in_default-refusal-clause-ends : goal.returns-in_default-refusal-clause-ends
returns-in_default-refusal-clause-ends g c =
    let may : c.self.inside.count < 2 ^ 40 = omega arith in
    rw c.in-Err.ensures.same (refused_at _ c.args.self.now _ c.in-Err.refusal (subst (λ (r : Reading). r.count < 2 ^ 40) c.self.view_is may) c.in_default-refusal.not-Memory c.in_default-refusal.not-Short c.in-Err.ensures.which, refl)
