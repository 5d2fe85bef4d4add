use Rattle.std.proofs.Common.{◌≡◌, ◌<◌, Err, length, rules, arith}
use Rattle.pfr_messages.specs.declared.error.SyncError.TheVariants.{Short}
use Rattle.pfr_stream.specs.Stream.{framed_at}
use Rattle.pfr_stream.proofs.Framed.{short_framed}
use Rattle.pfr_stream.proofs.Takings.{lacks_at, may_follow, took_behind}
use Rattle.pfr_stream.proofs.reading.Stream.read_on.Goals as goal

pub read_on-requires : goal.read_on-requires
read_on-requires g c =
    let short = short_framed c.self.inside.framing c.self.inside.held (rw (← c.self.view_is) at c.requires.short) in
    omega arith

pub returns-in_default-clause-takes_on : goal.returns-in_default-clause-takes_on
returns-in_default-clause-takes_on g c = λ told text took.
    took_behind c.self.inside.framing text _ _ c.self.inside.held c.read_on.new.self c.self.inside.count c.self.inside.standby (c.read_on.ensures.came told) (rw (← c.self.view_is) at took)

pub returns-then-more-clause-takes_on : goal.returns-then-more-clause-takes_on
returns-then-more-clause-takes_on g c = λ told text took.
    took_behind c.self.inside.framing text _ _ c.self.inside.held c.read_on.new.self c.self.inside.count c.self.inside.standby (c.read_on.ensures.came told) (rw (← c.self.view_is) at took)

pub returns-clause-takes_on : goal.returns-clause-takes_on
returns-clause-takes_on g c = λ told text took.
    took_behind c.self.inside.framing text _ _ c.self.inside.held c.read_on.new.self c.self.inside.count c.self.inside.standby (c.read_on.ensures.came told) (rw (← c.self.view_is) at took)

pub returns-clause-ends : goal.returns-clause-ends
returns-clause-ends g c =
    let same : c.read_on.new.self ≡ c.self.inside.held = c.in-Ok.ensures.none c.if-more.false in
    let some : 0 < length c.read_on.new.self = search rules in
    let lack : framed_at c.self.inside.framing c.self.inside.held ≡ Err Short = rw (← c.self.view_is) at c.requires.short in (
      lacks_at _ _ _ (may_follow c.self.inside.held c.read_on.new.self c.self.inside.count (rw (← c.self.view_is) at c.requires.may_follow) same some) some (rw same lack) (λ told. c.in-Ok.ensures.end c.if-more.false told),
      c.in-Ok.ensures.ok,
    )
