use Rattle.std.proofs.Common.{◌≡◌, ◌<◌, ◌≤◌, ◌∙◌, ◌+◌, true, ap, sym, subst, refl, inl, inr, Some, length, arith}
use Rattle.std.specs.Option.{option_copied}
use Rattle.std.specs.List.{slice_get, flat_map}
use Rattle.std.proofs.lemmas.List.Elements.{All-weaker}
use Rattle.std.proofs.lemmas.Option.{slice_get-get_or}
use Rattle.pfr_ruleset.specs.Places.{ArePlaced}
use Rattle.pfr_rules.specs.Filter.{anchored, asked_at, ruled, matched, rooms_in, hits, passes, begun}
use Rattle.pfr_rules.specs.Stretches.{next_first}
use Rattle.pfr_rules.proofs.AskedLemmas.{followed_by_on}
use Rattle.pfr_rules.proofs.RoomLemmas.{asked_on, asked_behind, asked_for, hit_over, stricter}
use Rattle.pfr_rules.proofs.Stops.{stop_is}
use Rattle.pfr_rules.proofs.Stretches.{first_within, jump_open, visit_behind}
use Rattle.pfr_rules.proofs.Walking.{so_past, so_next, jump, ended_at, ended_all, ended_decides, ended_visits, begun_some, placed_at, nested_of}
use Rattle.pfr_rules.proofs.walk.walk.Goals as goal

pub loop-place-preserved-then-anchor-place : goal.loop-place-preserved-then-anchor-place
loop-place-preserved-then-anchor-place g c =
    let is : begun (slice_get c.anchors-anchors.result.now c.loop-place.next) c.loop-place.place ≡ Some c.in-Some.anchor.now = sym c.begun.ensures ∙ ap option_copied c.in-Some.is in
    let found = begun_some _ _ _ is in
    let at : slice_get c.args.flat.now.filter.anchors c.loop-place.next ≡ Some c.in-Some.anchor.now = rw (← c.anchors-anchors.ensures.value) found.0 in record {
      so = so_past (anchored c.args.flat.now c.args.name.now c.args.packet.now c.args.direction) (matched c.args.flat.now (rooms_in (g.R.RuleRoom.seen c.args.rooms.now)) c.args.name.now c.args.packet.now c.args.direction) c.args.flat.now.filter c.loop-place.place c.loop-place.next c.loop-place.decided c.loop-place.visits c.in-Some.anchor.now c.loop-place.invariant.so at (inl c.if-anchor-place.true);
      followed = c.loop-place.invariant.followed;
      seen = c.loop-place.invariant.seen;
      asked = c.loop-place.invariant.asked;
      kept = c.loop-place.invariant.kept;
    }

pub loop-place-preserved-then-anchor_is : goal.loop-place-preserved-then-anchor_is
loop-place-preserved-then-anchor_is g c =
    let is : begun (slice_get c.anchors-anchors.result.now c.loop-place.next) c.loop-place.place ≡ Some c.in-Some.anchor.now = sym c.begun.ensures ∙ ap option_copied c.in-Some.is in
    let found = begun_some _ _ _ is in
    let at : slice_get c.args.flat.now.filter.anchors c.loop-place.next ≡ Some c.in-Some.anchor.now = rw (← c.anchors-anchors.ensures.value) found.0 in record {
      so = so_past (anchored c.args.flat.now c.args.name.now c.args.packet.now c.args.direction) (matched c.args.flat.now (rooms_in (g.R.RuleRoom.seen c.args.rooms.now)) c.args.name.now c.args.packet.now c.args.direction) c.args.flat.now.filter c.loop-place.place c.loop-place.next c.loop-place.decided c.loop-place.visits c.in-Some.anchor.now c.loop-place.invariant.so at (inr (sym c.anchor_is.ensures ∙ c.if-anchor_is.true));
      followed = c.loop-place.invariant.followed;
      seen = c.loop-place.invariant.seen;
      asked = c.loop-place.invariant.asked;
      kept = c.loop-place.invariant.kept;
    }

pub ends_at-requires : goal.ends_at-requires
ends_at-requires g c =
    let is : begun (slice_get c.anchors-anchors.result.now c.loop-place.next) c.loop-place.place ≡ Some c.in-Some.anchor.now = sym c.begun.ensures ∙ ap option_copied c.in-Some.is in
    let found = begun_some _ _ _ is in
    let at : slice_get c.args.flat.now.filter.anchors c.loop-place.next ≡ Some c.in-Some.anchor.now = rw (← c.anchors-anchors.ensures.value) found.0 in
    let placed : ArePlaced c.args.flat.now.filter.rules c.args.flat.now.filter.anchors = subst (λ anchors. ArePlaced c.args.flat.now.filter.rules anchors) c.anchors-anchors.ensures.value c.anchors-anchors.ensures.placed in
    let within = placed_at c.args.flat.now.filter.rules c.args.flat.now.filter.anchors c.loop-place.next c.in-Some.anchor.now placed at in
    let size = c.openings-openings.ensures.size in
    omega (arith, size, within.1)

pub behind-place-requires : goal.behind-place-requires
behind-place-requires g c =
    let is : begun (slice_get c.anchors-anchors.result.now c.loop-place.next) c.loop-place.place ≡ Some c.in-Some.anchor.now = sym c.begun.ensures ∙ ap option_copied c.in-Some.is in
    let found = begun_some _ _ _ is in
    let at : slice_get c.args.flat.now.filter.anchors c.loop-place.next ≡ Some c.in-Some.anchor.now = rw (← c.anchors-anchors.ensures.value) found.0 in
    let placed : ArePlaced c.args.flat.now.filter.rules c.args.flat.now.filter.anchors = subst (λ anchors. ArePlaced c.args.flat.now.filter.rules anchors) c.anchors-anchors.ensures.value c.anchors-anchors.ensures.placed in
    let within = placed_at c.args.flat.now.filter.rules c.args.flat.now.filter.anchors c.loop-place.next c.in-Some.anchor.now placed at in
    let size = c.openings-openings.ensures.size in
    omega (arith, size, within.1)

pub returns-then-ends_at-clause-decided : goal.returns-then-ends_at-clause-decided
returns-then-ends_at-clause-decided g c =
    let is : begun (slice_get c.anchors-anchors.result.now c.loop-place.next) c.loop-place.place ≡ Some c.in-Some.anchor.now = sym c.begun.ensures ∙ ap option_copied c.in-Some.is in
    let found = begun_some _ _ _ is in
    let at : slice_get c.args.flat.now.filter.anchors c.loop-place.next ≡ Some c.in-Some.anchor.now = rw (← c.anchors-anchors.ensures.value) found.0 in
    let placed : ArePlaced c.args.flat.now.filter.rules c.args.flat.now.filter.anchors = subst (λ anchors. ArePlaced c.args.flat.now.filter.rules anchors) c.anchors-anchors.ensures.value c.anchors-anchors.ensures.placed in
    let within = placed_at c.args.flat.now.filter.rules c.args.flat.now.filter.anchors c.loop-place.next c.in-Some.anchor.now placed at in
    let v = jump (anchored c.args.flat.now c.args.name.now c.args.packet.now c.args.direction) (matched c.args.flat.now (rooms_in (g.R.RuleRoom.seen c.args.rooms.now)) c.args.name.now c.args.packet.now c.args.direction) c.args.flat.now.filter c.loop-place.place c.loop-place.next c.loop-place.decided c.loop-place.visits c.in-Some.anchor.now c.loop-place.invariant.so (nested_of c.args.flat.now.filter.rules c.args.flat.now.filter.anchors placed) at found.1 c.if-anchor-place.false (sym c.anchor_is.ensures ∙ c.if-anchor_is.false) within.1 in
    let stop = stop_is (hits (anchored c.args.flat.now c.args.name.now c.args.packet.now c.args.direction) (matched c.args.flat.now (rooms_in (g.R.RuleRoom.seen c.args.rooms.now)) c.args.name.now c.args.packet.now c.args.direction) c.args.flat.now.filter) c.args.flat.now.filter c.openings-openings.result.now c.in-Some.anchor.now.last c.loop-place.decided c.openings-openings.ensures within.1 c.ends_at.ensures.small v.decides in
    let e = ended_at (anchored c.args.flat.now c.args.name.now c.args.packet.now c.args.direction) (matched c.args.flat.now (rooms_in (g.R.RuleRoom.seen c.args.rooms.now)) c.args.name.now c.args.packet.now c.args.direction) c.args.flat.now.filter c.in-Some.anchor.now.last (c.loop-place.next + 1) c.loop-place.decided c.loop-place.visits v (sym stop ∙ sym c.ends_at.ensures.value ∙ c.if-ends_at.true) in
    ended_decides c.args.flat.now (rooms_in (g.R.RuleRoom.seen c.args.rooms.now)) c.args.name.now c.args.packet.now c.args.direction c.loop-place.decided c.loop-place.visits e

pub returns-then-ends_at-clause-visits : goal.returns-then-ends_at-clause-visits
returns-then-ends_at-clause-visits g c =
    let is : begun (slice_get c.anchors-anchors.result.now c.loop-place.next) c.loop-place.place ≡ Some c.in-Some.anchor.now = sym c.begun.ensures ∙ ap option_copied c.in-Some.is in
    let found = begun_some _ _ _ is in
    let at : slice_get c.args.flat.now.filter.anchors c.loop-place.next ≡ Some c.in-Some.anchor.now = rw (← c.anchors-anchors.ensures.value) found.0 in
    let placed : ArePlaced c.args.flat.now.filter.rules c.args.flat.now.filter.anchors = subst (λ anchors. ArePlaced c.args.flat.now.filter.rules anchors) c.anchors-anchors.ensures.value c.anchors-anchors.ensures.placed in
    let within = placed_at c.args.flat.now.filter.rules c.args.flat.now.filter.anchors c.loop-place.next c.in-Some.anchor.now placed at in
    let v = jump (anchored c.args.flat.now c.args.name.now c.args.packet.now c.args.direction) (matched c.args.flat.now (rooms_in (g.R.RuleRoom.seen c.args.rooms.now)) c.args.name.now c.args.packet.now c.args.direction) c.args.flat.now.filter c.loop-place.place c.loop-place.next c.loop-place.decided c.loop-place.visits c.in-Some.anchor.now c.loop-place.invariant.so (nested_of c.args.flat.now.filter.rules c.args.flat.now.filter.anchors placed) at found.1 c.if-anchor-place.false (sym c.anchor_is.ensures ∙ c.if-anchor_is.false) within.1 in
    let stop = stop_is (hits (anchored c.args.flat.now c.args.name.now c.args.packet.now c.args.direction) (matched c.args.flat.now (rooms_in (g.R.RuleRoom.seen c.args.rooms.now)) c.args.name.now c.args.packet.now c.args.direction) c.args.flat.now.filter) c.args.flat.now.filter c.openings-openings.result.now c.in-Some.anchor.now.last c.loop-place.decided c.openings-openings.ensures within.1 c.ends_at.ensures.small v.decides in
    let e = ended_at (anchored c.args.flat.now c.args.name.now c.args.packet.now c.args.direction) (matched c.args.flat.now (rooms_in (g.R.RuleRoom.seen c.args.rooms.now)) c.args.name.now c.args.packet.now c.args.direction) c.args.flat.now.filter c.in-Some.anchor.now.last (c.loop-place.next + 1) c.loop-place.decided c.loop-place.visits v (sym stop ∙ sym c.ends_at.ensures.value ∙ c.if-ends_at.true) in
    ended_visits c.args.flat.now (rooms_in (g.R.RuleRoom.seen c.args.rooms.now)) c.args.name.now c.args.packet.now c.args.direction c.loop-place.decided c.loop-place.visits e

pub returns-then-ends_at-clause-asked : goal.returns-then-ends_at-clause-asked
returns-then-ends_at-clause-asked g c =
    let is : begun (slice_get c.anchors-anchors.result.now c.loop-place.next) c.loop-place.place ≡ Some c.in-Some.anchor.now = sym c.begun.ensures ∙ ap option_copied c.in-Some.is in
    let found = begun_some _ _ _ is in
    let at : slice_get c.args.flat.now.filter.anchors c.loop-place.next ≡ Some c.in-Some.anchor.now = rw (← c.anchors-anchors.ensures.value) found.0 in
    let placed : ArePlaced c.args.flat.now.filter.rules c.args.flat.now.filter.anchors = subst (λ anchors. ArePlaced c.args.flat.now.filter.rules anchors) c.anchors-anchors.ensures.value c.anchors-anchors.ensures.placed in
    let within = placed_at c.args.flat.now.filter.rules c.args.flat.now.filter.anchors c.loop-place.next c.in-Some.anchor.now placed at in
    let v = jump (anchored c.args.flat.now c.args.name.now c.args.packet.now c.args.direction) (matched c.args.flat.now (rooms_in (g.R.RuleRoom.seen c.args.rooms.now)) c.args.name.now c.args.packet.now c.args.direction) c.args.flat.now.filter c.loop-place.place c.loop-place.next c.loop-place.decided c.loop-place.visits c.in-Some.anchor.now c.loop-place.invariant.so (nested_of c.args.flat.now.filter.rules c.args.flat.now.filter.anchors placed) at found.1 c.if-anchor-place.false (sym c.anchor_is.ensures ∙ c.if-anchor_is.false) within.1 in
    let stop = stop_is (hits (anchored c.args.flat.now c.args.name.now c.args.packet.now c.args.direction) (matched c.args.flat.now (rooms_in (g.R.RuleRoom.seen c.args.rooms.now)) c.args.name.now c.args.packet.now c.args.direction) c.args.flat.now.filter) c.args.flat.now.filter c.openings-openings.result.now c.in-Some.anchor.now.last c.loop-place.decided c.openings-openings.ensures within.1 c.ends_at.ensures.small v.decides in
    let e = ended_at (anchored c.args.flat.now c.args.name.now c.args.packet.now c.args.direction) (matched c.args.flat.now (rooms_in (g.R.RuleRoom.seen c.args.rooms.now)) c.args.name.now c.args.packet.now c.args.direction) c.args.flat.now.filter c.in-Some.anchor.now.last (c.loop-place.next + 1) c.loop-place.decided c.loop-place.visits v (sym stop ∙ sym c.ends_at.ensures.value ∙ c.if-ends_at.true) in
    asked_for c.args.flat.now (rooms_in (g.R.RuleRoom.seen c.args.rooms.now)) c.args.name.now c.args.packet.now c.args.direction c.loop-place.visits (g.R.RuleRoom.asked c.loop-place.rooms) (ended_visits c.args.flat.now (rooms_in (g.R.RuleRoom.seen c.args.rooms.now)) c.args.name.now c.args.packet.now c.args.direction c.loop-place.decided c.loop-place.visits e) c.loop-place.invariant.asked

pub returns-then-ends_at-clause-within : goal.returns-then-ends_at-clause-within
returns-then-ends_at-clause-within g c =
    let is : begun (slice_get c.anchors-anchors.result.now c.loop-place.next) c.loop-place.place ≡ Some c.in-Some.anchor.now = sym c.begun.ensures ∙ ap option_copied c.in-Some.is in
    let found = begun_some _ _ _ is in
    let at : slice_get c.args.flat.now.filter.anchors c.loop-place.next ≡ Some c.in-Some.anchor.now = rw (← c.anchors-anchors.ensures.value) found.0 in
    let placed : ArePlaced c.args.flat.now.filter.rules c.args.flat.now.filter.anchors = subst (λ anchors. ArePlaced c.args.flat.now.filter.rules anchors) c.anchors-anchors.ensures.value c.anchors-anchors.ensures.placed in
    let within = placed_at c.args.flat.now.filter.rules c.args.flat.now.filter.anchors c.loop-place.next c.in-Some.anchor.now placed at in
    let v = jump (anchored c.args.flat.now c.args.name.now c.args.packet.now c.args.direction) (matched c.args.flat.now (rooms_in (g.R.RuleRoom.seen c.args.rooms.now)) c.args.name.now c.args.packet.now c.args.direction) c.args.flat.now.filter c.loop-place.place c.loop-place.next c.loop-place.decided c.loop-place.visits c.in-Some.anchor.now c.loop-place.invariant.so (nested_of c.args.flat.now.filter.rules c.args.flat.now.filter.anchors placed) at found.1 c.if-anchor-place.false (sym c.anchor_is.ensures ∙ c.if-anchor_is.false) within.1 in
    let stop = stop_is (hits (anchored c.args.flat.now c.args.name.now c.args.packet.now c.args.direction) (matched c.args.flat.now (rooms_in (g.R.RuleRoom.seen c.args.rooms.now)) c.args.name.now c.args.packet.now c.args.direction) c.args.flat.now.filter) c.args.flat.now.filter c.openings-openings.result.now c.in-Some.anchor.now.last c.loop-place.decided c.openings-openings.ensures within.1 c.ends_at.ensures.small v.decides in
    let e = ended_at (anchored c.args.flat.now c.args.name.now c.args.packet.now c.args.direction) (matched c.args.flat.now (rooms_in (g.R.RuleRoom.seen c.args.rooms.now)) c.args.name.now c.args.packet.now c.args.direction) c.args.flat.now.filter c.in-Some.anchor.now.last (c.loop-place.next + 1) c.loop-place.decided c.loop-place.visits v (sym stop ∙ sym c.ends_at.ensures.value ∙ c.if-ends_at.true) in
    e.within

pub loop-place-preserved-in-Some : goal.loop-place-preserved-in-Some
loop-place-preserved-in-Some g c =
    let is : begun (slice_get c.anchors-anchors.result.now c.loop-place.next) c.loop-place.place ≡ Some c.in-Some.anchor.now = sym c.begun.ensures ∙ ap option_copied c.in-Some.is in
    let found = begun_some _ _ _ is in
    let at : slice_get c.args.flat.now.filter.anchors c.loop-place.next ≡ Some c.in-Some.anchor.now = rw (← c.anchors-anchors.ensures.value) found.0 in
    let placed : ArePlaced c.args.flat.now.filter.rules c.args.flat.now.filter.anchors = subst (λ anchors. ArePlaced c.args.flat.now.filter.rules anchors) c.anchors-anchors.ensures.value c.anchors-anchors.ensures.placed in
    let within = placed_at c.args.flat.now.filter.rules c.args.flat.now.filter.anchors c.loop-place.next c.in-Some.anchor.now placed at in
    let v = jump (anchored c.args.flat.now c.args.name.now c.args.packet.now c.args.direction) (matched c.args.flat.now (rooms_in (g.R.RuleRoom.seen c.args.rooms.now)) c.args.name.now c.args.packet.now c.args.direction) c.args.flat.now.filter c.loop-place.place c.loop-place.next c.loop-place.decided c.loop-place.visits c.in-Some.anchor.now c.loop-place.invariant.so (nested_of c.args.flat.now.filter.rules c.args.flat.now.filter.anchors placed) at found.1 c.if-anchor-place.false (sym c.anchor_is.ensures ∙ c.if-anchor_is.false) within.1 in
    let stop = stop_is (hits (anchored c.args.flat.now c.args.name.now c.args.packet.now c.args.direction) (matched c.args.flat.now (rooms_in (g.R.RuleRoom.seen c.args.rooms.now)) c.args.name.now c.args.packet.now c.args.direction) c.args.flat.now.filter) c.args.flat.now.filter c.openings-openings.result.now c.in-Some.anchor.now.last c.loop-place.decided c.openings-openings.ensures within.1 c.ends_at.ensures.small v.decides in record {
      so = rw c.behind-place.ensures (so_next (anchored c.args.flat.now c.args.name.now c.args.packet.now c.args.direction) (matched c.args.flat.now (rooms_in (g.R.RuleRoom.seen c.args.rooms.now)) c.args.name.now c.args.packet.now c.args.direction) c.args.flat.now.filter c.in-Some.anchor.now.last (c.loop-place.next + 1) c.loop-place.decided c.loop-place.visits v (sym stop ∙ sym c.ends_at.ensures.value ∙ c.if-ends_at.false));
      followed = followed_by_on (option_copied c.aids-aids.result) c.args.packet.now c.loop-place.place c.behind-place.result c.loop-place.trail (omega (arith, c.if-anchor-place.false, c.behind-place.ensures)) c.loop-place.invariant.followed;
      seen = c.loop-place.invariant.seen;
      asked = c.loop-place.invariant.asked;
      kept = c.loop-place.invariant.kept;
    }

pub loop-place-preserved-then-to-limit : goal.loop-place-preserved-then-to-limit
loop-place-preserved-then-to-limit g c =
    let placed : ArePlaced c.args.flat.now.filter.rules c.args.flat.now.filter.anchors = subst (λ anchors. ArePlaced c.args.flat.now.filter.rules anchors) c.anchors-anchors.ensures.value c.anchors-anchors.ensures.placed in
    let next : slice_get c.args.flat.now.filter.anchors c.loop-place.next ≡ slice_get c.anchors-anchors.result.now c.loop-place.next = rw c.anchors-anchors.ensures.value refl in
    let limit : c.next_first-limit.result ≡ next_first (slice_get c.anchors-anchors.result.now c.loop-place.next) (length c.args.flat.now.filter.rules) = c.next_first-limit.ensures ∙ ap (λ rules. next_first (slice_get c.anchors-anchors.result.now c.loop-place.next) (length rules)) c.rules-rules.ensures in
    let upto = subst (λ end. c.stretch-to.result.to ≤ end) limit c.stretch-to.ensures.within in record {
      so = rw c.in_ok-push_run.ensures.pushed (jump_open (anchored c.args.flat.now c.args.name.now c.args.packet.now c.args.direction) (ruled c.args.flat.now c.args.name.now c.args.packet.now c.args.direction) (matched c.args.flat.now (rooms_in (g.R.RuleRoom.seen c.args.rooms.now)) c.args.name.now c.args.packet.now c.args.direction) (λ q. stricter c.args.flat.now (rooms_in (g.R.RuleRoom.seen c.args.rooms.now)) c.args.name.now c.args.packet.now c.args.direction q) c.args.flat.now.filter c.openings-openings.result.now c.loop-place.place c.loop-place.next c.stretch-to.result.to c.loop-place.decided c.loop-place.visits (slice_get c.anchors-anchors.result.now c.loop-place.next) c.loop-place.invariant.so placed c.openings-openings.ensures next c.stretch-to.ensures.from upto (omega arith) c.stretch-to.ensures.fails c.stretch-to.ensures.stops);
      followed = c.stretch-to.ensures.followed;
      seen = c.loop-place.invariant.seen;
      asked = rw c.in_ok-push_run.ensures.pushed (asked_on c.args.flat.now c.args.name.now c.args.packet.now c.args.direction c.loop-place.place c.stretch-to.result.to c.loop-place.visits (g.R.RuleRoom.asked c.loop-place.rooms) c.stretch-to.ensures.from c.stretch-to.ensures.fails c.loop-place.invariant.asked);
      kept = c.loop-place.invariant.kept;
    }

pub is_match-requires : goal.is_match-requires
is_match-requires g c =
    let limit : c.next_first-limit.result ≡ next_first (slice_get c.anchors-anchors.result.now c.loop-place.next) (length c.args.flat.now.filter.rules) = c.next_first-limit.ensures ∙ ap (λ rules. next_first (slice_get c.anchors-anchors.result.now c.loop-place.next) (length rules)) c.rules-rules.ensures in
    let less = subst (λ end. c.stretch-to.result.to < end) limit c.if-to-limit.false in
    let rule = slice_get-get_or c.rules-rules.result.now c.stretch-to.result.to _ (let first = first_within (slice_get c.anchors-anchors.result.now c.loop-place.next) (length c.args.flat.now.filter.rules) in rw c.rules-rules.ensures (omega (arith, less, first))) in
    record {
      known = λ known.
          let held = c.stretch-to.ensures.hits known in
          let passed : passes (ruled c.args.flat.now c.args.name.now c.args.packet.now c.args.direction) (slice_get c.rules-rules.result.now c.stretch-to.result.to) ≡ true = rw c.rules-rules.ensures held.1 in
          subst (λ found. passes (ruled c.args.flat.now c.args.name.now c.args.packet.now c.args.direction) found ≡ true) rule passed;
    }

pub returns-then-ends_at-2-clause-decided : goal.returns-then-ends_at-2-clause-decided
returns-then-ends_at-2-clause-decided g c =
    let placed : ArePlaced c.args.flat.now.filter.rules c.args.flat.now.filter.anchors = subst (λ anchors. ArePlaced c.args.flat.now.filter.rules anchors) c.anchors-anchors.ensures.value c.anchors-anchors.ensures.placed in
    let next : slice_get c.args.flat.now.filter.anchors c.loop-place.next ≡ slice_get c.anchors-anchors.result.now c.loop-place.next = rw c.anchors-anchors.ensures.value refl in
    let limit : c.next_first-limit.result ≡ next_first (slice_get c.anchors-anchors.result.now c.loop-place.next) (length c.args.flat.now.filter.rules) = c.next_first-limit.ensures ∙ ap (λ rules. next_first (slice_get c.anchors-anchors.result.now c.loop-place.next) (length rules)) c.rules-rules.ensures in
    let upto = subst (λ end. c.stretch-to.result.to ≤ end) limit c.stretch-to.ensures.within in
    let less = subst (λ end. c.stretch-to.result.to < end) limit c.if-to-limit.false in
    let rule = slice_get-get_or c.rules-rules.result.now c.stretch-to.result.to _ (let first = first_within (slice_get c.anchors-anchors.result.now c.loop-place.next) (length c.args.flat.now.filter.rules) in rw c.rules-rules.ensures (omega (arith, less, first))) in
    let v = visit_behind (anchored c.args.flat.now c.args.name.now c.args.packet.now c.args.direction) (ruled c.args.flat.now c.args.name.now c.args.packet.now c.args.direction) (matched c.args.flat.now (rooms_in (g.R.RuleRoom.seen c.args.rooms.now)) c.args.name.now c.args.packet.now c.args.direction) (λ q. stricter c.args.flat.now (rooms_in (g.R.RuleRoom.seen c.args.rooms.now)) c.args.name.now c.args.packet.now c.args.direction q) c.args.flat.now.filter c.openings-openings.result.now c.loop-place.place c.loop-place.next c.stretch-to.result.to c.loop-place.decided c.loop-place.visits (slice_get c.anchors-anchors.result.now c.loop-place.next) c.loop-place.invariant.so placed c.openings-openings.ensures next c.stretch-to.ensures.from upto (let small = c.ends_at-in-loop-place.ensures.small in omega (arith, small)) c.stretch-to.ensures.fails c.stretch-to.ensures.stops c.with_hit-decided.result c.push_run-in-loop-place.new.self _ c.in_ok-is_hit.is_hit less (rw (← c.rules-rules.ensures) rule) (hit_over c.args.flat.now _ _ c.args.name.now c.args.packet.now c.args.direction c.stretch-to.result.to _ c.in_ok-is_hit.is_hit c.loop-place.invariant.seen c.in_ok-is_hit.ensures.answer) c.with_hit-decided.ensures c.in_ok-push_run-2.ensures.pushed in
    let stop = stop_is (hits (anchored c.args.flat.now c.args.name.now c.args.packet.now c.args.direction) (matched c.args.flat.now (rooms_in (g.R.RuleRoom.seen c.args.rooms.now)) c.args.name.now c.args.packet.now c.args.direction) c.args.flat.now.filter) c.args.flat.now.filter c.openings-openings.result.now c.stretch-to.result.to c.with_hit-decided.result c.openings-openings.ensures v.within c.ends_at-in-loop-place.ensures.small v.decides in
    let e = ended_at (anchored c.args.flat.now c.args.name.now c.args.packet.now c.args.direction) (matched c.args.flat.now (rooms_in (g.R.RuleRoom.seen c.args.rooms.now)) c.args.name.now c.args.packet.now c.args.direction) c.args.flat.now.filter c.stretch-to.result.to c.loop-place.next c.with_hit-decided.result c.push_run-in-loop-place.new.self v (sym stop ∙ sym c.ends_at-in-loop-place.ensures.value ∙ c.if-ends_at-2.true) in
    ended_decides c.args.flat.now (rooms_in (g.R.RuleRoom.seen c.args.rooms.now)) c.args.name.now c.args.packet.now c.args.direction c.with_hit-decided.result c.push_run-in-loop-place.new.self e

pub returns-then-ends_at-2-clause-visits : goal.returns-then-ends_at-2-clause-visits
returns-then-ends_at-2-clause-visits g c =
    let placed : ArePlaced c.args.flat.now.filter.rules c.args.flat.now.filter.anchors = subst (λ anchors. ArePlaced c.args.flat.now.filter.rules anchors) c.anchors-anchors.ensures.value c.anchors-anchors.ensures.placed in
    let next : slice_get c.args.flat.now.filter.anchors c.loop-place.next ≡ slice_get c.anchors-anchors.result.now c.loop-place.next = rw c.anchors-anchors.ensures.value refl in
    let limit : c.next_first-limit.result ≡ next_first (slice_get c.anchors-anchors.result.now c.loop-place.next) (length c.args.flat.now.filter.rules) = c.next_first-limit.ensures ∙ ap (λ rules. next_first (slice_get c.anchors-anchors.result.now c.loop-place.next) (length rules)) c.rules-rules.ensures in
    let upto = subst (λ end. c.stretch-to.result.to ≤ end) limit c.stretch-to.ensures.within in
    let less = subst (λ end. c.stretch-to.result.to < end) limit c.if-to-limit.false in
    let rule = slice_get-get_or c.rules-rules.result.now c.stretch-to.result.to _ (let first = first_within (slice_get c.anchors-anchors.result.now c.loop-place.next) (length c.args.flat.now.filter.rules) in rw c.rules-rules.ensures (omega (arith, less, first))) in
    let v = visit_behind (anchored c.args.flat.now c.args.name.now c.args.packet.now c.args.direction) (ruled c.args.flat.now c.args.name.now c.args.packet.now c.args.direction) (matched c.args.flat.now (rooms_in (g.R.RuleRoom.seen c.args.rooms.now)) c.args.name.now c.args.packet.now c.args.direction) (λ q. stricter c.args.flat.now (rooms_in (g.R.RuleRoom.seen c.args.rooms.now)) c.args.name.now c.args.packet.now c.args.direction q) c.args.flat.now.filter c.openings-openings.result.now c.loop-place.place c.loop-place.next c.stretch-to.result.to c.loop-place.decided c.loop-place.visits (slice_get c.anchors-anchors.result.now c.loop-place.next) c.loop-place.invariant.so placed c.openings-openings.ensures next c.stretch-to.ensures.from upto (let small = c.ends_at-in-loop-place.ensures.small in omega (arith, small)) c.stretch-to.ensures.fails c.stretch-to.ensures.stops c.with_hit-decided.result c.push_run-in-loop-place.new.self _ c.in_ok-is_hit.is_hit less (rw (← c.rules-rules.ensures) rule) (hit_over c.args.flat.now _ _ c.args.name.now c.args.packet.now c.args.direction c.stretch-to.result.to _ c.in_ok-is_hit.is_hit c.loop-place.invariant.seen c.in_ok-is_hit.ensures.answer) c.with_hit-decided.ensures c.in_ok-push_run-2.ensures.pushed in
    let stop = stop_is (hits (anchored c.args.flat.now c.args.name.now c.args.packet.now c.args.direction) (matched c.args.flat.now (rooms_in (g.R.RuleRoom.seen c.args.rooms.now)) c.args.name.now c.args.packet.now c.args.direction) c.args.flat.now.filter) c.args.flat.now.filter c.openings-openings.result.now c.stretch-to.result.to c.with_hit-decided.result c.openings-openings.ensures v.within c.ends_at-in-loop-place.ensures.small v.decides in
    let e = ended_at (anchored c.args.flat.now c.args.name.now c.args.packet.now c.args.direction) (matched c.args.flat.now (rooms_in (g.R.RuleRoom.seen c.args.rooms.now)) c.args.name.now c.args.packet.now c.args.direction) c.args.flat.now.filter c.stretch-to.result.to c.loop-place.next c.with_hit-decided.result c.push_run-in-loop-place.new.self v (sym stop ∙ sym c.ends_at-in-loop-place.ensures.value ∙ c.if-ends_at-2.true) in
    ended_visits c.args.flat.now (rooms_in (g.R.RuleRoom.seen c.args.rooms.now)) c.args.name.now c.args.packet.now c.args.direction c.with_hit-decided.result c.push_run-in-loop-place.new.self e

pub returns-then-ends_at-2-clause-asked : goal.returns-then-ends_at-2-clause-asked
returns-then-ends_at-2-clause-asked g c =
    let placed : ArePlaced c.args.flat.now.filter.rules c.args.flat.now.filter.anchors = subst (λ anchors. ArePlaced c.args.flat.now.filter.rules anchors) c.anchors-anchors.ensures.value c.anchors-anchors.ensures.placed in
    let next : slice_get c.args.flat.now.filter.anchors c.loop-place.next ≡ slice_get c.anchors-anchors.result.now c.loop-place.next = rw c.anchors-anchors.ensures.value refl in
    let limit : c.next_first-limit.result ≡ next_first (slice_get c.anchors-anchors.result.now c.loop-place.next) (length c.args.flat.now.filter.rules) = c.next_first-limit.ensures ∙ ap (λ rules. next_first (slice_get c.anchors-anchors.result.now c.loop-place.next) (length rules)) c.rules-rules.ensures in
    let upto = subst (λ end. c.stretch-to.result.to ≤ end) limit c.stretch-to.ensures.within in
    let less = subst (λ end. c.stretch-to.result.to < end) limit c.if-to-limit.false in
    let rule = slice_get-get_or c.rules-rules.result.now c.stretch-to.result.to _ (let first = first_within (slice_get c.anchors-anchors.result.now c.loop-place.next) (length c.args.flat.now.filter.rules) in rw c.rules-rules.ensures (omega (arith, less, first))) in
    let v = visit_behind (anchored c.args.flat.now c.args.name.now c.args.packet.now c.args.direction) (ruled c.args.flat.now c.args.name.now c.args.packet.now c.args.direction) (matched c.args.flat.now (rooms_in (g.R.RuleRoom.seen c.args.rooms.now)) c.args.name.now c.args.packet.now c.args.direction) (λ q. stricter c.args.flat.now (rooms_in (g.R.RuleRoom.seen c.args.rooms.now)) c.args.name.now c.args.packet.now c.args.direction q) c.args.flat.now.filter c.openings-openings.result.now c.loop-place.place c.loop-place.next c.stretch-to.result.to c.loop-place.decided c.loop-place.visits (slice_get c.anchors-anchors.result.now c.loop-place.next) c.loop-place.invariant.so placed c.openings-openings.ensures next c.stretch-to.ensures.from upto (let small = c.ends_at-in-loop-place.ensures.small in omega (arith, small)) c.stretch-to.ensures.fails c.stretch-to.ensures.stops c.with_hit-decided.result c.push_run-in-loop-place.new.self _ c.in_ok-is_hit.is_hit less (rw (← c.rules-rules.ensures) rule) (hit_over c.args.flat.now _ _ c.args.name.now c.args.packet.now c.args.direction c.stretch-to.result.to _ c.in_ok-is_hit.is_hit c.loop-place.invariant.seen c.in_ok-is_hit.ensures.answer) c.with_hit-decided.ensures c.in_ok-push_run-2.ensures.pushed in
    let stop = stop_is (hits (anchored c.args.flat.now c.args.name.now c.args.packet.now c.args.direction) (matched c.args.flat.now (rooms_in (g.R.RuleRoom.seen c.args.rooms.now)) c.args.name.now c.args.packet.now c.args.direction) c.args.flat.now.filter) c.args.flat.now.filter c.openings-openings.result.now c.stretch-to.result.to c.with_hit-decided.result c.openings-openings.ensures v.within c.ends_at-in-loop-place.ensures.small v.decides in
    let e = ended_at (anchored c.args.flat.now c.args.name.now c.args.packet.now c.args.direction) (matched c.args.flat.now (rooms_in (g.R.RuleRoom.seen c.args.rooms.now)) c.args.name.now c.args.packet.now c.args.direction) c.args.flat.now.filter c.stretch-to.result.to c.loop-place.next c.with_hit-decided.result c.push_run-in-loop-place.new.self v (sym stop ∙ sym c.ends_at-in-loop-place.ensures.value ∙ c.if-ends_at-2.true) in
    asked_for c.args.flat.now (rooms_in (g.R.RuleRoom.seen c.args.rooms.now)) c.args.name.now c.args.packet.now c.args.direction c.push_run-in-loop-place.new.self (g.R.RuleRoom.asked c.is_match.new.rooms) (ended_visits c.args.flat.now (rooms_in (g.R.RuleRoom.seen c.args.rooms.now)) c.args.name.now c.args.packet.now c.args.direction c.with_hit-decided.result c.push_run-in-loop-place.new.self e) (asked_behind c.args.flat.now c.args.name.now c.args.packet.now c.args.direction c.loop-place.place c.stretch-to.result.to c.loop-place.visits (g.R.RuleRoom.asked c.is_match.new.rooms) c.stretch-to.ensures.from c.stretch-to.ensures.fails (All-weaker (g.R.RuleRoom.asked c.loop-place.rooms) (g.R.RuleRoom.asked c.is_match.new.rooms) c.is_match.ensures.kept (flat_map (asked_at c.args.flat.now c.args.name.now c.args.packet.now c.args.direction) c.loop-place.visits) c.loop-place.invariant.asked) c.push_run-in-loop-place.new.self _ (rw (← c.rules-rules.ensures) rule) c.in_ok-is_hit.ensures.asked c.in_ok-push_run-2.ensures.pushed)

pub returns-then-ends_at-2-clause-within : goal.returns-then-ends_at-2-clause-within
returns-then-ends_at-2-clause-within g c =
    let placed : ArePlaced c.args.flat.now.filter.rules c.args.flat.now.filter.anchors = subst (λ anchors. ArePlaced c.args.flat.now.filter.rules anchors) c.anchors-anchors.ensures.value c.anchors-anchors.ensures.placed in
    let next : slice_get c.args.flat.now.filter.anchors c.loop-place.next ≡ slice_get c.anchors-anchors.result.now c.loop-place.next = rw c.anchors-anchors.ensures.value refl in
    let limit : c.next_first-limit.result ≡ next_first (slice_get c.anchors-anchors.result.now c.loop-place.next) (length c.args.flat.now.filter.rules) = c.next_first-limit.ensures ∙ ap (λ rules. next_first (slice_get c.anchors-anchors.result.now c.loop-place.next) (length rules)) c.rules-rules.ensures in
    let upto = subst (λ end. c.stretch-to.result.to ≤ end) limit c.stretch-to.ensures.within in
    let less = subst (λ end. c.stretch-to.result.to < end) limit c.if-to-limit.false in
    let rule = slice_get-get_or c.rules-rules.result.now c.stretch-to.result.to _ (let first = first_within (slice_get c.anchors-anchors.result.now c.loop-place.next) (length c.args.flat.now.filter.rules) in rw c.rules-rules.ensures (omega (arith, less, first))) in
    let v = visit_behind (anchored c.args.flat.now c.args.name.now c.args.packet.now c.args.direction) (ruled c.args.flat.now c.args.name.now c.args.packet.now c.args.direction) (matched c.args.flat.now (rooms_in (g.R.RuleRoom.seen c.args.rooms.now)) c.args.name.now c.args.packet.now c.args.direction) (λ q. stricter c.args.flat.now (rooms_in (g.R.RuleRoom.seen c.args.rooms.now)) c.args.name.now c.args.packet.now c.args.direction q) c.args.flat.now.filter c.openings-openings.result.now c.loop-place.place c.loop-place.next c.stretch-to.result.to c.loop-place.decided c.loop-place.visits (slice_get c.anchors-anchors.result.now c.loop-place.next) c.loop-place.invariant.so placed c.openings-openings.ensures next c.stretch-to.ensures.from upto (let small = c.ends_at-in-loop-place.ensures.small in omega (arith, small)) c.stretch-to.ensures.fails c.stretch-to.ensures.stops c.with_hit-decided.result c.push_run-in-loop-place.new.self _ c.in_ok-is_hit.is_hit less (rw (← c.rules-rules.ensures) rule) (hit_over c.args.flat.now _ _ c.args.name.now c.args.packet.now c.args.direction c.stretch-to.result.to _ c.in_ok-is_hit.is_hit c.loop-place.invariant.seen c.in_ok-is_hit.ensures.answer) c.with_hit-decided.ensures c.in_ok-push_run-2.ensures.pushed in
    let stop = stop_is (hits (anchored c.args.flat.now c.args.name.now c.args.packet.now c.args.direction) (matched c.args.flat.now (rooms_in (g.R.RuleRoom.seen c.args.rooms.now)) c.args.name.now c.args.packet.now c.args.direction) c.args.flat.now.filter) c.args.flat.now.filter c.openings-openings.result.now c.stretch-to.result.to c.with_hit-decided.result c.openings-openings.ensures v.within c.ends_at-in-loop-place.ensures.small v.decides in
    let e = ended_at (anchored c.args.flat.now c.args.name.now c.args.packet.now c.args.direction) (matched c.args.flat.now (rooms_in (g.R.RuleRoom.seen c.args.rooms.now)) c.args.name.now c.args.packet.now c.args.direction) c.args.flat.now.filter c.stretch-to.result.to c.loop-place.next c.with_hit-decided.result c.push_run-in-loop-place.new.self v (sym stop ∙ sym c.ends_at-in-loop-place.ensures.value ∙ c.if-ends_at-2.true) in
    e.within

pub loop-place-preserved : goal.loop-place-preserved
loop-place-preserved g c =
    let placed : ArePlaced c.args.flat.now.filter.rules c.args.flat.now.filter.anchors = subst (λ anchors. ArePlaced c.args.flat.now.filter.rules anchors) c.anchors-anchors.ensures.value c.anchors-anchors.ensures.placed in
    let next : slice_get c.args.flat.now.filter.anchors c.loop-place.next ≡ slice_get c.anchors-anchors.result.now c.loop-place.next = rw c.anchors-anchors.ensures.value refl in
    let limit : c.next_first-limit.result ≡ next_first (slice_get c.anchors-anchors.result.now c.loop-place.next) (length c.args.flat.now.filter.rules) = c.next_first-limit.ensures ∙ ap (λ rules. next_first (slice_get c.anchors-anchors.result.now c.loop-place.next) (length rules)) c.rules-rules.ensures in
    let upto = subst (λ end. c.stretch-to.result.to ≤ end) limit c.stretch-to.ensures.within in
    let less = subst (λ end. c.stretch-to.result.to < end) limit c.if-to-limit.false in
    let rule = slice_get-get_or c.rules-rules.result.now c.stretch-to.result.to _ (let first = first_within (slice_get c.anchors-anchors.result.now c.loop-place.next) (length c.args.flat.now.filter.rules) in rw c.rules-rules.ensures (omega (arith, less, first))) in
    let v = visit_behind (anchored c.args.flat.now c.args.name.now c.args.packet.now c.args.direction) (ruled c.args.flat.now c.args.name.now c.args.packet.now c.args.direction) (matched c.args.flat.now (rooms_in (g.R.RuleRoom.seen c.args.rooms.now)) c.args.name.now c.args.packet.now c.args.direction) (λ q. stricter c.args.flat.now (rooms_in (g.R.RuleRoom.seen c.args.rooms.now)) c.args.name.now c.args.packet.now c.args.direction q) c.args.flat.now.filter c.openings-openings.result.now c.loop-place.place c.loop-place.next c.stretch-to.result.to c.loop-place.decided c.loop-place.visits (slice_get c.anchors-anchors.result.now c.loop-place.next) c.loop-place.invariant.so placed c.openings-openings.ensures next c.stretch-to.ensures.from upto (let small = c.ends_at-in-loop-place.ensures.small in omega (arith, small)) c.stretch-to.ensures.fails c.stretch-to.ensures.stops c.with_hit-decided.result c.push_run-in-loop-place.new.self _ c.in_ok-is_hit.is_hit less (rw (← c.rules-rules.ensures) rule) (hit_over c.args.flat.now _ _ c.args.name.now c.args.packet.now c.args.direction c.stretch-to.result.to _ c.in_ok-is_hit.is_hit c.loop-place.invariant.seen c.in_ok-is_hit.ensures.answer) c.with_hit-decided.ensures c.in_ok-push_run-2.ensures.pushed in
    let stop = stop_is (hits (anchored c.args.flat.now c.args.name.now c.args.packet.now c.args.direction) (matched c.args.flat.now (rooms_in (g.R.RuleRoom.seen c.args.rooms.now)) c.args.name.now c.args.packet.now c.args.direction) c.args.flat.now.filter) c.args.flat.now.filter c.openings-openings.result.now c.stretch-to.result.to c.with_hit-decided.result c.openings-openings.ensures v.within c.ends_at-in-loop-place.ensures.small v.decides in record {
      so = rw c.behind-place-in-loop-place.ensures (so_next (anchored c.args.flat.now c.args.name.now c.args.packet.now c.args.direction) (matched c.args.flat.now (rooms_in (g.R.RuleRoom.seen c.args.rooms.now)) c.args.name.now c.args.packet.now c.args.direction) c.args.flat.now.filter c.stretch-to.result.to c.loop-place.next c.with_hit-decided.result c.push_run-in-loop-place.new.self v (sym stop ∙ sym c.ends_at-in-loop-place.ensures.value ∙ c.if-ends_at-2.false));
      followed = followed_by_on (option_copied c.aids-aids.result) c.args.packet.now c.stretch-to.result.to c.behind-place-in-loop-place.result c.stretch-to.new.trail (omega (arith, c.behind-place-in-loop-place.ensures)) c.stretch-to.ensures.followed;
      seen = c.is_match.ensures.seen ∙ c.loop-place.invariant.seen;
      asked = asked_behind c.args.flat.now c.args.name.now c.args.packet.now c.args.direction c.loop-place.place c.stretch-to.result.to c.loop-place.visits (g.R.RuleRoom.asked c.is_match.new.rooms) c.stretch-to.ensures.from c.stretch-to.ensures.fails (All-weaker (g.R.RuleRoom.asked c.loop-place.rooms) (g.R.RuleRoom.asked c.is_match.new.rooms) c.is_match.ensures.kept (flat_map (asked_at c.args.flat.now c.args.name.now c.args.packet.now c.args.direction) c.loop-place.visits) c.loop-place.invariant.asked) c.push_run-in-loop-place.new.self _ (rw (← c.rules-rules.ensures) rule) c.in_ok-is_hit.ensures.asked c.in_ok-push_run-2.ensures.pushed;
      kept = λ question was. c.is_match.ensures.kept question (c.loop-place.invariant.kept question was);
    }

pub returns-clause-decided : goal.returns-clause-decided
returns-clause-decided g c =
    let all : length c.args.flat.now.filter.rules ≤ c.loop-place.place = rw (← c.rules-rules.ensures) c.loop-place-test.false in
    let e = ended_all (anchored c.args.flat.now c.args.name.now c.args.packet.now c.args.direction) (matched c.args.flat.now (rooms_in (g.R.RuleRoom.seen c.args.rooms.now)) c.args.name.now c.args.packet.now c.args.direction) c.args.flat.now.filter c.loop-place.place c.loop-place.next c.loop-place.decided c.loop-place.visits c.loop-place.invariant.so all in
    ended_decides c.args.flat.now (rooms_in (g.R.RuleRoom.seen c.args.rooms.now)) c.args.name.now c.args.packet.now c.args.direction c.loop-place.decided c.loop-place.visits e

pub returns-clause-visits : goal.returns-clause-visits
returns-clause-visits g c =
    let all : length c.args.flat.now.filter.rules ≤ c.loop-place.place = rw (← c.rules-rules.ensures) c.loop-place-test.false in
    let e = ended_all (anchored c.args.flat.now c.args.name.now c.args.packet.now c.args.direction) (matched c.args.flat.now (rooms_in (g.R.RuleRoom.seen c.args.rooms.now)) c.args.name.now c.args.packet.now c.args.direction) c.args.flat.now.filter c.loop-place.place c.loop-place.next c.loop-place.decided c.loop-place.visits c.loop-place.invariant.so all in
    ended_visits c.args.flat.now (rooms_in (g.R.RuleRoom.seen c.args.rooms.now)) c.args.name.now c.args.packet.now c.args.direction c.loop-place.decided c.loop-place.visits e

pub returns-clause-asked : goal.returns-clause-asked
returns-clause-asked g c =
    let all : length c.args.flat.now.filter.rules ≤ c.loop-place.place = rw (← c.rules-rules.ensures) c.loop-place-test.false in
    let e = ended_all (anchored c.args.flat.now c.args.name.now c.args.packet.now c.args.direction) (matched c.args.flat.now (rooms_in (g.R.RuleRoom.seen c.args.rooms.now)) c.args.name.now c.args.packet.now c.args.direction) c.args.flat.now.filter c.loop-place.place c.loop-place.next c.loop-place.decided c.loop-place.visits c.loop-place.invariant.so all in
    asked_for c.args.flat.now (rooms_in (g.R.RuleRoom.seen c.args.rooms.now)) c.args.name.now c.args.packet.now c.args.direction c.loop-place.visits (g.R.RuleRoom.asked c.loop-place.rooms) (ended_visits c.args.flat.now (rooms_in (g.R.RuleRoom.seen c.args.rooms.now)) c.args.name.now c.args.packet.now c.args.direction c.loop-place.decided c.loop-place.visits e) c.loop-place.invariant.asked

pub returns-clause-within : goal.returns-clause-within
returns-clause-within g c =
    let all : length c.args.flat.now.filter.rules ≤ c.loop-place.place = rw (← c.rules-rules.ensures) c.loop-place-test.false in
    let e = ended_all (anchored c.args.flat.now c.args.name.now c.args.packet.now c.args.direction) (matched c.args.flat.now (rooms_in (g.R.RuleRoom.seen c.args.rooms.now)) c.args.name.now c.args.packet.now c.args.direction) c.args.flat.now.filter c.loop-place.place c.loop-place.next c.loop-place.decided c.loop-place.visits c.loop-place.invariant.so all in
    e.within
