use Rattle.std.proofs.Common.{◌≡◌, ◌≤◌, ℕ, length, ap, subst, rules, arith}
use Rattle.std.specs.List.{slice_index_or}
use Rattle.pfr_chains.specs.Chains.{IsNext}
use Rattle.pfr_rules.proofs.CandidateLemmas.{unpinned_on}
use Rattle.pfr_rules.proofs.candidates.next_candidate.Goals as goal

pub returns : goal.returns
returns c = λ packet followed.
    let index = c.args.index.now in
    let trail = c.bring_up.new.trail in
    let up = c.bring_up.ensures packet followed in
    let last : length c.shapes-last.result.now ≡ length index.shapes = ap length c.shapes-last.ensures in
    let room : length trail.places ≡ 16 = search rules in
    let moves = subst (λ (last : ℕ). (key low : ℕ) → low ≤ c.args.from → IsNext index.chains key low (slice_index_or trail.places last 0) → IsNext index.chains key c.args.from c.behind-unpinned.result) last c.behind-unpinned.ensures in
    let found = unpinned_on index packet c.args.from up.0.low trail.pinned c.behind-unpinned.result trail.places (omega (arith, room, c.requires.few)) up.0.before up.1 up.0.within moves up.0.pinned up.0.chains in
    rw (c.min.ensures, last) found
