-- What translation rules make of addresses and ports.
use Rattle.std.proofs.Common.{◌≡◌, ◌≤◌, ◌+◌, ◌-◌, ℕ, min, Some, IsSomeAnd, refl, ap, arith}
use Rattle.pfr_net.specs.declared.address.Ipv4Address.{Ipv4Address}
use Rattle.pfr_net.specs.declared.direction.Direction.TheVariants.{In, Out}
use Rattle.pfr_ruleset.specs.declared.flat.FlatTranslation.{FlatTranslation}
use Rattle.pfr_ruleset.specs.declared.flat.PortChange.TheVariants.{From}
use Rattle.pfr_net.specs.declared.port_match.Comparison.TheVariants.{Equal}
use Rattle.pfr_net.specs.declared.port_match.PortMatch.TheVariants.{Compare, Range}
use Rattle.pfr_net.specs.declared.port_match.RangeOperator.TheVariants.{Inclusive}
use Rattle.pfr_headers.specs.declared.packet.Packet.{Packet}
use Rattle.pfr_criteria.specs.Laws.{IsBinat}
use Rattle.pfr_rules.specs.declared.hit.NewEnd.TheVariants.{Mapped}
use Rattle.pfr_rules.specs.declared.hit.PortMapping.TheVariants.{Kept}
use Rattle.pfr_rules.specs.Translating.{binat_hit, mapped, mapping}

pub gives_back : (rule : FlatTranslation Ipv4Address) (address target : Ipv4Address) (packet answer : Packet) → IsBinat rule address target → packet.source ≡ address → IsSomeAnd (binat_hit packet Out rule) (λ hit. hit.new_end ≡ Mapped target Kept) × IsSomeAnd (binat_hit answer In rule) (λ hit. hit.new_end ≡ Mapped packet.source Kept)
gives_back rule address target packet answer is from = rw (is.to, is.from, from) (refl, refl)

pub moved : (first low high port : ℕ) → first + (high - low) ≤ 65535 → low ≤ port → port ≤ high → mapped (mapping (Some (Range Inclusive low high)) (From first)) (record { 0 = port }) ≡ record { 0 = first + (port - low) }
moved first low high port few above below =
    let uncut : min (first + (port - low)) 65535 ≡ first + (port - low) = omega arith in
    ap (λ (n : ℕ). record { 0 = n }) uncut

pub one_moved : (first port : ℕ) → first ≤ 65535 → mapped (mapping (Some (Compare Equal port)) (From first)) (record { 0 = port }) ≡ record { 0 = first }
one_moved first port few =
    let same : min (first + (port - port)) 65535 ≡ first = omega arith in
    ap (λ (n : ℕ). record { 0 = n }) same
