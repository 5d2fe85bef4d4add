-- If a rule fails at a criterion, the rules up to its skip fail there.
use Rattle.std.proofs.Common.{◌≡◌, ◌≤◌, ◌<◌, ◌&&◌, ℕ, Bool, true, false, List, map, Some, refl, ap, sym, ◌∙◌}
use Rattle.std.proofs.Math.Bool.{and-false}
use Rattle.std.specs.List.{slice_get}
use Rattle.std.specs.Option.{option_map}
use Rattle.std.proofs.lemmas.Bool.{and_parts}
use Rattle.std.proofs.lemmas.Option.{slice_get-map}
use Rattle.pfr_net.specs.declared.direction.Direction.{Direction}
use Rattle.pfr_net.specs.declared.interface.IfName.{IfName}
use Rattle.pfr_ruleset.specs.Criteria.{asked_by, asked_by_translation, SameAt, IsSkip}
use Rattle.pfr_ruleset.specs.declared.criterion.Asked.{Asked}
use Rattle.pfr_ruleset.specs.declared.criterion.Criterion.{Criterion}
use Rattle.pfr_ruleset.specs.declared.criterion.Criterion.TheVariants as criterion
use Rattle.pfr_ruleset.specs.declared.flat.FlatRule.{FlatRule}
use Rattle.pfr_ruleset.specs.declared.flat.FlatTranslation.{FlatTranslation}
use Rattle.pfr_ruleset.specs.declared.table.Entry.{Entry}
use Rattle.pfr_headers.specs.declared.packet.Packet.{Packet}
use Rattle.pfr_criteria.specs.Asking.{part_holds}
use Rattle.pfr_criteria.specs.Hosts.{host_holds}
use Rattle.pfr_criteria.specs.Packets.{direction_holds, interface_holds, protocol_holds, match_holds, rule_holds}
use Rattle.pfr_criteria.specs.Translations.{translation_holds}
use Rattle.pfr_criteria.specs.Transports.{port_asked, source_port, destination_port, flags_hold}

-- ---- one rule

-- what a rule asks for at all criteria
abbrev all_hold : Asked → IfName → List (List Entry) → Packet → Direction → Bool
all_hold asked name tables packet direction = direction_holds asked.direction direction && match_holds asked.packet name tables packet

part_fails : (c : Criterion) (asked : Asked) (name : IfName) (tables : List (List Entry)) (packet : Packet) (direction : Direction) → part_holds c asked name tables packet direction ≡ false → all_hold asked name tables packet direction ≡ false
unfolding match_holds
part_fails criterion.Direction asked name tables packet direction fails = simp fails
part_fails criterion.Protocol asked name tables packet direction fails = simp (fails, and-false)
part_fails criterion.Interface asked name tables packet direction fails = simp (fails, and-false)
part_fails criterion.DestinationPort asked name tables packet direction fails = simp (fails, and-false)
part_fails criterion.SourcePort asked name tables packet direction fails = simp (fails, and-false)
part_fails criterion.Destination asked name tables packet direction fails = simp (fails, and-false)
part_fails criterion.Source asked name tables packet direction fails = simp (fails, and-false)

with_flags : (a b c : Bool) → (a && c) ≡ false → (a && (b && c)) ≡ false
with_flags true b c fails = simp (fails, and-false)
with_flags false b c fails = refl

-- a filter rule that fails at a criterion fails
pub rule_fails : (c : Criterion) (rule : FlatRule) (name : IfName) (tables : List (List Entry)) (packet : Packet) (direction : Direction) → part_holds c (asked_by rule) name tables packet direction ≡ false → rule_holds rule name tables packet direction ≡ false
unfolding rule_holds
rule_fails c rule name tables packet direction fails =
    with_flags (direction_holds rule.direction direction) (flags_hold rule.flags packet.transport) (match_holds rule.packet name tables packet) (part_fails c (asked_by rule) name tables packet direction fails)

-- a translation rule that fails at a criterion fails
pub translation_fails : {T : Type 0} → (c : Criterion) (rule : FlatTranslation T) (name : IfName) (tables : List (List Entry)) (packet : Packet) (direction : Direction) → part_holds c (asked_by_translation rule) name tables packet direction ≡ false → translation_holds rule name tables packet ≡ false
translation_fails c rule name tables packet direction fails = part_fails c (asked_by_translation rule) name tables packet direction fails

-- a filter rule that holds is what it asks of a packet
pub rule_matches : (rule : FlatRule) (name : IfName) (tables : List (List Entry)) (packet : Packet) (direction : Direction) → rule_holds rule name tables packet direction ≡ true → match_holds rule.packet name tables packet ≡ true
unfolding rule_holds
rule_matches rule name tables packet direction holds = (and_parts _ _ (and_parts _ _ holds).1).1

-- ---- the rules behind it

same_part : (c : Criterion) (a b : Asked) (name : IfName) (tables : List (List Entry)) (packet : Packet) (direction : Direction) → SameAt c a b → part_holds c a name tables packet direction ≡ part_holds c b name tables packet direction
same_part criterion.Interface a b name tables packet direction same = ap (λ written. interface_holds written name) same
same_part criterion.Direction a b name tables packet direction same = ap (λ written. direction_holds written direction) same
same_part criterion.Protocol a b name tables packet direction same = ap (λ written. protocol_holds written packet.protocol.0) same
same_part criterion.Source a b name tables packet direction same = ap (λ written. host_holds tables written packet.source.0) same
same_part criterion.SourcePort a b name tables packet direction same = ap (λ written. port_asked written (source_port packet.transport)) same
same_part criterion.Destination a b name tables packet direction same = ap (λ written. host_holds tables written packet.destination.0) same
same_part criterion.DestinationPort a b name tables packet direction same = ap (λ written. port_asked written (destination_port packet.transport)) same

asked_at : {R : Type 0} (asked : R → Asked) (rules : List R) (k : ℕ) (rule : R) → slice_get rules k ≡ Some rule → slice_get (map asked rules) k ≡ Some (asked rule)
asked_at asked rules k rule at = slice_get-map asked rules k ∙ ap (option_map asked) at

-- if a rule fails at a criterion, so does each one before its skip
pub part_fails_on : {R : Type 0} (asked : R → Asked) (c : Criterion) (rules : List R) (place next : ℕ) (rule : R) (name : IfName) (tables : List (List Entry)) (packet : Packet) (direction : Direction)
    → IsSkip c (map asked rules) place next → slice_get rules place ≡ Some rule → part_holds c (asked rule) name tables packet direction ≡ false
    → (q : ℕ) (other : R) → place ≤ q → q < next → slice_get rules q ≡ Some other → part_holds c (asked other) name tables packet direction ≡ false
part_fails_on asked c rules place next rule name tables packet direction skip at fails q other from below there =
    let same = skip.same q (asked rule) (asked other) from below (asked_at asked rules place rule at) (asked_at asked rules q other there) in
    sym (same_part c (asked rule) (asked other) name tables packet direction same) ∙ fails

pub skip_fails : (c : Criterion) (rules : List FlatRule) (place next : ℕ) (rule : FlatRule) (name : IfName) (tables : List (List Entry)) (packet : Packet) (direction : Direction)
    → IsSkip c (map asked_by rules) place next → slice_get rules place ≡ Some rule → part_holds c (asked_by rule) name tables packet direction ≡ false
    → (q : ℕ) (other : FlatRule) → place ≤ q → q < next → slice_get rules q ≡ Some other → rule_holds other name tables packet direction ≡ false
skip_fails c rules place next rule name tables packet direction skip at fails q other from below there =
    rule_fails c other name tables packet direction (part_fails_on asked_by c rules place next rule name tables packet direction skip at fails q other from below there)

pub translation_skip_fails : {T : Type 0} → (c : Criterion) (rules : List (FlatTranslation T)) (place next : ℕ) (rule : FlatTranslation T) (name : IfName) (tables : List (List Entry)) (packet : Packet) (direction : Direction)
    → IsSkip c (map asked_by_translation rules) place next → slice_get rules place ≡ Some rule → part_holds c (asked_by_translation rule) name tables packet direction ≡ false
    → (q : ℕ) (other : FlatTranslation T) → place ≤ q → q < next → slice_get rules q ≡ Some other → translation_holds other name tables packet ≡ false
translation_skip_fails c rules place next rule name tables packet direction skip at fails q other from below there =
    translation_fails c other name tables packet direction (part_fails_on asked_by_translation c rules place next rule name tables packet direction skip at fails q other from below there)
