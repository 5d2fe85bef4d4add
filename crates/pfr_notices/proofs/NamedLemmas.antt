-- Names of interfaces, one behind the other.
use Rattle.std.proofs.Common.{◌≡◌, ◌∙◌, ◌||◌, ◌++◌, Bool, true, false, List, [], ◌∷◌, ap, refl, sym, true≢false}
use Rattle.std.specs.List.{AllByRecursion, IsDistinct}
use Rattle.pfr_net.specs.declared.interface.IfName.{IfName}
use Rattle.pfr_net.specs.declared.address.Ipv4Address.{Ipv4Address}
use Rattle.pfr_ruleset.specs.declared.flat.FlatAnchor.{FlatAnchor}
use Rattle.pfr_ruleset.specs.declared.flat.FlatRule.{FlatRule}
use Rattle.pfr_ruleset.specs.declared.flat.FlatTranslation.{FlatTranslation}
use Rattle.pfr_ruleset.specs.declared.flat.NatAddress.{NatAddress}
use Rattle.pfr_ruleset.specs.declared.flat.RdrAddress.{RdrAddress}
use Rattle.pfr_ruleset.specs.declared.ruleset.Ruleset.{Ruleset}
use Rattle.pfr_criteria.specs.Packets.{is_named}
use Rattle.pfr_notices.specs.Named.{asked_by, asked_in, each_once, is_among, with_name}

neither : (first others : Bool) → (first || others) ≡ false → (first ≡ false) × (others ≡ false)
neither true others either = absurd (true≢false either)
neither false others either = (refl, either)

all_behind : (name other : IfName) (names : List IfName) → AllByRecursion (λ y. is_named name y ≡ false) names → is_named name other ≡ false
    → AllByRecursion (λ y. is_named name y ≡ false) (names ++ other ∷ [])
all_behind name other [] all differs = (differs, tt)
all_behind name other (first ∷ names) all differs = (all.0, all_behind name other names all.1 differs)

-- a name behind others from which it differs
pub distinct_behind : (names : List IfName) (new : IfName) → IsDistinct is_named names → is_among names new ≡ false → IsDistinct is_named (names ++ new ∷ [])
unfolding IsDistinct
distinct_behind [] new distinct none = (tt, tt)
distinct_behind (first ∷ names) new distinct none =
    let each = neither (is_named first new) (is_among names new) none in
    (all_behind first new names distinct.0 each.0, distinct_behind names new distinct.1 each.1)

-- names behind names are gone through one list after the other
once_behind : (names some more : List IfName) → each_once names (some ++ more) ≡ each_once (each_once names some) more
once_behind names [] more = refl
once_behind names (name ∷ some) more = once_behind (with_name names name) some more

one_more : (names before some more : List IfName) → before ≡ each_once names some → each_once before more ≡ each_once names (some ++ more)
one_more names before some more is = ap (λ names. each_once names more) is ∙ sym (once_behind names some more)

in_five : (a b c d e first second third fourth fifth : List IfName)
    → first ≡ each_once [] a → second ≡ each_once first b → third ≡ each_once second c → fourth ≡ each_once third d → fifth ≡ each_once fourth e
    → fifth ≡ each_once [] (a ++ (b ++ (c ++ (d ++ e))))
in_five a b c d e first second third fourth fifth one two three four five =
    five ∙ one_more third fourth d e four ∙ one_more second third c (d ++ e) three ∙ one_more first second b (c ++ (d ++ e)) two
    ∙ one_more [] first a (b ++ (c ++ (d ++ e))) one

pub in_order : (rules : Ruleset) (filters : List FlatRule) (anchors : List FlatAnchor) (nats : List (FlatTranslation NatAddress)) (rdrs : List (FlatTranslation RdrAddress))
    (binats : List (FlatTranslation Ipv4Address)) (before first second third fourth fifth : List IfName)
    → before ≡ [] → filters ≡ rules.filter.rules → anchors ≡ rules.filter.anchors → nats ≡ rules.translations.nats → rdrs ≡ rules.translations.rdrs → binats ≡ rules.translations.binats
    → first ≡ each_once before (asked_by (λ rule. rule.packet.interface) filters)
    → second ≡ each_once first (asked_by (λ anchor. anchor.packet.interface) anchors)
    → third ≡ each_once second (asked_by (λ rule. rule.packet.interface) nats)
    → fourth ≡ each_once third (asked_by (λ rule. rule.packet.interface) rdrs)
    → fifth ≡ each_once fourth (asked_by (λ rule. rule.packet.interface) binats)
    → fifth ≡ each_once [] (asked_in rules)
in_order rules filters anchors nats rdrs binats before first second third fourth fifth none are_filters are_anchors are_nats are_rdrs are_binats one two three four five =
    in_five (asked_by (λ rule. rule.packet.interface) rules.filter.rules) (asked_by (λ anchor. anchor.packet.interface) rules.filter.anchors)
    (asked_by (λ rule. rule.packet.interface) rules.translations.nats) (asked_by (λ rule. rule.packet.interface) rules.translations.rdrs)
    (asked_by (λ rule. rule.packet.interface) rules.translations.binats) first second third fourth fifth
    (one ∙ ap (λ names. each_once names (asked_by (λ rule. rule.packet.interface) filters)) none
    ∙ ap (λ rules. each_once [] (asked_by (λ rule. rule.packet.interface) rules)) are_filters)
    (two ∙ ap (λ rules. each_once first (asked_by (λ anchor. anchor.packet.interface) rules)) are_anchors)
    (three ∙ ap (λ rules. each_once second (asked_by (λ rule. rule.packet.interface) rules)) are_nats)
    (four ∙ ap (λ rules. each_once third (asked_by (λ rule. rule.packet.interface) rules)) are_rdrs)
    (five ∙ ap (λ rules. each_once fourth (asked_by (λ rule. rule.packet.interface) rules)) are_binats)
