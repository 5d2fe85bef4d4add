-- Lists that use no macro come to as many things as are written, so there are as many combinations.
use Rattle.std.proofs.Common.{◌≡◌, ◌≤◌, ◌<◌, ◌+◌, ◌*◌, ℕ, suc, Bool, true, false, nat_lt, if◌then◌else◌, List, [], ◌∷◌, length, All, Contains, slice_get, slice_index_or, Option, Some, None, Result, Ok, Err, refl, sym, ◌∙◌, subst, arith}
use Rattle.std.proofs.lemmas.Bool.{ltb-true, ltb-false, or_parts}
use Rattle.std.proofs.lemmas.List.{length-append, length-map}
use Rattle.std.proofs.lemmas.List.Elements.{All-nil, All-cons, All-head, All-map, All-push, All-tail, Contains-get_or}
use Rattle.std.proofs.lemmas.Option.{get_or_from_slice_get, slice_get-get_or, slice_get_within}
use Rattle.pfr_net.specs.declared.protocol.Protocol.{Protocol}
use Rattle.pfr_net.specs.declared.port_match.PortMatch.{PortMatch}
use Rattle.pfr_net.specs.declared.icmp_match.IcmpMatch.{IcmpMatch}
use Rattle.pfr_ruleset.specs.declared.hosts.HostCriterion.{HostCriterion}
use Rattle.pfr_ruleset.specs.declared.flat.PacketMatch.{PacketMatch}
use Rattle.pfr_terms.specs.declared.address.Address.{Address}
use Rattle.pfr_terms.specs.declared.address.Address.TheVariants as a
use Rattle.pfr_terms.specs.declared.address.AddressMatch.{AddressMatch}
use Rattle.pfr_terms.specs.declared.error.ConfError.{ConfError}
use Rattle.pfr_terms.specs.declared.hosts.Criteria.{Criteria}
use Rattle.pfr_terms.specs.declared.hosts.Part.{Part}
use Rattle.pfr_terms.specs.declared.interface.InterfaceMatch.{InterfaceMatch}
use Rattle.pfr_terms.specs.declared.name.MacroUse.{MacroUse}
use Rattle.pfr_terms.specs.declared.name.Written.{Written}
use Rattle.pfr_terms.specs.declared.name.Written.TheVariants as w
use Rattle.pfr_terms.specs.Input.{Parser}
use Rattle.pfr_terms.specs.Ports as ports
use Rattle.pfr_terms.specs.Terms as terms
use Rattle.pfr_conf.specs.declared.filter.FilterRule.{FilterRule}
use Rattle.pfr_elements.specs.declared.definition.ListMeaning.{ListMeaning}
use Rattle.pfr_elements.specs.declared.definition.ListMeanings.{ListMeanings}
use Rattle.pfr_elements.specs.declared.element.Elements as E
use Rattle.pfr_elements.specs.declared.scope.Scope.{Scope}
use Rattle.pfr_elements.specs.Elements.{Kind, elements_from, most_elements, none_yet, with_element, with_meaning, with_written}
use Rattle.pfr_elements.specs.Hosts.{host_kind, host_use_by}
use Rattle.pfr_elements.specs.Terms.{icmp_kind, icmp_lists, interface_kind, plain, port_kind, port_lists, protocol_kind, protocol_lists, same, use_in}
use Rattle.pfr_flat.specs.declared.choices.Choices as C
use Rattle.pfr_flat.specs.declared.lists.Lists as L
use Rattle.pfr_flat.specs.Choices.{combinations}
use Rattle.pfr_flat.specs.Lists.{addresses_in, choices, choices_of, choices_or_fault, fault_of, has_long_list, host_list, hosts_of, icmp_types, if_written, interfaces, is_long, items_of, lists_of, lists_with, or_choices, or_fault, port_list, ports_in, protocols}
use Rattle.pfr_flat.proofs.Digits.{choices_at}
use Rattle.pfr_flat.proofs.Order.{combination_count}
use Rattle.pfr_expand.specs.Laws.{AllWritten, ArePlain, AsksFrom, IsFrom, IsPlain, IsPlainAddress, IsPlainPart, choices_in, choices_in_part, combinations_in, ports_of}
use Rattle.pfr_expand.proofs.CountLemmas.{is_fault, no_other}

-- ---- a list

-- one thing more, unless there is a fault
abbrev HasOneMore : {A : Type 0} → E.Elements A → E.Elements A → Type 0
HasOneMore old new = new.fault ≡ None → (old.fault ≡ None) × (length new.items ≡ length old.items + 1)

one_meant : {A : Type 0} (meant : Result A ConfError) (found : E.Elements A) → HasOneMore found (with_meaning meant found)
one_meant (Ok x) found = λ sound. (sound, length-append found.items (x ∷ []))
one_meant (Err e) found = λ sound. absurd (is_fault found.fault e sound)

one_more : {A B : Type 0} (kind : Kind A B) (scope : Scope) (keeps : Bool) (found : E.Elements B) (x : A) → kind.use_in x ≡ None → HasOneMore found (with_element kind scope keeps found x)
unfolding with_element
one_more kind scope keeps found x none =
    subst (λ (u : Option MacroUse). HasOneMore found (with_written kind scope keeps x u found)) (sym none) (one_meant (kind.meaning scope x) found)

module _ {A B : Type 0} (one : E.Elements B → A → E.Elements B) (IsOne : A → Type 0) (each : (found : E.Elements B) (x : A) → IsOne x → HasOneMore found (one found x)) where
  as_many : (found : E.Elements B) (xs : List A) → All IsOne xs → (elements_from one found xs).count ≤ 1048576 → (elements_from one found xs).fault ≡ None → (found.fault ≡ None) × (length (elements_from one found xs).items ≡ length found.items + length xs)
  as_many found [] are few sound = (sound, omega arith)
  as_many found (x ∷ xs) are few sound = by_length (as_many (one found x) xs (All-tail IsOne x xs are)) (nat_lt most_elements found.count) refl few sound
    where
      by_length : ((elements_from one (one found x) xs).count ≤ 1048576 → (elements_from one (one found x) xs).fault ≡ None → ((one found x).fault ≡ None) × (length (elements_from one (one found x) xs).items ≡ length (one found x).items + length xs))
          → (long : Bool) → nat_lt most_elements found.count ≡ long → (if long then found else elements_from one (one found x) xs).count ≤ 1048576 → (if long then found else elements_from one (one found x) xs).fault ≡ None
          → (found.fault ≡ None) × (length (if long then found else elements_from one (one found x) xs).items ≡ length found.items + suc (length xs))
      by_length others true is few sound = (let longer : 1048576 < found.count = ltb-true 1048576 found.count is in absurd (omega (arith, longer, few)))
      by_length others false is few sound =
          let behind = others few sound in
          let first = each found x (All-head IsOne x xs are) behind.0 in
          let long = behind.1 in
          let long_first = first.1 in
          (first.0, omega (arith, long, long_first))

-- a list without a fault, if it is written
abbrev IsSound : {A : Type 0} → Option (E.Elements A) → Type 0
IsSound None = Unit {0}
IsSound (Some list) = list.fault ≡ None

sound_parts : {A : Type 0} (first : Option ConfError) (list : Option (E.Elements A)) → or_fault first list ≡ None → (first ≡ None) × IsSound list
sound_parts (Some e) list none = absurd (cc none)
sound_parts None None none = (refl, tt)
sound_parts None (Some list) none = (refl, none)

list_choices : {A B : Type 0} (one : E.Elements B → A → E.Elements B) (IsOne : A → Type 0) → ((found : E.Elements B) (x : A) → IsOne x → HasOneMore found (one found x)) → (list : Option (List A)) → AllWritten IsOne list
    → IsSound (if_written (elements_from one none_yet) list) → is_long (if_written (elements_from one none_yet) list) ≡ false → length (choices_of (items_of (if_written (elements_from one none_yet) list))) ≡ choices_in list
list_choices one IsOne each None are sound short = refl
list_choices {B = B} one IsOne each (Some xs) are sound short =
    let many = (as_many one IsOne each none_yet xs are (ltb-false 1048576 (elements_from one none_yet xs).count short) sound).1 in
    let some : B → Option B = Some in
    let long = length-map (elements_from one none_yet xs).items some in
    omega (arith, many, long)

list_hosts : {A : Type 0} (one : E.Elements HostCriterion → A → E.Elements HostCriterion) (IsOne : A → Type 0) → ((found : E.Elements HostCriterion) (x : A) → IsOne x → HasOneMore found (one found x)) → (list : Option (List A)) → AllWritten IsOne list
    → IsSound (if_written (elements_from one none_yet) list) → is_long (if_written (elements_from one none_yet) list) ≡ false → length (hosts_of (items_of (if_written (elements_from one none_yet) list))) ≡ choices_in list
list_hosts one IsOne each None are sound short = refl
list_hosts one IsOne each (Some xs) are sound short =
    let many = (as_many one IsOne each none_yet xs are (ltb-false 1048576 (elements_from one none_yet xs).count short) sound).1 in
    omega (arith, many)

-- ---- the elements of each list

plain_use : {A : Type 0} (x : Written A) → IsPlain x → use_in x ≡ None
plain_use (w.Item x) plain = refl
plain_use (w.Macro found) plain = absurd plain

plain_address : (address : Address) → IsPlainAddress address → host_use_by address ≡ None
plain_address a.Any plain = refl
plain_address (a.Host host) plain = refl
plain_address (a.Range low high) plain = refl
plain_address (a.Table name) plain = refl
plain_address (a.Macro found) plain = absurd plain

interface_choices : (scope : Scope) (keeps : Bool) (list : Option (List InterfaceMatch)) → AllWritten (λ m. IsPlain m.interface) list → IsSound (if_written (interfaces scope keeps) list) → is_long (if_written (interfaces scope keeps) list) ≡ false → length (choices_of (items_of (if_written (interfaces scope keeps) list))) ≡ choices_in list
interface_choices scope keeps list are sound short = list_choices _ (λ m. IsPlain m.interface) (λ found x plain. one_more interface_kind scope keeps found x (plain_use x.interface plain)) list are sound short

protocol_choices : (scope : Scope) (keeps : Bool) (list : Option (List (Written Protocol))) → AllWritten IsPlain list → IsSound (if_written (protocols scope keeps) list) → is_long (if_written (protocols scope keeps) list) ≡ false → length (choices_of (items_of (if_written (protocols scope keeps) list))) ≡ choices_in list
protocol_choices scope keeps list are sound short = list_choices _ IsPlain (λ found x plain. one_more protocol_kind scope keeps found x (plain_use x plain)) list are sound short

type_choices : (scope : Scope) (keeps : Bool) (list : Option (List (Written IcmpMatch))) → AllWritten IsPlain list → IsSound (if_written (icmp_types scope keeps) list) → is_long (if_written (icmp_types scope keeps) list) ≡ false → length (choices_of (items_of (if_written (icmp_types scope keeps) list))) ≡ choices_in list
type_choices scope keeps list are sound short = list_choices _ IsPlain (λ found x plain. one_more icmp_kind scope keeps found x (plain_use x plain)) list are sound short

port_choices : (scope : Scope) (keeps : Bool) (list : Option (List (Written PortMatch))) → AllWritten IsPlain list → IsSound (if_written (port_list scope keeps) list) → is_long (if_written (port_list scope keeps) list) ≡ false → length (choices_of (items_of (if_written (port_list scope keeps) list))) ≡ choices_in list
port_choices scope keeps list are sound short = list_choices _ IsPlain (λ found x plain. one_more port_kind scope keeps found x (plain_use x plain)) list are sound short

host_choices : (scope : Scope) (keeps : Bool) (list : Option (List AddressMatch)) → AllWritten (λ m. IsPlainAddress m.address) list → IsSound (if_written (host_list scope keeps) list) → is_long (if_written (host_list scope keeps) list) ≡ false → length (hosts_of (items_of (if_written (host_list scope keeps) list))) ≡ choices_in list
host_choices scope keeps list are sound short = list_hosts _ (λ m. IsPlainAddress m.address) (λ found x plain. one_more host_kind scope keeps found x (plain_address x.address plain)) list are sound short

-- ---- all lists

plain_addresses : (part : Option Part) → IsPlainPart part → AllWritten (λ m. IsPlainAddress m.address) (addresses_in part)
plain_addresses None plain = record {}
plain_addresses (Some part) plain = plain.0

plain_ports : (part : Option Part) → IsPlainPart part → AllWritten IsPlain (ports_in part)
plain_ports None plain = record {}
plain_ports (Some part) plain = plain.1

part_choices : (part : Option Part) → choices_in (addresses_in part) * choices_in (ports_in part) ≡ choices_in_part part
part_choices None = omega arith
part_choices (Some part) = refl

regrouped : (a b c d e f g source destination : ℕ) → d * e ≡ source → f * g ≡ destination → a * b * c * d * e * f * g ≡ a * b * source * destination * c
regrouped a b c d e f g source destination one other =
    let grouped : a * b * c * d * e * f * g ≡ a * b * (d * e) * (f * g) * c = omega arith in
    grouped ∙ rw (one, other) refl

products_same : (a b c d e f g a' b' c' d' e' f' g' : ℕ) → a ≡ a' → b ≡ b' → c ≡ c' → d ≡ d' → e ≡ e' → f ≡ f' → g ≡ g' → a * b * c * d * e * f * g ≡ a' * b' * c' * d' * e' * f' * g'
products_same a b c d e f g a' b' c' d' e' f' g' first second third fourth fifth sixth seventh = rw (first, second, third, fourth, fifth, sixth, seventh) refl

sound_of : (c d : C.Choices) (fault : Option ConfError) → or_choices c fault ≡ Ok d → fault ≡ None
sound_of c d None is = refl
sound_of c d (Some e) is = absurd (cc is)

choices_exact : (scope : Scope) (keeps : Bool) (criteria : Criteria) (types : Option (List (Written IcmpMatch))) → ArePlain criteria → AllWritten IsPlain types → has_long_list (lists_of scope keeps criteria types) ≡ false → fault_of (lists_of scope keeps criteria types) ≡ None
    → length (combinations (choices (lists_of scope keeps criteria types))) ≡ combinations_in criteria * choices_in types
unfolding has_long_list lists_with
choices_exact scope keeps criteria types plain plain_types short none =
    let seventh = or_parts _ _ short in
    let sixth = or_parts _ _ seventh.0 in
    let fifth = or_parts _ _ sixth.0 in
    let fourth = or_parts _ _ fifth.0 in
    let third = or_parts _ _ fourth.0 in
    let second = or_parts _ _ third.0 in
    let sound_types = sound_parts _ (if_written (icmp_types scope keeps) types) none in
    let sound_destination_ports = sound_parts _ (if_written (port_list scope keeps) (ports_in criteria.hosts.destination)) sound_types.0 in
    let sound_destinations = sound_parts _ (if_written (host_list scope keeps) (addresses_in criteria.hosts.destination)) sound_destination_ports.0 in
    let sound_source_ports = sound_parts _ (if_written (port_list scope keeps) (ports_in criteria.hosts.source)) sound_destinations.0 in
    let sound_sources = sound_parts _ (if_written (host_list scope keeps) (addresses_in criteria.hosts.source)) sound_source_ports.0 in
    let sound_protocols = sound_parts _ (if_written (protocols scope keeps) criteria.protocols) sound_sources.0 in
    let sound_interfaces = sound_parts None (if_written (interfaces scope keeps) criteria.interfaces) sound_protocols.0 in
    combination_count (choices (lists_of scope keeps criteria types))
    ∙ products_same _ _ _ _ _ _ _ (choices_in criteria.interfaces) (choices_in criteria.protocols) (choices_in types) (choices_in (addresses_in criteria.hosts.source)) (choices_in (ports_in criteria.hosts.source)) (choices_in (addresses_in criteria.hosts.destination)) (choices_in (ports_in criteria.hosts.destination))
    (interface_choices scope keeps criteria.interfaces plain.0 sound_interfaces.1 second.0)
    (protocol_choices scope keeps criteria.protocols plain.1 sound_protocols.1 second.1)
    (type_choices scope keeps types plain_types sound_types.1 third.1)
    (host_choices scope keeps (addresses_in criteria.hosts.source) (plain_addresses criteria.hosts.source plain.2) sound_sources.1 fourth.1)
    (port_choices scope keeps (ports_in criteria.hosts.source) (plain_ports criteria.hosts.source plain.2) sound_source_ports.1 fifth.1)
    (host_choices scope keeps (addresses_in criteria.hosts.destination) (plain_addresses criteria.hosts.destination plain.3) sound_destinations.1 sixth.1)
    (port_choices scope keeps (ports_in criteria.hosts.destination) (plain_ports criteria.hosts.destination plain.3) sound_destination_ports.1 seventh.1)
    ∙ regrouped (choices_in criteria.interfaces) (choices_in criteria.protocols) (choices_in types) _ _ _ _ (choices_in_part criteria.hosts.source) (choices_in_part criteria.hosts.destination) (part_choices criteria.hosts.source) (part_choices criteria.hosts.destination)

-- as many combinations as the lists of a filter rule make
pub rule_exact : (scope : Scope) (keeps : Bool) (criteria : Criteria) (types : Option (List (Written IcmpMatch))) (c : C.Choices) → ArePlain criteria → AllWritten IsPlain types → has_long_list (lists_of scope keeps criteria types) ≡ false → choices_or_fault (lists_of scope keeps criteria types) ≡ Ok c
    → length (combinations c) ≡ combinations_in criteria * choices_in types
unfolding choices_or_fault
rule_exact scope keeps criteria types c plain plain_types short is =
    let l : L.Lists = lists_of scope keeps criteria types in
    rw (no_other (choices l) c (fault_of l) is) (choices_exact scope keeps criteria types plain plain_types short (sound_of (choices l) c (fault_of l) is))

-- as many as those of an anchor
pub anchor_exact : (scope : Scope) (keeps : Bool) (criteria : Criteria) (c : C.Choices) → ArePlain criteria → has_long_list (lists_of scope keeps criteria None) ≡ false → choices_or_fault (lists_of scope keeps criteria None) ≡ Ok c → length (combinations c) ≡ combinations_in criteria
anchor_exact scope keeps criteria c plain short is =
    let exact : length (combinations c) ≡ combinations_in criteria * 1 = rule_exact scope keeps criteria None c plain (record {}) short is in
    omega (arith, exact)

-- ---- what a combination asks for

module _ {A : Type 0} (item : Parser A) (list_in : ListMeanings → ListMeaning A) (scope : Scope) (keeps : Bool) where
  abbrev itself_more : E.Elements A → Written A → E.Elements A
  itself_more = with_element (plain item same list_in) scope keeps

  one_from : (list : List (Written A)) (found : E.Elements A) (x : Written A) → IsPlain x × Contains list x → All (λ (y : A). Contains list (w.Item y)) found.items → All (λ (y : A). Contains list (w.Item y)) (itself_more found x).items
  unfolding with_element
  one_from list found (w.Item y) is all = All-push (λ (y : A). Contains list (w.Item y)) found.items y all is.1
  one_from list found (w.Macro u) is all = absurd is.0

  all_from : (list : List (Written A)) (found : E.Elements A) (xs : List (Written A)) → All (λ (x : Written A). IsPlain x × Contains list x) xs → All (λ (y : A). Contains list (w.Item y)) found.items → All (λ (y : A). Contains list (w.Item y)) (elements_from itself_more found xs).items
  all_from list found [] are all = all
  all_from list found (x ∷ xs) are all =
      by_length (all_from list (itself_more found x) xs (All-tail (λ (x : Written A). IsPlain x × Contains list x) x xs are) (one_from list found x (All-head (λ (x : Written A). IsPlain x × Contains list x) x xs are) all)) (nat_lt most_elements found.count)
    where
      by_length : All (λ (y : A). Contains list (w.Item y)) (elements_from itself_more (itself_more found x) xs).items → (long : Bool) → All (λ (y : A). Contains list (w.Item y)) (if long then found else elements_from itself_more (itself_more found x) xs).items
      by_length others true = all
      by_length others false = others

  choices_from : (list : Option (List (Written A))) → All (IsFrom list) (choices_of (items_of (if_written (elements_from itself_more none_yet) list)))
  choices_from None =
      let none : Option (List (Written A)) = None in
      let nothing : Option A = None in
      All-cons (IsFrom none) nothing [] refl (All-nil (IsFrom none))
  choices_from (Some list) =
      let some : A → Option A = Some in
      All-map (IsFrom (Some list)) some (elements_from itself_more none_yet list).items
      (λ k d below plain. (
        slice_index_or (elements_from itself_more none_yet list).items k d,
        all_from list none_yet list (λ k d below. (plain k d below, Contains-get_or list k d below)) (All-nil (λ (y : A). Contains list (w.Item y))) k d below,
        refl,
      ))

pub chosen : {A : Type 0} (P : A → Type 0) (xs : List A) (i : ℕ) (x : A) → All P xs → slice_get xs i ≡ Some x → P x
chosen P xs i x all is = subst P (get_or_from_slice_get xs i x x is) (all i x (slice_get_within xs i x is))

ports_from : (scope : Scope) (keeps : Bool) (part : Option Part) → All (IsFrom (ports_of part)) (choices_of (items_of (if_written (port_list scope keeps) (ports_in part))))
ports_from scope keeps None = choices_from ports.port_match port_lists scope keeps None
ports_from scope keeps (Some part) = choices_from ports.port_match port_lists scope keeps part.ports

asked_of : (scope : Scope) (keeps : Bool) (rule : FilterRule) → All (AsksFrom rule) (combinations (choices (lists_of scope keeps rule.criteria rule.options.icmp_types)))
unfolding lists_with
asked_of scope keeps rule = λ i m below. (
    let c : C.Choices = choices (lists_of scope keeps rule.criteria rule.options.icmp_types) in
    let asked : PacketMatch = slice_index_or (combinations c) i m in
    let at = choices_at c asked i (slice_get-get_or (combinations c) i m below) in
    record {
      protocol = chosen (IsFrom rule.criteria.protocols) c.protocols _ asked.protocol (choices_from terms.protocol protocol_lists scope keeps rule.criteria.protocols) at.5;
      icmp = chosen (IsFrom rule.options.icmp_types) c.icmp_types _ asked.icmp (choices_from terms.icmp_match icmp_lists scope keeps rule.options.icmp_types) at.4;
      source_port = chosen (IsFrom (ports_of rule.criteria.hosts.source)) c.source_ports _ asked.source_port (ports_from scope keeps rule.criteria.hosts.source) at.2;
      destination_port = chosen (IsFrom (ports_of rule.criteria.hosts.destination)) c.destination_ports _ asked.destination_port (ports_from scope keeps rule.criteria.hosts.destination) at.0;
    })

-- the combinations of a filter rule ask for what is written
pub rule_asks : (scope : Scope) (keeps : Bool) (rule : FilterRule) (c : C.Choices) → choices_or_fault (lists_of scope keeps rule.criteria rule.options.icmp_types) ≡ Ok c → All (AsksFrom rule) (combinations c)
unfolding choices_or_fault
rule_asks scope keeps rule c is =
    let l : L.Lists = lists_of scope keeps rule.criteria rule.options.icmp_types in
    rw (no_other (choices l) c (fault_of l) is) (asked_of scope keeps rule)
