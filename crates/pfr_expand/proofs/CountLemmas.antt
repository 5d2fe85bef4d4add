-- How many rules the lists of a statement make.
use Rattle.std.proofs.Common.{◌≡◌, ◌≤◌, ◌+◌, ◌*◌, ℕ, Bool, true, false, nat_lt, if◌then◌else◌, List, [], ◌∷◌, length, map, Option, Some, None, Result, Ok, Err, refl, arith}
use Rattle.std.proofs.lemmas.Bool.{ltb-false, or_parts}
use Rattle.std.proofs.lemmas.List.{length-append, length-map}
use Rattle.std.proofs.lemmas.Nat.{mul-le}
use Rattle.pfr_net.specs.declared.protocol.Protocol.{Protocol}
use Rattle.pfr_net.specs.declared.port_match.PortMatch.{PortMatch}
use Rattle.pfr_net.specs.declared.icmp_match.IcmpMatch.{IcmpMatch}
use Rattle.pfr_ruleset.specs.declared.hosts.HostCriterion.{HostCriterion}
use Rattle.pfr_words.specs.Words.{words}
use Rattle.pfr_terms.specs.declared.address.AddressMatch.{AddressMatch}
use Rattle.pfr_terms.specs.declared.error.ConfError.{ConfError}
use Rattle.pfr_terms.specs.declared.hosts.Criteria.{Criteria}
use Rattle.pfr_terms.specs.declared.interface.InterfaceMatch.{InterfaceMatch}
use Rattle.pfr_terms.specs.declared.name.MacroUse.{MacroUse}
use Rattle.pfr_terms.specs.declared.name.Written.{Written}
use Rattle.pfr_terms.specs.Input.{unknown_word}
use Rattle.pfr_elements.specs.declared.definition.Taken.{Taken}
use Rattle.pfr_elements.specs.declared.definition.Taken.TheVariants as taken
use Rattle.pfr_elements.specs.declared.element.Elements as E
use Rattle.pfr_elements.specs.declared.scope.Scope.{Scope}
use Rattle.pfr_elements.specs.Elements.{Kind, elements_from, fault_at, first_fault, listed, most_elements, none_yet, turned_if, with_element, with_fault, with_list_by, with_meaning, with_taken, with_written}
use Rattle.pfr_elements.specs.Hosts.{host_kind}
use Rattle.pfr_elements.specs.Single.{criterion_of, single_sources, source_single, with_source}
use Rattle.pfr_elements.specs.Terms.{icmp_kind, interface_kind, port_kind, protocol_kind}
use Rattle.pfr_elements.specs.Values.{taken_at}
use Rattle.pfr_flat.specs.declared.choices.Choices as C
use Rattle.pfr_flat.specs.declared.lists.Lists as L
use Rattle.pfr_flat.specs.Choices.{combinations}
use Rattle.pfr_flat.specs.Counts.{counted, exceeds, too_many}
use Rattle.pfr_flat.specs.Lists.{addresses_in, choices, choices_of, choices_or_fault, count_of, fault_of, has_long_list, host_list, hosts_of, icmp_types, if_written, interfaces, is_long, items_of, lists_of, lists_with, or_choices, port_list, ports_in, product, protocols}
use Rattle.pfr_flat.proofs.Order.{combination_count}

-- ---- the elements of a list

-- a list that isn't too long has no more items than it counts
abbrev pub IsCounted : {A : Type 0} → E.Elements A → Type 0
IsCounted found = found.count ≤ 1048576 → length found.items ≤ found.count

pub is_fault : (first : Option ConfError) (e : ConfError) → first_fault first e ≡ None → ⊥
is_fault (Some first) e none = cc none
is_fault None e none = cc none

fault_counted : {A : Type 0} (e : ConfError) (found : E.Elements A) → IsCounted found → IsCounted (with_fault e found)
fault_counted e found before = λ few. let least : length found.items ≤ found.count = before (omega (arith, few)) in omega (arith, least)

meaning_counted : {A : Type 0} (meant : Result A ConfError) (found : E.Elements A) → IsCounted found → IsCounted (with_meaning meant found)
meaning_counted (Ok x) found before = λ few. let least : length found.items ≤ found.count = before (omega (arith, few)) in let long = length-append found.items (x ∷ []) in omega (arith, least, long)
meaning_counted (Err e) found before = fault_counted e found before

list_counted : {A : Type 0} (fault : Option ConfError) (keeps : Bool) (turned : A → A) (items : List A) (found : E.Elements A) → IsCounted found → IsCounted (with_list_by fault keeps turned items found)
list_counted (Some e) keeps turned items found before = fault_counted e found before
list_counted None true turned items found before = λ few. (
    let least : length found.items ≤ found.count = before (omega (arith, few)) in
    let long = length-append found.items (map turned items) in
    let own = length-map items turned in
    omega (arith, few, least, long, own))
list_counted None false turned items found before = λ few. let least : length found.items ≤ found.count = before (omega (arith, few)) in omega (arith, least)

taken_counted : {A B : Type 0} (kind : Kind A B) (scope : Scope) (line defined : ℕ) (is_negated keeps : Bool) (value : Result Taken ConfError) (found : E.Elements B)
    → IsCounted found → IsCounted (with_taken kind scope (record { line = line; defined = defined; is_negated = is_negated; keeps = keeps }) value found)
taken_counted kind scope line defined is_negated keeps (Err e) found before = fault_counted e found before
taken_counted kind scope line defined is_negated keeps (Ok (taken.TooLong true)) found before = λ few. absurd (omega (arith, few))
taken_counted kind scope line defined is_negated keeps (Ok (taken.TooLong false)) found before = fault_counted (unknown_word line) found before
taken_counted kind scope line defined is_negated keeps (Ok (taken.Word word)) found before =
    let meant = listed kind scope (words word) in
    list_counted (fault_at line defined meant) keeps (turned_if is_negated kind.turned) meant.items found before
taken_counted kind scope line defined is_negated keeps (Ok (taken.Whole text)) found before =
    let meant = kind.list_in text.meanings.lists in
    list_counted (fault_at line defined meant) keeps (turned_if is_negated kind.turned) meant.items found before

written_counted : {A B : Type 0} (kind : Kind A B) (scope : Scope) (keeps : Bool) (x : A) (use_of : Option MacroUse) (found : E.Elements B) → IsCounted found → IsCounted (with_written kind scope keeps x use_of found)
written_counted kind scope keeps x None found before = meaning_counted (kind.meaning scope x) found before
written_counted kind scope keeps x (Some u) found before =
    taken_counted kind scope u.line scope.defined (kind.negated x) keeps (taken_at scope.macros (kind.negated x) u) found before

element_counted : {A B : Type 0} (kind : Kind A B) (scope : Scope) (keeps : Bool) (found : E.Elements B) (x : A) → IsCounted found → IsCounted (with_element kind scope keeps found x)
unfolding with_element
element_counted kind scope keeps found x before = written_counted kind scope keeps x (kind.use_in x) found before

elements_counted : {A B : Type 0} (one : E.Elements B → A → E.Elements B) → ((found : E.Elements B) (x : A) → IsCounted found → IsCounted (one found x)) → (found : E.Elements B) (xs : List A) → IsCounted found → IsCounted (elements_from one found xs)
elements_counted one each found [] before = before
elements_counted one each found (x ∷ xs) before = by_length (nat_lt most_elements found.count) (elements_counted one each (one found x) xs (each found x before))
  where
    by_length : (long : Bool) → IsCounted (elements_from one (one found x) xs) → IsCounted (if long then found else elements_from one (one found x) xs)
    by_length true behind = before
    by_length false behind = behind

-- ---- the lists of a statement

abbrev pub IsListCounted : {A : Type 0} → Option (E.Elements A) → Type 0
IsListCounted None = Unit {0}
IsListCounted (Some list) = IsCounted list

list_if_written : {A B : Type 0} (one : E.Elements B → A → E.Elements B) → ((found : E.Elements B) (x : A) → IsCounted found → IsCounted (one found x)) → (list : Option (List A)) → IsListCounted (if_written (elements_from one none_yet) list)
list_if_written one each None = tt
list_if_written one each (Some xs) = elements_counted one each none_yet xs (λ few. omega arith)

pub record AreCounted (l : L.Lists) : Type 0 where
  pub interfaces : IsListCounted l.interfaces
  pub protocols : IsListCounted l.protocols
  pub icmp_types : IsListCounted l.icmp_types
  pub sources : IsListCounted l.sources
  pub source_ports : IsListCounted l.source_ports
  pub destinations : IsListCounted l.destinations
  pub destination_ports : IsListCounted l.destination_ports

interfaces_counted : (scope : Scope) (keeps : Bool) (list : Option (List InterfaceMatch)) → IsListCounted (if_written (interfaces scope keeps) list)
interfaces_counted scope keeps list = list_if_written _ (element_counted interface_kind scope keeps) list

protocols_counted : (scope : Scope) (keeps : Bool) (list : Option (List (Written Protocol))) → IsListCounted (if_written (protocols scope keeps) list)
protocols_counted scope keeps list = list_if_written _ (element_counted protocol_kind scope keeps) list

types_counted : (scope : Scope) (keeps : Bool) (list : Option (List (Written IcmpMatch))) → IsListCounted (if_written (icmp_types scope keeps) list)
types_counted scope keeps list = list_if_written _ (element_counted icmp_kind scope keeps) list

ports_counted : (scope : Scope) (keeps : Bool) (list : Option (List (Written PortMatch))) → IsListCounted (if_written (port_list scope keeps) list)
ports_counted scope keeps list = list_if_written _ (element_counted port_kind scope keeps) list

hosts_counted : (scope : Scope) (keeps : Bool) (list : Option (List AddressMatch)) → IsListCounted (if_written (host_list scope keeps) list)
hosts_counted scope keeps list = list_if_written _ (element_counted host_kind scope keeps) list

pub sources_counted : (scope : Scope) (line : ℕ) (list : Option (List AddressMatch)) → IsListCounted (if_written (single_sources scope line) list)
sources_counted scope line list = list_if_written (with_source scope line) (λ found m before. meaning_counted (criterion_of (source_single scope line m)) found before) list

pub lists_counted_with : (scope : Scope) (keeps : Bool) (criteria : Criteria) (types : Option (List (Written IcmpMatch))) (sources : Option (E.Elements HostCriterion)) → IsListCounted sources → AreCounted (lists_with scope keeps criteria types sources)
unfolding lists_with
lists_counted_with scope keeps criteria types sources own = record {
  interfaces = interfaces_counted scope keeps criteria.interfaces;
  protocols = protocols_counted scope keeps criteria.protocols;
  icmp_types = types_counted scope keeps types;
  sources = own;
  source_ports = ports_counted scope keeps (ports_in criteria.hosts.source);
  destinations = hosts_counted scope keeps (addresses_in criteria.hosts.destination);
  destination_ports = ports_counted scope keeps (ports_in criteria.hosts.destination);
}

pub lists_counted : (scope : Scope) (keeps : Bool) (criteria : Criteria) (types : Option (List (Written IcmpMatch))) → AreCounted (lists_of scope keeps criteria types)
lists_counted scope keeps criteria types = lists_counted_with scope keeps criteria types _ (hosts_counted scope keeps (addresses_in criteria.hosts.source))

-- ---- how many combinations they make

choices_few : {A : Type 0} (list : Option (E.Elements A)) → IsListCounted list → is_long list ≡ false → length (choices_of (items_of list)) ≤ count_of list
choices_few None own short = omega arith
choices_few {A = A} (Some list) own short =
    let least : length list.items ≤ list.count = own (ltb-false 1048576 list.count short) in
    let some : A → Option A = Some in
    let long = length-map list.items some in
    omega (arith, least, long)

hosts_few : (list : Option (E.Elements HostCriterion)) → IsListCounted list → is_long list ≡ false → length (hosts_of (items_of list)) ≤ count_of list
hosts_few None own short = omega arith
hosts_few (Some list) own short = own (ltb-false 1048576 list.count short)

choices_are_few : (l : L.Lists) → AreCounted l → has_long_list l ≡ false → length (combinations (choices l)) ≤ product l
unfolding has_long_list product
choices_are_few l are short =
    let seventh = or_parts _ _ short in
    let sixth = or_parts _ _ seventh.0 in
    let fifth = or_parts _ _ sixth.0 in
    let fourth = or_parts _ _ fifth.0 in
    let third = or_parts _ _ fourth.0 in
    let second = or_parts _ _ third.0 in
    let a = choices_few l.interfaces are.interfaces second.0 in
    let b = mul-le _ _ _ _ a (choices_few l.protocols are.protocols second.1) in
    let c = mul-le _ _ _ _ b (choices_few l.icmp_types are.icmp_types third.1) in
    let d = mul-le _ _ _ _ c (hosts_few l.sources are.sources fourth.1) in
    let e = mul-le _ _ _ _ d (choices_few l.source_ports are.source_ports fifth.1) in
    let f = mul-le _ _ _ _ e (hosts_few l.destinations are.destinations sixth.1) in
    let g = mul-le _ _ _ _ f (choices_few l.destination_ports are.destination_ports seventh.1) in
    rw (combination_count (choices l)) g

pub no_other : (c d : C.Choices) (fault : Option ConfError) → or_choices c fault ≡ Ok d → d ≡ c
no_other c d None is = cc is
no_other c d (Some e) is = absurd (cc is)

-- of lists that aren't too long there are no more combinations than their lengths multiply to
pub combinations_few : (l : L.Lists) (c : C.Choices) → AreCounted l → has_long_list l ≡ false → choices_or_fault l ≡ Ok c → length (combinations c) ≤ product l
unfolding choices_or_fault
combinations_few l c are short is = rw (no_other (choices l) c (fault_of l) is) (choices_are_few l are short)

-- ---- what is counted

-- a statement whose rules aren't too many
pub record IsWithin (used : ℕ) (l : L.Lists) (before copies count : ℕ) : Type 0 where
  pub short : has_long_list l ≡ false
  pub few : used + count ≤ 65536
  pub is : count ≡ before + product l * copies

pub within : (used line : ℕ) (l : L.Lists) (before copies count : ℕ) → counted used line l before copies ≡ Ok count → IsWithin used l before copies count
unfolding counted
within used line l before copies count is = by_size (exceeds used l (before + product l * copies)) refl is
  where
    by_size : (large : Bool) → exceeds used l (before + product l * copies) ≡ large → (if large then Err (too_many line) else Ok (before + product l * copies)) ≡ Ok count → IsWithin used l before copies count
    by_size true e is = absurd (cc is)
    by_size false e is =
        let parts : (has_long_list l ≡ false) × (nat_lt 65536 (used + (before + product l * copies)) ≡ false) = or_parts _ _ e in
        let same : count ≡ before + product l * copies = cc is in
        let few : used + (before + product l * copies) ≤ 65536 = ltb-false 65536 (used + (before + product l * copies)) parts.1 in
        record { short = parts.0; few = omega (arith, same, few); is = same }
