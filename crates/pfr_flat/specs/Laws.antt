-- What the laws say.
use Rattle.std.specs.Prelude.{◌≡◌, ◌*◌, length, ◌+◌, ℕ, slice_get, Some, ◌/◌, ◌%◌, ◌↔◌, ◌<◌, true, false, List, Bool, Result, IsOkAnd, ◌≤◌, [], ◌∷◌, map, None, Ok}
use Rattle.std.specs.List.{All}
use Rattle.pfr_ruleset.specs.declared.flat.PacketMatch.{PacketMatch}
use Rattle.pfr_ruleset.specs.declared.table.Entry.{Entry}
use Rattle.pfr_ruleset.specs.declared.hosts.HostCriterion.{HostCriterion}
use Rattle.pfr_ruleset.specs.Membership.{Holds}
use Rattle.pfr_words.specs.Words.{words}
use Rattle.pfr_terms.specs.declared.address.Address.TheVariants.{Table}
use Rattle.pfr_terms.specs.declared.error.ConfError.{ConfError}
use Rattle.pfr_terms.specs.declared.name.Name.{Name}
use Rattle.pfr_terms.specs.declared.name.MacroUse.{MacroUse}
use Rattle.pfr_terms.specs.Input.{Input, of_value}
use Rattle.pfr_elements.specs.declared.scope.Scope.{Scope}
use Rattle.pfr_elements.specs.Hosts.{host_criterion}
use Rattle.pfr_elements.specs.Names.{last_place}
use Rattle.pfr_elements.specs.declared.definition.ListMeanings.{ListMeanings}
use Rattle.pfr_elements.specs.declared.definition.Text.{Text}
use Rattle.pfr_elements.specs.declared.definition.Taken.TheVariants.{Whole}
use Rattle.pfr_elements.specs.Elements.{Kind, elements_of, most_elements, value_items, value_item}
use Rattle.pfr_elements.specs.Meanings.{list_meanings}
use Rattle.pfr_elements.specs.Values.{taken_at}
use Rattle.pfr_flat.specs.declared.choices.Choices.{Choices}
use Rattle.pfr_flat.specs.Choices.{combinations}

-- there are as many combinations as the lengths of the lists multiply to
abbrev pub AsManyAsTheProduct : Type 0
AsManyAsTheProduct =
    (c : Choices)
    → length (combinations c) ≡ length c.interfaces * length c.protocols * length c.icmp_types * length c.sources * length c.source_ports * length c.destinations * length c.destination_ports

-- a match stands at the place whose digits are the places of its parts
abbrev pub ChoicesStandAtTheirDigits : Type 0
ChoicesStandAtTheirDigits =
    (c : Choices) (m : PacketMatch) (interface protocol icmp source source_port destination destination_port : ℕ)
    → slice_get c.interfaces interface ≡ Some m.interface
    → slice_get c.protocols protocol ≡ Some m.protocol
    → slice_get c.icmp_types icmp ≡ Some m.icmp
    → slice_get c.sources source ≡ Some m.source
    → slice_get c.source_ports source_port ≡ Some m.source_port
    → slice_get c.destinations destination ≡ Some m.destination
    → slice_get c.destination_ports destination_port ≡ Some m.destination_port
    → slice_get (combinations c) ((((((interface * length c.protocols + protocol) * length c.icmp_types + icmp) * length c.sources + source) * length c.source_ports + source_port) * length c.destinations + destination) * length c.destination_ports + destination_port) ≡ Some m

-- the digits of a place are the places of the choices there
abbrev pub DigitsAreTheChoices : Type 0
DigitsAreTheChoices =
    (c : Choices) (m : PacketMatch) (place : ℕ)
    → slice_get (combinations c) place ≡ Some m
    → (slice_get c.destination_ports (place % length c.destination_ports) ≡ Some m.destination_port)
    × (slice_get c.destinations (place / length c.destination_ports % length c.destinations) ≡ Some m.destination)
    × (slice_get c.source_ports (place / length c.destination_ports / length c.destinations % length c.source_ports) ≡ Some m.source_port)
    × (slice_get c.sources (place / length c.destination_ports / length c.destinations / length c.source_ports % length c.sources) ≡ Some m.source)
    × (slice_get c.icmp_types (place / length c.destination_ports / length c.destinations / length c.source_ports / length c.sources % length c.icmp_types) ≡ Some m.icmp)
    × (slice_get c.protocols (place / length c.destination_ports / length c.destinations / length c.source_ports / length c.sources / length c.icmp_types % length c.protocols) ≡ Some m.protocol)
    × (slice_get c.interfaces (place / length c.destination_ports / length c.destinations / length c.source_ports / length c.sources / length c.icmp_types / length c.protocols) ≡ Some m.interface)

-- each address is held by one of the two and not by the other, whatever the tables hold
abbrev pub AreOpposite : HostCriterion → HostCriterion → Type 0
AreOpposite negated plain =
    (tables : List (List Entry)) (address : ℕ)
    → (Holds tables negated address ↔ ¬ Holds tables plain address) × (Holds tables plain address ↔ ¬ Holds tables negated address)

-- what the name of a table means, with a `!` or without
abbrev pub table_criterion : Scope → Bool → Name → Result HostCriterion ConfError
table_criterion scope is_negated name = host_criterion scope (record { is_negated = is_negated; address = Table name })

-- `!<NAME>` asks for just the addresses that `<NAME>` doesn't
abbrev pub NegatedIsTheNegation : Type 0
NegatedIsTheNegation =
    (scope : Scope) (name : Name) (place : ℕ)
    → last_place name.text scope.tables ≡ Some place
    → place < scope.defined
    → IsOkAnd (table_criterion scope true name) (λ negated. IsOkAnd (table_criterion scope false name) (λ plain. AreOpposite negated plain))

-- a list of one use of a macro comes to the same as the list of the things that the macro's words say
abbrev pub ListByMacro : {A B : Type 0} → Kind A B → ListMeanings → Type 0
ListByMacro {A = A} {B = B} kind meanings =
    (scope made : Scope) (xs : List A) (flats : List B) (u : A) (found : MacroUse) (text : Text) (i : Input)
    → All (λ x. kind.use_in x ≡ None) xs
    → map (kind.meaning scope) xs ≡ map Ok flats
    → length xs ≤ most_elements
    → kind.use_in u ≡ Some found
    → kind.negated u ≡ false
    → taken_at scope.macros false found ≡ Ok (Whole text)
    → text.meanings.lists ≡ meanings
    → meanings ≡ list_meanings made (words text.bytes)
    → value_items (value_item kind made) (of_value (words text.bytes)) ≡ Ok (flats, i)
    → i.gathered ≡ None
    → (kind.list_in meanings).tables ≤ scope.defined
    → elements_of kind scope true (u ∷ []) ≡ elements_of kind scope true xs
