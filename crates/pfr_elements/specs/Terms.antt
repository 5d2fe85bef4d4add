-- What interfaces, protocols, ports and ICMP types mean in a list.
use Rattle.std.specs.Prelude.{ℕ, Bool, true, false, Option, Some, None, Result, Ok, Err}
use Rattle.pfr_net.specs.declared.protocol.Protocol.{Protocol}
use Rattle.pfr_net.specs.declared.icmp_match.IcmpMatch.{IcmpMatch}
use Rattle.pfr_net.specs.declared.port_match.PortMatch.{PortMatch}
use Rattle.pfr_net.specs.declared.interface.IfName.{IfName}
use Rattle.pfr_ruleset.specs.declared.interface.InterfaceCriterion.{InterfaceCriterion}
use Rattle.pfr_net.specs.Interfaces.{if_name}
use Rattle.pfr_terms.specs.declared.error.ConfError.{ConfError}
use Rattle.pfr_terms.specs.declared.name.MacroUse.{MacroUse}
use Rattle.pfr_terms.specs.declared.name.Written.{Written}
use Rattle.pfr_terms.specs.declared.name.Written.TheVariants as w
use Rattle.pfr_terms.specs.declared.interface.InterfaceName.{InterfaceName}
use Rattle.pfr_terms.specs.declared.interface.InterfaceMatch.{InterfaceMatch}
use Rattle.pfr_terms.specs.Input.{Parser, ◌>>=◌, pure, unknown_word}
use Rattle.pfr_terms.specs.Lists as lists
use Rattle.pfr_terms.specs.Terms as terms
use Rattle.pfr_terms.specs.Ports as ports
use Rattle.pfr_elements.specs.declared.definition.ListMeaning.{ListMeaning}
use Rattle.pfr_elements.specs.declared.definition.ListMeanings.{ListMeanings}
use Rattle.pfr_elements.specs.declared.scope.Scope.{Scope}
use Rattle.pfr_elements.specs.Elements.{Kind}

abbrev pub use_in : {A : Type 0} → Written A → Option MacroUse
use_in (w.Macro found) = Some found
use_in (w.Item x) = None

-- a thing that is never behind a `!`
abbrev pub never : {A : Type 0} → A → Bool
never x = false

abbrev pub same : {A : Type 0} → A → A
same x = x

-- a use within a value, which can't be: a `$` is no word of it
abbrev pub misplaced : MacroUse → ConfError
misplaced found = unknown_word found.line

-- a thing that names no table
abbrev pub no_table : {A : Type 0} → A → ℕ
no_table x = 0

abbrev pub literal : {A B : Type 0} → (A → B) → Written A → Result B ConfError
literal flat (w.Item x) = Ok (flat x)
literal flat (w.Macro found) = Err (misplaced found)

abbrev pub plain_meaning : {A B : Type 0} → (A → B) → Scope → Written A → Result B ConfError
plain_meaning flat scope written = literal flat written

-- an item as it is read, and what it means
abbrev pub flat_item : {A B : Type 0} → Parser A → (A → B) → Parser B
flat_item item flat = do
  x ← item
  pure (flat x)

-- an item that means the same wherever it stands, or the use of a macro
abbrev pub plain : {A B : Type 0} → Parser A → (A → B) → (ListMeanings → ListMeaning B) → Kind (Written A) B
plain item flat list_in = record {
  form = lists.written item;
  use_in = use_in;
  negated = never;
  meaning = plain_meaning flat;
  turned = same;
  tables = no_table;
  list_in = list_in;
}

abbrev pub protocol_lists : ListMeanings → ListMeaning Protocol
protocol_lists m = m.protocols

abbrev pub protocol_kind : Kind (Written Protocol) Protocol
protocol_kind = plain terms.protocol same protocol_lists

abbrev pub icmp_lists : ListMeanings → ListMeaning IcmpMatch
icmp_lists m = m.icmp_types

abbrev pub icmp_kind : Kind (Written IcmpMatch) IcmpMatch
icmp_kind = plain terms.icmp_match same icmp_lists

abbrev pub port_lists : ListMeanings → ListMeaning PortMatch
port_lists m = m.ports

abbrev pub port_kind : Kind (Written PortMatch) PortMatch
port_kind = plain ports.port_match same port_lists

-- ---- interfaces

abbrev pub name_of : InterfaceName → IfName
name_of found = if_name found.name.text

abbrev pub skipped_lists : ListMeanings → ListMeaning IfName
skipped_lists m = m.skipped

abbrev pub skipped_kind : Kind (Written InterfaceName) IfName
skipped_kind = plain terms.interface_name name_of skipped_lists

abbrev pub named : Bool → Written InterfaceName → Result InterfaceCriterion ConfError
named is_negated (w.Item found) = Ok (record { is_negated = is_negated; name = if_name found.name.text })
named is_negated (w.Macro found) = Err (misplaced found)

abbrev pub interface_use : InterfaceMatch → Option MacroUse
interface_use m = use_in m.interface

abbrev pub interface_negated : InterfaceMatch → Bool
interface_negated m = m.is_negated

abbrev pub interface_meaning : Scope → InterfaceMatch → Result InterfaceCriterion ConfError
interface_meaning scope m = named m.is_negated m.interface

abbrev pub interface_turned : InterfaceCriterion → InterfaceCriterion
interface_turned c = record c { is_negated = true }

abbrev pub interface_lists : ListMeanings → ListMeaning InterfaceCriterion
interface_lists m = m.interfaces

abbrev pub interface_kind : Kind InterfaceMatch InterfaceCriterion
interface_kind = record {
  form = terms.interface_match;
  use_in = interface_use;
  negated = interface_negated;
  meaning = interface_meaning;
  turned = interface_turned;
  tables = no_table;
  list_in = interface_lists;
}
