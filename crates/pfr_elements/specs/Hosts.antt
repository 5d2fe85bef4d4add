-- What addresses mean in a list: interface forms by the run's interfaces, tables by their places.
use Rattle.std.specs.Prelude.{ℕ, ◌+◌, min, nat_lt, if◌then◌else◌, Bool, true, false, List, Option, Some, None, Result, Ok, Err, codes}
use Rattle.pfr_net.specs.declared.network.Net.{Net}
use Rattle.pfr_ruleset.specs.declared.interface.Interface.{Interface}
use Rattle.pfr_ruleset.specs.declared.hosts.HostSet.{HostSet}
use Rattle.pfr_ruleset.specs.declared.hosts.HostSet.TheVariants as set
use Rattle.pfr_ruleset.specs.declared.hosts.HostCriterion.{HostCriterion}
use Rattle.pfr_words.specs.Words.{words}
use Rattle.pfr_words.specs.declared.word.Word.{Word}
use Rattle.pfr_terms.specs.declared.error.ConfError.{ConfError}
use Rattle.pfr_terms.specs.declared.name.Name.{Name}
use Rattle.pfr_terms.specs.declared.name.MacroUse.{MacroUse}
use Rattle.pfr_terms.specs.declared.name.Written.{Written}
use Rattle.pfr_terms.specs.declared.name.Written.TheVariants as w
use Rattle.pfr_terms.specs.declared.address.Host.{Host}
use Rattle.pfr_terms.specs.declared.address.Host.TheVariants as h
use Rattle.pfr_terms.specs.declared.address.Address.{Address}
use Rattle.pfr_terms.specs.declared.address.Address.TheVariants as a
use Rattle.pfr_terms.specs.declared.address.AddressMatch.{AddressMatch}
use Rattle.pfr_terms.specs.declared.address.TableEntry.{TableEntry}
use Rattle.pfr_terms.specs.Addresses as addresses
use Rattle.pfr_terms.specs.Input.{Parser, ◌>>=◌, pure, unknown_word, left_out_at, free_word, finish, of_value}
use Rattle.pfr_elements.specs.declared.scope.Scope.{Scope}
use Rattle.pfr_elements.specs.declared.definition.ListMeaning.{ListMeaning}
use Rattle.pfr_elements.specs.declared.definition.ListMeanings.{ListMeanings}
use Rattle.pfr_elements.specs.declared.definition.Taken.{Taken}
use Rattle.pfr_elements.specs.declared.definition.Taken.TheVariants as taken
use Rattle.pfr_elements.specs.Values.{taken_at}
use Rattle.pfr_elements.specs.Interfaces.{whole, masked, first_form, own_hosts}
use Rattle.pfr_elements.specs.Names.{last_place}
use Rattle.pfr_elements.specs.Elements.{Kind, noted, one_read, fault_on, undefined_table}
use Rattle.pfr_elements.specs.Terms.{use_in, misplaced}

-- ---- interface forms

abbrev pub form_by : ℕ → Option Net → Result Net ConfError
form_by line (Some network) = Ok network
form_by line None = Err (left_out_at line (codes "host name"))

-- a word that is no form of an interface is the name of a host
unfoldable pub form_meaning : List Interface → Name → Result Net ConfError
form_meaning interfaces name = form_by name.line (first_form interfaces name.text)

-- the one name in the value of a macro
unfoldable pub value_form : List Interface → Parser (Option Net)
value_form interfaces = do
  name ← free_word
  found ← noted (form_meaning interfaces name)
  _ ← finish
  pure found

-- what the words of a value mean in round brackets on this line
abbrev pub form_read : List Interface → ℕ → List Word → Result Net ConfError
form_read interfaces line ws = one_read line (value_form interfaces (of_value ws))

abbrev pub form_in : List Interface → ℕ → Result Taken ConfError → Result Net ConfError
form_in interfaces line (Err e) = Err e
form_in interfaces line (Ok (taken.TooLong is_list)) = Err (unknown_word line)
form_in interfaces line (Ok (taken.Word word)) = form_read interfaces line (words word)
form_in interfaces line (Ok (taken.Whole text)) = fault_on line text.meanings.form

-- the use of a macro in round brackets
unfoldable pub used_form : Scope → MacroUse → Result Net ConfError
used_form scope found = form_in scope.interfaces found.line (taken_at scope.macros false found)

-- ---- hosts

abbrev pub network_set : Result Net ConfError → Result HostSet ConfError
network_set (Ok network) = Ok (set.Network network)
network_set (Err e) = Err e

unfoldable pub host_meaning : Scope → Host → Result HostSet ConfError
host_meaning scope (h.Address address) = Ok (set.Network (whole address))
host_meaning scope (h.Network network) = Ok (set.Network (masked network))
host_meaning scope h.Own = Ok (own_hosts scope.interfaces)
host_meaning scope (h.Interface name) = network_set (form_meaning scope.interfaces name)
host_meaning scope (h.InterfaceMacro found) = network_set (used_form scope found)

-- ---- addresses of rules

-- a table by its place; the first `defined` tables are defined so far
abbrev pub table_by : Name → ℕ → Option ℕ → Result HostSet ConfError
table_by name defined (Some place) = if nat_lt place defined then Ok (set.Table place) else Err (undefined_table name.line)
table_by name defined None = Err (undefined_table name.line)

unfoldable pub address_meaning : Scope → Address → Result HostSet ConfError
address_meaning scope a.Any = Ok set.Any
address_meaning scope (a.Host host) = host_meaning scope host
address_meaning scope (a.Range first last) = Ok (set.Range first last)
address_meaning scope (a.Table name) = table_by name scope.defined (last_place name.text scope.tables)
address_meaning scope (a.Macro found) = Err (misplaced found)

abbrev pub with_sign : Bool → Result HostSet ConfError → Result HostCriterion ConfError
with_sign is_negated (Ok hosts) = Ok (record { is_negated = is_negated; hosts = hosts })
with_sign is_negated (Err e) = Err e

abbrev pub host_use_by : Address → Option MacroUse
host_use_by (a.Macro found) = Some found
host_use_by address = None

abbrev pub host_use : AddressMatch → Option MacroUse
host_use m = host_use_by m.address

abbrev pub host_negated : AddressMatch → Bool
host_negated m = m.is_negated

abbrev pub host_criterion : Scope → AddressMatch → Result HostCriterion ConfError
host_criterion scope m = with_sign m.is_negated (address_meaning scope m.address)

abbrev pub host_turned : HostCriterion → HostCriterion
host_turned c = record c { is_negated = true }

-- how many of the ruleset's tables have to be defined, as a number of 64 bits
abbrev pub tables_up_to : HostSet → ℕ
tables_up_to (set.Table place) = min (place + 1) 18446744073709551615
tables_up_to other = 0

abbrev pub host_tables : HostCriterion → ℕ
host_tables c = tables_up_to c.hosts

abbrev pub host_lists : ListMeanings → ListMeaning HostCriterion
host_lists m = m.hosts

abbrev pub host_kind : Kind AddressMatch HostCriterion
host_kind = record {
  form = addresses.address_match;
  use_in = host_use;
  negated = host_negated;
  meaning = host_criterion;
  turned = host_turned;
  tables = host_tables;
  list_in = host_lists;
}

-- ---- entries of tables

abbrev pub entry_by : Scope → Bool → Written Host → Result HostCriterion ConfError
entry_by scope is_negated (w.Item host) = with_sign is_negated (host_meaning scope host)
entry_by scope is_negated (w.Macro found) = Err (misplaced found)

abbrev pub entry_use : TableEntry → Option MacroUse
entry_use e = use_in e.host

abbrev pub entry_negated : TableEntry → Bool
entry_negated e = e.is_negated

-- a network, or the addresses of the interfaces
abbrev pub entry_meaning : Scope → TableEntry → Result HostCriterion ConfError
entry_meaning scope e = entry_by scope e.is_negated e.host

abbrev pub entry_lists : ListMeanings → ListMeaning HostCriterion
entry_lists m = m.entries

abbrev pub entry_kind : Kind TableEntry HostCriterion
entry_kind = record {
  form = addresses.table_entry;
  use_in = entry_use;
  negated = entry_negated;
  meaning = entry_meaning;
  turned = host_turned;
  tables = host_tables;
  list_in = entry_lists;
}
