-- One address, where pf.conf(5) would take a pool of several: the target of a translation rule, and the source of a
-- binat rule.
use Rattle.std.specs.Prelude.{ℕ, Bool, true, false, nat_lt, if◌then◌else◌, List, Option, None, Result, Ok, Err, codes}
use Rattle.pfr_net.specs.declared.address.Ipv4Address.{Ipv4Address}
use Rattle.pfr_net.specs.declared.network.Net.{Net}
use Rattle.pfr_ruleset.specs.declared.hosts.HostSet.{HostSet}
use Rattle.pfr_ruleset.specs.declared.hosts.HostSet.TheVariants as set
use Rattle.pfr_ruleset.specs.declared.hosts.HostCriterion.{HostCriterion}
use Rattle.pfr_words.specs.declared.sign.Sign.TheVariants as s
use Rattle.pfr_words.specs.Words.{words}
use Rattle.pfr_words.specs.declared.word.Word.{Word}
use Rattle.pfr_terms.specs.declared.error.ConfError.{ConfError}
use Rattle.pfr_terms.specs.declared.error.ConfErrorKind.TheVariants.{BadAddress}
use Rattle.pfr_terms.specs.declared.name.MacroUse.{MacroUse}
use Rattle.pfr_terms.specs.declared.name.Written.{Written}
use Rattle.pfr_terms.specs.declared.name.Written.TheVariants as w
use Rattle.pfr_terms.specs.declared.address.Host.{Host}
use Rattle.pfr_terms.specs.declared.address.Host.TheVariants as h
use Rattle.pfr_terms.specs.declared.address.Address.{Address}
use Rattle.pfr_terms.specs.declared.address.Address.TheVariants as a
use Rattle.pfr_terms.specs.declared.address.AddressMatch.{AddressMatch}
use Rattle.pfr_terms.specs.Input.{Parser, ◌>>=◌, pure, note, finish, line_ahead, sees_sign, of_value, unknown_word, left_out_at}
use Rattle.pfr_terms.specs.Addresses as addresses
use Rattle.pfr_elements.specs.declared.element.Elements as E
use Rattle.pfr_elements.specs.declared.scope.Scope.{Scope}
use Rattle.pfr_elements.specs.declared.definition.Meanings.{Meanings}
use Rattle.pfr_elements.specs.declared.definition.Taken.{Taken}
use Rattle.pfr_elements.specs.declared.definition.Taken.TheVariants as taken
use Rattle.pfr_elements.specs.Values.{taken_at}
use Rattle.pfr_elements.specs.Interfaces.{whole}
use Rattle.pfr_elements.specs.Elements.{noted, value_item, value_items, one_read, fault_on, none_yet, with_meaning, elements_from}
use Rattle.pfr_elements.specs.Hosts.{host_meaning, host_kind}
use Rattle.pfr_elements.specs.Terms.{misplaced}

-- ---- faults

-- more than one address is left out
abbrev pub pool : ℕ → ConfError
pool line = left_out_at line (codes "pool")

-- none that may stand here
abbrev pub bad_address : ℕ → ConfError
bad_address line = record { line = line; kind = BadAddress }

-- a table stands for several addresses, or for none that may stand here
abbrev pub table_fault : Bool → ℕ → ConfError
table_fault true line = pool line
table_fault false line = bad_address line

-- ---- hosts

-- the line of a host that is a name, else this line
abbrev pub host_line : ℕ → Host → ℕ
host_line line (h.Interface name) = name.line
host_line line (h.InterfaceMacro found) = found.line
host_line line other = line

abbrev pub one_network : ℕ → Net → Result Ipv4Address ConfError
one_network line network = if nat_lt network.bits 32 then Err (pool line) else Ok network.address

-- the addresses of several interfaces are more than one
abbrev pub one_address : ℕ → Result HostSet ConfError → Result Ipv4Address ConfError
one_address line (Err e) = Err e
one_address line (Ok (set.Network network)) = one_network line network
one_address line (Ok other) = Err (pool line)

abbrev pub one_host : Scope → ℕ → Host → Result Ipv4Address ConfError
one_host scope line host = one_address (host_line line host) (host_meaning scope host)

-- ---- the value of a macro

abbrev pub without_sign : Bool → ℕ → Result Ipv4Address ConfError → Result Ipv4Address ConfError
without_sign true line (Ok address) = Err (bad_address line)
without_sign false line (Ok address) = Ok address
without_sign is_negated line (Err e) = Err e

abbrev pub one_by : Bool → Scope → Bool → Address → Result Ipv4Address ConfError
one_by has_tables scope is_negated (a.Host host) = without_sign is_negated 0 (one_host scope 0 host)
one_by has_tables scope is_negated (a.Table name) = Err (table_fault has_tables 0)
one_by has_tables scope is_negated (a.Macro found) = Err (misplaced found)
one_by has_tables scope is_negated other = Err (bad_address 0)

-- what an address in a value comes to where one address has to stand; its fault will stand where the value is used
unfoldable pub one_meaning : Bool → Scope → AddressMatch → Result Ipv4Address ConfError
one_meaning has_tables scope m = one_by has_tables scope m.is_negated m.address

-- a list is more than one address, even if it has only one
abbrev pub value_list : Scope → Parser (Option Ipv4Address)
value_list scope = do
  _ ← (λ i. note (pool (line_ahead i)) i)
  _ ← value_items (value_item host_kind scope)
  pure None

abbrev pub value_host : Bool → Scope → Parser (Option Ipv4Address)
value_host has_tables scope = do
  m ← addresses.address_match
  found ← noted (one_meaning has_tables scope m)
  _ ← finish
  pure found

-- the value of a macro that stands for one address
unfoldable pub value_single : Bool → Scope → Parser (Option Ipv4Address)
value_single has_tables scope = λ i. if sees_sign s.OpenBrace i then value_list scope i else value_host has_tables scope i

-- the one address that the words of a value mean on this line
abbrev pub single_read : Bool → Scope → ℕ → List Word → Result Ipv4Address ConfError
single_read has_tables scope line ws = one_read line (value_single has_tables scope (of_value ws))

-- as a target a table stands for several addresses, as a source for none that may stand there
abbrev pub single_of : Bool → Meanings → Result Ipv4Address ConfError
single_of true m = m.target
single_of false m = m.source

abbrev pub single_in : Bool → Scope → ℕ → Result Taken ConfError → Result Ipv4Address ConfError
single_in has_tables scope line (Err e) = Err e
single_in has_tables scope line (Ok (taken.TooLong true)) = Err (pool line)
single_in has_tables scope line (Ok (taken.TooLong false)) = Err (unknown_word line)
single_in has_tables scope line (Ok (taken.Word word)) = single_read has_tables scope line (words word)
single_in has_tables scope line (Ok (taken.Whole text)) = fault_on line (single_of has_tables text.meanings)

-- the use of a macro that stands for one address
unfoldable pub used_single : Bool → Scope → MacroUse → Result Ipv4Address ConfError
used_single has_tables scope found = single_in has_tables scope found.line (taken_at scope.macros false found)

-- ---- what is written in a rule

-- an address or the use of a macro for one, in a rule on this line
unfoldable pub written_single : Bool → Scope → ℕ → Written Host → Result Ipv4Address ConfError
written_single has_tables scope line (w.Item host) = one_host scope line host
written_single has_tables scope line (w.Macro found) = used_single has_tables scope found

-- ---- the source of a rule

abbrev pub source_by : Scope → ℕ → Address → Result Ipv4Address ConfError
source_by scope line (a.Host host) = one_host scope line host
source_by scope line (a.Macro found) = used_single false scope found
source_by scope line other = Err (bad_address line)

-- an address of a rule's source, where neither a table nor an address with a `!` may stand
unfoldable pub source_single : Scope → ℕ → AddressMatch → Result Ipv4Address ConfError
source_single scope line m = if m.is_negated then Err (bad_address line) else source_by scope line m.address

abbrev pub criterion_of : Result Ipv4Address ConfError → Result HostCriterion ConfError
criterion_of (Ok address) = Ok (record { is_negated = false; hosts = set.Network (whole address) })
criterion_of (Err e) = Err e

-- one more element of a source
abbrev pub with_source : Scope → ℕ → E.Elements HostCriterion → AddressMatch → E.Elements HostCriterion
with_source scope line found m = with_meaning (criterion_of (source_single scope line m)) found

-- the elements of a source, of which each has to be one address
abbrev pub single_sources : Scope → ℕ → List AddressMatch → E.Elements HostCriterion
single_sources scope line list = elements_from (with_source scope line) none_yet list
