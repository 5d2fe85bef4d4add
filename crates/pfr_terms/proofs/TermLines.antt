-- The readers of lists, addresses, ports and other terms have their faults on lines of the text.
use Rattle.std.proofs.Common.{ℕ, List, Option, Some, None, Result, Ok, Err, codes, if◌then◌else◌}
use Rattle.pfr_net.specs.declared.address.Ipv4Address.{Ipv4Address}
use Rattle.pfr_net.specs.declared.port_match.PortMatch.{PortMatch}
use Rattle.pfr_net.specs.declared.port_match.PortMatch.TheVariants.{Compare, Range}
use Rattle.pfr_net.specs.declared.port_match.Comparison.{Comparison}
use Rattle.pfr_net.specs.declared.port_match.RangeOperator.{RangeOperator}
use Rattle.pfr_words.specs.declared.sign.Sign.TheVariants as s
use Rattle.pfr_terms.specs.declared.name.MacroUse.{MacroUse}
use Rattle.pfr_terms.specs.declared.name.Written.{Written}
use Rattle.pfr_terms.specs.declared.name.Written.TheVariants as w
use Rattle.pfr_terms.specs.declared.address.Host.{Host}
use Rattle.pfr_terms.specs.declared.address.Host.TheVariants as h
use Rattle.pfr_terms.specs.declared.address.AddressWord.{AddressWord}
use Rattle.pfr_terms.specs.declared.address.AddressWord.TheVariants as word
use Rattle.pfr_terms.specs.declared.port.PortWord.{PortWord}
use Rattle.pfr_terms.specs.declared.port.PortWord.TheVariants.{Port, Unknown}
use Rattle.pfr_terms.specs.declared.flags.FlagsMatch.{FlagsMatch}
use Rattle.pfr_terms.specs.Input.{Input, Parser, ◌>>=◌, pure, blamed, plain_ahead, macro_ahead, sign_ahead, line_ahead, eat_sign, eat_word, expect_sign}
use Rattle.pfr_terms.specs.Lists as lists
use Rattle.pfr_terms.specs.Addresses as addresses
use Rattle.pfr_terms.specs.Ports as ports
use Rattle.pfr_terms.specs.Terms as terms
use Rattle.pfr_terms.specs.Hosts as hosts
use Rattle.pfr_terms.proofs.Lines.{IsLine, Within, Keeps, fault_is, left_out_is, keeps_pure, keeps_then, keeps_by, keeps_blame, keeps_loop, keeps_passed, keeps_number_in, keeps_free_word, reading}

-- ---- lists

written_keeps : {A : Type 0} {n : ℕ} (item : Parser A) → Keeps n item → (found : Option MacroUse) → Keeps n (lists.written_by item found)
written_keeps item keeps (Some found) = search reading
written_keeps item keeps None = search reading

pub keeps_written : {A : Type 0} {n : ℕ} {item : Parser A} → Keeps n item → Keeps n (lists.written item)
unfolding lists.written
keeps_written {item = item} keeps = keeps_by macro_ahead (lists.written_by item) (written_keeps item keeps)

member_keeps : {A : Type 0} {n : ℕ} (item : Parser A) → Keeps n item → (more : List A → Parser (List A)) → ((found : List A) → Keeps n (more found)) → (found : List A) → Keeps n (lists.member item more found)
member_keeps item keeps more rest found = search (reading, rest)

pub keeps_members : {A : Type 0} {n : ℕ} {item : Parser A} → Keeps n item → Keeps n (lists.members item)
keeps_members {item = item} keeps = keeps_loop (lists.member item) _ (member_keeps item keeps)

pub keeps_list : {A : Type 0} {n : ℕ} {item : Parser A} → Keeps n item → Keeps n (lists.list item)
unfolding lists.list
keeps_list keeps = search (reading, keeps_members)

-- ---- addresses

address_fault_is : (n : ℕ) (bad : AddressWord) (i : Input) → Within n i → IsLine n (addresses.address_fault bad i).line
address_fault_is n word.TooManyBits i within = fault_is n _ i within
address_fault_is n word.Short i within = left_out_is n _ i within
address_fault_is n word.Name i within = left_out_is n _ i within
address_fault_is n bad i within = fault_is n _ i within

bad_address_keeps : {n : ℕ} (bad : AddressWord) → Keeps n (blamed (addresses.address_fault bad))
bad_address_keeps {n = n} bad = keeps_blame (addresses.address_fault bad) (address_fault_is n bad)

host_by_keeps : {n : ℕ} (text : List ℕ) (found : AddressWord) → Keeps n (addresses.host_by text found)
host_by_keeps text (word.Address address) = search reading
host_by_keeps text (word.Network network) = search reading
host_by_keeps text word.Name = search reading
host_by_keeps text bad = keeps_then (bad_address_keeps bad) (λ done. keeps_pure (addresses.stand_in text))

host_word_keeps : {n : ℕ} (text : List ℕ) → Keeps n (addresses.host_word text)
unfolding addresses.host_word
host_word_keeps text = host_by_keeps text _

bracketed_by_keeps : {n : ℕ} (found : Option MacroUse) → Keeps n (addresses.bracketed_by found)
bracketed_by_keeps (Some found) = search reading
bracketed_by_keeps None = search (reading, keeps_free_word)

bracketed_keeps : {n : ℕ} → Keeps n addresses.bracketed
unfolding addresses.bracketed
bracketed_keeps = keeps_by macro_ahead (λ found. do
  host ← addresses.bracketed_by found
  _ ← expect_sign s.CloseParenthesis
  pure host) (λ found. search (reading, bracketed_by_keeps))

bare_host_by_keeps : {n : ℕ} (found : Option (List ℕ)) → Keeps n (addresses.bare_host_by found)
bare_host_by_keeps None = search reading
bare_host_by_keeps (Some text) = search (reading, host_word_keeps, keeps_passed)

bare_host_keeps : {n : ℕ} → Keeps n addresses.bare_host
unfolding addresses.bare_host
bare_host_keeps = keeps_by plain_ahead addresses.bare_host_by bare_host_by_keeps

pub keeps_host : {n : ℕ} → Keeps n addresses.host
unfolding addresses.host
keeps_host = search (reading, bracketed_keeps, bare_host_keeps)

range_end_of_keeps : {n : ℕ} (first : Ipv4Address) (last : Result Ipv4Address AddressWord) → Keeps n (addresses.range_end_of first last)
range_end_of_keeps first (Ok last) = search reading
range_end_of_keeps first (Err bad) = keeps_then (bad_address_keeps bad) (λ done. keeps_pure first)

range_end_by_keeps : {n : ℕ} (first : Ipv4Address) (found : Option (List ℕ)) → Keeps n (addresses.range_end_by first found)
range_end_by_keeps first None = search reading
range_end_by_keeps first (Some text) = search (reading, range_end_of_keeps)

range_end_keeps : {n : ℕ} (first : Ipv4Address) → Keeps n (addresses.range_end first)
unfolding addresses.range_end
range_end_keeps first = keeps_by plain_ahead (addresses.range_end_by first) (range_end_by_keeps first)

pub keeps_range_from : {n : ℕ} (found : Host) → Keeps n (addresses.range_from found)
unfolding addresses.range_from
keeps_range_from (h.Address first) = search (reading, range_end_keeps)
keeps_range_from found = search reading

table_name_by_keeps : {n : ℕ} (found : Option (List ℕ)) → Keeps n (addresses.table_name_by found)
table_name_by_keeps None = search reading
table_name_by_keeps (Some text) = search (reading, keeps_passed)

pub keeps_table_name : {n : ℕ} → Keeps n addresses.table_name
unfolding addresses.table_name
keeps_table_name = keeps_by plain_ahead (λ found. do
  name ← addresses.table_name_by found
  _ ← expect_sign s.Greater
  pure name) (λ found. search (reading, table_name_by_keeps))

address_from_keeps : {n : ℕ} (found : Written Host) → Keeps n (addresses.address_from found)
address_from_keeps (w.Macro found) = search reading
address_from_keeps (w.Item found) = keeps_range_from found

pub keeps_rule_address : {n : ℕ} → Keeps n addresses.rule_address
unfolding addresses.rule_address
keeps_rule_address = search (reading, keeps_table_name, keeps_written, keeps_host, address_from_keeps) depth 8

pub keeps_address_match : {n : ℕ} → Keeps n addresses.address_match
unfolding addresses.address_match
keeps_address_match = search (reading, keeps_rule_address)

pub keeps_table_entry : {n : ℕ} → Keeps n addresses.table_entry
unfolding addresses.table_entry
keeps_table_entry = keeps_by line_ahead (λ line. do
  is_negated ← eat_sign s.Not
  found ← lists.written addresses.host
  pure (record { line = line; is_negated = is_negated; host = found })) (λ line. search (reading, keeps_written, keeps_host))

-- ---- ports

port_fault_is : (n : ℕ) (bad : PortWord) (i : Input) → Within n i → IsLine n (ports.port_fault bad i).line
port_fault_is n Unknown i within = left_out_is n _ i within
port_fault_is n bad i within = fault_is n _ i within

bad_port_keeps : {n : ℕ} (bad : PortWord) → Keeps n (blamed (ports.port_fault bad))
bad_port_keeps {n = n} bad = keeps_blame (ports.port_fault bad) (port_fault_is n bad)

port_of_keeps : {n : ℕ} (found : PortWord) → Keeps n (ports.port_of found)
port_of_keeps (Port port) = search reading
port_of_keeps bad = keeps_then (bad_port_keeps bad) (λ done. keeps_pure 0)

port_by_keeps : {n : ℕ} (found : Option (List ℕ)) → Keeps n (ports.port_by found)
port_by_keeps None = search reading
port_by_keeps (Some word) = search (reading, port_of_keeps)

pub keeps_port : {n : ℕ} → Keeps n ports.port
unfolding ports.port
keeps_port = keeps_by plain_ahead ports.port_by port_by_keeps

ports_of_keeps : {n : ℕ} (word : List ℕ) (found : Result PortMatch PortWord) → Keeps n (ports.ports_of word found)
ports_of_keeps word (Ok found) = search reading
ports_of_keeps word (Err bad) = keeps_then (bad_port_keeps bad) (λ done. keeps_pure (ports.stand_in word))

port_or_range_by_keeps : {n : ℕ} (found : Option (List ℕ)) → Keeps n (ports.port_or_range_by found)
port_or_range_by_keeps None = search reading
port_or_range_by_keeps (Some word) = search (reading, ports_of_keeps)

pub keeps_port_or_range : {n : ℕ} → Keeps n ports.port_or_range
unfolding ports.port_or_range
keeps_port_or_range = keeps_by plain_ahead ports.port_or_range_by port_or_range_by_keeps

pub keeps_eaten : {A : Type 0} {n : ℕ} (found : Option A) → Keeps n (ports.eaten found)
keeps_eaten None = search reading
keeps_eaten (Some found) = search reading

eat_comparison_keeps : {n : ℕ} → Keeps n ports.eat_comparison
unfolding ports.eat_comparison
eat_comparison_keeps = keeps_by (λ i. ports.by_sign ports.comparison_of (sign_ahead i)) ports.eaten keeps_eaten

eat_operator_keeps : {n : ℕ} → Keeps n ports.eat_operator
unfolding ports.eat_operator
eat_operator_keeps = keeps_by (λ i. ports.by_sign ports.operator_of (sign_ahead i)) ports.eaten keeps_eaten

range_by_keeps : {n : ℕ} (first : PortMatch) (low : ℕ) (found : Option RangeOperator) → Keeps n (ports.range_by first low found)
range_by_keeps first low None = search reading
range_by_keeps first low (Some operator) = search (reading, keeps_port)

ports_from_keeps : {n : ℕ} (found : PortMatch) → Keeps n (ports.ports_from found)
unfolding ports.ports_from
ports_from_keeps (Compare comparison low) = search (reading, eat_operator_keeps, range_by_keeps)
ports_from_keeps (Range operator low high) = search reading

ports_behind_keeps : {n : ℕ} (found : Option Comparison) → Keeps n (ports.ports_behind found)
ports_behind_keeps (Some comparison) = search (reading, keeps_port)
ports_behind_keeps None = search (reading, keeps_port_or_range, ports_from_keeps)

pub keeps_port_match : {n : ℕ} → Keeps n ports.port_match
unfolding ports.port_match
keeps_port_match = search (reading, eat_comparison_keeps, ports_behind_keeps)

-- ---- interfaces, protocols, ICMP types and flags

interface_name_by_keeps : {n : ℕ} (found : Option (List ℕ)) → Keeps n (terms.interface_name_by found)
interface_name_by_keeps None = search reading
interface_name_by_keeps (Some word) = search (reading, keeps_passed)

pub keeps_interface_name : {n : ℕ} → Keeps n terms.interface_name
unfolding terms.interface_name
keeps_interface_name = keeps_by plain_ahead terms.interface_name_by interface_name_by_keeps

pub keeps_interface_match : {n : ℕ} → Keeps n terms.interface_match
unfolding terms.interface_match
keeps_interface_match = search (reading, keeps_written, keeps_interface_name)

pub keeps_octet : {n : ℕ} → Keeps n terms.octet
unfolding terms.octet
keeps_octet = keeps_number_in 0 255

octet_or_named_keeps : {n : ℕ} (found : Option ℕ) → Keeps n (terms.octet_or_named found)
octet_or_named_keeps (Some number) = search reading
octet_or_named_keeps None = keeps_octet

pub keeps_protocol : {n : ℕ} → Keeps n terms.protocol
unfolding terms.protocol
keeps_protocol = keeps_by (λ i. terms.protocol_in (plain_ahead i)) (λ found. do
  number ← terms.octet_or_named found
  pure (record { 0 = number })) (λ found. search (reading, octet_or_named_keeps))

pub keeps_icmp_match : {n : ℕ} → Keeps n terms.icmp_match
unfolding terms.icmp_match
keeps_icmp_match = keeps_by (λ i. terms.icmp_type_in (plain_ahead i)) (λ found. do
  kind ← terms.octet_or_named found
  has_code ← eat_word (codes "code")
  code ← (if has_code then (do found ← terms.octet; pure (Some found)) else pure None)
  pure (record { kind = kind; code = code })) (λ found. search (reading, octet_or_named_keeps, keeps_octet) depth 8)

flags_match_by_keeps : {n : ℕ} (found : Option FlagsMatch) → Keeps n (terms.flags_match_by found)
flags_match_by_keeps None = search reading
flags_match_by_keeps (Some flags) = search reading

pub keeps_flags_match : {n : ℕ} → Keeps n terms.flags_match
unfolding terms.flags_match
keeps_flags_match = keeps_by (λ i. terms.flags_of (plain_ahead i)) terms.flags_match_by flags_match_by_keeps

-- ---- where packets come from and go to

pub keeps_behind : {A : Type 0} {n : ℕ} (word : List ℕ) {p : Parser A} → Keeps n p → Keeps n (hosts.behind word p)
keeps_behind word keeps = search reading

pub keeps_ports : {n : ℕ} → Keeps n hosts.ports
unfolding hosts.ports
keeps_ports = keeps_behind _ (keeps_list (keeps_written keeps_port_match))

part_from_keeps : {n : ℕ} (found : Option (List (Written PortMatch))) → Keeps n (hosts.part_from found)
part_from_keeps (Some found) = search reading
part_from_keeps None = search (reading, keeps_list, keeps_address_match, keeps_ports)

pub keeps_one_end : {n : ℕ} → Keeps n hosts.one_end
unfolding hosts.one_end
keeps_one_end = search (reading, keeps_ports, part_from_keeps)

pub keeps_part_behind : {n : ℕ} (word : List ℕ) → Keeps n (hosts.part_behind word)
unfolding hosts.part_behind
keeps_part_behind word = keeps_behind word keeps_one_end

pub keeps_hosts : {n : ℕ} → Keeps n hosts.hosts
unfolding hosts.hosts
keeps_hosts = search (reading, keeps_part_behind)

pub keeps_interfaces : {n : ℕ} → Keeps n hosts.interfaces
unfolding hosts.interfaces
keeps_interfaces = keeps_behind _ (keeps_list keeps_interface_match)

pub keeps_protocols : {n : ℕ} → Keeps n hosts.protocols
unfolding hosts.protocols
keeps_protocols = keeps_behind _ (keeps_list (keeps_written keeps_protocol))

pub keeps_criteria : {n : ℕ} → Keeps n hosts.criteria
unfolding hosts.criteria
keeps_criteria = search (reading, keeps_interfaces, keeps_protocols, keeps_hosts)
