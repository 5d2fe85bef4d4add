-- The readers of lists, addresses, ports and other terms read the same if lines stand behind what they read.
use Rattle.std.proofs.Common.{◌≡◌, ℕ, suc, Bool, true, false, List, ◌∷◌, [], Option, Some, None, Result, Ok, Err, codes, if◌then◌else◌, ap, refl}
use Rattle.pfr_net.specs.declared.address.Ipv4Address.{Ipv4Address}
use Rattle.pfr_net.specs.declared.protocol.Protocol.{Protocol}
use Rattle.pfr_net.specs.declared.port_match.PortMatch.{PortMatch}
use Rattle.pfr_net.specs.declared.port_match.PortMatch.TheVariants.{Compare, Range}
use Rattle.pfr_net.specs.declared.port_match.Comparison.{Comparison}
use Rattle.pfr_net.specs.declared.port_match.RangeOperator.{RangeOperator}
use Rattle.pfr_net.specs.declared.icmp_match.IcmpMatch.{IcmpMatch}
use Rattle.pfr_words.specs.declared.sign.Sign.{Sign}
use Rattle.pfr_words.specs.declared.sign.Sign.TheVariants as s
use Rattle.pfr_words.specs.declared.word.Token.{Token}
use Rattle.pfr_words.specs.declared.word.Token.TheVariants as t
use Rattle.pfr_words.specs.declared.word.Word.{Word}
use Rattle.pfr_words.specs.Words.{same_sign}
use Rattle.pfr_terms.specs.declared.name.MacroUse.{MacroUse}
use Rattle.pfr_terms.specs.declared.name.Written.{Written}
use Rattle.pfr_terms.specs.declared.name.Written.TheVariants as w
use Rattle.pfr_terms.specs.declared.address.Address.{Address}
use Rattle.pfr_terms.specs.declared.address.AddressMatch.{AddressMatch}
use Rattle.pfr_terms.specs.declared.address.TableEntry.{TableEntry}
use Rattle.pfr_terms.specs.declared.address.Host.{Host}
use Rattle.pfr_terms.specs.declared.address.Host.TheVariants as h
use Rattle.pfr_terms.specs.declared.address.AddressWord.{AddressWord}
use Rattle.pfr_terms.specs.declared.address.AddressWord.TheVariants as word
use Rattle.pfr_terms.specs.declared.name.Name.{Name}
use Rattle.pfr_terms.specs.declared.port.PortWord.{PortWord}
use Rattle.pfr_terms.specs.declared.port.PortWord.TheVariants.{Port, Unknown}
use Rattle.pfr_terms.specs.declared.flags.FlagsMatch.{FlagsMatch}
use Rattle.pfr_terms.specs.declared.interface.InterfaceName.{InterfaceName}
use Rattle.pfr_terms.specs.declared.interface.InterfaceMatch.{InterfaceMatch}
use Rattle.pfr_terms.specs.Input.{Parser, ◌>>=◌, pure, blamed, plain_ahead, macro_ahead, sign_ahead, sign_in, of_first, line_ahead, eat_sign, eat_word, expect_sign}
use Rattle.pfr_terms.specs.Lists as lists
use Rattle.pfr_terms.specs.Addresses as addresses
use Rattle.pfr_terms.specs.Ports as ports
use Rattle.pfr_terms.specs.Terms as terms
use Rattle.pfr_terms.specs.Hosts as hosts
use Rattle.pfr_terms.proofs.BraceStays.{staying, stays_open_list, stays_close_list, stays_passed, stays_passing, stays_number_in, stays_free_word}
use Rattle.pfr_terms.proofs.Closers.{Stays, Starts, is_inner}
use Rattle.pfr_terms.proofs.Sights.{Sight, Shows, plain_sight, plain_shows, macro_sight, macro_shows, sign_sight, line_sight, fault_sight, left_out_sight, named_sight, named_shows}
use Rattle.pfr_terms.proofs.Stays.{stays_pure, stays_pure_told, stays_then, stays_first, stays_turn, stays_found, stays_found_sign, stays_if, stays_any, stays_blind, stays_by, stays_at, stays_loop, stays_blamed, stays_eat_word, stays_eat_sign, stays_named, stays_refuse}

-- ---- lists

written_item : {A : Type 0} {inside sees : Bool} {count : ℕ} {eaten : Written A → Bool} (item : Parser A) → Stays inside inside 0 sees (λ a. true) count item item → Stays inside inside 0 sees eaten count (lists.written_by item None) (lists.written_by item None)
written_item item stays = stays_first stays (λ x. stays_pure (w.Item x))

written_macro : {A : Type 0} {inside : Bool} {count : ℕ} {eaten : Written A → Bool} (item : Parser A) (found : MacroUse) → Stays inside inside 0 true eaten count (lists.written_by item (Some found)) (lists.written_by item (Some found))
written_macro item found = search staying

pub stays_written : {A : Type 0} {inside sees : Bool} {count : ℕ} {eaten : Written A → Bool} {item : Parser A} → Stays inside inside 0 sees (λ a. true) count item item → Stays inside inside 0 sees eaten count (lists.written item) (lists.written item)
unfolding lists.written
stays_written {item = item} stays = stays_by macro_ahead (lists.written_by item) macro_sight macro_shows (written_item item stays) (written_macro item)

pub stays_members : {A : Type 0} {count : ℕ} {item : Parser A} → ((count : ℕ) → Stays true true 0 false (λ a. true) count item item) → Stays true false 1 false (λ a. false) count (lists.members item) (lists.members item)
stays_members {item = item} stays = stays_loop (lists.member item) _ (λ count more other rest found.
    stays_turn (stays (suc count)) (λ x. stays_close_list _ (stays_then (stays_eat_sign s.Comma tt) (λ comma. rest _))))

pub stays_list : {A : Type 0} {sees : Bool} {count : ℕ} {item : Parser A} → ((inside : Bool) (count : ℕ) → Stays inside inside 0 false (λ a. true) count item item) → Stays false false 0 sees (λ a. false) count (lists.list item) (lists.list item)
unfolding lists.list
stays_list {count = count} {item = item} stays = stays_open_list (λ is_braced. if is_braced then lists.members item else (do
  x ← item
  pure (x ∷ []))) _ (stays_members (stays true)) (stays_first (stays_blind (stays false count)) (λ x. stays_pure _))

-- ---- addresses

address_fault_sight : (bad : AddressWord) → Sight (addresses.address_fault bad)
address_fault_sight word.TooManyBits = fault_sight _
address_fault_sight word.Short = left_out_sight _
address_fault_sight word.Name = left_out_sight _
address_fault_sight bad = fault_sight _

bad_address_stays : {before to sees : Bool} {closing count : ℕ} {eaten : Unit {0} → Bool} (bad : AddressWord) → Stays before to closing sees eaten count (blamed (addresses.address_fault bad)) (blamed (addresses.address_fault bad))
bad_address_stays bad = stays_blamed (addresses.address_fault bad) (address_fault_sight bad)

host_by_stays : {inside : Bool} {count : ℕ} {eaten : Host → Bool} (text : List ℕ) (found : AddressWord) → Stays inside inside 0 true eaten count (addresses.host_by text found) (addresses.host_by text found)
host_by_stays text (word.Address address) = search staying
host_by_stays text (word.Network network) = search staying
host_by_stays text word.Name = search staying
host_by_stays text bad = stays_first (bad_address_stays bad) (λ done. stays_pure (addresses.stand_in text))

host_word_stays : {inside : Bool} {count : ℕ} {eaten : Host → Bool} (text : List ℕ) → Stays inside inside 0 true eaten count (addresses.host_word text) (addresses.host_word text)
unfolding addresses.host_word
host_word_stays text = host_by_stays text _

bracketed_by_stays : {inside : Bool} {count : ℕ} {eaten : Host → Bool} (found : MacroUse) → Stays inside inside 0 true eaten count (addresses.bracketed_by (Some found)) (addresses.bracketed_by (Some found))
bracketed_by_stays found = search staying

bracketed_none_stays : {inside sees : Bool} {count : ℕ} {eaten : Host → Bool} → Stays inside inside 0 sees eaten count (addresses.bracketed_by None) (addresses.bracketed_by None)
bracketed_none_stays = stays_first stays_free_word (λ name. stays_pure (h.Interface name))

abbrev bracketed_behind : Host → Parser Host
bracketed_behind host = do
  _ ← expect_sign s.CloseParenthesis
  pure host

bracketed_behind_stays : {inside : Bool} {count : ℕ} (host : Host) → Stays inside inside 0 false (λ (a : Host). false) count (bracketed_behind host) (bracketed_behind host)
bracketed_behind_stays host = search staying

bracketed_stays : {inside sees : Bool} {count : ℕ} {eaten : Host → Bool} → Stays inside inside 0 sees eaten count addresses.bracketed addresses.bracketed
unfolding addresses.bracketed
bracketed_stays = stays_by macro_ahead (λ found. addresses.bracketed_by found >>= bracketed_behind) macro_sight macro_shows
    (stays_first bracketed_none_stays bracketed_behind_stays) (λ found. stays_first (bracketed_by_stays found) bracketed_behind_stays)

bare_host_stays : {inside sees : Bool} {count : ℕ} {eaten : Host → Bool} → Stays inside inside 0 sees eaten count addresses.bare_host addresses.bare_host
unfolding addresses.bare_host
bare_host_stays = stays_by plain_ahead addresses.bare_host_by plain_sight plain_shows stays_refuse (λ text. stays_if _ (host_word_stays text) (stays_first (stays_passed text) (λ name. stays_pure (h.Interface name))))

pub stays_host : {inside sees : Bool} {count : ℕ} {eaten : Host → Bool} → Stays inside inside 0 sees eaten count addresses.host addresses.host
unfolding addresses.host
stays_host = stays_found _ (stays_pure _) (stays_found_sign s.OpenParenthesis tt bracketed_stays bare_host_stays)

range_end_of_stays : {inside : Bool} {count : ℕ} {eaten : Ipv4Address → Bool} (first : Ipv4Address) (last : Result Ipv4Address AddressWord) → Stays inside inside 0 true eaten count (addresses.range_end_of first last) (addresses.range_end_of first last)
range_end_of_stays first (Ok last) = search staying
range_end_of_stays first (Err bad) = stays_first (bad_address_stays bad) (λ done. stays_pure first)

range_end_stays : {inside sees : Bool} {count : ℕ} {eaten : Ipv4Address → Bool} (first : Ipv4Address) → Stays inside inside 0 sees eaten count (addresses.range_end first) (addresses.range_end first)
unfolding addresses.range_end
range_end_stays first = stays_by plain_ahead (addresses.range_end_by first) plain_sight plain_shows (stays_passing first) (λ text. stays_if _ (range_end_of_stays first _) (stays_passing first))

pub stays_range_from : {inside sees : Bool} {count : ℕ} (found : Host) → Stays inside inside 0 sees (λ (a : Address). false) count (addresses.range_from found) (addresses.range_from found)
unfolding addresses.range_from
stays_range_from (h.Address first) = stays_found_sign s.Minus tt (stays_then (range_end_stays first) (λ last. stays_pure _)) (stays_pure _)
stays_range_from found = stays_pure _

table_name_none_stays : {inside sees : Bool} {count : ℕ} {eaten : Name → Bool} → Stays inside inside 0 sees eaten count (addresses.table_name_by None) (addresses.table_name_by None)
table_name_none_stays = search staying

table_name_by_stays : {inside : Bool} {count : ℕ} {eaten : Name → Bool} (text : List ℕ) → Stays inside inside 0 true eaten count (addresses.table_name_by (Some text)) (addresses.table_name_by (Some text))
table_name_by_stays text = search (staying, stays_passed)

abbrev table_name_behind : Name → Parser Name
table_name_behind name = do
  _ ← expect_sign s.Greater
  pure name

table_name_behind_stays : {inside : Bool} {count : ℕ} (name : Name) → Stays inside inside 0 false (λ (a : Name). false) count (table_name_behind name) (table_name_behind name)
table_name_behind_stays name = search staying

pub stays_table_name : {inside sees : Bool} {count : ℕ} {eaten : Name → Bool} → Stays inside inside 0 sees eaten count addresses.table_name addresses.table_name
unfolding addresses.table_name
stays_table_name = stays_by plain_ahead (λ found. addresses.table_name_by found >>= table_name_behind) plain_sight plain_shows
    (stays_first table_name_none_stays table_name_behind_stays) (λ text. stays_first (table_name_by_stays text) table_name_behind_stays)

address_from_stays : {inside sees : Bool} {count : ℕ} (found : Written Host) → Stays inside inside 0 sees (λ (a : Address). false) count (addresses.address_from found) (addresses.address_from found)
address_from_stays (w.Macro found) = stays_pure _
address_from_stays (w.Item found) = stays_range_from found

pub stays_rule_address : {inside sees : Bool} {count : ℕ} {eaten : Address → Bool} → Stays inside inside 0 sees eaten count addresses.rule_address addresses.rule_address
unfolding addresses.rule_address
stays_rule_address = stays_found _ (stays_pure _) (stays_found_sign s.Less tt (stays_then stays_table_name (λ name. stays_pure _)) (stays_first (stays_written stays_host) address_from_stays))

pub stays_address_match : {inside sees : Bool} {count : ℕ} {eaten : AddressMatch → Bool} → Stays inside inside 0 sees eaten count addresses.address_match addresses.address_match
unfolding addresses.address_match
stays_address_match = stays_then (stays_eat_sign s.Not tt) (λ is_negated. stays_first stays_rule_address (λ found. stays_pure _))

pub stays_table_entry : {inside sees : Bool} {count : ℕ} {eaten : TableEntry → Bool} → Stays inside inside 0 sees eaten count addresses.table_entry addresses.table_entry
unfolding addresses.table_entry
stays_table_entry = stays_at line_ahead (λ line. do
  is_negated ← eat_sign s.Not
  found ← lists.written addresses.host
  pure (record { line = line; is_negated = is_negated; host = found })) line_sight (λ line. stays_then (stays_eat_sign s.Not tt) (λ is_negated. stays_first (stays_written stays_host) (λ found. stays_pure _)))

-- ---- ports

port_fault_sight : (bad : PortWord) → Sight (ports.port_fault bad)
port_fault_sight Unknown = left_out_sight _
port_fault_sight bad = fault_sight _

bad_port_stays : {before to sees : Bool} {closing count : ℕ} {eaten : Unit {0} → Bool} (bad : PortWord) → Stays before to closing sees eaten count (blamed (ports.port_fault bad)) (blamed (ports.port_fault bad))
bad_port_stays bad = stays_blamed (ports.port_fault bad) (port_fault_sight bad)

port_of_stays : {inside : Bool} {count : ℕ} {eaten : ℕ → Bool} (found : PortWord) → Stays inside inside 0 true eaten count (ports.port_of found) (ports.port_of found)
port_of_stays (Port port) = search staying
port_of_stays bad = stays_first (bad_port_stays bad) (λ done. stays_pure 0)

pub stays_port : {inside sees : Bool} {count : ℕ} {eaten : ℕ → Bool} → Stays inside inside 0 sees eaten count ports.port ports.port
unfolding ports.port
stays_port = stays_by plain_ahead ports.port_by plain_sight plain_shows (stays_passing 0) (λ word. stays_if _ (port_of_stays _) (stays_passing 0))

ports_of_stays : {inside : Bool} {count : ℕ} {eaten : PortMatch → Bool} (word : List ℕ) (found : Result PortMatch PortWord) → Stays inside inside 0 true eaten count (ports.ports_of word found) (ports.ports_of word found)
ports_of_stays word (Ok found) = search staying
ports_of_stays word (Err bad) = stays_first (bad_port_stays bad) (λ done. stays_pure (ports.stand_in word))

pub stays_port_or_range : {inside sees : Bool} {count : ℕ} {eaten : PortMatch → Bool} → Stays inside inside 0 sees eaten count ports.port_or_range ports.port_or_range
unfolding ports.port_or_range
stays_port_or_range = stays_by plain_ahead ports.port_or_range_by plain_sight plain_shows (stays_passing _) (λ word. stays_if _ (ports_of_stays word _) (stays_passing _))

-- ---- signs of ports

comparison_inner : (sign : Sign) (found : Comparison) → ports.comparison_of sign ≡ Some found → is_inner (t.Sign sign) ≡ true
unfolding same_sign
comparison_inner s.OpenBrace found e = absurd (cc)
comparison_inner s.CloseBrace found e = absurd (cc)
comparison_inner sign found e = refl

operator_inner : (sign : Sign) (found : RangeOperator) → ports.operator_of sign ≡ Some found → is_inner (t.Sign sign) ≡ true
unfolding same_sign
operator_inner s.OpenBrace found e = absurd (cc)
operator_inner s.CloseBrace found e = absurd (cc)
operator_inner sign found e = refl

sign_starts : {X : Type 0} (f : Sign → Option X) (token : Token) (x : X) → ((sign : Sign) (y : X) → f sign ≡ Some y → is_inner (t.Sign sign) ≡ true) → ports.by_sign f (sign_in token) ≡ Some x → is_inner token ≡ true
sign_starts f (t.Sign sign) x inner e = inner sign x e
sign_starts f token x inner e = absurd (cc)

by_sign_starts : {X : Type 0} (f : Sign → Option X) (x : X) (ws : List Word) → ((sign : Sign) (y : X) → f sign ≡ Some y → is_inner (t.Sign sign) ≡ true) → ports.by_sign f (of_first (λ w. sign_in w.token) ws) ≡ Some x → Starts ws
by_sign_starts f x [] inner e = absurd (cc)
by_sign_starts f x (w ∷ ws) inner e = sign_starts f w.token x inner e

by_sign_shows : {X : Type 0} (f : Sign → Option X) → ((sign : Sign) (y : X) → f sign ≡ Some y → is_inner (t.Sign sign) ≡ true) → Shows (λ i. ports.by_sign f (sign_ahead i))
unfolding sign_ahead
by_sign_shows f inner = record { starts = λ i x e. by_sign_starts f x i.words inner e }

by_sign_sight : {X : Type 0} (f : Sign → Option X) → Sight (λ i. ports.by_sign f (sign_ahead i))
by_sign_sight f = record { alike = λ line ys i. ap (ports.by_sign f) (sign_sight.alike line ys i) }

-- ---- ports

eaten_stays : {X : Type 0} {inside : Bool} {count : ℕ} {eaten : Option X → Bool} (found : X) → Stays inside inside 0 true eaten count (ports.eaten (Some found)) (ports.eaten (Some found))
eaten_stays found = search staying

abbrev is_there : {X : Type 0} → Option X → Bool
is_there None = false
is_there (Some x) = true

eat_comparison_stays : {inside sees : Bool} {count : ℕ} → Stays inside inside 0 sees is_there count ports.eat_comparison ports.eat_comparison
unfolding ports.eat_comparison
eat_comparison_stays = stays_by (λ i. ports.by_sign ports.comparison_of (sign_ahead i)) ports.eaten (by_sign_sight ports.comparison_of) (by_sign_shows ports.comparison_of comparison_inner) (stays_pure_told None refl) eaten_stays

eat_operator_stays : {inside sees : Bool} {count : ℕ} → Stays inside inside 0 sees is_there count ports.eat_operator ports.eat_operator
unfolding ports.eat_operator
eat_operator_stays = stays_by (λ i. ports.by_sign ports.operator_of (sign_ahead i)) ports.eaten (by_sign_sight ports.operator_of) (by_sign_shows ports.operator_of operator_inner) (stays_pure_told None refl) eaten_stays

range_by_stays : {inside : Bool} {count : ℕ} (first : PortMatch) (low : ℕ) (found : Option RangeOperator) → Stays inside inside 0 false (λ (a : PortMatch). false) count (ports.range_by first low found) (ports.range_by first low found)
range_by_stays first low None = stays_pure first
range_by_stays first low (Some operator) = stays_then stays_port (λ high. stays_pure _)

ports_from_stays : {inside sees : Bool} {count : ℕ} (found : PortMatch) → Stays inside inside 0 sees (λ (a : PortMatch). false) count (ports.ports_from found) (ports.ports_from found)
unfolding ports.ports_from
ports_from_stays (Compare comparison low) = stays_then (stays_any is_there eat_operator_stays) (range_by_stays _ low)
ports_from_stays (Range operator low high) = stays_pure _

ports_behind_stays : {inside : Bool} {count : ℕ} {eaten : PortMatch → Bool} (found : Option Comparison) → Stays inside inside 0 false eaten count (ports.ports_behind found) (ports.ports_behind found)
ports_behind_stays (Some comparison) = stays_first stays_port (λ found. stays_pure _)
ports_behind_stays None = stays_first stays_port_or_range ports_from_stays

pub stays_port_match : {inside sees : Bool} {count : ℕ} {eaten : PortMatch → Bool} → Stays inside inside 0 sees eaten count ports.port_match ports.port_match
unfolding ports.port_match
stays_port_match = stays_then (stays_any is_there eat_comparison_stays) ports_behind_stays

-- ---- interfaces, protocols, ICMP types and flags

interface_name_by_stays : {inside : Bool} {count : ℕ} {eaten : InterfaceName → Bool} (text : List ℕ) → Stays inside inside 0 true eaten count (terms.interface_name_by (Some text)) (terms.interface_name_by (Some text))
interface_name_by_stays text = stays_if _ (stays_first (stays_named text) (λ name. stays_pure _)) (stays_first (stays_passed text) (λ name. stays_pure _))

pub stays_interface_name : {inside sees : Bool} {count : ℕ} {eaten : InterfaceName → Bool} → Stays inside inside 0 sees eaten count terms.interface_name terms.interface_name
unfolding terms.interface_name
stays_interface_name = stays_by plain_ahead terms.interface_name_by plain_sight plain_shows stays_refuse interface_name_by_stays

pub stays_interface_match : {inside sees : Bool} {count : ℕ} {eaten : InterfaceMatch → Bool} → Stays inside inside 0 sees eaten count terms.interface_match terms.interface_match
unfolding terms.interface_match
stays_interface_match = stays_then (stays_eat_sign s.Not tt) (λ is_negated. stays_first (stays_written stays_interface_name) (λ interface. stays_pure _))

pub stays_octet : {inside sees : Bool} {count : ℕ} {eaten : ℕ → Bool} → Stays inside inside 0 sees eaten count terms.octet terms.octet
unfolding terms.octet
stays_octet = stays_number_in 0 255

octet_named_stays : {inside : Bool} {count : ℕ} {eaten : ℕ → Bool} (found : ℕ) → Stays inside inside 0 true eaten count (terms.octet_or_named (Some found)) (terms.octet_or_named (Some found))
octet_named_stays found = search staying

abbrev numbered : ℕ → Parser Protocol
numbered number = pure (record { 0 = number })

numbered_stays : {inside : Bool} {count : ℕ} (number : ℕ) → Stays inside inside 0 false (λ (a : Protocol). false) count (numbered number) (numbered number)
numbered_stays number = stays_pure (record { 0 = number })

pub stays_protocol : {inside sees : Bool} {count : ℕ} {eaten : Protocol → Bool} → Stays inside inside 0 sees eaten count terms.protocol terms.protocol
unfolding terms.protocol
stays_protocol = stays_by (λ i. terms.protocol_in (plain_ahead i)) (λ found. terms.octet_or_named found >>= numbered) (named_sight terms.protocol_in) (named_shows terms.protocol_in refl)
    (stays_first stays_octet numbered_stays) (λ found. stays_first (octet_named_stays found) numbered_stays)

abbrev with_code : ℕ → Parser IcmpMatch
with_code kind = do
  has_code ← eat_word (codes "code")
  code ← (if has_code then (do found ← terms.octet; pure (Some found)) else pure None)
  pure (record { kind = kind; code = code })

with_code_stays : {inside : Bool} {count : ℕ} (kind : ℕ) → Stays inside inside 0 false (λ (a : IcmpMatch). false) count (with_code kind) (with_code kind)
with_code_stays kind = stays_then (stays_eat_word _) (λ has_code. stays_then (stays_if has_code (stays_then stays_octet (λ found. stays_pure _)) (stays_pure None)) (λ code. stays_pure _))

pub stays_icmp_match : {inside sees : Bool} {count : ℕ} {eaten : IcmpMatch → Bool} → Stays inside inside 0 sees eaten count terms.icmp_match terms.icmp_match
unfolding terms.icmp_match
stays_icmp_match = stays_by (λ i. terms.icmp_type_in (plain_ahead i)) (λ found. terms.octet_or_named found >>= with_code) (named_sight terms.icmp_type_in) (named_shows terms.icmp_type_in refl)
    (stays_first stays_octet with_code_stays) (λ found. stays_first (octet_named_stays found) with_code_stays)

flags_by_stays : {inside : Bool} {count : ℕ} {eaten : FlagsMatch → Bool} (found : FlagsMatch) → Stays inside inside 0 true eaten count (terms.flags_match_by (Some found)) (terms.flags_match_by (Some found))
flags_by_stays found = search staying

pub stays_flags_match : {inside sees : Bool} {count : ℕ} {eaten : FlagsMatch → Bool} → Stays inside inside 0 sees eaten count terms.flags_match terms.flags_match
unfolding terms.flags_match
stays_flags_match = stays_by (λ i. terms.flags_of (plain_ahead i)) terms.flags_match_by (named_sight terms.flags_of) (named_shows terms.flags_of refl) stays_refuse flags_by_stays

-- ---- where packets come from and go to

pub stays_behind : {A : Type 0} {inside sees : Bool} {count : ℕ} (word : List ℕ) {p : Parser A} → Stays inside inside 0 false (λ a. false) count p p → Stays inside inside 0 sees (λ a. false) count (hosts.behind word p) (hosts.behind word p)
stays_behind word stays = stays_found word (stays_then stays (λ x. stays_pure _)) (stays_pure None)

pub stays_ports : {sees : Bool} {count : ℕ} → Stays false false 0 sees (λ a. false) count hosts.ports hosts.ports
unfolding hosts.ports
stays_ports = stays_behind _ (stays_list (λ inside count. stays_written stays_port_match))

part_from_stays : {count : ℕ} (found : Option (List (Written PortMatch))) → Stays false false 0 false (λ a. false) count (hosts.part_from found) (hosts.part_from found)
part_from_stays (Some found) = stays_pure _
part_from_stays None = stays_then (stays_list (λ inside count. stays_address_match)) (λ addresses. stays_then stays_ports (λ found. stays_pure _))

pub stays_one_end : {sees : Bool} {count : ℕ} → Stays false false 0 sees (λ a. false) count hosts.one_end hosts.one_end
unfolding hosts.one_end
stays_one_end = stays_then stays_ports part_from_stays

pub stays_part_behind : {sees : Bool} {count : ℕ} (word : List ℕ) → Stays false false 0 sees (λ a. false) count (hosts.part_behind word) (hosts.part_behind word)
unfolding hosts.part_behind
stays_part_behind word = stays_behind word stays_one_end

pub stays_hosts : {sees : Bool} {count : ℕ} → Stays false false 0 sees (λ a. false) count hosts.hosts hosts.hosts
unfolding hosts.hosts
stays_hosts = stays_then (stays_eat_word _) (λ is_all. stays_if is_all (stays_pure _) (stays_then (stays_part_behind _) (λ source. stays_then (stays_part_behind _) (λ destination. stays_pure _))))

pub stays_interfaces : {sees : Bool} {count : ℕ} → Stays false false 0 sees (λ a. false) count hosts.interfaces hosts.interfaces
unfolding hosts.interfaces
stays_interfaces = stays_behind _ (stays_list (λ inside count. stays_interface_match))

pub stays_protocols : {sees : Bool} {count : ℕ} → Stays false false 0 sees (λ a. false) count hosts.protocols hosts.protocols
unfolding hosts.protocols
stays_protocols = stays_behind _ (stays_list (λ inside count. stays_written stays_protocol))

pub stays_criteria : {sees : Bool} {count : ℕ} → Stays false false 0 sees (λ a. false) count hosts.criteria hosts.criteria
unfolding hosts.criteria
stays_criteria = stays_then stays_interfaces (λ on. stays_then (stays_eat_word _) (λ inet. stays_then stays_protocols (λ proto. stays_then stays_hosts (λ ends. stays_pure _))))
