-- The readers of translation rules have their faults on lines of the text.
use Rattle.std.proofs.Common.{ℕ, Bool, List, Option, Some, None, Result, Ok, Err}
use Rattle.pfr_terms.specs.declared.name.Written.{Written}
use Rattle.pfr_terms.specs.declared.name.Written.TheVariants as w
use Rattle.pfr_terms.specs.declared.address.Host.{Host}
use Rattle.pfr_terms.specs.declared.address.Host.TheVariants as h
use Rattle.pfr_terms.specs.Input.{Input, ◌>>=◌, is_free, plain_ahead, line_ahead}
use Rattle.pfr_terms.specs.Lists as lists
use Rattle.pfr_terms.specs.Addresses as addresses
use Rattle.pfr_terms.specs.Ports as ports
use Rattle.pfr_terms.proofs.Lines.{IsLine, Within, Keeps, line_ahead_is, fault_is, left_out_is, keeps_then, keeps_pure, keeps_test, keeps_by, keeps_fault, keeps_refuse, keeps_leave_out, reading}
use Rattle.pfr_terms.proofs.TermLines.{keeps_written, keeps_host, keeps_eaten, keeps_port_or_range, keeps_ports, keeps_part_behind, keeps_interfaces, keeps_protocols, keeps_criteria}
use Rattle.pfr_conf.specs.declared.targets.RedirectedPort.{RedirectedPort}
use Rattle.pfr_conf.specs.declared.targets.PortFault.{PortFault}
use Rattle.pfr_conf.specs.declared.targets.PortFault.TheVariants.{Service, Number, Pool}
use Rattle.pfr_conf.specs.declared.translation.TranslationKind.{TranslationKind}
use Rattle.pfr_conf.specs.declared.translation.TranslationKind.TheVariants.{Nat, Rdr, Binat}
use Rattle.pfr_conf.specs.Targets as targets
use Rattle.pfr_conf.specs.Translations as translations
use Rattle.pfr_conf.proofs.RuleLines.{keeps_some_name, keeps_logged}

-- ---- targets

one_address_keeps : {n : ℕ} (line : ℕ) → IsLine n line → (found : Written Host) → Keeps n (targets.one_address line found)
unfolding targets.one_address
one_address_keeps line is (w.Item (h.Network network)) = keeps_test _ (keeps_fault _ (λ i within. is)) (keeps_pure _)
one_address_keeps line is (w.Item (h.Address address)) = keeps_test _ (keeps_fault _ (λ i within. is)) (keeps_pure _)
one_address_keeps line is (w.Item other) = search reading
one_address_keeps line is (w.Macro found) = search reading

one_host_keeps : {n : ℕ} → Keeps n (λ i. (lists.written addresses.host >>= targets.one_address (line_ahead i)) i)
one_host_keeps {n = n} = record { from = λ i within. (keeps_then (keeps_written keeps_host) (one_address_keeps (line_ahead i) (line_ahead_is n i within))).from i within }

single_host_keeps : {n : ℕ} (has_tables : Bool) → Keeps n (targets.single_host has_tables)
unfolding targets.single_host
single_host_keeps has_tables = search (reading, keeps_test, one_host_keeps)

redirected_fault_is : (n : ℕ) (bad : PortFault) (i : Input) → Within n i → IsLine n (targets.redirected_fault bad i).line
redirected_fault_is n Service i within = left_out_is n _ i within
redirected_fault_is n Number i within = fault_is n _ i within
redirected_fault_is n Pool i within = left_out_is n _ i within

redirected_of_keeps : {n : ℕ} (found : Result RedirectedPort PortFault) → Keeps n (targets.redirected_of found)
redirected_of_keeps (Ok port) = search reading
redirected_of_keeps {n = n} (Err bad) = keeps_fault (targets.redirected_fault bad) (redirected_fault_is n bad)

redirected_in_keeps : {n : ℕ} (found : Option (List ℕ)) → Keeps n (targets.redirected_in found)
redirected_in_keeps None = search reading
redirected_in_keeps (Some word) = keeps_test (λ i. is_free word) (keeps_by line_ahead (λ line. targets.redirected_of (targets.redirected_word line word)) (λ line. redirected_of_keeps _)) keeps_refuse

redirected_port_keeps : {n : ℕ} → Keeps n targets.redirected_port
unfolding targets.redirected_port
redirected_port_keeps = keeps_test _ (keeps_leave_out _) (keeps_by plain_ahead targets.redirected_in redirected_in_keeps)

nat_ports_keeps : {n : ℕ} → Keeps n targets.nat_ports
unfolding targets.nat_ports
nat_ports_keeps = search (reading, keeps_test, keeps_port_or_range) depth 8

nat_target_keeps : {n : ℕ} → Keeps n targets.nat_target
unfolding targets.nat_target
nat_target_keeps = search (reading, single_host_keeps, nat_ports_keeps)

rdr_target_keeps : {n : ℕ} → Keeps n targets.rdr_target
unfolding targets.rdr_target
rdr_target_keeps = search (reading, single_host_keeps, redirected_port_keeps) depth 8

target_keeps : {n : ℕ} (kind : TranslationKind) → Keeps n (targets.target kind)
unfolding targets.target
target_keeps Nat = nat_target_keeps
target_keeps Rdr = rdr_target_keeps
target_keeps Binat = search (reading, single_host_keeps)

-- ---- rules

kind_keeps : {n : ℕ} → Keeps n translations.kind
unfolding translations.kind
kind_keeps = keeps_by (λ i. translations.kind_in (plain_ahead i)) ports.eaten keeps_eaten

anchor_kind_keeps : {n : ℕ} → Keeps n translations.anchor_kind
unfolding translations.anchor_kind
anchor_kind_keeps = keeps_by (λ i. translations.anchor_kind_in (plain_ahead i)) ports.eaten keeps_eaten

binat_source_keeps : {n : ℕ} → Keeps n translations.binat_source
unfolding translations.binat_source
binat_source_keeps = search (reading, single_host_keeps, keeps_ports)

binat_criteria_keeps : {n : ℕ} → Keeps n translations.binat_criteria
unfolding translations.binat_criteria
binat_criteria_keeps = search (reading, keeps_interfaces, keeps_protocols, binat_source_keeps, keeps_part_behind) depth 8

translated_keeps : {n : ℕ} (kind : TranslationKind) → Keeps n (translations.translated kind)
unfolding translations.translated
translated_keeps Binat = binat_criteria_keeps
translated_keeps Nat = keeps_criteria
translated_keeps Rdr = keeps_criteria

passes_keeps : {n : ℕ} → Keeps n translations.passes
unfolding translations.passes
passes_keeps = search (reading, keeps_logged)

target_behind_arrow_keeps : {n : ℕ} (kind : TranslationKind) → Keeps n (translations.target_behind_arrow kind)
unfolding translations.target_behind_arrow
target_behind_arrow_keeps kind = search (reading, target_keeps)

rule_with_target_keeps : {n : ℕ} (line : ℕ) (kind : TranslationKind) → Keeps n (translations.rule_with_target line kind)
unfolding translations.rule_with_target
rule_with_target_keeps line kind = search (reading, passes_keeps, translated_keeps, target_behind_arrow_keeps) depth 8

without_target_keeps : {n : ℕ} (line : ℕ) (found : Option TranslationKind) → Keeps n (translations.without_target line found)
without_target_keeps line None = search reading
without_target_keeps line (Some kind) = search (reading, passes_keeps, keeps_criteria)

rule_without_target_keeps : {n : ℕ} (line : ℕ) → Keeps n (translations.rule_without_target line)
unfolding translations.rule_without_target
rule_without_target_keeps line = search (reading, kind_keeps, without_target_keeps)

rule_by_keeps : {n : ℕ} (line : ℕ) (found : Option TranslationKind) → Keeps n (translations.rule_by line found)
rule_by_keeps line None = search reading
rule_by_keeps line (Some kind) = rule_with_target_keeps line kind

rule_on_keeps : {n : ℕ} (line : ℕ) → Keeps n (translations.rule_on line)
rule_on_keeps line = search (reading, rule_without_target_keeps, kind_keeps, rule_by_keeps)

translation_rule_keeps : {n : ℕ} → Keeps n translations.translation_rule
unfolding translations.translation_rule
translation_rule_keeps = keeps_by line_ahead translations.rule_on rule_on_keeps

anchor_or_rule_keeps : {n : ℕ} (found : Option TranslationKind) → Keeps n (translations.anchor_or_rule found)
anchor_or_rule_keeps (Some kind) = search (reading, keeps_some_name)
anchor_or_rule_keeps None = search (reading, translation_rule_keeps)

pub keeps_translation_statement : {n : ℕ} → Keeps n translations.translation_statement
unfolding translations.translation_statement
keeps_translation_statement = search (reading, anchor_kind_keeps, anchor_or_rule_keeps)
