-- The readers of translation rules read the same if lines stand behind what they read.
use Rattle.std.proofs.Common.{ℕ, ◌||◌, ◌&&◌, Bool, true, false, List, Option, Some, None, Result, Ok, Err, codes, nat_lt, refl}
use Rattle.pfr_net.specs.declared.port_match.PortMatch.{PortMatch}
use Rattle.pfr_words.specs.declared.sign.Sign.TheVariants as s
use Rattle.pfr_terms.specs.declared.error.ConfError.{ConfError}
use Rattle.pfr_terms.specs.declared.error.ConfErrorKind.TheVariants.{BadNumber, BadAddress}
use Rattle.pfr_terms.specs.declared.name.Written.{Written}
use Rattle.pfr_terms.specs.declared.name.Written.TheVariants as w
use Rattle.pfr_terms.specs.declared.address.Host.{Host}
use Rattle.pfr_terms.specs.declared.address.Host.TheVariants as h
use Rattle.pfr_terms.specs.declared.hosts.Part.{Part}
use Rattle.pfr_terms.specs.declared.hosts.Criteria as C
use Rattle.pfr_terms.specs.Input.{◌>>=◌, is_free, plain_ahead, line_ahead, sees_sign, sees_word}
use Rattle.pfr_terms.specs.Lists as lists
use Rattle.pfr_terms.specs.Addresses as addresses
use Rattle.pfr_terms.specs.Ports as ports
use Rattle.pfr_terms.proofs.BraceStays.{stays_expect_sign, stays_expect_word}
use Rattle.pfr_terms.proofs.Closers.{Stays}
use Rattle.pfr_terms.proofs.Sights.{Sight, plain_sight, plain_shows, line_sight, fault_sight, left_out_sight, word_sight, sees_sight, named_sight, named_shows}
use Rattle.pfr_terms.proofs.Stays.{stays_pure, stays_then, stays_found, stays_if, stays_by, stays_at, stays_test, stays_fault, stays_eat_word, stays_taken, stays_refuse, stays_faulty, stays_leave_out}
use Rattle.pfr_terms.proofs.TermStays.{stays_written, stays_host, stays_port_or_range, stays_ports, stays_part_behind, stays_interfaces, stays_protocols, stays_criteria}
use Rattle.pfr_conf.specs.declared.targets.RedirectedPort.{RedirectedPort}
use Rattle.pfr_conf.specs.declared.targets.PortFault.{PortFault}
use Rattle.pfr_conf.specs.declared.targets.PortFault.TheVariants.{Service, Number, Pool}
use Rattle.pfr_conf.specs.declared.targets.Target as T
use Rattle.pfr_conf.specs.declared.translation.TranslationKind.{TranslationKind}
use Rattle.pfr_conf.specs.declared.translation.TranslationKind.TheVariants.{Nat, Rdr, Binat}
use Rattle.pfr_conf.specs.declared.translation.TranslationRule.{TranslationRule}
use Rattle.pfr_conf.specs.declared.translation.TranslationStatement.{TranslationStatement}
use Rattle.pfr_conf.specs.Targets as targets
use Rattle.pfr_conf.specs.Translations as translations
use Rattle.pfr_conf.proofs.RuleStays.{stays_some_name, stays_logged}

-- ---- one address

same_fault_stays : {A : Type 0} {before to sees : Bool} {closing count : ℕ} {eaten : A → Bool} (e : ConfError) → Stays {A = A} before to closing sees eaten count (λ i. Err e) (λ i. Err e)
same_fault_stays e = stays_fault (λ i. e) (record { alike = λ line ys i. refl })

one_address_stays : {inside : Bool} {count : ℕ} (line : ℕ) (found : Written Host) → Stays inside inside 0 false (λ (a : Written Host). false) count (targets.one_address line found) (targets.one_address line found)
unfolding targets.one_address
one_address_stays line (w.Item (h.Network network)) = stays_test (λ i. nat_lt network.bits 32) (record { alike = λ line ys i. refl }) (same_fault_stays _) (stays_pure _)
one_address_stays line (w.Item (h.Address address)) = stays_test (sees_sign s.Minus) (sees_sight s.Minus) (same_fault_stays _) (stays_pure _)
one_address_stays line (w.Item other) = stays_pure _
one_address_stays line (w.Macro found) = stays_pure _

pool_sight : (has_tables : Bool) → Sight (λ i. sees_sign s.OpenBrace i || (has_tables && sees_sign s.Less i))
pool_sight has_tables = record { alike = λ line ys i. rw ((sees_sight s.OpenBrace).alike line ys i, (sees_sight s.Less).alike line ys i) refl }

no_address_sight : Sight (λ i. sees_sign s.Less i || sees_sign s.Not i || sees_word (codes "any") i)
no_address_sight = record { alike = λ line ys i. rw ((sees_sight s.Less).alike line ys i, (sees_sight s.Not).alike line ys i, (word_sight (codes "any")).alike line ys i) refl }

single_host_stays : {inside sees : Bool} {count : ℕ} (has_tables : Bool) → Stays inside inside 0 sees (λ (a : Written Host). false) count (targets.single_host has_tables) (targets.single_host has_tables)
unfolding targets.single_host
single_host_stays has_tables =
    stays_test (λ i. sees_sign s.OpenBrace i || (has_tables && sees_sign s.Less i)) (pool_sight has_tables) (stays_leave_out _)
    (stays_test (λ i. sees_sign s.Less i || sees_sign s.Not i || sees_word (codes "any") i) no_address_sight (stays_faulty BadAddress)
    (stays_at line_ahead (λ line. lists.written addresses.host >>= targets.one_address line) line_sight (λ line. stays_then (stays_written stays_host) (one_address_stays line))))

-- ---- ports

redirected_fault_sight : (bad : PortFault) → Sight (targets.redirected_fault bad)
redirected_fault_sight Service = left_out_sight _
redirected_fault_sight Number = fault_sight BadNumber
redirected_fault_sight Pool = left_out_sight _

redirected_of_stays : {inside : Bool} {count : ℕ} (found : Result RedirectedPort PortFault) → Stays inside inside 0 true (λ (a : RedirectedPort). false) count (targets.redirected_of found) (targets.redirected_of found)
redirected_of_stays (Ok port) = stays_then stays_taken (λ done. stays_pure port)
redirected_of_stays (Err bad) = stays_fault (targets.redirected_fault bad) (redirected_fault_sight bad)

redirected_in_stays : {inside : Bool} {count : ℕ} (word : List ℕ) → Stays inside inside 0 true (λ (a : RedirectedPort). false) count (targets.redirected_in (Some word)) (targets.redirected_in (Some word))
redirected_in_stays word = stays_test (λ i. is_free word) (record { alike = λ line ys i. refl })
    (stays_at line_ahead (λ line. targets.redirected_of (targets.redirected_word line word)) line_sight (λ line. redirected_of_stays _)) stays_refuse

redirected_port_stays : {inside sees : Bool} {count : ℕ} → Stays inside inside 0 sees (λ (a : RedirectedPort). false) count targets.redirected_port targets.redirected_port
unfolding targets.redirected_port
redirected_port_stays = stays_test (sees_sign s.OpenBrace) (sees_sight s.OpenBrace) (stays_leave_out _) (stays_by plain_ahead targets.redirected_in plain_sight plain_shows stays_refuse redirected_in_stays)

ports_or_pool_stays : {inside sees : Bool} {count : ℕ} → Stays inside inside 0 sees (λ (a : PortMatch). false) count targets.ports_or_pool targets.ports_or_pool
ports_or_pool_stays = stays_test (sees_sign s.OpenBrace) (sees_sight s.OpenBrace) (stays_leave_out _) stays_port_or_range

nat_ports_stays : {inside sees : Bool} {count : ℕ} → Stays inside inside 0 sees (λ (a : Option PortMatch). false) count targets.nat_ports targets.nat_ports
unfolding targets.nat_ports
nat_ports_stays = stays_found _ (stays_then ports_or_pool_stays (λ ports. stays_pure _)) (stays_pure None)

-- ---- targets

nat_target_stays : {inside sees : Bool} {count : ℕ} → Stays inside inside 0 sees (λ (a : T.Target). false) count targets.nat_target targets.nat_target
unfolding targets.nat_target
nat_target_stays = stays_then (single_host_stays _) (λ address. stays_then nat_ports_stays (λ ports. stays_then (stays_eat_word _) (λ static_port. stays_pure _)))

rdr_target_stays : {inside sees : Bool} {count : ℕ} → Stays inside inside 0 sees (λ (a : T.Target). false) count targets.rdr_target targets.rdr_target
unfolding targets.rdr_target
rdr_target_stays = stays_then (single_host_stays _) (λ address. stays_then (stays_eat_word _) (λ has_port. stays_then (stays_if has_port (stays_then redirected_port_stays (λ found. stays_pure _)) (stays_pure None)) (λ port. stays_pure _)))

target_stays : {inside sees : Bool} {count : ℕ} (kind : TranslationKind) → Stays inside inside 0 sees (λ (a : T.Target). false) count (targets.target kind) (targets.target kind)
unfolding targets.target
target_stays Nat = nat_target_stays
target_stays Rdr = rdr_target_stays
target_stays Binat = stays_then (single_host_stays _) (λ address. stays_pure _)

-- ---- criteria

eaten_stays : {X : Type 0} {inside : Bool} {count : ℕ} (found : X) → Stays inside inside 0 true (λ (a : Option X). false) count (ports.eaten (Some found)) (ports.eaten (Some found))
eaten_stays found = stays_then stays_taken (λ done. stays_pure (Some found))

kind_stays : {inside sees : Bool} {count : ℕ} → Stays inside inside 0 sees (λ (a : Option TranslationKind). false) count translations.kind translations.kind
unfolding translations.kind translations.kind_in
kind_stays = stays_by (λ i. translations.kind_in (plain_ahead i)) ports.eaten (named_sight translations.kind_in) (named_shows translations.kind_in refl) (stays_pure None) eaten_stays

anchor_kind_stays : {inside sees : Bool} {count : ℕ} → Stays inside inside 0 sees (λ (a : Option TranslationKind). false) count translations.anchor_kind translations.anchor_kind
unfolding translations.anchor_kind translations.anchor_kind_in
anchor_kind_stays = stays_by (λ i. translations.anchor_kind_in (plain_ahead i)) ports.eaten (named_sight translations.anchor_kind_in) (named_shows translations.anchor_kind_in refl) (stays_pure None) eaten_stays

binat_source_stays : {sees : Bool} {count : ℕ} → Stays false false 0 sees (λ (a : Part). false) count translations.binat_source translations.binat_source
unfolding translations.binat_source
binat_source_stays = stays_then (stays_expect_word _) (λ done. stays_then (single_host_stays _) (λ host. stays_then stays_ports (λ found. stays_pure _)))

binat_criteria_stays : {sees : Bool} {count : ℕ} → Stays false false 0 sees (λ (a : C.Criteria). false) count translations.binat_criteria translations.binat_criteria
unfolding translations.binat_criteria
binat_criteria_stays = stays_then stays_interfaces (λ on. stays_then (stays_eat_word _) (λ inet. stays_then stays_protocols (λ proto. stays_then binat_source_stays (λ source. stays_then (stays_part_behind _) (λ destination. stays_pure _)))))

translated_stays : {sees : Bool} {count : ℕ} (kind : TranslationKind) → Stays false false 0 sees (λ (a : C.Criteria). false) count (translations.translated kind) (translations.translated kind)
unfolding translations.translated
translated_stays Binat = binat_criteria_stays
translated_stays Nat = stays_criteria
translated_stays Rdr = stays_criteria

-- ---- rules

passes_stays : {inside sees : Bool} {count : ℕ} → Stays inside inside 0 sees (λ (a : Bool × Bool). false) count translations.passes translations.passes
unfolding translations.passes
passes_stays = stays_found _ (stays_then stays_logged (λ is_logged. stays_pure _)) (stays_pure _)

target_behind_arrow_stays : {inside sees : Bool} {count : ℕ} (kind : TranslationKind) → Stays inside inside 0 sees (λ (a : T.Target). false) count (translations.target_behind_arrow kind) (translations.target_behind_arrow kind)
unfolding translations.target_behind_arrow
target_behind_arrow_stays kind = stays_then (stays_expect_sign s.Arrow tt) (λ done. target_stays kind)

rule_with_target_stays : {sees : Bool} {count : ℕ} (line : ℕ) (kind : TranslationKind) → Stays false false 0 sees (λ (a : TranslationRule). false) count (translations.rule_with_target line kind) (translations.rule_with_target line kind)
unfolding translations.rule_with_target
rule_with_target_stays line kind = stays_then passes_stays (λ passed. stays_then (translated_stays kind) (λ asked. stays_then (target_behind_arrow_stays kind) (λ to. stays_pure _)))

without_target_stays : {sees : Bool} {count : ℕ} (line : ℕ) (found : Option TranslationKind) → Stays false false 0 sees (λ (a : TranslationRule). false) count (translations.without_target line found) (translations.without_target line found)
without_target_stays line None = stays_refuse
without_target_stays line (Some kind) = stays_then passes_stays (λ passed. stays_then stays_criteria (λ asked. stays_pure _))

rule_without_target_stays : {sees : Bool} {count : ℕ} (line : ℕ) → Stays false false 0 sees (λ (a : TranslationRule). false) count (translations.rule_without_target line) (translations.rule_without_target line)
unfolding translations.rule_without_target
rule_without_target_stays line = stays_then kind_stays (without_target_stays line)

rule_by_stays : {sees : Bool} {count : ℕ} (line : ℕ) (found : Option TranslationKind) → Stays false false 0 sees (λ (a : TranslationRule). false) count (translations.rule_by line found) (translations.rule_by line found)
rule_by_stays line None = stays_refuse
rule_by_stays line (Some kind) = rule_with_target_stays line kind

rule_on_stays : {sees : Bool} {count : ℕ} (line : ℕ) → Stays false false 0 sees (λ (a : TranslationRule). false) count (translations.rule_on line) (translations.rule_on line)
rule_on_stays line = stays_then (stays_eat_word _) (λ is_no. stays_if is_no (rule_without_target_stays line) (stays_then kind_stays (rule_by_stays line)))

translation_rule_stays : {sees : Bool} {count : ℕ} → Stays false false 0 sees (λ (a : TranslationRule). false) count translations.translation_rule translations.translation_rule
unfolding translations.translation_rule
translation_rule_stays = stays_at line_ahead translations.rule_on line_sight rule_on_stays

anchor_or_rule_stays : {sees : Bool} {count : ℕ} (found : Option TranslationKind) → Stays false false 0 sees (λ (a : TranslationStatement). false) count (translations.anchor_or_rule found) (translations.anchor_or_rule found)
anchor_or_rule_stays (Some kind) = stays_then stays_some_name (λ name. stays_pure _)
anchor_or_rule_stays None = stays_then translation_rule_stays (λ rule. stays_pure _)

pub stays_translation_statement : {sees : Bool} {count : ℕ} → Stays false false 0 sees (λ (a : TranslationStatement). false) count translations.translation_statement translations.translation_statement
unfolding translations.translation_statement
stays_translation_statement = stays_then anchor_kind_stays anchor_or_rule_stays
