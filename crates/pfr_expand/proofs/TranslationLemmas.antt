-- The translation rules of a ruleset: each is of a statement.
use Rattle.std.proofs.Common.{◌≡◌, ℕ, suc, Bool, true, false, if◌then◌else◌, List, [], ◌∷◌, All, Contains, slice_index_or, Option, Some, None, IfSome, Result, Ok, Err, refl, sym, ap, subst, ◌∙◌}
use Rattle.std.proofs.lemmas.Bool.{and_parts}
use Rattle.std.proofs.lemmas.Option.{slice_get-get_or}
use Rattle.std.proofs.lemmas.List.Elements.{All-append, All-cons, All-head, All-nil, All-tail}
use Rattle.pfr_ruleset.specs.declared.interface.Interface.{Interface}
use Rattle.pfr_net.specs.declared.address.Ipv4Address.{Ipv4Address}
use Rattle.pfr_ruleset.specs.declared.flat.FlatTranslation.{FlatTranslation}
use Rattle.pfr_ruleset.specs.declared.flat.PortChange.TheVariants.{From}
use Rattle.pfr_ruleset.specs.declared.flat.RdrAddress.{RdrAddress}
use Rattle.pfr_net.specs.declared.port_match.PortMatch.{PortMatch}
use Rattle.pfr_ruleset.specs.declared.flat.PacketMatch.{PacketMatch}
use Rattle.pfr_ruleset.specs.declared.ruleset.Ruleset as R
use Rattle.pfr_ruleset.specs.Translations.{no_translations}
use Rattle.pfr_ruleset.specs.declared.translations.Translations.{Translations}
use Rattle.pfr_terms.specs.declared.error.ConfError.{ConfError}
use Rattle.pfr_conf.specs.declared.statement.Statement.{Statement}
use Rattle.pfr_conf.specs.declared.statement.Statement.TheVariants as s
use Rattle.pfr_conf.specs.declared.statement.Statements as S
use Rattle.pfr_conf.specs.declared.targets.NatTarget.{NatTarget}
use Rattle.pfr_conf.specs.declared.targets.RdrTarget.{RdrTarget}
use Rattle.pfr_conf.specs.declared.targets.RedirectedPort.{RedirectedPort}
use Rattle.pfr_conf.specs.declared.targets.RedirectedPort.TheVariants as r
use Rattle.pfr_conf.specs.declared.targets.Target.{Target}
use Rattle.pfr_conf.specs.declared.targets.Target.TheVariants as target
use Rattle.pfr_conf.specs.declared.translation.TranslationKind.{TranslationKind}
use Rattle.pfr_conf.specs.declared.translation.TranslationKind.TheVariants as kind
use Rattle.pfr_conf.specs.declared.translation.TranslationRule.{TranslationRule}
use Rattle.pfr_conf.specs.declared.translation.TranslationStatement.TheVariants as t
use Rattle.pfr_elements.specs.declared.scope.Scope.{Scope}
use Rattle.pfr_elements.specs.Single.{written_single}
use Rattle.pfr_flat.specs.declared.choices.Choices as C
use Rattle.pfr_flat.specs.Choices.{combinations}
use Rattle.pfr_flat.specs.Translations.{all_fit, fits, numbered}
use Rattle.pfr_flat.proofs.Digits.{choices_at}
use Rattle.pfr_expand.specs.declared.translation.Change.{Change}
use Rattle.pfr_expand.specs.declared.translation.Change.TheVariants as change
use Rattle.pfr_expand.specs.Laws.{AreOfOnes, IsOfOneOf, MovesWithinPorts}
use Rattle.pfr_expand.specs.Rulesets.{expanded}
use Rattle.pfr_expand.specs.Translations.{binat_by, change_by, change_of, nat_by, no_change, port_change, port_fault, rdr_by, rdr_if, with_rules}
use Rattle.pfr_expand.proofs.PlainLemmas.{chosen}
use Rattle.pfr_expand.proofs.KeepLemmas.{EachKeeps, all_stand}

-- ---- moved ports

-- all of the ports can be moved, if the rule moves them
abbrev AllFit : Option RdrAddress → List (Option PortMatch) → Type 0
AllFit to ports = IfSome to (λ target. (first : ℕ) → target.port ≡ From first → all_fit first ports ≡ true)

fit_if : (first : ℕ) (ports : List (Option PortMatch)) (e : ConfError) (fit : Bool) → all_fit first ports ≡ fit → ◌≡◌ {A = Option ConfError} (if fit then None else Some e) None → all_fit first ports ≡ true
fit_if first ports e true fit_is is = fit_is
fit_if first ports e false fit_is is = absurd (cc is)

fit_without_fault : (port : Option RedirectedPort) (ports : List (Option PortMatch)) (first : ℕ) → port_fault port ports ≡ None → port_change port ≡ From first → all_fit first ports ≡ true
fit_without_fault None ports first fault from = absurd (cc from)
fit_without_fault (Some (r.Fixed port)) ports first fault from = absurd (cc from)
fit_without_fault (Some (r.From line port)) ports first fault from =
    let same : port ≡ first = cc from in
    subst (λ (n : ℕ). all_fit n ports ≡ true) same (fit_if port ports _ (all_fit port ports) refl fault)

rdr_fits : (target : RdrTarget) (address : Ipv4Address) (ports : List (Option PortMatch)) (to : Option RdrAddress) (fault : Option ConfError) → port_fault target.port ports ≡ fault → rdr_if target address fault ≡ Ok (change.Rdr to) → AllFit to ports
rdr_fits target address ports to (Some e) fault_is is = absurd (cc is)
rdr_fits target address ports to None fault_is is =
    let same : Some (record { address = address; port = port_change target.port }) ≡ to = cc is in
    subst (λ (made : Option RdrAddress). AllFit made ports) same (λ first from. fit_without_fault target.port ports first fault_is from)

change_fits : (scope : Scope) (rule : TranslationRule) (ports : List (Option PortMatch)) (to : Option RdrAddress) → change_of scope rule ports ≡ Ok (change.Rdr to) → AllFit to ports
unfolding change_of
change_fits scope rule ports to is = by_target rule.target is
  where
    by_kind : (kind : TranslationKind) → ◌≡◌ {A = Result Change ConfError} (Ok (no_change kind)) (Ok (change.Rdr to)) → AllFit to ports
    by_kind kind.Nat is = absurd (cc is)
    by_kind kind.Rdr is =
        let same : None ≡ to = cc is in
        subst (λ (made : Option RdrAddress). AllFit made ports) same (record {})
    by_kind kind.Binat is = absurd (cc is)

    by_nat : (target : NatTarget) (found : Result Ipv4Address ConfError) → nat_by target found ≡ Ok (change.Rdr to) → AllFit to ports
    by_nat target (Ok address) is = absurd (cc is)
    by_nat target (Err e) is = absurd (cc is)

    by_rdr : (target : RdrTarget) (found : Result Ipv4Address ConfError) → rdr_by target ports found ≡ Ok (change.Rdr to) → AllFit to ports
    by_rdr target (Ok address) is = rdr_fits target address ports to (port_fault target.port ports) refl is
    by_rdr target (Err e) is = absurd (cc is)

    by_binat : (found : Result Ipv4Address ConfError) → binat_by found ≡ Ok (change.Rdr to) → AllFit to ports
    by_binat (Ok address) is = absurd (cc is)
    by_binat (Err e) is = absurd (cc is)

    by_target : (found : Option Target) → change_by scope rule ports found ≡ Ok (change.Rdr to) → AllFit to ports
    by_target None is = by_kind rule.kind is
    by_target (Some (target.Nat nat)) is = by_nat nat (written_single true scope rule.line nat.address) is
    by_target (Some (target.Rdr rdr)) is = by_rdr rdr (written_single true scope rule.line rdr.address) is
    by_target (Some (target.Binat host)) is = by_binat (written_single true scope rule.line host) is

all_fits : (first : ℕ) (ports : List (Option PortMatch)) → all_fit first ports ≡ true → All (λ x. fits first x ≡ true) ports
all_fits first [] is = All-nil (λ x. fits first x ≡ true)
all_fits first (x ∷ ports) is = All-cons (λ x. fits first x ≡ true) x ports (and_parts _ _ is).0 (all_fits first ports (and_parts _ _ is).1)

-- the ports of each combination are one of the choices
matches_fit : (first : ℕ) (c : C.Choices) → all_fit first c.destination_ports ≡ true → All (λ m. fits first m.destination_port ≡ true) (combinations c)
matches_fit first c fit = λ i m below. (
    let asked : PacketMatch = slice_index_or (combinations c) i m in
    let at = choices_at c asked i (slice_get-get_or (combinations c) i m below) in
    chosen (λ x. fits first x ≡ true) c.destination_ports _ asked.destination_port (all_fits first c.destination_ports fit) at.0)

-- ---- one rule

-- what holds of a flat rule by each match holds of all of them
all_numbered : {A : Type 0} (P : FlatTranslation A → Type 0) (number line : ℕ) (passes : Bool) (to : Option A) (matches : List PacketMatch) → All (λ m. (n : ℕ) → P (record { number = n; line = line; passes = passes; packet = m; target = to })) matches → All P (numbered number line passes to matches)
all_numbered P number line passes to [] each = All-nil P
all_numbered P number line passes to (m ∷ matches) each =
    All-cons P _ _
    (All-head (λ m. (n : ℕ) → P (record { number = n; line = line; passes = passes; packet = m; target = to })) m matches each number)
    (all_numbered P (suc number) line passes to matches (All-tail (λ m. (n : ℕ) → P (record { number = n; line = line; passes = passes; packet = m; target = to })) m matches each))

-- the flat rules of a translation rule are of it
numbered_are_of : {A : Type 0} (statements : List Statement) (rule : TranslationRule) → Contains statements (s.Translation (t.Rule rule)) → (number : ℕ) (to : Option A) (matches : List PacketMatch) → All (IsOfOneOf {T = A} statements) (numbered number rule.line rule.passes to matches)
numbered_are_of {A = A} statements rule there number to matches = all_numbered (IsOfOneOf {T = A} statements) number rule.line rule.passes to matches (λ k d below n. (rule, there, record { line = refl; passes = refl }))

-- the ports that they move stay ports
numbered_move : (number line : ℕ) (passes : Bool) (to : Option RdrAddress) (c : C.Choices) → AllFit to c.destination_ports → All MovesWithinPorts (numbered number line passes to (combinations c))
numbered_move number line passes None c fit = all_numbered MovesWithinPorts number line passes None (combinations c) (λ k d below n. record {})
numbered_move number line passes (Some target) c fit = all_numbered MovesWithinPorts number line passes (Some target) (combinations c) (λ k d below n first from. matches_fit first c (fit first from) k d below)

rules_are_of : (statements : List Statement) (rule : TranslationRule) → Contains statements (s.Translation (t.Rule rule)) → (number : ℕ) (c : C.Choices) (found : Change) → ((to : Option RdrAddress) → found ≡ change.Rdr to → AllFit to c.destination_ports) → (all : Translations) → AreOfOnes statements all → AreOfOnes statements (with_rules number rule.line rule.passes found (combinations c) all)
rules_are_of statements rule there number c (change.Nat to) fit all are = record {
  nats = All-append (IsOfOneOf statements) all.nats _ are.nats (numbered_are_of statements rule there number to (combinations c));
  rdrs = are.rdrs;
  binats = are.binats;
  moved = are.moved;
}
rules_are_of statements rule there number c (change.Rdr to) fit all are = record {
  nats = are.nats;
  rdrs = All-append (IsOfOneOf statements) all.rdrs _ are.rdrs (numbered_are_of statements rule there number to (combinations c));
  binats = are.binats;
  moved = All-append MovesWithinPorts all.rdrs _ are.moved (numbered_move number rule.line rule.passes to c (fit to refl));
}
rules_are_of statements rule there number c (change.Binat to) fit all are = record {
  nats = are.nats;
  rdrs = are.rdrs;
  binats = All-append (IsOfOneOf statements) all.binats _ are.binats (numbered_are_of statements rule there number to (combinations c));
  moved = are.moved;
}

-- a translation rule of statements makes rules of them
rule_is_of : (statements : List Statement) → EachKeeps (λ number. AreOfOnes statements) statements
rule_is_of statements rule work next there is are =
    let fit : (to : Option RdrAddress) → is.change ≡ change.Rdr to → AllFit to is.choices.destination_ports = λ to found. change_fits work.scope rule is.choices.destination_ports to (is.is_changed ∙ ap Ok found) in
    subst (AreOfOnes statements) (sym is.rules) (rules_are_of statements rule there work.translations is.choices is.change fit work.flat.translations are)

-- ---- all statements

pub all_of_ones : (statements : S.Statements) (interfaces : List Interface) (r : R.Ruleset) → expanded statements interfaces ≡ Ok r → AreOfOnes statements.statements r.translations
all_of_ones statements interfaces r is =
    let none : AreOfOnes statements.statements no_translations = record {
      nats = All-nil (IsOfOneOf statements.statements);
      rdrs = All-nil (IsOfOneOf statements.statements);
      binats = All-nil (IsOfOneOf statements.statements);
      moved = All-nil MovesWithinPorts;
    } in
    (all_stand (λ number. AreOfOnes statements.statements) statements interfaces r (rule_is_of statements.statements) none is).1
