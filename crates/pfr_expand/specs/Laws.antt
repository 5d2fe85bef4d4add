-- Words of the laws: of which statements the filter rules of a ruleset are, and how many.
use Rattle.std.specs.Prelude.{◌≡◌, ◌≢◌, ⊤, ℕ, zero, suc, ◌*◌, List, [], ◌∷◌, ◌++◌, length, All, Contains, true, false, Option, Some, None, IsSomeAnd, IfSome, ◌+◌, Ok, ◌≤◌}
use Rattle.pfr_net.specs.declared.port_match.PortMatch.{PortMatch}
use Rattle.pfr_net.specs.declared.policy.BlockPolicy.TheVariants.{Drop, Return}
use Rattle.pfr_ruleset.specs.declared.flat.FilterAction.{FilterAction}
use Rattle.pfr_ruleset.specs.declared.flat.FilterAction.TheVariants as does
use Rattle.pfr_ruleset.specs.declared.flat.FlagsCriterion.{FlagsCriterion}
use Rattle.pfr_ruleset.specs.declared.flat.FlagsCriterion.TheVariants as asks
use Rattle.pfr_ruleset.specs.declared.flat.FlatRule.{FlatRule}
use Rattle.pfr_ruleset.specs.declared.flat.FlatTranslation.{FlatTranslation}
use Rattle.pfr_ruleset.specs.declared.flat.PortChange.TheVariants.{From}
use Rattle.pfr_ruleset.specs.declared.flat.RdrAddress.{RdrAddress}
use Rattle.pfr_ruleset.specs.declared.flat.PacketMatch.{PacketMatch}
use Rattle.pfr_ruleset.specs.declared.flat.StateRule.{StateRule}
use Rattle.pfr_ruleset.specs.declared.interface.Interface.{Interface}
use Rattle.pfr_ruleset.specs.declared.label.Label.{Label}
use Rattle.pfr_ruleset.specs.declared.ruleset.Ruleset.{Ruleset}
use Rattle.pfr_ruleset.specs.declared.translations.Translations.{Translations}
use Rattle.pfr_ruleset.specs.declared.table.Entry.{Entry}
use Rattle.pfr_ruleset.specs.Interfaces.{own_table}
use Rattle.pfr_ruleset.specs.Rulesets.{counts, label_at}
use Rattle.pfr_ruleset.specs.Translations.{HaveOwnNumbers}
use Rattle.pfr_terms.specs.declared.address.Address.{Address}
use Rattle.pfr_terms.specs.declared.address.Address.TheVariants as a
use Rattle.pfr_terms.specs.declared.flags.FlagsMatch.{FlagsMatch}
use Rattle.pfr_terms.specs.declared.flags.FlagsMatch.TheVariants as flags
use Rattle.pfr_terms.specs.declared.hosts.Criteria.{Criteria}
use Rattle.pfr_terms.specs.declared.hosts.Part.{Part}
use Rattle.pfr_terms.specs.declared.name.Name.{Name}
use Rattle.pfr_terms.specs.declared.name.Written.{Written}
use Rattle.pfr_terms.specs.declared.name.Written.TheVariants.{Item, Macro}
use Rattle.pfr_conf.specs.declared.filter.Action.{Action}
use Rattle.pfr_conf.specs.declared.filter.Action.TheVariants.{Pass, Block}
use Rattle.pfr_conf.specs.declared.filter.FilterRule.{FilterRule}
use Rattle.pfr_conf.specs.declared.anchor.AnchorRule.{AnchorRule}
use Rattle.pfr_conf.specs.declared.anchor.FilterStatement.{FilterStatement, out-FilterStatement}
use Rattle.pfr_conf.specs.declared.anchor.FilterStatement.TheOpen.{FilterStatement-F}
use Rattle.pfr_conf.specs.declared.rule_options.StateKeeping.{StateKeeping}
use Rattle.pfr_conf.specs.declared.rule_options.StateKeeping.TheVariants.{No, Keep}
use Rattle.pfr_conf.specs.declared.statement.Statement.{Statement}
use Rattle.pfr_conf.specs.declared.statement.Statement.TheVariants.{Filter, Translation}
use Rattle.pfr_conf.specs.declared.statement.Statements.{Statements}
use Rattle.pfr_conf.specs.declared.translation.TranslationRule.{TranslationRule}
use Rattle.pfr_conf.specs.declared.translation.TranslationStatement.TheVariants.{Rule}
use Rattle.pfr_flat.specs.Translations.{fits}
use Rattle.pfr_expand.specs.Rulesets.{expanded}
use Rattle.pfr_expand.specs.Texts.{ruleset_of}

-- ---- lists as they are written

-- an element that isn't the use of a macro
abbrev pub IsPlain : {A : Type 0} → Written A → Type 0
IsPlain (Item x) = ⊤
IsPlain (Macro found) = ⊥

-- the same of an address
abbrev pub IsPlainAddress : Address → Type 0
IsPlainAddress (a.Macro found) = ⊥
IsPlainAddress other = ⊤

-- all elements of a list, if it is written
abbrev pub AllWritten : {A : Type 0} → (A → Type 0) → Option (List A) → Type 0
AllWritten P None = ⊤
AllWritten P (Some list) = All P list

-- a source or a destination whose lists use no macro
abbrev pub IsPlainPart : Option Part → Type 0
IsPlainPart None = ⊤
IsPlainPart (Some part) = AllWritten (λ m. IsPlainAddress m.address) part.addresses × AllWritten IsPlain part.ports

-- criteria whose lists use no macro
abbrev pub ArePlain : Criteria → Type 0
ArePlain criteria = AllWritten (λ m. IsPlain m.interface) criteria.interfaces × AllWritten IsPlain criteria.protocols × IsPlainPart criteria.hosts.source × IsPlainPart criteria.hosts.destination

-- how many elements may be chosen of a list; if none is written, there is one choice
abbrev pub choices_in : {A : Type 0} → Option (List A) → ℕ
choices_in None = 1
choices_in (Some list) = length list

-- how many combinations the addresses and ports of a source or a destination make
abbrev pub choices_in_part : Option Part → ℕ
choices_in_part None = 1
choices_in_part (Some part) = choices_in part.addresses * choices_in part.ports

-- how many combinations the lists of criteria make
abbrev pub combinations_in : Criteria → ℕ
combinations_in criteria = choices_in criteria.interfaces * choices_in criteria.protocols * choices_in_part criteria.hosts.source * choices_in_part criteria.hosts.destination

-- ---- a filter rule

-- what a flat rule does is what is written; `block` alone leaves open which way it blocks
abbrev pub IsAsWritten : Action → FilterAction → Type 0
IsAsWritten Pass action = action ≡ does.Pass
IsAsWritten (Block (Some Drop)) action = action ≡ does.Drop
IsAsWritten (Block (Some Return)) action = action ≡ does.Return
IsAsWritten (Block None) action = action ≢ does.Pass

-- the state that a flat rule keeps is what is written: a block rule keeps none, a pass rule one unless it says `no state`,
-- which is told to others unless it says otherwise, and bound as it says
abbrev pub KeepsAsWritten : Action → Option StateKeeping → Option StateRule → Type 0
KeepsAsWritten (Block written) keeping state = state ≡ None
KeepsAsWritten Pass (Some No) state = state ≡ None
KeepsAsWritten Pass None state = IsSomeAnd state (λ kept. (kept.no_sync ≡ false) × (kept.most ≡ None))
KeepsAsWritten Pass (Some (Keep options)) state = IsSomeAnd state (λ kept. (kept.no_sync ≡ options.no_sync) × (kept.most ≡ options.most) × IfSome options.policy (λ written. kept.policy ≡ written))

-- the flags that it asks for are those that are written; if none are written, S/SA if it keeps state
abbrev pub AsksAsWritten : Option FlagsMatch → Option StateRule → FlagsCriterion → Type 0
AsksAsWritten (Some flags.Any) state asked = asked ≡ asks.Any
AsksAsWritten (Some (flags.Of set mask)) state asked = asked ≡ asks.Written set mask
AsksAsWritten None (Some kept) asked = asked ≡ asks.Default
AsksAsWritten None None asked = asked ≡ asks.Any

-- the criterion is an element of a list that is written and uses no macro, and nothing if none is written
abbrev pub IsFrom : {A : Type 0} → Option (List (Written A)) → Option A → Type 0
IsFrom None asked = asked ≡ None
IsFrom {A = A} (Some list) asked = All IsPlain list → (x : A) × Contains list (Item x) × (asked ≡ Some x)

-- the ports that are written of a source or a destination
abbrev pub ports_of : Option Part → Option (List (Written PortMatch))
ports_of None = None
ports_of (Some part) = part.ports

-- a flat rule's criteria of protocol, ICMP type and ports are from the lists of these
pub record AsksFrom (rule : FilterRule) (asked : PacketMatch) : Type 0 where
  pub protocol : IsFrom rule.criteria.protocols asked.protocol
  pub icmp : IsFrom rule.options.icmp_types asked.icmp
  pub source_port : IsFrom (ports_of rule.criteria.hosts.source) asked.source_port
  pub destination_port : IsFrom (ports_of rule.criteria.hosts.destination) asked.destination_port

-- the label at a flat rule's place is the one that is written; if none is written, the rule has no such place
abbrev pub IsLabelled : List Label → Option Name → Option ℕ → Type 0
IsLabelled labels None place = place ≡ None
IsLabelled labels (Some name) place = label_at labels place ≡ Some name.text

-- a flat rule of a written one, in a ruleset with these labels
pub record IsOfRule (labels : List Label) (rule : FilterRule) (flat : FlatRule) : Type 0 where
  pub action : IsAsWritten rule.action flat.action
  pub direction : flat.direction ≡ rule.direction
  pub quick : flat.is_quick ≡ rule.is_quick
  pub options : flat.allow_opts ≡ rule.options.allow_opts
  pub line : flat.line ≡ rule.line
  pub label : IsLabelled labels rule.options.label flat.label
  pub state : KeepsAsWritten rule.action rule.options.state flat.state
  pub flags : AsksAsWritten rule.options.flags flat.state flat.flags
  pub packet : AsksFrom rule flat.packet

-- all flat rules of a written one; if its lists use no macro, there is one for each combination of their elements
pub record AreOfRule (labels : List Label) (rule : FilterRule) (rules : List FlatRule) : Type 0 where
  pub each : All (IsOfRule labels rule) rules
  pub count : ArePlain rule.criteria → AllWritten IsPlain rule.options.icmp_types → length rules ≡ combinations_in rule.criteria * choices_in rule.options.icmp_types

-- ---- anchors, and all statements

-- rules of several things: those of the first, and behind them those of the others in their order
abbrev pub AreInTurn : {X : Type 0} → (X → List FlatRule → Type 0) → List X → List FlatRule → Type 0
AreInTurn AreOf [] rules = rules ≡ []
AreInTurn AreOf (x ∷ others) rules = (own : List FlatRule) × (behind : List FlatRule) × (rules ≡ own ++ behind) × AreOf x own × AreInTurn AreOf others behind

-- some rules, this many times over
abbrev pub copies : ℕ → List FlatRule → List FlatRule
copies zero rules = []
copies (suc more) rules = rules ++ copies more rules

-- the rules of an anchor: copies of the rules of its body; if its lists use no macro, there is one copy for each
-- combination of their elements
pub record AreOfAnchor (AreOfBody : List FlatRule → Type 0) (anchor : AnchorRule) (rules : List FlatRule) : Type 0 where
  pub body : List FlatRule
  pub are_body : AreOfBody body
  pub times : ℕ
  pub are_copies : rules ≡ copies times body
  pub count : ArePlain anchor.criteria → times ≡ combinations_in anchor.criteria

-- the rules of a filter rule, or of an anchor, given which are rules of its body
abbrev pub AreByForm : List Label → (List FilterStatement → List FlatRule → Type 0) → FilterStatement-F FilterStatement → List FlatRule → Type 0
AreByForm labels AreOfBody (FilterStatement-F.Rule rule) rules = AreOfRule labels rule rules
AreByForm labels AreOfBody (FilterStatement-F.Anchor anchor body) rules = AreOfAnchor (AreOfBody body) anchor rules

-- the rules of a filter rule or an anchor, with at most `depth` anchors in one another
abbrev pub AreOfFilter : List Label → ℕ → FilterStatement → List FlatRule → Type 0
AreOfFilter labels zero x rules = AreByForm labels (λ body one. ⊥) (out-FilterStatement x) rules
AreOfFilter labels (suc depth) x rules = AreByForm labels (AreInTurn (AreOfFilter labels depth)) (out-FilterStatement x) rules

-- the filter rules of a statement; other statements have none
abbrev pub AreOf : List Label → Statement → List FlatRule → Type 0
AreOf labels (Filter x) rules = AreOfFilter labels 16 x rules
AreOf labels other rules = rules ≡ []

-- ---- translation rules

-- a flat translation rule of a written one: it has the line of that one, and says `pass` (what it translates isn't
-- filtered) just if that one does
pub record IsOfTranslation {T : Type 0} (rule : TranslationRule) (flat : FlatTranslation T) : Type 0 where
  pub line : flat.line ≡ rule.line
  pub passes : flat.passes ≡ rule.passes

-- a flat translation rule is of one of these statements
abbrev pub IsOfOneOf : {T : Type 0} → List Statement → FlatTranslation T → Type 0
IsOfOneOf statements flat = (rule : TranslationRule) × Contains statements (Translation (Rule rule)) × IsOfTranslation rule flat

-- the ports that a `rdr` rule moves by one distance are a number, or a range that stays within the ports
abbrev pub MovesWithinPorts : FlatTranslation RdrAddress → Type 0
MovesWithinPorts flat = IfSome flat.target (λ target. (first : ℕ) → target.port ≡ From first → fits first flat.packet.destination_port ≡ true)

-- each translation rule, of any kind, is of one of the statements, and ports that are moved stay ports
pub record AreOfOnes (statements : List Statement) (translations : Translations) : Type 0 where
  pub nats : All (IsOfOneOf statements) translations.nats
  pub rdrs : All (IsOfOneOf statements) translations.rdrs
  pub binats : All (IsOfOneOf statements) translations.binats
  pub moved : All MovesWithinPorts translations.rdrs

-- ---- what the laws say

-- the counts of a ruleset are the lengths of its lists
abbrev pub CountsAreLengths : Type 0
CountsAreLengths =
    (statements : Statements) (interfaces : List Interface) (r : Ruleset)
    → expanded statements interfaces ≡ Ok r
    → counts r ≡ (length r.filter.rules, length r.translations.nats + length r.translations.rdrs + length r.translations.binats)

-- there are at most 65536 rules of the filter and of translation together
abbrev pub AtMostAllRules : Type 0
AtMostAllRules =
    (statements : Statements) (interfaces : List Interface) (r : Ruleset)
    → expanded statements interfaces ≡ Ok r
    → length r.filter.rules + (length r.translations.nats + length r.translations.rdrs + length r.translations.binats) ≤ 65536

-- the filter rules are those of the statements, one after the other
abbrev pub EveryRuleIsOfOneStatement : Type 0
EveryRuleIsOfOneStatement =
    (statements : Statements) (interfaces : List Interface) (r : Ruleset)
    → expanded statements interfaces ≡ Ok r
    → AreInTurn (AreOf r.labels) statements.statements r.filter.rules

-- each translation rule is of a statement
abbrev pub EveryTranslationIsOfAStatement : Type 0
EveryTranslationIsOfAStatement =
    (statements : Statements) (interfaces : List Interface) (r : Ruleset)
    → expanded statements interfaces ≡ Ok r
    → AreOfOnes statements.statements r.translations

-- the translation rules of a ruleset that a text means have numbers of their own
abbrev pub TranslationsHaveOwnNumbers : Type 0
TranslationsHaveOwnNumbers =
    (text : List ℕ) (interfaces : List Interface) (r : Ruleset)
    → ruleset_of text interfaces ≡ Ok r
    → HaveOwnNumbers r.translations

-- a ruleset is for the interfaces of the run, and the first of its tables is that of their addresses
abbrev pub OwnAddressesAreFirst : Type 0
OwnAddressesAreFirst =
    (text : List ℕ) (interfaces : List Interface) (r : Ruleset)
    → ruleset_of text interfaces ≡ Ok r
    → (r.interfaces ≡ interfaces) × (rest : List (List Entry)) × (r.tables ≡ own_table interfaces ∷ rest)
