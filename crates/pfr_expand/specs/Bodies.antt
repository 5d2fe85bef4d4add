-- Filter rules and anchors as flat rules, with the anchors round them.
use Rattle.std.specs.Prelude.{◌≡◌, ℕ, zero, suc, ◌-◌, ◌==◌, Bool, true, false, not, nat_lt, if◌then◌else◌, List, [], ◌∷◌, ◌++◌, length, map, fold, Option, Some, None, Result, Ok, Err, ◌≢◌}
use Rattle.pfr_net.specs.declared.policy.BlockPolicy.{BlockPolicy}
use Rattle.pfr_net.specs.declared.policy.BlockPolicy.TheVariants as b
use Rattle.pfr_net.specs.declared.policy.StatePolicy.{StatePolicy}
use Rattle.pfr_ruleset.specs.declared.flat.PacketMatch.{PacketMatch}
use Rattle.pfr_ruleset.specs.declared.flat.FilterAction.{FilterAction}
use Rattle.pfr_ruleset.specs.declared.flat.FilterAction.TheVariants as action
use Rattle.pfr_ruleset.specs.declared.flat.FlagsCriterion.{FlagsCriterion}
use Rattle.pfr_ruleset.specs.declared.flat.FlagsCriterion.TheVariants as asked
use Rattle.pfr_ruleset.specs.declared.flat.StateRule.{StateRule}
use Rattle.pfr_ruleset.specs.declared.flat.FlatRule.{FlatRule}
use Rattle.pfr_ruleset.specs.declared.flat.FlatAnchor.{FlatAnchor}
use Rattle.pfr_ruleset.specs.declared.label.Label.{Label}
use Rattle.pfr_ruleset.specs.Places.{moved}
use Rattle.pfr_terms.specs.declared.error.ConfError.{ConfError}
use Rattle.pfr_terms.specs.declared.error.ConfErrorKind.TheVariants.{TooDeep, Memory}
use Rattle.pfr_terms.specs.declared.flags.FlagsMatch.{FlagsMatch}
use Rattle.pfr_terms.specs.declared.flags.FlagsMatch.TheVariants as flags
use Rattle.pfr_terms.specs.declared.name.Name.{Name}
use Rattle.pfr_conf.specs.declared.filter.Action.{Action}
use Rattle.pfr_conf.specs.declared.filter.Action.TheVariants as a
use Rattle.pfr_conf.specs.declared.filter.FilterRule.{FilterRule}
use Rattle.pfr_conf.specs.declared.rule_options.StateKeeping.{StateKeeping}
use Rattle.pfr_conf.specs.declared.rule_options.StateKeeping.TheVariants as k
use Rattle.pfr_conf.specs.declared.anchor.AnchorRule.{AnchorRule}
use Rattle.pfr_conf.specs.declared.anchor.FilterStatement.{FilterStatement, out-FilterStatement}
use Rattle.pfr_conf.specs.declared.anchor.FilterStatement.TheOpen.{FilterStatement-F}
use Rattle.pfr_elements.specs.declared.scope.Scope.{Scope}
use Rattle.pfr_elements.specs.Elements.{first_fault}
use Rattle.pfr_flat.specs.declared.choices.Choices as C
use Rattle.pfr_flat.specs.declared.lists.Lists as L
use Rattle.pfr_flat.specs.Choices.{no_match, combinations}
use Rattle.pfr_flat.specs.Counts.{counted, too_many}
use Rattle.pfr_flat.specs.Lists.{lists_of, choices_or_fault}
use Rattle.pfr_expand.specs.declared.body.Setting.{Setting}
use Rattle.pfr_expand.specs.declared.body.Body.{Body}

-- what a function that adds promises: the outcome, unless memory is refused
abbrev pub Adds : {A : Type 0} → Result A ConfError → Result (Unit {0}) ConfError → A → Type 0
Adds outcome (Ok done) new = outcome ≡ Ok new
Adds outcome (Err e) new = e.kind ≢ Memory → outcome ≡ Err e

-- ---- one rule

abbrev pub blocked : BlockPolicy → FilterAction
blocked b.Drop = action.Drop
blocked b.Return = action.Return

-- `block` alone does what the block policy says
abbrev pub action_of : BlockPolicy → Action → FilterAction
action_of policy a.Pass = action.Pass
action_of policy (a.Block (Some written)) = blocked written
action_of policy (a.Block None) = blocked policy

abbrev pub policy_of : StatePolicy → Option StatePolicy → StatePolicy
policy_of policy (Some written) = written
policy_of policy None = policy

-- a pass rule keeps state unless it says that it doesn't; a block rule never does
abbrev pub state_of : StatePolicy → Action → Option StateKeeping → Option StateRule
state_of policy (a.Block written) keeping = None
state_of policy a.Pass None = Some (record { policy = policy; no_sync = false; most = None })
state_of policy a.Pass (Some k.No) = None
state_of policy a.Pass (Some (k.Keep options)) = Some (record { policy = policy_of policy options.policy; no_sync = options.no_sync; most = options.most })

-- a rule that keeps state and writes no flags asks for S/SA
abbrev pub flags_of : Option StateRule → Option FlagsMatch → FlagsCriterion
flags_of None None = asked.Any
flags_of (Some state) None = asked.Default
flags_of state (Some flags.Any) = asked.Any
flags_of state (Some (flags.Of set mask)) = asked.Written set mask

-- the place that a label comes to behind others
abbrev pub label_place : List Label → Option Name → Option ℕ
label_place labels None = None
label_place labels (Some name) = Some (length labels)

-- what all flat rules of one rule have alike, with the place of its label
unfoldable pub flat_rule : Setting → Option ℕ → FilterRule → FlatRule
flat_rule setting label rule =
    let state : Option StateRule = state_of setting.state_policy rule.action rule.options.state in
    record {
      action = action_of setting.block_policy rule.action;
      direction = rule.direction;
      is_quick = rule.is_quick;
      label = label;
      packet = no_match;
      flags = flags_of state rule.options.flags;
      state = state;
      allow_opts = rule.options.allow_opts;
      line = rule.line;
    }

-- ---- rules

abbrev pub made_if : Option ConfError → FlatRule → C.Choices → Body → Body
made_if (Some e) rule choices out = out
made_if None rule choices out = record out { rules = out.rules ++ map (λ m. record rule { packet = m }) (combinations choices) }

-- behind a fault rules are only counted
abbrev pub with_made : FlatRule → Result C.Choices ConfError → Body → Body
with_made rule (Err e) out = record out { fault = first_fault out.fault e }
with_made rule (Ok choices) out = made_if out.fault rule choices out

abbrev pub rule_by : FlatRule → L.Lists → Body → Result ℕ ConfError → Result Body ConfError
rule_by rule lists out (Err e) = Err e
rule_by rule lists out (Ok count) = Ok (with_made rule (choices_or_fault lists) (record out { count = count }))

abbrev pub rule_of : Setting → FlatRule → L.Lists → Body → Result Body ConfError
rule_of setting rule lists out = rule_by rule lists out (counted setting.used setting.line lists out.count 1)

-- a label behind others; there are at most as many as there may be rules
abbrev pub with_label : ℕ → List Label → Option Name → Result (List Label) ConfError
with_label line labels None = Ok labels
with_label line labels (Some name) = if nat_lt (length labels) 65536 then Ok (labels ++ record { text = name.text } ∷ []) else Err (too_many line)

abbrev pub labelled_rule : Scope → Setting → FilterRule → Body → Result (List Label) ConfError → Result Body ConfError
labelled_rule scope setting rule out (Err e) = Err e
labelled_rule scope setting rule out (Ok labels) =
    let flat : FlatRule = flat_rule setting (label_place out.labels rule.options.label) rule in
    rule_of setting flat (lists_of scope true rule.criteria rule.options.icmp_types) (record out { labels = labels })

unfoldable pub with_rule : Scope → Setting → FilterRule → Body → Result Body ConfError
with_rule scope setting rule out = labelled_rule scope setting rule out (with_label setting.line out.labels rule.options.label)

-- ---- anchors

abbrev pub flat_anchor : AnchorRule → FlatAnchor
flat_anchor anchor = record { direction = anchor.direction; is_quick = anchor.is_quick; packet = no_match; first = 0; last = 0 }

-- an anchor with a copy of its body, behind what is there
abbrev pub with_copy : FlatAnchor → Body → Body → PacketMatch → Body
with_copy anchor inner out m =
    let place : ℕ = length out.rules in
    record out {
      rules = out.rules ++ inner.rules;
      anchors = out.anchors ++ record anchor { packet = m; first = place; last = length (out.rules ++ inner.rules) - 1 } ∷ map (moved place) inner.anchors;
    }

-- one for each combination; an anchor that holds no rule makes nothing
abbrev pub copied_if : Option ConfError → FlatAnchor → C.Choices → Body → Body → Body
copied_if (Some e) anchor choices inner out = out
copied_if None anchor choices inner out = if length inner.rules == 0 then out else fold (with_copy anchor inner) out (combinations choices)

abbrev pub or_fault : Option ConfError → Option ConfError → Option ConfError
or_fault (Some e) other = Some e
or_fault None other = other

abbrev pub with_copies : FlatAnchor → Result C.Choices ConfError → Body → Body → Body
with_copies anchor (Err e) inner out = record out { fault = first_fault out.fault e }
with_copies anchor (Ok choices) inner out =
    let fault : Option ConfError = or_fault out.fault inner.fault in
    copied_if fault anchor choices inner (record out { fault = fault })

abbrev pub anchor_by : AnchorRule → L.Lists → Body → Body → Result ℕ ConfError → Result Body ConfError
anchor_by anchor lists inner out (Err e) = Err e
anchor_by anchor lists inner out (Ok count) = Ok (with_copies (flat_anchor anchor) (choices_or_fault lists) inner (record out { count = count; labels = inner.labels }))

abbrev pub counted_anchor : Setting → AnchorRule → L.Lists → Body → Body → Result Body ConfError
counted_anchor setting anchor lists inner out = anchor_by anchor lists inner out (counted setting.used setting.line lists out.count inner.count)

-- no rules, behind rules with these labels
abbrev pub empty_body : List Label → Body
empty_body labels = record { rules = []; anchors = []; labels = labels; fault = None; count = 0 }

-- ---- bodies

abbrev pub Adding : Type 0
Adding = FilterStatement → Body → Result Body ConfError

abbrev pub and_then : Result Body ConfError → (Body → Result Body ConfError) → Result Body ConfError
and_then (Ok out) f = f out
and_then (Err e) f = Err e

abbrev pub body_from : Adding → Body → List FilterStatement → Result Body ConfError
body_from add out [] = Ok out
body_from add out (x ∷ xs) = and_then (add x out) (λ more. body_from add more xs)

abbrev pub has_rules : Body → Bool
has_rules body = not (length body.rules == 0)

-- if the body has no rule, nothing is made of the anchor's lists
abbrev pub with_body : Scope → Setting → AnchorRule → Body → Body → Result Body ConfError
with_body scope setting anchor inner out = counted_anchor setting anchor (lists_of scope (has_rules inner) anchor.criteria None) inner out

abbrev pub with_anchor : Scope → Setting → AnchorRule → Result Body ConfError → Body → Result Body ConfError
with_anchor scope setting anchor (Ok inner) out = with_body scope setting anchor inner out
with_anchor scope setting anchor (Err e) out = Err e

-- a rule, or an anchor by what its body comes to
abbrev pub statement_by : (AnchorRule → List FilterStatement → Body → Result Body ConfError) → Scope → Setting → FilterStatement-F FilterStatement → Body → Result Body ConfError
statement_by anchored scope setting (FilterStatement-F.Rule rule) out = with_rule scope setting rule out
statement_by anchored scope setting (FilterStatement-F.Anchor anchor body) out = anchored anchor body out

-- a statement with at most `depth` anchors in one another
unfoldable pub statement : ℕ → Scope → Setting → Adding
statement zero scope setting x out = statement_by (λ anchor body out. Err (record { line = anchor.line; kind = TooDeep })) scope setting (out-FilterStatement x) out
statement (suc depth) scope setting x out = statement_by (λ anchor body out. with_anchor scope setting anchor (body_from (statement depth scope setting) (empty_body out.labels) body) out) scope setting (out-FilterStatement x) out
