-- The rules of a filter rule and of an anchor: of what they are, and that they are as many as are counted, at most.
use Rattle.std.proofs.Common.{◌≡◌, ◌≤◌, ◌+◌, ◌*◌, ◌==◌, ℕ, zero, suc, Bool, true, false, if◌then◌else◌, nat_lt, List, [], ◌∷◌, ◌++◌, length, map, fold, All, slice_get, Option, Some, None, IfSome, Result, Ok, Err, append_assoc, append-nil, refl, sym, ap, ◌∙◌, subst, arith}
use Rattle.std.specs.Option.{option_map}
use Rattle.std.proofs.lemmas.Bool.{eqb-true}
use Rattle.std.proofs.lemmas.List.{length-append, length-map}
use Rattle.std.proofs.lemmas.List.Elements.{All-nil, All-cons, All-head, All-tail}
use Rattle.std.proofs.lemmas.Nat.{mul-le}
use Rattle.pfr_net.specs.declared.policy.BlockPolicy.{BlockPolicy}
use Rattle.pfr_net.specs.declared.policy.BlockPolicy.TheVariants as b
use Rattle.pfr_net.specs.declared.policy.StatePolicy.{StatePolicy}
use Rattle.pfr_ruleset.specs.declared.flat.FlatAnchor.{FlatAnchor}
use Rattle.pfr_ruleset.specs.declared.flat.FlatRule.{FlatRule}
use Rattle.pfr_ruleset.specs.declared.flat.PacketMatch.{PacketMatch}
use Rattle.pfr_ruleset.specs.declared.flat.StateRule.{StateRule}
use Rattle.pfr_ruleset.specs.declared.label.Label.{Label}
use Rattle.pfr_ruleset.specs.Rulesets.{label_at}
use Rattle.pfr_terms.specs.declared.error.ConfError.{ConfError}
use Rattle.pfr_terms.specs.declared.flags.FlagsMatch.{FlagsMatch}
use Rattle.pfr_terms.specs.declared.flags.FlagsMatch.TheVariants as flags
use Rattle.pfr_terms.specs.declared.name.Name.{Name}
use Rattle.pfr_conf.specs.declared.filter.Action.{Action}
use Rattle.pfr_conf.specs.declared.filter.Action.TheVariants as a
use Rattle.pfr_conf.specs.declared.filter.FilterRule.{FilterRule}
use Rattle.pfr_conf.specs.declared.rule_options.StateKeeping.{StateKeeping}
use Rattle.pfr_conf.specs.declared.rule_options.StateKeeping.TheVariants as k
use Rattle.pfr_conf.specs.declared.anchor.AnchorRule.{AnchorRule}
use Rattle.pfr_conf.specs.declared.anchor.FilterStatement.{FilterStatement, out-FilterStatement}
use Rattle.pfr_conf.specs.declared.anchor.FilterStatement.TheOpen.{FilterStatement-F}
use Rattle.pfr_elements.specs.declared.scope.Scope.{Scope}
use Rattle.pfr_flat.specs.declared.choices.Choices as C
use Rattle.pfr_flat.specs.declared.lists.Lists as L
use Rattle.pfr_flat.specs.Choices.{combinations}
use Rattle.pfr_flat.specs.Counts.{counted, too_many}
use Rattle.pfr_flat.specs.Lists.{choices_or_fault, has_long_list, lists_of, product}
use Rattle.pfr_expand.specs.declared.body.Body.{Body}
use Rattle.pfr_expand.specs.declared.body.Setting.{Setting}
use Rattle.pfr_expand.specs.Bodies.{Adding, action_of, anchor_by, and_then, policy_of, body_from, copied_if, counted_anchor, empty_body, flat_anchor, flags_of, flat_rule, has_rules, label_place, labelled_rule, made_if, or_fault, rule_by, rule_of, state_of, statement, statement_by, with_anchor, with_copies, with_copy, with_label, with_made, with_rule}
use Rattle.pfr_expand.specs.Laws.{AllWritten, AsksAsWritten, AsksFrom, AreByForm, AreInTurn, AreOfAnchor, AreOfFilter, AreOfRule, ArePlain, IsAsWritten, IsLabelled, IsOfRule, IsPlain, KeepsAsWritten, choices_in, combinations_in, copies}
use Rattle.pfr_expand.proofs.CountLemmas.{AreCounted, combinations_few, is_fault, lists_counted, within}
use Rattle.pfr_expand.proofs.PlainLemmas.{anchor_exact, rule_asks, rule_exact}

-- labels behind which others may have been put
abbrev pub Reach : List Label → List Label → Type 0
Reach labels later = (more : List Label) × (later ≡ labels ++ more)

pub reach_themselves : (labels : List Label) → Reach labels labels
reach_themselves labels = ([], sym (append-nil labels))

pub reach_on : (labels between later : List Label) → Reach labels between → Reach between later → Reach labels later
reach_on labels between later (first, is) (more, behind) = (first ++ more, behind ∙ ap (λ (found : List Label). found ++ more) is ∙ append_assoc labels first more)

-- rules behind those that there were, of what is said with all labels that come to be, and no more than are counted
pub record Extends (AreMade : List Label → List FlatRule → Type 0) (old new : Body) : Type 0 where
  pub own : List FlatRule
  pub sound : old.fault ≡ None
  pub rules : new.rules ≡ old.rules ++ own
  pub few : old.count + length own ≤ new.count
  pub labels : Reach old.labels new.labels
  pub made : (all : List Label) → Reach new.labels all → AreMade all own

-- the same, unless there is a fault
abbrev pub Grows : (List Label → List FlatRule → Type 0) → Body → Body → Type 0
Grows AreMade old new = new.fault ≡ None → Extends AreMade old new

-- ---- one rule

done_as_written : (policy : BlockPolicy) (written : Action) → IsAsWritten written (action_of policy written)
done_as_written policy a.Pass = refl
done_as_written policy (a.Block (Some b.Drop)) = refl
done_as_written policy (a.Block (Some b.Return)) = refl
done_as_written b.Drop (a.Block None) = λ passes. cc passes
done_as_written b.Return (a.Block None) = λ passes. cc passes

bound_as_written : (policy : StatePolicy) (written : Option StatePolicy) → IfSome written (λ (found : StatePolicy). policy_of policy written ≡ found)
bound_as_written policy None = record {}
bound_as_written policy (Some written) = refl

kept_as_written : (policy : StatePolicy) (action : Action) (keeping : Option StateKeeping) → KeepsAsWritten action keeping (state_of policy action keeping)
kept_as_written policy (a.Block written) keeping = refl
kept_as_written policy a.Pass None = (refl, refl)
kept_as_written policy a.Pass (Some k.No) = refl
kept_as_written policy a.Pass (Some (k.Keep options)) = (refl, refl, bound_as_written policy options.policy)

asked_as_written : (state : Option StateRule) (written : Option FlagsMatch) → AsksAsWritten written state (flags_of state written)
asked_as_written None None = refl
asked_as_written (Some kept) None = refl
asked_as_written None (Some flags.Any) = refl
asked_as_written (Some kept) (Some flags.Any) = refl
asked_as_written None (Some (flags.Of set mask)) = refl
asked_as_written (Some kept) (Some (flags.Of set mask)) = refl

label_there : (labels : List Label) (label : Label) (more : List Label) → slice_get ((labels ++ label ∷ []) ++ more) (length labels) ≡ Some label
label_there [] label more = refl
label_there (before ∷ labels) label more = label_there labels label more

-- a label stands at its place, whatever comes behind it
pub record IsPut (labels later : List Label) (name : Option Name) : Type 0 where
  pub reach : Reach labels later
  pub found : (all : List Label) → Reach later all → IsLabelled all name (label_place labels name)

label_put : (line : ℕ) (labels later : List Label) (name : Option Name) → with_label line labels name ≡ Ok later → IsPut labels later name
label_put line labels later None is =
    let same : labels ≡ later = cc is in
    record { reach = subst (Reach labels) same (reach_themselves labels); found = λ all behind. refl }
label_put line labels later (Some name) is = by_room (nat_lt (length labels) 65536) is
  where
    by_room : (room : Bool) → (if room then Ok (labels ++ record { text = name.text } ∷ []) else Err (too_many line)) ≡ Ok later → IsPut labels later (Some name)
    by_room false is = absurd (cc is)
    by_room true is =
        let same : labels ++ record { text = name.text } ∷ [] ≡ later = cc is in
        record {
          reach = (record { text = name.text } ∷ [], sym same);
          found = λ all behind. (
              let all_are : all ≡ (labels ++ record { text = name.text } ∷ []) ++ behind.0 = behind.1 ∙ ap (λ (found : List Label). found ++ behind.0) (sym same) in
              ap (λ (found : List Label). label_at found (Some (length labels))) all_are ∙ ap (option_map (λ (label : Label). label.text)) (label_there labels (record { text = name.text }) behind.0));
        }

of_rule : (all : List Label) (setting : Setting) (label : Option ℕ) (rule : FilterRule) (m : PacketMatch) → IsLabelled all rule.options.label label → AsksFrom rule m → IsOfRule all rule (record (flat_rule setting label rule) { packet = m })
unfolding flat_rule
of_rule all setting label rule m labelled asked = record { action = done_as_written setting.block_policy rule.action; direction = refl; quick = refl; options = refl; line = refl; label = labelled; state = kept_as_written setting.state_policy rule.action rule.options.state; flags = asked_as_written (state_of setting.state_policy rule.action rule.options.state) rule.options.flags; packet = asked }

all_of_rule : (all : List Label) (setting : Setting) (label : Option ℕ) (rule : FilterRule) (matches : List PacketMatch) → IsLabelled all rule.options.label label → All (AsksFrom rule) matches → All (IsOfRule all rule) (map (λ m. record (flat_rule setting label rule) { packet = m }) matches)
all_of_rule all setting label rule [] labelled asked = All-nil (IsOfRule all rule)
all_of_rule all setting label rule (m ∷ matches) labelled asked = All-cons (IsOfRule all rule) (record (flat_rule setting label rule) { packet = m }) _ (of_rule all setting label rule m labelled (All-head (AsksFrom rule) m matches asked)) (all_of_rule all setting label rule matches labelled (All-tail (AsksFrom rule) m matches asked))

-- what the rules of a filter rule ask for, and how many there are if its lists use no macro
pub record AreMatches (rule : FilterRule) (matches : List PacketMatch) : Type 0 where
  pub asked : All (AsksFrom rule) matches
  pub count : ArePlain rule.criteria → AllWritten IsPlain rule.options.icmp_types → length matches ≡ combinations_in rule.criteria * choices_in rule.options.icmp_types

module _ (setting : Setting) (label : Option ℕ) (rule : FilterRule) where
  abbrev made_rule : FlatRule
  made_rule = flat_rule setting label rule

  abbrev with_match : PacketMatch → FlatRule
  with_match m = record made_rule { packet = m }

  made_extends : (found : Result C.Choices ConfError) (out : Body) (count : ℕ) → ((c : C.Choices) → found ≡ Ok c → out.count + length (combinations c) ≤ count) → ((c : C.Choices) → found ≡ Ok c → AreMatches rule (combinations c)) → ((all : List Label) → Reach out.labels all → IsLabelled all rule.options.label label)
      → Grows (λ all. AreOfRule all rule) out (with_made made_rule found (record out { count = count }))
  made_extends (Err e) out count few exact labelled = λ sound. absurd (is_fault out.fault e sound)
  made_extends (Ok c) out count few exact labelled = by_fault out.fault refl
    where
      by_fault : (fault : Option ConfError) → out.fault ≡ fault → Grows (λ all. AreOfRule all rule) out (made_if fault made_rule c (record out { count = count }))
      by_fault (Some e) is = λ sound. (let clash : None ≡ Some e = sym sound ∙ is in absurd (cc clash))
      by_fault None is = λ sound. record {
        own = map with_match (combinations c);
        sound = is;
        rules = refl;
        few = (let least = few c refl in let long = length-map (combinations c) with_match in omega (arith, least, long));
        labels = reach_themselves out.labels;
        made = λ all behind. record {
          each = all_of_rule all setting label rule (combinations c) (labelled all behind) (exact c refl).asked;
          count = λ plain types. length-map (combinations c) with_match ∙ (exact c refl).count plain types;
        };
      }

made_count : (rule : FlatRule) (found : Result C.Choices ConfError) (out : Body) → (with_made rule found out).count ≡ out.count
made_count rule (Err e) out = refl
made_count rule (Ok c) out = by_fault out.fault
  where
    by_fault : (fault : Option ConfError) → (made_if fault rule c out).count ≡ out.count
    by_fault (Some e) = refl
    by_fault None = refl

-- what a statement makes of a body
pub record Adds (used : ℕ) (AreMade : List Label → List FlatRule → Type 0) (old new : Body) : Type 0 where
  pub grows : Grows AreMade old new
  pub few : used + new.count ≤ 65536

rule_adds : (setting : Setting) (label : Option ℕ) (rule : FilterRule) (lists : L.Lists) (out new : Body) → AreCounted lists → (has_long_list lists ≡ false → (c : C.Choices) → choices_or_fault lists ≡ Ok c → AreMatches rule (combinations c)) → ((all : List Label) → Reach out.labels all → IsLabelled all rule.options.label label) → rule_of setting (flat_rule setting label rule) lists out ≡ Ok new
    → Adds setting.used (λ all. AreOfRule all rule) out new
rule_adds setting label rule lists out new are exact labelled is = by_count (counted setting.used setting.line lists out.count 1) refl is
  where
    by_count : (found : Result ℕ ConfError) → counted setting.used setting.line lists out.count 1 ≡ found → rule_by (flat_rule setting label rule) lists out found ≡ Ok new → Adds setting.used (λ all. AreOfRule all rule) out new
    by_count (Err e) count_is is = absurd (cc is)
    by_count (Ok count) count_is is =
        let w = within setting.used setting.line lists out.count 1 count count_is in
        let total = w.is in
        let few = w.few in
        let kept = made_count (flat_rule setting label rule) (choices_or_fault lists) (record out { count = count }) in
        let same : with_made (flat_rule setting label rule) (choices_or_fault lists) (record out { count = count }) ≡ new = cc is in
        subst (Adds setting.used (λ all. AreOfRule all rule) out) same (record {
          grows = made_extends setting label rule (choices_or_fault lists) out count (λ c found. let least = combinations_few lists c are w.short found in omega (arith, total, least)) (exact w.short) labelled;
          few = omega (arith, kept, few);
        })

-- what is added behind more labels is added behind those before them
adds_behind : (used : ℕ) (AreMade : List Label → List FlatRule → Type 0) (out new : Body) (labels : List Label) → Reach out.labels labels → Adds used AreMade (record out { labels = labels }) new → Adds used AreMade out new
adds_behind used AreMade out new labels reach adds = record {
  grows = λ sound. (
      let own = adds.grows sound in
      record { own = own.own; sound = own.sound; rules = own.rules; few = own.few; labels = reach_on out.labels labels new.labels reach own.labels; made = own.made });
  few = adds.few;
}

-- ---- copies

copied_rules : (anchor : FlatAnchor) (inner out : Body) (matches : List PacketMatch) → (fold (with_copy anchor inner) out matches).rules ≡ out.rules ++ copies (length matches) inner.rules
copied_rules anchor inner out [] = sym (append-nil out.rules)
copied_rules anchor inner out (m ∷ matches) = copied_rules anchor inner (with_copy anchor inner out m) matches ∙ append_assoc out.rules inner.rules (copies (length matches) inner.rules)

copied_count : (anchor : FlatAnchor) (inner out : Body) (matches : List PacketMatch) → (fold (with_copy anchor inner) out matches).count ≡ out.count
copied_count anchor inner out [] = refl
copied_count anchor inner out (m ∷ matches) = copied_count anchor inner (with_copy anchor inner out m) matches

copied_labels : (anchor : FlatAnchor) (inner out : Body) (matches : List PacketMatch) → (fold (with_copy anchor inner) out matches).labels ≡ out.labels
copied_labels anchor inner out [] = refl
copied_labels anchor inner out (m ∷ matches) = copied_labels anchor inner (with_copy anchor inner out m) matches

length_copies : (times : ℕ) (rules : List FlatRule) → length (copies times rules) ≡ times * length rules
length_copies zero rules = omega arith
length_copies (suc times) rules =
    let more = length_copies times rules in
    let long = length-append rules (copies times rules) in
    omega (arith, more, long)

no_faults : (first second : Option ConfError) → or_fault first second ≡ None → (first ≡ None) × (second ≡ None)
no_faults (Some e) second none = absurd (cc none)
no_faults None second none = (refl, none)

total_few : (before count many most each most_each : ℕ) → many ≤ most → each ≤ most_each → count ≡ before + most * most_each → before + many * each ≤ count
total_few before count many most each most_each few fewer is = (let p = mul-le many each most most_each few fewer in omega (arith, p, is))

none_copied : (times : ℕ) (rules : List FlatRule) → length rules ≡ 0 → [] ≡ copies times rules
none_copied zero rules none = refl
none_copied (suc times) [] none = none_copied times [] none
none_copied (suc times) (r ∷ rules) none = absurd (cc none)

module _ (AreOfBody : List Label → List FlatRule → Type 0) (written : AnchorRule) (inner out : Body) (count most : ℕ) where
  -- a body with `count` rules counted, and no fault
  abbrev over : Body
  over = record out { fault = None; count = count; labels = inner.labels }

  abbrev AreOwn : List Label → List FlatRule → Type 0
  AreOwn all = AreOfAnchor (AreOfBody all) written

  chosen_extend : (c : C.Choices) → length (combinations c) ≤ most → (ArePlain written.criteria → length (combinations c) ≡ combinations_in written.criteria) → count ≡ out.count + most * inner.count → out.fault ≡ None → Extends AreOfBody (empty_body out.labels) inner
      → Extends AreOwn out (copied_if None (flat_anchor written) c inner over)
  chosen_extend c few exact is sound body = by_size (length inner.rules == 0) refl
    where
      own_made : (all : List Label) → Reach inner.labels all → AreOfBody all inner.rules
      own_made all behind = subst (AreOfBody all) (sym body.rules) (body.made all behind)

      by_size : (none : Bool) → (length inner.rules == 0) ≡ none → Extends AreOwn out (if none then over else fold (with_copy (flat_anchor written) inner) over (combinations c))
      by_size true none = record {
        own = [];
        sound = sound;
        rules = sym (append-nil out.rules);
        few = omega (arith, is);
        labels = body.labels;
        made = λ all behind. record { body = inner.rules; are_body = own_made all behind; times = length (combinations c); are_copies = none_copied (length (combinations c)) inner.rules (eqb-true (length inner.rules) 0 none); count = exact };
      }
      by_size false none = record {
        own = copies (length (combinations c)) inner.rules;
        sound = sound;
        rules = copied_rules (flat_anchor written) inner over (combinations c);
        few = (
            let own = ap (λ (rules : List FlatRule). length rules) body.rules in
            let own_few = body.few in
            let least = total_few out.count count (length (combinations c)) most (length inner.rules) inner.count few (omega (arith, own, own_few)) is in
            let long = length_copies (length (combinations c)) inner.rules in
            let kept = copied_count (flat_anchor written) inner over (combinations c) in
            omega (arith, least, long, kept));
        labels = (let kept = copied_labels (flat_anchor written) inner over (combinations c) in subst (Reach out.labels) (sym kept) body.labels);
        made = λ all behind. (
            let kept = copied_labels (flat_anchor written) inner over (combinations c) in
            record { body = inner.rules; are_body = own_made all (subst (λ (found : List Label). Reach found all) kept behind); times = length (combinations c); are_copies = refl; count = exact });
      }

  copies_extend : (found : Result C.Choices ConfError) → ((c : C.Choices) → found ≡ Ok c → length (combinations c) ≤ most) → ((c : C.Choices) → found ≡ Ok c → ArePlain written.criteria → length (combinations c) ≡ combinations_in written.criteria) → count ≡ out.count + most * inner.count
      → Grows AreOfBody (empty_body out.labels) inner → Grows AreOwn out (with_copies (flat_anchor written) found inner (record out { count = count; labels = inner.labels }))
  copies_extend (Err e) few exact is body = λ sound. absurd (is_fault out.fault e sound)
  copies_extend (Ok c) few exact is body = by_fault (or_fault out.fault inner.fault) refl
    where
      by_fault : (fault : Option ConfError) → or_fault out.fault inner.fault ≡ fault → Grows AreOwn out (copied_if fault (flat_anchor written) c inner (record out { fault = fault; count = count; labels = inner.labels }))
      by_fault (Some e) fault_is = λ sound. absurd (cc sound)
      by_fault None fault_is = λ sound. (let none = no_faults out.fault inner.fault fault_is in chosen_extend c (few c refl) (exact c refl) is none.0 (body none.1))

  chosen_count : (c : C.Choices) (fault : Option ConfError) → (copied_if fault (flat_anchor written) c inner (record out { fault = fault; count = count; labels = inner.labels })).count ≡ count
  chosen_count c (Some e) = refl
  chosen_count c None = by_size (length inner.rules == 0)
    where
      by_size : (none : Bool) → (if none then over else fold (with_copy (flat_anchor written) inner) over (combinations c)).count ≡ count
      by_size true = refl
      by_size false = copied_count (flat_anchor written) inner over (combinations c)

  copies_count : (found : Result C.Choices ConfError) → (with_copies (flat_anchor written) found inner (record out { count = count; labels = inner.labels })).count ≡ count
  copies_count (Err e) = refl
  copies_count (Ok c) = chosen_count c (or_fault out.fault inner.fault)

anchor_adds : (AreOfBody : List Label → List FlatRule → Type 0) (setting : Setting) (anchor : AnchorRule) (lists : L.Lists) (inner out new : Body) → AreCounted lists → (has_long_list lists ≡ false → (c : C.Choices) → choices_or_fault lists ≡ Ok c → ArePlain anchor.criteria → length (combinations c) ≡ combinations_in anchor.criteria) → Grows AreOfBody (empty_body out.labels) inner → counted_anchor setting anchor lists inner out ≡ Ok new → Adds setting.used (λ all. AreOfAnchor (AreOfBody all) anchor) out new
anchor_adds AreOfBody setting anchor lists inner out new are exact body is = by_count (counted setting.used setting.line lists out.count inner.count) refl is
  where
    by_count : (found : Result ℕ ConfError) → counted setting.used setting.line lists out.count inner.count ≡ found → anchor_by anchor lists inner out found ≡ Ok new → Adds setting.used (λ all. AreOfAnchor (AreOfBody all) anchor) out new
    by_count (Err e) count_is is = absurd (cc is)
    by_count (Ok count) count_is is =
        let w = within setting.used setting.line lists out.count inner.count count count_is in
        let few = w.few in
        let kept = copies_count AreOfBody anchor inner out count (product lists) (choices_or_fault lists) in
        let same : with_copies (flat_anchor anchor) (choices_or_fault lists) inner (record out { count = count; labels = inner.labels }) ≡ new = cc is in
        subst (Adds setting.used (λ all. AreOfAnchor (AreOfBody all) anchor) out) same (record {
          grows = copies_extend AreOfBody anchor inner out count (product lists) (choices_or_fault lists) (λ c found. combinations_few lists c are w.short found) (exact w.short) w.is body;
          few = omega (arith, kept, few);
        })

-- ---- bodies

body_grows : (used : ℕ) (AreOf : List Label → FilterStatement → List FlatRule → Type 0) (add : Adding) → ((x : FilterStatement) (out new : Body) → add x out ≡ Ok new → Adds used (λ all. AreOf all x) out new)
    → (xs : List FilterStatement) (out new : Body) → body_from add out xs ≡ Ok new → Grows (λ all. AreInTurn (AreOf all) xs) out new
body_grows used AreOf add each [] out new is = λ sound. (
    let same : out ≡ new = cc is in
    subst (Extends (λ all. AreInTurn (AreOf all) []) out) same (record { own = []; sound = subst (λ (b : Body). b.fault ≡ None) (sym same) sound; rules = sym (append-nil out.rules); few = omega arith; labels = reach_themselves out.labels; made = λ all later. refl }))
body_grows used AreOf add each (x ∷ xs) out new is = by_first (λ next. body_grows used AreOf add each xs next new) (add x out) refl is
  where
    by_first : ((next : Body) → body_from add next xs ≡ Ok new → Grows (λ all. AreInTurn (AreOf all) xs) next new) → (found : Result Body ConfError) → add x out ≡ found → and_then found (λ more. body_from add more xs) ≡ Ok new → Grows (λ all. AreInTurn (AreOf all) (x ∷ xs)) out new
    by_first others (Err e) first_is is = absurd (cc is)
    by_first others (Ok next) first_is is = λ sound. (
        let behind = others next is sound in
        let first = (each x out next first_is).grows behind.sound in
        let first_few = first.few in
        let behind_few = behind.few in
        let long = length-append first.own behind.own in
        record {
          own = first.own ++ behind.own;
          sound = first.sound;
          rules = behind.rules ∙ ap (λ (rules : List FlatRule). rules ++ behind.own) first.rules ∙ append_assoc out.rules first.own behind.own;
          few = omega (arith, first_few, behind_few, long);
          labels = reach_on out.labels next.labels new.labels first.labels behind.labels;
          made = λ all later. (first.own, behind.own, refl, first.made all (reach_on next.labels new.labels all behind.labels later), behind.made all later);
        })

with_anchor_adds : (AreOfBody : List Label → List FlatRule → Type 0) (scope : Scope) (setting : Setting) (anchor : AnchorRule) (found : Result Body ConfError) (out new : Body) → ((inner : Body) → found ≡ Ok inner → Grows AreOfBody (empty_body out.labels) inner) → with_anchor scope setting anchor found out ≡ Ok new → Adds setting.used (λ all. AreOfAnchor (AreOfBody all) anchor) out new
with_anchor_adds AreOfBody scope setting anchor (Err e) out new body is = absurd (cc is)
with_anchor_adds AreOfBody scope setting anchor (Ok inner) out new body is = anchor_adds AreOfBody setting anchor (lists_of scope (has_rules inner) anchor.criteria None) inner out new (lists_counted scope (has_rules inner) anchor.criteria None) (λ short c found plain. anchor_exact scope (has_rules inner) anchor.criteria c plain short found) (body inner refl) is

with_rule_adds : (scope : Scope) (setting : Setting) (rule : FilterRule) (out new : Body) → with_rule scope setting rule out ≡ Ok new → Adds setting.used (λ all. AreOfRule all rule) out new
unfolding with_rule
with_rule_adds scope setting rule out new is = by_label (with_label setting.line out.labels rule.options.label) refl is
  where
    by_label : (found : Result (List Label) ConfError) → with_label setting.line out.labels rule.options.label ≡ found → labelled_rule scope setting rule out found ≡ Ok new → Adds setting.used (λ all. AreOfRule all rule) out new
    by_label (Err e) label_is is = absurd (cc is)
    by_label (Ok labels) label_is is =
        let put = label_put setting.line out.labels labels rule.options.label label_is in
        let lists : L.Lists = lists_of scope true rule.criteria rule.options.icmp_types in
        adds_behind setting.used (λ all. AreOfRule all rule) out new labels put.reach (
        rule_adds setting (label_place out.labels rule.options.label) rule lists (record out { labels = labels }) new (lists_counted scope true rule.criteria rule.options.icmp_types)
        (λ short c found. record { asked = rule_asks scope true rule c found; count = λ plain types. rule_exact scope true rule.criteria rule.options.icmp_types c plain types short found }) put.found is)

form_adds : (AreOfBody : List Label → List FilterStatement → List FlatRule → Type 0) (anchored : AnchorRule → List FilterStatement → Body → Result Body ConfError) (scope : Scope) (setting : Setting)
    → ((anchor : AnchorRule) (body : List FilterStatement) (out new : Body) → anchored anchor body out ≡ Ok new → Adds setting.used (λ all. AreOfAnchor (AreOfBody all body) anchor) out new)
    → (x : FilterStatement-F FilterStatement) (out new : Body) → statement_by anchored scope setting x out ≡ Ok new → Adds setting.used (λ all. AreByForm all (AreOfBody all) x) out new
form_adds AreOfBody anchored scope setting each (FilterStatement-F.Rule rule) out new is = with_rule_adds scope setting rule out new is
form_adds AreOfBody anchored scope setting each (FilterStatement-F.Anchor anchor body) out new is = each anchor body out new is

-- what a filter rule or an anchor adds
pub statement_adds : (depth : ℕ) (scope : Scope) (setting : Setting) (x : FilterStatement) (out new : Body) → statement depth scope setting x out ≡ Ok new → Adds setting.used (λ all. AreOfFilter all depth x) out new
unfolding statement
statement_adds zero scope setting x out new is = form_adds (λ all body one. ⊥) _ scope setting (λ anchor body out new is. absurd (cc is)) (out-FilterStatement x) out new is
statement_adds (suc depth) scope setting x out new is =
    form_adds (λ all. AreInTurn (AreOfFilter all depth)) _ scope setting
    (λ anchor body out new is. with_anchor_adds (λ all. AreInTurn (AreOfFilter all depth) body) scope setting anchor (body_from (statement depth scope setting) (empty_body out.labels) body) out new
    (λ inner found. body_grows setting.used (λ all. AreOfFilter all depth) (statement depth scope setting) (statement_adds depth scope setting) body (empty_body out.labels) inner found) is)
    (out-FilterStatement x) out new is
