-- Statements by the depth of their anchors.
use Rattle.std.proofs.Common.{◌≡◌, ◌<◌, ℕ, zero, suc, ◌-◌, ◌==◌, Bool, true, false, if◌then◌else◌, List, length, fold, Option, Some, None, Result, Ok, Err, refl, sym, subst, arith}
use Rattle.pfr_ruleset.specs.declared.flat.FlatAnchor.{FlatAnchor}
use Rattle.pfr_terms.specs.declared.error.ConfError.{ConfError}
use Rattle.pfr_terms.specs.declared.error.ConfErrorKind.TheVariants.{TooDeep}
use Rattle.pfr_conf.specs.declared.filter.FilterRule.{FilterRule}
use Rattle.pfr_conf.specs.declared.anchor.AnchorRule.{AnchorRule}
use Rattle.pfr_conf.specs.declared.anchor.FilterStatement.{FilterStatement, the_lemmas}
use Rattle.pfr_conf.specs.declared.anchor.FilterStatement.TheVariants as s
use Rattle.pfr_elements.specs.declared.scope.Scope.{Scope}
use Rattle.pfr_expand.specs.declared.body.Setting.{Setting}
use Rattle.pfr_expand.specs.declared.body.Body.{Body}
use Rattle.pfr_flat.specs.declared.choices.Choices as C
use Rattle.pfr_flat.specs.Choices.{combinations}
use Rattle.pfr_flat.specs.Counts.{counted}
use Rattle.pfr_flat.specs.Lists.{lists_of}
use Rattle.pfr_expand.specs.Bodies.{anchor_by, body_from, copied_if, empty_body, has_rules, or_fault, statement, with_anchor, with_body, with_copies, with_copy, with_rule}

pub rule : (depth : ℕ) (scope : Scope) (setting : Setting) (r : FilterRule) (out : Body) → statement depth scope setting (s.Rule r) out ≡ with_rule scope setting r out
unfolding statement
rule zero scope setting r out = search the_lemmas
rule (suc depth) scope setting r out = search the_lemmas

pub deepest : (depth : ℕ) (scope : Scope) (setting : Setting) (anchor : AnchorRule) (body : List FilterStatement) (out : Body) → depth ≡ 0
    → statement depth scope setting (s.Anchor anchor body) out ≡ Err (record { line = anchor.line; kind = TooDeep })
unfolding statement
deepest zero scope setting anchor body out none = search the_lemmas
deepest (suc depth) scope setting anchor body out none = absurd (omega arith)

at_depth : (depth : ℕ) (scope : Scope) (setting : Setting) (anchor : AnchorRule) (body : List FilterStatement) (out : Body)
    → statement (suc depth) scope setting (s.Anchor anchor body) out ≡ with_anchor scope setting anchor (body_from (statement depth scope setting) (empty_body out.labels) body) out
unfolding statement
at_depth depth scope setting anchor body out = search the_lemmas

pub deeper : (depth : ℕ) (scope : Scope) (setting : Setting) (anchor : AnchorRule) (body : List FilterStatement) (out : Body) → 0 < depth
    → statement depth scope setting (s.Anchor anchor body) out ≡ with_anchor scope setting anchor (body_from (statement (depth - 1) scope setting) (empty_body out.labels) body) out
deeper zero scope setting anchor body out some = absurd (omega arith)
deeper (suc depth) scope setting anchor body out some = let e : suc depth - 1 ≡ depth = omega arith in rw e (at_depth depth scope setting anchor body out)

-- ---- the labels behind an anchor are those of its body

-- what is made of an anchor's body needs none of its labels
pub labels_taken : (anchor : FlatAnchor) (found : Result C.Choices ConfError) (inner taken out : Body) → taken ≡ record inner { labels = taken.labels } → with_copies anchor found taken out ≡ with_copies anchor found inner out
labels_taken anchor found inner taken out is = subst (λ (body : Body). with_copies anchor found body out ≡ with_copies anchor found inner out) (sym is) (by_choices found)
  where
    by_size : (c : C.Choices) (fault : Option ConfError) (none : Bool)
        → (if none then record out { fault = fault } else fold (with_copy anchor (record inner { labels = taken.labels })) (record out { fault = fault }) (combinations c)) ≡ (if none then record out { fault = fault } else fold (with_copy anchor inner) (record out { fault = fault }) (combinations c))
    by_size c fault true = refl
    by_size c fault false = refl

    by_fault : (c : C.Choices) (fault : Option ConfError) → copied_if fault anchor c (record inner { labels = taken.labels }) (record out { fault = fault }) ≡ copied_if fault anchor c inner (record out { fault = fault })
    by_fault c (Some e) = refl
    by_fault c None = by_size c None (length inner.rules == 0)

    by_choices : (choices : Result C.Choices ConfError) → with_copies anchor choices (record inner { labels = taken.labels }) out ≡ with_copies anchor choices inner out
    by_choices (Err e) = refl
    by_choices (Ok c) = by_fault c (or_fault out.fault inner.fault)

-- it needs none of those before the anchor
pub labels_go_in : (scope : Scope) (setting : Setting) (anchor : AnchorRule) (inner out emptied : Body) → emptied ≡ record out { labels = emptied.labels } → with_body scope setting anchor inner emptied ≡ with_body scope setting anchor inner out
labels_go_in scope setting anchor inner out emptied is = subst (λ (body : Body). with_body scope setting anchor inner body ≡ with_body scope setting anchor inner out) (sym is) (by_count (counted setting.used setting.line (lists_of scope (has_rules inner) anchor.criteria None) out.count inner.count))
  where
    by_count : (found : Result ℕ ConfError) → anchor_by anchor (lists_of scope (has_rules inner) anchor.criteria None) inner (record out { labels = emptied.labels }) found ≡ anchor_by anchor (lists_of scope (has_rules inner) anchor.criteria None) inner out found
    by_count (Err e) = refl
    by_count (Ok count) = refl
