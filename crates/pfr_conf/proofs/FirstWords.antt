-- A statement whose first word is there reads the same, whatever line was read before.
use Rattle.std.proofs.Common.{◌≡◌, ℕ, zero, suc, Bool, true, false, not, if◌then◌else◌, List, ◌∷◌, Option, Some, None, Err, codes, refl, ap}
use Rattle.pfr_words.specs.declared.word.Token.{Token}
use Rattle.pfr_words.specs.declared.word.Token.TheVariants as t
use Rattle.pfr_words.specs.declared.word.Word.{Word}
use Rattle.pfr_words.specs.Names.{is_name}
use Rattle.pfr_terms.specs.declared.error.ConfErrorKind.{ConfErrorKind}
use Rattle.pfr_terms.specs.declared.error.ConfErrorKind.TheVariants.{OutOfOrder, TooDeep}
use Rattle.pfr_terms.specs.Input.{Input, Parser, and_then, ◌>>=◌, pure, is_line_end, line_ahead, plain_ahead, sees_word, is_word, token_refusal, refusal, refuse, fault, faulty, named, next, eat_word}
use Rattle.pfr_terms.specs.Ports.{eaten}
use Rattle.pfr_conf.specs.declared.filter.Action as A
use Rattle.pfr_conf.specs.declared.filter.Action.TheVariants.{Pass, Block}
use Rattle.pfr_conf.specs.declared.anchor.FilterStatement.{FilterStatement}
use Rattle.pfr_conf.specs.declared.translation.TranslationKind.{TranslationKind}
use Rattle.pfr_conf.specs.declared.statement.Statement.{Statement}
use Rattle.pfr_conf.specs.Filters.{action}
use Rattle.pfr_conf.specs.Policies.{block_policy}
use Rattle.pfr_conf.specs.Anchors.{anchor_of, rule_or, rule_or_anchor, statement}
use Rattle.pfr_conf.specs.Translations.{kind, kind_in, anchor_kind, anchor_kind_in, rule_without_target, rule_by, rule_on, translation_rule, anchor_or_rule, translation_statement}
use Rattle.pfr_conf.specs.Macros.{macro_name, macro_definition, name_by}
use Rattle.pfr_conf.specs.Statements.{Lines, begins_filter, begins_translation, may_set, may_translate, any_statement, set_statement, rule_or_definition, filter_statement, definition, translation_or_macro, translation_line, rule_to_translate, macro_statement, table_statement}

-- this word is the next, and what was read before ended on this line
abbrev pub front : ℕ → Word → List Word → Input
front line v vs = record { words = v ∷ vs; line = line; in_list = false; gathers = false; gathered = None }

-- ---- what is ahead

line_alike : (l m : ℕ) (v : Word) (vs : List Word) → is_line_end v.token ≡ false → line_ahead (front l v vs) ≡ line_ahead (front m v vs)
unfolding line_ahead
line_alike l m v vs inner = rw inner refl

plain_alike : (l m : ℕ) (v : Word) (vs : List Word) → plain_ahead (front l v vs) ≡ plain_ahead (front m v vs)
unfolding plain_ahead
plain_alike l m v vs = refl

next_alike : (l m : ℕ) (v : Word) (vs : List Word) → next (front l v vs) ≡ next (front m v vs)
unfolding next
next_alike l m v vs = refl

sees_alike : (word : List ℕ) (l m : ℕ) (v : Word) (vs : List Word) → sees_word word (front l v vs) ≡ sees_word word (front m v vs)
unfolding sees_word
sees_alike word l m v vs = ap (is_word word) (plain_alike l m v vs)

token_alike : (l m line : ℕ) (token : Token) → is_line_end token ≡ false → token_refusal l line token ≡ token_refusal m line token
token_alike l m line t.LineEnd inner = absurd (cc)
token_alike l m line token inner = refl

refusal_alike : (l m : ℕ) (v : Word) (vs : List Word) → is_line_end v.token ≡ false → refusal (front l v vs) ≡ refusal (front m v vs)
unfolding refusal
refusal_alike l m v vs inner = token_alike l m v.line v.token inner

fault_alike : (kind : ConfErrorKind) (l m : ℕ) (v : Word) (vs : List Word) → is_line_end v.token ≡ false → fault kind (front l v vs) ≡ fault kind (front m v vs)
unfolding fault
fault_alike kind l m v vs inner = rw (line_alike l m v vs inner) refl

-- ---- single words

named_alike : (text : List ℕ) (l m : ℕ) (v : Word) (vs : List Word) → is_line_end v.token ≡ false → named text (front l v vs) ≡ named text (front m v vs)
unfolding named
named_alike text l m v vs inner = rw (line_alike l m v vs inner, next_alike l m v vs) refl

eaten_by : {A : Type 0} (found : Bool) (f : Bool → Parser A) (n i j : Input) → f false i ≡ f false j → f found (if found then n else i) ≡ f found (if found then n else j)
eaten_by true f n i j same = refl
eaten_by false f n i j same = same

eat_alike : {A : Type 0} (word : List ℕ) (f : Bool → Parser A) (l m : ℕ) (v : Word) (vs : List Word) → f false (front l v vs) ≡ f false (front m v vs) → (eat_word word >>= f) (front l v vs) ≡ (eat_word word >>= f) (front m v vs)
unfolding eat_word
eat_alike word f l m v vs same = rw (sees_alike word l m v vs, next_alike l m v vs) (eaten_by (sees_word word (front m v vs)) f (next (front m v vs)) (front l v vs) (front m v vs) same)

-- ---- rules and anchors

anchor_alike : (item : Parser FilterStatement) (line l m : ℕ) (v : Word) (vs : List Word) → anchor_of item line (front l v vs) ≡ anchor_of item line (front m v vs)
unfolding anchor_of
anchor_alike item line l m v vs = rw (next_alike l m v vs) refl

seen_alike : {X : Type 0} (found : Bool) (x y x' y' : X) → x ≡ x' → y ≡ y' → (if found then x else y) ≡ (if found then x' else y')
seen_alike true x y x' y' first second = first
seen_alike false x y x' y' first second = second

action_alike : (g : Option A.Action → Parser FilterStatement) (l m : ℕ) (v : Word) (vs : List Word) → g None (front l v vs) ≡ g None (front m v vs) → and_then (action (front l v vs)) g ≡ and_then (action (front m v vs)) g
unfolding action eat_word
action_alike g l m v vs same =
    eat_alike (codes "pass") (λ is_pass. (if is_pass then pure (Some Pass) else (eat_word (codes "block") >>= (λ is_block. if is_block then (block_policy >>= (λ policy. pure (Some (Block policy)))) else pure None))) >>= g) l m v vs
    (eat_alike (codes "block") (λ is_block. (if is_block then (block_policy >>= (λ policy. pure (Some (Block policy)))) else pure None) >>= g) l m v vs same)

no_action_alike : (anchor : ℕ → Parser FilterStatement) (line l m : ℕ) (v : Word) (vs : List Word) → is_line_end v.token ≡ false → anchor line (front l v vs) ≡ anchor line (front m v vs) → rule_or anchor line None (front l v vs) ≡ rule_or anchor line None (front m v vs)
no_action_alike anchor line l m v vs inner same = rw (sees_alike (codes "anchor") l m v vs) (seen_alike (sees_word (codes "anchor") (front m v vs)) _ _ _ _ same (ap Err (refusal_alike l m v vs inner)))

rule_or_anchor_alike : (anchor : ℕ → Parser FilterStatement) (l m : ℕ) (v : Word) (vs : List Word) → is_line_end v.token ≡ false → ((line : ℕ) → anchor line (front l v vs) ≡ anchor line (front m v vs)) → rule_or_anchor anchor (front l v vs) ≡ rule_or_anchor anchor (front m v vs)
unfolding rule_or_anchor
rule_or_anchor_alike anchor l m v vs inner same = rw (line_alike l m v vs inner) (action_alike (rule_or anchor (line_ahead (front m v vs))) l m v vs (no_action_alike anchor (line_ahead (front m v vs)) l m v vs inner (same (line_ahead (front m v vs)))))

statement_alike : (depth l m : ℕ) (v : Word) (vs : List Word) → is_line_end v.token ≡ false → statement depth (front l v vs) ≡ statement depth (front m v vs)
unfolding statement
statement_alike zero l m v vs inner = rule_or_anchor_alike (λ line. faulty TooDeep) l m v vs inner (λ line. ap Err (fault_alike TooDeep l m v vs inner))
statement_alike (suc depth) l m v vs inner = rule_or_anchor_alike (anchor_of (statement depth)) l m v vs inner (λ line. anchor_alike (statement depth) line l m v vs)

filter_alike : (found : List Statement) (l m : ℕ) (v : Word) (vs : List Word) → is_line_end v.token ≡ false → filter_statement found (front l v vs) ≡ filter_statement found (front m v vs)
unfolding filter_statement
filter_alike found l m v vs inner = rw (statement_alike 16 l m v vs inner) refl

-- ---- translation rules

eaten_alike : {X A : Type 0} (found : Option X) (f : Option X → Parser A) (l m : ℕ) (v : Word) (vs : List Word) → f None (front l v vs) ≡ f None (front m v vs) → and_then (eaten found (front l v vs)) f ≡ and_then (eaten found (front m v vs)) f
eaten_alike None f l m v vs same = same
eaten_alike (Some found) f l m v vs same = rw (next_alike l m v vs) refl

kind_alike : {A : Type 0} (f : Option TranslationKind → Parser A) (l m : ℕ) (v : Word) (vs : List Word) → f None (front l v vs) ≡ f None (front m v vs) → (kind >>= f) (front l v vs) ≡ (kind >>= f) (front m v vs)
unfolding kind
kind_alike f l m v vs same = rw (plain_alike l m v vs) (eaten_alike (kind_in (plain_ahead (front m v vs))) f l m v vs same)

rule_on_alike : (line l m : ℕ) (v : Word) (vs : List Word) → is_line_end v.token ≡ false → rule_on line (front l v vs) ≡ rule_on line (front m v vs)
rule_on_alike line l m v vs inner = eat_alike (codes "no") (λ is_no. if is_no then rule_without_target line else (kind >>= rule_by line)) l m v vs (kind_alike (rule_by line) l m v vs (ap Err (refusal_alike l m v vs inner)))

-- the rule's line is that of its first word
translation_rule_alike : (l m : ℕ) (v : Word) (vs : List Word) → is_line_end v.token ≡ false → translation_rule (front l v vs) ≡ translation_rule (front m v vs)
unfolding translation_rule
translation_rule_alike l m v vs inner = rw (line_alike l m v vs inner) (rule_on_alike (line_ahead (front m v vs)) l m v vs inner)

no_anchor_alike : (l m : ℕ) (v : Word) (vs : List Word) → is_line_end v.token ≡ false → anchor_or_rule None (front l v vs) ≡ anchor_or_rule None (front m v vs)
no_anchor_alike l m v vs inner = rw (translation_rule_alike l m v vs inner) refl

translation_statement_alike : (l m : ℕ) (v : Word) (vs : List Word) → is_line_end v.token ≡ false → translation_statement (front l v vs) ≡ translation_statement (front m v vs)
unfolding translation_statement anchor_kind
translation_statement_alike l m v vs inner = rw (plain_alike l m v vs) (eaten_alike (anchor_kind_in (plain_ahead (front m v vs))) anchor_or_rule l m v vs (no_anchor_alike l m v vs inner))

rule_to_translate_alike : (found : List Statement) (l m : ℕ) (v : Word) (vs : List Word) → is_line_end v.token ≡ false → rule_to_translate found (front l v vs) ≡ rule_to_translate found (front m v vs)
unfolding rule_to_translate
rule_to_translate_alike found l m v vs inner = rw (translation_statement_alike l m v vs inner) refl

translation_alike : (so_far : Lines) (l m : ℕ) (v : Word) (vs : List Word) → is_line_end v.token ≡ false → translation_line so_far (front l v vs) ≡ translation_line so_far (front m v vs)
unfolding translation_line
translation_alike so_far l m v vs inner = seen_alike (may_translate so_far.0) _ _ _ _ (rule_to_translate_alike so_far.1 l m v vs inner) (ap Err (fault_alike OutOfOrder l m v vs inner))

-- ---- definitions

name_if : (is : Bool) (word : List ℕ) (l m : ℕ) (v : Word) (vs : List Word) → is_line_end v.token ≡ false → (if is then named word else refuse) (front l v vs) ≡ (if is then named word else refuse) (front m v vs)
name_if true word l m v vs inner = named_alike word l m v vs inner
name_if false word l m v vs inner = ap Err (refusal_alike l m v vs inner)

name_alike : (found : Option (List ℕ)) (l m : ℕ) (v : Word) (vs : List Word) → is_line_end v.token ≡ false → name_by found (front l v vs) ≡ name_by found (front m v vs)
name_alike None l m v vs inner = ap Err (refusal_alike l m v vs inner)
name_alike (Some word) l m v vs inner = name_if (is_name word) word l m v vs inner

macro_alike : (so_far : Lines) (l m : ℕ) (v : Word) (vs : List Word) → is_line_end v.token ≡ false → macro_statement so_far (front l v vs) ≡ macro_statement so_far (front m v vs)
unfolding macro_statement macro_definition macro_name
macro_alike so_far l m v vs inner = rw (plain_alike l m v vs, name_alike (plain_ahead (front m v vs)) l m v vs inner) refl

no_table_alike : (so_far : Lines) (l m : ℕ) (v : Word) (vs : List Word) → is_line_end v.token ≡ false → translation_or_macro so_far (front l v vs) ≡ translation_or_macro so_far (front m v vs)
no_table_alike so_far l m v vs inner = rw (plain_alike l m v vs) (seen_alike (begins_translation (plain_ahead (front m v vs))) _ _ _ _ (translation_alike so_far l m v vs inner) (macro_alike so_far l m v vs inner))

definition_alike : (so_far : Lines) (line l m : ℕ) (v : Word) (vs : List Word) → is_line_end v.token ≡ false → definition so_far line (front l v vs) ≡ definition so_far line (front m v vs)
definition_alike so_far line l m v vs inner = eat_alike (codes "table") (λ is_table. if is_table then table_statement line so_far else translation_or_macro so_far) l m v vs (no_table_alike so_far l m v vs inner)

-- ---- statements

rule_or_definition_alike : (so_far : Lines) (l m : ℕ) (v : Word) (vs : List Word) → is_line_end v.token ≡ false → rule_or_definition so_far (front l v vs) ≡ rule_or_definition so_far (front m v vs)
unfolding rule_or_definition
rule_or_definition_alike so_far l m v vs inner =
    rw (plain_alike l m v vs, line_alike l m v vs inner) (seen_alike (begins_filter (plain_ahead (front m v vs))) _ _ _ _ (filter_alike so_far.1 l m v vs inner) (definition_alike so_far (line_ahead (front m v vs)) l m v vs inner))

set_alike : (so_far : Lines) (l m : ℕ) (v : Word) (vs : List Word) → set_statement so_far (front l v vs) ≡ set_statement so_far (front m v vs)
unfolding set_statement
set_alike so_far l m v vs = rw (next_alike l m v vs) refl

pub any_statement_alike : (so_far : Lines) (l m : ℕ) (v : Word) (vs : List Word) → is_line_end v.token ≡ false → any_statement so_far (front l v vs) ≡ any_statement so_far (front m v vs)
unfolding any_statement
any_statement_alike so_far l m v vs inner =
    rw (sees_alike (codes "set") l m v vs)
    (seen_alike (not (sees_word (codes "set") (front m v vs))) _ _ _ _ (rule_or_definition_alike so_far l m v vs inner)
    (seen_alike (may_set so_far.0) _ _ _ _ (set_alike so_far l m v vs) (ap Err (fault_alike OutOfOrder l m v vs inner))))
