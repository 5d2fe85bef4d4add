-- The readers of statements have their faults on lines of the text.
use Rattle.std.proofs.Common.{◌≡◌, ◌+◌, ℕ, zero, suc, if◌then◌else◌, List, Option, Some, None, Ok, Err, subst}
use Rattle.pfr_words.specs.declared.sign.Sign.TheVariants as s
use Rattle.pfr_words.specs.Names.{is_name}
use Rattle.pfr_words.specs.Words.{newlines, words}
use Rattle.pfr_terms.specs.declared.error.ConfError.{ConfError}
use Rattle.pfr_terms.specs.declared.error.ConfErrorKind.TheVariants.{OutOfOrder}
use Rattle.pfr_terms.specs.declared.name.Name.{Name}
use Rattle.pfr_terms.specs.declared.name.MacroUse.{MacroUse}
use Rattle.pfr_terms.specs.Input.{Input, Outcome, Parser, and_then, ◌>>=◌, pure, refuse, start, plain_ahead, quoted_ahead, macro_ahead, line_ahead, eat_sign, named, unknown_word}
use Rattle.pfr_terms.proofs.Lines.{IsLine, Within, Good, Keeps, either, skipped_within, next_within, line_ahead_is, refusal_is, keeps_then, keeps_pure, keeps_if, keeps_test, keeps_by, keeps_fault, keeps_faulty, keeps_loop, keeps_eat_sign, reading}
use Rattle.pfr_terms.proofs.TermLines.{keeps_members, keeps_table_name, keeps_table_entry, keeps_criteria}
use Rattle.pfr_conf.specs.declared.filter.Action as A
use Rattle.pfr_conf.specs.declared.anchor.FilterStatement.{FilterStatement}
use Rattle.pfr_conf.specs.declared.macros.Piece as P
use Rattle.pfr_conf.specs.declared.statement.Statement.{Statement}
use Rattle.pfr_conf.specs.Filters as filters
use Rattle.pfr_conf.specs.Anchors as anchors
use Rattle.pfr_conf.specs.Macros as macros
use Rattle.pfr_conf.specs.Tables as tables
use Rattle.pfr_conf.specs.Statements as statements
use Rattle.pfr_conf.proofs.RuleLines.{keeps_name_ahead, keeps_direction, keeps_end_of_line, keeps_set_option, keeps_action, keeps_filter_rule}
use Rattle.pfr_conf.proofs.TranslationLines.{keeps_translation_statement}
use Rattle.pfr_conf.proofs.WordLines.{begins_within}

-- ---- anchors

anchor_rule_keeps : {n : ℕ} (line : ℕ) → Keeps n (anchors.anchor_rule line)
unfolding anchors.anchor_rule
anchor_rule_keeps line = search (reading, keeps_name_ahead, keeps_direction, keeps_criteria) depth 8

blank_lines_keeps : {n : ℕ} → Keeps n anchors.blank_lines
blank_lines_keeps {n = n} = record { from = skipped_within n }

body_line_keeps : {n : ℕ} (item : Parser FilterStatement) → Keeps n item → (more : List FilterStatement → Parser (List FilterStatement)) → ((found : List FilterStatement) → Keeps n (more found)) → (found : List FilterStatement) → Keeps n (anchors.body_line item more found)
body_line_keeps item keeps more rest found = search (reading, blank_lines_keeps, keeps_end_of_line, rest) depth 8

body_lines_keeps : {n : ℕ} (item : Parser FilterStatement) → Keeps n item → Keeps n (anchors.body_lines item)
body_lines_keeps item keeps = keeps_loop (anchors.body_line item) _ (body_line_keeps item keeps)

body_keeps : {n : ℕ} (item : Parser FilterStatement) → Keeps n item → Keeps n (anchors.body item)
unfolding anchors.body
body_keeps item keeps = search (reading, keeps_end_of_line, body_lines_keeps) depth 8

anchor_of_keeps : {n : ℕ} (item : Parser FilterStatement) → Keeps n item → (line : ℕ) → Keeps n (anchors.anchor_of item line)
unfolding anchors.anchor_of
anchor_of_keeps item keeps line = search (reading, anchor_rule_keeps, body_keeps)

rule_or_keeps : {n : ℕ} (anchor : ℕ → Parser FilterStatement) → ((line : ℕ) → Keeps n (anchor line)) → (line : ℕ) (found : Option A.Action) → Keeps n (anchors.rule_or anchor line found)
rule_or_keeps anchor keeps line (Some found) = search (reading, keeps_filter_rule)
rule_or_keeps anchor keeps line None = search (reading, keeps_test, keeps)

rule_or_anchor_keeps : {n : ℕ} (anchor : ℕ → Parser FilterStatement) → ((line : ℕ) → Keeps n (anchor line)) → Keeps n (anchors.rule_or_anchor anchor)
unfolding anchors.rule_or_anchor
rule_or_anchor_keeps anchor keeps = keeps_by line_ahead (λ line. filters.action >>= anchors.rule_or anchor line) (λ line. keeps_then keeps_action (rule_or_keeps anchor keeps line))

statement_keeps : {n : ℕ} (depth : ℕ) → Keeps n (anchors.statement depth)
unfolding anchors.statement
statement_keeps zero = rule_or_anchor_keeps _ (λ line. search reading)
statement_keeps (suc depth) = rule_or_anchor_keeps _ (anchor_of_keeps (anchors.statement depth) (statement_keeps depth))

-- ---- macros

piece_by_keeps : {n : ℕ} (found : Option MacroUse) (quoted plain : Option (List ℕ)) → Keeps n (macros.piece_by found quoted plain)
piece_by_keeps (Some found) quoted plain = search reading
piece_by_keeps None (Some text) plain = search reading
piece_by_keeps None None (Some word) = search reading
piece_by_keeps None None None = search reading

piece_keeps : {n : ℕ} → Keeps n macros.piece
unfolding macros.piece
piece_keeps =
    keeps_by macro_ahead (λ found i. macros.piece_by found (quoted_ahead i) (plain_ahead i) i) (λ found.
    keeps_by quoted_ahead (λ quoted i. macros.piece_by found quoted (plain_ahead i) i) (λ quoted.
    keeps_by plain_ahead (macros.piece_by found quoted) (piece_by_keeps found quoted)))

piece_more_keeps : {n : ℕ} (more : List P.Piece → Parser (List P.Piece)) → ((found : List P.Piece) → Keeps n (more found)) → (found : List P.Piece) → Keeps n (macros.piece_more more found)
piece_more_keeps more rest found = search (reading, piece_keeps, keeps_test, rest)

pieces_keeps : {n : ℕ} → Keeps n macros.pieces
pieces_keeps = keeps_loop macros.piece_more _ piece_more_keeps

-- the line of a macro's name is a line too
abbrev IsNamed : ℕ → Outcome Name → Type 0
IsNamed n (Ok p) = IsLine n p.0.line × Within n p.1
IsNamed n (Err e) = IsLine n e.line

named_is : (n : ℕ) (found : Option (List ℕ)) (i : Input) → Within n i → IsNamed n (macros.name_by found i)
unfolding named
named_is n None i within = refusal_is n i within
named_is n (Some word) i within = either (λ (p : Parser Name). IsNamed n (p i)) (is_name word) (named word) refuse (line_ahead_is n i within, next_within n i within) (refusal_is n i within)

abbrev defined : Name → Parser Name
defined name = do
  is_defined ← eat_sign s.Equal
  if is_defined then pure name else (λ j. Err (unknown_word name.line))

defined_keeps : {n : ℕ} (name : Name) → IsLine n name.line → Keeps n (defined name)
defined_keeps name is = keeps_then (keeps_eat_sign s.Equal) (λ is_defined. keeps_if is_defined (keeps_pure name) (keeps_fault (λ j. unknown_word name.line) (λ j within. is)))

defined_is : (n : ℕ) (outcome : Outcome Name) → IsNamed n outcome → Good n (and_then outcome defined)
defined_is n (Ok p) is = (defined_keeps p.0 is.0).from p.1 is.1
defined_is n (Err e) is = is

macro_name_keeps : {n : ℕ} → Keeps n macros.macro_name
unfolding macros.macro_name
macro_name_keeps {n = n} = record { from = λ i within. defined_is n _ (named_is n (plain_ahead i) i within) }

macro_definition_keeps : {n : ℕ} → Keeps n macros.macro_definition
unfolding macros.macro_definition
macro_definition_keeps = search (reading, macro_name_keeps, pieces_keeps)

-- ---- tables

flag_keeps : {n : ℕ} → Keeps n tables.flag
unfolding tables.flag
flag_keeps = search reading

flag_more_keeps : {n : ℕ} (more : Unit {0} → Parser (Unit {0})) → ((done : Unit {0}) → Keeps n (more done)) → (done : Unit {0}) → Keeps n (tables.flag_more more done)
flag_more_keeps more rest done = search (reading, flag_keeps, rest)

flags_keeps : {n : ℕ} → Keeps n tables.flags
flags_keeps = keeps_loop tables.flag_more tt flag_more_keeps

entries_keeps : {n : ℕ} → Keeps n tables.entries
unfolding tables.entries
entries_keeps = search (reading, keeps_members, keeps_table_entry) depth 8

table_definition_keeps : {n : ℕ} (line : ℕ) → Keeps n (tables.table_definition line)
unfolding tables.table_definition
table_definition_keeps line = search (reading, keeps_table_name, flags_keeps, entries_keeps) depth 8

-- ---- statements

rule_to_translate_keeps : {n : ℕ} (found : List Statement) → Keeps n (statements.rule_to_translate found)
unfolding statements.rule_to_translate
rule_to_translate_keeps found = keeps_then keeps_translation_statement (λ rule. keeps_pure _)

translation_line_keeps : {n : ℕ} (so_far : statements.Lines) → Keeps n (statements.translation_line so_far)
unfolding statements.translation_line
translation_line_keeps so_far = keeps_test (λ i. statements.may_translate so_far.0) (rule_to_translate_keeps so_far.1) (keeps_faulty OutOfOrder)

macro_statement_keeps : {n : ℕ} (so_far : statements.Lines) → Keeps n (statements.macro_statement so_far)
unfolding statements.macro_statement
macro_statement_keeps so_far = search (reading, macro_definition_keeps)

table_statement_keeps : {n : ℕ} (line : ℕ) (so_far : statements.Lines) → Keeps n (statements.table_statement line so_far)
unfolding statements.table_statement
table_statement_keeps line so_far = search (reading, table_definition_keeps)

translation_or_macro_keeps : {n : ℕ} (so_far : statements.Lines) → Keeps n (statements.translation_or_macro so_far)
translation_or_macro_keeps so_far = keeps_test _ (translation_line_keeps so_far) (macro_statement_keeps so_far)

definition_keeps : {n : ℕ} (so_far : statements.Lines) (line : ℕ) → Keeps n (statements.definition so_far line)
definition_keeps so_far line = search (reading, table_statement_keeps, translation_or_macro_keeps)

filter_statement_keeps : {n : ℕ} (found : List Statement) → Keeps n (statements.filter_statement found)
unfolding statements.filter_statement
filter_statement_keeps found = search (reading, statement_keeps)

rule_or_definition_keeps : {n : ℕ} (so_far : statements.Lines) → Keeps n (statements.rule_or_definition so_far)
unfolding statements.rule_or_definition
rule_or_definition_keeps so_far = keeps_test _ (filter_statement_keeps so_far.1) (keeps_by line_ahead (statements.definition so_far) (definition_keeps so_far))

set_statement_keeps : {n : ℕ} (so_far : statements.Lines) → Keeps n (statements.set_statement so_far)
unfolding statements.set_statement
set_statement_keeps so_far = search (reading, keeps_set_option)

any_statement_keeps : {n : ℕ} (so_far : statements.Lines) → Keeps n (statements.any_statement so_far)
unfolding statements.any_statement
any_statement_keeps so_far = search (reading, keeps_test, rule_or_definition_keeps, set_statement_keeps)

text_line_keeps : {n : ℕ} (more : statements.Lines → Parser (List Statement)) → ((so_far : statements.Lines) → Keeps n (more so_far)) → (so_far : statements.Lines) → Keeps n (statements.text_line more so_far)
text_line_keeps more rest so_far = search (reading, keeps_test, blank_lines_keeps, any_statement_keeps, keeps_end_of_line, rest) depth 8

lines_keep : {n : ℕ} → Keeps n statements.lines
lines_keep = keeps_loop statements.text_line _ text_line_keeps

-- ---- the fault of a text

fault_of_whole_is : (n : ℕ) (outcome : Outcome (List Statement)) (e : ConfError) → Good n outcome → statements.whole outcome ≡ Err e → IsLine n e.line
fault_of_whole_is n (Ok p) e good is = absurd (cc)
fault_of_whole_is n (Err f) e good is = let same : f ≡ e = cc in subst (λ (g : ConfError). IsLine n g.line) same good

pub fault_is_on_a_line : (text : List ℕ) (e : ConfError) → statements.statements_of text ≡ Err e → IsLine (1 + newlines text) e.line
unfolding statements.statements_of statements.statements_in
fault_is_on_a_line text e is = fault_of_whole_is (1 + newlines text) _ e (lines_keep.from (start (words text)) (begins_within text)) is
