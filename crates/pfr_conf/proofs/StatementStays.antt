-- The readers of statements read the same if lines stand behind what they read.
use Rattle.std.proofs.Common.{◌≡◌, ◌≤◌, ◌<◌, ℕ, zero, suc, if◌then◌else◌, Bool, true, false, not, List, [], ◌∷◌, ◌++◌, length, Option, Some, None, Ok, Err, codes, refl, sym, ◌∙◌, ap, arith}
use Rattle.pfr_words.specs.declared.sign.Sign.TheVariants as s
use Rattle.pfr_words.specs.declared.word.Token.{Token}
use Rattle.pfr_words.specs.declared.word.Token.TheVariants as t
use Rattle.pfr_words.specs.declared.word.Word.{Word}
use Rattle.pfr_words.specs.Names.{is_name}
use Rattle.pfr_words.specs.Words.{closers, closers_before}
use Rattle.pfr_terms.specs.declared.name.Name.{Name}
use Rattle.pfr_terms.specs.declared.address.TableEntry.{TableEntry}
use Rattle.pfr_terms.specs.Input.{Input, Outcome, Parser, and_then, ◌>>=◌, pure, refuse, taken, is_line_end, ends_line, skip_line_ends, stepped, next, at_line_end, plain_ahead, quoted_ahead, macro_ahead, line_ahead, sees_word, eat_sign, close_list, faulty, unknown_word}
use Rattle.pfr_terms.specs.declared.error.ConfErrorKind.TheVariants.{OutOfOrder}
use Rattle.pfr_terms.specs.Lists.{members}
use Rattle.pfr_terms.specs.Addresses.{table_entry}
use Rattle.pfr_terms.proofs.BraceStays.{stays_expect_sign, stays_open_list, stays_close_list, stays_open_body, stays_close_body}
use Rattle.pfr_terms.proofs.Closers.{longer, mode, Closed, Fine, Sees, Follows, Stays, skip_longer, skip_closers, skip_closed, skip_length}
use Rattle.pfr_terms.proofs.Sights.{Sight, IsTest, plain_sight, plain_shows, quoted_sight, quoted_shows, macro_sight, macro_shows, line_sight, refusal_sight, end_sight, word_sight, word_test, named_sight}
use Rattle.pfr_terms.proofs.Stays.{stays_pure, stays_then, stays_first, stays_turn, stays_by_test, stays_found, stays_if, stays_any, stays_by, stays_at, stays_test, either_follows, stays_fault, stays_loop, stays_eat_word, stays_eat_word_so, stays_eat_sign, stays_named, stays_taken, stays_refuse, stays_faulty}
use Rattle.pfr_terms.proofs.TermStays.{stays_members, stays_table_name, stays_table_entry, stays_criteria}
use Rattle.pfr_conf.specs.declared.filter.Action as A
use Rattle.pfr_conf.specs.declared.anchor.AnchorRule.{AnchorRule}
use Rattle.pfr_conf.specs.declared.anchor.FilterStatement.{FilterStatement}
use Rattle.pfr_conf.specs.declared.anchor.FilterStatement.TheVariants as f
use Rattle.pfr_conf.specs.declared.macros.Piece as P
use Rattle.pfr_conf.specs.declared.macros.Piece.TheVariants as p
use Rattle.pfr_conf.specs.declared.macros.MacroDefinition.{MacroDefinition}
use Rattle.pfr_conf.specs.declared.table.TableDefinition.{TableDefinition}
use Rattle.pfr_conf.specs.declared.statement.Statement.{Statement}
use Rattle.pfr_conf.specs.declared.statement.Statement.TheVariants as st
use Rattle.pfr_conf.specs.Policies as policies
use Rattle.pfr_conf.specs.Filters as filters
use Rattle.pfr_conf.specs.Anchors as anchors
use Rattle.pfr_conf.specs.Macros as macros
use Rattle.pfr_conf.specs.Tables as tables
use Rattle.pfr_conf.specs.Statements as statements
use Rattle.pfr_conf.proofs.RuleStays.{is_there, stays_name_ahead, stays_direction, stays_set_option, stays_action, stays_filter_rule}
use Rattle.pfr_conf.proofs.TranslationStays.{stays_translation_statement}

-- ---- what is left, counted from elsewhere

weaker : {A : Type 0} (line : ℕ) (ys : List Word) (to : Bool) (closing all other_all n m : ℕ) (x y : Outcome A)
    → Follows line ys to closing (λ (a : A). false) all n x y → all ≡ other_all → n ≤ m
    → Follows line ys to closing (λ (a : A). false) other_all m x y
weaker line ys to closing all other_all n m (Ok r) y after e less = record {
  same = after.same;
  fine = after.fine;
  braces = after.braces ∙ e;
  fewer = let fewer = after.fewer in omega (arith, fewer, less);
}
weaker line ys to closing all other_all n m (Err f) y same e less = same

line_end_counts : (token : Token) (n : ℕ) → is_line_end token ≡ true → closers_before token n ≡ n
line_end_counts t.LineEnd n e = refl
line_end_counts token n e = absurd (cc)

-- ---- ends of lines within a body, whose brace is still to come

stays_blank : {A : Type 0} {sees : Bool} {count : ℕ} (f g : Unit {0} → Parser A) → Stays false false 1 false (λ a. false) count (f tt) (g tt)
    → Stays false false 1 sees (λ a. false) count (anchors.blank_lines >>= f) (anchors.blank_lines >>= g)
stays_blank f g stays = record {
  from = λ line ys i fine braces sees within.
      let kept = skip_closers i.words in
      let shorter = skip_length i.words in
      let fine' : Fine false (skip_line_ends i) = record { closed = skip_closed i.words fine.closed; in_list = fine.in_list; inside = λ e. absurd (cc); ends = fine.ends } in
      let more = stays.from line ys (skip_line_ends i) fine' (omega (arith, kept, braces)) tt (omega (arith, shorter, within)) in
      let all = weaker line ys false 1 _ (closers i.words) _ (length i.words) (f tt (skip_line_ends i)) (g tt (longer line ys (skip_line_ends i))) more kept shorter in
      rw (skip_longer i.words (record { line = line; token = t.LineEnd } ∷ ys) braces) all;
}

-- the next word ends a line
record Ended (line : ℕ) (ys : List Word) (all count : ℕ) (i other : Input) (j k : Input) : Type 0 where
  same : k ≡ longer line ys j
  fine : Fine false j
  braces : closers j.words ≡ all
  fewer : length j.words < count

ended_by : (line : ℕ) (ys ws : List Word) (inside : Bool) (i : Input) → i.in_list ≡ inside → inside ≡ false → mode i ≡ (false, None) → Closed ws → 1 ≤ closers ws → ends_line ws ≡ true
    → Ended line ys (closers ws) (length ws) i (longer line ys i) (if inside then skip_line_ends (stepped ws i) else stepped ws i) (if inside then skip_line_ends (stepped (ws ++ record { line = line; token = t.LineEnd } ∷ ys) (longer line ys i)) else stepped (ws ++ record { line = line; token = t.LineEnd } ∷ ys) (longer line ys i))
ended_by line ys ws true i listed outside ends closed some is = absurd (cc)
ended_by line ys [] false i listed outside ends closed some is = absurd (omega arith)
ended_by line ys (w ∷ ws) false i listed outside ends closed some is = record {
  same = refl;
  fine = record { closed = closed.1; in_list = listed; inside = λ e. absurd (cc); ends = ends };
  braces = sym (line_end_counts w.token (closers ws) is);
  fewer = omega arith;
}

line_end_follows : {A : Type 0} {count bound : ℕ} (f g : Unit {0} → Parser A) (line : ℕ) (ys : List Word) (i : Input) (found : Bool) → at_line_end i ≡ found → count ≤ suc bound
    → Stays false false 1 false (λ a. false) bound (f tt) (g tt) → Fine false i → 1 ≤ closers i.words → length i.words < count
    → Follows line ys false 1 (λ a. false) (closers i.words) (length i.words) (and_then (if found then taken i else refuse i) f) (and_then (if found then taken (longer line ys i) else refuse (longer line ys i)) g)
unfolding at_line_end next
line_end_follows f g line ys i true is below stays fine some within =
    let m = ended_by line ys i.words i.in_list i refl fine.in_list fine.ends fine.closed some is in
    let braces = m.braces in
    let fewer = m.fewer in
    let more = stays.from line ys _ m.fine (omega (arith, braces, some)) tt (omega (arith, fewer, within, below)) in
    let all = weaker line ys false 1 _ (closers i.words) _ (length i.words) _ _ more braces (omega (arith, fewer)) in
    rw m.same all
line_end_follows f g line ys i false is below stays fine some within = ap Err (refusal_sight.alike line ys i)

stays_line_end : {A : Type 0} {sees : Bool} {count : ℕ} (bound : ℕ) (f g : Unit {0} → Parser A) → count ≤ suc bound → Stays false false 1 false (λ a. false) bound (f tt) (g tt)
    → Stays false false 1 sees (λ a. false) count (policies.end_of_line >>= f) (policies.end_of_line >>= g)
unfolding policies.end_of_line
stays_line_end bound f g below stays = record {
  from = λ line ys i fine braces sees within.
      rw (end_sight.alike line ys i) (line_end_follows f g line ys i (at_line_end i) refl below stays fine braces within);
}

follows_same : {A : Type 0} (line : ℕ) (ys : List Word) (to : Bool) (closing : ℕ) (eaten : A → Bool) (all count : ℕ) (x y x' y' : Outcome A) → Follows line ys to closing eaten all count x y → x ≡ x' → y ≡ y' → Follows line ys to closing eaten all count x' y'
follows_same line ys to closing eaten all count x y x' y' follows e f = rw (← e, ← f) follows

-- what reads the same as another
stays_same : {A : Type 0} {before to sees : Bool} {closing count : ℕ} {eaten : A → Bool} {p q p' q' : Parser A} → ((i : Input) → p i ≡ p' i) → ((i : Input) → q i ≡ q' i) → Stays before to closing sees eaten count p q → Stays before to closing sees eaten count p' q'
stays_same {to = to} {closing = closing} {eaten = eaten} e f stays = record { from = λ line ys i fine braces sees within. follows_same line ys to closing eaten _ _ _ _ _ _ (stays.from line ys i fine braces sees within) (e i) (f (longer line ys i)) }

-- if a test finds that the next word is there
seen_follows : {A : Type 0} {sees : Bool} {count : ℕ} {p q p' q' : Parser A} (test : Input → Bool) (line : ℕ) (ys : List Word) (i : Input) (found : Bool) → IsTest test → test i ≡ found
    → Stays false false 0 true (λ a. false) count p p' → Stays false false 0 sees (λ a. false) count q q' → Fine false i → Sees sees i → length i.words < count
    → Follows line ys false 0 (λ a. false) (closers i.words) (length i.words) (if found then p i else q i) (if found then p' (longer line ys i) else q' (longer line ys i))
seen_follows test line ys i true tells is one other fine sees within = one.from line ys i fine (omega arith) (tells.starts i is) within
seen_follows test line ys i false tells is one other fine sees within = other.from line ys i fine (omega arith) sees within

stays_seen : {A : Type 0} {sees : Bool} {count : ℕ} {p q p' q' : Parser A} (test : Input → Bool) → Sight test → IsTest test
    → Stays false false 0 true (λ a. false) count p p' → Stays false false 0 sees (λ a. false) count q q'
    → Stays false false 0 sees (λ a. false) count (λ i. if test i then p i else q i) (λ i. if test i then p' i else q' i)
stays_seen test sight tells one other = record { from = λ line ys i fine braces sees within. rw (sight.alike line ys i) (seen_follows test line ys i (test i) tells refl one other fine sees within) }

-- ---- anchors

anchor_rule_stays : {sees : Bool} {count : ℕ} (line : ℕ) → Stays false false 0 sees (λ (rule : AnchorRule). false) count (anchors.anchor_rule line) (anchors.anchor_rule line)
unfolding anchors.anchor_rule
anchor_rule_stays line = stays_then (stays_any is_there stays_name_ahead) (λ name. stays_then stays_direction (λ way. stays_then (stays_eat_word _) (λ is_quick. stays_then stays_criteria (λ asked. stays_pure _))))

abbrev Item : Parser FilterStatement → Type 0
Item item = (sees : Bool) (count : ℕ) → Stays false false 0 sees (λ (x : FilterStatement). false) count item item

abbrev behind_blank : Parser FilterStatement → (List FilterStatement → Parser (List FilterStatement)) → List FilterStatement → Unit {0} → Parser (List FilterStatement)
behind_blank item more found blank = eat_sign s.CloseBrace >>= (λ is_end. if is_end then pure found else (anchors.one_line item found >>= (λ read. more read.1)))

abbrev line_then : Parser FilterStatement → (List FilterStatement → Parser (List FilterStatement)) → List FilterStatement → Parser (List FilterStatement)
line_then item more found = item >>= (λ x. policies.end_of_line >>= (λ ended. more (found ++ x ∷ [])))

ended_same : (more : List FilterStatement → Parser (List FilterStatement)) (found : List FilterStatement) (x : Outcome (Unit {0}))
    → and_then x (λ ended. more found) ≡ and_then (and_then x (λ ended i. Ok ((tt, found), i))) (λ (read : Unit {0} × List FilterStatement). more read.1)
ended_same more found (Ok r) = refl
ended_same more found (Err e) = refl

line_same : (more : List FilterStatement → Parser (List FilterStatement)) (found : List FilterStatement) (x : Outcome FilterStatement)
    → and_then x (λ y. policies.end_of_line >>= (λ ended. more (found ++ y ∷ []))) ≡ and_then (and_then x (λ y. policies.end_of_line >>= (λ ended. pure (tt, found ++ y ∷ [])))) (λ (read : Unit {0} × List FilterStatement). more read.1)
line_same more found (Ok r) = ended_same more (found ++ r.0 ∷ []) (policies.end_of_line r.1)
line_same more found (Err e) = refl

body_line_stays : (item : Parser FilterStatement) → Item item → (count : ℕ) (more other : List FilterStatement → Parser (List FilterStatement)) → ((found : List FilterStatement) → Stays false false 1 false (λ (a : List FilterStatement). false) count (more found) (other found))
    → (found : List FilterStatement) → Stays false false 1 false (λ (a : List FilterStatement). false) (suc count) (anchors.body_line item more found) (anchors.body_line item other found)
body_line_stays item stays count more other rest found =
    stays_blank (behind_blank item more found) (behind_blank item other found) (stays_close_body found (stays_same {p = line_then item more found} {q = line_then item other found} (λ i. line_same more found (item i)) (λ i. line_same other found (item i))
    (stays_then (stays false (suc count)) (λ x. stays_line_end count (λ ended. more (found ++ x ∷ [])) (λ ended. other (found ++ x ∷ [])) (omega arith) (rest (found ++ x ∷ []))))))

body_lines_stay : {sees : Bool} {count : ℕ} (item : Parser FilterStatement) → Item item → Stays false false 1 sees (λ (a : List FilterStatement). false) count (anchors.body_lines item) (anchors.body_lines item)
body_lines_stay item stays = stays_loop (anchors.body_line item) _ (body_line_stays item stays)

body_stays : {sees : Bool} {count : ℕ} (item : Parser FilterStatement) → Item item → Stays false false 0 sees (λ (a : List FilterStatement). false) count (anchors.body item) (anchors.body item)
unfolding anchors.body
body_stays {count = count} item stays = stays_open_body (λ is_open. if not is_open then pure [] else (policies.end_of_line >>= (λ ended. anchors.body_lines item))) _ (stays_line_end count (λ ended. anchors.body_lines item) _ (omega arith) (body_lines_stay item stays)) (stays_pure [])

anchor_of_stays : {count : ℕ} (item : Parser FilterStatement) → Item item → (line : ℕ) → Stays false false 0 true (λ (x : FilterStatement). false) count (anchors.anchor_of item line) (anchors.anchor_of item line)
unfolding anchors.anchor_of
anchor_of_stays item stays line = stays_then stays_taken (λ done. stays_then (anchor_rule_stays line) (λ rule. stays_then (body_stays item stays) (λ inner. stays_pure (f.Anchor rule inner))))

rule_or_stays : {count : ℕ} (anchor : ℕ → Parser FilterStatement) → ((line : ℕ) → Stays false false 0 true (λ (x : FilterStatement). false) count (anchor line) (anchor line)) → (line : ℕ) (found : Option A.Action)
    → Stays false false 0 false (λ (x : FilterStatement). false) count (anchors.rule_or anchor line found) (anchors.rule_or anchor line found)
rule_or_stays anchor stays line (Some found) = stays_then (stays_filter_rule line found) (λ read. stays_pure _)
rule_or_stays anchor stays line None = stays_seen (sees_word (codes "anchor")) (word_sight _) (word_test _) (stays line) stays_refuse

rule_or_anchor_stays : {sees : Bool} {count : ℕ} (anchor : ℕ → Parser FilterStatement) → ((line : ℕ) → Stays false false 0 true (λ (x : FilterStatement). false) count (anchor line) (anchor line))
    → Stays false false 0 sees (λ (x : FilterStatement). false) count (anchors.rule_or_anchor anchor) (anchors.rule_or_anchor anchor)
unfolding anchors.rule_or_anchor
rule_or_anchor_stays anchor stays = stays_at line_ahead (λ line. filters.action >>= anchors.rule_or anchor line) line_sight (λ line. stays_then stays_action (rule_or_stays anchor stays line))

statement_stays : (depth : ℕ) → Item (anchors.statement depth)
unfolding anchors.statement
statement_stays zero sees count = rule_or_anchor_stays _ (λ line. stays_faulty _)
statement_stays (suc depth) sees count = rule_or_anchor_stays _ (anchor_of_stays (anchors.statement depth) (statement_stays depth))

-- ---- macros

piece_stays : {inside sees : Bool} {count : ℕ} {eaten : P.Piece → Bool} → Stays inside inside 0 sees eaten count macros.piece macros.piece
unfolding macros.piece
piece_stays =
    stays_by macro_ahead (λ found i. macros.piece_by found (quoted_ahead i) (plain_ahead i) i) macro_sight macro_shows
    (stays_by quoted_ahead (λ quoted i. macros.piece_by None quoted (plain_ahead i) i) quoted_sight quoted_shows
    (stays_by plain_ahead (macros.piece_by None None) plain_sight plain_shows stays_refuse (λ word. stays_first (stays_named word) (λ name. stays_pure _)))
    (λ text. stays_first (stays_named text) (λ name. stays_pure _)))
    (λ found. stays_first stays_taken (λ done. stays_pure (p.Macro found)))

pieces_stay : {sees : Bool} {count : ℕ} → Stays false false 0 sees (λ (a : List P.Piece). false) count macros.pieces macros.pieces
pieces_stay = stays_loop macros.piece_more _ (λ count more other rest found.
    stays_turn (stays_first piece_stays (λ x. stays_pure _)) (λ read. stays_test at_line_end end_sight (stays_pure read.1) (rest read.1)))

abbrev defined : Name → Parser Name
defined name = do
  is_defined ← eat_sign s.Equal
  if is_defined then pure name else (λ j. Err (unknown_word name.line))

defined_stays : {count : ℕ} (name : Name) → Stays false false 0 false (λ (a : Name). false) count (defined name) (defined name)
defined_stays name = stays_then (stays_eat_sign s.Equal tt) (λ is_defined. stays_if is_defined (stays_pure name) (stays_fault (λ j. unknown_word name.line) (record { alike = λ line ys i. refl })))

macro_name_stays : {sees : Bool} {count : ℕ} → Stays false false 0 sees (λ (a : Name). false) count macros.macro_name macros.macro_name
unfolding macros.macro_name
macro_name_stays = stays_by plain_ahead (λ found. macros.name_by found >>= defined) plain_sight plain_shows (stays_then stays_refuse defined_stays) (λ word. stays_then (stays_if (is_name word) (stays_named word) stays_refuse) defined_stays)

macro_definition_stays : {sees : Bool} {count : ℕ} → Stays false false 0 sees (λ (a : MacroDefinition). false) count macros.macro_definition macros.macro_definition
unfolding macros.macro_definition
macro_definition_stays = stays_then macro_name_stays (λ name. stays_then pieces_stay (λ value. stays_pure _))

-- ---- tables

flag_stays : {sees : Bool} {count : ℕ} → Stays false false 0 sees (λ (found : Bool). found) count tables.flag tables.flag
unfolding tables.flag
flag_stays = stays_found _ (stays_pure true) (stays_found _ (stays_pure true) (stays_eat_word_so _))

either_turn : {A : Type 0} {count : ℕ} {p p' q q' : Parser A} (read : Bool)
    → Stays false false 0 false (λ a. false) count p p' → Stays false false 0 false (λ a. false) (suc count) q q'
    → Stays false false 0 false (λ a. if read then false else false) (if read then count else suc count) (if read then p else q) (if read then p' else q')
either_turn true more done = more
either_turn false more done = done

flags_stay : {sees : Bool} {count : ℕ} → Stays false false 0 sees (λ (a : Unit {0}). false) count tables.flags tables.flags
flags_stay = stays_loop tables.flag_more tt (λ count more other rest done. stays_by_test (λ found. found) flag_stays (λ is_flag. either_turn is_flag (rest tt) (stays_pure tt)))

entries_stay : {sees : Bool} {count : ℕ} → Stays false false 0 sees (λ (a : List TableEntry). false) count tables.entries tables.entries
unfolding tables.entries
entries_stay = stays_open_list (λ is_open. if not is_open then pure [] else (do
  is_empty ← close_list
  if is_empty then pure [] else members table_entry)) _ (stays_close_list [] (stays_members (λ count. stays_table_entry))) (stays_pure [])

table_definition_stays : {sees : Bool} {count : ℕ} (line : ℕ) → Stays false false 0 sees (λ (a : TableDefinition). false) count (tables.table_definition line) (tables.table_definition line)
unfolding tables.table_definition
table_definition_stays line = stays_then (stays_expect_sign s.Less tt) (λ less. stays_then stays_table_name (λ name. stays_then flags_stay (λ done. stays_then entries_stay (λ found. stays_pure _))))

-- ---- statements

rule_to_translate_stays : {sees : Bool} {count : ℕ} (found : List Statement) → Stays false false 0 sees (λ (a : statements.Lines). false) count (statements.rule_to_translate found) (statements.rule_to_translate found)
unfolding statements.rule_to_translate
rule_to_translate_stays found = stays_then stays_translation_statement (λ rule. stays_pure _)

translation_line_stays : {sees : Bool} {count : ℕ} (so_far : statements.Lines) → Stays false false 0 sees (λ (a : statements.Lines). false) count (statements.translation_line so_far) (statements.translation_line so_far)
unfolding statements.translation_line
translation_line_stays so_far = stays_test (λ i. statements.may_translate so_far.0) (record { alike = λ line ys i. refl }) (rule_to_translate_stays so_far.1) (stays_faulty OutOfOrder)

macro_statement_stays : {sees : Bool} {count : ℕ} (so_far : statements.Lines) → Stays false false 0 sees (λ (a : statements.Lines). false) count (statements.macro_statement so_far) (statements.macro_statement so_far)
unfolding statements.macro_statement
macro_statement_stays so_far = stays_then macro_definition_stays (λ definition. stays_pure _)

table_statement_stays : {sees : Bool} {count : ℕ} (line : ℕ) (so_far : statements.Lines) → Stays false false 0 sees (λ (a : statements.Lines). false) count (statements.table_statement line so_far) (statements.table_statement line so_far)
unfolding statements.table_statement
table_statement_stays line so_far = stays_then (table_definition_stays line) (λ table. stays_pure _)

definition_stays : {sees : Bool} {count : ℕ} (so_far : statements.Lines) (line : ℕ) → Stays false false 0 sees (λ (a : statements.Lines). false) count (statements.definition so_far line) (statements.definition so_far line)
definition_stays so_far line = stays_then (stays_eat_word _) (λ is_table. stays_if is_table (table_statement_stays line so_far)
    (stays_test (λ i. statements.begins_translation (plain_ahead i)) (named_sight statements.begins_translation) (translation_line_stays so_far) (macro_statement_stays so_far)))

filter_statement_stays : {sees : Bool} {count : ℕ} (found : List Statement) → Stays false false 0 sees (λ (a : statements.Lines). false) count (statements.filter_statement found) (statements.filter_statement found)
unfolding statements.filter_statement
filter_statement_stays {sees = sees} {count = count} found = stays_then (statement_stays 16 sees count) (λ rule. stays_pure _)

rule_or_definition_stays : {sees : Bool} {count : ℕ} (so_far : statements.Lines) → Stays false false 0 sees (λ (a : statements.Lines). false) count (statements.rule_or_definition so_far) (statements.rule_or_definition so_far)
unfolding statements.rule_or_definition
rule_or_definition_stays so_far = stays_test (λ i. statements.begins_filter (plain_ahead i)) (named_sight statements.begins_filter) (filter_statement_stays so_far.1) (stays_at line_ahead (statements.definition so_far) line_sight (definition_stays so_far))

set_statement_stays : {count : ℕ} (so_far : statements.Lines) → Stays false false 0 true (λ (a : statements.Lines). false) count (statements.set_statement so_far) (statements.set_statement so_far)
unfolding statements.set_statement
set_statement_stays so_far = stays_then stays_taken (λ done. stays_then stays_set_option (λ option. stays_pure (so_far.0, so_far.1 ++ st.Option option ∷ [])))

set_follows : {count : ℕ} (sees : Bool) (so_far : statements.Lines) (line : ℕ) (ys : List Word) (i : Input) (found : Bool) → sees_word (codes "set") i ≡ found → Fine false i → Sees sees i → length i.words < count
    → Follows line ys false 0 (λ (a : statements.Lines). false) (closers i.words) (length i.words)
    (if not found then statements.rule_or_definition so_far i else if statements.may_set so_far.0 then statements.set_statement so_far i else faulty OutOfOrder i)
    (if not found then statements.rule_or_definition so_far (longer line ys i) else if statements.may_set so_far.0 then statements.set_statement so_far (longer line ys i) else faulty OutOfOrder (longer line ys i))
set_follows before so_far line ys i false is fine sees within = (rule_or_definition_stays so_far).from line ys i fine (omega arith) sees within
set_follows before so_far line ys i true is fine sees within = either_follows (statements.may_set so_far.0) line ys i (set_statement_stays so_far) (stays_faulty OutOfOrder) fine (omega arith) ((word_test (codes "set")).starts i is) within

pub any_statement_stays : {sees : Bool} {count : ℕ} (so_far : statements.Lines) → Stays false false 0 sees (λ (a : statements.Lines). false) count (statements.any_statement so_far) (statements.any_statement so_far)
unfolding statements.any_statement
any_statement_stays {sees = before} so_far = record { from = λ line ys i fine braces sees within. rw ((word_sight (codes "set")).alike line ys i) (set_follows before so_far line ys i (sees_word (codes "set") i) refl fine sees within) }
