-- Two texts, one behind the other: their statements are those of both.
use Rattle.std.proofs.Common.{◌≡◌, ◌≢◌, ◌≤◌, ◌+◌, ◌-◌, ℕ, zero, suc, if◌then◌else◌, Bool, true, false, List, [], ◌∷◌, ◌++◌, append_assoc, append-nil, length, slice_index, All, eqb, ◌&&◌, None, Option, Ok, Err, refl, sym, ◌∙◌, ap, arith}
use Rattle.pfr_words.specs.declared.sign.Sign.TheVariants as s
use Rattle.pfr_words.specs.declared.word.Token.TheVariants as t
use Rattle.pfr_words.specs.declared.word.Word.{Word}
use Rattle.pfr_words.specs.Words.{is_sign, closed_by, closers, with_braces, newlines, pieces, words, words_on, moved}
use Rattle.pfr_words.specs.declared.word.WordFault.TheVariants.{Unterminated}
use Rattle.pfr_words.proofs.JoinedWords.{words_joined}
use Rattle.pfr_terms.specs.declared.error.ConfError.{ConfError}
use Rattle.pfr_terms.specs.Input.{Input, Outcome, Parser, and_then, start, turns, loop_from, is_line_end, is_done, words_behind_line_ends, skip_line_ends}
use Rattle.pfr_terms.proofs.Closers.{Fine}
use Rattle.pfr_conf.specs.declared.statement.Section.TheVariants as section
use Rattle.pfr_conf.specs.declared.statement.Statement.{Statement}
use Rattle.pfr_conf.specs.declared.statement.Statements as S
use Rattle.pfr_conf.specs.Policies.{end_of_line}
use Rattle.pfr_conf.specs.Statements.{Lines, any_statement, text_line, whole, statements_in, statements_of}
use Rattle.pfr_conf.specs.Following.{MayFollow}
use Rattle.pfr_conf.proofs.FirstWords.{front, any_statement_alike}
use Rattle.pfr_conf.proofs.StatementShifts.{after, Fits, Shifts, InOrder, statement_shifts, keeps_order, fits_behind, fits_on}
use Rattle.pfr_conf.proofs.TextGoesOn.{Grows, grows_end, lines_grow}
use Rattle.pfr_conf.proofs.TextStays.{Goes, IsPlain, behind_statement, rest_of_text, go_on, not_done, text_fine}

-- ---- reading goes on behind other statements as it did behind those before

-- the lines that are left are read to the end, with these statements behind those before
abbrev Rest : (Lines → Parser (List Statement)) → (Lines → Parser (List Statement)) → Type 0
Rest more other_more = (before other : Lines) (found : List Statement) (i k : Input) → Fits before.0 other.0 found → more before i ≡ Ok (before.1 ++ found, k) → other_more other i ≡ Ok (other.1 ++ found, k)

none_added : (xs found : List Statement) → xs ≡ xs ++ found → found ≡ []
none_added [] found e = sym e
none_added (x ∷ xs) found e = none_added xs found (cc)

same_added : (xs found more : List Statement) → xs ++ found ≡ xs ++ more → found ≡ more
same_added [] found more e = e
same_added (x ∷ xs) found more e = same_added xs found more (cc)

parts : (xs ys : List Statement) (i k : Input) → ◌≡◌ {A = Outcome (List Statement)} (Ok (xs, i)) (Ok (ys, k)) → (xs ≡ ys) × (i ≡ k)
parts xs ys i k e =
    let both : ◌≡◌ {A = List Statement × Input} (xs, i) (ys, k) = cc in
    (ap (λ (p : List Statement × Input). p.0) both, ap (λ (p : List Statement × Input). p.1) both)

grown : (xs all : List Statement) (k : Input) (x : Outcome (List Statement)) → Grows xs x → x ≡ Ok (all, k) → (more : List Statement) × (all ≡ xs ++ more)
grown xs all k x grows e = rw e at grows

end_rest : (x : Outcome (Unit {0})) (f g : Parser (List Statement)) (r q : List Statement × Input) → ((i : Input) → f i ≡ Ok r → g i ≡ Ok q) → and_then x (λ done. f) ≡ Ok r → and_then x (λ done. g) ≡ Ok q
end_rest (Ok done) f g r q same known = same done.1 known
end_rest (Err e) f g r q same known = absurd (cc)

-- behind a statement that is one more
one_rest : (more other_more : Lines → Parser (List Statement)) → Rest more other_more → (before other : Lines) (x : Statement) (found : List Statement) (i k : Input)
    → Fits before.0 other.0 (x ∷ found) → behind_statement more (after before.0 x, before.1 ++ x ∷ []) i ≡ Ok (before.1 ++ x ∷ found, k)
    → behind_statement other_more (after other.0 x, other.1 ++ x ∷ []) i ≡ Ok (other.1 ++ x ∷ found, k)
one_rest more other_more rest before other x found i k fits known =
    end_rest (end_of_line i) (more (after before.0 x, before.1 ++ x ∷ [])) (other_more (after other.0 x, other.1 ++ x ∷ [])) (before.1 ++ x ∷ found, k) (other.1 ++ x ∷ found, k)
    (λ j same. rw (← append_assoc other.1 (x ∷ []) found) (rest (after before.0 x, before.1 ++ x ∷ []) (after other.0 x, other.1 ++ x ∷ []) found j k (fits_on before.0 other.0 x found fits) (rw (append_assoc before.1 (x ∷ []) found) same))) known

statement_rest : (more other_more : Lines → Parser (List Statement)) → Rest more other_more → ((found : Lines) (i : Input) → Grows found.1 (more found i))
    → (before other : Lines) (found : List Statement) (k : Input) (x y : Outcome Lines) → Shifts before other x y → Fits before.0 other.0 found
    → and_then x (behind_statement more) ≡ Ok (before.1 ++ found, k) → and_then y (behind_statement other_more) ≡ Ok (other.1 ++ found, k)
statement_rest more other_more rest grow before other found k (Err e) y shifts fits known = absurd (cc)
statement_rest more other_more rest grow before other found k (Ok r) y (x, is, same) fits known =
    let known' : behind_statement more (after before.0 x, before.1 ++ x ∷ []) r.1 ≡ Ok (before.1 ++ found, k) = rw is at known in
    let grows = grown (before.1 ++ x ∷ []) (before.1 ++ found) k _ (grows_end (before.1 ++ x ∷ []) (end_of_line r.1) (more (after before.0 x, before.1 ++ x ∷ [])) (grow (after before.0 x, before.1 ++ x ∷ []))) known' in
    let is_more : found ≡ x ∷ grows.0 = same_added before.1 found (x ∷ grows.0) (grows.1 ∙ append_assoc before.1 (x ∷ []) grows.0) in
    let fits' : Fits before.0 other.0 (x ∷ grows.0) = rw is_more at fits in
    let known'' : behind_statement more (after before.0 x, before.1 ++ x ∷ []) r.1 ≡ Ok (before.1 ++ x ∷ grows.0, k) = rw is_more at known' in
    rw (same grows.0 fits', is_more) (one_rest more other_more rest before other x grows.0 r.1 k fits' known'')

text_rest : (more other_more : Lines → Parser (List Statement)) → Rest more other_more → ((found : Lines) (i : Input) → Grows found.1 (more found i))
    → (before other : Lines) (found : List Statement) (i k : Input) (done : Bool) → Fits before.0 other.0 found
    → (if done then Ok (before.1, i) else and_then (any_statement before i) (behind_statement more)) ≡ Ok (before.1 ++ found, k)
    → (if done then Ok (other.1, i) else and_then (any_statement other i) (behind_statement other_more)) ≡ Ok (other.1 ++ found, k)
text_rest more other_more rest grow before other found i k true fits known =
    let both = parts before.1 (before.1 ++ found) i k known in
    rw (none_added before.1 found both.0, both.1, append-nil other.1) refl
text_rest more other_more rest grow before other found i k false fits known = statement_rest more other_more rest grow before other found k (any_statement before i) (any_statement other i) (statement_shifts before other i) fits known

lines_rest : (m n : ℕ) → m ≤ n → Rest (loop_from text_line m) (loop_from text_line n)
unfolding loop_from
lines_rest zero n below before other found i k fits known = absurd (cc)
lines_rest (suc m) zero below before other found i k fits known = absurd (omega arith)
lines_rest (suc m) (suc n) below before other found i k fits known =
    text_rest (loop_from text_line m) (loop_from text_line n) (lines_rest m n (omega arith)) (lines_grow m) before other found (skip_line_ends i) k (is_done (skip_line_ends i)) fits known

-- ---- the second text

inner_by : (ws us vs : List Word) (w v : Word) (ends : Bool) → is_line_end w.token ≡ ends → (if ends then us else w ∷ ws) ≡ v ∷ vs → (us ≡ v ∷ vs → is_line_end v.token ≡ false) → is_line_end v.token ≡ false
inner_by ws us vs w v true e is rest = rest is
inner_by ws us vs w v false e is rest = let same : w ≡ v = cc in rw (← same) e

first_inner : (ws vs : List Word) (v : Word) → words_behind_line_ends ws ≡ v ∷ vs → is_line_end v.token ≡ false
first_inner [] vs v is = absurd (cc)
first_inner (w ∷ ws) vs v is = inner_by ws (words_behind_line_ends ws) vs w v (is_line_end w.token) refl is (first_inner ws vs v)

plain_front : (line : ℕ) (v : Word) (vs : List Word) (in_list gathers : Bool) (gathered : Option ConfError) → in_list ≡ false → gathers ≡ false → gathered ≡ None
    → record { words = v ∷ vs; line = line; in_list = in_list; gathers = gathers; gathered = gathered } ≡ front line v vs
plain_front line v vs in_list gathers gathered outside ends none = rw (outside, ends, none) refl

-- from its first line on, behind the statements of the first text
second_by : (more other_more : Lines → Parser (List Statement)) → Rest more other_more → ((found : Lines) (i : Input) → Grows found.1 (more found i))
    → (other : Lines) (found : List Statement) (vs ws : List Word) (j k : Input) → words_behind_line_ends ws ≡ vs → words_behind_line_ends j.words ≡ vs → IsPlain j → Fits section.Options other.0 found
    → rest_of_text more (section.Options, []) (skip_line_ends (start ws)) ≡ Ok (found, k) → (last : Input) × (rest_of_text other_more other (skip_line_ends j) ≡ Ok (other.1 ++ found, last))
second_by more other_more rest grow other found [] ws j k e f plain fits known =
    let both = parts [] found (start []) k (rw e at known) in
    (skip_line_ends j, rw (f, ← both.0, append-nil other.1) refl)
second_by more other_more rest grow other found (v ∷ vs) ws j k e f plain fits known =
    let same = plain_front j.line v vs j.in_list j.gathers j.gathered plain.0 (ap (λ (m : Bool × Option ConfError). m.0) plain.1) (ap (λ (m : Bool × Option ConfError). m.1) plain.1) in
    let alike = any_statement_alike other j.line 1 v vs (first_inner ws vs v e) in
    let known' : and_then (any_statement (section.Options, []) (front 1 v vs)) (behind_statement more) ≡ Ok (found, k) = rw (e, not_done v vs) at known in
    (k, rw (f, not_done v vs, same, alike) (statement_rest more other_more rest grow (section.Options, []) other found k _ _ (statement_shifts (section.Options, []) other (front 1 v vs)) fits known'))

second_rest : (m n : ℕ) → m ≤ n → (other : Lines) (found : List Statement) (ws : List Word) (j k : Input) → words_behind_line_ends j.words ≡ words_behind_line_ends ws → IsPlain j → Fits section.Options other.0 found
    → loop_from text_line m (section.Options, []) (start ws) ≡ Ok (found, k) → (last : Input) × (loop_from text_line n other j ≡ Ok (other.1 ++ found, last))
unfolding loop_from
second_rest zero n below other found ws j k f plain fits known = absurd (cc)
second_rest (suc m) zero below other found ws j k f plain fits known = absurd (omega arith)
second_rest (suc m) (suc n) below other found ws j k f plain fits known =
    second_by (loop_from text_line m) (loop_from text_line n) (lines_rest m n (omega arith)) (lines_grow m) other found (words_behind_line_ends ws) ws j k refl f plain fits known

-- ---- texts

-- behind these statements come those of the second text, if they may follow
abbrev Joins : List Statement → List Statement → Outcome (List Statement) → Type 0
Joins found xs other = MayFollow xs found → (k : Input) × (other ≡ Ok (xs ++ found, k))

whole_is : (x : Outcome (List Statement)) (b : S.Statements) → whole x ≡ Ok b → (k : Input) × (x ≡ Ok (b.statements, k))
whole_is (Ok r) b is = let same : r.0 ≡ b.statements = ap (λ z. z) (cc) in (r.1, rw (← same) refl)
whole_is (Err e) b is = absurd (cc)

joined : (a b : S.Statements) (x y : Outcome (List Statement)) → Goes (Joins b.statements) x y → MayFollow a.statements b.statements → whole x ≡ Ok a → whole y ≡ Ok (record { statements = a.statements ++ b.statements })
joined a b (Ok r) y joins may is =
    let same : r.0 ≡ a.statements = cc in
    let may' : MayFollow r.0 b.statements = rw same may in
    let found = joins may' in
    rw (found.1, same) refl
joined a b (Err e) y goes may is = absurd (cc)

-- the words behind the first text's are those of the second one, maybe with ends of lines before them
both_in_words : (line : ℕ) (ys us ws : List Word) (a b : S.Statements) → Fine false (start ws) → length us ≤ length ys → words_behind_line_ends ys ≡ words_behind_line_ends us
    → statements_in ws ≡ Ok a → statements_in us ≡ Ok b → MayFollow a.statements b.statements
    → statements_in (ws ++ record { line = line; token = t.LineEnd } ∷ ys) ≡ Ok (record { statements = a.statements ++ b.statements })
unfolding statements_in
both_in_words line ys us ws a b fine fewer behind is other may =
    let second = whole_is _ b other in
    joined a b _ _ (go_on (Joins b.statements) InOrder keeps_order (λ none. refl, λ none. refl) line ys ws
    (λ n found i order plain some same follow. second_rest (turns (start us)) n (omega (arith, some, fewer)) found b.statements us i second.0 (same ∙ behind) plain (fits_behind found b.statements order follow) second.1) fine) may is

pub statements_of_both : (first second : List ℕ) (a b : S.Statements) → slice_index first (length first - 1) ≢ 92 → words first ≡ words_on 1 (pieces first)
    → statements_of first ≡ Ok a → statements_in (moved (1 + newlines first) (words second)) ≡ Ok b → MayFollow a.statements b.statements
    → statements_of (first ++ 10 ∷ second) ≡ Ok (record { statements = a.statements ++ b.statements })
unfolding statements_of
statements_of_both first second a b last closed is other may =
    let ys = moved (1 + newlines first) (words second) in
    rw (words_joined first second last closed) (both_in_words (1 + newlines first) ys ys (words first) a b (text_fine first) (omega arith) refl is other may)

-- ---- blank lines and comments between them

if_end : (fault : Bool) (w : Word) → (if fault then record w { token = t.Bad Unterminated } else w).token ≡ t.LineEnd → (if fault then record w { token = t.Bad Unterminated } else w) ≡ w
if_end true w is = absurd (cc)
if_end false w is = refl

-- if all words end lines, there is no brace
no_brace : (ws : List Word) → All (λ (w : Word). w.token ≡ t.LineEnd) (with_braces ws) → with_braces ws ≡ ws
no_brace [] all = refl
no_brace (w ∷ ws) all =
    rw (if_end (is_sign s.OpenBrace w.token && eqb (closers ws) 0) w (all 0 (closed_by (closers ws) w) (omega arith)), no_brace ws (λ k d below. all (suc k) d (omega (arith, below)))) refl

closes_all : (text : List ℕ) → All (λ (w : Word). w.token ≡ t.LineEnd) (words text) → words text ≡ words_on 1 (pieces text)
unfolding words
closes_all text all = no_brace (words_on 1 (pieces text)) all

blank_before : (lines : ℕ) (ws us : List Word) → All (λ (w : Word). w.token ≡ t.LineEnd) ws → words_behind_line_ends (moved lines (ws ++ us)) ≡ words_behind_line_ends (moved lines us)
blank_before lines [] us all = refl
blank_before lines (w ∷ ws) us all = rw (all 0 w (omega arith)) (blank_before lines ws us (λ k d below. all (suc k) d (omega (arith, below))))

fewer_behind : (lines : ℕ) (ws us : List Word) → length (moved lines us) ≤ length (moved lines (ws ++ us))
fewer_behind lines [] us = omega arith
fewer_behind lines (w ∷ ws) us = let fewer = fewer_behind lines ws us in omega (arith, fewer)

moved_twice : (lines more : ℕ) (ws : List Word) → moved lines (moved more ws) ≡ moved (lines + more) ws
moved_twice lines more [] = refl
moved_twice lines more (w ∷ ws) = let down : lines + (more + w.line) ≡ lines + more + w.line = omega arith in rw (down, moved_twice lines more ws) refl

pub blank_between : (first between second : List ℕ) (a b : S.Statements) → slice_index first (length first - 1) ≢ 92 → words first ≡ words_on 1 (pieces first)
    → slice_index between (length between - 1) ≢ 92 → All (λ (w : Word). w.token ≡ t.LineEnd) (words between)
    → statements_of first ≡ Ok a → statements_in (moved (2 + newlines first + newlines between) (words second)) ≡ Ok b → MayFollow a.statements b.statements
    → statements_of (first ++ 10 ∷ (between ++ 10 ∷ second)) ≡ Ok (record { statements = a.statements ++ b.statements })
unfolding statements_of
blank_between first between second a b last closed last_between all is other may =
    let line = 1 + newlines first in
    let more = 1 + newlines between in
    let end : Word = record { line = more; token = t.LineEnd } in
    let us = moved line (moved more (words second)) in
    let ys = moved line (words between ++ end ∷ moved more (words second)) in
    let down : 2 + newlines first + newlines between ≡ line + more = omega arith in
    let same : moved (2 + newlines first + newlines between) (words second) ≡ us = rw (down, moved_twice line more (words second)) refl in
    let other' : statements_in us ≡ Ok b = rw same at other in
    let shorter = fewer_behind line (words between) (end ∷ moved more (words second)) in
    let behind : words_behind_line_ends ys ≡ words_behind_line_ends us = blank_before line (words between) (end ∷ moved more (words second)) all in
    rw (words_joined first (between ++ 10 ∷ second) last closed, words_joined between second last_between (closes_all between all))
    (both_in_words line ys us (words first) a b (text_fine first) (omega (arith, shorter)) behind is other' may)
