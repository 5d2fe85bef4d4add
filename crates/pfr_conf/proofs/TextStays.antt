-- What a text says, if another stands behind it.
use Rattle.std.proofs.Common.{◌≡◌, ◌≢◌, ◌≤◌, ◌<◌, ◌+◌, ◌-◌, ◌&&◌, eqb, ℕ, zero, suc, if◌then◌else◌, Bool, true, false, List, [], ◌∷◌, ◌++◌, length, slice_index, length-append, None, Ok, Err, All, refl, ap, arith, eqb-true, ne_eqb}
use Rattle.pfr_words.specs.declared.sign.Sign.TheVariants as s
use Rattle.pfr_words.specs.declared.word.Token.{Token}
use Rattle.pfr_words.specs.declared.word.Token.TheVariants as t
use Rattle.pfr_words.specs.declared.word.Word.{Word}
use Rattle.pfr_words.specs.Words.{is_sign, closers, closers_before, with_braces, newlines, pieces, words, words_on, moved}
use Rattle.pfr_words.specs.declared.word.WordFault.TheVariants.{Unterminated}
use Rattle.pfr_words.proofs.JoinedWords.{words_joined}
use Rattle.pfr_terms.specs.declared.error.ConfError.{ConfError}
use Rattle.pfr_terms.specs.Input.{Input, Outcome, Parser, and_then, ◌>>=◌, pure, refuse, start, turns, loop_from, is_line_end, ends_line, at_line_end, is_done, words_behind_line_ends, skip_line_ends, stepped, next}
use Rattle.pfr_terms.proofs.Closers.{longer, mode, Closed, Fine, Follows, skip_closed, skip_length}
use Rattle.pfr_terms.proofs.Sights.{refusal_sight}
use Rattle.pfr_conf.specs.declared.statement.Section.TheVariants as section
use Rattle.pfr_conf.specs.declared.statement.Statement.{Statement}
use Rattle.pfr_conf.specs.Policies.{end_of_line}
use Rattle.pfr_conf.specs.Statements.{Lines, any_statement, text_line, whole, statements_in, statements_of}
use Rattle.pfr_conf.proofs.StatementStays.{any_statement_stays}

-- ---- a text that says nothing

blank_first : (token : Token) (ws vs : List Word) (w : Word) → token ≡ t.LineEnd → vs ≡ [] → (if is_line_end token then vs else w ∷ ws) ≡ []
blank_first token ws vs w e none = rw (e, none) refl

pub blank : (ws : List Word) → All (λ (w : Word). w.token ≡ t.LineEnd) ws → words_behind_line_ends ws ≡ []
blank [] all = refl
blank (w ∷ ws) all = blank_first w.token ws (words_behind_line_ends ws) w (all 0 w (omega arith)) (blank ws (λ k d below. all (suc k) d (omega (arith, below))))

-- with a turn left, a text without words ends the statements
pub none_more : (n : ℕ) (so_far : Lines) (i : Input) → 0 < n → words_behind_line_ends i.words ≡ [] → loop_from text_line n so_far i ≡ Ok (so_far.1, skip_line_ends i)
unfolding loop_from
none_more zero so_far i some none = absurd (omega arith)
none_more (suc n) so_far i some none = rw none refl

pub says_nothing : (text : List ℕ) → All (λ (w : Word). w.token ≡ t.LineEnd) (words text) → statements_of text ≡ Ok (record { statements = [] })
unfolding statements_of statements_in
says_nothing text all = ap whole (none_more (turns (start (words text))) (section.Options, []) (start (words text)) (omega arith) (blank (words text) all))

-- ---- a text with another behind it

-- of a list that is read without the lines behind it it is said what is read with them; a fault is the same
abbrev pub Goes : (List Statement → Outcome (List Statement) → Type 0) → Outcome (List Statement) → Outcome (List Statement) → Type 0
Goes R (Ok r) other = R r.0 other
Goes R (Err e) other = other ≡ Err e

-- outside of lists, where the first fault ends the reading
abbrev pub IsPlain : Input → Type 0
IsPlain i = (i.in_list ≡ false) × (mode i ≡ (false, None))

-- of what is read this holds
abbrev pub Given : (Lines → Type 0) → Outcome Lines → Type 0
Given P (Ok r) = P r.0
Given P (Err e) = Unit {0}

-- with a statement more it holds of the statements of which it held before
abbrev pub Keeps : (Lines → Type 0) → Type 0
Keeps P = (so_far : Lines) (i : Input) → P so_far → Given P (any_statement so_far i)

abbrev past : Bool → List Word → Input → Input
past inside ws i = if inside then skip_line_ends (stepped ws i) else stepped ws i

abbrev ended_if : Bool → Input → Input → Outcome (Unit {0})
ended_if ends k j = if ends then Ok (tt, k) else refuse j

abbrev ended : Bool → List Word → Input → Outcome (Unit {0})
ended inside ws i = if ends_line ws then Ok (tt, past inside ws i) else refuse i

either_goes : (R : List Statement → Outcome (List Statement) → Type 0) (line : ℕ) (ys vs : List Word) (w : Word) (j : Input) (f g : Parser (List Statement)) (ends : Bool)
    → Goes R (f (record j { words = vs; line = w.line })) (g (longer line ys (record j { words = vs; line = w.line })))
    → Goes R (and_then (ended_if ends (past false (w ∷ vs) j) j) (λ done. f)) (and_then (ended_if ends (past false (w ∷ vs ++ record { line = line; token = t.LineEnd } ∷ ys) (longer line ys j)) (longer line ys j)) (λ done. g))
either_goes R line ys vs w j f g true goes = goes
either_goes R line ys vs w j f g false goes = ap Err (refusal_sight.alike line ys j)

end_goes : (R : List Statement → Outcome (List Statement) → Type 0) (line : ℕ) (ys : List Word) (count : ℕ) (ws : List Word) (inside : Bool) (j : Input) (f g : Parser (List Statement)) (a : List Statement) (k : Input)
    → j.words ≡ ws → inside ≡ false → Fine false j → length ws ≤ count
    → (j.words ≡ [] → f j ≡ Ok (a, k))
    → ((i : Input) → IsPlain i → words_behind_line_ends i.words ≡ words_behind_line_ends ys → R a (g i))
    → ((i : Input) → Fine false i → length i.words < count → Goes R (f i) (g (longer line ys i)))
    → Closed ws
    → Goes R (and_then (ended inside ws j) (λ done. f)) (and_then (ended inside (ws ++ record { line = line; token = t.LineEnd } ∷ ys) (longer line ys j)) (λ done. g))
end_goes R line ys count ws true j f g a k is outside fine within ends last rest closed = absurd (cc)
end_goes R line ys count [] false j f g a k is outside fine within ends last rest closed = rw (ends is) (last (stepped (record { line = line; token = t.LineEnd } ∷ ys) (longer line ys j)) (fine.in_list, fine.ends) refl)
end_goes R line ys count (w ∷ vs) false j f g a k is outside fine within ends last rest closed =
    either_goes R line ys vs w j f g (is_line_end w.token) (rest (record j { words = vs; line = w.line }) (record { closed = closed.1; in_list = fine.in_list; inside = λ e. absurd (cc); ends = fine.ends }) (omega arith))

abbrev pub behind_statement : (Lines → Parser (List Statement)) → Lines → Parser (List Statement)
behind_statement more found = end_of_line >>= (λ done. more found)

behind_goes : (R : List Statement → Outcome (List Statement) → Type 0) (line : ℕ) (ys : List Word) (count : ℕ) (more other : Lines → Parser (List Statement)) (found : Lines) (j : Input)
    → Fine false j → length j.words ≤ count
    → ((i : Input) → i.words ≡ [] → more found i ≡ Ok (found.1, skip_line_ends i))
    → ((i : Input) → IsPlain i → words_behind_line_ends i.words ≡ words_behind_line_ends ys → R found.1 (other found i))
    → ((i : Input) → Fine false i → length i.words < count → Goes R (more found i) (other found (longer line ys i)))
    → Goes R (behind_statement more found j) (behind_statement other found (longer line ys j))
unfolding end_of_line at_line_end next
behind_goes R line ys count more other found j fine within ends last rest = end_goes R line ys count j.words j.in_list j (more found) (other found) found.1 (skip_line_ends j) refl fine.in_list fine within (ends j) last rest fine.closed

statement_goes : (R : List Statement → Outcome (List Statement) → Type 0) (P : Lines → Type 0) (line : ℕ) (ys : List Word) (count all n : ℕ) (more other : Lines → Parser (List Statement)) (x y : Outcome Lines) → Follows line ys false 0 (λ (a : Lines). false) all n x y → n ≤ count → Given P x
    → ((found : Lines) (i : Input) → i.words ≡ [] → more found i ≡ Ok (found.1, skip_line_ends i))
    → ((found : Lines) (i : Input) → P found → IsPlain i → words_behind_line_ends i.words ≡ words_behind_line_ends ys → R found.1 (other found i))
    → ((found : Lines) (i : Input) → P found → Fine false i → length i.words < count → Goes R (more found i) (other found (longer line ys i)))
    → Goes R (and_then x (behind_statement more)) (and_then y (behind_statement other))
statement_goes R P line ys count all n more other (Ok r) y after within holds ends last rest = rw after.same (behind_goes R line ys count more other r.0 r.1 after.fine (let fewer = after.fewer in omega (arith, fewer, within)) (ends r.0) (λ i. last r.0 i holds) (λ i. rest r.0 i holds))
statement_goes R P line ys count all n more other (Err e) y same within holds ends last rest = rw same refl

abbrev pub rest_of_text : (Lines → Parser (List Statement)) → Lines → Parser (List Statement)
rest_of_text more so_far = λ i. if is_done i then pure so_far.1 i else (any_statement so_far >>= behind_statement more) i

pub not_done : (w : Word) (ws : List Word) → eqb (length (w ∷ ws)) 0 ≡ false
not_done w ws = ne_eqb (length (w ∷ ws)) 0 (λ none. absurd (omega (arith, none)))

skip_first : (ws more vs : List Word) (w v : Word) (ends : Bool) → (if ends then words_behind_line_ends ws else w ∷ ws) ≡ v ∷ vs
    → (words_behind_line_ends ws ≡ v ∷ vs → words_behind_line_ends (ws ++ more) ≡ v ∷ vs ++ more)
    → (if ends then words_behind_line_ends (ws ++ more) else w ∷ ws ++ more) ≡ v ∷ vs ++ more
skip_first ws more vs w v true e rest = rest e
skip_first ws more vs w v false e rest = ap (λ (us : List Word). us ++ more) e

skip_some : (ws more vs : List Word) (v : Word) → words_behind_line_ends ws ≡ v ∷ vs → words_behind_line_ends (ws ++ more) ≡ v ∷ vs ++ more
skip_some [] more vs v e = absurd (cc)
skip_some (w ∷ ws) more vs v e = skip_first ws more vs w v (is_line_end w.token) e (skip_some ws more vs v)

skip_none_by : (ws more : List Word) (w : Word) (ends : Bool) → (if ends then words_behind_line_ends ws else w ∷ ws) ≡ []
    → (words_behind_line_ends ws ≡ [] → words_behind_line_ends (ws ++ more) ≡ words_behind_line_ends more)
    → (if ends then words_behind_line_ends (ws ++ more) else w ∷ ws ++ more) ≡ words_behind_line_ends more
skip_none_by ws more w true e rest = rest e
skip_none_by ws more w false e rest = absurd (cc)

skip_none : (ws more : List Word) → words_behind_line_ends ws ≡ [] → words_behind_line_ends (ws ++ more) ≡ words_behind_line_ends more
skip_none [] more e = refl
skip_none (w ∷ ws) more e = skip_none_by ws more w (is_line_end w.token) e (skip_none ws more)

line_goes : (R : List Statement → Outcome (List Statement) → Type 0) (P : Lines → Type 0) → Keeps P → (line : ℕ) (ys : List Word) (count : ℕ) (more other : Lines → Parser (List Statement)) (so_far : Lines) (i : Input) (vs : List Word) → words_behind_line_ends i.words ≡ vs → P so_far → Fine false i → length i.words < suc count
    → (0 < count → (found : Lines) (i : Input) → i.words ≡ [] → more found i ≡ Ok (found.1, skip_line_ends i))
    → (0 < count → (found : Lines) (i : Input) → P found → IsPlain i → words_behind_line_ends i.words ≡ words_behind_line_ends ys → R found.1 (other found i))
    → ((i : Input) → IsPlain i → words_behind_line_ends i.words ≡ words_behind_line_ends ys → R so_far.1 (rest_of_text other so_far (skip_line_ends i)))
    → ((found : Lines) (i : Input) → P found → Fine false i → length i.words < count → Goes R (more found i) (other found (longer line ys i)))
    → Goes R (rest_of_text more so_far (skip_line_ends i)) (rest_of_text other so_far (skip_line_ends (longer line ys i)))
line_goes R P keeps line ys count more other so_far i [] e holds fine within ends last now rest = rw e (now (longer line ys i) (fine.in_list, fine.ends) (skip_none i.words (record { line = line; token = t.LineEnd } ∷ ys) e))
line_goes R P keeps line ys count more other so_far i (v ∷ vs) e holds fine within ends last now rest =
    let shorter = skip_length i.words in
    let fewer : suc (length vs) ≤ length i.words = rw e at shorter in
    let closed : Closed (v ∷ vs) = rw e at (skip_closed i.words fine.closed) in
    let j = record i { words = v ∷ vs } in
    let fine' : Fine false j = record { closed = closed; in_list = fine.in_list; inside = λ f. absurd (cc); ends = fine.ends } in
    let follows = (any_statement_stays {sees = false} {count = suc count} so_far).from line ys j fine' (omega arith) tt (omega (arith, fewer, within)) in
    rw (e, skip_some i.words (record { line = line; token = t.LineEnd } ∷ ys) vs v e, not_done v vs, not_done v (vs ++ record { line = line; token = t.LineEnd } ∷ ys)) (statement_goes R P line ys count _ _ more other (any_statement so_far j) (any_statement so_far (longer line ys j)) follows (omega (arith, fewer, within)) (keeps so_far j holds) (ends (omega (arith, fewer, within))) (last (omega (arith, fewer, within))) rest)

-- `bound` is the number of turns that the words behind may still take
lines_go : (R : List Statement → Outcome (List Statement) → Type 0) (P : Lines → Type 0) → Keeps P → (bound line : ℕ) (ys : List Word)
    → ((n : ℕ) (found : Lines) (i : Input) → P found → IsPlain i → bound < n → words_behind_line_ends i.words ≡ words_behind_line_ends ys → R found.1 (loop_from text_line n found i))
    → (count m n : ℕ) → count ≤ m → count + bound ≤ n → (so_far : Lines) (i : Input) → P so_far → Fine false i → length i.words < count
    → Goes R (loop_from text_line m so_far i) (loop_from text_line n so_far (longer line ys i))
unfolding loop_from
lines_go R P keeps bound line ys last zero m n below within so_far i holds fine fewer = absurd (omega arith)
lines_go R P keeps bound line ys last (suc count) zero n below within so_far i holds fine fewer = absurd (omega arith)
lines_go R P keeps bound line ys last (suc count) (suc m) zero below within so_far i holds fine fewer = absurd (omega arith)
lines_go R P keeps bound line ys last (suc count) (suc m) (suc n) below within so_far i holds fine fewer =
    line_goes R P keeps line ys count (loop_from text_line m) (loop_from text_line n) so_far i _ refl holds fine fewer
    (λ some found j none. none_more m found j (omega (arith, some, below)) (rw none refl))
    (λ some found j holds_too plain same. last n found j holds_too plain (omega (arith, some, within)) same)
    (λ j plain same. last (suc n) so_far j holds plain (omega (arith, within)) same)
    (λ found j holds_too fine_too within_too. lines_go R P keeps bound line ys last count m n (omega (arith, below)) (omega (arith, within)) found j holds_too fine_too within_too)

-- ---- braces

counts_by : (w : Word) (n : ℕ) (opens none_behind : Bool) → is_sign s.OpenBrace w.token ≡ opens → eqb n 0 ≡ none_behind
    → closers_before (if opens && none_behind then record w { token = t.Bad Unterminated } else w).token n ≡ closers_before w.token n
counts_by w zero true true is none = rw is refl
counts_by w (suc n) true true is none = let zero_is = eqb-true (suc n) 0 none in absurd (omega (arith, zero_is))
counts_by w n true false is none = refl
counts_by w n false none_behind is none = refl

closers_kept : (ws : List Word) → closers (with_braces ws) ≡ closers ws
closers_kept [] = refl
closers_kept (w ∷ ws) = rw (closers_kept ws) (counts_by w (closers ws) (is_sign s.OpenBrace w.token) (eqb (closers ws) 0) refl refl)

closed_if : (w : Word) (n : ℕ) (opens none_behind : Bool) → is_sign s.OpenBrace w.token ≡ opens → eqb n 0 ≡ none_behind
    → is_sign s.OpenBrace (if opens && none_behind then record w { token = t.Bad Unterminated } else w).token ≡ true → 1 ≤ n
closed_if w zero opens false is none brace = absurd (cc)
closed_if w zero true true is none brace = absurd (cc)
closed_if w zero false true is none brace = absurd (cc)
closed_if w (suc n) opens none_behind is none brace = omega arith

closed_all : (ws : List Word) → Closed (with_braces ws)
closed_all [] = tt
closed_all (w ∷ ws) = (λ brace. let kept = closers_kept ws in let some = closed_if w (closers ws) (is_sign s.OpenBrace w.token) (eqb (closers ws) 0) refl refl brace in omega (arith, kept, some), closed_all ws)

pub text_fine : (text : List ℕ) → Fine false (start (words text))
unfolding words
text_fine text = record { closed = closed_all (words_on 1 (pieces text)); in_list = refl; inside = λ e. absurd (cc); ends = refl }

-- ---- texts

more_turns : (line : ℕ) (ys : List Word) (i : Input) → suc (length i.words) + suc (length ys) ≤ turns (longer line ys i)
more_turns line ys i = let all = length-append i.words (record { line = line; token = t.LineEnd } ∷ ys) in omega (arith, all)

-- with the words of another text behind the first one's
pub go_on : (R : List Statement → Outcome (List Statement) → Type 0) (P : Lines → Type 0) → Keeps P → P (section.Options, []) → (line : ℕ) (ys ws : List Word)
    → ((n : ℕ) (found : Lines) (i : Input) → P found → IsPlain i → suc (length ys) < n → words_behind_line_ends i.words ≡ words_behind_line_ends ys → R found.1 (loop_from text_line n found i))
    → Fine false (start ws)
    → Goes R (loop_from text_line (turns (start ws)) (section.Options, []) (start ws)) (loop_from text_line (turns (longer line ys (start ws))) (section.Options, []) (longer line ys (start ws)))
go_on R P keeps holds line ys ws last fine = lines_go R P keeps (suc (length ys)) line ys last (suc (length ws)) (turns (start ws)) (turns (longer line ys (start ws))) (omega arith) (more_turns line ys (start ws)) (section.Options, []) (start ws) holds fine (omega arith)

given_any : (x : Outcome Lines) → Given (λ found. Unit {0}) x
given_any (Ok r) = tt
given_any (Err e) = tt

pub keeps_any : Keeps (λ found. Unit {0})
keeps_any so_far i holds = given_any (any_statement so_far i)

-- ---- the first fault

fault_kept : (e : ConfError) (x y : Outcome (List Statement)) → Goes (λ xs other. Unit {0}) x y → whole x ≡ Err e → whole y ≡ Err e
fault_kept e (Ok r) y goes is = absurd (cc)
fault_kept e (Err f) y goes is = rw goes is

in_words : (line : ℕ) (ys ws : List Word) (e : ConfError) → Fine false (start ws) → statements_in ws ≡ Err e → statements_in (ws ++ record { line = line; token = t.LineEnd } ∷ ys) ≡ Err e
unfolding statements_in
in_words line ys ws e fine is = fault_kept e _ _ (go_on (λ xs other. Unit {0}) (λ found. Unit {0}) keeps_any tt line ys ws (λ n found i holds plain some same. tt) fine) is

pub fault_stays : (first second : List ℕ) (e : ConfError) → slice_index first (length first - 1) ≢ 92 → words first ≡ words_on 1 (pieces first)
    → statements_of first ≡ Err e → statements_of (first ++ 10 ∷ second) ≡ Err e
unfolding statements_of
fault_stays first second e last closed is = rw (words_joined first second last closed) (in_words (1 + newlines first) (moved (1 + newlines first) (words second)) (words first) e (text_fine first) is)
