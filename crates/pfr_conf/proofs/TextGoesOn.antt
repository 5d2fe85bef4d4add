-- A text that is read, if another stands behind it: its statements stay the first ones.
use Rattle.std.proofs.Common.{◌≡◌, ◌≢◌, ◌+◌, ◌-◌, ℕ, zero, suc, if◌then◌else◌, Bool, true, false, List, [], ◌∷◌, ◌++◌, append-nil, append_assoc, length, slice_index, Ok, Err, All, refl, sym, ◌∙◌, ap, arith}
use Rattle.pfr_words.specs.declared.word.Token.TheVariants as t
use Rattle.pfr_words.specs.declared.word.Word.{Word}
use Rattle.pfr_words.specs.Words.{newlines, pieces, words, words_on, moved}
use Rattle.pfr_words.proofs.JoinedWords.{words_joined}
use Rattle.pfr_terms.specs.Input.{Input, Outcome, Parser, and_then, start, loop_from, is_done, words_behind_line_ends, skip_line_ends}
use Rattle.pfr_terms.proofs.Closers.{Fine}
use Rattle.pfr_conf.specs.declared.statement.Statement.{Statement}
use Rattle.pfr_conf.specs.declared.statement.Statements as S
use Rattle.pfr_conf.specs.Policies.{end_of_line}
use Rattle.pfr_conf.specs.Statements.{Lines, any_statement, text_line, whole, statements_in, statements_of}
use Rattle.pfr_conf.proofs.StatementShifts.{Shifts, statement_shifts}
use Rattle.pfr_conf.proofs.TextStays.{Goes, behind_statement, go_on, keeps_any, none_more, text_fine}

-- the list begins with these, if there is one
abbrev pub Grows : List Statement → Outcome (List Statement) → Type 0
Grows xs (Ok r) = (more : List Statement) × (r.0 ≡ xs ++ more)
Grows xs (Err e) = Unit {0}

-- ---- what is read is put behind what was read before

grows_on : (xs : List Statement) (found : Lines) (more : List Statement) (x : Outcome (List Statement)) → found.1 ≡ xs ++ more → Grows found.1 x → Grows xs x
grows_on xs found more (Ok r) is (last, e) = (more ++ last, e ∙ ap (λ (ys : List Statement). ys ++ last) is ∙ append_assoc xs more last)
grows_on xs found more (Err e) is grows = tt

pub grows_end : (xs : List Statement) (x : Outcome (Unit {0})) (g : Parser (List Statement)) → ((i : Input) → Grows xs (g i)) → Grows xs (and_then x (λ done. g))
grows_end xs (Ok r) g grows = grows r.1
grows_end xs (Err e) g grows = tt

grows_behind : (so_far : Lines) (x y : Outcome Lines) (more : Lines → Parser (List Statement)) → Shifts so_far so_far x y → ((found : Lines) (i : Input) → Grows found.1 (more found i)) → Grows so_far.1 (and_then x (behind_statement more))
grows_behind so_far (Ok r) y more (x, is, same) grows = grows_on so_far.1 r.0 (x ∷ []) (behind_statement more r.0 r.1) (ap (λ (found : Lines). found.1) is) (grows_end r.0.1 (end_of_line r.1) (more r.0) (grows r.0))
grows_behind so_far (Err e) y more shifts grows = tt

grows_if : (xs : List Statement) (b : Bool) (i : Input) (x : Outcome (List Statement)) → Grows xs x → Grows xs (if b then Ok (xs, i) else x)
grows_if xs true i x grows = ([], sym (append-nil xs))
grows_if xs false i x grows = grows

pub lines_grow : (n : ℕ) (so_far : Lines) (i : Input) → Grows so_far.1 (loop_from text_line n so_far i)
unfolding loop_from
lines_grow zero so_far i = tt
lines_grow (suc n) so_far i = grows_if so_far.1 (is_done (skip_line_ends i)) (skip_line_ends i) _ (grows_behind so_far (any_statement so_far (skip_line_ends i)) _ (loop_from text_line n) (statement_shifts so_far so_far (skip_line_ends i)) (lines_grow n))

-- ---- texts

first_kept : (a b : S.Statements) (x y : Outcome (List Statement)) → Goes Grows x y → whole x ≡ Ok a → whole y ≡ Ok b → (more : List Statement) × (b.statements ≡ a.statements ++ more)
first_kept a b (Ok r) (Ok q) (more, e) is other = (more, let first = ap (λ z. z) is in cc)
first_kept a b (Ok r) (Err e) goes is other = absurd (cc)
first_kept a b (Err e) y goes is other = absurd (cc)

first_in_words : (line : ℕ) (ys ws : List Word) (a b : S.Statements) → Fine false (start ws) → statements_in ws ≡ Ok a → statements_in (ws ++ record { line = line; token = t.LineEnd } ∷ ys) ≡ Ok b → (more : List Statement) × (b.statements ≡ a.statements ++ more)
unfolding statements_in
first_in_words line ys ws a b fine is other = first_kept a b _ _ (go_on Grows (λ found. Unit {0}) keeps_any tt line ys ws (λ n found i holds plain some same. lines_grow n found i) fine) is other

pub statements_stay : (first second : List ℕ) (a b : S.Statements) → slice_index first (length first - 1) ≢ 92 → words first ≡ words_on 1 (pieces first)
    → statements_of first ≡ Ok a → statements_of (first ++ 10 ∷ second) ≡ Ok b → (more : List Statement) × (b.statements ≡ a.statements ++ more)
unfolding statements_of
statements_stay first second a b last closed is other =
    first_in_words (1 + newlines first) (moved (1 + newlines first) (words second)) (words first) a b (text_fine first) is (rw (words_joined first second last closed) at other)

-- the same list, to the end
abbrev Ends : List Statement → Outcome (List Statement) → Type 0
Ends xs other = (k : Input) × (other ≡ Ok (xs, k))

end_kept : (a : S.Statements) (x y : Outcome (List Statement)) → Goes Ends x y → whole x ≡ Ok a → whole y ≡ Ok a
end_kept a (Ok r) y (k, e) is = rw e is
end_kept a (Err e) y goes is = absurd (cc)

end_in_words : (line : ℕ) (ys ws : List Word) (a : S.Statements) → Fine false (start ws) → words_behind_line_ends ys ≡ [] → statements_in ws ≡ Ok a → statements_in (ws ++ record { line = line; token = t.LineEnd } ∷ ys) ≡ Ok a
unfolding statements_in
end_in_words line ys ws a fine none is = end_kept a _ _ (go_on Ends (λ found. Unit {0}) keeps_any tt line ys ws (λ n found i holds plain some same. (_, none_more n found i (omega (arith, some)) (same ∙ none))) fine) is

moved_blank : (n : ℕ) (ws : List Word) → All (λ (w : Word). w.token ≡ t.LineEnd) ws → words_behind_line_ends (moved n ws) ≡ []
moved_blank n [] all = refl
moved_blank n (w ∷ ws) all = rw (all 0 w (omega arith)) (moved_blank n ws (λ k d below. all (suc k) d (omega (arith, below))))

pub blank_behind : (first second : List ℕ) (a : S.Statements) → slice_index first (length first - 1) ≢ 92 → words first ≡ words_on 1 (pieces first)
    → All (λ (w : Word). w.token ≡ t.LineEnd) (words second) → statements_of first ≡ Ok a → statements_of (first ++ 10 ∷ second) ≡ Ok a
unfolding statements_of
blank_behind first second a last closed all is =
    rw (words_joined first second last closed) (end_in_words (1 + newlines first) (moved (1 + newlines first) (words second)) (words first) a (text_fine first) (moved_blank (1 + newlines first) (words second) all) is)
