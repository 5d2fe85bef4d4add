-- Words that close braces, with lines behind them.
use Rattle.std.proofs.Common.{◌≡◌, ◌≤◌, ◌<◌, ◌+◌, ◌-◌, ℕ, suc, ◌||◌, Bool, true, false, not, if◌then◌else◌, List, [], ◌∷◌, ◌++◌, length, Option, None, Ok, Err, refl, sym, ap, ◌∙◌, arith}
use Rattle.pfr_words.specs.declared.sign.Sign.{Sign}
use Rattle.pfr_words.specs.declared.sign.Sign.TheVariants as s
use Rattle.pfr_words.specs.declared.word.Token.{Token}
use Rattle.pfr_words.specs.declared.word.Token.TheVariants as t
use Rattle.pfr_words.specs.declared.word.Word.{Word}
use Rattle.pfr_words.specs.Words.{is_sign, same_sign, closers, closers_before}
use Rattle.pfr_terms.specs.declared.error.ConfError.{ConfError}
use Rattle.pfr_terms.specs.Input.{Input, Outcome, Parser, is_line_end, words_behind_line_ends, skip_line_ends, stepped, next}
use Rattle.pfr_terms.proofs.Lines.{either}

-- the input, with an end of a line and words behind it
abbrev pub longer : ℕ → List Word → Input → Input
longer line ys i = record i { words = i.words ++ record { line = line; token = t.LineEnd } ∷ ys }

-- whether reading goes on behind faults, and the lowest of those behind which it went on
abbrev pub mode : Input → Bool × Option ConfError
mode i = (i.gathers, i.gathered)

-- each brace that these words open is closed behind it
abbrev pub Closed : List Word → Type 0
Closed [] = Unit {0}
Closed (w ∷ ws) = (is_sign s.OpenBrace w.token ≡ true → 1 ≤ closers ws) × Closed ws

-- an input of a text; within a list the brace that closes it is still to come
pub record Fine (listed : Bool) (i : Input) : Type 0 where
  pub closed : Closed i.words
  pub in_list : i.in_list ≡ listed
  pub inside : listed ≡ true → 1 ≤ closers i.words
  pub ends : mode i ≡ (false, None)

-- a word that neither ends a line nor is a brace
abbrev pub is_inner : Token → Bool
is_inner token = not (is_line_end token || (is_sign s.OpenBrace token || is_sign s.CloseBrace token))

abbrev pub Starts : List Word → Type 0
Starts [] = ⊥
Starts (w ∷ ws) = is_inner w.token ≡ true

abbrev pub Sees : Bool → Input → Type 0
Sees true i = Starts i.words
Sees false i = Unit {0}

abbrev pub Fewer : Bool → ℕ → ℕ → Type 0
Fewer true n m = n < m
Fewer false n m = n ≤ m

-- what is left of `count` words that close `all` braces, if lines stand behind them
pub record After {A : Type 0} (line : ℕ) (ys : List Word) (to : Bool) (closing : ℕ) (eaten : A → Bool) (all count : ℕ) (r : A × Input) (other : Outcome A) : Type 0 where
  pub same : other ≡ Ok (r.0, longer line ys r.1)
  pub fine : Fine to r.1
  pub braces : closing + closers r.1.words ≡ all
  pub fewer : Fewer (eaten r.0) (length r.1.words) count

abbrev pub Follows : {A : Type 0} → ℕ → List Word → Bool → ℕ → (A → Bool) → ℕ → ℕ → Outcome A → Outcome A → Type 0
Follows line ys to closing eaten all count (Ok r) other = After line ys to closing eaten all count r other
Follows line ys to closing eaten all count (Err e) other = other ≡ Err e

-- For inputs with fewer words than `bound`, within a list or not, the second reads with lines behind them what the
-- first reads without. `eaten` says of what is read whether a word was. `sees` says whether the next word is there,
-- and `closing` how many braces are closed.
pub record Stays {A : Type 0} (before behind : Bool) (closing : ℕ) (sees : Bool) (eaten : A → Bool) (bound : ℕ) (p q : Parser A) : Type 0 where
  pub from : (line : ℕ) (ys : List Word) (i : Input) → Fine before i → closing ≤ closers i.words → Sees sees i → length i.words < bound → Follows line ys behind closing eaten (closers i.words) (length i.words) (p i) (q (longer line ys i))

-- ---- words

line_end_counts : (token : Token) (n : ℕ) → is_line_end token ≡ true → closers_before token n ≡ n
line_end_counts t.LineEnd n e = refl
line_end_counts token n e = absurd (cc)

inner_if : (ends opens closes : Bool) (n : ℕ) → not (ends || (opens || closes)) ≡ true → (if opens then n - 1 else if closes then n + 1 else n) ≡ n
inner_if false false false n e = refl
inner_if false false true n e = absurd (cc)
inner_if false true closes n e = absurd (cc)
inner_if true opens closes n e = absurd (cc)

pub inner_counts : (token : Token) (n : ℕ) → is_inner token ≡ true → closers_before token n ≡ n
inner_counts token n e = inner_if (is_line_end token) (is_sign s.OpenBrace token) (is_sign s.CloseBrace token) n e

pub open_counts : (token : Token) (n : ℕ) → is_sign s.OpenBrace token ≡ true → closers_before token n ≡ n - 1
open_counts token n e = rw e refl

close_by : (sign : Sign) (n : ℕ) → same_sign sign s.CloseBrace ≡ true → closers_before (t.Sign sign) n ≡ n + 1
unfolding same_sign
close_by s.CloseBrace n e = refl
close_by sign n e = absurd (cc)

pub close_counts : (token : Token) (n : ℕ) → is_sign s.CloseBrace token ≡ true → closers_before token n ≡ n + 1
close_counts (t.Sign sign) n e = close_by sign n e
close_counts token n e = absurd (cc)

-- a sign that is no brace
abbrev pub Plain : Sign → Type 0
Plain s.OpenBrace = ⊥
Plain s.CloseBrace = ⊥
Plain sign = Unit {0}

inner_sign : (found sign : Sign) → Plain sign → same_sign found sign ≡ true → is_inner (t.Sign found) ≡ true
unfolding same_sign
inner_sign found s.OpenBrace plain e = absurd plain
inner_sign found s.CloseBrace plain e = absurd plain
inner_sign s.OpenBrace sign plain e = absurd (cc)
inner_sign s.CloseBrace sign plain e = absurd (cc)
inner_sign found sign plain e = refl

pub inner_token : (token : Token) (sign : Sign) → Plain sign → is_sign sign token ≡ true → is_inner token ≡ true
inner_token (t.Sign found) sign plain e = inner_sign found sign plain e
inner_token token sign plain e = absurd (cc)

-- ---- past ends of lines

skip_by : (ws more : List Word) (w : Word) (ends : Bool) → is_line_end w.token ≡ ends → 1 ≤ closers (w ∷ ws)
    → (1 ≤ closers ws → words_behind_line_ends (ws ++ more) ≡ words_behind_line_ends ws ++ more)
    → (if ends then words_behind_line_ends (ws ++ more) else w ∷ ws ++ more) ≡ (if ends then words_behind_line_ends ws else w ∷ ws) ++ more
skip_by ws more w true e some rest = rest (let counts = line_end_counts w.token (closers ws) e in omega (arith, counts, some))
skip_by ws more w false e some rest = refl

pub skip_longer : (ws more : List Word) → 1 ≤ closers ws → words_behind_line_ends (ws ++ more) ≡ words_behind_line_ends ws ++ more
skip_longer [] more some = absurd (omega arith)
skip_longer (w ∷ ws) more some = skip_by ws more w (is_line_end w.token) refl some (skip_longer ws more)

skip_closers_by : (ws : List Word) (w : Word) (ends : Bool) → is_line_end w.token ≡ ends → closers (words_behind_line_ends ws) ≡ closers ws → closers (if ends then words_behind_line_ends ws else w ∷ ws) ≡ closers (w ∷ ws)
skip_closers_by ws w true e rest = rest ∙ sym (line_end_counts w.token (closers ws) e)
skip_closers_by ws w false e rest = refl

pub skip_closers : (ws : List Word) → closers (words_behind_line_ends ws) ≡ closers ws
skip_closers [] = refl
skip_closers (w ∷ ws) = skip_closers_by ws w (is_line_end w.token) refl (skip_closers ws)

pub skip_closed : (ws : List Word) → Closed ws → Closed (words_behind_line_ends ws)
skip_closed [] closed = tt
skip_closed (w ∷ ws) closed = either Closed (is_line_end w.token) _ _ (skip_closed ws closed.1) closed

pub skip_length : (ws : List Word) → length (words_behind_line_ends ws) ≤ length ws
skip_length [] = omega arith
skip_length (w ∷ ws) = either (λ (v : List Word). length v ≤ suc (length ws)) (is_line_end w.token) _ _ (let fewer = skip_length ws in omega (arith, fewer)) (omega arith)

-- ---- past a word

pub record Moves (line : ℕ) (ys : List Word) (all count : ℕ) (i j other : Input) : Type 0 where
  pub same : other ≡ longer line ys j
  pub closed : Closed j.words
  pub in_list : j.in_list ≡ i.in_list
  pub gathers : mode j ≡ mode i
  pub braces : closers j.words ≡ all
  pub fewer : length j.words < count

abbrev pub past : Bool → List Word → Input → Input
past inside ws i = if inside then skip_line_ends (stepped ws i) else stepped ws i

pub past_moves : (line : ℕ) (ys : List Word) (inside : Bool) (w : Word) (ws : List Word) (i : Input) → Closed ws → (inside ≡ true → 1 ≤ closers ws)
    → Moves line ys (closers ws) (suc (length ws)) i (past inside (w ∷ ws) i) (past inside (w ∷ ws ++ record { line = line; token = t.LineEnd } ∷ ys) (longer line ys i))
past_moves line ys false w ws i closed some = record { same = refl; closed = closed; in_list = refl; gathers = refl; braces = refl; fewer = omega arith }
past_moves line ys true w ws i closed some = record {
  same = ap (λ (v : List Word). record i { words = v; line = w.line }) (skip_longer ws (record { line = line; token = t.LineEnd } ∷ ys) (some refl));
  closed = skip_closed ws closed;
  in_list = refl;
  gathers = refl;
  braces = skip_closers ws;
  fewer = let shorter = skip_length ws in omega (arith, shorter);
}
