-- Readers whose faults are on lines of the text.
use Rattle.std.proofs.Common.{◌≤◌, ℕ, zero, suc, ◌&&◌, Bool, true, false, if◌then◌else◌, List, [], ◌∷◌, Option, Some, None, Ok, Err}
use Rattle.pfr_words.specs.declared.sign.Sign.{Sign}
use Rattle.pfr_words.specs.declared.sign.Sign.TheVariants as s
use Rattle.pfr_words.specs.declared.word.Token.{Token}
use Rattle.pfr_words.specs.declared.word.Token.TheVariants as t
use Rattle.pfr_words.specs.declared.word.Word.{Word}
use Rattle.pfr_words.specs.Names.{is_left_out as is_left_out_word}
use Rattle.pfr_terms.specs.declared.error.ConfError.{ConfError}
use Rattle.pfr_terms.specs.declared.error.ConfErrorKind.{ConfErrorKind}
use Rattle.pfr_terms.specs.Faults.{lower}
use Rattle.pfr_terms.specs.Input.{Input, Outcome, Parser, and_then, ◌>>=◌, pure, is_line_end, words_behind_line_ends, skip_line_ends, stepped, step, next, enter_list, leave_list, line_of, line_ahead, token_refusal, refusal_at, refusal, fault, left_out, refuse, faulty, leave_out, blame, blamed, pass_over_by, pass_over, passing, turns, loop_from, loop, eat_sign, eat_word, open_list, close_list, sign_or_more, expect_sign, end_or_more, finish, is_done, expect_word, taken, named, passed, free_word_by, free_word, number_by, number_in, number_ahead, plain_ahead, sees_sign, sees_word}

-- a line of a text of n lines
pub record IsLine (n line : ℕ) : Type 0 where
  pub some : 1 ≤ line
  pub within : line ≤ n

abbrev pub AreOn : ℕ → List Word → Type 0
AreOn n [] = Unit {0}
AreOn n (w ∷ ws) = IsLine n w.line × AreOn n ws

pub record Within (n : ℕ) (i : Input) : Type 0 where
  pub words : AreOn n i.words
  pub line : IsLine n i.line

-- what is left is within, or the fault is on a line
abbrev pub Good : {A : Type 0} → ℕ → Outcome A → Type 0
Good n (Ok p) = Within n p.1
Good n (Err e) = IsLine n e.line

pub record Keeps {A : Type 0} (n : ℕ) (p : Parser A) : Type 0 where
  pub from : (i : Input) → Within n i → Good n (p i)

-- ---- words

pub either : {A : Type 0} (P : A → Type 0) (b : Bool) (x y : A) → P x → P y → P (if b then x else y)
either P true x y p q = p
either P false x y p q = q

behind_line_ends : (n : ℕ) (ws : List Word) → AreOn n ws → AreOn n (words_behind_line_ends ws)
behind_line_ends n [] on = tt
behind_line_ends n (w ∷ ws) on = either (AreOn n) (is_line_end w.token) _ _ (behind_line_ends n ws on.1) on

pub skipped_within : (n : ℕ) (i : Input) → Within n i → Within n (skip_line_ends i)
skipped_within n i within = record { words = behind_line_ends n i.words within.words; line = within.line }

stepped_within : (n : ℕ) (ws : List Word) (i : Input) → AreOn n ws → Within n i → Within n (stepped ws i)
stepped_within n [] i on within = within
stepped_within n (w ∷ ws) i on within = record { words = on.1; line = on.0 }

pub next_within : (n : ℕ) (i : Input) → Within n i → Within n (next i)
unfolding next
next_within n i within =
    let stepped = stepped_within n i.words i within.words within in
    either (Within n) i.in_list _ _ (skipped_within n (step i) stepped) stepped

enter_within : (n : ℕ) (i : Input) → Within n i → Within n (enter_list i)
unfolding enter_list
enter_within n i within = next_within n (record i { in_list = true }) (record { words = within.words; line = within.line })

leave_within : (n : ℕ) (i : Input) → Within n i → Within n (leave_list i)
unfolding leave_list
leave_within n i within = next_within n (record i { in_list = false }) (record { words = within.words; line = within.line })

-- ---- faults

line_of_is : (n : ℕ) (ws : List Word) (line : ℕ) → AreOn n ws → IsLine n line → IsLine n (line_of ws line)
line_of_is n [] line on is = is
line_of_is n (w ∷ ws) line on is = either (IsLine n) (is_line_end w.token) _ _ is on.0

pub line_ahead_is : (n : ℕ) (i : Input) → Within n i → IsLine n (line_ahead i)
unfolding line_ahead
line_ahead_is n i within = line_of_is n i.words i.line within.words within.line

token_refusal_is : (n before line : ℕ) (token : Token) → IsLine n before → IsLine n line → IsLine n (token_refusal before line token).line
token_refusal_is n before line t.LineEnd first is = first
token_refusal_is n before line (t.Plain word) first is = either (λ (e : ConfError). IsLine n e.line) (is_left_out_word word) _ _ is is
token_refusal_is n before line token first is = is

refusal_at_is : (n before : ℕ) (ws : List Word) → IsLine n before → AreOn n ws → IsLine n (refusal_at before ws).line
refusal_at_is n before [] first on = first
refusal_at_is n before (w ∷ ws) first on = token_refusal_is n before w.line w.token first on.0

pub refusal_is : (n : ℕ) (i : Input) → Within n i → IsLine n (refusal i).line
unfolding refusal
refusal_is n i within = refusal_at_is n i.line i.words within.line within.words

pub fault_is : (n : ℕ) (kind : ConfErrorKind) (i : Input) → Within n i → IsLine n (fault kind i).line
unfolding fault
fault_is n kind i within = line_ahead_is n i within

pub left_out_is : (n : ℕ) (name : List ℕ) (i : Input) → Within n i → IsLine n (left_out name i).line
unfolding left_out
left_out_is n name i within = line_ahead_is n i within

pub blame_good : (n : ℕ) (e : ConfError) (i : Input) → Within n i → IsLine n e.line → Good n (blame e i)
unfolding blame
blame_good n e i within is =
    either (Good n) i.gathers _ _ (next_within n (record i { gathered = Some (lower i.gathered e) }) (record { words = within.words; line = within.line })) is

-- ---- ways in which readers are put together

pub keeps_pure : {A : Type 0} {n : ℕ} (a : A) → Keeps n (pure a)
keeps_pure a = record { from = λ i within. within }

good_then : {A B : Type 0} (n : ℕ) (outcome : Outcome A) (f : A → Parser B) → Good n outcome → ((a : A) → Keeps n (f a)) → Good n (and_then outcome f)
good_then n (Ok p) f good keeps = (keeps p.0).from p.1 good
good_then n (Err e) f good keeps = good

pub keeps_then : {A B : Type 0} {n : ℕ} {p : Parser A} {f : A → Parser B} → Keeps n p → ((a : A) → Keeps n (f a)) → Keeps n (p >>= f)
keeps_then {n = n} {p = p} {f = f} first more = record { from = λ i within. good_then n (p i) f (first.from i within) more }

pub keeps_if : {A : Type 0} {n : ℕ} {p q : Parser A} (b : Bool) → Keeps n p → Keeps n q → Keeps n (if b then p else q)
keeps_if true first second = first
keeps_if false first second = second

-- by what is ahead
pub keeps_test : {A : Type 0} {n : ℕ} {p q : Parser A} (test : Input → Bool) → Keeps n p → Keeps n q → Keeps n (λ i. if test i then p i else q i)
keeps_test {n = n} test first second = record { from = λ i within. either (Good n) (test i) _ _ (first.from i within) (second.from i within) }

pub keeps_by : {A X : Type 0} {n : ℕ} (ahead : Input → X) (by : X → Parser A) → ((x : X) → Keeps n (by x)) → Keeps n (λ i. by (ahead i) i)
keeps_by ahead by keeps = record { from = λ i within. (keeps (ahead i)).from i within }

pub keeps_fault : {A : Type 0} {n : ℕ} (f : Input → ConfError) → ((i : Input) → Within n i → IsLine n (f i).line) → Keeps {A = A} n (λ i. Err (f i))
keeps_fault f is = record { from = is }

pub keeps_refuse : {A : Type 0} {n : ℕ} → Keeps {A = A} n refuse
keeps_refuse {n = n} = record { from = refusal_is n }

pub keeps_faulty : {A : Type 0} {n : ℕ} (kind : ConfErrorKind) → Keeps {A = A} n (faulty kind)
keeps_faulty {n = n} kind = record { from = fault_is n kind }

pub keeps_leave_out : {A : Type 0} {n : ℕ} (name : List ℕ) → Keeps {A = A} n (leave_out name)
keeps_leave_out {n = n} name = record { from = left_out_is n name }

loop_from_keeps : {S A : Type 0} (n : ℕ) (turn : (S → Parser A) → S → Parser A) → ((more : S → Parser A) → ((s : S) → Keeps n (more s)) → (s : S) → Keeps n (turn more s)) → (count : ℕ) (s : S) → Keeps n (loop_from turn count s)
unfolding loop_from
loop_from_keeps n turn each zero s = keeps_refuse
loop_from_keeps n turn each (suc count) s = each (loop_from turn count) (loop_from_keeps n turn each count) s

pub keeps_loop : {S A : Type 0} {n : ℕ} (turn : (S → Parser A) → S → Parser A) (s : S) → ((more : S → Parser A) → ((s : S) → Keeps n (more s)) → (s : S) → Keeps n (turn more s)) → Keeps n (loop turn s)
keeps_loop {n = n} turn s each = record { from = λ i within. (loop_from_keeps n turn each (turns i) s).from i within }

-- ---- faults behind which reading goes on

pub keeps_blame : {n : ℕ} (f : Input → ConfError) → ((i : Input) → Within n i → IsLine n (f i).line) → Keeps n (blamed f)
keeps_blame {n = n} f is = record { from = λ i within. blame_good n (f i) i within (is i within) }

pub keeps_blamed_fault : {n : ℕ} (kind : ConfErrorKind) → Keeps n (blamed (fault kind))
keeps_blamed_fault {n = n} kind = keeps_blame (fault kind) (fault_is n kind)

pub keeps_blamed_left_out : {n : ℕ} (name : List ℕ) → Keeps n (blamed (left_out name))
keeps_blamed_left_out {n = n} name = keeps_blame (left_out name) (left_out_is n name)

pass_over_by_keeps : {n : ℕ} (found : Option (List ℕ)) → Keeps n (pass_over_by found)
pass_over_by_keeps None = keeps_refuse
pass_over_by_keeps (Some word) = keeps_test (λ i. i.gathers && is_left_out_word word) (keeps_blamed_left_out word) keeps_refuse

pub keeps_pass_over : {n : ℕ} → Keeps n pass_over
unfolding pass_over
keeps_pass_over = keeps_by plain_ahead pass_over_by pass_over_by_keeps

-- ---- single words

pub keeps_eat_sign : {n : ℕ} (sign : Sign) → Keeps n (eat_sign sign)
unfolding eat_sign
keeps_eat_sign {n = n} sign = record { from = λ i within. either (Within n) (sees_sign sign i) _ _ (next_within n i within) within }

pub keeps_eat_word : {n : ℕ} (word : List ℕ) → Keeps n (eat_word word)
unfolding eat_word
keeps_eat_word {n = n} word = record { from = λ i within. either (Within n) (sees_word word i) _ _ (next_within n i within) within }

pub keeps_open_list : {n : ℕ} → Keeps n open_list
unfolding open_list
keeps_open_list {n = n} = record { from = λ i within. either (Within n) (sees_sign s.OpenBrace i) _ _ (enter_within n i within) within }

pub keeps_close_list : {n : ℕ} → Keeps n close_list
unfolding close_list
keeps_close_list {n = n} = record { from = λ i within. either (Within n) (sees_sign s.CloseBrace i) _ _ (leave_within n i within) within }

pub keeps_taken : {n : ℕ} → Keeps n taken
keeps_taken {n = n} = record { from = next_within n }

pub keeps_named : {n : ℕ} (text : List ℕ) → Keeps n (named text)
unfolding named
keeps_named {n = n} text = record { from = next_within n }

pub keeps_expect_sign : {n : ℕ} (sign : Sign) → Keeps n (expect_sign sign)
unfolding expect_sign
keeps_expect_sign sign = keeps_loop (sign_or_more sign) tt (λ more rest done.
    keeps_then (keeps_eat_sign sign) (λ found. keeps_if found (keeps_pure tt) (keeps_then keeps_pass_over (λ passed. rest tt))))

pub keeps_finish : {n : ℕ} → Keeps n finish
unfolding finish
keeps_finish = keeps_loop end_or_more tt (λ more rest done.
    keeps_test is_done (keeps_pure tt) (keeps_then keeps_pass_over (λ passed. rest tt)))

pub keeps_expect_word : {n : ℕ} (word : List ℕ) → Keeps n (expect_word word)
unfolding expect_word
keeps_expect_word word = keeps_then (keeps_eat_word word) (λ found. keeps_if found (keeps_pure tt) keeps_refuse)

pub ruleset reading = (keeps_pure, keeps_then, keeps_if, keeps_refuse, keeps_faulty, keeps_leave_out, keeps_blame, keeps_blamed_fault, keeps_pass_over, keeps_eat_sign, keeps_eat_word, keeps_open_list, keeps_close_list, keeps_taken, keeps_named, keeps_expect_sign, keeps_expect_word)

pub keeps_passed : {n : ℕ} (text : List ℕ) → Keeps n (passed text)
unfolding passed
keeps_passed text = keeps_by line_ahead (λ line. passing (record { line = line; text = text })) (λ line. search reading)

free_word_keeps : {n : ℕ} (found : Option (List ℕ)) → Keeps n (free_word_by found)
free_word_keeps None = search reading
free_word_keeps (Some word) = search (reading, keeps_passed)

pub keeps_free_word : {n : ℕ} → Keeps n free_word
unfolding free_word
keeps_free_word = keeps_by plain_ahead free_word_by free_word_keeps

number_keeps : {n : ℕ} (low high : ℕ) (found : Option ℕ) → Keeps n (number_by low high found)
number_keeps low high None = search reading
number_keeps low high (Some found) = search reading

pub keeps_number_in : {n : ℕ} (low high : ℕ) → Keeps n (number_in low high)
unfolding number_in
keeps_number_in low high = keeps_by number_ahead (number_by low high) (number_keeps low high)
