-- Readers of what stands in braces, which read the same if lines stand behind it.
use Rattle.std.proofs.Common.{◌≡◌, ◌≤◌, ◌<◌, ◌+◌, ◌-◌, ℕ, suc, Bool, true, false, if◌then◌else◌, List, [], ◌∷◌, ◌++◌, length, Some, None, Ok, Err, refl, ap, ◌∙◌, arith}
use Rattle.pfr_words.specs.declared.sign.Sign.{Sign}
use Rattle.pfr_words.specs.declared.sign.Sign.TheVariants as s
use Rattle.pfr_words.specs.declared.word.Token.TheVariants as t
use Rattle.pfr_words.specs.declared.word.Word.{Word}
use Rattle.pfr_words.specs.Words.{closers}
use Rattle.pfr_terms.specs.declared.name.Name.{Name}
use Rattle.pfr_terms.specs.Input.{plain_ahead, first_is, sees_sign, line_ahead, passing, eat_sign, open_list, close_list, sign_or_more, expect_sign, expect_word, passed, free_word_by, free_word, number_by, number_in, number_ahead, Input, Outcome, Parser, ◌>>=◌, pure, next, enter_list, leave_list}
use Rattle.pfr_terms.proofs.Closers.{longer, mode, Closed, Fine, Sees, After, Follows, Stays, open_counts, close_counts, Plain, Moves, past, past_moves}
use Rattle.pfr_terms.proofs.Sights.{plain_sight, plain_shows, number_sight, number_shows, sees_sight, line_sight}
use Rattle.pfr_terms.proofs.Stays.{fewer_first, stays_then, stays_first, stays_turn, stays_pure, stays_if, stays_by, stays_at, stays_refuse, stays_faulty, stays_leave_out, stays_blamed_fault, stays_pass_over, recounted, stays_taken, stays_named, stays_eat_sign, stays_eat_word, stays_found, stays_found_sign, stays_loop}

-- ---- braces

-- past a brace that opens a list or a body
open_at : (line : ℕ) (ys ws : List Word) (inside : Bool) (i : Input) → Closed ws → first_is s.OpenBrace ws ≡ true
    → Moves line ys (suc (closers ws)) (length ws) i (past inside ws i) (past inside (ws ++ record { line = line; token = t.LineEnd } ∷ ys) (longer line ys i))
open_at line ys [] inside i closed is = absurd (cc)
open_at line ys (w ∷ ws) inside i closed is =
    let counts = open_counts w.token (closers ws) is in
    let some = closed.0 is in
    let all : closers ws ≡ suc (closers (w ∷ ws)) = omega (arith, counts, some) in
    recounted line ys _ _ _ i _ _ all (past_moves line ys inside w ws i closed.1 (λ e. some))

close_at : (line : ℕ) (ys ws : List Word) (i : Input) → Closed ws → first_is s.CloseBrace ws ≡ true
    → Moves line ys (closers ws - 1) (length ws) i (past false ws i) (past false (ws ++ record { line = line; token = t.LineEnd } ∷ ys) (longer line ys i))
close_at line ys [] i closed is = absurd (cc)
close_at line ys (w ∷ ws) i closed is =
    let counts = close_counts w.token (closers ws) is in
    let all : closers ws ≡ closers (w ∷ ws) - 1 = omega (arith, counts) in
    recounted line ys _ _ _ i _ _ all (past_moves line ys false w ws i closed.1 (λ e. absurd (cc)))

closing_too : {A : Type 0} (line : ℕ) (ys : List Word) (eaten : A → Bool) (all within n m : ℕ) (x y : Outcome A)
    → Follows line ys false 1 (λ a. false) within n x y → within ≡ suc all → n < m → Follows line ys false 0 eaten all m x y
closing_too line ys eaten all within n m (Ok r) y after e fewer = record {
  same = after.same;
  fine = after.fine;
  braces = let braces = after.braces in omega (arith, braces, e);
  fewer = fewer_first (eaten r.0) (length r.1.words) n m after.fewer fewer;
}
closing_too line ys eaten all within n m (Err f) y same e fewer = same

opened : {A : Type 0} {inside : Bool} {count : ℕ} (line : ℕ) (ys : List Word) (eaten : A → Bool) (p q : Parser A) (i k j other : Input)
    → Stays inside false 1 false (λ a. false) count p q → Moves line ys (suc (closers i.words)) (length i.words) k j other → k.in_list ≡ inside → mode k ≡ (false, None) → length i.words < count
    → Follows line ys false 0 eaten (closers i.words) (length i.words) (p j) (q other)
opened {inside = inside} line ys eaten p q i k j other stays m in_list ends within =
    let braces = m.braces in
    let fewer = m.fewer in
    let fine : Fine inside j = record { closed = m.closed; in_list = m.in_list ∙ in_list; inside = λ e. omega (arith, braces); ends = m.gathers ∙ ends } in
    let more = stays.from line ys j fine (omega (arith, braces)) tt (omega (arith, fewer, within)) in
    closing_too line ys eaten (closers i.words) (closers j.words) (length j.words) (length i.words) (p j) (q other) (rw m.same more) braces fewer

open_list_follows : {A : Type 0} {sees : Bool} {count : ℕ} {eaten : A → Bool} (f g : Bool → Parser A) (line : ℕ) (ys : List Word) (i : Input) (found : Bool) → sees_sign s.OpenBrace i ≡ found
    → Stays true false 1 false (λ a. false) count (f true) (g true) → Stays false false 0 sees eaten count (f false) (g false)
    → Fine false i → Sees sees i → length i.words < count
    → Follows line ys false 0 eaten (closers i.words) (length i.words) (f found (if found then enter_list i else i)) (g found (if found then enter_list (longer line ys i) else longer line ys i))
unfolding sees_sign enter_list next
open_list_follows {eaten = eaten} f g line ys i true is one other fine sees within =
    let m = open_at line ys i.words true (record i { in_list = true }) fine.closed is in
    opened line ys eaten (f true) (g true) i (record i { in_list = true }) _ _ one m refl fine.ends within
open_list_follows f g line ys i false is one other fine sees within = other.from line ys i fine (omega arith) sees within

pub stays_open_list : {A : Type 0} {sees : Bool} {count : ℕ} {eaten : A → Bool} (f g : Bool → Parser A)
    → Stays true false 1 false (λ a. false) count (f true) (g true) → Stays false false 0 sees eaten count (f false) (g false)
    → Stays false false 0 sees eaten count (open_list >>= f) (open_list >>= g)
unfolding open_list
stays_open_list {eaten = eaten} f g one other = record {
  from = λ line ys i fine braces sees within.
      rw ((sees_sight s.OpenBrace).alike line ys i) (open_list_follows f g line ys i (sees_sign s.OpenBrace i) refl one other fine sees within);
}

open_body_follows : {A : Type 0} {sees : Bool} {count : ℕ} {eaten : A → Bool} (f g : Bool → Parser A) (line : ℕ) (ys : List Word) (i : Input) (found : Bool) → sees_sign s.OpenBrace i ≡ found
    → Stays false false 1 false (λ a. false) count (f true) (g true) → Stays false false 0 sees eaten count (f false) (g false)
    → Fine false i → Sees sees i → length i.words < count
    → Follows line ys false 0 eaten (closers i.words) (length i.words) (f found (if found then next i else i)) (g found (if found then next (longer line ys i) else longer line ys i))
unfolding sees_sign next
open_body_follows {eaten = eaten} f g line ys i true is one other fine sees within =
    let m = open_at line ys i.words i.in_list i fine.closed is in
    opened line ys eaten (f true) (g true) i i _ _ one m fine.in_list fine.ends within
open_body_follows f g line ys i false is one other fine sees within = other.from line ys i fine (omega arith) sees within

-- outside of lists a brace opens a body
pub stays_open_body : {A : Type 0} {sees : Bool} {count : ℕ} {eaten : A → Bool} (f g : Bool → Parser A)
    → Stays false false 1 false (λ a. false) count (f true) (g true) → Stays false false 0 sees eaten count (f false) (g false)
    → Stays false false 0 sees eaten count (eat_sign s.OpenBrace >>= f) (eat_sign s.OpenBrace >>= g)
unfolding eat_sign
stays_open_body {eaten = eaten} f g one other = record {
  from = λ line ys i fine braces sees within.
      rw ((sees_sight s.OpenBrace).alike line ys i) (open_body_follows f g line ys i (sees_sign s.OpenBrace i) refl one other fine sees within);
}

closed_after : {A : Type 0} (line : ℕ) (ys : List Word) (eaten : A → Bool) (a : A) (i j other : Input) → mode i ≡ (false, None) → 1 ≤ closers i.words → Moves line ys (closers i.words - 1) (length i.words) (record i { in_list = false }) j other
    → After line ys false 1 eaten (closers i.words) (length i.words) (a, j) (Ok (a, other))
closed_after line ys eaten a i j other ends some m = record {
  same = ap (λ k. Ok (a, k)) m.same;
  fine = record { closed = m.closed; in_list = m.in_list; inside = λ e. absurd (cc); ends = m.gathers ∙ ends };
  braces = let braces = m.braces in omega (arith, braces, some);
  fewer = fewer_first (eaten a) (length j.words) (length j.words) (length i.words) (omega arith) m.fewer;
}

close_list_follows : {A : Type 0} {count : ℕ} (a : A) (q q' : Parser A) (line : ℕ) (ys : List Word) (i : Input) (found : Bool) → sees_sign s.CloseBrace i ≡ found
    → Stays true false 1 false (λ a. false) count q q' → Fine true i → 1 ≤ closers i.words → length i.words < count
    → Follows line ys false 1 (λ a. false) (closers i.words) (length i.words) ((if found then pure a else q) (if found then leave_list i else i)) ((if found then pure a else q') (if found then leave_list (longer line ys i) else longer line ys i))
unfolding sees_sign leave_list next
close_list_follows a q q' line ys i true is other fine braces within = closed_after line ys (λ a. false) a i _ _ fine.ends braces (close_at line ys i.words (record i { in_list = false }) fine.closed is)
close_list_follows a q q' line ys i false is other fine braces within = other.from line ys i fine braces tt within

-- the brace that closes a list
pub stays_close_list : {A : Type 0} {count : ℕ} {q q' : Parser A} (a : A) → Stays true false 1 false (λ a. false) count q q'
    → Stays true false 1 false (λ a. false) count (close_list >>= (λ found. if found then pure a else q)) (close_list >>= (λ found. if found then pure a else q'))
unfolding close_list
stays_close_list {q = q} {q' = q'} a other = record {
  from = λ line ys i fine braces sees within.
      rw ((sees_sight s.CloseBrace).alike line ys i) (close_list_follows a q q' line ys i (sees_sign s.CloseBrace i) refl other fine braces within);
}

close_body_follows : {A : Type 0} {count : ℕ} (a : A) (q q' : Parser A) (line : ℕ) (ys : List Word) (i : Input) (inside found : Bool) → i.in_list ≡ inside → inside ≡ false → sees_sign s.CloseBrace i ≡ found
    → Stays false false 1 false (λ a. false) count q q' → Fine false i → 1 ≤ closers i.words → length i.words < count
    → Follows line ys false 1 (λ a. false) (closers i.words) (length i.words) ((if found then pure a else q) (if found then past inside i.words i else i)) ((if found then pure a else q') (if found then past inside (i.words ++ record { line = line; token = t.LineEnd } ∷ ys) (longer line ys i) else longer line ys i))
unfolding sees_sign
close_body_follows a q q' line ys i true found listed outside is other fine braces within = absurd (cc)
close_body_follows a q q' line ys i false true listed outside is other fine braces within =
    let m = close_at line ys i.words i fine.closed is in
    closed_after line ys (λ a. false) a i _ _ fine.ends braces (record { same = m.same; closed = m.closed; in_list = m.in_list ∙ listed; gathers = m.gathers; braces = m.braces; fewer = m.fewer })
close_body_follows a q q' line ys i false false listed outside is other fine braces within = other.from line ys i fine braces tt within

-- the brace that closes a body
pub stays_close_body : {A : Type 0} {count : ℕ} {q q' : Parser A} (a : A) → Stays false false 1 false (λ a. false) count q q'
    → Stays false false 1 false (λ a. false) count (eat_sign s.CloseBrace >>= (λ found. if found then pure a else q)) (eat_sign s.CloseBrace >>= (λ found. if found then pure a else q'))
unfolding eat_sign next
stays_close_body {q = q} {q' = q'} a other = record {
  from = λ line ys i fine braces sees within.
      rw ((sees_sight s.CloseBrace).alike line ys i) (close_body_follows a q q' line ys i i.in_list (sees_sign s.CloseBrace i) refl fine.in_list refl other fine braces within);
}

-- ---- more readers

pub stays_expect_sign : {inside sees : Bool} {count : ℕ} (sign : Sign) → Plain sign → Stays inside inside 0 sees (λ done. false) count (expect_sign sign) (expect_sign sign)
unfolding expect_sign
stays_expect_sign sign plain = stays_loop (sign_or_more sign) tt (λ count more other rest done.
    stays_then (stays_eat_sign sign plain) (λ found. stays_if found (stays_pure tt) (stays_turn stays_pass_over (λ passed. rest tt))))

pub stays_expect_word : {inside sees : Bool} {count : ℕ} {eaten : Unit {0} → Bool} (word : List ℕ) → Stays inside inside 0 sees eaten count (expect_word word) (expect_word word)
unfolding expect_word
stays_expect_word word = stays_found word (stays_pure tt) stays_refuse

pub stays_passing : {A : Type 0} {inside sees : Bool} {count : ℕ} {eaten : A → Bool} (x : A) → Stays inside inside 0 sees eaten count (passing x) (passing x)
stays_passing x = stays_first stays_pass_over (λ done. stays_pure x)

pub stays_passed : {inside sees : Bool} {count : ℕ} {eaten : Name → Bool} (text : List ℕ) → Stays inside inside 0 sees eaten count (passed text) (passed text)
unfolding passed
stays_passed text = stays_at line_ahead (λ line. passing (record { line = line; text = text })) line_sight (λ line. stays_passing (record { line = line; text = text }))

pub plain_sign : Unit {0}
plain_sign = tt

pub ruleset staying = (plain_sign, stays_pure, stays_then, stays_first, stays_if, stays_refuse, stays_faulty, stays_leave_out, stays_blamed_fault, stays_pass_over, stays_passing, stays_eat_sign, stays_eat_word, stays_found, stays_found_sign, stays_taken, stays_named, stays_expect_sign, stays_expect_word)

free_word_stays : {inside : Bool} {count : ℕ} {eaten : Name → Bool} (word : List ℕ) → Stays inside inside 0 true eaten count (free_word_by (Some word)) (free_word_by (Some word))
free_word_stays word = stays_if _ (stays_named word) (stays_passed word)

pub stays_free_word : {inside sees : Bool} {count : ℕ} {eaten : Name → Bool} → Stays inside inside 0 sees eaten count free_word free_word
unfolding free_word
stays_free_word = stays_by plain_ahead free_word_by plain_sight plain_shows stays_refuse free_word_stays

number_stays : {inside : Bool} {count : ℕ} {eaten : ℕ → Bool} (low high found : ℕ) → Stays inside inside 0 true eaten count (number_by low high (Some found)) (number_by low high (Some found))
number_stays low high found = search staying

pub stays_number_in : {inside sees : Bool} {count : ℕ} {eaten : ℕ → Bool} (low high : ℕ) → Stays inside inside 0 sees eaten count (number_in low high) (number_in low high)
unfolding number_in
stays_number_in low high = stays_by number_ahead (number_by low high) number_sight number_shows (stays_passing high) (number_stays low high)
