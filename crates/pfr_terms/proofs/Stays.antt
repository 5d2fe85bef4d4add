-- Readers that read the same if lines stand behind what they read.
use Rattle.std.proofs.Common.{◌≡◌, ◌≤◌, ◌<◌, ◌+◌, ◌-◌, ℕ, zero, suc, Bool, true, false, if◌then◌else◌, List, [], ◌∷◌, ◌++◌, length, Option, Some, None, Ok, Err, refl, sym, ap, subst, ◌∙◌, length-append, arith}
use Rattle.pfr_words.specs.declared.sign.Sign.{Sign}
use Rattle.pfr_words.specs.declared.sign.Sign.TheVariants as s
use Rattle.pfr_words.specs.declared.word.Token.TheVariants as t
use Rattle.pfr_words.specs.declared.word.Word.{Word}
use Rattle.pfr_words.specs.Words.{closers}
use Rattle.pfr_terms.specs.declared.error.ConfError.{ConfError}
use Rattle.pfr_terms.specs.declared.error.ConfErrorKind.{ConfErrorKind}
use Rattle.pfr_terms.specs.declared.name.Name.{Name}
use Rattle.pfr_terms.specs.Input.{plain_ahead, sees_word, sees_sign, line_ahead, refusal, fault, left_out, refuse, faulty, leave_out, blame, blamed, pass_over_by, pass_over, turns, loop_from, loop, eat_sign, eat_word, taken, named, Input, Outcome, Parser, and_then, ◌>>=◌, pure, next}
use Rattle.pfr_terms.proofs.Closers.{longer, mode, Closed, Fine, Starts, Sees, Fewer, After, Follows, Stays, inner_counts, Plain, Moves, past, past_moves}
use Rattle.pfr_terms.proofs.Sights.{Sight, Shows, word_test, word_sight, sign_test, sees_sight, line_sight, refusal_sight, fault_sight, left_out_sight}

-- ---- ways in which readers are put together

fewer_then : (strictly : Bool) (k j n : ℕ) → Fewer strictly k j → j ≤ n → Fewer strictly k n
fewer_then true k j n fewer below = omega (arith, fewer, below)
fewer_then false k j n fewer below = omega (arith, fewer, below)

pub fewer_first : (strictly : Bool) (k j n : ℕ) → k ≤ j → j < n → Fewer strictly k n
fewer_first true k j n below fewer = omega (arith, fewer, below)
fewer_first false k j n below fewer = omega (arith, fewer, below)

fewer_any : (strictly : Bool) (k n : ℕ) → Fewer strictly k n → k ≤ n
fewer_any true k n fewer = omega (arith, fewer)
fewer_any false k n fewer = fewer

weaker : {A : Type 0} (line : ℕ) (ys : List Word) (to : Bool) (closing : ℕ) (eaten other_eaten : A → Bool) (all other_all n m : ℕ) (x y : Outcome A)
    → Follows line ys to closing eaten all n x y → all ≡ other_all → ((a : A) (k : ℕ) → Fewer (eaten a) k n → Fewer (other_eaten a) k m)
    → Follows line ys to closing other_eaten other_all m x y
weaker line ys to closing eaten other_eaten all other_all n m (Ok r) y after e less = record {
  same = after.same;
  fine = after.fine;
  braces = after.braces ∙ e;
  fewer = less r.0 (length r.1.words) after.fewer;
}
weaker line ys to closing eaten other_eaten all other_all n m (Err f) y same e less = same

follows_then : {A B : Type 0} (line : ℕ) (ys : List Word) (before to : Bool) (closing : ℕ) (first : A → Bool) (second : A → B → Bool) (eaten : B → Bool) (all n : ℕ) (bound : A → ℕ) (x y : Outcome A) (f g : A → Parser B)
    → Follows line ys before 0 first all n x y
    → ((a : A) → Stays before to closing false (second a) (bound a) (f a) (g a))
    → ((a : A) (j : ℕ) → Fewer (first a) j n → j < bound a)
    → ((a : A) (b : B) (k j : ℕ) → Fewer (first a) j n → Fewer (second a b) k j → Fewer (eaten b) k n)
    → closing ≤ all
    → Follows line ys to closing eaten all n (and_then x f) (and_then y g)
follows_then line ys before to closing first second eaten all n bound (Ok r) y f g after stays below less some =
    let more = (stays r.0).from line ys r.1 after.fine (let same = after.braces in omega (arith, same, some)) tt (below r.0 _ after.fewer) in
    let moved = weaker line ys to closing (second r.0) eaten (closers r.1.words) all (length r.1.words) n (f r.0 r.1) (g r.0 (longer line ys r.1)) more (let same = after.braces in omega (arith, same)) (λ b k fewer. less r.0 b k _ after.fewer fewer) in
    rw after.same moved
follows_then line ys before to closing first second eaten all n bound (Err e) y f g same stays below less some = rw same refl

pub stays_bind : {A B : Type 0} {before to sees : Bool} {closing : ℕ} (first : A → Bool) (second : A → B → Bool) {eaten : B → Bool} {count : ℕ} (bound : A → ℕ) {p q : Parser A} {f g : A → Parser B}
    → Stays before before 0 sees first count p q
    → ((a : A) → Stays before to closing false (second a) (bound a) (f a) (g a))
    → ((a : A) (j n : ℕ) → Fewer (first a) j n → n < count → j < bound a)
    → ((a : A) (b : B) (k j n : ℕ) → Fewer (first a) j n → Fewer (second a b) k j → Fewer (eaten b) k n)
    → Stays before to closing sees eaten count (p >>= f) (q >>= g)
stays_bind {before = before} {to = to} {closing = closing} first second {eaten = eaten} bound {p = p} {q = q} {f = f} {g = g} some more below less = record {
  from = λ line ys i fine braces sees within.
      follows_then line ys before to closing first second eaten (closers i.words) (length i.words) bound (p i) (q (longer line ys i)) f g
      (some.from line ys i fine (omega arith) sees within) more (λ a j fewer. below a j _ fewer within) (λ a b k j. less a b k j _) braces;
}

pub stays_then : {A B : Type 0} {before to sees : Bool} {closing : ℕ} {eaten : B → Bool} {count : ℕ} {p q : Parser A} {f g : A → Parser B}
    → Stays before before 0 sees (λ a. false) count p q → ((a : A) → Stays before to closing false eaten count (f a) (g a))
    → Stays before to closing sees eaten count (p >>= f) (q >>= g)
stays_then {eaten = eaten} {count = count} first more = stays_bind (λ a. false) (λ a. eaten) (λ a. count) first more (λ a j n fewer below. omega (arith, fewer, below)) (λ a b k j n fewer then_fewer. fewer_then (eaten b) k j n then_fewer fewer)

-- behind what takes a word all is fewer words
pub stays_first : {A B : Type 0} {before to sees : Bool} {closing : ℕ} {eaten : B → Bool} {count : ℕ} {p q : Parser A} {f g : A → Parser B}
    → Stays before before 0 sees (λ a. true) count p q → ((a : A) → Stays before to closing false (λ b. false) count (f a) (g a))
    → Stays before to closing sees eaten count (p >>= f) (q >>= g)
stays_first {eaten = eaten} {count = count} first more = stays_bind (λ a. true) (λ a b. false) (λ a. count) first more (λ a j n fewer below. omega (arith, fewer, below)) (λ a b k j n fewer then_fewer. fewer_first (eaten b) k j n then_fewer fewer)

pub stays_turn : {A B : Type 0} {before to sees : Bool} {closing : ℕ} {eaten : B → Bool} {count : ℕ} {p q : Parser A} {f g : A → Parser B}
    → Stays before before 0 sees (λ a. true) (suc count) p q → ((a : A) → Stays before to closing false (λ b. false) count (f a) (g a))
    → Stays before to closing sees eaten (suc count) (p >>= f) (q >>= g)
stays_turn {eaten = eaten} {count = count} first more = stays_bind (λ a. true) (λ a b. false) (λ a. count) first more (λ a j n fewer below. omega (arith, fewer, below)) (λ a b k j n fewer then_fewer. fewer_first (eaten b) k j n then_fewer fewer)

-- behind a test of whether it takes a word
either_count : (taken : Bool) (count j n : ℕ) → Fewer taken j n → n < suc count → j < (if taken then count else suc count)
either_count true count j n fewer below = omega (arith, fewer, below)
either_count false count j n fewer below = omega (arith, fewer, below)

either_fewer : (taken eaten : Bool) (k j n : ℕ) → Fewer taken j n → Fewer (if taken then false else eaten) k j → Fewer eaten k n
either_fewer true eaten k j n fewer more = fewer_first eaten k j n more fewer
either_fewer false eaten k j n fewer more = fewer_then eaten k j n more fewer

pub stays_by_test : {A B : Type 0} {before to sees : Bool} {closing : ℕ} (taken : A → Bool) {eaten : B → Bool} {count : ℕ} {p q : Parser A} {f g : A → Parser B}
    → Stays before before 0 sees taken (suc count) p q → ((a : A) → Stays before to closing false (λ b. if taken a then false else eaten b) (if taken a then count else suc count) (f a) (g a))
    → Stays before to closing sees eaten (suc count) (p >>= f) (q >>= g)
stays_by_test taken {eaten = eaten} {count = count} first more = stays_bind taken (λ a b. if taken a then false else eaten b) (λ a. if taken a then count else suc count) first more
    (λ a j n fewer below. either_count (taken a) count j n fewer below) (λ a b k j n fewer then_fewer. either_fewer (taken a) (eaten b) k j n fewer then_fewer)

same_count : (taken : Bool) (count j n : ℕ) → Fewer taken j n → n < count → j < count
same_count taken count j n fewer below = let any = fewer_any taken j n fewer in omega (arith, any, below)

pub stays_by_test_so : {A B : Type 0} {before to sees : Bool} {closing : ℕ} (taken : A → Bool) {eaten : B → Bool} {count : ℕ} {p q : Parser A} {f g : A → Parser B}
    → Stays before before 0 sees taken count p q → ((a : A) → Stays before to closing false (λ b. if taken a then false else eaten b) count (f a) (g a))
    → Stays before to closing sees eaten count (p >>= f) (q >>= g)
stays_by_test_so taken {eaten = eaten} {count = count} first more = stays_bind taken (λ a b. if taken a then false else eaten b) (λ a. count) first more
    (λ a j n fewer below. same_count (taken a) count j n fewer below) (λ a b k j n fewer then_fewer. either_fewer (taken a) (eaten b) k j n fewer then_fewer)

pub stays_pure_told : {A : Type 0} {inside sees : Bool} {count : ℕ} {eaten : A → Bool} (a : A) → eaten a ≡ false → Stays inside inside 0 sees eaten count (pure a) (pure a)
stays_pure_told {eaten = eaten} a none = record {
  from = λ line ys i fine braces sees within. record {
    same = refl;
    fine = fine;
    braces = omega arith;
    fewer = subst (λ (strictly : Bool). Fewer strictly (length i.words) (length i.words)) (sym none) (omega arith);
  };
}

pub stays_pure : {A : Type 0} {inside sees : Bool} {count : ℕ} (a : A) → Stays inside inside 0 sees (λ (b : A). false) count (pure a) (pure a)
stays_pure a = stays_pure_told a refl

pub stays_if : {A : Type 0} {before to sees : Bool} {closing count : ℕ} {eaten : A → Bool} {p q p' q' : Parser A} (b : Bool) → Stays before to closing sees eaten count p p' → Stays before to closing sees eaten count q q' → Stays before to closing sees eaten count (if b then p else q) (if b then p' else q')
stays_if true first second = first
stays_if false first second = second

-- ---- by what is ahead

by_follows : {A X : Type 0} {before to sees : Bool} {closing count : ℕ} {eaten : A → Bool} (ahead : Input → Option X) (by : Option X → Parser A) (line : ℕ) (ys : List Word) (i : Input) (found : Option X)
    → Shows ahead → ahead i ≡ found → Stays before to closing sees eaten count (by None) (by None) → ((x : X) → Stays before to closing true eaten count (by (Some x)) (by (Some x)))
    → Fine before i → closing ≤ closers i.words → Sees sees i → length i.words < count
    → Follows line ys to closing eaten (closers i.words) (length i.words) (by found i) (by found (longer line ys i))
by_follows ahead by line ys i None shows e none some fine braces sees within = none.from line ys i fine braces sees within
by_follows ahead by line ys i (Some x) shows e none some fine braces sees within = (some x).from line ys i fine braces (shows.starts i x e) within

pub stays_by : {A X : Type 0} {before to sees : Bool} {closing count : ℕ} {eaten : A → Bool} (ahead : Input → Option X) (by : Option X → Parser A)
    → Sight ahead → Shows ahead → Stays before to closing sees eaten count (by None) (by None) → ((x : X) → Stays before to closing true eaten count (by (Some x)) (by (Some x)))
    → Stays before to closing sees eaten count (λ i. by (ahead i) i) (λ i. by (ahead i) i)
stays_by ahead by sight shows none some = record { from = λ line ys i fine braces sees within. rw (sight.alike line ys i) (by_follows ahead by line ys i (ahead i) shows refl none some fine braces sees within) }

-- by what is ahead, a word or none
pub stays_at : {A X : Type 0} {before to sees : Bool} {closing count : ℕ} {eaten : A → Bool} (ahead : Input → X) (by : X → Parser A)
    → Sight ahead → ((x : X) → Stays before to closing sees eaten count (by x) (by x))
    → Stays before to closing sees eaten count (λ i. by (ahead i) i) (λ i. by (ahead i) i)
stays_at ahead by sight stays = record { from = λ line ys i fine braces sees within. rw (sight.alike line ys i) ((stays (ahead i)).from line ys i fine braces sees within) }

pub either_follows : {A : Type 0} {before to sees : Bool} {closing count : ℕ} {eaten : A → Bool} {p p' q q' : Parser A} (b : Bool) (line : ℕ) (ys : List Word) (i : Input)
    → Stays before to closing sees eaten count p p' → Stays before to closing sees eaten count q q'
    → Fine before i → closing ≤ closers i.words → Sees sees i → length i.words < count
    → Follows line ys to closing eaten (closers i.words) (length i.words) (if b then p i else q i) (if b then p' (longer line ys i) else q' (longer line ys i))
either_follows true line ys i first second = first.from line ys i
either_follows false line ys i first second = second.from line ys i

pub stays_test : {A : Type 0} {before to sees : Bool} {closing count : ℕ} {eaten : A → Bool} {p p' q q' : Parser A} (test : Input → Bool)
    → Sight test → Stays before to closing sees eaten count p p' → Stays before to closing sees eaten count q q'
    → Stays before to closing sees eaten count (λ i. if test i then p i else q i) (λ i. if test i then p' i else q' i)
stays_test test sight first second = record { from = λ line ys i fine braces sees within. rw (sight.alike line ys i) (either_follows (test i) line ys i first second fine braces sees within) }

-- ---- faults

pub stays_fault : {A : Type 0} {before to sees : Bool} {closing count : ℕ} {eaten : A → Bool} (f : Input → ConfError) → Sight f → Stays {A = A} before to closing sees eaten count (λ i. Err (f i)) (λ i. Err (f i))
stays_fault f sight = record { from = λ line ys i fine braces sees within. ap Err (sight.alike line ys i) }

pub stays_refuse : {A : Type 0} {before to sees : Bool} {closing count : ℕ} {eaten : A → Bool} → Stays {A = A} before to closing sees eaten count refuse refuse
stays_refuse = stays_fault refusal refusal_sight

pub stays_faulty : {A : Type 0} {before to sees : Bool} {closing count : ℕ} {eaten : A → Bool} (kind : ConfErrorKind) → Stays {A = A} before to closing sees eaten count (faulty kind) (faulty kind)
stays_faulty kind = stays_fault (fault kind) (fault_sight kind)

pub stays_leave_out : {A : Type 0} {before to sees : Bool} {closing count : ℕ} {eaten : A → Bool} (name : List ℕ) → Stays {A = A} before to closing sees eaten count (leave_out name) (leave_out name)
stays_leave_out name = stays_fault (left_out name) (left_out_sight name)

follows_err : {A : Type 0} (line : ℕ) (ys : List Word) (to : Bool) (closing : ℕ) (eaten : A → Bool) (all count : ℕ) (x y : Outcome A) (e : ConfError) → x ≡ Err e → y ≡ Err e → Follows line ys to closing eaten all count x y
follows_err line ys to closing eaten all count x y e is other = rw is other

blame_fails : (e : ConfError) (i : Input) → mode i ≡ (false, None) → blame e i ≡ Err e
unfolding blame
blame_fails e i ends = rw (ap (λ (m : Bool × Option ConfError). m.0) ends) refl

pub stays_blamed : {before to sees : Bool} {closing count : ℕ} {eaten : Unit {0} → Bool} (f : Input → ConfError) → Sight f → Stays before to closing sees eaten count (blamed f) (blamed f)
stays_blamed {to = to} {closing = closing} {eaten = eaten} f sight = record {
  from = λ line ys i fine braces sees within.
      follows_err line ys to closing eaten _ _ _ _ (f i) (blame_fails (f i) i fine.ends) (blame_fails (f (longer line ys i)) (longer line ys i) fine.ends ∙ ap Err (sight.alike line ys i));
}

pub stays_blamed_fault : {before to sees : Bool} {closing count : ℕ} {eaten : Unit {0} → Bool} (kind : ConfErrorKind) → Stays before to closing sees eaten count (blamed (fault kind)) (blamed (fault kind))
stays_blamed_fault kind = stays_blamed (fault kind) (fault_sight kind)

pass_over_fails_by : (found : Option (List ℕ)) (i : Input) → mode i ≡ (false, None) → pass_over_by found i ≡ Err (refusal i)
pass_over_fails_by None i ends = refl
pass_over_fails_by (Some word) i ends = rw (ap (λ (m : Bool × Option ConfError). m.0) ends) refl

pass_over_fails : (i : Input) → mode i ≡ (false, None) → pass_over i ≡ Err (refusal i)
unfolding pass_over
pass_over_fails i ends = pass_over_fails_by (plain_ahead i) i ends

pub stays_pass_over : {before to sees : Bool} {closing count : ℕ} {eaten : Unit {0} → Bool} → Stays before to closing sees eaten count pass_over pass_over
stays_pass_over {to = to} {closing = closing} {eaten = eaten} = record {
  from = λ line ys i fine braces sees within.
      follows_err line ys to closing eaten _ _ _ _ (refusal i) (pass_over_fails i fine.ends) (pass_over_fails (longer line ys i) fine.ends ∙ ap Err (refusal_sight.alike line ys i));
}

-- ---- single words

pub recounted : (line : ℕ) (ys : List Word) (all other_all count : ℕ) (i j other : Input) → all ≡ other_all → Moves line ys all count i j other → Moves line ys other_all count i j other
recounted line ys all other_all count i j other e m = record { same = m.same; closed = m.closed; in_list = m.in_list; gathers = m.gathers; braces = m.braces ∙ e; fewer = m.fewer }

next_at : (line : ℕ) (ys ws : List Word) (i : Input) → Closed ws → Starts ws → (i.in_list ≡ true → 1 ≤ closers ws)
    → Moves line ys (closers ws) (length ws) i (past i.in_list ws i) (past i.in_list (ws ++ record { line = line; token = t.LineEnd } ∷ ys) (longer line ys i))
next_at line ys [] i closed starts some = absurd starts
next_at line ys (w ∷ ws) i closed starts some =
    let counts = inner_counts w.token (closers ws) starts in
    recounted line ys _ _ _ i _ _ (sym counts) (past_moves line ys i.in_list w ws i closed.1 (λ e. let behind = some e in omega (arith, behind, counts)))

pub next_moves : {inside : Bool} (line : ℕ) (ys : List Word) (i : Input) → Fine inside i → Starts i.words → Moves line ys (closers i.words) (length i.words) i (next i) (next (longer line ys i))
unfolding next
next_moves line ys i fine starts = next_at line ys i.words i fine.closed starts (λ e. fine.inside (sym fine.in_list ∙ e))

-- past a word that is no brace
pub past_word : {A : Type 0} {inside : Bool} (line : ℕ) (ys : List Word) (eaten : A → Bool) (a : A) (i j other : Input) → Fine inside i → Moves line ys (closers i.words) (length i.words) i j other
    → After line ys inside 0 eaten (closers i.words) (length i.words) (a, j) (Ok (a, other))
past_word line ys eaten a i j other fine m = record {
  same = ap (λ k. Ok (a, k)) m.same;
  fine = record {
    closed = m.closed;
    in_list = m.in_list ∙ fine.in_list;
    inside = λ e. let some = fine.inside e in let braces = m.braces in omega (arith, braces, some);
    ends = m.gathers ∙ fine.ends;
  };
  braces = let braces = m.braces in omega (arith, braces);
  fewer = fewer_first (eaten a) (length j.words) (length j.words) (length i.words) (omega arith) m.fewer;
}

pub stays_taken : {inside : Bool} {count : ℕ} {eaten : Unit {0} → Bool} → Stays inside inside 0 true eaten count taken taken
stays_taken {eaten = eaten} = record { from = λ line ys i fine braces sees within. past_word line ys eaten tt i _ _ fine (next_moves line ys i fine sees) }

pub stays_named : {inside : Bool} {count : ℕ} {eaten : Name → Bool} (text : List ℕ) → Stays inside inside 0 true eaten count (named text) (named text)
unfolding named
stays_named {eaten = eaten} text = record {
  from = λ line ys i fine braces sees within.
      rw (line_sight.alike line ys i) (past_word line ys eaten (record { line = line_ahead i; text = text }) i _ _ fine (next_moves line ys i fine sees));
}

eat_follows : {inside : Bool} (line : ℕ) (ys : List Word) (i : Input) (found : Bool) → Fine inside i → (found ≡ true → Starts i.words)
    → Follows line ys inside 0 (λ (b : Bool). b) (closers i.words) (length i.words) (Ok (found, if found then next i else i)) (Ok (found, if found then next (longer line ys i) else longer line ys i))
eat_follows line ys i true fine starts = past_word line ys (λ b. b) true i _ _ fine (next_moves line ys i fine (starts refl))
eat_follows line ys i false fine starts = record { same = refl; fine = fine; braces = omega arith; fewer = omega arith }

pub stays_eat_sign_so : {inside sees : Bool} {count : ℕ} (sign : Sign) → Plain sign → Stays inside inside 0 sees (λ (found : Bool). found) count (eat_sign sign) (eat_sign sign)
unfolding eat_sign
stays_eat_sign_so sign plain = record { from = λ line ys i fine braces sees within. rw ((sees_sight sign).alike line ys i) (eat_follows line ys i (sees_sign sign i) fine ((sign_test sign plain).starts i)) }

pub stays_eat_word_so : {inside sees : Bool} {count : ℕ} (word : List ℕ) → Stays inside inside 0 sees (λ (found : Bool). found) count (eat_word word) (eat_word word)
unfolding eat_word
stays_eat_word_so word = record { from = λ line ys i fine braces sees within. rw ((word_sight word).alike line ys i) (eat_follows line ys i (sees_word word i) fine ((word_test word).starts i)) }

pub stays_any : {A : Type 0} {before to sees : Bool} {closing count : ℕ} (eaten : A → Bool) {p q : Parser A} → Stays before to closing sees eaten count p q → Stays before to closing sees (λ a. false) count p q
stays_any {to = to} {closing = closing} eaten {p = p} {q = q} stays = record {
  from = λ line ys i fine braces sees within.
      weaker line ys to closing eaten (λ a. false) _ _ _ _ (p i) (q (longer line ys i)) (stays.from line ys i fine braces sees within) refl (λ a k. fewer_any (eaten a) k _);
}

pub stays_blind : {A : Type 0} {before to sees : Bool} {closing count : ℕ} {eaten : A → Bool} {p q : Parser A} → Stays before to closing false eaten count p q → Stays before to closing sees eaten count p q
stays_blind stays = record { from = λ line ys i fine braces sees within. stays.from line ys i fine braces tt within }

pub stays_eat_sign : {inside sees : Bool} {count : ℕ} (sign : Sign) → Plain sign → Stays inside inside 0 sees (λ (found : Bool). false) count (eat_sign sign) (eat_sign sign)
stays_eat_sign sign plain = stays_any (λ found. found) (stays_eat_sign_so sign plain)

pub stays_eat_word : {inside sees : Bool} {count : ℕ} (word : List ℕ) → Stays inside inside 0 sees (λ (found : Bool). false) count (eat_word word) (eat_word word)
stays_eat_word word = stays_any (λ found. found) (stays_eat_word_so word)

either_found : {B : Type 0} {before to : Bool} {closing count : ℕ} {eaten : B → Bool} {p p' q q' : Parser B}
    → Stays before to closing false (λ b. false) count p p' → Stays before to closing false eaten count q q'
    → (found : Bool) → Stays before to closing false (λ b. if found then false else eaten b) count (if found then p else q) (if found then p' else q')
either_found one other true = one
either_found one other false = other

-- if a word was found, fewer are left
pub stays_found : {B : Type 0} {before to sees : Bool} {closing count : ℕ} {eaten : B → Bool} {p p' q q' : Parser B} (word : List ℕ)
    → Stays before to closing false (λ b. false) count p p' → Stays before to closing false eaten count q q'
    → Stays before to closing sees eaten count (eat_word word >>= (λ found. if found then p else q)) (eat_word word >>= (λ found. if found then p' else q'))
stays_found word one other = stays_by_test_so (λ found. found) (stays_eat_word_so word) (either_found one other)

pub stays_found_sign : {B : Type 0} {before to sees : Bool} {closing count : ℕ} {eaten : B → Bool} {p p' q q' : Parser B} (sign : Sign) → Plain sign
    → Stays before to closing false (λ b. false) count p p' → Stays before to closing false eaten count q q'
    → Stays before to closing sees eaten count (eat_sign sign >>= (λ found. if found then p else q)) (eat_sign sign >>= (λ found. if found then p' else q'))
stays_found_sign sign plain one other = stays_by_test_so (λ found. found) (stays_eat_sign_so sign plain) (either_found one other)

-- ---- turns

loop_from_stays : {S A : Type 0} {before to : Bool} {closing : ℕ} (turn : (S → Parser A) → S → Parser A)
    → ((count : ℕ) (more other : S → Parser A) → ((s : S) → Stays before to closing false (λ a. false) count (more s) (other s)) → (s : S) → Stays before to closing false (λ a. false) (suc count) (turn more s) (turn other s))
    → (count m n : ℕ) → count ≤ m → count ≤ n → (s : S) → Stays before to closing false (λ a. false) count (loop_from turn m s) (loop_from turn n s)
unfolding loop_from
loop_from_stays turn each zero m n below within s = record { from = λ line ys i fine braces sees fewer. absurd (omega (arith, fewer)) }
loop_from_stays turn each (suc count) zero n below within s = absurd (omega arith)
loop_from_stays turn each (suc count) (suc m) zero below within s = absurd (omega arith)
loop_from_stays turn each (suc count) (suc m) (suc n) below within s = each count (loop_from turn m) (loop_from turn n) (loop_from_stays turn each count m n (omega arith) (omega arith)) s

more_turns : (line : ℕ) (ys : List Word) (i : Input) → suc (length i.words) ≤ turns (longer line ys i)
more_turns line ys i = let all = length-append i.words (record { line = line; token = t.LineEnd } ∷ ys) in omega (arith, all)

pub stays_loop : {S A : Type 0} {before to sees : Bool} {closing count : ℕ} (turn : (S → Parser A) → S → Parser A) (s : S)
    → ((count : ℕ) (more other : S → Parser A) → ((s : S) → Stays before to closing false (λ a. false) count (more s) (other s)) → (s : S) → Stays before to closing false (λ a. false) (suc count) (turn more s) (turn other s))
    → Stays before to closing sees (λ a. false) count (loop turn s) (loop turn s)
stays_loop turn s each = record {
  from = λ line ys i fine braces sees within.
      (loop_from_stays turn each (suc (length i.words)) (turns i) (turns (longer line ys i)) (omega arith) (more_turns line ys i) s).from line ys i fine braces tt (omega arith);
}
