-- Lines that are written one after the other.
use Rattle.std.proofs.Common.{◌≡◌, ◌<◌, ℕ, ◌+◌, zero, suc, Bool, true, false, nat_lt, List, [], ◌∷◌, ◌++◌, length, Option, Some, None, refl, sym, ap, ◌∙◌, arith}
use Rattle.std.specs.List.{find, flat_map, list_all, range_with_len}
use Rattle.std.proofs.lemmas.Bool.{and_parts, le-ltb, ltb-true}
use Rattle.std.proofs.lemmas.Grind.{flat_map-append}
use Rattle.std.proofs.lemmas.List.{append_assoc, append-nil, length-append, length_push}
use Rattle.std.proofs.lemmas.List.Folds.{list_all-append}
use Rattle.pfr_ruleset.specs.declared.interface.Interface.{Interface}
use Rattle.pfr_track.specs.declared.state.State.{State}
use Rattle.pfr_states.specs.States.{after, are_above, first, rise}
use Rattle.pfr_commit.specs.declared.counters.RuleCounters.{RuleCounters}
use Rattle.pfr_commit.specs.Endings.{line_at}
use Rattle.pfr_commit.specs.Lines.{state_line}

-- one number more
range_last : (a n : ℕ) → range_with_len a (suc n) ≡ range_with_len a n ++ (a + n) ∷ []
range_last a zero = (let same : a ≡ a + zero = omega arith in ap (λ (b : ℕ). b ∷ []) same)
range_last a (suc n) =
    let next : a + 1 + n ≡ a + suc n = omega arith in
    ap (λ (ns : List ℕ). a ∷ ns) (range_last (a + 1) n ∙ ap (λ (b : ℕ). range_with_len (a + 1) n ++ b ∷ []) next)

pub range_more : (n : ℕ) → range_with_len 0 (n + 1) ≡ range_with_len 0 n ++ n ∷ []
range_more n = (let next : n + 1 ≡ suc n = omega arith in let last : 0 + n ≡ n = omega arith in ap (λ (m : ℕ). range_with_len 0 m) next ∙ range_last 0 n ∙ ap (λ (b : ℕ). range_with_len 0 n ++ b ∷ []) last)

pub lines_more : (kind : List ℕ) (counters : RuleCounters) (n : ℕ)
    → flat_map (line_at kind counters) (range_with_len 0 (n + 1)) ≡ flat_map (line_at kind counters) (range_with_len 0 n) ++ line_at kind counters n
lines_more kind counters n =
    ap (λ (ns : List ℕ). flat_map (line_at kind counters) ns) (range_more n)
    ∙ flat_map-append (line_at kind counters) (range_with_len 0 n) (n ∷ [])
    ∙ ap (λ (t : List ℕ). flat_map (line_at kind counters) (range_with_len 0 n) ++ t) (append-nil (line_at kind counters n))

-- ---- states by number

-- the first `count` of these states are written, and the next one follows them
pub record IsWritten (interfaces : List Interface) (states : List State) (count : ℕ) (next : Option State) (text : List ℕ) : Type 0 where
  pub written : List State
  pub rest : List State
  pub all : states ≡ written ++ rest
  pub counted : length written ≡ count
  pub next_is : next ≡ first rest
  pub text_is : text ≡ flat_map (state_line interfaces) written

pub none_written : (interfaces : List Interface) (states : List State) → IsWritten interfaces states 0 (first states) []
none_written interfaces states = record { written = []; rest = states; all = refl; counted = refl; next_is = refl; text_is = refl }

-- what holds of each of a list holds of one that is in it
each_does : (p : State → Bool) (xs : List State) (x : State) (ys : List State) → list_all p (xs ++ x ∷ ys) ≡ true → p x ≡ true
each_does p xs x ys all = (and_parts _ _ (and_parts _ _ (sym (list_all-append p xs (x ∷ ys)) ∙ all)).1).0

not_below : (a b : ℕ) → nat_lt b a ≡ true → nat_lt a b ≡ false
not_below a b less = le-ltb a b (let below = ltb-true b a less in omega arith)

first_above : (state : State) (rest : List State) → are_above state rest ≡ true → find (λ other. nat_lt state.number.0 other.number.0) rest ≡ first rest
first_above state [] above = refl
first_above state (x ∷ xs) above = (let less : nat_lt state.number.0 x.number.0 ≡ true = (and_parts _ _ above).0 in rw less refl)

after_next : (written : List State) (state : State) (rest : List State) → rise (written ++ state ∷ rest) ≡ true → after state.number (written ++ state ∷ rest) ≡ first rest
after_next [] state rest in_order =
    rw (le-ltb state.number.0 state.number.0 (omega arith)) (first_above state rest (and_parts _ _ in_order).0)
after_next (x ∷ xs) state rest in_order =
    let parts = and_parts _ _ in_order in
    rw (not_below state.number.0 x.number.0 (each_does (λ other. nat_lt x.number.0 other.number.0) xs state rest parts.0)) (after_next xs state rest parts.1)

written_more : (interfaces : List Interface) (states written rest : List State) (count : ℕ) (state : State) (text : List ℕ) → rise states ≡ true → states ≡ written ++ rest → length written ≡ count → Some state ≡ first rest → text ≡ flat_map (state_line interfaces) written
    → IsWritten interfaces states (count + 1) (after state.number states) (text ++ state_line interfaces state)
written_more interfaces states written [] count state text in_order all counted next_is text_is = absurd (cc next_is)
written_more interfaces states written (x ∷ xs) count state text in_order all counted next_is text_is =
    let same : state ≡ x = cc next_is in
    record {
      written = written ++ state ∷ [];
      rest = xs;
      all = all ∙ (rw (← same) (sym (append_assoc written (state ∷ []) xs)));
      counted = length_push written state ∙ ap (λ (n : ℕ). n + 1) counted;
      next_is = rw all (rw (← same) (after_next written state xs (rw (all, ← same) at in_order)));
      text_is = rw text_is (sym (flat_map-append (state_line interfaces) written (state ∷ []) ∙ ap (λ (t : List ℕ). flat_map (state_line interfaces) written ++ t) (append-nil (state_line interfaces state))));
    }

pub next_written : (interfaces : List Interface) (states : List State) (count : ℕ) (next : Option State) (state : State) (text : List ℕ) → rise states ≡ true → IsWritten interfaces states count next text → next ≡ Some state
    → IsWritten interfaces states (count + 1) (after state.number states) (text ++ state_line interfaces state)
next_written interfaces states count next state text in_order w is =
    written_more interfaces states w.written w.rest count state text in_order w.all w.counted (sym is ∙ w.next_is) w.text_is

-- as long as fewer are written than there are, there is a next one
pub one_is_next : (interfaces : List Interface) (states : List State) (count : ℕ) (text : List ℕ) → count < length states → IsWritten interfaces states count None text → ⊥
one_is_next interfaces states count text less w = no_rest states w.written w.rest count less w.all w.counted w.next_is
  where
    no_rest : (states written rest : List State) (count : ℕ) → count < length states → states ≡ written ++ rest → length written ≡ count → None ≡ first rest → ⊥
    no_rest states written [] count less all counted none = (let long : length states ≡ length written = ap (λ (xs : List State). length xs) (all ∙ append-nil written) in omega arith)
    no_rest states written (x ∷ xs) count less all counted none = cc none

-- once as many are written as there are, all are
pub all_written : (interfaces : List Interface) (states : List State) (next : Option State) (text : List ℕ) → IsWritten interfaces states (length states) next text → text ≡ flat_map (state_line interfaces) states
all_written interfaces states next text w = w.text_is ∙ ap (λ (xs : List State). flat_map (state_line interfaces) xs) (no_more states w.written w.rest w.all w.counted)
  where
    no_more : (states written rest : List State) → states ≡ written ++ rest → length written ≡ length states → written ≡ states
    no_more states written [] all counted = sym (all ∙ append-nil written)
    no_more states written (x ∷ xs) all counted = (let long : length states ≡ length written + suc (length xs) = ap (λ (xs : List State). length xs) all ∙ length-append written (x ∷ xs) in absurd (omega arith))
