-- Each step keeps the rule of the word.
use Rattle.std.proofs.Common.{◌≡◌, ℕ, ◌+◌, ◌-◌, ◌%◌, ◌^◌, ◌<◌, ◌≤◌, List, [], ◌∷◌, ◌++◌, length, slice_index, slice_set, set, refl, ap, sym, subst, ◌∙◌, arith, ⊎_elim}
use Rattle.std.proofs.lemmas.Bool.Decides.{nat_tests}
use Rattle.std.specs.List.{All}
use Rattle.std.specs.List.Sorted.{IsStrictlyIncreasing}
use mathlib.Core.Option.{some, none, some-ne-none}
use lib.ListN.{get_elem?}
use Rattle.atomic_table.specs.Table.{State, Me, step, opening, Allows, Splits, Joins}
use Rattle.atomic_table.specs.Table.Act.{keeps}
use Rattle.atomic_table.proofs.Lists.{at_set, at_snoc, set_again}
use Rattle.pfr_claims.specs.declared.rule.Sizes.{Sizes}
use Rattle.pfr_claims.specs.declared.rule.SeatView.{SeatView}
use Rattle.pfr_claims.specs.Counting.{times, once_below}
use Rattle.pfr_claims.specs.Drawing.{knows, total, Fits, Drawn, drew, Draws, Closes, rest_of, pass_of, both, spent}
use Rattle.pfr_claims.proofs.Sums.{total_set, total_at, total_snoc, total_alone, times_append, all_below, once_more, rises_push}

-- ---- views, each under the rule

-- nothing rises
no_rise : IsStrictlyIncreasing []
no_rise k within = absurd (omega arith)

each_set : (P : SeatView → Type 0) (views : List SeatView) (id : ℕ) (w : SeatView) → P w → ((seat : ℕ) (view : SeatView) → get_elem? views seat ≡ some view → P view)
    → (seat : ℕ) (view : SeatView) → get_elem? (set views id w) seat ≡ some view → P view
each_set P views id w new each seat view at =
    ⊎_elim (λ h. subst P h.1 new) (λ h. each seat view h.1) (at_set views id seat w view at)

each_snoc : (P : SeatView → Type 0) (views : List SeatView) (w : SeatView) → P w → ((seat : ℕ) (view : SeatView) → get_elem? views seat ≡ some view → P view)
    → (seat : ℕ) (view : SeatView) → get_elem? (views ++ w ∷ []) seat ≡ some view → P view
each_snoc P views w new each seat view at =
    ⊎_elim (λ h. each seat view h) (λ h. subst P h new) (at_snoc views w view seat at)

fresh : (sizes : Sizes) (live : ℕ) → Fits sizes (knows sizes [] live 0)
fresh sizes live = record { sized = λ _. refl; none = λ _. refl; rises = λ _. no_rise }

-- ---- the one word

word_set : (words : List ℕ) (new : ℕ) → length words ≡ 1 → slice_index (slice_set words 0 new) 0 ≡ new
word_set [] new one = absurd (omega arith)
word_set (word ∷ words) new one = refl

words_same : (words : List ℕ) → length words ≡ 1 → slice_set words 0 (slice_index words 0) ≡ words
words_same [] one = absurd (omega arith)
words_same (word ∷ words) one = refl

length_set : (words : List ℕ) (new : ℕ) → length words ≡ 1 → length (slice_set words 0 new) ≡ 1
length_set [] new one = one
length_set (word ∷ words) new one = one

-- ---- a new table

pub opens : (sizes : Sizes) → sizes.count ≤ 4096 → sizes.workers ≤ 64 → Drawn sizes (opening (0 ∷ []) [] (knows sizes [] sizes.workers 0))
opens sizes few workers = record {
  one_word = refl;
  small = omega arith;
  once = λ number. omega arith;
  past = omega arith;
  whole = omega arith;
  each = each_snoc (Fits sizes) [] (knows sizes [] sizes.workers 0) (fresh sizes sizes.workers) (λ seat view at. absurd (some-ne-none view (sym at)));
}

-- ---- a number is drawn

-- the word does not wrap: it is past the count by the passes that ended, and the one that draws has not
no_wrap : (sizes : Sizes) (s : State (Unit {0}) SeatView) (id : ℕ) (drawn : List ℕ) → Drawn sizes s → get_elem? s.views id ≡ some (knows sizes drawn 1 0) → slice_index s.words 0 < sizes.count + sizes.workers
no_wrap sizes s id drawn h at =
    let live : 1 ≤ total (λ view. view.live) s.views = total_at (λ view. view.live) s.views id (knows sizes drawn 1 0) at in
    let whole = h.whole in let past = h.past in omega arith

draws : (sizes : Sizes) (id slots : ℕ) (drawn : List ℕ) → Allows (Drawn sizes) slots id (knows sizes drawn 1 0, []) 0 (λ n. (n + 1) % 2 ^ 64) (Draws (step slots 0 1 0 none) (knows sizes drawn 1 0, []))
draws sizes id slots drawn s h homes at fits =
    let v = knows sizes drawn 1 0 in
    let n : ℕ = slice_index s.words 0 in
    let w = drew n v in
    let below = no_wrap sizes s id drawn h at in
    let small = h.small in
    let next : (n + 1) % 2 ^ 64 ≡ n + 1 = omega arith in
    let word : slice_index (slice_set s.words 0 ((n + 1) % 2 ^ 64)) 0 ≡ n + 1 = word_set s.words ((n + 1) % 2 ^ 64) h.one_word ∙ next in
    let earlier : All (λ number. number < n) drawn =
    all_below drawn n (λ number. let o = h.once number in let t = total_at (λ view. times number view.drawn) s.views id v at in omega arith) in
    let rises : IsStrictlyIncreasing (drawn ++ n ∷ []) = rises_push drawn n ((h.each id v at).rises refl) earlier in
    let live = total_set (λ view. view.live) s.views id v w at in
    let ended = total_set (λ view. view.ended) s.views id v w at in
    let past = h.past in
    let whole = h.whole in (
      w,
      keeps,
      tt,
      record {
        one_word = length_set s.words ((n + 1) % 2 ^ 64) h.one_word;
        small = h.small;
        once = λ number.
            let o = h.once number in
            let t = total_set (λ view. times number view.drawn) s.views id v w at in
            rw word (omega (arith, times_append number drawn (n ∷ []), once_more number n));
        past = rw word (grind (arith, nat_tests));
        whole = grind (arith, nat_tests);
        each = each_set (Fits sizes) s.views id w (record { sized = λ _. refl; none = λ no. absurd (grind (arith, nat_tests)); rises = λ _. rises }) h.each;
      },
      (refl, earlier, rises),
    )

-- ---- the last look at the word

closes : (sizes : Sizes) (id slots : ℕ) (drawn : List ℕ) → 0 < sizes.workers → Allows (Drawn sizes) slots id (knows sizes drawn 0 sizes.workers, []) 0 (λ n. n) (Closes (step slots 0 0 0 none) (knows sizes drawn 0 sizes.workers, []))
closes sizes id slots drawn positive s h homes at fits =
    let v = knows sizes drawn 0 sizes.workers in
    let past = h.past in
    let whole = h.whole in
    let all : sizes.workers ≤ total (λ view. view.ended) s.views = total_at (λ view. view.ended) s.views id v at in
    let idle : (other : ℕ) (w : SeatView) → get_elem? s.views other ≡ some w → w.ended ≡ 0 → w.drawn ≡ [] =
    λ other w there none. let live = total_at (λ view. view.live) s.views other w there in (h.each other w there).none (omega arith) in
    let drew_all : (number : ℕ) → times number drawn ≡ once_below number (slice_index s.words 0) =
    λ number.
    let alone : total (λ view. times number view.drawn) s.views ≡ times number drawn =
    total_alone (λ view. view.ended) (λ view. times number view.drawn) s.views id v at (omega arith) (λ other w there none. ap (times number) (idle other w there none)) in
    sym alone ∙ h.once number in (
      v,
      keeps,
      tt,
      rw (words_same s.words h.one_word, set_again s.views id v at) h,
      (refl, omega arith, drew_all),
    )

-- ---- a pass is dealt

deals : (sizes : Sizes) (id live : ℕ) → 0 < live → Splits (Drawn sizes) id (knows sizes [] live 0) (rest_of (knows sizes [] live 0)) (pass_of (knows sizes [] live 0))
deals sizes id live positive s h at =
    let v = knows sizes [] live 0 in
    let rest = rest_of v in
    let pass = pass_of v in
    let sum : (of : SeatView → ℕ) → total of (set s.views id rest ++ pass ∷ []) + of v ≡ total of s.views + of rest + of pass =
    λ of. let t = total_set of s.views id v rest at in omega (arith, total_snoc of (set s.views id rest) pass) in
    let lives = sum (λ view. view.live) in
    let ends = sum (λ view. view.ended) in
    let past = h.past in
    let whole = h.whole in
    record {
      one_word = h.one_word;
      small = h.small;
      once = λ number. let o = h.once number in let t = sum (λ view. times number view.drawn) in omega arith;
      past = omega arith;
      whole = omega arith;
      each = each_snoc (Fits sizes) (set s.views id rest) pass (fresh sizes 1) (each_set (Fits sizes) s.views id rest (fresh sizes (live - 1)) h.each);
    }

-- ---- two passes are joined

nothing_fits : (sizes : Sizes) → Fits sizes spent
nothing_fits sizes = record { sized = λ no. absurd (omega arith); none = λ _. refl; rises = λ no. absurd (omega arith) }

collects : (sizes : Sizes) (id other ended : ℕ) (drawn drawn' : List ℕ) → 0 < ended
    → Joins (Drawn sizes) id (knows sizes drawn 0 ended) other (knows sizes drawn' 0 1) (both (knows sizes drawn 0 ended) (knows sizes drawn' 0 1)) spent
collects sizes id other ended drawn drawn' positive s h at apart at' =
    let v = knows sizes drawn 0 ended in
    let w = knows sizes drawn' 0 1 in
    let joint = both v w in
    let sum : (of : SeatView → ℕ) → total of (set (set s.views id joint) other spent) + of v + of w ≡ total of s.views + of joint + of spent =
    λ of. let t = total_set of s.views id v joint at in let u = total_set of (set s.views id joint) other w spent at' in omega arith in
    let lives = sum (λ view. view.live) in
    let ends = sum (λ view. view.ended) in
    let past = h.past in
    let whole = h.whole in
    record {
      one_word = h.one_word;
      small = h.small;
      once = λ number.
          let o = h.once number in
          let t = sum (λ view. times number view.drawn) in
          omega (arith, times_append number drawn drawn');
      past = omega arith;
      whole = omega arith;
      each =
          each_set (Fits sizes) (set s.views id joint) other spent (nothing_fits sizes)
          (each_set (Fits sizes) s.views id joint (record { sized = λ _. refl; none = λ no. absurd (omega arith); rises = λ no. absurd (omega arith) }) h.each);
    }

-- ---- each at an equation, which is how the code has it

pub draws_at : (key sizes : Sizes) (id slots : ℕ) (drawn : List ℕ) (me : Me (Unit {0}) SeatView) → key ≡ sizes → me ≡ (knows sizes drawn 1 0, [])
    → Allows (Drawn key) slots id me 0 (λ n. (n + 1) % 2 ^ 64) (Draws (step slots 0 1 0 none) me)
draws_at key sizes id slots drawn me same is =
    let P : Sizes × Me (Unit {0}) SeatView → Type 0 = λ p. Allows (Drawn p.0) slots id p.1 0 (λ n. (n + 1) % 2 ^ 64) (Draws (step slots 0 1 0 none) p.1) in
    subst P (λ i. (sym same i, sym is i)) (draws sizes id slots drawn)

pub closes_at : (key sizes : Sizes) (id slots ended : ℕ) (drawn : List ℕ) (me : Me (Unit {0}) SeatView) → 0 < ended → key ≡ sizes → ended ≡ sizes.workers → me ≡ (knows sizes drawn 0 ended, [])
    → Allows (Drawn key) slots id me 0 (λ n. n) (Closes (step slots 0 0 0 none) me)
closes_at key sizes id slots ended drawn me positive same all is =
    let P : Sizes × Me (Unit {0}) SeatView → Type 0 = λ p. Allows (Drawn p.0) slots id p.1 0 (λ n. n) (Closes (step slots 0 0 0 none) p.1) in
    let is' : me ≡ (knows sizes drawn 0 sizes.workers, []) = is ∙ ap (λ n. (knows sizes drawn 0 n, [])) all in
    subst P (λ i. (sym same i, sym is' i)) (closes sizes id slots drawn (omega arith))

pub deals_at : (key sizes : Sizes) (id live : ℕ) (v : SeatView) → 0 < live → key ≡ sizes → v ≡ knows sizes [] live 0 → Splits (Drawn key) id v (rest_of v) (pass_of v)
deals_at key sizes id live v positive same is =
    let P : Sizes × SeatView → Type 0 = λ p. Splits (Drawn p.0) id p.1 (rest_of p.1) (pass_of p.1) in
    subst P (λ i. (sym same i, sym is i)) (deals sizes id live positive)

pub collects_at : (key sizes : Sizes) (id other ended : ℕ) (drawn drawn' : List ℕ) (v w : SeatView) → 0 < ended → key ≡ sizes → v ≡ knows sizes drawn 0 ended → w ≡ knows sizes drawn' 0 1
    → Joins (Drawn key) id v other w (both v w) spent
collects_at key sizes id other ended drawn drawn' v w positive same is is' =
    let P : Sizes × SeatView × SeatView → Type 0 = λ p. Joins (Drawn p.0) id p.1 other p.2 (both p.1 p.2) spent in
    subst P (λ i. (sym same i, sym is i, sym is' i)) (collects sizes id other ended drawn drawn' positive)
