-- The rule of the word that a batch's passes draw from, and what each step tells.
use Rattle.std.specs.Prelude.{◌≡◌, ℕ, ◌+◌, ◌-◌, ◌<◌, ◌^◌, nat_lt, if◌then◌else◌, List, [], ◌∷◌, ◌++◌, length, slice_index}
use Rattle.std.specs.List.{All}
use Rattle.std.specs.List.Sorted.{IsStrictlyIncreasing}
use mathlib.Core.Option.{some}
use lib.ListN.{get_elem?}
use Rattle.atomic_table.specs.Table.{State, Me, Step}
use Rattle.pfr_claims.specs.declared.rule.Sizes.{Sizes}
use Rattle.pfr_claims.specs.declared.rule.SeatView.{SeatView}
use Rattle.pfr_claims.specs.Counting.{times, once_below}

-- what a seat knows: the sizes of the batch, the numbers that were drawn with it, and how many live and ended passes it stands for
abbrev pub knows : Sizes → List ℕ → ℕ → ℕ → SeatView
knows sizes drawn live ended = record { sizes = sizes; drawn = drawn; live = live; ended = ended }

-- ---- the rule

-- something of each view, added up
abbrev pub total : (SeatView → ℕ) → List SeatView → ℕ
total of [] = 0
total of (view ∷ views) = of view + total of views

-- one view under the rule; what a joined pass leaves behind stands for no pass
pub record Fits (sizes : Sizes) (view : SeatView) : Type 0 where
  pub sized : 0 < view.live + view.ended → view.sizes ≡ sizes
  pub none : view.live + view.ended ≡ 0 → view.drawn ≡ []
  pub rises : view.live + view.ended ≡ 1 → IsStrictlyIncreasing view.drawn

-- what all passes drew is the numbers below the word, each once, and the word is past the count by the passes that ended
pub record Drawn (sizes : Sizes) (state : State (Unit {0}) SeatView) : Type 0 where
  pub one_word : length state.words ≡ 1
  pub small : sizes.count + sizes.workers < 2 ^ 63
  pub once : (number : ℕ) → total (λ view. times number view.drawn) state.views ≡ once_below number (slice_index state.words 0)
  pub past : total (λ view. view.ended) state.views ≡ slice_index state.words 0 - sizes.count
  pub whole : total (λ view. view.live) state.views + total (λ view. view.ended) state.views ≡ sizes.workers
  pub each : (seat : ℕ) (view : SeatView) → get_elem? state.views seat ≡ some view → Fits sizes view

-- ---- the steps

-- a live pass draws a number, and ends if that is at or above the count
abbrev pub drew : ℕ → SeatView → SeatView
drew number view =
    knows view.sizes (view.drawn ++ number ∷ []) (if nat_lt number view.sizes.count then 1 else 0) (if nat_lt number view.sizes.count then 0 else 1)

-- the number found in the word is drawn, and it is above all that the pass drew before
abbrev pub Draws : Step (Unit {0}) → Me (Unit {0}) SeatView → ℕ → Me (Unit {0}) SeatView → Type 0
Draws step before number after =
    (after ≡ (drew number before.0, before.1)) × All (λ earlier. earlier < number) before.0.drawn × IsStrictlyIncreasing (before.0.drawn ++ number ∷ [])

-- a seat that stands for all passes, each ended, finds the word past the count by the number of passes, and has drawn
-- each number below the word once
abbrev pub Closes : Step (Unit {0}) → Me (Unit {0}) SeatView → ℕ → Me (Unit {0}) SeatView → Type 0
Closes step before word after =
    (after ≡ before) × (word ≡ before.0.sizes.count + before.0.sizes.workers) × ((number : ℕ) → times number before.0.drawn ≡ once_below number word)

-- ---- cutting and joining

-- a view that gives away one of its live passes, and the view of that pass
abbrev pub rest_of : SeatView → SeatView
rest_of view = knows view.sizes view.drawn (view.live - 1) view.ended

abbrev pub pass_of : SeatView → SeatView
pass_of view = knows view.sizes [] 1 0

-- two views in one
abbrev pub both : SeatView → SeatView → SeatView
both view other = knows view.sizes (view.drawn ++ other.drawn) (view.live + other.live) (view.ended + other.ended)

-- what the other view is left with
abbrev pub spent : SeatView
spent = knows (record { count = 0; workers = 0 }) [] 0 0
