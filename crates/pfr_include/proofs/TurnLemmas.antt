-- Turns one by one.
use Rattle.std.proofs.Common.{◌≡◌, ◌∙◌, ◌<◌, ◌-◌, ℕ, zero, suc, List, Some, None, arith, refl, sym}
use Rattle.pfr_include.specs.declared.file.File.{File}
use Rattle.pfr_include.specs.declared.splicing.Included.{Included}
use Rattle.pfr_include.specs.Splicing.{itself}
use Rattle.pfr_include.specs.Turns.{turn, turns, with_files}

pub next_turn : (left : ℕ) (files : List File) (now : Included)
    → turns (suc left) files now ≡ elim (turn files now) [ Some next ↦ turns left files next | None ↦ now ]
unfolding turns
next_turn left files now = refl

-- one that made another text
pub one_turn : (left : ℕ) (files : List File) (now next : Included) → 0 < left → turn files now ≡ Some next
    → turns (left - 1) files next ≡ turns left files now
one_turn zero files now next some made = absurd (omega arith)
one_turn (suc left) files now next some made =
    let before : suc left - 1 ≡ left = omega arith in
    rw before (sym (next_turn left files now ∙ rw made refl))

pub no_turns : (files : List File) (now : Included) → turns 0 files now ≡ now
unfolding turns
no_turns files now = refl

-- one that found nothing to do
pub no_turn : (left : ℕ) (files : List File) (now : Included) → turn files now ≡ None → turns left files now ≡ now
no_turn zero files now none = no_turns files now
no_turn (suc left) files now none = next_turn left files now ∙ rw none refl

pub all_turns : (text : List ℕ) (files : List File) → turns 16 files (itself text) ≡ with_files text files
unfolding with_files
all_turns text files = refl
