-- What is kept beside translation rules.
use Rattle.std.specs.Prelude.{◌≡◌, ◌<◌, ◌≤◌, ◌+◌, ◌-◌, ℕ, suc, Bool, true, false, List, length, map, Option}
use Rattle.std.specs.List.{slice_index_or}
use Rattle.std.specs.Option.{ForSome}
use Rattle.pfr_ruleset.specs.declared.translation_aids.TranslationAids.{TranslationAids}
use Rattle.pfr_ruleset.specs.declared.flat.FlatTranslation.{FlatTranslation}
use Rattle.pfr_ruleset.specs.Criteria.{asked_by_translation}
use Rattle.pfr_ruleset.specs.Indexes.{AreAids}

abbrev pub FollowsBy : Bool → ℕ → ℕ → Type 0
FollowsBy is number before = is ≡ true → number ≡ suc before

-- each number follows on the one before it, except at the places that `breaks` marks
pub record AreNumberBreaks (numbers : List ℕ) (breaks : List Bool) : Type 0 where
  pub size : length breaks ≡ length numbers
  pub follows : (place : ℕ) → suc place < length numbers → slice_index_or breaks (suc place) false ≡ false → slice_index_or numbers (suc place) 0 ≡ suc (slice_index_or numbers place 0)

-- a place behind another one, between which numbers follow on one another
pub record IsNumberEnd (numbers : List ℕ) (place end : ℕ) : Type 0 where
  pub ahead : place < end
  pub within : end ≤ length numbers
  pub follow : (k : ℕ) → place ≤ k → k < end → slice_index_or numbers k 0 ≡ slice_index_or numbers place 0 + (k - place)

pub record AreNumberEnds (numbers ends : List ℕ) : Type 0 where
  pub size : length ends ≡ length numbers
  pub each : (place : ℕ) → place < length numbers → IsNumberEnd numbers place (slice_index_or ends place 0)

abbrev pub number_of : {T : Type 0} → FlatTranslation T → ℕ
number_of rule = rule.number

-- what aids say of how far the numbers follow on one another from a place on
abbrev pub KnowsNumberEnd : TranslationAids → ℕ → ℕ → Type 0
KnowsNumberEnd aids place end = (numbers : List ℕ) → AreNumberEnds numbers aids.number_ends.items → place < length numbers → IsNumberEnd numbers place end

pub record AreTranslationAids {T : Type 0} (rules : List (FlatTranslation T)) (aids : TranslationAids) : Type 0 where
  pub asked : AreAids (map asked_by_translation rules) aids.rules
  pub numbers : AreNumberEnds (map number_of rules) aids.number_ends.items

-- what is kept beside rules, if there is anything, is right
abbrev pub HaveAids : {T : Type 0} → List (FlatTranslation T) → Option TranslationAids → Type 0
HaveAids rules aids = ForSome aids (AreTranslationAids rules)

-- how far numbers follow on one another is known, if anything is kept
abbrev pub HaveNumberEnds : List ℕ → Option TranslationAids → Type 0
HaveNumberEnds numbers aids = ForSome aids (λ aids. AreNumberEnds numbers aids.number_ends.items)
