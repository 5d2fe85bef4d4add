-- Parts of texts one by one.
use Rattle.std.proofs.Common.{◌≡◌, ◌≢◌, ◌∙◌, ◌≤◌, ◌+◌, inl, inr, ℕ, Bool, false, List, [], ◌∷◌, ◌++◌, length, refl, ap, sym, arith}
use Rattle.std.specs.List.{slice_split, All, before_first, after_first, position_or_len, flat_map}
use Rattle.pfr_given.specs.declared.parts.Part.TheVariants as part
use Rattle.pfr_given.specs.Texts.{ends, some_word, words}
use Rattle.std.proofs.lemmas.Bool.{cases_lt}
use Rattle.std.proofs.lemmas.List.{drop_all, take_all}
use Rattle.std.proofs.lemmas.List.Splits.{slice_split_first, slice_split_none}
use Rattle.std.proofs.lemmas.List.Sums.{fails_before_first}

all_fail : (p : ℕ → Bool) (text : List ℕ) → length text ≤ position_or_len p text → All (λ b. p b ≡ false) text
all_fail p text all k d within = fails_before_first p text k d (omega (arith, all, within))

-- if no byte ends a part, the whole text is one part
one_part : {B : Type 0} (p : ℕ → Bool) (f : List ℕ → List B) (text : List ℕ) → f [] ≡ [] → length text ≤ position_or_len p text
    → f (before_first p text) ++ flat_map f (slice_split p (after_first p text)) ≡ flat_map f (slice_split p text)
one_part p f text none all =
    let front : before_first p text ≡ text = take_all (position_or_len p text) text all in
    let behind : after_first p text ≡ [] = drop_all (position_or_len p text + 1) text (omega (arith, all)) in
    rw (front, behind, slice_split_none p text (all_fail p text all), none) refl

-- what the parts of a text give, of which an empty one gives nothing: what the first gives, and what those behind it do
pub next_part : {B : Type 0} (p : ℕ → Bool) (f : List ℕ → List B) (text : List ℕ) → f [] ≡ []
    → f (before_first p text) ++ flat_map f (slice_split p (after_first p text)) ≡ flat_map f (slice_split p text)
next_part p f text none = elim (cases_lt (position_or_len p text) (length text)) [
  | inl within ↦ rw (slice_split_first p text 0 within) refl
  | inr all ↦ one_part p f text none all
]

-- words one by one
pub no_words : words [] ≡ []
unfolding words
no_words = refl

pub next_word : (text : List ℕ) → some_word (before_first (ends part.Word) text) ++ words (after_first (ends part.Word) text) ≡ words text
unfolding words
next_word text = next_part (ends part.Word) some_word text refl

pub no_more : (text : List ℕ) → length text ≡ 0 → words text ≡ []
no_more [] none = no_words
no_more (b ∷ text) none = absurd (cc)

whole : (word : List ℕ) → length word ≢ 0 → some_word word ≡ word ∷ []
whole [] some = absurd (some refl)
whole (b ∷ word) some = refl

nothing : (word : List ℕ) → length word ≡ 0 → some_word word ≡ []
nothing [] none = refl
nothing (b ∷ word) none = absurd (cc)

-- a word at the front of a text, before a blank
pub word_here : (text word behind : List ℕ) → word ≡ before_first (ends part.Word) text → behind ≡ after_first (ends part.Word) text → length word ≢ 0
    → words text ≡ word ∷ words behind
word_here text word behind front rest some = sym (next_word text) ∙ rw (sym front, sym rest, whole word some) refl

-- a blank at the front of a text
pub blank_here : (text word behind : List ℕ) → word ≡ before_first (ends part.Word) text → behind ≡ after_first (ends part.Word) text → length word ≡ 0
    → words behind ≡ words text
blank_here text word behind front rest none =
    let gone : some_word (before_first (ends part.Word) text) ≡ [] = nothing (before_first (ends part.Word) text) (rw (sym front) none) in
    rw (rest) (ap (λ w. w ++ words (after_first (ends part.Word) text)) (sym gone) ∙ next_word text)
