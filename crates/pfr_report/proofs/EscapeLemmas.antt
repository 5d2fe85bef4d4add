-- Texts within a page.
use Rattle.std.proofs.Common.{◌≡◌, ◌≤◌, ◌<◌, ◌+◌, ◌/◌, nat_lt, ◌++◌, ◌&&◌, ◌==◌, ℕ, zero, suc, Bool, true, false, not, List, [], ◌∷◌, length, take, drop, if◌then◌else◌, refl, sym, ap, ◌∙◌, arith}
use Rattle.std.proofs.Math.Utf8.{encode, next}
use Rattle.std.proofs.lemmas.Bool.{ne_eqb}
use Rattle.std.proofs.lemmas.List.Folds.{list_all-append}
use Rattle.std.proofs.lemmas.List.{take_at, drop_at, append_assoc, length-append}
use Rattle.std.proofs.lemmas.Str.{chars_past_char, chars-nil}
use Rattle.std.specs.List.{flat_map, list_all, repeat}
use Rattle.std.specs.Str.{IsUtf8, chars}
use Rattle.std.specs.Char.{encode_utf8}
use Rattle.std.specs.Str.Lossy.{utf8_valid_len, utf8_invalid_len}
use Rattle.pfr_report.specs.Escapes.{escaped, is_harmless, is_shown, replacement, shown, shown_within}

append_nil : (text : List ℕ) → text ++ [] ≡ text
append_nil [] = refl
append_nil (b ∷ text) = ap (λ l. b ∷ l) (append_nil text)

repeat_more : (count : ℕ) (text : List ℕ) → repeat count text ++ text ≡ repeat (suc count) text
repeat_more zero text = sym (append_nil text)
repeat_more (suc count) text = append_assoc text (repeat count text) text ∙ ap (λ l. text ++ l) (repeat_more count text)

-- one replacement more
pub replaced_further : (old now next : List ℕ) (count more : ℕ) → suc count ≡ more
    → now ≡ old ++ repeat count replacement → next ≡ now ++ replacement → next ≡ old ++ repeat more replacement
replaced_further old now next count more one so_far added =
    added
    ∙ ap (λ l. l ++ replacement) so_far
    ∙ append_assoc old (repeat count replacement) replacement
    ∙ ap (λ l. old ++ l) (repeat_more count replacement)
    ∙ ap (λ n. old ++ repeat n replacement) one

-- one character more
pub character_further : (now next all rest left : List ℕ) (c : ℕ)
    → IsUtf8 rest → rest ≡ encode_utf8 c ++ left
    → now ++ flat_map escaped (chars rest) ≡ all → next ≡ now ++ escaped c
    → next ++ flat_map escaped (chars left) ≡ all
character_further now next all rest left c text front so_far added =
    ap (λ l. l ++ flat_map escaped (chars left)) added
    ∙ append_assoc now (escaped c) (flat_map escaped (chars left))
    ∙ ap (λ l. now ++ flat_map escaped l) (sym (chars_past_char rest left c text front))
    ∙ so_far

-- no character is left
pub characters_ended : (now all rest : List ℕ) → length rest ≡ 0 → now ++ flat_map escaped (chars rest) ≡ all → now ≡ all
characters_ended now all [] none so_far = sym (append_nil now) ∙ ap (λ l. now ++ flat_map escaped l) (sym chars-nil) ∙ so_far
characters_ended now all (b ∷ rest) none so_far = absurd (omega (arith, none))

-- what was appended for the bytes so far, with what stands for those that are left
abbrev pub StandsFor : (now rest all : List ℕ) → Type 0
StandsFor now rest all = (runs : ℕ) × ((length rest ≤ runs) × (now ++ shown_within runs rest ≡ all))

-- one run more
run_more : (now next all rest valid invalid left : List ℕ)
    → rest ≡ valid ++ (invalid ++ left) → length left < length rest
    → length valid ≡ utf8_valid_len rest → length invalid ≡ utf8_invalid_len (drop (utf8_valid_len rest) rest)
    → next ≡ (now ++ flat_map escaped (chars valid)) ++ repeat (length invalid) replacement
    → StandsFor now rest all → StandsFor next left all
run_more now next all [] valid invalid left parts less valid_is invalid_is added (runs, (enough, so_far)) = absurd (omega (arith, less))
run_more now next all (b ∷ behind) valid invalid left parts less valid_is invalid_is added (zero, (enough, so_far)) = absurd (omega (arith, enough))
run_more now next all (b ∷ behind) valid invalid left parts less valid_is invalid_is added (suc runs, (enough, so_far)) =
    let rest = b ∷ behind in
    let front : take (utf8_valid_len rest) rest ≡ valid = ap (take (utf8_valid_len rest)) parts ∙ take_at valid (invalid ++ left) _ valid_is in
    let both : length (valid ++ invalid) ≡ utf8_valid_len rest + utf8_invalid_len (drop (utf8_valid_len rest) rest) =
    omega (arith, length-append valid invalid, valid_is, invalid_is) in
    let back : drop (utf8_valid_len rest + utf8_invalid_len (drop (utf8_valid_len rest) rest)) rest ≡ left =
    ap (drop (utf8_valid_len rest + utf8_invalid_len (drop (utf8_valid_len rest) rest))) (parts ∙ sym (append_assoc valid invalid left)) ∙ drop_at (valid ++ invalid) left _ both in (
      runs,
      (
        omega (arith, less, enough),
        ap (λ l. l ++ shown_within runs left) added
            ∙ append_assoc (now ++ flat_map escaped (chars valid)) (repeat (length invalid) replacement) (shown_within runs left)
            ∙ append_assoc now (flat_map escaped (chars valid)) (repeat (length invalid) replacement ++ shown_within runs left)
            ∙ ap (λ l. now ++ (flat_map escaped (chars l) ++ (repeat (length invalid) replacement ++ shown_within runs left))) (sym front)
            ∙ ap (λ n. now ++ (flat_map escaped (chars (take (utf8_valid_len rest) rest)) ++ (repeat n replacement ++ shown_within runs left))) invalid_is
            ∙ ap (λ l. now ++ (flat_map escaped (chars (take (utf8_valid_len rest) rest)) ++ (repeat (utf8_invalid_len (drop (utf8_valid_len rest) rest)) replacement ++ shown_within runs l))) (sym back)
            ∙ so_far,
      ),
    )

-- the same, by what was appended for its text and for the bytes behind that
pub run_further : (now middle next all rest valid text invalid strays left : List ℕ)
    → rest ≡ valid ++ (invalid ++ left) → length left < length rest
    → length valid ≡ utf8_valid_len rest → length invalid ≡ utf8_invalid_len (drop (utf8_valid_len rest) rest)
    → text ≡ valid → strays ≡ invalid
    → middle ≡ now ++ flat_map escaped (chars text) → next ≡ middle ++ repeat (length strays) replacement
    → StandsFor now rest all → StandsFor next left all
run_further now middle next all rest valid text invalid strays left parts less valid_is invalid_is text_is strays_are first second =
    run_more now next all rest valid invalid left parts less valid_is invalid_is
    (second ∙ ap (λ l. l ++ repeat (length strays) replacement) (first ∙ ap (λ l. now ++ flat_map escaped (chars l)) text_is)
    ∙ ap (λ l. (now ++ flat_map escaped (chars valid)) ++ repeat (length l) replacement) strays_are)

nothing_within : (runs : ℕ) → shown_within runs [] ≡ []
nothing_within zero = refl
nothing_within (suc runs) = refl

-- no byte is left
pub runs_ended : (now rest all : List ℕ) → length rest ≡ 0 → StandsFor now rest all → now ≡ all
runs_ended now [] all none (runs, (enough, so_far)) = sym (append_nil now) ∙ ap (λ l. now ++ l) (sym (nothing_within runs)) ∙ so_far
runs_ended now (b ∷ rest) all none stands = absurd (omega (arith, none))

-- what stands for a text opens nothing and closes nothing

both : (a b : Bool) → a ≡ true → b ≡ true → (a && b) ≡ true
both true b first second = second
both false b first second = first

-- both branches are harmless
either : (test : Bool) (here there : List ℕ)
    → (test ≡ true → list_all is_harmless here ≡ true)
    → (test ≡ false → list_all is_harmless there ≡ true)
    → list_all is_harmless (if test then here else there) ≡ true
either true here there first second = first refl
either false here there first second = second refl

is_another : (byte other : ℕ) → (byte ≡ other → ⊥) → not (byte == other) ≡ true
is_another byte other differs = ap not (ne_eqb byte other differs)

high_is_harmless : (byte : ℕ) → 128 ≤ byte → is_harmless byte ≡ true
high_is_harmless byte high =
    both _ _ (is_another byte 60 (λ is. omega (arith, high, is)))
    (both _ _ (is_another byte 62 (λ is. omega (arith, high, is)))
    (both _ _ (is_another byte 34 (λ is. omega (arith, high, is))) (is_another byte 39 (λ is. omega (arith, high, is)))))

then_more : (byte : ℕ) (bytes : List ℕ) → 128 ≤ byte → list_all is_harmless bytes ≡ true → list_all is_harmless (byte ∷ bytes) ≡ true
then_more byte bytes high more = both _ _ (high_is_harmless byte high) more

follows : (code : ℕ) → list_all is_harmless (next code ∷ []) ≡ true
follows code = then_more (next code) [] (omega arith) refl

-- the bytes of a character are harmless, if it isn't harmful itself
character_is_harmless : (code : ℕ) → is_harmless code ≡ true → list_all is_harmless (encode_utf8 code) ≡ true
unfolding encode
character_is_harmless code harmless =
    let last = follows code in
    let two = then_more (192 + code / 64) (next code ∷ []) (omega arith) last in
    let lasts = then_more (next (code / 64)) (next code ∷ []) (omega arith) last in
    let three = then_more (224 + code / 4096) (next (code / 64) ∷ next code ∷ []) (omega arith) lasts in
    let four = then_more (240 + code / 262144) (next (code / 4096) ∷ next (code / 64) ∷ next code ∷ []) (omega arith)
    (then_more (next (code / 4096)) (next (code / 64) ∷ next code ∷ []) (omega arith) lasts) in
    either (nat_lt code 128) (code ∷ []) _ (λ _. both _ _ harmless refl) (λ _.
    either (nat_lt code 2048) ((192 + code / 64) ∷ next code ∷ []) _ (λ _. two) (λ _.
    either (nat_lt code 65536) ((224 + code / 4096) ∷ next (code / 64) ∷ next code ∷ []) _ (λ _. three) (λ _. four)))

escaped_is_harmless : (code : ℕ) → list_all is_harmless (escaped code) ≡ true
escaped_is_harmless code =
    either (code == 38) _ _ (λ _. refl) (λ _. either (code == 60) _ _ (λ _. refl) (λ less. either (code == 62) _ _ (λ _. refl) (λ greater.
    either (code == 34) _ _ (λ _. refl) (λ quote. either (code == 39) _ _ (λ _. refl) (λ apostrophe.
    either (is_shown code) _ _
    (λ _. character_is_harmless code (both _ _ (ap not less) (both _ _ (ap not greater) (both _ _ (ap not quote) (ap not apostrophe)))))
    (λ _. refl))))))

appended : (first second : List ℕ) → list_all is_harmless first ≡ true → list_all is_harmless second ≡ true → list_all is_harmless (first ++ second) ≡ true
appended first second one other = list_all-append is_harmless first second ∙ both _ _ one other

characters_are_harmless : (codes : List ℕ) → list_all is_harmless (flat_map escaped codes) ≡ true
characters_are_harmless [] = refl
characters_are_harmless (code ∷ codes) = appended (escaped code) (flat_map escaped codes) (escaped_is_harmless code) (characters_are_harmless codes)

replacements_are_harmless : (count : ℕ) → list_all is_harmless (repeat count replacement) ≡ true
replacements_are_harmless zero = refl
replacements_are_harmless (suc count) = appended replacement (repeat count replacement) refl (replacements_are_harmless count)

run_is_harmless : (codes : List ℕ) (count : ℕ) (rest : List ℕ) → list_all is_harmless rest ≡ true
    → list_all is_harmless (flat_map escaped codes ++ (repeat count replacement ++ rest)) ≡ true
run_is_harmless codes count rest harmless =
    appended (flat_map escaped codes) (repeat count replacement ++ rest) (characters_are_harmless codes)
    (appended (repeat count replacement) rest (replacements_are_harmless count) harmless)

runs_are_harmless : (runs : ℕ) (bytes : List ℕ) → list_all is_harmless (shown_within runs bytes) ≡ true
runs_are_harmless zero bytes = refl
runs_are_harmless (suc runs) [] = refl
runs_are_harmless (suc runs) (byte ∷ behind) =
    let bytes = byte ∷ behind in
    let valid = utf8_valid_len bytes in
    let invalid = utf8_invalid_len (drop valid bytes) in
    let rest = drop (valid + invalid) bytes in
    run_is_harmless (chars (take valid bytes)) invalid (shown_within runs rest) (runs_are_harmless runs rest)

pub every_text_is_harmless : (bytes : List ℕ) → list_all is_harmless (shown bytes) ≡ true
every_text_is_harmless bytes = runs_are_harmless (length bytes) bytes
