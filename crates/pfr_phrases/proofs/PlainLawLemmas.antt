-- The words that stand for others end no line.
use Rattle.std.proofs.Common.{◌≡◌, ◌∙◌, ℕ, zero, suc, ◌+◌, ◌-◌, ◌/◌, ◌%◌, ◌==◌, ◌&&◌, ◌||◌, Bool, true, false, not, nat_lt, if◌then◌else◌, List, [], ◌∷◌, ◌++◌, arith, take, drop, Option, Some, None, refl, sym, subst, ap}
use Rattle.std.proofs.lemmas.Bool.{eqb-true, ne_eqb}
use Rattle.std.proofs.lemmas.List.{take-append-drop}
use Rattle.std.specs.Bool.{⊤}
use Rattle.std.specs.Fmt.{decimal, digit_glyph, digits, digits_onto}
use Rattle.std.specs.Str.{bytes_eq}
use Rattle.pfr_words.specs.Names.{entry_of}
use Rattle.pfr_words.specs.Words.{newlines}
use Rattle.pfr_words.proofs.LineLemmas.{newlines-append}
use Rattle.pfr_phrases.specs.Applying.{slash_from, spelled, word_with_zeros, written, zeros}
use Rattle.pfr_phrases.specs.Values.{are_parts, count_of, is_address, is_digit, is_short_network, number_of, short_network, value_for, value_phrase}
use Rattle.pfr_phrases.specs.declared.change.Becomes.{Becomes}
use Rattle.pfr_phrases.specs.declared.change.Becomes.TheVariants as becomes
use Rattle.pfr_phrases.specs.declared.change.Words.{Words}
use Rattle.pfr_phrases.specs.declared.change.Words.TheVariants as words
use Rattle.pfr_phrases.specs.declared.context.Says.{Says}
use Rattle.pfr_phrases.specs.declared.phrases.Phrase.{Phrase}
use Rattle.pfr_phrases.specs.declared.lengths.Takes.TheVariants as takes
use Rattle.pfr_phrases.specs.declared.reason.Reason.TheVariants as reason

-- ---- words of the tables

-- what a phrase writes for a word ends no line
abbrev pub EndsNoLine : Phrase → List ℕ → Type 0
EndsNoLine phrase word = newlines (written phrase.1 word) ≡ 0

-- whatever the word is
abbrev pub IsPlain : Phrase → Type 0
IsPlain phrase = (word : List ℕ) → EndsNoLine phrase word

abbrev pub IsPlainIf : Option Phrase → Type 0
IsPlainIf None = ⊤
IsPlainIf (Some phrase) = IsPlain phrase

abbrev pub stands_alone : Becomes → Bool
stands_alone becomes.Nothing = true
stands_alone (becomes.Lines count) = true
stands_alone (becomes.Words words) = true
stands_alone (becomes.Number number) = false
stands_alone (becomes.WithZeros count) = false

abbrev pub are_alone : List (List ℕ × Phrase) → Bool
are_alone [] = true
are_alone (entry ∷ entries) = let phrase = entry.1 in stands_alone phrase.1 && are_alone entries

and_parts : (a b : Bool) → (a && b) ≡ true → (a ≡ true) × (b ≡ true)
and_parts true b is = (refl, is)
and_parts false b is = absurd (cc)

spelled_plain : (words : Words) → newlines (spelled words) ≡ 0
spelled_plain words.KeepState = refl
spelled_plain words.Return = refl
spelled_plain words.Log = refl
spelled_plain words.Aggressive = refl
spelled_plain words.Conservative = refl
spelled_plain words.Satellite = refl

alone_plain : (as_what : Becomes) (word : List ℕ) → stands_alone as_what ≡ true → newlines (written as_what word) ≡ 0
alone_plain becomes.Nothing word is = refl
alone_plain (becomes.Lines count) word is = refl
alone_plain (becomes.Words words) word is = spelled_plain words
alone_plain (becomes.Number number) word is = absurd (cc)
alone_plain (becomes.WithZeros count) word is = absurd (cc)

one_of : (test : Bool) (phrase : Phrase) (other : Option Phrase) → IsPlain phrase → IsPlainIf other → IsPlainIf (if test then Some phrase else other)
one_of true phrase other a b = a
one_of false phrase other a b = b

pub entry_plain : (entries : List (List ℕ × Phrase)) (word : List ℕ) → are_alone entries ≡ true → IsPlainIf (entry_of entries word)
entry_plain [] word is = tt
entry_plain (entry ∷ entries) word is =
    let phrase = entry.1 in
    let parts = and_parts (stands_alone phrase.1) (are_alone entries) is in
    one_of (bytes_eq entry.0 word) phrase (entry_of entries word) (λ other. alone_plain phrase.1 other parts.0) (entry_plain entries word parts.1)

-- ---- numbers

glyph_apart : (test : Bool) (d : ℕ) → ((if test then 48 + d else 87 + d) == 10) ≡ false
glyph_apart true d = ne_eqb (48 + d) 10 (λ same. absurd (omega (arith, same)))
glyph_apart false d = ne_eqb (87 + d) 10 (λ same. absurd (omega (arith, same)))

other_byte : (b : ℕ) (bytes : List ℕ) → (b == 10) ≡ false → newlines (b ∷ bytes) ≡ newlines bytes
other_byte b bytes apart = rw apart refl

either_none : (test : Bool) (one other : List ℕ) → newlines one ≡ 0 → newlines other ≡ 0 → newlines (if test then one else other) ≡ 0
either_none true one other a b = a
either_none false one other a b = b

digits_plain : (k n : ℕ) (behind : List ℕ) → newlines behind ≡ 0 → newlines (digits_onto k 10 false n behind) ≡ 0
digits_plain zero n behind none = none
digits_plain (suc k) n behind none =
    let glyph = digit_glyph false (n % 10) in
    let more : newlines (glyph ∷ behind) ≡ 0 = other_byte glyph behind (glyph_apart (nat_lt (n % 10) 10) (n % 10)) ∙ none in
    either_none (n / 10 == 0) (glyph ∷ behind) (digits_onto k 10 false (n / 10) (glyph ∷ behind)) more (digits_plain k (n / 10) (glyph ∷ behind) more)

number_plain : (n : ℕ) → newlines (decimal n) ≡ 0
unfolding digits
number_plain n = digits_plain 64 n [] refl

-- ---- networks

line_end_is_no_part : (digit : Bool) (word : List ℕ) → are_parts digit (10 ∷ word) ≡ false
line_end_is_no_part true word = refl
line_end_is_no_part false word = refl

parts_behind : (test : Bool) (rest : Bool) → (if test then false else rest) ≡ true → rest ≡ true
parts_behind true rest is = absurd (cc)
parts_behind false rest is = is

by_byte : (test : Bool) (digit : Bool) (b : ℕ) (word : List ℕ) → (b == 10) ≡ test → are_parts digit (b ∷ word) ≡ true → newlines word ≡ 0
    → (if test then suc (newlines word) else newlines word) ≡ 0
by_byte false digit b word here is none = none
by_byte true digit b word here is none =
    let line_end : are_parts digit (10 ∷ word) ≡ true = subst (λ byte. are_parts digit (byte ∷ word) ≡ true) (eqb-true b 10 here) is in
    absurd (let both : false ≡ true = sym (line_end_is_no_part digit word) ∙ line_end in cc)

parts_plain : (word : List ℕ) (digit : Bool) → are_parts digit word ≡ true → newlines word ≡ 0
parts_plain [] digit is = refl
parts_plain (b ∷ word) digit is =
    by_byte (b == 10) digit b word refl is
    (parts_plain word (is_digit b) (parts_behind (not (is_digit b) && not (digit && (b == 46 || b == 47))) (are_parts (is_digit b) word) is))

zeros_plain : (count : ℕ) → newlines (zeros count) ≡ 0
zeros_plain zero = refl
zeros_plain (suc zero) = refl
zeros_plain (suc (suc zero)) = refl
zeros_plain (suc (suc (suc count))) = refl

with_zeros_plain : (count : ℕ) (word : List ℕ) → newlines word ≡ 0 → newlines (word_with_zeros count word) ≡ 0
with_zeros_plain count word none =
    let slash = slash_from 0 word in
    let whole : newlines (take slash word) + newlines (drop slash word) ≡ 0 =
    sym (newlines-append (take slash word) (drop slash word)) ∙ ap (λ bytes. newlines bytes) (take-append-drop slash word) ∙ none in
    let back : newlines (zeros count ++ drop slash word) ≡ newlines (zeros count) + newlines (drop slash word) =
    newlines-append (zeros count) (drop slash word) in
    let sum : newlines (take slash word) + newlines (zeros count ++ drop slash word) ≡ 0 = omega (arith, whole, back, zeros_plain count) in
    newlines-append (take slash word) (zeros count ++ drop slash word) ∙ sum

-- what a phrase writes for this word ends no line
abbrev pub EndsNoLineIf : Option Phrase → List ℕ → Type 0
EndsNoLineIf None word = ⊤
EndsNoLineIf (Some phrase) word = EndsNoLine phrase word

if_network : (test : Bool) (word : List ℕ) (phrase : Phrase) → (test ≡ true → EndsNoLine phrase word)
    → EndsNoLineIf (if test then Some phrase else None) word
if_network true word phrase each = each refl
if_network false word phrase each = tt

network_plain : (asked : Says) (word : List ℕ) → EndsNoLineIf (short_network asked word) word
network_plain asked word =
    if_network (is_address asked && is_short_network word) word
    (record { 0 = takes.Nothing; 1 = becomes.WithZeros (3 - count_of 46 word); 2 = reason.ShortAddress })
    (λ is.
    let short = and_parts (is_address asked) (is_short_network word) is in
    let two = and_parts (are_parts false word && nat_lt (count_of 46 word) 3) (count_of 47 word == 1) short.1 in
    let parts = and_parts (are_parts false word) (nat_lt (count_of 46 word) 3) two.0 in
    with_zeros_plain (3 - count_of 46 word) word (parts_plain word false parts.0))

of_number : (number : Option ℕ) (asked : Says) (word : List ℕ) → EndsNoLineIf (value_for number asked word) word
of_number (Some number) asked word = number_plain number
of_number None asked word = network_plain asked word

pub value_plain : (asked : Says) (word : List ℕ) → EndsNoLineIf (value_phrase asked word) word
unfolding value_phrase
value_plain asked word = of_number (number_of asked word) asked word
