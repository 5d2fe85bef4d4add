-- What is ahead of a reader is the same if lines stand behind it.
use Rattle.std.proofs.Common.{◌≡◌, ◌+◌, ◌-◌, ℕ, Bool, true, List, [], ◌∷◌, ◌++◌, Option, Some, None, refl, ap}
use Rattle.pfr_words.specs.declared.sign.Sign.{Sign}
use Rattle.pfr_words.specs.declared.word.Token.{Token}
use Rattle.pfr_words.specs.declared.word.Token.TheVariants as t
use Rattle.pfr_words.specs.declared.word.Word.{Word}
use Rattle.pfr_terms.specs.declared.error.ConfErrorKind.{ConfErrorKind}
use Rattle.pfr_terms.specs.declared.name.MacroUse.{MacroUse}
use Rattle.pfr_terms.specs.Input.{sign_in, plain_in, quoted_in, macro_in, of_first, sign_ahead, plain_ahead, quoted_ahead, macro_ahead, is_word, sees_word, first_is, sees_sign, line_of, line_ahead, refusal_at, refusal, fault, left_out, number_ahead, number_of, at_line_end, ends_line, Input}
use Rattle.pfr_terms.proofs.Closers.{longer, is_inner, Starts, Plain, inner_token}

-- ---- what is ahead

pub record Sight {X : Type 0} (ahead : Input → X) : Type 0 where
  pub alike : (line : ℕ) (ys : List Word) (i : Input) → ahead (longer line ys i) ≡ ahead i

-- what is seen only if a word is there
pub record Shows {X : Type 0} (ahead : Input → Option X) : Type 0 where
  pub starts : (i : Input) (x : X) → ahead i ≡ Some x → Starts i.words

pub record IsTest (test : Input → Bool) : Type 0 where
  pub starts : (i : Input) → test i ≡ true → Starts i.words

first_alike : {X : Type 0} (f : Word → Option X) (line : ℕ) (ys ws : List Word) → f (record { line = line; token = t.LineEnd }) ≡ None → of_first f (ws ++ record { line = line; token = t.LineEnd } ∷ ys) ≡ of_first f ws
first_alike f line ys [] none = none
first_alike f line ys (w ∷ ws) none = refl

first_starts : {X : Type 0} (f : Word → Option X) (x : X) (ws : List Word) → ((w : Word) → f w ≡ Some x → is_inner w.token ≡ true) → of_first f ws ≡ Some x → Starts ws
first_starts f x [] inner is = absurd (cc)
first_starts f x (w ∷ ws) inner is = inner w is

plain_inner : (token : Token) (word : List ℕ) → plain_in token ≡ Some word → is_inner token ≡ true
plain_inner (t.Plain text) word e = refl
plain_inner token word e = absurd (cc)

quoted_inner : (token : Token) (word : List ℕ) → quoted_in token ≡ Some word → is_inner token ≡ true
quoted_inner (t.Quoted text) word e = refl
quoted_inner token word e = absurd (cc)

macro_inner : (line : ℕ) (token : Token) (found : MacroUse) → macro_in line token ≡ Some found → is_inner token ≡ true
macro_inner line (t.MacroUse name suffix) found e = refl
macro_inner line token found e = absurd (cc)

pub plain_sight : Sight plain_ahead
unfolding plain_ahead
plain_sight = record { alike = λ line ys i. first_alike (λ w. plain_in w.token) line ys i.words refl }

pub plain_shows : Shows plain_ahead
unfolding plain_ahead
plain_shows = record { starts = λ i x. first_starts (λ w. plain_in w.token) x i.words (λ w. plain_inner w.token x) }

pub quoted_sight : Sight quoted_ahead
unfolding quoted_ahead
quoted_sight = record { alike = λ line ys i. first_alike (λ w. quoted_in w.token) line ys i.words refl }

pub quoted_shows : Shows quoted_ahead
unfolding quoted_ahead
quoted_shows = record { starts = λ i x. first_starts (λ w. quoted_in w.token) x i.words (λ w. quoted_inner w.token x) }

pub macro_sight : Sight macro_ahead
unfolding macro_ahead
macro_sight = record { alike = λ line ys i. first_alike (λ w. macro_in w.line w.token) line ys i.words refl }

pub macro_shows : Shows macro_ahead
unfolding macro_ahead
macro_shows = record { starts = λ i x. first_starts (λ w. macro_in w.line w.token) x i.words (λ w. macro_inner w.line w.token x) }

pub sign_sight : Sight sign_ahead
unfolding sign_ahead
sign_sight = record { alike = λ line ys i. first_alike (λ w. sign_in w.token) line ys i.words refl }

-- by the word that is ahead
by_shows : {X : Type 0} (f : Option (List ℕ) → Option X) (found : Option (List ℕ)) (x : X) (i : Input) → f None ≡ None → plain_ahead i ≡ found → f found ≡ Some x → Starts i.words
by_shows f None x i none e is = absurd (cc)
by_shows f (Some word) x i none e is = plain_shows.starts i word e

pub named_sight : {X : Type 0} (f : Option (List ℕ) → X) → Sight (λ i. f (plain_ahead i))
named_sight f = record { alike = λ line ys i. ap f (plain_sight.alike line ys i) }

pub named_shows : {X : Type 0} (f : Option (List ℕ) → Option X) → f None ≡ None → Shows (λ i. f (plain_ahead i))
named_shows f none = record { starts = λ i x is. by_shows f (plain_ahead i) x i none refl is }

pub number_sight : Sight number_ahead
unfolding number_ahead
number_sight = named_sight number_of

pub number_shows : Shows number_ahead
unfolding number_ahead
number_shows = named_shows number_of refl

word_test_by : (word : List ℕ) (found : Option (List ℕ)) (i : Input) → plain_ahead i ≡ found → is_word word found ≡ true → Starts i.words
word_test_by word None i e is = absurd (cc)
word_test_by word (Some text) i e is = plain_shows.starts i text e

pub word_test : (word : List ℕ) → IsTest (sees_word word)
unfolding sees_word
word_test word = record { starts = λ i is. word_test_by word (plain_ahead i) i refl is }

pub word_sight : (word : List ℕ) → Sight (sees_word word)
unfolding sees_word
word_sight word = named_sight (is_word word)

sign_test_by : (sign : Sign) (ws : List Word) → Plain sign → first_is sign ws ≡ true → Starts ws
sign_test_by sign [] plain is = absurd (cc)
sign_test_by sign (w ∷ ws) plain is = inner_token w.token sign plain is

pub sign_test : (sign : Sign) → Plain sign → IsTest (sees_sign sign)
unfolding sees_sign
sign_test sign plain = record { starts = λ i is. sign_test_by sign i.words plain is }

first_is_alike : (sign : Sign) (line : ℕ) (ys ws : List Word) → first_is sign (ws ++ record { line = line; token = t.LineEnd } ∷ ys) ≡ first_is sign ws
first_is_alike sign line ys [] = refl
first_is_alike sign line ys (w ∷ ws) = refl

pub sees_sight : (sign : Sign) → Sight (sees_sign sign)
unfolding sees_sign
sees_sight sign = record { alike = λ line ys i. first_is_alike sign line ys i.words }

line_alike : (line : ℕ) (ys ws : List Word) (before : ℕ) → line_of (ws ++ record { line = line; token = t.LineEnd } ∷ ys) before ≡ line_of ws before
line_alike line ys [] before = refl
line_alike line ys (w ∷ ws) before = refl

pub line_sight : Sight line_ahead
unfolding line_ahead
line_sight = record { alike = λ line ys i. line_alike line ys i.words i.line }

refusal_alike : (line : ℕ) (ys ws : List Word) (before : ℕ) → refusal_at before (ws ++ record { line = line; token = t.LineEnd } ∷ ys) ≡ refusal_at before ws
refusal_alike line ys [] before = refl
refusal_alike line ys (w ∷ ws) before = refl

pub refusal_sight : Sight refusal
unfolding refusal
refusal_sight = record { alike = λ line ys i. refusal_alike line ys i.words i.line }

pub fault_sight : (kind : ConfErrorKind) → Sight (fault kind)
unfolding fault
fault_sight kind = record { alike = λ line ys i. ap (λ l. record { line = l; kind = kind }) (line_sight.alike line ys i) }

pub left_out_sight : (name : List ℕ) → Sight (left_out name)
unfolding left_out line_ahead
left_out_sight name = record { alike = λ line ys i. rw (line_alike line ys i.words i.line) refl }

end_alike : (line : ℕ) (ys ws : List Word) → ends_line (ws ++ record { line = line; token = t.LineEnd } ∷ ys) ≡ ends_line ws
end_alike line ys [] = refl
end_alike line ys (w ∷ ws) = refl

pub end_sight : Sight at_line_end
unfolding at_line_end
end_sight = record { alike = λ line ys i. end_alike line ys i.words }
