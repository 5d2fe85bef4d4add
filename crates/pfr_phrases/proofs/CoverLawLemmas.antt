-- What is found at the front of marks covers some of them: by the words of a statement alone.
use Rattle.std.proofs.Common.{◌≡◌, ◌≤◌, ℕ, zero, suc, ◌+◌, ◌-◌, ◌==◌, Bool, true, false, not, if◌then◌else◌, ◌&&◌, ◌||◌, List, [], ◌∷◌, arith, length, take, drop, codes, Option, Some, None, inl, inr, refl, ap, subst, sym}
use Rattle.std.specs.Bool.{⊤}
use Rattle.pfr_words.specs.Names.{entry_of}
use Rattle.pfr_words.specs.Words.{newlines}
use Rattle.pfr_marks.specs.Marks.{begins_with, is}
use Rattle.pfr_marks.specs.declared.mark.Mark.{Mark}
use Rattle.pfr_marks.specs.declared.mark.Place.{Place}
use Rattle.pfr_phrases.specs.Applying.{written}
use Rattle.pfr_phrases.specs.Changes.{IsAtWord, finding_at}
use Rattle.pfr_phrases.specs.Changing.{change_at, change_of, change_within, comma_before, comma_len, element_change, element_found, element_in, element_of, first_found, first_of, lead_len, left_out_of, lines_in, list_change, list_found, opens_emptied, option_change, option_found, phrase_change, phrase_found, phrase_here, phrase_if, reason_of, rule_change, rule_found, setting_change, setting_found, sign_len, start_of, trail_len, value_change, value_found, word_change}
use Rattle.pfr_phrases.specs.Options.{element_len, option_at}
use Rattle.pfr_phrases.specs.Phrases.{file_phrase_at, label_phrase_at, phrase_at, phrase_of, pool_phrase_at, rule_phrase_at}
use Rattle.pfr_phrases.specs.Lengths.{taken_len}
use Rattle.pfr_phrases.specs.Settings.{optimization_at, setting_at, two_of}
use Rattle.pfr_phrases.specs.Statements.{criterion_at, criterion_by, criterion_in, end_of, found_for, left_out_by, left_out_for, left_out_in, second_left_out, setting_left_out, statement_left_out, statement_len, unseen_at, whole, criterion_reason, may_ask, statement_reason}
use Rattle.pfr_phrases.specs.Tables.{options_of_states, phrases_of_files, phrases_of_labels, phrases_of_pools, phrases_of_rules, timeouts_of_optimizations}
use Rattle.pfr_phrases.specs.Values.{value_phrase}
use Rattle.pfr_phrases.specs.declared.change.Becomes.{Becomes}
use Rattle.pfr_phrases.specs.declared.change.Becomes.TheVariants as becomes
use Rattle.pfr_phrases.specs.declared.change.Finding.{Finding}
use Rattle.pfr_phrases.specs.declared.change.Found.{Found}
use Rattle.pfr_phrases.specs.declared.context.Context.{Context}
use Rattle.pfr_phrases.specs.declared.context.Within.{Within}
use Rattle.pfr_phrases.specs.declared.context.Within.TheVariants as within
use Rattle.pfr_phrases.specs.declared.options.Group.{Group}
use Rattle.pfr_phrases.specs.declared.phrases.Phrase.{Phrase}
use Rattle.pfr_phrases.specs.declared.lengths.Takes.TheVariants as takes
use Rattle.pfr_phrases.specs.declared.reason.Reason.{Reason}
use Rattle.pfr_phrases.specs.declared.reason.Reason.TheVariants as reason
use Rattle.pfr_phrases.proofs.PlainLawLemmas.{EndsNoLine, EndsNoLineIf, IsPlain, IsPlainIf, are_alone, entry_plain, value_plain}
use Rattle.pfr_phrases.proofs.StatementLemmas.{none_here, some_here}

-- ---- what it is to cover marks

-- a change begins where its first mark begins, or before, but not before the end of the mark before
abbrev pub IsFrom : (behind from start : ℕ) → Type 0
IsFrom behind from start = behind ≤ start → (behind ≤ from) × (from ≤ start)

-- it is said of one of the marks, and ends with the last of the marks that it has, of which there is one at least; the words that it
-- writes end no line
abbrev pub Covers : Context → List Mark → Found → Type 0
Covers context [] found = ⊥
Covers context (first ∷ marks) found =
    IsAtWord found.change.finding (first ∷ marks)
    × (1 ≤ found.count)
    × IsFrom context.behind.offset found.change.from first.start.offset
    × (found.change.to ≡ end_of first.start (take found.count (first ∷ marks)))
    × (newlines (written found.change.becomes found.change.finding.word) ≡ 0)

abbrev pub CoversIf : Context → List Mark → Option Found → Type 0
CoversIf context marks None = ⊤
CoversIf context marks (Some found) = Covers context marks found

-- one of two
pub either : {A : Type 0} (P : A → Type 0) (test : Bool) (one other : A) → P one → P other → P (if test then one else other)
either P true one other a b = a
either P false one other a b = b

pub unless : (test : Bool) (context : Context) (marks : List Mark) (found : Option Found) → CoversIf context marks found
    → CoversIf context marks (if test then None else found)
unless true context marks found covers = tt
unless false context marks found covers = covers

pub first_covers : (context : Context) (marks : List Mark) (one other : Option Found) → CoversIf context marks one → CoversIf context marks other
    → CoversIf context marks (first_found one other)
first_covers context marks (Some found) other a b = a
first_covers context marks None other a b = b

-- ---- words among marks

-- a finding at this mark is at one of these
abbrev pub IsOneOf : Mark → List Mark → Type 0
IsOneOf mark marks = (why : Reason) → IsAtWord (finding_at mark why) marks

pub is_first : (mark : Mark) (marks : List Mark) → IsOneOf mark (mark ∷ marks)
is_first mark marks = λ why. inl (refl, refl)

pub is_second : (first mark : Mark) (marks : List Mark) → IsOneOf mark (first ∷ mark ∷ marks)
is_second first mark marks = λ why. inr (inl (refl, refl))

pub at_later : (n : ℕ) (finding : Finding) (marks : List Mark) → IsAtWord finding (drop n marks) → IsAtWord finding marks
at_later zero finding marks at = at
at_later (suc n) finding [] at = at
at_later (suc n) finding (mark ∷ marks) at = inr (at_later n finding marks at)

pub at_taken : (n : ℕ) (finding : Finding) (marks : List Mark) → IsAtWord finding (take n marks) → IsAtWord finding marks
at_taken zero finding marks at = absurd at
at_taken (suc n) finding [] at = at
at_taken (suc n) finding (mark ∷ marks) (inl here) = inl here
at_taken (suc n) finding (mark ∷ marks) (inr later) = inr (at_taken n finding marks later)

-- ---- the first marks as a change

at_line : (test : Bool) (behind start : ℕ) → IsFrom behind (if test then behind else start) start
at_line true behind start = λ before. (omega arith, before)
at_line false behind start = λ before. (before, omega arith)

starts : (context : Context) (start : Place) (as_what : Becomes) → IsFrom context.behind.offset (start_of context start as_what) start.offset
starts context start becomes.Nothing = at_line (context.behind.line == start.line) context.behind.offset start.offset
starts context start (becomes.Lines count) = λ before. (before, omega arith)
starts context start (becomes.Words words) = λ before. (before, omega arith)
starts context start (becomes.Number number) = λ before. (before, omega arith)
starts context start (becomes.WithZeros count) = λ before. (before, omega arith)

pub of_change : (context : Context) (word : Mark) (marks : List Mark) (count : ℕ) (phrase : Phrase) → IsOneOf word marks → 1 ≤ count
    → EndsNoLine phrase word.piece → CoversIf context marks (change_of context word marks count phrase)
unfolding change_of
of_change context word [] count phrase at some none = tt
of_change context word (first ∷ marks) count phrase at some none = (at phrase.2, some, starts context first.start phrase.1, refl, none)

-- ---- phrases

-- a phrase has one mark at least, and what it writes ends no line
abbrev pub Counted : Option (ℕ × Phrase) → Type 0
Counted None = ⊤
Counted (Some found) = (1 ≤ found.0) × IsPlain found.1

pub some_if : (len : ℕ) → (len == 0) ≡ false → 1 ≤ len
some_if zero is = absurd (cc)
some_if (suc len) is = omega arith

counted_by : (test : Bool) (len : ℕ) (phrase : Phrase) → (test ≡ false → 1 ≤ len) → IsPlain phrase
    → Counted (if test then None else Some (len, phrase))
counted_by true len phrase some plain = tt
counted_by false len phrase some plain = (some refl, plain)

of_entry : (found : Option Phrase) (behind : List Mark) → IsPlainIf found → Counted (phrase_of found behind)
of_entry None behind plain = tt
of_entry (Some phrase) behind plain =
    let len = taken_len phrase.0 behind in counted_by (len == 0) len phrase (some_if len) plain

phrase_counted : (table : List (List ℕ × Phrase)) (marks : List Mark) → are_alone table ≡ true → Counted (phrase_at table marks)
unfolding phrase_at
phrase_counted table [] alone = tt
phrase_counted table (first ∷ behind) alone = of_entry (entry_of table first.piece) behind (entry_plain table first.piece alone)

pub rule_counted : (marks : List Mark) → Counted (rule_phrase_at marks)
unfolding rule_phrase_at
rule_counted marks = phrase_counted phrases_of_rules marks refl

pub pool_counted : (marks : List Mark) → Counted (pool_phrase_at marks)
unfolding pool_phrase_at
pool_counted marks = phrase_counted phrases_of_pools marks refl

pub label_counted : (marks : List Mark) → Counted (label_phrase_at marks)
unfolding label_phrase_at
label_counted marks = phrase_counted phrases_of_labels marks refl

pub file_counted : (marks : List Mark) → Counted (file_phrase_at marks)
unfolding file_phrase_at
file_counted marks = phrase_counted phrases_of_files marks refl

pub option_counted : (marks : List Mark) → Counted (option_at marks)
unfolding option_at
option_counted marks = phrase_counted options_of_states marks refl

first_counted : (one other : Option (ℕ × Phrase)) → Counted one → Counted other → Counted (first_of one other)
first_counted (Some found) other a b = a
first_counted None other a b = b

if_counted : (test : Bool) (found : Option (ℕ × Phrase)) → Counted found → Counted (phrase_if test found)
if_counted true found a = a
if_counted false found a = tt

here_counted : (context : Context) (marks : List Mark) → Counted (phrase_here context marks)
unfolding phrase_here
here_counted context marks =
    first_counted (first_of (phrase_if context.has_label (label_phrase_at marks)) (phrase_if context.has_target (pool_phrase_at marks)))
    (rule_phrase_at marks)
    (first_counted (phrase_if context.has_label (label_phrase_at marks)) (phrase_if context.has_target (pool_phrase_at marks))
    (if_counted context.has_label (label_phrase_at marks) (label_counted marks))
    (if_counted context.has_target (pool_phrase_at marks) (pool_counted marks)))
    (rule_counted marks)

two_counted : (phrase : Option Phrase) → IsPlainIf phrase → Counted (two_of phrase)
two_counted None plain = tt
two_counted (Some phrase) plain = (omega arith, plain)

optimization_plain : (marks : List Mark) → IsPlainIf (optimization_at marks)
unfolding optimization_at
optimization_plain [] = tt
optimization_plain (second ∷ marks) = entry_plain timeouts_of_optimizations second.piece refl

setting_counted : (marks : List Mark) → Counted (setting_at marks)
unfolding setting_at
setting_counted [] = tt
setting_counted (first ∷ marks) =
    either Counted (is (codes "optimization") first) _ _ (two_counted (optimization_at marks) (optimization_plain marks)) tt

of_phrase : (context : Context) (marks : List Mark) (found : Option (ℕ × Phrase)) → Counted found
    → CoversIf context marks (phrase_found context marks found)
of_phrase context [] None some = tt
of_phrase context [] (Some found) some = tt
of_phrase context (first ∷ marks) None some = tt
of_phrase context (first ∷ marks) (Some found) some =
    of_change context first (first ∷ marks) found.0 found.1 (is_first first marks) some.0 (some.1 first.piece)

phrase_covers : (context : Context) (marks : List Mark) → CoversIf context marks (phrase_change context marks)
unfolding phrase_change
phrase_covers context marks = of_phrase context marks (phrase_here context marks) (here_counted context marks)

-- ---- options

of_option : (context : Context) (emptied : Bool) (marks option : List Mark) (found : Option (ℕ × Phrase))
    → ((finding : Finding) → IsAtWord finding option → IsAtWord finding marks) → Counted found
    → CoversIf context marks (option_found context emptied marks option found)
of_option context emptied marks [] None among some = tt
of_option context emptied marks [] (Some found) among some = tt
of_option context emptied marks (word ∷ more) None among some = tt
of_option context emptied marks (word ∷ more) (Some found) among some =
    let trail = trail_len emptied (not (begins_with marks (codes ","))) (drop found.0 (word ∷ more)) in
    of_change context word marks (lead_len marks + found.0 + trail) found.1 (λ why. among (finding_at word why) (is_first word more why))
    (let least = some.0 in omega (arith, least)) (some.1 word.piece)

option_covers : (context : Context) (emptied : Bool) (marks : List Mark) → CoversIf context marks (option_change context emptied marks)
unfolding option_change
option_covers context emptied marks =
    let option = drop (lead_len marks) marks in
    of_option context emptied marks option (option_at option) (λ finding. at_later (lead_len marks) finding marks) (option_counted option)

-- ---- words of lists

of_value : (context : Context) (word : Mark) (marks : List Mark) (phrase : Option Phrase) → EndsNoLineIf phrase word.piece
    → CoversIf context (word ∷ marks) (value_found context (word ∷ marks) phrase)
of_value context word marks None none = tt
of_value context word marks (Some phrase) none = of_change context word (word ∷ marks) 1 phrase (is_first word marks) (omega arith) none

value_covers : (context : Context) (marks : List Mark) → CoversIf context marks (value_change context marks)
unfolding value_change
value_covers context [] = tt
value_covers context (word ∷ marks) = of_value context word marks (value_phrase context.says word.piece) (value_plain context.says word.piece)

one_or_lines : (test : Bool) (count : ℕ) (word : List ℕ) → newlines (written (if test then becomes.Nothing else becomes.Lines count) word) ≡ 0
one_or_lines true count word = refl
one_or_lines false count word = refl

lines_plain : (marks : List Mark) (count : ℕ) (word : List ℕ) → newlines (written (lines_in marks count) word) ≡ 0
lines_plain [] count word = refl
lines_plain (first ∷ marks) count word =
    let end = end_of first.start (take count (first ∷ marks)) in one_or_lines (first.start.line == end.line) (end.line - first.start.line) word

pub of_element : (context : Context) (why : Reason) (marks : List Mark) (lead : ℕ) (element : List Mark) (len : ℕ)
    → ((finding : Finding) → IsAtWord finding element → IsAtWord finding marks) → 1 ≤ len
    → CoversIf context marks (element_of context why marks lead element len)
of_element context why marks lead [] len among some = tt
of_element context why marks lead (word ∷ more) len among some =
    let trail = if begins_with marks (codes ",") then 0 else comma_len (drop len (word ∷ more)) in
    let phrase : Phrase = record { 0 = takes.Nothing; 1 = lines_in marks (lead + len + trail); 2 = why } in
    of_change context word marks (lead + len + trail) phrase (λ reason. among (finding_at word reason) (is_first word more reason))
    (omega (arith, some))
    (lines_plain marks (lead + len + trail) word.piece)

if_some : (test : Bool) (context : Context) (marks : List Mark) (found : Option Found) → (test ≡ false → CoversIf context marks found)
    → CoversIf context marks (if test then None else found)
if_some true context marks found covers = tt
if_some false context marks found covers = covers refl

in_list : (context : Context) (left_out : Group) (marks : List Mark) (lead : ℕ) (element : List Mark)
    → ((finding : Finding) → IsAtWord finding element → IsAtWord finding marks)
    → CoversIf context marks (element_in context left_out marks lead element)
in_list context left_out marks lead element among =
    let len = element_len left_out element in
    let why = reason_of left_out element in
    if_some (len == 0) context marks (element_of context why marks lead element len)
    (λ is. of_element context why marks lead element len among (some_if len is))

of_list : (left_out : Option Group) (context : Context) (marks : List Mark) → CoversIf context marks (list_found left_out context marks)
of_list None context marks = tt
of_list (Some left_out) context marks =
    let lead = comma_before marks + sign_len (codes "!") (drop (comma_before marks) marks) in
    in_list context left_out marks lead (drop lead marks) (λ finding. at_later lead finding marks)

list_covers : (context : Context) (marks : List Mark) → CoversIf context marks (list_change context marks)
unfolding list_change
list_covers context marks = of_list (left_out_of context) context marks

of_word : (found : Option Found) (context : Context) (marks : List Mark) → CoversIf context marks found
    → CoversIf context marks (element_found found context marks)
of_word (Some found) context marks a = a
of_word None context marks a = value_covers context marks

element_covers : (context : Context) (marks : List Mark) → CoversIf context marks (element_change context marks)
unfolding element_change
element_covers context marks = of_word (list_change context marks) context marks (list_covers context marks)

-- ---- words of rules and settings

word_covers : (context : Context) (marks : List Mark) → CoversIf context marks (word_change context marks)
unfolding word_change
word_covers context marks =
    either (CoversIf context marks) (opens_emptied marks) _ _ (option_covers context true marks)
    (either (CoversIf context marks) context.in_brackets _ _ (option_covers context context.emptied marks) (phrase_covers context marks))

of_setting : (found : Option Found) (context : Context) (marks : List Mark) → CoversIf context marks found
    → CoversIf context marks (setting_found found context marks)
of_setting (Some found) context marks a = a
of_setting None context marks a = of_phrase context marks (setting_at marks) (setting_counted marks)

setting_covers : (context : Context) (marks : List Mark) → CoversIf context marks (setting_change context marks)
unfolding setting_change
setting_covers context marks = of_setting (list_change context marks) context marks (list_covers context marks)

of_rule : (found : Option Found) (context : Context) (marks : List Mark) → CoversIf context marks found
    → CoversIf context marks (rule_found found context marks)
of_rule (Some found) context marks a = a
of_rule None context marks a = either (CoversIf context marks) context.in_braces _ _ tt (word_covers context marks)

rule_covers : (context : Context) (marks : List Mark) → CoversIf context marks (rule_change context marks)
unfolding rule_change
rule_covers context marks = of_rule (element_change context marks) context marks (element_covers context marks)

-- ---- whole statements

abbrev pub IsAtIf : Option Finding → List Mark → Type 0
IsAtIf None marks = ⊤
IsAtIf (Some finding) marks = IsAtWord finding marks

pub at_behind : (found : Option Finding) (mark : Mark) (marks : List Mark) → IsAtIf found marks → IsAtIf found (mark ∷ marks)
at_behind None mark marks at = tt
at_behind (Some finding) mark marks at = inr at

for_first : (mark : Mark) (marks : List Mark) (why : Option Reason) → IsAtIf (found_for mark why) (mark ∷ marks)
for_first mark marks None = tt
for_first mark marks (Some why) = inl (refl, refl)

of_criterion : (why : Option Reason) (first : Mark) (behind : List Mark) → IsAtIf (criterion_by why first behind) (first ∷ behind)
of_criterion (Some why) first behind = inl (refl, refl)
of_criterion None first behind =
    either (λ found. IsAtIf found (first ∷ behind)) (is (codes "from") first || is (codes "to") first) (found_for first (unseen_at behind)) None
    (for_first first behind (unseen_at behind)) tt

criterion_among : (marks : List Mark) → IsAtIf (criterion_at marks) marks
unfolding criterion_at
criterion_among [] = tt
criterion_among (first ∷ behind) = of_criterion (criterion_reason first.piece) first behind

first_criterion : (found : Option Finding) (mark : Mark) (marks : List Mark) → criterion_at (mark ∷ marks) ≡ found → IsAtIf found (mark ∷ marks)
    → IsAtIf (criterion_in marks) marks → IsAtIf (criterion_in (mark ∷ marks)) (mark ∷ marks)
first_criterion (Some finding) mark marks is here later = subst (λ found. IsAtIf found (mark ∷ marks)) (some_here finding (mark ∷ marks) is) here
first_criterion None mark marks is here later =
    subst (λ found. IsAtIf found (mark ∷ marks)) (none_here (mark ∷ marks) is) (at_behind (criterion_in marks) mark marks later)

criteria_among : (marks : List Mark) → IsAtIf (criterion_in marks) marks
criteria_among [] = tt
criteria_among (mark ∷ marks) =
    first_criterion (criterion_at (mark ∷ marks)) mark marks refl (criterion_among (mark ∷ marks)) (criteria_among marks)

second_among : (first : Mark) (behind : List Mark) → IsAtIf (second_left_out first behind) (first ∷ behind)
second_among first [] = tt
second_among first (second ∷ marks) =
    let setting = found_for second (setting_left_out second marks) in
    let other = if is (codes "set") first then setting else None in
    either (λ found. IsAtIf found (first ∷ second ∷ marks)) (is (codes "no") first && is (codes "scrub") second)
    (Some (finding_at second reason.Scrub)) other
    (inr (inl (refl, refl)))
    (either (λ found. IsAtIf found (first ∷ second ∷ marks)) (is (codes "set") first) setting None
    (at_behind setting first (second ∷ marks) (for_first second marks (setting_left_out second marks))) tt)

of_reason : (why : Option Reason) (second : Option Finding) (first : Mark) (behind : List Mark) → IsAtIf second (first ∷ behind)
    → IsAtIf (left_out_by why second first behind) (first ∷ behind)
of_reason (Some why) second first behind at = inl (refl, refl)
of_reason None (Some finding) first behind at = at
of_reason None None first behind at =
    either (λ found. IsAtIf found (first ∷ behind)) (may_ask first.piece) (criterion_in (first ∷ behind)) None
    (criteria_among (first ∷ behind)) tt

left_out_among : (marks : List Mark) → IsAtIf (left_out_in marks) marks
unfolding left_out_in
left_out_among [] = tt
left_out_among (first ∷ behind) =
    of_reason (statement_reason first.piece) (second_left_out first behind) first behind (second_among first behind)

taken_again : (n : ℕ) (marks : List Mark) → take (length (take n marks)) marks ≡ take n marks
taken_again zero marks = refl
taken_again (suc n) [] = refl
taken_again (suc n) (mark ∷ marks) = ap (λ taken. mark ∷ taken) (taken_again n marks)

-- all of the first marks
pub of_whole : (n : ℕ) (finding : Finding) (context : Context) (first : Mark) (marks : List Mark) → IsAtWord finding (first ∷ take n marks)
    → Covers context (first ∷ marks) (whole first.start (end_of first.end (first ∷ take n marks)) (length (first ∷ take n marks)) finding)
of_whole n finding context first marks at = (
  at_taken (suc n) finding (first ∷ marks) at,
  omega arith,
  λ before. (before, omega arith),
  ap (λ taken. end_of first.end taken) (sym (taken_again n marks)),
  refl,
)

of_left_out : (n : ℕ) (found : Option Finding) (context : Context) (marks : List Mark) → IsAtIf found (take n marks)
    → CoversIf context marks (left_out_for found (take n marks))
of_left_out n None context marks at = tt
of_left_out zero (Some finding) context marks at = tt
of_left_out (suc n) (Some finding) context [] at = tt
of_left_out (suc n) (Some finding) context (first ∷ marks) at = of_whole n finding context first marks at

statement_covers : (context : Context) (marks : List Mark) → CoversIf context marks (statement_left_out marks)
unfolding statement_left_out
statement_covers context marks =
    of_left_out (statement_len marks) (left_out_in (take (statement_len marks) marks)) context marks
    (left_out_among (take (statement_len marks) marks))

-- ---- the whole

of_within : (statement : Within) (context : Context) (marks : List Mark) → CoversIf context marks (change_within statement context marks)
of_within within.Nothing context marks = statement_covers context marks
of_within within.Rule context marks = rule_covers context marks
of_within within.Anchor context marks = rule_covers context marks
of_within within.Table context marks = element_covers context marks
of_within within.Setting context marks = setting_covers context marks
of_within within.Other context marks = tt

pub change_covers : (context : Context) (marks : List Mark) → CoversIf context marks (change_at context marks)
unfolding change_at
change_covers context marks = of_within context.within context marks
