-- A statement that is read is put behind those that were read before, and depends on their section alone.
use Rattle.std.proofs.Common.{◌≡◌, ◌||◌, ◌⊎◌, inl, inr, if◌then◌else◌, Bool, true, false, not, List, [], ◌∷◌, ◌++◌, Ok, Err, ℕ, codes, refl}
use Rattle.pfr_terms.specs.declared.error.ConfError.{ConfError}
use Rattle.pfr_terms.specs.declared.error.ConfErrorKind.TheVariants.{OutOfOrder}
use Rattle.pfr_terms.specs.Input.{Input, Outcome, Parser, and_then, pure, plain_ahead, line_ahead, sees_word, taken, eat_word, faulty}
use Rattle.pfr_conf.specs.declared.options.SetOption.{SetOption}
use Rattle.pfr_conf.specs.declared.translation.TranslationStatement.{TranslationStatement}
use Rattle.pfr_conf.specs.declared.statement.Section.{Section}
use Rattle.pfr_conf.specs.declared.statement.Section.TheVariants as section
use Rattle.pfr_conf.specs.declared.statement.Statement.{Statement}
use Rattle.pfr_conf.specs.declared.statement.Statement.TheVariants as s
use Rattle.pfr_conf.specs.Macros.{macro_definition}
use Rattle.pfr_conf.specs.Tables.{table_definition}
use Rattle.pfr_conf.specs.Options.{set_option}
use Rattle.pfr_conf.specs.Anchors.{statement}
use Rattle.pfr_conf.specs.Translations.{translation_statement}
use Rattle.pfr_conf.specs.Statements.{Lines, begins_filter, begins_translation, may_set, may_translate, any_statement, set_statement, rule_or_definition, filter_statement, definition, translation_or_macro, translation_line, rule_to_translate, macro_statement, table_statement}
use Rattle.pfr_conf.specs.Following.{MayFollow, is_translation, is_filter, has_option, has_translation, has_filter}
use Rattle.pfr_conf.proofs.TextStays.{Given, Keeps}

-- the section behind a statement
abbrev pub after : Section → Statement → Section
after before (s.Filter rule) = section.Filter
after before (s.Translation rule) = section.Translation
after before other = before

-- what may come in one section may come in the other too, or isn't there
abbrev pub Allows : Bool → Bool → Bool → Type 0
Allows true false has = has ≡ false
Allows may other has = Unit {0}

-- what was read in one section may stand in another
abbrev pub Fits : Section → Section → List Statement → Type 0
Fits before other found = Allows (may_set before) (may_set other) (has_option found) × Allows (may_translate before) (may_translate other) (has_translation found)

-- one statement more; the same one behind other statements, if it may stand there
abbrev pub Shifts : Lines → Lines → Outcome Lines → Outcome Lines → Type 0
Shifts before other (Ok r) y = (x : Statement) × (r.0 ≡ (after before.0 x, before.1 ++ x ∷ [])) × ((more : List Statement) → Fits before.0 other.0 (x ∷ more) → y ≡ Ok ((after other.0 x, other.1 ++ x ∷ []), r.1))
Shifts before other (Err e) y = Unit {0}

shifts_then : {A : Type 0} (before other : Lines) (x : Outcome A) (f g : A → Parser Lines) → ((a : A) (i : Input) → Shifts before other (f a i) (g a i)) → Shifts before other (and_then x f) (and_then x g)
shifts_then before other (Ok r) f g shifts = shifts r.0 r.1
shifts_then before other (Err e) f g shifts = tt

shifts_never : {A : Type 0} (before other : Lines) (x : Outcome A) (f : A → Parser Lines) (e : ConfError) → ((a : A) (i : Input) → Shifts before other (f a i) (Err e)) → Shifts before other (and_then x f) (Err e)
shifts_never before other (Ok r) f e shifts = shifts r.0 r.1
shifts_never before other (Err g) f e shifts = tt

-- what is there isn't allowed if it may not come
not_allowed : (may other : Bool) → may ≡ true → other ≡ false → Allows may other true → ⊥
not_allowed true false is other_is allows = absurd (cc)
not_allowed true true is other_is allows = absurd (cc)
not_allowed false other is other_is allows = absurd (cc)

shifts_if : (before other : Lines) (b : Bool) (x y x' y' : Outcome Lines) → Shifts before other x x' → Shifts before other y y' → Shifts before other (if b then x else y) (if b then x' else y')
shifts_if before other true x y x' y' first second = first
shifts_if before other false x y x' y' first second = second

shifts_either : (before other : Lines) (b : Bool) (f g f' g' : Parser Lines) (i : Input) → Shifts before other (f i) (f' i) → Shifts before other (g i) (g' i) → Shifts before other ((if b then f else g) i) ((if b then f' else g') i)
shifts_either before other true f g f' g' i first second = first
shifts_either before other false f g f' g' i first second = second

filter_shifts : (before other : Lines) (i : Input) → Shifts before other (filter_statement before.1 i) (filter_statement other.1 i)
unfolding filter_statement
filter_shifts before other i =
    shifts_then before other (statement 16 i) (λ rule. pure (section.Filter, before.1 ++ s.Filter rule ∷ [])) (λ rule. pure (section.Filter, other.1 ++ s.Filter rule ∷ []))
    (λ rule j. (s.Filter rule, refl, λ more fits. refl))

table_shifts : (line : ℕ) (before other : Lines) (i : Input) → Shifts before other (table_statement line before i) (table_statement line other i)
unfolding table_statement
table_shifts line before other i =
    shifts_then before other (table_definition line i) (λ table. pure (before.0, before.1 ++ s.Table table ∷ [])) (λ table. pure (other.0, other.1 ++ s.Table table ∷ []))
    (λ table j. (s.Table table, refl, λ more fits. refl))

macro_shifts : (before other : Lines) (i : Input) → Shifts before other (macro_statement before i) (macro_statement other i)
unfolding macro_statement
macro_shifts before other i =
    shifts_then before other (macro_definition i) (λ definition. pure (before.0, before.1 ++ s.Macro definition ∷ [])) (λ definition. pure (other.0, other.1 ++ s.Macro definition ∷ []))
    (λ definition j. (s.Macro definition, refl, λ more fits. refl))

abbrev with_rule : Lines → TranslationStatement → Parser Lines
with_rule so_far rule = pure (section.Translation, so_far.1 ++ s.Translation rule ∷ [])

-- behind a filter rule no translation rule stands
translation_line_shifts : (before other : Lines) (may other_may : Bool) → may_translate before.0 ≡ may → may_translate other.0 ≡ other_may → (i : Input)
    → Shifts before other (if may then rule_to_translate before.1 i else faulty OutOfOrder i) (if other_may then rule_to_translate other.1 i else faulty OutOfOrder i)
unfolding rule_to_translate
translation_line_shifts before other false other_may is other_is i = tt
translation_line_shifts before other true false is other_is i =
    shifts_never before other (translation_statement i) (with_rule before) _ (λ rule j. (s.Translation rule, refl, λ more fits. absurd (not_allowed _ _ is other_is fits.1)))
translation_line_shifts before other true true is other_is i =
    shifts_then before other (translation_statement i) (with_rule before) (with_rule other) (λ rule j. (s.Translation rule, refl, λ more fits. refl))

translation_shifts : (before other : Lines) (i : Input) → Shifts before other (translation_or_macro before i) (translation_or_macro other i)
unfolding translation_line
translation_shifts before other i =
    shifts_if before other (begins_translation (plain_ahead i)) (translation_line before i) (macro_statement before i) (translation_line other i) (macro_statement other i)
    (translation_line_shifts before other (may_translate before.0) (may_translate other.0) refl refl i) (macro_shifts before other i)

definition_shifts : (before other : Lines) (line : ℕ) (i : Input) → Shifts before other (definition before line i) (definition other line i)
definition_shifts before other line i =
    shifts_then before other (eat_word (codes "table") i) (λ is_table. if is_table then table_statement line before else translation_or_macro before) (λ is_table. if is_table then table_statement line other else translation_or_macro other)
    (λ is_table j. shifts_either before other is_table (table_statement line before) (translation_or_macro before) (table_statement line other) (translation_or_macro other) j (table_shifts line before other j) (translation_shifts before other j))

rule_shifts : (before other : Lines) (i : Input) → Shifts before other (rule_or_definition before i) (rule_or_definition other i)
unfolding rule_or_definition
rule_shifts before other i =
    shifts_if before other (begins_filter (plain_ahead i)) (filter_statement before.1 i) (definition before (line_ahead i) i) (filter_statement other.1 i) (definition other (line_ahead i) i)
    (filter_shifts before other i) (definition_shifts before other (line_ahead i) i)

abbrev with_option : Lines → SetOption → Parser Lines
with_option so_far option = pure (so_far.0, so_far.1 ++ s.Option option ∷ [])

-- behind a rule no option stands
set_shifts : (before other : Lines) (may other_may : Bool) → may_set before.0 ≡ may → may_set other.0 ≡ other_may → (i : Input)
    → Shifts before other (if may then set_statement before i else faulty OutOfOrder i) (if other_may then set_statement other i else faulty OutOfOrder i)
unfolding set_statement
set_shifts before other false other_may is other_is i = tt
set_shifts before other true false is other_is i =
    shifts_never before other (and_then (taken i) (λ done. set_option)) (with_option before) _ (λ option j. (s.Option option, refl, λ more fits. absurd (not_allowed _ _ is other_is fits.0)))
set_shifts before other true true is other_is i =
    shifts_then before other (and_then (taken i) (λ done. set_option)) (with_option before) (with_option other) (λ option j. (s.Option option, refl, λ more fits. refl))

pub statement_shifts : (before other : Lines) (i : Input) → Shifts before other (any_statement before i) (any_statement other i)
unfolding any_statement
statement_shifts before other i =
    shifts_if before other (not (sees_word (codes "set") i)) (rule_or_definition before i) _ (rule_or_definition other i) _ (rule_shifts before other i) (set_shifts before other (may_set before.0) (may_set other.0) refl refl i)

-- ---- sections

-- before the first rule options may stand, and before the first filter rule translation rules
abbrev pub InOrder : Lines → Type 0
InOrder so_far = ((has_translation so_far.1 || has_filter so_far.1) ≡ false → may_set so_far.0 ≡ true) × (has_filter so_far.1 ≡ false → may_translate so_far.0 ≡ true)

sets_behind : (before : Section) (x : Statement) → may_set before ≡ true → is_translation x ≡ false → is_filter x ≡ false → may_set (after before x) ≡ true
sets_behind before (s.Filter rule) may no_translation no_filter = absurd (cc)
sets_behind before (s.Translation rule) may no_translation no_filter = absurd (cc)
sets_behind before (s.Macro found) may no_translation no_filter = may
sets_behind before (s.Table found) may no_translation no_filter = may
sets_behind before (s.Option found) may no_translation no_filter = may

translates_behind : (before : Section) (x : Statement) → may_translate before ≡ true → is_filter x ≡ false → may_translate (after before x) ≡ true
translates_behind before (s.Filter rule) may no_filter = absurd (cc)
translates_behind before (s.Translation rule) may no_filter = refl
translates_behind before (s.Macro found) may no_filter = may
translates_behind before (s.Table found) may no_filter = may
translates_behind before (s.Option found) may no_filter = may

neither_of : (first second : Bool) → (first || second) ≡ false → (first ≡ false) × (second ≡ false)
neither_of true second none = absurd (cc)
neither_of false second none = (refl, none)

either_none : (first second : Bool) → first ≡ false → second ≡ false → (first || second) ≡ false
either_none true second one other = absurd (cc)
either_none false second one other = other

no_translation_of : (xs : List Statement) (x : Statement) → has_translation (xs ++ x ∷ []) ≡ false → (has_translation xs ≡ false) × (is_translation x ≡ false)
no_translation_of [] x none = (refl, (neither_of (is_translation x) false none).0)
no_translation_of (y ∷ xs) x none =
    let first = neither_of (is_translation y) (has_translation (xs ++ x ∷ [])) none in
    let rest = no_translation_of xs x first.1 in
    (either_none (is_translation y) (has_translation xs) first.0 rest.0, rest.1)

no_filter_of : (xs : List Statement) (x : Statement) → has_filter (xs ++ x ∷ []) ≡ false → (has_filter xs ≡ false) × (is_filter x ≡ false)
no_filter_of [] x none = (refl, (neither_of (is_filter x) false none).0)
no_filter_of (y ∷ xs) x none =
    let first = neither_of (is_filter y) (has_filter (xs ++ x ∷ [])) none in
    let rest = no_filter_of xs x first.1 in
    (either_none (is_filter y) (has_filter xs) first.0 rest.0, rest.1)

order_behind : (before : Lines) (x : Statement) → InOrder before → InOrder (after before.0 x, before.1 ++ x ∷ [])
order_behind before x holds = (
  λ none.
      let parts = neither_of (has_translation (before.1 ++ x ∷ [])) (has_filter (before.1 ++ x ∷ [])) none in
      let translations = no_translation_of before.1 x parts.0 in
      let filters = no_filter_of before.1 x parts.1 in
      sets_behind before.0 x (holds.0 (either_none (has_translation before.1) (has_filter before.1) translations.0 filters.0)) translations.1 filters.1,
  λ none.
      let filters = no_filter_of before.1 x none in
      translates_behind before.0 x (holds.1 filters.0) filters.1,
)

order_kept : (before : Lines) (x y : Outcome Lines) → Shifts before before x y → InOrder before → Given InOrder x
order_kept before (Ok r) y (x, is, same) holds = rw is (order_behind before x holds)
order_kept before (Err e) y shifts holds = tt

pub keeps_order : Keeps InOrder
keeps_order so_far i holds = order_kept so_far _ _ (statement_shifts so_far so_far i) holds

-- of those before there is none, or of these
allowed_by : (may has before : Bool) → ((before ≡ false) ⊎ (has ≡ false)) → (before ≡ false → may ≡ true) → Allows true may has
allowed_by may has before (inl none) holds = rw (holds none) tt
allowed_by true has before (inr none) holds = tt
allowed_by false has before (inr none) holds = none

pub fits_behind : (so_far : Lines) (found : List Statement) → InOrder so_far → MayFollow so_far.1 found → Fits section.Options so_far.0 found
fits_behind so_far found holds follow = (allowed_by _ _ _ follow.options holds.0, allowed_by _ _ _ follow.translations holds.1)

allowed_less : (may other has : Bool) → Allows may other true → Allows may other has
allowed_less true false has allows = absurd (cc)
allowed_less true true has allows = tt
allowed_less false other has allows = tt

pub fits_on : (before other : Section) (x : Statement) (more : List Statement) → Fits before other (x ∷ more) → Fits (after before x) (after other x) more
fits_on before other (s.Filter rule) more fits = (tt, tt)
fits_on before other (s.Translation rule) more fits = (tt, tt)
fits_on before other (s.Macro found) more fits = fits
fits_on before other (s.Table found) more fits = fits
fits_on before other (s.Option found) more fits = (allowed_less (may_set before) (may_set other) (has_option more) fits.0, fits.1)
