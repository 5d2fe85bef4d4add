-- What the elements of a list come to: each means one thing, and the use of a macro all things of its value.
use Rattle.std.specs.Prelude.{◌≡◌, ◌≢◌, ℕ, ◌+◌, Bool, true, false, nat_lt, nat_le, if◌then◌else◌, List, [], ◌∷◌, ◌++◌, length, map, fold, max, min, Option, Some, None, Result, Ok, Err}
use Rattle.std.specs.Option.{option_map}
use Rattle.pfr_words.specs.declared.sign.Sign.TheVariants as s
use Rattle.pfr_words.specs.Words.{words}
use Rattle.pfr_words.specs.declared.word.Word.{Word}
use Rattle.pfr_terms.specs.declared.error.ConfError.{ConfError}
use Rattle.pfr_terms.specs.declared.error.ConfErrorKind.TheVariants.{UndefinedTable, Memory}
use Rattle.pfr_terms.specs.Faults.{lower}
use Rattle.pfr_terms.specs.declared.name.MacroUse.{MacroUse}
use Rattle.pfr_terms.specs.Input.{Input, Parser, Outcome, ◌>>=◌, pure, loop, note, finish, eat_sign, open_list, close_list, of_value, unknown_word}
use Rattle.pfr_elements.specs.declared.definition.ListMeaning.{ListMeaning}
use Rattle.pfr_elements.specs.declared.definition.ListMeanings.{ListMeanings}
use Rattle.pfr_elements.specs.declared.definition.Taken.{Taken}
use Rattle.pfr_elements.specs.declared.definition.Taken.TheVariants as taken
use Rattle.pfr_elements.specs.declared.scope.Scope.{Scope}
use Rattle.pfr_elements.specs.declared.element.Elements as E
use Rattle.pfr_elements.specs.declared.element.ListUse.{ListUse}
use Rattle.pfr_elements.specs.Values.{taken_at}

-- ---- what may stand in a list

pub record Kind (A B : Type 0) : Type 0 where
  -- how it is read
  pub form : Parser A
  -- the macro that it uses, if it is a use and nothing else
  pub use_in : A → Option MacroUse
  -- whether it has a `!`
  pub negated : A → Bool
  -- what it means, if it is no use
  pub meaning : Scope → A → Result B ConfError
  -- what a thing of a macro's value means behind a `!`
  pub turned : B → B
  -- how many of the ruleset's tables have to be defined for a thing
  pub tables : B → ℕ
  -- what a macro's value means as a list of this kind
  pub list_in : ListMeanings → ListMeaning B

-- ---- one by one

-- the most elements that a list may have
abbrev pub most_elements : ℕ
most_elements = 1048576

abbrev pub none_yet : {A : Type 0} → E.Elements A
none_yet = record { items = []; fault = None; count = 0 }

abbrev pub first_fault : Option ConfError → ConfError → Option ConfError
first_fault (Some first) second = Some first
first_fault None second = Some second

-- an element at fault counts as one
abbrev pub with_fault : {A : Type 0} → ConfError → E.Elements A → E.Elements A
with_fault e found = record { items = found.items; fault = first_fault found.fault e; count = found.count + 1 }

abbrev pub with_meaning : {A : Type 0} → Result A ConfError → E.Elements A → E.Elements A
with_meaning (Ok x) found = record { items = found.items ++ x ∷ []; fault = found.fault; count = found.count + 1 }
with_meaning (Err e) found = with_fault e found

-- ---- the value of a macro

-- a fault that isn't of the words is gathered with theirs
abbrev pub noted : {A : Type 0} → Result A ConfError → Parser (Option A)
noted (Ok x) = pure (Some x)
noted (Err e) = do
  _ ← note e
  pure None

-- one thing in a value, and what it means
abbrev pub value_item : {A B : Type 0} → Kind A B → Scope → Parser (Option B)
value_item kind scope = do
  x ← kind.form
  noted (kind.meaning scope x)

abbrev pub with_some : {A : Type 0} → List A → Option A → List A
with_some found None = found
with_some found (Some x) = found ++ x ∷ []

-- one thing more behind those that were found
unfoldable pub put_item : {A : Type 0} → Parser (Option A) → List A → Parser (List A)
put_item item found = do
  x ← item
  pure (with_some found x)

abbrev pub value_member : {A : Type 0} → Parser (Option A) → (List A → Parser (List A)) → List A → Parser (List A)
value_member item more found = do
  longer ← put_item item found
  is_end ← close_list
  if is_end then pure longer else (do
    _ ← eat_sign s.Comma
    more longer)

abbrev pub members_behind : {A : Type 0} → Parser (Option A) → List A → Parser (List A)
members_behind item found = loop (value_member item) found

-- one thing more, or several in braces, and nothing behind them
unfoldable pub items_behind : {A : Type 0} → Parser (Option A) → List A → Parser (List A)
items_behind item found = do
  is_braced ← open_list
  longer ← (if is_braced then members_behind item found else put_item item found)
  _ ← finish
  pure longer

unfoldable pub value_items : {A : Type 0} → Parser (Option A) → Parser (List A)
value_items item = items_behind item []

-- what a function promises that reads, and puts what it reads into a list: the outcome, unless memory is refused
abbrev pub Puts : {A R : Type 0} → Outcome A → Result R ConfError → A → Input → Type 0
Puts outcome (Ok done) found new = outcome ≡ Ok (found, new)
Puts outcome (Err e) found new = e.kind ≢ Memory → outcome ≡ Err e

-- the same fault on this line
abbrev pub at_line : ℕ → ConfError → ConfError
at_line line e = record { line = line; kind = e.kind }

-- what a value means as a list; `tables` says how many of the ruleset's tables have to be defined for a thing
abbrev pub list_meaning : {A : Type 0} → (A → ℕ) → Outcome (List A) → ListMeaning A
list_meaning tables (Ok p) = record { items = p.0; tables = fold (λ most x. max most (tables x)) 0 p.0; fault = p.1.gathered }
list_meaning tables (Err e) = record { items = []; tables = 0; fault = Some e }

-- what a value means that is at fault
abbrev pub faulty : {A : Type 0} → ConfError → ListMeaning A
faulty e = record { items = []; tables = 0; fault = Some e }

abbrev pub undefined_table : ℕ → ConfError
undefined_table line = record { line = line; kind = UndefinedTable }

-- all faults of a value stand where it is used, and the lowest is reported; a table that isn't defined there is one
abbrev pub fault_at : {A : Type 0} → ℕ → ℕ → ListMeaning A → Option ConfError
fault_at line defined meant =
    if nat_le meant.tables defined then option_map (at_line line) meant.fault
    else Some (lower (option_map (at_line line) meant.fault) (undefined_table line))

abbrev pub with_list_by : {A : Type 0} → Option ConfError → Bool → (A → A) → List A → E.Elements A → E.Elements A
with_list_by (Some e) keeps turned items found = with_fault e found
with_list_by None keeps turned items found =
    record { items = if keeps then found.items ++ map turned items else found.items; fault = found.fault; count = found.count + min (length items) (most_elements + 1) }

abbrev pub turned_if : {A : Type 0} → Bool → (A → A) → A → A
turned_if is_negated turned x = if is_negated then turned x else x

-- the things of a value; more than a list may have count as one more than that; if nothing is made of the list, they
-- are only counted
abbrev pub with_list : {A B : Type 0} → Kind A B → ListUse → ListMeaning B → E.Elements B → E.Elements B
with_list kind used meant found =
    with_list_by (fault_at used.line used.defined meant) used.keeps (turned_if used.is_negated kind.turned) meant.items found

-- ---- the value of a macro that is one thing

abbrev pub one_or_unknown : {A : Type 0} → ℕ → Option A → Result A ConfError
one_or_unknown line (Some x) = Ok x
one_or_unknown line None = Err (unknown_word line)

abbrev pub one_gathered : {A : Type 0} → ℕ → Option A → Option ConfError → Result A ConfError
one_gathered line found (Some e) = Err (at_line line e)
one_gathered line found None = one_or_unknown line found

-- all faults of it stand where it is used
abbrev pub one_read : {A : Type 0} → ℕ → Outcome (Option A) → Result A ConfError
one_read line (Err e) = Err (at_line line e)
one_read line (Ok p) = one_gathered line p.0 p.1.gathered

-- the same, with its fault on this line
abbrev pub fault_on : {A : Type 0} → ℕ → Result A ConfError → Result A ConfError
fault_on line (Ok x) = Ok x
fault_on line (Err e) = Err (at_line line e)

-- ---- a list

-- what words mean as a list
abbrev pub listed : {A B : Type 0} → Kind A B → Scope → List Word → ListMeaning B
listed kind scope ws = list_meaning kind.tables (value_items (value_item kind scope) (of_value ws))

abbrev pub with_taken : {A B : Type 0} → Kind A B → Scope → ListUse → Result Taken ConfError → E.Elements B → E.Elements B
with_taken kind scope used (Err e) found = with_fault e found
with_taken kind scope used (Ok (taken.TooLong true)) found = record found { count = found.count + (most_elements + 1) }
with_taken kind scope used (Ok (taken.TooLong false)) found = with_fault (unknown_word used.line) found
with_taken kind scope used (Ok (taken.Word word)) found = with_list kind used (listed kind scope (words word)) found
with_taken kind scope used (Ok (taken.Whole text)) found = with_list kind used (kind.list_in text.meanings.lists) found

abbrev pub with_use : {A B : Type 0} → Kind A B → Scope → Bool → Bool → MacroUse → E.Elements B → E.Elements B
with_use kind scope keeps is_negated found =
    with_taken kind scope (record { line = found.line; defined = scope.defined; is_negated = is_negated; keeps = keeps }) (taken_at scope.macros is_negated found)

abbrev pub with_written : {A B : Type 0} → Kind A B → Scope → Bool → A → Option MacroUse → E.Elements B → E.Elements B
with_written kind scope keeps x None = with_meaning (kind.meaning scope x)
with_written kind scope keeps x (Some found) = with_use kind scope keeps (kind.negated x) found

-- one more element of a list
unfoldable pub with_element : {A B : Type 0} → Kind A B → Scope → Bool → E.Elements B → A → E.Elements B
with_element kind scope keeps found x = with_written kind scope keeps x (kind.use_in x) found

-- the elements of a list; those behind the one that is too many aren't looked at
abbrev pub elements_from : {A B : Type 0} → (E.Elements B → A → E.Elements B) → E.Elements B → List A → E.Elements B
elements_from one found [] = found
elements_from one found (x ∷ xs) = if nat_lt most_elements found.count then found else elements_from one (one found x) xs

-- what a list comes to
abbrev pub elements_of : {A B : Type 0} → Kind A B → Scope → Bool → List A → E.Elements B
elements_of kind scope keeps list = elements_from (with_element kind scope keeps) none_yet list
