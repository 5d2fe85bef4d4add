-- What a value means wherever it may be used, and what a macro is defined as.
use Rattle.std.specs.Prelude.{◌≡◌, ℕ, ◌==◌, true, false, if◌then◌else◌, List, [], ◌∷◌, ◌++◌, length, Option, Some, None}
use Rattle.pfr_words.specs.declared.word.Word.{Word}
use Rattle.pfr_words.specs.Words.{words}
use Rattle.pfr_elements.specs.declared.definition.ListMeaning.{ListMeaning}
use Rattle.pfr_elements.specs.declared.definition.ListMeanings.{ListMeanings}
use Rattle.pfr_elements.specs.declared.definition.Meanings.{Meanings}
use Rattle.pfr_elements.specs.declared.definition.Definition.{Definition}
use Rattle.pfr_elements.specs.declared.definition.Definition.TheVariants as d
use Rattle.pfr_elements.specs.declared.macros.Macros.{Macros}
use Rattle.pfr_elements.specs.declared.scope.Scope.{Scope}
use Rattle.pfr_elements.specs.declared.value.Draft.{Draft}
use Rattle.pfr_elements.specs.declared.value.Value.{Value}
use Rattle.pfr_elements.specs.declared.value.Value.TheVariants.{Text, TooLong}
use Rattle.pfr_elements.specs.Elements.{Kind, listed}
use Rattle.pfr_elements.specs.Hosts.{form_read, host_kind, entry_kind}
use Rattle.pfr_elements.specs.Single.{single_read}
use Rattle.pfr_elements.specs.Terms.{interface_kind, skipped_kind, protocol_kind, icmp_kind, port_kind}
use Rattle.pfr_elements.specs.Values.{is_sound, only_plain}

abbrev pub no_list : {A : Type 0} → ListMeaning A
no_list = record { items = []; tables = 0; fault = None }

-- lists without things
abbrev pub no_lists : ListMeanings
no_lists = record { interfaces = no_list; skipped = no_list; protocols = no_list; icmp_types = no_list; hosts = no_list; entries = no_list; ports = no_list }

unfoldable pub list_meanings : Scope → List Word → ListMeanings
list_meanings scope ws = record {
  interfaces = listed interface_kind scope ws;
  skipped = listed skipped_kind scope ws;
  protocols = listed protocol_kind scope ws;
  icmp_types = listed icmp_kind scope ws;
  hosts = listed host_kind scope ws;
  entries = listed entry_kind scope ws;
  ports = listed port_kind scope ws;
}

-- if words mean these lists, this is what the words mean as a list of one kind
abbrev pub IsListOf : {A B : Type 0} → Kind A B → ListMeanings → ListMeaning B → Type 0
IsListOf kind meanings found = (scope : Scope) (ws : List Word) → meanings ≡ list_meanings scope ws → found ≡ listed kind scope ws

-- what words mean wherever they may stand; the lines of their faults will be those of uses
unfoldable pub meanings_of : Scope → List Word → Meanings
meanings_of scope ws = record {
  is_one_word = length ws == 1;
  word = only_plain ws;
  lists = list_meanings scope ws;
  form = form_read scope.interfaces 0 ws;
  target = single_read true scope 0 ws;
  source = single_read false scope 0 ws;
}

-- what a text means, if a use may stand for its words
abbrev pub text_meanings : Scope → List ℕ → Option Meanings
text_meanings scope text = if is_sound text then Some (meanings_of scope (words text)) else None

abbrev pub text_definition : List ℕ → Option Meanings → Definition
text_definition text None = d.Unsound
text_definition text (Some meanings) = d.Text (record { bytes = text; meanings = meanings })

abbrev pub definition_by : Scope → Value → Definition
definition_by scope (TooLong is_list) = d.TooLong is_list
definition_by scope (Text text) = text_definition text (text_meanings scope text)

-- what a value means if all tables of the ruleset are defined
unfoldable pub definition_of : Scope → Value → Definition
definition_of scope value = definition_by (record scope { defined = length scope.tables }) value

abbrev pub with_definition : List ℕ → Definition → ℕ → Macros → Macros
with_definition name definition spliced macros =
    record { names = macros.names ++ name ∷ []; definitions = macros.definitions ++ definition ∷ []; spliced = spliced }

-- with one macro more, in the place of an earlier one of this name
abbrev pub with_macro : List ℕ → Draft → Scope → Scope
with_macro name draft scope =
    record scope { macros = with_definition name (definition_of scope draft.value) draft.spliced scope.macros }
