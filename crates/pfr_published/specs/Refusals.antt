-- Why a table doesn't take a change.
use Rattle.std.specs.Prelude.{◌≡◌, ℕ, List, [], ◌∷◌, ◌++◌, Option, None, Some}
use Rattle.pfr_states.specs.declared.change.Change.{Change}
use Rattle.pfr_states.specs.declared.change.Change.TheVariants.{Apply, Purge}
use Rattle.pfr_states.specs.declared.change.TableError.{TableError}
use Rattle.pfr_states.specs.States.{StateTable, refusal, table_of}

-- why a table doesn't take a change; it takes every purge
abbrev pub refusal_of : Change → StateTable → Option TableError
refusal_of (Purge clock) table = None
refusal_of (Apply change) table = refusal change table.limit table.states

-- the table that a list makes refuses the change that a longer list adds to it
abbrev pub IsRefusal : ℕ → List Change → List Change → TableError → Type 0
IsRefusal limit list longer error =
    (change : Change) → longer ≡ list ++ change ∷ [] → refusal_of change (table_of limit list) ≡ Some error
