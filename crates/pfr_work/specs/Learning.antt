-- What a worker knows of the published table.
use Rattle.std.specs.Prelude.{List, Option, IfSome}
use mathlib.Core.List.{IsPrefix}
use Rattle.pfr_states.specs.declared.change.Change.{Change}

-- a viewer, if there is one, is shown no table older than what it was told of
abbrev pub HasLearned : Option (List Change) → List Change → Type 0
HasLearned viewer told = IfSome viewer (λ known. IsPrefix told known)
