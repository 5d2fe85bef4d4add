-- What viewers know.
use Rattle.std.proofs.Common.{◌∙◌, ◌++◌, List, sym, ap, append_assoc}
use mathlib.Core.List.{IsPrefix}
use Rattle.pfr_states.specs.declared.change.Change.{Change}

pub begins_more : (told known shown : List Change) → IsPrefix told known → IsPrefix known shown → IsPrefix told shown
begins_more told known shown first second = (first.0 ++ second.0, sym (append_assoc told first.0 second.0) ∙ ap (λ (list : List Change). list ++ second.0) first.1 ∙ second.1)
