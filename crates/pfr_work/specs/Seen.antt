-- What contracts see of a run's trace.
use Rattle.std.specs.Prelude.{◌≡◌, Bool, false, List, [], None}
use Rattle.std.specs.Option.{option_map, option_map_or}
use Rattle.pfr_states.specs.declared.change.Change.{Change}
use Rattle.pfr_published.specs.declared.published.Published.{Published}
use Rattle.pfr_work.specs.declared.trace.Trace.{Trace}
use Rattle.pfr_work.specs.Traces.{Seen}

module _ {W K : Type 0} where
  abbrev pub seen_of : (Published W → List Change) → (Published W → Bool) → Trace W K → Seen
  seen_of list_of is_shown trace = record {
    opened = trace.openings;
    entries = trace.batches.items;
    lost = trace.lost.items;
    shown = option_map list_of trace.published;
    is_shown = option_map_or is_shown trace.published false;
    gave_up = trace.gave_up;
  }

  -- no batch was opened, and no table published
  abbrev pub IsEmpty : Trace W K → Type 0
  IsEmpty trace = (trace.openings ≡ []) × (trace.batches.items ≡ []) × (trace.lost.items ≡ []) × (trace.published ≡ None)
