-- What the laws of the merge say.
use Rattle.std.specs.Prelude.{◌≡◌, ℕ, ◌==◌, Bool, List, [], ◌∷◌, Some, slice_get}
use Rattle.std.specs.List.{filter}
use Rattle.pfr_merge.specs.Arrivals.{Captured, Event, came, refused, events_from, events_of}
use Rattle.pfr_merge.specs.Merging.{IsMerge, merged}

-- lists have one merge at most
abbrev pub OneMerge : Type 0
OneMerge = (lists : List (List Event)) (one other : List Event) → IsMerge lists one → IsMerge lists other → one ≡ other

-- and `merged` computes it
abbrev pub MergedIsMerge : Type 0
MergedIsMerge = (lists : List (List Event)) → IsMerge lists (merged lists)

-- an event is of the capture at a place
abbrev pub is_of : ℕ → Event → Bool
is_of place (came a) = a.place == place
is_of place (refused other e) = other == place

-- in the merge of several captures, the events of one of them are all of its events, in their order
abbrev pub EachKeepsItsOrder : Type 0
EachKeepsItsOrder =
    (captures : List Captured) (place : ℕ) (capture : Captured)
    → slice_get captures place ≡ Some capture
    → filter (is_of place) (merged (events_from 0 captures)) ≡ events_of place capture

-- one capture's merge is that capture
abbrev pub OneCaptureIsItsMerge : Type 0
OneCaptureIsItsMerge = (capture : Captured) → merged (events_from 0 (capture ∷ [])) ≡ events_of 0 capture
