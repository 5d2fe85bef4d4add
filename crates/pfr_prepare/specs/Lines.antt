-- Where the lines of a text come from.
use Rattle.std.specs.Prelude.{ℕ, ◌-◌, ◌==◌, if◌then◌else◌, List, [], ◌∷◌, drop, slice_get, Option, Some, None}
use Rattle.pfr_include.specs.declared.splicing.Origin.{Origin}
use Rattle.pfr_marks.specs.declared.mark.Place.{Place}
use Rattle.pfr_phrases.specs.Tracing.{old_place}
use Rattle.pfr_prepare.specs.declared.prepared.Prepared.{Prepared}
use Rattle.pfr_prepare.specs.declared.prepared.Spot.{Spot}

abbrev pub line_or : ℕ → Option ℕ → ℕ
line_or line None = line
line_or line (Some before) = before

-- the line that a line comes from; line 0 is no line's
abbrev pub line_before : List ℕ → ℕ → ℕ
line_before lines line = if line == 0 then 0 else line_or line (slice_get lines (line - 1))

abbrev pub own : ℕ → Origin
own line = record { file = 0; line = line }

abbrev pub origin_or : ℕ → Option Origin → Origin
origin_or line None = own line
origin_or line (Some origin) = origin

-- where a line comes from
abbrev pub origin_of : List Origin → ℕ → Origin
origin_of origins line = if line == 0 then own line else origin_or line (slice_get origins (line - 1))

-- where a line and those behind it come from
abbrev pub origins_from : List Origin → ℕ → List Origin
origins_from origins line = if line == 0 then [] else drop (line - 1) origins

-- the first of these lines that is the ruleset's own
abbrev pub own_line : ℕ → List Origin → ℕ
own_line line [] = line
own_line line (origin ∷ origins) = if origin.file == 0 then origin.line else own_line line origins

-- a text as it is
abbrev pub as_it_is : List ℕ → Prepared
as_it_is text = record { text = text; lines = []; pieces = []; origins = [] }

abbrev pub spot_at : List Origin → Place → Spot
spot_at origins place = record { origin = origin_of origins place.line; column = place.column }

-- where a place of the text comes from
abbrev pub spot_of : Prepared → Place → Spot
spot_of prepared place = spot_at prepared.origins (old_place prepared.pieces place (line_before prepared.lines place.line))

-- the line of the ruleset's own file: behind the lines of another file comes what is left of the line that names it
abbrev pub line_in : Prepared → ℕ → ℕ
line_in prepared line =
    own_line (line_before prepared.lines line) (origins_from prepared.origins (line_before prepared.lines line))
