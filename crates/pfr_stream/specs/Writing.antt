-- A text on its way to a sink: a part was written, and a part is gathered to be written.
use Rattle.std.specs.Prelude.{ℕ, List, ◌++◌}
use Rattle.pfr_capture.specs.Device.{Added, GrewByPart}

-- Whatever text was on its way, it is longer by a piece.
abbrev pub Appends : (piece gathered gathered' written written' : List ℕ) → Type 0
Appends piece gathered gathered' written written' =
    (start text : List ℕ) → Added start written text gathered → Added start written' (text ++ piece) gathered'

-- Whatever text was on its way, and would be longer by a piece, a beginning of it was written that lacks at least its last byte.
abbrev pub Breaks : (piece gathered written written' : List ℕ) → Type 0
Breaks piece gathered written written' =
    (start text : List ℕ) → Added start written text gathered → GrewByPart start written' (text ++ piece)
