-- The options of a TCP header (RFC 9293, section 3.1) and the window scale among them (RFC 7323, section 2.2).
-- An option is a byte with its kind, then a byte with its whole length, and its data. Kind 0, which ends the
-- options, and kind 1, which fills up, are a byte alone. The first option of kind 3 and length 3 is the window
-- scale: a shift, at most 14.
use Rattle.std.specs.Prelude.{ℕ, zero, suc, min, Bool, not, ◌==◌, ◌&&◌, ◌||◌, nat_lt, if◌then◌else◌, List, length, drop, slice_index, Option, Some, None}

-- how long the first option is
abbrev pub option_length : List ℕ → ℕ
option_length options = if slice_index options 0 == 1 then 1 else slice_index options 1

-- the options end here: there are no bytes, or kind 0, or an option whose length isn't there, is below 2 or goes
-- past the header
abbrev pub ends : List ℕ → Bool
ends options =
    length options == 0 || (slice_index options 0 == 0
    || (not (slice_index options 0 == 1)
    && (nat_lt (length options) 2 || (nat_lt (slice_index options 1) 2 || nat_lt (length options) (slice_index options 1)))))

abbrev pub is_scale : List ℕ → Bool
is_scale options = slice_index options 0 == 3 && slice_index options 1 == 3

-- the scale among the first options; the number says how many are read at most
abbrev pub scale_within : ℕ → List ℕ → Option ℕ
scale_within zero options = None
scale_within (suc n) options =
    if ends options then None else
    if is_scale options then Some (min (slice_index options 2) 14) else
    scale_within n (drop (option_length options) options)

-- the scale that options offer: there are no more options than bytes
unfoldable pub scale_of : List ℕ → Option ℕ
scale_of options = scale_within (length options) options
