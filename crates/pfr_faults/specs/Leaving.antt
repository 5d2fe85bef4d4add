-- The words that are left without a statement that is at fault.
use Rattle.std.specs.Prelude.{ℕ, ◌+◌, ◌-◌, ◌^◌, ◌==◌, ◌&&◌, ◌||◌, Bool, true, false, nat_eq, nat_lt, if◌then◌else◌, min, List, [], ◌∷◌, ◌++◌, length, take, drop, codes, Option, Some, None}
use Rattle.std.specs.List.{slice_get, starts_with}
use Rattle.pfr_marks.specs.Marks.{begins_with, is}
use Rattle.pfr_marks.specs.declared.mark.Mark.{Mark}
use Rattle.pfr_faults.specs.declared.leaving.At.{At}
use Rattle.pfr_faults.specs.declared.leaving.Left.{Left}
use Rattle.pfr_faults.specs.declared.leaving.Part.{Part}
use Rattle.pfr_faults.specs.declared.leaving.Within.{Within}

abbrev pub sum : ℕ → ℕ → ℕ
sum a b = min (a + b) (2 ^ 64 - 1)

-- ---- where statements begin and end

-- at the beginning of a statement
abbrev pub beginning : Within
beginning = record { depth = 0; is_first = true; is_anchor = false }

-- behind a word the statement is an anchor: it begins with that word
abbrev pub is_anchor_behind : Within → Mark → Bool
is_anchor_behind within mark = if within.is_first then is (codes "anchor") mark else within.is_anchor

-- how many braces of lists are open behind a word
abbrev pub depth_behind : Within → Mark → ℕ
depth_behind within mark =
    if is (codes "{") mark then sum within.depth 1 else if is (codes "}") mark then within.depth - 1 else within.depth

abbrev pub opens_body : Within → Mark → Bool
opens_body within mark = within.is_anchor && is (codes "{") mark

-- a statement ends before a word and another one begins behind it: at the end of a line, and where an anchor's body begins or ends
abbrev pub ends_at : Within → Mark → Bool
ends_at within mark = within.depth == 0 && (is (codes "\n") mark || is (codes "}") mark || opens_body within mark)

-- where the word behind another one stands
abbrev pub behind : Within → Mark → Within
behind within mark =
    if ends_at within mark then beginning
    else record { depth = depth_behind within mark; is_first = false; is_anchor = is_anchor_behind within mark }

-- behind a word at fault: a brace that nothing closes opens nothing
abbrev pub behind_fault : Within → Mark → Bool → Within
behind_fault within mark is_open = record {
  depth = if is_open then within.depth else depth_behind within mark;
  is_first = false;
  is_anchor = is_anchor_behind within mark;
}

-- ---- the statement of a word

abbrev pub start : At
start = record { begin = 0; within = beginning }

abbrev pub at_behind : At → ℕ → Mark → At
at_behind at here mark = record { begin = if ends_at at.within mark then sum here 1 else at.begin; within = behind at.within mark }

-- where the word behind these stands, the first of which is the one at `here`
abbrev pub at_from : At → ℕ → List Mark → At
at_from at here [] = at
at_from at here (mark ∷ marks) = at_from (at_behind at here mark) (here + 1) marks

-- how many of the words behind one belong to its statement, with those before
abbrev pub rest_from : Within → ℕ → List Mark → ℕ
rest_from within before [] = before
rest_from within before (mark ∷ marks) =
    if ends_at within mark then before else rest_from (behind within mark) (before + 1) marks

-- how many of the words behind one at fault belong to its statement: none if it ends one itself
abbrev pub rest_behind : Within → Mark → Bool → List Mark → ℕ
rest_behind within fault is_open marks = if ends_at within fault then 0 else rest_from (behind_fault within fault is_open) 0 marks

-- how many words stand before the end of a statement, from the word at fault on
abbrev pub end_behind : Within → ℕ → Bool → List Mark → ℕ
end_behind within fault is_open [] = fault
end_behind within fault is_open (mark ∷ marks) = sum (sum fault 1) (rest_behind within mark is_open marks)

-- the statement of the word at `fault`
unfoldable pub statement_of : ℕ → Bool → List Mark → Part
statement_of fault is_open marks = let at = at_from start 0 (take fault marks) in record {
  from = at.begin;
  to = end_behind at.within fault is_open (drop fault marks);
}

-- ---- what stays of it

-- up to the first `>`, with it
abbrev pub angle_from : ℕ → List Mark → ℕ
angle_from before [] = 0
angle_from before (mark ∷ marks) = if is (codes ">") mark then sum before 1 else angle_from (before + 1) marks

-- the name of a table, and the first word of an anchor with a body behind it
abbrev pub kept_of : (statement behind : List Mark) → ℕ
kept_of statement behind =
    if begins_with statement (codes "table") then angle_from 0 statement
    else if begins_with statement (codes "anchor") && begins_with behind (codes "{") then 1
    else 0

-- none if these are all
abbrev pub kept_len : (statement behind : List Mark) → ℕ
kept_len statement behind = if nat_lt (kept_of statement behind) (length statement) then kept_of statement behind else 0

-- the name of the macro that a statement defines
abbrev pub defined : List Mark → Option Mark
defined [] = None
defined (name ∷ []) = None
defined (name ∷ second ∷ more) = if is (codes "=") second then Some name else None

abbrev pub name_list : Option Mark → List Mark
name_list None = []
name_list (Some name) = name ∷ []

abbrev pub names_in : List Mark → List Mark
names_in statement = name_list (defined statement)

abbrev pub all_left : List Mark → Left
all_left marks = record { marks = marks; undefined = []; cut = [] }

abbrev pub first_in : List Mark → List Mark
first_in marks = take 1 marks

abbrev pub left_of : Part → Left → Left
left_of part left =
    let before = take part.to left.marks in
    let statement = drop part.from before in
    let behind = drop part.to left.marks in
    let kept = take (kept_len statement behind) statement in
    record {
      marks = (take part.from before ++ kept) ++ behind;
      undefined = left.undefined ++ names_in statement;
      cut = left.cut ++ first_in kept;
    }

-- the words that are left without the statement of the one at `fault`
unfoldable pub left_without : ℕ → Bool → Left → Left
left_without fault is_open left = left_of (statement_of fault is_open left.marks) left

-- ---- statements that were cut down before

abbrev pub is_at : (word other : Mark) → Bool
is_at word other = word.start.offset == other.start.offset

abbrev pub is_among : Mark → List Mark → Bool
is_among word [] = false
is_among word (other ∷ others) = if is_at word other then true else is_among word others

abbrev pub is_cut_at : Option Mark → List Mark → Bool
is_cut_at None cut = false
is_cut_at (Some first) cut = is_among first cut

-- the statement of the word at `fault` was cut down before
unfoldable pub is_cut : ℕ → Bool → Left → Bool
is_cut fault is_open left = is_cut_at (slice_get left.marks (statement_of fault is_open left.marks).from) left.cut

-- ---- uses of macros whose definition is gone

-- the name of a macro that is used ends where these bytes begin
abbrev pub ends_name : List ℕ → Bool
ends_name [] = true
ends_name (b ∷ bytes) = b == 58 || b == 47

abbrev pub begins_with_name : (bytes name : List ℕ) → Bool
begins_with_name bytes name = starts_with nat_eq bytes name && ends_name (drop (length name) bytes)

-- a word uses the macro of a name, which may be one that no macro may have
abbrev pub uses : (word name : List ℕ) → Bool
uses [] name = false
uses (b ∷ word) name = b == 36 && begins_with_name word name

abbrev pub uses_any : List ℕ → List Mark → Bool
uses_any word [] = false
uses_any word (name ∷ names) = if uses word name.piece then true else uses_any word names
