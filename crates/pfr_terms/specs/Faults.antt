-- Which of several faults is reported.
use Rattle.std.specs.Prelude.{◌≤◌, ℕ, ◌==◌, ◌&&◌, ◌||◌, Bool, nat_le, nat_lt, if◌then◌else◌, Option, Some, None}
use Rattle.pfr_terms.specs.declared.error.ConfError.{ConfError}
use Rattle.pfr_terms.specs.declared.error.ConfErrorKind.{ConfErrorKind}
use Rattle.pfr_terms.specs.declared.error.ConfErrorKind.TheVariants.{BadByte, Unterminated, UnknownWord, LeftOut, BadNumber, BadAddress, OutOfOrder, TooDeep, Memory, UndefinedMacro, UndefinedTable, TooMany, Clash}

-- of two faults at one word the one with the lower number is reported
unfoldable pub kind_number : ConfErrorKind → ℕ
kind_number BadByte = 1
kind_number Unterminated = 2
kind_number UnknownWord = 3
kind_number (LeftOut name) = 4
kind_number BadNumber = 5
kind_number BadAddress = 6
kind_number OutOfOrder = 7
kind_number TooDeep = 8
kind_number Memory = 9
kind_number UndefinedMacro = 10
kind_number UndefinedTable = 11
kind_number TooMany = 12
kind_number Clash = 13

abbrev pub goes_first : ConfError → ConfError → Bool
goes_first first second =
    nat_lt (kind_number first.kind) (kind_number second.kind)
    || (kind_number first.kind == kind_number second.kind && nat_le first.line second.line)

-- of two faults the one of the lower kind; if the kinds are equal, the one on the lower line; if the lines are too, the
-- first
unfoldable pub lower : Option ConfError → ConfError → ConfError
lower None second = second
lower (Some first) second = if goes_first first second then first else second

-- the number of a fault's kind is at most the numbers of the kinds of two others
abbrev pub IsOfLowerKind : ConfError → ConfError → ConfError → Type 0
IsOfLowerKind reported first second = (kind_number reported.kind ≤ kind_number first.kind) × (kind_number reported.kind ≤ kind_number second.kind)

-- the line of a fault is at most the lines of two others
abbrev pub IsOnLowerLine : ConfError → ConfError → ConfError → Type 0
IsOnLowerLine reported first second = (reported.line ≤ first.line) × (reported.line ≤ second.line)
