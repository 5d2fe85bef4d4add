-- The lines of states that a run writes.
use Rattle.std.specs.Prelude.{◌≡◌, List, [], ◌∷◌, ◌++◌, codes, ℕ}
use Rattle.pfr_commit.specs.Lines.{state_line, verdict_line}
use Rattle.pfr_listing.specs.declared.line.Bound.{Bound}
use Rattle.pfr_listing.specs.declared.line.Bound.TheVariants.{Unsaid, All, To}
use Rattle.pfr_listing.specs.declared.judged.Judged.{Judged}
use Rattle.pfr_listing.specs.declared.line.Listed.{Listed}

-- what is said of a state's interface behind the rest of its line, if the run has several
abbrev pub bound_text : Bound → List ℕ
bound_text Unsaid = []
bound_text All = codes " i=-"
bound_text (To name) = codes " i=" ++ name

-- A line, without its newline, lists a state: it is what a run with one interface writes of it, and what is said of the interface.
abbrev pub IsLineOf : Listed → List ℕ → Type 0
IsLineOf listed line = (plain : List ℕ) × ((state_line [] listed.state ≡ plain ++ 10 ∷ []) × (line ≡ plain ++ bound_text listed.bound))

-- A line, without its newline, tells of a packet: it is what a run with one interface writes of it, and what is said of the interface.
abbrev pub IsVerdictLineOf : Judged → List ℕ → Type 0
IsVerdictLineOf judged line =
    (plain : List ℕ) × ((verdict_line [] judged.number judged.clock (record { 0 = 0 }) judged.outcome ≡ plain ++ 10 ∷ []) × (line ≡ plain ++ bound_text judged.bound))

-- a text has just the lines of these states, in their order
abbrev pub AreLinesOf : List Listed → List ℕ → Type 0
AreLinesOf [] text = text ≡ []
AreLinesOf (listed ∷ more) text = (line rest : List ℕ) × (IsLineOf listed line × ((text ≡ line ++ 10 ∷ rest) × AreLinesOf more rest))
