-- What was found out ahead about the packets of a batch, at the place of each.
use Rattle.std.specs.Prelude.{◌≡◌, ◌<◌, ◌+◌, ℕ, true, IfSome, List, Option}
use Rattle.std.specs.List.{find}
use Rattle.std.specs.Arc.{arc_value}
use Rattle.pfr_packet.specs.Job.{RunJob}
use Rattle.pfr_record.specs.declared.speculation.Speculation.{Speculation}
use Rattle.pfr_commit.specs.declared.results.ResultsByPlace.{ResultsByPlace}
use Rattle.pfr_commit.specs.Results.{held_at, is_of}

-- the result at a place, if there is one
abbrev pub result_at : ℕ → ResultsByPlace → Option Speculation
result_at place results = held_at results.places.items place

-- at each of the first `count` places is the first result of its packet, if there is one; `first` is the packet's
-- number at place 0
abbrev pub AreByPlace : List Speculation → (first count : ℕ) → ResultsByPlace → Type 0
AreByPlace results first count placed = (place : ℕ) → place < count → result_at place placed ≡ find (is_of (first + place)) results

-- a speculation is of a job
abbrev pub IsOfJob : RunJob → Speculation → Type 0
IsOfJob job speculation = arc_value speculation.job ≡ job

-- if the results are marked as those of a job, the one at a place is of that job
abbrev pub IsOfJobAt : RunJob → ℕ → ResultsByPlace → Type 0
IsOfJobAt job place results = results.are_of_job ≡ true → IfSome (result_at place results) (IsOfJob job)
