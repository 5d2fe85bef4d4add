-- What a ruleset text means for the interfaces of a run.
use Rattle.std.specs.Prelude.{ℕ, nat_lt, if◌then◌else◌, List, length, Result, Ok, Err}
use Rattle.pfr_ruleset.specs.declared.interface.Interface.{Interface}
use Rattle.pfr_ruleset.specs.declared.ruleset.Ruleset.{Ruleset}
use Rattle.pfr_terms.specs.declared.error.ConfError.{ConfError}
use Rattle.pfr_terms.specs.declared.error.ConfErrorKind.TheVariants.{TooMany}
use Rattle.pfr_conf.specs.declared.statement.Statements.{Statements}
use Rattle.pfr_conf.specs.Statements.{statements_of}
use Rattle.pfr_expand.specs.Rulesets.{expanded}

abbrev pub expanded_by : Result Statements ConfError → List Interface → Result Ruleset ConfError
expanded_by (Err fault) interfaces = Err fault
expanded_by (Ok statements) interfaces = expanded statements interfaces

-- a text longer than a MiB is refused whole; else the first fault of its statements is reported, and then of what they mean
unfoldable pub ruleset_of : List ℕ → List Interface → Result Ruleset ConfError
ruleset_of text interfaces =
    if nat_lt 1048576 (length text) then Err (record { line = 1; kind = TooMany })
    else expanded_by (statements_of text) interfaces
