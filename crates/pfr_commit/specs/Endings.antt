-- The texts at the end of a run.
use Rattle.std.specs.Prelude.{ℕ, List, ◌∷◌, ◌++◌, [], codes, get_or, length}
use Rattle.std.specs.Fmt.{decimal}
use Rattle.std.specs.List.{flat_map, range_with_len}
use Rattle.pfr_ruleset.specs.declared.interface.Interface.{Interface}
use Rattle.pfr_track.specs.declared.state.State.{State}
use Rattle.pfr_commit.specs.declared.counter_line.RuleLine.{RuleLine}
use Rattle.pfr_commit.specs.declared.counters.Counters.{Counters}
use Rattle.pfr_commit.specs.declared.counters.RuleCounters.{RuleCounters}
use Rattle.pfr_commit.specs.declared.counters.Totals.{Totals}
use Rattle.pfr_commit.specs.Lines.{state_line}

-- KIND N EVALUATIONS PACKETS BYTES
unfoldable pub rule_line : List ℕ → ℕ → ℕ → ℕ → ℕ → List ℕ
rule_line kind number evaluations packets bytes =
    kind ++ (codes " " ++ (decimal number ++ (codes " " ++ (decimal evaluations ++ (codes " " ++ (decimal packets ++ (codes " " ++ (decimal bytes ++ 10 ∷ []))))))))

-- the same of a line
abbrev pub rule_text : RuleLine → List ℕ
rule_text line = rule_line line.kind.now line.number line.evaluations line.packets line.bytes

-- the line of the rule with a number
abbrev pub line_at : List ℕ → RuleCounters → ℕ → List ℕ
line_at kind counters place =
    rule_line kind place (get_or counters.evaluations place 0) (get_or counters.packets place 0) (get_or counters.bytes place 0)

-- a line for each rule
unfoldable pub rule_lines : List ℕ → RuleCounters → List ℕ
rule_lines kind counters = flat_map (line_at kind counters) (range_with_len 0 (length counters.evaluations))

-- total RECORDS PASS BLOCK RETURN SKIP
unfoldable pub total_line : ℕ → Totals → List ℕ
total_line records totals =
    codes "total " ++ (decimal records ++ (codes " " ++ (decimal totals.passed ++ (codes " " ++ (decimal totals.blocked ++ (codes " " ++ (decimal totals.returned ++ (codes " " ++ (decimal totals.skipped ++ 10 ∷ [])))))))))

-- the rules of the filter, those of translation, and the totals
unfoldable pub counters_text : ℕ → Counters → List ℕ
counters_text records counters =
    (rule_lines (codes "filter") counters.filter ++ rule_lines (codes "translation") counters.translation) ++ total_line records counters.totals

-- a line for each state, by number
unfoldable pub states_text : List Interface → List State → List ℕ
states_text interfaces states = flat_map (state_line interfaces) states
