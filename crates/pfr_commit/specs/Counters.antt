-- What is counted in a run: of each rule, and of each verdict.
use Rattle.std.specs.Prelude.{ℕ, ◌+◌, ◌-◌, ◌^◌, min, Bool, true, false, if◌then◌else◌, List, Option, Some, None, fold, replicate}
use Rattle.pfr_net.specs.declared.rule_number.RuleNumber.{RuleNumber}
use Rattle.pfr_headers.specs.declared.packet.View.{View}
use Rattle.pfr_headers.specs.declared.packet.View.TheVariants.{Ipv4, Skip, Short}
use Rattle.pfr_rules.specs.Counts.{added, raised}
use Rattle.pfr_packet.specs.declared.outcome.Outcome.{Outcome}
use Rattle.pfr_packet.specs.declared.verdict.Reason.{Reason}
use Rattle.pfr_packet.specs.declared.verdict.Reason.TheVariants as reason
use Rattle.pfr_packet.specs.declared.verdict.Verdict.{Verdict}
use Rattle.pfr_packet.specs.declared.verdict.Verdict.TheVariants as verdict
use Rattle.pfr_commit.specs.declared.counters.Counters.{Counters}
use Rattle.pfr_commit.specs.declared.counters.RuleCounters.{RuleCounters}
use Rattle.pfr_commit.specs.declared.counters.Totals.{Totals}

-- nothing is counted yet of these rules
abbrev pub uncounted : ℕ → RuleCounters
uncounted rules = record { evaluations = replicate rules 0; packets = replicate rules 0; bytes = replicate rules 0 }

abbrev pub no_totals : Totals
no_totals = record { passed = 0; blocked = 0; returned = 0; skipped = 0 }

abbrev pub nothing_counted : ℕ → ℕ → Counters
nothing_counted filter translation = record { filter = uncounted filter; translation = uncounted translation; totals = no_totals }

-- ---- the rules

abbrev pub added_to : Option RuleNumber → ℕ → List ℕ → List ℕ
added_to None amount counts = counts
added_to (Some rule) amount counts = added counts rule.0 amount

-- a packet counts for the rule that it names, with its length in bytes
abbrev pub with_packet : Option RuleNumber → ℕ → RuleCounters → RuleCounters
with_packet rule length counters = record counters { packets = added_to rule 1 counters.packets; bytes = added_to rule length counters.bytes }

-- each rule that is visited is evaluated once more
abbrev pub with_visits : List ℕ → RuleCounters → RuleCounters
with_visits visits counters = record counters { evaluations = fold raised counters.evaluations visits }

-- the reasons for which a packet counts for the rules that it names
abbrev pub counts_for_rules : Reason → Bool
counts_for_rules reason.Rule = true
counts_for_rules reason.State = true
counts_for_rules reason.StateError = true
counts_for_rules reason.NatPass = true
counts_for_rules _ = false

-- the total length in a packet's IP header (RFC 791)
abbrev pub length_of : View → ℕ
length_of (Ipv4 packet) = packet.total_length
length_of Skip = 0
length_of Short = 0

-- ---- the verdicts

abbrev pub one_more : ℕ → ℕ
one_more count = min (count + 1) (2 ^ 64 - 1)

abbrev pub with_verdict : Verdict → Totals → Totals
with_verdict verdict.Pass totals = record totals { passed = one_more totals.passed }
with_verdict verdict.Block totals = record totals { blocked = one_more totals.blocked }
with_verdict verdict.Return totals = record totals { returned = one_more totals.returned }
with_verdict verdict.Skip totals = record totals { skipped = one_more totals.skipped }

-- ---- a packet

abbrev pub with_evaluations : Outcome → Counters → Counters
with_evaluations outcome counters = record counters {
  filter = with_visits outcome.visited.filter counters.filter;
  translation = with_visits outcome.visited.translation counters.translation;
}

abbrev pub with_length : Outcome → ℕ → Counters → Counters
with_length outcome length counters = record counters {
  filter = with_packet outcome.rule length counters.filter;
  translation = with_packet outcome.translation length counters.translation;
}

abbrev pub with_named : Outcome → ℕ → Counters → Counters
with_named outcome length counters = if counts_for_rules outcome.reason then with_length outcome length counters else counters

abbrev pub with_total : Outcome → Counters → Counters
with_total outcome counters = record counters { totals = with_verdict outcome.verdict counters.totals }

-- the counters after a packet came to an outcome
unfoldable pub counted : View → Outcome → Counters → Counters
counted view outcome counters = with_total outcome (with_named outcome (length_of view) (with_evaluations outcome counters))
