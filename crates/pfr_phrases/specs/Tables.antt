-- The words of pf.conf(5) that are written otherwise or left out by themselves: what goes with each, what stands in its
-- place, and why.
use Rattle.std.specs.Prelude.{ℕ, List, [], ◌∷◌, map, codes}
use Rattle.pfr_phrases.specs.declared.change.Becomes.TheVariants as becomes
use Rattle.pfr_phrases.specs.declared.change.Words.{Words}
use Rattle.pfr_phrases.specs.declared.change.Words.TheVariants as words
use Rattle.pfr_phrases.specs.declared.lengths.Takes.{Takes}
use Rattle.pfr_phrases.specs.declared.lengths.Takes.TheVariants as takes
use Rattle.pfr_phrases.specs.declared.phrases.Phrase.{Phrase}
use Rattle.pfr_phrases.specs.declared.reason.Reason.{Reason}
use Rattle.pfr_phrases.specs.declared.reason.Reason.TheVariants as reason

abbrev pub gone : Takes → Reason → Phrase
gone takes why = record { 0 = takes; 1 = becomes.Nothing; 2 = why }

abbrev pub becoming : Takes → Words → Reason → Phrase
becoming takes written why = record { 0 = takes; 1 = becomes.Words written; 2 = why }

-- words of a rule outside of brackets (pf.conf(5), "Parameters", "Routing", "State modulation", "Syn proxy", "Grammar")
abbrev pub phrases_of_rules : List (List ℕ × Phrase)
phrases_of_rules =
    (codes "modulate", becoming takes.State words.KeepState reason.Modulated)
    ∷ (codes "synproxy", becoming takes.State words.KeepState reason.Synproxy)
    ∷ (codes "return-rst", becoming takes.MayTakeBrackets words.Return reason.Answer)
    ∷ (codes "return-icmp", becoming takes.MayTakeBrackets words.Return reason.Answer)
    ∷ (codes "return-icmp6", becoming takes.MayTakeBrackets words.Return reason.Answer)
    ∷ (codes "log", becoming takes.Brackets words.Log reason.LogOptions)
    ∷ (codes "route-to", gone takes.Value reason.Route) ∷ (codes "reply-to", gone takes.Value reason.Route)
    ∷ (codes "dup-to", gone takes.Value reason.Route) ∷ (codes "fastroute", gone takes.Nothing reason.Route)
    ∷ (codes "rtable", gone takes.Value reason.Route)
    ∷ (codes "queue", gone takes.Value reason.Queue) ∷ (codes "dnpipe", gone takes.Value reason.Queue)
    ∷ (codes "dnqueue", gone takes.Value reason.Queue)
    ∷ (codes "ridentifier", gone takes.Value reason.Identifier) ∷ (codes "tracker", gone takes.Value reason.Identifier)
    ∷ (codes "tag", gone takes.Value reason.Tag) ∷ (codes "set", gone takes.Setting reason.Priority) ∷ []

-- timeouts that a rule may set for its states
abbrev pub timeouts_of_states : List (List ℕ)
timeouts_of_states =
    codes "tcp.first" ∷ codes "tcp.opening" ∷ codes "tcp.established" ∷ codes "tcp.closing" ∷ codes "tcp.finwait" ∷ codes "tcp.closed"
    ∷ codes "udp.first" ∷ codes "udp.single" ∷ codes "udp.multiple" ∷ codes "icmp.first" ∷ codes "icmp.error"
    ∷ codes "other.first" ∷ codes "other.single" ∷ codes "other.multiple"
    ∷ codes "adaptive.start" ∷ codes "adaptive.end" ∷ codes "interval" ∷ codes "frag" ∷ codes "src.track" ∷ []

-- words in the brackets behind `keep state` (pf.conf(5), "Stateful tracking options"), but for those that the strict
-- reader knows
abbrev pub options_of_states : List (List ℕ × Phrase)
options_of_states =
    (codes "max-src-nodes", gone takes.Value reason.Limit) ∷ (codes "max-src-states", gone takes.Value reason.Limit)
    ∷ (codes "max-src-conn", gone takes.Value reason.Limit) ∷ (codes "max-src-conn-rate", gone takes.Rate reason.Limit)
    ∷ (codes "source-track", gone takes.MayTakeScope reason.Limit)
    ∷ (codes "overload", gone takes.Value reason.Overload) ∷ (codes "flush", gone takes.MayTakeGlobal reason.Overload)
    ∷ (codes "sloppy", gone takes.Nothing reason.Sloppy) ∷ (codes "pflow", gone takes.Nothing reason.Flow)
    ∷ map (λ word. (word, gone takes.Value reason.RuleTimeout)) timeouts_of_states

-- limits of `set limit` on which no verdict depends (pf.conf(5), "set limit")
abbrev pub limits_of_anchors : List (List ℕ × Phrase)
limits_of_anchors =
    (codes "anchors", gone takes.Value reason.Setting) ∷ (codes "eth-anchors", gone takes.Value reason.Setting) ∷ []

-- words behind the target of a translation rule (pf.conf(5), "Pool options"), and the rest of a range of addresses
abbrev pub phrases_of_pools : List (List ℕ × Phrase)
phrases_of_pools =
    (codes "-", gone takes.Value reason.Pool) ∷ (codes "round-robin", gone takes.Nothing reason.Pool)
    ∷ (codes "random", gone takes.Nothing reason.Pool) ∷ (codes "bitmask", gone takes.Nothing reason.Pool)
    ∷ (codes "sticky-address", gone takes.Nothing reason.Pool) ∷ (codes "source-hash", gone takes.MayTakeKey reason.Pool) ∷ []

-- the file of a table (pf.conf(5), "Tables")
abbrev pub phrases_of_files : List (List ℕ × Phrase)
phrases_of_files = (codes "file", gone takes.Value reason.TableFile) ∷ []

-- a label, if the rule has one before it (pf.conf(5), "label")
abbrev pub phrases_of_labels : List (List ℕ × Phrase)
phrases_of_labels = (codes "label", gone takes.Value reason.Label) ∷ []

-- timeouts of `set timeout` that depend on the number of states (pf.conf(5), "set timeout")
abbrev pub adaptive_timeouts : List (List ℕ × Phrase)
adaptive_timeouts =
    (codes "adaptive.start", gone takes.Value reason.Adaptive) ∷ (codes "adaptive.end", gone takes.Value reason.Adaptive) ∷ []

-- timeouts that stand for the words of `set optimization` (pf.conf(5), "set optimization")
abbrev pub timeouts_of_optimizations : List (List ℕ × Phrase)
timeouts_of_optimizations =
    (codes "aggressive", becoming takes.Nothing words.Aggressive reason.Optimization)
    ∷ (codes "conservative", becoming takes.Nothing words.Conservative reason.Optimization)
    ∷ (codes "satellite", becoming takes.Nothing words.Satellite reason.Optimization)
    ∷ (codes "high-latency", becoming takes.Nothing words.Satellite reason.Optimization) ∷ []
