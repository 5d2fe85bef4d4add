-- Timeouts and limits, as `set` writes them.
use Rattle.std.specs.Prelude.{ℕ, ◌||◌, if◌then◌else◌, List, [], ◌∷◌, Option, Some, None, Err, codes}
use Rattle.pfr_net.specs.declared.timeout.Timeout.TheVariants as t
use Rattle.pfr_words.specs.Names.{entry_of}
use Rattle.pfr_terms.specs.declared.error.ConfError.{ConfError}
use Rattle.pfr_terms.specs.Input.{Input, Parser, ◌>>=◌, pure, refuse, refusal, left_out, taken, number_in, plain_ahead, sees_word}
use Rattle.pfr_conf.specs.declared.settings.TimeoutName.{TimeoutName}
use Rattle.pfr_conf.specs.declared.settings.TimeoutName.TheVariants.{OfStates, Interval, Fragment, SourceTracking}
use Rattle.pfr_conf.specs.declared.settings.TimeoutSetting.{TimeoutSetting}
use Rattle.pfr_conf.specs.declared.settings.Limit.{Limit}
use Rattle.pfr_conf.specs.declared.settings.Limit.TheVariants as l
use Rattle.pfr_conf.specs.declared.settings.LimitSetting.{LimitSetting}

-- the names of timeouts, and what each sets (pf.conf(5), "set timeout")
abbrev pub names_of_timeouts : List (List ℕ × TimeoutName)
names_of_timeouts =
    (codes "tcp.first", OfStates t.TcpFirst) ∷ (codes "tcp.opening", OfStates t.TcpOpening)
    ∷ (codes "tcp.established", OfStates t.TcpEstablished) ∷ (codes "tcp.closing", OfStates t.TcpClosing)
    ∷ (codes "tcp.finwait", OfStates t.TcpFinWait) ∷ (codes "tcp.closed", OfStates t.TcpClosed)
    ∷ (codes "udp.first", OfStates t.UdpFirst) ∷ (codes "udp.single", OfStates t.UdpSingle)
    ∷ (codes "udp.multiple", OfStates t.UdpMultiple)
    ∷ (codes "icmp.first", OfStates t.IcmpFirst) ∷ (codes "icmp.error", OfStates t.IcmpError)
    ∷ (codes "other.first", OfStates t.OtherFirst) ∷ (codes "other.single", OfStates t.OtherSingle)
    ∷ (codes "other.multiple", OfStates t.OtherMultiple)
    ∷ (codes "interval", Interval) ∷ (codes "frag", Fragment) ∷ (codes "src.track", SourceTracking) ∷ []

-- the names of limits (pf.conf(5), "set limit")
abbrev pub names_of_limits : List (List ℕ × Limit)
names_of_limits =
    (codes "states", l.States) ∷ (codes "frags", l.Fragments) ∷ (codes "src-nodes", l.SourceNodes)
    ∷ (codes "table-entries", l.TableEntries) ∷ (codes "tables", l.Tables) ∷ []

unfoldable pub timeout_named : List ℕ → Option TimeoutName
timeout_named word = entry_of names_of_timeouts word

unfoldable pub limit_named : List ℕ → Option Limit
limit_named word = entry_of names_of_limits word

abbrev pub timeout_in : Option (List ℕ) → Option TimeoutName
timeout_in None = None
timeout_in (Some word) = timeout_named word

abbrev pub limit_in : Option (List ℕ) → Option Limit
limit_in None = None
limit_in (Some word) = limit_named word

-- the fault of a word in place of a timeout
unfoldable pub adaptive_refusal : Input → ConfError
adaptive_refusal i = if sees_word (codes "adaptive.start") i || sees_word (codes "adaptive.end") i then left_out (codes "timeout") i else refusal i

abbrev pub timeout_refusal_by : Option TimeoutName → Input → ConfError
timeout_refusal_by (Some timeout) i = left_out (codes "timeout") i
timeout_refusal_by None i = adaptive_refusal i

-- the fault of a word in place of an option of a state
unfoldable pub timeout_refusal : Input → ConfError
timeout_refusal i = timeout_refusal_by (timeout_in (plain_ahead i)) i

abbrev pub timeout_by : Option TimeoutName → Parser TimeoutSetting
timeout_by None = λ i. Err (adaptive_refusal i)
timeout_by (Some timeout) = do
  _ ← taken
  seconds ← number_in 0 2147483647
  pure (record { timeout = timeout; seconds = seconds })

-- a timeout and its seconds
unfoldable pub timeout_setting : Parser TimeoutSetting
timeout_setting = λ i. timeout_by (timeout_in (plain_ahead i)) i

abbrev pub range_of : Limit → ℕ × ℕ
range_of l.States = (1, 1000000)
range_of _ = (0, 4294967295)

abbrev pub limit_by : Option Limit → Parser LimitSetting
limit_by None = refuse
limit_by (Some limit) = do
  _ ← taken
  number ← number_in (range_of limit).0 (range_of limit).1
  pure (record { limit = limit; number = number })

unfoldable pub limit_setting : Parser LimitSetting
limit_setting = λ i. limit_by (limit_in (plain_ahead i)) i
