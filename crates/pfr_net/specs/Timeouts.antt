-- Timeouts and their codes (pf.conf(5), "timeout").
use Rattle.std.specs.Prelude.{ℕ, List, [], ◌∷◌, Option, slice_get, slice_index}
use lib.ListN.{set}
use Rattle.pfr_net.specs.declared.timeout.Timeout.{Timeout}
use Rattle.pfr_net.specs.declared.timeout.Timeout.TheVariants.{TcpFirst, TcpOpening, TcpEstablished, TcpClosing, TcpFinWait, TcpClosed, UdpFirst, UdpSingle, UdpMultiple, IcmpFirst, IcmpError, OtherFirst, OtherSingle, OtherMultiple}
use Rattle.pfr_net.specs.declared.timeout.Timeouts.{Timeouts}

unfoldable pub code_of : Timeout → ℕ
code_of TcpFirst = 0
code_of TcpOpening = 1
code_of TcpEstablished = 2
code_of TcpClosing = 3
code_of TcpFinWait = 4
code_of TcpClosed = 5
code_of UdpFirst = 6
code_of UdpSingle = 7
code_of UdpMultiple = 8
code_of IcmpFirst = 9
code_of IcmpError = 10
code_of OtherFirst = 11
code_of OtherSingle = 12
code_of OtherMultiple = 13

-- all of them, each at its code
abbrev pub timeouts_by_code : List Timeout
timeouts_by_code =
    TcpFirst ∷ TcpOpening ∷ TcpEstablished ∷ TcpClosing ∷ TcpFinWait ∷ TcpClosed ∷ UdpFirst ∷ UdpSingle ∷ UdpMultiple
    ∷ IcmpFirst ∷ IcmpError ∷ OtherFirst ∷ OtherSingle ∷ OtherMultiple ∷ []

-- the timeout of a code
abbrev pub timeout_of : ℕ → Option Timeout
timeout_of code = slice_get timeouts_by_code code

abbrev pub seconds_of : Timeouts → Timeout → ℕ
seconds_of timeouts timeout = slice_index timeouts.seconds (code_of timeout)

-- what holds if nothing is set
abbrev pub default_timeouts : Timeouts
default_timeouts = record { seconds = 120 ∷ 30 ∷ 86400 ∷ 900 ∷ 45 ∷ 90 ∷ 60 ∷ 30 ∷ 60 ∷ 20 ∷ 10 ∷ 60 ∷ 30 ∷ 60 ∷ [] }

abbrev pub with_timeout : Timeout → ℕ → Timeouts → Timeouts
with_timeout timeout seconds timeouts = record { seconds = set timeouts.seconds (code_of timeout) seconds }
