-- The port that a connection gets from a `nat` rule (pf.conf(5), "Translation").
--
-- The ports of a range are tried from a drawn one on: up to the last, and then down from the one below the drawn one to
-- the first. The first port whose key on the wire no state has is picked.
use Rattle.std.specs.Prelude.{ℕ, zero, suc, ◌+◌, ◌-◌, ◌%◌, Bool, true, false, if◌then◌else◌, List, [], ◌∷◌, ◌++◌, Option, Some, None}
use Rattle.std.specs.List.{find}
use Rattle.std.specs.Option.{option_map}
use Rattle.rand_chacha.specs.ChaCha.{key_of, word_at}
use Rattle.pfr_net.specs.declared.address.Ipv4Address.{Ipv4Address}
use Rattle.pfr_net.specs.declared.interface.Binding.TheVariants.{All}
use Rattle.pfr_net.specs.declared.port.Port.{Port}
use Rattle.pfr_ruleset.specs.declared.flat.NatAddress.{NatAddress}
use Rattle.pfr_ruleset.specs.declared.flat.PortRange.{PortRange}
use Rattle.pfr_headers.specs.declared.transport.Transport.{Transport}
use Rattle.pfr_headers.specs.declared.transport.Transport.TheVariants as transport
use Rattle.pfr_track.specs.declared.key.Key.{Key}
use Rattle.pfr_track.specs.declared.state.State.{State}
use Rattle.pfr_states.specs.declared.change.Side.TheVariants.{Wire}
use Rattle.pfr_states.specs.States.{StateTable}
use Rattle.pfr_states.specs.declared.question.Question.{Question}
use Rattle.pfr_packet.specs.declared.picks.Pick.{Pick}
use Rattle.pfr_packet.specs.declared.picks.PortsTried.{PortsTried}
use Rattle.pfr_packet.specs.declared.picks.PortsTried.TheVariants.{One, Among}
use Rattle.pfr_packet.specs.Keys.{endpoint}
use Rattle.pfr_states.specs.Answers.{found_in}
use Rattle.pfr_packet.specs.Plan.{GoesUpTo, Plan, ask_at}

-- ---- which ports are tried

-- `count` numbers from `first` on
abbrev pub rising : ℕ → ℕ → List ℕ
rising first zero = []
rising first (suc count) = first ∷ rising (first + 1) count

-- `count` numbers below `bound`, the highest first
abbrev pub falling : ℕ → ℕ → List ℕ
falling bound zero = []
falling bound (suc count) = (bound - 1) ∷ falling (bound - 1) count

-- the port at which a drawn word cuts the ports from `low` to `high`
abbrev pub cut_of : ℕ → ℕ → ℕ → ℕ
cut_of low high word = low + word % (1 + (high - low))

-- from the cut up to the highest, then from the one below it down to the lowest
unfoldable pub try_list : ℕ → ℕ → ℕ → List ℕ
try_list low high word = rising (cut_of low high word) (high + 1 - cut_of low high word) ++ falling (cut_of low high word) (cut_of low high word - low)

-- the ports of a rule, or the ports from 50001 on
abbrev pub range_or_high : Option PortRange → PortRange
range_or_high None = record { low = 50001; high = 65535 }
range_or_high (Some range) = range

-- An echo's identifier may be any but 0, whichever ports the rule writes. Protocols without ports have 0 alone, which
-- stands at their ends.
abbrev pub range_for : Transport → NatAddress → Port → PortsTried
range_for (transport.Tcp header) target own = Among (range_or_high target.ports)
range_for (transport.Udp header) target own = Among (range_or_high target.ports)
range_for (transport.Icmp header) target own = Among (record { low = 1; high = 65535 })
range_for _ target own = One own

-- `static-port` keeps the port or the identifier
abbrev pub ports_for : Transport → NatAddress → Port → PortsTried
ports_for packet target own = if target.static_port then One own else range_for packet target own

abbrev pub tries : PortsTried → ℕ → List ℕ
tries (One port) word = port.0 ∷ []
tries (Among range) word = try_list range.low range.high word

-- the word that is drawn for packet `number`: the first of the ChaCha20 stream of this number (RFC 8439), under the
-- run's seed
unfoldable pub word_of : List ℕ → ℕ → ℕ
word_of seed number = word_at 10 (key_of seed) number 0

-- ---- the pick

-- the key on the wire with a tried port; an echo's identifier stands at both ends
abbrev pub wire_with : Transport → Key → Ipv4Address → ℕ → Key
wire_with (transport.Icmp header) stack address port =
    record { protocol = stack.protocol; outside = endpoint stack.outside.address (record { 0 = port }); inside = endpoint address (record { 0 = port }) }
wire_with _ stack address port = record { protocol = stack.protocol; outside = stack.outside; inside = endpoint address (record { 0 = port }) }

abbrev pub key_with : Pick → ℕ → Key
key_with pick port = wire_with pick.transport.now pick.stack.now pick.address port

-- One port after the other is tried. It goes on by the first key that no state has on any interface, or by none.
abbrev pub picking : (ℕ → Key) → (Option Key → Plan) → List ℕ → Plan
picking wire next [] = next None
picking wire next (port ∷ ports) = ask_at Wire (wire port) All (elim [ None ↦ next (Some (wire port)) | Some other ↦ picking wire next ports ])

-- the ports of a list were tried, with others behind them: a key is picked, or the others are left
abbrev pub PicksUpTo : StateTable → (ℕ → Key) → (Option Key → Plan) → List ℕ → List ℕ → Option Key → (Question → Type 0) → Type 0
PicksUpTo table wire next ports rest None asked = GoesUpTo table (picking wire next (ports ++ rest)) (picking wire next rest) asked
PicksUpTo table wire next ports rest (Some key) asked = GoesUpTo table (picking wire next (ports ++ rest)) (next (Some key)) asked

-- ---- what is picked

abbrev pub is_free : Option State → Bool
is_free None = true
is_free (Some state) = false

-- no state has the key of a port
abbrev pub is_free_in : StateTable → (ℕ → Key) → ℕ → Bool
is_free_in table wire port = is_free (found_in table Wire (wire port) All)

-- the key of the first of these ports that is free
abbrev pub picked : StateTable → (ℕ → Key) → List ℕ → Option Key
picked table wire ports = option_map wire (find (is_free_in table wire) ports)
