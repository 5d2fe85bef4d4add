-- The lines of the states that a standby holds.
use Rattle.std.specs.Prelude.{ℕ, List, [], ◌∷◌, ◌++◌, Some, codes}
use Rattle.std.specs.Fmt.{decimal}
use Rattle.std.specs.List.{flat_map}
use Rattle.pfr_messages.specs.declared.records.Parties.{Parties}
use Rattle.pfr_messages.specs.declared.records.Peer.{Peer}
use Rattle.pfr_net.specs.declared.protocol.Protocol.{Protocol}
use Rattle.pfr_net.specs.Timeouts.{code_of}
use Rattle.pfr_standby.specs.declared.kept.Kept.{Kept}
use Rattle.pfr_standby.specs.Standby.{Standing}
use Rattle.pfr_texts.specs.Texts.{direction_text, key_text, peer_text, rule_text}
use Rattle.pfr_track.specs.declared.key.Key.{Key}

-- what was seen of an end of a connection
abbrev pub held_end_text : Peer → List ℕ
held_end_text peer = peer_text peer.code peer.low.0 peer.high.0 peer.greatest_window peer.scale

-- the parties of a protocol as a key
abbrev pub key_of : Protocol → Parties → Key
key_of protocol parties = record { protocol = protocol; outside = parties.outside; inside = parties.inside }

-- N PROTO DIR WIRE STACK
abbrev pub keys_part : ℕ → Kept → List ℕ
keys_part number kept =
    decimal number ++ (codes " " ++ (decimal kept.protocol.0 ++ (codes " " ++ (direction_text (Some kept.direction)
    ++ (codes " " ++ (key_text (key_of kept.protocol kept.wire) ++ (codes " " ++ key_text (key_of kept.protocol kept.stack))))))))

-- " r=R PEER PEER TIMEOUT", and a newline; the maker's end first
abbrev pub ends_part : Kept → List ℕ
ends_part kept =
    codes " r=" ++ (rule_text kept.rule ++ (codes " " ++ (held_end_text kept.maker ++ (codes " " ++ (held_end_text kept.other
    ++ (codes " " ++ (decimal (code_of kept.timeout) ++ 10 ∷ [])))))))

-- N PROTO DIR WIRE STACK r=R PEER PEER TIMEOUT
unfoldable pub line : ℕ → Kept → List ℕ
line number kept = keys_part number kept ++ ends_part kept

-- a line for each state, in the order of their numbers
abbrev pub lines : Standing → List ℕ
lines standing = flat_map (λ held. line held.0 held.1) standing
