-- Parts of lines. Numbers are decimal, without leading zeros; `-` stands for nothing.
use Rattle.std.specs.Prelude.{ℕ, ◌/◌, ◌%◌, List, ◌++◌, Option, Some, None, codes}
use Rattle.std.specs.Fmt.{decimal}
use Rattle.pfr_net.specs.declared.address.Ipv4Address.{Ipv4Address}
use Rattle.pfr_net.specs.declared.direction.Direction.{Direction}
use Rattle.pfr_net.specs.declared.direction.Direction.TheVariants.{In, Out}
use Rattle.pfr_net.specs.declared.endpoint.Endpoint.{Endpoint}
use Rattle.pfr_net.specs.declared.rule_number.RuleNumber.{RuleNumber}
use Rattle.pfr_track.specs.declared.key.Key.{Key}
use Rattle.pfr_track.specs.declared.state.StateNumber.{StateNumber}
use Rattle.pfr_track.specs.declared.state.Traffic.{Traffic}

abbrev pub direction_text : Option Direction → List ℕ
direction_text (Some In) = codes "in"
direction_text (Some Out) = codes "out"
direction_text None = codes "-"

abbrev pub rule_text : Option RuleNumber → List ℕ
rule_text (Some number) = decimal number.0
rule_text None = codes "-"

abbrev pub state_text : Option StateNumber → List ℕ
state_text (Some number) = decimal number.0
state_text None = codes "-"

-- a.b.c.d
unfoldable pub address_text : Ipv4Address → List ℕ
address_text address =
    decimal (address.0 / 16777216) ++ (codes "." ++ (decimal (address.0 / 65536 % 256) ++ (codes "." ++ (decimal (address.0 / 256 % 256) ++ (codes "." ++ decimal (address.0 % 256))))))

-- a.b.c.d:port
unfoldable pub end_text : Endpoint → List ℕ
end_text end = address_text end.address ++ (codes ":" ++ decimal end.port.0)

-- the end outside, and the one inside
unfoldable pub key_text : Key → List ℕ
key_text key = end_text key.outside ++ (codes "," ++ end_text key.inside)

-- packets and bytes
unfoldable pub traffic_text : Traffic → List ℕ
traffic_text traffic = decimal traffic.packets ++ (codes " " ++ decimal traffic.bytes)

-- the shift of an end's windows that it offered
abbrev pub offer_text : Option ℕ → List ℕ
offer_text (Some shift) = decimal shift
offer_text None = codes "-"

-- what was seen of an end of a connection: its code, the sequence number after what it has sent, the one after what it may send, its
-- greatest window, the shift that it offered
unfoldable pub peer_text : (code low high window : ℕ) → Option ℕ → List ℕ
peer_text code low high window offer =
    decimal code ++ (codes "/" ++ (decimal low ++ (codes "/" ++ (decimal high ++ (codes "/" ++ (decimal window ++ (codes "/" ++ offer_text offer)))))))
