-- The records of messages, after pfsync(4): the fields of each from the first on, with the place of a field from the record's
-- start and its bytes.
use Rattle.std.specs.Prelude.{ℕ, ◌+◌, ◌-◌, ◌^◌, ◌==◌, ◌&&◌, Bool, true, nat_lt, nat_le, if◌then◌else◌, List, [], ◌∷◌, ◌++◌, Option, Some, None, Result, Ok}
use Rattle.std.specs.Int.{to_be_bytes, w8, w16, w32, w64}
use Rattle.pfr_net.specs.declared.direction.Direction.{Direction}
use Rattle.pfr_net.specs.declared.direction.Direction.TheVariants.{In, Out}
use Rattle.pfr_net.specs.declared.rule_number.RuleNumber.{RuleNumber}
use Rattle.pfr_net.specs.declared.timeout.Timeout.{Timeout}
use Rattle.pfr_net.specs.Timeouts as timeouts
use Rattle.pfr_messages.specs.declared.fault.Fault.{Fault}
use Rattle.pfr_messages.specs.declared.records.Peer.{Peer}
use Rattle.pfr_messages.specs.declared.records.Parties.{Parties}
use Rattle.pfr_messages.specs.declared.records.Insertion.{Insertion}
use Rattle.pfr_messages.specs.declared.records.Update.{Update}
use Rattle.pfr_messages.specs.declared.records.Deletion.{Deletion}
use Rattle.pfr_messages.specs.Fields.{◌>>=◌, Format, behind, coded, name, number, zeros}

-- ---- codes of one byte

abbrev pub small : ℕ → Option ℕ
small code = if nat_le code 10 then Some code else None

-- how far an end has come
abbrev pub end_code : Format ℕ
end_code = coded (λ code. code) (λ code. nat_le code 10) small

-- the shift of an end's windows: 0 for none, else 128 and the shift
abbrev pub scale_code : Option ℕ → ℕ
scale_code None = 0
scale_code (Some shift) = 128 + shift

abbrev pub is_shift : Option ℕ → Bool
is_shift None = true
is_shift (Some shift) = nat_le shift 14

abbrev pub scale_of : ℕ → Option (Option ℕ)
scale_of code =
    if code == 0 then Some None else
    if nat_le 128 code && nat_le code 142 then Some (Some (code - 128)) else None

abbrev pub scale : Format (Option ℕ)
scale = coded scale_code is_shift scale_of

abbrev pub direction_code : Direction → ℕ
direction_code In = 1
direction_code Out = 2

abbrev pub direction_of : ℕ → Option Direction
direction_of code = if code == 1 then Some In else if code == 2 then Some Out else None

abbrev pub direction : Format Direction
direction = coded direction_code (λ _. true) direction_of

abbrev pub timeout : Format Timeout
timeout = coded timeouts.code_of (λ _. true) timeouts.timeout_of

-- ---- numbers of rules: 2^32 - 1 for none

abbrev pub rule_code : Option RuleNumber → ℕ
rule_code None = 2 ^ 32 - 1
rule_code (Some rule) = rule.0

abbrev pub is_rule : Option RuleNumber → Bool
is_rule None = true
is_rule (Some rule) = nat_lt rule.0 (2 ^ 32 - 1)

abbrev pub rule_of : ℕ → Option RuleNumber
rule_of code = if code == 2 ^ 32 - 1 then None else Some (record { 0 = code })

abbrev pub rule_at : List ℕ → Result (Option RuleNumber × List ℕ) Fault
rule_at bytes = (number w32).reading bytes >>= (λ code. Ok (rule_of code.0, code.1))

abbrev pub rule : Format (Option RuleNumber)
rule = record { spelling = λ r. to_be_bytes w32 (rule_code r); fits = is_rule; reading = rule_at }

abbrev pub no_rule : List ℕ
no_rule = to_be_bytes w32 (2 ^ 32 - 1)

-- the address family of IPv4
abbrev pub ipv4 : List ℕ
ipv4 = 2 ∷ []

-- ---- an end of a connection: 32 bytes

abbrev pub peer_spelling : Peer → List ℕ
peer_spelling p =
    zeros 8  --  0
    ++ to_be_bytes w32 p.low.0  --  8
    ++ to_be_bytes w32 p.high.0  -- 12
    ++ zeros 4  -- 16
    ++ to_be_bytes w16 p.greatest_window  -- 20
    ++ zeros 2  -- 22
    ++ end_code.spelling p.code  -- 24
    ++ scale.spelling p.scale  -- 25
    ++ zeros 6  -- 26

abbrev pub peer_fits : Peer → Bool
peer_fits p =
    (number w32).fits p.low.0 && ((number w32).fits p.high.0 && ((number w16).fits p.greatest_window
    && (end_code.fits p.code && scale.fits p.scale)))

unfoldable pub peer_at : List ℕ → Result (Peer × List ℕ) Fault
peer_at bytes = do
  start ← behind (zeros 8) bytes
  low ← (number w32).reading start
  high ← (number w32).reading low.1
  unused ← behind (zeros 4) high.1
  window ← (number w16).reading unused
  code_place ← behind (zeros 2) window.1
  code ← end_code.reading code_place
  shift ← scale.reading code.1
  rest ← behind (zeros 6) shift.1
  Ok (
    record {
      low = record { 0 = low.0 };
      high = record { 0 = high.0 };
      greatest_window = window.0;
      code = code.0;
      scale = shift.0;
    },
    rest,
  )

abbrev pub peer : Format Peer
peer = record { spelling = peer_spelling; fits = peer_fits; reading = peer_at }

-- ---- the parties of a key: 36 bytes

abbrev pub parties_spelling : Parties → List ℕ
parties_spelling p =
    to_be_bytes w32 p.outside.address.0  --  0
    ++ zeros 12  --  4
    ++ to_be_bytes w32 p.inside.address.0  -- 16
    ++ zeros 12  -- 20
    ++ to_be_bytes w16 p.outside.port.0  -- 32
    ++ to_be_bytes w16 p.inside.port.0  -- 34

abbrev pub parties_fits : Parties → Bool
parties_fits p =
    (number w32).fits p.outside.address.0 && ((number w32).fits p.inside.address.0
    && ((number w16).fits p.outside.port.0 && (number w16).fits p.inside.port.0))

unfoldable pub parties_at : List ℕ → Result (Parties × List ℕ) Fault
parties_at bytes = do
  outside ← (number w32).reading bytes
  second ← behind (zeros 12) outside.1
  inside ← (number w32).reading second
  ports ← behind (zeros 12) inside.1
  outside_port ← (number w16).reading ports
  inside_port ← (number w16).reading outside_port.1
  Ok (
    record {
      outside = record { address = record { 0 = outside.0 }; port = record { 0 = outside_port.0 } };
      inside = record { address = record { 0 = inside.0 }; port = record { 0 = inside_port.0 } };
    },
    inside_port.1,
  )

abbrev pub parties : Format Parties
parties = record { spelling = parties_spelling; fits = parties_fits; reading = parties_at }

-- ---- a state that came to be: 242 bytes

-- what stands behind its ends
abbrev pub insertion_rest : Insertion → List ℕ
insertion_rest r =
    zeros 16  -- 160
    ++ rule.spelling r.rule  -- 176
    ++ no_rule  -- 180, the anchor's rule
    ++ rule.spelling r.translation  -- 184
    ++ to_be_bytes w32 r.age  -- 188
    ++ to_be_bytes w32 r.remaining  -- 192
    ++ to_be_bytes w64 r.forth.packets  -- 196
    ++ to_be_bytes w64 r.back.packets  -- 204
    ++ to_be_bytes w64 r.forth.bytes  -- 212
    ++ to_be_bytes w64 r.back.bytes  -- 220
    ++ to_be_bytes w32 r.creator  -- 228
    ++ ipv4  -- 232, the address family
    ++ to_be_bytes w8 r.protocol.0  -- 233
    ++ direction.spelling r.direction  -- 234
    ++ zeros 4  -- 235
    ++ timeout.spelling r.timeout  -- 239
    ++ zeros 2  -- 240

abbrev pub insertion_spelling : Insertion → List ℕ
insertion_spelling r =
    to_be_bytes w64 r.number.0  --   0
    ++ (name.spelling r.interface  --   8
    ++ (parties.spelling r.wire  --  24
    ++ (parties.spelling r.stack  --  60
    ++ (peer.spelling r.maker  --  96
    ++ (peer.spelling r.other  -- 128
    ++ insertion_rest r)))))  -- 160

abbrev pub insertion_fits : Insertion → Bool
insertion_fits r =
    (number w64).fits r.number.0 && (name.fits r.interface && (parties.fits r.wire && (parties.fits r.stack
    && (peer.fits r.maker && (peer.fits r.other && (rule.fits r.rule && (rule.fits r.translation && ((number w32).fits r.age
    && ((number w32).fits r.remaining && ((number w64).fits r.forth.packets && ((number w64).fits r.back.packets
    && ((number w64).fits r.forth.bytes && ((number w64).fits r.back.bytes && ((number w32).fits r.creator
    && (number w8).fits r.protocol.0))))))))))))))

unfoldable pub insertion_at : List ℕ → Result (Insertion × List ℕ) Fault
insertion_at bytes = do
  n ← (number w64).reading bytes
  interface ← name.reading n.1
  wire ← parties.reading interface.1
  stack ← parties.reading wire.1
  maker ← peer.reading stack.1
  other ← peer.reading maker.1
  rules ← behind (zeros 16) other.1
  filter ← rule.reading rules
  behind_anchor ← behind no_rule filter.1
  translation ← rule.reading behind_anchor
  age ← (number w32).reading translation.1
  remaining ← (number w32).reading age.1
  packets_forth ← (number w64).reading remaining.1
  packets_back ← (number w64).reading packets_forth.1
  bytes_forth ← (number w64).reading packets_back.1
  bytes_back ← (number w64).reading bytes_forth.1
  creator ← (number w32).reading bytes_back.1
  behind_family ← behind ipv4 creator.1
  protocol ← (number w8).reading behind_family
  way ← direction.reading protocol.1
  last ← behind (zeros 4) way.1
  waits ← timeout.reading last
  rest ← behind (zeros 2) waits.1
  Ok (
    record {
      number = record { 0 = n.0 };
      interface = interface.0;
      wire = wire.0;
      stack = stack.0;
      maker = maker.0;
      other = other.0;
      rule = filter.0;
      translation = translation.0;
      age = age.0;
      remaining = remaining.0;
      forth = record { packets = packets_forth.0; bytes = bytes_forth.0 };
      back = record { packets = packets_back.0; bytes = bytes_back.0 };
      creator = creator.0;
      protocol = record { 0 = protocol.0 };
      direction = way.0;
      timeout = waits.0;
    },
    rest,
  )

abbrev pub insertion : Format Insertion
insertion = record { spelling = insertion_spelling; fits = insertion_fits; reading = insertion_at }

-- ---- a state that moved on: 84 bytes

abbrev pub update_spelling : Update → List ℕ
update_spelling r =
    to_be_bytes w64 r.number.0  --  0
    ++ peer.spelling r.maker  --  8
    ++ peer.spelling r.other  -- 40
    ++ to_be_bytes w32 r.creator  -- 72
    ++ to_be_bytes w32 r.remaining  -- 76
    ++ timeout.spelling r.timeout  -- 80
    ++ zeros 3  -- 81

abbrev pub update_fits : Update → Bool
update_fits r =
    (number w64).fits r.number.0 && (peer.fits r.maker && (peer.fits r.other && ((number w32).fits r.creator
    && (number w32).fits r.remaining)))

unfoldable pub update_at : List ℕ → Result (Update × List ℕ) Fault
update_at bytes = do
  n ← (number w64).reading bytes
  maker ← peer.reading n.1
  other ← peer.reading maker.1
  creator ← (number w32).reading other.1
  remaining ← (number w32).reading creator.1
  waits ← timeout.reading remaining.1
  rest ← behind (zeros 3) waits.1
  Ok (
    record {
      number = record { 0 = n.0 };
      maker = maker.0;
      other = other.0;
      creator = creator.0;
      remaining = remaining.0;
      timeout = waits.0;
    },
    rest,
  )

abbrev pub update : Format Update
update = record { spelling = update_spelling; fits = update_fits; reading = update_at }

-- ---- a state that is gone: 12 bytes

abbrev pub deletion_spelling : Deletion → List ℕ
deletion_spelling r =
    to_be_bytes w64 r.number.0  -- 0
    ++ to_be_bytes w32 r.creator  -- 8

abbrev pub deletion_fits : Deletion → Bool
deletion_fits r = (number w64).fits r.number.0 && (number w32).fits r.creator

unfoldable pub deletion_at : List ℕ → Result (Deletion × List ℕ) Fault
deletion_at bytes = do
  n ← (number w64).reading bytes
  creator ← (number w32).reading n.1
  Ok (record { number = record { 0 = n.0 }; creator = creator.0 }, creator.1)

abbrev pub deletion : Format Deletion
deletion = record { spelling = deletion_spelling; fits = deletion_fits; reading = deletion_at }
