-- The fields of records, each at its offset.
use Rattle.std.proofs.Common.{◌≡◌, ◌≤◌, ◌<◌, ℕ, ◌+◌, ◌-◌, ◌^◌, nat_lt, List, [], ◌∷◌, ◌++◌, length, take, drop, Option, Some, None, refl, sym, ap, ◌∙◌, inl, inr, arith}
use Rattle.std.specs.Int.{to_be_bytes, w16, w32, w64}
use Rattle.std.proofs.Math.Seq.{drop-append-add, take-append_seam}
use Rattle.std.proofs.lemmas.Bool.{cases_Bool, ltb-false, ltb-true}
use Rattle.pfr_net.specs.declared.direction.Direction.{Direction}
use Rattle.pfr_net.specs.declared.direction.Direction.TheVariants.{In, Out}
use Rattle.pfr_net.specs.declared.interface.IfName.{IfName}
use Rattle.pfr_net.specs.declared.rule_number.RuleNumber.{RuleNumber}
use Rattle.pfr_track.specs.declared.peers.Peers.{Peers}
use Rattle.pfr_track.specs.declared.peers.Peers.TheVariants as peers
use Rattle.pfr_track.specs.declared.tcp.TcpPeer.{TcpPeer}
use Rattle.pfr_track.specs.Datagrams as datagram
use Rattle.pfr_messages.specs.declared.records.Peer.{Peer}
use Rattle.pfr_messages.specs.declared.records.Insertion.{Insertion}
use Rattle.pfr_messages.specs.declared.records.Update.{Update}
use Rattle.pfr_messages.specs.Records.{direction_code, insertion_rest, insertion_spelling, parties_spelling, peer_spelling, rule_code, scale_code, update_spelling}
use Rattle.pfr_sync.specs.Events.{coded_peer, insertion_of, maker_of, other_of, rule_of, shift_of, tcp_peer, update_of}
use Rattle.pfr_sync.specs.Laws.{AreEndsAt, DeletionsNameTheState, InsertionsNameTheInterface, InsertionsNameTheState, IsCodeAt, IsTcpEndAt, UpdatesNameTheState, field, offered, origin_with, rule_number, way}
use Rattle.pfr_sync.specs.Queues.{plain_name, plain_names}
use Rattle.pfr_sync.proofs.NameLemmas.{fits_at, fits_sixteen, plain_at, plain_names_fit}

-- ---- codes

offered_is : (scale : Option ℕ) → scale_code (shift_of scale) ≡ offered scale
offered_is None = refl
offered_is (Some shift) = refl

way_is : (direction : Direction) → direction_code direction ≡ way direction
way_is In = refl
way_is Out = refl

rule_is : (rule : Option RuleNumber) → rule_code (rule_of rule) ≡ rule_number rule
rule_is None = refl
rule_is (Some rule) = elim (cases_Bool (nat_lt rule.0 (2 ^ 32 - 1))) [
  | inl is ↦ let below : rule.0 < 2 ^ 32 - 1 = ltb-true rule.0 (2 ^ 32 - 1) is in rw is (omega (arith, below))
  | inr other ↦ let above : 2 ^ 32 - 1 ≤ rule.0 = ltb-false rule.0 (2 ^ 32 - 1) other in rw other (omega (arith, above))
]

-- ---- ends

-- the fields of an end as a record has it
record IsPeerAt (offset : ℕ) (peer : Peer) (bytes : List ℕ) : Type 0 where
  low : field (offset + 8) 4 bytes ≡ to_be_bytes w32 peer.low.0
  high : field (offset + 12) 4 bytes ≡ to_be_bytes w32 peer.high.0
  greatest_window : field (offset + 20) 2 bytes ≡ to_be_bytes w16 peer.greatest_window
  code : field (offset + 24) 1 bytes ≡ peer.code ∷ []
  scale : field (offset + 25) 1 bytes ≡ scale_code peer.scale ∷ []

tcp_end : (offset : ℕ) (end : TcpPeer) (bytes : List ℕ) → IsPeerAt offset (tcp_peer end) bytes → IsTcpEndAt offset end bytes
tcp_end offset end bytes p = record {
  low = p.low;
  high = p.high;
  greatest_window = p.greatest_window;
  code = p.code;
  scale = p.scale ∙ ap (λ (c : ℕ). c ∷ []) (offered_is end.scale);
}

code_alone : (offset reached : ℕ) (bytes : List ℕ) → IsPeerAt offset (coded_peer reached) bytes → IsCodeAt offset reached bytes
code_alone offset reached bytes p =
    record { low = p.low; high = p.high; greatest_window = p.greatest_window; code = p.code; scale = p.scale }

ends_are : (first second : ℕ) (ends : Peers) (bytes : List ℕ) → IsPeerAt first (maker_of ends) bytes
    → IsPeerAt second (other_of ends) bytes → AreEndsAt first second ends bytes
ends_are first second (peers.Tcp maker other) bytes p q = (tcp_end first maker bytes p, tcp_end second other bytes q)
ends_are first second (peers.Udp maker other) bytes p q =
    (code_alone first (datagram.code_of maker) bytes p, code_alone second (datagram.code_of other) bytes q)
ends_are first second peers.Icmp bytes p q = (code_alone first 0 bytes p, code_alone second 0 bytes q)
ends_are first second (peers.Other maker other) bytes p q =
    (code_alone first (datagram.code_of maker) bytes p, code_alone second (datagram.code_of other) bytes q)

-- ---- insertions

-- what stands behind the interface's name
abbrev behind_name : Insertion → List ℕ
behind_name r =
    parties_spelling r.wire ++ (parties_spelling r.stack ++ (peer_spelling r.maker ++ (peer_spelling r.other ++ insertion_rest r)))

past : (name rest : List ℕ) → length name ≡ 16 → (offset : ℕ) → drop (16 + offset) (name ++ rest) ≡ drop offset rest
past name rest sixteen offset =
    ap (λ (len : ℕ). drop (len + offset) (name ++ rest)) (sym sixteen) ∙ drop-append-add name rest offset

-- a field behind the name, by its offset from there on
at : (r : Insertion) → length r.interface.bytes ≡ 16 → (offset size : ℕ)
    → field (8 + (16 + offset)) size (insertion_spelling r) ≡ field offset size (behind_name r)
at r sixteen offset size =
    ap (take size) (
    drop-append-add (to_be_bytes w64 r.number.0) (r.interface.bytes ++ behind_name r) (16 + offset)
    ∙ past r.interface.bytes (behind_name r) sixteen offset
    )

name_field : (r : Insertion) → length r.interface.bytes ≡ 16 → field 8 16 (insertion_spelling r) ≡ r.interface.bytes
name_field r sixteen =
    ap (λ (len : ℕ). take len (r.interface.bytes ++ behind_name r)) (sym sixteen)
    ∙ take-append_seam r.interface.bytes (behind_name r)

maker_at : (r : Insertion) → length r.interface.bytes ≡ 16 → IsPeerAt 96 r.maker (insertion_spelling r)
maker_at r sixteen = record {
  low = at r sixteen 80 4;
  high = at r sixteen 84 4;
  greatest_window = at r sixteen 92 2;
  code = at r sixteen 96 1;
  scale = at r sixteen 97 1;
}

other_at : (r : Insertion) → length r.interface.bytes ≡ 16 → IsPeerAt 128 r.other (insertion_spelling r)
other_at r sixteen = record {
  low = at r sixteen 112 4;
  high = at r sixteen 116 4;
  greatest_window = at r sixteen 124 2;
  code = at r sixteen 128 1;
  scale = at r sixteen 129 1;
}

pub insertions_name_the_state : InsertionsNameTheState
insertions_name_the_state origin clock state sixteen =
    let r = insertion_of origin clock state in
    record {
      number = refl;
      interface = name_field r sixteen;
      wire = record {
        outside_address = at r sixteen 0 4;
        inside_address = at r sixteen 16 4;
        outside_port = at r sixteen 32 2;
        inside_port = at r sixteen 34 2;
      };
      stack = record {
        outside_address = at r sixteen 36 4;
        inside_address = at r sixteen 52 4;
        outside_port = at r sixteen 68 2;
        inside_port = at r sixteen 70 2;
      };
      ends = ends_are 96 128 state.peers (insertion_spelling r) (maker_at r sixteen) (other_at r sixteen);
      rule = at r sixteen 152 4 ∙ ap (to_be_bytes w32) (rule_is state.rules.filter);
      translation = at r sixteen 160 4 ∙ ap (to_be_bytes w32) (rule_is state.rules.translation);
      age = at r sixteen 164 4;
      remaining = at r sixteen 168 4;
      packets_forth = at r sixteen 172 8;
      packets_back = at r sixteen 180 8;
      bytes_forth = at r sixteen 188 8;
      bytes_back = at r sixteen 196 8;
      creator = at r sixteen 204 4;
      protocol = at r sixteen 209 1;
      direction = at r sixteen 210 1 ∙ ap (λ (c : ℕ). c ∷ []) (way_is state.direction);
      timeout = at r sixteen 215 1;
    }

pub insertions_name_the_interface : InsertionsNameTheInterface
insertions_name_the_interface names checksum creator clock state name within at =
    let r = insertion_of (origin_with names checksum creator) clock state in
    let is : r.interface ≡ plain_name name = plain_at names state.interface name within at in
    let sixteen : length r.interface.bytes ≡ 16 = fits_sixteen r.interface (fits_at (plain_names names) state.interface (plain_names_fit names)) in
    name_field r sixteen ∙ ap (λ (n : IfName). n.bytes) is

-- ---- updates and deletions

first_at : (r : Update) → IsPeerAt 8 r.maker (update_spelling r)
first_at r = record { low = refl; high = refl; greatest_window = refl; code = refl; scale = refl }

second_at : (r : Update) → IsPeerAt 40 r.other (update_spelling r)
second_at r = record { low = refl; high = refl; greatest_window = refl; code = refl; scale = refl }

pub updates_name_the_state : UpdatesNameTheState
updates_name_the_state origin clock state =
    let r = update_of origin clock state in
    record {
      number = refl;
      ends = ends_are 8 40 state.peers (update_spelling r) (first_at r) (second_at r);
      creator = refl;
      remaining = refl;
      timeout = refl;
    }

pub deletions_name_the_state : DeletionsNameTheState
deletions_name_the_state origin state = record { number = refl; creator = refl }
