-- Worked examples: headers, a message, and the lines of some states.
use Rattle.std.proofs.Common.{◌≡◌, ℕ, List, [], ◌∷◌, ◌++◌, codes, take, drop, Option, Some, None, Ok, Err, refl}
use Rattle.std.specs.Fmt.{digits}
use Rattle.pfr_net.specs.declared.direction.Direction.TheVariants.{Out}
use Rattle.pfr_net.specs.declared.endpoint.Endpoint.{Endpoint}
use Rattle.pfr_net.specs.declared.timeout.Timeout.{Timeout}
use Rattle.pfr_net.specs.declared.timeout.Timeout.TheVariants.{OtherFirst, TcpEstablished, TcpOpening}
use Rattle.pfr_net.specs.Timeouts.{code_of}
use Rattle.pfr_messages.specs.Fields.{number_at}
use Rattle.pfr_messages.specs.Messages.{Content, head_at, message_at, records_at, section_at, sections_at}
use Rattle.pfr_messages.specs.Records.{deletion_at}
use Rattle.pfr_messages.specs.declared.error.SyncError.TheVariants as refusals
use Rattle.pfr_messages.specs.declared.records.Peer.{Peer}
use Rattle.pfr_standby.specs.declared.kept.Kept.{Kept}
use Rattle.pfr_texts.specs.Texts.{address_text, end_text, key_text, peer_text}
use Rattle.pfr_stream.specs.declared.framing.Framing.TheVariants.{File, Bare}
use Rattle.pfr_stream.specs.Lines.{line}
use Rattle.pfr_stream.specs.Stream.{framed_at, header_refusal, taken_at}

-- ---- the message that state 1 of creator 1 is gone, alone and behind a header

abbrev deleted : List ℕ
deleted =
    5 ∷ 0 ∷ 0 ∷ 40 ∷ 212 ∷ 29 ∷ 140 ∷ 217 ∷ 143 ∷ 0 ∷ 178 ∷ 4 ∷ 233 ∷ 128 ∷ 9 ∷ 152 ∷ 236 ∷ 248 ∷ 66 ∷ 126 ∷ 7 ∷ 0 ∷ 0 ∷ 1
    ∷ 0 ∷ 0 ∷ 0 ∷ 0 ∷ 0 ∷ 0 ∷ 0 ∷ 1 ∷ 0 ∷ 0 ∷ 0 ∷ 1 ∷ 12 ∷ 0 ∷ 0 ∷ 1 ∷ []

abbrev header : List ℕ
header =
    69 ∷ 16 ∷ 0 ∷ 60 ∷ 0 ∷ 0 ∷ 64 ∷ 0 ∷ 255 ∷ 240 ∷ 18 ∷ 52 ∷ 192 ∷ 0 ∷ 2 ∷ 1 ∷ 224 ∷ 0 ∷ 0 ∷ 240 ∷ []

abbrev says : Content
says = record {
  checksum = take 16 (drop 4 deleted);
  insertions = [];
  updates = [];
  deletions = record { number = record { 0 = 1 }; creator = 1 } ∷ [];
}

it_is_read : framed_at Bare deleted ≡ Ok (says, 40)
unfolding framed_at message_at sections_at section_at head_at records_at deletion_at number_at
it_is_read = refl

it_is_read_behind_a_header : framed_at File (header ++ deleted) ≡ Ok (says, 60)
unfolding framed_at header_refusal message_at sections_at section_at head_at records_at deletion_at number_at
it_is_read_behind_a_header = refl

-- a standby that holds no state refuses it
it_is_refused : taken_at Bare [] deleted ≡ Err refusals.UnknownState
unfolding taken_at framed_at message_at sections_at section_at head_at records_at deletion_at number_at
it_is_refused = refl

-- each form refuses the other's bytes
a_header_is_no_message : framed_at Bare (header ++ deleted) ≡ Err refusals.Version
unfolding framed_at message_at
a_header_is_no_message = refl

a_message_is_no_header : framed_at File deleted ≡ Err refusals.Version
unfolding framed_at header_refusal
a_message_is_no_header = refl

-- ---- headers

a_cut_header : header_refusal (header ++ take 3 deleted) ≡ Some refusals.Short
unfolding header_refusal
a_cut_header = refl

another_header_length : header_refusal (0x46 ∷ drop 1 (header ++ deleted)) ≡ Some refusals.Version
unfolding header_refusal
another_header_length = refl

another_protocol : header_refusal (take 9 header ++ 17 ∷ drop 10 (header ++ deleted)) ≡ Some refusals.Version
unfolding header_refusal
another_protocol = refl

another_total_length : header_refusal (take 3 header ++ 61 ∷ drop 4 (header ++ deleted)) ≡ Some refusals.Length
unfolding header_refusal
another_total_length = refl

-- another time to live, checksum and source
other_bytes : header_refusal (take 8 header ++ 1 ∷ 240 ∷ 0 ∷ 0 ∷ 1 ∷ 2 ∷ 3 ∷ 4 ∷ drop 16 (header ++ deleted)) ≡ None
unfolding header_refusal
other_bytes = refl

-- ---- lines

abbrev endpoint : ℕ → ℕ → Endpoint
endpoint address port = record { address = record { 0 = address }; port = record { 0 = port } }

abbrev seen : ℕ → ℕ → ℕ → ℕ → Option ℕ → Peer
seen code low high window scale = record { low = record { 0 = low }; high = record { 0 = high }; greatest_window = window; code = code; scale = scale }

abbrev tcp : Peer → Peer → Timeout → Kept
tcp maker other timeout = record {
  wire = record { outside = endpoint 0xc6336407 80; inside = endpoint 0x0a000005 1000 };
  stack = record { outside = endpoint 0xc6336407 80; inside = endpoint 0x0a000005 1000 };
  protocol = record { 0 = 6 };
  direction = Out;
  rule = Some (record { 0 = 0 });
  maker = maker;
  other = other;
  timeout = timeout;
}

an_established_connection : line 1 (tcp (seen 4 1101 3001 1000 None) (seen 4 5001 6001 2000 None) TcpEstablished)
    ≡ codes "1 6 out 198.51.100.7:80,10.0.0.5:1000 198.51.100.7:80,10.0.0.5:1000 r=0 4/1101/3001/1000/- 4/5001/6001/2000/- 2" ++ 10 ∷ []
unfolding line peer_text address_text end_text key_text code_of digits
an_established_connection = refl

scaled_windows : line 1 (tcp (seen 4 1000 3001 250 (Some 2)) (seen 2 5001 6001 250 (Some 3)) TcpOpening)
    ≡ codes "1 6 out 198.51.100.7:80,10.0.0.5:1000 198.51.100.7:80,10.0.0.5:1000 r=0 4/1000/3001/250/2 2/5001/6001/250/3 1" ++ 10 ∷ []
unfolding line peer_text address_text end_text key_text code_of digits
scaled_windows = refl

-- behind a translation, of a protocol without ports, by no rule
abbrev translated : Kept
translated = record {
  wire = record { outside = endpoint 0xc6336407 0; inside = endpoint 0xc0000201 0 };
  stack = record { outside = endpoint 0xc6336407 0; inside = endpoint 0x0a000005 0 };
  protocol = record { 0 = 47 };
  direction = Out;
  rule = None;
  maker = seen 1 0 0 0 None;
  other = seen 0 0 0 0 None;
  timeout = OtherFirst;
}

a_translated_state : line 2 translated ≡ codes "2 47 out 198.51.100.7:0,192.0.2.1:0 198.51.100.7:0,10.0.0.5:0 r=- 1/0/0/0/- 0/0/0/0/- 11" ++ 10 ∷ []
unfolding line peer_text address_text end_text key_text code_of digits
a_translated_state = refl
