-- The records of messages are exact.
use Rattle.std.proofs.Common.{◌≡◌, ℕ, suc, ◌+◌, true, List, ◌++◌, length, Ok, refl, ap, subst, ◌∙◌, append_assoc}
use Rattle.std.specs.Int.{to_be_bytes, w8, w16, w32, w64}
use Rattle.std.proofs.lemmas.List.{length-append}
use Rattle.pfr_messages.specs.declared.records.Peer.{Peer}
use Rattle.pfr_messages.specs.declared.records.Parties.{Parties}
use Rattle.pfr_messages.specs.declared.records.Insertion.{Insertion}
use Rattle.pfr_messages.specs.declared.records.Update.{Update}
use Rattle.pfr_messages.specs.declared.records.Deletion.{Deletion}
use Rattle.pfr_messages.specs.Fields.{behind, name, number_at, zeros}
use Rattle.pfr_messages.specs.Records as spec
use Rattle.pfr_messages.specs.Records.{deletion_at, insertion_at, parties_at, peer_at, update_at}
use Rattle.pfr_messages.proofs.Chains.{joined, takes_field, takes_text}
use Rattle.pfr_messages.proofs.Exactness.{exact_direction, exact_end_code, exact_rule, exact_scale, exact_timeout, text_again}
use Rattle.pfr_messages.proofs.Fitting.{all, each, deletion_tests, insertion_tests, parties_tests, peer_tests, update_tests}
use Rattle.pfr_messages.proofs.Formats.{IsBytes, IsExact, Takes, exact8, exact16, exact32, exact64, ok_is}
use Rattle.pfr_messages.proofs.Names.{exact_name}

-- ---- an end of a connection

peer_takes : (bytes : List ℕ) (x : Peer × List ℕ) → IsBytes bytes → peer_at bytes ≡ Ok x
    → Takes bytes (spec.peer_spelling x.0) x.1 × (spec.peer_fits x.0 ≡ true)
unfolding peer_at
peer_takes bytes x are e =
    takes_text (zeros 8) bytes _ x are e (λ b1 t1 e1.
    takes_field exact32 b1 _ x t1.rest_fits e1 (λ low b2 t2 f2 e2.
    takes_field exact32 b2 _ x t2.rest_fits e2 (λ high b3 t3 f3 e3.
    takes_text (zeros 4) b3 _ x t3.rest_fits e3 (λ b4 t4 e4.
    takes_field exact16 b4 _ x t4.rest_fits e4 (λ window b5 t5 f5 e5.
    takes_text (zeros 2) b5 _ x t5.rest_fits e5 (λ b6 t6 e6.
    takes_field exact_end_code b6 _ x t6.rest_fits e6 (λ code b7 t7 f7 e7.
    takes_field exact_scale b7 _ x t7.rest_fits e7 (λ shift b8 t8 f8 e8.
    takes_text (zeros 6) b8 _ x t8.rest_fits e8 (λ rest t9 e9.
    let made : Peer = record {
      low = record { 0 = low };
      high = record { 0 = high };
      greatest_window = window;
      code = code;
      scale = shift;
    } in
    subst (λ (y : Peer × List ℕ). Takes bytes (spec.peer_spelling y.0) y.1 × (spec.peer_fits y.0 ≡ true))
    (ok_is (made, rest) x e9) (
      joined t1 (joined t2 (joined t3 (joined t4 (joined t5 (joined t6 (joined t7 (joined t8 t9))))))),
      all (peer_tests made)
          (f2, (f3, (f5, (f7, (f8, tt))))),
    ))))))))))

peer_reads : (p : Peer) (b0 b1 b2 b3 b4 b5 b6 b7 b8 rest : List ℕ)
    → behind (zeros 8) b0 ≡ Ok b1 → number_at w32 b1 ≡ Ok (p.low.0, b2) → number_at w32 b2 ≡ Ok (p.high.0, b3)
    → behind (zeros 4) b3 ≡ Ok b4 → number_at w16 b4 ≡ Ok (p.greatest_window, b5) → behind (zeros 2) b5 ≡ Ok b6
    → spec.end_code.reading b6 ≡ Ok (p.code, b7) → spec.scale.reading b7 ≡ Ok (p.scale, b8) → behind (zeros 6) b8 ≡ Ok rest
    → peer_at b0 ≡ Ok (p, rest)
unfolding peer_at
peer_reads p b0 b1 b2 b3 b4 b5 b6 b7 b8 rest e1 e2 e3 e4 e5 e6 e7 e8 e9 = rw (e1, e2, e3, e4, e5, e6, e7, e8, e9) refl

peer_again : (p : Peer) (rest : List ℕ) → spec.peer_fits p ≡ true → peer_at (spec.peer_spelling p ++ rest) ≡ Ok (p, rest)
peer_again p rest fits =
    let f = each (peer_tests p) fits in
    let b8 : List ℕ = zeros 6 ++ rest in
    let b7 : List ℕ = spec.scale.spelling p.scale ++ b8 in
    let b6 : List ℕ = spec.end_code.spelling p.code ++ b7 in
    let b5 : List ℕ = zeros 2 ++ b6 in
    let b4 : List ℕ = to_be_bytes w16 p.greatest_window ++ b5 in
    let b3 : List ℕ = zeros 4 ++ b4 in
    let b2 : List ℕ = to_be_bytes w32 p.high.0 ++ b3 in
    let b1 : List ℕ = to_be_bytes w32 p.low.0 ++ b2 in
    let b0 : List ℕ = zeros 8 ++ b1 in
    peer_reads p b0 b1 b2 b3 b4 b5 b6 b7 b8 rest
    (text_again (zeros 8) b1)
    (exact32.again p.low.0 b2 f.0)
    (exact32.again p.high.0 b3 f.1.0)
    (text_again (zeros 4) b4)
    (exact16.again p.greatest_window b5 f.1.1.0)
    (text_again (zeros 2) b6)
    (exact_end_code.again p.code b7 f.1.1.1.0)
    (exact_scale.again p.scale b8 f.1.1.1.1.0)
    (text_again (zeros 6) rest)

pub exact_peer : IsExact spec.peer 32
exact_peer = record { len = λ p fits. refl; takes = λ bytes x rest are e. peer_takes bytes (x, rest) are e; again = peer_again }

-- ---- the parties of a key

parties_takes : (bytes : List ℕ) (x : Parties × List ℕ) → IsBytes bytes → parties_at bytes ≡ Ok x
    → Takes bytes (spec.parties_spelling x.0) x.1 × (spec.parties_fits x.0 ≡ true)
unfolding parties_at
parties_takes bytes x are e =
    takes_field exact32 bytes _ x are e (λ outside b1 t1 f1 e1.
    takes_text (zeros 12) b1 _ x t1.rest_fits e1 (λ b2 t2 e2.
    takes_field exact32 b2 _ x t2.rest_fits e2 (λ inside b3 t3 f3 e3.
    takes_text (zeros 12) b3 _ x t3.rest_fits e3 (λ b4 t4 e4.
    takes_field exact16 b4 _ x t4.rest_fits e4 (λ outside_port b5 t5 f5 e5.
    takes_field exact16 b5 _ x t5.rest_fits e5 (λ inside_port rest t6 f6 e6.
    let made : Parties = record {
      outside = record { address = record { 0 = outside }; port = record { 0 = outside_port } };
      inside = record { address = record { 0 = inside }; port = record { 0 = inside_port } };
    } in
    subst (λ (y : Parties × List ℕ). Takes bytes (spec.parties_spelling y.0) y.1 × (spec.parties_fits y.0 ≡ true))
    (ok_is (made, rest) x e6)
    (joined t1 (joined t2 (joined t3 (joined t4 (joined t5 t6)))), all (parties_tests made) (f1, (f3, (f5, (f6, tt)))))))))))

parties_reads : (p : Parties) (b0 b1 b2 b3 b4 b5 rest : List ℕ)
    → number_at w32 b0 ≡ Ok (p.outside.address.0, b1) → behind (zeros 12) b1 ≡ Ok b2
    → number_at w32 b2 ≡ Ok (p.inside.address.0, b3) → behind (zeros 12) b3 ≡ Ok b4
    → number_at w16 b4 ≡ Ok (p.outside.port.0, b5) → number_at w16 b5 ≡ Ok (p.inside.port.0, rest)
    → parties_at b0 ≡ Ok (p, rest)
unfolding parties_at
parties_reads p b0 b1 b2 b3 b4 b5 rest e1 e2 e3 e4 e5 e6 = rw (e1, e2, e3, e4, e5, e6) refl

parties_again : (p : Parties) (rest : List ℕ) → spec.parties_fits p ≡ true
    → parties_at (spec.parties_spelling p ++ rest) ≡ Ok (p, rest)
parties_again p rest fits =
    let f = each (parties_tests p) fits in
    let b5 : List ℕ = to_be_bytes w16 p.inside.port.0 ++ rest in
    let b4 : List ℕ = to_be_bytes w16 p.outside.port.0 ++ b5 in
    let b3 : List ℕ = zeros 12 ++ b4 in
    let b2 : List ℕ = to_be_bytes w32 p.inside.address.0 ++ b3 in
    let b1 : List ℕ = zeros 12 ++ b2 in
    let b0 : List ℕ = to_be_bytes w32 p.outside.address.0 ++ b1 in
    parties_reads p b0 b1 b2 b3 b4 b5 rest
    (exact32.again p.outside.address.0 b1 f.0)
    (text_again (zeros 12) b2)
    (exact32.again p.inside.address.0 b3 f.1.0)
    (text_again (zeros 12) b4)
    (exact16.again p.outside.port.0 b5 f.1.1.0)
    (exact16.again p.inside.port.0 rest f.1.1.1.0)

pub exact_parties : IsExact spec.parties 36
exact_parties = record {
  len = λ p fits. refl;
  takes = λ bytes x rest are e. parties_takes bytes (x, rest) are e;
  again = parties_again;
}

-- ---- a state that came to be

insertion_takes : (bytes : List ℕ) (x : Insertion × List ℕ) → IsBytes bytes → insertion_at bytes ≡ Ok x
    → Takes bytes (spec.insertion_spelling x.0) x.1 × (spec.insertion_fits x.0 ≡ true)
unfolding insertion_at
insertion_takes bytes x are e =
    takes_field exact64 bytes _ x are e (λ n b1 t1 f1 e1.
    takes_field exact_name b1 _ x t1.rest_fits e1 (λ interface b2 t2 f2 e2.
    takes_field exact_parties b2 _ x t2.rest_fits e2 (λ wire b3 t3 f3 e3.
    takes_field exact_parties b3 _ x t3.rest_fits e3 (λ stack b4 t4 f4 e4.
    takes_field exact_peer b4 _ x t4.rest_fits e4 (λ maker b5 t5 f5 e5.
    takes_field exact_peer b5 _ x t5.rest_fits e5 (λ other b6 t6 f6 e6.
    takes_text (zeros 16) b6 _ x t6.rest_fits e6 (λ b7 t7 e7.
    takes_field exact_rule b7 _ x t7.rest_fits e7 (λ filter b8 t8 f8 e8.
    takes_text spec.no_rule b8 _ x t8.rest_fits e8 (λ b9 t9 e9.
    takes_field exact_rule b9 _ x t9.rest_fits e9 (λ translation b10 t10 f10 e10.
    takes_field exact32 b10 _ x t10.rest_fits e10 (λ age b11 t11 f11 e11.
    takes_field exact32 b11 _ x t11.rest_fits e11 (λ remaining b12 t12 f12 e12.
    takes_field exact64 b12 _ x t12.rest_fits e12 (λ packets_forth b13 t13 f13 e13.
    takes_field exact64 b13 _ x t13.rest_fits e13 (λ packets_back b14 t14 f14 e14.
    takes_field exact64 b14 _ x t14.rest_fits e14 (λ bytes_forth b15 t15 f15 e15.
    takes_field exact64 b15 _ x t15.rest_fits e15 (λ bytes_back b16 t16 f16 e16.
    takes_field exact32 b16 _ x t16.rest_fits e16 (λ creator b17 t17 f17 e17.
    takes_text spec.ipv4 b17 _ x t17.rest_fits e17 (λ b18 t18 e18.
    takes_field exact8 b18 _ x t18.rest_fits e18 (λ protocol b19 t19 f19 e19.
    takes_field exact_direction b19 _ x t19.rest_fits e19 (λ way b20 t20 f20 e20.
    takes_text (zeros 4) b20 _ x t20.rest_fits e20 (λ b21 t21 e21.
    takes_field exact_timeout b21 _ x t21.rest_fits e21 (λ waits b22 t22 f22 e22.
    takes_text (zeros 2) b22 _ x t22.rest_fits e22 (λ rest t23 e23.
    let made : Insertion = record {
      number = record { 0 = n };
      interface = interface;
      wire = wire;
      stack = stack;
      maker = maker;
      other = other;
      rule = filter;
      translation = translation;
      age = age;
      remaining = remaining;
      forth = record { packets = packets_forth; bytes = bytes_forth };
      back = record { packets = packets_back; bytes = bytes_back };
      creator = creator;
      protocol = record { 0 = protocol };
      direction = way;
      timeout = waits;
    } in
    subst (λ (y : Insertion × List ℕ). Takes bytes (spec.insertion_spelling y.0) y.1 × (spec.insertion_fits y.0 ≡ true))
    (ok_is (made, rest) x e23) (
      joined t1 (joined t2
          (joined t3 (joined t4
          (joined t5 (joined t6
          (joined t7 (joined t8
          (joined t9 (joined t10
          (joined t11 (joined t12
          (joined t13 (joined t14
          (joined t15 (joined t16
          (joined t17 (joined t18 (joined t19 (joined t20 (joined t21 (joined t22 t23))))))))))))))))))))),
      all (insertion_tests made) (
        f1,
        (
          f2,
          (
            f3,
            (
              f4,
              (
                f5,
                (f6, (f8, (f10, (f11, (f12, (f13, (f14, (f15, (f16, (f17, (f19, tt))))))))))),
              ),
            ),
          ),
        ),
      ),
    ))))))))))))))))))))))))

insertion_reads : (r : Insertion)
    (b0 b1 b2 b3 b4 b5 b6 b7 b8 b9 b10 b11 b12 b13 b14 b15 b16 b17 b18 b19 b20 b21 b22 rest : List ℕ)
    → number_at w64 b0 ≡ Ok (r.number.0, b1) → name.reading b1 ≡ Ok (r.interface, b2) → parties_at b2 ≡ Ok (r.wire, b3)
    → parties_at b3 ≡ Ok (r.stack, b4) → peer_at b4 ≡ Ok (r.maker, b5) → peer_at b5 ≡ Ok (r.other, b6)
    → behind (zeros 16) b6 ≡ Ok b7 → spec.rule.reading b7 ≡ Ok (r.rule, b8) → behind spec.no_rule b8 ≡ Ok b9
    → spec.rule.reading b9 ≡ Ok (r.translation, b10) → number_at w32 b10 ≡ Ok (r.age, b11)
    → number_at w32 b11 ≡ Ok (r.remaining, b12) → number_at w64 b12 ≡ Ok (r.forth.packets, b13)
    → number_at w64 b13 ≡ Ok (r.back.packets, b14) → number_at w64 b14 ≡ Ok (r.forth.bytes, b15)
    → number_at w64 b15 ≡ Ok (r.back.bytes, b16) → number_at w32 b16 ≡ Ok (r.creator, b17) → behind spec.ipv4 b17 ≡ Ok b18
    → number_at w8 b18 ≡ Ok (r.protocol.0, b19) → spec.direction.reading b19 ≡ Ok (r.direction, b20)
    → behind (zeros 4) b20 ≡ Ok b21 → spec.timeout.reading b21 ≡ Ok (r.timeout, b22) → behind (zeros 2) b22 ≡ Ok rest
    → insertion_at b0 ≡ Ok (r, rest)
unfolding insertion_at
insertion_reads r b0 b1 b2 b3 b4 b5 b6 b7 b8 b9 b10 b11 b12 b13 b14 b15 b16 b17 b18 b19 b20 b21 b22 rest e1 e2 e3 e4 e5 e6 e7 e8
    e9 e10 e11 e12 e13 e14 e15 e16 e17 e18 e19 e20 e21 e22 e23 =
    rw (e1, e2, e3, e4, e5, e6, e7, e8, e9, e10, e11, e12, e13, e14, e15, e16, e17, e18, e19, e20, e21, e22, e23) refl

insertion_again : (r : Insertion) (rest : List ℕ) → spec.insertion_fits r ≡ true
    → insertion_at (spec.insertion_spelling r ++ rest) ≡ Ok (r, rest)
insertion_again r rest fits =
    let f = each (insertion_tests r) fits in
    let b22 : List ℕ = zeros 2 ++ rest in
    let b21 : List ℕ = spec.timeout.spelling r.timeout ++ b22 in
    let b20 : List ℕ = zeros 4 ++ b21 in
    let b19 : List ℕ = spec.direction.spelling r.direction ++ b20 in
    let b18 : List ℕ = to_be_bytes w8 r.protocol.0 ++ b19 in
    let b17 : List ℕ = spec.ipv4 ++ b18 in
    let b16 : List ℕ = to_be_bytes w32 r.creator ++ b17 in
    let b15 : List ℕ = to_be_bytes w64 r.back.bytes ++ b16 in
    let b14 : List ℕ = to_be_bytes w64 r.forth.bytes ++ b15 in
    let b13 : List ℕ = to_be_bytes w64 r.back.packets ++ b14 in
    let b12 : List ℕ = to_be_bytes w64 r.forth.packets ++ b13 in
    let b11 : List ℕ = to_be_bytes w32 r.remaining ++ b12 in
    let b10 : List ℕ = to_be_bytes w32 r.age ++ b11 in
    let b9 : List ℕ = spec.rule.spelling r.translation ++ b10 in
    let b8 : List ℕ = spec.no_rule ++ b9 in
    let b7 : List ℕ = spec.rule.spelling r.rule ++ b8 in
    let b6 : List ℕ = zeros 16 ++ b7 in
    let b5 : List ℕ = spec.peer_spelling r.other ++ b6 in
    let b4 : List ℕ = spec.peer_spelling r.maker ++ b5 in
    let b3 : List ℕ = spec.parties_spelling r.stack ++ b4 in
    let b2 : List ℕ = spec.parties_spelling r.wire ++ b3 in
    let b1 : List ℕ = name.spelling r.interface ++ b2 in
    let b0 : List ℕ = to_be_bytes w64 r.number.0 ++ b1 in
    let behind_name : List ℕ =
    spec.parties_spelling r.wire
    ++ (spec.parties_spelling r.stack
    ++ (spec.peer_spelling r.maker ++ (spec.peer_spelling r.other ++ spec.insertion_rest r))) in
    let regrouped : spec.insertion_spelling r ++ rest ≡ b0 =
    ap (λ (bytes : List ℕ). to_be_bytes w64 r.number.0 ++ bytes) (append_assoc r.interface.bytes behind_name rest) in
    ap insertion_at regrouped
    ∙ insertion_reads r b0 b1 b2 b3 b4 b5 b6 b7 b8 b9 b10 b11 b12 b13 b14 b15 b16 b17 b18 b19 b20 b21 b22 rest
    (exact64.again r.number.0 b1 f.0)
    (exact_name.again r.interface b2 f.1.0)
    (exact_parties.again r.wire b3 f.1.1.0)
    (exact_parties.again r.stack b4 f.1.1.1.0)
    (exact_peer.again r.maker b5 f.1.1.1.1.0)
    (exact_peer.again r.other b6 f.1.1.1.1.1.0)
    (text_again (zeros 16) b7)
    (exact_rule.again r.rule b8 f.1.1.1.1.1.1.0)
    (text_again spec.no_rule b9)
    (exact_rule.again r.translation b10 f.1.1.1.1.1.1.1.0)
    (exact32.again r.age b11 f.1.1.1.1.1.1.1.1.0)
    (exact32.again r.remaining b12 f.1.1.1.1.1.1.1.1.1.0)
    (exact64.again r.forth.packets b13 f.1.1.1.1.1.1.1.1.1.1.0)
    (exact64.again r.back.packets b14 f.1.1.1.1.1.1.1.1.1.1.1.0)
    (exact64.again r.forth.bytes b15 f.1.1.1.1.1.1.1.1.1.1.1.1.0)
    (exact64.again r.back.bytes b16 f.1.1.1.1.1.1.1.1.1.1.1.1.1.0)
    (exact32.again r.creator b17 f.1.1.1.1.1.1.1.1.1.1.1.1.1.1.0)
    (text_again spec.ipv4 b18)
    (exact8.again r.protocol.0 b19 f.1.1.1.1.1.1.1.1.1.1.1.1.1.1.1.0)
    (exact_direction.again r.direction b20 refl)
    (text_again (zeros 4) b21)
    (exact_timeout.again r.timeout b22 refl)
    (text_again (zeros 2) rest)

insertion_len : (r : Insertion) → spec.insertion_fits r ≡ true → length (spec.insertion_spelling r) ≡ 242
insertion_len r fits =
    let f = each (insertion_tests r) fits in
    let behind_name : List ℕ =
    spec.parties_spelling r.wire
    ++ (spec.parties_spelling r.stack
    ++ (spec.peer_spelling r.maker ++ (spec.peer_spelling r.other ++ spec.insertion_rest r))) in
    ap (λ (n : ℕ). suc (suc (suc (suc (suc (suc (suc (suc n))))))))
    (length-append r.interface.bytes behind_name ∙ ap (λ (n : ℕ). n + 218) (exact_name.len r.interface f.1.0))

pub exact_insertion : IsExact spec.insertion 242
exact_insertion = record {
  len = insertion_len;
  takes = λ bytes x rest are e. insertion_takes bytes (x, rest) are e;
  again = insertion_again;
}

-- ---- a state that moved on

update_takes : (bytes : List ℕ) (x : Update × List ℕ) → IsBytes bytes → update_at bytes ≡ Ok x
    → Takes bytes (spec.update_spelling x.0) x.1 × (spec.update_fits x.0 ≡ true)
unfolding update_at
update_takes bytes x are e =
    takes_field exact64 bytes _ x are e (λ n b1 t1 f1 e1.
    takes_field exact_peer b1 _ x t1.rest_fits e1 (λ maker b2 t2 f2 e2.
    takes_field exact_peer b2 _ x t2.rest_fits e2 (λ other b3 t3 f3 e3.
    takes_field exact32 b3 _ x t3.rest_fits e3 (λ creator b4 t4 f4 e4.
    takes_field exact32 b4 _ x t4.rest_fits e4 (λ remaining b5 t5 f5 e5.
    takes_field exact_timeout b5 _ x t5.rest_fits e5 (λ waits b6 t6 f6 e6.
    takes_text (zeros 3) b6 _ x t6.rest_fits e6 (λ rest t7 e7.
    let made : Update = record {
      number = record { 0 = n };
      maker = maker;
      other = other;
      creator = creator;
      remaining = remaining;
      timeout = waits;
    } in
    subst (λ (y : Update × List ℕ). Takes bytes (spec.update_spelling y.0) y.1 × (spec.update_fits y.0 ≡ true))
    (ok_is (made, rest) x e7) (
      joined t1 (joined t2 (joined t3 (joined t4 (joined t5 (joined t6 t7))))),
      all (update_tests made)
          (f1, (f2, (f3, (f4, (f5, tt))))),
    ))))))))

update_reads : (r : Update) (b0 b1 b2 b3 b4 b5 b6 rest : List ℕ)
    → number_at w64 b0 ≡ Ok (r.number.0, b1) → peer_at b1 ≡ Ok (r.maker, b2) → peer_at b2 ≡ Ok (r.other, b3)
    → number_at w32 b3 ≡ Ok (r.creator, b4) → number_at w32 b4 ≡ Ok (r.remaining, b5)
    → spec.timeout.reading b5 ≡ Ok (r.timeout, b6) → behind (zeros 3) b6 ≡ Ok rest
    → update_at b0 ≡ Ok (r, rest)
unfolding update_at
update_reads r b0 b1 b2 b3 b4 b5 b6 rest e1 e2 e3 e4 e5 e6 e7 = rw (e1, e2, e3, e4, e5, e6, e7) refl

update_again : (r : Update) (rest : List ℕ) → spec.update_fits r ≡ true
    → update_at (spec.update_spelling r ++ rest) ≡ Ok (r, rest)
update_again r rest fits =
    let f = each (update_tests r) fits in
    let b6 : List ℕ = zeros 3 ++ rest in
    let b5 : List ℕ = spec.timeout.spelling r.timeout ++ b6 in
    let b4 : List ℕ = to_be_bytes w32 r.remaining ++ b5 in
    let b3 : List ℕ = to_be_bytes w32 r.creator ++ b4 in
    let b2 : List ℕ = spec.peer_spelling r.other ++ b3 in
    let b1 : List ℕ = spec.peer_spelling r.maker ++ b2 in
    let b0 : List ℕ = to_be_bytes w64 r.number.0 ++ b1 in
    update_reads r b0 b1 b2 b3 b4 b5 b6 rest
    (exact64.again r.number.0 b1 f.0)
    (exact_peer.again r.maker b2 f.1.0)
    (exact_peer.again r.other b3 f.1.1.0)
    (exact32.again r.creator b4 f.1.1.1.0)
    (exact32.again r.remaining b5 f.1.1.1.1.0)
    (exact_timeout.again r.timeout b6 refl)
    (text_again (zeros 3) rest)

pub exact_update : IsExact spec.update 84
exact_update = record {
  len = λ r fits. refl;
  takes = λ bytes x rest are e. update_takes bytes (x, rest) are e;
  again = update_again;
}

-- ---- a state that is gone

deletion_takes : (bytes : List ℕ) (x : Deletion × List ℕ) → IsBytes bytes → deletion_at bytes ≡ Ok x
    → Takes bytes (spec.deletion_spelling x.0) x.1 × (spec.deletion_fits x.0 ≡ true)
unfolding deletion_at
deletion_takes bytes x are e =
    takes_field exact64 bytes _ x are e (λ n b1 t1 f1 e1.
    takes_field exact32 b1 _ x t1.rest_fits e1 (λ creator rest t2 f2 e2.
    let made : Deletion = record { number = record { 0 = n }; creator = creator } in
    subst (λ (y : Deletion × List ℕ). Takes bytes (spec.deletion_spelling y.0) y.1 × (spec.deletion_fits y.0 ≡ true))
    (ok_is (made, rest) x e2)
    (joined t1 t2, all (deletion_tests made) (f1, (f2, tt)))))

deletion_reads : (r : Deletion) (b0 b1 rest : List ℕ)
    → number_at w64 b0 ≡ Ok (r.number.0, b1) → number_at w32 b1 ≡ Ok (r.creator, rest)
    → deletion_at b0 ≡ Ok (r, rest)
unfolding deletion_at
deletion_reads r b0 b1 rest e1 e2 = rw (e1, e2) refl

deletion_again : (r : Deletion) (rest : List ℕ) → spec.deletion_fits r ≡ true
    → deletion_at (spec.deletion_spelling r ++ rest) ≡ Ok (r, rest)
deletion_again r rest fits =
    let f = each (deletion_tests r) fits in
    let b1 : List ℕ = to_be_bytes w32 r.creator ++ rest in
    let b0 : List ℕ = to_be_bytes w64 r.number.0 ++ b1 in
    deletion_reads r b0 b1 rest
    (exact64.again r.number.0 b1 f.0)
    (exact32.again r.creator rest f.1.0)

pub exact_deletion : IsExact spec.deletion 12
exact_deletion = record {
  len = λ r fits. refl;
  takes = λ bytes x rest are e. deletion_takes bytes (x, rest) are e;
  again = deletion_again;
}
