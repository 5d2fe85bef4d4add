-- What a reader has given, from one call to the next.
use Rattle.std.proofs.Common.{◌≡◌, ℕ, zero, suc, ◌+◌, ◌^◌, ◌<◌, ◌≤◌, List, [], ◌∷◌, ◌++◌, length, take, drop, refl, sym, ◌∙◌, ap, Result, Ok, Err, ltb, le-ltb, false, arith}
use Rattle.std.specs.List.{flat_map, All}
use Rattle.std.proofs.lemmas.List.{append_assoc, append-nil, take-append-drop, take-append-le, length-append, length-take-le, length-drop, drop-drop, flat_map_more, length_push}
use Rattle.std.proofs.lemmas.List.Elements.{All-append, All-nil}
use Rattle.pfr_capture.specs.declared.order.ByteOrder.{ByteOrder}
use Rattle.pfr_capture.specs.declared.capture.Form.{Form}
use Rattle.pfr_capture.specs.declared.capture.Record.{Record}
use Rattle.pfr_capture.specs.declared.capture.Tail.{Tail}
use Rattle.pfr_capture.specs.declared.capture.CaptureError.{CaptureError}
use Rattle.pfr_capture.specs.declared.capture.CaptureError.TheVariants.{HeaderCut, BadMagic, BadVersion, LinkType, RecordTooLong, Read, Memory}
use Rattle.pfr_capture.specs.Ahead.{CameBehind}
use Rattle.pfr_capture.specs.Header.{form_of, opening_of}
use Rattle.pfr_capture.specs.Records.{RecordBytes, IsRecord, EndsAs, text_of, captured_of}
use Rattle.pfr_capture.specs.Reading.{Reading, Opens, ReadsOn, EndsCapture, Refuses, RefusesHeader, bytes_of}
use Rattle.pfr_capture.specs.Stepping.{HasHeader, IsHeaderFault, StepRefuses, Takes}
use Rattle.pfr_capture.proofs.RecordLemmas.{captured_of-append}

-- the first 24 bytes of a text stand in the bytes that came of it
opening_is : (text ahead left : List ℕ) → text ≡ ahead ++ left → 24 ≤ length ahead → opening_of text ≡ form_of (take 24 ahead)
opening_is text ahead left is long =
    let enough : ltb (length (ahead ++ left)) 24 ≡ false = le-ltb _ _ (omega (arith, length-append ahead left)) in
    rw (is, enough, take-append-le 24 ahead left long) refl

-- a header's fault is that of the text that begins with it
pub refuses_header : (text ahead left : List ℕ) (e : CaptureError) → CameBehind [] ahead text left → 24 ≤ length ahead → form_of (take 24 ahead) ≡ Err e → IsHeaderFault e → RefusesHeader text e
refuses_header text ahead left BadMagic c long wrong fault = opening_is text ahead left (rw c.behind c.gave) long ∙ wrong
refuses_header text ahead left BadVersion c long wrong fault = opening_is text ahead left (rw c.behind c.gave) long ∙ wrong
refuses_header text ahead left (LinkType link) c long wrong fault = opening_is text ahead left (rw c.behind c.gave) long ∙ wrong
refuses_header text ahead left HeaderCut c long wrong fault = absurd fault
refuses_header text ahead left (RecordTooLong asked) c long wrong fault = absurd fault
refuses_header text ahead left Read c long wrong fault = absurd fault
refuses_header text ahead left Memory c long wrong fault = absurd fault

-- a reader that has taken a header from the bytes ahead
pub opens : (text ahead left : List ℕ) (reading : Reading) → CameBehind [] ahead text left → 24 ≤ length ahead → reading.header ≡ take 24 ahead → reading.ahead ≡ drop 24 ahead → form_of (take 24 ahead) ≡ Ok reading.form → reading.count ≡ 0 → Opens text left reading
opens text ahead left reading c long header behind says none = record {
  came = ahead;
  gave = rw c.behind c.gave;
  given = record {
    read_is = rw (header, behind) (sym (take-append-drop 24 ahead));
    header_length = rw header (length-take-le 24 ahead long);
    says = rw header says;
    each = All-nil (IsRecord reading.form.order);
    counted = sym none;
    at_most = rw none (omega arith);
  };
}

-- a record's parts, as they stand at the front of the bytes ahead
pub parts : (captured : ℕ) (ahead : List ℕ) → 16 + captured ≤ length ahead → (take 16 ahead ++ take captured (drop 16 ahead)) ++ drop (16 + captured) ahead ≡ ahead
parts captured ahead whole =
    let rest : take captured (drop 16 ahead) ++ drop (16 + captured) ahead ≡ drop 16 ahead =
    rw (← drop-drop captured 16 ahead) (take-append-drop captured (drop 16 ahead)) in
    append_assoc (take 16 ahead) (take captured (drop 16 ahead)) (drop (16 + captured) ahead)
    ∙ (rw rest (take-append-drop 16 ahead))

-- the record at the front of bytes whose header is there and that hold what it asks for
pub record_at_front : (order : ByteOrder) (captured : ℕ) (ahead : List ℕ) → captured_of order ahead ≡ captured → captured ≤ 262144 → 16 + captured ≤ length ahead → IsRecord order (record { header = take 16 ahead; bytes = take captured (drop 16 ahead) })
record_at_front order captured ahead asks within whole =
    let room : captured ≤ length (drop 16 ahead) = omega (arith, length-drop 16 ahead) in
    let long : length (take 16 ahead) ≡ 16 = length-take-le 16 ahead (omega arith) in
    let short : length (take captured (drop 16 ahead)) ≡ captured = length-take-le captured (drop 16 ahead) room in
    let asks' : captured_of order (take 16 ahead) ≡ captured =
    sym (captured_of-append order (take 16 ahead) (drop 16 ahead) (omega arith))
    ∙ (rw (take-append-drop 16 ahead) asks) in
    record { header_length = long; captured = rw asks' short; within = rw short within }

pub found_record : (form : Form) (count captured : ℕ) (ahead : List ℕ) (r : Record) → HasHeader form.order count ahead captured → 16 + captured ≤ length ahead → r.header ≡ take 16 ahead → r.bytes.items ≡ take captured (drop 16 ahead) → IsRecord form.order (bytes_of r)
found_record form count captured ahead r h whole header bytes =
    rw (header, bytes) (record_at_front form.order captured ahead h.asks h.within whole)

pub taken_record : (old new before left ahead : List ℕ) (captured : ℕ) (r : Record) → CameBehind old ahead before left → 16 + captured ≤ length ahead → r.header ≡ take 16 ahead → r.bytes.items ≡ take captured (drop 16 ahead) → new ≡ drop (16 + captured) ahead → Takes old new before left (text_of (bytes_of r))
taken_record old new before left ahead captured r c whole header bytes behind = record {
  came = c.came;
  gave = c.gave;
  took = sym c.behind ∙ (rw (header, bytes, behind) (sym (parts captured ahead whole)));
}

-- the bytes of one record more, and those that stand behind it
given_on : (old new : Reading) {before left : List ℕ} (read : List ℕ) (records : List RecordBytes) (r : Record) → (t : Takes old.ahead new.ahead before left (text_of (bytes_of r))) → read ≡ old.header ++ (flat_map text_of records ++ old.ahead) → new.header ≡ old.header → read ++ t.came ≡ new.header ++ (flat_map text_of (records ++ bytes_of r ∷ []) ++ new.ahead)
given_on old new read records r t read_is header =
    let more = flat_map_more text_of [] records (bytes_of r) in
    rw (read_is, header, append_assoc, append_assoc, t.took, ← more) (ap (λ (text : List ℕ). old.header ++ text) (sym (append_assoc (flat_map text_of records) (text_of (bytes_of r)) new.ahead)))

All-one : {X : Type 0} (P : X → Type 0) (x : X) → P x → All P (x ∷ [])
All-one P x holds zero d below = holds
All-one P x holds (suc k) d below = absurd (omega arith)

-- one record more was given
pub reads_record : (old new : Reading) (before left : List ℕ) (r : Record) → Takes old.ahead new.ahead before left (text_of (bytes_of r)) → IsRecord old.form.order (bytes_of r) → new.form ≡ old.form → new.header ≡ old.header → old.count < 2 ^ 40 → new.count ≡ old.count + 1 → ReadsOn old new before left (bytes_of r ∷ [])
reads_record old new before left r t is form header may count = record {
  came = t.came;
  gave = t.gave;
  on = λ read records given. record {
    read_is = given_on old new read records r t given.read_is header;
    header_length = rw header given.header_length;
    says = rw (header, form) given.says;
    each = rw form (All-append (IsRecord old.form.order) records (bytes_of r ∷ []) given.each (All-one (IsRecord old.form.order) (bytes_of r) is));
    counted = length_push records (bytes_of r) ∙ (let counted = given.counted in omega (arith, count));
    at_most = rw count (omega arith);
  };
}

-- no record was given
pub reads_none : (old new : Reading) (before left : List ℕ) → Takes old.ahead new.ahead before left [] → new.form ≡ old.form → new.header ≡ old.header → new.count ≡ old.count → ReadsOn old new before left []
reads_none old new before left t form header count = record {
  came = t.came;
  gave = t.gave;
  on = λ read records given. record {
    read_is = rw (given.read_is, header, append_assoc, append_assoc, t.took, append-nil) refl;
    header_length = rw header given.header_length;
    says = rw (header, form) given.says;
    each = rw (append-nil, form) given.each;
    counted = rw (append-nil, count) given.counted;
    at_most = rw count given.at_most;
  };
}

-- the capture ends as the bytes that are left say
pub ends_capture : (reading : Reading) (before : List ℕ) (ending : Result Tail CaptureError) → EndsAs reading.form.order reading.count (reading.ahead ++ before) ending → EndsCapture reading before ending
ends_capture reading before ending ends =
    λ read records given.
    record {
      header = reading.header;
      rest = reading.ahead ++ before;
      whole = rw (given.read_is, append_assoc, append_assoc) refl;
      header_length = given.header_length;
      says = given.says;
      each = given.each;
      at_most = rw given.counted given.at_most;
      ends = rw given.counted ends;
    }

-- a record that is too long is refused as the bytes that are left say
pub refuses_as : (reading : Reading) (before : List ℕ) (e : CaptureError) → StepRefuses reading.form.order reading.count (reading.ahead ++ before) e → Refuses reading before e
refuses_as reading before (RecordTooLong asked) refused = ends_capture reading before (Err (RecordTooLong asked)) refused
refuses_as reading before HeaderCut refused = tt
refuses_as reading before BadMagic refused = tt
refuses_as reading before BadVersion refused = tt
refuses_as reading before (LinkType link) refused = tt
refuses_as reading before Read refused = tt
refuses_as reading before Memory refused = tt
