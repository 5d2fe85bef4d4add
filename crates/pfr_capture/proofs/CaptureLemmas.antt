-- A capture reads in one way, and what a reader has given begins it.
use Rattle.std.proofs.Common.{◌≡◌, ℕ, suc, ◌+◌, ◌^◌, ◌<◌, ◌≤◌, List, [], ◌∷◌, ◌++◌, length, take, Result, Ok, Err, refl, sym, ◌∙◌, ap, subst, add-zero, zero-add, ltb, false, arith}
use Rattle.std.proofs.lemmas.Bool.{le-ltb}
use Rattle.std.specs.List.{flat_map, All}
use Rattle.std.proofs.lemmas.List.{append_assoc, length-append, take_at, drop_at}
use Rattle.pfr_capture.specs.declared.order.ByteOrder.{ByteOrder}
use Rattle.pfr_capture.specs.declared.capture.Form.{Form}
use Rattle.pfr_capture.specs.declared.capture.Tail.{Tail}
use Rattle.pfr_capture.specs.declared.capture.Tail.TheVariants.{Clean, Cut}
use Rattle.pfr_capture.specs.declared.capture.CaptureError.{CaptureError}
use Rattle.pfr_capture.specs.declared.capture.CaptureError.TheVariants.{HeaderCut, BadMagic, BadVersion, LinkType, RecordTooLong, Read, Memory}
use Rattle.pfr_capture.specs.Header.{form_of, opening_of}
use Rattle.pfr_capture.specs.Records.{RecordBytes, EndsAs, IsCapture, IsRecord, captured_of, text_of}
use Rattle.pfr_capture.specs.Reading.{Reading, HasGiven, LacksRecord, Opens}
use Rattle.pfr_capture.proofs.RecordLemmas.{captured_of-append}

-- two fronts of one text that are equally long are the same
pub same_fronts : (a b x y : List ℕ) → a ++ x ≡ b ++ y → length a ≡ length b → a ≡ b
same_fronts a b x y e long = sym (take_at a x (length b) long) ∙ (rw e (take_at b y (length b) refl))

-- and so is what stands behind them
pub same_rests : (a b x y : List ℕ) → a ++ x ≡ b ++ y → length a ≡ length b → x ≡ y
same_rests a b x y e long = sym (drop_at a x (length b) long) ∙ (rw e (drop_at b y (length b) refl))

All-head : {X : Type 0} (P : X → Type 0) (x : X) (xs : List X) → All P (x ∷ xs) → P x
All-head P x xs all = all 0 x (omega arith)

All-tail : {X : Type 0} (P : X → Type 0) (x : X) (xs : List X) → All P (x ∷ xs) → All P xs
All-tail P x xs all = λ k d below. all (suc k) d (omega arith)

same_parts : (r s : RecordBytes) → r.header ≡ s.header → r.bytes ≡ s.bytes → r ≡ s
same_parts r s headers bytes =
    let first : r ≡ record { header = s.header; bytes = r.bytes } = ap (λ (h : List ℕ). record { header = h; bytes = r.bytes }) headers in
    first ∙ ap (λ (b : List ℕ). record { header = s.header; bytes = b }) bytes

-- two records at the front of one text are the same
same_headers : (order : ByteOrder) (r s : RecordBytes) (x y : List ℕ) → IsRecord order r → IsRecord order s → text_of r ++ x ≡ text_of s ++ y → r.header ≡ s.header
same_headers order r s x y ir is e =
    let e' : r.header ++ (r.bytes ++ x) ≡ s.header ++ (s.bytes ++ y) = sym (append_assoc r.header r.bytes x) ∙ e ∙ append_assoc s.header s.bytes y in
    same_fronts r.header s.header (r.bytes ++ x) (s.bytes ++ y) e' (ir.header_length ∙ sym is.header_length)

same_lengths : (order : ByteOrder) (r s : RecordBytes) (x y : List ℕ) → IsRecord order r → IsRecord order s → text_of r ++ x ≡ text_of s ++ y → length (text_of r) ≡ length (text_of s)
same_lengths order r s x y ir is e =
    let headers = same_headers order r s x y ir is e in
    let asks : captured_of order r.header ≡ captured_of order s.header = ap (λ (h : List ℕ). captured_of order h) headers in
    let bytes : length r.bytes ≡ length s.bytes = ir.captured ∙ asks ∙ sym is.captured in
    let hr = ir.header_length in
    let hs = is.header_length in
    omega (arith, length-append r.header r.bytes, length-append s.header s.bytes)

pub same_records : (order : ByteOrder) (r s : RecordBytes) (x y : List ℕ) → IsRecord order r → IsRecord order s → text_of r ++ x ≡ text_of s ++ y → r ≡ s
same_records order r s x y ir is e =
    let headers = same_headers order r s x y ir is e in
    let e' : r.header ++ (r.bytes ++ x) ≡ s.header ++ (s.bytes ++ y) = sym (append_assoc r.header r.bytes x) ∙ e ∙ append_assoc s.header s.bytes y in
    let rests = same_rests r.header s.header (r.bytes ++ x) (s.bytes ++ y) e' (ir.header_length ∙ sym is.header_length) in
    let asks : captured_of order r.header ≡ captured_of order s.header = ap (λ (h : List ℕ). captured_of order h) headers in
    let bytes = same_fronts r.bytes s.bytes x y rests (ir.captured ∙ asks ∙ sym is.captured) in
    same_parts r s headers bytes

pub same_after : (order : ByteOrder) (r s : RecordBytes) (x y : List ℕ) → IsRecord order r → IsRecord order s → text_of r ++ x ≡ text_of s ++ y → x ≡ y
same_after order r s x y ir is e = same_rests (text_of r) (text_of s) x y e (same_lengths order r s x y ir is e)

-- a record's text at the front of a rest: how long it is, and what its header asks for
record_is : (order : ByteOrder) (r : RecordBytes) (x rest : List ℕ) → IsRecord order r → rest ≡ text_of r ++ x → (length rest ≡ 16 + length r.bytes + length x) × (captured_of order rest ≡ length r.bytes)
record_is order r x rest ir is =
    let header = ir.header_length in
    let split : rest ≡ r.header ++ (r.bytes ++ x) = is ∙ append_assoc r.header r.bytes x in (
      rw split (omega (arith, length-append r.header (r.bytes ++ x), length-append r.bytes x)),
      rw split (captured_of-append order r.header (r.bytes ++ x) (omega arith) ∙ sym ir.captured),
    )

-- where a record stands, a capture does not end
pub no_end_at_record : (order : ByteOrder) (count : ℕ) (r : RecordBytes) (x rest : List ℕ) (ending : Result Tail CaptureError) → count < 2 ^ 40 → IsRecord order r → rest ≡ text_of r ++ x → EndsAs order count rest ending → ⊥
no_end_at_record order count r x rest (Ok Clean) may ir is ends =
    let at = record_is order r x rest ir is in
    let none : length rest ≡ 0 = ap length ends in
    omega (arith, at.0)
no_end_at_record order count r x rest (Ok Cut) may ir is ends =
    let at = record_is order r x rest ir is in
    let long : 16 ≤ length rest = omega (arith, at.0) in
    let part = ends.part may long in
    omega (arith, at.0, at.1)
no_end_at_record order count r x rest (Err (RecordTooLong asked)) may ir is ends =
    let at = record_is order r x rest ir is in
    let asks = ends.asks in
    let above = ends.above in
    let within = ir.within in
    omega (arith, at.1)
no_end_at_record order count r x rest (Err HeaderCut) may ir is ends = ends
no_end_at_record order count r x rest (Err BadMagic) may ir is ends = ends
no_end_at_record order count r x rest (Err BadVersion) may ir is ends = ends
no_end_at_record order count r x rest (Err (LinkType link)) may ir is ends = ends
no_end_at_record order count r x rest (Err Read) may ir is ends = ends
no_end_at_record order count r x rest (Err Memory) may ir is ends = ends

-- one list is the beginning of another
pub record IsFront (given records : List RecordBytes) : Type 0 where
  pub within : length given ≤ length records
  pub front : given ≡ take (length given) records

-- records that were read off the front of a text are the first of any reading of it; k records stand before
pub first_records : (order : ByteOrder) (given records : List RecordBytes) (x rest : List ℕ) (k : ℕ) (ending : Result Tail CaptureError) → All (IsRecord order) given → All (IsRecord order) records → flat_map text_of given ++ x ≡ flat_map text_of records ++ rest → EndsAs order (k + length records) rest ending → k + length given ≤ 2 ^ 40 → IsFront given records
first_records order [] records x rest k ending ig ir e ends within = record { within = omega arith; front = refl }
first_records order (g ∷ gs) [] x rest k ending ig ir e ends within =
    let ends' : EndsAs order k rest ending = subst (λ (n : ℕ). EndsAs order n rest ending) (add-zero k) ends in
    let text : rest ≡ text_of g ++ (flat_map text_of gs ++ x) = sym e ∙ append_assoc (text_of g) (flat_map text_of gs) x in
    absurd (no_end_at_record order k g (flat_map text_of gs ++ x) rest ending (omega arith) (All-head (IsRecord order) g gs ig) text ends')
first_records order (g ∷ gs) (r ∷ rs) x rest k ending ig ir e ends within =
    let text = sym (append_assoc (text_of g) (flat_map text_of gs) x) ∙ e ∙ append_assoc (text_of r) (flat_map text_of rs) rest in
    let here = same_records order g r _ _ (All-head (IsRecord order) g gs ig) (All-head (IsRecord order) r rs ir) text in
    let after = same_after order g r _ _ (All-head (IsRecord order) g gs ig) (All-head (IsRecord order) r rs ir) text in
    let moved : k + suc (length rs) ≡ suc k + length rs = omega arith in
    let ends' : EndsAs order (suc k + length rs) rest ending = subst (λ (n : ℕ). EndsAs order n rest ending) moved ends in
    let more = first_records order gs rs x rest (suc k) ending (All-tail (IsRecord order) g gs ig) (All-tail (IsRecord order) r rs ir) after ends' (omega arith) in
    let short = more.within in
    record { within = omega arith; front = ap (λ (h : RecordBytes). h ∷ gs) here ∙ ap (λ (t : List RecordBytes). r ∷ t) more.front }

-- what a reader has given begins every capture that begins with what it read
pub record GivenFirst (reading : Reading) (given : List RecordBytes) (form : Form) (records : List RecordBytes) : Type 0 where
  pub form_is : form ≡ reading.form
  pub first : IsFront given records

pub same_ok : {A B : Type 0} (r : Result A B) (a b : A) → r ≡ Ok a → r ≡ Ok b → a ≡ b
same_ok r a b e f = cc

pub given_first : (reading : Reading) (read more : List ℕ) (given : List RecordBytes) (form : Form) (records : List RecordBytes) (ending : Result Tail CaptureError) → HasGiven reading read given → IsCapture (read ++ more) form records ending → GivenFirst reading given form records
given_first reading read more given form records ending h c =
    let text : reading.header ++ (flat_map text_of given ++ (reading.ahead ++ more)) ≡ c.header ++ (flat_map text_of records ++ c.rest) =
    ap (λ (t : List ℕ). reading.header ++ t) (sym (append_assoc (flat_map text_of given) reading.ahead more))
    ∙ sym (append_assoc reading.header (flat_map text_of given ++ reading.ahead) more)
    ∙ ap (λ (t : List ℕ). t ++ more) (sym h.read_is)
    ∙ c.whole in
    let long = h.header_length ∙ sym c.header_length in
    let headers = same_fronts reading.header c.header _ _ text long in
    let bodies = same_rests reading.header c.header _ _ text long in
    let form_is : form ≡ reading.form = same_ok (form_of c.header) form reading.form c.says (rw (← headers) h.says) in
    let counted = h.counted in
    let at_most = h.at_most in
    record {
      form_is = form_is;
      first = first_records reading.form.order given records _ c.rest 0 ending h.each (rw (← form_is) c.each) bodies (rw (← form_is, zero-add) c.ends) (omega arith);
    }

-- an opened reader has the form that the text's beginning says
pub opening_is_form : (text left : List ℕ) (reading : Reading) → Opens text left reading → opening_of text ≡ Ok reading.form
opening_is_form text left reading o =
    let h = o.given in
    let whole : text ≡ reading.header ++ (reading.ahead ++ left) = o.gave ∙ ap (λ (t : List ℕ). t ++ left) h.read_is ∙ append_assoc reading.header reading.ahead left in
    let header : take 24 text ≡ reading.header = rw whole (take_at reading.header (reading.ahead ++ left) 24 h.header_length) in
    let long = h.header_length in
    let enough : ltb (length text) 24 ≡ false = le-ltb _ _ (rw whole (omega (arith, length-append reading.header (reading.ahead ++ left)))) in
    rw (enough, header) h.says

-- if reading failed, what was read is a capture of just the records given
pub read_is_capture : (reading : Reading) (read : List ℕ) (given : List RecordBytes) → HasGiven reading read given → LacksRecord reading Read → (tail : Tail) × IsCapture read reading.form given (Ok tail)
read_is_capture reading read given h (tail, ends) = (
  tail,
  record {
    header = reading.header;
    rest = reading.ahead;
    whole = h.read_is;
    header_length = h.header_length;
    says = h.says;
    each = h.each;
    at_most = rw h.counted h.at_most;
    ends = subst (λ (n : ℕ). EndsAs reading.form.order n reading.ahead (Ok tail)) (sym h.counted) ends;
  },
)
