-- Each text with an accepted header is a capture, and in one way.
use Rattle.std.proofs.Common.{◌≡◌, ℕ, zero, suc, ◌+◌, ◌^◌, ◌≤◌, List, [], ◌∷◌, ◌++◌, length, take, drop, Result, Ok, Err, inl, inr, refl, sym, ◌∙◌, ap, subst, add-zero, zero-add, Bool, ltb, true, false, cond, arith}
use Rattle.std.specs.List.{flat_map, All}
use Rattle.std.proofs.lemmas.Bool.{cases_lt, ltb-false}
use Rattle.std.proofs.lemmas.List.{append_assoc, length-drop, length-take-le, take-append-drop, take_all}
use Rattle.std.proofs.lemmas.List.Elements.{All-nil}
use Rattle.pfr_capture.specs.declared.order.ByteOrder.{ByteOrder}
use Rattle.pfr_capture.specs.declared.capture.Form.{Form}
use Rattle.pfr_capture.specs.declared.capture.Tail.{Tail}
use Rattle.pfr_capture.specs.declared.capture.Tail.TheVariants.{Clean, Cut}
use Rattle.pfr_capture.specs.declared.capture.CaptureError.{CaptureError}
use Rattle.pfr_capture.specs.declared.capture.CaptureError.TheVariants.{HeaderCut, RecordTooLong}
use Rattle.pfr_capture.specs.Header.{form_of, opening_of}
use Rattle.pfr_capture.specs.Records.{RecordBytes, EndsAs, IsCapture, IsRecord, captured_of, text_of}
use Rattle.pfr_capture.proofs.CaptureLemmas.{first_records, same_fronts, same_rests, same_ok}
use Rattle.pfr_capture.proofs.ReadingLemmas.{parts, record_at_front}

-- a rest ends in one way
ends_once : (order : ByteOrder) (count : ℕ) (rest : List ℕ) (e f : Result Tail CaptureError) → EndsAs order count rest e → EndsAs order count rest f → e ≡ f
ends_once order count rest (Ok Clean) (Ok Clean) g h = refl
ends_once order count rest (Ok Clean) (Ok Cut) g h =
    let some = h.some in
    let none : length rest ≡ 0 = ap length g in
    absurd (omega arith)
ends_once order count rest (Ok Clean) (Err (RecordTooLong m)) g h =
    let header = h.header in
    let none : length rest ≡ 0 = ap length g in
    absurd (omega arith)
ends_once order count rest (Ok Cut) (Ok Clean) g h =
    let some = g.some in
    let none : length rest ≡ 0 = ap length h in
    absurd (omega arith)
ends_once order count rest (Ok Cut) (Ok Cut) g h = refl
ends_once order count rest (Ok Cut) (Err (RecordTooLong m)) g h =
    let allowed = g.allowed h.may_follow h.header in
    let asks = h.asks in
    let above = h.above in
    absurd (omega arith)
ends_once order count rest (Err (RecordTooLong n)) (Ok Clean) g h =
    let header = g.header in
    let none : length rest ≡ 0 = ap length h in
    absurd (omega arith)
ends_once order count rest (Err (RecordTooLong n)) (Ok Cut) g h =
    let allowed = h.allowed g.may_follow g.header in
    let asks = g.asks in
    let above = g.above in
    absurd (omega arith)
ends_once order count rest (Err (RecordTooLong n)) (Err (RecordTooLong m)) g h =
    let same : n ≡ m = sym g.asks ∙ h.asks in
    ap (λ (k : ℕ). Err (RecordTooLong k)) same
ends_once order count rest (Ok Clean) (Err f) g h = absurd h
ends_once order count rest (Ok Cut) (Err f) g h = absurd h
ends_once order count rest (Err (RecordTooLong n)) (Err f) g h = absurd h
ends_once order count rest (Err e) f g h = absurd g

-- a text is a capture in one way at most
pub one_capture : (text : List ℕ) (form form' : Form) (records records' : List RecordBytes) (e e' : Result Tail CaptureError) → IsCapture text form records e → IsCapture text form' records' e' → (form ≡ form') × (records ≡ records') × (e ≡ e')
one_capture text form form' records records' e e' c c' =
    let whole = sym c.whole ∙ c'.whole in
    let long = c.header_length ∙ sym c'.header_length in
    let headers = same_fronts c.header c'.header _ _ whole long in
    let bodies = same_rests c.header c'.header _ _ whole long in
    let forms : form ≡ form' = same_ok (form_of c.header) form form' c.says (rw headers c'.says) in
    let each' : All (IsRecord form.order) records' = rw forms c'.each in
    let ends' : EndsAs form.order (0 + length records') c'.rest e' = rw (zero-add, forms) c'.ends in
    let ends : EndsAs form.order (0 + length records) c.rest e = rw zero-add c.ends in
    let at_most = c.at_most in
    let at_most' = c'.at_most in
    let there = first_records form.order records records' c.rest c'.rest 0 e' c.each each' bodies ends' (omega arith) in
    let back = first_records form.order records' records c'.rest c.rest 0 e each' c.each (sym bodies) ends (omega arith) in
    let under = there.within in
    let over = back.within in
    let records_are : records ≡ records' = there.front ∙ take_all (length records) records' over in
    let rests : c.rest ≡ c'.rest = same_rests (flat_map text_of records) (flat_map text_of records') c.rest c'.rest bodies (ap (λ (rs : List RecordBytes). length (flat_map text_of rs)) records_are) in
    let last : EndsAs form.order (length records) c.rest e' = rw (forms, records_are, rests) c'.ends in
    (forms, records_are, ends_once form.order (length records) c.rest e e' c.ends last)

-- how a text goes on behind k records
record GoesOn (order : ByteOrder) (k : ℕ) (text : List ℕ) : Type 0 where
  records : List RecordBytes
  rest : List ℕ
  ending : Result Tail CaptureError
  is : text ≡ flat_map text_of records ++ rest
  each : All (IsRecord order) records
  within : k + length records ≤ 2 ^ 40
  ends : EndsAs order (k + length records) rest ending

ends_here : (order : ByteOrder) (k : ℕ) (text : List ℕ) (ending : Result Tail CaptureError) → k ≤ 2 ^ 40 → EndsAs order k text ending → GoesOn order k text
ends_here order k text ending within ends = record {
  records = [];
  rest = text;
  ending = ending;
  is = refl;
  each = All-nil (IsRecord order);
  within = omega arith;
  ends = subst (λ (n : ℕ). EndsAs order n text ending) (sym (add-zero k)) ends;
}

All-cons : {X : Type 0} (P : X → Type 0) (x : X) (xs : List X) → P x → All P xs → All P (x ∷ xs)
All-cons P x xs here there zero d below = here
All-cons P x xs here there (suc k) d below = there k d (omega arith)

one_more : (order : ByteOrder) (k : ℕ) (text : List ℕ) (r : RecordBytes) (behind : List ℕ) → text ≡ text_of r ++ behind → IsRecord order r → GoesOn order (suc k) behind → GoesOn order k text
one_more order k text r behind is ir g =
    let count : suc k + length g.records ≡ k + suc (length g.records) = omega arith in
    let within = g.within in
    record {
      records = r ∷ g.records;
      rest = g.rest;
      ending = g.ending;
      is = is ∙ ap (λ (t : List ℕ). text_of r ++ t) g.is ∙ sym (append_assoc (text_of r) (flat_map text_of g.records) g.rest);
      each = All-cons (IsRecord order) r g.records ir g.each;
      within = omega arith;
      ends = subst (λ (n : ℕ). EndsAs order n g.rest g.ending) count g.ends;
    }

-- every text goes on in some way
goes_on : (fuel : ℕ) (order : ByteOrder) (k : ℕ) (text : List ℕ) → length text ≤ fuel → k ≤ 2 ^ 40 → GoesOn order k text
goes_on fuel order k [] small within = ends_here order k [] (Ok Clean) within refl
goes_on zero order k (b ∷ text) small within = absurd (omega arith)
goes_on (suc fuel) order k (b ∷ text) small within = elim (cases_lt k (2 ^ 40)) [
  | inr full ↦ ends_here order k (b ∷ text) (Ok Cut) within (record { some = omega arith; allowed = λ may header. absurd (omega arith); part = λ may header. absurd (omega arith) })
  | inl may ↦ elim (cases_lt (length (b ∷ text)) 16) [
    | inl short ↦ ends_here order k (b ∷ text) (Ok Cut) within (record { some = omega arith; allowed = λ m header. absurd (omega arith); part = λ m header. absurd (omega arith) })
    | inr header ↦ elim (cases_lt 262144 (captured_of order (b ∷ text))) [
      | inl above ↦ ends_here order k (b ∷ text) (Err (RecordTooLong (captured_of order (b ∷ text)))) within (record { may_follow = may; header = header; asks = refl; above = above })
      | inr allowed ↦ elim (cases_lt (length (b ∷ text)) (16 + captured_of order (b ∷ text))) [
        | inl part ↦ ends_here order k (b ∷ text) (Ok Cut) within (record { some = omega arith; allowed = λ m h. allowed; part = λ m h. part })
        | inr whole ↦
            let n = captured_of order (b ∷ text) in
            let behind = drop (16 + n) (b ∷ text) in
            let fewer : length behind ≤ fuel = omega (arith, length-drop (16 + n) (b ∷ text)) in
            one_more order k (b ∷ text) (record { header = take 16 (b ∷ text); bytes = take n (drop 16 (b ∷ text)) }) behind (sym (parts n (b ∷ text) whole)) (record_at_front order n (b ∷ text) refl allowed whole) (goes_on fuel order (suc k) behind fewer (omega arith))
      ]
    ]
  ]
]

opened : (text : List ℕ) (form : Form) (short : Bool) → ltb (length text) 24 ≡ short → cond short (Err HeaderCut) (form_of (take 24 text)) ≡ Ok form → (records : List RecordBytes) × (ending : Result Tail CaptureError) × IsCapture text form records ending
opened text form true is opening = absurd (cc)
opened text form false is opening =
    let long = ltb-false (length text) 24 is in
    let g = goes_on (length (drop 24 text)) form.order 0 (drop 24 text) (omega arith) (omega arith) in (
      g.records,
      g.ending,
      record {
        header = take 24 text;
        rest = g.rest;
        whole = sym (take-append-drop 24 text) ∙ ap (λ (t : List ℕ). take 24 text ++ t) g.is;
        header_length = length-take-le 24 text long;
        says = opening;
        each = g.each;
        at_most = let within = g.within in omega arith;
        ends = subst (λ (n : ℕ). EndsAs form.order n g.rest g.ending) (zero-add (length g.records)) g.ends;
      },
    )

-- an accepted header begins a capture
pub every_capture : (text : List ℕ) (form : Form) → opening_of text ≡ Ok form → (records : List RecordBytes) × (ending : Result Tail CaptureError) × IsCapture text form records ending
every_capture text form opening = opened text form _ refl opening
