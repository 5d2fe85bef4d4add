-- The sections of a message are read again.
use Rattle.std.proofs.Common.{◌≡◌, ℕ, suc, ◌+◌, ◌*◌, ◌^◌, ◌<◌, ◌≤◌, Bool, true, false, not, ◌||◌, ◌&&◌, eqb, leb, List, [], ◌∷◌, ◌++◌, length, None, Ok, refl, ap, ◌∙◌, append_assoc, arith, inl, inr}
use Rattle.std.specs.List.{flat_map, list_all}
use Rattle.std.proofs.lemmas.Bool.{eqb-false, eq-eqb, le-leb, ne_eqb}
use Rattle.std.proofs.lemmas.List.{length-append}
use Rattle.std.proofs.Math.Nat.{mul_comm}
use Rattle.pfr_messages.specs.declared.records.Insertion.{Insertion}
use Rattle.pfr_messages.specs.declared.records.Update.{Update}
use Rattle.pfr_messages.specs.declared.records.Deletion.{Deletion}
use Rattle.pfr_messages.specs.Messages.{Content, Fits, Head, Kind, deletes, head_at, header, inserts, is_count, is_empty, records_at, rise, section, section_at, sections, sections_at, size_of, updating}
use Rattle.pfr_messages.proofs.Actions.{Above, IsAction, may}
use Rattle.pfr_messages.proofs.ExactMessages.{are_deletes, are_inserts, are_updates}
use Rattle.pfr_messages.proofs.ExactSections.{IsKind, Starts, head_again, records_again}
use Rattle.pfr_messages.proofs.Fitting.{both_hold}
use Rattle.pfr_messages.proofs.Lengths.{lens, records_len}

-- the header with which a section and what is behind it begin
pub record SectionAgain {R : Type 0} (kind : Kind R) (before : ℕ) (records : List R) (bytes : List ℕ) (next : Head) : Type 0 where
  pub head : Head
  pub starts : Starts bytes head
  pub above : Above before head.action
  pub read : section_at kind head ≡ Ok (records, next)
  -- the end stands there only if there is no section
  pub none : head.action ≡ 12 → (is_empty records ≡ true) × (next.action ≡ 12)

no_section : {R : Type 0} (kind : Kind R) (h : Head) → eqb h.action kind.action ≡ false → section_at kind h ≡ Ok ([], h)
unfolding section_at
no_section kind h other = rw other refl

a_section : {R : Type 0} (kind : Kind R) (h : Head) (records : List R) (tail : List ℕ) (next : Head)
    → eqb h.action kind.action ≡ true → records_at kind None h.count h.rest ≡ Ok (records, tail)
    → head_at kind.action tail ≡ Ok next
    → section_at kind h ≡ Ok (records, next)
unfolding section_at
a_section kind h records tail next its e f = rw (its, e, f) refl

counted : {R : Type 0} (kind : Kind R) → IsKind kind → (r : R) (records : List R) (tail : List ℕ)
    → list_all kind.format.fits (r ∷ records) ≡ true
    → is_count kind.action (length (r ∷ records)) (length (flat_map kind.format.spelling (r ∷ records) ++ tail)) ≡ true
counted kind is r records tail fit =
    let count : ℕ = suc (length records) in
    let text : List ℕ = flat_map kind.format.spelling (r ∷ records) in
    let some : not (eqb count 0) ≡ true = ap not (ne_eqb count 0 (λ none. absurd (omega arith))) in
    let no_end : (not (eqb kind.action 12) || eqb count 1) ≡ true = rw is.no_end refl in
    let len : length text ≡ kind.size * count = records_len kind kind.size is.exact (r ∷ records) fit in
    let times : count * size_of kind.action ≡ kind.size * count =
    ap (λ (n : ℕ). count * n) is.size_is ∙ mul_comm count kind.size in
    let whole : length (text ++ tail) ≡ length text + length tail = length-append text tail in
    let enough : count * size_of kind.action ≤ length (text ++ tail) = omega (arith, len, times, whole) in
    both_hold (not (eqb count 0))
    ((not (eqb kind.action 12) || eqb count 1) && leb (count * size_of kind.action) (length (text ++ tail))) some
    (both_hold (not (eqb kind.action 12) || eqb count 1) (leb (count * size_of kind.action) (length (text ++ tail))) no_end
    (le-leb (count * size_of kind.action) (length (text ++ tail)) enough))

pub section_again : {R : Type 0} (kind : Kind R) → IsKind kind → IsAction kind.action
    → (before : ℕ) (records : List R) (tail : List ℕ) (next : Head) → before < kind.action
    → list_all kind.format.fits records ≡ true → rise kind None records ≡ true
    → length records < 2 ^ 16 → Starts tail next → Above kind.action next.action
    → SectionAgain kind before records (section kind records ++ tail) next
section_again kind is action before [] tail next lt fit up few starts above =
    let passed : kind.action < next.action = above.lt in
    record {
      head = next;
      starts = starts;
      above = record { lt = omega (arith, passed, lt); is = above.is };
      read = no_section kind next (ne_eqb next.action kind.action (λ same. absurd (omega (arith, passed, same))));
      none = λ end. (refl, end);
    }
section_again kind is action before (r ∷ records) tail next lt fit up few starts above =
    let text : List ℕ = flat_map kind.format.spelling (r ∷ records) in
    let head : Head = record { action = kind.action; count = length (r ∷ records); rest = text ++ tail } in
    let follows = may kind.action next.action above (λ zero_is end. absurd (omega (arith, zero_is, lt))) in
    record {
      head = head;
      starts = record {
        parts = append_assoc (header kind.action (length (r ∷ records))) text tail;
        counts = counted kind is r records tail fit;
        small = few;
      };
      above = record { lt = lt; is = action };
      read = a_section kind head (r ∷ records) tail next (eq-eqb kind.action kind.action refl)
          (records_again kind is (r ∷ records) None tail fit up) (head_again kind.action tail next starts follows);
      none = λ end. absurd (eqb-false kind.action 12 is.no_end end);
    }

sections_read : (checksum bytes : List ℕ) (h0 h1 h2 h3 : Head) (i : List Insertion) (u : List Update) (d : List Deletion)
    → head_at 0 bytes ≡ Ok h0 → section_at inserts h0 ≡ Ok (i, h1) → section_at updating h1 ≡ Ok (u, h2)
    → section_at deletes h2 ≡ Ok (d, h3)
    → is_empty h3.rest ≡ true
    → sections_at checksum bytes ≡ Ok (record { checksum = checksum; insertions = i; updates = u; deletions = d })
unfolding sections_at
sections_read checksum bytes h0 h1 h2 h3 i u d e0 e1 e2 e3 over = rw (e0, e1, e2, e3, over) refl

nothing_at_all : (a b c : Bool) → (a && (b && c)) ≡ false → a ≡ true → b ≡ true → c ≡ true → ⊥
nothing_at_all true true true e p q r = absurd cc
nothing_at_all true true false e p q r = absurd cc
nothing_at_all true false c e p q r = absurd cc
nothing_at_all false b c e p q r = absurd cc

pub sections_again : (c : Content) → Fits c → sections_at c.checksum (sections c) ≡ Ok c
sections_again c fits =
    let few = lens c fits in
    let end : Head = record { action = 12; count = 1; rest = [] } in
    let ends : Starts (header 12 1) end = record { parts = refl; counts = refl; small = omega arith } in
    let s3 = section_again deletes are_deletes (inr (inr (inl refl))) 4 c.deletions (header 12 1) end (omega arith) fits.deletions
    fits.deletions_rise few.deletions ends (record { lt = omega arith; is = inr (inr (inr refl)) }) in
    let s2 = section_again updating are_updates (inr (inl refl)) 1 c.updates (section deletes c.deletions ++ header 12 1) s3.head
    (omega arith) fits.updates fits.updates_rise few.updates s3.starts s3.above in
    let s1 = section_again inserts are_inserts (inl refl) 0 c.insertions
    (section updating c.updates ++ (section deletes c.deletions ++ header 12 1)) s2.head (omega arith) fits.insertions
    fits.insertions_rise few.insertions s2.starts s2.above in
    let first : 0 ≡ 0 → s1.head.action ≡ 12 → ⊥ = λ e at_end.
    let n1 = s1.none at_end in
    let n2 = s2.none n1.1 in
    let n3 = s3.none n2.1 in
    nothing_at_all (is_empty c.insertions) (is_empty c.updates) (is_empty c.deletions) fits.some n1.0 n2.0 n3.0 in
    sections_read c.checksum (sections c) s1.head s2.head s3.head end c.insertions c.updates c.deletions
    (head_again 0 (sections c) s1.head s1.starts (may 0 s1.head.action s1.above first)) s1.read s2.read s3.read refl
