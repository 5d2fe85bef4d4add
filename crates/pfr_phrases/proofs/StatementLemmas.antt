-- A rule one mark after the other.
use Rattle.std.proofs.Common.{◌≡◌, ◌||◌, ℕ, zero, suc, Bool, true, false, List, [], ◌∷◌, Option, Some, None, codes, drop, take, refl, sym}
use Rattle.std.specs.Option.{is_some}
use Rattle.pfr_marks.specs.declared.mark.Mark.{Mark}
use Rattle.pfr_marks.specs.Marks.{is}
use Rattle.pfr_phrases.specs.declared.change.Finding.{Finding}
use Rattle.pfr_phrases.specs.declared.reason.Reason.{Reason}
use Rattle.pfr_phrases.specs.Statements.{criterion_at, criterion_in, left_out_for, left_out_in, may_ask, may_be_left_out, second_left_out, statement_left_out, statement_len, statement_reason}

pub none_here : (marks : List Mark) → criterion_at marks ≡ None → criterion_in (drop 1 marks) ≡ criterion_in marks
none_here [] none = refl
none_here (mark ∷ marks) none = rw (none, criterion_in) refl

none_of_nothing : criterion_at [] ≡ None
unfolding criterion_at
none_of_nothing = refl

pub some_here : (finding : Finding) (marks : List Mark) → criterion_at marks ≡ Some finding → Some finding ≡ criterion_in marks
some_here finding [] some = absurd (let none : None ≡ Some finding = rw none_of_nothing at some in cc)
some_here finding (mark ∷ marks) some = rw (some, criterion_in) refl

-- ---- a statement that isn't left out for the word that it begins with

no_reason : (why : Option Reason) → is_some why ≡ false → why ≡ None
no_reason (Some why) none = absurd (let no : true ≡ false = none in cc)
no_reason None none = refl

neither : (one other : Bool) → (one || other) ≡ false → (one ≡ false) × (other ≡ false)
neither true other none = absurd (let no : true ≡ false = none in cc)
neither false other none = (refl, none)

no_second : (first : Mark) (behind : List Mark) → is (codes "no") first ≡ false → is (codes "set") first ≡ false → second_left_out first behind ≡ None
no_second first [] is_no is_set = refl
no_second first (second ∷ behind) is_no is_set = rw (is_no, is_set) refl

stays_whole : (first : Mark) (behind : List Mark) → statement_reason first.piece ≡ None → second_left_out first behind ≡ None → may_ask first.piece ≡ false
    → left_out_in (first ∷ behind) ≡ None
unfolding left_out_in
stays_whole first behind reason second asks = rw (reason, second, asks) refl

stays_by : (count : ℕ) (first : Mark) (behind : List Mark) → may_be_left_out (first ∷ behind) ≡ false
    → left_out_for (left_out_in (take count (first ∷ behind))) (take count (first ∷ behind)) ≡ None
unfolding left_out_in
stays_by zero first behind may_not = refl
stays_by (suc count) first behind may_not =
    let why = is_some (statement_reason first.piece) in
    let asks = neither (why || is (codes "no") first || is (codes "set") first) (may_ask first.piece) may_not in
    let is_set = neither (why || is (codes "no") first) (is (codes "set") first) asks.0 in
    let is_no = neither why (is (codes "no") first) is_set.0 in
    let second = no_second first (take count behind) is_no.1 is_set.1 in
    rw (stays_whole first (take count behind) (no_reason (statement_reason first.piece) is_no.0) second asks.1) refl

-- no statement is left out that begins with another word
pub stays : (marks : List Mark) → may_be_left_out marks ≡ false → None ≡ statement_left_out marks
unfolding statement_left_out left_out_in statement_len
stays [] may_not = refl
stays (first ∷ behind) may_not = sym (stays_by (statement_len (first ∷ behind)) first behind may_not)
