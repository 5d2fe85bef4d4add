-- The sections of messages are exact.
use Rattle.std.proofs.Common.{◌≡◌, ℕ, zero, suc, ◌+◌, ◌*◌, ◌/◌, ◌%◌, ◌^◌, ◌<◌, ◌⊎◌, Bool, true, false, not, ◌||◌, ◌&&◌, cond, eqb, leb, List, [], ◌∷◌, ◌++◌, length, Option, Some, None, Ok, Err, refl, sym, ap, subst, ◌∙◌, append_assoc, arith, inl, inr}
use Rattle.std.specs.List.{flat_map, list_all}
use Rattle.std.specs.Int.{to_be_bytes, w64}
use Rattle.std.proofs.lemmas.Bool.{eqb-true}
use Rattle.pfr_messages.specs.declared.fault.Fault.TheVariants as faults
use Rattle.pfr_messages.specs.Fields.{◌>>=◌, number, number_at}
use Rattle.pfr_messages.specs.Messages.{Head, Kind, head_at, header, is_count, is_empty, may_follow, record_at, records_at, rise, rises, section, section_at, size_of}
use Rattle.pfr_messages.proofs.Chains.{joined}
use Rattle.pfr_messages.proofs.Exactness.{guard_holds}
use Rattle.pfr_messages.proofs.Fitting.{both, both_hold}
use Rattle.pfr_messages.proofs.Formats.{IsBytes, IsExact, Takes, bind_ok, exact64, ok_is}
use Rattle.pfr_messages.proofs.Names.{guard_passes}

-- what is known of a kind of records
pub record IsKind {R : Type 0} (kind : Kind R) : Type 0 where
  pub exact : IsExact kind.format kind.size
  -- a record begins with its number
  pub tail : R → List ℕ
  pub begins : (r : R) → kind.format.spelling r ≡ to_be_bytes w64 (kind.number r).0 ++ tail r
  pub number_fits : (r : R) → kind.format.fits r ≡ true → (number w64).fits (kind.number r).0 ≡ true
  pub size_is : size_of kind.action ≡ kind.size
  pub no_end : eqb kind.action 12 ≡ false

-- ---- a record

number_of : {R : Type 0} (kind : Kind R) (is : IsKind kind) (r : R) (rest : List ℕ) → kind.format.fits r ≡ true
    → number_at w64 (kind.format.spelling r ++ rest) ≡ Ok ((kind.number r).0, is.tail r ++ rest)
number_of kind is r rest fit =
    let n = (kind.number r).0 in
    let regrouped : kind.format.spelling r ++ rest ≡ to_be_bytes w64 n ++ (is.tail r ++ rest) =
    ap (λ (l : List ℕ). l ++ rest) (is.begins r) ∙ append_assoc (to_be_bytes w64 n) (is.tail r) rest in
    ap (number_at w64) regrouped ∙ exact64.again n (is.tail r ++ rest) (is.number_fits r fit)

number_in : {R : Type 0} (kind : Kind R) (is : IsKind kind) (bytes : List ℕ) (r : R) (rest : List ℕ)
    → bytes ≡ kind.format.spelling r ++ rest → kind.format.fits r ≡ true
    → number_at w64 bytes ≡ Ok ((kind.number r).0, is.tail r ++ rest)
number_in kind is bytes r rest parts fit = ap (number_at w64) parts ∙ number_of kind is r rest fit

same_number : (bytes : List ℕ) (m n : ℕ) (x y : List ℕ) → number_at w64 bytes ≡ Ok (m, x) → number_at w64 bytes ≡ Ok (n, y)
    → m ≡ n
same_number bytes m n x y e f = ap (λ (p : ℕ × List ℕ). p.0) (ok_is (m, x) (n, y) (sym e ∙ f))

record_takes : {R : Type 0} (kind : Kind R) → IsKind kind → (last : Option ℕ) (bytes : List ℕ) (x : ℕ × R × List ℕ)
    → IsBytes bytes → record_at kind last bytes ≡ Ok x
    → Takes bytes (kind.format.spelling x.1) x.2 × (kind.format.fits x.1 ≡ true) × (rises last (kind.number x.1).0 ≡ true)
    × ((kind.number x.1).0 ≡ x.0)
record_takes {R = R} kind is last bytes x are e =
    let a = bind_ok (number_at w64 bytes)
    (λ n. cond (rises last n.0) (kind.format.reading bytes >>= (λ r. Ok (n.0, r.0, r.1)))
    (Err (faults.Differs (length bytes)))) x e in
    let g = guard_holds (rises last a.0.0) (faults.Differs (length bytes))
    (kind.format.reading bytes >>= (λ r. Ok (a.0.0, r.0, r.1))) x a.2 in
    let b = bind_ok (kind.format.reading bytes) (λ r. Ok (a.0.0, r.0, r.1)) x g.1 in
    let t = is.exact.takes bytes b.0.0 b.0.1 are b.1 in
    let read = number_in kind is bytes b.0.0 b.0.1 t.0.parts t.1 in
    let same : (kind.number b.0.0).0 ≡ a.0.0 =
    same_number bytes (kind.number b.0.0).0 a.0.0 (is.tail b.0.0 ++ b.0.1) a.0.1 read a.1 in
    let up : rises last (kind.number b.0.0).0 ≡ true = subst (λ (n : ℕ). rises last n ≡ true) (sym same) g.0 in
    subst (λ (y : ℕ × R × List ℕ). Takes bytes (kind.format.spelling y.1) y.2 × (kind.format.fits y.1 ≡ true)
    × (rises last (kind.number y.1).0 ≡ true) × ((kind.number y.1).0 ≡ y.0))
    (ok_is (a.0.0, b.0.0, b.0.1) x b.2) (t.0, t.1, up, same)

record_again : {R : Type 0} (kind : Kind R) → IsKind kind → (last : Option ℕ) (r : R) (rest : List ℕ) → kind.format.fits r ≡ true
    → rises last (kind.number r).0 ≡ true
    → record_at kind last (kind.format.spelling r ++ rest) ≡ Ok ((kind.number r).0, r, rest)
record_again kind is last r rest fit up = rw (number_of kind is r rest fit, up, is.exact.again r rest fit) refl

-- ---- records one after the other

pub records_take : {R : Type 0} (kind : Kind R) → IsKind kind
    → (count : ℕ) (last : Option ℕ) (bytes : List ℕ) (x : List R × List ℕ) → IsBytes bytes
    → records_at kind last count bytes ≡ Ok x
    → Takes bytes (flat_map kind.format.spelling x.0) x.1 × (length x.0 ≡ count) × (list_all kind.format.fits x.0 ≡ true)
    × (rise kind last x.0 ≡ true)
unfolding records_at
records_take {R = R} kind is zero last bytes x are e =
    subst (λ (y : List R × List ℕ). Takes bytes (flat_map kind.format.spelling y.0) y.1 × (length y.0 ≡ 0)
    × (list_all kind.format.fits y.0 ≡ true) × (rise kind last y.0 ≡ true))
    (ok_is ([], bytes) x e) (record { parts = refl; rest_fits = are }, refl, refl, refl)
records_take {R = R} kind is (suc count) last bytes x are e =
    let a = bind_ok (record_at kind last bytes)
    (λ first. records_at kind (Some first.0) count first.2 >>= (λ records. Ok (first.1 ∷ records.0, records.1))) x e in
    let b = bind_ok (records_at kind (Some a.0.0) count a.0.2) (λ records. Ok (a.0.1 ∷ records.0, records.1)) x a.2 in
    let first = record_takes kind is last bytes a.0 are a.1 in
    let more = records_take kind is count (Some a.0.0) a.0.2 b.0 first.0.rest_fits b.1 in
    let up : rise kind (Some (kind.number a.0.1).0) b.0.0 ≡ true =
    subst (λ (n : ℕ). rise kind (Some n) b.0.0 ≡ true) (sym first.3) more.3 in
    subst (λ (y : List R × List ℕ). Takes bytes (flat_map kind.format.spelling y.0) y.1 × (length y.0 ≡ suc count)
    × (list_all kind.format.fits y.0 ≡ true) × (rise kind last y.0 ≡ true))
    (ok_is (a.0.1 ∷ b.0.0, b.0.1) x b.2) (
      joined first.0 more.0,
      ap suc more.1,
      both_hold (kind.format.fits a.0.1) (list_all kind.format.fits b.0.0) first.1 more.2,
      both_hold (rises last (kind.number a.0.1).0) (rise kind (Some (kind.number a.0.1).0) b.0.0) first.2 up,
    )

records_step : {R : Type 0} (kind : Kind R) (last : Option ℕ) (count : ℕ) (bytes : List ℕ) (n : ℕ) (r : R) (after : List ℕ)
    (records : List R) (rest : List ℕ) → record_at kind last bytes ≡ Ok (n, r, after)
    → records_at kind (Some n) count after ≡ Ok (records, rest) → records_at kind last (suc count) bytes ≡ Ok (r ∷ records, rest)
unfolding records_at
records_step kind last count bytes n r after records rest e f = rw (e, f) refl

no_records : {R : Type 0} (kind : Kind R) (last : Option ℕ) (rest : List ℕ) → records_at kind last 0 rest ≡ Ok ([], rest)
unfolding records_at
no_records kind last rest = refl

pub records_again : {R : Type 0} (kind : Kind R) → IsKind kind → (records : List R) (last : Option ℕ) (rest : List ℕ)
    → list_all kind.format.fits records ≡ true → rise kind last records ≡ true
    → records_at kind last (length records) (flat_map kind.format.spelling records ++ rest) ≡ Ok (records, rest)
records_again kind is [] last rest fit up = no_records kind last rest
records_again kind is (r ∷ records) last rest fit up =
    let f = both (kind.format.fits r) (list_all kind.format.fits records) fit in
    let u = both (rises last (kind.number r).0) (rise kind (Some (kind.number r).0) records) up in
    let after : List ℕ = flat_map kind.format.spelling records ++ rest in
    ap (records_at kind last (suc (length records)))
    (append_assoc (kind.format.spelling r) (flat_map kind.format.spelling records) rest)
    ∙ records_step kind last (length records) (kind.format.spelling r ++ after) (kind.number r).0 r after records rest
    (record_again kind is last r after f.0 u.0) (records_again kind is records (Some (kind.number r).0) rest f.1 u.1)

-- ---- headers

-- the header at the front of bytes
pub record Starts (bytes : List ℕ) (h : Head) : Type 0 where
  pub parts : bytes ≡ header h.action h.count ++ h.rest
  pub counts : is_count h.action h.count (length h.rest) ≡ true
  pub small : h.count < 2 ^ 16

pub head_takes : (before : ℕ) (bytes : List ℕ) (h : Head) → IsBytes bytes → head_at before bytes ≡ Ok h
    → Starts bytes h × IsBytes h.rest × (may_follow before h.action ≡ true)
unfolding head_at
head_takes before [] h are e = absurd cc
head_takes before (a ∷ []) h are e = absurd cc
head_takes before (a ∷ b ∷ []) h are e = absurd cc
head_takes before (a ∷ b ∷ c ∷ []) h are e = absurd cc
head_takes before (action ∷ pad ∷ high ∷ low ∷ rest) h are e =
    let made : Head = record { action = action; count = 256 * high + low; rest = rest } in
    let g = guard_passes (may_follow before action) (faults.Action action)
    (cond (not (eqb pad 0)) (Err (faults.Differs (3 + length rest)))
    (cond (not (is_count action (256 * high + low) (length rest))) (Err faults.Count) (Ok made))) h e in
    let p = guard_passes (eqb pad 0) (faults.Differs (3 + length rest))
    (cond (not (is_count action (256 * high + low) (length rest))) (Err faults.Count) (Ok made)) h g.1 in
    let c = guard_passes (is_count action (256 * high + low) (length rest)) faults.Count (Ok made) h p.1 in
    let pad-is : pad ≡ 0 = eqb-true pad 0 p.0 in
    let high-fits : high < 256 = are 2 in
    let low-fits : low < 256 = are 3 in
    let high-is : (256 * high + low) / 256 % 256 ≡ high = omega arith in
    let low-is : (256 * high + low) % 256 ≡ low = omega arith in
    let spelled : action ∷ pad ∷ high ∷ low ∷ rest ≡ action ∷ 0 ∷ (256 * high + low) / 256 % 256 ∷ (256 * high + low) % 256 ∷ rest = cc in
    let rest-are : IsBytes rest = λ i. are (suc (suc (suc (suc i)))) in
    subst (λ (y : Head). Starts (action ∷ pad ∷ high ∷ low ∷ rest) y × IsBytes y.rest × (may_follow before y.action ≡ true))
    (ok_is made h c.1)
    (record { parts = spelled; counts = c.0; small = omega arith }, rest-are, g.0)

head_spelled : (before : ℕ) (h : Head) → is_count h.action h.count (length h.rest) ≡ true → h.count < 2 ^ 16
    → may_follow before h.action ≡ true → head_at before (header h.action h.count ++ h.rest) ≡ Ok h
unfolding head_at
head_spelled before h counts small may =
    let same : 256 * (h.count / 256 % 256) + h.count % 256 ≡ h.count = omega arith in
    rw (may, same, counts) refl

pub head_again : (before : ℕ) (bytes : List ℕ) (h : Head) → Starts bytes h → may_follow before h.action ≡ true
    → head_at before bytes ≡ Ok h
head_again before bytes h starts may = ap (head_at before) starts.parts ∙ head_spelled before h starts.counts starts.small may

-- ---- a section

-- what a section took, and the header behind it
pub record SectionTakes {R : Type 0} (kind : Kind R) (bytes : List ℕ) (head : Head) (records : List R) (next : Head) : Type
    0 where
  pub rest : List ℕ
  pub parts : bytes ≡ section kind records ++ rest
  pub starts : Starts rest next
  pub rest_fits : IsBytes next.rest
  pub fit : list_all kind.format.fits records ≡ true
  pub up : rise kind None records ≡ true
  -- a section of no records took nothing
  pub none : is_empty records ≡ true → next ≡ head
  pub follows : (may_follow kind.action next.action ≡ true) ⊎ ((next ≡ head) × (eqb head.action kind.action ≡ false))

whole : {R : Type 0} (kind : Kind R) (records : List R) → is_empty records ≡ false
    → section kind records ≡ header kind.action (length records) ++ flat_map kind.format.spelling records
whole kind [] some = absurd cc
whole kind (r ∷ records) some = refl

some_records : {R : Type 0} (records : List R) (count : ℕ) → length records ≡ count → not (eqb count 0) ≡ true
    → is_empty records ≡ false
some_records [] count len some = let is : eqb count 0 ≡ true = subst (λ (n : ℕ). eqb n 0 ≡ true) len refl in absurd cc
some_records (r ∷ records) count len some = refl

section_taken : {R : Type 0} (kind : Kind R) → IsKind kind → (bytes : List ℕ) (head : Head) (is_its : Bool) (x : List R × Head)
    → Starts bytes head → IsBytes head.rest → eqb head.action kind.action ≡ is_its
    → cond (not is_its) (Ok ([], head))
    (records_at kind None head.count
    head.rest >>= (λ records. head_at kind.action records.1 >>= (λ next. Ok (records.0, next)))) ≡ Ok x
    → SectionTakes kind bytes head x.0 x.1
section_taken {R = R} kind is bytes head false x starts are other e =
    subst (λ (y : List R × Head). SectionTakes kind bytes head y.0 y.1) (ok_is ([], head) x e)
    (record {
      rest = bytes;
      parts = refl;
      starts = starts;
      rest_fits = are;
      fit = refl;
      up = refl;
      none = λ e. refl;
      follows = inr (refl, other);
    })
section_taken {R = R} kind is bytes head true x starts are its e =
    let a = bind_ok (records_at kind None head.count head.rest)
    (λ records. head_at kind.action records.1 >>= (λ next. Ok (records.0, next))) x e in
    let b = bind_ok (head_at kind.action a.0.1) (λ next. Ok (a.0.0, next)) x a.2 in
    let r = records_take kind is head.count None head.rest a.0 are a.1 in
    let h = head_takes kind.action a.0.1 b.0 r.0.rest_fits b.1 in
    let counted = both (not (eqb head.count 0))
    ((not (eqb head.action 12) || eqb head.count 1) && leb (head.count * size_of head.action) (length head.rest))
    starts.counts in
    let some = some_records a.0.0 head.count r.1 counted.0 in
    let its_header : header head.action head.count ≡ header kind.action (length a.0.0) =
    ap (λ (n : ℕ). header n head.count) (eqb-true head.action kind.action its) ∙ ap (header kind.action) (sym r.1) in
    let parts : bytes ≡ section kind a.0.0 ++ a.0.1 =
    starts.parts ∙ ap (λ (l : List ℕ). l ++ head.rest) its_header
    ∙ ap (λ (l : List ℕ). header kind.action (length a.0.0) ++ l) r.0.parts
    ∙ sym (append_assoc (header kind.action (length a.0.0)) (flat_map kind.format.spelling a.0.0) a.0.1)
    ∙ ap (λ (l : List ℕ). l ++ a.0.1) (sym (whole kind a.0.0 some)) in
    subst (λ (y : List R × Head). SectionTakes kind bytes head y.0 y.1) (ok_is (a.0.0, b.0) x b.2)
    (record {
      rest = a.0.1;
      parts = parts;
      starts = h.0;
      rest_fits = h.1;
      fit = r.2;
      up = r.3;
      none = λ e. absurd cc;
      follows = inl h.2;
    })

pub section_takes : {R : Type 0} (kind : Kind R) → IsKind kind → (bytes : List ℕ) (head : Head) (x : List R × Head)
    → Starts bytes head → IsBytes head.rest → section_at kind head ≡ Ok x → SectionTakes kind bytes head x.0 x.1
unfolding section_at
section_takes kind is bytes head x starts are e =
    section_taken kind is bytes head (eqb head.action kind.action) x starts are refl e
