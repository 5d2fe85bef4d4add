-- How long the sections of a message are.
use Rattle.std.proofs.Common.{◌≡◌, ℕ, zero, suc, ◌+◌, ◌*◌, ◌<◌, ◌≤◌, ◌^◌, true, false, ◌&&◌, List, [], ◌∷◌, ◌++◌, length, refl, ap, ◌∙◌, arith}
use Rattle.std.specs.List.{flat_map, list_all}
use Rattle.std.proofs.lemmas.List.{length-append}
use Rattle.std.proofs.Math.Nat.{mul-le-mul_left, mul-le-mul_right, mul-suc}
use Rattle.pfr_messages.specs.Messages.{Content, Fits, Kind, deletes, inserts, is_empty, section, section_len, sections, updating}
use Rattle.pfr_messages.proofs.ExactRecords.{exact_deletion, exact_insertion, exact_update}
use Rattle.pfr_messages.proofs.Fitting.{both}
use Rattle.pfr_messages.proofs.Formats.{IsExact}

pub records_len : {R : Type 0} (kind : Kind R) (size : ℕ) → IsExact kind.format size → (records : List R)
    → list_all kind.format.fits records ≡ true → length (flat_map kind.format.spelling records) ≡ size * length records
records_len kind size exact [] fit = omega arith
records_len kind size exact (r ∷ records) fit =
    let f = both (kind.format.fits r) (list_all kind.format.fits records) fit in
    let one : length (kind.format.spelling r) ≡ size = exact.len r f.0 in
    let more : length (flat_map kind.format.spelling records) ≡ size * length records = records_len kind size exact records f.1 in
    let whole : length (kind.format.spelling r ++ flat_map kind.format.spelling records) ≡ length
    (kind.format.spelling r) + length (flat_map kind.format.spelling records) =
    length-append (kind.format.spelling r) (flat_map kind.format.spelling records) in
    let times : size * suc (length records) ≡ size * length records + size = mul-suc size (length records) in
    omega (arith, one, more, whole, times)

four : (n : ℕ) → suc (suc (suc (suc n))) ≡ 4 + n
four n = omega arith

section_is : {R : Type 0} (kind : Kind R) (size : ℕ) → IsExact kind.format size → (records : List R)
    → list_all kind.format.fits records ≡ true → length (section kind records) ≡ section_len size (length records)
section_is kind size exact [] fit = refl
section_is kind size exact (r ∷ records) fit =
    four (length (flat_map kind.format.spelling (r ∷ records)))
    ∙ ap (λ (n : ℕ). 4 + n) (records_len kind size exact (r ∷ records) fit)

few : (size n : ℕ) → 0 < size → section_len size n ≤ 1480 → n < 2 ^ 16
few size zero some le = omega arith
few size (suc n) some le =
    let more : 1 * suc n ≤ size * suc n = mul-le-mul_right (suc n) some in
    omega (arith, more)

-- the lengths of a message's parts
pub record Lens (c : Content) : Type 0 where
  pub insertions : length c.insertions < 2 ^ 16
  pub updates : length c.updates < 2 ^ 16
  pub deletions : length c.deletions < 2 ^ 16
  pub whole : 20 + length (sections c) ≡ 24 + section_len 242 (length c.insertions) + section_len 84
      (length c.updates) + section_len 12 (length c.deletions)
  pub short : 24 + section_len 242 (length c.insertions) + section_len 84 (length c.updates) + section_len 12
      (length c.deletions) ≤ 1480

pub lens : (c : Content) → Fits c → Lens c
lens c fits =
    let a = section_is inserts 242 exact_insertion c.insertions fits.insertions in
    let b = section_is updating 84 exact_update c.updates fits.updates in
    let d = section_is deletes 12 exact_deletion c.deletions fits.deletions in
    let end : List ℕ = 12 ∷ 0 ∷ 0 ∷ 1 ∷ [] in
    let p : length (section deletes c.deletions ++ end) ≡ length (section deletes c.deletions) + 4 =
    length-append (section deletes c.deletions) end in
    let q : length (section updating c.updates ++ (section deletes c.deletions ++ end)) ≡ length
    (section updating c.updates) + length (section deletes c.deletions ++ end) =
    length-append (section updating c.updates) (section deletes c.deletions ++ end) in
    let r : length (sections c) ≡ length (section inserts c.insertions) + length
    (section updating c.updates ++ (section deletes c.deletions ++ end)) =
    length-append (section inserts c.insertions) (section updating c.updates ++ (section deletes c.deletions ++ end)) in
    let whole : 20 + length (sections c) ≡ 24 + section_len 242 (length c.insertions) + section_len 84
    (length c.updates) + section_len 12 (length c.deletions) = omega (arith, a, b, d, p, q, r) in
    let short : 24 + section_len 242 (length c.insertions) + section_len 84 (length c.updates) + section_len 12
    (length c.deletions) ≤ 1480 = omega (arith, whole, fits.short) in
    record {
      insertions = few 242 (length c.insertions) (omega arith) (omega (arith, short));
      updates = few 84 (length c.updates) (omega arith) (omega (arith, short));
      deletions = few 12 (length c.deletions) (omega arith) (omega (arith, short));
      whole = whole;
      short = short;
    }

one_more : (size n : ℕ) → 12 ≤ size → 16 ≤ section_len size (suc n)
one_more size n le =
    let more : size * 1 ≤ size * suc n = mul-le-mul_left size (omega arith) in
    omega (arith, more)

some_records : {A B C : Type 0} (a : List A) (b : List B) (c : List C) → (is_empty a && (is_empty b && is_empty c)) ≡ false
    → 16 ≤ section_len 242 (length a) + section_len 84 (length b) + section_len 12 (length c)
some_records (x ∷ a) b c some = let h : 16 ≤ section_len 242 (suc (length a)) =
    one_more 242 (length a) (omega arith) in omega (arith, h)
some_records [] (x ∷ b) c some = let h : 16 ≤ section_len 84 (suc (length b)) =
    one_more 84 (length b) (omega arith) in omega (arith, h)
some_records [] [] (x ∷ c) some = let h : 16 ≤ section_len 12 (suc (length c)) =
    one_more 12 (length c) (omega arith) in omega (arith, h)
some_records [] [] [] some = absurd cc

-- a message has at least one record
pub least : (c : Content) → Fits c → 40 ≤ 20 + length (sections c)
least c fits =
    let whole : 20 + length (sections c) ≡ 24 + section_len 242 (length c.insertions) + section_len 84
    (length c.updates) + section_len 12 (length c.deletions) = (lens c fits).whole in
    let some : 16 ≤ section_len 242 (length c.insertions) + section_len 84 (length c.updates) + section_len 12
    (length c.deletions) = some_records c.insertions c.updates c.deletions fits.some in
    omega (arith, whole, some)
