-- Formats that are exact: what is read is what was spelled, and what is spelled is read.
use Rattle.std.proofs.Common.{◌≡◌, ℕ, suc, ◌+◌, ◌^◌, ◌<◌, ◌≤◌, Bool, true, false, cond, ltb, List, [], ◌∷◌, ◌++◌, length, get_or, take, drop, Result, Ok, Err, refl, sym, ap, ◌∙◌, append_assoc, arith, inl, inr}
use Rattle.std.specs.Int.{Width, w8, w16, w32, w64, byte_len, from_be_bytes, to_be_bytes}
use Rattle.std.proofs.lemmas.Bool.{cases_lt, ltb-false, ltb-true, le-ltb, lt-ltb}
use Rattle.std.proofs.lemmas.List.{take_at, drop_at, take-append-drop, length-append, length-take, get_or-drop, get_or-take, get_or_past}
use Rattle.std.proofs.lemmas.Nat.{be_bytes_2, be_bytes_4, be_bytes_8, from_be_bytes-to_be_bytes_2, from_be_bytes-to_be_bytes_4, from_be_bytes-to_be_bytes_8}
use Rattle.pfr_messages.specs.declared.fault.Fault.{Fault}
use Rattle.pfr_messages.specs.declared.fault.Fault.TheVariants.{Count}
use Rattle.pfr_messages.specs.Fields.{◌>>=◌, Format, number, number_at}

-- ---- bytes

abbrev pub IsBytes : List ℕ → Type 0
IsBytes bytes = (i : ℕ) → get_or bytes i 0 < 256

pub IsBytes-drop : (n : ℕ) (bytes : List ℕ) → IsBytes bytes → IsBytes (drop n bytes)
IsBytes-drop n bytes h i = rw get_or-drop (h (n + i))

pub IsBytes-take : (n : ℕ) (bytes : List ℕ) → IsBytes bytes → IsBytes (take n bytes)
IsBytes-take n bytes h i =
    elim (cases_lt i n) [
      | inl lt ↦ rw (get_or-take n bytes i 0 lt) (h i)
      | inr le ↦ rw (get_or_past (take n bytes) i 0 (omega (arith, length-take n bytes))) (omega arith)
    ]

pub IsBytes-rest : (b : ℕ) (bytes : List ℕ) → IsBytes (b ∷ bytes) → IsBytes bytes
IsBytes-rest b bytes h i = h (suc i)

-- ---- steps of reading

-- the value of a step without a fault
pub bind_ok : {A B : Type 0} (r : Result A Fault) (f : A → Result B Fault) (y : B) → (r >>= f) ≡ Ok y
    → (x : A) × (r ≡ Ok x) × (f x ≡ Ok y)
bind_ok (Ok x) f y e = (x, refl, e)
bind_ok (Err d) f y e = absurd cc

-- a test that found no fault
pub guard_ok : {A : Type 0} (b : Bool) (d : Fault) (x y : A) → cond b (Err d) (Ok x) ≡ Ok y → (b ≡ false) × (x ≡ y)
guard_ok true d x y e = absurd cc
guard_ok false d x y e = (refl, cc)

abbrev done : {A : Type 0} → A → Result A Fault
done x = Ok x

pub ok_is : {A : Type 0} (x y : A) → done x ≡ done y → x ≡ y
ok_is x y e = cc

-- what a reader took from the front
pub record Takes (bytes text rest : List ℕ) : Type 0 where
  pub parts : bytes ≡ text ++ rest
  pub rest_fits : IsBytes rest

pub Takes-then : (a x b y c : List ℕ) → Takes a x b → Takes b y c → Takes a (x ++ y) c
Takes-then a x b y c p q =
    record { parts = p.parts ∙ ap (λ (t : List ℕ). x ++ t) q.parts ∙ sym (append_assoc x y c); rest_fits = q.rest_fits }

-- ---- exact formats

-- a format whose values have `size` bytes each
pub record IsExact {A : Type 0} (f : Format A) (size : ℕ) : Type 0 where
  pub len : (x : A) → f.fits x ≡ true → length (f.spelling x) ≡ size
  pub takes : (bytes : List ℕ) (x : A) (rest : List ℕ) → IsBytes bytes → f.reading bytes ≡ Ok (x, rest)
      → Takes bytes (f.spelling x) rest × (f.fits x ≡ true)
  pub again : (x : A) (rest : List ℕ) → f.fits x ≡ true → f.reading (f.spelling x ++ rest) ≡ Ok (x, rest)

-- a step of a chain that reads a format
pub record Step {A B : Type 0} (f : Format A) (bytes : List ℕ) (next : A × List ℕ → Result B Fault) (y : B) : Type 0 where
  pub value : A
  pub rest : List ℕ
  pub takes : Takes bytes (f.spelling value) rest
  pub fits : f.fits value ≡ true
  pub next_is : next (value, rest) ≡ Ok y

pub step : {A B : Type 0} {f : Format A} {size : ℕ} → IsExact f size
    → (bytes : List ℕ) (next : A × List ℕ → Result B Fault) (y : B) → IsBytes bytes → (f.reading bytes >>= next) ≡ Ok y
    → Step f bytes next y
step {f = f} exact bytes next y fits e =
    let read = bind_ok (f.reading bytes) next y e in
    let taken = exact.takes bytes read.0.0 read.0.1 fits read.1 in
    record { value = read.0.0; rest = read.0.1; takes = taken.0; fits = taken.1; next_is = read.2 }

-- ---- numbers

pub record IsWide (width : Width) : Type 0 where
  pub len : (n : ℕ) → length (to_be_bytes width n) ≡ byte_len width
  pub back : (bytes : List ℕ) → length bytes ≡ byte_len width → IsBytes bytes
      → to_be_bytes width (from_be_bytes width bytes) ≡ bytes
  pub again : (n : ℕ) → n < 256 ^ byte_len width → from_be_bytes width (to_be_bytes width n) ≡ n
  pub below : (bytes : List ℕ) → IsBytes bytes → from_be_bytes width bytes < 256 ^ byte_len width

one_byte : (bytes : List ℕ) → length bytes ≡ 1 → IsBytes bytes → to_be_bytes w8 (from_be_bytes w8 bytes) ≡ bytes
one_byte [] e fits = absurd cc
one_byte (b ∷ []) e fits = grind (arith, fits 0)
one_byte (b ∷ c ∷ bytes) e fits = absurd (omega arith)

pub wide8 : IsWide w8
wide8 = record {
  len = λ n. refl;
  back = one_byte;
  again = λ n lt. omega arith;
  below = λ bytes fits. omega (arith, fits 0);
}

pub wide16 : IsWide w16
wide16 = record {
  len = λ n. refl;
  back = λ bytes len fits. be_bytes_2 bytes _ len fits refl;
  again = λ n lt. from_be_bytes-to_be_bytes_2 n lt;
  below = λ bytes fits. omega (arith, fits 0, fits 1);
}

pub wide32 : IsWide w32
wide32 = record {
  len = λ n. refl;
  back = λ bytes len fits. be_bytes_4 bytes _ len fits refl;
  again = λ n lt. from_be_bytes-to_be_bytes_4 n lt;
  below = λ bytes fits. omega (arith, fits 0, fits 1, fits 2, fits 3);
}

pub wide64 : IsWide w64
wide64 = record {
  len = λ n. refl;
  back = λ bytes len fits. be_bytes_8 bytes _ len fits refl;
  again = λ n lt. from_be_bytes-to_be_bytes_8 n lt;
  below = λ bytes fits. omega (arith, fits 0, fits 1, fits 2, fits 3, fits 4, fits 5, fits 6, fits 7);
}

number_takes : (width : Width) → IsWide width → (bytes : List ℕ) (n : ℕ) (rest : List ℕ) → IsBytes bytes
    → number_at width bytes ≡ Ok (n, rest) → Takes bytes (to_be_bytes width n) rest × (n < 256 ^ byte_len width)
unfolding number_at
number_takes w wide bytes n rest fits e =
    let g = guard_ok (ltb (length bytes) (byte_len w)) Count (from_be_bytes w (take (byte_len w) bytes), drop (byte_len w) bytes)
    (n, rest) e in
    let long : byte_len w ≤ length bytes = ltb-false _ _ g.0 in
    let n-is : from_be_bytes w (take (byte_len w) bytes) ≡ n = ap (λ (p : ℕ × List ℕ). p.0) g.1 in
    let rest-is : drop (byte_len w) bytes ≡ rest = ap (λ (p : ℕ × List ℕ). p.1) g.1 in
    let front : to_be_bytes w n ≡ take (byte_len w) bytes =
    rw (← n-is) (wide.back (take (byte_len w) bytes) (omega (arith, length-take (byte_len w) bytes))
    (IsBytes-take (byte_len w) bytes fits)) in (
      record {
        parts = rw (front, ← rest-is) (sym (take-append-drop (byte_len w) bytes));
        rest_fits = rw (← rest-is) (IsBytes-drop (byte_len w) bytes fits);
      },
      rw (← n-is)
          (wide.below (take (byte_len w) bytes) (IsBytes-take (byte_len w) bytes fits)),
    )

number_again : (width : Width) → IsWide width → (n : ℕ) (rest : List ℕ) → n < 256 ^ byte_len width
    → number_at width (to_be_bytes width n ++ rest) ≡ Ok (n, rest)
unfolding number_at
number_again w wide n rest lt =
    let len = wide.len n in
    let long : ltb (length (to_be_bytes w n ++ rest)) (byte_len w) ≡ false =
    le-ltb _ _ (omega (arith, length-append (to_be_bytes w n) rest)) in
    rw (long, take_at (to_be_bytes w n) rest (byte_len w) len, drop_at (to_be_bytes w n) rest (byte_len w) len, wide.again n lt)
    refl

below : (width : Width) (n : ℕ) → (number width).fits n ≡ true → n < 256 ^ byte_len width
below w n e = ltb-true n (256 ^ byte_len w) e

exact_number : (width : Width) → IsWide width → IsExact (number width) (byte_len width)
exact_number w wide = record {
  len = λ n fits. wide.len n;
  takes = λ bytes n rest are e. let t = number_takes w wide bytes n rest are e in (t.0, lt-ltb n (256 ^ byte_len w) t.1);
  again = λ n rest fits. number_again w wide n rest (below w n fits);
}

pub exact8 : IsExact (number w8) 1
exact8 = exact_number w8 wide8

pub exact16 : IsExact (number w16) 2
exact16 = exact_number w16 wide16

pub exact32 : IsExact (number w32) 4
exact32 = exact_number w32 wide32

pub exact64 : IsExact (number w64) 8
exact64 = exact_number w64 wide64
