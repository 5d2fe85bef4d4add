-- Sums over parts of a datagram, and what written words bring to them.
use Rattle.std.proofs.Common.{◌≡◌, ◌≤◌, ◌<◌, ◌-◌, ◌+◌, ◌*◌, ◌/◌, ◌%◌, ◌++◌, ℕ, zero, suc, List, [], ◌∷◌, length, take, drop, refl, sym, ◌∙◌, ap, subst, arith}
use Rattle.std.proofs.lemmas.List.{drop-append-le, drop-drop, drop-take, length-drop, length-take-le, take-append-le, take-take}
use Rattle.byteorder.specs.Endian.{big_bytes, big_number}
use Rattle.byteorder.specs.Numbers.{big_number-reads_back}
use Rattle.pfr_net.specs.declared.address.Ipv4Address.{Ipv4Address}
use Rattle.pfr_headers.specs.Checksum.{Verifies, difference, difference_of, mended, mended_udp, with_word, with_words, word, word_at}
use Rattle.pfr_headers.specs.Laws.{sum_of}
use Rattle.pfr_headers.specs.Rewriting.{address_words}
use Rattle.pfr_headers.proofs.ChecksumLemmas.{brings, mended_verifies, mends, udp_verifies, udp_within}
use Rattle.pfr_headers.proofs.WordLemmas.{behind, length_with, next_kept}

-- ---- a word among bytes that are summed

first_in : (n value a b : ℕ) (rest : List ℕ) → value < 65536 → sum_of (take (suc (suc n)) (with_word (word 0 value) (a ∷ (b ∷ rest)))) + word_at (a ∷ (b ∷ rest)) 0 ≡ sum_of (take (suc (suc n)) (a ∷ (b ∷ rest))) + value
unfolding with_word
first_in n value a b rest small =
    let back = big_number-reads_back 2 value rest small in
    omega (arith, back)

-- a word further on
two_further : (place value a b : ℕ) (rest : List ℕ) → with_word (word (suc (suc place)) value) (a ∷ (b ∷ rest)) ≡ a ∷ (b ∷ with_word (word place value) rest)
unfolding with_word
two_further place value a b rest =
    let at : suc (suc place) + 2 ≡ suc (suc (place + 2)) = omega arith in
    rw at refl

pub sum_in : (k n value : ℕ) (bytes : List ℕ) → 2 * k + 2 ≤ n → 2 * k + 2 ≤ length bytes → value < 65536 → sum_of (take n (with_word (word (2 * k) value) bytes)) + word_at bytes (2 * k) ≡ sum_of (take n bytes) + value
sum_in k n value [] within there small = absurd (omega arith)
sum_in k n value (a ∷ []) within there small = absurd (omega arith)
sum_in k zero value (a ∷ (b ∷ rest)) within there small = absurd (omega arith)
sum_in k (suc zero) value (a ∷ (b ∷ rest)) within there small = absurd (omega arith)
sum_in zero (suc (suc n)) value (a ∷ (b ∷ rest)) within there small = first_in n value a b rest small
sum_in (suc k) (suc (suc n)) value (a ∷ (b ∷ rest)) within there small =
    let at : 2 * suc k ≡ suc (suc (2 * k)) = omega arith in
    let more = sum_in k n value rest (omega arith) (omega arith) small in
    rw (at, two_further (2 * k) value a b rest) (omega (arith, more))

-- words in front of what is summed, and behind it
pub sum_before : (from n place value : ℕ) (bytes : List ℕ) → place + 2 ≤ from → place + 2 ≤ length bytes → sum_of (take n (drop from (with_word (word place value) bytes))) ≡ sum_of (take n (drop from bytes))
sum_before from n place value bytes before there = ap (λ (t : List ℕ). sum_of (take n t)) (behind (word place value) bytes from there before)

shifted : (from place value : ℕ) (bytes : List ℕ) → from + place + 2 ≤ length bytes → drop from (with_word (word (from + place) value) bytes) ≡ with_word (word place value) (drop from bytes)
unfolding with_word
shifted from place value bytes within =
    let long : from ≤ length (take (from + place) bytes) = omega (arith, length-take-le (from + place) bytes (omega arith)) in
    let back : drop (place + 2) (drop from bytes) ≡ drop (from + place + 2) bytes = drop-drop (place + 2) from bytes ∙ ap (λ (n : ℕ). drop n bytes) (omega arith) in
    drop-append-le from (take (from + place) bytes) (big_bytes 2 value ++ drop (from + place + 2) bytes) long
    ∙ (rw (drop-take from place bytes, back) refl)

past : (n place value : ℕ) (bytes : List ℕ) → n ≤ place → place + 2 ≤ length bytes → take n (with_word (word place value) bytes) ≡ take n bytes
unfolding with_word
past n place value bytes over there =
    take-append-le n (take place bytes) (big_bytes 2 value ++ drop (place + 2) bytes) (omega (arith, length-take-le place bytes (omega arith)))
    ∙ take-take n place bytes over

pub sum_behind : (from n place value : ℕ) (bytes : List ℕ) → from + n ≤ place → place + 2 ≤ length bytes → sum_of (take n (drop from (with_word (word place value) bytes))) ≡ sum_of (take n (drop from bytes))
sum_behind from n place value bytes over there =
    let at : from + (place - from) ≡ place = omega arith in
    subst (λ (p : ℕ). sum_of (take n (drop from (with_word (word p value) bytes))) ≡ sum_of (take n (drop from bytes))) at (
    ap (λ (t : List ℕ). sum_of (take n t)) (shifted from (place - from) value bytes (omega arith))
    ∙ ap sum_of (past n (place - from) value (drop from bytes) (omega arith) (omega (arith, length-drop from bytes))))

-- ---- what a sum over bytes makes of a written word

-- the word at a place is one of those that are summed, whatever the bytes
pub record Covers (sum : List ℕ → ℕ) (size place : ℕ) : Type 0 where
  pub is : (bytes : List ℕ) (value : ℕ) → length bytes ≡ size → value < 65536 → sum (with_word (word place value) bytes) + word_at bytes place ≡ sum bytes + value

-- it is none of them
pub record Passes (sum : List ℕ → ℕ) (size place : ℕ) : Type 0 where
  pub is : (bytes : List ℕ) (value : ℕ) → length bytes ≡ size → sum (with_word (word place value) bytes) ≡ sum bytes

-- the sum over `n` bytes, from the place `from` on
abbrev pub part_sum : ℕ → ℕ → List ℕ → ℕ
part_sum from n bytes = sum_of (take n (drop from bytes))

covers_at : (from n k size value : ℕ) (bytes : List ℕ) → 2 * k + 2 ≤ n → from + 2 * k + 2 ≤ size → length bytes ≡ size → value < 65536 → part_sum from n (with_word (word (from + 2 * k) value) bytes) + word_at bytes (from + 2 * k) ≡ part_sum from n bytes + value
covers_at from n k size value bytes within there is small =
    let same : word_at bytes (from + 2 * k) ≡ word_at (drop from bytes) (2 * k) = ap (λ (t : List ℕ). big_number 2 t) (sym (drop-drop (2 * k) from bytes ∙ ap (λ (m : ℕ). drop m bytes) (omega arith))) in
    rw (shifted from (2 * k) value bytes (omega (arith, is)), same) (sum_in k n value (drop from bytes) within (omega (arith, is, length-drop from bytes)) small)

pub covers : (from n k size place : ℕ) → place ≡ from + 2 * k → 2 * k + 2 ≤ n → place + 2 ≤ size → Covers (part_sum from n) size place
covers from n k size place at within there =
    subst (λ (p : ℕ). Covers (part_sum from n) size p) (sym at) (record { is = λ bytes value is small. covers_at from n k size value bytes within (omega (arith, at)) is small })

pub passes_before : (from n size place : ℕ) → place + 2 ≤ from → place + 2 ≤ size → Passes (part_sum from n) size place
passes_before from n size place before there = record { is = λ bytes value is. sum_before from n place value bytes before (omega (arith, is)) }

pub passes_behind : (from n size place : ℕ) → from + n ≤ place → place + 2 ≤ size → Passes (part_sum from n) size place
passes_behind from n size place over there = record { is = λ bytes value is. sum_behind from n place value bytes over (omega (arith, is)) }

-- of two sums, the first of which has the word
pub covers_first : (a b : List ℕ → ℕ) (size place : ℕ) → Covers a size place → Passes b size place → Covers (λ bytes. a bytes + b bytes) size place
covers_first a b size place c p = record { is = λ bytes value is small. let x = c.is bytes value is small in let y = p.is bytes value is in omega (arith, x, y) }

pub covers_second : (a b : List ℕ → ℕ) (size place : ℕ) → Passes a size place → Covers b size place → Covers (λ bytes. a bytes + b bytes) size place
covers_second a b size place p c = record { is = λ bytes value is small. let x = c.is bytes value is small in let y = p.is bytes value is in omega (arith, x, y) }

pub passes_both : (a b : List ℕ → ℕ) (size place : ℕ) → Passes a size place → Passes b size place → Passes (λ bytes. a bytes + b bytes) size place
passes_both a b size place p q = record { is = λ bytes value is. let x = p.is bytes value is in let y = q.is bytes value is in omega (arith, x, y) }

-- with a number that no bytes change
pub covers_with : (a : List ℕ → ℕ) (n size place : ℕ) → Covers a size place → Covers (λ bytes. a bytes + n) size place
covers_with a n size place c = record { is = λ bytes value is small. let x = c.is bytes value is small in omega (arith, x) }

pub passes_with : (a : List ℕ → ℕ) (n size place : ℕ) → Passes a size place → Passes (λ bytes. a bytes + n) size place
passes_with a n size place p = record { is = λ bytes value is. let x = p.is bytes value is in omega (arith, x) }

-- ---- words one after the other

-- a sum goes on by what was brought, but for rounds of 65535
pub record Moves (sum : List ℕ → ℕ) (old new : List ℕ) (brought : ℕ) : Type 0 where
  pub rounds : ℕ
  pub is : sum new + 65535 * rounds ≡ sum old + brought

pub moves_none : (sum : List ℕ → ℕ) (bytes : List ℕ) → Moves sum bytes bytes 0
moves_none sum bytes = record { rounds = 0; is = omega arith }

pub moves_then : (sum : List ℕ → ℕ) (a b c : List ℕ) (x y : ℕ) → Moves sum a b x → Moves sum b c y → Moves sum a c (x + y)
moves_then sum a b c x y first second =
    let p = first.is in
    let q = second.is in
    record { rounds = first.rounds + second.rounds; is = omega (arith, p, q) }

pub moves_word : (sum : List ℕ → ℕ) (size place value : ℕ) (bytes : List ℕ) → Covers sum size place → length bytes ≡ size → word_at bytes place ≤ 65535 → value < 65536 → Moves sum bytes (with_word (word place value) bytes) (difference (word_at bytes place) value)
moves_word sum size place value bytes c is within small =
    let b = brings (word_at bytes place) value within in
    let p = b.is in
    let q = c.is bytes value is small in
    record { rounds = b.rounds; is = omega (arith, p, q) }

pub moves_past : (sum : List ℕ → ℕ) (size place value : ℕ) (bytes : List ℕ) → Passes sum size place → length bytes ≡ size → Moves sum bytes (with_word (word place value) bytes) 0
moves_past sum size place value bytes p is =
    let q = p.is bytes value is in
    record { rounds = 0; is = omega (arith, q) }

-- the two words of an address
pub address_moves : (sum : List ℕ → ℕ) (size place : ℕ) (address : Ipv4Address) (bytes : List ℕ) → length bytes ≡ size → place + 4 ≤ size → word_at bytes place ≤ 65535 → word_at bytes (place + 2) ≤ 65535 → address.0 < 4294967296 → Covers sum size place → Covers sum size (place + 2)
    → Moves sum bytes (with_words (address_words place address) bytes) (difference_of bytes (address_words place address))
address_moves sum size place address bytes is room within_high within_low small first second =
    let one = with_word (word place (address.0 / 65536)) bytes in
    let two = with_word (word (place + 2) (address.0 % 65536)) one in
    let size_one = length_with (word place (address.0 / 65536)) bytes (omega (arith, is)) in
    let same : word_at one (place + 2) ≡ word_at bytes (place + 2) = next_kept place (address.0 / 65536) bytes (omega (arith, is)) in
    let a = moves_word sum size place (address.0 / 65536) bytes first is within_high (omega arith) in
    let b = subst (λ (n : ℕ). Moves sum one two (difference n (address.0 % 65536))) same (moves_word sum size (place + 2) (address.0 % 65536) one second (size_one ∙ is) (rw same within_low) (omega arith)) in
    let p = a.is in
    let q = b.is in
    record { rounds = a.rounds + b.rounds; is = omega (arith, p, q) }

-- a word that is summed is no more than the sum
pub least : (sum : List ℕ → ℕ) (size place : ℕ) (bytes : List ℕ) → Covers sum size place → length bytes ≡ size → word_at bytes place ≤ sum bytes
least sum size place bytes c is = let q = c.is bytes 0 is (omega arith) in omega (arith, q)

-- a checksum that is mended for what was brought
pub mending : (sum : List ℕ → ℕ) (size place brought : ℕ) (old now : List ℕ) → Covers sum size place → length old ≡ size → length now ≡ size → Moves sum old now brought → word_at now place ≡ word_at old place → word_at old place ≤ 65535
    → Verifies (sum old) → 0 < sum (with_word (word place (mended (word_at old place) brought)) now) → Verifies (sum (with_word (word place (mended (word_at old place) brought)) now))
mending sum size place brought old now c is_old is_now moved same within before some =
    let checksum = word_at old place in
    let new = mended checksum brought in
    let small = (mends checksum brought).within in
    let q = c.is now new is_now (omega arith) in
    let m = moved.is in
    let first = least sum size place old c is_old in
    let second = least sum size place now c is_now in
    let rest : sum old ≡ (sum old - checksum) + checksum = omega arith in
    let rest_new : sum (with_word (word place new) now) ≡ (sum now - checksum) + new = omega (arith, q, same, second) in
    let v = mended_verifies (sum old - checksum) (sum now - checksum) brought checksum moved.rounds within (omega (arith, m, first, second, same)) (rw rest at before) (omega (arith, rest_new, some)) in
    rw rest_new v

-- and UDP's
pub mending_udp : (sum : List ℕ → ℕ) (size place brought : ℕ) (old now : List ℕ) → Covers sum size place → length old ≡ size → length now ≡ size → Moves sum old now brought → word_at now place ≡ word_at old place → word_at old place ≤ 65535 → 0 < word_at old place
    → Verifies (sum old) → Verifies (sum (with_word (word place (mended_udp (word_at old place) brought)) now))
mending_udp sum size place brought old now c is_old is_now moved same within there before =
    let checksum = word_at old place in
    let new = mended_udp checksum brought in
    let small = udp_within checksum brought in
    let q = c.is now new is_now (omega arith) in
    let m = moved.is in
    let first = least sum size place old c is_old in
    let second = least sum size place now c is_now in
    let rest : sum old ≡ (sum old - checksum) + checksum = omega arith in
    let rest_new : sum (with_word (word place new) now) ≡ (sum now - checksum) + new = omega (arith, q, same, second) in
    let v = udp_verifies (sum old - checksum) (sum now - checksum) brought checksum moved.rounds within there (omega (arith, m, first, second, same)) (rw rest at before) in
    rw rest_new v
