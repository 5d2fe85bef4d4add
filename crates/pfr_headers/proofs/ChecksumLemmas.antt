-- A checksum that verifies before a packet is rewritten verifies after.
use Rattle.std.proofs.Common.{◌≡◌, ◌≤◌, ◌<◌, ◌-◌, ◌+◌, ◌*◌, ◌/◌, ◌++◌, ℕ, Bool, true, false, eqb, zero, suc, List, [], ◌∷◌, length, take, drop, refl, sym, ◌∙◌, ap, subst, arith, cond}
use Rattle.std.proofs.lemmas.Bool.{eqb-true, ne_eqb}
use Rattle.std.proofs.lemmas.List.{drop-append-le, drop-drop, drop-take, length-drop, length-take-le}
use Rattle.byteorder.specs.Endian.{big_bytes, big_number}
use Rattle.byteorder.specs.Numbers.{big_number-reads_back}
use Rattle.pfr_headers.specs.Checksum.{Verifies, Word, difference, end_around, mended, mended_udp, sum_of_words, with_word, with_words, word, word_at}
use Rattle.pfr_headers.proofs.WordLemmas.{Spans, behind, kept_before, length_with}

-- what a change brings is the new value without the old, but for a round of 65535
pub record Brings (old new brought : ℕ) : Type 0 where
  pub rounds : ℕ
  pub at_most : rounds ≤ 1
  pub is : brought + old ≡ new + 65535 * rounds

brings_by : (old new : ℕ) (same : Bool) → eqb old new ≡ same → old ≤ 65535 → Brings old new (cond same 0 (65535 - old + new))
brings_by old new true is within = let e = eqb-true old new is in record { rounds = 0; at_most = omega arith; is = omega arith }
brings_by old new false is within = record { rounds = 1; at_most = omega arith; is = omega arith }

pub brings : (old new : ℕ) → old ≤ 65535 → Brings old new (difference old new)
brings old new within = brings_by old new _ refl within

pub one_at_least : (n : ℕ) → eqb n 0 ≡ false → 1 ≤ n
one_at_least zero e = absurd (cc)
one_at_least (suc n) e = omega arith

-- a mended checksum makes up for what the changes bring, but for rounds of 65535
pub record Mends (checksum brought new : ℕ) : Type 0 where
  pub within : new ≤ 65535
  pub rounds : ℕ
  pub is : new + (65535 - checksum + brought) ≡ 65535 * rounds

mends_by : (sum : ℕ) (none : Bool) → eqb sum 0 ≡ none → (rounds : ℕ) × (65535 - end_around sum ≤ 65535) × (65535 - end_around sum + sum ≡ 65535 * rounds)
mends_by sum true is = let f = eqb-true sum 0 is in rw is (1, omega arith, omega arith)
mends_by sum false is =
    let some : 1 ≤ sum = one_at_least sum is in
    rw is ((sum - 1) / 65535 + 1, omega arith, omega arith)

pub mends : (checksum brought : ℕ) → Mends checksum brought (mended checksum brought)
unfolding mended
mends checksum brought =
    let m = mends_by (65535 - checksum + brought) _ refl in
    record { within = m.1; rounds = m.0; is = m.2 }

verifies_by : (rest rest' brought checksum new rounds : ℕ) → checksum ≤ 65535 → rest + brought ≡ rest' + 65535 * rounds → Mends checksum brought new → Verifies (rest + checksum) → 0 < rest' + new → Verifies (rest' + new)
verifies_by rest rest' brought checksum new rounds within changed m before some =
    let whole = before.1 in
    let mended_is = m.is in
    (some, omega arith)

-- what verified before a change verifies after it
pub mended_verifies : (rest rest' brought checksum rounds : ℕ) → checksum ≤ 65535 → rest + brought ≡ rest' + 65535 * rounds → Verifies (rest + checksum) → 0 < rest' + mended checksum brought → Verifies (rest' + mended checksum brought)
mended_verifies rest rest' brought checksum rounds within changed before some =
    verifies_by rest rest' brought checksum (mended checksum brought) rounds within changed (mends checksum brought) before some

udp_by : (checksum brought : ℕ) (zero_now : Bool) → eqb (mended checksum brought) 0 ≡ zero_now → Mends checksum brought (cond zero_now 65535 (mended checksum brought)) × (0 < cond zero_now 65535 (mended checksum brought))
udp_by checksum brought true is =
    let m = mends checksum brought in
    let none = eqb-true (mended checksum brought) 0 is in
    let all = m.is in
    (record { within = omega arith; rounds = m.rounds + 1; is = omega arith }, omega arith)
udp_by checksum brought false is = (mends checksum brought, one_at_least (mended checksum brought) is)

udp_mends : (checksum brought : ℕ) → eqb checksum 0 ≡ false → Mends checksum brought (mended_udp checksum brought) × (0 < mended_udp checksum brought)
unfolding mended_udp
udp_mends checksum brought some = rw some (udp_by checksum brought _ refl)

not_zero : (n : ℕ) → 0 < n → eqb n 0 ≡ false
not_zero n some = ne_eqb n 0 (λ e. absurd (omega arith))

pub none_stays : (checksum brought : ℕ) → checksum ≡ 0 → mended_udp checksum brought ≡ 0
unfolding mended_udp
none_stays checksum brought none = rw none refl

within_by : (checksum brought : ℕ) (none : Bool) → eqb checksum 0 ≡ none → mended_udp checksum brought ≤ 65535
unfolding mended_udp
within_by checksum brought true is = rw is (omega arith)
within_by checksum brought false is = (udp_mends checksum brought is).0.within

pub udp_within : (checksum brought : ℕ) → mended_udp checksum brought ≤ 65535
udp_within checksum brought = within_by checksum brought _ refl

pub udp_verifies : (rest rest' brought checksum rounds : ℕ) → checksum ≤ 65535 → 0 < checksum → rest + brought ≡ rest' + 65535 * rounds → Verifies (rest + checksum) → Verifies (rest' + mended_udp checksum brought)
udp_verifies rest rest' brought checksum rounds within there changed before =
    let m = udp_mends checksum brought (not_zero checksum there) in
    let some = m.1 in
    verifies_by rest rest' brought checksum (mended_udp checksum brought) rounds within changed m.0 before (omega arith)

-- sums of the words of bytes into which a word is written

front_read : (value : ℕ) (bytes : List ℕ) → value < 65536 → word_at (with_word (word 0 value) bytes) 0 ≡ value
unfolding with_word
front_read value bytes small = big_number-reads_back 2 value (drop 2 bytes) small

two_on : (place value : ℕ) (bytes : List ℕ) → place + 4 ≤ length bytes → drop 2 (with_word (word (2 + place) value) bytes) ≡ with_word (word place value) (drop 2 bytes)
unfolding with_word
two_on place value bytes within =
    let long : 2 ≤ length (take (2 + place) bytes) = omega (arith, length-take-le (2 + place) bytes (omega arith)) in
    let back : drop (place + 2) (drop 2 bytes) ≡ drop (2 + place + 2) bytes = drop-drop (place + 2) 2 bytes ∙ ap (λ (n : ℕ). drop n bytes) (omega arith) in
    drop-append-le 2 (take (2 + place) bytes) (big_bytes 2 value ++ drop (2 + place + 2) bytes) long
    ∙ (rw (drop-take 2 place bytes, back) refl)

-- a word among those that are summed
pub sum_with : (place count value : ℕ) (bytes : List ℕ) → place < count → 2 * count ≤ length bytes → value < 65536 → sum_of_words count (with_word (word (2 * place) value) bytes) + word_at bytes (2 * place) ≡ sum_of_words count bytes + value
sum_with place zero value bytes below within small = absurd (omega arith)
sum_with zero (suc count) value bytes below within small =
    let read = front_read value bytes small in
    let rest = behind (word 0 value) bytes 2 (omega arith) (omega arith) in
    rw (read, rest) (omega arith)
sum_with (suc place) (suc count) value bytes below within small =
    let at : 2 * suc place ≡ 2 + 2 * place = omega arith in
    let first : word_at (with_word (word (2 + 2 * place) value) bytes) 0 ≡ word_at bytes 0 = kept_before (2 + 2 * place) value 0 bytes (omega arith) (omega arith) in
    let on = two_on (2 * place) value bytes (omega arith) in
    let size = length-drop 2 bytes in
    let rest = sum_with place count value (drop 2 bytes) (omega arith) (omega arith) small in
    let old : word_at bytes (2 + 2 * place) ≡ word_at (drop 2 bytes) (2 * place) = ap (λ (t : List ℕ). big_number 2 t) (sym (drop-drop (2 * place) 2 bytes)) in
    rw (at, first, on, old) (omega (arith, rest))

-- a word behind them
sum_without : (count place value : ℕ) (bytes : List ℕ) → 2 * count ≤ place → place + 2 ≤ length bytes → sum_of_words count (with_word (word place value) bytes) ≡ sum_of_words count bytes
sum_without zero place value bytes over within = refl
sum_without (suc count) place value bytes over within =
    let at : place ≡ 2 + (place - 2) = omega arith in
    let first = kept_before place value 0 bytes within (omega arith) in
    let on : drop 2 (with_word (word place value) bytes) ≡ with_word (word (place - 2) value) (drop 2 bytes) = subst (λ (n : ℕ). drop 2 (with_word (word n value) bytes) ≡ with_word (word (place - 2) value) (drop 2 bytes)) (sym at) (two_on (place - 2) value bytes (omega arith)) in
    let size = length-drop 2 bytes in
    rw (first, on, sum_without count (place - 2) value (drop 2 bytes) (omega arith) (omega arith)) refl

pub sum_outside : (count : ℕ) (ws : List Word) (bytes : List ℕ) (low high : ℕ) → Spans low high ws → 2 * count ≤ low → high ≤ length bytes → sum_of_words count (with_words ws bytes) ≡ sum_of_words count bytes
sum_outside count [] bytes low high s over within = refl
sum_outside count (w ∷ ws) bytes low high s over within =
    let a = s.0 in
    let b = s.1 in
    let size = length_with w bytes (omega arith) in
    sum_outside count ws (with_word w bytes) low high s.2 over (omega arith)
    ∙ sum_without count w.place w.value bytes (omega arith) (omega arith)
