-- The Internet checksum (RFC 1071, section 1) and how it is mended when words under it change (RFC 1624,
-- equation 3: HC' = ~(~HC + ~m + m')).
use Rattle.std.specs.Prelude.{◌≡◌, ◌<◌, slice_index, ℕ, zero, suc, ◌+◌, ◌*◌, ◌-◌, ◌%◌, ◌==◌, if◌then◌else◌, List, [], ◌∷◌, ◌++◌, take, drop}
use Rattle.byteorder.specs.Endian.{big_bytes, big_number}

-- the 16-bit word at a place
abbrev pub word_at : List ℕ → ℕ → ℕ
word_at bytes place = big_number 2 (drop place bytes)

abbrev pub complement : ℕ → ℕ
complement word = 65535 - word

-- the sum of 16-bit words with the carry added in at the low end, as often as there is one: 0 alone gives 0
abbrev pub end_around : ℕ → ℕ
end_around sum = if sum == 0 then 0 else (sum - 1) % 65535 + 1

-- a 16-bit word that is written: its place and its new value
pub record Word : Type 0 where
  pub place : ℕ
  pub value : ℕ

abbrev pub word : ℕ → ℕ → Word
word place value = record { place = place; value = value }

-- what a changed word adds to the sum, ~m + m'; a word that is written with the value it had isn't changed
abbrev pub difference : ℕ → ℕ → ℕ
difference old new = if old == new then 0 else complement old + new

-- what written words add to the sum
abbrev pub difference_of : List ℕ → List Word → ℕ
difference_of bytes [] = 0
difference_of bytes (w ∷ ws) = difference (word_at bytes w.place) w.value + difference_of bytes ws

-- a checksum that is mended for changed words, which add `sum`
unfoldable pub mended : ℕ → ℕ → ℕ
mended checksum sum = complement (end_around (complement checksum + sum))

-- UDP (RFC 768): 0 says that there is no checksum, and stays; a checksum that comes out as 0 is written as 65535
unfoldable pub mended_udp : ℕ → ℕ → ℕ
mended_udp checksum sum = if checksum == 0 then 0 else if mended checksum sum == 0 then 65535 else mended checksum sum

-- words written into bytes, in place
unfoldable pub with_word : Word → List ℕ → List ℕ
with_word w bytes = take w.place bytes ++ (big_bytes 2 w.value ++ drop (w.place + 2) bytes)

abbrev pub with_words : List Word → List ℕ → List ℕ
with_words [] bytes = bytes
with_words (w ∷ ws) bytes = with_words ws (with_word w bytes)

-- the sum of the first `count` words
abbrev pub sum_of_words : ℕ → List ℕ → ℕ
sum_of_words zero bytes = 0
sum_of_words (suc count) bytes = word_at bytes 0 + sum_of_words count (drop 2 bytes)

-- a sum of words with a checksum among them verifies if it comes to all ones, its carries added in: if it is a
-- multiple of 65535, and not 0
abbrev pub Verifies : ℕ → Type 0
Verifies sum = (0 < sum) × (sum % 65535 ≡ 0)

-- a list of numbers below 256
abbrev pub AreBytes : List ℕ → Type 0
AreBytes bytes = (i : ℕ) → slice_index bytes i < 256

-- the checksum of an IPv4 header of `length` bytes, which begins at `place`, verifies (RFC 791, section 3.1)
abbrev pub HeaderVerifies : ℕ → ℕ → List ℕ → Type 0
HeaderVerifies place length bytes = (count : ℕ) → 2 * count ≡ length → Verifies (sum_of_words count (drop place bytes))
