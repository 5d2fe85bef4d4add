-- Numbers and addresses as they are written: decimal digits, `a.b.c.d` and `a.b.c.d/bits`, as in pf.conf(5). A number
-- may have leading zeros.
use Rattle.std.specs.Prelude.{ℕ, ◌+◌, ◌-◌, ◌*◌, ◌==◌, ◌&&◌, Bool, true, false, not, min, nat_le, if◌then◌else◌, List, [], ◌∷◌, fold, length, take, drop, Option, Some, None}
use Rattle.std.specs.Char.{is_ascii_digit}
use Rattle.std.specs.List.{position}
use Rattle.pfr_net.specs.declared.address.Ipv4Address.{Ipv4Address}

abbrev pub are_digits : List ℕ → Bool
are_digits [] = true
are_digits (b ∷ text) = if is_ascii_digit b then are_digits text else false

abbrev pub value : List ℕ → ℕ
value digits = fold (λ n b. 10 * n + (b - 48)) 0 digits

-- one number stands for all that are above every limit
abbrev pub capped : List ℕ → ℕ
capped digits = min (value digits) 4294967296

abbrev pub is_number : List ℕ → Bool
is_number text = not (length text == 0) && are_digits text

unfoldable pub number : List ℕ → Option ℕ
number text = if is_number text then Some (capped text) else None

abbrev pub parts_at : Option ℕ → List ℕ → Option (List ℕ × List ℕ)
parts_at None text = None
parts_at (Some place) text = Some (take place text, drop (place + 1) text)

-- what stands before the first such byte and behind it, if the text has one
unfoldable pub cut_at : ℕ → List ℕ → Option (List ℕ × List ℕ)
cut_at byte text = parts_at (position (λ b. b == byte) text) text

infixl 10 ◌>>=◌
abbrev pub ◌>>=◌ : {A B : Type 0} → Option A → (A → Option B) → Option B
(Some x) >>= f = f x
None >>= f = None

-- the number that is written, if it is at most the limit
unfoldable pub number_within : ℕ → List ℕ → Option ℕ
number_within limit text =
    if is_number text && nat_le (value text) limit then Some (value text) else None

abbrev pub octet : List ℕ → Option ℕ
octet text = number_within 255 text

-- `a.b.c.d`, the address whose highest byte is the first octet
unfoldable pub dotted : List ℕ → Option Ipv4Address
dotted text = do
  a ← cut_at 46 text
  b ← cut_at 46 a.1
  c ← cut_at 46 b.1
  first ← octet a.0
  second ← octet b.0
  third ← octet c.0
  fourth ← octet c.1
  Some (record { 0 = (first * 256 + second) * 65536 + (third * 256 + fourth) })
