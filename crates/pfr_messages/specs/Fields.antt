-- Fields of messages: how each is spelled, and how it is read from the front of bytes. Numbers are big-endian.
use Rattle.std.specs.Prelude.{◌≡◌, ℕ, zero, suc, ◌^◌, ◌==◌, ◌&&◌, ◌||◌, Bool, false, not, nat_lt, if◌then◌else◌, List, [], ◌∷◌, ◌++◌, length, take, drop, Option, Some, None, Result, Ok, Err}
use Rattle.std.specs.Int.{Width, byte_len, from_be_bytes, to_be_bytes}
use Rattle.pfr_net.specs.declared.interface.IfName.{IfName}
use Rattle.pfr_messages.specs.declared.fault.Fault.{Fault}
use Rattle.pfr_messages.specs.declared.fault.Fault.TheVariants.{Count, Differs}

-- ---- reading

-- the first fault from the left, or what is read
infixl 10 ◌>>=◌
abbrev pub ◌>>=◌ : {A B : Type 0} → Result A Fault → (A → Result B Fault) → Result B Fault
(Ok x) >>= f = f x
(Err fault) >>= f = Err fault

-- what a function returned, seen by view, is what reading gives
abbrev pub Gives : {X Y : Type 0} → (X → Y) → Result X Fault → Result Y Fault → Type 0
Gives view (Ok x) read = read ≡ Ok (view x)
Gives view (Err fault) read = read ≡ Err fault

-- A format: the bytes of a value, the values that have such bytes, and the value at the front of bytes with the bytes behind it.
-- A byte that no value has is a fault, told by the count of bytes from it on. If the bytes end too soon, the count of
-- records that promised them is at fault.
pub record Format (A : Type 0) : Type 0 where
  pub spelling : A → List ℕ
  pub fits : A → Bool
  pub reading : List ℕ → Result (A × List ℕ) Fault

-- bytes that were put behind others
pub record Puts (before text after : List ℕ) : Type 0 where
  pub are : after ≡ before ++ text

-- ---- bytes that are the same in each message

abbrev pub zeros : ℕ → List ℕ
zeros zero = []
zeros (suc count) = 0 ∷ zeros count

-- what stands behind a text
abbrev pub behind : List ℕ → List ℕ → Result (List ℕ) Fault
behind [] bytes = Ok bytes
behind (b ∷ text) [] = Err Count
behind (b ∷ text) (c ∷ bytes) = if b == c then behind text bytes else Err (Differs (suc (length bytes)))

-- ---- numbers

unfoldable pub number_at : Width → List ℕ → Result (ℕ × List ℕ) Fault
number_at width bytes =
    if nat_lt (length bytes) (byte_len width) then Err Count else
    Ok (from_be_bytes width (take (byte_len width) bytes), drop (byte_len width) bytes)

-- a number of `byte_len width` bytes
abbrev pub number : Width → Format ℕ
number width = record { spelling = to_be_bytes width; fits = λ n. nat_lt n (256 ^ byte_len width); reading = number_at width }

-- ---- codes

abbrev pub code_at : {A : Type 0} → (ℕ → Option A) → List ℕ → Result (A × List ℕ) Fault
code_at of_code [] = Err Count
code_at of_code (b ∷ bytes) = elim (of_code b) [
  | None ↦ Err (Differs (suc (length bytes)))
  | Some x ↦ Ok (x, bytes)
]

-- one byte with a value's code
abbrev pub coded : {A : Type 0} → (A → ℕ) → (A → Bool) → (ℕ → Option A) → Format A
coded code fits of_code = record { spelling = λ x. code x ∷ []; fits = fits; reading = code_at of_code }

-- ---- names of interfaces

-- there is a zero, and behind the first one stand zeros alone
abbrev pub are_padded : Bool → List ℕ → Bool
are_padded ended [] = ended
are_padded ended (b ∷ bytes) = (not ended || b == 0) && are_padded (ended || b == 0) bytes

-- a byte may stand with `places` places behind it: a nonzero one only before the first zero, and not in the last place
abbrev pub may_stand : Bool → ℕ → ℕ → Bool
may_stand ended places b = b == 0 || (not ended && not (places == 0))

-- the last `places` bytes of a name and its zeros; `ended` says whether a zero was read before them
unfoldable pub padded_at : ℕ → Bool → List ℕ → Result (List ℕ × List ℕ) Fault
padded_at zero ended bytes = Ok ([], bytes)
padded_at (suc places) ended [] = Err Count
padded_at (suc places) ended (b ∷ bytes) =
    if not (may_stand ended places b) then Err (Differs (suc (length bytes))) else
    padded_at places (b == 0) bytes >>= (λ rest. Ok (b ∷ rest.0, rest.1))

abbrev pub name_at : List ℕ → Result (IfName × List ℕ) Fault
name_at bytes = padded_at 16 false bytes >>= (λ name. Ok (record { bytes = name.0 }, name.1))

-- a name in sixteen bytes, of which at least the last is 0
abbrev pub name : Format IfName
name = record { spelling = λ n. n.bytes; fits = λ n. length n.bytes == 16 && are_padded false n.bytes; reading = name_at }
