-- Texts of files within a page (WHATWG HTML, "Character references" and "Preprocessing the input stream").
use Rattle.std.specs.Prelude.{◌≡◌, ℕ, zero, suc, ◌+◌, ◌==◌, ◌||◌, ◌&&◌, Bool, true, not, nat_lt, if◌then◌else◌, List, [], ◌∷◌, ◌++◌, codes, length, take, drop, ◌%◌}
use Rattle.std.specs.List.{flat_map, repeat}
use Rattle.std.specs.Char.{encode_utf8}
use Rattle.std.specs.Str.{chars}
use Rattle.std.specs.Str.Lossy.{utf8_valid_len, utf8_invalid_len}

-- U+FFFD
abbrev pub replacement : List ℕ
replacement = 239 ∷ 191 ∷ 189 ∷ []

-- a control character other than a tab
abbrev pub is_control : ℕ → Bool
is_control code = (nat_lt code 32 && not (code == 9)) || (not (nat_lt code 127) && nat_lt code 160)

-- Unicode gives it to no character
abbrev pub is_unassigned : ℕ → Bool
is_unassigned code = (not (nat_lt code 0xfdd0) && nat_lt code 0xfdf0) || not (nat_lt (code % 0x10000) 0xfffe)

-- a character that may stand in a page as it is; 0xfeff is the byte order mark
abbrev pub is_shown : ℕ → Bool
is_shown code = not (is_control code) && (not (is_unassigned code) && not (code == 0xfeff))

-- what stands for a character
abbrev pub escaped : ℕ → List ℕ
escaped code =
    if code == 38 then codes "&amp;"
    else if code == 60 then codes "&lt;"
    else if code == 62 then codes "&gt;"
    else if code == 34 then codes "&quot;"
    else if code == 39 then codes "&#39;"
    else if is_shown code then encode_utf8 code
    else replacement

-- what stands for bytes, run by run: for each character of the longest front that is UTF-8, and for each byte behind it that belongs
-- to no character
abbrev pub shown_within : (runs : ℕ) (bytes : List ℕ) → List ℕ
shown_within zero bytes = []
shown_within (suc runs) [] = []
shown_within (suc runs) (byte ∷ behind) =
    let bytes = byte ∷ behind in
    let valid = utf8_valid_len bytes in
    let invalid = utf8_invalid_len (drop valid bytes) in
    flat_map escaped (chars (take valid bytes)) ++ (repeat invalid replacement ++ shown_within runs (drop (valid + invalid) bytes))

-- the text of a page for the bytes of a file, which have no more runs than bytes
abbrev pub shown : (bytes : List ℕ) → List ℕ
shown bytes = shown_within (length bytes) bytes

-- a byte that opens no tag, closes none, and ends no attribute
abbrev pub is_harmless : ℕ → Bool
is_harmless byte = not (byte == 60) && (not (byte == 62) && (not (byte == 34) && not (byte == 39)))
