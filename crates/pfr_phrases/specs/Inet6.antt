-- IPv6 addresses in a text.
use Rattle.std.specs.Prelude.{ℕ, ◌+◌, ◌==◌, ◌&&◌, ◌||◌, Bool, true, false, not, nat_le, if◌then◌else◌, List, [], ◌∷◌, codes}
use Rattle.std.specs.Char.{is_ascii_hexdigit}
use Rattle.pfr_words.specs.Names.{is_among}
use Rattle.pfr_marks.specs.declared.mark.Mark.{Mark}
use Rattle.pfr_marks.specs.Marks.{begins_with, is}
use Rattle.pfr_phrases.specs.Values.{count_of}

-- every byte may stand in an IPv6 address
abbrev pub are_inet6 : List ℕ → Bool
are_inet6 [] = true
are_inet6 (b ∷ text) = if is_ascii_hexdigit b || b == 58 || b == 46 || b == 47 then are_inet6 text else false

-- the signs that end a word though no blank is between
abbrev pub signs : List (List ℕ)
signs =
    codes "{" ∷ codes "}" ∷ codes "(" ∷ codes ")" ∷ codes "," ∷ codes "=" ∷ codes "!" ∷ codes "<" ∷ codes ">" ∷ codes "\n" ∷ []

unfoldable pub is_sign : List ℕ → Bool
is_sign word = is_among signs word

-- how many marks stand right one behind the other from an offset on, up to a sign, with those before
abbrev pub run_from : (before at : ℕ) → List Mark → ℕ
run_from before at [] = before
run_from before at (mark ∷ marks) =
    if not (mark.start.offset == at) || is_sign mark.piece then before
    else run_from (before + 1) mark.end.offset marks

-- an IPv6 address begins with a mark: it has two colons, or is one before another
abbrev pub begins_inet6 : Mark → List Mark → Bool
begins_inet6 first behind =
    if is (codes ":") first then begins_with behind (codes ":") else are_inet6 first.piece && nat_le 2 (count_of 58 first.piece)

-- how many marks the IPv6 address at the front has
unfoldable pub inet6_len : List Mark → ℕ
inet6_len [] = 0
inet6_len (first ∷ behind) = if begins_inet6 first behind then run_from 0 first.start.offset (first ∷ behind) else 0
