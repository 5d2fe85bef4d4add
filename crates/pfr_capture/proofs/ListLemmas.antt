-- Lists of bytes, as devices and readers move them.
use Rattle.std.proofs.Common.{◌≡◌, ℕ, ◌+◌, ◌≤◌, List, ◌++◌, length, take, drop, refl, sym, ◌∙◌, ap, arith}
use Rattle.std.proofs.lemmas.List.{append_assoc, take_at, take-take, drop-drop, take-append-drop, take-append-le, length-take-le, length-drop}
use Rattle.std.proofs.Math.Seq.{take-append-add}

-- the next n items of xs from place p, once they stand at the front of a buffer, and what follows them
pub next_piece : (xs ys rest : List ℕ) (p n : ℕ) → n + p ≤ length xs → ys ≡ take n (drop p xs) → drop p xs ≡ take n (ys ++ rest) ++ drop (p + n) xs
next_piece xs ys rest p n within copied =
    let room : n ≤ length (drop p xs) = omega (arith, length-drop p xs) in
    let long : length ys ≡ n = ap length copied ∙ length-take-le n (drop p xs) room in
    let front : take n (ys ++ rest) ≡ take n (drop p xs) = take_at ys rest n long ∙ copied in
    rw (front, ← drop-drop n p xs) (sym (take-append-drop n (drop p xs)))

-- a buffer with xs at its front was read into behind xs: its front, up to the last byte that came
pub read_behind : (now xs ys post more : List ℕ) (held n whole : ℕ) → take held now ≡ xs → length xs ≡ held → n ≤ length ys → held + n ≤ whole → take (held + n) (take whole ((take held now ++ (ys ++ post)) ++ more)) ≡ xs ++ take n ys
read_behind now xs ys post more held n whole front long within below =
    let cut : take n ((ys ++ post) ++ more) ≡ take n ys = rw append_assoc (take-append-le n ys (post ++ more) within) in
    rw (take-take (held + n) whole ((take held now ++ (ys ++ post)) ++ more) below, front, append_assoc, ← long, take-append-add xs ((ys ++ post) ++ more) n, cut) refl
