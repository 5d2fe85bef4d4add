-- What stands at the front of bytes stands there whatever comes behind them: read piece by piece, a stream has the same messages.
use Rattle.std.proofs.Common.{◌≡◌, ◌≢◌, ℕ, ◌+◌, ◌<◌, ◌≤◌, Bool, true, false, not, ◌&&◌, cond, if◌then◌else◌, eqb, ltb, List, [], ◌∷◌, ◌++◌, length, get_or, drop, Option, Some, None, Result, Ok, Err, refl, sym, ap, subst, ◌∙◌, inl, inr, ◌⊎◌, arith}
use Rattle.std.proofs.lemmas.Bool.{both_ways, cases_Bool, cases_lt, le-ltb, ltb-false}
use Rattle.std.proofs.lemmas.List.{drop-append-le, get_or_append_left, length-append, length-drop}
use Rattle.pfr_messages.specs.declared.error.SyncError.{SyncError}
use Rattle.pfr_messages.specs.declared.error.SyncError.TheVariants as refusals
use Rattle.pfr_messages.specs.Messages.{Content, IsRefused, message_at}
use Rattle.pfr_standby.specs.Standby.{Standing, all_taken, refuses, standing_after, taken}
use Rattle.pfr_stream.specs.declared.framing.Framing.{Framing}
use Rattle.pfr_stream.specs.declared.framing.Framing.TheVariants.{File, Bare}
use Rattle.pfr_stream.specs.Stream.{AreWhole, behind_header, framed_at, header_refusal, number_at, taken_at, taken_by, with_header}
use Rattle.pfr_messages.proofs.Beginnings.{is_short, message_stays, message_within, short_message}

-- ---- results

abbrev okay : Standing → Result Standing SyncError
okay s = Ok s

abbrev refused : SyncError → Result Standing SyncError
refused e = Err e

ok_is : (s t : Standing) → okay s ≡ okay t → s ≡ t
ok_is s t is = cc

err_is : (d e : SyncError) → refused d ≡ refused e → d ≡ e
err_is d e is = cc

some_is_not : (h : Option SyncError) (e : SyncError) → h ≡ Some e → h ≡ None → ⊥
some_is_not h e is none = cc

other_refusal : (t u : Bool) → cond t (Some refusals.Version) (cond u (Some refusals.Length) None) ≡ Some refusals.Short → ⊥
other_refusal true u is = cc
other_refusal false true is = cc
other_refusal false false is = cc

abbrev size_in : ℕ → Result (Content × ℕ) SyncError → ℕ
size_in n (Ok x) = x.1
size_in n (Err e) = n

-- ---- headers

-- a header's front says the same with more behind it
header_stays : (a b : List ℕ) → 24 ≤ length a → header_refusal (a ++ b) ≡ header_refusal a
unfolding header_refusal
header_stays a b long =
    let enough : ltb (length (a ++ b)) 24 ≡ ltb (length a) 24 = le-ltb (length (a ++ b)) 24 (omega (arith, length-append a b)) ∙ sym (le-ltb (length a) 24 long) in
    rw (enough, get_or_append_left a b 0 0 (omega arith), get_or_append_left a b 0 9 (omega arith), get_or_append_left a b 0 2 (omega arith), get_or_append_left a b 0 3 (omega arith), get_or_append_left a b 0 22 (omega arith), get_or_append_left a b 0 23 (omega arith)) refl

-- fewer than 24 bytes are no header with the front of a message
header_lacks : (a : List ℕ) → ltb (length a) 24 ≡ true → header_refusal a ≡ Some refusals.Short
unfolding header_refusal
header_lacks a t = rw t refl

short_is_not : (h : Option SyncError) (m : Result (Content × ℕ) SyncError) → h ≡ Some refusals.Short → is_short (behind_header h m) ≡ false → ⊥
short_is_not h m is whole =
    let lacking : is_short (behind_header h m) ≡ true = ap (λ (g : Option SyncError). is_short (behind_header g m)) is in
    both_ways _ whole lacking

with_header_stays : (m m' : Result (Content × ℕ) SyncError) → (is_short m ≡ false → m' ≡ m) → is_short (with_header m) ≡ false → with_header m' ≡ with_header m
with_header_stays (Ok x) m' same whole = ap with_header (same refl)
with_header_stays (Err e) m' same whole = ap with_header (same whole)

behind_stays : (h : Option SyncError) (m m' : Result (Content × ℕ) SyncError) → (is_short m ≡ false → m' ≡ m) → is_short (behind_header h m) ≡ false → behind_header h m' ≡ behind_header h m
behind_stays (Some e) m m' same whole = refl
behind_stays None m m' same whole = with_header_stays m m' same whole

file_stays : (a b : List ℕ) (t : Bool) → ltb (length a) 24 ≡ t → is_short (behind_header (header_refusal a) (message_at (drop 20 a))) ≡ false
    → behind_header (header_refusal (a ++ b)) (message_at (drop 20 (a ++ b))) ≡ behind_header (header_refusal a) (message_at (drop 20 a))
file_stays a b true lack whole = absurd (short_is_not _ _ (header_lacks a lack) whole)
file_stays a b false there whole =
    let long : 24 ≤ length a = ltb-false _ _ there in
    rw (header_stays a b long, drop-append-le 20 a b (omega arith))
    (behind_stays (header_refusal a) (message_at (drop 20 a)) (message_at (drop 20 a ++ b)) (message_stays (drop 20 a) b) whole)

-- what is answered of a beginning, other than that bytes lack, is answered of all
pub framed_stays : (framing : Framing) (a b : List ℕ) → is_short (framed_at framing a) ≡ false → framed_at framing (a ++ b) ≡ framed_at framing a
unfolding framed_at
framed_stays Bare a b whole = message_stays a b whole
framed_stays File a b whole = file_stays a b (ltb (length a) 24) refl whole

-- a message behind a header that isn't refused
pub framed_behind : (bytes part : List ℕ) (x : Content × ℕ) → header_refusal bytes ≡ None → part ≡ drop 20 bytes → message_at part ≡ Ok x
    → framed_at File bytes ≡ Ok (x.0, 20 + x.1)
unfolding framed_at
framed_behind bytes part x passed is message = rw (passed, ← is, message) refl

-- ---- how long a message is with its header

header_passes : (bytes : List ℕ) → header_refusal bytes ≡ None → 24 ≤ length bytes
header_passes bytes is =
    elim (cases_Bool (ltb (length bytes) 24)) [
      | inl t ↦ absurd (some_is_not _ _ (header_lacks bytes t) is)
      | inr t ↦ ltb-false _ _ t
    ]

behind_ok : (h : Option SyncError) (m : Result (Content × ℕ) SyncError) (x : Content × ℕ) → behind_header h m ≡ Ok x
    → {G : Type 0} → (h ≡ None → (y : Content × ℕ) → m ≡ Ok y → x.1 ≡ 20 + y.1 → G) → G
behind_ok (Some e) m x is go = absurd (cc)
behind_ok None (Err e) x is go = absurd (cc)
behind_ok None (Ok y) x is go = go refl y refl (sym (ap (size_in x.1) is))

-- a message that is there has its bytes there
pub framed_within : (framing : Framing) (bytes : List ℕ) (x : Content × ℕ) → framed_at framing bytes ≡ Ok x → x.1 ≤ length bytes
unfolding framed_at
framed_within Bare bytes x is = (message_within bytes x is).0
framed_within File bytes x is = behind_ok (header_refusal bytes) (message_at (drop 20 bytes)) x is (λ passed y there size.
    let long = header_passes bytes passed in
    let within = (message_within (drop 20 bytes) y there).0 in
    omega (arith, length-drop 20 bytes))

header_not_short : (bytes : List ℕ) → 24 ≤ length bytes → header_refusal bytes ≡ Some refusals.Short → ⊥
unfolding header_refusal
header_not_short bytes long is =
    other_refusal (not (eqb (get_or bytes 0 0) 0x45 && eqb (get_or bytes 9 0) 240)) (not (eqb (number_at 2 bytes) (20 + number_at 22 bytes)))
    (rw (le-ltb (length bytes) 24 long) at is)

behind_short : (h : Option SyncError) (m : Result (Content × ℕ) SyncError) → behind_header h m ≡ Err refusals.Short
    → (h ≡ Some refusals.Short) ⊎ (m ≡ Err refusals.Short)
behind_short (Some e) m is = inl (ap Some (cc))
behind_short None (Ok y) is = absurd (cc)
behind_short None (Err e) is = inr is

-- bytes that lack some of a message are fewer than a message has at most
pub short_framed : (framing : Framing) (bytes : List ℕ) → framed_at framing bytes ≡ Err refusals.Short → length bytes < 1500
unfolding framed_at
short_framed Bare bytes is = let short = short_message bytes is in omega arith
short_framed File bytes is = elim (cases_lt (length bytes) 24) [
  | inl few ↦ omega arith
  | inr long ↦ elim (behind_short (header_refusal bytes) (message_at (drop 20 bytes)) is) [
    | inl header ↦ absurd (header_not_short bytes long header)
    | inr message ↦
        let short = short_message (drop 20 bytes) message in
        omega (arith, length-drop 20 bytes)
  ]
]

-- no bytes are no message yet
pub none_framed : (framing : Framing) → framed_at framing [] ≡ Err refusals.Short
unfolding framed_at header_refusal message_at
none_framed Bare = refl
none_framed File = refl

-- ---- messages that are taken

taking_short : (refused : Bool) (after : Standing) → (if refused then Err refusals.UnknownState else Ok after) ≡ Err refusals.Short → ⊥
taking_short true after is = cc
taking_short false after is = cc

taken_by_short : (s : Standing) (r : Result (Content × ℕ) SyncError) → taken_by s r ≡ Err refusals.Short → r ≡ Err refusals.Short
taken_by_short s (Ok x) is = absurd (taking_short (refuses x.0 s) (standing_after x.0 s) is)
taken_by_short s (Err e) is = ap (λ (d : SyncError). Err d) (err_is e refusals.Short is)

-- if taking a message is refused as short, reading it is refused as short
pub taken_short : (framing : Framing) (s : Standing) (bytes : List ℕ) → taken_at framing s bytes ≡ Err refusals.Short → framed_at framing bytes ≡ Err refusals.Short
unfolding taken_at
taken_short framing s bytes is = taken_by_short s (framed_at framing bytes) is

pub short_taken : (framing : Framing) (s : Standing) (bytes : List ℕ) → framed_at framing bytes ≡ Err refusals.Short → taken_at framing s bytes ≡ Err refusals.Short
unfolding taken_at
short_taken framing s bytes is = ap (taken_by s) is

not_short : (e : SyncError) → e ≢ refusals.Short → is_short {A = Content × ℕ} (Err e) ≡ false
not_short refusals.Short other = absurd (other refl)
not_short refusals.Version other = refl
not_short refusals.Length other = refl
not_short (refusals.Action action) other = refl
not_short refusals.Count other = refl
not_short refusals.NoEnd other = refl
not_short refusals.Trailing other = refl
not_short refusals.UnknownState other = refl
not_short refusals.Memory other = refl
not_short (refusals.Fixed place) other = refl

taken_by_whole : (s : Standing) (r : Result (Content × ℕ) SyncError) (e : SyncError) → e ≢ refusals.Short → taken_by s r ≡ Err e → is_short r ≡ false
taken_by_whole s (Ok x) e other is = refl
taken_by_whole s (Err d) e other is = not_short d (λ short. other (cc))

-- what is refused of a beginning, other than since bytes lack, is refused of all
pub refusal_stays : (framing : Framing) (s : Standing) (a b : List ℕ) (e : SyncError) → e ≢ refusals.Short → taken_at framing s a ≡ Err e → taken_at framing s (a ++ b) ≡ Err e
unfolding taken_at
refusal_stays framing s a b e other is = ap (taken_by s) (framed_stays framing a b (taken_by_whole s (framed_at framing a) e other is)) ∙ is

-- what is refused otherwise has some bytes
pub some_refused : (framing : Framing) (s : Standing) (rest : List ℕ) (e : SyncError) → e ≢ refusals.Short → taken_at framing s rest ≡ Err e → 0 < length rest
some_refused framing s [] e other is = absurd (other (err_is e refusals.Short (sym is ∙ short_taken framing s [] (none_framed framing))))
some_refused framing s (b ∷ rest) e other is = omega arith

-- a refusal for another cause than memory is the definition's
pub refusal_is : {A : Type 0} (e : SyncError) (read : Result A SyncError) → e ≢ refusals.Memory → IsRefused e read → read ≡ Err e
refusal_is refusals.Short read other is = is
refusal_is refusals.Version read other is = is
refusal_is refusals.Length read other is = is
refusal_is (refusals.Action action) read other is = is
refusal_is refusals.Count read other is = is
refusal_is refusals.NoEnd read other is = is
refusal_is refusals.Trailing read other is = is
refusal_is refusals.UnknownState read other is = is
refusal_is refusals.Memory read other is = absurd (other refl)
refusal_is (refusals.Fixed place) read other is = is

-- what is refused at the front of bytes is refused there as a message to take
pub refused_framed : (framing : Framing) (s : Standing) (bytes : List ℕ) (e : SyncError) → IsRefused e (framed_at framing bytes) → IsRefused e (taken_at framing s bytes)
unfolding taken_at
refused_framed framing s bytes refusals.Short is = ap (taken_by s) is
refused_framed framing s bytes refusals.Version is = ap (taken_by s) is
refused_framed framing s bytes refusals.Length is = ap (taken_by s) is
refused_framed framing s bytes (refusals.Action action) is = ap (taken_by s) is
refused_framed framing s bytes refusals.Count is = ap (taken_by s) is
refused_framed framing s bytes refusals.NoEnd is = ap (taken_by s) is
refused_framed framing s bytes refusals.Trailing is = ap (taken_by s) is
refused_framed framing s bytes refusals.UnknownState is = ap (taken_by s) is
refused_framed framing s bytes refusals.Memory is = tt
refused_framed framing s bytes (refusals.Fixed place) is = ap (taken_by s) is

taking_refused : (refused : Bool) (after : Standing) → IsRefused (if refused then refusals.UnknownState else refusals.Memory) (if refused then Err refusals.UnknownState else Ok after)
taking_refused true after = refl
taking_refused false after = tt

-- and so is a message that is there and that the states refuse
pub refused_taken : (framing : Framing) (s : Standing) (bytes : List ℕ) (x : Content × ℕ) (e : SyncError) → framed_at framing bytes ≡ Ok x
    → e ≡ (if refuses x.0 s then refusals.UnknownState else refusals.Memory) → IsRefused e (taken_at framing s bytes)
unfolding taken_at
refused_taken framing s bytes x e there is = rw (is, there) (taking_refused (refuses x.0 s) (standing_after x.0 s))

-- ---- messages one after the other

-- no bytes
pub none_held : (bytes : List ℕ) → length bytes ≡ 0 → bytes ≡ []
none_held [] is = refl
none_held (b ∷ bytes) is = absurd (omega arith)

-- what is whole stays whole, and the bytes that come stand behind the rest
pub whole_behind : (framing : Framing) (contents : List Content) (bytes rest more : List ℕ) → AreWhole framing bytes contents rest → AreWhole framing (bytes ++ more) contents (rest ++ more)
whole_behind framing [] bytes rest more is = ap (λ (b : List ℕ). b ++ more) is
whole_behind framing (c ∷ contents) bytes rest more is =
    let n = is.0 in
    let within : n ≤ length bytes = framed_within framing bytes (c, n) is.1 in
    let behind = whole_behind framing contents (drop n bytes) rest more is.2 in (
      n,
      framed_stays framing bytes more (ap is_short is.1) ∙ is.1,
      subst (λ (b : List ℕ). AreWhole framing b contents (rest ++ more)) (sym (drop-append-le n bytes more within)) behind,
    )

-- one message more
pub whole_more : (framing : Framing) (contents : List Content) (bytes rest : List ℕ) (c : Content) (n : ℕ) → AreWhole framing bytes contents rest
    → framed_at framing rest ≡ Ok (c, n) → AreWhole framing bytes (contents ++ c ∷ []) (drop n rest)
whole_more framing [] bytes rest c n is framed = (n, ap (framed_at framing) is ∙ framed, ap (drop n) is)
whole_more framing (d ∷ contents) bytes rest c n is framed = (is.0, is.1, whole_more framing contents (drop is.0 bytes) rest c n is.2 framed)

abbrev all_behind : Result Standing SyncError → List Content → Result Standing SyncError
all_behind first contents = elim first [
  | Ok after ↦ all_taken after contents
  | Err refusal ↦ Err refusal
]

all_behind_more : (first : Result Standing SyncError) (contents : List Content) (c : Content) (mid after : Standing) → all_behind first contents ≡ Ok mid → taken mid c ≡ Ok after
    → all_behind first (contents ++ c ∷ []) ≡ Ok after
all_behind_more (Err e) contents c mid after all more = absurd (cc)
all_behind_more (Ok s) [] c mid after all more = ap (λ (r : Result Standing SyncError). all_behind r []) (ap (λ (m : Standing). taken m c) (ok_is s mid all) ∙ more)
all_behind_more (Ok s) (d ∷ contents) c mid after all more = all_behind_more (taken s d) contents c mid after all more

-- and the states after it
pub all_taken_more : (contents : List Content) (c : Content) (mid after : Standing) → all_taken [] contents ≡ Ok mid → taken mid c ≡ Ok after
    → all_taken [] (contents ++ c ∷ []) ≡ Ok after
all_taken_more contents c mid after all more = all_behind_more (Ok []) contents c mid after all more
