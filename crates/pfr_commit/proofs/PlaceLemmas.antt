-- Texts by place.
use Rattle.std.proofs.Common.{◌≡◌, ◌≤◌, ◌<◌, ◌+◌, ◌==◌, ◌≢◌, ℕ, zero, suc, false, true, List, [], ◌∷◌, ◌++◌, length, map, take, set, get_or, Result, Ok, Err, OnOk, OnErr, inl, inr, refl, sym, ap, ◌∙◌, arith}
use Rattle.std.proofs.Math.Path.{fun_ext}
use Rattle.std.proofs.lemmas.Bool.{cases_Bool, cases_lt, eq-eqb, eqb-true, false≢true}
use Rattle.std.proofs.lemmas.List.{append_assoc, append-nil, get_or_past, get_or-set_other, get_or-set_same, length-map, map-append, map-set, take_at}
use Rattle.std.specs.declared.alloc.Global.{Global}
use Rattle.std.specs.Prelude.{Vec}
use Rattle.pfr_capture.specs.declared.capture.Record.{Record}
use Rattle.pfr_packet.specs.declared.outcome.Outcome.{Outcome}
use Rattle.pfr_packet.specs.Verdicts.{is_written}
use Rattle.pfr_commit.specs.Emissions.{cut_at, frame_of, held_texts, record_text}
use Rattle.pfr_commit.specs.World.{ByPlace, each_joined, nowhere, only_at, packet_text}

pub each_assoc : (a b c : ByPlace) → each_joined (each_joined a b) c ≡ each_joined a (each_joined b c)
each_assoc a b c = fun_ext (λ (place : ℕ). append_assoc (a place) (b place) (c place))

pub each_nowhere : (a : ByPlace) → a ≡ each_joined a nowhere
each_nowhere a = fun_ext (λ (place : ℕ). sym (append-nil (a place)))

-- what follows from what holds of a result follows of the result
pub on_ok_then : {X E : Type 0} (r : Result X E) (P Q : Type 0) → (P → Q) → OnOk r P → OnOk r Q
on_ok_then (Ok x) P Q then holds = then holds
on_ok_then (Err e) P Q then holds = tt

pub on_err_then : {X E : Type 0} (r : Result X E) (P Q : Type 0) → (P → Q) → OnErr r P → OnErr r Q
on_err_then (Ok x) P Q then holds = tt
on_err_then (Err e) P Q then holds = then holds

-- an empty text behind the last one
empty_behind : (texts : List (List ℕ)) (place : ℕ) → get_or (texts ++ [] ∷ []) place [] ≡ get_or texts place []
empty_behind [] zero = refl
empty_behind [] (suc place) = refl
empty_behind (text ∷ texts) zero = refl
empty_behind (text ∷ texts) (suc place) = empty_behind texts place

pub one_empty_more : (texts : List (Vec ℕ Global)) (text : Vec ℕ Global) → text.items ≡ [] → held_texts (texts ++ text ∷ []) ≡ held_texts texts
one_empty_more texts text none = fun_ext (λ (place : ℕ).
    ap (λ (all : List (List ℕ)). get_or all place []) (map-append (λ (text : Vec ℕ Global). text.items) texts (text ∷ []) ∙ ap (λ (last : List ℕ). map (λ (text : Vec ℕ Global). text.items) texts ++ last ∷ []) none)
    ∙ empty_behind (map (λ (text : Vec ℕ Global). text.items) texts) place)

abbrev items_of_each : List (Vec ℕ Global) → List (List ℕ)
items_of_each texts = map (λ (text : Vec ℕ Global). text.items) texts

-- what is held at a place is the text there
pub held_is : (texts : List (Vec ℕ Global)) (place : ℕ) (other text : Vec ℕ Global) → place < length texts → text ≡ get_or texts place other → held_texts texts place ≡ text.items
held_is [] place other text below is = absurd (omega (arith, below))
held_is (first ∷ texts) zero other text below is = ap (λ (t : Vec ℕ Global). t.items) (sym is)
held_is (first ∷ texts) (suc place) other text below is = held_is texts place other text (omega (arith, below)) is

-- another text at a place
at_same : (texts : List (Vec ℕ Global)) (place : ℕ) (text : Vec ℕ Global) → place < length texts → held_texts (set texts place text) place ≡ text.items
at_same texts place text below =
    let long : length (items_of_each texts) ≡ length texts = length-map texts (λ (text : Vec ℕ Global). text.items) in
    ap (λ (all : List (List ℕ)). get_or all place []) (map-set (λ (text : Vec ℕ Global). text.items) texts place text)
    ∙ get_or-set_same (items_of_each texts) place text.items [] (omega (arith, below, long))

at_other : (texts : List (Vec ℕ Global)) (place other : ℕ) (text : Vec ℕ Global) → (other == place) ≡ false → held_texts (set texts place text) other ≡ held_texts texts other
at_other texts place other text apart =
    ap (λ (all : List (List ℕ)). get_or all other []) (map-set (λ (text : Vec ℕ Global). text.items) texts place text)
    ∙ get_or-set_other (items_of_each texts) place other text.items [] (λ same. false≢true (sym apart ∙ eq-eqb other place same))

take_none : (count : ℕ) → take {A = ℕ} count [] ≡ []
take_none zero = refl
take_none (suc count) = refl

-- the text at a place grows, and the others stay
pub grown_at : (texts : List (Vec ℕ Global)) (place : ℕ) (text : Vec ℕ Global) (more : List ℕ) → place < length texts → text.items ≡ held_texts texts place ++ more
    → held_texts (set texts place text) ≡ each_joined (held_texts texts) (only_at place more)
grown_at texts place text more below is = fun_ext (λ (other : ℕ). elim (cases_Bool (other == place)) [
  | inl same ↦
      (let at : other ≡ place = eqb-true other place same in
      rw same (ap (λ (p : ℕ). held_texts (set texts place text) p) at ∙ at_same texts place text below ∙ is ∙ ap (λ (p : ℕ). held_texts texts p ++ more) (sym at)))
  | inr apart ↦ rw apart (at_other texts place other text apart ∙ sym (append-nil (held_texts texts other)))
])

-- the same of texts that are those of before
pub grown_from : (before : ByPlace) (texts : List (Vec ℕ Global)) (place at : ℕ) (other old new : Vec ℕ Global) (more : List ℕ) → held_texts texts ≡ before → place ≡ at → place < length texts → old ≡ get_or texts place other → new.items ≡ old.items ++ more
    → held_texts (set texts place new) ≡ each_joined before (only_at at more)
grown_from before texts place at other old new more same is below old_is new_is =
    grown_at texts place new more below (new_is ∙ ap (λ (t : List ℕ). t ++ more) (sym (held_is texts place other old below old_is)))
    ∙ ap (λ (t : ByPlace). each_joined t (only_at place more)) same ∙ ap (λ (p : ℕ). each_joined before (only_at p more)) is

-- a text that comes for another with the same bytes
pub same_at : (texts : List (Vec ℕ Global)) (place : ℕ) (text : Vec ℕ Global) → place < length texts → text.items ≡ held_texts texts place → held_texts (set texts place text) ≡ held_texts texts
same_at texts place text below is = fun_ext (λ (other : ℕ). elim (cases_Bool (other == place)) [
  | inl same ↦
      (let at : other ≡ place = eqb-true other place same in
      ap (λ (p : ℕ). held_texts (set texts place text) p) at ∙ at_same texts place text below ∙ is ∙ ap (λ (p : ℕ). held_texts texts p) (sym at))
  | inr apart ↦ at_other texts place other text apart
])

-- the text at a place is cut
pub shortened_at : (texts : List (Vec ℕ Global)) (place count : ℕ) (text : Vec ℕ Global) → place < length texts → text.items ≡ take count (held_texts texts place)
    → held_texts (set texts place text) ≡ cut_at place count (held_texts texts)
shortened_at texts place count text below is = fun_ext (λ (other : ℕ). elim (cases_Bool (other == place)) [
  | inl same ↦
      (let at : other ≡ place = eqb-true other place same in
      rw same (ap (λ (p : ℕ). held_texts (set texts place text) p) at ∙ at_same texts place text below ∙ is ∙ ap (λ (p : ℕ). take count (held_texts texts p)) (sym at)))
  | inr apart ↦ rw apart (at_other texts place other text apart)
])

-- behind the last text there is nothing to cut
pub nothing_to_cut : (texts : List (Vec ℕ Global)) (place count : ℕ) → length texts ≤ place → held_texts texts ≡ cut_at place count (held_texts texts)
nothing_to_cut texts place count past = fun_ext (λ (other : ℕ). elim (cases_Bool (other == place)) [
  | inl same ↦
      (let at : other ≡ place = eqb-true other place same in
      let long : length (items_of_each texts) ≡ length texts = length-map texts (λ (text : Vec ℕ Global). text.items) in
      let none : held_texts texts other ≡ [] = ap (λ (p : ℕ). held_texts texts p) at ∙ get_or_past (items_of_each texts) place [] (omega (arith, past, long)) in
      rw same (none ∙ sym (take_none count) ∙ ap (λ (text : List ℕ). take count text) (sym none)))
  | inr apart ↦ rw apart refl
])

-- what was appended at a place is taken back
pub cut_back : (texts now : ByPlace) (place count : ℕ) (more : List ℕ) → now ≡ each_joined texts (only_at place more) → count ≡ length (texts place) → cut_at place count now ≡ texts
cut_back texts now place count more is long = ap (cut_at place count) is ∙ fun_ext (λ (other : ℕ). elim (cases_Bool (other == place)) [
  | inl same ↦ (let at : other ≡ place = eqb-true other place same in rw same (take_at (texts other) more count (sym (long ∙ ap (λ (p : ℕ). length (texts p)) (sym at)))))
  | inr apart ↦ rw apart (append-nil (texts other))
])

-- nothing is added at a place
pub nothing_at : (texts : ByPlace) (place : ℕ) (text : List ℕ) → text ≡ [] → texts ≡ each_joined texts (only_at place text)
nothing_at texts place text none = fun_ext (λ (other : ℕ). elim (cases_Bool (other == place)) [
  | inl same ↦ rw (same, none) (sym (append-nil (texts other)))
  | inr apart ↦ rw apart (sym (append-nil (texts other)))
])

-- the text of a packet
pub blocked_text : (packet : Record) (outcome : Outcome) → is_written outcome.verdict ≡ false → packet_text (frame_of packet) outcome ≡ []
unfolding packet_text
blocked_text packet outcome is = rw is refl

pub written_text : (packet : Record) (outcome : Outcome) → is_written outcome.verdict ≡ true → record_text packet outcome.bytes ≡ packet_text (frame_of packet) outcome
unfolding packet_text
written_text packet outcome is = rw is refl

-- the first texts are empty
abbrev pub AreEmptyTo : ℕ → List (Vec ℕ Global) → Type 0
AreEmptyTo count texts = (place : ℕ) → place < count → held_texts texts place ≡ []

pub emptied_more : (texts : List (Vec ℕ Global)) (count : ℕ) (text : Vec ℕ Global) → count < length texts → text.items ≡ [] → AreEmptyTo count texts → AreEmptyTo (count + 1) (set texts count text)
emptied_more texts count text below none before place less = elim (cases_Bool (place == count)) [
  | inl same ↦ (let at : place ≡ count = eqb-true place count same in ap (λ (p : ℕ). held_texts (set texts count text) p) at ∙ at_same texts count text below ∙ none)
  | inr apart ↦ at_other texts count place text apart ∙ before place (let other : place ≢ count = λ same. false≢true (sym apart ∙ eq-eqb place count same) in omega (arith, less, other))
]

pub all_emptied : (texts : List (Vec ℕ Global)) (count : ℕ) → length texts ≤ count → AreEmptyTo count texts → held_texts texts ≡ nowhere
all_emptied texts count all empty = fun_ext (λ (place : ℕ). elim (cases_lt place count) [
  | inl less ↦ empty place less
  | inr past ↦ (let long : length (items_of_each texts) ≡ length texts = length-map texts (λ (text : Vec ℕ Global). text.items) in get_or_past (items_of_each texts) place [] (omega (arith, past, all, long)))
])
