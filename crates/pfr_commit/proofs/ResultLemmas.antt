-- The places of the results of packets.
use Rattle.std.proofs.Common.{◌≡◌, ◌<◌, ◌≤◌, ◌+◌, ◌-◌, ◌==◌, ℕ, Bool, true, false, is_none, List, [], ◌∷◌, ◌++◌, length, replicate, take, get_or, Option, Some, None, IfSome, Bor, inl, inr, refl, sym, ◌∙◌, ap, subst, arith}
use Rattle.std.specs.List.{All, find}
use Rattle.std.specs.Option.{option_map}
use lib.ListN.{set}
use Rattle.std.proofs.lemmas.Bool.{and_from, cases_Bool, eqb-true, eq-eqb, false≢true, lt-ltb}
use Rattle.std.proofs.lemmas.List.{append_assoc, get_or-replicate, get_or-set_other, get_or-set_same, length-replicate, take_all, take_more}
use Rattle.std.proofs.lemmas.List.Folds.{find-append}
use Rattle.std.proofs.lemmas.List.Elements.{All-append, All-head, All-nil, All-tail}
use Rattle.pfr_packet.specs.Job.{RunJob}
use Rattle.pfr_record.specs.declared.speculation.Speculation.{Speculation}
use Rattle.pfr_commit.specs.ResultsByPlace.{IsOfJob}
use Rattle.pfr_commit.specs.Results.{ArePlaced, Group, Places, Puts, held_at, is_free, is_of, results_of, with_result}

pub none_placed : (first count : ℕ) → ArePlaced [] first (replicate count None)
none_placed first count = λ place below. rw (get_or-replicate {A = Option (Bor Speculation)} count place None None (rw (length-replicate {A = Option (Bor Speculation)} count None) at below)) refl

-- ---- one result more

find_by : (so_far : List Speculation) (found : Speculation) (number : ℕ) (spot : Option Speculation) → find (is_of number) so_far ≡ spot → find (is_of number) (so_far ++ found ∷ []) ≡ with_result spot number found
find_by so_far found number None is = find-append (is_of number) so_far (found ∷ []) ∙ (rw is refl)
find_by so_far found number (Some x) is = find-append (is_of number) so_far (found ∷ []) ∙ (rw is refl)

pub puts_more : (so_far : List Speculation) (found : Speculation) (first : ℕ) (old new : Places) → length new ≡ length old → ArePlaced so_far first old → Puts first found old new → ArePlaced (so_far ++ found ∷ []) first new
puts_more so_far found first old new len are puts = λ place below.
    let within : place < length old = rw len at below in
    puts place within ∙ ap (λ (held : Option Speculation). with_result held (first + place) found) (are place within) ∙ sym (find_by so_far found (first + place) (find (is_of (first + place)) so_far) refl)

-- the next one of a group
pub puts_next : (before group : List Speculation) (first i : ℕ) (found : Speculation) (old new : Places) → i < length group → found ≡ get_or group i found → length new ≡ length old → ArePlaced (before ++ take i group) first old
    → Puts first found old new → ArePlaced (before ++ take (i + 1) group) first new
puts_next before group first i found old new below is len are puts =
    subst (λ (all : List Speculation). ArePlaced all first new) (append_assoc before (take i group) (found ∷ []) ∙ ap (λ (these : List Speculation). before ++ these) (sym (take_more group i found below ∙ (rw (← is) refl))))
    (puts_more (before ++ take i group) found first old new len are puts)

pub puts_all : (before group : List Speculation) (first i : ℕ) (places : Places) → length group ≤ i → ArePlaced (before ++ take i group) first places → ArePlaced (before ++ group) first places
puts_all before group first i places past are = rw (take_all i group past) at are

-- ---- what a place holds afterwards

-- a result of another packet
stays : (held : Option Speculation) (number : ℕ) (found : Speculation) → is_of number found ≡ false → held ≡ with_result held number found
stays None number found other = rw other refl
stays (Some x) number found other = refl

-- a place that is taken
stays_taken : (spot : Option (Bor Speculation)) (number : ℕ) (found : Speculation) → is_none spot ≡ false → option_map (λ (it : Bor Speculation). it.now) spot ≡ with_result (option_map (λ (it : Bor Speculation). it.now) spot) number found
stays_taken None number found taken = absurd (false≢true (sym taken))
stays_taken (Some x) number found taken = refl

-- a place that is free
goes_there : (spot : Option (Bor Speculation)) (number : ℕ) (found : Speculation) → is_none spot ≡ true → is_of number found ≡ true → Some found ≡ with_result (option_map (λ (it : Bor Speculation). it.now) spot) number found
goes_there None number found free it_is = rw it_is refl
goes_there (Some x) number found free it_is = absurd (false≢true free)

pub put_before : (first : ℕ) (found : Speculation) (places : Places) → found.number < first → Puts first found places places
put_before first found places less = λ place below. stays (held_at places place) (first + place) found (
    elim (cases_Bool (is_of (first + place) found)) [
      | inl it_is ↦ (let number : found.number ≡ first + place = eqb-true found.number (first + place) it_is in absurd (omega arith))
      | inr other ↦ other
    ])

pub put_taken : (first : ℕ) (found : Speculation) (places : Places) → first ≤ found.number → is_free places (found.number - first) ≡ false → Puts first found places places
put_taken first found places behind not_free = λ place below. elim (cases_Bool (is_of (first + place) found)) [
  | inl it_is ↦
      let number : found.number ≡ first + place = eqb-true found.number (first + place) it_is in
      let at_place : found.number - first ≡ place = omega arith in
      let taken : is_none (get_or places place None) ≡ false = elim (cases_Bool (is_none (get_or places place None))) [
        | inl free ↦ absurd (false≢true (sym not_free ∙ (rw at_place (and_from _ _ (lt-ltb place (length places) below) free))))
        | inr taken ↦ taken
      ] in
      stays_taken (get_or places place None) (first + place) found taken
  | inr other ↦ stays (held_at places place) (first + place) found other
]

not_number : (number first k place : ℕ) → number ≡ first + k → (place == k) ≡ false → (number == first + place) ≡ false
not_number number first k place is other = elim (cases_Bool (number == first + place)) [
  | inl same ↦ (let here : number ≡ first + place = eqb-true number (first + place) same in let equal : place ≡ k = omega arith in absurd (false≢true (sym other ∙ eq-eqb place k equal)))
  | inr not_it ↦ not_it
]

put_at : (first k place : ℕ) (it : Bor Speculation) (places : Places) → it.now.number ≡ first + k → k < length places → is_none (get_or places k None) ≡ true → (test : Bool) → (place == k) ≡ test
    → held_at (set places k (Some it)) place ≡ with_result (held_at places place) (first + place) it.now
put_at first k place it places is below free true same =
    let here : place ≡ k = eqb-true place k same in
    subst (λ (p : ℕ). held_at (set places k (Some it)) p ≡ with_result (held_at places p) (first + p) it.now) (sym here)
    (ap (λ (spot : Option (Bor Speculation)). option_map (λ (it : Bor Speculation). it.now) spot) (get_or-set_same places k (Some it) None below)
    ∙ goes_there (get_or places k None) (first + k) it.now free (eq-eqb it.now.number (first + k) is))
put_at first k place it places is below free false other =
    ap (λ (spot : Option (Bor Speculation)). option_map (λ (it : Bor Speculation). it.now) spot) (get_or-set_other places k place (Some it) None (λ here. false≢true (sym other ∙ eq-eqb place k here)))
    ∙ stays (held_at places place) (first + place) it.now (not_number it.now.number first k place is other)

pub put_free : (first : ℕ) (it : Bor Speculation) (places : Places) → first ≤ it.now.number → it.now.number - first < length places → is_none (get_or places (it.now.number - first) None) ≡ true
    → Puts first it.now places (set places (it.now.number - first) (Some it))
put_free first it places behind below free = λ place within.
    let number : it.now.number ≡ first + (it.now.number - first) = omega arith in
    put_at first (it.now.number - first) place it places number below free (place == it.now.number - first) refl

-- ---- all are of a job

-- if all are of a job, so is the one that is found
pub found_of_job : (job : RunJob) (test : Speculation → Bool) (results : List Speculation) → All (IsOfJob job) results → IfSome (find test results) (IsOfJob job)
found_of_job job test [] all = tt
found_of_job job test (found ∷ results) all = elim (cases_Bool (test found)) [
  | inl it_is ↦ rw it_is (All-head (IsOfJob job) found results all)
  | inr other ↦ rw other (found_of_job job test results (All-tail (IsOfJob job) found results all))
]

pub groups_of_job : (job : RunJob) (groups : List Group) → All (λ group. All (IsOfJob job) group.items) groups → All (IsOfJob job) (results_of groups)
groups_of_job job [] all = All-nil (IsOfJob job)
groups_of_job job (group ∷ groups) all = All-append (IsOfJob job) group.items (results_of groups) (All-head (λ (g : Group). All (IsOfJob job) g.items) group groups all)
    (groups_of_job job groups (All-tail (λ (g : Group). All (IsOfJob job) g.items) group groups all))
