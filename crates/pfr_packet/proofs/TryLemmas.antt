-- The order in which ports are tried, and which of them is picked.
use Rattle.std.proofs.Common.{◌≡◌, ◌≢◌, ◌⊎◌, inl, inr, ◌==◌, ◌<◌, ◌≤◌, ◌-◌, ◌+◌, ℕ, zero, suc, true, false, cond, nat_le, Option, Some, None, List, [], ◌∷◌, ◌++◌, refl, sym, ap, ◌∙◌, arith}
use Rattle.std.specs.List.{All, find}
use Rattle.std.specs.Option.{option_map}
use Rattle.std.proofs.lemmas.Bool.{cases_Bool, eq-eqb, eqb-true, leb-false, leb-true, ne_eqb}
use Rattle.std.proofs.lemmas.List.Elements.{All-cons, All-head, All-nil, All-tail}
use Rattle.std.proofs.lemmas.Nat.{mod_below}
use Rattle.pfr_net.specs.declared.interface.Binding.TheVariants as binding
use Rattle.pfr_rules.specs.Translating.{up_to_first}
use Rattle.pfr_track.specs.declared.key.Key.{Key}
use Rattle.pfr_track.specs.declared.state.State.{State}
use Rattle.pfr_states.specs.declared.change.Side.TheVariants.{Wire}
use Rattle.pfr_states.specs.States.{StateTable}
use Rattle.pfr_states.specs.declared.question.Question.TheVariants.{At}
use Rattle.pfr_packet.specs.Laws.{times}
use Rattle.pfr_packet.specs.Picks.{cut_of, falling, is_free, is_free_in, picked, picking, rising, try_list}
use Rattle.pfr_states.specs.Answers.{found_in}
use Rattle.pfr_packet.specs.Plan.{Plan, outcome_of, questions_of}

-- ---- how often a port is tried

times_append : (port : ℕ) (xs ys : List ℕ) → times port (xs ++ ys) ≡ times port xs + times port ys
times_append port [] ys = omega arith
times_append port (x ∷ xs) ys = (let rest = times_append port xs ys in omega (arith, rest))

-- the first of a list is another
times_other : (port x : ℕ) (xs : List ℕ) → x ≢ port → times port (x ∷ xs) ≡ times port xs
times_other port x xs other = rw (ne_eqb x port other) (omega arith)

times_same : (port x : ℕ) (xs : List ℕ) → x ≡ port → times port (x ∷ xs) ≡ 1 + times port xs
times_same port x xs same = rw (eq-eqb x port same) refl

rising_behind : (port first count : ℕ) → port < first → times port (rising first count) ≡ 0
rising_behind port first zero below = refl
rising_behind port first (suc count) below =
    times_other port first (rising (first + 1) count) (λ same. omega (arith, below, same)) ∙ rising_behind port (first + 1) count (omega (arith, below))

rising_above : (port first count : ℕ) → first + count ≤ port → times port (rising first count) ≡ 0
rising_above port first zero above = refl
rising_above port first (suc count) above =
    times_other port first (rising (first + 1) count) (λ same. omega (arith, above, same)) ∙ rising_above port (first + 1) count (omega (arith, above))

rising_once : (port first count : ℕ) → first ≤ port → port < first + count → times port (rising first count) ≡ 1
rising_once port first zero least most = absurd (omega (arith, least, most))
rising_once port first (suc count) least most = elim (cases_Bool (first == port)) [
  | inl same ↦ (let is : first ≡ port = eqb-true first port same in times_same port first (rising (first + 1) count) is ∙ ap (λ n. 1 + n) (rising_behind port (first + 1) count (omega (arith, is))))
  | inr other ↦ (
      let differs : first ≢ port = (λ is. (let both : true ≡ false = sym (eq-eqb first port is) ∙ other in cc both)) in
      times_other port first (rising (first + 1) count) differs ∙ rising_once port (first + 1) count (omega (arith, least, differs)) (omega (arith, most))
      )
]

falling_above : (port bound count : ℕ) → count ≤ bound → bound ≤ port → times port (falling bound count) ≡ 0
falling_above port bound zero within above = refl
falling_above port bound (suc count) within above =
    times_other port (bound - 1) (falling (bound - 1) count) (λ same. omega (arith, within, above, same)) ∙ falling_above port (bound - 1) count (omega (arith, within)) (omega (arith, above))

falling_behind : (port bound count : ℕ) → count ≤ bound → port < bound - count → times port (falling bound count) ≡ 0
falling_behind port bound zero within below = refl
falling_behind port bound (suc count) within below =
    times_other port (bound - 1) (falling (bound - 1) count) (λ same. omega (arith, within, below, same)) ∙ falling_behind port (bound - 1) count (omega (arith, within)) (omega (arith, within, below))

falling_once : (port bound count : ℕ) → count ≤ bound → bound - count ≤ port → port < bound → times port (falling bound count) ≡ 1
falling_once port bound zero within least most = absurd (omega (arith, least, most))
falling_once port bound (suc count) within least most = elim (cases_Bool ((bound - 1) == port)) [
  | inl same ↦ (let is : bound - 1 ≡ port = eqb-true (bound - 1) port same in times_same port (bound - 1) (falling (bound - 1) count) is ∙ ap (λ n. 1 + n) (falling_above port (bound - 1) count (omega (arith, within)) (omega (arith, is))))
  | inr other ↦ (
      let differs : bound - 1 ≢ port = (λ is. (let both : true ≡ false = sym (eq-eqb (bound - 1) port is) ∙ other in cc both)) in
      times_other port (bound - 1) (falling (bound - 1) count) differs
      ∙ falling_once port (bound - 1) count (omega (arith, within)) (omega (arith, within, least)) (omega (arith, most, differs))
      )
]

order_of : (a b : ℕ) → (a ≤ b) ⊎ (b < a)
order_of a b = elim (cases_Bool (nat_le a b)) [ inl is ↦ inl (leb-true a b is) | inr other ↦ inr (leb-false a b other) ]

-- the cut is one of the ports
pub cut_least : (low high word : ℕ) → low ≤ cut_of low high word
cut_least low high word = omega arith

pub cut_most : (low high word : ℕ) → low ≤ high → cut_of low high word ≤ high
cut_most low high word order = (let drawn = mod_below word (1 + (high - low)) (omega arith) in omega (arith, order, drawn))

pub tried_once : (low high word port : ℕ) → low ≤ high → low ≤ port → port ≤ high → times port (try_list low high word) ≡ 1
unfolding try_list
tried_once low high word port order least most =
    let cut = cut_of low high word in
    let cut_low : low ≤ cut = cut_least low high word in
    let cut_high : cut ≤ high = cut_most low high word order in
    times_append port (rising cut (high + 1 - cut)) (falling cut (cut - low)) ∙ by_cut cut cut_low cut_high (order_of cut port)
  where
    by_cut : (cut : ℕ) → low ≤ cut → cut ≤ high → (cut ≤ port) ⊎ (port < cut) → times port (rising cut (high + 1 - cut)) + times port (falling cut (cut - low)) ≡ 1
    by_cut cut cut_low cut_high (inl up) =
        rw (rising_once port cut (high + 1 - cut) up (omega (arith, cut_high, most)), falling_above port cut (cut - low) (omega arith) up) refl
    by_cut cut cut_low cut_high (inr down) =
        rw (rising_behind port cut (high + 1 - cut) down, falling_once port cut (cut - low) (omega arith) (omega (arith, cut_low, least)) down) refl

pub never_tried : (low high word port : ℕ) → low ≤ high → (port < low) ⊎ (high < port) → times port (try_list low high word) ≡ 0
unfolding try_list
never_tried low high word port order outside =
    let cut = cut_of low high word in
    let cut_low : low ≤ cut = cut_least low high word in
    let cut_high : cut ≤ high = cut_most low high word order in
    times_append port (rising cut (high + 1 - cut)) (falling cut (cut - low)) ∙ by_side cut cut_low cut_high outside
  where
    by_side : (cut : ℕ) → low ≤ cut → cut ≤ high → (port < low) ⊎ (high < port) → times port (rising cut (high + 1 - cut)) + times port (falling cut (cut - low)) ≡ 0
    by_side cut cut_low cut_high (inl below) =
        rw (rising_behind port cut (high + 1 - cut) (omega (arith, cut_low, below)), falling_behind port cut (cut - low) (omega arith) (omega (arith, cut_low, below))) refl
    by_side cut cut_low cut_high (inr above) =
        rw (rising_above port cut (high + 1 - cut) (omega (arith, cut_high, above)), falling_above port cut (cut - low) (omega arith) (omega (arith, cut_high, above))) refl

-- ---- what is picked

-- the first of a list is asked for: it goes on by whether a state has its key
pub picks_first : (table : StateTable) (wire : ℕ → Key) (next : Option Key → Plan) (ports : List ℕ) → outcome_of table (picking wire next ports) ≡ outcome_of table (next (picked table wire ports))
picks_first table wire next [] = refl
picks_first table wire next (port ∷ ports) = by_state (found_in table Wire (wire port) binding.All) (picks_first table wire next ports)
  where
    by_state : (found : Option State) → outcome_of table (picking wire next ports) ≡ outcome_of table (next (picked table wire ports))
        → outcome_of table (elim found [ None ↦ next (Some (wire port)) | Some other ↦ picking wire next ports ])
        ≡ outcome_of table (next (option_map wire (cond (is_free found) (Some port) (find (is_free_in table wire) ports))))
    by_state None rest = refl
    by_state (Some other) rest = rest

pub asks_up_to_first : (table : StateTable) (wire : ℕ → Key) (next : Option Key → Plan) (ports : List ℕ)
    → questions_of table (picking wire next ports) ≡ up_to_first (is_free_in table wire) (λ port. At Wire (wire port) binding.All) ports ++ questions_of table (next (picked table wire ports))
asks_up_to_first table wire next [] = refl
asks_up_to_first table wire next (port ∷ ports) = by_state (found_in table Wire (wire port) binding.All) (asks_up_to_first table wire next ports)
  where
    by_state : (found : Option State)
        → questions_of table (picking wire next ports) ≡ up_to_first (is_free_in table wire) (λ port. At Wire (wire port) binding.All) ports ++ questions_of table (next (picked table wire ports))
        → At Wire (wire port) binding.All ∷ questions_of table (elim found [ None ↦ next (Some (wire port)) | Some other ↦ picking wire next ports ])
        ≡ (At Wire (wire port) binding.All ∷ cond (is_free found) [] (up_to_first (is_free_in table wire) (λ port. At Wire (wire port) binding.All) ports))
        ++ questions_of table (next (option_map wire (cond (is_free found) (Some port) (find (is_free_in table wire) ports))))
    by_state None rest = refl
    by_state (Some other) rest = ap (λ questions. At Wire (wire port) binding.All ∷ questions) rest

-- no port of a list is free
abbrev pub AllTaken : StateTable → (ℕ → Key) → List ℕ → Type 0
AllTaken table wire ports = All (λ port. is_free_in table wire port ≡ false) ports

pub taken_of_none : (table : StateTable) (wire : ℕ → Key) (ports : List ℕ) → picked table wire ports ≡ None → AllTaken table wire ports
taken_of_none table wire [] none = All-nil (λ port. is_free_in table wire port ≡ false)
taken_of_none table wire (port ∷ ports) none = elim (cases_Bool (is_free_in table wire port)) [
  | inl free ↦ (let one : Some (wire port) ≡ None = rw free at none in absurd (cc one))
  | inr taken ↦ All-cons (λ port. is_free_in table wire port ≡ false) port ports taken (taken_of_none table wire ports (rw taken at none))
]

pub none_of_taken : (table : StateTable) (wire : ℕ → Key) (ports : List ℕ) → AllTaken table wire ports → picked table wire ports ≡ None
none_of_taken table wire [] all = refl
none_of_taken table wire (port ∷ ports) all =
    let taken : is_free_in table wire port ≡ false = All-head (λ port. is_free_in table wire port ≡ false) port ports all in
    rw taken (none_of_taken table wire ports (All-tail (λ port. is_free_in table wire port ≡ false) port ports all))
