-- Picks: ports that are tried one after the other.
use Rattle.std.proofs.Common.{◌≡◌, ◌<◌, ◌-◌, ◌+◌, ℕ, suc, true, false, Option, Some, None, List, [], ◌∷◌, ◌++◌, Result, Ok, Err, IfOk, OnOk, append-nil, refl, subst, arith}
use Rattle.std.specs.Option.{is_some}
use Rattle.pfr_net.specs.declared.port.Port.{Port}
use Rattle.pfr_ruleset.specs.declared.flat.PortRange.{PortRange}
use Rattle.pfr_track.specs.declared.key.Key.{Key}
use Rattle.pfr_track.specs.declared.state.State.{State}
use Rattle.pfr_net.specs.declared.interface.Binding.TheVariants as binding
use Rattle.pfr_states.specs.declared.change.Side.TheVariants.{Wire}
use Rattle.pfr_states.specs.States.{StateTable}
use Rattle.pfr_states.specs.declared.question.Question.{Question}
use Rattle.pfr_states.specs.declared.question.Question.TheVariants.{At}
use Rattle.pfr_packet.specs.declared.picks.PortsTried.{PortsTried}
use Rattle.pfr_packet.specs.declared.picks.PortsTried.TheVariants.{One, Among}
use Rattle.pfr_packet.specs.Picks.{PicksUpTo, cut_of, falling, picking, rising, tries, try_list}
use Rattle.pfr_states.specs.Answers.{found_in}
use Rattle.pfr_packet.specs.Plan.{GoesUpTo, Plan}
use Rattle.pfr_packet.proofs.GoingLemmas.{Keeps, further, one_further}

-- ---- one port

-- the plan at a port
abbrev at_port : (ℕ → Key) → (Option Key → Plan) → ℕ → List ℕ → Option State → Plan
at_port wire next port ports = elim [ None ↦ next (Some (wire port)) | Some other ↦ picking wire next ports ]

-- a port whose key a state has is passed over
port_taken : (table : StateTable) (steps : Plan) (wire : ℕ → Key) (next : Option Key → Plan) (port : ℕ) (ports : List ℕ) (asked after : Question → Type 0) (key : Key) (found : Option State)
    → GoesUpTo table steps (picking wire next (port ∷ ports)) asked → Keeps asked after → after (At Wire key binding.All) → key ≡ wire port → found ≡ found_in table Wire key binding.All → is_some found ≡ true
    → GoesUpTo table steps (picking wire next ports) after
port_taken table steps wire next port ports asked after key None gone kept now same is some = absurd (cc some)
port_taken table steps wire next port ports asked after key (Some state) gone kept now same is some =
    one_further table steps Wire (wire port) binding.All (at_port wire next port ports) asked after (Some state) gone kept (rw same at now) (rw same at is)

-- a port whose key no state has is picked
port_free : (table : StateTable) (steps : Plan) (wire : ℕ → Key) (next : Option Key → Plan) (port : ℕ) (ports : List ℕ) (asked after : Question → Type 0) (key : Key) (found : Option State)
    → GoesUpTo table steps (picking wire next (port ∷ ports)) asked → Keeps asked after → after (At Wire key binding.All) → key ≡ wire port → found ≡ found_in table Wire key binding.All → is_some found ≡ false
    → GoesUpTo table steps (next (Some key)) after
port_free table steps wire next port ports asked after key (Some state) gone kept now same is none = absurd (cc none)
port_free table steps wire next port ports asked after key None gone kept now same is none =
    rw same (one_further table steps Wire (wire port) binding.All (at_port wire next port ports) asked after None gone kept (rw same at now) (rw same at is))

-- ---- ports that rise

rising_next : (port end : ℕ) → port < end → rising port (end - port) ≡ port ∷ rising (port + 1) (end - (port + 1))
rising_next port end below = (let count : end - port ≡ suc (end - (port + 1)) = omega (arith, below) in rw count refl)

-- with the ports from one on that are left
abbrev pub RisingLeft : StateTable → Plan → (ℕ → Key) → (Option Key → Plan) → List ℕ → ℕ → ℕ → (Question → Type 0) → Type 0
RisingLeft table steps wire next rest port end asked = GoesUpTo table steps (picking wire next (rising port (end - port) ++ rest)) asked

rising_at : (table : StateTable) (steps : Plan) (wire : ℕ → Key) (next : Option Key → Plan) (rest : List ℕ) (port end : ℕ) (asked : Question → Type 0) → port < end → RisingLeft table steps wire next rest port end asked
    → GoesUpTo table steps (picking wire next (port ∷ (rising (port + 1) (end - (port + 1)) ++ rest))) asked
rising_at table steps wire next rest port end asked below left = subst (λ (ports : List ℕ). GoesUpTo table steps (picking wire next (ports ++ rest)) asked) (rising_next port end below) left

pub rising_taken : (table : StateTable) (steps : Plan) (wire : ℕ → Key) (next : Option Key → Plan) (rest : List ℕ) (port end : ℕ) (asked after : Question → Type 0) (key : Key) (found : Option State)
    → port < end → RisingLeft table steps wire next rest port end asked → Keeps asked after → after (At Wire key binding.All) → key ≡ wire port → found ≡ found_in table Wire key binding.All → is_some found ≡ true
    → RisingLeft table steps wire next rest (port + 1) end after
rising_taken table steps wire next rest port end asked after key found below left kept now same is some =
    port_taken table steps wire next port (rising (port + 1) (end - (port + 1)) ++ rest) asked after key found (rising_at table steps wire next rest port end asked below left) kept now same is some

pub rising_free : (table : StateTable) (steps : Plan) (wire : ℕ → Key) (next : Option Key → Plan) (rest : List ℕ) (port end : ℕ) (asked after : Question → Type 0) (key : Key) (found : Option State)
    → port < end → RisingLeft table steps wire next rest port end asked → Keeps asked after → after (At Wire key binding.All) → key ≡ wire port → found ≡ found_in table Wire key binding.All → is_some found ≡ false
    → GoesUpTo table steps (next (Some key)) after
rising_free table steps wire next rest port end asked after key found below left kept now same is none =
    port_free table steps wire next port (rising (port + 1) (end - (port + 1)) ++ rest) asked after key found (rising_at table steps wire next rest port end asked below left) kept now same is none

-- ---- ports that fall

falling_next : (low bound : ℕ) → low < bound → falling bound (bound - low) ≡ (bound - 1) ∷ falling (bound - 1) (bound - 1 - low)
falling_next low bound below = (let count : bound - low ≡ suc (bound - 1 - low) = omega (arith, below) in rw count refl)

abbrev pub FallingLeft : StateTable → Plan → (ℕ → Key) → (Option Key → Plan) → List ℕ → ℕ → ℕ → (Question → Type 0) → Type 0
FallingLeft table steps wire next rest low bound asked = GoesUpTo table steps (picking wire next (falling bound (bound - low) ++ rest)) asked

falling_at : (table : StateTable) (steps : Plan) (wire : ℕ → Key) (next : Option Key → Plan) (rest : List ℕ) (low bound : ℕ) (asked : Question → Type 0) → low < bound → FallingLeft table steps wire next rest low bound asked
    → GoesUpTo table steps (picking wire next ((bound - 1) ∷ (falling (bound - 1) (bound - 1 - low) ++ rest))) asked
falling_at table steps wire next rest low bound asked below left = subst (λ (ports : List ℕ). GoesUpTo table steps (picking wire next (ports ++ rest)) asked) (falling_next low bound below) left

pub falling_taken : (table : StateTable) (steps : Plan) (wire : ℕ → Key) (next : Option Key → Plan) (rest : List ℕ) (low bound : ℕ) (asked after : Question → Type 0) (key : Key) (found : Option State)
    → low < bound → FallingLeft table steps wire next rest low bound asked → Keeps asked after → after (At Wire key binding.All) → key ≡ wire (bound - 1) → found ≡ found_in table Wire key binding.All → is_some found ≡ true
    → FallingLeft table steps wire next rest low (bound - 1) after
falling_taken table steps wire next rest low bound asked after key found below left kept now same is some =
    port_taken table steps wire next (bound - 1) (falling (bound - 1) (bound - 1 - low) ++ rest) asked after key found (falling_at table steps wire next rest low bound asked below left) kept now same is some

pub falling_free : (table : StateTable) (steps : Plan) (wire : ℕ → Key) (next : Option Key → Plan) (rest : List ℕ) (low bound : ℕ) (asked after : Question → Type 0) (key : Key) (found : Option State)
    → low < bound → FallingLeft table steps wire next rest low bound asked → Keeps asked after → after (At Wire key binding.All) → key ≡ wire (bound - 1) → found ≡ found_in table Wire key binding.All → is_some found ≡ false
    → GoesUpTo table steps (next (Some key)) after
falling_free table steps wire next rest low bound asked after key found below left kept now same is none =
    port_free table steps wire next (bound - 1) (falling (bound - 1) (bound - 1 - low) ++ rest) asked after key found (falling_at table steps wire next rest low bound asked below left) kept now same is none

-- ---- all of them

-- what holds of an answer, where more follows from it
pub ok_then : {A E : Type 0} {P Q : A → Type 0} → ((a : A) → P a → Q a) → (r : Result A E) → IfOk r P → IfOk r Q
ok_then f (Ok a) h = f a h
ok_then f (Err e) h = h

-- the same of what is so if there is an answer
pub done_then : {A E : Type 0} {P Q : Type 0} → (P → Q) → (r : Result A E) → OnOk r P → OnOk r Q
done_then f (Ok a) h = f h
done_then f (Err e) h = h

-- these ports were tried, whatever stands behind them
abbrev pub Tried : StateTable → (ℕ → Key) → List ℕ → (Question → Type 0) → Option Key → Type 0
Tried table wire ports asked found = (next : Option Key → Plan) (rest : List ℕ) → PicksUpTo table wire next ports rest found asked

-- all were tried
abbrev pub Chosen : StateTable → (ℕ → Key) → List ℕ → (Question → Type 0) → Option Key → Type 0
Chosen table wire ports asked found = (next : Option Key → Plan) → GoesUpTo table (picking wire next ports) (next found) asked

all_tried : (table : StateTable) (wire : ℕ → Key) (ports : List ℕ) (asked : Question → Type 0) (found : Option Key) → Tried table wire ports asked found → Chosen table wire ports asked found
all_tried table wire ports asked None tried = λ next. subst (λ (all : List ℕ). GoesUpTo table (picking wire next all) (next None) asked) (append-nil ports) (tried next [])
all_tried table wire ports asked (Some key) tried = λ next. subst (λ (all : List ℕ). GoesUpTo table (picking wire next all) (next (Some key)) asked) (append-nil ports) (tried next [])

pub chosen_one : (table : StateTable) (wire : ℕ → Key) (port : Port) (first word : ℕ) (ports : PortsTried) (asked : Question → Type 0) (found : Option Key) → ports ≡ One port → first ≡ port.0
    → Tried table wire (rising first (first + 1 - first)) asked found → Chosen table wire (tries ports word) asked found
chosen_one table wire port first word ports asked found is same tried =
    let one : rising first (first + 1 - first) ≡ port.0 ∷ [] = (let count : first + 1 - first ≡ suc 0 = omega arith in rw (count, same) refl) in
    rw is (all_tried table wire (port.0 ∷ []) asked found (subst (λ (all : List ℕ). Tried table wire all asked found) one tried))

-- the ports of a range, by the cut
abbrev parts : PortRange → ℕ → List ℕ
parts range word = rising (cut_of range.low range.high word) (range.high + 1 - cut_of range.low range.high word) ++ falling (cut_of range.low range.high word) (cut_of range.low range.high word - range.low)

by_parts : (table : StateTable) (wire : ℕ → Key) (range : PortRange) (word : ℕ) (ports : PortsTried) (asked : Question → Type 0) (found : Option Key) → ports ≡ Among range
    → Chosen table wire (parts range word) asked found → Chosen table wire (tries ports word) asked found
unfolding try_list
by_parts table wire range word ports asked found is chosen = rw is chosen

-- a key is found on the way up
pub chosen_rising : (table : StateTable) (wire : ℕ → Key) (range : PortRange) (cut end drawn word : ℕ) (ports : PortsTried) (asked : Question → Type 0) (key : Key) (found : Option Key)
    → ports ≡ Among range → drawn ≡ word → cut ≡ cut_of range.low range.high drawn → end ≡ range.high → found ≡ Some key
    → Tried table wire (rising cut (end + 1 - cut)) asked found → Chosen table wire (tries ports word) asked (Some key)
chosen_rising table wire range cut end drawn word ports asked key found is by at most picked tried =
    let cut_is : cut ≡ cut_of range.low range.high word = rw by at at in
    let up : Tried table wire (rising (cut_of range.low range.high word) (range.high + 1 - cut_of range.low range.high word)) asked (Some key) = rw (cut_is, most, picked) at tried in
    by_parts table wire range word ports asked (Some key) is (λ next. up next (falling (cut_of range.low range.high word) (cut_of range.low range.high word - range.low)))

-- none is found on the way up
pub chosen_falling : (table now : StateTable) (wire : ℕ → Key) (range : PortRange) (cut end low drawn word : ℕ) (ports : PortsTried) (asked after : Question → Type 0) (found picked : Option Key)
    → ports ≡ Among range → drawn ≡ word → cut ≡ cut_of range.low range.high drawn → end ≡ range.high → low ≡ range.low → found ≡ None → now ≡ table
    → Tried table wire (rising cut (end + 1 - cut)) asked found → Keeps asked after → Tried now wire (falling cut (cut - low)) after picked → Chosen table wire (tries ports word) after picked
chosen_falling table now wire range cut end low drawn word ports asked after found picked is by at most least none same tried kept more =
    let cut_is : cut ≡ cut_of range.low range.high word = rw by at at in
    let up : Tried table wire (rising (cut_of range.low range.high word) (range.high + 1 - cut_of range.low range.high word)) asked None = rw (cut_is, most, none) at tried in
    let down : Tried table wire (falling (cut_of range.low range.high word) (cut_of range.low range.high word - range.low)) after picked = rw (cut_is, least, same) at more in
    by_parts table wire range word ports after picked is (λ next.
    further table (picking wire next (parts range word)) (picking wire next (falling (cut_of range.low range.high word) (cut_of range.low range.high word - range.low))) (next picked) asked after
    (up next (falling (cut_of range.low range.high word) (cut_of range.low range.high word - range.low))) kept
    (all_tried table wire (falling (cut_of range.low range.high word) (cut_of range.low range.high word - range.low)) after picked down next))
