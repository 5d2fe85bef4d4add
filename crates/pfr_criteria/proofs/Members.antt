-- Whether a table has an address, as a test and as a fact.
use Rattle.std.proofs.Common.{◌≡◌, ◌↔◌, ◌≤◌, ◌&&◌, ◌||◌, ℕ, zero, suc, Bool, true, false, not, nat_le, List, [], ◌∷◌, sym, refl, arith}
use Rattle.std.specs.Prelude.{IsTrue}
use Rattle.std.specs.List.{All, Contains, list_any, list_all}
use Rattle.std.proofs.lemmas.Bool.{leb-true, le-leb}
use Rattle.std.proofs.lemmas.List.Elements.{All-nil, All-cons, All-head, All-tail, All-weaker, All-contains, All-contains_itself, Contains-append_left, Contains-append_right, Contains-push}
use Rattle.pfr_ruleset.specs.declared.table.Entry.{Entry}
use Rattle.pfr_ruleset.specs.Tables.{IsMember, bits_of, holds}
use Rattle.pfr_criteria.specs.Hosts.{has, says_yes, is_longest}

abbrev pub One : {X : Type 0} → (X → Bool) → List X → Type 0
One {X} p xs = (x : X) × Contains xs x × (p x ≡ true)

one_more : {X : Type 0} (p : X → Bool) (x : X) (xs : List X) (b : Bool) → p x ≡ b → (b || list_any p xs) ≡ true → (list_any p xs ≡ true → One p xs) → One p (x ∷ xs)
one_more p x xs true is any rest = (x, Contains-append_left (x ∷ []) xs x (Contains-push [] x), is)
one_more p x xs false is any rest = (let one = rest any in (one.0, Contains-append_right (x ∷ []) xs one.0 one.1, one.2))

pub one_of : {X : Type 0} (p : X → Bool) (xs : List X) → list_any p xs ≡ true → One p xs
one_of p [] any = absurd cc
one_of p (x ∷ xs) any = one_more p x xs (p x) refl any (one_of p xs)

or_true : (b c : Bool) → c ≡ true → (b || c) ≡ true
or_true true c is = refl
or_true false c is = is

pub any_by : {X : Type 0} (p : X → Bool) (xs : List X) (y : X) → Contains xs y → p y ≡ true → list_any p xs ≡ true
any_by p [] y (k, within, is) held = absurd (omega (arith, within))
any_by p (x ∷ xs) y (zero, within, is) held = (let first : p x ≡ true = rw is held in rw first refl)
any_by p (x ∷ xs) y (suc k, within, is) held = or_true (p x) (list_any p xs) (any_by p xs y (k, omega (arith, within), is) held)

abbrev NoLonger : ℕ → Entry → Entry → Type 0
NoLonger address e f = holds address f ≡ true → bits_of f ≤ bits_of e

abbrev no_longer : ℕ → Entry → Entry → Bool
no_longer address e f = not (holds address f) || nat_le (bits_of f) (bits_of e)

one_longest : (address : ℕ) (e f : Entry) (held : Bool) → holds address f ≡ held → NoLonger address e f → (not held || nat_le (bits_of f) (bits_of e)) ≡ true
one_longest address e f true is longer = le-leb (bits_of f) (bits_of e) (longer is)
one_longest address e f false is longer = refl

longest : (entries : List Entry) (address : ℕ) (e : Entry) → All (NoLonger address e) entries → list_all (no_longer address e) entries ≡ true
longest [] address e all = refl
longest (f ∷ entries) address e all =
    let first : no_longer address e f ≡ true = one_longest address e f (holds address f) refl (All-head (NoLonger address e) f entries all) in
    let rest = longest entries address e (All-tail (NoLonger address e) f entries all) in
    rw (first, rest) refl

tests : (a b c : Bool) → ((not a || b) && c) ≡ true → (a ≡ true → b ≡ true) × (c ≡ true)
tests true true true all = (λ held. refl, refl)
tests true true false all = absurd cc
tests true false c all = absurd cc
tests false b true all = (λ held. absurd cc, refl)
tests false b false all = absurd cc

none_longer : (entries : List Entry) (address : ℕ) (e : Entry) → list_all (no_longer address e) entries ≡ true → All (NoLonger address e) entries
none_longer [] address e all = All-nil (NoLonger address e)
none_longer (f ∷ entries) address e all =
    let facts = tests (holds address f) (nat_le (bits_of f) (bits_of e)) (list_all (no_longer address e) entries) all in
    All-cons (NoLonger address e) f entries (λ held. leb-true (bits_of f) (bits_of e) (facts.0 held)) (none_longer entries address e facts.1)

member_has : (entries : List Entry) (address : ℕ) → IsMember entries address → has entries address ≡ true
unfolding has
member_has entries address (e, there, held, plain, all) =
    let long : is_longest entries address e ≡ true = longest entries address e all in
    any_by (says_yes entries address) entries e there (rw (held, plain, long) refl)

three : (a b c : Bool) → (a && (not b && c)) ≡ true → (a ≡ true) × (b ≡ false) × (c ≡ true)
three true false true all = (refl, refl, refl)
three true false false all = absurd cc
three true true c all = absurd cc
three false b c all = absurd cc

has_member : (entries : List Entry) (address : ℕ) → has entries address ≡ true → IsMember entries address
unfolding has
has_member entries address any =
    let one = one_of (says_yes entries address) entries any in
    let facts = three (holds address one.0) one.0.is_negated (is_longest entries address one.0) one.2 in
    (one.0, one.1, facts.0, facts.1, none_longer entries address one.0 facts.2)

same : (b c : Bool) → (b ≡ true → c ≡ true) → (c ≡ true → b ≡ true) → b ≡ c
same true c forth back = sym (forth refl)
same false true forth back = back refl
same false false forth back = refl

pub has_is : (b : Bool) (entries : List Entry) (address : ℕ) → (IsTrue b ↔ IsMember entries address) → b ≡ has entries address
has_is b entries address decides = same b (has entries address) (λ held. member_has entries address (decides.0 held)) (λ held. decides.1 (has_member entries address held))

-- a table of the same entries has the same addresses

all_of : {X : Type 0} (P : X → Type 0) (xs ys : List X) → ((y : X) → Contains ys y → Contains xs y) → All P xs → All P ys
all_of P xs ys within all = All-weaker (Contains ys) P (λ y there. All-contains P xs y all (within y there)) ys (All-contains_itself ys)

member_same : (entries others : List Entry) → ((e : Entry) → Contains entries e → Contains others e) → ((e : Entry) → Contains others e → Contains entries e) → (address : ℕ) → IsMember entries address → IsMember others address
member_same entries others forth back address (e, there, held, plain, all) = (e, forth e there, held, plain, all_of (NoLonger address e) entries others back all)

pub has_same : (entries others : List Entry) → ((e : Entry) → Contains entries e → Contains others e) → ((e : Entry) → Contains others e → Contains entries e) → (address : ℕ) → has entries address ≡ has others address
has_same entries others forth back address = same (has entries address) (has others address)
    (λ held. member_has others address (member_same entries others forth back address (has_member entries address held)))
    (λ held. member_has entries address (member_same others entries back forth address (has_member others address held)))
