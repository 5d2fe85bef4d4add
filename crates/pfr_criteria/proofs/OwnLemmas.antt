-- The table of the interfaces' addresses holds just these.
use Rattle.std.proofs.Common.{◌≡◌, ◌≤◌, ◌==◌, ◌&&◌, ◌||◌, ℕ, Bool, true, false, not, inl, inr, if◌then◌else◌, List, [], ◌∷◌, map, fold, Some, None}
use Rattle.std.proofs.Common.{refl, sym, ap, ◌∙◌, eq-eqb, arith}
use Rattle.std.specs.Bool.{beq}
use Rattle.std.specs.List.{All, Contains, list_any}
use Rattle.std.specs.Ordering.{is_eq}
use Rattle.std.proofs.lemmas.Bool.{eqb-true}
use Rattle.std.proofs.lemmas.List.Elements.{All-weaker, All-contains_itself}
use Rattle.pfr_net.specs.Networks.{prefix}
use Rattle.pfr_ruleset.specs.declared.interface.Interface.{Interface}
use Rattle.pfr_ruleset.specs.declared.table.Entry.{Entry}
use Rattle.pfr_ruleset.specs.Interfaces.{own_entry, own_table, with_own}
use Rattle.pfr_ruleset.specs.Tables.{IsMember, bits_of, clashes, holds, kept, order, table_from, table_of, with_entry}
use Rattle.pfr_ruleset.proofs.Membership.{from_map, here, in_none, there, to_map}
use Rattle.pfr_ruleset.proofs.WrittenLemmas.{only_it, table_holds}
use Rattle.pfr_criteria.specs.Laws.{OwnAddressesAreHeld}
use Rattle.pfr_criteria.proofs.Members.{any_by, has_is, one_of}

-- ---- the table

-- no entry of a table has a `!`
abbrev IsPlain : List Entry → Type 0
IsPlain table = (g : Entry) → Contains table g → g.is_negated ≡ false

abbrev entry_of : Interface → Entry
entry_of interface = own_entry false interface

no_clash_by : (level is_negated rest : Bool) → is_negated ≡ false → rest ≡ false → (level && not (beq is_negated false) || rest) ≡ false
no_clash_by true false false plain none = refl
no_clash_by false false false plain none = refl
no_clash_by level true rest plain none = absurd (cc plain)
no_clash_by level is_negated true plain none = absurd (cc none)

no_clash : (table : List Entry) (interface : Interface) → IsPlain table → clashes table (entry_of interface) ≡ false
no_clash [] interface plain = refl
no_clash (f ∷ table) interface plain =
    let others = no_clash table interface (λ g h. plain g (there f table g h)) in
    let level = is_eq (order (kept (entry_of interface)) f) in
    no_clash_by level f.is_negated (clashes table (entry_of interface)) (plain f (here f table)) others

plain_more : (table : List Entry) (interface : Interface) → IsPlain table → IsPlain (with_entry table (entry_of interface))
plain_more table interface plain g h = elim (only_it table (entry_of interface) g h) [
  | inl old ↦ plain g old
  | inr is ↦ ap (λ (g : Entry). g.is_negated) (sym is)
]

-- each interface's address is put in
abbrev AllPut : List Interface → List Entry → Type 0
AllPut interfaces table = table_from table (map entry_of interfaces) ≡ Some (fold with_own table interfaces)

all_put : (interfaces : List Interface) (table : List Entry) → IsPlain table → AllPut interfaces table
all_put [] table plain = refl
all_put (interface ∷ interfaces) table plain =
    let others = all_put interfaces more (plain_more table interface plain) in
    by_clash (clashes table (entry_of interface)) (no_clash table interface plain) others
  where
    more : List Entry
    more = with_entry table (entry_of interface)

    by_clash : (clash : Bool) → clash ≡ false → AllPut interfaces more
        → (if clash then None else table_from more (map entry_of interfaces)) ≡ Some (fold with_own (if clash then table else more) interfaces)
    by_clash true none others = absurd (cc none)
    by_clash false none others = others

own_table_is : (interfaces : List Interface) → table_of (map entry_of interfaces) ≡ Some (own_table interfaces)
unfolding table_of
own_table_is interfaces = all_put interfaces [] (λ g h. absurd (in_none g h))

-- ---- what it holds

prefix_whole : (address : ℕ) → prefix 32 address ≡ address
unfolding prefix
prefix_whole address = omega arith

-- an entry of 32 bits holds its own address alone
held_is : (address : ℕ) (interface : Interface) → holds address (entry_of interface) ≡ true → interface.address.0 ≡ address
held_is address interface held =
    let same = eqb-true (prefix 32 address) (prefix 32 interface.address.0) held in
    sym (sym (prefix_whole address) ∙ same ∙ prefix_whole interface.address.0)

is_held : (address : ℕ) (interface : Interface) → interface.address.0 ≡ address → holds address (entry_of interface) ≡ true
is_held address interface is = eq-eqb (prefix 32 address) (prefix 32 interface.address.0) (ap (λ (n : ℕ). prefix 32 n) (sym is))

bits_are : (interfaces : List Interface) (f : Entry) → Contains (map entry_of interfaces) f → bits_of f ≡ 32
bits_are interfaces f h = (let at = from_map entry_of interfaces f h in ap bits_of (sym at.2))

-- no entry is longer than 32 bits
none_longer : (interfaces : List Interface) (address : ℕ) → All (λ f. holds address f ≡ true → bits_of f ≤ 32) (map entry_of interfaces)
none_longer interfaces address =
    let entries = map entry_of interfaces in
    let each : (f : Entry) → Contains entries f → holds address f ≡ true → bits_of f ≤ 32
    = λ f h it. (let bits = bits_are interfaces f h in omega (arith, bits)) in
    All-weaker (Contains entries) (λ f. holds address f ≡ true → bits_of f ≤ 32) each entries (All-contains_itself entries)

abbrev has_address : ℕ → Interface → Bool
has_address address interface = interface.address.0 == address

one_is_member : (interfaces : List Interface) (address : ℕ) → list_any (has_address address) interfaces ≡ true
    → IsMember (map entry_of interfaces) address
one_is_member interfaces address any =
    let one = one_of (has_address address) interfaces any in
    let held = is_held address one.0 (eqb-true one.0.address.0 address one.2) in
    (entry_of one.0, to_map entry_of interfaces one.0 one.1, held, refl, none_longer interfaces address)

member_is_one : (interfaces : List Interface) (address : ℕ) → IsMember (map entry_of interfaces) address
    → list_any (has_address address) interfaces ≡ true
member_is_one interfaces address (e, there, held, plain, all) =
    let at = from_map entry_of interfaces e there in
    let its : holds address (entry_of at.0) ≡ true = ap (λ (e : Entry). holds address e) at.2 ∙ held in
    any_by (has_address address) interfaces at.0 at.1 (eq-eqb at.0.address.0 address (held_is address at.0 its))

pub own_is : OwnAddressesAreHeld
own_is interfaces rest address =
    let same = table_holds (map entry_of interfaces) (own_table interfaces) address (own_table_is interfaces) in
    sym (has_is (list_any (has_address address) interfaces) (own_table interfaces) address (
      λ any. same.1 (one_is_member interfaces address any),
      λ member. member_is_one interfaces address (same.0 member),
    ))
