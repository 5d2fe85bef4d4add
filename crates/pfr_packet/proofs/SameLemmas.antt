-- Lists of networks, of interfaces and of link-level addresses that are compared one by one.
use Rattle.std.proofs.Common.{rules, ◌≡◌, true, List, [], ◌∷◌, Option, Some, None, refl, ap, ◌∙◌}
use Rattle.std.specs.Option.{option_eq}
use Rattle.std.proofs.lemmas.Bool.{and_parts, and_from}
use lib.Pointwise.{pointwise}
use Rattle.pfr_net.specs.declared.network.Net.{Net}
use Rattle.pfr_net.specs.contracts.network.NetPartialEq.TheImpl.{ghosts}
use Rattle.pfr_headers.specs.declared.ethernet.EthernetAddress.{EthernetAddress}
use Rattle.pfr_headers.specs.contracts.ethernet.EthernetAddressPartialEq.TheImpl.{ghosts as address_ghosts}
use Rattle.pfr_ruleset.specs.declared.interface.Interface.{Interface}
use Rattle.pfr_ruleset.specs.contracts.interface.InterfacePartialEq.TheImpl.{ghosts as interface_ghosts}

-- ---- networks

pub same_network : (x y : Net) → ghosts.eq x y ≡ true → x ≡ y
same_network x y h = Prim.search rules

pub network_same : (x : Net) → ghosts.eq x x ≡ true
network_same x = Prim.search rules

pub same_networks : (xs ys : List Net) → pointwise ghosts.eq xs ys ≡ true → xs ≡ ys
same_networks [] [] h = refl
same_networks [] (y ∷ ys) h = absurd (cc h)
same_networks (x ∷ xs) [] h = absurd (cc h)
same_networks (x ∷ xs) (y ∷ ys) h =
    let parts = and_parts (ghosts.eq x y) (pointwise ghosts.eq xs ys) h in
    ap (λ z. z ∷ xs) (same_network x y parts.0) ∙ ap (λ zs. y ∷ zs) (same_networks xs ys parts.1)

pub networks_same : (xs : List Net) → pointwise ghosts.eq xs xs ≡ true
networks_same [] = refl
networks_same (x ∷ xs) = and_from (ghosts.eq x x) (pointwise ghosts.eq xs xs) (network_same x) (networks_same xs)

-- ---- interfaces

pub same_interface : (x y : Interface) → interface_ghosts.eq x y ≡ true → x ≡ y
same_interface x y h = Prim.search rules

pub interface_same : (x : Interface) → interface_ghosts.eq x x ≡ true
interface_same x = Prim.search rules

pub same_interfaces : (xs ys : List Interface) → pointwise interface_ghosts.eq xs ys ≡ true → xs ≡ ys
same_interfaces [] [] h = refl
same_interfaces [] (y ∷ ys) h = absurd (cc h)
same_interfaces (x ∷ xs) [] h = absurd (cc h)
same_interfaces (x ∷ xs) (y ∷ ys) h =
    let parts = and_parts (interface_ghosts.eq x y) (pointwise interface_ghosts.eq xs ys) h in
    ap (λ z. z ∷ xs) (same_interface x y parts.0) ∙ ap (λ zs. y ∷ zs) (same_interfaces xs ys parts.1)

pub interfaces_same : (xs : List Interface) → pointwise interface_ghosts.eq xs xs ≡ true
interfaces_same [] = refl
interfaces_same (x ∷ xs) = and_from (interface_ghosts.eq x x) (pointwise interface_ghosts.eq xs xs) (interface_same x) (interfaces_same xs)

-- ---- link-level addresses, if they are known

same_value : (x y : EthernetAddress) → address_ghosts.eq x y ≡ true → x ≡ y
same_value x y h = Prim.search rules

value_same : (x : EthernetAddress) → address_ghosts.eq x x ≡ true
value_same x = Prim.search rules

pub same_address : (x y : Option EthernetAddress) → option_eq address_ghosts.eq x y ≡ true → x ≡ y
same_address None None h = refl
same_address None (Some y) h = absurd (cc h)
same_address (Some x) None h = absurd (cc h)
same_address (Some x) (Some y) h = ap (λ (a : EthernetAddress). Some a) (same_value x y h)

pub address_same : (x : Option EthernetAddress) → option_eq address_ghosts.eq x x ≡ true
address_same None = refl
address_same (Some x) = value_same x

pub same_addresses : (xs ys : List (Option EthernetAddress)) → pointwise (option_eq address_ghosts.eq) xs ys ≡ true → xs ≡ ys
same_addresses [] [] h = refl
same_addresses [] (y ∷ ys) h = absurd (cc h)
same_addresses (x ∷ xs) [] h = absurd (cc h)
same_addresses (x ∷ xs) (y ∷ ys) h =
    let parts = and_parts (option_eq address_ghosts.eq x y) (pointwise (option_eq address_ghosts.eq) xs ys) h in
    ap (λ z. z ∷ xs) (same_address x y parts.0) ∙ ap (λ zs. y ∷ zs) (same_addresses xs ys parts.1)

pub addresses_same : (xs : List (Option EthernetAddress)) → pointwise (option_eq address_ghosts.eq) xs xs ≡ true
addresses_same [] = refl
addresses_same (x ∷ xs) = and_from (option_eq address_ghosts.eq x x) (pointwise (option_eq address_ghosts.eq) xs xs) (address_same x) (addresses_same xs)
