-- The networks whose packets go out, as a word of the command line lists them.
use Rattle.std.specs.Prelude.{◌≡◌, ◌≤◌, ℕ, ◌==◌, ◌&&◌, Bool, true, false, if◌then◌else◌, List, [], ◌∷◌, ◌++◌, drop, length, Option, Some, None, is_some}
use Rattle.std.specs.List.{AllByRecursion, list_any, slice_split}
use Rattle.pfr_net.specs.Networks.{net_of, prefix}
use Rattle.pfr_net.specs.Notation.{◌>>=◌}
use Rattle.pfr_net.specs.declared.network.Net.{Net}
use Rattle.pfr_headers.specs.declared.ethernet.EthernetAddress.{EthernetAddress}
use Rattle.pfr_values.specs.Macs.{all_known}
use Rattle.pfr_values.specs.declared.inside.Inside.{Inside}
use Rattle.pfr_values.specs.declared.inside.Listed.{Listed}

-- `!` stands before a network
abbrev pub is_excepted : List ℕ → Bool
is_excepted [] = false
is_excepted (b ∷ text) = b == 33

-- a network with `!` before it or without
abbrev pub listing_of : List ℕ → Option Listed
listing_of text = do
  network ← net_of (if is_excepted text then drop 1 text else text)
  Some (record { network = network; is_excepted = is_excepted text })

-- the prefixes are equally long, and the same
abbrev pub is_same : Net → Net → Bool
is_same network other = network.bits == other.bits && prefix network.bits network.address.0 == prefix other.bits other.address.0

abbrev pub none : Inside
none = record { networks = []; excepted = [] }

-- no network is listed with `!` and without
abbrev pub NoneTwice : Inside → Type 0
NoneTwice inside = AllByRecursion (λ network. list_any (is_same network) inside.excepted ≡ false) inside.networks

-- the network, if one is listed that is excepted, or one that isn't
abbrev pub of_kind : (excepted : Bool) → Option Listed → List Net
of_kind excepted None = []
of_kind true (Some one) = if one.is_excepted then one.network ∷ [] else []
of_kind false (Some one) = if one.is_excepted then [] else one.network ∷ []

-- the networks in the parts of a list that are excepted, or those that aren't
abbrev pub those : (excepted : Bool) → List (List ℕ) → List Net
those excepted [] = []
those excepted (part ∷ parts) = of_kind excepted (listing_of part) ++ those excepted parts

-- each part of a list is a network
abbrev pub are_networks : List (List ℕ) → Bool
are_networks [] = true
are_networks (part ∷ parts) = if is_some (listing_of part) then are_networks parts else false

-- behind others come the networks in the parts of a list
abbrev pub Adds : (parts : List (List ℕ)) → (before after : Inside) → Type 0
Adds parts before after =
    (are_networks parts ≡ true)
    × (after.networks ≡ before.networks ++ those false parts)
    × (after.excepted ≡ before.excepted ++ those true parts)

-- the networks of a list with commas between: each part is a network, one at least has no `!`, and none is there with `!` and without
abbrev pub Lists : List ℕ → Inside → Type 0
Lists word inside =
    Adds (slice_split (λ b. b == 44) word) none inside × (1 ≤ length inside.networks) × NoneTwice inside

-- the networks that a word lists; without one there are none, and every interface has a link-level address
abbrev pub AreGiven : List (Option EthernetAddress) → Option (List ℕ) → Inside → Type 0
AreGiven link_addresses None inside = (inside ≡ none) × (all_known link_addresses ≡ true)
AreGiven link_addresses (Some word) inside = Lists word inside
