-- Which combination stands at which place.
use Rattle.std.proofs.Common.{◌≡◌, ◌∙◌, ◌<◌, ◌+◌, ◌*◌, ◌/◌, ◌%◌, ℕ, zero, suc, List, [], ◌∷◌, ◌++◌, length, flat_map, Some, refl, subst, arith}
use Rattle.std.specs.List.{slice_get}
use Rattle.std.proofs.lemmas.Option.{slice_get-map, slice_get_within}
use Rattle.std.proofs.lemmas.Nat.{div_below, mod_below, div-add-mod'}
use Rattle.pfr_ruleset.specs.declared.flat.PacketMatch.{PacketMatch}
use Rattle.pfr_flat.specs.declared.choices.Choices as C
use Rattle.pfr_flat.specs.Choices.{no_match, by_destination_port, by_destination, by_source_port, by_source, by_icmp, by_protocol, by_interface, combinations}
use Rattle.pfr_flat.proofs.Order.{combination_count, destination_port_count, destination_count, source_port_count, source_count, icmp_count, protocol_count}

get-append_left : {A : Type 0} (xs ys : List A) (i : ℕ) (x : A) → slice_get xs i ≡ Some x → slice_get (xs ++ ys) i ≡ Some x
get-append_left [] ys i x is = absurd cc
get-append_left (z ∷ xs) ys zero x is = is
get-append_left (z ∷ xs) ys (suc i) x is = get-append_left xs ys i x is

get-append_right : {A : Type 0} (xs ys : List A) (i k : ℕ) → k ≡ length xs + i → slice_get (xs ++ ys) k ≡ slice_get ys i
get-append_right [] ys i k at = (let same : k ≡ i = omega arith in rw same refl)
get-append_right (z ∷ xs) ys i zero at = absurd (omega arith)
get-append_right (z ∷ xs) ys i (suc k) at = get-append_right xs ys i k (omega arith)

-- the parts have the same length, so a place is that of its part and the one within the part
at_each : {X A : Type 0} (n : ℕ) (f : X → List A) → ((x : X) → length (f x) ≡ n) → (xs : List X) (i j : ℕ) (x : X) (a : A) → slice_get xs i ≡ Some x → slice_get (f x) j ≡ Some a → slice_get (flat_map f xs) (i * n + j) ≡ Some a
at_each n f each [] i j x a at within = absurd cc
at_each n f each (y ∷ xs) zero j x a at within =
    let same : y ≡ x = cc in
    let place : zero * n + j ≡ j = omega arith in
    rw place (get-append_left (f y) (flat_map f xs) j a (rw same within))
at_each n f each (y ∷ xs) (suc i) j x a at within =
    let place : suc i * n + j ≡ length (f y) + (i * n + j) = omega (arith, each y) in
    get-append_right (f y) (flat_map f xs) (i * n + j) (suc i * n + j) place ∙ at_each n f each xs i j x a at within

at_destination_port : (c : C.Choices) (m : PacketMatch) (h : ℕ) (x : _) → slice_get c.destination_ports h ≡ Some x → slice_get (by_destination_port c m) h ≡ Some (record m { destination_port = x })
at_destination_port c m h x is = slice_get-map (λ x. record m { destination_port = x }) c.destination_ports h ∙ rw is refl

regrouped_place : (a b d e f g h p i s t u v : ℕ) → a * (p * (i * (s * (t * (u * v))))) + (b * (i * (s * (t * (u * v)))) + (d * (s * (t * (u * v))) + (e * (t * (u * v)) + (f * (u * v) + (g * v + h))))) ≡ (((((a * p + b) * i + d) * s + e) * t + f) * u + g) * v + h
regrouped_place a b d e f g h p i s t u v = omega arith

pub combination_at : (c : C.Choices) (m : PacketMatch) (a b d e f g h : ℕ)
    → slice_get c.interfaces a ≡ Some m.interface
    → slice_get c.protocols b ≡ Some m.protocol
    → slice_get c.icmp_types d ≡ Some m.icmp
    → slice_get c.sources e ≡ Some m.source
    → slice_get c.source_ports f ≡ Some m.source_port
    → slice_get c.destinations g ≡ Some m.destination
    → slice_get c.destination_ports h ≡ Some m.destination_port
    → slice_get (combinations c) ((((((a * length c.protocols + b) * length c.icmp_types + d) * length c.sources + e) * length c.source_ports + f) * length c.destinations + g) * length c.destination_ports + h) ≡ Some m
unfolding combinations
combination_at c m a b d e f g h in_interfaces in_protocols in_types in_sources in_source_ports in_destinations in_destination_ports =
    let m1 : PacketMatch = record no_match { interface = m.interface } in
    let m2 : PacketMatch = record m1 { protocol = m.protocol } in
    let m3 : PacketMatch = record m2 { icmp = m.icmp } in
    let m4 : PacketMatch = record m3 { source = m.source } in
    let m5 : PacketMatch = record m4 { source_port = m.source_port } in
    let m6 : PacketMatch = record m5 { destination = m.destination } in
    let s7 = at_destination_port c m6 h m.destination_port in_destination_ports in
    let s6 = at_each _ (λ x. by_destination_port c (record m5 { destination = x })) (λ x. destination_port_count c (record m5 { destination = x })) c.destinations g h m.destination m in_destinations s7 in
    let s5 = at_each _ (λ x. by_destination c (record m4 { source_port = x })) (λ x. destination_count c (record m4 { source_port = x })) c.source_ports f _ m.source_port m in_source_ports s6 in
    let s4 = at_each _ (λ x. by_source_port c (record m3 { source = x })) (λ x. source_port_count c (record m3 { source = x })) c.sources e _ m.source m in_sources s5 in
    let s3 = at_each _ (λ x. by_source c (record m2 { icmp = x })) (λ x. source_count c (record m2 { icmp = x })) c.icmp_types d _ m.icmp m in_types s4 in
    let s2 = at_each _ (λ x. by_icmp c (record m1 { protocol = x })) (λ x. icmp_count c (record m1 { protocol = x })) c.protocols b _ m.protocol m in_protocols s3 in
    let s1 = at_each _ (λ x. by_protocol c (record no_match { interface = x })) (λ x. protocol_count c (record no_match { interface = x })) c.interfaces a _ m.interface m in_interfaces s2 in
    subst (λ (place : ℕ). slice_get (by_interface c no_match) place ≡ Some m)
    (regrouped_place a b d e f g h (length c.protocols) (length c.icmp_types) (length c.sources) (length c.source_ports) (length c.destinations) (length c.destination_ports)) s1

-- ---- the digits of a place

element : {A : Type 0} (xs : List A) (i : ℕ) → i < length xs → (x : A) × (slice_get xs i ≡ Some x)
element [] i within = absurd (omega arith)
element (x ∷ xs) zero within = (x, refl)
element (x ∷ xs) (suc i) within = element xs i (omega arith)

some_factor : (i p n : ℕ) → i < p * n → 0 < n
some_factor i p zero within = absurd (omega arith)
some_factor i p (suc n) within = omega arith

-- a number below a product of this length is a place of the list and one of what goes round it
digit : {A : Type 0} (xs : List A) (i p : ℕ) → i < p * length xs → (x : A) × (slice_get xs (i % length xs) ≡ Some x) × (i / length xs < p)
digit xs i p within =
    let some : 0 < length xs = some_factor i p (length xs) within in
    let found = element xs (i % length xs) (mod_below i (length xs) some) in
    (found.0, found.1, div_below i (length xs) p some within)

pub choices_at : (c : C.Choices) (m : PacketMatch) (i : ℕ)
    → slice_get (combinations c) i ≡ Some m
    → (slice_get c.destination_ports (i % length c.destination_ports) ≡ Some m.destination_port)
    × (slice_get c.destinations (i / length c.destination_ports % length c.destinations) ≡ Some m.destination)
    × (slice_get c.source_ports (i / length c.destination_ports / length c.destinations % length c.source_ports) ≡ Some m.source_port)
    × (slice_get c.sources (i / length c.destination_ports / length c.destinations / length c.source_ports % length c.sources) ≡ Some m.source)
    × (slice_get c.icmp_types (i / length c.destination_ports / length c.destinations / length c.source_ports / length c.sources % length c.icmp_types) ≡ Some m.icmp)
    × (slice_get c.protocols (i / length c.destination_ports / length c.destinations / length c.source_ports / length c.sources / length c.icmp_types % length c.protocols) ≡ Some m.protocol)
    × (slice_get c.interfaces (i / length c.destination_ports / length c.destinations / length c.source_ports / length c.sources / length c.icmp_types / length c.protocols) ≡ Some m.interface)
choices_at c m i is =
    let within : i < length (combinations c) = slice_get_within (combinations c) i m is in
    let below : i < length c.interfaces * length c.protocols * length c.icmp_types * length c.sources * length c.source_ports * length c.destinations * length c.destination_ports = subst (λ (n : ℕ). i < n) (combination_count c) within in
    let port = digit c.destination_ports i (length c.interfaces * length c.protocols * length c.icmp_types * length c.sources * length c.source_ports * length c.destinations) below in
    let to = digit c.destinations (i / length c.destination_ports) (length c.interfaces * length c.protocols * length c.icmp_types * length c.sources * length c.source_ports) port.2 in
    let by = digit c.source_ports (i / length c.destination_ports / length c.destinations) (length c.interfaces * length c.protocols * length c.icmp_types * length c.sources) to.2 in
    let source = digit c.sources (i / length c.destination_ports / length c.destinations / length c.source_ports) (length c.interfaces * length c.protocols * length c.icmp_types) by.2 in
    let type = digit c.icmp_types (i / length c.destination_ports / length c.destinations / length c.source_ports / length c.sources) (length c.interfaces * length c.protocols) source.2 in
    let protocol = digit c.protocols (i / length c.destination_ports / length c.destinations / length c.source_ports / length c.sources / length c.icmp_types) (length c.interfaces) type.2 in
    let interface = element c.interfaces (i / length c.destination_ports / length c.destinations / length c.source_ports / length c.sources / length c.icmp_types / length c.protocols) protocol.2 in
    let n : PacketMatch = record { interface = interface.0; protocol = protocol.0; icmp = type.0; source = source.0; source_port = by.0; destination = to.0; destination_port = port.0 } in
    let there = combination_at c n _ _ _ _ _ _ _ interface.1 protocol.1 type.1 source.1 by.1 to.1 port.1 in
    let i1 : ℕ = i / length c.destination_ports in
    let i2 : ℕ = i1 / length c.destinations in
    let i3 : ℕ = i2 / length c.source_ports in
    let i4 : ℕ = i3 / length c.sources in
    let i5 : ℕ = i4 / length c.icmp_types in
    let here : slice_get (combinations c) i ≡ Some n = rw (div-add-mod' i5 (length c.protocols), div-add-mod' i4 (length c.icmp_types), div-add-mod' i3 (length c.sources), div-add-mod' i2 (length c.source_ports), div-add-mod' i1 (length c.destinations), div-add-mod' i (length c.destination_ports)) at there in
    let same : n ≡ m = cc (is, here) in
    subst (λ (m : PacketMatch).
    (slice_get c.destination_ports (i % length c.destination_ports) ≡ Some m.destination_port)
    × (slice_get c.destinations (i1 % length c.destinations) ≡ Some m.destination)
    × (slice_get c.source_ports (i2 % length c.source_ports) ≡ Some m.source_port)
    × (slice_get c.sources (i3 % length c.sources) ≡ Some m.source)
    × (slice_get c.icmp_types (i4 % length c.icmp_types) ≡ Some m.icmp)
    × (slice_get c.protocols (i5 % length c.protocols) ≡ Some m.protocol)
    × (slice_get c.interfaces (i5 / length c.protocols) ≡ Some m.interface))
    same (port.1, to.1, by.1, source.1, type.1, protocol.1, interface.1)
