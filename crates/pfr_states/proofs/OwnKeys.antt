-- Who has a key, if no two that meet on an interface share one.
use Rattle.std.proofs.Common.{◌≡◌, ◌∙◌, ◌||◌, ℕ, true, List, sym, ap, subst}
use Rattle.std.specs.List.{Contains}
use Rattle.std.proofs.lemmas.Bool.{and_from, and_parts, eqb-true, or_left, or_right}
use Rattle.pfr_net.specs.declared.endpoint.Endpoint.{Endpoint}
use Rattle.pfr_net.specs.declared.interface.Binding.{Binding}
use Rattle.pfr_net.specs.Interfaces.{meets}
use Rattle.pfr_track.specs.declared.key.Key.{Key}
use Rattle.pfr_track.specs.declared.state.State.{State}
use Rattle.pfr_states.specs.declared.change.Side.{Side}
use Rattle.pfr_states.specs.declared.change.Side.TheVariants.{Wire, Stack}
use Rattle.pfr_states.specs.Indexed.{covers}
use Rattle.pfr_states.specs.States.{have_own_keys, is_found, is_same_end, is_same_key, key_on, shares_key}
use Rattle.pfr_states.proofs.KeyLemmas.{meets_too}
use Rattle.pfr_states.proofs.LawLemmas.{one_of}

abbrev end_of : ℕ → ℕ → Endpoint
end_of address port = record { address = record { 0 = address }; port = record { 0 = port } }

end_is : (a b : Endpoint) → is_same_end a b ≡ true → a ≡ b
end_is a b same =
    let parts = and_parts _ _ same in
    ap (λ (n : ℕ). end_of n a.port.0) (eqb-true a.address.0 b.address.0 parts.0) ∙ ap (λ (n : ℕ). end_of b.address.0 n) (eqb-true a.port.0 b.port.0 parts.1)

abbrev key_of : ℕ → Endpoint → Endpoint → Key
key_of protocol outside inside = record { protocol = record { 0 = protocol }; outside = outside; inside = inside }

pub key_is : (a b : Key) → is_same_key a b ≡ true → a ≡ b
key_is a b same =
    let parts = and_parts _ _ same in
    let ends = and_parts (is_same_end a.outside b.outside) (is_same_end a.inside b.inside) parts.1 in
    ap (λ (n : ℕ). key_of n a.outside a.inside) (eqb-true a.protocol.0 b.protocol.0 parts.0)
    ∙ ap (λ (e : Endpoint). key_of b.protocol.0 e a.inside) (end_is a.outside b.outside ends.0) ∙ ap (λ (e : Endpoint). key_of b.protocol.0 b.outside e) (end_is a.inside b.inside ends.1)

pub shares_side : (side : Side) (a b : State) → meets a.rules.binding b.rules.binding ≡ true → is_same_key (key_on side a) (key_on side b) ≡ true → shares_key a b ≡ true
shares_side Wire a b met same = and_from (meets a.rules.binding b.rules.binding) (is_same_key a.wire b.wire || is_same_key a.stack b.stack) met (or_left (is_same_key a.wire b.wire) (is_same_key a.stack b.stack) same)
shares_side Stack a b met same = and_from (meets a.rules.binding b.rules.binding) (is_same_key a.wire b.wire || is_same_key a.stack b.stack) met (or_right (is_same_key a.wire b.wire) (is_same_key a.stack b.stack) same)

-- a state that is found and has all interfaces of the scope is the only one
pub one_found : (side : Side) (key : Key) (scope : Binding) (xs : List State) → have_own_keys xs ≡ true → (a b : State) → Contains xs a → Contains xs b → covers a.rules.binding scope ≡ true → is_found side key scope a ≡ true → is_found side key scope b ≡ true → a ≡ b
one_found side key scope xs own a b ha hb all is_a is_b =
    let of_a = and_parts (is_same_key (key_on side a) key) (meets a.rules.binding scope) is_a in
    let of_b = and_parts (is_same_key (key_on side b) key) (meets b.rules.binding scope) is_b in
    one_of xs a b own ha hb (shares_side side a b (meets_too a.rules.binding b.rules.binding scope all of_b.1) (subst (λ (k : Key). is_same_key (key_on side a) k ≡ true) (sym (key_is (key_on side b) key of_b.0)) of_a.0))
