-- Keys and bindings, whichever of two states comes first.
use Rattle.std.proofs.Common.{◌≡◌, ◌==◌, ℕ, true, sym, refl, ◌∙◌, inl, inr}
use Rattle.std.proofs.lemmas.Bool.{eq-eqb, eqb-true, cases_eq, false≢true, ne_eqb}
use Rattle.pfr_net.specs.declared.endpoint.Endpoint.{Endpoint}
use Rattle.pfr_net.specs.declared.interface.Binding.{Binding}
use Rattle.pfr_net.specs.declared.interface.Binding.TheVariants.{All, To}
use Rattle.pfr_net.specs.Interfaces.{meets}
use Rattle.pfr_track.specs.declared.key.Key.{Key}
use Rattle.pfr_track.specs.declared.state.State.{State}
use Rattle.pfr_states.specs.Indexed.{covers}
use Rattle.pfr_states.specs.States.{is_same_end, is_same_key, shares_key}

pub same_turned : (a b : ℕ) → (a == b) ≡ (b == a)
same_turned a b = elim (cases_eq a b) [
  | inl is ↦ eq-eqb a b is ∙ sym (eq-eqb b a (sym is))
  | inr other ↦ ne_eqb a b other ∙ sym (ne_eqb b a (λ is. other (sym is)))
]

end_turned : (a b : Endpoint) → is_same_end a b ≡ is_same_end b a
end_turned a b = rw (same_turned a.address.0 b.address.0, same_turned a.port.0 b.port.0) refl

pub key_turned : (a b : Key) → is_same_key a b ≡ is_same_key b a
key_turned a b = rw (same_turned a.protocol.0 b.protocol.0, end_turned a.outside b.outside, end_turned a.inside b.inside) refl

pub meets_turned : (a b : Binding) → meets a b ≡ meets b a
meets_turned All All = refl
meets_turned All (To place) = refl
meets_turned (To place) All = refl
meets_turned (To place) (To other) = same_turned place.0 other.0

-- what covers a scope meets all that the scope meets
pub meets_too : (binding other scope : Binding) → covers binding scope ≡ true → meets other scope ≡ true → meets binding other ≡ true
meets_too All All scope all found = refl
meets_too All (To other) scope all found = refl
meets_too (To place) All scope all found = refl
meets_too (To place) (To other) All all found = absurd (false≢true all)
meets_too (To place) (To other) (To asked) all found = eq-eqb place.0 other.0 (eqb-true place.0 asked.0 all ∙ sym (eqb-true other.0 asked.0 found))

pub shares_turned : (a b : State) → shares_key a b ≡ shares_key b a
shares_turned a b = rw (meets_turned a.rules.binding b.rules.binding, key_turned a.wire b.wire, key_turned a.stack b.stack) refl
