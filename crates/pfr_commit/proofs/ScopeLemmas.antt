-- Scopes and bindings of a run of one capture.
use Rattle.std.proofs.Common.{◌≡◌, ◌∙◌, true, List, [], ◌∷◌, inl, inr, refl, sym, ap, subst}
use Rattle.std.specs.List.{All, Contains}
use Rattle.std.proofs.lemmas.Bool.{eq-eqb}
use Rattle.std.proofs.lemmas.List.Elements.{All-head, All-tail}
use Rattle.pfr_net.specs.Interfaces.{meets}
use Rattle.pfr_net.specs.declared.interface.Binding.{Binding}
use Rattle.pfr_net.specs.declared.interface.Binding.TheVariants.{To}
use Rattle.pfr_net.specs.declared.interface.InterfacePlace.{InterfacePlace}
use Rattle.pfr_net.specs.declared.policy.StatePolicy.{StatePolicy}
use Rattle.pfr_net.specs.declared.policy.StatePolicy.TheVariants.{Floating, IfBound}
use Rattle.pfr_track.specs.declared.state.State.{State}
use Rattle.pfr_states.proofs.Membership.{in_cons, in_none}
use Rattle.pfr_packet.specs.Job.{RunJob}
use Rattle.pfr_packet.specs.Laws.{policy_for}
use Rattle.pfr_packet.specs.Passages.{binding_by}
use Rattle.pfr_commit.specs.Laws.{IsOfOneCapture}
use Rattle.pfr_commit.specs.Runs.{IsMadeAmong, Taken, next_taken, taken_after, taken_in}
use Rattle.pfr_commit.specs.World.{Frame, World, after, opening}

-- what holds of all packets holds of those taken
taken_are : (P : Frame → Type 0) (job : RunJob) (world : World) (frames : List Frame) → All P frames → (p : Taken) → Contains (taken_after job world frames) p → P p.frame
taken_are P job world [] all p at = absurd (in_none p at)
taken_are P job world (frame ∷ frames) all p at = elim (in_cons (next_taken job world frame) (taken_after job (after job world frame) frames) p at) [
  | inl is ↦ subst (λ (q : Taken). P q.frame) is (All-head P frame frames all)
  | inr rest ↦ taken_are P job (after job world frame) frames (All-tail P frame frames all) p rest
]

meets_so : (policy : StatePolicy) (place scope : InterfacePlace) → place.0 ≡ 0 → scope.0 ≡ 0 → meets (binding_by policy place) (To scope) ≡ true
meets_so IfBound place scope place_is scope_is = eq-eqb place.0 scope.0 (place_is ∙ sym scope_is)
meets_so Floating place scope place_is scope_is = refl

pub bound_so : (job : RunJob) (frames : List Frame) (state : State) (scope : InterfacePlace) → IsOfOneCapture job frames → scope.0 ≡ 0 → IsMadeAmong job.rules (taken_in job frames) state → meets state.rules.binding (To scope) ≡ true
bound_so job frames state scope one scope_is made =
    let place_is = taken_are (λ (f : Frame). f.place.0 ≡ 0) job (opening job) frames one.packets made.packet made.is_there in
    ap (λ (b : Binding). meets b (To scope)) made.rules_are.binding ∙ meets_so (policy_for job.rules made.packet.outcome.rule) made.packet.frame.place scope place_is scope_is
