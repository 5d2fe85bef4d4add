use Rattle.std.proofs.Common.{◌∙◌}
use Rattle.pfr_elements.proofs.NameLemmas.{places_push}
use Rattle.pfr_elements.proofs.names.Names.push.Goals as goal

pub invariant_of-self-in-Ok : goal.invariant_of-self-in-Ok
invariant_of-self-in-Ok c =
    rw (c.in_ok-push.ensures.items, ← c.as_slice-text.ensures) (places_push c.self.inside.names.items c.self.inside.places c.insert.new.self _ _ c.self.invariant (c.len-place.ensures ∙ c.self.inside.names.ok.0) c.in-Ok.ensures.updates)
