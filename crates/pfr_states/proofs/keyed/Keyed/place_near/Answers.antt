use Rattle.std.proofs.Common.{◌∙◌, sym}
use Rattle.pfr_states.proofs.keyed.Keyed.place_near.Goals as goal

pub returns-then-is_found_at-clause-place : goal.returns-then-is_found_at-clause-place
returns-then-is_found_at-clause-place c = rw (← c.self.view_is) (sym c.is_found_at.ensures ∙ c.if-is_found_at.true)
