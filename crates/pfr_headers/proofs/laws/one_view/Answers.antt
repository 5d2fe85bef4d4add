use Rattle.pfr_headers.proofs.ViewLemmas.{is_view, view_is}
use Rattle.pfr_headers.proofs.laws.one_view.Goals as goal

pub returns-clause-only : goal.returns-clause-only
returns-clause-only c = view_is

pub returns-clause-some : goal.returns-clause-some
returns-clause-some c = is_view
