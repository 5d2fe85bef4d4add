use Rattle.std.proofs.Common.{rules}
use Rattle.pfr_terms.specs.Input.{note}
use Rattle.pfr_terms.proofs.reader.Reader.note.Goals as goal

pub returns : goal.returns
unfolding note
returns c = search rules
