use Rattle.std.proofs.Common.{sym, ◌∙◌}
use Rattle.pfr_sync.proofs.EditLemmas.{set_edit}
use Rattle.pfr_sync.proofs.edit.apply.Goals as goal

pub returns-then-is_some-clause-entries : goal.returns-then-is_some-clause-entries
returns-then-is_some-clause-entries c =
    let edit = c.args.edit in
    c.write.ensures ∙ set_edit c.args.entries.now edit.place c.args.state.now edit.old edit.new c.in-Some.action (sym c.is_some.ensures ∙ c.if-is_some.true) c.in-Some.is c.requires.within
