use Rattle.std.proofs.Common.{◌∙◌, sym}
use Rattle.pfr_flat.proofs.MacroLists.{list_by_macro}
use Rattle.pfr_flat.proofs.laws.list_by_a_macro_is_the_list.Goals as goal

pub returns : goal.returns
returns g c scope =
    list_by_macro g.T.Element.kind scope c.args.meanings.now
    (λ made ws is. sym c.list_in-meant.ensures.value ∙ c.list_in-meant.ensures.read made ws is)
