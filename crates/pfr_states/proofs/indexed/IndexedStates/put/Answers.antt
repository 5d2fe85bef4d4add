use Rattle.std.proofs.Common.{◌≡◌, ◌∙◌, ap, List, OnOk, subst, sym}
use Rattle.std.specs.Option.{option_copied}
use Rattle.pfr_track.specs.declared.state.State.{State}
use Rattle.pfr_states.proofs.ShareLemmas.{number_free, others_free, with_is_touched}
use Rattle.pfr_states.proofs.indexed.IndexedStates.put.Goals as goal

pub replace-requires : goal.replace-requires
replace-requires c = others_free c.args.state.now c.args.self.now c.requires

pub add-requires-clause-number : goal.add-requires-clause-number
add-requires-clause-number c = number_free c.args.state.now.number c.args.self.now (sym c.get.ensures.state ∙ ap option_copied c.in-None.is)

pub returns-in-Some-clause-done : goal.returns-in-Some-clause-done
returns-in-Some-clause-done c =
    subst (λ (states : List State). OnOk c.replace.result (c.replace.new.self ≡ states)) (with_is_touched c.args.state.now c.in-Some.field-0.now c.args.self.now c.get.ensures.in_order (sym c.get.ensures.state ∙ ap option_copied c.in-Some.is)) c.replace.ensures.done
