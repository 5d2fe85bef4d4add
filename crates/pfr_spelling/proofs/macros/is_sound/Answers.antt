use Rattle.std.proofs.Common.{◌≡◌, ◌∙◌, ap, drop, subst, sym, true}
use Rattle.std.proofs.lemmas.List.{drop-drop}
use Rattle.pfr_marks.proofs.ListLemmas.{rest_is}
use Rattle.pfr_spelling.specs.Macros.{begins_sound, is_sound}
use Rattle.pfr_spelling.proofs.MacroLemmas.{sound_here}
use Rattle.pfr_spelling.proofs.macros.is_sound.Goals as goal

pub loop-at-preserved : goal.loop-at-preserved
loop-at-preserved c =
    let here = drop c.loop-at.at c.args.text.now in
    let sound : begins_sound here ≡ true = ap begins_sound (sym (rest_is c.loop-at.at c.args.text.now)) ∙ sym c.begins_sound.ensures ∙ c.if-not-begins_sound.false in
    subst (λ rest. is_sound rest ≡ is_sound c.args.text.now) (drop-drop 1 c.loop-at.at c.args.text.now) (sound_here here sound ∙ c.loop-at.invariant)
