use Rattle.std.proofs.lemmas.Str.{IsUtf8-past_char}
use Rattle.pfr_report.proofs.EscapeLemmas.{character_further, characters_ended}
use Rattle.pfr_report.proofs.escape.append_characters.Goals as goal

pub loop-character-preserved : goal.loop-character-preserved
loop-character-preserved c =
    let (so_far, text) = c.loop-character.invariant in (
      character_further _ _ _ _ _ _ text c.in-Some.ensures.steps.0 so_far c.in_ok-append_character.ensures,
      IsUtf8-past_char _ _ _ text c.in-Some.ensures.steps.0,
    )

pub returns : goal.returns
returns c = characters_ended _ _ _ c.in-None.ensures.steps.0.0 c.loop-character.invariant.0
