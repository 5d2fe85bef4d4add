use Rattle.std.proofs.Common.{◌≡◌, ◌++◌}
use Rattle.std.specs.List.{flat_map}
use Rattle.std.specs.Str.{IsUtf8, chars}
use Rattle.std.specs.Str.Iter.{chars_rest}
use Rattle.pfr_report.specs.Escapes.{escaped}
use Rattle.pfr_report.proofs.escape.append_characters.Given as goal

-- what was appended, with what stands for the characters that are left, stands for all characters
abbrev pub invariant-loop-character : goal.invariant-loop-character
invariant-loop-character l = (l.text.items ++ flat_map escaped (chars (chars_rest l.character-iterator)) ≡ l.fn.text.items ++ flat_map escaped (chars l.fn.characters))
    × IsUtf8 (chars_rest l.character-iterator)
