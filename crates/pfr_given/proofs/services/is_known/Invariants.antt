use Rattle.std.proofs.Common.{◌≡◌, drop}
use Rattle.pfr_given.specs.Services.{is_among, words_of}
use Rattle.pfr_given.proofs.services.is_known.Given as goal

abbrev pub invariant-loop-entry : goal.invariant-loop-entry
invariant-loop-entry l = is_among l.word (words_of (drop l.entry-index l.entries)) ≡ is_among l.word (words_of l.entries)
