use Rattle.pfr_words.specs.Words.{words, pieces}
use Rattle.pfr_words.proofs.JoinedPieces.{whole_from}
use Rattle.pfr_words.proofs.LineLemmas.{lines_of}
use Rattle.pfr_words.proofs.laws.lines_are_of_the_text.Goals as goal

pub returns : goal.returns
unfolding words pieces
returns c = λ text. lines_of 1 text (pieces text) (whole_from 0 text)
