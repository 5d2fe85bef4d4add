use Rattle.pfr_words.specs.Words.{pieces}
use Rattle.pfr_words.proofs.JoinedPieces.{some_from, whole_from}
use Rattle.pfr_words.proofs.laws.pieces_are_the_text.Goals as goal

pub returns-clause-whole : goal.returns-clause-whole
unfolding pieces
returns-clause-whole c = λ text. whole_from 0 text

pub returns-clause-some : goal.returns-clause-some
unfolding pieces
returns-clause-some c = λ text. some_from 0 text
