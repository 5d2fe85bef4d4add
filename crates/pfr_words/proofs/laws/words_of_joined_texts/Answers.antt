use Rattle.pfr_words.proofs.JoinedWords.{words_joined}
use Rattle.pfr_words.proofs.laws.words_of_joined_texts.Goals as goal

pub returns : goal.returns
returns c first second whole = words_joined first second whole.0 whole.1
