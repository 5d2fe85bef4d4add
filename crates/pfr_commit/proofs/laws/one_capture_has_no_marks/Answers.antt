use Rattle.pfr_commit.proofs.CountLemmas.{plain_lines, plain_records, plain_states}
use Rattle.pfr_commit.proofs.laws.one_capture_has_no_marks.Goals as goal

pub returns : goal.returns
returns c = λ job frames one. (plain_lines job frames one, plain_records job frames one, λ states. plain_states job frames states one)
