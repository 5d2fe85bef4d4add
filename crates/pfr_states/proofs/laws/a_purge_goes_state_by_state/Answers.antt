use Rattle.pfr_states.proofs.DueOrderLemmas.{none_left, one_state_less, removal_leaves_table, takes_first}
use Rattle.pfr_states.proofs.PurgeLemmas.{purged_on}
use Rattle.pfr_states.proofs.laws.a_purge_goes_state_by_state.Goals as goal

pub returns-clause-next : goal.returns-clause-next
returns-clause-next c = takes_first

pub returns-clause-kept : goal.returns-clause-kept
returns-clause-kept c = λ states clock state in_order is. purged_on clock states state in_order is

pub returns-clause-table : goal.returns-clause-table
returns-clause-table c = removal_leaves_table

pub returns-clause-fewer : goal.returns-clause-fewer
returns-clause-fewer c = one_state_less

pub returns-clause-over : goal.returns-clause-over
returns-clause-over c = none_left
