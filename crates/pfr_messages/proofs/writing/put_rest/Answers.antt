use Rattle.pfr_messages.proofs.Puts.{first}
use Rattle.pfr_messages.proofs.Fitting.{insertion_rule, insertion_translation}
use Rattle.pfr_messages.proofs.writing.put_rest.Goals as goal

pub returns : goal.returns
returns c =
    first c.in_ok-put_zeros.ensures
    (first c.in_ok-put_rule.ensures
    (first c.in_ok-put_u32.ensures
    (first c.in_ok-put_rule-2.ensures
    (first c.in_ok-put_u32-2.ensures
    (first c.in_ok-put_u32-3.ensures
    (first c.in_ok-put_u64.ensures
    (first c.in_ok-put_u64-2.ensures
    (first c.in_ok-put_u64-3.ensures
    (first c.in_ok-put_u64-4.ensures
    (first c.in_ok-put_u32-4.ensures
    (first c.in_ok-put_code.ensures
    (first c.in_ok-put_u8.ensures
    (first c.in_ok-put_direction.ensures
    (first c.in_ok-put_zeros-2.ensures (first c.in_ok-put_timeout.ensures c.in_ok-put_zeros-3.ensures)))))))))))))))

pub put_rule-requires : goal.put_rule-requires
put_rule-requires c = insertion_rule c.args.insertion.now c.requires

pub put_rule-requires-2 : goal.put_rule-requires-2
put_rule-requires-2 c = insertion_translation c.args.insertion.now c.requires
