use Rattle.pfr_messages.proofs.Puts.{first}
use Rattle.pfr_messages.proofs.writing.put_deletion.Goals as goal

pub returns : goal.returns
returns c =
    first c.in_ok-put_u64.ensures c.in_ok-put_u32.ensures
