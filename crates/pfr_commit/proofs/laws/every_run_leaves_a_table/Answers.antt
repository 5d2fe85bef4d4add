use Rattle.std.proofs.Common.{refl, arith}
use Rattle.pfr_commit.specs.World.{opening, world_of}
use Rattle.pfr_commit.proofs.TableLemmas.{table_after}
use Rattle.pfr_commit.proofs.laws.every_run_leaves_a_table.Goals as goal

pub returns : goal.returns
unfolding world_of opening
returns c = λ job frames.
    table_after c.no_change_is_refused.ensures job (opening job) frames (record { in_order = refl; own_keys = refl; few = omega arith })
