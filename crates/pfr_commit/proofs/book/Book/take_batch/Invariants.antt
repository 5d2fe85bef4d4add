use Rattle.std.proofs.Common.{◌≡◌, ◌+◌, false, map, take}
use Rattle.pfr_commit.specs.Books.{LeadsTo, RisesOver, job_of, untold, world_in, world_with}
use Rattle.pfr_commit.specs.Emissions.{frame_of, held_changes, with_more}
use Rattle.pfr_commit.specs.Results.{results_of}
use Rattle.pfr_commit.specs.World.{world_after}
use Rattle.pfr_commit.proofs.book.Book.take_batch.Given as goal

abbrev pub invariant-loop-index : goal.invariant-loop-index
invariant-loop-index g l = record {
  job : l.self.job ≡ l.fn.self.job;
  counted : l.self.count ≡ l.fn.self.count + l.index;
  is_open : l.self.is_over ≡ false;
  own : RisesOver (job_of l.fn.self) (world_with l.fn.self l.fn.out) (results_of l.fn.groups) (take l.index l.packets) l.fn.self.own l.self.own;
  world : world_with l.self l.out ≡ untold (world_after (job_of l.fn.self) (world_with l.fn.self l.fn.out) (map (λ packet. frame_of packet.0) (take l.index l.packets)));
  told : LeadsTo l.fn.self l.self l.fn.out l.out (λ world. world_after (job_of l.fn.self) world (map (λ packet. frame_of packet.0) (take l.index l.packets)));
  changes : held_changes l.out ≡ with_more (held_changes l.fn.out) (world_after (job_of l.fn.self) (world_in l.fn.self) (map (λ packet. frame_of packet.0) (take l.index l.packets))).changes;
}
