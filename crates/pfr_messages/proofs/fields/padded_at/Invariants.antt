use Rattle.std.proofs.Common.{◌≡◌, ◌-◌, length, take, false}
use Rattle.pfr_messages.specs.Fields.{padded_at}
use Rattle.pfr_messages.proofs.FieldLoops.{with_front}
use Rattle.pfr_messages.proofs.fields.padded_at.Given as goal

abbrev pub invariant-loop-place : goal.invariant-loop-place
invariant-loop-place l =
    (length l.name ≡ 16)
    × (with_front (take l.place l.name) (padded_at (16 - l.place) l.ended l.rest) ≡ padded_at 16 false l.bytes)
