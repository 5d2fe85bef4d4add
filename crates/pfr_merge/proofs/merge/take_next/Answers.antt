use Rattle.std.proofs.Common.{Some, ◌∙◌, ap, refl, set}
use Rattle.pfr_capture.specs.Records.{RecordBytes}
use Rattle.std.proofs.lemmas.Option.{slice_get-get_or}
use Rattle.pfr_merge.specs.MergeReading.{Waiting}
use Rattle.pfr_merge.proofs.LeastLemmas.{have_none, none_taken, takes_next}
use Rattle.pfr_merge.proofs.merge.take_next.Goals as goal

pub returns-in_default-clause-none : goal.returns-in_default-clause-none
returns-in_default-clause-none c = (have_none c.args.inputs.now (rw c.in_default.is at c.least.ensures), refl)

pub returns-in-None-clause-none : goal.returns-in-None-clause-none
returns-in-None-clause-none c =
    absurd (none_taken c.args.inputs.now _ c.in-Some.found.0 c.in-Some.found.1 _ c.in-Some.ensures (slice_get-get_or c.args.inputs.now c.in-Some.found.0 c.index-inputs-found.result c.in-Some.ensures.within) c.in-None.ensures.taken)

pub returns-in-Some-take-clause-taken : goal.returns-in-Some-take-clause-taken
returns-in-Some-take-clause-taken c =
    takes_next c.args.inputs.now _ c.in-Some.found.0 c.in-Some.found.1 _ c.placed.result c.in-Some.ensures (slice_get-get_or c.args.inputs.now c.in-Some.found.0 c.index-inputs-found.result c.in-Some.ensures.within) (ap (λ (r : RecordBytes). Some r) c.placed.ensures.bytes ∙ c.in-Some-take.ensures.taken) (c.placed.ensures.fields _ c.in-Some-take.ensures.fields) (ap (λ (w : Waiting). set c.args.inputs.now c.in-Some.found.0 w) c.take.ensures.rest)
