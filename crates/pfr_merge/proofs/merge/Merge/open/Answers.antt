use Rattle.std.proofs.Common.{◌∙◌, sym}
use Rattle.std.proofs.lemmas.List.{length-map}
use Rattle.pfr_merge.specs.MergeReading.{none_waits}
use Rattle.pfr_merge.proofs.OpeningLemmas.{merge_opens, merge_starts}
use Rattle.pfr_merge.proofs.merge.Merge.open.Goals as goal

pub returns-in-Ok-clause-starts : goal.returns-in-Ok-clause-starts
returns-in-Ok-clause-starts g c =
    let starts = merge_starts c.in_ok-captures.captures.items c.in_ok-captures.ensures.fresh.0 in
    rw c.in-Ok.ensures (starts.0, starts.1, length-map c.in_ok-captures.captures.items none_waits ∙ c.in_ok-captures.ensures.fresh.1)

pub returns-in-Ok-clause-opens : goal.returns-in-Ok-clause-opens
returns-in-Ok-clause-opens g c =
    λ told.
    rw c.in-Ok.ensures
    (merge_opens c.in_ok-captures.captures.items _ _ (c.in_ok-captures.ensures.opens told) (c.in_ok-captures.ensures.fresh.1 ∙ sym (length-map c.args.sources.now g.S.Source.unread)) c.in_ok-captures.ensures.fresh.0)
