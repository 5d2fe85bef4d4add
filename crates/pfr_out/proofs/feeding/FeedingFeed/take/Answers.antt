use Rattle.std.proofs.Common.{Bool, ◌&&◌, ap, map, ◌∙◌}
use Rattle.std.specs.List.{list_all}
use Rattle.pfr_out.specs.Outputs.{all_told}
use Rattle.pfr_out.proofs.WritingLemmas.{all_told_alike, list_told_alike}
use Rattle.pfr_out.proofs.feeding.FeedingFeed.take.Goals as goal

pub returns-in-Ok-clause-told : goal.returns-in-Ok-clause-told
returns-in-Ok-clause-told g c =
    let w = c.write.ensures.writes in
    ap (λ (t : Bool). t && all_told g.S.Sink.told c.write.new.self.sinks.now) (list_told_alike g.R.Source.told c.args.self.now.sources.now c.write.new.self.sources.now (ap (map g.R.Source.told) w.sources))
    ∙ ap (λ (t : Bool). list_all g.R.Source.told c.args.self.now.sources.now && t) (all_told_alike g.S.Sink.told c.args.self.now.sinks.now c.write.new.self.sinks.now w.told)

pub returns-clause-told : goal.returns-clause-told
returns-clause-told g c =
    let w = c.write.ensures.writes in
    ap (λ (t : Bool). t && all_told g.S.Sink.told c.write.new.self.sinks.now) (list_told_alike g.R.Source.told c.args.self.now.sources.now c.write.new.self.sources.now (ap (map g.R.Source.told) w.sources))
    ∙ ap (λ (t : Bool). list_all g.R.Source.told c.args.self.now.sources.now && t) (all_told_alike g.S.Sink.told c.args.self.now.sinks.now c.write.new.self.sinks.now w.told)
