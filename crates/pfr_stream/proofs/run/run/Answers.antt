use Rattle.pfr_stream.proofs.Takings.{over_from, run_ends, run_stops, stops_memory, stops_writing}
use Rattle.pfr_stream.proofs.WritingLemmas.{outcome_writes, stop_writes}
use Rattle.std.proofs.Common.{refl}
use Rattle.pfr_stream.proofs.run.run.Goals as goal

pub returns-in_default-clause-stops : goal.returns-in_default-clause-stops
returns-in_default-clause-stops g c =
    let over = over_from g.R.Source.told g.R.Source.unread c.args.source.now c.take_all.new.source c.args.stream.now c.take_all.new.self c.requires c.take_all.ensures.framing c.take_all.ensures.takes_on in
    rw c.count.ensures.count (stops_memory g.R.Source.told g.R.Source.unread g.R.Source.failures g.S.Sink.told g.S.Sink.written g.S.Sink.failures c.args.stream.now.framing c.args.source.now c.take_all.new.source c.args.sink.now c.args.sink.now c.take_all.new.self over refl)

pub returns-in-Ok-write_states-clause-ok : goal.returns-in-Ok-write_states-clause-ok
returns-in-Ok-write_states-clause-ok g c =
    let over = over_from g.R.Source.told g.R.Source.unread c.args.source.now c.take_all.new.source c.args.stream.now c.take_all.new.self c.requires c.take_all.ensures.framing c.take_all.ensures.takes_on in
    rw (c.outcome.ensures, c.count-in-Ok-write_states.ensures.count) (run_ends g.R.Source.told g.R.Source.unread g.R.Source.failures g.S.Sink.told g.S.Sink.written g.S.Sink.failures c.args.stream.now.framing c.args.source.now c.take_all.new.source c.args.sink.now c.write_states.new.sink c.take_all.new.self c.in-Ok.ending over c.in-Ok.ensures.ends c.in-Ok-write_states.ensures.wrote)

pub returns-in-Ok-write_states-clause-stops : goal.returns-in-Ok-write_states-clause-stops
returns-in-Ok-write_states-clause-stops g c =
    let over = over_from g.R.Source.told g.R.Source.unread c.args.source.now c.take_all.new.source c.args.stream.now c.take_all.new.self c.requires c.take_all.ensures.framing c.take_all.ensures.takes_on in
    rw (c.outcome.ensures, c.count-in-Ok-write_states.ensures.count) (run_stops g.R.Source.told g.R.Source.unread g.R.Source.failures g.S.Sink.told g.S.Sink.written g.S.Sink.failures c.args.stream.now.framing c.args.source.now c.take_all.new.source c.args.sink.now c.write_states.new.sink c.take_all.new.self c.in-Ok.ending over c.in-Ok.ensures.ends c.in-Ok-write_states.ensures.wrote)

pub returns-in-Err-clause-stops : goal.returns-in-Err-clause-stops
returns-in-Err-clause-stops g c =
    let over = over_from g.R.Source.told g.R.Source.unread c.args.source.now c.take_all.new.source c.args.stream.now c.take_all.new.self c.requires c.take_all.ensures.framing c.take_all.ensures.takes_on in
    stops_writing g.R.Source.told g.R.Source.unread g.R.Source.failures g.S.Sink.told g.S.Sink.written g.S.Sink.failures c.args.stream.now.framing c.args.source.now c.take_all.new.source c.args.sink.now c.write_states.new.sink c.take_all.new.self c.in-Err.stop c.in-Ok.ending over c.in-Ok.ensures.ends c.in-Err.ensures.stops

pub returns-in-Ok-write_states-clause-lines : goal.returns-in-Ok-write_states-clause-lines
returns-in-Ok-write_states-clause-lines g c =
    rw c.outcome.ensures (outcome_writes g.S.Sink.told g.S.Sink.written g.S.Sink.failures c.args.sink.now c.write_states.new.sink c.count-in-Ok-write_states.result c.take_all.new.self.standing c.in-Ok.ending c.in-Ok-write_states.ensures.wrote)

pub returns-in-Err-clause-lines : goal.returns-in-Err-clause-lines
returns-in-Err-clause-lines g c =
    stop_writes g.S.Sink.told g.S.Sink.written g.S.Sink.failures c.args.sink.now c.write_states.new.sink c.take_all.new.self c.in-Err.stop c.in-Err.ensures.stops
