use Rattle.std.proofs.Common.{◌≡◌, refl, ap, ◌∙◌, arith}
use Rattle.pfr_states.proofs.Membership.{in_none}
use Rattle.pfr_sync.specs.declared.event.Event.{Event}
use Rattle.pfr_sync.specs.Queues.{Queued}
use Rattle.std.specs.Arc.{arc_value}
use Rattle.pfr_commit.specs.World.{names_of, opening}
use Rattle.pfr_commit.proofs.book.Book.new.Goals as goal

pub returns-clause-world : goal.returns-clause-world
unfolding opening
returns-clause-world c = record {
  left = rw (c.new-2.ensures, c.in_ok-counters.ensures, c.counts.ensures, c.rules-rules.ensures, c.deref.ensures) refl;
  origin_is =
      let names_are : c.as_slice.result.now ≡ names_of (arc_value c.args.job).interfaces =
      c.as_slice.ensures.value ∙ c.in_ok-names.ensures ∙ ap names_of (rw (c.interfaces.ensures, c.deref-2.ensures) refl) in
      ap (λ (q : Queued). q.origin) c.new-telling.ensures.queue
      ∙ rw names_are (rw (c.checksum.ensures, c.text.ensures, c.deref-3.ensures, c.rules-rules.ensures, c.deref.ensures) refl);
  tells = (ap (λ (q : Queued). q.entries) c.new-telling.ensures.queue, λ some. ap (λ (q : Queued). q.clock) c.new-telling.ensures.queue);
  told = record {
    of_packets = λ k d below. absurd (omega (arith, below));
    numbers = λ k d below. absurd (omega (arith, below));
    clocks = λ k d below. absurd (omega (arith, below));
    gone = λ (event : Event) state at. absurd (in_none event at);
  };
}
