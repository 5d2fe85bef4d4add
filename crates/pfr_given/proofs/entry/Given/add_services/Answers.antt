use Rattle.std.proofs.Common.{rules, ◌≡◌, ◌∙◌, ◌++◌, ap, drop, length, sym}
use Rattle.std.proofs.lemmas.List.{append-nil}
use Rattle.pfr_given.specs.Services.{added, service_line, services_behind, words_of}
use Rattle.pfr_given.proofs.FileLemmas.{no_services, one_service}
use Rattle.pfr_given.proofs.ServiceLemmas.{next_service, start_within}
use Rattle.pfr_given.proofs.entry.Given.add_services.Goals as goal

pub loop-rest-preserved : goal.loop-rest-preserved
loop-rest-preserved c =
    let entries = c.loop-rest.self.entries in
    let found = service_line c.cut_at.result.0.now in (
      rw (c.in_ok-group.ensures.group, c.in_ok-group.ensures.entries, c.cut_at.ensures.behind, c.cut_at.ensures.front)
          (next_service entries c.loop-rest.group _ _ c.loop-rest.invariant.1
          ∙ (ap (λ services. entries ++ services_behind c.loop-rest.group.port (words_of (drop c.loop-rest.group.start entries)) services) (one_service c.loop-rest.rest.now) ∙ c.loop-rest.invariant.0)),
      rw (c.in_ok-group.ensures.group, c.in_ok-group.ensures.entries) (start_within entries (added c.loop-rest.group entries found) c.loop-rest.group found c.loop-rest.invariant.1),
    )

pub returns : goal.returns
returns c =
    let entries = c.loop-rest.self.entries in
    let none : length c.loop-rest.rest.now ≡ 0 = search rules in
    sym (append-nil entries)
    ∙ (ap (λ services. entries ++ services_behind c.loop-rest.group.port (words_of (drop c.loop-rest.group.start entries)) services) (sym (no_services c.loop-rest.rest.now none)) ∙ c.loop-rest.invariant.0)
