use Rattle.std.proofs.Common.{rules, ◌≡◌, ◌∙◌, ◌++◌, ap, length, sym}
use Rattle.std.proofs.lemmas.List.{append_assoc, append-nil}
use Rattle.pfr_given.proofs.FileLemmas.{no_hosts, one_host}
use Rattle.pfr_given.proofs.entry.Given.add_hosts.Goals as goal

pub loop-rest-preserved : goal.loop-rest-preserved
loop-rest-preserved c =
    rw (c.in_ok-add_host.ensures, c.cut_at.ensures.front, c.cut_at.ensures.behind)
    (append_assoc c.loop-rest.self.entries _ _ ∙ (ap (λ more. c.loop-rest.self.entries ++ more) (one_host c.loop-rest.rest.now) ∙ c.loop-rest.invariant))

pub returns : goal.returns
returns c =
    let none : length c.loop-rest.rest.now ≡ 0 = search rules in
    sym (append-nil c.loop-rest.self.entries) ∙ (ap (λ more. c.loop-rest.self.entries ++ more) (sym (no_hosts c.loop-rest.rest.now none)) ∙ c.loop-rest.invariant)
