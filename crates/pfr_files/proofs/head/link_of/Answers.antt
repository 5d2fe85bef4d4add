use Rattle.std.proofs.Common.{Some, drop, refl, sym, ap, ◌∙◌}
use Rattle.pfr_capture.specs.Header.{opening_of}
use Rattle.pfr_files.proofs.HeadLemmas.{opened}
use Rattle.pfr_files.specs.Heads.{link_said}
use Rattle.pfr_files.proofs.head.link_of.Goals as goal

pub returns-in-Ok : goal.returns-in-Ok
returns-in-Ok c =
    let says = opened _ _ c.in-Ok.capture (c.in-Ok.ensures.opens refl) in
    ap (λ form. Some form.link) c.form.ensures
    ∙ sym (ap (λ said. link_said said) says)
    ∙ ap (λ memory. link_said (opening_of (drop memory.place memory.bytes))) c.new.ensures
