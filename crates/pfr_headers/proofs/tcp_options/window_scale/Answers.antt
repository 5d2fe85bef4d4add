use Rattle.std.proofs.Common.{◌≡◌, ◌-◌, ◌∙◌, ap, sym, false, length, take, drop, List, ℕ}
use Rattle.std.proofs.lemmas.List.{take_rest}
use Rattle.pfr_headers.specs.TcpOptions.{ends, is_scale, option_length, scale_of}
use Rattle.pfr_headers.proofs.OptionLemmas.{scale_next}
use Rattle.pfr_headers.proofs.tcp_options.window_scale.Goals as goal

pub loop-rest-preserved : goal.loop-rest-preserved
loop-rest-preserved c =
    let on : ends c.loop-rest.rest.now ≡ false = cc in
    let other : is_scale c.loop-rest.rest.now ≡ false = cc in
    let step = scale_next c.loop-rest.rest.now on other in
    let left : take (length c.loop-rest.rest.now - c.option_length.result) (drop c.option_length.result c.loop-rest.rest.now) ≡ drop (option_length c.loop-rest.rest.now) c.loop-rest.rest.now =
    take_rest c.loop-rest.rest.now c.option_length.result ∙ ap (λ (k : ℕ). drop k c.loop-rest.rest.now) c.option_length.ensures.length in
    record { same = c.loop-rest.invariant.same ∙ step ∙ ap (λ (t : List ℕ). scale_of t) (sym left) }
