use Rattle.std.proofs.Common.{◌≡◌, length}
use Rattle.pfr_headers.specs.TcpOptions.{scale_of}
use Rattle.pfr_headers.proofs.tcp_options.window_scale.Given as goal

abbrev pub invariant-loop-rest : goal.invariant-loop-rest
invariant-loop-rest l = record {
  same : scale_of l.options ≡ scale_of l.rest;
}

abbrev pub decreases-loop-rest : goal.decreases-loop-rest
decreases-loop-rest l = length l.rest
