use Rattle.std.proofs.Common.{◌≡◌, drop}
use Rattle.pfr_include.specs.Splicing as spec
use Rattle.pfr_include.proofs.splicing.Made.keep.Given as goal

abbrev pub invariant-loop-byte : goal.invariant-loop-byte
invariant-loop-byte l =
    spec.with_lines l.self l.lines l.file l.last (drop l.byte-index l.bytes) ≡ spec.with_kept l.fn.self l.lines l.file l.line l.bytes
