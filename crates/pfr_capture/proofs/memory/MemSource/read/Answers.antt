use Rattle.std.proofs.Common.{◌≡◌, ◌-◌, ◌+◌, ◌≤◌, List, ℕ, length, sym, ap, ◌∙◌, take, drop, arith}
use Rattle.pfr_capture.specs.Memory.{Memory}
use Rattle.pfr_capture.proofs.ListLemmas.{next_piece}
use Rattle.pfr_capture.proofs.memory.MemSource.read.Goals as goal

pub returns-clause-unread : goal.returns-clause-unread
returns-clause-unread c =
    let bytes : c.args.self.now.bytes ≡ c.self.inside.bytes.items =
    sym (ap (λ (m : Memory). m.bytes) c.self.view_is ∙ ap (λ (m : Memory). m.bytes) c.fails_now.ensures.counted) in
    let place : c.args.self.now.place ≡ c.self.inside.place =
    sym (ap (λ (m : Memory). m.place) c.self.view_is ∙ ap (λ (m : Memory). m.place) c.fails_now.ensures.counted) in
    let count : c.self.inside.place + c.min-count.result - c.self.inside.place ≡ c.min-count.result = omega arith in
    let within : c.min-count.result + c.self.inside.place ≤ length c.self.inside.bytes.items = omega arith in
    let copied = c.copy_from_slice.ensures.after ∙ ap (λ (n : ℕ). take n (drop c.self.inside.place c.deref.result.now)) count
    ∙ ap (λ (xs : List ℕ). take c.min-count.result (drop c.self.inside.place xs)) c.deref.ensures.value in
    rw (bytes, place)
    (next_piece c.self.inside.bytes.items c.copy_from_slice.new.self _ c.self.inside.place c.min-count.result within copied)
