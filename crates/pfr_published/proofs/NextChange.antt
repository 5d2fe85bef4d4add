-- A list that is longer by one change goes on with the next one.
use Rattle.std.proofs.Common.{◌≡◌, ℕ, ◌-◌, ◌+◌, ◌<◌, ◌==◌, List, ◌++◌, if◌then◌else◌, length, length-append, ap, ◌∙◌, arith}
use Rattle.pfr_states.specs.declared.change.Change.{Change}
use Rattle.pfr_published.specs.declared.copy.Progress.{Progress}
use Rattle.pfr_published.specs.Entries.{entry_at}
use Rattle.pfr_published.specs.Steps.{with_next}
use Rattle.pfr_published.proofs.Entries.{length_is}

module _ (before : Progress) (list longer : List Change) (same : before.changes ≡ list) (items : List Change) (i : ℕ)
    (inside : i < length items) (grown : longer ≡ list ++ entry_at items i) where
  one_more : length longer - length before.changes ≡ 1
  one_more =
      let whole : length longer ≡ length list + length (entry_at items i) = ap length grown ∙ length-append list (entry_at items i) in
      let begun : length before.changes ≡ length list = ap length same in
      omega (arith, whole, begun, length_is items i inside)

  pub next_is : with_next before longer ≡ record { changes = longer; is_shown = before.is_shown }
  next_is =
      let taken : Progress = record { changes = longer; is_shown = before.is_shown } in
      ap (λ (n : ℕ). if n == 1 then taken else before) one_more
