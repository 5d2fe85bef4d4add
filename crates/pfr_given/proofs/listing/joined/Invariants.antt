use Rattle.std.proofs.Common.{◌≡◌, ◌++◌, drop, map}
use Rattle.std.specs.List.{filter}
use Rattle.pfr_given.specs.Entries.{is_for}
use Rattle.pfr_given.specs.Listings.{nothing, with_texts}
use Rattle.pfr_given.proofs.listing.joined.Given as goal

abbrev pub invariant-loop-entry : goal.invariant-loop-entry
invariant-loop-entry l =
    with_texts l.listing (map (λ e. e.text) (filter (is_for l.subject (l.word ++ l.suffix)) (drop l.entry-index l.given.entries)))
    ≡ with_texts nothing (map (λ e. e.text) (filter (is_for l.subject (l.word ++ l.suffix)) l.given.entries))
