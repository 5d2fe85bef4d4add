use Rattle.std.proofs.Common.{◌≡◌, length}
use Rattle.pfr_given.specs.Files.{table_words}
use Rattle.pfr_given.specs.Listings.{with_texts}
use Rattle.pfr_given.proofs.listing.Listing.add_lines.Given as goal

abbrev pub invariant-loop-rest : goal.invariant-loop-rest
invariant-loop-rest l = with_texts l.self (table_words l.rest) ≡ with_texts l.fn.self (table_words l.text)

abbrev pub decreases-loop-rest : goal.decreases-loop-rest
decreases-loop-rest l = length l.rest
