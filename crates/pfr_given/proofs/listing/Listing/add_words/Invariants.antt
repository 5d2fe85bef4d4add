use Rattle.std.proofs.Common.{◌≡◌, length}
use Rattle.pfr_given.specs.Listings.{with_texts}
use Rattle.pfr_given.specs.Texts.{words}
use Rattle.pfr_given.proofs.listing.Listing.add_words.Given as goal

abbrev pub invariant-loop-word : goal.invariant-loop-word
invariant-loop-word l = with_texts l.self (words l.rest) ≡ with_texts l.fn.self (words l.text)

abbrev pub decreases-loop-word : goal.decreases-loop-word
decreases-loop-word l = length l.rest
