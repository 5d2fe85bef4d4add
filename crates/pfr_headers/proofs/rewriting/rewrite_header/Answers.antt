use Rattle.std.proofs.Common.{rules}
use Rattle.pfr_headers.specs.Rewriting.{header_words}
use Rattle.pfr_headers.proofs.WordLemmas.{address_kept}
use Rattle.pfr_headers.proofs.rewriting.rewrite_header.Goals as goal

pub returns-clause-addresses : goal.returns-clause-addresses
unfolding header_words
returns-clause-addresses c = search (rules, address_kept)
