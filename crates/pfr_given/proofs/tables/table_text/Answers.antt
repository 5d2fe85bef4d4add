use Rattle.pfr_given.specs.Files.{table_words}
use Rattle.pfr_given.proofs.ListingLemmas.{all_texts}
use Rattle.pfr_given.proofs.tables.table_text.Goals as goal

pub returns : goal.returns
returns c = rw (c.in_ok-add_lines.ensures, c.new-listing.ensures) (all_texts (table_words c.args.text.now))
