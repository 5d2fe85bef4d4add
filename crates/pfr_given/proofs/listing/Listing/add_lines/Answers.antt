use Rattle.std.proofs.Common.{rules, ◌≡◌, ◌∙◌, ap, length, sym}
use Rattle.std.specs.List.{before_first, after_first}
use Rattle.pfr_given.specs.declared.parts.Part.TheVariants as part
use Rattle.pfr_given.specs.Texts.{ends, plain_words}
use Rattle.pfr_given.specs.Files.{table_words}
use Rattle.pfr_given.specs.Listings.{with_texts}
use Rattle.pfr_given.proofs.FileLemmas.{no_table, one_table_line}
use Rattle.pfr_given.proofs.ListingLemmas.{more_texts}
use Rattle.pfr_given.proofs.listing.Listing.add_lines.Goals as goal

pub loop-rest-preserved : goal.loop-rest-preserved
loop-rest-preserved c =
    rw (c.in_ok-add_words.ensures, c.front_of.ensures, c.cut_at.ensures.front, c.cut_at.ensures.behind)
    (more_texts c.loop-rest.self
    (plain_words part.PlainOfTable (before_first (ends part.Line) c.loop-rest.rest.now)) (table_words (after_first (ends part.Line) c.loop-rest.rest.now))
    ∙ (ap (λ texts. with_texts c.loop-rest.self texts) (one_table_line c.loop-rest.rest.now) ∙ c.loop-rest.invariant))

pub returns : goal.returns
returns c =
    let none : length c.loop-rest.rest.now ≡ 0 = search rules in
    ap (λ texts. with_texts c.loop-rest.self texts) (sym (no_table c.loop-rest.rest.now none)) ∙ c.loop-rest.invariant
