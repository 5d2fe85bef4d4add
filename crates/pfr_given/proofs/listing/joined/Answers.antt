use Rattle.std.proofs.Common.{rules, ◌≡◌, ◌≤◌, ◌∙◌, ◌++◌, [], ap, drop, length, map, sym}
use Rattle.std.specs.List.{filter}
use Rattle.std.proofs.lemmas.List.{drop_all}
use Rattle.pfr_given.specs.Entries.{is_for, texts_of}
use Rattle.pfr_given.specs.Listings.{with_texts}
use Rattle.pfr_given.proofs.ListingLemmas.{all_texts}
use Rattle.pfr_given.proofs.listing.joined.Goals as goal

pub returns : goal.returns
unfolding texts_of
returns c =
    let texts = map (λ e. e.text) (filter (is_for c.args.subject (c.args.word.now ++ c.args.suffix.now)) c.args.given.now.entries) in
    let all : length c.args.given.now.entries ≤ c.loop-entry.entry-index = search rules in
    let gone : drop c.loop-entry.entry-index c.args.given.now.entries ≡ [] = drop_all c.loop-entry.entry-index c.args.given.now.entries all in
    ap (λ listing. listing.text)
    (ap (λ rest. with_texts c.loop-entry.listing (map (λ e. e.text) (filter (is_for c.args.subject (c.args.word.now ++ c.args.suffix.now)) rest))) (sym gone) ∙ c.loop-entry.invariant)
    ∙ all_texts texts
