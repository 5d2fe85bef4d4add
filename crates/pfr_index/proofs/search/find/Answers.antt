-- What a search of both parts of the slots comes to holds of all of them.
use Rattle.std.proofs.lemmas.List.{take_rest}
use Rattle.pfr_index.proofs.FindLemmas.{found_early, found_late, none_all, none_early, none_late}
use Rattle.pfr_index.proofs.search.find.Goals as goal

pub returns-in-At-clause-some : goal.returns-in-At-clause-some
returns-in-At-clause-some g c =
    found_late
    (goal.F-post g c.args.is_it.now)
    c.args.hash
    c.args.slots.now
    c.home-home.result
    c.home-home.ensures.within
    c.in-At.place
    (rw (take_rest c.args.slots.now c.home-home.result) at c.in-At.ensures)

pub returns-in-Nowhere-clause-none : goal.returns-in-Nowhere-clause-none
returns-in-Nowhere-clause-none g c =
    none_late
    (goal.F-post g c.args.is_it.now)
    c.args.hash
    c.args.slots.now
    c.home-home.result
    c.home-home.ensures.within
    c.requires.reached
    c.home-home.ensures.is
    (rw (take_rest c.args.slots.now c.home-home.result) at c.in-Nowhere.ensures)

pub returns-in-At-search-clause-some : goal.returns-in-At-search-clause-some
returns-in-At-search-clause-some g c =
    found_early (goal.F-post g c.args.is_it.now) c.args.hash c.args.slots.now c.home-home.result c.home-home.ensures.within c.in-At-search.place c.in-At-search.ensures

pub returns-in-Nowhere-search-clause-none : goal.returns-in-Nowhere-search-clause-none
returns-in-Nowhere-search-clause-none g c =
    none_early
    (goal.F-post g c.args.is_it.now)
    c.args.hash
    c.args.slots.now
    c.home-home.result
    c.home-home.ensures.within
    c.requires.reached
    c.home-home.ensures.is
    (rw (take_rest c.args.slots.now c.home-home.result) at c.in-NotYet.ensures)
    c.in-Nowhere-search.ensures

pub returns-in-NotYet-search-clause-none : goal.returns-in-NotYet-search-clause-none
returns-in-NotYet-search-clause-none g c =
    none_all
    (goal.F-post g c.args.is_it.now)
    c.args.hash
    c.args.slots.now
    c.home-home.result
    c.home-home.ensures.within
    (rw (take_rest c.args.slots.now c.home-home.result) at c.in-NotYet.ensures)
    c.in-NotYet-search.ensures
