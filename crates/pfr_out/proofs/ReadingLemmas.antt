-- What holds of every continuation of the bytes that were read.
use Rattle.std.proofs.Common.{◌≡◌, ◌∙◌, ℕ, List, length, map, sym, ap}
use Rattle.std.proofs.lemmas.List.{length-map, map-append}
use Rattle.pfr_commit.specs.World.{Frame}
use Rattle.pfr_merge.specs.Arrivals.{Arrived}
use Rattle.pfr_merge.specs.MergeReading.{HasMerged, MayFollowAll, Waiting, header_in, joined}
use Rattle.pfr_merge.specs.MergedCaptures.{TextsGive, has_ended}
use Rattle.pfr_merge.proofs.ListLemmas.{continue_long, continue_on, follow_long, front_of, headers_are, opened_longer, reads_opened}
use Rattle.pfr_merge.proofs.MergeReadingLemmas.{joined_assoc}
use Rattle.pfr_feed.specs.Captures.{BeginWith, End, frame_in}
use Rattle.pfr_feed.specs.Reading.{AllGave}
use Rattle.pfr_out.specs.Replay.{OfEvery}

-- What holds of the headers of a merge's captures, and of all packets that begin with those given, if more of the sources was read since.
pub of_every : (ws : List Waiting) (texts reads laters lefts : List (List ℕ)) (list : List Arrived) (P : List (List ℕ) → List Frame → End → Type 0) → texts ≡ joined reads laters → AllGave laters lefts → HasMerged ws reads list → MayFollowAll ws laters
    → ((frames : List Frame) (ending : End) → BeginWith (map frame_in list) frames → P (map header_in ws) frames ending) → OfEvery texts lefts P
of_every ws texts reads laters lefts list P are gave has follow p =
    let laters_long = follow_long ws laters follow in
    let flags_long = length-map ws has_ended in
    record {
      reads = joined reads gave.came;
      are = are ∙ ap (joined reads) gave.gave ∙ sym (joined_assoc reads gave.came lefts);
      opened = opened_longer reads gave.came (reads_opened 0 ws reads has.taken has.each);
      ended = map has_ended ws;
      long = flags_long ∙ sym laters_long ∙ sym gave.long;
      every = λ mores frames ending may captures.
          let joins_long : length (joined gave.came lefts) ≡ length (map has_ended ws) = ap (λ (ls : List (List ℕ)). length ls) (sym gave.gave) ∙ laters_long ∙ sym flags_long in
          let on = continue_on (map has_ended ws) gave.came lefts mores joins_long may in
          let later_may = rw (← gave.gave) at on in
          let texts_are = joined_assoc reads gave.came mores in
          let give : TextsGive (joined reads (joined gave.came mores)) captures.list ending = rw texts_are at captures.give in
          let front = front_of ws reads laters (joined gave.came mores) list captures.list ending has follow later_may give in
          let more_long = continue_long (map has_ended ws) laters (joined gave.came mores) later_may ∙ laters_long in
          let begins : BeginWith (map frame_in list) frames = (map frame_in front.0, captures.frames_are ∙ ap (map frame_in) front.1 ∙ map-append frame_in list front.0) in
          rw (texts_are, headers_are 0 ws reads (joined gave.came mores) has.taken has.each more_long) (p frames ending begins);
    }
