-- How far a run has come that reads ahead.
use Rattle.std.proofs.Common.{◌≡◌, ◌∙◌, ◌+◌, ◌≤◌, ℕ, suc, Bool, false, List, [], ◌∷◌, ◌++◌, length, map, Option, Some, None, ◌⊎◌, Ok, Err, inl, inr, refl, sym, ap, subst, arith}
use Rattle.std.specs.Prelude.{⊤}
use Rattle.std.specs.List.{flat_map, sum_by}
use Rattle.std.proofs.Math.Nat.{suc-mul, zero-mul}
use Rattle.std.proofs.lemmas.Grind.{flat_map-append}
use Rattle.std.proofs.lemmas.List.{append_assoc, append-nil, length-map}
use Rattle.std.proofs.lemmas.List.Sums.{sum_by-append, sum_by-cons}
use Rattle.pfr_capture.specs.declared.capture.CaptureError.TheVariants as refusal
use Rattle.pfr_capture.specs.declared.capture.Record.{Record}
use Rattle.pfr_commit.specs.Emissions.{frame_of}
use Rattle.pfr_commit.specs.World.{Frame, World, opening, world_after, world_of}
use Rattle.pfr_merge.specs.MergeReading.{HasMerged, LacksRecordAt, MayFollowAll, StopsAt, Waiting, header_in, joined}
use Rattle.pfr_feed.specs.declared.report.Output.{Output}
use Rattle.pfr_feed.specs.declared.report.Stop.TheVariants as stop
use Rattle.pfr_out.specs.declared.sinks.Sinks.{Sinks}
use Rattle.pfr_feed.specs.Captures.{CapturesGive, End}
use Rattle.pfr_out.specs.Outputs.{Grew, Outputs, PartWritten, headers_alone, texts_alone}
use Rattle.pfr_feed.specs.Reading.{AllGave, BatchSays, wants_memory}
use Rattle.pfr_out.specs.Replay.{Holds, HoldsAll, HoldsAllRead, IsBoundary, OfEvery, Stopped}
use Rattle.pfr_out.specs.Spelling.{Run}
use Rattle.pfr_out.specs.Taking.{Add}
use Rattle.pfr_feed.proofs.ReadingLemmas.{gave_nothing}
use Rattle.pfr_out.proofs.RunLemmas.{Ended, SoFar, Took, all_leave, at_start, batch_given, batch_taken, counted_by, frames_of, give_all, give_too_long, holds_all_read, holds_part_of_batch, holds_so_far, says_on}

-- ---- batches that wait

-- the last batch may have less than the most records: the reading ended with it
pub record MayBeShort (end : Option End) : Type 0 where
  pub over : end ≡ None → ⊥
  pub other : wants_memory end ≡ false

-- batches that wait for being taken: each has the most records, but perhaps the last one
abbrev pub AreFull : ℕ → Option End → List (List Record) → Type 0
AreFull most end [] = ⊤
AreFull most end (batch ∷ later) = ((length batch ≡ most) ⊎ ((later ≡ []) × (length batch ≤ most) × MayBeShort end)) × AreFull most end later

-- whole batches were taken, or all records up to the end of the reading
abbrev pub IsHead : ℕ → ℕ → List (List Record) → Option End → Type 0
IsHead most count waiting end = IsBoundary most count ⊎ ((waiting ≡ []) × MayBeShort end)

more_batches : (most before after : ℕ) → IsBoundary most before → after ≡ before + most → IsBoundary most after
more_batches most before after boundary is =
    let next : boundary.0 + 1 ≡ suc boundary.0 = omega arith in
    (boundary.0 + 1, is ∙ ap (λ (n : ℕ). n + most) boundary.1 ∙ (rw next (sym (suc-mul boundary.0 most))))

pub first_head : (most : ℕ) (end : Option End) → IsHead most 0 [] end
first_head most end = inl (0, sym (zero-mul most))

-- one batch more is given
pub full_more : (most : ℕ) (end : Option End) (waiting : List (List Record)) (batch : List Record) → AreFull most None waiting → length batch ≤ most → (end ≡ None → length batch ≡ most) → wants_memory end ≡ false → AreFull most end (waiting ++ batch ∷ [])
full_more most None [] batch full few whole other = (inl (whole refl), tt)
full_more most (Some end) [] batch full few whole other = (inr (refl, few, record { over = λ is. cc is; other = other }), tt)
full_more most end (first ∷ waiting) batch full few whole other = (
  elim full.0 [ inl is ↦ inl is | inr short ↦ absurd (short.2.over refl) ],
  full_more most end waiting batch full.1 few whole other,
)

-- the reading ends
pub full_over : (most : ℕ) (end : Option End) (waiting : List (List Record)) → AreFull most None waiting → AreFull most end waiting
full_over most end [] full = tt
full_over most end (first ∷ waiting) full = (elim full.0 [ inl is ↦ inl is | inr short ↦ absurd (short.2.over refl) ], full_over most end waiting full.1)

-- the first one has at most `most` records
pub full_few : (most : ℕ) (end : Option End) (first : List Record) (later : List (List Record)) → AreFull most end (first ∷ later) → length first ≤ most
full_few most end first later full = elim full.0 [ inl is ↦ omega (arith, is) | inr short ↦ short.1 ]

-- as long as a batch waits, whole batches were taken
pub head_waits : (most count : ℕ) (first : List Record) (later : List (List Record)) (end : Option End) → IsHead most count (first ∷ later) end → IsBoundary most count
head_waits most count first later end (inl boundary) = boundary
head_waits most count first later end (inr over) = absurd (cc over.0)

-- the first one is taken
pub head_took : (most count after : ℕ) (first : List Record) (later : List (List Record)) (end : Option End) → AreFull most end (first ∷ later) → IsHead most count (first ∷ later) end → after ≡ count + length first → IsHead most after later end
head_took most count after first later end full head is = elim full.0 [
  | inl whole ↦ inl (more_batches most count after (head_waits most count first later end head) (is ∙ ap (λ (n : ℕ). count + n) whole))
  | inr short ↦ inr (short.0, short.2)
]

-- the reading goes on, or a batch waits: another one may wait after it
pub head_gave : (most count : ℕ) (waiting waiting' : List (List Record)) (end : Option End) → IsHead most count waiting None → IsHead most count waiting' end
head_gave most count waiting waiting' end (inl boundary) = inl boundary
head_gave most count waiting waiting' end (inr over) = absurd (over.1.over refl)

-- the packets of batches
abbrev pub all_of : List (List Record) → List Frame
all_of batches = flat_map frames_of batches

all_more : (waiting : List (List Record)) (batch : List Record) → all_of (waiting ++ batch ∷ []) ≡ all_of waiting ++ frames_of batch
all_more waiting batch = flat_map-append frames_of waiting (batch ∷ []) ∙ ap (λ (frames : List Frame). all_of waiting ++ frames) (append-nil (frames_of batch))

-- how many records wait
abbrev pub waits : List (List Record) → ℕ
waits waiting = sum_by (λ batch. length batch) waiting

pub waits_more : (waiting : List (List Record)) (batch : List Record) → waits (waiting ++ batch ∷ []) ≡ waits waiting + length batch
waits_more waiting batch =
    let sum = sum_by-append (λ (batch : List Record). length batch) waiting (batch ∷ []) in
    let last = sum_by-cons (λ (batch : List Record). length batch) batch [] in
    sum ∙ omega (arith, last)

pub waits_first : (batch : List Record) (later : List (List Record)) → waits (batch ∷ later) ≡ length batch + waits later
waits_first batch later = sum_by-cons (λ (batch : List Record). length batch) batch later

-- ---- the merge

-- what is known of the texts after all packets that a merge gave, by how the reading has ended
abbrev pub Knows : (known merge : List Waiting) → (texts laters lefts : List (List ℕ)) → List Frame → Option End → Type 0
Knows known merge texts laters lefts all None = (known ≡ merge) × (laters ≡ lefts)
Knows known merge texts laters lefts all (Some (Ok tail)) = (laters ≡ lefts) × CapturesGive texts all (Ok tail)
Knows known merge texts laters lefts all (Some (Err (place, refusal.Read))) = (laters ≡ lefts) × StopsAt known (place, refusal.Read) × LacksRecordAt known (place, refusal.Read)
Knows known merge texts laters lefts all (Some (Err (place, refusal.Memory))) = ⊤
Knows known merge texts laters lefts all (Some (Err (place, refusal.RecordTooLong asked))) = (laters ≡ lefts) × CapturesGive texts all (Err (place, refusal.RecordTooLong asked))
Knows known merge texts laters lefts all (Some (Err (place, e))) = ⊥

-- The batches that were taken are written, and others wait after them. If memory was refused to the merge, it may since have read on.
pub record Ahead (run : Run) (merge : List Waiting) (texts lefts : List (List ℕ)) (told : Sinks Bool) (old new : Outputs) (world : World) (waiting : List (List Record)) (end : Option End) : Type 0 where
  pub taken : List Frame
  pub known : List Waiting
  pub laters : List (List ℕ)
  pub so_far : SoFar run known texts laters told old new world taken (all_of waiting)
  pub gave : AllGave laters lefts
  pub knows : Knows known merge texts laters lefts (taken ++ all_of waiting) end

-- nothing was given yet, and the headers were written
pub ahead_first : (run : Run) (merge : List Waiting) (reads lefts : List (List ℕ)) (told : Sinks Bool) (old new : Outputs) → HasMerged merge reads [] → MayFollowAll merge lefts → Grew told old new (headers_alone (map header_in merge))
    → Ahead run merge (joined reads lefts) lefts told old new (opening run.job) [] None
ahead_first run merge reads lefts told old new has follow grew = record {
  taken = [];
  known = merge;
  laters = lefts;
  so_far = at_start run merge reads lefts told old new has follow grew;
  gave = gave_nothing lefts;
  knows = (refl, refl);
}

-- the merge gave more, and what is known then
record Further (run : Run) (merge' : List Waiting) (texts lefts' : List (List ℕ)) (told : Sinks Bool) (old new : Outputs) (world : World) (taken all : List Frame) (end : Option End) : Type 0 where
  so_far : SoFar run merge' texts lefts' told old new world taken all
  knows : Knows merge' merge' texts lefts' lefts' (taken ++ all) end

further : (run : Run) (merge merge' : List Waiting) (texts lefts lefts' : List (List ℕ)) (told : Sinks Bool) (old new : Outputs) (world : World) (taken ahead : List Frame) (records : List Record) (end : Option End)
    → SoFar run merge texts lefts told old new world taken ahead → wants_memory end ≡ false → BatchSays merge merge' lefts lefts' records end → map header_in merge' ≡ map header_in merge
    → Further run merge' texts lefts' told old new world taken (ahead ++ frames_of records) end
further run merge merge' texts lefts lefts' told old new world taken ahead records end s other says same =
    let now = batch_given run merge merge' texts lefts lefts' told old new world taken ahead records s (says_on merge merge' lefts lefts' records end other says) same in
    record { so_far = now; knows = by_end now end other says }
  where
    by_end : SoFar run merge' texts lefts' told old new world taken (ahead ++ frames_of records) → (end : Option End) → wants_memory end ≡ false → BatchSays merge merge' lefts lefts' records end
        → Knows merge' merge' texts lefts' lefts' (taken ++ (ahead ++ frames_of records)) end
    by_end now None other says = (refl, refl)
    by_end now (Some (Ok tail)) other says = (refl, give_all run merge' texts lefts' told old new world taken (ahead ++ frames_of records) now tail says.1 says.2)
    by_end now (Some (Err (place, refusal.Read))) other says = (refl, says.1, says.2)
    by_end now (Some (Err (place, refusal.Memory))) other says = absurd (cc other)
    by_end now (Some (Err (place, refusal.RecordTooLong asked))) other says = (refl, give_too_long run merge' texts lefts' told old new world taken (ahead ++ frames_of records) now place asked says.1)
    by_end now (Some (Err (place, refusal.HeaderCut))) other says = absurd says
    by_end now (Some (Err (place, refusal.BadMagic))) other says = absurd says
    by_end now (Some (Err (place, refusal.BadVersion))) other says = absurd says
    by_end now (Some (Err (place, refusal.LinkType link))) other says = absurd says

-- as long as the reading goes on, all is known of the merge
here : (run : Run) (merge : List Waiting) (texts lefts : List (List ℕ)) (told : Sinks Bool) (old new : Outputs) (world : World) (waiting : List (List Record)) (a : Ahead run merge texts lefts told old new world waiting None)
    → SoFar run merge texts lefts told old new world a.taken (all_of waiting)
here run merge texts lefts told old new world waiting a =
    subst (λ (ws : List Waiting). SoFar run ws texts lefts told old new world a.taken (all_of waiting)) a.knows.0
    (subst (λ (ls : List (List ℕ)). SoFar run a.known texts ls told old new world a.taken (all_of waiting)) a.knows.1 a.so_far)

-- a batch was given
pub ahead_gave : (run : Run) (merge merge' : List Waiting) (texts lefts lefts' : List (List ℕ)) (told : Sinks Bool) (old new : Outputs) (world : World) (waiting : List (List Record)) (packets : List Record) (end : Option End)
    → Ahead run merge texts lefts told old new world waiting None → wants_memory end ≡ false → BatchSays merge merge' lefts lefts' packets end
    → map header_in merge' ≡ map header_in merge → Ahead run merge' texts lefts' told old new world (waiting ++ packets ∷ []) end
ahead_gave run merge merge' texts lefts lefts' told old new world waiting packets end a other says same =
    let f = further run merge merge' texts lefts lefts' told old new world a.taken (all_of waiting) packets end (here run merge texts lefts told old new world waiting a) other says same in
    record {
      taken = a.taken;
      known = merge';
      laters = lefts';
      so_far = rw (all_more waiting packets) f.so_far;
      gave = gave_nothing lefts';
      knows = rw (all_more waiting packets) f.knows;
    }

-- the reading ended, and no record more was given
pub ahead_ended : (run : Run) (merge merge' : List Waiting) (texts lefts lefts' : List (List ℕ)) (told : Sinks Bool) (old new : Outputs) (world : World) (waiting : List (List Record)) (end : End)
    → Ahead run merge texts lefts told old new world waiting None → BatchSays merge merge' lefts lefts' [] (Some end) → map header_in merge' ≡ map header_in merge
    → Ahead run merge' texts lefts' told old new world waiting (Some end)
ahead_ended run merge merge' texts lefts lefts' told old new world waiting end a says same = by_end end says
  where
    -- all is known then
    known : (end : End) → wants_memory (Some end) ≡ false → BatchSays merge merge' lefts lefts' [] (Some end) → Ahead run merge' texts lefts' told old new world waiting (Some end)
    known end other says =
        let f = further run merge merge' texts lefts lefts' told old new world a.taken (all_of waiting) [] (Some end) (here run merge texts lefts told old new world waiting a) other says same in
        record {
          taken = a.taken;
          known = merge';
          laters = lefts';
          so_far = rw (append-nil (all_of waiting)) at f.so_far;
          gave = gave_nothing lefts';
          knows = subst (λ (all : List Frame). Knows merge' merge' texts lefts' lefts' (a.taken ++ all) (Some end)) (append-nil (all_of waiting)) f.knows;
        }

    by_end : (end : End) → BatchSays merge merge' lefts lefts' [] (Some end) → Ahead run merge' texts lefts' told old new world waiting (Some end)
    by_end (Ok tail) says = known (Ok tail) refl says
    by_end (Err (place, refusal.Read)) says = known (Err (place, refusal.Read)) refl says
    by_end (Err (place, refusal.Memory)) says = record {
      taken = a.taken;
      known = merge;
      laters = lefts;
      so_far = here run merge texts lefts told old new world waiting a;
      gave = says;
      knows = tt;
    }
    by_end (Err (place, refusal.RecordTooLong asked)) says = known (Err (place, refusal.RecordTooLong asked)) refl says
    by_end (Err (place, refusal.HeaderCut)) says = absurd says
    by_end (Err (place, refusal.BadMagic)) says = absurd says
    by_end (Err (place, refusal.BadVersion)) says = absurd says
    by_end (Err (place, refusal.LinkType link)) says = absurd says

-- the first batch that waits was taken and written
pub ahead_took : (run : Run) (merge : List Waiting) (texts lefts : List (List ℕ)) (told : Sinks Bool) (old mid new : Outputs) (world : World) (packets : List Record) (waiting : List (List Record)) (end : Option End)
    → Ahead run merge texts lefts told old mid world (packets ∷ waiting) end → Took run told mid new world packets → Ahead run merge texts lefts told old new (world_after run.job world (frames_of packets)) waiting end
ahead_took run merge texts lefts told old mid new world packets waiting end a took = record {
  taken = a.taken ++ frames_of packets;
  known = a.known;
  laters = a.laters;
  so_far = batch_taken run a.known texts a.laters told old mid new world a.taken (all_of waiting) packets a.so_far took;
  gave = a.gave;
  knows = subst (λ (all : List Frame). Knows a.known merge texts a.laters lefts all end)
      (sym (append_assoc a.taken (frames_of packets) (all_of waiting))) a.knows;
}

-- ---- stops

-- whole batches were taken
whole_batches : (run : Run) (most : ℕ) (merge : List Waiting) (texts lefts : List (List ℕ)) (told : Sinks Bool) (old new : Outputs) (world : World) (waiting : List (List Record)) (end : Option End) → Ahead run merge texts lefts told old new world waiting end → IsBoundary most world.count
    → OfEvery texts lefts (λ headers frames ending. Holds run most told old new world.count headers frames)
whole_batches run most merge texts lefts told old new world waiting end a boundary =
    let count = counted_by run a.known texts a.laters told old new world a.taken (all_of waiting) a.so_far in
    holds_so_far run most a.known texts a.laters lefts told old new world a.taken (all_of waiting) world.count a.so_far a.gave (rw count boundary) count

-- with nothing that waits
alone : (run : Run) (merge : List Waiting) (texts lefts : List (List ℕ)) (told : Sinks Bool) (old new : Outputs) (world : World) (end : Option End) (a : Ahead run merge texts lefts told old new world [] end) → SoFar run a.known texts a.laters told old new world a.taken []
alone run merge texts lefts told old new world end a = a.so_far

-- all packets of captures were taken, up to their end or to a record that is too long
all_taken : (run : Run) (merge : List Waiting) (texts lefts : List (List ℕ)) (told : Sinks Bool) (old new : Outputs) (world : World) (end : Option End) (ending : End) (a : Ahead run merge texts lefts told old new world [] end) → CapturesGive texts (a.taken ++ []) ending
    → (all : HoldsAll run texts told old new ending world.count) × (world ≡ world_of run.job all.frames)
all_taken run merge texts lefts told old new world end ending a is =
    all_leave run a.known texts a.laters told old new world a.taken ending (alone run merge texts lefts told old new world end a) (rw (append-nil a.taken) at is)

-- all packets before a failed read were
all_read : (run : Run) (merge : List Waiting) (texts lefts : List (List ℕ)) (told : Sinks Bool) (old new : Outputs) (world : World) (end : Option End) (place : ℕ) (a : Ahead run merge texts lefts told old new world [] end) → a.laters ≡ lefts → StopsAt a.known (place, refusal.Read) → LacksRecordAt a.known (place, refusal.Read)
    → HoldsAllRead run texts lefts told old new place world.count
all_read run merge texts lefts told old new world end place a same stop lacks =
    subst (λ (ls : List (List ℕ)). HoldsAllRead run texts ls told old new place world.count) same
    (holds_all_read run a.known texts a.laters told old new world a.taken place (alone run merge texts lefts told old new world end a) stop lacks)

-- the reading has ended, and nothing waits
pub ahead_over : (run : Run) (most : ℕ) (merge : List Waiting) (texts lefts : List (List ℕ)) (told : Sinks Bool) (old new : Outputs) (world : World) (end : End) → Ahead run merge texts lefts told old new world [] (Some end) → IsHead most world.count [] (Some end)
    → Ended run most texts lefts told old new world end
ahead_over run most merge texts lefts told old new world (Ok tail) a head = all_taken run merge texts lefts told old new world (Some (Ok tail)) (Ok tail) a a.knows.1
ahead_over run most merge texts lefts told old new world (Err (place, refusal.Read)) a head =
    inr (all_read run merge texts lefts told old new world (Some (Err (place, refusal.Read))) place a a.knows.0 a.knows.1 a.knows.2)
ahead_over run most merge texts lefts told old new world (Err (place, refusal.Memory)) a head =
    inr (inl (whole_batches run most merge texts lefts told old new world [] (Some (Err (place, refusal.Memory))) a (elim head [ inl boundary ↦ boundary | inr over ↦ absurd (cc over.1.other) ])))
ahead_over run most merge texts lefts told old new world (Err (place, refusal.RecordTooLong asked)) a head =
    (all_taken run merge texts lefts told old new world (Some (Err (place, refusal.RecordTooLong asked))) (Err (place, refusal.RecordTooLong asked)) a a.knows.1).0
ahead_over run most merge texts lefts told old new world (Err (place, refusal.HeaderCut)) a head = absurd a.knows
ahead_over run most merge texts lefts told old new world (Err (place, refusal.BadMagic)) a head = absurd a.knows
ahead_over run most merge texts lefts told old new world (Err (place, refusal.BadVersion)) a head = absurd a.knows
ahead_over run most merge texts lefts told old new world (Err (place, refusal.LinkType link)) a head = absurd a.knows

-- memory was refused after the last batch
memory_at_end : (run : Run) (most : ℕ) (merge : List Waiting) (texts lefts : List (List ℕ)) (told : Sinks Bool) (old new : Outputs) (world : World) (end : Option End) → Ahead run merge texts lefts told old new world [] end → MayBeShort end
    → Stopped run most texts lefts told old new (stop.Memory world.count)
memory_at_end run most merge texts lefts told old new world None a short = absurd (short.over refl)
memory_at_end run most merge texts lefts told old new world (Some (Ok tail)) a short = inr (inr (inr (Ok tail, (all_taken run merge texts lefts told old new world (Some (Ok tail)) (Ok tail) a a.knows.1).0)))
memory_at_end run most merge texts lefts told old new world (Some (Err (place, refusal.Read))) a short =
    inr (inr (inl (place, all_read run merge texts lefts told old new world (Some (Err (place, refusal.Read))) place a a.knows.0 a.knows.1 a.knows.2)))
memory_at_end run most merge texts lefts told old new world (Some (Err (place, refusal.Memory))) a short = absurd (cc short.other)
memory_at_end run most merge texts lefts told old new world (Some (Err (place, refusal.RecordTooLong asked))) a short =
    inr (inr (inr (Err (place, refusal.RecordTooLong asked), (all_taken run merge texts lefts told old new world (Some (Err (place, refusal.RecordTooLong asked))) (Err (place, refusal.RecordTooLong asked)) a a.knows.1).0)))
memory_at_end run most merge texts lefts told old new world (Some (Err (place, refusal.HeaderCut))) a short = absurd a.knows
memory_at_end run most merge texts lefts told old new world (Some (Err (place, refusal.BadMagic))) a short = absurd a.knows
memory_at_end run most merge texts lefts told old new world (Some (Err (place, refusal.BadVersion))) a short = absurd a.knows
memory_at_end run most merge texts lefts told old new world (Some (Err (place, refusal.LinkType link))) a short = absurd a.knows

-- memory was refused
pub memory_stopped : (run : Run) (most : ℕ) (merge : List Waiting) (texts lefts : List (List ℕ)) (told : Sinks Bool) (old new : Outputs) (world : World) (waiting : List (List Record)) (end : Option End) → Ahead run merge texts lefts told old new world waiting end → IsHead most world.count waiting end
    → Stopped run most texts lefts told old new (stop.Memory world.count)
memory_stopped run most merge texts lefts told old new world waiting end a (inl boundary) = inr (inl (whole_batches run most merge texts lefts told old new world waiting end a boundary))
memory_stopped run most merge texts lefts told old new world waiting end a (inr over) =
    memory_at_end run most merge texts lefts told old new world end (subst (λ (w : List (List Record)). Ahead run merge texts lefts told old new world w end) over.0 a) over.1

-- the first batch that waits was written in part
pub batch_cut : (run : Run) (most : ℕ) (merge : List Waiting) (texts lefts : List (List ℕ)) (told : Sinks Bool) (old mid new : Outputs) (world : World) (packets : List Record) (waiting : List (List Record)) (end : Option End) (output : Output)
    → Ahead run merge texts lefts told old mid world (packets ∷ waiting) end → IsHead most world.count (packets ∷ waiting) end → AreFull most end (packets ∷ waiting)
    → Add run.job world (frames_of packets) (λ added. PartWritten told mid new (texts_alone run added) output) → Stopped run most texts lefts told old new (stop.Write output world.count)
batch_cut run most merge texts lefts told old mid new world packets waiting end output a head full part =
    let count = counted_by run a.known texts a.laters told old mid world a.taken (all_of (packets ∷ waiting)) a.so_far in
    holds_part_of_batch run most a.known texts a.laters lefts told old mid new world a.taken (all_of waiting) packets output world.count
    a.so_far a.gave (rw (length-map packets frame_of) (full_few most end packets waiting full)) (rw count (head_waits most world.count packets waiting end head)) count part
