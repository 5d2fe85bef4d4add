-- Whatever a stop leaves in the outputs is a beginning of what the replay of the captures writes.
use Rattle.std.proofs.Common.{◌≡◌, ◌∙◌, ℕ, zero, suc, Bool, IsTrue, false, ◌+◌, List, [], ◌∷◌, ◌++◌, length, map, take, drop, Some, slice_get, Ok, Err, ◌⊎◌, inl, inr, refl, sym, ap, subst, arith}
use Rattle.std.specs.List.{flat_map}
use Rattle.std.proofs.lemmas.Bool.{cases_lt}
use Rattle.std.proofs.lemmas.List.{append_assoc, append-nil, take-append-drop, take_at}
use Rattle.pfr_capture.specs.declared.capture.CaptureError.{CaptureError}
use Rattle.pfr_capture.specs.declared.capture.CaptureError.TheVariants as refusal
use Rattle.pfr_capture.specs.declared.capture.Form.{Form}
use Rattle.pfr_capture.specs.Device.{GrewByBeginning, GrewByPart}
use Rattle.pfr_capture.specs.Header.{opening_of}
use Rattle.pfr_capture.specs.Records.{text_of}
use Rattle.pfr_capture.proofs.LawLemmas.{every_capture}
use Rattle.pfr_commit.specs.World.{Frame, World, world_of}
use Rattle.pfr_commit.specs.World.{online as written}
use Rattle.pfr_commit.proofs.OnlineLemmas.{online_grows}
use Rattle.pfr_merge.specs.MergeReading.{joined}
use Rattle.pfr_merge.specs.MergedCaptures.{AreOpened}
use Rattle.pfr_merge.proofs.ListLemmas.{continue_long, continue_self, give_opened, one_give, opened_longer}
use Rattle.pfr_feed.specs.declared.report.Output.{Output}
use Rattle.pfr_feed.specs.declared.report.Output.TheVariants as output
use Rattle.pfr_feed.specs.declared.report.Stop.{Stop}
use Rattle.pfr_feed.specs.declared.report.Stop.TheVariants as stop
use Rattle.pfr_out.specs.declared.sinks.Sinks.{Sinks}
use Rattle.pfr_feed.specs.Captures.{BeginWith, CapturesGive, End, frame_in, headers_of}
use Rattle.pfr_out.specs.Outputs.{Extends, Grew, OutputTexts, Outputs, PartWritten, Untouched, headers_alone, of_output, output_text, texts_alone, turn}
use Rattle.pfr_out.specs.Replay.{Begins, Holds, HoldsAll, HoldsAllRead, HoldsPartOfBatch, HoldsPartOfEnding, HoldsPartOfHeaders, OfEvery, Refused, Stopped, closing, committed_of, online, replay_of, whole}
use Rattle.pfr_out.specs.Spelling.{Run}
use Rattle.pfr_out.proofs.WritingLemmas.{each_output, online_behind, whole_is}

-- ---- texts

whole_begins : (old new a : List ℕ) → new ≡ old ++ a → GrewByBeginning old new a
whole_begins old new a grew = ([], record { added = a; text_is = sym (append-nil a); new_is = grew })

part_begins : (old new a : List ℕ) → GrewByPart old new a → GrewByBeginning old new a
part_begins old new a p = (p.last ∷ p.missing, p.grew)

nothing_begins : (old new a : List ℕ) → new ≡ old → GrewByBeginning old new a
nothing_begins old new a same = (a, record { added = []; text_is = refl; new_is = same ∙ sym (append-nil old) })

begins_longer : (old new a more b : List ℕ) → b ≡ a ++ more → GrewByBeginning old new a → GrewByBeginning old new b
begins_longer old new a more b longer g = (
  g.0 ++ more,
  record {
    added = g.1.added;
    text_is = longer ∙ ap (λ (t : List ℕ). t ++ more) g.1.text_is ∙ append_assoc g.1.added g.0 more;
    new_is = g.1.new_is;
  },
)

begins_behind : (old mid new a b both : List ℕ) → mid ≡ old ++ a → both ≡ a ++ b → GrewByBeginning mid new b → GrewByBeginning old new both
begins_behind old mid new a b both was is g = (
  g.0,
  record {
    added = a ++ g.1.added;
    text_is = is ∙ ap (λ (t : List ℕ). a ++ t) g.1.text_is ∙ sym (append_assoc a g.1.added g.0);
    new_is = g.1.new_is ∙ (rw was (append_assoc old a g.1.added));
  },
)

-- ---- outputs

all_whole : (told : Sinks Bool) (old new : Outputs) (a : OutputTexts) → Grew told old new a → Begins told old new a
all_whole told old new a g o t = whole_begins (of_output [] o old) (of_output [] o new) (output_text o a) (g o t)

all_nothing : (told : Sinks Bool) (old new : Outputs) (a : OutputTexts) → Untouched told old new → Begins told old new a
all_nothing told old new a same o t = nothing_begins (of_output [] o old) (of_output [] o new) (output_text o a) (same o t)

all_longer : (told : Sinks Bool) (old new : Outputs) (a more b : OutputTexts) → Extends a b more → Begins told old new a → Begins told old new b
all_longer told old new a more b longer g o t = begins_longer (of_output [] o old) (of_output [] o new) (output_text o a) (output_text o more) (output_text o b) (longer o) (g o t)

all_behind : (told : Sinks Bool) (old mid new : Outputs) (a b both : OutputTexts) → Grew told old mid a → Extends a both b → Begins told mid new b → Begins told old new both
all_behind told old mid new a b both was is g o t =
    begins_behind (of_output [] o old) (of_output [] o mid) (of_output [] o new) (output_text o a) (output_text o b) (output_text o both) (was o t) (is o) (g o t)

-- no two outputs have one turn
abbrev output_at : ℕ → Output
output_at zero = output.Messages
output_at (suc zero) = output.Counters
output_at (suc (suc zero)) = output.States
output_at (suc (suc (suc zero))) = output.Verdicts
output_at (suc (suc (suc (suc place)))) = output.Packets place

turn_at : (o : Output) → output_at (turn o) ≡ o
turn_at = each_output (λ o. output_at (turn o) ≡ o) refl (λ place. let is : 4 + place ≡ suc (suc (suc (suc place))) = omega arith in ap output_at is) refl refl refl

same_output : (o other : Output) → turn o ≡ turn other → o ≡ other
same_output o other same = sym (turn_at o) ∙ ap output_at same ∙ turn_at other

-- a piece of which one output took a part
part_begins_all : (told : Sinks Bool) (old new : Outputs) (a : OutputTexts) (written : Output) → PartWritten told old new a written → Begins told old new a
part_begins_all told old new a written p o t = elim (cases_lt (turn o) (turn written)) [
  | inl before ↦ whole_begins (of_output [] o old) (of_output [] o new) (output_text o a) (p.before o t before)
  | inr not_before ↦ elim (cases_lt (turn written) (turn o)) [
    | inl behind ↦ nothing_begins (of_output [] o old) (of_output [] o new) (output_text o a) (p.behind o t behind)
    | inr not_behind ↦
        (let same : turn o ≡ turn written = omega (arith, not_before, not_behind) in
        subst (λ (x : Output). IsTrue (of_output false x told) → GrewByBeginning (of_output [] x old) (of_output [] x new) (output_text x a)) (sym (same_output o written same))
        (λ u. part_begins (of_output [] written old) (of_output [] written new) (output_text written a) (p.part u)) t)
  ]
]

-- ---- what a replay writes

-- what packets write begins what the replay writes, however the captures end
online_begins : (told : Sinks Bool) (old new : Outputs) (headers : List (List ℕ)) (run : Run) (world : World) (end : End) → Begins told old new (online headers run world) → Begins told old new (replay_of headers run world end)
online_begins told old new headers run world (Ok tail) b = all_longer told old new (online headers run world) (closing run world) (whole headers run world) (whole_is headers run world) b
online_begins told old new headers run world (Err stop) b = b

headers_begin : (headers : List (List ℕ)) (run : Run) (world : World) → Extends (headers_alone headers) (online headers run world) (texts_alone run (written run.job world))
headers_begin headers run world = each_output _ refl (λ place. refl) refl refl refl

-- and so does what the first of them write
fewer_begin : (run : Run) (told : Sinks Bool) (old new : Outputs) (headers : List (List ℕ)) (frames all : List Frame) → BeginWith frames all → Begins told old new (online headers run (world_of run.job frames)) → Begins told old new (online headers run (world_of run.job all))
fewer_begin run told old new headers frames all begins b =
    let grows = online_grows run.job frames begins.0 in
    let is = ap (λ (fs : List Frame). written run.job (world_of run.job fs)) begins.1 ∙ grows.1 in
    all_longer told old new (online headers run (world_of run.job frames)) (texts_alone run grows.0) (online headers run (world_of run.job all))
    (online_behind headers run (world_of run.job frames) (world_of run.job all) grows.0 is) b

taken_front : (count : ℕ) (frames : List Frame) → BeginWith (take count frames) frames
taken_front count frames = (drop count frames, sym (take-append-drop count frames))

-- ---- captures

-- what holds of all captures that begin with the bytes read holds of the sources'
of_source : (texts lefts : List (List ℕ)) (P : List (List ℕ) → List Frame → End → Type 0) (frames : List Frame) (end : End) → OfEvery texts lefts P → CapturesGive texts frames end → P (headers_of texts) frames end
of_source texts lefts P frames end o c =
    let is : CapturesGive (joined o.reads lefts) frames end = rw (← o.are) c in
    rw o.are (o.every lefts frames end (continue_self o.ended lefts o.long) is)

-- texts are captures in one way
one_way : (texts : List (List ℕ)) (frames other : List Frame) (end end' : End) → CapturesGive texts frames end → CapturesGive texts other end' → (frames ≡ other) × (end ≡ end')
one_way texts frames other end end' c c' =
    let one = one_give texts c.list c'.list end end' c.give c'.give in
    (c.frames_are ∙ ap (map frame_in) one.0 ∙ sym c'.frames_are, one.1)

-- ---- stops

all_begins : (run : Run) (texts : List (List ℕ)) (told : Sinks Bool) (old new : Outputs) (end : End) (committed : ℕ) (frames : List Frame) (end' : End) → HoldsAll run texts told old new end committed → CapturesGive texts frames end'
    → Begins told old new (replay_of (headers_of texts) run (world_of run.job frames) end')
all_begins run texts told old new end committed frames end' h c =
    let one = one_way texts h.frames frames end end' h.captures c in
    online_begins told old new (headers_of texts) run (world_of run.job frames) end' (rw (← one.0) (all_whole told old new (online (headers_of texts) run (world_of run.job h.frames)) h.grew))

read_begins : (run : Run) (texts lefts : List (List ℕ)) (told : Sinks Bool) (old new : Outputs) (place committed : ℕ) (frames : List Frame) (end : End) → HoldsAllRead run texts lefts told old new place committed → CapturesGive texts frames end
    → Begins told old new (replay_of (headers_of texts) run (world_of run.job frames) end)
read_begins run texts lefts told old new place committed frames end h c =
    online_begins told old new (headers_of texts) run (world_of run.job frames) end
    (fewer_begin run told old new (headers_of texts) h.frames frames (of_source texts lefts (λ headers all ending. BeginWith h.frames all) frames end h.first c) (all_whole told old new (online (headers_of texts) run (world_of run.job h.frames)) h.grew))

holds_begins : (run : Run) (batch : ℕ) (told : Sinks Bool) (old new : Outputs) (committed : ℕ) (headers : List (List ℕ)) (frames : List Frame) (end : End) → Holds run batch told old new committed headers frames
    → Begins told old new (replay_of headers run (world_of run.job frames) end)
holds_begins run batch told old new committed headers frames end h =
    online_begins told old new headers run (world_of run.job frames) end
    (fewer_begin run told old new headers (take committed frames) frames (taken_front committed frames) (all_whole told old new (online headers run (world_of run.job (take committed frames))) h.grew))

part_of_headers_begins : (run : Run) (told : Sinks Bool) (old new : Outputs) (at : Output) (committed : ℕ) (headers : List (List ℕ)) (frames : List Frame) (end : End) → HoldsPartOfHeaders told old new at committed headers
    → Begins told old new (replay_of headers run (world_of run.job frames) end)
part_of_headers_begins run told old new at committed headers frames end h =
    online_begins told old new headers run (world_of run.job frames) end
    (all_longer told old new (headers_alone headers) (texts_alone run (written run.job (world_of run.job frames))) (online headers run (world_of run.job frames)) (headers_begin headers run (world_of run.job frames)) (part_begins_all told old new (headers_alone headers) at h.part))

part_of_batch_begins : (run : Run) (batch : ℕ) (told : Sinks Bool) (old new : Outputs) (at : Output) (committed : ℕ) (headers : List (List ℕ)) (frames : List Frame) (end : End) → HoldsPartOfBatch run batch told old new at committed headers frames
    → Begins told old new (replay_of headers run (world_of run.job frames) end)
part_of_batch_begins run batch told old new at committed headers frames end h =
    online_begins told old new headers run (world_of run.job frames) end
    (fewer_begin run told old new headers (take h.next frames) frames (taken_front h.next frames)
    (all_behind told old h.mid new (online headers run (world_of run.job (take committed frames))) (texts_alone run h.piece) (online headers run (world_of run.job (take h.next frames))) h.before h.piece_is (part_begins_all told h.mid new (texts_alone run h.piece) at h.part)))

part_of_ending_begins : (run : Run) (texts : List (List ℕ)) (told : Sinks Bool) (old new : Outputs) (at : Output) (committed : ℕ) (frames : List Frame) (end : End) → HoldsPartOfEnding run texts told old new at committed → CapturesGive texts frames end
    → Begins told old new (replay_of (headers_of texts) run (world_of run.job frames) end)
part_of_ending_begins run texts told old new at committed frames end h c =
    let one = one_way texts h.frames frames (Ok h.tail) end h.captures c in
    rw (← one.0, ← one.1)
    (all_behind told old h.mid new (online (headers_of texts) run (world_of run.job h.frames)) (closing run (world_of run.job h.frames)) (whole (headers_of texts) run (world_of run.job h.frames)) h.before (whole_is (headers_of texts) run (world_of run.job h.frames))
    (part_begins_all told h.mid new (closing run (world_of run.job h.frames)) at h.part))

refused_begins : (run : Run) (texts : List (List ℕ)) (told : Sinks Bool) (old new : Outputs) (place : ℕ) (e : CaptureError) (committed : ℕ) (frames : List Frame) (end : End) → Refused run texts told old new place e committed → CapturesGive texts frames end
    → Begins told old new (replay_of (headers_of texts) run (world_of run.job frames) end)
refused_begins run texts told old new place refusal.Read committed frames end r c = absurd r
refused_begins run texts told old new place refusal.Memory committed frames end r c = absurd r
refused_begins run texts told old new place (refusal.RecordTooLong asked) committed frames end r c = all_begins run texts told old new (Err (place, refusal.RecordTooLong asked)) committed frames end r c
refused_begins run texts told old new place refusal.HeaderCut committed frames end r c = all_nothing told old new _ r.2
refused_begins run texts told old new place refusal.BadMagic committed frames end r c = all_nothing told old new _ r.2
refused_begins run texts told old new place refusal.BadVersion committed frames end r c = all_nothing told old new _ r.2
refused_begins run texts told old new place (refusal.LinkType link) committed frames end r c = all_nothing told old new _ r.2

pub stop_begins : (run : Run) (batch : ℕ) (texts lefts : List (List ℕ)) (told : Sinks Bool) (old new : Outputs) (s : Stop) (frames : List Frame) (end : End) → Stopped run batch texts lefts told old new s → CapturesGive texts frames end
    → Begins told old new (replay_of (headers_of texts) run (world_of run.job frames) end)
stop_begins run batch texts lefts told old new (stop.Ruleset fault) frames end s c = absurd s
stop_begins run batch texts lefts told old new (stop.Capture place e committed) frames end s c = refused_begins run texts told old new place e committed frames end s c
stop_begins run batch texts lefts told old new (stop.Read place committed) frames end (inl unopened) c = all_nothing told old new _ unopened.same
stop_begins run batch texts lefts told old new (stop.Read place committed) frames end (inr holds) c = read_begins run texts lefts told old new place committed frames end holds c
stop_begins run batch texts lefts told old new (stop.Memory committed) frames end (inl unwritten) c = all_nothing told old new _ unwritten.same
stop_begins run batch texts lefts told old new (stop.Memory committed) frames end (inr (inl holds)) c =
    holds_begins run batch told old new committed (headers_of texts) frames end (of_source texts lefts (λ headers fs ending. Holds run batch told old new committed headers fs) frames end holds c)
stop_begins run batch texts lefts told old new (stop.Memory committed) frames end (inr (inr (inl read))) c = read_begins run texts lefts told old new read.0 committed frames end read.1 c
stop_begins run batch texts lefts told old new (stop.Memory committed) frames end (inr (inr (inr all))) c = all_begins run texts told old new all.0 committed frames end all.1 c
stop_begins run batch texts lefts told old new (stop.Write at committed) frames end (inl holds) c =
    by_part (of_source texts lefts (λ headers fs ending. HoldsPartOfHeaders told old new at committed headers ⊎ HoldsPartOfBatch run batch told old new at committed headers fs) frames end holds c)
  where
    by_part : HoldsPartOfHeaders told old new at committed (headers_of texts) ⊎ HoldsPartOfBatch run batch told old new at committed (headers_of texts) frames → Begins told old new (replay_of (headers_of texts) run (world_of run.job frames) end)
    by_part (inl h) = part_of_headers_begins run told old new at committed (headers_of texts) frames end h
    by_part (inr h) = part_of_batch_begins run batch told old new at committed (headers_of texts) frames end h
stop_begins run batch texts lefts told old new (stop.Write at committed) frames end (inr holds) c = part_of_ending_begins run texts told old new at committed frames end holds c

-- ---- headers of texts that begin alike

same_header : (read left : List ℕ) (form : Form) → opening_of read ≡ Ok form → take 24 (read ++ left) ≡ take 24 read
same_header read left form opened =
    let is = (every_capture read form opened).2 in
    let records = (every_capture read form opened).0 in
    let whole : read ++ left ≡ is.header ++ ((flat_map text_of records ++ is.rest) ++ left) = ap (λ (t : List ℕ). t ++ left) is.whole ∙ append_assoc is.header (flat_map text_of records ++ is.rest) left in
    let own : take 24 read ≡ is.header = ap (take 24) is.whole ∙ take_at is.header (flat_map text_of records ++ is.rest) 24 is.header_length in
    ap (take 24) whole ∙ take_at is.header ((flat_map text_of records ++ is.rest) ++ left) 24 is.header_length ∙ sym own

same_headers : (reads lefts mores : List (List ℕ)) → AreOpened reads → length mores ≡ length lefts → headers_of (joined reads lefts) ≡ headers_of (joined reads mores)
same_headers [] lefts mores opened long = refl
same_headers (r ∷ reads) [] [] opened long = refl
same_headers (r ∷ reads) [] (m ∷ mores) opened long = absurd (omega (arith, long))
same_headers (r ∷ reads) (l ∷ lefts) [] opened long = absurd (omega (arith, long))
same_headers (r ∷ reads) (l ∷ lefts) (m ∷ mores) opened long =
    let form = opened.0.0 in
    ap (λ (header : List ℕ). header ∷ headers_of (joined reads lefts)) (same_header r l form opened.0.1 ∙ sym (same_header r m form opened.0.1))
    ∙ ap (λ (headers : List (List ℕ)). take 24 (r ++ m) ∷ headers) (same_headers reads lefts mores opened.1 (omega (arith, long)))

-- if reading failed, the outputs begin the replay of all captures that begin with what was read
pub read_stop_begins : (run : Run) (batch : ℕ) (texts lefts : List (List ℕ)) (told : Sinks Bool) (old new : Outputs) (place committed : ℕ) → Stopped run batch texts lefts told old new (stop.Read place committed)
    → Untouched told old new ⊎ OfEvery texts lefts (λ headers frames ending. Begins told old new (replay_of headers run (world_of run.job frames) ending))
read_stop_begins run batch texts lefts told old new place committed (inl unopened) = inl unopened.same
read_stop_begins run batch texts lefts told old new place committed (inr h) =
    let first = h.first in
    inr (record {
      reads = first.reads;
      are = first.are;
      opened = first.opened;
      ended = first.ended;
      long = first.long;
      every = λ mores frames ending may c.
          let begins = first.every mores frames ending may c in
          let headers_are : headers_of texts ≡ headers_of (joined first.reads mores) = ap headers_of first.are ∙ same_headers first.reads lefts mores first.opened (continue_long first.ended lefts mores may) in
          online_begins told old new (headers_of (joined first.reads mores)) run (world_of run.job frames) ending
          (fewer_begin run told old new (headers_of (joined first.reads mores)) h.frames frames begins
          (subst (λ (headers : List (List ℕ)). Begins told old new (online headers run (world_of run.job h.frames))) headers_are (all_whole told old new (online (headers_of texts) run (world_of run.job h.frames)) h.grew)));
    })

-- ---- a refused header

of_every_opened : (texts lefts : List (List ℕ)) (P : List (List ℕ) → List Frame → End → Type 0) → OfEvery texts lefts P → AreOpened texts
of_every_opened texts lefts P o = rw o.are (opened_longer o.reads lefts o.opened)

captures_opened : (texts : List (List ℕ)) (frames : List Frame) (end : End) → CapturesGive texts frames end → AreOpened texts
captures_opened texts frames end c = give_opened texts c.list end c.give

module _ (texts : List (List ℕ)) (place : ℕ) (text : List ℕ) (e : CaptureError) (at : slice_get texts place ≡ Some text) (refused : opening_of text ≡ Err e) where
  -- an accepted one is no refused one
  not_opened : AreOpened texts → ⊥
  not_opened opened = by_place texts place at opened
    where
      by_place : (texts : List (List ℕ)) (k : ℕ) → slice_get texts k ≡ Some text → AreOpened texts → ⊥
      by_place [] k at opened = absurd (cc at)
      by_place (t ∷ texts) zero at opened =
          let here : t ≡ text = cc at in
          let accepted = opened.0.1 in
          let same : opening_of t ≡ Err e = ap opening_of here ∙ refused in
          cc (accepted, same)
      by_place (t ∷ texts) (suc k) at opened = by_place texts k at opened.1

  -- then nothing was written, and no packet committed
  pub nothing_written : (run : Run) (batch : ℕ) (lefts : List (List ℕ)) (told : Sinks Bool) (old new : Outputs) (s : Stop) → Stopped run batch texts lefts told old new s
      → Untouched told old new × (committed_of s ≡ 0)
  nothing_written run batch lefts told old new (stop.Ruleset fault) s = absurd s
  nothing_written run batch lefts told old new (stop.Capture place' e' committed) s = by_refusal e' s
    where
      by_refusal : (e' : CaptureError) → Refused run texts told old new place' e' committed → Untouched told old new × (committed ≡ 0)
      by_refusal refusal.Read s = absurd s
      by_refusal refusal.Memory s = absurd s
      by_refusal (refusal.RecordTooLong asked) s = absurd (not_opened (captures_opened texts s.frames (Err (place', refusal.RecordTooLong asked)) s.captures))
      by_refusal refusal.HeaderCut s = (s.2, s.1)
      by_refusal refusal.BadMagic s = (s.2, s.1)
      by_refusal refusal.BadVersion s = (s.2, s.1)
      by_refusal (refusal.LinkType link) s = (s.2, s.1)
  nothing_written run batch lefts told old new (stop.Read place' committed) (inl unopened) = (unopened.same, unopened.none)
  nothing_written run batch lefts told old new (stop.Read place' committed) (inr h) = absurd (not_opened (of_every_opened texts lefts _ h.first))
  nothing_written run batch lefts told old new (stop.Memory committed) (inl unwritten) = (unwritten.same, unwritten.none)
  nothing_written run batch lefts told old new (stop.Memory committed) (inr (inl holds)) = absurd (not_opened (of_every_opened texts lefts _ holds))
  nothing_written run batch lefts told old new (stop.Memory committed) (inr (inr (inl h))) = absurd (not_opened (of_every_opened texts lefts _ h.1.first))
  nothing_written run batch lefts told old new (stop.Memory committed) (inr (inr (inr all))) = absurd (not_opened (captures_opened texts all.1.frames all.0 all.1.captures))
  nothing_written run batch lefts told old new (stop.Write at' committed) (inl holds) = absurd (not_opened (of_every_opened texts lefts _ holds))
  nothing_written run batch lefts told old new (stop.Write at' committed) (inr h) = absurd (not_opened (captures_opened texts h.frames (Ok h.tail) h.captures))

pub nothing_behind_a_refusal : (run : Run) (batch : ℕ) (texts lefts : List (List ℕ)) (told : Sinks Bool) (old new : Outputs) (s : Stop) (place : ℕ) (text : List ℕ) (e : CaptureError) → slice_get texts place ≡ Some text → opening_of text ≡ Err e → Stopped run batch texts lefts told old new s
    → Untouched told old new × (committed_of s ≡ 0)
nothing_behind_a_refusal run batch texts lefts told old new s place text e at refused stopped = nothing_written texts place text e at refused run batch lefts told old new s stopped
