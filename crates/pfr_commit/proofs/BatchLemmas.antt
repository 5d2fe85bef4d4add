-- What a book comes to over the packets of a batch.
use Rattle.std.proofs.Common.{◌≡◌, ◌<◌, ◌+◌, ◌-◌, ◌∙◌, ℕ, suc, false, true, List, [], ◌∷◌, ◌++◌, length, map, take, get_or, Option, sym, ap, subst, refl, arith}
use Rattle.std.specs.List.{find}
use Rattle.std.proofs.Math.Seq.{take-length, take-suc}
use Rattle.pfr_headers.specs.declared.packet.View.{View}
use Rattle.pfr_packet.specs.Job.{RunJob}
use Rattle.pfr_record.specs.declared.speculation.Speculation.{Speculation}
use Rattle.pfr_capture.specs.declared.capture.Record.{Record}
use Rattle.pfr_commit.specs.declared.book.Book.{Book}
use Rattle.pfr_commit.specs.declared.emitted.Emitted.{Emitted}
use Rattle.pfr_commit.specs.Books.{IsUsed, Keeps, LeadsTo, MayUse, RisesOver, RisesUnless, TakesAll, TakesSome, frames_of, job_of, untold, world_in, world_with, written}
use Rattle.pfr_commit.specs.Emissions.{frame_of, held_changes, with_more}
use Rattle.pfr_commit.specs.Results.{is_of}
use Rattle.pfr_commit.specs.World.{Frame, Texts, World, after, clock_at, world_after}
use Rattle.pfr_commit.proofs.EmittedLemmas.{changes_none}
use Rattle.pfr_commit.proofs.StandLemmas.{leaves_none, leaves_part}
use Rattle.pfr_commit.proofs.WorldLemmas.{part_taken, world_none}

-- one packet more
rises_append : (job : RunJob) (world : World) (results : List Speculation) (xs : List (Record × View)) (x : Record × View) (before mid last : ℕ) → RisesOver job world results xs before mid
    → RisesUnless (IsUsed job (world_after job world (map (λ packet. frame_of packet.0) xs)) results x) mid last → RisesOver job world results (xs ++ x ∷ []) before last
unfolding world_after
rises_append job world results [] x before mid last over one = (last, subst (λ (n : ℕ). RisesUnless (IsUsed job world results x) n last) over one, refl)
rises_append job world results (y ∷ ys) x before mid last over one =
    (over.0, over.1, rises_append job (after job world (frame_of y.0)) results ys x over.0 mid last over.2 one)

pub rises_next : (job : RunJob) (world : World) (results : List Speculation) (xs : List (Record × View)) (i : ℕ) (d : Record × View) (before mid last : ℕ) → i < length xs → RisesOver job world results (take i xs) before mid
    → RisesUnless (IsUsed job (world_after job world (map (λ packet. frame_of packet.0) (take i xs))) results (get_or xs i d)) mid last → RisesOver job world results (take (i + 1) xs) before last
rises_next job world results xs i d before mid last below over one =
    let next : i + 1 ≡ suc i = omega arith in
    rw (next, take-suc xs i d below) (rises_append job world results (take i xs) (get_or xs i d) before mid last over one)

-- what taking a packet promises, said of the world that the book stands for
pub rises_by : (job book_job : RunJob) (world now : World) (results : List Speculation) (p q : Record × View) (held : Option Speculation) (mid last : ℕ) → book_job ≡ job → now ≡ world → p ≡ q → held ≡ find (is_of (now.count + 1)) results
    → (MayUse held book_job (now.count + 1) (clock_at now.clock (frame_of p.0)) (frame_of p.0).place p.1 now.table → last ≡ mid) → ((MayUse held book_job (now.count + 1) (clock_at now.clock (frame_of p.0)) (frame_of p.0).place p.1 now.table → ⊥) → last ≡ mid + 1)
    → RisesUnless (IsUsed job world results q) mid last
rises_by job book_job world now results p q held mid last job_is world_is p_is held_is used not_used =
    subst (λ (w : World). RisesUnless (IsUsed job w results q) mid last) world_is
    (subst (λ (j : RunJob). RisesUnless (IsUsed j now results q) mid last) job_is
    (subst (λ (r : Record × View). RisesUnless (IsUsed book_job now results r) mid last) p_is
    (subst (λ (s : Option Speculation). RisesUnless (MayUse s book_job (now.count + 1) (clock_at now.clock (frame_of p.0)) (frame_of p.0).place p.1 now.table) mid last) held_is (used, not_used))))

-- ---- how a batch ends

-- the packets of a batch that were taken before a packet
abbrev pub first_frames : List (Record × View) → ℕ → List Frame
first_frames packets index = map (λ packet. frame_of packet.0) (take index packets)

-- none was taken
pub takes_none : (start new : Book) (out : Emitted) (packets : List (Record × View)) (results : List Speculation) → new.count ≡ start.count → new.own ≡ start.own → new.is_over ≡ true
    → TakesSome start new out out packets results
takes_none start new out packets results count_is own_is over =
    let count : new.count ≡ start.count + 0 = omega arith in
    let none : new.count - start.count ≡ 0 = omega arith in
    record {
      lines = ap written (sym (world_none (job_of start) (world_with start out)) ∙ part_taken (job_of start) (world_with start out) (λ packet. frame_of packet.0) packets start.count new.count 0 count);
      told = leaves_none start new.count out out (frames_of packets) count_is refl;
      changes = changes_none (job_of start) (world_in start) (held_changes out) refl
          ∙ ap (λ (w : World). with_more (held_changes out) w.changes) (part_taken (job_of start) (world_in start) (λ packet. frame_of packet.0) packets start.count new.count 0 count);
      own = subst (λ (n : ℕ). RisesOver (job_of start) (world_with start out) results (take n packets) start.own new.own) (sym none) own_is;
      within = (omega arith, omega arith);
      over = over;
    }

-- memory was refused at a packet
pub takes_part : (start mid new : Book) (out out' out'' : Emitted) (packets : List (Record × View)) (results : List Speculation) (index : ℕ) → index < length packets
    → mid.count ≡ start.count + index → Keeps mid new out' out'' → RisesOver (job_of start) (world_with start out) results (take index packets) start.own mid.own
    → world_with mid out' ≡ untold (world_after (job_of start) (world_with start out) (first_frames packets index))
    → LeadsTo start mid out out' (λ world. world_after (job_of start) world (first_frames packets index))
    → held_changes out' ≡ with_more (held_changes out) (world_after (job_of start) (world_in start) (first_frames packets index)).changes
    → new.is_over ≡ true → TakesSome start new out out'' packets results
takes_part start mid new out out' out'' packets results index below counted kept own world told changes over =
    let count = kept.0 ∙ counted in
    let taken : new.count - start.count ≡ index = omega arith in
    record {
      lines = ap (λ (t : Texts). (t.verdicts, t.packets)) kept.2 ∙ ap written world ∙ ap written (part_taken (job_of start) (world_with start out) (λ packet. frame_of packet.0) packets start.count new.count index count);
      told = leaves_part start mid new.count out out' out'' (λ packet. frame_of packet.0) packets index count kept.2 told;
      changes = kept.3 ∙ changes
          ∙ ap (λ (w : World). with_more (held_changes out) w.changes) (part_taken (job_of start) (world_in start) (λ packet. frame_of packet.0) packets start.count new.count index count);
      own = subst (λ (n : ℕ). RisesOver (job_of start) (world_with start out) results (take n packets) start.own new.own) (sym taken)
          (subst (λ (n : ℕ). RisesOver (job_of start) (world_with start out) results (take index packets) start.own n) (sym kept.1) own);
      within = (omega arith, omega arith);
      over = over;
    }

-- all were taken
pub takes_whole : (start new : Book) (out out' : Emitted) (packets : List (Record × View)) (results : List Speculation) (index : ℕ) → index ≡ length packets
    → new.count ≡ start.count + index → RisesOver (job_of start) (world_with start out) results (take index packets) start.own new.own
    → world_with new out' ≡ untold (world_after (job_of start) (world_with start out) (first_frames packets index))
    → LeadsTo start new out out' (λ world. world_after (job_of start) world (first_frames packets index))
    → held_changes out' ≡ with_more (held_changes out) (world_after (job_of start) (world_in start) (first_frames packets index)).changes
    → start.is_over ≡ false → new.is_over ≡ false → TakesAll start new out out' packets results
takes_whole start new out out' packets results index end counted own world told changes was_open is_open =
    let all = ap (λ (i : ℕ). take i packets) end ∙ take-length packets in
    record {
      world = world ∙ ap (λ (ps : List (Record × View)). untold (world_after (job_of start) (world_with start out) (frames_of ps))) all;
      told = subst (λ (ps : List (Record × View)). LeadsTo start new out out' (λ world. world_after (job_of start) world (frames_of ps))) all told;
      changes = changes ∙ ap (λ (ps : List (Record × View)). with_more (held_changes out) (world_after (job_of start) (world_in start) (frames_of ps)).changes) all;
      counted = counted ∙ ap (λ (n : ℕ). start.count + n) end;
      own = subst (λ (ps : List (Record × View)). RisesOver (job_of start) (world_with start out) results ps start.own new.own) all own;
      is_open = (was_open, is_open);
    }
