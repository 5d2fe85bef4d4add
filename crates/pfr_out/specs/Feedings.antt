-- How the batches of captures are given, and what they add is taken.
use Rattle.std.specs.Prelude.{◌≡◌, ◌⊎◌, ◌≤◌, ◌+◌, min, ℕ, Bool, false, List, [], length, map, Option, Some, None, Result, Ok, Err, IfErr, IfOk, IfSome, OnOk}
use Rattle.std.specs.Option.{option_map}
use Rattle.pfr_net.specs.declared.address.Ipv4Address.{Ipv4Address}
use Rattle.pfr_capture.specs.declared.capture.Record.{Record}
use Rattle.pfr_merge.specs.MergeReading.{AllTold, HasMerged, MayFollowAll, header_in, joined}
use Rattle.pfr_commit.specs.declared.book.Book.{Book}
use Rattle.pfr_commit.specs.World.{Texts}
use Rattle.pfr_feed.specs.Transitions.{Transitions}
use Rattle.pfr_out.specs.declared.feeding.Cut.{Cut}
use Rattle.pfr_out.specs.declared.feeding.Cut.TheVariants as cut
use Rattle.pfr_out.specs.declared.feeding.Feeding.{Feeding}
use Rattle.pfr_feed.specs.declared.report.Report.{Report}
use Rattle.pfr_feed.specs.declared.report.Stop.{Stop}
use Rattle.pfr_feed.specs.declared.report.Stop.TheVariants as stop
use Rattle.pfr_out.specs.declared.settings.Form.{Form}
use Rattle.pfr_out.specs.declared.sinks.Sinks.{Sinks}
use Rattle.pfr_out.specs.Outputs.{Grew, GrewBy, KeepsMessages, OutputTexts, Outputs, Stay, TookPart, batch_alone, each_of, headers_alone}
use Rattle.pfr_feed.specs.Captures.{End}
use Rattle.pfr_feed.specs.Reading.{BatchFails, SaysIn, wants_memory}
use Rattle.pfr_out.specs.Replay.{StopFails, Stopped}
use Rattle.pfr_out.specs.Spelling.{spelled}
use Rattle.pfr_out.specs.Taking.{ClosesIn, ConcludeFails, ConcludesIn, IsPastHeader, Reaches, SinksFail, run_in}

-- a piece, as it is written
abbrev pub piece_alone : Form → Ipv4Address → Texts → OutputTexts
piece_alone form address piece = batch_alone piece.verdicts piece.packets (spelled form address piece.messages)

-- the stop by which a piece was cut, after `committed` packets
abbrev pub stop_by : ℕ → Cut → Stop
stop_by committed cut.Memory = stop.Memory committed
stop_by committed (cut.Write output) = stop.Write output committed

abbrev pub stop_of : {R S : Type 0} → Feeding R S → Option Stop
stop_of feeding = option_map (stop_by feeding.committed) feeding.cut

-- what stays from the first call to the last
pub record Same {R S : Type 0} (old new : Feeding R S) : Type 0 where
  pub form : new.channel.now.form ≡ old.channel.now.form
  pub address : new.address ≡ old.address
  pub most : new.most ≡ old.most

-- ---- reading

-- it read these records; it dropped those of a batch for which memory was refused
pub record Reads {R S : Type 0} (tells : R → Bool) (unread : R → List ℕ) (failures : R → ℕ) (old new : Feeding R S) (records : List Record) : Type 0 where
  pub going : old.end ≡ None
  pub says : SaysIn tells unread old.merge.now new.merge.now old.sources.now new.sources.now records new.end
  pub headers : map header_in new.merge.now ≡ map header_in old.merge.now
  pub at_most : length records ≤ old.most
  pub full : new.end ≡ None → length records ≡ old.most
  pub told : map tells new.sources.now ≡ map tells old.sources.now
  pub failed : BatchFails new.end (map failures old.sources.now) (map failures new.sources.now)
  pub same : Same old new
  pub sinks : new.sinks.now ≡ old.sinks.now
  pub given : new.given ≡ old.given + length records
  pub committed : new.committed ≡ old.committed
  pub cut : new.cut ≡ old.cut

pub record Gives {R S : Type 0} (tells : R → Bool) (unread : R → List ℕ) (failures : R → ℕ) (old : Feeding R S) (records : List Record) (new : Feeding R S) : Type 0 where
  pub reads : Reads tells unread failures old new records
  pub wants : wants_memory new.end ≡ false

-- the reading had ended, or it ends with no further record
abbrev pub Ends : {R S : Type 0} → (tells : R → Bool) → (unread : R → List ℕ) → (failures : R → ℕ) → (old new : Feeding R S) → Type 0
Ends tells unread failures old new = ((end : End) × (old.end ≡ Some end) × (new ≡ old)) ⊎ ((end : End) × (new.end ≡ Some end) × Reads tells unread failures old new [])

-- it took packets back, and the reader is in the state in which it was
pub record Rests {R S : Type 0} (old new : Feeding R S) : Type 0 where
  pub merge : new.merge.now ≡ old.merge.now
  pub sources : new.sources.now ≡ old.sources.now
  pub sinks : new.sinks.now ≡ old.sinks.now
  pub end : new.end ≡ old.end
  pub given : new.given ≡ old.given
  pub committed : new.committed ≡ old.committed
  pub cut : new.cut ≡ old.cut
  pub same : Same old new

-- ---- writing

-- what stays when a piece is written
pub record Writes {R S : Type 0} (tells : S → Bool) (old new : Feeding R S) : Type 0 where
  pub merge : new.merge.now ≡ old.merge.now
  pub sources : new.sources.now ≡ old.sources.now
  pub end : new.end ≡ old.end
  pub given : new.given ≡ old.given
  pub told : each_of tells new.sinks.now ≡ each_of tells old.sinks.now
  pub messages : KeepsMessages old.channel.now.form old.sinks.now new.sinks.now
  pub same : Same old new

-- the outputs grew by a piece
abbrev pub GrewByPiece : {R S : Type 0} → (tells : S → Bool) → (written : S → List ℕ) → (old : Feeding R S) → Texts → (new : Feeding R S) → Type 0
GrewByPiece tells written old piece new = GrewBy tells written old.sinks.now new.sinks.now (piece_alone old.channel.now.form old.address piece)

pub record Takes {R S : Type 0} (tells : S → Bool) (written : S → List ℕ) (failures : S → ℕ) (old : Feeding R S) (piece : Texts) (new : Feeding R S) : Type 0 where
  pub writes : Writes tells old new
  pub grew : GrewByPiece tells written old piece new
  pub failed : Stay failures old.sinks.now new.sinks.now
  -- a batch has the most records, unless the reading ends with it
  pub committed : new.committed ≡ min (old.committed + old.most) old.given
  pub cut : new.cut ≡ old.cut

-- why a piece wasn't taken whole, after `committed` packets: memory was refused for its messages, or a sink failed
abbrev pub CutsOff : {S : Type 0} → (tells : S → Bool) → (written : S → List ℕ) → (committed : ℕ) → (old new : Sinks S) → OutputTexts → Stop → Type 0
CutsOff tells written committed old new piece (stop.Memory count) = (count ≡ committed) × (new ≡ old)
CutsOff tells written committed old new piece (stop.Write output count) = (count ≡ committed) × TookPart tells written old new piece output
CutsOff tells written committed old new piece _ = ⊥

-- the same of a feed, by its cut
abbrev pub CutsPiece : {R S : Type 0} → (tells : S → Bool) → (written : S → List ℕ) → (old : Feeding R S) → Texts → (new : Feeding R S) → Cut → Type 0
CutsPiece tells written old piece new cut =
    CutsOff tells written old.committed old.sinks.now new.sinks.now (piece_alone old.channel.now.form old.address piece) (stop_by old.committed cut)

-- what a cut says of the sinks' counts of failures
abbrev pub CutFails : {R S : Type 0} → (failures : S → ℕ) → (old new : Feeding R S) → Cut → Type 0
CutFails failures old new cut = SinksFail (stop_by old.committed cut) (each_of failures old.sinks.now) (each_of failures new.sinks.now)

pub record Cuts {R S : Type 0} (tells : S → Bool) (written : S → List ℕ) (failures : S → ℕ) (old : Feeding R S) (piece : Texts) (new : Feeding R S) : Type 0 where
  pub writes : Writes tells old new
  pub why : Stop
  pub stop : stop_of new ≡ Some why
  pub off : CutsOff tells written old.committed old.sinks.now new.sinks.now (piece_alone old.channel.now.form old.address piece) why
  pub failed : SinksFail why (each_of failures old.sinks.now) (each_of failures new.sinks.now)

-- what each call of such a feed does
abbrev pub transitions_of : {R S : Type 0} → (tells : R → Bool) → (unread : R → List ℕ) → (failures : R → ℕ) → (told : S → Bool) → (written : S → List ℕ) → (sink_failures : S → ℕ) → Transitions (Feeding R S)
transitions_of tells unread failures told written sink_failures = record {
  gives = Gives tells unread failures;
  ends = Ends tells unread failures;
  takes = Takes told written sink_failures;
  cuts = Cuts told written sink_failures;
  rests = Rests;
}

-- ---- a run

-- the devices tell their bytes as before
abbrev pub TellAsBefore : {R S : Type 0} → (tells : R → Bool) → (told : S → Bool) → (old new : Feeding R S) → Type 0
TellAsBefore tells told old new = (map tells new.sources.now ≡ map tells old.sources.now) × (each_of told new.sinks.now ≡ each_of told old.sinks.now)

-- nothing has been given or taken
pub record Fresh {R S : Type 0} (feeding : Feeding R S) : Type 0 where
  pub given : feeding.given ≡ 0
  pub committed : feeding.committed ≡ 0
  pub end : feeding.end ≡ None
  pub cut : feeding.cut ≡ None

-- A fact of a run after its captures were opened and their headers were written: of the texts, what is left of them, and the outputs
-- before the headers and at the end.
abbrev pub Behind : {R S : Type 0} → (tells : R → Bool) → (unread : R → List ℕ) → (told : S → Bool) → (written : S → List ℕ) → (old new : Feeding R S)
    → ((texts lefts : List (List ℕ)) → (told : Sinks Bool) → (before behind : Outputs) → Type 0) → Type 0
Behind tells unread told written old new P =
    AllTold (map tells old.sources.now) → (reads : List (List ℕ)) (before : Outputs)
    → HasMerged old.merge.now reads [] → MayFollowAll old.merge.now (map unread old.sources.now)
    → Grew (each_of told old.sinks.now) before (each_of written old.sinks.now) (headers_alone (map header_in old.merge.now))
    → P (joined reads (map unread old.sources.now)) (map unread new.sources.now) (each_of told old.sinks.now) before (each_of written new.sinks.now)

-- the run went to the end of the reading, and the book has taken all packets
pub record RunEnds {R S : Type 0} (tells : R → Bool) (unread : R → List ℕ) (failures : R → ℕ) (told : S → Bool) (written : S → List ℕ) (sink_failures : S → ℕ) (book : Book) (old new : Feeding R S) (last_book : Option Book) : Type 0 where
  pub end : End
  pub last : Book
  pub end_is : new.end ≡ Some end
  pub last_is : last_book ≡ Some last
  pub job : last.job ≡ book.job
  pub reaches : Behind tells unread told written old new (λ texts lefts told before behind. Reaches (run_in book old.channel.now.form) old.most texts lefts told before behind last end)
  pub failed : BatchFails (Some end) (map failures old.sources.now) (map failures new.sources.now)
  pub sinks_failed : Stay sink_failures old.sinks.now new.sinks.now

-- it stopped before
pub record RunStops {R S : Type 0} (tells : R → Bool) (unread : R → List ℕ) (failures : R → ℕ) (told : S → Bool) (written : S → List ℕ) (sink_failures : S → ℕ) (book : Book) (old new : Feeding R S) (why : Stop) : Type 0 where
  pub stopped : Behind tells unread told written old new (λ texts lefts told before behind. Stopped (run_in book old.channel.now.form) old.most texts lefts told before behind why)
  pub late : IsPastHeader why
  pub failed : StopFails why (map failures old.sources.now) (map failures new.sources.now) (each_of sink_failures old.sinks.now) (each_of sink_failures new.sinks.now)

-- the end of a run whose reading has ended
pub record Concluded {S : Type 0} (told : S → Bool) (written : S → List ℕ) (failures : S → ℕ) (book : Book) (form : Form) (end : End) (old new : Sinks S) (result : Result Report Stop) : Type 0 where
  pub closed : IfOk result (λ report. (report.committed ≡ book.count) × (end ≡ Ok report.tail))
  pub grew : OnOk result (ClosesIn told written book form old new)
  pub stops : IfErr result (λ s. ConcludesIn told written end book form old new s)
  pub no_failure : OnOk result (Stay failures old new)
  pub failure : IfErr result (λ s. ConcludeFails end book.count (each_of failures old) (each_of failures new) s)

-- the same of a feed that wasn't cut, with the book that took all packets
abbrev pub Finishes : {R S : Type 0} → (told : S → Bool) → (written : S → List ℕ) → (failures : S → ℕ) → Feeding R S → Option Book → Sinks S → Result Report Stop → Type 0
Finishes told written failures feeding last sinks result =
    feeding.cut ≡ None
    → IfSome last (λ book. IfSome feeding.end (λ end. Concluded told written failures book feeding.channel.now.form end feeding.sinks.now sinks result))

-- a feed that was cut, which stops the run
abbrev pub Breaks : {R S : Type 0} → Feeding R S → Sinks S → Result Report Stop → Type 0
Breaks feeding sinks result = IfSome (stop_of feeding) (λ stop. (result ≡ Err stop) × (sinks ≡ feeding.sinks.now))
