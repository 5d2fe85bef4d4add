-- Batches of records, and the captures that they come from.
use Rattle.std.proofs.Common.{◌≡◌, ◌∙◌, ◌≤◌, ℕ, List, [], ◌∷◌, ◌++◌, length, map, Some, Ok, Err, refl, sym, ap, subst, arith}
use Rattle.std.proofs.lemmas.List.{append-nil, length-map, map-append}
use Rattle.std.proofs.lemmas.Option.{slice_get_within}
use Rattle.pfr_capture.specs.declared.capture.CaptureError.{CaptureError}
use Rattle.pfr_capture.specs.declared.capture.CaptureError.TheVariants as refusal
use Rattle.pfr_capture.specs.declared.capture.Form.{Form}
use Rattle.pfr_capture.specs.declared.capture.Record.{Record}
use Rattle.pfr_capture.specs.Reading.{FieldsOf, bytes_of}
use Rattle.pfr_commit.specs.Emissions.{frame_of}
use Rattle.pfr_commit.specs.World.{Frame}
use Rattle.pfr_merge.specs.Arrivals.{Arrived, arrived}
use Rattle.pfr_merge.specs.MergeReading.{HasForm, LacksRecordAt, MergeReads, MergesOn, StopsAt, Waiting, form_in, joined}
use Rattle.pfr_merge.specs.Opening.{ReadingFails}
use Rattle.pfr_merge.proofs.MergeReadingLemmas.{merges_twice}
use Rattle.pfr_feed.specs.Captures.{frame_in}
use Rattle.pfr_feed.specs.Reading.{AllGave, BatchSays, GaveRecords}

-- ---- a record

-- a record that a merge gives is a packet of its capture
same_frame : (place : ℕ) (form : Form) (r : Record) → r.place ≡ place → FieldsOf form (record r { place = 0 }) → frame_of r ≡ frame_in (arrived place form (bytes_of r))
same_frame place form r at fields = rw (at, fields.link, fields.seconds) refl

-- ---- the merge

abbrev no_bytes : List (List ℕ) → List (List ℕ)
no_bytes [] = []
no_bytes (text ∷ texts) = [] ∷ no_bytes texts

joins_none : (texts : List (List ℕ)) → texts ≡ joined (no_bytes texts) texts
joins_none [] = refl
joins_none (text ∷ texts) = ap (λ (more : List (List ℕ)). text ∷ more) (joins_none texts)

pub gave_nothing : (lefts : List (List ℕ)) → AllGave lefts lefts
gave_nothing lefts = record { came = no_bytes lefts; gave = joins_none lefts; long = refl }

-- a merge that has given nothing yet
pub gives_none : (ws : List Waiting) (lefts : List (List ℕ)) → MergesOn ws ws lefts lefts [] → GaveRecords ws ws lefts lefts []
gives_none ws lefts on = record { list = []; records_are = refl; on = on }

-- it gave more records, and then others
pub gives_twice : (old mid new : List Waiting) (befores betweens lefts : List (List ℕ)) (xs ys : List Record) → GaveRecords old mid befores betweens xs → GaveRecords mid new betweens lefts ys → GaveRecords old new befores lefts (xs ++ ys)
gives_twice old mid new befores betweens lefts xs ys first second = record {
  list = first.list ++ second.list;
  records_are = map-append frame_of xs ys ∙ ap (λ (t : List Frame). t ++ map frame_of ys) first.records_are ∙ ap (λ (t : List Frame). map frame_in first.list ++ t) second.records_are
      ∙ sym (map-append frame_in first.list second.list);
  on = merges_twice old mid new befores betweens lefts first.list second.list first.on second.on;
}

-- one record more
pub gives_one : (old new : List Waiting) (befores lefts : List (List ℕ)) (place : ℕ) (r : Record) → length old ≤ 8 → HasForm old (place, r) → MergeReads old new befores lefts (Ok (Some (place, r))) → GaveRecords old new befores lefts (r ∷ [])
gives_one old new befores lefts place r short has reads =
    let form = has.0 in
    let within = slice_get_within (map form_in old) place form has.1.at in
    let long = length-map old form_in in
    record {
      list = arrived place form (bytes_of r) ∷ [];
      records_are = ap (λ (f : Frame). f ∷ []) (same_frame place form r (has.1.fields.place_is (omega (arith, short, within, long))) has.1.fields.fields);
      on = reads form has.1.at;
    }

-- none more
pub gives_no_more : (old mid new : List Waiting) (befores betweens lefts : List (List ℕ)) (records : List Record) → GaveRecords old mid befores betweens records → MergesOn mid new betweens lefts [] → GaveRecords old new befores lefts records
gives_no_more old mid new befores betweens lefts records first on = record {
  list = first.list;
  records_are = first.records_are;
  on = subst (λ (list : List Arrived). MergesOn old new befores lefts list) (append-nil first.list) (merges_twice old mid new befores betweens lefts first.list [] first.on on);
}

pub gave_of : (old new : List Waiting) (befores lefts : List (List ℕ)) (records : List Record) → GaveRecords old new befores lefts records → length lefts ≡ length befores → AllGave befores lefts
gave_of old new befores lefts records gives long = record { came = gives.on.came; gave = gives.on.gave; long = long }

-- the merge refused a capture
pub batch_refused : (old mid new : List Waiting) (befores betweens lefts : List (List ℕ)) (records : List Record) (olds news : List ℕ) (place : ℕ) (e : CaptureError) → GaveRecords old mid befores betweens records → MergesOn mid new betweens lefts [] → StopsAt new (place, e) → LacksRecordAt new (place, e) → length lefts ≡ length befores
    → ReadingFails olds news (place, e) → BatchSays old new befores lefts records (Some (Err (place, e)))
batch_refused old mid new befores betweens lefts records olds news place refusal.Read gives on stop lacks long fails = (gives_no_more old mid new befores betweens lefts records gives on, stop, lacks)
batch_refused old mid new befores betweens lefts records olds news place refusal.Memory gives on stop lacks long fails = gave_of old new befores lefts records (gives_no_more old mid new befores betweens lefts records gives on) long
batch_refused old mid new befores betweens lefts records olds news place (refusal.RecordTooLong asked) gives on stop lacks long fails = (gives_no_more old mid new befores betweens lefts records gives on, stop)
batch_refused old mid new befores betweens lefts records olds news place refusal.HeaderCut gives on stop lacks long fails = absurd fails
batch_refused old mid new befores betweens lefts records olds news place refusal.BadMagic gives on stop lacks long fails = absurd fails
batch_refused old mid new befores betweens lefts records olds news place refusal.BadVersion gives on stop lacks long fails = absurd fails
batch_refused old mid new befores betweens lefts records olds news place (refusal.LinkType link) gives on stop lacks long fails = absurd fails
