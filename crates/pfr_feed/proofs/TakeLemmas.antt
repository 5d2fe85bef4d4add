-- What a book's batch comes to.
use Rattle.std.proofs.Common.{◌≡◌, ◌∙◌, Option, Some, Bool, List, [], ◌∷◌, ◌++◌, map, refl, sym, ap, subst}
use Rattle.std.specs.Option.{option_map_or}
use Rattle.std.proofs.lemmas.List.{append-nil}
use Rattle.pfr_headers.specs.declared.packet.View.{View}
use Rattle.pfr_states.specs.declared.change.Change.{Change}
use Rattle.pfr_capture.specs.declared.capture.Record.{Record}
use Rattle.pfr_packet.specs.Job.{RunJob}
use Rattle.pfr_commit.specs.declared.book.Book.{Book}
use Rattle.pfr_commit.specs.declared.emitted.Emitted.{Emitted}
use Rattle.pfr_commit.specs.Books.{LeadsTo, StandsAt, bare, frames_of, job_of, world_in}
use Rattle.pfr_commit.specs.Emissions.{frame_of, texts_of, with_more}
use Rattle.pfr_commit.specs.World.{Frame, World, joined, no_texts, online, opening, world_after}
use Rattle.pfr_commit.proofs.PlaceLemmas.{each_nowhere}
use Rattle.pfr_commit.proofs.StandLemmas.{nothing_behind}
use Rattle.pfr_commit.proofs.WorldLemmas as worlds
use Rattle.pfr_feed.specs.Batches.{records_of}
use Rattle.pfr_feed.specs.Runs.{AreViewed}
use Rattle.pfr_feed.specs.Turns.{TakesBatch}

pub opening_count : (job : RunJob) (book : Book) → StandsAt book (opening job) → book.count ≡ 0
unfolding opening
opening_count job book stands = ap (λ (w : World). w.count) stands.left

-- if nothing was emitted before, what is emitted is what is written further
leads_on : (old new : Book) (out out' : Emitted) (next : World → World) → texts_of out ≡ no_texts → LeadsTo old new out out' next → (world : World) → StandsAt old world
    → StandsAt new (next world) × (online (job_of old) (next world) ≡ joined (online (job_of old) world) (texts_of out'))
leads_on old new out out' next none leads world stands = leads world (online (job_of old) world) stands (nothing_behind (online (job_of old) world) (texts_of out) none)

-- the frames of packets are those of their records
frames_are : (packets : List (Record × View)) → frames_of packets ≡ map frame_of (records_of packets)
frames_are [] = refl
frames_are (packet ∷ packets) = ap (λ (fs : List Frame). frame_of packet.0 ∷ fs) (frames_are packets)

whole : (world : World) → world ≡ worlds.behind world (bare world)
whole world = rw (append-nil world.verdicts, sym (each_nowhere world.packets), append-nil world.changes, append-nil world.events) refl

-- what packets do to the table stands behind what was done before, and doesn't depend on that
changes_more : (book : Book) (frames : List Frame) (world : World) → StandsAt book world → (world_after (job_of book) world frames).changes ≡ world.changes ++ (world_after (job_of book) (world_in book) frames).changes
changes_more book frames world stands =
    ap (λ (w : World). (world_after (job_of book) w frames).changes) (whole world)
    ∙ ap (λ (w : World). w.changes) (worlds.world_behind (job_of book) world frames (bare world))
    ∙ ap (λ (w : World). world.changes ++ (world_after (job_of book) w frames).changes) (sym stands.left)

-- the batch that a book takes
pub takes_batch : (old new : Book) (out out' : Emitted) (packets : List (Record × View)) → texts_of out ≡ no_texts → LeadsTo old new out out' (λ world. world_after (job_of old) world (frames_of packets))
    → TakesBatch old new (records_of packets) (texts_of out') (world_after (job_of old) (world_in old) (frames_of packets)).changes
takes_batch old new out out' packets none leads = λ world stands.
    let changes = (world_after (job_of old) (world_in old) (frames_of packets)).changes in
    let led = leads_on old new out out' (λ (w : World). world_after (job_of old) w (frames_of packets)) none leads world stands in
    subst (λ (fs : List Frame). StandsAt new (world_after (job_of old) world fs) × (online (job_of old) (world_after (job_of old) world fs) ≡ joined (online (job_of old) world) (texts_of out'))
    × ((world_after (job_of old) world fs).changes ≡ world.changes ++ changes)) (frames_are packets) (led.0, led.1, changes_more old (frames_of packets) world stands)

-- the same of records, each with its view
pub takes_viewed : (old new : Book) (out out' : Emitted) (records : List Record) (packets : List (Record × View)) → texts_of out ≡ no_texts → AreViewed records packets → LeadsTo old new out out' (λ world. world_after (job_of old) world (frames_of packets))
    → TakesBatch old new records (texts_of out') (world_after (job_of old) (world_in old) (frames_of packets)).changes
takes_viewed old new out out' records packets none are leads =
    subst (λ (batch : List Record). TakesBatch old new batch (texts_of out') (world_after (job_of old) (world_in old) (frames_of packets)).changes) are.records_are (takes_batch old new out out' packets none leads)

-- and if a list is lent for what it does to the table
pub takes_listed : (old new : Book) (out out' : Emitted) (packets : List (Record × View)) (kept kept' : Bool) (before changes : List Change) → texts_of out ≡ no_texts → LeadsTo old new out out' (λ world. world_after (job_of old) world (frames_of packets))
    → before ≡ [] → Some (kept', changes) ≡ with_more (Some (kept, before)) (world_after (job_of old) (world_in old) (frames_of packets)).changes → TakesBatch old new (records_of packets) (texts_of out') changes
takes_listed old new out out' packets kept kept' before changes none leads empty listed =
    let are = ap (λ (o : Option (Bool × List Change)). option_map_or (λ it. it.1) o []) listed in
    let same = are ∙ ap (λ (list : List Change). list ++ (world_after (job_of old) (world_in old) (frames_of packets)).changes) empty in
    subst (λ (list : List Change). TakesBatch old new (records_of packets) (texts_of out') list) (sym same) (takes_batch old new out out' packets none leads)
