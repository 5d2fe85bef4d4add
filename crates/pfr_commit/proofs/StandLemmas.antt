-- Worlds at which a book stands.
use Rattle.std.proofs.Common.{◌≡◌, ◌≤◌, ◌+◌, ◌-◌, max, ℕ, List, [], ◌++◌, Option, Some, None, IfSome, map, take, length, refl, sym, ap, ◌∙◌, subst, ◌<◌, get_or}
use Rattle.std.specs.List.{All}
use Rattle.std.proofs.lemmas.List.{append_assoc, append-nil}
use Rattle.pfr_net.specs.declared.interface.InterfacePlace.{InterfacePlace}
use Rattle.pfr_headers.specs.declared.packet.View.{View}
use Rattle.pfr_headers.specs.View.{view_of}
use Rattle.pfr_track.specs.declared.state.State.{State}
use Rattle.pfr_track.specs.declared.time.Clock.{Clock}
use Rattle.pfr_states.specs.declared.change.TableChange.{TableChange}
use Rattle.pfr_states.specs.declared.change.TableChange.TheVariants.{Made, Touched, Removed}
use Rattle.pfr_states.specs.Answers.{purged_at}
use Rattle.pfr_states.specs.States.{StateTable, purged}
use Rattle.pfr_packet.specs.declared.outcome.Outcome.{Outcome}
use Rattle.pfr_packet.specs.Job.{RunJob}
use Rattle.pfr_packet.specs.Laws.{IsOwnChange}
use Rattle.pfr_packet.specs.Steps.{step_of}
use Rattle.pfr_messages.specs.Messages.{Content}
use Rattle.pfr_sync.specs.declared.event.Event.{Event}
use Rattle.pfr_sync.specs.declared.origin.Origin.{Origin}
use Rattle.pfr_sync.specs.Messages.{closed_at}
use Rattle.pfr_sync.specs.Queues.{Tells}
use Rattle.pfr_telling.specs.declared.telling.Telling.{Telling}
use Rattle.pfr_telling.specs.Telling.{AreTold, HasTold, IsNextChange, changed, events_of, events_of_change, events_of_purge}
use Rattle.pfr_telling.proofs.ToldLemmas.{told_by_then, told_of_change}
use Rattle.pfr_commit.specs.declared.book.Book.{Book}
use Rattle.pfr_commit.specs.declared.emitted.Emitted.{Emitted}
use Rattle.pfr_commit.specs.Books.{LeadsTo, LeavesTexts, StandsAt, bare, job_of, untold, world_in, world_with}
use Rattle.pfr_commit.specs.Emissions.{packets_of, texts_of}
use Rattle.pfr_commit.specs.World.{ByPlace, Frame, Texts, World, after, each_joined, joined, no_texts, online, origin_of, with_outcome, world_after}
use Rattle.pfr_commit.proofs.BookLemmas.{same_job}
use Rattle.pfr_commit.proofs.PlaceLemmas.{each_assoc, each_nowhere}
use Rattle.pfr_commit.proofs.WorldLemmas.{after_is, nothing_taken, part_taken, world_next, world_none}

-- what an evaluation changes, as it is told
change_is_next : (count : ℕ) (clock : Clock) (place : InterfacePlace) (states : List State) (outcome : Outcome) (change : TableChange) → IsOwnChange (count + 1) clock place states outcome change → IsNextChange count states change
change_is_next count clock place states outcome (Made state) own = own.number_is
change_is_next count clock place states outcome (Touched state) own = (own.before, own.is_there, own.number_is)
change_is_next count clock place states outcome (Removed number) own = tt

pub option_change_is_next : (count : ℕ) (clock : Clock) (place : InterfacePlace) (states : List State) (outcome : Outcome) (change : Option TableChange) → IfSome change (λ change. IsOwnChange (count + 1) clock place states outcome change) → IfSome change (λ change. IsNextChange count states change)
option_change_is_next count clock place states outcome None own = tt
option_change_is_next count clock place states outcome (Some change) own = change_is_next count clock place states outcome change own

-- ---- one packet

-- what the calls for a packet have told, from one table to the next
pub record TellsPacket (old begun purged_telling new : Telling) (clock later : Clock) (states purged_states : List State) (change : Option TableChange) : Type 0 where
  pub begin : (before : List Content) (events : List Event) → Tells old.queue clock events → closed_at old.queue.origin clock events ≡ before → All (λ event. event.clock.0 ≤ clock.0) events → HasTold before begun later events
  pub purge : (before : List Content) (events : List Event) (count : ℕ) → HasTold before begun later events → AreTold count later states events
      → HasTold before purged_telling later (events ++ events_of_purge later states) × AreTold count later purged_states (events ++ events_of_purge later states)
  pub next : (before : List Content) (events : List Event) (count : ℕ) → HasTold before purged_telling later events → AreTold count later purged_states events → IfSome change (λ change. IsNextChange count purged_states change)
      → HasTold before new later (events ++ events_of_change later change purged_states)
  pub origin_is : new.queue.origin ≡ old.queue.origin

-- the events of a packet after others
packet_events : (clock : Clock) (change : Option TableChange) (states : List State) (events : List Event)
    → (events ++ events_of_purge clock states) ++ events_of_change clock change (purged clock states) ≡ events ++ events_of clock change states
unfolding events_of
packet_events clock change states events = append_assoc events (events_of_purge clock states) (events_of_change clock change (purged clock states))

-- both, what is told and what that says of the states
packet_told : (old begun purged_telling new : Telling) (clock later : Clock) (states purged_states : List State) (limit count : ℕ) (change : Option TableChange) (events : List Event) → TellsPacket old begun purged_telling new clock later states purged_states change
    → clock.0 ≤ later.0 → purged_states ≡ purged later states → Tells old.queue clock events → AreTold count clock states events → IfSome change (λ change. IsNextChange count purged_states change)
    → HasTold (closed_at old.queue.origin clock events) new later (events ++ events_of later change states)
    × AreTold (count + 1) later (changed change (record { states = purged_states; limit = limit })).states (events ++ events_of later change states)
packet_told old begun purged_telling new clock later states purged_states limit count change events tells is_later purged_is tells_open are next =
    let begun_told = tells.begin (closed_at old.queue.origin clock events) events tells_open refl are.clocks in
    let both = tells.purge (closed_at old.queue.origin clock events) events count begun_told (told_by_then count clock later states events is_later are) in
    let told = tells.next (closed_at old.queue.origin clock events) (events ++ events_of_purge later states) count both.0 both.1 next in
    let then_are = told_of_change count later (record { states = purged_states; limit = limit }) (events ++ events_of_purge later states) change both.1 next in
    let all = ap (λ (ss : List State). (events ++ events_of_purge later states) ++ events_of_change later change ss) purged_is ∙ packet_events later change states events in (
      subst (λ (es : List Event). HasTold (closed_at old.queue.origin clock events) new later es) all told,
      subst (λ (es : List Event). AreTold (count + 1) later (changed change (record { states = purged_states; limit = limit })).states es) all then_are,
    )

-- the world at which a book stands, by what the book holds of it
abbrev around : Book → World → World
around book world = record (world_in book) { verdicts = world.verdicts; packets = world.packets; changes = world.changes; events = world.events }

around_is : (book : Book) (world : World) → world_in book ≡ bare world → around book world ≡ world
around_is book world left = ap (λ (w : World). record w { verdicts = world.verdicts; packets = world.packets; changes = world.changes; events = world.events }) left

abbrev texts_by : List ℕ → ByPlace → List Content → Texts
texts_by verdicts packets messages = record { verdicts = verdicts; packets = packets; messages = messages }

pub texts_are : (a b : Texts) → a.verdicts ≡ b.verdicts → a.packets ≡ b.packets → a.messages ≡ b.messages → a ≡ b
texts_are a b verdicts packets messages =
    ap (λ (t : List ℕ). texts_by t a.packets a.messages) verdicts ∙ ap (λ (t : ByPlace). texts_by b.verdicts t a.messages) packets ∙ ap (λ (t : List Content). texts_by b.verdicts b.packets t) messages

-- nothing appended to texts
pub nothing_behind : (texts more : Texts) → more ≡ no_texts → texts ≡ joined texts more
nothing_behind texts more none =
    texts_are texts (joined texts no_texts) (sym (append-nil texts.verdicts)) (each_nowhere texts.packets) (sym (append-nil texts.messages)) ∙ ap (λ (t : Texts). joined texts t) (sym none)

-- one text more appended to others
behind_both : {X : Type 0} (all before out out' more : List X) → all ≡ before ++ out → out' ≡ out ++ more → all ++ more ≡ before ++ out'
behind_both all before out out' more all_is out_is = rw (all_is, out_is) (append_assoc before out more)

-- the same of texts by place
behind_each : (all before out out' more : ByPlace) → all ≡ each_joined before out → out' ≡ each_joined out more → each_joined all more ≡ each_joined before out'
behind_each all before out out' more all_is out_is = rw (all_is, out_is) (each_assoc before out more)

-- the messages that were closed after others
messages_behind : (origin told_origin job_origin : Origin) (clock later : Clock) (events more : List Event) (before out out' closed : List Content) → told_origin ≡ origin → origin ≡ job_origin
    → closed_at told_origin later more ≡ closed_at origin clock events ++ closed → closed_at job_origin clock events ≡ before ++ out → out' ≡ out ++ closed
    → closed_at job_origin later more ≡ before ++ out'
messages_behind origin told_origin job_origin clock later events more before out out' closed told_is origin_is closes on out_is =
    ap (λ (o : Origin). closed_at o later more) (sym (told_is ∙ origin_is)) ∙ closes ∙ ap (λ (o : Origin). closed_at o clock events ++ closed) origin_is ∙ behind_both (closed_at job_origin clock events) before out out' closed on out_is

same_origin : (old new : Book) → new.job ≡ old.job → origin_of (job_of old) ≡ origin_of (job_of new)
same_origin old new is = rw is refl

-- a packet's outcome leads from a world to the next one
pub outcome_leads : (old new : Book) (out out' : Emitted) (frame : Frame) (clock : Clock) (outcome : Outcome) (begun purged_telling told : Telling) (left : StateTable)
    → old.clock.0 ≤ clock.0 → left ≡ purged_at clock old.table → IfSome outcome.change (λ change. IsOwnChange (old.count + 1) clock frame.place (purged clock old.table.states) outcome change)
    → TellsPacket old.telling begun purged_telling told old.clock clock old.table.states left.states outcome.change → new.job ≡ old.job → new.telling.queue ≡ told.queue
    → out'.messages.items ≡ out.messages.items ++ told.closed.items → world_with new out' ≡ untold (with_outcome (job_of old) (world_with old out) frame clock outcome)
    → LeadsTo old new out out' (λ world. with_outcome (job_of old) world frame clock outcome)
unfolding with_outcome purged_at
outcome_leads old new out out' frame clock outcome begun purged_telling told left is_later left_is own tells job_is queue_is messages_are world_is world before stands on =
    subst (λ (w : World). StandsAt old w → online (job_of old) w ≡ joined before (texts_of out) → StandsAt new (with_outcome (job_of old) w frame clock outcome) × (online (job_of old) (with_outcome (job_of old) w frame clock outcome) ≡ joined before (texts_of out')))
    (around_is old world stands.left) go stands on
  where
    go : StandsAt old (around old world) → online (job_of old) (around old world) ≡ joined before (texts_of out) → StandsAt new (with_outcome (job_of old) (around old world) frame clock outcome) × (online (job_of old) (with_outcome (job_of old) (around old world) frame clock outcome) ≡ joined before (texts_of out'))
    go at is =
        let states_are : left.states ≡ purged clock old.table.states = ap (λ (t : StateTable). t.states) left_is in
        let next = subst (λ (ss : List State). IfSome outcome.change (λ change. IsNextChange old.count ss change)) (sym states_are) (option_change_is_next old.count clock frame.place (purged clock old.table.states) outcome outcome.change own) in
        let both = packet_told old.telling begun purged_telling told old.clock clock old.table.states left.states old.table.limit old.count outcome.change world.events tells is_later states_are at.tells at.told next in
        let all = world.events ++ events_of clock outcome.change old.table.states in (
          record {
            left = ap bare world_is;
            origin_is = rw queue_is (tells.origin_is ∙ at.origin_is ∙ same_origin old new job_is);
            tells = rw queue_is both.0.tells;
            told = subst (λ (ss : List State). AreTold (old.count + 1) clock (changed outcome.change (record { states = ss; limit = old.table.limit })).states all) states_are both.1;
          },
          texts_are (online (job_of old) (with_outcome (job_of old) (around old world) frame clock outcome)) (joined before (texts_of out'))
              (behind_both world.verdicts before.verdicts out.verdicts.items out'.verdicts.items _ (ap (λ (t : Texts). t.verdicts) is) (ap (λ (w : World). w.verdicts) world_is))
              (behind_each world.packets before.packets (packets_of out.packets) (packets_of out'.packets) _ (ap (λ (t : Texts). t.packets) is) (ap (λ (w : World). w.packets) world_is))
              (messages_behind old.telling.queue.origin told.queue.origin (origin_of (job_of old)) old.clock clock world.events all before.messages out.messages.items out'.messages.items told.closed.items
              tells.origin_is at.origin_is both.0.closed (ap (λ (t : Texts). t.messages) is) messages_are),
        )

-- a book that holds the same as another one stands at the same world
restand : (book other : Book) (world : World) → world_in other ≡ world_in book → other.telling ≡ book.telling → other.job ≡ book.job → StandsAt book world → StandsAt other world
restand book other world left telling job at = record {
  left = left ∙ at.left;
  origin_is = ap (λ (t : Telling). t.queue.origin) telling ∙ at.origin_is ∙ same_origin book other job;
  tells = subst (λ (t : Telling). Tells t.queue world.clock world.events) (sym telling) at.tells;
  told = at.told;
}

-- the same, from the packet itself; `begun` is the book as it was, and `new` the one that is left
pub taken_leads : (old begun done new : Book) (out out' : Emitted) (frame : Frame) (clock : Clock) (view : View) (outcome : Outcome)
    → world_in begun ≡ world_in old → begun.telling ≡ old.telling → begun.job ≡ old.job → world_in new ≡ world_in done → new.telling ≡ done.telling → new.job ≡ done.job
    → clock.0 ≡ max old.clock.0 frame.seconds → view ≡ view_of frame.link frame.bytes → outcome ≡ step_of (job_of old) (old.count + 1) clock frame.place view old.table
    → LeadsTo begun done out out' (λ world. with_outcome (job_of begun) world frame clock outcome)
    → LeadsTo old new out out' (λ world. after (job_of old) world frame)
taken_leads old begun done new out out' frame clock view outcome left telling job left' telling' job' clock_is view_is outcome_is leads world before stands on =
    let count : old.count ≡ world.count = ap (λ (w : World). w.count) stands.left in
    let clock_was : old.clock ≡ world.clock = ap (λ (w : World). w.clock) stands.left in
    let table : old.table ≡ world.table = ap (λ (w : World). w.table) stands.left in
    let job_is : job_of begun ≡ job_of old = same_job begun old job in
    let led = leads world before (restand old begun world left telling job stands) (subst (λ (j : RunJob). online j world ≡ joined before (texts_of out)) (sym job_is) on) in
    let now : with_outcome (job_of begun) world frame clock outcome ≡ with_outcome (job_of old) world frame clock outcome = ap (λ (j : RunJob). with_outcome j world frame clock outcome) job_is in
    let next = now ∙ after_is (job_of old) world frame clock view outcome
    (clock_is ∙ ap (λ (c : Clock). max c.0 frame.seconds) clock_was) view_is
    (outcome_is ∙ ap (λ (n : ℕ). step_of (job_of old) (n + 1) clock frame.place view old.table) count ∙ ap (λ (t : StateTable). step_of (job_of old) (world.count + 1) clock frame.place view t) table) in
    subst (λ (w : World). StandsAt new w × (online (job_of old) w ≡ joined before (texts_of out'))) next (
      restand done new (with_outcome (job_of begun) world frame clock outcome) left' telling' job' led.0,
      subst (λ (j : RunJob). online j (with_outcome (job_of begun) world frame clock outcome) ≡ joined before (texts_of out')) job_is led.1,
    )

-- ---- a batch

pub leads_none : (book : Book) (out : Emitted) (frames : List Frame) → frames ≡ [] → LeadsTo book book out out (λ world. world_after (job_of book) world frames)
leads_none book out frames none world before stands on =
    let same : world ≡ world_after (job_of book) world frames = sym (ap (λ (fs : List Frame). world_after (job_of book) world fs) none ∙ world_none (job_of book) world) in
    subst (λ (w : World). StandsAt book w × (online (job_of book) w ≡ joined before (texts_of out))) same (stands, on)

pub leads_next : {X : Type 0} (start mid new : Book) (out out' out'' : Emitted) (g : X → Frame) (xs : List X) (i : ℕ) (d p : X) → job_of mid ≡ job_of start → p ≡ get_or xs i d → i < length xs
    → LeadsTo start mid out out' (λ world. world_after (job_of start) world (map g (take i xs))) → LeadsTo mid new out' out'' (λ world. after (job_of mid) world (g p))
    → LeadsTo start new out out'' (λ world. world_after (job_of start) world (map g (take (i + 1) xs)))
leads_next {X = X} start mid new out out' out'' g xs i d p job_is p_is below first second world before stands on =
    let led_first = first world before stands on in
    let at = world_after (job_of start) world (map g (take i xs)) in
    let led = second at before led_first.0 (subst (λ (job : RunJob). online job at ≡ joined before (texts_of out')) (sym job_is) led_first.1) in
    let step : after (job_of mid) at (g p) ≡ world_after (job_of start) world (map g (take (i + 1) xs)) =
    ap (λ (job : RunJob). after job at (g p)) job_is ∙ ap (λ (x : X). after (job_of start) at (g x)) p_is ∙ sym (world_next (job_of start) world g xs i d below) in
    subst (λ (w : World). StandsAt new w × (online (job_of start) w ≡ joined before (texts_of out''))) step
    (led.0, subst (λ (job : RunJob). online job (after (job_of mid) at (g p)) ≡ joined before (texts_of out'')) job_is led.1)

-- memory was refused after `i` packets
pub leaves_part : {X : Type 0} (start mid : Book) (count : ℕ) (out out' out'' : Emitted) (g : X → Frame) (xs : List X) (i : ℕ) → count ≡ start.count + i → texts_of out'' ≡ texts_of out'
    → LeadsTo start mid out out' (λ world. world_after (job_of start) world (map g (take i xs))) → LeavesTexts start count out out'' (map g xs)
leaves_part start mid count out out' out'' g xs i count_is texts_is leads world before stands on =
    let was : start.count ≡ world.count = ap (λ (w : World). w.count) stands.left in
    let taken = part_taken (job_of start) world g xs world.count count i (count_is ∙ ap (λ (n : ℕ). n + i) was) in
    ap (λ (w : World). online (job_of start) w) (sym taken) ∙ (leads world before stands on).1 ∙ ap (λ (t : Texts). joined before t) (sym texts_is)

pub leaves_none : (start : Book) (count : ℕ) (out out' : Emitted) (frames : List Frame) → count ≡ start.count → texts_of out' ≡ texts_of out → LeavesTexts start count out out' frames
leaves_none start count out out' frames count_is texts_is world before stands on =
    let was : count ≡ world.count = count_is ∙ ap (λ (w : World). w.count) stands.left in
    let none : world ≡ world_after (job_of start) world (take (count - world.count) frames) = rw was (nothing_taken (job_of start) world world.count frames) in
    ap (λ (w : World). online (job_of start) w) (sym none) ∙ on ∙ ap (λ (t : Texts). joined before t) (sym texts_is)
