-- What is written stays, whatever packets come after.
use Rattle.std.proofs.Common.{◌≡◌, ◌≤◌, ◌<◌, ◌==◌, ℕ, false, List, [], ◌∷◌, ◌++◌, Option, Some, None, inl, inr, fold, refl, sym, ap, ◌∙◌, arith}
use Rattle.std.specs.List.{All, Contains, flat_map}
use Rattle.std.proofs.lemmas.Bool.{cases_Bool, cases_lt, eq-eqb, false≢true, ne_eqb}
use Rattle.std.proofs.lemmas.List.{append_assoc, append-nil}
use Rattle.std.proofs.lemmas.List.Concat.{flat_map-append}
use Rattle.std.proofs.lemmas.List.Elements.{All-append, All-contains, Contains-append_cases}
use Rattle.pfr_track.specs.declared.state.State.{State}
use Rattle.pfr_track.specs.declared.time.Clock.{Clock}
use Rattle.pfr_states.specs.declared.change.TableChange.{TableChange}
use Rattle.pfr_states.specs.declared.change.TableChange.TheVariants as table
use Rattle.pfr_states.specs.States.{all_due, purged, state_of}
use Rattle.pfr_states.proofs.Membership.{here as first_there, in_cons, in_none, there}
use Rattle.pfr_packet.specs.Job.{RunJob}
use Rattle.pfr_messages.specs.Messages.{Content}
use Rattle.pfr_sync.specs.declared.event.EventKind.TheVariants.{Made, Touched, Removed}
use Rattle.pfr_sync.specs.declared.event.Event.{Event}
use Rattle.pfr_sync.specs.declared.origin.Origin.{Origin}
use Rattle.pfr_sync.specs.Laws.{closed_of}
use Rattle.pfr_sync.specs.Messages.{Parts, belongs, closed_at, going_on, message_of, messages_of, open_at, over, parts_of, with_event}
use Rattle.pfr_sync.proofs.LawLemmas.{closed_messages_stay}
use Rattle.pfr_sync.proofs.PartLemmas.{parts_push}
use Rattle.pfr_telling.specs.Telling.{events_of, events_of_change, events_of_purge, events_of_removal, told}
use Rattle.pfr_telling.proofs.ToldLemmas.{each_of, what_is_told}
use Rattle.pfr_commit.specs.Runs.{line_of, next_taken}
use Rattle.pfr_commit.specs.World.{Frame, Texts, World, after, joined, no_texts, online, only_at, opening, origin_of, packet_text, with_outcome, world_after, world_of}
use Rattle.pfr_commit.proofs.PlaceLemmas.{each_assoc}
use Rattle.pfr_commit.proofs.StandLemmas.{nothing_behind, texts_are}
use Rattle.pfr_commit.proofs.WorldLemmas.{world_append}

-- ---- all messages are those that were closed, and the open one

last_whole : (origin : Origin) (clock : Clock) (last : List Event) → over origin clock last ++ message_of origin (going_on clock last) ≡ message_of origin last
last_whole origin clock [] = refl
last_whole origin clock (first ∷ part) = elim (cases_Bool (first.clock.0 == clock.0)) [
  | inl same ↦ rw same refl
  | inr other ↦ rw other (append-nil (message_of origin (first ∷ part)))
]

pub all_messages : (origin : Origin) (clock : Clock) (events : List Event) → messages_of origin events ≡ closed_at origin clock events ++ message_of origin (open_at origin clock events)
all_messages origin clock events =
    let parts = parts_of origin events in
    let closed = flat_map (message_of origin) parts.closed in
    sym (append_assoc closed (over origin clock parts.last) (message_of origin (going_on clock parts.last)) ∙ ap (λ (t : List Content). closed ++ t) (last_whole origin clock parts.last))

-- ---- events of a later clock

-- more were closed
abbrev Goes : (before after : List Content) → Type 0
Goes before after = (rest : List Content) × (after ≡ before ++ rest)

goes_behind : (a b c : List Content) → Goes a b → (rest : List Content) → c ≡ b ++ rest → Goes a c
goes_behind a b c first rest is = (first.0 ++ rest, is ∙ ap (λ (t : List Content). t ++ rest) first.1 ∙ append_assoc a first.0 rest)

abbrev pub IsUpTo : Clock → Event → Type 0
IsUpTo clock event = event.clock.0 ≤ clock.0

-- the last part is empty or goes on
open_grows : (origin : Origin) (clock later : Clock) (events more : List Event) → over origin clock (parts_of origin events).last ≡ [] → Goes (closed_at origin clock events) (closed_at origin later (events ++ more))
open_grows origin clock later events more none =
    let stay = closed_messages_stay origin events more in
    let last = over origin later (parts_of origin (events ++ more)).last in
    (stay.0 ++ last, ap (λ (t : List Content). t ++ last) stay.1 ∙ append_assoc (closed_of origin events) stay.0 last ∙ ap (λ (t : List Content). t ++ (stay.0 ++ last)) (sym (ap (λ (t : List Content). closed_of origin events ++ t) none ∙ append-nil (closed_of origin events))))

-- the last part is closed by what comes later
closed_grows : (origin : Origin) (clock later : Clock) (events more : List Event) (first : Event) (part : List Event) → (parts_of origin events).last ≡ first ∷ part → first.clock.0 < later.0 → (first.clock.0 == clock.0) ≡ false
    → All (λ event. event.clock.0 ≡ later.0) more → Goes (closed_at origin clock events) (closed_at origin later (events ++ more))
closed_grows origin clock later events [] first part last_is before other at = (
  [],
  ap (λ (es : List Event). closed_at origin later es) (append-nil events)
      ∙ ap (λ (t : List Content). closed_of origin events ++ t) (ap (over origin later) last_is ∙ not_at later (ne_eqb first.clock.0 later.0 (λ same. omega (arith, before, same))) ∙ sym (ap (over origin clock) last_is ∙ not_at clock other))
      ∙ sym (append-nil (closed_at origin clock events)),
)
  where
    not_at : (at : Clock) → (first.clock.0 == at.0) ≡ false → over origin at (first ∷ part) ≡ message_of origin (first ∷ part)
    not_at at is = rw is refl
closed_grows origin clock later events (e ∷ more) first part last_is before other at =
    let e_at : e.clock.0 ≡ later.0 = All-contains (λ (event : Event). event.clock.0 ≡ later.0) (e ∷ more) e at (0, omega arith, refl) in
    let apart : (first.clock.0 == e.clock.0) ≡ false = ne_eqb first.clock.0 e.clock.0 (λ same. omega (arith, before, same, e_at)) in
    let parts = parts_of origin events in
    let next : parts_of origin (events ++ e ∷ []) ≡ record { closed = parts.closed ++ parts.last ∷ []; last = e ∷ [] } = parts_push origin events e ∙ begins_anew parts apart last_is in
    let now : closed_of origin (events ++ e ∷ []) ≡ closed_at origin clock events =
    ap (λ (p : Parts). flat_map (message_of origin) p.closed) next
    ∙ flat_map-append (message_of origin) parts.closed (parts.last ∷ [])
    ∙ ap (λ (t : List Content). closed_of origin events ++ t) (append-nil (message_of origin parts.last) ∙ ap (message_of origin) last_is ∙ sym (ap (over origin clock) last_is ∙ not_at))
    in
    let stay = closed_messages_stay origin (events ++ e ∷ []) more in
    let last = over origin later (parts_of origin ((events ++ e ∷ []) ++ more)).last in (
      stay.0 ++ last,
      ap (λ (es : List Event). closed_at origin later es) (sym (append_assoc events (e ∷ []) more))
          ∙ ap (λ (t : List Content). t ++ last) stay.1 ∙ append_assoc (closed_of origin (events ++ e ∷ [])) stay.0 last ∙ ap (λ (t : List Content). t ++ (stay.0 ++ last)) now,
    )
  where
    not_at : over origin clock (first ∷ part) ≡ message_of origin (first ∷ part)
    not_at = rw other refl

    begins_anew : (parts : Parts) → (first.clock.0 == e.clock.0) ≡ false → parts.last ≡ first ∷ part → with_event origin parts e ≡ record { closed = parts.closed ++ parts.last ∷ []; last = e ∷ [] }
    begins_anew parts apart is = rw is (rw apart refl)

abbrev IsAt : Clock → Event → Type 0
IsAt clock event = event.clock.0 ≡ clock.0

-- what holds of all events holds of those of the last part
last_of : (P : Event → Type 0) (origin : Origin) (parts : Parts) (events : List Event) → ((e : Event) → Contains parts.last e → P e) → ((e : Event) → Contains events e → P e)
    → (e : Event) → Contains (fold (with_event origin) parts events).last e → P e
last_of P origin parts [] here all = here
last_of P origin parts (x ∷ events) here all = last_of P origin (with_event origin parts x) events (elim (cases_Bool (belongs origin parts.last x)) [
  | inl is ↦ rw is (λ (e : Event) at. elim (Contains-append_cases parts.last (x ∷ []) e at) [ inl before ↦ here e before | inr now ↦ elim (in_cons x [] e now) [ inl same ↦ rw (← same) (all x (first_there x events)) | inr none ↦ absurd (in_none e none) ] ])
  | inr is ↦ rw is (λ (e : Event) at. elim (in_cons x [] e at) [ inl same ↦ rw (← same) (all x (first_there x events)) | inr none ↦ absurd (in_none e none) ])
]) (λ (e : Event) at. all e (there x events e at))

below : (a b c : ℕ) → a ≤ b → b ≤ c → (a ≡ b → ⊥) → a < c
below a b c one two apart = elim (cases_lt a b) [ inl less ↦ omega (arith, less, two) | inr not_less ↦ absurd (apart (omega (arith, one, not_less))) ]

-- the messages closed by a clock are a beginning of those closed by a later one, with what came then
grows_at : (origin : Origin) (clock later : Clock) (events more : List Event) → clock.0 ≤ later.0 → All (IsUpTo clock) events → All (IsAt later) more → Goes (closed_at origin clock events) (closed_at origin later (events ++ more))
grows_at origin clock later events more is_later before at =
    go (parts_of origin events).last refl
  where
    go : (last : List Event) → (parts_of origin events).last ≡ last → Goes (closed_at origin clock events) (closed_at origin later (events ++ more))
    go [] is = open_grows origin clock later events more (ap (over origin clock) is)
    go (first ∷ part) is = elim (cases_Bool (first.clock.0 == clock.0)) [
      | inl same ↦ open_grows origin clock later events more (ap (over origin clock) is ∙ (rw same refl))
      | inr other ↦
          (let early : first.clock.0 ≤ clock.0 = last_of (IsUpTo clock) origin (record { closed = []; last = [] }) events (λ (e : Event) at. absurd (in_none e at)) (λ (e : Event) at. All-contains (IsUpTo clock) events e before at) first (rw is (first_there first part)) in
          closed_grows origin clock later events more first part is (below first.clock.0 clock.0 later.0 early is_later (λ same. false≢true (sym other ∙ eq-eqb first.clock.0 clock.0 same))) other at)
    ]

-- ---- the events of a packet

each_told : (clock : Clock) (states : List State) (e : Event) → Contains (flat_map (told Removed clock) states) e → IsAt clock e
each_told clock [] e at = absurd (in_none e at)
each_told clock (s ∷ states) e at = elim (Contains-append_cases (told Removed clock s) (flat_map (told Removed clock) states) e at) [
  | inl now ↦ ap (λ (e : Event). e.clock.0) (what_is_told Removed clock s e now)
  | inr later ↦ each_told clock states e later
]

change_told : (clock : Clock) (change : Option TableChange) (states : List State) (e : Event) → Contains (events_of_change clock change states) e → IsAt clock e
change_told clock None states e at = absurd (in_none e at)
change_told clock (Some (table.Made state)) states e at = ap (λ (e : Event). e.clock.0) (what_is_told Made clock state e at)
change_told clock (Some (table.Touched state)) states e at = ap (λ (e : Event). e.clock.0) (what_is_told Touched clock state e at)
change_told clock (Some (table.Removed number)) states e at = removal (state_of number states) at
  where
    removal : (found : Option State) → Contains (events_of_removal clock found) e → IsAt clock e
    removal None at = absurd (in_none e at)
    removal (Some state) at = ap (λ (e : Event). e.clock.0) (what_is_told Removed clock state e at)

packet_told_at : (clock : Clock) (change : Option TableChange) (states : List State) → All (IsAt clock) (events_of clock change states)
unfolding events_of
packet_told_at clock change states =
    All-append (IsAt clock) (events_of_purge clock states) (events_of_change clock change (purged clock states))
    (each_of (IsAt clock) (events_of_purge clock states) (each_told clock (all_due clock states)))
    (each_of (IsAt clock) (events_of_change clock change (purged clock states)) (change_told clock change (purged clock states)))

-- ---- a run

-- each event was told by the clock of the world
abbrev pub IsEarly : World → Type 0
IsEarly world = All (IsUpTo world.clock) world.events

early_next : (job : RunJob) (world : World) (frame : Frame) → IsEarly world → IsEarly (after job world frame)
unfolding after with_outcome
early_next job world frame early =
    let p = next_taken job world frame in
    let later : world.clock.0 ≤ p.clock.0 = omega arith in
    All-append (IsUpTo p.clock) world.events (events_of p.clock p.outcome.change world.table.states)
    (each_of (IsUpTo p.clock) world.events (λ (e : Event) at. let by = All-contains (IsUpTo world.clock) world.events e early at in up_to e.clock.0 world.clock.0 p.clock.0 by later))
    (each_of (IsUpTo p.clock) (events_of p.clock p.outcome.change world.table.states) (λ (e : Event) at. equal_up_to e.clock.0 p.clock.0 (All-contains (IsAt p.clock) (events_of p.clock p.outcome.change world.table.states) e (packet_told_at p.clock p.outcome.change world.table.states) at)))
  where
    up_to : (a b c : ℕ) → a ≤ b → b ≤ c → a ≤ c
    up_to a b c one two = omega (arith, one, two)

    equal_up_to : (a b : ℕ) → a ≡ b → a ≤ b
    equal_up_to a b same = omega (arith, same)

pub early_after : (job : RunJob) (world : World) (frames : List Frame) → IsEarly world → IsEarly (world_after job world frames)
unfolding world_after
early_after job world [] early = early
early_after job world (frame ∷ frames) early = early_after job (after job world frame) frames (early_next job world frame early)

early_opening : (job : RunJob) → IsEarly (opening job)
unfolding opening
early_opening job = λ k d below. absurd (omega (arith, below))

-- what is written is a beginning of what is written after one packet more
pub online_next : (job : RunJob) (world : World) (frame : Frame) → IsEarly world → (added : Texts) × (online job (after job world frame) ≡ joined (online job world) added)
unfolding after with_outcome
online_next job world frame early =
    let p = next_taken job world frame in
    let later : world.clock.0 ≤ p.clock.0 = omega arith in
    let goes = grows_at (origin_of job) world.clock p.clock world.events (events_of p.clock p.outcome.change world.table.states) later early (packet_told_at p.clock p.outcome.change world.table.states) in
    let added : Texts = record { verdicts = line_of job p; packets = only_at frame.place.0 (packet_text frame p.outcome); messages = goes.0 } in
    (added, texts_are (online job (after job world frame)) (joined (online job world) added) refl refl goes.1)

joined_assoc : (a b c : Texts) → joined (joined a b) c ≡ joined a (joined b c)
joined_assoc a b c = texts_are (joined (joined a b) c) (joined a (joined b c)) (append_assoc a.verdicts b.verdicts c.verdicts) (each_assoc a.packets b.packets c.packets) (append_assoc a.messages b.messages c.messages)

online_from : (job : RunJob) (world : World) (frames : List Frame) → IsEarly world → (added : Texts) × (online job (world_after job world frames) ≡ joined (online job world) added)
unfolding world_after
online_from job world [] early = (no_texts, nothing_behind (online job world) no_texts refl)
online_from job world (frame ∷ frames) early =
    let first = online_next job world frame early in
    let rest = online_from job (after job world frame) frames (early_next job world frame early) in
    (joined first.0 rest.0, rest.1 ∙ ap (λ (t : Texts). joined t rest.0) first.1 ∙ joined_assoc (online job world) first.0 rest.0)

-- what is written after some packets is a beginning of what is written after more
pub online_grows : (job : RunJob) (first second : List Frame) → (added : Texts) × (online job (world_of job (first ++ second)) ≡ joined (online job (world_of job first)) added)
unfolding world_of
online_grows job first second =
    let rest = online_from job (world_after job (opening job) first) second (early_after job (opening job) first (early_opening job)) in
    (rest.0, ap (online job) (world_append job (opening job) first second) ∙ rest.1)
