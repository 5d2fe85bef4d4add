-- Every run of the speculative machine.
use Rattle.std.proofs.Common.{◌≡◌, ◌≤◌, ◌<◌, ◌+◌, ℕ, suc, List, [], ◌∷◌, ◌++◌, length, take, Option, Some, None, inl, inr, refl, sym, ap, ◌∙◌, arith}
use Rattle.std.specs.List.{Contains, slice_get}
use Rattle.std.proofs.Math.Seq.{take-suc}
use Rattle.std.proofs.lemmas.Option.{get_or_from_slice_get}
use Rattle.std.proofs.lemmas.List.Elements.{Contains-append_cases, Contains-append_left, Contains-append_right}
use Rattle.pfr_net.specs.declared.interface.InterfacePlace.{InterfacePlace}
use Rattle.pfr_headers.specs.declared.packet.View.{View}
use Rattle.pfr_headers.specs.View.{view_of}
use Rattle.pfr_track.specs.declared.time.Clock.{Clock}
use Rattle.pfr_states.specs.Answers.{purged_at}
use Rattle.pfr_states.specs.States.{StateTable}
use Rattle.pfr_states.proofs.Membership.{in_cons, in_none, there}
use Rattle.pfr_packet.specs.declared.outcome.Outcome.{Outcome}
use Rattle.pfr_packet.specs.Job.{RunJob}
use Rattle.pfr_packet.specs.Steps.{asked_of, step_of}
use Rattle.pfr_record.proofs.SoundLemmas.{sound, sound_outcome}
use Rattle.pfr_commit.specs.Machine.{Commits, Emits, Event, EveryRun, Guess, IsEvaluation, IsSoundGuess, Loses, Machine, Moves, RunsTo, Takes, start}
use Rattle.pfr_commit.specs.Machine.Event.{answer, claim, commit, enter, lose, open_batch, publish, repeat, stranger}
use Rattle.pfr_commit.specs.World.{Frame, Texts, World, after, each_joined, joined, online, opening, with_outcome, world_after, world_of}
use Rattle.pfr_commit.proofs.StandLemmas.{texts_are}
use Rattle.pfr_commit.proofs.WorldLemmas.{after_is, world_append, world_none, world_one}

-- what every state keeps
record Keeps (job : RunJob) (packets : List Frame) (machine : Machine) : Type 0 where
  pub within : machine.opened ≤ length packets
  pub behind : machine.committed ≤ machine.opened
  pub sound : (guess : Guess) → Contains machine.way guess → IsSoundGuess guess
  pub world_is : machine.world ≡ world_of job (take machine.committed packets)
  pub emitted_is : machine.emitted ≡ online job machine.world

-- an evaluation is sound
evaluation_is_sound : (guess : Guess) (job : RunJob) (number : ℕ) (clock : Clock) (place : InterfacePlace) (view : View) (table : StateTable) → IsEvaluation guess job number clock place view table → IsSoundGuess guess
unfolding step_of asked_of
evaluation_is_sound guess job number clock place view table is =
    let a = is.applies in
    rw (a.job_is, a.number_is, a.clock_is, a.place_is, a.view_is)
    (sound (purged_at clock table) job number clock place view guess.outcome guess.answers (record { outcome_is = is.outcome_is; asked_all = is.asked }) a.agrees)

-- the outcome is the packet's, whatever was given
taken : (job : RunJob) (way : List Guess) (given : Option Guess) (number : ℕ) (clock : Clock) (place : InterfacePlace) (view : View) (table : StateTable) (outcome : Outcome) → ((guess : Guess) → Contains way guess → IsSoundGuess guess) → Takes job way given number clock place view table outcome
    → outcome ≡ step_of job number clock place view table
taken job way None number clock place view table outcome each takes = takes
taken job way (Some guess) number clock place view table outcome each takes = elim takes.1 [
  | inl used ↦
      (let a = used.0 in
      used.1 ∙ sound_outcome guess.job job guess.number number guess.clock clock guess.place place guess.view view guess.outcome guess.answers table (each guess takes.0) a.job_is a.number_is a.clock_is a.place_is a.view_is a.agrees)
  | inr dropped ↦ dropped.1
]

-- one packet more of the run
next_world : (job : RunJob) (packets : List Frame) (count : ℕ) (frame : Frame) → slice_get packets count ≡ Some frame → count < length packets → after job (world_of job (take count packets)) frame ≡ world_of job (take (count + 1) packets)
unfolding world_of
next_world job packets count frame is below =
    let step : count + 1 ≡ suc count = omega arith in
    sym (ap (λ (n : ℕ). world_after job (opening job) (take n packets)) step
    ∙ ap (λ (frames : List Frame). world_after job (opening job) frames) (take-suc packets count frame below ∙ ap (λ (f : Frame). take count packets ++ f ∷ []) (get_or_from_slice_get packets count frame frame is))
    ∙ world_append job (opening job) (take count packets) (frame ∷ [])
    ∙ world_one job (world_after job (opening job) (take count packets)) frame)

-- what was emitted with it
emitted_next : (job : RunJob) (world : World) (frame : Frame) (clock : Clock) (outcome : Outcome) (emitted added : Texts) → emitted ≡ online job world → Emits job world frame clock outcome added → joined emitted added ≡ online job (with_outcome job world frame clock outcome)
unfolding with_outcome
emitted_next job world frame clock outcome emitted added is emits =
    texts_are (joined emitted added) (online job (with_outcome job world frame clock outcome))
    (ap (λ (t : Texts). t.verdicts ++ added.verdicts) is ∙ ap (λ (t : List ℕ). world.verdicts ++ t) emits.verdicts_are)
    (ap (λ (t : Texts). each_joined t.packets added.packets) is ∙ ap (each_joined world.packets) emits.packets_are)
    (ap (λ (t : Texts). t.messages ++ added.messages) is ∙ sym emits.messages_are)

kept_start : (job : RunJob) (packets : List Frame) → Keeps job packets (start job)
unfolding world_of opening
kept_start job packets = record {
  within = omega arith;
  behind = omega arith;
  sound = λ guess at. absurd (in_none guess at);
  world_is = sym (world_none job (opening job));
  emitted_is = refl;
}

one_more : (guess : Guess) (way : List Guess) → IsSoundGuess guess → ((guess : Guess) → Contains way guess → IsSoundGuess guess) → (other : Guess) → Contains (guess ∷ way) other → IsSoundGuess other
one_more guess way is each other at = elim (in_cons guess way other at) [ inl same ↦ rw (← same) is | inr rest ↦ each other rest ]

before_loss : (guess : Guess) (old new : List Guess) → Loses guess old new → (other : Guess) → Contains new other → Contains old other
before_loss guess old new loses other at = rw loses.old_is (elim (Contains-append_cases loses.front loses.behind other (rw loses.new_is at at)) [
  | inl front ↦ Contains-append_left loses.front (guess ∷ loses.behind) other front
  | inr behind ↦ Contains-append_right loses.front (guess ∷ loses.behind) other (there guess loses.behind other behind)
])

-- a packet is committed
kept_commit : (job : RunJob) (packets : List Frame) (old new : Machine) (given : Option Guess) → Keeps job packets old → Commits job packets old given new → Keeps job packets new
kept_commit job packets old new given keeps c =
    let outcome_is = taken job old.way given (old.world.count + 1) c.clock c.frame.place (view_of c.frame.link c.frame.bytes) old.world.table c.outcome keeps.sound c.takes in
    let next : with_outcome job old.world c.frame c.clock c.outcome ≡ after job old.world c.frame = after_is job old.world c.frame c.clock (view_of c.frame.link c.frame.bytes) c.outcome (ap (λ (t : Clock). t.0) c.clock_is) refl outcome_is in
    let is_open = c.is_open in
    let within = keeps.within in
    let below : old.committed < length packets = omega (arith, is_open, within) in
    rw c.new_is (record {
      within = keeps.within;
      behind = omega (arith, is_open);
      sound = keeps.sound;
      world_is = next ∙ ap (λ (w : World). after job w c.frame) keeps.world_is ∙ next_world job packets old.committed c.frame c.frame_is below;
      emitted_is = emitted_next job old.world c.frame c.clock c.outcome old.emitted c.added keeps.emitted_is c.emits;
    })

kept_move : (job : RunJob) (packets : List Frame) (old new : Machine) (event : Event) → Keeps job packets old → Moves job packets old event new → Keeps job packets new
kept_move job packets old new (open_batch count) keeps moves =
    let behind = keeps.behind in
    rw moves.1 (record { within = moves.0; behind = omega (arith, behind); sound = keeps.sound; world_is = keeps.world_is; emitted_is = keeps.emitted_is })
kept_move job packets old new (claim place worker) keeps moves =
    rw moves.2 (record { within = keeps.within; behind = keeps.behind; sound = keeps.sound; world_is = keeps.world_is; emitted_is = keeps.emitted_is })
kept_move job packets old new (enter worker commits) keeps moves =
    rw moves.2 (record { within = keeps.within; behind = keeps.behind; sound = keeps.sound; world_is = keeps.world_is; emitted_is = keeps.emitted_is })
kept_move job packets old new (answer place worker index guess) keeps moves =
    let a = moves.0 in
    rw moves.1 (record { within = keeps.within; behind = keeps.behind; sound = one_more guess old.way (evaluation_is_sound guess job _ _ _ _ a.table a.evaluated) keeps.sound; world_is = keeps.world_is; emitted_is = keeps.emitted_is })
kept_move job packets old new (stranger guess) keeps moves =
    rw moves.1 (record { within = keeps.within; behind = keeps.behind; sound = one_more guess old.way moves.0 keeps.sound; world_is = keeps.world_is; emitted_is = keeps.emitted_is })
kept_move job packets old new (lose guess) keeps moves =
    rw moves.2 (record { within = keeps.within; behind = keeps.behind; sound = λ other at. keeps.sound other (before_loss guess old.way moves.0 moves.1 other at); world_is = keeps.world_is; emitted_is = keeps.emitted_is })
kept_move job packets old new (repeat guess) keeps moves =
    rw moves.1 (record { within = keeps.within; behind = keeps.behind; sound = one_more guess old.way (keeps.sound guess moves.0) keeps.sound; world_is = keeps.world_is; emitted_is = keeps.emitted_is })
kept_move job packets old new (commit given) keeps moves = kept_commit job packets old new given keeps moves
kept_move job packets old new publish keeps moves =
    rw moves (record { within = keeps.within; behind = keeps.behind; sound = keeps.sound; world_is = keeps.world_is; emitted_is = keeps.emitted_is })

kept : (job : RunJob) (packets : List Frame) (old : Machine) (events : List Event) (new : Machine) → Keeps job packets old → RunsTo job packets old events new → Keeps job packets new
kept job packets old [] new keeps runs = rw runs keeps
kept job packets old (event ∷ events) new keeps runs = kept job packets runs.0 events new (kept_move job packets old runs.0 event keeps runs.1) runs.2

pub every_run : EveryRun
every_run job packets events machine runs =
    let keeps = kept job packets (start job) events machine (kept_start job packets) runs in
    (keeps.world_is, keeps.emitted_is ∙ ap (online job) keeps.world_is)
