-- Each state that is the end of a run is reached.
use Rattle.std.proofs.Common.{◌≡◌, ◌⊎◌, ◌≤◌, ◌+◌, ◌-◌, ◌==◌, ℕ, suc, zero, if◌then◌else◌, List, [], ◌∷◌, length, take, inl, inr, refl, sym, ap, ◌∙◌, subst, arith}
use Rattle.std.specs.List.{All}
use Rattle.std.proofs.Math.Path.{fun_ext}
use Rattle.std.proofs.lemmas.Bool.{cases_Bool, eqb-true, eqb-false}
use Rattle.std.proofs.lemmas.List.Elements.{All-head, All-tail}
use Rattle.pfr_states.specs.States.{StateTable}
use Rattle.pfr_packet.specs.Job.{RunJob}
use Rattle.pfr_commit.specs.Machine.{Batch, Guess, IsSoundGuess, Machine, start}
use Rattle.pfr_commit.specs.Machine.Event.{enter, publish, stranger}
use Rattle.pfr_commit.specs.World.{Frame, Texts, World, opening, world_after, world_of}
use Rattle.pfr_work.specs.Ends.{IsEnd, Reached, tables_of}
use Rattle.pfr_work.proofs.BatchLemmas.{batches_lead}
use Rattle.pfr_work.proofs.CommitLemmas.{commits_lead, committed_at}
use Rattle.pfr_work.proofs.LeadLemmas.{Leads, leads_on, leads_to, one_event, stays}

-- ---- what workers see

-- one worker sees `count` commits
abbrev now_seen : ℕ → ℕ → (ℕ → ℕ) → ℕ → ℕ
now_seen worker commits sees = λ other. if other == worker then commits else sees other

seen_by : (worker commits : ℕ) (sees : ℕ → ℕ) (other : ℕ) → ((other ≡ worker) × (now_seen worker commits sees other ≡ commits)) ⊎ ((other ≡ worker → ⊥) × (now_seen worker commits sees other ≡ sees other))
seen_by worker commits sees other = elim (cases_Bool (other == worker)) [
  | inl same ↦ inl (eqb-true other worker same, rw same refl)
  | inr apart ↦ inr (eqb-false other worker apart, rw apart refl)
]

-- the workers below a count enter, from the last to the first
enters_lead : (job : RunJob) (packets : List Frame) (machine : Machine) (workers : ℕ) (sees : ℕ → ℕ) → ((worker : ℕ) → machine.sees worker ≤ sees worker) → ((worker : ℕ) → sees worker ≤ machine.published)
    → ((worker : ℕ) → workers ≤ worker → machine.sees worker ≡ sees worker) → Leads job packets machine (record machine { sees = sees })
enters_lead job packets machine zero sees rises published same =
    stays job packets machine (record machine { sees = sees }) (ap (λ (s : ℕ → ℕ). record machine { sees = s }) (sym (fun_ext (λ (worker : ℕ). same worker (omega arith)))))
enters_lead job packets machine (suc worker) sees rises published same =
    let next : Machine = record machine { sees = now_seen worker (sees worker) machine.sees } in
    leads_on job packets machine next (record machine { sees = sees })
    (one_event job packets machine (enter worker (sees worker)) next (rises worker, published worker, refl))
    (enters_lead job packets next worker sees still_rises published still_same)
  where
    still_rises : (other : ℕ) → now_seen worker (sees worker) machine.sees other ≤ sees other
    still_rises other = elim (seen_by worker (sees worker) machine.sees other) [
      | inl own ↦ rw own.1 (rw own.0 (omega arith))
      | inr another ↦ rw another.1 (rises other)
    ]

    above_next : (other : ℕ) → worker ≤ other → (other ≡ worker → ⊥) → suc worker ≤ other
    above_next other above apart = omega (arith, above, apart)

    still_same : (other : ℕ) → worker ≤ other → now_seen worker (sees worker) machine.sees other ≡ sees other
    still_same other above = elim (seen_by worker (sees worker) machine.sees other) [
      | inl own ↦ own.1 ∙ ap sees (sym own.0)
      | inr another ↦ another.1 ∙ same other (above_next other above another.0)
    ]

-- ---- speculations

-- sound ones come from anywhere, the last of the list first
strangers_lead : (job : RunJob) (packets : List Frame) (machine : Machine) (way : List Guess) → machine.way ≡ [] → All IsSoundGuess way → Leads job packets machine (record machine { way = way })
strangers_lead job packets machine [] none sound = stays job packets machine (record machine { way = [] }) (ap (λ (way : List Guess). record machine { way = way }) (sym none))
strangers_lead job packets machine (guess ∷ way) none sound =
    leads_on job packets machine (record machine { way = way }) (record machine { way = guess ∷ way })
    (strangers_lead job packets machine way none (All-tail IsSoundGuess guess way sound))
    (one_event job packets (record machine { way = way }) (stranger guess) (record machine { way = guess ∷ way }) (All-head IsSoundGuess guess way sound, refl))

-- ---- the end

-- a state with these batches, of which nothing is committed
abbrev opened_at : RunJob → List Batch → ℕ → Machine
opened_at job batches opened = record (start job) { batches = batches; opened = opened }

none_committed : (job : RunJob) (packets : List Frame) (batches : List Batch) (opened : ℕ) → opened_at job batches opened ≡ committed_at job packets (opened_at job batches opened) 0
unfolding world_of world_after opening
none_committed job packets batches opened = refl

-- `count` more are committed
commits_on : (job : RunJob) (packets : List Frame) (machine : Machine) (count last : ℕ) → count ≤ last → last ≤ machine.opened → machine.opened ≤ length packets → Leads job packets (committed_at job packets machine count) (committed_at job packets machine last)
commits_on job packets machine count last rises below within =
    let is : count + (last - count) ≡ last = omega (arith, rises) in
    leads_to job packets (committed_at job packets machine count) (committed_at job packets machine (count + (last - count))) (committed_at job packets machine last) (ap (committed_at job packets machine) is)
    (commits_lead job packets machine count (last - count) (omega (arith, is, below)) within)

-- the end is what its parts are
end_is : (job : RunJob) (packets : List Frame) (workers : ℕ) (machine : Machine) → IsEnd job packets workers machine → committed_at job packets machine machine.committed ≡ machine
end_is job packets workers machine is =
    let by : List StateTable → World → Texts → Machine = λ tables world emitted. record machine { tables = tables; world = world; emitted = emitted } in
    let world = world_of job (take machine.committed packets) in
    sym (ap (λ (tables : List StateTable). by tables machine.world machine.emitted) is.tables_are
    ∙ ap (λ (w : World). by (tables_of job packets machine.committed) w machine.emitted) is.world_is
    ∙ ap (by (tables_of job packets machine.committed) world) is.emitted_is)

pub reached : Reached
reached job packets workers machine is =
    let opened = opened_at job machine.batches machine.opened in
    let published = committed_at job packets opened machine.published in
    let told : Machine = record published { published = machine.published } in
    let entered : Machine = record told { sees = machine.sees } in
    let committed = committed_at job packets entered machine.committed in
    let on = leads_on job packets in
    on (start job) opened machine
    (batches_lead job packets (start job) machine.batches machine.opened is.follow is.drawn is.within)
    (on opened published machine
    (subst (λ (m : Machine). Leads job packets m published) (sym (none_committed job packets machine.batches machine.opened)) (commits_on job packets opened 0 machine.published (omega arith) (omega (arith, few_published)) is.within))
    (on published told machine
    (one_event job packets published publish told refl)
    (on told entered machine
    (enters_lead job packets told workers machine.sees (λ (worker : ℕ). omega arith) is.seen (λ (worker : ℕ) above. sym (is.few worker above)))
    (on entered committed machine
    (commits_on job packets entered machine.published machine.committed is.published_few is.committed_few is.within)
    (leads_to job packets committed (record committed { way = machine.way }) machine (end_is job packets workers machine is)
    (strangers_lead job packets committed machine.way refl is.sound))))))
  where
    few_published : machine.published ≤ machine.opened
    few_published =
        let one = is.published_few in
        let two = is.committed_few in
        omega (arith, one, two)
