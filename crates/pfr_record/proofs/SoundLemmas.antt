-- Why a record is sound: the packet was evaluated over one table, which agrees with the record.
use Rattle.std.proofs.Common.{◌≡◌, ◌∙◌, ℕ, List, sym, subst}
use Rattle.std.specs.List.{All}
use Rattle.std.specs.Map.{keys_of}
use Rattle.std.proofs.lemmas.List.Elements.{All-map, All-contains, All-weaker}
use Rattle.pfr_net.specs.declared.interface.InterfacePlace.{InterfacePlace}
use Rattle.pfr_headers.specs.declared.packet.View.{View}
use Rattle.pfr_track.specs.declared.time.Clock.{Clock}
use Rattle.pfr_states.specs.declared.question.Question.{Question}
use Rattle.pfr_states.specs.declared.question.Question.TheVariants.{At, Room, RuleRoom}
use Rattle.pfr_states.specs.Answers.{SameAnswer, purged_at}
use Rattle.pfr_states.specs.States.{StateTable}
use Rattle.pfr_packet.specs.declared.outcome.Outcome.{Outcome}
use Rattle.pfr_packet.specs.Job.{RunJob}
use Rattle.pfr_packet.specs.Plan.{Goes, questions_of}
use Rattle.pfr_packet.specs.Steps.{asked_of, plan, step_of}
use Rattle.pfr_packet.proofs.Local.{local}
use Rattle.pfr_record.specs.declared.answer.Answer.{Answer}
use Rattle.pfr_record.specs.Record.{Agrees, Entries, IsKept, IsSound, answer_of}

same_answer : (table other : StateTable) (q : Question) → answer_of table q ≡ answer_of other q → SameAnswer table other q
same_answer table other (At side key scope) h = cc h
same_answer table other Room h = cc h
same_answer table other (RuleRoom rule most) h = cc h

-- two tables that agree with a record answer all that is in it the same
agree_alike : (table other : StateTable) (entries : Entries) → Agrees table entries → Agrees other entries → (q : Question) → IsKept entries q → SameAnswer table other q
agree_alike table other entries h k q kept =
    same_answer table other q (All-contains (λ (q : Question). answer_of table q ≡ answer_of other q) (keys_of entries) q
    (All-map (λ (q : Question). answer_of table q ≡ answer_of other q) (λ (e : Question × Answer). e.0) entries (λ i d below. h i d below ∙ sym (k i d below))) kept)

pub sound : (table : StateTable) (job : RunJob) (number : ℕ) (clock : Clock) (place : InterfacePlace) (view : View) (outcome : Outcome) (entries : Entries)
    → Goes table (plan job number clock place view) outcome (IsKept entries) → Agrees table entries → IsSound job number clock place view outcome entries
unfolding step_of asked_of
sound table job number clock place view outcome entries goes agrees = λ other h.
    let same = All-weaker (IsKept entries) (SameAnswer table (purged_at clock other)) (agree_alike table (purged_at clock other) entries agrees h) (questions_of table (plan job number clock place view)) goes.asked_all in
    let both = local table (purged_at clock other) (plan job number clock place view) same in (
      both.0 ∙ sym goes.outcome_is,
      subst (λ (qs : List Question). All (λ question. ∥ IsKept entries question ∥₁) qs) (sym both.1)
          (All-weaker (IsKept entries) (λ question. ∥ IsKept entries question ∥₁) (λ question kept. ∣ kept ∣₁) (questions_of table (plan job number clock place view)) goes.asked_all),
    )

-- what a sound record says of a table that agrees with it
pub sound_outcome : (said job : RunJob) (m number : ℕ) (past clock : Clock) (there place : InterfacePlace) (seen view : View) (outcome : Outcome) (entries : Entries) (table : StateTable)
    → IsSound said m past there seen outcome entries → said ≡ job → m ≡ number → past ≡ clock → there ≡ place → seen ≡ view → Agrees (purged_at clock table) entries
    → outcome ≡ step_of job number clock place view table
sound_outcome said job m number past clock there place seen view outcome entries table is a b c p d h =
    rw (← a, ← b, ← p, ← d) (subst (λ (t : Clock). Agrees (purged_at t table) entries → outcome ≡ step_of said m t there seen table) c (λ k. sym (is table k).0) h)
