-- The laws.
use Rattle.std.proofs.Common.{◌≡◌, List, [], ◌∷◌, ◌++◌, fold, sym, refl, ap, ◌∙◌, inl, inr}
use Rattle.std.specs.List.{flat_map}
use Rattle.std.proofs.lemmas.Bool.{cases_Bool}
use Rattle.std.proofs.lemmas.List.{append_assoc, append-nil}
use Rattle.std.proofs.lemmas.List.Concat.{flat_map-append}
use Rattle.std.proofs.lemmas.List.Sums.{fold-append}
use Rattle.pfr_sync.specs.declared.event.Event.{Event}
use Rattle.pfr_sync.specs.declared.origin.Origin.{Origin}
use Rattle.pfr_sync.specs.Laws.{ClosedMessagesStay}
use Rattle.pfr_sync.specs.Messages.{Parts, belongs, message_of, parts_of, with_event}

-- a list of parts is a beginning of another one
abbrev Begins : List (List Event) → List (List Event) → Type 0
Begins front whole = (rest : List (List Event)) × (whole ≡ front ++ rest)

begins_step : (origin : Origin) (parts : Parts) (e : Event) → Begins parts.closed (with_event origin parts e).closed
begins_step origin parts e = elim (cases_Bool (belongs origin parts.last e)) [
  | inl is ↦ rw is ([], sym (append-nil parts.closed))
  | inr is ↦ rw is (parts.last ∷ [], refl)
]

begins_from : (origin : Origin) (parts : Parts) (events : List Event) → Begins parts.closed (fold (with_event origin) parts events).closed
begins_from origin parts [] = ([], sym (append-nil parts.closed))
begins_from origin parts (e ∷ events) =
    let here = begins_step origin parts e in
    let rest = begins_from origin (with_event origin parts e) events in
    (here.0 ++ rest.0, rest.1 ∙ ap (λ front. front ++ rest.0) here.1 ∙ append_assoc parts.closed here.0 rest.0)

pub closed_messages_stay : ClosedMessagesStay
closed_messages_stay origin events more =
    let begins = begins_from origin (parts_of origin events) more in
    let parts : parts_of origin (events ++ more) ≡ fold (with_event origin) (parts_of origin events) more = fold-append (with_event origin) (record { closed = []; last = [] }) events more in (
      flat_map (message_of origin) begins.0,
      ap (λ (p : Parts). flat_map (message_of origin) p.closed) parts ∙ ap (flat_map (message_of origin)) begins.1 ∙ flat_map-append (message_of origin) (parts_of origin events).closed begins.0,
    )
