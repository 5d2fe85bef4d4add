-- Entries by rising number, and the records that are made of them.
use Rattle.std.proofs.Common.{◌≡◌, ℕ, Bool, true, false, ◌&&◌, nat_lt, List, [], ◌∷◌, map, Some, None, refl, inl, inr}
use Rattle.std.specs.List.{filter, list_all}
use Rattle.std.proofs.lemmas.Bool.{and_parts, and_from, cases_Bool}
use Rattle.pfr_track.specs.declared.state.State.{State}
use Rattle.pfr_messages.specs.Messages.{Kind, is_empty}
use Rattle.pfr_messages.specs.Messages.{rise as records_rise}
use Rattle.pfr_sync.specs.declared.queue.QueuedState.{QueuedState}
use Rattle.pfr_sync.specs.declared.queue.Action.{Action}
use Rattle.pfr_sync.specs.declared.queue.Action.TheVariants.{Insert, Update, Delete}
use Rattle.pfr_sync.specs.Messages.{is_insert, is_update, is_delete}
use Rattle.pfr_sync.specs.Queues.{number_of, rise}

-- every number is above this one
abbrev pub are_above : ℕ → List QueuedState → Bool
are_above n entries = list_all (λ other. nat_lt n (number_of other)) entries

above_filter : (n : ℕ) (p : QueuedState → Bool) (entries : List QueuedState) → are_above n entries ≡ true → are_above n (filter p entries) ≡ true
above_filter n p [] above = refl
above_filter n p (e ∷ entries) above =
    let parts = and_parts (nat_lt n (number_of e)) (are_above n entries) above in
    let rest = above_filter n p entries parts.1 in
    elim (cases_Bool (p e)) [
      | inl it_is ↦ rw it_is (and_from (nat_lt n (number_of e)) (are_above n (filter p entries)) parts.0 rest)
      | inr not_it ↦ rw not_it rest
    ]

pub rise_filter : (p : QueuedState → Bool) (entries : List QueuedState) → rise entries ≡ true → rise (filter p entries) ≡ true
rise_filter p [] in_order = refl
rise_filter p (e ∷ entries) in_order =
    let parts = and_parts (are_above (number_of e) entries) (rise entries) in_order in
    let rest = rise_filter p entries parts.1 in
    elim (cases_Bool (p e)) [
      | inl it_is ↦ rw it_is (and_from (are_above (number_of e) (filter p entries)) (rise (filter p entries)) (above_filter (number_of e) p entries parts.0) rest)
      | inr not_it ↦ rw not_it rest
    ]

rise_above : {R : Type 0} (kind : Kind R) (f : QueuedState → R) → ((e : QueuedState) → (kind.number (f e)).0 ≡ number_of e) → (n : ℕ) (entries : List QueuedState) → are_above n entries ≡ true → rise entries ≡ true → records_rise kind (Some n) (map f entries) ≡ true
rise_above kind f same n [] above in_order = refl
rise_above kind f same n (e ∷ entries) above in_order =
    let parts = and_parts (are_above (number_of e) entries) (rise entries) in_order in
    let aboves = and_parts (nat_lt n (number_of e)) (are_above n entries) above in
    rw (same e) (and_from (nat_lt n (number_of e)) (records_rise kind (Some (number_of e)) (map f entries)) aboves.0 (rise_above kind f same (number_of e) entries parts.0 parts.1))

rise_all : {R : Type 0} (kind : Kind R) (f : QueuedState → R) → ((e : QueuedState) → (kind.number (f e)).0 ≡ number_of e) → (entries : List QueuedState) → rise entries ≡ true → records_rise kind None (map f entries) ≡ true
rise_all kind f same [] in_order = refl
rise_all kind f same (e ∷ entries) in_order =
    let parts = and_parts (are_above (number_of e) entries) (rise entries) in_order in
    rw (same e) (rise_above kind f same (number_of e) entries parts.0 parts.1)

-- records of the entries that pass a test
pub rise_records : {R : Type 0} (kind : Kind R) (f : QueuedState → R) (p : QueuedState → Bool) → ((e : QueuedState) → (kind.number (f e)).0 ≡ number_of e) → (entries : List QueuedState) → rise entries ≡ true → records_rise kind None (map f (filter p entries)) ≡ true
rise_records kind f p same entries in_order = rise_all kind f same (filter p entries) (rise_filter p entries in_order)

-- each entry is of one kind
pub some_kind : {I U D : Type 0} (i : QueuedState → I) (u : QueuedState → U) (d : QueuedState → D) (action : Action) (state : State) (entries : List QueuedState)
    → let all = record { action = action; state = state } ∷ entries in
    (is_empty (map i (filter is_insert all)) && (is_empty (map u (filter is_update all)) && is_empty (map d (filter is_delete all)))) ≡ false
some_kind i u d Insert state entries = refl
some_kind i u d Update state entries = elim (cases_Bool (is_empty (map i (filter is_insert entries)))) [ inl is ↦ rw is refl | inr is ↦ rw is refl ]
some_kind i u d Delete state entries =
    elim (cases_Bool (is_empty (map i (filter is_insert entries)))) [
      | inl is ↦ rw is (elim (cases_Bool (is_empty (map u (filter is_update entries)))) [ inl it_is ↦ rw it_is refl | inr it_is ↦ rw it_is refl ])
      | inr is ↦ rw is refl
    ]
