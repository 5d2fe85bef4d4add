-- What is put into a record.
use Rattle.std.proofs.Common.{rules, ◌≡◌, ◌∙◌, ◌<◌, ◌≤◌, ◌+◌, ℕ, length, take, slice_get, Some, true, List, [], ◌∷◌, Result, Ok, Err, OnOk, OnErr, inl, inr, sym, ap, subst}
use Rattle.std.specs.List.{Contains, HoldsAt, list_any}
use Rattle.std.specs.Map.{keys_of}
use Rattle.std.proofs.lemmas.Bool.{cases_Bool}
use Rattle.std.proofs.lemmas.List.Elements.{All-head, All-tail, All-cons, All-nil, Contains-append_left}
use Rattle.std.proofs.lemmas.List.{take_all}
use Rattle.std.proofs.lemmas.List.Elements.{All-more}
use Rattle.std.proofs.lemmas.Option.{get_or_from_slice_get, slice_get_within}
use Rattle.indexmap.specs.IndexMap.{insert_entry}
use Rattle.indexmap.specs.IndexSet.{insert_key}
use Rattle.indexmap.proofs.CallerLemmas.{Contains-insert_key}
use Rattle.indexmap.proofs.SetLemmas.{keys_insert_entry}
use Rattle.pfr_states.specs.declared.question.Question.{Question}
use Rattle.pfr_states.specs.contracts.question.QuestionPartialEq.TheImpl.{ghosts}
use Rattle.pfr_states.specs.States.{StateTable}
use Rattle.pfr_record.specs.declared.answer.Answer.{Answer}
use Rattle.pfr_record.specs.Record.{Agrees, Entries, IsKept, answer_of}

pub same_question : (x y : Question) → ghosts.eq x y ≡ true → x ≡ y
same_question x y h = Prim.search rules

pub agrees_insert : (table : StateTable) (q : Question) (a : Answer) → answer_of table q ≡ a → (entries : Entries) → Agrees table entries → Agrees table (insert_entry ghosts.eq entries q a)
agrees_insert table q a is [] h = All-cons (λ (e : Question × Answer). answer_of table e.0 ≡ e.1) (q, a) [] is (All-nil (λ (e : Question × Answer). answer_of table e.0 ≡ e.1))
agrees_insert table q a is (e ∷ es) h =
    let first = All-head (λ (e : Question × Answer). answer_of table e.0 ≡ e.1) e es h in
    let rest = All-tail (λ (e : Question × Answer). answer_of table e.0 ≡ e.1) e es h in
    elim (cases_Bool (ghosts.eq q e.0)) [
      | inl same ↦ rw same (All-cons (λ (e : Question × Answer). answer_of table e.0 ≡ e.1) (e.0, a) es (ap (answer_of table) (sym (same_question q e.0 same)) ∙ is) rest)
      | inr other ↦ rw other (All-cons (λ (e : Question × Answer). answer_of table e.0 ≡ e.1) e (insert_entry ghosts.eq es q a) first (agrees_insert table q a is es rest))
    ]

pub kept_here : (entries : Entries) (q : Question) (a : Answer) → IsKept (insert_entry ghosts.eq entries q a) q
kept_here entries q a = subst (λ (ks : List Question). Contains ks q) (sym (keys_insert_entry ghosts.eq entries q a)) (Contains-insert_key ghosts.eq same_question (keys_of entries) q)

stays_in : (ks : List Question) (q other : Question) → Contains ks other → Contains (insert_key ghosts.eq ks q) other
stays_in ks q other h = elim (cases_Bool (list_any (ghosts.eq q) ks)) [
  | inl there ↦ rw there h
  | inr new ↦ rw new (Contains-append_left ks (q ∷ []) other h)
]

pub kept_stays : (entries : Entries) (q other : Question) (a : Answer) → IsKept entries other → IsKept (insert_entry ghosts.eq entries q a) other
kept_stays entries q other a h = subst (λ (ks : List Question). Contains ks other) (sym (keys_insert_entry ghosts.eq entries q a)) (stays_in (keys_of entries) q other h)

-- after an insertion, whether memory was refused for it or not
pub stays_after : {T F : Type 0} (r : Result T F) (old new : Entries) (q : Question) (a : Answer) → OnOk r (new ≡ insert_entry ghosts.eq old q a) → OnErr r (new ≡ old) → (other : Question) → IsKept old other → IsKept new other
stays_after (Ok t) old new q a ok err other h = subst (λ (es : Entries). IsKept es other) (sym ok) (kept_stays old q other a h)
stays_after (Err e) old new q a ok err other h = subst (λ (es : Entries). IsKept es other) (sym err) h

pub agrees_after : {T F : Type 0} (r : Result T F) (table : StateTable) (old new : Entries) (q : Question) (a : Answer) → answer_of table q ≡ a
    → OnOk r (new ≡ insert_entry ghosts.eq old q a) → OnErr r (new ≡ old) → Agrees table old → Agrees table new
agrees_after (Ok t) table old new q a is ok err h = subst (λ (es : Entries). Agrees table es) (sym ok) (agrees_insert table q a is old h)
agrees_after (Err e) table old new q a is ok err h = subst (λ (es : Entries). Agrees table es) (sym err) h

-- ---- a record is compared

-- the answer at a place is the table's
pub answered_at : (table : StateTable) (entries : Entries) (i : ℕ) (q : Question) (a : Answer) → slice_get entries i ≡ Some (q, a) → answer_of table q ≡ a
    → HoldsAt (λ entry. answer_of table entry.0 ≡ entry.1) entries i
answered_at table entries i q a at is d = rw (get_or_from_slice_get entries i (q, a) d at) is

-- if the table agrees with the record, it gives the answer at each place
pub answered_of_all : (table : StateTable) (entries : Entries) (i : ℕ) (q : Question) (a : Answer) → slice_get entries i ≡ Some (q, a) → Agrees table entries → answer_of table q ≡ a
answered_of_all table entries i q a at h = rw (get_or_from_slice_get entries i (q, a) (q, a) at) at (h i (q, a) (slice_get_within entries i (q, a) at))

pub agrees_more : (table : StateTable) (entries : Entries) (i : ℕ) → i < length entries → Agrees table (take i entries) → HoldsAt (λ entry. answer_of table entry.0 ≡ entry.1) entries i
    → Agrees table (take (i + 1) entries)
agrees_more table entries i below h here k d within = All-more (λ (e : Question × Answer). answer_of table e.0 ≡ e.1) entries i d below h (here d) k d within

pub agrees_all : (table : StateTable) (entries : Entries) (i : ℕ) → length entries ≤ i → Agrees table (take i entries) → Agrees table entries
agrees_all table entries i past h = rw (take_all i entries past) at h
