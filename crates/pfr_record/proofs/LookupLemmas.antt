-- What is noted in a record keeps what was noted before.
use Rattle.std.proofs.Common.{◌≡◌, ◌⊎◌, inl, inr, Bool, false, List, [], ◌∷◌, ◌++◌, Option, Some, None, Result, OnOk, OnErr, ap, sym, subst}
use Rattle.std.specs.List.{Contains}
use Rattle.std.specs.Map.{keys_of}
use Rattle.std.proofs.lemmas.List.{map-append}
use Rattle.std.proofs.lemmas.List.Elements.{All-append, All-head, All-tail, All-cons, All-nil, Contains-append_left, Contains-append_right, Contains-append_cases, Contains-push}
use Rattle.indexmap.specs.IndexMap.{insert_entry}
use Rattle.pfr_net.specs.declared.interface.Binding.{Binding}
use Rattle.pfr_track.specs.declared.key.Key.{Key}
use Rattle.pfr_track.specs.declared.state.State.{State}
use Rattle.pfr_states.specs.declared.change.Side.{Side}
use Rattle.pfr_states.specs.declared.question.Question.{Question}
use Rattle.pfr_states.specs.declared.question.Question.TheVariants.{At, Room}
use Rattle.pfr_states.specs.contracts.question.QuestionPartialEq.TheImpl.{ghosts}
use Rattle.pfr_states.specs.Answers.{found_in, has_room_in}
use Rattle.pfr_states.specs.States.{StateTable}
use Rattle.pfr_record.specs.declared.answer.Answer.{Answer}
use Rattle.pfr_record.specs.declared.answer.Answer.TheVariants.{Found, HasRoom, HasRuleRoom}
use Rattle.pfr_record.specs.Record.{Agrees, Entries, IsKept, Keeps, answer_of, entries_of, missed, room_of}
use Rattle.pfr_record.proofs.RecordLemmas.{agrees_after, stays_after}

-- ---- parts of a record

pub kept_left : (xs ys : Entries) (q : Question) → IsKept xs q → IsKept (xs ++ ys) q
kept_left xs ys q h = subst (λ (ks : List Question). Contains ks q) (sym (map-append (λ (e : Question × Answer). e.0) xs ys)) (Contains-append_left (keys_of xs) (keys_of ys) q h)

pub kept_right : (xs ys : Entries) (q : Question) → IsKept ys q → IsKept (xs ++ ys) q
kept_right xs ys q h = subst (λ (ks : List Question). Contains ks q) (sym (map-append (λ (e : Question × Answer). e.0) xs ys)) (Contains-append_right (keys_of xs) (keys_of ys) q h)

kept_in : (xs ys : Entries) (q : Question) → IsKept (xs ++ ys) q → IsKept xs q ⊎ IsKept ys q
kept_in xs ys q h = Contains-append_cases (keys_of xs) (keys_of ys) q (subst (λ (ks : List Question). Contains ks q) (map-append (λ (e : Question × Answer). e.0) xs ys) h)

pub kept_alone : (q : Question) (a : Answer) → IsKept ((q, a) ∷ []) q
kept_alone q a = Contains-push [] q

pub agree_left : (table : StateTable) (xs ys : Entries) → Agrees table (xs ++ ys) → Agrees table xs
agree_left table [] ys h = All-nil (λ (e : Question × Answer). answer_of table e.0 ≡ e.1)
agree_left table (x ∷ xs) ys h = All-cons (λ (e : Question × Answer). answer_of table e.0 ≡ e.1) x xs (All-head (λ (e : Question × Answer). answer_of table e.0 ≡ e.1) x (xs ++ ys) h)
    (agree_left table xs ys (All-tail (λ (e : Question × Answer). answer_of table e.0 ≡ e.1) x (xs ++ ys) h))

pub agree_right : (table : StateTable) (xs ys : Entries) → Agrees table (xs ++ ys) → Agrees table ys
agree_right table [] ys h = h
agree_right table (x ∷ xs) ys h = agree_right table xs ys (All-tail (λ (e : Question × Answer). answer_of table e.0 ≡ e.1) x (xs ++ ys) h)

pub agree_both : (table : StateTable) (xs ys : Entries) → Agrees table xs → Agrees table ys → Agrees table (xs ++ ys)
agree_both table xs ys h k = All-append (λ (e : Question × Answer). answer_of table e.0 ≡ e.1) xs ys h k

-- ---- what is noted

pub keeps_same : (xs : Entries) (q : Question) (a : Answer) → Keeps xs xs q a
keeps_same xs q a = (λ other h. h, λ table is h. h)

pub keeps_first : (q : Question) (a : Answer) → Keeps [] ((q, a) ∷ []) q a
keeps_first q a = (λ other h. Contains-append_left [] (q ∷ []) other h, λ table is h. All-cons (λ (e : Question × Answer). answer_of table e.0 ≡ e.1) (q, a) [] is h)

pub keeps_then : (xs ys zs : Entries) (q : Question) (a : Answer) → Keeps xs ys q a → Keeps ys zs q a → Keeps xs zs q a
keeps_then xs ys zs q a h k = (λ other kept. k.0 other (h.0 other kept), λ table is agrees. k.1 table is (h.1 table is agrees))

pub keeps_left : (xs xs' ys : Entries) (q : Question) (a : Answer) → Keeps xs xs' q a → Keeps (xs ++ ys) (xs' ++ ys) q a
keeps_left xs xs' ys q a h = (
  λ other kept. elim (kept_in xs ys other kept) [
    | inl here ↦ kept_left xs' ys other (h.0 other here)
    | inr there ↦ kept_right xs' ys other there
  ],
  λ table is agrees. agree_both table xs' ys (h.1 table is (agree_left table xs ys agrees)) (agree_right table xs ys agrees),
)

pub keeps_right : (xs ys ys' : Entries) (q : Question) (a : Answer) → Keeps ys ys' q a → Keeps (xs ++ ys) (xs ++ ys') q a
keeps_right xs ys ys' q a h = (
  λ other kept. elim (kept_in xs ys other kept) [
    | inl here ↦ kept_left xs ys' other here
    | inr there ↦ kept_right xs ys' other (h.0 other there)
  ],
  λ table is agrees. agree_both table xs ys' (agree_left table xs ys agrees) (h.1 table is (agree_right table xs ys agrees)),
)

-- ---- the parts of a record one by one

pub keeps_missed : (first first' second : Option (Side × Key × Binding)) (room : Option Bool) (others : Entries) (q : Question) (a : Answer) → Keeps (missed first) (missed first') q a
    → Keeps (entries_of first second room others) (entries_of first' second room others) q a
keeps_missed first first' second room others q a h =
    keeps_left (missed first ++ missed second ++ room_of room) (missed first' ++ missed second ++ room_of room) others q a
    (keeps_left (missed first ++ missed second) (missed first' ++ missed second) (room_of room) q a (keeps_left (missed first) (missed first') (missed second) q a h))

pub keeps_missed_too : (first second second' : Option (Side × Key × Binding)) (room : Option Bool) (others : Entries) (q : Question) (a : Answer) → Keeps (missed second) (missed second') q a
    → Keeps (entries_of first second room others) (entries_of first second' room others) q a
keeps_missed_too first second second' room others q a h =
    keeps_left (missed first ++ missed second ++ room_of room) (missed first ++ missed second' ++ room_of room) others q a
    (keeps_left (missed first ++ missed second) (missed first ++ missed second') (room_of room) q a (keeps_right (missed first) (missed second) (missed second') q a h))

pub keeps_room : (first second : Option (Side × Key × Binding)) (room room' : Option Bool) (others : Entries) (q : Question) (a : Answer) → Keeps (room_of room) (room_of room') q a
    → Keeps (entries_of first second room others) (entries_of first second room' others) q a
keeps_room first second room room' others q a h =
    keeps_left (missed first ++ missed second ++ room_of room) (missed first ++ missed second ++ room_of room') others q a (keeps_right (missed first ++ missed second) (room_of room) (room_of room') q a h)

pub keeps_others : (first second : Option (Side × Key × Binding)) (room : Option Bool) (others others' : Entries) (q : Question) (a : Answer) → Keeps others others' q a
    → Keeps (entries_of first second room others) (entries_of first second room others') q a
keeps_others first second room others others' q a h = keeps_right (missed first ++ missed second ++ room_of room) others others' q a h

pub kept_missed : (first second : Option (Side × Key × Binding)) (room : Option Bool) (others : Entries) (q : Question) → IsKept (missed first) q → IsKept (entries_of first second room others) q
kept_missed first second room others q h =
    kept_left (missed first ++ missed second ++ room_of room) others q (kept_left (missed first ++ missed second) (room_of room) q (kept_left (missed first) (missed second) q h))

pub kept_missed_too : (first second : Option (Side × Key × Binding)) (room : Option Bool) (others : Entries) (q : Question) → IsKept (missed second) q → IsKept (entries_of first second room others) q
kept_missed_too first second room others q h =
    kept_left (missed first ++ missed second ++ room_of room) others q (kept_left (missed first ++ missed second) (room_of room) q (kept_right (missed first) (missed second) q h))

pub kept_room : (first second : Option (Side × Key × Binding)) (room : Option Bool) (others : Entries) (q : Question) → IsKept (room_of room) q → IsKept (entries_of first second room others) q
kept_room first second room others q h = kept_left (missed first ++ missed second ++ room_of room) others q (kept_right (missed first ++ missed second) (room_of room) q h)

pub kept_others : (first second : Option (Side × Key × Binding)) (room : Option Bool) (others : Entries) (q : Question) → IsKept others q → IsKept (entries_of first second room others) q
kept_others first second room others q h = kept_right (missed first ++ missed second ++ room_of room) others q h

-- after an insertion, whether memory was refused for it or not
pub keeps_after : {T F : Type 0} (r : Result T F) (old new : Entries) (q : Question) (a : Answer) → OnOk r (new ≡ insert_entry ghosts.eq old q a) → OnErr r (new ≡ old) → Keeps old new q a
keeps_after r old new q a ok err = (λ other kept. stays_after r old new q a ok err other kept, λ table is agrees. agrees_after r table old new q a is ok err agrees)

-- ---- a table and the parts of a record

agree_one : (table : StateTable) (q : Question) (a : Answer) → answer_of table q ≡ a → Agrees table ((q, a) ∷ [])
agree_one table q a is = All-cons (λ (e : Question × Answer). answer_of table e.0 ≡ e.1) (q, a) [] is (All-nil (λ (e : Question × Answer). answer_of table e.0 ≡ e.1))

one_agrees : (table : StateTable) (q : Question) (a : Answer) → Agrees table ((q, a) ∷ []) → answer_of table q ≡ a
one_agrees table q a h = All-head (λ (e : Question × Answer). answer_of table e.0 ≡ e.1) (q, a) [] h

abbrev found_of : Answer → Option State
found_of (Found state) = state
found_of (HasRoom room) = None
found_of (HasRuleRoom room) = None

abbrev room_said : Answer → Bool
room_said (Found state) = false
room_said (HasRoom room) = room
room_said (HasRuleRoom room) = false

pub agree_missed : (table : StateTable) (spot : Option (Side × Key × Binding)) (it : Side × Key × Binding) → spot ≡ Some it → found_in table it.0 it.1 it.2 ≡ None → Agrees table (missed spot)
agree_missed table spot it is h = rw is (agree_one table (At it.0 it.1 it.2) (Found None) (ap (λ (o : Option State). Found o) h))

pub missed_agrees : (table : StateTable) (spot : Option (Side × Key × Binding)) (it : Side × Key × Binding) → spot ≡ Some it → Agrees table (missed spot) → found_in table it.0 it.1 it.2 ≡ None
unfolding found_in
missed_agrees table spot it is h = ap found_of (one_agrees table (At it.0 it.1 it.2) (Found None) (rw is at h))

pub agree_room : (table : StateTable) (spot : Option Bool) (room : Bool) → spot ≡ Some room → has_room_in table ≡ room → Agrees table (room_of spot)
agree_room table spot room is h = rw is (agree_one table Room (HasRoom room) (ap (λ (r : Bool). HasRoom r) h))

pub room_agrees : (table : StateTable) (spot : Option Bool) (room : Bool) → spot ≡ Some room → Agrees table (room_of spot) → has_room_in table ≡ room
unfolding has_room_in
room_agrees table spot room is h = ap room_said (one_agrees table Room (HasRoom room) (rw is at h))

pub agree_all : (table : StateTable) (first second : Option (Side × Key × Binding)) (room : Option Bool) (others : Entries) → Agrees table (missed first) → Agrees table (missed second) → Agrees table (room_of room) → Agrees table others
    → Agrees table (entries_of first second room others)
agree_all table first second room others a b c d =
    agree_both table (missed first ++ missed second ++ room_of room) others (agree_both table (missed first ++ missed second) (room_of room) (agree_both table (missed first) (missed second) a b) c) d

pub all_agree : (table : StateTable) (first second : Option (Side × Key × Binding)) (room : Option Bool) (others : Entries) → Agrees table (entries_of first second room others)
    → Agrees table (missed first) × Agrees table (missed second) × Agrees table (room_of room) × Agrees table others
all_agree table first second room others h =
    let front = agree_left table (missed first ++ missed second ++ room_of room) others h in
    let keys = agree_left table (missed first ++ missed second) (room_of room) front in (
      agree_left table (missed first) (missed second) keys,
      agree_right table (missed first) (missed second) keys,
      agree_right table (missed first ++ missed second) (room_of room) front,
      agree_right table (missed first ++ missed second ++ room_of room) others h,
    )
