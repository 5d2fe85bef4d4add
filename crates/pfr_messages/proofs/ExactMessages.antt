-- Messages are exact: what is read is spelled so, and what is spelled so is read.
use Rattle.std.proofs.Common.{◌≡◌, ℕ, ◌*◌, Bool, true, false, not, ◌||◌, ◌&&◌, eqb, leb, List, [], ◌∷◌, ◌++◌, length, None, Result, Ok, refl, sym, ap, subst, ◌∙◌, inl, inr}
use Rattle.std.specs.List.{list_all}
use Rattle.std.specs.Int.{to_be_bytes, w32}
use Rattle.std.proofs.lemmas.Bool.{eqb-true}
use Rattle.pfr_messages.specs.declared.fault.Fault.{Fault}
use Rattle.pfr_messages.specs.declared.fault.Fault.TheVariants as faults
use Rattle.pfr_messages.specs.declared.records.Insertion.{Insertion}
use Rattle.pfr_messages.specs.declared.records.Update.{Update}
use Rattle.pfr_messages.specs.declared.records.Deletion.{Deletion}
use Rattle.pfr_messages.specs.Fields.{◌>>=◌, name}
use Rattle.pfr_messages.specs.Records as records
use Rattle.pfr_messages.specs.Records.{deletion, insertion, update}
use Rattle.pfr_messages.specs.Messages.{Content, Head, Kind, deletes, head_at, header, inserts, is_empty, may_follow, rise, section, section_at, sections, sections_at, size_of, updating}
use Rattle.pfr_messages.proofs.Actions.{Above, above, behind_four, behind_one, behind_seven, first_is_no_end, is_end}
use Rattle.pfr_messages.proofs.ExactRecords.{exact_deletion, exact_insertion, exact_update}
use Rattle.pfr_messages.proofs.ExactSections.{IsKind, SectionTakes, Starts, head_takes, section_takes}
use Rattle.pfr_messages.proofs.Exactness.{guard_holds}
use Rattle.pfr_messages.proofs.Fitting.{both, deletion_tests, each, insertion_tests, update_tests}
use Rattle.pfr_messages.proofs.Formats.{IsBytes, bind_ok, ok_is}

-- ---- the kinds

pub are_inserts : IsKind inserts
are_inserts = record {
  exact = exact_insertion;
  tail = λ r. name.spelling r.interface
      ++ (records.parties.spelling r.wire
      ++ (records.parties.spelling r.stack
      ++ (records.peer.spelling r.maker ++ (records.peer.spelling r.other ++ records.insertion_rest r))));
  begins = λ r. refl;
  number_fits = λ r fit. (each (insertion_tests r) fit).0;
  size_is = refl;
  no_end = refl;
}

pub are_updates : IsKind updating
are_updates = record {
  exact = exact_update;
  tail = λ r. records.peer.spelling r.maker
      ++ (records.peer.spelling r.other
      ++ (to_be_bytes w32 r.creator
      ++ (to_be_bytes w32 r.remaining ++ (records.timeout.spelling r.timeout ++ (0 ∷ 0 ∷ 0 ∷ [])))));
  begins = λ r. refl;
  number_fits = λ r fit. (each (update_tests r) fit).0;
  size_is = refl;
  no_end = refl;
}

pub are_deletes : IsKind deletes
are_deletes = record {
  exact = exact_deletion;
  tail = λ r. to_be_bytes w32 r.creator;
  begins = λ r. refl;
  number_fits = λ r fit. (each (deletion_tests r) fit).0;
  size_is = refl;
  no_end = refl;
}

-- ---- what is read is spelled so

not_true : (b : Bool) → (b ≡ true → ⊥) → b ≡ false
not_true true h = absurd (h refl)
not_true false h = refl

-- the value of a step, and what follows
bound : {A B : Type 0} (r : Result A Fault) (next : A → Result B Fault) (y : B) → (r >>= next) ≡ Ok y → {G : Type 0}
    → ((x : A) → r ≡ Ok x → next x ≡ Ok y → G) → G
bound r next y e then = let read = bind_ok r next y e in then read.0 read.1 read.2

-- the action behind a section
behind_section : {R : Type 0} (kind : Kind R) (bytes : List ℕ) (head : Head) (records : List R) (next : Head)
    → SectionTakes kind bytes head records next → (eqb head.action kind.action ≡ false → Above kind.action head.action)
    → Above kind.action next.action
behind_section kind bytes head records next taken h =
    elim taken.follows [
      | inl follows ↦ above kind.action next.action follows
      | inr same ↦ subst (λ (n : Head). Above kind.action n.action) (sym same.0) (h same.1)
    ]

nothing : (bytes : List ℕ) → is_empty bytes ≡ true → bytes ≡ []
nothing [] e = refl
nothing (b ∷ bytes) e = absurd cc

-- a last header with nothing behind it
last_is : (h : Head) (bytes : List ℕ) → Starts bytes h → h.action ≡ 12 → is_empty h.rest ≡ true → bytes ≡ 12 ∷ 0 ∷ 0 ∷ 1 ∷ []
last_is h bytes starts end over =
    let counted = both (not (eqb h.count 0))
    ((not (eqb h.action 12) || eqb h.count 1) && leb (h.count * size_of h.action) (length h.rest)) starts.counts in
    let once = both (not (eqb h.action 12) || eqb h.count 1) (leb (h.count * size_of h.action) (length h.rest)) counted.1 in
    let count : h.count ≡ 1 = eqb-true h.count 1 (subst (λ (n : ℕ). (not (eqb n 12) || eqb h.count 1) ≡ true) end once.0) in
    let rest : h.rest ≡ [] = nothing h.rest over in
    starts.parts ∙ rw (end, count, rest) refl

-- what was read of the sections
pub record SectionsTake (checksum bytes : List ℕ) (c : Content) : Type 0 where
  pub checksum_is : c.checksum ≡ checksum
  pub parts : bytes ≡ sections c
  pub insertions : list_all insertion.fits c.insertions ≡ true
  pub updates : list_all update.fits c.updates ≡ true
  pub deletions : list_all deletion.fits c.deletions ≡ true
  pub insertions_rise : rise inserts None c.insertions ≡ true
  pub updates_rise : rise updating None c.updates ≡ true
  pub deletions_rise : rise deletes None c.deletions ≡ true
  pub some : (is_empty c.insertions && (is_empty c.updates && is_empty c.deletions)) ≡ false

taken : (checksum bytes : List ℕ) (h0 : Head) (i : List Insertion × Head) (u : List Update × Head) (d : List Deletion × Head)
    → Starts bytes h0 → may_follow 0 h0.action ≡ true
    → (s1 : SectionTakes inserts bytes h0 i.0 i.1) → (s2 : SectionTakes updating s1.rest i.1 u.0 u.1)
    → (s3 : SectionTakes deletes s2.rest u.1 d.0 d.1) → is_empty d.1.rest ≡ true
    → SectionsTake checksum bytes (record { checksum = checksum; insertions = i.0; updates = u.0; deletions = d.0 })
taken checksum bytes h0 i u d starts first s1 s2 s3 over =
    let a1 = behind_section inserts bytes h0 i.0 i.1 s1 (λ other. behind_one h0.action (above 0 h0.action first) other) in
    let a2 = behind_section updating s1.rest i.1 u.0 u.1 s2 (λ other. behind_four i.1.action a1 other) in
    let a3 = behind_section deletes s2.rest u.1 d.0 d.1 s3 (λ other. behind_seven u.1.action a2 other) in
    let end : d.1.action ≡ 12 = is_end d.1.action a3 in
    let last : s3.rest ≡ header 12 1 = last_is d.1 s3.rest s3.starts end over in
    let e3 : s2.rest ≡ section deletes d.0 ++ header 12 1 = s3.parts ∙ ap (λ (l : List ℕ). section deletes d.0 ++ l) last in
    let e2 : s1.rest ≡ section updating u.0 ++ (section deletes d.0 ++ header 12 1) =
    s2.parts ∙ ap (λ (l : List ℕ). section updating u.0 ++ l) e3 in
    let e1 : bytes ≡ section inserts i.0 ++ (section updating u.0 ++ (section deletes d.0 ++ header 12 1)) =
    s1.parts ∙ ap (λ (l : List ℕ). section inserts i.0 ++ l) e2 in
    let none : (is_empty i.0 && (is_empty u.0 && is_empty d.0)) ≡ true → ⊥ = λ e.
    let p = both (is_empty i.0) (is_empty u.0 && is_empty d.0) e in
    let q = both (is_empty u.0) (is_empty d.0) p.1 in
    let same : d.1 ≡ h0 = s3.none q.1 ∙ s2.none q.0 ∙ s1.none p.0 in
    first_is_no_end h0.action first (ap (λ (h : Head). h.action) (sym same) ∙ end) in
    record {
      checksum_is = refl;
      parts = e1;
      insertions = s1.fit;
      updates = s2.fit;
      deletions = s3.fit;
      insertions_rise = s1.up;
      updates_rise = s2.up;
      deletions_rise = s3.up;
      some = not_true (is_empty i.0 && (is_empty u.0 && is_empty d.0)) none;
    }

pub sections_take : (checksum bytes : List ℕ) (c : Content) → IsBytes bytes → sections_at checksum bytes ≡ Ok c
    → SectionsTake checksum bytes c
unfolding sections_at
sections_take checksum bytes c are e =
    bound (head_at 0 bytes) _ c e (λ h0 r0 n0.
    bound (section_at inserts h0) _ c n0 (λ i r1 n1.
    bound (section_at updating i.1) _ c n1 (λ u r2 n2.
    bound (section_at deletes u.1) _ c n2 (λ d r3 n3.
    let made : Content = record { checksum = checksum; insertions = i.0; updates = u.0; deletions = d.0 } in
    let g = guard_holds (is_empty d.1.rest) faults.Trailing (Ok made) c n3 in
    let t0 = head_takes 0 bytes h0 are r0 in
    let s1 = section_takes inserts are_inserts bytes h0 i t0.0 t0.1 r1 in
    let s2 = section_takes updating are_updates s1.rest i.1 u s1.starts s1.rest_fits r2 in
    let s3 = section_takes deletes are_deletes s2.rest u.1 d s2.starts s2.rest_fits r3 in
    subst (λ (y : Content). SectionsTake checksum bytes y) (ok_is made c g.1)
    (taken checksum bytes h0 i u d t0.0 t0.2 s1 s2 s3 g.0)))))
