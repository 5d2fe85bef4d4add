-- What grew by a beginning of a text.
use Rattle.std.proofs.Common.{◌≡◌, ◌∙◌, ℕ, List, [], ◌∷◌, ◌++◌, length, take, drop, refl, eqb, false}
use Rattle.std.proofs.lemmas.List.{append-nil, append_assoc, take-append-drop}
use Rattle.pfr_capture.specs.Device.{Added, GrewByPart}

-- something is still to come, so at least the last byte is missing
pub part_from_added : (old new text rest : List ℕ) → Added old new text rest → eqb (length rest) 0 ≡ false → GrewByPart old new text
part_from_added old new text [] added some = absurd (cc)
part_from_added old new text (byte ∷ rest) added some = record { last = byte; missing = rest; grew = added }

-- the same after a call that added nothing
pub part_after_fault : (old mid new text rest : List ℕ) → Added old mid text rest → eqb (length rest) 0 ≡ false → new ≡ mid ++ [] → GrewByPart old new text
part_after_fault old mid new text rest added some same =
    let stayed : new ≡ mid = rw append-nil at same in
    rw stayed (part_from_added old mid text rest added some)

-- a call that added the front of what was to come, and one that added nothing
pub added_on : (old mid new text rest behind : List ℕ) (count : ℕ) → Added old mid text rest → new ≡ mid ++ take count rest → behind ≡ drop count rest → Added old new text behind
added_on old mid new text rest behind count a grew left = record {
  added = a.added ++ take count rest;
  text_is = a.text_is ∙ (rw (left, append_assoc, take-append-drop) refl);
  new_is = grew ∙ (rw a.new_is (append_assoc old a.added (take count rest)));
}

pub added_none : (old mid new text rest : List ℕ) → Added old mid text rest → new ≡ mid ++ [] → Added old new text rest
added_none old mid new text rest added same =
    let stayed : new ≡ mid = rw append-nil at same in
    rw stayed added
