-- What a list comes to, written out and by a macro.
use Rattle.std.proofs.Common.{◌≡◌, ◌∙◌, ◌≤◌, ◌+◌, ℕ, suc, true, false, List, [], ◌∷◌, ◌++◌, length, map, fold, max, min, Some, None, Result, Ok, nat_lt, nat_le, append_assoc, ap, sym, refl, arith}
use Rattle.std.proofs.Math.Nat.{min-eq_left}
use Rattle.std.specs.List.{All}
use Rattle.std.proofs.lemmas.Bool.{le-ltb, le-leb}
use Rattle.std.proofs.lemmas.List.{append-nil, length-map}
use Rattle.std.proofs.lemmas.List.Elements.{All-head, All-tail}
use Rattle.pfr_words.specs.declared.word.Word.{Word}
use Rattle.pfr_words.specs.Words.{words}
use Rattle.pfr_terms.specs.declared.error.ConfError.{ConfError}
use Rattle.pfr_terms.specs.declared.name.MacroUse.{MacroUse}
use Rattle.pfr_terms.specs.Input.{Input, of_value}
use Rattle.pfr_elements.specs.declared.element.Elements as E
use Rattle.pfr_elements.specs.declared.scope.Scope.{Scope}
use Rattle.pfr_elements.specs.declared.definition.ListMeaning.{ListMeaning}
use Rattle.pfr_elements.specs.declared.definition.ListMeanings.{ListMeanings}
use Rattle.pfr_elements.specs.declared.definition.Text.{Text}
use Rattle.pfr_elements.specs.declared.definition.Taken.TheVariants.{Whole}
use Rattle.pfr_elements.specs.Elements.{Kind, elements_from, with_element, none_yet, most_elements, value_items, value_item, listed, turned_if}
use Rattle.pfr_elements.specs.Meanings.{list_meanings}
use Rattle.pfr_elements.specs.Values.{taken_at}

same_map : {A : Type 0} (f : A → A) → ((x : A) → f x ≡ x) → (xs : List A) → map f xs ≡ xs
same_map f same [] = refl
same_map f same (x ∷ xs) = rw (same x, same_map f same xs) refl

module _ {A B : Type 0} (kind : Kind A B) (scope : Scope) where
  abbrev one : E.Elements B → A → E.Elements B
  one = with_element kind scope true

  -- these behind what is found
  abbrev pub with_all : List B → E.Elements B → E.Elements B
  with_all flats found = record { items = found.items ++ flats; fault = found.fault; count = found.count + length flats }

  one_written : (found : E.Elements B) (x : A) (y : B) → kind.use_in x ≡ None → kind.meaning scope x ≡ Ok y → one found x ≡ with_all (y ∷ []) found
  unfolding with_element
  one_written found x y no_use means = rw (no_use, means) refl

  all_written : (xs : List A) (flats : List B) (found : E.Elements B) → All (λ x. kind.use_in x ≡ None) xs → map (kind.meaning scope) xs ≡ map Ok flats → found.count + length xs ≤ most_elements → elements_from one found xs ≡ with_all flats found
  all_written [] [] found no_use mean few = (let counted : found.count + 0 ≡ found.count = omega arith in rw (append-nil found.items, counted) refl)
  all_written [] (y ∷ flats) found no_use mean few = absurd cc
  all_written (x ∷ xs) [] found no_use mean few = absurd cc
  all_written (x ∷ xs) (y ∷ flats) found no_use mean few =
      let first : kind.meaning scope x ≡ Ok y = cc in
      let rest : map (kind.meaning scope) xs ≡ map Ok flats = cc in
      let no_use_first : kind.use_in x ≡ None = All-head (λ x. kind.use_in x ≡ None) x xs no_use in
      let step : one found x ≡ with_all (y ∷ []) found = one_written found x y no_use_first first in
      let fits : nat_lt most_elements found.count ≡ false = le-ltb most_elements found.count (omega arith) in
      let behind = all_written xs flats (with_all (y ∷ []) found) (All-tail (λ x. kind.use_in x ≡ None) x xs no_use) rest (omega arith) in
      let joined : (found.items ++ y ∷ []) ++ flats ≡ found.items ++ y ∷ flats = append_assoc found.items (y ∷ []) flats in
      let counted : found.count + 1 + length flats ≡ found.count + suc (length flats) = omega arith in
      rw (fits, step) (behind ∙ rw (joined, counted) refl)

  as_many : (xs : List A) (flats : List B) → map (kind.meaning scope) xs ≡ map Ok flats → length flats ≡ length xs
  as_many xs flats mean =
      let ok : B → Result B ConfError = Ok in
      sym (length-map flats ok) ∙ sym (ap length mean) ∙ length-map xs (kind.meaning scope)

  one_use : (u : A) (found : MacroUse) (text : Text) (flats : List B) (most : ℕ) → kind.use_in u ≡ Some found → kind.negated u ≡ false → taken_at scope.macros false found ≡ Ok (Whole text) → kind.list_in text.meanings.lists ≡ record { items = flats; tables = most; fault = None } → most ≤ scope.defined → length flats ≤ most_elements → one none_yet u ≡ with_all flats none_yet
  unfolding with_element
  one_use u found text flats most uses plain taken means known few =
      let defined : nat_le most scope.defined ≡ true = le-leb most scope.defined known in
      let counted : min (length flats) (most_elements + 1) ≡ length flats = min-eq_left (omega arith) in
      rw (uses, plain, taken, means, defined, counted, same_map (turned_if false kind.turned) (λ x. refl) flats) refl

  -- how many tables have to be defined for these
  abbrev most_of : List B → ℕ
  most_of flats = fold (λ most x. max most (kind.tables x)) 0 flats

  read_as : (made : Scope) (ws : List Word) (flats : List B) (i : Input) → value_items (value_item kind made) (of_value ws) ≡ Ok (flats, i) → i.gathered ≡ None → listed kind made ws ≡ record { items = flats; tables = most_of flats; fault = None }
  read_as made ws flats i reads sound = rw (reads, sound) refl

  within_tables : (l r : ListMeaning B) → l ≡ r → l.tables ≤ scope.defined → r.tables ≤ scope.defined
  within_tables l r same known = rw (← same) known

  pub list_by_macro : (meanings : ListMeanings) → ((made : Scope) (ws : List Word) → meanings ≡ list_meanings made ws → kind.list_in meanings ≡ listed kind made ws)
      → (made : Scope) (xs : List A) (flats : List B) (u : A) (found : MacroUse) (text : Text) (i : Input) → All (λ x. kind.use_in x ≡ None) xs → map (kind.meaning scope) xs ≡ map Ok flats → length xs ≤ most_elements → kind.use_in u ≡ Some found → kind.negated u ≡ false → taken_at scope.macros false found ≡ Ok (Whole text)
      → text.meanings.lists ≡ meanings → meanings ≡ list_meanings made (words text.bytes) → value_items (value_item kind made) (of_value (words text.bytes)) ≡ Ok (flats, i) → i.gathered ≡ None → (kind.list_in meanings).tables ≤ scope.defined → elements_from one none_yet (u ∷ []) ≡ elements_from one none_yet xs
  list_by_macro meanings read made xs flats u found text i no_use mean few uses plain taken is is_made reads sound known =
      let means : kind.list_in meanings ≡ record { items = flats; tables = most_of flats; fault = None } = read made (words text.bytes) is_made ∙ read_as made (words text.bytes) flats i reads sound in
      let as_used : kind.list_in text.meanings.lists ≡ record { items = flats; tables = most_of flats; fault = None } = ap kind.list_in is ∙ means in
      let many : length flats ≡ length xs = as_many xs flats mean in
      let within : most_of flats ≤ scope.defined = within_tables _ _ means known in
      one_use u found text flats (most_of flats) uses plain taken as_used within (omega (few, many, arith)) ∙ sym (all_written xs flats none_yet no_use mean (omega arith))
