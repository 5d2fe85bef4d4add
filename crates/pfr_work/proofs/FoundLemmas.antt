-- What is put behind other results.
use Rattle.std.proofs.Common.{◌≡◌, Bool, true, false, if◌then◌else◌, List, [], ◌∷◌, ◌++◌, sym, subst}
use Rattle.std.specs.List.{All}
use Rattle.std.proofs.lemmas.List.Elements.{All-push}

-- what holds of all holds of one more, if that was put there
pub all_pushed : {X : Type 0} (P : X → Type 0) (before after : List X) (x : X) (is_put : Bool) → after ≡ (if is_put then before ++ x ∷ [] else before) → All P before → P x → All P after
all_pushed P before after x true is h k = subst (λ (xs : List _). All P xs) (sym is) (All-push P before x h k)
all_pushed P before after x false is h k = subst (λ (xs : List _). All P xs) (sym is) h
