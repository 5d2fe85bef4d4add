-- Changes of the table that were emitted, if they are requested.
use Rattle.std.proofs.Common.{◌≡◌, ◌+◌, ◌<◌, ℕ, Bool, List, [], ◌++◌, Option, Some, None, OnSome, length, map, take, get_or, refl, sym, ap, ◌∙◌}
use Rattle.std.specs.Option.{option_map}
use Rattle.std.proofs.lemmas.List.{append_assoc, append-nil}
use Rattle.pfr_states.specs.declared.change.Change.{Change}
use Rattle.pfr_packet.specs.Job.{RunJob}
use Rattle.pfr_commit.specs.Books.{bare}
use Rattle.pfr_commit.specs.Emissions.{with_more}
use Rattle.pfr_commit.specs.World.{Frame, World, after, world_after}
use Rattle.pfr_commit.proofs.WorldLemmas.{changes_behind, world_next, world_none}

-- none appended to others
pub more_none : (held : Option (Bool × List Change)) → held ≡ with_more held []
more_none None = refl
more_none (Some it) = ap (λ (list : List Change). Some (it.0, list)) (sym (append-nil it.1))

-- some appended to others, and then more
pub more_more : (held : Option (Bool × List Change)) (first second : List Change) → with_more (with_more held first) second ≡ with_more held (first ++ second)
more_more None first second = refl
more_more (Some it) first second = ap (λ (list : List Change). Some (it.0, list)) (append_assoc it.1 first second)

-- the first part is known if changes are requested
pub more_alike : {X : Type 0} (asked : Option X) (items : X → Bool × List Change) (purge known own : List Change) → OnSome asked (purge ≡ known)
    → with_more (option_map items asked) (purge ++ own) ≡ with_more (option_map items asked) (known ++ own)
more_alike None items purge known own is = refl
more_alike (Some held) items purge known own is = ap (λ (part : List Change). Some ((items held).0, (items held).1 ++ (part ++ own))) is

-- before the first packet of a batch
pub changes_none : (job : RunJob) (world : World) (held : Option (Bool × List Change)) → world.changes ≡ [] → held ≡ with_more held (world_after job world []).changes
changes_none job world held none =
    more_none held ∙ ap (λ (changes : List Change). with_more held changes) (sym (ap (λ (w : World). w.changes) (world_none job world) ∙ none))

-- one packet more of a batch; `left` is what the packets before it have left
pub changes_next : {X : Type 0} (job book_job : RunJob) (start left : World) (g : X → Frame) (xs : List X) (i : ℕ) (d p : X) (held now new : Option (Bool × List Change)) → book_job ≡ job → left ≡ bare (world_after job start (map g (take i xs))) → p ≡ get_or xs i d → i < length xs
    → now ≡ with_more held (world_after job start (map g (take i xs))).changes → new ≡ with_more now (after book_job left (g p)).changes → new ≡ with_more held (world_after job start (map g (take (i + 1) xs))).changes
changes_next {X = X} job book_job start left g xs i d p held now new job_is left_is p_is below now_is new_is =
    let before = world_after job start (map g (take i xs)) in
    let own : (after book_job left (g p)).changes ≡ (after job (bare before) (g (get_or xs i d))).changes =
    ap (λ (j : RunJob). (after j left (g p)).changes) job_is ∙ ap (λ (w : World). (after job w (g p)).changes) left_is ∙ ap (λ (x : X). (after job (bare before) (g x)).changes) p_is in
    new_is ∙ ap (λ (changes : List Change). with_more now changes) own ∙ ap (λ (h : Option (Bool × List Change)). with_more h (after job (bare before) (g (get_or xs i d))).changes) now_is
    ∙ more_more held before.changes (after job (bare before) (g (get_or xs i d))).changes
    ∙ ap (λ (changes : List Change). with_more held changes) (sym (changes_behind job before (g (get_or xs i d))) ∙ ap (λ (w : World). w.changes) (sym (world_next job start g xs i d below)))
