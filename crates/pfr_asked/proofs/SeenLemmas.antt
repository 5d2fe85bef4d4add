-- Where packets came to the filter, and whether a rule could have been asked there.
use Rattle.std.proofs.Common.{◌≡◌, ◌∙◌, ◌<◌, ◌&&◌, ◌||◌, ℕ, zero, suc, Bool, true, false, if◌then◌else◌, List, [], ◌∷◌, length, Option, Some, None, refl, sym, ap, arith}
use Rattle.std.specs.List.{list_any, slice_get, slice_set}
use Rattle.std.proofs.lemmas.List.Elements.{All-head, All-tail}
use Rattle.pfr_net.specs.declared.direction.Direction.{Direction}
use Rattle.pfr_net.specs.declared.direction.Direction.TheVariants.{In, Out}
use Rattle.pfr_net.specs.declared.interface.IfName.{IfName}
use Rattle.pfr_ruleset.specs.declared.filter_rules.RuleLists.{RuleLists}
use Rattle.pfr_ruleset.specs.declared.interface.Interface.{Interface}
use Rattle.pfr_ruleset.specs.Interfaces.{name_or_none}
use Rattle.pfr_packet.specs.Job.{RunJob, name_in}
use Rattle.pfr_commit.specs.World.{Frame, World, after, opening}
use Rattle.pfr_asked.specs.declared.seen.Seen.{Seen}
use Rattle.pfr_asked.specs.Asking.{allowed, allowed_way, came, could_ask}
use Rattle.pfr_asked.specs.Laws.{SeenIsAsked}
use Rattle.pfr_asked.specs.Runs.{AreOf, NoneAsks, next_outcome, seen_after}
use Rattle.pfr_asked.specs.Seen.{asks_at, asks_in, none_seen, seen_with, unseen, with_direction, with_one, with_way}

-- ---- one more way

in_more : (c a x : Bool) → ((true && a) || x) ≡ (((c && a) || x) || a)
in_more true true x = refl
in_more true false true = refl
in_more true false false = refl
in_more false true true = refl
in_more false true false = refl
in_more false false true = refl
in_more false false false = refl

out_more : (x c a : Bool) → (x || (true && a)) ≡ ((x || (c && a)) || a)
out_more true c a = refl
out_more false true true = refl
out_more false true false = refl
out_more false false true = refl
out_more false false false = refl

way_more : (lists : RuleLists) (rule : ℕ) (direction : Direction) (one : Seen) → asks_at lists rule (with_way direction one) ≡ (asks_at lists rule one || allowed lists rule one.name direction)
way_more lists rule In one = in_more one.come_in (allowed lists rule one.name In) (one.go_out && allowed lists rule one.name Out)
way_more lists rule Out one = out_more (one.come_in && allowed lists rule one.name In) one.go_out (allowed lists rule one.name Out)

-- ---- one interface of several

or_none : (b : Bool) → b ≡ (b || false)
or_none true = refl
or_none false = refl

or_moved : (a b c : Bool) → ((a || b) || c) ≡ ((a || c) || b)
or_moved true b c = refl
or_moved false true true = refl
or_moved false true false = refl
or_moved false false true = refl
or_moved false false false = refl

or_joined : (a b c : Bool) → (a || (b || c)) ≡ ((a || b) || c)
or_joined true b c = refl
or_joined false b c = refl

-- if one element holds more, so do all together
any_more : (test : Seen → Bool) (xs : List Seen) (place : ℕ) (one new : Seen) (more : Bool) → slice_get xs place ≡ Some one → test new ≡ (test one || more) → list_any test (slice_set xs place new) ≡ (list_any test xs || more)
any_more test [] place one new more at is = absurd (cc at)
any_more test (x ∷ xs) zero one new more at is =
    let same : x ≡ one = cc at in
    ap (λ b. b || list_any test xs) is ∙ or_moved (test one) more (list_any test xs) ∙ ap (λ y. (test y || list_any test xs) || more) (sym same)
any_more test (x ∷ xs) (suc place) one new more at is =
    ap (λ b. test x || b) (any_more test xs place one new more at is) ∙ or_joined (test x) (list_any test xs) more

seen_more : (lists : RuleLists) (rule : ℕ) (seen : List Seen) (place : ℕ) (one : Seen) → slice_get seen place ≡ Some one → (asked : Bool) (way : Option Direction)
    → asks_in lists rule (if asked then with_direction seen place way else seen) ≡ (asks_in lists rule seen || (asked && allowed_way lists rule one.name way))
seen_more lists rule seen place one at false way = or_none (asks_in lists rule seen)
seen_more lists rule seen place one at true None = or_none (asks_in lists rule seen)
seen_more lists rule seen place one at true (Some direction) =
    ap (λ (o : Option Seen). asks_in lists rule (with_one seen place direction o)) at
    ∙ any_more (asks_at lists rule) seen place one (with_way direction one) (allowed lists rule one.name direction) at (way_more lists rule direction one)

-- ---- the interfaces stay

-- an element of a name at a place
record HasName (seen : List Seen) (place : ℕ) (name : IfName) : Type 0 where
  one : Seen
  at : slice_get seen place ≡ Some one
  named : one.name ≡ name

set_named : (xs : List Seen) (place : ℕ) (old new : Seen) → slice_get xs place ≡ Some old → new.name ≡ old.name → (other : ℕ) (name : IfName) → HasName xs other name → HasName (slice_set xs place new) other name
set_named [] place old new at same other name has = absurd (cc at)
set_named (x ∷ xs) zero old new at same zero name has =
    let first : x ≡ old = cc at in
    let it : x ≡ has.one = cc has.at in
    record { one = new; at = refl; named = same ∙ ap (λ (y : Seen). y.name) (sym first ∙ it) ∙ has.named }
set_named (x ∷ xs) zero old new at same (suc other) name has = record { one = has.one; at = has.at; named = has.named }
set_named (x ∷ xs) (suc place) old new at same zero name has = record { one = has.one; at = has.at; named = has.named }
set_named (x ∷ xs) (suc place) old new at same (suc other) name has =
    let rest = set_named xs place old new at same other name (record { one = has.one; at = has.at; named = has.named }) in
    record { one = rest.one; at = rest.at; named = rest.named }

way_named : (direction : Direction) (one : Seen) → (with_way direction one).name ≡ one.name
way_named In one = refl
way_named Out one = refl

one_named : (seen : List Seen) (place : ℕ) (direction : Direction) (found : Option Seen) → slice_get seen place ≡ found → (other : ℕ) (name : IfName) → HasName seen other name → HasName (with_one seen place direction found) other name
one_named seen place direction None at other name has = has
one_named seen place direction (Some one) at other name has = set_named seen place one (with_way direction one) at (way_named direction one) other name has

stay_named : (seen : List Seen) (place : ℕ) (asked : Bool) (way : Option Direction) (other : ℕ) (name : IfName) → HasName seen other name → HasName (if asked then with_direction seen place way else seen) other name
stay_named seen place false way other name has = has
stay_named seen place true None other name has = has
stay_named seen place true (Some direction) other name has = one_named seen place direction (slice_get seen place) refl other name has

-- the interfaces of a run, by their places
abbrev AreNamed : List Interface → List Seen → Type 0
AreNamed interfaces seen = (place : ℕ) → place < length interfaces → HasName seen place (name_or_none (slice_get interfaces place))

none_named : (interfaces : List Interface) → AreNamed interfaces (none_seen interfaces)
none_named [] place below = absurd (omega (arith, below))
none_named (interface ∷ interfaces) zero below = record { one = unseen interface; at = refl; named = refl }
none_named (interface ∷ interfaces) (suc place) below =
    let rest = none_named interfaces place (omega (arith, below)) in
    record { one = rest.one; at = rest.at; named = rest.named }

-- ---- along a run

module _ (job : RunJob) (lists : RuleLists) (rule : ℕ) where
  step_more : (world : World) (frame : Frame) (seen : List Seen) → AreNamed job.rules.interfaces seen → frame.place.0 < length job.rules.interfaces
      → asks_in lists rule (seen_with seen frame.place.0 (next_outcome job world frame)) ≡ (asks_in lists rule seen || could_ask lists rule (name_in job frame.place) (next_outcome job world frame))
  step_more world frame seen named below =
      let has = named frame.place.0 below in
      let outcome = next_outcome job world frame in
      seen_more lists rule seen frame.place.0 has.one has.at (came outcome) outcome.direction
      ∙ ap (λ (n : IfName). asks_in lists rule seen || (came outcome && allowed_way lists rule n outcome.direction)) has.named

  next_named : (world : World) (frame : Frame) (seen : List Seen) → AreNamed job.rules.interfaces seen → AreNamed job.rules.interfaces (seen_with seen frame.place.0 (next_outcome job world frame))
  next_named world frame seen named place below =
      stay_named seen frame.place.0 (came (next_outcome job world frame)) (next_outcome job world frame).direction place (name_or_none (slice_get job.rules.interfaces place)) (named place below)

  or_left_false : (b c : Bool) → (b || c) ≡ false → b ≡ false
  or_left_false true c is = is
  or_left_false false c is = refl

  or_right_false : (b c : Bool) → (b || c) ≡ false → c ≡ false
  or_right_false true c is = absurd (cc is)
  or_right_false false c is = is

  both_false : (b c : Bool) → b ≡ false → c ≡ false → (b || c) ≡ false
  both_false true c first second = absurd (cc first)
  both_false false c first second = second

  -- what wasn't there at the end wasn't there before
  before_end : (world : World) (seen : List Seen) (frames : List Frame) → AreNamed job.rules.interfaces seen → AreOf job.rules.interfaces frames
      → asks_in lists rule (seen_after job world seen frames) ≡ false → (asks_in lists rule seen ≡ false) × NoneAsks job lists rule world frames
  before_end world seen [] named are none = (none, tt)
  before_end world seen (frame ∷ frames) named are none =
      let below = All-head (λ (f : Frame). f.place.0 < length job.rules.interfaces) frame frames are in
      let rest = before_end (after job world frame) (seen_with seen frame.place.0 (next_outcome job world frame)) frames (next_named world frame seen named) (All-tail (λ (f : Frame). f.place.0 < length job.rules.interfaces) frame frames are) none in
      let step = sym (step_more world frame seen named below) ∙ rest.0 in (
        or_left_false (asks_in lists rule seen) (could_ask lists rule (name_in job frame.place) (next_outcome job world frame)) step,
        (or_right_false (asks_in lists rule seen) (could_ask lists rule (name_in job frame.place) (next_outcome job world frame)) step, rest.1),
      )

  at_end : (world : World) (seen : List Seen) (frames : List Frame) → AreNamed job.rules.interfaces seen → AreOf job.rules.interfaces frames
      → asks_in lists rule seen ≡ false → NoneAsks job lists rule world frames → asks_in lists rule (seen_after job world seen frames) ≡ false
  at_end world seen [] named are none asks = none
  at_end world seen (frame ∷ frames) named are none asks =
      let below = All-head (λ (f : Frame). f.place.0 < length job.rules.interfaces) frame frames are in
      at_end (after job world frame) (seen_with seen frame.place.0 (next_outcome job world frame)) frames (next_named world frame seen named) (All-tail (λ (f : Frame). f.place.0 < length job.rules.interfaces) frame frames are)
      (step_more world frame seen named below ∙ both_false (asks_in lists rule seen) (could_ask lists rule (name_in job frame.place) (next_outcome job world frame)) none asks.0) asks.1

none_asks_first : (lists : RuleLists) (rule : ℕ) (interfaces : List Interface) → asks_in lists rule (none_seen interfaces) ≡ false
none_asks_first lists rule [] = refl
none_asks_first lists rule (interface ∷ interfaces) = none_asks_first lists rule interfaces

pub seen_asked : SeenIsAsked
seen_asked job lists place frames are = (
  λ none. (before_end job lists place (opening job) (none_seen job.rules.interfaces) frames (none_named job.rules.interfaces) are none).1,
  λ asks. at_end job lists place (opening job) (none_seen job.rules.interfaces) frames (none_named job.rules.interfaces) are (none_asks_first lists place job.rules.interfaces) asks,
)
