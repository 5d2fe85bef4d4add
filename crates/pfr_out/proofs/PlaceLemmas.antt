-- Sinks that are written one after the other, by their places.
use Rattle.std.proofs.Common.{◌≡◌, ◌≢◌, ◌<◌, ◌≤◌, ◌+◌, ℕ, min, Bool, IsTrue, false, List, [], ◌++◌, length, map, get_or, set, inl, inr, refl, sym, ◌∙◌, ap, subst, arith}
use Rattle.std.proofs.Math.Seq.{map-set_same}
use Rattle.std.proofs.lemmas.Bool.{cases_lt}
use Rattle.std.proofs.lemmas.List.{append-nil, get_or-map, get_or-set_other, get_or-set_same, get_or_past, length-map, map-set}
use Rattle.pfr_capture.specs.Device.{GrewByPart, Rose}
use Rattle.pfr_commit.specs.Emissions.{by_place}
use Rattle.pfr_commit.specs.World.{ByPlace}
use Rattle.pfr_out.specs.PacketSinks.{EachGrew, OneRose, OneTookPart, TellsAt}

-- ---- one sink is replaced

module _ {S A : Type 0} (of : S → A) (none : A) (sinks : List S) (at : ℕ) (new : S) where
  is_at : at < length sinks → get_or (map of (set sinks at new)) at none ≡ of new
  is_at below = ap (λ (list : List A). get_or list at none) (map-set of sinks at new) ∙ get_or-set_same (map of sinks) at (of new) none (rw (length-map sinks of) below)

  -- the others stay
  stays_at : (place : ℕ) → place ≢ at → get_or (map of (set sinks at new)) place none ≡ get_or (map of sinks) place none
  stays_at place other = ap (λ (list : List A). get_or list place none) (map-set of sinks at new) ∙ get_or-set_other (map of sinks) at place (of new) none other

-- what the old one and the new one have in common stays for all
pub stay_all : {S A : Type 0} (of : S → A) (first sinks : List S) (at : ℕ) (d new : S) → of new ≡ of (get_or sinks at d) → map of sinks ≡ map of first → map of (set sinks at new) ≡ map of first
stay_all of first sinks at d new same all = map-set_same of sinks at new d same ∙ all

pub one_rose : {S : Type 0} (failures : S → ℕ) (first sinks : List S) (at : ℕ) (d new : S) → at < length sinks → map failures sinks ≡ map failures first → Rose (failures (get_or sinks at d)) (failures new)
    → OneRose at (map failures first) (map failures (set sinks at new))
one_rose failures first sinks at d new below all rose =
    subst (λ (counts : List ℕ). OneRose at counts (map failures (set sinks at new))) all
    (record {
      rose = rw (get_or-map failures sinks at d 0 below, is_at failures 0 sinks at new below) rose;
      others = λ place other. stays_at failures 0 sinks at new place other;
    })

-- ---- those before a place were written

module _ {S : Type 0} (told : S → Bool) (written : S → List ℕ) (texts : ByPlace) (first : List S) where
  pub record GrewTo (now : List S) (at : ℕ) : Type 0 where
    pub before : (place : ℕ) → TellsAt (map told first) place → place < at → by_place (map written now) place ≡ by_place (map written first) place ++ texts place
    pub behind : (place : ℕ) → TellsAt (map told first) place → at ≤ place → by_place (map written now) place ≡ by_place (map written first) place

  pub grew_none : GrewTo first 0
  grew_none = record { before = λ place tells is. absurd (omega (arith, is)); behind = λ place tells is. refl }

  module _ (now : List S) (at : ℕ) (d new : S) (below : at < length now) (same : map told now ≡ map told first) (grew : GrewTo now at) where
    -- the sink there tells its bytes
    tells_old : TellsAt (map told first) at → IsTrue (told (get_or now at d))
    tells_old tells = sym (get_or-map told now at d false below) ∙ ap (λ (ts : List Bool). get_or ts at false) same ∙ tells

    -- what it holds before
    first_is : TellsAt (map told first) at → by_place (map written first) at ≡ written (get_or now at d)
    first_is tells = sym (grew.behind at tells (omega arith)) ∙ get_or-map written now at d [] below

    -- the others are as they were
    grew_before : (place : ℕ) → TellsAt (map told first) place → place < at → by_place (map written (set now at new)) place ≡ by_place (map written first) place ++ texts place
    grew_before place tells before = stays_at written [] now at new place (λ e. omega (arith, e, before)) ∙ grew.before place tells before

    same_behind : (place : ℕ) → TellsAt (map told first) place → at < place → by_place (map written (set now at new)) place ≡ by_place (map written first) place
    same_behind place tells behind = stays_at written [] now at new place (λ e. omega (arith, e, behind)) ∙ grew.behind place tells (omega (arith, behind))

    -- one more was written
    pub grew_one : (IsTrue (told (get_or now at d)) → written new ≡ written (get_or now at d) ++ texts at) → GrewTo (set now at new) (at + 1)
    grew_one grows = record {
      before = λ place tells before. elim (cases_lt place at) [
        | inl earlier ↦ grew_before place tells earlier
        | inr not_earlier ↦
            (let here : at ≡ place = omega (arith, before, not_earlier) in
            subst (λ (k : ℕ). TellsAt (map told first) k → by_place (map written (set now at new)) k ≡ by_place (map written first) k ++ texts k) here
            (λ tells. is_at written [] now at new below ∙ grows (tells_old tells) ∙ ap (λ (text : List ℕ). text ++ texts at) (sym (first_is tells))) tells)
      ];
      behind = λ place tells behind. same_behind place tells (omega (arith, behind));
    }

    -- it was written in part
    pub took_part : (IsTrue (told (get_or now at d)) → GrewByPart (written (get_or now at d)) (written new) (texts at)) → OneTookPart told written first (set now at new) texts at
    took_part takes = record {
      part = λ tells. rw (first_is tells, is_at written [] now at new below) (takes (tells_old tells));
      before = grew_before;
      behind = same_behind;
    }

-- all were written: behind them there is no sink, or no text
pub grew_all : {S : Type 0} (told : S → Bool) (written : S → List ℕ) (texts : List (List ℕ)) (first now : List S) (at : ℕ) → min (length first) (length texts) ≤ at → GrewTo told written (by_place texts) first now at
    → EachGrew told written first now (by_place texts)
grew_all told written texts first now at most grew place tells = elim (cases_lt place at) [
  | inl before ↦ grew.before place tells before
  | inr behind ↦
      elim (cases_lt place (length first)) [
        | inl there ↦
            (let none : by_place texts place ≡ [] = get_or_past texts place [] (omega (arith, most, behind, there)) in
            rw none (grew.behind place tells behind ∙ sym (append-nil (by_place (map written first) place))))
        | inr past ↦ absurd (cc (sym (get_or_past (map told first) place false (rw (length-map first told) past)) ∙ tells))
      ]
]
