-- The order of actions.
use Rattle.std.proofs.Common.{◌≡◌, ℕ, ◌<◌, ◌⊎◌, true, false, not, ◌||◌, ◌&&◌, eqb, ltb, refl, subst, arith, inl, inr}
use Rattle.std.proofs.lemmas.Bool.{eqb-false, eqb-true, lt-ltb, ltb-true, ne_eqb, or_cases}
use Rattle.pfr_messages.specs.Messages.{may_follow}
use Rattle.pfr_messages.proofs.Fitting.{both, both_hold}

-- the actions of messages
abbrev pub IsAction : ℕ → Type 0
IsAction a = (a ≡ 1) ⊎ ((a ≡ 4) ⊎ ((a ≡ 7) ⊎ (a ≡ 12)))

-- an action of a message that is above another one
pub record Above (before action : ℕ) : Type 0 where
  pub lt : before < action
  pub is : IsAction action

ends_nothing : (before a : ℕ) → (eqb a 12 && not (eqb before 0)) ≡ true → a ≡ 12
ends_nothing before a e = eqb-true a 12 (both (eqb a 12) (not (eqb before 0)) e).0

action_is : (before a : ℕ) → (eqb a 1 || (eqb a 4 || (eqb a 7 || (eqb a 12 && not (eqb before 0))))) ≡ true → IsAction a
action_is before a e =
    elim (or_cases (eqb a 1) (eqb a 4 || (eqb a 7 || (eqb a 12 && not (eqb before 0)))) e) [
      | inl one ↦ inl (eqb-true a 1 one)
      | inr more ↦ elim (or_cases (eqb a 4) (eqb a 7 || (eqb a 12 && not (eqb before 0))) more) [
        | inl four ↦ inr (inl (eqb-true a 4 four))
        | inr others ↦ elim (or_cases (eqb a 7) (eqb a 12 && not (eqb before 0)) others) [
          | inl seven ↦ inr (inr (inl (eqb-true a 7 seven)))
          | inr end ↦ inr (inr (inr (ends_nothing before a end)))
        ]
      ]
    ]

pub above : (before a : ℕ) → may_follow before a ≡ true → Above before a
above before a e =
    let p = both (ltb before a) (eqb a 1 || (eqb a 4 || (eqb a 7 || (eqb a 12 && not (eqb before 0))))) e in
    record { lt = ltb-true before a p.0; is = action_is before a p.1 }

-- the end isn't the first
pub first_is_no_end : (a : ℕ) → may_follow 0 a ≡ true → a ≡ 12 → ⊥
first_is_no_end a e end = let no : may_follow 0 12 ≡ true = subst (λ (n : ℕ). may_follow 0 n ≡ true) end e in absurd cc

may_one : (before a : ℕ) → IsAction a → (before ≡ 0 → a ≡ 12 → ⊥)
    → (eqb a 1 || (eqb a 4 || (eqb a 7 || (eqb a 12 && not (eqb before 0))))) ≡ true
may_one before a (inl one) h = rw one refl
may_one before a (inr (inl four)) h = rw four refl
may_one before a (inr (inr (inl seven))) h = rw seven refl
may_one before a (inr (inr (inr end))) h = let some : eqb before 0 ≡ false =
    ne_eqb before 0 (λ none. h none end) in rw (end, some) refl

pub may : (before a : ℕ) → Above before a → (before ≡ 0 → a ≡ 12 → ⊥) → may_follow before a ≡ true
may before a up h = both_hold (ltb before a) (eqb a 1 || (eqb a 4 || (eqb a 7 || (eqb a 12 && not (eqb before 0)))))
    (lt-ltb before a up.lt) (may_one before a up.is h)

-- an action above another one that isn't the next one is above that one
above_one : (a : ℕ) → IsAction a → (a ≡ 1 → ⊥) → 1 < a
above_one a (inl one) h = absurd (h one)
above_one a (inr (inl four)) h = omega (arith, four)
above_one a (inr (inr (inl seven))) h = omega (arith, seven)
above_one a (inr (inr (inr end))) h = omega (arith, end)

pub behind_one : (a : ℕ) → Above 0 a → eqb a 1 ≡ false → Above 1 a
behind_one a up other = record { lt = above_one a up.is (eqb-false a 1 other); is = up.is }

above_four : (a : ℕ) → 1 < a → IsAction a → (a ≡ 4 → ⊥) → 4 < a
above_four a lt (inl one) h = absurd (omega (arith, one, lt))
above_four a lt (inr (inl four)) h = absurd (h four)
above_four a lt (inr (inr (inl seven))) h = omega (arith, seven)
above_four a lt (inr (inr (inr end))) h = omega (arith, end)

pub behind_four : (a : ℕ) → Above 1 a → eqb a 4 ≡ false → Above 4 a
behind_four a up other = record { lt = above_four a up.lt up.is (eqb-false a 4 other); is = up.is }

above_seven : (a : ℕ) → 4 < a → IsAction a → (a ≡ 7 → ⊥) → 7 < a
above_seven a lt (inl one) h = absurd (omega (arith, one, lt))
above_seven a lt (inr (inl four)) h = absurd (omega (arith, four, lt))
above_seven a lt (inr (inr (inl seven))) h = absurd (h seven)
above_seven a lt (inr (inr (inr end))) h = omega (arith, end)

pub behind_seven : (a : ℕ) → Above 4 a → eqb a 7 ≡ false → Above 7 a
behind_seven a up other = record { lt = above_seven a up.lt up.is (eqb-false a 7 other); is = up.is }

end_is : (a : ℕ) → 7 < a → IsAction a → a ≡ 12
end_is a lt (inl one) = absurd (omega (arith, one, lt))
end_is a lt (inr (inl four)) = absurd (omega (arith, four, lt))
end_is a lt (inr (inr (inl seven))) = absurd (omega (arith, seven, lt))
end_is a lt (inr (inr (inr end))) = end

-- only the end is behind the last kind
pub is_end : (a : ℕ) → Above 7 a → a ≡ 12
is_end a up = end_is a up.lt up.is
