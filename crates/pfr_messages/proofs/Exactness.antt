-- The fields of records are exact.
use Rattle.std.proofs.Common.{◌≡◌, ℕ, suc, ◌+◌, ◌-◌, ◌^◌, ◌<◌, ◌≤◌, Bool, true, false, ◌&&◌, cond, eqb, leb, List, [], ◌∷◌, ◌++◌, length, Option, Some, None, Result, Ok, Err, refl, sym, ap, subst, ◌∙◌, arith}
use Rattle.std.specs.Prelude.{IfSome}
use Rattle.std.specs.Int.{to_be_bytes, w32}
use Rattle.std.proofs.lemmas.Bool.{eqb-true, eqb-false, ne_eqb, leb-true, le-leb, lt-ltb, ltb-true}
use Rattle.pfr_net.specs.declared.direction.Direction.{Direction}
use Rattle.pfr_net.specs.declared.direction.Direction.TheVariants.{In, Out}
use Rattle.pfr_net.specs.declared.rule_number.RuleNumber.{RuleNumber}
use Rattle.pfr_net.specs.declared.timeout.Timeout.{Timeout}
use Rattle.pfr_net.specs.declared.timeout.Timeout.TheVariants as timeouts
use Rattle.pfr_net.specs.Timeouts.{code_of, timeout_of}
use Rattle.pfr_net.proofs.TimeoutLemmas.{code_of_timeout}
use Rattle.pfr_messages.specs.declared.fault.Fault.{Fault}
use Rattle.pfr_messages.specs.declared.fault.Fault.TheVariants.{Differs}
use Rattle.pfr_messages.specs.Fields.{behind, code_at, coded, number_at}
use Rattle.pfr_messages.specs.Records as spec
use Rattle.pfr_messages.proofs.FieldLoops.{same_byte}
use Rattle.pfr_messages.proofs.Fitting.{both, both_hold}
use Rattle.pfr_messages.proofs.Formats.{IsBytes, IsBytes-rest, IsExact, Takes, bind_ok, exact32, ok_is}

-- a test that must hold
pub guard_holds : {A : Type 0} (b : Bool) (d : Fault) (r : Result A Fault) (y : A) → cond b r (Err d) ≡ Ok y
    → (b ≡ true) × (r ≡ Ok y)
guard_holds true d r y e = (refl, e)
guard_holds false d r y e = absurd cc

-- ---- texts that are the same in each message

pub text_takes : (text bytes rest : List ℕ) → IsBytes bytes → behind text bytes ≡ Ok rest → Takes bytes text rest
text_takes [] bytes rest fits e = let same : bytes ≡ rest =
    ok_is bytes rest e in record { parts = same; rest_fits = subst IsBytes same fits }
text_takes (b ∷ text) [] rest fits e = absurd cc
text_takes (b ∷ text) (c ∷ bytes) rest fits e =
    let g = guard_holds (eqb b c) (Differs (suc (length bytes))) (behind text bytes) rest e in
    let same : b ≡ c = eqb-true b c g.0 in
    let t = text_takes text bytes rest (IsBytes-rest c bytes fits) g.1 in
    let parts : bytes ≡ text ++ rest = t.parts in
    record { parts = cc (same, parts); rest_fits = t.rest_fits }

pub text_again : (text rest : List ℕ) → behind text (text ++ rest) ≡ Ok rest
text_again [] rest = refl
text_again (b ∷ text) rest = same_byte b text (text ++ rest) ∙ text_again text rest

-- ---- codes

abbrev with_rest : {A : Type 0} → Fault → List ℕ → Option A → Result (A × List ℕ) Fault
with_rest fault bytes code = elim code [
  | None ↦ Err fault
  | Some x ↦ Ok (x, bytes)
]

code_is : {A : Type 0} (o : Option A) (fault : Fault) (bytes : List ℕ) (x : A) (rest : List ℕ)
    → with_rest fault bytes o ≡ Ok (x, rest) → (o ≡ Some x) × (bytes ≡ rest)
code_is {A = A} (Some y) fault bytes x rest e =
    let same : (y, bytes) ≡ (x, rest) = ok_is (y, bytes) (x, rest) e in
    (ap (λ (p : A × List ℕ). Some p.0) same, ap (λ (p : A × List ℕ). p.1) same)
code_is None fault bytes x rest e = absurd cc

-- what a table of codes is: a code that it has is its value's code, and it has the code of each value that fits
pub record IsTable {A : Type 0} (code : A → ℕ) (fits : A → Bool) (of_code : ℕ → Option A) : Type 0 where
  pub has : (b : ℕ) (x : A) → of_code b ≡ Some x → (code x ≡ b) × (fits x ≡ true)
  pub again : (x : A) → fits x ≡ true → of_code (code x) ≡ Some x

code_takes : {A : Type 0} {code : A → ℕ} {fits : A → Bool} {of_code : ℕ → Option A} → IsTable code fits of_code
    → (bytes : List ℕ) (x : A) (rest : List ℕ) → IsBytes bytes → code_at of_code bytes ≡ Ok (x, rest)
    → Takes bytes (code x ∷ []) rest × (fits x ≡ true)
code_takes table [] x rest are e = absurd cc
code_takes {of_code = of_code} table (b ∷ bytes) x rest are e =
    let found = code_is (of_code b) (Differs (suc (length bytes))) bytes x rest e in
    let has = table.has b x found.0 in
    let code-is = has.0 in
    let rest-is : bytes ≡ rest = found.1 in
    (record { parts = cc (code-is, rest-is); rest_fits = subst IsBytes rest-is (IsBytes-rest b bytes are) }, has.1)

code_again : {A : Type 0} {code : A → ℕ} {fits : A → Bool} {of_code : ℕ → Option A} → IsTable code fits of_code
    → (x : A) (rest : List ℕ) → fits x ≡ true → code_at of_code (code x ∷ rest) ≡ Ok (x, rest)
code_again {code = code} {of_code = of_code} table x rest e = ap (with_rest (Differs (suc (length rest))) rest) (table.again x e)

exact_code : {A : Type 0} {code : A → ℕ} {fits : A → Bool} {of_code : ℕ → Option A} → IsTable code fits of_code
    → IsExact (coded code fits of_code) 1
exact_code table = record {
  len = λ x fits. refl;
  takes = λ bytes x rest are e. code_takes table bytes x rest are e;
  again = λ x rest fits. code_again table x rest fits;
}

some_is : {A : Type 0} (x y : A) → Some x ≡ Some y → x ≡ y
some_is x y e = cc

-- ---- how far an end has come

small_has : (t : Bool) (b x : ℕ) → leb b 10 ≡ t → cond t (Some b) None ≡ Some x → (x ≡ b) × (leb x 10 ≡ true)
small_has true b x holds e = let same : b ≡ x = some_is b x e in (sym same, rw (← same) holds)
small_has false b x holds e = absurd cc

pub exact_end_code : IsExact spec.end_code 1
exact_end_code = exact_code (record {
  has = λ b x e. small_has (leb b 10) b x refl e;
  again = λ x fits. rw fits refl;
})

-- ---- shifts

scale_has : (none some : Bool) (b : ℕ) (x : Option ℕ) → eqb b 0 ≡ none → (leb 128 b && leb b 142) ≡ some
    → cond none (Some None) (cond some (Some (Some (b - 128))) None) ≡ Some x → (spec.scale_code x ≡ b) × (spec.is_shift x ≡ true)
scale_has true some b None zero-is some-is e = (sym (eqb-true b 0 zero-is), refl)
scale_has true some b (Some shift) zero-is some-is e = absurd cc
scale_has false true b None zero-is some-is e = absurd cc
scale_has false true b (Some shift) zero-is some-is e =
    let is : b - 128 ≡ shift = some_is (b - 128) shift (some_is (Some (b - 128)) (Some shift) e) in
    let within = both (leb 128 b) (leb b 142) some-is in
    let low : 128 ≤ b = leb-true 128 b within.0 in
    let high : b ≤ 142 = leb-true b 142 within.1 in
    (omega arith, le-leb shift 14 (omega arith))
scale_has false false b x zero-is some-is e = absurd cc

scale_again : (x : Option ℕ) → spec.is_shift x ≡ true → spec.scale_of (spec.scale_code x) ≡ Some x
scale_again None e = refl
scale_again (Some shift) e =
    let low : shift ≤ 14 = leb-true shift 14 e in
    let other : eqb (128 + shift) 0 ≡ false = ne_eqb (128 + shift) 0 (λ is. absurd (omega arith)) in
    let within : (leb 128 (128 + shift) && leb (128 + shift) 142) ≡ true =
    both_hold (leb 128 (128 + shift)) (leb (128 + shift) 142) (le-leb 128 (128 + shift) (omega arith))
    (le-leb (128 + shift) 142 (omega arith)) in
    let back : 128 + shift - 128 ≡ shift = omega arith in
    rw (other, within, back) refl

pub exact_scale : IsExact spec.scale 1
exact_scale = exact_code (record {
  has = λ b x e. scale_has (eqb b 0) (leb 128 b && leb b 142) b x refl refl e;
  again = scale_again;
})

-- ---- directions

direction_has : (one two : Bool) (b : ℕ) (x : Direction) → eqb b 1 ≡ one → eqb b 2 ≡ two
    → cond one (Some In) (cond two (Some Out) None) ≡ Some x → spec.direction_code x ≡ b
direction_has true two b In is-one is-two e = sym (eqb-true b 1 is-one)
direction_has true two b Out is-one is-two e = absurd cc
direction_has false true b In is-one is-two e = absurd cc
direction_has false true b Out is-one is-two e = sym (eqb-true b 2 is-two)
direction_has false false b x is-one is-two e = absurd cc

direction_again : (x : Direction) → spec.direction_of (spec.direction_code x) ≡ Some x
direction_again In = refl
direction_again Out = refl

pub exact_direction : IsExact spec.direction 1
exact_direction = exact_code (record {
  has = λ b x e. (direction_has (eqb b 1) (eqb b 2) b x refl refl e, refl);
  again = λ x fits. direction_again x;
})

-- ---- timeouts

timeout_has : (b : ℕ) (x : Timeout) → timeout_of b ≡ Some x → code_of x ≡ b
timeout_has b x e = subst (λ (o : Option Timeout). IfSome o (λ t. code_of t ≡ b)) e (code_of_timeout b)

timeout_again : (x : Timeout) → timeout_of (code_of x) ≡ Some x
unfolding code_of
timeout_again timeouts.TcpFirst = refl
timeout_again timeouts.TcpOpening = refl
timeout_again timeouts.TcpEstablished = refl
timeout_again timeouts.TcpClosing = refl
timeout_again timeouts.TcpFinWait = refl
timeout_again timeouts.TcpClosed = refl
timeout_again timeouts.UdpFirst = refl
timeout_again timeouts.UdpSingle = refl
timeout_again timeouts.UdpMultiple = refl
timeout_again timeouts.IcmpFirst = refl
timeout_again timeouts.IcmpError = refl
timeout_again timeouts.OtherFirst = refl
timeout_again timeouts.OtherSingle = refl
timeout_again timeouts.OtherMultiple = refl

pub exact_timeout : IsExact spec.timeout 1
exact_timeout = exact_code (record {
  has = λ b x e. (timeout_has b x e, refl);
  again = λ x fits. timeout_again x;
})

-- ---- numbers of rules

rule_has : (none : Bool) (n : ℕ) → n < 2 ^ 32 → eqb n (2 ^ 32 - 1) ≡ none
    → (spec.rule_code (cond none None (Some (record { 0 = n }))) ≡ n)
    × (spec.is_rule (cond none None (Some (record { 0 = n }))) ≡ true)
rule_has true n lt e = (sym (eqb-true n (2 ^ 32 - 1) e), refl)
rule_has false n lt e = (refl, lt-ltb n (2 ^ 32 - 1) (omega (arith, eqb-false n (2 ^ 32 - 1) e)))

rule_takes : (bytes : List ℕ) (x : Option RuleNumber) (rest : List ℕ) → IsBytes bytes → spec.rule_at bytes ≡ Ok (x, rest)
    → Takes bytes (spec.rule.spelling x) rest × (spec.is_rule x ≡ true)
rule_takes bytes x rest are e =
    let a = bind_ok (number_at w32 bytes) (λ code. Ok (spec.rule_of code.0, code.1)) (x, rest) e in
    let t = exact32.takes bytes a.0.0 a.0.1 are a.1 in
    let lt : a.0.0 < 2 ^ 32 = ltb-true a.0.0 (2 ^ 32) t.1 in
    let has = rule_has (eqb a.0.0 (2 ^ 32 - 1)) a.0.0 lt refl in
    let spelled : Takes bytes (spec.rule.spelling (spec.rule_of a.0.0)) a.0.1 =
    subst (λ (n : ℕ). Takes bytes (to_be_bytes w32 n) a.0.1) (sym has.0) t.0 in
    subst (λ (p : Option RuleNumber × List ℕ). Takes bytes (spec.rule.spelling p.0) p.1 × (spec.is_rule p.0 ≡ true))
    (ok_is (spec.rule_of a.0.0, a.0.1) (x, rest) a.2) (spelled, has.1)

rule_back : (x : Option RuleNumber) → spec.is_rule x ≡ true → (spec.rule_of (spec.rule_code x) ≡ x) × (spec.rule_code x < 2 ^ 32)
rule_back None e = (refl, omega arith)
rule_back (Some rule) e =
    let lt : rule.0 < 2 ^ 32 - 1 = ltb-true rule.0 (2 ^ 32 - 1) e in
    let other : eqb rule.0 (2 ^ 32 - 1) ≡ false = ne_eqb rule.0 (2 ^ 32 - 1) (λ is. absurd (omega arith)) in
    (rw other refl, omega arith)

rule_again : (x : Option RuleNumber) (rest : List ℕ) → spec.is_rule x ≡ true
    → spec.rule_at (spec.rule.spelling x ++ rest) ≡ Ok (x, rest)
rule_again x rest e =
    let back = rule_back x e in
    rw (exact32.again (spec.rule_code x) rest (lt-ltb (spec.rule_code x) (2 ^ 32) back.1), back.0) refl

pub exact_rule : IsExact spec.rule 4
exact_rule = record { len = λ x fits. refl; takes = rule_takes; again = rule_again }
