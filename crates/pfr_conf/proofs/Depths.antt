-- Anchors by their depth.
use Rattle.std.proofs.Common.{◌≡◌, ◌<◌, ℕ, zero, suc, ◌-◌, refl, arith}
use Rattle.pfr_terms.specs.declared.error.ConfErrorKind.TheVariants.{TooDeep}
use Rattle.pfr_terms.specs.Input.{faulty}
use Rattle.pfr_conf.specs.Anchors.{statement, rule_or_anchor, anchor_of}

pub deepest : (depth : ℕ) → depth ≡ 0 → statement depth ≡ rule_or_anchor (λ line. faulty TooDeep)
unfolding statement
deepest zero none = refl
deepest (suc depth) none = absurd (omega arith)

pub deeper : (depth : ℕ) → 0 < depth → statement depth ≡ rule_or_anchor (anchor_of (statement (depth - 1)))
unfolding statement
deeper zero some = absurd (omega arith)
deeper (suc depth) some = let e : suc depth - 1 ≡ depth = omega arith in rw e refl
