-- Timeouts and their codes.
use Rattle.std.proofs.Common.{◌≡◌, ℕ, zero, suc, refl}
use Rattle.std.specs.Prelude.{IfSome}
use Rattle.pfr_net.specs.Timeouts.{code_of, timeout_of}

-- the timeout of a code has that code
pub code_of_timeout : (code : ℕ) → IfSome (timeout_of code) (λ timeout. code_of timeout ≡ code)
unfolding code_of
code_of_timeout zero = refl
code_of_timeout (suc zero) = refl
code_of_timeout (suc (suc zero)) = refl
code_of_timeout (suc (suc (suc zero))) = refl
code_of_timeout (suc (suc (suc (suc zero)))) = refl
code_of_timeout (suc (suc (suc (suc (suc zero))))) = refl
code_of_timeout (suc (suc (suc (suc (suc (suc zero)))))) = refl
code_of_timeout (suc (suc (suc (suc (suc (suc (suc zero))))))) = refl
code_of_timeout (suc (suc (suc (suc (suc (suc (suc (suc zero)))))))) = refl
code_of_timeout (suc (suc (suc (suc (suc (suc (suc (suc (suc zero))))))))) = refl
code_of_timeout (suc (suc (suc (suc (suc (suc (suc (suc (suc (suc zero)))))))))) = refl
code_of_timeout (suc (suc (suc (suc (suc (suc (suc (suc (suc (suc (suc zero))))))))))) = refl
code_of_timeout (suc (suc (suc (suc (suc (suc (suc (suc (suc (suc (suc (suc zero)))))))))))) = refl
code_of_timeout (suc (suc (suc (suc (suc (suc (suc (suc (suc (suc (suc (suc (suc zero))))))))))))) = refl
code_of_timeout (suc (suc (suc (suc (suc (suc (suc (suc (suc (suc (suc (suc (suc (suc code)))))))))))))) = tt
