-- Steps of reading one field after the other.
use Rattle.std.proofs.Common.{◌≡◌, ℕ, true, List, ◌++◌, Result, Ok, sym, ap, ◌∙◌, append_assoc}
use Rattle.pfr_messages.specs.declared.fault.Fault.{Fault}
use Rattle.pfr_messages.specs.Fields.{◌>>=◌, Format, behind}
use Rattle.pfr_messages.proofs.Exactness.{text_takes}
use Rattle.pfr_messages.proofs.Formats.{IsBytes, IsExact, Takes, bind_ok}

-- what a step took that read a field
pub takes_field : {A B : Type 0} {f : Format A} {size : ℕ} → IsExact f size
    → (bytes : List ℕ) (next : A × List ℕ → Result B Fault) (y : B) → IsBytes bytes → (f.reading bytes >>= next) ≡ Ok y
    → {G : Type 0} → ((x : A) (rest : List ℕ) → Takes bytes (f.spelling x) rest → f.fits x ≡ true → next (x, rest) ≡ Ok y → G) → G
takes_field {f = f} exact bytes next y are e then =
    let read = bind_ok (f.reading bytes) next y e in
    let taken = exact.takes bytes read.0.0 read.0.1 are read.1 in
    then read.0.0 read.0.1 taken.0 taken.1 read.2

-- what a step took that passed a text
pub takes_text : {B : Type 0} (text bytes : List ℕ) (next : List ℕ → Result B Fault) (y : B) → IsBytes bytes
    → (behind text bytes >>= next) ≡ Ok y
    → {G : Type 0} → ((rest : List ℕ) → Takes bytes text rest → next rest ≡ Ok y → G) → G
takes_text text bytes next y are e then =
    let read = bind_ok (behind text bytes) next y e in
    then read.0 (text_takes text bytes read.0 are read.1) read.2

-- a field and what was taken behind it
pub joined : {bytes text middle more rest : List ℕ} → Takes bytes text middle → Takes middle more rest
    → Takes bytes (text ++ more) rest
joined {text = text} {more = more} {rest = rest} p q =
    record {
      parts = p.parts ∙ ap (λ (t : List ℕ). text ++ t) q.parts ∙ sym (append_assoc text more rest);
      rest_fits = q.rest_fits;
    }
