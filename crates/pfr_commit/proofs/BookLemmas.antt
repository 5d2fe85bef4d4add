-- What a book knows of an outcome.
use Rattle.std.proofs.Common.{◌≡◌, ◌∙◌, Option, Some, None, IfNone, IfSome, Result, Ok, Err, OnErr, Bor, ap, refl}
use Rattle.std.specs.Option.{unwrap_or}
use Rattle.pfr_packet.specs.declared.outcome.Outcome.{Outcome}
use Rattle.pfr_commit.specs.declared.book.Book.{Book}
use Rattle.pfr_commit.specs.Books.{job_of}

pub same_job : (book other : Book) → book.job ≡ other.job → job_of book ≡ job_of other
same_job book other is = rw is refl

-- what holds of whatever an option holds
pub if_some : {X : Type 0} (P : X → Type 0) (o : Option X) → ((x : X) → o ≡ Some x → P x) → IfSome o P
if_some P None h = tt
if_some P (Some x) h = h x refl

-- what holds in any case holds of a refusal
pub on_err : {X E : Type 0} (r : Result X E) (P : Type 0) → P → OnErr r P
on_err (Ok x) P h = tt
on_err (Err e) P h = h

-- an outcome that is held, or one that was written here: either is the packet's
pub by_either : (held : Option (Bor Outcome)) (here which : Bor Outcome) (outcome : Outcome) → which ≡ unwrap_or held here → IfSome held (λ it. it.now ≡ outcome) → IfNone held (here.now ≡ outcome) → which.now ≡ outcome
by_either None here which outcome is some none = ap (λ (it : Bor Outcome). it.now) is ∙ none
by_either (Some it) here which outcome is some none = ap (λ (it : Bor Outcome). it.now) is ∙ some
