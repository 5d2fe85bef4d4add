-- What follows where something ends well.
use Rattle.std.proofs.Common.{OnOk, Ok, Err, Result}

pub on_ok : {T E P Q : Type 0} (ending : Result T E) → (P → Q) → OnOk ending P → OnOk ending Q
on_ok (Ok value) next is = next is
on_ok (Err fault) next is = tt
