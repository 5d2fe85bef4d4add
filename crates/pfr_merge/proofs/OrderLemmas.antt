-- Of two events at most one comes before the other, and "doesn't come before" goes on from event to event.
use Rattle.std.proofs.Common.{◌≡◌, true, false, refl, arith}
use Rattle.std.proofs.lemmas.Bool.Decides.{nat_tests}
use Rattle.pfr_merge.specs.declared.time.Time.{Time}
use Rattle.pfr_merge.specs.Arrivals.{Event, came, comes_before, is_before, refused}

pub not_after : (a b : Time) → is_before a b ≡ true → is_before b a ≡ false
not_after a b before = grind (arith, nat_tests)

pub none_before : (a b c : Time) → is_before a b ≡ false → is_before b c ≡ false → is_before a c ≡ false
none_before a b c first second = grind (arith, nat_tests)

pub not_itself : (a : Time) → is_before a a ≡ false
not_itself a = grind (arith, nat_tests)

pub comes_after : (x y : Event) → comes_before x y ≡ true → comes_before y x ≡ false
unfolding comes_before
comes_after (came a) (came b) before = not_after a.time b.time before
comes_after (came a) (refused place e) before = absurd (cc)
comes_after (refused place e) (came b) before = refl
comes_after (refused place e) (refused other f) before = refl

pub comes_no_sooner : (x y z : Event) → comes_before x y ≡ false → comes_before y z ≡ false → comes_before x z ≡ false
unfolding comes_before
comes_no_sooner (came a) (came b) (came c) first second = none_before a.time b.time c.time first second
comes_no_sooner (came a) (refused place e) (came c) first second = absurd (cc)
comes_no_sooner (came a) y (refused place e) first second = refl
comes_no_sooner (refused place e) (came b) z first second = absurd (cc)
comes_no_sooner (refused place e) (refused other f) (came c) first second = absurd (cc)
comes_no_sooner (refused place e) (refused other f) (refused third g) first second = refl

pub not_before_itself : (x : Event) → comes_before x x ≡ false
unfolding comes_before
not_before_itself (came a) = not_itself a.time
not_before_itself (refused place e) = refl
