-- Records, each with its view.
use Rattle.std.proofs.Common.{◌≡◌, ◌∙◌, ◌<◌, ◌+◌, ℕ, List, [], ◌∷◌, ◌++◌, length, get_or, take, refl, sym, ap, arith}
use Rattle.std.specs.List.{AllZip}
use Rattle.std.proofs.lemmas.List.{length-map, map-append, take_more}
use Rattle.std.proofs.lemmas.List.Elements.{All-nil, All-push}
use Rattle.pfr_headers.specs.declared.packet.View.{View}
use Rattle.pfr_headers.specs.View.{view_of}
use Rattle.pfr_capture.specs.declared.capture.Record.{Record}
use Rattle.pfr_feed.specs.Batches.{IsViewOf}
use Rattle.pfr_feed.specs.Runs.{AreViewed}

-- ---- lists that go together, item by item

module _ {X Y : Type 0} (R : X → Y → Type 0) where
  pub one_more : (xs : List X) (ys : List Y) (x : X) (y : Y) → AllZip R xs ys → R x y → AllZip R (xs ++ x ∷ []) (ys ++ y ∷ [])
  one_more [] [] x y all one = (one, tt)
  one_more [] (b ∷ ys) x y all one = absurd all
  one_more (a ∷ xs) [] x y all one = absurd all
  one_more (a ∷ xs) (b ∷ ys) x y all one = (all.0, one_more xs ys x y all.1 one)

  -- one more of the first list has its item
  pub taken : (xs : List X) (ys : List Y) (i : ℕ) (d : X) (y : Y) → i < length xs → AllZip R (take i xs) ys → R (get_or xs i d) y → AllZip R (take (i + 1) xs) (ys ++ y ∷ [])
  taken xs ys i d y within all one = rw (take_more xs i d within) (one_more (take i xs) ys (get_or xs i d) y all one)

-- ---- views

pub none_viewed : (packets : List (Record × View)) → packets ≡ [] → AreViewed [] packets
none_viewed packets is = record { records_are = rw is refl; viewed = rw is (All-nil _) }

pub one_viewed : (records : List Record) (packets : List (Record × View)) (packet : Record) (view : View) → AreViewed records packets → view ≡ view_of packet.link packet.bytes.items
    → AreViewed (records ++ packet ∷ []) (packets ++ (packet, view) ∷ [])
one_viewed records packets packet view are is = record {
  records_are = map-append (λ (p : Record × View). p.0) packets ((packet, view) ∷ []) ∙ ap (λ (rs : List Record). rs ++ packet ∷ []) are.records_are;
  viewed = All-push (λ (p : Record × View). p.1 ≡ view_of p.0.link p.0.bytes.items) packets (packet, view) are.viewed is;
}

-- as many packets as records
pub as_many : (records : List Record) (packets : List (Record × View)) → AreViewed records packets → length packets ≡ length records
as_many records packets are = sym (length-map packets (λ (p : Record × View). p.0)) ∙ ap length are.records_are

-- there are as many views as records
pub view_there : (xs : List Record) (x : Record) (rest : List Record) (views : List View) → AllZip IsViewOf (xs ++ x ∷ rest) views → length xs < length views
view_there [] x rest [] all = absurd all
view_there [] x rest (v ∷ views) all = omega arith
view_there (y ∷ xs) x rest [] all = absurd all
view_there (y ∷ xs) x rest (v ∷ views) all = (let more = view_there xs x rest views all.1 in omega arith)

-- the view at the place of the next record is its own
pub view_at : (xs : List Record) (x : Record) (rest : List Record) (views : List View) (d : View) → AllZip IsViewOf (xs ++ x ∷ rest) views → IsViewOf x (get_or views (length xs) d)
view_at [] x rest [] d all = absurd all
view_at [] x rest (v ∷ views) d all = all.0
view_at (y ∷ xs) x rest [] d all = absurd all
view_at (y ∷ xs) x rest (v ∷ views) d all = view_at xs x rest views d all.1
