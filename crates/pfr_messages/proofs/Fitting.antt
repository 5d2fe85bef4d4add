-- What the fields of records that fit are.
use Rattle.std.proofs.Common.{◌≡◌, Bool, true, false, ◌&&◌, List, [], ◌∷◌, refl}
use Rattle.std.specs.Int.{w8, w16, w32, w64}
use Rattle.pfr_messages.specs.declared.records.Peer.{Peer}
use Rattle.pfr_messages.specs.declared.records.Parties.{Parties}
use Rattle.pfr_messages.specs.declared.records.Insertion.{Insertion}
use Rattle.pfr_messages.specs.declared.records.Update.{Update}
use Rattle.pfr_messages.specs.declared.records.Deletion.{Deletion}
use Rattle.pfr_messages.specs.Fields.{name, number}
use Rattle.pfr_messages.specs.Records.{end_code, insertion_fits, is_rule, parties, peer, peer_fits, rule, scale, update_fits}

-- ---- tests one after the other

abbrev pub all_hold : List Bool → Bool
all_hold [] = true
all_hold (a ∷ []) = a
all_hold (a ∷ b ∷ tests) = a && all_hold (b ∷ tests)

abbrev pub Each : List Bool → Type 0
Each [] = Unit {0}
Each (a ∷ tests) = (a ≡ true) × Each tests

pub both : (a b : Bool) → (a && b) ≡ true → (a ≡ true) × (b ≡ true)
both true b e = (refl, e)
both false b e = absurd cc

pub each : (tests : List Bool) → all_hold tests ≡ true → Each tests
each [] e = tt
each (a ∷ []) e = (e, tt)
each (a ∷ b ∷ tests) e = let p = both a (all_hold (b ∷ tests)) e in (p.0, each (b ∷ tests) p.1)

pub both_hold : (a b : Bool) → a ≡ true → b ≡ true → (a && b) ≡ true
both_hold true b e f = f
both_hold false b e f = absurd cc

pub all : (tests : List Bool) → Each tests → all_hold tests ≡ true
all [] e = refl
all (a ∷ []) e = e.0
all (a ∷ b ∷ tests) e = both_hold a (all_hold (b ∷ tests)) e.0 (all (b ∷ tests) e.1)

-- ---- the tests of records

abbrev pub peer_tests : Peer → List Bool
peer_tests p = (number w32).fits p.low.0 ∷ (number w32).fits p.high.0 ∷ (number w16).fits p.greatest_window ∷ end_code.fits
    p.code ∷ scale.fits p.scale ∷ []

abbrev pub parties_tests : Parties → List Bool
parties_tests p = (number w32).fits p.outside.address.0 ∷ (number w32).fits p.inside.address.0 ∷ (number w16).fits
    p.outside.port.0 ∷ (number w16).fits p.inside.port.0 ∷ []

abbrev pub insertion_tests : Insertion → List Bool
insertion_tests r =
    (number w64).fits r.number.0 ∷ name.fits r.interface ∷ parties.fits r.wire ∷ parties.fits r.stack ∷ peer.fits
    r.maker ∷ peer.fits r.other
    ∷ rule.fits r.rule ∷ rule.fits r.translation ∷ (number w32).fits r.age ∷ (number w32).fits r.remaining
    ∷ (number w64).fits r.forth.packets ∷ (number w64).fits r.back.packets ∷ (number w64).fits r.forth.bytes ∷ (number w64).fits
    r.back.bytes
    ∷ (number w32).fits r.creator ∷ (number w8).fits r.protocol.0 ∷ []

abbrev pub update_tests : Update → List Bool
update_tests r = (number w64).fits r.number.0 ∷ peer.fits r.maker ∷ peer.fits r.other ∷ (number w32).fits
    r.creator ∷ (number w32).fits r.remaining ∷ []

abbrev pub deletion_tests : Deletion → List Bool
deletion_tests r = (number w64).fits r.number.0 ∷ (number w32).fits r.creator ∷ []

-- ---- their parts

pub insertion_maker : (r : Insertion) → insertion_fits r ≡ true → peer_fits r.maker ≡ true
insertion_maker r e = (each (insertion_tests r) e).1.1.1.1.0

pub insertion_other : (r : Insertion) → insertion_fits r ≡ true → peer_fits r.other ≡ true
insertion_other r e = (each (insertion_tests r) e).1.1.1.1.1.0

pub insertion_rule : (r : Insertion) → insertion_fits r ≡ true → is_rule r.rule ≡ true
insertion_rule r e = (each (insertion_tests r) e).1.1.1.1.1.1.0

pub insertion_translation : (r : Insertion) → insertion_fits r ≡ true → is_rule r.translation ≡ true
insertion_translation r e = (each (insertion_tests r) e).1.1.1.1.1.1.1.0

pub update_maker : (r : Update) → update_fits r ≡ true → peer_fits r.maker ≡ true
update_maker r e = (each (update_tests r) e).1.0

pub update_other : (r : Update) → update_fits r ≡ true → peer_fits r.other ≡ true
update_other r e = (each (update_tests r) e).1.1.0
