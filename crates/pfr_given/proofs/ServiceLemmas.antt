-- Names of ports one by one.
use Rattle.std.proofs.Common.{◌≡◌, ◌≤◌, ◌+◌, ℕ, zero, suc, Bool, true, false, Option, Some, None, ◌==◌, List, [], ◌∷◌, ◌++◌, length, drop, refl, ap, arith}
use Rattle.std.proofs.lemmas.Bool.{eqb-true}
use Rattle.std.proofs.lemmas.List.{append_assoc, append-nil, drop_all, length-append}
use Rattle.pfr_given.specs.declared.entry.Entry.{Entry}
use Rattle.pfr_given.specs.declared.services.Group.{Group}
use Rattle.std.specs.Prelude.{option_to_list}
use Rattle.std.specs.Fmt.{decimal}
use Rattle.pfr_given.specs.declared.entry.Subject.TheVariants as subject
use Rattle.pfr_given.specs.Entries.{entries_for, entry}
use Rattle.pfr_given.specs.Services.{added, group_at, group_behind, is_among, new_entries, new_names, services_behind, words_of}

-- names that are known behind one more
by_test : (there : Bool) (known names : List (List ℕ)) (name : List ℕ) → is_among name known ≡ there
    → new_names known (name ∷ names) ≡ new_names known (name ∷ []) ++ new_names (known ++ new_names known (name ∷ [])) names
by_test true known names name is = rw (is, append-nil known) refl
by_test false known names name is = rw (is) refl

pub one_more : (known names : List (List ℕ)) (name : List ℕ)
    → new_names known (name ∷ names) ≡ new_names known (name ∷ []) ++ new_names (known ++ new_names known (name ∷ [])) names
one_more known names name = by_test (is_among name known) known names name refl

pub words_of_names : (names : List (List ℕ)) (text : List ℕ) → words_of (entries_for subject.Service names text) ≡ names
words_of_names [] text = refl
words_of_names (name ∷ names) text = ap (λ more. name ∷ more) (words_of_names names text)

words_more : (entries more : List Entry) → words_of (entries ++ more) ≡ words_of entries ++ words_of more
words_more [] more = refl
words_more (e ∷ entries) more = ap (λ words. e.word ∷ words) (words_more entries more)

drop_more : {A : Type 0} (n : ℕ) (list more : List A) → n ≤ length list → drop n (list ++ more) ≡ drop n list ++ more
drop_more zero list more within = refl
drop_more (suc n) [] more within = absurd (omega (arith, within))
drop_more (suc n) (x ∷ list) more within = drop_more n list more (omega (arith, within))

-- what is known behind entries that are added
pub known_more : (start : ℕ) (entries : List Entry) (names : List (List ℕ)) (text : List ℕ) → start ≤ length entries
    → words_of (drop start (entries ++ entries_for subject.Service names text)) ≡ words_of (drop start entries) ++ names
known_more start entries names text within =
    rw (drop_more start entries (entries_for subject.Service names text) within, words_more (drop start entries) (entries_for subject.Service names text), words_of_names names text) refl

entries_more : (names more : List (List ℕ)) (text : List ℕ)
    → entries_for subject.Service (names ++ more) text ≡ entries_for subject.Service names text ++ entries_for subject.Service more text
entries_more [] more text = refl
entries_more (name ∷ names) more text = ap (λ rest. entry subject.Service name text ∷ rest) (entries_more names more text)

-- one name, and those behind it
pub one_name : (start : ℕ) (entries : List Entry) (name : List ℕ) (names : List (List ℕ)) (text : List ℕ) → start ≤ length entries
    → (entries ++ new_entries start entries (name ∷ []) text) ++ new_entries start (entries ++ new_entries start entries (name ∷ []) text) names text
    ≡ entries ++ new_entries start entries (name ∷ names) text
one_name start entries name names text within =
    let known = words_of (drop start entries) in
    rw (known_more start entries (new_names known (name ∷ [])) text within, one_more known names name, entries_more (new_names known (name ∷ [])) (new_names (known ++ new_names known (name ∷ [])) names) text)
    (append_assoc entries _ _)

-- a line with a port, whose group begins before this entry
with_group : (entries : List Entry) (port start : ℕ) (before : List (List ℕ)) (s : ℕ × List (List ℕ)) (more : List (ℕ × List (List ℕ)))
    → words_of (drop start entries) ≡ before → start ≤ length entries → port ≡ s.0
    → (entries ++ new_entries start entries s.1 (decimal s.0)) ++ services_behind port (words_of (drop start (entries ++ new_entries start entries s.1 (decimal s.0)))) more
    ≡ entries ++ (entries_for subject.Service (new_names before s.1) (decimal s.0) ++ services_behind s.0 (before ++ new_names before s.1) more)
with_group entries port start before s more is within same =
    rw (known_more start entries (new_names (words_of (drop start entries)) s.1) (decimal s.0) within, is, same) (append_assoc entries _ _)

no_group : (entries : List Entry) → words_of (drop (length entries) entries) ≡ []
no_group entries = ap words_of (drop_all (length entries) entries (omega arith))

by_port : (there : Bool) (entries : List Entry) (group : Group) (s : ℕ × List (List ℕ)) (more : List (ℕ × List (List ℕ))) → (group.port == s.0) ≡ there → group.start ≤ length entries
    → (entries ++ added group entries (Some s)) ++ services_behind (group_at group s.0 (length entries)).port (words_of (drop (group_at group s.0 (length entries)).start (entries ++ added group entries (Some s)))) more
    ≡ entries ++ services_behind group.port (words_of (drop group.start entries)) (s ∷ more)
by_port true entries group s more is within = rw (is) (with_group entries group.port group.start (words_of (drop group.start entries)) s more refl within (eqb-true group.port s.0 is))
by_port false entries group s more is within = rw (is) (with_group entries s.0 (length entries) [] s more (no_group entries) (omega arith) refl)

-- one line more
pub next_service : (entries : List Entry) (group : Group) (found : Option (ℕ × List (List ℕ))) (more : List (ℕ × List (List ℕ))) → group.start ≤ length entries
    → (entries ++ added group entries found) ++ services_behind (group_behind group (length entries) found).port (words_of (drop (group_behind group (length entries) found).start (entries ++ added group entries found))) more
    ≡ entries ++ services_behind group.port (words_of (drop group.start entries)) (option_to_list found ++ more)
next_service entries group None more within = rw (append-nil entries) refl
next_service entries group (Some s) more within = by_port (group.port == s.0) entries group s more refl within

start_at : (there : Bool) (group : Group) (port len : ℕ) → (group.port == port) ≡ there → group.start ≤ len → (group_at group port len).start ≤ len
start_at true group port len is within = rw (is) within
start_at false group port len is within = rw (is) (omega arith)

start_behind : (group : Group) (len : ℕ) (found : Option (ℕ × List (List ℕ))) → group.start ≤ len → (group_behind group len found).start ≤ len
start_behind group len None within = within
start_behind group len (Some s) within = start_at (group.port == s.0) group s.0 len refl within

-- the lines with one port begin before an entry that is there, or before the next
pub start_within : (entries more : List Entry) (group : Group) (found : Option (ℕ × List (List ℕ))) → group.start ≤ length entries
    → (group_behind group (length entries) found).start ≤ length (entries ++ more)
start_within entries more group found within =
    let here = start_behind group (length entries) found within in
    let longer : length (entries ++ more) ≡ length entries + length more = length-append entries more in
    omega (arith, here, longer)
