-- Tables, as pf.conf(5) has them: each entry as often as it is written with one sign, and none with both.
use Rattle.std.specs.Prelude.{ℕ, ◌+◌, ◌-◌, ◌||◌, Bool, nat_lt, if◌then◌else◌, true, List, [], ◌∷◌, length, drop, fold, min, Option, Some, None, Result, Ok, Err}
use Rattle.pfr_ruleset.specs.declared.hosts.HostCriterion.{HostCriterion}
use Rattle.pfr_ruleset.specs.declared.hosts.HostSet.{HostSet}
use Rattle.pfr_ruleset.specs.declared.hosts.HostSet.TheVariants as set
use Rattle.pfr_ruleset.specs.declared.interface.Interface.{Interface}
use Rattle.pfr_ruleset.specs.declared.table.Entry.{Entry}
use Rattle.pfr_ruleset.specs.Interfaces.{own_entry}
use Rattle.pfr_ruleset.specs.Tables.{clashes, with_entry}
use Rattle.pfr_terms.specs.declared.error.ConfError.{ConfError}
use Rattle.pfr_terms.specs.declared.error.ConfErrorKind.TheVariants.{Clash}
use Rattle.pfr_terms.specs.declared.address.TableEntry.{TableEntry}
use Rattle.pfr_elements.specs.declared.element.Elements as E
use Rattle.pfr_elements.specs.declared.scope.Scope.{Scope}
use Rattle.pfr_elements.specs.Elements.{with_element, first_fault, most_elements}
use Rattle.pfr_elements.specs.Hosts.{entry_kind}
use Rattle.pfr_expand.specs.declared.tables.Filling.{Filling}

abbrev pub clash : ℕ → ConfError
clash line = record { line = line; kind = Clash }

-- a table with one more entry, and the first fault
abbrev pub put_entry : ℕ → List Entry × Option ConfError → Entry → List Entry × Option ConfError
put_entry line p e = if clashes p.0 e then (p.0, first_fault p.1 (clash line)) else (with_entry p.0 e, p.1)

-- with one interface's address more
abbrev pub put_own : ℕ → Bool → List Entry × Option ConfError → Interface → List Entry × Option ConfError
put_own line is_negated p interface = put_entry line p (own_entry is_negated interface)

abbrev pub put_by : List Interface → ℕ → Bool → List Entry × Option ConfError → HostSet → List Entry × Option ConfError
put_by interfaces line is_negated p (set.Network network) = put_entry line p (record { network = network; is_negated = is_negated })
put_by interfaces line is_negated p (set.Table place) = fold (put_own line is_negated) p interfaces
put_by interfaces line is_negated p other = p

-- a network is one entry, and the run's own addresses are one for each interface; nothing else is written in a table
abbrev pub put_hosts : List Interface → ℕ → List Entry × Option ConfError → HostCriterion → List Entry × Option ConfError
put_hosts interfaces line p c = put_by interfaces line c.is_negated p c.hosts

-- how many entries more than one stand for what is written at one place
abbrev pub more_by : List Interface → HostSet → ℕ
more_by interfaces (set.Table place) = length interfaces - 1
more_by interfaces other = 0

abbrev pub more_in : List Interface → HostCriterion → ℕ
more_in interfaces c = more_by interfaces c.hosts

-- the same of several places, as a number of 64 bits
abbrev pub with_more : List Interface → ℕ → HostCriterion → ℕ
with_more interfaces more c = min (more + more_in interfaces c) 18446744073709551615

-- more than a list may have count as one more than that
abbrev pub more_of : List Interface → List HostCriterion → ℕ
more_of interfaces written = min (fold (with_more interfaces) 0 written) (most_elements + 1)

abbrev pub filled_by : List Interface → ℕ → Filling → E.Elements HostCriterion → Filling
filled_by interfaces line filling found =
    let written : List HostCriterion = drop (length filling.found.items) found.items in
    let p : List Entry × Option ConfError = fold (put_hosts interfaces line) (filling.table, found.fault) written in
    let count : ℕ = min (found.count + more_of interfaces written) 18446744073709551615 in
    record { table = p.0; found = record found { fault = p.1; count = count } }

-- with what is written at one place more, which may be the use of a macro
unfoldable pub with_written : Scope → Filling → TableEntry → Filling
with_written scope filling x = filled_by scope.interfaces x.line filling (with_element entry_kind scope true filling.found x)

-- all entries; those behind the one that is too many aren't looked at
abbrev pub filled : Scope → Filling → List TableEntry → Filling
filled scope filling [] = filling
filled scope filling (x ∷ xs) = if nat_lt most_elements filling.found.count then filling else filled scope (with_written scope filling x) xs

abbrev pub table_unless : List Entry → Option ConfError → Result (List Entry) ConfError
table_unless table None = Ok table
table_unless table (Some e) = Err e

-- the table, or the first fault of its entries
abbrev pub table_or_fault : Filling → Result (List Entry) ConfError
table_or_fault filling = table_unless filling.table filling.found.fault

-- whether a list has more elements than it may have, or with others more than there may be in all
abbrev pub exceeds : ℕ → ℕ → Bool
exceeds others count = nat_lt most_elements count || nat_lt 65536 (others + count)

-- a table without entries, and a fault before the first of them
abbrev pub unfilled : Option ConfError → Filling
unfilled fault = record { table = []; found = record { items = []; fault = fault; count = 0 } }
