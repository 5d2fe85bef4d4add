-- What is put into a text for its statements.
use Rattle.std.specs.Prelude.{ℕ, nat_lt, if◌then◌else◌, List, [], ◌∷◌, ◌++◌, length, Option, Some, None}
use Rattle.std.specs.List.{filter_map}
use Rattle.std.specs.Str.{bytes_eq}
use Rattle.pfr_include.specs.declared.file.Found.{Found}
use Rattle.pfr_include.specs.declared.splices.Loading.{Loading}
use Rattle.pfr_include.specs.declared.splices.Put.{Put}
use Rattle.pfr_include.specs.declared.splices.Put.TheVariants as put
use Rattle.pfr_include.specs.declared.splices.Splice.{Splice}
use Rattle.pfr_include.specs.declared.statements.Anchor.{Anchor}
use Rattle.pfr_include.specs.declared.statements.Naming.{Naming}
use Rattle.pfr_include.specs.declared.statements.Statement.{Statement}
use Rattle.pfr_include.specs.declared.statements.Statement.TheVariants as statement

-- the splice that puts something in the place of a statement
abbrev pub replaced : Naming → Put → Splice
replaced naming put = record { statement = naming.start; start = naming.start; end = naming.end; put = put }

-- the splice that gives an anchor rules, behind its line
abbrev pub opened : Anchor → Found → Splice
opened anchor found = record { statement = anchor.start; start = anchor.end; end = anchor.end; put = put.Rules found }

abbrev pub splice_in : Option Splice → List Splice
splice_in None = []
splice_in (Some splice) = splice ∷ []

-- the splice that puts a file in the place of a statement `include`
abbrev pub include_splice : Statement → Option Splice
include_splice (statement.Include naming) = Some (replaced naming (put.File naming.found))
include_splice (statement.Load name naming) = None
include_splice (statement.Anchor anchor) = None

abbrev pub includes : List Statement → List Splice
includes [] = []
includes (statement ∷ statements) = splice_in (include_splice statement) ++ includes statements

-- the file that a statement loads, with the name of the anchors into which it is loaded
abbrev pub loading_in : Statement → Option Loading
loading_in (statement.Include naming) = None
loading_in (statement.Load anchor naming) = Some (record { anchor = anchor; found = naming.found })
loading_in (statement.Anchor anchor) = None

abbrev pub loadings : List Statement → List Loading
loadings statements = filter_map loading_in statements

-- the file that the first statement for anchors of this name loads into them
abbrev pub loaded : List ℕ → List Loading → Option Found
loaded name [] = None
loaded name (loading ∷ more) = if bytes_eq loading.anchor name then Some loading.found else loaded name more

abbrev pub rules_by : Anchor → Option Found → Option Splice
rules_by anchor None = None
rules_by anchor (Some found) = Some (opened anchor found)

-- the splice that gives an anchor the rules of the file that is loaded into it
unfoldable pub rules_splice : Anchor → List Loading → Option Splice
rules_splice anchor loadings = rules_by anchor (loaded anchor.name loadings)

-- the splice that takes a statement `load anchor` out, or gives an anchor the rules that are loaded into it
abbrev pub load_splice : List Loading → Statement → Option Splice
load_splice loadings (statement.Include naming) = None
load_splice loadings (statement.Load name naming) = Some (replaced naming put.Nothing)
load_splice loadings (statement.Anchor anchor) = rules_splice anchor loadings

abbrev pub loads : List Loading → List Statement → List Splice
loads loadings [] = []
loads loadings (statement ∷ statements) = splice_in (load_splice loadings statement) ++ loads loadings statements

-- the files that are included, or if there are none, the files that are loaded
unfoldable pub splices_for : List Statement → List Splice
splices_for statements = if nat_lt 0 (length (includes statements)) then includes statements else loads (loadings statements) statements
