-- Texts one below the other: words of the laws.
use Rattle.std.specs.Prelude.{◌≡◌, ℕ, ◌+◌, List, ◌++◌, Ok, Err}
use Rattle.std.specs.List.{All}
use Rattle.pfr_words.specs.declared.word.Word.{Word}
use Rattle.pfr_words.specs.declared.word.Token.TheVariants.{LineEnd}
use Rattle.pfr_words.specs.Words.{EndsItsLine, IsWhole, moved, newlines, words}
use Rattle.pfr_terms.specs.declared.error.ConfError.{ConfError}
use Rattle.pfr_conf.specs.declared.statement.Statement.{Statement}
use Rattle.pfr_conf.specs.declared.statement.Statements.{Statements}
use Rattle.pfr_conf.specs.Following.{MayFollow}
use Rattle.pfr_conf.specs.Statements.{statements_in, statements_of}

-- a text is read as these statements
abbrev pub Says : List ℕ → Statements → Type 0
Says text found = statements_of text ≡ Ok found

-- a text is refused for this fault
abbrev pub HasFault : List ℕ → ConfError → Type 0
HasFault text e = statements_of text ≡ Err e

-- a text of blank lines and comments: its words are only ends of lines
abbrev pub SaysNothing : List ℕ → Type 0
SaysNothing text = All (λ (w : Word). w.token ≡ LineEnd) (words text)

-- a text is read as the statements of `a`, and those of `b` behind them
abbrev pub SaysBoth : List ℕ → Statements → Statements → Type 0
SaysBoth text a b = Says text (record { statements = a.statements ++ b.statements })

-- the statements of `a` are the first of those of `b`
abbrev pub IsBeginning : Statements → Statements → Type 0
IsBeginning a b = (more : List Statement) × (b.statements ≡ a.statements ++ more)

-- two texts are read, the second `lines` lines further down, and its statements may stand behind those of the first
pub record AreReadApart (lines : ℕ) (first second : List ℕ) (a b : Statements) : Type 0 where
  pub whole : IsWhole first
  pub says : Says first a
  pub other : statements_in (moved lines (words second)) ≡ Ok b
  pub follow : MayFollow a.statements b.statements

-- the same of two texts one below the other
abbrev pub AreReadInTurn : List ℕ → List ℕ → Statements → Statements → Type 0
AreReadInTurn first second a b = AreReadApart (1 + newlines first) first second a b

-- the same of two texts with blank lines and comments between them
pub record AreAround (blank first second : List ℕ) (a b : Statements) : Type 0 where
  pub ends : EndsItsLine blank
  pub nothing : SaysNothing blank
  pub apart : AreReadApart (2 + newlines first + newlines blank) first second a b
