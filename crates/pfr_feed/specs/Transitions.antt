-- How a feed goes from one state to the next.
use Rattle.std.specs.Prelude.{List}
use Rattle.pfr_capture.specs.declared.capture.Record.{Record}
use Rattle.pfr_commit.specs.World.{Texts}

-- what each call of a feed does, from the state before it to the state after it
pub record Transitions (F : Type 0) : Type 1 where
  -- it gave a batch of records
  pub gives : F → List Record → F → Type 0
  -- it gave none, as the reading ends
  pub ends : F → F → Type 0
  -- it took a piece, and each output grew by the piece's text
  pub takes : F → Texts → F → Type 0
  -- it took a piece in part, and each output grew by a beginning of the piece's text
  pub cuts : F → Texts → F → Type 0
  -- it took the packets of a batch back
  pub rests : F → F → Type 0
