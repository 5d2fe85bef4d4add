-- The header of a capture, read ahead.
use Rattle.std.specs.Prelude.{◌≡◌, ℕ, List, ◌++◌, Option, Some, None, Result, Ok, Err}
use Rattle.std.specs.Io.Cursor.{cursor_remaining}
use Rattle.std.specs.Io.KnownBytes.{Consumes}
use Rattle.pfr_capture.specs.Header.{opening_of}
use Rattle.pfr_capture.specs.declared.capture.CaptureError.{CaptureError}
use Rattle.pfr_capture.specs.declared.capture.CaptureError.TheVariants.{LinkType}
use Rattle.pfr_capture.specs.declared.capture.Form.{Form}
use Rattle.pfr_files.specs.declared.head.Head.{Head}

-- the bytes that were read ahead and aren't given yet
abbrev pub remaining_in : Head → Option (List ℕ)
remaining_in head = cursor_remaining (λ bytes. Some bytes.items) head.bytes

-- bytes were read, and come behind those that are there
abbrev pub MoreRead : (old new : Option (List ℕ)) → (before after : List ℕ) → Type 0
MoreRead old new before after = (more : List ℕ) × (after ≡ before ++ more) × Consumes old new more

-- the link type that a header says, be it one that is read or not
abbrev pub link_said : Result Form CaptureError → Option ℕ
link_said (Ok form) = Some form.link
link_said (Err (LinkType link)) = Some link
link_said (Err e) = None

-- the link type of the capture that begins so, if it is one
abbrev pub link_in : List ℕ → Option ℕ
link_in text = link_said (opening_of text)
