-- Where the bytes of an output go.
use Rattle.std.specs.Prelude.{ℕ, List, Option, None}
use Rattle.pfr_files.specs.declared.destination.Destination.{Destination}
use Rattle.pfr_files.specs.declared.destination.Destination.TheVariants.{File, Nowhere, Standard, Stream}

-- the bytes that stand at a destination, where its file or its stream tells them
abbrev pub contents_of : {F O S : Type 0} → (F → Option (List ℕ)) → (O → Option (List ℕ)) → (S → Option (List ℕ)) → Destination F O S → Option (List ℕ)
contents_of file_contents standard_contents stream_contents (File file) = file_contents file
contents_of file_contents standard_contents stream_contents (Standard out) = standard_contents out
contents_of file_contents standard_contents stream_contents (Stream stream) = stream_contents stream
contents_of file_contents standard_contents stream_contents Nowhere = None
