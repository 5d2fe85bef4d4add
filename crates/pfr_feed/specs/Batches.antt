-- The records of a batch, and what is made of them.
use Rattle.std.specs.Prelude.{◌≡◌, List, map}
use Rattle.pfr_headers.specs.declared.packet.View.{View}
use Rattle.pfr_headers.specs.View.{view_of}
use Rattle.pfr_capture.specs.declared.capture.Record.{Record}

-- a view is that of a record
abbrev pub IsViewOf : Record → View → Type 0
IsViewOf packet view = view ≡ view_of packet.link packet.bytes.items

-- the records of packets, each of which has its view
abbrev pub records_of : List (Record × View) → List Record
records_of packets = map (λ packet. packet.0) packets
