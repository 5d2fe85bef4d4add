-- The checksum that all messages of a run carry.
use Rattle.std.specs.Prelude.{ℕ, List}
use Rattle.md5.specs.Md5.{md5}

-- the checksum of a ruleset's text: its MD5 (RFC 1321)
abbrev pub checksum_of : List ℕ → List ℕ
checksum_of text = md5 text
