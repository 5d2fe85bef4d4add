-- What is written is read back.
use Rattle.std.proofs.Common.{◌≡◌, ℕ, ◌+◌, ◌≤◌, true, false, eqb, ltb, List, [], ◌∷◌, ◌++◌, length, drop, None, Ok, refl, sym, ap, subst, ◌∙◌, append_assoc, arith}
use Rattle.std.specs.List.{AllByRecursion, flat_map}
use Rattle.std.proofs.lemmas.Bool.{eq-eqb, le-ltb}
use Rattle.std.proofs.lemmas.List.{drop_at}
use Rattle.std.proofs.lemmas.List.Elements.{recursion_from_All}
use Rattle.pfr_net.specs.declared.address.Ipv4Address.{Ipv4Address}
use Rattle.pfr_messages.specs.Messages.{Content, Fits, sections, spelling}
use Rattle.pfr_messages.proofs.Whole.{message_again, spelling_len}
use Rattle.pfr_sync.specs.Files.{checksum_of, header_with}
use Rattle.pfr_stream.specs.declared.framing.Framing.{Framing}
use Rattle.pfr_stream.specs.declared.framing.Framing.TheVariants.{File, Bare}
use Rattle.pfr_stream.specs.Laws.{FilesAreRead, SpellingsAreRead, packet_of}
use Rattle.pfr_stream.specs.Stream.{AreWhole, framed_at, header_refusal, number_at}
use Rattle.pfr_stream.proofs.Framed.{framed_behind}

-- the text of a message is read as the message, whatever stands behind it
abbrev IsRead : Framing → (Content → List ℕ) → Type 0
IsRead framing text =
    (content : Content) (rest : List ℕ) → Fits content → framed_at framing (text content ++ rest) ≡ Ok (content, length (text content))

-- then so are texts, one after the other
all_read : (framing : Framing) (text : Content → List ℕ) → IsRead framing text → (contents : List Content) → AllByRecursion Fits contents
    → AreWhole framing (flat_map text contents) contents []
all_read framing text read [] fit = refl
all_read framing text read (c ∷ contents) fit =
    let rest : List ℕ = flat_map text contents in (
      length (text c),
      read c rest fit.0,
      subst (λ (bytes : List ℕ). AreWhole framing bytes contents []) (sym (drop_at (text c) rest (length (text c)) refl)) (all_read framing text read contents fit.1),
    )

bare_read : IsRead Bare spelling
unfolding framed_at
bare_read content rest fits = message_again content rest fits

pub spellings_are_read : SpellingsAreRead
spellings_are_read contents fit = all_read Bare spelling bare_read contents (recursion_from_All Fits contents fit)

-- the header before a message passes
header_is : (checksum : ℕ) (source : Ipv4Address) (content : Content) (rest : List ℕ) → Fits content
    → header_refusal (header_with checksum source (length (spelling content)) ++ (spelling content ++ rest)) ≡ None
unfolding header_refusal header_with
header_is checksum source content rest fits =
    let len : ℕ = length (spelling content) in
    let size : len ≡ 20 + length (sections content) = spelling_len content fits in
    let short : 20 + length (sections content) ≤ 1480 = fits.short in
    let bytes : List ℕ = header_with checksum source len ++ (spelling content ++ rest) in
    let enough : ltb (length bytes) 24 ≡ false = le-ltb (length bytes) 24 (omega arith) in
    let same : eqb (number_at 2 bytes) (20 + number_at 22 bytes) ≡ true = eq-eqb (number_at 2 bytes) (20 + number_at 22 bytes) (omega (arith, size, short)) in
    rw (enough, same) refl

behind_is : (checksum : ℕ) (source : Ipv4Address) (len : ℕ) (bytes : List ℕ) → bytes ≡ drop 20 (header_with checksum source len ++ bytes)
unfolding header_with
behind_is checksum source len bytes = refl

header_length : (checksum : ℕ) (source : Ipv4Address) (len : ℕ) (bytes : List ℕ) → length (header_with checksum source len ++ bytes) ≡ 20 + length bytes
unfolding header_with
header_length checksum source len bytes = omega arith

file_read : (source : Ipv4Address) → IsRead File (packet_of source)
file_read source content rest fits =
    let len : ℕ = length (spelling content) in
    let checksum : ℕ = checksum_of source len in
    let text : List ℕ = spelling content ++ rest in
    let joined : packet_of source content ++ rest ≡ header_with checksum source len ++ text = append_assoc (header_with checksum source len) (spelling content) rest in
    let framed = framed_behind (header_with checksum source len ++ text) text (content, len) (header_is checksum source content rest fits) (behind_is checksum source len text) (message_again content rest fits) in
    ap (framed_at File) joined ∙ framed ∙ ap (λ (n : ℕ). Ok (content, n)) (sym (header_length checksum source len (spelling content)))

pub files_are_read : FilesAreRead
files_are_read source contents fit = all_read File (packet_of source) (file_read source) contents (recursion_from_All Fits contents fit)
