-- Which packets are shown and how, as words of the command line say.
use Rattle.std.specs.Prelude.{◌≡◌, ℕ, Bool, true, if◌then◌else◌, nat_le, List, [], ◌∷◌, codes, Option, Some, None}
use Rattle.std.specs.List.{list_all, list_any}
use Rattle.std.specs.Str.{bytes_eq}
use Rattle.pfr_net.specs.declared.port.Port.{Port}
use Rattle.pfr_net.specs.declared.protocol.Protocol.{Protocol}
use Rattle.pfr_terms.specs.declared.port.PortWord.{PortWord}
use Rattle.pfr_terms.specs.declared.port.PortWord.TheVariants as p
use Rattle.pfr_show.specs.declared.printer.Form.{Form}
use Rattle.pfr_show.specs.declared.printer.Form.TheVariants.{Text, Json, Pflog}
use Rattle.pfr_show.specs.declared.selection.Verdicts.{Verdicts}

-- one of some words is this one
abbrev pub has : List (List ℕ) → List ℕ → Bool
has words word = list_any (λ other. bytes_eq other word) words

abbrev pub is_verdict : List ℕ → Bool
is_verdict word = has (codes "pass" ∷ codes "block" ∷ codes "return" ∷ codes "skip" ∷ []) word

-- words for verdicts list just these
pub record Lists (words : List (List ℕ)) (listed : Verdicts) : Type 0 where
  pub verdicts : list_all is_verdict words ≡ true
  pub pass_is : listed.pass ≡ has words (codes "pass")
  pub block_is : listed.block ≡ has words (codes "block")
  pub return_is : listed.returned ≡ has words (codes "return")
  pub skip_is : listed.skip ≡ has words (codes "skip")

-- `text`, `json` or `pflog`
abbrev pub form_of : List ℕ → Option Form
form_of word =
    if bytes_eq word (codes "text") then Some Text else
    if bytes_eq word (codes "json") then Some Json else
    if bytes_eq word (codes "pflog") then Some Pflog else
    None

-- the port that a word says, by its number or by the name of a service
abbrev pub port_of : PortWord → Option Port
port_of (p.Port number) = Some (record { 0 = number })
port_of p.OutOfRange = None
port_of p.Unknown = None

-- the number of a protocol, by what its word names or by the number that it writes
abbrev pub protocol_number : Option ℕ → Option ℕ → Option ℕ
protocol_number (Some named) written = Some named
protocol_number None (Some number) = if nat_le number 255 then Some number else None
protocol_number None None = None

abbrev pub protocol_of : Option ℕ → Option Protocol
protocol_of (Some number) = Some (record { 0 = number })
protocol_of None = None
