-- Which packet and which line of verdicts are joined.
use Rattle.std.specs.Prelude.{◌≡◌, ℕ, Bool, true, false, not, ◌&&◌, nat_lt, List, [], ◌∷◌, ◌++◌, length, Option, Some, None}
use Rattle.pfr_headers.specs.declared.packet.View.{View}
use Rattle.pfr_headers.specs.declared.packet.View.TheVariants.{Ipv4, Skip, Short}
use Rattle.pfr_net.specs.declared.interface.InterfacePlace.{InterfacePlace}
use Rattle.pfr_net.specs.declared.rule_number.RuleNumber.{RuleNumber}
use Rattle.pfr_ruleset.specs.declared.interface.Interface.{Interface}
use Rattle.pfr_packet.specs.declared.outcome.Outcome.{Outcome}
use Rattle.pfr_packet.specs.declared.verdict.Reason.{Reason}
use Rattle.pfr_packet.specs.declared.verdict.Reason.TheVariants as reason
use Rattle.pfr_packet.specs.declared.verdict.Verdict.{Verdict}
use Rattle.pfr_packet.specs.declared.verdict.Verdict.TheVariants as verdict
use Rattle.pfr_commit.specs.Lines.{verdict_line}
use Rattle.pfr_show.specs.declared.joining.Met.{Met}
use Rattle.pfr_show.specs.declared.joining.Run.{Run}

abbrev pub is_not_ip : Reason → Bool
is_not_ip reason.NotIp = true
is_not_ip other = false

abbrev pub is_short : Reason → Bool
is_short reason.Short = true
is_short other = false

-- a packet of this view may come to something for this reason
abbrev pub fits : View → Reason → Bool
fits Skip reason = is_not_ip reason
fits Short reason = not (is_not_ip reason)
fits (Ipv4 packet) reason = not (is_not_ip reason) && not (is_short reason)

abbrev pub is_skip : Verdict → Bool
is_skip verdict.Skip = true
is_skip other = false

abbrev pub is_pass : Verdict → Bool
is_pass verdict.Pass = true
is_pass other = false

abbrev pub is_block : Verdict → Bool
is_block verdict.Block = true
is_block other = false

-- a run comes to this verdict for this reason
abbrev pub agree : Verdict → Reason → Bool
agree reached reason.NotIp = is_skip reached
agree reached reason.Rule = not (is_skip reached)
agree reached reason.SkipOn = is_pass reached
agree reached reason.State = is_pass reached
agree reached reason.StateError = is_pass reached
agree reached reason.Default = is_pass reached
agree reached reason.NatPass = is_pass reached
agree reached reason.Short = is_block reached
agree reached reason.IpOption = is_block reached
agree reached reason.StateMismatch = is_block reached
agree reached reason.StateInsert = is_block reached
agree reached reason.StateLimit = is_block reached
agree reached reason.NatExhausted = is_block reached

-- one of `rules` rules has this number, if one is named
abbrev pub is_there : ℕ → Option RuleNumber → Bool
is_there rules None = true
is_there rules (Some number) = nat_lt number.0 rules

-- the place of the interface on which a packet was captured
abbrev pub place_of : Met → InterfacePlace
place_of met = record { 0 = met.packet.now.place }

-- a line, without its newline, is what a run with these interfaces writes of a packet that comes to this
abbrev pub IsWritten : List Interface → Met → (line : List ℕ) → Outcome → Type 0
IsWritten interfaces met line outcome = verdict_line interfaces met.number met.clock (place_of met) outcome ≡ line ++ 10 ∷ []

-- A packet of a run is joined with a line, by which it comes to this.
pub record Joins (run : Run) (met : Met) (line : List ℕ) (outcome : Outcome) : Type 0 where
  pub written : IsWritten run.interfaces.now met line outcome
  pub reason_agrees : agree outcome.verdict outcome.reason ≡ true
  pub view_fits : fits met.view.now outcome.reason ≡ true
  pub rule_there : is_there (length run.rules.now.filter.items) outcome.rule ≡ true
  pub translation_there : is_there (length run.rules.now.translations.items) outcome.translation ≡ true
