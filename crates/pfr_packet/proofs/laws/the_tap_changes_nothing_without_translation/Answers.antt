use Rattle.pfr_packet.proofs.SettingLemmas.{made_untranslated, tap_changes_nothing}
use Rattle.pfr_packet.proofs.laws.the_tap_changes_nothing_without_translation.Goals as goal

pub returns-clause-same : goal.returns-clause-same
returns-clause-same c = tap_changes_nothing

pub returns-clause-made : goal.returns-clause-made
returns-clause-made c = made_untranslated
