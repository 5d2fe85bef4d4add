use Rattle.pfr_track.proofs.TrackingTranslated.{touched_alike}
use Rattle.pfr_track.proofs.laws.a_translation_is_not_tracked.Goals as goal

pub returns : goal.returns
returns c = touched_alike
