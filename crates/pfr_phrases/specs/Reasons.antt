-- What the reasons of changes mean for the verdicts.
use Rattle.pfr_phrases.specs.declared.reason.Kind.{Kind}
use Rattle.pfr_phrases.specs.declared.reason.Kind.TheVariants as kind
use Rattle.pfr_phrases.specs.declared.reason.Reason.{Reason}
use Rattle.pfr_phrases.specs.declared.reason.Reason.TheVariants as reason

-- a note if no verdict of this program depends on what is rewritten
unfoldable pub kind_of : Reason → Kind
kind_of reason.Modulated = kind.Note
kind_of reason.Answer = kind.Note
kind_of reason.LogOptions = kind.Note
kind_of reason.Route = kind.Note
kind_of reason.Queue = kind.Note
kind_of reason.Identifier = kind.Note
kind_of reason.Setting = kind.Note
kind_of reason.Inet6 = kind.Note
kind_of reason.Inet6Address = kind.Note
kind_of reason.Name = kind.Note
kind_of reason.ShortAddress = kind.Note
kind_of reason.Optimization = kind.Note
kind_of reason.Flow = kind.Note
kind_of reason.Priority = kind.Note
kind_of reason.Label = kind.Note
kind_of reason.Macro = kind.Note
kind_of reason.Host = kind.Note
kind_of reason.Brackets = kind.Note
kind_of reason.Group = kind.Note
kind_of reason.TableName = kind.Note
kind_of reason.TableFile = kind.Note
kind_of reason.Antispoof = kind.Note
kind_of reason.Synproxy = kind.Warning
kind_of reason.Scrub = kind.Warning
kind_of reason.Limit = kind.Warning
kind_of reason.Overload = kind.Warning
kind_of reason.Sloppy = kind.Warning
kind_of reason.RuleTimeout = kind.Warning
kind_of reason.Adaptive = kind.Warning
kind_of reason.Tag = kind.Warning
kind_of reason.Criterion = kind.Warning
kind_of reason.Match = kind.Warning
kind_of reason.Reassemble = kind.Warning
kind_of reason.StateDefaults = kind.Warning
kind_of reason.NoRoute = kind.Warning
kind_of reason.Pool = kind.Warning
kind_of reason.Elsewhere = kind.Warning
kind_of reason.Unsettled = kind.Error
