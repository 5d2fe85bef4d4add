use Rattle.std.proofs.Common.{arith, refl}
use Rattle.pfr_capture.specs.Reading.{FieldsOf}
use Rattle.pfr_merge.proofs.merge.placed.Goals as goal

pub returns-clause-fields : goal.returns-clause-fields
returns-clause-fields c = λ form (fields : FieldsOf form c.args.packet). record {
  place_is = λ small. omega (arith, small);
  fields = record { place = refl; link = fields.link; seconds = fields.seconds; fraction = fields.fraction };
}
