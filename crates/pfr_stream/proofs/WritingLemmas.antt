-- A text on its way to a sink, and how a run ends behind it.
use Rattle.std.proofs.Common.{◌≡◌, ◌∙◌, ℕ, Bool, List, [], ◌∷◌, ◌++◌, Result, Ok, Err, OnErr, ap, subst, sym}
use Rattle.std.proofs.lemmas.List.{append-nil, append_assoc}
use Rattle.pfr_capture.specs.Device.{Added, GrewByPart}
use Rattle.pfr_standby.specs.Standby.{Standing}
use Rattle.pfr_stream.specs.declared.stop.Ending.{Ending}
use Rattle.pfr_stream.specs.declared.stop.Ending.TheVariants as ending
use Rattle.pfr_stream.specs.declared.stop.StandbyStop.{StandbyStop}
use Rattle.pfr_stream.specs.declared.stop.StandbyStop.TheVariants as stop
use Rattle.pfr_stream.specs.Outcomes.{WritesLines, Wrote}
use Rattle.pfr_stream.specs.Reading.{Reading, StopsWriting, outcome}
use Rattle.pfr_stream.specs.Writing.{Appends, Breaks}

-- what is gathered was written
pub appends_none : (gathered written : List ℕ) → Appends [] gathered [] written (written ++ gathered)
appends_none gathered written = λ start text a. record {
  added = a.added ++ gathered;
  text_is = append-nil text ∙ a.text_is ∙ sym (append-nil (a.added ++ gathered));
  new_is = ap (λ front. front ++ gathered) a.new_is ∙ append_assoc start a.added gathered;
}

-- a part of it was
pub breaks_none : (gathered written written' : List ℕ) → GrewByPart written written' gathered → Breaks [] gathered written written'
breaks_none gathered written written' part = λ start text a. record {
  last = part.last;
  missing = part.missing;
  grew = record {
    added = a.added ++ part.grew.added;
    text_is = append-nil text ∙ a.text_is ∙ ap (λ behind. a.added ++ behind) part.grew.text_is
        ∙ sym (append_assoc a.added part.grew.added (part.last ∷ part.missing));
    new_is = part.grew.new_is ∙ ap (λ front. front ++ part.grew.added) a.new_is ∙ append_assoc start a.added part.grew.added;
  };
}

-- a part of a text is one of a longer text
pub part_longer : (old new text more : List ℕ) → GrewByPart old new text → GrewByPart old new (text ++ more)
part_longer old new text more part = record {
  last = part.last;
  missing = part.missing ++ more;
  grew = record {
    added = part.grew.added;
    text_is = ap (λ front. front ++ more) part.grew.text_is ∙ append_assoc part.grew.added (part.last ∷ part.missing) more;
    new_is = part.grew.new_is;
  };
}

-- and more was to follow
pub breaks_longer : (piece more gathered written written' : List ℕ) → Breaks piece gathered written written' → Breaks (piece ++ more) gathered written written'
breaks_longer piece more gathered written written' breaks = λ start text a.
    subst (λ whole. GrewByPart start written' whole) (append_assoc text piece more) (part_longer start written' (text ++ piece) more (breaks start text a))

-- two pieces are on their way
pub appends_both : (one other gathered gathered' gathered'' written written' written'' : List ℕ) → Appends one gathered gathered' written written'
    → Appends other gathered' gathered'' written' written'' → Appends (one ++ other) gathered gathered'' written written''
appends_both one other gathered gathered' gathered'' written written' written'' first second = λ start text a.
    subst (λ whole. Added start written'' whole gathered'') (append_assoc text one other) (second start (text ++ one) (first start text a))

-- the second of two isn't written whole
pub breaks_second : (one other gathered gathered' written written' written'' : List ℕ) → Appends one gathered gathered' written written'
    → Breaks other gathered' written' written'' → Breaks (one ++ other) gathered written written''
breaks_second one other gathered gathered' written written' written'' first second = λ start text a.
    subst (λ whole. GrewByPart start written'' whole) (append_assoc text one other) (second start (text ++ one) (first start text a))

-- the line of one state more is on its way
pub one_more : (text piece rest whole : List ℕ) → text ++ (piece ++ rest) ≡ whole → text ++ piece ++ rest ≡ whole
one_more text piece rest whole is = append_assoc text piece rest ∙ is

-- nothing is gathered any more
pub all_written : (start written text : List ℕ) → Added start written (text ++ []) [] → written ≡ start ++ text
all_written start written text a = a.new_is ∙ ap (λ added. start ++ added) (sym (append-nil a.added) ∙ sym a.text_is ∙ append-nil text)

-- what holds anyway holds of a refusal
pub on_err : {A E : Type 0} {P : Type 0} → (outcome : Result A E) → P → OnErr outcome P
on_err (Ok value) p = tt
on_err (Err refusal) p = p

-- ---- how a run ends

module _ {S : Type 0} (told : S → Bool) (written : S → List ℕ) (failures : S → ℕ) (old new : S) where
  -- behind the lines of the states that are held
  pub outcome_writes : (count : ℕ) (standing : Standing) (end : Ending) → Wrote told written old new standing → WritesLines told written old new (outcome count end)
  outcome_writes count standing ending.Clean wrote = (standing, wrote)
  outcome_writes count standing (ending.Refused refusal) wrote = (standing, wrote)
  outcome_writes count standing ending.Failed wrote = (standing, wrote)

  -- if they weren't written
  pub stop_writes : (reading : Reading) (s : StandbyStop) → StopsWriting told written failures old new reading s → WritesLines told written old new (Err s)
  stop_writes reading (stop.Message number refusal) why = absurd why
  stop_writes reading (stop.Read count) why = absurd why
  stop_writes reading (stop.Write count) why = (reading.standing, why.1)
  stop_writes reading (stop.Memory count) why = why.1
