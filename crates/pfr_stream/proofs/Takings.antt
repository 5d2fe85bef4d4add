-- What was taken of a source, from one step to the next.
use Rattle.std.proofs.Common.{◌≡◌, ◌≢◌, ◌⊎◌, inl, inr, ℕ, ◌+◌, ◌^◌, ◌<◌, Bool, IsTrue, List, [], ◌∷◌, ◌++◌, length, take, drop, Err, IfOk, IfErr, refl, sym, ap, subst, ◌∙◌, arith}
use Rattle.std.proofs.lemmas.List.{append-nil, append_assoc, drop-take, length-append, length_push, take-append-drop, take-take}
use Rattle.pfr_capture.specs.Ahead.{CameBehind}
use Rattle.pfr_messages.specs.declared.error.SyncError.{SyncError}
use Rattle.pfr_messages.specs.declared.error.SyncError.TheVariants as refusals
use Rattle.pfr_messages.specs.Messages.{IsRefused}
use Rattle.pfr_standby.specs.Standby.{Standing}
use Rattle.pfr_stream.specs.declared.framing.Framing.{Framing}
use Rattle.pfr_stream.specs.declared.stop.StandbyStop.{StandbyStop}
use Rattle.pfr_stream.specs.declared.stop.StandbyStop.TheVariants as stop
use Rattle.pfr_stream.specs.declared.stop.Ending.{Ending}
use Rattle.pfr_stream.specs.declared.stop.Ending.TheVariants as ending
use Rattle.pfr_stream.specs.Outcomes.{AreTaken, Ends, HasTaken, IsOver, Stops, Wrote}
use Rattle.pfr_stream.specs.Reading.{EndsAs, Reading, Refusal, StopsWriting, TakesFront, TakesOn, Took, outcome, start}
use Rattle.pfr_stream.specs.Stream.{AreWhole, framed_at, taken_at}
use Rattle.pfr_stream.proofs.Framed.{all_taken_more, refusal_is, refusal_stays, short_taken, some_refused, whole_behind, whole_more}

-- ---- steps

-- a buffer whose front is what was held was read into behind it
pub came_behind : (held now before left : List ℕ) (n count : ℕ) → take n now ≡ held → before ≡ take count (drop n now) ++ left → CameBehind held (take (n + count) now) before left
came_behind held now before left n count front gave = record {
  came = take count (drop n now);
  gave = gave;
  behind = sym (take-append-drop n (take (n + count) now)) ∙ rw (take-take n (n + count) now (omega arith), front, drop-take n count now) refl;
}

-- a message may follow if some bytes are held
pub may_follow : (held now : List ℕ) (count : ℕ) → ((held ≡ []) ⊎ (count < 2 ^ 40)) → now ≡ held → 0 < length now → count < 2 ^ 40
may_follow held now count (inl none) same some = let nothing : length now ≡ 0 = ap length (same ∙ none) in absurd (omega arith)
may_follow held now count (inr may) same some = may

-- nothing was taken yet
pub took_none : (framing : Framing) (text : List ℕ) → HasTaken framing text text [] 0 []
took_none framing text = record {
  came = [];
  gave = refl;
  taken = record { contents = []; whole = refl; stands = refl; counted = refl; at_most = omega arith };
}

-- bytes came
pub took_behind : (framing : Framing) (text before left held held' : List ℕ) (count : ℕ) (standing : Standing) → CameBehind held held' before left
    → HasTaken framing text before held count standing → HasTaken framing text left held' count standing
took_behind framing text before left held held' count standing b t =
    let taken = t.taken in
    record {
      came = t.came ++ b.came;
      gave = t.gave ∙ ap (λ (bytes : List ℕ). t.came ++ bytes) b.gave ∙ sym (append_assoc t.came b.came left);
      taken = record {
        contents = taken.contents;
        whole = subst (AreWhole framing (t.came ++ b.came) taken.contents) (sym b.behind) (whole_behind framing taken.contents t.came held b.came taken.whole);
        stands = taken.stands;
        counted = taken.counted;
        at_most = taken.at_most;
      };
    }

-- the message at the front was taken
pub took_front : (old new : Reading) (left : List ℕ) → old.count < 2 ^ 40 → TakesFront old new → TakesOn old new left left
took_front old new left may f = λ text t.
    let taken = t.taken in
    let counted = taken.counted in
    record {
      came = t.came;
      gave = t.gave;
      taken = rw (f.framing, f.held) (record {
        contents = taken.contents ++ f.content ∷ [];
        whole = whole_more old.framing taken.contents t.came old.held f.content f.size taken.whole f.framed;
        stands = all_taken_more taken.contents f.content old.standing new.standing taken.stands f.taken;
        counted = length_push taken.contents f.content ∙ (rw counted (sym f.count));
        at_most = let count = f.count in omega arith;
      });
    }

-- ---- ends

-- of the whole text, with what the source has left
pub of_all : (framing : Framing) (text left rest : List ℕ) (count : ℕ) (standing : Standing) → HasTaken framing text left rest count standing
    → AreTaken framing text (rest ++ left) count standing
of_all framing text left rest count standing t =
    let taken = t.taken in
    record {
      contents = taken.contents;
      whole = subst (λ (bytes : List ℕ). AreWhole framing bytes taken.contents (rest ++ left)) (sym t.gave) (whole_behind framing taken.contents t.came rest left taken.whole);
      stands = taken.stands;
      counted = taken.counted;
      at_most = taken.at_most;
    }

-- ---- stops of reading

-- a message was refused at the front of the bytes held
pub refused_at : (tells : Bool) (reading : Reading) (left : List ℕ) (e : SyncError) → reading.count < 2 ^ 40 → e ≢ refusals.Memory → e ≢ refusals.Short
    → IsRefused e (taken_at reading.framing reading.standing reading.held) → Refusal tells reading left e
refused_at tells reading left e may memory short refused =
    let is = refusal_is e _ memory refused in
    record {
      reason = memory;
      may_follow = may;
      refused = λ told.
          let held = some_refused reading.framing reading.standing reading.held e short is in
          (omega (arith, length-append reading.held left), refusal_stays reading.framing reading.standing reading.held left e short is);
    }

-- bytes lack at the end of a source
pub lacks_at : (tells : Bool) (reading : Reading) (left : List ℕ) → reading.count < 2 ^ 40 → 0 < length reading.held → framed_at reading.framing reading.held ≡ Err refusals.Short
    → (IsTrue tells → left ≡ []) → Refusal tells reading left refusals.Short
lacks_at tells reading left may some lack over = record {
  reason = λ same. cc;
  may_follow = may;
  refused = λ told. (
    omega (arith, length-append reading.held left),
    rw (over told, append-nil) (short_taken reading.framing reading.standing reading.held lack),
  );
}

-- ---- outcomes

-- what is known of a source once reading has ended
pub record HasRead {R : Type 0} (tells : R → Bool) (unread : R → List ℕ) (framing : Framing) (source source' : R) (reading : Reading) : Type 0 where
  pub is : reading.framing ≡ framing
  pub took : IsTrue (tells source) → HasTaken framing (unread source) (unread source') reading.held reading.count reading.standing

-- a stream that was begun with nothing has taken of the source what came
pub over_from : {R : Type 0} (tells : R → Bool) (unread : R → List ℕ) (source source' : R) (old new : Reading) → old ≡ start old.framing
    → new.framing ≡ old.framing → (IsTrue (tells source) → TakesOn old new (unread source) (unread source')) → HasRead tells unread old.framing source source' new
over_from tells unread source source' old new begun same takes_on = record {
  is = same;
  took = λ tell.
      let text : List ℕ = unread source in
      let first : Took old text text = subst (λ (reading : Reading). Took reading text text) (sym begun) (took_none old.framing text) in
      rw same at (takes_on tell text first);
}

module _ {R S : Type 0} (tells : R → Bool) (unread : R → List ℕ) (failures : R → ℕ) (told : S → Bool) (written : S → List ℕ) (sink_failures : S → ℕ)
    (framing : Framing) (source source' : R) (sink sink' : S) (reading : Reading) where
  -- memory was refused before anything was written
  pub stops_memory : HasRead tells unread framing source source' reading → sink' ≡ sink
      → Stops tells unread failures told written framing source source' sink sink' (stop.Memory reading.count)
  stops_memory over same = λ tell. record { standing = reading.standing; rest = reading.held; taken = over.took tell; holds = ap written same }

  -- reading is over
  is_over : (end : Ending) → HasRead tells unread framing source source' reading
      → EndsAs (tells source) reading (unread source') (failures source) (failures source') end → IsTrue (tells source)
      → IsOver framing (failures source) (failures source') reading.count reading.standing reading.held (unread source')
  is_over ending.Clean over how tell = inl (rw (how.0, how.1 tell) refl)
  is_over (ending.Refused e) over how tell = inr (inl (e, rw over.is at (how.0.refused tell)))
  is_over ending.Failed over how tell = inr (inr (rw over.is at how))

  -- the lines of states weren't written
  pub stops_writing : (s : StandbyStop) (end : Ending) → HasRead tells unread framing source source' reading
      → EndsAs (tells source) reading (unread source') (failures source) (failures source') end → StopsWriting told written sink_failures sink sink' reading s
      → Stops tells unread failures told written framing source source' sink sink' s
  stops_writing (stop.Message number e) end over how why = absurd why
  stops_writing (stop.Read count) end over how why = absurd why
  stops_writing (stop.Write count) end over how why = λ tell. record {
    standing = reading.standing;
    rest = reading.held;
    taken = rw why.0 (over.took tell);
    holds = (rw why.0 (is_over end over how tell), why.1);
  }
  stops_writing (stop.Memory count) end over how why = rw why.0 (stops_memory over why.1)

  -- the lines of states were written
  pub run_ends : (end : Ending) → HasRead tells unread framing source source' reading
      → EndsAs (tells source) reading (unread source') (failures source) (failures source') end → Wrote told written sink sink' reading.standing
      → IfOk (outcome reading.count end) (Ends tells unread told written framing source sink sink')
  run_ends ending.Clean over how wrote = λ tell.
      let all : AreTaken framing (unread source) (reading.held ++ unread source') reading.count reading.standing =
      of_all framing (unread source) (unread source') reading.held reading.count reading.standing (over.took tell) in
      let none : reading.held ++ unread source' ≡ [] = rw (how.0, how.1 tell) refl in
      record { standing = reading.standing; taken = rw none at all; wrote = wrote }
  run_ends (ending.Refused e) over how wrote = tt
  run_ends ending.Failed over how wrote = tt

  pub run_stops : (end : Ending) → HasRead tells unread framing source source' reading
      → EndsAs (tells source) reading (unread source') (failures source) (failures source') end → Wrote told written sink sink' reading.standing
      → IfErr (outcome reading.count end) (Stops tells unread failures told written framing source source' sink sink')
  run_stops ending.Clean over how wrote = tt
  run_stops (ending.Refused e) over how wrote = λ tell.
      let why = how.0 in
      let may = why.may_follow in
      record {
        before = reading.count;
        is_next = refl;
        at_most = omega arith;
        standing = reading.standing;
        rest = reading.held ++ unread source';
        taken = of_all framing (unread source) (unread source') reading.held reading.count reading.standing (over.took tell);
        refused = rw over.is at (why.refused tell);
        wrote = wrote;
      }
  run_stops ending.Failed over how wrote = λ tell. record {
    standing = reading.standing;
    rest = reading.held;
    taken = over.took tell;
    holds = (rw over.is at how, wrote);
  }
