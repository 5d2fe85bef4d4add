-- A text is no other messages than those of which it was written, so a standby takes these.
use Rattle.std.proofs.Common.{◌≡◌, ℕ, ◌<◌, List, [], ◌∷◌, ◌++◌, length, drop, Result, Ok, Err, refl, sym, ap, subst, ◌∙◌, arith}
use Rattle.std.specs.List.{All}
use Rattle.std.proofs.lemmas.List.{append-nil}
use Rattle.pfr_net.specs.declared.address.Ipv4Address.{Ipv4Address}
use Rattle.pfr_messages.specs.declared.error.SyncError.{SyncError}
use Rattle.pfr_messages.specs.declared.error.SyncError.TheVariants as refusals
use Rattle.pfr_messages.specs.Messages.{Content, Fits}
use Rattle.pfr_standby.specs.Standby.{Standing, all_taken, state_of, taken}
use Rattle.pfr_standby.proofs.HeldLemmas.{append_taken}
use Rattle.pfr_sync.specs.Messages.{messages_of}
use Rattle.pfr_sync.proofs.HoldingLemmas.{standby_holds}
use Rattle.pfr_stream.specs.declared.framing.Framing.{Framing}
use Rattle.pfr_stream.specs.declared.framing.Framing.TheVariants.{File, Bare}
use Rattle.pfr_stream.specs.Laws.{AStandbyReadsTheStatesLeft, text_of}
use Rattle.pfr_stream.specs.Outcomes.{AreTaken}
use Rattle.pfr_stream.specs.Stream.{AreWhole, framed_at, taken_at, taken_by}
use Rattle.pfr_stream.proofs.BackLemmas.{files_are_read, spellings_are_read}
use Rattle.pfr_stream.proofs.FitLemmas.{messages_of_events_fit}
use Rattle.pfr_stream.proofs.Framed.{none_framed}

abbrev found : Content × ℕ → Result (Content × ℕ) SyncError
found x = Ok x

found_is : (x y : Content × ℕ) → found x ≡ found y → x ≡ y
found_is x y is = cc

not_both : {A : Type 0} (r : Result A SyncError) (e : SyncError) (x : A) → r ≡ Err e → r ≡ Ok x → ⊥
not_both r e x err ok = cc

-- ---- messages that were read are the first of the text's

abbrev Goes : Framing → List Content → List Content → List ℕ → Type 0
Goes framing contents others rest = (more : List Content) × (contents ≡ others ++ more) × AreWhole framing rest more []

goes_on : (framing : Framing) (contents others : List Content) (bytes rest : List ℕ) → AreWhole framing bytes contents [] → AreWhole framing bytes others rest
    → Goes framing contents others rest
goes_on framing contents [] bytes rest whole other = (contents, refl, subst (λ (b : List ℕ). AreWhole framing b contents []) other whole)
goes_on framing [] (d ∷ others) bytes rest whole other =
    absurd (not_both (framed_at framing bytes) refusals.Short (d, other.0) (ap (framed_at framing) whole ∙ none_framed framing) other.1)
goes_on framing (c ∷ contents) (d ∷ others) bytes rest whole other =
    let same : (c, whole.0) ≡ (d, other.0) = found_is (c, whole.0) (d, other.0) (sym whole.1 ∙ other.1) in
    let size : whole.0 ≡ other.0 = ap (λ (x : Content × ℕ). x.1) same in
    let here : c ≡ d = ap (λ (x : Content × ℕ). x.0) same in
    let behind : AreWhole framing (drop other.0 bytes) contents [] = subst (λ (n : ℕ). AreWhole framing (drop n bytes) contents []) size whole.2 in
    let more = goes_on framing contents others (drop other.0 bytes) rest behind other.2 in
    (more.0, ap (λ (x : Content). x ∷ contents) here ∙ ap (λ (xs : List Content). d ∷ xs) more.1, more.2)

none_more : (framing : Framing) (more : List Content) → AreWhole framing [] more [] → more ≡ []
none_more framing [] whole = refl
none_more framing (c ∷ more) whole = absurd (not_both (framed_at framing []) refusals.Short (c, whole.0) (none_framed framing) whole.1)

only : (framing : Framing) (contents others : List Content) (bytes : List ℕ) → AreWhole framing bytes contents [] → AreWhole framing bytes others [] → others ≡ contents
only framing contents others bytes whole other =
    let more = goes_on framing contents others bytes [] whole other in
    let all : contents ≡ others ++ [] = more.1 ∙ ap (λ (xs : List Content). others ++ xs) (none_more framing more.0 more.2) in
    sym (all ∙ append-nil others)

-- ---- none is refused

abbrev okay : Standing → Result Standing SyncError
okay s = Ok s

okay_is : (s t : Standing) → okay s ≡ okay t → s ≡ t
okay_is s t is = cc

front_taken : (framing : Framing) (standing : Standing) (rest : List ℕ) (c : Content) (n : ℕ) → framed_at framing rest ≡ Ok (c, n) → taken_at framing standing rest ≡ taken standing c
unfolding taken_at
front_taken framing standing rest c n framed = ap (taken_by standing) framed

abbrev Taken : Result Standing SyncError → Type 0
Taken read = (next : Standing) × (read ≡ Ok next)

first_taken : (standing after : Standing) (c : Content) (more : List Content) (first : Result Standing SyncError) → taken standing c ≡ first → all_taken standing (c ∷ more) ≡ Ok after
    → Taken (taken standing c)
first_taken standing after c more (Ok next) is all = (next, is)
first_taken standing after c more (Err e) is all =
    let refused : all_taken standing (c ∷ more) ≡ Err e = ap (λ (first : Result Standing SyncError). elim first [ Ok next ↦ all_taken next more | Err refusal ↦ Err refusal ]) is in
    absurd (not_both (all_taken standing (c ∷ more)) e after refused all)

rest_taken : (framing : Framing) (standing after : Standing) (rest : List ℕ) (more : List Content) → AreWhole framing rest more [] → 0 < length rest
    → all_taken standing more ≡ Ok after → Taken (taken_at framing standing rest)
rest_taken framing standing after rest [] whole some all = let none : length rest ≡ 0 = ap length whole in absurd (omega (arith, none, some))
rest_taken framing standing after rest (c ∷ more) whole some all =
    rw (front_taken framing standing rest c whole.0 whole.1) (first_taken standing after c more (taken standing c) refl all)

next_taken : (framing : Framing) (text : List ℕ) (contents : List Content) (after : Standing) → AreWhole framing text contents [] → all_taken [] contents ≡ Ok after
    → (rest : List ℕ) (count : ℕ) (standing : Standing) → AreTaken framing text rest count standing → 0 < length rest → Taken (taken_at framing standing rest)
next_taken framing text contents after whole all rest count standing t some =
    let more = goes_on framing contents t.contents text rest whole t.whole in
    let behind : all_taken standing more.0 ≡ Ok after = sym (append_taken t.contents more.0 [] standing t.stands) ∙ sym (ap (all_taken []) more.1) ∙ all in
    rest_taken framing standing after rest more.0 more.2 some behind

-- ---- what is written of events

whole_text : (framing : Framing) (source : Ipv4Address) (contents : List Content) → All Fits contents → AreWhole framing (text_of framing source contents) contents []
whole_text File source contents fit = files_are_read source contents fit
whole_text Bare source contents fit = spellings_are_read contents fit

pub a_standby_reads_the_states_left : AStandbyReadsTheStatesLeft
a_standby_reads_the_states_left framing source origin events sixteen spelled history =
    let contents = messages_of origin events in
    let text = text_of framing source contents in
    let whole = whole_text framing source contents (messages_of_events_fit origin events sixteen spelled) in
    let held = standby_holds origin events history in
    record {
      holds = λ count standing t n.
          let same : t.contents ≡ contents = only framing contents t.contents text whole t.whole in
          let stands : standing ≡ held.0 = okay_is standing held.0 (sym t.stands ∙ ap (all_taken []) same ∙ held.1) in
          ap (state_of n) stands ∙ held.3 n;
      goes_on = next_taken framing text contents held.0 whole held.1;
    }
