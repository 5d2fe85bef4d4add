-- Outputs that grow by pieces.
use Rattle.std.proofs.Common.{◌≡◌, ◌<◌, ◌+◌, ℕ, suc, Bool, ◌&&◌, List, [], ◌∷◌, ◌++◌, length, map, take, get_or, refl, sym, ◌∙◌, ap, subst, arith}
use Rattle.std.specs.List.{list_all}
use Rattle.std.proofs.Math.Seq.{take-suc}
use Rattle.std.proofs.lemmas.Grind.{flat_map-append}
use Rattle.std.proofs.lemmas.List.{append_assoc, append-nil}
use Rattle.pfr_net.specs.declared.address.Ipv4Address.{Ipv4Address}
use Rattle.pfr_messages.specs.Messages.{Content}
use Rattle.pfr_sync.specs.Messages.{closed_at, messages_of}
use Rattle.pfr_commit.specs.Emissions.{by_place}
use Rattle.pfr_commit.specs.World.{Texts, World, joined, last_message, no_texts, origin_of}
use Rattle.pfr_commit.specs.World.{online as written}
use Rattle.pfr_commit.proofs.OnlineLemmas.{all_messages}
use Rattle.pfr_feed.specs.declared.report.Output.{Output}
use Rattle.pfr_feed.specs.declared.report.Output.TheVariants as output
use Rattle.pfr_out.specs.declared.settings.Form.{Form}
use Rattle.pfr_out.specs.declared.settings.Form.TheVariants as shape
use Rattle.pfr_out.specs.declared.sinks.Sinks.{Sinks}
use Rattle.pfr_out.specs.Outputs.{Extends, Grew, OutputTexts, Outputs, all_told, each_of, headers_alone, of_output, output_text, texts_alone}
use Rattle.pfr_out.specs.Replay.{behind_headers, closing, online, whole}
use Rattle.pfr_out.specs.Spelling.{Run, in_form, messages_text, source_of, spelled}

-- one text after another
grew_by : (old mid new a b whole : List ℕ) → mid ≡ old ++ a → new ≡ mid ++ b → whole ≡ a ++ b → new ≡ old ++ whole
grew_by old mid new a b whole first second is = second ∙ (rw (first, is) (append_assoc old a b))

-- a fact of each output
pub each_output : (P : Output → Type 0) → P output.Verdicts → ((place : ℕ) → P (output.Packets place)) → P output.Counters → P output.States → P output.Messages → (o : Output) → P o
each_output P verdicts packets counters states messages output.Verdicts = verdicts
each_output P verdicts packets counters states messages (output.Packets place) = packets place
each_output P verdicts packets counters states messages output.Counters = counters
each_output P verdicts packets counters states messages output.States = states
each_output P verdicts packets counters states messages output.Messages = messages

-- an output that a piece has nothing for
pub grew_by_nothing : (old : List ℕ) → old ≡ old ++ []
grew_by_nothing old = sym (append-nil old)

-- two pieces are one
pub grew_twice : (told : Sinks Bool) (old mid new : Outputs) (a b both : OutputTexts) → Grew told old mid a → Grew told mid new b → Extends a both b → Grew told old new both
grew_twice told old mid new a b both first second is o t =
    grew_by (of_output [] o old) (of_output [] o mid) (of_output [] o new) (output_text o a) (output_text o b) (output_text o both) (first o t) (second o t) (is o)

-- ---- messages

pub spelled_none : (form : Form) (source : Ipv4Address) → spelled form source [] ≡ []
unfolding spelled
spelled_none form source = refl

pub spelled_append : (form : Form) (source : Ipv4Address) (xs ys : List Content) → spelled form source (xs ++ ys) ≡ spelled form source xs ++ spelled form source ys
unfolding spelled
spelled_append form source xs ys = flat_map-append (in_form form source) xs ys

spelled_one : (form : Form) (source : Ipv4Address) (message : Content) → spelled form source (message ∷ []) ≡ in_form form source message
unfolding spelled
spelled_one form source message = append-nil (in_form form source message)

-- in form None nothing is written of messages
pub spelled_in_none : (form : Form) (source : Ipv4Address) (messages : List Content) → form ≡ shape.None → spelled form source messages ≡ []
unfolding spelled
spelled_in_none form source messages is = subst (λ (f : Form). spelled f source messages ≡ []) (sym is) (nothing_of messages)
  where
    nothing_of : (messages : List Content) → spelled shape.None source messages ≡ []
    nothing_of [] = refl
    nothing_of (message ∷ messages) = nothing_of messages

-- one message more
pub spelled_more : (form own : Form) (source : Ipv4Address) (messages : List Content) (i : ℕ) (message : Content) (old new : List ℕ) → own ≡ form → message ≡ get_or messages i message → i < length messages
    → old ≡ spelled form source (take i messages) → new ≡ old ++ in_form own source message → new ≡ spelled form source (take (i + 1) messages)
spelled_more form own source messages i message old new own_is message_is below old_is new_is =
    let next : i + 1 ≡ suc i = omega arith in
    let all : take (i + 1) messages ≡ take i messages ++ message ∷ [] = rw next (take-suc messages i message below ∙ ap (λ (m : Content). take i messages ++ m ∷ []) (sym message_is)) in
    new_is
    ∙ ap (λ (t : List ℕ). t ++ in_form own source message) old_is
    ∙ ap (λ (f : Form). spelled form source (take i messages) ++ in_form f source message) own_is
    ∙ ap (λ (t : List ℕ). spelled form source (take i messages) ++ t) (sym (spelled_one form source message))
    ∙ sym (spelled_append form source (take i messages) (message ∷ []))
    ∙ ap (λ (ms : List Content). spelled form source ms) (sym all)

both_spelled : (run : Run) (messages first second : List Content) → messages ≡ first ++ second → messages_text run messages ≡ messages_text run first ++ messages_text run second
both_spelled run messages first second is = ap (λ (ms : List Content). messages_text run ms) is ∙ spelled_append run.form (source_of run.job) first second

-- ---- what is written of worlds

-- a world of which more is written than of another one
pub online_behind : (headers : List (List ℕ)) (run : Run) (world later : World) (added : Texts) → written run.job later ≡ joined (written run.job world) added → Extends (online headers run world) (online headers run later) (texts_alone run added)
online_behind headers run world later added is =
    each_output _
    (ap (λ (t : Texts). t.verdicts) is)
    (λ place. ap (λ (t : Texts). by_place headers place ++ t.packets place) is ∙ sym (append_assoc (by_place headers place) (world.packets place) (added.packets place)))
    refl refl
    (both_spelled run (written run.job later).messages (written run.job world).messages added.messages (ap (λ (t : Texts). t.messages) is))

-- the end of a run after its packets
pub whole_is : (headers : List (List ℕ)) (run : Run) (world : World) → Extends (online headers run world) (whole headers run world) (closing run world)
whole_is headers run world =
    each_output _ (sym (append-nil world.verdicts)) (λ place. sym (append-nil (behind_headers headers world.packets place))) refl refl
    (both_spelled run (messages_of (origin_of run.job) world.events) (closed_at (origin_of run.job) world.clock world.events) (last_message run.job world) (all_messages (origin_of run.job) world.clock world.events))

-- the headers alone are what no packets write
pub headers_are_online : (told : Sinks Bool) (old new : Outputs) (headers : List (List ℕ)) (run : Run) (world : World) → written run.job world ≡ no_texts → Grew told old new (headers_alone headers) → Grew told old new (online headers run world)
headers_are_online told old new headers run world none grew =
    each_output _
    (λ t. grew output.Verdicts t ∙ ap (λ (t : Texts). old.verdicts ++ t.verdicts) (sym none))
    (λ place t.
    grew (output.Packets place) t
    ∙ ap (λ (t : List ℕ). of_output [] (output.Packets place) old ++ t) (sym (append-nil (by_place headers place)))
    ∙ ap (λ (t : Texts). of_output [] (output.Packets place) old ++ behind_headers headers t.packets place) (sym none))
    (grew output.Counters) (grew output.States)
    (λ t. grew output.Messages t ∙ ap (λ (t : List ℕ). old.messages ++ t) (sym (spelled_none run.form (source_of run.job))) ∙ ap (λ (t : Texts). old.messages ++ messages_text run t.messages) (sym none))

-- ---- sinks that tell their bytes

told_list : {S : Type 0} (told : S → Bool) (sinks : List S) → list_all told sinks ≡ list_all (λ (it : Bool). it) (map told sinks)
told_list told [] = refl
told_list told (sink ∷ sinks) = ap (λ (rest : Bool). told sink && rest) (told_list told sinks)

-- devices tell as others do that tell one by one as they do
pub list_told_alike : {S : Type 0} (told : S → Bool) (old new : List S) → map told new ≡ map told old → list_all told new ≡ list_all told old
list_told_alike told old new is = told_list told new ∙ ap (λ (each : List Bool). list_all (λ (it : Bool). it) each) is ∙ sym (told_list told old)

-- sinks tell as others do that tell one by one as they do
pub all_told_alike : {S : Type 0} (told : S → Bool) (old new : Sinks S) → each_of told new ≡ each_of told old → all_told told new ≡ all_told told old
all_told_alike {S = S} told old new is =
    let by_each : (sinks : Sinks S) → all_told told sinks ≡ all_told (λ (it : Bool). it) (each_of told sinks) =
    λ sinks. ap (λ (packets : Bool). (((told sinks.verdicts && packets) && told sinks.counters) && told sinks.states) && told sinks.messages) (told_list told sinks.packets) in
    by_each new ∙ ap (λ (each : Sinks Bool). all_told (λ (it : Bool). it) each) is ∙ sym (by_each old)
