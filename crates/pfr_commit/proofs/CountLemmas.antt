-- What packets leave in the lines and the counters.
use Rattle.std.proofs.Common.{◌≡◌, ◌≤◌, ◌<◌, ◌+◌, ◌-◌, ◌^◌, ◌++◌, ◌∷◌, ◌&&◌, ◌==◌, ◌⊎◌, inl, inr, ℕ, nat_lt, false, suc, max, List, [], length, map, fold, get_or, replicate, Option, Some, None, cond, refl, sym, ap, ◌∙◌, arith}
use Rattle.std.specs.List.{All, Any, count_by, flat_map, range_with_len, sum_by}
use Rattle.std.proofs.lemmas.Bool.{cases_Bool, cases_lt, eqb-true, eq-eqb, false≢true, le-ltb}
use Rattle.std.proofs.lemmas.List.{append_assoc, append-nil, get_or-replicate, get_or-set_other, get_or-set_same, length-replicate, length-set}
use Rattle.std.proofs.lemmas.List.Elements.{All-cons, All-head, All-tail}
use Rattle.std.proofs.lemmas.List.Sums.{sum_by-cons}
use Rattle.std.proofs.Math.Path.{fun_ext}
use Rattle.pfr_net.specs.declared.interface.Binding.{Binding}
use Rattle.pfr_net.specs.declared.interface.Binding.TheVariants.{To}
use Rattle.pfr_net.specs.declared.rule_number.RuleNumber.{RuleNumber}
use Rattle.pfr_ruleset.specs.declared.interface.Interface.{Interface}
use Rattle.pfr_ruleset.specs.Rulesets.{counts}
use Rattle.pfr_headers.specs.declared.packet.View.{View}
use Rattle.pfr_headers.specs.declared.packet.View.TheVariants.{Ipv4, Skip, Short}
use Rattle.pfr_headers.specs.View.{view_of}
use Rattle.pfr_rules.specs.Counts.{added, raised}
use Rattle.pfr_track.specs.declared.state.State.{State}
use Rattle.pfr_states.specs.States.{names_rule}
use Rattle.pfr_packet.specs.declared.outcome.Outcome.{Outcome}
use Rattle.pfr_packet.specs.declared.verdict.Reason.{Reason}
use Rattle.pfr_packet.specs.declared.verdict.Reason.TheVariants as reason
use Rattle.pfr_packet.specs.declared.verdict.Verdict.{Verdict}
use Rattle.pfr_packet.specs.declared.verdict.Verdict.TheVariants as verdict
use Rattle.pfr_packet.specs.Job.{RunJob}
use Rattle.pfr_commit.specs.declared.counters.Counters.{Counters}
use Rattle.pfr_commit.specs.declared.counters.Totals.{Totals}
use Rattle.pfr_commit.specs.Counters.{added_to, counted, counts_for_rules, length_of, no_totals, with_named, with_verdict}
use Rattle.pfr_commit.specs.Endings.{states_text}
use Rattle.pfr_commit.specs.Laws.{IsOfOneCapture}
use Rattle.pfr_commit.specs.Lines.{ends_part, keys_part, mark, state_line, traffic_before, verdict_before, verdict_line}
use Rattle.pfr_commit.specs.Runs.{RuleKind, Taken, bytes_for, capped, comes_to, counters_of, counts_for, is_same_verdict, line_of, named_by, next_taken, number_of, plain_line, plain_record, plain_state, reason_counts, record_at, taken_after, taken_in, total_length_of, total_of, visited_of, visits_to}
use Rattle.pfr_commit.specs.Runs.RuleKind.{filter_rule, translation_rule}
use Rattle.pfr_commit.specs.World.{Frame, World, after, only_at, opening, with_outcome, world_after, world_of}
use Rattle.pfr_commit.proofs.WorldLemmas.{world_count}

-- ---- lines and records

pub frames_after : (job : RunJob) (world : World) (frames : List Frame) → map (λ (p : Taken). p.frame) (taken_after job world frames) ≡ frames
frames_after job world [] = refl
frames_after job world (frame ∷ frames) = ap (λ (fs : List Frame). frame ∷ fs) (frames_after job (after job world frame) frames)

count_next : (job : RunJob) (world : World) (frame : Frame) → (after job world frame).count ≡ world.count + 1
unfolding after with_outcome
count_next job world frame = refl

pub numbers_after : (job : RunJob) (world : World) (frames : List Frame) → map (λ (p : Taken). p.number) (taken_after job world frames) ≡ range_with_len (world.count + 1) (length frames)
numbers_after job world [] = refl
numbers_after job world (frame ∷ frames) =
    ap (λ (ns : List ℕ). (world.count + 1) ∷ ns) (numbers_after job (after job world frame) frames ∙ ap (λ (n : ℕ). range_with_len (n + 1) (length frames)) (count_next job world frame))

pub verdicts_after : (job : RunJob) (world : World) (frames : List Frame)
    → (world_after job world frames).verdicts ≡ world.verdicts ++ flat_map (line_of job) (taken_after job world frames)
unfolding world_after after with_outcome
verdicts_after job world [] = sym (append-nil world.verdicts)
verdicts_after job world (frame ∷ frames) =
    let p = next_taken job world frame in
    verdicts_after job (after job world frame) frames
    ∙ append_assoc world.verdicts (line_of job p) (flat_map (line_of job) (taken_after job (after job world frame) frames))

pub packets_after : (place : ℕ) (job : RunJob) (world : World) (frames : List Frame)
    → (world_after job world frames).packets place ≡ world.packets place ++ flat_map (record_at place) (taken_after job world frames)
unfolding world_after after with_outcome
packets_after place job world [] = sym (append-nil (world.packets place))
packets_after place job world (frame ∷ frames) =
    let p = next_taken job world frame in
    packets_after place job (after job world frame) frames
    ∙ append_assoc (world.packets place) (record_at place p) (flat_map (record_at place) (taken_after job (after job world frame) frames))

-- ---- with one capture

plain_mark : (interfaces : List Interface) (binding : Binding) → length interfaces ≤ 1 → mark interfaces binding ≡ []
plain_mark interfaces binding few = (let one : nat_lt 1 (length interfaces) ≡ false = le-ltb 1 (length interfaces) few in rw one refl)

plain_is : (job : RunJob) (p : Taken) → length job.rules.interfaces ≤ 1 → line_of job p ≡ plain_line p
unfolding verdict_line
plain_is job p few = ap (λ (mark : List ℕ). verdict_before p.number p.clock p.outcome (mark ++ 10 ∷ [])) (plain_mark job.rules.interfaces (To p.frame.place) few)

plain_state_is : (interfaces : List Interface) (state : State) → length interfaces ≤ 1 → state_line interfaces state ≡ plain_state state
unfolding state_line
plain_state_is interfaces state few =
    ap (λ (mark : List ℕ). keys_part state ++ (ends_part state ++ traffic_before state (mark ++ 10 ∷ []))) (plain_mark interfaces state.rules.binding few)

-- what is the same of each is the same of all
each_text : {X : Type 0} (f g : X → List ℕ) (xs : List X) → ((x : X) → f x ≡ g x) → flat_map f xs ≡ flat_map g xs
each_text f g [] same = refl
each_text f g (x ∷ xs) same = rw (same x, each_text f g xs same) refl

pub plain_lines : (job : RunJob) (frames : List Frame) → IsOfOneCapture job frames → (world_of job frames).verdicts ≡ flat_map plain_line (taken_in job frames)
unfolding world_of opening
plain_lines job frames one = verdicts_after job (opening job) frames ∙ each_text (line_of job) plain_line (taken_in job frames) (λ p. plain_is job p one.interface)

pub plain_states : (job : RunJob) (frames : List Frame) (states : List State) → IsOfOneCapture job frames → states_text job.rules.interfaces states ≡ flat_map plain_state states
unfolding states_text
plain_states job frames states one = each_text (state_line job.rules.interfaces) plain_state states (λ state. plain_state_is job.rules.interfaces state one.interface)

-- the packets of one interface go to its output
records_at : (place : ℕ) (packets : List Taken) → All (λ frame. frame.place.0 ≡ 0) (map (λ (p : Taken). p.frame) packets) → flat_map (record_at place) packets ≡ only_at 0 (flat_map plain_record packets) place
records_at place [] at = elim (cases_Bool (place == 0)) [ inl here ↦ rw here refl | inr other ↦ rw other refl ]
records_at place (p ∷ packets) at =
    let first : p.frame.place.0 ≡ 0 = All-head (λ (f : Frame). f.place.0 ≡ 0) p.frame (map (λ (p : Taken). p.frame) packets) at in
    let rest = records_at place packets (All-tail (λ (f : Frame). f.place.0 ≡ 0) p.frame (map (λ (p : Taken). p.frame) packets) at) in
    ap (λ (t : List ℕ). record_at place p ++ t) rest
    ∙ ap (λ (at_place : ℕ). only_at at_place (plain_record p) place ++ only_at 0 (flat_map plain_record packets) place) first
    ∙ elim (cases_Bool (place == 0)) [ inl here ↦ rw here refl | inr other ↦ rw other refl ]

pub plain_records : (job : RunJob) (frames : List Frame) → IsOfOneCapture job frames → (world_of job frames).packets ≡ only_at 0 (flat_map plain_record (taken_in job frames))
unfolding world_of opening
plain_records job frames one = fun_ext (λ (place : ℕ).
    packets_after place job (opening job) frames
    ∙ records_at place (taken_in job frames) (rw (frames_after job (opening job) frames) one.packets))

-- ---- the clock

clock_next : (job : RunJob) (world : World) (frame : Frame) → (after job world frame).clock.0 ≡ max world.clock.0 frame.seconds
unfolding after with_outcome
clock_next job world frame = refl

pub clock_rises : (job : RunJob) (world : World) (frames : List Frame) → world.clock.0 ≤ (world_after job world frames).clock.0
unfolding world_after
clock_rises job world [] = omega arith
clock_rises job world (frame ∷ frames) =
    let next = clock_next job world frame in
    let rest = clock_rises job (after job world frame) frames in
    omega arith

pub none_later : (job : RunJob) (world : World) (frames : List Frame) → All (λ frame. frame.seconds ≤ (world_after job world frames).clock.0) frames
unfolding world_after
none_later job world [] = λ k d below. absurd (omega (arith, below))
none_later job world (frame ∷ frames) =
    let next = clock_next job world frame in
    let rest = clock_rises job (after job world frame) frames in
    let within : frame.seconds ≤ (world_after job (after job world frame) frames).clock.0 = omega arith in
    All-cons (λ (other : Frame). other.seconds ≤ (world_after job (after job world frame) frames).clock.0) frame frames within (none_later job (after job world frame) frames)

first_is : {X : Type 0} (P : X → Type 0) (x : X) (xs : List X) → P x → Any P (x ∷ xs)
first_is P x xs h = (0, x, omega arith, refl, h)

later_is : {X : Type 0} (P : X → Type 0) (x : X) (xs : List X) → Any P xs → Any P (x ∷ xs)
later_is P x xs h = (let below = h.2 in (suc h.0, h.1, omega arith, h.3, h.4))

-- the clock before, or one of the records' seconds
pub clock_is_one : (job : RunJob) (world : World) (frames : List Frame) → ((world_after job world frames).clock.0 ≡ world.clock.0) ⊎ Any (λ other. other.seconds ≡ (world_after job world frames).clock.0) frames
unfolding world_after
clock_is_one job world [] = inl refl
clock_is_one job world (frame ∷ frames) = elim (clock_is_one job (after job world frame) frames) [
  | inl same ↦ (let next = clock_next job world frame in elim (cases_lt world.clock.0 frame.seconds) [ inl above ↦ inr (first_is _ frame frames (omega (arith, same))) | inr below ↦ inl (omega (arith, same)) ])
  | inr later ↦ inr (later_is _ frame frames later)
]

-- ---- verdicts

one_total : (verdict one : Verdict) (totals : Totals) → total_of verdict totals ≤ 2 ^ 64 - 1 → total_of verdict (with_verdict one totals) ≡ capped (total_of verdict totals + cond (is_same_verdict one verdict) 1 0)
one_total verdict.Pass verdict.Pass totals few = refl
one_total verdict.Pass verdict.Block totals few = omega arith
one_total verdict.Pass verdict.Return totals few = omega arith
one_total verdict.Pass verdict.Skip totals few = omega arith
one_total verdict.Block verdict.Pass totals few = omega arith
one_total verdict.Block verdict.Block totals few = refl
one_total verdict.Block verdict.Return totals few = omega arith
one_total verdict.Block verdict.Skip totals few = omega arith
one_total verdict.Return verdict.Pass totals few = omega arith
one_total verdict.Return verdict.Block totals few = omega arith
one_total verdict.Return verdict.Return totals few = refl
one_total verdict.Return verdict.Skip totals few = omega arith
one_total verdict.Skip verdict.Pass totals few = omega arith
one_total verdict.Skip verdict.Block totals few = omega arith
one_total verdict.Skip verdict.Return totals few = omega arith
one_total verdict.Skip verdict.Skip totals few = refl

named_totals : (outcome : Outcome) (length : ℕ) (counters : Counters) → (with_named outcome length counters).totals ≡ counters.totals
named_totals outcome length counters = elim (cases_Bool (counts_for_rules outcome.reason)) [ inl it ↦ rw it refl | inr not_it ↦ rw not_it refl ]

totals_next : (job : RunJob) (world : World) (frame : Frame) → (after job world frame).counters.totals ≡ with_verdict (next_taken job world frame).outcome.verdict world.counters.totals
unfolding after with_outcome counted
totals_next job world frame =
    ap (λ (t : Totals). with_verdict (next_taken job world frame).outcome.verdict t) (named_totals (next_taken job world frame).outcome (length_of (view_of frame.link frame.bytes)) _)

pub total_after : (verdict : Verdict) (job : RunJob) (world : World) (frames : List Frame) → total_of verdict world.counters.totals ≤ 2 ^ 64 - 1
    → total_of verdict (world_after job world frames).counters.totals ≡ capped (total_of verdict world.counters.totals + count_by (comes_to verdict) (taken_after job world frames))
unfolding world_after
total_after verdict job world [] few = omega arith
total_after verdict job world (frame ∷ frames) few =
    let p = next_taken job world frame in
    let next : total_of verdict (after job world frame).counters.totals ≡ capped (total_of verdict world.counters.totals + cond (comes_to verdict p) 1 0) =
    ap (total_of verdict) (totals_next job world frame) ∙ one_total verdict p.outcome.verdict world.counters.totals few in
    let rest = total_after verdict job (after job world frame) frames (omega (arith, next)) in
    let more = sum_by-cons (λ (p : Taken). cond (comes_to verdict p) 1 0) p (taken_after job (after job world frame) frames) in
    omega (arith, next, rest, more)

-- each packet comes to one of the four
each_verdict : (one : Verdict) → cond (is_same_verdict one verdict.Pass) 1 0 + cond (is_same_verdict one verdict.Block) 1 0 + cond (is_same_verdict one verdict.Return) 1 0 + cond (is_same_verdict one verdict.Skip) 1 0 ≡ 1
each_verdict verdict.Pass = refl
each_verdict verdict.Block = refl
each_verdict verdict.Return = refl
each_verdict verdict.Skip = refl

pub all_verdicts : (packets : List Taken) → count_by (comes_to verdict.Pass) packets + count_by (comes_to verdict.Block) packets + count_by (comes_to verdict.Return) packets + count_by (comes_to verdict.Skip) packets ≡ length packets
all_verdicts [] = refl
all_verdicts (p ∷ packets) =
    let pass = sum_by-cons (λ (p : Taken). cond (comes_to verdict.Pass p) 1 0) p packets in
    let block = sum_by-cons (λ (p : Taken). cond (comes_to verdict.Block p) 1 0) p packets in
    let back = sum_by-cons (λ (p : Taken). cond (comes_to verdict.Return p) 1 0) p packets in
    let skip = sum_by-cons (λ (p : Taken). cond (comes_to verdict.Skip p) 1 0) p packets in
    let one = each_verdict p.outcome.verdict in
    let rest = all_verdicts packets in
    omega (arith, pass, block, back, skip, one, rest)

pub length_after : (job : RunJob) (world : World) (frames : List Frame) → length (taken_after job world frames) ≡ length frames
length_after job world [] = refl
length_after job world (frame ∷ frames) = ap suc (length_after job (after job world frame) frames)

-- ---- rules

-- more at a place
length_added : (rule : Option RuleNumber) (amount : ℕ) (counts : List ℕ) → length (added_to rule amount counts) ≡ length counts
unfolding added
length_added None amount counts = refl
length_added (Some rule) amount counts = length-set counts rule.0 _

added_at : (rule : Option RuleNumber) (amount k : ℕ) (counts : List ℕ) → k < length counts → get_or counts k 0 ≤ 2 ^ 64 - 1 → get_or (added_to rule amount counts) k 0 ≡ capped (get_or counts k 0 + cond (names_rule k rule) amount 0)
unfolding added
added_at None amount k counts below few = omega arith
added_at (Some rule) amount k counts below few = elim (cases_Bool (rule.0 == k)) [
  | inl same ↦ (let is : rule.0 ≡ k = eqb-true rule.0 k same in rw (same, is) (get_or-set_same counts k (capped (get_or counts k 0 + amount)) 0 below))
  | inr other ↦
      let stays = get_or-set_other counts rule.0 k (capped (get_or counts rule.0 0 + amount)) 0 (λ at. false≢true (sym other ∙ eq-eqb rule.0 k (sym at))) in
      rw other (stays ∙ (let same : get_or counts k 0 ≡ capped (get_or counts k 0 + 0) = omega arith in same))
]

-- the reasons that count are those with these words
same_reasons : (why : Reason) → reason_counts why ≡ counts_for_rules why
same_reasons reason.Rule = refl
same_reasons reason.Default = refl
same_reasons reason.NotIp = refl
same_reasons reason.SkipOn = refl
same_reasons reason.Short = refl
same_reasons reason.IpOption = refl
same_reasons reason.State = refl
same_reasons reason.StateError = refl
same_reasons reason.StateMismatch = refl
same_reasons reason.StateInsert = refl
same_reasons reason.StateLimit = refl
same_reasons reason.NatExhausted = refl
same_reasons reason.NatPass = refl

same_length : (view : View) → length_of view ≡ total_length_of view
same_length (Ipv4 packet) = refl
same_length Skip = refl
same_length Short = refl

-- what a packet leaves of a list of counts
abbrev pub counted_to : RuleKind → Outcome → ℕ → List ℕ → List ℕ
counted_to kind outcome amount counts = cond (counts_for_rules outcome.reason) (added_to (named_by kind outcome) amount counts) counts

length_counted : (kind : RuleKind) (outcome : Outcome) (amount : ℕ) (counts : List ℕ) → length (counted_to kind outcome amount counts) ≡ length counts
length_counted kind outcome amount counts = elim (cases_Bool (counts_for_rules outcome.reason)) [ inl it ↦ rw it (length_added (named_by kind outcome) amount counts) | inr not_it ↦ rw not_it refl ]

counted_at : (kind : RuleKind) (outcome : Outcome) (amount k : ℕ) (counts : List ℕ) → k < length counts → get_or counts k 0 ≤ 2 ^ 64 - 1
    → get_or (counted_to kind outcome amount counts) k 0 ≡ capped (get_or counts k 0 + cond (reason_counts outcome.reason && names_rule k (named_by kind outcome)) amount 0)
counted_at kind outcome amount k counts below few = elim (cases_Bool (counts_for_rules outcome.reason)) [
  | inl it ↦ rw (same_reasons outcome.reason, it) (added_at (named_by kind outcome) amount k counts below few)
  | inr not_it ↦ rw (same_reasons outcome.reason, not_it) (let same : get_or counts k 0 ≡ capped (get_or counts k 0 + 0) = omega arith in same)
]

packets_next : (kind : RuleKind) (job : RunJob) (world : World) (frame : Frame) → (counters_of kind (after job world frame).counters).packets ≡ counted_to kind (next_taken job world frame).outcome 1 (counters_of kind world.counters).packets
unfolding after with_outcome counted
packets_next filter_rule job world frame = elim (cases_Bool (counts_for_rules (next_taken job world frame).outcome.reason)) [ inl it ↦ rw it refl | inr not_it ↦ rw not_it refl ]
packets_next translation_rule job world frame = elim (cases_Bool (counts_for_rules (next_taken job world frame).outcome.reason)) [ inl it ↦ rw it refl | inr not_it ↦ rw not_it refl ]

bytes_next : (kind : RuleKind) (job : RunJob) (world : World) (frame : Frame)
    → (counters_of kind (after job world frame).counters).bytes ≡ counted_to kind (next_taken job world frame).outcome (total_length_of (view_of frame.link frame.bytes)) (counters_of kind world.counters).bytes
unfolding after with_outcome counted
bytes_next filter_rule job world frame = rw (← same_length (view_of frame.link frame.bytes)) (elim (cases_Bool (counts_for_rules (next_taken job world frame).outcome.reason)) [ inl it ↦ rw it refl | inr not_it ↦ rw not_it refl ])
bytes_next translation_rule job world frame = rw (← same_length (view_of frame.link frame.bytes)) (elim (cases_Bool (counts_for_rules (next_taken job world frame).outcome.reason)) [ inl it ↦ rw it refl | inr not_it ↦ rw not_it refl ])

pub rule_packets_after : (kind : RuleKind) (k : ℕ) (job : RunJob) (world : World) (frames : List Frame) → k < length (counters_of kind world.counters).packets → get_or (counters_of kind world.counters).packets k 0 ≤ 2 ^ 64 - 1
    → get_or (counters_of kind (world_after job world frames).counters).packets k 0 ≡ capped (get_or (counters_of kind world.counters).packets k 0 + count_by (counts_for kind k) (taken_after job world frames))
unfolding world_after
rule_packets_after kind k job world [] below few = omega arith
rule_packets_after kind k job world (frame ∷ frames) below few =
    let p = next_taken job world frame in
    let long : length (counters_of kind (after job world frame).counters).packets ≡ length (counters_of kind world.counters).packets = ap length (packets_next kind job world frame) ∙ length_counted kind p.outcome 1 (counters_of kind world.counters).packets in
    let next : get_or (counters_of kind (after job world frame).counters).packets k 0 ≡ capped (get_or (counters_of kind world.counters).packets k 0 + cond (counts_for kind k p) 1 0) =
    ap (λ (counts : List ℕ). get_or counts k 0) (packets_next kind job world frame) ∙ counted_at kind p.outcome 1 k (counters_of kind world.counters).packets below few in
    let rest = rule_packets_after kind k job (after job world frame) frames (omega (arith, long)) (omega (arith, next)) in
    let more = sum_by-cons (λ (p : Taken). cond (counts_for kind k p) 1 0) p (taken_after job (after job world frame) frames) in
    omega (arith, next, rest, more)

pub rule_bytes_after : (kind : RuleKind) (k : ℕ) (job : RunJob) (world : World) (frames : List Frame) → k < length (counters_of kind world.counters).bytes → get_or (counters_of kind world.counters).bytes k 0 ≤ 2 ^ 64 - 1
    → get_or (counters_of kind (world_after job world frames).counters).bytes k 0 ≡ capped (get_or (counters_of kind world.counters).bytes k 0 + sum_by (bytes_for kind k) (taken_after job world frames))
unfolding world_after
rule_bytes_after kind k job world [] below few = omega arith
rule_bytes_after kind k job world (frame ∷ frames) below few =
    let p = next_taken job world frame in
    let amount = total_length_of (view_of frame.link frame.bytes) in
    let long : length (counters_of kind (after job world frame).counters).bytes ≡ length (counters_of kind world.counters).bytes = ap length (bytes_next kind job world frame) ∙ length_counted kind p.outcome amount (counters_of kind world.counters).bytes in
    let next : get_or (counters_of kind (after job world frame).counters).bytes k 0 ≡ capped (get_or (counters_of kind world.counters).bytes k 0 + bytes_for kind k p) =
    ap (λ (counts : List ℕ). get_or counts k 0) (bytes_next kind job world frame) ∙ counted_at kind p.outcome amount k (counters_of kind world.counters).bytes below few in
    let rest = rule_bytes_after kind k job (after job world frame) frames (omega (arith, long)) (omega (arith, next)) in
    let more = sum_by-cons (bytes_for kind k) p (taken_after job (after job world frame) frames) in
    omega (arith, next, rest, more)

-- ---- visits

length_raised : (visits counts : List ℕ) → length (fold raised counts visits) ≡ length counts
length_raised [] counts = refl
length_raised (n ∷ visits) counts = length_raised visits (raised counts n) ∙ length_added (Some (record { 0 = n })) 1 counts

-- as many more as there are visits
raised_at : (visits counts : List ℕ) (k : ℕ) → k < length counts → get_or counts k 0 ≤ 2 ^ 64 - 1 → get_or (fold raised counts visits) k 0 ≡ capped (get_or counts k 0 + count_by (λ visited. visited == k) visits)
raised_at [] counts k below few = omega arith
raised_at (n ∷ visits) counts k below few =
    let long : length (raised counts n) ≡ length counts = length_added (Some (record { 0 = n })) 1 counts in
    let next : get_or (raised counts n) k 0 ≡ capped (get_or counts k 0 + cond (n == k) 1 0) = added_at (Some (record { 0 = n })) 1 k counts below few in
    let rest = raised_at visits (raised counts n) k (omega (arith, long, below)) (omega (arith, next)) in
    let more = sum_by-cons (λ (visited : ℕ). cond (visited == k) 1 0) n visits in
    omega (arith, next, rest, more)

evaluations_next : (kind : RuleKind) (job : RunJob) (world : World) (frame : Frame) → (counters_of kind (after job world frame).counters).evaluations ≡ fold raised (counters_of kind world.counters).evaluations (visited_of kind (next_taken job world frame).outcome)
unfolding after with_outcome counted
evaluations_next filter_rule job world frame = elim (cases_Bool (counts_for_rules (next_taken job world frame).outcome.reason)) [ inl it ↦ rw it refl | inr not_it ↦ rw not_it refl ]
evaluations_next translation_rule job world frame = elim (cases_Bool (counts_for_rules (next_taken job world frame).outcome.reason)) [ inl it ↦ rw it refl | inr not_it ↦ rw not_it refl ]

pub rule_evaluations_after : (kind : RuleKind) (k : ℕ) (job : RunJob) (world : World) (frames : List Frame) → k < length (counters_of kind world.counters).evaluations → get_or (counters_of kind world.counters).evaluations k 0 ≤ 2 ^ 64 - 1
    → get_or (counters_of kind (world_after job world frames).counters).evaluations k 0 ≡ capped (get_or (counters_of kind world.counters).evaluations k 0 + sum_by (visits_to kind k) (taken_after job world frames))
unfolding world_after
rule_evaluations_after kind k job world [] below few = omega arith
rule_evaluations_after kind k job world (frame ∷ frames) below few =
    let p = next_taken job world frame in
    let long : length (counters_of kind (after job world frame).counters).evaluations ≡ length (counters_of kind world.counters).evaluations = ap length (evaluations_next kind job world frame) ∙ length_raised (visited_of kind p.outcome) (counters_of kind world.counters).evaluations in
    let next : get_or (counters_of kind (after job world frame).counters).evaluations k 0 ≡ capped (get_or (counters_of kind world.counters).evaluations k 0 + visits_to kind k p) =
    ap (λ (counts : List ℕ). get_or counts k 0) (evaluations_next kind job world frame) ∙ raised_at (visited_of kind p.outcome) (counters_of kind world.counters).evaluations k below few in
    let rest = rule_evaluations_after kind k job (after job world frame) frames (omega (arith, long)) (omega (arith, next)) in
    let more = sum_by-cons (visits_to kind k) p (taken_after job (after job world frame) frames) in
    omega (arith, next, rest, more)

-- ---- a run

total_none : (verdict : Verdict) → total_of verdict no_totals ≡ 0
total_none verdict.Pass = refl
total_none verdict.Block = refl
total_none verdict.Return = refl
total_none verdict.Skip = refl

pub total_of_run : (job : RunJob) (frames : List Frame) (verdict : Verdict) → total_of verdict (world_of job frames).counters.totals ≡ capped (count_by (comes_to verdict) (taken_in job frames))
unfolding world_of opening
total_of_run job frames verdict =
    let none = total_none verdict in
    let total = total_after verdict job (opening job) frames (omega (arith, none)) in
    omega (arith, none, total)

pub totals_together : (job : RunJob) (frames : List Frame) → length frames < 2 ^ 64
    → (world_of job frames).counters.totals.passed + (world_of job frames).counters.totals.blocked + (world_of job frames).counters.totals.returned + (world_of job frames).counters.totals.skipped ≡ (world_of job frames).count
unfolding world_of opening
totals_together job frames few =
    let pass = total_of_run job frames verdict.Pass in
    let block = total_of_run job frames verdict.Block in
    let back = total_of_run job frames verdict.Return in
    let skip = total_of_run job frames verdict.Skip in
    let all = all_verdicts (taken_in job frames) in
    let long = length_after job (opening job) frames in
    let count = world_count job (opening job) frames in
    omega (arith, pass, block, back, skip, all, long, count)

uncounted_packets : (kind : RuleKind) (job : RunJob) → (counters_of kind (opening job).counters).packets ≡ replicate (number_of kind job) 0
unfolding opening
uncounted_packets filter_rule job = refl
uncounted_packets translation_rule job = refl

uncounted_bytes : (kind : RuleKind) (job : RunJob) → (counters_of kind (opening job).counters).bytes ≡ replicate (number_of kind job) 0
unfolding opening
uncounted_bytes filter_rule job = refl
uncounted_bytes translation_rule job = refl

pub packets_of_run : (job : RunJob) (frames : List Frame) (kind : RuleKind) (rule : ℕ) → rule < number_of kind job
    → get_or (counters_of kind (world_of job frames).counters).packets rule 0 ≡ capped (count_by (counts_for kind rule) (taken_in job frames))
unfolding world_of
packets_of_run job frames kind rule below =
    let is = uncounted_packets kind job in
    let none : get_or (counters_of kind (opening job).counters).packets rule 0 ≡ 0 = ap (λ (counts : List ℕ). get_or counts rule 0) is ∙ get_or-replicate {A = ℕ} (number_of kind job) rule 0 0 below in
    let long : length (counters_of kind (opening job).counters).packets ≡ number_of kind job = ap length is ∙ length-replicate {A = ℕ} (number_of kind job) 0 in
    let all = rule_packets_after kind rule job (opening job) frames (omega (arith, long, below)) (omega (arith, none)) in
    omega (arith, none, all)

pub bytes_of_run : (job : RunJob) (frames : List Frame) (kind : RuleKind) (rule : ℕ) → rule < number_of kind job
    → get_or (counters_of kind (world_of job frames).counters).bytes rule 0 ≡ capped (sum_by (bytes_for kind rule) (taken_in job frames))
unfolding world_of
bytes_of_run job frames kind rule below =
    let is = uncounted_bytes kind job in
    let none : get_or (counters_of kind (opening job).counters).bytes rule 0 ≡ 0 = ap (λ (counts : List ℕ). get_or counts rule 0) is ∙ get_or-replicate {A = ℕ} (number_of kind job) rule 0 0 below in
    let long : length (counters_of kind (opening job).counters).bytes ≡ number_of kind job = ap length is ∙ length-replicate {A = ℕ} (number_of kind job) 0 in
    let all = rule_bytes_after kind rule job (opening job) frames (omega (arith, long, below)) (omega (arith, none)) in
    omega (arith, none, all)

uncounted_evaluations : (kind : RuleKind) (job : RunJob) → (counters_of kind (opening job).counters).evaluations ≡ replicate (number_of kind job) 0
unfolding opening
uncounted_evaluations filter_rule job = refl
uncounted_evaluations translation_rule job = refl

pub evaluations_of_run : (job : RunJob) (frames : List Frame) (kind : RuleKind) (rule : ℕ) → rule < number_of kind job
    → get_or (counters_of kind (world_of job frames).counters).evaluations rule 0 ≡ capped (sum_by (visits_to kind rule) (taken_in job frames))
unfolding world_of
evaluations_of_run job frames kind rule below =
    let is = uncounted_evaluations kind job in
    let none : get_or (counters_of kind (opening job).counters).evaluations rule 0 ≡ 0 = ap (λ (counts : List ℕ). get_or counts rule 0) is ∙ get_or-replicate {A = ℕ} (number_of kind job) rule 0 0 below in
    let long : length (counters_of kind (opening job).counters).evaluations ≡ number_of kind job = ap length is ∙ length-replicate {A = ℕ} (number_of kind job) 0 in
    let all = rule_evaluations_after kind rule job (opening job) frames (omega (arith, long, below)) (omega (arith, none)) in
    omega (arith, none, all)

pub clock_of_run : (job : RunJob) (frame : Frame) (frames : List Frame) → Any (λ other. other.seconds ≡ (world_of job (frame ∷ frames)).clock.0) (frame ∷ frames)
unfolding world_of opening
clock_of_run job frame frames = elim (clock_is_one job (opening job) (frame ∷ frames)) [
  | inl same ↦
      (let bound = All-head (λ (other : Frame). other.seconds ≤ (world_after job (opening job) (frame ∷ frames)).clock.0) frame frames (none_later job (opening job) (frame ∷ frames)) in
      let is : frame.seconds ≡ (world_after job (opening job) (frame ∷ frames)).clock.0 = omega (arith, same, bound) in
      first_is (λ (other : Frame). other.seconds ≡ (world_after job (opening job) (frame ∷ frames)).clock.0) frame frames is)
  | inr one ↦ one
]
