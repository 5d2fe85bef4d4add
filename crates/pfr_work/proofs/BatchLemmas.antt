-- Batches that follow one another are opened, and their numbers drawn.
use Rattle.std.proofs.Common.{◌≡◌, ◌≤◌, ◌+◌, ℕ, suc, zero, List, [], ◌∷◌, ◌++◌, length, map, get_or, drop, Some, refl, sym, ap, ◌∙◌, arith, append_assoc}
use Rattle.std.specs.List.{All, range_with_len, slice_get}
use Rattle.std.proofs.Math.Nat.{add-zero, zero-add}
use Rattle.std.proofs.Math.Seq.{set-append_seam}
use Rattle.std.proofs.lemmas.List.{append-nil}
use Rattle.std.proofs.lemmas.List.Elements.{All-head, All-tail}
use Rattle.pfr_packet.specs.Job.{RunJob}
use Rattle.pfr_commit.specs.Machine.{Batch, Machine, drawn}
use Rattle.pfr_commit.specs.Machine.Event.{claim, open_batch}
use Rattle.pfr_commit.specs.World.{Frame}
use Rattle.pfr_work.specs.Ends.{Follow, IsDrawn}
use Rattle.pfr_work.proofs.LeadLemmas.{Leads, leads_on, leads_to, one_event, stays}

-- ---- the numbers of a batch

-- the last batch of some
last_is : (front : List Batch) (batch : Batch) → slice_get (front ++ batch ∷ []) (length front) ≡ Some batch
last_is [] batch = refl
last_is (first ∷ front) batch = last_is front batch

-- a batch of which more numbers were drawn, by these workers
abbrev with_claims : Batch → List (ℕ × ℕ) → ℕ → Batch
with_claims batch more count = record batch { word = batch.word + count; claims = batch.claims ++ more }

-- the last batch is this one
abbrev with_last : Machine → List Batch → Batch → Machine
with_last machine front batch = record machine { batches = front ++ batch ∷ [] }

-- one number more
next_drawn : (batch : Batch) (draw : ℕ × ℕ) (more : List (ℕ × ℕ)) (count : ℕ) → draw.1 ≡ batch.word → with_claims (drawn draw.0 batch) more count ≡ with_claims batch (draw ∷ more) (suc count)
next_drawn batch draw more count is =
    let word_is : batch.word + 1 + count ≡ batch.word + suc count = omega arith in
    ap (λ (word : ℕ). record batch { word = word; claims = (batch.claims ++ (draw.0, batch.word) ∷ []) ++ more }) word_is
    ∙ ap (λ (claims : List (ℕ × ℕ)). record batch { word = batch.word + suc count; claims = claims }) (append_assoc batch.claims ((draw.0, batch.word) ∷ []) more)
    ∙ ap (λ (number : ℕ). record batch { word = batch.word + suc count; claims = batch.claims ++ (draw.0, number) ∷ more }) (sym is)

none_drawn : (batch : Batch) → with_claims batch [] 0 ≡ batch
none_drawn batch =
    ap (λ (word : ℕ). record batch { word = word; claims = batch.claims ++ [] }) (add-zero batch.word)
    ∙ ap (λ (claims : List (ℕ × ℕ)). record batch { claims = claims }) (append-nil batch.claims)

-- the numbers from the word on are drawn, one after the other
claims_lead : (job : RunJob) (packets : List Frame) (machine : Machine) (front : List Batch) (batch : Batch) (more : List (ℕ × ℕ)) (count : ℕ) → map (λ claim. claim.1) more ≡ range_with_len batch.word count
    → Leads job packets (with_last machine front batch) (with_last machine front (with_claims batch more count))
claims_lead job packets machine front batch [] zero is = stays job packets (with_last machine front batch) (with_last machine front (with_claims batch [] 0)) (ap (with_last machine front) (none_drawn batch))
claims_lead job packets machine front batch [] (suc count) is = cc
claims_lead job packets machine front batch (draw ∷ more) zero is = cc
claims_lead job packets machine front batch (draw ∷ more) (suc count) is =
    let number_is : draw.1 ≡ batch.word = ap (λ (numbers : List ℕ). get_or numbers 0 0) is in
    let rest_is : map (λ claim. claim.1) more ≡ range_with_len (batch.word + 1) count = ap (λ (numbers : List ℕ). drop 1 numbers) is in
    let next = with_last machine front (drawn draw.0 batch) in
    leads_to job packets (with_last machine front batch) (with_last machine front (with_claims (drawn draw.0 batch) more count)) (with_last machine front (with_claims batch (draw ∷ more) (suc count)))
    (ap (with_last machine front) (next_drawn batch draw more count number_is))
    (leads_on job packets (with_last machine front batch) next (with_last machine front (with_claims (drawn draw.0 batch) more count))
    (one_event job packets (with_last machine front batch) (claim (length front) draw.0) next
    (batch, last_is front batch, ap (λ (batches : List Batch). record machine { batches = batches }) (sym (set-append_seam front batch [] (drawn draw.0 batch)))))
    (claims_lead job packets machine front (drawn draw.0 batch) more count rest_is))

-- ---- batches

-- a batch that is opened, before any number is drawn
abbrev undrawn : Batch → Batch
undrawn batch = record batch { word = 0; claims = [] }

all_drawn : (batch : Batch) → with_claims (undrawn batch) batch.claims batch.word ≡ batch
all_drawn batch = ap (λ (word : ℕ). record batch { word = word }) (zero-add batch.word)

-- one is opened, and all its numbers are drawn
batch_leads : (job : RunJob) (packets : List Frame) (machine : Machine) (batch : Batch) → batch.first ≡ machine.opened → IsDrawn batch → machine.opened + batch.count ≤ length packets
    → Leads job packets machine (record machine { batches = machine.batches ++ batch ∷ []; opened = machine.opened + batch.count })
batch_leads job packets machine batch first_is is_drawn within =
    let wider : Machine = record machine { opened = machine.opened + batch.count } in
    let between = with_last wider machine.batches (undrawn batch) in
    leads_on job packets machine between (with_last wider machine.batches batch)
    (one_event job packets machine (open_batch batch.count) between
    (within, ap (λ (first : ℕ). with_last wider machine.batches (record batch { first = first; word = 0; claims = [] })) first_is))
    (leads_to job packets between (with_last wider machine.batches (with_claims (undrawn batch) batch.claims batch.word)) (with_last wider machine.batches batch)
    (ap (with_last wider machine.batches) (all_drawn batch))
    (claims_lead job packets wider machine.batches (undrawn batch) batch.claims batch.word is_drawn))

no_fewer : (first : ℕ) (batches : List Batch) (last : ℕ) → Follow first batches last → first ≤ last
no_fewer first [] last follow = omega (arith, follow)
no_fewer first (batch ∷ batches) last follow =
    let rest = no_fewer (first + batch.count) batches last follow.1 in
    omega (arith, rest)

-- all of them, in their order
pub batches_lead : (job : RunJob) (packets : List Frame) (machine : Machine) (batches : List Batch) (last : ℕ) → Follow machine.opened batches last → All IsDrawn batches → last ≤ length packets
    → Leads job packets machine (record machine { batches = machine.batches ++ batches; opened = last })
batches_lead job packets machine [] last follow are_drawn within =
    stays job packets machine (record machine { batches = machine.batches ++ []; opened = last })
    (ap (λ (batches : List Batch). record machine { batches = batches; opened = last }) (append-nil machine.batches)
    ∙ ap (λ (opened : ℕ). record machine { opened = opened }) (sym follow))
batches_lead job packets machine (batch ∷ batches) last follow are_drawn within =
    let rest = no_fewer (machine.opened + batch.count) batches last follow.1 in
    let next : Machine = record machine { batches = machine.batches ++ batch ∷ []; opened = machine.opened + batch.count } in
    leads_to job packets machine (record machine { batches = (machine.batches ++ batch ∷ []) ++ batches; opened = last }) (record machine { batches = machine.batches ++ batch ∷ batches; opened = last })
    (ap (λ (batches : List Batch). record machine { batches = batches; opened = last }) (append_assoc machine.batches (batch ∷ []) batches))
    (leads_on job packets machine next (record machine { batches = (machine.batches ++ batch ∷ []) ++ batches; opened = last })
    (batch_leads job packets machine batch follow.0 (All-head IsDrawn batch batches are_drawn) (omega (arith, rest, within)))
    (batches_lead job packets next batches last follow.1 (All-tail IsDrawn batch batches are_drawn) within))
