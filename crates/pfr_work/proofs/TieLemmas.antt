-- Each trace shows a state that is the end of a run.
use Rattle.std.proofs.Common.{◌≡◌, ◌∙◌, ◌⊎◌, ◌+◌, ◌<◌, ◌≤◌, ◌==◌, Bool, ℕ, zero, suc, true, false, inl, inr, if◌then◌else◌, List, [], ◌∷◌, length, map, get_or, take, Option, Some, None, refl, sym, ap, subst, arith}
use Rattle.std.specs.Prelude.{nat_lt}
use Rattle.std.specs.List.{All, AllZip, concat, filter, range_with_len}
use Rattle.std.specs.List.Sorted.{IsStrictlyIncreasing}
use Rattle.std.proofs.lemmas.Bool.{cases_Bool, cases_eq}
use Rattle.std.proofs.lemmas.Bool.Decides.{nat_tests}
use Rattle.std.proofs.lemmas.Grind.{common_steps}
use Rattle.std.proofs.lemmas.List.{append-nil, length-append, length-map}
use Rattle.std.proofs.lemmas.List.Elements.{All-cons, All-head, All-nil, All-tail}
use Rattle.pfr_claims.specs.declared.gathered.Gathered.{Gathered}
use Rattle.pfr_claims.specs.Batches as claims
use Rattle.pfr_claims.specs.Batches.{lists_of}
use Rattle.pfr_claims.specs.Counting.{times, once_below}
use Rattle.pfr_claims.proofs.Sums.{all_below, times_append}
use Rattle.pfr_capture.specs.declared.capture.Record.{Record}
use Rattle.pfr_packet.specs.Job.{RunJob}
use Rattle.pfr_commit.specs.declared.book.Book.{Book}
use Rattle.pfr_commit.specs.Books.{StandsAt}
use Rattle.pfr_commit.specs.Emissions.{frame_of}
use Rattle.pfr_commit.specs.Machine.{Batch, IsSoundGuess, Machine}
use Rattle.pfr_commit.specs.World.{Frame, World, online, world_of}
use Rattle.pfr_commit.proofs.WorldLemmas.{world_count}
use Rattle.pfr_feed.specs.Runs.{Call, behind, given_in, taken_in}
use Rattle.pfr_feed.specs.Transitions.{Transitions}
use Rattle.pfr_work.specs.Ends.{Follow, IsDrawn, tables_of}
use Rattle.pfr_work.specs.Ties.{AreShownBy, EndsIn, IsEntry, IsShownBy, RefusedEndsTie, WellEndsTie, numbers_of}
use Rattle.pfr_work.specs.Traces.{AreReturns, CameBack, IsOpenedFor, Seen, Traces, packets_of}
use Rattle.pfr_work.proofs.TraceLemmas.{few_counted}

-- ---- who drew a number

-- the place of the first list that a number stands in
abbrev drawer_of : ℕ → List (List ℕ) → ℕ
drawer_of number [] = 0
drawer_of number (list ∷ lists) = if nat_lt 0 (times number list) then 0 else suc (drawer_of number lists)

-- what a test gives tells whether a number stands in a list
abbrev Tells : Bool → ℕ → List ℕ → Type 0
Tells test number list = ((test ≡ true) × (0 < times number list)) ⊎ ((test ≡ false) × (times number list ≡ 0))

-- no list has a number more often than all together
no_more : (number : ℕ) (lists : List (List ℕ)) (worker : ℕ) → times number (get_or lists worker []) ≤ times number (concat lists)
no_more number [] worker = omega arith
no_more number (list ∷ lists) zero = omega (arith, times_append number list (concat lists))
no_more number (list ∷ lists) (suc worker) = let rest = no_more number lists worker in omega (arith, times_append number list (concat lists))

-- if a number stands once in all lists together, only the first list that has it has it
drawn_by : (number : ℕ) (lists : List (List ℕ)) (worker : ℕ) → times number (concat lists) ≡ 1 → Tells (drawer_of number lists == worker) number (get_or lists worker [])
drawn_by number [] worker once = absurd (omega (arith, once))
drawn_by number (list ∷ lists) zero once =
    let split = times_append number list (concat lists) in
    grind (arith, nat_tests)
drawn_by number (list ∷ lists) (suc worker) once =
    let split = times_append number list (concat lists) in
    let least = no_more number lists worker in
    elim (cases_Bool (nat_lt 0 (times number list))) [
      | inl here ↦ grind (arith, nat_tests)
      | inr behind ↦ let rest = drawn_by number lists worker (grind (arith, nat_tests)) in grind (arith, nat_tests)
    ]

-- ---- the numbers of a list

-- numbers that rise from one bound on, below another one
abbrev Rises : ℕ → List ℕ → ℕ → Type 0
Rises low [] high = Unit {0}
Rises low (number ∷ numbers) high = (low ≤ number) × (number < high) × Rises (number + 1) numbers high

rises_from : (low : ℕ) (numbers : List ℕ) (high : ℕ) → IsStrictlyIncreasing numbers → All (λ number. number < high) numbers → (0 < length numbers → low ≤ get_or numbers 0 0) → Rises low numbers high
rises_from low [] high rising below first = tt
rises_from low (number ∷ numbers) high rising below first =
    (first (omega arith), All-head (λ number. number < high) number numbers below, rises_from (number + 1) numbers high rest_rises (All-tail (λ number. number < high) number numbers below) next)
  where
    next : 0 < length numbers → number + 1 ≤ get_or numbers 0 0
    next some = let step = rising 0 (omega arith) in omega arith

    rest_rises : IsStrictlyIncreasing numbers
    rest_rises k within = let step = rising (suc k) (omega arith) in grind (arith, common_steps)

rises_at : (lists : List (List ℕ)) (worker : ℕ) → All IsStrictlyIncreasing lists → IsStrictlyIncreasing (get_or lists worker [])
rises_at [] worker rising = λ k within. absurd (omega (arith, within))
rises_at (list ∷ lists) zero rising = All-head IsStrictlyIncreasing list lists rising
rises_at (list ∷ lists) (suc worker) rising = rises_at lists worker (All-tail IsStrictlyIncreasing list lists rising)

-- what is below them is none of them
not_below : (number : ℕ) (low : ℕ) (numbers : List ℕ) (high : ℕ) → Rises low numbers high → number < low → times number numbers ≡ 0
not_below number low [] high rises below = refl
not_below number low (other ∷ numbers) high rises below =
    let rest = not_below number (other + 1) numbers high rises.2 (omega (arith, rises.0, below)) in
    let above : number < other = omega (arith, rises.0, below) in
    grind (arith, nat_tests)

-- a list begins with the number, or its numbers are above it
tells_first : (test : Bool) (number : ℕ) (numbers : List ℕ) → Tells test number (number ∷ numbers) → test ≡ true
tells_first test number numbers tells = elim tells [
  | inl here ↦ here.0
  | inr gone ↦ absurd (let none = gone.1 in grind (arith, nat_tests))
]

tells_below : (test : Bool) (number : ℕ) (numbers : List ℕ) (high : ℕ) → Rises (number + 1) numbers high → Tells test number numbers → test ≡ false
tells_below test number numbers high rises tells = elim tells [
  | inl here ↦ absurd (let none = not_below number (number + 1) numbers high rises (omega arith) in let some = here.1 in omega arith)
  | inr gone ↦ gone.0
]

-- what is told of a list and a number above its first is told of the rest
tells_rest : (test : Bool) (number first : ℕ) (numbers : List ℕ) → first < number → Tells test number (first ∷ numbers) → Tells test number numbers
tells_rest test number first numbers above tells = elim tells [
  | inl here ↦ inl (here.0, (let some = here.1 in grind (arith, nat_tests)))
  | inr gone ↦ inr (gone.0, (let none = gone.1 in grind (arith, nat_tests)))
]

-- a test keeps the numbers of a rising list, if it tells of each number whether the list has it
kept_is : (test : ℕ → Bool) (low count : ℕ) (numbers : List ℕ) (high : ℕ) → low + count ≡ high → Rises low numbers high → ((number : ℕ) → low ≤ number → number < high → Tells (test number) number numbers)
    → filter test (range_with_len low count) ≡ numbers
kept_is test low zero [] high is rises tells = refl
kept_is test low zero (number ∷ numbers) high is rises tells = absurd (omega (arith, is, rises.0, rises.1))
kept_is test low (suc count) [] high is rises tells =
    rw (tells_below (test low) low [] high tt (tells low (omega arith) (omega arith)))
    (kept_is test (low + 1) count [] high (omega arith) tt (λ other above within. tells other (omega arith) within))
kept_is test low (suc count) (number ∷ numbers) high is rises tells = elim (cases_eq number low) [
  | inl same ↦
      rw (subst (λ (first : ℕ). test first ≡ true) same (tells_first (test number) number numbers (tells number rises.0 rises.1)))
      (ap (λ (first : ℕ). first ∷ filter test (range_with_len (low + 1) count)) (sym same)
      ∙ ap (λ (more : List ℕ). number ∷ more)
      (kept_is test (low + 1) count numbers high (omega arith) (subst (λ (first : ℕ). Rises (first + 1) numbers high) same rises.2)
      (λ other above within. tells_rest (test other) other number numbers (omega arith) (tells other (omega arith) within))))
  | inr apart ↦
      let higher : low + 1 ≤ number = omega (arith, rises.0, apart) in
      rw (tells_below (test low) low (number ∷ numbers) high (higher, rises.1, rises.2) (tells low (omega arith) (omega arith)))
      (kept_is test (low + 1) count (number ∷ numbers) high (omega arith) (higher, rises.1, rises.2) (λ other above within. tells other (omega arith) within))
]

-- ---- claims

-- the numbers below the word, each with the worker in whose list it is
abbrev claims_of : List (List ℕ) → ℕ → List (ℕ × ℕ)
claims_of lists word = map (λ number. (drawer_of number lists, number)) (range_with_len 0 word)

-- the numbers of all claims, and those of a worker's
all_numbers : (lists : List (List ℕ)) (numbers : List ℕ) → map (λ (claim : ℕ × ℕ). claim.1) (map (λ number. (drawer_of number lists, number)) numbers) ≡ numbers
all_numbers lists [] = refl
all_numbers lists (number ∷ numbers) = ap (λ (more : List ℕ). number ∷ more) (all_numbers lists numbers)

own_numbers : (worker : ℕ) (lists : List (List ℕ)) (numbers : List ℕ) → numbers_of worker (map (λ number. (drawer_of number lists, number)) numbers) ≡ filter (λ number. drawer_of number lists == worker) numbers
own_numbers worker lists [] = refl
own_numbers worker lists (number ∷ numbers) = elim (cases_Bool (drawer_of number lists == worker)) [
  | inl own ↦ rw own (ap (λ (more : List ℕ). number ∷ more) (own_numbers worker lists numbers))
  | inr another ↦ rw another (own_numbers worker lists numbers)
]

-- a worker's numbers are its list
list_is : (lists : List (List ℕ)) (word worker : ℕ) → All IsStrictlyIncreasing lists → ((number : ℕ) → times number (concat lists) ≡ once_below number word) → numbers_of worker (claims_of lists word) ≡ get_or lists worker []
list_is lists word worker rising once =
    own_numbers worker lists (range_with_len 0 word)
    ∙ kept_is (λ number. drawer_of number lists == worker) 0 word (get_or lists worker []) word (omega arith)
    (rises_from 0 (get_or lists worker []) word (rises_at lists worker rising) (all_below (get_or lists worker []) word below) (λ some. omega arith))
    (λ number above within. drawn_by number lists worker (let there = once number in omega arith))
  where
    below : (number : ℕ) → times number (get_or lists worker []) ≤ once_below number word
    below number = let least = no_more number lists worker in let there = once number in omega arith

-- ---- batches

-- the batch of these records, with what came back of it, behind other packets; one of which nothing came back is open
abbrev batch_of : ℕ → Option Gathered → List Record → Batch
batch_of first None records = record { first = first; count = length records; word = 0; claims = [] }
batch_of first (Some entry) records = record { first = first; count = length records; word = entry.word; claims = claims_of (lists_of entry.passes.value.items) entry.word }

-- what came back of the first batch, if it was opened, and of the others
abbrev first_of : List (Option Gathered) → Option Gathered
first_of [] = None
first_of (it ∷ returns) = it

abbrev rest_of : List (Option Gathered) → List (Option Gathered)
rest_of [] = []
rest_of (it ∷ returns) = returns

abbrev batches_from : ℕ → List (Option Gathered) → List (List Record) → List Batch
batches_from first returns [] = []
batches_from first returns (records ∷ given) = batch_of first (first_of returns) records ∷ batches_from (first + length records) (rest_of returns) given

count_is : (first : ℕ) (it : Option Gathered) (records : List Record) → (batch_of first it records).count ≡ length records
count_is first None records = refl
count_is first (Some entry) records = refl

begins_at : (first : ℕ) (it : Option Gathered) (records : List Record) → (batch_of first it records).first ≡ first
begins_at first None records = refl
begins_at first (Some entry) records = refl

one_drawn : (first : ℕ) (it : Option Gathered) (records : List Record) → IsDrawn (batch_of first it records)
one_drawn first None records = refl
one_drawn first (Some entry) records = all_numbers (lists_of entry.passes.value.items) (range_with_len 0 entry.word)

long : (records : List Record) (given : List (List Record)) → length (packets_of (records ∷ given)) ≡ length records + length (packets_of given)
long records given =
    let all = length-append (map frame_of records) (packets_of given) in
    let same = length-map records frame_of in
    omega (arith, all, same)

batches_follow : (first : ℕ) (returns : List (Option Gathered)) (given : List (List Record)) (last : ℕ) → first + length (packets_of given) ≡ last → Follow first (batches_from first returns given) last
batches_follow first returns [] last is = omega (arith, is)
batches_follow first returns (records ∷ given) last is = (
  begins_at first (first_of returns) records,
  rw (count_is first (first_of returns) records)
      (batches_follow (first + length records) (rest_of returns) given last (let l = long records given in omega (arith, is, l))),
)

are_drawn : (first : ℕ) (returns : List (Option Gathered)) (given : List (List Record)) → All IsDrawn (batches_from first returns given)
are_drawn first returns [] = All-nil IsDrawn
are_drawn first returns (records ∷ given) =
    All-cons IsDrawn (batch_of first (first_of returns) records) (batches_from (first + length records) (rest_of returns) given)
    (one_drawn first (first_of returns) records)
    (are_drawn (first + length records) (rest_of returns) given)

-- a batch of which nothing came back
none_shows : (first : ℕ) (records : List Record) → IsShownBy None records (batch_of first None records)
none_shows first records = record { count_is = refl; entry = λ entry is. absurd (cc is) }

-- and one with its entry
entry_is : (first : ℕ) (entry : Gathered) (records : List Record) → entry.sizes.count ≡ length records → IsEntry entry (batch_of first (Some entry) records)
entry_is first entry records sizes = record {
  count_is = sym sizes;
  word_is = refl;
  passes = sym entry.passes.value.ok.0 ∙ entry.whole;
  drawn_is = λ worker. list_is (lists_of entry.passes.value.items) entry.word worker entry.rising entry.once;
}

same_entry : (a b : Gathered) → Some a ≡ Some b → a ≡ b
same_entry a b is = ap (λ (o : Option Gathered). elim o [ Some entry ↦ entry | None ↦ a ]) is

some_shows : (workers first : ℕ) (batch : claims.Batch) (entry : Gathered) (records : List Record) → entry.claims.value ≡ batch → IsOpenedFor workers batch records → IsShownBy (Some entry) records (batch_of first (Some entry) records)
some_shows workers first batch entry records is opened = record {
  count_is = refl;
  entry = λ other same. subst (λ (it : Gathered). IsEntry it (batch_of first (Some entry) records)) (same_entry entry other same)
      (entry_is first entry records (ap (λ sizes. sizes.count) entry.sized ∙ ap (λ (b : claims.Batch). b.sizes.count) is ∙ opened.0));
}

-- those that weren't opened
open_shown : (first : ℕ) (given : List (List Record)) → AreShownBy [] given (batches_from first [] given)
open_shown first [] = tt
open_shown first (records ∷ given) = (none_shows first records, open_shown (first + length records) given)

are_shown : (workers first : ℕ) (opened : List claims.Batch) (returns : List (Option Gathered)) (given : List (List Record)) → AreReturns opened returns → AllZip (IsOpenedFor workers) opened (take (length opened) given) → AreShownBy returns given (batches_from first returns given)
are_shown workers first [] [] given came opens = open_shown first given
are_shown workers first [] (it ∷ returns) given came opens = absurd came
are_shown workers first (batch ∷ opened) [] given came opens = absurd came
are_shown workers first (batch ∷ opened) (it ∷ returns) [] came opens = tt
are_shown workers first (batch ∷ opened) (None ∷ returns) (records ∷ given) came opens = (none_shows first records, are_shown workers (first + length records) opened returns given came.1 opens.1)
are_shown workers first (batch ∷ opened) (Some entry ∷ returns) (records ∷ given) came opens =
    (some_shows workers first batch entry records came.0 opens.0, are_shown workers (first + length records) opened returns given came.1 opens.1)

-- ---- the end

-- the state with these batches, of which no worker sees a commit and no speculation is on the way
abbrev end_of : RunJob → List Frame → List Batch → (committed published : ℕ) → Machine
end_of job packets batches committed published =
    let world = world_of job (take committed packets) in
    record {
      batches = batches;
      opened = length packets;
      sees = λ worker. 0;
      way = [];
      committed = committed;
      tables = tables_of job packets committed;
      world = world;
      emitted = online job world;
      published = published;
    }

ends_in : (job : RunJob) (workers : ℕ) (book : Book) (seen : Seen) (calls : List Call) (handed published : ℕ) → Traces job workers calls seen handed published → published ≤ book.count → book.count ≤ length (packets_of (given_in calls)) → EndsIn job workers book seen calls
ends_in job workers book seen calls handed published trace few within =
    let packets = packets_of (given_in calls) in
    let came : CameBack seen.opened seen.entries seen.lost = subst (λ (bs : List claims.Batch). CameBack bs seen.entries seen.lost) (sym (trace.opened_are ∙ append-nil trace.back)) trace.came in
    let batches = batches_from 0 came.returns (given_in calls) in
    record {
      published = published;
      machine = end_of job packets batches book.count published;
      is = record {
        is_end = record {
          follow = batches_follow 0 came.returns (given_in calls) (length packets) (omega arith);
          within = omega arith;
          drawn = are_drawn 0 came.returns (given_in calls);
          published_few = few;
          committed_few = within;
          world_is = refl;
          tables_are = refl;
          emitted_is = refl;
          seen = λ worker. omega arith;
          few = λ worker above. refl;
          sound = All-nil IsSoundGuess;
        };
        committed_is = refl;
        published_is = refl;
        shows = trace.shows;
        came = came;
        shown = are_shown workers 0 seen.opened came.returns (given_in calls) came.of_batches trace.opens;
      };
    }

-- how many packets a book has counted
count_of : (book : Book) (world : World) → StandsAt book world → book.count ≡ world.count
count_of book world stands = ap (λ (w : World). w.count) stands.left

next_long : (at : List (List Record)) (records : List Record) (later : List (List Record)) → at ≡ records ∷ later → length records ≤ length (packets_of at)
next_long at records later is =
    let all = ap (λ (bs : List (List Record)). length (packets_of bs)) is in
    let l = long records later in
    omega (arith, all, l)

module _ {F : Type 0} (feeds : Transitions F) where
  pub well_ends : WellEndsTie feeds
  well_ends job workers start book feed seen run =
      let counted = few_counted feeds job start run.calls run.at run.went in
      elim run.then [
        | inl over ↦
            let same = count_of book run.at.world over.over.stands in
            ends_in job workers book seen run.calls (length (taken_in run.calls)) book.count over.trace (omega arith) (omega (arith, counted, same))
        | inr cut ↦
            let same = count_of book (behind job run.at.world cut.cut.records) cut.cut.stands in
            let more = world_count job run.at.world (map frame_of cut.cut.records) in
            let l = length-map cut.cut.records frame_of in
            let next = next_long run.at.waiting cut.cut.records cut.cut.later cut.cut.waits in
            ends_in job workers book seen run.calls (length (taken_in run.calls) + 1) run.at.world.count cut.trace (omega (arith, same, more)) (omega (arith, counted, same, more, l, next))
      ]

  pub refused_ends : RefusedEndsTie feeds
  refused_ends job workers start book feed seen run =
      let counted = few_counted feeds job start run.calls run.at run.went in
      let few = run.then.few in
      elim run.then.refused.stands [
        | inl stands ↦
            let same = count_of book run.at.world stands in
            ends_in job workers book seen run.calls (length (taken_in run.calls)) run.then.published run.then.trace (omega (arith, few, same)) (omega (arith, counted, same))
        | inr stopped ↦
            let from = stopped.from in
            let to = stopped.to in
            let next = next_long run.at.waiting stopped.records stopped.later stopped.waits in
            ends_in job workers book seen run.calls (length (taken_in run.calls)) run.then.published run.then.trace (omega (arith, few, from)) (omega (arith, counted, to, next))
      ]
