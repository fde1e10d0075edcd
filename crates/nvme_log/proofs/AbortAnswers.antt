-- What an Abort command is told, of every accounted log.
use Rattle.std.proofs.Common.{◌≡◌, ℕ, zero, suc, ◌<◌, ◌≤◌, ◌==◌, ◌||◌, Bool, true, false, if◌then◌else◌, List, [], ◌∷◌, ◌++◌, Option, Some, None, refl, sym, ap, ◌∙◌, subst, arith, inl, inr}
use Rattle.std.specs.Prelude.{slice_get}
use Rattle.std.proofs.lemmas.Bool.{eqb-true, eq-eqb, and_from, and_right, false_from_ne_true}
use Rattle.std.proofs.lemmas.Option.{same_Some}
use Rattle.nvme_entry.specs.Status.{success}
use Rattle.nvme_entry.specs.declared.submission.Sqe.{Sqe}
use Rattle.nvme_entry.specs.declared.completion.Cqe.{Cqe}
use Rattle.nvme_arbiter.specs.declared.pick.Seen.{Seen}
use Rattle.nvme_arbiter.specs.declared.pick.Pick.{Pick}
use Rattle.nvme_arbiter.specs.Settings.{ArbitrationFields}
use Rattle.nvme_arbiter.specs.declared.settings.Mechanism.{Mechanism}
use Rattle.nvme_arbiter.specs.Lawful.{IsLawfulRun}
use Rattle.nvme_arbiter.proofs.PickLaws.{picks_are_measured}
use Rattle.nvme_entry.specs.AdminCommand.{admin_command_of}
use Rattle.nvme_admin.specs.History.{Start, TableHistory, EntryApplied}
use Rattle.nvme_admin.specs.Checks.{status_in}
use Rattle.nvme_admin.specs.Accepted.{queue_table, status_of, dw0_of, verdict_of}
use Rattle.nvme_admin.specs.declared.verdict.Verdict.TheVariants.{BeginDelete}
use Rattle.nvme_admin.specs.declared.verdict.Verdict.TheVariants as verdict
use Rattle.nvme_admin.proofs.Applied.{status_in-verdict}
use Rattle.nvme_log.specs.declared.event.Event.{Event}
use Rattle.nvme_log.specs.declared.event.Event.TheVariants.{Fetch, SetArbitration, OpenSq, OpenCq, Closing, Abort, Post, ClosedSq, ClosedCq}
use Rattle.nvme_log.specs.declared.event.Event.TheVariants as event
use Rattle.nvme_log.specs.Rules.{Past, FrontRules, Each}
use Rattle.nvme_log.specs.Queues.{open_sq, has_region}
use Rattle.nvme_log.specs.Places.{fetched, waiting, fate_of, is_waiting, is_aborted, entry_at}
use Rattle.nvme_log.specs.Histories.{arbitration_of, table_history}
use Rattle.nvme_log.specs.Aborts.{just_picked, is_index, has_aborted, told_dw0}
use Rattle.nvme_log.specs.Answers.{Answer, Executor, by_outcome}
use Rattle.nvme_log.specs.Completions.{table_before, own_status_by, admin_dw0, own_dw0_by, IsOwnBy}
use Rattle.nvme_log.specs.Effects.{EffectsAtOnce}
use Rattle.nvme_log.specs.Account.{PostsOwnBy, IsAccountBy}
use Rattle.nvme_log.specs.Dispatches.{place_at}
use Rattle.nvme_log.specs.AbortLaws.{TakesCommand, TellsFound, AbortsAreTold}
use Rattle.nvme_log.proofs.Members.{IsIn, in-first, in-take_first, cuts}
use Rattle.nvme_log.proofs.Prefixes.{Each-after, fetched-after}
use Rattle.nvme_log.proofs.Turns.{in-waits, stays, stays_on, taken-waits_not, admin-stays, admin-unaborted}

-- ---- what an Abort command is told
-- each pick takes something
abbrev TakesSome : Past → Event → Type 0
TakesSome past (event.Pick seen pick) = 0 < pick.n
TakesSome past e = Unit {0}

picks-take_some : (m : Mechanism) (first : ArbitrationFields) (past : Past) → IsLawfulRun m first (arbitration_of past) → Each TakesSome past
picks-take_some m first [] h = tt
picks-take_some m first (event.Pick seen pick ∷ past) h = (
  let one : 1 ≤ pick.n = (picks_are_measured m first (arbitration_of past) seen pick h.0 h.1).at_least_one in omega (arith, one),
  picks-take_some m first past h.2,
)
picks-take_some m first (SetArbitration settings ∷ past) h = (tt, picks-take_some m first past h)
picks-take_some m first (e ∷ past) h = (tt, picks-take_some m first past h)

-- the place that an admin pick takes doesn't wait after it
admin-taken : (rules : FrontRules) (past : Past) (seen : List Seen) (pick : Pick) (i : ℕ) → Each (EffectsAtOnce rules) past → 0 < pick.n → pick.qid ≡ 0
    → slice_get (waiting past 0) 0 ≡ Some i → is_waiting (fate_of (event.Pick seen pick ∷ past) 0 i) ≡ false
admin-taken rules past seen pick i h some admin oldest =
    taken-waits_not past seen pick 0 i
    (ap (λ (q : ℕ). has_region 0 (open_sq past q)) admin ∙ ap (has_region 0) (admin-stays rules past h))
    (in-take_first i (waiting past 0) pick.n oldest some)

-- a place that doesn't wait isn't the oldest that waits
not-oldest : (past : Past) (i : ℕ) → is_waiting (fate_of past 0 i) ≡ false → is_index i (slice_get (waiting past 0) 0) ≡ false
not-oldest past i none = by (slice_get (waiting past 0) 0) refl where
  by : (o : Option ℕ) → slice_get (waiting past 0) 0 ≡ o → is_index i o ≡ false
  by None is = refl
  by (Some j) is = false_from_ne_true (j == i) (λ same.
      let waits : is_waiting (fate_of past 0 i) ≡ true = (in-waits past 0 i (subst (λ (z : ℕ). IsIn z (waiting past 0)) (eqb-true j i same) (in-first j (waiting past 0) is))).1 in cc)

-- an event aborts a place
abbrev is_abort : Event → Bool
is_abort (Abort region index) = true
is_abort e = false

-- the first of some events does
abbrev abort_first : Past → Bool
abort_first [] = false
abort_first (e ∷ []) = is_abort e
abort_first (e ∷ f ∷ later) = abort_first (f ∷ later)

-- an event is no pick of a place that doesn't wait
not-just_picked : (f : Event) (past : Past) (i : ℕ) → is_waiting (fate_of past 0 i) ≡ false → is_index i (just_picked (f ∷ past)) ≡ false
not-just_picked (event.Pick seen pick) past i none = by (pick.qid == 0) where
  by : (b : Bool) → is_index i (if b then slice_get (waiting past 0) 0 else None) ≡ false
  by true = not-oldest past i none
  by false = refl
not-just_picked f past i none = refl

-- after the pick of an admin command
module _ (rules : FrontRules) (before : Past) (seen : List Seen) (pick : Pick) (i : ℕ) (admin : pick.qid ≡ 0) (oldest : slice_get (waiting before 0) 0 ≡ Some i)
    (taken : is_waiting (fate_of (event.Pick seen pick ∷ before) 0 i) ≡ false) where
  -- the table before its command is that at the pick
  table-at : (later : Past) → table_before rules (later ++ event.Pick seen pick ∷ before) i ≡ table_history rules before
  table-at [] =
      let first : is_index i (slice_get (waiting before 0) 0) ≡ true = ap (is_index i) oldest ∙ eq-eqb i i refl in
      ap (λ (b : Bool). if b then table_history rules before else table_before rules before i)
      (and_from (pick.qid == 0) (is_index i (slice_get (waiting before 0) 0)) (eq-eqb pick.qid 0 admin) first)
  table-at (event.Pick s p ∷ later) =
      let past : Past = later ++ event.Pick seen pick ∷ before in
      let none = not-oldest past i (stays_on later (event.Pick seen pick ∷ before) 0 i taken) in
      ap (λ (b : Bool). if b then table_history rules past else table_before rules past i)
      (and_right (p.qid == 0) (is_index i (slice_get (waiting past 0) 0)) none)
      ∙ table-at later
  table-at (e ∷ later) = table-at later

  -- the pick takes the place
  it-is_taken : is_index i (just_picked (event.Pick seen pick ∷ before)) ≡ true
  it-is_taken =
      ap (λ (b : Bool). is_index i (if b then slice_get (waiting before 0) 0 else None)) (eq-eqb pick.qid 0 admin) ∙ ap (is_index i) oldest ∙ eq-eqb i i refl

  -- an abort follows the pick where the first event after it is one
  found-at : (later : Past) → has_aborted (later ++ event.Pick seen pick ∷ before) i ≡ abort_first later
  found-at [] = ap (λ (b : Bool). if b then false else has_aborted before i) it-is_taken
  found-at (event.Pick s p ∷ []) =
      let past : Past = event.Pick seen pick ∷ before in
      ap (λ (b : Bool). if b then false else has_aborted past i) (not-just_picked (event.Pick s p) past i taken) ∙ found-at []
  found-at (event.Pick s p ∷ f ∷ later) =
      let past : Past = f ∷ later ++ event.Pick seen pick ∷ before in
      let none = not-just_picked (event.Pick s p) past i (stays_on (f ∷ later) (event.Pick seen pick ∷ before) 0 i taken) in
      ap (λ (b : Bool). if b then false else has_aborted past i) none ∙ found-at (f ∷ later)
  found-at (Abort region index ∷ []) = ap (λ (b : Bool). b || has_aborted (event.Pick seen pick ∷ before) i) it-is_taken
  found-at (Abort region index ∷ f ∷ later) =
      let past : Past = later ++ event.Pick seen pick ∷ before in
      let none = not-just_picked f past i (stays_on later (event.Pick seen pick ∷ before) 0 i taken) in
      ap (λ (b : Bool). b || has_aborted (f ∷ past) i) none ∙ found-at (f ∷ later)
  found-at (e ∷ []) = found-at []
  found-at (e ∷ f ∷ later) = found-at (f ∷ later)

-- where an abort is the first event
abort_first-last : (rest : Past) (e : Event) → abort_first (rest ++ e ∷ []) ≡ is_abort e
abort_first-last [] e = refl
abort_first-last (x ∷ []) e = refl
abort_first-last (x ∷ y ∷ rest) e = abort_first-last (y ∷ rest) e

abort_first-later : (rest : Past) (e : Event) (past : Past) → abort_first (rest ++ e ∷ past) ≡ abort_first (e ∷ past)
abort_first-later [] e past = refl
abort_first-later (x ∷ []) e past = refl
abort_first-later (x ∷ y ∷ rest) e past = abort_first-later (y ∷ rest) e past

abort_first-post : (c r i : ℕ) (cqe : Cqe) (past : Past) → abort_first (Post c r i cqe ∷ past) ≡ abort_first past
abort_first-post c r i cqe [] = refl
abort_first-post c r i cqe (f ∷ past) = refl

first-abort : (later : Past) → abort_first later ≡ true → (rest : Past) × (r : ℕ) × (i : ℕ) × (later ≡ rest ++ Abort r i ∷ [])
first-abort [] h = cc h
first-abort (Abort region index ∷ []) h = ([], region, index, refl)
first-abort (e ∷ []) h = cc h
first-abort (e ∷ f ∷ later) h = let it = first-abort (f ∷ later) h in (e ∷ it.0, it.1, it.2, ap (λ (z : Past). e ∷ z) it.3)

-- the entry of a place stays
pub entry-stays : (xs ys : List Sqe) (i : ℕ) (x : Sqe) → slice_get xs i ≡ Some x → slice_get (xs ++ ys) i ≡ Some x
entry-stays [] ys i x h = cc h
entry-stays (y ∷ xs) ys zero x h = h
entry-stays (y ∷ xs) ys (suc i) x h = entry-stays xs ys i x h

pub entry-later : (later past : Past) (r i : ℕ) (entry : Sqe) → entry_at past r i ≡ Some entry → entry_at (later ++ past) r i ≡ Some entry
entry-later later past r i entry h =
    let p = fetched-after later past r in
    ap (λ (z : List Sqe). slice_get z i) (sym p.1) ∙ entry-stays (fetched past r) p.0 i entry h

-- the status of a command is that of its verdict
status-of : (start : Start) (h : TableHistory) (entry : Sqe) → status_in (verdict_of start h entry) ≡ status_of start h entry
unfolding verdict_of
status-of start h entry = status_in-verdict (status_of start h entry) (queue_table start (EntryApplied entry ∷ h)) (admin_command_of entry)

-- the completion of an Abort command
told-found : (rules : FrontRules) (answer : Sqe → Answer) (earlier before between : Past) (seen : List Seen) (pick : Pick) (i sqid cid c : ℕ) (cqe : Cqe)
    → earlier ≡ between ++ event.Pick seen pick ∷ before → Each (EffectsAtOnce rules) earlier → Each TakesSome earlier
    → TakesCommand rules before pick i (verdict.Abort sqid cid) → IsOwnBy rules answer earlier c 0 i cqe
    → (cqe.status ≡ success) × (cqe.dw0 ≡ (if abort_first between then 0 else 1))
told-found rules answer earlier before between seen pick i sqid cid c cqe is effects some t own =
    let after : Past = event.Pick seen pick ∷ before in
    let turn : Each (EffectsAtOnce rules) after = Each-after (EffectsAtOnce rules) between after (subst (Each (EffectsAtOnce rules)) is effects) in
    let takes : Each TakesSome after = Each-after TakesSome between after (subst (Each TakesSome) is some) in
    let taken = admin-taken rules before seen pick i turn.1 takes.0 t.of_admin t.oldest in
    let table : table_before rules earlier i ≡ table_history rules before = ap (λ (z : Past). table_before rules z i) is ∙ table-at rules before seen pick i t.of_admin t.oldest taken between in
    let found : has_aborted earlier i ≡ abort_first between = ap (λ (z : Past). has_aborted z i) is ∙ found-at rules before seen pick i t.of_admin t.oldest taken between in
    let there : entry_at earlier 0 i ≡ Some t.entry = ap (λ (z : Past). entry_at z 0 i) is ∙ entry-later between after 0 i t.entry t.is_there in
    let same : own.entry ≡ t.entry = same_Some own.entry t.entry (sym own.is_there ∙ there) in
    let alone : is_aborted earlier 0 i ≡ false = false_from_ne_true (is_aborted earlier 0 i) (λ a. admin-unaborted rules earlier effects i a) in
    let status : own_status_by rules (answer own.entry) earlier 0 i own.entry ≡ status_of rules.start (table_before rules earlier i) own.entry = rw alone refl in
    let dw0 : own_dw0_by rules (answer own.entry) earlier 0 i own.entry ≡ admin_dw0 rules earlier i own.entry = rw alone refl in
    let comes : verdict_of rules.start (table_before rules earlier i) own.entry ≡ verdict.Abort sqid cid =
    (λ j. verdict_of rules.start (table j) (same j)) ∙ t.comes_to in (
      own.status ∙ status ∙ sym (status-of rules.start (table_before rules earlier i) own.entry) ∙ ap status_in comes,
      own.dw0 ∙ dw0
          ∙ (λ j. told_dw0 (found j) (comes j) (dw0_of rules.start (table_before rules earlier i) own.entry)),
    )

pub aborts_are_told_by : (rules : FrontRules) (executor : Executor) (sent : ℕ → List Sqe) (past : Past) (collected : ℕ → List Cqe)
    → IsAccountBy rules executor sent past collected
    → (later before : Past) (seen : List Seen) (pick : Pick) (i sqid cid : ℕ) → past ≡ later ++ event.Pick seen pick ∷ before
    → TakesCommand rules before pick i (verdict.Abort sqid cid)
    → (rest earlier : Past) (c : ℕ) (cqe : Cqe) → past ≡ rest ++ event.Post c 0 i cqe ∷ earlier → TellsFound later cqe
aborts_are_told_by rules executor sent past collected h later before seen pick i sqid cid is t rest earlier c cqe posted =
    elim (cuts later before rest earlier (event.Pick seen pick) (Post c 0 i cqe) (sym is ∙ posted)) [
      | inl it ↦
          let told = told-found rules (executor (place_at 0 i)) earlier before it.between seen pick i sqid cid c cqe it.right effects.1 some.1 t own.0.2 in
          let same : abort_first later ≡ abort_first it.between = ap abort_first it.left ∙ abort_first-later rest (Post c 0 i cqe) it.between ∙ abort_first-post c 0 i cqe it.between in
          record {
            status = told.0;
            found = λ rest r j cut.
                let yes : abort_first it.between ≡ true = sym same ∙ ap abort_first cut ∙ abort_first-last rest (Abort r j) in
                told.1 ∙ ap (λ (b : Bool). if b then 0 else 1) yes;
            none = λ no.
                let none : abort_first it.between ≡ false = false_from_ne_true (abort_first it.between) (λ yes.
                let first = first-abort later (same ∙ yes) in no first.0 first.1 first.2 first.3) in
                told.1 ∙ ap (λ (b : Bool). if b then 0 else 1) none;
          }
      | inr (inl e) ↦ absurd (cc e)
      | inr (inr it) ↦
          let none : is_waiting (fate_of before 0 i) ≡ false =
          subst (λ (z : Past). is_waiting (fate_of z 0 i) ≡ false) (sym it.right)
          (stays_on it.between (Post c 0 i cqe ∷ earlier) 0 i (stays (Post c 0 i cqe) earlier 0 i own.0.1)) in
          let waits = (in-waits before 0 i (in-first i (waiting before 0) t.oldest)).1 in
          absurd (let no : is_waiting (fate_of before 0 i) ≡ true = waits in cc)
    ] where
      effects : Each (EffectsAtOnce rules) (Post c 0 i cqe ∷ earlier)
      effects = Each-after (EffectsAtOnce rules) rest (Post c 0 i cqe ∷ earlier) (subst (Each (EffectsAtOnce rules)) posted h.effects_at_once)

      some : Each TakesSome (Post c 0 i cqe ∷ earlier)
      some = Each-after TakesSome rest (Post c 0 i cqe ∷ earlier) (subst (Each TakesSome) posted (picks-take_some rules.mechanism rules.start.settings past h.lawful))

      own : Each (PostsOwnBy rules executor) (Post c 0 i cqe ∷ earlier)
      own = Each-after (PostsOwnBy rules executor) rest (Post c 0 i cqe ∷ earlier) (subst (Each (PostsOwnBy rules executor)) posted h.posts_own)

pub aborts_are_told : AbortsAreTold
aborts_are_told rules = aborts_are_told_by rules (by_outcome rules)
