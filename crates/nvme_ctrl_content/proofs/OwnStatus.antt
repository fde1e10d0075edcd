-- The own status of a place that doesn't wait stays, and that of a picked admin command is what its verdict answers.
use Rattle.std.proofs.Common.{◌≡◌, ℕ, zero, suc, ◌+◌, ◌<◌, ◌≤◌, ◌==◌, ◌&&◌, not, nat_lt, Bool, true, false, if◌then◌else◌, List, [], ◌∷◌, ◌++◌, length, map, Option, Some, None, refl, sym, ap, ◌∙◌, arith, inl, inr, eqb-true, eq-eqb, get_or}
use Rattle.std.specs.Prelude.{slice_get, All}
use Rattle.std.proofs.lemmas.Bool.{cases_lt, and_parts, not-true, and_from, or_left, or_right, false_from_ne_true}
use Rattle.std.proofs.lemmas.List.Elements.{All-nil, All-cons, All-head, All-tail, All-append, All-same}
use Rattle.std.proofs.lemmas.List.Sums.{get_or-le-sum_by}
use Rattle.nvme_entry.specs.Status.{StatusCode, success, abort_requested, aborted_by_deletion}
use Rattle.nvme_entry.specs.AdminCommand.{admin_command_of}
use Rattle.nvme_entry.specs.declared.submission.Sqe.{Sqe}
use Rattle.nvme_entry.specs.declared.admin.AdminCommand.{AdminCommand}
use Rattle.nvme_entry.specs.declared.admin.AdminCommand.TheVariants.{DeleteSq, CreateSq, DeleteCq, CreateCq, Abort, SetFeatures, GetFeatures, Other}
use Rattle.nvme_arbiter.specs.Settings.{ArbitrationFields}
use Rattle.nvme_admin.specs.declared.verdict.SqEntry.{SqEntry}
use Rattle.nvme_admin.specs.History.{Start, TableHistory, EntryApplied}
use Rattle.nvme_admin.specs.QueueTable.{QueueTable, number_of_queues}
use Rattle.nvme_admin.specs.Accepted.{queue_table, status_of, dw0_of, verdict_of}
use Rattle.nvme_admin.specs.declared.verdict.Verdict.TheVariants.{Done}
use Rattle.nvme_admin.specs.declared.verdict.Verdict.TheVariants as verdict
use Rattle.nvme_admin.specs.Checks.{is_success, numbers_dw0, dw0_after, verdict_after, opened_sq, opened_cq, status_in, dw0_in}
use Rattle.nvme_log.specs.declared.event.Event.TheVariants as event
use Rattle.nvme_ctrl_content.specs.Content.{Candidate, Ready, SqContent, CqContent, Content}
use Rattle.nvme_log.specs.Rules.{Past, FrontRules}
use Rattle.nvme_log.specs.Answers.{Answer}
use Rattle.nvme_log.specs.Places.{fetched, waiting, WasAborted, WasPicked, Waits, fate_of, is_waiting, is_aborted, unaborted_below, picked, Fate, one_if, is_served}
use Rattle.nvme_log.specs.declared.place.Place.{Place}
use Rattle.nvme_log.specs.Completions.{is_posted, posts_of, own_status_by, own_dw0_by}
use Rattle.nvme_ctrl_content.specs.Standing.{times_in, times_held, times_ready, HoldsSq, HoldsReady, HasOwnStatus, answer_in}
use Rattle.nvme_ctrl_log.specs.Regions.{over_regions}
use Rattle.nvme_log.proofs.Posts.{posts_of-some}
use Rattle.nvme_ctrl_log.proofs.LaterEvents.{with_events}
use Rattle.nvme_ctrl_content.proofs.AfterSteps.{with_readies}
use Rattle.nvme_log.specs.Aborts.{told_dw0}
use Rattle.nvme_ctrl_log.proofs.AbortsLeave.{Stays, waiting_wait}

-- ---- the own status of a place
-- a choice with the same test and the same first result, whose inner result is the same where it is asked for
same_choice : {A : Type 0} (b c z : Bool) (x w p q y : A) → c ≡ b → w ≡ x → (z ≡ true → q ≡ p) → (if c then w else (if z then q else y)) ≡ (if b then x else (if z then p else y))
same_choice true true z x w p q y e f h = f
same_choice false false true x w p q y e f h = h refl
same_choice false false false x w p q y e f h = refl
same_choice true false z x w p q y e f h = cc
same_choice false true z x w p q y e f h = cc

-- the status of a place that stays so is the same
pub own_status-stays : (rules : FrontRules) (answer : Answer) (past later : Past) (r i : ℕ) (entry : Sqe) → Stays rules past later r i
    → own_status_by rules answer later r i entry ≡ own_status_by rules answer past r i entry
own_status-stays rules answer past later r i entry h =
    same_choice (is_aborted past r i) (is_aborted later r i) (r == 0) _ _ _ _ _ h.aborted
    (ap (λ (b : Bool). if b then abort_requested else aborted_by_deletion) h.requested)
    (λ zero. ap (λ (t : TableHistory). status_of rules.start t entry) (h.table (eqb-true r 0 zero)))

-- so is its Dword 0
pub own_dw0-stays : (rules : FrontRules) (answer : Answer) (past later : Past) (r i : ℕ) (entry : Sqe) → Stays rules past later r i
    → own_dw0_by rules answer later r i entry ≡ own_dw0_by rules answer past r i entry
own_dw0-stays rules answer past later r i entry h =
    same_choice (is_aborted past r i) (is_aborted later r i) (r == 0) _ _ _ _ _ h.aborted refl
    (λ zero.
    let told = h.told (eqb-true r 0 zero) in
    let table = h.table (eqb-true r 0 zero) in
    (λ t. told_dw0 (told t) (verdict_of rules.start (table t) entry) (dw0_of rules.start (table t) entry)))

-- a ready completion keeps the status of its place in a later log
pub HasOwnStatus-stays : (rules : FrontRules) (past later : Past) (t : Ready) → Stays rules past later t.place.region t.place.index
    → HasOwnStatus rules past t → HasOwnStatus rules later t
HasOwnStatus-stays rules past later t s own carried = let h = own carried in record {
  entry = h.entry;
  is_there = s.there h.entry h.is_there;
  status = h.status ∙ sym (own_status-stays rules (answer_in t) past later t.place.region t.place.index h.entry s);
  dw0 = h.dw0 ∙ sym (own_dw0-stays rules (answer_in t) past later t.place.region t.place.index h.entry s);
}

-- ---- what is ready in a completion region
-- what holds of all that is ready in two regions holds of all in one of them
pub all_chosen : (P : Ready → Type 0) (b : Bool) (s u : CqContent) → All P s.ready → All P u.ready → All P (if b then s else u).ready
all_chosen P true s u p q = p
all_chosen P false s u p q = q

-- what holds of all that is ready, and of what is made ready
pub all_with_readies : (P : Ready → Type 0) (k : Content) (c : ℕ) (ts : List Ready) → ((x : ℕ) → All P (k.cq x).ready) → All P ts
    → (x : ℕ) → All P ((with_readies k c ts).cq x).ready
all_with_readies P k c ts h new x =
    all_chosen P (x == c) (record (k.cq c) { ready = (k.cq c).ready ++ ts }) (k.cq x) (All-append P (k.cq c).ready ts (h c) new) (h x)

-- one of some completion regions is at most all of them
over_regions-at : (f : ℕ → ℕ) (n c : ℕ) → c < n → f c ≤ over_regions f n
unfolding over_regions
over_regions-at f zero c h = absurd (omega arith)
over_regions-at f (suc n) c h = elim (cases_lt c n) [
  | inl below ↦ omega (arith, over_regions-at f n c below)
  | inr from ↦ let same : c ≡ n = omega arith in rw same (omega arith)
]

-- of a ready completion: its place was picked or aborted, has no completion posted, and isn't in hand
pub record IsAnswerable (past : Past) (hand : List Place) (r i : ℕ) : Type 0 where
  pub served : is_served past r i ≡ true
  pub no_posts : posts_of past r i ≡ 0
  pub not_held : times_held r i hand ≡ 0

-- of numbers that are together one if a test passes, the first at least one
only_first : (a b c : ℕ) (served : Bool) → 1 ≤ a → a + b + c ≡ one_if served → (served ≡ true) × (b ≡ 0) × (c ≡ 0)
only_first a b c true h e = (refl, omega arith, omega arith)
only_first a b c false h e = absurd (omega arith)

-- a place stands where its region and index are
pub same_place : (r i : ℕ) → one_if (r == r && i == i) ≡ 1
same_place r i = rw (eq-eqb r r refl, eq-eqb i i refl) refl

-- each place that is ready is one to answer
pub ready_is_answerable : (past : Past) (k : Content) (hand : List Place) → HoldsReady past k hand
    → (c : ℕ) → All (λ (t : Ready). IsAnswerable past hand t.place.region t.place.index) (k.cq c).ready
ready_is_answerable past k hand h c j d lt = elim (cases_lt c k.ncq) [
  | inl below ↦
      let t : Ready = get_or (k.cq c).ready j d in
      let once = h.once t.place.region t.place.index in
      let among = over_regions-at (λ (x : ℕ). times_in t.place.region t.place.index (k.cq x).ready) k.ncq c below in
      let here = get_or-le-sum_by (λ (x : Ready). one_if (x.place.region == t.place.region && x.place.index == t.place.index)) (k.cq c).ready j d lt in
      let first : 1 ≤ times_ready k t.place.region t.place.index = omega (arith, among, here, same_place t.place.region t.place.index) in
      let parts = only_first (times_ready k t.place.region t.place.index) (posts_of past t.place.region t.place.index) (times_held t.place.region t.place.index hand) (is_served past t.place.region t.place.index) first once in
      record { served = parts.0; no_posts = parts.1; not_held = parts.2 }
  | inr beyond ↦ let none = ap (λ (xs : List Ready). length xs) (h.none_beyond c beyond) in absurd (omega (arith, none, lt))
]

-- such a place doesn't wait
pub answerable_is_done : (past : Past) (hand : List Place) (r i : ℕ) → IsAnswerable past hand r i → is_waiting (fate_of past r i) ≡ false
answerable_is_done past hand r i h = not-true (is_waiting (fate_of past r i)) (and_parts (nat_lt i (length (fetched past r))) (not (is_waiting (fate_of past r i))) h.served).1

-- nor is anything posted of it
pub answerable_is_unposted : (past : Past) (hand : List Place) (r i : ℕ) → IsAnswerable past hand r i → is_posted past r i ≡ false
answerable_is_unposted past hand r i h = false_from_ne_true (is_posted past r i) (λ p. absurd (omega (arith, posts_of-some past r i p, h.no_posts)))

-- ---- candidates
-- an aborted place doesn't wait
pub waiting_is_unaborted : (past : Past) (r i : ℕ) → is_waiting (fate_of past r i) ≡ true → is_aborted past r i ≡ false
waiting_is_unaborted past r i h = clear (is_aborted past r i) (if nat_lt (unaborted_below past r i) (picked past r) then WasPicked else Waits) h where
  clear : (b : Bool) (f : Fate) → is_waiting (if b then WasAborted else f) ≡ true → b ≡ false
  clear true f e = cc e
  clear false f e = refl

-- what holds of each item as a function maps it
pub All-unmap : {A B : Type 0} (P : B → Type 0) (f : A → B) (xs : List A) → All P (map f xs) → All (λ (x : A). P (f x)) xs
All-unmap {A = A} P f [] h = All-nil (λ (x : A). P (f x))
All-unmap {A = A} P f (x ∷ xs) h = All-cons (λ (y : A). P (f y)) x xs (All-head P (f x) (map f xs) h) (All-unmap P f xs (All-tail P (f x) (map f xs) h))

-- each candidate of a window waits
pub candidates_wait : (past : Past) (r : ℕ) (s : SqContent) → HoldsSq past r s
    → All (λ (c : Candidate). is_waiting (fate_of past r c.index) ≡ true) s.window
candidates_wait past r s h =
    All-unmap (λ (i : ℕ). is_waiting (fate_of past r i) ≡ true) (λ (c : Candidate). c.index) s.window
    (All-same (λ (i : ℕ). is_waiting (fate_of past r i) ≡ true) (map (λ (c : Candidate). c.index) s.window) (waiting past r) (sym h.waiting_is) (waiting_wait past r))

-- the oldest candidate is the first place that waits
pub oldest_waits : (past : Past) (r : ℕ) (s : SqContent) (c : Candidate) (rest : List Candidate) → HoldsSq past r s → s.window ≡ c ∷ rest
    → slice_get (waiting past r) 0 ≡ Some c.index
oldest_waits past r s c rest h w = rw (h.waiting_is, w) refl

-- an aborted place stays aborted
aborts_keep : (r x i : ℕ) (is : List ℕ) (past : Past) → is_aborted past x i ≡ true
    → is_aborted (with_events (map (λ (j : ℕ). event.Abort r j) is) past) x i ≡ true
aborts_keep r x i [] past h = h
aborts_keep r x i (j ∷ is) past h = aborts_keep r x i is (event.Abort r j ∷ past) (or_right (r == x && j == i) (is_aborted past x i) h)

-- all those that are aborted
pub aborts_all : (r : ℕ) (is : List ℕ) (past : Past)
    → All (λ (i : ℕ). is_aborted (with_events (map (λ (j : ℕ). event.Abort r j) is) past) r i ≡ true) is
aborts_all r [] past = All-nil (λ (i : ℕ). is_aborted past r i ≡ true)
aborts_all r (j ∷ is) past =
    All-cons (λ (i : ℕ). is_aborted (with_events (map (λ (j : ℕ). event.Abort r j) is) (event.Abort r j ∷ past)) r i ≡ true) j is
    (aborts_keep r r j is (event.Abort r j ∷ past) (or_left (r == r && j == j) (is_aborted past r j) (and_from (r == r) (j == j) (eq-eqb r r refl) (eq-eqb j j refl))))
    (aborts_all r is (event.Abort r j ∷ past))

-- ---- verdicts
-- what counts as success is success
success_is : (status : StatusCode) → is_success status ≡ true → status ≡ success
success_is status h =
    let parts = and_parts (status.sct == 0) (status.sc == 0) h in
    λ i. record { sct = (eqb-true status.sct 0 parts.0) i; sc = (eqb-true status.sc 0 parts.1) i }

-- the verdict of a Create answers success, with 0
opened_sq-answers : (qid : ℕ) (o : Option SqEntry) → (status_in (opened_sq qid o) ≡ success) × (dw0_in (opened_sq qid o) ≡ 0)
opened_sq-answers qid None = (refl, refl)
opened_sq-answers qid (Some queue) = (refl, refl)

-- that of a Create of a completion queue too
opened_cq-answers : (qid : ℕ) (o : Option ℕ) → (status_in (opened_cq qid o) ≡ success) × (dw0_in (opened_cq qid o) ≡ 0)
opened_cq-answers qid None = (refl, refl)
opened_cq-answers qid (Some region) = (refl, refl)

-- that of a Set Features answers success, with the numbers of queues where it asks for them
set-answers : (b : Bool) (numbers dw0 : ℕ) (settings : ArbitrationFields) → numbers ≡ (if b then dw0 else 0)
    → (status_in (if b then Done success numbers else verdict.SetArbitration settings) ≡ success)
    × (dw0_in (if b then Done success numbers else verdict.SetArbitration settings) ≡ (if b then dw0 else 0))
set-answers true numbers dw0 settings e = (refl, e)
set-answers false numbers dw0 settings e = (refl, refl)

-- an accepted command is answered with success and its Dword 0
accepted-answers : (t : QueueTable) (command : AdminCommand)
    → (status_in (verdict_after t command) ≡ success) × (dw0_in (verdict_after t command) ≡ dw0_after t command)
accepted-answers t (CreateSq qid qsize prp1 cqid qprio pc) = opened_sq-answers qid (t.sq qid)
accepted-answers t (CreateCq qid qsize prp1 pc) = opened_cq-answers qid (t.cq qid)
accepted-answers t (DeleteSq qid) = (refl, refl)
accepted-answers t (DeleteCq qid) = (refl, refl)
accepted-answers t (Abort sqid cid) = (refl, refl)
accepted-answers t (SetFeatures fid sv cdw11) = set-answers (fid == number_of_queues) (dw0_after t (SetFeatures fid sv cdw11)) (numbers_dw0 t) t.settings refl
accepted-answers t (GetFeatures fid) = (refl, refl)
accepted-answers t Other = (refl, refl)

-- a command of a status is answered with that status, and its Dword 0
status-answers : (b : Bool) (status : StatusCode) (t : QueueTable) (command : AdminCommand) → (b ≡ true → status ≡ success)
    → (status_in (if b then verdict_after t command else Done status 0) ≡ status)
    × (dw0_in (if b then verdict_after t command else Done status 0) ≡ (if b then dw0_after t command else 0))
status-answers true status t command h = let answer = accepted-answers t command in (answer.0 ∙ sym (h refl), answer.1)
status-answers false status t command h = (refl, refl)

-- a verdict answers the status of its entry
pub verdict_answers_status : (start : Start) (h : TableHistory) (entry : Sqe) → status_in (verdict_of start h entry) ≡ status_of start h entry
unfolding verdict_of
verdict_answers_status start h entry =
    (status-answers (is_success (status_of start h entry)) (status_of start h entry) (queue_table start (EntryApplied entry ∷ h)) (admin_command_of entry) (success_is (status_of start h entry))).0

-- and its Dword 0
pub verdict_answers_dw0 : (start : Start) (h : TableHistory) (entry : Sqe) → dw0_in (verdict_of start h entry) ≡ dw0_of start h entry
unfolding verdict_of dw0_of
verdict_answers_dw0 start h entry =
    (status-answers (is_success (status_of start h entry)) (status_of start h entry) (queue_table start (EntryApplied entry ∷ h)) (admin_command_of entry) (success_is (status_of start h entry))).1
