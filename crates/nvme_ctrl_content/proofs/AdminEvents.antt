-- An admin pick with what its command makes: each event is lawful, and what is ready has the own status of its place.
use Rattle.std.proofs.Common.{◌≡◌, ℕ, ◌+◌, ◌==◌, ◌||◌, Bool, true, false, if◌then◌else◌, List, [], ◌∷◌, map, length, get_or, Option, Some, None, refl, sym, ap, ◌∙◌, subst, eqb-true, eq-eqb}
use Rattle.std.specs.Prelude.{slice_get, All}
use Rattle.std.proofs.lemmas.Bool.{false_from_ne_true, ne_eqb, cond-true}
use Rattle.std.proofs.lemmas.Option.{same_Some}
use Rattle.std.proofs.lemmas.List.Elements.{All-nil, All-cons, All-head, All-map, All-same}
use Rattle.nvme_entry.specs.declared.submission.Sqe.{Sqe}
use Rattle.nvme_arbiter.specs.Board.{BoardView}
use Rattle.nvme_arbiter.specs.declared.pick.Pick.{Pick}
use Rattle.nvme_arbiter.specs.declared.pick.Seen.{Seen}
use Rattle.nvme_admin.specs.History.{TableHistory}
use Rattle.nvme_admin.specs.Accepted.{queue_table, verdict_of, status_of, dw0_of}
use Rattle.nvme_admin.specs.Changes.{IsDue}
use Rattle.nvme_admin.specs.Checks.{status_in, dw0_in}
use Rattle.nvme_admin.specs.declared.verdict.Verdict.{Verdict}
use Rattle.nvme_admin.specs.declared.verdict.Verdict.TheVariants.{Done, BeginDelete, CloseCq}
use Rattle.nvme_admin.specs.declared.verdict.Verdict.TheVariants as verdict
use Rattle.nvme_admin.proofs.Changed.{TellsChange-entry}
use Rattle.nvme_log.specs.declared.event.Event.{Event}
use Rattle.nvme_log.specs.declared.event.Event.TheVariants.{Closing, Abort}
use Rattle.nvme_log.specs.declared.event.Event.TheVariants as event
use Rattle.nvme_ctrl_content.specs.Content.{Candidate, Ready, PendingDelete, SqContent, Content, with_sq}
use Rattle.nvme_log.specs.Rules.{Past, FrontRules}
use Rattle.nvme_log.specs.Queues.{Queue, admin_queue, open_sq}
use Rattle.nvme_log.specs.Places.{fetched, waiting, entry_at, fate_of, is_waiting, is_aborted}
use Rattle.nvme_log.specs.Dispatches.{place_at}
use Rattle.nvme_log.specs.Histories.{table_history, admin_entry}
use Rattle.nvme_log.specs.Answers.{Answer}
use Rattle.nvme_log.specs.Completions.{table_before, own_status_by, own_dw0_by}
use Rattle.nvme_log.specs.Effects.{closing_of, made_by, made_of, made_last, EffectsAtOnce, abort_in, target_of}
use Rattle.nvme_log.specs.Account.{IndexCounts, ServedWhileOpen}
use Rattle.nvme_ctrl_log.specs.Deletions.{FollowsDeletions}
use Rattle.nvme_ctrl_content.specs.Standing.{HoldsSq, HasOwnStatus, IsOwnDeletion, Holds, hand_of, answer_in, deleted_answer}
use Rattle.nvme_ctrl_content.specs.Steps.{verdict_at, applied_to, aborted, oldest_named, without_oldest, requested}
use Rattle.nvme_ctrl_log.proofs.LaterEvents.{with_events}
use Rattle.nvme_ctrl_content.proofs.AfterSteps.{answered, with_opened, deleting_from, after_admin, told_abort, with_requested, aborting_in, aborting_from}
use Rattle.nvme_ctrl_content.proofs.StepKeeps.{KeepsAdmin, Own, NextAdmin}
use Rattle.nvme_ctrl_log.proofs.AbortsLeave.{Stays, waiting_wait}
use Rattle.nvme_ctrl_content.proofs.OwnStatus.{all_with_readies, ready_is_answerable, answerable_is_done, waiting_is_unaborted, candidates_wait, oldest_waits, All-unmap, aborts_all, verdict_answers_status, verdict_answers_dw0}
use Rattle.nvme_ctrl_content.proofs.OwnSteps.{statuses_stay, deletion_stays}
use Rattle.nvme_ctrl_content.proofs.OpenQueues.{not_closed_region, io_region}
use Rattle.nvme_ctrl_content.proofs.DeletedQueues.{undeleted_region, undeleted_queue, deletion_done}
use Rattle.nvme_ctrl_content.proofs.DeletingRegions.{Here, Elsewhere, is_put}
use Rattle.nvme_ctrl_log.specs.Next.{IsNext, EachNext}
use Rattle.nvme_ctrl_log.proofs.EffectEvents.{next_effects, made_are_effects, index_of_effect, effect_is_served, effects_come_at_once, effects_are_whole, effects_leave_fetched, effects_leave_table, made_delete, made_leave_done, made_leave_requests, effects_leave_told, made_leave_region}
use Rattle.nvme_log.specs.Aborts.{is_index, is_abort_entry, is_abort_requested, took_abort, just_picked, has_aborted, told_dw0}
use Rattle.nvme_log.proofs.AbortEntries.{verdict_is_abort, verdict_is_delete}
use Rattle.nvme_ctrl_log.proofs.AbortRequests.{unrequested, took_pick, requests-aborts}
use Rattle.nvme_ctrl_content.proofs.Named.{found_is, made_abort, made_none}
use Rattle.nvme_ctrl_log.proofs.AbortTargets.{target_is}

-- of the oldest admin candidate at its pick, and of what its verdict is: what follows from what stood before
record IsPicked (rules : FrontRules) (past mid : Past) (candidate : Candidate) (v : Verdict) : Type 0 where
  -- the pick leaves the places
  same_fetched : (r : ℕ) → fetched mid r ≡ fetched past r
  same_aborted : (r i : ℕ) → is_aborted mid r i ≡ is_aborted past r i
  same_requests : (r i : ℕ) → is_abort_requested mid r i ≡ is_abort_requested past r i
  -- a place that doesn't wait keeps the table history at its pick
  same_table : (i : ℕ) → is_waiting (fate_of past 0 i) ≡ false → table_before rules mid i ≡ table_before rules past i
  same_told : (i : ℕ) → is_waiting (fate_of past 0 i) ≡ false → has_aborted mid i ≡ has_aborted past i
  apart : (i : ℕ) → is_waiting (fate_of past 0 i) ≡ false → is_index i (just_picked mid) ≡ false
  -- the candidate was just picked, and nothing is told of it
  just : is_index candidate.index (just_picked mid) ≡ true
  untold : has_aborted mid candidate.index ≡ false
  -- the candidate waits, and its command is answered by the verdict
  entry : entry_at past 0 candidate.index ≡ Some candidate.entry
  waits : is_waiting (fate_of past 0 candidate.index) ≡ true
  status : status_of rules.start (table_before rules mid candidate.index) candidate.entry ≡ status_in v
  dw0 : dw0_of rules.start (table_before rules mid candidate.index) candidate.entry ≡ dw0_in v
  verdict_is : verdict_of rules.start (table_before rules mid candidate.index) candidate.entry ≡ v
  -- the pick took an Abort command where the verdict is that of one, and none where it is that of a Delete
  took : (sqid cid : ℕ) → v ≡ verdict.Abort sqid cid → took_abort mid ≡ true
  took_none : (qid : ℕ) → v ≡ BeginDelete qid → took_abort mid ≡ false
  -- its command makes what the verdict makes
  made : made_last rules mid ≡ made_by past v
  -- a queue that it deletes isn't the admin queue
  not_admin : (qid : ℕ) (queue : Queue) → v ≡ BeginDelete qid → open_sq past qid ≡ Some queue → queue.region ≡ 0 → ⊥
  -- nor is one whose candidates it may abort
  not_target : (sqid : ℕ) (queue : Queue) → target_of past sqid ≡ Some queue → queue.region ≡ 0 → ⊥

-- the oldest admin candidate is picked
is_picked : (rules : FrontRules) (late : Bool) (past : Past) (k : Content) (seen : List Seen) (pick : Pick) (candidate : Candidate) (rest : List Candidate)
    → (s : Holds rules late past k) → late ≡ false → pick.qid ≡ 0 → (k.sq 0).window ≡ candidate ∷ rest
    → IsPicked rules past (event.Pick seen pick ∷ past) candidate (verdict_at rules s.tabled.history candidate)
is_picked rules late past k seen pick candidate rest s on_time first oldest =
    let is_first : (pick.qid == 0) ≡ true = eq-eqb pick.qid 0 first in
    let front : slice_get (waiting past 0) 0 ≡ Some candidate.index = oldest_waits past 0 (k.sq 0) candidate rest (s.regions 0) oldest in
    let waits : is_waiting (fate_of past 0 candidate.index) ≡ true =
    All-head (λ (c : Candidate). is_waiting (fate_of past 0 c.index) ≡ true) candidate rest
    (All-same (λ (c : Candidate). is_waiting (fate_of past 0 c.index) ≡ true) (candidate ∷ rest) (k.sq 0).window (sym oldest) (candidates_wait past 0 (k.sq 0) (s.regions 0))) in
    let entry : entry_at past 0 candidate.index ≡ Some candidate.entry =
    All-head (λ (c : Candidate). entry_at past 0 c.index ≡ Some c.entry) candidate rest
    (All-same (λ (c : Candidate). entry_at past 0 c.index ≡ Some c.entry) (candidate ∷ rest) (k.sq 0).window (sym oldest) (s.regions 0).entries) in
    let taken : admin_entry past ≡ Some candidate.entry = rw front entry in
    let history : s.tabled.history ≡ table_history rules past = s.tabled.history_is on_time in
    let before : table_before rules (event.Pick seen pick ∷ past) candidate.index ≡ s.tabled.history =
    rw (is_first, front, eq-eqb candidate.index candidate.index refl) (sym history) in
    let apart : (i : ℕ) → is_waiting (fate_of past 0 i) ≡ false → (candidate.index == i) ≡ false = λ i done. false_from_ne_true (candidate.index == i) (λ same.
    let moved : is_waiting (fate_of past 0 i) ≡ true = subst (λ (z : ℕ). is_waiting (fate_of past 0 z) ≡ true) (eqb-true candidate.index i same) waits in
    cc (moved, done)) in
    let took : took_abort (event.Pick seen pick ∷ past) ≡ is_abort_entry (Some candidate.entry) = took_pick past seen pick candidate.entry first taken in
    record {
      same_fetched = λ r. refl;
      same_aborted = λ r i. refl;
      same_requests = λ r i. refl;
      same_table = λ i done. rw (is_first, front, apart i done) refl;
      same_told = λ i done. rw (is_first, front, apart i done) refl;
      apart = λ i done. rw (is_first, front, apart i done) refl;
      just = rw (is_first, front, eq-eqb candidate.index candidate.index refl) refl;
      untold = rw (is_first, front, eq-eqb candidate.index candidate.index refl) refl;
      entry = entry;
      waits = waits;
      status = rw before (sym (verdict_answers_status rules.start s.tabled.history candidate.entry));
      dw0 = rw before (sym (verdict_answers_dw0 rules.start s.tabled.history candidate.entry));
      verdict_is = ap (λ (h : TableHistory). verdict_of rules.start h candidate.entry) before;
      took = λ sqid cid is. took ∙ verdict_is_abort rules.start s.tabled.history candidate.entry sqid cid is;
      took_none = λ qid is. took ∙ verdict_is_delete rules.start s.tabled.history candidate.entry qid is;
      made = cond-true (pick.qid == 0) (made_of rules past (admin_entry past)) [] is_first
          ∙ ap (λ (o : Option Sqe). made_of rules past o) taken
          ∙ ap (λ (h : TableHistory). made_by past (verdict_of rules.start h candidate.entry)) (sym history);
      not_admin = λ qid queue deletes is_open.
          let due = subst (λ (v : Verdict). IsDue (queue_table rules.start s.tabled.history) v) deletes (TellsChange-entry rules.start s.tabled.history candidate.entry).due in
          let opened = s.queues.attached qid queue is_open in
          io_region rules late past k s queue.region qid opened.cq_region opened.attached due.not_admin;
      not_target = λ sqid queue is.
          let target = target_is past sqid queue is in
          let opened = s.queues.attached sqid queue target.1 in
          io_region rules late past k s queue.region sqid opened.cq_region opened.attached target.0;
    }

module _ (rules : FrontRules) (past mid : Past) (candidate : Candidate) (v : Verdict) (p : IsPicked rules past mid candidate v) where
  -- the log with what the verdict makes
  abbrev after : Past
  after = with_events (made_by past v) mid

  -- an entry stays
  entry_after : (r i : ℕ) (entry : Sqe) → entry_at past r i ≡ Some entry → entry_at after r i ≡ Some entry
  entry_after r i entry h =
      ap (λ (xs : List Sqe). slice_get xs i) (effects_leave_fetched r (made_by past v) mid (made_are_effects past v) ∙ p.same_fetched r) ∙ h

  -- a place that doesn't wait stays
  done_stays : (r i : ℕ) → is_waiting (fate_of past r i) ≡ false → Stays rules past after r i
  done_stays r i done = record {
    there = entry_after r i;
    aborted = made_leave_done past mid v r i done ∙ p.same_aborted r i;
    requested = made_leave_requests past mid v r i done ∙ p.same_requests r i;
    told = λ first.
        let admin : is_waiting (fate_of past 0 i) ≡ false = subst (λ (z : ℕ). is_waiting (fate_of past z i) ≡ false) first done in
        effects_leave_told i (made_by past v) mid (made_are_effects past v) (p.apart i admin) ∙ p.same_told i admin;
    table = λ first. effects_leave_table rules i (made_by past v) mid (made_are_effects past v)
        ∙ p.same_table i (subst (λ (z : ℕ). is_waiting (fate_of past z i) ≡ false) first done);
  }

  -- the picked command isn't aborted
  unaborted : is_aborted after 0 candidate.index ≡ false
  unaborted = made_leave_region past mid v 0 candidate.index p.not_admin p.not_target ∙ p.same_aborted 0 candidate.index ∙ waiting_is_unaborted past 0 candidate.index p.waits

  -- its own status is what the verdict answers
  own_status-answered : (answer : Answer) → own_status_by rules answer after 0 candidate.index candidate.entry ≡ status_in v
  own_status-answered answer = rw (unaborted, effects_leave_table rules candidate.index (made_by past v) mid (made_are_effects past v)) p.status

  -- so is its Dword 0, but for an Abort, of which it tells whether it aborted a command
  own_dw0-answered : (answer : Answer) → own_dw0_by rules answer after 0 candidate.index candidate.entry ≡ told_dw0 (has_aborted after candidate.index) v (dw0_in v)
  own_dw0-answered answer =
      rw (unaborted, effects_leave_table rules candidate.index (made_by past v) mid (made_are_effects past v))
      (λ t. told_dw0 (has_aborted after candidate.index) (p.verdict_is t) (p.dw0 t))

  -- so the answer of a command, where nothing is told, has the own status of its place
  answer : told_dw0 (has_aborted after candidate.index) v (dw0_in v) ≡ dw0_in v → All (HasOwnStatus rules after) (answered candidate v ∷ [])
  answer plain =
      All-cons (HasOwnStatus rules after) (answered candidate v) [] (λ carried. record {
        entry = candidate.entry;
        is_there = entry_after 0 candidate.index candidate.entry p.entry;
        status = sym (own_status-answered (answer_in (answered candidate v)));
        dw0 = sym (own_dw0-answered (answer_in (answered candidate v)) ∙ plain);
      })
      (All-nil (HasOwnStatus rules after))

-- ---- the answers
-- the deletion of a queue begins: its candidates are aborted, and its command is answered later
module _ (rules : FrontRules) (past mid : Past) (candidate : Candidate) (qid : ℕ) (p : IsPicked rules past mid candidate (BeginDelete qid)) where
  -- the log with the beginning of the deletion
  abbrev begun : Past
  begun = with_events (made_by past (BeginDelete qid)) mid

  -- the candidates of the deleted queue are aborted
  all_aborted : (queue : Queue) → open_sq past qid ≡ Some queue → All (λ (i : ℕ). is_aborted begun queue.region i ≡ true) (waiting past queue.region)
  all_aborted queue is =
      subst (λ (o : Option Queue). All (λ (i : ℕ). is_aborted (with_events (closing_of past qid o) mid) queue.region i ≡ true) (waiting past queue.region)) (sym is)
      (aborts_all queue.region (waiting past queue.region) (Closing qid queue.region ∷ mid))

  -- by no Abort command
  none_requested : (queue : Queue) → open_sq past qid ≡ Some queue → All (λ (i : ℕ). is_abort_requested begun queue.region i ≡ false) (waiting past queue.region)
  none_requested queue is =
      let r : ℕ = queue.region in
      subst (λ (o : Option Queue). All (λ (i : ℕ). is_abort_requested (with_events (closing_of past qid o) mid) r i ≡ false) (waiting past r)) (sym is)
      (λ j d lt. let i : ℕ = get_or (waiting past r) j d in
      requests-aborts r r i (waiting past r) (Closing qid r ∷ mid) (p.took_none qid refl) ∙ p.same_requests r i
      ∙ unrequested past r i (waiting_is_unaborted past r i (waiting_wait past r j d lt)))

  -- so the completions of a window that is aborted have the own status of their places
  aborted_own : (queue : Queue) → open_sq past qid ≡ Some queue → (s : SqContent) → HoldsSq past queue.region s
      → All (HasOwnStatus rules begun) (map (aborted qid queue.region) s.window)
  aborted_own queue is s h =
      let indices = λ (Q : ℕ → Type 0) (all : All Q (waiting past queue.region)).
      All-unmap Q (λ (c : Candidate). c.index) s.window (All-same Q (map (λ (c : Candidate). c.index) s.window) (waiting past queue.region) (sym h.waiting_is) all) in
      let are = indices (λ (i : ℕ). is_aborted begun queue.region i ≡ true) (all_aborted queue is) in
      let not = indices (λ (i : ℕ). is_abort_requested begun queue.region i ≡ false) (none_requested queue is) in
      All-map (HasOwnStatus rules begun) (aborted qid queue.region) s.window
      (λ j d lt carried.
      let c : Candidate = get_or s.window j d in
      record {
        entry = c.entry;
        is_there = entry_after rules past mid candidate (BeginDelete qid) p queue.region c.index c.entry (h.entries j d lt);
        status = rw (are j d lt, not j d lt) refl;
        dw0 = rw (are j d lt) refl;
      })

  -- what is ready after the beginning of a deletion has the own status of its place
  deleting_own : (now : Content) (c : ℕ) (o : Option Queue) → open_sq past qid ≡ o → ((x : ℕ) → All (HasOwnStatus rules begun) (now.cq x).ready)
      → ((r : ℕ) → (r ≡ 0 → ⊥) → HoldsSq past r (now.sq r))
      → (x : ℕ) → All (HasOwnStatus rules begun) ((deleting_from now qid c candidate o).cq x).ready
  deleting_own now c None is old regions =
      all_with_readies (HasOwnStatus rules begun) now 0 (answered candidate (BeginDelete qid) ∷ []) old (answer rules past mid candidate (BeginDelete qid) p refl)
  deleting_own now c (Some queue) is old regions =
      all_with_readies (HasOwnStatus rules begun)
      (with_sq now queue.region (record (now.sq queue.region) { window = []; unposted = (now.sq queue.region).unposted + length (now.sq queue.region).window })) c
      (map (aborted qid queue.region) (now.sq queue.region).window) old
      (aborted_own queue is (now.sq queue.region) (regions queue.region (p.not_admin qid queue refl is)))

  -- the deletion is to be answered with success, as the others are
  deletion_own : (now : Content) (c : ℕ) (o : Option Queue) → ((r : ℕ) (d : PendingDelete) → now.deletion r ≡ Some d → IsOwnDeletion rules begun d)
      → (r : ℕ) (d : PendingDelete) → (deleting_from now qid c candidate o).deletion r ≡ Some d → IsOwnDeletion rules begun d
  deletion_own now c None old r d is = old r d is
  deletion_own now c (Some queue) old r d is = elim (is_put now.deletion queue.region (Some this) r d is) [
    | Here e same ↦ subst (λ (x : PendingDelete). IsOwnDeletion rules begun x) (same_Some this d same) (record {
      entry = candidate.entry;
      is_there = entry_after rules past mid candidate (BeginDelete qid) p 0 candidate.index candidate.entry p.entry;
      status = own_status-answered rules past mid candidate (BeginDelete qid) p deleted_answer;
      dw0 = own_dw0-answered rules past mid candidate (BeginDelete qid) p deleted_answer;
    })
    | Elsewhere other there ↦ old r d there
  ] where
    this : PendingDelete
    this = record { place = place_at 0 candidate.index; cid = candidate.entry.cid; qid = qid; region = queue.region }

-- an Abort command takes a candidate, or finds none
module _ (rules : FrontRules) (past mid : Past) (candidate : Candidate) (sqid cid : ℕ) (p : IsPicked rules past mid candidate (verdict.Abort sqid cid)) where
  -- the log with the abort, where there is one
  abbrev ended : Past
  ended = with_events (made_by past (verdict.Abort sqid cid)) mid

  -- the answer of the command has the own status of its place
  told_own : (dw0 : ℕ) → (if has_aborted ended candidate.index then 0 else 1) ≡ dw0 → All (HasOwnStatus rules ended) (told_abort candidate dw0 ∷ [])
  told_own dw0 told =
      All-cons (HasOwnStatus rules ended) (told_abort candidate dw0) [] (λ carried. record {
        entry = candidate.entry;
        is_there = entry_after rules past mid candidate (verdict.Abort sqid cid) p 0 candidate.index candidate.entry p.entry;
        status = sym (own_status-answered rules past mid candidate (verdict.Abort sqid cid) p (answer_in (told_abort candidate dw0)));
        dw0 = sym (own_dw0-answered rules past mid candidate (verdict.Abort sqid cid) p (answer_in (told_abort candidate dw0)) ∙ told);
      }) (All-nil (HasOwnStatus rules ended))

  -- where it made nothing, and where it aborted a command
  told_none : made_by past (verdict.Abort sqid cid) ≡ [] → All (HasOwnStatus rules ended) (told_abort candidate 1 ∷ [])
  told_none none =
      told_own 1
      (ap (λ (es : List Event). if has_aborted (with_events es mid) candidate.index then 0 else 1) none ∙ ap (λ (b : Bool). if b then 0 else 1) p.untold)

  told_one : (r i : ℕ) → made_by past (verdict.Abort sqid cid) ≡ Abort r i ∷ [] → All (HasOwnStatus rules ended) (told_abort candidate 0 ∷ [])
  told_one r i one =
      told_own 0
      (ap (λ (es : List Event). if has_aborted (with_events es mid) candidate.index then 0 else 1) one
      ∙ ap (λ (b : Bool). if (b || has_aborted mid candidate.index) then 0 else 1) p.just)

  -- the candidate that it took has its own status
  requested_own : (r : ℕ) (found : Candidate) → made_by past (verdict.Abort sqid cid) ≡ Abort r found.index ∷ [] → entry_at past r found.index ≡ Some found.entry
      → All (HasOwnStatus rules ended) (requested sqid r found ∷ [])
  requested_own r found one entry =
      subst (λ (es : List Event). All (HasOwnStatus rules (with_events es mid)) (requested sqid r found ∷ [])) (sym one)
      (All-cons (HasOwnStatus rules (Abort r found.index ∷ mid)) (requested sqid r found) []
      (λ carried. record {
        entry = found.entry;
        is_there = ap (λ (xs : List Sqe). slice_get xs found.index) (p.same_fetched r) ∙ entry;
        status = rw (eq-eqb r r refl, eq-eqb found.index found.index refl, p.took sqid cid refl) refl;
        dw0 = rw (eq-eqb r r refl, eq-eqb found.index found.index refl) refl;
      }) (All-nil (HasOwnStatus rules (Abort r found.index ∷ mid))))

  -- what is ready afterwards has the own status of its place
  found_own : (now : Content) (c : ℕ) (board : BoardView) (queue : Queue) → target_of past sqid ≡ Some queue → HoldsSq past queue.region (now.sq queue.region)
      → ((x : ℕ) → All (HasOwnStatus rules ended) (now.cq x).ready)
      → (o : Option Candidate) → oldest_named cid (now.sq queue.region).window ≡ o
      → (x : ℕ) → All (HasOwnStatus rules ended) ((aborting_in now candidate sqid queue.region c cid board o).cq x).ready
  found_own now c board queue target held old None is =
      all_with_readies (HasOwnStatus rules ended) now 0 (told_abort candidate 1 ∷ []) old
      (told_none (ap (abort_in past cid) target ∙ made_none past cid queue (now.sq queue.region) held is))
  found_own now c board queue target held old (Some found) is =
      let one : made_by past (verdict.Abort sqid cid) ≡ Abort queue.region found.index ∷ [] =
      ap (abort_in past cid) target ∙ made_abort past cid queue (now.sq queue.region) found held is in
      all_with_readies (HasOwnStatus rules ended) (with_requested now sqid queue.region c cid board found) 0 (told_abort candidate 0 ∷ [])
      (all_with_readies (HasOwnStatus rules ended)
      (with_sq now queue.region (record (now.sq queue.region) { window = without_oldest cid (now.sq queue.region).window; unposted = (now.sq queue.region).unposted + 1 })) c
      (requested sqid queue.region found ∷ []) old (requested_own queue.region found one
      (found_is cid (now.sq queue.region).window found is (λ (d : Candidate). entry_at past queue.region d.index ≡ Some d.entry) held.entries)))
      (told_one queue.region found.index one)

  target_own : (now : Content) (c : ℕ) (board : BoardView) (o : Option Queue) → target_of past sqid ≡ o → ((x : ℕ) → All (HasOwnStatus rules ended) (now.cq x).ready)
      → ((r : ℕ) → (r ≡ 0 → ⊥) → HoldsSq past r (now.sq r))
      → (x : ℕ) → All (HasOwnStatus rules ended) ((aborting_from now candidate sqid c cid board o).cq x).ready
  target_own now c board None is old regions =
      all_with_readies (HasOwnStatus rules ended) now 0 (told_abort candidate 1 ∷ []) old (told_none (ap (abort_in past cid) is))
  target_own now c board (Some queue) is old regions =
      found_own now c board queue is (regions queue.region (p.not_target sqid queue is)) old (oldest_named cid (now.sq queue.region).window) refl

  -- it leaves the pending deletions
  target_deletion : (now : Content) (c : ℕ) (board : BoardView) (o : Option Queue) → (aborting_from now candidate sqid c cid board o).deletion ≡ now.deletion
  target_deletion now c board None = refl
  target_deletion now c board (Some queue) = found (oldest_named cid (now.sq queue.region).window) where
    found : (o : Option Candidate) → (aborting_in now candidate sqid queue.region c cid board o).deletion ≡ now.deletion
    found None = refl
    found (Some it) = refl

-- the answers of an admin command, by its verdict
module _ (rules : FrontRules) (past mid : Past) (candidate : Candidate) (now : Content) (c : ℕ) (board : BoardView) where
  -- what is ready afterwards has the own status of its place
  readies_own : (v : Verdict) → IsPicked rules past mid candidate v → ((x : ℕ) → All (HasOwnStatus rules (with_events (made_by past v) mid)) (now.cq x).ready)
      → ((r : ℕ) → (r ≡ 0 → ⊥) → HoldsSq past r (now.sq r))
      → (x : ℕ) → All (HasOwnStatus rules (with_events (made_by past v) mid)) ((after_admin past now candidate c board v).cq x).ready
  readies_own (Done status dw0) p old regions =
      all_with_readies (HasOwnStatus rules mid) now 0 (answered candidate (Done status dw0) ∷ []) old (answer rules past mid candidate (Done status dw0) p refl)
  readies_own (verdict.OpenSq qid region cqid class) p old regions =
      all_with_readies (HasOwnStatus rules (event.OpenSq qid region cqid class ∷ mid)) (with_opened now qid region c class) 0
      (answered candidate (verdict.OpenSq qid region cqid class) ∷ []) old (answer rules past mid candidate (verdict.OpenSq qid region cqid class) p refl)
  readies_own (verdict.OpenCq qid region) p old regions =
      all_with_readies (HasOwnStatus rules (event.OpenCq qid region ∷ mid)) now 0
      (answered candidate (verdict.OpenCq qid region) ∷ []) old (answer rules past mid candidate (verdict.OpenCq qid region) p refl)
  readies_own (CloseCq qid) p old regions =
      all_with_readies (HasOwnStatus rules (with_events (made_by past (CloseCq qid)) mid)) now 0
      (answered candidate (CloseCq qid) ∷ []) old (answer rules past mid candidate (CloseCq qid) p refl)
  readies_own (verdict.SetArbitration settings) p old regions =
      all_with_readies (HasOwnStatus rules (event.SetArbitration settings ∷ mid)) (record now { board = board }) 0
      (answered candidate (verdict.SetArbitration settings) ∷ []) old (answer rules past mid candidate (verdict.SetArbitration settings) p refl)
  readies_own (verdict.Abort sqid cid) p old regions = target_own rules past mid candidate sqid cid p now c board (target_of past sqid) refl old regions
  readies_own (BeginDelete qid) p old regions = deleting_own rules past mid candidate qid p now c (open_sq past qid) refl old regions

  -- and each deletion that is pending is to be answered with success
  pending_own : (v : Verdict) → IsPicked rules past mid candidate v → ((r : ℕ) (d : PendingDelete) → now.deletion r ≡ Some d → IsOwnDeletion rules (with_events (made_by past v) mid) d)
      → (r : ℕ) (d : PendingDelete) → (after_admin past now candidate c board v).deletion r ≡ Some d → IsOwnDeletion rules (with_events (made_by past v) mid) d
  pending_own (BeginDelete qid) p old r d is = deletion_own rules past mid candidate qid p now c (open_sq past qid) old r d is
  pending_own (verdict.Abort sqid cid) p old r d is =
      old r d (ap (λ (f : ℕ → Option PendingDelete). f r) (sym (target_deletion rules past mid candidate sqid cid p now c board (target_of past sqid))) ∙ is)
  pending_own (Done status dw0) p old r d is = old r d is
  pending_own (verdict.OpenSq qid region cqid class) p old r d is = old r d is
  pending_own (verdict.OpenCq qid region) p old r d is = old r d is
  pending_own (CloseCq qid) p old r d is = old r d is
  pending_own (verdict.SetArbitration settings) p old r d is = old r d is

-- ---- an admin pick
-- its answer has the own status of its place
pub own-admin : KeepsAdmin Own
own-admin rules late past k seen pick picked candidate rest table c board s can saw first one apply chosen regions on_time =
    let a = s.own on_time in
    let v : Verdict = verdict_at rules s.tabled.history candidate in
    let mid : Past = event.Pick seen pick ∷ past in
    let made : List Event = made_by past v in
    let later : Past = with_events made mid in
    let now : Content = applied_to k picked table in
    let p : IsPicked rules past mid candidate v = is_picked rules late past k seen pick candidate rest s on_time first apply.oldest in
    record {
      effects_whole = effects_are_whole rules made mid (made_are_effects past v) p.made;
      own_statuses =
          readies_own rules past mid candidate now c board v p
          (statuses_stay rules past later k
          (λ x j d lt. let t : Ready = get_or (k.cq x).ready j d in
          done_stays rules past mid candidate v p t.place.region t.place.index (answerable_is_done past (hand_of k) t.place.region t.place.index (ready_is_answerable past k (hand_of k) s.ready x j d lt)))
          a.own_statuses)
          (λ r io. rw (ne_eqb r 0 io) (s.regions r));
      own_deletion = pending_own rules past mid candidate now c board v p
          (λ r d is. deletion_stays rules past later d (done_stays rules past mid candidate v p d.place.region d.place.index (deletion_done rules late past k s r d is)) (a.own_deletion r d is));
    }

-- lawful events, of which each clause holds of each
all_next : (rules : FrontRules) (rest : List Event) (past : Past) → EachNext IndexCounts rest past → EachNext (ServedWhileOpen rules) rest past
    → EachNext (EffectsAtOnce rules) rest past → EachNext FollowsDeletions rest past → EachNext (IsNext rules) rest past
all_next rules [] past i s e d = tt
all_next rules (x ∷ rest) past i s e d = (
  record { index_counts = i.0; served_while_open = s.0; effects_at_once = e.0; deletes = d.0 },
  all_next rules rest (x ∷ past) i.1 s.1 e.1 d.1,
)

-- an admin pick is of the open admin queue, and what its command makes follows it at once
pub next-admin : NextAdmin
next-admin rules late past k seen pick picked candidate rest table s can saw first one apply on_time =
    let a = s.own on_time in
    let v : Verdict = verdict_at rules s.tabled.history candidate in
    let mid : Past = event.Pick seen pick ∷ past in
    let made : List Event = made_by past v in
    let p : IsPicked rules past mid candidate v = is_picked rules late past k seen pick candidate rest s on_time first apply.oldest in
    let are = made_are_effects past v in (
      record {
        index_counts = tt;
        served_while_open = rw can.is_open refl;
        effects_at_once = a.effects_whole;
        deletes = undeleted_queue rules late past k s pick.qid admin_queue can.is_open;
      },
      all_next rules made mid (next_effects IndexCounts index_of_effect made mid are) (next_effects (ServedWhileOpen rules) (effect_is_served rules) made mid are)
          (effects_come_at_once rules made mid are p.made)
          (made_delete past mid v (λ q queue is. (undeleted_region rules late past k s q queue is, not_closed_region rules late past k s q queue is))),
    )
