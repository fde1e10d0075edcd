-- What is ready and what is posted stand after each step of a controller.
use Rattle.std.proofs.Common.{◌≡◌, ℕ, ◌+◌, ◌<◌, ◌≤◌, ◌==◌, ◌&&◌, Bool, true, false, not, if◌then◌else◌, List, [], ◌∷◌, ◌++◌, map, length, take, Option, Some, None, refl, sym, ap, ◌∙◌, subst, arith, inl, inr}
use Rattle.std.specs.Prelude.{All, option_map, option_to_list, is_some}
use Rattle.std.proofs.lemmas.Bool.{cases_eq, false_from_ne_true, eq-eqb, ne_eqb}
use Rattle.std.proofs.lemmas.List.{length-append, length-map, length-take-le}
use Rattle.std.proofs.lemmas.List.Elements.{All-nil, All-cons, All-tail, All-same}
use Rattle.nvme_entry.specs.Status.{StatusCode, success}
use Rattle.nvme_entry.specs.declared.submission.Sqe.{Sqe}
use Rattle.nvme_entry.specs.declared.completion.Cqe.{Cqe}
use Rattle.nvme_arbiter.specs.Board.{BoardView}
use Rattle.nvme_arbiter.specs.declared.pick.Pick.{Pick}
use Rattle.nvme_arbiter.specs.declared.pick.Seen.{Seen}
use Rattle.nvme_admin.specs.QueueTable.{QueueTable}
use Rattle.nvme_admin.specs.Accepted.{queue_table}
use Rattle.nvme_admin.specs.Changes.{IsDue}
use Rattle.nvme_admin.specs.Checks.{status_in, dw0_in}
use Rattle.nvme_admin.specs.declared.verdict.Verdict.{Verdict}
use Rattle.nvme_admin.specs.declared.verdict.Verdict.TheVariants.{Done, BeginDelete, CloseCq}
use Rattle.nvme_admin.specs.declared.verdict.Verdict.TheVariants as verdict
use Rattle.nvme_admin.proofs.Changed.{TellsChange-entry}
use Rattle.nvme_log.specs.declared.event.Event.{Event}
use Rattle.nvme_log.specs.declared.event.Event.TheVariants as event
use Rattle.nvme_ctrl_content.specs.Content.{Candidate, Ready, PendingDelete, Attachment, SqContent, CqContent, Content, put_sq, put_deletion, with_ready}
use Rattle.nvme_log.specs.Rules.{FrontRules, Past}
use Rattle.nvme_log.specs.Queues.{Queue, admin_queue, open_sq, open_cq, cq_region_of, qid_of_region}
use Rattle.nvme_log.specs.Places.{waiting, entry_at, is_aborted, one_if, is_served}
use Rattle.nvme_log.specs.declared.place.Place.{Place}
use Rattle.nvme_log.specs.Completions.{is_posted, posts_of, posted_to}
use Rattle.nvme_log.specs.Effects.{abort_in, closing_of, closed_cq_of, named, target_of}
use Rattle.nvme_ctrl_content.specs.Standing.{HoldsSq, HoldsPosts, IsPending, IsReady, times_held, held_by, held_upto, hand_of, Holds}
use Rattle.nvme_ctrl_log.proofs.AbortRequests.{not_with_queue}
use Rattle.nvme_ctrl_log.proofs.ServedPlaces.{served-fetch, aborts-leave, entry_stays}
use Rattle.nvme_ctrl_log.proofs.Readying.{unposted-counts}
use Rattle.nvme_ctrl_content.proofs.Readying.{waiting-unaborted, Pops, readies, sum_ready-pops, at_put_cq, put-grows, none-grows, Moves, served-moves, at_put}
use Rattle.nvme_ctrl_content.proofs.ReadyChange.{some_cqs, picked-sum, pick-moves, becomes-ready}
use Rattle.nvme_ctrl_content.proofs.DeletingRegions.{put-other, held-put}
use Rattle.nvme_ctrl_content.proofs.DeletedQueues.{deletion_within, open_undeleted}
use Rattle.nvme_log.proofs.Posts.{posts_of-some}
use Rattle.nvme_ctrl_content.proofs.ReadyHand.{times_held-append, places-own, places-other, same_posts}
use Rattle.nvme_ctrl_content.proofs.ReadyAdmin.{unused_apart, unused_unnamed, SamePlaces, Answers, answers-ready, deletes-ready}
use Rattle.nvme_ctrl_content.proofs.Named.{found_is, found_times}
use Rattle.nvme_ctrl_content.proofs.AdminPick.{took_delete, took_request, made_request, found_before}
use Rattle.nvme_ctrl_content.proofs.AbortReady.{aborts-ready}
use Rattle.nvme_ctrl_content.specs.Steps.{CanPick, CanApply, applied_to, oldest_named, told, verdict_at, picked_sq}
use Rattle.nvme_ctrl_log.proofs.LaterEvents.{with_events}
use Rattle.nvme_ctrl_content.proofs.AfterSteps.{place_of, answered, told_abort, with_requested, aborting_in, aborting_from, deleting_from, after_admin, admin_past, IsChosen, closed_event, after_closed, deleted, fetch_event, after_fetch, after_io, post_event, posted_cq, after_post}
use Rattle.nvme_ctrl_content.proofs.StepKeeps.{KeepsFetch, KeepsIo, KeepsAdmin, KeepsPost, KeepsClose, ReadyOnes, Posts}

-- ---- a fetch
-- a fetch serves no place of any region
fetch_serves : (past : Past) (region index : ℕ) (entry : Sqe) (s : SqContent) → HoldsSq past region s → (r i : ℕ)
    → is_served (event.Fetch region index entry ∷ past) r i ≡ is_served past r i
fetch_serves past region index entry s h r i =
    elim (cases_eq region r) [
      | inl e ↦ subst (λ (z : ℕ). is_served (event.Fetch region index entry ∷ past) z i ≡ is_served past z i) e
          (served-fetch past region index entry (rw h.fetched_is (h.none_aborted (length s.got) (omega arith))) (rw h.fetched_is h.few_picked) i)
      | inr d ↦ rw (ne_eqb region r d) refl
    ]

-- a fetch makes nothing ready
pub ready-fetch : KeepsFetch ReadyOnes
ready-fetch rules late past k q queue entry s can after =
    becomes-ready past (fetch_event k queue entry ∷ past) k (after_fetch k q queue entry) (hand_of k) (hand_of k) 0 [] s.ready (record {
      small = some_cqs past k (hand_of k) s.ready s.queues;
      ncq = refl;
      grows = none-grows (λ (c : ℕ). (k.cq c).ready) 0;
      posts = λ r i. refl;
      served = λ r i.
          omega (arith, ap one_if (fetch_serves past queue.region (k.sq queue.region).fetched entry (k.sq queue.region) (s.regions queue.region) r i));
      stay = λ c t served h. record {
        region = h.region;
        queue = h.queue;
        entry = h.entry;
        is_there = entry_stays past queue.region (k.sq queue.region).fetched t.place.region t.place.index entry h.entry h.is_there;
        cid = h.cid;
        with_queue = h.with_queue;
        deleting = h.deleting;
      };
      new = λ j d l. absurd (omega arith);
      taken = omega arith;
      admin_qid = s.ready.admin_qid;
      admin_region = s.ready.admin_region;
    })

-- and posts nothing
pub posts-fetch : KeepsFetch Posts
posts-fetch rules late past k q queue entry s can = record { posted_is = s.posts.posted_is; counted = s.posts.counted }

-- ---- an I/O pick
-- an I/O pick makes nothing ready: the places of its candidates are in hand
pub ready-io : KeepsIo ReadyOnes
ready-io rules late past k queue seen pick board c s can observed io attached after =
    let region : ℕ = queue.region in
    let taken : List Candidate = take pick.n (k.sq region).window in
    let places : List Place = map (place_of region) taken in
    let new : Content = after_io k queue pick.n board in
    becomes-ready past (event.Pick seen pick ∷ past) k new (hand_of k) (hand_of new) 0 [] s.ready (record {
      small = some_cqs past k (hand_of k) s.ready s.queues;
      ncq = refl;
      grows = none-grows (λ (x : ℕ). (k.cq x).ready) 0;
      posts = λ r i. refl;
      served = λ r i.
          let moves = at_put (λ (x : ℕ) (u v : SqContent). Moves i (times_held x i places) u v) k.sq region (picked_sq (k.sq region) pick.n)
          (rw (places-own region i taken) (pick-moves (k.sq region) pick.n i))
          (λ x d. omega (arith, places-other region x i taken d)) r in
          omega (
            arith,
            served-moves past (event.Pick seen pick ∷ past) r i (times_held r i places) (k.sq r) _ (s.regions r) (after r) moves,
            times_held-append r i k.hand (held_upto k.deletion k.nsq),
            times_held-append r i (k.hand ++ places) (held_upto k.deletion k.nsq),
            times_held-append r i k.hand places,
          );
      stay = λ x t served h. record { region = h.region; queue = h.queue; entry = h.entry; is_there = h.is_there; cid = h.cid; with_queue = h.with_queue; deleting = h.deleting };
      new = λ j d l. absurd (omega arith);
      taken =
          let size : length taken ≡ pick.n = length-take-le pick.n (k.sq region).window can.enough in
          omega (
            arith,
            length-append k.hand (held_upto k.deletion k.nsq),
            length-append (k.hand ++ places) (held_upto k.deletion k.nsq),
            length-append k.hand places,
            length-map taken (place_of region),
          );
      admin_qid = s.ready.admin_qid;
      admin_region = s.ready.admin_region;
    })

-- an I/O pick posts nothing
pub posts-io : KeepsIo Posts
posts-io rules late past k queue seen pick board c s can observed io attached = record { posted_is = s.posts.posted_is; counted = s.posts.counted }

-- ---- a post
-- one more where a test passes
more_if : (b : Bool) (n : ℕ) → (if b then n + 1 else n) ≡ n + one_if b
more_if true n = refl
more_if false n = omega arith

-- the oldest ready completion is taken
post-pops : (k : Content) (c : ℕ) (t : Ready) (rest : List Ready) (cqe : Cqe) → (k.cq c).ready ≡ t ∷ rest
    → Pops (readies k.cq) (readies (after_post k c t rest cqe).cq) c t
post-pops k c t rest cqe e = record {
  here = rw (eq-eqb c c refl, readies) e;
  elsewhere = λ x d. rw (ne_eqb x c d, readies) refl;
}

-- a post takes the oldest ready completion of its region, whose place is posted then
pub ready-post : KeepsPost ReadyOnes
ready-post rules late past k c t rest cqe s can after =
    let later : Past = post_event c t cqe ∷ past in
    let small : c < k.ncq = can.there in
    let pops = post-pops k c t rest cqe can.oldest in
    let picked = sum_ready-pops (λ (u : Ready). one_if (not u.with_queue)) (readies k.cq) (readies (after_post k c t rest cqe).cq) c k.ncq t pops small in
    let picked_before = picked-sum k in
    let picked_after = picked-sum (after_post k c t rest cqe) in
    record {
      once = λ r i.
          omega (
            arith,
            s.ready.once r i,
            more_if (t.place.region == r && t.place.index == i) (posts_of past r i),
            sum_ready-pops (λ (u : Ready). one_if (u.place.region == r && u.place.index == i)) (readies k.cq) (readies (after_post k c t rest cqe).cq) c k.ncq t pops small,
          );
      each = at_put_cq (λ (x : ℕ) (u : CqContent). All (IsReady later k.deletion x) u.ready) k.cq c (posted_cq (k.cq c) rest cqe)
          (All-tail (IsReady later k.deletion c) t rest (All-same (IsReady later k.deletion c) _ _ (sym can.oldest) (stays c)))
          (λ x d. stays x);
      taken = omega (arith, s.ready.taken);
      none_beyond = at_put_cq (λ (x : ℕ) (u : CqContent). k.ncq ≤ x → u.ready ≡ []) k.cq c (posted_cq (k.cq c) rest cqe)
          (λ l. absurd (omega (arith, small))) (λ x d. s.ready.none_beyond x);
      admin_qid = s.ready.admin_qid;
      admin_region = s.ready.admin_region;
    } where
      stays : (x : ℕ) → All (IsReady (post_event c t cqe ∷ past) k.deletion x) (k.cq x).ready
      stays x j d l =
          let h = s.ready.each x j d l in
          record { region = h.region; queue = h.queue; entry = h.entry; is_there = h.is_there; cid = h.cid; with_queue = h.with_queue; deleting = h.deleting }

-- a post puts one completion more into its region
pub posts-post : KeepsPost Posts
posts-post rules late past k c t rest cqe s can = record {
  posted_is = at_put_cq (λ (x : ℕ) (u : CqContent). posted_to (post_event c t cqe ∷ past) x ≡ u.sent) k.cq c (posted_cq (k.cq c) rest cqe)
      (rw (eq-eqb c c refl) (ap (λ (xs : List Cqe). xs ++ cqe ∷ []) (s.posts.posted_is c)))
      (λ x d. rw (ne_eqb c x (λ e. d (sym e))) (s.posts.posted_is x));
  counted = at_put_cq (λ (x : ℕ) (u : CqContent). u.posted ≡ length u.sent) k.cq c (posted_cq (k.cq c) rest cqe)
      (omega (arith, s.posts.counted c, length-append (k.cq c).sent (cqe ∷ [])))
      (λ x d. s.posts.counted x);
}

-- ---- the end of a deletion
-- a place with no post isn't posted
not_posted : (past : Past) (r i : ℕ) → posts_of past r i ≡ 0 → is_posted past r i ≡ false
not_posted past r i e = false_from_ne_true (is_posted past r i) (λ (p : is_posted past r i ≡ true). omega (arith, posts_of-some past r i p))

-- the end of a deletion makes its answer ready. No aborted place of its queue is ready any more, since all its places are posted
pub ready-close : KeepsClose ReadyOnes
ready-close rules late past k d table s can after =
    let left : ℕ → Option PendingDelete = put_deletion k.deletion d.region None in
    let there : d.region < k.nsq = deletion_within rules late past k s d.region d can.pending in
    let pends : IsPending past k d.region d = s.deletion.stands d.region d can.pending in
    becomes-ready past (closed_event d ∷ past) k (after_closed k d table) (hand_of k) (hand_of (after_closed k d table)) 0 (deleted d ∷ []) s.ready (record {
      small = some_cqs past k (hand_of k) s.ready s.queues;
      ncq = refl;
      grows = put-grows k.cq 0 (deleted d ∷ []);
      posts = λ r i. refl;
      served = λ r i.
          omega (
            arith,
            times_held-append r i k.hand (held_upto k.deletion k.nsq),
            times_held-append r i k.hand (held_upto left k.nsq),
            held-put (times_held r i) (times_held-append r i) k.deletion d.region None k.nsq there,
            ap (λ (o : Option PendingDelete). times_held r i (held_by o)) can.pending,
          );
      stay = λ c t served h. record {
        region = h.region;
        queue = h.queue;
        entry = h.entry;
        is_there = h.is_there;
        cid = h.cid;
        with_queue = h.with_queue;
        deleting = λ e. elim (cases_eq t.place.region d.region) [
          | inl at ↦ absurd (unposted-counts past t.place.region t.place.index served.served (not_posted past t.place.region t.place.index served.no_post)
              (sym (s.counts.unposted t.place.region) ∙ ap (λ (r : ℕ). (k.sq r).unposted) at ∙ can.all_posted))
          | inr other ↦ ap (λ (o : Option PendingDelete). is_some o) (put-other k.deletion d.region None t.place.region other) ∙ h.deleting e
        ];
      };
      new = All-cons (IsReady (closed_event d ∷ past) left 0) (deleted d) [] (record {
        region = ap (λ (r : ℕ). cq_region_of past r) pends.of_admin ∙ s.ready.admin_region;
        queue = ap (λ (r : ℕ). qid_of_region past r) pends.of_admin ∙ s.ready.admin_qid;
        entry = pends.entry;
        is_there = pends.is_there;
        cid = pends.cid;
        with_queue = sym (not_with_queue past d.place.region d.place.index pends.not_aborted);
        deleting = λ e. cc;
      }) (All-nil (IsReady (closed_event d ∷ past) left 0));
      taken = omega (
        arith,
        length-append k.hand (held_upto k.deletion k.nsq),
        length-append k.hand (held_upto left k.nsq),
        held-put (λ (xs : List Place). length xs) (λ xs ys. length-append xs ys) k.deletion d.region None k.nsq there,
        ap (λ (o : Option PendingDelete). length (held_by o)) can.pending,
      );
      admin_qid = s.ready.admin_qid;
      admin_region = s.ready.admin_region;
    })

-- the end of a deletion posts nothing
pub posts-close : KeepsClose Posts
posts-close rules late past k d table s can = same_posts past (closed_event d ∷ past) k (after_closed k d table) 0 _ s.posts refl (λ x. refl)

-- ---- an admin pick
module _ (rules : FrontRules) (late : Bool) (past : Past) (k : Content) (seen : List Seen) (pick : Pick) (picked : BoardView)
    (candidate : Candidate) (rest : List Candidate) (table : QueueTable) (c : ℕ) (board : BoardView) (s : Holds rules late past k)
    (can : CanPick rules past k admin_queue pick picked) (first : pick.qid ≡ 0) (one : pick.n ≡ 1) (apply : CanApply rules past k s.tabled.history candidate rest table) where
  -- the answer of a command is ready, where the places of the log are as before
  answer : (later : Past) (after : Content) (status : StatusCode) (dw0 : ℕ) → SamePlaces past later → Answers k after (told candidate status dw0) → ReadyOnes rules late later after
  answer later after status dw0 same a regions =
      answers-ready past later k after candidate rest status dw0 s.ready s.regions apply.oldest (some_cqs past k (hand_of k) s.ready s.queues) same a regions

  -- with the status and the Dword 0 of a verdict
  answer_by : (later : Past) (after : Content) (v : Verdict) → SamePlaces past later → Answers k after (answered candidate v) → ReadyOnes rules late later after
  answer_by later after v same a regions = answer later after (status_in v) (dw0_in v) same a regions

  -- nothing but the board, the table and the oldest candidate is changed
  leaves_answer : (b : BoardView) (t : Ready) → Answers k (with_ready (record (applied_to k picked table) { board = b }) 0 t) t
  leaves_answer b t = record { grows = put-grows k.cq 0 (t ∷ []); hand = refl; deletion = refl; outstanding = refl; nsq = refl; ncq = refl; windows = λ r. refl; got = λ r. refl }

  -- nor which completion queues have their state kept
  leaves_cqs : (lives ids : ℕ → Option ℕ) (t : Ready) → Answers k (with_ready (record (applied_to k picked table) { cq_life = lives; cq_id = ids }) 0 t) t
  leaves_cqs lives ids t = record { grows = put-grows k.cq 0 (t ∷ []); hand = refl; deletion = refl; outstanding = refl; nsq = refl; ncq = refl; windows = λ r. refl; got = λ r. refl }

  -- a pick alone leaves the places
  pick-leaves : SamePlaces past (event.Pick seen pick ∷ past)
  pick-leaves = record { posts = λ r i. refl; cq_regions = λ r x h. h; qids = λ r x h. h; entries = λ r i. refl; with_queue = λ r i. refl }

  -- the deletion of a queue, where it is open
  begins_delete : (qid : ℕ) (o : Option Queue) → open_sq past qid ≡ o → verdict_at rules s.tabled.history candidate ≡ BeginDelete qid
      → ((queue : Queue) → open_sq past qid ≡ Some queue → (k.sq queue.region).queue ≡ Some (record { qid = qid; cq_region = c }))
      → ReadyOnes rules late (with_events (closing_of past qid o) (event.Pick seen pick ∷ past)) (deleting_from (applied_to k picked table) qid c candidate o)
  begins_delete qid None e is chosen = answer_by _ _ (BeginDelete qid) pick-leaves (leaves_answer picked (answered candidate (BeginDelete qid)))
  begins_delete qid (Some queue) e is chosen =
      let attached = chosen queue e in
      deletes-ready past k candidate rest seen pick picked table queue.region qid c s.ready s.regions apply.oldest (open_undeleted rules late past k s qid queue e)
      (s.queues.sq_there queue.region (record { qid = qid; cq_region = c }) attached)
      (s.queues.posts_there queue.region (record { qid = qid; cq_region = c }) attached)
      (s.queues.cq_region_is queue.region ∙ ap (option_map (λ (a : Attachment). a.cq_region)) attached)
      (s.queues.qid_is queue.region ∙ ap (option_map (λ (a : Attachment). a.qid)) attached)
      (took_delete rules late past k seen pick picked s can.is_open first candidate rest qid apply.oldest is)

  -- the closing of a completion queue, where it is open, leaves the places
  closing-leaves : (qid : ℕ) (o : Option ℕ) → SamePlaces past (with_events (closed_cq_of qid o) (event.Pick seen pick ∷ past))
  closing-leaves qid None = pick-leaves
  closing-leaves qid (Some region) = record { posts = λ r i. refl; cq_regions = λ r x h. h; qids = λ r x h. h; entries = λ r i. refl; with_queue = λ r i. refl }

  -- a region that is opened keeps its candidates
  opened-keeps : {T : Type 0} (F : SqContent → T) (sq : ℕ → SqContent) (region : ℕ) (x : SqContent) → F x ≡ F (sq region) → (r : ℕ) → F (put_sq sq region x r) ≡ F (sq r)
  opened-keeps F sq region x e = at_put (λ (y : ℕ) (u v : SqContent). F v ≡ F u) sq region x e (λ y d. refl)

  -- an Abort command finds a candidate of a queue, or none
  aborts_one : (sqid cid : ℕ) (queue : Queue) → target_of past sqid ≡ Some queue → verdict_at rules s.tabled.history candidate ≡ verdict.Abort sqid cid
      → IsChosen rules past k c picked board (verdict.Abort sqid cid)
      → (o : Option Candidate) → oldest_named cid ((applied_to k picked table).sq queue.region).window ≡ o
      → ReadyOnes rules late (with_events (map (λ (i : ℕ). event.Abort queue.region i) (map (λ (d : Candidate). d.index) (option_to_list o))) (event.Pick seen pick ∷ past))
      (aborting_in (applied_to k picked table) candidate sqid queue.region c cid board o)
  aborts_one sqid cid queue target is chosen None finds = answer _ _ success 1 pick-leaves (leaves_answer picked (told_abort candidate 1))
  aborts_one sqid cid queue target is chosen (Some found) finds =
      let before = found_before rules late past k seen pick picked s can.is_open first table sqid cid queue found target finds in
      let attached = (chosen queue found target before).attached in
      aborts-ready past k candidate rest seen pick picked board table sqid queue.region c cid found s.ready s.regions apply.oldest
      (s.queues.posts_there queue.region (record { qid = sqid; cq_region = c }) attached)
      (s.queues.cq_region_is queue.region ∙ ap (option_map (λ (a : Attachment). a.cq_region)) attached)
      (s.queues.qid_is queue.region ∙ ap (option_map (λ (a : Attachment). a.qid)) attached)
      (took_request rules late past k seen pick picked s can.is_open first candidate rest sqid cid apply.oldest is)
      (found_is cid (k.sq queue.region).window found before (λ (d : Candidate). entry_at past queue.region d.index ≡ Some d.entry) (s.regions queue.region).entries)
      (found_is cid (k.sq queue.region).window found before (λ (d : Candidate). is_aborted past queue.region d.index ≡ false)
      (waiting-unaborted past queue.region (k.sq queue.region) (s.regions queue.region)))
      (found_times cid ((applied_to k picked table).sq queue.region).window found finds)

  -- an Abort command, by the queue whose candidates it may abort
  aborts : (sqid cid : ℕ) (o : Option Queue) → target_of past sqid ≡ o → verdict_at rules s.tabled.history candidate ≡ verdict.Abort sqid cid
      → IsChosen rules past k c picked board (verdict.Abort sqid cid)
      → ReadyOnes rules late (with_events (abort_in past cid o) (event.Pick seen pick ∷ past)) (aborting_from (applied_to k picked table) candidate sqid c cid board o)
  aborts sqid cid None target is chosen = answer _ _ success 1 pick-leaves (leaves_answer picked (told_abort candidate 1))
  aborts sqid cid (Some queue) target is chosen =
      let now : Content = applied_to k picked table in
      let o : Option Candidate = oldest_named cid (now.sq queue.region).window in
      subst (λ (ds : List ℕ). ReadyOnes rules late (with_events (map (λ (i : ℕ). event.Abort queue.region i) ds) (event.Pick seen pick ∷ past))
      (aborting_in now candidate sqid queue.region c cid board o))
      (sym (made_request rules late past k seen pick picked s can.is_open first table sqid cid queue target))
      (aborts_one sqid cid queue target is chosen o refl)

  -- a command of each verdict
  commands : (v : Verdict) → verdict_at rules s.tabled.history candidate ≡ v → IsDue (queue_table rules.start s.tabled.history) v → IsChosen rules past k c picked board v
      → ReadyOnes rules late (admin_past past (event.Pick seen pick) v) (after_admin past (applied_to k picked table) candidate c board v)
  commands (Done status dw0) is due chosen = answer_by _ _ (Done status dw0) pick-leaves (leaves_answer picked (answered candidate (Done status dw0)))
  commands (verdict.OpenSq qid region cqid class) is due chosen = answer_by _ _ (verdict.OpenSq qid region cqid class) (record {
    posts = λ r i. refl;
    cq_regions = λ r x h. rw (ne_eqb region r (unused_apart rules late past k s region due.unused r x h)) h;
    qids = λ r x h. rw (ne_eqb region r (unused_unnamed rules late past k s region due.unused r x h)) h;
    entries = λ r i. refl;
    with_queue = λ r i. refl;
  }) (record {
    grows = put-grows k.cq 0 (answered candidate (verdict.OpenSq qid region cqid class) ∷ []);
    hand = refl;
    deletion = refl;
    outstanding = refl;
    nsq = refl;
    ncq = refl;
    windows = opened-keeps (λ (x : SqContent). x.window) (put_sq k.sq 0 (picked_sq (k.sq 0) 1)) region _ refl;
    got = opened-keeps (λ (x : SqContent). x.got) (put_sq k.sq 0 (picked_sq (k.sq 0) 1)) region _ refl;
  })
  commands (verdict.OpenCq qid region) is due chosen = answer_by _ _ (verdict.OpenCq qid region) (record {
    posts = λ r i. refl;
    cq_regions = λ r x h. h;
    qids = λ r x h. h;
    entries = λ r i. refl;
    with_queue = λ r i. refl;
  }) (leaves_cqs _ _ (answered candidate (verdict.OpenCq qid region)))
  commands (CloseCq qid) is due chosen = answer_by _ _ (CloseCq qid) (closing-leaves qid (open_cq past qid)) (leaves_cqs _ _ (answered candidate (CloseCq qid)))
  commands (verdict.SetArbitration settings) is due chosen = answer_by _ _ (verdict.SetArbitration settings) (record {
    posts = λ r i. refl;
    cq_regions = λ r x h. h;
    qids = λ r x h. h;
    entries = λ r i. refl;
    with_queue = λ r i. refl;
  }) (leaves_answer board (answered candidate (verdict.SetArbitration settings)))
  commands (BeginDelete qid) is due chosen = begins_delete qid (open_sq past qid) refl is chosen
  commands (verdict.Abort sqid cid) is due chosen = aborts sqid cid (target_of past sqid) refl is chosen

-- an admin pick makes its answer ready, and the completion of what an Abort command aborts, or where it begins a deletion the completions of the
-- aborted candidates
pub ready-admin : KeepsAdmin ReadyOnes
ready-admin rules late past k seen pick picked candidate rest table c board s can observed admin one apply chosen =
    commands rules late past k seen pick picked candidate rest table c board s can admin one apply (verdict_at rules s.tabled.history candidate) refl
    (TellsChange-entry rules.start s.tabled.history candidate.entry).due chosen

-- what a verdict makes posts nothing
made_posts : (past : Past) (pick : Event) (v : Verdict) → ((x : ℕ) → posted_to (pick ∷ past) x ≡ posted_to past x) → (x : ℕ) → posted_to (admin_past past pick v) x ≡ posted_to past x
made_posts past pick (Done status dw0) h x = h x
made_posts past pick (verdict.OpenSq qid region cqid class) h x = h x
made_posts past pick (verdict.OpenCq qid region) h x = h x
made_posts past pick (CloseCq qid) h x = closing (open_cq past qid) where
  closing : (o : Option ℕ) → posted_to (with_events (closed_cq_of qid o) (pick ∷ past)) x ≡ posted_to past x
  closing None = h x
  closing (Some region) = h x
made_posts past pick (verdict.SetArbitration settings) h x = h x
made_posts past pick (BeginDelete qid) h x = deleting (open_sq past qid) where
  deleting : (o : Option Queue) → posted_to (with_events (closing_of past qid o) (pick ∷ past)) x ≡ posted_to past x
  deleting None = h x
  deleting (Some queue) =
      aborts-leave (λ (p : Past). posted_to p x) (λ p r i. refl) queue.region (waiting past queue.region) (event.Closing qid queue.region ∷ pick ∷ past) ∙ h x
made_posts past pick (verdict.Abort sqid cid) h x = aborting (target_of past sqid) where
  aborting : (o : Option Queue) → posted_to (with_events (abort_in past cid o) (pick ∷ past)) x ≡ posted_to past x
  aborting None = h x
  aborting (Some queue) = aborts-leave (λ (p : Past). posted_to p x) (λ p r i. refl) queue.region (take 1 (named past queue.region cid)) (pick ∷ past) ∙ h x

-- what each verdict leaves posts nothing
left_posts : (rules : FrontRules) (past later : Past) (k : Content) (candidate : Candidate) (c : ℕ) (picked board : BoardView) (table : QueueTable) (v : Verdict)
    → HoldsPosts past k → ((x : ℕ) → posted_to later x ≡ posted_to past x) → HoldsPosts later (after_admin past (applied_to k picked table) candidate c board v)
left_posts rules past later k candidate c picked board table (Done status dw0) h same = same_posts past later k _ 0 _ h refl same
left_posts rules past later k candidate c picked board table (verdict.OpenSq qid region cqid class) h same = same_posts past later k _ 0 _ h refl same
left_posts rules past later k candidate c picked board table (verdict.OpenCq qid region) h same = same_posts past later k _ 0 _ h refl same
left_posts rules past later k candidate c picked board table (CloseCq qid) h same = same_posts past later k _ 0 _ h refl same
left_posts rules past later k candidate c picked board table (verdict.SetArbitration settings) h same = same_posts past later k _ 0 _ h refl same
left_posts rules past later k candidate c picked board table (BeginDelete qid) h same = left (open_sq past qid) where
  left : (o : Option Queue) → HoldsPosts later (deleting_from (applied_to k picked table) qid c candidate o)
  left None = same_posts past later k _ 0 _ h refl same
  left (Some queue) = same_posts past later k _ c _ h refl same
left_posts rules past later k candidate c picked board table (verdict.Abort sqid cid) h same = left (target_of past sqid) where
  now : Content
  now = applied_to k picked table

  found : (region : ℕ) (o : Option Candidate) → HoldsPosts later (aborting_in now candidate sqid region c cid board o)
  found region None = same_posts past later k _ 0 _ h refl same
  found region (Some d) =
      same_posts later later (with_requested now sqid region c cid board d) _ 0 _ (same_posts past later k _ c _ h refl same) refl (λ x. refl)

  left : (o : Option Queue) → HoldsPosts later (aborting_from now candidate sqid c cid board o)
  left None = same_posts past later k _ 0 _ h refl same
  left (Some queue) = found queue.region (oldest_named cid (now.sq queue.region).window)

-- an admin pick posts nothing
pub posts-admin : KeepsAdmin Posts
posts-admin rules late past k seen pick picked candidate rest table c board s can observed admin one apply chosen =
    left_posts rules past _ k candidate c picked board table (verdict_at rules s.tabled.history candidate) s.posts
    (made_posts past (event.Pick seen pick) (verdict_at rules s.tabled.history candidate) (λ x. refl))
