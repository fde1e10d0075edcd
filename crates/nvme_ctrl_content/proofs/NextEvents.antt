-- Each event of a controller is lawful: a fetch, an I/O pick, a post and the end of a deletion.
use Rattle.nvme_log.specs.Answers.{Answer}
use Rattle.nvme_entry.specs.Status.{StatusCode}
use Rattle.nvme_log.specs.Completions.{own_status_by, own_dw0_by, is_posted, posted_to, phase_after, IsOwnBy, unposted_of}
use Rattle.std.proofs.Common.{◌≡◌, ℕ, zero, suc, ◌+◌, ◌%◌, ◌<◌, ◌≤◌, ◌==◌, ◌&&◌, not, nat_lt, Bool, true, false, if◌then◌else◌, List, [], ◌∷◌, length, map, filter, Option, Some, refl, sym, ap, ◌∙◌, subst, arith, inl, inr, length-append}
use Rattle.std.specs.Prelude.{option_map, is_some}
use Rattle.std.specs.List.{list_all}
use Rattle.std.proofs.lemmas.Bool.{cases_lt, and_parts, false_from_ne_true, eq-eqb, le-leb, ltb-true}
use Rattle.std.proofs.lemmas.List.{length-map, length_push}
use Rattle.std.proofs.lemmas.Option.{same_Some}
use Rattle.std.proofs.lemmas.List.Elements.{All-head, All-same, filter-append}
use Rattle.nvme_entry.specs.declared.submission.Sqe.{Sqe}
use Rattle.nvme_entry.specs.declared.completion.Cqe.{Cqe}
use Rattle.nvme_ctrl_content.specs.Content.{Candidate, Ready, PendingDelete, Attachment, SqContent, Content}
use Rattle.nvme_log.specs.Rules.{Past, FrontRules, upto, window_at}
use Rattle.nvme_log.specs.Queues.{is_closed_region}
use Rattle.nvme_log.specs.Places.{fetched, waiting, places, fate_of, is_waiting}
use Rattle.nvme_log.specs.declared.place.Place.{Place}
use Rattle.nvme_ctrl_content.specs.Standing.{HasOwnStatus, HoldsReady, Holds, answer_in, hand_of, IsReady, HasItsStatus}
use Rattle.nvme_ctrl_content.proofs.AfterSteps.{CanPost, fetch_event, fetched_sq, after_fetch}
use Rattle.nvme_ctrl_content.proofs.StepKeeps.{KeepsFetch, KeepsIo, KeepsPost, KeepsClose, Next}
use Rattle.nvme_ctrl_content.proofs.OpenQueues.{open_region, not_closed_region}
use Rattle.nvme_ctrl_content.proofs.DeletedQueues.{undeleted_region, undeleted_queue, unheld_undeleting}
use Rattle.nvme_ctrl_content.proofs.OwnStatus.{IsAnswerable, ready_is_answerable, answerable_is_done, answerable_is_unposted}

-- a window, where another region is put in the place of one
put_window : (b : Bool) (s u : SqContent) → b ≡ true → (if b then s else u).window ≡ s.window
put_window true s u h = refl
put_window false s u h = cc h

-- ---- a fetch
-- its queue is open, its index is the next, and its window has room
pub next-fetch : KeepsFetch Next
next-fetch rules late past k q queue entry s can regions on_time =
    let a = s.own on_time in
    let r : ℕ = queue.region in
    let region = s.regions r in
    let longer : length (waiting (fetch_event k queue entry ∷ past) r) ≡ length (k.sq r).window + 1 =
    ap (λ (xs : List ℕ). length xs) (regions r).waiting_is
    ∙ length-map ((after_fetch k q queue entry).sq r).window (λ (c : Candidate). c.index)
    ∙ ap (λ (xs : List Candidate). length xs) (put_window (r == r) (fetched_sq (k.sq r) entry) (k.sq r) (eq-eqb r r refl))
    ∙ length_push (k.sq r).window (record { index = (k.sq r).fetched; entry = entry }) in
    let fits : length (waiting (fetch_event k queue entry ∷ past) r) ≤ window_at rules r = rw (longer, s.tabled.sq_slots r) (omega (arith, can.room)) in
    record {
      index_counts = region.counted ∙ ap (λ (xs : List Sqe). length xs) (sym region.fetched_is);
      served_while_open = (open_region rules late past k s q queue can.is_open, le-leb (length (waiting (fetch_event k queue entry ∷ past) r)) (window_at rules r) fits);
      effects_at_once = a.effects_whole;
      deletes = (undeleted_region rules late past k s q queue can.is_open, not_closed_region rules late past k s q queue can.is_open);
    }

-- ---- a pick
-- an I/O pick is of an open queue
pub next-io : KeepsIo Next
next-io rules late past k queue seen pick board c s can saw io attached regions on_time =
    let a = s.own on_time in
    record {
      index_counts = tt;
      served_while_open = rw can.is_open refl;
      effects_at_once = a.effects_whole;
      deletes = undeleted_queue rules late past k s pick.qid queue can.is_open;
    }

-- ---- a post
-- a test that some number below n passes keeps one at least
kept_upto : (test : ℕ → Bool) (n i : ℕ) → i < n → test i ≡ true → 1 ≤ length (filter test (upto n))
kept_upto test zero i lt h = absurd (omega arith)
kept_upto test (suc n) i lt h =
    let both : length (filter test (upto (suc n))) ≡ length (filter test (upto n)) + length (filter test (n ∷ [])) =
    ap (λ (xs : List ℕ). length xs) (filter-append test (upto n) (n ∷ [])) ∙ length-append (filter test (upto n)) (filter test (n ∷ [])) in
    elim (cases_lt i n) [
      | inl below ↦ omega (arith, both, kept_upto test n i below h)
      | inr from ↦
          let same : i ≡ n = omega arith in
          let last : test n ≡ true = subst (λ (z : ℕ). test z ≡ true) same h in
          let one : length (filter test (n ∷ [])) ≡ 1 = rw last refl in
          omega (arith, both, one)
    ]

-- a place to answer is one of those that are picked or aborted and have no post
unposted_place : (past : Past) (hand : List Place) (r i : ℕ) → IsAnswerable past hand r i → 1 ≤ unposted_of past r
unposted_place past hand r i h =
    let fetched_place : i < length (fetched past r) = ltb-true i (length (fetched past r)) (and_parts (nat_lt i (length (fetched past r))) (not (is_waiting (fate_of past r i))) h.served).0 in
    kept_upto (λ (x : ℕ). not (is_waiting (fate_of past r x)) && not (is_posted past r x)) (length (fetched past r)) i fetched_place
    (rw (answerable_is_done past hand r i h, answerable_is_unposted past hand r i h) refl)

-- the region of a ready completion isn't closed
pub unclosed : (rules : FrontRules) (late : Bool) (past : Past) (k : Content) → Holds rules late past k → (r i : ℕ) → IsAnswerable past (hand_of k) r i
    → is_closed_region past r ≡ false
unclosed rules late past k s r i answerable = false_from_ne_true (is_closed_region past r)
    (λ closed. absurd (omega (arith, (s.queues.gone r closed).all_posted, s.counts.unposted r, unposted_place past (hand_of k) r i answerable)))

-- the oldest ready completion is one to answer
pub oldest_answerable : (past : Past) (k : Content) (c : ℕ) (t : Ready) (rest : List Ready) → HoldsReady past k (hand_of k) → (k.cq c).ready ≡ t ∷ rest
    → IsAnswerable past (hand_of k) t.place.region t.place.index
oldest_answerable past k c t rest ready oldest =
    All-head (λ (x : Ready). IsAnswerable past (hand_of k) x.place.region x.place.index) t rest
    (All-same (λ (x : Ready). IsAnswerable past (hand_of k) x.place.region x.place.index) (t ∷ rest) (k.cq c).ready (sym oldest) (ready_is_answerable past k (hand_of k) ready c))

-- a post is of a region that isn't closed, and isn't the answer of a deletion that is pending
pub next-post : KeepsPost Next
next-post rules late past k c t rest cqe s can regions on_time =
    let a = s.own on_time in
    let r : ℕ = t.place.region in
    let i : ℕ = t.place.index in
    let answerable = oldest_answerable past k c t rest s.ready can.oldest in
    record {
      index_counts = tt;
      served_while_open = tt;
      effects_at_once = a.effects_whole;
      deletes = (unclosed rules late past k s r i answerable, unheld_undeleting rules late past k s r i answerable.not_held);
    }

-- the posted completion is the own one of its place, where the answer is that of the ready completion
pub posts-as-ready : (rules : FrontRules) (past : Past) (k : Content) (c : ℕ) (t : Ready) (rest : List Ready) (cqe : Cqe)
    → Holds rules false past k → CanPost past k c t rest cqe → t.passed ≡ false → IsOwnBy rules (λ (e : Sqe). answer_in t) past c t.place.region t.place.index cqe
posts-as-ready rules past k c t rest cqe s can carried =
    let a = s.own refl in
    let r : ℕ = t.place.region in
    let ready : IsReady past k.deletion c t =
    All-head (IsReady past k.deletion c) t rest (All-same (IsReady past k.deletion c) (t ∷ rest) (k.cq c).ready (sym can.oldest) (s.ready.each c)) in
    let own : HasItsStatus rules past t = All-head (HasOwnStatus rules past) t rest
    (All-same (HasOwnStatus rules past) (t ∷ rest) (k.cq c).ready (sym can.oldest) (a.own_statuses c)) carried in
    let fetches : (k.sq r).fetched ≡ length (fetched past r) = (s.regions r).counted ∙ ap (λ (xs : List Sqe). length xs) (sym (s.regions r).fetched_is) in
    let posts : (k.cq c).posted ≡ length (posted_to past c) = s.posts.counted c ∙ ap (λ (xs : List Cqe). length xs) (sym (s.posts.posted_is c)) in
    record {
      entry = own.entry;
      is_there = own.is_there;
      region = ready.region;
      sqid = s.queues.qid_is r ∙ ap (λ (o : Option Attachment). option_map (λ (x : Attachment). x.qid) o) can.attached ∙ ap (λ (q : ℕ). Some q) (sym can.sqid);
      cid = can.cid ∙ ready.cid ∙ ap (λ (e : Sqe). e.cid) (same_Some ready.entry own.entry (sym ready.is_there ∙ own.is_there));
      status = can.status ∙ own.status;
      dw0 = can.dw0 ∙ own.dw0;
      sqhd = can.sqhd ∙ (λ j. fetches j % (sym (s.tabled.sq_slots r)) j);
      phase = can.phase ∙ (λ j. phase_after (posts j) ((sym (s.tabled.cq_slots c)) j));
    }

-- a completion is the own one of its place but for its status and Dword 0
pub record IsOwnElse (rules : FrontRules) (answer : Sqe → Answer) (past : Past) (c r i : ℕ) (cqe : Cqe) : Type 0 where
  pub status : StatusCode
  pub dw0 : ℕ
  pub own : IsOwnBy rules answer past c r i (record cqe { status = status; dw0 = dw0 })

-- so is that of any ready completion
pub posts-else : (rules : FrontRules) (late : Bool) (past : Past) (k : Content) (c : ℕ) (t : Ready) (rest : List Ready) (cqe : Cqe) (answer : Sqe → Answer)
    → Holds rules late past k → CanPost past k c t rest cqe → IsOwnElse rules answer past c t.place.region t.place.index cqe
posts-else rules late past k c t rest cqe answer s can =
    let r : ℕ = t.place.region in
    let ready : IsReady past k.deletion c t =
    All-head (IsReady past k.deletion c) t rest (All-same (IsReady past k.deletion c) (t ∷ rest) (k.cq c).ready (sym can.oldest) (s.ready.each c)) in
    let fetches : (k.sq r).fetched ≡ length (fetched past r) = (s.regions r).counted ∙ ap (λ (xs : List Sqe). length xs) (sym (s.regions r).fetched_is) in
    let posts : (k.cq c).posted ≡ length (posted_to past c) = s.posts.counted c ∙ ap (λ (xs : List Cqe). length xs) (sym (s.posts.posted_is c)) in
    record {
      status = own_status_by rules (answer ready.entry) past r t.place.index ready.entry;
      dw0 = own_dw0_by rules (answer ready.entry) past r t.place.index ready.entry;
      own = record {
        entry = ready.entry;
        is_there = ready.is_there;
        region = ready.region;
        sqid = s.queues.qid_is r ∙ ap (λ (o : Option Attachment). option_map (λ (x : Attachment). x.qid) o) can.attached ∙ ap (λ (q : ℕ). Some q) (sym can.sqid);
        cid = can.cid ∙ ready.cid;
        status = refl;
        dw0 = refl;
        sqhd = can.sqhd ∙ (λ j. fetches j % (sym (s.tabled.sq_slots r)) j);
        phase = can.phase ∙ (λ j. phase_after (posts j) ((sym (s.tabled.cq_slots c)) j));
      };
    }

-- ---- the end of a deletion
-- where none waits and none that doesn't wait lacks a post, all are posted
all_posted-cons : (waits posted : Bool) (i : ℕ) (unposted candidates : List ℕ) (others : Bool)
    → length (if not waits && not posted then i ∷ unposted else unposted) ≡ 0 → (if waits then i ∷ candidates else candidates) ≡ []
    → (length unposted ≡ 0 → candidates ≡ [] → others ≡ true) → (posted && others) ≡ true
all_posted-cons true posted i unposted candidates others n w h = cc w
all_posted-cons false true i unposted candidates others n w h = h n w
all_posted-cons false false i unposted candidates others n w h = absurd (omega (arith, n))

-- of a list of places, so
all_posted : (waits posted : ℕ → Bool) (is : List ℕ) → length (filter (λ (i : ℕ). not (waits i) && not (posted i)) is) ≡ 0 → filter waits is ≡ []
    → list_all posted is ≡ true
all_posted waits posted [] n w = refl
all_posted waits posted (i ∷ is) n w =
    all_posted-cons (waits i) (posted i) i (filter (λ (x : ℕ). not (waits x) && not (posted x)) is) (filter waits is) (list_all posted is) n w
    (λ m v. all_posted waits posted is m v)

-- all places of the queue are posted
pub next-close : KeepsClose Next
next-close rules late past k d table s can regions on_time =
    let a = s.own on_time in
    let stands = s.deletion.stands d.region d can.pending in
    let none_waits : waiting past d.region ≡ [] = (s.regions d.region).waiting_is ∙ ap (λ (cs : List Candidate). map (λ (x : Candidate). x.index) cs) stands.none_waits in
    let posted : unposted_of past d.region ≡ 0 = sym (s.counts.unposted d.region) ∙ can.all_posted in
    record {
      index_counts = tt;
      served_while_open = tt;
      effects_at_once = a.effects_whole;
      deletes = (
        ap (λ (o : Option ℕ). is_some o) (s.deletion.place_is d.region ∙ ap (λ (o : Option PendingDelete). option_map (λ (x : PendingDelete). x.place.index) o) can.pending),
        s.queues.qid_is d.region ∙ stands.attached,
        all_posted (λ (i : ℕ). is_waiting (fate_of past d.region i)) (λ (i : ℕ). is_posted past d.region i) (places past d.region) posted none_waits,
      );
    }
