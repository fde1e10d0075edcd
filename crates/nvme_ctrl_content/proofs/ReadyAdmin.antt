-- What an admin command makes ready: its answer, or the aborted candidates of the queue that it deletes.
use Rattle.std.proofs.Common.{◌≡◌, ℕ, ◌+◌, ◌<◌, ◌==◌, ◌&&◌, ◌||◌, nat_lt, Bool, true, false, not, List, [], ◌∷◌, ◌++◌, map, length, take, slice_index_or, Option, Some, None, refl, sym, ap, ◌∙◌, subst, arith, inl, inr}
use Rattle.std.specs.Prelude.{sum_by, All, option_map, is_some}
use Rattle.std.proofs.lemmas.Bool.{cases_eq, eq-eqb, ne_eqb, or_right}
use Rattle.std.proofs.lemmas.List.{length-append}
use Rattle.std.proofs.lemmas.List.Sums.{sum_by-cons}
use Rattle.std.proofs.lemmas.List.Elements.{All-nil, All-cons, All-drop, All-map, All-same, All-head}
use Rattle.nvme_entry.specs.Status.{StatusCode}
use Rattle.nvme_arbiter.specs.Board.{BoardView}
use Rattle.nvme_arbiter.specs.declared.pick.Pick.{Pick}
use Rattle.nvme_arbiter.specs.declared.pick.Seen.{Seen}
use Rattle.nvme_admin.specs.QueueTable.{QueueTable}
use Rattle.nvme_admin.specs.Accepted.{queue_table}
use Rattle.nvme_log.specs.declared.event.Event.TheVariants.{Abort, Closing}
use Rattle.nvme_log.specs.declared.event.Event.TheVariants as event
use Rattle.nvme_ctrl_content.specs.Content.{Candidate, Ready, PendingDelete, Attachment, SqContent, Content, put_sq, put_deletion}
use Rattle.nvme_log.specs.Rules.{FrontRules, Past}
use Rattle.nvme_log.specs.Queues.{cq_region_of, qid_of_region}
use Rattle.nvme_log.specs.Places.{fetched, fate_of, is_waiting, waiting, entry_at, is_aborted, is_served, one_if}
use Rattle.nvme_log.specs.declared.place.Place.{Place}
use Rattle.nvme_log.specs.Dispatches.{place_at}
use Rattle.nvme_log.specs.Completions.{posts_of}
use Rattle.nvme_log.specs.Aborts.{took_abort, is_abort_requested, is_aborted_with_queue}
use Rattle.nvme_ctrl_content.specs.Standing.{HoldsSq, HoldsReady, IsReady, times_in, times_held, held_by, held_upto, hand_of, Holds}
use Rattle.nvme_log.proofs.Waiting.{times-upto}
use Rattle.nvme_ctrl_content.proofs.Windows.{times_in_window, All-from_map, sum_by-map}
use Rattle.nvme_ctrl_log.proofs.ServedPlaces.{aborts-leave}
use Rattle.nvme_ctrl_log.proofs.AbortRequests.{unrequested, not_with_queue, requests-aborts}
use Rattle.nvme_ctrl_content.proofs.Readying.{GrowsBy, put-grows, readies, sum_by-none, IsMade, times_in-own, times_in-other, Moves, served-moves, at_put, waiting-unaborted}
use Rattle.nvme_ctrl_content.proofs.ReadyChange.{becomes-ready, pick-moves}
use Rattle.nvme_ctrl_content.proofs.ReadyHand.{times_held-append}
use Rattle.nvme_ctrl_content.specs.Steps.{picked_sq, aborted, applied_to, told}
use Rattle.nvme_ctrl_log.proofs.LaterEvents.{with_events}
use Rattle.nvme_ctrl_content.proofs.AfterSteps.{with_deleting}
use Rattle.nvme_ctrl_content.proofs.DeletingRegions.{put-same, put-other, held-put, times_held-by}

-- ---- regions
-- the region of a queue that is opened was opened for none before, so it posts nowhere
pub unused_apart : (rules : FrontRules) (late : Bool) (past : Past) (k : Content) (s : Holds rules late past k) (region : ℕ)
    → (queue_table rules.start s.tabled.history).sq_region_used region ≡ false → (r x : ℕ) → cq_region_of past r ≡ Some x → region ≡ r → ⊥
unused_apart rules late past k s region unused r x h e =
    let none : (k.sq region).queue ≡ None = s.queues.unused region (ap (λ (t : QueueTable). t.sq_region_used region) s.tabled.table_is ∙ unused) in
    let nowhere : cq_region_of past region ≡ None = s.queues.cq_region_is region ∙ ap (option_map (λ (a : Attachment). a.cq_region)) none in
    let here : cq_region_of past region ≡ Some x = subst (λ (z : ℕ). cq_region_of past z ≡ Some x) (sym e) h in
    cc

-- and has no queue
pub unused_unnamed : (rules : FrontRules) (late : Bool) (past : Past) (k : Content) (s : Holds rules late past k) (region : ℕ)
    → (queue_table rules.start s.tabled.history).sq_region_used region ≡ false → (r x : ℕ) → qid_of_region past r ≡ Some x → region ≡ r → ⊥
unused_unnamed rules late past k s region unused r x h e =
    let none : (k.sq region).queue ≡ None = s.queues.unused region (ap (λ (t : QueueTable). t.sq_region_used region) s.tabled.table_is ∙ unused) in
    let nobody : qid_of_region past region ≡ None = s.queues.qid_is region ∙ ap (option_map (λ (a : Attachment). a.qid)) none in
    let here : qid_of_region past region ≡ Some x = subst (λ (z : ℕ). qid_of_region past z ≡ Some x) (sym e) h in
    cc

-- ---- aborts
-- a place that none of them names is aborted as before
pub aborts-other : (r q j : ℕ) (is : List ℕ) (past : Past) → sum_by (λ (i : ℕ). one_if (r == q && i == j)) is ≡ 0
    → is_aborted (with_events (map (λ (i : ℕ). Abort r i) is) past) q j ≡ is_aborted past q j
aborts-other r q j [] past h = refl
aborts-other r q j (i ∷ is) past h =
    let split = sum_by-cons (λ (x : ℕ). one_if (r == q && x == j)) i is in
    aborts-other r q j is (Abort r i ∷ past) (omega arith) ∙ fails (r == q && i == j) (is_aborted past q j) (omega arith) where
      fails : (a b : Bool) → one_if a ≡ 0 → (a || b) ≡ b
      fails true b e = absurd (omega arith)
      fails false b e = refl

-- an aborted place stays aborted
aborts-stay : (r q j : ℕ) (is : List ℕ) (past : Past) → is_aborted past q j ≡ true → is_aborted (with_events (map (λ (i : ℕ). Abort r i) is) past) q j ≡ true
aborts-stay r q j [] past h = h
aborts-stay r q j (i ∷ is) past h = aborts-stay r q j is (Abort r i ∷ past) (or_right (r == q && i == j) (is_aborted past q j) h)

-- each place that they name is aborted
pub aborts-abort : (r : ℕ) (is : List ℕ) (past : Past) → All (λ (j : ℕ). is_aborted (with_events (map (λ (i : ℕ). Abort r i) is) past) r j ≡ true) is
aborts-abort r [] past = All-nil (λ (j : ℕ). is_aborted past r j ≡ true)
aborts-abort r (i ∷ is) past =
    All-cons (λ (j : ℕ). is_aborted (with_events (map (λ (x : ℕ). Abort r x) is) (Abort r i ∷ past)) r j ≡ true) i is
    (aborts-stay r r i is (Abort r i ∷ past) (rw (eq-eqb r r refl, eq-eqb i i refl) refl))
    (aborts-abort r is (Abort r i ∷ past))

-- ---- an answer
-- the places of a log are as before, and so are the queues and completion regions of the regions
pub record SamePlaces (past later : Past) : Type 0 where
  pub posts : (r i : ℕ) → posts_of later r i ≡ posts_of past r i
  pub cq_regions : (r c : ℕ) → cq_region_of past r ≡ Some c → cq_region_of later r ≡ Some c
  pub qids : (r q : ℕ) → qid_of_region past r ≡ Some q → qid_of_region later r ≡ Some q
  pub entries : (r i : ℕ) → entry_at later r i ≡ entry_at past r i
  pub with_queue : (r i : ℕ) → is_aborted_with_queue later r i ≡ is_aborted_with_queue past r i

-- the admin queue's oldest candidate was picked, and its answer t is ready in completion region 0
pub record Answers (k after : Content) (t : Ready) : Type 0 where
  pub grows : GrowsBy (readies k.cq) (readies after.cq) 0 (t ∷ [])
  pub hand : after.hand ≡ k.hand
  pub deletion : after.deletion ≡ k.deletion
  pub outstanding : after.outstanding ≡ k.outstanding + 1
  pub nsq : after.nsq ≡ k.nsq
  pub ncq : after.ncq ≡ k.ncq
  pub windows : (r : ℕ) → (after.sq r).window ≡ (put_sq k.sq 0 (picked_sq (k.sq 0) 1) r).window
  pub got : (r : ℕ) → (after.sq r).got ≡ (put_sq k.sq 0 (picked_sq (k.sq 0) 1) r).got

-- the picked candidate is no candidate any more
pub oldest-moves : (k : Content) (candidate : Candidate) (rest : List Candidate) → (k.sq 0).window ≡ candidate ∷ rest → (r i : ℕ)
    → Moves i (one_if (0 == r && candidate.index == i)) (k.sq r) (put_sq k.sq 0 (picked_sq (k.sq 0) 1) r)
oldest-moves k candidate rest oldest r i =
    at_put (λ (x : ℕ) (u v : SqContent). Moves i (one_if (0 == x && candidate.index == i)) u v) k.sq 0 (picked_sq (k.sq 0) 1)
    (let one : times_in_window i (take 1 (k.sq 0).window) ≡ 0 + one_if (candidate.index == i) = ap (λ (xs : List Candidate). times_in_window i (take 1 xs)) oldest in
    omega (arith, pick-moves (k.sq 0) 1 i))
    (λ x d. rw (ne_eqb 0 x (λ e. d (sym e))) (omega arith)) r

-- what holds of each candidate holds of the oldest
pub at_oldest : {X : Type 0} (P : X → Type 0) (xs : List X) (x : X) (rest : List X) → xs ≡ x ∷ rest → All P xs → P x
at_oldest P xs x rest e h = All-head P x rest (All-same P (x ∷ rest) xs (sym e) h)

-- the relation of what is ready to the log is kept
pub answers-ready : (past later : Past) (k after : Content) (candidate : Candidate) (rest : List Candidate) (status : StatusCode) (dw0 : ℕ)
    → HoldsReady past k (hand_of k) → ((r : ℕ) → HoldsSq past r (k.sq r)) → (k.sq 0).window ≡ candidate ∷ rest
    → 0 < k.ncq → SamePlaces past later → Answers k after (told candidate status dw0) → ((r : ℕ) → HoldsSq later r (after.sq r))
    → HoldsReady later after (hand_of after)
answers-ready past later k after candidate rest status dw0 ready before oldest some same a regions =
    let hand : hand_of after ≡ hand_of k =
    ap (λ (ps : List Place). ps ++ held_upto after.deletion after.nsq) a.hand ∙ ap (λ (d : ℕ → Option PendingDelete). k.hand ++ held_upto d after.nsq) a.deletion
    ∙ ap (λ (n : ℕ). k.hand ++ held_upto k.deletion n) a.nsq in
    let entry : entry_at past 0 candidate.index ≡ Some candidate.entry =
    at_oldest (λ (c : Candidate). entry_at past 0 c.index ≡ Some c.entry) (k.sq 0).window candidate rest oldest (before 0).entries in
    let fresh : is_aborted past 0 candidate.index ≡ false =
    at_oldest (λ (c : Candidate). is_aborted past 0 c.index ≡ false) (k.sq 0).window candidate rest oldest (waiting-unaborted past 0 (k.sq 0) (before 0)) in
    becomes-ready past later k after (hand_of k) (hand_of after) 0 (told candidate status dw0 ∷ []) ready (record {
      small = some;
      ncq = a.ncq;
      grows = a.grows;
      posts = same.posts;
      served = λ r i.
          let moves : Moves i (one_if (0 == r && candidate.index == i)) (k.sq r) (after.sq r) =
          rw (a.windows r, a.got r) (oldest-moves k candidate rest oldest r i) in
          omega (
            arith,
            served-moves past later r i (one_if (0 == r && candidate.index == i)) (k.sq r) (after.sq r) (before r) (regions r) moves,
            ap (times_held r i) hand,
          );
      stay = λ c t served h. record {
        region = same.cq_regions t.place.region c h.region;
        queue = same.qids t.place.region t.sqid h.queue;
        entry = h.entry;
        is_there = same.entries t.place.region t.place.index ∙ h.is_there;
        cid = h.cid;
        with_queue = h.with_queue ∙ sym (same.with_queue t.place.region t.place.index);
        deleting = λ e. ap (λ (d : ℕ → Option PendingDelete). is_some (d t.place.region)) a.deletion ∙ h.deleting e;
      };
      new = All-cons (IsReady later after.deletion 0) (told candidate status dw0) [] (record {
        region = same.cq_regions 0 0 ready.admin_region;
        queue = same.qids 0 0 ready.admin_qid;
        entry = candidate.entry;
        is_there = same.entries 0 candidate.index ∙ entry;
        cid = refl;
        with_queue = sym (same.with_queue 0 candidate.index ∙ not_with_queue past 0 candidate.index fresh);
        deleting = λ e. cc;
      }) (All-nil (IsReady later after.deletion 0));
      taken = omega (arith, a.outstanding, ap (λ (xs : List Place). length xs) hand);
      admin_qid = same.qids 0 0 ready.admin_qid;
      admin_region = same.cq_regions 0 0 ready.admin_region;
    })

-- ---- a deletion that begins
-- where the queue of a region isn't being deleted, no ready completion is that of a place that was aborted with it
pub not_deleting : (past : Past) (deletion : ℕ → Option PendingDelete) (c : ℕ) (t : Ready) → IsReady past deletion c t → deletion t.place.region ≡ None → t.with_queue ≡ true → ⊥
not_deleting past deletion c t h none e =
    let here : is_some (deletion t.place.region) ≡ false = ap (λ (o : Option PendingDelete). is_some o) none in
    let there = h.deleting e in
    cc (here, there)

-- a served place is none of those that wait
pub served-apart : (past : Past) (r q j : ℕ) → is_served past q j ≡ true → sum_by (λ (i : ℕ). one_if (r == q && i == j)) (waiting past r) ≡ 0
served-apart past r q j h =
    elim (cases_eq r q) [
      | inl e ↦ rw (eq-eqb r q e) (times-upto (λ (i : ℕ). is_waiting (fate_of past r i)) j (length (fetched past r))
          ∙ apart (nat_lt j (length (fetched past r))) (is_waiting (fate_of past r j)) (subst (λ (z : ℕ). is_served past z j ≡ true) (sym e) h))
      | inr d ↦ rw (ne_eqb r q d) (sum_by-none (waiting past r))
    ] where
      apart : (a b : Bool) → (a && not b) ≡ true → one_if (a && b) ≡ 0
      apart true true e = cc
      apart true false e = refl
      apart false b e = refl

-- the completions of aborted candidates are made of them
aborted-made : (qid r : ℕ) → IsMade r (aborted qid r)
aborted-made qid r = record { region = λ c. refl; index = λ c. refl }

-- the candidates of a region go, after the admin queue's oldest candidate was picked
closing-moves : (sq : ℕ → SqContent) (qid region i r : ℕ) (s : SqContent) → s.got ≡ (sq region).got → s.window ≡ []
    → Moves i (times_in r i (map (aborted qid region) (sq region).window)) (sq r) (put_sq sq region s r)
closing-moves sq qid region i r s got none =
    at_put (λ (x : ℕ) (u v : SqContent). Moves i (times_in x i (map (aborted qid region) (sq region).window)) u v) sq region s
    (rw (got, none) (omega (arith, times_in-own region i (aborted qid region) (sq region).window (aborted-made qid region))))
    (λ x d. omega (arith, times_in-other region x i (aborted qid region) (sq region).window (aborted-made qid region) d)) r

-- what holds of each candidate holds of those that are left after the pick
left-candidates : (k : Content) (Q : Candidate → Type 0) (r : ℕ) → All Q (k.sq r).window → All Q (put_sq k.sq 0 (picked_sq (k.sq 0) 1) r).window
left-candidates k Q = at_put (λ (x : ℕ) (u v : SqContent). All Q u.window → All Q v.window) k.sq 0 (picked_sq (k.sq 0) 1) (All-drop Q 1 (k.sq 0).window) (λ x d h. h)

-- the relation of what is ready to the log is kept
pub deletes-ready : (past : Past) (k : Content) (candidate : Candidate) (rest : List Candidate) (seen : List Seen) (pick : Pick) (board : BoardView) (table : QueueTable) (region qid c : ℕ)
    → HoldsReady past k (hand_of k) → ((r : ℕ) → HoldsSq past r (k.sq r)) → (k.sq 0).window ≡ candidate ∷ rest → k.deletion region ≡ None
    → region < k.nsq → c < k.ncq → cq_region_of past region ≡ Some c → qid_of_region past region ≡ Some qid → took_abort (event.Pick seen pick ∷ past) ≡ false
    → ((r : ℕ) → HoldsSq (with_events (map (λ (i : ℕ). Abort region i) (waiting past region)) (Closing qid region ∷ event.Pick seen pick ∷ past)) r ((with_deleting (applied_to k board table) qid region c candidate).sq r))
    → HoldsReady (with_events (map (λ (i : ℕ). Abort region i) (waiting past region)) (Closing qid region ∷ event.Pick seen pick ∷ past))
    (with_deleting (applied_to k board table) qid region c candidate) (hand_of (with_deleting (applied_to k board table) qid region c candidate))
deletes-ready past k candidate rest seen pick board table region qid c ready before oldest none within small attached named_by took regions =
    let ws : List ℕ = waiting past region in
    let middle : Past = Closing qid region ∷ event.Pick seen pick ∷ past in
    let later : Past = with_events (map (λ (i : ℕ). Abort region i) ws) middle in
    let mid : ℕ → SqContent = put_sq k.sq 0 (picked_sq (k.sq 0) 1) in
    let after : Content = with_deleting (applied_to k board table) qid region c candidate in
    let ts : List Ready = map (aborted qid region) (mid region).window in
    let place : PendingDelete = record { place = place_at 0 candidate.index; cid = candidate.entry.cid; qid = qid; region = region } in
    let kept : ℕ → Option PendingDelete = put_deletion k.deletion region (Some place) in
    let region_stays = λ (r : ℕ). aborts-leave (λ (p : Past). cq_region_of p r) (λ p r i. refl) region ws middle in
    let qid_stays = λ (r : ℕ). aborts-leave (λ (p : Past). qid_of_region p r) (λ p r i. refl) region ws middle in
    let entry_stays = λ (r j : ℕ). aborts-leave (λ (p : Past). entry_at p r j) (λ p r i. refl) region ws middle in
    let named : All (λ (x : Candidate). is_aborted later region x.index ≡ true) (k.sq region).window =
    All-from_map (λ (x : Candidate). x.index) (λ (j : ℕ). is_aborted later region j ≡ true) (k.sq region).window
    (All-same (λ (j : ℕ). is_aborted later region j ≡ true) _ _ (sym (before region).waiting_is) (aborts-abort region ws middle)) in
    let unasked : All (λ (x : Candidate). is_abort_requested later region x.index ≡ false) (k.sq region).window = λ j d l.
    requests-aborts region region (slice_index_or (k.sq region).window j d).index ws middle took
    ∙ unrequested past region (slice_index_or (k.sq region).window j d).index (waiting-unaborted past region (k.sq region) (before region) j d l) in
    becomes-ready past later k after (hand_of k) (hand_of after) c ts ready (record {
      small = small;
      ncq = refl;
      grows = put-grows k.cq c ts;
      posts = λ r i. aborts-leave (λ (p : Past). posts_of p r i) (λ p r i. refl) region ws middle;
      served = λ r i.
          let first = oldest-moves k candidate rest oldest r i in
          let second = closing-moves mid qid region i r (record (mid region) { window = []; unposted = (mid region).unposted + length (mid region).window }) refl refl in
          omega (
            arith,
            served-moves past later r i (one_if (0 == r && candidate.index == i) + times_in r i ts) (k.sq r) (after.sq r) (before r) (regions r) (omega arith),
            times_held-append r i k.hand (held_upto k.deletion k.nsq),
            times_held-append r i k.hand (held_upto kept k.nsq),
            held-put (times_held r i) (times_held-append r i) k.deletion region (Some place) k.nsq within,
            ap (λ (o : Option PendingDelete). times_held r i (held_by o)) none,
            times_held-by r i place,
          );
      stay = λ x t served h. record {
        region = region_stays t.place.region ∙ h.region;
        queue = qid_stays t.place.region ∙ h.queue;
        entry = h.entry;
        is_there = entry_stays t.place.region t.place.index ∙ h.is_there;
        cid = h.cid;
        with_queue = h.with_queue ∙ sym (λ p.
            aborts-other region t.place.region t.place.index ws middle (served-apart past region t.place.region t.place.index served.served) p
            && not (requests-aborts region t.place.region t.place.index ws middle took p));
        deleting = λ e. elim (cases_eq t.place.region region) [
          | inl same ↦ absurd (not_deleting past k.deletion x t h (ap k.deletion same ∙ none) e)
          | inr other ↦ ap (λ (o : Option PendingDelete). is_some o) (put-other k.deletion region (Some place) t.place.region other) ∙ h.deleting e
        ];
      };
      new = All-map (IsReady later after.deletion c) (aborted qid region) (mid region).window
          (left-candidates k (λ (x : Candidate). IsReady later after.deletion c (aborted qid region x)) region
          (λ j d l. record {
            region = region_stays region ∙ attached;
            queue = qid_stays region ∙ named_by;
            entry = (slice_index_or (k.sq region).window j d).entry;
            is_there = entry_stays region (slice_index_or (k.sq region).window j d).index ∙ (before region).entries j d l;
            cid = refl;
            with_queue = sym (λ p. named j d l p && not (unasked j d l p));
            deleting = λ e. ap (λ (o : Option PendingDelete). is_some o) (put-same k.deletion region (Some place));
          }));
      taken =
          let each = sum_by-map (λ (t : Ready). one_if (not t.with_queue)) (aborted qid region) (mid region).window in
          let nothing = sum_by-none (mid region).window in
          omega (
            arith,
            length-append k.hand (held_upto k.deletion k.nsq),
            length-append k.hand (held_upto kept k.nsq),
            held-put (λ (xs : List Place). length xs) (λ xs ys. length-append xs ys) k.deletion region (Some place) k.nsq within,
            ap (λ (o : Option PendingDelete). length (held_by o)) none,
          );
      admin_qid = qid_stays 0 ∙ ready.admin_qid;
      admin_region = region_stays 0 ∙ ready.admin_region;
    })
