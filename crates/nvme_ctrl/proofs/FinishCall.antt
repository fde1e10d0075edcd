-- The end of a deletion: the controller stands at its notes afterwards.
use Rattle.std.proofs.Common.{◌≡◌, ◌≢◌, ◌⊎◌, ℕ, zero, suc, ◌+◌, ◌<◌, ◌≤◌, ◌==◌, ◌&&◌, Bool, true, false, if◌then◌else◌, List, [], ◌∷◌, ◌++◌, length, map, take, drop, get_or, Option, Some, None, is_some, refl, sym, ap, ◌∙◌, subst, arith, inl, inr, eq-eqb, eqb-true, ◌-◌}
use Rattle.std.specs.Prelude.{IsTrue, IsSomeAnd, option_map, unwrap_or, nat_lt, not, slice_set}
use Rattle.std.specs.List.{All}
use Rattle.std.proofs.lemmas.Bool.{cases_eq, ne_eqb, and_parts, false_from_ne_true, ltb-true}
use Rattle.std.proofs.lemmas.List.Elements.{All-nil, All-cons, All-head, All-tail, All-weaker, All-map}
use Rattle.std.proofs.lemmas.Option.{same_Some}
use Rattle.nvme_admin.specs.History.{Start, TableHistory, DeletionFinished}
use Rattle.nvme_admin.specs.Standing.{sq_of}
use Rattle.nvme_admin.specs.Accepted.{effects_of, queue_table, sq_at as table_sq}
use Rattle.nvme_admin.specs.QueueTable.{QueueTable, unless_closing}
use Rattle.nvme_admin.proofs.Changed.{finish-takes_one}
use Rattle.nvme_placing.specs.Telling.{Tells, content_of}
use Rattle.nvme_placing.specs.declared.table.PlacedTable.{PlacedTable}
use Rattle.nvme_admin.specs.declared.verdict.SqEntry.{SqEntry}
use Rattle.nvme_entry.specs.Status.{success}
use Rattle.nvme_log.specs.declared.event.Event.TheVariants as event
use Rattle.nvme_log.specs.Completions.{unposted_of, is_posted, posts_of}
use Rattle.nvme_log.specs.Queues.{qid_of_region}
use Rattle.nvme_log.specs.Rules.{FrontRules, Past}
use Rattle.nvme_log.specs.Places.{fetched, fate_of, is_waiting, is_served, one_if}
use Rattle.nvme_log.specs.Dispatches.{place_at}
use Rattle.nvme_log.specs.Answers.{Answer}
use Rattle.nvme_ctrl_log.specs.Notes.{Notes, Logged, Answered, logged}
use Rattle.nvme_ctrl_log.specs.Tags.{answer_of, is_passed, taken}
use Rattle.nvme_ctrl_log.specs.Account.{IsAccount, IsCarriedOut}
use Rattle.nvme_ctrl.specs.Steps.{HasFinished}
use Rattle.nvme_ctrl_log.specs.Steps.{IsFinishableAt, NoneFinishable}
use Rattle.nvme_slots.specs.declared.slot.Slot.{Slot}
use Rattle.nvme_ctrl.specs.declared.state.Controller.{Controller}
use Rattle.nvme_ctrl_content.specs.Content.{Candidate, Ready, PendingDelete, Content, with_ready, put_deletion, put_life}
use Rattle.nvme_ctrl_content.specs.Standing.{Holds, HoldsReady, IsPending, HasOwnStatus, hand_of, held_upto, times_held, times_ready, HasItsStatus}
use Rattle.nvme_ctrl.specs.kept.Kept.{Item, ReadyItem, Items, IsWaitingIn, IsOutIn, IsReadyIn, IsSqOf, HasNumbers, HasItems, StandsAt, tags_of, places_of, candidate_of, picked_region, picked_of, untaken, HasEntry, IsThrough, IsUnflagged, is_passed_at, IsDevices, DeleteItem, deletion_in, put_delete, IsDeletingIn, HasDeletions, IsUnanswered, IsCookie, IsSq, shown_in}
use Rattle.nvme_ctrl.proofs.QueueStates.{sq_told}
use Rattle.nvme_ctrl_content.specs.Shown.{HasRegionsMade}
use Rattle.nvme_ctrl.specs.inside.Loose.{IsLoose, Keeps, MakesReady, ended, with_item}
use Rattle.nvme_slots.specs.Pool.{slot_at, IsChain}
use Rattle.nvme_ctrl.specs.kept.State.{sq_at, no_sq_state, IsFinishable}
use Rattle.nvme_ctrl.proofs.Passed.{not_passed, hand_is_devices}
use Rattle.nvme_ctrl_content.proofs.AfterSteps.{CanClose, deleted, after_closed}
use Rattle.nvme_ctrl.proofs.CarriedOut.{last_of, was_picked}
use Rattle.nvme_ctrl.proofs.Lives.{one_life, one_id, ids_closed, put_sq-states}
use Rattle.nvme_ctrl.proofs.PostItems.{picked_left}
use Rattle.nvme_ctrl_content.proofs.ReadyHand.{times_held-append}
use Rattle.nvme_ctrl_log.proofs.Readying.{unposted-counts}
use Rattle.nvme_ctrl_log.specs.Doorbells.{submitted}
use Rattle.nvme_slots.specs.Rings.{HasCounts}
use Rattle.nvme_log.proofs.Posts.{posts_of-some}
use Rattle.nvme_log.specs.declared.place.Place.{Place}
use Rattle.std.proofs.lemmas.List.{length-set, get_or-set_other}
use Rattle.std.proofs.lemmas.List.Sums.{get_or-le-sum_by}
use Rattle.nvme_ctrl.proofs.LaterNotes.{IsOther, keeps-closed, keeps-answered}
use Rattle.nvme_ctrl_content.proofs.NextEvents.{next-close}
use Rattle.nvme_ctrl_content.proofs.OwnStatus.{IsAnswerable, All-unmap, same_place, candidates_wait, ready_is_answerable, answerable_is_done, answerable_is_unposted}
use Rattle.nvme_slots.proofs.Pools.{IsNew-by}
use Rattle.nvme_ctrl.proofs.SlotItems.{All-both, All-parts, ready_state-range}
use Rattle.nvme_ctrl.proofs.Standable.{readies_are_apart}
use Rattle.nvme_ctrl_content.proofs.Standing.{holds-close}
use Rattle.nvme_ctrl_content.proofs.TableSteps.{finish-placing}
use Rattle.nvme_ctrl_log.proofs.ToldQueues.{told_some, closing_same}
use Rattle.nvme_ctrl_log.specs.Deletions.{deleting}
use Rattle.nvme_ctrl.specs.declared.state.SqState.{SqState}
use Rattle.nvme_ctrl_content.proofs.DeletedQueues.{unheld_apart, unheld_undeleting}
use Rattle.nvme_ctrl_content.proofs.DeletingRegions.{Here, Elsewhere, is_put, put-same, put-other}
use Rattle.nvme_ctrl.proofs.PendingDeletions.{deletion_item, IsFlagged, flagged_item, item_flagged, none_counted, some_deletes, deletions_ended}
use Rattle.nvme_ctrl.proofs.QueueSets.{rung-kept}
use Rattle.nvme_ctrl_content.proofs.Ordering.{order_answered}

-- what holds of the first n and of the others holds of all
all_joined : {X : Type 0} (P : X → Type 0) (n : ℕ) (xs : List X) → All P (take n xs) → All P (drop n xs) → All P xs
all_joined P n [] first rest = All-nil P
all_joined P zero (x ∷ xs) first rest = rest
all_joined P (suc n) (x ∷ xs) first rest = All-cons P x xs (All-head P x (take n xs) first) (all_joined P n xs (All-tail P x (take n xs) first) rest)

-- a list whose values are none is none
map_none : {X Y : Type 0} (f : X → Y) (xs : List X) → map f xs ≡ [] → xs ≡ []
map_none f [] is = refl
map_none f (x ∷ xs) is = cc is

-- what holds of none of a list holds of its members where it is empty
none_of_both : {X : Type 0} (P : X → Type 0) (xs : List X) → All P xs → All (λ (x : X). P x → ⊥) xs → xs ≡ []
none_of_both P [] each none = refl
none_of_both P (x ∷ xs) each none = absurd (All-head (λ (y : _). P y → ⊥) x xs none (All-head P x xs each))

-- ---- where all places of a region are posted
-- a place that is held was served, and isn't posted
held_is_unposted : (a b c : ℕ) (served : Bool) → 1 ≤ c → a + b + c ≡ one_if served → (served ≡ true) × (b ≡ 0)
held_is_unposted a b c true h e = (refl, omega arith)
held_is_unposted a b c false h e = absurd (omega arith)

-- none of it is ready
region_unready : (past : Past) (k : Content) (hand : List Place) → HoldsReady past k hand → (r : ℕ) → unposted_of past r ≡ 0
    → (x : ℕ) → All (λ (t : Ready). t.place.region ≢ r) (k.cq x).ready
region_unready past k hand h r posted x =
    All-weaker (λ (t : Ready). IsAnswerable past hand t.place.region t.place.index) (λ (t : Ready). t.place.region ≢ r)
    (λ t a same. unposted-counts past t.place.region t.place.index a.served (answerable_is_unposted past hand t.place.region t.place.index a) (ap (unposted_of past) same ∙ posted))
    (k.cq x).ready (ready_is_answerable past k hand h x)

-- nor in hand
region_unheld : (past : Past) (k : Content) → HoldsReady past k (hand_of k) → (r : ℕ) → unposted_of past r ≡ 0 → All (λ (q : Place). q.region ≢ r) k.hand
region_unheld past k h r posted j e lt same =
    let q : Place = get_or k.hand j e in
    let here = get_or-le-sum_by (λ (z : Place). one_if (z.region == q.region && z.index == q.index)) k.hand j e lt in
    let all = times_held-append q.region q.index k.hand (held_upto k.deletion k.nsq) in
    let is = held_is_unposted (times_ready k q.region q.index) (posts_of past q.region q.index) (times_held q.region q.index (hand_of k)) (is_served past q.region q.index)
    (omega (arith, here, all, same_place q.region q.index)) (h.once q.region q.index) in
    unposted-counts past q.region q.index is.0
    (false_from_ne_true (is_posted past q.region q.index) (λ some. absurd (omega (arith, is.1, posts_of-some past q.region q.index some)))) (ap (unposted_of past) same ∙ posted)

-- ---- the regions of queues that may lie anywhere
-- the end of a deletion leaves how many queues were created
finish-sqs_made : (start : Start) (h : TableHistory) (qid : ℕ) → (queue_table start (DeletionFinished qid ∷ h)).sqs_made ≡ (queue_table start h).sqs_made
unfolding effects_of queue_table
finish-sqs_made start h qid = refl

finish-cqs_made : (start : Start) (h : TableHistory) (qid : ℕ) → (queue_table start (DeletionFinished qid ∷ h)).cqs_made ≡ (queue_table start h).cqs_made
unfolding effects_of queue_table
finish-cqs_made start h qid = refl

-- so there are as many regions as were made
finished_made : (rules : FrontRules) (late : Bool) (past : Past) (k : Content) (d : PendingDelete) (h : Holds rules late past k) → HasRegionsMade k
    → HasRegionsMade (after_closed k d (queue_table rules.start (DeletionFinished d.qid ∷ h.tabled.history)))
finished_made rules late past k d h made =
    let start = rules.start in
    let t : TableHistory = h.tabled.history in
    let is = h.tabled.table_is in
    let placing : k.table.placing ≡ (queue_table start (DeletionFinished d.qid ∷ t)).placing = ap (λ (x : QueueTable). x.placing) is ∙ sym (finish-placing start t d.qid) in
    record {
      sqs = λ placed. made.sqs (ap is_some placing ∙ placed) ∙ ap suc (ap (λ (x : QueueTable). x.sqs_made) is ∙ sym (finish-sqs_made start t d.qid));
      cqs = λ placed. made.cqs (ap is_some placing ∙ placed) ∙ ap suc (ap (λ (x : QueueTable). x.cqs_made) is ∙ sym (finish-cqs_made start t d.qid));
    }

-- what a command that ends with success keeps, of the admin queue
abbrev FinishesEnd : (a : Controller) (slots : List Slot) (tag : ℕ) (b : Controller) (pool : List Slot) → Type 0
FinishesEnd a slots tag b pool =
    (rules : FrontRules) (notes : Notes) (k : Content) (g : Items) (t : Ready) → Keeps rules notes a slots k g → IsLoose slots g tag → MakesReady slots tag 4 success 0 t → IsThrough notes t
    → IsCookie notes slots tag t.place → t.passed ≡ is_passed_at notes t.place → IsUnflagged notes t.place → (x : ℕ) → k.cq_life 0 ≡ Some x → k.sq_id t.place.region ≡ Some t.sqid
    → Keeps rules notes b pool (with_ready k x t) (with_item g x (ended tag t))

module _ (rules : FrontRules) (late : Bool) (notes : Notes) (c : Controller) (slots : List Slot) (s : StandsAt rules late notes c slots)
    (qid : ℕ) (finishable : IsFinishable c qid) where
  abbrev k : Content
  k = s.content

  abbrev g : Items
  g = s.items

  abbrev past : Past
  past = logged notes

  pub flagged : IsFlagged k.sq_life g.deletes qid (sq_at c.sqs qid).tag
  flagged = flagged_item c.sqs c.pending_deletions slots k.sq_life k.deletion g.deletes s.has.deletions qid finishable.closing

  abbrev region : ℕ
  region = flagged.region

  abbrev item : DeleteItem
  item = flagged.item

  abbrev d : PendingDelete
  d = deletion_in slots region item

  pending_is : k.deletion region ≡ Some d
  pending_is = deletion_item c.sqs c.pending_deletions slots k.sq_life k.deletion g.deletes s.has.deletions region item flagged.is

  stands : IsPending past k region d
  stands = s.holds.deletion.stands region d pending_is

  -- the queue is the one that is deleted
  life : k.sq_life item.qid ≡ Some region
  life = s.has.deletions.queues region item flagged.is

  pub qid_is : qid ≡ item.qid
  qid_is = one_id k.sq_life k.sq_id s.numbers.sqs.ids qid item.qid region flagged.life life

  within : item.qid < 65
  within = s.numbers.sqs.few item.qid region life

  id : k.sq_id region ≡ Some item.qid
  id = s.numbers.sqs.ids.ids_are item.qid region life

  only : (q : ℕ) → k.sq_life q ≡ Some region → q ≡ item.qid
  only q is = one_id k.sq_life k.sq_id s.numbers.sqs.ids q item.qid region is life

  -- it isn't the admin queue
  io : item.qid ≢ 0
  io e = stands.not_admin (one_life k.sq_life 0 region 0 (subst (λ (q : ℕ). k.sq_life q ≡ Some region) e life) s.numbers.sqs.ids.admin)

  -- it is closing in the table
  pub closes : IsSomeAnd (sq_of (content_of c.table) qid) (λ (queue : SqEntry). IsTrue queue.closing)
  closes =
      let told = told_some (k.table.sq item.qid) (sq_of (content_of c.table) item.qid) (sym (s.numbers.tells.sq item.qid)) stands.closing stands.in_table in
      subst (λ (q : ℕ). IsSomeAnd (sq_of (content_of c.table) q) (λ (queue : SqEntry). IsTrue queue.closing)) (sym qid_is)
      (subst (λ (o : Option SqEntry). IsSomeAnd o (λ (queue : SqEntry). IsTrue queue.closing)) (sym told.is_there)
      (closing_same stands.closing told.entry told.same ∙ stands.is_closing))

  -- ---- nothing of its region is left
  all_posted : (k.sq region).unposted ≡ 0
  all_posted = sym (s.numbers.sqs.each qid region flagged.life).unposted ∙ finishable.posted

  posted : unposted_of past region ≡ 0
  posted = sym (s.holds.counts.unposted region) ∙ all_posted

  -- the deletion is the one of the log
  deletes : deleting past region ≡ Some item.index
  deletes = s.holds.deletion.place_is region ∙ ap (option_map (λ (x : PendingDelete). x.place.index)) pending_is

  -- so it can be finished
  pub finishable_at : IsFinishableAt notes qid
  finishable_at = record {
    region = region;
    index = item.index;
    deletes = deletes;
    queue = s.holds.lives.named qid region flagged.life;
    all_posted = posted;
  }

  hand_elsewhere : All (λ (it : Item). it.place.region ≢ region) (g.outs ++ untaken c k g)
  hand_elsewhere =
      All-unmap (λ (p : Place). p.region ≢ region) (λ (it : Item). it.place) (g.outs ++ untaken c k g)
      (subst (All (λ (p : Place). p.region ≢ region)) s.has.outs.hand_is (region_unheld past k s.holds.ready region posted))

  outs_elsewhere : All (λ (it : Item). it.place.region ≢ region) g.outs
  outs_elsewhere = (All-parts (λ (it : Item). it.place.region ≢ region) g.outs (untaken c k g) hand_elsewhere).0

  readies_elsewhere : (x : ℕ) → All (λ (it : ReadyItem). it.ready.place.region ≢ region) (g.readies x)
  readies_elsewhere x =
      All-unmap (λ (t : Ready). t.place.region ≢ region) (λ (it : ReadyItem). it.ready) (g.readies x)
      (subst (All (λ (t : Ready). t.place.region ≢ region)) (s.has.readies.are x) (region_unready past k (hand_of k) s.holds.ready region posted x))

  -- what is picked of a queue and not taken
  picked_taken : (P : Item → Type 0) → All P (untaken c k g) → (q r : ℕ) → k.sq_life q ≡ Some r → All P (take (picked_of c (k.sq_id r)) (g.windows r))
  picked_taken P all q r is = elim (cases_eq q c.picked_qid) [
    | inl same ↦ (
        let count : picked_of c (k.sq_id r) ≡ c.picked = ap (picked_of c) (s.numbers.sqs.ids.ids_are q r is) ∙ ap (λ (b : Bool). if b then c.picked else 0) (eq-eqb q c.picked_qid same) in
        let at : picked_region c k ≡ r = ap (λ (o : Option ℕ). unwrap_or o 0) (ap k.sq_life (sym same) ∙ is) in
        subst (λ (n : ℕ). All P (take n (g.windows r))) (sym count) (subst (λ (x : ℕ). All P (take c.picked (g.windows x))) at all))
    | inr other ↦ (
        let count : picked_of c (k.sq_id r) ≡ 0 = ap (picked_of c) (s.numbers.sqs.ids.ids_are q r is) ∙ ap (λ (b : Bool). if b then c.picked else 0) (ne_eqb q c.picked_qid other) in
        subst (λ (n : ℕ). All P (take n (g.windows r))) (sym count) (All-nil P))
  ]

  -- what holds of each command that waits
  each_window : (P : ℕ → Item → Type 0) → ((q r : ℕ) (it : Item) → IsWaitingIn slots q r it → P r it) → (r : ℕ) → All (P r) (g.windows r)
  each_window P all r = by (k.sq_id r) refl where
    by : (o : Option ℕ) → k.sq_id r ≡ o → All (P r) (g.windows r)
    by None none = subst (All (P r)) (sym (s.has.windows.none r none)) (All-nil (P r))
    by (Some q) is = All-weaker (IsWaitingIn slots q r) (P r) (all q r) (g.windows r) (s.has.windows.items q r (s.numbers.sqs.ids.lives_are r q is))

  window_gone : g.windows region ≡ []
  window_gone =
      let rest : drop (picked_of c (k.sq_id region)) (g.windows region) ≡ [] =
      map_none candidate_of (drop (picked_of c (k.sq_id region)) (g.windows region)) (sym (s.has.windows.are region) ∙ stands.none_waits) in
      none_of_both (λ (it : Item). it.place.region ≡ region) (g.windows region)
      (each_window (λ r it. it.place.region ≡ r) (λ q r it w. w.place) region)
      (all_joined (λ (it : Item). it.place.region ≢ region) (picked_of c (k.sq_id region)) (g.windows region)
      (picked_taken (λ (it : Item). it.place.region ≢ region) (All-parts (λ (it : Item). it.place.region ≢ region) g.outs (untaken c k g) hand_elsewhere).1 item.qid region life)
      (subst (All (λ (it : Item). it.place.region ≢ region)) (sym rest) (All-nil (λ (it : Item). it.place.region ≢ region))))

  none_picked : c.picked_qid ≡ item.qid → c.picked ≡ 0
  none_picked same =
      let at : picked_region c k ≡ region = ap (λ (o : Option ℕ). unwrap_or o 0) (ap k.sq_life same ∙ life) in
      let few : c.picked ≤ length (g.windows region) = subst (λ (r : ℕ). c.picked ≤ length (g.windows r)) at s.has.windows.picked_there in
      let none : length (g.windows region) ≡ 0 = ap (λ (items : List Item). length items) window_gone in
      omega (arith, few, none)

  -- its slot is in no list, once the deletion is finished
  held : IsDeletingIn slots item
  held = s.has.deletions.items region item flagged.is

  abbrev left : ℕ → Option DeleteItem
  left = put_delete g.deletes region None

  abbrev others : Items
  others = record g { deletes = left }

  loose : IsLoose slots others item.tag
  loose = record {
    inside = held.inside;
    windows = λ r. All-map (λ (y : ℕ). y ≢ item.tag) (λ (it : Item). it.tag) (g.windows r)
        (each_window (λ r it. it.tag ≢ item.tag) (λ q r it w e. absurd (let six = held.state in cc (sym w.state ∙ ap (λ (z : ℕ). (slot_at slots z).state) e ∙ six))) r);
    outs = All-map (λ (y : ℕ). y ≢ item.tag) (λ (it : Item). it.tag) g.outs
        (All-weaker (IsOutIn k.sq_id slots) (λ (it : Item). it.tag ≢ item.tag) (λ it w e. absurd (let six = held.state in cc (sym w.state ∙ ap (λ (z : ℕ). (slot_at slots z).state) e ∙ six))) g.outs s.has.outs.items);
    readies = λ y. All-map (λ (z : ℕ). z ≢ item.tag) (λ (it : ReadyItem). it.tag) (g.readies y)
        (All-weaker (IsReadyIn k.sq_id slots) (λ (it : ReadyItem). it.tag ≢ item.tag)
        (λ it w e. absurd (let range = (ready_state-range it.was_out it.ready.with_queue).1 in let at = ap (λ (z : ℕ). (slot_at slots z).state) e in let was = w.state in let six = held.state in omega (arith, range, at, was, six))) (g.readies y) (s.has.readies.items y));
    deletes = λ r it at same. elim (is_put g.deletes region None r it at) [
      | Here e none ↦ absurd (cc none)
      | Elsewhere differs there ↦ differs (s.has.deletions.apart r region it item there flagged.is same)
    ];
    free = IsNew-by (λ (y : ℕ). (slot_at slots y).state ≡ 0) item.tag g.free s.has.free.items (λ e. absurd (let six = held.state in cc (sym e ∙ six)));
    not_out = λ e. absurd (let six = held.state in cc (sym e ∙ six));
    not_answered = λ e. absurd (let six = held.state in cc (sym e ∙ six));
  }

  -- the queue table without it
  abbrev without : QueueTable
  without = queue_table rules.start (DeletionFinished item.qid ∷ s.holds.tabled.history)

  -- which has the other queues still
  others_are : (q : ℕ) → q ≢ item.qid → without.sq q ≡ k.table.sq q
  others_are q other =
      finish-takes_one rules.start s.holds.tabled.history item.qid q
      ∙ ap (λ (b : Bool). if b then unless_closing (table_sq rules.start s.holds.tabled.history q) else table_sq rules.start s.holds.tabled.history q) (ne_eqb item.qid q (λ e. other (sym e)))
      ∙ ap (λ (t : QueueTable). t.sq q) (sym s.holds.tabled.table_is)

  module _ (table : PlacedTable)
      (finishes : (start : Start) (h : TableHistory) → Tells c.table (queue_table start h) → Tells table (queue_table start (DeletionFinished item.qid ∷ h))) where
    abbrev m : Controller
    m = record c {
      table = table;
      sqs = slice_set c.sqs item.qid no_sq_state;
      pending_deletions = c.pending_deletions - 1;
    }

    abbrev k1 : Content
    k1 = record k {
      deletion = put_deletion k.deletion region None;
      table = without;
      sq_life = put_life k.sq_life item.qid None;
      sq_id = put_life k.sq_id region None;
    }

    abbrev later : Past
    later = event.ClosedSq item.qid region ∷ past

    abbrev t : Ready
    t = deleted d

    can_close : CanClose rules k s.holds.tabled.history d without
    can_close = record { pending = pending_is; all_posted = all_posted; table_is = refl }

    holds_after : Holds rules late later (with_ready k1 0 t)
    holds_after = holds-close rules late past k d without s.holds can_close

    answerable : IsAnswerable later (hand_of (with_ready k1 0 t)) 0 item.index
    answerable =
        last_of (λ (x : Ready). IsAnswerable later (hand_of (with_ready k1 0 t)) x.place.region x.place.index) (k.cq 0).ready t
        (ready_is_answerable later (with_ready k1 0 t) (hand_of (with_ready k1 0 t)) holds_after.ready 0)

    done : is_waiting (fate_of later 0 item.index) ≡ false
    done = answerable_is_done later (hand_of (with_ready k1 0 t)) 0 item.index answerable

    there : item.index < length (fetched later 0)
    there = ltb-true item.index (length (fetched later 0)) (and_parts (nat_lt item.index (length (fetched later 0))) (not (is_waiting (fate_of later 0 item.index))) answerable.served).0

    -- no other command has its place
    hand_other : All (λ (it : Item). IsOther item.index it.place) (g.outs ++ untaken c k g)
    hand_other =
        All-weaker (λ (it : Item). IsDevices notes it.place) (λ (it : Item). IsOther item.index it.place)
        (λ it is. not_passed notes it.place item.index is (s.tags.passed.deletes region item flagged.is)) (g.outs ++ untaken c k g)
        (hand_is_devices notes c slots k g s.tags)

    waiting_other : All (λ (it : Item). IsOther item.index it.place) (drop (picked_of c (k.sq_id 0)) (g.windows 0))
    waiting_other =
        All-weaker (λ (it : Item). is_waiting (fate_of past 0 it.place.index) ≡ true) (λ (it : Item). IsOther item.index it.place)
        (λ it w. false_from_ne_true (0 == it.place.region && item.index == it.place.index) (λ e.
        let same : item.index ≡ it.place.index = eqb-true item.index it.place.index (and_parts (0 == it.place.region) (item.index == it.place.index) e).1 in
        let moved : is_waiting (fate_of past 0 item.index) ≡ true = subst (λ (z : ℕ). is_waiting (fate_of past 0 z) ≡ true) (sym same) w in
        absurd (cc (moved, done)))) (drop (picked_of c (k.sq_id 0)) (g.windows 0))
        (All-unmap (λ (x : Candidate). is_waiting (fate_of past 0 x.index) ≡ true) candidate_of (drop (picked_of c (k.sq_id 0)) (g.windows 0))
        (subst (All (λ (x : Candidate). is_waiting (fate_of past 0 x.index) ≡ true)) (s.has.windows.are 0) (candidates_wait past 0 (k.sq 0) (s.holds.regions 0))))

    picked_other : All (λ (it : Item). IsOther item.index it.place) (take (picked_of c (k.sq_id 0)) (g.windows 0))
    picked_other =
        picked_taken (λ (it : Item). IsOther item.index it.place) (All-parts (λ (it : Item). IsOther item.index it.place) g.outs (untaken c k g) hand_other).1 0 0 s.numbers.sqs.ids.admin

    windows_other : (r : ℕ) → All (λ (it : Item). IsOther item.index it.place) (g.windows r)
    windows_other r = elim (cases_eq r 0) [
      | inl same ↦ subst (λ (x : ℕ). All (λ (it : Item). IsOther item.index it.place) (g.windows x)) (sym same)
          (all_joined (λ (it : Item). IsOther item.index it.place) (picked_of c (k.sq_id 0)) (g.windows 0) picked_other waiting_other)
      | inr other ↦ All-weaker (λ (it : Item). it.place.region ≡ r) (λ (it : Item). IsOther item.index it.place)
          (λ it at. rw (ne_eqb 0 it.place.region (λ e. other (sym at ∙ sym e))) refl) (g.windows r) (each_window (λ r it. it.place.region ≡ r) (λ q r it w. w.place) r)
    ]

    -- nor has another Delete
    still : HasDeletions m.sqs m.pending_deletions slots k1.sq_life k1.deletion left
    still = deletions_ended c.sqs c.pending_deletions slots k.sq_life k.deletion g.deletes region item s.has.deletions only life within flagged.is s.numbers.sqs.size

    deletes_other : (r : ℕ) (it : DeleteItem) → left r ≡ Some it → IsOther item.index (place_at 0 it.index)
    deletes_other r it at = false_from_ne_true (0 == 0 && item.index == it.index) (λ e.
        unheld_apart rules late later (with_ready k1 0 t) holds_after item.index answerable.not_held r (deletion_in slots r it)
        (deletion_item m.sqs m.pending_deletions slots k1.sq_life k1.deletion left still r it at) (sym (eqb-true item.index it.index e)))

    abbrev answer : Answer
    answer = record { status = success; dw0 = 0 }

    abbrev finished : Notes
    finished = Answered 0 item.index answer ∷ Logged (event.ClosedSq item.qid region) ∷ notes

    unanswered : answer_of notes 0 item.index ≡ None
    unanswered = s.tags.unanswered.deletes region item flagged.is

    -- what holds of the Deletes holds of the others
    each_left : (P : DeleteItem → Type 0) → ((r : ℕ) (it : DeleteItem) → g.deletes r ≡ Some it → P it) → (r : ℕ) (it : DeleteItem) → left r ≡ Some it → P it
    each_left P all r it at = elim (is_put g.deletes region None r it at) [
      | Here e none ↦ absurd (cc none)
      | Elsewhere differs there_too ↦ all r it there_too
    ]

    -- the queues that are kept were kept before
    kept_before : (q r : ℕ) → k1.sq_life q ≡ Some r → (q ≢ item.qid) × (k.sq_life q ≡ Some r)
    kept_before q r is = elim (is_put k.sq_life item.qid None q r is) [
      | Here e none ↦ absurd (cc none)
      | Elsewhere differs was ↦ (differs, was)
    ]

    state_left : (q : ℕ) → q ≢ item.qid → sq_at m.sqs q ≡ sq_at c.sqs q
    state_left q other = get_or-set_other c.sqs item.qid q no_sq_state no_sq_state other

    untaken_left : untaken m k1 others ≡ untaken c k g
    untaken_left = elim (cases_eq c.picked_qid item.qid) [
      | inl same ↦ (
          let none = none_picked same in
          ap (λ (n : ℕ). take n (g.windows (picked_region m k1))) none ∙ sym (ap (λ (n : ℕ). take n (g.windows (picked_region c k))) none))
      | inr other ↦ ap (λ (o : Option ℕ). take c.picked (g.windows (unwrap_or o 0))) (put-other k.sq_life item.qid None c.picked_qid other)
    ]

    picked_left_there : c.picked ≤ length (g.windows (picked_region m k1))
    picked_left_there = elim (cases_eq c.picked_qid item.qid) [
      | inl same ↦ omega (arith, none_picked same)
      | inr other ↦ subst (λ (o : Option ℕ). c.picked ≤ length (g.windows (unwrap_or o 0))) (sym (put-other k.sq_life item.qid None c.picked_qid other)) s.has.windows.picked_there
    ]

    numbers_ended : HasNumbers m k1
    numbers_ended = (let n = s.numbers in record {
      tells = finishes rules.start s.holds.tabled.history (subst (Tells c.table) s.holds.tabled.table_is n.tells);
      board_is = n.board_is;
      is_arbiter = n.is_arbiter;
      outstanding_is = n.outstanding_is;
      sqs = record {
        ids = ids_closed k.sq_life k.sq_id item.qid region n.sqs.ids life io;
        each = λ q r is. sq_left q r (kept_before q r is).0 (kept_before q r is).1;
        few = λ q r is. n.sqs.few q r (kept_before q r is).1;
        none = λ q none. put_sq-states (λ y state. k1.sq_life y ≡ None → state ≡ no_sq_state) c.sqs item.qid no_sq_state (omega (arith, within, n.sqs.size)) (λ no. refl) q
            (λ other no. n.sqs.none q (sym (put-other k.sq_life item.qid None q other) ∙ no)) none;
        size = length-set c.sqs item.qid no_sq_state ∙ n.sqs.size;
        rung = rung-kept c.rung item.qid c.sqs no_sq_state (omega (arith, within, n.sqs.size)) n.sqs.rung (λ same. refl);
      };
      cqs = n.cqs;
    }) where
      sq_left : (q r : ℕ) → q ≢ item.qid → k.sq_life q ≡ Some r → IsSqOf m k1 q r
      sq_left q r other is =
          subst (λ (state : SqState). IsSq without k.cq_life q r state (k.sq r) (k.held r) (shown_in k.board q)) (sym (state_left q other))
          (sq_told k.table without k.cq_life q r (sq_at c.sqs q) (k.sq r) (k.sq r) (k.held r) (shown_in k.board q) (s.numbers.sqs.each q r is) (others_are q other) refl refl refl)

    has_ended : HasItems m slots k1 others
    has_ended = (let x = s.has in record {
      windows = record {
        chain = λ q r is.
            subst (λ (state : SqState). IsChain slots state.window (tags_of (g.windows r))) (sym (state_left q (kept_before q r is).0)) (x.windows.chain q r (kept_before q r is).1);
        items = λ q r is. x.windows.items q r (kept_before q r is).1;
        none = λ r none. elim (cases_eq r region) [
          | inl same ↦ ap g.windows same ∙ window_gone
          | inr other ↦ x.windows.none r (sym (put-other k.sq_id region None r other) ∙ none)
        ];
        are = window_ended;
        picked_there = picked_left_there;
      };
      outs = record {
        items = All-both (IsOutIn k.sq_id slots) (λ (it : Item). it.place.region ≢ region) (IsOutIn k1.sq_id slots)
            (λ it h other. record { inside = h.inside; state = h.state; queue = put-other k.sq_id region None it.place.region other ∙ h.queue; entry = h.entry }) g.outs x.outs.items outs_elsewhere;
        apart = x.outs.apart;
        all = x.outs.all;
        hand_is = x.outs.hand_is ∙ ap (λ (items : List Item). places_of (g.outs ++ items)) (sym untaken_left);
      };
      readies = record {
        chain = x.readies.chain;
        items = λ y. All-both (IsReadyIn k.sq_id slots) (λ (it : ReadyItem). it.ready.place.region ≢ region) (IsReadyIn k1.sq_id slots)
            (λ it h other. record {
              state = h.state;
              queue = put-other k.sq_id region None it.ready.place.region other ∙ h.queue;
              sqid = h.sqid;
              cid = h.cid;
              sct = h.sct;
              few_types = h.few_types;
              sc = h.sc;
              dw0 = h.dw0;
              not_both = h.not_both;
              flags = h.flags;
            }) (g.readies y) (x.readies.items y) (readies_elsewhere y);
        none = x.readies.none;
        are = x.readies.are;
      };
      deletions = still;
      free = x.free;
      few = x.few;
    }) where
      window_ended : (r : ℕ) → (k1.sq r).window ≡ map candidate_of (drop (picked_of m (k1.sq_id r)) (g.windows r))
      window_ended r = elim (cases_eq r region) [
        | inl same ↦ subst (λ (z : ℕ). (k1.sq z).window ≡ map candidate_of (drop (picked_of m (k1.sq_id z)) (g.windows z))) (sym same)
            (stands.none_waits ∙ sym (ap (λ (o : Option ℕ). map candidate_of (drop (picked_of m o) (g.windows region))) (put-same k.sq_id region None)
            ∙ ap (λ (items : List Item). map candidate_of (drop 0 items)) window_gone))
        | inr other ↦ s.has.windows.are r ∙ ap (λ (n : ℕ). map candidate_of (drop n (g.windows r)))
            (picked_left c m refl refl (k.sq_id r) ∙ ap (picked_of m) (sym (put-other k.sq_id region None r other)))
      ]

    -- it is pending no more
    keeps_ended : Keeps rules notes m slots k1 others
    keeps_ended = record {
      numbers = numbers_ended;
      has = has_ended;
      doorbells = (let x = s.doorbells in record {
        sqs = record {
          each = λ q r is. subst (λ (state : SqState). HasCounts state.ring (length (fetched past r)) (submitted rules notes r)) (sym (state_left q (kept_before q r is).0)) (x.sqs.each q r (kept_before q r is).1);
          no_tails = x.sqs.no_tails;
        };
        cqs = x.cqs;
      });
      tags = (let x = s.tags in record {
        untaken_are = x.untaken_are ∙ ap (λ (items : List Item). taken notes ++ places_of items) (sym untaken_left);
        held = x.held;
        through = x.through;
        unanswered = record {
          windows = x.unanswered.windows;
          outs = x.unanswered.outs;
          deletes = each_left (λ (it : DeleteItem). IsUnanswered notes (place_at 0 it.index)) x.unanswered.deletes;
          none = x.unanswered.none;
        };
        hand_entries = subst (λ (items : List Item). All (HasEntry past) (g.outs ++ items)) (sym untaken_left) x.hand_entries;
        free_count = x.free_count;
        cookies = (let q = x.cookies in record {
          windows = q.windows;
          outs = q.outs;
          readies = q.readies;
          deletes = each_left (λ (it : DeleteItem). IsCookie notes slots it.tag (place_at 0 it.index)) q.deletes;
          none = q.none;
        });
        passed = (let q = x.passed in record {
          all_handed = q.all_handed;
          served = q.served;
          readies = q.readies;
          deletes = each_left (λ (it : DeleteItem). is_passed notes it.index ≡ false) q.deletes;
        });
        flagged = x.flagged;
      });
      apart = readies_are_apart rules late notes c slots s;
    }

    keeps_finished : Keeps rules finished m slots k1 others
    keeps_finished =
        keeps-answered rules (Logged (event.ClosedSq item.qid region) ∷ notes) item.index answer m slots k1 others unanswered there windows_other
        (All-parts (λ (it : Item). IsOther item.index it.place) g.outs (untaken c k g) hand_other).0 deletes_other
        (keeps-closed rules notes item.qid region m slots k1 others keeps_ended)

    own : late ≡ false → HasItsStatus rules later t
    own on_time = last_of (HasOwnStatus rules later) (k.cq 0).ready t ((holds_after.own on_time).own_statuses 0) refl

    carried : late ≡ false → IsCarriedOut rules (Logged (event.ClosedSq item.qid region) ∷ notes) item.index answer
    carried on_time = let o = own on_time in record {
      entry = o.entry;
      is_there = o.is_there;
      picked = was_picked later 0 item.index stands.not_aborted done;
      whole = (holds_after.own on_time).effects_whole;
      finished = unheld_undeleting rules late later (with_ready k1 0 t) holds_after 0 item.index answerable.not_held;
      status = o.status;
      dw0 = o.dw0;
    }

    account_finished : late ≡ false → IsAccount rules finished
    account_finished on_time =
        let n = next-close rules late past k d without s.holds can_close holds_after.regions on_time in
        record {
          each = (
            record { first = unanswered; executed = rw (s.tags.passed.deletes region item flagged.is) (carried on_time) },
            (
              record {
                index_counts = n.index_counts;
                served_while_open = n.served_while_open;
                observed = tt;
                effects_at_once = n.effects_at_once;
                deletes = n.deletes;
                posts_own = tt;
                fetches_submitted = tt;
                posts_on_free_slot = tt;
                posts_what_is_through = tt;
                posts_in_order = tt;
              },
              (s.account on_time).each,
            ),
          );
          lawful = holds_after.arbitration.lawful;
          effects_whole = (holds_after.own on_time).effects_whole;
        }

    -- the controller stands there
    pub finished_item : (b : Controller) (pool : List Slot) → FinishesEnd m slots item.tag b pool → HasFinished rules late notes item.qid b pool
    finished_item b pool end = record {
      region = region;
      index = item.index;
      deletes = deletes;
      named = s.holds.lives.named item.qid region life;
      stands = record {
        content = with_ready k1 0 t;
        items = with_item others 0 (ended item.tag t);
        holds = holds_after;
        numbers = kept.numbers;
        has = kept.has;
        doorbells = kept.doorbells;
        tags = kept.tags;
        shown = record { held = s.shown.held; classed = s.shown.classed };
        ordered = order_answered (Logged (event.ClosedSq item.qid region) ∷ notes) k1 0 item.index 0 answer t holds_after.ready.admin_region refl s.ordered;
        regions = finished_made rules late past k d s.holds s.regions;
        account = account_finished;
      };
    } where
      kept : Keeps rules finished b pool (with_ready k1 0 t) (with_item others 0 (ended item.tag t))
      kept =
          end rules finished k1 others t keeps_finished loose
          (record { state_is = refl; sqid = held.queue; cid = refl; status_is = refl; dw0_is = refl })
          (inr (rw (eq-eqb item.index item.index refl) refl)) (s.tags.cookies.deletes region item flagged.is)
          (sym (s.tags.passed.deletes region item flagged.is)) (s.tags.flagged.none 0 item.index unanswered)
          0 s.numbers.cqs.ids.admin (put-other k.sq_id region None 0 (λ e. stands.not_admin (sym e)) ∙ s.numbers.sqs.ids.ids_are 0 0 s.numbers.sqs.ids.admin)

  -- ---- as it is finished
  pub finish_call : (tag n : ℕ) (table : PlacedTable) (p q b : Controller) (pool : List Slot) → tag ≡ (sq_at c.sqs qid).tag
      → ((start : Start) (h : TableHistory) → Tells c.table (queue_table start h) → Tells table (queue_table start (DeletionFinished qid ∷ h)))
      → p ≡ record c { table = table; sqs = slice_set c.sqs qid no_sq_state } → n ≡ p.pending_deletions - 1 → q ≡ record p { pending_deletions = n }
      → FinishesEnd q slots tag b pool → HasFinished rules late notes qid b pool
  finish_call tag n table p q b pool tag_as finishes p_is n_is q_is end =
      subst (λ (z : ℕ). HasFinished rules late notes z b pool) (sym qid_is)
      (finished_item table (subst (λ (z : ℕ). (start : Start) (h : TableHistory) → Tells c.table (queue_table start h) → Tells table (queue_table start (DeletionFinished z ∷ h))) qid_is finishes)
      b pool
      (subst (λ (y : ℕ). FinishesEnd (record c { table = table; sqs = slice_set c.sqs y no_sq_state; pending_deletions = c.pending_deletions - 1 }) slots item.tag b pool) qid_is
      (subst (λ (z : ℕ). FinishesEnd (record c { table = table; sqs = slice_set c.sqs qid no_sq_state; pending_deletions = c.pending_deletions - 1 }) slots z b pool) (tag_as ∙ sym flagged.tag_is)
      (subst (λ (z : Controller). FinishesEnd (record z { pending_deletions = z.pending_deletions - 1 }) slots tag b pool) p_is
      (subst (λ (z : ℕ). FinishesEnd (record p { pending_deletions = z }) slots tag b pool) n_is
      (subst (λ (z : Controller). FinishesEnd z slots tag b pool) q_is end))))))

-- ---- which can be finished
-- the queue of a deletion that can be finished, as it is kept
record IsFound (past : Past) (c : Controller) (region : ℕ) : Type 0 where
  qid : ℕ
  named : qid_of_region past region ≡ Some qid
  few : qid < 65
  is : IsFinishable c qid

found : (rules : FrontRules) (late : Bool) (notes : Notes) (c : Controller) (slots : List Slot) → StandsAt rules late notes c slots
    → (r i : ℕ) → deleting (logged notes) r ≡ Some i → unposted_of (logged notes) r ≡ 0 → IsFound (logged notes) c r
found rules late notes c slots s r i is posted = by (s.content.deletion r) refl where
  by : (o : Option PendingDelete) → s.content.deletion r ≡ o → IsFound (logged notes) c r
  by None none = absurd (let no : deleting (logged notes) r ≡ None = s.holds.deletion.place_is r ∙ ap (option_map (λ (x : PendingDelete). x.place.index)) none in cc (no, is))
  by (Some delete) some =
      let it = some_deletes c.sqs c.pending_deletions slots s.content.sq_life s.content.deletion s.items.deletes s.has.deletions r delete some in
      let flag = item_flagged c.sqs c.pending_deletions slots s.content.sq_life s.content.deletion s.items.deletes s.has.deletions r it.item it.is in
      let life = s.has.deletions.queues r it.item it.is in
      record {
        qid = it.item.qid;
        named = s.holds.lives.named it.item.qid r life;
        few = s.numbers.sqs.few it.item.qid r life;
        is = record { closing = flag; posted = (s.numbers.sqs.each it.item.qid r life).unposted ∙ s.holds.counts.unposted r ∙ posted };
      }

-- what the log says can be finished is kept so
pub finishable_was : (rules : FrontRules) (late : Bool) (notes : Notes) (c : Controller) (slots : List Slot) → StandsAt rules late notes c slots
    → (q : ℕ) → IsFinishableAt notes q → IsFinishable c q
finishable_was rules late notes c slots s q f =
    let it = found rules late notes c slots s f.region f.index f.deletes f.all_posted in
    subst (IsFinishable c) (same_Some it.qid q (sym it.named ∙ f.queue)) it.is

-- of each queue that is being deleted a command has no completion posted, where none can be finished
pub none_finishes : (rules : FrontRules) (late : Bool) (notes : Notes) (c : Controller) (slots : List Slot) → StandsAt rules late notes c slots
    → (c.pending_deletions ≡ 0) ⊎ ((q : ℕ) → q < 65 → IsFinishable c q → ⊥) → NoneFinishable notes
none_finishes rules late notes c slots s why r i is posted =
    let it = found rules late notes c slots s r i is posted in
    elim why [
      | inl idle ↦ it.is.closing (none_counted c.sqs c.pending_deletions slots s.content.sq_life s.content.deletion s.items.deletes s.has.deletions idle it.qid)
      | inr unfinishable ↦ unfinishable it.qid it.few it.is
    ]
