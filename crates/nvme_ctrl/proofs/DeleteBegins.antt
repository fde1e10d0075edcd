-- The deletion of a submission queue begins: its candidates are dropped, and its command waits in a slot of its own.
use Rattle.std.proofs.Common.{◌≡◌, ◌≢◌, ℕ, ◌+◌, ◌<◌, ◌≤◌, ◌^◌, List, [], ◌++◌, length, map, drop, Some, None, refl, sym, ap, ◌∙◌, subst, arith, inl, inr, eq-eqb, false, Option, is_some}
use Rattle.std.specs.Prelude.{slice_set, IsTrue, min}
use Rattle.std.proofs.lemmas.Bool.{cases_eq, cases_lt}
use Rattle.std.proofs.lemmas.List.{length-map, length-set, get_or-set_same, get_or-set_other, get_or_past}
use Rattle.std.proofs.lemmas.Option.{same_Some}
use Rattle.nvme_arbiter.specs.Board.{BoardView}
use Rattle.nvme_arbiter.specs.Layout.{is_arbiter, board_of}
use Rattle.nvme_arbiter.specs.declared.board_fields.BoardFields.{BoardFields}
use Rattle.nvme_arbiter.specs.declared.arbiter_fields.ArbiterFields.{ArbiterFields}
use Rattle.nvme_entry.specs.declared.submission.Sqe.{Sqe}
use Rattle.nvme_log.specs.Rules.{FrontRules}
use Rattle.nvme_log.specs.Dispatches.{place_at}
use Rattle.nvme_ctrl_log.specs.Notes.{Notes, logged}
use Rattle.nvme_ctrl_log.specs.Tags.{answer_of, holder, all_posts, is_passed}
use Rattle.nvme_slots.specs.declared.slot.Slot.{Slot}
use Rattle.nvme_ctrl.specs.declared.state.SqState.{SqState}
use Rattle.nvme_ctrl.specs.declared.state.Controller.{Controller}
use Rattle.nvme_ctrl_content.specs.Content.{Candidate, PendingDelete, SqContent, Content, put_sq, put_cq, put_deletion, with_sq}
use Rattle.nvme_ctrl_content.specs.Steps.{aborted}
use Rattle.nvme_ctrl.specs.kept.Kept.{HasNumbers, shown_in, Item, ReadyItem, DeleteItem, Items, deletion_in, put_delete, HasDeletions, IsUnanswered, IsWaitingIn, IsOutIn, IsReadyIn, IsCookie, HoldsCookies, HasItems, HoldsTags, candidate_of, is_free}
use Rattle.nvme_ctrl.specs.inside.Loose.{IsLoose, Keeps}
use Rattle.nvme_ctrl_content.specs.Carrying.{IsDroppable, dropped, deleting}
use Rattle.nvme_ctrl.specs.inside.Carrying.{HasDropped, HasBegun}
use Rattle.nvme_slots.specs.Pool.{slot_at, item_at, put_item}
use Rattle.nvme_ctrl.specs.kept.State.{sq_at}
use Rattle.nvme_ctrl.proofs.CarriedOut.{none_picked_of}
use Rattle.nvme_ctrl.proofs.Cookies.{SameCookies, same_cookies-but, cookie_left, items_left, readies_left}
use Rattle.nvme_ctrl_content.proofs.DeletingRegions.{Here, Elsewhere, is_put}
use Rattle.nvme_ctrl.proofs.PendingDeletions.{deletions_stay, none_deletes, deletions_begun}
use Rattle.nvme_ctrl.proofs.Dropping.{put_sq-twice, window_length}
use Rattle.nvme_ctrl.proofs.Lives.{one_id}
use Rattle.nvme_ctrl_content.proofs.OwnStatus.{All-unmap}
use Rattle.nvme_slots.proofs.Pools.{length-put_item, slot_at-put_item_same, item_at-put_item_other, chain-put_item}
use Rattle.nvme_ctrl.proofs.SlotItems.{All-both, same_state, waiting_stays, out_stays, ready_stays}
use Rattle.nvme_ctrl.proofs.Windowed.{keeps_region}
use Rattle.nvme_ctrl.proofs.QueueStates.{kept_there, sq_changed, put_sqs, waiting_kept, rings_kept}
use Rattle.nvme_ctrl.proofs.QueueSets.{rung-kept}
use Rattle.nvme_arbiter.specs.declared.pick.OpenQueue.{OpenQueue}
use Rattle.nvme_log.specs.Places.{fetched}
use Rattle.nvme_ctrl_log.specs.Doorbells.{submitted}

-- ---- the command waits
-- what is kept, where a slot that is in no list has the command of the deletion
module _ (rules : FrontRules) (notes : Notes) (a : Controller) (slots : List Slot) (k : Content) (g : Items) (h : Keeps rules notes a slots k g) (tag qid region : ℕ) (loose : IsLoose slots g tag)
    (candidate : Candidate) (entry : (slot_at slots tag).entry ≡ candidate.entry) (unanswered : answer_of notes 0 candidate.index ≡ None)
    (cookie : IsCookie notes slots tag (place_at 0 candidate.index)) (not_passed_on : is_passed notes candidate.index ≡ false)
    (board : BoardFields) (closed : board_of board ≡ record k.board { queues = slice_set k.board.queues qid None }) (arbiter : IsTrue (is_arbiter board.arbiter))
    (count : ℕ) (count_is : count ≡ min (a.pending_deletions + 1) 65535) (life : k.sq_life qid ≡ Some region) (undeleted : k.deletion region ≡ None) (first : (slot_at slots tag).sqid ≡ 0) where
  abbrev put : Slot
  put = record (slot_at slots tag) { state = 6 }

  abbrev pool : List Slot
  pool = put_item slots tag put

  abbrev closing : SqState
  closing = record (sq_at a.sqs qid) { tag = tag; closing = 1 }

  abbrev now : BoardView
  now = record k.board { queues = slice_set k.board.queues qid None }

  abbrev pending : Controller
  pending = record a { board = board; sqs = slice_set a.sqs qid closing; pending_deletions = count }

  abbrev begins : PendingDelete
  begins = record { place = place_at 0 candidate.index; cid = candidate.entry.cid; qid = qid; region = region }

  abbrev waiting_content : Content
  waiting_content = record k { board = now; deletion = put_deletion k.deletion region (Some begins) }

  abbrev item : DeleteItem
  item = record { tag = tag; index = candidate.index; qid = qid }

  abbrev later : Items
  later = record g { deletes = put_delete g.deletes region (Some item) }

  size : length pool ≡ length slots
  size = length-put_item slots tag put

  others : (y : ℕ) → y ≢ tag → item_at pool y ≡ item_at slots y
  others = item_at-put_item_other slots tag put

  here : slot_at pool tag ≡ record put { next = (slot_at slots tag).next }
  here = slot_at-put_item_same slots tag put loose.inside

  had_state : (x n : ℕ) → n ≤ 3 → (slot_at pool x).state ≡ n → (slot_at slots x).state ≡ n
  had_state x n low is = elim (cases_eq x tag) [
    | inl same ↦ absurd (let at : (slot_at pool tag).state ≡ n = subst (λ (y : ℕ). (slot_at pool y).state ≡ n) same is in
        let six = ap (λ (s : Slot). s.state) here in omega (arith, at, six, low))
    | inr other ↦ ap (λ (s : Slot). s.state) (sym (others x other)) ∙ is
  ]

  deletions_still : HasDeletions a.sqs a.pending_deletions pool k.sq_life k.deletion g.deletes
  deletions_still = deletions_stay a.sqs a.pending_deletions slots pool k.sq_life k.deletion g.deletes tag size others loose.deletes h.has.deletions

  begins_is : deletion_in pool region item ≡ begins
  begins_is = ap (λ (e : Sqe). record { place = place_at 0 candidate.index; cid = e.cid; qid = qid; region = region }) (ap (λ (s : Slot). s.entry) here ∙ entry)

  -- what holds of the Deletes, and of this one, holds of all
  each_delete : (P : DeleteItem → Type 0) → P item → ((r : ℕ) (it : DeleteItem) → g.deletes r ≡ Some it → P it) → (r : ℕ) (it : DeleteItem) → later.deletes r ≡ Some it → P it
  each_delete P here_too there r it is = elim (is_put g.deletes region (Some item) r it is) [
    | Here e same ↦ subst P (same_Some item it same) here_too
    | Elsewhere d at ↦ there r it at
  ]

  there : qid < length a.sqs
  there = kept_there a k h.numbers qid region life

  -- no queue is shown there
  hidden : shown_in now qid ≡ false
  hidden = elim (cases_lt qid (length k.board.queues)) [
    | inl below ↦ ap (λ (o : Option OpenQueue). is_some o) (get_or-set_same k.board.queues qid None None below)
    | inr beyond ↦ ap (λ (o : Option OpenQueue). is_some o) (get_or_past now.queues qid None (omega (arith, beyond, length-set {A = Option OpenQueue} k.board.queues qid None)))
  ]

  numbers_pending : HasNumbers pending waiting_content
  numbers_pending = let n = h.numbers in record {
    tells = n.tells;
    board_is = closed;
    is_arbiter = arbiter;
    outstanding_is = n.outstanding_is;
    sqs = (let w = n.sqs.each qid region life in put_sqs a k n qid region life closing a.rung k.sq k.held (shown_in now)
        (sq_changed k.table k.cq_life qid region (sq_at a.sqs qid) closing (k.sq region) (k.sq region) (k.held region) (k.held region) (shown_in k.board qid) (shown_in now qid) w refl refl w.unposted refl refl w.held (sym hidden))
        (λ r other. refl) (λ r other. refl) (λ q other. ap (λ (o : Option OpenQueue). is_some o) (get_or-set_other k.board.queues qid q None None other))
        (rung-kept a.rung qid a.sqs closing there n.sqs.rung (λ same. same)));
    cqs = n.cqs;
  }

  has_pending : HasItems pending pool waiting_content later
  has_pending = let m = h.has in record {
    windows = waiting_kept a.sqs a.picked a.picked_qid pool k.sq_life k.sq_id (λ (r : ℕ). (k.sq r).window) g.windows qid closing there refl (record {
      chain = λ q r is. chain-put_item slots _ _ tag put (m.windows.chain q r is);
      items = λ q r is. All-both (λ (it : Item). it.tag ≢ tag) (IsWaitingIn slots q r) (IsWaitingIn pool q r) (λ it. waiting_stays slots pool tag size others q r it) (g.windows r)
          (All-unmap (λ (x : ℕ). x ≢ tag) (λ (it : Item). it.tag) (g.windows r) (loose.windows r)) (m.windows.items q r is);
      none = m.windows.none;
      are = m.windows.are;
      picked_there = m.windows.picked_there;
    });
    outs = record {
      items = All-both (λ (it : Item). it.tag ≢ tag) (IsOutIn k.sq_id slots) (IsOutIn k.sq_id pool) (out_stays slots pool tag size others k.sq_id) g.outs
          (All-unmap (λ (x : ℕ). x ≢ tag) (λ (it : Item). it.tag) g.outs loose.outs) m.outs.items;
      apart = m.outs.apart;
      all = λ x is. m.outs.all x (had_state x 2 (omega arith) is);
      hand_is = m.outs.hand_is;
    };
    readies = record {
      chain = λ q x is. chain-put_item slots _ _ tag put (m.readies.chain q x is);
      items = λ x. All-both (λ (it : ReadyItem). it.tag ≢ tag) (IsReadyIn k.sq_id slots) (IsReadyIn k.sq_id pool) (ready_stays slots pool tag size others k.sq_id) (g.readies x)
          (All-unmap (λ (y : ℕ). y ≢ tag) (λ (it : ReadyItem). it.tag) (g.readies x) (loose.readies x)) (m.readies.items x);
      none = m.readies.none;
      are = m.readies.are;
    };
    deletions = subst (λ (d : PendingDelete). HasDeletions (slice_set a.sqs qid closing) count pool k.sq_life (put_deletion k.deletion region (Some d)) later.deletes) begins_is
        (deletions_begun a.sqs a.pending_deletions count pool k.sq_life k.deletion g.deletes qid region item deletions_still
        (λ q is. one_id k.sq_life k.sq_id h.numbers.sqs.ids q qid region is life) life refl (h.numbers.sqs.few qid region life)
        (none_deletes a.sqs a.pending_deletions slots k.sq_life k.deletion g.deletes m.deletions region undeleted)
        (record { inside = subst (λ (n : ℕ). tag < n) (sym size) loose.inside; state = ap (λ (s : Slot). s.state) here; queue = ap (λ (s : Slot). s.sqid) here ∙ first }) loose.deletes count_is h.numbers.sqs.size);
    free = record {
      chain = chain-put_item slots _ _ tag put m.free.chain;
      items = All-both (λ (x : ℕ). x ≢ tag) (is_free slots) (is_free pool) (λ x other. same_state slots pool tag size others x 0 other) g.free loose.free m.free.items;
    };
    few = subst (λ (n : ℕ). n < 2 ^ 16) (sym size) m.few;
  }

  tags_pending : HoldsTags notes pending pool waiting_content later
  tags_pending = let m = h.tags in record {
    untaken_are = m.untaken_are;
    held = record {
      outs = m.held.outs;
      readies = m.held.readies;
      none = λ x not_out not_answered. elim (cases_eq x tag) [
        | inl same ↦ subst (λ (y : ℕ). holder notes y ≡ None) (sym same) (m.held.none tag loose.not_out loose.not_answered)
        | inr other ↦ let state = ap (λ (s : Slot). s.state) (others x other) in
            m.held.none x (λ e. not_out (state ∙ e)) (λ e. not_answered (state ∙ e))
      ];
      answered = λ x is. m.held.answered x (had_state x 3 (omega arith) is);
    };
    through = m.through;
    unanswered = record {
      windows = m.unanswered.windows;
      outs = m.unanswered.outs;
      deletes = each_delete (λ (it : DeleteItem). IsUnanswered notes (place_at 0 it.index)) unanswered m.unanswered.deletes;
      none = m.unanswered.none;
    };
    hand_entries = m.hand_entries;
    free_count = m.free_count ∙ ap (λ (n : ℕ). n + all_posts (logged notes)) (sym size);
    cookies = cookies_pending;
    passed = (let p = m.passed in record { all_handed = p.all_handed; served = p.served; readies = p.readies; deletes = each_delete (λ (it : DeleteItem). is_passed notes it.index ≡ false) not_passed_on p.deletes });
    flagged = m.flagged;
  } where
    left : SameCookies slots pool
    left = same_cookies-but slots pool tag others (ap (λ (s : Slot). s.cookie) here)

    cookies_pending : HoldsCookies notes pool later
    cookies_pending = let q = h.tags.cookies in record {
      windows = λ r. items_left notes slots pool left (g.windows r) (q.windows r);
      outs = items_left notes slots pool left g.outs q.outs;
      readies = λ x. readies_left notes slots pool left (g.readies x) (q.readies x);
      deletes = each_delete (λ (it : DeleteItem). IsCookie notes pool it.tag (place_at 0 it.index)) (cookie_left notes slots pool left tag (place_at 0 candidate.index) cookie)
          (λ r it is. cookie_left notes slots pool left it.tag (place_at 0 it.index) (q.deletes r it is));
      none = q.none;
    }

  pub begun_pending : HasBegun rules notes waiting_content pending pool
  begun_pending = record {
    items = later;
    numbers = numbers_pending;
    has = has_pending;
    doorbells = record {
      sqs = rings_kept a.sqs k.sq_life (λ (r : ℕ). (k.sq r).queue) (fetched (logged notes)) (submitted rules notes) qid closing there refl h.doorbells.sqs;
      cqs = h.doorbells.cqs;
    };
    tags = tags_pending;
  }

-- ---- the unposted places
-- the content after all candidates of a region count as unposted, and are dropped
dropped_counted : (k : Content) (qid region c n : ℕ) → dropped (with_sq k region (record (k.sq region) { unposted = n })) qid region c
    ≡ (record k {
      sq = put_sq k.sq region (record (k.sq region) { window = []; unposted = n });
      cq = put_cq k.cq c (record (k.cq c) { ready = (k.cq c).ready ++ map (aborted qid region) (k.sq region).window });
    })
dropped_counted k qid region c n = λ t. record k { sq = λ x. sq x t; cq = λ x. cq x t } where
  s : SqContent
  s = record (k.sq region) { unposted = n }

  here : put_sq k.sq region s region ≡ s
  here = rw (eq-eqb region region refl) refl

  sq : (x : ℕ) → put_sq (put_sq k.sq region s) region (record (put_sq k.sq region s region) { window = [] }) x ≡ put_sq k.sq region (record (k.sq region) { window = []; unposted = n }) x
  sq x =
      ap (λ (z : SqContent). put_sq (put_sq k.sq region s) region (record z { window = [] }) x) here
      ∙ put_sq-twice k.sq region s (record (k.sq region) { window = []; unposted = n }) x

  cq : (x : ℕ) → put_cq k.cq c (record (k.cq c) { ready = (k.cq c).ready ++ map (aborted qid region) (put_sq k.sq region s region).window }) x
      ≡ put_cq k.cq c (record (k.cq c) { ready = (k.cq c).ready ++ map (aborted qid region) (k.sq region).window }) x
  cq x = ap (λ (z : SqContent). put_cq k.cq c (record (k.cq c) { ready = (k.cq c).ready ++ map (aborted qid region) z.window }) x) here

-- the sum isn't capped
pub n_counted : (rules : FrontRules) (notes : Notes) (a : Controller) (slots : List Slot) (k : Content) (g : Items) (qid region : ℕ) (sq : SqState) → Keeps rules notes a slots k g → a.picked ≡ 0
    → k.sq_life qid ≡ Some region → sq ≡ sq_at a.sqs qid → (k.sq region).unposted + length (k.sq region).window < 2 ^ 16 → min (sq.unposted + sq.window.len) 65535 ≡ sq.unposted + sq.window.len
n_counted rules notes a slots k g qid region sq h none life sq_is few =
    let many : length (k.sq region).window ≡ length (g.windows region) =
    ap (λ (w : List Candidate). length w) (h.has.windows.are region ∙ ap (λ (i : ℕ). map candidate_of (drop i (g.windows region))) (none_picked_of a (k.sq_id region) none))
    ∙ length-map (g.windows region) candidate_of in
    let len = window_length rules notes a slots k g qid region h life in
    let unposted = (h.numbers.sqs.each qid region life).unposted in
    let same = ap (λ (s : SqState). s.unposted) sq_is in
    let as_long = ap (λ (s : SqState). s.window.len) sq_is in
    omega arith

-- ---- all of it
module _ (rules : FrontRules) (notes : Notes) (a : Controller) (slots : List Slot) (k : Content) (g : Items) (tag qid region c : ℕ) (candidate : Candidate)
    (h : Keeps rules notes a slots k g) (none : a.picked ≡ 0) (loose : IsLoose slots g tag) (entry : (slot_at slots tag).entry ≡ candidate.entry)
    (unanswered : answer_of notes 0 candidate.index ≡ None) (cookie : IsCookie notes slots tag (place_at 0 candidate.index)) (not_passed_on : is_passed notes candidate.index ≡ false) (d : IsDroppable notes k qid region c)
    (first : (slot_at slots tag).sqid ≡ 0)
    (sq : SqState) (n : ℕ) (sq_is : sq ≡ sq_at a.sqs qid) (n_is : n ≡ sq.unposted + sq.window.len)
    (m : Controller) (m_is : m ≡ record a { sqs = slice_set a.sqs qid (record sq { unposted = n }) }) where
  abbrev count : ℕ
  count = (k.sq region).unposted + length (k.sq region).window

  abbrev pub counted : Content
  counted = with_sq k region (record (k.sq region) { unposted = count })

  n_counts : n ≡ count
  n_counts =
      let many : length (k.sq region).window ≡ length (g.windows region) =
      ap (λ (w : List Candidate). length w) (h.has.windows.are region ∙ ap (λ (i : ℕ). map candidate_of (drop i (g.windows region))) (none_picked_of a (k.sq_id region) none))
      ∙ length-map (g.windows region) candidate_of in
      let len = window_length rules notes a slots k g qid region h d.there in
      let unposted = (h.numbers.sqs.each qid region d.there).unposted in
      let same = ap (λ (s : SqState). s.unposted) sq_is in
      let as_long = ap (λ (s : SqState). s.window.len) sq_is in
      omega arith

  -- all of its candidates count as unposted
  pub keeps_counted : Keeps rules notes m slots counted g
  keeps_counted =
      subst (λ (z : Controller). Keeps rules notes z slots counted g)
      (sym (m_is ∙ ap (λ (z : SqState). record a { sqs = slice_set a.sqs qid (record z { unposted = n }) }) sq_is))
      (keeps_region rules notes a slots k g qid region (record (sq_at a.sqs qid) { unposted = n }) (record (k.sq region) { unposted = count }) k.held k.classed (h.numbers.sqs.each qid region d.there).held (λ r other. refl) h none d.there refl refl refl refl refl refl n_counts refl refl)

  pub droppable_counted : IsDroppable notes counted qid region c
  droppable_counted = record {
    there = d.there;
    attached = rw (eq-eqb region region refl) d.attached;
    are_aborted = rw (eq-eqb region region refl) d.are_aborted;
    io = d.io;
    undeleted = d.undeleted;
  }

  -- they are dropped, and the deletion is pending
  pub begun_deleting : (w b : Controller) (mid pool : List Slot) (board : BoardFields) (pending : ℕ) → HasDropped rules notes (dropped counted qid region c) slots tag w mid
      → board_of board ≡ record (board_of w.board) { queues = slice_set (board_of w.board).queues qid None } → board.arbiter ≡ w.board.arbiter
      → pool ≡ put_item mid tag (record (slot_at mid tag) { state = 6 }) → pending ≡ min (w.pending_deletions + 1) 65535
      → b ≡ record w { board = board; sqs = slice_set w.sqs qid (record (sq_at w.sqs qid) { tag = tag; closing = 1 }); pending_deletions = pending }
      → HasBegun rules notes (deleting k qid region c candidate) b pool
  begun_deleting w b mid pool board pending e closed arbiter pool_is pending_is b_is =
      subst (λ (z : Controller). HasBegun rules notes (deleting k qid region c candidate) z pool) (sym b_is)
      (subst (λ (z : List Slot). HasBegun rules notes (deleting k qid region c candidate) (record w { board = board; sqs = slice_set w.sqs qid (record (sq_at w.sqs qid) { tag = tag; closing = 1 }); pending_deletions = pending }) z)
      (sym pool_is)
      (subst (λ (z : Content). HasBegun rules notes (record z { board = now; deletion = put_deletion k.deletion region (Some (record { place = place_at 0 candidate.index; cid = candidate.entry.cid; qid = qid; region = region })) })
      (record w { board = board; sqs = slice_set w.sqs qid (record (sq_at w.sqs qid) { tag = tag; closing = 1 }); pending_deletions = pending }) (put_item mid tag (record (slot_at mid tag) { state = 6 })))
      (dropped_counted k qid region c count)
      (begun_pending rules notes w mid (dropped counted qid region c) e.items e.keeps tag qid region e.loose candidate (ap (λ (z : Slot). z.entry) e.slot ∙ entry) unanswered (cookie ∙ ap (λ (z : Slot). Some z.cookie) (sym e.slot)) not_passed_on
      board (closed ∙ ap (λ (z : BoardView). record z { queues = slice_set z.queues qid None }) e.keeps.numbers.board_is) (subst (λ (z : ArbiterFields). IsTrue (is_arbiter z)) (sym arbiter) e.keeps.numbers.is_arbiter)
      pending pending_is d.there d.undeleted (ap (λ (z : Slot). z.sqid) e.slot ∙ first)))) where
        now : BoardView
        now = record k.board { queues = slice_set k.board.queues qid None }
