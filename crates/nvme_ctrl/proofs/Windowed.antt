-- A controller with another state of a submission queue: the chain of the commands that wait in it, or its count of unposted places.
use Rattle.std.proofs.Common.{◌≡◌, ◌≢◌, ℕ, ◌+◌, ◌<◌, ◌≤◌, ◌^◌, ◌==◌, Bool, true, false, if◌then◌else◌, List, [], ◌++◌, length, map, take, drop, Option, Some, refl, sym, ap, ◌∙◌, subst, arith, inl, inr, eq-eqb, None}
use Rattle.std.specs.Prelude.{slice_set, option_map, IsTrue}
use Rattle.std.specs.List.{All}
use Rattle.std.proofs.lemmas.Bool.{cases_eq, ne_eqb}
use Rattle.std.proofs.lemmas.Option.{none-some, same_Some}
use Rattle.std.proofs.lemmas.List.{get_or-set_same, get_or-set_other}
use Rattle.std.proofs.lemmas.List.Elements.{All-weaker, All-map}
use Rattle.nvme_arbiter.specs.Board.{BoardView}
use Rattle.nvme_arbiter.specs.Layout.{is_arbiter, board_of}
use Rattle.nvme_arbiter.specs.declared.board_fields.BoardFields.{BoardFields}
use Rattle.nvme_arbiter.specs.declared.settings.Class.{Class}
use Rattle.nvme_placing.specs.Telling.{Tells}
use Rattle.nvme_admin.specs.QueueTable.{QueueTable}
use Rattle.nvme_admin.specs.declared.verdict.SqEntry.{SqEntry}
use Rattle.nvme_placing.specs.declared.table.PlacedTable.{PlacedTable}
use Rattle.nvme_log.specs.Rules.{FrontRules}
use Rattle.nvme_log.specs.Dispatches.{place_at}
use Rattle.nvme_log.specs.Places.{fetched}
use Rattle.nvme_ctrl_log.specs.Notes.{Notes, logged}
use Rattle.nvme_ctrl_log.specs.Doorbells.{submitted}
use Rattle.nvme_slots.specs.Rings.{HasCounts}
use Rattle.nvme_ctrl_log.specs.Tags.{taken, all_posts}
use Rattle.nvme_slots.specs.declared.slot.Slot.{Slot}
use Rattle.nvme_slots.specs.declared.chain.Chain.{Chain}
use Rattle.nvme_slots.specs.declared.ring.Ring.{Ring}
use Rattle.nvme_ctrl.specs.declared.state.SqState.{SqState}
use Rattle.nvme_ctrl.specs.declared.state.Controller.{Controller}
use Rattle.nvme_ctrl_content.specs.Content.{PendingDelete, SqContent, Content, with_sq}
use Rattle.nvme_ctrl.specs.kept.Kept.{Item, ReadyItem, DeleteItem, Items, HasDeletions, deletion_in, picked_of, picked_region, IsWaitingIn, IsOutIn, IsReadyIn, IsUnanswered, HasEntry, HasCookie, HoldsCookies, HasNumbers, HasItems, HoldsDoorbells, HoldsTags, tags_of, places_of, ready_tags, candidate_of, untaken, is_free, IsSq, shown_in}
use Rattle.nvme_ctrl.specs.inside.Loose.{Keeps}
use Rattle.nvme_slots.specs.Pool.{slot_at, flags_in, IsChain, IsNew, SameItems, SameLinks}
use Rattle.nvme_ctrl.specs.kept.State.{no_sq_state, sq_at}
use Rattle.nvme_ctrl_log.proofs.LifeLaws.{StaysIn}
use Rattle.nvme_ctrl.proofs.Passed.{passed_left}
use Rattle.nvme_ctrl.proofs.Cookies.{SameCookies, same_cookies, cookie_left, items_left, readies_left}
use Rattle.nvme_slots.proofs.Pools.{chain-other}
use Rattle.nvme_ctrl.proofs.SlotItems.{ready_state-range}
use Rattle.nvme_ctrl.proofs.PendingDeletions.{deletions_kept}
use Rattle.nvme_ctrl_content.proofs.DeletingRegions.{put-same, put-other}
use Rattle.nvme_ctrl.proofs.QueueStates.{sq_changed, put_sqs, each_sqs}
use Rattle.nvme_ctrl.proofs.QueueSets.{rung-kept}

-- other items in the window of a region
abbrev pub with_window : Items → ℕ → List Item → Items
with_window g region items = record g { windows = λ r. if r == region then items else g.windows r }

-- where they are the same, all is
pub same_windows : (g : Items) (region : ℕ) → with_window g region (g.windows region) ≡ g
same_windows g region = λ t. record g { windows = λ r. each r t } where
  each : (r : ℕ) → (if r == region then g.windows region else g.windows r) ≡ g.windows r
  each r = elim (cases_eq r region) [
    | inl same ↦ subst (λ (x : ℕ). (if x == region then g.windows region else g.windows x) ≡ g.windows x) (sym same) (rw (eq-eqb region region refl) refl)
    | inr other ↦ rw (ne_eqb r region other) refl
  ]

-- ---- where none is picked
-- none is in a region
pub none_picked_of : (c : Controller) (o : Option ℕ) → c.picked ≡ 0 → picked_of c o ≡ 0
none_picked_of c None none = refl
none_picked_of c (Some q) none = by (q == c.picked_qid) where
  by : (b : Bool) → (if b then c.picked else 0) ≡ 0
  by true = none
  by false = refl

-- and none is untaken
pub none_untaken : (c : Controller) (k : Content) (g : Items) → c.picked ≡ 0 → untaken c k g ≡ []
none_untaken c k g none = ap (λ (n : ℕ). take n (g.windows (picked_region c k))) none

-- ---- pending deletions
-- they stay where what is in each slot is left
deletions_same : (states : List SqState) (deleting : ℕ) (slots pool : List Slot) (lives : ℕ → Option ℕ) (kept : ℕ → Option PendingDelete) (deletes : ℕ → Option DeleteItem)
    → SameItems slots pool → HasDeletions states deleting slots lives kept deletes → HasDeletions states deleting pool lives kept deletes
deletions_same states deleting slots pool lives kept deletes same h = record {
  are = λ r. h.are r ∙ each r (deletes r);
  tags = h.tags;
  queues = h.queues;
  items = λ r it is. let was = h.items r it is in let e = same.items it.tag in record {
    inside = subst (λ (n : ℕ). it.tag < n) (sym same.size) was.inside;
    state = ap (λ (x : Slot). x.state) e ∙ was.state;
    queue = ap (λ (x : Slot). x.sqid) e ∙ was.queue;
  };
  apart = h.apart;
  counted = h.counted;
} where
  each : (r : ℕ) (o : Option DeleteItem) → option_map (deletion_in slots r) o ≡ option_map (deletion_in pool r) o
  each r None = refl
  each r (Some it) = ap (λ (x : Slot). Some (record { place = place_at 0 it.index; cid = x.entry.cid; qid = it.qid; region = r })) (sym (same.items it.tag))

-- ---- another state of a queue
module _ (rules : FrontRules) (notes : Notes) (a : Controller) (slots : List Slot) (k : Content) (g : Items) (h : Keeps rules notes a slots k g) (none_picked : a.picked ≡ 0)
    (qid region : ℕ) (live : k.sq_life qid ≡ Some region) (s : SqState) (c : SqContent) (items : List Item) (pool : List Slot)
    (hs : ℕ → Bool) (cs : ℕ → Option Class) (held : (s.held == 1) ≡ hs region) (held_left : (r : ℕ) → r ≢ region → k.held r ≡ hs r)
    (same : SameItems slots pool) (links : SameLinks (tags_of (g.windows region)) slots pool)
    (ring : s.ring ≡ (sq_at a.sqs qid).ring) (to : s.cqid ≡ (sq_at a.sqs qid).cqid) (closing : s.closing ≡ (sq_at a.sqs qid).closing) (deleted : s.tag ≡ (sq_at a.sqs qid).tag) (queue : c.queue ≡ (k.sq region).queue) (unposted : s.unposted ≡ c.unposted)
    (slots_are : c.slots ≡ (k.sq region).slots)
    (linked : IsChain pool s.window (tags_of items)) (waiting : All (IsWaitingIn slots qid region) items) (window : c.window ≡ map candidate_of items)
    (unanswered : All (λ (it : Item). IsUnanswered notes it.place) items) (cookies : All (HasCookie notes slots) items) where
  abbrev after : Controller
  after = record a { sqs = slice_set a.sqs qid s }

  abbrev kept : Content
  kept = record (with_sq k region c) { held = hs; classed = cs }

  abbrev later : Items
  later = with_window g region items

  there : qid < length a.sqs
  there = omega (arith, h.numbers.sqs.size, h.numbers.sqs.few qid region live)

  -- another queue is on another region
  apart : (q r : ℕ) → k.sq_life q ≡ Some r → q ≢ qid → r ≢ region
  apart q r is other e =
      let one = h.numbers.sqs.ids.ids_are q r is in
      let two = h.numbers.sqs.ids.ids_are qid region live in
      other (same_Some q qid (sym one ∙ ap k.sq_id e ∙ two))

  -- what is so of each submission region
  each_region : (P : ℕ → SqContent → List Item → Type 0) → P region c items → ((r : ℕ) → r ≢ region → P r (k.sq r) (g.windows r))
      → (r : ℕ) → P r (kept.sq r) (later.windows r)
  each_region P here other r = elim (cases_eq r region) [
    | inl is ↦ subst (λ (n : ℕ). P n (kept.sq n) (later.windows n)) (sym is) (rw (eq-eqb region region refl) here)
    | inr differs ↦ rw (ne_eqb r region differs) (other r differs)
  ]

  -- what is so of each submission queue
  each_but : (P : ℕ → ℕ → SqState → SqContent → List Item → Type 0) → P qid region s c items
      → ((q r : ℕ) → k.sq_life q ≡ Some r → q ≢ qid → P q r (sq_at a.sqs q) (k.sq r) (g.windows r))
      → (q r : ℕ) → k.sq_life q ≡ Some r → P q r (sq_at after.sqs q) (kept.sq r) (later.windows r)
  each_but P here other q r is = elim (cases_eq q qid) [
    | inl e ↦
        let at : r ≡ region = same_Some r region (sym is ∙ ap k.sq_life e ∙ live) in
        subst (λ (n : ℕ). P n r (sq_at after.sqs n) (kept.sq r) (later.windows r)) (sym e)
        (subst (λ (n : ℕ). P qid n (sq_at after.sqs qid) (kept.sq n) (later.windows n)) (sym at)
        (subst (λ (x : SqState). P qid region x (kept.sq region) (later.windows region)) (sym (get_or-set_same a.sqs qid s no_sq_state there))
        (rw (eq-eqb region region refl) here)))
    | inr differs ↦ subst (λ (x : SqState). P q r x (kept.sq r) (later.windows r)) (sym (get_or-set_other a.sqs qid q s no_sq_state differs))
        (rw (ne_eqb r region (apart q r is differs)) (other q r is differs))
  ]

  each : (P : ℕ → ℕ → SqState → SqContent → List Item → Type 0) → P qid region s c items
      → ((q r : ℕ) → k.sq_life q ≡ Some r → P q r (sq_at a.sqs q) (k.sq r) (g.windows r))
      → (q r : ℕ) → k.sq_life q ≡ Some r → P q r (sq_at after.sqs q) (kept.sq r) (later.windows r)
  each P here other = each_but P here (λ q r is differs. other q r is)

  -- what is in a slot is left
  still_waits : (q r : ℕ) (it : Item) → IsWaitingIn slots q r it → IsWaitingIn pool q r it
  still_waits q r it w = let e = same.items it.tag in record {
    state = ap (λ (x : Slot). x.state) e ∙ w.state;
    queue = ap (λ (x : Slot). x.sqid) e ∙ w.queue;
    entry = ap (λ (x : Slot). x.entry) e ∙ w.entry;
    place = w.place;
  }

  still_out : (it : Item) → IsOutIn k.sq_id slots it → IsOutIn k.sq_id pool it
  still_out it w = let e = same.items it.tag in record {
    inside = subst (λ (n : ℕ). it.tag < n) (sym same.size) w.inside;
    state = ap (λ (x : Slot). x.state) e ∙ w.state;
    queue = w.queue ∙ ap (λ (x : Slot). Some x.sqid) (sym e);
    entry = ap (λ (x : Slot). x.entry) e ∙ w.entry;
  }

  still_ready : (x : ReadyItem) → IsReadyIn k.sq_id slots x → IsReadyIn k.sq_id pool x
  still_ready x w = let e = same.items x.tag in record {
    state = ap (λ (y : Slot). y.state) e ∙ w.state;
    queue = w.queue ∙ ap (λ (y : Slot). Some y.sqid) (sym e);
    sqid = ap (λ (y : Slot). y.sqid) e ∙ w.sqid;
    cid = ap (λ (y : Slot). y.entry.cid) e ∙ w.cid;
    sct = ap (λ (y : Slot). y.sct) e ∙ w.sct;
    few_types = subst (λ (n : ℕ). n < 8) (sym (ap (λ (y : Slot). y.sct) e)) w.few_types;
    sc = ap (λ (y : Slot). y.sc) e ∙ w.sc;
    dw0 = ap (λ (y : Slot). y.dw0) e ∙ w.dw0;
    not_both = w.not_both;
    flags = ap flags_in e ∙ w.flags;
  }

  had_state : (x n : ℕ) → (slot_at pool x).state ≡ n → (slot_at slots x).state ≡ n
  had_state x n is = ap (λ (y : Slot). y.state) (sym (same.items x)) ∙ is

  -- no slot of another state waits in the queue, nor one of another queue
  state_apart : (x n : ℕ) → (slot_at slots x).state ≡ n → n ≢ 1 → IsNew x (tags_of (g.windows region))
  state_apart x n is not =
      All-map (λ (y : ℕ). y ≢ x) (λ (it : Item). it.tag) (g.windows region)
      (All-weaker (IsWaitingIn slots qid region) (λ (it : Item). it.tag ≢ x) (λ it w e. not (sym is ∙ ap (λ (y : ℕ). (slot_at slots y).state) (sym e) ∙ w.state)) (g.windows region)
      (h.has.windows.items qid region live))

  queue_apart : (x q : ℕ) → (slot_at slots x).sqid ≡ q → q ≢ qid → IsNew x (tags_of (g.windows region))
  queue_apart x q is not =
      All-map (λ (y : ℕ). y ≢ x) (λ (it : Item). it.tag) (g.windows region)
      (All-weaker (IsWaitingIn slots qid region) (λ (it : Item). it.tag ≢ x) (λ it w e. not (sym is ∙ ap (λ (y : ℕ). (slot_at slots y).sqid) (sym e) ∙ w.queue)) (g.windows region)
      (h.has.windows.items qid region live))

  windows_apart : (q r : ℕ) → k.sq_life q ≡ Some r → q ≢ qid → All (λ (x : ℕ). IsNew x (tags_of (g.windows region))) (tags_of (g.windows r))
  windows_apart q r is other =
      All-map (λ (x : ℕ). IsNew x (tags_of (g.windows region))) (λ (it : Item). it.tag) (g.windows r)
      (All-weaker (IsWaitingIn slots q r) (λ (it : Item). IsNew it.tag (tags_of (g.windows region))) (λ it w. queue_apart it.tag q w.queue other) (g.windows r) (h.has.windows.items q r is))

  readies_apart : (y : ℕ) → All (λ (x : ℕ). IsNew x (tags_of (g.windows region))) (ready_tags (g.readies y))
  readies_apart y =
      All-map (λ (x : ℕ). IsNew x (tags_of (g.windows region))) (λ (it : ReadyItem). it.tag) (g.readies y)
      (All-weaker (IsReadyIn k.sq_id slots) (λ (it : ReadyItem). IsNew it.tag (tags_of (g.windows region)))
      (λ it w. state_apart it.tag _ w.state (λ e. absurd (let low = (ready_state-range it.was_out it.ready.with_queue).0 in omega (arith, e, low)))) (g.readies y) (h.has.readies.items y))

  left : (ch : Chain) (xs : List ℕ) → IsChain slots ch xs → All (λ (x : ℕ). IsNew x (tags_of (g.windows region))) xs → IsChain pool ch xs
  left ch xs is apart = chain-other slots pool ch xs (tags_of (g.windows region)) is links same.size apart

  here : IsSq k.table k.cq_life qid region s c (hs region) (shown_in k.board qid)
  here =
      let w = h.numbers.sqs.each qid region live in
      sq_changed k.table k.cq_life qid region (sq_at a.sqs qid) s (k.sq region) c (k.held region) (hs region) (shown_in k.board qid) (shown_in k.board qid) w to (ap (λ (z : Ring). z.slots) ring) unposted queue
      slots_are held (ap (λ (n : ℕ). n == 0) closing ∙ w.shown)

  numbers_after : HasNumbers after kept
  numbers_after = let n = h.numbers in record {
    tells = n.tells;
    board_is = n.board_is;
    is_arbiter = n.is_arbiter;
    outstanding_is = n.outstanding_is;
    sqs = put_sqs a k n qid region live s a.rung kept.sq hs (shown_in k.board)
        (subst (λ (y : SqContent). IsSq k.table k.cq_life qid region s y (hs region) (shown_in k.board qid)) (sym (put-same k.sq region c)) here)
        (λ r other. put-other k.sq region c r other) (λ r other. sym (held_left r other)) (λ q other. refl)
        (rung-kept a.rung qid a.sqs s there n.sqs.rung (λ same. ap (λ (z : Ring). z.head) ring ∙ same ∙ sym (ap (λ (z : Ring). z.tail) ring)));
    cqs = n.cqs;
  }

  items_after : HasItems after pool kept later
  items_after = let m = h.has in record {
    windows = record {
      chain = each_but (λ q r x y its. IsChain pool x.window (tags_of its)) linked (λ q r is other. left _ _ (m.windows.chain q r is) (windows_apart q r is other));
      items = each (λ q r x y its. All (IsWaitingIn pool q r) its) (All-weaker (IsWaitingIn slots qid region) (IsWaitingIn pool qid region) (still_waits qid region) items waiting)
          (λ q r is. All-weaker (IsWaitingIn slots q r) (IsWaitingIn pool q r) (still_waits q r) (g.windows r) (m.windows.items q r is));
      none = each_region (λ r y its. k.sq_id r ≡ None → its ≡ []) (λ none. absurd (none-some qid (sym none ∙ h.numbers.sqs.ids.ids_are qid region live))) (λ r other. m.windows.none r);
      are = each_region (λ r y its. y.window ≡ map candidate_of (drop (picked_of after (k.sq_id r)) its))
          (window ∙ ap (λ (n : ℕ). map candidate_of (drop n items)) (sym (none_picked_of after (k.sq_id region) none_picked))) (λ r other. m.windows.are r);
      picked_there = subst (λ (n : ℕ). n ≤ length (later.windows (picked_region after kept))) (sym none_picked) (omega arith);
    };
    outs = record {
      items = All-weaker (IsOutIn k.sq_id slots) (IsOutIn k.sq_id pool) still_out g.outs m.outs.items;
      apart = m.outs.apart;
      all = λ x is. m.outs.all x (had_state x 2 is);
      hand_is = m.outs.hand_is ∙ ap (λ (its : List Item). places_of (g.outs ++ its)) (none_untaken a k g none_picked ∙ sym (none_untaken after kept later none_picked));
    };
    readies = record {
      chain = λ q x is. left _ _ (m.readies.chain q x is) (readies_apart x);
      items = λ x. All-weaker (IsReadyIn k.sq_id slots) (IsReadyIn k.sq_id pool) still_ready (g.readies x) (m.readies.items x);
      none = m.readies.none;
      are = m.readies.are;
    };
    deletions = deletions_kept a.sqs a.pending_deletions pool k.sq_life k.deletion g.deletes qid s there closing deleted (deletions_same a.sqs a.pending_deletions slots pool k.sq_life k.deletion g.deletes same m.deletions);
    free = record {
      chain = left _ _ m.free.chain (All-weaker (is_free slots) (λ (x : ℕ). IsNew x (tags_of (g.windows region))) (λ x f. state_apart x 0 f (λ e. absurd (cc e))) g.free m.free.items);
      items = All-weaker (is_free slots) (is_free pool) (λ x f. ap (λ (y : Slot). y.state) (same.items x) ∙ f) g.free m.free.items;
    };
    few = subst (λ (n : ℕ). n < 2 ^ 16) (sym same.size) m.few;
  }

  doorbells_after : HoldsDoorbells rules notes after kept
  doorbells_after = let d = h.doorbells in record {
    sqs = record {
      each = each (λ q r x y its. HasCounts x.ring (length (fetched (logged notes) r)) (submitted rules notes r))
          (subst (λ (z : Ring). HasCounts z (length (fetched (logged notes) region)) (submitted rules notes region)) (sym ring) (d.sqs.each qid region live)) (λ q r is. d.sqs.each q r is);
      no_tails = each_region (λ r y its. y.queue ≡ None → submitted rules notes r ≡ 0) (λ none. d.sqs.no_tails region (sym queue ∙ none)) (λ r other. d.sqs.no_tails r);
    };
    cqs = d.cqs;
  }

  tags_after : HoldsTags notes after pool kept later
  tags_after = let m = h.tags in record {
    untaken_are = m.untaken_are ∙ ap (λ (its : List Item). taken notes ++ places_of its) (none_untaken a k g none_picked ∙ sym (none_untaken after kept later none_picked));
    held = record {
      outs = m.held.outs;
      readies = m.held.readies;
      none = λ x not_out not_answered. let e = ap (λ (y : Slot). y.state) (same.items x) in m.held.none x (λ is. not_out (e ∙ is)) (λ is. not_answered (e ∙ is));
      answered = λ x is. m.held.answered x (had_state x 3 is);
    };
    through = m.through;
    unanswered = record {
      windows = each_region (λ r y its. All (λ (it : Item). IsUnanswered notes it.place) its) unanswered (λ r other. m.unanswered.windows r);
      outs = m.unanswered.outs;
      deletes = m.unanswered.deletes;
      none = m.unanswered.none;
    };
    hand_entries = subst (λ (its : List Item). All (HasEntry (logged notes)) (g.outs ++ its)) (none_untaken a k g none_picked ∙ sym (none_untaken after kept later none_picked)) m.hand_entries;
    free_count = m.free_count ∙ ap (λ (n : ℕ). n + all_posts (logged notes)) (sym same.size);
    cookies = cookies_after;
    passed = passed_left notes g later (λ x. refl) refl m.passed;
    flagged = m.flagged;
  } where
    left : SameCookies slots pool
    left = same_cookies slots pool same

    cookies_after : HoldsCookies notes pool later
    cookies_after = let q = h.tags.cookies in record {
      windows = each_region (λ r y its. All (HasCookie notes pool) its) (items_left notes slots pool left items cookies) (λ r other. items_left notes slots pool left (g.windows r) (q.windows r));
      outs = items_left notes slots pool left g.outs q.outs;
      readies = λ x. readies_left notes slots pool left (g.readies x) (q.readies x);
      deletes = λ r it is. cookie_left notes slots pool left it.tag (place_at 0 it.index) (q.deletes r it is);
      none = q.none;
    }

  pub keeps_windowed : Keeps rules notes after pool kept later
  keeps_windowed = record { numbers = numbers_after; has = items_after; doorbells = doorbells_after; tags = tags_after; apart = h.apart }

-- ---- its count
-- the same commands wait
pub keeps_region : (rules : FrontRules) (notes : Notes) (a : Controller) (slots : List Slot) (k : Content) (g : Items) (qid region : ℕ) (s : SqState) (c : SqContent) (hs : ℕ → Bool) (cs : ℕ → Option Class)
    → (s.held == 1) ≡ hs region → ((r : ℕ) → r ≢ region → k.held r ≡ hs r) → Keeps rules notes a slots k g
    → a.picked ≡ 0 → k.sq_life qid ≡ Some region → s.ring ≡ (sq_at a.sqs qid).ring → s.window ≡ (sq_at a.sqs qid).window → s.cqid ≡ (sq_at a.sqs qid).cqid → s.closing ≡ (sq_at a.sqs qid).closing → s.tag ≡ (sq_at a.sqs qid).tag
    → c.queue ≡ (k.sq region).queue → s.unposted ≡ c.unposted
    → c.slots ≡ (k.sq region).slots → c.window ≡ (k.sq region).window → Keeps rules notes (record a { sqs = slice_set a.sqs qid s }) slots (record (with_sq k region c) { held = hs; classed = cs }) g
keeps_region rules notes a slots k g qid region s c hs cs held held_left h none live ring chain to closing deleted queue unposted slots_are window =
    subst (λ (f : Items). Keeps rules notes (record a { sqs = slice_set a.sqs qid s }) slots (record (with_sq k region c) { held = hs; classed = cs }) f) (same_windows g region)
    (keeps_windowed rules notes a slots k g h none qid region live s c (g.windows region) slots hs cs held held_left (record { size = refl; items = λ x. refl }) (λ x new. refl) ring to closing deleted queue unposted slots_are
    (subst (λ (ch : Chain). IsChain slots ch (tags_of (g.windows region))) (sym chain) (h.has.windows.chain qid region live)) (h.has.windows.items qid region live)
    (window ∙ h.has.windows.are region ∙ ap (λ (n : ℕ). map candidate_of (drop n (g.windows region))) (none_picked_of a (k.sq_id region) none)) (h.tags.unanswered.windows region) (h.tags.cookies.windows region))

-- ---- the board, and the number of outstanding places
pub keeps_outstanding : (rules : FrontRules) (notes : Notes) (a : Controller) (slots : List Slot) (k : Content) (g : Items) (board : BoardFields) (v : BoardView) (n m : ℕ) → Keeps rules notes a slots k g
    → board_of board ≡ v → IsTrue (is_arbiter board.arbiter) → ((q r : ℕ) → k.sq_life q ≡ Some r → shown_in v q ≡ shown_in k.board q) → n ≡ m → Keeps rules notes (record a { board = board; outstanding = n }) slots (record k { board = v; outstanding = m }) g
keeps_outstanding rules notes a slots k g board v n m h is arbiter shown same = record {
  numbers = (let n = h.numbers in record {
    tells = n.tells;
    board_is = is;
    is_arbiter = arbiter;
    outstanding_is = same;
    sqs = each_sqs a.sqs a.rung k.table k.table k.cq_life k.cq_life k.sq_life k.sq_id k.sq k.sq k.held k.held (shown_in k.board) (shown_in v)
        (λ q r is. subst (IsSq k.table k.cq_life q r (sq_at a.sqs q) (k.sq r) (k.held r)) (sym (shown q r is))) n.sqs;
    cqs = n.cqs;
  });
  has = (let m = h.has in record { windows = m.windows; outs = m.outs; readies = m.readies; deletions = m.deletions; free = m.free; few = m.few });
  doorbells = (let d = h.doorbells in record { sqs = d.sqs; cqs = d.cqs });
  tags = h.tags;
  apart = h.apart;
}

-- the board alone
pub keeps_board : (rules : FrontRules) (notes : Notes) (a : Controller) (slots : List Slot) (k : Content) (g : Items) (board : BoardFields) (v : BoardView) → Keeps rules notes a slots k g
    → board_of board ≡ v → IsTrue (is_arbiter board.arbiter) → ((q r : ℕ) → k.sq_life q ≡ Some r → shown_in v q ≡ shown_in k.board q) → Keeps rules notes (record a { board = board }) slots (record k { board = v }) g
keeps_board rules notes a slots k g board v h is arbiter shown = keeps_outstanding rules notes a slots k g board v a.outstanding k.outstanding h is arbiter shown h.numbers.outstanding_is

-- ---- the table
pub keeps_table : (rules : FrontRules) (notes : Notes) (a : Controller) (slots : List Slot) (k : Content) (g : Items) (table : PlacedTable) (t : QueueTable) → Keeps rules notes a slots k g
    → Tells table t → ((q r : ℕ) (entry : SqEntry) → k.sq_life q ≡ Some r → k.table.sq q ≡ Some entry → StaysIn t q entry)
    → Keeps rules notes (record a { table = table }) slots (record k { table = t }) g
keeps_table rules notes a slots k g table t h tells stays = record {
  numbers = (let n = h.numbers in record {
    tells = tells;
    board_is = n.board_is;
    is_arbiter = n.is_arbiter;
    outstanding_is = n.outstanding_is;
    sqs = each_sqs a.sqs a.rung k.table t k.cq_life k.cq_life k.sq_life k.sq_id k.sq k.sq k.held k.held (shown_in k.board) (shown_in k.board) (λ q r is w. let st = stays q r w.entry is w.in_table in record {
      entry = st.now;
      in_table = st.in_table;
      on = st.region ∙ w.on;
      to = st.cqid ∙ w.to;
      cq_region = w.cq_region;
      cq_open = w.cq_open;
      opened = w.opened;
      held = w.held;
      shown = w.shown;
      unposted = w.unposted;
      slots = w.slots;
      some = w.some;
    }) n.sqs;
    cqs = n.cqs;
  });
  has = (let m = h.has in record { windows = m.windows; outs = m.outs; readies = m.readies; deletions = m.deletions; free = m.free; few = m.few });
  doorbells = (let d = h.doorbells in record { sqs = d.sqs; cqs = d.cqs });
  tags = h.tags;
  apart = h.apart;
}
