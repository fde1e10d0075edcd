-- A fetch from a queue: when it may be made, and that the controller stands at its log afterwards.
use Rattle.std.proofs.Common.{◌≡◌, ◌≢◌, ℕ, ◌+◌, ◌-◌, ◌%◌, ◌^◌, ◌<◌, ◌≤◌, ◌==◌, Bool, false, if◌then◌else◌, List, [], ◌∷◌, ◌++◌, length, map, take, drop, Option, Some, None, refl, sym, ap, ◌∙◌, subst, arith, inl, inr, length-append, length-drop, true, ◌&&◌, is_some}
use Rattle.std.specs.Prelude.{slice_set, IsTrue, IsSomeAnd, IfSome, option_map, unwrap_or}
use Rattle.std.specs.List.{All}
use Rattle.std.proofs.lemmas.Bool.{cases_eq, eq-eqb, ne_eqb, and_parts, eqb-true}
use Rattle.std.proofs.lemmas.List.{length-map, map-append, take-append-le, drop-append-le}
use Rattle.std.proofs.lemmas.List.Elements.{All-nil, All-head, All-tail, All-same, All-cons, All-weaker, All-push}
use Rattle.std.proofs.lemmas.Option.{same_Some}
use Rattle.nvme_entry.specs.declared.submission.Sqe.{Sqe}
use Rattle.nvme_arbiter.specs.Board.{BoardView}
use Rattle.nvme_arbiter.specs.Layout.{board_of, is_arbiter}
use Rattle.nvme_arbiter.specs.Limits.{highest_count}
use Rattle.nvme_arbiter.specs.Queues.{queue_at}
use Rattle.nvme_arbiter.specs.declared.arbiter_fields.ArbiterFields.{ArbiterFields}
use Rattle.nvme_arbiter.specs.declared.board_fields.BoardFields.{BoardFields}
use Rattle.nvme_arbiter.specs.declared.pick.OpenQueue.{OpenQueue}
use Rattle.nvme_admin.specs.QueueTable.{QueueTable}
use Rattle.nvme_admin.specs.declared.verdict.SqEntry.{SqEntry}
use Rattle.nvme_log.specs.declared.event.Event.TheVariants.{Fetch}
use Rattle.nvme_log.specs.Limits.{window_of}
use Rattle.nvme_log.specs.Rules.{FrontRules, Past}
use Rattle.nvme_log.specs.Queues.{Queue, open_sq}
use Rattle.nvme_log.specs.Places.{fetched, waiting}
use Rattle.nvme_log.specs.Dispatches.{place_at}
use Rattle.nvme_log.specs.declared.place.Place.{Place}
use Rattle.nvme_ctrl_log.specs.Notes.{Notes, Logged, logged, Kept}
use Rattle.nvme_ctrl_log.specs.Doorbells.{submitted}
use Rattle.nvme_slots.specs.Rings.{HasCounts}
use Rattle.nvme_ctrl_log.specs.Account.{IsLawfulEvent, IsAccount, IsKept}
use Rattle.nvme_ctrl.specs.Calls.{depth_of, HasFetched}
use Rattle.nvme_ctrl_log.specs.Calls.{MayFetch}
use Rattle.nvme_ctrl_log.specs.Tags.{answer_of, holder, taken, is_out, all_fetches, all_posts, cookie_of}
use Rattle.nvme_slots.specs.declared.chain.Chain.{Chain}
use Rattle.nvme_slots.specs.declared.ring.Ring.{Ring}
use Rattle.nvme_slots.specs.declared.slot.Slot.{Slot}
use Rattle.nvme_ctrl.specs.declared.state.SqState.{SqState}
use Rattle.nvme_ctrl.specs.declared.state.Controller.{Controller}
use Rattle.nvme_ctrl_content.specs.Content.{Candidate, SqContent, Content}
use Rattle.nvme_ctrl.specs.inside.Fetching.{IsFetchable, waiting_in}
use Rattle.nvme_ctrl.specs.kept.Kept.{Item, Items, HasNumbers, HasItems, HoldsDoorbells, HoldsTags, StandsAt, IsWaitingIn, IsOutIn, IsUnanswered, HasEntry, is_free, tags_of, ready_tags, places_of, candidate_of, picked_region, picked_of, untaken, ReadyItem, IsReadyIn, IsCookie, HasCookie, HasReadyCookie, HoldsCookies, ready_state, IsSq, shown_in}
use Rattle.nvme_slots.specs.Pool.{slot_at, item_at, put_item, IsNew, AreApart, IsChain, SameItems, SameLinks}
use Rattle.nvme_ctrl_content.specs.Standing.{Holds, counted_on, on_board}
use Rattle.nvme_ctrl.specs.kept.State.{sq_at, cq_at, picked_in}
use Rattle.nvme_ctrl.proofs.Passed.{passed_left, passed_later}
use Rattle.nvme_log.proofs.Turns.{stays}
use Rattle.nvme_ctrl_content.proofs.AfterSteps.{CanFetch, fetched_sq, came_board, after_fetch}
use Rattle.nvme_ctrl.proofs.DoorbellCalls.{queue_of, is_open, unclosing_is_open, sq_lives, sq_there, slots_are}
use Rattle.nvme_ctrl_content.proofs.NextEvents.{next-fetch}
use Rattle.nvme_slots.proofs.Pools.{length-put_item, item_at-put_item_same, item_at-put_item_other, chain-put_item, chain-other, length-apart}
use Rattle.nvme_ctrl.proofs.Lives.{put_sq-lives}
use Rattle.nvme_ctrl.proofs.QueueStates.{put_content-each, put_sqs, sq_changed, shown_put}
use Rattle.nvme_ctrl_log.proofs.ServedPlaces.{entry_stays}
use Rattle.nvme_ctrl.proofs.SlotItems.{out_stays, all_waiting_stay, all_ready_stay, same_state, All-both, ready_state-range}
use Rattle.nvme_ctrl.proofs.SlotStates.{window-states, window-queues, ready-states, apart-by}
use Rattle.nvme_ctrl_log.proofs.OutTags.{still_not_out-logged}
use Rattle.nvme_ctrl_content.proofs.Standing.{holds-fetch}
use Rattle.nvme_ctrl_content.proofs.DeletingRegions.{put-same, put-other}
use Rattle.nvme_ctrl.proofs.PendingDeletions.{deletions_stay, deletions_kept}
use Rattle.nvme_ctrl.specs.kept.QueueSets.{with_queue}
use Rattle.nvme_ctrl.proofs.QueueSets.{rung-read}

-- ---- what waits
module _ (rules : FrontRules) (late : Bool) (notes : Notes) (c : Controller) (slots : List Slot) (s : StandsAt rules late notes c slots) where
  -- so many of a queue are picked
  pub picked_are : (q r : ℕ) → s.content.sq_life q ≡ Some r → picked_of c (s.content.sq_id r) ≡ picked_in c q
  picked_are q r life = ap (picked_of c) (s.numbers.sqs.ids.ids_are q r life)

  pub waiting_are : (q r : ℕ) → s.content.sq_life q ≡ Some r → length (s.content.sq r).window ≡ waiting_in c q
  waiting_are q r life =
      let len : (sq_at c.sqs q).window.len ≡ length (s.items.windows r) =
      (s.has.windows.chain q r life).len_is ∙ length-map (s.items.windows r) (λ (it : Item). it.tag) in
      ap (λ (xs : List Candidate). length xs) (s.has.windows.are r)
      ∙ length-map (drop (picked_of c (s.content.sq_id r)) (s.items.windows r)) candidate_of
      ∙ length-drop (picked_of c (s.content.sq_id r)) (s.items.windows r)
      ∙ ap (λ (n : ℕ). length (s.items.windows r) - n) (picked_are q r life)
      ∙ ap (λ (n : ℕ). n - picked_in c q) (sym len)

  -- as many wait by the log
  pub waits : (q r : ℕ) → s.content.sq_life q ≡ Some r → length (waiting (logged notes) r) ≡ waiting_in c q
  waits q r life =
      ap (λ (xs : List ℕ). length xs) (s.holds.regions r).waiting_is ∙ length-map (s.content.sq r).window (λ (x : Candidate). x.index) ∙ waiting_are q r life

  -- what waits stands in slots of its state
  pub all_wait : (r : ℕ) → All (λ (it : Item). (slot_at slots it.tag).state ≡ 1) (s.items.windows r)
  all_wait r = by (s.content.sq_id r) refl where
    by : (o : Option ℕ) → s.content.sq_id r ≡ o → All (λ (it : Item). (slot_at slots it.tag).state ≡ 1) (s.items.windows r)
    by None is = subst (λ (its : List Item). All (λ (it : Item). (slot_at slots it.tag).state ≡ 1) its) (sym (s.has.windows.none r is))
        (All-nil (λ (it : Item). (slot_at slots it.tag).state ≡ 1))
    by (Some q) is = All-weaker (IsWaitingIn slots q r) (λ (it : Item). (slot_at slots it.tag).state ≡ 1) (λ it w. w.state) (s.items.windows r)
        (s.has.windows.items q r (s.numbers.sqs.ids.lives_are r q is))

-- ---- when a fetch may be made
-- a count that is below a number is so of a queue that is held or not
below_on : (b : Bool) (n m : ℕ) → 0 < m → n < m → (if b then 0 else n) < m
below_on true n m some below = some
below_on false n m some below = below

-- one command more counts, unless its queue is held
came_on : (held kept : Bool) (n : ℕ) → held ≡ kept → (if held then (if kept then 0 else n) else (if kept then 0 else n) + 1) ≡ (if kept then 0 else n + 1)
came_on true true n e = refl
came_on false false n e = refl
came_on true false n e = absurd (cc e)
came_on false true n e = absurd (cc e)

-- a queue of a queue table is open, and the controller sees that it may be fetched from
pub record CanBeFetched (c : Controller) (t : QueueTable) (qid : ℕ) (e : SqEntry) : Type 0 where
  pub in_table : t.sq qid ≡ Some e
  pub not_closing : e.closing ≡ false
  pub some_free : c.free.len ≢ 0
  pub some_submitted : (sq_at c.sqs qid).ring.head ≢ (sq_at c.sqs qid).ring.tail
  pub in_depth : waiting_in c qid + (sq_at c.sqs qid).unposted < depth_of c qid
  pub room : waiting_in c qid < window_of (sq_at c.sqs qid).ring.slots

-- one is told so
pub record IsToldFetchable (c : Controller) (t : QueueTable) (qid : ℕ) : Type 0 where
  pub entry : SqEntry
  pub can : CanBeFetched c t qid entry

pub told_fetchable : (rules : FrontRules) (late : Bool) (notes : Notes) (c : Controller) (slots : List Slot) (s : StandsAt rules late notes c slots) (qid : ℕ) → IsFetchable c qid → IsToldFetchable c s.content.table qid
told_fetchable rules late notes c slots s qid can = by (s.content.sq_life qid) refl where
  by : (o : Option ℕ) → s.content.sq_life qid ≡ o → IsToldFetchable c s.content.table qid
  by None none =
      let state = s.numbers.sqs.none qid none in
      absurd (can.some_submitted (ap (λ (state : SqState). state.ring.head) state ∙ sym (ap (λ (state : SqState). state.ring.tail) state)))
  by (Some r) life =
      let it = unclosing_is_open rules late notes c slots s qid r life can.not_closing in
      record {
        entry = it.entry;
        can = record {
          in_table = it.in_table;
          not_closing = it.opened;
          some_free = can.some_free;
          some_submitted = can.some_submitted;
          in_depth = can.in_depth;
          room = can.room;
        };
      }

module _ (rules : FrontRules) (late : Bool) (notes : Notes) (c : Controller) (slots : List Slot) (s : StandsAt rules late notes c slots)
    (qid : ℕ) (e : SqEntry) (can : CanBeFetched c s.content.table qid e)
  where
    pub fetch_open : open_sq (logged notes) qid ≡ Some (queue_of e)
    fetch_open = is_open rules late notes c slots s qid e can.in_table can.not_closing

    pub fetch_life : s.content.sq_life qid ≡ Some e.region
    fetch_life = sq_lives rules late notes c slots s qid (queue_of e) fetch_open

    -- there is a place for its state
    pub few_queues : qid < 65
    few_queues = s.numbers.sqs.few qid e.region (s.holds.lives.sqs qid (queue_of e) fetch_open)

    pub can_fetch : CanFetch (logged notes) s.content qid (queue_of e)
    can_fetch = record {
      is_open = fetch_open;
      room = rw (waiting_are rules late notes c slots s qid e.region fetch_life, ← (s.numbers.sqs.each qid e.region fetch_life).slots) can.room;
    }

    fetch_counts : HasCounts (sq_at c.sqs qid).ring (length (fetched (logged notes) e.region)) (submitted rules notes e.region)
    fetch_counts = s.doorbells.sqs.each qid e.region fetch_life

    pub more_submitted : length (fetched (logged notes) e.region) < submitted rules notes e.region
    more_submitted =
        elim (cases_eq (length (fetched (logged notes) e.region)) (submitted rules notes e.region)) [
          | inl same ↦ absurd (can.some_submitted (fetch_counts.head_is ∙ ap (λ (n : ℕ). n % (sq_at c.sqs qid).ring.slots) same ∙ sym fetch_counts.tail_is))
          | inr other ↦ let order = fetch_counts.order in omega (arith, order, other)
        ]

    pub may_fetch : MayFetch rules notes (depth_of c qid) (length slots) qid (sq_at c.sqs qid).ring.head
    may_fetch = record {
      queue = queue_of e;
      is_open = fetch_open;
      submitted = more_submitted;
      in_depth = (let w = waits rules late notes c slots s qid e.region fetch_life in let u = (s.numbers.sqs.each qid e.region fetch_life).unposted in let all = s.holds.counts.unposted e.region in let room = can.in_depth in omega (arith, w, u, all, room));
      has_room = rw (waits rules late notes c slots s qid e.region fetch_life, ← slots_are rules late notes c slots s qid e.region fetch_life) can.room;
      some_free = let some = can.some_free in let count = s.tags.free_count in omega (arith, some, count);
      slot_is = fetch_counts.head_is ∙ ap (λ (n : ℕ). length (fetched (logged notes) e.region) % n) (slots_are rules late notes c slots s qid e.region fetch_life);
    }

    -- its queue is on the board
    pub on_its_board : queue_at (board_of c.board).queues qid ≡ Some (on_board s.content (queue_of e))
    on_its_board =
        ap (λ (b : BoardView). queue_at b.queues qid) s.numbers.board_is ∙ s.holds.queues.board qid
        ∙ ap (λ (o : Option Queue). option_map (on_board s.content) o) fetch_open

    pub may_come : IsSomeAnd (queue_at (board_of c.board).queues qid) (λ (queue : OpenQueue). queue.count < highest_count)
    may_come =
        let few : length (s.content.sq e.region).window < highest_count = let room = can_fetch.room in omega (arith, room) in
        rw on_its_board (below_on (s.content.held e.region) _ _ (omega arith) few)

-- ---- what a fetch leaves
-- the free slot that is taken is the first
pub record IsPopped (slots : List Slot) (xs : List ℕ) (new : Chain) (tag : ℕ) : Type 0 where
  pub rest : List ℕ
  pub are : xs ≡ tag ∷ rest
  pub chain : IsChain slots new rest

pub popped : (slots : List Slot) (old new : Chain) (tag : ℕ) (xs : List ℕ) → IsChain slots old xs → old.len ≢ 0
    → ((x : ℕ) (rest : List ℕ) → IsChain slots old (x ∷ rest) → Some tag ≡ Some x)
    → ((x : ℕ) (rest : List ℕ) → IsChain slots old (x ∷ rest) → IsChain slots new rest)
    → IsPopped slots xs new tag
popped slots old new tag [] h some is rest = absurd (some h.len_is)
popped slots old new tag (x ∷ xs) h some is rest = record {
  rest = xs;
  are = ap (λ (y : ℕ). y ∷ xs) (sym (same_Some tag x (is x xs h)));
  chain = rest x xs h;
}

-- a fetch leaves this: the free slots, the ring and the window of its queue, the board, and the pool, where a slot of the free ones has the command
pub record Fetches (c : Controller) (slots : List Slot) (qid : ℕ) (entry : Sqe) (cookie tag : ℕ) (slot : Slot) (free window : Chain) (ring : Ring)
    (board : BoardFields) (pool : List Slot) : Type 0 where
  pub held : Bool
  pub held_is : held ≡ ((sq_at c.sqs qid).held == 1)
  pub is_first : (x : ℕ) (rest : List ℕ) → IsChain slots c.free (x ∷ rest) → Some tag ≡ Some x
  pub free_left : (x : ℕ) (rest : List ℕ) → IsChain slots c.free (x ∷ rest) → IsChain slots free rest
  pub counts : (read written : ℕ) → HasCounts (sq_at c.sqs qid).ring read written → read < written → HasCounts ring (read + 1) written
  pub same_slots : ring.slots ≡ (sq_at c.sqs qid).ring.slots
  pub state : slot.state ≡ 1
  pub queue : slot.sqid ≡ qid
  pub has : slot.entry ≡ entry
  pub keeps : slot.cookie ≡ cookie
  pub chain : (xs : List ℕ) → IsChain (put_item slots tag slot) (sq_at c.sqs qid).window xs → tag < length (put_item slots tag slot) → IsNew tag xs
      → length xs + 1 < 2 ^ 16 → IsChain pool window (xs ++ tag ∷ [])
  pub items : SameItems (put_item slots tag slot) pool
  pub links : (xs : List ℕ) → IsChain (put_item slots tag slot) (sq_at c.sqs qid).window xs → SameLinks xs (put_item slots tag slot) pool
  pub came : IfSome (queue_at (board_of c.board).queues qid) (λ (queue : OpenQueue). board_of board ≡ record (board_of c.board) {
    queues = slice_set (board_of c.board).queues qid (Some (record queue { count = if held then queue.count else queue.count + 1 }));
  })
  pub arbiter : board.arbiter ≡ c.board.arbiter

abbrev pub fetched_state : SqState → Chain → Ring → SqState
fetched_state state window ring = record state { ring = ring; window = window }

-- a queue whose last entry was read leaves the set of those that may have some
abbrev pub rung_left : ℕ → ℕ → Ring → ℕ
rung_left set q ring = if ring.head == ring.tail then with_queue set q false else set

abbrev pub fetched_controller : Controller → ℕ → Chain → Chain → Ring → BoardFields → Controller
fetched_controller c q free window ring board =
    record c { sqs = slice_set c.sqs q (fetched_state (sq_at c.sqs q) window ring); free = free; board = board; rung = rung_left c.rung q ring }

abbrev pub fetched_item : (tag r n : ℕ) → Sqe → Item
fetched_item tag r n entry = record { tag = tag; place = place_at r n; entry = entry }

abbrev pub fetched_items : Items → ℕ → Item → List ℕ → Items
fetched_items g r it rest = record g { windows = λ (x : ℕ). if x == r then g.windows r ++ it ∷ [] else g.windows x; free = rest }

-- what was fetched is one more
fetched_more : (past : Past) (r n : ℕ) (entry : Sqe) → length (fetched (Fetch r n entry ∷ past) r) ≡ length (fetched past r) + 1
fetched_more past r n entry = rw (eq-eqb r r refl) (length-append (fetched past r) (entry ∷ []))

fetched_others : (past : Past) (r n : ℕ) (entry : Sqe) (x : ℕ) → x ≢ r → fetched (Fetch r n entry ∷ past) x ≡ fetched past x
fetched_others past r n entry x other = rw (ne_eqb r x (λ same. other (sym same))) refl

fetched_least : (past : Past) (r n : ℕ) (entry : Sqe) (x : ℕ) → length (fetched past x) ≤ length (fetched (Fetch r n entry ∷ past) x)
fetched_least past r n entry x = elim (cases_eq x r) [
  | inl same ↦ subst (λ (y : ℕ). length (fetched past y) ≤ length (fetched (Fetch r n entry ∷ past) y)) (sym same) (omega (arith, fetched_more past r n entry))
  | inr other ↦ rw (fetched_others past r n entry x other) (omega arith)
]

module _ (rules : FrontRules) (late : Bool) (notes : Notes) (c : Controller) (slots : List Slot) (s : StandsAt rules late notes c slots)
    (qid : ℕ) (e : SqEntry) (can : CanBeFetched c s.content.table qid e) (entry : Sqe) (cookie tag : ℕ) (slot : Slot) (free window : Chain) (ring : Ring) (board : BoardFields)
    (pool : List Slot) (f : Fetches c slots qid entry cookie tag slot free window ring board pool)
  where
    life : s.content.sq_life qid ≡ Some e.region
    life = fetch_life rules late notes c slots s qid e can

    its_items : All (IsWaitingIn slots qid e.region) (s.items.windows e.region)
    its_items = s.has.windows.items qid e.region life

    its_chain : IsChain slots (sq_at c.sqs qid).window (tags_of (s.items.windows e.region))
    its_chain = s.has.windows.chain qid e.region life

    first_free : IsPopped slots s.items.free free tag
    first_free = popped slots c.free free tag s.items.free s.has.free.chain can.some_free f.is_first f.free_left

    -- ---- the slot
    was_free : (slot_at slots tag).state ≡ 0
    was_free = All-head (is_free slots) tag first_free.rest (All-same (is_free slots) (tag ∷ first_free.rest) s.items.free (sym first_free.are) s.has.free.items)

    tag_there : tag < length slots
    tag_there = All-head (λ (x : ℕ). x < length slots) tag first_free.rest
        (All-same (λ (x : ℕ). x < length slots) (tag ∷ first_free.rest) s.items.free (sym first_free.are) s.has.free.chain.inside)

    size : length pool ≡ length slots
    size = f.items.size ∙ length-put_item slots tag slot

    left : (x : ℕ) → x ≢ tag → item_at pool x ≡ item_at slots x
    left x other = f.items.items x ∙ item_at-put_item_other slots tag slot x other

    now : item_at pool tag ≡ record slot { next = 0 }
    now = f.items.items tag ∙ item_at-put_item_same slots tag slot tag_there

    -- a slot that wasn't free is another
    other_than : (x n : ℕ) → (slot_at slots x).state ≡ n → 0 < n → x ≢ tag
    other_than x n is some same =
        let zero = sym is ∙ ap (λ (y : ℕ). (slot_at slots y).state) same ∙ was_free in
        omega (arith, zero, some)

    new_to : (xs : List ℕ) → All (λ (t : ℕ). 0 < (slot_at slots t).state) xs → IsNew tag xs
    new_to xs each = All-weaker (λ (t : ℕ). 0 < (slot_at slots t).state) (λ (t : ℕ). t ≢ tag)
        (λ t some same. (let zero = ap (λ (y : ℕ). (slot_at slots y).state) same ∙ was_free in omega (arith, zero, some))) xs each

    -- ---- the chains
    chain_now : IsChain (put_item slots tag slot) (sq_at c.sqs qid).window (tags_of (s.items.windows e.region))
    chain_now = chain-put_item slots (sq_at c.sqs qid).window (tags_of (s.items.windows e.region)) tag slot its_chain

    tag_new : IsNew tag (tags_of (s.items.windows e.region))
    tag_new = new_to (tags_of (s.items.windows e.region))
        (All-weaker (λ (t : ℕ). (slot_at slots t).state ≡ 1) (λ (t : ℕ). 0 < (slot_at slots t).state) (λ t is. omega (arith, is))
        (tags_of (s.items.windows e.region)) (window-states slots qid e.region (s.items.windows e.region) its_items))

    pushed_chain : IsChain pool window (tags_of (s.items.windows e.region) ++ tag ∷ [])
    pushed_chain =
        let tags : List ℕ = tags_of (s.items.windows e.region) in
        let few = length-apart (length slots) (tag ∷ tags) (tag_new, its_chain.apart)
        (All-cons (λ (x : ℕ). x < length slots) tag tags tag_there its_chain.inside) in
        let small = s.has.few in
        f.chain tags chain_now (subst (λ (n : ℕ). tag < n) (sym (length-put_item slots tag slot)) tag_there) tag_new (omega (arith, few, small))

    chain_left : (chain : Chain) (xs : List ℕ) → IsChain slots chain xs → All (λ (x : ℕ). IsNew x (tags_of (s.items.windows e.region))) xs → IsChain pool chain xs
    chain_left chain xs h new =
        chain-other (put_item slots tag slot) pool chain xs (tags_of (s.items.windows e.region)) (chain-put_item slots chain xs tag slot h)
        (f.links (tags_of (s.items.windows e.region)) chain_now) f.items.size new

    -- slots in another state than those that wait
    elsewhere : (xs : List ℕ) → All (λ (t : ℕ). (slot_at slots t).state ≢ 1) xs → All (λ (x : ℕ). IsNew x (tags_of (s.items.windows e.region))) xs
    elsewhere xs each =
        apart-by (λ (t : ℕ). (slot_at slots t).state ≢ 1) (λ (t : ℕ). (slot_at slots t).state ≡ 1) (λ t differs is. differs is) xs
        (tags_of (s.items.windows e.region)) each (window-states slots qid e.region (s.items.windows e.region) its_items)

    other_windows : (p x : ℕ) → p ≢ qid → s.content.sq_life p ≡ Some x → All (λ (t : ℕ). IsNew t (tags_of (s.items.windows e.region))) (tags_of (s.items.windows x))
    other_windows p x other is =
        apart-by (λ (t : ℕ). (slot_at slots t).sqid ≡ p) (λ (t : ℕ). (slot_at slots t).sqid ≡ qid) (λ t here there. other (sym here ∙ there))
        (tags_of (s.items.windows x)) (tags_of (s.items.windows e.region))
        (window-queues slots p x (s.items.windows x) (s.has.windows.items p x is)) (window-queues slots qid e.region (s.items.windows e.region) its_items)

    -- ---- what is so of each queue
    there : qid < length c.sqs
    there = sq_there rules late notes c slots s qid (queue_of e) (fetch_open rules late notes c slots s qid e can)

    abbrev index : ℕ
    index = (s.content.sq e.region).fetched

    abbrev item : Item
    item = fetched_item tag e.region index entry

    abbrev after : Controller
    after = fetched_controller c qid free window ring board

    abbrev content : Content
    content = after_fetch s.content qid (queue_of e) entry

    abbrev items : Items
    items = fetched_items s.items e.region item first_free.rest

    abbrev later : Notes
    later = Kept e.region index cookie ∷ Logged (Fetch e.region index entry) ∷ notes

    each_queue : (P : ℕ → ℕ → SqState → SqContent → List Item → Type 0)
        → P qid e.region (fetched_state (sq_at c.sqs qid) window ring) (fetched_sq (s.content.sq e.region) entry) (s.items.windows e.region ++ item ∷ [])
        → ((p x : ℕ) → p ≢ qid → x ≢ e.region → s.content.sq_life p ≡ Some x → P p x (sq_at c.sqs p) (s.content.sq x) (s.items.windows x))
        → (p x : ℕ) → s.content.sq_life p ≡ Some x → P p x (sq_at after.sqs p) (content.sq x) (items.windows x)
    each_queue P here others =
        put_sq-lives P s.content.sq_life s.content.sq_id s.numbers.sqs.ids c.sqs s.content.sq s.items.windows qid e.region (fetched_state (sq_at c.sqs qid) window ring)
        (fetched_sq (s.content.sq e.region) entry) (s.items.windows e.region ++ item ∷ []) life there here others

    -- and of each region
    each_region : (P : ℕ → SqContent → List Item → Type 0)
        → P e.region (fetched_sq (s.content.sq e.region) entry) (s.items.windows e.region ++ item ∷ [])
        → ((x : ℕ) → x ≢ e.region → P x (s.content.sq x) (s.items.windows x)) → (x : ℕ) → P x (content.sq x) (items.windows x)
    each_region P here others =
        put_content-each P s.content.sq s.items.windows e.region (fetched_sq (s.content.sq e.region) entry) (s.items.windows e.region ++ item ∷ []) here others

    -- ---- the numbers
    board_now : board_of board ≡ came_board s.content qid (queue_of e)
    board_now =
        let on = on_its_board rules late notes c slots s qid e can in
        let came = subst (λ (o : Option OpenQueue). IfSome o (λ (queue : OpenQueue). board_of board ≡ record (board_of c.board) {
          queues = slice_set (board_of c.board).queues qid (Some (record queue { count = if f.held then queue.count else queue.count + 1 }));
        })) on f.came in
        came
        ∙ ap (λ (n : ℕ). record (board_of c.board) { queues = slice_set (board_of c.board).queues qid (Some (record (on_board s.content (queue_of e)) { count = n })) })
        (came_on f.held (s.content.held e.region) (length (s.content.sq e.region).window) (f.held_is ∙ (s.numbers.sqs.each qid e.region life).held))
        ∙ ap (λ (b : BoardView). record b { queues = slice_set b.queues qid (Some (counted_on s.content (queue_of e) (length (s.content.sq e.region).window + 1))) })
        s.numbers.board_is

    -- the queue was shown, and so the same are
    still_shown : (p : ℕ) → shown_in content.board p ≡ shown_in s.content.board p
    still_shown = shown_put s.content.board.queues qid (Some (counted_on s.content (queue_of e) (length (s.content.sq e.region).window + 1)))
        (sym (ap (λ (o : Option OpenQueue). is_some o) (ap (λ (b : BoardView). queue_at b.queues qid) (sym s.numbers.board_is) ∙ on_its_board rules late notes c slots s qid e can)))

    numbers_now : HasNumbers after content
    numbers_now =
        let n = s.numbers in
        record {
          tells = n.tells;
          board_is = board_now;
          is_arbiter = subst (λ (a : ArbiterFields). IsTrue (is_arbiter a)) (sym f.arbiter) n.is_arbiter;
          outstanding_is = n.outstanding_is;
          sqs = (let h = n.sqs.each qid e.region life in let state : SqState = fetched_state (sq_at c.sqs qid) window ring in let more : SqContent = fetched_sq (s.content.sq e.region) entry in
              put_sqs c s.content n qid e.region life state (rung_left c.rung qid ring) content.sq s.content.held (shown_in content.board)
              (subst (λ (x : SqContent). IsSq s.content.table s.content.cq_life qid e.region state x (s.content.held e.region) (shown_in content.board qid)) (sym (put-same s.content.sq e.region more))
              (sq_changed s.content.table s.content.cq_life qid e.region (sq_at c.sqs qid) state (s.content.sq e.region) more (s.content.held e.region) (s.content.held e.region)
              (shown_in s.content.board qid) (shown_in content.board qid) h refl f.same_slots h.unposted refl refl h.held (h.shown ∙ sym (still_shown qid))))
              (λ x other. put-other s.content.sq e.region more x other) (λ x other. refl) (λ p other. still_shown p)
              (rung-read c.rung qid (ring.head == ring.tail) c.sqs state there n.sqs.rung can.some_submitted (λ same. eqb-true ring.head ring.tail same)));
          cqs = n.cqs;
        }

    -- ---- the commands
    picked_le : picked_of c (s.content.sq_id e.region) ≤ length (s.items.windows e.region)
    picked_le = rw (picked_are rules late notes c slots s qid e.region life) (elim (cases_eq qid c.picked_qid) [
      | inl same ↦
          let region : picked_region c s.content ≡ e.region = ap (λ (o : Option ℕ). unwrap_or o 0) (subst (λ (p : ℕ). s.content.sq_life p ≡ Some e.region) same life) in
          rw (eq-eqb qid c.picked_qid same) (subst (λ (x : ℕ). c.picked ≤ length (s.items.windows x)) region s.has.windows.picked_there)
      | inr other ↦ rw (ne_eqb qid c.picked_qid other) (omega arith)
    ])

    window_now : (fetched_sq (s.content.sq e.region) entry).window ≡ map candidate_of (drop (picked_of c (s.content.sq_id e.region)) (s.items.windows e.region ++ item ∷ []))
    window_now =
        let n : ℕ = picked_of c (s.content.sq_id e.region) in
        let xs : List Item = s.items.windows e.region in
        ap (λ (cs : List Candidate). cs ++ record { index = index; entry = entry } ∷ []) (s.has.windows.are e.region)
        ∙ sym (ap (λ (ys : List Item). map candidate_of ys) (drop-append-le n xs (item ∷ []) picked_le) ∙ map-append candidate_of (drop n xs) (item ∷ []))

    item_now : IsWaitingIn pool qid e.region item
    item_now = record {
      state = ap (λ (x : Slot). x.state) now ∙ f.state;
      queue = ap (λ (x : Slot). x.sqid) now ∙ f.queue;
      entry = ap (λ (x : Slot). x.entry) now ∙ f.has;
      place = refl;
    }

    windows_left : (p x : ℕ) → s.content.sq_life p ≡ Some x → All (IsWaitingIn pool p x) (s.items.windows x)
    windows_left p x is =
        all_waiting_stay slots pool tag size left p x (s.items.windows x) (λ is. (let zero = was_free in omega (arith, zero, is))) (s.has.windows.items p x is)

    untaken_left : untaken after content items ≡ untaken c s.content s.items
    untaken_left =
        each_region (λ x k xs. c.picked ≤ length (s.items.windows x) → take c.picked xs ≡ take c.picked (s.items.windows x))
        (λ le. take-append-le c.picked (s.items.windows e.region) (item ∷ []) le) (λ x other le. refl) (picked_region c s.content) s.has.windows.picked_there

    longer : length (s.items.windows (picked_region c s.content)) ≤ length (items.windows (picked_region c s.content))
    longer =
        each_region (λ x k xs. length (s.items.windows x) ≤ length xs)
        (omega (arith, length-append (s.items.windows e.region) (item ∷ []))) (λ x other. omega arith) (picked_region c s.content)

    not_new : (x n : ℕ) → (slot_at pool x).state ≡ n → n ≢ 1 → x ≢ tag
    not_new x n is differs same = differs (sym is ∙ ap (λ (y : ℕ). (slot_at pool y).state) same ∙ ap (λ (y : Slot). y.state) now ∙ f.state)

    rest_apart : IsNew tag first_free.rest
    rest_apart = (subst (λ (xs : List ℕ). AreApart xs) first_free.are s.has.free.chain.apart).0

    rest_free : All (is_free slots) first_free.rest
    rest_free = All-tail (is_free slots) tag first_free.rest (All-same (is_free slots) (tag ∷ first_free.rest) s.items.free (sym first_free.are) s.has.free.items)

    both_free : All (λ (x : ℕ). x ≢ tag × is_free slots x) first_free.rest
    both_free k d below = (rest_apart k d below, rest_free k d below)

    items_now : HasItems after pool content items
    items_now =
        let h = s.has in
        record {
          windows = record {
            chain = each_queue (λ p x state k xs. IsChain pool state.window (tags_of xs))
                (subst (IsChain pool window) (sym (map-append (λ (it : Item). it.tag) (s.items.windows e.region) (item ∷ []))) pushed_chain)
                (λ p x other apart is. chain_left (sq_at c.sqs p).window (tags_of (s.items.windows x)) (h.windows.chain p x is) (other_windows p x other is));
            items = each_queue (λ p x state k xs. All (IsWaitingIn pool p x) xs)
                (All-push (IsWaitingIn pool qid e.region) (s.items.windows e.region) item (windows_left qid e.region life) item_now) (λ p x other apart is. windows_left p x is);
            none = each_region (λ x k xs. s.content.sq_id x ≡ None → xs ≡ [])
                (λ none. absurd (let here = s.numbers.sqs.ids.ids_are qid e.region life in cc (none, here))) (λ x other. h.windows.none x);
            are = each_region (λ x k xs. k.window ≡ map candidate_of (drop (picked_of c (s.content.sq_id x)) xs)) window_now (λ x other. h.windows.are x);
            picked_there = let le = h.windows.picked_there in omega (arith, le, longer);
          };
          outs = record {
            items = All-weaker (IsOutIn s.content.sq_id slots) (IsOutIn s.content.sq_id pool)
                (λ it w. out_stays slots pool tag size left s.content.sq_id it (other_than it.tag 2 w.state (omega arith)) w) s.items.outs h.outs.items;
            apart = h.outs.apart;
            all = λ x is. h.outs.all x (sym (ap (λ (y : Slot). y.state) (left x (not_new x 2 is (λ same. omega (arith, same))))) ∙ is);
            hand_is = h.outs.hand_is ∙ ap (λ (xs : List Item). places_of (s.items.outs ++ xs)) (sym untaken_left);
          };
          readies = record {
            chain = λ p x is. chain_left (cq_at c.cqs p).ready (ready_tags (s.items.readies x)) (h.readies.chain p x is)
                (elsewhere (ready_tags (s.items.readies x)) (All-weaker (λ (t : ℕ). 3 ≤ (slot_at slots t).state) (λ (t : ℕ). (slot_at slots t).state ≢ 1)
                (λ t least is. omega (arith, least, is)) (ready_tags (s.items.readies x)) (ready-states s.content.sq_id slots (s.items.readies x) (h.readies.items x))));
            items = λ x. all_ready_stay slots pool tag size left s.content.sq_id (s.items.readies x) (let zero = was_free in omega (arith, zero)) (h.readies.items x);
            none = h.readies.none;
            are = h.readies.are;
          };
          deletions = deletions_kept c.sqs c.pending_deletions pool s.content.sq_life s.content.deletion s.items.deletes qid (fetched_state (sq_at c.sqs qid) window ring) there refl refl
              (deletions_stay c.sqs c.pending_deletions slots pool s.content.sq_life s.content.deletion s.items.deletes tag size left
              (λ r d at. other_than d.tag 6 (h.deletions.items r d at).state (omega arith)) h.deletions);
          free = record {
            chain = chain_left free first_free.rest first_free.chain
                (elsewhere first_free.rest (All-weaker (is_free slots) (λ (t : ℕ). (slot_at slots t).state ≢ 1) (λ t zero is. omega (arith, zero, is)) first_free.rest rest_free));
            items = All-weaker (λ (x : ℕ). x ≢ tag × is_free slots x) (is_free pool) (λ x both. same_state slots pool tag size left x 0 both.0 both.1) first_free.rest both_free;
          };
          few = let small = h.few in omega (arith, small, size);
        }

    -- ---- the log
    index_is : index ≡ length (fetched (logged notes) e.region)
    index_is = (s.holds.regions e.region).counted ∙ ap (λ (xs : List Sqe). length xs) (sym (s.holds.regions e.region).fetched_is)

    holds_now : Holds rules late (logged later) content
    holds_now = holds-fetch rules late (logged notes) s.content qid (queue_of e) entry s.holds (can_fetch rules late notes c slots s qid e can)

    doorbells_now : HoldsDoorbells rules later after content
    doorbells_now = record {
      sqs = record {
        each = each_queue (λ p x state k xs. HasCounts state.ring (length (fetched (logged later) x)) (submitted rules notes x))
            (subst (λ (n : ℕ). HasCounts ring n (submitted rules notes e.region)) (sym (fetched_more (logged notes) e.region index entry))
            (f.counts (length (fetched (logged notes) e.region)) (submitted rules notes e.region) (fetch_counts rules late notes c slots s qid e can)
            (more_submitted rules late notes c slots s qid e can)))
            (λ p x other apart is. subst (λ (ys : List Sqe). HasCounts (sq_at c.sqs p).ring (length ys) (submitted rules notes x))
            (sym (fetched_others (logged notes) e.region index entry x apart)) (s.doorbells.sqs.each p x is));
        no_tails = each_region (λ x k xs. k.queue ≡ None → submitted rules notes x ≡ 0) (s.doorbells.sqs.no_tails e.region) (λ x other. s.doorbells.sqs.no_tails x);
      };
      cqs = s.doorbells.cqs;
    }

    none_answered_now : (x i : ℕ) → length (fetched (logged later) x) ≤ i → answer_of notes x i ≡ None
    none_answered_now x i le = s.tags.unanswered.none x i (let least = fetched_least (logged notes) e.region index entry x in omega (arith, least, le))

    none_held_now : (t : ℕ) → (slot_at pool t).state ≢ 2 → (slot_at pool t).state ≢ 3 → holder notes t ≡ None
    none_held_now t not_two not_three = elim (cases_eq t tag) [
      | inl same ↦ s.tags.held.none t (λ is. other_than t 2 is (omega arith) same) (λ is. other_than t 3 is (omega arith) same)
      | inr other ↦
          let stays : (slot_at pool t).state ≡ (slot_at slots t).state = ap (λ (y : Slot). y.state) (left t other) in
          s.tags.held.none t (λ is. not_two (stays ∙ is)) (λ is. not_three (stays ∙ is))
    ]

    answered_held_now : (t : ℕ) → (slot_at pool t).state ≡ 3 → is_out later t ≡ false
    answered_held_now t is =
        let other : t ≢ tag = not_new t 3 is (λ same. omega (arith, same)) in
        still_not_out-logged (Fetch e.region index entry) notes t (s.tags.held.answered t (sym (ap (λ (y : Slot). y.state) (left t other)) ∙ is))

    hand_entries_now : All (HasEntry (logged later)) (s.items.outs ++ untaken after content items)
    hand_entries_now =
        All-weaker (HasEntry (logged notes)) (HasEntry (logged later))
        (λ it h. entry_stays (logged notes) e.region index it.place.region it.place.index entry it.entry h) (s.items.outs ++ untaken after content items)
        (subst (λ (xs : List Item). All (HasEntry (logged notes)) (s.items.outs ++ xs)) (sym untaken_left) s.tags.hand_entries)

    free_count_now : free.len + (all_fetches (logged notes) + 1) ≡ length pool + all_posts (logged notes)
    free_count_now =
        let before : c.free.len ≡ length first_free.rest + 1 = s.has.free.chain.len_is ∙ ap (λ (xs : List ℕ). length xs) first_free.are ∙ (let one : length (tag ∷ first_free.rest) ≡ length first_free.rest + 1 = omega arith in one) in
        let after_it : free.len ≡ length first_free.rest = first_free.chain.len_is in
        omega (arith, before, after_it, s.tags.free_count, size)

    -- ---- the cookies
    none_kept_there : cookie_of notes e.region index ≡ None
    none_kept_there = s.tags.cookies.none e.region index (let is = index_is in omega (arith, is))

    -- another slot has its cookie
    keeps_other : (t : ℕ) (p : Place) → t ≢ tag → IsCookie notes slots t p → IsCookie later pool t p
    keeps_other t p other h = by (e.region == p.region && index == p.index) refl where
      by : (b : Bool) → (e.region == p.region && index == p.index) ≡ b → (if b then Some cookie else cookie_of notes p.region p.index) ≡ Some (slot_at pool t).cookie
      by true same =
          let parts = and_parts (e.region == p.region) (index == p.index) same in
          let none : cookie_of notes p.region p.index ≡ None = subst (λ (r : ℕ). cookie_of notes r p.index ≡ None) (eqb-true e.region p.region parts.0)
          (subst (λ (i : ℕ). cookie_of notes e.region i ≡ None) (eqb-true index p.index parts.1) none_kept_there) in
          absurd (cc (none, h))
      by false same = h ∙ ap (λ (x : Slot). Some x.cookie) (sym (left t other))

    windows_kept : (x : ℕ) → All (HasCookie later pool) (s.items.windows x)
    windows_kept x = All-both (λ (it : Item). (slot_at slots it.tag).state ≡ 1) (HasCookie notes slots) (HasCookie later pool)
        (λ it state h. keeps_other it.tag it.place (other_than it.tag 1 state (omega arith)) h) (s.items.windows x) (all_wait rules late notes c slots s x) (s.tags.cookies.windows x)

    item_kept : HasCookie later pool item
    item_kept = rw (eq-eqb e.region e.region refl, eq-eqb index index refl) (ap (λ (n : ℕ). Some n) (sym (ap (λ (x : Slot). x.cookie) now ∙ f.keeps)))

    ready_kept : (y : ReadyItem) → IsReadyIn s.content.sq_id slots y → HasReadyCookie notes slots y → HasReadyCookie later pool y
    ready_kept y r h =
        keeps_other y.tag y.ready.place
        (other_than y.tag (ready_state y.was_out y.ready.with_queue) r.state (let low = (ready_state-range y.was_out y.ready.with_queue).0 in omega (arith, low))) h

    none_kept_now : (x i : ℕ) → length (fetched (logged later) x) ≤ i → cookie_of later x i ≡ None
    none_kept_now x i le = by (e.region == x && index == i) refl where
      by : (b : Bool) → (e.region == x && index == i) ≡ b → (if b then Some cookie else cookie_of notes x i) ≡ None
      by true same =
          let parts = and_parts (e.region == x) (index == i) same in
          let here : length (fetched (logged later) e.region) ≤ i = subst (λ (r : ℕ). length (fetched (logged later) r) ≤ i) (sym (eqb-true e.region x parts.0)) le in
          let more = fetched_more (logged notes) e.region index entry in
          let is = index_is in
          let same_index = eqb-true index i parts.1 in
          absurd (omega (arith, here, more, is, same_index))
      by false same = s.tags.cookies.none x i (let least = fetched_least (logged notes) e.region index entry x in omega (arith, least, le))

    cookies_now : HoldsCookies later pool items
    cookies_now = record {
      windows = each_region (λ x k xs. All (HasCookie later pool) xs)
          (All-push (HasCookie later pool) (s.items.windows e.region) item (windows_kept e.region) item_kept) (λ x other. windows_kept x);
      outs = All-both (IsOutIn s.content.sq_id slots) (HasCookie notes slots) (HasCookie later pool) (λ it w h. keeps_other it.tag it.place (other_than it.tag 2 w.state (omega arith)) h)
          s.items.outs s.has.outs.items s.tags.cookies.outs;
      readies = λ x. All-both (IsReadyIn s.content.sq_id slots) (HasReadyCookie notes slots) (HasReadyCookie later pool) ready_kept (s.items.readies x) (s.has.readies.items x) (s.tags.cookies.readies x);
      deletes = λ r d at. keeps_other d.tag (place_at 0 d.index) (other_than d.tag 6 (s.has.deletions.items r d at).state (omega arith)) (s.tags.cookies.deletes r d at);
      none = none_kept_now;
    }

    tags_now : HoldsTags later after pool content items
    tags_now =
        let t = s.tags in
        record {
          untaken_are = t.untaken_are ∙ ap (λ (xs : List Item). taken notes ++ places_of xs) (sym untaken_left);
          held = record {
            outs = t.held.outs;
            readies = t.held.readies;
            none = none_held_now;
            answered = answered_held_now;
          };
          through = t.through;
          unanswered = record {
            windows = each_region (λ x k xs. All (λ (it : Item). IsUnanswered notes it.place) xs)
                (All-push (λ (it : Item). IsUnanswered notes it.place) (s.items.windows e.region) item (t.unanswered.windows e.region)
                (t.unanswered.none e.region index (let is = index_is in omega (arith, is))))
                (λ x other. t.unanswered.windows x);
            outs = t.unanswered.outs;
            deletes = t.unanswered.deletes;
            none = none_answered_now;
          };
          hand_entries = hand_entries_now;
          free_count = free_count_now;
          cookies = cookies_now;
          passed = passed_later notes later items (λ i. refl) refl (λ i waits. stays (Fetch e.region index entry) (logged notes) 0 i waits) (passed_left notes s.items items (λ x. refl) refl t.passed);
          flagged = t.flagged;
        }

    lawful_now : late ≡ false → IsLawfulEvent rules notes (Fetch e.region index entry)
    lawful_now on_time =
        let next = next-fetch rules late (logged notes) s.content qid (queue_of e) entry s.holds (can_fetch rules late notes c slots s qid e can) holds_now.regions on_time in
        record {
          index_counts = next.index_counts;
          served_while_open = next.served_while_open;
          observed = tt;
          effects_at_once = next.effects_at_once;
          deletes = next.deletes;
          posts_own = tt;
          fetches_submitted = more_submitted rules late notes c slots s qid e can;
          posts_on_free_slot = tt;
          posts_what_is_through = tt;
          posts_in_order = tt;
        }

    is_kept_now : IsKept (Logged (Fetch e.region index entry) ∷ notes) e.region index
    is_kept_now = record {
      fetched = let more = fetched_more (logged notes) e.region index entry in let is = index_is in omega (arith, more, is);
      first = none_kept_there;
    }

    account_now : late ≡ false → IsAccount rules later
    account_now on_time =
        let a = s.account on_time in
        record { each = (is_kept_now, (lawful_now on_time, a.each)); lawful = holds_now.arbitration.lawful; effects_whole = (holds_now.own on_time).effects_whole }

    stands_now : StandsAt rules late later after pool
    stands_now = record {
      content = content;
      items = items;
      holds = holds_now;
      numbers = numbers_now;
      has = items_now;
      doorbells = doorbells_now;
      tags = tags_now;
      shown = record { held = s.shown.held; classed = s.shown.classed };
      ordered = s.ordered;
      regions = record { sqs = s.regions.sqs; cqs = s.regions.cqs };
      account = account_now;
    }

    pub has_fetched : HasFetched rules late notes qid entry cookie after pool
    unfolding may_fetch
    has_fetched = record {
      slot = (sq_at c.sqs qid).ring.head;
      may = subst (λ (n : ℕ). MayFetch rules notes (depth_of c qid) n qid (sq_at c.sqs qid).ring.head) (sym size) (may_fetch rules late notes c slots s qid e can);
      stands = subst (λ (n : ℕ). StandsAt rules late (Kept e.region n cookie ∷ Logged (Fetch e.region n entry) ∷ notes) after pool) index_is stands_now;
    }
