-- The device answers a command: the controller stands at its log afterwards.
use Rattle.std.proofs.Common.{◌&&◌, eqb-true, ◌≡◌, ◌≢◌, ℕ, ◌+◌, ◌<◌, ◌≤◌, ◌^◌, ◌==◌, Bool, true, false, if◌then◌else◌, List, [], ◌∷◌, ◌++◌, length, drop, get_or, Option, Some, None, refl, sym, ap, ◌∙◌, subst, arith, inl, inr}
use Rattle.std.specs.Prelude.{slice_set, is_none, unwrap_or}
use Rattle.std.specs.List.{All}
use Rattle.std.proofs.lemmas.Bool.{cases_eq, eq-eqb, ne_eqb}
use Rattle.std.proofs.lemmas.List.{append_assoc, map-append, length-set}
use Rattle.std.proofs.lemmas.List.Elements.{All-cons, All-push, All-weaker, All-same, All-map}
use Rattle.std.proofs.lemmas.Option.{same_Some}
use Rattle.nvme_entry.specs.declared.submission.Sqe.{Sqe}
use Rattle.nvme_log.specs.Rules.{FrontRules}
use Rattle.nvme_log.specs.Answers.{Answer}
use Rattle.nvme_log.specs.Queues.{cq_region_of}
use Rattle.nvme_log.specs.Completions.{posted_to, phase_after}
use Rattle.nvme_log.specs.Places.{fetched, is_aborted}
use Rattle.nvme_log.specs.Dispatches.{place_at}
use Rattle.nvme_log.specs.declared.place.Place.{Place}
use Rattle.nvme_ctrl_log.specs.Notes.{Notes, Answered, Flagged, logged}
use Rattle.nvme_ctrl_log.specs.Doorbells.{consumed}
use Rattle.nvme_slots.specs.Rings.{HasCounts}
use Rattle.nvme_ctrl_log.specs.Tags.{holder, answer_of, flags_of, is_unanswered, is_out, all_posts, is_of_device}
use Rattle.nvme_ctrl_log.specs.Account.{IsAccount, IsAnswer, IsFlagged}
use Rattle.nvme_ctrl.specs.Calls.{HasAnswered}
use Rattle.nvme_ctrl_log.specs.declared.status_flags.StatusFlags.{StatusFlags}
use Rattle.nvme_slots.specs.declared.slot.Slot.{Slot}
use Rattle.nvme_slots.specs.declared.chain.Chain.{Chain}
use Rattle.nvme_slots.specs.declared.ring.Ring.{Ring}
use Rattle.nvme_ctrl.specs.declared.state.CqState.{CqState}
use Rattle.nvme_ctrl.specs.declared.state.Controller.{Controller}
use Rattle.nvme_ctrl_content.specs.Content.{Content, CqContent, Ready}
use Rattle.nvme_ctrl_content.specs.Standing.{Holds, IsReady, answer_in}
use Rattle.nvme_ctrl_content.specs.Steps.{done}
use Rattle.nvme_ctrl.specs.kept.Kept.{Item, ReadyItem, Items, IsWaitingIn, IsOutIn, IsReadyIn, IsSqOf, IsCqOf, IsAmongOuts, HasNumbers, HasItems, HoldsDoorbells, HoldsTags, IsThrough, IsUnanswered, HasCookie, HasReadyCookie, HasFlags, HasEntry, StandsAt, tags_of, places_of, ready_tags, readies_of, untaken, is_free, IsDevices, IsReadyOf, DeleteItem}
use Rattle.nvme_slots.specs.Pool.{slot_at, item_at, put_item, bit, flags_in, IsChain, IsNew, AreApart}
use Rattle.nvme_ctrl.specs.kept.State.{no_cq_state, sq_at, cq_at}
use Rattle.nvme_ctrl.proofs.Passed.{held_is_devices, devices_passed}
use Rattle.nvme_slots.proofs.Chains.{IsPushed}
use Rattle.nvme_ctrl.proofs.Cookies.{SameCookies, same_cookies-but, cookie_left, items_left, readies_left}
use Rattle.nvme_slots.proofs.Pools.{length-put_item, item_at-put_item_same, item_at-put_item_other, chain-put_item, chain-other, length-apart, AreApart-others, IsNew-others}
use Rattle.nvme_ctrl.proofs.PutFlags.{put_flags}
use Rattle.nvme_ctrl_content.proofs.OwnStatus.{All-unmap}
use Rattle.nvme_ctrl_content.proofs.ReadyHand.{All-taken}
use Rattle.nvme_ctrl.proofs.Lives.{put_cq-lives, put_cq-states}
use Rattle.nvme_ctrl_log.proofs.OutTags.{still_not_out-answered, still_not_out-flagged}
use Rattle.nvme_ctrl.proofs.SlotItems.{All-both, at_put, ready_state-range, out_stays, all_waiting_stay, all_ready_stay, all_free_stay}
use Rattle.nvme_ctrl.proofs.AnsweredPlaces.{answered-in-order, IsOther, is_other, at_hand, has_entries, has_it, queue_is, goes_to, answered, holds_answered, was_fetched, others_out, others_in_windows}
use Rattle.nvme_ctrl.proofs.PendingDeletions.{deletions_stay}
use Rattle.nvme_ctrl.specs.kept.QueueSets.{with_queue}
use Rattle.nvme_ctrl.proofs.QueueSets.{readied-put}

-- ---- what the device has, without a command
-- a command among some is among those that are left without another
pub among_others : (before : List Item) (it : Item) (after first : List Item) (item : Item) (last : List Item) → before ++ it ∷ after ≡ first ++ item ∷ last
    → item.tag ≢ it.tag → IsAmongOuts (before ++ after) item.tag
among_others [] it after [] item last are other = absurd (other (sym (ap (λ (its : List Item). (get_or its 0 it).tag) are)))
among_others [] it after (y ∷ first) item last are other =
    record { before = first; item = item; after = last; are = ap (λ (its : List Item). drop 1 its) are; tag = refl }
among_others (x ∷ before) it after [] item last are other =
    record { before = []; item = x; after = before ++ after; are = refl; tag = ap (λ (its : List Item). (get_or its 0 it).tag) are }
among_others (x ∷ before) it after (y ∷ first) item last are other =
    let at = among_others before it after first item last (ap (λ (its : List Item). drop 1 its) are) other in
    record { before = x ∷ at.before; item = at.item; after = at.after; are = ap (λ (its : List Item). x ∷ its) at.are; tag = at.tag }

-- a slot that isn't ready is new to those that are
new_to_ready : (ids : ℕ → Option ℕ) (slots : List Slot) (xs : List ReadyItem) → All (IsReadyIn ids slots) xs → (y : ℕ) → (slot_at slots y).state ≤ 2 → IsNew y (ready_tags xs)
new_to_ready ids slots xs h y low = All-map (λ (z : ℕ). z ≢ y) (λ (x : ReadyItem). x.tag) xs
    (All-weaker (IsReadyIn ids slots) (λ (x : ReadyItem). x.tag ≢ y)
    (λ x ready e. omega (arith, ready.state, (ready_state-range x.was_out x.ready.with_queue).0, ap (λ (z : ℕ). (slot_at slots z).state) e, low)) xs h)

-- ---- what is so afterwards
abbrev pub answered_slot : Slot → Answer → StatusFlags → Slot
answered_slot slot answer flags =
    record slot { state = 3; sct = answer.status.sct; sc = answer.status.sc; dw0 = answer.dw0; more = bit flags.more; do_not_retry = bit flags.do_not_retry }

abbrev pub answered_pool : List Slot → ℕ → Answer → StatusFlags → List Slot
answered_pool slots tag answer flags = put_item slots tag (answered_slot (slot_at slots tag) answer flags)

abbrev pub answered_cq : Controller → ℕ → Chain → CqState
answered_cq c q chain = record (cq_at c.cqs q) { ready = chain }

-- the controller, where a completion queue has a ready completion more
abbrev pub answered_controller : Controller → ℕ → Chain → Controller
answered_controller c q chain = record c { cqs = slice_set c.cqs q (answered_cq c q chain); readied = with_queue c.readied q true }

abbrev ready_item : Item → (sqid : ℕ) → Answer → StatusFlags → ReadyItem
ready_item it sqid answer flags = record { tag = it.tag; ready = done sqid it.place it.entry.cid answer; was_out = true; flags = flags }

-- a command that the device has is answered
module _ (rules : FrontRules) (late : Bool) (notes : Notes) (c : Controller) (slots : List Slot) (k : Content) (g : Items)
    (s : Holds rules late (logged notes) k) (n : HasNumbers c k) (h : HasItems c slots k g) (t : HoldsTags notes c slots k g)
    (before : List Item) (it : Item) (after : List Item) (are : g.outs ≡ before ++ it ∷ after) (answer : Answer) (flags : StatusFlags) (types : answer.status.sct < 8)
    (new : List Slot) (chain : Chain)
    (p : IsPushed (answered_pool slots it.tag answer flags) (cq_at c.cqs (sq_at c.sqs (slot_at slots it.tag).sqid).cqid).ready it.tag new chain) where
  -- its queue, and the completion queue of that with its region
  abbrev sqid : ℕ
  sqid = (slot_at slots it.tag).sqid

  abbrev cqid : ℕ
  cqid = (sq_at c.sqs sqid).cqid

  abbrev x : ℕ
  x = goes_to rules late notes c slots k g s n h t before it after are answer

  abbrev item : ReadyItem
  item = ready_item it sqid answer flags

  abbrev left : Items
  left = record g { outs = before ++ after; readies = λ y. if y == x then g.readies x ++ item ∷ [] else g.readies y }

  abbrev later : Content
  later = answered rules late notes c slots k g s n h t before it after are answer

  out : IsOutIn k.sq_id slots it
  out = has_it rules late notes c slots k g s n h t before it after are answer

  others_are : All (IsOutIn k.sq_id slots) (before ++ after)
  others_are = (All-taken (IsOutIn k.sq_id slots) before it after (All-same (IsOutIn k.sq_id slots) (before ++ it ∷ after) g.outs (sym are) h.outs.items)).1

  size : length new ≡ length slots
  size = p.items.size ∙ length-put_item slots it.tag (answered_slot (slot_at slots it.tag) answer flags)

  others : (y : ℕ) → y ≢ it.tag → item_at new y ≡ item_at slots y
  others y other = p.items.items y ∙ item_at-put_item_other slots it.tag (answered_slot (slot_at slots it.tag) answer flags) y other

  now : item_at new it.tag ≡ record (answered_slot (slot_at slots it.tag) answer flags) { next = 0 }
  now = p.items.items it.tag ∙ item_at-put_item_same slots it.tag (answered_slot (slot_at slots it.tag) answer flags) out.inside

  entries : (y : ℕ) → (slot_at new y).entry ≡ (slot_at slots y).entry
  entries y = elim (cases_eq y it.tag) [
    | inl same ↦ subst (λ (z : ℕ). (slot_at new z).entry ≡ (slot_at slots z).entry) (sym same) (ap (λ (z : Slot). z.entry) now)
    | inr other ↦ ap (λ (z : Slot). z.entry) (others y other)
  ]

  -- ---- the completion queue
  cq_life : k.cq_life cqid ≡ Some x
  cq_life = (queue_is rules late notes c slots k g s n h t before it after are answer).cq_open

  there : cqid < length c.cqs
  there = subst (λ (m : ℕ). cqid < m) (sym n.cqs.size) (n.cqs.few cqid x cq_life)

  -- its ready completions are in a chain
  old_chain : IsChain slots (cq_at c.cqs cqid).ready (ready_tags (g.readies x))
  old_chain = h.readies.chain cqid x cq_life

  here_readies : left.readies x ≡ g.readies x ++ item ∷ []
  here_readies = rw (eq-eqb x x refl) refl

  elsewhere : (y : ℕ) → y ≢ x → g.readies y ≡ left.readies y
  elsewhere y other = rw (ne_eqb y x other) refl

  same_slots : (y : ℕ) → (later.cq y).slots ≡ (k.cq y).slots
  same_slots = at_put (λ (y : ℕ) (q : CqContent). q.slots ≡ (k.cq y).slots) k.cq x (record (k.cq x) { ready = (k.cq x).ready ++ item.ready ∷ [] }) refl (λ y other. refl)

  -- ---- chains
  -- a chain of slots that aren't ready in the completion region is left
  chain_left : (old : Chain) (xs : List ℕ) → All (λ (y : ℕ). IsNew y (ready_tags (g.readies x))) xs → IsChain slots old xs → IsChain new old xs
  chain_left old xs apart linked =
      let pool : List Slot = answered_pool slots it.tag answer flags in
      let slot : Slot = answered_slot (slot_at slots it.tag) answer flags in
      chain-other pool new old xs (ready_tags (g.readies x)) (chain-put_item slots old xs it.tag slot linked)
      (p.links (ready_tags (g.readies x)) (chain-put_item slots (cq_at c.cqs cqid).ready (ready_tags (g.readies x)) it.tag slot old_chain)) p.items.size apart

  window_left : (q r : ℕ) → k.sq_life q ≡ Some r → IsChain new (sq_at c.sqs q).window (tags_of (g.windows r))
  window_left q r is = chain_left (sq_at c.sqs q).window (tags_of (g.windows r))
      (All-map (λ (y : ℕ). IsNew y (ready_tags (g.readies x))) (λ (y : Item). y.tag) (g.windows r)
      (All-weaker (IsWaitingIn slots q r) (λ (y : Item). IsNew y.tag (ready_tags (g.readies x)))
      (λ y waits. new_to_ready k.sq_id slots (g.readies x) (h.readies.items x) y.tag (omega (arith, waits.state))) (g.windows r) (h.windows.items q r is)))
      (h.windows.chain q r is)

  free_left : IsChain new c.free g.free
  free_left = chain_left c.free g.free
      (All-weaker (is_free slots) (λ (y : ℕ). IsNew y (ready_tags (g.readies x)))
      (λ y free. new_to_ready k.sq_id slots (g.readies x) (h.readies.items x) y (omega (arith, free))) g.free h.free.items)
      h.free.chain

  -- the region of the queue of a slot
  abbrev region_of : ℕ → ℕ
  region_of z = unwrap_or (k.sq_life (slot_at slots z).sqid) 0

  -- what is ready in a completion region goes there
  ready_goes : (y : ℕ) → All (λ (w : ReadyItem). cq_region_of (logged notes) (region_of w.tag) ≡ Some y) (g.readies y)
  ready_goes y = All-both (λ (w : ReadyItem). IsReady (logged notes) k.deletion y w.ready) (IsReadyIn k.sq_id slots)
      (λ (w : ReadyItem). cq_region_of (logged notes) (region_of w.tag) ≡ Some y)
      (λ w ready is_in. ap (λ (o : Option ℕ). cq_region_of (logged notes) (unwrap_or o 0)) (n.sqs.ids.lives_are w.ready.place.region (slot_at slots w.tag).sqid is_in.queue) ∙ ready.region) (g.readies y)
      (All-unmap (IsReady (logged notes) k.deletion y) (λ (w : ReadyItem). w.ready) (g.readies y)
      (All-same (IsReady (logged notes) k.deletion y) (readies_of (g.readies y)) (k.cq y).ready (sym (h.readies.are y)) (s.ready.each y)))
      (h.readies.items y)

  other_ready : (q y : ℕ) → k.cq_life q ≡ Some y → y ≢ x → IsChain new (cq_at c.cqs q).ready (ready_tags (g.readies y))
  other_ready q y is other = chain_left (cq_at c.cqs q).ready (ready_tags (g.readies y))
      (All-map (λ (z : ℕ). IsNew z (ready_tags (g.readies x))) (λ (w : ReadyItem). w.tag) (g.readies y)
      (All-weaker (λ (w : ReadyItem). cq_region_of (logged notes) (region_of w.tag) ≡ Some y) (λ (w : ReadyItem). IsNew w.tag (ready_tags (g.readies x)))
      (λ w goes. All-map (λ (z : ℕ). z ≢ w.tag) (λ (v : ReadyItem). v.tag) (g.readies x)
      (All-weaker (λ (v : ReadyItem). cq_region_of (logged notes) (region_of v.tag) ≡ Some x) (λ (v : ReadyItem). v.tag ≢ w.tag)
      (λ v comes e. other (same_Some y x (sym goes ∙ sym (ap (λ (z : ℕ). cq_region_of (logged notes) (region_of z)) e) ∙ comes)))
      (g.readies x) (ready_goes x)))
      (g.readies y) (ready_goes y)))
      (h.readies.chain q y is)

  here_ready : IsChain new chain (ready_tags (g.readies x) ++ it.tag ∷ [])
  here_ready =
      let slot : Slot = answered_slot (slot_at slots it.tag) answer flags in
      let fresh : IsNew it.tag (ready_tags (g.readies x)) = new_to_ready k.sq_id slots (g.readies x) (h.readies.items x) it.tag (omega (arith, out.state)) in
      let many = length-apart (length slots) (it.tag ∷ ready_tags (g.readies x)) (fresh, old_chain.apart)
      (All-cons (λ (z : ℕ). z < length slots) it.tag (ready_tags (g.readies x)) out.inside old_chain.inside) in
      p.chain (ready_tags (g.readies x)) (chain-put_item slots (cq_at c.cqs cqid).ready (ready_tags (g.readies x)) it.tag slot old_chain)
      (subst (λ (m : ℕ). it.tag < m) (sym (length-put_item slots it.tag slot)) out.inside) fresh (omega (arith, many, h.few))

  -- ---- what is ready
  item_ready : IsReadyIn k.sq_id new item
  item_ready = record {
    state = ap (λ (z : Slot). z.state) now;
    queue = out.queue ∙ sym (ap (λ (z : Slot). Some z.sqid) now);
    sqid = ap (λ (z : Slot). z.sqid) now;
    cid = ap (λ (z : Slot). z.entry.cid) now ∙ ap (λ (e : Sqe). e.cid) out.entry;
    sct = ap (λ (z : Slot). z.sct) now;
    few_types = subst (λ (m : ℕ). m < 8) (sym (ap (λ (z : Slot). z.sct) now)) types;
    sc = ap (λ (z : Slot). z.sc) now;
    dw0 = ap (λ (z : Slot). z.dw0) now;
    not_both = λ e. refl;
    flags = ap flags_in now ∙ put_flags flags;
  }

  ready_left : (y : ℕ) → All (IsReadyIn k.sq_id new) (g.readies y)
  ready_left y = all_ready_stay slots new it.tag size others k.sq_id (g.readies y) (omega (arith, out.state)) (h.readies.items y)

  ready_here : (later.cq x).ready ≡ readies_of (left.readies x)
  ready_here = at_here ∙ ap (λ (ts : List Ready). ts ++ item.ready ∷ []) (h.readies.are x) ∙ sym (map-append (λ (w : ReadyItem). w.ready) (g.readies x) (item ∷ []))
      ∙ ap readies_of (sym here_readies)
    where
      at_here : (later.cq x).ready ≡ (k.cq x).ready ++ item.ready ∷ []
      at_here = rw (eq-eqb x x refl) refl

  ready_elsewhere : (y : ℕ) → y ≢ x → (k.cq y).ready ≡ readies_of (left.readies y)
  ready_elsewhere y other = h.readies.are y ∙ ap readies_of (elsewhere y other)

  -- ---- what the device has
  apart_before : AreApart (tags_of before ++ it.tag ∷ tags_of after)
  apart_before = subst AreApart (ap tags_of are ∙ map-append (λ (y : Item). y.tag) before (it ∷ after)) h.outs.apart

  outs_other : All (λ (y : Item). y.tag ≢ it.tag) (before ++ after)
  outs_other = All-unmap (λ (z : ℕ). z ≢ it.tag) (λ (y : Item). y.tag) (before ++ after)
      (All-same (λ (z : ℕ). z ≢ it.tag) (tags_of (before ++ after)) (tags_of before ++ tags_of after) (map-append (λ (y : Item). y.tag) before after)
      (IsNew-others (tags_of before) it.tag (tags_of after) apart_before))

  outs_left : (y : ℕ) → (slot_at new y).state ≡ 2 → IsAmongOuts (before ++ after) y
  outs_left y state = elim (cases_eq y it.tag) [
    | inl same ↦ absurd (omega (arith, state, ap (λ (z : ℕ). (slot_at new z).state) same, ap (λ (z : Slot). z.state) now))
    | inr other ↦
        let at = h.outs.all y (sym (ap (λ (z : Slot). z.state) (others y other)) ∙ state) in
        subst (IsAmongOuts (before ++ after)) at.tag
        (among_others before it after at.before at.item at.after (sym are ∙ at.are) (λ e. other (sym at.tag ∙ e)))
  ]

  hand_left : before ++ after ++ untaken c k g ≡ before ++ (after ++ untaken c k g)
  hand_left = append_assoc before after (untaken c k g)

  deletes_other : (r : ℕ) (d : DeleteItem) → g.deletes r ≡ Some d → d.tag ≢ it.tag
  deletes_other r d at e = omega (arith, (h.deletions.items r d at).state, out.state, ap (λ (z : ℕ). (slot_at slots z).state) e)

  -- ---- all of it
  pub answer-items : HasItems (answered_controller c cqid chain) new later left
  answer-items = record {
    windows = record {
      chain = window_left;
      items = λ q r is. all_waiting_stay slots new it.tag size others q r (g.windows r) (λ e. omega (arith, out.state, e)) (h.windows.items q r is);
      none = h.windows.none;
      are = h.windows.are;
      picked_there = h.windows.picked_there;
    };
    outs = record {
      items = All-both (IsOutIn k.sq_id slots) (λ (y : Item). y.tag ≢ it.tag) (IsOutIn k.sq_id new) (λ y is_out_in other. out_stays slots new it.tag size others k.sq_id y other is_out_in)
          (before ++ after) others_are outs_other;
      apart = subst AreApart (sym (map-append (λ (y : Item). y.tag) before after)) (AreApart-others (tags_of before) it.tag (tags_of after) apart_before);
      all = outs_left;
      hand_is = sym (map-append (λ (y : Item). y.place) before (after ++ untaken c k g)) ∙ ap places_of (sym hand_left);
    };
    readies = record {
      chain = put_cq-lives (λ q y state content ws. IsChain new state.ready (ready_tags ws)) k.cq_life k.cq_id n.cqs.ids c.cqs k.cq g.readies cqid x (answered_cq c cqid chain)
          (k.cq x) (g.readies x ++ item ∷ []) cq_life there
          (subst (IsChain new chain) (sym (map-append (λ (w : ReadyItem). w.tag) (g.readies x) (item ∷ []))) here_ready)
          (λ q y another other is. other_ready q y is other);
      items = at_put (λ y ws. All (IsReadyIn k.sq_id new) ws) g.readies x (g.readies x ++ item ∷ []) (All-push (IsReadyIn k.sq_id new) (g.readies x) item (ready_left x) item_ready) (λ y other. ready_left y);
      none = at_put (λ y ws. k.cq_id y ≡ None → ws ≡ []) g.readies x (g.readies x ++ item ∷ [])
          (λ none. absurd (let id = n.cqs.ids.ids_are cqid x cq_life in cc (none, id))) (λ y other. h.readies.none y);
      are = λ y. elim (cases_eq y x) [
        | inl same ↦ subst (λ (z : ℕ). (later.cq z).ready ≡ readies_of (left.readies z)) (sym same) ready_here
        | inr other ↦ ready_at y other ∙ ready_elsewhere y other
      ];
    };
    deletions = deletions_stay c.sqs c.pending_deletions slots new k.sq_life k.deletion g.deletes it.tag size others deletes_other h.deletions;
    free = record {
      chain = free_left;
      items = all_free_stay slots new it.tag size others g.free (λ e. omega (arith, out.state, e)) h.free.items;
    };
    few = subst (λ (m : ℕ). m < 2 ^ 16) (sym size) h.few;
  }
    where
      ready_at : (y : ℕ) → y ≢ x → (later.cq y).ready ≡ (k.cq y).ready
      ready_at y other = rw (ne_eqb y x other) refl

  -- ---- the numbers
  -- the rings and the phase tags are left
  ring_left : (q : ℕ) → (cq_at (answered_controller c cqid chain).cqs q).ring ≡ (cq_at c.cqs q).ring
  ring_left q = put_cq-states (λ y state. state.ring ≡ (cq_at c.cqs y).ring) c.cqs cqid (answered_cq c cqid chain) there refl q (λ other. refl)

  phase_left : (q : ℕ) → (cq_at (answered_controller c cqid chain).cqs q).phase ≡ (cq_at c.cqs q).phase
  phase_left q = put_cq-states (λ y state. state.phase ≡ (cq_at c.cqs y).phase) c.cqs cqid (answered_cq c cqid chain) there refl q (λ other. refl)

  sq_left : (q r : ℕ) → IsSqOf c k q r → IsSqOf (answered_controller c cqid chain) later q r
  sq_left q r a = a

  cq_left : (q y : ℕ) → IsCqOf c k q y → IsCqOf (answered_controller c cqid chain) later q y
  cq_left q y a = record {
    slots = ap (λ (r : Ring). r.slots) (ring_left q) ∙ a.slots ∙ sym (same_slots y);
    some = subst (λ (m : ℕ). 0 < m) (sym (same_slots y)) a.some;
  }

  pub answer-numbers : HasNumbers (answered_controller c cqid chain) later
  answer-numbers = record {
    tells = n.tells;
    board_is = n.board_is;
    is_arbiter = n.is_arbiter;
    outstanding_is = n.outstanding_is;
    sqs = record {
      ids = n.sqs.ids;
      each = λ q r is. sq_left q r (n.sqs.each q r is);
      few = n.sqs.few;
      none = n.sqs.none;
      size = n.sqs.size;
      rung = n.sqs.rung;
    };
    cqs = record {
      ids = n.cqs.ids;
      each = λ q y is. cq_left q y (n.cqs.each q y is);
      few = n.cqs.few;
      none = λ q none. put_cq-states (λ y state. k.cq_life y ≡ None → state ≡ no_cq_state) c.cqs cqid (answered_cq c cqid chain) there
          (λ closed. absurd (cc (closed, cq_life))) q (λ other. n.cqs.none q) none;
      size = length-set c.cqs cqid (answered_cq c cqid chain) ∙ n.cqs.size;
      readied = readied-put c.readied cqid true c.cqs (answered_cq c cqid chain) there n.cqs.readied (λ no. absurd (cc no));
    };
  }

  -- the notes afterwards
  abbrev told : Notes
  told = Flagged it.place.region it.place.index flags ∷ Answered it.place.region it.place.index answer ∷ notes

  pub answer-doorbells : HoldsDoorbells rules notes c k → HoldsDoorbells rules told (answered_controller c cqid chain) later
  answer-doorbells d = record {
    sqs = d.sqs;
    cqs = record {
      each = λ q y is. subst (λ (r : Ring). HasCounts r (consumed rules notes y) (length (posted_to (logged notes) y))) (sym (ring_left q)) (d.cqs.each q y is);
      phases = λ q y is. ap (λ (m : ℕ). m == 1) (phase_left q) ∙ d.cqs.phases q y is
          ∙ ap (λ (r : Ring). phase_after (length (posted_to (logged notes) y)) r.slots) (sym (ring_left q));
      no_heads = d.cqs.no_heads;
      no_posts = d.cqs.no_posts;
    };
  }

  -- ---- the log
  held : holder notes it.tag ≡ Some it.place
  held = (All-taken (λ (y : Item). holder notes y.tag ≡ Some y.place) before it after
      (All-same (λ (y : Item). holder notes y.tag ≡ Some y.place) (before ++ it ∷ after) g.outs (sym are) t.held.outs)).0

  unanswered : IsUnanswered notes it.place
  unanswered = (All-taken (λ (y : Item). IsUnanswered notes y.place) before it after
      (All-same (λ (y : Item). IsUnanswered notes y.place) (before ++ it ∷ after) g.outs (sym are) t.unanswered.outs)).0

  -- it has the answer now
  has_answer : answer_of (Answered it.place.region it.place.index answer ∷ notes) it.place.region it.place.index ≡ Some answer
  has_answer = rw (eq-eqb it.place.region it.place.region refl, eq-eqb it.place.index it.place.index refl) refl

  -- the others have theirs
  answer_left : (q : Place) → IsOther it.place.region it.place.index q
      → answer_of (Answered it.place.region it.place.index answer ∷ notes) q.region q.index ≡ answer_of notes q.region q.index
  answer_left q other = rw other refl

  all_unanswered : (its : List Item) → All (λ (y : Item). IsOther it.place.region it.place.index y.place) its → All (λ (y : Item). IsUnanswered notes y.place) its
      → All (λ (y : Item). IsUnanswered (Answered it.place.region it.place.index answer ∷ notes) y.place) its
  all_unanswered its other none = All-both (λ (y : Item). IsOther it.place.region it.place.index y.place) (λ (y : Item). IsUnanswered notes y.place)
      (λ (y : Item). IsUnanswered (Answered it.place.region it.place.index answer ∷ notes) y.place) (λ y is_not is. answer_left y.place is_not ∙ is) its other none

  -- what is through stays so
  through_left : (w : ReadyItem) → IsThrough notes w.ready → IsThrough (Answered it.place.region it.place.index answer ∷ notes) w.ready
  through_left w (inl is_aborted_place) = inl is_aborted_place
  through_left w (inr has) = inr (answer_left w.ready.place (is_other it.place.region it.place.index w.ready.place (λ same_region same_index.
      (let none : answer_of notes w.ready.place.region w.ready.place.index ≡ None =
      (λ j. answer_of notes (sym same_region j) (sym same_index j)) ∙ unanswered in
      let lost : None ≡ Some (answer_in w.ready) = sym none ∙ has in cc lost))) ∙ has)

  all_through : (ws : List ReadyItem) → All (λ (w : ReadyItem). IsThrough notes w.ready) ws → All (λ (w : ReadyItem). IsThrough (Answered it.place.region it.place.index answer ∷ notes) w.ready) ws
  all_through ws each = All-weaker (λ (w : ReadyItem). IsThrough notes w.ready) (λ (w : ReadyItem). IsThrough (Answered it.place.region it.place.index answer ∷ notes) w.ready) through_left ws each

  not_out_now : (y : ℕ) → (slot_at new y).state ≡ 3 → is_out (Answered it.place.region it.place.index answer ∷ notes) y ≡ false
  not_out_now y state = elim (cases_eq y it.tag) [
    | inl same ↦ subst (λ (z : ℕ). is_out (Answered it.place.region it.place.index answer ∷ notes) z ≡ false) (sym same)
        (ap (is_unanswered (Answered it.place.region it.place.index answer ∷ notes)) held ∙ ap (λ (o : Option Answer). is_none o) has_answer)
    | inr other ↦ still_not_out-answered it.place.region it.place.index answer notes y (t.held.answered y (sym (ap (λ (z : Slot). z.state) (others y other)) ∙ state))
  ]

  none_held_now : (y : ℕ) → (slot_at new y).state ≢ 2 → (slot_at new y).state ≢ 3 → holder notes y ≡ None
  none_held_now y not_out not_answered = elim (cases_eq y it.tag) [
    | inl same ↦ absurd (not_answered (ap (λ (z : ℕ). (slot_at new z).state) same ∙ ap (λ (z : Slot). z.state) now))
    | inr other ↦
        let state : (slot_at new y).state ≡ (slot_at slots y).state = ap (λ (z : Slot). z.state) (others y other) in
        t.held.none y (λ e. not_out (state ∙ e)) (λ e. not_answered (state ∙ e))
  ]

  -- it is a command of the device's
  devices : IsDevices notes it.place
  devices = held_is_devices notes c k g t.untaken_are t.passed it.tag it.place held

  -- what is ready is of other places
  ready_other : (w : ReadyItem) → IsThrough notes w.ready → IsOther it.place.region it.place.index w.ready.place
  ready_other w (inl is_aborted_place) = is_other it.place.region it.place.index w.ready.place (λ same_region same_index.
      (let clear = (at_hand rules late notes c slots k g s n h t before it after are answer).not_aborted in
      let lost : false ≡ true = sym clear ∙ (λ j. is_aborted (logged notes) (same_region j) (same_index j)) ∙ is_aborted_place in cc lost))
  ready_other w (inr has) = is_other it.place.region it.place.index w.ready.place (λ same_region same_index.
      (let none : answer_of notes w.ready.place.region w.ready.place.index ≡ None =
      (λ j. answer_of notes (sym same_region j) (sym same_index j)) ∙ unanswered in
      let lost : None ≡ Some (answer_in w.ready) = sym none ∙ has in cc lost))

  flags_left : (w : ReadyItem) → IsThrough notes w.ready → HasFlags notes w → HasFlags told w
  flags_left w through has = rw (ready_other w through) has

  all_flags : (ws : List ReadyItem) → All (λ (w : ReadyItem). IsThrough notes w.ready) ws → All (HasFlags notes) ws → All (HasFlags told) ws
  all_flags ws through has = All-both (λ (w : ReadyItem). IsThrough notes w.ready) (HasFlags notes) (HasFlags told) flags_left ws through has

  item_flags : HasFlags told item
  item_flags = rw (eq-eqb it.place.region it.place.region refl, eq-eqb it.place.index it.place.index refl) refl

  none_flagged_now : (r i : ℕ) → answer_of told r i ≡ None → flags_of told r i ≡ None
  none_flagged_now r i = by (it.place.region == r && it.place.index == i) where
    by : (b : Bool) → (if b then Some answer else answer_of notes r i) ≡ None → (if b then Some flags else flags_of notes r i) ≡ None
    by true lost = absurd (cc lost)
    by false is = t.flagged.none r i is

  pub answer-tags : HoldsTags told (answered_controller c cqid chain) new later left
  answer-tags = record {
    untaken_are = t.untaken_are;
    held = record {
      outs = (All-taken (λ (y : Item). holder notes y.tag ≡ Some y.place) before it after
          (All-same (λ (y : Item). holder notes y.tag ≡ Some y.place) (before ++ it ∷ after) g.outs (sym are) t.held.outs)).1;
      readies = at_put (λ y ws. All (λ (w : ReadyItem). w.was_out ≡ true → holder notes w.tag ≡ Some w.ready.place) ws) g.readies x (g.readies x ++ item ∷ [])
          (All-push (λ (w : ReadyItem). w.was_out ≡ true → holder notes w.tag ≡ Some w.ready.place) (g.readies x) item (t.held.readies x) (λ e. held))
          (λ y other. t.held.readies y);
      none = none_held_now;
      answered = λ y state. still_not_out-flagged it.place.region it.place.index flags (Answered it.place.region it.place.index answer ∷ notes) y (not_out_now y state);
    };
    through = at_put (λ y ws. All (λ (w : ReadyItem). IsThrough (Answered it.place.region it.place.index answer ∷ notes) w.ready) ws) g.readies x (g.readies x ++ item ∷ [])
        (All-push (λ (w : ReadyItem). IsThrough (Answered it.place.region it.place.index answer ∷ notes) w.ready) (g.readies x) item (all_through (g.readies x) (t.through x)) (inr has_answer))
        (λ y other. all_through (g.readies y) (t.through y));
    unanswered = record {
      windows = λ r. all_unanswered (g.windows r) (others_in_windows rules late notes c slots k g s n h t before it after are answer r) (t.unanswered.windows r);
      outs = all_unanswered (before ++ after) (others_out rules late notes c slots k g s n h t before it after are answer)
          (All-taken (λ (y : Item). IsUnanswered notes y.place) before it after
          (All-same (λ (y : Item). IsUnanswered notes y.place) (before ++ it ∷ after) g.outs (sym are) t.unanswered.outs)).1;
      deletes = λ r d at. ap (λ (b : Bool). if b then Some answer else answer_of notes 0 d.index) (not_deletion r d at) ∙ t.unanswered.deletes r d at;
      none = λ r i past_all. answer_left (place_at r i) (is_other it.place.region it.place.index (place_at r i) (λ same_region same_index.
          let was = was_fetched rules late notes c slots k g s n h t before it after are answer in
          omega (arith, was, same_index, ap (λ (z : ℕ). length (fetched (logged notes) z)) same_region, past_all))) ∙ t.unanswered.none r i past_all;
    };
    hand_entries = All-same (HasEntry (logged notes)) (before ++ after ++ untaken c k g) (before ++ (after ++ untaken c k g)) hand_left
        (has_entries rules late notes c slots k g s n h t before it after are answer).1;
    free_count = t.free_count ∙ ap (λ (m : ℕ). m + all_posts (logged notes)) (sym size);
    cookies = record {
      windows = λ r. items_left notes slots new same (g.windows r) (t.cookies.windows r);
      outs = items_left notes slots new same (before ++ after) cookies.1;
      readies = at_put (λ y ws. All (HasReadyCookie notes new) ws) g.readies x (g.readies x ++ item ∷ [])
          (readies_left notes slots new same (g.readies x ++ item ∷ []) (All-push (HasReadyCookie notes slots) (g.readies x) item (t.cookies.readies x) cookies.0))
          (λ y other. readies_left notes slots new same (g.readies y) (t.cookies.readies y));
      deletes = λ r d at. cookie_left notes slots new same d.tag (place_at 0 d.index) (t.cookies.deletes r d at);
      none = t.cookies.none;
    };
    passed = record {
      all_handed = t.passed.all_handed;
      served = t.passed.served;
      readies = at_put (λ y ws. All (IsReadyOf (Answered it.place.region it.place.index answer ∷ notes)) ws) g.readies x (g.readies x ++ item ∷ [])
          (All-push (IsReadyOf (Answered it.place.region it.place.index answer ∷ notes)) (g.readies x) item (t.passed.readies x) (devices_passed notes it.place devices))
          (λ y other. t.passed.readies y);
      deletes = t.passed.deletes;
    };
    flagged = record {
      none = none_flagged_now;
      readies = at_put (λ y ws. All (HasFlags told) ws) g.readies x (g.readies x ++ item ∷ [])
          (All-push (HasFlags told) (g.readies x) item (all_flags (g.readies x) (t.through x) (t.flagged.readies x)) item_flags)
          (λ y other. all_flags (g.readies y) (t.through y) (t.flagged.readies y));
    };
  } where
    not_deletion : (r : ℕ) (d : DeleteItem) → g.deletes r ≡ Some d → (it.place.region == 0 && it.place.index == d.index) ≡ false
    not_deletion r d at = by (it.place.region == 0) (it.place.index == d.index) refl refl where
      by : (a b : Bool) → (it.place.region == 0) ≡ a → (it.place.index == d.index) ≡ b → (a && b) ≡ false
      by true true e f =
          let here : is_of_device notes 0 d.index ≡ true = subst (λ (x : ℕ). is_of_device notes x d.index ≡ true) (eqb-true it.place.region 0 e)
          (subst (λ (j : ℕ). is_of_device notes it.place.region j ≡ true) (eqb-true it.place.index d.index f) devices) in
          let none = t.passed.deletes r d at in
          absurd (cc (here, none))
      by true false e f = refl
      by false b e f = refl

    same : SameCookies slots new
    same = same_cookies-but slots new it.tag others (ap (λ (z : Slot). z.cookie) now)

    cookies : HasCookie notes slots it × All (HasCookie notes slots) (before ++ after)
    cookies = All-taken (HasCookie notes slots) before it after (All-same (HasCookie notes slots) (before ++ it ∷ after) g.outs (sym are) t.cookies.outs)

  -- the note is lawful
  is_answer : IsAnswer rules notes it.place.region it.place.index answer
  is_answer = record {
    first = unanswered;
    executed = rw devices (record { tag = it.tag; stands = held });
  }

  is_flagged : IsFlagged (Answered it.place.region it.place.index answer ∷ notes) it.place.region it.place.index
  is_flagged = record {
    first = t.flagged.none it.place.region it.place.index unanswered;
    answered = rw has_answer refl;
    by_device = record { tag = it.tag; stands = held };
  }

  pub answer-account : IsAccount rules notes → IsAccount rules told
  answer-account a = record { each = (is_flagged, (is_answer, a.each)); lawful = a.lawful; effects_whole = a.effects_whole }

  pub answer-held : holder notes it.tag ≡ Some it.place
  answer-held = held

-- ---- the call
-- where an item is among those that the device has
answer-item : (rules : FrontRules) (late : Bool) (notes : Notes) (c : Controller) (slots : List Slot) (s : StandsAt rules late notes c slots)
    (before : List Item) (it : Item) (after : List Item) → s.items.outs ≡ before ++ it ∷ after → (answer : Answer) (flags : StatusFlags) → answer.status.sct < 8
    → (new : List Slot) (chain : Chain)
    → IsPushed (answered_pool slots it.tag answer flags) (cq_at c.cqs (sq_at c.sqs (slot_at slots it.tag).sqid).cqid).ready it.tag new chain
    → HasAnswered rules late notes it.tag answer flags (answered_controller c (sq_at c.sqs (slot_at slots it.tag).sqid).cqid chain) new
answer-item rules late notes c slots s before it after are answer flags types new chain p = record {
  region = it.place.region;
  index = it.place.index;
  held = answer-held rules late notes c slots s.content s.items s.holds s.numbers s.has s.tags before it after are answer flags types new chain p;
  stands = record {
    content = answered rules late notes c slots s.content s.items s.holds s.numbers s.has s.tags before it after are answer;
    items = left rules late notes c slots s.content s.items s.holds s.numbers s.has s.tags before it after are answer flags types new chain p;
    holds = holds_answered rules late notes c slots s.content s.items s.holds s.numbers s.has s.tags before it after are answer;
    numbers = answer-numbers rules late notes c slots s.content s.items s.holds s.numbers s.has s.tags before it after are answer flags types new chain p;
    has = answer-items rules late notes c slots s.content s.items s.holds s.numbers s.has s.tags before it after are answer flags types new chain p;
    doorbells = answer-doorbells rules late notes c slots s.content s.items s.holds s.numbers s.has s.tags before it after are answer flags types new chain p s.doorbells;
    tags = answer-tags rules late notes c slots s.content s.items s.holds s.numbers s.has s.tags before it after are answer flags types new chain p;
    shown = record { held = s.shown.held; classed = s.shown.classed };
    ordered = answered-in-order rules late notes c slots s.content s.items s.holds s.numbers s.has s.tags before it after are answer s.ordered;
    regions = record { sqs = s.regions.sqs; cqs = s.regions.cqs };
    account = λ on_time. answer-account rules late notes c slots s.content s.items s.holds s.numbers s.has s.tags before it after are answer flags types new chain p (s.account on_time);
  };
}

-- the controller stands at its log with the note, where the slot of a command that the device has is ready
pub answer-stands : (rules : FrontRules) (late : Bool) (notes : Notes) (c : Controller) (slots : List Slot) → StandsAt rules late notes c slots
    → (tag : ℕ) → (slot_at slots tag).state ≡ 2 → (answer : Answer) (flags : StatusFlags) → answer.status.sct < 8
    → (new : List Slot) (chain : Chain) (q : ℕ) → (sq_at c.sqs (slot_at slots tag).sqid).cqid ≡ q
    → IsPushed (answered_pool slots tag answer flags) (cq_at c.cqs q).ready tag new chain
    → HasAnswered rules late notes tag answer flags (answered_controller c q chain) new
answer-stands rules late notes c slots s tag state answer flags types new chain q goes =
    let at = s.has.outs.all tag state in
    subst (λ (z : ℕ). IsPushed (answered_pool slots tag answer flags) (cq_at c.cqs z).ready tag new chain
    → HasAnswered rules late notes tag answer flags (answered_controller c z chain) new) goes
    (subst (λ (y : ℕ). IsPushed (answered_pool slots y answer flags) (cq_at c.cqs (sq_at c.sqs (slot_at slots y).sqid).cqid).ready y new chain
    → HasAnswered rules late notes y answer flags (answered_controller c (sq_at c.sqs (slot_at slots y).sqid).cqid chain) new) at.tag
    (answer-item rules late notes c slots s at.before at.item at.after at.are answer flags types new chain))

-- ---- what is answered
-- the tag of a slot that the device has is out
pub out_is_out : (rules : FrontRules) (late : Bool) (notes : Notes) (c : Controller) (slots : List Slot) → StandsAt rules late notes c slots
    → (tag : ℕ) → (slot_at slots tag).state ≡ 2 → is_out notes tag ≡ true
out_is_out rules late notes c slots s tag state =
    let at = s.has.outs.all tag state in
    let held = (All-taken (λ (y : Item). holder notes y.tag ≡ Some y.place) at.before at.item at.after
    (All-same (λ (y : Item). holder notes y.tag ≡ Some y.place) (at.before ++ at.item ∷ at.after) s.items.outs (sym at.are) s.tags.held.outs)).0 in
    let none = (All-taken (λ (y : Item). IsUnanswered notes y.place) at.before at.item at.after
    (All-same (λ (y : Item). IsUnanswered notes y.place) (at.before ++ at.item ∷ at.after) s.items.outs (sym at.are) s.tags.unanswered.outs)).0 in
    subst (λ (y : ℕ). is_out notes y ≡ true) at.tag
    (ap (is_unanswered notes) held ∙ ap (λ (o : Option Answer). is_none o) none)

-- that of another slot isn't
pub other_is_not_out : (rules : FrontRules) (late : Bool) (notes : Notes) (c : Controller) (slots : List Slot) → StandsAt rules late notes c slots
    → (tag : ℕ) → (slot_at slots tag).state ≢ 2 → is_out notes tag ≡ false
other_is_not_out rules late notes c slots s tag other = elim (cases_eq (slot_at slots tag).state 3) [
  | inl answered_one ↦ s.tags.held.answered tag answered_one
  | inr neither ↦ ap (is_unanswered notes) (s.tags.held.none tag other neither)
]
