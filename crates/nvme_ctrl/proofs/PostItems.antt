-- After a post the slots of a controller have its commands.
use Rattle.std.proofs.Common.{◌≡◌, ◌≢◌, ℕ, ◌-◌, ◌<◌, ◌≤◌, ◌^◌, ◌==◌, Bool, true, false, if◌then◌else◌, List, [], ◌∷◌, ◌++◌, length, map, drop, Option, Some, None, refl, sym, ap, ◌∙◌, subst, arith, inl, inr, length-append}
use Rattle.std.specs.Prelude.{All}
use Rattle.std.proofs.lemmas.Bool.{cases_eq, eq-eqb, ne_eqb, eqb-true}
use Rattle.std.proofs.lemmas.Option.{same_Some}
use Rattle.std.proofs.lemmas.List.Elements.{All-head, All-tail, All-same, All-map, All-weaker, All-push}
use Rattle.nvme_log.specs.Queues.{cq_region_of}
use Rattle.nvme_slots.specs.declared.slot.Slot.{Slot}
use Rattle.nvme_slots.specs.declared.chain.Chain.{Chain}
use Rattle.nvme_ctrl_content.specs.Standing.{IsReady}
use Rattle.nvme_slots.specs.Pool.{slot_at, item_at, IsNew, AreApart, IsChain}
use Rattle.nvme_ctrl.specs.kept.State.{sq_at, cq_at}
use Rattle.nvme_ctrl.specs.kept.Kept.{Item, ReadyItem, tags_of, ready_tags, readies_of, ready_state, IsWaitingIn, IsOutIn, IsReadyIn, IsAmongOuts, is_free, candidate_of, picked_of, HasItems}
use Rattle.nvme_ctrl_content.proofs.OwnStatus.{All-unmap}
use Rattle.nvme_ctrl.proofs.Lives.{one_life, put_cq-lives}
use Rattle.nvme_ctrl.proofs.PostNumbers.{sq_left}
use Rattle.nvme_ctrl.specs.declared.state.Controller.{Controller}
use Rattle.nvme_slots.proofs.Pools.{length-put_item, item_at-put_item_same, item_at-put_item_other, IsNew-by, AreApart-push, chain-put_item, chain-other, length-apart}
use Rattle.nvme_ctrl.proofs.SlotItems.{All-both, at_put, ready_state-range, waiting_stays, out_stays, ready_stays}
use Rattle.nvme_ctrl.proofs.PendingDeletions.{deletions_stay, deletions_kept}
use Rattle.nvme_ctrl.proofs.PostCall.{freed, PostCall, content, past_of, command, region, content_after, controller_after, put_readies, items_after, ready_in, life_is, is_ready, sq_after, sqs_have, cqs_have}

-- what is picked of a queue and not taken is left, where the picked commands are
pub picked_left : (c before : Controller) → c.picked ≡ before.picked → c.picked_qid ≡ before.picked_qid → (o : Option ℕ) → picked_of c o ≡ picked_of before o
picked_left c before picked queue None = refl
picked_left c before picked queue (Some q) = λ j. if q == queue j then picked j else 0

module _ (p : PostCall) where
  abbrev pub tag : ℕ
  tag = p.item.tag

  -- ---- slots
  pub tag_inside : tag < length p.slots
  tag_inside =
      let P : ℕ → Type 0 = λ z. z < length p.slots in
      All-head P tag (ready_tags p.rest) (All-same P (tag ∷ ready_tags p.rest) (ready_tags (p.stands.items.readies p.x)) (sym (ap ready_tags p.are)) (p.stands.has.readies.chain p.cqid p.x p.life).inside)

  pub size_is : length p.new ≡ length p.slots
  size_is = p.did.items.size ∙ length-put_item p.slots tag (record (slot_at p.slots tag) { state = 0 })

  pub other_kept : (y : ℕ) → y ≢ tag → item_at p.new y ≡ item_at p.slots y
  other_kept y other = p.did.items.items y ∙ item_at-put_item_other p.slots tag (record (slot_at p.slots tag) { state = 0 }) y other

  pub tag_freed : (slot_at p.new tag).state ≡ 0
  tag_freed = ap (λ (s : Slot). s.state) (p.did.items.items tag ∙ item_at-put_item_same p.slots tag (record (slot_at p.slots tag) { state = 0 }) tag_inside)

  -- a slot of another state is another slot
  pub lower : (y n : ℕ) → (slot_at p.slots y).state ≡ n → n ≤ 2 → y ≢ tag
  lower y n e le same =
      let at : (slot_at p.slots y).state ≡ (slot_at p.slots tag).state = ap (λ (z : ℕ). (slot_at p.slots z).state) same in
      omega (arith, e, le, at, (ready_in p).state, (ready_state-range p.item.was_out p.item.ready.with_queue).0)

  pub higher : (y n : ℕ) → (slot_at p.slots y).state ≡ n → 6 ≤ n → y ≢ tag
  higher y n e le same =
      let at : (slot_at p.slots y).state ≡ (slot_at p.slots tag).state = ap (λ (z : ℕ). (slot_at p.slots z).state) same in
      omega (arith, e, le, at, (ready_in p).state, (ready_state-range p.item.was_out p.item.ready.with_queue).1)

  -- ---- chains
  -- what isn't free is new to the free slots
  unfree : (y n : ℕ) → (slot_at p.slots y).state ≡ n → 0 < n → IsNew y p.stands.items.free
  unfree y n e more = IsNew-by (is_free p.slots) y p.stands.items.free p.stands.has.free.items (λ z. omega (arith, e, z, more))

  freed_chain : (c : Chain) (xs : List ℕ) → IsChain p.slots c xs → IsChain (freed p.slots tag) c xs
  freed_chain c xs h = chain-put_item p.slots c xs tag (record (slot_at p.slots tag) { state = 0 }) h

  chain_kept : (c : Chain) (xs : List ℕ) → IsChain p.slots c xs → All (λ (y : ℕ). IsNew y p.stands.items.free) xs → IsChain p.new c xs
  chain_kept c xs h new_to =
      chain-other (freed p.slots tag) p.new c xs p.stands.items.free (freed_chain c xs h)
      (p.did.links p.stands.items.free (freed_chain p.c.free p.stands.items.free p.stands.has.free.chain)) p.did.items.size new_to

  window_unfree : (q r : ℕ) → (content p).sq_life q ≡ Some r → All (λ (y : ℕ). IsNew y p.stands.items.free) (tags_of (p.stands.items.windows r))
  window_unfree q r life =
      All-map (λ (y : ℕ). IsNew y p.stands.items.free) (λ (it : Item). it.tag) (p.stands.items.windows r)
      (All-weaker (IsWaitingIn p.slots q r) (λ (it : Item). IsNew it.tag p.stands.items.free) (λ it h. unfree it.tag 1 h.state (omega arith)) (p.stands.items.windows r) (p.stands.has.windows.items q r life))

  ready_unfree : (items : List ReadyItem) → All (IsReadyIn (content p).sq_id p.slots) items → All (λ (y : ℕ). IsNew y p.stands.items.free) (ready_tags items)
  ready_unfree items h =
      All-map (λ (y : ℕ). IsNew y p.stands.items.free) (λ (it : ReadyItem). it.tag) items
      (All-weaker (IsReadyIn (content p).sq_id p.slots) (λ (it : ReadyItem). IsNew it.tag p.stands.items.free)
      (λ it i. unfree it.tag (ready_state it.was_out it.ready.with_queue) i.state (omega (arith, (ready_state-range it.was_out it.ready.with_queue).0))) items h)

  tag_unfree : IsNew tag p.stands.items.free
  tag_unfree = unfree tag (ready_state p.item.was_out p.item.ready.with_queue) (ready_in p).state (omega (arith, (ready_state-range p.item.was_out p.item.ready.with_queue).0))

  -- the slot is put behind the free ones
  free_after : IsChain p.new p.free (p.stands.items.free ++ tag ∷ [])
  free_after =
      let h = p.stands.has.free.chain in
      let P : ℕ → Type 0 = λ z. z < length p.slots in
      let few = length-apart (length p.slots) (p.stands.items.free ++ tag ∷ []) (AreApart-push p.stands.items.free tag h.apart tag_unfree)
      (All-push P p.stands.items.free tag h.inside tag_inside) in
      p.did.chain p.stands.items.free (freed_chain p.c.free p.stands.items.free h)
      (subst (λ (n : ℕ). tag < n) (sym (length-put_item p.slots tag (record (slot_at p.slots tag) { state = 0 }))) tag_inside) tag_unfree
      (omega (arith, few, length-append p.stands.items.free (tag ∷ []), p.stands.has.few))

  -- ---- items
  waiting_kept : (q r : ℕ) (it : Item) → IsWaitingIn p.slots q r it → IsWaitingIn p.new q r it
  waiting_kept q r it h = waiting_stays p.slots p.new tag size_is other_kept q r it (lower it.tag 1 h.state (omega arith)) h

  out_kept : (it : Item) → IsOutIn (content p).sq_id p.slots it → IsOutIn (content p).sq_id p.new it
  out_kept it h = out_stays p.slots p.new tag size_is other_kept (content p).sq_id it (lower it.tag 2 h.state (omega arith)) h

  ready_kept : (it : ReadyItem) → IsReadyIn (content p).sq_id p.slots it → it.tag ≢ tag → IsReadyIn (content p).sq_id p.new it
  ready_kept it h other = ready_stays p.slots p.new tag size_is other_kept (content p).sq_id it other h

  free_kept : (y : ℕ) → is_free p.slots y → is_free p.new y
  free_kept y h = ap (λ (s : Slot). s.state) (other_kept y (lower y 0 h (omega arith))) ∙ h

  -- ---- what is ready
  -- in the same region the chain is apart
  rest_apart : All (λ (it : ReadyItem). it.tag ≢ tag) p.rest
  rest_apart =
      let apart : AreApart (tag ∷ ready_tags p.rest) = subst AreApart (ap ready_tags p.are) (p.stands.has.readies.chain p.cqid p.x p.life).apart in
      All-unmap (λ (y : ℕ). y ≢ tag) (λ (it : ReadyItem). it.tag) p.rest apart.0

  -- and what is ready in another one is of another queue
  ready_of : (y : ℕ) → All (λ (it : ReadyItem). IsReady (past_of p) (content p).deletion y it.ready) (p.stands.items.readies y)
  ready_of y =
      All-unmap (IsReady (past_of p) (content p).deletion y) (λ (it : ReadyItem). it.ready) (p.stands.items.readies y)
      (All-same (IsReady (past_of p) (content p).deletion y) (readies_of (p.stands.items.readies y)) ((content p).cq y).ready (sym (p.stands.has.readies.are y)) (p.stands.holds.ready.each y))

  elsewhere_apart : (y : ℕ) → y ≢ p.x → (it : ReadyItem) → IsReadyIn (content p).sq_id p.slots it → IsReady (past_of p) (content p).deletion y it.ready → it.tag ≢ tag
  elsewhere_apart y other it i h same =
      let ids = p.stands.numbers.sqs.ids in
      let life : (content p).sq_life (command p).sqid ≡ Some it.ready.place.region =
      subst (λ (z : ℕ). (content p).sq_life (slot_at p.slots z).sqid ≡ Some it.ready.place.region) same (ids.lives_are it.ready.place.region (slot_at p.slots it.tag).sqid i.queue) in
      let regions : it.ready.place.region ≡ region p = one_life (content p).sq_life (command p).sqid it.ready.place.region (region p) life (life_is p) in
      other (same_Some y p.x (sym h.region ∙ ap (λ (r : ℕ). cq_region_of (past_of p) r) regions ∙ (is_ready p).region))

  -- what is ready before, in its region without the command
  rest_ready : All (IsReadyIn (content p).sq_id p.slots) p.rest
  rest_ready =
      let P = IsReadyIn (content p).sq_id p.slots in
      All-tail P p.item p.rest (All-same P (p.item ∷ p.rest) (p.stands.items.readies p.x) (sym p.are) (p.stands.has.readies.items p.x))

  pub readies_before : (y : ℕ) → All (IsReadyIn (content p).sq_id p.slots) ((items_after p).readies y)
  readies_before = at_put (λ y items. All (IsReadyIn (content p).sq_id p.slots) items) p.stands.items.readies p.x p.rest rest_ready (λ y d. p.stands.has.readies.items y)

  pub readies_apart : (y : ℕ) → All (λ (it : ReadyItem). it.tag ≢ tag) ((items_after p).readies y)
  readies_apart = at_put (λ y items. All (λ (it : ReadyItem). it.tag ≢ tag) items) p.stands.items.readies p.x p.rest rest_apart
      (λ y d. All-both (IsReadyIn (content p).sq_id p.slots) (λ (it : ReadyItem). IsReady (past_of p) (content p).deletion y it.ready) (λ (it : ReadyItem). it.tag ≢ tag)
      (elsewhere_apart y d) (p.stands.items.readies y) (p.stands.has.readies.items y) (ready_of y))

  -- the chain of the ready slots, without the first one
  rest_chain : IsChain p.slots p.cq.ready (ready_tags p.rest)
  rest_chain = p.did.rest tag (ready_tags p.rest) (subst (IsChain p.slots (cq_at p.c.cqs p.cqid).ready) (ap ready_tags p.are) (p.stands.has.readies.chain p.cqid p.x p.life))

  -- of both the states and the lists
  ready_chains : (q y : ℕ) → (content p).cq_life q ≡ Some y → IsChain p.slots (cq_at (controller_after p).cqs q).ready (ready_tags ((items_after p).readies y))
  ready_chains =
      put_cq-lives (λ q y state s (items : List ReadyItem). IsChain p.slots state.ready (ready_tags items)) (content p).cq_life (content p).cq_id p.stands.numbers.cqs.ids p.c.cqs (content p).cq
      p.stands.items.readies p.cqid p.x p.cq ((content p).cq p.x) p.rest p.life (cqs_have p) rest_chain (λ q y other apart life. p.stands.has.readies.chain q y life)

  -- nothing is ready where no queue is open
  ready_none_after : (y : ℕ) → (content p).cq_id y ≡ None → (items_after p).readies y ≡ []
  ready_none_after y none = elim (cases_eq y p.x) [
    | inl same ↦ absurd (let id = subst (λ (z : ℕ). (content p).cq_id z ≡ Some p.cqid) (sym same) (p.stands.numbers.cqs.ids.ids_are p.cqid p.x p.life) in cc (id, none))
    | inr other ↦ rw (ne_eqb y p.x other, put_readies) (p.stands.has.readies.none y none)
  ]

  pub ready_contents : (y : ℕ) → ((content_after p).cq y).ready ≡ readies_of ((items_after p).readies y)
  ready_contents y = elim (cases_eq y p.x) [
    | inl same ↦ subst (λ (n : ℕ). ((content_after p).cq n).ready ≡ readies_of ((items_after p).readies n)) (sym same) (rw (eq-eqb p.x p.x refl) refl)
    | inr other ↦ rw (ne_eqb y p.x other) (p.stands.has.readies.are y)
  ]

  -- it has the cookie that it had
  pub tag_cookie : (slot_at p.new tag).cookie ≡ (slot_at p.slots tag).cookie
  tag_cookie = ap (λ (s : Slot). s.cookie) (p.did.items.items tag ∙ item_at-put_item_same p.slots tag (record (slot_at p.slots tag) { state = 0 }) tag_inside)

  -- ---- all of it
  window_after : (q r : ℕ) → (content p).sq_life q ≡ Some r → IsChain p.new (sq_at (controller_after p).sqs q).window (tags_of (p.stands.items.windows r))
  window_after q r life =
      subst (λ (window : Chain). IsChain p.new window (tags_of (p.stands.items.windows r))) (sym (sq_left p q r life).window)
      (chain_kept (sq_at p.c.sqs q).window (tags_of (p.stands.items.windows r)) (p.stands.has.windows.chain q r life) (window_unfree q r life))

  windows_are : (r : ℕ) → ((content_after p).sq r).window ≡ ((content p).sq r).window
  windows_are r = by (r == region p) refl where
    by : (b : Bool) → (r == region p) ≡ b → (if b then record ((content p).sq (region p)) { unposted = ((content p).sq (region p)).unposted - 1 } else (content p).sq r).window ≡ ((content p).sq r).window
    by true e = ap (λ (z : ℕ). ((content p).sq z).window) (sym (eqb-true r (region p) e))
    by false e = refl

  outs_among : (y : ℕ) → (slot_at p.new y).state ≡ 2 → IsAmongOuts p.stands.items.outs y
  outs_among y e = elim (cases_eq y tag) [
    | inl same ↦ absurd (let at : (slot_at p.new y).state ≡ (slot_at p.new tag).state = ap (λ (z : ℕ). (slot_at p.new z).state) same in omega (arith, e, at, tag_freed))
    | inr other ↦ p.stands.has.outs.all y (sym (ap (λ (s : Slot). s.state) (other_kept y other)) ∙ e)
  ]

  pub has_after : HasItems (controller_after p) p.new (content_after p) (items_after p)
  has_after =
      let h = p.stands.has in
      record {
        windows = record {
          chain = window_after;
          items = λ q r life. All-weaker (IsWaitingIn p.slots q r) (IsWaitingIn p.new q r) (waiting_kept q r) (p.stands.items.windows r) (h.windows.items q r life);
          none = h.windows.none;
          are = λ r. windows_are r ∙ h.windows.are r
              ∙ ap (λ (n : ℕ). map candidate_of (drop n (p.stands.items.windows r))) (sym (picked_left (controller_after p) p.c refl refl ((content p).sq_id r)));
          picked_there = h.windows.picked_there;
        };
        outs = record {
          items = All-weaker (IsOutIn (content p).sq_id p.slots) (IsOutIn (content p).sq_id p.new) out_kept p.stands.items.outs h.outs.items;
          apart = h.outs.apart;
          all = outs_among;
          hand_is = h.outs.hand_is;
        };
        readies = record {
          chain = λ q y life. chain_kept (cq_at (controller_after p).cqs q).ready (ready_tags ((items_after p).readies y)) (ready_chains q y life)
              (ready_unfree ((items_after p).readies y) (readies_before y));
          items = λ y. All-both (IsReadyIn (content p).sq_id p.slots) (λ (it : ReadyItem). it.tag ≢ tag) (IsReadyIn (content p).sq_id p.new) ready_kept ((items_after p).readies y)
              (readies_before y) (readies_apart y);
          none = ready_none_after;
          are = ready_contents;
        };
        deletions = deletions_kept p.c.sqs p.c.pending_deletions p.new (content p).sq_life (content p).deletion p.stands.items.deletes (command p).sqid (sq_after p.c (command p).sqid) (sqs_have p) refl refl
            (deletions_stay p.c.sqs p.c.pending_deletions p.slots p.new (content p).sq_life (content p).deletion p.stands.items.deletes tag size_is other_kept
            (λ r it is. higher it.tag 6 (h.deletions.items r it is).state (omega arith)) h.deletions);
        free = record {
          chain = free_after;
          items = All-push (is_free p.new) p.stands.items.free tag (All-weaker (is_free p.slots) (is_free p.new) free_kept p.stands.items.free h.free.items) tag_freed;
        };
        few = subst (λ (n : ℕ). n < 2 ^ 16) (sym size_is) h.few;
      }
