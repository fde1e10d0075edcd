-- The device takes a picked command: the controller stands at its log afterwards.
use Rattle.std.proofs.Common.{◌≡◌, ◌%◌, ◌≢◌, ℕ, ◌+◌, ◌-◌, ◌<◌, ◌≤◌, ◌^◌, ◌==◌, Bool, true, false, true≢false, if◌then◌else◌, List, [], ◌∷◌, ◌++◌, length, map, take, drop, Option, Some, None, refl, sym, ap, ◌∙◌, subst, arith, inl, inr}
use Rattle.std.specs.Prelude.{slice_get, slice_set, unwrap_or}
use Rattle.std.specs.List.{All}
use Rattle.std.proofs.lemmas.Bool.{cases_eq, eq-eqb, ne_eqb}
use Rattle.std.proofs.lemmas.List.{append_assoc, map-append}
use Rattle.std.proofs.lemmas.List.Elements.{All-head, All-tail, All-push, All-weaker, All-map}
use Rattle.std.proofs.lemmas.Option.{same_Some}
use Rattle.nvme_log.specs.Rules.{FrontRules}
use Rattle.nvme_log.specs.Places.{fetched, fate_of, is_waiting}
use Rattle.nvme_log.specs.Dispatches.{place_at}
use Rattle.nvme_log.specs.declared.place.Place.{Place}
use Rattle.nvme_ctrl_log.specs.Notes.{Notes, Taken, logged}
use Rattle.nvme_ctrl_log.specs.Doorbells.{submitted}
use Rattle.nvme_ctrl_log.specs.Tags.{taken, holder, is_unanswered, all_posts}
use Rattle.nvme_ctrl_log.specs.Account.{IsAccount}
use Rattle.nvme_ctrl.specs.Calls.{HasTaken}
use Rattle.nvme_slots.specs.declared.slot.Slot.{Slot}
use Rattle.nvme_slots.specs.declared.chain.Chain.{Chain}
use Rattle.nvme_ctrl.specs.declared.state.SqState.{SqState}
use Rattle.nvme_ctrl.specs.declared.state.Controller.{Controller}
use Rattle.nvme_ctrl_content.specs.Content.{Candidate, Content}
use Rattle.nvme_ctrl.specs.kept.Kept.{Item, ReadyItem, Items, IsWaitingIn, IsOutIn, IsReadyIn, IsAmongOuts, HasNumbers, HasItems, HoldsDoorbells, HoldsTags, IsUnanswered, HasEntry, HasCookie, StandsAt, tags_of, places_of, ready_tags, candidate_of, picked_region, picked_of, untaken, ready_state, shown_in}
use Rattle.nvme_slots.specs.Pool.{slot_at, item_at, put_item, IsChain, AreApart}
use Rattle.nvme_ctrl.specs.kept.State.{sq_at, cq_at, picked_in}
use Rattle.nvme_ctrl.proofs.Passed.{passed_left, passed_later}
use Rattle.nvme_ctrl.proofs.Cookies.{SameCookies, same_cookies-but, cookie_left, items_left, readies_left}
use Rattle.nvme_slots.proofs.Pools.{linked-head, length-put_item, slot_at-put_item_same, item_at-put_item_other, chain-put_item, AreApart-push}
use Rattle.nvme_ctrl_content.proofs.OwnStatus.{All-unmap, candidates_wait}
use Rattle.nvme_ctrl_content.proofs.HandSteps.{hand_done}
use Rattle.nvme_ctrl_content.proofs.ReadyHand.{All-taken}
use Rattle.nvme_ctrl.proofs.Lives.{one_life, one_id, put_sq-lives}
use Rattle.nvme_ctrl.proofs.SlotItems.{All-both, at_put, take_step, drop_step, ready_state-range, other_state, waiting_stays, out_stays, all_ready_stay, all_free_stay}
use Rattle.nvme_ctrl.proofs.PendingDeletions.{deletions_stay, deletions_kept}
use Rattle.nvme_ctrl.proofs.QueueStates.{put_sqs, sq_changed, rings_kept}
use Rattle.nvme_ctrl.proofs.QueueSets.{rung-kept}

-- the item between two lists
slice_get-next : {X : Type 0} (xs : List X) (x : X) (ys : List X) → slice_get (xs ++ x ∷ ys) (length xs) ≡ Some x
slice_get-next [] x ys = refl
slice_get-next (y ∷ xs) x ys = slice_get-next xs x ys

-- ---- what is so afterwards
abbrev pub took_slot : Slot → Slot
took_slot slot = record slot { state = 2; generation = (slot.generation + 1) % 65536 }

abbrev pub took_pool : List Slot → ℕ → List Slot
took_pool slots tag = put_item slots tag (took_slot (slot_at slots tag))

abbrev pub took_sq : Controller → Chain → SqState
took_sq c chain = record (sq_at c.sqs c.picked_qid) { window = chain }

-- the controller, where the window of the picked queue has a command less
abbrev pub took : Controller → Chain → Controller
took c chain = record c { sqs = slice_set c.sqs c.picked_qid (took_sq c chain); picked = c.picked - 1 }

abbrev pub took_items : Controller → Content → Items → Item → List Item → Items
took_items c k g it rest = record g { windows = λ r. if r == picked_region c k then rest else g.windows r; outs = g.outs ++ it ∷ [] }

-- the state of a queue without its window
-- the first item of the window of the picked queue is taken, and the chain of the others is left
module _ (c : Controller) (slots : List Slot) (k : Content) (g : Items) (n : HasNumbers c k) (h : HasItems c slots k g) (it : Item) (rest : List Item)
    (is : g.windows (picked_region c k) ≡ it ∷ rest) (some : c.picked ≢ 0) (life : k.sq_life c.picked_qid ≡ Some (picked_region c k))
    (chain : Chain) (popped : IsChain slots chain (tags_of rest)) where
  abbrev q : ℕ
  q = c.picked_qid

  abbrev at : ℕ
  at = picked_region c k

  id : k.sq_id at ≡ Some q
  id = n.sqs.ids.ids_are q at life

  linked : IsChain slots (sq_at c.sqs q).window (tags_of (it ∷ rest))
  linked = subst (λ (ws : List Item). IsChain slots (sq_at c.sqs q).window (tags_of ws)) is (h.windows.chain q at life)

  waits : All (IsWaitingIn slots q at) (it ∷ rest)
  waits = subst (All (IsWaitingIn slots q at)) is (h.windows.items q at life)

  first : IsWaitingIn slots q at it
  first = All-head (IsWaitingIn slots q at) it rest waits

  within : it.tag < length slots
  within = All-head (λ (x : ℕ). x < length slots) it.tag (tags_of rest) linked.inside

  there : q < length c.sqs
  there = subst (λ (m : ℕ). q < m) (sym n.sqs.size) (n.sqs.few q at life)

  abbrev new : List Slot
  new = took_pool slots it.tag

  abbrev left : Items
  left = took_items c k g it rest

  size : length new ≡ length slots
  size = length-put_item slots it.tag (took_slot (slot_at slots it.tag))

  others : (y : ℕ) → y ≢ it.tag → item_at new y ≡ item_at slots y
  others y other = item_at-put_item_other slots it.tag (took_slot (slot_at slots it.tag)) y other

  -- its slot is out
  is_out_now : slot_at new it.tag ≡ took_slot (slot_at slots it.tag)
  is_out_now = slot_at-put_item_same slots it.tag (took_slot (slot_at slots it.tag)) within

  -- the entry of each slot is left
  entries : (y : ℕ) → (slot_at new y).entry ≡ (slot_at slots y).entry
  entries y = elim (cases_eq y it.tag) [
    | inl same ↦ subst (λ (z : ℕ). (slot_at new z).entry ≡ (slot_at slots z).entry) (sym same) (ap (λ (s : Slot). s.entry) is_out_now)
    | inr other ↦ ap (λ (s : Slot). s.entry) (others y other)
  ]

  -- a slot of another state is another
  another : (y n : ℕ) → (slot_at slots y).state ≡ n → n ≢ 1 → y ≢ it.tag
  another y n state other = other_state slots y it.tag n 1 state first.state other

  -- ---- numbers
  in_queue : picked_in c q ≡ c.picked
  in_queue = rw (eq-eqb q q refl) refl

  now_in_queue : picked_in (took c chain) q ≡ c.picked - 1
  now_in_queue = rw (eq-eqb q q refl) refl

  -- none is picked in another queue, so in another region
  in_other : (o : Option ℕ) → ((p : ℕ) → o ≡ Some p → p ≢ q) → picked_of c o ≡ picked_of (took c chain) o
  in_other None other = refl
  in_other (Some p) other = rw (ne_eqb p q (other p refl)) refl

  not_elsewhere : (x : ℕ) → x ≢ at → picked_of c (k.sq_id x) ≡ picked_of (took c chain) (k.sq_id x)
  not_elsewhere x other = in_other (k.sq_id x) (λ p there_is same. other (one_life k.sq_life p x at (n.sqs.ids.lives_are x p there_is) (ap k.sq_life same ∙ life)))

  rest_is : left.windows at ≡ rest
  rest_is = rw (eq-eqb at at refl) refl

  -- what is picked and not taken has one less, which is out
  untaken_is : untaken c k g ≡ it ∷ untaken (took c chain) k left
  untaken_is = ap (take c.picked) is ∙ take_step c.picked it rest some ∙ ap (λ (ws : List Item). it ∷ take (c.picked - 1) ws) (sym rest_is)

  pub hand_stays : g.outs ++ untaken c k g ≡ left.outs ++ untaken (took c chain) k left
  hand_stays = ap (λ (its : List Item). g.outs ++ its) untaken_is ∙ sym (append_assoc g.outs (it ∷ []) (untaken (took c chain) k left))

  -- ---- what waits
  rest_waits : All (IsWaitingIn new q at) rest
  rest_waits = All-both (IsWaitingIn slots q at) (λ (x : Item). x.tag ≢ it.tag) (IsWaitingIn new q at)
      (λ x waiting other. waiting_stays slots new it.tag size others q at x other waiting) rest
      (All-tail (IsWaitingIn slots q at) it rest waits) (All-unmap (λ (y : ℕ). y ≢ it.tag) (λ (x : Item). x.tag) rest linked.apart.0)

  -- in this region only its own queue waits
  here_waits : (p : ℕ) → k.sq_life p ≡ Some at → All (IsWaitingIn new p at) rest
  here_waits p own = subst (λ (z : ℕ). All (IsWaitingIn new z at) rest) (one_id k.sq_life k.sq_id n.sqs.ids q p at life own) rest_waits

  others_wait : (r : ℕ) → r ≢ at → (p : ℕ) → k.sq_life p ≡ Some r → All (IsWaitingIn new p r) (g.windows r)
  others_wait r other p own = All-weaker (IsWaitingIn slots p r) (IsWaitingIn new p r)
      (λ x waiting. waiting_stays slots new it.tag size others p r x
      (λ e. other (one_life k.sq_life p r at own (ap k.sq_life (sym waiting.queue ∙ ap (λ (y : ℕ). (slot_at slots y).sqid) e ∙ first.queue) ∙ life))) waiting)
      (g.windows r) (h.windows.items p r own)

  window_left : (k.sq at).window ≡ map candidate_of (drop (picked_of (took c chain) (k.sq_id at)) rest)
  window_left =
      h.windows.are at ∙ ap (λ (o : Option ℕ). map candidate_of (drop (picked_of c o) (g.windows at))) id
      ∙ ap (λ (m : ℕ). map candidate_of (drop m (g.windows at))) in_queue
      ∙ ap (λ (ws : List Item). map candidate_of (drop c.picked ws)) is ∙ ap (λ (ws : List Item). map candidate_of ws) (drop_step c.picked it rest some)
      ∙ ap (λ (m : ℕ). map candidate_of (drop m rest)) (sym now_in_queue)
      ∙ ap (λ (o : Option ℕ). map candidate_of (drop (picked_of (took c chain) o) rest)) (sym id)

  fewer : c.picked - 1 ≤ length (left.windows at)
  fewer = omega (arith, h.windows.picked_there, ap (λ (ws : List Item). length ws) is, ap (λ (ws : List Item). length ws) rest_is)

  -- ---- what the device has
  outs_other : All (λ (x : Item). x.tag ≢ it.tag) g.outs
  outs_other = All-weaker (IsOutIn k.sq_id slots) (λ (x : Item). x.tag ≢ it.tag) (λ x out. another x.tag 2 out.state (λ e. omega (arith, e))) g.outs h.outs.items

  out_now : IsOutIn k.sq_id new it
  out_now = record {
    inside = subst (λ (n : ℕ). it.tag < n) (sym size) within;
    state = ap (λ (s : Slot). s.state) is_out_now;
    queue = ap k.sq_id first.place ∙ id ∙ ap Some (sym (ap (λ (s : Slot). s.sqid) is_out_now ∙ first.queue));
    entry = ap (λ (s : Slot). s.entry) is_out_now ∙ first.entry;
  }

  all_out : All (IsOutIn k.sq_id new) left.outs
  all_out = All-push (IsOutIn k.sq_id new) g.outs it
      (All-both (IsOutIn k.sq_id slots) (λ (x : Item). x.tag ≢ it.tag) (IsOutIn k.sq_id new) (λ x out other. out_stays slots new it.tag size others k.sq_id x other out) g.outs h.outs.items outs_other)
      out_now

  outs_apart : AreApart (tags_of left.outs)
  outs_apart = subst AreApart (sym (map-append (λ (x : Item). x.tag) g.outs (it ∷ [])))
      (AreApart-push (tags_of g.outs) it.tag h.outs.apart (All-map (λ (y : ℕ). y ≢ it.tag) (λ (x : Item). x.tag) g.outs outs_other))

  outs_all : (x : ℕ) → (slot_at new x).state ≡ 2 → IsAmongOuts left.outs x
  outs_all x state = elim (cases_eq x it.tag) [
    | inl same ↦ record { before = g.outs; item = it; after = []; are = refl; tag = sym same }
    | inr other ↦
        let at = h.outs.all x (sym (ap (λ (s : Slot). s.state) (others x other)) ∙ state) in
        record {
          before = at.before;
          item = at.item;
          after = at.after ++ it ∷ [];
          are = ap (λ (its : List Item). its ++ it ∷ []) at.are ∙ append_assoc at.before (at.item ∷ at.after) (it ∷ []);
          tag = at.tag;
        }
  ]

  -- ---- all of it
  pub take-items : HasItems (took c chain) new k left
  take-items = record {
    windows = record {
      chain = put_sq-lives (λ p x state content ws. IsChain new state.window (tags_of ws)) k.sq_life k.sq_id n.sqs.ids c.sqs k.sq g.windows q at (took_sq c chain) (k.sq at) rest life there
          (chain-put_item slots chain (tags_of rest) it.tag (took_slot (slot_at slots it.tag)) popped)
          (λ p x another_queue other own. chain-put_item slots (sq_at c.sqs p).window (tags_of (g.windows x)) it.tag (took_slot (slot_at slots it.tag)) (h.windows.chain p x own));
      items = λ p x own. at_put (λ x ws. (z : ℕ) → k.sq_life z ≡ Some x → All (IsWaitingIn new z x) ws) g.windows at rest here_waits others_wait x p own;
      none = at_put (λ x ws. k.sq_id x ≡ None → ws ≡ []) g.windows at rest (λ none. absurd (cc (none, id))) (λ x other. h.windows.none x);
      are = at_put (λ x ws. (k.sq x).window ≡ map candidate_of (drop (picked_of (took c chain) (k.sq_id x)) ws)) g.windows at rest window_left
          (λ x other. h.windows.are x ∙ ap (λ (m : ℕ). map candidate_of (drop m (g.windows x))) (not_elsewhere x other));
      picked_there = fewer;
    };
    outs = record {
      items = all_out;
      apart = outs_apart;
      all = outs_all;
      hand_is = h.outs.hand_is ∙ ap places_of hand_stays;
    };
    readies = record {
      chain = λ p x own. chain-put_item slots (cq_at c.cqs p).ready (ready_tags (g.readies x)) it.tag (took_slot (slot_at slots it.tag)) (h.readies.chain p x own);
      items = λ x. all_ready_stay slots new it.tag size others k.sq_id (g.readies x) (omega (arith, first.state)) (h.readies.items x);
      none = h.readies.none;
      are = h.readies.are;
    };
    deletions = deletions_kept c.sqs c.pending_deletions new k.sq_life k.deletion g.deletes q (took_sq c chain) there refl refl
        (deletions_stay c.sqs c.pending_deletions slots new k.sq_life k.deletion g.deletes it.tag size others
        (λ r x at. another x.tag 6 (h.deletions.items r x at).state (λ e. omega (arith, e))) h.deletions);
    free = record {
      chain = chain-put_item slots c.free g.free it.tag (took_slot (slot_at slots it.tag)) h.free.chain;
      items = all_free_stay slots new it.tag size others g.free (λ e. omega (arith, first.state, e)) h.free.items;
    };
    few = subst (λ (n : ℕ). n < 2 ^ 16) (sym size) h.few;
  }

  -- ---- the numbers are left
  pub take-numbers : HasNumbers (took c chain) k
  take-numbers = record {
    tells = n.tells;
    board_is = n.board_is;
    is_arbiter = n.is_arbiter;
    outstanding_is = n.outstanding_is;
    sqs = (let a = n.sqs.each q at life in put_sqs c k n q at life (took_sq c chain) c.rung k.sq k.held (shown_in k.board)
        (sq_changed k.table k.cq_life q at (sq_at c.sqs q) (took_sq c chain) (k.sq at) (k.sq at) (k.held at) (k.held at) (shown_in k.board q) (shown_in k.board q) a refl refl a.unposted refl refl a.held a.shown)
        (λ x other. refl) (λ x other. refl) (λ p other. refl) (rung-kept c.rung q c.sqs (took_sq c chain) there n.sqs.rung (λ same. same)));
    cqs = n.cqs;
  }

  -- so are the rings
  pub take-doorbells : (rules : FrontRules) (notes : Notes) → HoldsDoorbells rules notes c k → HoldsDoorbells rules (Taken it.tag it.place.region it.place.index ∷ notes) (took c chain) k
  take-doorbells rules notes d = record {
    sqs = rings_kept c.sqs k.sq_life (λ (x : ℕ). (k.sq x).queue) (fetched (logged notes)) (submitted rules notes) q (took_sq c chain) there refl d.sqs;
    cqs = d.cqs;
  }

  -- the tag stands for its place
  pub take-tags : (notes : Notes) → HoldsTags notes c slots k g → HoldsTags (Taken it.tag it.place.region it.place.index ∷ notes) (took c chain) new k left
  take-tags notes t = record {
    untaken_are = t.untaken_are ∙ ap (λ (its : List Item). taken notes ++ places_of its) untaken_is
        ∙ sym (append_assoc (taken notes) (it.place ∷ []) (places_of (untaken (took c chain) k left)));
    held = record {
      outs = All-push (λ (x : Item). holder (Taken it.tag it.place.region it.place.index ∷ notes) x.tag ≡ Some x.place) g.outs it
          (All-both (λ (x : Item). holder notes x.tag ≡ Some x.place) (λ (x : Item). x.tag ≢ it.tag) (λ (x : Item). holder (Taken it.tag it.place.region it.place.index ∷ notes) x.tag ≡ Some x.place)
          (λ x held other. still x.tag other ∙ held) g.outs t.held.outs outs_other)
          (rw (eq-eqb it.tag it.tag refl) refl);
      readies = λ x. All-both (IsReadyIn k.sq_id slots) (λ (y : ReadyItem). y.was_out ≡ true → holder notes y.tag ≡ Some y.ready.place)
          (λ (y : ReadyItem). y.was_out ≡ true → holder (Taken it.tag it.place.region it.place.index ∷ notes) y.tag ≡ Some y.ready.place)
          (λ y is_ready held was_out. still y.tag (another y.tag (ready_state y.was_out y.ready.with_queue) is_ready.state
          (λ e. omega (arith, (ready_state-range y.was_out y.ready.with_queue).0, e))) ∙ held was_out) (g.readies x) (h.readies.items x) (t.held.readies x);
      none = λ y not_out not_answered. elim (cases_eq y it.tag) [
        | inl same ↦ absurd (not_out (ap (λ (z : ℕ). (slot_at new z).state) same ∙ ap (λ (s : Slot). s.state) is_out_now))
        | inr other ↦
            let state : (slot_at new y).state ≡ (slot_at slots y).state = ap (λ (s : Slot). s.state) (others y other) in
            still y other ∙ t.held.none y (λ e. not_out (state ∙ e)) (λ e. not_answered (state ∙ e))
      ];
      answered = λ y state. elim (cases_eq y it.tag) [
        | inl same ↦ absurd (omega (arith, state, ap (λ (z : ℕ). (slot_at new z).state) same, ap (λ (s : Slot). s.state) is_out_now))
        | inr other ↦ ap (is_unanswered notes) (still y other) ∙ t.held.answered y (sym (ap (λ (s : Slot). s.state) (others y other)) ∙ state)
      ];
    };
    through = t.through;
    unanswered = record {
      windows = at_put (λ x ws. All (λ (y : Item). IsUnanswered notes y.place) ws) g.windows at rest
          (All-tail (λ (y : Item). IsUnanswered notes y.place) it rest unanswered) (λ x other. t.unanswered.windows x);
      outs = All-push (λ (y : Item). IsUnanswered notes y.place) g.outs it t.unanswered.outs (All-head (λ (y : Item). IsUnanswered notes y.place) it rest unanswered);
      deletes = t.unanswered.deletes;
      none = t.unanswered.none;
    };
    hand_entries = subst (All (HasEntry (logged notes))) hand_stays t.hand_entries;
    free_count = t.free_count ∙ ap (λ (m : ℕ). m + all_posts (logged notes)) (sym size);
    cookies = record {
      windows = at_put (λ x ws. All (HasCookie notes new) ws) g.windows at rest (items_left notes slots new same rest (All-tail (HasCookie notes slots) it rest cookies))
          (λ x other. items_left notes slots new same (g.windows x) (t.cookies.windows x));
      outs = items_left notes slots new same (g.outs ++ it ∷ []) (All-push (HasCookie notes slots) g.outs it t.cookies.outs (All-head (HasCookie notes slots) it rest cookies));
      readies = λ x. readies_left notes slots new same (g.readies x) (t.cookies.readies x);
      deletes = λ r x at. cookie_left notes slots new same x.tag (place_at 0 x.index) (t.cookies.deletes r x at);
      none = t.cookies.none;
    };
    passed = passed_later notes (Taken it.tag it.place.region it.place.index ∷ notes) left (λ i. refl) refl (λ i waits. waits) (passed_left notes g left (λ x. refl) refl t.passed);
    flagged = t.flagged;
  }
    where
      same : SameCookies slots new
      same = same_cookies-but slots new it.tag others (ap (λ (s : Slot). s.cookie) is_out_now)

      cookies : All (HasCookie notes slots) (it ∷ rest)
      cookies = subst (All (HasCookie notes slots)) is (t.cookies.windows at)

      still : (y : ℕ) → y ≢ it.tag → holder (Taken it.tag it.place.region it.place.index ∷ notes) y ≡ holder notes y
      still y other = rw (ne_eqb it.tag y (λ e. other (sym e))) refl

      unanswered : All (λ (y : Item). IsUnanswered notes y.place) (it ∷ rest)
      unanswered = subst (All (λ (y : Item). IsUnanswered notes y.place)) is (t.unanswered.windows at)

  -- the tag stood for no command
  take-free : (notes : Notes) → HoldsTags notes c slots k g → holder notes it.tag ≡ None
  take-free notes t = t.held.none it.tag (λ e. omega (arith, first.state, e)) (λ e. omega (arith, first.state, e))

  -- the note is lawful
  take-account : (rules : FrontRules) (notes : Notes) → HoldsTags notes c slots k g → IsAccount rules notes → IsAccount rules (Taken it.tag it.place.region it.place.index ∷ notes)
  take-account rules notes t a = record {
    each = (
      record {
        next = ap (λ (ps : List Place). slice_get ps (length (taken notes))) (t.untaken_are ∙ ap (λ (its : List Item). taken notes ++ places_of its) untaken_is)
            ∙ slice_get-next (taken notes) it.place (places_of (untaken (took c chain) k left));
        free = take-free notes t;
      },
      a.each,
    );
    lawful = a.lawful;
    effects_whole = a.effects_whole;
  }

-- ---- the call
-- what is picked and not taken is of a queue whose state is kept: else its first command, one of the admin queue, would wait and be in hand
module _ (rules : FrontRules) (late : Bool) (notes : Notes) (c : Controller) (slots : List Slot) (s : StandsAt rules late notes c slots) (some : c.picked ≢ 0) where
  abbrev lives : ℕ → Option ℕ
  lives = s.content.sq_life

  admin_id : s.content.sq_id 0 ≡ Some 0
  admin_id = s.numbers.sqs.ids.ids_are 0 0 s.numbers.sqs.ids.admin

  none_of_admin : lives c.picked_qid ≡ None → picked_in c 0 ≡ 0
  none_of_admin none = rw (ne_eqb 0 c.picked_qid (λ e. let admin = ap lives (sym e) ∙ s.numbers.sqs.ids.admin in cc (none, admin))) refl

  of_none : lives c.picked_qid ≡ None → (ws : List Item) → s.items.windows 0 ≡ ws → ⊥
  of_none none [] is =
      let there = s.has.windows.picked_there in
      let at : picked_region c s.content ≡ 0 = ap (λ (o : Option ℕ). unwrap_or o 0) none in
      some (omega (arith, there, ap (λ (r : ℕ). length (s.items.windows r)) at, ap (λ (ws : List Item). length ws) is))
  of_none none (it ∷ rest) is =
      let at : picked_region c s.content ≡ 0 = ap (λ (o : Option ℕ). unwrap_or o 0) none in
      let untaken_are : untaken c s.content s.items ≡ it ∷ take (c.picked - 1) rest =
      ap (λ (r : ℕ). take c.picked (s.items.windows r)) at ∙ ap (take c.picked) is ∙ take_step c.picked it rest some in
      let hand : All (λ (p : Place). is_waiting (fate_of (logged notes) p.region p.index) ≡ false) (places_of (s.items.outs ++ it ∷ take (c.picked - 1) rest)) =
      subst (All (λ (p : Place). is_waiting (fate_of (logged notes) p.region p.index) ≡ false))
      (s.has.outs.hand_is ∙ ap (λ (its : List Item). places_of (s.items.outs ++ its)) untaken_are) (hand_done (logged notes) s.content s.holds.ready) in
      let served : is_waiting (fate_of (logged notes) it.place.region it.place.index) ≡ false =
      (All-taken (λ (y : Item). is_waiting (fate_of (logged notes) y.place.region y.place.index) ≡ false) s.items.outs it (take (c.picked - 1) rest)
      (All-unmap (λ (p : Place). is_waiting (fate_of (logged notes) p.region p.index) ≡ false) (λ (y : Item). y.place) (s.items.outs ++ it ∷ take (c.picked - 1) rest) hand)).0 in
      let window : (s.content.sq 0).window ≡ candidate_of it ∷ map candidate_of rest =
      s.has.windows.are 0 ∙ ap (λ (o : Option ℕ). map candidate_of (drop (picked_of c o) (s.items.windows 0))) admin_id
      ∙ ap (λ (m : ℕ). map candidate_of (drop m (s.items.windows 0))) (none_of_admin none) ∙ ap (λ (ws : List Item). map candidate_of ws) is in
      let waits : is_waiting (fate_of (logged notes) 0 it.place.index) ≡ true =
      All-head (λ (x : Candidate). is_waiting (fate_of (logged notes) 0 x.index) ≡ true) (candidate_of it) (map candidate_of rest)
      (subst (All (λ (x : Candidate). is_waiting (fate_of (logged notes) 0 x.index) ≡ true)) window (candidates_wait (logged notes) 0 (s.content.sq 0) (s.holds.regions 0))) in
      let own : it.place.region ≡ 0 =
      (All-head (IsWaitingIn slots 0 0) it rest (subst (All (IsWaitingIn slots 0 0)) is (s.has.windows.items 0 0 s.numbers.sqs.ids.admin))).place in
      true≢false (sym waits ∙ ap (λ (r : ℕ). is_waiting (fate_of (logged notes) r it.place.index)) (sym own) ∙ served)

  pub picked_life : s.content.sq_life c.picked_qid ≡ Some (picked_region c s.content)
  picked_life = by (lives c.picked_qid) refl where
    by : (o : Option ℕ) → lives c.picked_qid ≡ o → lives c.picked_qid ≡ Some (picked_region c s.content)
    by None is = absurd (of_none is (s.items.windows 0) refl)
    by (Some r) is = is ∙ ap Some (sym (ap (λ (o : Option ℕ). unwrap_or o 0) is))

  -- the chain of its window
  picked_chain : IsChain slots (sq_at c.sqs c.picked_qid).window (tags_of (s.items.windows (picked_region c s.content)))
  picked_chain = s.has.windows.chain c.picked_qid (picked_region c s.content) picked_life

  -- where an item is first in the window of the picked queue
  take-first : (it : Item) (rest : List Item) → s.items.windows (picked_region c s.content) ≡ it ∷ rest → (chain : Chain) → IsChain slots chain (tags_of rest)
      → StandsAt rules late (Taken it.tag it.place.region it.place.index ∷ notes) (took c chain) (took_pool slots it.tag)
  take-first it rest is chain popped = record {
    content = s.content;
    items = took_items c s.content s.items it rest;
    holds = s.holds;
    numbers = take-numbers c slots s.content s.items s.numbers s.has it rest is some picked_life chain popped;
    has = take-items c slots s.content s.items s.numbers s.has it rest is some picked_life chain popped;
    doorbells = take-doorbells c slots s.content s.items s.numbers s.has it rest is some picked_life chain popped rules notes s.doorbells;
    tags = take-tags c slots s.content s.items s.numbers s.has it rest is some picked_life chain popped notes s.tags;
    shown = record { held = s.shown.held; classed = s.shown.classed };
    ordered = s.ordered;
    regions = record { sqs = s.regions.sqs; cqs = s.regions.cqs };
    account = λ on_time. take-account c slots s.content s.items s.numbers s.has it rest is some picked_life chain popped rules notes s.tags (s.account on_time);
  }

  none_there : s.items.windows (picked_region c s.content) ≡ [] → ⊥
  none_there is = some (let there = s.has.windows.picked_there in omega (arith, there, ap (λ (ws : List Item). length ws) is))

  -- the controller stands at its log with the note, where a chain and a tag are what was popped
  pub take-stands : (chain : Chain) (tag : ℕ) → ((x : ℕ) (rest : List ℕ) → IsChain slots (sq_at c.sqs c.picked_qid).window (x ∷ rest) → Some tag ≡ Some x)
      → ((x : ℕ) (rest : List ℕ) → IsChain slots (sq_at c.sqs c.picked_qid).window (x ∷ rest) → IsChain slots chain rest)
      → HasTaken rules late notes tag (took c chain) (took_pool slots tag)
  take-stands chain tag first others = by (s.items.windows (picked_region c s.content)) refl where
    by : (ws : List Item) → s.items.windows (picked_region c s.content) ≡ ws → HasTaken rules late notes tag (took c chain) (took_pool slots tag)
    by [] is = absurd (none_there is)
    by (it ∷ rest) is =
        let linked : IsChain slots (sq_at c.sqs c.picked_qid).window (tags_of (it ∷ rest)) =
        subst (λ (ws : List Item). IsChain slots (sq_at c.sqs c.picked_qid).window (tags_of ws)) is picked_chain in
        let same : tag ≡ it.tag = same_Some tag it.tag (first it.tag (tags_of rest) linked) in
        subst (λ (t : ℕ). HasTaken rules late notes t (took c chain) (took_pool slots t)) (sym same) (record {
          region = it.place.region;
          index = it.place.index;
          free = take-free c slots s.content s.items s.numbers s.has it rest is some picked_life chain (others it.tag (tags_of rest) linked) notes s.tags;
          unanswered = All-head (λ (y : Item). IsUnanswered notes y.place) it rest
              (subst (All (λ (y : Item). IsUnanswered notes y.place)) is (s.tags.unanswered.windows (picked_region c s.content)));
          stands = take-first it rest is chain (others it.tag (tags_of rest) linked);
        })

  -- the pool has its slot
  pub take-inside : (tag : ℕ) → ((x : ℕ) (rest : List ℕ) → IsChain slots (sq_at c.sqs c.picked_qid).window (x ∷ rest) → Some tag ≡ Some x) → tag < length slots
  take-inside tag first = by (s.items.windows (picked_region c s.content)) refl where
    by : (ws : List Item) → s.items.windows (picked_region c s.content) ≡ ws → tag < length slots
    by [] is = absurd (none_there is)
    by (it ∷ rest) is =
        let linked : IsChain slots (sq_at c.sqs c.picked_qid).window (tags_of (it ∷ rest)) =
        subst (λ (ws : List Item). IsChain slots (sq_at c.sqs c.picked_qid).window (tags_of ws)) is picked_chain in
        subst (λ (t : ℕ). t < length slots) (sym (same_Some tag it.tag (first it.tag (tags_of rest) linked)))
        (All-head (λ (x : ℕ). x < length slots) it.tag (tags_of rest) linked.inside)

  -- so the pool has the first slot of the window
  pub take-first_inside : (sq_at c.sqs c.picked_qid).window.first < length slots
  take-first_inside =
      let window : Chain = (sq_at c.sqs c.picked_qid).window in
      take-inside window.first (λ x rest linked. ap (λ (n : ℕ). Some n) (linked-head slots window.first window.last x rest linked.linked))

  -- the chain has a first slot
  pub take-first_there : (popped : Option ℕ) → ((x : ℕ) (rest : List ℕ) → IsChain slots (sq_at c.sqs c.picked_qid).window (x ∷ rest) → popped ≡ Some x) → popped ≢ None
  take-first_there popped first none = by (s.items.windows (picked_region c s.content)) refl where
    by : (ws : List Item) → s.items.windows (picked_region c s.content) ≡ ws → ⊥
    by [] is = none_there is
    by (it ∷ rest) is =
        let here = first it.tag (tags_of rest) (subst (λ (ws : List Item). IsChain slots (sq_at c.sqs c.picked_qid).window (tags_of ws)) is picked_chain) in
        let there : None ≡ Some it.tag = sym none ∙ here in
        absurd (cc)
