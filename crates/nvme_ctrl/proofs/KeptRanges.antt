-- The numbers of a controller are within their ranges.
use Rattle.std.proofs.Common.{◌≡◌, ◌≢◌, ℕ, zero, suc, ◌+◌, ◌<◌, ◌≤◌, ◌==◌, ◌&&◌, ◌||◌, Bool, true, false, List, [], ◌∷◌, length, map, get_or, Option, Some, None, refl, sym, ap, ◌∙◌, subst, arith, inl, inr}
use Rattle.std.specs.Prelude.{nat_lt, nat_le, unwrap_or, take, drop}
use Rattle.std.specs.List.{All, list_all}
use Rattle.std.proofs.Math.Nat.{mod-lt}
use Rattle.std.proofs.lemmas.Bool.{cases_lt, cases_eq, eq-eqb, ne_eqb, lt-ltb, le-leb, and_from, or_left, or_right}
use Rattle.std.proofs.lemmas.List.{length-map}
use Rattle.std.proofs.lemmas.List.Elements.{All-head, All-tail, All-weaker, All-map, All-same}
use Rattle.std.proofs.lemmas.List.Recursion.{and_from_places}
use Rattle.nvme_admin.specs.declared.bounds.TheConstants.{MAX_REGIONS}
use Rattle.nvme_log.specs.Rules.{FrontRules}
use Rattle.nvme_log.specs.Places.{fate_of, is_waiting}
use Rattle.nvme_ctrl_log.specs.Notes.{Notes, logged}
use Rattle.nvme_slots.specs.Rings.{HasCounts}
use Rattle.nvme_ctrl.proofs.PoolBounds.{few_outstanding}
use Rattle.nvme_ctrl.specs.Ranges.{is_used_as, is_item, is_placed, is_link, are_linked, is_chain, is_ring, is_attached, is_sq, is_cq, is_deletion, has_counts, has_numbers, has_queues, is_in_range}
use Rattle.nvme_ctrl.specs.Standing.{IsController}
use Rattle.nvme_slots.specs.declared.ring.Ring.{Ring}
use Rattle.nvme_slots.specs.declared.chain.Chain.{Chain}
use Rattle.nvme_slots.specs.declared.slot.Slot.{Slot}
use Rattle.nvme_ctrl.specs.declared.state.SqState.{SqState}
use Rattle.nvme_ctrl.specs.declared.state.Controller.{Controller}
use Rattle.nvme_ctrl_content.specs.Content.{Candidate}
use Rattle.nvme_ctrl_log.specs.Tags.{is_passed}
use Rattle.nvme_ctrl.proofs.Passed.{hand_is_devices}
use Rattle.nvme_ctrl.proofs.PendingDeletions.{flagged_item}
use Rattle.nvme_ctrl_content.proofs.Windows.{window-waits}
use Rattle.nvme_slots.specs.Pool.{no_slot, slot_at, next_at, AreLinked, IsChain}
use Rattle.nvme_ctrl.specs.kept.State.{no_chain, no_sq_state, no_cq_state, sq_at, cq_at}
use Rattle.nvme_ctrl.specs.kept.Kept.{Item, ReadyItem, IsWaitingIn, IsOutIn, IsReadyIn, IsDevices, is_free, tags_of, ready_tags, candidate_of, picked_region, picked_of, untaken, StandsAt}
use Rattle.nvme_slots.proofs.Pools.{length-chain}
use Rattle.nvme_ctrl.proofs.SlotItems.{All-both, All-parts, ready_state-range}
use Rattle.nvme_ctrl_content.proofs.ReadyHand.{All-taken}

-- ---- lists

-- a test passes on all of a list where it does at each number
all_at : {X : Type 0} (p : X → Bool) (xs : List X) (d : X) → ((i : ℕ) → i < length xs → p (get_or xs i d) ≡ true) → list_all p xs ≡ true
all_at p xs d h = and_from_places (list_all p) p refl (λ x rest. refl) xs d h

-- ---- slots and chains
-- a slot that is used so
used : (lowest highest : ℕ) (s : Slot) → lowest ≤ s.state → s.state ≤ highest → (s.state ≢ 0 → s.sqid < MAX_REGIONS) → (3 ≤ s.state → s.sct < 8)
    → is_used_as lowest highest s ≡ true
used lowest highest s low high placed few =
    and_from (nat_le lowest s.state) _ (le-leb lowest s.state low) (and_from (nat_le s.state highest) _ (le-leb s.state highest high)
    (and_from (s.state == 0 || nat_lt s.sqid MAX_REGIONS) (nat_lt s.state 3 || nat_lt s.sct 8)
    (elim (cases_eq s.state 0) [
      | inl free ↦ or_left (s.state == 0) (nat_lt s.sqid MAX_REGIONS) (eq-eqb s.state 0 free)
      | inr some ↦ or_right (s.state == 0) (nat_lt s.sqid MAX_REGIONS) (lt-ltb s.sqid MAX_REGIONS (placed some))
    ])
    (elim (cases_lt s.state 3) [
      | inl below ↦ or_left (nat_lt s.state 3) (nat_lt s.sct 8) (lt-ltb s.state 3 below)
      | inr from ↦ or_right (nat_lt s.state 3) (nat_lt s.sct 8) (lt-ltb s.sct 8 (few from))
    ])))

-- one link more, or none
module _ (lowest highest : ℕ) (slots : List Slot) (last x n m : ℕ) (counts : n ≡ m + 1) where
  by_link : (b : Bool) → is_link lowest highest slots last x m ≡ b
      → are_linked lowest highest slots last x n ≡ (b && are_linked lowest highest slots last (next_at slots x) m)
  by_link b e =
      let same : n ≡ suc m = omega (arith, counts) in
      ap (λ (k : ℕ). are_linked lowest highest slots last x k) same ∙ ap (λ (t : Bool). t && are_linked lowest highest slots last (next_at slots x) m) e

  pub goes_on : is_link lowest highest slots last x m ≡ true → are_linked lowest highest slots last x n ≡ are_linked lowest highest slots last (next_at slots x) m
  goes_on e = by_link true e

  pub stops : is_link lowest highest slots last x m ≡ false → are_linked lowest highest slots last x n ≡ false
  stops e = by_link false e

-- none is left
pub ended : (lowest highest : ℕ) (slots : List Slot) (last x n : ℕ) → n ≡ 0 → are_linked lowest highest slots last x n ≡ true
ended lowest highest slots last x n none = ap (λ (k : ℕ). are_linked lowest highest slots last x k) none

-- a chain is as its links are, if it isn't too long
pub chain_by : (lowest highest : ℕ) (slots : List Slot) (c : Chain) (b : Bool) → c.len ≤ length slots → are_linked lowest highest slots c.last c.first c.len ≡ b
    → is_chain lowest highest slots c ≡ b
chain_by lowest highest slots c b few e =
    ap (λ (t : Bool). t && are_linked lowest highest slots c.last c.first c.len) (le-leb c.len (length slots) few) ∙ e

module _ (lowest highest : ℕ) (slots : List Slot) where
  -- the slots of a chain are linked
  linked : (first last : ℕ) (xs : List ℕ) → All (λ (x : ℕ). is_item lowest highest slots x ≡ true) xs → AreLinked slots first last xs
      → are_linked lowest highest slots last first (length xs) ≡ true
  linked first last [] each h = refl
  linked first last (x ∷ []) each h =
      let here : is_item lowest highest slots first ≡ true =
      subst (λ (y : ℕ). is_item lowest highest slots y ≡ true) (sym h.0) (All-head (λ (y : ℕ). is_item lowest highest slots y ≡ true) x [] each) in
      and_from _ _ (and_from _ _ here (or_right (nat_lt 0 0) (first == last) (eq-eqb first last (h.0 ∙ sym h.1)))) refl
  linked first last (x ∷ y ∷ rest) each h =
      let here : is_item lowest highest slots first ≡ true =
      subst (λ (z : ℕ). is_item lowest highest slots z ≡ true) (sym h.0) (All-head (λ (z : ℕ). is_item lowest highest slots z ≡ true) x (y ∷ rest) each) in
      let more : nat_lt 0 (length (y ∷ rest)) ≡ true = lt-ltb 0 (length (y ∷ rest)) (omega arith) in
      and_from _ _ (and_from _ _ here (or_left (nat_lt 0 (length (y ∷ rest))) (first == last) more))
      (subst (λ (z : ℕ). are_linked lowest highest slots last (next_at slots z) (length (y ∷ rest)) ≡ true) (sym h.0)
      (linked (next_at slots x) last (y ∷ rest) (All-tail (λ (z : ℕ). is_item lowest highest slots z ≡ true) x (y ∷ rest) each) h.1))

  -- so a chain is as long as it says
  chain : (c : Chain) (xs : List ℕ) → IsChain slots c xs → All (λ (x : ℕ). is_used_as lowest highest (slot_at slots x) ≡ true) xs → is_chain lowest highest slots c ≡ true
  chain c xs h each =
      and_from _ _ (le-leb c.len (length slots) (omega (arith, h.len_is, length-chain slots c xs h)))
      (subst (λ (n : ℕ). are_linked lowest highest slots c.last c.first n ≡ true) (sym h.len_is)
      (linked c.first c.last xs
      (All-both (λ (x : ℕ). x < length slots) (λ (x : ℕ). is_used_as lowest highest (slot_at slots x) ≡ true) (λ (x : ℕ). is_item lowest highest slots x ≡ true)
      (λ x inside fits. and_from (nat_lt x (length slots)) (is_used_as lowest highest (slot_at slots x)) (lt-ltb x (length slots) inside) fits) xs h.inside each)
      h.linked))

-- ---- queues
ring_of : (r : Ring) (read written : ℕ) → HasCounts r read written → is_ring r ≡ true
ring_of r read written h =
    rw (ne_eqb r.slots 0 (λ none. absurd (omega (arith, none, h.some)))) (and_from (nat_lt r.head r.slots) (nat_lt r.tail r.slots)
    (lt-ltb r.head r.slots (subst (λ (n : ℕ). n < r.slots) (sym h.head_is) (mod-lt read h.some)))
    (lt-ltb r.tail r.slots (subst (λ (n : ℕ). n < r.slots) (sym h.tail_is) (mod-lt written h.some))))

attached_of : (s : SqState) → s.cqid < MAX_REGIONS → is_attached s ≡ true
attached_of s below = elim (cases_eq s.ring.slots 0) [
  | inl none ↦ rw (eq-eqb s.ring.slots 0 none) refl
  | inr some ↦ rw (ne_eqb s.ring.slots 0 some) (lt-ltb s.cqid MAX_REGIONS below)
]

-- an identifier of no queue is in range
no_chain_in_range : (lowest highest : ℕ) (slots : List Slot) → is_chain lowest highest slots no_chain ≡ true
no_chain_in_range lowest highest slots = chain_by lowest highest slots no_chain true (omega arith) refl

no_sq_in_range : (slots : List Slot) → is_sq slots no_sq_state ≡ true
no_sq_in_range slots = and_from _ _ refl (and_from _ _ refl (no_chain_in_range 1 1 slots))

no_cq_in_range : (slots : List Slot) → is_cq slots no_cq_state ≡ true
no_cq_in_range slots = and_from _ _ refl (no_chain_in_range 3 5 slots)

-- ---- a controller
module _ (rules : FrontRules) (late : Bool) (notes : Notes) (c : Controller) (slots : List Slot) (s : StandsAt rules late notes c slots) where
  -- a region has the queue of an identifier that there can be
  there : (r q : ℕ) → s.content.sq_id r ≡ Some q → q < MAX_REGIONS
  there r q is = omega (arith, s.numbers.sqs.few q r (s.numbers.sqs.ids.lives_are r q is))

  -- submission queues
  attached : (q r : ℕ) → s.content.sq_life q ≡ Some r → (sq_at c.sqs q).cqid < MAX_REGIONS
  attached q r life = let w = s.numbers.sqs.each q r life in omega (arith, s.numbers.cqs.few (sq_at c.sqs q).cqid w.cq_region w.cq_open)

  waiting_used : (q r : ℕ) → s.content.sq_life q ≡ Some r → All (λ (x : ℕ). is_used_as 1 1 (slot_at slots x) ≡ true) (tags_of (s.items.windows r))
  waiting_used q r life =
      All-map (λ (x : ℕ). is_used_as 1 1 (slot_at slots x) ≡ true) (λ (it : Item). it.tag) (s.items.windows r)
      (All-weaker (IsWaitingIn slots q r) (λ (it : Item). is_used_as 1 1 (slot_at slots it.tag) ≡ true)
      (λ it h. used 1 1 (slot_at slots it.tag) (omega (arith, h.state)) (omega (arith, h.state)) (λ some. omega (arith, h.queue, s.numbers.sqs.few q r life)) (λ ended. absurd (omega (arith, h.state, ended))))
      (s.items.windows r) (s.has.windows.items q r life))

  deletion_in_range : (q : ℕ) → is_deletion slots (sq_at c.sqs q) ≡ true
  deletion_in_range q = elim (cases_eq (sq_at c.sqs q).closing 0) [
    | inl none ↦ rw (eq-eqb (sq_at c.sqs q).closing 0 none) refl
    | inr some ↦ (
        let f = flagged_item c.sqs c.pending_deletions slots s.content.sq_life s.content.deletion s.items.deletes s.has.deletions q some in
        let has = s.has.deletions.items f.region f.item f.is in
        rw (ne_eqb (sq_at c.sqs q).closing 0 some)
        (and_from _ _ (lt-ltb (sq_at c.sqs q).tag (length slots) (omega (arith, f.tag_is, has.inside)))
        (eq-eqb _ _ (ap (λ (t : ℕ). (slot_at slots t).state) (sym f.tag_is) ∙ has.state))))
  ]

  sq_in_range : (q : ℕ) → is_sq slots (sq_at c.sqs q) ≡ true
  sq_in_range q = by (s.content.sq_life q) refl where
    by : (o : Option ℕ) → s.content.sq_life q ≡ o → is_sq slots (sq_at c.sqs q) ≡ true
    by None none = ap (is_sq slots) (s.numbers.sqs.none q none) ∙ no_sq_in_range slots
    by (Some r) life =
        and_from _ _ (ring_of (sq_at c.sqs q).ring _ _ (s.doorbells.sqs.each q r life))
        (and_from _ _ (attached_of (sq_at c.sqs q) (attached q r life))
        (and_from _ _ (deletion_in_range q)
        (chain 1 1 slots (sq_at c.sqs q).window (tags_of (s.items.windows r)) (s.has.windows.chain q r life) (waiting_used q r life))))

  -- completion queues
  ended_used : (x : ℕ) → All (λ (t : ℕ). is_used_as 3 5 (slot_at slots t) ≡ true) (ready_tags (s.items.readies x))
  ended_used x =
      All-map (λ (t : ℕ). is_used_as 3 5 (slot_at slots t) ≡ true) (λ (y : ReadyItem). y.tag) (s.items.readies x)
      (All-weaker (IsReadyIn s.content.sq_id slots) (λ (y : ReadyItem). is_used_as 3 5 (slot_at slots y.tag) ≡ true)
      (λ y h.
      let range = ready_state-range y.was_out y.ready.with_queue in
      used 3 5 (slot_at slots y.tag) (omega (arith, h.state, range.0)) (omega (arith, h.state, range.1))
      (λ some. there y.ready.place.region (slot_at slots y.tag).sqid h.queue) (λ ended. h.few_types))
      (s.items.readies x) (s.has.readies.items x))

  cq_in_range : (q : ℕ) → is_cq slots (cq_at c.cqs q) ≡ true
  cq_in_range q = by (s.content.cq_life q) refl where
    by : (o : Option ℕ) → s.content.cq_life q ≡ o → is_cq slots (cq_at c.cqs q) ≡ true
    by None none = ap (is_cq slots) (s.numbers.cqs.none q none) ∙ no_cq_in_range slots
    by (Some x) life =
        and_from _ _ (ring_of (cq_at c.cqs q).ring _ _ (s.doorbells.cqs.each q x life))
        (chain 3 5 slots (cq_at c.cqs q).ready (ready_tags (s.items.readies x)) (s.has.readies.chain q x life) (ended_used x))

  -- the commands that the device has
  out_placed : (x : ℕ) → (slot_at slots x).state ≡ 2 → (slot_at slots x).sqid < MAX_REGIONS
  out_placed x state =
      let at = s.has.outs.all x state in
      let is = (All-taken (IsOutIn s.content.sq_id slots) at.before at.item at.after (All-same (IsOutIn s.content.sq_id slots) _ _ (sym at.are) s.has.outs.items)).0 in
      there at.item.place.region (slot_at slots x).sqid (is.queue ∙ ap (λ (t : ℕ). Some (slot_at slots t).sqid) at.tag)

  placed : (x : ℕ) → is_placed (slot_at slots x) ≡ true
  placed x = elim (cases_eq (slot_at slots x).state 2) [
    | inl out ↦ rw (eq-eqb (slot_at slots x).state 2 out) (lt-ltb (slot_at slots x).sqid MAX_REGIONS (out_placed x out))
    | inr other ↦ rw (ne_eqb (slot_at slots x).state 2 other) refl
  ]

  -- ---- the commands that are picked and not taken
  -- what waits in the admin queue isn't the device's
  none_picked : (it : Item) (rest : List Item) → s.items.windows 0 ≡ it ∷ rest → c.picked_qid ≢ 0 → IsDevices notes it.place → ⊥
  none_picked it rest are other device =
      let none : picked_of c (s.content.sq_id 0) ≡ 0 = ap (picked_of c) (s.numbers.sqs.ids.ids_are 0 0 s.numbers.sqs.ids.admin) ∙ rw (ne_eqb 0 c.picked_qid (λ e. other (sym e))) refl in
      let window : (s.content.sq 0).window ≡ candidate_of it ∷ map candidate_of rest =
      s.has.windows.are 0 ∙ ap (λ (n : ℕ). map candidate_of (drop n (s.items.windows 0))) none ∙ ap (map candidate_of) are in
      let waits : is_waiting (fate_of (logged notes) 0 it.place.index) ≡ true =
      All-head (λ (z : Candidate). is_waiting (fate_of (logged notes) 0 z.index) ≡ true) (candidate_of it) (map candidate_of rest)
      (All-same (λ (z : Candidate). is_waiting (fate_of (logged notes) 0 z.index) ≡ true) _ _ (sym window) (window-waits (logged notes) 0 (s.content.sq 0) (s.holds.regions 0))) in
      let place : it.place.region ≡ 0 =
      (All-head (IsWaitingIn slots 0 0) it rest (All-same (IsWaitingIn slots 0 0) _ _ (sym are) (s.has.windows.items 0 0 s.numbers.sqs.ids.admin))).place in
      let passed : is_passed notes it.place.index ≡ true = sym (rw place refl) ∙ device in
      let served = s.tags.passed.served it.place.index passed in
      cc (waits, served)

  -- they are of a queue that is open or closing
  pub picked_open : c.picked ≢ 0 → s.content.sq_life c.picked_qid ≡ Some (picked_region c s.content)
  picked_open some = by (s.content.sq_life c.picked_qid) refl where
    at_least : (n : ℕ) (xs : List Item) → n ≢ 0 → n ≤ length xs → s.items.windows 0 ≡ xs → c.picked_qid ≢ 0 → All (λ (it : Item). IsDevices notes it.place) (take n xs) → ⊥
    at_least zero xs more few are other all = more refl
    at_least (suc n) [] more few are other all = absurd (omega (arith, few))
    at_least (suc n) (it ∷ rest) more few are other all = none_picked it rest are other (All-head (λ (it : Item). IsDevices notes it.place) it (take n rest) all)

    by : (o : Option ℕ) → s.content.sq_life c.picked_qid ≡ o → s.content.sq_life c.picked_qid ≡ Some (picked_region c s.content)
    by (Some r) life = life ∙ ap (λ (o : Option ℕ). Some (unwrap_or o 0)) (sym life)
    by None none =
        let region : picked_region c s.content ≡ 0 = ap (λ (o : Option ℕ). unwrap_or o 0) none in
        let few : c.picked ≤ length (s.items.windows 0) = subst (λ (r : ℕ). c.picked ≤ length (s.items.windows r)) region s.has.windows.picked_there in
        let all : All (λ (it : Item). IsDevices notes it.place) (take c.picked (s.items.windows 0)) =
        subst (λ (r : ℕ). All (λ (it : Item). IsDevices notes it.place) (take c.picked (s.items.windows r))) region
        (All-parts (λ (it : Item). IsDevices notes it.place) s.items.outs (untaken c s.content s.items) (hand_is_devices notes c slots s.content s.items s.tags)).1 in
        absurd (at_least c.picked (s.items.windows 0) some few refl (λ e. let admin = s.numbers.sqs.ids.admin in let closed = ap s.content.sq_life (sym e) ∙ none in cc (admin, closed)) all)

  -- the counts
  few_picked : c.picked ≤ (sq_at c.sqs c.picked_qid).window.len
  few_picked = elim (cases_eq c.picked 0) [
    | inl none ↦ omega (arith, none)
    | inr some ↦ (
        let r : ℕ = picked_region c s.content in
        let window = s.has.windows.chain c.picked_qid r (picked_open some) in
        omega (arith, s.has.windows.picked_there, window.len_is, length-map (s.items.windows r) (λ (it : Item). it.tag)))
  ]

  counts_in_range : has_counts c slots ≡ true
  counts_in_range =
      and_from _ _ (le-leb c.outstanding (length slots) (few_outstanding rules late notes c slots s))
      (le-leb c.picked (sq_at c.sqs c.picked_qid).window.len few_picked)

  -- the free slots
  free_in_range : is_chain 0 0 slots c.free ≡ true
  free_in_range = chain 0 0 slots c.free s.items.free s.has.free.chain
      (All-weaker (is_free slots) (λ (x : ℕ). is_used_as 0 0 (slot_at slots x) ≡ true)
      (λ x free. used 0 0 (slot_at slots x) (omega arith) (omega (arith, free)) (λ some. absurd (some free)) (λ ended. absurd (omega (arith, free, ended)))) s.items.free s.has.free.items)

  -- all of it
  all_in_range : is_in_range c slots ≡ true
  all_in_range =
      and_from (has_numbers c slots) (has_queues c slots && list_all is_placed slots)
      (and_from _ _ s.numbers.is_arbiter (and_from _ _ counts_in_range free_in_range))
      (and_from (has_queues c slots) (list_all is_placed slots)
      (and_from _ _ (all_at (is_sq slots) c.sqs no_sq_state (λ q below. sq_in_range q)) (all_at (is_cq slots) c.cqs no_cq_state (λ x below. cq_in_range x)))
      (all_at is_placed slots no_slot (λ x below. placed x)))

pub kept_in_range : (c : Controller) (slots : List Slot) → IsController c slots → is_in_range c slots ≡ true
kept_in_range c slots is = all_in_range is.rules is.late is.notes c slots is.stands
