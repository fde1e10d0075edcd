-- The queues whose state is kept, where one of them has another state.
use Rattle.std.proofs.Common.{◌≡◌, ◌≢◌, ℕ, ◌<◌, ◌==◌, ◌||◌, Bool, true, false, if◌then◌else◌, List, [], ◌∷◌, length, Option, Some, None, refl, sym, subst, arith, inl, inr, ap, ◌∙◌, is_some}
use Rattle.std.specs.Prelude.{slice_set, option_map}
use Rattle.std.proofs.lemmas.Bool.{cases_eq, cases_lt, eq-eqb, ne_eqb, or_left, or_right}
use Rattle.std.proofs.lemmas.List.{length-set, get_or-set_same, get_or-set_other, get_or_past}
use Rattle.std.proofs.lemmas.Option.{same_Some}
use Rattle.nvme_arbiter.specs.Queues.{queue_at, fewer}
use Rattle.nvme_arbiter.specs.Board.{queues_after}
use Rattle.nvme_arbiter.specs.declared.pick.Pick.{Pick}
use Rattle.nvme_arbiter.specs.declared.pick.OpenQueue.{OpenQueue}
use Rattle.nvme_admin.specs.QueueTable.{QueueTable}
use Rattle.nvme_log.specs.Rules.{Past}
use Rattle.nvme_log.specs.Queues.{open_cq}
use Rattle.nvme_log.specs.declared.event.Event.TheVariants.{OpenCq, ClosedCq}
use Rattle.nvme_ctrl.specs.declared.state.SqState.{SqState}
use Rattle.nvme_ctrl.specs.declared.state.CqState.{CqState}
use Rattle.nvme_ctrl.specs.declared.state.Controller.{Controller}
use Rattle.nvme_ctrl_content.specs.Content.{Attachment, Candidate, SqContent, Content, put_sq}
use Rattle.nvme_ctrl.specs.kept.Kept.{AreIds, IsSq, AreSqs, AreWaiting, AreSqRings, Item, tags_of, shown_in, HasNumbers, picked_of}
use Rattle.nvme_slots.specs.Pool.{IsChain}
use Rattle.nvme_slots.specs.Rings.{HasCounts}
use Rattle.nvme_slots.specs.declared.slot.Slot.{Slot}
use Rattle.nvme_entry.specs.declared.submission.Sqe.{Sqe}
use Rattle.nvme_ctrl.specs.kept.QueueSets.{HoldsRung}
use Rattle.nvme_ctrl_log.specs.Regions.{is_opened_cq}
use Rattle.nvme_ctrl.specs.kept.State.{no_sq_state, no_cq_state, sq_at, cq_at}
use Rattle.nvme_ctrl.proofs.Lives.{one_life, lives_apart, put_sq-states, put_cq-states}

-- ---- submission queues
-- a queue with another state and other content of its region
pub sq_changed : (table : QueueTable) (lives : ℕ → Option ℕ) (q r : ℕ) (old new : SqState) (s t : SqContent) (hold on was now : Bool) → IsSq table lives q r old s hold was
    → new.cqid ≡ old.cqid → new.ring.slots ≡ old.ring.slots → new.unposted ≡ t.unposted → t.queue ≡ s.queue → t.slots ≡ s.slots → (new.held == 1) ≡ on → (new.closing == 0) ≡ now
    → IsSq table lives q r new t on now
sq_changed table lives q r old new s t hold on was now h cqid ring unposted queue slots held shown = record {
  entry = h.entry;
  in_table = h.in_table;
  on = h.on;
  to = h.to ∙ sym cqid;
  cq_region = h.cq_region;
  cq_open = ap lives cqid ∙ h.cq_open;
  opened = queue ∙ h.opened;
  held = held;
  shown = shown;
  unposted = unposted;
  slots = ring ∙ h.slots ∙ sym slots;
  some = subst (λ n. 0 < n) (sym slots) h.some;
}

-- where a queue is shown as it was, with another count or in another class, so is each
pub shown_put : (queues : List (Option OpenQueue)) (q : ℕ) (o : Option OpenQueue) → is_some o ≡ is_some (queue_at queues q) → (p : ℕ) → is_some (queue_at (slice_set queues q o) p) ≡ is_some (queue_at queues p)
shown_put queues q o same p = elim (cases_eq p q) [
  | inl is ↦ subst (λ n. is_some (queue_at (slice_set queues q o) n) ≡ is_some (queue_at queues n)) (sym is) (elim (cases_lt q (length queues)) [
    | inl below ↦ ap (λ (x : Option OpenQueue). is_some x) (get_or-set_same queues q o None below) ∙ same
    | inr beyond ↦ ap (λ (x : Option OpenQueue). is_some x)
        (get_or_past (slice_set queues q o) q None (omega (arith, beyond, length-set queues q o)) ∙ sym (get_or_past queues q None beyond))
  ])
  | inr other ↦ ap (λ (x : Option OpenQueue). is_some x) (get_or-set_other queues q p o None other)
]

-- so after a pick
pub shown_picked : (queues : List (Option OpenQueue)) (pick : Pick) (p : ℕ) → is_some (queue_at (queues_after queues pick) p) ≡ is_some (queue_at queues p)
shown_picked queues pick = shown_put queues pick.qid (option_map (fewer pick.n) (queue_at queues pick.qid)) (by (queue_at queues pick.qid)) where
  by : (o : Option OpenQueue) → is_some (option_map (fewer pick.n) o) ≡ is_some o
  by None = refl
  by (Some queue) = refl

-- where its completion queue is open still, a queue is attached still
pub sq_attached : (table : QueueTable) (lives now : ℕ → Option ℕ) (q r : ℕ) (state : SqState) (s : SqContent) (hold shown : Bool) → (h : IsSq table lives q r state s hold shown) → now state.cqid ≡ Some h.cq_region → IsSq table now q r state s hold shown
sq_attached table lives now q r state s hold shown h is_open = record {
  entry = h.entry;
  in_table = h.in_table;
  on = h.on;
  to = h.to;
  cq_region = h.cq_region;
  cq_open = is_open;
  opened = h.opened;
  held = h.held;
  shown = h.shown;
  unposted = h.unposted;
  slots = h.slots;
  some = h.some;
}

-- what another table says of a queue, and the content of its region with other slots
pub sq_told : (table new : QueueTable) (lives : ℕ → Option ℕ) (q r : ℕ) (state : SqState) (s t : SqContent) (hold shown : Bool) → IsSq table lives q r state s hold shown
    → new.sq q ≡ table.sq q → t.queue ≡ s.queue → t.unposted ≡ s.unposted → t.slots ≡ s.slots → IsSq new lives q r state t hold shown
sq_told table new lives q r state s t hold shown h same queue unposted slots = record {
  entry = h.entry;
  in_table = same ∙ h.in_table;
  on = h.on;
  to = h.to;
  cq_region = h.cq_region;
  cq_open = h.cq_open;
  opened = queue ∙ h.opened;
  held = h.held;
  shown = h.shown;
  unposted = h.unposted ∙ sym unposted;
  slots = h.slots ∙ sym slots;
  some = subst (λ n. 0 < n) (sym slots) h.some;
}

-- the states of queues are those of another table and of other content, where each is
pub each_sqs : (states : List SqState) (set : ℕ) (table new : QueueTable) (cq_lives cq_now lives regions : ℕ → Option ℕ) (content later : ℕ → SqContent) (on_hold hold was now : ℕ → Bool)
    → ((q r : ℕ) → lives q ≡ Some r → IsSq table cq_lives q r (sq_at states q) (content r) (on_hold r) (was q) → IsSq new cq_now q r (sq_at states q) (later r) (hold r) (now q))
    → AreSqs states set table cq_lives lives regions content on_hold was → AreSqs states set new cq_now lives regions later hold now
each_sqs states set table new cq_lives cq_now lives regions content later on_hold hold was now step h = record {
  ids = h.ids;
  each = λ q r is. step q r is (h.each q r is);
  few = h.few;
  none = h.none;
  size = h.size;
  rung = h.rung;
}

-- what is so of each queue and its region, where one has another state
pub put_sq-regions : (P : ℕ → ℕ → SqState → Type 0) (lives ids : ℕ → Option ℕ) → AreIds lives ids
    → (sqs : List SqState) (q r : ℕ) (state : SqState) → lives q ≡ Some r → q < length sqs
    → P q r state → ((p x : ℕ) → p ≢ q → x ≢ r → lives p ≡ Some x → P p x (sq_at sqs p))
    → (p x : ℕ) → lives p ≡ Some x → P p x (sq_at (slice_set sqs q state) p)
put_sq-regions P lives ids h sqs q r state life there here others p =
    put_sq-states (λ n s. (x : ℕ) → lives n ≡ Some x → P n x s) sqs q state there
    (λ x is. subst (λ n. P q n state) (one_life lives q r x life is) here) p
    (λ other x is. others p x other (lives_apart lives ids h p q x r is life other) is)

pub put_cq-regions : (P : ℕ → ℕ → CqState → Type 0) (lives ids : ℕ → Option ℕ) → AreIds lives ids
    → (cqs : List CqState) (q r : ℕ) (state : CqState) → lives q ≡ Some r → q < length cqs
    → P q r state → ((p x : ℕ) → p ≢ q → x ≢ r → lives p ≡ Some x → P p x (cq_at cqs p))
    → (p x : ℕ) → lives p ≡ Some x → P p x (cq_at (slice_set cqs q state) p)
put_cq-regions P lives ids h cqs q r state life there here others p =
    put_cq-states (λ n s. (x : ℕ) → lives n ≡ Some x → P n x s) cqs q state there
    (λ x is. subst (λ n. P q n state) (one_life lives q r x life is) here) p
    (λ other x is. others p x other (lives_apart lives ids h p q x r is life other) is)

-- the same commands wait where a state has the same window
pub waiting_kept : (sqs : List SqState) (picked picked_qid : ℕ) (slots : List Slot) (lives regions : ℕ → Option ℕ) (waiting : ℕ → List Candidate) (windows : ℕ → List Item) (q : ℕ) (state : SqState)
    → q < length sqs → state.window ≡ (sq_at sqs q).window → AreWaiting sqs picked picked_qid slots lives regions waiting windows
    → AreWaiting (slice_set sqs q state) picked picked_qid slots lives regions waiting windows
waiting_kept sqs picked picked_qid slots lives regions waiting windows q state there same h = record {
  chain = λ p. put_sq-states (λ y s. (x : ℕ) → lives y ≡ Some x → IsChain slots s.window (tags_of (windows x))) sqs q state there
      (λ x is. subst (λ w. IsChain slots w (tags_of (windows x))) (sym same) (h.chain q x is)) p (λ other. h.chain p);
  items = h.items;
  none = h.none;
  are = h.are;
  picked_there = h.picked_there;
}

-- the rings go by the doorbells still where a state has the same ring
pub rings_kept : (sqs : List SqState) (lives : ℕ → Option ℕ) (queues : ℕ → Option Attachment) (got : ℕ → List Sqe) (sent : ℕ → ℕ) (q : ℕ) (state : SqState)
    → q < length sqs → state.ring ≡ (sq_at sqs q).ring → AreSqRings sqs lives queues got sent → AreSqRings (slice_set sqs q state) lives queues got sent
rings_kept sqs lives queues got sent q state there same h = record {
  each = λ p. put_sq-states (λ y s. (x : ℕ) → lives y ≡ Some x → HasCounts s.ring (length (got x)) (sent x)) sqs q state there
      (λ x is. subst (λ ring. HasCounts ring (length (got x)) (sent x)) (sym same) (h.each q x is)) p (λ other. h.each p);
  no_tails = h.no_tails;
}

-- what is so of the content of each region with something else, where one has new ones of both
pub put_content-each : {A : Type 0} (P : ℕ → SqContent → A → Type 0) (sq : ℕ → SqContent) (more : ℕ → A) (r : ℕ) (s : SqContent) (a : A)
    → P r s a → ((x : ℕ) → x ≢ r → P x (sq x) (more x)) → (x : ℕ) → P x (put_sq sq r s x) (if x == r then a else more x)
put_content-each P sq more r s a here others x = elim (cases_eq x r) [
  | inl same ↦ subst (λ n. P n (put_sq sq r s n) (if n == r then a else more n)) (sym same) (rw (eq-eqb r r refl) here)
  | inr other ↦ rw (ne_eqb x r other) (others x other)
]

module _ (c : Controller) (k : Content) (n : HasNumbers c k) (q r : ℕ) (life : k.sq_life q ≡ Some r) where
  -- a queue that is kept has a place
  pub kept_there : q < length c.sqs
  kept_there = omega (arith, n.sqs.few q r life, n.sqs.size)

  -- the region of a queue that is kept was opened, so a region that wasn't is another
  pub opened_apart : (x : ℕ) → (k.sq x).queue ≡ None → x ≢ r
  opened_apart x none same = let opened = (n.sqs.each q r life).opened in let here = subst (λ y. (k.sq y).queue ≡ None) same none in cc (opened, here)

  -- another state of it, other content of its region, and whether it is held and shown
  pub put_sqs : (state : SqState) (set : ℕ) (sq : ℕ → SqContent) (held shown : ℕ → Bool) → IsSq k.table k.cq_life q r state (sq r) (held r) (shown q)
      → ((x : ℕ) → x ≢ r → sq x ≡ k.sq x) → ((x : ℕ) → x ≢ r → held x ≡ k.held x) → ((p : ℕ) → p ≢ q → shown p ≡ shown_in k.board p)
      → HoldsRung set (slice_set c.sqs q state) → AreSqs (slice_set c.sqs q state) set k.table k.cq_life k.sq_life k.sq_id sq held shown
  put_sqs state set sq held shown here same same_held same_shown rung = record {
    ids = n.sqs.ids;
    each = put_sq-regions (λ p x s. IsSq k.table k.cq_life p x s (sq x) (held x) (shown p)) k.sq_life k.sq_id n.sqs.ids c.sqs q r state life kept_there here
        (λ p x other apart is. (let h = n.sqs.each p x is in let left = same x apart in
        sq_changed k.table k.cq_life p x (sq_at c.sqs p) (sq_at c.sqs p) (k.sq x) (sq x) (k.held x) (held x) (shown_in k.board p) (shown p) h refl refl
        (h.unposted ∙ ap (λ (y : SqContent). y.unposted) (sym left)) (ap (λ (y : SqContent). y.queue) left) (ap (λ (y : SqContent). y.slots) left)
        (h.held ∙ sym (same_held x apart)) (h.shown ∙ sym (same_shown p other))));
    few = n.sqs.few;
    none = λ p none. put_sq-states (λ x s. k.sq_life x ≡ None → s ≡ no_sq_state) c.sqs q state kept_there (λ gone. absurd (cc (gone, life))) p (λ other gone. n.sqs.none p gone) none;
    size = length-set c.sqs q state ∙ n.sqs.size;
    rung = rung;
  }

-- where nothing is picked nothing of a queue is
pub none_picked_of : (c : Controller) (o : Option ℕ) → c.picked ≡ 0 → picked_of c o ≡ 0
none_picked_of c None none = refl
none_picked_of c (Some q) none = by (q == c.picked_qid) where
  by : (b : Bool) → (if b then c.picked else 0) ≡ 0
  by true = none
  by false = refl

-- ---- completion queues
module _ (c : Controller) (k : Content) (n : HasNumbers c k) (q r : ℕ) (life : k.cq_life q ≡ Some r) where
  pub kept_cq_there : q < length c.cqs
  kept_cq_there = omega (arith, n.cqs.few q r life, n.cqs.size)

  pub put_cq-none : (state : CqState) (p : ℕ) → k.cq_life p ≡ None → cq_at (slice_set c.cqs q state) p ≡ no_cq_state
  put_cq-none state p none =
      put_cq-states (λ x s. k.cq_life x ≡ None → s ≡ no_cq_state) c.cqs q state kept_cq_there (λ gone. absurd (cc (gone, life))) p (λ other gone. n.cqs.none p gone) none

-- a completion queue that is open was opened on its region
pub opened_where_open : (past : Past) (q x : ℕ) → open_cq past q ≡ Some x → is_opened_cq past x ≡ true
opened_where_open [] q x is = by (q == 0) is where
  by : (b : Bool) → (if b then Some 0 else None) ≡ Some x → (x == 0) ≡ true
  by true e = eq-eqb x 0 (sym (same_Some 0 x e))
  by false e = absurd (cc e)
opened_where_open (OpenCq qid region ∷ past) q x is = by (qid == q) (opened_where_open past q x) is where
  by : (b : Bool) → (open_cq past q ≡ Some x → is_opened_cq past x ≡ true) → (if b then Some region else open_cq past q) ≡ Some x → (region == x || is_opened_cq past x) ≡ true
  by true before e = or_left (region == x) (is_opened_cq past x) (eq-eqb region x (same_Some region x e))
  by false before e = or_right (region == x) (is_opened_cq past x) (before e)
opened_where_open (ClosedCq qid region ∷ past) q x is = by (qid == q) (opened_where_open past q x) is where
  by : (b : Bool) → (open_cq past q ≡ Some x → is_opened_cq past x ≡ true) → (if b then None else open_cq past q) ≡ Some x → is_opened_cq past x ≡ true
  by true before e = absurd (cc e)
  by false before e = before e
opened_where_open (e ∷ past) q x is = opened_where_open past q x is
