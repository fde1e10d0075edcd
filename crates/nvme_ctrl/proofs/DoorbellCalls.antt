-- The doorbells of a controller: what is answered, and that it stands at its log afterwards.
use Rattle.std.proofs.Common.{◌≡◌, ◌≢◌, ◌↔◌, ℕ, ◌+◌, ◌%◌, ◌<◌, ◌≤◌, ◌==◌, ◌&&◌, nat_lt, nat_le, Bool, true, false, List, ◌∷◌, length, Option, Some, None, option_map, is_some, refl, sym, ap, ◌∙◌, subst, arith, inl, inr, if◌then◌else◌}
use Rattle.std.specs.Prelude.{slice_set, IsTrue}
use Rattle.std.proofs.lemmas.Bool.{cases_lt, eqb-true, and_parts, and_from, lt-ltb, ltb-true, le-leb, leb-true, eq-eqb, ne_eqb}
use Rattle.std.proofs.lemmas.List.{length-set}
use Rattle.std.proofs.lemmas.Option.{same_Some}
use Rattle.nvme_arbiter.specs.Limits.{queue_limit}
use Rattle.nvme_admin.specs.QueueTable.{QueueTable}
use Rattle.nvme_arbiter.specs.declared.pick.OpenQueue.{OpenQueue}
use Rattle.nvme_admin.specs.declared.verdict.SqEntry.{SqEntry}
use Rattle.nvme_placing.specs.Telling.{unplaced}
use Rattle.nvme_log.specs.Aborts.{is_index}
use Rattle.nvme_log.specs.Rules.{FrontRules}
use Rattle.nvme_log.specs.Queues.{Queue, open_sq, open_cq}
use Rattle.nvme_log.specs.Places.{fetched}
use Rattle.nvme_log.specs.Completions.{posted_to, phase_after}
use Rattle.nvme_log.specs.Laws.{as_open}
use Rattle.nvme_ctrl_log.specs.Notes.{Notes, Tail, Head, logged}
use Rattle.nvme_ctrl_log.specs.Doorbells.{gap, sq_slots, cq_slots, submitted, consumed}
use Rattle.nvme_slots.specs.Rings.{HasCounts}
use Rattle.nvme_ctrl_log.specs.Account.{IsTail, IsHead, is_open_cq_region}
use Rattle.nvme_ctrl_log.specs.Calls.{IsTailOf, IsHeadOf}
use Rattle.nvme_ctrl.specs.Calls.{TailRung, HeadRung}
use Rattle.nvme_slots.specs.declared.ring.Ring.{Ring}
use Rattle.nvme_slots.specs.declared.slot.Slot.{Slot}
use Rattle.nvme_ctrl.specs.declared.state.SqState.{SqState}
use Rattle.nvme_ctrl.specs.declared.state.CqState.{CqState}
use Rattle.nvme_ctrl.specs.declared.state.Controller.{Controller}
use Rattle.nvme_ctrl_content.specs.Content.{Content}
use Rattle.nvme_ctrl_content.specs.Standing.{on_board}
use Rattle.nvme_ctrl.specs.Standing.{IsController}
use Rattle.nvme_ctrl.specs.kept.Kept.{Items, HasNumbers, HasItems, HoldsDoorbells, StandsAt, ready_tags, shown_in}
use Rattle.nvme_slots.specs.Pool.{IsChain}
use Rattle.nvme_ctrl_log.specs.Regions.{is_opened_cq}
use Rattle.nvme_ctrl.specs.kept.State.{sq_at, cq_at}
use Rattle.nvme_ctrl.proofs.Cookies.{cookies_later}
use Rattle.nvme_ctrl.proofs.Passed.{passed_later}
use Rattle.nvme_ctrl_content.proofs.OpenQueues.{open_region, any_upto}
use Rattle.nvme_ctrl.proofs.Lives.{put_cq-states}
use Rattle.nvme_ctrl_log.proofs.ToldQueues.{told_some, told_none, closing_same}
use Rattle.nvme_ctrl.proofs.QueueStates.{put_sq-regions, put_cq-regions, put_sqs, sq_changed, waiting_kept, put_cq-none, kept_there, kept_cq_there, opened_apart, opened_where_open}
use Rattle.nvme_ctrl.specs.kept.QueueSets.{with_queue}
use Rattle.nvme_ctrl.proofs.PendingDeletions.{deletions_kept}
use Rattle.nvme_ctrl.proofs.QueueSets.{rung-put, readied-kept}

-- ---- the queues of a table that are open
-- the queue of an entry
abbrev pub queue_of : SqEntry → Queue
queue_of e = record { region = e.region; cqid = e.cqid; class = e.class }

-- a queue is kept, on a region
pub record HasLife (lives : ℕ → Option ℕ) (q : ℕ) : Type 0 where
  pub region : ℕ
  pub life : lives q ≡ Some region

-- an entry of an open queue isn't closing
open_entry_unclosing : (e : SqEntry) → is_some (as_open (Some e)) ≡ true → e.closing ≡ false
open_entry_unclosing e some = by e.closing refl some where
  by : (b : Bool) → e.closing ≡ b → is_some (if b then None else Some (queue_of e)) ≡ true → e.closing ≡ false
  by true is none = cc none
  by false is some = is

-- a submission queue of a queue table is open
pub record IsOpenIn (t : QueueTable) (q : ℕ) : Type 0 where
  pub entry : SqEntry
  pub in_table : t.sq q ≡ Some entry
  pub opened : entry.closing ≡ false

module _ (rules : FrontRules) (late : Bool) (notes : Notes) (c : Controller) (slots : List Slot) (s : StandsAt rules late notes c slots) where
  -- the open queues are those of the table
  pub is_open : (q : ℕ) (e : SqEntry) → s.content.table.sq q ≡ Some e → e.closing ≡ false → open_sq (logged notes) q ≡ Some (queue_of e)
  is_open q e is opened = s.holds.queues.sqs q ∙ ap (λ (o : Option SqEntry). as_open o) is ∙ rw opened refl

  -- what the table in memory answers: a queue, and whether it is closing
  pub none_is_open : (q : ℕ) (o : Option SqEntry) → option_map unplaced o ≡ option_map unplaced (s.content.table.sq q) → o ≡ None → open_sq (logged notes) q ≡ None
  none_is_open q o told is = s.holds.queues.sqs q ∙ ap (λ (o : Option SqEntry). as_open o) (told_none o (s.content.table.sq q) told is)

  pub closing_is_not_open : (q : ℕ) (o : Option SqEntry) → option_map unplaced o ≡ option_map unplaced (s.content.table.sq q) → (e : SqEntry) → o ≡ Some e → e.closing ≡ true
      → open_sq (logged notes) q ≡ None
  closing_is_not_open q o told e is closing =
      let told_as = told_some o (s.content.table.sq q) told e is in
      s.holds.queues.sqs q ∙ ap (λ (o : Option SqEntry). as_open o) told_as.is_there ∙ rw (closing_same e told_as.entry told_as.same ∙ closing) refl

  pub is_told_open : (q : ℕ) (o : Option SqEntry) → option_map unplaced o ≡ option_map unplaced (s.content.table.sq q) → (e : SqEntry) → o ≡ Some e → e.closing ≡ false
      → IsOpenIn s.content.table q
  is_told_open q o told e is opened =
      let told_as = told_some o (s.content.table.sq q) told e is in
      record { entry = told_as.entry; in_table = told_as.is_there; opened = closing_same e told_as.entry told_as.same ∙ opened }

  -- their state is kept
  pub sq_lives : (q : ℕ) (queue : Queue) → open_sq (logged notes) q ≡ Some queue → s.content.sq_life q ≡ Some queue.region
  sq_lives q queue opened = s.holds.lives.sqs q queue opened

  pub cq_lives : (q x : ℕ) → open_cq (logged notes) q ≡ Some x → s.content.cq_life q ≡ Some x
  cq_lives q x opened = s.holds.lives.cqs q ∙ opened

  -- under their identifiers
  pub sq_there : (q : ℕ) (queue : Queue) → open_sq (logged notes) q ≡ Some queue → q < length c.sqs
  sq_there q queue opened = kept_there c s.content s.numbers q queue.region (sq_lives q queue opened)

  pub cq_there : (q x : ℕ) → open_cq (logged notes) q ≡ Some x → q < length c.cqs
  cq_there q x opened = kept_cq_there c s.content s.numbers q x (cq_lives q x opened)

  -- the region of an open completion queue is open
  pub cq_is_open : (q x : ℕ) → open_cq (logged notes) q ≡ Some x → is_open_cq_region notes x ≡ true
  cq_is_open q x opened = elim (cases_lt q queue_limit) [
    | inl below ↦ any_upto (λ (p : ℕ). is_index x (open_cq (logged notes) p)) queue_limit q below (rw opened (eq-eqb x x refl))
    | inr past ↦ absurd (let few = s.numbers.cqs.few q x (cq_lives q x opened) in omega (arith, few, past))
  ]

  -- arbitration is shown the open queues
  shown_open : (q : ℕ) → shown_in s.content.board q ≡ is_some (open_sq (logged notes) q)
  shown_open q = ap (λ (o : Option OpenQueue). is_some o) (s.holds.queues.board q) ∙ by (open_sq (logged notes) q) where
    by : (o : Option Queue) → is_some (option_map (on_board s.content) o) ≡ is_some o
    by None = refl
    by (Some queue) = refl

  -- a queue that is open isn't closing
  pub open_unclosing : (q : ℕ) (queue : Queue) → open_sq (logged notes) q ≡ Some queue → (sq_at c.sqs q).closing ≡ 0
  open_unclosing q queue opened = eqb-true (sq_at c.sqs q).closing 0 ((s.numbers.sqs.each q queue.region (sq_lives q queue opened)).shown ∙ shown_open q ∙ ap (λ (o : Option Queue). is_some o) opened)

  -- one that isn't closing is open, where it has a region
  pub unclosing_is_open : (q r : ℕ) → s.content.sq_life q ≡ Some r → (sq_at c.sqs q).closing ≡ 0 → IsOpenIn s.content.table q
  unclosing_is_open q r life unclosing =
      let w = s.numbers.sqs.each q r life in
      let some : is_some (as_open (Some w.entry)) ≡ true = ap (λ (o : Option SqEntry). is_some (as_open o)) (sym w.in_table) ∙ ap (λ (o : Option Queue). is_some o) (sym (s.holds.queues.sqs q))
      ∙ sym (shown_open q) ∙ sym w.shown ∙ eq-eqb (sq_at c.sqs q).closing 0 unclosing in
      record { entry = w.entry; in_table = w.in_table; opened = open_entry_unclosing w.entry some }

  -- one that has a ring has a region
  pub ring_lives : (q : ℕ) → 0 < (sq_at c.sqs q).ring.slots → HasLife s.content.sq_life q
  ring_lives q some = by (s.content.sq_life q) refl where
    by : (o : Option ℕ) → s.content.sq_life q ≡ o → HasLife s.content.sq_life q
    by None none = absurd (let gone = ap (λ (state : SqState). state.ring.slots) (s.numbers.sqs.none q none) in omega (arith, some, gone))
    by (Some r) is = record { region = r; life = is }

  pub ring_cq_lives : (q : ℕ) → 0 < (cq_at c.cqs q).ring.slots → HasLife s.content.cq_life q
  ring_cq_lives q some = by (s.content.cq_life q) refl where
    by : (o : Option ℕ) → s.content.cq_life q ≡ o → HasLife s.content.cq_life q
    by None none = absurd (let gone = ap (λ (state : CqState). state.ring.slots) (s.numbers.cqs.none q none) in omega (arith, some, gone))
    by (Some r) is = record { region = r; life = is }

  -- and the slots of the log
  pub slots_are : (q r : ℕ) → s.content.sq_life q ≡ Some r → (sq_at c.sqs q).ring.slots ≡ sq_slots rules r
  slots_are q r life = (s.numbers.sqs.each q r life).slots ∙ sym (s.holds.tabled.sq_slots r)

  pub cq_slots_are : (q x : ℕ) → s.content.cq_life q ≡ Some x → (cq_at c.cqs q).ring.slots ≡ cq_slots rules x
  cq_slots_are q x life = (s.numbers.cqs.each q x life).slots ∙ sym (s.holds.tabled.cq_slots x)

-- ---- a tail
-- a tail makes so many submitted
tail_submitted : (rules : FrontRules) (notes : Notes) (r slot : ℕ)
    → submitted rules (Tail r slot ∷ notes) r ≡ submitted rules notes r + gap (sq_slots rules r) (submitted rules notes r % sq_slots rules r) slot
tail_submitted rules notes r slot = rw (eq-eqb r r refl) refl

tail_others : (rules : FrontRules) (notes : Notes) (r slot x : ℕ) → x ≢ r → submitted rules (Tail r slot ∷ notes) x ≡ submitted rules notes x
tail_others rules notes r slot x other = rw (ne_eqb r x (λ e. other (sym e))) refl

-- another ring for a submission queue
abbrev pub with_ring : SqState → Ring → SqState
with_ring state ring = record state { ring = ring }

abbrev pub with_sq_ring : Controller → ℕ → Ring → Controller
with_sq_ring c q ring = record c { sqs = slice_set c.sqs q (with_ring (sq_at c.sqs q) ring); rung = with_queue c.rung q true }

module _ (c : Controller) (slots : List Slot) (k : Content) (q r : ℕ) (ring : Ring) (n : HasNumbers c k) (life : k.sq_life q ≡ Some r) where
  abbrev ring_state : SqState
  ring_state = with_ring (sq_at c.sqs q) ring

  sq_there_is : q < length c.sqs
  sq_there_is = kept_there c k n q r life

  sq_ring-numbers : ring.slots ≡ (sq_at c.sqs q).ring.slots → HasNumbers (with_sq_ring c q ring) k
  sq_ring-numbers slots = record {
    tells = n.tells;
    board_is = n.board_is;
    is_arbiter = n.is_arbiter;
    outstanding_is = n.outstanding_is;
    sqs = (let h = n.sqs.each q r life in put_sqs c k n q r life ring_state (with_queue c.rung q true) k.sq k.held (shown_in k.board)
        (sq_changed k.table k.cq_life q r (sq_at c.sqs q) ring_state (k.sq r) (k.sq r) (k.held r) (k.held r) (shown_in k.board q) (shown_in k.board q) h refl slots h.unposted refl refl h.held h.shown)
        (λ x other. refl) (λ x other. refl) (λ p other. refl) (rung-put c.rung q true c.sqs ring_state sq_there_is n.sqs.rung (λ no. absurd (cc no))));
    cqs = n.cqs;
  }

  sq_ring-items : (g : Items) → HasItems c slots k g → HasItems (with_sq_ring c q ring) slots k g
  sq_ring-items g h = record {
    windows = waiting_kept c.sqs c.picked c.picked_qid slots k.sq_life k.sq_id (λ (x : ℕ). (k.sq x).window) g.windows q ring_state sq_there_is refl h.windows;
    outs = h.outs;
    readies = h.readies;
    deletions = deletions_kept c.sqs c.pending_deletions slots k.sq_life k.deletion g.deletes q ring_state sq_there_is refl refl h.deletions;
    free = h.free;
    few = h.few;
  }

  sq_ring-doorbells : (rules : FrontRules) (notes : Notes) (slot : ℕ) → HasCounts ring (length (fetched (logged notes) r)) (submitted rules (Tail r slot ∷ notes) r)
      → HoldsDoorbells rules notes c k → HoldsDoorbells rules (Tail r slot ∷ notes) (with_sq_ring c q ring) k
  sq_ring-doorbells rules notes slot counts d = record {
    sqs = record {
      each = put_sq-regions (λ p x state. HasCounts state.ring (length (fetched (logged notes) x)) (submitted rules (Tail r slot ∷ notes) x))
          k.sq_life k.sq_id n.sqs.ids c.sqs q r ring_state life sq_there_is counts
          (λ p x other apart is. subst (HasCounts (sq_at c.sqs p).ring (length (fetched (logged notes) x))) (sym (tail_others rules notes r slot x apart)) (d.sqs.each p x is));
      no_tails = λ x none. tail_others rules notes r slot x (opened_apart c k n q r life x none) ∙ d.sqs.no_tails x none;
    };
    cqs = d.cqs;
  }

-- what a ring says to a tail
abbrev pub TailAnswer : Ring → ℕ → Bool → Type 0
TailAnswer ring slot rung = (read written : ℕ) → HasCounts ring read written
    → rung ≡ (nat_lt slot ring.slots && nat_lt (written + gap ring.slots (written % ring.slots) slot) (read + ring.slots))

abbrev pub TailCounts : Ring → ℕ → Bool → Ring → Type 0
TailCounts ring slot rung new = (read written : ℕ) → HasCounts ring read written → rung ≡ true
    → HasCounts new read (written + gap ring.slots (written % ring.slots) slot)

module _ (rules : FrontRules) (late : Bool) (notes : Notes) (c : Controller) (slots : List Slot) (s : StandsAt rules late notes c slots)
    (qid slot : ℕ) (e : SqEntry) (is : s.content.table.sq qid ≡ Some e) (opened : e.closing ≡ false) (rung : Bool)
    (answer : TailAnswer (sq_at c.sqs qid).ring slot rung) (is_slot : rung ≡ true → slot < (sq_at c.sqs qid).ring.slots)
  where
    here : open_sq (logged notes) qid ≡ Some (queue_of e)
    here = is_open rules late notes c slots s qid e is opened

    life : s.content.sq_life qid ≡ Some e.region
    life = sq_lives rules late notes c slots s qid (queue_of e) here

    are : (sq_at c.sqs qid).ring.slots ≡ sq_slots rules e.region
    are = slots_are rules late notes c slots s qid e.region life

    -- a doorbell that is taken is a tail
    tail_is : rung ≡ true → IsTail rules notes e.region slot
    tail_is rang =
        let state = sq_at c.sqs qid in
        let same : state.ring.slots ≡ sq_slots rules e.region = are in
        let below = is_slot rang in
        let counts = s.doorbells.sqs.each qid e.region life in
        let said = sym (answer (length (fetched (logged notes) e.region)) (submitted rules notes e.region) counts) ∙ rang in
        let parts = and_parts (nat_lt slot state.ring.slots) _ said in
        let room = ltb-true _ _ parts.1 in
        record {
          is_open = open_region rules late (logged notes) s.content s.holds qid (queue_of e) here;
          is_slot = subst (λ (n : ℕ). slot < n) same below;
          fits = rw (tail_submitted rules notes e.region slot)
              (subst (λ (n : ℕ). submitted rules notes e.region + gap n (submitted rules notes e.region % n) slot < length (fetched (logged notes) e.region) + n) same room);
        }

    -- and a tail is taken
    tail_rings : IsTail rules notes e.region slot → rung ≡ true
    tail_rings tail =
        let state = sq_at c.sqs qid in
        let same : sq_slots rules e.region ≡ state.ring.slots = sym are in
        let below : slot < state.ring.slots = subst (λ (n : ℕ). slot < n) same tail.is_slot in
        let counts = s.doorbells.sqs.each qid e.region life in
        let fits = subst (λ (n : ℕ). n < length (fetched (logged notes) e.region) + sq_slots rules e.region) (tail_submitted rules notes e.region slot) tail.fits in
        let room = subst (λ (n : ℕ). submitted rules notes e.region + gap n (submitted rules notes e.region % n) slot < length (fetched (logged notes) e.region) + n) same fits in
        answer (length (fetched (logged notes) e.region)) (submitted rules notes e.region) counts
        ∙ and_from _ _ (lt-ltb _ _ below) (lt-ltb _ _ room)

    pub tail_answer : IsTrue rung ↔ IsTailOf rules notes qid slot
    tail_answer = (
      λ rang. record { queue = queue_of e; is_open = here; is_tail = tail_is rang },
      λ tail. (tail_rings (subst (λ (queue : Queue). IsTail rules notes queue.region slot)
          (same_Some tail.queue (queue_of e) (sym tail.is_open ∙ here)) tail.is_tail)),
    )

    -- the controller stands afterwards
    pub tail_stands : (new : Ring) → rung ≡ true → TailCounts (sq_at c.sqs qid).ring slot rung new → new.slots ≡ (sq_at c.sqs qid).ring.slots
        → TailRung rules late notes qid slot (with_sq_ring c qid new) slots
    tail_stands new rang counts same =
        let tail = tail_is rang in
        let below = is_slot rang in
        let old = s.doorbells.sqs.each qid e.region life in
        let written = counts (length (fetched (logged notes) e.region)) (submitted rules notes e.region) old rang in
        let now : HasCounts new (length (fetched (logged notes) e.region)) (submitted rules (Tail e.region slot ∷ notes) e.region) =
        subst (HasCounts new (length (fetched (logged notes) e.region)))
        (ap (λ (n : ℕ). submitted rules notes e.region + gap n (submitted rules notes e.region % n) slot) are ∙ sym (tail_submitted rules notes e.region slot)) written in
        record {
          queue = queue_of e;
          is_open = here;
          stands = record {
            content = s.content;
            items = s.items;
            holds = s.holds;
            numbers = sq_ring-numbers c slots s.content qid e.region new s.numbers life same;
            has = sq_ring-items c slots s.content qid e.region new s.numbers life s.items s.has;
            doorbells = sq_ring-doorbells c slots s.content qid e.region new s.numbers life rules notes slot now s.doorbells;
            tags = record {
              untaken_are = s.tags.untaken_are;
              held = s.tags.held;
              through = s.tags.through;
              unanswered = s.tags.unanswered;
              hand_entries = s.tags.hand_entries;
              free_count = s.tags.free_count;
              cookies = cookies_later notes (Tail e.region slot ∷ notes) slots s.items (λ r i. refl) (λ r. refl) s.tags.cookies;
              passed = passed_later notes (Tail e.region slot ∷ notes) s.items (λ i. refl) refl (λ i waits. waits) s.tags.passed;
              flagged = s.tags.flagged;
            };
            shown = record { held = s.shown.held; classed = s.shown.classed };
            ordered = s.ordered;
            regions = record { sqs = s.regions.sqs; cqs = s.regions.cqs };
            account = λ on_time. (let a = s.account on_time in record { each = (tail, a.each); lawful = a.lawful; effects_whole = a.effects_whole });
          };
        }

-- what is told of any queue that isn't closing
pub tail_told : (rules : FrontRules) (late : Bool) (notes : Notes) (c : Controller) (slots : List Slot) (s : StandsAt rules late notes c slots) (qid slot : ℕ) (rung : Bool) → (sq_at c.sqs qid).closing ≡ 0
    → TailAnswer (sq_at c.sqs qid).ring slot rung → (rung ≡ true → slot < (sq_at c.sqs qid).ring.slots) → IsTrue rung ↔ IsTailOf rules notes qid slot
tail_told rules late notes c slots s qid slot rung unclosing answer is_slot = elim (cases_lt 0 (sq_at c.sqs qid).ring.slots) [
  | inl some ↦
      let l = ring_lives rules late notes c slots s qid some in
      let here = unclosing_is_open rules late notes c slots s qid l.region l.life unclosing in
      tail_answer rules late notes c slots s qid slot here.entry here.in_table here.opened rung answer is_slot
  | inr none ↦ (
    λ rang. absurd (let below = is_slot rang in omega (arith, below, none)),
    λ tail. absurd (let w = s.numbers.sqs.each qid tail.queue.region (sq_lives rules late notes c slots s qid tail.queue tail.is_open) in omega (arith, w.slots, w.some, none)),
  )
]

-- ---- a head
-- a head makes so many consumed
head_consumed : (rules : FrontRules) (notes : Notes) (x slot : ℕ)
    → consumed rules (Head x slot ∷ notes) x ≡ consumed rules notes x + gap (cq_slots rules x) (consumed rules notes x % cq_slots rules x) slot
head_consumed rules notes x slot = rw (eq-eqb x x refl) refl

head_others : (rules : FrontRules) (notes : Notes) (r slot x : ℕ) → x ≢ r → consumed rules (Head r slot ∷ notes) x ≡ consumed rules notes x
head_others rules notes r slot x other = rw (ne_eqb r x (λ e. other (sym e))) refl

-- another ring for a completion queue
abbrev pub with_cq_ring : Controller → ℕ → Ring → Controller
with_cq_ring c q ring = record c { cqs = slice_set c.cqs q (record (cq_at c.cqs q) { ring = ring }) }

module _ (c : Controller) (slots : List Slot) (k : Content) (q r : ℕ) (ring : Ring) (n : HasNumbers c k) (life : k.cq_life q ≡ Some r) where
  abbrev cq_ring_state : CqState
  cq_ring_state = record (cq_at c.cqs q) { ring = ring }

  cq_there_is : q < length c.cqs
  cq_there_is = kept_cq_there c k n q r life

  cq_ring-slots : ring.slots ≡ (cq_at c.cqs q).ring.slots → (p x : ℕ) → k.cq_life p ≡ Some x → (cq_at (slice_set c.cqs q cq_ring_state) p).ring.slots ≡ (k.cq x).slots
  cq_ring-slots slots = put_cq-regions (λ p x state. state.ring.slots ≡ (k.cq x).slots) k.cq_life k.cq_id n.cqs.ids c.cqs q r cq_ring_state life cq_there_is
      (slots ∙ (n.cqs.each q r life).slots) (λ p x other apart is. (n.cqs.each p x is).slots)

  cq_ring-numbers : ring.slots ≡ (cq_at c.cqs q).ring.slots → HasNumbers (with_cq_ring c q ring) k
  cq_ring-numbers slots = record {
    tells = n.tells;
    board_is = n.board_is;
    is_arbiter = n.is_arbiter;
    outstanding_is = n.outstanding_is;
    sqs = record {
      ids = n.sqs.ids;
      each = n.sqs.each;
      few = n.sqs.few;
      none = n.sqs.none;
      size = n.sqs.size;
      rung = n.sqs.rung;
    };
    cqs = record {
      ids = n.cqs.ids;
      each = λ p x is. record { slots = cq_ring-slots slots p x is; some = (n.cqs.each p x is).some };
      few = n.cqs.few;
      none = put_cq-none c k n q r life cq_ring_state;
      size = length-set c.cqs q cq_ring_state ∙ n.cqs.size;
      readied = readied-kept c.readied q c.cqs cq_ring_state cq_there_is n.cqs.readied (λ none. none);
    };
  }

  cq_ring-items : (g : Items) → HasItems c slots k g → HasItems (with_cq_ring c q ring) slots k g
  cq_ring-items g h = record {
    windows = h.windows;
    outs = h.outs;
    readies = record {
      chain = λ p. put_cq-states (λ y state. (x : ℕ) → k.cq_life y ≡ Some x → IsChain slots state.ready (ready_tags (g.readies x)))
          c.cqs q cq_ring_state cq_there_is (h.readies.chain q) p (λ other. h.readies.chain p);
      items = h.readies.items;
      none = h.readies.none;
      are = h.readies.are;
    };
    deletions = h.deletions;
    free = h.free;
    few = h.few;
  }

  cq_ring-doorbells : (rules : FrontRules) (notes : Notes) (slot : ℕ) → open_cq (logged notes) q ≡ Some r → ring.slots ≡ (cq_at c.cqs q).ring.slots
      → HasCounts ring (consumed rules (Head r slot ∷ notes) r) (length (posted_to (logged notes) r))
      → HoldsDoorbells rules notes c k → HoldsDoorbells rules (Head r slot ∷ notes) (with_cq_ring c q ring) k
  cq_ring-doorbells rules notes slot opened slots counts d = record {
    sqs = d.sqs;
    cqs = record {
      each = put_cq-regions (λ p x state. HasCounts state.ring (consumed rules (Head r slot ∷ notes) x) (length (posted_to (logged notes) x)))
          k.cq_life k.cq_id n.cqs.ids c.cqs q r cq_ring_state life cq_there_is counts
          (λ p x other apart is. subst (λ (m : ℕ). HasCounts (cq_at c.cqs p).ring m (length (posted_to (logged notes) x))) (sym (head_others rules notes r slot x apart)) (d.cqs.each p x is));
      phases = put_cq-regions (λ p x state. (state.phase == 1) ≡ phase_after (length (posted_to (logged notes) x)) state.ring.slots)
          k.cq_life k.cq_id n.cqs.ids c.cqs q r cq_ring_state life cq_there_is
          (d.cqs.phases q r life ∙ ap (phase_after (length (posted_to (logged notes) r))) (sym slots)) (λ p x other apart is. d.cqs.phases p x is);
      no_heads = λ x none. head_others rules notes r slot x
          (λ same. (let here = opened_where_open (logged notes) q r opened in let there = subst (λ (y : ℕ). is_opened_cq (logged notes) y ≡ false) same none in cc (here, there)))
          ∙ d.cqs.no_heads x none;
      no_posts = d.cqs.no_posts;
    };
  }

-- what a ring says to a head
abbrev pub HeadAnswer : Ring → ℕ → Bool → Type 0
HeadAnswer ring slot rung = (read written : ℕ) → HasCounts ring read written
    → rung ≡ (nat_lt slot ring.slots && nat_le (read + gap ring.slots (read % ring.slots) slot) written)

abbrev pub HeadCounts : Ring → ℕ → Bool → Ring → Type 0
HeadCounts ring slot rung new = (read written : ℕ) → HasCounts ring read written → rung ≡ true
    → HasCounts new (read + gap ring.slots (read % ring.slots) slot) written

module _ (rules : FrontRules) (late : Bool) (notes : Notes) (c : Controller) (slots : List Slot) (s : StandsAt rules late notes c slots)
    (cqid slot region : ℕ) (is : s.content.table.cq cqid ≡ Some region) (rung : Bool)
    (answer : HeadAnswer (cq_at c.cqs cqid).ring slot rung) (is_slot : rung ≡ true → slot < (cq_at c.cqs cqid).ring.slots)
  where
    head_open : open_cq (logged notes) cqid ≡ Some region
    head_open = s.holds.queues.cqs cqid ∙ is

    cq_life_is : s.content.cq_life cqid ≡ Some region
    cq_life_is = cq_lives rules late notes c slots s cqid region head_open

    cq_are : (cq_at c.cqs cqid).ring.slots ≡ cq_slots rules region
    cq_are = cq_slots_are rules late notes c slots s cqid region cq_life_is

    -- a doorbell that is taken is a head
    head_is : rung ≡ true → IsHead rules notes region slot
    head_is rang =
        let same : (cq_at c.cqs cqid).ring.slots ≡ cq_slots rules region = cq_are in
        let below = is_slot rang in
        let counts = s.doorbells.cqs.each cqid region cq_life_is in
        let said = sym (answer (consumed rules notes region) (length (posted_to (logged notes) region)) counts) ∙ rang in
        let parts = and_parts (nat_lt slot (cq_at c.cqs cqid).ring.slots) _ said in
        let room = leb-true _ _ parts.1 in
        record {
          is_open = cq_is_open rules late notes c slots s cqid region head_open;
          is_slot = subst (λ (n : ℕ). slot < n) same below;
          posted = rw (head_consumed rules notes region slot)
              (subst (λ (n : ℕ). consumed rules notes region + gap n (consumed rules notes region % n) slot ≤ length (posted_to (logged notes) region)) same room);
        }

    -- and a head is taken
    head_rings : IsHead rules notes region slot → rung ≡ true
    head_rings head =
        let same : cq_slots rules region ≡ (cq_at c.cqs cqid).ring.slots = sym cq_are in
        let below : slot < (cq_at c.cqs cqid).ring.slots = subst (λ (n : ℕ). slot < n) same head.is_slot in
        let counts = s.doorbells.cqs.each cqid region cq_life_is in
        let fits = subst (λ (n : ℕ). n ≤ length (posted_to (logged notes) region)) (head_consumed rules notes region slot) head.posted in
        let room = subst (λ (n : ℕ). consumed rules notes region + gap n (consumed rules notes region % n) slot ≤ length (posted_to (logged notes) region)) same fits in
        answer (consumed rules notes region) (length (posted_to (logged notes) region)) counts
        ∙ and_from _ _ (lt-ltb _ _ below) (le-leb _ _ room)

    pub head_answer : IsTrue rung ↔ IsHeadOf rules notes cqid slot
    head_answer = (
      λ rang. record { region = region; is_open = head_open; is_head = head_is rang },
      λ head. head_rings (subst (λ (x : ℕ). IsHead rules notes x slot) (same_Some head.region region (sym head.is_open ∙ head_open)) head.is_head),
    )

    -- the controller stands afterwards
    pub head_stands : (new : Ring) → rung ≡ true → HeadCounts (cq_at c.cqs cqid).ring slot rung new → new.slots ≡ (cq_at c.cqs cqid).ring.slots
        → HeadRung rules late notes cqid slot (with_cq_ring c cqid new) slots
    head_stands new rang counts same =
        let head = head_is rang in
        let below = is_slot rang in
        let old = s.doorbells.cqs.each cqid region cq_life_is in
        let read = counts (consumed rules notes region) (length (posted_to (logged notes) region)) old rang in
        let now : HasCounts new (consumed rules (Head region slot ∷ notes) region) (length (posted_to (logged notes) region)) =
        subst (λ (n : ℕ). HasCounts new n (length (posted_to (logged notes) region)))
        (ap (λ (n : ℕ). consumed rules notes region + gap n (consumed rules notes region % n) slot) cq_are ∙ sym (head_consumed rules notes region slot)) read in
        record {
          region = region;
          is_open = head_open;
          stands = record {
            content = s.content;
            items = s.items;
            holds = s.holds;
            numbers = cq_ring-numbers c slots s.content cqid region new s.numbers cq_life_is same;
            has = cq_ring-items c slots s.content cqid region new s.numbers cq_life_is s.items s.has;
            doorbells = cq_ring-doorbells c slots s.content cqid region new s.numbers cq_life_is rules notes slot head_open same now s.doorbells;
            tags = record {
              untaken_are = s.tags.untaken_are;
              held = s.tags.held;
              through = s.tags.through;
              unanswered = s.tags.unanswered;
              hand_entries = s.tags.hand_entries;
              free_count = s.tags.free_count;
              cookies = cookies_later notes (Head region slot ∷ notes) slots s.items (λ r i. refl) (λ r. refl) s.tags.cookies;
              passed = passed_later notes (Head region slot ∷ notes) s.items (λ i. refl) refl (λ i waits. waits) s.tags.passed;
              flagged = s.tags.flagged;
            };
            shown = record { held = s.shown.held; classed = s.shown.classed };
            ordered = s.ordered;
            regions = record { sqs = s.regions.sqs; cqs = s.regions.cqs };
            account = λ on_time. (let a = s.account on_time in record { each = (head, a.each); lawful = a.lawful; effects_whole = a.effects_whole });
          };
        }

-- what is told of any queue
pub head_told : (rules : FrontRules) (late : Bool) (notes : Notes) (c : Controller) (slots : List Slot) (s : StandsAt rules late notes c slots) (cqid slot : ℕ) (rung : Bool)
    → HeadAnswer (cq_at c.cqs cqid).ring slot rung → (rung ≡ true → slot < (cq_at c.cqs cqid).ring.slots) → IsTrue rung ↔ IsHeadOf rules notes cqid slot
head_told rules late notes c slots s cqid slot rung answer is_slot = elim (cases_lt 0 (cq_at c.cqs cqid).ring.slots) [
  | inl some ↦
      let l = ring_cq_lives rules late notes c slots s cqid some in
      head_answer rules late notes c slots s cqid slot l.region (sym (s.holds.queues.cqs cqid) ∙ sym (s.holds.lives.cqs cqid) ∙ l.life) rung answer is_slot
  | inr none ↦ (
    λ rang. absurd (let below = is_slot rang in omega (arith, below, none)),
    λ head. absurd (let w = s.numbers.cqs.each cqid head.region (cq_lives rules late notes c slots s cqid head.region head.is_open) in omega (arith, w.slots, w.some, none)),
  )
]

-- ---- either way
-- a controller whose call noted what is lawful, or changed nothing, stands at some log
pub front_either : (b : Bool) (old new : Controller) (slots : List Slot) → (b ≡ true → IsController new slots) → (b ≡ false → new ≡ old) → IsController old slots → IsController new slots
front_either true old new slots rung refused front = rung refl
front_either false old new slots rung refused front = subst (λ (c : Controller). IsController c slots) (sym (refused refl)) front

pub has_none : {A : Type 0} (o : Option A) → is_some o ≡ false → o ≡ None
has_none None is = refl
has_none (Some a) is = absurd (cc is)
