-- After a post the numbers of a controller are those of its content, and its rings go by the doorbells.
use Rattle.std.proofs.Common.{◌≡◌, ◌≢◌, ℕ, ◌+◌, ◌-◌, ◌<◌, ◌==◌, Bool, true, false, not, if◌then◌else◌, [], ◌∷◌, length, Option, Some, None, ◌||◌, refl, sym, ap, ◌∙◌, subst, arith, length-append}
use Rattle.std.proofs.lemmas.Bool.{eq-eqb, eqb-true, ne_eqb, or_left, or_right}
use Rattle.std.proofs.lemmas.List.{length-set}
use Rattle.nvme_log.specs.Places.{fetched, one_if}
use Rattle.nvme_log.specs.Completions.{posted_to, phase_after}
use Rattle.nvme_ctrl_log.specs.Doorbells.{submitted, consumed}
use Rattle.nvme_slots.specs.Rings.{HasCounts}
use Rattle.nvme_ctrl.specs.declared.state.SqState.{SqState}
use Rattle.nvme_ctrl_content.specs.Content.{SqContent, CqContent}
use Rattle.nvme_ctrl.specs.kept.State.{no_sq_state, no_cq_state, sq_at, cq_at}
use Rattle.nvme_ctrl.specs.kept.Kept.{ready_state, readies_of, HasNumbers, HoldsDoorbells, shown_in}
use Rattle.nvme_ctrl.proofs.QueueStates.{sq_changed}
use Rattle.nvme_ctrl_content.proofs.AfterSteps.{posted_cq}
use Rattle.nvme_ctrl.proofs.Lives.{put_sq-lives, put_cq-lives, put_sq-states, put_cq-states}
use Rattle.nvme_ctrl.proofs.SlotItems.{at_put}
use Rattle.nvme_log.specs.declared.event.Event.TheVariants.{OpenCq, ClosedCq}
use Rattle.nvme_log.specs.Rules.{Past}
use Rattle.nvme_log.specs.Queues.{open_cq}
use Rattle.nvme_ctrl_log.specs.Regions.{is_opened_cq}
use Rattle.nvme_slots.specs.declared.ring.Ring.{Ring}
use Rattle.std.proofs.lemmas.Option.{same_Some}
use Rattle.nvme_slots.proofs.Turns.{filled-is}
use Rattle.nvme_ctrl.proofs.PostCall.{PostCall, content, past_of, command, region, cqe_of, later, notes_after, content_after, sq_after, controller_after, ready_in, life_is, sqs_have, cqs_have}
use Rattle.nvme_ctrl.proofs.QueueSets.{rung-kept, readied-put, not_false}

-- ---- the states of submission queues, with the content of their regions
-- what isn't counted by a post is left
pub record IsSqLeft (old state : SqState) (before after : SqContent) : Type 0 where
  pub ring : state.ring ≡ old.ring
  pub window : state.window ≡ old.window
  pub cqid : state.cqid ≡ old.cqid
  pub held : state.held ≡ old.held
  pub closing : state.closing ≡ old.closing
  pub queue : after.queue ≡ before.queue
  pub slots : after.slots ≡ before.slots
  pub unposted : state.unposted ≡ after.unposted

pub sq_left : (p : PostCall) (q r : ℕ) → (content p).sq_life q ≡ Some r
    → IsSqLeft (sq_at p.c.sqs q) (sq_at (controller_after p).sqs q) ((content p).sq r) ((content_after p).sq r)
sq_left p =
    let h = p.stands.numbers in
    let r : ℕ = region p in
    let q : ℕ = (command p).sqid in
    let sq_new : SqContent = record ((content p).sq r) { unposted = ((content p).sq r).unposted - 1 } in
    put_sq-lives (λ y x state s (more : Bool). IsSqLeft (sq_at p.c.sqs y) state ((content p).sq x) s) (content p).sq_life (content p).sq_id h.sqs.ids p.c.sqs (content p).sq (λ x. true) q r
    (sq_after p.c q) sq_new true (life_is p) (sqs_have p)
    (record { ring = refl; window = refl; cqid = refl; held = refl; closing = refl; queue = refl; slots = refl; unposted = ap (λ (n : ℕ). n - 1) (h.sqs.each q r (life_is p)).unposted })
    (λ y x other apart life. record { ring = refl; window = refl; cqid = refl; held = refl; closing = refl; queue = refl; slots = refl; unposted = (h.sqs.each y x life).unposted })

-- the queue that a region was opened for is left
pub queue_left : (p : PostCall) (r : ℕ) → ((content_after p).sq r).queue ≡ ((content p).sq r).queue
queue_left p = at_put (λ r (s : SqContent). s.queue ≡ ((content p).sq r).queue) (content p).sq (region p) (record ((content p).sq (region p)) { unposted = ((content p).sq (region p)).unposted - 1 })
    refl (λ r other. refl)

-- one that is open was opened
opened_later : (b : Bool) (region x : ℕ) (o : Option ℕ) (rest : Bool) → (if b then Some region else o) ≡ Some x → (o ≡ Some x → rest ≡ true) → (region == x || rest) ≡ true
opened_later true region x o rest is earlier = or_left (region == x) rest (eq-eqb region x (same_Some region x is))
opened_later false region x o rest is earlier = or_right (region == x) rest (earlier is)

closed_later : (b : Bool) (x : ℕ) (o : Option ℕ) (rest : Bool) → (if b then None else o) ≡ Some x → (o ≡ Some x → rest ≡ true) → rest ≡ true
closed_later true x o rest is earlier = cc is
closed_later false x o rest is earlier = earlier is

pub open_is_opened : (past : Past) (q x : ℕ) → open_cq past q ≡ Some x → is_opened_cq past x ≡ true
open_is_opened [] q x is = by (q == 0) is where
  by : (b : Bool) → (if b then Some 0 else None) ≡ Some x → (x == 0) ≡ true
  by true h = eq-eqb x 0 (sym (same_Some 0 x h))
  by false h = cc h
open_is_opened (OpenCq qid region ∷ past) q x is = opened_later (qid == q) region x (open_cq past q) (is_opened_cq past x) is (open_is_opened past q x)
open_is_opened (ClosedCq qid region ∷ past) q x is = closed_later (qid == q) x (open_cq past q) (is_opened_cq past x) is (open_is_opened past q x)
open_is_opened (e ∷ past) q x is = open_is_opened past q x is

-- ---- numbers
-- one less is outstanding, unless the command was aborted with its queue
outstanding_by : (out with_queue : Bool) (state n m : ℕ) → n ≡ m → state ≡ ready_state out with_queue → (out ≡ true → with_queue ≡ false)
    → (if state == 5 then n else n - 1) ≡ m - one_if (not with_queue)
outstanding_by true true state n m same is apart = absurd (cc (apart refl))
outstanding_by true false state n m same is apart = rw is (ap (λ (z : ℕ). z - 1) same)
outstanding_by false true state n m same is apart = rw is (omega (arith, same))
outstanding_by false false state n m same is apart = rw is (ap (λ (z : ℕ). z - 1) same)

pub numbers_after : (p : PostCall) → HasNumbers (controller_after p) (content_after p)
numbers_after p =
    let h = p.stands.numbers in
    let i = ready_in p in
    let cq_new : CqContent = posted_cq ((content p).cq p.x) (readies_of p.rest) (cqe_of p) in
    record {
      tells = h.tells;
      board_is = h.board_is;
      is_arbiter = h.is_arbiter;
      outstanding_is = outstanding_by p.item.was_out p.item.ready.with_queue _ _ _ h.outstanding_is i.state i.not_both;
      sqs = record {
        ids = h.sqs.ids;
        each = λ q r life. let w = h.sqs.each q r life in let l = sq_left p q r life in
            sq_changed (content p).table (content p).cq_life q r (sq_at p.c.sqs q) (sq_at (controller_after p).sqs q) ((content p).sq r) ((content_after p).sq r) ((content p).held r) ((content p).held r)
            (shown_in (content p).board q) (shown_in (content p).board q) w l.cqid (ap (λ (ring : Ring). ring.slots) l.ring) l.unposted l.queue l.slots (ap (λ (n : ℕ). n == 1) l.held ∙ w.held)
            (ap (λ (n : ℕ). n == 0) l.closing ∙ w.shown);
        few = h.sqs.few;
        none = λ q none. put_sq-states (λ y state. (content p).sq_life y ≡ None → state ≡ no_sq_state) p.c.sqs (command p).sqid (sq_after p.c (command p).sqid) (sqs_have p)
            (λ no. absurd (let life = life_is p in cc (no, life))) q (λ other no. h.sqs.none q no) none;
        size = length-set p.c.sqs (command p).sqid (sq_after p.c (command p).sqid) ∙ h.sqs.size;
        rung = rung-kept p.c.rung (command p).sqid p.c.sqs (sq_after p.c (command p).sqid) (sqs_have p) h.sqs.rung (λ same. same);
      };
      cqs = record {
        ids = h.cqs.ids;
        each = λ q x life. let both = cqs_after q x life in record { slots = both.0; some = both.1 };
        few = h.cqs.few;
        none = λ q none. put_cq-states (λ y state. (content p).cq_life y ≡ None → state ≡ no_cq_state) p.c.cqs p.cqid p.cq (cqs_have p)
            (λ no. absurd (let life = p.life in cc (no, life))) q (λ other no. h.cqs.none q no) none;
        size = length-set p.c.cqs p.cqid p.cq ∙ h.cqs.size;
        readied = readied-put p.c.readied p.cqid (not (p.cq.ready.len == 0)) p.c.cqs p.cq (cqs_have p) h.cqs.readied (λ none. eqb-true p.cq.ready.len 0 (not_false (p.cq.ready.len == 0) none));
      };
    } where
      cqs_after : (q x : ℕ) → (content p).cq_life q ≡ Some x → ((cq_at (controller_after p).cqs q).ring.slots ≡ ((content_after p).cq x).slots) × (0 < ((content_after p).cq x).slots)
      cqs_after =
          let h = p.stands.numbers in
          put_cq-lives (λ y x state s (more : Bool). (state.ring.slots ≡ s.slots) × (0 < s.slots)) (content p).cq_life (content p).cq_id h.cqs.ids p.c.cqs (content p).cq (λ x. true) p.cqid p.x
          p.cq (posted_cq ((content p).cq p.x) (readies_of p.rest) (cqe_of p)) true p.life (cqs_have p)
          (p.did.same_slots ∙ (h.cqs.each p.cqid p.x p.life).slots, (h.cqs.each p.cqid p.x p.life).some)
          (λ y x other apart life. ((h.cqs.each y x life).slots, (h.cqs.each y x life).some))

-- ---- doorbells
pub counts_before : (p : PostCall) → HasCounts (cq_at p.c.cqs p.cqid).ring (consumed p.rules p.notes p.x) (length (posted_to (past_of p) p.x))
counts_before p = p.stands.doorbells.cqs.each p.cqid p.x p.life

pub has_room : (p : PostCall) → length (posted_to (past_of p) p.x) + 1 < consumed p.rules p.notes p.x + (cq_at p.c.cqs p.cqid).ring.slots
has_room p = omega (arith, filled-is (cq_at p.c.cqs p.cqid).ring (consumed p.rules p.notes p.x) (length (posted_to (past_of p) p.x)) (counts_before p), p.did.room)

-- one completion more is posted to it, and none to another
posted_here : (p : PostCall) → length (posted_to (past_of p) p.x) + 1 ≡ length (posted_to (later p) p.x)
posted_here p = rw (eq-eqb p.x p.x refl) (sym (length-append (posted_to (past_of p) p.x) (cqe_of p ∷ [])))

posted_there : (p : PostCall) (y : ℕ) → y ≢ p.x → length (posted_to (past_of p) y) ≡ length (posted_to (later p) y)
posted_there p y other = rw (ne_eqb p.x y (λ e. other (sym e))) refl

pub doorbells_after : (p : PostCall) → HoldsDoorbells p.rules (notes_after p) (controller_after p) (content_after p)
doorbells_after p = record {
  sqs = record {
    each = λ q r life. subst (λ (ring : Ring). HasCounts ring (length (fetched (past_of p) r)) (submitted p.rules p.notes r)) (sym (sq_left p q r life).ring) (p.stands.doorbells.sqs.each q r life);
    no_tails = λ r none. p.stands.doorbells.sqs.no_tails r (sym (queue_left p r) ∙ none);
  };
  cqs = record {
    each = put_cq-lives (λ y x state s (more : Bool). HasCounts state.ring (consumed p.rules p.notes x) (length (posted_to (later p) x))) (content p).cq_life (content p).cq_id p.stands.numbers.cqs.ids
        p.c.cqs (content p).cq (λ x. true) p.cqid p.x p.cq ((content p).cq p.x) true p.life (cqs_have p)
        counts (λ y x other apart life. subst (HasCounts (cq_at p.c.cqs y).ring (consumed p.rules p.notes x)) (posted_there p x apart) (p.stands.doorbells.cqs.each y x life));
    phases = put_cq-lives (λ y x state s (more : Bool). (state.phase == 1) ≡ phase_after (length (posted_to (later p) x)) state.ring.slots) (content p).cq_life (content p).cq_id p.stands.numbers.cqs.ids
        p.c.cqs (content p).cq (λ x. true) p.cqid p.x p.cq ((content p).cq p.x) true p.life (cqs_have p)
        phase (λ y x other apart life. p.stands.doorbells.cqs.phases y x life ∙ ap (λ (n : ℕ). phase_after n (cq_at p.c.cqs y).ring.slots) (posted_there p x apart));
    no_heads = p.stands.doorbells.cqs.no_heads;
    no_posts = λ x none.
        rw (ne_eqb p.x x (λ e. absurd (let opened = open_is_opened (past_of p) p.cqid p.x (sym (p.stands.holds.lives.cqs p.cqid) ∙ p.life) in
        let unopened : is_opened_cq (past_of p) p.x ≡ false = ap (is_opened_cq (past_of p)) e ∙ none in cc (opened, unopened)))) (p.stands.doorbells.cqs.no_posts x none);
  };
} where
  counts : HasCounts p.cq.ring (consumed p.rules p.notes p.x) (length (posted_to (later p) p.x))
  counts = subst (HasCounts p.cq.ring (consumed p.rules p.notes p.x)) (posted_here p)
      (p.did.counts (consumed p.rules p.notes p.x) (length (posted_to (past_of p) p.x)) (counts_before p) (has_room p))

  phase : (p.cq.phase == 1) ≡ phase_after (length (posted_to (later p) p.x)) p.cq.ring.slots
  phase =
      p.did.phase (consumed p.rules p.notes p.x) (length (posted_to (past_of p) p.x)) (counts_before p) (has_room p) (p.stands.doorbells.cqs.phases p.cqid p.x p.life)
      ∙ (λ j. phase_after (posted_here p j) (sym p.did.same_slots j))
