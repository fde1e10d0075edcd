-- What the next post tells of its completion queue and its command.
use Rattle.std.proofs.Common.{◌≡◌, ◌≢◌, ℕ, ◌+◌, ◌<◌, ◌≤◌, ◌==◌, ◌||◌, Bool, true, false, if◌then◌else◌, List, [], ◌∷◌, Option, Some, None, refl, sym, subst, arith, inl, inr}
use Rattle.std.specs.Prelude.{◌⊎◌}
use Rattle.std.proofs.lemmas.Bool.{eqb-true, eqb-false, leb-true, leb-false}
use Rattle.std.proofs.lemmas.Option.{same_Some}
use Rattle.nvme_ctrl_log.specs.Doorbells.{gap}
use Rattle.nvme_ctrl.specs.Posts.{IsPostOf, completion_of, is_full, first_post, post_in, next_post_of}
use Rattle.nvme_ctrl.specs.declared.posts.Post.{Post}
use Rattle.nvme_slots.specs.declared.ring.Ring.{Ring}
use Rattle.nvme_slots.specs.declared.slot.Slot.{Slot}
use Rattle.nvme_ctrl.specs.declared.state.CqState.{CqState}
use Rattle.nvme_ctrl.specs.declared.state.Controller.{Controller}
use Rattle.nvme_slots.specs.Pool.{slot_at, flags_in, IsChain}
use Rattle.nvme_ctrl.specs.kept.State.{cq_at}
use Rattle.nvme_ctrl.specs.kept.QueueSets.{has_queue}
use Rattle.nvme_slots.proofs.Pools.{linked-head}

-- a ring is full where it has no slot free
full-true : (ring : Ring) → is_full ring ≡ true → ring.slots ≤ gap ring.slots ring.head ring.tail + 1
full-true ring h = leb-true ring.slots (gap ring.slots ring.head ring.tail + 1) h

full-false : (ring : Ring) → is_full ring ≡ false → gap ring.slots ring.head ring.tail + 1 < ring.slots
full-false ring h = leb-false ring.slots (gap ring.slots ring.head ring.tail + 1) h

-- there is a next post: a slot of the ring is free, and a command is ready
pub record IsPostable (c : Controller) (slots : List Slot) (cq : CqState) (p : Post) : Type 0 where
  pub room : gap cq.ring.slots cq.ring.head cq.ring.tail + 1 < cq.ring.slots
  pub some : cq.ready.len ≢ 0
  pub post_is : p ≡ first_post c slots cq

pub postable : (c : Controller) (slots : List Slot) (cq : CqState) (p : Post) → Some p ≡ post_in c slots cq → IsPostable c slots cq p
postable c slots cq p h = by (is_full cq.ring) (cq.ready.len == 0) refl refl h where
  by : (full none : Bool) → is_full cq.ring ≡ full → (cq.ready.len == 0) ≡ none → Some p ≡ (if full || none then None else Some (first_post c slots cq)) → IsPostable c slots cq p
  by true none f n e = cc e
  by false true f n e = cc e
  by false false f n e = record {
    room = full-false cq.ring f;
    some = eqb-false cq.ready.len 0 n;
    post_is = same_Some p (first_post c slots cq) e;
  }

-- there is one in a queue that is in the set of those that may have ready completions, or there is none for it isn't in it
some_in : (b : Bool) (o : Option Post) (p : Post) → Some p ≡ (if b then o else None) → Some p ≡ o
some_in true o p h = h
some_in false o p h = cc h

pub some_is_in : (c : Controller) (slots : List Slot) (cqid : ℕ) (p : Post) → Some p ≡ next_post_of c slots cqid → Some p ≡ post_in c slots (cq_at c.cqs cqid)
some_is_in c slots cqid p h = some_in (has_queue c.readied cqid) _ p h

none_out : (b : Bool) (o : Option Post) → (if b then o else None) ≡ None → (b ≡ false) ⊎ (o ≡ None)
none_out true o h = inr h
none_out false o h = inl refl

pub none_is_out : (c : Controller) (slots : List Slot) (cqid : ℕ) → next_post_of c slots cqid ≡ None → (has_queue c.readied cqid ≡ false) ⊎ (post_in c slots (cq_at c.cqs cqid) ≡ None)
none_is_out c slots cqid h = none_out (has_queue c.readied cqid) _ h

-- it is that of the command in its slot
pub by_command : (c : Controller) (slots : List Slot) (cq : CqState) (p : Post) → p ≡ first_post c slots cq
    → p ≡ record { slot = cq.ring.tail; cqe = p.cqe; tag = p.tag; cookie = (slot_at slots p.tag).cookie; flags = flags_in (slot_at slots p.tag) }
by_command c slots cq p is =
    subst (λ (q : Post). q ≡ record { slot = cq.ring.tail; cqe = q.cqe; tag = q.tag; cookie = (slot_at slots q.tag).cookie; flags = flags_in (slot_at slots q.tag) }) (sym is) refl

pub entry_by_command : (c : Controller) (slots : List Slot) (cq : CqState) (p : Post) → p ≡ first_post c slots cq
    → p.cqe ≡ completion_of c (slot_at slots p.tag) (cq.phase == 1)
entry_by_command c slots cq p is = subst (λ (q : Post). q.cqe ≡ completion_of c (slot_at slots q.tag) (cq.phase == 1)) (sym is) refl

pub post_of_command : (c : Controller) (slots : List Slot) (cq : CqState) (p : Post) → p ≡ first_post c slots cq → IsPostOf (slot_at slots p.tag) p.cqe p.cookie p.flags
post_of_command c slots cq p is =
    subst (λ (q : Post). IsPostOf (slot_at slots q.tag) q.cqe q.cookie q.flags) (sym is) (record { cid = refl; dw0 = refl; cookie_is = refl; flags_are = refl })

-- there is none: no slot is free, or no command is ready
pub not_postable : (c : Controller) (slots : List Slot) (cq : CqState) → post_in c slots cq ≡ None
    → (cq.ring.slots ≤ gap cq.ring.slots cq.ring.head cq.ring.tail + 1) ⊎ (cq.ready.len ≡ 0)
not_postable c slots cq h = by (is_full cq.ring) (cq.ready.len == 0) refl refl h where
  by : (full none : Bool) → is_full cq.ring ≡ full → (cq.ready.len == 0) ≡ none → (if full || none then None else Some (first_post c slots cq)) ≡ None
      → (cq.ring.slots ≤ gap cq.ring.slots cq.ring.head cq.ring.tail + 1) ⊎ (cq.ready.len ≡ 0)
  by true none f n e = inl (full-true cq.ring f)
  by false true f n e = inr (eqb-true cq.ready.len 0 n)
  by false false f n e = cc e

-- a chain has a slot where it isn't empty, and the first one is its first
pub chain-some : (slots : List Slot) (cq : CqState) → cq.ready.len ≢ 0 → IsChain slots cq.ready [] → ⊥
chain-some slots cq some h = some h.len_is

pub chain-none : (slots : List Slot) (cq : CqState) → cq.ready.len ≡ 0 → (y : ℕ) (rest : List ℕ) → IsChain slots cq.ready (y ∷ rest) → ⊥
chain-none slots cq none y rest h = (let len = h.len_is in omega (arith, len, none))

pub chain-first : (slots : List Slot) (cq : CqState) (y : ℕ) (rest : List ℕ) → IsChain slots cq.ready (y ∷ rest) → y ≡ cq.ready.first
chain-first slots cq y rest h = sym (linked-head slots cq.ready.first cq.ready.last y rest h.linked)
