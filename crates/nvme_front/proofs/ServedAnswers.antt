-- Whether a region of a front is served, by its engine, or before both admin regions are there.
use Rattle.std.proofs.Common.{◌≡◌, ℕ, zero, suc, ◌<◌, ◌≤◌, ◌==◌, ◌&&◌, ◌||◌, Bool, false, nat_lt, List, [], length, refl, sym, ap, ◌∙◌, arith, lt-ltb}
use Rattle.std.specs.Prelude.{reverse}
use Rattle.std.proofs.lemmas.Bool.{le-ltb, ne_eqb}
use Rattle.nvme_log.specs.declared.event.Event.{Event}
use Rattle.nvme_log.specs.Rules.{FrontRules, Past}
use Rattle.nvme_log.specs.Queues.{is_serving}
use Rattle.nvme_ctrl_log.specs.Notes.{Notes, logged}
use Rattle.nvme_engine.specs.Standing.{StandsAt}
use Rattle.nvme_front.specs.declared.state.FrontState.{FrontState}
use Rattle.nvme_front.specs.inside.State.{past_of}
use Rattle.nvme_front.specs.inside.Room.{IsConsistent}

-- before the first event just the admin queue is open
first_serving : (r : ℕ) → (r == 0) ≡ is_serving [] r
first_serving zero = refl
first_serving (suc r) =
    ne_eqb (suc r) 0 (λ e. omega (arith, e)) ∙ sym (ap (λ (b : Bool). (b || false) || false) (ne_eqb 0 (suc r) (λ e. omega (arith, e))))

module _ (s : FrontState) (kept : IsConsistent s) (r : ℕ) where
  -- where the region is there
  there_answer : r < length s.sqs.items → (b : Bool) → b ≡ is_serving (past_of s) r → b ≡ (nat_lt r (length s.sqs.items) && is_serving (past_of s) r)
  there_answer there b is = is ∙ sym (ap (λ (x : Bool). x && is_serving (past_of s) r) (lt-ltb r (length s.sqs.items) there))

  -- where there is no such region
  pub no_region_answer : length s.sqs.items ≤ r → false ≡ (nat_lt r (length s.sqs.items) && is_serving (past_of s) r)
  no_region_answer past = sym (ap (λ (x : Bool). x && is_serving (past_of s) r) (le-ltb r (length s.sqs.items) past))

  -- where the engine waits for a completion region
  pub waiting_answer : r < length s.sqs.items → length s.cqs.items ≡ 0 → (r == 0) ≡ (nat_lt r (length s.sqs.items) && is_serving (past_of s) r)
  waiting_answer there none =
      let fresh = kept.fresh (λ admin. omega (arith, admin.1, none)) in
      there_answer there (r == 0) (first_serving r ∙ ap (λ (z : List Event). is_serving (reverse z) r) (sym fresh.log))

  -- where it began
  pub engine_answer : r < length s.sqs.items → 0 < length s.cqs.items → (b : Bool)
      → ((rules : FrontRules) (late : Bool) (notes : Notes) → StandsAt rules late notes s.engine → b ≡ is_serving (logged notes) r)
      → b ≡ (nat_lt r (length s.sqs.items) && is_serving (past_of s) r)
  engine_answer there some b is =
      let k = kept.running (omega (arith, there), some) in
      there_answer there b (is _ _ k.notes k.stands ∙ ap (λ (p : Past). is_serving p r) k.past_is)
