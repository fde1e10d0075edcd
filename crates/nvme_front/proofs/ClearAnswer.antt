-- Whether a front is clear, by its engine, or before both admin regions are there.
use Rattle.std.proofs.Common.{◌≡◌, ℕ, zero, suc, ◌<◌, ◌==◌, Bool, false, List, [], refl, sym, subst, arith}
use Rattle.std.specs.Prelude.{reverse, ◌↔◌, IsTrue}
use Rattle.nvme_log.specs.declared.event.Event.{Event}
use Rattle.nvme_log.specs.Rules.{FrontRules, Past}
use Rattle.nvme_log.specs.Account.{IsClear}
use Rattle.nvme_ctrl_log.specs.Notes.{Notes, logged}
use Rattle.nvme_engine.specs.Standing.{StandsAt}
use Rattle.nvme_front.specs.declared.state.FrontState.{FrontState}
use Rattle.nvme_front.specs.inside.State.{past_of}
use Rattle.nvme_front.specs.inside.Room.{IsConsistent}
use Rattle.nvme_front.specs.inside.Goes.{HasAdmin}

-- before the first event a front is clear
first_clear : IsClear []
first_clear = record { none_waits = λ r. refl; all_posted = λ r. refl; none_pending = refl }

-- a list of which it was told that it isn't empty has an item
pub some_items : (n m : ℕ) (b : Bool) → b ≡ (n == 0) → b ≡ false → n ≡ m → 0 < m
some_items zero m b is none same = absurd (cc (is, none))
some_items (suc n) m b is none same = omega (arith, same)

module _ (s : FrontState) (kept : IsConsistent s) where
  -- where the engine waits for a region
  pub clear_without : (HasAdmin s → ⊥) → IsClear (past_of s)
  clear_without none = subst (λ (z : List Event). IsClear (reverse z)) (sym (kept.fresh none).log) first_clear

  -- where it began
  pub clear_answer : HasAdmin s → (b : Bool) → ((rules : FrontRules) (late : Bool) (notes : Notes) → StandsAt rules late notes s.engine → IsTrue b ↔ IsClear (logged notes))
      → IsTrue b ↔ IsClear (past_of s)
  clear_answer admin b is =
      let k = kept.running admin in subst (λ (p : Past). IsTrue b ↔ IsClear p) k.past_is (is _ _ k.notes k.stands)
