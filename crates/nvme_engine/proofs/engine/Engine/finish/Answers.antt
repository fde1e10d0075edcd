-- What is finished is the pending deletion.
use Rattle.std.proofs.Common.{◌≡◌, ℕ, Bool, List, length, Option, Some, None, refl, sym, ap, ◌∙◌, subst}
use Rattle.std.specs.Prelude.{IfSome}
use Rattle.nvme_log.specs.Rules.{FrontRules}
use Rattle.nvme_log.specs.Queues.{Deletion, pending}
use Rattle.nvme_log.specs.Completions.{unposted_of}
use Rattle.nvme_ctrl_log.specs.Notes.{Notes, logged}
use Rattle.nvme_ctrl.specs.Standing.{Stands}
use Rattle.nvme_ctrl.specs.Steps.{HasFinished}
use Rattle.nvme_slots.specs.declared.slot.Slot.{Slot}
use Rattle.nvme_engine.specs.Standing.{StandsAt}
use Rattle.nvme_engine.specs.Calls as engine
use Rattle.nvme_engine.proofs.Calls.{written, leaves, stands_written}
use Rattle.nvme_engine.proofs.Ends.{has_finished}
use Rattle.nvme_engine.proofs.Serving.{none_finishes}
use Rattle.nvme_engine.proofs.engine.Engine.finish.Goals as goal

pub returns : goal.returns
returns c = record { stands = λ rules late notes d s is posted. finished rules late notes d s is posted } where
  finished : (rules : FrontRules) (late : Bool) (notes : Notes) (d : Deletion) → StandsAt rules late notes c.args.self.now → pending (logged notes) ≡ Some d
      → unposted_of (logged notes) d.region ≡ 0 → engine.HasFinished rules late notes d (written c.args.self.now c.finish.new.self c.finish.new.slots)
  finished rules late notes d s is posted = by c.finish.result refl where
    old : Stands s.their s.their_late notes c.args.self.now.controller c.deref_mut.result.now
    old = subst (λ (xs : List Slot). Stands s.their s.their_late notes c.args.self.now.controller xs) (sym c.deref_mut.ensures.value) s.stands

    size : length c.finish.new.slots ≡ length c.args.self.now.slots.items
    size = c.finish.ensures.size ∙ ap (λ (xs : List Slot). length xs) c.deref_mut.ensures.value

    by : (o : Option ℕ) → c.finish.result ≡ o → engine.HasFinished rules late notes d (written c.args.self.now c.finish.new.self c.finish.new.slots)
    by None none = absurd (none_finishes rules late notes c.args.self.now s (c.finish.ensures.told s.their s.their_late notes old none) d is posted)
    by (Some qid) some =
        let t : HasFinished s.their s.their_late notes qid c.finish.new.self c.finish.new.slots =
        subst (λ (o : Option ℕ). IfSome o (λ (q : ℕ). HasFinished s.their s.their_late notes q c.finish.new.self c.finish.new.slots)) some (c.finish.ensures.stands s.their s.their_late notes old) in
        has_finished rules late notes c.args.self.now s d is posted (written c.args.self.now c.finish.new.self c.finish.new.slots)
        (leaves c.args.self.now c.finish.new.self c.finish.new.slots c.finish.ensures.depths c.finish.ensures.own size) qid t.region t.index t.deletes t.named
        (stands_written s.their s.their_late _ c.args.self.now c.finish.new.self c.finish.new.slots size t.stands)
