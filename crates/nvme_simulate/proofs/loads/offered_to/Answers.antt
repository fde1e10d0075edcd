use Rattle.std.proofs.Common.{◌≡◌, ◌+◌, [], ◌∷◌, ◌++◌, ap, map, sym, take, ◌∙◌}
use Rattle.std.proofs.lemmas.List.{map_more}
use Rattle.nvme_model_form.specs.Views.{asking_of}
use Rattle.nvme_simulate.specs.Loads.{offered_in}
use Rattle.nvme_simulate.proofs.Totals.{offered_with, offered_without}
use Rattle.nvme_simulate.proofs.loads.offered_to.Goals as goal
use Rattle.nvme_simulate.proofs.loads.offered_to.Goals.{in-Some, in_default}

pub loop-queue-preserved : goal.loop-queue-preserved
loop-queue-preserved c =
    let items = c.deref-queue-items.result.now in
    let at = c.loop-queue.queue-index in
    let queue = c.queue-item.result in
    let past = map asking_of (take at items) in
    let more : past ++ asking_of queue ∷ [] ≡ map asking_of (take (at + 1) items) =
    ap (λ q. past ++ asking_of q ∷ []) c.queue-item.is ∙ sym (map_more asking_of items at queue c.loop-queue-test.true) in
    let new : c.match-offered_by.sum ≡ offered_in c.args.parts (past ++ asking_of queue ∷ []) =
    elim c.match-offered_by.branch [
      | in-Some w ↦ offered_with c.args.parts past (asking_of queue) c.loop-queue.sum c.match-offered_by.sum w.unwrap_or.result w.in-Some.offered w.saturating_add.result
          c.loop-queue.invariant w.in-Some.ensures w.unwrap_or.ensures w.saturating_add.ensures w.sum-is
      | in_default w ↦ offered_without c.args.parts past (asking_of queue) c.loop-queue.sum c.match-offered_by.sum c.loop-queue.invariant
          (sym c.offered_by.ensures ∙ w.in_default.is) w.sum-is
    ] in
    new ∙ ap (offered_in c.args.parts) more
