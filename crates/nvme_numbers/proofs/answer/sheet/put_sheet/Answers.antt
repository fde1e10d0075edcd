use Rattle.std.proofs.Common.{◌++◌}
use Rattle.std.specs.List.{flat_map}
use Rattle.nvme_cells.specs.Rows.{csv_names, csv_values}
use Rattle.nvme_output.proofs.Writing.{fails_first, writes_then}
use Rattle.nvme_numbers.specs.Sheets.{line_of_all, line_of_class, line_of_queue, placed}
use Rattle.nvme_numbers.proofs.answer.sheet.put_sheet.Goals as goal

pub returns-in_err-put_queues : goal.returns-in_err-put_queues
returns-in_err-put_queues g c =
    let a = c.args.answer.now in
    let queues = placed (λ place m. csv_values (line_of_queue a place m)) 0 a.queues.items in
    let others = flat_map (λ m. csv_values (line_of_class a m)) a.classes.items ++ csv_values (line_of_all a) in
    writes_then _ _ _ c.from_residual-in_err-put_queues.result (csv_names (line_of_all a)) (queues ++ others) c.in_ok-put_all.ensures
    (fails_first _ _ c.from_residual-in_err-put_queues.result queues others c.from_residual-in_err-put_queues.ensures.0 (rw c.deref.ensures.value at c.in_err-put_queues.ensures))

pub returns-in_err-put_classes : goal.returns-in_err-put_classes
returns-in_err-put_classes g c =
    let a = c.args.answer.now in
    let queues = placed (λ place m. csv_values (line_of_queue a place m)) 0 a.queues.items in
    let classes = flat_map (λ m. csv_values (line_of_class a m)) a.classes.items in
    let all = csv_values (line_of_all a) in
    writes_then _ _ _ c.from_residual-in_err-put_classes.result (csv_names (line_of_all a)) (queues ++ (classes ++ all)) c.in_ok-put_all.ensures
    (writes_then _ _ _ c.from_residual-in_err-put_classes.result queues (classes ++ all) (rw c.deref.ensures.value at c.in_ok-put_queues.ensures)
    (fails_first _ _ c.from_residual-in_err-put_classes.result classes all c.from_residual-in_err-put_classes.ensures.0 (rw c.deref-2.ensures.value at c.in_err-put_classes.ensures)))

pub returns : goal.returns
returns g c =
    let a = c.args.answer.now in
    let queues = placed (λ place m. csv_values (line_of_queue a place m)) 0 a.queues.items in
    let classes = flat_map (λ m. csv_values (line_of_class a m)) a.classes.items in
    let all = csv_values (line_of_all a) in
    writes_then _ _ _ c.put_all-2.result (csv_names (line_of_all a)) (queues ++ (classes ++ all)) c.in_ok-put_all.ensures
    (writes_then _ _ _ c.put_all-2.result queues (classes ++ all) (rw c.deref.ensures.value at c.in_ok-put_queues.ensures)
    (writes_then _ _ _ c.put_all-2.result classes all (rw c.deref-2.ensures.value at c.in_ok-put_classes.ensures) c.put_all-2.ensures))
