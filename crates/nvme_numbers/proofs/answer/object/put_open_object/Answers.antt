use Rattle.std.proofs.Common.{◌++◌}
use Rattle.nvme_output.proofs.Writing.{fails_first, writes_then}
use Rattle.nvme_numbers.specs.Objects.{about_text, all_text, channels_text, classes_text, device_text, fairness_text, queues_text, utilization_text}
use Rattle.nvme_numbers.proofs.answer.object.put_open_object.Goals as goal

pub returns-in_err-put_about : goal.returns-in_err-put_about
returns-in_err-put_about g c =
    let a = c.args.answer.now in
    fails_first _ _ c.from_residual.result (about_text a) (device_text a.asked.device ++ (utilization_text a ++ (channels_text a ++ (fairness_text a ++ (queues_text a.queues.items ++ (classes_text a.classes.items ++ (all_text a.all))))))) c.from_residual.ensures.0 c.in_err-put_about.ensures

pub returns-in_err-put_device : goal.returns-in_err-put_device
returns-in_err-put_device g c =
    let a = c.args.answer.now in
    writes_then _ _ _ c.from_residual-in_err-put_device.result (about_text a) (device_text a.asked.device ++ (utilization_text a ++ (channels_text a ++ (fairness_text a ++ (queues_text a.queues.items ++ (classes_text a.classes.items ++ (all_text a.all))))))) c.in_ok-put_about.ensures
    (fails_first _ _ c.from_residual-in_err-put_device.result (device_text a.asked.device) (utilization_text a ++ (channels_text a ++ (fairness_text a ++ (queues_text a.queues.items ++ (classes_text a.classes.items ++ (all_text a.all)))))) c.from_residual-in_err-put_device.ensures.0 c.in_err-put_device.ensures)

pub returns-in_err-put_utilization : goal.returns-in_err-put_utilization
returns-in_err-put_utilization g c =
    let a = c.args.answer.now in
    writes_then _ _ _ c.from_residual-in_err-put_utilization.result (about_text a) (device_text a.asked.device ++ (utilization_text a ++ (channels_text a ++ (fairness_text a ++ (queues_text a.queues.items ++ (classes_text a.classes.items ++ (all_text a.all))))))) c.in_ok-put_about.ensures
    (writes_then _ _ _ c.from_residual-in_err-put_utilization.result (device_text a.asked.device) (utilization_text a ++ (channels_text a ++ (fairness_text a ++ (queues_text a.queues.items ++ (classes_text a.classes.items ++ (all_text a.all)))))) c.in_ok-put_device.ensures
    (fails_first _ _ c.from_residual-in_err-put_utilization.result (utilization_text a) (channels_text a ++ (fairness_text a ++ (queues_text a.queues.items ++ (classes_text a.classes.items ++ (all_text a.all))))) c.from_residual-in_err-put_utilization.ensures.0 c.in_err-put_utilization.ensures))

pub returns-in_err-put_channels : goal.returns-in_err-put_channels
returns-in_err-put_channels g c =
    let a = c.args.answer.now in
    writes_then _ _ _ c.from_residual-in_err-put_channels.result (about_text a) (device_text a.asked.device ++ (utilization_text a ++ (channels_text a ++ (fairness_text a ++ (queues_text a.queues.items ++ (classes_text a.classes.items ++ (all_text a.all))))))) c.in_ok-put_about.ensures
    (writes_then _ _ _ c.from_residual-in_err-put_channels.result (device_text a.asked.device) (utilization_text a ++ (channels_text a ++ (fairness_text a ++ (queues_text a.queues.items ++ (classes_text a.classes.items ++ (all_text a.all)))))) c.in_ok-put_device.ensures
    (writes_then _ _ _ c.from_residual-in_err-put_channels.result (utilization_text a) (channels_text a ++ (fairness_text a ++ (queues_text a.queues.items ++ (classes_text a.classes.items ++ (all_text a.all))))) c.in_ok-put_utilization.ensures
    (fails_first _ _ c.from_residual-in_err-put_channels.result (channels_text a) (fairness_text a ++ (queues_text a.queues.items ++ (classes_text a.classes.items ++ (all_text a.all)))) c.from_residual-in_err-put_channels.ensures.0 c.in_err-put_channels.ensures)))

pub returns-in_err-put_fairness : goal.returns-in_err-put_fairness
returns-in_err-put_fairness g c =
    let a = c.args.answer.now in
    writes_then _ _ _ c.from_residual-in_err-put_fairness.result (about_text a) (device_text a.asked.device ++ (utilization_text a ++ (channels_text a ++ (fairness_text a ++ (queues_text a.queues.items ++ (classes_text a.classes.items ++ (all_text a.all))))))) c.in_ok-put_about.ensures
    (writes_then _ _ _ c.from_residual-in_err-put_fairness.result (device_text a.asked.device) (utilization_text a ++ (channels_text a ++ (fairness_text a ++ (queues_text a.queues.items ++ (classes_text a.classes.items ++ (all_text a.all)))))) c.in_ok-put_device.ensures
    (writes_then _ _ _ c.from_residual-in_err-put_fairness.result (utilization_text a) (channels_text a ++ (fairness_text a ++ (queues_text a.queues.items ++ (classes_text a.classes.items ++ (all_text a.all))))) c.in_ok-put_utilization.ensures
    (writes_then _ _ _ c.from_residual-in_err-put_fairness.result (channels_text a) (fairness_text a ++ (queues_text a.queues.items ++ (classes_text a.classes.items ++ (all_text a.all)))) c.in_ok-put_channels.ensures
    (fails_first _ _ c.from_residual-in_err-put_fairness.result (fairness_text a) (queues_text a.queues.items ++ (classes_text a.classes.items ++ (all_text a.all))) c.from_residual-in_err-put_fairness.ensures.0 c.in_err-put_fairness.ensures))))

pub returns-in_err-put_queues : goal.returns-in_err-put_queues
returns-in_err-put_queues g c =
    let a = c.args.answer.now in
    writes_then _ _ _ c.from_residual-in_err-put_queues.result (about_text a) (device_text a.asked.device ++ (utilization_text a ++ (channels_text a ++ (fairness_text a ++ (queues_text a.queues.items ++ (classes_text a.classes.items ++ (all_text a.all))))))) c.in_ok-put_about.ensures
    (writes_then _ _ _ c.from_residual-in_err-put_queues.result (device_text a.asked.device) (utilization_text a ++ (channels_text a ++ (fairness_text a ++ (queues_text a.queues.items ++ (classes_text a.classes.items ++ (all_text a.all)))))) c.in_ok-put_device.ensures
    (writes_then _ _ _ c.from_residual-in_err-put_queues.result (utilization_text a) (channels_text a ++ (fairness_text a ++ (queues_text a.queues.items ++ (classes_text a.classes.items ++ (all_text a.all))))) c.in_ok-put_utilization.ensures
    (writes_then _ _ _ c.from_residual-in_err-put_queues.result (channels_text a) (fairness_text a ++ (queues_text a.queues.items ++ (classes_text a.classes.items ++ (all_text a.all)))) c.in_ok-put_channels.ensures
    (writes_then _ _ _ c.from_residual-in_err-put_queues.result (fairness_text a) (queues_text a.queues.items ++ (classes_text a.classes.items ++ (all_text a.all))) c.in_ok-put_fairness.ensures
    (fails_first _ _ c.from_residual-in_err-put_queues.result (queues_text a.queues.items) (classes_text a.classes.items ++ (all_text a.all)) c.from_residual-in_err-put_queues.ensures.0 (rw c.deref.ensures.value at c.in_err-put_queues.ensures))))))

pub returns-in_err-put_classes : goal.returns-in_err-put_classes
returns-in_err-put_classes g c =
    let a = c.args.answer.now in
    writes_then _ _ _ c.from_residual-in_err-put_classes.result (about_text a) (device_text a.asked.device ++ (utilization_text a ++ (channels_text a ++ (fairness_text a ++ (queues_text a.queues.items ++ (classes_text a.classes.items ++ (all_text a.all))))))) c.in_ok-put_about.ensures
    (writes_then _ _ _ c.from_residual-in_err-put_classes.result (device_text a.asked.device) (utilization_text a ++ (channels_text a ++ (fairness_text a ++ (queues_text a.queues.items ++ (classes_text a.classes.items ++ (all_text a.all)))))) c.in_ok-put_device.ensures
    (writes_then _ _ _ c.from_residual-in_err-put_classes.result (utilization_text a) (channels_text a ++ (fairness_text a ++ (queues_text a.queues.items ++ (classes_text a.classes.items ++ (all_text a.all))))) c.in_ok-put_utilization.ensures
    (writes_then _ _ _ c.from_residual-in_err-put_classes.result (channels_text a) (fairness_text a ++ (queues_text a.queues.items ++ (classes_text a.classes.items ++ (all_text a.all)))) c.in_ok-put_channels.ensures
    (writes_then _ _ _ c.from_residual-in_err-put_classes.result (fairness_text a) (queues_text a.queues.items ++ (classes_text a.classes.items ++ (all_text a.all))) c.in_ok-put_fairness.ensures
    (writes_then _ _ _ c.from_residual-in_err-put_classes.result (queues_text a.queues.items) (classes_text a.classes.items ++ (all_text a.all)) (rw c.deref.ensures.value at c.in_ok-put_queues.ensures)
    (fails_first _ _ c.from_residual-in_err-put_classes.result (classes_text a.classes.items) (all_text a.all) c.from_residual-in_err-put_classes.ensures.0 (rw c.deref-2.ensures.value at c.in_err-put_classes.ensures)))))))

pub returns : goal.returns
returns g c =
    let a = c.args.answer.now in
    writes_then _ _ _ c.put_all.result (about_text a) (device_text a.asked.device ++ (utilization_text a ++ (channels_text a ++ (fairness_text a ++ (queues_text a.queues.items ++ (classes_text a.classes.items ++ (all_text a.all))))))) c.in_ok-put_about.ensures
    (writes_then _ _ _ c.put_all.result (device_text a.asked.device) (utilization_text a ++ (channels_text a ++ (fairness_text a ++ (queues_text a.queues.items ++ (classes_text a.classes.items ++ (all_text a.all)))))) c.in_ok-put_device.ensures
    (writes_then _ _ _ c.put_all.result (utilization_text a) (channels_text a ++ (fairness_text a ++ (queues_text a.queues.items ++ (classes_text a.classes.items ++ (all_text a.all))))) c.in_ok-put_utilization.ensures
    (writes_then _ _ _ c.put_all.result (channels_text a) (fairness_text a ++ (queues_text a.queues.items ++ (classes_text a.classes.items ++ (all_text a.all)))) c.in_ok-put_channels.ensures
    (writes_then _ _ _ c.put_all.result (fairness_text a) (queues_text a.queues.items ++ (classes_text a.classes.items ++ (all_text a.all))) c.in_ok-put_fairness.ensures
    (writes_then _ _ _ c.put_all.result (queues_text a.queues.items) (classes_text a.classes.items ++ (all_text a.all)) (rw c.deref.ensures.value at c.in_ok-put_queues.ensures)
    (writes_then _ _ _ c.put_all.result (classes_text a.classes.items) (all_text a.all) (rw c.deref-2.ensures.value at c.in_ok-put_classes.ensures) c.put_all.ensures))))))
