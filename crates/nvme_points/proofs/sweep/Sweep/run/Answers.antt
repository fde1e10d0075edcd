use Rattle.std.proofs.Common.{refl, subst, ◌∙◌}
use Rattle.nvme_points.specs.Runs.{IsModelAt}
use Rattle.nvme_points.proofs.sweep.Sweep.run.Goals as goal

pub returns-in-Ok : goal.returns-in-Ok
returns-in-Ok g c inside = record {
  model = _;
  is_model = subst (λ values. IsModelAt c.args.self.now.text.now c.args.self.now.axes.items c.args.self.now.overrides values c.in_ok-model.model) (c.deref.ensures.value ∙ c.in_ok-values.ensures inside) c.in_ok-model.ensures;
  runs = record { seed = refl; ran = _; ran_is = refl; queues = refl; measured = c.in-Ok.ensures };
}
