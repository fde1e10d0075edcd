use Rattle.std.proofs.lemmas.Result.{on_ok_weaker}
use Rattle.nvme_simulate.proofs.runs.simulate_bounded.Goals as goal

pub returns : goal.returns
returns g c = on_ok_weaker c.put_played.result (λ told. (_, told)) (c.put_played.ensures c.args.model c.in_ok-played.ensures)
