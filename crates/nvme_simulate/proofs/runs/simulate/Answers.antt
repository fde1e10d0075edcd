use Rattle.nvme_simulate.proofs.runs.simulate.Goals as goal

pub returns : goal.returns
returns g c = c.put_played.ensures c.args.model c.in_ok-played.ensures
