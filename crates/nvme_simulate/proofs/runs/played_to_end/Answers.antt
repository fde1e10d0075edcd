use Rattle.nvme_simulate.proofs.runs.played_to_end.Goals as goal

pub returns : goal.returns
returns g c = record {
  first = _;
  begins = c.in_ok-simulation.ensures.begins;
  none = _;
  new = c.in_ok-numbers.ensures;
  ran = c.in_ok-end.ensures;
}
