use Rattle.nvme_simulate.proofs.Played.{played_fed}
use Rattle.nvme_simulate.proofs.runs.measure.Goals as goal

pub returns : goal.returns
returns g c = record {
  simulation = _;
  numbers = _;
  end = _;
  played = c.in_ok-played.ensures;
  tells = c.in_ok-answer.ensures.told;
  fed = c.in_ok-answer.ensures.fed _ (played_fed _ _ _ _ c.in_ok-played.ensures);
}
