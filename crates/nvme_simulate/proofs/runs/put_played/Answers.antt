use Rattle.std.proofs.Common.{◌∙◌}
use Rattle.nvme_simulate.proofs.Played.{played_fed}
use Rattle.nvme_simulate.proofs.runs.put_played.Goals as goal

pub returns-in-Ok : goal.returns-in-Ok
returns-in-Ok g c model played = record {
  simulation = _;
  numbers = _;
  end = _;
  played = played;
  answer = c.in_ok-answer.answer;
  is_answer = record {
    tells = c.in_ok-answer.ensures.told;
    jain = c.in_ok-answer.ensures.jain;
    jain_by_weight = c.in_ok-answer.ensures.jain_by_weight;
    began = c.in_ok-answer.ensures.began;
    ended = c.in_ok-answer.ensures.end;
    channels = c.in_ok-answer.ensures.channels ∙ c.channels.ensures;
    asked = c.in_ok-answer.ensures.asked;
  };
  fed = c.in_ok-answer.ensures.fed _ (played_fed _ _ _ _ played);
  written = c.in-Ok.ensures;
}
