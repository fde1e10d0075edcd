use Rattle.toml.specs.View.{table_view}
use Rattle.nvme_points.proofs.Standing.{first_is}
use Rattle.nvme_points.proofs.sweep.Sweep.model_at.Goals as goal

pub returns-in-Ok : goal.returns-in-Ok
returns-in-Ok c =
    let (said, says, lists) = c.in_ok-model.ensures in
    let (chosen, options_are, stand) = c.in-Ok.ensures in
    record {
      at = table_view c.in_ok-document.document;
      document = c.in_ok-document.ensures;
      said = said;
      says = says;
      listed = c.in_ok-model.model;
      lists = lists;
      chosen = chosen;
      options_are = options_are;
      stand = stand;
      first = first_is c.args.self.now.overrides chosen _ said c.in_ok-model.model _ says lists options_are.seed stand;
    }
