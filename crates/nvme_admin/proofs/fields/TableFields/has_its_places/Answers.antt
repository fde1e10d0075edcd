use Rattle.std.proofs.Common.{rules}
use Rattle.nvme_admin.proofs.PlaceLemmas.{sized-in}
use Rattle.nvme_admin.proofs.fields.TableFields.has_its_places.Goals as goal

pub returns : goal.returns
returns c = sized-in c.args.self.now (search rules) (search rules) (search rules) (search rules)
