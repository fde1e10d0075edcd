use Rattle.nvme_ctrl_log.proofs.ExampleNotes.{deletion_account}
use Rattle.nvme_ctrl_log.proofs.LateNotes.{unnamed, named, refused, refused_late}
use Rattle.nvme_ctrl_log.proofs.laws.regions_come_before_their_creates.Goals as goal

pub returns : goal.returns
returns c = record { unnamed = unnamed; account = deletion_account; named = named; refused = refused; refused_late = refused_late }
