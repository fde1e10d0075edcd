use Rattle.nvme_tracer.proofs.writer.put_head.Goals as goal

pub returns : goal.returns
returns g c = rw (c.mechanism_name.ensures, c.from.ensures, c.to_cdw11.ensures.encoded) at c.put_pieces.ensures
