use Rattle.nvme_bench.proofs.loops.calls.post.Goals as goal

pub returns : goal.returns
returns c = record { front = c.post.ensures.front c.requires.front }

pub returns-in_err-post : goal.returns-in_err-post
returns-in_err-post c = record { front = c.post.ensures.front c.requires.front }
