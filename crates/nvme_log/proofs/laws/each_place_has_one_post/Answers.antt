use Rattle.nvme_log.proofs.Posts.{one_post_each}
use Rattle.nvme_log.proofs.laws.each_place_has_one_post.Goals as goal

pub returns : goal.returns
returns c = one_post_each
