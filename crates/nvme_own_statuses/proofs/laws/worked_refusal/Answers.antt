use Rattle.nvme_own_statuses.proofs.Examples.{starts_with_admin, by_regions, refused_account, refused_duties, refused_alone, refused_heads, refused_own, refused_kept, success_breaks}
use Rattle.nvme_own_statuses.proofs.laws.worked_refusal.Goals as goal

pub returns : goal.returns
returns c = record { starts = starts_with_admin; by_regions = by_regions; account = refused_account; duties = refused_duties; turns = refused_alone; heads = refused_heads; own = refused_own; device = refused_kept; judged = success_breaks }
