use Rattle.std.proofs.Common.{refl, ◌∙◌, ap, ◌-◌, None, false, get_or}
use Rattle.nvme_admin.specs.declared.bounds.TheConstants.{MAX_REGIONS}
use Rattle.nvme_admin.specs.Accepted.{effects_of, queue_table}
use Rattle.nvme_admin.proofs.PlaceLemmas.{sqs-none, cqs-none, flags-first}
use Rattle.nvme_admin.proofs.Slots.{sq-new, cq-new, used-new, marks-new, read-replicate}
use Rattle.nvme_admin.proofs.fields.TableFields.new.Goals as goal

pub returns : goal.returns
unfolding effects_of queue_table
returns c =
    let sqs = sqs-none MAX_REGIONS c.of-5.result c.of-5.ensures in
    let cqs = cqs-none MAX_REGIONS c.of-6.result c.of-6.ensures in
    let used = flags-first (MAX_REGIONS - 1) c.of-used.result c.of.result c.of-used.ensures c.of.ensures in record {
      stands = record {
        sq = λ q. ap (λ qs. get_or qs q None) sqs ∙ sq-new MAX_REGIONS q;
        cq = λ q. ap (λ qs. get_or qs q None) cqs ∙ cq-new MAX_REGIONS q;
        sq_regions = c.new.ensures;
        cq_regions = c.new-2.ensures;
        sq_used = λ k. ap (λ fs. get_or fs k false) used ∙ used-new (MAX_REGIONS - 1) k;
        cq_used = λ k. ap (λ fs. get_or fs k false) used ∙ used-new (MAX_REGIONS - 1) k;
        nsq = c.of-3.ensures;
        ncq = c.of-4.ensures;
        numbers_set = c.of-7.ensures;
        created = c.of-8.ensures;
        settings = c.of-2.ensures;
        placing = refl;
      };
      empty = record {
        sq = λ q. ap (λ qs. get_or qs q None) sqs ∙ read-replicate MAX_REGIONS q None;
        cq = λ q. ap (λ qs. get_or qs q None) cqs ∙ read-replicate MAX_REGIONS q None;
        sq_regions = c.new.ensures;
        cq_regions = c.new-2.ensures;
        sq_used = λ k. ap (λ fs. get_or fs k false) used ∙ marks-new (MAX_REGIONS - 1) k;
        cq_used = λ k. ap (λ fs. get_or fs k false) used ∙ marks-new (MAX_REGIONS - 1) k;
        nsq = c.of-3.ensures;
        ncq = c.of-4.ensures;
        numbers_set = c.of-7.ensures;
        created = c.of-8.ensures;
        settings = c.of-2.ensures;
        placing = refl;
      };
    }
