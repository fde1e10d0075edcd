-- A controller with no event stands at rules with the same regions in another order.
use Rattle.std.proofs.Common.{◌≡◌, ℕ, false, List, [], length, Some, refl, sym, ap, ◌∙◌, subst}
use Rattle.std.specs.Prelude.{slice_get, get_or, sum_by}
use Rattle.nvme_entry.specs.declared.submission.Sqe.{Sqe}
use Rattle.nvme_arbiter.specs.declared.settings.Mechanism.{Mechanism}
use Rattle.nvme_admin.specs.declared.region.Region.{Region}
use Rattle.nvme_admin.specs.History.{Start, TableHistory}
use Rattle.nvme_admin.specs.QueueTable.{QueueTable}
use Rattle.nvme_admin.specs.Accepted.{queue_table}
use Rattle.nvme_log.specs.Rules.{FrontRules, sq_regions_of, cq_regions_of, slots_at, upto}
use Rattle.nvme_log.specs.Completions.{outstanding}
use Rattle.nvme_slots.specs.declared.slot.Slot.{Slot}
use Rattle.nvme_ctrl.specs.declared.state.Controller.{Controller}
use Rattle.nvme_ctrl_content.specs.Content.{Ready, PendingDelete, Content}
use Rattle.nvme_ctrl_content.specs.Standing.{HoldsTable, HoldsOwn, HasItsStatus, HasOwnStatus, IsOwnDeletion, Holds}
use Rattle.nvme_ctrl.specs.kept.Kept.{StandsAt}

-- no command stands in the empty log
none_there : (i : ℕ) (e : Sqe) → slice_get [] i ≡ Some e → ⊥
none_there i e is = cc is

-- other regions that make the same table
module _ (rules : FrontRules) (regions : TableHistory) (sizes : List ℕ) (same : queue_table rules.start regions ≡ queue_table rules.start rules.regions) where
  abbrev other : FrontRules
  other = record rules { regions = regions; sizes = sizes }

  sqs : sq_regions_of other ≡ sq_regions_of rules
  sqs = ap (λ (t : QueueTable). t.sq_regions) same

  cqs : cq_regions_of other ≡ cq_regions_of rules
  cqs = ap (λ (t : QueueTable). t.cq_regions) same

  none_outstanding : outstanding other [] ≡ outstanding rules []
  none_outstanding = ap (λ (rs : List Region). sum_by (λ (r : ℕ). 0) (upto (length rs))) sqs

  -- ---- what is held
  table-other : (k : Content) → HoldsTable rules false [] k → HoldsTable other false [] k
  table-other k h = record {
    history = regions;
    table_is = h.table_is ∙ ap (queue_table rules.start) (h.history_is refl) ∙ sym same;
    few_queues = h.few_queues;
    placing = h.placing ∙ sym (ap (λ (t : QueueTable). t.placing) same);
    in_time = h.in_time;
    history_is = λ early. refl;
    sq_count = h.sq_count;
    cq_count = h.cq_count;
    sq_number = ap (λ (rs : List Region). length rs) sqs ∙ h.sq_number;
    cq_number = ap (λ (rs : List Region). length rs) cqs ∙ h.cq_number;
    sq_slots = λ r. ap (λ (rs : List Region). slots_at rs r) sqs ∙ h.sq_slots r;
    cq_slots = λ x. ap (λ (rs : List Region). slots_at rs x) cqs ∙ h.cq_slots x;
    sq_regions_are = h.sq_regions_are ∙ sym sqs;
    cq_regions_are = h.cq_regions_are ∙ sym cqs;
  }

  status-other : (t : Ready) → HasOwnStatus rules [] t → HasOwnStatus other [] t
  status-other t h not_passed = let was : HasItsStatus rules [] t = h not_passed in absurd (none_there t.place.index was.entry was.is_there)

  deletion-other : (d : PendingDelete) → IsOwnDeletion rules [] d → IsOwnDeletion other [] d
  deletion-other d was = absurd (none_there d.place.index was.entry was.is_there)

  own-other : (k : Content) → HoldsOwn rules [] k → HoldsOwn other [] k
  own-other k h = record {
    effects_whole = refl;
    own_statuses = λ x j d lt. status-other (get_or (k.cq x).ready j d) (h.own_statuses x j d lt);
    own_deletion = λ r d is. deletion-other d (h.own_deletion r d is);
  }

  holds-other : (k : Content) → Holds rules false [] k → Holds other false [] k
  holds-other k h = record {
    regions = h.regions;
    ready = h.ready;
    hand = h.hand;
    counts = record { unposted = h.counts.unposted; outstanding_is = h.counts.outstanding_is ∙ sym none_outstanding };
    posts = h.posts;
    queues = h.queues;
    deletion = h.deletion;
    lives = h.lives;
    arbitration = record { stands = h.arbitration.stands; lawful = h.arbitration.lawful };
    tabled = table-other k h.tabled;
    own = λ early. own-other k (h.own early);
  }

  -- ---- the controller
  stands-other : (c : Controller) (slots : List Slot) → StandsAt rules false [] c slots → StandsAt other false [] c slots
  stands-other c slots s = record {
    content = s.content;
    items = s.items;
    holds = holds-other s.content s.holds;
    numbers = s.numbers;
    has = s.has;
    doorbells = record { sqs = s.doorbells.sqs; cqs = s.doorbells.cqs };
    tags = s.tags;
    shown = s.shown;
    ordered = s.ordered;
    regions = s.regions;
    account = λ early. record { each = tt; lawful = tt; effects_whole = refl };
  }

-- the rules may differ in their regions, where those make the same table, and in the sizes
pub reordered : (rules other : FrontRules) (c : Controller) (slots : List Slot) → other.mechanism ≡ rules.mechanism → other.start ≡ rules.start
    → queue_table other.start other.regions ≡ queue_table rules.start rules.regions → StandsAt rules false [] c slots → StandsAt other false [] c slots
reordered rules other c slots mechanism start tables s =
    let same : queue_table rules.start other.regions ≡ queue_table rules.start rules.regions = ap (λ (b : Start). queue_table b other.regions) (sym start) ∙ tables in
    subst (λ (b : Start). StandsAt (record other { start = b }) false [] c slots) (sym start)
    (subst (λ (m : Mechanism). StandsAt (record other { mechanism = m; start = rules.start }) false [] c slots) (sym mechanism)
    (stands-other rules other.regions other.sizes same c slots s))
