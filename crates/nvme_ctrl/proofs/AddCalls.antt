-- Regions that are added to a controller: it stands at its log afterwards, at the rules with the region.
use Rattle.std.proofs.Common.{◌≡◌, ◌≢◌, ℕ, ◌+◌, ◌<◌, Bool, true, false, if◌then◌else◌, List, [], ◌∷◌, ◌++◌, length, Option, Some, None, is_some, refl, sym, ap, ◌∙◌, subst, arith, option_map}
use Rattle.std.specs.Prelude.{Result, Ok, Err, OnOk, IfOk, OnErr, IfErr}
use Rattle.std.proofs.lemmas.Bool.{false_from_ne_true}
use Rattle.std.proofs.lemmas.List.{length_push}
use Rattle.nvme_admin.specs.History.{Kind, Placing, Start, TableHistory, RegionAdded, Submission, Completion}
use Rattle.nvme_admin.specs.Accepted.{queue_table}
use Rattle.nvme_admin.specs.QueueTable.{QueueTable}
use Rattle.nvme_admin.specs.Standing.{region_fault}
use Rattle.nvme_admin.specs.declared.region.AdminError.TheVariants.{TooMany}
use Rattle.nvme_placing.specs.Telling.{Tells, content_of, placing_of}
use Rattle.nvme_placing.specs.declared.table.PlacedTable.{PlacedTable}
use Rattle.nvme_admin.specs.declared.region.Region.{Region}
use Rattle.nvme_admin.specs.declared.region.AdminError.{AdminError}
use Rattle.nvme_log.specs.Rules.{FrontRules, sq_regions_of, cq_regions_of, slots_at}
use Rattle.nvme_log.specs.Places.{fetched}
use Rattle.nvme_log.specs.Completions.{posted_to}
use Rattle.nvme_ctrl_log.specs.Notes.{Notes, logged}
use Rattle.nvme_slots.specs.Rings.{HasCounts}
use Rattle.nvme_ctrl_log.specs.Making.{with_region, is_late, adding_fault, placing_in}
use Rattle.nvme_ctrl_log.specs.Account.{IsAccount}
use Rattle.nvme_slots.specs.declared.slot.Slot.{Slot}
use Rattle.nvme_ctrl.specs.Standing.{IsController}
use Rattle.nvme_ctrl.specs.declared.state.Controller.{Controller}
use Rattle.nvme_ctrl_content.specs.Content.{Attachment, Content}
use Rattle.nvme_ctrl_content.specs.Standing.{HoldsOwn}
use Rattle.nvme_ctrl.specs.kept.Kept.{HasNumbers, HasItems, HoldsDoorbells, HoldsTags, StandsAt, IsSqOf, shown_in}
use Rattle.nvme_ctrl.proofs.QueueStates.{sq_told, each_sqs}
use Rattle.nvme_ctrl.specs.kept.State.{sq_at, cq_at}
use Rattle.nvme_ctrl_log.proofs.AddedTables.{sq-added, sq-leaves, cq-added, cq-leaves, slots_other, sq-same_placing, cq-same_placing, sq-more, sq-same, cq-more, cq-same, sq-same_sq, sq-same_cq, sq-same_used, sq-same_cq_used, sq-more_sqs, sq-same_cqs, cq-same_cq, cq-same_sq, cq-same_used, cq-same_cq_used, cq-same_sqs, cq-more_cqs}
use Rattle.nvme_ctrl_log.proofs.DoorbellCounts.{submitted_same, submitted_none, consumed_same, consumed_none}
use Rattle.nvme_ctrl_log.proofs.FurtherAccounts.{sound-notes, account-stays}
use Rattle.nvme_ctrl.proofs.DoorbellCalls.{has_none}
use Rattle.nvme_ctrl_log.proofs.FurtherHistories.{region-placing}
use Rattle.nvme_ctrl_content.proofs.FurtherStanding.{in_time, has_history, own-holds}
use Rattle.nvme_ctrl_content.proofs.Growing.{Grows, grown, holds_when_grown}

-- ---- a controller that stands
-- a region of which an identifier is told was opened for a queue
opened_for : (o : Option Attachment) → Some 0 ≡ option_map (λ (a : Attachment). a.qid) o → (a : Attachment) × (o ≡ Some a)
opened_for None e = cc
opened_for (Some a) e = (a, refl)

module _ (rules : FrontRules) (late : Bool) (notes : Notes) (c : Controller) (pool : List Slot) (s : StandsAt rules late notes c pool) where
  -- the admin regions are there
  admin_region : (a : Attachment) × ((s.content.sq 0).queue ≡ Some a)
  admin_region = opened_for (s.content.sq 0).queue (sym s.holds.ready.admin_qid ∙ s.holds.queues.qid_is 0)

  some_sqs : 0 < s.content.nsq
  some_sqs = s.holds.queues.sq_there 0 admin_region.0 admin_region.1

  some_cqs : 0 < s.content.ncq
  some_cqs = let there = s.holds.queues.posts_there 0 admin_region.0 admin_region.1 in omega (arith, there)

  -- so they are of the rules
  sqs_there : 0 < length (sq_regions_of rules)
  sqs_there = omega (arith, some_sqs, s.holds.tabled.sq_number)

  cqs_there : 0 < length (cq_regions_of rules)
  cqs_there = omega (arith, some_cqs, s.holds.tabled.cq_number)

  -- the log is sound, and the answers are held, where the region isn't late
  module _ (kind : Kind) (a n : ℕ) (on_time : is_late rules late notes a ≡ false) where
    early_own : HoldsOwn (with_region kind a n rules) (logged notes) s.content
    early_own =
        let early = in_time rules late notes a on_time in
        let account = s.account early.0 in
        own-holds rules kind a n sqs_there cqs_there late (logged notes) s.content (sound-notes rules kind a n sqs_there cqs_there notes account.each account.lawful) early.1 s.holds (s.holds.own early.0)

    early_account : IsAccount (with_region kind a n rules) notes
    early_account = let early = in_time rules late notes a on_time in account-stays rules kind a n sqs_there cqs_there notes (s.account early.0) early.1

-- ---- what is refused
-- nothing else is refused first where queues lie on regions, and all is where they may lie anywhere
refused_first : (placing : Option Placing) (fault : Option AdminError) → placing ≡ None → fault ≡ (if is_some placing then Some TooMany else fault)
refused_first placing fault none = sym (ap (λ (p : Option Placing). if is_some p then Some TooMany else fault) none)

all_refused : (placing : Option Placing) (fault : Option AdminError) → is_some placing ≡ true → (if is_some placing then Some TooMany else fault) ≡ Some TooMany
all_refused placing fault some = ap (λ (b : Bool). if b then Some TooMany else fault) some

module _ (rules : FrontRules) (late : Bool) (notes : Notes) (c : Controller) (pool : List Slot) (s : StandsAt rules late notes c pool) (a n : ℕ) where
  -- the rules say where queues may lie as the table does
  rules_placing : placing_in rules ≡ placing_of c.table
  rules_placing = sym s.holds.tabled.placing ∙ s.numbers.tells.placing

  module _ (on : placing_of c.table ≡ None) where
    -- the regions of the table are those of the rules
    table_sqs : (content_of c.table).sq_regions ≡ sq_regions_of rules
    table_sqs = (s.numbers.tells.by_regions on).sq_regions ∙ s.holds.tabled.sq_regions_are

    table_cqs : (content_of c.table).cq_regions ≡ cq_regions_of rules
    table_cqs = (s.numbers.tells.by_regions on).cq_regions ∙ s.holds.tabled.cq_regions_are

    -- so what the table refuses is what the rules refuse
    pub sq-fault : region_fault (content_of c.table) (content_of c.table).sq_regions a n ≡ adding_fault Submission a n rules
    sq-fault =
        (λ i. region_fault (record (content_of c.table) { sq_regions = table_sqs i; cq_regions = table_cqs i }) (table_sqs i) a n)
        ∙ refused_first (placing_in rules) _ (rules_placing ∙ on)

    pub cq-fault : region_fault (content_of c.table) (content_of c.table).cq_regions a n ≡ adding_fault Completion a n rules
    cq-fault =
        (λ i. region_fault (record (content_of c.table) { sq_regions = table_sqs i; cq_regions = table_cqs i }) (table_cqs i) a n)
        ∙ refused_first (placing_in rules) _ (rules_placing ∙ on)

  -- where queues may lie anywhere all is refused
  pub anywhere-fault : (kind : Kind) → is_some (placing_of c.table) ≡ true → adding_fault kind a n rules ≡ Some TooMany
  anywhere-fault kind some = all_refused (placing_in rules) _ (ap (λ (p : Option Placing). is_some p) rules_placing ∙ some)

-- the controller with another table
abbrev pub with_table : Controller → PlacedTable → Controller
with_table c table = record c { table = table }

-- ---- a submission region more
module _ (rules : FrontRules) (late : Bool) (notes : Notes) (c : Controller) (pool : List Slot) (s : StandsAt rules late notes c pool)
    (table : PlacedTable) (a n r : ℕ) (on : placing_of c.table ≡ None) (number : r ≡ length (content_of c.table).sq_regions)
    (takes : (start : Start) (h : TableHistory) → Tells c.table (queue_table start h) → Tells table (queue_table start (RegionAdded Submission a n ∷ h)))
  where
    -- the queue table with it
    abbrev sq_table : QueueTable
    sq_table = queue_table rules.start (RegionAdded Submission a n ∷ s.holds.tabled.history)

    -- whose queues lie on regions
    sq_on_regions : is_some sq_table.placing ≡ true → ⊥
    sq_on_regions some =
        let same = sq-same_placing rules.start s.holds.tabled.history s.content.table sq_table a n s.holds.tabled.table_is refl in
        let none : is_some (placing_of c.table) ≡ true = ap (λ (p : Option Placing). is_some p) (sym (same ∙ s.numbers.tells.placing)) ∙ some in
        cc (none, on)

    abbrev sq_rules : FrontRules
    sq_rules = with_region Submission a n rules

    abbrev sq_added : Content
    sq_added = grown s.content (λ (x : ℕ). slots_at (sq_regions_of sq_rules) x) (λ (x : ℕ). (s.content.cq x).slots) (s.content.nsq + 1) s.content.ncq sq_table

    sq_is_next : r ≡ s.content.nsq
    sq_is_next = number ∙ ap (λ (rs : List Region). length rs) (s.numbers.tells.by_regions on).sq_regions ∙ s.holds.tabled.sq_count

    sq_is_last : length (sq_regions_of rules) ≡ r
    sq_is_last = s.holds.tabled.sq_number ∙ sym sq_is_next

    -- the slots of the regions
    sq_slots_others : (x : ℕ) → x ≢ r → slots_at (sq_regions_of sq_rules) x ≡ slots_at (sq_regions_of rules) x
    sq_slots_others x other = ap (λ (rs : List Region). slots_at rs x) (sq-more a n rules)
        ∙ slots_other (sq_regions_of rules) (record { address = a; slots = n }) x (λ e. other (e ∙ sq_is_last))

    cq_slots_left : (x : ℕ) → slots_at (cq_regions_of sq_rules) x ≡ slots_at (cq_regions_of rules) x
    cq_slots_left x = ap (λ (rs : List Region). slots_at rs x) (sq-same a n rules)

    sq_grows : Grows rules (is_late rules late notes a) (logged notes) sq_rules.regions s.content (λ (x : ℕ). slots_at (sq_regions_of sq_rules) x) (λ (x : ℕ). (s.content.cq x).slots) (s.content.nsq + 1) s.content.ncq sq_table
    sq_grows =
        let h = s.holds.tabled.history in
        let before = s.holds.tabled.table_is in
        let after : sq_table ≡ queue_table rules.start (RegionAdded Submission a n ∷ h) = refl in
        let there : 0 < length s.content.table.sq_regions = omega (arith, s.holds.tabled.sq_count, some_sqs rules late notes c pool s) in
        let found = has_history rules Submission a n (sqs_there rules late notes c pool s) (cqs_there rules late notes c pool s) late notes h sq_table s.holds.tabled.history_is after in
        record {
          sqs = omega arith;
          cqs = omega arith;
          same_sq = sq-same_sq rules.start h s.content.table sq_table a n before after there;
          same_cq = sq-same_cq rules.start h s.content.table sq_table a n before after;
          same_used = sq-same_used rules.start h s.content.table sq_table a n before after;
          same_cq_used = sq-same_cq_used rules.start h s.content.table sq_table a n before after;
          history = found.history;
          table_is = found.table_is;
          placing_is = sq-same_placing rules.start h s.content.table sq_table a n before after ∙ s.holds.tabled.placing ∙ sym (region-placing Submission a n rules);
          in_time = λ some. absurd (sq_on_regions some);
          history_is = found.history_is;
          own = λ on_time. early_own rules late notes c pool s Submission a n on_time;
          sq_count = sq-more_sqs rules.start h s.content.table sq_table a n before after ∙ ap (λ (m : ℕ). m + 1) s.holds.tabled.sq_count;
          cq_count = sq-same_cqs rules.start h s.content.table sq_table a n before after ∙ s.holds.tabled.cq_count;
          sq_number = ap (λ (rs : List Region). length rs) (sq-more a n rules) ∙ length_push (sq_regions_of rules) (record { address = a; slots = n }) ∙ ap (λ (m : ℕ). m + 1) s.holds.tabled.sq_number;
          cq_number = ap (λ (rs : List Region). length rs) (sq-same a n rules) ∙ s.holds.tabled.cq_number;
          sq_slots_are = λ x. refl;
          cq_slots_are = λ x. cq_slots_left x ∙ s.holds.tabled.cq_slots x;
          sq_regions_are = sq-added rules.start h s.content.table sq_table a n before after
              ∙ ap (λ (rs : List Region). rs ++ record { address = a; slots = n } ∷ []) s.holds.tabled.sq_regions_are ∙ sym (sq-more a n rules);
          cq_regions_are = sq-leaves rules.start h s.content.table sq_table a n before after ∙ s.holds.tabled.cq_regions_are ∙ sym (sq-same a n rules);
        }

    -- no queue is on the region
    sq_apart : (x : ℕ) (a : Attachment) → (s.content.sq x).queue ≡ Some a → x ≢ r
    sq_apart x a opened same = let below = s.holds.queues.sq_there x a opened in omega (arith, below, same, sq_is_next)

    sq_left : (q x : ℕ) → s.content.sq_life q ≡ Some x → IsSqOf (with_table c table) sq_added q x
    sq_left q x is =
        let h = s.numbers.sqs.each q x is in
        sq_told s.content.table sq_table s.content.cq_life q x (sq_at c.sqs q) (s.content.sq x) (sq_added.sq x) (s.content.held x) (shown_in s.content.board q) h (sq_grows.same_sq q) refl refl
        (sq_slots_others x (sq_apart x (record { qid = q; cq_region = h.cq_region }) h.opened) ∙ s.holds.tabled.sq_slots x)

    sq_numbers : HasNumbers (with_table c table) sq_added
    sq_numbers = let n = s.numbers in record {
      tells = takes rules.start s.holds.tabled.history (subst (Tells c.table) s.holds.tabled.table_is n.tells);
      board_is = n.board_is;
      is_arbiter = n.is_arbiter;
      outstanding_is = n.outstanding_is;
      sqs = each_sqs c.sqs c.rung s.content.table sq_table s.content.cq_life s.content.cq_life s.content.sq_life s.content.sq_id s.content.sq sq_added.sq s.content.held s.content.held
          (shown_in s.content.board) (shown_in s.content.board) (λ q x is w. sq_left q x is) n.sqs;
      cqs = n.cqs;
    }

    sq_items : HasItems (with_table c table) pool sq_added s.items
    sq_items = let h = s.has in record { windows = h.windows; outs = h.outs; readies = h.readies; deletions = h.deletions; free = h.free; few = h.few }

    -- nothing was submitted to a region that no queue was opened on, and of the others the slots are left
    sq_doorbells : HoldsDoorbells sq_rules notes (with_table c table) sq_added
    sq_doorbells =
        let d = s.doorbells in
        record {
          sqs = record {
            each = λ q x is. subst (HasCounts (sq_at c.sqs q).ring (length (fetched (logged notes) x)))
                (sym (submitted_same rules sq_rules notes x (sq_slots_others x (sq_apart x (record { qid = q; cq_region = (s.numbers.sqs.each q x is).cq_region }) (s.numbers.sqs.each q x is).opened))))
                (d.sqs.each q x is);
            no_tails = λ x none. submitted_none rules sq_rules notes x (d.sqs.no_tails x none);
          };
          cqs = record {
            each = λ q x is. subst (λ (m : ℕ). HasCounts (cq_at c.cqs q).ring m (length (posted_to (logged notes) x))) (sym (consumed_same rules sq_rules notes x (cq_slots_left x))) (d.cqs.each q x is);
            phases = d.cqs.phases;
            no_heads = λ x none. consumed_none rules sq_rules notes x (d.cqs.no_heads x none);
            no_posts = d.cqs.no_posts;
          };
        }

    sq_tags : HoldsTags notes (with_table c table) pool sq_added s.items
    sq_tags = s.tags

    -- the controller stands with the region
    pub sq_region-stands : StandsAt sq_rules (is_late rules late notes a) notes (with_table c table) pool
    sq_region-stands = record {
      content = sq_added;
      items = s.items;
      holds = holds_when_grown rules late (is_late rules late notes a) (logged notes) s.content s.holds sq_rules.regions
          (λ (x : ℕ). slots_at (sq_regions_of sq_rules) x) (λ (x : ℕ). (s.content.cq x).slots) (s.content.nsq + 1) s.content.ncq sq_table sq_grows;
      numbers = sq_numbers;
      has = sq_items;
      doorbells = sq_doorbells;
      tags = sq_tags;
      shown = record { held = s.shown.held; classed = s.shown.classed };
      ordered = s.ordered;
      regions = record { sqs = λ some. absurd (sq_on_regions some); cqs = λ some. absurd (sq_on_regions some) };
      account = λ on_time. early_account rules late notes c pool s Submission a n on_time;
    }

-- ---- a completion region more
module _ (rules : FrontRules) (late : Bool) (notes : Notes) (c : Controller) (pool : List Slot) (s : StandsAt rules late notes c pool)
    (table : PlacedTable) (a n r : ℕ) (on : placing_of c.table ≡ None) (number : r ≡ length (content_of c.table).cq_regions)
    (takes : (start : Start) (h : TableHistory) → Tells c.table (queue_table start h) → Tells table (queue_table start (RegionAdded Completion a n ∷ h)))
  where
    -- the queue table with it
    abbrev cq_table : QueueTable
    cq_table = queue_table rules.start (RegionAdded Completion a n ∷ s.holds.tabled.history)

    -- whose queues lie on regions
    cq_on_regions : is_some cq_table.placing ≡ true → ⊥
    cq_on_regions some =
        let same = cq-same_placing rules.start s.holds.tabled.history s.content.table cq_table a n s.holds.tabled.table_is refl in
        let none : is_some (placing_of c.table) ≡ true = ap (λ (p : Option Placing). is_some p) (sym (same ∙ s.numbers.tells.placing)) ∙ some in
        cc (none, on)

    abbrev cq_rules : FrontRules
    cq_rules = with_region Completion a n rules

    abbrev cq_added : Content
    cq_added = grown s.content (λ (x : ℕ). (s.content.sq x).slots) (λ (x : ℕ). slots_at (cq_regions_of cq_rules) x) s.content.nsq (s.content.ncq + 1) cq_table

    cq_is_next : r ≡ s.content.ncq
    cq_is_next = number ∙ ap (λ (rs : List Region). length rs) (s.numbers.tells.by_regions on).cq_regions ∙ s.holds.tabled.cq_count

    cq_is_last : length (cq_regions_of rules) ≡ r
    cq_is_last = s.holds.tabled.cq_number ∙ sym cq_is_next

    -- the slots of the regions
    cq_slots_others : (x : ℕ) → x ≢ r → slots_at (cq_regions_of cq_rules) x ≡ slots_at (cq_regions_of rules) x
    cq_slots_others x other = ap (λ (rs : List Region). slots_at rs x) (cq-more a n rules)
        ∙ slots_other (cq_regions_of rules) (record { address = a; slots = n }) x (λ e. other (e ∙ cq_is_last))

    sq_slots_left : (x : ℕ) → slots_at (sq_regions_of cq_rules) x ≡ slots_at (sq_regions_of rules) x
    sq_slots_left x = ap (λ (rs : List Region). slots_at rs x) (cq-same a n rules)

    cq_grows : Grows rules (is_late rules late notes a) (logged notes) cq_rules.regions s.content (λ (x : ℕ). (s.content.sq x).slots) (λ (x : ℕ). slots_at (cq_regions_of cq_rules) x) s.content.nsq (s.content.ncq + 1) cq_table
    cq_grows =
        let h = s.holds.tabled.history in
        let before = s.holds.tabled.table_is in
        let after : cq_table ≡ queue_table rules.start (RegionAdded Completion a n ∷ h) = refl in
        let there : 0 < length s.content.table.cq_regions = omega (arith, s.holds.tabled.cq_count, some_cqs rules late notes c pool s) in
        let found = has_history rules Completion a n (sqs_there rules late notes c pool s) (cqs_there rules late notes c pool s) late notes h cq_table s.holds.tabled.history_is after in
        record {
          sqs = omega arith;
          cqs = omega arith;
          same_sq = cq-same_sq rules.start h s.content.table cq_table a n before after;
          same_cq = cq-same_cq rules.start h s.content.table cq_table a n before after there;
          same_used = cq-same_used rules.start h s.content.table cq_table a n before after;
          same_cq_used = cq-same_cq_used rules.start h s.content.table cq_table a n before after;
          history = found.history;
          table_is = found.table_is;
          placing_is = cq-same_placing rules.start h s.content.table cq_table a n before after ∙ s.holds.tabled.placing ∙ sym (region-placing Completion a n rules);
          in_time = λ some. absurd (cq_on_regions some);
          history_is = found.history_is;
          own = λ on_time. early_own rules late notes c pool s Completion a n on_time;
          sq_count = cq-same_sqs rules.start h s.content.table cq_table a n before after ∙ s.holds.tabled.sq_count;
          cq_count = cq-more_cqs rules.start h s.content.table cq_table a n before after ∙ ap (λ (m : ℕ). m + 1) s.holds.tabled.cq_count;
          sq_number = ap (λ (rs : List Region). length rs) (cq-same a n rules) ∙ s.holds.tabled.sq_number;
          cq_number = ap (λ (rs : List Region). length rs) (cq-more a n rules) ∙ length_push (cq_regions_of rules) (record { address = a; slots = n }) ∙ ap (λ (m : ℕ). m + 1) s.holds.tabled.cq_number;
          sq_slots_are = λ x. sq_slots_left x ∙ s.holds.tabled.sq_slots x;
          cq_slots_are = λ x. refl;
          sq_regions_are = cq-leaves rules.start h s.content.table cq_table a n before after ∙ s.holds.tabled.sq_regions_are ∙ sym (cq-same a n rules);
          cq_regions_are = cq-added rules.start h s.content.table cq_table a n before after
              ∙ ap (λ (rs : List Region). rs ++ record { address = a; slots = n } ∷ []) s.holds.tabled.cq_regions_are ∙ sym (cq-more a n rules);
        }

    -- no queue is on the region
    cq_apart : (q x : ℕ) → s.content.cq_life q ≡ Some x → x ≢ r
    cq_apart q x is same = let below = s.holds.queues.cq_there q x (sym (s.holds.lives.cqs q) ∙ is) in omega (arith, below, same, cq_is_next)

    cq_slots_stay : (q x : ℕ) → s.content.cq_life q ≡ Some x → (s.content.cq x).slots ≡ slots_at (cq_regions_of cq_rules) x
    cq_slots_stay q x is = sym (s.holds.tabled.cq_slots x) ∙ sym (cq_slots_others x (cq_apart q x is))

    cq_numbers : HasNumbers (with_table c table) cq_added
    cq_numbers = let n = s.numbers in record {
      tells = takes rules.start s.holds.tabled.history (subst (Tells c.table) s.holds.tabled.table_is n.tells);
      board_is = n.board_is;
      is_arbiter = n.is_arbiter;
      outstanding_is = n.outstanding_is;
      sqs = each_sqs c.sqs c.rung s.content.table cq_table s.content.cq_life s.content.cq_life s.content.sq_life s.content.sq_id s.content.sq cq_added.sq s.content.held s.content.held
          (shown_in s.content.board) (shown_in s.content.board)
          (λ q x is w. sq_told s.content.table cq_table s.content.cq_life q x (sq_at c.sqs q) (s.content.sq x) (cq_added.sq x) (s.content.held x) (shown_in s.content.board q) w (cq_grows.same_sq q) refl refl refl) n.sqs;
      cqs = record {
        ids = n.cqs.ids;
        each = λ q x is. (let h = n.cqs.each q x is in record { slots = h.slots ∙ cq_slots_stay q x is; some = subst (λ (m : ℕ). 0 < m) (cq_slots_stay q x is) h.some });
        few = n.cqs.few;
        none = n.cqs.none;
        size = n.cqs.size;
        readied = n.cqs.readied;
      };
    }

    cq_items : HasItems (with_table c table) pool cq_added s.items
    cq_items = let h = s.has in record { windows = h.windows; outs = h.outs; readies = h.readies; deletions = h.deletions; free = h.free; few = h.few }

    -- nothing was consumed of a region that no queue was opened on, and of the others the slots are left
    cq_doorbells : HoldsDoorbells cq_rules notes (with_table c table) cq_added
    cq_doorbells =
        let d = s.doorbells in
        record {
          sqs = record {
            each = λ q x is. subst (HasCounts (sq_at c.sqs q).ring (length (fetched (logged notes) x))) (sym (submitted_same rules cq_rules notes x (sq_slots_left x))) (d.sqs.each q x is);
            no_tails = λ x none. submitted_none rules cq_rules notes x (d.sqs.no_tails x none);
          };
          cqs = record {
            each = λ q x is. subst (λ (m : ℕ). HasCounts (cq_at c.cqs q).ring m (length (posted_to (logged notes) x)))
                (sym (consumed_same rules cq_rules notes x (cq_slots_others x (cq_apart q x is)))) (d.cqs.each q x is);
            phases = d.cqs.phases;
            no_heads = λ x none. consumed_none rules cq_rules notes x (d.cqs.no_heads x none);
            no_posts = d.cqs.no_posts;
          };
        }

    cq_tags : HoldsTags notes (with_table c table) pool cq_added s.items
    cq_tags = s.tags

    -- the controller stands with the region
    pub cq_region-stands : StandsAt cq_rules (is_late rules late notes a) notes (with_table c table) pool
    cq_region-stands = record {
      content = cq_added;
      items = s.items;
      holds = holds_when_grown rules late (is_late rules late notes a) (logged notes) s.content s.holds cq_rules.regions
          (λ (x : ℕ). (s.content.sq x).slots) (λ (x : ℕ). slots_at (cq_regions_of cq_rules) x) s.content.nsq (s.content.ncq + 1) cq_table cq_grows;
      numbers = cq_numbers;
      has = cq_items;
      doorbells = cq_doorbells;
      tags = cq_tags;
      shown = record { held = s.shown.held; classed = s.shown.classed };
      ordered = s.ordered;
      regions = record { sqs = λ some. absurd (cq_on_regions some); cqs = λ some. absurd (cq_on_regions some) };
      account = λ on_time. early_account rules late notes c pool s Completion a n on_time;
    }

-- ---- as they are called
abbrev error_of : AdminError → Result ℕ AdminError
error_of e = Err e

same_Err : (a b : AdminError) → error_of a ≡ error_of b → a ≡ b
same_Err a b e = cc

-- a table that a submission region was added to, or that was left
pub record AddsSq (old new : PlacedTable) (a n : ℕ) (result : Result ℕ AdminError) : Type 0 where
  pub anywhere : is_some (placing_of old) ≡ true → result ≡ Err TooMany
  pub refused : placing_of old ≡ None → IfErr result (λ (e : AdminError). region_fault (content_of old) (content_of old).sq_regions a n ≡ Some e)
  pub added : OnOk result (region_fault (content_of old) (content_of old).sq_regions a n ≡ None)
  pub number : IfOk result (λ (r : ℕ). r ≡ length (content_of old).sq_regions)
  pub stands : OnOk result ((start : Start) (h : TableHistory) → Tells old (queue_table start h) → Tells new (queue_table start (RegionAdded Submission a n ∷ h)))
  pub unchanged : OnErr result (new ≡ old)

-- it was added just where queues lie on regions
sq-on : (old new : PlacedTable) (a n r : ℕ) → AddsSq old new a n (Ok r) → placing_of old ≡ None
sq-on old new a n r h = has_none (placing_of old) (false_from_ne_true (is_some (placing_of old)) (λ some. let refused = h.anywhere some in cc))

pub sq-call : (rules : FrontRules) (late : Bool) (notes : Notes) (c : Controller) (pool : List Slot) (s : StandsAt rules late notes c pool)
    (table : PlacedTable) (a n : ℕ) (result : Result ℕ AdminError) → AddsSq c.table table a n result
    → IfOk result (λ (r : ℕ). StandsAt (with_region Submission a n rules) (is_late rules late notes a) notes (with_table c table) pool)
sq-call rules late notes c pool s table a n (Ok r) h = sq_region-stands rules late notes c pool s table a n r (sq-on c.table table a n r h) h.number h.stands
sq-call rules late notes c pool s table a n (Err e) h = tt

pub sq-front : (c : Controller) (pool : List Slot) (table : PlacedTable) (a n : ℕ) (result : Result ℕ AdminError) → AddsSq c.table table a n result
    → IsController c pool → IsController (with_table c table) pool
sq-front c pool table a n (Ok r) h i = record {
  rules = with_region Submission a n i.rules;
  late = is_late i.rules i.late i.notes a;
  notes = i.notes;
  stands = sq-call i.rules i.late i.notes c pool i.stands table a n (Ok r) h;
}
sq-front c pool table a n (Err e) h i = subst (λ (t : PlacedTable). IsController (with_table c t) pool) (sym h.unchanged) i

pub sq-answered : (rules : FrontRules) (late : Bool) (notes : Notes) (c : Controller) (pool : List Slot) (s : StandsAt rules late notes c pool)
    (table : PlacedTable) (a n : ℕ) (result : Result ℕ AdminError) → AddsSq c.table table a n result
    → OnOk result (adding_fault Submission a n rules ≡ None) × IfErr result (λ (e : AdminError). adding_fault Submission a n rules ≡ Some e)
    × IfOk result (λ (r : ℕ). r ≡ length (sq_regions_of rules))
sq-answered rules late notes c pool s table a n (Ok r) h =
    let on = sq-on c.table table a n r h in
    (sym (sq-fault rules late notes c pool s a n on) ∙ h.added, tt, h.number ∙ ap (λ (rs : List Region). length rs) (table_sqs rules late notes c pool s a n on))
sq-answered rules late notes c pool s table a n (Err e) h = (tt, by (placing_of c.table) refl, tt) where
  by : (p : Option Placing) → placing_of c.table ≡ p → adding_fault Submission a n rules ≡ Some e
  by None on = sym (sq-fault rules late notes c pool s a n on) ∙ h.refused on
  by (Some p) is =
      let some : is_some (placing_of c.table) ≡ true = ap (λ (o : Option Placing). is_some o) is in
      anywhere-fault rules late notes c pool s a n Submission some ∙ ap Some (sym (same_Err e TooMany (h.anywhere some)))

pub sq-unchanged : (c : Controller) (table : PlacedTable) (a n : ℕ) (result : Result ℕ AdminError) → AddsSq c.table table a n result
    → OnErr result (with_table c table ≡ c)
sq-unchanged c table a n (Ok r) h = tt
sq-unchanged c table a n (Err e) h = ap (λ (t : PlacedTable). with_table c t) h.unchanged

-- a table that a completion region was added to, or that was left
pub record AddsCq (old new : PlacedTable) (a n : ℕ) (result : Result ℕ AdminError) : Type 0 where
  pub anywhere : is_some (placing_of old) ≡ true → result ≡ Err TooMany
  pub refused : placing_of old ≡ None → IfErr result (λ (e : AdminError). region_fault (content_of old) (content_of old).cq_regions a n ≡ Some e)
  pub added : OnOk result (region_fault (content_of old) (content_of old).cq_regions a n ≡ None)
  pub number : IfOk result (λ (r : ℕ). r ≡ length (content_of old).cq_regions)
  pub stands : OnOk result ((start : Start) (h : TableHistory) → Tells old (queue_table start h) → Tells new (queue_table start (RegionAdded Completion a n ∷ h)))
  pub unchanged : OnErr result (new ≡ old)

-- it was added just where queues lie on regions
cq-on : (old new : PlacedTable) (a n r : ℕ) → AddsCq old new a n (Ok r) → placing_of old ≡ None
cq-on old new a n r h = has_none (placing_of old) (false_from_ne_true (is_some (placing_of old)) (λ some. let refused = h.anywhere some in cc))

pub cq-call : (rules : FrontRules) (late : Bool) (notes : Notes) (c : Controller) (pool : List Slot) (s : StandsAt rules late notes c pool)
    (table : PlacedTable) (a n : ℕ) (result : Result ℕ AdminError) → AddsCq c.table table a n result
    → IfOk result (λ (r : ℕ). StandsAt (with_region Completion a n rules) (is_late rules late notes a) notes (with_table c table) pool)
cq-call rules late notes c pool s table a n (Ok r) h = cq_region-stands rules late notes c pool s table a n r (cq-on c.table table a n r h) h.number h.stands
cq-call rules late notes c pool s table a n (Err e) h = tt

pub cq-front : (c : Controller) (pool : List Slot) (table : PlacedTable) (a n : ℕ) (result : Result ℕ AdminError) → AddsCq c.table table a n result
    → IsController c pool → IsController (with_table c table) pool
cq-front c pool table a n (Ok r) h i = record {
  rules = with_region Completion a n i.rules;
  late = is_late i.rules i.late i.notes a;
  notes = i.notes;
  stands = cq-call i.rules i.late i.notes c pool i.stands table a n (Ok r) h;
}
cq-front c pool table a n (Err e) h i = subst (λ (t : PlacedTable). IsController (with_table c t) pool) (sym h.unchanged) i

pub cq-answered : (rules : FrontRules) (late : Bool) (notes : Notes) (c : Controller) (pool : List Slot) (s : StandsAt rules late notes c pool)
    (table : PlacedTable) (a n : ℕ) (result : Result ℕ AdminError) → AddsCq c.table table a n result
    → OnOk result (adding_fault Completion a n rules ≡ None) × IfErr result (λ (e : AdminError). adding_fault Completion a n rules ≡ Some e)
    × IfOk result (λ (r : ℕ). r ≡ length (cq_regions_of rules))
cq-answered rules late notes c pool s table a n (Ok r) h =
    let on = cq-on c.table table a n r h in
    (sym (cq-fault rules late notes c pool s a n on) ∙ h.added, tt, h.number ∙ ap (λ (rs : List Region). length rs) (table_cqs rules late notes c pool s a n on))
cq-answered rules late notes c pool s table a n (Err e) h = (tt, by (placing_of c.table) refl, tt) where
  by : (p : Option Placing) → placing_of c.table ≡ p → adding_fault Completion a n rules ≡ Some e
  by None on = sym (cq-fault rules late notes c pool s a n on) ∙ h.refused on
  by (Some p) is =
      let some : is_some (placing_of c.table) ≡ true = ap (λ (o : Option Placing). is_some o) is in
      anywhere-fault rules late notes c pool s a n Completion some ∙ ap Some (sym (same_Err e TooMany (h.anywhere some)))

pub cq-unchanged : (c : Controller) (table : PlacedTable) (a n : ℕ) (result : Result ℕ AdminError) → AddsCq c.table table a n result
    → OnErr result (with_table c table ≡ c)
cq-unchanged c table a n (Ok r) h = tt
cq-unchanged c table a n (Err e) h = ap (λ (t : PlacedTable). with_table c t) h.unchanged
