-- The queue table of a history in which only regions were added.
use Rattle.std.proofs.Common.{◌≡◌, ℕ, ◌==◌, true, false, if◌then◌else◌, List, [], ◌∷◌, ◌++◌, length, None, refl, sym, ap, ◌∙◌, append_assoc, append-nil, is_some}
use Rattle.std.specs.List.{list_any}
use Rattle.std.proofs.lemmas.Bool.{and_from}
use Rattle.std.proofs.lemmas.List.Folds.{list_all-append}
use Rattle.nvme_admin.specs.History.{Submission, Completion, Start, RegionAdded, EntryApplied, DeletionFinished, PlacedAnywhere, TableHistory, Effects}
use Rattle.nvme_admin.specs.QueueTable.{QueueTable, table_in, io_sq_in, io_cq_in, admin_sq, admin_cq, is_used, sq_regions_in, cq_regions_in, sq_named_in, cq_named_in, first_request_in, created_in, settings_in, placing_in, nsq_by, ncq_by}
use Rattle.nvme_admin.specs.Accepted.{effects_of, queue_table}
use Rattle.nvme_admin.specs.declared.region.Region.{Region}
use Rattle.nvme_log.specs.Rules.{FrontRules}
use Rattle.nvme_ctrl_log.specs.Making.{is_named, step_names, placing_in as placing_of}
use Rattle.nvme_engine.specs.Regions.{is_addition, only_adds}

-- the submission regions that a history adds, the first one first
abbrev pub added_sqs : TableHistory → List Region
added_sqs [] = []
added_sqs (RegionAdded Submission address slots ∷ past) = added_sqs past ++ record { address = address; slots = slots } ∷ []
added_sqs (step ∷ past) = added_sqs past

-- the completion regions that a history adds, the first one first
abbrev pub added_cqs : TableHistory → List Region
added_cqs [] = []
added_cqs (RegionAdded Completion address slots ∷ past) = added_cqs past ++ record { address = address; slots = slots } ∷ []
added_cqs (step ∷ past) = added_cqs past

-- the queue table with these regions, in which nothing else happened: it has the admin queues alone
abbrev pub first_table : Start → List Region → List Region → QueueTable
first_table start sqs cqs = record {
  sq = λ (q : ℕ). if q == 0 then admin_sq sqs else None;
  cq = λ (q : ℕ). if q == 0 then admin_cq cqs else None;
  sq_regions = sqs;
  cq_regions = cqs;
  sq_region_used = is_used [];
  cq_region_used = is_used [];
  nsq = start.nsq;
  ncq = start.ncq;
  numbers_set = false;
  created = false;
  settings = start.settings;
  placing = None;
  sqs_made = 0;
  cqs_made = 0;
}

-- steps that took effect which leave all but the regions
record Leaves (start : Start) (e : Effects) (h : TableHistory) : Type 0 where
  sqs : sq_regions_in e ≡ added_sqs h
  cqs : cq_regions_in e ≡ added_cqs h
  no_sq : (q : ℕ) → io_sq_in e q ≡ None
  no_cq : (q : ℕ) → io_cq_in e q ≡ None
  no_sq_named : sq_named_in e ≡ []
  no_cq_named : cq_named_in e ≡ []
  no_request : first_request_in e ≡ None
  not_created : created_in e ≡ false
  same_settings : settings_in start e ≡ start.settings
  on_regions : placing_in e ≡ None

-- additions leave all but the regions
leaves : (start : Start) (h : TableHistory) → only_adds h ≡ true → Leaves start (effects_of start h) h
unfolding effects_of
leaves start [] adds = record {
  sqs = refl;
  cqs = refl;
  no_sq = λ q. refl;
  no_cq = λ q. refl;
  no_sq_named = refl;
  no_cq_named = refl;
  no_request = refl;
  not_created = refl;
  same_settings = refl;
  on_regions = refl;
}
leaves start (RegionAdded Submission address slots ∷ h) adds =
    let l = leaves start h adds in
    record {
      sqs = ap (λ (rs : List Region). rs ++ record { address = address; slots = slots } ∷ []) l.sqs;
      cqs = l.cqs;
      no_sq = l.no_sq;
      no_cq = l.no_cq;
      no_sq_named = l.no_sq_named;
      no_cq_named = l.no_cq_named;
      no_request = l.no_request;
      not_created = l.not_created;
      same_settings = l.same_settings;
      on_regions = l.on_regions;
    }
leaves start (RegionAdded Completion address slots ∷ h) adds =
    let l = leaves start h adds in
    record {
      sqs = l.sqs;
      cqs = ap (λ (rs : List Region). rs ++ record { address = address; slots = slots } ∷ []) l.cqs;
      no_sq = l.no_sq;
      no_cq = l.no_cq;
      no_sq_named = l.no_sq_named;
      no_cq_named = l.no_cq_named;
      no_request = l.no_request;
      not_created = l.not_created;
      same_settings = l.same_settings;
      on_regions = l.on_regions;
    }
leaves start (EntryApplied entry ∷ h) adds = cc
leaves start (DeletionFinished qid ∷ h) adds = cc
leaves start (PlacedAnywhere p ∷ h) adds = cc

-- what leaves all but the regions has the table of the regions
table_of-leaves : (start : Start) (e : Effects) (h : TableHistory) → Leaves start e h → table_in start e ≡ first_table start (added_sqs h) (added_cqs h)
table_of-leaves start e h l = λ i. record {
  sq = λ (q : ℕ). if q == 0 then admin_sq (l.sqs i) else l.no_sq q i;
  cq = λ (q : ℕ). if q == 0 then admin_cq (l.cqs i) else l.no_cq q i;
  sq_regions = l.sqs i;
  cq_regions = l.cqs i;
  sq_region_used = is_used (l.no_sq_named i);
  cq_region_used = is_used (l.no_cq_named i);
  nsq = nsq_by start (l.no_request i);
  ncq = ncq_by start (l.no_request i);
  numbers_set = is_some (l.no_request i);
  created = l.not_created i;
  settings = l.same_settings i;
  placing = l.on_regions i;
  sqs_made = length (l.no_sq_named i);
  cqs_made = length (l.no_cq_named i);
}

-- the queue table of additions alone is that of their regions
pub table_of-additions : (start : Start) (h : TableHistory) → only_adds h ≡ true → queue_table start h ≡ first_table start (added_sqs h) (added_cqs h)
unfolding queue_table
table_of-additions start h adds = table_of-leaves start (effects_of start h) h (leaves start h adds)

-- two histories of additions alone that add the same regions have one queue table
pub same_table : (start : Start) (h g : TableHistory) → only_adds h ≡ true → only_adds g ≡ true → added_sqs h ≡ added_sqs g → added_cqs h ≡ added_cqs g
    → queue_table start h ≡ queue_table start g
same_table start h g adds_h adds_g sqs cqs =
    table_of-additions start h adds_h ∙ (λ i. first_table start (sqs i) (cqs i)) ∙ sym (table_of-additions start g adds_g)

-- ---- histories one after the other
pub added_sqs-append : (h g : TableHistory) → added_sqs (h ++ g) ≡ added_sqs g ++ added_sqs h
added_sqs-append [] g = sym (append-nil (added_sqs g))
added_sqs-append (RegionAdded Submission address slots ∷ h) g =
    ap (λ (rs : List Region). rs ++ record { address = address; slots = slots } ∷ []) (added_sqs-append h g) ∙ append_assoc (added_sqs g) (added_sqs h) (record { address = address; slots = slots } ∷ [])
added_sqs-append (RegionAdded Completion address slots ∷ h) g = added_sqs-append h g
added_sqs-append (EntryApplied entry ∷ h) g = added_sqs-append h g
added_sqs-append (DeletionFinished qid ∷ h) g = added_sqs-append h g
added_sqs-append (PlacedAnywhere p ∷ h) g = added_sqs-append h g

-- the same of completion regions
pub added_cqs-append : (h g : TableHistory) → added_cqs (h ++ g) ≡ added_cqs g ++ added_cqs h
added_cqs-append [] g = sym (append-nil (added_cqs g))
added_cqs-append (RegionAdded Completion address slots ∷ h) g =
    ap (λ (rs : List Region). rs ++ record { address = address; slots = slots } ∷ []) (added_cqs-append h g) ∙ append_assoc (added_cqs g) (added_cqs h) (record { address = address; slots = slots } ∷ [])
added_cqs-append (RegionAdded Submission address slots ∷ h) g = added_cqs-append h g
added_cqs-append (EntryApplied entry ∷ h) g = added_cqs-append h g
added_cqs-append (DeletionFinished qid ∷ h) g = added_cqs-append h g
added_cqs-append (PlacedAnywhere p ∷ h) g = added_cqs-append h g

-- two histories of additions alone, one after the other
pub only_adds-append : (h g : TableHistory) → only_adds h ≡ true → only_adds g ≡ true → only_adds (h ++ g) ≡ true
only_adds-append h g adds_h adds_g = list_all-append is_addition h g ∙ and_from (only_adds h) (only_adds g) adds_h adds_g

-- ---- rules that only add regions
-- the queues of such rules lie on regions
pub on_regions : (rules : FrontRules) → only_adds rules.regions ≡ true → placing_of rules ≡ None
on_regions rules adds = ap (λ (t : QueueTable). t.placing) (table_of-additions rules.start rules.regions adds)

-- no Create stands among additions
none_named_in : (address : ℕ) (h : TableHistory) → only_adds h ≡ true → list_any (step_names address) h ≡ false
none_named_in address [] adds = refl
none_named_in address (RegionAdded kind a slots ∷ h) adds = none_named_in address h adds
none_named_in address (EntryApplied entry ∷ h) adds = cc adds
none_named_in address (DeletionFinished qid ∷ h) adds = cc adds
none_named_in address (PlacedAnywhere p ∷ h) adds = cc adds

-- so none named an address before the first event
pub none_named : (rules : FrontRules) → only_adds rules.regions ≡ true → (address : ℕ) → is_named rules [] address ≡ false
none_named rules adds address = none_named_in address rules.regions adds
