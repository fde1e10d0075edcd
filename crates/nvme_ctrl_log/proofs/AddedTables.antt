-- A queue table to which a region was added: its queues are left where its admin queues were there.
use Rattle.std.proofs.Common.{◌≡◌, ◌≢◌, ℕ, suc, ◌+◌, ◌<◌, ◌≤◌, ◌==◌, if◌then◌else◌, List, [], ◌∷◌, ◌++◌, length, map, Option, Some, refl, sym, ap, ◌∙◌, subst, arith, inl, inr, ne_eqb}
use Rattle.std.specs.Prelude.{slice_index_or}
use Rattle.std.proofs.lemmas.Bool.{cases_eq, cases_lt}
use Rattle.std.proofs.lemmas.List.{length_push, length-map, map-append, get_or_append_left, get_or_past}
use Rattle.nvme_admin.specs.History.{Start, TableHistory, RegionAdded, Submission, Completion}
use Rattle.nvme_admin.specs.QueueTable.{admin_sq, admin_cq, QueueTable}
use Rattle.nvme_admin.specs.Changes.{admin_queue as admin_entry}
use Rattle.nvme_admin.specs.Accepted.{effects_of, queue_table, sq_at, cq_at}
use Rattle.nvme_admin.specs.declared.region.Region.{Region}
use Rattle.nvme_admin.proofs.Changed.{region-opens_admin, cq_region-opens_admin}
use Rattle.nvme_log.specs.Rules.{FrontRules, sq_regions_of, cq_regions_of, slots_at}
use Rattle.nvme_ctrl_log.specs.Making.{with_region}

-- with a submission region there is the admin submission queue
admin_sq-some : (rs : List Region) → 0 < length rs → admin_sq rs ≡ Some admin_entry
admin_sq-some [] lt = absurd (omega arith)
admin_sq-some (r ∷ rs) lt = refl

-- with a completion region there is the admin completion queue
admin_cq-some : (rs : List Region) → 0 < length rs → admin_cq rs ≡ Some 0
admin_cq-some [] lt = absurd (omega arith)
admin_cq-some (r ∷ rs) lt = refl

module _ (start : Start) (h : TableHistory) (v : QueueTable) (is : v ≡ queue_table start h) where
  -- the admin queues are in the table once their regions are there
  admin_sq-there : 0 < length v.sq_regions → sq_at start h 0 ≡ Some admin_entry
  unfolding queue_table
  admin_sq-there some = ap (λ (t : QueueTable). admin_sq t.sq_regions) (sym is) ∙ admin_sq-some v.sq_regions some

  -- the same of the admin completion queue
  admin_cq-there : 0 < length v.cq_regions → cq_at start h 0 ≡ Some 0
  unfolding queue_table
  admin_cq-there some = ap (λ (t : QueueTable). admin_cq t.cq_regions) (sym is) ∙ admin_cq-some v.cq_regions some

-- what is there already stays when it is put there again
put_again : {A : Type 0} (f : ℕ → Option A) (x : A) → f 0 ≡ Some x → (q : ℕ) → (if q == 0 then Some x else f q) ≡ f q
put_again f x here q = elim (cases_eq q 0) [
  | inl z ↦ subst (λ (n : ℕ). (if n == 0 then Some x else f n) ≡ f n) (sym z) (sym here)
  | inr n ↦ λ j. if (ne_eqb q 0 n) j then Some x else f q
]

module _ (start : Start) (h : TableHistory) (v w : QueueTable) (a n : ℕ) (before : v ≡ queue_table start h) where
  -- a new submission region leaves the submission queues of the table,
  pub sq-same_sq : w ≡ queue_table start (RegionAdded Submission a n ∷ h) → 0 < length v.sq_regions → (q : ℕ) → w.sq q ≡ v.sq q
  sq-same_sq after some q =
      ap (λ (t : QueueTable). t.sq q) after ∙ region-opens_admin start h a n q ∙ put_again (λ (z : ℕ). sq_at start h z) admin_entry (admin_sq-there start h v before some) q ∙ sym (ap (λ (t : QueueTable). t.sq q) before)

  -- its completion queues,
  pub sq-same_cq : w ≡ queue_table start (RegionAdded Submission a n ∷ h) → (q : ℕ) → w.cq q ≡ v.cq q
  unfolding effects_of queue_table
  sq-same_cq after q = ap (λ (t : QueueTable). t.cq q) after ∙ sym (ap (λ (t : QueueTable). t.cq q) before)

  -- and which regions are used;
  pub sq-same_used : w ≡ queue_table start (RegionAdded Submission a n ∷ h) → (r : ℕ) → w.sq_region_used r ≡ v.sq_region_used r
  unfolding effects_of queue_table
  sq-same_used after r = ap (λ (t : QueueTable). t.sq_region_used r) after ∙ sym (ap (λ (t : QueueTable). t.sq_region_used r) before)

  -- of both kinds;
  pub sq-same_cq_used : w ≡ queue_table start (RegionAdded Submission a n ∷ h) → (r : ℕ) → w.cq_region_used r ≡ v.cq_region_used r
  unfolding effects_of queue_table
  sq-same_cq_used after r = ap (λ (t : QueueTable). t.cq_region_used r) after ∙ sym (ap (λ (t : QueueTable). t.cq_region_used r) before)

  -- there is one submission region more,
  pub sq-more_sqs : w ≡ queue_table start (RegionAdded Submission a n ∷ h) → length w.sq_regions ≡ length v.sq_regions + 1
  unfolding effects_of queue_table
  sq-more_sqs after =
      ap (λ (t : QueueTable). length t.sq_regions) after ∙ length_push (queue_table start h).sq_regions (record { address = a; slots = n })
      ∙ ap (λ (rs : List Region). length rs + 1) (sym (ap (λ (t : QueueTable). t.sq_regions) before))

  -- which is the new one,
  pub sq-added : w ≡ queue_table start (RegionAdded Submission a n ∷ h) → w.sq_regions ≡ v.sq_regions ++ record { address = a; slots = n } ∷ []
  unfolding effects_of queue_table
  sq-added after = ap (λ (t : QueueTable). t.sq_regions) after ∙ ap (λ (rs : List Region). rs ++ record { address = a; slots = n } ∷ []) (sym (ap (λ (t : QueueTable). t.sq_regions) before))

  -- and the completion regions are left,
  pub sq-leaves : w ≡ queue_table start (RegionAdded Submission a n ∷ h) → w.cq_regions ≡ v.cq_regions
  unfolding effects_of queue_table
  sq-leaves after = ap (λ (t : QueueTable). t.cq_regions) after ∙ sym (ap (λ (t : QueueTable). t.cq_regions) before)

  -- as many as they are
  pub sq-same_cqs : w ≡ queue_table start (RegionAdded Submission a n ∷ h) → length w.cq_regions ≡ length v.cq_regions
  unfolding effects_of queue_table
  sq-same_cqs after = ap (λ (rs : List Region). length rs) (sq-leaves after)

  -- where queues may lie stays
  pub sq-same_placing : w ≡ queue_table start (RegionAdded Submission a n ∷ h) → w.placing ≡ v.placing
  unfolding effects_of queue_table
  sq-same_placing after = ap (λ (t : QueueTable). t.placing) after ∙ sym (ap (λ (t : QueueTable). t.placing) before)

  pub cq-same_placing : w ≡ queue_table start (RegionAdded Completion a n ∷ h) → w.placing ≡ v.placing
  unfolding effects_of queue_table
  cq-same_placing after = ap (λ (t : QueueTable). t.placing) after ∙ sym (ap (λ (t : QueueTable). t.placing) before)

  -- a new completion region leaves the completion queues of the table,
  pub cq-same_cq : w ≡ queue_table start (RegionAdded Completion a n ∷ h) → 0 < length v.cq_regions → (q : ℕ) → w.cq q ≡ v.cq q
  cq-same_cq after some q =
      ap (λ (t : QueueTable). t.cq q) after ∙ cq_region-opens_admin start h a n q ∙ put_again (λ (z : ℕ). cq_at start h z) 0 (admin_cq-there start h v before some) q ∙ sym (ap (λ (t : QueueTable). t.cq q) before)

  -- its submission queues,
  pub cq-same_sq : w ≡ queue_table start (RegionAdded Completion a n ∷ h) → (q : ℕ) → w.sq q ≡ v.sq q
  unfolding effects_of queue_table
  cq-same_sq after q = ap (λ (t : QueueTable). t.sq q) after ∙ sym (ap (λ (t : QueueTable). t.sq q) before)

  -- and which regions are used;
  pub cq-same_used : w ≡ queue_table start (RegionAdded Completion a n ∷ h) → (r : ℕ) → w.sq_region_used r ≡ v.sq_region_used r
  unfolding effects_of queue_table
  cq-same_used after r = ap (λ (t : QueueTable). t.sq_region_used r) after ∙ sym (ap (λ (t : QueueTable). t.sq_region_used r) before)

  -- of both kinds;
  pub cq-same_cq_used : w ≡ queue_table start (RegionAdded Completion a n ∷ h) → (r : ℕ) → w.cq_region_used r ≡ v.cq_region_used r
  unfolding effects_of queue_table
  cq-same_cq_used after r = ap (λ (t : QueueTable). t.cq_region_used r) after ∙ sym (ap (λ (t : QueueTable). t.cq_region_used r) before)

  -- the submission regions are left,
  pub cq-leaves : w ≡ queue_table start (RegionAdded Completion a n ∷ h) → w.sq_regions ≡ v.sq_regions
  unfolding effects_of queue_table
  cq-leaves after = ap (λ (t : QueueTable). t.sq_regions) after ∙ sym (ap (λ (t : QueueTable). t.sq_regions) before)

  -- as many as they are,
  pub cq-same_sqs : w ≡ queue_table start (RegionAdded Completion a n ∷ h) → length w.sq_regions ≡ length v.sq_regions
  unfolding effects_of queue_table
  cq-same_sqs after = ap (λ (rs : List Region). length rs) (cq-leaves after)

  -- and there is one completion region more,
  pub cq-more_cqs : w ≡ queue_table start (RegionAdded Completion a n ∷ h) → length w.cq_regions ≡ length v.cq_regions + 1
  unfolding effects_of queue_table
  cq-more_cqs after =
      ap (λ (t : QueueTable). length t.cq_regions) after ∙ length_push (queue_table start h).cq_regions (record { address = a; slots = n })
      ∙ ap (λ (rs : List Region). length rs + 1) (sym (ap (λ (t : QueueTable). t.cq_regions) before))

  -- which is the new one
  pub cq-added : w ≡ queue_table start (RegionAdded Completion a n ∷ h) → w.cq_regions ≡ v.cq_regions ++ record { address = a; slots = n } ∷ []
  unfolding effects_of queue_table
  cq-added after = ap (λ (t : QueueTable). t.cq_regions) after ∙ ap (λ (rs : List Region). rs ++ record { address = a; slots = n } ∷ []) (sym (ap (λ (t : QueueTable). t.cq_regions) before))

-- ---- slots
-- the slots of regions with one more
pub slots_before : (rs : List Region) (x : Region) (r : ℕ) → r < length rs → slots_at (rs ++ x ∷ []) r ≡ slots_at rs r
slots_before rs x r below =
    ap (λ (ns : List ℕ). slice_index_or ns r 0) (map-append (λ (y : Region). y.slots) rs (x ∷ []))
    ∙ get_or_append_left (map (λ (y : Region). y.slots) rs) (x.slots ∷ []) 0 r (omega (arith, below, length-map rs (λ (y : Region). y.slots)))

pub slots_last : (rs : List Region) (x : Region) → slots_at (rs ++ x ∷ []) (length rs) ≡ x.slots
slots_last [] x = refl
slots_last (r ∷ rs) x = let next : length (r ∷ rs) ≡ suc (length rs) = omega arith in ap (λ (n : ℕ). slots_at ((r ∷ rs) ++ x ∷ []) n) next ∙ slots_last rs x

-- a region that isn't there has none
pub slots_past : (rs : List Region) (r : ℕ) → length rs ≤ r → slots_at rs r ≡ 0
slots_past rs r past = get_or_past (map (λ (y : Region). y.slots) rs) r 0 (omega (arith, past, length-map rs (λ (y : Region). y.slots)))

pub slots_other : (rs : List Region) (x : Region) (r : ℕ) → r ≢ length rs → slots_at (rs ++ x ∷ []) r ≡ slots_at rs r
slots_other rs x r other = elim (cases_lt r (length rs)) [
  | inl below ↦ slots_before rs x r below
  | inr past ↦ slots_past (rs ++ x ∷ []) r (omega (arith, past, other, length_push rs x)) ∙ sym (slots_past rs r past)
]

-- ---- rules
-- the regions of the rules with a region more
pub sq-more : (a n : ℕ) (rules : FrontRules) → sq_regions_of (with_region Submission a n rules) ≡ sq_regions_of rules ++ record { address = a; slots = n } ∷ []
unfolding effects_of queue_table
sq-more a n rules = refl

pub sq-same : (a n : ℕ) (rules : FrontRules) → cq_regions_of (with_region Submission a n rules) ≡ cq_regions_of rules
unfolding effects_of queue_table
sq-same a n rules = refl

pub cq-more : (a n : ℕ) (rules : FrontRules) → cq_regions_of (with_region Completion a n rules) ≡ cq_regions_of rules ++ record { address = a; slots = n } ∷ []
unfolding effects_of queue_table
cq-more a n rules = refl

pub cq-same : (a n : ℕ) (rules : FrontRules) → sq_regions_of (with_region Completion a n rules) ≡ sq_regions_of rules
unfolding effects_of queue_table
cq-same a n rules = refl
