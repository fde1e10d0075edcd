-- An account has no note of a region that isn't there.
use Rattle.std.proofs.Common.{◌≡◌, ℕ, ◌+◌, ◌<◌, ◌≤◌, ◌%◌, ◌==◌, Bool, true, false, if◌then◌else◌, List, [], ◌∷◌, ◌++◌, length, refl, ap, ◌∙◌, subst, arith}
use Rattle.std.proofs.lemmas.Bool.{eqb-true}
use Rattle.std.proofs.lemmas.List.{length_push}
use Rattle.nvme_admin.specs.History.{Kind, Submission, Completion}
use Rattle.nvme_admin.specs.declared.region.Region.{Region}
use Rattle.nvme_log.specs.declared.event.Event.TheVariants.{Fetch, Post}
use Rattle.nvme_log.specs.Rules.{FrontRules, Past, sq_regions_of, cq_regions_of, slots_at}
use Rattle.nvme_log.specs.Places.{fetched}
use Rattle.nvme_log.specs.Completions.{posted_to}
use Rattle.nvme_ctrl_log.specs.Notes.{Notes, Logged, Tail, Head, EachNote, logged}
use Rattle.nvme_ctrl_log.specs.Doorbells.{gap, sq_slots, cq_slots, submitted, consumed}
use Rattle.nvme_ctrl_log.specs.Making.{with_region}
use Rattle.nvme_ctrl_log.specs.Account.{IsLawful}
use Rattle.nvme_ctrl_log.proofs.AddedTables.{sq-more, sq-same, cq-more, cq-same, slots_before, slots_past}

module _ (rules : FrontRules) where
  -- ---- submission regions
  module _ (r : ℕ) (beyond : length (sq_regions_of rules) ≤ r) where
    no_sq_slots : sq_slots rules r ≡ 0
    no_sq_slots = slots_past (sq_regions_of rules) r beyond

    -- no doorbell names it
    none_submitted : (notes : Notes) → EachNote (IsLawful rules) notes → submitted rules notes r ≡ 0
    none_submitted [] h = refl
    none_submitted (Tail region slot ∷ notes) h = by (region == r) refl (none_submitted notes h.1) where
      by : (b : Bool) → (region == r) ≡ b → submitted rules notes r ≡ 0
          → (if b then submitted rules notes r + gap (sq_slots rules r) (submitted rules notes r % sq_slots rules r) slot else submitted rules notes r) ≡ 0
      by true e none =
          let some : slot < sq_slots rules r = subst (λ (x : ℕ). slot < sq_slots rules x) (eqb-true region r e) h.0.is_slot in
          absurd (omega (arith, some, no_sq_slots))
      by false e none = none
    none_submitted (note ∷ notes) h = none_submitted notes h.1

    -- so nothing is fetched of it
    pub none_fetched_beyond : (notes : Notes) → EachNote (IsLawful rules) notes → fetched (logged notes) r ≡ []
    none_fetched_beyond [] h = refl
    none_fetched_beyond (Logged (Fetch region i entry) ∷ notes) h = by (region == r) refl (none_fetched_beyond notes h.1) where
      by : (b : Bool) → (region == r) ≡ b → fetched (logged notes) r ≡ [] → (if b then fetched (logged notes) r ++ entry ∷ [] else fetched (logged notes) r) ≡ []
      by true e none =
          let some : length (fetched (logged notes) r) < submitted rules notes r =
          subst (λ (x : ℕ). length (fetched (logged notes) x) < submitted rules notes x) (eqb-true region r e) h.0.fetches_submitted in
          absurd (omega (arith, some, none_submitted notes h.1))
      by false e none = none
    none_fetched_beyond (note ∷ notes) h = none_fetched_beyond notes h.1

  -- ---- completion regions
  module _ (c : ℕ) (beyond : length (cq_regions_of rules) ≤ c) where
    no_cq_slots : cq_slots rules c ≡ 0
    no_cq_slots = slots_past (cq_regions_of rules) c beyond

    none_consumed : (notes : Notes) → EachNote (IsLawful rules) notes → consumed rules notes c ≡ 0
    none_consumed [] h = refl
    none_consumed (Head region slot ∷ notes) h = by (region == c) refl (none_consumed notes h.1) where
      by : (b : Bool) → (region == c) ≡ b → consumed rules notes c ≡ 0
          → (if b then consumed rules notes c + gap (cq_slots rules c) (consumed rules notes c % cq_slots rules c) slot else consumed rules notes c) ≡ 0
      by true e none =
          let some : slot < cq_slots rules c = subst (λ (x : ℕ). slot < cq_slots rules x) (eqb-true region c e) h.0.is_slot in
          absurd (omega (arith, some, no_cq_slots))
      by false e none = none
    none_consumed (note ∷ notes) h = none_consumed notes h.1

    -- so nothing is posted to it
    pub none_posted_beyond : (notes : Notes) → EachNote (IsLawful rules) notes → posted_to (logged notes) c ≡ []
    none_posted_beyond [] h = refl
    none_posted_beyond (Logged (Post region r i cqe) ∷ notes) h = by (region == c) refl (none_posted_beyond notes h.1) where
      by : (b : Bool) → (region == c) ≡ b → posted_to (logged notes) c ≡ [] → (if b then posted_to (logged notes) c ++ cqe ∷ [] else posted_to (logged notes) c) ≡ []
      by true e none =
          let room : length (posted_to (logged notes) c) + 1 < consumed rules notes c + cq_slots rules c =
          subst (λ (x : ℕ). length (posted_to (logged notes) x) + 1 < consumed rules notes x + cq_slots rules x) (eqb-true region c e) h.0.posts_on_free_slot in
          absurd (omega (arith, room, none_consumed notes h.1, no_cq_slots))
      by false e none = none
    none_posted_beyond (note ∷ notes) h = none_posted_beyond notes h.1

-- the rules with more regions leave the slots of those that are there, and nothing happened to the others
pub record LeavesRegions (rules others : FrontRules) (past : Past) : Type 0 where
  pub sqs : length (sq_regions_of rules) ≤ length (sq_regions_of others)
  pub sq_left : (r : ℕ) → r < length (sq_regions_of rules) → sq_slots others r ≡ sq_slots rules r
  pub cq_left : (c : ℕ) → c < length (cq_regions_of rules) → cq_slots others c ≡ cq_slots rules c
  pub none_fetched : (r : ℕ) → length (sq_regions_of rules) ≤ r → fetched past r ≡ []
  pub none_posted : (c : ℕ) → length (cq_regions_of rules) ≤ c → posted_to past c ≡ []

-- so do those with one more
pub leaves_regions : (rules : FrontRules) (kind : Kind) (a n : ℕ) (notes : Notes) → EachNote (IsLawful rules) notes → LeavesRegions rules (with_region kind a n rules) (logged notes)
leaves_regions rules Submission a n notes h = record {
  sqs = omega (arith, ap (λ (rs : List Region). length rs) (sq-more a n rules), length_push (sq_regions_of rules) (record { address = a; slots = n }));
  sq_left = λ r below. ap (λ (rs : List Region). slots_at rs r) (sq-more a n rules) ∙ slots_before (sq_regions_of rules) (record { address = a; slots = n }) r below;
  cq_left = λ c below. ap (λ (rs : List Region). slots_at rs c) (sq-same a n rules);
  none_fetched = λ r beyond. none_fetched_beyond rules r beyond notes h;
  none_posted = λ c beyond. none_posted_beyond rules c beyond notes h;
}
leaves_regions rules Completion a n notes h = record {
  sqs = omega (arith, ap (λ (rs : List Region). length rs) (cq-same a n rules));
  sq_left = λ r below. ap (λ (rs : List Region). slots_at rs r) (cq-same a n rules);
  cq_left = λ c below. ap (λ (rs : List Region). slots_at rs c) (cq-more a n rules) ∙ slots_before (cq_regions_of rules) (record { address = a; slots = n }) c below;
  none_fetched = λ r beyond. none_fetched_beyond rules r beyond notes h;
  none_posted = λ c beyond. none_posted_beyond rules c beyond notes h;
}
