-- The completion regions on which queues were opened are there.
use Rattle.std.proofs.Common.{◌≡◌, ℕ, ◌<◌, ◌==◌, ◌||◌, Bool, true, false, if◌then◌else◌, List, [], ◌∷◌, ◌++◌, length, Option, Some, None, refl, sym, ap, ◌∙◌, subst, arith, inl, inr, true≢false, option_to_list, option_map}
use Rattle.std.specs.List.{list_any}
use Rattle.std.proofs.lemmas.Bool.{cases_Bool, eqb-true}
use Rattle.std.proofs.lemmas.List.{length_push}
use Rattle.std.proofs.lemmas.List.Quantifiers.{position-Some}
use Rattle.nvme_entry.specs.declared.admin.AdminCommand.TheVariants.{DeleteSq, CreateSq, DeleteCq, CreateCq, Abort, SetFeatures, GetFeatures, Other}
use Rattle.nvme_admin.specs.declared.region.Region.{Region}
use Rattle.nvme_admin.specs.History.{Start, TableHistory, Placing, Submission, Completion, Effects, Added, Accepted, Finished, Anywhere}
use Rattle.nvme_admin.specs.QueueTable.{QueueTable, region_number, number_by, placing_in, created_in, cq_regions_in, cq_named_in}
use Rattle.nvme_admin.specs.Accepted.{effects_of, queue_table}
use Rattle.nvme_log.specs.Rules.{FrontRules, cq_regions_of}
use Rattle.nvme_ctrl_log.specs.Making.{placing_in as placing_of}
use Rattle.nvme_ctrl_log.specs.Notes.{Notes, logged}
use Rattle.nvme_slots.specs.declared.slot.Slot.{Slot}
use Rattle.nvme_ctrl.specs.declared.state.Controller.{Controller}
use Rattle.nvme_ctrl.specs.kept.Kept.{StandsAt}
use Rattle.nvme_ctrl_log.specs.Regions.{is_opened_cq}
use Rattle.nvme_ctrl_content.specs.Content.{Attachment}

-- a region that a Create named is one of those that were there
number_below : (regions : List Region) (prp1 : ℕ) (x : ℕ) → region_number regions prp1 ≡ Some x → x < length regions
number_below regions prp1 x is = (position-Some (λ (r : Region). r.address == prp1) regions x (record { address = 0; slots = 0 }) is).0

named_one : (regions : List Region) (named : List ℕ) (o : Option ℕ) → ((k : ℕ) → o ≡ Some k → k < length regions)
    → ((x : ℕ) → list_any (λ (n : ℕ). n == x) named ≡ true → x < length regions) → (x : ℕ) → list_any (λ (n : ℕ). n == x) (option_to_list o ++ named) ≡ true → x < length regions
named_one regions named None here before x is = before x is
named_one regions named (Some k) here before x is = elim (cases_Bool (k == x)) [
  | inl same ↦ subst (λ (z : ℕ). z < length regions) (eqb-true k x same) (here k refl)
  | inr other ↦ before x (sym (ap (λ (b : Bool). b || list_any (λ (n : ℕ). n == x) named) other) ∙ is)
]

-- so all that were named are there, where queues lie on regions
named_below : (e : Effects) → placing_in e ≡ None → (x : ℕ) → list_any (λ (n : ℕ). n == x) (cq_named_in e) ≡ true → x < length (cq_regions_in e)
named_below [] on x is = absurd (true≢false (sym is))
named_below (Added Submission address slots ∷ e) on x is = named_below e on x is
named_below (Added Completion address slots ∷ e) on x is =
    let below = named_below e on x is in
    omega (arith, below, length_push (cq_regions_in e) (record { address = address; slots = slots }))
named_below (Accepted (CreateCq qid qsize prp1 pc) ∷ e) on x is =
    named_one (cq_regions_in e) (cq_named_in e) (region_number (cq_regions_in e) prp1) (number_below (cq_regions_in e) prp1) (named_below e on) x
    (subst (λ (p : Option Placing). list_any (λ (n : ℕ). n == x) (option_to_list (number_by p (length (cq_named_in e)) (cq_regions_in e) prp1) ++ cq_named_in e) ≡ true) on is)
named_below (Accepted (CreateSq qid qsize prp1 cqid qprio pc) ∷ e) on x is = named_below e on x is
named_below (Accepted (DeleteSq qid) ∷ e) on x is = named_below e on x is
named_below (Accepted (DeleteCq qid) ∷ e) on x is = named_below e on x is
named_below (Accepted (Abort sqid cid) ∷ e) on x is = named_below e on x is
named_below (Accepted (SetFeatures fid sv cdw11) ∷ e) on x is = named_below e on x is
named_below (Accepted (GetFeatures fid) ∷ e) on x is = named_below e on x is
named_below (Accepted Other ∷ e) on x is = named_below e on x is
named_below (Finished qid ∷ e) on x is = named_below e on x is
named_below (Anywhere p ∷ e) on x is = named_below e (still (created_in e) on) x is where
  still : (b : Bool) → (if b then placing_in e else Some p) ≡ None → placing_in e ≡ None
  still true none = none
  still false none = absurd (cc none)

-- a used region is there, as region 0 is
used_below : (start : Start) (h : TableHistory) → (queue_table start h).placing ≡ None → 0 < length (queue_table start h).cq_regions
    → (x : ℕ) → (queue_table start h).cq_region_used x ≡ true → x < length (queue_table start h).cq_regions
unfolding queue_table
used_below start h on some x used = elim (cases_Bool (x == 0)) [
  | inl first ↦ subst (λ (z : ℕ). z < length (cq_regions_in (effects_of start h))) (sym (eqb-true x 0 first)) some
  | inr other ↦ named_below (effects_of start h) on x (sym (ap (λ (b : Bool). b || list_any (λ (n : ℕ). n == x) (cq_named_in (effects_of start h))) other) ∙ used)
]

-- a region of which an identifier is told was opened for a queue
opened_for : (o : Option Attachment) → Some 0 ≡ option_map (λ (a : Attachment). a.qid) o → (a : Attachment) × (o ≡ Some a)
opened_for None e = absurd (cc e)
opened_for (Some a) e = (a, refl)

-- the region of a completion queue that was opened is one of the rules
pub opened_below : (rules : FrontRules) (late : Bool) (notes : Notes) (c : Controller) (pool : List Slot) (s : StandsAt rules late notes c pool) → placing_of rules ≡ None
    → (x : ℕ) → is_opened_cq (logged notes) x ≡ true → x < length (cq_regions_of rules)
opened_below rules late notes c pool s on x opened = by (s.content.table.cq_region_used x) refl where
  by : (b : Bool) → s.content.table.cq_region_used x ≡ b → x < length (cq_regions_of rules)
  by false unused = absurd (true≢false (sym opened ∙ s.holds.lives.unopened x unused))
  by true used =
      let table = s.holds.tabled.table_is in
      let count : length (queue_table rules.start s.holds.tabled.history).cq_regions ≡ s.content.ncq = ap (λ (t : QueueTable). length t.cq_regions) (sym table) ∙ s.holds.tabled.cq_count in
      let admin = opened_for (s.content.sq 0).queue (sym s.holds.ready.admin_qid ∙ s.holds.queues.qid_is 0) in
      let there = s.holds.queues.posts_there 0 admin.0 admin.1 in
      let some : 0 < s.content.ncq = omega (arith, there) in
      let below = used_below rules.start s.holds.tabled.history (ap (λ (t : QueueTable). t.placing) (sym table) ∙ s.holds.tabled.placing ∙ on) (omega (arith, count, some)) x
      (ap (λ (t : QueueTable). t.cq_region_used x) (sym table) ∙ used) in
      omega (arith, below, count, s.holds.tabled.cq_number)
