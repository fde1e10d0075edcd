-- A region is added to an engine.
use Rattle.std.proofs.Common.{◌≡◌, ◌≢◌, ℕ, ◌≤◌, ◌==◌, ◌||◌, nat_lt, Bool, true, false, if◌then◌else◌, List, [], ◌∷◌, ◌++◌, length, Option, Some, None, is_some, refl, sym, ap, ◌∙◌, subst, arith, inl, inr, true≢false}
use Rattle.std.specs.Prelude.{Result, Ok, Err, OnOk, IfOk, OnErr, IfErr}
use Rattle.std.proofs.lemmas.Bool.{cases_Bool, cases_eq, eq-eqb, or_parts, ltb-false}
use Rattle.std.proofs.lemmas.List.{length_push}
use Rattle.nvme_admin.specs.History.{Kind, Submission, Completion}
use Rattle.nvme_admin.specs.QueueTable.{region_number}
use Rattle.nvme_admin.specs.declared.bounds.TheConstants.{MAX_REGIONS, MIN_SLOTS, MAX_SLOTS}
use Rattle.nvme_admin.specs.declared.region.Region.{Region}
use Rattle.nvme_admin.specs.declared.region.AdminError.{AdminError}
use Rattle.nvme_admin.specs.declared.region.AdminError.TheVariants.{Used, TooMany, Size}
use Rattle.nvme_log.specs.Rules.{FrontRules, sq_regions_of, cq_regions_of, slots_at}
use Rattle.nvme_ctrl_log.specs.Notes.{Notes, logged}
use Rattle.nvme_ctrl_log.specs.Doorbells.{submitted, consumed}
use Rattle.nvme_ctrl.specs.Calls.{depths_of}
use Rattle.nvme_ctrl_log.specs.Making.{with_region, is_late, is_named, adding_fault, placing_in, regions_of}
use Rattle.nvme_ctrl.specs.Own.{own_of}
use Rattle.nvme_ctrl.specs.Standing.{Stands}
use Rattle.nvme_slots.specs.declared.slot.Slot.{Slot}
use Rattle.nvme_ctrl.specs.declared.state.Controller.{Controller}
use Rattle.nvme_ctrl_content.specs.Content.{Attachment}
use Rattle.nvme_ctrl_log.specs.Regions.{is_opened_cq}
use Rattle.nvme_ctrl_log.proofs.AddedTables.{slots_last, slots_other, sq-more, sq-same, cq-more, cq-same}
use Rattle.nvme_ctrl_log.proofs.DoorbellCounts.{submitted_same, submitted_none, consumed_same, consumed_none}
use Rattle.nvme_engine.proofs.Places.{places_with}
use Rattle.nvme_engine.specs.Standing.{AreAlike, HaveRings, StandsAt}
use Rattle.nvme_engine.specs.declared.engine.Engine.{Engine}
use Rattle.nvme_engine.proofs.Additions.{on_regions, none_named}
use Rattle.nvme_engine.proofs.CompletionRegions.{opened_below}

-- ---- why a region isn't added
-- the causes that don't hold where none does
causes : {A : Type 0} (x y z w : A) (a b c d : Bool) → (if a then Some x else (if b then Some y else (if c then Some z else (if d then Some w else None)))) ≡ None
    → (c ≡ false) × (d ≡ false)
causes x y z w true b c d none = absurd (cc none)
causes x y z w false true c d none = absurd (cc none)
causes x y z w false false true d none = absurd (cc none)
causes x y z w false false false true none = absurd (cc none)
causes x y z w false false false false none = (refl, refl)

-- a region that may be added has a ring, and there is room for it
pub record Fits (kind : Kind) (n : ℕ) (rules : FrontRules) : Type 0 where
  pub some : 2 ≤ n
  pub room : length (regions_of kind rules) ≢ MAX_REGIONS

pub fits : (kind : Kind) (a n : ℕ) (rules : FrontRules) → adding_fault kind a n rules ≡ None → Fits kind n rules
fits kind a n rules none =
    let passed = causes TooMany Used TooMany Size _ _ _ _ none in
    record {
      some = ltb-false n MIN_SLOTS (or_parts (nat_lt n MIN_SLOTS) (nat_lt MAX_SLOTS n) passed.1).0;
      room = λ full. true≢false (sym (eq-eqb (length (regions_of kind rules)) MAX_REGIONS full) ∙ passed.0);
    }

-- rules that are alike refuse the same
pub fault_same : (kind : Kind) (a n : ℕ) (rules other : FrontRules) → AreAlike rules other → adding_fault kind a n other ≡ adding_fault kind a n rules
fault_same kind a n rules other h =
    λ i. if is_some (placing i) then Some TooMany
    else (if is_some (region_number (h.sqs i) a) || is_some (region_number (h.cqs i) a) then Some Used
    else (if length (regions kind i) == MAX_REGIONS then Some TooMany
    else (if nat_lt n MIN_SLOTS || nat_lt MAX_SLOTS n then Some Size
    else None)))
  where
    placing : placing_in other ≡ placing_in rules
    placing = on_regions other h.adds ∙ sym (on_regions rules h.own_adds)

    regions : (x : Kind) → regions_of x other ≡ regions_of x rules
    regions Submission = h.sqs
    regions Completion = h.cqs

-- ---- the regions with it
sqs_with : (kind : Kind) (a n : ℕ) (rules other : FrontRules) → sq_regions_of other ≡ sq_regions_of rules → sq_regions_of (with_region kind a n other) ≡ sq_regions_of (with_region kind a n rules)
sqs_with Submission a n rules other e = sq-more a n other ∙ ap (λ (rs : List Region). rs ++ record { address = a; slots = n } ∷ []) e ∙ sym (sq-more a n rules)
sqs_with Completion a n rules other e = cq-same a n other ∙ e ∙ sym (cq-same a n rules)

cqs_with : (kind : Kind) (a n : ℕ) (rules other : FrontRules) → cq_regions_of other ≡ cq_regions_of rules → cq_regions_of (with_region kind a n other) ≡ cq_regions_of (with_region kind a n rules)
cqs_with Submission a n rules other e = sq-same a n other ∙ e ∙ sym (sq-same a n rules)
cqs_with Completion a n rules other e = cq-more a n other ∙ ap (λ (rs : List Region). rs ++ record { address = a; slots = n } ∷ []) e ∙ sym (cq-more a n rules)

few_with : (kind : Kind) (a n : ℕ) (rules : FrontRules) → Fits kind n rules → length (sq_regions_of rules) ≤ MAX_REGIONS → length (sq_regions_of (with_region kind a n rules)) ≤ MAX_REGIONS
few_with Submission a n rules f few =
    let more = ap (λ (rs : List Region). length rs) (sq-more a n rules) ∙ length_push (sq_regions_of rules) (record { address = a; slots = n }) in
    let room : length (sq_regions_of rules) ≢ MAX_REGIONS = f.room in
    omega (arith, more, few, room)
few_with Completion a n rules f few = subst (λ (rs : List Region). length rs ≤ MAX_REGIONS) (sym (cq-same a n rules)) few

alike_with : (kind : Kind) (a n : ℕ) (rules other : FrontRules) → Fits kind n rules → AreAlike rules other → AreAlike (with_region kind a n rules) (with_region kind a n other)
alike_with kind a n rules other f h = record {
  mechanism = h.mechanism;
  start = h.start;
  sqs = sqs_with kind a n rules other h.sqs;
  cqs = cqs_with kind a n rules other h.cqs;
  adds = h.adds;
  own_adds = h.own_adds;
  few_sqs = few_with kind a n rules f h.few_sqs;
}

rings_push : (rs : List Region) (x : Region) → 2 ≤ x.slots → HaveRings rs → HaveRings (rs ++ x ∷ [])
rings_push rs x some h r below = elim (cases_eq r (length rs)) [
  | inl last ↦ subst (λ (m : ℕ). 2 ≤ m) (sym (ap (slots_at (rs ++ x ∷ [])) last ∙ slots_last rs x)) some
  | inr other ↦ subst (λ (m : ℕ). 2 ≤ m) (sym (slots_other rs x r other)) (h r (omega (arith, below, length_push rs x, other)))
]

sq_rings_with : (kind : Kind) (a n : ℕ) (rules : FrontRules) → 2 ≤ n → HaveRings (sq_regions_of rules) → HaveRings (sq_regions_of (with_region kind a n rules))
sq_rings_with Submission a n rules some h = subst HaveRings (sym (sq-more a n rules)) (rings_push (sq_regions_of rules) (record { address = a; slots = n }) some h)
sq_rings_with Completion a n rules some h = subst HaveRings (sym (cq-same a n rules)) h

cq_rings_with : (kind : Kind) (a n : ℕ) (rules : FrontRules) → 2 ≤ n → HaveRings (cq_regions_of rules) → HaveRings (cq_regions_of (with_region kind a n rules))
cq_rings_with Submission a n rules some h = subst HaveRings (sym (sq-same a n rules)) h
cq_rings_with Completion a n rules some h = subst HaveRings (sym (cq-more a n rules)) (rings_push (cq_regions_of rules) (record { address = a; slots = n }) some h)

-- ---- doorbells with it
module _ (a n : ℕ) (rules : FrontRules) (late : Bool) (notes : Notes) (c : Controller) (pool : List Slot) (s : Stands rules late notes c pool) (on : placing_in rules ≡ None) where
  -- nothing was submitted to a region that isn't there yet
  submitted_with : (kind : Kind) (r : ℕ) → submitted (with_region kind a n rules) notes r ≡ submitted rules notes r
  submitted_with Completion r = submitted_same rules (with_region Completion a n rules) notes r (ap (λ (rs : List Region). slots_at rs r) (cq-same a n rules))
  submitted_with Submission r = by (s.content.sq r).queue refl where
    by : (o : Option Attachment) → (s.content.sq r).queue ≡ o → submitted (with_region Submission a n rules) notes r ≡ submitted rules notes r
    by None none =
        let before = s.doorbells.sqs.no_tails r none in
        submitted_none rules (with_region Submission a n rules) notes r before ∙ sym before
    by (Some at) opened =
        let there = s.holds.queues.sq_there r at opened in
        submitted_same rules (with_region Submission a n rules) notes r (ap (λ (rs : List Region). slots_at rs r) (sq-more a n rules)
        ∙ slots_other (sq_regions_of rules) (record { address = a; slots = n }) r (λ last. omega (arith, there, s.holds.tabled.sq_number, last)))

  -- and nothing consumed of one
  consumed_with : (kind : Kind) (x : ℕ) → consumed (with_region kind a n rules) notes x ≡ consumed rules notes x
  consumed_with Submission x = consumed_same rules (with_region Submission a n rules) notes x (ap (λ (rs : List Region). slots_at rs x) (sq-same a n rules))
  consumed_with Completion x = elim (cases_Bool (is_opened_cq (logged notes) x)) [
    | inl opened ↦
        let there = opened_below rules late notes c pool s on x opened in
        consumed_same rules (with_region Completion a n rules) notes x (ap (λ (rs : List Region). slots_at rs x) (cq-more a n rules)
        ∙ slots_other (cq_regions_of rules) (record { address = a; slots = n }) x (λ last. omega (arith, there, last)))
    | inr none ↦
        let before = s.doorbells.cqs.no_heads x none in
        consumed_none rules (with_region Completion a n rules) notes x before ∙ sym before
  ]

-- ---- the engine with it
-- where the rules of the controller are those of the engine, they are so with the region
abbrev InTime : Kind → (a n : ℕ) → (rules : FrontRules) (late : Bool) → (their : FrontRules) (their_late : Bool) → Notes → Type 0
InTime kind a n rules late their their_late notes =
    late ≡ false → (with_region kind a n their ≡ with_region kind a n rules) × (is_late their their_late notes a ≡ false)

module _ (kind : Kind) (a n : ℕ) (rules : FrontRules) (late : Bool) (notes : Notes) (e : Engine) (s : StandsAt rules late notes e) where
  -- what it refuses is what its controller refuses
  pub their_fault : adding_fault kind a n s.their ≡ adding_fault kind a n rules
  their_fault = fault_same kind a n rules s.their s.alike

  module _ (c : Controller) (f : Fits kind n rules) (stands : Stands (with_region kind a n s.their) (is_late s.their s.their_late notes a) notes c e.slots.items)
      (depths : depths_of c ≡ depths_of e.controller) (own : own_of c ≡ own_of e.controller) where
    stands_with : (later : Bool) → InTime kind a n rules later s.their s.their_late notes → StandsAt (with_region kind a n rules) later notes (record e { controller = c })
    stands_with later early =
        let on = on_regions s.their s.alike.adds in
        record {
          their = with_region kind a n s.their;
          their_late = is_late s.their s.their_late notes a;
          alike = alike_with kind a n rules s.their f s.alike;
          in_time = early;
          stands = stands;
          plain = s.plain;
          sq_rings = sq_rings_with kind a n rules f.some s.sq_rings;
          cq_rings = cq_rings_with kind a n rules f.some s.cq_rings;
          served = s.served;
          named = s.named;
          few = s.few;
          begun = s.begun;
          rung = λ r. submitted_with a n s.their s.their_late notes e.controller e.slots.items s.stands on kind r ∙ s.rung r;
          read = λ x. consumed_with a n s.their s.their_late notes e.controller e.slots.items s.stands on kind x ∙ s.read x;
          cookies = s.cookies;
          answers = s.answers;
          untaken = s.untaken;
          lawful = s.lawful;
          places = places_with kind a n s.their s.their_late (logged notes) s.stands.content s.stands.holds s.places;
          pool = s.pool;
          depths = depths ∙ s.depths;
          own = own ∙ s.own;
        }

    pub stands_late : StandsAt (with_region kind a n rules) true notes (record e { controller = c })
    stands_late = stands_with true (λ no. absurd (true≢false no))

-- before the first event the region is in time
module _ (kind : Kind) (a n : ℕ) (rules : FrontRules) (late : Bool) (e : Engine) (s : StandsAt rules late [] e) (c : Controller) (f : Fits kind n rules)
    (stands : Stands (with_region kind a n s.their) (is_late s.their s.their_late [] a) [] c e.slots.items)
    (depths : depths_of c ≡ depths_of e.controller) (own : own_of c ≡ own_of e.controller) where
  pub stands_in_time : StandsAt (with_region kind a n rules) late [] (record e { controller = c })
  stands_in_time = stands_with kind a n rules late [] e s c f stands depths own late (λ early.
      (let was = s.in_time early in (
        ap (with_region kind a n) was.0,
        (λ i. was.1 i || is_named s.their [] a) ∙ none_named s.their s.alike.adds a,
      )))

-- ---- what a call answered
-- what holds where a call succeeded, by what it said then
pub on_ok : {F S Q : Type 0} (r : Result ℕ AdminError) → OnOk r F → IfOk r (λ (x : ℕ). S) → (F → S → Q) → OnOk r Q
on_ok (Ok x) one other f = f one other
on_ok (Err e) one other f = tt

pub on_ok_also : {F Q : Type 0} (r : Result ℕ AdminError) → OnOk r F → (F → Q) → OnOk r Q
on_ok_also (Ok x) one f = f one
on_ok_also (Err e) one f = tt

pub if_ok_also : (r : Result ℕ AdminError) (P Q : ℕ → Type 0) → IfOk r P → ((x : ℕ) → P x → Q x) → IfOk r Q
if_ok_also (Ok x) P Q one f = f x one
if_ok_also (Err e) P Q one f = tt

pub if_err_also : (r : Result ℕ AdminError) (P Q : AdminError → Type 0) → IfErr r P → ((e : AdminError) → P e → Q e) → IfErr r Q
if_err_also (Ok x) P Q one f = tt
if_err_also (Err e) P Q one f = f e one

pub on_err_also : {F Q : Type 0} (r : Result ℕ AdminError) → OnErr r F → (F → Q) → OnErr r Q
on_err_also (Ok x) one f = tt
on_err_also (Err e) one f = f one
