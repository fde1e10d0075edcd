-- The verdict of a queue table that an effect tells: its own, but where queues may lie anywhere the region of a new queue has another number.
use Rattle.std.proofs.Common.{◌≡◌, ℕ, Bool, true, false, Option, Some, None, refl, sym, ap, ◌∙◌}
use Rattle.nvme_arbiter.specs.declared.settings.Class.{Class}
use Rattle.nvme_admin.specs.History.{Placing}
use Rattle.nvme_admin.specs.declared.verdict.Verdict.{Verdict}
use Rattle.nvme_admin.specs.declared.verdict.Verdict.TheVariants as verdict
use Rattle.nvme_placing.specs.Telling.{IsToldBy, unplaced_verdict}

-- a verdict opens a queue
abbrev pub is_opening : Verdict → Bool
is_opening (verdict.OpenSq qid region cqid class) = true
is_opening (verdict.OpenCq qid region) = true
is_opening v = false

-- wherever it lies
opening_unplaced : (v : Verdict) → is_opening (unplaced_verdict v) ≡ is_opening v
opening_unplaced (verdict.Done status dw0) = refl
opening_unplaced (verdict.OpenSq qid region cqid class) = refl
opening_unplaced (verdict.OpenCq qid region) = refl
opening_unplaced (verdict.BeginDelete qid) = refl
opening_unplaced (verdict.CloseCq qid) = refl
opening_unplaced (verdict.Abort sqid cid) = refl
opening_unplaced (verdict.SetArbitration settings) = refl

-- one that opens none has no region
plain_unplaced : (v : Verdict) → is_opening v ≡ false → unplaced_verdict v ≡ v
plain_unplaced (verdict.Done status dw0) plain = refl
plain_unplaced (verdict.OpenSq qid region cqid class) plain = absurd (cc plain)
plain_unplaced (verdict.OpenCq qid region) plain = absurd (cc plain)
plain_unplaced (verdict.BeginDelete qid) plain = refl
plain_unplaced (verdict.CloseCq qid) plain = refl
plain_unplaced (verdict.Abort sqid cid) plain = refl
plain_unplaced (verdict.SetArbitration settings) plain = refl

-- so it is told as it is
pub told_plain : (p : Option Placing) (w v : Verdict) → is_opening w ≡ false → IsToldBy p w v → v ≡ w
told_plain None w v plain told = sym told
told_plain (Some p) w v plain told =
    let same : w ≡ unplaced_verdict v = sym (plain_unplaced w plain) ∙ told in
    sym (same ∙ plain_unplaced v (sym (opening_unplaced v) ∙ ap is_opening (sym same) ∙ plain))

-- a new submission queue is told with its identifier, its completion queue and its class
pub told_sq : (p : Option Placing) (qid region cqid : ℕ) (class : Class) (v : Verdict) → IsToldBy p (verdict.OpenSq qid region cqid class) v
    → (r : ℕ) × (v ≡ verdict.OpenSq qid r cqid class)
told_sq None qid region cqid class v told = (region, sym told)
told_sq (Some p) qid region cqid class (verdict.Done status dw0) told = absurd (cc told)
told_sq (Some p) qid region cqid class (verdict.OpenSq q r c l) told =
    let is : verdict.OpenSq qid 0 cqid class ≡ verdict.OpenSq q 0 c l = told in
    (r, cc)
told_sq (Some p) qid region cqid class (verdict.OpenCq q r) told = absurd (cc told)
told_sq (Some p) qid region cqid class (verdict.BeginDelete q) told = absurd (cc told)
told_sq (Some p) qid region cqid class (verdict.CloseCq q) told = absurd (cc told)
told_sq (Some p) qid region cqid class (verdict.Abort sqid cid) told = absurd (cc told)
told_sq (Some p) qid region cqid class (verdict.SetArbitration settings) told = absurd (cc told)

-- a new completion queue is told with its identifier
pub told_cq : (p : Option Placing) (qid region : ℕ) (v : Verdict) → IsToldBy p (verdict.OpenCq qid region) v → (r : ℕ) × (v ≡ verdict.OpenCq qid r)
told_cq None qid region v told = (region, sym told)
told_cq (Some p) qid region (verdict.Done status dw0) told = absurd (cc told)
told_cq (Some p) qid region (verdict.OpenSq q r c l) told = absurd (cc told)
told_cq (Some p) qid region (verdict.OpenCq q r) told =
    let is : verdict.OpenCq qid 0 ≡ verdict.OpenCq q 0 = told in
    (r, cc)
told_cq (Some p) qid region (verdict.BeginDelete q) told = absurd (cc told)
told_cq (Some p) qid region (verdict.CloseCq q) told = absurd (cc told)
told_cq (Some p) qid region (verdict.Abort sqid cid) told = absurd (cc told)
told_cq (Some p) qid region (verdict.SetArbitration settings) told = absurd (cc told)
