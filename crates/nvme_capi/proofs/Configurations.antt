-- A controller that is made stands by the rules of its configuration.
use Rattle.std.proofs.Common.{◌≡◌, ℕ, ◌&&◌, nat_le, nat_lt, true, false, List, [], ◌∷◌, refl, sym, subst}
use Rattle.std.proofs.lemmas.Bool.{and_parts, leb-true}
use Rattle.nvme_arbiter.specs.Settings.{ArbitrationFields, settings_of}
use Rattle.nvme_arbiter.specs.Layout.{mechanism_of}
use Rattle.nvme_arbiter.specs.declared.settings.Mechanism.{Mechanism}
use Rattle.nvme_admin.specs.declared.bounds.TheConstants.{MAX_IO_QUEUES}
use Rattle.nvme_admin.specs.declared.limits.Limits.{Limits}
use Rattle.nvme_log.specs.Rules.{FrontRules}
use Rattle.nvme_ctrl.specs.Standing.{Stands}
use Rattle.nvme_ctrl_log.specs.Making.{first_regions}
use Rattle.nvme_slots.specs.declared.slot.Slot.{Slot}
use Rattle.nvme_ctrl.specs.declared.state.Controller.{Controller}
use Rattle.nvme_capi.specs.Tables.{is_limit}
use Rattle.nvme_admin.specs.History.{RegionAdded, PlacedAnywhere, Submission, Completion, Placing}
use Rattle.nvme_placing.specs.Telling.{placing_by}
use Rattle.nvme_placing.specs.declared.placement.Placement.{Placement}
use Rattle.nvme_capi.specs.Controllers.{has_depths, is_config, IsMadeOf, IsMadeAnywhereOf}
use Rattle.nvme_capi.specs.declared.ctrl.state.PlacementFields.{PlacementFields}
use Rattle.nvme_capi.specs.declared.ctrl.state.ConfigFields.{ConfigFields}

-- numbers that can be allotted are limits
limits_of : (nsq ncq : ℕ) → is_limit nsq ≡ true → is_limit ncq ≡ true → (limits : Limits) × ((limits.nsq ≡ nsq) × (limits.ncq ≡ ncq))
limits_of nsq ncq few_sqs few_cqs =
    let s = and_parts (nat_le 1 nsq) (nat_le nsq MAX_IO_QUEUES) few_sqs in
    let c = and_parts (nat_le 1 ncq) (nat_le ncq MAX_IO_QUEUES) few_cqs in (
      record {
        nsq = nsq;
        ncq = ncq;
        nsq_not_zero = leb-true 1 nsq s.0;
        nsq_in_range = leb-true nsq MAX_IO_QUEUES s.1;
        ncq_not_zero = leb-true 1 ncq c.0;
        ncq_in_range = leb-true ncq MAX_IO_QUEUES c.1;
      },
      (refl, refl),
    )

-- the rules of a configuration, by what is read of it
abbrev rules_by : ConfigFields → Mechanism → ArbitrationFields → (nsq ncq : ℕ) → List ℕ → FrontRules
rules_by f m a nsq ncq sizes = record {
  mechanism = m;
  start = record { nsq = nsq; ncq = ncq; settings = a };
  regions = first_regions f.asq f.acq;
  sizes = sizes;
}

pub made_of : (f : ConfigFields) (count : ℕ) (m : Mechanism) (a : ArbitrationFields) (sizes : List ℕ) (c : Controller) (slots : List Slot) → is_config f count ≡ true
    → m ≡ mechanism_of f.mechanism → a ≡ settings_of f.cdw11 → Stands (rules_by f m a f.nsq f.ncq sizes) false [] c slots → IsMadeOf f sizes c slots
made_of f count m a sizes c slots well mechanism settings stands =
    let pool = has_depths f && (nat_lt 0 count && nat_lt count 65536) in
    let x = and_parts (is_limit f.nsq) (is_limit f.ncq && pool) well in
    let y = and_parts (is_limit f.ncq) pool x.1 in
    let l = limits_of f.nsq f.ncq x.0 y.0 in
    record {
      limits = l.0;
      nsq_is = l.1.0;
      ncq_is = l.1.1;
      stands = subst (λ (z : Mechanism). Stands (rules_by f z (settings_of f.cdw11) l.0.nsq l.0.ncq sizes) false [] c slots) mechanism
          (subst (λ (z : ArbitrationFields). Stands (rules_by f m z l.0.nsq l.0.ncq sizes) false [] c slots) settings
          (subst (λ (z : ℕ). Stands (rules_by f m a z l.0.ncq sizes) false [] c slots) (sym l.1.0)
          (subst (λ (z : ℕ). Stands (rules_by f m a f.nsq z sizes) false [] c slots) (sym l.1.1) stands)));
    }

-- the same where queues may lie anywhere
abbrev anywhere_by : ConfigFields → Placing → Mechanism → ArbitrationFields → (nsq ncq : ℕ) → List ℕ → FrontRules
anywhere_by f p m a nsq ncq sizes = record {
  mechanism = m;
  start = record { nsq = nsq; ncq = ncq; settings = a };
  regions = RegionAdded Completion f.acq.address f.acq.slots ∷ RegionAdded Submission f.asq.address f.asq.slots ∷ PlacedAnywhere p ∷ [];
  sizes = sizes;
}

pub made_anywhere_of : (f : ConfigFields) (p : PlacementFields) (count : ℕ) (m : Mechanism) (a : ArbitrationFields) (placement : Placement) (sizes : List ℕ) (c : Controller) (slots : List Slot)
    → is_config f count ≡ true → m ≡ mechanism_of f.mechanism → a ≡ settings_of f.cdw11
    → (placement.page ≡ p.page) × ((placement.mqes ≡ p.mqes) × (placement.vectors ≡ p.vectors))
    → Stands (anywhere_by f (placing_by placement) m a f.nsq f.ncq sizes) false [] c slots → IsMadeAnywhereOf f p sizes c slots
made_anywhere_of f p count m a placement sizes c slots well mechanism settings placed stands =
    let pool = has_depths f && (nat_lt 0 count && nat_lt count 65536) in
    let x = and_parts (is_limit f.nsq) (is_limit f.ncq && pool) well in
    let y = and_parts (is_limit f.ncq) pool x.1 in
    let l = limits_of f.nsq f.ncq x.0 y.0 in
    let same : placing_by placement ≡ record { page = p.page; mqes = p.mqes; vectors = p.vectors } =
    λ i. record { page = placed.0 i; mqes = placed.1.0 i; vectors = placed.1.1 i } in
    record {
      limits = l.0;
      nsq_is = l.1.0;
      ncq_is = l.1.1;
      stands = subst (λ (z : Placing). Stands (anywhere_by f z (mechanism_of f.mechanism) (settings_of f.cdw11) l.0.nsq l.0.ncq sizes) false [] c slots) same
          (subst (λ (z : Mechanism). Stands (anywhere_by f (placing_by placement) z (settings_of f.cdw11) l.0.nsq l.0.ncq sizes) false [] c slots) mechanism
          (subst (λ (z : ArbitrationFields). Stands (anywhere_by f (placing_by placement) m z l.0.nsq l.0.ncq sizes) false [] c slots) settings
          (subst (λ (z : ℕ). Stands (anywhere_by f (placing_by placement) m a z l.0.ncq sizes) false [] c slots) (sym l.1.0)
          (subst (λ (z : ℕ). Stands (anywhere_by f (placing_by placement) m a f.nsq z sizes) false [] c slots) (sym l.1.1) stands))));
    }
