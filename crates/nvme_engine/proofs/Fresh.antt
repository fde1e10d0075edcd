-- An engine that begins, with its admin regions alone.
use Rattle.std.proofs.Common.{◌≡◌, ℕ, ◌≤◌, ◌==◌, ◌||◌, nat_lt, Bool, true, false, if◌then◌else◌, List, [], ◌∷◌, length, Some, None, refl, sym, ap, subst, arith}
use Rattle.std.proofs.lemmas.Bool.{or_parts, ltb-false, eqb-true, ne_eqb}
use Rattle.nvme_arbiter.specs.Settings.{ArbitrationFields}
use Rattle.nvme_arbiter.specs.declared.settings.Mechanism.{Mechanism}
use Rattle.nvme_admin.specs.Accepted.{effects_of, queue_table}
use Rattle.nvme_admin.specs.declared.bounds.TheConstants.{MIN_SLOTS, MAX_SLOTS}
use Rattle.nvme_admin.specs.declared.limits.Limits.{Limits}
use Rattle.nvme_admin.specs.declared.region.Region.{Region}
use Rattle.nvme_admin.specs.declared.region.AdminError.TheVariants.{Used, Size}
use Rattle.nvme_log.specs.Rules.{FrontRules, sq_regions_of, cq_regions_of, slots_at}
use Rattle.nvme_log.specs.Queues.{admin_queue, is_serving}
use Rattle.nvme_ctrl.specs.Calls.{depths_of}
use Rattle.nvme_ctrl_log.specs.Calls.{equal_depths}
use Rattle.nvme_ctrl_log.specs.Making.{first_rules, admin_fault}
use Rattle.nvme_ctrl.specs.Own.{no_own, own_of}
use Rattle.nvme_ctrl.specs.Standing.{Stands}
use Rattle.nvme_engine.proofs.Places.{no_places}
use Rattle.nvme_engine.specs.Standing.{HaveRings, OpensBelow, StandsAt, HasPool, ServesItsQueues, queue_depth}
use Rattle.nvme_engine.specs.declared.engine.Engine.{Engine}

-- the causes that don't hold where none does
causes : {A : Type 0} (x y z : A) (a b c : Bool) → (if a then Some x else (if b then Some y else (if c then Some z else None))) ≡ None → (a ≡ false) × (c ≡ false)
causes x y z true b c none = absurd (cc none)
causes x y z false true c none = absurd (cc none)
causes x y z false false true none = absurd (cc none)
causes x y z false false false none = (refl, refl)

-- one region of a kind has a ring
one_ring : (x : Region) → (nat_lt x.slots MIN_SLOTS || nat_lt MAX_SLOTS x.slots) ≡ false → HaveRings (x ∷ [])
one_ring x fits r below =
    let first : r ≡ 0 = omega (arith, below) in
    subst (λ (k : ℕ). 2 ≤ slots_at (x ∷ []) k) (sym first) (ltb-false x.slots MIN_SLOTS (or_parts (nat_lt x.slots MIN_SLOTS) (nat_lt MAX_SLOTS x.slots) fits).0)

-- before the first event the admin queue alone is served
first_served : ServesItsQueues []
first_served r q is not_closed = by (r == 0) refl is where
  by : (b : Bool) → (r == 0) ≡ b → (if b then Some 0 else None) ≡ Some q → is_serving [] r ≡ true
  by true first is = subst (λ (x : ℕ). is_serving [] x ≡ true) (sym (eqb-true r 0 first)) refl
  by false other is = absurd (cc is)

-- and open
first_few : OpensBelow [] 1
first_few = (
  omega arith,
  λ q from. let other = ne_eqb q 0 (λ first. omega (arith, from, first)) in (
    ap (λ (b : Bool). if b then Some admin_queue else None) other,
    ap (λ (b : Bool). if b then Some 0 else None) other,
  ),
)

module _ (mechanism : Mechanism) (settings : ArbitrationFields) (limits : Limits) (sq cq : Region) (sizes : List ℕ) where
  abbrev rules : FrontRules
  rules = first_rules mechanism settings limits sq cq sizes

  -- its regions
  first_sqs : sq_regions_of rules ≡ sq ∷ []
  unfolding effects_of queue_table
  first_sqs = refl

  first_cqs : cq_regions_of rules ≡ cq ∷ []
  unfolding effects_of queue_table
  first_cqs = refl

  pub begins : admin_fault sq cq ≡ None → (e : Engine) → e.queues ≡ 1 → Stands rules false [] e.controller e.slots.items → HasPool e → depths_of e.controller ≡ equal_depths queue_depth → own_of e.controller ≡ no_own
      → StandsAt rules false [] e
  begins none e first stands pool depths own =
      let sizes_fit = causes Size Used Size _ _ _ none in
      record {
        their = rules;
        their_late = false;
        alike = record {
          mechanism = refl;
          start = refl;
          sqs = refl;
          cqs = refl;
          adds = refl;
          own_adds = refl;
          few_sqs = (let one = ap (λ (rs : List Region). length rs) first_sqs in omega (arith, one));
        };
        in_time = λ early. (refl, refl);
        stands = stands;
        plain = record { none_passed = λ i. refl; none_arranged = refl; deletes = tt; alone = tt };
        sq_rings = subst HaveRings (sym first_sqs) (one_ring sq sizes_fit.0);
        cq_rings = subst HaveRings (sym first_cqs) (one_ring cq sizes_fit.1);
        served = first_served;
        named = λ d none. absurd (cc none);
        few = subst (OpensBelow []) (sym first) first_few;
        begun = λ none. refl;
        rung = λ r. refl;
        read = λ x. refl;
        cookies = λ r i below. absurd (omega (arith, below));
        answers = λ r i entry answer io there answered. absurd (cc answered);
        untaken = refl;
        lawful = tt;
        places = no_places _;
        pool = pool;
        depths = depths;
        own = own;
      }
