-- An engine stands at rules with the same regions, in whatever order those of the two kinds were added.
use Rattle.std.proofs.Common.{◌≡◌, ◌≤◌, Bool, true, false, List, [], length, refl, sym, ap, ◌∙◌, subst, true≢false}
use Rattle.nvme_entry.specs.declared.submission.Sqe.{Sqe}
use Rattle.nvme_entry.specs.Outcome.{outcome_of}
use Rattle.nvme_admin.specs.Accepted.{queue_table}
use Rattle.nvme_admin.specs.QueueTable.{QueueTable}
use Rattle.nvme_admin.specs.declared.bounds.TheConstants.{MAX_REGIONS}
use Rattle.nvme_admin.specs.declared.region.Region.{Region}
use Rattle.nvme_log.specs.Answers.{outcome_answer}
use Rattle.nvme_log.specs.Rules.{FrontRules, sq_regions_of, cq_regions_of}
use Rattle.nvme_log.specs.declared.place.Place.{Place}
use Rattle.nvme_ctrl_log.specs.Notes.{Notes}
use Rattle.nvme_ctrl.specs.Standing.{Stands}
use Rattle.nvme_ctrl.proofs.Reordered as ctrl
use Rattle.nvme_engine.proofs.Places.{no_places}
use Rattle.nvme_engine.specs.Regions.{only_adds}
use Rattle.nvme_engine.specs.Standing.{AreAlike, HaveRings, StandsBut, StandsAt, AnswersByOutcome}
use Rattle.nvme_engine.specs.declared.engine.Engine.{Engine}

-- rules that differ only in the order in which their regions were added
pub record AreReordered (rules other : FrontRules) : Type 0 where
  pub mechanism : other.mechanism ≡ rules.mechanism
  pub start : other.start ≡ rules.start
  pub sizes : other.sizes ≡ rules.sizes
  pub sqs : sq_regions_of other ≡ sq_regions_of rules
  pub cqs : cq_regions_of other ≡ cq_regions_of rules
  pub adds : only_adds other.regions ≡ true

module _ (rules other : FrontRules) (h : AreReordered rules other) where
  few_same : length (sq_regions_of rules) ≤ MAX_REGIONS → length (sq_regions_of other) ≤ MAX_REGIONS
  few_same few = subst (λ (rs : List Region). length rs ≤ MAX_REGIONS) (sym h.sqs) few

  -- what is like the one is like the other
  alike_other : (their : FrontRules) → AreAlike rules their → AreAlike other their
  alike_other their a = record {
    mechanism = a.mechanism ∙ sym h.mechanism;
    start = a.start ∙ sym h.start;
    sqs = a.sqs ∙ sym h.sqs;
    cqs = a.cqs ∙ sym h.cqs;
    adds = a.adds;
    own_adds = h.adds;
    few_sqs = few_same a.few_sqs;
  }

  alike_itself : (their : FrontRules) → AreAlike rules their → AreAlike other other
  alike_itself their a = record { mechanism = refl; start = refl; sqs = refl; cqs = refl; adds = h.adds; own_adds = h.adds; few_sqs = few_same a.few_sqs }

  outcome_same : (entry : Sqe) → outcome_answer rules entry ≡ outcome_answer other entry
  outcome_same entry = λ i. record { status = outcome_of entry (sym h.sizes i); dw0 = 0 }

  answers_other : (notes : Notes) → AnswersByOutcome rules notes → AnswersByOutcome other notes
  answers_other notes by r i entry answer io there answered = by r i entry answer io there answered ∙ outcome_same entry

  -- where a region was added late, nothing more is said of the order
  pub reordered_late : (notes : Notes) (rest : List Place) (e : Engine) → StandsBut rules true notes rest e → StandsBut other true notes rest e
  reordered_late notes rest e s = record {
    their = s.their;
    their_late = s.their_late;
    alike = alike_other s.their s.alike;
    in_time = λ no. absurd (true≢false no);
    stands = s.stands;
    plain = s.plain;
    sq_rings = subst HaveRings (sym h.sqs) s.sq_rings;
    cq_rings = subst HaveRings (sym h.cqs) s.cq_rings;
    served = s.served;
    named = s.named;
    few = s.few;
    begun = s.begun;
    rung = s.rung;
    read = s.read;
    cookies = s.cookies;
    answers = answers_other notes s.answers;
    untaken = s.untaken;
    lawful = s.lawful;
    places = s.places;
    pool = s.pool;
    depths = s.depths;
    own = s.own;
  }

  -- before the first event the controller stands there too
  early_other : (e : Engine) → queue_table other.start other.regions ≡ queue_table rules.start rules.regions → StandsAt rules false [] e → StandsAt other false [] e
  early_other e tables s =
      let early = s.in_time refl in
      let there : Stands rules false [] e.controller e.slots.items =
      subst (λ (l : Bool). Stands rules l [] e.controller e.slots.items) early.1 (subst (λ (x : FrontRules). Stands x s.their_late [] e.controller e.slots.items) early.0 s.stands) in
      record {
        their = other;
        their_late = false;
        alike = alike_itself s.their s.alike;
        in_time = λ no. (refl, refl);
        stands = ctrl.reordered rules other e.controller e.slots.items h.mechanism h.start tables there;
        plain = s.plain;
        sq_rings = subst HaveRings (sym h.sqs) s.sq_rings;
        cq_rings = subst HaveRings (sym h.cqs) s.cq_rings;
        served = s.served;
        named = s.named;
        few = s.few;
        begun = s.begun;
        rung = λ r. refl;
        read = λ x. refl;
        cookies = s.cookies;
        answers = answers_other [] s.answers;
        untaken = s.untaken;
        lawful = tt;
        places = no_places other;
        pool = s.pool;
        depths = s.depths;
        own = s.own;
      }

-- so it does at rules whose regions make the same table
pub reordered : (rules other : FrontRules) (late : Bool) (e : Engine) → other.mechanism ≡ rules.mechanism → other.start ≡ rules.start → other.sizes ≡ rules.sizes
    → queue_table other.start other.regions ≡ queue_table rules.start rules.regions → only_adds other.regions ≡ true → StandsAt rules late [] e → StandsAt other late [] e
reordered rules other late e mechanism start sizes tables adds = by late where
  same : AreReordered rules other
  same = record {
    mechanism = mechanism;
    start = start;
    sizes = sizes;
    sqs = ap (λ (t : QueueTable). t.sq_regions) tables;
    cqs = ap (λ (t : QueueTable). t.cq_regions) tables;
    adds = adds;
  }

  by : (b : Bool) → StandsAt rules b [] e → StandsAt other b [] e
  by true s = reordered_late rules other same [] [] e s
  by false s = early_other rules other same e tables s
